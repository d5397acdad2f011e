-- What is found in a slot of the peer's ring, copy by copy.
use Rattle.std.proofs.Common.{◌≡◌, ◌≢◌, ℕ, ◌*◌, Bool, true, false, List, Option, Some, None, slice_index, refl, sym, ◌∙◌, ap, subst, arith}
use Rattle.std.specs.Prelude.{◌==◌, if◌then◌else◌}
use Rattle.std.proofs.lemmas.Bool.Decides.{nat_tests}
use Rattle.cookie_copy.specs.declared.fault.Access.TheVariants.{Read, Write}
use Rattle.cookie_copy.specs.declared.fault.CopyFault.{CopyFault}
use Rattle.cookie_copy.specs.Faults.{first_copy_fault}
use Rattle.cookie_copy.specs.Moved.{moved_in, moved_out}
use Rattle.cookie_copy.specs.Reach.{Reach}
use Rattle.dring.specs.declared.peer.PeerRing.{PeerRing}
use Rattle.dring.specs.declared.peer.RingFault.{RingFault}
use Rattle.dring.specs.declared.peer.RingFault.TheVariants as ring_fault
use Rattle.dring.specs.Reaching.{RefusesFetch, ring_cookies}
use Rattle.dring.specs.Slots.{ready_state}
use Rattle.vio_tag.specs.declared.cause.Cause.TheVariants as the_cause
use Rattle.vnet_msg.specs.declared.desc.NetDesc.{NetDesc}
use Rattle.vnet_msg.specs.Descriptor.{net_desc_of}
use Rattle.vnet_msg.specs.Frames.{frame_in, header, holds_frame, moved_size}
use Rattle.lane_models.specs.Fetching.{IsFrame, NotReady, Refuses, copied, copy_refused, data_cookies, described, fetched, frame_fault, mark_fault, marked, read, slot_read, slots_cookies}
use Rattle.lane_models.specs.NetEndState.{NetEndState, peer_ring}
use Rattle.port_frames.specs.Fetches.{found_of}

not_ready : (n : ℕ) → n ≢ ready_state → (n == ready_state) ≡ false
not_ready n other = grind (arith, nat_tests, other)

module _ (s : NetEndState) (reach : Reach) (slot : ℕ) (ring : PeerRing) (same : ring ≡ peer_ring s) where
  fault_is : (fault : Option CopyFault) → first_copy_fault reach.both Read reach.table (ring_cookies ring) (64 * slot) 64 ≡ fault
      → fetched s reach slot ≡ slot_read s reach slot fault
  fault_is fault is =
      ap (slot_read s reach slot) (subst (λ (r : PeerRing). first_copy_fault reach.both Read reach.table (ring_cookies r) (64 * slot) 64 ≡ fault) same is)

  bytes_are : (bytes : List ℕ) → bytes ≡ moved_in reach.table reach.memory (ring_cookies ring) (64 * slot) 64
      → slot_read s reach slot None ≡ read s reach slot bytes
  bytes_are bytes is =
      ap (read s reach slot) (sym (subst (λ (r : PeerRing). bytes ≡ moved_in reach.table reach.memory (ring_cookies r) (64 * slot) 64) same is))

  pub refused : (fault : RingFault)
      → RefusesFetch (first_copy_fault reach.both Read reach.table (ring_cookies ring) (64 * slot) 64) (moved_in reach.table reach.memory (ring_cookies ring) (64 * slot) 64) fault
      → fetched s reach slot ≡ found_of fault
  refused (ring_fault.Copy why) is = fault_is (Some why) is
  refused (ring_fault.NotReady state) (none, is, other) =
      let bytes : List ℕ = moved_in reach.table reach.memory (ring_cookies ring) (64 * slot) 64 in
      fault_is None none ∙ bytes_are bytes refl
      ∙ ap (λ (b : Bool). if b then described s reach slot (net_desc_of bytes) else NotReady (slice_index bytes 0))
      (not_ready (slice_index bytes 0) (λ ready. other (is ∙ ready)))
      ∙ ap NotReady (sym is)

  pub ready : (bytes : List ℕ) (desc : NetDesc) → first_copy_fault reach.both Read reach.table (ring_cookies ring) (64 * slot) 64 ≡ None
      → bytes ≡ moved_in reach.table reach.memory (ring_cookies ring) (64 * slot) 64 → slice_index bytes 0 ≡ ready_state → desc ≡ net_desc_of bytes
      → fetched s reach slot ≡ described s reach slot desc
  ready bytes desc none is state desc_is =
      fault_is None none ∙ bytes_are bytes is
      ∙ ap (λ (n : ℕ). if n == ready_state then described s reach slot (net_desc_of bytes) else NotReady n) state
      ∙ ap (described s reach slot) (sym desc_is)

-- the descriptor, the frame's copy and the mark
module _ (s : NetEndState) (reach : Reach) (slot : ℕ) (desc : NetDesc) where
  pub not_a_frame : holds_frame desc ≡ false → described s reach slot desc ≡ Refuses (the_cause.Frame desc.size desc.count)
  not_a_frame is = ap (λ (b : Bool). if b then copied s reach slot desc (frame_fault reach desc) else Refuses (the_cause.Frame desc.size desc.count)) is

  a_frame : (fault : Option CopyFault) → holds_frame desc ≡ true → frame_fault reach desc ≡ fault → described s reach slot desc ≡ copied s reach slot desc fault
  a_frame fault is fault_is =
      ap (λ (b : Bool). if b then copied s reach slot desc (frame_fault reach desc) else Refuses (the_cause.Frame desc.size desc.count)) is
      ∙ ap (copied s reach slot desc) fault_is

  pub not_copied : (why : CopyFault) → holds_frame desc ≡ true → frame_fault reach desc ≡ Some why → described s reach slot desc ≡ copy_refused why
  not_copied why is fault = a_frame (Some why) is fault

  module _ (ring : PeerRing) (same : ring ≡ peer_ring s) (frame : List ℕ) (holds : holds_frame desc ≡ true) (none : frame_fault reach desc ≡ None)
      (is : frame ≡ frame_in desc.size (moved_in reach.table reach.memory (data_cookies desc) 0 (moved_size desc.size))) where
    copied_is : (fault : Option CopyFault) → first_copy_fault reach.both Write reach.table (ring_cookies ring) (64 * slot) 8 ≡ fault
        → described s reach slot desc ≡ marked s reach slot desc frame fault
    copied_is fault fault_is =
        a_frame None holds none
        ∙ ap (λ (f : List ℕ). marked s reach slot desc f (mark_fault s reach slot)) (sym is)
        ∙ ap (marked s reach slot desc frame)
        (subst (λ (r : PeerRing). first_copy_fault reach.both Write reach.table (ring_cookies r) (64 * slot) 8 ≡ fault) same fault_is)

    pub not_marked : (why : CopyFault) → first_copy_fault reach.both Write reach.table (ring_cookies ring) (64 * slot) 8 ≡ Some why
        → described s reach slot desc ≡ copy_refused why
    not_marked why fault = copied_is (Some why) fault

    pub frame_taken : (new bytes : List ℕ) → first_copy_fault reach.both Write reach.table (ring_cookies ring) (64 * slot) 8 ≡ None
        → bytes ≡ header 4 desc.ack → new ≡ moved_out reach.table reach.memory (ring_cookies ring) (64 * slot) bytes
        → described s reach slot desc ≡ IsFrame frame new
    frame_taken new bytes fault head written =
        copied_is None fault
        ∙ ap (IsFrame frame)
        (sym (written ∙ ap (λ (r : PeerRing). moved_out reach.table reach.memory (ring_cookies r) (64 * slot) bytes) same
        ∙ ap (moved_out reach.table reach.memory (slots_cookies s) (64 * slot)) head))
