-- What fetching and finishing a descriptor are as steps.
use Rattle.std.proofs.Common.{◌≡◌, ℕ, ◌-◌, ◌*◌, ◌%◌, List, slice_index, Option, Some, None, Ok, Err, inr, refl, sym, ap, ◌∙◌, subst, arith, add-zero}
use Rattle.std.specs.Prelude.{◌==◌}
use Rattle.cookie_copy.specs.declared.fault.Access.TheVariants.{Read, Write}
use Rattle.cookie_copy.specs.declared.fault.CopyFault.{CopyFault}
use Rattle.cookie_copy.specs.Faults.{first_copy_fault}
use Rattle.cookie_copy.specs.Moved.{moved_in, moved_out}
use Rattle.dring.specs.declared.peer.PeerRing.{PeerRing}
use Rattle.dring.specs.Reaching.{ring_cookies}
use Rattle.dring.specs.Slots.{ready_state}
use Rattle.ldc_queue.specs.ChannelView.{ChannelView}
use Rattle.map_table.specs.declared.table.Entry.{Entry}
use Rattle.vio_tag.specs.declared.cause.Cause.{Cause}
use Rattle.vio_tag.specs.declared.cause.Cause.TheVariants as the_cause
use Rattle.lane_models.specs.ServerRule.{Fetches, ServerRule, server_rule, serves}
use Rattle.lane_models.specs.ServerState.{Progress, ServerSession, ServerState, Work, joined_server, peer_ring}
use Rattle.lane_models.specs.ServerStep.{ServerFails, WorkFails}
use Rattle.cookie_copy.specs.Reach.{Reach, copy_number}
use Rattle.lane_models.specs.ServerWork.{CanFetch, EndFails, FetchFails, header_of, slot_at, slot_fetched, with_word, word_fault}
use Rattle.vdisk_server.specs.declared.answers.ServerOut.{ServerOut}
use Rattle.vdisk_server.specs.declared.answers.ServerOut.TheVariants as out
use Rattle.descriptor_work.specs.Calling.{reach_over}
use Rattle.vdisk_server.specs.Answering.{StepsIn, sees}
use Rattle.vdisk_server.specs.Pieces.{EndedFor, Fetched, IsEnding}
use Rattle.vdisk_server.specs.Rules.{begun_work, one_fetched, one_finished, work_begun, work_ended}

-- the slot of a number
pub slot_is : (n slot known agreed : ℕ) → known ≡ agreed → slot ≡ (n - 0) % known → slot ≡ n % agreed
slot_is n slot known agreed same is =
    let none : n - 0 ≡ n = omega arith in
    is ∙ ap (λ (k : ℕ). k % known) none ∙ ap (λ (slots : ℕ). n % slots) same

-- at the front of a slot
front_fault : (s : ServerState) (reach : Reach) (slot : ℕ) (ring : PeerRing) (fault : Option CopyFault) → ring ≡ peer_ring s
    → first_copy_fault reach.both Write reach.table (ring_cookies ring) (128 * slot) 8 ≡ fault → word_fault s reach slot 0 ≡ fault
front_fault s reach slot ring fault same is =
    ap (λ (at : ℕ). first_copy_fault reach.both Write reach.table (ring_cookies (peer_ring s)) at 8) (add-zero (128 * slot))
    ∙ subst (λ (r : PeerRing). first_copy_fault reach.both Write reach.table (ring_cookies r) (128 * slot) 8 ≡ fault) same is

front_written : (s : ServerState) (reach : Reach) (slot : ℕ) (ring : PeerRing) (bytes header new : List ℕ) (state : ℕ) → ring ≡ peer_ring s → header ≡ header_of state bytes
    → new ≡ moved_out reach.table reach.memory (ring_cookies ring) (128 * slot) header → new ≡ with_word s reach slot 0 (header_of state bytes)
front_written s reach slot ring bytes header new state same head is =
    is ∙ ap (λ (r : PeerRing). moved_out reach.table reach.memory (ring_cookies r) (128 * slot) header) same
    ∙ ap (λ (at : ℕ). moved_out reach.table reach.memory (ring_cookies (peer_ring s)) at header) (sym (add-zero (128 * slot)))
    ∙ ap (λ (word : List ℕ). with_word s reach slot 0 word) head

can_fetch : (s : ServerState) (reach : Reach) (slot : ℕ) (ring : PeerRing) (fetched : List ℕ) → ring ≡ peer_ring s
    → first_copy_fault reach.both Read reach.table (ring_cookies ring) (128 * slot) 128 ≡ None
    → fetched ≡ moved_in reach.table reach.memory (ring_cookies ring) (128 * slot) 128 → slice_index fetched 0 ≡ ready_state
    → CanFetch s reach slot × (fetched ≡ slot_fetched s reach slot)
can_fetch s reach slot ring fetched same fault is ready =
    let bytes : fetched ≡ slot_fetched s reach slot =
    is ∙ ap (λ (r : PeerRing). moved_in reach.table reach.memory (ring_cookies r) (128 * slot) 128) same in
    let state : slice_index (slot_fetched s reach slot) 0 ≡ ready_state = subst (λ (xs : List ℕ). slice_index xs 0 ≡ ready_state) bytes ready in (
      (
        subst (λ (r : PeerRing). first_copy_fault reach.both Read reach.table (ring_cookies r) (128 * slot) 128 ≡ None) same fault,
        ap (λ (n : ℕ). n == ready_state) state,
      ),
      bytes,
    )

pub fetch_marked : (s : ServerState) (reach : Reach) (slot : ℕ) (ring : PeerRing) (fetched bytes header new : List ℕ) → ring ≡ peer_ring s
    → first_copy_fault reach.both Read reach.table (ring_cookies ring) (128 * slot) 128 ≡ None
    → fetched ≡ moved_in reach.table reach.memory (ring_cookies ring) (128 * slot) 128 → slice_index fetched 0 ≡ ready_state
    → bytes ≡ fetched → header ≡ header_of 3 bytes
    → first_copy_fault reach.both Write reach.table (ring_cookies ring) (128 * slot) 8 ≡ None
    → new ≡ moved_out reach.table reach.memory (ring_cookies ring) (128 * slot) header → Fetched s reach slot bytes new
fetch_marked s reach slot ring fetched bytes header new same fault is ready kept head marked written =
    let can : CanFetch s reach slot × (fetched ≡ slot_fetched s reach slot) = can_fetch s reach slot ring fetched same fault is ready in
    record {
      fetched = can.0;
      marked = front_fault s reach slot ring None same marked;
      bytes_are = kept ∙ can.1;
      marked_is = front_written s reach slot ring bytes header new 3 same head written;
    }

pub fetch_not_marked : (s : ServerState) (reach : Reach) (slot number : ℕ) (ring : PeerRing) (fetched : List ℕ) (why : CopyFault) → ring ≡ peer_ring s
    → first_copy_fault reach.both Read reach.table (ring_cookies ring) (128 * slot) 128 ≡ None
    → fetched ≡ moved_in reach.table reach.memory (ring_cookies ring) (128 * slot) 128 → slice_index fetched 0 ≡ ready_state
    → first_copy_fault reach.both Write reach.table (ring_cookies ring) (128 * slot) 8 ≡ Some why → number ≡ copy_number why
    → FetchFails s reach slot (the_cause.Copy number)
fetch_not_marked s reach slot number ring fetched why same fault is ready marked numbered =
    inr (why, (can_fetch s reach slot ring fetched same fault is ready).0, front_fault s reach slot ring (Some why) same marked, ap the_cause.Copy numbered)

-- THE STEPS
pub fetch_step : (s : ServerState) (c : ChannelView) (table : List (Option Entry)) (memory new : List ℕ) (session : ServerSession) (slot : ℕ) (bytes : List ℕ) (t : ServerState)
    → server_rule s (sees c) ≡ Fetches session → s.session ≡ Some session → slot ≡ slot_at s session.descs → Fetched s (reach_over c table memory) slot bytes new
    → t ≡ work_begun s bytes → StepsIn s c table memory (out.Desc slot bytes) t new
fetch_step s c table memory new session slot bytes t rule known at fetched is = record {
  leaves = tt;
  step = (
    record {
      session = session;
      rule = rule;
      slot_is = at;
      fetched = fetched.fetched;
      marked = fetched.marked;
      bytes_are = fetched.bytes_are;
      is = is ∙ ap (λ (k : Option ServerSession). record s { session = one_fetched k; work = Some (begun_work s.blocks bytes) }) known;
      marked_is = fetched.marked_is;
    },
    refl,
  );
}

resets : (s : ServerState) (c : ChannelView) (table : List (Option Entry)) (memory new : List ℕ) (cause : Cause) (answer : ServerOut) (t : ServerState)
    → ServerFails (server_rule s (sees c)) s (reach_over c table memory) cause None new → answer ≡ out.Reset cause None → t ≡ joined_server s
    → StepsIn s c table memory answer t new
resets s c table memory new cause answer t fails is state =
    subst (λ (a : ServerOut). StepsIn s c table memory a t new) (sym is) (record { leaves = tt; step = (fails, refl, state, refl) })

pub fetch_resets : (s : ServerState) (c : ChannelView) (table : List (Option Entry)) (memory new : List ℕ) (session : ServerSession) (slot : ℕ) (cause : Cause) (answer : ServerOut) (t : ServerState)
    → server_rule s (sees c) ≡ Fetches session → slot ≡ slot_at s session.descs
    → FetchFails s (reach_over c table memory) slot cause × (new ≡ memory) → answer ≡ out.Reset cause None → t ≡ joined_server s
    → StepsIn s c table memory answer t new
fetch_resets s c table memory new session slot cause answer t rule at fails is state =
    resets s c table memory new cause answer t
    (subst (λ (r : ServerRule). ServerFails r s (reach_over c table memory) cause None new) (sym rule)
    (refl, subst (λ (k : ℕ). FetchFails s (reach_over c table memory) k cause) at fails.0, fails.1))
    is state

pub finish_step : (s : ServerState) (c : ChannelView) (table : List (Option Entry)) (memory new : List ℕ) (session : ServerSession) (slot status : ℕ) (work : Option Work)
    → server_rule s (sees c) ≡ serves session work → slot ≡ slot_at s session.finished → IsEnding work status
    → EndedFor {U = Unit {0}} work (Ok tt) s (reach_over c table memory) slot status new → (t : ServerState) → s.session ≡ Some session → t ≡ work_ended s
    → StepsIn s c table memory (out.Finished slot status) t new
finish_step s c table memory new session slot status None rule at ends ended t known is = absurd ends
finish_step s c table memory new session slot status (Some work) rule at ends ended t known is = record {
  leaves = tt;
  step = (
    record {
      session = session;
      work = work;
      rule = rule;
      ends = ends;
      slot_is = at;
      status_written = ended.status_written;
      done_written = ended.done_written;
      is = is ∙ ap (λ (k : Option ServerSession). record s { session = one_finished k; work = None }) known;
      written_is = ended.written_is;
    },
    refl,
  );
}

pub finish_resets : (s : ServerState) (c : ChannelView) (table : List (Option Entry)) (memory new : List ℕ) (session : ServerSession) (slot status : ℕ) (work : Option Work)
    (cause : Cause) (answer : ServerOut) (t : ServerState)
    → server_rule s (sees c) ≡ serves session work → slot ≡ slot_at s session.finished → IsEnding work status
    → EndedFor {U = Unit {0}} work (Err cause) s (reach_over c table memory) slot status new → answer ≡ out.Reset cause None → t ≡ joined_server s
    → StepsIn s c table memory answer t new
finish_resets s c table memory new session slot status None cause answer t rule at ends ended is state = absurd ends
finish_resets s c table memory new session slot status (Some work) cause answer t rule at ends ended is state =
    resets s c table memory new cause answer t
    (subst (λ (r : ServerRule). ServerFails r s (reach_over c table memory) cause None new) (sym rule) (
      refl,
      subst (λ (p : Progress). WorkFails p s session work (reach_over c table memory) cause new) (sym ends)
          (subst (λ (k : ℕ). EndFails s (reach_over c table memory) k work status cause new) at ended),
    ))
    is state
