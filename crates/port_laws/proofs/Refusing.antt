-- A message of a session is refused in no field that the end at the other side filled so.
use Rattle.std.proofs.Common.{◌≡◌, ℕ, zero, suc, ◌+◌, ◌-◌, ◌%◌, ◌<◌, ◌≤◌, Bool, true, false, Option, Some, None, List, ◌∷◌, refl, sym, ap, ◌∙◌, arith, nat_le}
use Rattle.std.specs.Prelude.{◌==◌, ◌&&◌, not, if◌then◌else◌}
use Rattle.std.proofs.lemmas.Bool.{and_from, eq-eqb, le-leb, lt-ltb}
use Rattle.ldc_link.specs.declared.phase.Role.{Role}
use Rattle.ldc_link.specs.declared.phase.Role.TheVariants.{Initiator, Responder}
use Rattle.ldc_packet.specs.declared.packet.Subtype.{Subtype}
use Rattle.ldc_packet.specs.declared.packet.Subtype.TheVariants.{Ack, Info, Nack}
use Rattle.vio_bytes.specs.Place.{number_at}
use Rattle.vio_tag.specs.declared.cause.Cause.{Cause}
use Rattle.vio_tag.specs.declared.cause.Cause.TheVariants as the_cause
use Rattle.vio_tag.specs.declared.message.Message.{Message}
use Rattle.vio_tag.specs.declared.message.MsgBody.{MsgBody}
use Rattle.vio_tag.specs.declared.message.MsgBody.TheVariants.{DringData, Mcast}
use Rattle.vio_tag.specs.Spelling.{SpellsMessage, envelope_at, subtype_at}
use Rattle.lane_models.specs.Messages.{end_slot_of, seq_of, start_slot_of}
use Rattle.lane_models.specs.Ranges.{is_other, wrapped}
use Rattle.lane_models.specs.EndStep.{IsOfSession}
use Rattle.lane_models.specs.Sides.{other}
use Rattle.lane_models.specs.EndLog.{SessionLog, range_of}
use Rattle.lane_models.specs.Groups.{groups_after}
use Rattle.lane_models.specs.NetEndState.{NetEndState, NetSession, with_session}
use Rattle.lane_models.specs.NetEndTaking.{GoesOn, NetTake, Resets, first_undone, in_session, slot_state, takes_ack, takes_groups, takes_info}
use Rattle.port_laws.specs.RingHolds.{RingHolds}
use Rattle.port_laws.specs.WaysStand.{Way}
use Rattle.port_laws.proofs.Outbox.{MessageFits}
use Rattle.port_laws.proofs.RingMoves.{held_state, some_frame}

-- WHAT COMES of the way
pub record InfoComes (v : SessionLog) (slots : ℕ) (m : List ℕ) : Type 0 where
  pub seq : seq_of m ≡ wrapped (v.asked + 1)
  pub start : start_slot_of m ≡ v.taken % slots
  pub end : end_slot_of m ≡ 0xffffffff

pub info_comes : (slots : ℕ) (w v : SessionLog) (m : List ℕ) (rest acks : List (List ℕ)) → Way slots w v (m ∷ rest) acks → InfoComes v slots m
info_comes slots w v m rest acks given = grind arith

pub record AckComes (v w : SessionLog) (slots : ℕ) (m : List ℕ) : Type 0 where
  pub start : start_slot_of m ≡ v.seen % slots
  pub end : end_slot_of m ≡ (w.taken - 1) % slots
  pub some : v.seen < w.taken

pub ack_comes : (slots : ℕ) (v w : SessionLog) (m : List ℕ) (infos rest : List (List ℕ)) → Way slots v w infos (m ∷ rest) → AckComes v w slots m
ack_comes slots v w m infos rest given = grind arith

-- THE SLOTS that an ACK names are DONE
all_done : (slots : ℕ) (memory : List ℕ) (number count : ℕ) → ((j : ℕ) → number ≤ j → j < number + count → slot_state (j % slots) memory ≡ 4) → first_undone slots memory number count ≡ None
all_done slots memory number zero done = refl
all_done slots memory number (suc count) done =
    let here : (slot_state (number % slots) memory == 4) ≡ true = eq-eqb (slot_state (number % slots) memory) 4 (done number (omega arith) (omega arith)) in
    ap (λ (b : Bool). if b then first_undone slots memory (number + 1) count else Some (the_cause.NotDone (number % slots) (slot_state (number % slots) memory))) here
    ∙ all_done slots memory (number + 1) count (λ j from below. done j (omega (arith, from)) (omega (arith, below)))

pub ring_done : (slots seen taken published : ℕ) (frames : List (List ℕ)) (memory : List ℕ) (count : ℕ) → RingHolds slots seen taken published frames memory → seen + count ≡ taken
    → first_undone slots memory seen count ≡ None
ring_done slots seen taken published frames memory count ring is =
    let each : (j : ℕ) → seen ≤ j → j < seen + count → slot_state (j % slots) memory ≡ 4 = λ j from below.
    let less : j < taken = omega (arith, below, is) in
    let first = ring.taken_first in
    let lap = ring.lap in
    let there = some_frame frames (j - seen) (omega (arith, from, less, first, ring.held)) in
    held_state memory (j % slots) 4 there.0 ((ring.each j from (omega (arith, less, first, lap))).done less there.0 there.1) in
    all_done slots memory seen count each

-- TESTS that pass
past : (b : Bool) (x y : NetTake) → b ≡ false → (if b then x else y) ≡ y
past b x y is = grind arith

at_once : (b : Bool) (x y : NetTake) → b ≡ true → (if b then x else y) ≡ x
at_once b x y is = grind arith

same_is : (expected found : ℕ) → expected ≡ found → is_other expected found ≡ false
same_is expected found same = ap (λ (b : Bool). if b then false else true) (eq-eqb expected found same)

no_end : (slots end : ℕ) → end ≡ 0xffffffff → (not (end == 0xffffffff) && nat_le slots end) ≡ false
no_end slots end is = ap (λ (b : Bool). not b && nat_le slots end) (eq-eqb end 0xffffffff is)

never : (take answer : NetTake) (cause : Cause) → take ≡ answer → ((c : Cause) → answer ≡ Resets c → ⊥) → take ≡ Resets cause → ⊥
never take answer cause is not_ resets = not_ cause (sym is ∙ resets)

goes : (t : NetEndState) (opens : Bool) (memory : List ℕ) (c : Cause) → GoesOn t opens memory ≡ Resets c → ⊥
goes t opens memory c is = cc is

-- what an end in session expects of a message
pub record Expects (role : Role) (s : NetEndState) (p : NetSession) (memory : List ℕ) (sid : ℕ) (m : List ℕ) : Type 0 where
  pub fits : MessageFits (other role) sid m
  pub own : s.handshake.draft.ident_own ≡ sid
  pub peer : s.handshake.draft.ident_peer ≡ sid
  pub info : envelope_at m ≡ 0x0042 → subtype_at m ≡ 1 → (p.seq ≡ seq_of m) × (p.place ≡ start_slot_of m) × (end_slot_of m ≡ 0xffffffff)
  pub ack : envelope_at m ≡ 0x0042 → subtype_at m ≡ 2 → (p.seen % s.slots ≡ start_slot_of m) × (end_slot_of m < s.slots) × (p.seen + range_of s.slots m ≤ p.published)
      × (first_undone s.slots memory p.seen (range_of s.slots m) ≡ None)
  pub telling : envelope_at m ≡ 0x0101 → role ≡ Initiator → p.telling ≡ true

-- A MESSAGE, by its bytes
module _ (role : Role) (s : NetEndState) (p : NetSession) (memory : List ℕ) (sid : ℕ) (m : List ℕ) (expects : Expects role s p memory sid m) where
  info_taken : (seq ident start end state : ℕ) (cause : Cause) → envelope_at m ≡ 0x0042 → subtype_at m ≡ 1 → (seq ≡ seq_of m) × (start ≡ start_slot_of m) × (end ≡ end_slot_of m)
      → takes_info s p memory seq ident start end ≡ Resets cause → ident ≡ sid → ⊥
  info_taken seq ident start end state cause range info reads_ resets named =
      grind (arith, never, past, same_is, no_end, goes)

  ack_taken : (ident start end : ℕ) (cause : Cause) → envelope_at m ≡ 0x0042 → subtype_at m ≡ 2 → (start ≡ start_slot_of m) × (end ≡ end_slot_of m) → takes_ack s p memory ident start end ≡ Resets cause
      → ident ≡ sid → ⊥
  ack_taken ident start end cause range ack reads_ resets named =
      grind (arith, never, past, same_is, at_once, nat_le, and_from, lt-ltb, le-leb, goes)

  not_nack : envelope_at m ≡ 0x0042 → subtype_at m ≡ 4 → ⊥
  not_nack range nack = grind arith

  ident_named : (ident : ℕ) → envelope_at m ≡ 0x0042 → ident ≡ number_at 8 16 m → ident ≡ sid
  ident_named ident range is = is ∙ (expects.fits.range range).ident

groups_go : (s : NetEndState) (p : NetSession) (memory : List ℕ) (set count : ℕ) (addresses : List (List ℕ)) (groups : Option (List (List ℕ))) (cause : Cause)
    → takes_groups s p memory set count addresses groups ≡ Resets cause → ⊥
groups_go s p memory set count addresses groups cause is = grind arith

told_goes : (s : NetEndState) (p : NetSession) (memory : List ℕ) (b : Bool) (cause : Cause) → b ≡ true
    → (if b then GoesOn (with_session (record p { telling = false }) s) false memory else Resets the_cause.Order) ≡ Resets cause → ⊥
told_goes s p memory b cause is resets = grind arith

wrong_code : {X : Type 0} (a b c : ℕ) → a ≡ b → a ≡ c → (b ≡ c → ⊥) → X
wrong_code {X} a b c one two not_ = absurd (not_ (sym one ∙ two))

pub taken_in_session : (role : Role) (s : NetEndState) (p : NetSession) (memory : List ℕ) (sid : ℕ) (m : List ℕ) (message : Message) (subtype : Subtype) (b : MsgBody) (cause : Cause)
    → Expects role s p memory sid m → IsOfSession b → SpellsMessage m message → message.subtype ≡ subtype → message.body ≡ b → in_session role s p memory message subtype b ≡ Resets cause → ⊥
taken_in_session role s p memory sid m message subtype b cause expects of spells subtype_is body_is = by_kind role subtype b expects of (spells_as subtype b subtype_is body_is)
  where
    spells_as : (x : Subtype) (y : MsgBody) → message.subtype ≡ x → message.body ≡ y → SpellsMessage m (record { subtype = x; sid = message.sid; body = y })
    spells_as x y one two = grind arith

    by_kind : (r : Role) (x : Subtype) (y : MsgBody) → Expects r s p memory sid m → IsOfSession y → SpellsMessage m (record { subtype = x; sid = message.sid; body = y })
        → in_session r s p memory message x y ≡ Resets cause → ⊥
    by_kind Initiator Info (DringData seq ident start end state) ex is sp resets =
        info_taken Initiator s p memory sid m ex seq ident start end state cause sp.envelope sp.subtype (sp.body.0, sp.body.2, sp.body.3) resets (ident_named Initiator s p memory sid m ex ident sp.envelope sp.body.1)
    by_kind Responder Info (DringData seq ident start end state) ex is sp resets =
        info_taken Responder s p memory sid m ex seq ident start end state cause sp.envelope sp.subtype (sp.body.0, sp.body.2, sp.body.3) resets (ident_named Responder s p memory sid m ex ident sp.envelope sp.body.1)
    by_kind Initiator Ack (DringData seq ident start end state) ex is sp resets =
        ack_taken Initiator s p memory sid m ex ident start end cause sp.envelope sp.subtype (sp.body.2, sp.body.3) resets (ident_named Initiator s p memory sid m ex ident sp.envelope sp.body.1)
    by_kind Responder Ack (DringData seq ident start end state) ex is sp resets =
        ack_taken Responder s p memory sid m ex ident start end cause sp.envelope sp.subtype (sp.body.2, sp.body.3) resets (ident_named Responder s p memory sid m ex ident sp.envelope sp.body.1)
    by_kind Initiator Nack (DringData seq ident start end state) ex is sp resets = not_nack Initiator s p memory sid m ex sp.envelope sp.subtype
    by_kind Responder Nack (DringData seq ident start end state) ex is sp resets = not_nack Responder s p memory sid m ex sp.envelope sp.subtype
    by_kind Responder Info (Mcast set count addresses) ex is sp resets = groups_go s p memory set count addresses (groups_after set count addresses s.groups) cause resets
    by_kind Initiator Ack (Mcast set count addresses) ex is sp resets = told_goes s p memory p.telling cause (ex.telling sp.envelope refl) resets
    by_kind Initiator Info (Mcast set count addresses) ex is sp resets = wrong_code (subtype_at m) 2 1 (ex.fits.groups sp.envelope).subtype sp.subtype (λ same. cc same)
    by_kind Initiator Nack (Mcast set count addresses) ex is sp resets = wrong_code (subtype_at m) 2 4 (ex.fits.groups sp.envelope).subtype sp.subtype (λ same. cc same)
    by_kind Responder Ack (Mcast set count addresses) ex is sp resets = wrong_code (subtype_at m) 1 2 (ex.fits.groups sp.envelope).subtype sp.subtype (λ same. cc same)
    by_kind Responder Nack (Mcast set count addresses) ex is sp resets = wrong_code (subtype_at m) 1 4 (ex.fits.groups sp.envelope).subtype sp.subtype (λ same. cc same)
    by_kind r x _ ex is sp resets = absurd is
