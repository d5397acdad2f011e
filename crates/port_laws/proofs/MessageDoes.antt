-- What a message comes to that an end takes in session and doesn't reset itself for: each kind of it once, for all laws.
use Rattle.std.proofs.Common.{◌≡◌, ℕ, ◌+◌, ◌≤◌, Bool, true, false, Option, Some, None, List, refl, sym, arith}
use Rattle.std.specs.Prelude.{◌%◌, ◌<◌, ◌==◌, ◌&&◌, nat_le, nat_lt, if◌then◌else◌, ⊤}
use Rattle.std.proofs.lemmas.Bool.{and_parts, eqb-true, leb-true, ltb-true}
use Rattle.ldc_link.specs.declared.phase.Role.{Role}
use Rattle.ldc_link.specs.declared.phase.Role.TheVariants.{Initiator, Responder}
use Rattle.ldc_packet.specs.declared.packet.Subtype.{Subtype}
use Rattle.ldc_packet.specs.declared.packet.Subtype.TheVariants.{Ack, Info, Nack}
use Rattle.vio_handshake.specs.declared.handshake.Handshake.{Handshake}
use Rattle.vio_handshake.specs.declared.handshake.Phase.TheVariants.{Open}
use Rattle.vio_handshake.specs.Rules.{Faults, Goes, GoesOpen, HandshakeTake, handshake_take, is_declined, row}
use Rattle.vio_tag.specs.declared.cause.Cause.{Cause}
use Rattle.vio_tag.specs.declared.cause.Cause.TheVariants as the_cause
use Rattle.vio_tag.specs.declared.message.Message.{Message}
use Rattle.vio_tag.specs.declared.message.MsgBody.{MsgBody}
use Rattle.vio_tag.specs.declared.message.MsgBody.TheVariants.{DringData, Mcast}
use Rattle.lane_models.specs.Ranges.{is_other}
use Rattle.dring.specs.Slots.{range_length}
use Rattle.lane_models.specs.Standing.{is_open_in}
use Rattle.lane_models.proofs.Refuting.{false_true}
use Rattle.lane_models.specs.EndLog.{list_after}
use Rattle.lane_models.specs.Groups.{groups_after}
use Rattle.lane_models.specs.NetEndState.{GroupsReply, NetEndState, NetSession, with_session}
use Rattle.lane_models.specs.NetEndTaking.{GoesOn, NetTake, Resets, acknowledged, active, by_handshake, ends_outside, first_undone, freed, hears_message, in_session, refused, replying, sid_first, takes_ack, takes_done, takes_groups, takes_info, takes_range, told}
use Rattle.lane_models.proofs.EndStanding.{opened_phase}

-- an INFO that is the next
pub record IsNext (p : NetSession) (seq start : ℕ) : Type 0 where
  pub seq_is : p.seq ≡ seq
  pub place : p.place ≡ start

-- the list that comes of groups that a guest names, where one does, and the answer
abbrev pub reply_code : Option (List (List ℕ)) → Subtype
reply_code None = Nack
reply_code (Some behind) = Ack

pub record IsKept (known : List (List ℕ)) (set count : ℕ) (addresses groups : List (List ℕ)) (reply : GroupsReply) : Type 0 where
  pub groups_are : groups ≡ list_after (groups_after set count addresses known) known
  pub reply_is : reply ≡ record { subtype = reply_code (groups_after set count addresses known); set = set; count = count; addresses = addresses }

-- THE KINDS: an INFO of the peer's ring, an ACK of the own ring, groups that a guest names, the answer to groups, and what
-- the handshake declines
pub data MessageDoes (role : Role) (s : NetEndState) (p : NetSession) (memory : List ℕ) (subtype : Subtype) (b : MsgBody) (t : NetEndState) (new : List ℕ) : Type 0 where
  Asks : (seq ident start end state : ℕ) → subtype ≡ Info → b ≡ DringData seq ident start end state → IsNext p seq start → new ≡ memory
      → t ≡ with_session (active p seq start) s → MessageDoes role s p memory subtype b t new
  Acks : (seq ident start end state : ℕ) → subtype ≡ Ack → b ≡ DringData seq ident start end state → start ≡ p.seen % s.slots → end < s.slots
      → p.seen + range_length s.slots start end ≤ p.published → first_undone s.slots memory p.seen (range_length s.slots start end) ≡ None
      → new ≡ freed s.slots p.seen (range_length s.slots start end) memory
      → t ≡ acknowledged p (range_length s.slots start end) s → MessageDoes role s p memory subtype b t new
  Names : (set count : ℕ) (addresses groups : List (List ℕ)) (reply : GroupsReply) → IsKept s.groups set count addresses groups reply → role ≡ Responder → subtype ≡ Info → b ≡ Mcast set count addresses → new ≡ memory
      → t ≡ with_session (replying reply p) (record s { groups = groups }) → MessageDoes role s p memory subtype b t new
  Told : (set count : ℕ) (addresses : List (List ℕ)) → role ≡ Initiator → subtype ≡ Ack → b ≡ Mcast set count addresses → p.telling ≡ true → new ≡ memory
      → t ≡ with_session (record p { telling = false }) s → MessageDoes role s p memory subtype b t new
  Declines : (h : Handshake) → is_declined subtype b ≡ true → new ≡ memory → t ≡ record s { handshake = h } → MessageDoes role s p memory subtype b t new

-- it goes on so in the same session, or resets itself
pub record Does (role : Role) (s : NetEndState) (p : NetSession) (memory : List ℕ) (subtype : Subtype) (b : MsgBody) (t : NetEndState) (opens : Bool) (new : List ℕ) : Type 0 where
  pub shut : opens ≡ false
  pub does : MessageDoes role s p memory subtype b t new

abbrev pub TakeDoes : Role → NetEndState → NetSession → List ℕ → Subtype → MsgBody → NetTake → Type 0
TakeDoes role s p memory subtype b (GoesOn t opens new) = Does role s p memory subtype b t opens new
TakeDoes role s p memory subtype b (Resets cause) = ⊤

does_if : (role : Role) (s : NetEndState) (p : NetSession) (memory : List ℕ) (subtype : Subtype) (b : MsgBody) (test : Bool) (one other : NetTake)
    → (test ≡ true → TakeDoes role s p memory subtype b one) → (test ≡ false → TakeDoes role s p memory subtype b other) → TakeDoes role s p memory subtype b (if test then one else other)
does_if role s p memory subtype b test one other yes_ no_ = grind arith

-- what isn't another is the same
same_if : (a c : ℕ) (test : Bool) → (a == c) ≡ test → (if test then false else true) ≡ false → a ≡ c
same_if a c test is not = grind (arith, eqb-true, false_true)

pub not_other : (a c : ℕ) → is_other a c ≡ false → a ≡ c
not_other a c not = same_if a c (a == c) refl not

info_does : (role : Role) (s : NetEndState) (p : NetSession) (memory : List ℕ) (seq ident start end state : ℕ)
    → TakeDoes role s p memory Info (DringData seq ident start end state) (takes_info s p memory seq ident start end)
info_does role s p memory seq ident start end state =
    does_if role s p memory Info (DringData seq ident start end state) (is_other s.handshake.draft.ident_peer ident) (Resets (the_cause.Ident s.handshake.draft.ident_peer ident)) _ (λ c. tt) (λ c.
    does_if role s p memory Info (DringData seq ident start end state) (is_other p.seq seq) (Resets (the_cause.Seq p.seq seq)) _ (λ c. tt) (λ number.
    does_if role s p memory Info (DringData seq ident start end state) (is_other p.place start) (Resets (the_cause.Slot p.place start)) _ (λ c. tt) (λ place.
    does_if role s p memory Info (DringData seq ident start end state) (ends_outside s end) (Resets (the_cause.RangeEnd end)) (GoesOn (with_session (active p seq start) s) false memory) (λ c. tt) (λ c.
    record {
      shut = refl;
      does = Asks seq ident start end state refl refl (record { seq_is = not_other p.seq seq number; place = not_other p.place start place }) refl refl;
    }))))

done_does : (role : Role) (s : NetEndState) (p : NetSession) (memory : List ℕ) (seq ident start end state : ℕ) (fault : Option Cause)
    → first_undone s.slots memory p.seen (range_length s.slots start end) ≡ fault → start ≡ p.seen % s.slots → end < s.slots → p.seen + range_length s.slots start end ≤ p.published
    → TakeDoes role s p memory Ack (DringData seq ident start end state) (takes_done s p memory (range_length s.slots start end) fault)
done_does role s p memory seq ident start end state (Some cause) is begins inside within = tt
done_does role s p memory seq ident start end state None is begins inside within =
    record { shut = refl; does = Acks seq ident start end state refl refl begins inside within is refl refl }

ack_does : (role : Role) (s : NetEndState) (p : NetSession) (memory : List ℕ) (seq ident start end state : ℕ)
    → TakeDoes role s p memory Ack (DringData seq ident start end state) (takes_ack s p memory ident start end)
ack_does role s p memory seq ident start end state =
    does_if role s p memory Ack (DringData seq ident start end state) (is_other s.handshake.draft.ident_own ident) (Resets (the_cause.Ident s.handshake.draft.ident_own ident)) _ (λ c. tt) (λ c.
    does_if role s p memory Ack (DringData seq ident start end state) (is_other (p.seen % s.slots) start) (Resets (the_cause.Slot (p.seen % s.slots) start)) _ (λ c. tt) (λ begins.
    does_if role s p memory Ack (DringData seq ident start end state) (nat_lt end s.slots && nat_le (p.seen + range_length s.slots start end) p.published)
    (takes_range s p memory (range_length s.slots start end)) (Resets (the_cause.RangeEnd end))
    (λ both.
    let inside = and_parts (nat_lt end s.slots) (nat_le (p.seen + range_length s.slots start end) p.published) both in
    done_does role s p memory seq ident start end state (first_undone s.slots memory p.seen (range_length s.slots start end)) refl (sym (not_other (p.seen % s.slots) start begins))
    (ltb-true end s.slots inside.0) (leb-true (p.seen + range_length s.slots start end) p.published inside.1)) (λ c. tt)))

kept_by : (s : NetEndState) (set count : ℕ) (addresses : List (List ℕ)) (groups : Option (List (List ℕ))) → groups_after set count addresses s.groups ≡ groups
    → IsKept s.groups set count addresses (list_after groups s.groups) (record { subtype = reply_code groups; set = set; count = count; addresses = addresses })
kept_by s set count addresses groups is = grind arith

groups_do : (s : NetEndState) (p : NetSession) (memory : List ℕ) (set count : ℕ) (addresses : List (List ℕ)) (groups : Option (List (List ℕ))) → groups_after set count addresses s.groups ≡ groups
    → TakeDoes Responder s p memory Info (Mcast set count addresses) (takes_groups s p memory set count addresses groups)
groups_do s p memory set count addresses None is =
    record { shut = refl; does = Names set count addresses s.groups (record { subtype = Nack; set = set; count = count; addresses = addresses }) (kept_by s set count addresses None is) refl refl refl refl refl }
groups_do s p memory set count addresses (Some groups) is =
    record { shut = refl; does = Names set count addresses groups (record { subtype = Ack; set = set; count = count; addresses = addresses }) (kept_by s set count addresses (Some groups) is) refl refl refl refl refl }

told_does : (s : NetEndState) (p : NetSession) (memory : List ℕ) (set count : ℕ) (addresses : List (List ℕ)) → TakeDoes Initiator s p memory Ack (Mcast set count addresses) (told s p memory)
told_does s p memory set count addresses =
    does_if Initiator s p memory Ack (Mcast set count addresses) p.telling (GoesOn (with_session (record p { telling = false }) s) false memory) (Resets the_cause.Order)
    (λ telling. record { shut = refl; does = Told set count addresses refl refl refl telling refl refl }) (λ c. tt)

refused_does : (s : NetEndState) (p : NetSession) (memory : List ℕ) (set count : ℕ) (addresses : List (List ℕ)) → TakeDoes Initiator s p memory Nack (Mcast set count addresses) (refused p)
refused_does s p memory set count addresses = grind (arith, does_if)

-- AN OPEN HANDSHAKE takes what it declines alone
open_row : (role : Role) (h : Handshake) (subtype : Subtype) (sid : ℕ) (b : MsgBody) → row role Open h subtype sid b ≡ Faults the_cause.Order
open_row role h subtype sid b = grind arith

abbrev Declining : Subtype → MsgBody → HandshakeTake → Type 0
Declining subtype b (Goes h) = is_declined subtype b ≡ true
Declining subtype b (GoesOpen h) = ⊥
Declining subtype b (Faults cause) = ⊤

open_declines : (h : Handshake) (message : Message) → is_open_in h.phase ≡ true → Declining message.subtype message.body (handshake_take h message)
open_declines h message is = grind (arith, opened_phase, open_row)

handshake_does : (role : Role) (s : NetEndState) (p : NetSession) (memory : List ℕ) (subtype : Subtype) (b : MsgBody) (take : HandshakeTake) → Declining subtype b take
    → TakeDoes role s p memory subtype b (by_handshake role s memory take)
handshake_does role s p memory subtype b (Goes h) declines = record { shut = refl; does = Declines h declines refl refl }
handshake_does role s p memory subtype b (GoesOpen h) declines = absurd declines
handshake_does role s p memory subtype b (Faults cause) declines = tt

in_does : (role : Role) (s : NetEndState) (p : NetSession) (memory : List ℕ) (message : Message) (subtype : Subtype) (b : MsgBody)
    → Declining subtype b (handshake_take s.handshake message) → TakeDoes role s p memory subtype b (in_session role s p memory message subtype b)
in_does Initiator s p memory message Info (DringData seq ident start end state) declines = info_does Initiator s p memory seq ident start end state
in_does Responder s p memory message Info (DringData seq ident start end state) declines = info_does Responder s p memory seq ident start end state
in_does Initiator s p memory message Ack (DringData seq ident start end state) declines = ack_does Initiator s p memory seq ident start end state
in_does Responder s p memory message Ack (DringData seq ident start end state) declines = ack_does Responder s p memory seq ident start end state
in_does Initiator s p memory message Nack (DringData seq ident start end state) declines = tt
in_does Responder s p memory message Nack (DringData seq ident start end state) declines = tt
in_does Responder s p memory message Info (Mcast set count addresses) declines = groups_do s p memory set count addresses (groups_after set count addresses s.groups) refl
in_does Initiator s p memory message Ack (Mcast set count addresses) declines = told_does s p memory set count addresses
in_does Initiator s p memory message Nack (Mcast set count addresses) declines = refused_does s p memory set count addresses
in_does role s p memory message subtype b declines = handshake_does role s p memory subtype b (handshake_take s.handshake message) declines

sid_does : (role : Role) (s : NetEndState) (p : NetSession) (memory : List ℕ) (subtype : Subtype) (b : MsgBody) (fault : Option Cause) (rest : NetTake) → TakeDoes role s p memory subtype b rest
    → TakeDoes role s p memory subtype b (sid_first fault rest)
sid_does role s p memory subtype b fault rest does = grind arith

pub message_does : (role : Role) (s : NetEndState) (p : NetSession) (memory : List ℕ) (message : Message) → is_open_in s.handshake.phase ≡ true
    → TakeDoes role s p memory message.subtype message.body (hears_message role s memory (Some p) message)
message_does role s p memory message is = grind (arith, sid_does, in_does, open_declines)
