-- A client stands as it should after a packet that it takes.
use Rattle.std.proofs.Common.{◌≡◌, ℕ, ◌+◌, ◌≤◌, Bool, true, false, List, length, Option, Some, None, is_some, Result, Ok, Err, refl, sym, ◌∙◌, ap, subst, arith, nat_lt}
use Rattle.std.specs.Prelude.{◌&&◌, ◌||◌, nat_le, if◌then◌else◌, is_none, ⊤}
use Rattle.std.proofs.lemmas.Bool.{leb-true}
use Rattle.ldc_link.specs.LinkState.{LinkState, cleared, is_up}
use Rattle.ldc_link.specs.Putting.{owes, owes_control}
use Rattle.ldc_link.specs.Taking.{Heard, LinkTake, TakesBytes, Unheard}
use Rattle.ldc_packet.specs.declared.packet.Subtype.{Subtype}
use Rattle.ldc_packet.specs.declared.packet.Subtype.TheVariants.{Ack, Nack}
use Rattle.vio_handshake.proofs.WellFormed.{taken_owes}
use Rattle.vio_handshake.specs.declared.handshake.Handshake.{Handshake}
use Rattle.vio_handshake.specs.declared.session.HsOut.TheVariants.{Nothing, Opens}
use Rattle.vio_handshake.specs.Rules.{Faults, Goes, GoesOpen, HandshakeTake, handshake_take, sid_fault}
use Rattle.vio_handshake.specs.State.{OwesWell}
use Rattle.vio_tag.specs.declared.cause.Cause.{Cause}
use Rattle.vio_tag.specs.declared.cause.Cause.TheVariants as the_cause
use Rattle.vio_tag.specs.declared.message.Message.{Message}
use Rattle.vio_tag.specs.declared.message.MsgBody.{MsgBody}
use Rattle.vio_tag.specs.declared.message.MsgBody.TheVariants.{DringData}
use Rattle.vio_tag.specs.declared.message.TagFault.{TagFault}
use Rattle.vio_tag.specs.Decoding.{Decodes}
use Rattle.vio_tag.specs.Form.{IsWellFormed}
use Rattle.lane_models.specs.ClientPutting.{is_announcing}
use Rattle.lane_models.specs.ClientRule.{is_urgent}
use Rattle.lane_models.specs.ClientState.{ClientSession, ClientState, slot_in}
use Rattle.lane_models.specs.ClientTaking.{ClientTake, ClientTakes, GoesOn, HearsLink, HearsWhole, Resets, acknowledged, by_handshake, hears_message, in_session, reads, sid_first, takes_ack}
use Rattle.lane_models.specs.Ranges.{is_other}
use Rattle.dring.specs.Slots.{range_length}
use Rattle.vdisk_client.proofs.Linking.{LinkTook, bytes_took}
use Rattle.vdisk_client.proofs.Handshaking.{HandshakeKeeps, TakeKeeps, begun_keeps, take_keeps}
use Rattle.vdisk_client.proofs.Standing.{not_true}
use Rattle.vdisk_client.proofs.Unmoved.{Fixed, fixed_of}
use Rattle.vdisk_client.specs.Standing.{CountsStand, IsQuiet, SessionStands, Stands}

-- nothing urgent: the handshake owes nothing
free_in : (control : Bool) (owed : Option Message) (opening : Bool) → (control || is_some owed || opening) ≡ false → owed ≡ None
free_in true owed opening is = absurd (cc is)
free_in false None opening is = refl
free_in false (Some message) opening is = absurd (cc is)

-- the link without the message that was heard
linked_stands : (s : ClientState) (m : LinkState) → Stands s → LinkTook s.link m → m.whole ≡ None → Stands (record s { link = m })
linked_stands s m stands took none = record {
  transcript = record {
    link = took.role ∙ stands.transcript.link;
    phase = took.phase;
    no_message = none;
    handshake = stands.transcript.handshake;
    begun = λ up. stands.transcript.begun (sym took.up ∙ up);
    opened = stands.transcript.opened;
    quiet = λ down.
        let quiet : IsQuiet s.link s.handshake s.session = stands.transcript.quiet (sym took.up ∙ down) in
        record { owed = quiet.owed; closed = quiet.closed; to_send = took.to_send ∙ quiet.to_send };
    holds = λ some. stands.transcript.holds (λ nothing. some (took.to_send ∙ nothing));
    announces = λ own nothing. stands.transcript.announces own (sym took.to_send ∙ nothing);
    owed = stands.transcript.owed;
  };
  requests = stands.requests;
  session = stands.session;
}

abbrev TakeStands : Fixed → ClientTake → Type 0
TakeStands fixed (GoesOn t) = Stands t × (fixed_of t ≡ fixed)
TakeStands fixed (Resets cause) = ⊤

if_stands : (fixed : Fixed) (b : Bool) (x y : ClientTake) → (b ≡ true → TakeStands fixed x) → (b ≡ false → TakeStands fixed y) → TakeStands fixed (if b then x else y)
if_stands fixed true x y first second = first refl
if_stands fixed false x y first second = second refl

both_second : (a b : Bool) → (a && b) ≡ true → b ≡ true
both_second true b is = is
both_second false b is = absurd (cc is)

module _ (s : ClientState) (stands : Stands s) (up : is_up s.link ≡ true) (free : s.handshake.owed ≡ None) where
  owed_not : is_some s.handshake.owed ≡ true → ⊥
  owed_not some = absurd (cc (some, ap is_some free))

  negotiated_stands : (h : Handshake) → HandshakeKeeps s.handshake h → OwesWell h → Stands (record s { handshake = h })
  negotiated_stands h keeps owed = record {
    transcript = record {
      link = stands.transcript.link;
      phase = stands.transcript.phase;
      no_message = stands.transcript.no_message;
      handshake = keeps.role ∙ stands.transcript.handshake;
      begun = λ up. begun_keeps s.handshake h keeps (stands.transcript.begun up);
      opened = λ some. keeps.opened (stands.transcript.opened some);
      quiet = λ down. absurd (not_true (is_up s.link) up down);
      holds = λ some whose. absurd (owed_not (stands.transcript.holds some whose));
      announces = stands.transcript.announces;
      owed = owed;
    };
    requests = stands.requests;
    session = stands.session;
  }

  by_take : (message : Message) (take : HandshakeTake) → IsWellFormed message → handshake_take s.handshake message ≡ take → TakeKeeps s.handshake take → TakeStands (fixed_of s) (by_handshake s take)
  by_take message (Goes h) form is keeps = (negotiated_stands h keeps (taken_owes Nothing s.handshake h message stands.transcript.owed form (sym is) (λ fault. absurd fault)), refl)
  by_take message (GoesOpen h) form is keeps = (negotiated_stands h keeps (taken_owes Opens s.handshake h message stands.transcript.owed form (sym is) (λ fault. absurd fault)), refl)
  by_take message (Faults cause) form is keeps = tt

  by_handshake_take : (message : Message) → IsWellFormed message → TakeStands (fixed_of s) (by_handshake s (handshake_take s.handshake message))
  by_handshake_take message form = by_take message (handshake_take s.handshake message) form refl (take_keeps s.handshake message stands.transcript.handshake)

  acked_stands : (session : ClientSession) (count : ℕ) → s.session ≡ Some session → session.acked + count ≤ session.announced → Stands (acknowledged s session count)
  acked_stands session count is within =
      let counts : CountsStand (length s.pending) s.next_id session = subst (λ (x : Option ClientSession). SessionStands (length s.pending) s.next_id x) is stands.session in
      record {
        transcript = record {
          link = stands.transcript.link;
          phase = stands.transcript.phase;
          no_message = stands.transcript.no_message;
          handshake = stands.transcript.handshake;
          begun = stands.transcript.begun;
          opened = λ _. stands.transcript.opened (ap is_some is);
          quiet = λ down. absurd (not_true (is_up s.link) up down);
          holds = λ some whose. absurd (owed_not (stands.transcript.holds some (ap is_announcing is ∙ whose)));
          announces = λ own. stands.transcript.announces (ap is_announcing is ∙ own);
          owed = stands.transcript.owed;
        };
        requests = stands.requests;
        session = record {
          completed = omega (arith, counts.completed);
          acked = within;
          announced = counts.announced;
          published = counts.published;
          ids = counts.ids;
          infos = counts.infos;
          announcing = counts.announcing;
        };
      }

  ack_stands : (session : ClientSession) (ident start end : ℕ) → s.session ≡ Some session → TakeStands (fixed_of s) (takes_ack s session ident start end)
  ack_stands session ident start end is =
      let count : ℕ = range_length s.slots start end in
      if_stands (fixed_of s) (is_other s.handshake.draft.ident_own ident) (Resets (the_cause.Ident s.handshake.draft.ident_own ident))
      (if is_other (slot_in s session.acked) start then Resets (the_cause.Slot (slot_in s session.acked) start)
      else if nat_lt end s.slots && nat_le (session.acked + count) session.announced then GoesOn (acknowledged s session count) else Resets (the_cause.RangeEnd end))
      (λ _. tt)
      (λ _. if_stands (fixed_of s) (is_other (slot_in s session.acked) start) (Resets (the_cause.Slot (slot_in s session.acked) start))
      (if nat_lt end s.slots && nat_le (session.acked + count) session.announced then GoesOn (acknowledged s session count) else Resets (the_cause.RangeEnd end))
      (λ _. tt)
      (λ _. if_stands (fixed_of s) (nat_lt end s.slots && nat_le (session.acked + count) session.announced) (GoesOn (acknowledged s session count)) (Resets (the_cause.RangeEnd end))
      (λ within. (acked_stands session count is (leb-true (session.acked + count) session.announced (both_second (nat_lt end s.slots) (nat_le (session.acked + count) session.announced) within)), refl))
      (λ _. tt)))

  session_stands : (session : ClientSession) (message : Message) (subtype : Subtype) (body : MsgBody) → IsWellFormed message → s.session ≡ Some session
      → TakeStands (fixed_of s) (in_session s session message subtype body)
  session_stands session message Ack (DringData seq ident start end state) form is = ack_stands session ident start end is
  session_stands session message Nack (DringData seq ident start end state) form is = tt
  session_stands session message subtype body form is = by_handshake_take message form

  sid_stands : (fault : Option Cause) (otherwise : ClientTake) → TakeStands (fixed_of s) otherwise → TakeStands (fixed_of s) (sid_first fault otherwise)
  sid_stands None otherwise stands = stands
  sid_stands (Some cause) otherwise stands = tt

  message_stands : (session : Option ClientSession) (message : Message) → IsWellFormed message → s.session ≡ session → TakeStands (fixed_of s) (hears_message s session message)
  message_stands None message form is = by_handshake_take message form
  message_stands (Some session) message form is =
      sid_stands (sid_fault s.handshake.sid message.sid) (in_session s session message message.subtype message.body)
      (session_stands session message message.subtype message.body form is)

  reads_stands : (bytes : List ℕ) (decoded : Result Message TagFault) → Decodes bytes decoded → TakeStands (fixed_of s) (reads s decoded)
  reads_stands bytes (Ok message) decodes = message_stands s.session message decodes.message.0 refl
  reads_stands bytes (Err fault) decodes = tt

-- a message that became whole came over a link that is up
whole_up : (b : Bool) (k m : LinkState) (bytes : List ℕ) → is_up k ≡ b → LinkTook k m → m.whole ≡ Some bytes → is_up k ≡ true
whole_up true k m bytes is took some = is
whole_up false k m bytes is took some = absurd (cc (some, took.whole is))

whole_stands : (s : ClientState) (m : LinkState) (w : Option (List ℕ)) (take : ClientTake) → Stands s → s.handshake.owed ≡ None → LinkTook s.link m → m.whole ≡ w
    → HearsWhole (record s { link = m }) w take → TakeStands (fixed_of s) take
whole_stands s m None take stands free took is hears = subst (TakeStands (fixed_of s)) (sym hears) (linked_stands s m stands took is, refl)
whole_stands s m (Some bytes) take stands free took is hears =
    let clear : LinkTook s.link (cleared m) = record { role = took.role; phase = took.phase; up = took.up; to_send = took.to_send; whole = λ _. refl } in
    let up : is_up m ≡ true = took.up ∙ whole_up (is_up s.link) s.link m bytes refl took is in
    subst (TakeStands (fixed_of s)) (sym hears.2)
    (reads_stands (record s { link = cleared m }) (linked_stands s (cleared m) stands clear refl) up free bytes hears.0 hears.1)

link_stands : (s : ClientState) (bytes : List ℕ) (link : LinkTake) (take : ClientTake) → Stands s → s.handshake.owed ≡ None → TakesBytes s.link bytes link → HearsLink s link take → TakeStands (fixed_of s) take
link_stands s bytes (Heard m) take stands free takes hears =
    whole_stands s m m.whole take stands free (bytes_took s.link m bytes stands.transcript.no_message stands.transcript.phase takes) refl hears
link_stands s bytes (Unheard cause) take stands free takes hears = subst (TakeStands (fixed_of s)) (sym hears) tt

pub takes_stands : (s t : ClientState) (bytes : List ℕ) → Stands s → is_urgent s ≡ false → ClientTakes s bytes (GoesOn t) → Stands t × (fixed_of t ≡ fixed_of s)
takes_stands s t bytes stands calm takes =
    link_stands s bytes takes.link (GoesOn t) stands
    (free_in (owes_control s.link) s.handshake.owed (is_none s.session && owes s.link) calm) takes.takes takes.hears
