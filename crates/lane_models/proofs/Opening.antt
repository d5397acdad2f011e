-- How far an end has come in the handshake's order, as its link, its handshake and the message that it owes say: its turns are the lines of its row
-- up to where it stands, and what stands aside.
use Rattle.std.proofs.Common.{◌≡◌, ℕ, ◌%◌, Bool, true, false, ◌⊎◌, inl, inr, Option, Some, None, List, [], ◌∷◌, ◌++◌, drop, ap, ◌∙◌, arith}
use Rattle.std.specs.Prelude.{⊤}
use Rattle.ldc_link.specs.declared.phase.LinkPhase.{LinkPhase}
use Rattle.ldc_link.specs.declared.phase.LinkPhase.TheVariants as phase
use Rattle.ldc_link.specs.declared.phase.Role.{Role}
use Rattle.ldc_link.specs.declared.phase.Role.TheVariants.{Initiator, Responder}
use Rattle.ldc_link.specs.LinkState.{is_up}
use Rattle.ldc_packet.specs.declared.packet.Subtype.{Subtype}
use Rattle.ldc_packet.specs.declared.packet.Subtype.TheVariants.{Nack}
use Rattle.ldc_packet.specs.Spelling.{subtype_code}
use Rattle.ldc_queue.specs.Fragments.{fragment_at, is_part}
use Rattle.ldc_queue.specs.Transcript.{Heard, Said, Utterance}
use Rattle.vio_tag.specs.declared.message.Message.{Message}
use Rattle.vio_tag.specs.declared.message.MsgBody.{MsgBody}
use Rattle.vio_tag.specs.declared.message.MsgBody.TheVariants.{Plain}
use Rattle.vio_tag.specs.Spelling as message_at
use Rattle.vio_tag.specs.Spelling.{SpellsMessage, canonical, envelope_code}
use Rattle.vio_handshake.specs.declared.handshake.Handshake.{Handshake}
use Rattle.vio_handshake.specs.declared.handshake.Phase.{Phase}
use Rattle.vio_handshake.specs.declared.handshake.Phase.TheVariants.{Attributes, Down, Open, OwnReady, OwnRing, PeerReady, PeerReadyTaken, PeerRing, PeerRingTaken, Version}
use Rattle.lane_models.specs.HandshakeOrder.{ComesUpBelow, EndsAs, FollowsRow, Hears, HearsControl, RowLine, MayEnd, Meets, Says, SaysControl, opening_lines, row, sid_in_bytes}
use Rattle.lane_models.specs.Sayings.{half_heard, half_said}
use Rattle.lane_models.proofs.HandshakeCases.{NothingFollows}
use Rattle.lane_models.proofs.UtteranceCases.{EndsBy}
use Rattle.lane_models.specs.EndCore.{EndCore}

-- THE LINK: how many of the opening's lines are to come in a phase, and those that are met
abbrev pub link_left : LinkPhase → ℕ
link_left phase.OwesVersInfo = 11
link_left phase.AwaitsVersInfo = 11
link_left (phase.OwesVersNack major) = 11
link_left phase.AwaitsVersAck = 10
link_left phase.OwesVersAck = 10
link_left phase.OwesRts = 9
link_left phase.AwaitsRts = 9
link_left phase.AwaitsRtr = 8
link_left phase.OwesRtr = 8
link_left phase.OwesRdx = 7
link_left phase.AwaitsRdx = 7
link_left phase.Established = 6

abbrev pub link_met : Role → LinkPhase → List RowLine
link_met role ph = drop (link_left ph) (opening_lines role)

-- THE HANDSHAKE: the lines that are met once its own message of this phase is said
abbrev pub met : Bool → Role → Phase → List RowLine
met both Initiator Version = drop 5 (opening_lines Initiator)
met both Initiator Attributes = drop 3 (opening_lines Initiator)
met both Initiator OwnRing = drop 1 (opening_lines Initiator)
met both Initiator PeerRing = opening_lines Initiator
met both Initiator PeerRingTaken = drop 4 (row true Initiator)
met both Initiator OwnReady = drop 3 (row both Initiator)
met both Initiator PeerReady = drop 2 (row both Initiator)
met both Initiator PeerReadyTaken = row both Initiator
met both Responder Version = drop 6 (opening_lines Responder)
met both Responder Attributes = drop 4 (opening_lines Responder)
met both Responder PeerRing = drop 2 (opening_lines Responder)
met both Responder PeerRingTaken = opening_lines Responder
met both Responder OwnRing = drop 5 (row true Responder)
met both Responder PeerReady = drop 4 (row both Responder)
met both Responder PeerReadyTaken = drop 2 (row both Responder)
met both Responder OwnReady = drop 1 (row both Responder)
met both role _ = []

-- the phases before the session is open; some only where both ends have a ring
abbrev pub IsComing : Bool → Role → Phase → Type 0
IsComing both role Down = ⊥
IsComing both role Open = ⊥
IsComing both role PeerRingTaken = both ≡ true
IsComing both Initiator PeerRing = both ≡ true
IsComing both Responder OwnRing = both ≡ true
IsComing both role _ = ⊤

-- the message is the newest of these lines
abbrev pub IsNoPlain : MsgBody → Type 0
IsNoPlain (Plain envelope) = ⊥
IsNoPlain _ = ⊤

pub record IsLine (subtype envelope sid : ℕ) (message : Message) : Type 0 where
  pub of_subtype : subtype_code message.subtype ≡ subtype
  pub of_envelope : envelope_code message.body ≡ envelope
  pub of_sid : message.sid % 4294967296 ≡ sid
  pub named : IsNoPlain message.body

abbrev pub IsNext : List RowLine → ℕ → Message → Type 0
IsNext (Says subtype envelope ∷ lines) sid message = IsLine subtype envelope sid message
IsNext _ sid message = ⊥

-- what it owes is its own next line; or that is said, and it owes nothing but a refusal
pub record Owing (both : Bool) (role : Role) (p : Phase) (sid : ℕ) (owed : Option Message) (turns : List Utterance) : Type 0 where
  pub message : Message
  pub owed_is : owed ≡ Some message
  pub next : IsNext (met both role p) sid message
  pub follows : FollowsRow role sid (drop 1 (met both role p)) turns

abbrev pub IsRefusal : Option Message → Type 0
IsRefusal None = ⊤
IsRefusal (Some message) = message.subtype ≡ Nack

pub record Waiting (both : Bool) (role : Role) (p : Phase) (sid : ℕ) (owed : Option Message) (turns : List Utterance) : Type 0 where
  pub waits : NothingFollows p
  pub refusal : IsRefusal owed
  pub follows : FollowsRow role sid (met both role p) turns

pub record Comes (both : Bool) (role : Role) (p : Phase) (sid : ℕ) (owed : Option Message) (turns : List Utterance) : Type 0 where
  pub coming : IsComing both role p
  pub stage : Owing both role p sid owed turns ⊎ Waiting both role p sid owed turns

abbrev pub sid_of : Handshake → ℕ
sid_of h = h.draft.sid % 4294967296

abbrev pub HandshakeComes : Role → Handshake → List Utterance → Type 0
HandshakeComes role h turns = Comes h.offer.both_rings role h.phase (sid_of h) h.owed turns

-- AN END: before its link is up no message was said or heard, so any sid serves; once its session is open its order is behind it
pub record EndCame (role : Role) (c : EndCore) (turns : List Utterance) : Type 0 where
  pub below : is_up c.link ≡ false → FollowsRow role 0 (link_met role c.link.phase) turns
  pub above : is_up c.link ≡ true → (c.handshake.phase ≡ Open) ⊎ HandshakeComes role c.handshake turns

-- WHERE NO MESSAGE is among the lines any sid serves
abbrev HasNoMessage : List RowLine → Type 0
HasNoMessage [] = ⊤
HasNoMessage (SaysControl packet ∷ lines) = HasNoMessage lines
HasNoMessage (HearsControl packet ∷ lines) = HasNoMessage lines
HasNoMessage (Says subtype envelope ∷ lines) = ⊥
HasNoMessage (Hears subtype envelope ∷ lines) = ⊥

any_line : (one other : ℕ) (line : RowLine) (lines : List RowLine) (turn : Utterance) (turns : List Utterance) → HasNoMessage (line ∷ lines) → Meets one line turn turns → Meets other line turn turns
any_line one other line lines turn turns none meets = grind arith

other_lines : (line : RowLine) (lines : List RowLine) → HasNoMessage (line ∷ lines) → HasNoMessage lines
other_lines line lines none = grind arith

pub any_sid : (role : Role) (one other : ℕ) (lines : List RowLine) (turns : List Utterance) → HasNoMessage lines → FollowsRow role one lines turns → FollowsRow role other lines turns
any_sid role one other [] [] none follows = tt
any_sid role one other (line ∷ lines) [] none follows = absurd follows
any_sid role one other [] (turn ∷ turns) none follows = (follows.0, any_sid role one other [] turns none follows.1)
any_sid role one other (line ∷ lines) (turn ∷ turns) none (inl meets) =
    inl (any_line one other line lines turn turns none meets.0, any_sid role one other lines turns (other_lines line lines none) meets.1)
any_sid role one other (line ∷ lines) (turn ∷ turns) none (inr aside) = inr (aside.0, any_sid role one other (line ∷ lines) turns none aside.1)

-- WHAT STANDS ASIDE: what is heard once the link is up, a control packet that is heard, and a part that ends no message or a refusal
pub hears_aside : (role : Role) (sid : ℕ) (lines : List RowLine) (turns : List Utterance) (bytes : List ℕ) → ComesUpBelow lines → FollowsRow role sid lines turns
    → FollowsRow role sid lines (Heard bytes ∷ turns)
hears_aside role sid [] turns bytes up follows = absurd up
hears_aside role sid (line ∷ lines) turns bytes up follows = inr (inl up, follows)

pub hears_control : (role : Role) (sid : ℕ) (lines : List RowLine) (turns : List Utterance) (bytes : List ℕ) → is_part bytes ≡ false → FollowsRow role sid lines turns
    → FollowsRow role sid lines (Heard bytes ∷ turns)
hears_control role sid [] turns bytes is follows = (inr is, follows)
hears_control role sid (line ∷ lines) turns bytes is follows = inr (inr is, follows)

pub says_aside : (role : Role) (sid : ℕ) (lines : List RowLine) (turns : List Utterance) (bytes : List ℕ) → ComesUpBelow lines → is_part bytes ≡ true
    → MayEnd (fragment_at bytes).stop (half_said turns ++ (fragment_at bytes).bytes) → FollowsRow role sid lines turns → FollowsRow role sid lines (Said bytes ∷ turns)
says_aside role sid [] turns bytes up is may follows = absurd up
says_aside role sid (line ∷ lines) turns bytes up is may follows = inr (inl (up, is, may), follows)

pub comes_up : (both : Bool) (role : Role) (p : Phase) → IsComing both role p → ComesUpBelow (met both role p)
comes_up both role p coming = grind arith

-- A MESSAGE THAT IS HEARD, by its fields
pub heard_line : (turns : List Utterance) (packet bytes : List ℕ) (d : Message) (s : Subtype) (b : MsgBody) (sid : ℕ) → EndsBy turns packet bytes → SpellsMessage bytes d
    → d ≡ record { subtype = s; sid = d.sid; body = b } → d.sid % 4294967296 ≡ sid → EndsAs (subtype_code s) (envelope_code b) sid (half_heard turns) packet
heard_line turns packet bytes d s b sid ends spells is same = grind arith

-- ONE THAT IS SAID
pub record SaysWhole (turns : List Utterance) (packet : List ℕ) (message : Message) : Type 0 where
  pub part : is_part packet ≡ true
  pub stop : (fragment_at packet).stop ≡ true
  pub whole : half_said turns ++ (fragment_at packet).bytes ≡ canonical message

sid_reads : (m : Message) → sid_in_bytes (canonical m) ≡ m.sid % 4294967296
unfolding canonical
sid_reads m = omega arith

subtype_reads : (m : Message) → message_at.subtype_at (canonical m) ≡ subtype_code m.subtype
unfolding canonical
subtype_reads m = omega arith

envelope_reads : (s : Subtype) (n : ℕ) (b : MsgBody) → IsNoPlain b → message_at.envelope_at (canonical (record { subtype = s; sid = n; body = b })) ≡ envelope_code b
unfolding canonical
envelope_reads s n b not = grind arith

pub said_line : (turns : List Utterance) (packet : List ℕ) (message : Message) (subtype envelope sid : ℕ) → SaysWhole turns packet message → IsLine subtype envelope sid message
    → EndsAs subtype envelope sid (half_said turns) packet
said_line turns packet message subtype envelope sid says is = record {
  part = says.part;
  stop = says.stop;
  of_subtype = ap message_at.subtype_at says.whole ∙ subtype_reads message ∙ is.of_subtype;
  of_envelope = ap message_at.envelope_at says.whole ∙ envelope_reads message.subtype message.sid message.body is.named ∙ is.of_envelope;
  of_sid = ap sid_in_bytes says.whole ∙ sid_reads message ∙ is.of_sid;
}

next_said : (role : Role) (lines : List RowLine) (sid : ℕ) (message : Message) (turns : List Utterance) (packet : List ℕ) → SaysWhole turns packet message → IsNext lines sid message
    → FollowsRow role sid (drop 1 lines) turns → FollowsRow role sid lines (Said packet ∷ turns)
next_said role (Says subtype envelope ∷ lines) sid message turns packet says next follows = inl (said_line turns packet message subtype envelope sid says next, follows)
next_said role _ sid message turns packet says next follows = absurd next

may_end : (b : Bool) (bytes : List ℕ) (message : Message) → b ≡ true → bytes ≡ canonical message → message.subtype ≡ Nack → MayEnd b bytes
may_end true bytes message stop is refusal = ap message_at.subtype_at is ∙ subtype_reads message ∙ ap subtype_code refusal
may_end false bytes message stop is refusal = absurd (cc stop)

-- either way the row is followed up to this message, or up to where it was
pub last_follows : (both : Bool) (role : Role) (p : Phase) (sid : ℕ) (owed : Option Message) (message : Message) (turns : List Utterance) (packet : List ℕ) → owed ≡ Some message
    → SaysWhole turns packet message → Comes both role p sid owed turns → FollowsRow role sid (met both role p) (Said packet ∷ turns)
last_follows both role p sid owed message turns packet is says comes = grind (arith, next_said, says_aside, may_end)
