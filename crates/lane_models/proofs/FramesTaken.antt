-- What an end takes keeps the counts of its frames.
use Rattle.std.proofs.Common.{◌≡◌, ℕ, Bool, true, false, Option, Some, None, List, refl, sym, subst, arith}
use Rattle.std.specs.Prelude.{Result, if◌then◌else◌, ⊤}
use Rattle.std.proofs.lemmas.Bool.Decides.{nat_tests}
use Rattle.std.proofs.lemmas.List.{length-drop}
use Rattle.ldc_link.specs.declared.phase.Role.{Role}
use Rattle.ldc_link.specs.LinkState.{cleared}
use Rattle.ldc_link.specs.Taking.{Heard, LinkTake, Unheard}
use Rattle.ldc_packet.specs.declared.packet.Subtype.{Subtype}
use Rattle.vio_handshake.specs.Rules.{HandshakeTake}
use Rattle.vio_tag.specs.declared.cause.Cause.{Cause}
use Rattle.vio_tag.specs.declared.cause.Cause.TheVariants as the_cause
use Rattle.vio_tag.specs.declared.message.Message.{Message}
use Rattle.vio_tag.specs.declared.message.MsgBody.{MsgBody}
use Rattle.vio_tag.specs.declared.message.TagFault.{TagFault}
use Rattle.lane_models.specs.FramesStand.{CountsStand, FramesStand}
use Rattle.lane_models.specs.NetEndState.{NetEndState, NetSession, opened_net_end}
use Rattle.lane_models.specs.NetEndTaking.{GoesOn, HearsLink, HearsWhole, NetTake, NetTakes, Resets, by_handshake, in_session, reads, refused, risen, sid_first, takes_ack, takes_info, told}
use Rattle.lane_models.specs.RuleFacts.{IfOpen}
use Rattle.lane_models.proofs.Refuting.{false_true}

-- what a take leaves stands
abbrev TakeStands : NetTake → Type 0
TakeStands (GoesOn s opens memory) = FramesStand s
TakeStands (Resets cause) = ⊤

take_if : (b : Bool) (one other : NetTake) → (b ≡ true → TakeStands one) → (b ≡ false → TakeStands other) → TakeStands (if b then one else other)
take_if b one other yes_ no_ = grind arith

-- a session with nothing published
pub opened_stands : (s : NetEndState) → FramesStand s → FramesStand (opened_net_end s)
opened_stands s stands = grind (arith, false_true)

-- the end with another session, of the same counts
pub session_stands : (s : NetEndState) (p q : NetSession) → FramesStand s → s.session ≡ Some p → q.base ≡ p.base → q.published ≡ p.published → q.seen ≡ p.seen
    → q.infos ≡ p.infos → q.asking ≡ p.asking → CountsStand s q
session_stands s p q stands is base published seen infos asking = grind arith

-- the same, of an end that holds the same frames
pub with_stands : (s t : NetEndState) (p q : NetSession) → FramesStand s → s.session ≡ Some p → t.frames ≡ s.frames → t.next_id ≡ s.next_id → t.slots ≡ s.slots → t.session ≡ Some q
    → q.base ≡ p.base → q.published ≡ p.published → q.seen ≡ p.seen → q.infos ≡ p.infos → q.asking ≡ p.asking → FramesStand t
with_stands s t p q stands is frames next slots session base published seen infos asking = grind (arith, session_stands)

info_stands : (s : NetEndState) (p : NetSession) (memory : List ℕ) (seq ident start end : ℕ) → FramesStand s → s.session ≡ Some p → TakeStands (takes_info s p memory seq ident start end)
info_stands s p memory seq ident start end stands is = grind (arith, take_if, with_stands)

ack_stands : (s : NetEndState) (p : NetSession) (memory : List ℕ) (ident start end : ℕ) → FramesStand s → s.session ≡ Some p → TakeStands (takes_ack s p memory ident start end)
ack_stands s p memory ident start end stands is = grind (arith, take_if, false_true, length-drop, nat_tests)

told_stands : (s : NetEndState) (p : NetSession) (memory : List ℕ) → FramesStand s → s.session ≡ Some p → TakeStands (told s p memory)
told_stands s p memory stands is = grind (arith, take_if, with_stands)

refused_stands : (p : NetSession) → TakeStands (refused p)
refused_stands p = take_if p.telling (Resets the_cause.Refused) (Resets the_cause.Order) (λ b. tt) (λ b. tt)

-- a change of link and handshake
counts_with : (s t : NetEndState) → t.frames ≡ s.frames → t.next_id ≡ s.next_id → (session : Option NetSession) → IfOpen session (CountsStand s) → IfOpen session (CountsStand t)
counts_with s t frames next session counts = grind arith

pub stands_with : (s t : NetEndState) → FramesStand s → t.frames ≡ s.frames → t.next_id ≡ s.next_id → t.slots ≡ s.slots → t.session ≡ s.session → FramesStand t
stands_with s t stands frames next slots session = grind (arith, counts_with)

handshake_stands : (role : Role) (s : NetEndState) (memory : List ℕ) (take : HandshakeTake) → FramesStand s → TakeStands (by_handshake role s memory take)
handshake_stands role s memory take stands = grind (arith, stands_with, opened_stands)

in_stands : (role : Role) (s : NetEndState) (p : NetSession) (memory : List ℕ) (message : Message) (subtype : Subtype) (b : MsgBody) → FramesStand s → s.session ≡ Some p
    → TakeStands (in_session role s p memory message subtype b)
in_stands role s p memory message subtype b stands is =
    grind (arith, info_stands, ack_stands, with_stands, told_stands, refused_stands, handshake_stands)

or_stands : (fault : Option Cause) (rest : NetTake) → TakeStands rest → TakeStands (sid_first fault rest)
or_stands fault rest stands = grind arith

reads_stands : (role : Role) (s : NetEndState) (memory : List ℕ) (d : Result Message TagFault) → FramesStand s → TakeStands (reads role s memory d)
reads_stands role s memory d stands = grind (arith, handshake_stands, or_stands, in_stands)

whole_stands : (role : Role) (s : NetEndState) (memory : List ℕ) (whole : Option (List ℕ)) (take : NetTake) → FramesStand s → HearsWhole role s memory whole take → TakeStands take
whole_stands role s memory None take stands is = subst TakeStands (sym is) stands
whole_stands role s memory (Some bytes) take stands is =
    subst TakeStands (sym is.2)
    (reads_stands role (record s { link = cleared s.link }) memory is.0 (stands_with s (record s { link = cleared s.link }) stands refl refl refl refl))

link_stands : (role : Role) (s : NetEndState) (memory : List ℕ) (link : LinkTake) (take : NetTake) → FramesStand s → HearsLink role s memory link take → TakeStands take
link_stands role s memory (Heard k) take stands is =
    let t : NetEndState = record s { link = k; handshake = risen role s.link k s.handshake } in
    whole_stands role t memory k.whole take (stands_with s t stands refl refl refl refl) is
link_stands role s memory (Unheard cause) take stands is = subst TakeStands (sym is) tt

-- what an end goes on with stands
pub taken_stands : (role : Role) (s : NetEndState) (memory bytes : List ℕ) (t : NetEndState) (opens : Bool) (new : List ℕ) → FramesStand s
    → NetTakes role s memory bytes (GoesOn t opens new) → FramesStand t
taken_stands role s memory bytes t opens new stands takes = link_stands role s memory takes.link (GoesOn t opens new) stands takes.hears
