-- Where nobody forged, what an end's link doesn't take is a gap, and a packet was lost since the queues were last emptied.
use Rattle.std.proofs.Common.{◌≡◌, Bool, ℕ, ◌<◌, ◌≤◌, true, false, Some, List, [], ◌∷◌, ◌++◌, length, sym, ap, ◌∙◌, subst, arith, inl, inr}
use Rattle.std.specs.Prelude.{slice_get}
use Rattle.ldc_link.specs.declared.phase.LinkPhase.TheVariants as phase
use Rattle.ldc_link.specs.declared.phase.Role.{Role}
use Rattle.ldc_link.specs.declared.phase.Role.TheVariants.{Initiator, Responder}
use Rattle.ldc_link.specs.Following.{Follows}
use Rattle.ldc_link.specs.LinkState.{LinkState, first_phase}
use Rattle.ldc_link.specs.Taking.{Heard, TakesBytes, Unheard}
use Rattle.ldc_queue.specs.declared.end.ChannelState.{ChannelState}
use Rattle.ldc_queue.specs.declared.end.ChannelState.TheVariants.{Up}
use Rattle.ldc_queue.specs.Fragments.{fragments_in}
use Rattle.ldc_queue.specs.Messages.{AllMayCome}
use Rattle.ldc_queue.specs.Numbered.{is_numbered, numbered}
use Rattle.ldc_queue.specs.OneStream.{OneWay, live}
use Rattle.ldc_queue.specs.Transcript.{Utterance, numbered_heard, numbered_said}
use Rattle.vio_tag.specs.declared.cause.Cause.{Cause}
use Rattle.lane_models.proofs.Conversations.{first_waits}
use Rattle.lane_models.proofs.FewLost.{below_turn}
use Rattle.lane_models.proofs.LinkPlaced.{TheOne, agreed_taken, answer_taken, first_numbered, mode_taken, nothing_first, offer_taken, the_one}
use Rattle.lane_models.proofs.TakenInOrder.{InOrder, part_early, part_turned, ready_turned, turned_own}
use Rattle.lane_models.proofs.NextPacket.{WasSaid, each_in, ready_in, was_said}
use Rattle.lane_models.proofs.PartsSaid.{PartsSaid}
use Rattle.lane_models.specs.Conversing.{Converse}
use Rattle.lane_models.specs.LinkPlaces.{BothUp, EachPart, HeardInPlace, LinkPlace, LinksAt, ModeAnswered, ModePut, ReadyFirst, ReadyPut, SaidInPlace, VersionAnswered, VersionPut, WaitsAt, live_phase, mode_answer, mode_offer, phase_at, version_answer, version_offer}
use Rattle.lane_models.specs.Resetting.{IsGapBehindLoss}
use Rattle.lane_models.specs.Sides.{Sides, other}

-- what is known of the way to an end that is up
record WayTo (lossy : Bool) (k : LinkState) (turns : List Utterance) (said waiting : List (List ℕ)) (packet : List ℕ) : Type 0 where
  lost : ℕ
  follows : Follows k turns
  first : slice_get waiting 0 ≡ Some packet
  way : OneWay said (numbered_heard turns) (numbered waiting) lost
  few : lost < 4294967296
  whole : lossy ≡ false → lost ≡ 0
  parts : AllMayCome [] (fragments_in said)

-- RDX goes before all parts
early_turned : (k : LinkState) (turns : List Utterance) (said : List (List ℕ)) (packet : List ℕ) → k.phase ≡ phase.AwaitsRdx → numbered_heard turns ≡ [] → ReadyFirst said
    → WasSaid said (numbered_heard turns) packet → InOrder k said (numbered_heard turns) packet
early_turned k turns said packet at none ready was =
    elim (ready_in (numbered_heard turns ++ was.gone) packet was.rest (subst ReadyFirst was.is ready)) [
      | inl one ↦ ready_turned k said (numbered_heard turns) packet at one.0
      | inr part ↦ part_early k said (numbered_heard turns) packet none ready part
    ]

front_none : (heard gone : List (List ℕ)) → 1 ≤ length heard → heard ++ gone ≡ [] → ⊥
front_none [] gone some none = omega (arith, some)
front_none (one ∷ heard) gone some none = cc none

up_turned : (k : LinkState) (turns : List Utterance) (said : List (List ℕ)) (packet : List ℕ) → k.phase ≡ phase.Established → 1 ≤ length (numbered_heard turns) → ReadyFirst said → Follows k turns
    → AllMayCome [] (fragments_in said) → WasSaid said (numbered_heard turns) packet → InOrder k said (numbered_heard turns) packet
up_turned k turns said packet at some ready follows all was = grind (arith, ready_in, front_none, part_turned)

-- a packet with a number is a gap, or taken
numbered_refuses : (lossy : Bool) (k : LinkState) (turns : List Utterance) (said waiting : List (List ℕ)) (packet : List ℕ) (cause : Cause) → WayTo lossy k turns said waiting packet
    → is_numbered packet ≡ true → TakesBytes k packet (Unheard cause) → (WasSaid said (numbered_heard turns) packet → InOrder k said (numbered_heard turns) packet) → IsGapBehindLoss lossy cause
numbered_refuses lossy k turns said waiting packet cause to has takes turned = search (first_waits, turned_own, was_said)

-- BY THE PLACE of the links: one without a number is always taken
at_place : (role : Role) (place : LinkPlace) (lossy : Bool) (k : LinkState) (turns : List Utterance) (said waiting : List (List ℕ)) (packet : List ℕ) (cause : Cause) → k.phase ≡ phase_at role place
    → WaitsAt role lossy place waiting → SaidInPlace (other role) place said → HeardInPlace role place (numbered_heard turns) → WayTo lossy k turns said waiting packet
    → TakesBytes k packet (Unheard cause) → IsGapBehindLoss lossy cause
at_place Initiator VersionAnswered lossy k turns said waiting packet cause at waits peer_said heard to takes =
    let one : TheOne version_answer waiting packet = the_one lossy version_answer waiting packet waits to.first in
    let never : Unheard cause ≡ Heard (record k { phase = phase.OwesRts }) = answer_taken k (Unheard cause) packet at one.is takes in absurd (cc never)
at_place Initiator ModeAnswered lossy k turns said waiting packet cause at waits peer_said heard to takes =
    let one : TheOne mode_answer waiting packet = the_one lossy mode_answer waiting packet waits to.first in
    let never : Unheard cause ≡ Heard (record k { phase = phase.OwesRdx }) = agreed_taken k (Unheard cause) packet at one.is takes in absurd (cc never)
at_place Initiator BothUp lossy k turns said waiting packet cause at waits peer_said heard to takes =
    numbered_refuses lossy k turns said waiting packet cause to (first_numbered waiting packet waits to.first) takes
    (λ was. part_turned k turns said packet at to.follows to.parts (each_in (numbered_heard turns ++ was.gone) packet was.rest (subst EachPart was.is peer_said)))
at_place Responder VersionPut lossy k turns said waiting packet cause at waits peer_said heard to takes =
    let one : TheOne version_offer waiting packet = the_one lossy version_offer waiting packet waits to.first in
    let never : Unheard cause ≡ Heard (record k { phase = phase.OwesVersAck }) = offer_taken k (Unheard cause) packet at one.is takes in absurd (cc never)
at_place Responder ModePut lossy k turns said waiting packet cause at waits peer_said heard to takes =
    let one : TheOne mode_offer waiting packet = the_one lossy mode_offer waiting packet waits to.first in
    let never : Unheard cause ≡ Heard (record k { phase = phase.OwesRtr }) = mode_taken k (Unheard cause) packet at one.is takes in absurd (cc never)
at_place Responder ReadyPut lossy k turns said waiting packet cause at waits peer_said heard to takes =
    numbered_refuses lossy k turns said waiting packet cause to (first_numbered waiting packet waits to.first) takes (λ was. early_turned k turns said packet at heard peer_said was)
at_place Responder BothUp lossy k turns said waiting packet cause at waits peer_said heard to takes =
    numbered_refuses lossy k turns said waiting packet cause to (first_numbered waiting packet waits to.first) takes
    (λ was. up_turned k turns said packet at heard peer_said to.follows to.parts was)
at_place Initiator _ lossy k turns said waiting packet cause at waits peer_said heard to takes = absurd (nothing_first waiting packet waits to.first)
at_place Responder _ lossy k turns said waiting packet cause at waits peer_said heard to takes = absurd (nothing_first waiting packet waits to.first)

live_parts : (x : ChannelState) (turns : List Utterance) → PartsSaid turns → AllMayCome [] (fragments_in (live x (numbered_said turns)))
live_parts x turns all = grind arith

-- A LINK that doesn't take the packet that waits first for it
pub link_refuses : (role : Role) (s : Sides) (packet : List ℕ) (cause : Cause) → Converse role s → LinksAt role s → Follows s.mine.core.link s.mine.utterances → PartsSaid s.theirs.utterances
    → s.mine.state ≡ Up → slice_get s.mine.waiting 0 ≡ Some packet → TakesBytes s.mine.core.link packet (Unheard cause) → IsGapBehindLoss s.lossy cause
link_refuses role s packet cause converse links follows parts up first takes =
    let said = live s.theirs.state (numbered_said s.theirs.utterances) in
    at_place role links.place s.lossy s.mine.core.link s.mine.utterances said s.mine.waiting packet cause
    (sym (ap (λ (x : ChannelState). live_phase x (first_phase role) s.mine.core.link.phase) up) ∙ links.mine) links.to_mine links.said_theirs
    (subst (λ (x : ChannelState). HeardInPlace role links.place (live x (numbered_heard s.mine.utterances))) up links.heard_mine)
    (record {
      lost = converse.lost_mine;
      follows = follows;
      first = first;
      way = subst (λ (x : ChannelState). OneWay said (live x (numbered_heard s.mine.utterances)) (numbered s.mine.waiting) converse.lost_mine) up converse.stream.to_a;
      few = below_turn _ _ _ _ _ _ converse.to_mine.few;
      whole = λ full. (converse.whole full).0;
      parts = live_parts s.theirs.state s.theirs.utterances parts;
    }) takes
