-- What a packet comes to where nobody forged: its link refuses it for a gap behind a loss, or hears it, and a message that becomes whole by it is
-- the next that the other end said.
use Rattle.std.proofs.Common.{◌≡◌, ℕ, Bool, Option, Some, List, [], ◌∷◌, ◌++◌, sym, ap, ◌∙◌, subst, arith}
use Rattle.std.specs.Prelude.{slice_get}
use Rattle.ldc_link.specs.declared.phase.Role.{Role}
use Rattle.ldc_link.specs.Taking.{Heard, LinkTake, TakesBytes, Unheard}
use Rattle.ldc_queue.specs.declared.end.ChannelState.{ChannelState}
use Rattle.ldc_queue.specs.declared.end.ChannelState.TheVariants.{Up}
use Rattle.ldc_queue.specs.OneStream.{IsFront}
use Rattle.ldc_queue.specs.Transcript.{Heard as Heard_, Utterance}
use Rattle.vio_handshake.specs.declared.session.Offer.{Offer}
use Rattle.vio_tag.specs.declared.cause.Cause.{Cause}
use Rattle.lane_models.specs.Sayings.{heard, said}
use Rattle.lane_models.specs.WireAt.{IsOwnReset}
use Rattle.lane_models.specs.WireLog.{WireLog}
use Rattle.lane_models.proofs.ConversingRuns.{HeardFrom, hears_next}
use Rattle.lane_models.proofs.EndCases.{link_hears}
use Rattle.lane_models.proofs.HandshakesPlaced.{Meets}
use Rattle.lane_models.proofs.Lifting.{BothStand}
use Rattle.lane_models.proofs.LinkRefuses.{link_refuses}
use Rattle.lane_models.proofs.PartsSaid.{PartsSaid}
use Rattle.lane_models.proofs.UtteranceCases.{with_whole}
use Rattle.lane_models.specs.Resetting.{IsGapBehindLoss}
use Rattle.lane_models.specs.Sides.{Sides}

-- THE NEXT MESSAGE: the other end is up, and said it after all that this end heard
pub record NextHeard (mine theirs : List Utterance) (peer : ChannelState) (message : List ℕ) : Type 0 where
  pub up : peer ≡ Up
  pub front : IsFront (heard mine ++ message ∷ []) (said theirs)

not_none : (messages : List (List ℕ)) (message : List ℕ) → messages ++ message ∷ [] ≡ [] → ⊥
not_none [] message is = cc is
not_none (one ∷ messages) message is = cc is

peer_up : (peer : ChannelState) (messages : List (List ℕ)) (message : List ℕ) → ((peer ≡ Up → ⊥) → messages ++ message ∷ [] ≡ []) → peer ≡ Up
peer_up peer messages message none = grind (arith, not_none)

next_of : (s : Sides) (packet message : List ℕ) (messages : List (List ℕ)) → HeardFrom s (Heard_ packet ∷ s.mine.utterances) → heard (Heard_ packet ∷ s.mine.utterances) ≡ messages
    → messages ≡ heard s.mine.utterances ++ message ∷ [] → NextHeard s.mine.utterances s.theirs.utterances s.theirs.state message
next_of s packet message messages from is more = record {
  up = peer_up s.theirs.state (heard s.mine.utterances) message (λ not. sym (is ∙ more) ∙ from.none not);
  front = subst (λ (xs : List (List ℕ)). IsFront xs (said s.theirs.utterances)) (is ∙ more) from.front;
}

abbrev pub ComesTo : Sides → LinkTake → Type 0
ComesTo s (Unheard why) = IsGapBehindLoss s.lossy why
ComesTo s (Heard k) = (message : List ℕ) → k.whole ≡ Some message → NextHeard s.mine.utterances s.theirs.utterances s.theirs.state message

pub comes_to : (asks answers : Offer) (role : Role) (s : Sides) (packet : List ℕ) (take : LinkTake) → BothStand role s → Meets asks answers role s → PartsSaid s.theirs.utterances → s.mine.state ≡ Up
    → slice_get s.mine.waiting 0 ≡ Some packet → TakesBytes s.mine.core.link packet take → ComesTo s take
comes_to asks answers role s packet (Unheard why) stand meets parts up first takes =
    link_refuses role s packet why meets.converse meets.links stand.mine.link.follows parts up first takes
comes_to asks answers role s packet (Heard k) stand meets parts up first takes = λ message is.
    next_of s packet message (with_whole k.whole (heard s.mine.utterances)) (hears_next role s packet k meets.converse up first stand.mine.link.follows takes)
    (link_hears s.mine.core.link k s.mine.utterances packet stand.mine.link.seen stand.mine.link.follows takes).on.messages
    (ap (λ (w : Option (List ℕ)). with_whole w (heard s.mine.utterances)) is)

pub own_gap : (w : WireLog) (lossy : Bool) (cause : Cause) → w.lossy ≡ lossy → IsGapBehindLoss lossy cause → IsOwnReset w cause
own_gap w lossy cause is gap = record { expected = gap.expected; found = gap.found; gap = gap.gap; lossy = is ∙ gap.lossy_is }
