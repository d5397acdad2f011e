-- The attributes that two handshakes say are of the smaller minor.
use Rattle.std.proofs.Common.{◌≡◌, Bool, List, sym, refl, subst, ℕ, min}
use Rattle.std.specs.Prelude.{IfSome}
use Rattle.ldc_link.specs.declared.phase.Role.TheVariants.{Initiator, Responder}
use Rattle.runs.specs.Run.{Run}
use Rattle.vio_handshake.specs.Attributes.{answered_attributes, said_attributes}
use Rattle.vio_handshake.specs.Offers.{Match}
use Rattle.vio_handshake.specs.Pairing.{Act, Pair, PairStep, SayOfMinor, met, owed_attributes}
use Rattle.vio_handshake.specs.declared.handshake.Handshake.{Handshake}
use Rattle.vio_handshake.proofs.Agreeing.{InTranscript, deal_of, met_run}
use Rattle.vio_handshake.proofs.Places.{Place, AttributesSaid, AttributesAnswered, Deal, message_at, minor_of, next, owed_by, owner, handshake_at}
use Rattle.vio_handshake.proofs.Transcribing.{Ahead, Level, MineOne, MineTwo, TheirsOne, TheirsTwo, Scene}

-- at each place
asked_at : (d : Deal) (n : Place) → IfSome (owed_attributes (owed_by Initiator (owner n) (message_at d n))) (λ (bytes : List ℕ). bytes ≡ said_attributes d.asks (minor_of d))
asked_at d AttributesSaid = refl
asked_at d n = tt

answered_at : (d : Deal) (n : Place)
    → IfSome (owed_attributes (owed_by Responder (owner n) (message_at d n))) (λ (bytes : List ℕ). bytes ≡ answered_attributes d.answers (minor_of d) (said_attributes d.asks (minor_of d)))
answered_at d AttributesAnswered = refl
answered_at d n = tt

-- where both ends stand
record Stand (both : Bool) (d : Deal) (s : Pair) : Type 0 where
  mine : Place
  theirs : Place
  here : s.initiator ≡ handshake_at both d Initiator mine
  there : s.responder ≡ handshake_at both d Responder theirs

stands : (both : Bool) (d : Deal) (count : ℕ) (s : Pair) → InTranscript both d count s → Stand both d s
stands both d count s transcript =
    elim transcript.ahead as (λ (a : Ahead). Scene both d Initiator transcript.place a s.initiator s.responder s.to_initiator s.to_responder → Stand both d s) [
      | Level ↦ λ scene. record { mine = transcript.place; theirs = transcript.place; here = scene.0; there = scene.1 }
      | MineOne ↦ λ scene. record { mine = next both transcript.place; theirs = transcript.place; here = scene.0; there = scene.1 }
      | MineTwo ↦ λ scene. record { mine = next both (next both transcript.place); theirs = transcript.place; here = scene.0; there = scene.1 }
      | TheirsOne ↦ λ scene. record { mine = transcript.place; theirs = next both transcript.place; here = scene.0; there = scene.1 }
      | TheirsTwo ↦ λ scene. record { mine = transcript.place; theirs = next both (next both transcript.place); here = scene.0; there = scene.1 }
    ] transcript.scene

say_of_minor : (both : Bool) (d : Deal) (s : Pair) → Stand both d s → SayOfMinor (minor_of d) d.asks d.answers s
say_of_minor both d s stand = record {
  asked = subst (λ (h : Handshake). IfSome (owed_attributes h.owed) (λ (bytes : List ℕ). bytes ≡ said_attributes d.asks (minor_of d))) (sym stand.here)
      (asked_at d stand.mine);
  answered = subst (λ (h : Handshake). IfSome (owed_attributes h.owed) (λ (bytes : List ℕ). bytes ≡ answered_attributes d.answers (minor_of d) (said_attributes d.asks (minor_of d)))) (sym stand.there)
      (answered_at d stand.theirs);
}

pub of_smaller_minor : (i r : Handshake) (acts : List Act) (pair : Pair) → i.role ≡ Initiator → r.role ≡ Responder → Match i.offer r.offer
    → Run PairStep (met i r) acts pair → SayOfMinor (min i.offer.minor r.offer.minor) i.offer r.offer pair
of_smaller_minor i r acts pair is peer_is matched run =
    let gone = met_run i r acts pair is peer_is matched run in
    say_of_minor i.offer.both_rings (deal_of i r) pair (stands i.offer.both_rings (deal_of i r) gone.now pair gone.transcript)
