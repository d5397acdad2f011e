-- Two ends at rest on a channel which nobody forged and on which nothing was lost: both sessions are open, and each heard all that the other said.
use Rattle.std.proofs.Common.{◌≡◌, ℕ, true, false, None, List, [], ◌∷◌, refl, sym, arith}
use Rattle.std.specs.Prelude.{slice_get}
use Rattle.runs.specs.Run.{Run}
use Rattle.ldc_queue.specs.declared.end.End.{End}
use Rattle.ldc_queue.specs.declared.end.End.TheVariants.{A, B}
use Rattle.ldc_queue.specs.Wire.{peer_of}
use Rattle.vio_handshake.specs.declared.session.Offer.{Offer}
use Rattle.vio_handshake.specs.Offers.{Match}
use Rattle.lane_models.specs.Sayings.{heard, said}
use Rattle.lane_models.specs.TranscriptLog.{TranscriptLog, transcript_of}
use Rattle.lane_models.proofs.AtRest.{BothRest, HeardAll, heard_all, rests_open}
use Rattle.lane_models.proofs.CoreLaws.{conversing, links_placed}
use Rattle.lane_models.proofs.Sessions.{meets_knows}
use Rattle.lane_models.specs.EndsAtRest.{IsEndAtRest}
use Rattle.lane_models.specs.LaneCore.{CoreEvent, CoreFits, CoreStep, LaneCore, fresh_core, transcript_behind}
use Rattle.lane_models.specs.Sides.{sides_of}

-- no packet waits first, so none waits
pub none_waits : (waiting : List (List ℕ)) → slice_get waiting 0 ≡ None → waiting ≡ []
none_waits [] is = refl
none_waits (packet ∷ waiting) is = absurd (cc is)

both_rest : (s : LaneCore) (transcript : TranscriptLog) → s.wire.lossy ≡ false → IsEndAtRest A s → IsEndAtRest B s → BothRest (sides_of s transcript)
both_rest s transcript whole one other = search

-- ALONG EVERY RUN
pub two_at_rest_open : (entries : ℕ) (asks answers : Offer) (events : List CoreEvent) (s : LaneCore) → CoreFits entries asks answers → Match asks answers
    → Run CoreStep (fresh_core entries asks answers) events s → s.wire.forged ≡ false → s.wire.lossy ≡ false → IsEndAtRest A s → IsEndAtRest B s
    → (s.a.is_open ≡ true) × (s.b.is_open ≡ true)
two_at_rest_open entries asks answers events s fits matched run clean whole one other = grind (arith, meets_knows, rests_open)

pub two_at_rest_heard : (entries : ℕ) (asks answers : Offer) (events : List CoreEvent) (s : LaneCore) (e : End) → CoreFits entries asks answers
    → Run CoreStep (fresh_core entries asks answers) events s → s.wire.forged ≡ false → s.wire.lossy ≡ false → IsEndAtRest A s → IsEndAtRest B s
    → heard (transcript_of e (transcript_behind events)) ≡ said (transcript_of (peer_of e) (transcript_behind events))
two_at_rest_heard entries asks answers events s e fits run clean whole one other = by_end e
  where
    all : HeardAll (sides_of s (transcript_behind events))
    all = heard_all (sides_of s (transcript_behind events)) (both_rest s (transcript_behind events) whole one other) (conversing entries asks answers events s fits run clean)
        (links_placed entries asks answers events s fits run clean)

    by_end : (x : End) → heard (transcript_of x (transcript_behind events)) ≡ said (transcript_of (peer_of x) (transcript_behind events))
    by_end A = sym all.to_mine
    by_end B = sym all.to_theirs
