-- The toy kind's row of the handshake and its equal sessions, by the laws of two ends.
use Rattle.std.proofs.Common.{◌≡◌, ℕ, false, true, List, [], ◌∷◌, refl, ap, arith}
use Rattle.std.specs.Prelude.{is_some}
use Rattle.runs.specs.Run.{Run}
use Rattle.ldc_queue.specs.declared.end.End.{End}
use Rattle.ldc_queue.specs.declared.end.End.TheVariants.{A, B}
use Rattle.ldc_queue.specs.Transcript.{Heard, Said}
use Rattle.map_table.proofs.Each.{each_replicate}
use Rattle.vio_handshake.specs.Acceptance.{hold_ring}
use Rattle.vio_handshake.specs.Offers.{FitsRing, Match}
use Rattle.lane_models.specs.HandshakeOrder.{HandshakeOrder}
use Rattle.lane_models.specs.TranscriptLog.{transcript_of}
use Rattle.lane_models.specs.WireEvent as event
use Rattle.lane_models.proofs.EndsAtRest.{two_at_rest_open}
use Rattle.lane_models.proofs.OpeningOrder.{opens_hearing, opens_saying}
use Rattle.lane_models.proofs.Sessions.{open_sessions_one}
use Rattle.lane_models.specs.EndsAtRest.{IsEndAtRest}
use Rattle.lane_models.specs.LaneCore.{CoreEvent, CoreFits, CoreStep, OfferFits, OnChannel, role_of, transcript_behind}
use Rattle.lane_models.specs.OneSession.{AreOneSession}
use Rattle.kind_cases.specs.ToyKind.{ToyLane, ToyStep, fresh_toys, toy_lane, toy_offer}

offer_fits : OfferFits toy_offer
offer_fits = grind (arith, each_replicate)

fits : CoreFits 8 toy_offer toy_offer
fits = record { some_entries = omega arith; most_entries = omega arith; asks_fit = offer_fits; answers_fit = offer_fits }

rings : FitsRing toy_offer toy_offer
unfolding hold_ring
rings = record { slots = refl; slot_size = refl; some = omega arith; most = omega arith; held = refl }

matched : Match toy_offer toy_offer
matched = record { kind = refl; ring = rings; device = (refl, omega arith, rings) }

toy_run : (s t : ToyLane) (events : List CoreEvent) → Run ToyStep s events t → Run CoreStep (toy_lane s) events (toy_lane t)
toy_run s t [] run = ap toy_lane run
toy_run s t (event ∷ events) run = (toy_lane run.0, run.1, toy_run run.0 t events run.2)

pub toys_say : (events : List CoreEvent) (s : ToyLane) (e : End) (packet : List ℕ) (t : ToyLane) → Run ToyStep fresh_toys events s → ToyStep s (OnChannel (event.Sent e packet true)) t
    → HandshakeOrder true (role_of e) (Said packet ∷ transcript_of e (transcript_behind events))
toys_say events s A packet t run step = opens_saying 8 toy_offer toy_offer events (toy_lane s) A packet (toy_lane t) fits (toy_run fresh_toys s events run) step
toys_say events s B packet t run step = opens_saying 8 toy_offer toy_offer events (toy_lane s) B packet (toy_lane t) fits (toy_run fresh_toys s events run) step

pub toys_hear : (events : List CoreEvent) (s : ToyLane) (e : End) (packet : List ℕ) (t : ToyLane) → Run ToyStep fresh_toys events s → ToyStep s (OnChannel (event.Took e packet true)) t
    → HandshakeOrder true (role_of e) (Heard packet ∷ transcript_of e (transcript_behind events))
toys_hear events s A packet t run step = opens_hearing 8 toy_offer toy_offer events (toy_lane s) A packet (toy_lane t) fits (toy_run fresh_toys s events run) step
toys_hear events s B packet t run step = opens_hearing 8 toy_offer toy_offer events (toy_lane s) B packet (toy_lane t) fits (toy_run fresh_toys s events run) step

pub toys_are_one : (events : List CoreEvent) (s : ToyLane) → Run ToyStep fresh_toys events s → s.wire.forged ≡ false → is_some s.a.told ≡ true → is_some s.b.told ≡ true
    → AreOneSession s.a.handshake s.b.handshake
toys_are_one events s run clean opened peer_opened =
    open_sessions_one 8 toy_offer toy_offer events (toy_lane s) fits matched (toy_run fresh_toys s events run) clean opened peer_opened

pub toys_rest : (events : List CoreEvent) (s : ToyLane) → Run ToyStep fresh_toys events s → s.wire.forged ≡ false → s.wire.lossy ≡ false → IsEndAtRest A (toy_lane s) → IsEndAtRest B (toy_lane s)
    → (is_some s.a.told ≡ true) × (is_some s.b.told ≡ true)
toys_rest events s run clean whole one other =
    two_at_rest_open 8 toy_offer toy_offer events (toy_lane s) fits matched (toy_run fresh_toys s events run) clean whole one other
