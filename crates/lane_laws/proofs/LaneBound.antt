-- What remains on a lane that nobody forged is at most 36 and 16 for each pending request, and where a packet was lost at most 69 and 32.
use Rattle.std.proofs.Common.{◌≡◌, ℕ, ◌+◌, ◌*◌, ◌≤◌, Bool, true, false, Option, Some, None, List, length, refl, arith}
use Rattle.std.specs.Prelude.{is_some}
use Rattle.runs.specs.Lawful.{log_of}
use Rattle.runs.specs.Run.{Run}
use Rattle.ldc_link.specs.declared.phase.Role.TheVariants.{Initiator}
use Rattle.ldc_queue.specs.declared.end.ChannelState.{ChannelState}
use Rattle.ldc_queue.specs.declared.end.ChannelState.TheVariants.{Up}
use Rattle.lane_models.specs.Sayings.{heard}
use Rattle.lane_laws.specs.DiskLog.{after, nothing_yet}
use Rattle.lane_models.specs.ClientState.{ClientState}
use Rattle.lane_models.specs.DiskEvent.{DiskEvent}
use Rattle.lane_models.specs.LaneState.{IsShape, LaneState, Shape, fresh}
use Rattle.lane_models.specs.LaneStep.{LaneStep}
use Rattle.lane_models.specs.ServerState.{ServerState}
use Rattle.lane_laws.proofs.FlightAlong.{run_flight}
use Rattle.lane_laws.proofs.FlightRuns.{InFlight}
use Rattle.lane_laws.proofs.FlightSums.{FewFly}
use Rattle.lane_laws.proofs.Speaking.{run_rests}
use Rattle.lane_laws.proofs.LifeBound.{RequestsLeft, by_sessions}
use Rattle.lane_laws.specs.Budget.{infos_begun, one_if}
use Rattle.lane_laws.specs.Counted.{range_count}
use Rattle.lane_laws.specs.LaneTranscripts.{transcript_behind}
use Rattle.lane_laws.specs.Remaining.{absent, asked_remaining, client_remaining, client_packets, life, remaining, second_life, server_remaining, server_packets}
use Rattle.lane_laws.proofs.HeardFront.{unheard_client}
use Rattle.lane_laws.proofs.OneSession.{client_in_session}
use Rattle.lane_models.proofs.Sessions.{open_heard}
use Rattle.lane_laws.specs.ChannelEnds.{client_core}

-- an end that is up has no session where the other isn't
closed_by : {X : Type 0} (o : Option X) → (is_some o ≡ true → ⊥) → o ≡ None
closed_by {X} None never = refl
closed_by {X} (Some x) never = absurd (never refl)

client_closed : (shape : Shape) (events : List DiskEvent) (s : LaneState) → IsShape shape → Run LaneStep (fresh shape) events s → s.wire.forged ≡ false → s.wire.wire.end_a ≡ Up
    → (s.wire.wire.end_b ≡ Up → ⊥) → s.client.session ≡ None
client_closed shape events s sound run clean up alone =
    let rests = (run_rests shape events s sound run).client in
    closed_by s.client.session (λ now.
    open_heard Initiator (client_core s.client) (transcript_behind events).a (record { stands = rests.stands; rests = rests.rests }) now (unheard_client shape events s sound run clean up alone))

server_closed : (shape : Shape) (events : List DiskEvent) (s : LaneState) → IsShape shape → Run LaneStep (fresh shape) events s → s.wire.forged ≡ false → s.wire.wire.end_b ≡ Up
    → (s.wire.wire.end_a ≡ Up → ⊥) → s.server.session ≡ None
server_closed shape events s sound run clean up alone = closed_by s.server.session (λ now. alone (client_in_session shape events s sound run clean up now).up)

-- THE SUMS, by who is up
record Facts (x y : ChannelState) (a b : ℕ) (lossy : Bool) (c : ClientState) (v : ServerState) (answers : ℕ) : Type 0 where
  few : FewFly x y a b lossy (client_packets c) (server_packets v) answers (infos_begun c.session)
  client : x ≡ Up → (y ≡ Up → ⊥) → c.session ≡ None
  server : y ≡ Up → (x ≡ Up → ⊥) → v.session ≡ None
  both : x ≡ Up → y ≡ Up → RequestsLeft c.session v.session v.work (length c.pending) answers

abbrev Most : ChannelState → ChannelState → ℕ → ℕ → Bool → ClientState → ServerState → Type 0
Most x y a b lossy c v = absent x + absent y + a + b + client_remaining x (asked_remaining y v) c + server_remaining y v + 3 * one_if lossy ≤ 36 + 16 * length c.pending

most_in : (x y : ChannelState) (a b : ℕ) (lossy : Bool) (c : ClientState) (v : ServerState) (answers : ℕ) → Facts x y a b lossy c v answers → Most x y a b lossy c v
most_in x y a b lossy c v answers facts = grind arith

life_most : (shape : Shape) (events : List DiskEvent) (s : LaneState) → IsShape shape → Run LaneStep (fresh shape) events s → s.wire.forged ≡ false
    → life s.wire.wire s.client s.server + 3 * one_if s.wire.lossy ≤ 36 + 16 * length s.client.pending
life_most shape events s sound run clean =
    let transcript = (log_of after (nothing_yet shape) events).transcript in
    let flight : InFlight s transcript.a = run_flight shape events s sound run clean in
    most_in s.wire.wire.end_a s.wire.wire.end_b (length s.wire.wire.to_a) (length s.wire.wire.to_b) s.wire.lossy s.client s.server (range_count 2 (heard transcript.a)) (record {
      few = flight.few;
      client = λ up alone. client_closed shape events s sound run clean up alone;
      server = λ up alone. server_closed shape events s sound run clean up alone;
      both = λ up there. by_sessions s.client.session s.server.session shape events s sound run clean up there refl refl flight.pieces;
    })

-- WHAT REMAINS
by_lossy : (lossy : Bool) (life pending : ℕ) → life + 3 * one_if lossy ≤ 36 + 16 * pending → life + second_life lossy pending ≤ 69 + 32 * pending
by_lossy true life pending most = omega (arith, most)
by_lossy false life pending most = omega (arith, most)

pub remains_most : (shape : Shape) (events : List DiskEvent) (s : LaneState) → IsShape shape → Run LaneStep (fresh shape) events s → s.wire.forged ≡ false
    → remaining s ≤ 69 + 32 * length s.client.pending
remains_most shape events s sound run clean = by_lossy s.wire.lossy (life s.wire.wire s.client s.server) (length s.client.pending) (life_most shape events s sound run clean)

by_whole : (lossy : Bool) (life pending : ℕ) → lossy ≡ false → life + 3 * one_if lossy ≤ 36 + 16 * pending → life + second_life lossy pending ≤ 36 + 16 * pending
by_whole true life pending whole most = absurd (cc whole)
by_whole false life pending whole most = omega (arith, most)

pub whole_most : (shape : Shape) (events : List DiskEvent) (s : LaneState) → IsShape shape → Run LaneStep (fresh shape) events s → s.wire.forged ≡ false → s.wire.lossy ≡ false
    → remaining s ≤ 36 + 16 * length s.client.pending
whole_most shape events s sound run clean whole =
    by_whole s.wire.lossy (life s.wire.wire s.client s.server) (length s.client.pending) whole (life_most shape events s sound run clean)
