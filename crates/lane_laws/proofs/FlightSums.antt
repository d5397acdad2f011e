-- How many packets wait and are still to be put on a lane that nobody forged, against those that were answered: the two ends begin with 17
-- packets of their own, and each INFO brings two more, its own and its answer. What happens to a channel keeps it so.
use Rattle.std.proofs.Common.{◌≡◌, ℕ, ◌+◌, ◌≤◌, Bool, true, List, [], ◌∷◌, ◌++◌, length, arith, length-append}
use Rattle.ldc_queue.specs.declared.end.ChannelState.{ChannelState}
use Rattle.ldc_queue.specs.declared.end.ChannelState.TheVariants.{Down, Resetting, Up}
use Rattle.ldc_queue.specs.Transcript.{Utterance}
use Rattle.ldc_queue.specs.Wire.{peer_behind, queue_behind}
use Rattle.lane_models.specs.Sayings.{heard}
use Rattle.lane_models.specs.WireLog.{WireLog, lossy_behind}
use Rattle.lane_models.specs.ClientState.{ClientState}
use Rattle.lane_models.specs.ServerState.{ServerState}
use Rattle.lane_laws.proofs.FlightServer.{FewPieces}
use Rattle.lane_laws.specs.Budget.{infos_begun, one_if}
use Rattle.lane_laws.specs.Counted.{range_count}
use Rattle.lane_laws.specs.Remaining.{client_packets, server_packets}

-- an end that isn't up counts as one that begins
abbrev pub live_count : ChannelState → ℕ → ℕ → ℕ
live_count Up first now = now
live_count Down first now = first
live_count Resetting first now = first

-- the ends' states, how many packets wait for each, whether one was lost, how many each has still to put, and how many answers to ranges the
-- client heard and how many INFO it began
abbrev pub FewFly : ChannelState → ChannelState → ℕ → ℕ → Bool → ℕ → ℕ → ℕ → ℕ → Type 0
FewFly x y to_a to_b lossy client server answers infos =
    to_a + to_b + live_count x 9 client + live_count y 8 server + live_count x 0 answers + one_if lossy ≤ 17 + live_count x 0 infos

pub record Flight (w : WireLog) (c : ClientState) (v : ServerState) (turns : List Utterance) : Type 0 where
  pub few : FewFly w.wire.end_a w.wire.end_b (length w.wire.to_a) (length w.wire.to_b) w.lossy (client_packets c) (server_packets v) (range_count 2 (heard turns)) (infos_begun c.session)
  pub pieces : FewPieces v.work

-- THE CLIENT puts a packet, takes one, and goes on
pub client_puts_one : (x y : ChannelState) (a b more : ℕ) (lossy : Bool) (c t v q i j : ℕ) → x ≡ Up → more ≡ b + 1 → t + 1 + i ≤ c + j → FewFly x y a b lossy c v q i → FewFly x y a more lossy t v q j
client_puts_one x y a b more lossy c t v q i j up one flies few = grind arith

pub client_takes_one : (x y : ChannelState) (a less b : ℕ) (lossy : Bool) (c t v q p i j : ℕ) → x ≡ Up → less + 1 ≡ a → t + 0 + i ≤ c + j → p ≤ q + 1 → FewFly x y a b lossy c v q i
    → FewFly x y less b lossy t v p j
client_takes_one x y a less b lossy c t v q p i j up one flies answers few = grind arith

-- THE SERVER likewise
pub server_puts_one : (x y : ChannelState) (a more b : ℕ) (lossy : Bool) (c v u q i : ℕ) → y ≡ Up → more ≡ a + 1 → u + 1 ≤ v + 0 → FewFly x y a b lossy c v q i → FewFly x y more b lossy c u q i
server_puts_one x y a more b lossy c v u q i up one flies few = grind arith

pub server_takes_one : (x y : ChannelState) (a b less : ℕ) (lossy : Bool) (c v u q i : ℕ) → y ≡ Up → less + 1 ≡ b → u + 0 ≤ v + 1 → FewFly x y a b lossy c v q i → FewFly x y a less lossy c u q i
server_takes_one x y a b less lossy c v u q i up one flies few = grind arith

-- AN END BEGINS, or is closed
pub server_begins : (x y : ChannelState) (to_a to_b : List (List ℕ)) (lossy : Bool) (c v u q i : ℕ) → u ≡ 8 → FewFly x y (length to_a) (length to_b) lossy c v q i
    → FewFly (peer_behind y x) Up (length (queue_behind y to_a)) (length (queue_behind y to_b)) (lossy_behind y lossy) c u q i
server_begins x y to_a to_b lossy c v u q i eight few = grind arith

-- A PACKET IS LOST

pub client_loses : (x y : ChannelState) (a less b : ℕ) (lossy : Bool) (c v q i : ℕ) → less + 1 ≡ a → FewFly x y a b lossy c v q i → FewFly x y less b true c v q i
client_loses x y a less b lossy c v q i one few = omega (arith, one, few)

pub server_loses : (x y : ChannelState) (a b less : ℕ) (lossy : Bool) (c v q i : ℕ) → less + 1 ≡ b → FewFly x y a b lossy c v q i → FewFly x y a less true c v q i
server_loses x y a b less lossy c v q i one few = omega (arith, one, few)

-- LISTS
pub one_longer : (packets : List (List ℕ)) (packet : List ℕ) → length (packets ++ packet ∷ []) ≡ length packets + 1
one_longer packets packet = omega (arith, length-append packets (packet ∷ []))
