-- A step of an end of a lane over the image, by what it answered.
use Rattle.std.proofs.Common.{◌≡◌, ℕ, ◌≤◌, Bool, true, false, List, [], ◌∷◌, length, Option, Some, None, slice_get, ◌==◌, if◌then◌else◌, drop, refl, sym, ap, subst, arith}
use Rattle.std.proofs.lemmas.List.{length-take}
use Rattle.disk_law.specs.ListState.{ImageState}
use Rattle.disk_lane.specs.Events.{ResetsOwn, StoreAfterOf, served_event}
use Rattle.world_parts.proofs.lane_models.OwnSteps.{server_resets_own}
use Rattle.world_parts.specs.lane_models.ClientStep.{completed_slot}
use Rattle.world_parts.specs.lane_models.LaneState.{LaneState}
use Rattle.world_parts.specs.lane_models.LaneStep.{LaneStep, ResetBy, ServerOnWire, reach}
use Rattle.world_parts.specs.lane_models.Seeing.{seen}
use Rattle.world_parts.specs.lane_models.Served.{Served}
use Rattle.world_parts.specs.lane_models.ServerRule.{server_rule}
use Rattle.world_parts.specs.lane_models.WireEvent as wire
use Rattle.world_parts.specs.lane_models.WireEvent.{ByStep, Giver, giver}
use Rattle.world_parts.specs.lane_laws.CalmEnds.{IsStep}
use Rattle.world_parts.specs.world_laws.World.{LaneMoves}
use Rattle.ldc_queue.specs.declared.end.End.TheVariants.{A, B}
use Rattle.ldom_entries.specs.JournalState.{JournalState}
use Rattle.recorded_lanes.specs.Fitting.{FitsRoom}
use Rattle.recorded_lanes.specs.OneLane.{LaneSteps, LeavesEntry}
use Rattle.disk_lane.specs.vdisk_client.Calls.{client_event, front_count}
use Rattle.disk_lane.specs.vdisk_client.declared.answers.ClientOut.{ClientOut}
use Rattle.disk_lane.specs.vdisk_client.declared.answers.ClientOut.TheVariants as client_out
use Rattle.vdisk_msg.specs.Requested.{buffer_of, buffer_place}
use Rattle.vdisk_msg.specs.Requests.{given_count}
use Rattle.vdisk_msg.specs.declared.request.Request.{Request}
use Rattle.vio_io.specs.declared.store.Store.{Ghosts}
use Rattle.disk_lane.specs.answers.ServerOut.{ServerOut}
use Rattle.disk_lane.specs.answers.ServerOut.TheVariants as server_out
use Rattle.vio_tag.specs.declared.cause.Cause.{Cause}
use Rattle.disk_law.specs.ListState.{as_image}

-- THE CLIENT: each answer is a step of its end, and leaves the image
client_of_end : (answer : ClientOut) (last : List ℕ) → ResetsOwn answer → IsStep A (client_event answer last)
client_of_end (client_out.Published id) last own = tt
client_of_end (client_out.Done id operation status len) last own = tt
client_of_end (client_out.Reset cause packet) last own = (refl, own)
client_of_end answer last own = refl

client_moves : (answer : ClientOut) (last : List ℕ) (s t : LaneState) (i : ImageState)
    → LaneStep s (client_event answer last) t → LaneMoves s i (client_event answer last) t i
client_moves client_out.Idle last s t i step = (step, refl)
client_moves answer last s t i step = (step, refl)

pub client_steps : (in_settle : Bool) (k : ℕ) (answer : ClientOut) (last : List ℕ) (s t : LaneState)
    (old new : JournalState) (calm : Bool) (i : ImageState) → LaneStep s (client_event answer last) t
    → ResetsOwn answer → LeavesEntry in_settle k (client_event answer last) old calm new
    → LaneSteps in_settle k A s i old calm new t i
client_steps in_settle k answer last s t old new calm i step own leaves = record {
  event = client_event answer last;
  of_end = client_of_end answer last own;
  moves = client_moves answer last s t i step;
  leaves = leaves;
}

-- WHAT A COMPLETION CARRIES is at most what its request gives
front_given : (pending : List Request) (request : Request) → slice_get pending 0 ≡ Some request
    → front_count pending ≡ given_count request
front_given [] request front = absurd (cc front)
front_given (first ∷ pending) request front = let same : first ≡ request = cc front in ap given_count same

given_few : (b : Bool) (few : List ℕ) (n : ℕ) → length few ≤ n → length (if b then few else []) ≤ n
given_few true few n within = within
given_few false few n within = omega (arith)

buffer_few : (slots slot count : ℕ) (memory : List ℕ) → length (buffer_of slots slot count memory) ≤ count
buffer_few slots slot count memory = omega (arith, length-take count (drop (buffer_place slots slot) memory))

pub completion_fits : (answer : ClientOut) (last : List ℕ) (s t : LaneState) (room : ℕ)
    → LaneStep s (client_event answer last) t → front_count s.client.pending ≤ room → FitsRoom answer last room
completion_fits (client_out.Done id operation status len) last s t room step enough =
    let done = step.step in
    let slot = completed_slot s.client done.session in
    let count = given_count done.request in
    let few =
    given_few (status == 0) (buffer_of s.client.slots slot count s.memory) count
    (buffer_few s.client.slots slot count s.memory) in
    omega (
      arith,
      few,
      ap (λ (l : List ℕ). length l) done.bytes_are,
      front_given s.client.pending done.request done.front,
      enough,
    )
completion_fits answer last s t room step enough = tt

-- THE SERVER: each answer is a step of its end
module _ (s t : LaneState) where
  server_of_end : (gave : List ℕ) (cause : Cause) (packet : Option (List ℕ))
      → ServerOnWire s gave (wire.Reset B cause packet 0) t → giver cause ≡ ByStep
  server_of_end gave cause packet step =
      server_resets_own (server_rule s.server (seen B s.shape.entries s.wire.wire)) s.server
      (reach s (seen B s.shape.entries s.wire.wire).both) cause packet t.memory step.step.1.0

  reset_by : (gave : List ℕ) (cause : Cause) (packet : Option (List ℕ))
      → ServerOnWire s gave (wire.Reset B cause packet 0) t → ResetBy (giver cause) B s cause packet 0 t
  reset_by gave cause packet step =
      subst (λ (who : Giver). ResetBy who B s cause packet 0 t) (sym (server_of_end gave cause packet step))
      (gave, step)

  module _ {D : Type 0} (g : Ghosts D) (old new : D) where
    abbrev image : D → ImageState
    image d = as_image g d

    same_image : new ≡ old → image new ≡ image old
    same_image same = ap image same

    abbrev ServerMoves : Option ServerOut → Type 0
    ServerMoves answer =
        LaneMoves s (image old) (served_event answer) t (image new)

    server_moves : (answer : Option ServerOut) → Served s (g.content old) (served_event answer) t (g.content new)
        → StoreAfterOf g answer old new → ServerMoves answer
    server_moves None served stays = (served.step, same_image stays)
    server_moves (Some (server_out.Stored operation block count failed)) served called = (
      served,
      record {
        calls = called.calls;
        flushes = called.flushes;
        writes = called.writes;
        faults = called.faults;
      },
    )
    server_moves (Some (server_out.Reset cause packet)) served stays =
        (reset_by served.gave cause packet served.step, same_image stays)
    server_moves (Some answer) served stays = ((served.gave, served.step), same_image stays)

    server_end : (answer : Option ServerOut) → Served s (g.content old) (served_event answer) t (g.content new)
        → IsStep B (served_event answer)
    server_end None served = tt
    server_end (Some (server_out.Desc slot bytes)) served = tt
    server_end (Some (server_out.Moved unit fault)) served = tt
    server_end (Some (server_out.Stored operation block count failed)) served = tt
    server_end (Some (server_out.Finished slot status)) served = tt
    server_end (Some (server_out.Reset cause packet)) served =
        (refl, server_of_end served.gave cause packet served.step)
    server_end (Some answer) served = refl

    pub server_steps : (in_settle : Bool) (k : ℕ) (answer : Option ServerOut) (before after : JournalState) (calm : Bool)
        → Served s (g.content old) (served_event answer) t (g.content new) → StoreAfterOf g answer old new
        → LeavesEntry in_settle k (served_event answer) before calm after
        → LaneSteps in_settle k B s (image old) before calm after t (image new)
    server_steps in_settle k answer before after calm served stored leaves = record {
      event = served_event answer;
      of_end = server_end answer served;
      moves = server_moves answer served stored;
      leaves = leaves;
    }
