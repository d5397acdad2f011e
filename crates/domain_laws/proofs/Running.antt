-- Each port of a world is run by what its journal says happened to it, and so it is reached.
use Rattle.std.proofs.Common.{◌≡◌, ℕ, ◌+◌, Some, List, [], ◌∷◌, ◌++◌, length, map, slice_get, refl, sym, ap, ◌∙◌, subst, arith}
use Rattle.std.proofs.lemmas.List.{length-map}
use Rattle.std.proofs.lemmas.Option.{slice_get-map}
use Rattle.std.specs.Option.{option_map}
use Rattle.runs.specs.Run.{Run, run_keeps}
use Rattle.lane_kinds.proofs.Both.{run_of_first, run_of_second}
use Rattle.lane_kinds.proofs.Moving.{both_move, lane_moved, many_moved, none_move, nothing_move, told_moves}
use Rattle.lane_kinds.specs.Lanes.{AllMove, EachOf, Reads}
use Rattle.lane_models.specs.NetLaneState.{IsNetShape, NetShape}
use Rattle.lane_models.specs.PortState.{PortState, PortStep, fresh_port}
use Rattle.switch_laws.proofs.Steps.{reached_step, run_on_port}
use Rattle.switch_laws.proofs.PortTurns.{silence}
use Rattle.switch_laws.specs.Events.{SwitchEvent, SwitchStep, at_port}
use Rattle.switch_laws.specs.Ports.{ports}
use Rattle.switch_laws.specs.Reached.{IsReached}
use Rattle.world_laws.specs.Settle.{OfPort, SettleEntry}
use Rattle.world_laws.specs.World.{WorldState, WorldStep}
use Rattle.domain_laws.specs.Along.{port_happened, port_said}
use Rattle.domain_laws.specs.Domain.{DomainState, DomainStep, PortsStep, port_entries}

-- EACH KIND by the one journal
pub disks_run : (w : DomainState) (entries : List SettleEntry) (v : DomainState) → Run DomainStep w entries v → Run WorldStep w.first entries v.first
disks_run w entries v run = run_of_first WorldStep PortsStep w entries v run

pub ports_run : (w : DomainState) (entries : List SettleEntry) (v : DomainState) → Run DomainStep w entries v → Run PortsStep w.second entries v.second
ports_run w entries v run = run_of_second WorldStep PortsStep w entries v run

pub port_reads : Reads ports port_entries port_said
port_reads = record { of_lane = λ j k event. refl; of_left = λ j k. refl; of_answer = λ j. refl }

-- EACH ENTRY moves all ports, and so does a run
entry_moves : (lanes : List PortState) (entry : SettleEntry) (behind : List PortState) → PortsStep lanes entry behind → AllMove SwitchStep port_said 0 lanes (entry ∷ []) behind
entry_moves lanes (OfPort k event) behind step = told_moves ports port_entries port_said port_reads silence 0 k lanes event behind step.entry.step.step
entry_moves lanes entry behind step =
    subst (AllMove SwitchStep port_said 0 lanes (entry ∷ [])) (sym step) (nothing_move SwitchStep port_said 0 lanes (entry ∷ []) (λ j. refl))

pub ports_move : (lanes : List PortState) (entries : List SettleEntry) (behind : List PortState) → Run PortsStep lanes entries behind → AllMove SwitchStep port_said 0 lanes entries behind
ports_move lanes [] behind run = subst (AllMove SwitchStep port_said 0 lanes []) run (none_move SwitchStep port_said 0 lanes)
ports_move lanes (entry ∷ entries) behind run =
    both_move SwitchStep port_said 0 lanes run.0 behind (entry ∷ []) entries (entry_moves lanes entry run.0 run.1) (ports_move run.0 entries behind run.2)

-- one of them
own_place : (k : ℕ) → k ≡ 0 + k
own_place k = omega (arith)

pub port_moved : (lanes : List PortState) (entries : List SettleEntry) (behind : List PortState) (k : ℕ) (s t : PortState) → Run PortsStep lanes entries behind → slice_get lanes k ≡ Some s
    → slice_get behind k ≡ Some t → Run SwitchStep s (port_happened k entries) t
port_moved lanes entries behind k s t run there after =
    lane_moved SwitchStep port_said 0 k k lanes entries behind s t (own_place k) (ports_move lanes entries behind run) there after

pub ports_many : (lanes : List PortState) (entries : List SettleEntry) (behind : List PortState) → Run PortsStep lanes entries behind → length behind ≡ length lanes
ports_many lanes entries behind run = many_moved SwitchStep port_said 0 lanes entries behind (ports_move lanes entries behind run)

-- FROM FRESH ONES
pub fresh_there : (nets : List NetShape) (k : ℕ) (shape : NetShape) → slice_get nets k ≡ Some shape → slice_get (map fresh_port nets) k ≡ Some (fresh_port shape)
fresh_there nets k shape there = slice_get-map fresh_port nets k ∙ ap (option_map fresh_port) there

pub port_runs : (nets : List NetShape) (entries : List SettleEntry) (behind : List PortState) (k : ℕ) (shape : NetShape) (s : PortState) → Run PortsStep (map fresh_port nets) entries behind
    → slice_get nets k ≡ Some shape → slice_get behind k ≡ Some s → Run PortStep (fresh_port shape) (map at_port (port_happened k entries)) s
port_runs nets entries behind k shape s run there after =
    run_on_port (fresh_port shape) (port_happened k entries) s (port_moved (map fresh_port nets) entries behind k (fresh_port shape) s run (fresh_there nets k shape there) after)

pub fresh_many : (nets : List NetShape) (entries : List SettleEntry) (behind : List PortState) → Run PortsStep (map fresh_port nets) entries behind → length behind ≡ length nets
fresh_many nets entries behind run = ports_many (map fresh_port nets) entries behind run ∙ length-map nets fresh_port

-- EACH PORT IS REACHED, and stays it
moved_reached : (j : ℕ) (lanes : List PortState) (entries : List SettleEntry) (behind : List PortState) → EachOf IsReached lanes → AllMove SwitchStep port_said j lanes entries behind
    → EachOf IsReached behind
moved_reached j [] entries [] all moves = tt
moved_reached j (s ∷ lanes) entries (t ∷ behind) all moves = (
  run_keeps SwitchStep IsReached (λ x event y step at. reached_step x event y at step) s t (port_happened j entries) moves.0 all.0,
  moved_reached (j + 1) lanes entries behind all.1 moves.1,
)
moved_reached j [] entries (t ∷ behind) all moves = absurd moves
moved_reached j (s ∷ lanes) entries [] all moves = absurd moves

pub stay_reached : (lanes : List PortState) (entries : List SettleEntry) (behind : List PortState) → EachOf IsReached lanes → Run PortsStep lanes entries behind → EachOf IsReached behind
stay_reached lanes entries behind all run = moved_reached 0 lanes entries behind all (ports_move lanes entries behind run)

pub fresh_reached : (nets : List NetShape) → EachOf IsNetShape nets → EachOf IsReached (map fresh_port nets)
fresh_reached [] are = tt
fresh_reached (shape ∷ nets) are = (record { shape = shape; sound = are.0; events = []; run = refl }, fresh_reached nets are.1)
