-- Every run of a port is lawful: each event may stand after those before it, by each of the laws.
use Rattle.std.proofs.Common.{List, [], ◌∷◌, ◌++◌}
use Rattle.runs.specs.Lawful.{log_of}
use Rattle.runs.specs.Run.{Run, run_push}
use Rattle.lane_models.specs.ResetSays.{WireResetAt}
use Rattle.lane_models.specs.WireAt.{WireGapAt}
use Rattle.lane_models.specs.NetLaneState.{IsNetShape, NetShape}
use Rattle.lane_models.specs.PortLog.{after, no_events}
use Rattle.lane_models.specs.PortMay.{IsLawfulPort, PortMay}
use Rattle.lane_models.specs.PortState.{PortEvent, PortState, PortStep, fresh_port}
use Rattle.port_laws.proofs.GroupsAgree.{port_joins}
use Rattle.port_laws.proofs.NoRefusal.{port_unforged_wire}
use Rattle.port_laws.proofs.PortResets.{port_resets_so}
use Rattle.port_laws.proofs.PortRuns.{lawful_along}
use Rattle.port_laws.proofs.RuleAsks.{port_asks, port_undone}
use Rattle.port_laws.proofs.RuleFrames.{port_acknowledges, port_admits, port_announces, port_lost, port_published, port_sees, port_takes}
use Rattle.port_laws.proofs.RuleGroups.{port_groups_said}
use Rattle.port_laws.proofs.RuleIdle.{port_idle}
use Rattle.port_laws.proofs.RuleRest.{port_resets, port_ticks, port_works}
use Rattle.port_laws.proofs.RuleTable.{port_answers, port_table}
use Rattle.port_laws.proofs.RuleTwoIdle.{port_two_idle}
use Rattle.port_laws.proofs.RuleUnforged.{port_unforged}
use Rattle.port_laws.proofs.WireLaws.{port_hears, port_opens, port_says}
use Rattle.port_laws.proofs.LastEvent.{last_lawful}

pub every_run : (shape : NetShape) (events : List PortEvent) (s : PortState) → IsNetShape shape → Run PortStep (fresh_port shape) events s → IsLawfulPort shape events
every_run shape events s is run =
    let each : (before : List PortEvent) (s : PortState) (event : PortEvent) (t : PortState) → Run PortStep (fresh_port shape) before s → PortStep s event t → PortMay (log_of after (no_events shape) before) event = λ before s event t run step.
    let events : List PortEvent = before ++ event ∷ [] in
    let whole : Run PortStep (fresh_port shape) events t = run_push PortStep (fresh_port shape) s t before event run step in
    record {
      table = last_lawful shape _ before event (port_table shape events t is whole);
      answers = last_lawful shape _ before event (port_answers shape events t is whole);
      said = last_lawful shape _ before event (port_says shape events t is whole);
      heard = last_lawful shape _ before event (port_hears shape events t is whole);
      gap = last_lawful shape _ before event (port_resets_so WireGapAt (λ l x both. both.1) shape events t is whole);
      reset_says = last_lawful shape _ before event (port_resets_so WireResetAt (λ l x both. both.0) shape events t is whole);
      unforged_wire = last_lawful shape _ before event (port_unforged_wire shape events t is whole);
      works = last_lawful shape _ before event (port_works shape events t is whole);
      admission = last_lawful shape _ before event (port_admits shape events t is whole);
      joining = last_lawful shape _ before event (port_joins shape events t whole);
      tick = last_lawful shape _ before event (port_ticks shape events t is whole);
      openings = last_lawful shape _ before event (port_opens shape events t is whole);
      published = last_lawful shape _ before event (port_published shape events t is whole);
      lost = last_lawful shape _ before event (port_lost shape events t is whole);
      announces = last_lawful shape _ before event (port_announces shape events t is whole);
      sees = last_lawful shape _ before event (port_sees shape events t is whole);
      asks = last_lawful shape _ before event (port_asks shape events t is whole);
      taking = last_lawful shape _ before event (port_takes shape events t is whole);
      acknowledges = last_lawful shape _ before event (port_acknowledges shape events t is whole);
      own_resets = last_lawful shape _ before event (port_resets shape events t is whole);
      undone = last_lawful shape _ before event (port_undone shape events t is whole);
      groups_said = last_lawful shape _ before event (port_groups_said shape events t is whole);
      idle = last_lawful shape _ before event (port_idle shape events t is whole);
      unforged = last_lawful shape _ before event (port_unforged shape events t is whole);
      two_idle = last_lawful shape _ before event (port_two_idle shape events t is whole);
    } in
    lawful_along shape PortMay each events s run
