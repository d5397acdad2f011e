use Rattle.std.proofs.Common.{sym, subst}
use Rattle.std.specs.Prelude.{OnErr, OnOk}
use Rattle.recorded_lanes.specs.world_parts.domain_laws.Lines.{Calls}
use Rattle.domain_script.specs.declared.fields.LaneKind.{LaneKind}
use Rattle.recorded_lanes.specs.Called.{call_of}
use Rattle.ldom_world.proofs.world.World.call_on.Goals as goal
use Rattle.recorded_lanes.specs.world_parts.WorldKinds.{of_kind}
use Rattle.recorded_lanes.specs.world_parts.Parts.{Fits, FitsSoFar}

pub returns-in-Disk-clause-fits : goal.returns-in-Disk-clause-fits
returns-in-Disk-clause-fits g c =
    let called = c.answer in
    subst (λ (kind : LaneKind). OnOk called.result (Fits c.args.self.now (Calls (of_kind kind c.args.lane.number) (call_of c.args.call))
    c.args.journal.now.entries called.new.journal.entries called.new.world)) (sym c.in-Disk.is) called.ensures.fits

pub returns-in-Disk-clause-so_far : goal.returns-in-Disk-clause-so_far
returns-in-Disk-clause-so_far g c =
    let called = c.answer in
    subst (λ (kind : LaneKind). OnErr called.result (FitsSoFar c.args.self.now (Calls (of_kind kind c.args.lane.number) (call_of c.args.call))
    c.args.journal.now.entries called.new.journal.entries called.new.world)) (sym c.in-Disk.is) called.ensures.so_far

pub returns-in-Port-clause-fits : goal.returns-in-Port-clause-fits
returns-in-Port-clause-fits g c =
    let called = c.answer-in-Port in
    subst (λ (kind : LaneKind). OnOk called.result (Fits c.args.self.now (Calls (of_kind kind c.args.lane.number) (call_of c.args.call))
    c.args.journal.now.entries called.new.journal.entries called.new.world)) (sym c.in-Port.is) called.ensures.fits

pub returns-in-Port-clause-so_far : goal.returns-in-Port-clause-so_far
returns-in-Port-clause-so_far g c =
    let called = c.answer-in-Port in
    subst (λ (kind : LaneKind). OnErr called.result (FitsSoFar c.args.self.now (Calls (of_kind kind c.args.lane.number) (call_of c.args.call))
    c.args.journal.now.entries called.new.journal.entries called.new.world)) (sym c.in-Port.is) called.ensures.so_far
