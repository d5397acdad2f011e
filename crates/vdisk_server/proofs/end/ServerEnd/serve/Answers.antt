use Rattle.std.proofs.Common.{◌≡◌, Some, subst}
use Rattle.lane_models.specs.ServerState.{ServerState}
use Rattle.descriptor_work.specs.Fields.{work_with}
use Rattle.vdisk_server.specs.Answering.{Serves}
use Rattle.vdisk_server.specs.contracts.end.ServerEnd.{the_view}
use Rattle.vdisk_server.proofs.StoreSteps.{in_serves, on_serves, on_within, piece_steps, serves_in_work, works_on}
use Rattle.vdisk_server.proofs.end.ServerEnd.serve.Goals as goal

pub returns-in-Reads-clause-step : goal.returns-in-Reads-clause-step
returns-in-Reads-clause-step g c =
    let before : ServerState = the_view c.self.inside in
    let is : before.work ≡ Some (work_with c.in-Some.work c.self.inside.unit) = works_on c.self.inside.work c.in-Some.work c.self.inside.unit c.in-Some.is in
    subst (λ (s : ServerState). Serves s c.args.channel.now c.args.table.now c.args.memory.now (g.D.Store.content c.args.store.now) c.tell_call.new.self (record before { work = Some (work_with c.read_unit.new.self c.read_unit.new.buffer) }) c.args.memory.now (g.D.Store.content c.read_unit.new.store))
    c.self.view_is
    (on_serves before c.args.channel.now c.args.table.now c.args.memory.now c.args.session (work_with c.in-Some.work c.self.inside.unit) (g.D.Store.content c.args.store.now)
    (g.D.Store.content c.read_unit.new.store) c.read_unit.result c.tell_call.new.self (work_with c.read_unit.new.self c.read_unit.new.buffer)
    (serves_in_work before c.args.self.now c.args.session _ c.args.channel.now c.self.view_is is c.requires.rule) is
    c.read_unit.ensures.piece c.tell_call.ensures)

pub returns-in-Writes-clause-step : goal.returns-in-Writes-clause-step
returns-in-Writes-clause-step g c =
    let before : ServerState = the_view c.self.inside in
    let is : before.work ≡ Some (work_with c.in-Some.work c.self.inside.unit) = works_on c.self.inside.work c.in-Some.work c.self.inside.unit c.in-Some.is in
    subst (λ (s : ServerState). Serves s c.args.channel.now c.args.table.now c.args.memory.now (g.D.Store.content c.args.store.now) c.tell_call-in-Writes.new.self (record before { work = Some (work_with c.write_unit.new.self c.self.inside.unit) }) c.args.memory.now (g.D.Store.content c.write_unit.new.store))
    c.self.view_is
    (on_serves before c.args.channel.now c.args.table.now c.args.memory.now c.args.session (work_with c.in-Some.work c.self.inside.unit) (g.D.Store.content c.args.store.now)
    (g.D.Store.content c.write_unit.new.store) c.write_unit.result c.tell_call-in-Writes.new.self (work_with c.write_unit.new.self c.self.inside.unit)
    (serves_in_work before c.args.self.now c.args.session _ c.args.channel.now c.self.view_is is c.requires.rule) is
    c.write_unit.ensures.piece c.tell_call-in-Writes.ensures)

pub returns-in-Flushes-clause-step : goal.returns-in-Flushes-clause-step
returns-in-Flushes-clause-step g c =
    let before : ServerState = the_view c.self.inside in
    let is : before.work ≡ Some (work_with c.in-Some.work c.self.inside.unit) = works_on c.self.inside.work c.in-Some.work c.self.inside.unit c.in-Some.is in
    subst (λ (s : ServerState). Serves s c.args.channel.now c.args.table.now c.args.memory.now (g.D.Store.content c.args.store.now) c.tell_call-in-Flushes.new.self (record before { work = Some (work_with c.flush.new.self c.self.inside.unit) }) c.args.memory.now (g.D.Store.content c.flush.new.store))
    c.self.view_is
    (on_serves before c.args.channel.now c.args.table.now c.args.memory.now c.args.session (work_with c.in-Some.work c.self.inside.unit) (g.D.Store.content c.args.store.now)
    (g.D.Store.content c.flush.new.store) c.flush.result c.tell_call-in-Flushes.new.self (work_with c.flush.new.self c.self.inside.unit)
    (serves_in_work before c.args.self.now c.args.session _ c.args.channel.now c.self.view_is is c.requires.rule) is
    (c.flush.ensures.piece c.self.inside.region.first c.self.inside.unit) c.tell_call-in-Flushes.ensures)

pub returns-in-Gives-clause-step : goal.returns-in-Gives-clause-step
returns-in-Gives-clause-step g c =
    let before : ServerState = the_view c.self.inside in
    let is : before.work ≡ Some (work_with c.in-Some.work c.self.inside.unit) = works_on c.self.inside.work c.in-Some.work c.self.inside.unit c.in-Some.is in
    subst (λ (s : ServerState). Serves s c.args.channel.now c.args.table.now c.args.memory.now (g.D.Store.content c.args.store.now) c.tell_copy.new.self (record before { work = Some (work_with c.give_unit.new.self c.self.inside.unit) }) c.give_unit.new.memory (g.D.Store.content c.args.store.now))
    c.self.view_is
    (in_serves before c.args.channel.now c.args.table.now c.args.memory.now c.give_unit.new.memory (g.D.Store.content c.args.store.now) c.tell_copy.new.self
    (record before { work = Some (work_with c.give_unit.new.self c.self.inside.unit) })
    (piece_steps before c.args.channel.now c.args.table.now c.args.memory.now c.give_unit.new.memory c.args.session (work_with c.in-Some.work c.self.inside.unit) c.give_unit.result c.tell_copy.new.self
    (work_with c.give_unit.new.self c.self.inside.unit)
    (serves_in_work before c.args.self.now c.args.session _ c.args.channel.now c.self.view_is is c.requires.rule) c.give_unit.ensures.piece c.tell_copy.ensures))

pub returns-in-Gathers-clause-step : goal.returns-in-Gathers-clause-step
returns-in-Gathers-clause-step g c =
    let before : ServerState = the_view c.self.inside in
    let is : before.work ≡ Some (work_with c.in-Some.work c.self.inside.unit) = works_on c.self.inside.work c.in-Some.work c.self.inside.unit c.in-Some.is in
    subst (λ (s : ServerState). Serves s c.args.channel.now c.args.table.now c.args.memory.now (g.D.Store.content c.args.store.now) c.tell_copy-in-Gathers.new.self (record before { work = Some (work_with c.gather_unit.new.self c.gather_unit.new.buffer) }) c.args.memory.now (g.D.Store.content c.args.store.now))
    c.self.view_is
    (in_serves before c.args.channel.now c.args.table.now c.args.memory.now c.args.memory.now (g.D.Store.content c.args.store.now) c.tell_copy-in-Gathers.new.self
    (record before { work = Some (work_with c.gather_unit.new.self c.gather_unit.new.buffer) })
    (piece_steps before c.args.channel.now c.args.table.now c.args.memory.now c.args.memory.now c.args.session (work_with c.in-Some.work c.self.inside.unit) c.gather_unit.result c.tell_copy-in-Gathers.new.self
    (work_with c.gather_unit.new.self c.gather_unit.new.buffer)
    (serves_in_work before c.args.self.now c.args.session _ c.args.channel.now c.self.view_is is c.requires.rule) c.gather_unit.ensures.piece c.tell_copy-in-Gathers.ensures))

pub returns-in-Flushes-clause-within : goal.returns-in-Flushes-clause-within
returns-in-Flushes-clause-within g c =
    on_within c.args.self.now.blocks c.flush.result c.tell_call-in-Flushes.new.self c.tell_call-in-Flushes.ensures (c.flush.ensures.within c.args.self.now.blocks)
