use Rattle.std.proofs.Common.{ℕ, List, Result, subst}
use Rattle.vio_tag.specs.declared.cause.Cause.{Cause}
use Rattle.descriptor_work.specs.Calling.{reach_over}
use Rattle.vdisk_server.specs.Pieces.{FetchedOr}
use Rattle.vdisk_server.proofs.SlotSteps.{fetch_resets, fetch_step}
use Rattle.vdisk_server.proofs.end.ServerEnd.fetch.Goals as goal

pub returns-in-Ok-clause-step : goal.returns-in-Ok-clause-step
returns-in-Ok-clause-step c =
    fetch_step c.args.self.now c.args.channel.now c.args.table.now c.args.memory.now c.fetch_ready.new.memory c.args.session c.next_slot-slot.result
    c.in-Ok.bytes c.begin_work.new.self c.requires.rule c.requires.session
    c.next_slot-slot.ensures.slot
    (subst (λ (r : Result (List ℕ) Cause). FetchedOr r c.args.self.now (reach_over c.args.channel.now c.args.table.now c.args.memory.now)
    c.next_slot-slot.result c.fetch_ready.new.memory) c.in-Ok.is c.fetch_ready.ensures.fetched)
    c.begin_work.ensures

pub returns-in-Err-clause-step : goal.returns-in-Err-clause-step
returns-in-Err-clause-step c =
    fetch_resets c.args.self.now c.args.channel.now c.args.table.now c.args.memory.now c.fetch_ready.new.memory c.args.session c.next_slot-slot.result
    c.in-Err.cause c.reset_for.new.out c.reset_for.new.self c.requires.rule
    c.next_slot-slot.ensures.slot
    (subst (λ (r : Result (List ℕ) Cause). FetchedOr r c.args.self.now (reach_over c.args.channel.now c.args.table.now c.args.memory.now)
    c.next_slot-slot.result c.fetch_ready.new.memory) c.in-Err.is c.fetch_ready.ensures.fetched)
    c.reset_for.ensures.answer c.reset_for.ensures.state
