use Rattle.std.proofs.Common.{ℕ, ◌+◌, sym, ap, ◌∙◌}
use Rattle.lane_models.specs.NetEndTaking.{slot_state}
use Rattle.port_frames.proofs.Ranges.{slot_at, undone_here, undone_more}
use Rattle.port_frames.proofs.own_slots.first_undone.Goals as goal

pub returns-then-state-ne-VIO_DESC_DONE : goal.returns-then-state-ne-VIO_DESC_DONE
returns-then-state-ne-VIO_DESC_DONE c =
    let slot_is = slot_at c.slot_of-slot.result (c.args.number + c.loop-index.index) c.args.slots c.slot_of-slot.ensures.slot in
    sym (c.loop-index.invariant
    ∙ undone_here c.args.slots c.args.memory.now c.args.number c.args.count c.loop-index.index c.loop-index-test.true
    c.slot_of-slot.result c.slot_state-state.result slot_is
    (c.slot_state-state.ensures ∙ ap (λ (slot : ℕ). slot_state slot c.args.memory.now) slot_is) c.if-state-ne-VIO_DESC_DONE.true)

pub loop-index-preserved : goal.loop-index-preserved
loop-index-preserved c =
    let slot_is = slot_at c.slot_of-slot.result (c.args.number + c.loop-index.index) c.args.slots c.slot_of-slot.ensures.slot in
    c.loop-index.invariant
    ∙ undone_more c.args.slots c.args.memory.now c.args.number c.args.count c.loop-index.index c.loop-index-test.true
    (ap (λ (slot : ℕ). slot_state slot c.args.memory.now) (sym slot_is) ∙ sym c.slot_state-state.ensures ∙ c.if-state-ne-VIO_DESC_DONE.false)
