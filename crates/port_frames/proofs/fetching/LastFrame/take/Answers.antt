use Rattle.std.proofs.Common.{rules, ◌≡◌, ℕ, List, sym, ◌∙◌, ap}
use Rattle.cookie_copy.specs.Reach.{Reach}
use Rattle.port_frames.proofs.SlotFinds.{frame_taken, ready}
use Rattle.port_frames.specs.Memories.{reach_over}
use Rattle.lane_models.specs.Fetching.{IsFrame}
use Rattle.lane_models.specs.NetEndState.{NetEndState}
use Rattle.port_frames.proofs.fetching.LastFrame.take.Goals as goal

pub returns-clause-takes : goal.returns-clause-takes
returns-clause-takes c = λ (s : NetEndState) ring.
    let reach : Reach = reach_over c.args.channel.now c.args.table.now c.args.peer.now in
    let swapped : c.swap.new.x ≡ c.copy.new.self = search rules in
    ready s reach c.args.slot c.args.ring.now ring c.in-Ok.bytes c.decode-desc.result
    c.in-Ok.ensures.copied c.in-Ok.ensures.fetched c.in-Ok.ensures.ready c.decode-desc.ensures
    ∙ frame_taken s reach c.args.slot c.decode-desc.result c.args.ring.now ring c.copy.new.self
    (sym c.holds_frame.ensures ∙ c.if-not-holds_frame.false)
    c.in-Ok-copy.ensures.fault c.in-Ok-copy.ensures.copied c.mark.new.memory c.done_header.result c.in-Ok-mark.ensures.fault c.done_header.ensures
    c.in-Ok-mark.ensures.written
    ∙ ap (λ (f : List ℕ). IsFrame f c.mark.new.memory) (sym swapped)
