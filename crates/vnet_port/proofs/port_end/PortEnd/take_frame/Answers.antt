use Rattle.std.proofs.Common.{refl, sym, ap, ◌∙◌, subst}
use Rattle.port_frames.specs.Memories.{reach_over}
use Rattle.lane_models.specs.Fetching.{fetched}
use Rattle.lane_models.specs.NetEndState.{NetEndState, peer_ring}
use Rattle.vnet_port.proofs.FetchEnds.{takes_frame}
use Rattle.vnet_port.specs.contracts.port_end.PortEnd.{the_view}
use Rattle.vnet_port.specs.Fetches.{TakesFrame}
use Rattle.vnet_port.proofs.port_end.PortEnd.take_frame.Goals as goal

pub returns-clause-takes : goal.returns-clause-takes
returns-clause-takes c =
    let s : NetEndState = the_view c.self.inside in
    let t : NetEndState = record s { last = c.take.new.self } in
    subst (λ (x : NetEndState). TakesFrame c.take.result (fetched x (reach_over c.args.channel.now c.args.table.now c.args.peer.now) c.args.slot) x c.args.peer.now t c.take.new.peer)
    c.self.view_is
    (takes_frame c.take.result (fetched s (reach_over c.args.channel.now c.args.table.now c.args.peer.now) c.args.slot) s t c.args.peer.now c.take.new.peer c.take.new.self
    (c.take.ensures.takes s (c.requires.ring ∙ ap peer_ring (sym c.self.view_is))) refl)
