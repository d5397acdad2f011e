use Rattle.std.proofs.Common.{◌≡◌, ◌≢◌, None, sym, subst, ◌∙◌, ap}
use Rattle.ldc_link.specs.Calls.{Sends}
use Rattle.ldc_link.specs.declared.answers.SendOut.TheVariants as send
use Rattle.ldc_queue.specs.declared.end.End.{End}
use Rattle.lane_models.specs.NetEndState.{NetEndState}
use Rattle.lane_models.specs.EndPuts.{put_opens}
use Rattle.vnet_port.proofs.SentSteps.{handshake_owes, put_sent}
use Rattle.vnet_port.specs.declared.putting.PutOf.{PutOf}
use Rattle.vnet_port.specs.Putting.{MayOpen, PutsHeld, kind_of, next_put, noted}
use Rattle.vnet_port.specs.declared.net_out.NetOut.TheVariants as out
use Rattle.vnet_port.specs.contracts.port_end.PortEnd.{the_view}
use Rattle.vnet_port.specs.Calls.{end_of}
use Rattle.vnet_port.proofs.port_end.PortEnd.put.Goals as goal

pub note_put-opens-requires-clause-owed : goal.note_put-opens-requires-clause-owed
note_put-opens-requires-clause-owed c =
    λ handshake. subst (λ (s : NetEndState). s.handshake.owed ≢ None) (sym c.self.view_is) (handshake_owes c.args.self.now c.args.whose c.requires.whose handshake)

pub returns-in-Sent-clause-put : goal.returns-in-Sent-clause-put
returns-in-Sent-clause-put c =
    let s : NetEndState = the_view c.self.inside in
    let may : MayOpen s = subst MayOpen (sym c.self.view_is) c.requires.may in
    let whose : c.args.whose ≡ next_put s = subst (λ (x : NetEndState). c.args.whose ≡ next_put x) (sym c.self.view_is) c.requires.whose in
    let end : c.end-end.result ≡ end_of s = c.end-end.ensures ∙ ap end_of (sym c.self.view_is) in
    subst (λ (s : NetEndState). PutsHeld s c.args.channel.now c.args.memory.now (out.Sent c.in-Sent.packet c.note_put-opens.result) c.note_put-opens.new.self c.send.new.channel c.note_put-opens.new.memory)
    c.self.view_is
    (put_sent s c.note_put-opens.new.self c.send.new.self c.args.channel.now c.send.new.channel c.args.memory.now c.note_put-opens.new.memory c.in-Sent.packet c.note_put-opens.result
    may.same_role
    (subst (λ (e : End). Sends e c.self.inside.link c.args.channel.now (send.Sent c.in-Sent.packet) c.send.new.self c.send.new.channel) end c.in-Sent.ensures)
    (c.note_put-opens.ensures.state ∙ ap (λ (w : PutOf). noted (kind_of w c.send.new.self) (record s { link = c.send.new.self })) whose)
    (c.note_put-opens.ensures.opens ∙ ap (λ (w : PutOf). put_opens (kind_of w c.send.new.self) c.self.inside.handshake) whose)
    c.note_put-opens.ensures.memory)
