use Rattle.std.proofs.Common.{◌≡◌, true, is_some, sym, ap, ◌∙◌, subst}
use Rattle.lane_models.specs.ClientPutting.{is_announcing}
use Rattle.lane_models.specs.ClientState.{ClientState}
use Rattle.lane_models.specs.EndPuts.{put_opens}
use Rattle.vdisk_client.proofs.HeldPuts.{handshake_owes, own_counts, put_sent}
use Rattle.vdisk_client.specs.declared.answers.ClientOut.TheVariants as out
use Rattle.ldc_link.specs.LinkState.{is_up}
use Rattle.vdisk_client.specs.declared.putting.PutOf.{PutOf}
use Rattle.vdisk_client.specs.Putting.{CountsMore, PutsHeld, kind_of, noted, put_of}
use Rattle.vdisk_client.specs.contracts.end.ClientEnd.{the_view}
use Rattle.vdisk_client.proofs.end.ClientEnd.put.Goals as goal

pub note_put-opens-requires-clause-owed : goal.note_put-opens-requires-clause-owed
note_put-opens-requires-clause-owed c =
    λ handshake.
    subst (λ (s : ClientState). is_some s.handshake.owed ≡ true) (sym c.self.view_is)
    (handshake_owes c.args.self.now c.args.whose c.requires.own c.requires.owes c.requires.whose handshake)

pub note_put-opens-requires-clause-infos : goal.note_put-opens-requires-clause-infos
note_put-opens-requires-clause-infos c =
    λ own. subst (λ (s : ClientState). CountsMore s.session) (sym c.self.view_is) (own_counts c.args.self.now c.args.whose c.requires.own c.requires.whose own)

pub returns-in-Sent-clause-put : goal.returns-in-Sent-clause-put
returns-in-Sent-clause-put c =
    let whose : c.args.whose ≡ put_of (is_up c.self.inside.link) (is_announcing c.self.inside.session) =
    subst (λ (s : ClientState). c.args.whose ≡ put_of (is_up s.link) (is_announcing s.session)) (sym c.self.view_is) c.requires.whose in
    subst (λ (s : ClientState). PutsHeld s c.args.channel.now c.args.memory.now (out.Sent c.in-Sent.packet c.note_put-opens.result) c.note_put-opens.new.self c.send.new.channel c.note_put-opens.new.memory)
    c.self.view_is
    (put_sent (the_view c.self.inside) c.note_put-opens.new.self c.send.new.self c.args.channel.now c.send.new.channel c.args.memory.now c.note_put-opens.new.memory c.in-Sent.packet c.note_put-opens.result
    c.in-Sent.ensures
    (c.note_put-opens.ensures.state ∙ ap (λ (w : PutOf). noted (kind_of w c.send.new.self) (record (the_view c.self.inside) { link = c.send.new.self })) whose)
    (c.note_put-opens.ensures.opens ∙ ap (λ (w : PutOf). put_opens (kind_of w c.send.new.self) c.self.inside.handshake) whose)
    c.note_put-opens.ensures.memory)
