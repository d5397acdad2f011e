use Rattle.std.proofs.Common.{◌≡◌, true, false, is_some, ap, sym, subst, ◌∙◌}
use Rattle.ldc_link.specs.Calls.{Puts as PutsPacket}
use Rattle.ldc_link.specs.LinkState.{LinkState, is_up}
use Rattle.ldc_link.specs.Putting.{owes}
use Rattle.lane_models.specs.ServerState.{ServerState}
use Rattle.vdisk_server.specs.declared.answers.ServerOut.TheVariants as out
use Rattle.vdisk_server.specs.declared.putting.PutOf.{PutOf}
use Rattle.vdisk_server.specs.Putting.{PutsNext, PutsRightly, noted, put_of}
use Rattle.vdisk_server.specs.contracts.end.ServerEnd.{the_view}
use Rattle.vdisk_server.proofs.PutSteps.{handshake_owes, noted_link, opens_not, put_is}
use Rattle.vdisk_server.proofs.end.ServerEnd.put.Goals as goal

pub note_put-requires : goal.note_put-requires
note_put-requires c handshake =
    subst (λ (s : ServerState). is_some s.handshake.owed ≡ true) (sym c.self.view_is)
    (handshake_owes (is_up c.args.self.now.link) c.args.self.now.handshake.owed c.args.whose c.requires.whose handshake)

pub returns-in-Sent-clause-put : goal.returns-in-Sent-clause-put
returns-in-Sent-clause-put c =
    let before : ServerState = the_view c.self.inside in
    let sent : ServerState = record before { link = c.send.new.self } in
    let answers : PutsRightly before = subst PutsRightly (sym c.self.view_is) c.requires.answers in
    let link : c.note_put.new.self.link ≡ c.send.new.self =
    ap (λ (s : ServerState). s.link) c.note_put.ensures ∙ noted_link c.args.whose (owes c.send.new.self) sent in
    let whose : c.args.whose ≡ put_of (is_up before.link) before.handshake.owed = subst (λ (s : ServerState). c.args.whose ≡ put_of (is_up s.link) s.handshake.owed) (sym c.self.view_is) c.requires.whose in
    subst (λ (s : ServerState). PutsNext s c.args.channel.now (out.Sent c.in-Sent.packet false) c.note_put.new.self) c.self.view_is (
      subst (λ (k : LinkState). PutsPacket before.link c.in-Sent.packet k) (sym link) c.in-Sent.ensures.0,
      c.in-Sent.ensures.1,
      opens_not before answers,
      c.note_put.ensures ∙ ap (λ (w : PutOf). noted w (owes c.send.new.self) sent) whose
          ∙ put_is before c.send.new.self c.in-Sent.packet answers c.in-Sent.ensures.0,
    )
