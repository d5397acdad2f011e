use Rattle.std.proofs.Common.{◌≡◌, ap, sym, subst, ◌∙◌}
use Rattle.ldc_link.specs.LinkState.{cleared}
use Rattle.lane_models.specs.ServerState.{ServerState, joined_server}
use Rattle.lane_models.specs.ServerTaking.{reads}
use Rattle.vdisk_server.specs.Hearing.{CanHear, risen, took}
use Rattle.vdisk_server.specs.contracts.end.ServerEnd.{the_view}
use Rattle.vdisk_server.proofs.HearSteps.{can_cleared, can_of, cleared_at, decoded_at, hears_of, on_err_then, risen_joined}
use Rattle.vdisk_server.proofs.end.ServerEnd.hear.Goals as goal

pub hear_decoded-requires : goal.hear_decoded-requires
hear_decoded-requires c =
    let rose : ServerState = risen c.args.was_up c.args.self.now in
    subst CanHear (sym (cleared_at rose (the_view c.self.inside) c.clear_message.new.self (c.self.view_is ∙ c.rise.ensures) c.clear_message.ensures))
    (can_cleared rose (cleared rose.link)
    (can_of c.args.self.now.link.whole c.decode-decoded.result rose
    (decoded_at c.args.was_up c.args.self.now (the_view c.self.inside) _ c.decode-decoded.result (c.self.view_is ∙ c.rise.ensures) c.in-Some.ensures c.decode-decoded.ensures.decodes)
    c.requires.hears))

pub returns-clause-heard : goal.returns-clause-heard
returns-clause-heard c =
    let rose : ServerState = risen c.args.was_up c.args.self.now in
    hears_of rose c.args.self.now.link.whole c.decode-decoded.result (took c.hear_decoded.result c.hear_decoded.new.self)
    (decoded_at c.args.was_up c.args.self.now (the_view c.self.inside) _ c.decode-decoded.result (c.self.view_is ∙ c.rise.ensures) c.in-Some.ensures c.decode-decoded.ensures.decodes)
    (c.hear_decoded.ensures.heard
    ∙ ap (λ (s : ServerState). reads s c.decode-decoded.result)
    (cleared_at rose (the_view c.self.inside) c.clear_message.new.self (c.self.view_is ∙ c.rise.ensures) c.clear_message.ensures))

pub returns-clause-kept : goal.returns-clause-kept
returns-clause-kept c =
    on_err_then c.hear_decoded.result (c.hear_decoded.new.self ≡ record (the_view c.self.inside) { link = c.clear_message.new.self })
    (joined_server c.hear_decoded.new.self ≡ joined_server c.args.self.now)
    (λ same. ap joined_server
    (same ∙ cleared_at (risen c.args.was_up c.args.self.now) (the_view c.self.inside) c.clear_message.new.self (c.self.view_is ∙ c.rise.ensures) c.clear_message.ensures)
    ∙ risen_joined c.args.was_up c.args.self.now c.requires.role)
    c.hear_decoded.ensures.kept
