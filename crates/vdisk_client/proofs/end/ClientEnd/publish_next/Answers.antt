use Rattle.std.proofs.Common.{sym, ◌∙◌, ap, subst}
use Rattle.std.specs.Option.{option_copied}
use Rattle.vdisk_client.proofs.Requests.{MayBeAsked, small_size, sound_at}
use Rattle.vdisk_client.specs.Standing.{RequestsStand}
use Rattle.vdisk_client.specs.contracts.end.ClientEnd.{the_view}
use Rattle.vdisk_client.proofs.end.ClientEnd.publish_next.Goals as goal

pub put_request-requires-clause-size : goal.put_request-requires-clause-size
put_request-requires-clause-size c =
    let stands : RequestsStand (the_view c.self.inside) = subst RequestsStand (sym c.self.view_is) c.requires.stands.requests in
    let asked : MayBeAsked _ c.in-Some.request.now =
    sound_at _ c.self.inside.pending.items _ c.in-Some.request.now stands.sound (sym c.get.ensures ∙ ap option_copied c.in-Some.is) in
    small_size _ c.in-Some.request.now asked.admitted

pub put_request-requires-clause-fill : goal.put_request-requires-clause-fill
put_request-requires-clause-fill c =
    let stands : RequestsStand (the_view c.self.inside) = subst RequestsStand (sym c.self.view_is) c.requires.stands.requests in
    let asked : MayBeAsked _ c.in-Some.request.now =
    sound_at _ c.self.inside.pending.items _ c.in-Some.request.now stands.sound (sym c.get.ensures ∙ ap option_copied c.in-Some.is) in
    asked.fill
