use Rattle.std.proofs.Common.{ℕ, ◌≤◌, sym, ◌∙◌, ap, subst}
use Rattle.std.specs.Prelude.{◌==◌}
use Rattle.std.specs.Option.{option_copied}
use Rattle.vdisk_msg.specs.Check.{most_bytes}
use Rattle.vdisk_msg.specs.Requests.{given_count}
use Rattle.vdisk_client.proofs.Requests.{MayBeAsked, most_given, small_given, sound_at}
use Rattle.vdisk_client.specs.Standing.{RequestsStand}
use Rattle.vdisk_client.specs.contracts.end.ClientEnd.{the_view}
use Rattle.vdisk_client.proofs.end.ClientEnd.finish.Goals as goal

pub given_len-len-requires : goal.given_len-len-requires
given_len-len-requires c =
    let stands : RequestsStand (the_view c.self.inside) = subst RequestsStand (sym c.self.view_is) c.requires.requests in
    let asked : MayBeAsked _ c.in-Some.request.now =
    sound_at _ c.self.inside.pending.items 0 c.in-Some.request.now stands.sound (sym c.front.ensures ∙ ap option_copied c.in-Some.is) in
    small_given _ c.in-Some.request.now asked.admitted

pub take_bytes-requires-clause-most : goal.take_bytes-requires-clause-most
take_bytes-requires-clause-most c =
    let stands : RequestsStand (the_view c.self.inside) = subst RequestsStand (sym c.self.view_is) c.requires.requests in
    let asked : MayBeAsked _ c.in-Some.request.now =
    sound_at _ c.self.inside.pending.items 0 c.in-Some.request.now stands.sound (sym c.front.ensures ∙ ap option_copied c.in-Some.is) in
    subst (λ (n : ℕ). n ≤ most_bytes) (sym c.given_len-len.ensures)
    (most_given (c.args.status == 0) (given_count c.in-Some.request.now) (small_given _ c.in-Some.request.now asked.admitted))
