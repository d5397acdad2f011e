use Rattle.std.proofs.Common.{◌≡◌, ◌≤◌, Some, slice_get, arith, sym, ◌∙◌, ap, subst}
use Rattle.std.specs.Option.{option_copied}
use Rattle.vdisk_msg.specs.declared.request.Request.TheVariants.{Read}
use Rattle.vdisk_msg.specs.Requests.{AreSound}
use Rattle.lane_models.specs.ClientState.{ClientState}
use Rattle.vdisk_client.proofs.Requests.{front_read}
use Rattle.vdisk_client.proofs.end.ClientEnd.front_len.Goals as goal

pub overflow_mul-result : goal.overflow_mul-result
overflow_mul-result c =
    let front : slice_get c.self.inside.pending.items 0 ≡ Some (Read c.in-Some-Read.field-0-0 c.in-Some-Read.count) =
    sym c.front.ensures ∙ ap option_copied c.in-Some-Read.is ∙ ap Some c.in-Some-Read.field-0-is in
    let sound : AreSound c.self.inside.blocks c.self.inside.pending.items = subst (λ (s : ClientState). AreSound s.blocks s.pending) (sym c.self.view_is) c.requires in
    let small : c.in-Some-Read.count ≤ 64 = front_read _ c.self.inside.pending.items c.in-Some-Read.field-0-0 c.in-Some-Read.count sound front in
    omega arith

pub overflow_cast-result : goal.overflow_cast-result
overflow_cast-result c =
    let front : slice_get c.self.inside.pending.items 0 ≡ Some (Read c.in-Some-Read.field-0-0 c.in-Some-Read.count) =
    sym c.front.ensures ∙ ap option_copied c.in-Some-Read.is ∙ ap Some c.in-Some-Read.field-0-is in
    let sound : AreSound c.self.inside.blocks c.self.inside.pending.items = subst (λ (s : ClientState). AreSound s.blocks s.pending) (sym c.self.view_is) c.requires in
    let small : c.in-Some-Read.count ≤ 64 = front_read _ c.self.inside.pending.items c.in-Some-Read.field-0-0 c.in-Some-Read.count sound front in
    omega arith
