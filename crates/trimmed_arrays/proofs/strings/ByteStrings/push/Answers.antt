use Rattle.std.proofs.Common.{◌≡◌, ◌≤◌, ◌<◌, ◌+◌, ◌*◌, ◌-◌, ◌++◌, ◌∷◌, [], ℕ, length, vec_capacity, ap, ◌∙◌, arith}
use Rattle.std.proofs.lemmas.List.{length-append}
use Rattle.trimmed_arrays.specs.Strings.{StringsState}
use Rattle.trimmed_arrays.proofs.Fronts.{one_more, room_left, still_strings}
use Rattle.trimmed_arrays.proofs.strings.ByteStrings.push.Goals as goal

pub invariant_of-self : goal.invariant_of-self
invariant_of-self c =
    let most : c.self.inside.most ≡ c.args.self.now.most = ap (λ (s : StringsState). s.most) c.self.view_is in
    let room : c.self.inside.room ≡ c.args.self.now.room = ap (λ (s : StringsState). s.room) c.self.view_is in
    let some : 0 < c.self.inside.room = omega arith in
    let within : length c.args.string.now ≤ c.self.inside.most = omega arith in
    let left : length c.self.inside.bytes.items + length c.args.string.now + c.self.inside.most * (c.self.inside.room - 1) ≤ vec_capacity c.self.inside.bytes =
    room_left c.self.inside.most c.self.inside.room (length c.self.inside.bytes.items) (length c.args.string.now) _ c.self.invariant.byte_room some within in
    record {
      small = c.self.invariant.small;
      strings = still_strings _ _ _ _ _ c.keep_string.ensures.lengths c.keep_string.ensures.bytes c.self.invariant.strings within;
      length_room = omega (arith, ap length c.keep_string.ensures.lengths, length-append {A = ℕ});
      byte_room = omega (arith, ap length c.keep_string.ensures.bytes, length-append {A = ℕ});
    }

pub returns-clause-items : goal.returns-clause-items
returns-clause-items c =
    one_more c.self.inside.most _ _ _ _ _ c.keep_string.ensures.lengths c.keep_string.ensures.bytes c.self.invariant.strings
    ∙ ap (λ (s : StringsState). s.items ++ c.args.string.now ∷ []) c.self.view_is
