use Rattle.std.proofs.Common.{◌≡◌, ℕ, ◌+◌, List, ◌++◌, length, ap, sym, subst, ◌∙◌, arith}
use Rattle.std.proofs.lemmas.List.{length-append}
use Rattle.kept_requests.specs.Bytes.{BytesState}
use Rattle.kept_requests.specs.Packed.{AreKept, unpacked}
use Rattle.kept_requests.proofs.PackedBlocks.{kept_behind, unpacked_behind}
use Rattle.kept_requests.proofs.bytes.Bytes.fill.Goals as goal

pub invariant_of-self : goal.invariant_of-self
invariant_of-self c =
    let i = c.self.invariant in
    let e = c.keep_blocks-rest.ensures in
    let lengths : List ℕ = c.keep_blocks-rest.new.lengths.items in
    let kept : List ℕ = c.keep_blocks-rest.new.kept.items in
    let rest : List ℕ = c.keep_blocks-rest.result.now in
    let room : c.self.inside.room ≡ c.args.self.now.room = ap (λ (s : BytesState). s.room) c.self.view_is in
    let all : c.extend_from_slice.new.self.items ≡ kept ++ rest = c.in-Ok.ensures.ok in
    let long : length c.extend_from_slice.new.self.items ≡ length kept + length rest = ap length all ∙ length-append kept rest in
    record {
      kept = subst (AreKept lengths) (sym all) (kept_behind lengths kept rest e.kept);
      plain = omega (arith, e.plain, long);
      small = omega (arith, i.small, e.count, room, c.requires);
      room = omega (arith, i.room, e.room, e.long, long, room, c.requires, c.extend_from_slice.ensures.capacity);
      length_room = omega (arith, i.length_room, e.count, e.length_room, room, c.requires);
    }

pub returns-clause-items : goal.returns-clause-items
returns-clause-items c =
    let e = c.keep_blocks-rest.ensures in
    let lengths : List ℕ = c.keep_blocks-rest.new.lengths.items in
    let kept : List ℕ = c.keep_blocks-rest.new.kept.items in
    let rest : List ℕ = c.keep_blocks-rest.result.now in
    ap (unpacked lengths) c.in-Ok.ensures.ok
    ∙ unpacked_behind lengths kept rest e.kept
    ∙ e.items
    ∙ ap (λ (s : BytesState). s.items ++ c.args.bytes.now) c.self.view_is
