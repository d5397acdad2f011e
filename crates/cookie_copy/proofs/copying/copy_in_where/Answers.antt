use Rattle.std.proofs.Common.{ℕ, List, length, map, sym, ap, ◌∙◌}
use Rattle.cookie_copy.specs.Moved.{byte_of}
use Rattle.cookie_copy.proofs.Loops.{moved_map}
use Rattle.cookie_copy.proofs.copying.copy_in_where.Goals as goal

pub returns-in-Some-clause-moved : goal.returns-in-Some-clause-moved
returns-in-Some-clause-moved c =
    let f : ℕ → ℕ = byte_of c.args.table.now c.args.memory.now in
    c.read_page.ensures
    ∙ ap (λ (xs : List ℕ). map f xs) (sym c.in-Some.ensures.spots)
    ∙ moved_map f c.args.cookies.now c.args.offset (length c.args.buf.now)
