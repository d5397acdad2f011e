use Rattle.std.proofs.Common.{ℕ, ◌≡◌, List, length, ap, ◌∙◌, arith}
use Rattle.std.proofs.lemmas.List.{length-replicate}
use Rattle.zero_pages.proofs.Zeros.{none_by, zeros_by}
use Rattle.zero_pages.proofs.pages.ZeroPages.new.Goals as goal

pub invariant_of-result : goal.invariant_of-result
invariant_of-result c =
    let places : List ℕ = c.in_ok-no_places.field-0.items in
    let long : length places ≡ c.args.count = ap (λ (l : List ℕ). length l) c.in_ok-no_places.ensures.places ∙ length-replicate {A = ℕ} c.args.count 0 in
    (none_by c.in_ok-with_capacity.field-0.items places c.args.count c.in_ok-with_capacity.ensures.items c.in_ok-no_places.ensures.places, omega (arith, long, c.in_ok-with_capacity.ensures.capacity, c.in-Some.ensures))

pub returns-clause-zeros : goal.returns-clause-zeros
returns-clause-zeros c = zeros_by _ c.in_ok-no_places.field-0.items c.args.count c.in_ok-no_places.ensures.places
