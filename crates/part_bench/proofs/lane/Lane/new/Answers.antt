use Rattle.std.proofs.Common.{◌≡◌, ◌≤◌, ℕ, List, length, ap, ◌∙◌, arith}
use Rattle.std.proofs.lemmas.List.{length-replicate}
use Rattle.flat_store.specs.MemStoreState.{MemStoreState}
use Rattle.part_bench.proofs.lane.Lane.new.Goals as goal

pub over-requires : goal.over-requires
over-requires c =
    let long : length c.in_ok-zeros.field-0.bytes ≡ 2097152 = ap (λ (s : MemStoreState). length s.bytes) c.in_ok-zeros.ensures ∙ length-replicate {A = ℕ} 2097152 0 in
    omega (arith, long)
