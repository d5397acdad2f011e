-- The front of pages, as far as a size.
use Rattle.std.proofs.Common.{◌≡◌, ℕ, ◌*◌, ◌≤◌, List, take, replicate, ap, ◌∙◌}
use Rattle.std.proofs.lemmas.List.{take-replicate}

-- pages of zeros as far as a size
pub size_zeros : (pages : List ℕ) (size count : ℕ) → pages ≡ replicate (4096 * count) 0 → size ≤ 4096 * count → take size pages ≡ replicate size 0
size_zeros pages size count is room = ap (λ (l : List ℕ). take size l) is ∙ take-replicate {X = ℕ} size (4096 * count) 0 room
