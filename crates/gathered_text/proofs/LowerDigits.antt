-- The digits of the values below sixteen.
use Rattle.std.proofs.Common.{◌≡◌, refl, ℕ, ◌+◌, ◌-◌, ◌<◌, ◌≤◌, zero, suc, ap, ◌∙◌, arith}
use Rattle.std.specs.Prelude.{slice_index}
use Rattle.hex.specs.Hex.{lower_digits}

-- 0 to 9, and after them a to f
pub figure_of : (n : ℕ) → n < 10 → 48 + n ≡ slice_index lower_digits n
figure_of zero lt = refl
figure_of (suc zero) lt = refl
figure_of (suc (suc zero)) lt = refl
figure_of (suc (suc (suc zero))) lt = refl
figure_of (suc (suc (suc (suc zero)))) lt = refl
figure_of (suc (suc (suc (suc (suc zero))))) lt = refl
figure_of (suc (suc (suc (suc (suc (suc zero)))))) lt = refl
figure_of (suc (suc (suc (suc (suc (suc (suc zero))))))) lt = refl
figure_of (suc (suc (suc (suc (suc (suc (suc (suc zero)))))))) lt = refl
figure_of (suc (suc (suc (suc (suc (suc (suc (suc (suc zero))))))))) lt = refl
figure_of (suc (suc (suc (suc (suc (suc (suc (suc (suc (suc n)))))))))) lt = absurd (omega arith)

letter_behind : (n : ℕ) → n < 6 → 97 + n ≡ slice_index lower_digits (10 + n)
letter_behind zero lt = refl
letter_behind (suc zero) lt = refl
letter_behind (suc (suc zero)) lt = refl
letter_behind (suc (suc (suc zero))) lt = refl
letter_behind (suc (suc (suc (suc zero)))) lt = refl
letter_behind (suc (suc (suc (suc (suc zero))))) lt = refl
letter_behind (suc (suc (suc (suc (suc (suc n)))))) lt = absurd (omega arith)

pub letter_of : (n : ℕ) → 10 ≤ n → n < 16 → 87 + n ≡ slice_index lower_digits n
letter_of n least most =
    let front : 10 + (n - 10) ≡ n = omega arith in
    let sum : 87 + n ≡ 97 + (n - 10) = omega arith in
    sum ∙ letter_behind (n - 10) (omega arith) ∙ ap (λ (m : ℕ). slice_index lower_digits m) front
