-- The pages of an end's memory hold its ring and the buffers of its slots, where the slots are a power of two.
use Rattle.std.proofs.Common.{◌≡◌, ℕ, zero, suc, ◌+◌, ◌*◌, ◌^◌, ◌≤◌, sym, subst, arith}
use Rattle.vnet_msg.specs.Frames.{memory_pages}

power_some : (n : ℕ) → 1 ≤ 2 ^ n
power_some zero = omega arith
power_some (suc n) = omega (arith, power_some n)

abbrev Enough : ℕ → Type 0
Enough slots = 8192 + 2048 * slots ≤ 8192 * memory_pages slots

pub power_room : (k slots : ℕ) → slots ≡ 2 ^ k → 2 ≤ slots → slots ≤ 64 → 8192 + 2048 * slots ≤ 8192 * memory_pages slots
power_room zero slots is some most = absurd (omega (arith, is, some))
power_room (suc zero) slots is some most = subst Enough (sym is) (omega arith)
power_room (suc (suc zero)) slots is some most = subst Enough (sym is) (omega arith)
power_room (suc (suc (suc zero))) slots is some most = subst Enough (sym is) (omega arith)
power_room (suc (suc (suc (suc zero)))) slots is some most = subst Enough (sym is) (omega arith)
power_room (suc (suc (suc (suc (suc zero))))) slots is some most = subst Enough (sym is) (omega arith)
power_room (suc (suc (suc (suc (suc (suc zero)))))) slots is some most = subst Enough (sym is) (omega arith)
power_room (suc (suc (suc (suc (suc (suc (suc k))))))) slots is some most = absurd (omega (arith, is, most, power_some k))
