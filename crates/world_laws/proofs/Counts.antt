-- Counts over entries one after another.
use Rattle.std.proofs.Common.{◌≡◌, ℕ, ◌+◌, ◌≤◌, ◌⊎◌, inl, inr, Bool, true, false, refl, arith}
use Rattle.std.specs.Prelude.{◌&&◌, ◌==◌, if◌then◌else◌}
use Rattle.ldc_queue.specs.declared.end.End.{End}
use Rattle.lane_models.specs.WireEvent.{Blocked}
use Rattle.lane_models.specs.DiskEvent.{OnWire}
use Rattle.world_laws.specs.Moves.{is_end, moves, stuck}
use Rattle.world_laws.specs.Settle.{OfLane, SettleEntry}

-- how often the end found no room at all
abbrev pub blocked : ℕ → End → SettleEntry → ℕ
blocked k e (OfLane j (OnWire (Blocked d))) = if (j == k) && is_end d e then 1 else 0
blocked k e _ = 0

counted : (c : Bool) (n : ℕ) → (if c then n + 1 else n) ≤ n + (if c then 1 else 0)
counted true n = omega (arith)
counted false n = omega (arith)

pub stuck_most : (k : ℕ) (e : End) (n : ℕ) (x : SettleEntry) → stuck k e n x ≤ n + blocked k e x
stuck_most k e n x = grind arith

-- an entry is Blocked, or the answer of the settle; or nothing is stuck after it
pub still_or_none : (k : ℕ) (e : End) (x : SettleEntry) → (moves x ≡ 0) ⊎ ((n : ℕ) → stuck k e n x ≡ 0)
still_or_none k e (OfLane j (OnWire (Blocked d))) = inl refl
still_or_none k e _ = inr (λ n. refl)
