-- Each round of a settle that isn't the last lowers what remains on all lanes, where they are clean: so few are made.
use Rattle.std.proofs.Common.{◌≡◌, ℕ, ◌+◌, ◌≤◌, ◌<◌, inl, inr, Bool, List, [], ◌∷◌, length, refl, subst, arith}
use Rattle.runs.specs.Run.{Run}
use Rattle.lane_kinds.proofs.Standing.{goes_on}
use Rattle.lane_kinds.specs.Laws.{Falls, Lowers}
use Rattle.lane_kinds.specs.Rounds.{Rounds}
use Rattle.lane_kinds.specs.Settles.{GoesOn, RunsOut, SettlePart, SettleRound, Settles, Settling, TicksBehind, begin, most_rounds}

at_most : (b : Bool) (n m : ℕ) → Lowers b n m → m ≤ n
at_most b n m (inl quiet) = quiet.1
at_most b n m (inr less) = omega (arith, less)

below : (a b c : ℕ) → a < b → b ≤ c → a < c
below a b c one two = omega (arith, one, two)

one_round : (n m a b c : ℕ) → m ≡ n + 1 → n + a ≤ b → b < c → m + a ≤ c
one_round n m a b c is many less = omega (arith, is, many, less)

under : (a b c d : ℕ) → a + b ≤ c → c < d → a < d
under a b c d sum less = omega (arith, sum, less)

module _ {W M R E : Type 0} (K : Rounds W M R E) (Clean : W → Type 0) (remaining : W → ℕ) (laws : Falls K Clean remaining) where
  fell : (quiet : Bool) (w : Settling W M) (steps : R) (between : W) (entries : List E) (v : Settling W M) → Clean w.lanes → K.Makes w.lanes steps between → K.quiet steps ≡ quiet
      → TicksBehind K quiet w steps between entries v → remaining v.lanes < remaining w.lanes
  fell quiet w steps between entries v clean made loud behind = grind arith

  -- so many rounds lower it by as many
  pub rounds_lower : (w : Settling W M) (rounds : List (SettleRound R E)) (v : Settling W M) → Clean w.lanes → Run (GoesOn K) w rounds v → length rounds + remaining v.lanes ≤ remaining w.lanes
  rounds_lower w [] v clean run = subst (λ (x : Settling W M). 0 + remaining x.lanes ≤ remaining w.lanes) run (omega (arith))
  rounds_lower w (round ∷ rounds) v clean run =
      one_round (length rounds) (length (round ∷ rounds)) (remaining v.lanes) (remaining run.0.lanes) (remaining w.lanes) (omega (arith))
      (rounds_lower run.0 rounds v (goes_on K (λ x m. Clean x) laws.keeps w round run.0 run.1 clean) run.2)
      (fell (K.quiet round.steps) w round.steps run.1.between round.entries run.0 clean run.1.made refl run.1.behind)

  -- fewer than may be, where less remains than rounds may be made
  pub rounds_few : (start : W) (rounds : List (SettleRound R E)) (now : Settling W M) → Clean start → remaining start < most_rounds K start → Run (GoesOn K) (begin K start) rounds now
      → length rounds < most_rounds K start
  rounds_few start rounds now clean few run = grind (arith, rounds_lower)

  pub never_out : (start : W) (part : List E) (behind : W) → Clean start → remaining start < most_rounds K start → RunsOut K start part behind → ⊥
  never_out start part behind clean few out = grind (arith, rounds_few)

  pub ends_settled : (start : W) (part : List E) (behind : W) → Clean start → remaining start < most_rounds K start → SettlePart K start part behind → Settles K start part behind
  ends_settled start part behind clean few (inl settles) = settles
  ends_settled start part behind clean few (inr out) = absurd (never_out start part behind clean few out)
