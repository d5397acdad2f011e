-- CountsRounds over the part of a settle: what only ticks add is what the marks say; and each round that goes on moves
-- something.
use Rattle.std.proofs.Common.{◌≡◌, ℕ, ◌+◌, ◌≤◌, Bool, List, [], ◌∷◌, length, arith}
use Rattle.runs.specs.Run.{Run}
use Rattle.lane_kinds.specs.Fronts.{Fronts, SettleFront}
use Rattle.lane_kinds.specs.Laws.{CountsRounds, FrontsCount, Moves}
use Rattle.lane_kinds.specs.Rounds.{Rounds}
use Rattle.lane_kinds.specs.Settles.{GoesOn, RunsOut, SettlePart, SettleRound, Settles, Settling, TicksBehind, entries_of_rounds, most_rounds}

still_marked : (a n : ℕ) → a ≤ 0 → a + n ≡ n
still_marked a n none = omega (arith, none)

both_rounds : (all one rest a b c : ℕ) → all ≡ one + rest → one + a ≡ b → rest + b ≡ c → all + a ≡ c
both_rounds all one rest a b c sum first second = omega (arith, sum, first, second)

no_more : (all rounds last mark new : ℕ) → all ≡ rounds + last → rounds + mark ≡ new → new ≤ 1 → last ≤ 0 → all ≤ 1
no_more all rounds last mark new sum some most none = omega (arith, sum, some, most, none)

none_counted : (n m : ℕ) → n ≡ n + m → m ≤ 0
none_counted n m is = omega (arith, is)

first_part : (all a b : ℕ) → all ≡ a + b → all ≤ 0 → a ≤ 0
first_part all a b sum none = omega (arith, sum, none)

module _ {W M R E : Type 0} (K : Rounds W M R E) (count : List E → ℕ) (mark : M → ℕ) (laws : CountsRounds K count mark) where
  count_nil : count [] ≤ 0
  count_nil = none_counted (count []) (count []) (laws.both [] [])

  goes_counted : (quiet : Bool) (w : Settling W M) (steps : R) (between : W) (entries : List E) (v : Settling W M) → K.Makes w.lanes steps between
      → TicksBehind K quiet w steps between entries v → count entries + mark w.marks ≡ mark v.marks
  goes_counted quiet w steps between entries v made behind = grind (arith, still_marked)

  rounds_counted : (w : Settling W M) (rounds : List (SettleRound R E)) (v : Settling W M) → Run (GoesOn K) w rounds v → count (entries_of_rounds rounds) + mark w.marks ≡ mark v.marks
  rounds_counted w (round ∷ rounds) v run = grind (arith, both_rounds, goes_counted, rounds_counted run.0 rounds v run.2)
  rounds_counted w rounds v run = grind (arith, still_marked, count_nil)

  pub settles_counted : (start : W) (part : List E) (behind : W) (at : Settles K start part behind) → count part ≡ mark at.now.marks
  settles_counted start part behind at = grind (arith, rounds_counted)

  pub part_counted : (start : W) (part : List E) (behind : W) → SettlePart K start part behind → count part ≤ 1
  part_counted start part behind given = grind (arith, settles_counted, rounds_counted)

  -- A FRONT
  module _ (F : Fronts W M E) (fronts : FrontsCount F count mark) where
    pub front_counted : (start : W) (part : List E) (behind : W) → SettleFront K F start part behind → count part ≤ 1
    front_counted start part behind given = grind (arith, rounds_counted)

-- EACH ROUND THAT GOES ON
more_moves : (n m all one rest : ℕ) → m ≡ n + 1 → all ≡ one + rest → 1 ≤ one → n ≤ rest → m ≤ all
more_moves n m all one rest is sum some others = omega (arith, is, sum, some, others)

enough : (most n front rest all : ℕ) → n ≡ most → n ≤ front → all ≡ front + rest → most ≤ all
enough most n front rest all is less sum = omega (arith, is, less, sum)

module _ {W M R E : Type 0} (K : Rounds W M R E) (moves : List E → ℕ) (laws : Moves K moves) where
  pub goes_moves : (w : Settling W M) (round : SettleRound R E) (v : Settling W M) → GoesOn K w round v → 1 ≤ moves round.entries
  goes_moves w round v goes = grind arith

  pub rounds_move : (w : Settling W M) (rounds : List (SettleRound R E)) (v : Settling W M) → Run (GoesOn K) w rounds v → length rounds ≤ moves (entries_of_rounds rounds)
  rounds_move w [] v run = omega (arith)
  rounds_move w (round ∷ rounds) v run = grind (arith, more_moves, goes_moves, rounds_move run.0 rounds v run.2)

  pub out_moves : (start : W) (part : List E) (behind : W) → RunsOut K start part behind → most_rounds K start ≤ moves part
  out_moves start part behind out = grind (arith, rounds_move)
