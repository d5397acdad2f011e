-- What a settle needs of the lanes of a world, of one kind or of several: their rounds and their ticks, and what
-- these leave in the journal.
use Rattle.std.specs.Prelude.{ℕ, Bool, List}

-- of lanes W with marks M, which say which of them had a tick, R being what came of a round and E an entry
pub record Rounds (W M R E : Type 0) : Type 1 where
  -- each lane made its turn, and was quiet or not
  pub Makes : W → R → W → Type 0
  pub quiet : R → Bool
  -- whether any lane gets a tick; each that gets one had it; and it is marked then
  pub some_ticks : W → M → Bool
  pub Ticks : W → M → W → Type 0
  pub marked : W → M → M
  pub unmarked : W → M
  -- what a round and ticks leave in the journal, the names of the lanes that are left over, and the answer where none
  -- is
  pub leaves : R → List E
  pub ticks_leave : W → M → List E
  pub names : R → W → List E
  pub settled : E
  -- how much is asked of the lanes
  pub pending : W → ℕ

-- THE MARKS OF TICKS: which lanes had one before them, whether any got one, and which had one behind them
pub record TickMarks (M : Type 0) : Type 0 where
  pub had : M
  pub some : Bool
  pub have : M

abbrev pub tick_marks : {M : Type 0} → M → Bool → M → TickMarks M
tick_marks had some have = record { had = had; some = some; have = have }
