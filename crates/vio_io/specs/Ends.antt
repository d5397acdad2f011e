-- How often a source said that it is at its end. The count never falls, and stands still at the last value of a u64.
use Rattle.std.specs.Prelude.{◌≡◌, ℕ}
use Rattle.vio_io.specs.Causes.{next_count}

-- A CALL in which a source said so once where this holds, and else not at all.
pub record SaysEnd (said : Type 0) (before now : ℕ) : Type 0 where
  pub once : said → now ≡ next_count before
  pub else_not : (said → ⊥) → now ≡ before
