-- The entries of a journal as they are kept.
use Rattle.std.specs.Prelude.{ℕ, ◌+◌, ◌≤◌, List, length}
use Rattle.ldom_journal.specs.PartsState.{PartsState}
use Rattle.ldom_entries.specs.Decoded.{AreComplete}
use Rattle.ldom_entries.specs.declared.header.Header.{Header}

-- the parts are those of the headers, and there is room for so many more of both
pub record ArePartsKept (headers : List Header) (parts : PartsState) (capacity room : ℕ) : Type 0 where
  pub complete : AreComplete headers parts.lists
  pub for_headers : length headers + parts.ready ≤ capacity
  pub for_parts : room ≤ parts.ready
