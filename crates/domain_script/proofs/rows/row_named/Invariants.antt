use Rattle.std.proofs.Common.{◌≡◌, drop}
use Rattle.domain_script.specs.Rows.{row_among, row_named, rows}
use Rattle.domain_script.proofs.rows.row_named.Given as goal

-- the row is among those that weren't looked at
abbrev pub invariant-loop-row : goal.invariant-loop-row
invariant-loop-row l = (l.row-items ≡ rows) × (row_named l.word ≡ row_among l.word (drop l.row-index rows))
