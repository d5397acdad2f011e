use Rattle.std.proofs.Common.{◌↔◌, ◌≤◌, drop}
use Rattle.vio_bytes.specs.Layout.{AreInOrder}
use Rattle.vio_bytes.proofs.table.table_is_sound.Given as goal

abbrev pub invariant-loop-place : goal.invariant-loop-place
invariant-loop-place g l =
    (AreInOrder 0 l.table.fields l.table.length ↔ AreInOrder l.end (drop l.place-index l.table.fields) l.table.length)
    × (l.end ≤ l.table.length)
