-- What a reset's cause needs so that its text can be written.
use Rattle.std.specs.Prelude.{◌≤◌, ⊤}
use Rattle.vio_tag.specs.declared.cause.Cause.{Cause}
use Rattle.vio_tag.specs.declared.cause.Cause.TheVariants as the_cause

-- the number of a copy's fault is that of one of the six
abbrev pub HasFault : Cause → Type 0
HasFault (the_cause.Copy n) = (1 ≤ n) × (n ≤ 6)
HasFault other = ⊤
