use Rattle.std.proofs.Common.{◌≡◌, ℕ, ◌<◌, slice_get, Some}
use Rattle.domain_script.specs.Declarations.{addresses}
use Rattle.domain_script.proofs.names.Names.is_free_address.Given as goal

abbrev pub invariant-loop-k : goal.invariant-loop-k
invariant-loop-k l = (j : ℕ) → j < l.k → slice_get (addresses l.self.ports) j ≡ Some l.address → ⊥
