use Rattle.std.proofs.Common.{◌≡◌, ℕ, ◌<◌, slice_get, Some}
use Rattle.domain_script.specs.NamesState.{names_of}
use Rattle.domain_script.proofs.names.Names.find_among.Given as goal

abbrev pub invariant-loop-number : goal.invariant-loop-number
invariant-loop-number l = (j : ℕ) → j < l.number → slice_get (names_of l.kind l.self) j ≡ Some l.name → ⊥
