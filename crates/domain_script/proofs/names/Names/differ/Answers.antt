use Rattle.std.proofs.Common.{subst}
use Rattle.domain_script.specs.NamesState.{NamesDiffer, NamesState}
use Rattle.domain_script.proofs.names.Names.differ.Goals as goal

pub returns : goal.returns
returns c = subst (λ (s : NamesState). NamesDiffer s) c.self.view_is c.self.invariant.4
