use Rattle.std.proofs.Common.{List, ap, subst, arith}
use Rattle.domain_script.specs.declared.event.PortDecl.{PortDecl}
use Rattle.domain_script.specs.Declarations.{AddressesDiffer}
use Rattle.domain_script.proofs.Taken.{none_past}
use Rattle.domain_script.proofs.names.Names.port.Goals as goal

pub returns-else-k-self-clause-value : goal.returns-else-k-self-clause-value
returns-else-k-self-clause-value c =
    none_past c.self.inside.ports c.args.self.now.ports c.self.inside.port_count c.args.k (ap (λ s. s.ports) c.self.view_is) (omega arith) (omega arith)

pub returns-then-k-self-clause-differ : goal.returns-then-k-self-clause-differ
returns-then-k-self-clause-differ c = subst (λ (l : List PortDecl). AddressesDiffer l) (ap (λ s. s.ports) c.self.view_is) c.self.invariant.5

pub returns-else-k-self-clause-differ : goal.returns-else-k-self-clause-differ
returns-else-k-self-clause-differ c = subst (λ (l : List PortDecl). AddressesDiffer l) (ap (λ s. s.ports) c.self.view_is) c.self.invariant.5
