use Rattle.std.proofs.Common.{◌≡◌, true, false, refl, arith}
use Rattle.std.proofs.lemmas.List.{length-map}
use Rattle.domain_script.specs.declared.event.PortDecl.{PortDecl}
use Rattle.domain_script.specs.Declarations.{addresses}
use Rattle.domain_script.proofs.Firsts.{is_none, not_there}
use Rattle.domain_script.proofs.names.Names.is_free_address.Goals as goal

pub returns-then-has_address : goal.returns-then-has_address
returns-then-has_address c = (
  λ holds. let both : false ≡ true = holds in cc both,
  λ free. absurd (not_there (addresses c.args.self.now.ports) c.args.address.now c.loop-k.k free (c.has_address.ensures.0 c.if-has_address.true)),
)

pub returns : goal.returns
returns c = (
  λ holds. is_none (addresses c.args.self.now.ports) c.args.address.now
      (λ j lt there.
      c.loop-k.invariant j
      (omega (arith, lt, c.loop-k-test.false, c.count-k-end.ensures.count, length-map c.args.self.now.ports (λ (port : PortDecl). port.address))) there),
  λ free. refl,
)
