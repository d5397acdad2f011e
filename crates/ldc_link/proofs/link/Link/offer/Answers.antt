use Rattle.std.proofs.Common.{refl, rules, ◌∙◌, ap}
use Rattle.ldc_link.specs.LinkState.{LinkState}
use Rattle.ldc_link.proofs.Parts.{not_sent}
use Rattle.ldc_link.proofs.link.Link.offer.Goals as goal

pub returns-then-self-len-clause-busy : goal.returns-then-self-len-clause-busy
returns-then-self-len-clause-busy c = (
  λ _ none. not_sent c.self.inside.offered.items c.self.inside.sent (search rules) (ap (λ (k : LinkState). k.to_send) c.self.view_is ∙ none),
  λ _. refl,
)
