use Rattle.std.proofs.Common.{List, ℕ, sym, subst}
use Rattle.domain_script.specs.Spells.{Spells}
use Rattle.domain_script.proofs.PrintedLines.{printed_spells}
use Rattle.domain_script.proofs.printing.print.Goals as goal

pub returns-clause-spells : goal.returns-clause-spells
returns-clause-spells c =
    subst (λ (line : List ℕ). Spells line c.args.names.now c.args.event.now) (sym c.put_event.ensures.text)
    (printed_spells c.args.names.now c.args.event.now c.differ.ensures c.requires c.put_event.ensures.bytes)
