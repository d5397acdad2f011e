use Rattle.std.proofs.Common.{◌≡◌, false, get_or, refl, sym, ◌∙◌}
use Rattle.domain_script.specs.declared.event.LineFault.{LineFault}
use Rattle.domain_script.specs.declared.event.LineFault.TheVariants as line_fault
use Rattle.domain_script.specs.Faults.{faults, has_fault}
use Rattle.domain_script.proofs.FirstOf.{not_first}
use Rattle.domain_script.proofs.faults.first_fault.Goals as goal

pub loop-fault-preserved : goal.loop-fault-preserved
loop-fault-preserved c =
    let other : has_fault (get_or faults c.loop-fault.fault-index line_fault.Byte) c.args.line.now c.args.names.now ≡ false =
    sym c.has_fault.ensures ∙ c.if-has_fault.false in (
      refl,
      c.loop-fault.invariant.1
          ∙ not_first (λ (which : LineFault). has_fault which c.args.line.now c.args.names.now) c.loop-fault.fault-index _ faults line_fault.Byte refl c.loop-fault-test.true other,
    )
