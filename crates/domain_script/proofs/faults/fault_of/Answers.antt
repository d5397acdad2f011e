use Rattle.std.proofs.Common.{sym, ◌∙◌}
use Rattle.domain_script.specs.Computed.{faultless_event}
use Rattle.domain_script.proofs.Faultless.{without_fault}
use Rattle.domain_script.proofs.faults.fault_of.Goals as goal

pub unreachable-requires : goal.unreachable-requires
unreachable-requires c =
    c.requires (faultless_event c.args.line.now c.args.names.now) (without_fault c.args.line.now c.args.names.now (sym c.first_fault.ensures ∙ c.in-None.is))
