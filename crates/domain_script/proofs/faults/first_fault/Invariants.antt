use Rattle.std.proofs.Common.{◌≡◌, drop, find}
use Rattle.domain_script.specs.declared.event.LineFault.{LineFault}
use Rattle.domain_script.specs.Faults.{faults, first_fault, has_fault}
use Rattle.domain_script.proofs.faults.first_fault.Given as goal

-- the first fault is among those that weren't looked at
abbrev pub invariant-loop-fault : goal.invariant-loop-fault
invariant-loop-fault l =
    (l.fault-items ≡ faults) × (first_fault l.line l.names ≡ find (λ (which : LineFault). has_fault which l.line l.names) (drop l.fault-index faults))
