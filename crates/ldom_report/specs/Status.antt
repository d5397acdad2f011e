-- How a run ended, as a number.
use Rattle.std.specs.Prelude.{ℕ}
use Rattle.ldom_report.specs.declared.status.Status.{Status}
use Rattle.ldom_report.specs.declared.status.Status.TheVariants.{Done, Usage, Script, SourceFault, SinkFault, HostFault, StoreFault, ImageSize, Limit, NoMemory}

-- the number with which the program exits
abbrev pub status_number : Status → ℕ
status_number Done = 0
status_number Usage = 1
status_number (Script line fault) = 2
status_number SourceFault = 3
status_number SinkFault = 4
status_number HostFault = 5
status_number StoreFault = 6
status_number (ImageSize need have) = 7
status_number (Limit line kind) = 8
status_number NoMemory = 9
