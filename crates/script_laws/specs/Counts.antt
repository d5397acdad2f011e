-- How often the objects outside of a call failed, before it and after it.
use Rattle.std.specs.Prelude.{◌≡◌, ◌≢◌, ℕ, ◌≤◌}
use Rattle.vio_io.specs.Causes.{Fails, Rose}
use Rattle.ldom_report.specs.declared.status.Status.{Status}
use Rattle.ldom_report.specs.declared.status.Status.TheVariants.{HostFault, SinkFault, SourceFault}
use Rattle.script_laws.specs.Clean.{StandsStill}

-- the counts of the source of a script, of the host of its image and of the sink of its report
pub record FaultCounts : Type 0 where
  pub source : ℕ
  pub host : ℕ
  pub sink : ℕ

abbrev pub counts : ℕ → ℕ → ℕ → FaultCounts
counts source host sink = record { source = source; host = host; sink = sink }

-- A fault of one of them is answered only where its count rose, the sink's by one. Where another status is answered, it
-- stays; a fault of the sink, which comes last, may hide one of the others. No count falls.
pub record FaultsTold (status : Status) (before now : FaultCounts) : Type 0 where
  pub source_fault : status ≡ SourceFault → Rose before.source now.source
  pub host_fault : status ≡ HostFault → Rose before.host now.host
  pub source_unfailed : status ≢ SourceFault → status ≢ SinkFault → now.source ≡ before.source
  pub host_unfailed : status ≢ HostFault → status ≢ SinkFault → now.host ≡ before.host
  pub source_count : before.source ≤ now.source
  pub host_count : before.host ≤ now.host
  pub sink : Fails (status ≡ SinkFault) before.sink now.sink

-- How a run ended before its report: for a fault of the source exactly where that failed, and for one of the host likewise.
pub record RanTold (ran : Status) (before now : FaultCounts) : Type 0 where
  pub source : Fails (ran ≡ SourceFault) before.source now.source
  pub host : Fails (ran ≡ HostFault) before.host now.host

-- none of them failed
pub record NoneFailed (before now : FaultCounts) : Type 0 where
  pub source : StandsStill before.source now.source
  pub host : StandsStill before.host now.host
  pub sink : StandsStill before.sink now.sink
