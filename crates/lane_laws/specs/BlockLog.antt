-- Whether each end found no room for its next packet since it last put one or began anew.
use Rattle.ldc_queue.specs.declared.end.End.{End}
use Rattle.ldc_queue.specs.declared.end.End.TheVariants.{A, B}
use Rattle.lane_models.specs.WireEvent.{Blocked, Joined, Reset, Sent, Took, WireEvent}
use Rattle.lane_models.specs.Blockage.{Blockage, Clear, hearing, stuck}
use Rattle.lane_models.specs.DiskEvent.{DiskEvent, OnWire, Stopped, Switches}

pub record BlockLog : Type 0 where
  pub client : Blockage
  pub server : Blockage

abbrev pub nothing_blocked : BlockLog
nothing_blocked = record { client = Clear; server = Clear }

abbrev pub change_of : End → (Blockage → Blockage) → BlockLog → BlockLog
change_of A f l = record l { client = f l.client }
change_of B f l = record l { server = f l.server }

abbrev pub clear : Blockage → Blockage
clear before = Clear

abbrev pub block_moved : BlockLog → WireEvent → BlockLog
block_moved l (Joined e lost) = change_of e clear l
block_moved l (Reset e cause packet lost) = change_of e clear l
block_moved l (Sent e packet opens) = change_of e clear l
block_moved l (Took e packet opens) = change_of e hearing l
block_moved l (Blocked e) = change_of e stuck l
block_moved l _ = l

-- after one more event: a stop of the server begins it anew
abbrev pub after_block : BlockLog → DiskEvent → BlockLog
after_block l (OnWire event) = block_moved l event
after_block l (Switches Stopped) = change_of B clear l
after_block l _ = l
