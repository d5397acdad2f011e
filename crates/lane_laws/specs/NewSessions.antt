-- What ends sessions, and that one opened since.
use Rattle.std.specs.Prelude.{◌≡◌, ◌⊎◌, true, List, [], ◌∷◌, ⊤}
use Rattle.ldc_queue.specs.declared.end.End.{End}
use Rattle.ldc_queue.specs.declared.end.End.TheVariants.{A, B}
use Rattle.lane_models.specs.DiskEvent.{Desc, DiskEvent, Done, Finished, Moved, OnWire, Published, Stopped, Stored, Switches, Worked}
use Rattle.lane_laws.specs.DiskLog.{DiskLog}
use Rattle.lane_models.specs.WireAt.{IsUp}
use Rattle.lane_models.specs.WireEvent.{Reset, Sent, Took}

-- a reset of either end, where it is up, and a stop of the server, end the sessions of both ends
abbrev pub EndsSessions : DiskLog → DiskEvent → Type 0
EndsSessions l (OnWire (Reset e cause packet lost)) = IsUp e l.wire.wire
EndsSessions l (Switches Stopped) = ⊤
EndsSessions l _ = ⊥

-- the session of the end opens
abbrev pub OpensAt : End → DiskEvent → Type 0
OpensAt A (OnWire (Took A packet opens)) = opens ≡ true
OpensAt A (OnWire (Sent A packet opens)) = opens ≡ true
OpensAt B (OnWire (Took B packet opens)) = opens ≡ true
OpensAt B (OnWire (Sent B packet opens)) = opens ≡ true
OpensAt e _ = ⊥

abbrev pub OpensAmong : End → List DiskEvent → Type 0
OpensAmong e [] = ⊥
OpensAmong e (event ∷ events) = OpensAt e event ⊎ OpensAmong e events

-- the work of the end
abbrev pub WorkOf : End → Worked → Type 0
WorkOf A (Published id) = ⊤
WorkOf A (Done id operation status bytes) = ⊤
WorkOf B (Desc slot bytes) = ⊤
WorkOf B (Moved unit fault) = ⊤
WorkOf B (Stored operation block count failed) = ⊤
WorkOf B (Finished slot status) = ⊤
WorkOf e _ = ⊥
