-- Which events are an end's steps, where such a step does nothing, and where an end is still: what two calm steps, one of each end, come to.
use Rattle.std.specs.Prelude.{◌≡◌, ◌⊎◌, ◌+◌, ◌≤◌, true, false, is_some, [], length, ⊤}
use Rattle.ldc_queue.specs.declared.end.End.{End}
use Rattle.ldc_queue.specs.declared.end.End.TheVariants.{A, B}
use Rattle.ldc_queue.specs.Wire.{peer_of, waiting_for}
use Rattle.lane_models.specs.WireAt.{IsUp}
use Rattle.lane_models.specs.WireEvent.{Blocked, ByStep, Idle, Joined, Reset, Sent, Took, WireEvent, giver}
use Rattle.lane_laws.specs.DiskLog.{DiskLog}
use Rattle.lane_laws.specs.QuietLaws.{EndIsIdle}
use Rattle.lane_models.specs.ClientState.{is_finished}
use Rattle.lane_models.specs.DiskEvent.{Desc, DiskEvent, Done, Finished, Moved, Off, OnWire, Published, Stored, Switches, Worked, Works}
use Rattle.lane_models.specs.LaneState.{LaneState}

-- A STEP IS CALM where its end idles or finds no room for its packet, or its server is stopped
abbrev pub IsCalm : End → DiskEvent → Type 0
IsCalm e (OnWire (Idle d)) = d ≡ e
IsCalm e (OnWire (Blocked d)) = d ≡ e
IsCalm B (Switches Off) = ⊤
IsCalm e _ = ⊥

-- A STEP OF AN END, whatever comes of it; a reset that a script, a restart or a tick asks for is none
abbrev pub IsWireStep : End → WireEvent → Type 0
IsWireStep e (Joined d lost) = d ≡ e
IsWireStep e (Took d packet opens) = d ≡ e
IsWireStep e (Sent d packet opens) = d ≡ e
IsWireStep e (Idle d) = d ≡ e
IsWireStep e (Blocked d) = d ≡ e
IsWireStep e (Reset d cause packet lost) = (d ≡ e) × (giver cause ≡ ByStep)
IsWireStep e _ = ⊥

abbrev pub IsWorkStep : End → Worked → Type 0
IsWorkStep A (Published id) = ⊤
IsWorkStep A (Done id operation status bytes) = ⊤
IsWorkStep B (Desc slot bytes) = ⊤
IsWorkStep B (Moved unit fault) = ⊤
IsWorkStep B (Stored operation block count failed) = ⊤
IsWorkStep B (Finished slot status) = ⊤
IsWorkStep e _ = ⊥

abbrev pub IsStep : End → DiskEvent → Type 0
IsStep e (OnWire event) = IsWireStep e event
IsStep e (Works event) = IsWorkStep e event
IsStep B (Switches Off) = ⊤
IsStep e _ = ⊥

-- what a step keeps: nobody meddles by it, nothing is lost by it, and the server runs as before
pub record StepKeeps (s t : LaneState) : Type 0 where
  pub forged : t.wire.forged ≡ s.wire.forged
  pub whole : s.wire.lossy ≡ false → t.wire.lossy ≡ false
  pub stopped : t.stopped ≡ s.stopped

-- AN END IS STILL where it is up and has nothing to take and nothing to do, or where the other end's queue has no room
abbrev pub HasNoRoom : End → LaneState → Type 0
HasNoRoom e s = s.shape.entries ≤ length (waiting_for e s.wire.wire) + 1

pub record IsStill (e : End) (s : LaneState) (l : DiskLog) : Type 0 where
  pub up : IsUp e s.wire.wire
  pub still : ((waiting_for e s.wire.wire ≡ []) × EndIsIdle e l) ⊎ HasNoRoom (peer_of e) s

-- a stopped server's end is excepted
pub record AreStill (s : LaneState) (l : DiskLog) : Type 0 where
  pub client : IsStill A s l
  pub server : (s.stopped ≡ true) ⊎ IsStill B s l

-- ALL IS DONE: the client's session is open and nothing is pending, the server's session is open, and nothing waits
pub record HaveFinished (s : LaneState) : Type 0 where
  pub finished : is_finished s.client ≡ true
  pub server : is_some s.server.session ≡ true
  pub to_client : s.wire.wire.to_a ≡ []
  pub to_server : s.wire.wire.to_b ≡ []
