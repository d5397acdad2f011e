-- An end at rest: it is up, its link and its handshake owe nothing, and nothing waits for it.
use Rattle.std.specs.Prelude.{◌≡◌, false, None, []}
use Rattle.ldc_link.specs.Putting.{owes}
use Rattle.ldc_queue.specs.declared.end.End.{End}
use Rattle.ldc_queue.specs.Wire.{waiting_for}
use Rattle.lane_models.specs.WireAt.{IsUp}
use Rattle.lane_models.specs.LaneCore.{LaneCore, end_of}

pub record IsEndAtRest (e : End) (s : LaneCore) : Type 0 where
  pub up : IsUp e s.wire.wire
  pub quiet : owes (end_of e s).link ≡ false
  pub owed : (end_of e s).handshake.owed ≡ None
  pub waits : waiting_for e s.wire.wire ≡ []
