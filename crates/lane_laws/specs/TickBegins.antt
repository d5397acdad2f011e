-- What a tick that resets the client comes to: the lane begins anew, and nothing is lost any more where the client's end was up.
use Rattle.std.specs.Prelude.{◌≡◌, ◌+◌, ◌*◌, ◌<◌, true, false, length}
use Rattle.ldc_queue.specs.declared.end.End.TheVariants.{A}
use Rattle.lane_models.specs.WireAt.{IsUp}
use Rattle.lane_models.specs.ClientState.{is_finished}
use Rattle.lane_models.specs.LaneState.{LaneState}
use Rattle.lane_laws.specs.Remaining.{remaining}

pub record TickBegins (s t : LaneState) : Type 0 where
  -- it comes only where something is pending or the client's session isn't open, as after it
  pub unfinished : is_finished s.client ≡ false
  pub anew : is_finished t.client ≡ false
  pub pending : t.client.pending ≡ s.client.pending
  pub forged : t.wire.forged ≡ s.wire.forged
  pub stopped : t.stopped ≡ s.stopped
  pub whole : IsUp A s.wire.wire → t.wire.lossy ≡ false
  pub remains : IsUp A s.wire.wire → remaining t ≡ 35 + 16 * length s.client.pending
  pub falls : IsUp A s.wire.wire → s.wire.lossy ≡ true → remaining t < remaining s
