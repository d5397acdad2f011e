use Rattle.lane_laws.proofs.FallsByTaking.{many_fall, took_falls}
use Rattle.lane_laws.proofs.RemainingBounds.{fresh_remains}
use Rattle.lane_laws.proofs.RemainingRuns.{resets_fall, resets_remain, steps_fall}
use Rattle.lane_laws.proofs.invariant_laws.what_remains_falls_by_what_an_end_does.Goals as goal

pub returns : goal.returns
returns c = record { fresh = fresh_remains; steps = steps_fall; resets = resets_remain; again = resets_fall; takes = took_falls; many = many_fall }
