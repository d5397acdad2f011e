-- The counts of two open sessions, in their order.
use Rattle.std.specs.Prelude.{◌≤◌}
use Rattle.lane_laws.specs.WorkLog.{ClientCounts, ServerCounts}

-- Of the requests that were published the first were announced; of these the server was asked for the first, and fetched,
-- finished and answered the first of those; and the first of what it answered are acknowledged.
pub record CountsOrdered (k : ClientCounts) (d : ServerCounts) : Type 0 where
  pub acknowledged : k.acked ≤ d.answered
  pub answered : d.answered ≤ d.finished
  pub finished : d.finished ≤ d.descs
  pub fetched : d.descs ≤ d.asked
  pub asked : d.asked ≤ k.announced
  pub announced : k.announced ≤ k.published
