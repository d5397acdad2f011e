-- How the counts of an end's frames stand to each other.
use Rattle.std.specs.Prelude.{◌≡◌, ◌+◌, ◌<◌, ◌≤◌, false, true, length}
use Rattle.lane_models.specs.NetEndState.{NetEndState, NetSession, unseen_in}
use Rattle.lane_models.specs.RuleFacts.{IfOpen}

-- In a session: those that are acknowledged are published; those that are published and not acknowledged are held, in
-- front of the others; and each frame of the session has its id. An INFO is unanswered where one more was said than
-- slots were acknowledged at most.
pub record CountsStand (s : NetEndState) (p : NetSession) : Type 0 where
  pub seen : p.seen ≤ p.published
  pub held : unseen_in p ≤ length s.frames
  pub ids : p.base + p.seen + length s.frames ≡ s.next_id
  pub asked : p.infos ≤ p.seen + 1
  pub answered : p.asking ≡ false → p.infos ≤ p.seen
  pub some : p.asking ≡ true → p.seen < p.published

pub record FramesStand (s : NetEndState) : Type 0 where
  pub room : length s.frames ≤ s.slots
  pub ids : length s.frames ≤ s.next_id
  pub session : IfOpen s.session (CountsStand s)
