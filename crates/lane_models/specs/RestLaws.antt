-- Where an end of a port may be idle, and whose frame each is that is taken where nobody forges.
use Rattle.std.specs.Prelude.{◌≡◌, ◌≢◌, ◌⊎◌, ℕ, ◌+◌, ◌-◌, ◌<◌, ◌==◌, false, true, if◌then◌else◌, List, [], ◌∷◌, length, Option, Some, None, slice_get, ⊤}
use Rattle.ldc_queue.specs.declared.end.End.{End}
use Rattle.ldc_queue.specs.declared.end.End.TheVariants.{A, B}
use Rattle.ldc_queue.specs.Wire.{peer_of, waiting_for}
use Rattle.lane_models.specs.EndLog.{EndLog, OpenedLog, SessionLog}
use Rattle.lane_models.specs.FrameLaws.{IfSession, InSession}
use Rattle.lane_models.specs.NetEndStep.{Frame, Idle}
use Rattle.lane_models.specs.NetEvent.{Steps}
use Rattle.lane_models.specs.PortLog.{PortLog, log_of_end}
use Rattle.lane_models.specs.PortState.{OnLane, PortEvent}

-- 6. AN IDLE END has nothing to take. In session it answered each INFO, of frames and of groups; it published each frame, or at the switch's end
-- as many as its ring has slots; where some aren't acknowledged, it said an INFO behind which no ACK came; and a guest
-- told its groups as they are, or no answer came yet.
abbrev pub AllPublished : End → PortLog → SessionLog → Type 0
AllPublished A l s = l.guest.published ≡ length l.guest.given
AllPublished B l s = (l.hub.published ≡ length l.hub.given) ⊎ (s.published - s.seen ≡ l.shape.slots)

abbrev pub IsTold : PortLog → SessionLog → Option (List (List ℕ)) → Type 0
IsTold l s None = ⊥
IsTold l s (Some addresses) = (addresses ≡ l.members) ⊎ (s.told ≡ false)

abbrev pub AllTold : End → PortLog → SessionLog → Type 0
AllTold A l s = IsTold l s s.membership
AllTold B l s = ⊤

pub record IsIdle (e : End) (l : PortLog) (s : SessionLog) : Type 0 where
  pub answered : s.acks ≡ s.asked
  pub published : AllPublished e l s
  pub announced : s.seen < s.published → s.asking ≡ true
  pub told : AllTold e l s
  pub replied : s.owed ≡ None

abbrev pub IdleAt : PortLog → PortEvent → Type 0
IdleAt l (OnLane (Steps e Idle)) = (waiting_for e l.wire.wire ≡ []) × IfSession (log_of_end e l).session (IsIdle e l)
IdleAt l _ = ⊤

-- 7. WHERE NOBODY FORGES, the k-th frame that an end takes in a session is the k-th that the other end published in the
-- last session of the same sid that it opened
abbrev pub last_of : ℕ → List OpenedLog → Option OpenedLog
last_of sid [] = None
last_of sid (session ∷ opened) = if session.sid == sid then Some session else last_of sid opened

pub record IsPublished (l : EndLog) (frame : List ℕ) (s : SessionLog) : Type 0 where
  pub opened : OpenedLog
  pub last : last_of s.sid l.opened ≡ Some opened
  pub below : s.taken < opened.published
  pub given : slice_get l.given (opened.base + s.taken) ≡ Some frame

abbrev pub UnforgedAt : PortLog → PortEvent → Type 0
UnforgedAt l (OnLane (Steps e (Frame frame))) =
    l.wire.forged ≡ false → InSession (log_of_end e l).session (IsPublished (log_of_end (peer_of e) l) frame)
UnforgedAt l _ = ⊤

-- and two idle ends, one directly after the other, are both in session where nothing was lost
abbrev pub TwoIdleAt : PortLog → PortEvent → Type 0
TwoIdleAt l (OnLane (Steps e Idle)) =
    l.last_idle ≡ Some (peer_of e) → l.wire.forged ≡ false → l.wire.lossy ≡ false → (l.guest.session ≢ None) × (l.hub.session ≢ None)
TwoIdleAt l _ = ⊤
