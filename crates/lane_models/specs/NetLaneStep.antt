-- One event of a port's lane: a step of an end, a call of the lane, or a disturbance. Exact, also where somebody forges
-- packets and memory.
use Rattle.std.specs.Prelude.{◌≡◌, ℕ, ◌+◌, ◌≤◌, ◌==◌, Bool, true, false, ◌&&◌, not, List, [], ◌∷◌, length, Option, Some, None}
use Rattle.ldc_queue.specs.declared.end.End.{End}
use Rattle.ldc_queue.specs.declared.end.End.TheVariants.{A}
use Rattle.vio_bytes.specs.Place.{put_at}
use Rattle.lane_models.specs.WireAt.{DeclinesAt, HasRoomFor, IsFirstOn, IsUp, Sizes}
use Rattle.lane_models.specs.WireEvent.{Declined, InjectedFull, NotInjected, NothingLost, PokeRefused, WireEvent}
use Rattle.lane_models.specs.WireLog.{WireLog, wire_moved}
use Rattle.lane_models.specs.NetEndState.{NetSession, joined_net_end, unseen}
use Rattle.lane_models.specs.NetEndStep.{NetAnswer, NetEndStep, NetGives, NetJoins, NetLeft}
use Rattle.lane_models.specs.NetEvent.{Asked, CalmTick, Declines, Gives, Injects, Joins, Loses, NetEvent, Pokes, Steps, Ticked, on_wire}
use Rattle.lane_models.specs.NetLaneState.{NetLaneState, memory_of, net_end, reach_of, role_at, seen_at, with_left, with_memory, with_net_end}

-- THE WIRE after an event
abbrev pub moved_on : WireLog → Option WireEvent → WireLog
moved_on l None = l
moved_on l (Some event) = wire_moved l event

abbrev pub net_wire : NetEvent → NetLaneState → WireLog
net_wire event s = moved_on s.wire (on_wire event)

-- A STEP OF AN END
pub record EndSteps (e : End) (s : NetLaneState) (answer : NetAnswer) (t : NetLaneState) : Type 0 where
  pub left : NetLeft
  pub step : NetEndStep (role_at e) (net_end e s) (seen_at e s) (memory_of e s) (reach_of e s) answer left
  pub is : t ≡ record (with_left e left s) { wire = net_wire (Steps e answer) s }

-- FINISHED: the guest is in session and told its groups, which was answered, and no frame is held: at neither end, nor
-- in the out queue
abbrev pub told_all : Option NetSession → Bool
told_all None = false
told_all (Some session) = not session.untold && not session.telling

abbrev pub is_nothing : List (List ℕ) → Bool
is_nothing [] = true
is_nothing (frame ∷ frames) = false

abbrev pub is_finished : NetLaneState → ℕ → Bool
is_finished s queued = told_all s.guest.session && is_nothing s.guest.frames && is_nothing s.hub.frames && queued == 0

-- A RESET that no step gave
abbrev pub Resets : End → NetEvent → NetLaneState → ℕ → NetLaneState → Type 0
Resets e event s lost t =
    (lost ≡ unseen (net_end e s).session)
    × (t ≡ record (with_net_end e (joined_net_end (role_at e) (net_end e s)) s) { wire = net_wire event s })

-- WHAT WAS ASKED and came to nothing, by the sizes of the end's queue and memory
abbrev pub declined_at : Declined → End
declined_at (NothingLost e) = e
declined_at (NotInjected e packet) = e
declined_at (InjectedFull e packet) = e
declined_at (PokeRefused e at count) = e

abbrev pub sizes_of : End → NetLaneState → Sizes
sizes_of e s = record { entries = s.shape.entries; memory = length (memory_of e s) }

abbrev pub NetLaneStep : NetLaneState → NetEvent → NetLaneState → Type 0
NetLaneStep s (Steps e answer) t = EndSteps e s answer t
NetLaneStep s (Asked e lost) t = Resets e (Asked e lost) s lost t
NetLaneStep s (Ticked queued lost) t = (is_finished s queued ≡ false) × Resets A (Ticked queued lost) s lost t
NetLaneStep s (CalmTick queued) t = (is_finished s queued ≡ true) × (t ≡ s)
NetLaneStep s (Gives e given) t = NetGives (net_end e s) given (net_end e t) × (t ≡ with_net_end e (net_end e t) s)
NetLaneStep s (Joins joining) t = NetJoins s.guest joining t.guest × (t ≡ record s { guest = t.guest })
NetLaneStep s (Loses e packet) t = IsFirstOn packet e s.wire.wire × (t ≡ record s { wire = net_wire (Loses e packet) s })
NetLaneStep s (Injects e packet) t =
    IsUp e s.wire.wire × HasRoomFor (sizes_of e s) e s.wire.wire × (t ≡ record s { wire = net_wire (Injects e packet) s })
NetLaneStep s (Pokes e at bytes) t =
    (at + length bytes ≤ length (memory_of e s))
    × (t ≡ record (with_memory e (put_at at bytes (memory_of e s)) s) { wire = net_wire (Pokes e at bytes) s })
NetLaneStep s (Declines d) t = DeclinesAt (sizes_of (declined_at d) s) s.wire d × (t ≡ s)
