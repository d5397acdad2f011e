-- What may happen to a port's lane, with what came of it; and what of that is on the wire.
use Rattle.std.specs.Prelude.{ℕ, List, Option, Some, None}
use Rattle.ldc_queue.specs.declared.end.End.{End}
use Rattle.ldc_queue.specs.declared.end.End.TheVariants.{A}
use Rattle.vio_tag.specs.declared.cause.Cause.TheVariants as the_cause
use Rattle.lane_models.specs.WireEvent.{Declined, WireEvent}
use Rattle.lane_models.specs.WireEvent as wire
use Rattle.lane_models.specs.NetEndStep.{Blocked, Frame, Given, Idle, Joined, Joining, NetAnswer, Published, Reset, Sent, Took}

pub data NetEvent : Type 0 where
  -- an end made a step, which came to this
  Steps : (e : End) (answer : NetAnswer) → NetEvent
  -- the script reset an end, and so many frames were lost by that
  Asked : (e : End) (lost : ℕ) → NetEvent
  -- a tick reset the guest's end; or the port is finished. So many frames stood in the port's out queue.
  Ticked : (queued lost : ℕ) → NetEvent
  CalmTick : (queued : ℕ) → NetEvent
  -- an end was given a frame, the guest a group
  Gives : (e : End) (given : Given) → NetEvent
  Joins : Joining → NetEvent
  -- the packet that had waited longest for the end was lost; one that the peer never put waits for it; bytes that the
  -- end never wrote stand in its memory
  Loses : (e : End) (packet : List ℕ) → NetEvent
  Injects : (e : End) (packet : List ℕ) → NetEvent
  Pokes : (e : End) (at : ℕ) (bytes : List ℕ) → NetEvent
  Declines : (d : Declined) → NetEvent

-- WHAT IS ON THE WIRE
abbrev pub answer_on_wire : End → NetAnswer → Option WireEvent
answer_on_wire e (Joined lost) = Some (wire.Joined e lost)
answer_on_wire e (Took packet opens) = Some (wire.Took e packet opens)
answer_on_wire e (Sent packet opens) = Some (wire.Sent e packet opens)
answer_on_wire e Blocked = Some (wire.Blocked e)
answer_on_wire e Idle = Some (wire.Idle e)
answer_on_wire e (Published id) = None
answer_on_wire e (Frame frame) = None
answer_on_wire e (Reset cause packet lost) = Some (wire.Reset e cause packet lost)

abbrev pub on_wire : NetEvent → Option WireEvent
on_wire (Steps e answer) = answer_on_wire e answer
on_wire (Asked e lost) = Some (wire.Reset e the_cause.Asked None lost)
on_wire (Ticked queued lost) = Some (wire.Reset A the_cause.Tick None lost)
on_wire (CalmTick queued) = None
on_wire (Gives e given) = None
on_wire (Joins joining) = None
on_wire (Loses e packet) = Some (wire.Lost e packet)
on_wire (Injects e packet) = Some (wire.Injected e packet)
on_wire (Pokes e at bytes) = Some (wire.Poked e at bytes)
on_wire (Declines d) = Some (wire.Declines d)
