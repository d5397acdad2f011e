-- The calls of an end as what its model says of them: whose end of the channel it is, and what comes of a frame and of a
-- group.
use Rattle.std.specs.Prelude.{ℕ, Bool, true, false, List, Result, Ok, Err}
use Rattle.ldc_link.specs.declared.phase.Role.{Role}
use Rattle.ldc_link.specs.declared.phase.Role.TheVariants.{Initiator, Responder}
use Rattle.ldc_queue.specs.declared.end.End.{End}
use Rattle.ldc_queue.specs.declared.end.End.TheVariants.{A, B}
use Rattle.lane_models.specs.NetEndState.{NetEndState}
use Rattle.lane_models.specs.NetEndStep.{Already, BadLength, Full, Given, GroupsFull, Joining, Member, Queued}
use Rattle.vnet_port.specs.declared.answers.GroupsFull.{GroupsFull as Refusal}
use Rattle.vnet_port.specs.declared.answers.SendFault.{SendFault}
use Rattle.vnet_port.specs.declared.answers.SendFault.TheVariants as fault

-- a guest is the initiator and the channel's end A; the switch's end is the responder and B
abbrev pub role_of : NetEndState → Role
role_of s = s.link.role

abbrev pub end_at : Role → End
end_at Initiator = A
end_at Responder = B

abbrev pub end_of : NetEndState → End
end_of s = end_at (role_of s)

-- what comes of a frame, and of a group
abbrev pub given : Result ℕ SendFault → List ℕ → Given
given (Ok id) frame = Queued id frame
given (Err fault.Length) frame = BadLength frame
given (Err fault.Full) frame = Full frame

abbrev pub joining : Result Bool Refusal → List ℕ → Joining
joining (Ok true) address = Member address
joining (Ok false) address = Already address
joining (Err refusal) address = GroupsFull address
