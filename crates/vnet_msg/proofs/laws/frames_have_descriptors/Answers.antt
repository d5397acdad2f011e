use Rattle.vnet_msg.proofs.FrameSlots.{has_widths, holds, long, reads}
use Rattle.vnet_msg.proofs.laws.frames_have_descriptors.Goals as goal

pub returns-clause-is_one : goal.returns-clause-is_one
returns-clause-is_one c = holds

pub returns-clause-widths : goal.returns-clause-widths
returns-clause-widths c = has_widths

pub returns-clause-buffer : goal.returns-clause-buffer
returns-clause-buffer c = λ frame is. long frame

pub returns-clause-read : goal.returns-clause-read
returns-clause-read c = λ frame is. reads frame
