use Rattle.port_laws.proofs.CrossingFrames.{port_crossed, port_crossing, port_few_cross, port_tick_crossing}
use Rattle.port_laws.proofs.remaining_laws.each_frame_of_a_guest_crosses_once.Goals as goal

pub returns : goal.returns
returns c = record { steps = port_crossing; tick = port_tick_crossing; taken = port_crossed; few = port_few_cross }
