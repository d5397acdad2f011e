use Rattle.port_laws.proofs.RemainingFrames.{port_frame}
use Rattle.port_laws.proofs.RemainingSteps.{port_calm, port_falls, port_fresh}
use Rattle.port_laws.proofs.RemainingTakes.{port_took}
use Rattle.port_laws.proofs.remaining_laws.what_remains_on_a_port_falls_by_what_an_end_does.Goals as goal

pub returns : goal.returns
returns c = record { fresh = port_fresh; steps = port_falls; calm = port_calm; takes = port_took; frames = port_frame }
