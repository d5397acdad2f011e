use Rattle.vdisk_client.proofs.LaneSteps.{lane_channel, lane_steps}
use Rattle.vdisk_client.proofs.laws.steps_are_the_lanes.Goals as goal

pub returns-clause-step : goal.returns-clause-step
returns-clause-step c = λ s c d answer t new is steps. lane_steps s c d t new is answer steps

pub returns-clause-channel : goal.returns-clause-channel
returns-clause-channel c = λ s c d answer t new is steps. lane_channel s c d t new is answer steps
