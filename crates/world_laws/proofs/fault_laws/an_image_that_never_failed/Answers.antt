use Rattle.world_laws.proofs.ImageFaults.{none_stored}
use Rattle.world_laws.proofs.WorldLaws.{done_well, lanes_well}
use Rattle.world_laws.proofs.fault_laws.an_image_that_never_failed.Goals as goal

pub returns : goal.returns
returns c = record { lanes = lanes_well; stores = none_stored; done = done_well }
