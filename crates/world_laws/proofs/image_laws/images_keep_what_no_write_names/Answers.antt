use Rattle.world_laws.proofs.NamedRuns.{stays_at}
use Rattle.world_laws.proofs.image_laws.images_keep_what_no_write_names.Goals as goal

pub returns : goal.returns
returns c = stays_at
