use Rattle.trimmed_arrays.proofs.Words.{zeros_at_end}
use Rattle.trimmed_arrays.proofs.trim.zeros_behind.Goals as goal

pub returns-clause-zeros : goal.returns-clause-zeros
returns-clause-zeros c = zeros_at_end _ _ c.told-word c.fits-word c.from_le_bytes.ensures c.from_le_bytes.type_inv
