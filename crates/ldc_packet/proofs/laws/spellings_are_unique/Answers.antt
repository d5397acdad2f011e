use Rattle.std.proofs.Common.{ap}
use Rattle.ldc_packet.specs.Spelling.{canonical}
use Rattle.ldc_packet.proofs.Canonical.{canonical_spells, same_bytes}
use Rattle.ldc_packet.proofs.Same.{same_packet}
use Rattle.ldc_packet.proofs.laws.spellings_are_unique.Goals as goal

pub returns-clause-at_most_one : goal.returns-clause-at_most_one
returns-clause-at_most_one c = same_packet

pub returns-clause-canonical_spells : goal.returns-clause-canonical_spells
returns-clause-canonical_spells c = canonical_spells

pub returns-clause-same_bytes : goal.returns-clause-same_bytes
returns-clause-same_bytes c = λ one other form other_form fits other_fits.
    (λ same. ap canonical same, same_bytes one other form other_form fits other_fits)
