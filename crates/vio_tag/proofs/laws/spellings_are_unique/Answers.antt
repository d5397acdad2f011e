use Rattle.std.proofs.Common.{ap}
use Rattle.vio_tag.specs.Spelling.{canonical}
use Rattle.vio_tag.proofs.Canonical.{canonical_spells, same_bytes}
use Rattle.vio_tag.proofs.Same.{spelled_once}
use Rattle.vio_tag.proofs.laws.spellings_are_unique.Goals as goal

pub returns-clause-at_most_one : goal.returns-clause-at_most_one
returns-clause-at_most_one c = spelled_once

pub returns-clause-canonical_spells : goal.returns-clause-canonical_spells
returns-clause-canonical_spells c = canonical_spells

pub returns-clause-same_bytes : goal.returns-clause-same_bytes
returns-clause-same_bytes c = λ one other form other_form fits other_fits.
    (λ same. ap canonical same, same_bytes one other form other_form fits other_fits)
