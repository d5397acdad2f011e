use Rattle.vio_bytes.proofs.Ranges.{range_at-put_at_same, range_at-put_at_inside, range_at-put_at_outside, range_at-put_at_part}
use Rattle.vio_bytes.proofs.laws.writes_meet_ranges.Goals as goal

pub returns-clause-same : goal.returns-clause-same
returns-clause-same c = range_at-put_at_same

pub returns-clause-inside : goal.returns-clause-inside
returns-clause-inside c = range_at-put_at_inside

pub returns-clause-outside : goal.returns-clause-outside
returns-clause-outside c = range_at-put_at_outside

pub returns-clause-around : goal.returns-clause-around
returns-clause-around c = range_at-put_at_part
