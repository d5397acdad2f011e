use Rattle.kind_cases.proofs.ToyRuns.{toys_are_one, toys_hear, toys_rest, toys_say}
use Rattle.kind_cases.proofs.toy_laws.toys_with_rings_both_ways_have_their_row_and_one_session.Goals as goal

pub returns : goal.returns
returns c = record { saying = toys_say; hearing = toys_hear; one = toys_are_one; rest = toys_rest }
