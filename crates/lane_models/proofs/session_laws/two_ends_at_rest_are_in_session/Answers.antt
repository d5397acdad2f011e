use Rattle.lane_models.proofs.EndsAtRest.{two_at_rest_heard, two_at_rest_open}
use Rattle.lane_models.proofs.session_laws.two_ends_at_rest_are_in_session.Goals as goal

pub returns : goal.returns
returns c = record { opened = two_at_rest_open; all = two_at_rest_heard }
