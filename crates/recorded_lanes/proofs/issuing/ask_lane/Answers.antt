use Rattle.recorded_lanes.proofs.Answering.{accepted_put, refused_put}
use Rattle.recorded_lanes.proofs.issuing.ask_lane.Goals as goal

pub returns-in-Ok-clause-answers : goal.returns-in-Ok-clause-answers
returns-in-Ok-clause-answers c =
    accepted_put c.args.disk c.args.lane.now c.issue.new.self c.args.request.now c.args.journal.now
    c.push_accepted.new.self c.args.kept c.in-Ok.id c.requires.kept c.in-Ok.ensures.step c.push_accepted.ensures

pub returns-in-Err-clause-answers : goal.returns-in-Err-clause-answers
returns-in-Err-clause-answers c =
    refused_put c.args.disk c.args.lane.now c.issue.new.self c.args.request.now c.args.journal.now c.push.new.self
    c.in-Err.fault c.refusal.result c.in-Err.ensures.step c.refusal.ensures
    (record { entries = c.push.ensures.entries; room = c.push.ensures.room })
