use Rattle.std.proofs.Common.{ℕ, ◌≤◌, subst}
use Rattle.recorded_lanes.proofs.LaneStepping.{client_steps, completion_fits}
use Rattle.recorded_lanes.proofs.stepping.client_step.Goals as goal

pub leave_client-calm-requires-clause-room : goal.leave_client-calm-requires-clause-room
leave_client-calm-requires-clause-room c =
    completion_fits c.step_client_into.new.out c.step_client_into.new.self.client.last c.args.lane.now
    c.step_client_into.new.self c.make_room.new.room.room c.step_client_into.ensures.step
    (subst (λ (n : ℕ). n ≤ c.make_room.new.room.room) c.front_len.ensures c.in_ok-make_room.ensures.made)

pub returns-clause-steps : goal.returns-clause-steps
returns-clause-steps c =
    λ i. client_steps c.args.in_settle c.args.disk c.step_client_into.new.out c.step_client_into.new.self.client.last
    c.args.lane.now c.step_client_into.new.self c.args.journal.now c.leave_client-calm.new.journal
    c.leave_client-calm.result i
    c.step_client_into.ensures.step c.step_client_into.ensures.own c.leave_client-calm.ensures.leaves
