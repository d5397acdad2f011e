use Rattle.std.proofs.Common.{◌≡◌, Some, sym, ◌∙◌, ap}
use Rattle.lane_models.specs.Fetching.{NotReady, Refuses, fetched}
use Rattle.lane_models.specs.NetEndRule.{Fetches}
use Rattle.lane_models.specs.NetEndState.{NetEndState, NetSession}
use Rattle.port_frames.specs.Memories.{reach_over}
use Rattle.port_frames.specs.Fetches.{found_fault}
use Rattle.vnet_port.proofs.FetchEnds.{fetch_ends, fetch_refused, fetched_steps, still_fetches}
use Rattle.vnet_port.specs.Stepping.{rule_of}
use Rattle.vnet_port.proofs.port_end.PortEnd.fetch.Goals as goal

pub end_activity-requires-clause-rule : goal.end_activity-requires-clause-rule
end_activity-requires-clause-rule c = λ (q : NetSession) still.
    let p : NetSession = c.in-Some.session in
    let opened : c.args.self.now.session ≡ Some p = sym (ap (λ (s : NetEndState). s.session) c.self.view_is) ∙ c.in-Some.is in
    let active : p.active ≡ Some c.in-Some-active.activity = ap (λ (x : NetSession). x.active) (sym c.session.view_is) ∙ c.in-Some-active.is in
    let rule : rule_of c.args.self.now c.args.channel.now ≡ Fetches p c.in-Some-active.activity = c.requires.rule p c.in-Some-active.activity opened active in
    still_fetches c.args.self.now c.take_frame.new.self c.args.channel.now p q c.in-Some-active.activity rule c.in-Err-NotReady.ensures.takes.1 opened still

pub returns-in-Ok-clause-step : goal.returns-in-Ok-clause-step
returns-in-Ok-clause-step c =
    let p : NetSession = c.in-Some.session in
    let opened : c.args.self.now.session ≡ Some p = sym (ap (λ (s : NetEndState). s.session) c.self.view_is) ∙ c.in-Some.is in
    let active : p.active ≡ Some c.in-Some-active.activity = ap (λ (x : NetSession). x.active) (sym c.session.view_is) ∙ c.in-Some-active.is in
    let rule : rule_of c.args.self.now c.args.channel.now ≡ Fetches p c.in-Some-active.activity = c.requires.rule p c.in-Some-active.activity opened active in
    fetched_steps c.args.self.now c.take_frame.new.self c.note_frame.new.self c.args.channel.now c.args.memory.now c.args.table.now c.args.peer.now c.take_frame.new.peer
    p c.in-Some-active.activity c.note_frame.new.out rule
    (ap (λ (p : NetSession). fetched c.args.self.now (reach_over c.args.channel.now c.args.table.now c.args.peer.now) p.place) (sym c.session.view_is)
    ∙ c.in-Ok.ensures.takes.0)
    c.in-Ok.ensures.takes.1
    (c.note_frame.ensures.state p (ap (λ (s : NetEndState). s.session) c.in-Ok.ensures.takes.1 ∙ opened))
    c.note_frame.ensures.answer

pub returns-in-Err-NotReady-clause-step : goal.returns-in-Err-NotReady-clause-step
returns-in-Err-NotReady-clause-step c =
    fetch_ends c.args.self.now c.take_frame.new.self c.end_activity.new.self c.args.channel.now c.end_activity.new.channel c.args.memory.now c.end_activity.new.memory
    c.args.table.now c.args.peer.now c.take_frame.new.peer c.session.inside.place _ c.end_activity.new.out
    (c.in-Err-NotReady.ensures.takes.0 ∙ ap found_fault c.in-Err-NotReady.field-0-is ∙ ap NotReady (sym c.in-Err-NotReady.state-is)) c.in-Err-NotReady.ensures.takes.1 c.in-Err-NotReady.ensures.takes.2
    c.end_activity.ensures.step

pub returns-in-Err-Refused-clause-step : goal.returns-in-Err-Refused-clause-step
returns-in-Err-Refused-clause-step c =
    let p : NetSession = c.in-Some.session in
    let opened : c.args.self.now.session ≡ Some p = sym (ap (λ (s : NetEndState). s.session) c.self.view_is) ∙ c.in-Some.is in
    let active : p.active ≡ Some c.in-Some-active.activity = ap (λ (x : NetSession). x.active) (sym c.session.view_is) ∙ c.in-Some-active.is in
    let rule : rule_of c.args.self.now c.args.channel.now ≡ Fetches p c.in-Some-active.activity = c.requires.rule p c.in-Some-active.activity opened active in
    fetch_refused c.args.self.now c.take_frame.new.self c.fail.new.self c.args.channel.now c.fail.new.channel c.args.memory.now c.args.table.now c.args.peer.now
    c.take_frame.new.peer p c.in-Some-active.activity _ c.fail.new.out rule
    (ap (λ (p : NetSession). fetched c.args.self.now (reach_over c.args.channel.now c.args.table.now c.args.peer.now) p.place) (sym c.session.view_is)
    ∙ c.in-Err-Refused.ensures.takes.0 ∙ ap found_fault c.in-Err-Refused.field-0-is ∙ ap Refuses (sym c.in-Err-Refused.cause-is))
    c.in-Err-Refused.ensures.takes.1 c.in-Err-Refused.ensures.takes.2
    c.fail.ensures.answer c.fail.ensures.state c.fail.ensures.channel
