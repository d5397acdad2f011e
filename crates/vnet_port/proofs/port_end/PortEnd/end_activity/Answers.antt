use Rattle.std.proofs.Common.{◌≡◌, ℕ, List, Option, sym, ◌∙◌, ap, subst, true, None, Some}
use Rattle.map_table.specs.declared.table.Entry.{Entry}
use Rattle.lane_models.specs.Fetching.{NotReady, fetched}
use Rattle.lane_models.specs.NetEndPutting.{answer}
use Rattle.lane_models.specs.NetEndRule.{Fetches}
use Rattle.lane_models.specs.NetEndState.{Activity, NetEndState, NetSession}
use Rattle.std.specs.Prelude.{is_none}
use Rattle.vio_tag.specs.declared.message.Message.{Message}
use Rattle.vnet_port.specs.Putting.{put_of}
use Rattle.vnet_port.proofs.SaidSteps.{answer_steps}
use Rattle.vnet_port.specs.contracts.port_end.PortEnd.{the_view}
use Rattle.port_frames.specs.Memories.{reach_over}
use Rattle.vnet_port.specs.Stepping.{Steps, rule_of}
use Rattle.vnet_port.proofs.port_end.PortEnd.end_activity.Goals as goal

pub say-requires-clause-whose : goal.say-requires-clause-whose
say-requires-clause-whose c =
    ap (λ (o : Option Message). put_of true (is_none o))
    (subst (λ (s : NetEndState). None ≡ s.handshake.owed) (sym c.self.view_is) (sym c.requires.free))

pub returns-clause-step : goal.returns-clause-step
returns-clause-step c = λ (table : List (Option Entry)) (peer : List ℕ) missing.
    let s : NetEndState = the_view c.self.inside in
    let p : NetSession = c.in-Some-session.session in
    let opened : c.args.self.now.session ≡ Some p = sym (ap (λ (s : NetEndState). s.session) c.self.view_is) ∙ c.in-Some-session.is in
    subst (λ (s : NetEndState). Steps s c.args.channel.now c.args.memory.now table peer c.say.new.out c.say.new.self c.say.new.channel c.say.new.memory peer) c.self.view_is
    (answer_steps s c.say.new.self p c.note_answered.new.self c.args.activity c.in-Some.last c.args.state c.answer-message.result c.args.channel.now c.say.new.channel
    c.args.memory.now c.say.new.memory c.say.new.out table peer
    (subst (λ (s : NetEndState). rule_of s c.args.channel.now ≡ Fetches p c.args.activity) (sym c.self.view_is) (c.requires.rule p opened))
    (ap (λ (a : Activity). a.last) (sym c.activity.view_is) ∙ c.in-Some.is)
    (subst (λ (s : NetEndState). fetched s (reach_over c.args.channel.now table peer) p.place ≡ NotReady c.args.state) (sym c.self.view_is)
    (ap (λ (n : ℕ). fetched c.args.self.now (reach_over c.args.channel.now table peer) n) (c.requires.slot p opened) ∙ missing))
    (subst (λ (s : NetEndState). c.answer-message.result ≡ answer s c.args.activity c.in-Some.last) (sym c.self.view_is) c.answer-message.ensures)
    c.note_answered.ensures c.say.ensures.put)
