-- Which rule is the step.
use Rattle.std.proofs.Common.{◌≡◌, Bool, true, false, Option, Some, None, refl, ap, ◌∙◌}
use Rattle.std.specs.Prelude.{◌==◌, if◌then◌else◌}
use Rattle.cookie_copy.specs.Faults.{is_up as is_configured}
use Rattle.ldc_link.specs.Putting.{owes}
use Rattle.ldc_queue.specs.declared.end.ChannelState.{ChannelState}
use Rattle.ldc_queue.specs.declared.end.ChannelState.TheVariants as channel
use Rattle.vio_tag.specs.declared.message.Message.{Message}
use Rattle.lane_models.specs.Seeing.{Seen}
use Rattle.lane_models.specs.ServerRule.{Joins, Puts, Says, answer, in_range, in_session, says, server_rule, serves, takes_first}
use Rattle.lane_models.specs.ServerState.{ServerSession, ServerState, SlotRange}
use Rattle.vdisk_server.specs.Rules.{answer_owed, first_owed, in_hand, owed_message, ranged, session_owes}

-- THE RULES, in their order
pub rule_joins : (s : ServerState) (at : Seen) → is_configured at.state ≡ false → server_rule s at ≡ Joins
rule_joins s at down = rw down refl

pub rule_puts : (s : ServerState) (at : Seen) → is_configured at.state ≡ true → owes s.link ≡ true → server_rule s at ≡ Puts
rule_puts s at up more = rw (up, more) refl

behind_link : (s : ServerState) (at : Seen) → is_configured at.state ≡ true → owes s.link ≡ false → server_rule s at ≡ says s s.handshake.owed at
behind_link s at up free = rw (up, free) refl

-- an answer that is owed is said, and else the range is in work, or a packet is taken
test_says : (s : ServerState) (session : ServerSession) (range : SlotRange) (message : Message) (at : Seen) (test : Bool)
    → (if test then Some (answer s range) else None) ≡ Some message → (if test then Says (answer s range) else serves session s.work) ≡ Says message
test_says s session range message at true owed = ap Says (cc)
test_says s session range message at false owed = absurd (cc)

range_says : (s : ServerState) (session : ServerSession) (range : Option SlotRange) (at : Seen) (message : Message)
    → answer_owed s session range ≡ Some message → in_range s session range at ≡ Says message
range_says s session None at message owed = absurd (cc)
range_says s session (Some range) at message owed = test_says s session range message at (session.finished == session.asked) owed

test_serves : (s : ServerState) (session : ServerSession) (range : SlotRange) (test : Bool)
    → (if test then Some (answer s range) else None) ≡ None → (if test then Says (answer s range) else serves session s.work) ≡ serves session s.work
test_serves s session range true none = absurd (cc)
test_serves s session range false none = refl

session_says : (s : ServerState) (session : Option ServerSession) (at : Seen) (message : Message)
    → session_owes s session ≡ Some message → in_session s session at ≡ Says message
session_says s None at message owed = absurd (cc)
session_says s (Some session) at message owed = range_says s session session.range at message owed

first_says : (s : ServerState) (owed : Option Message) (at : Seen) (message : Message)
    → first_owed owed (session_owes s s.session) ≡ Some message → says s owed at ≡ Says message
first_says s (Some first) at message is = ap Says (cc)
first_says s None at message is = session_says s s.session at message is

pub rule_says : (s : ServerState) (at : Seen) (message : Message) → is_configured at.state ≡ true → owes s.link ≡ false
    → owed_message s ≡ Some message → server_rule s at ≡ Says message
rule_says s at message up free owed = behind_link s at up free ∙ first_says s s.handshake.owed at message owed

range_serves : (s : ServerState) (session held : ServerSession) (range : Option SlotRange) (at : Seen)
    → answer_owed s session range ≡ None → ranged session range ≡ Some held → in_range s session range at ≡ serves held s.work
range_serves s session held None at none is = absurd (cc)
range_serves s session held (Some range) at none is =
    test_serves s session range (session.finished == session.asked) none ∙ ap (λ (x : ServerSession). serves x s.work) (cc)

session_serves : (s : ServerState) (session : Option ServerSession) (held : ServerSession) (at : Seen)
    → session_owes s session ≡ None → in_hand session ≡ Some held → in_session s session at ≡ serves held s.work
session_serves s None held at none is = absurd (cc)
session_serves s (Some session) held at none is = range_serves s session held session.range at none is

first_serves : (s : ServerState) (owed : Option Message) (held : ServerSession) (at : Seen)
    → first_owed owed (session_owes s s.session) ≡ None → in_hand s.session ≡ Some held → says s owed at ≡ serves held s.work
first_serves s (Some message) held at none is = absurd (cc)
first_serves s None held at none is = session_serves s s.session held at none is

pub rule_serves : (s : ServerState) (at : Seen) (held : ServerSession) → is_configured at.state ≡ true → owes s.link ≡ false
    → owed_message s ≡ None → in_hand s.session ≡ Some held → server_rule s at ≡ serves held s.work
rule_serves s at held up free none is = behind_link s at up free ∙ first_serves s s.handshake.owed held at none is

range_takes : (s : ServerState) (session : ServerSession) (range : Option SlotRange) (at : Seen)
    → ranged session range ≡ None → in_range s session range at ≡ takes_first at.first
range_takes s session None at is = refl
range_takes s session (Some range) at is = absurd (cc)

session_takes : (s : ServerState) (session : Option ServerSession) (at : Seen) → in_hand session ≡ None → in_session s session at ≡ takes_first at.first
session_takes s None at is = refl
session_takes s (Some session) at is = range_takes s session session.range at is

first_takes : (s : ServerState) (owed : Option Message) (at : Seen)
    → first_owed owed (session_owes s s.session) ≡ None → in_hand s.session ≡ None → says s owed at ≡ takes_first at.first
first_takes s (Some message) at none is = absurd (cc)
first_takes s None at none is = session_takes s s.session at is

pub rule_takes : (s : ServerState) (at : Seen) → is_configured at.state ≡ true → owes s.link ≡ false
    → owed_message s ≡ None → in_hand s.session ≡ None → server_rule s at ≡ takes_first at.first
rule_takes s at up free none is = behind_link s at up free ∙ first_takes s s.handshake.owed at none is

range_hand : (session : ServerSession) (range : Option SlotRange) (held : ServerSession) → ranged session range ≡ Some held → Some session ≡ Some held
range_hand session None held is = absurd (cc)
range_hand session (Some range) held is = is

-- a session of which a range is in hand is the open one
pub hand_is : (session : Option ServerSession) (held : ServerSession) → in_hand session ≡ Some held → session ≡ Some held
hand_is None held is = absurd (cc)
hand_is (Some session) held is = range_hand session session.range held is

pub none_owed : (owed other : Option Message) → first_owed owed other ≡ None → owed ≡ None
none_owed None other none = refl
none_owed (Some message) other none = absurd (cc)

-- an end that is up
pub is_up_state : (state : ChannelState) → is_configured state ≡ true → state ≡ channel.Up
is_up_state channel.Up up = refl
is_up_state channel.Down up = absurd (cc)
is_up_state channel.Resetting up = absurd (cc)
