-- Each event of a port's lane keeps that the addresses of both ends are short.
use Rattle.std.proofs.Common.{◌≡◌, ℕ, ◌≤◌, true, false, Option, Some, List, [], ◌∷◌, ◌++◌, length, refl, sym, subst, arith}
use Rattle.std.specs.Prelude.{◌+◌}
use Rattle.ldc_link.specs.declared.phase.Role.{Role}
use Rattle.ldc_link.specs.declared.phase.Role.TheVariants.{Initiator, Responder}
use Rattle.lane_models.specs.Seeing.{Seen}
use Rattle.cookie_copy.specs.Reach.{Reach}
use Rattle.lane_models.specs.Fetching.{Fetched, fetched}
use Rattle.lane_models.specs.NetEndPutting.{answers, net_holds, net_put}
use Rattle.lane_models.specs.NetEndRule.{Announces, Fetches, NetRule, Publishes, Puts, Replies, Says, Tells, port_rule}
use Rattle.lane_models.specs.NetEndState.{Activity, NetEndState, NetSession, joined_net_end}
use Rattle.lane_models.specs.NetEndStep.{Blocked, Frame, Idle, NetAnswer, NetEndStep, NetLeft, Published, Sent, Took, untold}
use Rattle.lane_models.specs.NetEndTaking.{GoesOn}
use Rattle.lane_models.specs.NetEvent.{NetEvent}
use Rattle.lane_models.specs.NetLaneState.{NetLaneState}
use Rattle.lane_models.specs.NetLaneStep.{NetLaneStep}
use Rattle.lane_models.proofs.Ruling.{says_of}
use Rattle.port_laws.specs.NetFits.{AddressesAreShort, NetFits, SessionFits}
use Rattle.port_laws.proofs.EndMoves.{packet_goes}
use Rattle.lane_models.proofs.Refuting.{none_some, of_some}

-- the end with another session whose answer to groups is the same
session_fits : (role : Role) (s t : NetEndState) (p q : NetSession) → NetFits role s → s.session ≡ Some p → t.groups ≡ s.groups → t.session ≡ Some q → q.reply ≡ p.reply → NetFits role t
session_fits role s t p q given is groups session reply = grind arith

same_fits : (role : Role) (s t : NetEndState) → NetFits role s → t.groups ≡ s.groups → t.session ≡ s.session → NetFits role t
same_fits role s t given groups session = grind arith

joined_fits : (role : Role) (s : NetEndState) → NetFits role s → NetFits role (joined_net_end role s)
joined_fits role s given = grind arith

slot_fits : (role : Role) (s : NetEndState) (p : NetSession) (activity : Activity) (last : Option ℕ) (found : Fetched) (held : NetEndState) → NetFits role s → s.session ≡ Some p
    → answers s p activity last found ≡ Some held → NetFits role held
slot_fits role s p activity last found held given is same = grind (arith, of_some, session_fits, none_some)

held_fits : (role : Role) (s : NetEndState) (at : Seen) (reach : Reach) (rule : NetRule) (held : NetEndState) → NetFits role s → port_rule role s at ≡ rule
    → net_holds rule s reach ≡ Some held → NetFits role held
held_fits role s at reach Puts held fits is same = of_some (NetFits role) s held same fits
held_fits role s at reach (Says message) held fits is same = of_some (NetFits role) _ held same (same_fits role s _ fits refl refl)
held_fits role s at reach (Replies p reply) held fits is same = of_some (NetFits role) _ held same (record { groups = fits.groups; session = tt })
held_fits role s at reach (Fetches p activity) held fits is same =
    slot_fits role s p activity activity.last (fetched s reach p.place) held fits (says_of role s at (Fetches p activity) is).0.session same
held_fits role s at reach (Tells p) held fits is same =
    of_some (NetFits role) _ held same
    (session_fits role s _ p (record p { untold = false; telling = true }) fits (says_of role s at (Tells p) is).0.in_session.session refl refl refl)
held_fits role s at reach (Announces p) held fits is same =
    of_some (NetFits role) _ held same
    (session_fits role s _ p (record p { infos = p.infos + 1; asking = true }) fits (says_of role s at (Announces p) is).0.in_session.session refl refl refl)
held_fits role s at reach _ held fits is same = none_some held same

put_fits : (role : Role) (held : NetEndState) → NetFits role held → NetFits role (net_put role held)
put_fits role held given = grind arith

abbrev LeftFits : Role → NetLeft → Type 0
LeftFits role left = NetFits role left.end

pub step_fits : (role : Role) (s : NetEndState) (at : Seen) (memory : List ℕ) (reach : Reach) (answer : NetAnswer) (t : NetLeft) → NetFits role s
    → NetEndStep role s at memory reach answer t → NetFits role t.end
step_fits role s at memory reach (Took packet opens) t fits step = (packet_goes role s memory packet (GoesOn t.end opens t.own) fits step.1).fits
step_fits role s at memory reach (Sent packet opens) t fits step =
    subst (LeftFits role) (sym step.is) (put_fits role step.held (held_fits role s at reach (port_rule role s at) step.held fits refl step.holds))
step_fits role s at memory reach Blocked t fits step = held_fits role s at reach (port_rule role s at) t.end fits refl step.0
step_fits role s at memory reach Idle t fits step = subst (LeftFits role) (sym step.1) fits
step_fits role s at memory reach (Published id) t fits step =
    subst (LeftFits role) (sym step.is)
    (session_fits role s _ step.session _ fits (says_of role s at (Publishes step.session step.frame) step.rule).0.in_session.session refl refl refl)
step_fits role s at memory reach (Frame frame) t fits step =
    subst (LeftFits role) (sym step.is)
    (session_fits role s _ step.session _ fits (says_of role s at (Fetches step.session step.activity) step.rule).0.session refl refl refl)
step_fits role s at memory reach _ t fits step = subst (LeftFits role) (sym step.2) (joined_fits role s fits)

one_more : (groups : List (List ℕ)) (address : List ℕ) → AddressesAreShort groups → length address ≤ 6 → AddressesAreShort (groups ++ address ∷ [])
one_more [] address short few = (few, tt)
one_more (group ∷ groups) address short few = (short.0, one_more groups address short.1 few)

untold_fits : (session : Option NetSession) → SessionFits session → SessionFits (untold session)
untold_fits session given = grind arith

-- AN EVENT
abbrev pub BothFit : NetLaneState → Type 0
BothFit s = NetFits Initiator s.guest × NetFits Responder s.hub

pub event_fits : (s : NetLaneState) (event : NetEvent) (t : NetLaneState) → NetLaneStep s event t → BothFit s → BothFit t
event_fits s event t step given = grind (arith, step_fits, joined_fits, same_fits, one_more, untold_fits)
