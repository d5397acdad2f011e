-- Each event of a port's lane is one of two ends on a channel.
use Rattle.std.proofs.Common.{◌≡◌, ◌≢◌, ℕ, Bool, true, false, Option, Some, None, List, [], ◌∷◌, refl, sym, subst, ap, arith}
use Rattle.std.specs.Prelude.{slice_get}
use Rattle.std.proofs.lemmas.Bool.Decides.{nat_tests}
use Rattle.cookie_copy.specs.Faults.{is_up}
use Rattle.ldc_link.specs.declared.phase.Role.{Role}
use Rattle.ldc_link.specs.declared.phase.Role.TheVariants.{Initiator, Responder}
use Rattle.ldc_queue.specs.declared.end.ChannelState.{ChannelState}
use Rattle.ldc_queue.specs.declared.end.ChannelState.TheVariants.{Up}
use Rattle.ldc_queue.specs.declared.end.End.{End}
use Rattle.ldc_queue.specs.declared.end.End.TheVariants.{A, B}
use Rattle.ldc_queue.specs.Wire.{Wire, peer_behind, state_of, waiting_for}
use Rattle.runs.specs.Run.{Run, run_keeps}
use Rattle.vio_tag.specs.declared.cause.Cause.{Cause}
use Rattle.lane_models.specs.Seeing.{Seen}
use Rattle.cookie_copy.specs.Reach.{Reach}
use Rattle.lane_models.specs.WireAt.{DeclinesAt, IsUp, MayCarry, MayReset}
use Rattle.lane_models.specs.WireEvent.{ByStep, Declined, Giver, WireEvent, giver}
use Rattle.lane_models.specs.WireLog.{WireLog}
use Rattle.lane_models.specs.EndCore.{EndMove, Fails, Stays}
use Rattle.lane_models.specs.EndStep.{EndBegins, EndStays, EndStep}
use Rattle.lane_models.proofs.EndsAtRest.{none_waits}
use Rattle.lane_models.specs.LaneCore.{AnswerStands, CoreStands, CoreStep, move_of, reset_move, wire_after}
use Rattle.lane_models.specs.NetEndPutting.{net_holds}
use Rattle.lane_models.specs.NetEndRule.{Idles, Joins, NetRule, Takes, port_rule}
use Rattle.lane_models.specs.NetEndState.{NetEndState, joined_net_end}
use Rattle.lane_models.specs.NetEndStep.{Blocked, Frame, Given, Idle, Joined, Joining, NetAnswer, NetEndStep, NetFails, NetGives, NetJoins, NetLeft, Published, Reset, Sent, Took}
use Rattle.lane_models.specs.NetEvent.{Asked, Declines, Gives, Injects, Joins as JoinsGroup, Loses, NetEvent, Pokes, Steps, Ticked, on_wire}
use Rattle.lane_models.specs.NetLaneState.{NetLaneState, NetShape, fresh_net, net_end, reach_of, role_at, seen_at, memory_of}
use Rattle.lane_models.specs.NetLaneStep.{NetLaneStep, Resets, declined_at, moved_on, net_wire, sizes_of}
use Rattle.lane_models.proofs.OwnResets.{net_resets_own}
use Rattle.lane_models.proofs.Ruling.{says_of}
use Rattle.port_laws.specs.NetCore.{core_event, core_events, event_core, fresh_net_core, is_begun, lane_core, net_core, net_core_at}
use Rattle.port_laws.specs.NetFits.{NetFits}
use Rattle.port_laws.proofs.EndMoves.{move_by, stays_with, step_core}
use Rattle.port_laws.proofs.Fitting.{BothFit, event_fits}
use Rattle.lane_models.proofs.Refuting.{false_true, none_some, true_false}

-- THE WIRE
pub wire_same : (l : WireLog) (event : Option WireEvent) → moved_on l event ≡ wire_after l (event_core event)
wire_same l event = grind arith

-- WHERE AN ANSWER STANDS
pub up_of : (state : ChannelState) → is_up state ≡ true → state ≡ Up
up_of state is = grind (arith, false_true)

pub not_up : (state : ChannelState) → is_up state ≡ false → state ≢ Up
not_up state is = grind (arith, true_false, false_true)

pub holds_up : (role : Role) (s : NetEndState) (at : Seen) (reach : Reach) (rule : NetRule) (held : NetEndState) → port_rule role s at ≡ rule → net_holds rule s reach ≡ Some held → is_up at.state ≡ true
holds_up role s at reach rule held is same = grind (arith, says_of, none_some)

carries_none : (e : End) (w : Wire) (packet : Option (List ℕ)) → packet ≡ None → MayCarry packet e w
carries_none e w packet is = subst (λ (x : Option (List ℕ)). MayCarry x e w) (sym is) tt

carries_first : (e : End) (w : Wire) (bytes : List ℕ) (packet : Option (List ℕ)) → packet ≡ Some bytes → slice_get (waiting_for e w) 0 ≡ Some bytes → MayCarry packet e w
carries_first e w bytes packet is first = subst (λ (x : Option (List ℕ)). MayCarry x e w) (sym is) first

fails_stand : (e : End) (s : NetLaneState) (rule : NetRule) (cause : Cause) (packet : Option (List ℕ)) → port_rule (role_at e) (net_end e s) (seen_at e s) ≡ rule
    → NetFails (role_at e) rule (net_end e s) (memory_of e s) (reach_of e s) cause packet → MayReset ByStep packet e s.wire.wire
fails_stand e s (Takes bytes) cause packet is fails =
    let says = says_of (role_at e) (net_end e s) (seen_at e s) (Takes bytes) is in
    (up_of (state_of e s.wire.wire) says.0.up, carries_first e s.wire.wire bytes packet fails.0 says.1)
fails_stand e s rule cause packet is fails = grind (arith, says_of, up_of, carries_none)

answer_stands : (e : End) (s : NetLaneState) (answer : NetAnswer) (left : NetLeft)
    → NetEndStep (role_at e) (net_end e s) (seen_at e s) (memory_of e s) (reach_of e s) answer left
    → CoreStands s.shape.entries s.wire (core_event (Steps e answer))
answer_stands e s (Joined lost) left step = not_up (state_of e s.wire.wire) (says_of (role_at e) (net_end e s) (seen_at e s) Joins step.0)
answer_stands e s (Took packet opens) left step =
    let says = says_of (role_at e) (net_end e s) (seen_at e s) (Takes packet) step.0 in
    (up_of (state_of e s.wire.wire) says.0.up, says.1)
answer_stands e s (Sent packet opens) left step = grind (arith, step.room, up_of, holds_up, nat_tests)
answer_stands e s Blocked left step = grind (arith, step.1, up_of, holds_up, nat_tests)
answer_stands e s Idle left step =
    let says = says_of (role_at e) (net_end e s) (seen_at e s) Idles step.0 in
    (up_of (state_of e s.wire.wire) says.0.up, none_waits (waiting_for e s.wire.wire) says.1)
answer_stands e s (Reset cause packet lost) left step =
    rw (net_resets_own _ _ _ _ _ _ _ step.0) (fails_stand e s _ _ _ refl step.0)
answer_stands e s _ left step = tt

-- WHAT IT IS for both ends
reset_is : (cause : Cause) (packet : Option (List ℕ)) → giver cause ≡ ByStep → reset_move (giver cause) cause packet ≡ Fails cause packet
reset_is cause packet is = ap (λ (x : Giver). reset_move x cause packet) is

moves_own : (e : End) (s : NetLaneState) (answer : NetAnswer) (left : NetLeft)
    → NetEndStep (role_at e) (net_end e s) (seen_at e s) (memory_of e s) (reach_of e s) answer left → move_of e (core_event (Steps e answer)) ≡ move_by answer
moves_own e s answer left step = grind (arith, reset_is, net_resets_own)

moves_b : (answer : NetAnswer) → move_of B (core_event (Steps A answer)) ≡ Stays
moves_b answer = grind arith

moves_a : (answer : NetAnswer) → move_of A (core_event (Steps B answer)) ≡ Stays
moves_a answer = grind arith

-- an end that stays, whatever was its channel end's state
pub stays_at : (role : Role) (begun now : Bool) (s t : NetEndState) → now ≡ begun → EndStays (net_core role s) (net_core role t)
    → EndStays (net_core_at role begun s) (net_core_at role now t)
stays_at role begun now s t same stays = grind arith

same_stays : (role : Role) (s : NetEndState) → EndStays (net_core role s) (net_core role s)
same_stays role s = stays_with role s s refl refl refl refl refl (omega arith)

pub still : (role : Role) (begun : Bool) (s : NetEndState) → EndStays (net_core_at role begun s) (net_core_at role begun s)
still role begun s = stays_at role begun begun s s refl (same_stays role s)

still_by : (role : Role) (begun now : Bool) (s : NetEndState) (move : EndMove) → move ≡ Stays → now ≡ begun
    → EndStep role (net_core_at role begun s) move (net_core_at role now s)
still_by role begun now s move is same = grind (arith, stays_at, same_stays)

-- and one that is up before and behind a move
moved_up : (role : Role) (s t : NetEndState) (before now : Bool) (move other : EndMove) → move ≡ other → before ≡ true → now ≡ true
    → EndStep role (net_core role s) other (net_core role t) → EndStep role (net_core_at role before s) move (net_core_at role now t)
moved_up role s t before now move other is up_before up_now step = grind arith

begins : (role : Role) (begun now : Bool) (s : NetEndState) → EndBegins (net_core_at role begun s) (net_core_at role now (joined_net_end role s))
begins role begun now s = record { link = refl; handshake = refl; offer = refl; closed = refl; more = refl }

joined_moves : (role : Role) (begun now : Bool) (s t : NetEndState) → t ≡ joined_net_end role s → EndBegins (net_core_at role begun s) (net_core_at role now t)
joined_moves role begun now s t is = grind (arith, begins)

peer_begun : (x y : ChannelState) → is_begun (peer_behind x y) ≡ is_begun y
peer_begun x y = grind arith

abbrev Embeds : NetLaneState → NetEvent → NetLaneState → Type 0
Embeds s event t = CoreStep (lane_core s) (core_event event) (lane_core t)

-- A STEP OF AN END, for that end and for the other
begun_up : (e : End) (s : NetLaneState) → IsUp e s.wire.wire → is_begun (state_of e s.wire.wire) ≡ true
begun_up e s up = ap is_begun up

published_up : (e : End) (s : NetLaneState) (id : ℕ) (left : NetLeft)
    → NetEndStep (role_at e) (net_end e s) (seen_at e s) (memory_of e s) (reach_of e s) (Published id) left → IsUp e s.wire.wire
published_up e s id left step = grind (arith, up_of, says_of)

frame_up : (e : End) (s : NetLaneState) (frame : List ℕ) (left : NetLeft)
    → NetEndStep (role_at e) (net_end e s) (seen_at e s) (memory_of e s) (reach_of e s) (Frame frame) left → IsUp e s.wire.wire
frame_up e s frame left step = grind (arith, up_of, says_of)

reset_up : (e : End) (s : NetLaneState) (cause : Cause) (packet : Option (List ℕ)) (lost : ℕ) (left : NetLeft)
    → NetEndStep (role_at e) (net_end e s) (seen_at e s) (memory_of e s) (reach_of e s) (Reset cause packet lost) left → IsUp e s.wire.wire
reset_up e s cause packet lost left step = (fails_stand e s (port_rule (role_at e) (net_end e s) (seen_at e s)) cause packet refl step.0).0

begun_now : (e : End) (s : NetLaneState) (answer : NetAnswer) → IsUp e s.wire.wire → is_begun (state_of e (net_wire (Steps e answer) s).wire) ≡ true
begun_now e s answer up = grind (arith, begun_up)

abbrev Moves : End → NetLaneState → NetAnswer → NetLeft → Type 0
Moves e s answer left =
    EndStep (role_at e) (net_core_at (role_at e) (is_begun (state_of e s.wire.wire)) (net_end e s)) (move_of e (core_event (Steps e answer)))
    (net_core_at (role_at e) (is_begun (state_of e (net_wire (Steps e answer) s).wire)) left.end)

up_moves : (e : End) (s : NetLaneState) (answer : NetAnswer) (left : NetLeft) → NetFits (role_at e) (net_end e s)
    → NetEndStep (role_at e) (net_end e s) (seen_at e s) (memory_of e s) (reach_of e s) answer left → IsUp e s.wire.wire → Moves e s answer left
up_moves e s answer left fits step up =
    moved_up (role_at e) (net_end e s) left.end (is_begun (state_of e s.wire.wire)) (is_begun (state_of e (net_wire (Steps e answer) s).wire)) (move_of e (core_event (Steps e answer))) (move_by answer)
    (moves_own e s answer left step) (begun_up e s up) (begun_now e s answer up) (step_core (role_at e) (net_end e s) (seen_at e s) (memory_of e s) (reach_of e s) answer left fits step)

end_moves : (e : End) (s : NetLaneState) (answer : NetAnswer) (left : NetLeft) → NetFits (role_at e) (net_end e s)
    → NetEndStep (role_at e) (net_end e s) (seen_at e s) (memory_of e s) (reach_of e s) answer left → Moves e s answer left
end_moves e s (Joined lost) left fits step = grind (arith, moves_own, joined_moves)
end_moves e s (Published id) left fits step = up_moves e s (Published id) left fits step (published_up e s id left step)
end_moves e s (Frame frame) left fits step = up_moves e s (Frame frame) left fits step (frame_up e s frame left step)
end_moves e s (Reset cause packet lost) left fits step = up_moves e s (Reset cause packet lost) left fits step (reset_up e s cause packet lost left step)
end_moves e s answer left fits step = up_moves e s answer left fits step (answer_stands e s answer left step).0

hub_begun : (s : NetLaneState) (answer : NetAnswer) → is_begun (net_wire (Steps A answer) s).wire.end_b ≡ is_begun s.wire.wire.end_b
hub_begun s answer = grind (arith, peer_begun)

guest_begun : (s : NetLaneState) (answer : NetAnswer) → is_begun (net_wire (Steps B answer) s).wire.end_a ≡ is_begun s.wire.wire.end_a
guest_begun s answer = grind (arith, peer_begun)

-- A RESET that no step gave, of either end
asked_core : (e : End) (s : NetLaneState) (lost : ℕ) (t : NetLaneState) → Resets e (Asked e lost) s lost t → Embeds s (Asked e lost) t
asked_core e s lost t resets = grind (arith, begins, stays_at, peer_begun, same_stays)

ticked_core : (s : NetLaneState) (queued lost : ℕ) (t : NetLaneState) → Resets A (Ticked queued lost) s lost t → Embeds s (Ticked queued lost) t
ticked_core s queued lost t resets = grind (arith, begins, stays_at, peer_begun, same_stays)

-- WHAT IS ASKED leaves link, handshake and session
gives_stays : (role : Role) (s : NetEndState) (given : Given) (t : NetEndState) → NetGives s given t → EndStays (net_core role s) (net_core role t)
gives_stays role s given t gives = grind (arith, same_stays, stays_with)

joins_stays : (s : NetEndState) (joining : Joining) (t : NetEndState) → NetJoins s joining t → EndStays (net_core Initiator s) (net_core Initiator t)
joins_stays s joining t joins = grind (arith, same_stays, stays_with)

-- WHAT CAME TO NOTHING
declined_stands : (d : Declined) (s : NetLaneState) → DeclinesAt (sizes_of (declined_at d) s) s.wire d → AnswerStands s.shape.entries s.wire d
declined_stands d s stands = grind arith

-- AN EVENT
abbrev guest_up : NetLaneState → Bool
guest_up s = is_begun s.wire.wire.end_a

abbrev hub_up : NetLaneState → Bool
hub_up s = is_begun s.wire.wire.end_b

pub event_core_step : (s : NetLaneState) (event : NetEvent) (t : NetLaneState) → BothFit s → NetLaneStep s event t → Embeds s event t
event_core_step s (Steps A answer) t fits step =
    subst (Embeds s (Steps A answer)) (sym step.is)
    (record {
      entries = refl;
      stands = answer_stands A s answer step.left step.step;
      wire = wire_same s.wire (on_wire (Steps A answer));
      a = end_moves A s answer step.left fits.0 step.step;
      b = still_by Responder (hub_up s) (is_begun (net_wire (Steps A answer) s).wire.end_b) s.hub (move_of B (core_event (Steps A answer))) (moves_b answer) (hub_begun s answer);
    })
event_core_step s (Steps B answer) t fits step =
    subst (Embeds s (Steps B answer)) (sym step.is)
    (record {
      entries = refl;
      stands = answer_stands B s answer step.left step.step;
      wire = wire_same s.wire (on_wire (Steps B answer));
      a = still_by Initiator (guest_up s) (is_begun (net_wire (Steps B answer) s).wire.end_a) s.guest (move_of A (core_event (Steps B answer))) (moves_a answer) (guest_begun s answer);
      b = end_moves B s answer step.left fits.1 step.step;
    })
event_core_step s (Asked e lost) t fits step = asked_core e s lost t step
event_core_step s (Ticked queued lost) t fits step = ticked_core s queued lost t step.1
event_core_step s (Gives A given) t fits step =
    subst (Embeds s (Gives A given)) (sym step.1)
    (record { entries = refl; stands = tt; wire = refl; a = stays_at Initiator (guest_up s) (guest_up s) s.guest t.guest refl (gives_stays Initiator s.guest given t.guest step.0); b = still Responder (hub_up s) s.hub })
event_core_step s (Gives B given) t fits step =
    subst (Embeds s (Gives B given)) (sym step.1)
    (record { entries = refl; stands = tt; wire = refl; a = still Initiator (guest_up s) s.guest; b = stays_at Responder (hub_up s) (hub_up s) s.hub t.hub refl (gives_stays Responder s.hub given t.hub step.0) })
event_core_step s (JoinsGroup joining) t fits step =
    subst (Embeds s (JoinsGroup joining)) (sym step.1)
    (record { entries = refl; stands = tt; wire = refl; a = stays_at Initiator (guest_up s) (guest_up s) s.guest t.guest refl (joins_stays s.guest joining t.guest step.0); b = still Responder (hub_up s) s.hub })
event_core_step s (Loses A packet) t fits step =
    subst (Embeds s (Loses A packet)) (sym step.1) (record { entries = refl; stands = step.0; wire = refl; a = still Initiator (guest_up s) s.guest; b = still Responder (hub_up s) s.hub })
event_core_step s (Loses B packet) t fits step =
    subst (Embeds s (Loses B packet)) (sym step.1) (record { entries = refl; stands = step.0; wire = refl; a = still Initiator (guest_up s) s.guest; b = still Responder (hub_up s) s.hub })
event_core_step s (Injects A packet) t fits step =
    subst (Embeds s (Injects A packet)) (sym step.2) (record { entries = refl; stands = (step.0, step.1); wire = refl; a = still Initiator (guest_up s) s.guest; b = still Responder (hub_up s) s.hub })
event_core_step s (Injects B packet) t fits step =
    subst (Embeds s (Injects B packet)) (sym step.2) (record { entries = refl; stands = (step.0, step.1); wire = refl; a = still Initiator (guest_up s) s.guest; b = still Responder (hub_up s) s.hub })
event_core_step s (Declines d) t fits step =
    subst (Embeds s (Declines d)) (sym step.1) (record { entries = refl; stands = declined_stands d s step.0; wire = refl; a = still Initiator (guest_up s) s.guest; b = still Responder (hub_up s) s.hub })
event_core_step s (Pokes A at bytes) t fits step =
    subst (Embeds s (Pokes A at bytes)) (sym step.1) (record { entries = refl; stands = tt; wire = refl; a = still Initiator (guest_up s) s.guest; b = still Responder (hub_up s) s.hub })
event_core_step s event t fits step =
    subst (Embeds s event) (sym step.1) (record { entries = refl; stands = tt; wire = refl; a = still Initiator (guest_up s) s.guest; b = still Responder (hub_up s) s.hub })

-- A RUN
pub run_core : (s t : NetLaneState) (events : List NetEvent) → BothFit s → Run NetLaneStep s events t → Run CoreStep (lane_core s) (core_events events) (lane_core t)
run_core s t [] fits run = ap lane_core run
run_core s t (event ∷ events) fits run =
    (lane_core run.0, event_core_step s event run.0 fits run.1, run_core run.0 t events (event_fits s event run.0 run.1 fits) run.2)

pub fresh_fits : (shape : NetShape) → BothFit (fresh_net shape)
fresh_fits shape = (record { groups = tt; session = tt }, record { groups = tt; session = tt })

pub fresh_run_core : (shape : NetShape) (events : List NetEvent) (s : NetLaneState) → Run NetLaneStep (fresh_net shape) events s
    → Run CoreStep (fresh_net_core shape) (core_events events) (lane_core s)
fresh_run_core shape events s run = run_core (fresh_net shape) s events (fresh_fits shape) run

pub fits_behind : (shape : NetShape) (events : List NetEvent) (s : NetLaneState) → Run NetLaneStep (fresh_net shape) events s → BothFit s
fits_behind shape events s run = run_keeps NetLaneStep BothFit event_fits (fresh_net shape) s events run (fresh_fits shape)
