-- Along every run each event of the wire stands where the table of states and queues lets it, and an answer that changes nothing is said
-- exactly where it is.
use Rattle.std.proofs.Common.{◌≡◌, ℕ, ◌+◌, ◌≤◌, false, Option, List, [], length, refl, sym, subst, arith}
use Rattle.std.specs.Prelude.{nat_lt}
use Rattle.std.proofs.lemmas.Bool.{ltb-false, ltb-true}
use Rattle.runs.specs.Lawful.{Lawful, run_lawful}
use Rattle.runs.specs.Run.{Run}
use Rattle.ldc_queue.specs.declared.end.End.{End}
use Rattle.ldc_queue.specs.declared.end.End.TheVariants.{A, B}
use Rattle.ldc_queue.specs.Wire.{waiting_for}
use Rattle.vio_tag.specs.declared.cause.Cause.{Cause}
use Rattle.lane_models.specs.WireAt.{IsUp, MayCarry, MayReset, WireAnswersAt, WireTableAt}
use Rattle.lane_models.specs.WireEvent.{Blocked, Declines, Giver, Idle, Joined, Reset, Sent, Took, WireEvent}
use Rattle.lane_models.specs.WireLog.{WireLog}
use Rattle.lane_laws.specs.DiskLog.{DiskLog, after, after_wire, nothing_yet}
use Rattle.lane_models.specs.ClientRule as client_rules
use Rattle.lane_models.specs.ClientStep.{ClientFails, ClientStep}
use Rattle.lane_models.specs.DiskEvent.{DiskEvent, OnWire, Stopped, Switches}
use Rattle.lane_models.specs.LaneState.{IsShape, LaneState, Shape, fresh}
use Rattle.lane_models.specs.LaneStep.{EndOnWire, LaneStep, WireStep, sizes_of}
use Rattle.lane_models.specs.ServerRule as server_rules
use Rattle.lane_models.specs.ServerStep.{ServerFails, ServerStep}
use Rattle.cookie_copy.specs.Reach.{Reach}
use Rattle.lane_laws.proofs.CarriedRuns.{AllStand, all_step, fresh_all}
use Rattle.lane_laws.proofs.ClientHolding.{holds_up}
use Rattle.lane_laws.proofs.LaneViews.{IsOwnStep, at_client, at_server, reach_of}
use Rattle.lane_models.specs.ClientState.{ClientState}
use Rattle.lane_models.specs.ServerState.{ServerState}
use Rattle.lane_laws.proofs.IdleRules.{client_idles, server_idles}
use Rattle.lane_laws.proofs.Ruling.{client_may, server_may}
use Rattle.lane_laws.proofs.StandingRuns.{lawful_by}
use Rattle.lane_laws.specs.RuleFacts.{ClientMay, ServerMay}
use Rattle.lane_laws.specs.TableStands.{AnswersAt, IdleNone, MayOfTable, TableAt}
use Rattle.lane_laws.specs.ChannelEnds.{core_event}
use Rattle.lane_models.proofs.CoreRuns.{Room, room_after}
use Rattle.lane_models.proofs.EndsAtRest.{none_waits}
use Rattle.lane_models.specs.LaneCore.{CoreStands, wire_after}

-- what a rule tells of the end
pub client_known : (s : LaneState) (rule : client_rules.ClientRule) → client_rules.client_rule s.client (at_client s) ≡ rule → ClientMay s.client (at_client s) rule
client_known s rule is = subst (ClientMay s.client (at_client s)) is (client_may s.client (at_client s))

pub server_known : (s : LaneState) (rule : server_rules.ServerRule) → server_rules.server_rule s.server (at_server s) ≡ rule → ServerMay s.server (at_server s) rule
server_known s rule is = subst (ServerMay s.server (at_server s)) is (server_may s.server (at_server s))

-- a queue that has no room is full
full : (n entries : ℕ) → n + 1 ≤ entries → nat_lt (n + 1) entries ≡ false → n + 1 ≡ entries
full n entries most none = omega (arith, most, ltb-false (n + 1) entries none)

-- RESETS of a step carry the packet that the end took, or none
abbrev CarriedAt : Option (List ℕ) → End → LaneState → Type 0
CarriedAt packet e s = IsUp e s.wire.wire × MayCarry packet e s.wire.wire

client_carries : (s : LaneState) (rule : client_rules.ClientRule) (memory : List ℕ) (cause : Cause) (packet : Option (List ℕ)) → ClientMay s.client (at_client s) rule
    → ClientFails rule s.client memory cause packet → CarriedAt packet A s
client_carries s rule memory cause packet may fails = grind arith

server_carries : (s : LaneState) (rule : server_rules.ServerRule) (r : Reach) (cause : Cause) (packet : Option (List ℕ)) (new : List ℕ) → ServerMay s.server (at_server s) rule
    → ServerFails rule s.server r cause packet new → CarriedAt packet B s
server_carries s rule r cause packet new may fails = grind arith

-- THE TABLE, by the end that makes the step
client_table : (s : LaneState) (event : WireEvent) (t : ClientState) (new : List ℕ) → Room s.shape.entries s.wire → IsOwnStep (OnWire event)
    → ClientStep s.client (at_client s) s.memory (OnWire event) t new → WireTableAt (sizes_of s) s.wire event
client_table s (Joined A lost) t new room own step = client_known s client_rules.Joins step.0
client_table s (Took A packet opens) t new room own step = client_known s (client_rules.Takes packet) step.0
client_table s (Sent A packet opens) t new room own step = (
  holds_up s.client (at_client s) (client_rules.client_rule s.client (at_client s)) step.held (client_may s.client (at_client s)) step.holds,
  ltb-true (length s.wire.wire.to_b + 1) s.shape.entries step.room,
)
client_table s (Blocked A) t new room own step = (
  holds_up s.client (at_client s) (client_rules.client_rule s.client (at_client s)) t (client_may s.client (at_client s)) step.0,
  full (length s.wire.wire.to_b) s.shape.entries room.to_b step.1,
)
client_table s (Idle A) t new room own step = client_known s client_rules.Idles step.0
client_table s (Reset A cause packet lost) t new room own step =
    subst (λ (g : Giver). MayReset g packet A s.wire.wire) (sym own)
    (client_carries s (client_rules.client_rule s.client (at_client s)) s.memory cause packet (client_may s.client (at_client s)) step.0)
client_table s _ t new room own step = absurd step

server_table : (s : LaneState) (event : WireEvent) (gave : List ℕ) (t : ServerState) (new : List ℕ) → Room s.shape.entries s.wire → IsOwnStep (OnWire event)
    → ServerStep s.server (at_server s) (reach_of s) gave (OnWire event) t new → WireTableAt (sizes_of s) s.wire event
server_table s event gave t new room own step = grind (arith, server_may, server_carries)

end_table : (e : End) (s : LaneState) (event : WireEvent) (t : LaneState) → Room s.shape.entries s.wire → IsOwnStep (OnWire event) → EndOnWire e s event t → WireTableAt (sizes_of s) s.wire event
end_table A s event t room own step = client_table s event t.client t.memory room own step.step
end_table B s event t room own step = server_table s event step.0 t.server t.memory room own step.1.step.1

table : (s : LaneState) (event : WireEvent) (t : LaneState) → Room s.shape.entries s.wire → WireStep s event t → WireTableAt (sizes_of s) s.wire event
table s event t room step = grind (arith, end_table)

answers : (s : LaneState) (event : WireEvent) (t : LaneState) → WireStep s event t → WireAnswersAt (sizes_of s) s.wire event
answers s (Declines d) t step = step.0
answers s _ t step = tt

-- NOTHING WAITS for an end that is idle
end_none : (e : End) (s : LaneState) (t : LaneState) → EndOnWire e s (Idle e) t → waiting_for e s.wire.wire ≡ []
end_none A s t step = none_waits s.wire.wire.to_a (client_idles s.client (at_client s) step.step.0).rests.first
end_none B s t step = none_waits s.wire.wire.to_b (server_idles s.server (at_server s) step.1.step.1.0).first

idle_none : (s : LaneState) (event : WireEvent) (t : LaneState) → WireStep s event t → IdleNone s.wire event
idle_none s (Idle e) t step = end_none e s t step
idle_none s _ t step = tt

-- THE WIRE: what an event makes of it, and where it may stand
pub wire_same : (l : WireLog) (event : DiskEvent) → after_wire l event ≡ wire_after l (core_event event)
wire_same l (Switches Stopped) = refl
wire_same l _ = refl

pub core_stands : (l : DiskLog) (event : DiskEvent) → MayOfTable l event → CoreStands l.shape.entries l.wire (core_event event)
core_stands l event may = grind arith

-- ROOM in the queues is what two ends on a channel have
room_moved : (l : DiskLog) (event : DiskEvent) → MayOfTable l event → Room l.shape.entries l.wire → Room l.shape.entries (after_wire l.wire event)
room_moved l event may room =
    subst (Room l.shape.entries) (sym (wire_same l.wire event))
    (room_after l.shape.entries l.wire (core_event event) (omega (arith, room.to_a)) (core_stands l event may) room)

-- ALONG EVERY RUN
pub record QueuesStand (s : LaneState) (l : DiskLog) : Type 0 where
  pub all : AllStand s l
  pub room : Room l.shape.entries l.wire

wire_step : (s : LaneState) (l : DiskLog) (event : WireEvent) (t : LaneState) → QueuesStand s l → WireStep s event t → MayOfTable l (OnWire event)
wire_step s l event t stands step = grind (arith, table, idle_none)

may_step : (s : LaneState) (l : DiskLog) (event : DiskEvent) (t : LaneState) → QueuesStand s l → LaneStep s event t → MayOfTable l event
may_step s l (OnWire event) t stands step = wire_step s l event t stands step
may_step s l _ t stands step = record { table = tt; answers = tt; none_waits = tt }

pub queues_step : (s : LaneState) (l : DiskLog) (event : DiskEvent) (t : LaneState) → QueuesStand s l → LaneStep s event t → MayOfTable l event × QueuesStand t (after l event)
queues_step s l event t stands step =
    let may = may_step s l event t stands step in
    (may, record { all = (all_step s l event t stands.all step).1; room = room_moved l event may stands.room })

pub fresh_queues : (shape : Shape) → IsShape shape → QueuesStand (fresh shape) (nothing_yet shape)
fresh_queues shape sound = record { all = fresh_all shape sound; room = record { to_a = omega (arith, sound.some_entries); to_b = omega (arith, sound.some_entries) } }

both_lawful : (shape : Shape) (events : List DiskEvent) (s : LaneState) → IsShape shape → Run LaneStep (fresh shape) events s → Lawful MayOfTable after (nothing_yet shape) events
both_lawful shape events s sound run =
    (run_lawful LaneStep MayOfTable after QueuesStand queues_step (fresh shape) s (nothing_yet shape) events (fresh_queues shape sound) run).0

pub table_lawful : (shape : Shape) (events : List DiskEvent) (s : LaneState) → IsShape shape → Run LaneStep (fresh shape) events s → Lawful TableAt after (nothing_yet shape) events
table_lawful shape events s sound run = lawful_by MayOfTable TableAt (λ l e may. may.table) (nothing_yet shape) events (both_lawful shape events s sound run)

pub answers_lawful : (shape : Shape) (events : List DiskEvent) (s : LaneState) → IsShape shape → Run LaneStep (fresh shape) events s → Lawful AnswersAt after (nothing_yet shape) events
answers_lawful shape events s sound run = lawful_by MayOfTable AnswersAt (λ l e may. may.answers) (nothing_yet shape) events (both_lawful shape events s sound run)
