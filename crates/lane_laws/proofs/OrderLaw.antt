-- An end does what its session has to do before it takes a packet, and a client takes before it publishes.
use Rattle.std.proofs.Common.{◌≡◌, ℕ, ◌+◌, ◌-◌, Bool, true, false, Some, None, List, refl, sym, ap, ◌∙◌, subst, arith, length, length-drop}
use Rattle.std.specs.Prelude.{◌&&◌, is_none, is_some}
use Rattle.cookie_copy.specs.Reach.{Reach}
use Rattle.ldc_link.specs.declared.phase.Role.TheVariants.{Initiator}
use Rattle.ldc_link.specs.LinkState.{LinkState}
use Rattle.ldc_link.specs.Putting.{owes, owes_control, owes_in}
use Rattle.ldc_queue.specs.declared.end.End.{End}
use Rattle.ldc_queue.specs.declared.end.End.TheVariants.{A, B}
use Rattle.ldc_queue.specs.Wire.{waiting_for}
use Rattle.vdisk_msg.specs.declared.request.Request.{Request}
use Rattle.vio_handshake.specs.declared.handshake.Handshake.{Handshake}
use Rattle.vio_tag.specs.declared.cause.Cause.{Cause}
use Rattle.lane_models.specs.WireEvent.{Blocked, ByRestart, ByScript, ByStep, ByTick, Giver, Idle, Reset, Sent, Took, giver}
use Rattle.lane_models.specs.ClientPutting.{client_holds}
use Rattle.lane_models.specs.ClientRule as client
use Rattle.lane_models.specs.ClientState.{ClientSession, ClientState, joined_client}
use Rattle.lane_models.specs.ClientStep.{ClientFails}
use Rattle.lane_models.specs.DiskEvent.{Desc, DiskEvent, Done, Misplaced, OnWire, Published, Works}
use Rattle.lane_models.specs.LaneState.{LaneState}
use Rattle.lane_models.specs.LaneStep.{CallsReset, EndOnWire, LaneStep, ResetBy, reach}
use Rattle.lane_models.specs.ServerRule as server
use Rattle.lane_models.specs.ServerState.{ServerSession, ServerState, Work, joined_server, restarted_server}
use Rattle.lane_models.specs.ServerStep.{ServerFails}
use Rattle.lane_models.specs.Blockage.{Clear}
use Rattle.lane_laws.specs.DiskLog.{DiskLog}
use Rattle.lane_laws.specs.OrderLaws.{HasAnswered, HasCompleted, HasPublished, OrderAt, OwesNothing, PublishesAt, PutsAt, ServesAt, TakesAt}
use Rattle.lane_laws.specs.Sound.{SessionInOrder}
use Rattle.lane_laws.specs.WorkLog.{ClientCounts}
use Rattle.lane_laws.proofs.BlockedLaw.{Told, client_to_put, server_to_put}
use Rattle.lane_models.proofs.EndSending.{calm_up, not_stuck, sends_some}
use Rattle.lane_models.proofs.MessagesHeld.{owed_held}
use Rattle.lane_laws.proofs.ClientFolds.{clear_quiet}
use Rattle.lane_laws.proofs.Ruling.{client_may}
use Rattle.lane_laws.specs.RuleFacts.{ClientMay}
use Rattle.lane_laws.proofs.Counting.{of_client}
use Rattle.lane_laws.proofs.EndsFold.{BothAre, first_false}
use Rattle.lane_laws.specs.ChannelEnds.{client_core, server_core}
use Rattle.lane_models.proofs.Apart.{none_is_some, some_same}
use Rattle.lane_models.proofs.EndsAtRest.{none_waits}
use Rattle.lane_laws.proofs.IdleLaw.{not_below, past_all, same_waiting, some_client}
use Rattle.lane_laws.proofs.IdleRules.{client_idles, published_all, server_idles}
use Rattle.lane_laws.proofs.RuleTests.{CompletedAll, PublishedAll, TakesFree, client_test, control_in}
use Rattle.lane_laws.proofs.RulesFree.{ServerFree, owes_nothing, puts_calm, puts_owe, server_free, takes_calm}
use Rattle.lane_laws.proofs.Sharing.{in_order}
use Rattle.lane_laws.proofs.WorkNumbers.{Grounded}
use Rattle.lane_laws.proofs.LaneViews.{at_client, at_server}

-- THE CLIENT
completed_in_log : (s : LaneState) (l : DiskLog) → Grounded s l → CompletedAll s.client → HasCompleted l
completed_in_log s l grounded all =
    some_client s.client.session l.work.done l.work.client (λ (c : ClientCounts). l.work.done ≡ c.base + c.acked) grounded.knows.counted.client.agrees (λ session c is has.
    let of = of_client s.client.session session l.work.done l.work.client is grounded.knows.counted.client.agrees in
    let both : Some of.counts ≡ Some c = sym of.is ∙ has in
    let same : of.counts ≡ c = some_same both in
    let order : SessionInOrder (length s.client.pending) session =
    in_order (length s.client.pending) s.client.session session is grounded.knows.all.sound.counts in
    let acked = not_below session.completed session.acked (all session is) in
    subst (λ (k : ClientCounts). l.work.done ≡ k.base + k.acked) same (omega (arith, of.agree.completed, of.agree.acked, acked, order.completed)))

putting_completed : (s : LaneState) (l : DiskLog) (held : ClientState) → Grounded s l → client_holds (client.client_rule s.client (at_client s)) s.client ≡ Some held → HasCompleted l
putting_completed s l held grounded is = grind arith

-- it owes nothing of its link's handshake where its link owes no packet
control_free : (k : LinkState) (b : Bool) → owes_control k ≡ b → owes k ≡ false → b ≡ false
control_free k true is free = let never : true ≡ false = sym (control_in k.phase k is) ∙ free in absurd (cc)
control_free k false is free = refl

client_owes_nothing : (s : LaneState) (l : DiskLog) → Told s l → owes_control s.client.link ≡ false → s.client.handshake.owed ≡ None → OwesNothing A l
client_owes_nothing s l told calm none =
    (ap owes_in (sym told.client_phase) ∙ calm, ap (λ (h : Handshake). h.owed) (sym told.are.client) ∙ none)

server_owes_nothing : (s : LaneState) (l : DiskLog) → Told s l → owes s.server.link ≡ false → s.server.handshake.owed ≡ None → OwesNothing B l
server_owes_nothing s l told free none = grind arith

publishes_order : (s : LaneState) (l : DiskLog) (session : ClientSession) (request : Request) → Told s l
    → client.client_rule s.client (at_client s) ≡ client.Publishes session request → PublishesAt l
publishes_order s l session request told rule =
    let rests = (client_test s.client (at_client s) (client.Publishes session request) rule).0 in (
      completed_in_log s l told.grounded rests.completed,
      client_owes_nothing s l told (control_free s.client.link (owes_control s.client.link) refl rests.free) rests.owed,
      same_waiting A s l told.grounded (none_waits (waiting_for A s.wire.wire) rests.first),
      not_stuck (client_core s.client) l.blocked.client told.both.client rests.free,
    )

-- IT TAKES
client_may_take : (s : LaneState) (l : DiskLog) (packet : List ℕ) → Told s l → client.client_rule s.client (at_client s) ≡ client.Takes packet → TakesAt A l
client_may_take s l packet told rule = (
  completed_in_log s l told.grounded (client_test s.client (at_client s) (client.Takes packet) rule).1,
  client_owes_nothing s l told
      (first_false (owes_control s.client.link) (is_some s.client.handshake.owed) (is_none s.client.session && owes s.client.link) (takes_calm s.client (at_client s) packet rule))
      (owes_nothing s.client (at_client s) packet rule),
)

client_fails : (s : ClientState) (rule : client.ClientRule) (memory : List ℕ) (cause : Cause) (packet : List ℕ) (P : Type 0) → ClientFails rule s memory cause (Some packet)
    → ((bytes : List ℕ) → rule ≡ client.Takes bytes → P) → P
client_fails s rule memory cause packet P fails taking = grind arith

-- IT PUTS: where it owes nothing it isn't urgent, and announces
client_calm : (s : LaneState) (l : DiskLog) → Told s l → OwesNothing A l → client.is_urgent s.client ≡ false
client_calm s l told nothing = grind arith

-- what its link has to put is of no message that its handshake owes, so that a client that isn't blocked has none there
puts_none : {X : Type 0} (s : LaneState) (l : DiskLog) → Told s l → OwesNothing A l → client.client_rule s.client (at_client s) ≡ client.Puts → l.blocked.client ≡ Clear → X
puts_none {X} s l told nothing rule clear =
    let knows = told.grounded.knows in
    let owing = puts_owe s.client (at_client s) rule in
    let some = sends_some s.client.link (calm_up s.client.link (ap owes_in told.client_phase ∙ nothing.0) owing) owing in
    let quiet = clear_quiet s.client l.transcript.a l.blocked.client knows.all.sound knows.rests.client told.both.client clear in
    let owed = owed_held Initiator (client_core s.client) l.transcript.a knows.rests.client.stands quiet some in
    none_is_some (sym nothing.1 ∙ ap (λ (h : Handshake). h.owed) (sym told.are.client) ∙ owed.owed)

published_by : (s : LaneState) (l : DiskLog) (rule : client.ClientRule) (held : ClientState) → Told s l → OwesNothing A l → client.client_rule s.client (at_client s) ≡ rule
    → client_holds rule s.client ≡ Some held → ClientMay s.client (at_client s) rule → (session : ClientSession) → s.client.session ≡ Some session → l.blocked.client ≡ Clear
    → PublishedAll s.client session
published_by s l client.Puts held told nothing rule is may session there clear = puts_none s l told nothing rule clear
published_by s l (client.Says message) held told nothing rule is may session there clear =
    none_is_some (sym nothing.1 ∙ ap (λ (h : Handshake). h.owed) (sym told.are.client) ∙ may.2)
published_by s l (client.Announces one) held told nothing rule is may session there clear =
    let same : one ≡ session = some_same (sym may.3 ∙ there) in subst (PublishedAll s.client) same (published_all s.client (at_client s) one rule)
published_by s l _ held told nothing rule is may session there clear = none_is_some is

published_in_log : (s : LaneState) (l : DiskLog) (held : ClientState) → Told s l → OwesNothing A l → client_holds (client.client_rule s.client (at_client s)) s.client ≡ Some held → HasPublished l
published_in_log s l held told nothing is =
    let grounded = told.grounded in
    some_client s.client.session l.work.done l.work.client (λ (c : ClientCounts). l.blocked.client ≡ Clear → c.base + c.published ≡ length l.work.issued) grounded.knows.counted.client.agrees
    (λ session c there has. λ clear.
    let of = of_client s.client.session session l.work.done l.work.client there grounded.knows.counted.client.agrees in
    let both : Some of.counts ≡ Some c = sym of.is ∙ has in
    let same : of.counts ≡ c = some_same both in
    let order : SessionInOrder (length s.client.pending) session =
    in_order (length s.client.pending) s.client.session session there grounded.knows.all.sound.counts in
    let stand = grounded.knows.all.stands.requests in
    let all = published_by s l (client.client_rule s.client (at_client s)) held told nothing refl is (client_may s.client (at_client s)) session there clear in
    let published = past_all s.client.pending (session.published - session.completed) all in
    subst (λ (k : ClientCounts). k.base + k.published ≡ length l.work.issued) same
    (omega (arith, of.agree.base, of.agree.published, of.agree.completed, published, order.published, order.completed, order.acked, order.announced, ap length stand.pending, length-drop l.work.done l.work.issued, stand.done)))

client_may_put : (s : LaneState) (l : DiskLog) (held : ClientState) → Told s l → client_holds (client.client_rule s.client (at_client s)) s.client ≡ Some held → PutsAt A l
client_may_put s l held told is = (
  client_to_put s l held told is,
  putting_completed s l held told.grounded is,
  λ nothing. (
    same_waiting A s l told.grounded (none_waits (waiting_for A s.wire.wire) (puts_calm s.client (at_client s) held is (client_calm s l told nothing))),
    published_in_log s l held told nothing is,
  ),
)

-- THE SERVER
answered_in_log : (s : LaneState) (l : DiskLog) → Grounded s l → TakesFree s.server → HasAnswered l
answered_in_log s l grounded free = grind arith

server_clear : (s : LaneState) (l : DiskLog) → BothAre s l → owes s.server.link ≡ false → l.blocked.server ≡ Clear
server_clear s l both free = not_stuck (server_core s.server) l.blocked.server both.server free

fetches_clear : (s : LaneState) (l : DiskLog) (session : ServerSession) → Told s l → server.server_rule s.server (at_server s) ≡ server.Fetches session → ServesAt l
fetches_clear s l session told rule =
    let free : ServerFree s.server (server.Fetches session) = subst (ServerFree s.server) rule (server_free s.server (at_server s)) in
    (server_owes_nothing s l told free.0.free free.0.owed, server_clear s l told.both free.0.free)

serves_clear : (s : LaneState) (l : DiskLog) (session : ServerSession) (work : Work) → Told s l → server.server_rule s.server (at_server s) ≡ server.Serves session work → ServesAt l
serves_clear s l session work told rule =
    let free : ServerFree s.server (server.Serves session work) = subst (ServerFree s.server) rule (server_free s.server (at_server s)) in
    (server_owes_nothing s l told free.0.free free.0.owed, server_clear s l told.both free.0.free)

server_may_take : (s : LaneState) (l : DiskLog) (packet : List ℕ) → Told s l → server.server_rule s.server (at_server s) ≡ server.Takes packet → TakesAt B l
server_may_take s l packet told rule =
    let free : TakesFree s.server = subst (ServerFree s.server) rule (server_free s.server (at_server s)) in
    (answered_in_log s l told.grounded free, server_owes_nothing s l told free.free free.owed, server_clear s l told.both free.free)

server_fails : (s : ServerState) (rule : server.ServerRule) (reach : Reach) (cause : Cause) (packet new : List ℕ) (P : Type 0) → ServerFails rule s reach cause (Some packet) new
    → ((bytes : List ℕ) → rule ≡ server.Takes bytes → P) → P
server_fails s rule reach cause packet new P fails taking = grind arith

-- A RESET that carries a packet is one by the end's own step, which takes it
calls_none : (s behind : LaneState) (cause : Cause) (e : End) (packet : List ℕ) (lost : ℕ) (t : LaneState) → CallsReset s behind cause e (Some packet) lost t → ⊥
calls_none s behind cause e packet lost t calls = let never : Some packet ≡ None = calls.0 in absurd (cc)

reset_order : (by : Giver) (e : End) (s : LaneState) (l : DiskLog) (cause : Cause) (packet : List ℕ) (lost : ℕ) (t : LaneState) → Told s l → ResetBy by e s cause (Some packet) lost t → TakesAt e l
reset_order ByStep A s l cause packet lost t told step =
    client_fails s.client (client.client_rule s.client (at_client s)) s.memory cause packet (TakesAt A l) step.step.0 (λ bytes rule. client_may_take s l bytes told rule)
reset_order ByStep B s l cause packet lost t told step =
    server_fails s.server (server.server_rule s.server (at_server s)) (reach s (at_server s).both) cause packet t.memory (TakesAt B l) step.1.step.1.0
    (λ bytes rule. server_may_take s l bytes told rule)
reset_order ByScript A s l cause packet lost t told step = absurd (calls_none s (record s { client = joined_client s.client }) cause A packet lost t step)
reset_order ByScript B s l cause packet lost t told step = absurd (calls_none s (record s { server = joined_server s.server }) cause B packet lost t step.1)
reset_order ByRestart A s l cause packet lost t told step = absurd step
reset_order ByRestart B s l cause packet lost t told step = absurd (calls_none s (record s { server = restarted_server s.server }) cause B packet lost t step.1)
reset_order ByTick A s l cause packet lost t told step = absurd (calls_none s (record s { client = joined_client s.client }) cause A packet lost t step.1)
reset_order ByTick B s l cause packet lost t told step = absurd step

-- AN IDLE END
idle_order : (e : End) (s : LaneState) (l : DiskLog) (t : LaneState) → Told s l → EndOnWire e s (Idle e) t → OwesNothing e l
idle_order A s l t told step =
    let idles = client_idles s.client (at_client s) step.step.0 in
    client_owes_nothing s l told (control_free s.client.link (owes_control s.client.link) refl idles.rests.free) idles.rests.owed
idle_order B s l t told step = let idles = server_idles s.server (at_server s) step.1.step.1.0 in server_owes_nothing s l told idles.free idles.owed

-- EACH EVENT
pub order_at : (s : LaneState) (l : DiskLog) (event : DiskEvent) (t : LaneState) → Told s l → LaneStep s event t → OrderAt l event
order_at s l (OnWire (Took A packet opens)) t told step = client_may_take s l packet told step.step.0
order_at s l (OnWire (Took B packet opens)) t told step = server_may_take s l packet told step.1.step.1.0
order_at s l (OnWire (Sent A packet opens)) t told step = client_may_put s l step.step.held told step.step.holds
order_at s l (OnWire (Sent B packet opens)) t told step = server_to_put s l step.1.step.1.0.held told step.1.step.1.0.holds
order_at s l (OnWire (Blocked A)) t told step = client_may_put s l t.client told step.step.0
order_at s l (OnWire (Blocked B)) t told step = server_to_put s l t.server told step.1.step.1.0
order_at s l (OnWire (Reset e cause (Some packet) lost)) t told step = reset_order (giver cause) e s l cause packet lost t told step
order_at s l (OnWire (Idle e)) t told step = idle_order e s l t told step
order_at s l (Works (Published id)) t told step = publishes_order s l step.step.session step.step.request told step.step.rule
order_at s l (Works (Done id operation status bytes)) t told step = tt
order_at s l (Works (Desc slot bytes)) t told step = fetches_clear s l step.1.step.1.0.session told step.1.step.1.0.rule
order_at s l (Works Misplaced) t told step = tt
order_at s l (Works _) t told step = serves_clear s l step.1.step.1.0.session step.1.step.1.0.work told step.1.step.1.0.rule
order_at s l _ t told step = tt
