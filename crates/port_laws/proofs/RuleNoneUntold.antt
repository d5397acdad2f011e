-- Where an end of a port is idle directly after the other, where nobody forged and nothing was lost, the guest told all its groups.
use Rattle.std.proofs.Common.{◌≡◌, ◌≢◌, Bool, false, Option, None, List, [], refl, subst, ap, ◌∙◌, arith, ℕ, Some, sym}
use Rattle.std.specs.Prelude.{◌&&◌, is_some, not}
use Rattle.std.proofs.lemmas.List.{drop_all}
use Rattle.ldc_link.specs.declared.phase.Role.TheVariants.{Initiator, Responder}
use Rattle.ldc_queue.specs.declared.end.ChannelState.TheVariants.{Up}
use Rattle.ldc_queue.specs.declared.end.End.TheVariants.{A, B}
use Rattle.ldc_queue.specs.Transcript.{Utterance}
use Rattle.runs.specs.Lawful.{Lawful}
use Rattle.runs.specs.Run.{Run}
use Rattle.lane_models.specs.Sayings.{heard, said}
use Rattle.lane_models.specs.WireLog.{WireLog}
use Rattle.lane_models.proofs.Refuting.{true_false}
use Rattle.lane_models.proofs.Ruling.{says_of}
use Rattle.lane_models.specs.FrameLaws.{InSession, ToldAll}
use Rattle.lane_models.specs.NetEndRule.{Idles, port_rule}
use Rattle.lane_models.specs.NetEndState.{GroupsReply, NetEndState, NetSession}
use Rattle.lane_models.specs.NetEndStep.{Idle}
use Rattle.lane_models.specs.NetEvent.{CalmTick, NetEvent, Steps}
use Rattle.lane_models.specs.NetLaneState.{IsNetShape, NetShape, seen_at}
use Rattle.lane_models.specs.NetLaneStep.{NetLaneStep}
use Rattle.lane_models.specs.PortLog.{PortLog, after, no_events}
use Rattle.lane_models.specs.PortState.{OnLane, PortEvent, PortState, PortStep, before, fresh_port}
use Rattle.lane_models.specs.RestLaws.{TwoIdleAt}
use Rattle.lane_models.specs.RuleFacts.{IfOpen, MayListen}
use Rattle.port_laws.specs.NetCore.{one_if}
use Rattle.port_laws.specs.NoneUntold.{KnowsAll, NoneUntoldAt}
use Rattle.port_laws.proofs.EndCounting.{OpenCounts, empty_unsaid}
use Rattle.port_laws.proofs.Outbox.{count_groups, outbox}
use Rattle.port_laws.proofs.PortCounts.{before_wire, ready_before}
use Rattle.port_laws.proofs.PortRuns.{before_guest, lawful_on_lane}
use Rattle.port_laws.proofs.RingActs.{Finds}
use Rattle.port_laws.proofs.RingRuns.{finds_before}
use Rattle.port_laws.proofs.RuleFrames.{both_open, end_acts}
use Rattle.port_laws.proofs.RuleIdle.{rule_left}
use Rattle.port_laws.proofs.RuleNoneLeft.{before_entries, heard_all, moved_guest, some_log}
use Rattle.port_laws.proofs.RuleTwoIdle.{IdlesKept, idles_kept, two_idle_event}
use Rattle.port_laws.proofs.RuleGroups.{hub_told}
use Rattle.port_laws.proofs.GroupsExchanged.{owed_replies, reply_in, AllTold}
use Rattle.port_laws.proofs.ExchangeGuest.{ExchangeStands}
use Rattle.port_laws.proofs.ExchangeRuns.{KeptExchange, before_exchange, port_exchange}
use Rattle.port_laws.proofs.TookCounts.{free_empty}
use Rattle.port_laws.proofs.LaneMoves.{up_of}
use Rattle.lane_models.specs.EndLog.{SessionLog}
use Rattle.port_laws.specs.Counted.{GroupCounts}
use Rattle.port_laws.specs.GroupsTold.{told_in}
use Rattle.lane_models.proofs.EndsAtRest.{none_waits}

none_out : (s : NetEndState) (mine theirs : List Utterance) → said mine ≡ heard theirs → s.link.to_send ≡ [] → outbox s mine theirs ≡ []
none_out s mine theirs all empty = grind (arith, drop_all, empty_unsaid)

none_telling : (b : Bool) → one_if b ≡ 0 → b ≡ false
none_telling b is = grind arith

told_by : (untold telling : Bool) → (untold && not telling) ≡ false → telling ≡ false → untold ≡ false
told_by untold telling idle none = grind (arith, true_false)

both_told : (shape : NetShape) (u : PortState) (l : PortLog) → Finds shape u l → ExchangeStands u.lane l → port_rule Initiator u.lane.guest (seen_at A u.lane) ≡ Idles
    → port_rule Responder u.lane.hub (seen_at B u.lane) ≡ Idles → l.wire.lossy ≡ false → (l.guest.session ≢ None) × (l.hub.session ≢ None)
    → InSession l.guest.session (ToldAll l) × InSession l.hub.session (KnowsAll l)
both_told shape u l finds exchange guest_idles hub_idles lossless opened =
    let guest_says = says_of Initiator u.lane.guest (seen_at A u.lane) Idles guest_idles in
    let hub_says = says_of Responder u.lane.hub (seen_at B u.lane) Idles hub_idles in
    let up : u.lane.wire.wire.end_a ≡ Up = up_of u.lane.wire.wire.end_a guest_says.0.up in
    let other : u.lane.wire.wire.end_b ≡ Up = up_of u.lane.wire.wire.end_b hub_says.0.up in
    let whole : u.lane.wire.lossy ≡ false = ap (λ (w : WireLog). w.lossy) finds.ready.wire ∙ lossless in
    let all = heard_all _ (finds.two_ends.two_ends A).meets.converse whole up other (none_waits _ guest_says.1) (none_waits _ hub_says.1) in
    let guest = some_log l.guest.session opened.0 in
    let hub = some_log l.hub.session opened.1 in
    let both = both_open Initiator shape.slots [] u.lane.guest l.guest guest.0 finds.ready.guest guest.1 in
    let hub_both = both_open Responder shape.slots u.queue u.lane.hub l.hub hub.0 finds.ready.hub hub.1 in
    let listens : MayListen both.p = subst (λ (x : Option NetSession). IfOpen x MayListen) both.is guest_says.2 in
    let hub_listens : MayListen hub_both.p = subst (λ (x : Option NetSession). IfOpen x MayListen) hub_both.is hub_says.2 in
    let empty = free_empty Initiator u.lane.guest l.transcript.a (end_acts shape A u l finds.ready guest_says.0.up).ends guest_says.0.quiet in
    let hub_empty = free_empty Responder u.lane.hub l.transcript.b (end_acts shape B u l finds.ready hub_says.0.up).ends hub_says.0.quiet in
    let exchanging = exchange both.p up other both.is in
    let sent = none_out u.lane.guest l.transcript.a l.transcript.b all.mine empty in
    let asks = ap count_groups sent in
    let answers = ap count_groups (none_out u.lane.hub l.transcript.b l.transcript.a all.theirs hub_empty) in
    let owed : owed_replies u.lane.hub.session ≡ 0 = ap (λ (o : Option GroupsReply). one_if (is_some o)) (ap reply_in hub_both.is ∙ hub_listens.0) in
    let counted = exchanging.counted in
    let telling : both.p.telling ≡ false = none_telling both.p.telling (omega (arith, counted, asks, answers, owed)) in
    let left = rule_left Initiator u.lane.guest (seen_at A u.lane) both.p guest_says.0 guest_says.1 both.is listens guest_idles in
    let untold : both.p.untold ≡ false = told_by both.p.untold both.p.telling (left.told refl) telling in
    let here : OpenCounts Initiator shape.slots u.lane.guest.groups l.guest.published l.guest.gone None u.lane.guest.link.begun both.p l.guest.session =
    rw (empty_unsaid u.lane.guest empty) at both.open_is in
    let groups : GroupCounts both.p u.lane.guest.groups here.of_log = here.counts.guest in
    let known : u.lane.hub.groups ≡ u.lane.guest.groups = subst (AllTold u.lane.guest.groups u.lane.hub.groups) sent (exchanging.latest untold) in (
      subst (λ (o : Option SessionLog). InSession o (ToldAll l)) (sym here.is)
          (groups.named untold ∙ ap (λ (xs : List (List ℕ)). Some xs) finds.ready.members, groups.answered telling untold),
      subst (λ (o : Option SessionLog). InSession o (KnowsAll l)) (sym hub.1)
          (sym (hub_told shape.slots u.queue u.lane.hub l.hub finds.ready.hub ∙ ap told_in hub.1) ∙ known ∙ finds.ready.members),
    )

-- AN EVENT
told_event : (shape : NetShape) (s : PortState) (l : PortLog) (event : NetEvent) (t : PortState) → IsNetShape shape → KeptExchange shape s l → IdlesKept s l → TwoIdleAt l (OnLane event)
    → NetLaneStep (before event s).lane event t.lane → NoneUntoldAt l (OnLane event)
told_event shape s l (Steps A Idle) t is had kept opened step = λ last clean whole.
    both_told shape s l (finds_before shape s l (Steps A Idle) is had.ways.kept clean) (had.exchange clean) step.step.0 (kept.idles B last) whole (opened last clean whole)
told_event shape s l (Steps B Idle) t is had kept opened step = λ last clean whole.
    let u : PortState = before (Steps B Idle) s in
    both_told shape u l (finds_before shape s l (Steps B Idle) is had.ways.kept clean) (before_exchange (Steps B Idle) s l (had.exchange clean))
    (moved_guest s u (before_guest (Steps B Idle) s) (before_wire (Steps B Idle) s) (before_entries (Steps B Idle) s) (kept.idles A last)) step.step.0 whole (opened last clean whole)
told_event shape s l _ t is had kept opened step = tt

pub port_none_untold : (shape : NetShape) (events : List PortEvent) (s : PortState) → IsNetShape shape → Run PortStep (fresh_port shape) events s → Lawful NoneUntoldAt after (no_events shape) events
port_none_untold shape events s is run =
    lawful_on_lane shape NoneUntoldAt (λ l frame. tt) (λ xs x event y ran step.
    let had = port_exchange shape xs x is ran in
    let ready = ready_before shape x _ (CalmTick 0) is had.ways.kept.counts in
    told_event shape x _ event y is had (idles_kept shape xs x ran)
    (two_idle_event shape x _ event y had.ways.kept.counts ready step.1) step.1) events s run
