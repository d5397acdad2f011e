-- Where an end of a port is idle directly after the other, where nobody forged and nothing was lost, no frame is left.
use Rattle.std.proofs.Common.{◌≡◌, ◌≢◌, ℕ, ◌-◌, ◌<◌, ◌≤◌, true, false, Option, Some, None, List, [], ◌++◌, length, refl, sym, subst, ap, ◌∙◌, arith}
use Rattle.std.proofs.lemmas.Bool.{cases_lt}
use Rattle.std.proofs.lemmas.List.{append-nil, append_cancel_left}
use Rattle.ldc_link.specs.declared.phase.Role.TheVariants.{Initiator, Responder}
use Rattle.ldc_queue.specs.declared.end.ChannelState.{ChannelState}
use Rattle.ldc_queue.specs.declared.end.ChannelState.TheVariants.{Up}
use Rattle.ldc_queue.specs.declared.end.End.{End}
use Rattle.ldc_queue.specs.declared.end.End.TheVariants.{A, B}
use Rattle.ldc_queue.specs.Numbered.{numbered}
use Rattle.ldc_queue.specs.OneStream.{OneWay, live}
use Rattle.ldc_queue.specs.Transcript.{numbered_heard, numbered_said}
use Rattle.runs.specs.Lawful.{Lawful}
use Rattle.runs.specs.Run.{Run}
use Rattle.lane_models.proofs.SameSayings.{heard_is, said_is}
use Rattle.lane_models.specs.Sayings.{heard, said}
use Rattle.lane_models.specs.TranscriptLog.{transcript_of}
use Rattle.lane_models.specs.WireLog.{WireLog}
use Rattle.lane_models.specs.Conversing.{Converse}
use Rattle.lane_models.specs.Sides.{Sides}
use Rattle.lane_models.proofs.Moving.{before_keeps}
use Rattle.lane_models.proofs.Refuting.{true_false}
use Rattle.lane_models.proofs.Ruling.{says_of}
use Rattle.lane_models.specs.EndLog.{SessionLog}
use Rattle.lane_models.specs.NetEndRule.{Idles, port_rule}
use Rattle.lane_models.specs.NetEndState.{NetEndState, NetSession}
use Rattle.lane_models.specs.NetEndStep.{Idle}
use Rattle.lane_models.specs.NetEvent.{CalmTick, NetEvent, Steps}
use Rattle.lane_models.specs.NetLaneState.{IsNetShape, NetShape, net_end, role_at, seen_at}
use Rattle.lane_models.specs.NetLaneStep.{NetLaneStep}
use Rattle.lane_models.specs.PortLog.{PortLog, after, log_of_end, no_events}
use Rattle.lane_models.specs.PortState.{OnLane, PortEvent, PortState, PortStep, before, fresh_port}
use Rattle.lane_models.specs.RestLaws.{TwoIdleAt}
use Rattle.lane_models.specs.RuleFacts.{IfOpen, MayListen}
use Rattle.port_laws.specs.NoneLeft.{NoneLeft, NoneLeftAt}
use Rattle.port_laws.specs.WaysStand.{Way, WaysStand, acks_in, infos_in}
use Rattle.port_laws.proofs.PortCounts.{before_wire, queue_of, ready_before}
use Rattle.port_laws.proofs.PortRuns.{before_guest, lawful_on_lane}
use Rattle.port_laws.proofs.RingActs.{Finds}
use Rattle.port_laws.proofs.RingRuns.{finds_before}
use Rattle.port_laws.proofs.RuleFrames.{both_open, end_acts, end_counted, end_stood, seen_within}
use Rattle.port_laws.proofs.RuleIdle.{idle_counts, rule_left}
use Rattle.port_laws.proofs.RuleTwoIdle.{IdlesKept, idles_kept, two_idle_event}
use Rattle.port_laws.proofs.TookCounts.{free_empty}
use Rattle.port_laws.proofs.WayRuns.{KeptWays, port_ways, ways_before}
use Rattle.lane_models.proofs.NextPacket.{none_of}
use Rattle.lane_models.proofs.LinkPlaced.{up_live}
use Rattle.port_laws.proofs.LaneMoves.{up_of}
use Rattle.lane_models.proofs.EndsAtRest.{none_waits}

-- WHAT WAS SAID WAS HEARD where nothing was lost and nothing waits
one_way : (x y : ChannelState) (put took waiting : List (List ℕ)) (lost : ℕ) → OneWay (live x put) (live y took) (numbered waiting) lost → lost ≡ 0 → waiting ≡ [] → x ≡ Up → y ≡ Up → put ≡ took
one_way x y put took waiting lost way whole none up other = grind (arith, none_of, up_live, append-nil)

pub record HeardAll (s : Sides) : Type 0 where
  pub mine : said s.mine.utterances ≡ heard s.theirs.utterances
  pub theirs : said s.theirs.utterances ≡ heard s.mine.utterances

pub heard_all : (s : Sides) → Converse Initiator s → s.lossy ≡ false → s.mine.state ≡ Up → s.theirs.state ≡ Up → s.mine.waiting ≡ [] → s.theirs.waiting ≡ [] → HeardAll s
heard_all s c whole up other none other_none =
    let lost = c.whole whole in
    let asked : numbered_said s.mine.utterances ≡ numbered_heard s.theirs.utterances =
    one_way s.mine.state s.theirs.state (numbered_said s.mine.utterances) (numbered_heard s.theirs.utterances) s.theirs.waiting c.lost_theirs c.stream.to_b lost.1 other_none up other in
    let answered : numbered_said s.theirs.utterances ≡ numbered_heard s.mine.utterances =
    one_way s.theirs.state s.mine.state (numbered_said s.theirs.utterances) (numbered_heard s.mine.utterances) s.mine.waiting c.lost_mine c.stream.to_a lost.0 none other up in
    grind (arith, said_is, heard_is)

nothing_goes : (told taken going : List (List ℕ)) → told ≡ taken ++ going → told ≡ taken → going ≡ []
nothing_goes told taken going is same = append_cancel_left taken going [] (sym is ∙ same ∙ sym (append-nil taken))

-- ONE DIRECTION at rest
rests_seen : (slots : ℕ) (v w : SessionLog) (infos acks : List (List ℕ)) → infos ≡ [] → acks ≡ [] → w.acks ≡ w.asked → (v.seen < v.published → v.asking ≡ true) → v.seen ≤ v.published
    → Way slots v w infos acks → v.seen ≡ v.published
rests_seen slots v w infos acks no_info no_ack answered announced within given = grind (arith, cases_lt, true_false)

-- AN IDLE END, by its log
pub record IdleEnd (e : End) (u : PortState) (l : PortLog) (v : SessionLog) : Type 0 where
  answered : v.acks ≡ v.asked
  announced : v.seen < v.published → v.asking ≡ true
  pub unseen : v.published - v.seen ≡ length (net_end e u.lane).frames
  within : v.seen ≤ v.published

pub idle_end : (shape : NetShape) (e : End) (u : PortState) (l : PortLog) (v : SessionLog) → Finds shape u l → port_rule (role_at e) (net_end e u.lane) (seen_at e u.lane) ≡ Idles → (log_of_end e l).session ≡ Some v
    → IdleEnd e u l v
idle_end shape e u l v finds idles log =
    let s : NetEndState = net_end e u.lane in
    let counted = end_counted shape e u l finds.ready in
    let says = says_of (role_at e) s (seen_at e u.lane) Idles idles in
    let acting = end_acts shape e u l finds.ready says.0.up in
    let both = both_open (role_at e) shape.slots (queue_of e u) s (log_of_end e l) v counted log in
    let listens : MayListen both.p = subst (λ (x : Option NetSession). IfOpen x MayListen) both.is says.2 in
    let left = rule_left (role_at e) s (seen_at e u.lane) both.p says.0 says.1 both.is listens idles in
    let counts = idle_counts (role_at e) shape.slots (queue_of e u) s (log_of_end e l) v both.p counted (end_stood shape e u l finds.ready) both.is log
    (free_empty (role_at e) s (transcript_of e l.transcript) acting.ends says.0.quiet) listens left in
    record {
      answered = counts.answered;
      announced = counts.announced;
      unseen = counts.unseen;
      within = seen_within (role_at e) shape.slots (queue_of e u) s (log_of_end e l) v counted (end_stood shape e u l finds.ready) log;
    }

pub some_log : (log : Option SessionLog) → log ≢ None → (v : SessionLog) × (log ≡ Some v)
some_log log some = grind arith

both_left : (shape : NetShape) (u : PortState) (l : PortLog) → Finds shape u l → WaysStand u.lane l → port_rule Initiator u.lane.guest (seen_at A u.lane) ≡ Idles
    → port_rule Responder u.lane.hub (seen_at B u.lane) ≡ Idles → l.wire.lossy ≡ false → (l.guest.session ≢ None) × (l.hub.session ≢ None) → NoneLeft l
both_left shape u l finds ways guest_idles hub_idles lossless opened =
    let guest_says = says_of Initiator u.lane.guest (seen_at A u.lane) Idles guest_idles in
    let hub_says = says_of Responder u.lane.hub (seen_at B u.lane) Idles hub_idles in
    let up : u.lane.wire.wire.end_a ≡ Up = up_of u.lane.wire.wire.end_a guest_says.0.up in
    let other : u.lane.wire.wire.end_b ≡ Up = up_of u.lane.wire.wire.end_b hub_says.0.up in
    let whole : u.lane.wire.lossy ≡ false = ap (λ (w : WireLog). w.lossy) finds.ready.wire ∙ lossless in
    let two_ends = finds.two_ends.two_ends A in
    let all = heard_all _ two_ends.meets.converse whole up other (none_waits _ guest_says.1) (none_waits _ hub_says.1) in
    let between = ways up other opened.0 in
    let going : between.going ≡ [] = nothing_goes (said l.transcript.a) (heard l.transcript.b) between.going between.goes all.mine in
    let coming : between.coming ≡ [] = nothing_goes (said l.transcript.b) (heard l.transcript.a) between.coming between.comes all.theirs in
    let guest = some_log l.guest.session opened.0 in
    let hub = some_log l.hub.session opened.1 in
    let guest_end = idle_end shape A u l guest.0 finds guest_idles guest.1 in
    let hub_end = idle_end shape B u l hub.0 finds hub_idles hub.1 in
    let mine : Way l.shape.slots guest.0 hub.0 (infos_in between.going) (acks_in between.coming) =
    rw hub.1 at (rw guest.1 at between.mine) in
    let theirs : Way l.shape.slots hub.0 guest.0 (infos_in between.coming) (acks_in between.going) =
    rw guest.1 at (rw hub.1 at between.theirs) in
    let guest_seen : guest.0.seen ≡ guest.0.published =
    rests_seen l.shape.slots guest.0 hub.0 (infos_in between.going) (acks_in between.coming) (ap infos_in going) (ap acks_in coming) hub_end.answered guest_end.announced guest_end.within mine in
    let hub_seen : hub.0.seen ≡ hub.0.published =
    rests_seen l.shape.slots hub.0 guest.0 (infos_in between.coming) (acks_in between.going) (ap infos_in coming) (ap acks_in going) guest_end.answered hub_end.announced hub_end.within theirs in
    grind arith

-- AN EVENT
pub before_entries : (event : NetEvent) (s : PortState) → (before event s).lane.shape.entries ≡ s.lane.shape.entries
before_entries event s = before_keeps (λ (x : PortState). x.lane.shape.entries ≡ s.lane.shape.entries) event s (λ frame frames. refl) refl

pub moved_guest : (s u : PortState) → u.lane.guest ≡ s.lane.guest → u.lane.wire ≡ s.lane.wire → u.lane.shape.entries ≡ s.lane.shape.entries
    → port_rule Initiator s.lane.guest (seen_at A s.lane) ≡ Idles → port_rule Initiator u.lane.guest (seen_at A u.lane) ≡ Idles
moved_guest s u guest wire entries idles = grind arith

left_event : (shape : NetShape) (s : PortState) (l : PortLog) (event : NetEvent) (t : PortState) → IsNetShape shape → KeptWays shape s l → IdlesKept s l → TwoIdleAt l (OnLane event)
    → NetLaneStep (before event s).lane event t.lane → NoneLeftAt l (OnLane event)
left_event shape s l (Steps A Idle) t is had kept opened step = λ last clean whole.
    both_left shape s l (finds_before shape s l (Steps A Idle) is had.kept clean) (had.ways clean) step.step.0 (kept.idles B last) whole (opened last clean whole)
left_event shape s l (Steps B Idle) t is had kept opened step = λ last clean whole.
    let u : PortState = before (Steps B Idle) s in
    let wire = before_wire (Steps B Idle) s in
    let guest : port_rule Initiator u.lane.guest (seen_at A u.lane) ≡ Idles =
    moved_guest s u (before_guest (Steps B Idle) s) wire (before_entries (Steps B Idle) s) (kept.idles A last) in
    both_left shape u l (finds_before shape s l (Steps B Idle) is had.kept clean) (ways_before (Steps B Idle) s l (had.ways clean)) guest step.step.0 whole (opened last clean whole)
left_event shape s l _ t is had kept opened step = tt

pub port_none_left : (shape : NetShape) (events : List PortEvent) (s : PortState) → IsNetShape shape → Run PortStep (fresh_port shape) events s → Lawful NoneLeftAt after (no_events shape) events
port_none_left shape events s is run =
    lawful_on_lane shape NoneLeftAt (λ l frame. tt) (λ xs x event y ran step.
    let had = port_ways shape xs x is ran in
    let ready = ready_before shape x _ (CalmTick 0) is had.kept.counts in
    left_event shape x _ event y is had (idles_kept shape xs x ran)
    (two_idle_event shape x _ event y had.kept.counts ready step.1) step.1) events s run
