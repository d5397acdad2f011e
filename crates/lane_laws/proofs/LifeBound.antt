-- What remains on a lane that nobody forged is at most 36, and 16 for each pending request; where a packet was lost, at most 69 and 32.
use Rattle.std.proofs.Common.{◌≡◌, ◌≢◌, ℕ, ◌^◌, ◌+◌, ◌-◌, ◌*◌, ◌%◌, ◌≤◌, ◌<◌, Bool, true, false, Option, Some, None, List, length, refl, sym, ap, ◌∙◌, subst, arith}
use Rattle.std.specs.Prelude.{is_some}
use Rattle.runs.specs.Lawful.{log_of}
use Rattle.runs.specs.Run.{Run}
use Rattle.ldc_queue.specs.declared.end.ChannelState.TheVariants.{Up}
use Rattle.ldc_queue.specs.declared.end.End.TheVariants.{A, B}
use Rattle.ldc_queue.specs.OneStream.{IsFront}
use Rattle.lane_models.specs.Sayings.{heard, said}
use Rattle.lane_models.specs.TranscriptLog.{TranscriptLog}
use Rattle.lane_laws.specs.Agreement.{ServerCountsAgree, WorkAgrees}
use Rattle.lane_laws.specs.DiskLog.{DiskLog, after, nothing_yet}
use Rattle.lane_laws.specs.WorkLog.{ServerCounts}
use Rattle.lane_models.specs.ClientState.{ClientSession}
use Rattle.lane_models.specs.DiskEvent.{DiskEvent}
use Rattle.lane_models.specs.LaneState.{IsShape, LaneState, Shape, fresh}
use Rattle.lane_models.specs.LaneStep.{LaneStep}
use Rattle.lane_models.specs.Ranges.{wrapped}
use Rattle.lane_models.specs.ServerState.{ServerSession, SlotRange, Work}
use Rattle.lane_laws.proofs.Agreeing.{asked_within, client_some, front_sum, one_ring}
use Rattle.lane_laws.proofs.LaneCores.{transcript_is}
use Rattle.lane_laws.proofs.FlightServer.{FewPieces}
use Rattle.lane_laws.proofs.HeardFront.{heard_messages}
use Rattle.lane_laws.proofs.LaneCounting.{Knows, run_knows}
use Rattle.lane_laws.proofs.RangeSums.{counts_fewer, counts_front}
use Rattle.lane_laws.proofs.Sharing.{in_order}
use Rattle.lane_laws.specs.Budget.{infos_begun, one_if, one_range}
use Rattle.lane_laws.specs.Counted.{InServerOrder, NothingAsked, RangeStands, ServerOrder, acked_of, announced_of, infos_of, range_count, range_sum}
use Rattle.lane_laws.specs.LaneTranscripts.{transcript_behind}
use Rattle.lane_laws.specs.Remaining.{asked_in, requests_left, serving_left, total, unfinished, work_left}
use Rattle.lane_laws.specs.Sound.{SessionInOrder}
use Rattle.lane_models.proofs.Apart.{true_is_false}
use Rattle.lane_laws.proofs.ServerPutCounting.{work_most}

-- THE REQUESTS of two ends that are up: what remains of them, and two packets for each INFO that isn't answered, are at most 16 for each
-- that is pending
all_requests : (pending completed acked announced own published infos answers asked finished serving : ℕ) → completed ≤ acked → acked ≤ finished → finished ≤ asked → asked ≤ announced → announced + own ≤ published
    → published ≤ completed + pending → infos + acked ≤ announced + answers → serving + 10 * finished ≤ 10 * asked
    → ((pending + completed) - published) + 2 * ((pending + completed) - (announced + own)) + pending + 12 * ((pending + completed) - asked) + serving + 2 * (infos + own) ≤ 16 * pending + 2 * answers
all_requests pending completed acked announced own published infos answers asked finished serving done answered fetched told named most outstanding served =
    omega (arith, done, answered, fetched, told, named, most, outstanding, served)

-- the one that the link holds announces some more
own_within : (own : Bool) (announced published : ℕ) → announced ≤ published → (own ≡ true → announced < published) → announced + one_if own ≤ published
own_within true announced published most more = omega (arith, more refl)
own_within false announced published most more = omega (arith, most)

front_counts : (slots subtype : ℕ) (xs ys : List (List ℕ)) → IsFront xs ys → range_count subtype ys + range_sum slots subtype xs ≤ range_sum slots subtype ys + range_count subtype xs
front_counts slots subtype xs ys front =
    subst (λ (zs : List (List ℕ)). range_count subtype zs + range_sum slots subtype xs ≤ range_sum slots subtype zs + range_count subtype xs) (sym front.1) (counts_front slots subtype xs front.0)

-- what the server serves
left_of : (asked finished : ℕ) → asked < 2 ^ 64 → finished ≤ asked → ((asked + 2 ^ 64) - finished) % 2 ^ 64 + finished ≡ asked
left_of asked finished small most = omega (arith, small, most)

serves_most : (work : Option Work) (n : ℕ) → FewPieces work → (work ≢ None → 1 ≤ n) → work_left n work ≤ 10 * n
serves_most None n few some = omega arith
serves_most (Some work) n few some = omega (arith, few, some (λ none. cc none))

abbrev pub RequestsLeft : Option ClientSession → Option ServerSession → Option Work → ℕ → ℕ → Type 0
RequestsLeft o p work pending answers =
    requests_left pending o + 12 * (total pending o - asked_in p) + serving_left work p + 2 * infos_begun o ≤ 16 * pending + 2 * answers

-- the counts of a server's session
record Serving (s : LaneState) (l : DiskLog) (session : ServerSession) : Type 0 where
  counts : ServerCounts
  is : l.work.server ≡ Some counts
  agree : ServerCountsAgree session counts
  work : WorkAgrees s.server.work counts
  order : InServerOrder l.shape.slots session counts l.transcript.b

serving_of : (s : LaneState) (l : DiskLog) (session : ServerSession) → Knows s l → s.server.session ≡ Some session → Serving s l session
serving_of s l session knows is = grind arith

working_more : (work : Option Work) (d : ServerCounts) → WorkAgrees work d → d.descs ≤ d.asked → work ≢ None → d.finished + 1 ≤ d.asked
working_more None d agrees most some = absurd (some refl)
working_more (Some work) d agrees most some = omega (arith, agrees.2, most)

range_more : (slots : ℕ) (range : Option SlotRange) (d : ServerCounts) → RangeStands slots range d → one_range range + d.answered ≤ d.asked
range_more slots None d stands = omega (arith, stands)
range_more slots (Some range) d stands = omega (arith, stands.0)

-- counts that are as many modulo 2^64 and below it, and requests and answers along both directions
small_same : (a b n m : ℕ) → a ≡ wrapped b → m ≡ n → m < 2 ^ 64 → b ≤ n → a ≡ b
small_same a b n m is same small most = omega (arith, is, same, small, most)

more_left : (left finished asked f n : ℕ) → left + finished ≡ asked → finished ≡ f → asked ≡ n → f + 1 ≤ n → 1 ≤ left
more_left left finished asked f n is one other more = omega (arith, is, one, other, more)

all_outstanding : (infos acked announced answers said_count said_sum heard_count heard_sum replied_count replied_sum acked_sum range : ℕ) → infos ≡ said_count → acked ≡ acked_sum → announced ≡ said_sum
    → said_count + heard_sum ≤ said_sum + heard_count → replied_count + acked_sum ≤ replied_sum + answers → heard_count ≤ replied_count + range → range + replied_sum ≤ heard_sum
    → infos + acked ≤ announced + answers
all_outstanding infos acked announced answers said_count said_sum heard_count heard_sum replied_count replied_sum acked_sum range a b c d e f g = omega (arith, a, b, c, d, e, f, g)

-- WHERE BOTH SESSIONS are open
both_open : (shape : Shape) (events : List DiskEvent) (s : LaneState) (c : ClientSession) (v : ServerSession) → IsShape shape → Run LaneStep (fresh shape) events s → s.wire.forged ≡ false
    → s.wire.wire.end_a ≡ Up → s.wire.wire.end_b ≡ Up → s.client.session ≡ Some c → s.server.session ≡ Some v → FewPieces s.server.work
    → RequestsLeft (Some c) (Some v) s.server.work (length s.client.pending) (range_count 2 (heard (log_of after (nothing_yet shape) events).transcript.a))
both_open shape events s c v sound run clean up_a up_b is_c is_v pieces =
    let l = log_of after (nothing_yet shape) events in
    let slots = l.shape.slots in
    let knows : Knows s l = run_knows shape events s sound run in
    let transcript : l.transcript ≡ transcript_behind events = transcript_is (nothing_yet shape) events in
    let front_b : IsFront (heard l.transcript.b) (said l.transcript.a) = subst (λ (t : TranscriptLog). IsFront (heard t.b) (said t.a)) (sym transcript) (heard_messages shape events s B sound run clean up_b) in
    let front_a : IsFront (heard l.transcript.a) (said l.transcript.b) = subst (λ (t : TranscriptLog). IsFront (heard t.a) (said t.b)) (sym transcript) (heard_messages shape events s A sound run clean up_a) in
    let order : SessionInOrder (length s.client.pending) c = in_order (length s.client.pending) s.client.session c is_c knows.all.sound.counts in
    let announced : c.announced ≡ range_sum slots 1 (said l.transcript.a) = sym (ap announced_of is_c) ∙ knows.counted.client.announced in
    let acked : c.acked ≡ range_sum slots 2 (heard l.transcript.a) = sym (ap acked_of is_c) ∙ knows.counted.client.acked in
    let infos : c.infos ≡ range_count 1 (said l.transcript.a) = sym (ap infos_of is_c) ∙ knows.counted.client.infos in
    let serves : Serving s l v = serving_of s l v knows is_v in
    let d = serves.counts in
    let within = asked_within shape events s v sound run clean up_b is_v in
    let asked : v.asked ≡ d.asked = within.asked ∙ sym serves.order.asked in
    let finished_descs = work_most s.server.work d serves.work in
    let finished : v.finished ≡ d.finished = small_same v.finished d.finished d.asked v.asked serves.agree.finished asked within.small (omega (arith, finished_descs, serves.order.descs)) in
    let fetched : v.finished ≤ v.asked = omega (arith, finished, asked, finished_descs, serves.order.descs) in
    let left : unfinished v + v.finished ≡ v.asked = left_of v.asked v.finished (omega (arith, within.small)) fetched in
    let serving : work_left (unfinished v) s.server.work ≤ 10 * unfinished v =
    serves_most s.server.work (unfinished v) pieces (λ some. more_left (unfinished v) v.finished v.asked d.finished d.asked left finished asked (working_more s.server.work d serves.work serves.order.descs some)) in
    let outstanding : c.infos + c.acked ≤ c.announced + range_count 2 (heard l.transcript.a) =
    all_outstanding c.infos c.acked c.announced (range_count 2 (heard l.transcript.a)) (range_count 1 (said l.transcript.a)) (range_sum slots 1 (said l.transcript.a)) (range_count 1 (heard l.transcript.b))
    (range_sum slots 1 (heard l.transcript.b)) (range_count 2 (said l.transcript.b)) (range_sum slots 2 (said l.transcript.b)) (range_sum slots 2 (heard l.transcript.a)) (one_range v.range) infos acked
    announced (front_counts slots 1 (heard l.transcript.b) (said l.transcript.a) front_b) (front_counts slots 2 (heard l.transcript.a) (said l.transcript.b) front_a) serves.order.replies
    (omega (arith, range_more slots v.range d serves.order.range, serves.order.asked, serves.order.answered)) in
    all_requests (length s.client.pending) c.completed c.acked c.announced (one_if c.announcing) c.published c.infos (range_count 2 (heard l.transcript.a)) v.asked v.finished (work_left (unfinished v) s.server.work) order.completed
    (omega (arith, acked, front_sum slots 2 (heard l.transcript.a) (said l.transcript.b) front_a, serves.order.answered, serves.order.finished, finished)) fetched
    (omega (arith, announced, front_sum slots 1 (heard l.transcript.b) (said l.transcript.a) front_b, within.asked)) (own_within c.announcing c.announced c.published order.announced order.own) order.published outstanding (omega (arith, serving, left))

-- where the client's alone is open
client_alone : (shape : Shape) (events : List DiskEvent) (s : LaneState) (c : ClientSession) → IsShape shape → Run LaneStep (fresh shape) events s → s.wire.forged ≡ false
    → s.wire.wire.end_a ≡ Up → s.client.session ≡ Some c → s.server.session ≡ None
    → RequestsLeft (Some c) None s.server.work (length s.client.pending) (range_count 2 (heard (log_of after (nothing_yet shape) events).transcript.a))
client_alone shape events s c sound run clean up_a is_c is_v =
    let l = log_of after (nothing_yet shape) events in
    let slots = l.shape.slots in
    let knows : Knows s l = run_knows shape events s sound run in
    let transcript : l.transcript ≡ transcript_behind events = transcript_is (nothing_yet shape) events in
    let front_a : IsFront (heard l.transcript.a) (said l.transcript.b) = subst (λ (t : TranscriptLog). IsFront (heard t.a) (said t.b)) (sym transcript) (heard_messages shape events s A sound run clean up_a) in
    let order : SessionInOrder (length s.client.pending) c = in_order (length s.client.pending) s.client.session c is_c knows.all.sound.counts in
    let announced : c.announced ≡ range_sum slots 1 (said l.transcript.a) = sym (ap announced_of is_c) ∙ knows.counted.client.announced in
    let acked : c.acked ≡ range_sum slots 2 (heard l.transcript.a) = sym (ap acked_of is_c) ∙ knows.counted.client.acked in
    let infos : c.infos ≡ range_count 1 (said l.transcript.a) = sym (ap infos_of is_c) ∙ knows.counted.client.infos in
    let nothing : NothingAsked slots l.transcript.b = subst (λ (p : Option ServerSession). ServerOrder slots p l.work.server l.transcript.b) is_v knows.counted.server.order in
    let none : c.acked ≡ 0 = omega (arith, acked, front_sum slots 2 (heard l.transcript.a) (said l.transcript.b) front_a, nothing.answered) in
    all_requests (length s.client.pending) c.completed c.acked c.announced (one_if c.announcing) c.published c.infos (range_count 2 (heard l.transcript.a)) 0 0 0 order.completed (omega (arith, none)) (omega arith) (omega arith)
    (own_within c.announcing c.announced c.published order.announced order.own) order.published (omega (arith, none, infos, announced, counts_fewer slots 1 (said l.transcript.a))) (omega arith)

-- BOTH ENDS ARE UP
none_left : (work : Option Work) (pending answers : ℕ) → RequestsLeft None None work pending answers
none_left work pending answers = omega arith

pub by_sessions : (o : Option ClientSession) (p : Option ServerSession) (shape : Shape) (events : List DiskEvent) (s : LaneState) → IsShape shape → Run LaneStep (fresh shape) events s → s.wire.forged ≡ false
    → s.wire.wire.end_a ≡ Up → s.wire.wire.end_b ≡ Up → s.client.session ≡ o → s.server.session ≡ p → FewPieces s.server.work
    → RequestsLeft o p s.server.work (length s.client.pending) (range_count 2 (heard (log_of after (nothing_yet shape) events).transcript.a))
by_sessions None None shape events s sound run clean up_a up_b is_c is_v pieces =
    none_left s.server.work (length s.client.pending) (range_count 2 (heard (log_of after (nothing_yet shape) events).transcript.a))
by_sessions (Some c) None shape events s sound run clean up_a up_b is_c is_v pieces = client_alone shape events s c sound run clean up_a is_c is_v
by_sessions (Some c) (Some v) shape events s sound run clean up_a up_b is_c is_v pieces = both_open shape events s c v sound run clean up_a up_b is_c is_v pieces
by_sessions None (Some v) shape events s sound run clean up_a up_b is_c is_v pieces =
    let l = log_of after (nothing_yet shape) events in
    let knows : Knows s l = run_knows shape events s sound run in
    let serves : Serving s l v = serving_of s l v knows is_v in
    let ring = one_ring shape events s sound run clean up_b serves.counts serves.is in
    let now : is_some s.client.session ≡ true = client_some s.client.session l.work.done l.work.client ring.client ring.open_is knows.counted.client.agrees in
    true_is_false (sym now ∙ ap is_some is_c)
