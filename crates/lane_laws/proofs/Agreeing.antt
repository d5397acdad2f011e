-- The sessions of a lane that nobody forged agree after every run: they are of one ring, and their counts stand in their order.
use Rattle.std.proofs.Common.{◌≡◌, ℕ, ◌+◌, ◌^◌, ◌<◌, ◌≤◌, true, false, Option, Some, None, List, length, take, refl, sym, ap, ◌∙◌, subst, arith, length-drop}
use Rattle.std.specs.Prelude.{is_some, ⊤}
use Rattle.runs.specs.Lawful.{log_of, run_lawful}
use Rattle.runs.specs.Run.{Run}
use Rattle.ldc_queue.specs.declared.end.ChannelState.TheVariants.{Up}
use Rattle.ldc_queue.specs.declared.end.End.TheVariants.{A, B}
use Rattle.ldc_queue.specs.OneStream.{IsFront}
use Rattle.vio_handshake.specs.declared.session.Offer.{Offer}
use Rattle.lane_models.specs.Sayings.{heard, said}
use Rattle.lane_models.specs.TranscriptLog.{TranscriptLog}
use Rattle.lane_models.specs.WireAt.{IsUp}
use Rattle.lane_models.specs.WireLog.{WireLog}
use Rattle.lane_models.proofs.Apart.{some_same}
use Rattle.lane_laws.specs.Agreement.{ClientAgrees, ClientCountsAgree, ServerAgrees}
use Rattle.lane_laws.specs.DiskLog.{DiskLog, after, nothing_yet}
use Rattle.lane_laws.specs.WorkLaws.{IfServer}
use Rattle.lane_laws.specs.WorkLog.{ClientCounts, ServerCounts}
use Rattle.lane_models.specs.ClientState.{ClientSession}
use Rattle.lane_models.specs.DiskEvent.{DiskEvent}
use Rattle.lane_models.specs.LaneState.{IsShape, LaneState, Shape, fresh}
use Rattle.lane_models.specs.LaneStep.{LaneStep}
use Rattle.lane_models.specs.Offering.{client_offer, own_cookies}
use Rattle.lane_models.specs.ServerState.{ServerSession, Work}
use Rattle.lane_laws.proofs.CarriedRuns.{AllStand, all_step, fresh_all}
use Rattle.lane_laws.proofs.HeardFront.{heard_messages}
use Rattle.lane_laws.proofs.LaneCounting.{Knows, run_knows}
use Rattle.lane_laws.proofs.OfferedRing.{few_cookies, filled_front}
use Rattle.lane_laws.proofs.OneSession.{client_in_session, one_session}
use Rattle.lane_laws.proofs.LaneCores.{transcript_is}
use Rattle.lane_laws.proofs.RangeSums.{sum_front}
use Rattle.lane_laws.proofs.RingRuns.{issued_behind}
use Rattle.lane_laws.specs.Counted.{InServerOrder, ServerOrder, acked_of, announced_of, range_sum}
use Rattle.lane_laws.specs.LaneTranscripts.{transcript_behind}
use Rattle.lane_laws.specs.OneSession.{AreOneSession}
use Rattle.lane_models.specs.Ranges.{wrapped}
use Rattle.lane_laws.specs.Remaining.{total}
use Rattle.lane_laws.specs.RingAgreed.{AlwaysAgree, OneRing}
use Rattle.lane_laws.proofs.Sharing.{in_order}

-- THE IDS are below 2^64
record Issued (s : LaneState) (l : DiskLog) : Type 0 where
  all : AllStand s l
  few : length l.work.issued < 2 ^ 64

issued_step : (s : LaneState) (l : DiskLog) (event : DiskEvent) (t : LaneState) → Issued s l → LaneStep s event t → ⊤ × Issued t (after l event)
issued_step s l event t issued step =
    (tt, record { all = (all_step s l event t issued.all step).1; few = issued_behind s l event t issued.all.stands issued.few step })

pub issued_few : (shape : Shape) (events : List DiskEvent) (s : LaneState) → IsShape shape → Run LaneStep (fresh shape) events s → length (log_of after (nothing_yet shape) events).work.issued < 2 ^ 64
issued_few shape events s sound run =
    (run_lawful LaneStep (λ (l : DiskLog) (e : DiskEvent). ⊤) after Issued issued_step (fresh shape) s (nothing_yet shape) events
    (record { all = fresh_all shape sound; few = omega arith }) run).1.few

-- WHERE THE SERVER'S SESSION IS OPEN and its end is up, so is the client's
pub server_open : (o : Option ServerSession) (w : Option Work) (q : Option ServerCounts) (d : ServerCounts) → q ≡ Some d → ServerAgrees o w q → is_some o ≡ true
server_open o w q d is agrees = grind arith

order_of : (slots : ℕ) (o : Option ServerSession) (q : Option ServerCounts) (d : ServerCounts) (transcript : TranscriptLog) → q ≡ Some d → is_some o ≡ true → ServerOrder slots o q transcript.b
    → (session : ServerSession) × InServerOrder slots session d transcript.b
order_of slots o q d transcript is now order = grind arith

record ClientOpen (o : Option ClientSession) (done : ℕ) (q : Option ClientCounts) : Type 0 where
  session : ClientSession
  counts : ClientCounts
  session_is : o ≡ Some session
  counts_are : q ≡ Some counts
  agree : ClientCountsAgree session done counts

counts_of : (o : Option ClientSession) (done : ℕ) (q : Option ClientCounts) → is_some o ≡ true → ClientAgrees o done q → ClientOpen o done q
counts_of o done q now agrees = grind arith

pub front_sum : (slots subtype : ℕ) (xs ys : List (List ℕ)) → IsFront xs ys → range_sum slots subtype xs ≤ range_sum slots subtype ys
front_sum slots subtype xs ys front = subst (λ (zs : List (List ℕ)). range_sum slots subtype xs ≤ range_sum slots subtype zs) (sym front.1) (sum_front slots subtype xs front.0)

pub server_alive : (shape : Shape) (events : List DiskEvent) (s : LaneState) → IsShape shape → Run LaneStep (fresh shape) events s → s.wire.forged ≡ false → IsUp B s.wire.wire
    → (d : ServerCounts) → (log_of after (nothing_yet shape) events).work.server ≡ Some d → s.wire.wire.end_a ≡ Up
server_alive shape events s sound run clean up d is =
    let l = log_of after (nothing_yet shape) events in
    let server = (run_knows shape events s sound run).counted.server in
    (client_in_session shape events s sound run clean up (server_open s.server.session s.server.work l.work.server d is server.agrees)).up

-- sums over the counts of both sessions, of numbers alone
named_most : (asked heard said own log : ℕ) → asked ≡ heard → heard ≤ said → own ≡ said → own ≡ log → asked ≤ log
named_most asked heard said own log is front was agrees = omega arith

published_most : (asked announced log_announced published log_published : ℕ) → asked ≤ log_announced → announced ≤ published → announced ≡ log_announced → published ≡ log_published → asked ≤ log_published
published_most asked announced log_announced published log_published named more one two = omega arith

done_most : (done base completed acked heard answered said finished : ℕ) → done ≡ base + completed → completed ≤ acked → acked ≡ heard → heard ≤ said → answered ≡ said → answered ≤ finished
    → done ≤ base + finished
done_most done base completed acked heard answered said finished is few was front says first = omega arith

acked_most : (log own heard said answered : ℕ) → own ≡ log → own ≡ heard → heard ≤ said → answered ≡ said → log ≤ answered
acked_most log own heard said answered agrees was front says = omega arith

asked_small : (asked log published completed pending done base issued : ℕ) → asked ≤ log → published ≡ log → published ≤ completed + pending → done ≡ base + completed → pending + done ≡ issued
    → issued < 2 ^ 64 → asked < 2 ^ 64
asked_small asked log published completed pending done base issued named agrees few is all small = omega arith

pub one_ring : (shape : Shape) (events : List DiskEvent) (s : LaneState) → IsShape shape → Run LaneStep (fresh shape) events s → s.wire.forged ≡ false → IsUp B s.wire.wire
    → (d : ServerCounts) → (log_of after (nothing_yet shape) events).work.server ≡ Some d → OneRing s (log_of after (nothing_yet shape) events).work d
one_ring shape events s sound run clean up d is =
    let l = log_of after (nothing_yet shape) events in
    let knows : Knows s l = run_knows shape events s sound run in
    let transcript : l.transcript ≡ transcript_behind events = transcript_is (nothing_yet shape) events in
    let client = knows.counted.client in
    let server = knows.counted.server in
    let v_open : is_some s.server.session ≡ true = server_open s.server.session s.server.work l.work.server d is server.agrees in
    let heard_v = heard l.transcript.b in
    let said_v = said l.transcript.b in
    let heard_c = heard l.transcript.a in
    let said_c = said l.transcript.a in
    let peer = client_in_session shape events s sound run clean up v_open in
    let front_b : IsFront heard_v said_c = subst (λ (t : TranscriptLog). IsFront (heard t.b) (said t.a)) (sym transcript) (heard_messages shape events s B sound run clean up) in
    let front_a : IsFront heard_c said_v = subst (λ (t : TranscriptLog). IsFront (heard t.a) (said t.b)) (sym transcript) (heard_messages shape events s A sound run clean peer.up) in
    let k = counts_of s.client.session l.work.done l.work.client peer.opened client.agrees in
    let order = in_order (length s.client.pending) s.client.session k.session k.session_is knows.all.sound.counts in
    let v_order = (order_of l.shape.slots s.server.session l.work.server d l.transcript is v_open server.order).1 in
    let announced : k.session.announced ≡ range_sum l.shape.slots 1 said_c = ap announced_of (sym k.session_is) ∙ client.announced in
    let acked : k.session.acked ≡ range_sum l.shape.slots 2 heard_c = ap acked_of (sym k.session_is) ∙ client.acked in
    let asked_said = front_sum l.shape.slots 1 heard_v said_c front_b in
    let acked_said = front_sum l.shape.slots 2 heard_c said_v front_a in
    let named : d.asked ≤ k.counts.announced =
    named_most d.asked (range_sum l.shape.slots 1 heard_v) (range_sum l.shape.slots 1 said_c) k.session.announced k.counts.announced v_order.asked asked_said announced k.agree.announced in
    let asked : d.asked ≤ k.counts.published =
    published_most d.asked k.session.announced k.counts.announced k.session.published k.counts.published named order.announced k.agree.announced k.agree.published in
    let one : AreOneSession s.client.handshake s.server.handshake = one_session shape events s sound run clean peer.opened v_open in
    let offer = knows.rests.client.fits.offer_is in
    let all : length s.client.pending + l.work.done ≡ length l.work.issued =
    omega (arith, ap length knows.all.stands.requests.pending, length-drop l.work.done l.work.issued, knows.all.stands.requests.done) in
    record {
      client = k.counts;
      open_is = k.counts_are;
      slots = one.slots ∙ ap (λ (o : Offer). o.slots) offer;
      cookies = ap (λ (n : ℕ). take n s.server.handshake.draft.peer_cookies) (one.count ∙ ap (λ (o : Offer). o.count) offer)
          ∙ ap (take (length (own_cookies s.client.slots))) (one.cookies ∙ ap (λ (o : Offer). o.cookies) offer)
          ∙ filled_front 14 (own_cookies s.client.slots) (few_cookies s.client.slots knows.all.sound.slots);
      done =
          done_most l.work.done k.counts.base k.session.completed k.session.acked (range_sum l.shape.slots 2 heard_c) d.answered (range_sum l.shape.slots 2 said_v) d.finished k.agree.completed order.completed
          acked acked_said v_order.answered v_order.finished;
      acked = acked_most k.counts.acked k.session.acked (range_sum l.shape.slots 2 heard_c) (range_sum l.shape.slots 2 said_v) d.answered k.agree.acked acked acked_said v_order.answered;
      answered = v_order.finished;
      descs = v_order.descs;
      announced = named;
      asked = asked;
      small =
          asked_small d.asked k.counts.published k.session.published k.session.completed (length s.client.pending) l.work.done k.counts.base (length l.work.issued) asked k.agree.published order.published
          k.agree.completed all (issued_few shape events s sound run);
    }

ring_if : (q : Option ServerCounts) (s : LaneState) (l : DiskLog) → ((d : ServerCounts) → q ≡ Some d → OneRing s l.work d) → IfServer q (OneRing s l.work)
ring_if None s l ring = tt
ring_if (Some d) s l ring = ring d refl

-- THE SESSIONS AGREE
pub always_agree : (shape : Shape) → IsShape shape → AlwaysAgree shape
always_agree shape sound events s run clean =
    let l = log_of after (nothing_yet shape) events in
    let knows : Knows s l = run_knows shape events s sound run in
    record {
      client = knows.counted.client.agrees;
      server = knows.counted.server.agrees;
      ring = λ up. ring_if l.work.server s l (λ d is. one_ring shape events s sound run (ap (λ (w : WireLog). w.forged) knows.all.stands.wire ∙ clean)
          (ap (λ (w : WireLog). w.wire.end_b) knows.all.stands.wire ∙ up) d is);
    }

-- what both ends count, also where somebody forges
pub client_counts : (shape : Shape) (events : List DiskEvent) (s : LaneState) → IsShape shape → Run LaneStep (fresh shape) events s
    → ClientAgrees s.client.session (log_of after (nothing_yet shape) events).work.done (log_of after (nothing_yet shape) events).work.client
client_counts shape events s sound run = (run_knows shape events s sound run).counted.client.agrees

pub server_counts : (shape : Shape) (events : List DiskEvent) (s : LaneState) → IsShape shape → Run LaneStep (fresh shape) events s
    → ServerAgrees s.server.session s.server.work (log_of after (nothing_yet shape) events).work.server
server_counts shape events s sound run = (run_knows shape events s sound run).counted.server.agrees

-- and what the client offers
pub client_offers : (shape : Shape) (events : List DiskEvent) (s : LaneState) → IsShape shape → Run LaneStep (fresh shape) events s
    → s.client.handshake.offer ≡ client_offer s.client.blocks s.client.slots
client_offers shape events s sound run = (run_knows shape events s sound run).rests.client.fits.offer_is

-- WHAT A SERVER WAS ASKED FOR, where its end is up
pub record AskedWithin (s : LaneState) (l : DiskLog) (session : ServerSession) : Type 0 where
  pub asked : session.asked ≡ range_sum l.shape.slots 1 (heard l.transcript.b)
  pub small : session.asked < 2 ^ 64
  pub within : session.asked ≤ total (length s.client.pending) s.client.session
  pub up : s.wire.wire.end_a ≡ Up
  pub slots : s.server.handshake.draft.peer_slots ≤ 256

server_counts_of : (o : Option ServerSession) (w : Option Work) (q : Option ServerCounts) (session : ServerSession) → o ≡ Some session → ServerAgrees o w q
    → (d : ServerCounts) × (q ≡ Some d) × (session.asked ≡ wrapped d.asked)
server_counts_of o w q session is agrees = grind arith

pub client_some : (o : Option ClientSession) (done : ℕ) (q : Option ClientCounts) (k : ClientCounts) → q ≡ Some k → ClientAgrees o done q → is_some o ≡ true
client_some o done q k is agrees = grind arith

pub asked_within : (shape : Shape) (events : List DiskEvent) (s : LaneState) (session : ServerSession) → IsShape shape → Run LaneStep (fresh shape) events s → s.wire.forged ≡ false → IsUp B s.wire.wire
    → s.server.session ≡ Some session → AskedWithin s (log_of after (nothing_yet shape) events) session
asked_within shape events s session sound run clean up is =
    let l = log_of after (nothing_yet shape) events in
    let knows : Knows s l = run_knows shape events s sound run in
    let server = knows.counted.server in
    let client = knows.counted.client in
    let counts = server_counts_of s.server.session s.server.work l.work.server session is server.agrees in
    let d : ServerCounts = counts.0 in
    let ring = one_ring shape events s sound run clean up d counts.1 in
    let order = (order_of l.shape.slots s.server.session l.work.server d l.transcript counts.1 (ap is_some is) server.order).1 in
    let k = counts_of s.client.session l.work.done l.work.client (client_some s.client.session l.work.done l.work.client ring.client ring.open_is client.agrees) client.agrees in
    let same : Some k.counts ≡ Some ring.client = sym k.counts_are ∙ ring.open_is in
    let pair : k.counts ≡ ring.client = some_same same in
    let one : k.counts.published ≡ ring.client.published = ap (λ (c : ClientCounts). c.published) pair in
    let in_turn = in_order (length s.client.pending) s.client.session k.session k.session_is knows.all.sound.counts in
    let whole : session.asked ≡ d.asked = omega (arith, counts.2, ring.small) in
    record {
      asked = whole ∙ order.asked;
      small = subst (λ (n : ℕ). n < 2 ^ 64) (sym whole) ring.small;
      within = subst (λ (o : Option ClientSession). session.asked ≤ total (length s.client.pending) o) (sym k.session_is) (omega (arith, whole, ring.asked, one, k.agree.published, in_turn.published));
      up = server_alive shape events s sound run clean up d counts.1;
      slots = subst (λ (n : ℕ). n ≤ 256) (sym ring.slots) knows.all.sound.slots;
    }
