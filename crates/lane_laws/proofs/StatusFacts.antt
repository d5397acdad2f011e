-- What is known of an event of a lane that nobody forged by which a session opens: both ends name it by the client's fifth message, and the
-- server has given no status in it.
use Rattle.std.proofs.Common.{◌≡◌, ℕ, ◌-◌, ◌≤◌, true, false, Option, Some, None, List, [], ◌∷◌, ◌++◌, length, refl, sym, ap, ◌∙◌, subst, arith}
use Rattle.std.specs.Prelude.{is_some, slice_get}
use Rattle.runs.specs.Lawful.{lawful_split, log_append, log_of}
use Rattle.runs.specs.Run.{Run, run_push}
use Rattle.ldc_link.specs.declared.phase.Role.TheVariants.{Initiator, Responder}
use Rattle.ldc_link.specs.LinkState.{is_up}
use Rattle.ldc_queue.specs.declared.end.ChannelState.TheVariants.{Up}
use Rattle.ldc_queue.specs.declared.end.End.TheVariants.{A, B}
use Rattle.ldc_queue.specs.OneStream.{IsFront}
use Rattle.ldc_queue.specs.Transcript.{Heard as Heard_, Said, Utterance}
use Rattle.vio_handshake.proofs.Places.{AllSaid, Deal, Place}
use Rattle.vio_handshake.specs.declared.handshake.Phase.TheVariants.{Open}
use Rattle.lane_models.specs.Sayings.{half_heard, half_said, heard, said}
use Rattle.lane_models.specs.TranscriptLog.{TranscriptLog}
use Rattle.lane_models.specs.WireEvent.{Sent, Took}
use Rattle.lane_models.specs.WireLog.{WireLog}
use Rattle.lane_laws.specs.Agreement.{ClientAgrees}
use Rattle.lane_laws.specs.DiskLog.{DiskLog, after, nothing_yet}
use Rattle.lane_laws.specs.RingLog.{Done}
use Rattle.lane_laws.specs.WorkLaws.{IfServer}
use Rattle.lane_models.specs.Messages.{opening_sid}
use Rattle.lane_laws.specs.WorkLog.{ClientCounts, ServerCounts}
use Rattle.lane_models.specs.ClientPutting.{client_kind}
use Rattle.lane_models.specs.ClientState.{ClientSession, ClientState}
use Rattle.lane_models.specs.DiskEvent.{DiskEvent, OnWire}
use Rattle.lane_models.specs.EndPuts.{PutKind, put_opens}
use Rattle.lane_models.specs.LaneState.{IsShape, LaneState, Shape, fresh}
use Rattle.lane_models.specs.LaneStep.{LaneStep}
use Rattle.lane_models.specs.Seeing.{seen}
use Rattle.lane_models.specs.ServerState.{ServerState}
use Rattle.lane_models.proofs.Apart.{true_is_false}
use Rattle.lane_models.proofs.EndStanding.{open_up}
use Rattle.lane_models.proofs.HandshakePlaces.{AtPlace, deal, open_place}
use Rattle.lane_models.proofs.Script.{said_at}
use Rattle.lane_models.specs.Sides.{sides_of}
use Rattle.lane_models.specs.Standing.{EndStands}
use Rattle.lane_laws.proofs.LaneChannel.{OnLane, answers_of, asks_of, lane_meets, lane_meets_next}
use Rattle.lane_laws.proofs.Agreeing.{client_some, server_open}
use Rattle.lane_laws.proofs.LaneCores.{transcript_is}
use Rattle.lane_laws.proofs.Speaking.{client_blocked_rests}
use Rattle.lane_laws.proofs.HeardFront.{heard_messages}
use Rattle.lane_laws.proofs.LaneCounting.{Knows, run_knows}
use Rattle.lane_laws.proofs.NoOwnReset.{run_known}
use Rattle.lane_laws.proofs.ClientMoves.{held_open}
use Rattle.lane_laws.proofs.RingRuns.{before}
use Rattle.lane_laws.proofs.RingWork.{Known, ids_in, turn_in}
use Rattle.lane_laws.proofs.ServerCounting.{opens_new}
use Rattle.lane_laws.proofs.ServerTaken.{server_took_what}
use Rattle.lane_laws.proofs.SlotsAlong.{never_sends, run_slots}
use Rattle.lane_laws.proofs.SlotsOrdered.{finished_more}
use Rattle.lane_laws.proofs.TableRuns.{table_lawful}
use Rattle.lane_laws.specs.LaneRests.{ClientRests}
use Rattle.lane_laws.specs.LaneTranscripts.{transcript_behind}
use Rattle.lane_laws.specs.RingAgreed.{OneRing}
use Rattle.lane_laws.specs.RingSlots.{IdStands}
use Rattle.lane_laws.specs.SlotsInOrder.{SlotsIn, SlotsInOrder, SlotsOf}
use Rattle.lane_laws.specs.TableStands.{TableAt}
use Rattle.lane_laws.proofs.StatusSteps.{NoneDone, front_named, hears_fifth, says_fifth}
use Rattle.lane_laws.specs.Statuses.{IsSidNamed}
use Rattle.lane_laws.specs.ChannelEnds.{client_core, core_of, server_core}

-- WHAT IS KNOWN before an event and after it
pub record Around (shape : Shape) (s : LaneState) (l : DiskLog) (event : DiskEvent) (t : LaneState) : Type 0 where
  pub known : Known s l
  pub knows : Knows s l
  pub on : OnLane shape Initiator (sides_of (core_of s) l.transcript)
  pub table : TableAt l event
  pub next : Knows t (after l event)
  pub next_on : OnLane shape Initiator (sides_of (core_of t) (after l event).transcript)
  pub front : t.wire.wire.end_b ≡ Up → IsFront (heard (after l event).transcript.b) (said (after l event).transcript.a)
  pub slots : SlotsInOrder (after l event)

pub around : (shape : Shape) (events : List DiskEvent) (s : LaneState) (event : DiskEvent) (t : LaneState) → IsShape shape → Run LaneStep (fresh shape) events s → LaneStep s event t
    → (after (log_of after (nothing_yet shape) events) event).wire.forged ≡ false → Around shape s (log_of after (nothing_yet shape) events) event t
around shape events s event t sound run step clean =
    let l = log_of after (nothing_yet shape) events in
    let more : List DiskEvent = events ++ event ∷ [] in
    let then_run : Run LaneStep (fresh shape) more t = run_push LaneStep (fresh shape) s t events event run step in
    let behind : log_of after (nothing_yet shape) more ≡ after l event = log_append after (nothing_yet shape) events (event ∷ []) in
    let clean_before : l.wire.forged ≡ false = before l event clean in
    let clean_more : (log_of after (nothing_yet shape) more).wire.forged ≡ false = ap (λ (x : DiskLog). x.wire.forged) behind ∙ clean in
    let next : Knows t (log_of after (nothing_yet shape) more) = run_knows shape more t sound then_run in
    let clean_t : t.wire.forged ≡ false = ap (λ (w : WireLog). w.forged) next.all.stands.wire ∙ clean_more in
    let transcript : transcript_behind more ≡ (after l event).transcript = sym (transcript_is (nothing_yet shape) more) ∙ ap (λ (x : DiskLog). x.transcript) behind in
    record {
      known = run_known shape events s sound run clean_before;
      knows = run_knows shape events s sound run;
      on = lane_meets shape events s sound run (ap (λ (w : WireLog). w.forged) (run_knows shape events s sound run).all.stands.wire ∙ clean_before);
      table = (lawful_split TableAt after (nothing_yet shape) events (event ∷ []) (table_lawful shape more t sound then_run)).1.0;
      next = subst (Knows t) behind next;
      next_on = lane_meets_next shape events s event t sound run step clean_t;
      front = λ up. subst (λ (x : TranscriptLog). IsFront (heard x.b) (said x.a)) transcript (heard_messages shape more t B sound then_run clean_t up);
      slots = subst SlotsInOrder behind (run_slots shape more t sound then_run clean_more);
    }

-- BEFORE THE LAST PLACE the client has said, and the server heard, at most four messages
five_at : (d : Deal) (n : Place) (more : List (List ℕ)) → n ≡ AllSaid → 5 ≤ length (said_at false d Initiator n ++ more)
five_at d n more last = subst (λ (p : Place). 5 ≤ length (said_at false d Initiator p ++ more)) (sym last) (omega arith)

-- A SESSION OF THE CLIENT opens where it had none
kind_opens : (kind : PutKind) (c : ClientState) → c.handshake.phase ≡ Open → put_opens kind c.handshake ≡ false
kind_opens kind c is = grind arith

none_if : (o : Option ClientSession) → (is_some o ≡ true → ⊥) → o ≡ None
none_if None never = refl
none_if (Some s) never = absurd (never refl)

sends_new : (shape : Shape) (s : LaneState) (l : DiskLog) (packet : List ℕ) (t : LaneState) → Around shape s l (OnWire (Sent A packet true)) t → LaneStep s (OnWire (Sent A packet true)) t
    → s.client.session ≡ None
sends_new shape s l packet t now step =
    let at = seen A s.shape.entries s.wire.wire in
    let sends = step.step in
    let held = sends.held in
    let rests : ClientRests held l.transcript.a = client_blocked_rests s.client at held l.transcript.a now.knows.all.sound sends.holds now.knows.rests.client in
    let same : is_some held.session ≡ is_some s.client.session = held_open s.client at held now.knows.all.sound sends.holds in
    none_if s.client.session (λ open_one.
    let closed : put_opens (client_kind held) held.handshake ≡ false = kind_opens (client_kind held) held (rests.opened (same ∙ open_one)) in
    true_is_false (sends.opens_is ∙ closed))

few_said : (d : Deal) (c : ClientState) (turns : List Utterance) → EndStands Initiator (client_core c) turns → (is_up c.link ≡ true → AtPlace false d Initiator c.handshake turns) → c.session ≡ None
    → length (said turns) ≤ 4
few_said d c turns stands there none = grind arith

pub names_session : (shape : Shape) (s : LaneState) (l : DiskLog) (packet : List ℕ) (t : LaneState) → Around shape s l (OnWire (Sent A packet true)) t → LaneStep s (OnWire (Sent A packet true)) t
    → IsSidNamed (opening_sid (half_said l.transcript.a) packet) (said (Said packet ∷ l.transcript.a))
names_session shape s l packet t now step =
    let up : s.wire.wire.end_a ≡ Up = ap (λ (w : WireLog). w.wire.end_a) now.knows.all.stands.wire ∙ now.table.0 in
    let up_t : t.wire.wire.end_a ≡ Up = ap (λ (x : LaneState). x.wire.wire.end_a) step.is ∙ up in
    let few = few_said (deal (asks_of shape) (answers_of shape) now.on.meets.handshakes.sid) s.client l.transcript.a now.on.stand.mine (now.on.meets.handshakes.mine up) (sends_new shape s l packet t now step) in
    let open_one : is_some t.client.session ≡ true = client_some t.client.session _ _ _ refl now.next.counted.client.agrees in
    let d = deal (asks_of shape) (answers_of shape) now.next_on.meets.handshakes.sid in
    let behind : List Utterance = Said packet ∷ l.transcript.a in
    let at = now.next_on.meets.handshakes.mine up_t (open_up Initiator (client_core t.client) behind now.next_on.stand.mine open_one) in
    says_fifth packet l.transcript.a few
    (subst (λ (xs : List (List ℕ)). 5 ≤ length xs) (sym at.said_is) (five_at d at.place at.mine (open_place false d Initiator (client_core t.client) behind now.next_on.stand.mine at open_one)))

-- and no server whose end is up works
none_server : (q : Option ServerCounts) (s : LaneState) (l : DiskLog) → s.client.session ≡ None → ClientAgrees s.client.session l.work.done l.work.client → IfServer q (OneRing s l.work) → q ≡ None
none_server q s l none agrees ring = grind arith

pub opens_alone : (shape : Shape) (s : LaneState) (l : DiskLog) (packet : List ℕ) (t : LaneState) → Around shape s l (OnWire (Sent A packet true)) t → LaneStep s (OnWire (Sent A packet true)) t
    → l.wire.wire.end_b ≡ Up → l.work.server ≡ None
opens_alone shape s l packet t now step up =
    none_server l.work.server s l (sends_new shape s l packet t now step) now.known.agree.client (now.known.agree.ring up)

-- A SESSION OF THE SERVER opens
few_heard : (d : Deal) (v : ServerState) (turns : List Utterance) → EndStands Responder (server_core v) turns → (is_up v.link ≡ true → AtPlace false d Responder v.handshake turns) → v.session ≡ None
    → length (heard turns) ≤ 4
few_heard d v turns stands there none = grind arith

pub hears_session : (shape : Shape) (s : LaneState) (l : DiskLog) (packet : List ℕ) (t : LaneState) → Around shape s l (OnWire (Took B packet true)) t → LaneStep s (OnWire (Took B packet true)) t
    → IsSidNamed (opening_sid (half_heard l.transcript.b) packet) (said l.transcript.a)
hears_session shape s l packet t now step =
    let up : s.wire.wire.end_b ≡ Up = ap (λ (w : WireLog). w.wire.end_b) now.knows.all.stands.wire ∙ now.table.0 in
    let up_t : t.wire.wire.end_b ≡ Up = ap (λ (x : LaneState). x.wire.wire.end_b) step.1.is ∙ up in
    let took = server_took_what s.server l.transcript.b packet t.server true now.knows.rests.server.stands.link.follows now.knows.rests.server.whole step.1.step.1.1 in
    let few = few_heard (deal (asks_of shape) (answers_of shape) now.on.meets.handshakes.sid) s.server l.transcript.b now.on.stand.theirs (now.on.meets.handshakes.theirs up) (opens_new s.server t.server l.transcript.b packet now.knows.rests.server took) in
    let open_one : is_some t.server.session ≡ true = server_open t.server.session t.server.work _ _ refl now.next.counted.server.agrees in
    let d = deal (asks_of shape) (answers_of shape) now.next_on.meets.handshakes.sid in
    let behind : List Utterance = Heard_ packet ∷ l.transcript.b in
    let at = now.next_on.meets.handshakes.theirs up_t (open_up Responder (server_core t.server) behind now.next_on.stand.theirs open_one) in
    let named = hears_fifth packet l.transcript.b few
    (subst (λ (xs : List (List ℕ)). 5 ≤ length xs) (sym at.heard_is) (five_at d at.place at.theirs (open_place false d Responder (server_core t.server) behind now.next_on.stand.theirs at open_one))) in
    front_named (opening_sid (half_heard l.transcript.b) packet) (heard (Heard_ packet ∷ l.transcript.b)) (said l.transcript.a) (now.front up_t) named

-- where the client's session is open no slot is DONE yet
none_done : (s : LaneState) (l : DiskLog) (k : ClientCounts) (finished descs : ℕ) → Known s l → l.work.client ≡ Some k
    → SlotsOf l.shape.slots l.work.done k.base k.announced k.published finished descs l.ring → 0 ≡ finished → NoneDone l.ring
none_done s l k finished descs known is slots zero slot id status got =
    let stands : IdStands l.shape.slots l.work.done k slot id = ids_in s l k known is slot (Done id status) got in
    let turn = (turn_in s l k known is).turn in
    let based = stands.based in
    let since = stands.since in
    let below = stands.below in
    let j = id - k.base in
    let of = slots.each j (Done id status) (omega (arith, based, since)) (omega (arith, based, since, below, turn))
    (subst (λ (n : ℕ). slice_get l.ring n ≡ Some (Done id status)) stands.slot_is got) in
    absurd (omega (arith, zero, finished_more k.base k.announced k.published finished descs j id status (Done id status) refl of))

none_in : (s : LaneState) (l : DiskLog) (packet : List ℕ) (o : Option ClientCounts) → Known s l → l.work.client ≡ o → l.wire.wire.end_b ≡ Up
    → SlotsIn l.shape.slots (after l (OnWire (Took B packet true))).work (after l (OnWire (Took B packet true))).wire.wire l.ring o → (k : ClientCounts) → o ≡ Some k → NoneDone l.ring
none_in s l packet None known is up slots k some = absurd (cc some)
none_in s l packet (Some c) known is up slots k some =
    none_done s l c slots.0 slots.1 known is slots.2 (sym (slots.3.works up).0)

pub none_given : (shape : Shape) (s : LaneState) (l : DiskLog) (packet : List ℕ) (t : LaneState) → Around shape s l (OnWire (Took B packet true)) t → (k : ClientCounts) → l.work.client ≡ Some k → NoneDone l.ring
none_given shape s l packet t now k is = none_in s l packet l.work.client now.known refl now.table.0 now.slots k is

-- and none opens by a packet that the server puts
pub sends_not : (shape : Shape) (s : LaneState) (l : DiskLog) (packet : List ℕ) (t : LaneState) → Around shape s l (OnWire (Sent B packet true)) t → LaneStep s (OnWire (Sent B packet true)) t → ⊥
sends_not shape s l packet t now step = never_sends s l t packet now.knows step
