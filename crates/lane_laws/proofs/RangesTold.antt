-- What each end of a lane that nobody forged said since it last began: messages of its handshake, and ranges of its session, each from the slot on
-- where those before it end. So what an end in session hears next is the next of them.
use Rattle.std.proofs.Common.{◌≡◌, ℕ, ◌+◌, ◌%◌, ◌^◌, ◌<◌, ◌≤◌, ◌⊎◌, inl, inr, true, false, Option, Some, None, List, [], ◌∷◌, ◌++◌, refl, sym, ap, ◌∙◌, subst, arith}
use Rattle.std.specs.Prelude.{is_none, is_some, ⊤}
use Rattle.runs.specs.Lawful.{Lawful, log_of}
use Rattle.runs.specs.Run.{Run}
use Rattle.ldc_link.specs.declared.phase.Role.{Role}
use Rattle.ldc_link.specs.declared.phase.Role.TheVariants.{Initiator, Responder}
use Rattle.ldc_link.specs.LinkState.{is_established, is_up}
use Rattle.ldc_packet.specs.declared.packet.Subtype.{Subtype}
use Rattle.ldc_packet.specs.declared.packet.Subtype.TheVariants.{Ack, Info}
use Rattle.ldc_queue.specs.declared.end.ChannelState.TheVariants.{Up}
use Rattle.ldc_queue.specs.declared.end.End.TheVariants.{A, B}
use Rattle.ldc_queue.specs.OneStream.{IsFront}
use Rattle.ldc_queue.specs.Transcript.{Said, Utterance}
use Rattle.vio_handshake.proofs.Places.{AllSaid, Deal, Place, VersionSaid, handshake_at, message_at}
use Rattle.vio_handshake.specs.declared.handshake.Handshake.{Handshake}
use Rattle.vio_handshake.specs.declared.session.Session.{Session}
use Rattle.vio_tag.specs.declared.message.Message.{Message}
use Rattle.vio_tag.specs.declared.message.MsgBody.TheVariants.{DringData, Rdx}
use Rattle.vio_tag.specs.Spelling.{canonical, envelope_at, envelope_code, sid_at}
use Rattle.vio_tag.proofs.Canonical.{canonical_spells}
use Rattle.lane_models.specs.EndPuts.{ComesUp, EndsOwn, EndsHandshake, Goes, PutKind}
use Rattle.lane_models.specs.Messages.{range_in}
use Rattle.lane_models.specs.Ranges.{wrapped}
use Rattle.lane_models.specs.Sayings.{half_said, heard, said}
use Rattle.lane_models.specs.Seeing.{seen}
use Rattle.lane_models.specs.WireEvent.{Sent, WireEvent}
use Rattle.lane_models.specs.WireLog.{WireLog}
use Rattle.lane_models.specs.ClientPutting.{client_kind, is_announcing}
use Rattle.lane_models.specs.ClientState.{ClientState}
use Rattle.lane_models.specs.DiskEvent.{DiskEvent, OnWire, Stopped, Switches}
use Rattle.lane_models.specs.LaneState.{IsShape, LaneState, Shape, fresh}
use Rattle.lane_models.specs.LaneStep.{LaneStep}
use Rattle.lane_models.specs.ServerPutting.{server_kind}
use Rattle.lane_models.specs.ServerRule as server_rules
use Rattle.lane_models.specs.ServerState.{ServerSession, ServerState, SlotRange}
use Rattle.lane_models.proofs.Apart.{some_is_none, some_same}
use Rattle.lane_models.proofs.Conversations.{held_phase}
use Rattle.lane_models.proofs.EndResting.{held_handshake}
use Rattle.lane_models.proofs.EndStanding.{held_stands, owing_up}
use Rattle.lane_models.proofs.HandshakePlaces.{AtPlace, IsOwn, deal, owes_at, owes_none, owes_not, same_at, who}
use Rattle.lane_models.proofs.HandshakesPlaced.{next_own, own_envelope}
use Rattle.lane_models.specs.EndCore.{EndCore}
use Rattle.lane_models.specs.EndStep.{EndWaits}
use Rattle.lane_models.specs.Sides.{Sides, other}
use Rattle.lane_models.specs.Standing.{EndStands}
use Rattle.lane_laws.proofs.AlongRuns.{reached_lawful}
use Rattle.lane_laws.proofs.ClientMoves.{client_waits}
use Rattle.lane_laws.proofs.ClientPutCounting.{OwnInfo, own_info}
use Rattle.lane_laws.proofs.Counting.{slot_of_count}
use Rattle.lane_models.proofs.PutSayings.{PutSays, put_says}
use Rattle.lane_laws.proofs.LaneChannel.{OnLane, answers_of, asks_of, lane_meets}
use Rattle.lane_laws.proofs.LaneCores.{lane_steps, shape_of}
use Rattle.lane_laws.proofs.LaneCounting.{Knows, run_knows}
use Rattle.lane_laws.proofs.WorkNumbers.{order_of as order_in}
use Rattle.lane_laws.proofs.ClientPuts.{Putting, putting}
use Rattle.lane_laws.proofs.RangesSaid.{IsNoPlain, envelope_reads}
use Rattle.lane_laws.proofs.RingRuns.{before}
use Rattle.lane_laws.proofs.RulesFree.{server_free}
use Rattle.lane_models.proofs.MessagesHeld.{owed_held}
use Rattle.lane_laws.proofs.Speaking.{server_blocked_rests, server_holds_owed}
use Rattle.lane_laws.proofs.ServerMoves.{server_waits}
use Rattle.lane_laws.proofs.ServerPutCounting.{server_holds_counting, none_is}
use Rattle.lane_laws.specs.ChannelEnds.{client_core, server_core}
use Rattle.lane_models.specs.Cuts.{CarriesOwed}
use Rattle.lane_laws.specs.Counted.{ClientCounted, HoldsAnswer, InServerOrder, RangeStands, ServerCounted, ServerOrder, range_count, range_sum}
use Rattle.lane_laws.specs.DiskLog.{DiskLog, after, nothing_yet}
use Rattle.lane_laws.specs.WorkLog.{ServerCounts, length_in, one_in}

-- A RANGE that was said, or the answer to one: of the session, in the client's ring, from the slot on where so many went before; an INFO has
-- the next number
abbrev pub subtype_of : Role → Subtype
subtype_of Initiator = Info
subtype_of Responder = Ack

abbrev pub code_of : Role → ℕ
code_of Initiator = 1
code_of Responder = 2

abbrev pub HasNumber : Role → ℕ → ℕ → Type 0
HasNumber Initiator count seq = seq ≡ wrapped (count + 1)
HasNumber Responder count seq = ⊤

pub record IsData (r : Role) (slots sid count sum : ℕ) (bytes : List ℕ) : Type 0 where
  pub seq : ℕ
  pub end : ℕ
  pub state : ℕ
  pub number : HasNumber r count seq
  pub ends : end < slots
  pub bytes_are : bytes ≡ canonical (record { subtype = subtype_of r; sid = sid; body = DringData seq sid (sum % slots) end state })

-- a message of a handshake is none
abbrev pub IsApart : List ℕ → Type 0
IsApart bytes = envelope_at bytes ≤ 0x0041

abbrev pub IsEither : Role → ℕ → ℕ → ℕ → List ℕ → Type 0
IsEither r slots count sum bytes = ((sid : ℕ) × (sid < 2 ^ 32) × IsData r slots sid count sum bytes) ⊎ IsApart bytes

-- ALL THAT AN END SAID, where so many ranges and slots went before
abbrev pub EachSaid : Role → ℕ → ℕ → ℕ → List (List ℕ) → Type 0
EachSaid r slots count sum [] = ⊤
EachSaid r slots count sum (bytes ∷ messages) =
    IsEither r slots count sum bytes × EachSaid r slots (count + one_in (range_in (code_of r) (Some bytes))) (sum + length_in slots (range_in (code_of r) (Some bytes))) messages

same_either : (r : Role) (slots count other sum more : ℕ) (bytes : List ℕ) → count ≡ other → sum ≡ more → IsEither r slots count sum bytes → IsEither r slots other more bytes
same_either r slots count other sum more bytes c s is = subst (λ (n : ℕ). IsEither r slots n more bytes) c (subst (λ (n : ℕ). IsEither r slots count n bytes) s is)

each_more : (r : Role) (slots count sum : ℕ) (messages : List (List ℕ)) (bytes : List ℕ) → EachSaid r slots count sum messages
    → IsEither r slots (count + range_count (code_of r) messages) (sum + range_sum slots (code_of r) messages) bytes → EachSaid r slots count sum (messages ++ bytes ∷ [])
each_more r slots count sum [] bytes each is = (same_either r slots (count + 0) count (sum + 0) sum bytes (omega arith) (omega arith) is, tt)
each_more r slots count sum (one ∷ messages) bytes each is =
    let counted = one_in (range_in (code_of r) (Some one)) in
    let added = length_in slots (range_in (code_of r) (Some one)) in (
      each.0,
      each_more r slots (count + counted) (sum + added) messages bytes each.1
          (same_either r slots (count + range_count (code_of r) (one ∷ messages)) (count + counted + range_count (code_of r) messages)
          (sum + range_sum slots (code_of r) (one ∷ messages)) (sum + added + range_sum slots (code_of r) messages) bytes (omega arith) (omega arith) is),
    )

each_in : (r : Role) (slots count sum : ℕ) (messages rest all : List (List ℕ)) (bytes : List ℕ) → EachSaid r slots count sum all → all ≡ (messages ++ bytes ∷ []) ++ rest
    → IsEither r slots (count + range_count (code_of r) messages) (sum + range_sum slots (code_of r) messages) bytes
each_in r slots count sum [] rest [] bytes each is = absurd (cc is)
each_in r slots count sum [] rest (x ∷ all) bytes each is =
    let same : x ≡ bytes = cc is in
    same_either r slots count (count + 0) sum (sum + 0) bytes (omega arith) (omega arith) (subst (IsEither r slots count sum) same each.0)
each_in r slots count sum (one ∷ messages) rest [] bytes each is = absurd (cc is)
each_in r slots count sum (one ∷ messages) rest (x ∷ all) bytes each is =
    let tails : all ≡ (messages ++ bytes ∷ []) ++ rest = cc is in
    let head : x ≡ one = cc is in
    let k = code_of r in
    let counted : one_in (range_in k (Some x)) ≡ one_in (range_in k (Some one)) = ap (λ (y : List ℕ). one_in (range_in k (Some y))) head in
    let added : length_in slots (range_in k (Some x)) ≡ length_in slots (range_in k (Some one)) = ap (λ (y : List ℕ). length_in slots (range_in k (Some y))) head in
    same_either r slots (count + one_in (range_in k (Some x)) + range_count k messages) (count + range_count k (one ∷ messages))
    (sum + length_in slots (range_in k (Some x)) + range_sum slots k messages) (sum + range_sum slots k (one ∷ messages)) bytes (omega (arith, counted)) (omega (arith, added))
    (each_in r slots (count + one_in (range_in k (Some x))) (sum + length_in slots (range_in k (Some x))) messages rest all bytes each.1 tails)

-- A MESSAGE OF THE HANDSHAKE is apart
record IsOther (m : Message) : Type 0 where
  plain : IsNoPlain m.body
  code : envelope_code m.body ≤ 0x0041

place_other : (d : Deal) (n : Place) → IsOther (message_at d n)
place_other d VersionSaid = record { plain = tt; code = omega arith }
place_other d _ = record { plain = tt; code = omega arith }

other_apart : (m : Message) → IsOther m → IsApart (canonical m)
other_apart m is = omega (arith, is.code, envelope_reads m.subtype m.sid m.body is.plain)

-- AN END THAT HOLDS a message, at its place
record HeldAt (role : Role) (d : Deal) (held : EndCore) (turns : List Utterance) : Type 0 where
  stands : EndStands role held turns
  at : is_up held.link ≡ true → AtPlace false d role held.handshake turns

held_at : (role : Role) (d : Deal) (c held : EndCore) (turns : List Utterance) → EndStands role c turns → EndWaits c held → (is_up c.link ≡ true → AtPlace false d role c.handshake turns)
    → HeldAt role d held turns
held_at role d c held turns stands waits at = record {
  stands = held_stands role c held turns waits.what stands waits.holds;
  at = λ up. same_at false d role c.handshake held.handshake turns turns (at (ap is_established (sym (held_phase c held waits.what waits.holds)) ∙ up))
      (held_handshake c held waits.what waits.holds) refl refl;
}

owed_apart : (role : Role) (d : Deal) (held : EndCore) (turns : List Utterance) (bytes : List ℕ) → HeldAt role d held turns → CarriesOwed held.handshake.owed bytes → IsApart bytes
owed_apart role d held turns bytes here holds = by_turn (here.at (owing_up role held turns holds.message here.stands holds.owed))
  where
    by_turn : AtPlace false d role held.handshake turns → IsApart bytes
    by_turn at =
        let owed : Some holds.message ≡ (handshake_at false d role at.place).owed = sym holds.owed ∙ ap (λ (h : Handshake). h.owed) at.is in
        elim (who role at.place) [
          | inl own ↦ (
              let both : Some holds.message ≡ Some (message_at d at.place) = owed ∙ owes_at false d role at.place own in
              let same : holds.message ≡ message_at d at.place = some_same both in
              subst IsApart (sym (holds.is ∙ ap canonical same)) (other_apart (message_at d at.place) (place_other d at.place)))
          | inr (inl turn) ↦ (some_is_none (owed ∙ owes_not false d role at.place turn))
          | inr (inr last) ↦ (some_is_none (owed ∙ owes_none false d role at.place last))
        ]

draft_there : (role : Role) (d : Deal) (held : EndCore) (turns : List Utterance) → HeldAt role d held turns → held.is_open ≡ true → held.handshake.draft ≡ (handshake_at false d role AllSaid).draft
draft_there role d held turns here opened = grind arith

-- THE CLIENT'S OWN is an INFO
own_data : (shape : Shape) (d : Deal) (held : ClientState) (turns : List Utterance) (l : DiskLog) (bytes : List ℕ) → 1 ≤ shape.slots → HeldAt Initiator d (client_core held) turns
    → ClientCounted shape held turns l.work.done l.work.client → OwnInfo held bytes
    → IsData Initiator shape.slots d.sid (range_count 1 (said turns)) (range_sum shape.slots 1 (said turns)) bytes
own_data shape d held turns l bytes some here counted info = grind arith

-- THE SERVER'S is the answer to its range
answer_data : (shape : Shape) (d : Deal) (held : ServerState) (turns : List Utterance) (bytes : List ℕ) (c : ServerCounts) → IsShape shape → HeldAt Responder d (server_core held) turns
    → ServerCounted shape held turns (Some c) → HoldsAnswer held bytes
    → IsData Responder shape.slots d.sid (range_count 2 (said turns)) (range_sum shape.slots 2 (said turns)) bytes
answer_data shape d held turns bytes c sound here counted a =
    let range = a.range in
    let order : InServerOrder shape.slots a.session c turns = order_in shape.slots held.session a.session (Some c) c turns a.session_is refl counted.order in
    let stands : RangeStands shape.slots (Some range) c = subst (λ (r : Option SlotRange). RangeStands shape.slots r c) a.range_is order.range in
    let draft = draft_there Responder d (server_core held) turns here (ap is_some a.session_is) in
    let start : range.start ≡ range_sum shape.slots 2 (said turns) % shape.slots =
    stands.3 ∙ slot_of_count shape.slots (wrapped c.answered) c.answered sound.slots sound.some_slots sound.most_slots refl ∙ ap (λ (x : ℕ). x % shape.slots) order.answered in
    record {
      seq = range.seq;
      end = range.end;
      state = range.state;
      number = tt;
      ends = stands.2;
      bytes_are = a.bytes_are
          ∙ ap (λ (x : Session). canonical (record { subtype = Ack; sid = x.sid; body = DringData range.seq x.ident_peer range.start range.end range.state })) draft
          ∙ ap (λ (x : ℕ). canonical (record { subtype = Ack; sid = d.sid; body = DringData range.seq d.sid x range.end range.state })) start;
    }

-- A PACKET THAT IS PUT: no message is whole by it, or one that is either
pub record TellsOne (r : Role) (slots : ℕ) (told now : List (List ℕ)) : Type 0 where
  pub bytes : List ℕ
  pub is : now ≡ told ++ bytes ∷ []
  pub what : IsEither r slots (range_count (code_of r) told) (range_sum slots (code_of r) told) bytes

abbrev Tells : Role → ℕ → List (List ℕ) → List (List ℕ) → Type 0
Tells r slots told now = (now ≡ told) ⊎ TellsOne r slots told now

abbrev WireTellsAt : DiskLog → WireEvent → Type 0
WireTellsAt l (Sent A packet opens) = Tells Initiator l.shape.slots (said l.transcript.a) (said (Said packet ∷ l.transcript.a))
WireTellsAt l (Sent B packet opens) = Tells Responder l.shape.slots (said l.transcript.b) (said (Said packet ∷ l.transcript.b))
WireTellsAt l _ = ⊤

abbrev TellsAt : DiskLog → DiskEvent → Type 0
TellsAt l (OnWire event) = WireTellsAt l event
TellsAt l _ = ⊤

client_tells : (kind : PutKind) (l : DiskLog) (d : Deal) (held : ClientState) (packet : List ℕ) → 1 ≤ l.shape.slots → d.sid < 2 ^ 32 → HeldAt Initiator d (client_core held) l.transcript.a
    → ClientCounted l.shape held l.transcript.a l.work.done l.work.client → PutSays kind (is_announcing held.session) held.link l.transcript.a packet
    → WireTellsAt l (Sent A packet false)
client_tells Goes l d held packet some small here counted says = inl says.messages
client_tells ComesUp l d held packet some small here counted says = inl says.0.messages
client_tells EndsOwn l d held packet some small here counted says =
    let bytes = half_said l.transcript.a ++ held.link.to_send in
    inr (record {
      bytes = bytes;
      is = says.0.messages;
      what = inl (d.sid, small, own_data l.shape d held l.transcript.a l bytes some here counted (own_info held l.transcript.a held.session refl says.1 counted.holds));
    })
client_tells EndsHandshake l d held packet some small here counted says =
    let bytes = half_said l.transcript.a ++ held.link.to_send in
    inr (record {
      bytes = bytes;
      is = says.0.messages;
      what = inr (owed_apart Initiator d (client_core held) l.transcript.a bytes here (owed_held Initiator (client_core held) l.transcript.a here.stands says.1 says.0.some));
    })

answered_data : (l : DiskLog) (d : Deal) (held : ServerState) (bytes : List ℕ) (q : Option ServerCounts) → IsShape l.shape → HeldAt Responder d (server_core held) l.transcript.b
    → ServerCounted l.shape held l.transcript.b q → HoldsAnswer held bytes
    → IsData Responder l.shape.slots d.sid (range_count 2 (said l.transcript.b)) (range_sum l.shape.slots 2 (said l.transcript.b)) bytes
answered_data l d held bytes (Some c) sound here counted a = answer_data l.shape d held l.transcript.b bytes c sound here counted a
answered_data l d held bytes None sound here counted a =
    absurd (subst (λ (x : Option ServerSession). ServerOrder l.shape.slots x None l.transcript.b) a.session_is counted.order)

server_tells : (kind : PutKind) (l : DiskLog) (d : Deal) (held : ServerState) (packet : List ℕ) → IsShape l.shape → d.sid < 2 ^ 32 → HeldAt Responder d (server_core held) l.transcript.b
    → ServerCounted l.shape held l.transcript.b l.work.server → PutSays kind (is_none held.handshake.owed) held.link l.transcript.b packet
    → WireTellsAt l (Sent B packet false)
server_tells Goes l d held packet sound small here counted says = inl says.messages
server_tells ComesUp l d held packet sound small here counted says = inl says.0.messages
server_tells EndsOwn l d held packet sound small here counted says =
    let bytes = half_said l.transcript.b ++ held.link.to_send in
    inr (record {
      bytes = bytes;
      is = says.0.messages;
      what = inl (d.sid, small, answered_data l d held bytes l.work.server sound here counted (counted.holds (none_is held.handshake.owed says.1) says.0.some));
    })
server_tells EndsHandshake l d held packet sound small here counted says =
    let bytes = half_said l.transcript.b ++ held.link.to_send in
    inr (record {
      bytes = bytes;
      is = says.0.messages;
      what = inr (owed_apart Responder d (server_core held) l.transcript.b bytes here (server_holds_owed held l.transcript.b here.stands says.1 says.0.some));
    })

tells_at : (shape : Shape) (events : List DiskEvent) (s : LaneState) (event : DiskEvent) (t : LaneState) → IsShape shape → Run LaneStep (fresh shape) events s → LaneStep s event t
    → (log_of after (nothing_yet shape) events).wire.forged ≡ false → TellsAt (log_of after (nothing_yet shape) events) event
tells_at shape events s (OnWire (Sent A packet opens)) t sound run step clean =
    let l = log_of after (nothing_yet shape) events in
    let knows : Knows s l = run_knows shape events s sound run in
    let sends = step.step in
    let put : Putting s l packet sends.held = putting s l packet opens t.client t.memory knows sends in
    let on = lane_meets shape events s sound run (ap (λ (w : WireLog). w.forged) knows.all.stands.wire ∙ clean) in
    let there = on.meets.handshakes in
    let up = (lane_steps shape events s (OnWire (Sent A packet opens)) t sound run step).stands.0 in
    let shaped : IsShape l.shape = subst IsShape (sym (shape_of (nothing_yet shape) events)) sound in
    let waits = client_waits s.client (seen A s.shape.entries s.wire.wire) sends.held knows.all.sound sends.holds in
    client_tells (client_kind sends.held) l (deal (asks_of shape) (answers_of shape) there.sid) sends.held packet (omega (arith, shaped.some_slots)) there.small
    (held_at Initiator (deal (asks_of shape) (answers_of shape) there.sid) (client_core s.client) (client_core sends.held) l.transcript.a on.stand.mine waits (there.mine up)) put.counted put.says
tells_at shape events s (OnWire (Sent B packet opens)) t sound run step clean =
    let l = log_of after (nothing_yet shape) events in
    let knows : Knows s l = run_knows shape events s sound run in
    let sends = step.1.step.1.0 in
    let at = seen B s.shape.entries s.wire.wire in
    let rule = server_rules.server_rule s.server at in
    let held = sends.held in
    let on = lane_meets shape events s sound run (ap (λ (w : WireLog). w.forged) knows.all.stands.wire ∙ clean) in
    let there = on.meets.handshakes in
    let up = (lane_steps shape events s (OnWire (Sent B packet opens)) t sound run step).stands.0 in
    let shaped : IsShape l.shape = subst IsShape (sym (shape_of (nothing_yet shape) events)) sound in
    server_tells (server_kind held) l (deal (asks_of shape) (answers_of shape) there.sid) held packet shaped there.small
    (held_at Responder (deal (asks_of shape) (answers_of shape) there.sid) (server_core s.server) (server_core held) l.transcript.b on.stand.theirs (server_waits s.server at held sends.holds)
    (there.theirs up))
    (server_holds_counting l.shape s.server rule held l.transcript.b l.work.server knows.rests.server knows.utters.server (server_free s.server at) sends.holds knows.counted.server)
    (put_says (is_none held.handshake.owed) held.link t.server.link l.transcript.b packet
    (server_blocked_rests s.server at held l.transcript.b sends.holds knows.rests.server).stands.link.follows sends.packet)
tells_at shape events s _ t sound run step clean = tt

-- ALONG THE LOG
pub record TheyTell (l : DiskLog) : Type 0 where
  pub client : EachSaid Initiator l.shape.slots 0 0 (said l.transcript.a)
  pub server : EachSaid Responder l.shape.slots 0 0 (said l.transcript.b)

tells_more : (r : Role) (slots : ℕ) (told now : List (List ℕ)) → Tells r slots told now → EachSaid r slots 0 0 told → EachSaid r slots 0 0 now
tells_more r slots told now (inl is) each = subst (EachSaid r slots 0 0) (sym is) each
tells_more r slots told now (inr one) each =
    subst (EachSaid r slots 0 0) (sym one.is) (each_more r slots 0 0 told one.bytes each
    (same_either r slots (range_count (code_of r) told) (0 + range_count (code_of r) told) (range_sum slots (code_of r) told) (0 + range_sum slots (code_of r) told) one.bytes (omega arith) (omega arith) one.what))

wire_told : (l : DiskLog) (event : WireEvent) → WireTellsAt l event → TheyTell l → TheyTell (after l (OnWire event))
wire_told l event may tell = grind (arith, tells_more)

told_step : (l : DiskLog) (event : DiskEvent) → TellsAt l event → TheyTell l → TheyTell (after l event)
told_step l (OnWire event) may tell = wire_told l event may tell
told_step l (Switches Stopped) may tell = record { client = tell.client; server = tt }
told_step l _ may tell = record { client = tell.client; server = tell.server }

abbrev MayTell : DiskLog → DiskEvent → Type 0
MayTell l event = l.wire.forged ≡ false → TellsAt l event

told : (l : DiskLog) (events : List DiskEvent) → Lawful MayTell after l events → (log_of after l events).wire.forged ≡ false → (l.wire.forged ≡ false → TheyTell l)
    → TheyTell (log_of after l events)
told l [] lawful clean tell = tell clean
told l (event ∷ events) lawful clean tell =
    told (after l event) events lawful.1 clean (λ c. let was : l.wire.forged ≡ false = before l event c in told_step l event (lawful.0 was) (tell was))

pub they_tell : (shape : Shape) (events : List DiskEvent) (s : LaneState) → IsShape shape → Run LaneStep (fresh shape) events s → (log_of after (nothing_yet shape) events).wire.forged ≡ false
    → TheyTell (log_of after (nothing_yet shape) events)
they_tell shape events s sound run clean = search (told, reached_lawful, tells_at)

-- AN END IN SESSION hears the next of the ranges
same_sid : (m : Message) → sid_at (canonical m) ≡ sid_at (canonical (record { subtype = m.subtype; sid = m.sid; body = Rdx }))
unfolding canonical
same_sid m = refl

sid_reads : (m : Message) → m.sid < 2 ^ 32 → sid_at (canonical m) ≡ m.sid
sid_reads m small = same_sid m ∙ sym (canonical_spells (record { subtype = m.subtype; sid = m.sid; body = Rdx }) tt (small, tt)).sid

same_sids : (m : Message) (bytes : List ℕ) (d : Deal) → bytes ≡ canonical m → m.sid < 2 ^ 32 → d.sid < 2 ^ 32 → IsOwn d bytes → m.sid ≡ d.sid
same_sids m bytes d is small there own = grind (arith, sid_reads)

pub next_data : (shape : Shape) (role : Role) (s : Sides) (bytes : List ℕ) → (on : OnLane shape role s) → s.mine.state ≡ Up → s.mine.core.is_open ≡ true → s.theirs.state ≡ Up
    → IsFront (heard s.mine.utterances ++ bytes ∷ []) (said s.theirs.utterances) → EachSaid (other role) shape.slots 0 0 (said s.theirs.utterances)
    → IsData (other role) shape.slots on.meets.handshakes.sid (range_count (code_of (other role)) (heard s.mine.utterances)) (range_sum shape.slots (code_of (other role)) (heard s.mine.utterances)) bytes
next_data shape role s bytes on up opened their_up front each = by_kind (each_in (other role) shape.slots 0 0 (heard s.mine.utterances) front.0 (said s.theirs.utterances) bytes each front.1)
  where
    d : Deal
    d = deal (asks_of shape) (answers_of shape) on.meets.handshakes.sid

    k : ℕ
    k = code_of (other role)

    own : IsOwn d bytes
    own = next_own (asks_of shape) (answers_of shape) role s bytes on.stand on.meets.handshakes up opened their_up front

    by_kind : IsEither (other role) shape.slots (0 + range_count k (heard s.mine.utterances)) (0 + range_sum shape.slots k (heard s.mine.utterances)) bytes
        → IsData (other role) shape.slots on.meets.handshakes.sid (range_count k (heard s.mine.utterances)) (range_sum shape.slots k (heard s.mine.utterances)) bytes
    by_kind (inl data_is) =
        let is = data_is.2 in
        let sid : data_is.0 ≡ d.sid =
        same_sids (record { subtype = subtype_of (other role); sid = data_is.0; body = DringData is.seq data_is.0 ((0 + range_sum shape.slots k (heard s.mine.utterances)) % shape.slots) is.end is.state }) bytes d
        is.bytes_are data_is.1 on.meets.handshakes.small own in
        let count : 0 + range_count k (heard s.mine.utterances) ≡ range_count k (heard s.mine.utterances) = omega arith in
        let sum : 0 + range_sum shape.slots k (heard s.mine.utterances) ≡ range_sum shape.slots k (heard s.mine.utterances) = omega arith in
        subst (λ (n : ℕ). IsData (other role) shape.slots n (range_count k (heard s.mine.utterances)) (range_sum shape.slots k (heard s.mine.utterances)) bytes) sid
        (subst (λ (n : ℕ). IsData (other role) shape.slots data_is.0 n (range_sum shape.slots k (heard s.mine.utterances)) bytes) count
        (subst (λ (n : ℕ). IsData (other role) shape.slots data_is.0 (0 + range_count k (heard s.mine.utterances)) n bytes) sum is))
    by_kind (inr apart) = absurd (omega (arith, apart, own_envelope d bytes own))
