-- The ranges that an end says and hears. An INFO that is said has the next number, begins where the one before it ended and names all that
-- was published since; one that is heard is the next too. An ACK that is heard names announced ones alone, and one that is said is that of the
-- range in work, the last of it finished.
use Rattle.std.proofs.Common.{◌≡◌, ◌≢◌, ℕ, ◌+◌, ◌-◌, ◌%◌, ◌^◌, ◌<◌, ◌≤◌, Bool, true, Option, Some, None, List, ◌∷◌, ◌++◌, drop, length, length-drop, refl, sym, ap, ◌∙◌, subst, arith, inl, inr, ◌⊎◌, false}
use Rattle.std.specs.Prelude.{is_none, is_some}
use Rattle.std.proofs.lemmas.Nat.{mod_below}
use Rattle.ldc_packet.specs.declared.packet.Subtype.{Subtype}
use Rattle.ldc_packet.specs.Spelling.{subtype_code}
use Rattle.ldc_packet.specs.declared.packet.Subtype.TheVariants.{Ack, Info}
use Rattle.ldc_link.specs.LinkState.{LinkState}
use Rattle.ldc_queue.specs.declared.end.End.TheVariants.{A, B}
use Rattle.ldc_queue.specs.Transcript as turn
use Rattle.ldc_queue.specs.Transcript.{Utterance}
use Rattle.vio_bytes.specs.Place.{number_at}
use Rattle.vio_tag.specs.declared.message.Message.{Message}
use Rattle.vio_tag.specs.declared.message.MsgBody.TheVariants.{DringData}
use Rattle.vio_tag.specs.Spelling.{SpellsBody, canonical, envelope_code, subtype_at}
use Rattle.lane_models.specs.Sayings.{half_heard, half_said, said}
use Rattle.lane_models.specs.WireEvent.{Sent, Took}
use Rattle.lane_laws.proofs.ServerSpeaking.{server_holds_link}
use Rattle.lane_laws.specs.DiskLog.{DiskLog}
use Rattle.lane_models.specs.Blockage.{Blockage, Clear}
use Rattle.lane_laws.specs.EndLog.{ident_of, range_in_work, state_of}
use Rattle.lane_models.specs.Messages.{end_slot_of, ended_by, range_ended, range_in, seq_of, sid_of, start_slot_of}
use Rattle.lane_laws.specs.WorkLaws.{Acknowledges, AcknowledgesRange, Announces, AsksFor, HearsNoOther, IfRange, NamesOwn, NamesRing, OfClientRange, OfServerRange, RangesAt, client_handshake, server_handshake}
use Rattle.lane_laws.specs.WorkLog.{ClientCounts, ServerCounts}
use Rattle.lane_models.specs.ClientPutting.{client_holds, client_kind, is_announcing}
use Rattle.lane_models.specs.ClientRule as client_rules
use Rattle.lane_models.specs.ClientState.{ClientSession, ClientState, slot_in}
use Rattle.lane_models.specs.ClientStep.{ClientSends}
use Rattle.lane_models.specs.EndPuts.{ComesUp, EndsOwn, EndsHandshake, Goes, PutKind}
use Rattle.lane_models.specs.Seeing.{Seen, seen}
use Rattle.lane_models.specs.ServerPutting.{server_holds, server_kind}
use Rattle.lane_models.specs.ServerRule as server_rules
use Rattle.vio_handshake.specs.declared.handshake.Handshake.{Handshake}
use Rattle.vio_handshake.specs.declared.handshake.Phase.{Phase}
use Rattle.vio_handshake.specs.Rules.{sid_fault}
use Rattle.lane_models.specs.DiskEvent.{DiskEvent, OnWire}
use Rattle.lane_models.specs.LaneState.{IsShape, LaneState}
use Rattle.lane_models.specs.LaneStep.{EndOnWire, LaneStep}
use Rattle.lane_models.specs.Ranges.{wrapped}
use Rattle.dring.specs.Slots.{range_length}
use Rattle.lane_models.specs.ServerState.{ServerState, SlotRange}
use Rattle.lane_models.specs.ServerStep.{ServerSends}
use Rattle.lane_models.proofs.UtteranceCases.{heard_none, heard_some, said_none, said_some}
use Rattle.lane_laws.proofs.ClientFolds.{clear_quiet}
use Rattle.lane_laws.proofs.ClientPuts.{putting}
use Rattle.lane_laws.proofs.ClientTaken.{ClientAcked, ClientTook, HearsMessage, client_took_what}
use Rattle.lane_laws.proofs.ClientPutCounting.{OwnInfo, own_info}
use Rattle.lane_models.proofs.PutSayings.{PutSays, SaysWhole, put_says}
use Rattle.lane_laws.proofs.EndsFold.{BothAre, held_session, infos_are}
use Rattle.lane_laws.proofs.IdleLaw.{past_all}
use Rattle.lane_laws.proofs.IdleRules.{published_all}
use Rattle.lane_laws.proofs.RuleTests.{PublishedAll, TakesFree}
use Rattle.lane_laws.proofs.RangeLaps.{range_turns}
use Rattle.lane_laws.proofs.RangesSaid.{data_no_group, end_is, heard_no_group, heard_no_range, ident_is, sid_is, no_data, other_subtype, owed_no_range, range_is, said_is, seq_is, start_is, state_is}
use Rattle.lane_laws.proofs.Requesting.{held_kept}
use Rattle.lane_laws.proofs.Ruling.{client_may}
use Rattle.lane_laws.proofs.RulesFree.{ServerFree, server_free}
use Rattle.lane_laws.proofs.ServerCounting.{own_slots}
use Rattle.lane_laws.proofs.ServerFolds.{ranged}
use Rattle.lane_laws.proofs.ServerPutCounting.{all_finished, server_holds_counting, none_is}
use Rattle.lane_laws.proofs.ServerTaken.{ServerAsked, ServerTook, server_took_what}
use Rattle.lane_laws.proofs.Sharing.{in_order}
use Rattle.lane_laws.proofs.WorkNumbers.{in_client, in_server, order_of}
use Rattle.ldc_link.specs.declared.phase.Role.TheVariants.{Initiator}
use Rattle.lane_laws.specs.ChannelEnds.{client_core}
use Rattle.lane_models.specs.Cuts.{CarriesOwed}
use Rattle.lane_laws.specs.Counted.{ClientCounted, HoldsAnswer, InServerOrder, RangeStands, ServerCounted}
use Rattle.lane_models.specs.HandshakeFits.{OwedFits}
use Rattle.lane_models.proofs.MessagesHeld.{owed_held}
use Rattle.lane_laws.proofs.Speaking.{server_blocked_rests, server_holds_owed}
use Rattle.lane_laws.specs.LaneRests.{ClientRests, ServerRests}
use Rattle.lane_laws.specs.Sound.{ClientSound, SessionInOrder}
use Rattle.lane_laws.proofs.Counting.{OfClient, OfServer, of_client, of_server, slot_of_count}

-- A PACKET that ends a range, and one that ends none
if_none : (range : Option (List ℕ)) (holds : List ℕ → Type 0) → range ≡ None → IfRange range holds
if_none range holds is = subst (λ (r : Option (List ℕ)). IfRange r holds) (sym is) tt

if_some : (range : Option (List ℕ)) (holds : List ℕ → Type 0) (bytes : List ℕ) → range ≡ Some bytes → holds bytes → IfRange range holds
if_some range holds bytes is now = subst (λ (r : Option (List ℕ)). IfRange r holds) (sym is) now

goes_none : (k : ℕ) (turns : List Utterance) (packet : List ℕ) → said (turn.Said packet ∷ turns) ≡ said turns → range_ended k (half_said turns) packet ≡ None
goes_none k turns packet same = ap (range_in k) (said_none turns packet same)

owed_none : (k : ℕ) (phase : Phase) (owed : Option Message) (link : LinkState) (turns : List Utterance) (packet : List ℕ) → (k ≡ 1) ⊎ (k ≡ 2) → OwedFits phase owed
    → CarriesOwed owed (half_said turns ++ link.to_send) → SaysWhole link turns packet → range_ended k (half_said turns) packet ≡ None
owed_none k phase owed link turns packet kind fits holds last = grind (arith, said_some, owed_no_range)

-- the end's own range, as it is said
record SaysRange (k : ℕ) (turns : List Utterance) (packet bytes : List ℕ) (sid seq ident start end state : ℕ) : Type 0 where
  of_session : sid_of bytes ≡ sid % 2 ^ 32
  of_ring : ident_of bytes ≡ ident % 2 ^ 64
  range : range_ended k (half_said turns) packet ≡ Some bytes
  numbered : seq_of bytes ≡ seq
  starts : start_slot_of bytes ≡ start
  ends : end_slot_of bytes ≡ end
  states : state_of bytes ≡ state % 256

says_range : (k n : ℕ) (s : Subtype) (seq ident start end state : ℕ) (link : LinkState) (turns : List Utterance) (packet : List ℕ) → subtype_code s ≡ k → seq < 2 ^ 64 → start < 2 ^ 32 → end < 2 ^ 32
    → half_said turns ++ link.to_send ≡ canonical (record { subtype = s; sid = n; body = DringData seq ident start end state }) → SaysWhole link turns packet
    → SaysRange k turns packet (half_said turns ++ link.to_send) n seq ident start end state
says_range k n s seq ident start end state link turns packet kind small_seq small_start small_end is last = grind (arith, sid_is, ident_is, said_some, said_is, seq_is, start_is, end_is, state_is)

-- what both handshakes are by the log
pub record AreTold (s : LaneState) (l : DiskLog) : Type 0 where
  pub client : s.client.handshake ≡ client_handshake l
  pub server : s.server.handshake ≡ server_handshake l

-- it names the ring of its end, whose handshake is the log's
names_own : (h g : Handshake) (bytes : List ℕ) (named : Handshake → ℕ) → h ≡ g → sid_of bytes ≡ h.draft.sid % 2 ^ 32 → ident_of bytes ≡ named h % 2 ^ 64 → NamesOwn g (named g) bytes
names_own h g bytes named same sid ident = grind arith

client_shaken : (s : ClientState) (rule : client_rules.ClientRule) (held : ClientState) → client_holds rule s ≡ Some held → held.handshake ≡ s.handshake
client_shaken s rule held is = grind arith

server_shaken : (s : ServerState) (rule : server_rules.ServerRule) (held : ServerState) → server_holds rule s ≡ Some held → held.handshake ≡ s.handshake
server_shaken s rule held is = ap (λ (x : ServerState). x.handshake) (server_holds_link s rule held is)

-- AN INFO THAT IS SAID. A client that isn't blocked announces only once all that is pending is published.
holds_all : (s : ClientState) (at : Seen) (rule : client_rules.ClientRule) (held : ClientState) (b : Blockage) (session : ClientSession) → client_rules.client_rule s at ≡ rule
    → client_holds rule s ≡ Some held → (b ≡ Clear → is_announcing s.session ≡ false) → b ≡ Clear → held.session ≡ Some session → session.announcing ≡ true → PublishedAll held session
holds_all s at rule held b session is_holds is quiet clear now own = let silent : is_announcing s.session ≡ false = quiet clear in grind (arith, published_all)

record Pending (l : DiskLog) (held : ClientState) : Type 0 where
  pending : held.pending ≡ drop l.work.done l.work.issued
  done : l.work.done ≤ length l.work.issued
  shaken : held.handshake ≡ client_handshake l
  published : (session : ClientSession) → l.blocked.client ≡ Clear → held.session ≡ Some session → session.announcing ≡ true → PublishedAll held session

abbrev SaysInfo : DiskLog → List ℕ → Type 0
SaysInfo l packet = OfClientRange l (range_ended 1 (half_said l.transcript.a) packet) (Announces l)

announces : (l : DiskLog) (packet : List ℕ) (held : ClientState) (info : OwnInfo held (half_said l.transcript.a ++ held.link.to_send)) → Pending l held → ClientSound held
    → ClientCounted l.shape held l.transcript.a l.work.done l.work.client → SaysWhole held.link l.transcript.a packet → SaysInfo l packet
announces l packet held info stand sound counted last =
    let session = info.session in
    let of : OfClient session l.work.done l.work.client = of_client held.session session l.work.done l.work.client info.is counted.agrees in
    let c = of.counts in
    let order : SessionInOrder (length held.pending) session = in_order (length held.pending) held.session session info.is sound.counts in
    let some : session.announced < session.published = order.own info.announcing in
    let few : session.published ≤ session.announced + held.slots = omega (arith, order.published, order.completed, order.acked, sound.pending) in
    let wide : 1 ≤ held.slots = omega (arith, some, few) in
    let start = slot_in held session.announced in
    let end = slot_in held (session.published - 1) in
    let below : end < held.slots = mod_below (session.published - 1) held.slots wide in
    let bytes = half_said l.transcript.a ++ held.link.to_send in
    let seq = wrapped (session.infos + 1) in
    let begun : start < 2 ^ 32 = omega (arith, mod_below session.announced held.slots wide, sound.slots) in
    let ended_small : end < 2 ^ 32 = omega (arith, below, sound.slots) in
    let says = says_range 1 held.handshake.draft.sid Info seq held.handshake.draft.ident_own start end 1 held.link l.transcript.a packet refl (omega arith) begun ended_small info.bytes_are last in
    let spans : range_length l.shape.slots (start_slot_of bytes) (end_slot_of bytes) ≡ session.published - session.announced =
    ap (λ (x : ℕ). range_length l.shape.slots x (end_slot_of bytes)) says.starts ∙ ap (λ (x : ℕ). range_length l.shape.slots start x) says.ends
    ∙ ap (λ (n : ℕ). range_length n start end) (sym counted.slots) ∙ range_turns held.slots session.announced session.published some few in
    if_some (range_ended 1 (half_said l.transcript.a) packet) _ bytes says.range
    (in_client l.work.client c (λ (k : ClientCounts). Announces l k bytes) of.is (record {
      names = names_own held.handshake (client_handshake l) bytes (λ (h : Handshake). h.draft.ident_own) stand.shaken says.of_session says.of_ring;
      next = says.numbered ∙ ap (λ (n : ℕ). wrapped (n + 1)) of.agree.infos;
      begins = says.starts ∙ ap (λ (n : ℕ). session.announced % n) counted.slots ∙ ap (λ (n : ℕ). n % l.shape.slots) of.agree.announced;
      ends = omega (arith, says.ends, below, counted.slots);
      published = omega (arith, spans, of.agree.announced, of.agree.published, some);
      accepted = λ clear. omega (
        arith,
        past_all held.pending (session.published - session.completed) (stand.published session clear info.is info.announcing),
        of.agree.base,
        of.agree.published,
        of.agree.completed,
        order.published,
        order.completed,
        order.acked,
        order.announced,
        ap length stand.pending,
        length-drop l.work.done l.work.issued,
        stand.done,
      );
      active = says.states;
    }))

by_kind : (kind : PutKind) (l : DiskLog) (packet : List ℕ) (held : ClientState) → Pending l held → ClientRests held l.transcript.a → ClientSound held → ClientCounted l.shape held l.transcript.a l.work.done l.work.client
    → PutSays kind (is_announcing held.session) held.link l.transcript.a packet → SaysInfo l packet
by_kind Goes l packet held stand rests sound counted says = if_none _ _ (goes_none 1 l.transcript.a packet says.messages)
by_kind ComesUp l packet held stand rests sound counted says = if_none _ _ (goes_none 1 l.transcript.a packet says.0.messages)
by_kind EndsOwn l packet held stand rests sound counted says = announces l packet held (own_info held l.transcript.a held.session refl says.1 counted.holds) stand sound counted says.0
by_kind EndsHandshake l packet held stand rests sound counted says =
    if_none _ _ (owed_none 1 held.handshake.phase held.handshake.owed held.link l.transcript.a packet (inl refl) rests.fits.owed
    (owed_held Initiator (client_core held) l.transcript.a rests.stands says.1 says.0.some) says.0)

said_info : (s : LaneState) (l : DiskLog) (packet : List ℕ) (opens : Bool) (t : ClientState) (new : List ℕ) → BothAre s l → AreTold s l
    → ClientSends s.client (seen A s.shape.entries s.wire.wire) s.memory packet opens t new → SaysInfo l packet
said_info s l packet opens t new both told sends =
    let at = seen A s.shape.entries s.wire.wire in
    let rule = client_rules.client_rule s.client at in
    let requests = both.knows.all.stands.requests in
    let put = putting s l packet opens t new both.knows sends in
    by_kind (client_kind sends.held) l packet sends.held (record {
      pending = (held_kept s.client at rule sends.held (client_may s.client at) sends.holds).pending ∙ requests.pending;
      done = requests.done;
      shaken = client_shaken s.client rule sends.held sends.holds ∙ told.client;
      published = λ session clear is own. holds_all s.client at rule sends.held l.blocked.client session refl sends.holds
          (clear_quiet s.client l.transcript.a l.blocked.client both.knows.all.sound both.knows.rests.client both.client) clear is own;
    }) put.rests put.sound put.counted put.says

-- A RANGE THAT IS HEARD names the end's ring
names_ring : (h g : Handshake) (sid : ℕ) (bytes : List ℕ) (ident : ℕ) → sid ≡ sid_of bytes → h ≡ g → sid_fault h.sid sid ≡ None → ident_of bytes ≡ ident
    → (named : Handshake → ℕ) → ident ≡ named h → NamesRing g.sid (named g) bytes
names_ring h g sid bytes ident is same known names named own = search

-- AN ACK THAT IS HEARD
abbrev HearsAck : DiskLog → List ℕ → Type 0
HearsAck l packet = OfClientRange l (range_ended 2 (half_heard l.transcript.a) packet) (Acknowledges l.shape.slots (client_handshake l))

abbrev IsBody : List ℕ → ℕ → ℕ → ℕ → ℕ → ℕ → Type 0
IsBody bytes seq ident start end state = SpellsBody bytes (DringData seq ident start end state)

acknowledges : (l : DiskLog) (packet : List ℕ) (s t : ClientState) → s.handshake ≡ client_handshake l → ClientCounted l.shape s l.transcript.a l.work.done l.work.client
    → ClientAcked s l.transcript.a packet t → HearsAck l packet
acknowledges l packet s t shaken counted acked = grind (arith, heard_some)

heard_ack : (l : DiskLog) (packet : List ℕ) (s t : ClientState) → s.handshake ≡ client_handshake l → ClientCounted l.shape s l.transcript.a l.work.done l.work.client → ClientTook s l.transcript.a packet t
    → HearsAck l packet
heard_ack l packet s t shaken counted (inl part) = if_none _ _ (ap (range_in 2) (heard_none l.transcript.a packet part.messages))
heard_ack l packet s t shaken counted (inr (inl took)) =
    if_none _ _ (ap (range_in 2) (heard_some l.transcript.a packet took.hears.bytes took.hears.messages)
    ∙ heard_no_range 2 took.hears.bytes took.message took.hears.spells took.hears.form (no_data s.handshake took.handshake took.message took.opens took.took))
heard_ack l packet s t shaken counted (inr (inr acked)) = acknowledges l packet s t shaken counted acked

-- AN INFO THAT IS HEARD
abbrev HearsInfo : DiskLog → List ℕ → Type 0
HearsInfo l packet = OfServerRange l (range_ended 1 (half_heard l.transcript.b) packet) (AsksFor l.shape.slots l.transcript.b (server_handshake l))

asks_for : (l : DiskLog) (packet : List ℕ) (s t : ServerState) (opens : Bool) → IsShape l.shape → s.handshake ≡ server_handshake l → ServerRests s l.transcript.b → TakesFree s
    → ServerCounted l.shape s l.transcript.b l.work.server → ServerAsked s l.transcript.b packet t opens → HearsInfo l packet
asks_for l packet s t opens sound shaken rests free counted asks =
    let session = asks.info.session in
    let turns = l.transcript.b in
    let slots = l.shape.slots in
    let range = asks.info.range in
    let bytes = asks.hears.bytes in
    let of : OfServer session s.work l.work.server = of_server s.session session s.work l.work.server asks.info.session_is counted.agrees in
    let c = of.counts in
    let order : InServerOrder slots session c turns = order_of slots s.session session l.work.server c turns asks.info.session_is of.is counted.order in
    let own : s.handshake.draft.peer_slots ≡ slots = own_slots l.shape s turns l.work.server rests (ap is_some asks.info.session_is) counted in
    let fields : IsBody bytes range.seq asks.info.ident range.start range.end range.state = subst (SpellsBody bytes) asks.info.body_is asks.hears.spells.body in
    if_some (range_ended 1 (half_heard turns) packet) _ bytes
    (ap (range_in 1) (heard_some turns packet bytes asks.hears.messages)
    ∙ range_is 1 bytes (asks.hears.spells.envelope ∙ ap envelope_code asks.info.body_is) (asks.hears.spells.subtype ∙ ap subtype_code asks.info.subtype_is))
    (in_server l.work.server c (λ (d : ServerCounts). AsksFor slots turns (server_handshake l) d bytes) of.is (record {
      names = names_ring s.handshake (server_handshake l) asks.message.sid bytes s.handshake.draft.ident_peer asks.hears.spells.sid shaken asks.info.sid_is
          (sym fields.1 ∙ asks.info.ident_is) (λ (h : Handshake). h.draft.ident_peer) refl;
      next = sym fields.0 ∙ asks.info.next ∙ order.seq ∙ ap (λ (n : ℕ). wrapped (n + 1)) (sym (infos_are turns));
      begins = sym fields.2 ∙ asks.info.begins ∙ ap (λ (n : ℕ). session.asked % n) own
          ∙ slot_of_count slots session.asked c.asked sound.slots sound.some_slots sound.most_slots of.agree.asked;
      ends = omega (arith, fields.3, asks.info.ends, own);
      answered = subst (λ (r : Option SlotRange). RangeStands slots r c) (free.range session asks.info.session_is) order.range;
    }))

heard_info : (l : DiskLog) (packet : List ℕ) (s t : ServerState) (opens : Bool) → IsShape l.shape → s.handshake ≡ server_handshake l → ServerRests s l.transcript.b → TakesFree s
    → ServerCounted l.shape s l.transcript.b l.work.server → ServerTook s l.transcript.b packet t opens → HearsInfo l packet
heard_info l packet s t opens sound shaken rests free counted (inl part) = if_none _ _ (ap (range_in 1) (heard_none l.transcript.b packet part.messages))
heard_info l packet s t opens sound shaken rests free counted (inr (inl took)) =
    if_none _ _ (ap (range_in 1) (heard_some l.transcript.b packet took.hears.bytes took.hears.messages)
    ∙ heard_no_range 1 took.hears.bytes took.message took.hears.spells took.hears.form (no_data s.handshake took.handshake took.message opens took.took))
heard_info l packet s t opens sound shaken rests free counted (inr (inr asks)) = asks_for l packet s t opens sound shaken rests free counted asks

-- AN ACK THAT IS SAID answers the whole range in work
abbrev SaysAck : DiskLog → List ℕ → Type 0
SaysAck l packet = OfServerRange l (range_ended 2 (half_said l.transcript.b) packet) (AcknowledgesRange l.shape.slots l.transcript.b (server_handshake l))

answers : (l : DiskLog) (packet : List ℕ) (held : ServerState) → held.handshake ≡ server_handshake l → IsShape l.shape → ranged held.session ≡ range_in_work l.transcript.b
    → HoldsAnswer held (half_said l.transcript.b ++ held.link.to_send) → ServerCounted l.shape held l.transcript.b l.work.server
    → SaysWhole held.link l.transcript.b packet → SaysAck l packet
answers l packet held shaken sound in_work a counted last =
    let turns = l.transcript.b in
    let slots = l.shape.slots in
    let range = a.range in
    let bytes = half_said turns ++ held.link.to_send in
    let of : OfServer a.session held.work l.work.server = of_server held.session a.session held.work l.work.server a.session_is counted.agrees in
    let c = of.counts in
    let order : InServerOrder slots a.session c turns = order_of slots held.session a.session l.work.server c turns a.session_is of.is counted.order in
    let stands : RangeStands slots (Some range) c = subst (λ (r : Option SlotRange). RangeStands slots r c) a.range_is order.range in
    let begun : range.start < 2 ^ 32 = omega (arith, stands.1, sound.most_slots) in
    let ended : range.end < 2 ^ 32 = omega (arith, stands.2, sound.most_slots) in
    let says = says_range 2 held.handshake.draft.sid Ack range.seq held.handshake.draft.ident_peer range.start range.end range.state held.link turns packet refl stands.4 begun ended a.bytes_are last in
    let spans : range_length slots (start_slot_of bytes) (end_slot_of bytes) ≡ range_length slots range.start range.end =
    ap (λ (x : ℕ). range_length slots x (end_slot_of bytes)) says.starts ∙ ap (λ (x : ℕ). range_length slots range.start x) says.ends in
    if_some (range_ended 2 (half_said turns) packet) _ bytes says.range
    (in_server l.work.server c (λ (d : ServerCounts). AcknowledgesRange slots turns (server_handshake l) d bytes) of.is (record {
      names = names_own held.handshake (server_handshake l) bytes (λ (h : Handshake). h.draft.ident_peer) shaken says.of_session says.of_ring;
      range = range;
      in_work = sym in_work ∙ ap ranged a.session_is ∙ a.range_is;
      seq = says.numbered;
      start = says.starts;
      end = says.ends;
      state = says.states;
      begins = says.starts ∙ stands.3 ∙ slot_of_count slots (wrapped c.answered) c.answered sound.slots sound.some_slots sound.most_slots refl;
      ends = omega (arith, says.ends, stands.2);
      asked = omega (arith, spans, stands.0);
      finished = all_finished slots a.session held.work c turns range sound.most_slots a.finished stands order of.agree of.work_agrees;
    }))

answers_by : (kind : PutKind) (l : DiskLog) (packet : List ℕ) (held : ServerState) → held.handshake ≡ server_handshake l → ServerRests held l.transcript.b → IsShape l.shape → ranged held.session ≡ range_in_work l.transcript.b
    → ServerCounted l.shape held l.transcript.b l.work.server → PutSays kind (is_none held.handshake.owed) held.link l.transcript.b packet → SaysAck l packet
answers_by Goes l packet held shaken rests sound in_work counted says = if_none _ _ (goes_none 2 l.transcript.b packet says.messages)
answers_by ComesUp l packet held shaken rests sound in_work counted says = if_none _ _ (goes_none 2 l.transcript.b packet says.0.messages)
answers_by EndsOwn l packet held shaken rests sound in_work counted says =
    answers l packet held shaken sound in_work (counted.holds (none_is held.handshake.owed says.1) says.0.some) counted says.0
answers_by EndsHandshake l packet held shaken rests sound in_work counted says =
    if_none _ _ (owed_none 2 held.handshake.phase held.handshake.owed held.link l.transcript.b packet (inr refl) rests.fits.owed
    (server_holds_owed held l.transcript.b rests.stands says.1 says.0.some) says.0)

said_ack : (s : LaneState) (l : DiskLog) (packet : List ℕ) (opens : Bool) (t : ServerState) → IsShape l.shape → BothAre s l → AreTold s l
    → ServerSends s.server (seen B s.shape.entries s.wire.wire) packet opens t → SaysAck l packet
said_ack s l packet opens t sound both told sends =
    let at = seen B s.shape.entries s.wire.wire in
    let rule = server_rules.server_rule s.server at in
    let knows = both.knows in
    let rests = server_blocked_rests s.server at sends.held l.transcript.b sends.holds knows.rests.server in
    answers_by (server_kind sends.held) l packet sends.held (server_shaken s.server rule sends.held sends.holds ∙ told.server) rests sound (ap ranged (held_session s.server rule sends.held sends.holds) ∙ both.range)
    (server_holds_counting l.shape s.server rule sends.held l.transcript.b l.work.server knows.rests.server knows.utters.server (server_free s.server at) sends.holds knows.counted.server)
    (put_says (is_none sends.held.handshake.owed) sends.held.link t.link l.transcript.b packet
    rests.stands.link.follows sends.packet)

-- NO OTHER RANGE is heard
other_none : (k : ℕ) (turns : List Utterance) (packet : List ℕ) (message : Message) (hears : HearsMessage turns packet message) → range_in k (Some hears.bytes) ≡ None
    → range_ended k (half_heard turns) packet ≡ None
other_none k turns packet message hears none = ap (range_in k) (heard_some turns packet hears.bytes hears.messages) ∙ none

apart : (code k : ℕ) (bytes : List ℕ) → subtype_at bytes ≡ code → k ≢ code → range_in k (Some bytes) ≡ None
apart code k bytes is other = other_subtype k bytes (λ (same : subtype_at bytes ≡ k). other (sym same ∙ is))

no_message : (turns : List Utterance) (packet message : List ℕ) → ended_by (half_heard turns) packet ≡ None → ended_by (half_heard turns) packet ≡ Some message → ⊥
no_message turns packet message none some = let never : None ≡ Some message = sym none ∙ some in absurd (cc)

whole_is : (turns : List Utterance) (packet message : List ℕ) (one : Message) (hears : HearsMessage turns packet one) → number_at 2 2 hears.bytes ≢ 0x0101
    → ended_by (half_heard turns) packet ≡ Some message → number_at 2 2 message ≢ 0x0101
whole_is turns packet message one hears not some = grind (arith, heard_some)

client_no_other : (s t : ClientState) (turns : List Utterance) (packet : List ℕ) → ClientTook s turns packet t → HearsNoOther 2 turns packet
client_no_other s t turns packet (inl part) = record {
  ranges = λ other not. ap (range_in other) (heard_none turns packet part.messages);
  groups = λ message some. absurd (no_message turns packet message (heard_none turns packet part.messages) some);
}
client_no_other s t turns packet (inr (inl took)) = record {
  ranges = λ other not.
      other_none other turns packet took.message took.hears
      (heard_no_range other took.hears.bytes took.message took.hears.spells took.hears.form (no_data s.handshake took.handshake took.message took.opens took.took));
  groups = λ message some.
      whole_is turns packet message took.message took.hears
      (heard_no_group took.hears.bytes took.message s.handshake took.handshake took.opens took.hears.spells took.hears.form took.took) some;
}
client_no_other s t turns packet (inr (inr acked)) = record {
  ranges = λ other not.
      other_none other turns packet acked.message acked.hears (apart 2 other acked.hears.bytes (acked.hears.spells.subtype ∙ ap subtype_code acked.ack.subtype_is) not);
  groups = λ message some.
      whole_is turns packet message acked.message acked.hears
      (data_no_group acked.hears.bytes acked.message acked.ack.seq acked.ack.ident acked.ack.start acked.ack.end acked.ack.state acked.hears.spells acked.ack.body_is) some;
}

server_no_other : (s t : ServerState) (turns : List Utterance) (packet : List ℕ) (opens : Bool) → ServerTook s turns packet t opens → HearsNoOther 1 turns packet
server_no_other s t turns packet opens (inl part) = record {
  ranges = λ other not. ap (range_in other) (heard_none turns packet part.messages);
  groups = λ message some. absurd (no_message turns packet message (heard_none turns packet part.messages) some);
}
server_no_other s t turns packet opens (inr (inl took)) = record {
  ranges = λ other not.
      other_none other turns packet took.message took.hears
      (heard_no_range other took.hears.bytes took.message took.hears.spells took.hears.form (no_data s.handshake took.handshake took.message opens took.took));
  groups = λ message some.
      whole_is turns packet message took.message took.hears
      (heard_no_group took.hears.bytes took.message s.handshake took.handshake opens took.hears.spells took.hears.form took.took) some;
}
server_no_other s t turns packet opens (inr (inr asks)) = record {
  ranges = λ other not.
      other_none other turns packet asks.message asks.hears (apart 1 other asks.hears.bytes (asks.hears.spells.subtype ∙ ap subtype_code asks.info.subtype_is) not);
  groups = λ message some.
      whole_is turns packet message asks.message asks.hears
      (data_no_group asks.hears.bytes asks.message asks.info.range.seq asks.info.ident asks.info.range.start asks.info.range.end asks.info.range.state asks.hears.spells asks.info.body_is) some;
}

-- EACH EVENT
took_ack : (s : LaneState) (l : DiskLog) (packet : List ℕ) (opens : Bool) (t : LaneState) → BothAre s l → AreTold s l → EndOnWire A s (Took A packet opens) t
    → HearsAck l packet × HearsNoOther 2 l.transcript.a packet
took_ack s l packet opens t both told step =
    let knows = both.knows in
    let took = client_took_what s.client l.transcript.a packet t.client knows.rests.client.stands.link.follows knows.rests.client.whole step.step.1 in
    (heard_ack l packet s.client t.client told.client knows.counted.client took, client_no_other s.client t.client l.transcript.a packet took)

took_info : (s : LaneState) (l : DiskLog) (packet : List ℕ) (opens : Bool) (t : LaneState) → IsShape l.shape → BothAre s l → AreTold s l → EndOnWire B s (Took B packet opens) t
    → HearsInfo l packet × HearsNoOther 1 l.transcript.b packet
took_info s l packet opens t sound both told step =
    let knows = both.knows in
    let free : TakesFree s.server = subst (ServerFree s.server) step.1.step.1.0 (server_free s.server (seen B s.shape.entries s.wire.wire)) in
    let took = server_took_what s.server l.transcript.b packet t.server opens knows.rests.server.stands.link.follows knows.rests.server.whole step.1.step.1.1 in (
      heard_info l packet s.server t.server opens sound told.server knows.rests.server free knows.counted.server took,
      server_no_other s.server t.server l.transcript.b packet opens took,
    )

pub ranges_at : (s : LaneState) (l : DiskLog) (event : DiskEvent) (t : LaneState) → IsShape l.shape → BothAre s l → AreTold s l → LaneStep s event t → RangesAt l event
ranges_at s l (OnWire (Sent A packet opens)) t sound both told step = said_info s l packet opens t.client t.memory both told step.step
ranges_at s l (OnWire (Sent B packet opens)) t sound both told step = said_ack s l packet opens t.server sound both told step.1.step.1.0
ranges_at s l (OnWire (Took A packet opens)) t sound both told step = took_ack s l packet opens t both told step
ranges_at s l (OnWire (Took B packet opens)) t sound both told step = took_info s l packet opens t sound both told step
ranges_at s l _ t sound both told step = tt
