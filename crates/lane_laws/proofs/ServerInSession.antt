-- A server in session, on a lane that nobody forged, hears the next range of the client, and goes on.
use Rattle.std.proofs.Common.{◌≡◌, ℕ, ◌+◌, ◌%◌, ◌^◌, ◌<◌, ◌≤◌, true, false, Option, Some, List, [], ◌∷◌, ◌++◌, refl, sym, ap, ◌∙◌, subst, arith}
use Rattle.std.specs.Prelude.{is_some, Ok}
use Rattle.std.proofs.lemmas.Bool.{lt-leb}
use Rattle.std.proofs.lemmas.Nat.{mod_below}
use Rattle.runs.specs.Lawful.{log_of}
use Rattle.runs.specs.Run.{Run}
use Rattle.ldc_link.specs.declared.phase.Role.TheVariants.{Initiator, Responder}
use Rattle.ldc_link.specs.LinkState.{LinkState, cleared, is_up}
use Rattle.ldc_packet.specs.declared.packet.Subtype.TheVariants.{Info}
use Rattle.ldc_queue.specs.declared.end.ChannelState.TheVariants.{Up}
use Rattle.ldc_queue.specs.OneStream.{IsFront}
use Rattle.ldc_queue.specs.Transcript.{Utterance}
use Rattle.vio_bytes.specs.Place.{number_at}
use Rattle.vio_tag.specs.declared.message.Message.{Message}
use Rattle.vio_tag.specs.Spelling.{SpellsMessage}
use Rattle.vio_handshake.proofs.Places.{AllSaid, Deal}
use Rattle.vio_handshake.specs.declared.handshake.Handshake.{Handshake}
use Rattle.lane_models.specs.Sayings.{heard, said}
use Rattle.lane_models.specs.WireLog.{WireLog}
use Rattle.lane_laws.specs.DiskLog.{after, nothing_yet}
use Rattle.lane_laws.specs.WorkLog.{ServerCounts}
use Rattle.lane_models.specs.DiskEvent.{DiskEvent}
use Rattle.lane_models.specs.EndPuts.{handshake_risen}
use Rattle.lane_models.specs.LaneState.{IsShape, LaneState, Shape, fresh}
use Rattle.lane_models.specs.LaneStep.{LaneStep}
use Rattle.lane_models.specs.Ranges.{wrapped}
use Rattle.lane_models.specs.ServerState.{ServerSession, ServerState, SlotRange}
use Rattle.lane_models.specs.ServerTaking.{GoesOn, HearsWhole, ServerTake, asked, hears_message, place_of, reads, takes_info}
use Rattle.lane_models.proofs.EndStanding.{open_up}
use Rattle.lane_models.proofs.HandshakePlaces.{AtPlace, deal, open_place}
use Rattle.lane_models.specs.Sides.{sides_of, swapped}
use Rattle.lane_laws.proofs.Agreeing.{asked_within}
use Rattle.lane_laws.proofs.ClientInSession.{no_fault, same_is}
use Rattle.lane_laws.proofs.DataHeard.{data_spells, decodes_to, read_data, seq_reads}
use Rattle.lane_laws.proofs.LaneCounting.{Knows, counted_server, run_knows}
use Rattle.lane_laws.proofs.LaneChannel.{answers_of, asks_of, lane_meets_other}
use Rattle.lane_laws.proofs.LaneCores.{shape_of}
use Rattle.lane_laws.proofs.RangesTold.{EachSaid, IsData, next_data, they_tell}
use Rattle.lane_laws.proofs.ServerTaken.{still}
use Rattle.lane_laws.specs.Counted.{ServerOrder, range_count, range_sum}
use Rattle.lane_laws.specs.ChannelEnds.{core_of, server_core}

-- IT TAKES an INFO that names the ring of the session, has the next number, and begins where the range before ended
record InfoFits (s : ServerState) (session : ServerSession) (n ident : ℕ) (range : SlotRange) : Type 0 where
  sid : s.handshake.sid ≡ Some n
  named : s.handshake.draft.ident_peer ≡ ident
  number : session.seq ≡ range.seq
  begins : place_of s session ≡ range.start
  ends : range.end < s.handshake.draft.peer_slots

takes_fitting : (s : ServerState) (session : ServerSession) (n ident : ℕ) (range : SlotRange) → InfoFits s session n ident range
    → takes_info s session ident range ≡ GoesOn (asked s session range) false
takes_fitting s session n ident range fits = search (same_is, lt-leb)

-- the range that the bytes name
abbrev range_read : ℕ → ℕ → List ℕ → SlotRange
range_read start end bytes = record { seq = number_at 8 8 bytes; start = start; end = end; state = number_at 1 32 bytes }

hears_fitting : (s : ServerState) (session : ServerSession) (n ident start end : ℕ) (bytes : List ℕ) → InfoFits s session n ident (range_read start end bytes)
    → hears_message s (Some session) (read_data Info n ident start end bytes) ≡ GoesOn (asked s session (range_read start end bytes)) false
hears_fitting s session n ident start end bytes fits = search (no_fault, takes_fitting)

-- so what it hears whole makes it go on
goes_on : (s : ServerState) (session : ServerSession) (n ident start end : ℕ) (bytes : List ℕ) (take : ServerTake) → s.session ≡ Some session
    → InfoFits s session n ident (range_read start end bytes) → SpellsMessage bytes (read_data Info n ident start end bytes) → HearsWhole s (Some bytes) take
    → (t : ServerState) × (take ≡ GoesOn t false)
goes_on s session n ident start end bytes take is fits spells hears =
    let now : ServerState = record s { link = cleared s.link } in
    let fits_now : InfoFits now session n ident (range_read start end bytes) =
    record { sid = fits.sid; named = fits.named; number = fits.number; begins = fits.begins; ends = fits.ends } in
    let message : Message = read_data Info n ident start end bytes in
    let decoded : hears.0 ≡ Ok message = decodes_to bytes message hears.0 tt spells hears.1 in (
      asked now session (range_read start end bytes),
      hears.2 ∙ ap (reads now) decoded ∙ ap (λ (o : Option ServerSession). hears_message now o message) is ∙ hears_fitting now session n ident start end bytes fits_now,
    )

-- the number that it waits for
number_of : (slots : ℕ) (o : Option ServerSession) (q : Option ServerCounts) (turns : List Utterance) (session : ServerSession) → o ≡ Some session → ServerOrder slots o q turns
    → session.seq ≡ wrapped (range_count 1 (heard turns) + 1)
number_of slots o q turns session is order = grind arith

-- the next range of the client is one that the server takes
info_fits : (shape : Shape) (d : Deal) (v : ServerState) (session : ServerSession) (turns : List Utterance) (bytes : List ℕ)
    → (at : AtPlace false d Responder v.handshake turns) → at.place ≡ AllSaid → d.asks.slots ≡ shape.slots → shape.slots ≤ 256 → d.sid < 2 ^ 32
    → session.seq ≡ wrapped (range_count 1 (heard turns) + 1) → session.asked ≡ range_sum shape.slots 1 (heard turns)
    → (is : IsData Initiator shape.slots d.sid (range_count 1 (heard turns)) (range_sum shape.slots 1 (heard turns)) bytes)
    → InfoFits v session d.sid d.sid (range_read (range_sum shape.slots 1 (heard turns) % shape.slots) is.end bytes)
info_fits shape d v session turns bytes at last offered few small number same is = grind (arith, seq_reads)

pub server_hears_in_session : (shape : Shape) (events : List DiskEvent) (s : LaneState) (session : ServerSession) (k : LinkState) (bytes : List ℕ) (take : ServerTake)
    → IsShape shape → Run LaneStep (fresh shape) events s → (log_of after (nothing_yet shape) events).wire.forged ≡ false
    → s.server.session ≡ Some session → s.wire.wire.end_b ≡ Up → s.wire.wire.end_a ≡ Up
    → IsFront (heard (log_of after (nothing_yet shape) events).transcript.b ++ bytes ∷ []) (said (log_of after (nothing_yet shape) events).transcript.a)
    → HearsWhole (record s.server { link = k; handshake = handshake_risen s.server.link k s.server.handshake }) (Some bytes) take → (t : ServerState) × (take ≡ GoesOn t false)
server_hears_in_session shape events s session k bytes take sound run clean open_is up_b up_a front hears =
    let l = log_of after (nothing_yet shape) events in
    let knows : Knows s l = run_knows shape events s sound run in
    let shape_is : l.shape ≡ shape = shape_of (nothing_yet shape) events in
    let clean_s : s.wire.forged ≡ false = ap (λ (w : WireLog). w.forged) knows.all.stands.wire ∙ clean in
    let on = lane_meets_other shape events s sound run clean_s in
    let sid = on.meets.handshakes.sid in
    let d = deal (asks_of shape) (answers_of shape) sid in
    let open_one : is_some s.server.session ≡ true = ap is_some open_is in
    let link : is_up s.server.link ≡ true = open_up Responder (server_core s.server) l.transcript.b on.stand.mine open_one in
    let at = on.meets.handshakes.mine up_b link in
    let last : at.place ≡ AllSaid = open_place false d Responder (server_core s.server) l.transcript.b on.stand.mine at open_one in
    let tells : EachSaid Initiator shape.slots 0 0 (said l.transcript.a) =
    subst (λ (x : Shape). EachSaid Initiator x.slots 0 0 (said l.transcript.a)) shape_is (they_tell shape events s sound run clean).client in
    let sum = range_sum shape.slots 1 (heard l.transcript.b) in
    let is : IsData Initiator shape.slots sid (range_count 1 (heard l.transcript.b)) sum bytes =
    next_data shape Responder (swapped (sides_of (core_of s) l.transcript)) bytes on up_b open_one up_a front tells in
    let asked_is : session.asked ≡ range_sum shape.slots 1 (heard l.transcript.b) =
    (asked_within shape events s session sound run clean_s up_b open_is).asked ∙ ap (λ (x : Shape). range_sum x.slots 1 (heard l.transcript.b)) shape_is in
    let number = number_of shape.slots s.server.session l.work.server l.transcript.b session open_is (counted_server shape s l shape_is knows).order in
    let fits = info_fits shape d s.server session l.transcript.b bytes at last refl sound.most_slots on.meets.handshakes.small number asked_is is in
    let start = sum % shape.slots in
    let ends = is.ends in
    let small = on.meets.handshakes.small in
    let below : start < 2 ^ 32 = omega (arith, mod_below sum shape.slots (omega (arith, ends)), sound.most_slots) in
    let spells : SpellsMessage bytes (read_data Info sid sid start is.end bytes) =
    subst (λ (b : List ℕ). SpellsMessage b (read_data Info sid sid start is.end b)) (sym is.bytes_are)
    (data_spells Info sid is.seq sid start is.end is.state small (omega (arith, small)) below (omega (arith, ends, sound.most_slots))) in
    let same : handshake_risen s.server.link k s.server.handshake ≡ s.server.handshake = still (is_up k) (is_up s.server.link) s.server.handshake link in
    let fits_now : InfoFits (record s.server { link = k }) session sid sid (range_read start is.end bytes) =
    record { sid = fits.sid; named = fits.named; number = fits.number; begins = fits.begins; ends = fits.ends } in
    goes_on (record s.server { link = k }) session sid sid start is.end bytes take open_is fits_now spells
    (subst (λ (h : Handshake). HearsWhole (record s.server { link = k; handshake = h }) (Some bytes) take) same hears)
