-- A client in session, on a lane that nobody forged, hears the answer to the first of its ranges that has none, and goes on.
use Rattle.std.proofs.Common.{◌≡◌, ℕ, ◌+◌, ◌%◌, ◌^◌, ◌<◌, ◌≤◌, Bool, true, false, Option, Some, None, List, [], ◌∷◌, ◌++◌, sym, ap, ◌∙◌, subst, arith}
use Rattle.std.specs.Prelude.{is_some, if◌then◌else◌, Ok}
use Rattle.std.proofs.lemmas.Bool.{le-leb}
use Rattle.std.proofs.lemmas.Nat.{mod_below}
use Rattle.runs.specs.Lawful.{log_of}
use Rattle.runs.specs.Run.{Run}
use Rattle.ldc_link.specs.declared.phase.Role.TheVariants.{Initiator, Responder}
use Rattle.ldc_link.specs.LinkState.{LinkState, cleared}
use Rattle.ldc_packet.specs.declared.packet.Subtype.TheVariants.{Ack}
use Rattle.ldc_queue.specs.declared.end.ChannelState.TheVariants.{Up}
use Rattle.ldc_queue.specs.declared.end.End.TheVariants.{B}
use Rattle.ldc_queue.specs.OneStream.{IsFront}
use Rattle.ldc_queue.specs.Transcript.{Utterance}
use Rattle.vio_tag.specs.declared.cause.Cause.{Cause}
use Rattle.vio_tag.specs.declared.cause.Cause.TheVariants as the_cause
use Rattle.vio_tag.specs.declared.message.Message.{Message}
use Rattle.vio_tag.specs.Spelling.{SpellsMessage}
use Rattle.vio_handshake.proofs.Agreeable.{same_number}
use Rattle.vio_handshake.proofs.Places.{AllSaid, Deal}
use Rattle.vio_handshake.specs.Rules.{sid_fault}
use Rattle.lane_models.specs.Sayings.{heard, said}
use Rattle.lane_models.specs.TranscriptLog.{TranscriptLog}
use Rattle.lane_models.specs.WireLog.{WireLog}
use Rattle.lane_laws.specs.DiskLog.{after, nothing_yet}
use Rattle.lane_laws.specs.WorkLog.{ServerCounts}
use Rattle.lane_models.specs.ClientState.{ClientSession, ClientState, slot_in}
use Rattle.lane_models.specs.ClientTaking.{ClientTake, GoesOn, HearsWhole, acknowledged, hears_message, reads, sid_first, takes_ack}
use Rattle.lane_models.specs.DiskEvent.{DiskEvent}
use Rattle.lane_models.specs.LaneState.{IsShape, LaneState, Shape, fresh}
use Rattle.lane_models.specs.LaneStep.{LaneStep}
use Rattle.lane_models.specs.Ranges.{is_other}
use Rattle.dring.specs.Slots.{range_length}
use Rattle.lane_models.specs.ServerState.{ServerSession}
use Rattle.lane_models.proofs.Apart.{some_same}
use Rattle.lane_models.proofs.EndStanding.{open_up}
use Rattle.lane_models.proofs.HandshakePlaces.{AtPlace, deal, open_place}
use Rattle.lane_models.specs.Sides.{sides_of}
use Rattle.lane_laws.proofs.Agreeing.{front_sum}
use Rattle.lane_laws.proofs.LaneCores.{shape_of, transcript_is}
use Rattle.lane_laws.proofs.DataHeard.{data_spells, decodes_to, read_data}
use Rattle.lane_laws.proofs.HeardFront.{heard_messages}
use Rattle.lane_laws.proofs.LaneCounting.{Knows, counted_client, counted_server, run_knows}
use Rattle.lane_laws.proofs.RangeSums.{sum_more}
use Rattle.lane_laws.proofs.LaneChannel.{answers_of, asks_of, lane_meets}
use Rattle.lane_laws.proofs.RangesSaid.{said_range}
use Rattle.lane_laws.proofs.RangesTold.{EachSaid, IsData, next_data, they_tell}
use Rattle.lane_laws.specs.Counted.{ServerOrder, acked_of, announced_of, range_count, range_sum}
use Rattle.lane_laws.specs.LaneTranscripts.{transcript_behind}
use Rattle.lane_laws.specs.ChannelEnds.{client_core, core_of}

-- IT TAKES an acknowledgement that names its ring, begins after those that it took, and ends where it announced
pub same_is : (one other : ℕ) → one ≡ other → is_other one other ≡ false
same_is one other is = ap (λ (x : ℕ). is_other one x) (sym is) ∙ ap (λ (b : Bool). if b then false else true) (same_number one)

record AckFits (s : ClientState) (session : ClientSession) (n ident start end : ℕ) : Type 0 where
  sid : s.handshake.sid ≡ Some n
  named : s.handshake.draft.ident_own ≡ ident
  begins : slot_in s session.acked ≡ start
  ends : end < s.slots
  within : session.acked + range_length s.slots start end ≤ session.announced

takes_fitting : (s : ClientState) (session : ClientSession) (n ident start end : ℕ) → AckFits s session n ident start end
    → takes_ack s session ident start end ≡ GoesOn (acknowledged s session (range_length s.slots start end))
takes_fitting s session n ident start end fits = search (same_is, le-leb)

pub no_fault : (o : Option ℕ) (n : ℕ) → o ≡ Some n → sid_fault o n ≡ None
no_fault None n is = absurd (cc is)
no_fault (Some m) n is = let same : n ≡ m = sym (some_same is) in ap (λ (x : ℕ). sid_fault (Some m) x) same ∙ ap (λ (b : Bool). if b then None else Some (the_cause.Sid m m)) (same_number m)

hears_fitting : (s : ClientState) (session : ClientSession) (n ident start end : ℕ) (bytes : List ℕ) → AckFits s session n ident start end
    → hears_message s (Some session) (read_data Ack n ident start end bytes) ≡ GoesOn (acknowledged s session (range_length s.slots start end))
hears_fitting s session n ident start end bytes fits =
    ap (λ (f : Option Cause). sid_first f (takes_ack s session ident start end)) (no_fault s.handshake.sid n fits.sid) ∙ takes_fitting s session n ident start end fits

-- so what it hears whole makes it go on
goes_on : (s : ClientState) (session : ClientSession) (n ident start end : ℕ) (bytes : List ℕ) (take : ClientTake) → s.session ≡ Some session
    → AckFits s session n ident start end → SpellsMessage bytes (read_data Ack n ident start end bytes) → HearsWhole s (Some bytes) take → (t : ClientState) × (take ≡ GoesOn t)
goes_on s session n ident start end bytes take is fits spells hears =
    let now : ClientState = record s { link = cleared s.link } in
    let fits_now : AckFits now session n ident start end =
    record { sid = fits.sid; named = fits.named; begins = fits.begins; ends = fits.ends; within = fits.within } in
    let message : Message = read_data Ack n ident start end bytes in
    let decoded : hears.0 ≡ Ok message = decodes_to bytes message hears.0 tt spells hears.1 in (
      acknowledged now session (range_length s.slots start end),
      hears.2 ∙ ap (reads now) decoded ∙ ap (λ (o : Option ClientSession). hears_message now o message) is
          ∙ hears_fitting now session n ident start end bytes fits_now,
    )

-- WHAT IT MAY HEAR: as many slots as it announced
pub answered_asked : (slots : ℕ) (o : Option ServerSession) (q : Option ServerCounts) (turns : List Utterance) → ServerOrder slots o q turns
    → range_sum slots 2 (said turns) ≤ range_sum slots 1 (heard turns)
answered_asked slots o q turns order = grind arith

-- the next answer of the server is one that the client takes
ack_fits : (shape : Shape) (d : Deal) (c : ClientState) (session : ClientSession) (turns : List Utterance) (bytes : List ℕ)
    → (at : AtPlace false d Initiator c.handshake turns) → at.place ≡ AllSaid → c.session ≡ Some session → c.slots ≡ shape.slots → shape.slots ≤ 256
    → acked_of c.session ≡ range_sum shape.slots 2 (heard turns) → (is : IsData Responder shape.slots d.sid (range_count 2 (heard turns)) (range_sum shape.slots 2 (heard turns)) bytes)
    → range_sum shape.slots 2 (heard turns ++ bytes ∷ []) ≤ session.announced
    → AckFits c session d.sid d.sid (range_sum shape.slots 2 (heard turns) % shape.slots) is.end
ack_fits shape d c session turns bytes at last open_is slots few acked is most = grind (arith, said_range, sum_more)

pub client_hears_in_session : (shape : Shape) (events : List DiskEvent) (s : LaneState) (session : ClientSession) (k : LinkState) (bytes : List ℕ) (take : ClientTake)
    → IsShape shape → Run LaneStep (fresh shape) events s → (log_of after (nothing_yet shape) events).wire.forged ≡ false
    → s.client.session ≡ Some session → s.wire.wire.end_a ≡ Up → s.wire.wire.end_b ≡ Up
    → IsFront (heard (log_of after (nothing_yet shape) events).transcript.a ++ bytes ∷ []) (said (log_of after (nothing_yet shape) events).transcript.b)
    → HearsWhole (record s.client { link = k }) (Some bytes) take → (t : ClientState) × (take ≡ GoesOn t)
client_hears_in_session shape events s session k bytes take sound run clean open_is up_a up_b front hears =
    let l = log_of after (nothing_yet shape) events in
    let knows : Knows s l = run_knows shape events s sound run in
    let shape_is : l.shape ≡ shape = shape_of (nothing_yet shape) events in
    let clean_s : s.wire.forged ≡ false = ap (λ (w : WireLog). w.forged) knows.all.stands.wire ∙ clean in
    let on = lane_meets shape events s sound run clean_s in
    let sid = on.meets.handshakes.sid in
    let d = deal (asks_of shape) (answers_of shape) sid in
    let open_one : is_some s.client.session ≡ true = ap is_some open_is in
    let at = on.meets.handshakes.mine up_a (open_up Initiator (client_core s.client) l.transcript.a on.stand.mine open_one) in
    let last : at.place ≡ AllSaid = open_place false d Initiator (client_core s.client) l.transcript.a on.stand.mine at open_one in
    let client = counted_client shape s l shape_is knows in
    let server = counted_server shape s l shape_is knows in
    let tells : EachSaid Responder shape.slots 0 0 (said l.transcript.b) =
    subst (λ (x : Shape). EachSaid Responder x.slots 0 0 (said l.transcript.b)) shape_is (they_tell shape events s sound run clean).server in
    let sum = range_sum shape.slots 2 (heard l.transcript.a) in
    let is : IsData Responder shape.slots sid (range_count 2 (heard l.transcript.a)) sum bytes =
    next_data shape Initiator (sides_of (core_of s) l.transcript) bytes on up_a open_one up_b front tells in
    let transcript : l.transcript ≡ transcript_behind events = transcript_is (nothing_yet shape) events in
    let front_b : IsFront (heard l.transcript.b) (said l.transcript.a) =
    subst (λ (t : TranscriptLog). IsFront (heard t.b) (said t.a)) (sym transcript) (heard_messages shape events s B sound run clean_s up_b) in
    let announced : session.announced ≡ range_sum shape.slots 1 (said l.transcript.a) = ap announced_of (sym open_is) ∙ client.announced in
    let most : range_sum shape.slots 2 (heard l.transcript.a ++ bytes ∷ []) ≤ session.announced =
    omega (
      arith,
      front_sum shape.slots 2 (heard l.transcript.a ++ bytes ∷ []) (said l.transcript.b) front,
      answered_asked shape.slots s.server.session l.work.server l.transcript.b server.order,
      front_sum shape.slots 1 (heard l.transcript.b) (said l.transcript.a) front_b,
      announced,
    ) in
    let fits = ack_fits shape d s.client session l.transcript.a bytes at last open_is client.slots sound.most_slots client.acked is most in
    let start = sum % shape.slots in
    let ends = is.ends in
    let small = on.meets.handshakes.small in
    let below : start < 2 ^ 32 = omega (arith, mod_below sum shape.slots (omega (arith, ends)), sound.most_slots) in
    let spells : SpellsMessage bytes (read_data Ack sid sid start is.end bytes) =
    subst (λ (b : List ℕ). SpellsMessage b (read_data Ack sid sid start is.end b)) (sym is.bytes_are)
    (data_spells Ack sid is.seq sid start is.end is.state small (omega (arith, small)) below (omega (arith, ends, sound.most_slots))) in
    let fits_now : AckFits (record s.client { link = k }) session sid sid start is.end =
    record { sid = fits.sid; named = fits.named; begins = fits.begins; ends = fits.ends; within = fits.within } in
    goes_on (record s.client { link = k }) session sid sid start is.end bytes take open_is fits_now spells hears
