-- On a lane that nobody forged, what is on the way between the ends agrees with the server's place: what an end said names, one range after the
-- other, all from the first number on, and what the other heard is the front of it.
use Rattle.std.proofs.Common.{◌≡◌, ℕ, ◌+◌, ◌%◌, ◌≤◌, Bool, true, false, Option, Some, None, List, [], ◌∷◌, ◌++◌, cond, drop, drop_at, filter, length, inl, inr, refl, sym, ap, ◌∙◌, subst, arith}
use Rattle.std.specs.Prelude.{is_some}
use Rattle.runs.specs.Lawful.{log_of}
use Rattle.runs.specs.Run.{Run}
use Rattle.ldc_link.specs.declared.phase.Role.{Role}
use Rattle.ldc_link.specs.declared.phase.Role.TheVariants.{Initiator, Responder}
use Rattle.ldc_packet.specs.declared.packet.Subtype.TheVariants.{Ack, Info}
use Rattle.ldc_queue.specs.declared.end.ChannelState.{ChannelState}
use Rattle.ldc_queue.specs.declared.end.ChannelState.TheVariants.{Up}
use Rattle.ldc_queue.specs.declared.end.End.TheVariants.{A, B}
use Rattle.ldc_queue.specs.Numbered.{numbered}
use Rattle.ldc_queue.specs.OneStream.{IsFront, OneWay, live}
use Rattle.ldc_queue.specs.Transcript.{Utterance, numbered_heard, numbered_said}
use Rattle.lane_laws.specs.Agreement.{ServerAgrees}
use Rattle.lane_models.specs.DiskEvent.{DiskEvent}
use Rattle.lane_laws.specs.DiskLog.{DiskLog, after, nothing_yet}
use Rattle.lane_models.specs.LaneState.{IsShape, LaneState, Shape, fresh}
use Rattle.lane_models.specs.LaneStep.{LaneStep}
use Rattle.lane_models.specs.Ranges.{wrapped}
use Rattle.dring.specs.Slots.{range_length}
use Rattle.lane_models.specs.Sayings.{heard, said}
use Rattle.lane_models.specs.ServerState.{ServerSession, Work}
use Rattle.lane_models.specs.TranscriptLog.{TranscriptLog}
use Rattle.lane_models.specs.WireLog.{WireLog}
use Rattle.lane_laws.specs.WorkLog.{ClientCounts, ServerCounts, length_in, one_in}
use Rattle.lane_models.specs.Messages.{end_slot_of, is_range, range_if, seq_of, start_slot_of}
use Rattle.lane_models.proofs.HandshakesPlaced.{up_or}
use Rattle.lane_models.proofs.Sessions.{open_heard}
use Rattle.lane_laws.proofs.AckedFinished.{same_ranges}
use Rattle.lane_laws.proofs.Agreeing.{client_some}
use Rattle.lane_laws.proofs.LaneCores.{shape_of, transcript_is}
use Rattle.lane_laws.proofs.HeardFront.{heard_messages, unheard_client, lane_converses}
use Rattle.lane_laws.proofs.LaneCounting.{Knows, counted_client, counted_server, run_knows}
use Rattle.lane_laws.proofs.RangesSaid.{end_is, is_data, other_envelope, seq_is, start_is}
use Rattle.lane_laws.proofs.RangesTold.{EachSaid, IsApart, IsData, IsEither, code_of, subtype_of, they_tell}
use Rattle.lane_laws.proofs.ServerCounting.{wraps_more}
use Rattle.lane_laws.specs.Counted.{ServerOrder, range_count, range_sum}
use Rattle.lane_laws.specs.LaneTranscripts.{transcript_behind}
use Rattle.lane_laws.specs.OnTheWay.{NameAll, OnTheWay, SeqsFrom, WaitsOrLost, answered_count, asked_count, expected_by, ranges_behind}
use Rattle.lane_laws.specs.ChannelEnds.{client_core}
use Rattle.lane_models.proofs.NextPacket.{none_of}

same_names : (slots from other to goal : ℕ) (messages : List (List ℕ)) → from ≡ other → to ≡ goal → NameAll slots from to messages → NameAll slots other goal messages
same_names slots from other to goal messages begins ends names =
    subst (λ (n : ℕ). NameAll slots n goal messages) begins (subst (λ (n : ℕ). NameAll slots from n messages) ends names)

-- WHAT IS SAID names all from the first number on
data_is : (r : Role) (slots sid count sum : ℕ) (bytes : List ℕ) → IsData r slots sid count sum bytes → is_range (code_of r) bytes ≡ true
data_is Initiator slots sid count sum bytes is = ap (is_range 1) is.bytes_are ∙ is_data 1 sid Info is.seq sid (sum % slots) is.end is.state refl
data_is Responder slots sid count sum bytes is = ap (is_range 2) is.bytes_are ∙ is_data 2 sid Ack is.seq sid (sum % slots) is.end is.state refl

data_begins : (r : Role) (slots sid count sum : ℕ) (bytes : List ℕ) → slots ≤ 256 → (is : IsData r slots sid count sum bytes) → start_slot_of bytes ≡ sum % slots
data_begins r slots sid count sum bytes few is = grind (arith, start_is)

data_ends : (r : Role) (slots sid count sum : ℕ) (bytes : List ℕ) → slots ≤ 256 → (is : IsData r slots sid count sum bytes) → end_slot_of bytes ≡ is.end
data_ends r slots sid count sum bytes few is =
    let ends = is.ends in ap end_slot_of is.bytes_are ∙ end_is (subtype_of r) sid is.seq sid (sum % slots) is.end is.state (omega (arith, ends, few))

not_one : (b : Bool) (bytes : List ℕ) → range_if b bytes ≡ None → b ≡ false
not_one true bytes none = absurd (cc none)
not_one false bytes none = refl

apart_not : (k : ℕ) (bytes : List ℕ) → IsApart bytes → is_range k bytes ≡ false
apart_not k bytes apart = not_one (is_range k bytes) bytes (other_envelope k bytes (λ is. absurd (omega (arith, is, apart))))

-- one more message before those that are named, and before those whose seq go up
one_named : (r : Role) (slots count sum most : ℕ) (bytes : List ℕ) (rest : List (List ℕ)) → slots ≤ 256 → IsEither r slots count sum bytes
    → NameAll slots (sum + length_in slots (range_if (is_range (code_of r) bytes) bytes)) (sum + length_in slots (range_if (is_range (code_of r) bytes) bytes) + most) rest
    → NameAll slots sum (sum + (length_in slots (range_if (is_range (code_of r) bytes) bytes) + most)) (cond (is_range (code_of r) bytes) (bytes ∷ rest) rest)
one_named r slots count sum most bytes rest few (inl data_of) behind =
    let is = data_of.2 in
    let added = length_in slots (range_if (is_range (code_of r) bytes) bytes) in
    let test : is_range (code_of r) bytes ≡ true = data_is r slots data_of.0 count sum bytes is in
    let spans : added ≡ range_length slots (start_slot_of bytes) (end_slot_of bytes) = ap (λ (b : Bool). length_in slots (range_if b bytes)) test in
    let ends : end_slot_of bytes ≡ is.end = data_ends r slots data_of.0 count sum bytes few is in
    subst (λ (b : Bool). NameAll slots sum (sum + (added + most)) (cond b (bytes ∷ rest) rest)) (sym test) (
      data_begins r slots data_of.0 count sum bytes few is,
      omega (arith, ends, is.ends),
      same_names slots (sum + added) (sum + range_length slots (start_slot_of bytes) (end_slot_of bytes)) (sum + added + most) (sum + (added + most)) rest
          (ap (λ (n : ℕ). sum + n) spans) (omega arith) behind,
    )
one_named r slots count sum most bytes rest few (inr apart) behind =
    let added = length_in slots (range_if (is_range (code_of r) bytes) bytes) in
    let test : is_range (code_of r) bytes ≡ false = apart_not (code_of r) bytes apart in
    let none : added ≡ 0 = ap (λ (b : Bool). length_in slots (range_if b bytes)) test in
    subst (λ (b : Bool). NameAll slots sum (sum + (added + most)) (cond b (bytes ∷ rest) rest)) (sym test)
    (same_names slots (sum + added) sum (sum + added + most) (sum + (added + most)) rest (omega (arith, none)) (omega arith) behind)

names_said : (r : Role) (slots count sum : ℕ) (messages : List (List ℕ)) → slots ≤ 256 → EachSaid r slots count sum messages
    → NameAll slots sum (sum + range_sum slots (code_of r) messages) (filter (is_range (code_of r)) messages)
names_said r slots count sum [] few each = omega arith
names_said r slots count sum (bytes ∷ messages) few each =
    one_named r slots count sum (range_sum slots (code_of r) messages) bytes (filter (is_range (code_of r)) messages) few each.0
    (names_said r slots (count + one_in (range_if (is_range (code_of r) bytes) bytes)) (sum + length_in slots (range_if (is_range (code_of r) bytes) bytes)) messages few each.1)

-- an INFO has the next seq
one_next : (slots count sum : ℕ) (bytes : List ℕ) (rest : List (List ℕ)) → IsEither Initiator slots count sum bytes
    → SeqsFrom (wrapped (count + one_in (range_if (is_range 1 bytes) bytes) + 1)) rest → SeqsFrom (wrapped (count + 1)) (cond (is_range 1 bytes) (bytes ∷ rest) rest)
one_next slots count sum bytes rest (inl data_of) behind =
    let is = data_of.2 in
    let number : is.seq ≡ wrapped (count + 1) = is.number in
    let test : is_range 1 bytes ≡ true = data_is Initiator slots data_of.0 count sum bytes is in
    let one : one_in (range_if (is_range 1 bytes) bytes) ≡ 1 = ap (λ (b : Bool). one_in (range_if b bytes)) test in
    let next : wrapped (count + one_in (range_if (is_range 1 bytes) bytes) + 1) ≡ wrapped (wrapped (count + 1) + 1) =
    ap (λ (n : ℕ). wrapped (count + n + 1)) one ∙ sym (wraps_more (wrapped (count + 1)) (count + 1) 1 refl) in
    subst (λ (b : Bool). SeqsFrom (wrapped (count + 1)) (cond b (bytes ∷ rest) rest)) (sym test) (
      ap seq_of is.bytes_are ∙ seq_is Info data_of.0 is.seq data_of.0 (sum % slots) is.end is.state (omega (arith, number)) ∙ number,
      subst (λ (n : ℕ). SeqsFrom n rest) next behind,
    )
one_next slots count sum bytes rest (inr apart) behind =
    let test : is_range 1 bytes ≡ false = apart_not 1 bytes apart in
    let none : count + one_in (range_if (is_range 1 bytes) bytes) + 1 ≡ count + 1 = omega (arith, ap (λ (b : Bool). one_in (range_if b bytes)) test) in
    subst (λ (b : Bool). SeqsFrom (wrapped (count + 1)) (cond b (bytes ∷ rest) rest)) (sym test) (subst (λ (n : ℕ). SeqsFrom (wrapped n) rest) none behind)

seqs_said : (slots count sum : ℕ) (messages : List (List ℕ)) → EachSaid Initiator slots count sum messages → SeqsFrom (wrapped (count + 1)) (filter (is_range 1) messages)
seqs_said slots count sum [] each = tt
seqs_said slots count sum (bytes ∷ messages) each =
    one_next slots count sum bytes (filter (is_range 1) messages) each.0
    (seqs_said slots (count + one_in (range_if (is_range 1 bytes) bytes)) (sum + length_in slots (range_if (is_range 1 bytes) bytes)) messages each.1)

all_named : (slots : ℕ) (r : Role) (messages : List (List ℕ)) → slots ≤ 256 → EachSaid r slots 0 0 messages
    → NameAll slots 0 (range_sum slots (code_of r) messages) (filter (is_range (code_of r)) messages)
all_named slots r messages few each = grind (arith, names_said)

-- BEHIND A FRONT the rest is named
one_past : (slots subtype from to sum : ℕ) (b : Bool) (bytes : List ℕ) (rest behind : List (List ℕ)) → ((n : ℕ) → NameAll slots n to rest → NameAll slots (n + sum) to behind)
    → NameAll slots from to (cond b (bytes ∷ rest) rest) → NameAll slots (from + (length_in slots (range_if b bytes) + sum)) to behind
one_past slots subtype from to sum true bytes rest behind past names =
    same_names slots (from + range_length slots (start_slot_of bytes) (end_slot_of bytes) + sum) (from + (range_length slots (start_slot_of bytes) (end_slot_of bytes) + sum)) to to behind (omega arith) refl
    (past (from + range_length slots (start_slot_of bytes) (end_slot_of bytes)) names.2)
one_past slots subtype from to sum false bytes rest behind past names =
    same_names slots (from + sum) (from + (0 + sum)) to to behind (omega arith) refl (past from names)

names_past : (slots subtype from to : ℕ) (xs ys : List (List ℕ)) → NameAll slots from to (filter (is_range subtype) (xs ++ ys))
    → NameAll slots (from + range_sum slots subtype xs) to (filter (is_range subtype) ys)
names_past slots subtype from to [] ys names = same_names slots from (from + 0) to to (filter (is_range subtype) ys) (omega arith) refl names
names_past slots subtype from to (x ∷ xs) ys names =
    one_past slots subtype from to (range_sum slots subtype xs) (is_range subtype x) x (filter (is_range subtype) (xs ++ ys)) (filter (is_range subtype) ys)
    (λ n more. names_past slots subtype n to xs ys more) names

seq_past : (count more : ℕ) (b : Bool) (bytes : List ℕ) (rest behind : List (List ℕ)) → ((n : ℕ) → SeqsFrom (wrapped (n + 1)) rest → SeqsFrom (wrapped (n + more + 1)) behind)
    → SeqsFrom (wrapped (count + 1)) (cond b (bytes ∷ rest) rest) → SeqsFrom (wrapped (count + (one_in (range_if b bytes) + more) + 1)) behind
seq_past count more true bytes rest behind past seqs =
    let next : wrapped (wrapped (count + 1) + 1) ≡ wrapped (count + 1 + 1) = wraps_more (wrapped (count + 1)) (count + 1) 1 refl in
    let same : count + 1 + more + 1 ≡ count + (1 + more) + 1 = omega arith in
    subst (λ (n : ℕ). SeqsFrom (wrapped n) behind) same (past (count + 1) (subst (λ (n : ℕ). SeqsFrom n rest) next seqs.1))
seq_past count more false bytes rest behind past seqs =
    let same : count + more + 1 ≡ count + (0 + more) + 1 = omega arith in
    subst (λ (n : ℕ). SeqsFrom (wrapped n) behind) same (past count seqs)

seqs_past : (count : ℕ) (xs ys : List (List ℕ)) → SeqsFrom (wrapped (count + 1)) (filter (is_range 1) (xs ++ ys)) → SeqsFrom (wrapped (count + range_count 1 xs + 1)) (filter (is_range 1) ys)
seqs_past count [] ys seqs =
    let same : count + 1 ≡ count + 0 + 1 = omega arith in subst (λ (n : ℕ). SeqsFrom (wrapped n) (filter (is_range 1) ys)) same seqs
seqs_past count (x ∷ xs) ys seqs =
    seq_past count (range_count 1 xs) (is_range 1 x) x (filter (is_range 1) (xs ++ ys)) (filter (is_range 1) ys) (λ n more. seqs_past n xs ys more) seqs

split : (taken told : List (List ℕ)) → IsFront taken told → told ≡ taken ++ drop (length taken) told
split taken told front =
    front.1 ∙ ap (λ (xs : List (List ℕ)). taken ++ xs) (sym (ap (drop (length taken)) front.1 ∙ drop_at taken front.0 (length taken) refl))

behind_names : (slots subtype from to goal : ℕ) (taken told : List (List ℕ)) → IsFront taken told → NameAll slots 0 to (filter (is_range subtype) told) → range_sum slots subtype taken ≡ from → to ≡ goal
    → NameAll slots from goal (ranges_behind subtype told taken)
behind_names slots subtype from to goal taken told front names begins ends =
    same_names slots (0 + range_sum slots subtype taken) from to goal (ranges_behind subtype told taken) (omega (arith, begins)) ends
    (names_past slots subtype 0 to taken (drop (length taken) told) (subst (λ (xs : List (List ℕ)). NameAll slots 0 to (filter (is_range subtype) xs)) (split taken told front) names))

behind_seqs : (seq : ℕ) (taken told : List (List ℕ)) → IsFront taken told → SeqsFrom 1 (filter (is_range 1) told) → wrapped (range_count 1 taken + 1) ≡ seq → SeqsFrom seq (ranges_behind 1 told taken)
behind_seqs seq taken told front seqs is =
    let same : 0 + range_count 1 taken + 1 ≡ range_count 1 taken + 1 = omega arith in
    subst (λ (n : ℕ). SeqsFrom n (ranges_behind 1 told taken)) (ap wrapped same ∙ is)
    (seqs_past 0 taken (drop (length taken) told) (subst (λ (xs : List (List ℕ)). SeqsFrom 1 (filter (is_range 1) xs)) (split taken told front) seqs))

-- THE SERVER'S PLACE is counted by what it heard and said
record PlaceIs (slots : ℕ) (o : Option ServerSession) (q : Option ServerCounts) (turns : List Utterance) : Type 0 where
  asked : range_sum slots 1 (heard turns) ≡ asked_count q
  answered : range_sum slots 2 (said turns) ≡ answered_count q
  seq : wrapped (range_count 1 (heard turns) + 1) ≡ expected_by o

place_is : (slots : ℕ) (o : Option ServerSession) (w : Option Work) (q : Option ServerCounts) (turns : List Utterance) → ServerOrder slots o q turns → ServerAgrees o w q → PlaceIs slots o q turns
place_is slots o w q turns order agrees = grind arith

-- ONE DIRECTION between two ends that are up
direction : (e f : ChannelState) (put taken waiting : List (List ℕ)) (lost : ℕ) (lossy : Bool) → e ≡ Up → f ≡ Up → OneWay (live e put) (live f taken) waiting lost → (lossy ≡ false → lost ≡ 0)
    → WaitsOrLost put taken waiting lossy
direction e f put taken waiting lost lossy up_e up_f way whole = grind (arith, none_of)

-- A CLIENT that is up with its session open has a server that is up
server_up : (shape : Shape) (events : List DiskEvent) (s : LaneState) → IsShape shape → Run LaneStep (fresh shape) events s → (log_of after (nothing_yet shape) events).wire.forged ≡ false
    → s.wire.wire.end_a ≡ Up → is_some s.client.session ≡ true → s.wire.wire.end_b ≡ Up
server_up shape events s sound run clean up_a now =
    let l = log_of after (nothing_yet shape) events in
    let knows : Knows s l = run_knows shape events s sound run in
    let clean_s : s.wire.forged ≡ false = ap (λ (w : WireLog). w.forged) knows.all.stands.wire ∙ clean in
    elim (up_or s.wire.wire.end_b) [
      | inl up ↦ up
      | inr not ↦
          let none : heard l.transcript.a ≡ [] = ap (λ (t : TranscriptLog). heard t.a) (transcript_is (nothing_yet shape) events) ∙ unheard_client shape events s sound run clean_s up_a not in
          absurd (open_heard Initiator (client_core s.client) l.transcript.a (record { stands = knows.rests.client.stands; rests = knows.rests.client.rests }) now none)
    ]

-- ALL OF IT
pub on_the_way : (shape : Shape) (events : List DiskEvent) (s : LaneState) (k : ClientCounts) → IsShape shape → Run LaneStep (fresh shape) events s
    → (log_of after (nothing_yet shape) events).wire.forged ≡ false → (log_of after (nothing_yet shape) events).work.client ≡ Some k
    → (log_of after (nothing_yet shape) events).wire.wire.end_a ≡ Up → OnTheWay s (log_of after (nothing_yet shape) events) k
on_the_way shape events s k sound run clean is up =
    let l : DiskLog = log_of after (nothing_yet shape) events in
    let knows : Knows s l = run_knows shape events s sound run in
    let shape_is : l.shape ≡ shape = shape_of (nothing_yet shape) events in
    let wire = knows.all.stands.wire in
    let transcript : transcript_behind events ≡ l.transcript = sym (transcript_is (nothing_yet shape) events) in
    let clean_s : s.wire.forged ≡ false = ap (λ (w : WireLog). w.forged) wire ∙ clean in
    let up_a : s.wire.wire.end_a ≡ Up = ap (λ (w : WireLog). w.wire.end_a) wire ∙ up in
    let now : is_some s.client.session ≡ true = client_some s.client.session l.work.done l.work.client k is knows.counted.client.agrees in
    let up_b : s.wire.wire.end_b ≡ Up = server_up shape events s sound run clean up_a now in
    let client = counted_client shape s l shape_is knows in
    let server = counted_server shape s l shape_is knows in
    let counts = same_ranges s.client.session l.work.done l.work.client k is client.agrees in
    let place : PlaceIs shape.slots s.server.session l.work.server l.transcript.b = place_is shape.slots s.server.session s.server.work l.work.server l.transcript.b server.order server.agrees in
    let tells = they_tell shape events s sound run clean in
    let asks : EachSaid Initiator shape.slots 0 0 (said l.transcript.a) = subst (λ (x : Shape). EachSaid Initiator x.slots 0 0 (said l.transcript.a)) shape_is tells.client in
    let answers : EachSaid Responder shape.slots 0 0 (said l.transcript.b) = subst (λ (x : Shape). EachSaid Responder x.slots 0 0 (said l.transcript.b)) shape_is tells.server in
    let front_a : IsFront (heard l.transcript.a) (said l.transcript.b) =
    subst (λ (t : TranscriptLog). IsFront (heard t.a) (said t.b)) transcript (heard_messages shape events s A sound run clean_s up_a) in
    let front_b : IsFront (heard l.transcript.b) (said l.transcript.a) =
    subst (λ (t : TranscriptLog). IsFront (heard t.b) (said t.a)) transcript (heard_messages shape events s B sound run clean_s up_b) in
    let converses = lane_converses shape events s sound run clean_s in
    let stream = converses.stream in
    let to_b = direction s.wire.wire.end_a s.wire.wire.end_b (numbered_said (transcript_behind events).a) (numbered_heard (transcript_behind events).b) (numbered s.wire.wire.to_b) converses.lost_theirs s.wire.lossy
    up_a up_b stream.to_b (λ calm. (converses.whole calm).1) in
    let to_a = direction s.wire.wire.end_b s.wire.wire.end_a (numbered_said (transcript_behind events).b) (numbered_heard (transcript_behind events).a) (numbered s.wire.wire.to_a) converses.lost_mine s.wire.lossy
    up_b up_a stream.to_a (λ calm. (converses.whole calm).0) in
    record {
      server_up = ap (λ (w : WireLog). w.wire.end_b) (sym wire) ∙ up_b;
      infos = subst (λ (x : Shape). NameAll x.slots (asked_count l.work.server) k.announced (ranges_behind 1 (said l.transcript.a) (heard l.transcript.b))) (sym shape_is)
          (behind_names shape.slots 1 (asked_count l.work.server) (range_sum shape.slots 1 (said l.transcript.a)) k.announced (heard l.transcript.b) (said l.transcript.a) front_b
          (all_named shape.slots Initiator (said l.transcript.a) sound.most_slots asks) place.asked (sym (counts.announced ∙ client.announced)));
      seqs = behind_seqs (expected_by s.server.session) (heard l.transcript.b) (said l.transcript.a) front_b (seqs_said shape.slots 0 0 (said l.transcript.a) asks) place.seq;
      acks = subst (λ (x : Shape). NameAll x.slots k.acked (answered_count l.work.server) (ranges_behind 2 (said l.transcript.b) (heard l.transcript.a))) (sym shape_is)
          (behind_names shape.slots 2 k.acked (range_sum shape.slots 2 (said l.transcript.b)) (answered_count l.work.server) (heard l.transcript.a) (said l.transcript.b) front_a
          (all_named shape.slots Responder (said l.transcript.b) sound.most_slots answers) (sym (counts.acked ∙ client.acked)) place.answered);
      to_server = subst (λ (w : WireLog). WaitsOrLost (numbered_said l.transcript.a) (numbered_heard l.transcript.b) (numbered w.wire.to_b) w.lossy) wire
          (subst (λ (t : TranscriptLog). WaitsOrLost (numbered_said t.a) (numbered_heard t.b) (numbered s.wire.wire.to_b) s.wire.lossy) transcript to_b);
      to_client = subst (λ (w : WireLog). WaitsOrLost (numbered_said l.transcript.b) (numbered_heard l.transcript.a) (numbered w.wire.to_a) w.lossy) wire
          (subst (λ (t : TranscriptLog). WaitsOrLost (numbered_said t.b) (numbered_heard t.a) (numbered s.wire.wire.to_a) s.wire.lossy) transcript to_a);
    }
