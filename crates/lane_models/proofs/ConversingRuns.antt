-- Along every run that nobody forged the two ends converse, so that what an end heard is a front of what the other said.
use Rattle.std.proofs.Common.{◌≡◌, ℕ, ◌≤◌, false, Some, List, [], ◌∷◌, ◌++◌, refl, sym, ap, ◌∙◌, arith}
use Rattle.std.specs.Prelude.{slice_get}
use Rattle.runs.specs.Run.{Run}
use Rattle.ldc_link.specs.declared.phase.Role.{Role}
use Rattle.ldc_link.specs.declared.phase.Role.TheVariants.{Initiator}
use Rattle.ldc_queue.proofs.Messages.{messages_front}
use Rattle.ldc_link.proofs.Following.{takes_follow}
use Rattle.ldc_link.specs.Following.{Follows}
use Rattle.ldc_link.specs.LinkState.{LinkState}
use Rattle.ldc_link.specs.Taking.{Heard, TakesBytes}
use Rattle.ldc_queue.specs.QueueEvent.{Take}
use Rattle.ldc_queue.specs.QueueLog.{lost_past}
use Rattle.ldc_queue.proofs.Streams.{heard_front, stream_step}
use Rattle.ldc_queue.specs.declared.end.ChannelState.{ChannelState}
use Rattle.ldc_queue.specs.declared.end.ChannelState.TheVariants.{Up}
use Rattle.ldc_queue.specs.declared.end.End.{End}
use Rattle.ldc_queue.specs.declared.end.End.TheVariants.{A, B}
use Rattle.ldc_queue.specs.Fragments.{fragments_in}
use Rattle.ldc_queue.specs.Messages.{whole_in}
use Rattle.ldc_queue.specs.Numbered.{numbered}
use Rattle.ldc_queue.specs.OneStream.{IsFront, OneStream, live}
use Rattle.ldc_queue.specs.Transcript as turn
use Rattle.ldc_queue.specs.Transcript.{Utterance, numbered_heard, numbered_said}
use Rattle.ldc_queue.specs.Wire.{peer_of}
use Rattle.vio_handshake.specs.declared.session.Offer.{Offer}
use Rattle.lane_models.proofs.SameSayings.{heard_is, said_is}
use Rattle.lane_models.specs.Sayings.{heard, said}
use Rattle.lane_models.specs.TranscriptLog.{TranscriptLog, nothing_said, transcript_of}
use Rattle.lane_models.specs.WireAt.{IsUp}
use Rattle.lane_models.proofs.Conversations.{anew_converse, first_waits, missed_converse, put_converse, shut_converse, stays_converse, swap_converse, took_converse, waits_converse}
use Rattle.lane_models.proofs.FewLost.{below_turn}
use Rattle.lane_models.proofs.Lifting.{ActsKeep, CoreHolds, core_run}
use Rattle.lane_models.specs.Conversing.{Converse, queue_log}
use Rattle.lane_models.specs.LaneCore.{CoreEvent, CoreFits, CoreStep, LaneCore, fresh_core, transcript_behind}
use Rattle.lane_models.specs.Sides.{Sides, sides_of, took}

pub converse_keeps : ActsKeep Converse
converse_keeps = record {
  swaps = swap_converse;
  stays = λ role s t both stays c. stays_converse role s t stays c;
  waits = λ role s t both waits c. waits_converse role s t both.mine waits c;
  begins = λ role s t both begins c. anew_converse role s t both.theirs begins c;
  closes = λ role s t both begins c. shut_converse role s t both.theirs c;
  takes = λ role s t packet opens both up first hears c. took_converse role s t packet opens up first both.mine both.theirs hears c;
  puts = λ role s t packet opens both up room says c. put_converse role s t packet opens up (omega (arith, room)) both.mine says c;
  misses = λ role s packet both first c. missed_converse role s packet first c;
}

pub first_converse : (entries : ℕ) (asks answers : Offer) → entries ≤ 256 → Converse Initiator (sides_of (fresh_core entries asks answers) nothing_said)
first_converse entries asks answers few = grind arith

pub converse_run : (entries : ℕ) (asks answers : Offer) (events : List CoreEvent) (s : LaneCore) → CoreFits entries asks answers
    → Run CoreStep (fresh_core entries asks answers) events s → CoreHolds Converse s (transcript_behind events)
converse_run entries asks answers events s fits run =
    core_run Converse converse_keeps entries asks answers events s fits (first_converse entries asks answers fits.most_entries) run

-- WHAT AN END HEARD is a front of what the other said: its packets with numbers, and its messages
packets_of : (s : LaneCore) (transcript : TranscriptLog) (e : End) → Converse Initiator (sides_of s transcript) → IsUp e s.wire.wire
    → IsFront (numbered_heard (transcript_of e transcript)) (numbered_said (transcript_of (peer_of e) transcript))
packets_of s transcript A c up = heard_front (queue_log (sides_of s transcript) c.lost_mine c.lost_theirs) A c.stream up
packets_of s transcript B c up = heard_front (queue_log (sides_of s transcript) c.lost_mine c.lost_theirs) B c.stream up

pub messages_in_front : (mine theirs : List Utterance) → IsFront (numbered_heard mine) (numbered_said theirs) → IsFront (heard mine) (said theirs)
messages_in_front mine theirs front = search (heard_is, said_is, messages_front)

pub messages_of : (s : LaneCore) (transcript : TranscriptLog) (e : End) → Converse Initiator (sides_of s transcript) → IsUp e s.wire.wire → IsFront (heard (transcript_of e transcript)) (said (transcript_of (peer_of e) transcript))
messages_of s transcript e c up = messages_in_front (transcript_of e transcript) (transcript_of (peer_of e) transcript) (packets_of s transcript e c up)

pub heard_packets : (entries : ℕ) (asks answers : Offer) (events : List CoreEvent) (s : LaneCore) (e : End) → CoreFits entries asks answers
    → Run CoreStep (fresh_core entries asks answers) events s → s.wire.forged ≡ false → IsUp e s.wire.wire
    → IsFront (numbered_heard (transcript_of e (transcript_behind events))) (numbered_said (transcript_of (peer_of e) (transcript_behind events)))
heard_packets entries asks answers events s e fits run clean up =
    packets_of s (transcript_behind events) e ((converse_run entries asks answers events s fits run).holds clean) up

pub heard_messages : (entries : ℕ) (asks answers : Offer) (events : List CoreEvent) (s : LaneCore) (e : End) → CoreFits entries asks answers
    → Run CoreStep (fresh_core entries asks answers) events s → s.wire.forged ≡ false → IsUp e s.wire.wire
    → IsFront (heard (transcript_of e (transcript_behind events))) (said (transcript_of (peer_of e) (transcript_behind events)))
heard_messages entries asks answers events s e fits run clean up =
    messages_of s (transcript_behind events) e ((converse_run entries asks answers events s fits run).holds clean) up

-- WHAT AN END THAT IS UP HEARD, from its own side, also with the packet that it takes next: a front of what the other said, and nothing where
-- the other isn't up
none_live : (x : ChannelState) (packets : List (List ℕ)) → (x ≡ Up → ⊥) → live x packets ≡ []
none_live x packets not = grind arith

nothing_front : (xs ys : List (List ℕ)) → [] ≡ xs ++ ys → xs ≡ []
nothing_front [] ys is = refl
nothing_front (x ∷ xs) ys is = absurd (cc is)

pub record HeardFrom (s : Sides) (now : List Utterance) : Type 0 where
  pub front : IsFront (heard now) (said s.theirs.utterances)
  pub none : (s.theirs.state ≡ Up → ⊥) → heard now ≡ []

stream_hears : (s : Sides) (lost_mine lost_theirs : ℕ) → OneStream (queue_log s lost_mine lost_theirs) → s.mine.state ≡ Up → HeardFrom s s.mine.utterances
stream_hears s lost_mine lost_theirs stream up = record {
  front = messages_in_front s.mine.utterances s.theirs.utterances (heard_front (queue_log s lost_mine lost_theirs) A stream up);
  none = λ not.
      let way = stream.to_a in
      let nothing : [] ≡ numbered_heard s.mine.utterances ++ (way.gone ++ numbered s.mine.waiting) =
      sym (none_live s.theirs.state (numbered_said s.theirs.utterances) not) ∙ way.is
      ∙ ap (λ (x : ChannelState). live x (numbered_heard s.mine.utterances) ++ (way.gone ++ numbered s.mine.waiting)) up in
      heard_is s.mine.utterances ∙ ap (λ (xs : List (List ℕ)). whole_in [] (fragments_in xs)) (nothing_front (numbered_heard s.mine.utterances) (way.gone ++ numbered s.mine.waiting) nothing);
}

pub hears_now : (role : Role) (s : Sides) → Converse role s → s.mine.state ≡ Up → HeardFrom s s.mine.utterances
hears_now role s c up = stream_hears s c.lost_mine c.lost_theirs c.stream up

pub hears_next : (role : Role) (s : Sides) (packet : List ℕ) (m : LinkState) → Converse role s → s.mine.state ≡ Up → slice_get s.mine.waiting 0 ≡ Some packet
    → Follows s.mine.core.link s.mine.utterances → TakesBytes s.mine.core.link packet (Heard m) → HeardFrom s (turn.Heard packet ∷ s.mine.utterances)
hears_next role s packet m c up at_front follows takes =
    let first = first_waits packet s.mine.waiting at_front in
    let counts = (takes_follow s.mine.core.link s.mine.utterances packet m follows takes).0 in
    let stream = stream_step (queue_log s c.lost_mine c.lost_theirs) (Take A packet) (up, first, counts, λ one. below_turn _ _ _ _ _ _ c.to_mine.few) c.stream in
    let hears = stream_hears (took packet s.mine.core s) (lost_past (numbered (packet ∷ [])) c.lost_mine) c.lost_theirs stream up in
    record { front = hears.front; none = hears.none }

pub unheard : (role : Role) (s : Sides) → Converse role s → s.mine.state ≡ Up → (s.theirs.state ≡ Up → ⊥) → heard s.mine.utterances ≡ []
unheard role s c up not = (hears_now role s c up).none not
