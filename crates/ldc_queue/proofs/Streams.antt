-- Each queue event keeps each direction one stream.
use Rattle.std.proofs.Common.{◌≡◌, ℕ, ◌+◌, ◌<◌, ◌%◌, Bool, true, false, List, [], ◌∷◌, ◌++◌, length, drop, refl, sym, ap, ◌∙◌, subst, append_assoc, append-nil, arith, length-append}
use Rattle.ldc_packet.specs.Spelling.{seqid_at}
use Rattle.ldc_queue.specs.declared.end.ChannelState.{ChannelState}
use Rattle.ldc_queue.specs.declared.end.ChannelState.TheVariants.{Down, Up, Resetting}
use Rattle.ldc_queue.specs.declared.end.End.{End}
use Rattle.ldc_queue.specs.declared.end.End.TheVariants.{A, B}
use Rattle.ldc_queue.specs.Numbered.{CountUp, is_numbered, kept, numbered}
use Rattle.ldc_queue.specs.OneStream.{IsFront, OneStream, OneWay, live}
use Rattle.ldc_queue.specs.QueueEvent.{Close, Forge, Join, Lose, Put, QueueEvent, Take}
use Rattle.ldc_queue.specs.QueueLog.{AllMayStand, WaitsLongest, MayStand, QueueLog, after, log_of, lost_behind, lost_past, nothing_yet, transcript_of}
use Rattle.ldc_queue.specs.Transcript.{numbered_heard, numbered_said}
use Rattle.ldc_queue.specs.Wire.{peer_behind, peer_of, queue_behind, state_of, upset}

-- the numbers of two places less than 2^32 apart differ
pub one_turn : (place gone : ℕ) → gone < 4294967296 → (place + gone + 1) % 4294967296 ≡ (place + 1) % 4294967296 → gone ≡ 0
one_turn place gone few same = omega (arith, few, same)

-- the numbered packets of lists, one after the other
kept-append : (b : Bool) (packet : List ℕ) (xs ys : List (List ℕ)) → kept b packet (xs ++ ys) ≡ kept b packet xs ++ ys
kept-append true packet xs ys = refl
kept-append false packet xs ys = refl

pub numbered-append : (xs ys : List (List ℕ)) → numbered (xs ++ ys) ≡ numbered xs ++ numbered ys
numbered-append [] ys = refl
numbered-append (packet ∷ xs) ys =
    ap (kept (is_numbered packet) packet) (numbered-append xs ys) ∙ kept-append (is_numbered packet) packet (numbered xs) (numbered ys)

pub numbered-cons : (packet : List ℕ) (packets : List (List ℕ)) → numbered (packet ∷ packets) ≡ numbered (packet ∷ []) ++ numbered packets
numbered-cons packet packets = numbered-append (packet ∷ []) packets

-- numbers that count up, in two parts
pub count_up_both : (n m : ℕ) (xs ys : List (List ℕ)) → m ≡ n + length xs → CountUp n xs → CountUp m ys → CountUp n (xs ++ ys)
count_up_both n m [] ys is first second = subst (λ (k : ℕ). CountUp k ys) (is ∙ omega arith) second
count_up_both n m (x ∷ xs) ys is first second = (first.0, count_up_both (n + 1) m xs ys (omega arith) first.1 second)

pub count_up_later : (n m : ℕ) (xs ys : List (List ℕ)) → m ≡ n + length xs → CountUp n (xs ++ ys) → CountUp m ys
count_up_later n m [] ys is all = subst (λ (k : ℕ). CountUp k ys) (sym (is ∙ omega arith)) all
count_up_later n m (x ∷ xs) ys is all = count_up_later (n + 1) m xs ys (omega arith) all.1

-- nothing is one stream
pub way_begins : (lost : ℕ) → OneWay [] [] [] lost
way_begins lost = record { gone = []; is = refl; few = omega arith; numbers = tt }

-- more is said
pub way_put : (said heard waiting more : List (List ℕ)) (lost : ℕ) → OneWay said heard waiting lost → CountUp (length said + 1) more
    → OneWay (said ++ more) heard (waiting ++ more) lost
way_put said heard waiting more lost way counts = record {
  gone = way.gone;
  is = ap (λ (xs : List (List ℕ)). xs ++ more) way.is ∙ append_assoc heard (way.gone ++ waiting) more
      ∙ ap (λ (xs : List (List ℕ)). heard ++ xs) (append_assoc way.gone waiting more);
  few = way.few;
  numbers = count_up_both 1 (length said + 1) said more (omega arith) way.numbers counts;
}

-- the first that waits are lost
pub way_lost : (said heard first waiting : List (List ℕ)) (lost : ℕ) → OneWay said heard (first ++ waiting) lost
    → OneWay said heard waiting (lost + length first)
way_lost said heard first waiting lost way = record {
  gone = way.gone ++ first;
  is = way.is ∙ ap (λ (xs : List (List ℕ)). heard ++ xs) (sym (append_assoc way.gone first waiting));
  few = omega (arith, way.few, length-append way.gone first);
  numbers = way.numbers;
}

-- with the number that is next, the first that waits is what was said next
way_took_one : (said heard waiting gone : List (List ℕ)) (packet : List ℕ) → said ≡ heard ++ (gone ++ (packet ∷ waiting)) → CountUp 1 said
    → length gone < 4294967296 → seqid_at packet ≡ (length heard + 1) % 4294967296 → OneWay said (heard ++ packet ∷ []) waiting 0
way_took_one said heard waiting [] packet is numbers few next = record {
  gone = [];
  is = is ∙ sym (append_assoc heard (packet ∷ []) waiting);
  few = omega arith;
  numbers = numbers;
}
way_took_one said heard waiting (lost ∷ gone) packet is numbers few next =
    let all : CountUp 1 (heard ++ ((lost ∷ gone) ++ (packet ∷ waiting))) = subst (λ (xs : List (List ℕ)). CountUp 1 xs) is numbers in
    let later = count_up_later 1 (length heard + 1) heard ((lost ∷ gone) ++ (packet ∷ waiting)) (omega arith) all in
    let here = count_up_later (length heard + 1) (length heard + length (lost ∷ gone) + 1) (lost ∷ gone) (packet ∷ waiting) (omega arith) later in
    absurd (omega (arith, one_turn (length heard) (length (lost ∷ gone)) few (sym here.0 ∙ next)))

-- the first that waits is heard
pub way_took : (said heard waiting : List (List ℕ)) (packet : List ℕ) (lost : ℕ) → OneWay said heard (numbered (packet ∷ waiting)) lost
    → CountUp (length heard + 1) (numbered (packet ∷ [])) → (is_numbered packet ≡ true → lost < 4294967296)
    → OneWay said (heard ++ numbered (packet ∷ [])) (numbered waiting) (lost_past (numbered (packet ∷ [])) lost)
way_took said heard waiting packet lost = took (is_numbered packet)
  where
    took : (b : Bool) → OneWay said heard (kept b packet (numbered waiting)) lost → CountUp (length heard + 1) (kept b packet [])
        → (b ≡ true → lost < 4294967296) → OneWay said (heard ++ kept b packet []) (numbered waiting) (lost_past (kept b packet []) lost)
    took true way next few = way_took_one said heard (numbered waiting) way.gone packet way.is way.numbers (omega (arith, way.few, few refl)) next.0
    took false way next few = subst (λ (xs : List (List ℕ)). OneWay said xs (numbered waiting) lost) (sym (append-nil heard)) way

-- an end is configured: what its peer said to it, and what it said
joined_hears : (e peer : ChannelState) (said heard waiting : List (List ℕ)) (lost : ℕ) → OneWay (live peer said) (live e heard) (numbered waiting) lost
    → OneWay (live (peer_behind e peer) said) [] (numbered (queue_behind e waiting)) (lost_behind e lost)
joined_hears Up Up said heard waiting lost way = way_begins 0
joined_hears Up Down said heard waiting lost way = way_begins 0
joined_hears Up Resetting said heard waiting lost way = way_begins 0
joined_hears Down peer said heard waiting lost way = way
joined_hears Resetting peer said heard waiting lost way = way

joined_says : (e peer : ChannelState) (said heard waiting : List (List ℕ)) (lost : ℕ) → OneWay (live e said) (live peer heard) (numbered waiting) lost
    → OneWay [] (live (peer_behind e peer) heard) (numbered (queue_behind e waiting)) (lost_behind e lost)
joined_says Up Up said heard waiting lost way = way_begins 0
joined_says Up Down said heard waiting lost way = way_begins 0
joined_says Up Resetting said heard waiting lost way = way_begins 0
joined_says Down peer said heard waiting lost way = way
joined_says Resetting peer said heard waiting lost way = way

-- nothing is live at an end whose queues the other emptied
live_upset : (s : ChannelState) (packets : List (List ℕ)) → live (upset s) packets ≡ []
live_upset Up packets = refl
live_upset Down packets = refl
live_upset Resetting packets = refl

closed_hears : (peer : ChannelState) (said : List (List ℕ)) → OneWay (live (upset peer) said) [] [] 0
closed_hears peer said = subst (λ (xs : List (List ℕ)). OneWay xs [] [] 0) (sym (live_upset peer said)) (way_begins 0)

closed_says : (peer : ChannelState) (heard : List (List ℕ)) → OneWay [] (live (upset peer) heard) [] 0
closed_says peer heard = subst (λ (xs : List (List ℕ)). OneWay [] xs [] 0) (sym (live_upset peer heard)) (way_begins 0)

-- an end that is up says, hears, or one that waits is lost
says : (e : ChannelState) (said heard waiting : List (List ℕ)) (packet : List ℕ) (lost : ℕ) → e ≡ Up → OneWay (live e said) heard (numbered waiting) lost
    → CountUp (length said + 1) (numbered (packet ∷ [])) → OneWay (live e (said ++ numbered (packet ∷ []))) heard (numbered (waiting ++ packet ∷ [])) lost
says Up said heard waiting packet lost up way counts =
    subst (λ (xs : List (List ℕ)). OneWay (said ++ numbered (packet ∷ [])) heard xs lost) (sym (numbered-append waiting (packet ∷ [])))
    (way_put said heard (numbered waiting) (numbered (packet ∷ [])) lost way counts)
says Down said heard waiting packet lost up way counts = absurd (cc)
says Resetting said heard waiting packet lost up way counts = absurd (cc)

hears : (e : ChannelState) (said heard waiting : List (List ℕ)) (packet : List ℕ) (lost : ℕ) → e ≡ Up → WaitsLongest packet waiting
    → OneWay said (live e heard) (numbered waiting) lost → CountUp (length heard + 1) (numbered (packet ∷ [])) → (is_numbered packet ≡ true → lost < 4294967296)
    → OneWay said (live e (heard ++ numbered (packet ∷ []))) (numbered (drop 1 waiting)) (lost_past (numbered (packet ∷ [])) lost)
hears Up said heard waiting packet lost up first way next few =
    way_took said heard (drop 1 waiting) packet lost (subst (λ (xs : List (List ℕ)). OneWay said heard (numbered xs) lost) first way) next few
hears Down said heard waiting packet lost up first way next few = absurd (cc)
hears Resetting said heard waiting packet lost up first way next few = absurd (cc)

loses : (said heard waiting : List (List ℕ)) (packet : List ℕ) (lost : ℕ) → WaitsLongest packet waiting → OneWay said heard (numbered waiting) lost
    → OneWay said heard (numbered (drop 1 waiting)) (lost + length (numbered (packet ∷ [])))
loses said heard waiting packet lost first way =
    way_lost said heard (numbered (packet ∷ [])) (numbered (drop 1 waiting)) lost
    (subst (λ (xs : List (List ℕ)). OneWay said heard xs lost) (ap numbered first ∙ numbered-cons packet (drop 1 waiting)) way)

-- each event that may stand keeps both directions
pub stream_step : (l : QueueLog) (event : QueueEvent) → MayStand l event → OneStream l → OneStream (after l event)
stream_step l (Join A) may s = record {
  to_a = joined_hears l.wire.end_a l.wire.end_b (numbered_said l.transcript_b) (numbered_heard l.transcript_a) l.wire.to_a l.lost_a s.to_a;
  to_b = joined_says l.wire.end_a l.wire.end_b (numbered_said l.transcript_a) (numbered_heard l.transcript_b) l.wire.to_b l.lost_b s.to_b;
}
stream_step l (Join B) may s = record {
  to_a = joined_says l.wire.end_b l.wire.end_a (numbered_said l.transcript_b) (numbered_heard l.transcript_a) l.wire.to_a l.lost_a s.to_a;
  to_b = joined_hears l.wire.end_b l.wire.end_a (numbered_said l.transcript_a) (numbered_heard l.transcript_b) l.wire.to_b l.lost_b s.to_b;
}
stream_step l (Close A) may s = record {
  to_a = closed_hears l.wire.end_b (numbered_said l.transcript_b);
  to_b = closed_says l.wire.end_b (numbered_heard l.transcript_b);
}
stream_step l (Close B) may s = record {
  to_a = closed_says l.wire.end_a (numbered_heard l.transcript_a);
  to_b = closed_hears l.wire.end_a (numbered_said l.transcript_a);
}
stream_step l (Put A packet) may s = record {
  to_a = s.to_a;
  to_b = says l.wire.end_a (numbered_said l.transcript_a) _ l.wire.to_b packet l.lost_b may.0 s.to_b may.1;
}
stream_step l (Put B packet) may s = record {
  to_a = says l.wire.end_b (numbered_said l.transcript_b) _ l.wire.to_a packet l.lost_a may.0 s.to_a may.1;
  to_b = s.to_b;
}
stream_step l (Take A packet) may s = record {
  to_a = hears l.wire.end_a _ (numbered_heard l.transcript_a) l.wire.to_a packet l.lost_a may.0 may.1 s.to_a may.2 may.3;
  to_b = s.to_b;
}
stream_step l (Take B packet) may s = record {
  to_a = s.to_a;
  to_b = hears l.wire.end_b _ (numbered_heard l.transcript_b) l.wire.to_b packet l.lost_b may.0 may.1 s.to_b may.2 may.3;
}
stream_step l (Lose A packet) may s = record { to_a = loses _ _ l.wire.to_a packet l.lost_a may s.to_a; to_b = s.to_b }
stream_step l (Lose B packet) may s = record { to_a = s.to_a; to_b = loses _ _ l.wire.to_b packet l.lost_b may s.to_b }
stream_step l (Forge e packet) may s = absurd may

pub stream_begins : OneStream nothing_yet
stream_begins = record { to_a = way_begins 0; to_b = way_begins 0 }

pub stream_run : (l : QueueLog) (events : List QueueEvent) → AllMayStand l events → OneStream l → OneStream (log_of l events)
stream_run l [] all s = s
stream_run l (event ∷ events) all s = stream_run (after l event) events all.1 (stream_step l event all.0 s)

-- the front of nothing
no_front : (xs ys : List (List ℕ)) → [] ≡ xs ++ ys → [] ≡ xs
no_front [] ys is = refl
no_front (x ∷ xs) ys is = absurd (cc)

-- what an end that is up has heard is a front of what the other end said
way_front : (e peer : ChannelState) (said heard waiting : List (List ℕ)) (lost : ℕ) → e ≡ Up → OneWay (live peer said) (live e heard) waiting lost
    → IsFront heard said
way_front Up Up said heard waiting lost up way = (way.gone ++ waiting, way.is)
way_front Up Down said heard waiting lost up way = (said, ap (λ (xs : List (List ℕ)). xs ++ said) (no_front heard (way.gone ++ waiting) way.is))
way_front Up Resetting said heard waiting lost up way = (said, ap (λ (xs : List (List ℕ)). xs ++ said) (no_front heard (way.gone ++ waiting) way.is))
way_front Down peer said heard waiting lost up way = absurd (cc)
way_front Resetting peer said heard waiting lost up way = absurd (cc)

pub heard_front : (l : QueueLog) (e : End) → OneStream l → state_of e l.wire ≡ Up
    → IsFront (numbered_heard (transcript_of e l)) (numbered_said (transcript_of (peer_of e) l))
heard_front l A s up = way_front l.wire.end_a l.wire.end_b (numbered_said l.transcript_b) (numbered_heard l.transcript_a) (numbered l.wire.to_a) l.lost_a up s.to_a
heard_front l B s up = way_front l.wire.end_b l.wire.end_a (numbered_said l.transcript_a) (numbered_heard l.transcript_b) (numbered l.wire.to_b) l.lost_b up s.to_b
