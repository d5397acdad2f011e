-- What one more message adds to the sums of ranges, and which messages name a range.
use Rattle.std.proofs.Common.{◌≡◌, ℕ, ◌+◌, ◌≤◌, Bool, true, false, Option, Some, None, List, [], ◌∷◌, ◌++◌, refl, arith}
use Rattle.std.specs.Prelude.{◌&&◌}
use Rattle.ldc_queue.specs.Fragments.{Fragment, fragment_at, is_part}
use Rattle.ldc_queue.specs.Transcript.{Heard as Heard_, Said, Utterance}
use Rattle.lane_models.specs.Sayings.{half_heard, half_said, heard, said, whole_by, whole_past}
use Rattle.lane_models.specs.Messages.{range_ended, range_in, whole_with}
use Rattle.lane_laws.specs.WorkLog.{length_in, one_in}
use Rattle.lane_laws.specs.Counted.{range_count, range_sum}

-- ONE MORE MESSAGE
pub sum_more : (slots subtype : ℕ) (messages : List (List ℕ)) (message : List ℕ)
    → range_sum slots subtype (messages ++ message ∷ []) ≡ range_sum slots subtype messages + length_in slots (range_in subtype (Some message))
sum_more slots subtype [] message = omega arith
sum_more slots subtype (one ∷ messages) message = omega (arith, sum_more slots subtype messages message)

pub count_more : (subtype : ℕ) (messages : List (List ℕ)) (message : List ℕ)
    → range_count subtype (messages ++ message ∷ []) ≡ range_count subtype messages + one_in (range_in subtype (Some message))
count_more subtype [] message = omega arith
count_more subtype (one ∷ messages) message = omega (arith, count_more subtype messages message)

-- more messages
pub sum_front : (slots subtype : ℕ) (messages rest : List (List ℕ)) → range_sum slots subtype messages ≤ range_sum slots subtype (messages ++ rest)
sum_front slots subtype [] rest = omega arith
sum_front slots subtype (one ∷ messages) rest = omega (arith, sum_front slots subtype messages rest)

-- ONE MORE PACKET adds what the range that it ends has
by_end : (f : Option (List ℕ) → ℕ) (sum : List (List ℕ) → ℕ) (subtype : ℕ) (is : Bool) (part : Fragment) (half : List ℕ) (messages : List (List ℕ)) → f None ≡ 0
    → ((more : List (List ℕ)) (message : List ℕ) → sum (more ++ message ∷ []) ≡ sum more + f (range_in subtype (Some message)))
    → sum (whole_past is part half messages) ≡ sum messages + f (range_in subtype (whole_with (is && part.stop) (half ++ part.bytes)))
by_end f sum subtype true part half messages none more = by_stop part.stop
  where
    by_stop : (stop : Bool) → sum (whole_by stop (half ++ part.bytes) messages) ≡ sum messages + f (range_in subtype (whole_with stop (half ++ part.bytes)))
    by_stop true = more messages (half ++ part.bytes)
    by_stop false = omega (arith, none)
by_end f sum subtype false part half messages none more = omega (arith, none)

pub sum_said : (slots subtype : ℕ) (packet : List ℕ) (turns : List Utterance)
    → range_sum slots subtype (said (Said packet ∷ turns)) ≡ range_sum slots subtype (said turns) + length_in slots (range_ended subtype (half_said turns) packet)
sum_said slots subtype packet turns =
    by_end (length_in slots) (range_sum slots subtype) subtype (is_part packet) (fragment_at packet) (half_said turns) (said turns) refl (sum_more slots subtype)

pub sum_heard : (slots subtype : ℕ) (packet : List ℕ) (turns : List Utterance)
    → range_sum slots subtype (heard (Heard_ packet ∷ turns)) ≡ range_sum slots subtype (heard turns) + length_in slots (range_ended subtype (half_heard turns) packet)
sum_heard slots subtype packet turns =
    by_end (length_in slots) (range_sum slots subtype) subtype (is_part packet) (fragment_at packet) (half_heard turns) (heard turns) refl (sum_more slots subtype)

pub count_said : (subtype : ℕ) (packet : List ℕ) (turns : List Utterance)
    → range_count subtype (said (Said packet ∷ turns)) ≡ range_count subtype (said turns) + one_in (range_ended subtype (half_said turns) packet)
count_said subtype packet turns =
    by_end one_in (range_count subtype) subtype (is_part packet) (fragment_at packet) (half_said turns) (said turns) refl (count_more subtype)

pub count_heard : (subtype : ℕ) (packet : List ℕ) (turns : List Utterance)
    → range_count subtype (heard (Heard_ packet ∷ turns)) ≡ range_count subtype (heard turns) + one_in (range_ended subtype (half_heard turns) packet)
count_heard subtype packet turns =
    by_end one_in (range_count subtype) subtype (is_part packet) (fragment_at packet) (half_heard turns) (heard turns) refl (count_more subtype)

-- each range has a slot, so that of more messages no more are ranges than the slots that they add
one_each : (slots : ℕ) (range : Option (List ℕ)) → one_in range ≤ length_in slots range
one_each slots None = omega arith
one_each slots (Some message) = omega arith

pub counts_fewer : (slots subtype : ℕ) (messages : List (List ℕ)) → range_count subtype messages ≤ range_sum slots subtype messages
counts_fewer slots subtype [] = omega arith
counts_fewer slots subtype (one ∷ messages) = omega (arith, counts_fewer slots subtype messages, one_each slots (range_in subtype (Some one)))

pub counts_front : (slots subtype : ℕ) (messages rest : List (List ℕ))
    → range_count subtype (messages ++ rest) + range_sum slots subtype messages ≤ range_sum slots subtype (messages ++ rest) + range_count subtype messages
counts_front slots subtype [] rest = omega (arith, counts_fewer slots subtype rest)
counts_front slots subtype (one ∷ messages) rest = omega (arith, counts_front slots subtype messages rest)
