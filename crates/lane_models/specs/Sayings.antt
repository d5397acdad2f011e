-- What a transcript comes to, counted from its utterances: numbered packets, whole messages, and the bytes of a message whose last part hasn't
-- come. The newest stands first, so that one more is one more step of each count.
use Rattle.std.specs.Prelude.{ℕ, Bool, true, false, List, [], ◌∷◌, ◌++◌}
use Rattle.ldc_queue.specs.Fragments.{Fragment, fragment_at, is_part}
use Rattle.ldc_queue.specs.Messages.{half_with}
use Rattle.ldc_queue.specs.Numbered.{is_numbered}
use Rattle.ldc_queue.specs.Transcript.{Heard, Said, Utterance}
use Rattle.lane_models.specs.TranscriptLog.{more_if}

-- how many packets with numbers of their own, RDX and parts of messages, the end put, and how many it took
abbrev pub count_said : List Utterance → ℕ
count_said [] = 0
count_said (Said packet ∷ utterances) = more_if (is_numbered packet) (count_said utterances)
count_said (Heard packet ∷ utterances) = count_said utterances

abbrev pub count_heard : List Utterance → ℕ
count_heard [] = 0
count_heard (Said packet ∷ utterances) = count_heard utterances
count_heard (Heard packet ∷ utterances) = more_if (is_numbered packet) (count_heard utterances)

-- what has come of a message after one more packet, where this had come before
abbrev pub half_past : Bool → Fragment → List ℕ → List ℕ
half_past true part half = half_with part.stop (half ++ part.bytes)
half_past false part half = half

abbrev pub half_said : List Utterance → List ℕ
half_said [] = []
half_said (Said packet ∷ utterances) = half_past (is_part packet) (fragment_at packet) (half_said utterances)
half_said (Heard packet ∷ utterances) = half_said utterances

abbrev pub half_heard : List Utterance → List ℕ
half_heard [] = []
half_heard (Said packet ∷ utterances) = half_heard utterances
half_heard (Heard packet ∷ utterances) = half_past (is_part packet) (fragment_at packet) (half_heard utterances)

-- the messages after one more packet, where these were whole before and this had come of the next
abbrev pub whole_by : Bool → List ℕ → List (List ℕ) → List (List ℕ)
whole_by true message messages = messages ++ message ∷ []
whole_by false message messages = messages

abbrev pub whole_past : Bool → Fragment → List ℕ → List (List ℕ) → List (List ℕ)
whole_past true part half messages = whole_by part.stop (half ++ part.bytes) messages
whole_past false part half messages = messages

-- the whole messages that the end said, and those that it heard, oldest first
abbrev pub said : List Utterance → List (List ℕ)
said [] = []
said (Said packet ∷ utterances) = whole_past (is_part packet) (fragment_at packet) (half_said utterances) (said utterances)
said (Heard packet ∷ utterances) = said utterances

abbrev pub heard : List Utterance → List (List ℕ)
heard [] = []
heard (Said packet ∷ utterances) = heard utterances
heard (Heard packet ∷ utterances) = whole_past (is_part packet) (fragment_at packet) (half_heard utterances) (heard utterances)
