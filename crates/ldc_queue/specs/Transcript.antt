-- What an end said and heard since it was last configured.
use Rattle.std.specs.Prelude.{ℕ, List, [], ◌∷◌, ◌++◌}
use Rattle.ldc_queue.specs.Numbered.{numbered}

-- a packet that the end put, or one that it took
pub data Utterance : Type 0 where
  Said : List ℕ → Utterance
  Heard : List ℕ → Utterance

-- the numbered packets that it put, and those that it took, oldest first; the utterances stand newest first
abbrev pub numbered_said : List Utterance → List (List ℕ)
numbered_said [] = []
numbered_said (Said packet ∷ rest) = numbered_said rest ++ numbered (packet ∷ [])
numbered_said (Heard packet ∷ rest) = numbered_said rest

abbrev pub numbered_heard : List Utterance → List (List ℕ)
numbered_heard [] = []
numbered_heard (Said packet ∷ rest) = numbered_heard rest
numbered_heard (Heard packet ∷ rest) = numbered_heard rest ++ numbered (packet ∷ [])
