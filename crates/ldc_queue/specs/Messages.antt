-- The messages that parts make: one is whole with the part that has STOP.
use Rattle.std.specs.Prelude.{◌≡◌, ℕ, ◌+◌, ◌≤◌, Bool, true, false, List, [], ◌∷◌, ◌++◌, length, ⊤}
use Rattle.ldc_queue.specs.Fragments.{AreParts, Fragment, FragmentsOf, fragments_in, joined}
use Rattle.ldc_queue.specs.Transcript.{Utterance, numbered_heard, numbered_said}

abbrev pub whole_with : Bool → List ℕ → List (List ℕ) → List (List ℕ)
whole_with true message messages = message ∷ messages
whole_with false message messages = messages

abbrev pub half_with : Bool → List ℕ → List ℕ
half_with true half = []
half_with false half = half

-- the messages that are whole, and what came of one more, where `half` came of a message before these parts
abbrev pub whole_in : List ℕ → List Fragment → List (List ℕ)
whole_in half [] = []
whole_in half (fragment ∷ fragments) =
    whole_with fragment.stop (half ++ fragment.bytes) (whole_in (half_with fragment.stop (half ++ fragment.bytes)) fragments)

abbrev pub half_in : List ℕ → List Fragment → List ℕ
half_in half [] = half
half_in half (fragment ∷ fragments) = half_in (half_with fragment.stop (half ++ fragment.bytes)) fragments

-- the messages that an end said and heard, and the bytes of a message whose last part hasn't come
abbrev pub messages_said : List Utterance → List (List ℕ)
messages_said utterances = whole_in [] (fragments_in (numbered_said utterances))

abbrev pub messages_heard : List Utterance → List (List ℕ)
messages_heard utterances = whole_in [] (fragments_in (numbered_heard utterances))

abbrev pub unfinished_said : List Utterance → List ℕ
unfinished_said utterances = half_in [] (fragments_in (numbered_said utterances))

abbrev pub unfinished_heard : List Utterance → List ℕ
unfinished_heard utterances = half_in [] (fragments_in (numbered_heard utterances))

abbrev pub is_empty : List ℕ → Bool
is_empty [] = true
is_empty (byte ∷ bytes) = false

-- each part may come where so much of a message has come: 1 to 56 bytes, START exactly where nothing has, no message above 256 bytes
abbrev pub MayCome : List ℕ → Fragment → Type 0
MayCome half fragment =
    (fragment.start ≡ is_empty half) × (length half + length fragment.bytes ≤ 256)
    × (1 ≤ length fragment.bytes) × (length fragment.bytes ≤ 56)

abbrev pub AllMayCome : List ℕ → List Fragment → Type 0
AllMayCome half [] = ⊤
AllMayCome half (fragment ∷ fragments) =
    MayCome half fragment × AllMayCome (half_with fragment.stop (half ++ fragment.bytes)) fragments

-- the first parts of a message, without its last
abbrev pub AreFrontFlagged : Bool → List Fragment → Type 0
AreFrontFlagged first [] = ⊤
AreFrontFlagged first (fragment ∷ fragments) = (fragment.start ≡ first) × (fragment.stop ≡ false) × AreFrontFlagged false fragments

pub record FrontOf (half : List ℕ) (fragments : List Fragment) : Type 0 where
  pub most : length half ≤ 256
  pub bytes : half ≡ joined fragments
  pub parts : AreParts fragments
  pub flags : AreFrontFlagged true fragments

-- the parts are those of the messages, one message after the other, and the first ones of a further message
abbrev pub AreCutFrom : List Fragment → List (List ℕ) → List ℕ → Type 0
AreCutFrom fragments [] half = FrontOf half fragments
AreCutFrom fragments (message ∷ messages) half =
    (own : List Fragment) × (others : List Fragment) × (fragments ≡ own ++ others)
    × FragmentsOf message own × AreCutFrom others messages half
