-- Byte strings one after another, and one more of them.
use Rattle.std.proofs.Common.{◌≡◌, ℕ, ◌+◌, ◌*◌, ◌-◌, ◌≤◌, ◌<◌, List, [], ◌∷◌, ◌++◌, length, take, drop, sym, ap, subst, ◌∙◌, arith}
use Rattle.std.proofs.lemmas.List.{take-append-le, drop-append-le, length-append, take_all, drop_all, map-append}
use Rattle.trimmed_arrays.specs.Strings.{AreStrings, strings_of}
use Rattle.trimmed_arrays.specs.Trimmed.{padded, untrimmed}

strings_more : (most : ℕ) (lengths bytes string : List ℕ) → AreStrings most lengths bytes → strings_of (lengths ++ length string ∷ []) (bytes ++ string) ≡ strings_of lengths bytes ++ string ∷ []
strings_more most [] bytes string are =
    ap (λ (b : List ℕ). strings_of (length string ∷ []) (b ++ string)) are
    ∙ ap (λ (s : List ℕ). s ∷ []) (take_all (length string) string (omega arith))
strings_more most (n ∷ lengths) bytes string are =
    ap (λ (s : List ℕ). s ∷ strings_of (lengths ++ length string ∷ []) (drop n (bytes ++ string))) (take-append-le n bytes string are.1)
    ∙ ap (λ (b : List ℕ). take n bytes ∷ strings_of (lengths ++ length string ∷ []) b) (drop-append-le n bytes string are.1)
    ∙ ap (λ (l : List (List ℕ)). take n bytes ∷ l) (strings_more most lengths (drop n bytes) string are.2)

are_more : (most : ℕ) (lengths bytes string : List ℕ) → AreStrings most lengths bytes → length string ≤ most → AreStrings most (lengths ++ length string ∷ []) (bytes ++ string)
are_more most [] bytes string are short =
    subst (λ (b : List ℕ). AreStrings most (length string ∷ []) (b ++ string)) (sym are) (short, omega arith, drop_all (length string) string (omega arith))
are_more most (n ∷ lengths) bytes string are short =
    let long : length (bytes ++ string) ≡ length bytes + length string = length-append bytes string in (
      are.0,
      omega (arith, are.1, long),
      subst (AreStrings most (lengths ++ length string ∷ [])) (sym (drop-append-le n bytes string are.1)) (are_more most lengths (drop n bytes) string are.2 short),
    )

-- the same for lists that became longer by a string
pub still_strings : {most : ℕ} (lengths bytes string new_lengths new_bytes : List ℕ) → new_lengths ≡ lengths ++ length string ∷ [] → new_bytes ≡ bytes ++ string → AreStrings most lengths bytes → length string ≤ most → AreStrings most new_lengths new_bytes
still_strings {most} lengths bytes string new_lengths new_bytes l b are short =
    subst (λ (x : List ℕ). AreStrings most x new_bytes) (sym l)
    (subst (λ (x : List ℕ). AreStrings most (lengths ++ length string ∷ []) x) (sym b) (are_more most lengths bytes string are short))

pub one_more : (most : ℕ) (lengths bytes string new_lengths new_bytes : List ℕ) → new_lengths ≡ lengths ++ length string ∷ [] → new_bytes ≡ bytes ++ string → AreStrings most lengths bytes → strings_of new_lengths new_bytes ≡ strings_of lengths bytes ++ string ∷ []
one_more most lengths bytes string new_lengths new_bytes l b are =
    ap (λ (x : List ℕ). strings_of x new_bytes) l
    ∙ ap (λ (x : List ℕ). strings_of (lengths ++ length string ∷ []) x) b
    ∙ strings_more most lengths bytes string are

-- what one more string leaves of the room
pub room_left : (most room kept string capacity : ℕ) → kept + most * room ≤ capacity → 0 < room → string ≤ most → kept + string + most * (room - 1) ≤ capacity
room_left most room kept string capacity fits some within =
    let one_less : room - 1 + 1 ≡ room = omega arith in
    let before : most * (room - 1 + 1) ≡ most * room = ap (λ (n : ℕ). most * n) one_less in
    omega arith

-- one more front is one more array
pub one_array : (size : ℕ) (fronts later : List (List ℕ)) (front array : List ℕ) → later ≡ fronts ++ front ∷ [] → padded size front ≡ array → untrimmed size later ≡ untrimmed size fronts ++ array ∷ []
one_array size fronts later front array is same =
    ap (untrimmed size) is
    ∙ map-append (padded size) fronts (front ∷ [])
    ∙ ap (λ (a : List ℕ). untrimmed size fronts ++ a ∷ []) same
