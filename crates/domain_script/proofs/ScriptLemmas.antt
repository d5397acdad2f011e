-- Lines of lists of bytes that have no line feed.
use Rattle.std.proofs.Common.{◌≡◌, ◌≢◌, inl, inr, ℕ, ◌+◌, ◌≤◌, Bool, false, eqb, cond, List, [], ◌∷◌, ◌++◌, length, append_assoc, Option, Some, None, refl, sym, ◌∙◌, ap, arith, ⊎_elim}
use Rattle.std.proofs.lemmas.Bool.Decides.{eqb_tells}
use Rattle.std.proofs.lemmas.List.{append-nil, length-append}
use Rattle.domain_script.specs.ScriptLines.{script_lines, with_front, fed, AreBytesOf, AreShort, BeginsWithLonger, LinesTaken, TakesLine, TakesLines}
use Rattle.script_words.specs.Pieces.{HasNoFeed, IsTooLong}

not_feed : (b : ℕ) → b ≢ 10 → eqb b 10 ≡ false
not_feed b other = ⊎_elim (λ is. absurd (other is.1)) (λ is. is.0) (eqb_tells b 10)

-- a byte that is no line feed stands in front of the first line
pub lines_cons : (b : ℕ) (bs : List ℕ) → b ≢ 10 → script_lines (b ∷ bs) ≡ with_front b (script_lines bs)
lines_cons b bs other = ap (λ (t : Bool). cond t ([] ∷ script_lines bs) (with_front b (script_lines bs))) (not_feed b other)

-- the line before the first line feed
pub lines_feed : (xs ys : List ℕ) → HasNoFeed xs → script_lines (xs ++ 10 ∷ ys) ≡ xs ∷ script_lines ys
lines_feed [] ys clean = refl
lines_feed (x ∷ xs) ys clean = lines_cons x (xs ++ 10 ∷ ys) clean.0 ∙ ap (λ (ls : List (List ℕ)). with_front x ls) (lines_feed xs ys clean.1)

-- a last line without a line feed
pub lines_last : (xs : List ℕ) → HasNoFeed xs → xs ≢ [] → script_lines xs ≡ xs ∷ []
lines_last [] clean some = absurd (some refl)
lines_last (x ∷ []) clean some = lines_cons x [] clean.0
lines_last (x ∷ y ∷ ys) clean some =
    lines_cons x (y ∷ ys) clean.0 ∙ ap (λ (ls : List (List ℕ)). with_front x ls) (lines_last (y ∷ ys) clean.1 (λ is. cc))

-- the first line begins with what has no line feed
pub record FirstLine (xs ys : List ℕ) : Type 0 where
  pub more : List ℕ
  pub others : List (List ℕ)
  pub is : script_lines (xs ++ ys) ≡ (xs ++ more) ∷ others

first_of : (x : ℕ) (xs ys : List ℕ) (ls : List (List ℕ)) → x ≢ 10 → HasNoFeed xs → script_lines ys ≡ ls → FirstLine (x ∷ xs) ys
first_of x [] ys [] other clean is = record {
  more = [];
  others = [];
  is = lines_cons x ys other ∙ ap (λ (l : List (List ℕ)). with_front x l) is;
}
first_of x [] ys (l ∷ ls) other clean is = record {
  more = l;
  others = ls;
  is = lines_cons x ys other ∙ ap (λ (m : List (List ℕ)). with_front x m) is;
}
first_of x (y ∷ rest) ys ls other clean is =
    let inner : FirstLine (y ∷ rest) ys = first_of y rest ys ls clean.0 clean.1 is in record {
      more = inner.more;
      others = inner.others;
      is = lines_cons x (y ∷ rest ++ ys) other ∙ ap (λ (m : List (List ℕ)). with_front x m) inner.is;
    }

pub first_line : (xs ys : List ℕ) → HasNoFeed xs → xs ≢ [] → FirstLine xs ys
first_line [] ys clean some = absurd (some refl)
first_line (x ∷ xs) ys clean some = first_of x xs ys (script_lines ys) clean.0 clean.1 refl

-- the first line is too long where so many bytes come before any line feed
pub begins_longer : (bytes : List ℕ) → IsTooLong bytes → BeginsWithLonger 3100 bytes
begins_longer bytes long =
    let some : long.front ≢ [] = λ is. let e : length long.front ≡ 0 = ap (λ (l : List ℕ). length l) is in omega (arith, e, long.long) in
    let first : FirstLine long.front long.behind = first_line long.front long.behind long.no_feed some in record {
      line = long.front ++ first.more;
      others = first.others;
      is = ap (λ (l : List ℕ). script_lines l) long.is ∙ first.is;
      long = omega (arith, long.long, length-append long.front first.more);
    }

-- no line was taken yet
pub takes_none : (start : Option (List ℕ)) → TakesLines start start []
takes_none None = tt
takes_none (Some bytes) = (refl, inl refl)

pub fed-append : (xs ys : List (List ℕ)) → fed (xs ++ ys) ≡ fed xs ++ fed ys
fed-append [] ys = refl
fed-append (x ∷ xs) ys = ap (λ (l : List ℕ). x ++ 10 ∷ l) (fed-append xs ys) ∙ sym (append_assoc x (10 ∷ fed xs) (fed ys))

-- after a last line there is none
last_bytes : (bytes rest left : List ℕ) (xs ys : List (List ℕ)) → bytes ++ 10 ∷ [] ≡ fed xs → rest ≡ [] → script_lines rest ≡ ys ++ script_lines left → AreBytesOf ys left rest → AreBytesOf (xs ++ ys) left bytes
last_bytes bytes rest left xs [] all none lines (inl is) = inr (all ∙ ap (λ (l : List (List ℕ)). fed l) (sym (append-nil xs)), sym is ∙ none)
last_bytes bytes rest left xs [] all none lines (inr is) = absurd (omega (arith, length-append rest (10 ∷ []), ap (λ (l : List ℕ). length l) is.0))
last_bytes bytes rest left xs (y ∷ ys) all none lines is =
    absurd (omega (arith, ap (λ (l : List (List ℕ)). length l) (ap (λ (l : List ℕ). script_lines l) (sym none) ∙ lines)))

bytes-append : (bytes rest left : List ℕ) (xs ys : List (List ℕ)) → script_lines rest ≡ ys ++ script_lines left → AreBytesOf xs rest bytes → AreBytesOf ys left rest → AreBytesOf (xs ++ ys) left bytes
bytes-append bytes rest left xs ys lines (inl first) (inl second) =
    inl (first ∙ ap (λ (l : List ℕ). fed xs ++ l) second ∙ sym (append_assoc (fed xs) (fed ys) left) ∙ ap (λ (l : List ℕ). l ++ left) (sym (fed-append xs ys)))
bytes-append bytes rest left xs ys lines (inl first) (inr second) =
    inr (ap (λ (l : List ℕ). l ++ 10 ∷ []) first ∙ append_assoc (fed xs) rest (10 ∷ []) ∙ ap (λ (l : List ℕ). fed xs ++ l) second.0 ∙ sym (fed-append xs ys), second.1)
bytes-append bytes rest left xs ys lines (inr first) second = last_bytes bytes rest left xs ys first.0 first.1 lines second

-- lines were taken, and then others
pub takes-append : (start mid left : Option (List ℕ)) (xs ys : List (List ℕ)) → TakesLines start mid xs → TakesLines mid left ys → TakesLines start left (xs ++ ys)
takes-append None mid left xs ys first second = tt
takes-append (Some bytes) None left xs ys first second = absurd first
takes-append (Some bytes) (Some rest) None xs ys first second = absurd second
takes-append (Some bytes) (Some rest) (Some left) xs ys first second = (
  first.0 ∙ ap (λ (l : List (List ℕ)). xs ++ l) second.0 ∙ sym (append_assoc xs ys (script_lines left)),
  bytes-append bytes rest left xs ys second.0 first.1 second.1,
)

pub short-append : (xs ys : List (List ℕ)) → AreShort xs → AreShort ys → AreShort (xs ++ ys)
short-append [] ys first second = second
short-append (x ∷ xs) ys first second = (first.0, short-append xs ys first.1 second)

pub taken_none : (start : Option (List ℕ)) → LinesTaken start start []
taken_none start = record { taken = takes_none start; short = tt; few = omega arith }

-- lines were taken within the limits, and then others
pub taken-append : (start mid left : Option (List ℕ)) (xs ys : List (List ℕ)) → LinesTaken start mid xs → LinesTaken mid left ys → length xs + length ys ≤ 20000 → LinesTaken start left (xs ++ ys)
taken-append start mid left xs ys first second few = record {
  taken = takes-append start mid left xs ys first.taken second.taken;
  short = short-append xs ys first.short second.short;
  few = omega (arith, few, length-append xs ys);
}

-- one line more was taken
pub taken_more : (start rest left : Option (List ℕ)) (texts : List (List ℕ)) (text : List ℕ) → LinesTaken start rest texts → TakesLine rest left text → length text ≤ 3100 → length texts + 1 ≤ 20000 → LinesTaken start left (texts ++ text ∷ [])
taken_more start rest left texts text before next short few =
    taken-append start rest left texts (text ∷ []) before (record { taken = next; short = (short, tt); few = omega arith }) few
