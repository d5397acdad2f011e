-- What is still to come while a line is read.
use Rattle.std.proofs.Common.{◌≡◌, ◌≢◌, inl, inr, ℕ, eqb, Bool, true, false, List, [], ◌∷◌, ◌++◌, length, Option, Some, None, Err, IfSome, refl, sym, ◌∙◌, ap, subst, append-nil, append_assoc}
use Rattle.std.proofs.Math.Dec.{eqb-suc-zero}
use Rattle.std.proofs.KnownBytes.{Keeps-trans}
use Rattle.std.specs.Io.KnownBytes.{Keeps, IsAtEnd, prepend_known}
use Rattle.script_reader.specs.declared.lines.LinesFault.{LinesFault}
use Rattle.script_reader.specs.declared.lines.LinesFault.TheVariants.{Source, Long, Many}
use Rattle.domain_script.specs.ScriptLines.{script_lines, TakesLine, BeginsWithLonger}
use Rattle.domain_script.specs.Pieces.{HasNoFeed, IsTooLong}
use Rattle.script_reader.specs.LinesState.{HasFeed}
use Rattle.script_reader.specs.Parts.{MovesPart, ReadsLine}
use Rattle.domain_script.proofs.ScriptLemmas.{lines_feed, lines_last, begins_longer}

-- a read after the bytes of a line
pub keeps_behind : (a b : Option (List ℕ)) (line old new : List ℕ) → Keeps (prepend_known old a) (prepend_known new b) → Keeps (prepend_known (line ++ old) a) (prepend_known (line ++ new) b)
keeps_behind None b line old new same = tt
keeps_behind (Some x) None line old new same = absurd same
keeps_behind (Some x) (Some y) line old new same =
    append_assoc line new y ∙ ap (λ (l : List ℕ). line ++ l) same ∙ sym (append_assoc line old x)

-- the same, after what is known so far
pub keeps_on : (rest a b : Option (List ℕ)) (line old new : List ℕ) → Keeps rest (prepend_known (line ++ old) a) → Keeps (prepend_known old a) (prepend_known new b) → Keeps rest (prepend_known (line ++ new) b)
keeps_on rest a b line old new told same = Keeps-trans rest (prepend_known (line ++ old) a) (prepend_known (line ++ new) b) told (keeps_behind a b line old new same)

-- the line before a line feed was taken
pub takes_line : (rest left : Option (List ℕ)) (line piece line_after piece_after : List ℕ) → Keeps rest (prepend_known (line ++ piece) left)
    → line ++ piece ≡ line_after ++ 10 ∷ piece_after → HasNoFeed line_after → TakesLine rest (prepend_known piece_after left) line_after
takes_line None left line piece line_after piece_after told is clean = tt
takes_line (Some bytes) None line piece line_after piece_after told is clean = absurd told
takes_line (Some bytes) (Some x) line piece line_after piece_after told is clean =
    let all : bytes ≡ line_after ++ 10 ∷ (piece_after ++ x) = sym told ∙ ap (λ (l : List ℕ). l ++ x) is ∙ append_assoc line_after (10 ∷ piece_after) x in (
      ap (λ (l : List ℕ). script_lines l) all ∙ lines_feed line_after (piece_after ++ x) clean,
      inl (all ∙ sym (append_assoc line_after (10 ∷ []) (piece_after ++ x))),
    )

-- and its line feed with it
pub has_feed : (rest left : Option (List ℕ)) (line piece line_after piece_after : List ℕ) → Keeps rest (prepend_known (line ++ piece) left)
    → line ++ piece ≡ line_after ++ 10 ∷ piece_after → HasFeed rest (prepend_known piece_after left) line_after
has_feed None left line piece line_after piece_after told is = tt
has_feed (Some bytes) None line piece line_after piece_after told is = absurd told
has_feed (Some bytes) (Some x) line piece line_after piece_after told is =
    sym told ∙ ap (λ (l : List ℕ). l ++ x) is ∙ append_assoc line_after (10 ∷ piece_after) x

-- a last line without a line feed was taken
pub takes_last : (rest left : Option (List ℕ)) (line piece : List ℕ) → Keeps rest (prepend_known (line ++ piece) left) → piece ≡ [] → IsAtEnd left
    → HasNoFeed line → line ≢ [] → TakesLine rest (prepend_known piece left) line
takes_last None left line piece told none end clean some = tt
takes_last (Some bytes) None line piece told none end clean some = absurd told
takes_last (Some bytes) (Some x) line piece told none end clean some =
    let all : bytes ≡ line = sym told ∙ ap (λ (l : List ℕ). (line ++ l) ++ x) none ∙ ap (λ (l : List ℕ). (line ++ []) ++ l) end ∙ append-nil (line ++ []) ∙ append-nil line in
    let behind : piece ++ x ≡ [] = ap (λ (l : List ℕ). l ++ x) none ∙ end in (
      ap (λ (l : List ℕ). script_lines l) all ∙ lines_last line clean some ∙ ap (λ (l : List ℕ). line ∷ script_lines l) (sym behind),
      inr (ap (λ (l : List ℕ). l ++ 10 ∷ []) all, behind),
    )

-- known bytes are those of a line behind which nothing is left
pub is_all : (rest left : Option (List ℕ)) (line piece : List ℕ) → Keeps rest (prepend_known (line ++ piece) left) → piece ≡ [] → IsAtEnd left
    → IfSome rest (λ bytes. bytes ≡ line) × IsAtEnd (prepend_known piece left)
is_all None None line piece told none end = (tt, tt)
is_all None (Some x) line piece told none end = (tt, ap (λ (l : List ℕ). l ++ x) none ∙ end)
is_all (Some bytes) None line piece told none end = absurd told
is_all (Some bytes) (Some x) line piece told none end = (
  sym told ∙ ap (λ (l : List ℕ). (line ++ l) ++ x) none ∙ ap (λ (l : List ℕ). (line ++ []) ++ l) end ∙ append-nil (line ++ []) ∙ append-nil line,
  ap (λ (l : List ℕ). l ++ x) none ∙ end,
)

-- nothing is to come
pub at_end : (rest left : Option (List ℕ)) (line piece : List ℕ) → Keeps rest (prepend_known (line ++ piece) left) → piece ≡ [] → IsAtEnd left → line ≡ [] → IsAtEnd rest
at_end None left line piece told none end empty = tt
at_end (Some bytes) None line piece told none end empty = absurd told
at_end (Some bytes) (Some x) line piece told none end empty =
    sym told ∙ ap (λ (l : List ℕ). (line ++ l) ++ x) none ∙ ap (λ (l : List ℕ). (l ++ []) ++ x) empty ∙ end

-- too many bytes without a line feed are to come
pub longer_to_come : (rest left : Option (List ℕ)) (bytes : List ℕ) → Keeps rest (prepend_known bytes left) → IsTooLong bytes → IfSome rest (BeginsWithLonger 3100)
longer_to_come None left bytes told long = tt
longer_to_come (Some all) None bytes told long = absurd told
longer_to_come (Some all) (Some x) bytes told long = begins_longer all (record {
  front = long.front;
  behind = long.behind ++ x;
  is = sym told ∙ ap (λ (l : List ℕ). l ++ x) long.is ∙ append_assoc long.front long.behind x;
  no_feed = long.no_feed;
  long = long.long;
})

-- a part was refused, so the line is
pub read_refused : (rest left : Option (List ℕ)) (line piece line_after piece_after : List ℕ) (fault : LinesFault) → Keeps rest (prepend_known (line ++ piece) left)
    → MovesPart piece line (Err fault) piece_after line_after → ReadsLine rest (Err fault) line_after piece_after left
read_refused rest left line piece line_after piece_after Long told moves = (
  subst (λ (l : List ℕ). Keeps rest (prepend_known l left)) (sym (ap (λ (l : List ℕ). l ++ piece_after) moves.1 ∙ ap (λ (l : List ℕ). line ++ l) moves.0)) told,
  longer_to_come rest left (line ++ piece) told moves.2,
)
read_refused rest left line piece line_after piece_after Source told moves = absurd moves
read_refused rest left line piece line_after piece_after Many told moves = absurd moves

-- a list is empty where a test for a byte says so
pub none_there : (xs : List ℕ) (more : Bool) → (xs ≢ [] → more ≡ true) → more ≡ false → xs ≡ []
none_there [] more tells is = refl
none_there (x ∷ xs) more tells is =
    let both : true ≡ false = sym (tells (λ e. cc)) ∙ is in cc

-- what the test for an empty line says
pub empty_tells : (line : List ℕ) (n : ℕ) (empty : Bool) → n ≡ length line → empty ≡ eqb n 0 → (empty ≡ true → line ≡ []) × (empty ≡ false → line ≢ [])
empty_tells [] n empty long is =
    let yes : empty ≡ true = is ∙ ap (λ (m : ℕ). eqb m 0) long in (λ _. refl, λ no. let both : true ≡ false = sym yes ∙ no in cc)
empty_tells (x ∷ xs) n empty long is =
    let no : empty ≡ false = is ∙ ap (λ (m : ℕ). eqb m 0) long ∙ eqb-suc-zero (length xs) in
    (λ yes. let both : false ≡ true = sym no ∙ yes in cc, λ _ e. cc)
