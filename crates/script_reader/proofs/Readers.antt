-- What a reader of lines holds, seen from its fields.
use Rattle.std.proofs.Common.{◌≡◌, ◌≢◌, ◌≤◌, ◌+◌, ◌⊎◌, inl, inr, Ok, ℕ, Bool, length, length-append, arith, true, false, cond, List, [], ◌∷◌, ◌++◌, Option, Some, None, IfSome, refl, sym, ap, ◌∙◌, subst}
use Rattle.std.proofs.KnownBytes.{Keeps-refl}
use Rattle.std.specs.Io.KnownBytes.{Keeps, IsAtEnd, prepend_known}
use Rattle.script_reader.specs.declared.lines.Lines.TheInside.{Inside}
use Rattle.script_reader.specs.declared.lines.LinesStop.{LinesStop}
use Rattle.script_reader.specs.declared.lines.LinesStop.TheVariants.{Ended, TooLong, TooMany}
use Rattle.script_reader.specs.LinesState.{LinesState, to_come, GivesNone, GoesFrom, GoesOn, HoldsFew, ReaderAnswers}
use Rattle.script_reader.specs.Reader.{IsReader, reader_state}

held_by : (given : Bool) (line piece : List ℕ) → (cond given line []) ≡ [] → line ++ piece ≡ (cond given [] line) ++ piece
held_by true line piece forgotten = ap (λ (l : List ℕ). l ++ piece) forgotten
held_by false line piece forgotten = refl

-- a reader that gives no line holds its line and its piece
pub is_held : (reader : Inside) (s : LinesState) → reader_state reader ≡ s → s.line ≡ [] → reader.line.items ++ reader.piece ≡ s.held
is_held reader s is forgotten =
    held_by reader.given reader.line.items reader.piece (ap (λ (t : LinesState). t.line) is ∙ forgotten) ∙ ap (λ (t : LinesState). t.held) is

pub is_to_come : (reader : Inside) (s : LinesState) (left : Option (List ℕ)) → reader_state reader ≡ s → s.line ≡ [] → prepend_known (reader.line.items ++ reader.piece) left ≡ to_come s left
is_to_come reader s left is forgotten = ap (λ (l : List ℕ). prepend_known l left) (is_held reader s is forgotten)

no_line_by : (given : Bool) (line : List ℕ) → (cond given line []) ≡ [] → (given ≡ false → line ≡ []) → line ≡ []
no_line_by true line forgotten full = forgotten
no_line_by false line forgotten full = full refl

-- no line is begun after the last that there may be
pub no_line : (reader : Inside) (s : LinesState) → reader_state reader ≡ s → s.line ≡ [] → (reader.given ≡ false → reader.line.items ≡ []) → reader.line.items ≡ []
no_line reader s is forgotten full = no_line_by reader.given reader.line.items (ap (λ (t : LinesState). t.line) is ∙ forgotten) full

-- bytes that are there are to come
pub some_to_come : (rest left : Option (List ℕ)) (bytes : List ℕ) → Keeps rest (prepend_known bytes left) → bytes ≢ [] → IfSome rest (λ all. all ≢ [])
some_to_come None left bytes told some = tt
some_to_come (Some all) None bytes told some = absurd told
some_to_come (Some all) (Some x) [] told some = absurd (some refl)
some_to_come (Some all) (Some x) (b ∷ bs) told some = λ none. let e : b ∷ (bs ++ x) ≡ [] = told ∙ none in cc

-- nothing is to come after the end
pub none_to_come : (rest left : Option (List ℕ)) (bytes : List ℕ) → Keeps rest (prepend_known bytes left) → bytes ≡ [] → IsAtEnd left → IsAtEnd rest
none_to_come None left bytes told none end = tt
none_to_come (Some all) None bytes told none end = absurd told
none_to_come (Some all) (Some x) bytes told none end = sym told ∙ ap (λ (l : List ℕ). l ++ x) none ∙ end

-- no line was given, and what is to come stays
pub gives_none : (reader : Inside) (s : LinesState) (held : List ℕ) (left after : Option (List ℕ)) (why : LinesStop) → reader_state reader ≡ s → s.line ≡ []
    → Keeps (prepend_known (reader.line.items ++ reader.piece) left) (prepend_known held after)
    → GivesNone (to_come s left) (prepend_known held after) s (record { held = held; line = []; number = reader.number; stop = why }) why
gives_none reader s held left after why is forgotten told = record {
  told = subst (λ (rest : Option (List ℕ)). Keeps rest (prepend_known held after)) (is_to_come reader s left is forgotten) told;
  line = refl;
  count = ap (λ (t : LinesState). t.number) is;
  stop = refl;
}

-- so much is held
held_of : (given : Bool) (line piece : List ℕ) → length ((cond given [] line) ++ piece) ≤ length line + length piece
held_of true line piece = omega arith
held_of false line piece = omega (arith, length-append line piece)

held_behind_all : (given : Bool) (line piece : List ℕ) → (given ≡ false → line ≡ []) → length ((cond given [] line) ++ piece) ≤ length piece
held_behind_all true line piece none = omega arith
held_behind_all false line piece none = omega (arith, ap (λ (l : List ℕ). length (l ++ piece)) (none refl))

pub holds_few : (reader : Inside) → IsReader reader → HoldsFew (reader_state reader)
holds_few reader is = record {
  all = omega (arith, held_of reader.given reader.line.items reader.piece, is.short, is.piece);
  last = λ all. omega (arith, held_behind_all reader.given reader.line.items reader.piece (is.all all), is.piece);
}

-- a reader that ended answers the end, and gives what it held no more
pub ended_reads : (s new : LinesState) (left : Option (List ℕ)) → s.stop ≡ Ended → new ≡ record s { line = [] } → GoesOn s left
    → ReaderAnswers (to_come s left) (to_come new left) s (Ok false) new
ended_reads s new left is emptied goes = (
  record {
    told = subst (λ (held : List ℕ). Keeps (to_come s left) (prepend_known held left)) (sym (ap (λ (t : LinesState). t.held) emptied)) (Keeps-refl (to_come s left));
    line = ap (λ (t : LinesState). t.line) emptied;
    count = ap (λ (t : LinesState). t.number) emptied;
    stop = ap (λ (t : LinesState). t.stop) emptied ∙ is;
  },
  subst (λ (stop : LinesStop). GoesFrom stop (to_come s left)) is goes,
)

-- one that stopped at a limit isn't asked further
pub not_past_limits : (s : LinesState) (left : Option (List ℕ)) → (s.stop ≡ TooLong) ⊎ (s.stop ≡ TooMany) → GoesOn s left → ⊥
not_past_limits s left (inl is) goes = subst (λ (stop : LinesStop). GoesFrom stop (to_come s left)) is goes
not_past_limits s left (inr is) goes = subst (λ (stop : LinesStop). GoesFrom stop (to_come s left)) is goes
