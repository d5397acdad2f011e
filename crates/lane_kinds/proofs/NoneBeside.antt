-- A settle over two kinds, of the second of which there is no lane, is one over the first alone.
use Rattle.std.proofs.Common.{◌≡◌, ℕ, ◌+◌, ◌*◌, ◌<◌, Bool, true, false, inl, inr, List, [], ◌∷◌, ◌++◌, length, map, refl, sym, ap, ap₂, ◌∙◌, subst, arith, append-nil}
use Rattle.std.proofs.lemmas.List.{length-map}
use Rattle.std.specs.Prelude.{◌&&◌, ◌||◌}
use Rattle.runs.specs.Run.{Run}
use Rattle.lane_kinds.proofs.LaneCounts.{turns_many}
use Rattle.lane_kinds.proofs.Places.{map_both}
use Rattle.lane_kinds.specs.Both.{Two, both}
use Rattle.lane_kinds.specs.Lanes.{Entries, LaneKind, MakeRound, TickAll, lanes_of, left_names, some_tick, tick_entries}
use Rattle.lane_kinds.specs.Rounds.{Rounds}
use Rattle.lane_kinds.specs.Settles.{GoesOn, RunsOut, SettlePart, SettleRound, Settles, Settling, TicksBehind, begin, entries_of_rounds}

-- NO LANE of a kind, in what stands for that: it is quiet in each round and gets no tick; it leaves nothing, and there
-- is still none
pub record AreNone {V N Q E : Type 0} (L : Rounds V N Q E) (None : V → Type 0) : Type 0 where
  pub round : (v : V) (q : Q) (u : V) → None v → L.Makes v q u → None u
  pub quiet : (v : V) (q : Q) (u : V) → None v → L.Makes v q u → L.quiet q ≡ true
  pub leaves : (v : V) (q : Q) (u : V) → None v → L.Makes v q u → L.leaves q ≡ []
  pub some : (v : V) (n : N) → None v → L.some_ticks v n ≡ false
  pub ticks : (v : V) (n : N) (u : V) → None v → L.Ticks v n u → None u
  pub ticks_leave : (v : V) (n : N) → None v → L.ticks_leave v n ≡ []
  pub names : (q : Q) (v : V) → None v → L.names q v ≡ []
  pub pending : (v : V) → None v → L.pending v ≡ 0

-- an empty list has none
pub empty : {A : Type 0} (xs : List A) → length xs ≡ 0 → xs ≡ []
empty [] is = refl
empty (x ∷ xs) is = absurd (omega (arith, is))

module _ {T X E : Type 0} (L : LaneKind T X) (O : Entries X E) where
  abbrev pub IsNone : List T → Type 0
  IsNone lanes = lanes ≡ []

  none_behind : (v : List T) (q : List (List X)) (u : List T) → v ≡ [] → MakeRound L v q u → u ≡ []
  none_behind v q u none made = empty u (turns_many L 0 v q u made.turns_made ∙ ap (λ (l : List T). length l) none)

  no_turns : (v : List T) (q : List (List X)) (u : List T) → v ≡ [] → MakeRound L v q u → q ≡ []
  no_turns v q u none made = empty q (made.many ∙ ap (λ (l : List T). length l) none)

  no_ticks : (n : List Bool) (u : List T) → TickAll L [] n u → u ≡ []
  no_ticks n u ticks = grind arith

  no_tick_entries : (n : List Bool) → tick_entries L O 0 [] n ≡ []
  no_tick_entries [] = refl
  no_tick_entries (had ∷ n) = refl

  no_some : (n : List Bool) → some_tick L [] n ≡ false
  no_some [] = refl
  no_some (had ∷ n) = refl

  no_names : (q : List (List X)) → left_names L O 0 q [] ≡ []
  no_names [] = refl
  no_names (r ∷ q) = refl

  pub list_none : AreNone (lanes_of L O) IsNone
  list_none = grind (arith, none_behind, no_turns, no_some, no_ticks, no_tick_entries, no_names)

and_true : (b c : Bool) → c ≡ true → (b && c) ≡ b
and_true true c is = is
and_true false c is = refl

or_false : (b c : Bool) → c ≡ false → (b || c) ≡ b
or_false true c is = refl
or_false false c is = is

fewer : (n m a b : ℕ) → m ≡ n → b ≡ 0 → n < 4096 + 64 * (a + b) → m < 4096 + 64 * a
fewer n m a b same none less = omega (arith, same, none, less)

as_many : (n m a b : ℕ) → m ≡ n → b ≡ 0 → n ≡ 4096 + 64 * (a + b) → m ≡ 4096 + 64 * a
as_many n m a b same none is = omega (arith, same, none, is)

module _ {W V M N R Q E : Type 0} (K : Rounds W M R E) (L : Rounds V N Q E) (None : V → Type 0) (laws : AreNone L None) where
  -- WHAT THE FIRST KIND DID
  abbrev first_of : Settling (Two W V) (Two M N) → Settling W M
  first_of w = record { lanes = w.lanes.first; marks = w.marks.first }

  abbrev round_of : SettleRound (Two R Q) E → SettleRound R E
  round_of round = record { steps = round.steps.first; entries = round.entries }

  -- all leave what the first leave
  alone : (one two : List E) → two ≡ [] → one ++ two ≡ one
  alone one two none = ap (λ (l : List E). one ++ l) none ∙ append-nil one

  record Still (w v : Settling (Two W V) (Two M N)) (steps : R) (between : W) (entries : List E) : Type 0 where
    behind : TicksBehind K (K.quiet steps) (first_of w) steps between entries (first_of v)
    none : None v.lanes.second

  loud : (w : Settling (Two W V) (Two M N)) (steps : Two R Q) (between : Two W V) (entries : List E) (v : Settling (Two W V) (Two M N)) → None between.second → L.leaves steps.second ≡ []
      → K.quiet steps.first ≡ false → TicksBehind (both K L) false w steps between entries v → Still w v steps.first between.first entries
  loud w steps between entries v none leaves is behind = grind (arith, alone)

  quiet : (w : Settling (Two W V) (Two M N)) (steps : Two R Q) (between : Two W V) (entries : List E) (v : Settling (Two W V) (Two M N)) → None between.second → L.leaves steps.second ≡ []
      → K.quiet steps.first ≡ true → TicksBehind (both K L) true w steps between entries v → Still w v steps.first between.first entries
  quiet w steps between entries v none leaves is behind =
      let ticked = K.some_ticks between.first w.marks.first in
      let some : ticked ≡ true = sym (or_false ticked (L.some_ticks between.second w.marks.second) (laws.some between.second w.marks.second none)) ∙ behind.0 in
      record {
        behind = subst (λ (b : Bool). TicksBehind K b (first_of w) steps.first between.first entries (first_of v)) (sym is) (
          some,
          behind.1.of_first,
          ap (λ (m : Two M N). m.first) behind.2,
          behind.3
              ∙ ap₂ (λ (x y : List E). x ++ y) (alone (K.leaves steps.first) (L.leaves steps.second) leaves)
              (alone (K.ticks_leave between.first w.marks.first) (L.ticks_leave between.second w.marks.second) (laws.ticks_leave between.second w.marks.second none)),
        );
        none = laws.ticks between.second w.marks.second v.lanes.second none behind.1.of_second;
      }

  either : (b : Bool) (w : Settling (Two W V) (Two M N)) (steps : Two R Q) (between : Two W V) (entries : List E) (v : Settling (Two W V) (Two M N)) → None between.second
      → L.leaves steps.second ≡ [] → K.quiet steps.first ≡ b → TicksBehind (both K L) b w steps between entries v → Still w v steps.first between.first entries
  either b w steps between entries v none leaves is behind = grind (arith, alone, quiet)

  -- EACH ROUND
  record OneRound (w : Settling (Two W V) (Two M N)) (round : SettleRound (Two R Q) E) (v : Settling (Two W V) (Two M N)) : Type 0 where
    goes : GoesOn K (first_of w) (round_of round) (first_of v)
    none : None v.lanes.second

  one_round : (w : Settling (Two W V) (Two M N)) (round : SettleRound (Two R Q) E) (v : Settling (Two W V) (Two M N)) → None w.lanes.second → GoesOn (both K L) w round v → OneRound w round v
  one_round w round v none goes = grind (arith, alone, quiet, and_true)

  record AllRounds (w : Settling (Two W V) (Two M N)) (rounds : List (SettleRound (Two R Q) E)) (v : Settling (Two W V) (Two M N)) : Type 0 where
    run : Run (GoesOn K) (first_of w) (map round_of rounds) (first_of v)
    none : None v.lanes.second

  all_rounds : (w : Settling (Two W V) (Two M N)) (rounds : List (SettleRound (Two R Q) E)) (v : Settling (Two W V) (Two M N)) → None w.lanes.second → Run (GoesOn (both K L)) w rounds v
      → AllRounds w rounds v
  all_rounds w [] v none run = record { run = ap first_of run; none = subst (λ (x : Settling (Two W V) (Two M N)). None x.lanes.second) run none }
  all_rounds w (round ∷ rounds) v none run =
      let one = one_round w round run.0 none run.1 in
      let rest = all_rounds run.0 rounds v one.none run.2 in
      record { run = (first_of run.0, one.goes, rest.run); none = rest.none }

  same_entries : (rounds : List (SettleRound (Two R Q) E)) → entries_of_rounds rounds ≡ entries_of_rounds (map round_of rounds)
  same_entries [] = refl
  same_entries (round ∷ rounds) = ap (λ (l : List E). round.entries ++ l) (same_entries rounds)

  -- IT SETTLES, or the rounds ran out
  first_settles : (start : Two W V) (part : List E) (behind : Two W V) → None start.second → Settles (both K L) start part behind → Settles K start.first part behind.first
  first_settles start part behind none settles =
      let all = all_rounds (begin (both K L) start) settles.rounds settles.now none settles.run in
      record {
        rounds = map round_of settles.rounds;
        now = first_of settles.now;
        run = all.run;
        few = grind (arith, all_rounds, fewer, length-map, quiet, and_true, or_false, same_entries, alone);
        steps = settles.steps.first;
        last = grind (arith, all_rounds, fewer, length-map, quiet, and_true, or_false, same_entries, alone);
        is = grind (arith, all_rounds, fewer, length-map, quiet, and_true, or_false, same_entries, alone);
      }

  first_runs_out : (start : Two W V) (part : List E) (behind : Two W V) → None start.second → RunsOut (both K L) start part behind → RunsOut K start.first part behind.first
  first_runs_out start part behind none out =
      let whole = out.rounds ++ out.last ∷ [] in
      let all = all_rounds (begin (both K L) start) whole out.now none out.run in
      let split : map round_of whole ≡ map round_of out.rounds ++ round_of out.last ∷ [] = map_both round_of out.rounds (out.last ∷ []) in
      let behind_none : None behind.second = subst (λ (x : Two W V). None x.second) (sym out.lanes) all.none in
      record {
        rounds = map round_of out.rounds;
        last = round_of out.last;
        now = first_of out.now;
        run = subst (λ (l : List (SettleRound R E)). Run (GoesOn K) (begin K start.first) l (first_of out.now)) split all.run;
        most = as_many (length whole) (length (map round_of out.rounds ++ round_of out.last ∷ [])) (K.pending start.first) (L.pending start.second)
            (ap (λ (l : List (SettleRound R E)). length l) (sym split) ∙ length-map whole round_of) (laws.pending start.second none) out.most;
        lanes = ap (λ (x : Two W V). x.first) out.lanes;
        is = out.is
            ∙ ap₂ (λ (x y : List E). x ++ y) (same_entries whole ∙ ap entries_of_rounds split)
            (alone (K.names out.last.steps.first behind.first) (L.names out.last.steps.second behind.second) (laws.names out.last.steps.second behind.second behind_none));
      }

  pub first_part : (start : Two W V) (part : List E) (behind : Two W V) → None start.second → SettlePart (both K L) start part behind → SettlePart K start.first part behind.first
  first_part start part behind none (inl settles) = inl (first_settles start part behind none settles)
  first_part start part behind none (inr out) = inr (first_runs_out start part behind none out)
