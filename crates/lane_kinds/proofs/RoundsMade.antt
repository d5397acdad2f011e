-- Rounds of a settle so far, over lanes of any kinds: none yet; one more, in which not all lanes are quiet, or after
-- which some got a tick; and how it ends, by a last round, by names, or where memory is wanted.
use Rattle.std.proofs.Common.{◌≡◌, ℕ, ◌+◌, ◌<◌, Bool, true, false, inl, inr, List, [], ◌∷◌, ◌++◌, length, refl, sym, ap, ap₂, ◌∙◌, subst, arith, append_assoc, append-nil, length-append}
use Rattle.runs.specs.Run.{Run, run_push}
use Rattle.lane_kinds.proofs.Places.{HasLast, has_last, never_empty, same_last}
use Rattle.lane_kinds.specs.Fronts.{Fronts, SettleFront}
use Rattle.lane_kinds.specs.Rounds.{Rounds, tick_marks}
use Rattle.lane_kinds.specs.RoundsMade.{GoneOn, GoneSaid, RoundMade, RoundSaid, TicksMade}
use Rattle.lane_kinds.specs.Settles.{GoesOn, SettlePart, SettleRound, Settling, TicksBehind, begin, entries_of_rounds, most_rounds}

module _ {W M R E : Type 0} (K : Rounds W M R E) where
  abbrev at_marks : W → M → Settling W M
  at_marks lanes marks = record { lanes = lanes; marks = marks }

  pub nothing_gone : (start : W) (Last : R → Type 0) → GoneOn K 0 (K.unmarked start) Last start [] start
  nothing_gone start Last = grind (arith, never_empty)

  rounds_more : (rounds : List (SettleRound R E)) (round : SettleRound R E) → entries_of_rounds (rounds ++ round ∷ []) ≡ entries_of_rounds rounds ++ round.entries
  rounds_more [] round = append-nil round.entries
  rounds_more (first ∷ rounds) round =
      ap (λ (l : List E). first.entries ++ l) (rounds_more rounds round) ∙ sym (append_assoc first.entries (entries_of_rounds rounds) round.entries)

  one_counted : (count many long : ℕ) → many ≡ count → long ≡ many + 1 → long ≡ count + 1
  one_counted count many long one two = omega (arith, one, two)

  module _ (count : ℕ) (marks : M) (Last : R → Type 0) (start : W) (entries : List E) (now : W) (gone : GoneOn K count marks Last start entries now) where
    -- ONE MORE ROUND at the end
    gone_more : (Next : R → Type 0) (round : SettleRound R E) (v : W) (have : M) → GoesOn K (at_marks now marks) round (at_marks v have) → Next round.steps
        → GoneOn K (count + 1) have Next start (entries ++ round.entries) v
    gone_more Next round v have goes known = record {
      rounds = gone.rounds ++ round ∷ [];
      run = run_push (GoesOn K) (begin K start) (at_marks now marks) (at_marks v have) gone.rounds round gone.run goes;
      many = one_counted count (length gone.rounds) (length (gone.rounds ++ round ∷ [])) gone.many (length-append gone.rounds (round ∷ []));
      last = λ before last is. subst (λ (x : SettleRound R E). Next x.steps) (same_last gone.rounds before round last is) known;
      leaves = ap (λ (l : List E). l ++ round.entries) gone.leaves ∙ sym (rounds_more gone.rounds round);
    }

    -- in which not all lanes were quiet
    pub one_round : (Next : R → Type 0) (steps : R) (part : List E) (v : W) → RoundMade K steps now part v → K.quiet steps ≡ false → Next steps
        → GoneOn K (count + 1) marks Next start (entries ++ part) v
    one_round Next steps part v round loud known =
        gone_more Next (record { steps = steps; entries = part }) v marks (record {
          between = v;
          made = round.made;
          behind = subst (λ (b : Bool). TicksBehind K b (at_marks now marks) steps v part (at_marks v marks)) (sym loud) (refl, round.leaves);
        }) known

    module _ (steps : R) (part : List E) (m : W) (round : RoundMade K steps now part m) (quiet : K.quiet steps ≡ true) where
      -- in which all were, and after which some got a tick
      pub one_round_ticked : (Next : R → Type 0) (later : List E) (v : W) → K.some_ticks m marks ≡ true → K.Ticks m marks v → later ≡ K.ticks_leave m marks → Next steps
          → GoneOn K (count + 1) (K.marked m marks) Next start (entries ++ (part ++ later)) v
      one_round_ticked Next later v some ticks leaves known =
          gone_more Next (record { steps = steps; entries = part ++ later }) v (K.marked m marks) (record {
            between = m;
            made = round.made;
            behind = subst (λ (b : Bool). TicksBehind K b (at_marks now marks) steps m (part ++ later) (at_marks v (K.marked m marks))) (sym quiet)
                (some, ticks, refl, ap₂ (λ (x y : List E). x ++ y) round.leaves leaves);
          }) known

      -- or none did: it ends settled
      pub settled : count < most_rounds K start → K.some_ticks m marks ≡ false → SettlePart K start (entries ++ (part ++ K.settled ∷ [])) m
      settled few none = inl (record {
        rounds = gone.rounds;
        now = at_marks now marks;
        run = gone.run;
        few = subst (λ (n : ℕ). n < most_rounds K start) (sym gone.many) few;
        steps = steps;
        last = record { made = round.made; quiet = quiet; no_tick = none };
        is = ap₂ (λ (x y : List E). x ++ (y ++ K.settled ∷ [])) gone.leaves round.leaves ∙ sym (append_assoc (entries_of_rounds gone.rounds) (K.leaves steps) (K.settled ∷ []));
      })

      -- memory is wanted among the ticks or for the answer
      pub wants_in_ticks : (F : Fronts W M E) (later : List E) (v : W) → count < most_rounds K start → F.OfTicks m marks later v → SettleFront K F start (entries ++ (part ++ later)) v
      wants_in_ticks F later v few front = record {
        rounds = gone.rounds;
        now = at_marks now marks;
        run = gone.run;
        later = part ++ later;
        front = grind arith;
        is = ap (λ (l : List E). l ++ (part ++ later)) gone.leaves;
      }

    -- in a round
    pub wants_in_round : (F : Fronts W M E) (later : List E) (v : W) → count < most_rounds K start → F.OfRound now later v → SettleFront K F start (entries ++ later) v
    wants_in_round F later v few front = record {
      rounds = gone.rounds;
      now = at_marks now marks;
      run = gone.run;
      later = later;
      front = inl (subst (λ (n : ℕ). n < most_rounds K start) (sym gone.many) few, inl front);
      is = ap (λ (l : List E). l ++ later) gone.leaves;
    }

    -- THE ROUNDS RAN OUT, and the names stand after them, or the first of them
    last_of : count ≡ most_rounds K start → HasLast gone.rounds
    last_of most = grind (arith, has_last)

    pub run_out : (part : List E) → count ≡ most_rounds K start → ((steps : R) → Last steps → part ≡ K.names steps now) → SettlePart K start (entries ++ part) now
    run_out part most named =
        let at : HasLast gone.rounds = last_of most in
        inr (record {
          rounds = at.before;
          last = at.last;
          now = at_marks now marks;
          run = subst (λ (l : List (SettleRound R E)). Run (GoesOn K) (begin K start) l (at_marks now marks)) at.is gone.run;
          most = ap (λ (l : List (SettleRound R E)). length l) (sym at.is) ∙ gone.many ∙ most;
          lanes = refl;
          is = ap₂ (λ (x y : List E). x ++ y) (gone.leaves ∙ ap entries_of_rounds at.is) (named at.last.steps (gone.last at.before at.last at.is));
        })

    pub wants_in_names : (F : Fronts W M E) (part unnamed : List E) → count ≡ most_rounds K start → ((steps : R) → Last steps → part ++ unnamed ≡ K.names steps now)
        → SettleFront K F start (entries ++ part) now
    wants_in_names F part unnamed most named =
        let at : HasLast gone.rounds = last_of most in
        record {
          rounds = gone.rounds;
          now = at_marks now marks;
          run = gone.run;
          later = part;
          front = inr (
            gone.many ∙ most,
            record { before = at.before; last = at.last; is_last = at.is; unnamed = unnamed; is = named at.last.steps (gone.last at.before at.last at.is); lanes = refl },
          );
          is = ap (λ (l : List E). l ++ part) gone.leaves;
        }

-- WHERE MARKS SAY which lanes were quiet: whether all were, and which names stand behind such a round; and where no lane
-- gets a tick none leaves anything
pub record MarksSay {W M R E Q : Type 0} (K : Rounds W M R E) (said : R → Q) (all : Q → Bool) (named : Q → W → List E) : Type 0 where
  pub quiet : (r : R) → K.quiet r ≡ all (said r)
  pub names : (r : R) (w : W) → named (said r) w ≡ K.names r w
  pub no_ticks : (w : W) (m : M) → K.some_ticks w m ≡ false → K.ticks_leave w m ≡ []

module _ {W M R E Q : Type 0} (K : Rounds W M R E) (said : R → Q) (all : Q → Bool) (named : Q → W → List E) (says : MarksSay K said all named) where
  quiet_so : (quiet : Q) (w : W) (part : List E) (v : W) (round : RoundSaid K said quiet w part v) (b : Bool) → all quiet ≡ b → K.quiet round.steps ≡ b
  quiet_so quiet w part v round b is = says.quiet round.steps ∙ ap all (sym round.marks) ∙ is

  module _ (count : ℕ) (had : M) (quiet : Q) (start : W) (entries : List E) (w : W) (gone : GoneSaid K said count had quiet start entries w) where
    abbrev Last : R → Type 0
    Last steps = quiet ≡ said steps

    -- ONE MORE ROUND: not all lanes were quiet, or all were and some got a tick
    pub loud_round : (marks : Q) (part : List E) (v : W) → RoundSaid K said marks w part v → all marks ≡ false → GoneSaid K said (count + 1) had marks start (entries ++ part) v
    loud_round marks part v round loud =
        one_round K count had Last start entries w gone (λ steps. marks ≡ said steps) round.steps part v round.round (quiet_so marks w part v round false loud) round.marks

    pub ticked_round : (marks : Q) (part : List E) (m : W) (some : Bool) (have : M) (later : List E) (v : W) → RoundSaid K said marks w part m → all marks ≡ true
        → TicksMade K (tick_marks had some have) m later v → some ≡ true → GoneSaid K said (count + 1) have marks start (entries ++ (part ++ later)) v
    ticked_round marks part m some have later v round calm ticks any = grind (arith, one_round_ticked, quiet_so)

    -- THE LAST ROUND: all were, and none got a tick
    pub none_left : (some : Bool) (have : M) (m : W) (later : List E) (v : W) → TicksMade K (tick_marks had some have) m later v → some ≡ false → later ≡ []
    none_left some have m later v ticks any = ticks.leaves ∙ says.no_ticks m had (sym ticks.any ∙ any)

    pub settled_round : (marks : Q) (part : List E) (m : W) (some : Bool) (have : M) (later : List E) (v : W) → count < most_rounds K start → RoundSaid K said marks w part m → all marks ≡ true
        → TicksMade K (tick_marks had some have) m later v → some ≡ false → m ≡ v → SettlePart K start (entries ++ (part ++ (later ++ K.settled ∷ []))) v
    settled_round marks part m some have later v few round calm ticks any stays =
        subst (SettlePart K start (entries ++ (part ++ (later ++ K.settled ∷ [])))) stays
        (subst (λ (l : List E). SettlePart K start (entries ++ (part ++ (l ++ K.settled ∷ []))) m) (sym (none_left some have m later v ticks any))
        (settled K count had Last start entries w gone round.steps part m round.round (quiet_so marks w part m round true calm) few (sym ticks.any ∙ any)))

    -- MEMORY IS WANTED among the ticks or for the answer
    pub ticks_begun : (marks : Q) (part : List E) (m : W) → RoundSaid K said marks w part m → all marks ≡ true → (F : Fronts W M E) (later : List E) (v : W) → count < most_rounds K start
        → F.OfTicks m had later v → SettleFront K F start (entries ++ (part ++ later)) v
    ticks_begun marks part m round calm F later v few front =
        wants_in_ticks K count had Last start entries w gone round.steps part m round.round (quiet_so marks w part m round true calm) F later v few front

    -- THE ROUNDS RAN OUT, and the names stand after them, or the first of them
    all_named : (steps : R) → Last steps → named quiet w ≡ K.names steps w
    all_named steps last = ap (λ (q : Q). named q w) last ∙ says.names steps w

    pub named_out : (part : List E) → count ≡ most_rounds K start → part ≡ named quiet w → SettlePart K start (entries ++ part) w
    named_out part most is = run_out K count had Last start entries w gone part most (λ steps last. is ∙ all_named steps last)

    pub names_begun : (F : Fronts W M E) (part unnamed : List E) → count ≡ most_rounds K start → part ++ unnamed ≡ named quiet w → SettleFront K F start (entries ++ part) w
    names_begun F part unnamed most is = wants_in_names K count had Last start entries w gone F part unnamed most (λ steps last. is ∙ all_named steps last)
