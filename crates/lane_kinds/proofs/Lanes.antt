-- A list of lanes of a kind whose events give others events: what remains on all of them falls by a round in which
-- not all are quiet, and by the ticks after one in which all are.
use Rattle.std.proofs.Common.{◌≡◌, ℕ, zero, suc, ◌+◌, ◌*◌, ◌≤◌, ◌<◌, inl, inr, Bool, true, false, List, [], ◌∷◌, ◌++◌, length, refl, sym, ap, ◌∙◌, subst, arith, append_assoc, length-append}
use Rattle.std.proofs.lemmas.Bool.{eq-eqb, eqb-true}
use Rattle.std.specs.Prelude.{◌&&◌, ◌==◌, if◌then◌else◌, ⊤}
use Rattle.runs.specs.Run.{Run}
use Rattle.lane_kinds.proofs.Sums.{and_left, and_right, both_true, both_unless}
use Rattle.lane_kinds.specs.Lanes.{AllStep, AreClean, AreCleanWhere, CalmTurn, Calmly, EachOf, EachStep, Entries, GivesNothing, LaneFalls, LaneKind, MakeRound, MakeTurns, OwnTurns, StepOf, TickAll, TicksIf, all_calm, are_still, gets_tick, lanes_of, own_or, some_tick, sum_of}
use Rattle.lane_kinds.specs.Laws.{Falls, Lowers, LowersUnless}

-- NUMBERS
next : (j k : ℕ) → k < j → k < j + 1
next j k less = omega (arith, less)

-- a load for each lane
abbrev load : {S : Type 0} → ℕ → List S → ℕ
load n [] = 0
load n (s ∷ lanes) = n + load n lanes

abbrev times : ℕ → ℕ → ℕ
times zero n = 0
times (suc m) n = n + times m n

load_most : {S : Type 0} (n m : ℕ) (lanes : List S) → length lanes ≤ m → load n lanes ≤ times m n
load_most n m [] few = omega (arith)
load_most n zero (s ∷ lanes) few = absurd (omega (arith, few))
load_most n (suc m) (s ∷ lanes) few = let rest : load n lanes ≤ times m n = load_most n m lanes (omega (arith, few)) in omega (arith, rest)

eight : (n : ℕ) → times 8 n ≤ 8 * n
eight n = omega (arith)

given_sum : (s t r rest others load : ℕ) → t ≤ s + r → rest ≤ others + load → t + rest ≤ (s + others) + (r + load)
given_sum s t r rest others load one more = omega (arith, one, more)

own_sum : (s t r rest others load : ℕ) → t + 7 * r < s → rest ≤ others + load → (t + rest) + 8 * r < (s + others) + (r + load)
own_sum s t r rest others load one more = omega (arith, one, more)

later_sum : (s t r rest others load : ℕ) → t ≤ s + r → rest + 8 * r < others + load → (t + rest) + 8 * r < (s + others) + (r + load)
later_sum s t r rest others load one more = omega (arith, one, more)

falls_in_all : (a b r load : ℕ) → a + 8 * r < b + load → load ≤ 8 * r → a < b
falls_in_all a b r load less most = omega (arith, less, most)

no_rise : (n : ℕ) → n ≤ n
no_rise n = omega (arith)

itself_place : (k : ℕ) → k ≡ 0 + k
itself_place k = omega (arith)

-- THE LANE with a number, and the others
pub other_test : (j k : ℕ) → (j ≡ k → ⊥) → (j == k) ≡ false
other_test j k other = grind (arith, eqb-true)

module _ {S V : Type 0} (K : LaneKind S V) where
  own_run : (j k : ℕ) (s : S) (event : V) (t : S) → j ≡ k → Run K.Step s (own_or (j == k) event (K.gets j event)) t → K.Step s event t
  own_run j k s event t same run = grind (arith, eq-eqb)

  gift_run : (j k : ℕ) (s : S) (event : V) (t : S) → (j ≡ k → ⊥) → Run K.Step s (own_or (j == k) event (K.gets j event)) t → Run K.Step s (K.gets j event) t
  gift_run j k s event t other run = subst (λ (c : Bool). Run K.Step s (own_or c event (K.gets j event)) t) (other_test j k other) run

  pub as_many : (j k : ℕ) (lanes : List S) (event : V) (behind : List S) → AllStep K j lanes k event behind → length behind ≡ length lanes
  as_many j k (s ∷ lanes) event (t ∷ behind) step = ap suc (as_many (j + 1) k lanes event behind step.1)
  as_many j k lanes event behind step = grind arith

  -- AN EVENT THAT GIVES NOTHING moves its own lane alone
  record Alone (front : List S) (s : S) (lanes : List S) (events : List V) (m : List S) : Type 0 where
    after : S
    is : m ≡ front ++ after ∷ lanes
    run : Run K.Step s events after

  others_stay : (j k : ℕ) (lanes : List S) (event : V) (behind : List S) → ((i : ℕ) → K.gets i event ≡ []) → k < j → AllStep K j lanes k event behind → lanes ≡ behind
  others_stay j k (s ∷ lanes) event (t ∷ behind) none less step = grind (arith, gift_run, next, others_stay (j + 1) k lanes event behind none (next j k less) step.1)
  others_stay j k lanes event behind none less step = grind arith

  alone_more : (x y : S) (front : List S) (s : S) (lanes : List S) (events : List V) (m : List S) → x ≡ y → Alone front s lanes events m → Alone (x ∷ front) s lanes events (y ∷ m)
  alone_more x y front s lanes events m same at = record { after = at.after; is = ap (λ (z : S). z ∷ m) (sym same) ∙ ap (λ (l : List S). x ∷ l) at.is; run = at.run }

  event_alone : (j k : ℕ) (front : List S) (s : S) (lanes : List S) (event : V) (m : List S) → ((i : ℕ) → K.gets i event ≡ []) → k ≡ j + length front
      → AllStep K j (front ++ s ∷ lanes) k event m → Alone front s lanes (event ∷ []) m
  event_alone j k (x ∷ front) s lanes event (y ∷ m) none place step =
      grind (arith, gift_run, alone_more, event_alone (j + 1) k front s lanes event m none (omega (arith, place)) step.1)
  event_alone j k front s lanes event m none place step = grind (arith, others_stay, own_run)

-- WHERE THESE EVENTS GIVE NOTHING, a round is a turn of each lane alone
module _ {S V : Type 0} (K : LaneKind S V) where
  abbrev NoneGiven : List V → Type 0
  NoneGiven [] = ⊤
  NoneGiven (event ∷ events) = ((i : ℕ) → K.gets i event ≡ []) × NoneGiven events

  abbrev AllNone : List (List V) → Type 0
  AllNone [] = ⊤
  AllNone (r ∷ turns) = NoneGiven r × AllNone turns

  own_turn : (k : ℕ) (front : List S) (s : S) (rest : List S) (events : List V) (behind : List S) → length front ≡ k → NoneGiven events
      → Run (StepOf K k) (front ++ s ∷ rest) events behind → Alone K front s rest events behind
  own_turn k front s rest [] behind long none run = record { after = s; is = sym run; run = refl }
  own_turn k front s rest (event ∷ events) behind long none run =
      let one : Alone K front s rest (event ∷ []) run.0 =
      event_alone K 0 k front s rest event run.0 none.0 (sym long ∙ itself_place (length front)) run.1.step in
      let more : Alone K front one.after rest events behind =
      own_turn k front one.after rest events behind long none.1 (subst (λ (l : List S). Run (StepOf K k) l events behind) one.is run.2) in
      record { after = more.after; is = more.is; run = (one.after, subst (K.Step s event) one.run.2 one.run.1, more.run) }

  record Behind (front lanes : List S) (turns : List (List V)) (behind : List S) : Type 0 where
    rest : List S
    is : behind ≡ front ++ rest
    own : OwnTurns K lanes turns rest

  own_from : (k : ℕ) (front lanes : List S) (turns : List (List V)) (behind : List S) → length front ≡ k → length turns ≡ length lanes → AllNone turns
      → MakeTurns K k (front ++ lanes) turns behind → Behind front lanes turns behind
  own_from k front [] [] behind long many none made = record { rest = []; is = sym made; own = tt }
  own_from k front [] (r ∷ turns) behind long many none made = absurd (omega (arith, many))
  own_from k front (s ∷ lanes) [] behind long many none made = absurd (omega (arith, many))
  own_from k front (s ∷ lanes) (r ∷ turns) behind long many none made =
      let one : Alone K front s lanes r made.0 = own_turn k front s lanes r made.0 long none.0 made.1.run in
      let place : length (front ++ one.after ∷ []) ≡ k + 1 = length-append front (one.after ∷ []) ∙ ap (λ (n : ℕ). n + 1) long in
      let same : made.0 ≡ (front ++ one.after ∷ []) ++ lanes = one.is ∙ sym (append_assoc front (one.after ∷ []) lanes) in
      let more : Behind (front ++ one.after ∷ []) lanes turns behind =
      own_from (k + 1) (front ++ one.after ∷ []) lanes turns behind place (omega (arith, many)) none.1
      (subst (λ (l : List S). MakeTurns K (k + 1) l turns behind) same made.2) in
      grind (arith, append_assoc)

  own_round : (lanes : List S) (turns : List (List V)) (behind : List S) → AllNone turns → MakeRound K lanes turns behind → OwnTurns K lanes turns behind
  own_round lanes turns behind none made =
      let at : Behind [] lanes turns behind = own_from 0 [] lanes turns behind refl made.many none made.turns_made in
      subst (OwnTurns K lanes turns) (sym at.is) at.own

  -- of a kind none of whose events give anything
  pub own_turns : GivesNothing K → (lanes : List S) (turns : List (List V)) (behind : List S) → MakeRound K lanes turns behind → OwnTurns K lanes turns behind
  own_turns nothing lanes turns behind made = own_round lanes turns behind (all_none turns) made
    where
      none_given : (events : List V) → NoneGiven events
      none_given [] = tt
      none_given (event ∷ events) = ((λ i. nothing.gives i event), none_given events)

      all_none : (turns : List (List V)) → AllNone turns
      all_none [] = tt
      all_none (r ∷ turns) = (none_given r, all_none turns)

  -- and a quiet one is a calm turn of each
  pub calmly : (lanes : List S) (turns : List (List V)) (behind : List S) → are_still K turns ≡ true → OwnTurns K lanes turns behind → Calmly K lanes turns behind
  calmly (s ∷ lanes) (r ∷ turns) (t ∷ behind) still own =
      grind (arith, and_left, and_right, calmly lanes turns behind (and_right (all_calm K r) (are_still K turns) still) own.1)
  calmly lanes turns behind still own = grind arith

-- WHERE CALM EVENTS GIVE NOTHING
module _ {S V : Type 0} (K : LaneKind S V) (calm_gives : (k : ℕ) (event : V) → K.is_calm event ≡ true → K.gets k event ≡ []) where
  none_given : (event : V) → K.is_calm event ≡ true → (i : ℕ) → K.gets i event ≡ []
  none_given event calm i = calm_gives i event calm

  calm_none : (events : List V) → all_calm K events ≡ true → NoneGiven K events
  calm_none [] calm = tt
  calm_none (event ∷ events) calm = (none_given event (and_left (K.is_calm event) (all_calm K events) calm), calm_none events (and_right (K.is_calm event) (all_calm K events) calm))

  still_none : (turns : List (List V)) → are_still K turns ≡ true → AllNone K turns
  still_none [] still = tt
  still_none (r ∷ turns) still = (calm_none r (and_left (all_calm K r) (are_still K turns) still), still_none turns (and_right (all_calm K r) (are_still K turns) still))

  pub round_calmly : (lanes : List S) (turns : List (List V)) (behind : List S) → are_still K turns ≡ true → MakeRound K lanes turns behind → Calmly K lanes turns behind
  round_calmly lanes turns behind still made = calmly K lanes turns behind still (own_round K lanes turns behind (still_none turns still) made)

-- WHAT REMAINS, of so few lanes that an event raises it by no more than eight times what it may on one
module _ {S V : Type 0} (K : LaneKind S V) (Clean : S → Type 0) (remaining : S → ℕ) (raises : V → ℕ) (laws : LaneFalls K Clean remaining raises) (Few : ℕ → Type 0)
    (room : (event : V) (lanes : List S) → Few (length lanes) → load (raises event) lanes ≤ 8 * raises event) where
  -- other lanes
  record Given (r : ℕ) (lanes behind : List S) : Type 0 where
    clean : EachOf Clean behind
    most : sum_of remaining behind ≤ sum_of remaining lanes + load r lanes

  given_all : (j k : ℕ) (lanes : List S) (event : V) (behind : List S) → k < j → EachOf Clean lanes → AllStep K j lanes k event behind → Given (raises event) lanes behind
  given_all j k (s ∷ lanes) event (t ∷ behind) less clean step =
      grind (arith, gift_run, next, given_sum, given_all (j + 1) k lanes event behind (next j k less) clean.1 step.1)
  given_all j k lanes event behind less clean step = grind arith

  -- all lanes, of which one makes a step that isn't calm
  record Louder (r : ℕ) (lanes behind : List S) : Type 0 where
    clean : EachOf Clean behind
    less : sum_of remaining behind + 8 * r < sum_of remaining lanes + load r lanes

  loud_at : (j k : ℕ) (lanes : List S) (event : V) (behind : List S) (i : ℕ) → k ≡ j + i → i < length lanes → EachOf Clean lanes → K.IsStep event → K.is_calm event ≡ false
      → AllStep K j lanes k event behind → Louder (raises event) lanes behind
  loud_at j k (s ∷ lanes) event (t ∷ behind) (suc i) place within clean own loud step =
      grind (arith, gift_run, later_sum, loud_at (j + 1) k lanes event behind i (omega (arith, place)) (omega (arith, within)) clean.1 own loud step.1)
  loud_at j k lanes event behind i place within clean own loud step = grind (arith, own_run, given_all, own_sum)

  -- or one that is
  record Calmer (lanes behind : List S) : Type 0 where
    clean : EachOf Clean behind
    most : sum_of remaining behind ≤ sum_of remaining lanes

  own_less : (s t rest : ℕ) → t ≤ s → t + rest ≤ s + rest
  own_less s t rest less = omega (arith, less)

  own_more : (s rest others : ℕ) → rest ≤ others → s + rest ≤ s + others
  own_more s rest others less = omega (arith, less)

  calm_at : (front : List S) (s : S) (lanes : List S) (event : V) (t : S) → EachOf Clean (front ++ s ∷ lanes) → K.IsStep event → K.is_calm event ≡ true → K.Step s event t
      → Calmer (front ++ s ∷ lanes) (front ++ t ∷ lanes)
  calm_at (x ∷ front) s lanes event t clean own calm step = grind (arith, own_more, calm_at front s lanes event t clean.1 own calm step)
  calm_at front s lanes event t clean own calm step = grind (arith, own_less)

  -- A FRONT of so many lanes
  record Cut (k : ℕ) (lanes : List S) : Type 0 where
    front : List S
    lane : S
    rest : List S
    is : lanes ≡ front ++ lane ∷ rest
    long : length front ≡ k

  cut : (k : ℕ) (lanes : List S) → k < length lanes → Cut k lanes
  cut k [] within = absurd (omega (arith, within))
  cut zero (s ∷ lanes) within = record { front = []; lane = s; rest = lanes; is = refl; long = refl }
  cut (suc k) (s ∷ lanes) within =
      let more : Cut k lanes = cut k lanes (omega (arith, within)) in
      record { front = s ∷ more.front; lane = more.lane; rest = more.rest; is = ap (λ (l : List S). s ∷ l) more.is; long = ap suc more.long }

  -- ONE EVENT
  record Fell (calm : Bool) (lanes behind : List S) : Type 0 where
    clean : EachOf Clean behind
    many : length behind ≡ length lanes
    lowers : Lowers calm (sum_of remaining lanes) (sum_of remaining behind)

  calm_one : (k : ℕ) (front : List S) (s : S) (rest : List S) (event : V) (behind : List S) → length front ≡ k → EachOf Clean (front ++ s ∷ rest) → K.IsStep event → K.is_calm event ≡ true
      → AllStep K 0 (front ++ s ∷ rest) k event behind → Calmer (front ++ s ∷ rest) behind
  calm_one k front s rest event behind long clean own calm step = grind (arith, event_alone, none_given, itself_place, calm_at)

  event_fell : (calm : Bool) (k : ℕ) (lanes : List S) (event : V) (behind : List S) → K.is_calm event ≡ calm → k < length lanes → Few (length lanes) → EachOf Clean lanes → K.IsStep event
      → AllStep K 0 lanes k event behind → Fell calm lanes behind
  event_fell true k lanes event behind is within few clean own step =
      let c : Cut k lanes = cut k lanes within in
      grind (arith, calm_one, as_many)
  event_fell false k lanes event behind is within few clean own step =
      let at : Louder (raises event) lanes behind = loud_at 0 k lanes event behind k (itself_place k) within clean own is step in
      record {
        clean = at.clean;
        many = as_many K 0 k lanes event behind step;
        lowers = inr (falls_in_all (sum_of remaining behind) (sum_of remaining lanes) (raises event) (load (raises event) lanes) at.less (room event lanes few));
      }

  -- A TURN
  fell_then : (one two : Bool) (lanes m behind : List S) → Fell one lanes m → Fell two m behind → Fell (one && two) lanes behind
  fell_then one two lanes m behind first second = grind (arith, both_true)

  turn_fell : (k : ℕ) (lanes : List S) (events : List V) (behind : List S) → k < length lanes → Few (length lanes) → EachOf Clean lanes → EachStep K events
      → Run (StepOf K k) lanes events behind → Fell (all_calm K events) lanes behind
  turn_fell k lanes [] behind within few clean steps run =
      subst (Fell true lanes) run (record { clean = clean; many = refl; lowers = inl (refl, no_rise (sum_of remaining lanes)) })
  turn_fell k lanes (event ∷ events) behind within few clean steps run =
      let first : Fell (K.is_calm event) lanes run.0 = event_fell (K.is_calm event) k lanes event run.0 refl within few clean steps.0 run.1.step in
      fell_then (K.is_calm event) (all_calm K events) lanes run.0 behind first
      (turn_fell k run.0 events behind (omega (arith, within, first.many)) (subst Few (sym first.many) few) first.clean steps.1 run.2)

  -- TURNS, and a round
  turns_fell : (k : ℕ) (lanes : List S) (turns : List (List V)) (behind : List S) → k + length turns ≡ length lanes → Few (length lanes) → EachOf Clean lanes → MakeTurns K k lanes turns behind
      → Fell (are_still K turns) lanes behind
  turns_fell k lanes (r ∷ turns) behind many few clean made = grind (arith, turn_fell, fell_then, turns_fell (k + 1) made.0 turns behind)
  turns_fell k lanes turns behind many few clean made = grind (arith, no_rise)

  round_fell : (lanes : List S) (turns : List (List V)) (behind : List S) → Few (length lanes) → EachOf Clean lanes → MakeRound K lanes turns behind → Fell (are_still K turns) lanes behind
  round_fell lanes turns behind few clean made = turns_fell 0 lanes turns behind (omega (arith, made.many)) few clean made.turns_made

  -- TICKS
  tick_clean_if : (get : Bool) (s t : S) → Clean s → TicksIf K get s t → Clean t
  tick_clean_if true s t clean step = laws.tick_clean s t clean step
  tick_clean_if false s t clean same = subst Clean (sym same) clean

  ticks_clean : (lanes : List S) (marks : List Bool) (behind : List S) → EachOf Clean lanes → TickAll K lanes marks behind → EachOf Clean behind
  ticks_clean [] [] [] clean ticks = tt
  ticks_clean (s ∷ lanes) (had ∷ marks) (t ∷ behind) clean ticks = (tick_clean_if (gets_tick K s had) s t clean.0 ticks.0, ticks_clean lanes marks behind clean.1 ticks.1)
  ticks_clean _ _ _ clean ticks = absurd ticks

  ticks_many : (lanes : List S) (marks : List Bool) (behind : List S) → TickAll K lanes marks behind → length behind ≡ length lanes
  ticks_many [] [] [] ticks = refl
  ticks_many (s ∷ lanes) (had ∷ marks) (t ∷ behind) ticks = ap suc (ticks_many lanes marks behind ticks.1)
  ticks_many _ _ _ ticks = absurd ticks

  waits_where : (had waits : Bool) → (if had then false else waits) ≡ true → waits ≡ true
  waits_where true waits gets = absurd (cc gets)
  waits_where false waits gets = gets

  same_remains : (s t : S) → t ≡ s → remaining t ≤ remaining s
  same_remains s t is = omega (arith, ap remaining is)

  lane_unless : (get had : Bool) (s : S) (r : List V) (t u : S) → Clean s → CalmTurn K s r t → gets_tick K t had ≡ get → TicksIf K get t u → LowersUnless get (remaining t) (remaining u)
  lane_unless get had s r t u clean turn gets step = grind arith

  ticks_lower : (lanes : List S) (turns : List (List V)) (between : List S) (marks : List Bool) (behind : List S) → EachOf Clean lanes → Calmly K lanes turns between → TickAll K between marks behind
      → LowersUnless (some_tick K between marks) (sum_of remaining between) (sum_of remaining behind)
  ticks_lower (s ∷ lanes) (r ∷ turns) (t ∷ between) (had ∷ marks) (u ∷ behind) clean calm ticks =
      grind (arith, both_unless, lane_unless, ticks_lower lanes turns between marks behind clean.1 calm.1 ticks.1)
  ticks_lower lanes turns between marks behind clean calm ticks = grind arith

  -- THE COUNT
  clean_round : (lanes : List S) (turns : List (List V)) (behind : List S) → AreCleanWhere Few Clean lanes → MakeRound K lanes turns behind → AreCleanWhere Few Clean behind
  clean_round lanes turns behind given made = grind (arith, round_fell)

  pub few_fall : {E : Type 0} (N : Entries V E) → Falls (lanes_of K N) (AreCleanWhere Few Clean) (sum_of remaining)
  few_fall N = record {
    keeps = record {
      round = λ w m r v at made. clean_round w r v at made;
      ticks = λ w m r v u at made quiet ticks. ticked w m r v u at made ticks;
    };
    round = λ w r v at made. (round_fell w r v at.few at.clean made).lowers;
    ticks = λ w m r v u at made quiet ticks. ticks_lower w r v m u at.clean (round_calmly K laws.calm_gives w r v quiet made) ticks;
  }
    where
      ticked : (w : List S) (m : List Bool) (r : List (List V)) (v u : List S) → AreCleanWhere Few Clean w → MakeRound K w r v → TickAll K v m u → AreCleanWhere Few Clean u
      ticked w m r v u given made ticks = grind (arith, clean_round, ticks_many, ticks_clean)

-- at most eight; and where no event raises it on others, however many there are
pub lanes_fall : {S V E : Type 0} (K : LaneKind S V) (Clean : S → Type 0) (remaining : S → ℕ) (raises : V → ℕ) → LaneFalls K Clean remaining raises → (N : Entries V E)
    → Falls (lanes_of K N) (AreClean Clean) (sum_of remaining)
lanes_fall {S} {V} K Clean remaining raises laws N = few_fall K Clean remaining raises laws (λ n. n ≤ 8) room N
  where
    within : (a b c : ℕ) → a ≤ b → b ≤ c → a ≤ c
    within a b c one two = omega (arith, one, two)

    room : (event : V) (lanes : List S) → length lanes ≤ 8 → load (raises event) lanes ≤ 8 * raises event
    room event lanes few = within (load (raises event) lanes) (times 8 (raises event)) (8 * raises event) (load_most (raises event) 8 lanes few) (eight (raises event))

none_load : {S : Type 0} (lanes : List S) → load 0 lanes ≡ 0
none_load [] = refl
none_load (s ∷ lanes) = omega (arith, none_load lanes)

pub all_fall : {S V E : Type 0} (K : LaneKind S V) (Clean : S → Type 0) (remaining : S → ℕ) → LaneFalls K Clean remaining (λ event. 0) → (N : Entries V E)
    → Falls (lanes_of K N) (AreCleanWhere (λ n. ⊤) Clean) (sum_of remaining)
all_fall {S} {V} K Clean remaining laws N = few_fall K Clean remaining (λ event. 0) laws (λ n. ⊤) room N
  where
    none_most : (n : ℕ) → n ≡ 0 → n ≤ 0
    none_most n none = omega (arith, none)

    room : (event : V) (lanes : List S) → ⊤ → load 0 lanes ≤ 8 * 0
    room event lanes few = none_most (load 0 lanes) (none_load lanes)
