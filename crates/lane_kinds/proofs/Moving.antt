-- Each lane of a list is run by what the part of a settle says happened to it: its own events, and what those of
-- others gave it.
use Rattle.std.proofs.Common.{◌≡◌, ℕ, zero, suc, ◌+◌, ◌<◌, Some, slice_get, slice_set, Bool, true, false, List, [], ◌∷◌, ◌++◌, length, refl, sym, ap, ◌∙◌, subst, arith, append_assoc, append-nil, length-append}
use Rattle.std.proofs.lemmas.Bool.{eq-eqb}
use Rattle.std.specs.Prelude.{◌==◌, ◌&&◌, if◌then◌else◌}
use Rattle.runs.specs.Run.{Run, run_append}
use Rattle.lane_kinds.proofs.Lanes.{other_test}
use Rattle.lane_kinds.specs.Both.{Skips}
use Rattle.lane_kinds.specs.Lanes.{AllMove, AllStep, EachOf, Entries, GivesNothing, IsSilent, LaneKind, MakeTurns, Reads, StepOf, TickAll, TicksIf, all_calm, gets_tick, happened, lanes_of, left_names, own_or, round_entries, tick_entries, turn_entries}
use Rattle.lane_kinds.specs.Laws.{AnswersLead, Leads}

pub happened_both : {V E : Type 0} (said : ℕ → E → List V) (j : ℕ) (before behind : List E) → happened said j (before ++ behind) ≡ happened said j before ++ happened said j behind
happened_both said j [] behind = refl
happened_both {V} {E} said j (x ∷ before) behind =
    ap (λ (l : List V). said j x ++ l) (happened_both said j before behind) ∙ sym (append_assoc (said j x) (happened said j before) (happened said j behind))

pub one_more : (k n m : ℕ) → k ≡ 0 + n → m ≡ n + 1 → k + 1 ≡ 0 + m
one_more k n m place long = omega (arith, place, long)

-- A CONDITION ON EACH holds of each
pub each_there : {S : Type 0} (P : S → Type 0) (lanes : List S) (k : ℕ) (s : S) → EachOf P lanes → slice_get lanes k ≡ Some s → P s
each_there P [] k s all there = absurd (cc there)
each_there P (x ∷ lanes) zero s all there = let same : x ≡ s = cc there in subst P same all.0
each_there P (x ∷ lanes) (suc k) s all there = each_there P lanes k s all.1 there

-- WHAT A PART SAYS of the lanes
module _ {S V E : Type 0} (Step : S → V → S → Type 0) (said : ℕ → E → List V) where
  -- nothing, and one part behind another
  pub none_move : (j : ℕ) (lanes : List S) → AllMove Step said j lanes [] lanes
  none_move j [] = tt
  none_move j (s ∷ lanes) = (refl, none_move (j + 1) lanes)

  pub nothing_move : (j : ℕ) (lanes : List S) (part : List E) → ((i : ℕ) → happened said i part ≡ []) → AllMove Step said j lanes part lanes
  nothing_move j [] part none = tt
  nothing_move j (s ∷ lanes) part none = (subst (λ (l : List V). Run Step s l s) (sym (none j)) refl, nothing_move (j + 1) lanes part none)

  pub both_move : (j : ℕ) (lanes between behind : List S) (one two : List E) → AllMove Step said j lanes one between → AllMove Step said j between two behind → AllMove Step said j lanes (one ++ two) behind
  both_move j (s ∷ lanes) (m ∷ between) (t ∷ behind) one two first second = (
    subst (λ (l : List V). Run Step s l t) (sym (happened_both said j one two)) (run_append Step s m t (happened said j one) (happened said j two) first.0 second.0),
    both_move (j + 1) lanes between behind one two first.1 second.1,
  )
  both_move j lanes between behind one two first second = grind arith

  -- a lane among those that were moved
  pub lane_moved : (j k n : ℕ) (lanes : List S) (part : List E) (behind : List S) (s t : S) → n ≡ j + k → AllMove Step said j lanes part behind → slice_get lanes k ≡ Some s
      → slice_get behind k ≡ Some t → Run Step s (happened said n part) t
  lane_moved j k n [] part behind s t is moves there after = absurd (cc there)
  lane_moved j k n (x ∷ lanes) part [] s t is moves there after = absurd moves
  lane_moved j zero n (x ∷ lanes) part (y ∷ behind) s t is moves there after = grind (arith)
  lane_moved j (suc k) n (x ∷ lanes) part (y ∷ behind) s t is moves there after = lane_moved (j + 1) k n lanes part behind s t (omega (arith, is)) moves.1 there after

  pub many_moved : (j : ℕ) (lanes : List S) (part : List E) (behind : List S) → AllMove Step said j lanes part behind → length behind ≡ length lanes
  many_moved j (s ∷ lanes) part (t ∷ behind) moves = ap suc (many_moved (j + 1) lanes part behind moves.1)
  many_moved j lanes part behind moves = grind arith

  pub none_both : (j : ℕ) (one two : List E) → happened said j one ≡ [] → happened said j two ≡ [] → happened said j (one ++ two) ≡ []
  none_both j one two first second = happened_both said j one two ∙ ap (λ (l : List V). l ++ happened said j two) first ∙ second

  -- the first part of one that says nothing
  front_empty : (one two : List V) → one ++ two ≡ [] → one ≡ []
  front_empty [] two is = refl
  front_empty (x ∷ one) two is = absurd (cc is)

  pub front_none : (j : ℕ) (part more all : List E) → part ++ more ≡ all → happened said j all ≡ [] → happened said j part ≡ []
  front_none j part more all is none =
      front_empty (happened said j part) (happened said j more) (sym (happened_both said j part more) ∙ ap (happened said j) is ∙ none)

  one_none : (j : ℕ) (c : Bool) (x : E) → said j x ≡ [] → happened said j (if c then [] else x ∷ []) ≡ []
  one_none j true x none = refl
  one_none j false x none = append-nil (said j x) ∙ none

-- AN EVENT THAT GIVES NOTHING moves its own lane
module _ {S V : Type 0} (K : LaneKind S V) where
  own_run : (j k : ℕ) (s : S) (event : V) (t : S) → j ≡ k → K.Step s event t → Run K.Step s (own_or (j == k) event (K.gets j event)) t
  own_run j k s event t same step = subst (λ (c : Bool). Run K.Step s (own_or c event (K.gets j event)) t) (sym (eq-eqb j k same)) (t, step, refl)

  stays : (j k : ℕ) (s : S) (event : V) → K.gets j event ≡ [] → (j ≡ k → ⊥) → Run K.Step s (own_or (j == k) event (K.gets j event)) s
  stays j k s event none other =
      subst (λ (c : Bool). Run K.Step s (own_or c event (K.gets j event)) s) (sym (other_test j k other)) (subst (λ (l : List V). Run K.Step s l s) (sym none) refl)

  later_stay : (j k : ℕ) (lanes : List S) (event : V) → ((i : ℕ) → K.gets i event ≡ []) → k < j → AllStep K j lanes k event lanes
  later_stay j k [] event none less = tt
  later_stay j k (s ∷ lanes) event none less = (stays j k s event (none j) (λ same. omega (arith, less, same)), later_stay (j + 1) k lanes event none (omega (arith, less)))

  pub one_steps : (j k : ℕ) (front : List S) (s : S) (lanes : List S) (event : V) (t : S) → ((i : ℕ) → K.gets i event ≡ []) → k ≡ j + length front → K.Step s event t
      → AllStep K j (front ++ s ∷ lanes) k event (front ++ t ∷ lanes)
  one_steps j k (x ∷ front) s lanes event t none place step = grind (arith, stays, one_steps (j + 1) k front s lanes event t none (omega (arith, place)) step)
  one_steps j k front s lanes event t none place step = grind (arith, own_run, later_stay)

  set_steps : (j k n : ℕ) (lanes : List S) (s : S) (event : V) (t : S) → ((i : ℕ) → K.gets i event ≡ []) → n ≡ j + k → slice_get lanes k ≡ Some s → K.Step s event t
      → AllStep K j lanes n event (slice_set lanes k t)
  set_steps j k n [] s event t none place there step = absurd (cc there)
  set_steps j zero n (x ∷ lanes) s event t none place there step = grind (arith, own_run, later_stay)
  set_steps j (suc k) n (x ∷ lanes) s event t none place there step =
      (stays j n x event (none j) (λ same. omega (arith, place, same)), set_steps (j + 1) k n lanes s event t none (omega (arith, place)) there step)

  own_place : (k : ℕ) → k ≡ 0 + k
  own_place k = omega (arith)

  pub lane_steps : GivesNothing K → (k : ℕ) (lanes : List S) (s : S) (event : V) (t : S) (behind : List S) → slice_get lanes k ≡ Some s → K.Step s event t → behind ≡ slice_set lanes k t
      → StepOf K k lanes event behind
  lane_steps nothing k lanes s event t behind there step is = grind (arith, set_steps, own_place)

-- A SILENT EVENT leaves all lanes as they were
module _ {S V : Type 0} (K : LaneKind S V) (silent : IsSilent K) where
  silent_run : (own : Bool) (j : ℕ) (s : S) (event : V) (t : S) → K.is_silent event ≡ true → Run K.Step s (own_or own event (K.gets j event)) t → s ≡ t
  silent_run true j s event t is run = silent.same s event run.0 run.1 is ∙ run.2
  silent_run false j s event t is run = subst (λ (l : List V). Run K.Step s l t) (silent.gives j event is) run

  pub same_lanes : (j k : ℕ) (lanes : List S) (event : V) (behind : List S) → K.is_silent event ≡ true → AllStep K j lanes k event behind → lanes ≡ behind
  same_lanes j k (s ∷ lanes) event (t ∷ behind) is step = grind (arith, silent_run, same_lanes (j + 1) k lanes event behind is step.1)
  same_lanes j k lanes event behind is step = grind arith

module _ {S V E : Type 0} (K : LaneKind S V) (N : Entries V E) (said : ℕ → E → List V) (reads : Reads K N said) (silent : IsSilent K) where
  -- ONE EVENT
  told_run : (j k : ℕ) (s : S) (event : V) (t : S) → Run K.Step s (own_or (j == k) event (K.gets j event)) t → Run K.Step s (happened said j (N.of_lane k event ∷ [])) t
  told_run j k s event t run =
      subst (λ (l : List V). Run K.Step s l t) (sym (append-nil (said j (N.of_lane k event)) ∙ reads.of_lane j k event)) run

  -- each lane by one entry, whether it would be left or not
  pub told_moves : (j k : ℕ) (lanes : List S) (event : V) (behind : List S) → AllStep K j lanes k event behind → AllMove K.Step said j lanes (N.of_lane k event ∷ []) behind
  told_moves j k (s ∷ lanes) event (t ∷ behind) step = (told_run j k s event t step.0, told_moves (j + 1) k lanes event behind step.1)
  told_moves j k lanes event behind step = grind arith

  lane_moves : (quiet : Bool) (j k : ℕ) (s : S) (event : V) (t : S) → K.is_silent event ≡ quiet → Run K.Step s (own_or (j == k) event (K.gets j event)) t
      → Run K.Step s (happened said j (if quiet then [] else N.of_lane k event ∷ [])) t
  lane_moves true j k s event t is run = silent_run K silent (j == k) j s event t is run
  lane_moves false j k s event t is run = told_run j k s event t run

  event_moves : (j k : ℕ) (lanes : List S) (event : V) (behind : List S) → AllStep K j lanes k event behind
      → AllMove K.Step said j lanes (if K.is_silent event then [] else N.of_lane k event ∷ []) behind
  event_moves j k (s ∷ lanes) event (t ∷ behind) step = (lane_moves (K.is_silent event) j k s event t refl step.0, event_moves (j + 1) k lanes event behind step.1)
  event_moves j k lanes event behind step = grind arith

  -- TURNS
  pub turn_moves : (k : ℕ) (lanes : List S) (events : List V) (behind : List S) → Run (StepOf K k) lanes events behind → AllMove K.Step said 0 lanes (turn_entries K N k events) behind
  turn_moves k lanes [] behind run = subst (AllMove K.Step said 0 lanes []) run (none_move K.Step said 0 lanes)
  turn_moves k lanes (event ∷ events) behind run =
      both_move K.Step said 0 lanes run.0 behind (if K.is_silent event then [] else N.of_lane k event ∷ []) (turn_entries K N k events) (event_moves 0 k lanes event run.0 run.1.step)
      (turn_moves k run.0 events behind run.2)

  pub turns_move : (k : ℕ) (lanes : List S) (turns : List (List V)) (behind : List S) → MakeTurns K k lanes turns behind → AllMove K.Step said 0 lanes (round_entries K N k turns) behind
  turns_move k lanes [] behind made = subst (AllMove K.Step said 0 lanes []) made (none_move K.Step said 0 lanes)
  turns_move k lanes (r ∷ turns) behind made =
      both_move K.Step said 0 lanes made.0 behind (turn_entries K N k r) (round_entries K N (k + 1) turns) (turn_moves k lanes r made.0 made.1.run) (turns_move (k + 1) made.0 turns behind made.2)

  -- TICKS
  told_tick : (k : ℕ) (s : S) → (if K.is_silent (K.tick s) then [] else N.of_lane k (K.tick s) ∷ []) ≡ N.of_lane k (K.tick s) ∷ []
  told_tick k s = ap (λ (c : Bool). if c then [] else N.of_lane k (K.tick s) ∷ []) (silent.tick_loud s)

  pub tick_moves : (get : Bool) (k : ℕ) (front : List S) (s : S) (lanes : List S) (t : S) → k ≡ 0 + length front → TicksIf K get s t
      → AllMove K.Step said 0 (front ++ s ∷ lanes) (if get then N.of_lane k (K.tick s) ∷ [] else []) (front ++ t ∷ lanes)
  tick_moves true k front s lanes t place step =
      subst (λ (l : List E). AllMove K.Step said 0 (front ++ s ∷ lanes) l (front ++ t ∷ lanes)) (told_tick k s)
      (event_moves 0 k (front ++ s ∷ lanes) (K.tick s) (front ++ t ∷ lanes) (one_steps K 0 k front s lanes (K.tick s) t (λ i. silent.tick_gives i s) place step))
  tick_moves false k front s lanes t place same =
      subst (λ (x : S). AllMove K.Step said 0 (front ++ s ∷ lanes) [] (front ++ x ∷ lanes)) (sym same) (none_move K.Step said 0 (front ++ s ∷ lanes))

  ticks_move : (k : ℕ) (front lanes : List S) (marks : List Bool) (behind : List S) → k ≡ 0 + length front → TickAll K lanes marks behind
      → AllMove K.Step said 0 (front ++ lanes) (tick_entries K N k lanes marks) (front ++ behind)
  ticks_move k front [] [] [] place ticks = none_move K.Step said 0 (front ++ [])
  ticks_move k front (s ∷ lanes) (had ∷ marks) (t ∷ behind) place ticks =
      let next : k + 1 ≡ 0 + length (front ++ t ∷ []) = one_more k (length front) (length (front ++ t ∷ [])) place (length-append front (t ∷ [])) in
      let rest : AllMove K.Step said 0 ((front ++ t ∷ []) ++ lanes) (tick_entries K N (k + 1) lanes marks) ((front ++ t ∷ []) ++ behind) =
      ticks_move (k + 1) (front ++ t ∷ []) lanes marks behind next ticks.1 in
      both_move K.Step said 0 (front ++ s ∷ lanes) (front ++ t ∷ lanes) (front ++ t ∷ behind) (if gets_tick K s had then N.of_lane k (K.tick s) ∷ [] else []) (tick_entries K N (k + 1) lanes marks)
      (tick_moves (gets_tick K s had) k front s lanes t place ticks.0)
      (subst (λ (l : List S). AllMove K.Step said 0 l (tick_entries K N (k + 1) lanes marks) (front ++ t ∷ behind)) (append_assoc front (t ∷ []) lanes)
      (subst (AllMove K.Step said 0 ((front ++ t ∷ []) ++ lanes) (tick_entries K N (k + 1) lanes marks)) (append_assoc front (t ∷ []) behind) rest))
  ticks_move k front _ _ _ place ticks = absurd ticks

  -- NAMES say nothing
  names_none : (j k : ℕ) (turns : List (List V)) (lanes : List S) → happened said j (left_names K N k turns lanes) ≡ []
  names_none j k (r ∷ turns) (s ∷ lanes) = grind (arith, none_both, one_none, names_none j (k + 1) turns lanes)
  names_none j k turns lanes = grind arith

  -- THE LAWS
  pub lanes_lead : Leads (lanes_of K N) (AllMove K.Step said 0)
  lanes_lead = record {
    none = none_move K.Step said 0;
    both = λ w m v one two first second. both_move K.Step said 0 w m v one two first second;
    round = λ w r v made. turns_move 0 w r v made.turns_made;
    ticks = λ w m v ticks. ticks_move 0 [] w m v refl ticks;
  }

  pub lanes_end : AnswersLead (lanes_of K N) (AllMove K.Step said 0)
  lanes_end = record {
    answer = λ w. nothing_move K.Step said 0 w (N.settled ∷ []) (λ j. append-nil (said j N.settled) ∙ reads.of_answer j);
    names = λ r w part more is. nothing_move K.Step said 0 w part (λ j. front_none K.Step said j part more (left_names K N 0 r w) is (names_none j 0 r w));
  }

-- AND THE ENTRIES OF ANOTHER KIND say nothing of them, where they are read so
module _ {S V T X E : Type 0} (Step : S → V → S → Type 0) (said : ℕ → E → List V) (L : LaneKind T X) (N : Entries X E) (ignores : (j k : ℕ) (event : X) → said j (N.of_lane k event) ≡ [])
    (no_name : (j k : ℕ) → said j (N.left_over k) ≡ []) where
  turn_none : (j k : ℕ) (events : List X) → happened said j (turn_entries L N k events) ≡ []
  turn_none j k [] = refl
  turn_none j k (event ∷ events) = grind (arith, none_both, one_none, turn_none j k events)

  round_none : (j k : ℕ) (turns : List (List X)) → happened said j (round_entries L N k turns) ≡ []
  round_none j k [] = refl
  round_none j k (r ∷ turns) = none_both Step said j (turn_entries L N k r) (round_entries L N (k + 1) turns) (turn_none j k r) (round_none j (k + 1) turns)

  tick_none : (j k : ℕ) (event : X) (c : Bool) → happened said j (if c then N.of_lane k event ∷ [] else []) ≡ []
  tick_none j k event true = append-nil (said j (N.of_lane k event)) ∙ ignores j k event
  tick_none j k event false = refl

  ticks_none : (j k : ℕ) (lanes : List T) (marks : List Bool) → happened said j (tick_entries L N k lanes marks) ≡ []
  ticks_none j k (s ∷ lanes) (had ∷ marks) = grind (arith, none_both, tick_none, ticks_none j (k + 1) lanes marks)
  ticks_none j k lanes marks = grind arith

  left_none : (j k : ℕ) (turns : List (List X)) (lanes : List T) → happened said j (left_names L N k turns lanes) ≡ []
  left_none j k [] lanes = refl
  left_none j k (r ∷ turns) [] = refl
  left_none j k (r ∷ turns) (s ∷ lanes) =
      let name = all_calm L r && (if L.waits_on s then false else true) in
      none_both Step said j (if name then [] else N.left_over k ∷ []) (left_names L N (k + 1) turns lanes) (one_none Step said j name (N.left_over k) (no_name j k))
      (left_none j (k + 1) turns lanes)

  pub lanes_skip : Skips (lanes_of L N) (AllMove Step said 0)
  lanes_skip = record {
    round = λ q w. nothing_move Step said 0 w (round_entries L N 0 q) (λ j. round_none j 0 q);
    ticks = λ v n w. nothing_move Step said 0 w (tick_entries L N 0 v n) (λ j. ticks_none j 0 v n);
    names = λ q v part more is w. nothing_move Step said 0 w part (λ j. front_none Step said j part more (left_names L N 0 q v) is (left_none j 0 q v));
  }
