-- A round, its ticks and names up to a lane: they begin, go on by the next lane, and are those of all lanes after the
-- last. Where memory is wanted, what was made is a front.
use Rattle.std.proofs.Common.{◌≡◌, ℕ, zero, suc, ◌+◌, ◌<◌, ◌≤◌, Bool, true, false, inl, List, [], ◌∷◌, ◌++◌, length, map, take, drop, replicate, slice_get, slice_set, Some, refl, sym, ap, ap₂, ◌∙◌, subst, arith, append_assoc, append-nil, length-append, take-append-drop}
use Rattle.std.specs.Prelude.{◌&&◌, ◌||◌, if◌then◌else◌}
use Rattle.runs.specs.Run.{Run}
use Rattle.lane_kinds.proofs.LaneCounts.{turns_many}
use Rattle.lane_kinds.proofs.Places.{after_one, drop_set, drop_whole, get_set, map_both, same_first, same_next, take_length, take_most, take_one, take_set, take_set_one, take_whole, take_within}
use Rattle.lane_kinds.proofs.RoundsMade.{MarksSay}
use Rattle.lane_kinds.specs.LaneFronts.{BeginsTurn, RoundFront, TickFront}
use Rattle.lane_kinds.specs.Lanes.{Entries, LaneKind, MakeRound, MakeTurns, MakesTurn, StepOf, TickAll, TicksIf, all_calm, are_still, gets_tick, lanes_of, left_names, marked, round_entries, some_tick, tick_entries, turn_entries, unmarked}
use Rattle.lane_kinds.specs.LanesMade.{RoundUpTo, TicksUpTo, all_true, name_of, names}
use Rattle.lane_kinds.specs.RoundsMade.{RoundSaid, TicksMade}
use Rattle.lane_kinds.specs.Rounds.{tick_marks}

or_false : (b : Bool) → (b || false) ≡ b
or_false true = refl
or_false false = refl

or_assoc : (a b c : Bool) → (a || (b || c)) ≡ ((a || b) || c)
or_assoc true b c = refl
or_assoc false b c = refl

pub or_parts : (a b : Bool) → (a || b) ≡ false → (a ≡ false) × (b ≡ false)
or_parts true b is = absurd (cc is)
or_parts false b is = (refl, is)

-- MARKS of no lane
pub fresh_marks : {S : Type 0} (most : ℕ) (lanes : List S) → length lanes ≤ most → take (length lanes) (replicate most false) ≡ unmarked lanes
fresh_marks most [] few = refl
fresh_marks zero (s ∷ lanes) few = absurd (omega (arith, few))
fresh_marks (suc most) (s ∷ lanes) few = ap (λ (l : List Bool). false ∷ l) (fresh_marks most lanes (omega (arith, few)))

-- ONE LANE IS SET after the first ones, of lanes whose rest is as it was
record SetAt {S : Type 0} (k : ℕ) (start lanes behind : List S) (s t : S) : Type 0 where
  front : take (k + 1) start ≡ take k start ++ s ∷ []
  now : take (k + 1) behind ≡ take k lanes ++ t ∷ []
  others : drop (k + 1) behind ≡ drop (k + 1) start
  long : length (take k start) ≡ k

set_at : {S : Type 0} (k : ℕ) (start lanes behind : List S) (s t : S) → drop k lanes ≡ drop k start → slice_get lanes k ≡ Some s → behind ≡ slice_set lanes k t → SetAt k start lanes behind s t
set_at {S} k start lanes behind s t same there is =
    let first : slice_get start k ≡ Some s = sym (same_first start lanes k same) ∙ there in
    record {
      front = ap (λ (n : ℕ). take n start) (after_one k) ∙ take_one start k s first;
      now = ap (λ (n : ℕ). take n behind) (after_one k) ∙ ap (λ (l : List S). take (suc k) l) is ∙ take_one (slice_set lanes k t) k t (get_set lanes k s t there)
          ∙ ap (λ (l : List S). l ++ t ∷ []) (take_set lanes k t);
      others = ap (λ (n : ℕ). drop n behind) (after_one k) ∙ ap (λ (l : List S). drop (suc k) l) is ∙ drop_set lanes k t ∙ same_next start lanes k same
          ∙ sym (ap (λ (n : ℕ). drop n start) (after_one k));
      long = take_length start k s first;
    }

module _ {S V E : Type 0} (K : LaneKind S V) (N : Entries V E) where
  -- A ROUND begins, and goes on by the next lane's turn
  pub round_begins : (lanes : List S) (quiet : List Bool) → RoundUpTo K N 0 quiet lanes [] lanes
  round_begins lanes quiet = record { steps = []; made = refl; many = refl; within = omega (arith); leaves = refl; marks = refl }

  turns_more : (k n : ℕ) (lanes : List S) (turns : List (List V)) (m : List S) (r : List V) (behind : List S) → n ≡ k + length turns → MakeTurns K k lanes turns m → MakesTurn K n m r behind
      → MakeTurns K k lanes (turns ++ r ∷ []) behind
  turns_more k n lanes (q ∷ turns) m r behind place made one = (made.0, made.1, turns_more (k + 1) n made.0 turns m r behind (omega (arith, place)) made.2 one)
  turns_more k n lanes turns m r behind place made one = grind arith

  turn_alone : (j n : ℕ) (r : List V) → n ≡ j + 0 → round_entries K N j (r ∷ []) ≡ turn_entries K N n r
  turn_alone j n r place = let same : j ≡ n = omega (arith, place) in append-nil (turn_entries K N j r) ∙ ap (λ (i : ℕ). turn_entries K N i r) same

  entries_more : (j n : ℕ) (turns : List (List V)) (r : List V) → n ≡ j + length turns → round_entries K N j (turns ++ r ∷ []) ≡ round_entries K N j turns ++ turn_entries K N n r
  entries_more j n [] r place = turn_alone j n r place
  entries_more j n (q ∷ turns) r place = grind (arith, append_assoc, entries_more (j + 1) n turns r (omega (arith, place)))

  one_longer : (k n m : ℕ) → n ≡ m + 1 → m ≡ k → n ≡ k + 1
  one_longer k n m one two = omega (arith, one, two)

  place_is : (k n : ℕ) → n ≡ k → k ≡ 0 + n
  place_is k n is = omega (arith, is)

  next_within : (k n m : ℕ) → k < n → n ≡ m → k + 1 ≤ m
  next_within k n m less same = omega (arith, less, same)

  pub round_goes_on : (k : ℕ) (quiet : List Bool) (start : List S) (entries : List E) (w : List S) (r : List V) (one : List E) (calm : Bool) (v : List S) → RoundUpTo K N k quiet start entries w
      → MakesTurn K k w r v → k < length w → one ≡ turn_entries K N k r → calm ≡ all_calm K r → k < length quiet → RoundUpTo K N (k + 1) (slice_set quiet k calm) start (entries ++ one) v
  round_goes_on k quiet start entries w r one calm v up turn there leaves calm_is less =
      grind (arith, turns_more, place_is, one_longer, length-append, next_within, turns_many, entries_more, slice_set, after_one, take_set_one, map_both)

  -- it is a round after the last lane
  pub round_made : (quiet : List Bool) (start : List S) (entries : List E) (now : List S) (up : RoundUpTo K N (length start) quiet start entries now) → MakeRound K start up.steps now
  round_made quiet start entries now up = record { turns_made = up.made; many = up.many }

  marks_say : (steps : List (List V)) → are_still K steps ≡ all_true (map (all_calm K) steps)
  marks_say [] = refl
  marks_say (r ∷ steps) = ap (λ (b : Bool). all_calm K r && b) (marks_say steps)

  pub round_quiet : (k : ℕ) (quiet : List Bool) (start : List S) (entries : List E) (now : List S) (up : RoundUpTo K N k quiet start entries now) (all : Bool) → all_true (take k quiet) ≡ all
      → are_still K up.steps ≡ all
  round_quiet k quiet start entries now up all is = marks_say up.steps ∙ ap all_true (sym up.marks) ∙ is

  pub round_said : (quiet : List Bool) (start : List S) (entries : List E) (now : List S) → RoundUpTo K N (length start) quiet start entries now
      → RoundSaid (lanes_of K N) (map (all_calm K)) (take (length start) quiet) start entries now
  round_said quiet start entries now up = record { steps = up.steps; round = record { made = round_made quiet start entries now up; leaves = up.leaves }; marks = up.marks }

  pub round_many : (k : ℕ) (quiet : List Bool) (start : List S) (entries : List E) (now : List S) → RoundUpTo K N k quiet start entries now → length now ≡ length start
  round_many k quiet start entries now up = turns_many K 0 start up.steps now up.made

  -- where memory is wanted, before the next lane's turn or within it
  same_within : (n k m : ℕ) → n ≡ k → k ≤ m → n ≤ m
  same_within n k m is few = omega (arith, is, few)

  pub round_wants : (k : ℕ) (quiet : List Bool) (start : List S) (entries : List E) (now : List S) → RoundUpTo K N k quiet start entries now → RoundFront K N start entries now
  round_wants k quiet start entries now up = grind (arith, same_within, append-nil)

  still_within : (n k m l : ℕ) → n ≡ k → k < m → m ≡ l → n < l
  still_within n k m l is less same = omega (arith, is, less, same)

  pub turn_wants : (k : ℕ) (quiet : List Bool) (start : List S) (entries : List E) (w : List S) (begun : List V) (one : List E) (v : List S) → RoundUpTo K N k quiet start entries w
      → Run (StepOf K k) w begun v → k < length w → BeginsTurn K begun → one ≡ turn_entries K N k begun → RoundFront K N start (entries ++ one) v
  turn_wants k quiet start entries w begun one v up run there begins is = grind (arith, same_within, turns_many)

  -- THE TICKS begin, and go on by the next lane's
  pub ticks_begin : (lanes : List S) (had : List Bool) → TicksUpTo K N 0 (tick_marks had false had) lanes [] lanes
  ticks_begin lanes had = record { ticks = tt; others = refl; leaves = refl; any = refl; marks = refl; same_marks = refl }

  ticks_both : (lanes : List S) (marks : List Bool) (behind : List S) (s : S) (had : Bool) (t : S) → TickAll K lanes marks behind → TicksIf K (gets_tick K s had) s t
      → TickAll K (lanes ++ s ∷ []) (marks ++ had ∷ []) (behind ++ t ∷ [])
  ticks_both [] [] [] s had t ticks one = (one, tt)
  ticks_both (x ∷ lanes) (mark ∷ marks) (y ∷ behind) s had t ticks one = (ticks.0, ticks_both lanes marks behind s had t ticks.1 one)
  ticks_both _ _ _ s had t ticks one = absurd ticks

  abbrev pub tick_entry : ℕ → Bool → S → List E
  tick_entry j get s = if get then N.of_lane j (K.tick s) ∷ [] else []

  ticks_leave_both : (j n : ℕ) (lanes : List S) (marks : List Bool) (behind : List S) (s : S) (had : Bool) → TickAll K lanes marks behind → n ≡ j + length lanes
      → tick_entries K N j (lanes ++ s ∷ []) (marks ++ had ∷ []) ≡ tick_entries K N j lanes marks ++ tick_entry n (gets_tick K s had) s
  ticks_leave_both j n (x ∷ lanes) (mark ∷ marks) (y ∷ behind) s had ticks is =
      grind (arith, append_assoc, ticks_leave_both (j + 1) n lanes marks behind s had ticks.1 (omega (arith, is)))
  ticks_leave_both j n lanes marks behind s had ticks is = grind (arith, append-nil)

  some_both : (lanes : List S) (marks : List Bool) (behind : List S) (s : S) (had : Bool) → TickAll K lanes marks behind
      → some_tick K (lanes ++ s ∷ []) (marks ++ had ∷ []) ≡ (some_tick K lanes marks || gets_tick K s had)
  some_both (x ∷ lanes) (mark ∷ marks) (y ∷ behind) s had ticks = grind (arith, or_assoc, some_both lanes marks behind s had ticks.1)
  some_both lanes marks behind s had ticks = grind (arith, or_false)

  marked_both : (lanes : List S) (marks : List Bool) (behind : List S) (s : S) (had : Bool) → TickAll K lanes marks behind
      → marked K (lanes ++ s ∷ []) (marks ++ had ∷ []) ≡ marked K lanes marks ++ (had || gets_tick K s had) ∷ []
  marked_both [] [] [] s had ticks = refl
  marked_both (x ∷ lanes) (mark ∷ marks) (y ∷ behind) s had ticks = ap (λ (l : List Bool). (mark || gets_tick K x mark) ∷ l) (marked_both lanes marks behind s had ticks.1)
  marked_both _ _ _ s had ticks = absurd ticks

  lane_more : (k : ℕ) (had have : List Bool) (some mark get : Bool) (start : List S) (entries one : List E) (w v : List S) (s t : S) → TicksUpTo K N k (tick_marks had some have) start entries w
      → slice_get had k ≡ Some mark → slice_get w k ≡ Some s → v ≡ slice_set w k t → TicksIf K (gets_tick K s mark) s t → get ≡ gets_tick K s mark → one ≡ tick_entry k (gets_tick K s mark) s
      → k < length have → TicksUpTo K N (k + 1) (tick_marks had (some || get) (slice_set have k (mark || get))) start (entries ++ one) v
  lane_more k had have some mark get start entries one w v s t up before there is ticks gets leaves less =
      let at : SetAt k start w v s t = set_at k start w v s t up.others there is in
      let marks : take (k + 1) had ≡ take k had ++ mark ∷ [] = ap (λ (n : ℕ). take n had) (after_one k) ∙ take_one had k mark before in
      grind (arith, ticks_both, ticks_leave_both, place_is, some_both, slice_set, after_one, take_set_one, marked_both, drop_set, same_next)

  pub ticks_go_on : (k : ℕ) (had have : List Bool) (some mark get : Bool) (start : List S) (entries one : List E) (w v : List S) (s t : S) → TicksUpTo K N k (tick_marks had some have) start entries w
      → slice_get have k ≡ Some mark → slice_get w k ≡ Some s → v ≡ slice_set w k t → TicksIf K (gets_tick K s mark) s t → get ≡ gets_tick K s mark → one ≡ tick_entry k (gets_tick K s mark) s
      → k < length have → TicksUpTo K N (k + 1) (tick_marks had (some || get) (slice_set have k (mark || get))) start (entries ++ one) v
  ticks_go_on k had have some mark get start entries one w v s t up now there is ticks gets leaves less =
      lane_more k had have some mark get start entries one w v s t up (sym (same_first had have k up.same_marks) ∙ now) there is ticks gets leaves less

  -- they are all after the last lane
  pub ticked_many : (lanes : List S) (marks : List Bool) (behind : List S) → TickAll K lanes marks behind → length behind ≡ length lanes
  ticked_many [] [] [] ticks = refl
  ticked_many (s ∷ lanes) (mark ∷ marks) (t ∷ behind) ticks = ap suc (ticked_many lanes marks behind ticks.1)
  ticked_many _ _ _ ticks = absurd ticks

  pub ticks_made : (had : List Bool) (some : Bool) (have : List Bool) (start : List S) (entries : List E) (now : List S) → TicksUpTo K N (length start) (tick_marks had some have) start entries now
      → TicksMade (lanes_of K N) (tick_marks (take (length start) had) some (take (length start) have)) start entries now
  ticks_made had some have start entries now up = grind (arith, take_whole, take_most, drop_whole)

  none_left : (j : ℕ) (get : Bool) (s : S) → get ≡ false → tick_entry j get s ≡ []
  none_left j true s is = absurd (cc is)
  none_left j false s is = refl

  -- none of them got one, and nothing was left
  pub no_entries : (j : ℕ) (lanes : List S) (marks : List Bool) → some_tick K lanes marks ≡ false → tick_entries K N j lanes marks ≡ []
  no_entries j [] marks is = refl
  no_entries j (s ∷ lanes) [] is = refl
  no_entries j (s ∷ lanes) (had ∷ marks) is =
      let parts = or_parts (gets_tick K s had) (some_tick K lanes marks) is in
      ap₂ (λ (x y : List E). x ++ y) (none_left j (gets_tick K s had) s parts.0) (no_entries (j + 1) lanes marks parts.1)

  -- where memory is wanted
  none_more : (j : ℕ) (lanes : List S) (marks : List Bool) → TickFront K N j lanes marks [] lanes
  none_more j [] marks = record { is = refl; lanes_stay = refl }
  none_more j (s ∷ lanes) [] = record { is = refl; lanes_stay = refl }
  none_more j (s ∷ lanes) (had ∷ marks) = inl (record { is = refl; lanes_stay = refl })

  pub front_whole : (j : ℕ) (lanes : List S) (marks : List Bool) (behind : List S) → TickAll K lanes marks behind → TickFront K N j lanes marks (tick_entries K N j lanes marks) behind
  front_whole j (s ∷ lanes) (had ∷ marks) (t ∷ behind) ticks = grind (arith, front_whole (j + 1) lanes marks behind ticks.1)
  front_whole j lanes marks behind ticks = grind arith

  front_more : (j : ℕ) (lanes : List S) (marks : List Bool) (behind rest : List S) (more : List Bool) → TickAll K lanes marks behind
      → TickFront K N j (lanes ++ rest) (marks ++ more) (tick_entries K N j lanes marks) (behind ++ rest)
  front_more j (s ∷ lanes) (had ∷ marks) (t ∷ behind) rest more ticks = grind (arith, front_more (j + 1) lanes marks behind rest more ticks.1)
  front_more j lanes marks behind rest more ticks = grind (arith, none_more)

  pub ticks_want : (k : ℕ) (had : List Bool) (some : Bool) (have : List Bool) (start : List S) (entries : List E) (now : List S) → TicksUpTo K N k (tick_marks had some have) start entries now → k ≤ length start
      → TickFront K N 0 start (take (length start) had) entries now
  ticks_want k had some have start entries now up within =
      let n = length start in
      let more = drop k (take n had) in
      let marks : take k had ++ more ≡ take n had = ap (λ (l : List Bool). l ++ more) (sym (take_within k n had within)) ∙ take-append-drop k (take n had) in
      let lanes : take k now ++ drop k start ≡ now = ap (λ (l : List S). take k now ++ l) (sym up.others) ∙ take-append-drop k now in
      subst (λ (l : List S). TickFront K N 0 l (take n had) entries now) (take-append-drop k start)
      (subst (λ (l : List Bool). TickFront K N 0 (take k start ++ drop k start) l entries now) marks
      (subst (λ (l : List E). TickFront K N 0 (take k start ++ drop k start) (take k had ++ more) l now) (sym up.leaves)
      (subst (λ (l : List S). TickFront K N 0 (take k start ++ drop k start) (take k had ++ more) (tick_entries K N 0 (take k start) (take k had)) l) lanes
      (front_more 0 (take k start) (take k had) (take k now) (drop k start) more up.ticks))))

  -- NAMES by the marks of a round are those that are left over
  pub left_named : (k : ℕ) (steps : List (List V)) (lanes : List S) → names K N k (map (all_calm K) steps) lanes ≡ left_names K N k steps lanes
  left_named k [] lanes = refl
  left_named k (r ∷ steps) [] = refl
  left_named k (r ∷ steps) (s ∷ lanes) = ap (λ (l : List E). name_of K N k (all_calm K r) s ++ l) (left_named (k + 1) steps lanes)

  no_lanes : (k : ℕ) (marks : List Bool) → names K N k marks [] ≡ []
  no_lanes k [] = refl
  no_lanes k (quiet ∷ marks) = refl

  -- WHAT THE MARKS SAY of a round, its names and its ticks
  pub lanes_say : MarksSay (lanes_of K N) (map (all_calm K)) all_true (names K N 0)
  lanes_say = record { quiet = marks_say; names = λ steps lanes. left_named 0 steps lanes; no_ticks = λ lanes marks none. no_entries 0 lanes marks none }

  first_zero : (j n : ℕ) → n ≡ j + 0 → n ≡ j
  first_zero j n is = omega (arith, is)

  names_split : (k j n : ℕ) (marks : List Bool) (lanes : List S) → n ≡ j + k → names K N j (take k marks) (take k lanes) ++ names K N n (drop k marks) (drop k lanes) ≡ names K N j marks lanes
  names_split (suc k) j n (quiet ∷ marks) (s ∷ lanes) is = grind (arith, append_assoc, names_split k (j + 1) n marks lanes (omega (arith, is)))
  names_split k j n marks lanes is = grind (arith, first_zero, no_lanes)

  names_both : (j n : ℕ) (marks more : List Bool) (lanes others : List S) → length marks ≡ length lanes → n ≡ j + length lanes
      → names K N j (marks ++ more) (lanes ++ others) ≡ names K N j marks lanes ++ names K N n more others
  names_both j n [] more [] others long is = ap (λ (i : ℕ). names K N i more others) (sym (first_zero j n is))
  names_both j n (quiet ∷ marks) more (s ∷ lanes) others long is =
      ap (λ (l : List E). name_of K N j quiet s ++ l) (names_both (j + 1) n marks more lanes others (omega (arith, long)) (omega (arith, is)))
      ∙ sym (append_assoc (name_of K N j quiet s) (names K N (j + 1) marks lanes) (names K N n more others))
  names_both j n [] more (s ∷ lanes) others long is = absurd (omega (arith, long))
  names_both j n (quiet ∷ marks) more [] others long is = absurd (omega (arith, long))

  pub names_go_on : (k : ℕ) (lanes : List S) (quiet : List Bool) (entries one : List E) (calm : Bool) (lane : S) → entries ≡ names K N 0 (take k quiet) (take k lanes) → slice_get lanes k ≡ Some lane
      → slice_get quiet k ≡ Some calm → one ≡ name_of K N k calm lane → entries ++ one ≡ names K N 0 (take (k + 1) quiet) (take (k + 1) lanes)
  names_go_on k lanes quiet entries one calm lane are there mark is =
      let next : take (k + 1) lanes ≡ take k lanes ++ lane ∷ [] = ap (λ (n : ℕ). take n lanes) (after_one k) ∙ take_one lanes k lane there in
      let marks : take (k + 1) quiet ≡ take k quiet ++ calm ∷ [] = ap (λ (n : ℕ). take n quiet) (after_one k) ∙ take_one quiet k calm mark in
      let long : length (take k lanes) ≡ k = take_length lanes k lane there in
      let same : length (take k quiet) ≡ length (take k lanes) = take_length quiet k calm mark ∙ sym long in
      ap₂ (λ (x y : List E). x ++ y) are (is ∙ sym (append-nil (name_of K N k calm lane)))
      ∙ sym (names_both 0 k (take k quiet) (calm ∷ []) (take k lanes) (lane ∷ []) same (place_is k (length (take k lanes)) long))
      ∙ ap₂ (λ (m : List Bool) (l : List S). names K N 0 m l) (sym marks) (sym next)

  -- the names of the first lanes are a front of all
  pub front_named : (k : ℕ) (lanes : List S) (quiet : List Bool) (part : List E) → k ≤ length lanes → part ≡ names K N 0 (take k quiet) (take k lanes)
      → part ++ names K N k (drop k (take (length lanes) quiet)) (drop k lanes) ≡ names K N 0 (take (length lanes) quiet) lanes
  front_named k lanes quiet part within is =
      let all = take (length lanes) quiet in
      ap (λ (l : List E). l ++ names K N k (drop k all) (drop k lanes)) (is ∙ ap (λ (m : List Bool). names K N 0 m (take k lanes)) (sym (take_within k (length lanes) quiet within)))
      ∙ names_split k 0 k all lanes (place_is k k refl)
