-- Where the rounds of a settle ran out, a lane of a kind is named exactly where it moved in the last of them, or waits.
use Rattle.std.proofs.Common.{◌≡◌, ◌⊎◌, inl, inr, ℕ, zero, suc, ◌+◌, Bool, true, false, List, [], ◌∷◌, ◌++◌, slice_get, Some, refl, sym, ap, ◌∙◌, subst, arith, append_assoc}
use Rattle.std.specs.Prelude.{◌&&◌, if◌then◌else◌}
use Rattle.lane_kinds.specs.Lanes.{Entries, LaneKind, all_calm, left_names, round_entries, turn_entries}
use Rattle.script_laws.proofs.Places.{InEither, no_place, place_in}

-- A LANE MOVED in a part: by an event that isn't calm
pub record MovedBy {S V E : Type 0} (K : LaneKind S V) (N : Entries V E) (x : ℕ) (part : List E) : Type 0 where
  pub before : List E
  pub event : V
  pub later : List E
  pub is : part ≡ before ++ N.of_lane x event ∷ later
  pub loud : K.is_calm event ≡ false

-- or waits, of lanes from this number on
pub record WaitsBy {S V : Type 0} (K : LaneKind S V) (k x : ℕ) (w : List S) : Type 0 where
  pub index : ℕ
  pub is : x ≡ k + index
  pub lane : S
  pub there : slice_get w index ≡ Some lane
  pub waits : K.waits_on lane ≡ true

module _ {S V E : Type 0} (K : LaneKind S V) (N : Entries V E) where
  -- in a longer part
  pub moved_left : (x : ℕ) (one two : List E) → MovedBy K N x one → MovedBy K N x (one ++ two)
  moved_left x one two given = grind (arith, append_assoc)

  pub moved_right : (x : ℕ) (one two : List E) → MovedBy K N x two → MovedBy K N x (one ++ two)
  moved_right x one two at = record {
    before = one ++ at.before;
    event = at.event;
    later = at.later;
    is = ap (λ (l : List E). one ++ l) at.is ∙ sym (append_assoc one at.before (N.of_lane x at.event ∷ at.later));
    loud = at.loud;
  }

  abbrev pub Named : ℕ → ℕ → List (List V) → List S → Type 0
  Named k x turns w = MovedBy K N x (round_entries K N k turns) ⊎ WaitsBy K k x w

  -- what is silent is calm, and names tell lanes apart
  module _ (silent_calm : (event : V) → K.is_silent event ≡ true → K.is_calm event ≡ true)
      (one_name : (k x : ℕ) → N.left_over k ≡ N.left_over x → k ≡ x) where
    -- A TURN that isn't calm
    not_silent : (event : V) (silent : Bool) → K.is_silent event ≡ silent → K.is_calm event ≡ false → silent ≡ false
    not_silent event true is loud = let both : true ≡ false = sym (silent_calm event is) ∙ loud in absurd (cc both)
    not_silent event false is loud = refl

    abbrev entry_of : ℕ → V → List E
    entry_of k event = if K.is_silent event then [] else N.of_lane k event ∷ []

    own_moved : (k : ℕ) (event : V) → K.is_calm event ≡ false → MovedBy K N k (entry_of k event)
    own_moved k event loud = record {
      before = [];
      event = event;
      later = [];
      is = ap (λ (c : Bool). if c then [] else N.of_lane k event ∷ []) (not_silent event (K.is_silent event) refl loud);
      loud = loud;
    }

    first_or_later : (k : ℕ) (event : V) (events : List V) (calm : Bool) → K.is_calm event ≡ calm → (calm && all_calm K events) ≡ false
        → (all_calm K events ≡ false → MovedBy K N k (turn_entries K N k events)) → MovedBy K N k (entry_of k event ++ turn_entries K N k events)
    first_or_later k event events true is loud more = moved_right k (entry_of k event) (turn_entries K N k events) (more loud)
    first_or_later k event events false is loud more = moved_left k (entry_of k event) (turn_entries K N k events) (own_moved k event is)

    turn_moved : (k : ℕ) (events : List V) → all_calm K events ≡ false → MovedBy K N k (turn_entries K N k events)
    turn_moved k [] loud = absurd (cc loud)
    turn_moved k (event ∷ events) loud =
        first_or_later k event events (K.is_calm event) refl loud (λ later. turn_moved k events later)

    -- WHY A LANE IS NAMED
    name_further : (k x : ℕ) (r : List V) (turns : List (List V)) (s : S) (w : List S) → Named (k + 1) x turns w → Named k x (r ∷ turns) (s ∷ w)
    name_further k x r turns s w (inl moved) = inl (moved_right x (turn_entries K N k r) (round_entries K N (k + 1) turns) moved)
    name_further k x r turns s w (inr at) =
        inr (record { index = suc at.index; is = further at.index at.is; lane = at.lane; there = at.there; waits = at.waits })
      where
        further : (i : ℕ) → x ≡ (k + 1) + i → x ≡ k + suc i
        further i is = omega (arith, is)

    first_why : (k : ℕ) (r : List V) (turns : List (List V)) (s : S) (w : List S) (quiet waits : Bool) → all_calm K r ≡ quiet → K.waits_on s ≡ waits
        → (quiet && (if waits then false else true)) ≡ false → Named k k (r ∷ turns) (s ∷ w)
    first_why k r turns s w false waits is which no_rest =
        inl (moved_left k (turn_entries K N k r) (round_entries K N (k + 1) turns) (turn_moved k r is))
    first_why k r turns s w true true is which no_rest =
        inr (record { index = 0; is = omega (arith); lane = s; there = refl; waits = which })
    first_why k r turns s w true false is which no_rest = absurd (cc no_rest)

    by_name : (k x : ℕ) (r : List V) (turns : List (List V)) (s : S) (w : List S) (before later : List E) (rests : Bool)
        → (all_calm K r && (if K.waits_on s then false else true)) ≡ rests
        → (if rests then [] else N.left_over k ∷ []) ++ left_names K N (k + 1) turns w ≡ before ++ N.left_over x ∷ later
        → ((past : List E) → left_names K N (k + 1) turns w ≡ past ++ N.left_over x ∷ later → Named (k + 1) x turns w)
        → Named k x (r ∷ turns) (s ∷ w)
    by_name k x r turns s w before later true rests is more = name_further k x r turns s w (more before is)
    by_name k x r turns s w [] later false rests is more =
        let same : N.left_over k ≡ N.left_over x = cc is in
        subst (λ (n : ℕ). Named k n (r ∷ turns) (s ∷ w)) (one_name k x same)
        (first_why k r turns s w (all_calm K r) (K.waits_on s) refl refl rests)
    by_name k x r turns s w (y ∷ before) later false rests is more =
        let others : left_names K N (k + 1) turns w ≡ before ++ N.left_over x ∷ later = cc is in
        name_further k x r turns s w (more before others)

    pub named : (k x : ℕ) (turns : List (List V)) (w : List S) (before later : List E)
        → left_names K N k turns w ≡ before ++ N.left_over x ∷ later → Named k x turns w
    named k x [] w before later is = absurd (no_place before (N.left_over x) later is)
    named k x (r ∷ turns) [] before later is = absurd (no_place before (N.left_over x) later is)
    named k x (r ∷ turns) (s ∷ w) before later is =
        by_name k x r turns s w before later (all_calm K r && (if K.waits_on s then false else true)) refl is
        (λ (past : List E) (at : left_names K N (k + 1) turns w ≡ past ++ N.left_over x ∷ later). named (k + 1) x turns w past later at)

-- A LANE IS NAMED where it moved, or waits
pub record NamedIn {S V E : Type 0} (K : LaneKind S V) (N : Entries V E) (x : ℕ) (names : List E) : Type 0 where
  pub front : List E
  pub later : List E
  pub is : names ≡ front ++ N.left_over x ∷ later

-- the turn of a lane that wasn't calm
pub record LoudTurn {S V : Type 0} (K : LaneKind S V) (k x : ℕ) (turns : List (List V)) : Type 0 where
  pub index : ℕ
  pub is : x ≡ k + index
  pub turn : List V
  pub there : slice_get turns index ≡ Some turn
  pub loud : all_calm K turn ≡ false

module _ {S V E : Type 0} (K : LaneKind S V) (N : Entries V E) where
  named_here : (k : ℕ) (calm waits : Bool) (later : List E) → (calm ≡ false) ⊎ (waits ≡ true)
      → NamedIn K N k ((if calm && (if waits then false else true) then [] else N.left_over k ∷ []) ++ later)
  named_here k true true later why = record { front = []; later = later; is = refl }
  named_here k false waits later why = record { front = []; later = later; is = refl }
  named_here k true false later (inl loud) = absurd (cc loud)
  named_here k true false later (inr waits) = absurd (cc waits)

  named_further : (x : ℕ) (one names : List E) → NamedIn K N x names → NamedIn K N x (one ++ names)
  named_further x one names at = record {
    front = one ++ at.front;
    later = at.later;
    is = ap (λ (l : List E). one ++ l) at.is ∙ sym (append_assoc one at.front (N.left_over x ∷ at.later));
  }

  pub named_where : (k x i : ℕ) (turns : List (List V)) (w : List S) (r : List V) (s : S) → x ≡ k + i
      → slice_get turns i ≡ Some r → slice_get w i ≡ Some s → (all_calm K r ≡ false) ⊎ (K.waits_on s ≡ true)
      → NamedIn K N x (left_names K N k turns w)
  named_where k x i [] w r s place turn there why = absurd (cc turn)
  named_where k x i (q ∷ turns) [] r s place turn there why = absurd (cc there)
  named_where k x zero (q ∷ turns) (y ∷ w) r s place turn there why =
      let same : s ≡ y = cc there in
      let same_turn : r ≡ q = cc turn in
      let number : k ≡ x = omega (arith, place) in
      subst (λ (n : ℕ). NamedIn K N n (left_names K N k (q ∷ turns) (y ∷ w))) number
      (named_here k (all_calm K q) (K.waits_on y) (left_names K N (k + 1) turns w)
      (subst (λ (z : S). (all_calm K q ≡ false) ⊎ (K.waits_on z ≡ true)) same
      (subst (λ (l : List V). (all_calm K l ≡ false) ⊎ (K.waits_on s ≡ true)) same_turn why)))
  named_where k x (suc i) (q ∷ turns) (y ∷ w) r s place turn there why =
      named_further x (if all_calm K q && (if K.waits_on y then false else true) then [] else N.left_over k ∷ [])
      (left_names K N (k + 1) turns w)
      (named_where (k + 1) x i turns w r s (omega (arith, place)) turn there why)

  -- which turn it was that moved
  module _ (one_lane : (j x : ℕ) (e f : V) → N.of_lane j e ≡ N.of_lane x f → j ≡ x)
      (one_event : (j x : ℕ) (e f : V) → N.of_lane j e ≡ N.of_lane x f → e ≡ f) where
    record OwnLoud (k x : ℕ) (events : List V) : Type 0 where
      same : k ≡ x
      loud : all_calm K events ≡ false

    and_false : (a b : Bool) → b ≡ false → (a && b) ≡ false
    and_false true b is = is
    and_false false b is = refl

    first_false : (a b : Bool) → a ≡ false → (a && b) ≡ false
    first_false true b is = absurd (cc is)
    first_false false b is = refl

    later_loud : (k x : ℕ) (event : V) (events : List V) → OwnLoud k x events → OwnLoud k x (event ∷ events)
    later_loud k x event events given = grind arith

    in_event : (k x : ℕ) (event : V) (events : List V) (silent : Bool) (before : List E) (f : V) (later : List E)
        → (if silent then [] else N.of_lane k event ∷ []) ++ turn_entries K N k events ≡ before ++ N.of_lane x f ∷ later
        → K.is_calm f ≡ false
        → ((past : List E) → turn_entries K N k events ≡ past ++ N.of_lane x f ∷ later → OwnLoud k x events) → OwnLoud k x (event ∷ events)
    in_event k x event events true before f later is loud more = later_loud k x event events (more before is)
    in_event k x event events false [] f later is loud more = grind (arith, first_false)
    in_event k x event events false (y ∷ before) f later is loud more = grind (arith, later_loud)

    in_turn : (k x : ℕ) (events : List V) (before : List E) (f : V) (later : List E) → turn_entries K N k events ≡ before ++ N.of_lane x f ∷ later
        → K.is_calm f ≡ false → OwnLoud k x events
    in_turn k x [] before f later is loud = absurd (no_place before (N.of_lane x f) later is)
    in_turn k x (event ∷ events) before f later is loud =
        in_event k x event events (K.is_silent event) before f later is loud
        (λ (past : List E) (at : turn_entries K N k events ≡ past ++ N.of_lane x f ∷ later). in_turn k x events past f later at loud)

    further_turn : (k x : ℕ) (r : List V) (turns : List (List V)) → LoudTurn K (k + 1) x turns → LoudTurn K k x (r ∷ turns)
    further_turn k x r turns at = record { index = suc at.index; is = next at.index at.is; turn = at.turn; there = at.there; loud = at.loud }
      where
        next : (i : ℕ) → x ≡ (k + 1) + i → x ≡ k + suc i
        next i is = omega (arith, is)

    by_side : (k x : ℕ) (r : List V) (turns : List (List V)) (before : List E) (f : V) (later : List E) → K.is_calm f ≡ false
        → ((past : List E) → round_entries K N (k + 1) turns ≡ past ++ N.of_lane x f ∷ later → LoudTurn K (k + 1) x turns)
        → InEither (turn_entries K N k r) (round_entries K N (k + 1) turns) before (N.of_lane x f) later → LoudTurn K k x (r ∷ turns)
    by_side k x r turns before f later loud more (inl at) =
        let own : OwnLoud k x r = in_turn k x r before f at.rest at.is loud in
        let same = own.same in
        record { index = 0; is = omega (arith, same); turn = r; there = refl; loud = own.loud }
    by_side k x r turns before f later loud more (inr at) = further_turn k x r turns (more at.later at.is)

    pub loud_turn : (k x : ℕ) (turns : List (List V)) (before : List E) (f : V) (later : List E)
        → round_entries K N k turns ≡ before ++ N.of_lane x f ∷ later → K.is_calm f ≡ false → LoudTurn K k x turns
    loud_turn k x [] before f later is loud = absurd (no_place before (N.of_lane x f) later is)
    loud_turn k x (r ∷ turns) before f later is loud =
        by_side k x r turns before f later loud
        (λ (past : List E) (at : round_entries K N (k + 1) turns ≡ past ++ N.of_lane x f ∷ later). loud_turn (k + 1) x turns past f later at loud)
        (place_in (turn_entries K N k r) (round_entries K N (k + 1) turns) before (N.of_lane x f) later is)
