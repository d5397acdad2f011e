-- The lanes of one kind in a world: a round, its ticks and names go on by the next of them, whatever is beside them.
use Rattle.std.proofs.Common.{◌≡◌, ℕ, zero, suc, ◌+◌, ◌<◌, ◌≤◌, Bool, true, false, List, [], ◌∷◌, ◌++◌, length, take, slice_get, slice_set, Some, refl, sym, ap, ap₂, ◌∙◌, subst, arith, append-nil}
use Rattle.std.proofs.lemmas.Bool.{eq-eqb}
use Rattle.std.specs.Prelude.{◌==◌, ◌&&◌, ◌||◌, if◌then◌else◌}
use Rattle.runs.specs.Run.{Run, run_append}
use Rattle.lane_kinds.proofs.EntryRuns.{Leaves}
use Rattle.lane_kinds.proofs.LaneFronts.{of_both}
use Rattle.lane_kinds.proofs.Lanes.{other_test}
use Rattle.lane_kinds.proofs.LanesMade as made
use Rattle.lane_kinds.proofs.LanesMade.{tick_entry}
use Rattle.lane_kinds.proofs.Places.{set_same}
use Rattle.lane_kinds.specs.LaneFronts.{BeginsTurn, RoundFront, TickFront}
use Rattle.lane_kinds.specs.Lanes.{AllStep, EachOf, Entries, EntryOf, LaneKind, TicksIf, gets_tick, own_or}
use Rattle.lane_kinds.specs.LanesMade.{RoundUpTo, TicksUpTo, name_of, names}
use Rattle.lane_kinds.specs.WorldMade.{InWorld, KindMade, KindRuns, LaneMade, LaneTicked, NamesUpTo, TickedWhere}
use Rattle.lane_kinds.specs.Rounds.{tick_marks}

-- AN EVENT THAT GIVES NOTHING sets one lane
module _ {S V : Type 0} (K : LaneKind S V) where
  pub record OneSet (k : ℕ) (lanes : List S) (s : S) (event : V) (behind : List S) : Type 0 where
    pub after : S
    pub step : K.Step s event after
    pub is : behind ≡ slice_set lanes k after

  other_same : (j k : ℕ) (s : S) (event : V) (t : S) → K.gets j event ≡ [] → (j ≡ k → ⊥) → Run K.Step s (own_or (j == k) event (K.gets j event)) t → t ≡ s
  other_same j k s event t none other run = grind (arith, other_test)

  others_same : (j k : ℕ) (lanes : List S) (event : V) (behind : List S) → ((i : ℕ) → K.gets i event ≡ []) → k < j → AllStep K j lanes k event behind → behind ≡ lanes
  others_same j k (s ∷ lanes) event (t ∷ behind) none less step = grind (arith, other_same, others_same (j + 1) k lanes event behind none (omega (arith, less)) step.1)
  others_same j k lanes event behind none less step = grind arith

  own_step : (j k : ℕ) (s : S) (event : V) (t : S) → j ≡ k → Run K.Step s (own_or (j == k) event (K.gets j event)) t → K.Step s event t
  own_step j k s event t same run = grind (arith, eq-eqb)

  later_set : (k : ℕ) (x : S) (lanes : List S) (s : S) (event : V) (y : S) (behind : List S) → y ≡ x → OneSet k lanes s event behind → OneSet (suc k) (x ∷ lanes) s event (y ∷ behind)
  later_set k x lanes s event y behind same at = record { after = at.after; step = at.step; is = ap₂ (λ (z : S) (l : List S). z ∷ l) same at.is }

  pub one_set : (j k n : ℕ) (lanes : List S) (s : S) (event : V) (behind : List S) → ((i : ℕ) → K.gets i event ≡ []) → n ≡ j + k → slice_get lanes k ≡ Some s → AllStep K j lanes n event behind
      → OneSet k lanes s event behind
  one_set j k n [] s event behind none place there step = absurd (cc there)
  one_set j zero n (x ∷ lanes) s event (t ∷ behind) none place there step = grind (arith, own_step, others_same)
  one_set j (suc k) n (x ∷ lanes) s event (t ∷ behind) none place there step =
      grind (arith, later_set, other_same, one_set (j + 1) k n lanes s event behind none (omega (arith, place)) there step.1)
  one_set j zero n (x ∷ lanes) s event [] none place there step = absurd step
  one_set j (suc k) n (x ∷ lanes) s event [] none place there step = absurd step

own_place : (k : ℕ) → k ≡ 0 + k
own_place k = omega (arith)

and_true : (b : Bool) → b ≡ (b && true)
and_true true = refl
and_true false = refl

module _ {D Side E : Type 0} (W : InWorld D Side E) (laws : KindRuns W) where
  abbrev S : Type 0
  S = W.Lane

  abbrev V : Type 0
  V = W.Event

  abbrev K : LaneKind S V
  K = W.kind

  abbrev N : Entries V E
  N = W.entries

  abbrev lanes : D → List S
  lanes = W.lanes

  abbrev Made : (List S → List E → List S → Type 0) → D → List E → D → Type 0
  Made Of start entries now = KindMade W Of start entries now

  -- A STEP runs the world by what it leaves
  made_run : (side : Side) (k : ℕ) (w : D) (entries : List E) (calm : Bool) (v : D) → LaneMade W side k w entries calm v → Run W.Step w entries v
  made_run side k w entries calm v step = grind arith

  -- A ROUND begins, and goes on by the two steps of the next lane
  pub round_begins : (w : D) (quiet : List Bool) → Made (RoundUpTo K N 0 quiet) w [] w
  round_begins w quiet = record { part_of = made.round_begins K N (lanes w) quiet; stays = refl; run = refl }

  module _ (first_side second_side : Side) (turn : (one two : V) → W.IsStep first_side one → W.IsStep second_side two → W.kind.IsTurn (one ∷ two ∷ [])) where
    pub round_goes_on : (k : ℕ) (start w m v : D) (entries one two : List E) (quiet marks : List Bool) (calm still : Bool) → Made (RoundUpTo K N k quiet) start entries w
        → LaneMade W first_side k w one calm m → LaneMade W second_side k m two still v → k < length quiet → marks ≡ slice_set quiet k (calm && still)
        → Made (RoundUpTo K N (k + 1) marks) start (entries ++ (one ++ two)) v
    round_goes_on k start w m v entries one two quiet marks calm still up first second less is =
        let before : EntryOf K k (lanes w) first.event (lanes m) = laws.entry w k first.event m first.moves in
        let behind : EntryOf K k (lanes m) second.event (lanes v) = laws.entry m k second.event v second.moves in
        let last = if K.is_silent second.event then [] else N.of_lane k second.event ∷ [] in
        record {
          part_of = subst (λ (l : List Bool). RoundUpTo K N (k + 1) l (lanes start) (entries ++ (one ++ two)) (lanes v)) (sym is)
              (made.round_goes_on K N k quiet (lanes start) entries (lanes w) (first.event ∷ second.event ∷ []) (one ++ two) (calm && still) (lanes v) up.part_of
              (record { of_turn = turn first.event second.event first.of_end second.of_end; run = (lanes m, before.step, (lanes v, behind.step, refl)) }) before.within
              (ap₂ (λ (x y : List E). x ++ y) first.leaves (second.leaves ∙ sym (append-nil last)))
              (ap₂ (λ (x y : Bool). x && y) first.rests (second.rests ∙ and_true (K.is_calm second.event))) less);
          stays = laws.stays m k second.event v second.moves ∙ laws.stays w k first.event m first.moves ∙ up.stays;
          run = run_append W.Step start w v entries (one ++ two) up.run
              (run_append W.Step w m v one two (made_run first_side k w one calm m first) (made_run second_side k m two still v second));
        }

  -- MEMORY IS WANTED: before the first step of the next lane, and before its second
  pub round_wants : (k : ℕ) (start now : D) (entries : List E) (quiet : List Bool) → Made (RoundUpTo K N k quiet) start entries now → Made (RoundFront K N) start entries now
  round_wants k start now entries quiet up = record { part_of = made.round_wants K N k quiet (lanes start) entries (lanes now) up.part_of; stays = up.stays; run = up.run }

  module _ (side : Side) (begins : (one : V) → W.IsStep side one → BeginsTurn W.kind (one ∷ [])) where
    pub turn_wants : (k : ℕ) (start w v : D) (entries one : List E) (quiet : List Bool) (calm : Bool) → Made (RoundUpTo K N k quiet) start entries w → LaneMade W side k w one calm v
        → Made (RoundFront K N) start (entries ++ one) v
    turn_wants k start w v entries one quiet calm up step =
        let at : EntryOf K k (lanes w) step.event (lanes v) = laws.entry w k step.event v step.moves in
        let last = if K.is_silent step.event then [] else N.of_lane k step.event ∷ [] in
        record {
          part_of = made.turn_wants K N k quiet (lanes start) entries (lanes w) (step.event ∷ []) one (lanes v) up.part_of (lanes v, at.step, refl) at.within (begins step.event step.of_end)
              (step.leaves ∙ sym (append-nil last));
          stays = laws.stays w k step.event v step.moves ∙ up.stays;
          run = run_append W.Step start w v entries one up.run (made_run side k w one calm v step);
        }

  -- THE TICKS begin, and go on by the next lane, which got one or gets none
  pub ticks_begin : (w : D) (had : List Bool) → Made (TicksUpTo K N 0 (tick_marks had false had)) w [] w
  ticks_begin w had = record { part_of = made.ticks_begin K N (lanes w) had; stays = refl; run = refl }

  record NextTicked (k : ℕ) (lane : S) (had : Bool) (w : D) (entries : List E) (v : D) : Type 0 where
    after : S
    ticks : TicksIf K (gets_tick K lane had) lane after
    set : lanes v ≡ slice_set (lanes w) k after
    leaves : entries ≡ tick_entry K N k (gets_tick K lane had) lane
    stays : W.beside v ≡ W.beside w
    run : Run W.Step w entries v

  next_ticked : (k : ℕ) (get had : Bool) (w : D) (entries : List E) (v : D) (lane : S) → slice_get (lanes w) k ≡ Some lane → get ≡ gets_tick K lane had
      → TickedWhere W get (N.of_lane k (K.tick lane)) w entries v → NextTicked k lane had w entries v
  next_ticked k true had w entries v lane there gets ticked =
      let entry : EntryOf K k (lanes w) (K.tick lane) (lanes v) = laws.entry w k (K.tick lane) v ticked.0 in
      let at : OneSet K k (lanes w) lane (K.tick lane) (lanes v) =
      one_set K 0 k k (lanes w) lane (K.tick lane) (lanes v) (λ i. laws.tick_gives i lane) (own_place k) there entry.step.step in
      grind arith
  next_ticked k false had w entries v lane there gets ticked = record {
    after = lane;
    ticks = subst (λ (b : Bool). TicksIf K b lane lane) gets refl;
    set = ap lanes ticked.0 ∙ sym (set_same (lanes w) k lane there);
    leaves = ticked.1 ∙ ap (λ (b : Bool). tick_entry K N k b lane) gets;
    stays = ap W.beside ticked.0;
    run = subst (λ (l : List E). Run W.Step w l v) (sym ticked.1) (sym ticked.0);
  }

  pub ticks_go_on : (k : ℕ) (start w v : D) (entries one : List E) (had have : List Bool) (some mark get : Bool) → Made (TicksUpTo K N k (tick_marks had some have)) start entries w
      → slice_get have k ≡ Some mark → LaneTicked W k mark get w one v → k < length have
      → Made (TicksUpTo K N (k + 1) (tick_marks had (some || get) (slice_set have k (mark || get)))) start (entries ++ one) v
  ticks_go_on k start w v entries one had have some mark get up now next less =
      let at : NextTicked k next.lane mark w one v = next_ticked k get mark w one v next.lane next.there next.gets next.ticked in
      record {
        part_of = made.ticks_go_on K N k had have some mark get (lanes start) entries one (lanes w) (lanes v) next.lane at.after up.part_of now next.there at.set at.ticks next.gets at.leaves less;
        stays = at.stays ∙ up.stays;
        run = run_append W.Step start w v entries one up.run at.run;
      }

  -- by an event of this lane that is its tick; or by none
  pub lane_gets : (k : ℕ) (had : Bool) (w : D) (event : V) (v : D) (lane : S) → slice_get (lanes w) k ≡ Some lane → gets_tick K lane had ≡ true → event ≡ K.tick lane
      → W.Step w (N.of_lane k event) v → LaneTicked W k had true w (N.of_lane k event ∷ []) v
  lane_gets k had w event v lane there gets is moves = grind arith

  pub lane_gets_none : (k : ℕ) (had : Bool) (w : D) (lane : S) → slice_get (lanes w) k ≡ Some lane → gets_tick K lane had ≡ false → LaneTicked W k had false w [] w
  lane_gets_none k had w lane there gets = record { lane = lane; there = there; gets = sym gets; ticked = (refl, refl) }

  -- memory is wanted among them
  pub ticks_want : (k : ℕ) (start now : D) (had have : List Bool) (entries : List E) (some : Bool) → Made (TicksUpTo K N k (tick_marks had some have)) start entries now → k ≤ length (lanes start)
      → Made (λ start part now. TickFront K N 0 start (take (length start) had) part now) start entries now
  ticks_want k start now had have entries some up within =
      record { part_of = made.ticks_want K N k had some have (lanes start) entries (lanes now) up.part_of within; stays = up.stays; run = up.run }

  -- THE NAMES begin, and go on by the next lane's
  pub names_begin : (w : D) (quiet : List Bool) → NamesUpTo W 0 w quiet []
  names_begin w quiet = record { are = refl }

  pub names_go_on : (k : ℕ) (w : D) (quiet : List Bool) (entries one : List E) (calm : Bool) (lane : S) → NamesUpTo W k w quiet entries → slice_get (lanes w) k ≡ Some lane
      → slice_get quiet k ≡ Some calm → one ≡ name_of K N k calm lane → NamesUpTo W (k + 1) w quiet (entries ++ one)
  names_go_on k w quiet entries one calm lane up there mark is =
      record { are = made.names_go_on K N k (lanes w) quiet entries one calm lane up.are there mark is }

  -- THEY LEAVE THE WORLD as it is
  one_leaves : (none : Bool) (k : ℕ) → EachOf (Leaves W.Step) (if none then [] else N.left_over k ∷ [])
  one_leaves true k = tt
  one_leaves false k = (λ w. laws.left k w, tt)

  pub names_leave : (k : ℕ) (marks : List Bool) (named : List S) → EachOf (Leaves W.Step) (names K N k marks named)
  names_leave k (quiet ∷ marks) (s ∷ named) = grind (arith, of_both, one_leaves, names_leave (k + 1) marks named)
  names_leave k marks named = grind arith
