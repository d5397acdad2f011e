-- Each tick in the part of a settle comes where its lane isn't finished though its server runs, and both ends are still;
-- and where nobody forged the lane, where a packet was lost since the queues were last emptied.
use Rattle.std.proofs.Common.{◌≡◌, inl, inr, ℕ, zero, suc, ◌+◌, ◌≤◌, Bool, true, false, List, [], ◌∷◌, ◌++◌, slice_get, Some, refl, sym, ap, ◌∙◌, subst, arith, append_assoc, append-nil}
use Rattle.std.proofs.lemmas.Option.{slice_get_within}
use Rattle.std.specs.Prelude.{if◌then◌else◌, ⊤}
use Rattle.ldc_queue.specs.declared.end.End.{End}
use Rattle.vio_tag.specs.declared.cause.Cause.TheVariants as the_cause
use Rattle.world_parts.specs.lane_models.WireEvent.{Reset}
use Rattle.world_parts.specs.lane_laws.CalmEnds.{IsStep}
use Rattle.runs.specs.Lawful.{log_of}
use Rattle.runs.specs.Run.{Run, run_append}
use Rattle.world_parts.specs.lane_laws.DiskLog.{after, nothing_yet}
use Rattle.world_parts.specs.lane_models.DiskEvent.{DiskEvent, OnWire}
use Rattle.world_parts.specs.lane_models.LaneState.{IsShape, LaneState, Shape, fresh}
use Rattle.world_parts.specs.lane_models.LaneStep.{LaneStep}
use Rattle.world_parts.specs.lane_models.Reached.{IsReached}
use Rattle.lane_kinds.proofs.Lanes.{own_turns}
use Rattle.lane_kinds.proofs.Moving.{none_both}
use Rattle.lane_kinds.specs.Lanes.{OwnTurns}
use Rattle.lane_kinds.proofs.Leading as kind
use Rattle.lane_kinds.proofs.Sums.{and_left, and_right}
use Rattle.lane_kinds.specs.Laws.{AnswersLead, FrontsLeadWhere, KeepsStanding, LeadsWhere}
use Rattle.lane_kinds.proofs.EntriesEach.{first_each}
use Rattle.lane_kinds.proofs.EntryRuns.{names_each}
use Rattle.lane_kinds.proofs.FirstKept.{first_ends_where, first_fronts_where, first_leads_where, kept_both}
use Rattle.lane_kinds.specs.Both.{Two}
use Rattle.lane_kinds.specs.Fronts.{SettleFront}
use Rattle.lane_kinds.specs.Settles.{SettlePart}
use Rattle.world_parts.specs.switch_laws.Ports.{ports}
use Rattle.world_parts.proofs.domain_laws.DiskParts.{disks_told, is_of_disks, of_disks, same_happened}
use Rattle.world_parts.proofs.domain_laws.LineEntries.{EachEntry, StepsHave, disks_begun, disks_each, each_as, each_in}
use Rattle.world_parts.specs.domain_laws.Domain.{Lanes, lanes, port_entries}
use Rattle.world_parts.specs.domain_laws.Lines.{fronts as all_fronts}
use Rattle.script_laws.proofs.Untold.{all_told, told_of_disks}
use Rattle.world_parts.proofs.world_laws.LaneRounds.{quiet_finished, quiet_same, round_keeps}
use Rattle.world_parts.proofs.world_laws.LaneTicks.{either, gets_where, waits_where}
use Rattle.world_parts.proofs.world_laws.DiskLaws.{gives_nothing}
use Rattle.world_parts.proofs.world_laws.Moving.{ends, fronts_move, happened_both, leads, moved_reached, moves_on, settled_moves, stay}
use Rattle.world_parts.specs.world_laws.Along.{LanesMove, event_at, happened}
use Rattle.world_parts.specs.world_laws.Begun.{NoMore, TickFront, fronts}
use Rattle.world_parts.specs.world_laws.Moves.{is_tick}
use Rattle.world_parts.specs.world_laws.Rounds.{Each, LaneRound, MakeRound, MakesRound, are_quiet, is_quiet}
use Rattle.world_parts.specs.world_laws.Settle.{OfLane, SettleEntry, Settled, disk_entries, disks, left_over, round_entries, tick_entries}
use Rattle.world_parts.specs.world_laws.Sums.{IsUnforged}
use Rattle.world_parts.specs.world_laws.DiskKind.{disk_kind, tick, waits_on}
use Rattle.world_parts.specs.world_laws.Ticks.{TickLanes, gets_tick}
use Rattle.lane_kinds.proofs.Places.{get_within}
use Rattle.world_parts.proofs.world_laws.LaneLists.{each_there, other_event, lane_moved, many_moved}
use Rattle.script_laws.proofs.Places.{InEither, no_place, place_in}
use Rattle.script_laws.proofs.Stillness.{calm_round, still_by}
use Rattle.script_laws.specs.Still.{AreStillBy}

-- NO STEP is a tick
abbrev pub NoTick : SettleEntry → Type 0
NoTick (OfLane k event) = is_tick event ≡ false
NoTick _ = ⊤

pub step_none : (k : ℕ) (e : End) (event : DiskEvent) → IsStep e event → NoTick (OfLane k event)
step_none k e (OnWire (Reset d the_cause.Tick packet lost)) own = absurd (cc own.1)
step_none k e _ own = refl

tick_steps : StepsHave NoTick
tick_steps = record { of_disk = step_none; of_port = λ k e event own. tt }

-- A TICK of this lane after so much of the part
pub record TickAt (x : ℕ) (so_far : List SettleEntry) (start : LaneState) : Type 0 where
  pub lane : LaneState
  pub run : Run LaneStep start (happened x so_far) lane
  pub waits : waits_on lane ≡ true
  pub lost : IsUnforged lane → lane.wire.lossy ≡ true
  pub still : (shape : Shape) (events : List DiskEvent) → IsShape shape → Run LaneStep (fresh shape) events start
      → AreStillBy (log_of after (nothing_yet shape) (events ++ happened x so_far))

abbrev pub TicksStand : List LaneState → List SettleEntry → Type 0
TicksStand start part =
    (x : ℕ) (event : DiskEvent) (so_far rest : List SettleEntry) (s : LaneState) → is_tick event ≡ true
    → part ≡ so_far ++ OfLane x event ∷ rest → slice_get start x ≡ Some s → TickAt x so_far s

none_stand : (start : List LaneState) (part : List SettleEntry) → EachEntry NoTick part → TicksStand start part
none_stand start part none x event so_far rest s is place there = grind (arith, each_in)

-- ONE STRETCH BEHIND ANOTHER
pub record MovedTo (x : ℕ) (part : List SettleEntry) (s : LaneState) (behind : List LaneState) : Type 0 where
  pub lane : LaneState
  pub there : slice_get behind x ≡ Some lane
  pub run : Run LaneStep s (happened x part) lane

pub moved_to : (start : List LaneState) (part : List SettleEntry) (behind : List LaneState) (x : ℕ) (s : LaneState)
    → LanesMove 0 start part behind → slice_get start x ≡ Some s → MovedTo x part s behind
moved_to start part behind x s moves there =
    let many = many_moved 0 start part behind moves in
    let lane = get_within behind x (omega (arith, slice_get_within start x s there, many)) in
    record { lane = lane.0; there = lane.1; run = lane_moved 0 x x start part behind s lane.0 (own x) moves there lane.1 }
  where
    own : (x : ℕ) → x ≡ 0 + x
    own x = omega (arith)

two_at : (start : List LaneState) (one : List SettleEntry) (between : List LaneState) (two : List SettleEntry)
    → LanesMove 0 start one between → TicksStand start one → TicksStand between two
    → (x : ℕ) (event : DiskEvent) (so_far rest : List SettleEntry) (s : LaneState) → is_tick event ≡ true
    → slice_get start x ≡ Some s → InEither one two so_far (OfLane x event) rest → TickAt x so_far s
two_at start one between two moves first second x event so_far rest s is there (inl at) =
    first x event so_far at.rest s is at.is there
two_at start one between two moves first second x event so_far rest s is there (inr at) =
    let m : MovedTo x one s between = moved_to start one between x s moves there in
    let found : TickAt x at.later m.lane = second x event at.later rest m.lane is at.is m.there in
    subst (λ (l : List SettleEntry). TickAt x l s) (sym at.before_is) (record {
      lane = found.lane;
      run = subst (λ (l : List DiskEvent). Run LaneStep s l found.lane) (sym (happened_both x one at.later))
          (run_append LaneStep s m.lane found.lane (happened x one) (happened x at.later) m.run found.run);
      waits = found.waits;
      lost = found.lost;
      still = λ shape events sound run.
          subst (λ (l : List DiskEvent). AreStillBy (log_of after (nothing_yet shape) l))
          (append_assoc events (happened x one) (happened x at.later)
          ∙ ap (λ (l : List DiskEvent). events ++ l) (sym (happened_both x one at.later)))
          (found.still shape (events ++ happened x one) sound
          (run_append LaneStep (fresh shape) s m.lane events (happened x one) run m.run));
    })

two_stand : (start : List LaneState) (one : List SettleEntry) (between : List LaneState) (two : List SettleEntry)
    → LanesMove 0 start one between → TicksStand start one → TicksStand between two → TicksStand start (one ++ two)
two_stand start one between two moves first second x event so_far rest s is place there =
    two_at start one between two moves first second x event so_far rest s is there
    (place_in one two so_far (OfLane x event) rest place)

-- A FRONT OF THE TICKS: before that of a lane nothing happened to it
record FirstTick (j x : ℕ) (lanes : List LaneState) (so_far : List SettleEntry) : Type 0 where
  index : ℕ
  is : x ≡ j + index
  lane : LaneState
  there : slice_get lanes index ≡ Some lane
  waits : waits_on lane ≡ true
  none : happened x so_far ≡ []

abbrev tick_entry : ℕ → Bool → List SettleEntry
tick_entry j get = if get then OfLane j tick ∷ [] else []

tick_below : (j : ℕ) (get : Bool) (x : ℕ) → j + 1 ≤ x → happened x (tick_entry j get) ≡ []
tick_below j true x less = other_event x j tick (λ same. omega (arith, less, same))
tick_below j false x less = refl

later_tick : (j x : ℕ) (s : LaneState) (lanes : List LaneState) (so_far : List SettleEntry) (get : Bool)
    → FirstTick (j + 1) x lanes so_far → FirstTick j x (s ∷ lanes) (tick_entry j get ++ so_far)
later_tick j x s lanes so_far get at = record {
  index = suc at.index;
  is = further at.index at.is;
  lane = at.lane;
  there = at.there;
  waits = at.waits;
  none = none_both LaneStep event_at x (tick_entry j get) so_far (tick_below j get x (above at.index at.is)) at.none;
}
  where
    further : (i : ℕ) → x ≡ (j + 1) + i → x ≡ j + suc i
    further i is = omega (arith, is)

    above : (i : ℕ) → x ≡ (j + 1) + i → j + 1 ≤ x
    above i is = omega (arith, is)

lane_tick : (j : ℕ) (s : LaneState) (had : Bool) (lanes : List LaneState) (later : List SettleEntry) (x : ℕ)
    (event : DiskEvent) (so_far rest : List SettleEntry) (get : Bool) → gets_tick s had ≡ get
    → ((past : List SettleEntry) → later ≡ past ++ OfLane x event ∷ rest → FirstTick (j + 1) x lanes past)
    → tick_entry j get ++ later ≡ so_far ++ OfLane x event ∷ rest → FirstTick j x (s ∷ lanes) so_far
lane_tick j s had lanes later x event so_far rest false gets more is =
    later_tick j x s lanes so_far false (more so_far is)
lane_tick j s had lanes later x event [] rest true gets more is = record {
  index = 0;
  is = grind (arith, gets_where);
  lane = s;
  there = refl;
  waits = (gets_where had (waits_on s) gets).1;
  none = refl;
}
lane_tick j s had lanes later x event (entry ∷ past) rest true gets more is =
    let same : OfLane j tick ≡ entry = cc is in
    let others : later ≡ past ++ OfLane x event ∷ rest = cc is in
    subst (λ (y : SettleEntry). FirstTick j x (s ∷ lanes) (y ∷ past)) same
    (later_tick j x s lanes past true (more past others))

none_there : (lanes : List LaneState) (part : List SettleEntry) (behind : List LaneState) (so_far : List SettleEntry)
    (entry : SettleEntry) (rest : List SettleEntry) → NoMore lanes part behind → part ≡ so_far ++ entry ∷ rest → ⊥
none_there lanes part behind so_far entry rest none place = no_place so_far entry rest (sym none.is ∙ place)

front_tick : (j : ℕ) (lanes : List LaneState) (marks : List Bool) (part : List SettleEntry) (behind : List LaneState)
    → TickFront j lanes marks part behind → (x : ℕ) (event : DiskEvent) (so_far rest : List SettleEntry)
    → part ≡ so_far ++ OfLane x event ∷ rest → FirstTick j x lanes so_far
front_tick j [] marks part behind none x event so_far rest place =
    absurd (none_there [] part behind so_far (OfLane x event) rest none place)
front_tick j (s ∷ lanes) [] part behind none x event so_far rest place =
    absurd (none_there (s ∷ lanes) part behind so_far (OfLane x event) rest none place)
front_tick j (s ∷ lanes) (had ∷ marks) part behind (inl none) x event so_far rest place =
    absurd (none_there (s ∷ lanes) part behind so_far (OfLane x event) rest none place)
front_tick j (s ∷ lanes) (had ∷ marks) part behind (inr made) x event so_far rest place =
    lane_tick j s had lanes made.later x event so_far rest (gets_tick s had) refl
    (λ (past : List SettleEntry) (is : made.later ≡ past ++ OfLane x event ∷ rest).
    front_tick (j + 1) lanes marks made.later made.others made.more x event past rest is)
    (sym made.is ∙ place)

-- a lane that waits lost a packet, where nobody forged it
abbrev pub WaitsLost : LaneState → Type 0
WaitsLost t = IsUnforged t → waits_on t ≡ true → t.wire.lossy ≡ true

record LostAt (x : ℕ) (so_far : List SettleEntry) (s : LaneState) : Type 0 where
  none : happened x so_far ≡ []
  waits : waits_on s ≡ true
  lost : IsUnforged s → s.wire.lossy ≡ true

front_lost : (lanes : List LaneState) (marks : List Bool) (part : List SettleEntry) (behind : List LaneState)
    → Each WaitsLost lanes → TickFront 0 lanes marks part behind → (x : ℕ) (event : DiskEvent)
    (so_far rest : List SettleEntry) (s : LaneState) → part ≡ so_far ++ OfLane x event ∷ rest
    → slice_get lanes x ≡ Some s → LostAt x so_far s
front_lost lanes marks part behind lost front x event so_far rest s place there =
    let first : FirstTick 0 x lanes so_far = front_tick 0 lanes marks part behind front x event so_far rest place in
    grind (arith, slice_get, each_there)

-- all ticks are a front of them
all_ticks : (j : ℕ) (lanes : List LaneState) (marks : List Bool) (behind : List LaneState)
    → TickLanes lanes marks behind → TickFront j lanes marks (tick_entries j lanes marks) behind
all_ticks j (s ∷ lanes) (had ∷ marks) (t ∷ behind) made = grind (arith, all_ticks (j + 1) lanes marks behind made.1)
all_ticks j lanes marks behind made = grind arith

-- BEHIND A QUIET ROUND
waits_lost : (s : LaneState) (r : LaneRound) (t : LaneState) → IsReached s → MakesRound s r t → is_quiet r ≡ true
    → WaitsLost t
waits_lost s r t given made quiet clean waits = grind (arith, waits_where, round_keeps, quiet_same, quiet_finished, either)

quiet_lost : (lanes : List LaneState) (rounds : List LaneRound) (behind : List LaneState) → Each IsReached lanes
    → OwnTurns disk_kind lanes rounds behind → are_quiet rounds ≡ true → Each WaitsLost behind
quiet_lost (s ∷ lanes) (r ∷ rounds) (t ∷ behind) reached made quiet =
    grind (arith, waits_lost, and_left, and_right, quiet_lost lanes rounds behind reached.1 made.1 (and_right (is_quiet r) (are_quiet rounds) quiet))
quiet_lost lanes rounds behind reached made quiet = grind arith

pub record QuietAt (x : ℕ) (s : LaneState) (behind : List LaneState) : Type 0 where
  pub round : LaneRound
  pub lane : LaneState
  pub there : slice_get behind x ≡ Some lane
  pub made : MakesRound s round lane
  pub quiet : is_quiet round ≡ true

pub quiet_at : (lanes : List LaneState) (rounds : List LaneRound) (behind : List LaneState) (x : ℕ) (s : LaneState)
    → OwnTurns disk_kind lanes rounds behind → are_quiet rounds ≡ true → slice_get lanes x ≡ Some s → QuietAt x s behind
quiet_at [] [] [] x s made quiet there = absurd (cc there)
quiet_at (y ∷ lanes) (r ∷ rounds) (t ∷ behind) zero s made quiet there =
    let same : y ≡ s = cc there in
    record {
      round = r;
      lane = t;
      there = refl;
      made = subst (λ (l : LaneState). MakesRound l r t) same made.0;
      quiet = and_left (is_quiet r) (are_quiet rounds) quiet;
    }
quiet_at (y ∷ lanes) (r ∷ rounds) (t ∷ behind) (suc x) s made quiet there =
    let at : QuietAt x s behind =
    quiet_at lanes rounds behind x s made.1 (and_right (is_quiet r) (are_quiet rounds) quiet) there in
    record { round = at.round; lane = at.lane; there = at.there; made = at.made; quiet = at.quiet }
quiet_at _ _ _ x s made quiet there = absurd made

module _ (lanes : List LaneState) (marks : List Bool) (steps : List LaneRound) (between : List LaneState)
    (later : List SettleEntry) (behind : List LaneState) (reached : Each IsReached lanes)
    (made : MakeRound lanes steps between)
    (quiet : are_quiet steps ≡ true) (front : TickFront 0 between marks later behind) where
  turns : OwnTurns disk_kind lanes steps between
  turns = own_turns disk_kind gives_nothing lanes steps between made

  -- a tick after all entries of the round
  behind_round : (x : ℕ) (past : List SettleEntry) (s : LaneState) (at : QuietAt x s between) → LostAt x past at.lane
      → slice_get lanes x ≡ Some s → TickAt x (round_entries 0 steps ++ past) s
  behind_round x past s at lost there =
      let round : List SettleEntry = round_entries 0 steps in
      let moved : Run LaneStep s (happened x round) at.lane =
      lane_moved 0 x x lanes round between s at.lane (own x) (leads.round lanes steps between made) there
      at.there in
      let same : happened x (round ++ past) ≡ happened x round =
      happened_both x round past ∙ ap (λ (l : List DiskEvent). happened x round ++ l) lost.none
      ∙ append-nil (happened x round) in
      record {
        lane = at.lane;
        run = subst (λ (l : List DiskEvent). Run LaneStep s l at.lane) (sym same) moved;
        waits = lost.waits;
        lost = lost.lost;
        still = λ shape events sound run.
            subst (λ (l : List DiskEvent). AreStillBy (log_of after (nothing_yet shape) (events ++ l))) (sym same)
            (still_by shape events s at.round at.lane x round sound run at.made at.quiet (calm_round 0 steps quiet)
            moved);
      }
    where
      own : (x : ℕ) → x ≡ 0 + x
      own x = omega (arith)

  quiet_tick : (x : ℕ) (event : DiskEvent) (so_far rest : List SettleEntry) (s : LaneState) → is_tick event ≡ true
      → slice_get lanes x ≡ Some s → InEither (round_entries 0 steps) later so_far (OfLane x event) rest
      → TickAt x so_far s
  quiet_tick x event so_far rest s is there (inl at) =
      none_stand lanes (round_entries 0 steps) (disks_each NoTick tick_steps lanes steps between made) x event so_far at.rest s is at.is
      there
  quiet_tick x event so_far rest s is there (inr at) =
      let found : QuietAt x s between = quiet_at lanes steps between x s turns quiet there in
      let all_lost = quiet_lost lanes steps between reached turns quiet in
      let lost : LostAt x at.later found.lane =
      front_lost between marks later behind all_lost front x event at.later rest found.lane at.is found.there in
      subst (λ (l : List SettleEntry). TickAt x l s) (sym at.before_is) (behind_round x at.later s found lost there)

  quiet_front : TicksStand lanes (round_entries 0 steps ++ later)
  quiet_front x event so_far rest s is place there =
      quiet_tick x event so_far rest s is there
      (place_in (round_entries 0 steps) later so_far (OfLane x event) rest place)

-- A STRETCH of a settle: each lane is run by what it says, and its ticks stand
record Stretch (lanes : List LaneState) (part : List SettleEntry) (behind : List LaneState) : Type 0 where
  moves : LanesMove 0 lanes part behind
  stand : TicksStand lanes part

abbrev Reached : List LaneState → List Bool → Type 0
Reached lanes marks = Each IsReached lanes

keeps : KeepsStanding disks Reached
keeps = record {
  round = λ w m r v at made. moved_reached 0 w (round_entries 0 r) v at (leads.round w r v made);
  ticks = λ w m r v u at made quiet ticks.
      moved_reached 0 v (tick_entries 0 v m) u (moved_reached 0 w (round_entries 0 r) v at (leads.round w r v made))
      (leads.ticks v m u ticks);
}

quiet_stretch : (lanes : List LaneState) (marks : List Bool) (steps : List LaneRound) (between : List LaneState)
    (later : List SettleEntry) (behind : List LaneState) → Each IsReached lanes → MakeRound lanes steps between
    → are_quiet steps ≡ true → TickFront 0 between marks later behind
    → Stretch lanes (round_entries 0 steps ++ later) behind
quiet_stretch lanes marks steps between later behind reached made quiet front = grind (arith, moves_on, leads, fronts_move, quiet_front)

stretches : LeadsWhere disks Reached Stretch
stretches = record {
  keeps = keeps;
  none = λ w. record { moves = stay 0 w; stand = none_stand w [] tt };
  both = λ w m v one two first second. grind (arith, moves_on, two_stand);
  round = λ w m r v reached made. grind (arith, leads, none_stand, disks_each, tick_steps);
  ticks = λ w m r v u reached made quiet ticks.
      quiet_stretch w m r v (tick_entries 0 v m) u reached made quiet (all_ticks 0 v m u ticks);
}

-- the answer, and names
named_none : (r : List LaneRound) (w : List LaneState) (part more : List SettleEntry) → part ++ more ≡ left_over 0 r w
    → EachEntry NoTick part
named_none r w part more is =
    first_each NoTick part more
    (each_as NoTick (part ++ more) (left_over 0 r w) is (names_each disk_kind disk_entries NoTick (λ k. tt) 0 r w))

stretch_ends : AnswersLead disks Stretch
stretch_ends = record {
  answer = λ w. record { moves = settled_moves w; stand = none_stand w (Settled ∷ []) (tt, tt) };
  names = λ r w part more is. record {
    moves = ends.names r w part more is;
    stand = none_stand w part (named_none r w part more is);
  };
}

front_stretches : FrontsLeadWhere disks fronts Reached Stretch
front_stretches = record {
  round = λ w m part v reached front. record {
    moves = fronts_move.round w part v front;
    stand = none_stand w part (disks_begun NoTick tick_steps w part v front);
  };
  ticks = λ w m r v part u reached made quiet front. quiet_stretch w m r v part u reached made quiet front;
}

-- A SETTLE over disks and ports, and a front of one: by the entries of disks, and so by all, as they are told
as_whole : (x : ℕ) (so_far : List SettleEntry) (s : LaneState) → TickAt x (of_disks so_far) s → TickAt x so_far s
as_whole x so_far s given = grind (arith, same_happened)

stand_whole : (start : List LaneState) (part : List SettleEntry) → TicksStand start (of_disks part) → TicksStand start part
stand_whole start part stand x event so_far rest s is place there =
    as_whole x so_far s
    (stand x event (of_disks so_far) (of_disks rest) s is
    (ap (λ (l : List SettleEntry). of_disks l) place ∙ kept_both is_of_disks so_far (OfLane x event ∷ rest)) there)

stand_told : (start : List LaneState) (part : List SettleEntry) → TicksStand start (of_disks part)
    → TicksStand start (all_told part)
stand_told start part stand = stand_whole start (all_told part) (subst (TicksStand start) (sym (told_of_disks part)) stand)

abbrev AllReached : Lanes → Two (List Bool) (List Bool) → Type 0
AllReached w m = Reached w.first m.first

abbrev AllStretch : Lanes → List SettleEntry → Lanes → Type 0
AllStretch w part v = Stretch w.first (of_disks part) v.first

all_stretches : LeadsWhere lanes AllReached AllStretch
all_stretches = first_leads_where disk_kind disk_entries ports port_entries is_of_disks disks_told Reached Stretch stretches

all_ends : AnswersLead lanes AllStretch
all_ends = first_ends_where disk_kind disk_entries ports port_entries is_of_disks disks_told Reached Stretch stretches stretch_ends

all_begin : FrontsLeadWhere lanes all_fronts AllReached AllStretch
all_begin = first_fronts_where disk_kind disk_entries ports port_entries is_of_disks disks_told Reached Stretch stretches front_stretches

pub part_stands : (start : Lanes) (part : List SettleEntry) (behind : Lanes) → Each IsReached start.first
    → SettlePart lanes start part behind → TicksStand start.first (all_told part)
part_stands start part behind reached settle =
    stand_told start.first part
    (kind.part_stands lanes AllReached AllStretch all_stretches all_ends start part behind reached settle).stand

pub begun_stands : (start : Lanes) (part : List SettleEntry) (behind : Lanes) → Each IsReached start.first
    → SettleFront lanes all_fronts start part behind → TicksStand start.first (all_told part)
begun_stands start part behind reached at =
    stand_told start.first part
    (kind.front_stands lanes AllReached AllStretch all_stretches all_fronts all_begin all_ends start part behind reached
    at).stand
