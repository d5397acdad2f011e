-- The part of a settle over one lane that nobody disturbs: steps of its ends alone, and Settled. No tick comes, since a calm lane is finished.
use Rattle.std.proofs.Common.{◌≡◌, ℕ, Bool, true, false, List, [], ◌∷◌, ◌++◌, refl, sym, subst, arith}
use Rattle.ldc_queue.specs.declared.end.End.{End}
use Rattle.ldc_queue.specs.declared.end.End.TheVariants.{A, B}
use Rattle.lane_models.specs.DiskEvent.{DiskEvent}
use Rattle.lane_models.specs.LaneState.{LaneState}
use Rattle.lane_models.specs.Reached.{IsReached}
use Rattle.lane_laws.specs.CalmEnds.{IsStep}
use Rattle.lane_kinds.proofs.EntriesEach.{entry_has}
use Rattle.lane_kinds.proofs.LaneFronts.{of_both}
use Rattle.lane_kinds.proofs.Lanes.{own_turns}
use Rattle.lane_kinds.proofs.Leading.{before_answer}
use Rattle.lane_kinds.proofs.Sums.{and_left}
use Rattle.lane_kinds.specs.Lanes.{EachOf, OwnTurns}
use Rattle.lane_kinds.specs.Laws.{LeadsWhere}
use Rattle.world_laws.proofs.DiskLaws.{gives_nothing}
use Rattle.world_laws.proofs.LaneRounds.{quiet_finished, round_keeps, round_reached}
use Rattle.world_laws.specs.Rounds.{LaneRound, MakeRound, MakesRound, are_quiet}
use Rattle.world_laws.specs.Settle.{OfLane, SettleEntry, Settled, Settles, disks, entries_of_rounds, entry_of, round_entries, tick_entries}
use Rattle.world_laws.specs.DiskKind.{disk_kind, is_silent, waits_on}
use Rattle.world_laws.specs.Ticks.{TickLanes, marked}

-- ENTRIES of steps of the ends of lane 0
pub record OwnEvent (k : ℕ) (event : DiskEvent) : Type 0 where
  pub number : k ≡ 0
  pub side : End
  pub own : IsStep side event

abbrev pub IsOwn : SettleEntry → Type 0
IsOwn (OfLane k event) = OwnEvent k event
IsOwn _ = ⊥

abbrev pub AreOwn : List SettleEntry → Type 0
AreOwn part = EachOf IsOwn part

own_entry : (e : End) (event : DiskEvent) → IsStep e event → AreOwn (entry_of 0 event)
own_entry e event own = entry_has IsOwn (is_silent event) (OfLane 0 event) (record { number = refl; side = e; own = own })

round_own : (s : LaneState) (r : LaneRound) (t : LaneState) → MakesRound s r t → AreOwn (round_entries 0 (r ∷ []))
round_own s (client ∷ server ∷ []) t made =
    of_both IsOwn (entry_of 0 client ++ (entry_of 0 server ++ [])) []
    (of_both IsOwn (entry_of 0 client) (entry_of 0 server ++ []) (own_entry A client made.of_turn.0) (of_both IsOwn (entry_of 0 server) [] (own_entry B server made.of_turn.1) tt)) tt
round_own s [] t made = absurd made.of_turn
round_own s (client ∷ []) t made = absurd made.of_turn
round_own s (client ∷ server ∷ other ∷ events) t made = absurd made.of_turn

-- A LANE that was reached, that nobody forged, that lost nothing, and whose server runs
pub record IsWhole (s : LaneState) : Type 0 where
  pub reached : IsReached s
  pub unforged : s.wire.forged ≡ false
  pub whole : s.wire.lossy ≡ false
  pub runs : s.stopped ≡ false

whole_behind : (s : LaneState) (r : LaneRound) (t : LaneState) → IsWhole s → MakesRound s r t → IsWhole t
whole_behind s r t given made = grind (arith, round_keeps, round_reached)

-- ONE LANE in a settle, with no tick so far
abbrev Alone : List LaneState → List Bool → Type 0
Alone (s ∷ []) (false ∷ []) = IsWhole s
Alone _ _ = ⊥

-- such a lane gets no tick
record NoTick (lanes : List LaneState) (marks : List Bool) (behind : List LaneState) : Type 0 where
  alone : Alone behind (marked lanes marks)
  none : tick_entries 0 lanes marks ≡ []

none_ticks : (t : LaneState) (u : List LaneState) → IsWhole t → waits_on t ≡ false → TickLanes (t ∷ []) (false ∷ []) u → NoTick (t ∷ []) (false ∷ []) u
none_ticks t u whole rests ticks = grind arith

-- A ROUND of it; and where it was quiet it is finished
record RoundOn (marks : List Bool) (steps : List LaneRound) (behind : List LaneState) : Type 0 where
  alone : Alone behind marks
  own : AreOwn (round_entries 0 steps)
  ticks : (u : List LaneState) → are_quiet steps ≡ true → TickLanes behind marks u → NoTick behind marks u

round_by : (lanes : List LaneState) (marks : List Bool) (steps : List LaneRound) (behind : List LaneState) → Alone lanes marks → OwnTurns disk_kind lanes steps behind → RoundOn marks steps behind
round_by (s ∷ []) (false ∷ []) (r ∷ []) (t ∷ []) at made = grind (arith, whole_behind, round_own, none_ticks, quiet_finished, and_left)
round_by (s ∷ []) (false ∷ []) [] behind at made = absurd made
round_by (s ∷ []) (false ∷ []) (r ∷ steps) [] at made = absurd made
round_by (s ∷ []) (false ∷ []) (r ∷ []) (t ∷ more ∷ behind) at made = absurd made.1
round_by (s ∷ []) (false ∷ []) (r ∷ next ∷ steps) (t ∷ behind) at made = absurd made.1
round_by _ _ steps behind at made = absurd at

round_on : (lanes : List LaneState) (marks : List Bool) (steps : List LaneRound) (behind : List LaneState) → Alone lanes marks → MakeRound lanes steps behind → RoundOn marks steps behind
round_on lanes marks steps behind at made = round_by lanes marks steps behind at (own_turns disk_kind gives_nothing lanes steps behind made)

abbrev Own : List LaneState → List SettleEntry → List LaneState → Type 0
Own lanes part behind = AreOwn part

owns : LeadsWhere disks Alone Own
owns = record {
  keeps = record {
    round = λ w m r v at made. (round_on w m r v at made).alone;
    ticks = λ w m r v u at made quiet ticks. ((round_on w m r v at made).ticks u quiet ticks).alone;
  };
  none = λ w. tt;
  both = λ w m v one two first second. of_both IsOwn one two first second;
  round = λ w m r v at made. (round_on w m r v at made).own;
  ticks = λ w m r v u at made quiet ticks.
      let on : RoundOn m r v = round_on w m r v at made in
      of_both IsOwn (round_entries 0 r) (tick_entries 0 v m) on.own (subst AreOwn (sym (on.ticks u quiet ticks).none) tt);
}

-- THE PART
pub record OwnPart (part : List SettleEntry) : Type 0 where
  pub steps : List SettleEntry
  pub own : AreOwn steps
  pub is : part ≡ steps ++ Settled ∷ []

pub settle_own : (s : LaneState) (part : List SettleEntry) (behind : List LaneState) → IsWhole s → Settles (s ∷ []) part behind → OwnPart part
settle_own s part behind whole settles = record {
  steps = entries_of_rounds settles.rounds ++ round_entries 0 settles.steps;
  own = before_answer disks Alone Own owns (s ∷ []) part behind whole settles;
  is = settles.is;
}
