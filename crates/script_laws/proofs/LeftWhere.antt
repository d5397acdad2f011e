-- Where a settle of a script's lines leaves a disk over: the rounds ran out, and the disk moved in them or waits.
use Rattle.std.proofs.Common.{◌≡◌, ◌⊎◌, inl, inr, ℕ, ◌+◌, ◌*◌, ◌≤◌, true, List, [], ◌∷◌, ◌++◌, length, slice_get, Some, sym, ap, ◌∙◌, subst, arith}
use Rattle.std.specs.Prelude.{⊤}
use Rattle.runs.specs.Run.{Run}
use Rattle.disk_law.specs.ListState.{ImageState}
use Rattle.world_parts.specs.lane_models.DiskEvent.{DiskEvent}
use Rattle.world_parts.specs.lane_models.LaneState.{LaneState, Shape}
use Rattle.world_parts.specs.lane_models.LaneStep.{LaneStep}
use Rattle.domain_script.specs.declared.event.DiskDecl.{DiskDecl}
use Rattle.domain_script.specs.declared.event.Event.{Event}
use Rattle.domain_script.specs.declared.event.Event.TheVariants.{Settle}
use Rattle.lane_kinds.proofs.EntryRuns.{names_each}
use Rattle.lane_kinds.proofs.Places.{map_both}
use Rattle.lane_kinds.proofs.Stuck.{sum_both}
use Rattle.lane_kinds.specs.Both.{Two}
use Rattle.lane_kinds.specs.Fronts.{SettleFront}
use Rattle.lane_kinds.specs.Lanes.{sum_of}
use Rattle.lane_kinds.specs.Settles.{SettlePart, begin, entries_of_rounds, most_rounds}
use Rattle.world_parts.specs.lane_models.NetLaneState.{NetShape}
use Rattle.world_parts.specs.switch_laws.Events.{SwitchEvent}
use Rattle.world_parts.specs.switch_laws.Ports.{pending, ports}
use Rattle.world_parts.proofs.world_laws.Along.{lane_at, shape_at}
use Rattle.world_parts.proofs.world_laws.LeftLanes.{Named, moved_left, moved_right, named}
use Rattle.world_parts.proofs.world_laws.Moving.{moves_on}
use Rattle.world_parts.proofs.world_laws.Pending.{world_pending}
use Rattle.world_parts.specs.world_laws.Along.{LanesMove, happened}
use Rattle.world_parts.specs.world_laws.DiskKind.{waits_on}
use Rattle.world_parts.specs.world_laws.Moves.{IsLeftOver, MovedIn}
use Rattle.world_parts.specs.world_laws.Requests.{pending_of}
use Rattle.world_parts.specs.world_laws.Rounds.{LaneRound}
use Rattle.world_parts.specs.world_laws.Settle.{SettleEntry, Unsettled, UnsettledPort, disks, pending_on, round_entries}
use Rattle.world_parts.proofs.domain_laws.Counting.{made_move}
use Rattle.world_parts.proofs.domain_laws.DiskParts.{disks_end as names_move, rounds_move_disks}
use Rattle.world_parts.proofs.domain_laws.LineEntries.{AllRound, EachEntry, each_in}
use Rattle.world_parts.specs.domain_laws.Counts.{moves_in}
use Rattle.world_parts.specs.domain_laws.Domain.{DomainState, Lanes, lanes, lanes_in, port_entries, switch}
use Rattle.world_parts.specs.domain_laws.Lines.{fronts}
use Rattle.ldom_entries.specs.declared.entry.Entry.{Entry}
use Rattle.script_laws.proofs.DiskShapes.{are_shapes, many_shapes}
use Rattle.script_laws.proofs.Entries.{IsName}
use Rattle.script_laws.proofs.LedLanes.{led_run, told_run}
use Rattle.script_laws.proofs.Places.{InEither, place_in}
use Rattle.script_laws.proofs.ReachedLanes.{AreLanes}
use Rattle.script_laws.proofs.NamesAt.{LastRound, NamesAt, last_round, names_at}
use Rattle.script_laws.proofs.SettleLines.{EachSettles, SettlesBehind, SettlesOn}
use Rattle.script_laws.proofs.TicksNeeded.{waits_by}
use Rattle.script_laws.proofs.TicksStand.{MovedTo, moved_to}
use Rattle.script_laws.proofs.Untold.{Untold, all_told, real_unsettled, told_happened, told_moves, untold}
use Rattle.script_laws.specs.Settled.{LeftWhereBusy, RunsOutIn, WaitsBy}
use Rattle.script_laws.specs.Told.{log_at, told, told_by}
use Rattle.world_parts.specs.Declared.{shapes_of}
use Rattle.world_parts.specs.WorldEvents.{told_of}

-- AFTER SO MUCH OF A PART, where it names this disk
pub record LeftAt (x : ℕ) (start : Lanes) (so_far : List SettleEntry) (behind : Lanes) : Type 0 where
  pub why : IsLeftOver x so_far behind.first
  pub leads : LanesMove 0 start.first so_far behind.first

enough : (most made rounds all later : ℕ) → made ≡ most → made ≤ rounds → all ≡ rounds + later → most ≤ all
enough most made rounds all later is less sum = omega (arith, is, less, sum)

-- A NAME of a disk is among those of disks
abbrev IsPortName : SettleEntry → Type 0
IsPortName (UnsettledPort k) = ⊤
IsPortName _ = ⊥

port_names : (r : List (List SwitchEvent)) (w : Lanes) → EachEntry IsPortName (switch.names r w.second)
port_names r w = names_each ports port_entries IsPortName (λ k. tt) 0 r w.second

of_disks_alone : (x : ℕ) (r : Two (List LaneRound) (List (List SwitchEvent))) (w : Lanes) (later rest : List SettleEntry)
    → InEither (disks.names r.first w.first) (switch.names r.second w.second) later (Unsettled x) rest
    → (more : List SettleEntry) × (disks.names r.first w.first ≡ later ++ Unsettled x ∷ more)
of_disks_alone x r w later rest (inl at) = (at.rest, at.is)
of_disks_alone x r w later rest (inr at) =
    absurd (each_in IsPortName (switch.names r.second w.second) at.later (Unsettled x) rest at.is (port_names r.second w))

-- WHERE A PART NAMES A LANE, so many rounds moved
pub name_at : (start : Lanes) (part : List SettleEntry) (behind : Lanes)
    → SettlePart lanes start part behind ⊎ SettleFront lanes fronts start part behind → (entry : SettleEntry) → IsName entry
    → (so_far rest : List SettleEntry) → part ≡ so_far ++ entry ∷ rest → most_rounds lanes start ≤ moves_in so_far
name_at start part behind goes entry name so_far rest is =
    let at : NamesAt start so_far entry behind = names_at start part behind goes entry name so_far rest is in
    grind (arith, enough, made_move, sum_both)

-- and the disk moved in the last of them, or waits
left_why : (x : ℕ) (steps : Two (List LaneRound) (List (List SwitchEvent))) (so_far : List SettleEntry) (behind : List LaneState)
    → LastRound steps so_far → Named 0 x steps.first behind → IsLeftOver x so_far behind
left_why x steps so_far behind last (inl moved) =
    inl
    (subst (MovedIn x) (sym last.is)
    (moved_right x last.earlier (lanes.leaves steps ++ last.later)
    (moved_left x (lanes.leaves steps) last.later
    (moved_left x (round_entries 0 steps.first) (switch.leaves steps.second) moved))))
left_why x steps so_far behind last (inr at) = grind (arith, slice_get)

pub left_at : (start : Lanes) (part : List SettleEntry) (behind : Lanes)
    → SettlePart lanes start part behind ⊎ SettleFront lanes fronts start part behind → (x : ℕ)
    (so_far rest : List SettleEntry) → part ≡ so_far ++ Unsettled x ∷ rest → LeftAt x start so_far behind
left_at start part behind goes x so_far rest is =
    let at : NamesAt start so_far (Unsettled x) behind = names_at start part behind goes (Unsettled x) tt so_far rest is in
    let steps = at.last.steps in
    let now : Lanes = at.now.lanes in
    let rounds : List AllRound = at.rounds ++ at.last ∷ [] in
    let own = of_disks_alone x steps now at.later at.more
    (place_in (disks.names steps.first now.first) (switch.names steps.second now.second) at.later (Unsettled x) at.more
    at.names) in
    subst (λ (l : Lanes). LeftAt x start so_far l) (sym at.lanes_are) (record {
      why = left_why x steps so_far now.first (last_round start so_far (Unsettled x) behind at)
          (named 0 x steps.first now.first at.later own.0 own.1);
      leads = subst (λ (l : List SettleEntry). LanesMove 0 start.first l now.first) (sym at.so_far_is)
          (moves_on 0 start.first now.first now.first (entries_of_rounds rounds) at.later
          (rounds_move_disks (begin lanes start) rounds at.now at.run)
          (names_move.names steps now at.later (Unsettled x ∷ at.more) (sym at.names)));
    })

-- AS IT IS TOLD
told_moved : (x : ℕ) (part : List SettleEntry) → MovedIn x part → MovedIn x (all_told part)
told_moved x part given = grind (arith, map_both)

most_is : (p q r m n : ℕ) → 4096 + 64 * (p + q) ≤ m → p ≡ r → n ≡ m → 4096 + 64 * (r + q) ≤ n
most_is p q r m n most one two = omega (arith, most, one, two)

-- OF A SCRIPT'S LINES
module _ (disks : List DiskDecl) (nets : List NetShape) (image : ImageState) (are : AreLanes disks nets) where
  abbrev shapes : List Shape
  shapes = shapes_of 0 disks

  -- the name among the real entries, and why it is left over
  record LeftIn (before : List (Event × List Entry)) (part so_far : List SettleEntry) (x : ℕ)
      (of : SettlesBehind disks nets image before part) : Type 0 where
    past : List SettleEntry
    past_is : so_far ≡ all_told past
    left : LeftAt x (lanes_in of.at) past of.behind

  left_in : (before : List (Event × List Entry)) (part so_far : List SettleEntry) (x : ℕ)
      (rest : List SettleEntry) (of : SettlesBehind disks nets image before part) → part ≡ so_far ++ Unsettled x ∷ rest
      → LeftIn before part so_far x of
  left_in before part so_far x rest of is =
      let at : Untold of.real so_far (Unsettled x) rest = untold of.real so_far (Unsettled x) rest (sym of.told_is ∙ is) in
      let real : of.real ≡ at.past ++ Unsettled x ∷ at.rest =
      at.is ∙ ap (λ (e : SettleEntry). at.past ++ e ∷ at.rest) (real_unsettled x at.real at.real_is) in
      record {
        past = at.past;
        past_is = at.past_is;
        left = left_at (lanes_in of.at) of.real of.behind of.goes x at.past at.rest real;
      }

  -- of any lane that is named
  pub rounds_ran_out : (before : List (Event × List Entry)) (part : List Entry) (behind : List (Event × List Entry))
      (v : DomainState) (so_far : List SettleEntry) (entry : SettleEntry) (rest : List SettleEntry) → IsName entry
      → ((x : SettleEntry) → entry ≡ told_of x → x ≡ entry) → SettlesOn disks nets image before part behind v
      → told_by (Settle, part) ≡ so_far ++ entry ∷ rest
      → RunsOutIn disks nets image before ((Settle, part) ∷ behind) so_far v
  rounds_ran_out before part behind v so_far entry rest name as_real on is =
      let of : SettlesBehind disks nets image before (told_by (Settle, part)) = on.of in
      let at : Untold of.real so_far entry rest = untold of.real so_far entry rest (sym of.told_is ∙ is) in
      let real : of.real ≡ at.past ++ entry ∷ at.rest =
      at.is ∙ ap (λ (e : SettleEntry). at.past ++ e ∷ at.rest) (as_real at.real at.real_is) in
      let requests : pending_on of.at.first.lanes ≡ pending_of 0 (length disks) (told before) =
      world_pending shapes image (told before) of.at.first (are_shapes 0 disks are.disks_are)
      (told_run disks nets image before of.at of.run)
      ∙ ap (λ (n : ℕ). pending_of 0 n (told before)) (many_shapes 0 disks) in
      record {
        at = of.at;
        run = of.run;
        leads = on.leads;
        requests = requests;
        most = most_is (pending_on of.at.first.lanes) (sum_of pending of.at.second) (pending_of 0 (length disks) (told before))
            (moves_in at.past) (moves_in so_far) (name_at (lanes_in of.at) of.real of.behind of.goes entry name at.past at.rest real) requests
            (ap (λ (l : List SettleEntry). moves_in l) at.past_is ∙ told_moves at.past);
      }

  module _ (x : ℕ) (shape : Shape) (of_shape : slice_get shapes x ≡ Some shape) where
    busy_at : (before : List (Event × List Entry)) (part so_far rest : List SettleEntry)
        → SettlesBehind disks nets image before part → part ≡ so_far ++ Unsettled x ∷ rest
        → MovedIn x so_far ⊎ WaitsBy (log_at shape x (told before ++ so_far))
    busy_at before part so_far rest of is =
        let at : LeftIn before part so_far x of = left_in before part so_far x rest of is in
        subst (λ (l : List SettleEntry). MovedIn x l ⊎ WaitsBy (log_at shape x (told before ++ l))) (sym at.past_is)
        (by_why at.past at.left.why at.left.leads)
      where
        by_why : (past : List SettleEntry) → IsLeftOver x past of.behind.first
            → LanesMove 0 of.at.first.lanes past of.behind.first
            → MovedIn x (all_told past) ⊎ WaitsBy (log_at shape x (told before ++ all_told past))
        by_why past (inl moved) leads = inl (told_moved x past moved)
        by_why past (inr waits) leads =
            let lane = lane_at shapes image (told before) of.at.first x shape
            (told_run disks nets image before of.at of.run) of_shape in
            let m : MovedTo x past lane.0 of.behind.first =
            moved_to of.at.first.lanes past of.behind.first x lane.0 leads lane.1 in
            let both : Some waits.lane ≡ Some m.lane = sym waits.there ∙ m.there in
            let same : waits.lane ≡ m.lane = cc both in
            let all : List SettleEntry = told before ++ all_told past in
            inr
            (waits_by shape (happened x all) m.lane
            (shape_at 0 shapes x shape (are_shapes 0 disks are.disks_are) of_shape)
            (led_run disks nets image x shape of_shape before of.at of.run lane.0 lane.1 (all_told past) m.lane
            (subst (λ (l : List DiskEvent). Run LaneStep lane.0 l m.lane) (sym (told_happened x past)) m.run))
            (subst (λ (l : LaneState). waits_on l ≡ true) same waits.waits))

    pub left_where_busy : (lines : List (Event × List Entry)) → EachSettles disks nets image lines
        → LeftWhereBusy shape x lines
    left_where_busy lines each before part behind so_far rest is place =
        busy_at before (told_by (Settle, part)) so_far rest (each before part behind is) place
