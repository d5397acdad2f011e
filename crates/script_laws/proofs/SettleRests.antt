-- Where a settle of a script's lines ends settled, each disk whose server runs is finished, or had its tick in the part.
use Rattle.std.proofs.Common.{◌≡◌, ◌⊎◌, inl, inr, ℕ, suc, ◌+◌, false, List, [], ◌∷◌, ◌++◌, slice_get, Some, sym, ap, ◌∙◌, subst, arith}
use Rattle.runs.specs.Run.{Run}
use Rattle.disk_law.specs.ListState.{ImageState}
use Rattle.world_parts.specs.lane_models.DiskEvent.{DiskEvent}
use Rattle.world_parts.specs.lane_models.LaneState.{IsShape, LaneState, Shape, fresh}
use Rattle.world_parts.specs.lane_models.LaneStep.{LaneStep}
use Rattle.domain_script.specs.declared.event.DiskDecl.{DiskDecl}
use Rattle.domain_script.specs.declared.event.Event.{Event}
use Rattle.domain_script.specs.declared.event.Event.TheVariants.{Settle}
use Rattle.lane_kinds.proofs.Stuck.{sum_both}
use Rattle.world_parts.proofs.lane_laws.AgreementRuns.{run_agrees}
use Rattle.world_parts.proofs.world_laws.Along.{lane_at, shape_at}
use Rattle.lane_kinds.specs.Fronts.{SettleFront}
use Rattle.lane_kinds.specs.Settles.{SettlePart, Settles}
use Rattle.world_parts.specs.lane_models.NetLaneState.{NetShape}
use Rattle.world_parts.proofs.domain_laws.DiskParts.{part_moves_disks}
use Rattle.world_parts.proofs.domain_laws.LineEntries.{each_in}
use Rattle.world_parts.proofs.domain_laws.Resting.{disks_end}
use Rattle.world_parts.specs.domain_laws.Domain.{Lanes, lanes, lanes_in}
use Rattle.world_parts.specs.domain_laws.Lines.{fronts}
use Rattle.world_parts.specs.world_laws.Along.{happened}
use Rattle.world_parts.specs.world_laws.Ended.{EndsIn, LanesEnd}
use Rattle.world_parts.specs.world_laws.Moves.{ticks_in}
use Rattle.world_parts.specs.world_laws.Settle.{SettleEntry, Settled}
use Rattle.ldom_entries.specs.declared.entry.Entry.{Entry}
use Rattle.script_laws.proofs.ReachedLanes.{AreLanes}
use Rattle.script_laws.proofs.Untold.{Untold, all_told, real_settled, told_happened, told_ticks, untold}
use Rattle.script_laws.proofs.DiskShapes.{are_shapes}
use Rattle.script_laws.proofs.Entries.{NotSettled}
use Rattle.script_laws.proofs.FinishedBy.{finished_by}
use Rattle.script_laws.proofs.LedLanes.{led_run, told_run}
use Rattle.script_laws.proofs.LineEntries.{names_last}
use Rattle.script_laws.proofs.SettleEntries.{front_last, none_behind, out_last, settled_last}
use Rattle.script_laws.proofs.SettleLines.{EachSettles, SettlesBehind}
use Rattle.script_laws.proofs.SettledStill.{answered}
use Rattle.script_laws.proofs.Settling.{reached_events}
use Rattle.script_laws.proofs.TicksStand.{MovedTo, moved_to}
use Rattle.script_laws.specs.Settled.{IsFinishedBy, RestsOrTicked}
use Rattle.script_laws.specs.Told.{log_at, told, told_by}
use Rattle.world_parts.specs.Declared.{shapes_of}

-- A PART WITH THE ANSWER is one that ends settled
pub settles_if : (w : Lanes) (part so_far rest : List SettleEntry) (behind : Lanes)
    → part ≡ so_far ++ Settled ∷ rest → SettlePart lanes w part behind ⊎ SettleFront lanes fronts w part behind
    → Settles lanes w part behind
settles_if w part so_far rest behind is (inl (inl settles)) = settles
settles_if w part so_far rest behind is (inl (inr out)) =
    absurd (each_in NotSettled part so_far Settled rest is (names_last part (out_last w part behind out)))
settles_if w part so_far rest behind is (inr at) =
    absurd (each_in NotSettled part so_far Settled rest is (names_last part (front_last w part behind at)))

lane_ends : (j : ℕ) (part : List SettleEntry) (lanes : List LaneState) (x n : ℕ) (s : LaneState) → n ≡ j + x
    → LanesEnd j part lanes → slice_get lanes x ≡ Some s → EndsIn n part s
lane_ends j part (t ∷ lanes) (suc x) n s is ends there = grind (arith, lane_ends (j + 1) part lanes x n s (omega (arith, is)) ends.1 there)
lane_ends j part lanes x n s is ends there = grind arith

own : (x : ℕ) → x ≡ 0 + x
own x = omega (arith)

-- the answer adds no tick
same_ticks : (x : ℕ) (part so_far : List SettleEntry) → part ≡ so_far ++ Settled ∷ [] → ticks_in x part ≡ 1
    → ticks_in x so_far ≡ 1
same_ticks x part so_far is one = grind (arith, sum_both)

module _ (disks : List DiskDecl) (nets : List NetShape) (image : ImageState) (are : AreLanes disks nets) (x : ℕ)
    (shape : Shape) (of_shape : slice_get (shapes_of 0 disks) x ≡ Some shape) where
  -- where the real part has its answer, so far
  module _ (before : List (Event × List Entry)) (part : List SettleEntry) (of : SettlesBehind disks nets image before part)
      (so_far rest : List SettleEntry) (is : of.real ≡ so_far ++ Settled ∷ rest) where
    settles : Settles lanes (lanes_in of.at) of.real of.behind
    settles = settles_if (lanes_in of.at) of.real so_far rest of.behind is of.goes

    whole : of.real ≡ so_far ++ Settled ∷ []
    whole =
        is ∙ ap (λ (l : List SettleEntry). so_far ++ Settled ∷ l)
        (none_behind of.real so_far rest (settled_last (lanes_in of.at) of.real of.behind settles) is)

    rests_real : (log_at shape x (told before ++ all_told so_far)).work.stopped ≡ false
        → IsFinishedBy (log_at shape x (told before ++ all_told so_far)) ⊎ (ticks_in x (all_told so_far) ≡ 1)
    rests_real runs =
        let shapes : List Shape = shapes_of 0 disks in
        let sound : IsShape shape = shape_at 0 shapes x shape (are_shapes 0 disks are.disks_are) of_shape in
        let reached = (reached_events disks nets image are before of.at of.run).reached in
        let lane = lane_at shapes image (told before) of.at.first x shape (told_run disks nets image before of.at of.run)
        of_shape in
        let past : List SettleEntry = told before ++ all_told so_far in
        let m : MovedTo x of.real lane.0 of.behind.first =
        moved_to of.at.first.lanes of.real of.behind.first x lane.0
        (part_moves_disks (lanes_in of.at) of.real of.behind (inl settles)) lane.1 in
        let same : happened x of.real ≡ happened x (all_told so_far) =
        ap (λ (l : List SettleEntry). happened x l) whole ∙ sym (answered x so_far) ∙ sym (told_happened x so_far) in
        let run : Run LaneStep (fresh shape) (happened x past) m.lane =
        led_run disks nets image x shape of_shape before of.at of.run lane.0 lane.1 (all_told so_far) m.lane
        (subst (λ (l : List DiskEvent). Run LaneStep lane.0 l m.lane) same m.run) in
        let agrees = run_agrees shape (happened x past) m.lane sound run in
        let at : EndsIn x of.real m.lane =
        lane_ends 0 of.real of.behind.first x x m.lane (own x)
        (disks_end (lanes_in of.at) of.real of.behind reached settles) m.there in
        elim (at.ticked (agrees.stopped ∙ runs)) [
          | inl finished ↦ inl (finished_by shape (happened x past) m.lane sound run finished)
          | inr had ↦ inr (told_ticks x so_far ∙ same_ticks x of.real so_far whole had)
        ]

  rests_at : (before : List (Event × List Entry)) (part so_far rest : List SettleEntry)
      → SettlesBehind disks nets image before part → part ≡ so_far ++ Settled ∷ rest
      → (log_at shape x (told before ++ so_far)).work.stopped ≡ false
      → IsFinishedBy (log_at shape x (told before ++ so_far)) ⊎ (ticks_in x so_far ≡ 1)
  rests_at before part so_far rest of is =
      let at : Untold of.real so_far Settled rest = untold of.real so_far Settled rest (sym of.told_is ∙ is) in
      let real : of.real ≡ at.past ++ Settled ∷ at.rest =
      at.is ∙ ap (λ (e : SettleEntry). at.past ++ e ∷ at.rest) (real_settled at.real at.real_is) in
      subst
      (λ (l : List SettleEntry). (log_at shape x (told before ++ l)).work.stopped ≡ false
      → IsFinishedBy (log_at shape x (told before ++ l)) ⊎ (ticks_in x l ≡ 1)) (sym at.past_is)
      (rests_real before part of at.past at.rest real)

  pub rests_or_ticked : (lines : List (Event × List Entry)) → EachSettles disks nets image lines
      → RestsOrTicked shape x lines
  rests_or_ticked lines each before part behind so_far rest is place runs =
      rests_at before (told_by (Settle, part)) so_far rest (each before part behind is) place runs
