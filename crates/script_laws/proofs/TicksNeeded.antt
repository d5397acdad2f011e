-- Each tick in a settle of a script's lines is needed, by the log of its disk.
use Rattle.std.proofs.Common.{◌≡◌, ◌⊎◌, inl, inr, ℕ, Bool, true, false, List, ◌∷◌, ◌++◌, slice_get, Some, sym, ap, ◌∙◌, subst}
use Rattle.runs.specs.Lawful.{log_of}
use Rattle.runs.specs.Run.{Run}
use Rattle.disk_law.specs.ListState.{ImageState}
use Rattle.world_parts.specs.lane_models.ClientState.{is_finished}
use Rattle.world_parts.specs.lane_models.Reached.{IsReached}
use Rattle.world_parts.specs.lane_laws.Agreement.{AgreesWithLog}
use Rattle.world_parts.specs.lane_laws.DiskLog.{after, nothing_yet}
use Rattle.world_parts.specs.lane_models.DiskEvent.{DiskEvent}
use Rattle.world_parts.specs.lane_models.LaneState.{IsShape, LaneState, Shape, fresh}
use Rattle.world_parts.specs.lane_models.LaneStep.{LaneStep}
use Rattle.domain_script.specs.declared.event.DiskDecl.{DiskDecl}
use Rattle.domain_script.specs.declared.event.Event.{Event}
use Rattle.domain_script.specs.declared.event.Event.TheVariants.{Settle}
use Rattle.world_parts.proofs.lane_laws.AgreementRuns.{run_agrees}
use Rattle.world_parts.specs.lane_models.WireLog.{WireLog}
use Rattle.world_parts.proofs.world_laws.LaneTicks.{waits_where}
use Rattle.world_parts.proofs.world_laws.Moving.{happened_both}
use Rattle.world_parts.specs.world_laws.Along.{happened}
use Rattle.world_parts.specs.world_laws.DiskKind.{waits_on}
use Rattle.world_parts.specs.world_laws.Moves.{is_tick}
use Rattle.world_parts.specs.world_laws.Rounds.{Each}
use Rattle.world_parts.specs.world_laws.Settle.{OfLane, SettleEntry}
use Rattle.lane_kinds.specs.Fronts.{SettleFront}
use Rattle.lane_kinds.specs.Settles.{SettlePart}
use Rattle.world_parts.specs.lane_models.NetLaneState.{NetShape}
use Rattle.world_parts.specs.domain_laws.Domain.{DomainState, Lanes, lanes, lanes_in}
use Rattle.world_parts.specs.domain_laws.Lines.{fronts}
use Rattle.world_parts.proofs.world_laws.Along.{lane_at, shape_at}
use Rattle.ldom_entries.specs.declared.entry.Entry.{Entry}
use Rattle.script_laws.proofs.ReachedLanes.{AreLanes}
use Rattle.script_laws.proofs.Untold.{all_told}
use Rattle.script_laws.proofs.FinishedBy.{is_finished_by}
use Rattle.script_laws.proofs.LedLanes.{led_run, own_run, told_run}
use Rattle.script_laws.proofs.SettleLines.{EachSettles, SettlesBehind}
use Rattle.script_laws.proofs.Settling.{reached_events}
use Rattle.script_laws.proofs.TicksStand.{TickAt, TicksStand, begun_stands, part_stands}
use Rattle.script_laws.specs.Settled.{NeedsTick, TicksAreNeeded, WaitsBy}
use Rattle.script_laws.specs.Still.{AreStillBy}
use Rattle.script_laws.specs.Told.{log_at, told, told_by}
use Rattle.script_laws.proofs.DiskShapes.{are_shapes}
use Rattle.world_parts.specs.Declared.{shapes_of, world_of}
use Rattle.world_parts.specs.Lines.{EventStep}

part_stand : (w : Lanes) (part : List SettleEntry) (behind : Lanes) → Each IsReached w.first
    → SettlePart lanes w part behind ⊎ SettleFront lanes fronts w part behind → TicksStand w.first (all_told part)
part_stand w part behind reached (inl settle) = part_stands w part behind reached settle
part_stand w part behind reached (inr at) = begun_stands w part behind reached at

-- A LANE THAT WAITS does so by its log
never_finished : (finished : Bool) → finished ≡ false → finished ≡ true → ⊥
never_finished finished one two = let both : false ≡ true = sym one ∙ two in cc both

pub waits_by : (shape : Shape) (events : List DiskEvent) (s : LaneState) → IsShape shape
    → Run LaneStep (fresh shape) events s → waits_on s ≡ true → WaitsBy (log_of after (nothing_yet shape) events)
waits_by shape events s sound run waits =
    let both = waits_where (is_finished s.client) s.stopped waits in
    let agrees = run_agrees shape events s sound run in
    record {
      runs = sym agrees.stopped ∙ both.1;
      waits = λ by. never_finished (is_finished s.client) both.0 (is_finished_by shape events s sound run by);
    }

module _ (disks : List DiskDecl) (nets : List NetShape) (image : ImageState) (are : AreLanes disks nets) (x : ℕ)
    (shape : Shape) (of_shape : slice_get (shapes_of 0 disks) x ≡ Some shape) where
  sound : IsShape shape
  sound = shape_at 0 (shapes_of 0 disks) x shape (are_shapes 0 disks are.disks_are) of_shape

  -- a lane that was led on from where these lines led it agrees with the log of both
  lane_needs : (before : List (Event × List Entry)) (w : DomainState) (so_far : List SettleEntry) (s : LaneState)
      → Run EventStep (world_of disks nets image) before w → slice_get w.first.lanes x ≡ Some s → TickAt x so_far s
      → NeedsTick (log_at shape x (told before ++ so_far))
  lane_needs before w so_far s run there at =
      let past : List SettleEntry = told before in
      let whole : Run LaneStep (fresh shape) (happened x (past ++ so_far)) at.lane =
      led_run disks nets image x shape of_shape before w run s there so_far at.lane at.run in
      let agrees : AgreesWithLog at.lane (log_of after (nothing_yet shape) (happened x (past ++ so_far))) =
      run_agrees shape (happened x (past ++ so_far)) at.lane sound whole in
      let waits : WaitsBy (log_at shape x (past ++ so_far)) =
      waits_by shape (happened x (past ++ so_far)) at.lane sound whole at.waits in
      record {
        runs = waits.runs;
        waits = waits.waits;
        lost = λ clean.
            ap (λ (w : WireLog). w.lossy) (sym agrees.wire) ∙ at.lost (ap (λ (w : WireLog). w.forged) agrees.wire ∙ clean);
        still = subst (λ (l : List DiskEvent). AreStillBy (log_of after (nothing_yet shape) l))
            (sym (happened_both x past so_far))
            (at.still shape (happened x past) sound (own_run disks nets image x shape of_shape before w run s there));
      }

  tick_needs : (before : List (Event × List Entry)) (part so_far : List SettleEntry) (event : DiskEvent)
      (rest : List SettleEntry) → SettlesBehind disks nets image before part → part ≡ so_far ++ OfLane x event ∷ rest
      → is_tick event ≡ true → NeedsTick (log_at shape x (told before ++ so_far))
  tick_needs before part so_far event rest of place is =
      let reached : Each IsReached of.at.first.lanes =
      (reached_events disks nets image are before of.at of.run).reached.of_disks in
      let lane = lane_at (shapes_of 0 disks) image (told before) of.at.first x shape
      (told_run disks nets image before of.at of.run) of_shape in
      lane_needs before of.at so_far lane.0 of.run lane.1
      (part_stand (lanes_in of.at) of.real of.behind reached of.goes x event so_far rest lane.0 is
      (sym of.told_is ∙ place) lane.1)

  pub ticks_are_needed : (lines : List (Event × List Entry)) → EachSettles disks nets image lines
      → TicksAreNeeded shape x lines
  ticks_are_needed lines each before part behind so_far event rest is place of_tick =
      tick_needs before (told_by (Settle, part)) so_far event rest (each before part behind is) place of_tick
