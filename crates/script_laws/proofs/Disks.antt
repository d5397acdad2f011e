-- What holds of each disk where a script's journal led: its lane, its requests, its reads and its blocks.
use Rattle.std.proofs.Common.{◌≡◌, ℕ, ◌≤◌, false, List, ◌∷◌, ◌++◌, length, slice_get, Some, IfSome, ap, ◌∙◌, subst}
use Rattle.runs.specs.Run.{Run, run_split}
use Rattle.disk_law.specs.ListState.{ImageState}
use Rattle.world_parts.specs.lane_models.DiskEvent.{Done, Works}
use Rattle.world_parts.specs.lane_models.LaneState.{IsShape, LaneState, Shape, fresh}
use Rattle.world_parts.specs.lane_models.LaneStep.{LaneStep}
use Rattle.domain_script.specs.Declarations.{AreDisks}
use Rattle.domain_script.specs.declared.event.DiskDecl.{DiskDecl}
use Rattle.world_parts.specs.world_laws.Along.{happened}
use Rattle.world_parts.specs.lane_laws.Headline.{CompletionShows}
use Rattle.world_parts.specs.lane_laws.ImageStep.{region_of}
use Rattle.world_parts.specs.world_laws.Settle.{OfLane, SettleEntry}
use Rattle.world_parts.specs.world_laws.Sums.{IsUnforged}
use Rattle.world_parts.proofs.world_laws.Along.{lane_at, lanes_run, shape_at}
use Rattle.world_parts.proofs.world_laws.LaneLists.{each_there}
use Rattle.world_parts.specs.world_laws.World.{IsWorld, WorldState, WorldStep, fresh_world}
use Rattle.world_parts.specs.domain_laws.Domain.{DomainState}
use Rattle.world_parts.specs.lane_models.NetLaneState.{NetShape}
use Rattle.world_parts.specs.lane_models.WireLog.{WireLog}
use Rattle.world_parts.proofs.lane_laws.AgreementRuns.{run_agrees}
use Rattle.world_parts.proofs.world_laws.Forging.{forged_by_events}
use Rattle.script_laws.proofs.Failing.{fails_by_events}
use Rattle.script_laws.proofs.FinishedBy.{finished_by}
use Rattle.script_laws.proofs.Leading.{Leads}
use Rattle.script_laws.proofs.Moments.{moment, stands_at}
use Rattle.script_laws.proofs.Settling.{FinishedAt}
use Rattle.script_laws.proofs.DeclaredWorlds.{declared_world}
use Rattle.script_laws.proofs.Undisturbed.{shows_last}
use Rattle.script_laws.specs.Contents.{DiskHolds, NoStoreFailed, ReadsShow}
use Rattle.script_laws.specs.Headline.{OfDisk}
use Rattle.script_laws.specs.Lanes.{LaneStands}
use Rattle.script_laws.specs.Settled.{IsFinishedBy}
use Rattle.script_laws.specs.Told.{log_at}
use Rattle.script_laws.proofs.DiskShapes.{are_shapes}
use Rattle.world_parts.proofs.world_laws.WorldLaws.{lanes_well}
use Rattle.world_parts.specs.world_laws.Failures.{NeverFailed}
use Rattle.world_parts.proofs.world_laws.Contents.{own_all, own_holds}
use Rattle.world_parts.proofs.world_laws.Fronts.{front_completion}
use Rattle.world_parts.specs.Declared.{bytes_needed, shapes_of}
use Rattle.world_parts.proofs.world_laws.WorldWords.{lane_agrees, lane_lawful}

-- BEHIND A SETTLE
finishes : (disks : List DiskDecl) (image : ImageState) (x : ℕ) (shape : Shape) → AreDisks disks
    → slice_get (shapes_of 0 disks) x ≡ Some shape → (before : List SettleEntry) → FinishedAt disks image before
    → (log_at shape x before).wire.forged ≡ false → (log_at shape x before).work.stopped ≡ false
    → IsFinishedBy (log_at shape x before)
finishes disks image x shape are of_shape before of clean runs =
    let shapes : List Shape = shapes_of 0 disks in
    let shapes_are = are_shapes 0 disks are in
    let lane = lane_at shapes image before of.at x shape of.run of_shape in
    let s : LaneState = lane.0 in
    let agrees = lane_agrees shapes image before of.at x shape s shapes_are of.run of_shape lane.1 in
    let run : Run LaneStep (fresh shape) (happened x before) s =
    (lanes_run shapes image before of.at of.run).each x shape s of_shape lane.1 in
    let unforged : IsUnforged s = ap (λ (w : WireLog). w.forged) agrees.wire ∙ clean in
    finished_by shape (happened x before) s (shape_at 0 shapes x shape shapes_are of_shape) run
    (of.finished x s lane.1 unforged (agrees.stopped ∙ runs))

-- READS, where entries led a world and nobody forged its lane
front_reads : (disks : List DiskDecl) (image : ImageState) (x : ℕ) (shape : Shape) (first : List ℕ)
    → IsWorld (shapes_of 0 disks) image → image.told ≡ Some first → slice_get (shapes_of 0 disks) x ≡ Some shape
    → (entries : List SettleEntry) (w : WorldState) (s : LaneState)
    → Run WorldStep (fresh_world (shapes_of 0 disks) image) entries w → slice_get w.lanes x ≡ Some s → IsUnforged s
    → s.failed ≡ false → ReadsShow shape x first entries
front_reads disks image x shape first world told of_shape entries w s run there unforged well =
    let shapes : List Shape = shapes_of 0 disks in
    let completion : (before : List SettleEntry) (id operation status : ℕ) (bytes : List ℕ) (behind : List SettleEntry)
    → entries ≡ before ++ OfLane x (Works (Done id operation status bytes)) ∷ behind
    → CompletionShows (region_of shape first) (log_at shape x before) status bytes =
    λ before id operation status bytes behind is.
    front_completion shapes image first x shape world told of_shape before id operation status bytes behind w s
    (subst (λ (l : List SettleEntry). Run WorldStep (fresh_world shapes image) l w) is run) there unforged well in
    record {
      shows = completion;
      undisturbed = λ before id operation status bytes behind is are.
          shows_last shape x (region_of shape first) before status bytes are
          (completion before id operation status bytes behind is);
    }

module _ (disks : List DiskDecl) (nets : List NetShape) (image : ImageState) (are : AreDisks disks)
    (long : IfSome image.told (λ bytes. bytes_needed disks ≤ length bytes)) (entries : List SettleEntry)
    (v : DomainState) (leads : Leads disks nets image entries v) (x : ℕ) (shape : Shape) (s : LaneState)
    (of_shape : slice_get (shapes_of 0 disks) x ≡ Some shape) (there : slice_get v.first.lanes x ≡ Some s) where
  world : IsWorld (shapes_of 0 disks) image
  world = declared_world disks image are long

  lane_run : Run LaneStep (fresh shape) (happened x entries) s
  lane_run = (lanes_run (shapes_of 0 disks) image entries v.first leads.run).each x shape s of_shape there

  is_shape : IsShape shape
  is_shape = shape_at 0 (shapes_of 0 disks) x shape (are_shapes 0 disks are) of_shape

  stands : LaneStands shape x entries s
  stands = record {
    lawful = lane_lawful (shapes_of 0 disks) image entries v.first x shape (are_shapes 0 disks are) leads.run of_shape;
    now = stands_at shape (happened x entries) s is_shape lane_run;
    always = λ before behind is.
        moment shape x before behind s is_shape
        (subst (λ (l : List SettleEntry). Run LaneStep (fresh shape) (happened x l) s) is lane_run);
    forged = forged_by_events shape (happened x entries) s lane_run;
  }

  -- ALONG THE ENTRIES, as far as nobody forged it and no call of its store failed
  reads : (first : List ℕ) → image.told ≡ Some first → (front behind : List SettleEntry) → entries ≡ front ++ behind
      → (log_at shape x front).wire.forged ≡ false → NoStoreFailed (happened x front) → ReadsShow shape x first front
  reads first told front behind is clean none =
      let shapes : List Shape = shapes_of 0 disks in
      let parts =
      run_split WorldStep (fresh_world shapes image) v.first front behind
      (subst (λ (l : List SettleEntry). Run WorldStep (fresh_world shapes image) l v.first) is leads.run) in
      let lane = lane_at shapes image front parts.0 x shape parts.1 of_shape in
      let run : Run LaneStep (fresh shape) (happened x front) lane.0 =
      (lanes_run shapes image front parts.0 parts.1).each x shape lane.0 of_shape lane.1 in
      let unforged : IsUnforged lane.0 =
      ap (λ (w : WireLog). w.forged) (run_agrees shape (happened x front) lane.0 is_shape run).wire ∙ clean in
      front_reads disks image x shape first world told of_shape front parts.0 lane.0 parts.1 lane.1 unforged
      ((fails_by_events shape (happened x front) lane.0 run).1 none)

  holds : (first bytes : List ℕ) → image.told ≡ Some first → v.first.image.told ≡ Some bytes → IsUnforged s
      → s.failed ≡ false → DiskHolds shape x first entries bytes
  holds first bytes told now unforged well = record {
    holds = own_holds (shapes_of 0 disks) image first x shape world told of_shape entries v.first s bytes leads.run there
        unforged well now;
    all = own_all (shapes_of 0 disks) image first x shape world told of_shape entries v.first s bytes leads.run there unforged
        well now;
  }

  unfailed : v.first.image.faults ≡ 0 → s.failed ≡ false
  unfailed none =
      each_there NeverFailed v.first.lanes x s (lanes_well (shapes_of 0 disks) image entries v.first leads.run none) there

  pub of_disk : OfDisk shape x image entries s v.first.image
  of_disk = record {
    stands = stands;
    finishes = λ before behind is. finishes disks image x shape are of_shape before (leads.finished before behind is);
    still = λ before behind is. (leads.finished before behind is).still x shape of_shape;
    failed = fails_by_events shape (happened x entries) s lane_run;
    unfailed = unfailed;
    reads = reads;
    holds = holds;
  }
