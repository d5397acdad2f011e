-- Each entry of a world's journal has its words, and what it says of a disk is lawful.
use Rattle.std.proofs.Common.{◌≡◌, ℕ, ◌<◌, true, false, List, ◌∷◌, ◌++◌, length, slice_get, Some, sym, subst, arith}
use Rattle.std.specs.Prelude.{is_some}
use Rattle.std.proofs.lemmas.Option.{slice_get_within}
use Rattle.runs.specs.Lawful.{log_of}
use Rattle.runs.specs.Run.{Run, run_split}
use Rattle.ldc_queue.specs.declared.end.End.TheVariants.{A, B}
use Rattle.lane_models.specs.WireAt.{IsUp}
use Rattle.disk_law.specs.ListState.{ImageState}
use Rattle.lane_laws.specs.Agreement.{AgreesWithLog}
use Rattle.lane_laws.specs.DiskLog.{after, nothing_yet}
use Rattle.lane_laws.specs.May.{IsLawful}
use Rattle.lane_models.specs.DiskEvent.{DiskEvent}
use Rattle.lane_models.specs.LaneState.{IsShape, LaneState, Shape, fresh}
use Rattle.lane_models.specs.LaneStep.{LaneStep}
use Rattle.lane_laws.proofs.OneSession.{one_session}
use Rattle.lane_laws.proofs.HeardFront.{both_up}
use Rattle.lane_laws.specs.OneSession.{AreOneSession}
use Rattle.lane_laws.proofs.AgreementRuns.{run_agrees}
use Rattle.lane_laws.proofs.EveryRun.{every_run}
use Rattle.world_laws.specs.Along.{happened}
use Rattle.world_laws.specs.Settle.{OfLane, SettleEntry}
use Rattle.world_laws.proofs.Along.{lane_at, lane_step, lanes_run, shape_at}
use Rattle.lane_kinds.proofs.Places.{get_within}
use Rattle.world_laws.specs.World.{AreShapes, WorldState, WorldStep, fresh_world}
use Rattle.world_laws.proofs.EventWords.{event_words}
use Rattle.world_laws.specs.Words.{HasWords}

-- A LANE of a world was run from a fresh one of a sound shape
record LaneIn (shapes : List Shape) (entries : List SettleEntry) (k : ℕ) (s : LaneState) : Type 0 where
  shape : Shape
  within : k < length shapes
  sound : AreShapes 0 shapes → IsShape shape
  run : Run LaneStep (fresh shape) (happened k entries) s

lane_in : (shapes : List Shape) (image : ImageState) (entries : List SettleEntry) (w : WorldState) (k : ℕ) (s : LaneState) → Run WorldStep (fresh_world shapes image) entries w
    → slice_get w.lanes k ≡ Some s → LaneIn shapes entries k s
lane_in shapes image entries w k s run there =
    let runs = lanes_run shapes image entries w run in
    let within : k < length shapes = omega (arith, slice_get_within w.lanes k s there, runs.many) in
    let shape = get_within shapes k within in
    grind (arith, shape_at)

-- AN ENTRY is a step of its lane, after what happened to it before
record EntryAt (shapes : List Shape) (before : List SettleEntry) (k : ℕ) (event : DiskEvent) : Type 0 where
  lane : LaneState
  of_world : LaneIn shapes before k lane
  behind : LaneState
  step : LaneStep lane event behind

entry_at : (shapes : List Shape) (image : ImageState) (entries : List SettleEntry) (w : WorldState) (before : List SettleEntry) (k : ℕ) (event : DiskEvent) (behind : List SettleEntry)
    → Run WorldStep (fresh_world shapes image) entries w → before ++ OfLane k event ∷ behind ≡ entries → EntryAt shapes before k event
entry_at shapes image entries w before k event behind run is =
    let whole : Run WorldStep (fresh_world shapes image) (before ++ OfLane k event ∷ behind) w =
    subst (λ (l : List SettleEntry). Run WorldStep (fresh_world shapes image) l w) (sym is) run in
    let split = run_split WorldStep (fresh_world shapes image) w before (OfLane k event ∷ behind) whole in
    grind (arith, lane_in, lane_step)

pub entry_within : (shapes : List Shape) (image : ImageState) (entries : List SettleEntry) (w : WorldState) (before : List SettleEntry) (k : ℕ) (event : DiskEvent) (behind : List SettleEntry)
    → AreShapes 0 shapes → Run WorldStep (fresh_world shapes image) entries w → before ++ OfLane k event ∷ behind ≡ entries → k < length shapes
entry_within shapes image entries w before k event behind are run is = (entry_at shapes image entries w before k event behind run is).of_world.within

pub entry_words : (shapes : List Shape) (image : ImageState) (entries : List SettleEntry) (w : WorldState) (before : List SettleEntry) (k : ℕ) (event : DiskEvent) (behind : List SettleEntry)
    → AreShapes 0 shapes → Run WorldStep (fresh_world shapes image) entries w → before ++ OfLane k event ∷ behind ≡ entries → HasWords event
entry_words shapes image entries w before k event behind are run is =
    let at = entry_at shapes image entries w before k event behind run is in
    event_words at.of_world.shape (happened k before) at.lane event at.behind (at.of_world.sound are) at.of_world.run at.step

-- LAWFUL
pub lane_lawful : (shapes : List Shape) (image : ImageState) (entries : List SettleEntry) (w : WorldState) (k : ℕ) (shape : Shape) → AreShapes 0 shapes
    → Run WorldStep (fresh_world shapes image) entries w → slice_get shapes k ≡ Some shape → IsLawful shape (happened k entries)
lane_lawful shapes image entries w k shape are run there =
    let lane = lane_at shapes image entries w k shape run there in
    every_run shape (happened k entries) lane.0 (shape_at 0 shapes k shape are there) ((lanes_run shapes image entries w run).each k shape lane.0 there lane.1)

pub lane_agrees : (shapes : List Shape) (image : ImageState) (entries : List SettleEntry) (w : WorldState) (k : ℕ) (shape : Shape) (s : LaneState) → AreShapes 0 shapes
    → Run WorldStep (fresh_world shapes image) entries w → slice_get shapes k ≡ Some shape → slice_get w.lanes k ≡ Some s
    → AgreesWithLog s (log_of after (nothing_yet shape) (happened k entries))
lane_agrees shapes image entries w k shape s are run of_shape there =
    run_agrees shape (happened k entries) s (shape_at 0 shapes k shape are of_shape) ((lanes_run shapes image entries w run).each k shape s of_shape there)

-- ONE SESSION
pub lane_up : (shapes : List Shape) (image : ImageState) (entries : List SettleEntry) (w : WorldState) (k : ℕ) (s : LaneState) → AreShapes 0 shapes
    → Run WorldStep (fresh_world shapes image) entries w → slice_get w.lanes k ≡ Some s → s.wire.forged ≡ false → is_some s.client.session ≡ true → is_some s.server.session ≡ true
    → IsUp A s.wire.wire × IsUp B s.wire.wire
lane_up shapes image entries w k s are run there clean client server =
    let lane = lane_in shapes image entries w k s run there in
    both_up lane.shape (happened k entries) s (lane.sound are) lane.run clean client server

pub lane_one : (shapes : List Shape) (image : ImageState) (entries : List SettleEntry) (w : WorldState) (k : ℕ) (s : LaneState) → AreShapes 0 shapes
    → Run WorldStep (fresh_world shapes image) entries w → slice_get w.lanes k ≡ Some s → s.wire.forged ≡ false → is_some s.client.session ≡ true → is_some s.server.session ≡ true
    → AreOneSession s.client.handshake s.server.handshake
lane_one shapes image entries w k s are run there clean client server =
    let lane = lane_in shapes image entries w k s run there in
    one_session lane.shape (happened k entries) s (lane.sound are) lane.run clean client server
