-- A lane's state says whether somebody forged it, and so do its events.
use Rattle.std.proofs.Common.{◌≡◌, ◌↔◌, ℕ, true, false, Some, List, [], ◌∷◌, ◌++◌, slice_get, refl, sym, ap, ◌∙◌, arith}
use Rattle.std.proofs.lemmas.Option.{slice_get_within}
use Rattle.runs.specs.Run.{Run}
use Rattle.lane_models.specs.WireEvent.{Injected, Poked, WireEvent}
use Rattle.lane_models.specs.WireLog.{WireLog}
use Rattle.disk_law.specs.ListState.{ImageState}
use Rattle.lane_models.specs.DiskEvent.{DiskEvent, OnWire}
use Rattle.lane_models.specs.LaneState.{LaneState, Shape, fresh}
use Rattle.lane_models.specs.LaneStep.{LaneStep}
use Rattle.lane_kinds.proofs.Places.{get_within}
use Rattle.world_laws.proofs.Along.{lanes_run}
use Rattle.world_laws.proofs.LaneLists.{each_all}
use Rattle.world_laws.proofs.RequestKeeping.{IsHonest, IsOnWireHonest, same_forged, wire_only}
use Rattle.world_laws.specs.Along.{happened}
use Rattle.world_laws.specs.Forged.{NobodyForges, NobodyForgesAny, forges}
use Rattle.world_laws.specs.Rounds.{Each}
use Rattle.world_laws.specs.Settle.{SettleEntry}
use Rattle.world_laws.specs.Sums.{IsUnforged}
use Rattle.world_laws.specs.World.{WorldState, WorldStep, fresh_world}

-- ONE EVENT that forges nothing is honest
wire_honest : (event : WireEvent) → forges (OnWire event) ≡ false → IsOnWireHonest event
wire_honest (Injected e packet) none = absurd (cc none)
wire_honest (Poked e at bytes) none = absurd (cc none)
wire_honest event none = tt

pub event_honest : (event : DiskEvent) → forges event ≡ false → IsHonest event
event_honest event none = grind arith

-- and one that leads to a lane that nobody forged forges nothing
pub forged_now : (w v : WireLog) → v ≡ w → w.forged ≡ true → v.forged ≡ false → ⊥
forged_now w v is forged clean = let both : true ≡ false = sym forged ∙ sym (ap (λ (x : WireLog). x.forged) is) ∙ clean in cc both

pub event_forges : (s : LaneState) (event : DiskEvent) (t : LaneState) → LaneStep s event t → t.wire.forged ≡ false → forges event ≡ false
event_forges s event t step clean = grind (arith, forged_now, wire_only)

-- A RUN that leads to a lane that nobody forged, and one that leads from it
pub none_forged : (s : LaneState) (events : List DiskEvent) (t : LaneState) → Run LaneStep s events t → t.wire.forged ≡ false → (s.wire.forged ≡ false) × NobodyForges events
none_forged s [] t run clean = (ap (λ (l : LaneState). l.wire.forged) run ∙ clean, tt)
none_forged s (event ∷ events) t run clean = grind (arith, event_forges, same_forged, event_honest, none_forged run.0 events t run.2 clean)

pub stays_clean : (s : LaneState) (events : List DiskEvent) (t : LaneState) → Run LaneStep s events t → s.wire.forged ≡ false → NobodyForges events → t.wire.forged ≡ false
stays_clean s [] t run clean none = sym (ap (λ (l : LaneState). l.wire.forged) run) ∙ clean
stays_clean s (event ∷ events) t run clean none =
    stays_clean run.0 events t run.2 (same_forged s event run.0 (event_honest event none.0) run.1 ∙ clean) none.1

pub forged_by_events : (shape : Shape) (events : List DiskEvent) (s : LaneState) → Run LaneStep (fresh shape) events s → (s.wire.forged ≡ false) ↔ NobodyForges events
forged_by_events shape events s run = (
  λ clean. (none_forged (fresh shape) events s run clean).1,
  λ none. stays_clean (fresh shape) events s run refl none,
)

-- of a front of events
pub forges_front : (one two : List DiskEvent) → NobodyForges (one ++ two) → NobodyForges one
forges_front [] two none = tt
forges_front (event ∷ one) two none = (none.0, forges_front one two none.1)

-- A LANE OF A WORLD
pub world_forged : (shapes : List Shape) (image : ImageState) (entries : List SettleEntry) (w : WorldState) (k : ℕ) (shape : Shape) (s : LaneState)
    → Run WorldStep (fresh_world shapes image) entries w → slice_get shapes k ≡ Some shape → slice_get w.lanes k ≡ Some s → (s.wire.forged ≡ false) ↔ NobodyForges (happened k entries)
world_forged shapes image entries w k shape s run of_shape there =
    forged_by_events shape (happened k entries) s ((lanes_run shapes image entries w run).each k shape s of_shape there)

-- A LANE that nobody forged was not forged before
pub forged_before : (s : LaneState) (event : DiskEvent) (t : LaneState) → LaneStep s event t → t.wire.forged ≡ false → s.wire.forged ≡ false
forged_before s event t step clean = (none_forged s (event ∷ []) t (t, step, refl) clean).0

-- AND ALL OF THEM
pub all_unforged : (shapes : List Shape) (image : ImageState) (entries : List SettleEntry) (w : WorldState) → Run WorldStep (fresh_world shapes image) entries w → NobodyForgesAny entries
    → Each IsUnforged w.lanes
all_unforged shapes image entries w run none =
    let lanes = lanes_run shapes image entries w run in
    each_all IsUnforged w.lanes
    (λ k s there.
    let shape = get_within shapes k (omega (arith, slice_get_within w.lanes k s there, lanes.many)) in
    (forged_by_events shape.0 (happened k entries) s (lanes.each k shape.0 s shape.1 there)).1 (none k))
