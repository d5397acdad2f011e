-- Along every run of a world the image keeps what each disk leaves alone.
use Rattle.std.proofs.Common.{◌≡◌, ℕ, ◌+◌, ◌*◌, ◌≤◌, false, inl, inr, Option, Some, List, [], ◌∷◌, ◌++◌, length, refl, sym, ap, ◌∙◌, subst, arith}
use Rattle.runs.specs.Run.{Run}
use Rattle.disk_law.specs.ListState.{ImageState}
use Rattle.lane_models.specs.DiskEvent.{Asks, Desc, DiskEvent, Done, Finished, Misplaced, Moved, OnWire, Published, Calms, Stored, Switches, Works}
use Rattle.lane_models.specs.LaneState.{IsShape, LaneState, Shape, fresh}
use Rattle.lane_models.specs.LaneStep.{LaneStep}
use Rattle.lane_models.specs.Served.{Served}
use Rattle.world_laws.specs.Along.{happened}
use Rattle.world_laws.specs.Settle.{OfLane, SettleEntry}
use Rattle.world_laws.specs.World.{IsWorld, LaneMoves, OneMoves, WorldState, WorldStep, fresh_world}
use Rattle.world_laws.specs.NamesNo.{AllLeaveAlone, IsOutOf, LeavesAlone, NamesNo}
use Rattle.world_laws.specs.Stays.{StaysAround, StaysAt}
use Rattle.world_laws.proofs.BehindDisks.{still_holds}
use Rattle.world_laws.proofs.LaneStores.{unit_stored}
use Rattle.world_laws.proofs.Forging.{forged_by_events, forges_front}
use Rattle.world_laws.proofs.ImageKeeping.{byte_before, byte_behind}
use Rattle.world_laws.proofs.Moving.{happened_both}
use Rattle.world_laws.proofs.NamedPlaces.{names_front, same_byte, unit_byte}
use Rattle.world_laws.proofs.WorldRuns.{LaneAt, along_world, lane_at, step_around}

-- EACH EVENT of a lane keeps the byte
still : (place : ℕ) (i j : ImageState) (store : List ℕ) → i.told ≡ Some store → j ≡ i → StaysAt place store j.told
still place i j store told same = same_byte place store j.told (ap (λ (x : ImageState). x.told) same ∙ told)

moves_byte : (place : ℕ) (shape : Shape) (events : List DiskEvent) (s : LaneState) (event : DiskEvent) (t : LaneState) (i j : ImageState) (store : List ℕ) → IsShape shape
    → Run LaneStep (fresh shape) events s → s.wire.forged ≡ false → NamesNo place shape.first events → LaneMoves s i event t j → i.told ≡ Some store
    → 512 * (shape.first + shape.blocks) ≤ length store → StaysAt place store j.told
moves_byte place shape events s (Works (Stored operation block count failed)) t i j store sound run unforged named moves told room =
    unit_byte place shape events s operation block count failed t store j.told sound run unforged named
    (unit_stored shape events s operation block count failed t store j.told sound run room
    (subst (λ (o : Option (List ℕ)). Served s o (Works (Stored operation block count failed)) t j.told) told moves.0))
moves_byte place shape events s (OnWire event) t i j store sound run unforged named moves told room = still place i j store told moves.1
moves_byte place shape events s (Asks event) t i j store sound run unforged named moves told room = still place i j store told moves.1
moves_byte place shape events s (Works (Published id)) t i j store sound run unforged named moves told room = still place i j store told moves.1
moves_byte place shape events s (Works (Done id operation status bytes)) t i j store sound run unforged named moves told room = still place i j store told moves.1
moves_byte place shape events s (Works (Desc slot bytes)) t i j store sound run unforged named moves told room = still place i j store told moves.1
moves_byte place shape events s (Works (Moved unit fault)) t i j store sound run unforged named moves told room = still place i j store told moves.1
moves_byte place shape events s (Works (Finished slot status)) t i j store sound run unforged named moves told room = still place i j store told moves.1
moves_byte place shape events s (Works Misplaced) t i j store sound run unforged named moves told room = still place i j store told moves.1
moves_byte place shape events s (Switches event) t i j store sound run unforged named moves told room = still place i j store told moves.1
moves_byte place shape events s (Calms event) t i j store sound run unforged named moves told room = still place i j store told moves.1

-- the byte stays after another event
byte_on : (place : ℕ) (first : List ℕ) (told now : Option (List ℕ)) → (before : StaysAt place first told) → StaysAt place before.now now → StaysAt place first now
byte_on place first told now before behind = record { now = behind.now; told_is = behind.told_is; long = behind.long ∙ before.long; byte = behind.byte ∙ before.byte }

-- OF A FRONT of entries
alone_front : (shapes : List Shape) (place : ℕ) (past : List SettleEntry) (entry : SettleEntry) → AllLeaveAlone shapes place (past ++ entry ∷ []) → AllLeaveAlone shapes place past
alone_front shapes place past entry alone k shape there = grind (arith, happened_both, forges_front, names_front)

-- OUTSIDE of the region of its disk the byte stays by any event
around_byte : (place : ℕ) (shape : Shape) (store : List ℕ) (told : Option (List ℕ)) → IsOutOf place shape → StaysAround shape store told → StaysAt place store told
around_byte place shape store told (inl before) around =
    record { now = around.now; told_is = around.told_is; long = around.long; byte = byte_before place (512 * shape.first) around.now store before around.around.before }
around_byte place shape store told (inr behind) around =
    record { now = around.now; told_is = around.told_is; long = around.long; byte = byte_behind place (512 * (shape.first + shape.blocks)) around.now store behind around.around.behind }

-- ALONG A RUN
module _ (shapes : List Shape) (image : ImageState) (first : List ℕ) (place : ℕ) (world : IsWorld shapes image) (told : image.told ≡ Some first) where
  abbrev KeepsByte : List SettleEntry → WorldState → Type 0
  KeepsByte past w = AllLeaveAlone shapes place past → StaysAt place first w.image.told

  own_byte : (past : List SettleEntry) (w : WorldState) (k : ℕ) (event : DiskEvent) (v : WorldState) → Run WorldStep (fresh_world shapes image) past w → (one : OneMoves w k event v)
      → (at : LaneAt shapes past w k event v one) → (before : StaysAt place first w.image.told) → LeavesAlone place at.shape (happened k past) → StaysAt place before.now v.image.told
  own_byte past w k event v run one at before (inl out) =
      around_byte place at.shape before.now v.image.told out
      (step_around shapes image past w k event v before.now world run one before.told_is (still_holds shapes image first before.now past w world told run before.told_is) at)
  own_byte past w k event v run one at before (inr clean) =
      let room = still_holds shapes image first before.now past w world told run before.told_is in
      let ends = at.ends in
      moves_byte place at.shape (happened k past) one.lane event one.after w.image v.image before.now at.sound at.run ((forged_by_events at.shape (happened k past) one.lane at.run).1 clean.0) clean.1 one.moves
      before.told_is (omega (arith, room, ends))

  byte_step : (past : List SettleEntry) (w : WorldState) (entry : SettleEntry) (v : WorldState) → Run WorldStep (fresh_world shapes image) past w → WorldStep w entry v → KeepsByte past w
      → KeepsByte (past ++ entry ∷ []) v
  byte_step past w (OfLane k event) v run step keeps = λ alone.
      let at : LaneAt shapes past w k event v step = lane_at shapes image past w k event v world run step in
      let front : AllLeaveAlone shapes place past = alone_front shapes place past (OfLane k event) alone in
      let before : StaysAt place first w.image.told = keeps front in
      byte_on place first w.image.told v.image.told before (own_byte past w k event v run step at before (front k at.shape at.there))
  byte_step past w entry v run step keeps = λ alone.
      subst (λ (x : WorldState). StaysAt place first x.image.told) (sym step) (keeps (alone_front shapes place past entry alone))

  pub stays_at : (entries : List SettleEntry) (w : WorldState) → Run WorldStep (fresh_world shapes image) entries w → AllLeaveAlone shapes place entries → StaysAt place first w.image.told
  stays_at entries w run alone =
      along_world (fresh_world shapes image) KeepsByte byte_step (λ all. record { now = first; told_is = told; long = refl; byte = refl }) entries w run alone
