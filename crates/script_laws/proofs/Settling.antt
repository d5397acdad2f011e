-- Each settle of a script's lines ends settled, or it names lanes that are left over; and where it ends settled all disks
-- are finished whose servers run and that nobody forged.
use Rattle.std.proofs.Common.{◌≡◌, ◌⊎◌, ℕ, suc, ◌+◌, true, false, List, [], ◌∷◌, ◌++◌, slice_get, Some, refl, sym, ap, ◌∙◌, subst, arith}
use Rattle.runs.specs.Lawful.{log_of}
use Rattle.runs.specs.Run.{Run, run_append, run_split}
use Rattle.disk_law.specs.ListState.{ImageState}
use Rattle.world_parts.specs.lane_models.ClientState.{is_finished}
use Rattle.world_parts.specs.lane_laws.DiskLog.{after, nothing_yet}
use Rattle.world_parts.specs.lane_models.DiskEvent.{DiskEvent}
use Rattle.world_parts.specs.lane_models.LaneState.{LaneState, Shape, fresh}
use Rattle.world_parts.specs.lane_models.LaneStep.{LaneStep}
use Rattle.domain_script.specs.declared.event.DiskDecl.{DiskDecl}
use Rattle.domain_script.specs.declared.event.Event.{Event}
use Rattle.domain_script.specs.declared.event.Event.TheVariants.{Settle}
use Rattle.lane_kinds.specs.Settles.{SettlePart, Settles}
use Rattle.world_parts.specs.lane_models.NetLaneState.{NetShape}
use Rattle.world_parts.specs.lane_models.PortState.{PortState}
use Rattle.world_parts.proofs.world_laws.Along.{lane_at, lanes_run, shape_at}
use Rattle.world_parts.proofs.world_laws.Moving.{happened_both}
use Rattle.world_parts.specs.world_laws.Along.{happened}
use Rattle.world_parts.specs.world_laws.Ended.{LanesEnd}
use Rattle.world_parts.specs.world_laws.Settle.{SettleEntry, Settled}
use Rattle.world_parts.specs.world_laws.Sums.{IsUnforged}
use Rattle.world_parts.specs.world_laws.World.{WorldState, WorldStep, fresh_world}
use Rattle.world_parts.proofs.domain_laws.LineEntries.{each_in}
use Rattle.world_parts.proofs.domain_laws.Arriving.{at_there}
use Rattle.world_parts.proofs.domain_laws.Resting.{disks_end, ports_end}
use Rattle.world_parts.proofs.domain_laws.Running.{disks_run}
use Rattle.world_parts.proofs.domain_laws.ScriptEntries.{lines_run}
use Rattle.world_parts.specs.domain_laws.Domain.{DomainState, DomainStep, lanes, lanes_in}
use Rattle.world_parts.specs.domain_laws.Lines as world
use Rattle.world_parts.specs.domain_laws.Settling.{AreUnforged, HoldsNoFrame, PortEndsIn, PortsEnd}
use Rattle.world_parts.specs.switch_laws.Reached as port
use Rattle.ldom_entries.specs.declared.entry.Entry.{Entry}
use Rattle.script_laws.proofs.ReachedLanes.{AreLanes, AreReachedFew, any_front, reached_behind, unforged_by}
use Rattle.script_laws.proofs.Entries.{IsName, LeavesNone}
use Rattle.script_laws.proofs.LineEntries.{part_leaves, settle_either, settle_ends, settles_where}
use Rattle.script_laws.proofs.Places.{InLine, line_with}
use Rattle.script_laws.proofs.SettleEntries.{SettledLast, none_behind, settled_last}
use Rattle.script_laws.proofs.SettledStill.{settled_still}
use Rattle.script_laws.proofs.DeclaredWorlds.{AsLines, as_lines, says_told}
use Rattle.script_laws.proofs.Untold.{all_told, told_ends, told_forged_all, told_happened, told_run, told_unsettled}
use Rattle.script_laws.specs.Settled.{EndsSettled, EndsUnsettled, NobodyForgesAll}
use Rattle.script_laws.specs.Still.{AreStillBy}
use Rattle.script_laws.specs.Told.{log_at, told, told_by}
use Rattle.script_laws.proofs.DiskShapes.{are_shapes, many_shapes}
use Rattle.world_parts.specs.Declared.{shapes_of, world_of}
use Rattle.world_parts.specs.Lines.{EventStep}

-- EACH DISK IS FINISHED whose server runs and that nobody forged
abbrev pub AllFinished : List LaneState → Type 0
AllFinished lanes =
    (x : ℕ) (s : LaneState) → slice_get lanes x ≡ Some s → IsUnforged s → s.stopped ≡ false
    → is_finished s.client ≡ true

end_at : (j : ℕ) (part : List SettleEntry) (lanes : List LaneState) (x : ℕ) (s : LaneState) → LanesEnd j part lanes
    → slice_get lanes x ≡ Some s → IsUnforged s → s.stopped ≡ false → is_finished s.client ≡ true
end_at j part (t ∷ lanes) (suc x) s ends there clean runs = end_at (j + 1) part lanes x s ends.1 there clean runs
end_at j part lanes x s ends there clean runs = grind arith

-- so they are in the world after these entries, and both ends of each are still
pub record FinishedAt (disks : List DiskDecl) (image : ImageState) (before : List SettleEntry) : Type 0 where
  pub at : WorldState
  pub run : Run WorldStep (fresh_world (shapes_of 0 disks) image) before at
  pub finished : AllFinished at.lanes
  pub still : (x : ℕ) (shape : Shape) → slice_get (shapes_of 0 disks) x ≡ Some shape
      → AreStillBy (log_at shape x before)

-- and the ports that nobody forged are at rest
pub record PortsRestAt (disks : List DiskDecl) (nets : List NetShape) (image : ImageState) (before behind : List SettleEntry)
    (v : DomainState) : Type 0 where
  pub at : DomainState
  pub run : Run DomainStep (world_of disks nets image) before at
  pub on : Run DomainStep at behind v
  pub rests : (k : ℕ) (s : PortState) → slice_get at.second k ≡ Some s → port.IsUnforged s → HoldsNoFrame s

-- the answer leaves the world
abbrev two_of : WorldState → List PortState → DomainState
two_of x y = record { first = x; second = y }

answer_stays : (m v : DomainState) → Run DomainStep m (Settled ∷ []) v → v ≡ m
answer_stays m v run = grind arith

-- and so they are after what is told of them
pub told_finished : (disks : List DiskDecl) (image : ImageState) (before : List SettleEntry) → FinishedAt disks image before
    → FinishedAt disks image (all_told before)
told_finished disks image before of = grind (arith, told_run, told_happened)

no_name : (entry : SettleEntry) → IsName entry → LeavesNone entry → ⊥
no_name entry is leaves = grind arith

module _ (disks : List DiskDecl) (nets : List NetShape) (image : ImageState) (are : AreLanes disks nets) where
  abbrev Start : DomainState
  Start = world_of disks nets image

  pub reached_lines : (lines : List (world.Line × List SettleEntry)) (w : DomainState)
      → Run world.LineStep Start lines w → AreReachedFew (lanes_in w)
  reached_lines lines w run = grind (arith, reached_behind, are_shapes, many_shapes)

  pub reached_events : (lines : List (Event × List Entry)) (w : DomainState) → Run EventStep Start lines w
      → AreReachedFew (lanes_in w)
  reached_events lines w run = let real = as_lines Start lines w run in reached_lines real.real w real.run

  -- where their entries forge no lane, nobody forged any
  pub unforged_lines : (lines : List (world.Line × List SettleEntry)) (w : DomainState)
      → Run world.LineStep Start lines w → NobodyForgesAll (world.entries_of_lines lines)
      → AreUnforged (lanes_in w)
  unforged_lines lines w run none =
      unforged_by (shapes_of 0 disks) image nets (world.entries_of_lines lines) w (lines_run Start lines w run) none

  -- A SETTLE among the lines
  record SettleAt (before : List (Event × List Entry)) (part : List Entry) : Type 0 where
    at : DomainState
    run : Run EventStep Start before at
    next : DomainState
    real : List SettleEntry
    told_is : told_by (Settle, part) ≡ all_told real
    settle : SettlePart lanes (lanes_in at) real (lanes_in next)

  settle_in : (lines : List (Event × List Entry)) (v : DomainState) → Run EventStep Start lines v
      → (before : List (Event × List Entry)) (part : List Entry) (behind : List (Event × List Entry))
      → lines ≡ before ++ (Settle, part) ∷ behind → SettleAt before part
  settle_in lines v run before part behind is =
      let whole : Run EventStep Start (before ++ (Settle, part) ∷ behind) v =
      subst (λ (l : List (Event × List Entry)). Run EventStep Start l v) is run in
      let split = run_split EventStep Start v before ((Settle, part) ∷ behind) whole in
      let step = split.2.1 in
      record {
        at = split.0;
        run = split.1;
        next = split.2.0;
        real = step.entries;
        told_is = says_told (Settle, part) step.entries step.says;
        settle = step.moves.part_of;
      }

  pub settle_at : (lines : List (Event × List Entry)) (v : DomainState) → Run EventStep Start lines v
      → (before : List (Event × List Entry)) (part : List Entry) (behind : List (Event × List Entry))
      → lines ≡ before ++ (Settle, part) ∷ behind
      → EndsSettled (told_by (Settle, part)) ⊎ EndsUnsettled (told_by (Settle, part))
  settle_at lines v run before part behind is =
      let of : SettleAt before part = settle_in lines v run before part behind is in
      subst (λ (l : List SettleEntry). EndsSettled l ⊎ EndsUnsettled l) (sym of.told_is)
      (told_unsettled of.real
      (settle_either (lanes_in of.at) of.real (lanes_in of.next) (reached_events before of.at of.run) of.settle))

  pub settled_where : (lines : List (Event × List Entry)) (v : DomainState) → Run EventStep Start lines v
      → (before : List (Event × List Entry)) (part : List Entry) (behind : List (Event × List Entry))
      → lines ≡ before ++ (Settle, part) ∷ behind → NobodyForgesAll (told before) → EndsSettled (told_by (Settle, part))
  settled_where lines v run before part behind is none =
      let of : SettleAt before part = settle_in lines v run before part behind is in
      let real : AsLines Start before of.at = as_lines Start before of.at of.run in
      subst EndsSettled (sym of.told_is)
      (told_ends of.real
      (settle_ends (lanes_in of.at) of.real (lanes_in of.next) (reached_events before of.at of.run)
      (unforged_lines real.real of.at real.run
      (told_forged_all (world.entries_of_lines real.real) (subst NobodyForgesAll real.told_is none))) of.settle))

  -- A LINE among them, with what stands in its part
  record LineAt (lines : List (world.Line × List SettleEntry)) (before : List SettleEntry) (entry : SettleEntry)
      (behind : List SettleEntry) : Type 0 where
    place : InLine lines before entry behind
    at : DomainState
    run : Run world.LineStep Start place.front at
    next : DomainState
    moves : world.LineMoves at place.line.0 place.line.1 next
    last : DomainState
    on : Run world.LineStep next place.later last

  line_at : (lines : List (world.Line × List SettleEntry)) (v : DomainState)
      → Run world.LineStep Start lines v → (before : List SettleEntry) (entry : SettleEntry)
      (behind : List SettleEntry) → world.entries_of_lines lines ≡ before ++ entry ∷ behind
      → LineAt lines before entry behind
  line_at lines v run before entry behind is =
      let place : InLine lines before entry behind = line_with lines before entry behind is in
      let whole : Run world.LineStep Start (place.front ++ place.line ∷ place.later) v =
      subst (λ (l : List (world.Line × List SettleEntry)). Run world.LineStep Start l v)
      place.lines_are run in
      let split = run_split world.LineStep Start v place.front (place.line ∷ place.later) whole in
      record { place = place; at = split.0; run = split.1; next = split.2.0; moves = split.2.1; last = v; on = split.2.2 }

  -- NO LANE IS LEFT OVER where nobody forged one before
  pub none_over : (lines : List (world.Line × List SettleEntry)) (v : DomainState)
      → Run world.LineStep Start lines v → (before : List SettleEntry) (entry : SettleEntry)
      (behind : List SettleEntry) → world.entries_of_lines lines ≡ before ++ entry ∷ behind → IsName entry
      → NobodyForgesAll before → ⊥
  none_over lines v run before entry behind is name none =
      let of : LineAt lines before entry behind = line_at lines v run before entry behind is in
      let line = of.place.line in
      let place = of.place.place in
      let clean : NobodyForgesAll (world.entries_of_lines of.place.front) =
      any_front (world.entries_of_lines of.place.front) of.place.so_far
      (subst NobodyForgesAll of.place.before_is none) in
      grind (arith, no_name, each_in, part_leaves, reached_lines, unforged_lines)

  -- BEHIND THE ANSWER of a settle nothing more stands in its part, and all disks are finished
  settled_at : (lines : List (world.Line × List SettleEntry)) (before behind : List SettleEntry)
      (of : LineAt lines before Settled behind)
      → Settles lanes (lanes_in of.at) of.place.line.1 (lanes_in of.next)
  settled_at lines before behind of =
      let line = of.place.line in
      settles_where line.0 (lanes_in of.at) line.1 of.place.so_far of.place.place.rest (lanes_in of.next) of.moves.part_of
      of.place.place.is

  lanes_finished : (lines : List (world.Line × List SettleEntry)) (before behind : List SettleEntry)
      (of : LineAt lines before Settled behind) → AllFinished of.next.first.lanes
  lanes_finished lines before behind of =
      let line = of.place.line in
      let ends : LanesEnd 0 line.1 of.next.first.lanes =
      disks_end (lanes_in of.at) line.1 (lanes_in of.next) (reached_lines of.place.front of.at of.run).reached
      (settled_at lines before behind of) in
      λ x s there clean runs. end_at 0 line.1 of.next.first.lanes x s ends there clean runs

  ends_line : (lines : List (world.Line × List SettleEntry)) (before behind : List SettleEntry)
      (of : LineAt lines before Settled behind) → of.place.line.1 ≡ of.place.so_far ++ Settled ∷ []
  ends_line lines before behind of =
      let line = of.place.line in
      let so_far = of.place.so_far in
      let last : SettledLast line.1 =
      settled_last (lanes_in of.at) line.1 (lanes_in of.next) (settled_at lines before behind of) in
      of.place.place.is ∙ ap (λ (l : List SettleEntry). so_far ++ Settled ∷ l)
      (none_behind line.1 so_far of.place.place.rest last of.place.place.is)

  run_to : (lines : List (world.Line × List SettleEntry)) (before behind : List SettleEntry)
      (of : LineAt lines before Settled behind) → Run DomainStep Start before of.next
  run_to lines before behind of =
      let so_far = of.place.so_far in
      let own = run_split DomainStep of.at of.next so_far (Settled ∷ [])
      (subst (λ (l : List SettleEntry). Run DomainStep of.at l of.next) (ends_line lines before behind of)
      of.moves.run) in
      let last : of.next ≡ own.0 = answer_stays own.0 of.next own.2 in
      let front = lines_run Start of.place.front of.at of.run in
      subst (λ (l : List SettleEntry). Run DomainStep Start l of.next) (sym of.place.before_is)
      (run_append DomainStep Start of.at of.next (world.entries_of_lines of.place.front) so_far front
      (subst (λ (u : DomainState). Run DomainStep of.at so_far u) (sym last) own.1))

  lanes_still : (lines : List (world.Line × List SettleEntry)) (before behind : List SettleEntry)
      (of : LineAt lines before Settled behind) (x : ℕ) (shape : Shape)
      → slice_get (shapes_of 0 disks) x ≡ Some shape → AreStillBy (log_at shape x before)
  lanes_still lines before behind of x shape of_shape =
      let shapes : List Shape = shapes_of 0 disks in
      let past : List SettleEntry = world.entries_of_lines of.place.front in
      let front = disks_run Start past of.at (lines_run Start of.place.front of.at of.run) in
      let lane = lane_at shapes image past of.at.first x shape front of_shape in
      let run : Run LaneStep (fresh shape) (happened x past) lane.0 =
      (lanes_run shapes image past of.at.first front).each x shape lane.0 of_shape lane.1 in
      let still = settled_still (lanes_in of.at) of.place.line.1 (lanes_in of.next) (settled_at lines before behind of)
      of.place.so_far (ends_line lines before behind of) x lane.0 lane.1 shape (happened x past)
      (shape_at 0 shapes x shape (are_shapes 0 disks are.disks_are) of_shape) run in
      subst (λ (l : List DiskEvent). AreStillBy (log_of after (nothing_yet shape) l))
      (sym (happened_both x past of.place.so_far) ∙ ap (happened x) (sym of.place.before_is)) still

  pub finished_at : (lines : List (world.Line × List SettleEntry)) (v : DomainState)
      → Run world.LineStep Start lines v → (before behind : List SettleEntry)
      → world.entries_of_lines lines ≡ before ++ Settled ∷ behind → FinishedAt disks image before
  finished_at lines v run before behind is =
      let of : LineAt lines before Settled behind = line_at lines v run before Settled behind is in
      record {
        at = of.next.first;
        run = disks_run Start before of.next (run_to lines before behind of);
        finished = lanes_finished lines before behind of;
        still = lanes_still lines before behind of;
      }

  -- and the lines after it led to the end
  last_is : (lines : List (world.Line × List SettleEntry)) (v : DomainState) (run : Run world.LineStep Start lines v)
      (before : List SettleEntry) (entry : SettleEntry) (behind : List SettleEntry)
      (is : world.entries_of_lines lines ≡ before ++ entry ∷ behind) → (line_at lines v run before entry behind is).last ≡ v
  unfolding line_at
  last_is lines v run before entry behind is = refl

  pub ports_rest_at : (lines : List (world.Line × List SettleEntry)) (v : DomainState)
      → Run world.LineStep Start lines v → (before behind : List SettleEntry)
      → world.entries_of_lines lines ≡ before ++ Settled ∷ behind → PortsRestAt disks nets image before behind v
  ports_rest_at lines v run before behind is =
      let of : LineAt lines before Settled behind = line_at lines v run before Settled behind is in
      let line = of.place.line in
      let place = of.place.place in
      let later : List SettleEntry = world.entries_of_lines of.place.later in
      let ends : PortsEnd line.1 of.next.second =
      ports_end (lanes_in of.at) line.1 (lanes_in of.next) (reached_lines of.place.front of.at of.run).reached
      (settled_at lines before behind of) in
      let none : place.rest ≡ [] =
      none_behind line.1 of.place.so_far place.rest
      (settled_last (lanes_in of.at) line.1 (lanes_in of.next) (settled_at lines before behind of)) place.is in
      let behind_is : later ≡ behind = sym (ap (λ (l : List SettleEntry). l ++ later) none) ∙ place.others in
      record {
        at = of.next;
        run = run_to lines before behind of;
        on = subst (λ (l : List SettleEntry). Run DomainStep of.next l v) behind_is
            (subst (λ (x : DomainState). Run DomainStep of.next later x) (last_is lines v run before Settled behind is)
            (lines_run of.next of.place.later of.last of.on));
        rests = λ k s there clean. (at_there (PortEndsIn line.1) 0 k of.next.second s ends there).rests clean;
      }
