-- Each whole settle of a script's lines that leaves lanes over names exactly those that moved in its last round, or aren't
-- finished.
use Rattle.std.proofs.Common.{◌≡◌, ◌⊎◌, ◌↔◌, inl, inr, ℕ, Bool, true, false, List, [], ◌∷◌, ◌++◌, length, slice_get, Some, sym, ap, ◌∙◌, subst, arith}
use Rattle.std.specs.Prelude.{if◌then◌else◌}
use Rattle.runs.specs.Run.{Run}
use Rattle.disk_law.specs.ListState.{ImageState}
use Rattle.domain_script.specs.declared.event.DiskDecl.{DiskDecl}
use Rattle.domain_script.specs.declared.event.Event.{Event}
use Rattle.domain_script.specs.declared.event.Event.TheVariants.{Settle}
use Rattle.lane_kinds.proofs.EntryRuns.{names_each}
use Rattle.lane_kinds.proofs.LaneFronts.{of_both}
use Rattle.lane_kinds.proofs.Places.{map_both}
use Rattle.lane_kinds.specs.Settles.{RunsOut, SettlePart, entries_of_rounds}
use Rattle.world_parts.proofs.lane_laws.AgreementRuns.{run_agrees}
use Rattle.world_parts.specs.lane_models.ClientState.{is_finished}
use Rattle.world_parts.specs.lane_models.DiskEvent.{DiskEvent}
use Rattle.world_parts.specs.lane_models.LaneState.{IsShape, LaneState, Shape, fresh}
use Rattle.world_parts.specs.lane_models.LaneStep.{LaneStep}
use Rattle.world_parts.specs.lane_models.NetLaneState.{NetShape}
use Rattle.world_parts.specs.switch_laws.Ports.{ports}
use Rattle.world_parts.proofs.world_laws.Along.{lane_at, lanes_run, shape_at}
use Rattle.world_parts.specs.world_laws.Along.{happened}
use Rattle.world_parts.specs.world_laws.DiskKind.{disk_kind, waits_on}
use Rattle.world_parts.specs.world_laws.Moves.{MovedIn}
use Rattle.world_parts.specs.world_laws.Settle.{OfPort, SettleEntry, Unsettled, disk_entries, disks as disk_lanes}
use Rattle.world_parts.proofs.domain_laws.DiskParts.{part_moves_disks}
use Rattle.world_parts.proofs.domain_laws.LineEntries.{EachEntry}
use Rattle.world_parts.proofs.domain_laws.Running.{fresh_many, ports_run}
use Rattle.world_parts.specs.domain_laws.Domain.{Lanes, lanes, lanes_in, port_entries, switch}
use Rattle.world_parts.specs.domain_laws.Lines.{entries_of_lines}
use Rattle.ldom_entries.specs.declared.entry.Entry.{Entry}
use Rattle.script_laws.proofs.DeclaredWorlds.{as_lines}
use Rattle.script_laws.proofs.DiskShapes.{are_shapes, many_shapes}
use Rattle.script_laws.proofs.ExactNames.{RoundMade, after_round, disk_named, disk_why, part_is, round_made}
use Rattle.script_laws.proofs.FinishedBy.{finished_by}
use Rattle.script_laws.proofs.LedLanes.{led_run, real_run, told_run}
use Rattle.script_laws.proofs.LeftNames.{MovedBy}
use Rattle.script_laws.proofs.NamesAt.{ran_out}
use Rattle.script_laws.proofs.PortsSettle.{FirstName, first_name, port_exact}
use Rattle.script_laws.proofs.ReachedLanes.{AreLanes}
use Rattle.script_laws.proofs.RoundSteps.{is_round, told_round}
use Rattle.script_laws.proofs.SettleLines.{EachWhole, SettlesBehind, WholeSettle, settles_whole}
use Rattle.script_laws.proofs.TicksNeeded.{waits_by}
use Rattle.script_laws.proofs.TicksStand.{MovedTo, moved_to}
use Rattle.script_laws.proofs.Untold.{Untold, all_told, real_unsettled, told_happened, untold}
use Rattle.script_laws.specs.LastRounds.{EachNamesExactly, IsTick, NamesDisk, NamesExactly, NamesLane, RanOut}
use Rattle.script_laws.specs.Settled.{EndsUnsettled, WaitsBy}
use Rattle.script_laws.specs.Told.{log_at, told, told_by}
use Rattle.world_parts.specs.Declared.{shapes_of, world_of}
use Rattle.world_parts.specs.WorldEvents.{told_of}

-- TICKS AND NAMES as they are told
tick_told : (entry : SettleEntry) → IsTick entry → IsTick (told_of entry)
tick_told entry is = grind arith

ticks_told : (part : List SettleEntry) → EachEntry IsTick part → EachEntry IsTick (all_told part)
ticks_told [] are = tt
ticks_told (entry ∷ part) are = (tick_told entry are.0, ticks_told part are.1)

name_told : (entry : SettleEntry) → NamesLane entry → NamesLane (told_of entry)
name_told (OfPort k event) is = absurd is
name_told entry is = is

names_told : (part : List SettleEntry) → EachEntry NamesLane part → EachEntry NamesLane (all_told part)
names_told [] are = tt
names_told (entry ∷ part) are = (name_told entry are.0, names_told part are.1)

disk_told : (x : ℕ) (part : List SettleEntry) → NamesDisk x part → NamesDisk x (all_told part)
disk_told x part given = grind (arith, map_both)

moved_in : (x : ℕ) (part : List SettleEntry) → MovedBy disk_kind disk_entries x part → MovedIn x part
moved_in x part at = record { before = at.before; event = at.event; later = at.later; is = at.is; loud = at.loud }

moved_by : (x : ℕ) (part : List SettleEntry) → MovedIn x part → MovedBy disk_kind disk_entries x part
moved_by x part at = record { before = at.before; event = at.event; later = at.later; is = at.is; loud = at.loud }

both_wait : (finished stopped : Bool) → (finished ≡ true → ⊥) → stopped ≡ false → (if finished then false else if stopped then false else true) ≡ true
both_wait finished stopped waits runs = grind arith

-- IT RAN OUT OF ROUNDS where it ends with names
has_run_out : (disks : List DiskDecl) (nets : List NetShape) (image : ImageState) (before : List (Event × List Entry))
    (part : List Entry) → WholeSettle disks nets image before part → EndsUnsettled (told_by (Settle, part))
    → RanOut disks nets image before part
has_run_out disks nets image before part whole ends =
    let of : SettlesBehind disks nets image before (told_by (Settle, part)) =
    settles_whole disks nets image before part whole in
    let first : FirstName (told_by (Settle, part)) = first_name (told_by (Settle, part)) ends in
    let at : Untold of.real first.so_far first.entry first.rest =
    untold of.real first.so_far first.entry first.rest (sym of.told_is ∙ first.is) in
    record {
      at = whole.at;
      run = whole.run;
      next = whole.next;
      step = whole.step;
      out = ran_out (lanes_in whole.at) whole.step.entries (lanes_in whole.next) whole.step.moves.part_of first.entry
          first.name at.past at.rest (at.is ∙ ap (λ (e : SettleEntry). at.past ++ e ∷ at.rest) (first.real at.real at.real_is));
    }

module _ (disks : List DiskDecl) (nets : List NetShape) (image : ImageState) (are : AreLanes disks nets)
    (before : List (Event × List Entry)) (line : List Entry) (ran : RanOut disks nets image before line) where
  abbrev part : List SettleEntry
  part = told_by (Settle, line)

  abbrev of : SettlesBehind disks nets image before part
  of =
      settles_whole disks nets image before line
      (record { at = ran.at; run = ran.run; next = ran.next; step = ran.step })

  abbrev start : Lanes
  start = lanes_in of.at

  abbrev out : RunsOut lanes start of.real of.behind
  out = ran.out

  abbrev settle : SettlePart lanes start of.real of.behind
  settle = inr ran.out

  abbrev round : List SettleEntry
  round = lanes.leaves out.last.steps

  made : RoundMade start of.real of.behind out
  made = round_made start of.real of.behind out

  -- how many lanes there are
  many_disks : length of.at.first.lanes ≡ length disks
  many_disks = grind (arith, lanes_run, told_run, many_shapes)

  many_ports : length of.at.second ≡ length nets
  many_ports =
      let front : List SettleEntry = entries_of_lines (as_lines (world_of disks nets image) before of.at of.run).real in
      fresh_many nets front of.at.second (ports_run (world_of disks nets image) front of.at (real_run disks nets image before of.at of.run))

  -- OF A DISK
  module _ (x : ℕ) (shape : Shape) (of_shape : slice_get (shapes_of 0 disks) x ≡ Some shape) where
    sound : IsShape shape
    sound = shape_at 0 (shapes_of 0 disks) x shape (are_shapes 0 disks are.disks_are) of_shape

    record Ended : Type 0 where
      state : LaneState
      there : slice_get of.behind.first x ≡ Some state
      run : Run LaneStep (fresh shape) (happened x (told before ++ part)) state

    ended : Ended
    ended =
        let lane = lane_at (shapes_of 0 disks) image (told before) of.at.first x shape (told_run disks nets image before of.at of.run) of_shape in
        let m : MovedTo x of.real lane.0 of.behind.first =
        moved_to of.at.first.lanes of.real of.behind.first x lane.0 (part_moves_disks start of.real of.behind settle) lane.1 in
        let same : happened x of.real ≡ happened x part = sym (ap (happened x) of.told_is ∙ told_happened x of.real) in
        record {
          state = m.lane;
          there = m.there;
          run = led_run disks nets image x shape of_shape before of.at of.run lane.0 lane.1 part m.lane
              (subst (λ (l : List DiskEvent). Run LaneStep lane.0 l m.lane) same m.run);
        }

    abbrev Waits : Type 0
    Waits = WaitsBy (log_at shape x (told before ++ part))

    why : MovedBy disk_kind disk_entries x round ⊎ (waits_on ended.state ≡ true) → MovedIn x round ⊎ Waits
    why (inl moved) = inl (moved_in x round moved)
    why (inr waits) = inr (waits_by shape (happened x (told before ++ part)) ended.state sound ended.run waits)

    back : MovedIn x round ⊎ Waits → MovedBy disk_kind disk_entries x round ⊎ (waits_on ended.state ≡ true)
    back (inl moved) = inl (moved_by x round moved)
    back (inr by) =
        let agrees = run_agrees shape (happened x (told before ++ part)) ended.state sound ended.run in
        inr
        (both_wait (is_finished ended.state.client) ended.state.stopped
        (λ is. by.waits (finished_by shape (happened x (told before ++ part)) ended.state sound ended.run is))
        (agrees.stopped ∙ by.runs))

    real_name : NamesDisk x part → NamesDisk x of.real
    real_name at =
        let place : Untold of.real at.front (Unsettled x) at.later =
        untold of.real at.front (Unsettled x) at.later (sym of.told_is ∙ at.is) in
        grind (arith, real_unsettled)

    disk_exact : (NamesDisk x part) ↔ (MovedIn x round ⊎ Waits)
    disk_exact = (
      λ at. why (disk_why start of.real of.behind out x ended.state ended.there (real_name at)),
      λ moved. subst (NamesDisk x) (sym of.told_is)
          (disk_told x of.real (disk_named start of.real of.behind out x ended.state ended.there (back moved))),
    )

  pub exactly : NamesExactly disks nets (told before) part (all_told (entries_of_rounds out.rounds)) round
  exactly =
      let steps = out.last.steps in
      let earlier : List SettleEntry = entries_of_rounds out.rounds in
      let ticks : List SettleEntry = (after_round start of.real of.behind out).ticks in
      let names : List SettleEntry = lanes.names steps of.behind in
      record {
        ticks = all_told ticks;
        names = all_told names;
        is = of.told_is ∙ ap all_told (part_is start of.real of.behind out)
            ∙ map_both told_of earlier (round ++ (ticks ++ names))
            ∙ ap (λ (l : List SettleEntry). all_told earlier ++ l)
            (map_both told_of round (ticks ++ names)
            ∙ ap (λ (l : List SettleEntry). l ++ all_told (ticks ++ names)) (told_round made.before steps made.between made.made)
            ∙ ap (λ (l : List SettleEntry). round ++ l) (map_both told_of ticks names));
        is_round = is_round made.before steps made.between (length disks) (length nets) made.made (made.as_many_disks ∙ many_disks)
            (made.as_many_ports ∙ many_ports);
        are_ticks = ticks_told ticks (after_round start of.real of.behind out).are;
        are_names = names_told names
            (of_both NamesLane (disk_lanes.names steps.first of.behind.first) (switch.names steps.second of.behind.second)
            (names_each disk_kind disk_entries NamesLane (λ k. tt) 0 steps.first of.behind.first)
            (names_each ports port_entries NamesLane (λ k. tt) 0 steps.second of.behind.second));
        of_disks = disk_exact;
        of_ports = λ k shape of_shape. port_exact disks nets image are k shape of_shape before part of settle out;
      }

pub names_exactly : (disks : List DiskDecl) (nets : List NetShape) (image : ImageState) (are : AreLanes disks nets)
    (lines : List (Event × List Entry)) → EachWhole disks nets image lines → EachNamesExactly disks nets image lines
names_exactly disks nets image are lines each before part behind is ends = (
  has_run_out disks nets image before part (each before part behind is) ends,
  exactly disks nets image are before part,
)
