-- A whole settle that leaves lanes over names exactly those that moved in its last round, or wait.
use Rattle.std.proofs.Common.{◌≡◌, ◌⊎◌, inl, inr, ℕ, ◌+◌, ◌<◌, Bool, true, List, [], ◌∷◌, ◌++◌, length, slice_get, Some, refl, sym, ap, ◌∙◌, subst, arith, append_assoc, append-nil}
use Rattle.std.proofs.lemmas.Option.{slice_get_within}
use Rattle.std.specs.Prelude.{⊤}
use Rattle.runs.specs.Run.{Run, run_split}
use Rattle.lane_kinds.proofs.EntryRuns.{names_each, round_each}
use Rattle.lane_kinds.proofs.LaneFronts.{of_both, ticks_each}
use Rattle.lane_kinds.proofs.Moving.{many_moved}
use Rattle.lane_kinds.proofs.Places.{get_within}
use Rattle.lane_kinds.specs.Both.{Two}
use Rattle.lane_kinds.specs.Settles.{GoesOn, RunsOut, TicksBehind, begin, entries_of_rounds}
use Rattle.world_parts.specs.lane_models.DiskEvent.{DiskEvent}
use Rattle.world_parts.specs.lane_models.LaneState.{LaneState}
use Rattle.world_parts.specs.lane_models.PortState.{PortState}
use Rattle.world_parts.proofs.switch_laws.PortTurns.{silent_calm}
use Rattle.world_parts.specs.switch_laws.Events.{SwitchEvent}
use Rattle.world_parts.specs.switch_laws.Ports.{ports, waits_on as port_waits}
use Rattle.world_parts.proofs.world_laws.DiskLaws.{disk_moves}
use Rattle.world_parts.proofs.world_laws.LaneLists.{many_moved as disks_moved}
use Rattle.world_parts.specs.world_laws.DiskKind.{disk_kind, waits_on as disk_waits}
use Rattle.world_parts.specs.world_laws.Rounds.{LaneRound}
use Rattle.world_parts.specs.world_laws.Settle.{OfLane, OfPort, SettleEntry, Unsettled, UnsettledPort, disk_entries, disks}
use Rattle.world_parts.proofs.domain_laws.DiskParts.{rounds_move_disks}
use Rattle.world_parts.proofs.domain_laws.LineEntries.{AllSettling, EachEntry, each_in, rounds_each}
use Rattle.world_parts.specs.domain_laws.Domain.{Lanes, lanes, port_entries, switch}
use Rattle.script_laws.proofs.Entries.{IsName, IsOfLane}
use Rattle.script_laws.proofs.LeftNames.{LoudTurn, MovedBy, NamedIn, WaitsBy, loud_turn, moved_left, moved_right, named, named_where}
use Rattle.script_laws.proofs.NamesAt.{last_entries, no_name}
use Rattle.script_laws.proofs.Places.{InEither, place_in}
use Rattle.script_laws.proofs.PortRounds.{rounds_move_ports}
use Rattle.script_laws.proofs.SettleEntries.{lane_steps, lane_ticks}
use Rattle.script_laws.specs.LastRounds.{IsTick, NamesDisk}
use Rattle.script_laws.specs.PortSettles.{NamesPort}

abbrev AllSteps : Type 0
AllSteps = Two (List LaneRound) (List (List SwitchEvent))

-- THE TICKS behind the last round
pub record TicksAfter (steps : AllSteps) (entries : List SettleEntry) : Type 0 where
  pub ticks : List SettleEntry
  pub is : entries ≡ lanes.leaves steps ++ ticks
  pub are : EachEntry IsTick ticks

all_are_ticks : (w : Lanes) (m : Two (List Bool) (List Bool)) → EachEntry IsTick (lanes.ticks_leave w m)
all_are_ticks w m =
    of_both IsTick (disks.ticks_leave w.first m.first) (switch.ticks_leave w.second m.second)
    (ticks_each IsTick disk_kind disk_entries (λ k s. refl) 0 w.first m.first)
    (ticks_each IsTick ports port_entries (λ k s. refl) 0 w.second m.second)

ticks_after : (quiet : Bool) (w : AllSettling) (steps : AllSteps) (between : Lanes) (entries : List SettleEntry) (v : AllSettling)
    → TicksBehind lanes quiet w steps between entries v → TicksAfter steps entries
ticks_after quiet w steps between entries v behind = grind (arith, append-nil, all_are_ticks)

module _ (start : Lanes) (part : List SettleEntry) (behind : Lanes) (out : RunsOut lanes start part behind) where
  abbrev steps : AllSteps
  steps = out.last.steps

  -- what the last round began with
  record Begun : Type 0 where
    w : AllSettling
    v : AllSettling
    first : Run (GoesOn lanes) (begin lanes start) out.rounds w
    goes : GoesOn lanes w out.last v
    last : Run (GoesOn lanes) w (out.last ∷ []) out.now

  begun : Begun
  begun =
      let split = run_split (GoesOn lanes) (begin lanes start) out.now out.rounds (out.last ∷ []) out.run in
      record { w = split.0; v = split.2.0; first = split.1; goes = split.2.1; last = split.2 }

  pub after_round : TicksAfter steps out.last.entries
  after_round = ticks_after (lanes.quiet steps) begun.w steps begun.goes.between out.last.entries begun.v begun.goes.behind

  pub part_is : part ≡ entries_of_rounds out.rounds ++ (lanes.leaves steps ++ (after_round.ticks ++ lanes.names steps behind))
  part_is = grind (arith, last_entries, append_assoc, after_round)

  -- as many as there were
  many_disks : length start.first ≡ length begun.w.lanes.first
  many_disks = grind (arith, disks_moved, begun, rounds_move_disks)

  many_ports : length start.second ≡ length begun.w.lanes.second
  many_ports = grind (arith, many_moved, begun, rounds_move_ports)

  pub disk_turns : length steps.first ≡ length behind.first
  disk_turns = grind (arith, begun, disks_moved, rounds_move_disks)

  pub port_turns : length steps.second ≡ length behind.second
  port_turns = grind (arith, begun, many_moved, rounds_move_ports)

  pub record RoundMade : Type 0 where
    pub before : Lanes
    pub between : Lanes
    pub made : lanes.Makes before steps between
    pub as_many_disks : length before.first ≡ length start.first
    pub as_many_ports : length before.second ≡ length start.second

  pub round_made : RoundMade
  round_made = grind (arith, begun, many_disks, many_ports)

  -- A NAME of the part is among its names
  names_with : (entry : SettleEntry) → IsName entry → (so_far rest : List SettleEntry) → part ≡ so_far ++ entry ∷ rest
      → (later : List SettleEntry) × (lanes.names steps behind ≡ later ++ entry ∷ rest)
  names_with entry name so_far rest is =
      by_side (place_in (entries_of_rounds (out.rounds ++ out.last ∷ [])) (lanes.names steps behind) so_far entry rest (sym out.is ∙ is))
    where
      by_side : InEither (entries_of_rounds (out.rounds ++ out.last ∷ [])) (lanes.names steps behind) so_far entry rest
          → (later : List SettleEntry) × (lanes.names steps behind ≡ later ++ entry ∷ rest)
      by_side (inl at) =
          absurd
          (no_name entry name
          (each_in IsOfLane (entries_of_rounds (out.rounds ++ out.last ∷ [])) so_far entry at.rest at.is
          (rounds_each IsOfLane lane_steps lane_ticks (begin lanes start) (out.rounds ++ out.last ∷ []) out.now out.run)))
      by_side (inr at) = (at.later, at.is)

  -- OF A PORT
  one_port_name : (k x : ℕ) → UnsettledPort k ≡ UnsettledPort x → k ≡ x
  one_port_name k x is = cc is

  abbrev IsOfDisks : SettleEntry → Type 0
  IsOfDisks (OfLane k event) = ⊤
  IsOfDisks (Unsettled k) = ⊤
  IsOfDisks _ = ⊥

  disk_entries_alone : EachEntry IsOfDisks (disks.leaves steps.first)
  disk_entries_alone = round_each disk_kind disk_entries IsOfDisks (λ k event. tt) 0 steps.first

  disk_names_alone : EachEntry IsOfDisks (disks.names steps.first behind.first)
  disk_names_alone = names_each disk_kind disk_entries IsOfDisks (λ k. tt) 0 steps.first behind.first

  pub port_why : (k : ℕ) (s : PortState) → slice_get behind.second k ≡ Some s → NamesPort k part
      → MovedBy ports port_entries k (lanes.leaves steps) ⊎ (port_waits s ≡ true)
  port_why k s there at =
      let found = names_with (UnsettledPort k) tt at.front at.later at.is in
      by_side (place_in (disks.names steps.first behind.first) (switch.names steps.second behind.second) found.0 (UnsettledPort k) at.later found.1)
    where
      by_why : MovedBy ports port_entries k (switch.leaves steps.second) ⊎ WaitsBy ports 0 k behind.second
          → MovedBy ports port_entries k (lanes.leaves steps) ⊎ (port_waits s ≡ true)
      by_why (inl moved) = inl (moved_right ports port_entries k (disks.leaves steps.first) (switch.leaves steps.second) moved)
      by_why (inr at) =
          let number : at.index ≡ k = omega (arith, at.is) in
          let here : slice_get behind.second k ≡ Some at.lane =
          subst (λ (i : ℕ). slice_get behind.second i ≡ Some at.lane) number at.there in
          let both : Some at.lane ≡ Some s = sym here ∙ there in
          let same : at.lane ≡ s = cc both in
          inr (subst (λ (x : PortState). port_waits x ≡ true) same at.waits)

      by_side : {later rest : List SettleEntry} → InEither (disks.names steps.first behind.first) (switch.names steps.second behind.second) later (UnsettledPort k) rest
          → MovedBy ports port_entries k (lanes.leaves steps) ⊎ (port_waits s ≡ true)
      by_side (inl at) = absurd (each_in IsOfDisks (disks.names steps.first behind.first) _ (UnsettledPort k) at.rest at.is disk_names_alone)
      by_side (inr at) = by_why (named ports port_entries silent_calm one_port_name 0 k steps.second behind.second at.later _ at.is)

  port_of_lane : (j x : ℕ) (e f : SwitchEvent) → OfPort j e ≡ OfPort x f → j ≡ x
  port_of_lane j x e f is = cc is

  port_of_event : (j x : ℕ) (e f : SwitchEvent) → OfPort j e ≡ OfPort x f → e ≡ f
  port_of_event j x e f is = cc is

  port_loud : (k : ℕ) → MovedBy ports port_entries k (lanes.leaves steps) → LoudTurn ports 0 k steps.second
  port_loud k moved = by_side (place_in (disks.leaves steps.first) (switch.leaves steps.second) moved.before (OfPort k moved.event) moved.later moved.is)
    where
      by_side : InEither (disks.leaves steps.first) (switch.leaves steps.second) moved.before (OfPort k moved.event) moved.later → LoudTurn ports 0 k steps.second
      by_side (inl at) = absurd (each_in IsOfDisks (disks.leaves steps.first) moved.before (OfPort k moved.event) at.rest at.is disk_entries_alone)
      by_side (inr at) = loud_turn ports port_entries port_of_lane port_of_event 0 k steps.second at.later moved.event moved.later at.is moved.loud

  place_of : (k : ℕ) → k ≡ 0 + k
  place_of k = omega (arith)

  within : (k n m : ℕ) → k < n → m ≡ n → k < m
  within k n m less is = omega (arith, less, is)

  pub port_named : (k : ℕ) (s : PortState) → slice_get behind.second k ≡ Some s
      → MovedBy ports port_entries k (lanes.leaves steps) ⊎ (port_waits s ≡ true) → NamesPort k part
  port_named k s there why =
      let at : NamedIn ports port_entries k (switch.names steps.second behind.second) = by_why why in
      let first : List SettleEntry = disks.names steps.first behind.first in
      let rounds : List SettleEntry = entries_of_rounds (out.rounds ++ out.last ∷ []) in
      record {
        front = rounds ++ (first ++ at.front);
        later = at.later;
        is = out.is ∙ ap (λ (l : List SettleEntry). rounds ++ (first ++ l)) at.is
            ∙ ap (λ (l : List SettleEntry). rounds ++ l) (sym (append_assoc first at.front (UnsettledPort k ∷ at.later)))
            ∙ sym (append_assoc rounds (first ++ at.front) (UnsettledPort k ∷ at.later));
      }
    where
      by_why : MovedBy ports port_entries k (lanes.leaves steps) ⊎ (port_waits s ≡ true)
          → NamedIn ports port_entries k (switch.names steps.second behind.second)
      by_why (inl moved) =
          let loud : LoudTurn ports 0 k steps.second = port_loud k moved in
          let number : loud.index ≡ k = omega (arith, loud.is) in
          let turn : slice_get steps.second k ≡ Some loud.turn =
          subst (λ (i : ℕ). slice_get steps.second i ≡ Some loud.turn) number loud.there in
          named_where ports port_entries 0 k k steps.second behind.second loud.turn s (place_of k) turn there (inl loud.loud)
      by_why (inr waits) =
          let turn = get_within steps.second k (within k (length behind.second) (length steps.second) (slice_get_within behind.second k s there) port_turns) in
          named_where ports port_entries 0 k k steps.second behind.second turn.0 s (place_of k) turn.1 there (inr waits)

  -- OF A DISK
  one_disk_name : (k x : ℕ) → Unsettled k ≡ Unsettled x → k ≡ x
  one_disk_name k x is = cc is

  abbrev IsOfPorts : SettleEntry → Type 0
  IsOfPorts (OfPort k event) = ⊤
  IsOfPorts (UnsettledPort k) = ⊤
  IsOfPorts _ = ⊥

  port_entries_alone : EachEntry IsOfPorts (switch.leaves steps.second)
  port_entries_alone = round_each ports port_entries IsOfPorts (λ k event. tt) 0 steps.second

  port_names_alone : EachEntry IsOfPorts (switch.names steps.second behind.second)
  port_names_alone = names_each ports port_entries IsOfPorts (λ k. tt) 0 steps.second behind.second

  pub disk_why : (k : ℕ) (s : LaneState) → slice_get behind.first k ≡ Some s → NamesDisk k part
      → MovedBy disk_kind disk_entries k (lanes.leaves steps) ⊎ (disk_waits s ≡ true)
  disk_why k s there at =
      let found = names_with (Unsettled k) tt at.front at.later at.is in
      by_side (place_in (disks.names steps.first behind.first) (switch.names steps.second behind.second) found.0 (Unsettled k) at.later found.1)
    where
      by_why : MovedBy disk_kind disk_entries k (disks.leaves steps.first) ⊎ WaitsBy disk_kind 0 k behind.first
          → MovedBy disk_kind disk_entries k (lanes.leaves steps) ⊎ (disk_waits s ≡ true)
      by_why (inl moved) = inl (moved_left disk_kind disk_entries k (disks.leaves steps.first) (switch.leaves steps.second) moved)
      by_why (inr at) = grind (arith, slice_get)

      by_side : {later rest : List SettleEntry} → InEither (disks.names steps.first behind.first) (switch.names steps.second behind.second) later (Unsettled k) rest
          → MovedBy disk_kind disk_entries k (lanes.leaves steps) ⊎ (disk_waits s ≡ true)
      by_side (inl at) = by_why (named disk_kind disk_entries disk_moves.silent_calm one_disk_name 0 k steps.first behind.first _ at.rest at.is)
      by_side (inr at) = absurd (each_in IsOfPorts (switch.names steps.second behind.second) at.later (Unsettled k) _ at.is port_names_alone)

  disk_of_lane : (j x : ℕ) (e f : DiskEvent) → OfLane j e ≡ OfLane x f → j ≡ x
  disk_of_lane j x e f is = cc is

  disk_of_event : (j x : ℕ) (e f : DiskEvent) → OfLane j e ≡ OfLane x f → e ≡ f
  disk_of_event j x e f is = cc is

  disk_loud : (k : ℕ) → MovedBy disk_kind disk_entries k (lanes.leaves steps) → LoudTurn disk_kind 0 k steps.first
  disk_loud k moved = by_side (place_in (disks.leaves steps.first) (switch.leaves steps.second) moved.before (OfLane k moved.event) moved.later moved.is)
    where
      by_side : InEither (disks.leaves steps.first) (switch.leaves steps.second) moved.before (OfLane k moved.event) moved.later → LoudTurn disk_kind 0 k steps.first
      by_side (inl at) = loud_turn disk_kind disk_entries disk_of_lane disk_of_event 0 k steps.first moved.before moved.event at.rest at.is moved.loud
      by_side (inr at) = absurd (each_in IsOfPorts (switch.leaves steps.second) at.later (OfLane k moved.event) moved.later at.is port_entries_alone)

  pub disk_named : (k : ℕ) (s : LaneState) → slice_get behind.first k ≡ Some s
      → MovedBy disk_kind disk_entries k (lanes.leaves steps) ⊎ (disk_waits s ≡ true) → NamesDisk k part
  disk_named k s there why =
      let at : NamedIn disk_kind disk_entries k (disks.names steps.first behind.first) = by_why why in
      let second : List SettleEntry = switch.names steps.second behind.second in
      let rounds : List SettleEntry = entries_of_rounds (out.rounds ++ out.last ∷ []) in
      record {
        front = rounds ++ at.front;
        later = at.later ++ second;
        is = out.is ∙ ap (λ (l : List SettleEntry). rounds ++ (l ++ second)) at.is
            ∙ ap (λ (l : List SettleEntry). rounds ++ l) (append_assoc at.front (Unsettled k ∷ at.later) second)
            ∙ sym (append_assoc rounds at.front (Unsettled k ∷ (at.later ++ second)));
      }
    where
      by_why : MovedBy disk_kind disk_entries k (lanes.leaves steps) ⊎ (disk_waits s ≡ true)
          → NamedIn disk_kind disk_entries k (disks.names steps.first behind.first)
      by_why (inl moved) =
          let loud : LoudTurn disk_kind 0 k steps.first = disk_loud k moved in
          let number : loud.index ≡ k = omega (arith, loud.is) in
          let turn : slice_get steps.first k ≡ Some loud.turn =
          subst (λ (i : ℕ). slice_get steps.first i ≡ Some loud.turn) number loud.there in
          named_where disk_kind disk_entries 0 k k steps.first behind.first loud.turn s (place_of k) turn there (inl loud.loud)
      by_why (inr waits) =
          let turn = get_within steps.first k (within k (length behind.first) (length steps.first) (slice_get_within behind.first k s there) disk_turns) in
          named_where disk_kind disk_entries 0 k k steps.first behind.first turn.0 s (place_of k) turn.1 there (inr waits)
