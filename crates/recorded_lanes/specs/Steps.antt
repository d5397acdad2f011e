-- What one event of a lane came to in a world: what it did, and what it left in the journal. The world is that of the disks, of the ports,
-- or of both.
use Rattle.std.specs.Prelude.{◌≡◌, ◌+◌, Bool, List, [], ◌∷◌, length}
use Rattle.domain_script.specs.declared.event.Lane.{Lane}
use Rattle.ldc_queue.specs.declared.end.End.{End}
use Rattle.switched_ports.specs.Given.{GivenBelow}
use Rattle.world_parts.specs.world_laws.Issued.{issued_on}
use Rattle.world_parts.specs.world_laws.Settle.{SettleEntry}
use Rattle.world_parts.specs.domain_laws.Domain.{DomainState}
use Rattle.world_parts.specs.domain_laws.Lines.{Line}
use Rattle.ldom_entries.specs.declared.entry.Entry.{Entry}
use Rattle.ldom_report.specs.Report.{accepted_count}
use Rattle.world_parts.specs.Parts.{Adds}
use Rattle.world_parts.specs.WorldKinds.{entry_at, in_world, left_by}

-- A MOMENT of a run: the world, and the journal as far as it has come
pub record Moment (W : Type 0) : Type 0 where
  pub world : W
  pub journal : List Entry

abbrev pub moment : {W : Type 0} → W → List Entry → Moment W
moment world journal = record { world = world; journal = journal }

-- AN END OF THIS LANE made one step, and the journal has its entry, whatever line it is in
pub record MakesStep {W : Type 0} (Step : W → SettleEntry → W → Type 0) (lane : Lane) (e : End) (before after : Moment W) : Type 0 where
  pub event : (in_world lane.kind).Event
  pub of_end : (in_world lane.kind).IsStep e event
  pub moves : Step before.world (entry_at lane event) after.world
  pub adds : (line : Line) → Adds line before.journal after.journal (entry_at lane event ∷ [])

-- the same in a settle, where a step that idles and one of a stopped server leave none; and whether it was calm
pub record MakesQuietStep {W : Type 0} (Step : W → SettleEntry → W → Type 0) (lane : Lane) (e : End) (before : Moment W) (calm : Bool) (after : Moment W) : Type 0 where
  pub event : (in_world lane.kind).Event
  pub of_end : (in_world lane.kind).IsStep e event
  pub moves : Step before.world (entry_at lane event) after.world
  pub calm_is : calm ≡ (in_world lane.kind).kind.is_calm event
  pub adds : (line : Line) → Adds line before.journal after.journal (left_by lane event)

-- WHAT A LINE ASKED of this lane came to one event that answers it, and the journal has its entry
pub record MakesAnswer {W : Type 0} (Step : W → SettleEntry → W → Type 0) (lane : Lane) (line : Line) (Answers : (in_world lane.kind).Event → Type 0) (before after : Moment W) : Type 0 where
  pub event : (in_world lane.kind).Event
  pub answers : Answers event
  pub moves : Step before.world (entry_at lane event) after.world
  pub adds : Adds line before.journal after.journal (entry_at lane event ∷ [])

-- THE JOURNAL COUNTS what was given to the world: as many requests as it tells were accepted, and of frames no end was given more than it
-- has entries
pub record Counted (journal : List Entry) (w : DomainState) : Type 0 where
  pub accepted : accepted_count journal ≡ issued_on w.first.lanes
  pub given : GivenBelow (length journal + 1) w.second
