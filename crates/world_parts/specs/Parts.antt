-- Which entries a line of a script gives, and what they do: the part of the journal that it adds.
use Rattle.std.specs.Prelude.{◌≡◌, List, ◌++◌, map, Some}
use Rattle.world_parts.specs.WorldEvents.{told_of, world_event}
use Rattle.ldom_entries.specs.declared.entry.Entry.{Entry}
use Rattle.domain_laws.specs.world_laws.Settle.{SettleEntry}
use Rattle.domain_laws.specs.Domain.{DomainState}
use Rattle.domain_laws.specs.Lines.{Line, LineBegins, LineMoves}

-- these entries of a journal, in the part of this line, are these of the lanes
abbrev pub PartSays : Line → List Entry → List SettleEntry → Type 0
PartSays line part entries = map (world_event line) part ≡ map (λ x. Some (told_of x)) entries

-- A JOURNAL GREW by entries that say this
pub record Adds (line : Line) (old new : List Entry) (entries : List SettleEntry) : Type 0 where
  pub part : List Entry
  pub grew : new ≡ old ++ part
  pub says : PartSays line part entries

-- by exactly the part of this line, which led the world from one state to another,
pub record Fits (w : DomainState) (line : Line) (old new : List Entry) (v : DomainState) : Type 0 where
  pub entries : List SettleEntry
  pub adds : Adds line old new entries
  pub moves : LineMoves w line entries v

-- or by the steps of this line that were made
pub record FitsSoFar (w : DomainState) (line : Line) (old new : List Entry) (v : DomainState) : Type 0 where
  pub entries : List SettleEntry
  pub adds : Adds line old new entries
  pub begins : LineBegins w line entries v
