-- Runs that came to the end of their script, and whose report was written.
use Rattle.std.specs.Prelude.{◌≡◌, ℕ, List, length, Option, Some, None, IsSomeAnd}
use Rattle.std.specs.Io.KnownBytes.{Appends}
use Rattle.disk_law.specs.ListState.{ImageState}
use Rattle.domain_script.specs.declared.event.DiskDecl.{DiskDecl}
use Rattle.domain_script.specs.declared.event.Event.{Event}
use Rattle.domain_script.specs.NamesState.{NamesState, declared_by}
use Rattle.domain_script.specs.ScriptEvents.{AllSpell, no_names}
use Rattle.domain_script.specs.ScriptLines.{script_lines}
use Rattle.ldom_report.specs.Report.{report}
use Rattle.ldom_entries.specs.declared.entry.Entry.{Entry}
use Rattle.ldom_report.specs.declared.status.Mode.{Mode}
use Rattle.ldom_report.specs.declared.status.Status.TheVariants.{Done}
use Rattle.script_laws.specs.Behind.{StandsBehind}
use Rattle.script_laws.specs.Completed.{completed_ids}
use Rattle.script_laws.specs.PlainRun.{plain_text, plain_content, plain_ids}
use Rattle.world_parts.specs.Script.{ScriptParts, events_of}
use Rattle.world_parts.specs.domain_laws.Domain.{DomainState}

-- the events and the names that all lines of a script spell, where its bytes are told, are these
abbrev pub SpellsAll : Option (List ℕ) → List Event → NamesState → Type 0
SpellsAll script read known =
    (bytes : List ℕ) (events : List Event) (names : NamesState) → script ≡ Some bytes
    → AllSpell (script_lines bytes) no_names events names → (events ≡ read) × (names ≡ known)

-- all lines gave whole parts, no call of the image failed, and the whole report was written
pub record RunsWhole {D : Type 0} (mode : Mode) (seen : D → ImageState) (script : Option (List ℕ)) (names : NamesState) (parts : ScriptParts)
    (final : DomainState) (journal : List Entry) (image : Option D) (old new : Option (List ℕ)) : Type 0 where
  pub all : SpellsAll script (events_of parts) names
  pub none_cut : parts.cut ≡ None
  pub faultless : final.first.image.faults ≡ 0
  pub image_is : IsSomeAnd image (λ disk. StandsBehind (seen disk) final.first.image)
  pub written : Appends old new (report mode (declared_by names) (length (events_of parts)) journal Done)

-- the written text is that of the plain run over these bytes, and so are what the image is left with and the ids of the
-- completions
pub record RunsPlainly {D : Type 0} (content : D → Option (List ℕ)) (disk : DiskDecl) (bytes : List ℕ) (events : List Event) (journal : List Entry) (image : Option D) (old new : Option (List ℕ)) : Type 0 where
  pub written : Appends old new (plain_text disk bytes events)
  pub left : IsSomeAnd image (λ attached. content attached ≡ Some (plain_content disk bytes events))
  pub ids : completed_ids journal ≡ plain_ids disk bytes events
