-- Scripts without disturbance: one disk is declared, and then it is asked and settled.
use Rattle.std.specs.Prelude.{◌≡◌, ℕ, List, [], ◌∷◌, ⊤}
use Rattle.domain_script.specs.declared.event.DiskDecl.{DiskDecl}
use Rattle.domain_script.specs.declared.event.Event.{Event}
use Rattle.domain_script.specs.declared.event.Event.TheVariants.{Blank, Disk, Issue, Settle}
use Rattle.domain_script.specs.NamesState.{NamesState}
use Rattle.domain_script.specs.ScriptLines.{script_lines}
use Rattle.domain_script.specs.ScriptEvents.{AllSpell, no_names}

-- a line that is blank, asks the one disk or settles
abbrev pub IsQuietLine : Event → Type 0
IsQuietLine Blank = ⊤
IsQuietLine (Issue disk request) = disk ≡ 0
IsQuietLine Settle = ⊤
IsQuietLine other = ⊥

abbrev pub AreQuiet : List Event → Type 0
AreQuiet [] = ⊤
AreQuiet (event ∷ events) = IsQuietLine event × AreQuiet events

-- the first line that isn't blank declares this disk
abbrev pub IsQuiet : DiskDecl → List Event → Type 0
IsQuiet disk [] = ⊥
IsQuiet disk (Blank ∷ events) = IsQuiet disk events
IsQuiet disk (Disk declared ∷ events) = (declared ≡ disk) × AreQuiet events
IsQuiet disk (other ∷ events) = ⊥

-- each line of these bytes spells its event, and together they are quiet
pub record IsQuietScript (bytes : List ℕ) (disk : DiskDecl) (events : List Event) : Type 0 where
  pub names : NamesState
  pub spelled : AllSpell (script_lines bytes) no_names events names
  pub quiet : IsQuiet disk events
