-- A quiet script declares its one disk.
use Rattle.std.proofs.Common.{◌≡◌, ℕ, List, ◌∷◌, arith}
use Rattle.domain_script.specs.declared.event.DiskDecl.{DiskDecl}
use Rattle.domain_script.specs.declared.event.Event.{Event}
use Rattle.domain_script.specs.declared.event.Event.TheVariants as line
use Rattle.domain_script.specs.NamesState.{NamesState, declared_by, noted}
use Rattle.script_laws.specs.PlainRun.{one_disk}
use Rattle.script_laws.specs.Quiet.{AreQuiet, IsQuiet, IsQuietLine}
use Rattle.domain_script.specs.ScriptEvents.{AllSpell, no_names}

quiet_keeps : (names : NamesState) (e : Event) → IsQuietLine e → declared_by (noted names e) ≡ declared_by names
quiet_keeps names e quiet = grind arith

same_names : (texts : List (List ℕ)) (events : List Event) (names after : NamesState) → AreQuiet events
    → AllSpell texts names events after
    → declared_by after ≡ declared_by names
same_names (text ∷ texts) (event ∷ events) names after quiet spell = grind (arith, quiet_keeps, same_names texts events (noted names event) after quiet.1 spell.1)
same_names texts events names after quiet spell = grind arith

pub quiet_names : (disk : DiskDecl) (texts : List (List ℕ)) (events : List Event) (after : NamesState)
    → IsQuiet disk events → AllSpell texts no_names events after → declared_by after ≡ one_disk disk
quiet_names disk (text ∷ texts) (line.Blank ∷ events) after quiet spell = grind (arith, quiet_names disk texts events after quiet spell.1)
quiet_names disk texts events after quiet spell = grind (arith, same_names)
