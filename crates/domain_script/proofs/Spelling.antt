-- From the words of a line to the line, and what a line that spells an event says of the names.
use Rattle.std.proofs.Common.{◌≡◌, ◌<◌, inl, inr, ℕ, false, List, [], ◌∷◌, length, Option, Some, None, IfNone, sym, subst, arith}
use Rattle.domain_script.specs.declared.event.DiskDecl.{DiskDecl}
use Rattle.domain_script.specs.declared.event.PortDecl.{PortDecl}
use Rattle.domain_script.specs.declared.event.Event.{Event}
use Rattle.domain_script.specs.declared.event.Event.TheVariants.{Blank, Disk, Net}
use Rattle.domain_script.specs.declared.fields.LaneKind.TheVariants as lanes
use Rattle.domain_script.specs.declared.rows.RowKind.{RowKind}
use Rattle.domain_script.specs.Declarations.{IsDisk, IsPort}
use Rattle.domain_script.specs.NamesState.{CanDeclare, IsNameFree, IsFreeAddress, NamesState}
use Rattle.domain_script.specs.Printed.{CanPrint}
use Rattle.domain_script.specs.Rows.{row_named}
use Rattle.script_words.specs.Words.{words}
use Rattle.domain_script.specs.Spells.{IsBlank, IsDeclared, Spells, SpellsFound, SpellsWords}
use Rattle.domain_script.proofs.PowersOfTwo.{power_from_bit}
use Rattle.domain_script.proofs.RowLemmas.{row_printable}

-- a line that isn't blank and whose words spell nothing
no_event : (line : List ℕ) (ws : List (List ℕ)) (names : NamesState) → words line ≡ ws → (IsBlank line → ⊥)
    → ((event : Event) → SpellsWords ws names event → ⊥) → (event : Event) → Spells line names event → ⊥
no_event line ws names is not_blank none event (inl blank) = not_blank blank.0
no_event line ws names is not_blank none event (inr spells) = none event (subst (λ (l : List (List ℕ)). SpellsWords l names event) is spells)

pub none_spelled : (line : List ℕ) (ws : List (List ℕ)) (names : NamesState) (found : Option Unit) → words line ≡ ws → (IsBlank line → ⊥)
    → IfNone found ((event : Event) → SpellsWords ws names event → ⊥) → IfNone found ((event : Event) → Spells line names event → ⊥)
none_spelled line ws names None is not_blank none = no_event line ws names is not_blank none
none_spelled line ws names (Some done) is not_blank none = tt

-- A LINE THAT SPELLS AN EVENT says of it what printing it asks for
blank_printable : (names : NamesState) → CanPrint names Blank
blank_printable names = record { fits = tt; stands = tt }

printable_found : (found : Option RowKind) (line : List (List ℕ)) (names : NamesState) (event : Event) → SpellsFound found line names event → CanPrint names event
printable_found None line names event spells = absurd spells
printable_found (Some kind) line names event spells = row_printable kind line names event spells

printable_words : (line : List (List ℕ)) (names : NamesState) (event : Event) → SpellsWords line names event → CanPrint names event
printable_words [] names event spells = absurd spells
printable_words (word ∷ line) names event spells = printable_found (row_named word) line names event spells

pub can_print : (line : List ℕ) (names : NamesState) (event : Event) → Spells line names event → CanPrint names event
can_print line names event (inl blank) = subst (λ (e : Event). CanPrint names e) (sym blank.1) (blank_printable names)
can_print line names event (inr spells) = printable_words (words line) names event spells

pub is_declared : (line : List ℕ) (names : NamesState) (event : Event) → Spells line names event → IsDeclared names event
is_declared line names event spells = (can_print line names event spells).fits

-- a declaration is within the limits, and comes before any other line that isn't blank
pub record Declares (names : NamesState) (disk : DiskDecl) : Type 0 where
  pub open_still : names.ended ≡ false
  pub few : length names.disks < 8
  pub free : IsNameFree names disk.name
  pub limits : IsDisk disk

pub declared_first : (line : List ℕ) (names : NamesState) (disk : DiskDecl) → Spells line names (Disk disk) → Declares names disk
declared_first line names disk spells =
    let can : CanPrint names (Disk disk) = can_print line names (Disk disk) spells in
    let may : CanDeclare names lanes.Disk disk.name = can.stands.0 in
    let blocks = can.fits.1.0.1 in
    let ring = can.fits.1.1.0.1 in
    let queue = can.fits.1.1.1.0.1 in
    record {
      open_still = may.open_still;
      few = may.few;
      free = may.free;
      limits = record {
        some_blocks = blocks.0;
        most_blocks = blocks.1;
        least_ring = ring.0;
        most_ring = ring.1;
        ring_power = power_from_bit disk.ring ring.1 ring.2;
        least_queue = queue.0;
        most_queue = queue.1;
        queue_power = power_from_bit disk.queue queue.1 queue.2;
      };
    }

-- and so is that of a port
pub record DeclaresPort (names : NamesState) (port : PortDecl) : Type 0 where
  pub open_still : names.ended ≡ false
  pub few : length names.ports < 8
  pub free : IsNameFree names port.name
  pub free_address : IsFreeAddress names port.address
  pub limits : IsPort port

pub port_declared_first : (line : List ℕ) (names : NamesState) (port : PortDecl) → Spells line names (Net port) → DeclaresPort names port
port_declared_first line names port spells =
    let can : CanPrint names (Net port) = can_print line names (Net port) spells in
    let may : CanDeclare names lanes.Port port.name = can.stands.0 in
    let ring = can.fits.1.1.0.1 in
    let queue = can.fits.1.1.1.0.1 in
    record {
      open_still = may.open_still;
      few = may.few;
      free = may.free;
      free_address = can.stands.1.0;
      limits = record {
        address = can.fits.1.0;
        least_ring = ring.0;
        most_ring = ring.1;
        ring_power = power_from_bit port.ring (omega (arith, ring.1)) ring.2;
        least_queue = queue.0;
        most_queue = queue.1;
        queue_power = power_from_bit port.queue queue.1 queue.2;
      };
    }
