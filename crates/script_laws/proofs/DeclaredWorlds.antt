-- A script's journal, line by line, as its world of lanes reads it; and the world that declared disks make.
use Rattle.std.proofs.Common.{◌≡◌, ◌≤◌, List, [], ◌∷◌, ◌++◌, length, map, Option, Some, IfSome, refl, sym, ap, ◌∙◌, append_assoc, append-nil, arith}
use Rattle.std.specs.List.{filter_map}
use Rattle.runs.specs.Run.{Run}
use Rattle.disk_law.specs.ListState.{ImageState}
use Rattle.domain_script.specs.Declarations.{AreDisks}
use Rattle.domain_script.specs.declared.event.DiskDecl.{DiskDecl}
use Rattle.domain_script.specs.declared.event.Event.{Event}
use Rattle.world_parts.specs.world_laws.Settle.{SettleEntry}
use Rattle.world_parts.specs.world_laws.World.{IsWorld}
use Rattle.world_parts.specs.domain_laws.Domain.{DomainState}
use Rattle.world_parts.specs.domain_laws.Lines as world
use Rattle.lane_kinds.proofs.Places.{map_both}
use Rattle.world_parts.specs.WorldEvents.{told_of, world_event}
use Rattle.script_laws.proofs.Untold.{all_told}
use Rattle.ldom_entries.specs.declared.entry.Entry.{Entry}
use Rattle.script_laws.specs.Told.{told, told_by}
use Rattle.script_laws.proofs.DiskShapes.{are_shapes, holds_all}
use Rattle.world_parts.specs.Declared.{bytes_needed, shapes_of}
use Rattle.world_parts.specs.Lines.{EventStep, line_of}
use Rattle.world_parts.specs.Parts.{PartSays}

-- WHAT A PART SAYS is all that it tells
mapped_kept : {X Y : Type 0} (f : X → Option Y) (g : Y → Y) (xs : List X) (ys : List Y)
    → map f xs ≡ map (λ (y : Y). Some (g y)) ys → filter_map f xs ≡ map g ys
mapped_kept {X} {Y} f g [] [] is = refl
mapped_kept {X} {Y} f g (x ∷ xs) (y ∷ ys) is = grind (arith, mapped_kept f g xs ys)
mapped_kept {X} {Y} f g [] (y ∷ ys) is = absurd (cc is)
mapped_kept {X} {Y} f g (x ∷ xs) [] is = absurd (cc is)

pub says_told : (line : Event × List Entry) (entries : List SettleEntry) → PartSays (line_of line.0) line.1 entries
    → told_by line ≡ all_told entries
says_told line entries says = mapped_kept (world_event (line_of line.0)) told_of line.1 entries says

-- LINES with their parts, as those of the world: what they tell is told of the parts of these
pub record AsLines (w : DomainState) (lines : List (Event × List Entry)) (v : DomainState) : Type 0 where
  pub real : List (world.Line × List SettleEntry)
  pub run : Run world.LineStep w real v
  pub told_is : told lines ≡ all_told (world.entries_of_lines real)

pub as_lines : (w : DomainState) (lines : List (Event × List Entry)) (v : DomainState) → Run EventStep w lines v
    → AsLines w lines v
as_lines w [] v run = record { real = []; run = run; told_is = refl }
as_lines w (line ∷ lines) v run =
    let step = run.1 in
    let rest : AsLines run.0 lines v = as_lines run.0 lines v run.2 in
    let later : List SettleEntry = world.entries_of_lines rest.real in
    record {
      real = (line_of line.0, step.entries) ∷ rest.real;
      run = (run.0, step.moves, rest.run);
      told_is = ap (λ (l : List SettleEntry). l ++ told lines) (says_told line step.entries step.says)
          ∙ ap (λ (l : List SettleEntry). all_told step.entries ++ l) rest.told_is
          ∙ sym (map_both told_of step.entries later);
    }

-- the parts of all lines but the last, and then its own
told_more : (lines : List (Event × List Entry)) (line : Event × List Entry)
    → told (lines ++ line ∷ []) ≡ told lines ++ told_by line
told_more [] line = append-nil (told_by line)
told_more (first ∷ lines) line = grind (arith, append_assoc, told_more lines line)

pub cut_told : (lines : List (Event × List Entry)) (line : Event × List Entry) (past last : List SettleEntry)
    → told lines ≡ all_told past → told_by line ≡ all_told last → told (lines ++ line ∷ []) ≡ all_told (past ++ last)
cut_told lines line past last one two = grind (arith, told_more, map_both)

-- THE WORLD of declared disks, whether its image tells its bytes or not
pub declared_world : (disks : List DiskDecl) (image : ImageState) → AreDisks disks
    → IfSome image.told (λ bytes. bytes_needed disks ≤ length bytes) → IsWorld (shapes_of 0 disks) image
declared_world disks image are long = record { shapes_are = are_shapes 0 disks are; holds = holds_all disks image.told long }
