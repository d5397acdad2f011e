-- A line of a script that is for one lane leaves all others, and the image around its disk's region.
use Rattle.std.proofs.Common.{◌≡◌, ℕ, ◌≤◌, Option, Some, IfSome, List, ◌∷◌, ◌++◌, length, slice_get, sym, ap, ◌∙◌, subst, arith}
use Rattle.runs.specs.Run.{Run, run_split}
use Rattle.disk_law.specs.ListState.{ImageState}
use Rattle.world_parts.specs.lane_models.LaneState.{Shape}
use Rattle.domain_script.specs.Declarations.{AreDisks}
use Rattle.domain_script.specs.declared.event.DiskDecl.{DiskDecl}
use Rattle.domain_script.specs.declared.event.Event.{Event}
use Rattle.world_parts.specs.lane_models.NetLaneState.{NetShape}
use Rattle.world_parts.specs.world_laws.Settle.{SettleEntry}
use Rattle.world_parts.specs.world_laws.Stays.{StaysAround}
use Rattle.world_parts.proofs.domain_laws.OwnLines.{begun_around, disk_begun, disk_line, line_around, port_begun, port_line}
use Rattle.world_parts.specs.domain_laws.Along.{OnlyDisk}
use Rattle.world_parts.specs.domain_laws.Domain.{DomainState}
use Rattle.world_parts.specs.domain_laws.Frames.{frames_put}
use Rattle.world_parts.specs.domain_laws.Isolation.{IsFor, OnlyPortPart}
use Rattle.world_parts.specs.domain_laws.Lines.{DiskLane, PortLane}
use Rattle.ldom_entries.specs.declared.entry.Entry.{Entry}
use Rattle.script_laws.proofs.DeclaredWorlds.{AsLines, as_lines, declared_world, says_told}
use Rattle.script_laws.proofs.Untold.{told_put}
use Rattle.script_laws.specs.Apart.{CutsOff, PassesBy, StandApart}
use Rattle.script_laws.specs.Told.{told_by}
use Rattle.world_parts.specs.Declared.{bytes_needed, shapes_of, world_of}
use Rattle.world_parts.specs.Lines.{EventStep, LineStarts, line_of}
use Rattle.world_parts.specs.Parts.{PartSays}
use Rattle.world_parts.specs.Script.{FitsScript, LastStarts, ScriptParts}

pub line_of_disk : (w : DomainState) (line : Event × List Entry) (v : DomainState) (k : ℕ) → EventStep w line v
    → IsFor (DiskLane k) (line_of line.0) → OnlyDisk k w v
line_of_disk w line v k step own = disk_line w (line_of line.0) step.entries v k own step.moves

-- what a part says it switched is what its entries did
as_told : (k : ℕ) (line : Event × List Entry) (entries : List SettleEntry) (w v : DomainState)
    → PartSays (line_of line.0) line.1 entries → OnlyPortPart k entries w v → OnlyPortPart k (told_by line) w v
as_told k line entries w v says real = record {
  disks_stay = real.disks_stay;
  many = real.many;
  others = λ j s t other there after.
      real.others j s t other there after
      ∙ ap (λ (l : List (List ℕ)). record s { queue = s.queue ++ l })
      (sym (ap (frames_put j) (says_told line entries says) ∙ told_put j entries));
}

pub line_of_port : (w : DomainState) (line : Event × List Entry) (v : DomainState) (k : ℕ) → EventStep w line v
    → IsFor (PortLane k) (line_of line.0) → OnlyPortPart k (told_by line) w v
line_of_port w line v k step own =
    as_told k line step.entries w v step.says (port_line w (line_of line.0) step.entries v k own step.moves)

-- AROUND ITS REGION the image stays
pub own_region : (disks : List DiskDecl) (nets : List NetShape) (image : ImageState) (first : List ℕ)
    → AreDisks disks → image.told ≡ Some first → bytes_needed disks ≤ length first
    → (lines : List (Event × List Entry)) (w : DomainState) (line : Event × List Entry) (v : DomainState)
    (k : ℕ) (shape : Shape) (store : List ℕ) → Run EventStep (world_of disks nets image) lines w → EventStep w line v
    → IsFor (DiskLane k) (line_of line.0) → slice_get (shapes_of 0 disks) k ≡ Some shape
    → w.first.image.told ≡ Some store → StaysAround shape store v.first.image.told
own_region disks nets image first are is_told long lines w line v k shape store run step own there now =
    let start : DomainState = world_of disks nets image in
    let real : AsLines start lines w = as_lines start lines w run in
    line_around (shapes_of 0 disks) image nets first
    (declared_world disks image are
    (subst (λ (o : Option (List ℕ)). IfSome o (λ bytes. bytes_needed disks ≤ length bytes)) (sym is_told) long))
    is_told real.real w (line_of line.0) step.entries v k shape store real.run step.moves own there now

-- and so does a front of a line
begun_region : (disks : List DiskDecl) (nets : List NetShape) (image : ImageState) (first : List ℕ)
    → AreDisks disks → image.told ≡ Some first → bytes_needed disks ≤ length first
    → (lines : List (Event × List Entry)) (w : DomainState) (line : Event × List Entry) (v : DomainState)
    (k : ℕ) (shape : Shape) (store : List ℕ) → Run EventStep (world_of disks nets image) lines w → LineStarts w line v
    → IsFor (DiskLane k) (line_of line.0) → slice_get (shapes_of 0 disks) k ≡ Some shape
    → w.first.image.told ≡ Some store → StaysAround shape store v.first.image.told
begun_region disks nets image first are is_told long lines w line v k shape store run starts own there now =
    let start : DomainState = world_of disks nets image in
    let real : AsLines start lines w = as_lines start lines w run in
    begun_around (shapes_of 0 disks) image nets first
    (declared_world disks image are
    (subst (λ (o : Option (List ℕ)). IfSome o (λ bytes. bytes_needed disks ≤ length bytes)) (sym is_told) long))
    is_told real.real w (line_of line.0) starts.entries v k shape store real.run starts.begins own there now

-- ALONG A SCRIPT
module _ (disks : List DiskDecl) (nets : List NetShape) (image : ImageState) (parts : ScriptParts) (v : DomainState)
    (are : AreDisks disks) (fits : FitsScript 0 (world_of disks nets image) parts v) where
  passes_by : (before : List (Event × List Entry)) (line : Event × List Entry) (behind : List (Event × List Entry))
      → parts.whole ≡ before ++ line ∷ behind → PassesBy disks nets image parts v before line behind
  passes_by before line behind is =
      let start : DomainState = world_of disks nets image in
      let whole : Run EventStep start (before ++ line ∷ behind) fits.middle =
      subst (λ (l : List (Event × List Entry)). Run EventStep start l fits.middle) is fits.run in
      let split = run_split EventStep start fits.middle before (line ∷ behind) whole in
      let at : DomainState = split.0 in
      let next : DomainState = split.2.0 in
      let step : EventStep at line next = split.2.1 in
      record {
        at = at;
        run = split.1;
        next = next;
        step = step;
        middle = fits.middle;
        on = split.2.2;
        last = fits.last;
        leaves = record {
          disk = λ k own. line_of_disk at line next k step own;
          region = λ k shape first store own there told long now.
              own_region disks nets image first are told long before at line next k shape store split.1 step own there
              now;
          port = λ k own. line_of_port at line next k step own;
        };
      }

  cuts_off : (line : Event × List Entry) → parts.cut ≡ Some line → CutsOff disks nets image parts v line
  cuts_off line is =
      let at : DomainState = fits.middle in
      let starts : LineStarts at line v = subst (λ (o : Option (Event × List Entry)). LastStarts at o v) is fits.last in
      record {
        at = at;
        run = fits.run;
        starts = starts;
        leaves = record {
          disk = λ k own. disk_begun at (line_of line.0) starts.entries v k own starts.begins;
          region = λ k shape first store own there told long now.
              begun_region disks nets image first are told long parts.whole at line v k shape store fits.run starts own
              there now;
          port = λ k own.
              as_told k line starts.entries at v starts.says
              (port_begun at (line_of line.0) starts.entries v k own starts.begins);
        };
      }

pub stand_apart : (disks : List DiskDecl) (nets : List NetShape) (image : ImageState) (parts : ScriptParts) (v : DomainState)
    → AreDisks disks → FitsScript 0 (world_of disks nets image) parts v → StandApart disks nets image parts v
stand_apart disks nets image parts v are given = grind (arith, passes_by, cuts_off)
