-- How long the image of a run is, and that its disks lie within it.
use Rattle.std.proofs.Common.{◌≡◌, ◌⊎◌, ℕ, ◌+◌, ◌*◌, ◌<◌, ◌≤◌, Bool, List, [], ◌∷◌, ◌++◌, length, map, sym, ap, subst, arith, Option, Some, None, IfSome, replicate}
use Rattle.std.proofs.Math.ListN.{length-replicate}
use Rattle.world_parts.specs.lane_models.LaneState.{LaneState, Shape}
use Rattle.domain_script.specs.Declarations.{Declared}
use Rattle.domain_script.specs.declared.event.DiskDecl.{DiskDecl}
use Rattle.domain_script.specs.declared.event.Event.{Event}
use Rattle.domain_script.specs.NamesState.{NamesState, noted}
use Rattle.domain_script.specs.ScriptEvents.{AllSpell}
use Rattle.world_parts.specs.world_laws.Rounds.{Each}
use Rattle.world_parts.specs.domain_laws.Domain.{DomainState, Lanes}
use Rattle.ldom_report.specs.declared.status.Status.{Status}
use Rattle.ldom_report.specs.declared.status.Status.TheVariants as status
use Rattle.ldom_report.specs.Stops.{IsReaders}
use Rattle.vio_io.specs.declared.host.AttachFault.{AttachFault}
use Rattle.vio_io.specs.declared.host.AttachFault.TheVariants.{Failed, Memory}
use Rattle.script_laws.specs.Going.{RunAt, RunsAll}
use Rattle.script_laws.specs.Replayed.{attach_status, ended_status, start_of}
use Rattle.script_laws.specs.Sized.{SizeIs}
use Rattle.script_laws.proofs.Through.{script_shapes}
use Rattle.world_parts.specs.Declared.{LiesWithin, blocks_of, nets_of, shape_of, shapes_of}
use Rattle.world_parts.specs.Endings.{JournalIs, NotBegun, ending}
use Rattle.script_laws.proofs.LineCases.{noted_disks}
use Rattle.script_laws.proofs.Assembly.{ended_as}
use Rattle.script_laws.proofs.LineLists.{by_readers}
use Rattle.script_laws.specs.LanesStand.{LanesStand}

abbrev pub shape_in : LaneState → Shape
shape_in s = s.shape

-- where each lane's disk lies within an image, all of them do
pub needed_within : (first size : ℕ) (disks : List DiskDecl) (lanes : List LaneState) → map shape_in lanes ≡ shapes_of first disks → Each (LiesWithin size) lanes → 512 * first ≤ size
    → 512 * (first + blocks_of disks) ≤ size
needed_within first size [] lanes are each from = omega (arith, from)
needed_within first size (disk ∷ disks) [] are each from = absurd (cc are)
needed_within first size (disk ∷ disks) (s ∷ lanes) are each from =
    let one : s.shape ≡ shape_of first disk = cc are in
    let others : map shape_in lanes ≡ shapes_of (first + disk.blocks) disks = cc are in
    let begins : s.shape.first ≡ first = ap (λ (x : Shape). x.first) one in
    let blocks : s.shape.blocks ≡ disk.blocks = ap (λ (x : Shape). x.blocks) one in
    omega (arith, needed_within (first + disk.blocks) size disks lanes others each.1 (omega (arith, each.0, begins, blocks)))

module _ {D : Type 0} (size : D → ℕ) where
  -- a run in a world over an image that is long enough
  pub sized_of : (why : Status) (faulty : Bool) (least : ℕ) (told : Option (List ℕ)) (image : D) → IsReaders why → least ≤ size image → IfSome told (λ bytes. least ≤ length bytes) → SizeIs size (ended_status why faulty) least told (Some image)
  sized_of why faulty least told image readers enough long = grind (arith, ended_as, by_readers)

  -- the same, its parts said otherwise
  pub sized_as : (gives : ℕ → Option (List ℕ)) (why ended : Status) (names now_named : NamesState) (image disk : Option D) → ended ≡ why → now_named ≡ names → disk ≡ image
      → SizeIs size why (512 * blocks_of names.disks) (gives (512 * blocks_of names.disks)) image → SizeIs size ended (512 * blocks_of now_named.disks) (gives (512 * blocks_of now_named.disks)) disk
  sized_as gives why ended names now_named image disk status_is names_are image_is sized = grind arith

  -- a run without an image
  pub sized_none : (why : Status) (least : ℕ) (told : Option (List ℕ)) → IsReaders why → SizeIs size why least told None
  sized_none why least told readers = by_readers (λ (w : Status). SizeIs size w least told None) tt (λ at fault. tt) tt (λ at kind. tt) tt why readers

  -- either what was told is long enough, or nothing was begun
  pub long_or_none : (why : Status) (least : ℕ) (told : Option (List ℕ)) (image : Option D) → SizeIs size why least told image → IfSome image (λ disk. IfSome told (λ bytes. least ≤ length bytes)) ⊎ (ending why ≡ NotBegun)
  long_or_none why least told image sized = grind arith

  -- what was told is long enough where the run has lanes: there is an image then, and it isn't too short
  pub lanes_long : (why : Status) (least : ℕ) (told : Option (List ℕ)) (image : Option D) (lanes : Option Lanes) (t : DomainState)
      → SizeIs size why least told image → LanesStand why image lanes t → IfSome lanes (λ stand. IfSome told (λ bytes. least ≤ length bytes))
  lanes_long why least told image lanes t sized stand = grind arith

  -- a disk that attaching made of zeros is never too short
  pub zeros_are_long : (why : Status) (least need have : ℕ) (told : Option (List ℕ)) (image : Option D) → why ≡ status.ImageSize need have → told ≡ Some (replicate least 0) → SizeIs size why least told image → ⊥
  zeros_are_long why least need have told image is zeros sized = grind (arith, length-replicate)

  -- nor is one that is as long as the disks of the script's names need
  pub long_enough : (why : Status) (least most need have : ℕ) (told : Option (List ℕ)) (image : Option D) → why ≡ status.ImageSize need have → least ≤ most → IfSome image (λ disk. most ≤ size disk) → SizeIs size why least told image → ⊥
  long_enough why least most need have told image is within enough sized = grind arith

-- an image that tells as many bytes as it has tells enough where it has enough
pub long_told : (told : Option (List ℕ)) (size least : ℕ) → IfSome told (λ bytes. length bytes ≡ size) → least ≤ size → IfSome told (λ bytes. least ≤ length bytes)
long_told None size least is enough = tt
long_told (Some bytes) size least is enough = omega (arith, is, enough)

module _ {D : Type 0} (size : D → ℕ) where
  -- the image that was attached is too short
  pub sized_short : (need have least : ℕ) (told : Option (List ℕ)) (image : D) → need ≡ least → have ≡ size image → have < need → IfSome told (λ bytes. length bytes ≡ size image) → SizeIs size (status.ImageSize need have) least told (Some image)
  sized_short need have least told image needs has short long = (needs, omega (arith, needs, short), sym has, subst (λ (n : ℕ). IfSome told (λ bytes. length bytes ≡ n)) (sym has) long)

  -- none was attached
  pub sized_refused : (fault : AttachFault) (least : ℕ) (told : Option (List ℕ)) → SizeIs size (attach_status fault) least told None
  sized_refused Failed least told = tt
  sized_refused Memory least told = tt

  -- a run in a world that ended
  pub sized_run : (start now : Option (List ℕ)) (gives : ℕ → Option (List ℕ)) (why : Status) (faulty : Bool) (names : NamesState) (s : DomainState) (after : RunAt) (image : D) → IsReaders why → RunsAll start now names s why after
      → s ≡ start_of names gives → Each (LiesWithin (size image)) after.world.first.lanes → IfSome (gives (512 * blocks_of names.disks)) (λ bytes. 512 * blocks_of names.disks ≤ length bytes)
      → SizeIs size (ended_status why faulty) (512 * blocks_of after.names.disks) (gives (512 * blocks_of after.names.disks)) (Some image)
  sized_run start now gives why faulty names s after image readers runs begins within long =
      let is : JournalIs (ending why) (start_of names gives) runs.parts after.journal after.world = subst (λ (x : DomainState). JournalIs (ending why) x runs.parts after.journal after.world) begins runs.journal_is in
      let enough : 512 * (0 + blocks_of names.disks) ≤ size image =
      needed_within 0 (size image) names.disks after.world.first.lanes (script_shapes names.disks (nets_of names.ports) (start_of names gives).first.image 0 runs.parts after.world is.fits) within (omega arith) in
      subst (λ (disks : List DiskDecl). SizeIs size (ended_status why faulty) (512 * blocks_of disks) (gives (512 * blocks_of disks)) (Some image)) (sym (ap (λ (d : Declared). d.disks) runs.declared))
      (sized_of size why faulty (512 * blocks_of names.disks) (gives (512 * blocks_of names.disks)) image readers (omega (arith, enough)) long)

-- a declaration alone adds blocks
more_blocks : (disks : List DiskDecl) (disk : DiskDecl) → blocks_of (disks ++ disk ∷ []) ≡ blocks_of disks + disk.blocks
more_blocks [] disk = omega arith
more_blocks (first ∷ disks) disk = omega (arith, more_blocks disks disk)

noted_blocks : (names : NamesState) (e : Event) → blocks_of names.disks ≤ blocks_of (noted names e).disks
noted_blocks names e = grind (arith, noted_disks, more_blocks)

-- no disk that is declared goes
pub blocks_stay : (texts : List (List ℕ)) (before after : NamesState) (events : List Event) → AllSpell texts before events after → blocks_of before.disks ≤ blocks_of after.disks
blocks_stay (x ∷ xs) before after (e ∷ es) spell = omega (arith, noted_blocks before e, blocks_stay xs (noted before e) after es spell.1)
blocks_stay texts before after events spell = grind arith
