-- What the image of every run is left with, outside of what accepted writes name.
use Rattle.std.proofs.Common.{◌≡◌, ℕ, ◌≤◌, List, [], length, refl, sym, ◌∙◌, ap, subst, Option, Some, None, IfSome, arith}
use Rattle.world_parts.specs.domain_laws.Domain.{Lanes}
use Rattle.std.proofs.lemmas.Option.{IfSome_then}
use Rattle.disk_law.specs.ListState.{ImageState}
use Rattle.domain_script.specs.NamesState.{NamesState}
use Rattle.world_parts.specs.world_laws.World.{WorldState}
use Rattle.ldom_entries.specs.declared.entry.Entry.{Entry}
use Rattle.ldom_report.specs.declared.status.Status.{Status}
use Rattle.script_laws.specs.Outside.{IsOutsideDisks, KeepsOthers, KeepsTold}
use Rattle.script_laws.specs.Replayed.{Replayed, start_of}
use Rattle.script_laws.specs.Sized.{SizeIs}
use Rattle.script_laws.proofs.RunFacts.{disks_are}
use Rattle.script_laws.proofs.ScriptLaws.{script_kept, script_nothing}
use Rattle.script_laws.proofs.Sizes.{long_or_none}
use Rattle.world_parts.specs.Declared.{bytes_needed, nets_of}
use Rattle.world_parts.specs.Endings.{Ending, EndsSo, NotBegun, ending}
use Rattle.world_parts.specs.Script.{journal_of}

-- an image that tells what it told
unchanged : (IsLeft : ℕ → Type 0) (first : List ℕ) (told : Option (List ℕ)) → told ≡ Some first → KeepsOthers IsLeft first told
unchanged IsLeft first told is = record { content = first; told_is = is; long = refl; same = λ place left. refl }

module _ {D : Type 0} (seen : D → ImageState) (script now : Option (List ℕ)) (gives : ℕ → Option (List ℕ)) (why : Status) (lines : ℕ) (names : NamesState) (journal : List Entry) (image : Option D) (lanes : Option Lanes)
    (run : Replayed seen script now gives why lines names journal image lanes) where
  abbrev Kept : List ℕ → Type 0
  Kept first = IfSome image (λ disk. KeepsOthers (IsOutsideDisks names.disks journal) first (seen disk).told)

  -- where the journal led
  kept_of : (first : List ℕ) → KeepsOthers (IsOutsideDisks names.disks journal) first run.final.first.image.told → Kept first
  kept_of first kept =
      IfSome_then image run.image_is
      (λ disk is. subst (λ (o : Option (List ℕ)). KeepsOthers (IsOutsideDisks names.disks journal) first o) (sym is.told) kept)

  others : (first : List ℕ) → gives (bytes_needed names.disks) ≡ Some first → bytes_needed names.disks ≤ length first → Kept first
  others first is long =
      kept_of first
      (subst (λ (l : List Entry). KeepsOthers (IsOutsideDisks names.disks l) first run.final.first.image.told) run.journal_is.is
      (script_kept names.disks (nets_of names.ports) (start_of names gives).first.image 0 run.parts run.final
      (disks_are seen script now gives why lines names journal image lanes run) run.journal_is.fits first is long))

  -- or that it didn't begin
  nothing : (first : List ℕ) → gives (bytes_needed names.disks) ≡ Some first → ending why ≡ NotBegun → Kept first
  nothing first is none =
      let empty : journal_of run.parts ≡ [] = subst (λ (e : Ending). EndsSo e run.parts) none run.journal_is.ends in
      let stays : run.final.first ≡ (start_of names gives).first =
      script_nothing names.disks (nets_of names.ports) (start_of names gives).first.image 0 run.parts run.final
      (disks_are seen script now gives why lines names journal image lanes run) run.journal_is.fits empty in
      kept_of first
      (unchanged (IsOutsideDisks names.disks journal) first run.final.first.image.told
      (ap (λ (x : WorldState). x.image.told) stays ∙ is))

  untold : (d : Option D) → IfSome d (λ disk. KeepsTold None (IsOutsideDisks names.disks journal) (seen disk).told)
  untold None = tt
  untold (Some disk) = tt

  one_told : (d : Option D) (first : List ℕ) → IfSome d (λ disk. IfSome (Some first) (λ bytes. bytes_needed names.disks ≤ length bytes))
      → (bytes_needed names.disks ≤ length first → Kept first) → d ≡ image → Kept first
  one_told None first long kept none = subst (λ (d : Option D). IfSome d (λ disk. KeepsOthers (IsOutsideDisks names.disks journal) first (seen disk).told)) none tt
  one_told (Some disk) first long kept some = kept long

  -- the image keeps what it was attached with, where that is told
  module _ (size : D → ℕ) (sized : SizeIs size why (bytes_needed names.disks) (gives (bytes_needed names.disks)) image) where
    by_told : (o : Option (List ℕ)) → gives (bytes_needed names.disks) ≡ o
        → IfSome image (λ disk. KeepsTold o (IsOutsideDisks names.disks journal) (seen disk).told)
    by_told None is = untold image
    by_told (Some first) is = grind (arith, long_or_none, one_told, others, nothing)

    pub others_told : IfSome image (λ disk. KeepsTold (gives (bytes_needed names.disks)) (IsOutsideDisks names.disks journal) (seen disk).told)
    others_told = by_told (gives (bytes_needed names.disks)) refl
