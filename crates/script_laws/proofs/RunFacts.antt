-- What holds of the journal of every run.
use Rattle.std.proofs.Common.{◌≡◌, ℕ, ◌^◌, ◌<◌, ◌≤◌, List, [], ◌∷◌, ◌++◌, length, refl, sym, ◌∙◌, ap, arith, subst, true, Option, IfSome}
use Rattle.world_parts.specs.domain_laws.Domain.{Lanes}
use Rattle.std.specs.List.{All}
use Rattle.std.proofs.lemmas.List.Sums.{count_by-le-length}
use Rattle.std.proofs.lemmas.Option.{IfSome_then}
use Rattle.vio_io.specs.Causes.{last_count}
use Rattle.disk_law.specs.Issued.{CompletesOnceInOrder}
use Rattle.disk_law.specs.ListState.{ImageState}
use Rattle.disk_law.specs.ListStep.{Done}
use Rattle.domain_script.specs.Declarations.{AreDisks}
use Rattle.domain_script.specs.NamesState.{NamesState, declared_by}
use Rattle.lane_kinds.specs.Lanes.{EachOf}
use Rattle.world_parts.specs.lane_models.NetLaneState.{IsNetShape, NetShape}
use Rattle.ldom_report.specs.DiskEvents.{history}
use Rattle.ldom_report.specs.HasWords.{HasWords}
use Rattle.ldom_entries.specs.declared.entry.Entry.{Entry}
use Rattle.ldom_report.specs.declared.status.Status.{Status}
use Rattle.ldom_report.specs.declared.status.Status.TheVariants as status
use Rattle.script_laws.specs.Admitting.{AdmitsAll}
use Rattle.script_laws.specs.Failures.{FailuresCounted, SucceedOrFail}
use Rattle.script_laws.specs.Headline.{Headline}
use Rattle.script_laws.specs.Replayed.{Replayed, start_of}
use Rattle.script_laws.specs.Sized.{SizeIs}
use Rattle.script_laws.specs.Stored.{fault_count, flush_count, is_stored_that, stored_count, write_count}
use Rattle.script_laws.proofs.HeadlineLaw.{headline_law}
use Rattle.script_laws.proofs.ScriptLaws.{script_admits, script_calls, script_failed, script_faults, script_flushes, script_once, script_statuses, script_worded, script_writes}
use Rattle.script_laws.proofs.ReadLemmas.{read_declared, read_disks, read_few}
use Rattle.script_laws.proofs.ReadPorts.{many_nets, read_nets}
use Rattle.script_laws.proofs.Sizes.{lanes_long}
use Rattle.world_parts.specs.Declared.{bytes_needed, nets_of}
use Rattle.world_parts.specs.Script.{FitsScript, all_lines, events_of, journal_of}

not_last : {A : Type 0} (xs : List A) (y : A) (ys : List A) → [] ≡ xs ++ y ∷ ys → ⊥
not_last [] y ys is = cc is
not_last (x ∷ xs) y ys is = cc is

-- no request was accepted, and none completed
pub none_once : (disk : ℕ) → CompletesOnceInOrder (history disk [])
none_once disk before after id operation status bytes is = absurd (not_last before (Done id operation status bytes) after is)

-- a fact of a journal and an image, where both are said otherwise
pub said_otherwise : {J D : Type 0} (P : J → Option D → Type 0) (journal now : J) (image disk : Option D) → now ≡ journal → disk ≡ image → P journal image → P now disk
said_otherwise P journal now image disk journal_is image_is holds = subst (λ j. P j disk) (sym journal_is) (subst (λ d. P journal d) (sym image_is) holds)

module _ {D : Type 0} (seen : D → ImageState) (script now : Option (List ℕ)) (gives : ℕ → Option (List ℕ)) (why : Status) (lines : ℕ) (names : NamesState) (journal : List Entry) (image : Option D) (lanes : Option Lanes)
    (run : Replayed seen script now gives why lines names journal image lanes) where
  -- the disks that were declared are within the limits
  pub disks_are : AreDisks names.disks
  disks_are = read_disks script run.stopped.left (events_of run.parts) names run.stopped.count run.stopped.read

  abbrev nets : List NetShape
  nets = nets_of names.ports

  nets_are : EachOf IsNetShape nets
  nets_are = read_nets script run.stopped.left (events_of run.parts) names run.stopped.count run.stopped.read

  few_nets : length nets ≤ 8
  few_nets =
      let declared = read_declared script run.stopped.left (events_of run.parts) names run.stopped.count run.stopped.read in
      let few : length names.ports ≤ 8 = declared.few_ports in
      omega (arith, many_nets names.ports, few)

  abbrev start : ImageState
  start = (start_of names gives).first.image

  fits : FitsScript 0 (start_of names gives) run.parts run.final
  fits = run.journal_is.fits

  of_journal : (P : List Entry → Type 0) → P (journal_of run.parts) → P journal
  of_journal P holds = subst P run.journal_is.is holds

  -- each entry has its words
  pub worded : All (HasWords (declared_by names)) journal
  worded = of_journal (All (HasWords (declared_by names))) (script_worded (declared_by names) start 0 run.parts run.final disks_are nets_are fits)

  -- completions in order, for every disk
  pub once : (disk : ℕ) → CompletesOnceInOrder (history disk journal)
  once disk =
      of_journal (λ (l : List Entry). CompletesOnceInOrder (history disk l))
      (script_once names.disks nets start 0 run.parts run.final disks_are fits disk)

  -- each completion of a disk that nobody forged has status 0 or 5
  pub statuses : SucceedOrFail journal
  statuses = of_journal SucceedOrFail (script_statuses names.disks nets start 0 run.parts run.final disks_are fits)

  -- each request got what it had to get
  pub admits : AdmitsAll names.disks (all_lines run.parts)
  admits = script_admits names.disks nets start 0 run.parts run.final disks_are fits

  -- its disks are as the headline says
  pub headline : (size : D → ℕ) → SizeIs size why (bytes_needed names.disks) (gives (bytes_needed names.disks)) image
      → IfSome lanes (λ stand. Headline names.disks nets start run.parts run.final)
  headline size sized =
      IfSome_then lanes
      (lanes_long size why (bytes_needed names.disks) (gives (bytes_needed names.disks)) image lanes run.final sized run.lanes_stand)
      (λ stand long. headline_law names.disks nets start run.parts run.final disks_are
      (read_few script run.stopped.left (events_of run.parts) names run.stopped.count run.stopped.read) nets_are few_nets long fits)

  -- at status 0 no call of the image failed
  pub image_unfailed : why ≡ status.Done → IfSome image (λ disk. (seen disk).faults ≡ 0)
  image_unfailed done = grind arith

  module _ (short : length journal < 2 ^ 63) where
    parts_short : length (journal_of run.parts) < 2 ^ 63
    parts_short = subst (λ (l : List Entry). length l < 2 ^ 63) (sym run.journal_is.is) short

    -- no more completions failed than the image counts
    pub failures : IfSome image (λ disk. FailuresCounted journal (seen disk).faults)
    failures =
        IfSome_then image run.image_is
        (λ disk is. subst (λ (n : ℕ). FailuresCounted journal n) (sym is.faults)
        (of_journal (λ (l : List Entry). FailuresCounted l run.final.first.image.faults)
        (script_failed names.disks nets start 0 run.parts run.final disks_are fits refl parts_short)))

    -- each flush and each write of it is told, and it was called at most as often as that is
    pub calls : IfSome image (λ disk. (seen disk).calls ≤ stored_count journal)
    calls =
        let told : run.final.first.image.calls ≡ stored_count journal =
        script_calls names.disks nets start 0 run.parts run.final disks_are fits refl parts_short ∙ ap stored_count run.journal_is.is in
        let most : stored_count journal ≤ length journal = count_by-le-length (is_stored_that (λ operation failed. true)) journal in
        let few : run.final.first.image.calls < last_count = omega (arith, told, most, short) in
        IfSome_then image run.image_is (λ disk is. subst (λ (n : ℕ). (seen disk).calls ≤ n) told (is.calls few))

    pub flushes : IfSome image (λ disk. (seen disk).flushes ≡ flush_count journal)
    flushes =
        IfSome_then image run.image_is
        (λ disk is. is.flushes
        ∙ script_flushes names.disks nets start 0 run.parts run.final disks_are fits refl parts_short
        ∙ ap flush_count run.journal_is.is)

    pub writes : IfSome image (λ disk. (seen disk).writes ≡ write_count journal)
    writes =
        IfSome_then image run.image_is
        (λ disk is. is.writes
        ∙ script_writes names.disks nets start 0 run.parts run.final disks_are fits refl parts_short
        ∙ ap write_count run.journal_is.is)

    pub image_faults : IfSome image (λ disk. (seen disk).faults ≡ fault_count journal)
    image_faults =
        IfSome_then image run.image_is
        (λ disk is. is.faults
        ∙ script_faults names.disks nets start 0 run.parts run.final disks_are fits refl parts_short
        ∙ ap fault_count run.journal_is.is)
