-- A server works on descriptors without a defect alone, also where somebody forges packets and memory.
use Rattle.std.proofs.Common.{◌≡◌, ℕ, Bool, true, false, Option, Some, None, List, refl, ap, subst, arith}
use Rattle.std.specs.Prelude.{◌==◌, if◌then◌else◌, ⊤}
use Rattle.runs.specs.Lawful.{log_of}
use Rattle.runs.specs.Run.{Run, run_keeps}
use Rattle.cookie_copy.specs.declared.fault.CopyFault.{CopyFault}
use Rattle.vdisk_msg.specs.Check.{first_defect}
use Rattle.vdisk_msg.specs.declared.desc.DescFault.{DescFault}
use Rattle.vdisk_msg.specs.declared.desc.DiskDesc.{DiskDesc}
use Rattle.vdisk_msg.specs.Descriptor as slot_says
use Rattle.lane_laws.specs.DiskLog.{DiskLog, after, nothing_yet}
use Rattle.lane_models.specs.DiskEvent.{Desc, DiskEvent, Done, Finished, Misplaced, Moved, Published, Stored, Worked, Works}
use Rattle.lane_models.specs.LaneState.{IsShape, LaneState, Shape, fresh}
use Rattle.lane_models.specs.LaneStep.{LaneStep}
use Rattle.lane_models.specs.Seeing.{Seen}
use Rattle.lane_models.specs.ServerState.{Ends, Flushes, Gathers, Gives, Progress, Reads, ServerState, Work, Writes}
use Rattle.lane_models.specs.ServerStep.{ServerStep}
use Rattle.cookie_copy.specs.Reach.{Reach}
use Rattle.lane_models.specs.ServerWork.{MovesIn, StoresIn, checked_progress, desc_of, first_progress}
use Rattle.lane_laws.proofs.RulesFree.{ServerFree, server_free}
use Rattle.lane_laws.proofs.PieceLaw.{Working}
use Rattle.lane_laws.proofs.WorkKept.{WorkKeeps, work_by, work_step}
use Rattle.lane_laws.proofs.WorkRuns.{run_working}

-- a descriptor whose pieces are done has no defect, for a disk of so many blocks
abbrev pub CheckedBy : ℕ → DiskDesc → Progress → Type 0
CheckedBy blocks desc (Reads unit) = first_defect desc blocks 0x0e ≡ None
CheckedBy blocks desc (Gives unit bytes) = first_defect desc blocks 0x0e ≡ None
CheckedBy blocks desc (Gathers unit) = first_defect desc blocks 0x0e ≡ None
CheckedBy blocks desc (Writes unit bytes) = first_defect desc blocks 0x0e ≡ None
CheckedBy blocks desc Flushes = first_defect desc blocks 0x0e ≡ None
CheckedBy blocks desc (Ends status) = ⊤

abbrev pub IsChecked : ℕ → Option Work → Type 0
IsChecked blocks None = ⊤
IsChecked blocks (Some work) = CheckedBy blocks (desc_of work) work.progress

-- WHAT COMES FIRST of a descriptor
first_checked : (blocks : ℕ) (desc : DiskDesc) → CheckedBy blocks desc (first_progress blocks desc)
first_checked blocks desc = by_fault (first_defect desc blocks 0x0e) refl
  where
    by_write : (b : Bool) → first_defect desc blocks 0x0e ≡ None → CheckedBy blocks desc (if b then Gathers 0 else Flushes)
    by_write true none = none
    by_write false none = none

    by_read : (b : Bool) → first_defect desc blocks 0x0e ≡ None → CheckedBy blocks desc (if b then Reads 0 else if desc.operation == 2 then Gathers 0 else Flushes)
    by_read true none = none
    by_read false none = by_write (desc.operation == 2) none

    by_fault : (why : Option DescFault) → first_defect desc blocks 0x0e ≡ why → CheckedBy blocks desc (checked_progress why desc)
    by_fault (Some why) is = tt
    by_fault None is = by_read (desc.operation == 1) is

-- and next, after a unit that is copied
reads_on : (blocks : ℕ) (desc : DiskDesc) (b : Bool) (unit : ℕ) → first_defect desc blocks 0x0e ≡ None → CheckedBy blocks desc (if b then Reads unit else Ends 0)
reads_on blocks desc true unit none = none
reads_on blocks desc false unit none = tt

moved_checked : (progress : Progress) (blocks : ℕ) (work : Work) (reach : Reach) (unit : ℕ) (why : Option CopyFault) (next : Progress) (new : List ℕ)
    → CheckedBy blocks (desc_of work) progress → MovesIn progress work reach unit why next new → CheckedBy blocks (desc_of work) next
moved_checked progress blocks work reach unit why next new none moves = grind arith

-- after one that is read or written, and a flush
gathers_on : (blocks : ℕ) (desc : DiskDesc) (b : Bool) (unit : ℕ) → first_defect desc blocks 0x0e ≡ None → CheckedBy blocks desc (if b then Gathers unit else Ends 0)
gathers_on blocks desc true unit none = none
gathers_on blocks desc false unit none = tt

stored_checked : (progress : Progress) (blocks : ℕ) (work : Work) (operation block count : ℕ) (failed : Bool) (gave : List ℕ) (next : Progress)
    → CheckedBy blocks (desc_of work) progress → StoresIn progress work operation block count failed gave next → CheckedBy blocks (desc_of work) next
stored_checked progress blocks work operation block count failed gave next none stores = grind arith

-- A SERVER'S WORK
in_work : (s : ServerState) (work : Work) → s.work ≡ Some work → IsChecked s.blocks s.work → CheckedBy s.blocks (desc_of work) work.progress
in_work s work is checked = let here : IsChecked s.blocks (Some work) = subst (IsChecked s.blocks) is checked in here

works_checked : (s : ServerState) (at : Seen) (reach : Reach) (gave : List ℕ) (event : Worked) (t : ServerState) (new : List ℕ)
    → ServerStep s at reach gave (Works event) t new → IsChecked s.blocks s.work → IsChecked t.blocks t.work
works_checked s at reach gave (Desc slot bytes) t new step checked =
    work_by IsChecked t s.blocks _ (ap (λ (x : ServerState). x.blocks) step.0.is) (ap (λ (x : ServerState). x.work) step.0.is) (first_checked s.blocks (slot_says.disk_desc_of bytes))
works_checked s at reach gave (Moved unit fault) t new step checked = grind (arith, server_free, work_by, moved_checked, in_work)
works_checked s at reach gave (Stored operation block count failed) t new step checked =
    let now = (subst (ServerFree s) step.0.rule (server_free s at)).1 in
    work_by IsChecked t s.blocks _ (ap (λ (x : ServerState). x.blocks) step.0.is) (ap (λ (x : ServerState). x.work) step.0.is)
    (stored_checked step.0.work.progress s.blocks step.0.work operation block count failed gave step.0.next (in_work s step.0.work now checked) step.0.stores)
works_checked s at reach gave (Finished slot status) t new step checked =
    work_by IsChecked t s.blocks None (ap (λ (x : ServerState). x.blocks) step.0.is) (ap (λ (x : ServerState). x.work) step.0.is) tt
works_checked s at reach gave (Published id) t new step checked = absurd step
works_checked s at reach gave (Done id operation status bytes) t new step checked = absurd step
works_checked s at reach gave Misplaced t new step checked = absurd step

checks_keep : WorkKeeps IsChecked
checks_keep = record { none = λ blocks. tt; works = works_checked }

-- ALONG A RUN
pub record ServesChecked (s : LaneState) (l : DiskLog) : Type 0 where
  pub serves : Working s l
  pub checks : IsChecked s.server.blocks s.server.work

pub run_checked : (shape : Shape) (events : List DiskEvent) (s : LaneState) → IsShape shape → Run LaneStep (fresh shape) events s → ServesChecked s (log_of after (nothing_yet shape) events)
run_checked shape events s sound run = record {
  serves = run_working shape events s sound run;
  checks = run_keeps LaneStep (λ (x : LaneState). IsChecked x.server.blocks x.server.work)
      (λ (x : LaneState) (e : DiskEvent) (y : LaneState) step holds. work_step IsChecked checks_keep x e y holds step) (fresh shape) s events run tt;
}
