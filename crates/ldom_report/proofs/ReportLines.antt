-- The lines of a report, one after another.
use Rattle.std.proofs.Common.{◌≡◌, refl, ℕ, ◌+◌, ◌≤◌, Bool, true, false, List, [], ◌∷◌, ◌++◌, length, append_assoc, append-nil, sym, ap, subst, ◌∙◌, arith}
use Rattle.std.specs.Prelude.{◌||◌, All, if◌then◌else◌}
use Rattle.std.proofs.lemmas.List.{length-append}
use Rattle.std.proofs.lemmas.List.Elements.{All-cons, All-head, All-nil, All-tail}
use Rattle.domain_script.specs.Declarations.{Declared}
use Rattle.ldom_entries.specs.Seen.{PassesUnseen, is_seen}
use Rattle.ldom_entries.specs.Whole.{is_whole}
use Rattle.ldom_entries.specs.declared.entry.Entry.{Entry}
use Rattle.ldom_report.specs.declared.status.Mode.{Mode}
use Rattle.ldom_report.specs.declared.status.Mode.TheVariants.{EndOnly, Run, Trace}
use Rattle.ldom_report.specs.declared.status.Status.{Status}
use Rattle.ldom_report.specs.declared.status.Status.TheVariants.{Done, Usage, Script, SourceFault, SinkFault, HostFault, StoreFault, ImageSize, Limit, NoMemory}
use Rattle.ldom_report.specs.EntryText.{entry_lines, line_text, may_be_seen, may_show, report_entries, shows}
use Rattle.ldom_report.specs.LeftOut.{LeavesOut}
use Rattle.ldom_report.specs.Report.{last_line, usage_line, report}

-- entries that the mode doesn't show have no lines
unshown_lines : (mode : Mode) (declared : Declared) (left_out rest : List Entry) → All (λ entry. shows mode entry ≡ false) left_out
    → report_entries mode declared (left_out ++ rest) ≡ report_entries mode declared rest
unshown_lines mode declared [] rest unshown = refl
unshown_lines mode declared (entry ∷ left_out) rest unshown =
    let P : Entry → Type 0 = λ e. shows mode e ≡ false in
    ap (λ (b : Bool). (if b then line_text mode declared entry else []) ++ report_entries mode declared (left_out ++ rest))
    (All-head P entry left_out unshown)
    ∙ unshown_lines mode declared left_out rest (All-tail P entry left_out unshown)

-- so the lines of what is left are the same
pub lines_left : (mode : Mode) (declared : Declared) (old new : List Entry) → LeavesOut mode old new
    → report_entries mode declared old ≡ report_entries mode declared new
lines_left mode declared old new leaves =
    ap (report_entries mode declared) leaves.are ∙ unshown_lines mode declared leaves.left_out new leaves.unshown

-- what holds of each entry holds of each that is left, and no more are left
all_behind : (P : Entry → Type 0) (front rest : List Entry) → All P (front ++ rest) → All P rest
all_behind P [] rest all = all
all_behind P (entry ∷ front) rest all = all_behind P front rest (All-tail P entry (front ++ rest) all)

pub all_left : (P : Entry → Type 0) (mode : Mode) (old new : List Entry) → LeavesOut mode old new → All P old → All P new
all_left P mode old new leaves all =
    all_behind P leaves.left_out new (subst (λ (l : List Entry). All P l) leaves.are all)

pub fewer_left : (mode : Mode) (old new : List Entry) → LeavesOut mode old new → length new ≤ length old
fewer_left mode old new leaves =
    let long : length old ≡ length leaves.left_out + length new =
    ap (λ (l : List Entry). length l) leaves.are ∙ length-append leaves.left_out new in
    omega (arith, long)

-- nothing is left out; or what no user of the disks and ports sees, in a run
pub leaves_none : (mode : Mode) (old new : List Entry) → old ≡ new → LeavesOut mode old new
leaves_none mode old new same =
    record { left_out = []; are = same; unshown = All-nil (λ (e : Entry). shows mode e ≡ false) }

neither : (a b : Bool) → (a || b) ≡ false → b ≡ false
neither true b is = absurd (cc is)
neither false b is = is

unshown : (entries : List Entry) → All (λ entry. may_be_seen entry ≡ false) entries → All (λ entry. shows Run entry ≡ false) entries
unshown [] none = All-nil (λ (e : Entry). shows Run e ≡ false)
unshown (entry ∷ entries) none =
    let P : Entry → Type 0 = λ e. may_be_seen e ≡ false in
    All-cons (λ (e : Entry). shows Run e ≡ false) entry entries
    (neither (is_whole entry) (is_seen entry) (All-head P entry entries none)) (unshown entries (All-tail P entry entries none))

pub leaves_unseen : (mode : Mode) (old middle new : List Entry) → mode ≡ Run → PassesUnseen old middle → middle ≡ new → LeavesOut mode old new
leaves_unseen mode old middle new run passes same = record {
  left_out = passes.passed;
  are = passes.are ∙ ap (λ (l : List Entry). passes.passed ++ l) same;
  unshown =
      subst (λ (m : Mode). All (λ (e : Entry). shows m e ≡ false) passes.passed) (sym run) (unshown passes.passed passes.unseen);
}

-- all is left out, where the mode shows none
none_shown : (entries : List Entry) → All (λ entry. shows EndOnly entry ≡ false) entries
none_shown [] = All-nil (λ (e : Entry). shows EndOnly e ≡ false)
none_shown (entry ∷ entries) = All-cons (λ (e : Entry). shows EndOnly e ≡ false) entry entries refl (none_shown entries)

pub leaves_all : (mode : Mode) (old : List Entry) → mode ≡ EndOnly → LeavesOut mode old []
leaves_all mode old end_only = record {
  left_out = old;
  are = sym (append-nil old);
  unshown = subst (λ (m : Mode). All (λ (e : Entry). shows m e ≡ false) old) (sym end_only) (none_shown old);
}

-- what may be seen may be shown in a run, and everything in a trace
pub may_seen : (mode : Mode) (entry : Entry) → mode ≡ Run → may_be_seen entry ≡ true → may_show mode entry ≡ true
may_seen mode entry run seen = ap (λ (m : Mode). may_show m entry) run ∙ seen

pub may_traced : (mode : Mode) (entry : Entry) → mode ≡ Trace → may_show mode entry ≡ true
may_traced mode entry trace = ap (λ (m : Mode). may_show m entry) trace

pub ruleset leaving_out = (leaves_none, leaves_unseen, leaves_all, may_seen, may_traced)

-- THE LINES OF ONE ENTRY MORE: the lines so far are written, and of the entries that are left `entry` is the first that
-- the mode may show
pub next_lines : (mode : Mode) (declared : Declared) (whole so_far : List ℕ) (rest left : List Entry) (entry : Entry)
    → whole ≡ so_far ++ report_entries mode declared rest → LeavesOut mode rest (entry ∷ left)
    → whole ≡ so_far ++ entry_lines mode declared entry ++ report_entries mode declared left
next_lines mode declared whole so_far rest left entry is leaves =
    is
    ∙ ap (λ (l : List ℕ). so_far ++ l) (lines_left mode declared rest (entry ∷ left) leaves)
    ∙ sym (append_assoc so_far (entry_lines mode declared entry) (report_entries mode declared left))

-- and where none is left
pub no_lines : (mode : Mode) (declared : Declared) (whole so_far : List ℕ) (rest : List Entry)
    → whole ≡ so_far ++ report_entries mode declared rest → LeavesOut mode rest [] → so_far ≡ whole
no_lines mode declared whole so_far rest is leaves =
    sym (is ∙ ap (λ (l : List ℕ). so_far ++ l) (lines_left mode declared rest [] leaves) ∙ append-nil so_far)

-- a report is the lines of its entries and its last line; that of a wrong command line has no entries
pub report_parts : (mode : Mode) (declared : Declared) (lines : ℕ) (entries : List Entry) (status : Status) → (status ≡ Usage → entries ≡ [])
    → report_entries mode declared entries ++ last_line lines entries status ≡ report mode declared lines entries status
report_parts mode declared lines entries Done none = refl
report_parts mode declared lines entries Usage none = ap (λ (l : List Entry). report_entries mode declared l ++ usage_line) (none refl)
report_parts mode declared lines entries (Script line fault) none = refl
report_parts mode declared lines entries SourceFault none = refl
report_parts mode declared lines entries SinkFault none = refl
report_parts mode declared lines entries HostFault none = refl
report_parts mode declared lines entries StoreFault none = refl
report_parts mode declared lines entries (ImageSize need have) none = refl
report_parts mode declared lines entries (Limit line kind) none = refl
report_parts mode declared lines entries NoMemory none = refl
