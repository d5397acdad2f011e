-- The image's counts along a run of a world: each is one higher for each call of the store that it counts.
use Rattle.std.proofs.Common.{◌≡◌, ◌≤◌, ℕ, zero, suc, ◌+◌, ◌==◌, if◌then◌else◌, Bool, true, false, cond, List, [], ◌∷◌, refl, sym, ap, ◌∙◌, arith}
use Rattle.std.specs.List.{count_by}
use Rattle.runs.specs.Run.{Run}
use Rattle.vio_io.specs.Causes.{count_after, last_count, next_count}
use Rattle.vio_io.proofs.Counts.{one_before}
use Rattle.disk_law.specs.ListState.{ImageState}
use Rattle.world_laws.specs.Settle.{SettleEntry}
use Rattle.world_laws.specs.World.{CalledOnce, WorldState, WorldStep}
use Rattle.world_laws.proofs.Counted.{count_more}
use Rattle.world_laws.specs.Failures.{in_entry, is_failed_store, is_flush, is_store, is_store_that, is_write}

-- A COUNT later
more_before : (n count : ℕ) (b : Bool) → count_after n (count_after (cond b 1 0) count) ≡ count_after (cond b 1 0 + n) count
more_before n count true = grind (arith, one_before)
more_before n count false = grind (arith)

-- A COUNT OF THE IMAGE that each call raises of which this says so
abbrev Counts : (ImageState → ℕ) → (ℕ → Bool → Bool) → Type 0
Counts count says =
    (operation : ℕ) (failed : Bool) (i j : ImageState) → CalledOnce operation failed i j
    → count j ≡ count_after (cond (says operation failed) 1 0) (count i)

module _ (count : ImageState → ℕ) (says : ℕ → Bool → Bool) (counts : Counts count says) where
  entry_counts : (w : WorldState) (entry : SettleEntry) (v : WorldState) → WorldStep w entry v
      → count v.image ≡ count_after (cond (in_entry (is_store_that says) entry) 1 0) (count w.image)
  entry_counts w entry v step = grind arith

  -- A RUN
  run_counts : (w : WorldState) (entries : List SettleEntry) (v : WorldState) → Run WorldStep w entries v
      → count v.image ≡ count_after (count_by (in_entry (is_store_that says)) entries) (count w.image)
  run_counts w [] v run = ap (λ (x : WorldState). count x.image) (sym run)
  run_counts w (entry ∷ entries) v run =
      let n = count_by (in_entry (is_store_that says)) entries in
      run_counts run.0 entries v run.2
      ∙ ap (count_after n) (entry_counts w entry run.0 run.1)
      ∙ more_before n (count w.image) (in_entry (is_store_that says) entry)
      ∙ ap (λ (k : ℕ). count_after k (count w.image)) (sym (count_more (in_entry (is_store_that says)) entry entries))

-- ITS FAULTS, its calls, its flushes and its writes
failed_counts : Counts (λ image. image.faults) (λ operation failed. failed)
failed_counts operation true i j once = once.faults
failed_counts operation false i j once = once.faults

all_count : Counts (λ image. image.calls) (λ operation failed. true)
all_count operation failed i j once = once.calls

one_if : (b : Bool) (before now : ℕ) → now ≡ (if b then next_count before else before) → now ≡ count_after (cond b 1 0) before
one_if true before now is = is
one_if false before now is = is

flushes_count : Counts (λ image. image.flushes) (λ operation failed. operation == 3)
flushes_count operation failed i j once = one_if (operation == 3) i.flushes j.flushes once.flushes

writes_count : Counts (λ image. image.writes) (λ operation failed. operation == 2)
writes_count operation failed i j once = one_if (operation == 2) i.writes j.writes once.writes

pub run_faults : (w : WorldState) (entries : List SettleEntry) (v : WorldState) → Run WorldStep w entries v
    → v.image.faults ≡ count_after (count_by (in_entry is_failed_store) entries) w.image.faults
run_faults = run_counts (λ image. image.faults) (λ operation failed. failed) failed_counts

pub run_calls : (w : WorldState) (entries : List SettleEntry) (v : WorldState) → Run WorldStep w entries v
    → v.image.calls ≡ count_after (count_by (in_entry is_store) entries) w.image.calls
run_calls = run_counts (λ image. image.calls) (λ operation failed. true) all_count

pub run_flushes : (w : WorldState) (entries : List SettleEntry) (v : WorldState) → Run WorldStep w entries v
    → v.image.flushes ≡ count_after (count_by (in_entry is_flush) entries) w.image.flushes
run_flushes = run_counts (λ image. image.flushes) (λ operation failed. operation == 3) flushes_count

pub run_writes : (w : WorldState) (entries : List SettleEntry) (v : WorldState) → Run WorldStep w entries v
    → v.image.writes ≡ count_after (count_by (in_entry is_write) entries) w.image.writes
run_writes = run_counts (λ image. image.writes) (λ operation failed. operation == 2) writes_count

-- A COUNT of few is exact, and one of some isn't 0
pub few_counted : (n : ℕ) → n ≤ last_count → count_after n 0 ≡ n
few_counted zero few = refl
few_counted (suc n) few =
    let before : count_after n 0 ≡ n = few_counted n (omega (arith, few)) in
    ap next_count before ∙ omega (arith, few)

never_counted : (n count : ℕ) → count_after n count ≡ 0 → n ≡ 0
never_counted zero count none = refl
never_counted (suc n) count none = absurd (omega (arith, none))

pub none_stored : (w : WorldState) (entries : List SettleEntry) (v : WorldState) → Run WorldStep w entries v → v.image.faults ≡ 0 → count_by (in_entry is_failed_store) entries ≡ 0
none_stored w entries v run none = never_counted (count_by (in_entry is_failed_store) entries) w.image.faults (sym (run_faults w entries v run) ∙ none)
