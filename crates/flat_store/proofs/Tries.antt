-- How often a file was called until a call did what was asked or failed.
use Rattle.std.proofs.Common.{◌≡◌, ◌≢◌, ℕ, suc, ◌+◌, ◌<◌, Bool, if◌then◌else◌, Result, Ok, Err, OnOk, OnErr, inl, inr, sym, ap, ◌∙◌, subst, eq-eqb, ne_eqb, arith}
use Rattle.vio_io.specs.Causes.{count_after, next_count}
use Rattle.vio_io.specs.declared.source.Failed.{Failed}
use Rattle.flat_store.specs.Files.{FileCalls, FewInterrupted, Lacked, MovedOnce, SyncedOnce, after_move, one_failed, one_moved, one_synced}

-- one more interruption
pub interrupted_more : (n old mid new : ℕ) → mid ≡ count_after n old → new ≡ next_count mid → new ≡ count_after (n + 1) old
interrupted_more n old mid new is next =
    let more : n + 1 ≡ suc n = omega arith in
    next ∙ ap next_count is ∙ ap (λ (m : ℕ). count_after m old) (sym more)

-- what the calls came to while they were interrupted
pub record OnlyInterrupted (times : ℕ) (old now : FileCalls) : Type 0 where
  pub moved : now.moved ≡ old.moved
  pub synced : now.synced ≡ old.synced
  pub failed : now.failed ≡ old.failed
  pub interrupted : now.interrupted ≡ count_after times old.interrupted

few : (times : ℕ) (old now new : FileCalls) → times < 10000 → OnlyInterrupted times old now → new.interrupted ≡ now.interrupted → FewInterrupted old.interrupted new.interrupted
few times old now new less only same = record { times = times; often = less; count = same ∙ only.interrupted }

-- then one moved all that was asked
moved_then : (times : ℕ) (old now new : FileCalls) → times < 10000 → OnlyInterrupted times old now → new ≡ one_moved now → MovedOnce old new
moved_then times old now new less only is = record {
  moved = ap (λ (c : FileCalls). c.moved) is ∙ ap next_count only.moved;
  synced = ap (λ (c : FileCalls). c.synced) is ∙ only.synced;
  failed = ap (λ (c : FileCalls). c.failed) is ∙ only.failed;
  interrupted = few times old now new less only (ap (λ (c : FileCalls). c.interrupted) is);
}

-- or one synced what was written
pub synced_then : (times : ℕ) (old now new : FileCalls) → times < 10000 → OnlyInterrupted times old now → new ≡ one_synced now → SyncedOnce old new
synced_then times old now new less only is = record {
  moved = ap (λ (c : FileCalls). c.moved) is ∙ only.moved;
  synced = ap (λ (c : FileCalls). c.synced) is ∙ ap next_count only.synced;
  failed = ap (λ (c : FileCalls). c.failed) is ∙ only.failed;
  interrupted = few times old now new less only (ap (λ (c : FileCalls). c.interrupted) is);
}

-- or one failed
pub failed_then : (times : ℕ) (old now new : FileCalls) → times < 10000 → OnlyInterrupted times old now → new ≡ one_failed now → Lacked old new
failed_then times old now new less only is = record {
  moved = ap (λ (c : FileCalls). c.moved) is ∙ only.moved;
  synced = ap (λ (c : FileCalls). c.synced) is ∙ only.synced;
  why = inl (ap (λ (c : FileCalls). c.failed) is ∙ ap next_count only.failed, few times old now new less only (ap (λ (c : FileCalls). c.interrupted) is));
}

-- or none was tried any more
pub lacked_all : (times : ℕ) (old now : FileCalls) → times ≡ 10000 → OnlyInterrupted times old now → Lacked old now
lacked_all times old now all only = record {
  moved = only.moved;
  synced = only.synced;
  why = inr (only.failed, record { times = times; often = all; count = only.interrupted });
}

-- a call that moved something, by whether that was all
pub moved_whole : (result : Result (Unit {0}) Failed) (times : ℕ) (old now new : FileCalls) (moved wanted : ℕ) → times < 10000 → OnlyInterrupted times old now
    → new ≡ after_move wanted (Ok moved) now → OnOk result (moved ≡ wanted) → OnOk result (MovedOnce old new)
moved_whole (Ok done) times old now new moved wanted less only is all =
    moved_then times old now new less only (subst (λ (b : Bool). new ≡ (if b then one_moved now else one_failed now)) (eq-eqb moved wanted all) is)
moved_whole (Err e) times old now new moved wanted less only is all = tt

pub moved_less : (result : Result (Unit {0}) Failed) (times : ℕ) (old now new : FileCalls) (moved wanted : ℕ) → times < 10000 → OnlyInterrupted times old now
    → new ≡ after_move wanted (Ok moved) now → OnErr result (moved ≢ wanted) → OnErr result (Lacked old new)
moved_less (Ok done) times old now new moved wanted less only is other = tt
moved_less (Err e) times old now new moved wanted less only is other =
    failed_then times old now new less only (subst (λ (b : Bool). new ≡ (if b then one_moved now else one_failed now)) (ne_eqb moved wanted other) is)
