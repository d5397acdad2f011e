-- Fronts of ranges of a file's bytes, where it tells them, and what its calls came to.
use Rattle.std.specs.Prelude.{◌≡◌, ℕ, ◌<◌, ◌==◌, ◌⊎◌, if◌then◌else◌, List, take, Option, Result, Ok, Err}
use Rattle.vio_io.specs.Causes.{count_after, next_count}
use Rattle.vio_io.specs.Stores.{ReadsRange, WritesRange}
use Rattle.flat_store.specs.declared.image_file.FileFault.{FileFault}
use Rattle.flat_store.specs.declared.image_file.FileFault.TheVariants.{Interrupted, Other}

-- the first n bytes of the buffer are those of the content from the place `at` on
abbrev pub ReadsFront : Option (List ℕ) → ℕ → ℕ → List ℕ → Type 0
ReadsFront content at n buf = ReadsRange content at (take n buf)

-- exactly the first n of these bytes were written, from the place `at` on
abbrev pub WritesFront : Option (List ℕ) → Option (List ℕ) → ℕ → ℕ → List ℕ → Type 0
WritesFront old new at n bytes = WritesRange old new at (take n bytes)

-- What the calls of a file came to, counted by kind: how many moved all that was asked, how many synced what was written,
-- how many moved less or failed, and how many were interrupted. A count stands still at last_count.
pub record FileCalls : Type 0 where
  pub moved : ℕ
  pub synced : ℕ
  pub failed : ℕ
  pub interrupted : ℕ

-- no call was made
abbrev pub no_call : FileCalls
no_call = record { moved = 0; synced = 0; failed = 0; interrupted = 0 }

abbrev pub one_moved : FileCalls → FileCalls
one_moved c = record c { moved = next_count c.moved }

abbrev pub one_synced : FileCalls → FileCalls
one_synced c = record c { synced = next_count c.synced }

abbrev pub one_failed : FileCalls → FileCalls
one_failed c = record c { failed = next_count c.failed }

abbrev pub one_interrupted : FileCalls → FileCalls
one_interrupted c = record c { interrupted = next_count c.interrupted }

abbrev pub after_fault : FileFault → FileCalls → FileCalls
after_fault Interrupted c = one_interrupted c
after_fault Other c = one_failed c

-- after a call that was asked to move so many bytes, by its answer
abbrev pub after_move : ℕ → Result ℕ FileFault → FileCalls → FileCalls
after_move wanted (Ok moved) c = if moved == wanted then one_moved c else one_failed c
after_move wanted (Err fault) c = after_fault fault c

-- after a call that was asked to sync what was written
abbrev pub after_sync : {A : Type 0} → Result A FileFault → FileCalls → FileCalls
after_sync (Ok done) c = one_synced c
after_sync (Err fault) c = after_fault fault c

-- how often in a row a call of a file is tried before its interruptions are a fault
abbrev pub most_tries : ℕ
most_tries = 10000

-- so often calls were interrupted, as far as the count goes
pub record WereInterrupted (Often : ℕ → Type 0) (old new : ℕ) : Type 0 where
  pub times : ℕ
  pub often : Often times
  pub count : new ≡ count_after times old

-- fewer calls than may be were interrupted, before one that wasn't
abbrev pub FewInterrupted : ℕ → ℕ → Type 0
FewInterrupted old new = WereInterrupted (λ times. times < most_tries) old new

-- all that may be made were
abbrev pub AllInterrupted : ℕ → ℕ → Type 0
AllInterrupted old new = WereInterrupted (λ times. times ≡ most_tries) old new

-- one call moved all that was asked, and no other did anything
pub record MovedOnce (old new : FileCalls) : Type 0 where
  pub moved : new.moved ≡ next_count old.moved
  pub synced : new.synced ≡ old.synced
  pub failed : new.failed ≡ old.failed
  pub interrupted : FewInterrupted old.interrupted new.interrupted

-- one call synced what was written, and no other did anything
pub record SyncedOnce (old new : FileCalls) : Type 0 where
  pub moved : new.moved ≡ old.moved
  pub synced : new.synced ≡ next_count old.synced
  pub failed : new.failed ≡ old.failed
  pub interrupted : FewInterrupted old.interrupted new.interrupted

-- why no call did what was asked: one moved less or failed, behind fewer that were interrupted, or all that may be made were
abbrev pub LackedSo : FileCalls → FileCalls → Type 0
LackedSo old new = ((new.failed ≡ next_count old.failed) × FewInterrupted old.interrupted new.interrupted)
    ⊎ ((new.failed ≡ old.failed) × AllInterrupted old.interrupted new.interrupted)

-- no call did what was asked, and this is why
pub record Lacked (old new : FileCalls) : Type 0 where
  pub moved : new.moved ≡ old.moved
  pub synced : new.synced ≡ old.synced
  pub why : LackedSo old new
