-- A descriptor is fetched, and gets its status at the end.
use Rattle.std.specs.Prelude.{◌≡◌, ℕ, List, Option, Some, None, Result, Ok, Err}
use Rattle.vio_tag.specs.declared.cause.Cause.{Cause}
use Rattle.lane_models.specs.ServerState.{Ends, ServerState, Work}
use Rattle.cookie_copy.specs.Reach.{Reach}
use Rattle.lane_models.specs.ServerWork.{CanFetch, EndFails, FetchFails, header_of, slot_fetched, with_done, with_word, word_fault}

-- a descriptor is fetched and marked, or why not
pub record Fetched (s : ServerState) (reach : Reach) (slot : ℕ) (bytes : List ℕ) (new : List ℕ) : Type 0 where
  pub fetched : CanFetch s reach slot
  pub marked : word_fault s reach slot 0 ≡ None
  pub bytes_are : bytes ≡ slot_fetched s reach slot
  pub marked_is : new ≡ with_word s reach slot 0 (header_of 3 bytes)

abbrev pub FetchedOr : Result (List ℕ) Cause → ServerState → Reach → ℕ → List ℕ → Type 0
FetchedOr (Ok bytes) s reach slot new = Fetched s reach slot bytes new
FetchedOr (Err cause) s reach slot new = FetchFails s reach slot cause × (new ≡ reach.memory)

-- a descriptor gets its status and is DONE, or why not
pub record Ended (s : ServerState) (reach : Reach) (slot : ℕ) (work : Work) (status : ℕ) (new : List ℕ) : Type 0 where
  pub status_written : word_fault s reach slot 16 ≡ None
  pub done_written : word_fault s reach slot 0 ≡ None
  pub written_is : new ≡ with_done s reach slot work status

abbrev pub EndedOr : {U : Type 0} → Result U Cause → ServerState → Reach → ℕ → Work → ℕ → List ℕ → Type 0
EndedOr (Ok done) s reach slot work status new = Ended s reach slot work status new
EndedOr (Err cause) s reach slot work status new = EndFails s reach slot work status cause new

-- a descriptor is in work, and is to get this status
abbrev pub IsEnding : Option Work → ℕ → Type 0
IsEnding None status = ⊥
IsEnding (Some work) status = work.progress ≡ Ends status

abbrev pub EndedFor : {U : Type 0} → Option Work → Result U Cause → ServerState → Reach → ℕ → ℕ → List ℕ → Type 0
EndedFor None answer s reach slot status new = ⊥
EndedFor (Some work) answer s reach slot status new = EndedOr answer s reach slot work status new
