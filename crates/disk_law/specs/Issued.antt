-- The requests that were accepted and those that were completed, as lists over what happened to a disk.
use Rattle.std.specs.Prelude.{◌≡◌, ℕ, ◌-◌, ◌<◌, List, [], ◌∷◌, ◌++◌, length, Some, None, slice_get}
use Rattle.vdisk_msg.specs.declared.request.Request.{Request}
use Rattle.disk_law.specs.Requests.{defect, operation_of}
use Rattle.disk_law.specs.ListStep.{ListEvent, Accepted, Full, Refused, Done, Rested}

-- the accepted requests: the i-th, from 0, has the id i
abbrev pub issued : List ListEvent → List Request
issued [] = []
issued (Accepted id request ∷ es) = request ∷ issued es
issued (Full request ∷ es) = issued es
issued (Refused why request ∷ es) = issued es
issued (Done id operation status bytes ∷ es) = issued es
issued (Rested ∷ es) = issued es

-- the ids of the completed requests
abbrev pub completed : List ListEvent → List ℕ
completed [] = []
completed (Accepted id request ∷ es) = completed es
completed (Full request ∷ es) = completed es
completed (Refused why request ∷ es) = completed es
completed (Done id operation status bytes ∷ es) = id ∷ completed es
completed (Rested ∷ es) = completed es

-- how many were accepted and are not completed
abbrev pub pending_count : List ListEvent → ℕ
pending_count es = length (issued es) - length (completed es)

-- Each completion has the number of those before it as its id, and the request of that id was accepted before it and
-- is what it says: each accepted request completes at most once, in the order in which they were accepted.
pub record CompletesNext (before : List ListEvent) (id operation : ℕ) : Type 0 where
  pub next : id ≡ length (completed before)
  pub request : Request
  pub accepted_before : slice_get (issued before) id ≡ Some request
  pub operation_is : operation ≡ operation_of request

abbrev pub CompletesOnceInOrder : List ListEvent → Type 0
CompletesOnceInOrder es = (before after : List ListEvent) (id operation status : ℕ) (bytes : List ℕ) → es ≡ before ++ Done id operation status bytes ∷ after → CompletesNext before id operation

-- what a request gets from a disk of so many blocks and a ring of so many slots, after what happened before
abbrev pub Admits : ℕ → ℕ → List ListEvent → ListEvent → Type 0
Admits blocks ring before (Accepted id request) = (defect blocks request ≡ None) × (pending_count before < ring) × (id ≡ length (issued before))
Admits blocks ring before (Full request) = (defect blocks request ≡ None) × (pending_count before ≡ ring)
Admits blocks ring before (Refused why request) = defect blocks request ≡ Some why
Admits blocks ring before (Done id operation status bytes) = Unit {0}
Admits blocks ring before Rested = Unit {0}

-- A request is refused for its count, else for its range; else it finds no room exactly where as many are pending as the
-- ring has slots; else it is accepted with the next id.
abbrev pub Admission : ℕ → ℕ → List ListEvent → Type 0
Admission blocks ring es = (before after : List ListEvent) (event : ListEvent) → es ≡ before ++ event ∷ after → Admits blocks ring before event
