-- What stands beside the headers of a journal.
use Rattle.std.specs.Prelude.{◌≡◌, ℕ, ◌+◌, List, [], ◌∷◌, Option, Some, None}
use Rattle.vdisk_msg.specs.declared.request.Request.{Request}
use Rattle.vio_tag.specs.declared.cause.Cause.{Cause}
use Rattle.kept_requests.specs.Bytes.{BytesState}
use Rattle.ldom_entries.specs.Beside.{Lists, join, nothing}
use Rattle.ldom_entries.specs.Whole.{AreKeptWhole}
use Rattle.ldom_entries.specs.declared.entry.Entry.{Entry}

pub record PartsState : Type 0 where
  pub lists : Lists
  -- for how many more entries the parts have room, whatever their kinds
  pub ready : ℕ

-- the parts of one more entry were put last
pub record PutsParts (s : PartsState) (more : Lists) (t : PartsState) : Type 0 where
  pub lists : t.lists ≡ join s.lists more
  pub wholes : AreKeptWhole more.wholes
  pub ready : t.ready + 1 ≡ s.ready

-- a number with a descriptor
abbrev pub with_descriptor : ℕ → List ℕ → Lists
with_descriptor n descriptor = record nothing { numbers = n ∷ []; descriptors = descriptor ∷ [] }

-- two numbers with the bytes of a read
abbrev pub with_read : ℕ → ℕ → BytesState → Lists
with_read n m bytes = record nothing { numbers = n ∷ m ∷ []; reads = bytes ∷ [] }

-- a number with a request
abbrev pub with_request : ℕ → Request → Lists
with_request n request = record nothing { numbers = n ∷ []; requests = request ∷ [] }

-- none or one
abbrev pub option_items : Option (List ℕ) → List (List ℕ)
option_items None = []
option_items (Some packet) = packet ∷ []

-- a number with the cause of a reset, and maybe the packet that it came by
abbrev pub with_cause : ℕ → Cause → Option (List ℕ) → Lists
with_cause n cause packet = record nothing { numbers = n ∷ []; packets = option_items packet; causes = cause ∷ [] }

-- a frame, with numbers
abbrev pub with_frame : List ℕ → List ℕ → Lists
with_frame numbers frame = record nothing { numbers = numbers; frames = frame ∷ [] }

-- an entry that is kept whole
abbrev pub only_whole : Entry → Lists
only_whole entry = record nothing { wholes = entry ∷ [] }
