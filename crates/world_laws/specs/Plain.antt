-- A PLAIN LIST of requests over an image: what a request and a completion do to it, and what is shown of that.
use Rattle.std.specs.Prelude.{ℕ, ◌+◌, ◌*◌, Bool, true, false, nat_le, List, [], ◌∷◌, ◌++◌, length, take, drop, Option, Some, None}
use Rattle.vdisk_msg.specs.declared.request.Request.{Request}
use Rattle.vdisk_msg.specs.declared.request.Request.TheVariants.{Flush, Read, Write}
use Rattle.vdisk_msg.specs.Requests.{Defect, after_request, defect, operation_of}
use Rattle.lane_models.specs.DiskEvent.{Asks, Done, Full, Refused, Works}
use Rattle.lane_models.specs.LaneState.{Shape}
use Rattle.world_laws.specs.Settle.{OfLane, SettleEntry}

pub record Plain : Type 0 where
  -- the bytes of the whole image
  pub content : List ℕ
  -- the requests that wait, in order
  pub waiting : List Request
  -- how many were completed: the id of the first that waits
  pub completed : ℕ

-- nothing was asked yet
abbrev pub untouched : List ℕ → Plain
untouched content = record { content = content; waiting = []; completed = 0 }

-- A REQUEST is refused for its defect, or else finds the ring full, or else it waits and nothing is shown
abbrev pub answer : Request → Option Defect → Bool → List SettleEntry
answer request (Some why) full = OfLane 0 (Asks (Refused why request)) ∷ []
answer request None true = OfLane 0 (Asks (Full request)) ∷ []
answer request None false = []

abbrev pub asked : Plain → Request → Option Defect → Bool → Plain
asked p request (Some why) full = p
asked p request None true = p
asked p request None false = record p { waiting = p.waiting ++ request ∷ [] }

-- as many wait as the ring has slots
abbrev pub is_full : Shape → Plain → Bool
is_full shape p = nat_le shape.slots (length p.waiting)

-- A COMPLETION gives the blocks that its request reads from the content, which has the writes before it
abbrev pub given : List ℕ → Request → List ℕ
given content (Read block count) = take (512 * count) (drop (512 * block) content)
given content (Write block count fill) = []
given content Flush = []

abbrev pub completion : Plain → Request → SettleEntry
completion p request = OfLane 0 (Works (Done p.completed (operation_of request) 0 (given p.content request)))

-- the first request that waits is completed, and these wait after it
abbrev pub complete : Plain → Request → List Request → Plain
complete p request behind = record { content = after_request p.content request; waiting = behind; completed = p.completed + 1 }

-- one after another, these are completed
abbrev pub complete_all : Plain → List Request → Plain
complete_all p [] = p
complete_all p (request ∷ behind) = complete_all (complete p request behind) behind

abbrev pub completions : Plain → List Request → List SettleEntry
completions p [] = []
completions p (request ∷ behind) = completion p request ∷ completions (complete p request behind) behind
