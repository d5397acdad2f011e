-- What a script without disturbance means: it keeps a content and a list of requests that wait, and nothing else.
use Rattle.std.specs.Prelude.{ℕ, ◌+◌, ◌*◌, Bool, true, false, nat_le, List, [], ◌∷◌, ◌++◌, length, take, drop, Option, Some, None, codes, decimal}
use Rattle.std.specs.List.{range_with_len}
use Rattle.vdisk_msg.specs.declared.request.Request.{Request}
use Rattle.vdisk_msg.specs.declared.request.Request.TheVariants.{Read, Write, Flush}
use Rattle.domain_script.specs.Declarations.{Declared}
use Rattle.domain_script.specs.declared.event.DiskDecl.{DiskDecl}
use Rattle.domain_script.specs.declared.event.Event.{Event}
use Rattle.domain_script.specs.declared.event.Event.TheVariants.{Issue, Settle}
use Rattle.disk_law.specs.Requests.{Defect, BadCount, BadRange, defect, after_request}
use Rattle.kept_requests.specs.BlockWord.{blocks_text}

-- what has become of a disk between two lines
pub record Plain : Type 0 where
  -- the bytes on the disk
  pub content : List ℕ
  -- the requests that wait, in order: at most as many as the ring has slots
  pub waiting : List Request
  -- how many were completed: the id of the first that waits
  pub completed : ℕ
  -- the lines that were written
  pub text : List ℕ

-- nothing was asked yet
abbrev pub untouched : List ℕ → Plain
untouched content = record { content = content; waiting = []; completed = 0; text = [] }

-- what such a script declares: one disk, and no port
abbrev pub one_disk : DiskDecl → Declared
one_disk disk = record { disks = disk ∷ []; ports = [] }

abbrev pub name_text : DiskDecl → List ℕ
name_text disk = take disk.name.len disk.name.bytes

-- the line of a request that has a defect, or else finds the ring full
abbrev pub refusal_line : DiskDecl → Option Defect → Bool → Option (List ℕ)
refusal_line disk (Some BadCount) full = Some (codes "refused " ++ name_text disk ++ codes " count\n")
refusal_line disk (Some BadRange) full = Some (codes "refused " ++ name_text disk ++ codes " range\n")
refusal_line disk None true = Some (codes "full " ++ name_text disk ++ codes "\n")
refusal_line disk None false = None

-- a request is refused by a line, or it waits
abbrev pub asked : Plain → Request → Option (List ℕ) → Plain
asked p request (Some line) = record p { text = p.text ++ line }
asked p request None = record p { waiting = p.waiting ++ request ∷ [] }

abbrev pub operation_word : Request → List ℕ
operation_word (Read block count) = codes " read"
operation_word (Write block count fill) = codes " write"
operation_word Flush = codes " flush"

-- the words of the blocks that a request reads from a content
abbrev pub given_text : List ℕ → Request → List ℕ
given_text content (Read block count) = blocks_text (take (512 * count) (drop (512 * block) content))
given_text content (Write block count fill) = []
given_text content Flush = []

-- the line of a request that is completed over a content
abbrev pub done_line : DiskDecl → ℕ → List ℕ → Request → List ℕ
done_line disk id content request = codes "done " ++ name_text disk ++ codes " " ++ decimal id ++ operation_word request ++ codes " 0" ++ given_text content request ++ codes "\n"

-- the first request that waits is completed, and these wait after it
abbrev pub complete : DiskDecl → Plain → Request → List Request → Plain
complete disk p request behind = record { content = after_request p.content request; waiting = behind; completed = p.completed + 1; text = p.text ++ done_line disk p.completed p.content request }

-- one after another, these are completed
abbrev pub complete_all : DiskDecl → Plain → List Request → Plain
complete_all disk p [] = p
complete_all disk p (request ∷ requests) = complete_all disk (complete disk p request requests) requests

abbrev pub settled : Plain → Plain
settled p = record p { text = p.text ++ codes "settled\n" }

abbrev pub plain_line : DiskDecl → Plain → Event → Plain
plain_line disk p (Issue number request) = asked p request (refusal_line disk (defect disk.blocks request) (nat_le disk.ring (length p.waiting)))
plain_line disk p Settle = settled (complete_all disk p p.waiting)
plain_line disk p other = p

abbrev pub plain_run : DiskDecl → Plain → List Event → Plain
plain_run disk p [] = p
plain_run disk p (event ∷ events) = plain_run disk (plain_line disk p event) events

-- the line that ends the text of so many lines
abbrev pub plain_end : ℕ → Plain → List ℕ
plain_end lines p =
    codes "end lines=" ++ decimal lines ++ codes " accepted=" ++ decimal (p.completed + length p.waiting) ++ codes " done=" ++ decimal p.completed
    ++ codes " pending=" ++ decimal (length p.waiting) ++ codes " resets=0 frames=0 status=0\n"

-- the whole text of a script over a content
abbrev pub plain_text : DiskDecl → List ℕ → List Event → List ℕ
plain_text disk content events = (plain_run disk (untouched content) events).text ++ plain_end (length events) (plain_run disk (untouched content) events)

-- what it leaves on the disk
abbrev pub plain_content : DiskDecl → List ℕ → List Event → List ℕ
plain_content disk content events = (plain_run disk (untouched content) events).content

-- the ids of the requests that it completes: from 0 on
abbrev pub plain_ids : DiskDecl → List ℕ → List Event → List ℕ
plain_ids disk content events = range_with_len 0 (plain_run disk (untouched content) events).completed
