-- The words of an entry's line.
use Rattle.std.specs.Prelude.{ℕ, Bool, true, false, ◌==◌, if◌then◌else◌, List, [], Option, Some, None, codes}
use Rattle.cookie_copy.specs.declared.fault.CopyFault.{CopyFault}
use Rattle.cookie_copy.specs.Reach.{copy_number}
use Rattle.vio_tag.specs.CauseText.{copy_word}
use Rattle.domain_script.specs.declared.event.Side.{Side}
use Rattle.domain_script.specs.declared.event.Side.TheVariants.{Client, Server}
use Rattle.ldom_entries.specs.declared.entry.Why.{Why}
use Rattle.ldom_entries.specs.declared.entry.Why.TheVariants.{Count, Range, Length, Groups}

-- what stands after a lane's name for an end: `.c` is the client's, `.s` the server's
abbrev pub side_text : Side → List ℕ
side_text Client = codes ".c"
side_text Server = codes ".s"

-- why a request was refused, or a poke, a frame or a group
abbrev pub why_word : Why → List ℕ
why_word Count = codes "count"
why_word Range = codes "range"
why_word Length = codes "length"
why_word Groups = codes "groups"

-- 1 reads, 2 writes, 3 flushes
abbrev pub operation_word : ℕ → List ℕ
operation_word operation = if operation == 1 then codes "read" else if operation == 2 then codes "write" else codes "flush"

-- how a copy ended: the word of its fault, where it has one
abbrev pub fault_word : Option CopyFault → List ℕ
fault_word None = codes "ok"
fault_word (Some fault) = copy_word (copy_number fault)

-- how a call of the store ended
abbrev pub failed_word : Bool → List ℕ
failed_word true = codes "failed"
failed_word false = codes "ok"

-- after a packet by which the session opened
abbrev pub opens_text : Bool → List ℕ
opens_text true = codes " opens"
opens_text false = []
