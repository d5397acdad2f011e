-- Bytes decode to one result.
use Rattle.std.proofs.Common.{◌≡◌, ℕ, List, Option, Some, None, Result, Ok, Err, ap}
use Rattle.vio_tag.specs.declared.message.Message.{Message}
use Rattle.vio_tag.specs.declared.message.TagFault.{TagFault}
use Rattle.vio_tag.specs.Decoding.{Decodes}
use Rattle.vio_tag.specs.Fault.{first_fault}
use Rattle.vio_tag.specs.Form.{HasWidths, IsWellFormed}
use Rattle.vio_tag.specs.Spelling.{SpellsMessage, canonical}
use Rattle.vio_tag.proofs.Canonical.{canonical_spells}
use Rattle.vio_tag.proofs.NoFault.{spelled_no_fault}
use Rattle.vio_tag.proofs.Same.{spelled_once}

some_is_none : {A : Type 0} (x : A) (o : Option A) → o ≡ Some x → o ≡ None → ⊥
some_is_none x o is none = cc

same_some : {A : Type 0} (x y : A) (o : Option A) → o ≡ Some x → o ≡ Some y → x ≡ y
same_some x y o is other = cc

-- bytes don't both spell a message and have a fault
pub never_both : (bytes : List ℕ) (message : Message) (fault : TagFault) → IsWellFormed message → SpellsMessage bytes message
    → first_fault bytes ≡ Some fault → ⊥
never_both bytes message fault form spelled first =
    some_is_none fault (first_fault bytes) first (spelled_no_fault bytes message form spelled)

-- what is spelled is the result
pub only_spelled : (bytes : List ℕ) (result : Result Message TagFault) → Decodes bytes result
    → (message : Message) → IsWellFormed message → SpellsMessage bytes message → result ≡ Ok message
only_spelled bytes (Ok found) is message form spelled = ap Ok (spelled_once bytes found message is.message.0 form is.message.1 spelled)
only_spelled bytes (Err fault) is message form spelled = absurd (never_both bytes message fault form spelled is.fault)

-- what is wrong first is the result
pub only_refused : (bytes : List ℕ) (result : Result Message TagFault) → Decodes bytes result
    → (fault : TagFault) → first_fault bytes ≡ Some fault → result ≡ Err fault
only_refused bytes (Ok found) is fault first = absurd (never_both bytes found fault is.message.0 is.message.1 first)
only_refused bytes (Err found) is fault first = ap Err (same_some found fault (first_fault bytes) is.fault first)

-- bytes decode to one result
pub one_result : (bytes : List ℕ) (one other : Result Message TagFault) → Decodes bytes one → Decodes bytes other → one ≡ other
one_result bytes one (Ok message) is other_is = only_spelled bytes one is message other_is.message.0 other_is.message.1
one_result bytes one (Err fault) is other_is = only_refused bytes one is fault other_is.fault

-- what spells a message decodes to it
pub spelled_decodes : (bytes : List ℕ) (message : Message) → IsWellFormed message → SpellsMessage bytes message
    → Decodes bytes (Ok message)
spelled_decodes bytes message form spelled = record { message = (form, spelled); fault = tt }

-- the canonical bytes of a message decode to it alone
pub decoded : (message : Message) (d : Result Message TagFault) → IsWellFormed message → HasWidths message
    → Decodes (canonical message) d → d ≡ Ok message
decoded message d form fits is = only_spelled (canonical message) d is message form (canonical_spells message form fits)
