-- What bytes decode to.
use Rattle.std.specs.Prelude.{◌≡◌, ℕ, List, Some, Result, Ok, Err, IfOk, IfErr}
use Rattle.vio_tag.specs.declared.message.Message.{Message}
use Rattle.vio_tag.specs.declared.message.TagFault.{TagFault}
use Rattle.vio_tag.specs.Fault.{first_fault}
use Rattle.vio_tag.specs.Form.{IsWellFormed}
use Rattle.vio_tag.specs.Spelling.{SpellsMessage}

-- the bytes spell the message, or the fault is their first
pub record Decodes (bytes : List ℕ) (result : Result Message TagFault) : Type 0 where
  pub message : IfOk result (λ message. IsWellFormed message × SpellsMessage bytes message)
  pub fault : IfErr result (λ fault. first_fault bytes ≡ Some fault)

-- what an answer comes to with the message that was written
abbrev pub decoded : {U : Type 0} → Result U TagFault → Message → Result Message TagFault
decoded (Ok done) message = Ok message
decoded (Err fault) message = Err fault
