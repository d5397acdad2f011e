-- What the bytes that a link has heard are: those of half a message, or of a whole one.
use Rattle.std.specs.Prelude.{ℕ, Bool, true, false, List, [], Option, Some, None, Result, Ok, Err}
use Rattle.vio_tag.specs.declared.cause.Cause.{Cause}
use Rattle.ldc_link.specs.LinkState.{LinkState}
use Rattle.ldc_link.specs.Taking.{Heard, LinkTake, Unheard}

abbrev pub half_of : Bool → List ℕ → List ℕ
half_of true heard = []
half_of false heard = heard

abbrev pub message_of : Bool → List ℕ → Option (List ℕ)
message_of true heard = Some heard
message_of false heard = None

-- the answer of a call that takes
abbrev pub answer_of : {U : Type 0} → Result U Cause → LinkState → LinkTake
answer_of (Ok done) k = Heard k
answer_of (Err cause) k = Unheard cause
