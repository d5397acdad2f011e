-- What the first slot is that isn't DONE, where one is.
use Rattle.std.specs.Prelude.{◌≡◌, ◌≢◌, ℕ, ◌+◌, ◌%◌, ◌<◌, List}
use Rattle.vio_tag.specs.declared.cause.Cause.{Cause}
use Rattle.vio_tag.specs.declared.cause.Cause.TheVariants as the_cause
use Rattle.dring.specs.Slots.{done_state}
use Rattle.lane_models.specs.NetEndTaking.{slot_state}

-- in a ring of so many slots, from a number on: all before it are DONE, and the cause names it with its state
pub record FirstUndone (slots : ℕ) (memory : List ℕ) (number count : ℕ) (cause : Cause) : Type 0 where
  pub place : ℕ
  pub named : place < count
  pub done : (j : ℕ) → j < place → slot_state ((number + j) % slots) memory ≡ done_state
  pub undone : slot_state ((number + place) % slots) memory ≢ done_state
  pub cause_is : cause ≡ the_cause.NotDone ((number + place) % slots) (slot_state ((number + place) % slots) memory)
