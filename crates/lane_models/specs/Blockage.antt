-- Whether an end found no room for its next packet since it last put one or began anew, counted from its moves; and what it has still to send.
use Rattle.std.specs.Prelude.{◌≡◌, ℕ, ◌≤◌, Bool, true, false, is_none, not, ◌&&◌, ◌||◌, List, [], drop, length, Option, Some, None}
use Rattle.ldc_link.specs.Putting.{owes}
use Rattle.ldc_queue.specs.Messages.{is_empty}
use Rattle.vio_tag.specs.declared.message.Message.{Message}
use Rattle.vio_tag.specs.Spelling.{canonical}
use Rattle.lane_models.specs.EndCore.{Begins, EndCore, EndMove, Fails, Hears, Renews, Says, Stays, Waits, holds}

pub data Blockage : Type 0 where
  -- it didn't
  Clear : Blockage
  -- it did, and heard nothing since
  Stuck : Blockage
  -- it did, and went on to hear
  StuckBefore : Blockage

abbrev pub is_stuck : Blockage → Bool
is_stuck Clear = false
is_stuck Stuck = true
is_stuck StuckBefore = true

-- after a packet for which there was no room, and after one that was heard
abbrev pub stuck : Blockage → Blockage
stuck Clear = Stuck
stuck Stuck = Stuck
stuck StuckBefore = StuckBefore

abbrev pub hearing : Blockage → Blockage
hearing Clear = Clear
hearing Stuck = StuckBefore
hearing StuckBefore = StuckBefore

abbrev pub blockage_after : Blockage → EndMove → Blockage
blockage_after before Begins = Clear
blockage_after before Renews = Clear
blockage_after before (Fails cause packet) = Clear
blockage_after before (Hears packet opens) = hearing before
blockage_after before (Says packet opens) = Clear
blockage_after before Waits = stuck before
blockage_after before Stays = before

-- An end is stuck with a message of its session where its handshake owes nothing; and where it heard something since, which it doesn't while that
-- owes a message.
abbrev pub is_stuck_with_own : Blockage → Option Message → Bool
is_stuck_with_own Clear owed = false
is_stuck_with_own Stuck owed = is_none owed
is_stuck_with_own StuckBefore owed = true

-- AN END IS SO: where it is stuck its link owes a packet; where its link holds a message of which nothing was put, it is stuck; and that is one of
-- its session, of one part, exactly where the session is open and it is stuck with such a one
pub record EndSends (c : EndCore) (blockage : Blockage) : Type 0 where
  pub owing : is_stuck blockage ≡ true → owes c.link ≡ true
  pub fresh : c.link.begun ≡ false → 1 ≤ length c.link.to_send → is_stuck blockage ≡ true
  pub short : holds c.link ≡ true → c.own ≡ true → length c.link.to_send ≤ 56
  pub own : holds c.link ≡ true → c.own ≡ (c.is_open && is_stuck_with_own blockage c.handshake.owed)

-- WHAT IS LEFT TO SEND of a message of which this was put: where a part was put, or the end is stuck with it, all that wasn't
abbrev pub has_begun : List ℕ → Blockage → Bool
has_begun half blockage = not (is_empty half) || is_stuck blockage

abbrev pub left_if : Bool → List ℕ → List ℕ → List ℕ
left_if true half message = drop (length half) message
left_if false half message = []

abbrev pub left_of : List ℕ → Blockage → List ℕ → List ℕ
left_of half blockage message = left_if (has_begun half blockage) half message

abbrev pub owed_left : List ℕ → Blockage → Option Message → List ℕ
owed_left half blockage None = []
owed_left half blockage (Some message) = left_of half blockage (canonical message)
