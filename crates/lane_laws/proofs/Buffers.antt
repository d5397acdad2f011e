-- The buffers of slots: what is written to one leaves the others, and what requests that are pending together have are apart.
use Rattle.std.proofs.Common.{◌≡◌, ◌≢◌, ℕ, ◌+◌, ◌*◌, ◌%◌, ◌<◌, ◌≤◌, List, length, arith}
use Rattle.vio_bytes.proofs.Ranges.{range_at-put_at_outside}
use Rattle.vio_bytes.specs.Place.{put_at}
use Rattle.vio_bytes.specs.Range.{range_at}

-- the slots of two places of one turn
pub other_slot : (slots completed i j : ℕ) → i < j → j < i + slots → (completed + i) % slots ≢ (completed + j) % slots
other_slot slots completed i j less turn same = grind arith

-- what is put into one buffer leaves another
pub other_buffer : (slots a b p n q : ℕ) (piece buffers : List ℕ) → a ≢ b → b < slots → 32768 * slots ≤ length buffers → 32768 * a ≤ p → p + n ≤ 32768 * a + 32768 → 32768 * b ≤ q
    → q + length piece ≤ 32768 * b + 32768 → range_at p n (put_at q piece buffers) ≡ range_at p n buffers
other_buffer slots a b p n q piece buffers apart b_below room from within start fits = grind (arith, range_at-put_at_outside)
