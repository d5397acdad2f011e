-- Bytes at the front of a room, and zeros after them: the word that a write repeats, requests that carry one, and the
-- frame that a line hands to a guest.
use Rattle.std.specs.Prelude.{◌≡◌, ◌-◌, ◌≤◌, length, drop, replicate}
use Rattle.script_words.specs.declared.spelled.Piece.{Piece}
pub use Rattle.vdisk_msg.specs.Fills.{IsFill, IsRequest}

-- 1 to 1,540 bytes, and zeros after them
pub record IsPiece (piece : Piece) : Type 0 where
  pub some : 1 ≤ piece.len
  pub most : piece.len ≤ 1540
  pub room : length piece.bytes ≡ 1540
  pub zeros : drop piece.len piece.bytes ≡ replicate (1540 - piece.len) 0
