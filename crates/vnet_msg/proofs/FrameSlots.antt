-- The descriptor and the buffer of a frame.
use Rattle.std.proofs.Common.{◌≡◌, ℕ, ◌+◌, ◌-◌, ◌<◌, ◌≤◌, List, length, replicate, true, refl, arith}
use Rattle.std.proofs.lemmas.Bool.Decides.{nat_tests}
use Rattle.std.proofs.lemmas.List.{length-append, length-replicate, take_at}
use Rattle.vnet_msg.specs.Descriptor.{HasWidths}
use Rattle.vnet_msg.specs.Frames.{IsFrame, frame_buffer, frame_desc, frame_in, holds_frame, moved_size}

pub holds : (frame : List ℕ) → IsFrame frame → (slot : ℕ) → holds_frame (frame_desc slot (length frame)) ≡ true
holds frame is slot = let least = is.least in let most = is.most in grind (arith, nat_tests)

pub has_widths : (frame : List ℕ) → IsFrame frame → (slot : ℕ) → slot < 64 → HasWidths (frame_desc slot (length frame))
has_widths frame is slot below =
    let most = is.most in
    record {
      head = record { state = omega arith; ack = omega arith; size = omega arith; count = omega arith };
      three = refl;
      cookies = (record { address = omega arith; size = omega arith }, (record { address = omega arith; size = omega arith }, (record { address = omega arith; size = omega arith }, tt)));
    }

-- the bytes that are moved hold the six zeros and the frame
pub moved_holds : (n : ℕ) → 6 + n ≤ moved_size n
moved_holds n = omega arith

pub long : (frame : List ℕ) → length (frame_buffer frame) ≡ moved_size (length frame)
long frame =
    omega (
      arith,
      moved_holds (length frame),
      length-append frame (replicate (moved_size (length frame) - (6 + length frame)) 0),
      length-replicate {A = ℕ} (moved_size (length frame) - (6 + length frame)) 0,
    )

pub reads : (frame : List ℕ) → frame_in (length frame) (frame_buffer frame) ≡ frame
reads frame = take_at frame (replicate (moved_size (length frame) - (6 + length frame)) 0) (length frame) refl
