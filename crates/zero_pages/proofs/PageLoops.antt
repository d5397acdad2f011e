-- Reading and writing page by page.
use Rattle.std.proofs.Common.{◌≡◌, ℕ, ◌+◌, ◌-◌, ◌≤◌, List, ◌++◌, length, take, drop, sym, ap, ◌∙◌, arith, append_assoc, length-append}
use Rattle.std.proofs.lemmas.List.{drop-drop, length-drop, length-take-le, take_at}
use Rattle.std.proofs.Math.Seq.{take-add}
use borrow.Rule.Slice.PartMut.{put_mid}
use Rattle.vio_bytes.specs.Place.{put_at}
use Rattle.vio_bytes.specs.Range.{range_at}
use Rattle.vio_bytes.proofs.Putting.{length-put_at}
use Rattle.vio_bytes.proofs.Ranges.{length-range_at, put_at-put_at_next, range_at-add}

-- the part of a slice from one place to another
pub part_long : (done k : ℕ) (bytes : List ℕ) → done + k ≤ length bytes → length (take (done + k - done) (drop done bytes)) ≡ k
part_long done k bytes room =
    let less : done + k - done ≡ k = omega arith in
    length-take-le (done + k - done) (drop done bytes) (omega (arith, length-drop done bytes)) ∙ less

-- a part that was written is a write
mid_is : (done k : ℕ) (buf piece : List ℕ) → length piece ≡ k → put_mid done (done + k - done) buf piece ≡ put_at done piece buf
mid_is done k buf piece long =
    let less : done + k - done ≡ length piece = omega arith in
    ap (λ (n : ℕ). take done buf ++ (piece ++ drop n (drop done buf))) less ∙ ap (λ (xs : List ℕ). take done buf ++ (piece ++ xs)) (drop-drop (length piece) done buf)

-- what was read of one page, for a loop that has read so much
pub record ReadsOn (pages buf new : List ℕ) (at next : ℕ) : Type 0 where
  pub long : length new ≡ length buf
  pub moved : take next new ≡ range_at at next pages

pub reads_on : (pages buf piece : List ℕ) (at done k : ℕ) → done + k ≤ length buf → at + length buf ≤ length pages
    → piece ≡ range_at (at + done) (length (take (done + k - done) (drop done buf))) pages → take done buf ≡ range_at at done pages
    → ReadsOn pages buf (put_mid done (done + k - done) buf piece) at (done + k)
reads_on pages buf piece at done k room within is before =
    let piece_is : piece ≡ range_at (at + done) k pages = is ∙ ap (λ (n : ℕ). range_at (at + done) n pages) (part_long done k buf room) in
    let piece_long : length piece ≡ k = ap length piece_is ∙ length-range_at (at + done) k pages (omega arith) in
    let mid : put_mid done (done + k - done) buf piece ≡ put_at done piece buf = mid_is done k buf piece piece_long in
    let rest : List ℕ = drop (done + length piece) buf in
    let front_long : length (take done buf ++ piece) ≡ done + k = length-append (take done buf) piece ∙ omega (arith, length-take-le done buf (omega arith), piece_long) in
    record {
      long = ap length mid ∙ length-put_at done piece buf (omega (arith, piece_long, room));
      moved = ap (λ (l : List ℕ). take (done + k) l) (mid ∙ sym (append_assoc (take done buf) piece rest))
          ∙ take_at (take done buf ++ piece) rest (done + k) front_long
          ∙ ap (λ (l : List ℕ). l ++ piece) before
          ∙ ap (λ (l : List ℕ). range_at at done pages ++ l) piece_is
          ∙ sym (range_at-add at done k pages);
    }

-- what was written of one page, for a loop that has written so much
pub record WritesOn (old new bytes : List ℕ) (at next : ℕ) : Type 0 where
  pub long : length new ≡ length old
  pub written : new ≡ put_at at (take next bytes) old

pub writes_on : (old pages new bytes : List ℕ) (at done k : ℕ) → done + k ≤ length bytes → at + length bytes ≤ length old
    → new ≡ put_at (at + done) (take (done + k - done) (drop done bytes)) pages → pages ≡ put_at at (take done bytes) old
    → WritesOn old new bytes at (done + k)
writes_on old pages new bytes at done k room within is before =
    let piece : List ℕ = take (done + k - done) (drop done bytes) in
    let less : done + k - done ≡ k = omega arith in
    let front_long : length (take done bytes) ≡ done = length-take-le done bytes (omega arith) in
    let piece_long : length piece ≡ k = part_long done k bytes room in
    let joined : take done bytes ++ piece ≡ take (done + k) bytes = ap (λ (n : ℕ). take done bytes ++ take n (drop done bytes)) less ∙ sym (take-add done k bytes) in
    let written : new ≡ put_at at (take (done + k) bytes) old =
    is ∙ ap (λ (l : List ℕ). put_at (at + done) piece l) before
    ∙ put_at-put_at_next at (at + done) (take done bytes) piece old (ap (λ (n : ℕ). at + n) (sym front_long)) (omega (arith, piece_long, room, within))
    ∙ ap (λ (l : List ℕ). put_at at l old) joined in
    record {
      long = ap length written ∙ length-put_at at (take (done + k) bytes) old (omega (arith, length-take-le (done + k) bytes room, room, within));
      written = written;
    }
