use Rattle.std.proofs.Common.{ℕ, ◌≡◌, ◌+◌, ◌-◌, ◌≤◌, ◌++◌, List, true, length, map, take, sym, ap, subst, ◌∙◌, refl, arith}
use Rattle.std.proofs.lemmas.List.FromFn.{length-range_with_len, length-map-range_with_len}
use Rattle.std.specs.List.{list_all, range_with_len}
use borrow.Rule.Slice.PartMut.{put_mid}
use Rattle.cookie_copy.specs.Faults.{is_mapped}
use Rattle.cookie_copy.specs.Moved.{byte_of}
use Rattle.cookie_copy.proofs.Addresses.{passed_rest, range_split}
use Rattle.cookie_copy.proofs.Loops.{in_on, mid_long, part_long}
use Rattle.cookie_copy.proofs.reading.read_addresses.Goals as goal

pub loop-done-preserved : goal.loop-done-preserved
loop-done-preserved c =
    let f : ℕ → ℕ = byte_of c.args.table.now c.args.memory.now in
    let address = c.args.address in
    let done = c.loop-done.done in
    let k = c.min.result in
    let buf = c.loop-done.buf in
    let piece = c.read_page.new.buf in
    let next : ℕ = done + k in
    let room : next ≤ length buf = omega arith in
    let piece_is : piece ≡ map f (range_with_len (address + done) k) =
    c.read_page.ensures ∙ ap (λ (n : ℕ). map f (range_with_len (address + done) n)) (part_long done k buf room) in
    let piece_long : length piece ≡ k = ap length piece_is ∙ length-map-range_with_len f (address + done) k in
    let new : List ℕ = put_mid done (done + k - done) buf piece in
    let long : length new ≡ length buf = mid_long done k buf piece piece_long room in
    let next_is : next ≡ done + k = refl in
    let split = range_split address done (length buf) k next next_is room in
    let moved : take next new ++ map f (range_with_len (address + next) (length buf - next)) ≡ map f (range_with_len address (length buf)) =
    in_on f done k (range_with_len (address + done) k) (range_with_len (address + next) (length buf - next)) (range_with_len (address + done) (length buf - done)) buf piece
    (map f (range_with_len address (length buf))) split (length-range_with_len (address + done) k) piece_is room c.loop-done.invariant.moved in
    record {
      within = omega (arith, long, room);
      mapped = subst (λ (n : ℕ). list_all (is_mapped c.args.table.now) (range_with_len (address + next) (n - next)) ≡ true) (sym long)
          (passed_rest (is_mapped c.args.table.now) address done (length buf) k next next_is room c.loop-done.invariant.mapped);
      moved = subst (λ (n : ℕ). take next new ++ map f (range_with_len (address + next) (n - next)) ≡ map f (range_with_len address n)) (sym long) moved;
    }
