use Rattle.std.proofs.Common.{ℕ, ◌≡◌, ◌+◌, ◌-◌, ◌≤◌, length, map, take, drop, ap, ◌∙◌, refl, arith}
use Rattle.std.proofs.lemmas.List.FromFn.{length-range_with_len}
use Rattle.std.specs.List.{range_with_len}
use Rattle.cookie_copy.specs.Faults.{is_mapped}
use Rattle.cookie_copy.specs.Moved.{place_of, write_spots}
use Rattle.cookie_copy.proofs.Addresses.{passed_rest, range_split}
use Rattle.cookie_copy.proofs.Loops.{out_on, part_long}
use Rattle.cookie_copy.proofs.writing.write_addresses.Goals as goal

pub loop-done-preserved : goal.loop-done-preserved
loop-done-preserved c =
    let f : ℕ → ℕ = place_of c.args.table.now in
    let address = c.args.address in
    let done = c.loop-done.done in
    let k = c.min.result in
    let bytes = c.args.bytes.now in
    let memory = c.loop-done.memory in
    let next : ℕ = done + k in
    let room : next ≤ length bytes = omega arith in
    let next_is : next ≡ done + k = refl in
    let split = range_split address done (length bytes) k next next_is room in
    let new_is : c.write_page.new.memory ≡ write_spots (map f (range_with_len (address + done) k)) (take (done + k - done) (drop done bytes)) memory =
    c.write_page.ensures.written ∙ ap (λ (n : ℕ). write_spots (map f (range_with_len (address + done) n)) (take (done + k - done) (drop done bytes)) memory) (part_long done k bytes room) in
    record {
      within = room;
      mapped = passed_rest (is_mapped c.args.table.now) address done (length bytes) k next next_is room c.loop-done.invariant.mapped;
      same_length = c.write_page.ensures.same_length ∙ c.loop-done.invariant.same_length;
      written = out_on f done k (range_with_len (address + done) k) (range_with_len (address + next) (length bytes - next)) (range_with_len (address + done) (length bytes - done)) bytes memory
          c.write_page.new.memory (write_spots (map f (range_with_len address (length bytes))) bytes c.args.memory.now) split (length-range_with_len (address + done) k) room new_is c.loop-done.invariant.written;
    }
