use Rattle.std.proofs.Common.{ℕ, ◌≡◌, ◌+◌, ◌-◌, ◌≤◌, ◌++◌, List, true, length, get_or, map, take, drop, sym, ap, subst, ◌∙◌, refl, arith}
use Rattle.std.proofs.lemmas.List.FromFn.{length-range_with_len}
use Rattle.std.specs.List.{list_all, range_with_len}
use Rattle.map_table.specs.declared.cookie.Cookie.{Cookie}
use Rattle.cookie_copy.specs.declared.window.Window.{Window}
use Rattle.cookie_copy.specs.Faults.{has_page, is_mapped}
use Rattle.cookie_copy.specs.Moved.{moved_spots, place_of, write_spots}
use Rattle.cookie_copy.proofs.Addresses.{moved_at, moved_end, passed_cookie}
use Rattle.cookie_copy.proofs.Loops.{out_on, part_long}
use Rattle.cookie_copy.proofs.writing.write_cookies.Goals as goal

pub write_part-requires-clause-paged : goal.write_part-requires-clause-paged
write_part-requires-clause-paged c =
    let i = c.loop-cookie.cookie-index in
    let w : Window = c.loop-cookie.window in
    let cookie : Cookie = get_or c.args.cookies.now i (record { address = 0; size = 0 }) in
    let k = c.part.result in
    let next : Window = record { skip = w.skip - cookie.size; len = w.len - (cookie.size - w.skip) } in
    let next_is : next ≡ record { skip = w.skip - cookie.size; len = w.len - (cookie.size - w.skip) } = refl in
    let room : c.loop-cookie.done + k ≤ length c.args.bytes.now = omega (arith, c.part.ensures.part, c.loop-cookie.invariant.left) in
    let split = moved_at c.args.cookies.now i (record { address = 0; size = 0 }) w next k c.loop-cookie-test.true next_is c.part.ensures.part in
    let passed = passed_cookie has_page (moved_spots (drop i c.args.cookies.now) w.skip w.len) (range_with_len (cookie.address + w.skip) k)
    (moved_spots (drop (i + 1) c.args.cookies.now) next.skip next.len) split c.loop-cookie.invariant.paged in
    subst (λ (n : ℕ). list_all has_page (range_with_len (cookie.address + w.skip) n) ≡ true) (sym (part_long c.loop-cookie.done k c.args.bytes.now room)) passed.0

pub write_part-requires-clause-mapped : goal.write_part-requires-clause-mapped
write_part-requires-clause-mapped c =
    let i = c.loop-cookie.cookie-index in
    let w : Window = c.loop-cookie.window in
    let cookie : Cookie = get_or c.args.cookies.now i (record { address = 0; size = 0 }) in
    let k = c.part.result in
    let next : Window = record { skip = w.skip - cookie.size; len = w.len - (cookie.size - w.skip) } in
    let next_is : next ≡ record { skip = w.skip - cookie.size; len = w.len - (cookie.size - w.skip) } = refl in
    let room : c.loop-cookie.done + k ≤ length c.args.bytes.now = omega (arith, c.part.ensures.part, c.loop-cookie.invariant.left) in
    let split = moved_at c.args.cookies.now i (record { address = 0; size = 0 }) w next k c.loop-cookie-test.true next_is c.part.ensures.part in
    let passed = passed_cookie (is_mapped c.args.table.now) (moved_spots (drop i c.args.cookies.now) w.skip w.len) (range_with_len (cookie.address + w.skip) k)
    (moved_spots (drop (i + 1) c.args.cookies.now) next.skip next.len) split c.loop-cookie.invariant.mapped in
    subst (λ (n : ℕ). list_all (is_mapped c.args.table.now) (range_with_len (cookie.address + w.skip) n) ≡ true) (sym (part_long c.loop-cookie.done k c.args.bytes.now room)) passed.0

pub loop-cookie-preserved : goal.loop-cookie-preserved
loop-cookie-preserved c =
    let i = c.loop-cookie.cookie-index in
    let w : Window = c.loop-cookie.window in
    let next : Window = c.behind-window.result in
    let cookies : List Cookie = c.args.cookies.now in
    let cookie : Cookie = get_or cookies i (record { address = 0; size = 0 }) in
    let done = c.loop-cookie.done in
    let k = c.part.result in
    let front : List ℕ = range_with_len (cookie.address + w.skip) k in
    let left : List ℕ = moved_spots (drop (i + 1) cookies) next.skip next.len in
    let rest : List ℕ = moved_spots (drop i cookies) w.skip w.len in
    let split : rest ≡ front ++ left = moved_at cookies i (record { address = 0; size = 0 }) w next k c.loop-cookie-test.true c.behind-window.ensures c.part.ensures.part in
    let len_is : next.len ≡ w.len - (cookie.size - w.skip) = ap (λ (v : Window). v.len) c.behind-window.ensures in
    let paged = passed_cookie has_page rest front left split c.loop-cookie.invariant.paged in
    let mapped = passed_cookie (is_mapped c.args.table.now) rest front left split c.loop-cookie.invariant.mapped in
    let f : ℕ → ℕ = place_of c.args.table.now in
    let bytes = c.args.bytes.now in
    let memory = c.loop-cookie.memory in
    let room : done + k ≤ length bytes = omega (arith, c.part.ensures.part, c.loop-cookie.invariant.left) in
    let front_long : length front ≡ k = length-range_with_len (cookie.address + w.skip) k in
    let new_is : c.write_part.new.memory ≡ write_spots (map f front) (take (done + k - done) (drop done bytes)) memory =
    c.write_part.ensures.written ∙ ap (λ (n : ℕ). write_spots (map f (range_with_len (cookie.address + w.skip) n)) (take (done + k - done) (drop done bytes)) memory) (part_long done k bytes room) in
    record {
      left = omega (arith, len_is, c.part.ensures.part, c.loop-cookie.invariant.left);
      paged = paged.1;
      mapped = mapped.1;
      same_length = c.write_part.ensures.same_length ∙ c.loop-cookie.invariant.same_length;
      written = out_on f done k front left rest bytes memory c.write_part.new.memory (write_spots (map f (moved_spots cookies c.args.offset (length bytes))) bytes c.args.memory.now)
          split front_long room new_is c.loop-cookie.invariant.written;
    }

pub returns-clause-written : goal.returns-clause-written
returns-clause-written c =
    let f : ℕ → ℕ = place_of c.args.table.now in
    let cookies : List Cookie = c.args.cookies.now in
    let w : Window = c.loop-cookie.window in
    ap (λ (places : List ℕ). write_spots (map f places) (drop c.loop-cookie.done c.args.bytes.now) c.loop-cookie.memory)
    (sym (moved_end cookies c.loop-cookie.cookie-index w.skip w.len c.loop-cookie-test.false))
    ∙ c.loop-cookie.invariant.written
