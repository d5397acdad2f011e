use Rattle.std.proofs.Common.{ℕ, ◌≡◌, ◌+◌, ◌-◌, ◌≤◌, ◌++◌, List, true, length, get_or, map, take, drop, sym, ap, subst, ◌∙◌, refl, arith}
use Rattle.std.proofs.lemmas.List.{length-map}
use Rattle.std.proofs.lemmas.List.FromFn.{length-range_with_len}
use Rattle.std.specs.List.{list_all, range_with_len}
use borrow.Rule.Slice.PartMut.{put_mid}
use Rattle.map_table.specs.declared.cookie.Cookie.{Cookie}
use Rattle.cookie_copy.specs.declared.window.Window.{Window}
use Rattle.cookie_copy.specs.Faults.{has_page, is_mapped}
use Rattle.cookie_copy.specs.Moved.{byte_of, moved_spots}
use Rattle.cookie_copy.proofs.Addresses.{moved_at, moved_end, moved_none, passed_cookie}
use Rattle.cookie_copy.proofs.Walking.{length-moved}
use Rattle.cookie_copy.proofs.Steps.{in_end}
use Rattle.cookie_copy.proofs.Loops.{in_on, mid_long, moved_map, part_long}
use Rattle.cookie_copy.proofs.reading.read_cookies.Goals as goal

pub read_part-requires-clause-paged : goal.read_part-requires-clause-paged
read_part-requires-clause-paged c =
    let i = c.loop-cookie.cookie-index in
    let w : Window = c.loop-cookie.window in
    let cookie : Cookie = get_or c.args.cookies.now i (record { address = 0; size = 0 }) in
    let k = c.part.result in
    let next : Window = record { skip = w.skip - cookie.size; len = w.len - (cookie.size - w.skip) } in
    let next_is : next ≡ record { skip = w.skip - cookie.size; len = w.len - (cookie.size - w.skip) } = refl in
    let room : c.loop-cookie.done + k ≤ length c.loop-cookie.buf = omega (arith, c.part.ensures.part, c.loop-cookie.invariant.left) in
    let split = moved_at c.args.cookies.now i (record { address = 0; size = 0 }) w next k c.loop-cookie-test.true next_is c.part.ensures.part in
    let passed = passed_cookie has_page (moved_spots (drop i c.args.cookies.now) w.skip w.len) (range_with_len (cookie.address + w.skip) k)
    (moved_spots (drop (i + 1) c.args.cookies.now) next.skip next.len) split c.loop-cookie.invariant.paged in
    subst (λ (n : ℕ). list_all has_page (range_with_len (cookie.address + w.skip) n) ≡ true) (sym (part_long c.loop-cookie.done k c.loop-cookie.buf room)) passed.0

pub read_part-requires-clause-mapped : goal.read_part-requires-clause-mapped
read_part-requires-clause-mapped c =
    let i = c.loop-cookie.cookie-index in
    let w : Window = c.loop-cookie.window in
    let cookie : Cookie = get_or c.args.cookies.now i (record { address = 0; size = 0 }) in
    let k = c.part.result in
    let next : Window = record { skip = w.skip - cookie.size; len = w.len - (cookie.size - w.skip) } in
    let next_is : next ≡ record { skip = w.skip - cookie.size; len = w.len - (cookie.size - w.skip) } = refl in
    let room : c.loop-cookie.done + k ≤ length c.loop-cookie.buf = omega (arith, c.part.ensures.part, c.loop-cookie.invariant.left) in
    let split = moved_at c.args.cookies.now i (record { address = 0; size = 0 }) w next k c.loop-cookie-test.true next_is c.part.ensures.part in
    let passed = passed_cookie (is_mapped c.args.table.now) (moved_spots (drop i c.args.cookies.now) w.skip w.len) (range_with_len (cookie.address + w.skip) k)
    (moved_spots (drop (i + 1) c.args.cookies.now) next.skip next.len) split c.loop-cookie.invariant.mapped in
    subst (λ (n : ℕ). list_all (is_mapped c.args.table.now) (range_with_len (cookie.address + w.skip) n) ≡ true) (sym (part_long c.loop-cookie.done k c.loop-cookie.buf room)) passed.0

pub loop-cookie-preserved : goal.loop-cookie-preserved
loop-cookie-preserved c =
    let i = c.loop-cookie.cookie-index in
    let w : Window = c.loop-cookie.window in
    let next : Window = c.behind-window.result in
    let cookies : List Cookie = c.args.cookies.now in
    let cookie : Cookie = get_or cookies i (record { address = 0; size = 0 }) in
    let done = c.loop-cookie.done in
    let k = c.part.result in
    let front : List ℕ = range_with_len (cookie.address + w.skip) k in
    let left : List ℕ = moved_spots (drop (i + 1) cookies) next.skip next.len in
    let rest : List ℕ = moved_spots (drop i cookies) w.skip w.len in
    let split : rest ≡ front ++ left = moved_at cookies i (record { address = 0; size = 0 }) w next k c.loop-cookie-test.true c.behind-window.ensures c.part.ensures.part in
    let len_is : next.len ≡ w.len - (cookie.size - w.skip) = ap (λ (v : Window). v.len) c.behind-window.ensures in
    let paged = passed_cookie has_page rest front left split c.loop-cookie.invariant.paged in
    let mapped = passed_cookie (is_mapped c.args.table.now) rest front left split c.loop-cookie.invariant.mapped in
    let f : ℕ → ℕ = byte_of c.args.table.now c.args.memory.now in
    let buf = c.loop-cookie.buf in
    let piece = c.read_part.new.buf in
    let room : done + k ≤ length buf = omega (arith, c.part.ensures.part, c.loop-cookie.invariant.left) in
    let piece_is : piece ≡ map f front = c.read_part.ensures ∙ ap (λ (n : ℕ). map f (range_with_len (cookie.address + w.skip) n)) (part_long done k buf room) in
    let front_long : length front ≡ k = length-range_with_len (cookie.address + w.skip) k in
    let piece_long : length piece ≡ k = ap length piece_is ∙ length-map front f ∙ front_long in
    let new : List ℕ = put_mid done (done + k - done) buf piece in
    let long : length new ≡ length buf = mid_long done k buf piece piece_long room in
    record {
      left = omega (arith, long, len_is, c.part.ensures.part, c.loop-cookie.invariant.left);
      paged = paged.1;
      mapped = mapped.1;
      moved = subst (λ (n : ℕ). take (done + k) new ++ map f left ≡ map f (moved_spots cookies c.args.offset n)) (sym long)
          (in_on f done k front left rest buf piece (map f (moved_spots cookies c.args.offset (length buf))) split front_long piece_is room c.loop-cookie.invariant.moved);
    }

pub returns : goal.returns
returns c =
    let f : ℕ → ℕ = byte_of c.args.table.now c.args.memory.now in
    let cookies : List Cookie = c.args.cookies.now in
    let w : Window = c.loop-cookie.window in
    let buf = c.loop-cookie.buf in
    let n = length c.args.buf.now in
    let same : length buf ≡ n = omega arith in
    let all : List ℕ = map f (moved_spots cookies c.args.offset n) in
    let long : length all ≡ length buf = length-map (moved_spots cookies c.args.offset n) f ∙ length-moved cookies c.args.offset n c.requires.can.holds ∙ sym same in
    in_end f c.loop-cookie.done (moved_spots (drop c.loop-cookie.cookie-index cookies) w.skip w.len) buf all (moved_end cookies c.loop-cookie.cookie-index w.skip w.len c.loop-cookie-test.false)
    (omega (arith, c.loop-cookie.invariant.left)) long (c.loop-cookie.invariant.moved ∙ ap (λ (m : ℕ). map f (moved_spots cookies c.args.offset m)) same)
    ∙ moved_map f cookies c.args.offset n

pub returns-then-window-eq0 : goal.returns-then-window-eq0
returns-then-window-eq0 c =
    let f : ℕ → ℕ = byte_of c.args.table.now c.args.memory.now in
    let cookies : List Cookie = c.args.cookies.now in
    let w : Window = c.loop-cookie.window in
    let buf = c.loop-cookie.buf in
    let n = length c.args.buf.now in
    let same : length buf ≡ n = omega arith in
    let all : List ℕ = map f (moved_spots cookies c.args.offset n) in
    let long : length all ≡ length buf = length-map (moved_spots cookies c.args.offset n) f ∙ length-moved cookies c.args.offset n c.requires.can.holds ∙ sym same in
    in_end f c.loop-cookie.done (moved_spots (drop c.loop-cookie.cookie-index cookies) w.skip w.len) buf all (moved_none (drop c.loop-cookie.cookie-index cookies) w.skip w.len c.if-window-eq0.true)
    (omega (arith, c.loop-cookie.invariant.left)) long (c.loop-cookie.invariant.moved ∙ ap (λ (m : ℕ). map f (moved_spots cookies c.args.offset m)) same)
    ∙ moved_map f cookies c.args.offset n
