use Rattle.std.proofs.Common.{◌≡◌, ℕ, List, subst, ◌+◌, ◌*◌, ◌≤◌, ◌<◌, [], length, get_or, refl, ◌∙◌, arith}
use Rattle.map_table.proofs.Each.{each_more}
use Rattle.vio_tag.proofs.Addresses.{kept_length, length_more, part_length, put_more}
use Rattle.vio_tag.proofs.encoding.put_addresses.Goals as goal

pub loop-i-preserved : goal.loop-i-preserved
loop-i-preserved c =
    let i = c.loop-i.i in
    let addresses = c.args.addresses.now in
    let address = c.copy_from_slice.new.self in
    let below : i < length addresses = omega arith in
    let inside : 10 + 6 * i + 6 ≤ length c.loop-i.bytes = omega arith in
    let six : length address ≡ 6 = c.copy_from_slice.ensures.len ∙ part_length (10 + 6 * i) c.loop-i.bytes inside in
    let is : address ≡ get_or addresses i [] = c.copy_from_slice.ensures.after in
    record {
      each =
          each_more (λ address. length address ≡ 6) addresses i [] below c.loop-i.invariant.each
          (subst (λ (xs : List ℕ). length xs ≡ 6) is six);
      room = kept_length (10 + 6 * i) address c.loop-i.bytes six inside ∙ c.loop-i.invariant.room;
      long = length_more addresses i address below is six c.loop-i.invariant.long;
      written = put_more 10 i addresses address c.args.bytes.now c.loop-i.bytes _ below is six (omega arith) c.loop-i.invariant.long c.loop-i.invariant.written refl;
    }
