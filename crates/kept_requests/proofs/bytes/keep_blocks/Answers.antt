use Rattle.std.proofs.Common.{ℕ, List, ◌++◌, append_assoc, take, ap, ◌∙◌, arith}
use Rattle.std.proofs.lemmas.List.{take-append-drop}
use Rattle.kept_requests.specs.Packed.{unpacked}
use Rattle.kept_requests.proofs.bytes.keep_blocks.Goals as goal

pub loop-block-preserved : goal.loop-block-preserved
loop-block-preserved c =
    let i = c.loop-block.invariant in
    let e = c.keep_block.ensures in
    let cut = c.in-Some.ensures.cases in
    record {
      kept = e.kept;
      plain = e.plain;
      items =
          ap (λ (l : List ℕ). l ++ c.in-Some.behind.now) e.items
          ∙ append_assoc (unpacked c.loop-block.lengths.items c.loop-block.kept.items) c.in-Some.block.now c.in-Some.behind.now
          ∙ ap (λ (l : List ℕ). unpacked c.loop-block.lengths.items c.loop-block.kept.items ++ l)
          (ap (λ (l : List ℕ). l ++ c.in-Some.behind.now) cut.0 ∙ ap (λ (l : List ℕ). take 512 c.loop-block.rest.now ++ l) cut.1 ∙ take-append-drop 512 c.loop-block.rest.now)
          ∙ i.items;
      count = omega (arith, i.count, e.count, cut.2);
      long = omega (arith, i.long, e.long, cut.2);
      room = omega (arith, i.room, e.room);
      length_room = omega (arith, i.length_room, e.length_room);
    }
