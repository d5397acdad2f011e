use Rattle.std.proofs.Common.{ℕ, ◌+◌, ◌≤◌, List, length, arith}
use Rattle.zero_pages.specs.Zeros.{pages_at}
use Rattle.zero_pages.proofs.PageLoops.{writes_on}
use Rattle.zero_pages.proofs.Zeros.{length-pages_at}
use Rattle.zero_pages.proofs.pages.write_pages.Goals as goal

pub loop-done-preserved : goal.loop-done-preserved
loop-done-preserved c =
    let done : ℕ = c.loop-done.done in
    let k : ℕ = c.min.result in
    let old : List ℕ = pages_at c.args.kept.now.items c.args.places.now in
    let room : done + k ≤ length c.args.bytes.now = omega arith in
    let within : c.args.at + length c.args.bytes.now ≤ length old = omega (arith, c.requires.within, length-pages_at c.args.kept.now.items c.args.places.now c.requires.kept.named) in
    let on = writes_on old (pages_at c.loop-done.kept.items c.loop-done.places) (pages_at c.write_page.new.kept.items c.write_page.new.places) c.args.bytes.now c.args.at done k room within
    c.write_page.ensures.written c.loop-done.invariant.written in
    record {
      within = room;
      same_length = omega (arith, c.write_page.ensures.same_length, c.loop-done.invariant.same_length);
      kept = c.write_page.ensures.kept;
      capacity = omega (arith, c.write_page.ensures.capacity, c.loop-done.invariant.capacity);
      written = on.written;
    }
