use Rattle.std.proofs.Common.{ℕ, ◌+◌, ◌≤◌, List, length, arith}
use Rattle.zero_pages.specs.Zeros.{pages_at}
use Rattle.zero_pages.proofs.PageLoops.{reads_on}
use Rattle.zero_pages.proofs.Zeros.{length-pages_at}
use Rattle.zero_pages.proofs.pages.read_pages.Goals as goal

pub loop-done-preserved : goal.loop-done-preserved
loop-done-preserved c =
    let done : ℕ = c.loop-done.done in
    let k : ℕ = c.min.result in
    let pages : List ℕ = pages_at c.args.kept.now c.args.places.now in
    let room : done + k ≤ length c.loop-done.buf = omega arith in
    let within : c.args.at + length c.loop-done.buf ≤ length pages = omega (arith, c.requires.within, length-pages_at c.args.kept.now c.args.places.now c.requires.kept.named) in
    let on = reads_on pages c.loop-done.buf c.read_place.new.buf c.args.at done k room within c.read_place.ensures c.loop-done.invariant.moved in
    record {
      within = omega (arith, on.long, room);
      moved = on.moved;
    }
