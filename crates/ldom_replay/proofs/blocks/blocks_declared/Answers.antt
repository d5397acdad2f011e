use Rattle.std.proofs.Common.{◌≡◌, Some, slice_get, sym, ◌∙◌, arith}
use Rattle.domain_script.proofs.Disks.{is_disk_at}
use Rattle.ldom_replay.proofs.BlockCounts.{no_more, one_more}
use Rattle.ldom_replay.proofs.blocks.blocks_declared.Goals as goal

pub loop-k-preserved : goal.loop-k-preserved
loop-k-preserved c =
    let there : Some c.in-Some.disk ≡ slice_get c.args.names.now.disks c.loop-k.k = sym c.in-Some.is ∙ c.disk.ensures.value in
    let limits = is_disk_at c.args.names.now.disks c.loop-k.k c.in-Some.disk c.requires (sym there) in
    record {
      so_far = one_more c.args.names.now.disks c.loop-k.k c.loop-k.blocks c.from-blocks.result c.in-Some.disk there c.from-blocks.ensures c.loop-k.invariant.so_far;
      small = omega (arith, c.loop-k.invariant.small, limits.most_blocks, c.from-blocks.ensures);
      few = λ _. c.disk.ensures.few;
    }

pub returns-in-None-clause-declared : goal.returns-in-None-clause-declared
returns-in-None-clause-declared c =
    no_more c.args.names.now.disks c.loop-k.k c.loop-k.blocks (sym c.in-None.is ∙ c.disk.ensures.value) c.loop-k.invariant.so_far
