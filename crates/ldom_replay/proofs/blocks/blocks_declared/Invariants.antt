use Rattle.std.proofs.Common.{◌≡◌, ◌+◌, ◌*◌, ◌<◌, ◌≤◌, drop, length}
use Rattle.ldom_world.specs.world_parts.Declared.{blocks_of}
use Rattle.ldom_replay.proofs.blocks.blocks_declared.Given as goal

abbrev pub invariant-loop-k : goal.invariant-loop-k
invariant-loop-k l = record {
  so_far : l.blocks + blocks_of (drop l.k l.fn.names.disks) ≡ blocks_of l.fn.names.disks;
  small : l.blocks ≤ 65536 * l.k;
  few : 0 < l.k → length l.fn.names.disks ≤ 8;
}
