use Rattle.std.proofs.Common.{◌≡◌, ◌-◌, ◌%◌, ◌<◌, ◌≤◌, length}
use Rattle.vio_bytes.specs.Place.{put_at}
use Rattle.vdisk_msg.specs.Requests.{repeated}
use Rattle.disk_requests.proofs.filling.put_fill.Given as goal

abbrev pub invariant-loop-at : goal.invariant-loop-at
invariant-loop-at l = record {
  within : l.at ≤ l.total;
  whole : l.at < l.total → l.at % l.fill.len ≡ 0;
  long : length l.memory ≡ length l.fn.memory;
  written : l.memory ≡ put_at l.place (repeated l.fill 0 l.at) l.fn.memory;
}

abbrev pub decreases-loop-at : goal.decreases-loop-at
decreases-loop-at l = l.total - l.at
