use Rattle.std.proofs.Common.{◌≡◌, ◌-◌, ◌%◌, ◌<◌, ◌≤◌, length, take}
use Rattle.vdisk_msg.specs.Requests.{repeated}
use Rattle.disk_requests.proofs.filling.lay_words.Given as goal

abbrev pub invariant-loop-at : goal.invariant-loop-at
invariant-loop-at l = record {
  some : 0 < l.at;
  within : l.at ≤ 2048;
  long : length l.words ≡ 2048;
  whole : l.at % l.fill.len ≡ 0;
  laid : take l.at l.words ≡ repeated l.fill 0 l.at;
}

abbrev pub decreases-loop-at : goal.decreases-loop-at
decreases-loop-at l = 2048 - l.at
