use Rattle.std.proofs.Common.{◌≡◌, ◌*◌, ◌^◌, ◌<◌, ◌++◌, map}
use Rattle.domain_script.specs.ScriptLines.{fed}
use Rattle.ldom_sample.specs.Sample.{draw, drawn_events, sample_line}
use Rattle.ldom_sample.proofs.sample.push_drawn_lines.Given as goal

abbrev pub invariant-loop : goal.invariant-loop
invariant-loop l = record {
  text : l.text.items ≡ l.initial.text.items ++ fed (map sample_line (drawn_events l.number l.counter));
  draw : l.draw ≡ draw l.number (2 * l.counter);
  below : l.draw < 2 ^ 31;
}
