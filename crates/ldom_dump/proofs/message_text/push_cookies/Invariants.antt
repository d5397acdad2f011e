use Rattle.std.proofs.Common.{◌≡◌, ◌+◌, ◌*◌, ◌≤◌, ◌++◌, length, take}
use Rattle.std.specs.List.{flat_map}
use Rattle.ldom_dump.specs.MessageText.{cookie_text}
use Rattle.ldom_dump.proofs.message_text.push_cookies.Given as goal

abbrev pub invariant-loop-cookie : goal.invariant-loop-cookie
invariant-loop-cookie l = record {
  text : l.text ≡ l.initial.text ++ flat_map cookie_text (take l.cookie-index l.cookies);
  len : length l.text ≤ length l.initial.text + 42 * l.cookie-index;
}
