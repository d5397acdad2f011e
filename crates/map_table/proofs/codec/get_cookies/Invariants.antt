use Rattle.std.proofs.Common.{◌≡◌, ◌+◌, ◌*◌, ◌<◌, ℕ, get_or}
use Rattle.map_table.specs.Cookies.{cookie_at}
use Rattle.map_table.specs.declared.cookie.Cookie.{Cookie}
use Rattle.map_table.proofs.codec.get_cookies.Given as goal

abbrev pub invariant-loop-i : goal.invariant-loop-i
invariant-loop-i l = (k : ℕ) (d : Cookie) → k < l.i → get_or l.cookies k d ≡ cookie_at (l.at + 16 * k) l.bytes
