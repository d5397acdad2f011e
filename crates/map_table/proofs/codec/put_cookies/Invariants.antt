use Rattle.std.proofs.Common.{◌≡◌, take}
use Rattle.std.specs.List.{AllByRecursion}
use Rattle.map_table.specs.Cookies.{IsCookie, cookies_bytes}
use Rattle.vio_bytes.specs.Place.{put_at}
use Rattle.map_table.proofs.codec.put_cookies.Given as goal

abbrev pub invariant-loop-i : goal.invariant-loop-i
invariant-loop-i l = record {
  written : l.bytes ≡ put_at l.at (cookies_bytes (take l.i l.cookies)) l.fn.bytes;
  each : AllByRecursion IsCookie (take l.i l.cookies);
}
