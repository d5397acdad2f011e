use Rattle.std.proofs.Common.{◌≡◌, drop, replicate, take, length, ap, ◌∙◌}
use Rattle.std.proofs.lemmas.List.{drop-replicate, drop_at, length-take-le}
use Rattle.map_table.specs.Cookies.{no_cookie}
use Rattle.map_table.proofs.Getting.{length-cookies_at}
use Rattle.vio_tag.proofs.decoding.ring_cookies.Goals as goal

pub returns-clause-none : goal.returns-clause-none
returns-clause-none c =
    let count = c.args.count in
    let long : length c.get_cookies.new.cookies ≡ count =
    ap length c.get_cookies.ensures ∙ length-cookies_at 32 (length (take count (replicate 14 no_cookie))) c.args.bytes.now
    ∙ length-take-le count (replicate 14 no_cookie) c.requires.most in
    drop_at c.get_cookies.new.cookies (drop count (replicate 14 no_cookie)) count long ∙ drop-replicate count 14 no_cookie
