use Rattle.std.proofs.Common.{ℕ, List, ◌+◌, ◌++◌, drop, ap, ◌∙◌, arith}
use Rattle.vio_bytes.specs.Place.{put_at}
use Rattle.map_table.proofs.Putting.{length-cookies_bytes, put_behind}
use Rattle.map_table.specs.Cookies.{cookies_bytes}
use Rattle.vio_tag.proofs.encoding.put_dring_reg.Goals as goal

pub returns-clause-written : goal.returns-clause-written
returns-clause-written c =
    let head = c.args.head.now in
    let out = c.args.out.now in
    let piece : List ℕ = cookies_bytes c.args.cookies.now in
    put_behind 32 head piece out c.put_cookies.new.bytes (omega arith)
    (c.put_cookies.ensures.written ∙ ap (λ (xs : List ℕ). put_at 32 piece (xs ++ drop 32 out)) c.copy_from_slice.ensures.after)
    ∙ ap (λ (n : ℕ). head ++ (piece ++ drop (32 + n) out)) (length-cookies_bytes c.args.cookies.now)
