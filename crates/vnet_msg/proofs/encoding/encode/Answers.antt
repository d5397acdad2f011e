use Rattle.std.proofs.Common.{ℕ, List, ◌≡◌, ◌++◌, length, drop, refl, ap, ◌∙◌, arith}
use Rattle.map_table.proofs.Putting.{length-cookies_bytes, put_last}
use Rattle.map_table.specs.Cookies.{cookies_bytes}
use Rattle.vio_bytes.specs.Place.{put_at}
use Rattle.vnet_msg.specs.Descriptor.{HasWidths, head_bytes, net_desc_of}
use Rattle.vnet_msg.proofs.Spelling.{canonical_reads_back}
use Rattle.vnet_msg.proofs.encoding.encode.Goals as goal

pub returns-clause-written : goal.returns-clause-written
returns-clause-written c =
    let cookies = c.args.desc.now.cookies in
    let three : length cookies ≡ 3 = omega arith in
    let head : c.copy_from_slice.new.self ≡ head_bytes c.args.desc.now = c.copy_from_slice.ensures.after ∙ c.head_of-head.ensures.written in
    put_last 16 (head_bytes c.args.desc.now) (cookies_bytes cookies) c.args.out.now c.put_cookies.new.bytes refl
    (omega (arith, length-cookies_bytes cookies)) (c.put_cookies.ensures.written ∙ ap (λ (xs : List ℕ). put_at 16 (cookies_bytes cookies) (xs ++ drop 16 c.args.out.now)) head)

pub returns-clause-reads_back : goal.returns-clause-reads_back
returns-clause-reads_back c =
    let fits : HasWidths c.args.desc.now = record { head = c.head_of-head.ensures.widths; three = omega arith; cookies = c.put_cookies.ensures.each } in
    ap net_desc_of (returns-clause-written c) ∙ canonical_reads_back c.args.desc.now fits
