use Rattle.std.proofs.Common.{◌≡◌, List, take, ap, subst, ◌∙◌, arith}
use Rattle.std.proofs.lemmas.List.{take_all}
use Rattle.std.specs.List.{AllByRecursion}
use Rattle.vio_bytes.specs.Place.{put_at}
use Rattle.map_table.specs.Cookies.{IsCookie, cookies_bytes}
use Rattle.map_table.specs.declared.cookie.Cookie.{Cookie}
use Rattle.map_table.proofs.Getting.{cookies_at-put}
use Rattle.map_table.proofs.Each.{each_more}
use Rattle.map_table.proofs.Putting.{put_more}
use Rattle.map_table.proofs.codec.put_cookies.Goals as goal

pub loop-i-preserved : goal.loop-i-preserved
loop-i-preserved c = record {
  written =
      put_more c.args.at c.loop-i.i c.args.cookies.now (record { address = 0; size = 0 }) c.args.bytes.now c.loop-i.bytes c.put_cookie.new.bytes
      c.loop-i-test.true c.requires c.loop-i.invariant.written c.put_cookie.ensures.written;
  each =
      each_more IsCookie c.args.cookies.now c.loop-i.i (record { address = 0; size = 0 }) c.loop-i-test.true c.loop-i.invariant.each
      c.put_cookie.ensures.is;
}

pub returns-clause-reads_back : goal.returns-clause-reads_back
returns-clause-reads_back c =
    let cookies = c.args.cookies.now in
    let all : take c.loop-i.i cookies ≡ cookies = take_all c.loop-i.i cookies (omega arith) in
    let each : AllByRecursion IsCookie cookies = subst (λ (cs : List Cookie). AllByRecursion IsCookie cs) all c.loop-i.invariant.each in
    let is : c.loop-i.bytes ≡ put_at c.args.at (cookies_bytes cookies) c.args.bytes.now =
    c.loop-i.invariant.written ∙ ap (λ (cs : List Cookie). put_at c.args.at (cookies_bytes cs) c.args.bytes.now) all in
    cookies_at-put c.args.at cookies c.args.bytes.now c.loop-i.bytes each (omega arith) is
