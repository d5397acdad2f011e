use Rattle.std.proofs.Common.{ℕ, List, ◌++◌, refl}
use Rattle.std.proofs.lemmas.Result.{on_err_weaker, on_ok_weaker}
use Rattle.gathered_text.specs.Gathered.{Gathers}
use Rattle.gathered_text.proofs.GatheredText.{on_err, appends_last, gathers_more, wrote_front_last, wrote_front_of_more}
use Rattle.ldom_dump.specs.DumpReport.{end_line}
use Rattle.ldom_dump.proofs.end_line.put_end.Goals as goal

pub returns-in_err-make_room-clause-front : goal.returns-in_err-make_room-clause-front
returns-in_err-make_room-clause-front g c =
    let old : List ℕ = c.args.text.now in
    let last : List ℕ = end_line c.args.ended.now.lines c.args.ended.now.packets c.args.ended.now.faults c.args.ended.now.why in
    on_err c.from_residual.result _ (wrote_front_of_more _ _ old last (old ++ last) refl c.in_err-make_room.ensures.front)

pub returns-clause-told : goal.returns-clause-told
returns-clause-told g c =
    let old : List ℕ = c.args.text.now in
    let last : List ℕ = end_line c.args.ended.now.lines c.args.ended.now.packets c.args.ended.now.faults c.args.ended.now.why in
    let ended : Gathers (g.K.Sink.written c.args.out.now) (g.K.Sink.written c.make_room.new.out) c.push_end.new.text (old ++ last) =
    gathers_more _ _ c.make_room.new.self c.push_end.new.text old last c.in_ok-make_room.ensures.told c.push_end.ensures in
    on_ok_weaker c.flush.result (λ q. appends_last _ _ _ c.push_end.new.text (old ++ last) ended q) c.flush.ensures.told

pub returns-clause-front : goal.returns-clause-front
returns-clause-front g c =
    let old : List ℕ = c.args.text.now in
    let last : List ℕ = end_line c.args.ended.now.lines c.args.ended.now.packets c.args.ended.now.faults c.args.ended.now.why in
    let ended : Gathers (g.K.Sink.written c.args.out.now) (g.K.Sink.written c.make_room.new.out) c.push_end.new.text (old ++ last) =
    gathers_more _ _ c.make_room.new.self c.push_end.new.text old last c.in_ok-make_room.ensures.told c.push_end.ensures in
    on_err_weaker c.flush.result (λ q. wrote_front_last _ _ _ c.push_end.new.text (old ++ last) ended q) c.flush.ensures.front
