use Rattle.std.proofs.Common.{refl, ℕ, List, ◌++◌, append_assoc, ap, subst, ◌∙◌}
use Rattle.std.specs.Prelude.{codes}
use Rattle.ldom_entries.specs.Told.{told}
use Rattle.ldom_report.specs.EntryText.{head_text, line_text, tail_text}
use Rattle.gathered_text.specs.Gathered.{Gathers, WroteFront}
use Rattle.gathered_text.proofs.GatheredText.{on_err, on_err_then, on_ok_then, gathers_behind, gathers_more, wrote_front_of_more, wrote_front_then}
use Rattle.ldom_report.proofs.LineParts.{two_parts}
use Rattle.ldom_report.proofs.lines.put_shown.Goals as goal

pub returns-in_err-make_room-clause-front : goal.returns-in_err-make_room-clause-front
returns-in_err-make_room-clause-front g c =
    let text : List ℕ = c.args.text.now in
    let line : List ℕ = line_text c.args.mode c.args.names.now (told c.args.entry.now) in
    on_err c.from_residual.result _ (wrote_front_of_more _ _ text line (text ++ line) refl c.in_err-make_room.ensures.front)

pub returns-clause-told : goal.returns-clause-told
returns-clause-told g c =
    let text : List ℕ = c.args.text.now in
    let front : List ℕ = head_text c.args.mode c.args.names.now (told c.args.entry.now) in
    let rest : List ℕ = tail_text (told c.args.entry.now) ++ codes "\n" in
    let begun = gathers_more _ _ c.make_room.new.self c.push_front.new.text text front c.in_ok-make_room.ensures.told c.push_front.ensures.text in
    on_ok_then c.put_rest.result
    (λ put. subst (λ (l : List ℕ). Gathers (g.K.Sink.written c.args.out.now) (g.K.Sink.written c.put_rest.new.out) c.put_rest.new.text (text ++ l))
    (two_parts c.args.mode c.args.names.now (told c.args.entry.now))
    (gathers_behind _ _ _ c.push_front.new.text c.put_rest.new.text text front rest begun put))
    c.put_rest.ensures.told

pub returns-clause-front : goal.returns-clause-front
returns-clause-front g c =
    let text : List ℕ = c.args.text.now in
    let front : List ℕ = head_text c.args.mode c.args.names.now (told c.args.entry.now) in
    let rest : List ℕ = tail_text (told c.args.entry.now) ++ codes "\n" in
    let begun = gathers_more _ _ c.make_room.new.self c.push_front.new.text text front c.in_ok-make_room.ensures.told c.push_front.ensures.text in
    on_err_then c.put_rest.result
    (λ wrote. subst (λ (l : List ℕ). WroteFront (g.K.Sink.written c.args.out.now) (g.K.Sink.written c.put_rest.new.out) l)
    (append_assoc text front rest ∙ ap (λ (l : List ℕ). text ++ l) (two_parts c.args.mode c.args.names.now (told c.args.entry.now)))
    (wrote_front_then _ _ _ c.push_front.new.text (text ++ front) rest begun wrote))
    c.put_rest.ensures.front
