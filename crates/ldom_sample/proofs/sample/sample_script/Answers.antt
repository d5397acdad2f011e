use Rattle.std.proofs.Common.{◌∙◌}
use Rattle.ldom_sample.specs.Sample.{sample_text}
use Rattle.ldom_sample.proofs.Sampling.{all_put, can_print_disk, lines_kept, text_kept}
use Rattle.ldom_sample.proofs.sample.sample_script.Goals as goal

pub push_line-requires : goal.push_line-requires
push_line-requires c = can_print_disk c.new-names.result c.new-names.ensures

pub returns-clause-text : goal.returns-clause-text
returns-clause-text c =
    text_kept c.from_slice.result c.deref.result.now (sample_text c.args.number) c.from_slice.ensures.bytes
    (c.deref.ensures.value ∙ all_put c.args.number c.new-text.result.items c.push_line.new.text.items c.push_drawn_lines.new.text.items c.push_line-2.new.text.items
    c.new-text.ensures.items c.in_ok-push_line.ensures c.in_ok-push_drawn_lines.ensures c.in_ok-push_line-2.ensures)

pub returns-clause-lines : goal.returns-clause-lines
returns-clause-lines c = lines_kept c.args.number c.from_slice.result (returns-clause-text c)
