use Rattle.std.proofs.Common.{◌≡◌, ℕ, ◌*◌, ◌+◌, ◌++◌, map, ap, ◌∙◌, arith}
use Rattle.domain_script.specs.ScriptLines.{fed}
use Rattle.ldom_sample.specs.Sample.{draw, drawn_events, sample_line}
use Rattle.ldom_sample.proofs.Sampling.{can_print_drawn, draws_on, first_draw, line_put, none_on, none_put}
use Rattle.ldom_sample.proofs.sample.push_drawn_lines.Goals as goal

pub loop-init : goal.loop-init
loop-init c = record { text = none_put c.args.number c.args.text.now.items; draw = none_on c.args.number; below = c.requires.number }

pub push_line-requires : goal.push_line-requires
push_line-requires c =
    can_print_drawn c.args.names.now c.drawn_event.result c.next_draw-first.result c.next_draw-draw.result c.requires.names c.drawn_event.ensures

pub loop-preserved : goal.loop-preserved
loop-preserved c =
    let k : ℕ = c.loop.counter in
    let first : c.next_draw-first.result ≡ draw c.args.number (2 * k + 1) =
    first_draw c.args.number k c.loop.draw c.next_draw-first.result c.loop.invariant.draw c.next_draw-first.ensures.draw in
    record {
      text = line_put c.args.number k c.loop.draw c.next_draw-first.result c.next_draw-draw.result c.args.text.now.items c.loop.text.items c.push_line.new.text.items
          c.args.names.now c.drawn_event.result c.requires.names c.loop.invariant.draw c.next_draw-first.ensures.draw c.next_draw-draw.ensures.draw c.drawn_event.ensures
          c.loop.invariant.text c.in_ok-push_line.ensures;
      draw = draws_on c.args.number k c.next_draw-first.result c.next_draw-draw.result first c.next_draw-draw.ensures.draw;
      below = c.next_draw-draw.ensures.below;
    }

pub returns : goal.returns
returns c =
    let end : c.loop.counter ≡ 4000 = omega (arith, c.loop-test.false, c.loop.auto.counter-end) in
    c.loop.invariant.text ∙ ap (λ (k : ℕ). c.args.text.now.items ++ fed (map sample_line (drawn_events c.args.number k))) end
