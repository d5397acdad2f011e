use Rattle.std.proofs.Common.{◌≡◌, ℕ, ◌+◌, ◌-◌, ◌*◌, ◌^◌, ◌<◌, ◌≤◌, List, ◌∷◌, get_or, length, sym, ap, ◌∙◌, arith}
use Rattle.std.proofs.lemmas.Fmt.{decimal_digit}
use Rattle.std.proofs.lemmas.Grind.{common_steps}
use Rattle.std.proofs.lemmas.List.{take_all}
use Rattle.std.specs.Fmt.{decimal}
use Rattle.script_words.proofs.DecimalDigits.{digits_more}
use Rattle.script_words.proofs.numbers.more_digits.Goals as goal

pub loop-byte-init : goal.loop-byte-init
loop-byte-init c =
    let same : c.from-n.result ≡ c.args.first = c.from-n.ensures in
    record {
      text = sym (decimal_digit c.args.first (omega arith)) ∙ ap (λ (k : ℕ). decimal k) (sym same);
      some = omega arith;
      small = omega arith;
    }

pub loop-byte-preserved : goal.loop-byte-preserved
loop-byte-preserved c =
    let rest : List ℕ = c.args.rest.now in
    let i : ℕ = c.loop-byte.byte-index in
    let within : i < length rest = omega arith in
    let least : 48 ≤ get_or rest i 0 = grind (arith, common_steps) in
    let most : get_or rest i 0 ≤ 57 = grind (arith, common_steps) in
    let more : c.in_ok-n.n ≡ c.loop-byte.n * 10 + (get_or rest i 0 - 48) = grind (arith, common_steps) in
    let fits : c.in_ok-n.n < 2 ^ 64 = grind (arith, common_steps) in
    record {
      text = digits_more (48 + c.args.first) rest i c.loop-byte.n c.in_ok-n.n within least most c.loop-byte.invariant.some more fits c.loop-byte.invariant.text;
      some = omega (arith, more, c.loop-byte.invariant.some);
      small = fits;
    }

pub returns : goal.returns
returns c =
    let rest : List ℕ = c.args.rest.now in
    let all : length rest ≤ c.loop-byte.byte-index = omega arith in (
      ap (λ (l : List ℕ). (48 + c.args.first) ∷ l) (sym (take_all c.loop-byte.byte-index rest all)) ∙ c.loop-byte.invariant.text,
      c.loop-byte.invariant.small,
    )
