use Rattle.std.proofs.Common.{◌≡◌, ℕ, ◌+◌, ◌*◌, ◌/◌, ◌%◌, ◌<◌, List, length, slice_index, length-set, ltb-true, refl, sym, ap, ◌∙◌, arith}
use Rattle.std.proofs.lemmas.Bool.{and_parts, both_ways}
use Rattle.std.proofs.lemmas.List.{take_all}
use Rattle.hex.specs.Hex.{encode_lower, encode_with, lower_digits}
use Rattle.hex.proofs.HexLemmas.{decode_of-encode_lower, decode_of-ok}
use Rattle.script_words.proofs.LowerDigits.{all_small, high_digit, low_digit, read_more, small_more, still_good}
use Rattle.script_words.proofs.digits.decode_lower.Goals as goal
use Rattle.script_words.proofs.digits.decode_lower.Goals.{then-text-ne0-via-then-text-ne0, then-text-ne0-via-else-text-ne0+then-text-out}

pub returns-then-text-ne0-clause-none : goal.returns-then-text-ne0-clause-none
returns-then-text-ne0-clause-none c = λ _ bytes size reads lower.
    let sized = decode_of-ok c.args.text.now bytes reads in
    elim c.then-text-ne0.branch [
      | then-text-ne0-via-then-text-ne0 w ↦ absurd (omega (arith, sized.0))
      | then-text-ne0-via-else-text-ne0+then-text-out w ↦ absurd (omega (arith, sized.2, size))
    ]

pub bytes-init : goal.bytes-init
unfolding encode_with
bytes-init c = record { lower = λ _. refl; small = λ k lt. absurd (omega arith); all = λ _ _ _ _. refl }

pub bytes-preserved : goal.bytes-preserved
bytes-preserved c =
    let i : ℕ = c.bytes.i in
    let before = c.bytes.invariant in record {
      lower = λ good.
          let parts = and_parts _ _ good in
          let more = and_parts _ _ parts.0 in
          let high = ltb-true _ _ more.1 in
          let low = ltb-true _ _ parts.1 in
          read_more c.args.text.now c.bytes.out i c.digit-high.result c.digit-low.result (omega arith) (omega arith) high low
          (c.digit-high.ensures.spelled high) (c.digit-low.ensures.spelled low) (before.lower more.0);
      small = small_more c.bytes.out i _ (omega arith) (omega arith) before.small;
      all = λ bytes size are_bytes lower.
          let room : length bytes ≡ length c.bytes.out = size ∙ length-set c.bytes.out i _ in
          let byte : slice_index bytes i < 256 = are_bytes i in
          let at_high : slice_index lower_digits (slice_index bytes i / 16) ≡ slice_index c.args.text.now (2 * i) =
          sym (ap (λ (l : List ℕ). slice_index l (2 * i)) lower ∙ high_digit bytes i (omega (arith, room))) in
          let at_low : slice_index lower_digits (slice_index bytes i % 16) ≡ slice_index c.args.text.now (2 * i + 1) =
          sym (ap (λ (l : List ℕ). slice_index l (2 * i + 1)) lower ∙ low_digit bytes i (omega (arith, room))) in
          let high = c.digit-high.ensures.exact (slice_index bytes i / 16) (omega (arith, byte)) at_high in
          let low = c.digit-low.ensures.exact (slice_index bytes i % 16) (omega (arith, byte)) at_low in
          still_good c.bytes.good c.digit-high.result c.digit-low.result (before.all bytes room are_bytes lower) (omega (arith, high, byte)) (omega (arith, low, byte));
    }

pub returns-clause-lower : goal.returns-clause-lower
returns-clause-lower c = λ good.
    let all_text = take_all (2 * c.bytes.i) c.args.text.now (omega arith) in
    let all_out = take_all c.bytes.i c.bytes.out (omega arith) in
    sym all_text ∙ c.bytes.invariant.lower good ∙ ap (λ (l : List ℕ). encode_lower l) all_out

pub returns-clause-reads : goal.returns-clause-reads
returns-clause-reads c = λ good.
    let all_text = take_all (2 * c.bytes.i) c.args.text.now (omega arith) in
    let all_out = take_all c.bytes.i c.bytes.out (omega arith) in
    let lower : c.args.text.now ≡ encode_lower c.bytes.out = sym all_text ∙ c.bytes.invariant.lower good ∙ ap (λ (l : List ℕ). encode_lower l) all_out in
    rw lower (decode_of-encode_lower c.bytes.out (all_small c.bytes.out (λ k lt. c.bytes.invariant.small k (omega arith))))

pub returns-clause-none : goal.returns-clause-none
returns-clause-none c = λ bad bytes size reads lower.
    both_ways c.bytes.good bad (c.bytes.invariant.all bytes (size ∙ sym c.bytes.auto.out) (decode_of-ok c.args.text.now bytes reads).3 lower)
