use Rattle.std.proofs.Common.{◌≡◌, ◌-◌, ◌≤◌, length, drop, replicate, arith}
use Rattle.trimmed_arrays.proofs.Zeros.{end_left_out, trimmed_twice, word_end}
use Rattle.trimmed_arrays.proofs.trim.front_of.Goals as goal

pub returns-in-Some-clause-same : goal.returns-in-Some-clause-same
returns-in-Some-clause-same c =
    let long : 8 ≤ length c.without_zero_words-front.result.now = c.in-Some.ensures.cases.0 in
    let zeros : drop (length c.without_zero_words-front.result.now - c.zeros_behind.result) c.without_zero_words-front.result.now ≡ replicate c.zeros_behind.result 0 =
    word_end _ _ _ long c.in-Some.ensures.cases.1.same c.zeros_behind.ensures.within c.zeros_behind.ensures.zeros in
    end_left_out _ c.zeros_behind.result _ _ (omega arith) zeros c.without_zero_words-front.ensures.within c.without_zero_words-front.ensures.same

pub returns-in-None-clause-same : goal.returns-in-None-clause-same
returns-in-None-clause-same c =
    trimmed_twice _ _ _ _ c.without_zero_bytes.ensures.same c.without_zero_bytes.ensures.within c.without_zero_words-front.ensures.same c.without_zero_words-front.ensures.within
