use Rattle.std.proofs.Common.{◌≡◌, ℕ, ◌%◌, ◌≤◌, arith, refl, ◌∙◌, ap}
use Rattle.std.proofs.Math.Nat.{zero-mod}
use Rattle.disk_requests.proofs.Repetition.{filled_more, filled_none, whole_more, words_from}
use Rattle.disk_requests.proofs.filling.put_fill.Goals as goal

pub loop-at-init : goal.loop-at-init
loop-at-init c = record {
  within = omega arith;
  whole = λ _. zero-mod c.args.fill.now.len;
  long = refl;
  written = filled_none c.args.fill.now c.args.place c.args.memory.now;
}

pub loop-at-preserved : goal.loop-at-preserved
loop-at-preserved c =
    let whole : c.loop-at.at % c.args.fill.now.len ≡ 0 = c.loop-at.invariant.whole c.loop-at-test.true in
    let within : c.min-size.result ≤ c.lay_words-laid.result = omega (arith, c.min-size.ensures) in
    record {
      within = omega (arith, c.min-size.ensures);
      whole = λ more.
          let all : c.min-size.result ≡ c.lay_words-laid.result = omega (arith, c.min-size.ensures, more) in
          whole_more c.loop-at.at c.min-size.result c.args.fill.now.len whole (ap (λ (n : ℕ). n % c.args.fill.now.len) all ∙ c.lay_words-laid.ensures.whole);
      long = c.write.ensures.same_length ∙ c.loop-at.invariant.long;
      written = filled_more c.args.fill.now c.args.place c.loop-at.at c.min-size.result _ c.args.memory.now c.loop-at.memory c.write.new.self
          c.loop-at.invariant.written c.write.ensures.written
          (words_from c.args.fill.now c.lay_words-laid.new.words c.lay_words-laid.result c.loop-at.at c.min-size.result c.lay_words-laid.ensures.laid within whole)
          (omega (arith, c.requires.room, c.min-size.ensures));
    }
