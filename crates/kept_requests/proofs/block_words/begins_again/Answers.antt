use Rattle.std.proofs.Common.{◌≡◌, ◌≤◌, ℕ, ◌+◌, ◌-◌, length, take, drop, ap, ◌∙◌, arith}
use Rattle.kept_requests.proofs.BlockWords.{never_repeats}
use Rattle.kept_requests.proofs.block_words.begins_again.Goals as goal

pub returns : goal.returns
returns c =
    let n : ℕ = c.args.n in
    let few : ℕ = c.min-few.result in
    let within : few ≤ length c.args.block.now - n = omega (arith, c.min-few.ensures, c.told-block) in
    let cut : n + few - n ≡ few = omega arith in
    never_repeats c.args.block.now n few c.are_same.result within
    (λ is. c.are_same.ensures.1 (ap (λ (m : ℕ). take m (drop n c.args.block.now)) cut ∙ is))
