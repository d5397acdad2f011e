use Rattle.std.proofs.Common.{◌≡◌, ℕ, ◌-◌, List, length, take, drop, Decides, subst}
use Rattle.std.proofs.lemmas.List.{take_rest}
use Rattle.kept_requests.proofs.BlockWords.{repeats_is, IsShifted}
use Rattle.kept_requests.proofs.block_words.is_repeated.Goals as goal

pub returns-then-begins_again : goal.returns-then-begins_again
returns-then-begins_again c =
    let block : List ℕ = c.args.block.now in
    let long : length block ≡ 512 = c.told-block in
    let parts : Decides c.are_same.result (take (512 - c.args.n) (drop c.args.n block) ≡ take (512 - c.args.n) block) = c.are_same.ensures in
    repeats_is block c.args.n c.are_same.result c.requires.some
    (subst (λ (m : ℕ). Decides c.are_same.result (take (m - c.args.n) (drop c.args.n block) ≡ take (m - c.args.n) block) → Decides c.are_same.result (IsShifted block c.args.n)) long
    (λ d. subst (λ (l : List ℕ). Decides c.are_same.result (l ≡ take (length block - c.args.n) block)) (take_rest block c.args.n) d) parts)
