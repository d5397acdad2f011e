use Rattle.std.proofs.Common.{◌≡◌, ℕ, ◌%◌, List, [], ◌∷◌, ◌++◌, append_assoc, get_or, ap, sym, subst, ◌∙◌, arith}
use Rattle.kept_requests.specs.BlockWord.{cycle}
use Rattle.kept_requests.specs.Packed.{block_of}
use Rattle.kept_requests.proofs.PackedBlocks.{cycle_more}
use Rattle.kept_requests.proofs.bytes.push_block.Goals as goal

pub loop-k-preserved : goal.loop-k-preserved
loop-k-preserved c =
    let front : List ℕ = cycle c.args.n c.loop-k.k c.args.bytes.now in
    let last : List ℕ = get_or c.args.bytes.now (c.loop-k.k % c.args.n) 0 ∷ [] in
    let pushed : c.push.new.self.items ≡ c.args.all.now.items ++ (front ++ last) =
    c.in_ok-push.ensures.items ∙ ap (λ (l : List ℕ). l ++ last) c.loop-k.invariant ∙ append_assoc c.args.all.now.items front last in
    subst (λ (l : List ℕ). c.push.new.self.items ≡ c.args.all.now.items ++ l) (sym (cycle_more c.args.n c.loop-k.k c.args.bytes.now)) pushed

pub returns : goal.returns
unfolding block_of
returns c =
    let end : c.loop-k.k ≡ 512 = omega arith in
    c.loop-k.invariant ∙ ap (λ (m : ℕ). c.args.all.now.items ++ cycle c.args.n m c.args.bytes.now) end
