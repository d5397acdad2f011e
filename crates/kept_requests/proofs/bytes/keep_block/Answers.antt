use Rattle.std.proofs.Common.{◌≡◌, ℕ, List, [], ◌∷◌, ◌++◌, sym, subst}
use Rattle.kept_requests.specs.Packed.{AreKept, unpacked}
use Rattle.kept_requests.proofs.PackedBlocks.{kept_more, unpacked_more}
use Rattle.kept_requests.proofs.bytes.keep_block.Goals as goal

pub returns-clause-kept : goal.returns-clause-kept
returns-clause-kept c =
    let n = c.shortest_word-n in
    subst (λ (l : List ℕ). AreKept l c.keep_word.new.kept.items) (sym c.push_reserved.ensures.items)
    (subst (AreKept (c.args.lengths.now.items ++ n.result ∷ [])) (sym c.keep_word.ensures.items)
    (kept_more c.args.lengths.now.items c.args.kept.now.items c.args.block.now n.result c.requires.kept c.requires.plain c.told-block n.ensures.some n.ensures.within n.ensures.repeats n.ensures.least))

pub returns-clause-items : goal.returns-clause-items
returns-clause-items c =
    let n = c.shortest_word-n in
    subst (λ (l : List ℕ). unpacked l c.keep_word.new.kept.items ≡ unpacked c.args.lengths.now.items c.args.kept.now.items ++ c.args.block.now) (sym c.push_reserved.ensures.items)
    (subst (λ (l : List ℕ). unpacked (c.args.lengths.now.items ++ n.result ∷ []) l ≡ unpacked c.args.lengths.now.items c.args.kept.now.items ++ c.args.block.now) (sym c.keep_word.ensures.items)
    (unpacked_more c.args.lengths.now.items c.args.kept.now.items c.args.block.now n.result c.requires.kept c.requires.plain c.told-block n.ensures.some n.ensures.within n.ensures.repeats))
