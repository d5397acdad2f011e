use Rattle.std.proofs.Common.{ℕ, List, ◌++◌, length, drop, replicate, ap, ◌∙◌}
use Rattle.std.proofs.lemmas.List.{drop-replicate}
use Rattle.kept_requests.proofs.kept_request.with_zeros.Goals as goal

pub returns : goal.returns
returns c =
    let n : ℕ = length c.args.front.now in
    ap (λ (l : List ℕ). l ++ drop n (replicate 1024 0)) c.copy_from_slice.ensures.after ∙ ap (λ (l : List ℕ). c.args.front.now ++ l) (drop-replicate n 1024 0)
