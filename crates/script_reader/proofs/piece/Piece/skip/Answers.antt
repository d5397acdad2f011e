use Rattle.std.proofs.Common.{◌≤◌, ◌-◌, List, ℕ, length, take, drop, ap, ◌∙◌, arith}
use Rattle.std.proofs.lemmas.List.{length-take}
use Rattle.script_reader.proofs.PieceLemmas.{range_skip}
use Rattle.script_reader.proofs.piece.Piece.skip.Goals as goal

pub returns-clause-value : goal.returns-clause-value
returns-clause-value c =
    let long : c.args.n ≤ length (take (c.self.inside.end - c.self.inside.start) (drop c.self.inside.start c.self.inside.bytes.items)) =
    omega (arith, ap (λ (l : List ℕ). length l) c.self.view_is) in
    range_skip c.self.inside.bytes.items c.self.inside.start c.self.inside.end c.args.n
    (omega (arith, length-take (c.self.inside.end - c.self.inside.start) (drop c.self.inside.start c.self.inside.bytes.items)))
    ∙ ap (λ (l : List ℕ). drop c.args.n l) c.self.view_is
