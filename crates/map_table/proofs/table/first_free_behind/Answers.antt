use Rattle.std.proofs.Common.{◌+◌, ℕ, sym, ap, ◌∙◌, option_map}
use Rattle.map_table.proofs.Taken.{first_behind}
use Rattle.map_table.proofs.table.first_free_behind.Goals as goal

pub returns-in_err-behind : goal.returns-in_err-behind
returns-in_err-behind c =
    c.from_residual.ensures ∙ ap (option_map (λ (k : ℕ). c.args.taken + k)) c.in_err-behind.ensures
    ∙ sym (first_behind c.args.entries.now c.args.taken c.requires.within c.requires.taken)

pub returns : goal.returns
returns c =
    ap (option_map (λ (k : ℕ). c.args.taken + k)) c.in_ok-behind.ensures ∙ sym (first_behind c.args.entries.now c.args.taken c.requires.within c.requires.taken)
