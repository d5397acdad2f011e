use Rattle.std.proofs.Common.{◌≡◌, ℕ, List, false, get_or, refl, sym, ◌∙◌, ap}
use Rattle.std.specs.Str.{bytes_eq}
use Rattle.domain_script.specs.declared.rows.RowKind.TheVariants as row
use Rattle.domain_script.specs.Rows.{row_of, rows}
use Rattle.domain_script.proofs.RowLemmas.{not_yet}
use Rattle.domain_script.proofs.rows.row_named.Goals as goal

pub loop-row-preserved : goal.loop-row-preserved
loop-row-preserved c =
    let other : bytes_eq c.args.word.now (row_of (get_or rows c.loop-row.row-index row.Disk)).word ≡ false =
    ap (λ (w : List ℕ). bytes_eq c.args.word.now w) (sym c.word.ensures.word) ∙ sym c.eq.ensures ∙ c.if-eq.false in
    (refl, c.loop-row.invariant.1 ∙ not_yet c.args.word.now c.loop-row.row-index _ rows row.Disk refl c.loop-row-test.true other)
