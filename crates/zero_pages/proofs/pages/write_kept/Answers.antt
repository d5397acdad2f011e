use Rattle.std.proofs.Common.{◌≡◌, ℕ, List, length, drop, sym, ap, ◌∙◌}
use Rattle.std.proofs.lemmas.List.{take_at}
use Rattle.vio_bytes.specs.Place.{put_at}
use Rattle.zero_pages.proofs.pages.write_kept.Goals as goal

pub returns-clause-written : goal.returns-clause-written
returns-clause-written c =
    let old : List ℕ = c.args.kept.now.items in
    let new : List ℕ = c.write_range.new.content in
    let long : length new ≡ length old = c.write_range.auto.content ∙ ap (λ (l : List ℕ). length l) c.deref_mut.ensures.value in
    take_at new (drop (length new) old) c.args.kept.now.len (long ∙ sym c.args.kept.now.ok.0)
    ∙ c.write_range.ensures
    ∙ ap (λ (l : List ℕ). put_at c.args.start c.args.bytes.now l) c.deref_mut.ensures.value
