use Rattle.std.proofs.Common.{◌≡◌, ℕ, ◌-◌, List, min, length, take, drop, arith, sym, ◌∙◌, ap}
use Rattle.vio_io.proofs.Taken.{takes_front, slice_from, none_left}
use Rattle.vio_io.proofs.source.ListSourceSource.read.Goals as goal

pub returns-clause-told : goal.returns-clause-told
returns-clause-told c =
    let items : List ℕ = c.self.inside.bytes.items in
    let at : ℕ = c.self.inside.at in
    let rest : take (length c.deref.result.now - at) (drop at c.deref.result.now) ≡ drop at items =
    slice_from c.deref.result.now at ∙ ap (λ (l : List ℕ). drop at l) c.deref.ensures.value in
    let taken : c.min-taken.result ≡ min c.min.result (length (drop at items)) =
    c.min-taken.ensures ∙ ap (λ (l : List ℕ). min c.min.result (length l)) rest in (
      sym (ap (λ s. s.left) c.self.view_is) ∙ takes_front items c.copy_from_slice.new.self _ at c.min-taken.result (omega arith)
          (c.copy_from_slice.ensures.after ∙ ap (λ (l : List ℕ). take c.min-taken.result l) rest),
      λ zero some. none_left items at c.min-taken.result c.min.result (omega arith) taken zero,
    )
