use Rattle.std.proofs.Common.{◌≡◌, ℕ, ◌+◌, ◌-◌, List, length, drop, ap, ◌∙◌, subst, arith, nat_lt, length-drop}
use Rattle.ldc_link.specs.LinkState.{LinkState}
use Rattle.ldc_link.specs.contracts.link.Link.{the_view}
use Rattle.ldc_link.proofs.Parts.{left_behind, same_parts}
use Rattle.ldc_link.proofs.link.Link.note_part.Goals as goal

pub returns : goal.returns
returns c =
    let items : List ℕ = c.self.inside.offered.items in
    let sent : ℕ = c.self.inside.sent in
    let left : ℕ = c.len.result - sent in
    let all : sent + left ≡ length items = omega (arith, c.self.invariant, c.len.ensures.value) in
    let rest : drop (sent + c.min.result) items ≡ drop 56 (drop sent items) =
    ap (λ (n : ℕ). drop (sent + n) items) c.min.ensures ∙ left_behind items sent left all in
    let more : nat_lt 56 left ≡ nat_lt 56 (length (drop sent items)) =
    ap (λ (n : ℕ). nat_lt 56 n) (omega (arith, all, length-drop sent items)) in
    subst (λ (k : LinkState). (record (the_view c.self.inside) { to_send = drop (sent + c.min.result) items; begun = nat_lt 56 left }) ≡ (record k { to_send = drop 56 k.to_send; begun = nat_lt 56 (length k.to_send) }))
    c.self.view_is
    (same_parts (the_view c.self.inside) (drop (sent + c.min.result) items) (drop 56 (drop sent items)) (nat_lt 56 left) (nat_lt 56 (length (drop sent items))) rest more)
