use Rattle.std.proofs.Common.{◌≡◌, ℕ, length, sym, ap, ◌∙◌, subst}
use Rattle.std.specs.Prelude.{nat_le, not}
use Rattle.ldc_packet.specs.declared.part.PartHead.{PartHead}
use Rattle.ldc_packet.specs.Parts.{part_packet}
use Rattle.ldc_link.specs.LinkState.{LinkState}
use Rattle.ldc_link.specs.Putting.{first_part}
use Rattle.ldc_link.specs.contracts.link.Link.{the_view}
use Rattle.ldc_link.proofs.Owing.{head_packet}
use Rattle.ldc_link.proofs.link.Link.head_of_part.Goals as goal

pub returns-clause-packet : goal.returns-clause-packet
returns-clause-packet c =
    let inside = c.self.inside in
    let n : ℕ = length c.left-left.result.now in
    let left : n ≡ length (the_view inside).to_send =
    ap length (c.left-left.ensures ∙ ap (λ (k : LinkState). k.to_send) (sym c.self.view_is)) in
    let head : PartHead =
    record { seqid = inside.put_next; start = not inside.begun; stop = nat_le n 56; len = c.min.result } in
    subst (λ (k : LinkState). part_packet head k.to_send ≡ first_part k) c.self.view_is
    (head_packet (the_view inside) n c.min.result left c.min.ensures)
