use Rattle.std.proofs.Common.{◌≡◌, ◌+◌, ◌*◌, ◌≤◌, ℕ, List, length, sym, subst, ap, ◌∙◌, arith}
use Rattle.std.proofs.lemmas.List.{length-replicate}
use Rattle.cookie_copy.proofs.OwnPages.{own_within}
use Rattle.cookie_copy.specs.Faults.{PagesWithin}
use Rattle.vnet_port.specs.Memories.{HoldsRing}
use Rattle.lane_models.specs.NetEndState.{NetEndState}
use Rattle.vnet_msg.specs.Frames.{memory_pages}
use Rattle.vnet_port.specs.Calls.{role_of}
use Rattle.net_lane.proofs.Rooms.{power_room}
use Rattle.net_lane.proofs.port_ends.PortEnds.new.Goals as goal

pub invariant_of-result : goal.invariant_of-result
invariant_of-result c =
    let pages : ℕ = c.pages_for-pages.result in
    let count : 8192 * pages ≡ 8192 * memory_pages c.args.slots = ap (λ (n : ℕ). 8192 * n) c.pages_for-pages.ensures in
    let enough : 8192 + 2048 * c.args.slots ≤ 8192 * memory_pages c.args.slots =
    power_room c.requires.slots.0 c.args.slots c.requires.slots.1 c.requires.some_slots c.requires.most_slots in
    let room : 8192 + 2048 * c.args.slots ≤ 8192 * pages = omega (arith, count, enough) in
    let guest : length c.in_ok-new-2.field-0 ≡ 8192 * pages = ap (λ (l : List ℕ). length l) c.in_ok-new-2.ensures ∙ length-replicate {A = ℕ} (8192 * pages) 0 in
    let hub : length c.in_ok-new-3.field-0 ≡ 8192 * pages = ap (λ (l : List ℕ). length l) c.in_ok-new-3.ensures ∙ length-replicate {A = ℕ} (8192 * pages) 0 in
    let same : 8192 * pages ≤ 8192 * pages = omega arith in
    record {
      guest = ap (λ (s : NetEndState). role_of s) c.in_ok-new-4.ensures;
      hub = ap (λ (s : NetEndState). role_of s) c.in_ok-new-5.ensures;
      guest_ring = subst (λ (s : NetEndState). HoldsRing s.slots c.in_ok-new-2.field-0) (sym c.in_ok-new-4.ensures)
          (subst (λ (n : ℕ). 8192 + 2048 * c.args.slots ≤ n) (sym guest) room);
      hub_ring = subst (λ (s : NetEndState). HoldsRing s.slots c.in_ok-new-3.field-0) (sym c.in_ok-new-5.ensures)
          (subst (λ (n : ℕ). 8192 + 2048 * c.args.slots ≤ n) (sym hub) room);
      guest_pages = subst (λ (n : ℕ). PagesWithin c.in_ok-own_table.field-0 n) (sym guest)
          (own_within c.in_ok-own_table.field-0 pages (8192 * pages) c.in_ok-own_table.ensures.own same);
      hub_pages = subst (λ (n : ℕ). PagesWithin c.in_ok-own_table-2.field-0 n) (sym hub)
          (own_within c.in_ok-own_table-2.field-0 pages (8192 * pages) c.in_ok-own_table-2.ensures.own same);
    }
