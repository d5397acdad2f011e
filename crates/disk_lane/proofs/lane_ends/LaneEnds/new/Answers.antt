use Rattle.std.proofs.Common.{◌≡◌, ◌+◌, ◌*◌, ◌≤◌, ℕ, List, length, sym, subst, ap, ◌∙◌, arith}
use Rattle.std.proofs.lemmas.List.{length-replicate}
use Rattle.cookie_copy.specs.Faults.{PagesWithin}
use Rattle.vdisk_msg.specs.Requested.{ring_pages}
use Rattle.disk_requests.specs.Room.{HoldsRing}
use Rattle.lane_models.specs.ClientState.{ClientState}
use Rattle.lane_models.specs.ServerState.{ServerState}
use Rattle.cookie_copy.proofs.OwnPages.{own_within}
use Rattle.disk_lane.proofs.lane_ends.LaneEnds.new.Goals as goal

pub invariant_of-result : goal.invariant_of-result
invariant_of-result c =
    let pages : ℕ = c.pages_for-pages.result in
    let long : length c.in_ok-new-2.field-0 ≡ 8192 * pages = ap (λ (l : List ℕ). length l) c.in_ok-new-2.ensures ∙ length-replicate {A = ℕ} (8192 * pages) 0 in
    let slots : c.in_ok-new-3.field-0.slots ≡ c.args.slots = ap (λ (s : ClientState). s.slots) c.in_ok-new-3.ensures in
    let count : pages ≡ ring_pages c.args.slots + 4 * c.args.slots = c.pages_for-pages.ensures in
    let within : PagesWithin c.in_ok-own_table.field-0 (8192 * pages) = own_within c.in_ok-own_table.field-0 pages (8192 * pages) c.in_ok-own_table.ensures.own (omega arith) in
    record {
      ring = subst (λ (n : ℕ). HoldsRing n c.in_ok-new-2.field-0) (sym slots) (omega (arith, long, count));
      pages = subst (λ (n : ℕ). PagesWithin c.in_ok-own_table.field-0 n) (sym long) within;
      first = ap (λ (s : ServerState). s.first) c.in_ok-new-4.ensures;
      blocks = ap (λ (s : ServerState). s.blocks) c.in_ok-new-4.ensures;
    }
