use Rattle.std.proofs.Common.{◌≡◌, ◌≤◌, ◌+◌, ◌*◌, ℕ, List, length, replicate, sym, subst, ap, ◌∙◌, arith}
use Rattle.std.proofs.lemmas.List.{length-replicate}
use Rattle.cookie_copy.specs.Faults.{PagesWithin}
use Rattle.cookie_copy.proofs.OwnPages.{own_within}
use Rattle.lane_models.specs.ClientState.{ClientState}
use Rattle.lane_models.specs.ServerState.{ServerState}
use Rattle.disk_requests.specs.Room.{HoldsRing}
use Rattle.flat_store.specs.MemStoreState.{MemStoreState}
use Rattle.part_bench.proofs.lane.Lane.over.Goals as goal

pub invariant_of-result : goal.invariant_of-result
invariant_of-result c =
    let long : length c.in_ok-new-2.field-0 ≡ 2105344 = ap (λ (l : List ℕ). length l) c.in_ok-new-2.ensures ∙ length-replicate {A = ℕ} 2105344 0 in
    let slots : c.in_ok-new-3.field-0.slots ≡ 64 = ap (λ (s : ClientState). s.slots) c.in_ok-new-3.ensures in
    let first : c.in_ok-new-4.field-0.first ≡ 0 = ap (λ (s : ServerState). s.first) c.in_ok-new-4.ensures in
    let blocks : c.in_ok-new-4.field-0.blocks ≡ 4096 = ap (λ (s : ServerState). s.blocks) c.in_ok-new-4.ensures in
    let same : length c.store.inside.bytes.items ≡ length c.args.store.bytes = ap (λ (s : MemStoreState). length s.bytes) c.store.view_is in
    record {
      ring = subst (λ (n : ℕ). HoldsRing n c.in_ok-new-2.field-0) (sym slots) (omega (arith, long));
      pages = own_within c.in_ok-own_table.field-0 257 (length c.in_ok-new-2.field-0) c.in_ok-own_table.ensures.own (omega (arith, long));
      region = omega (arith, first, blocks, same, c.requires);
    }
