-- Offering a key to one port after the other.
use Rattle.std.proofs.Common.{◌≡◌, ◌≢◌, ◌↔◌, ℕ, ◌+◌, ◌<◌, Bool, true, false, List, length, IsBitSet, IsTrue, Some, option_map, slice_get, slice_set, inl, inr, arith, sym, subst, ap, ◌∙◌, refl, length-set}
use Rattle.std.proofs.lemmas.Bool.{cases_eq, false≢true}
use Rattle.std.proofs.lemmas.List.{length_push}
use Rattle.std.proofs.lemmas.Option.{slice_get_within}
use Rattle.vnet_switch.proofs.Bits.{below_more, below_none, nothing_in_zero}
use Rattle.vnet_switch.proofs.Changes.{port_holds, port_is, set_same, slice_get-set_other, slice_get-set_same}
use Rattle.vnet_switch.proofs.Counting.{names_with_last, sum_changes}
use Rattle.vnet_switch.proofs.Pigeons.{same_as_other, same_as_self}
use Rattle.vnet_switch.specs.Forward.{PortIs}
use Rattle.vnet_switch.specs.Named.{names_by}
use Rattle.vnet_switch.specs.Offering.{Declines, OffersBelow, OffersTo, TakesKey}
use Rattle.vnet_switch.specs.PortSet.{IsSetOf}
use Rattle.vnet_switch.specs.PortView.{PortView}
use Rattle.vnet_switch.specs.Queues.{with_last, QueueHasRoom, IsFull}
use Rattle.vnet_switch.specs.declared.forwarding.Offered.{Offered}

abbrev pub room_of : PortView ℕ → ℕ
room_of port = port.room

abbrev waiting_of : PortView ℕ → ℕ
waiting_of port = length port.queue

-- the port k belongs to the set, and has room or is full
abbrev Wants : (PortView ℕ → Type 0) → List (PortView ℕ) → ℕ → ℕ → Type 0
Wants Holds ports set k = IsBitSet set k × PortIs ports k Holds

pub offers_none : (ports : List (PortView ℕ)) (set key : ℕ) (offered : Offered) → offered.names ≡ 0
    → offered.switched.out ≡ 0 → offered.switched.full ≡ 0 → OffersBelow 0 ports set key offered ports
offers_none ports set key offered no_names no_out no_full = record {
  out = subst (λ (n : ℕ). IsSetOf n (λ k. (k < 0) × Wants QueueHasRoom ports set k)) (sym no_out)
      (below_none (Wants QueueHasRoom ports set));
  full = subst (λ (n : ℕ). IsSetOf n (λ k. (k < 0) × Wants IsFull ports set k)) (sym no_full)
      (below_none (Wants IsFull ports set));
  queues = record {
    same_length = refl;
    these = λ k in_out. absurd (nothing_in_zero k (subst (λ (n : ℕ). IsBitSet n k) no_out in_out));
    others = λ k other. refl;
  };
  names = omega (arith, no_names);
  other_names = λ other apart. refl;
  waiting = omega (arith, no_names);
  none = (λ _. no_out, λ _. no_names);
  few = omega (arith, no_names);
  rooms = refl;
}

-- the port that comes next is as it was
next_was : (limit : ℕ) (first now : List (PortView ℕ)) (set key : ℕ) (offered : Offered) (port : PortView ℕ)
    → OffersBelow limit first set key offered now → slice_get now limit ≡ Some port
    → slice_get first limit ≡ Some port
next_was limit first now set key offered port so_far is =
    sym (so_far.queues.others limit (λ in_out. absurd (omega (arith, ((so_far.out limit).0 in_out).0)))) ∙ is

-- it doesn't belong to the set
offers_nothing : (limit : ℕ) (first now : List (PortView ℕ)) (set key : ℕ) (offered : Offered)
    → ¬ (IsBitSet set limit) → OffersBelow limit first set key offered now
    → OffersBelow (limit + 1) first set key offered now
offers_nothing limit first now set key offered outside so_far = record {
  out = below_more (Wants QueueHasRoom first set) limit offered.switched.out offered.switched.out false
      (λ is. absurd (false≢true is), λ wants. absurd (outside wants.0)) so_far.out refl;
  full = below_more (Wants IsFull first set) limit offered.switched.full offered.switched.full false
      (λ is. absurd (false≢true is), λ wants. absurd (outside wants.0)) so_far.full refl;
  queues = so_far.queues;
  names = so_far.names;
  other_names = so_far.other_names;
  waiting = so_far.waiting;
  none = so_far.none;
  few = omega (arith, so_far.few);
  rooms = so_far.rooms;
}

-- it is full
offers_in_vain : (limit : ℕ) (first now : List (PortView ℕ)) (set key : ℕ) (offered new_offered : Offered)
    (port new_port : PortView ℕ) → slice_get now limit ≡ Some port → IsBitSet set limit
    → OffersBelow limit first set key offered now → Declines limit port offered new_port new_offered
    → OffersBelow (limit + 1) first set key new_offered now
offers_in_vain limit first now set key offered new_offered port new_port is within so_far declines =
    let was : slice_get first limit ≡ Some port = next_was limit first now set key offered port so_far is in
    let no_more : (new_offered.switched.out ≡ offered.switched.out) = declines.out in
    let same_names : new_offered.names ≡ offered.names = declines.names in
    record {
      out = below_more (Wants QueueHasRoom first set) limit offered.switched.out new_offered.switched.out false (
        λ no_way. absurd (false≢true no_way),
        λ wants. absurd
            (omega (arith, declines.no_room, port_holds first limit port QueueHasRoom was wants.1)),
      ) so_far.out no_more;
      full = below_more (Wants IsFull first set) limit offered.switched.full new_offered.switched.full true
          (λ _. (within, port_is first limit port IsFull was declines.no_room), λ _. refl) so_far.full declines.full;
      queues = record {
        same_length = so_far.queues.same_length;
        these = λ k in_out. so_far.queues.these k (subst (λ (n : ℕ). IsBitSet n k) no_more in_out);
        others = λ k other. so_far.queues.others k (λ in_out. other
            (subst (λ (n : ℕ). IsBitSet n k) (sym no_more) in_out));
      };
      names = omega (arith, so_far.names, same_names);
      other_names = so_far.other_names;
      waiting = omega (arith, so_far.waiting, same_names);
      none = (
        λ no_names. no_more ∙ so_far.none.0 (sym same_names ∙ no_names),
        λ no_out. same_names
            ∙ so_far.none.1 (sym no_more ∙ no_out),
      );
      few = omega (arith, so_far.few, same_names);
      rooms = so_far.rooms;
    }

-- it takes the key
offers_one : (limit : ℕ) (first now : List (PortView ℕ)) (set key : ℕ) (offered new_offered : Offered)
    (port : PortView ℕ) → slice_get now limit ≡ Some port → IsBitSet set limit
    → OffersBelow limit first set key offered now → TakesKey limit key port offered (with_last key port) new_offered
    → OffersBelow (limit + 1) first set key new_offered (slice_set now limit (with_last key port))
offers_one limit first now set key offered new_offered port is within so_far takes =
    let was : slice_get first limit ≡ Some port = next_was limit first now set key offered port so_far is in
    let new : List (PortView ℕ) = slice_set now limit (with_last key port) in
    let inside : limit < length now = slice_get_within now limit port is in
    record {
      out = below_more (Wants QueueHasRoom first set) limit offered.switched.out new_offered.switched.out true
          (λ _. (within, port_is first limit port QueueHasRoom was takes.room), λ _. refl) so_far.out takes.out;
      full = below_more (Wants IsFull first set) limit offered.switched.full new_offered.switched.full false (
        λ no_way. absurd (false≢true no_way),
        λ wants. absurd
            (omega (arith, takes.room, port_holds first limit port IsFull was wants.1)),
      ) so_far.full takes.full;
      queues = record {
        same_length = length-set now limit (with_last key port) ∙ so_far.queues.same_length;
        these = λ k in_out. elim (cases_eq k limit) [
          | inl at ↦ subst (λ (i : ℕ). slice_get (slice_set now limit (with_last key port)) i ≡ option_map
              (with_last key) (slice_get first i)) (sym at)
              (slice_get-set_same now limit (with_last key port) inside ∙ sym (ap (option_map (with_last key)) was))
          | inr other ↦ slice_get-set_other now limit k (with_last key port) other
              ∙ so_far.queues.these k ((takes.out.others k other).0 in_out)
        ];
        others = λ k outside.
            let other : k ≢ limit = λ at. outside (subst (λ (i : ℕ). IsBitSet new_offered.switched.out i) (sym at)
            takes.out.it) in
            slice_get-set_other now limit k (with_last key port) other
            ∙ so_far.queues.others k (λ in_old. outside ((takes.out.others k other).1 in_old));
      };
      names = omega (
        arith,
        so_far.names,
        takes.names,
        sum_changes (names_by key) now limit port (with_last key port)
            is,
        names_with_last key key port,
        same_as_self key,
      );
      other_names = λ other apart. omega (
        arith,
        so_far.other_names other apart,
        sum_changes (names_by other) now
            limit port (with_last key port) is,
        names_with_last other key port,
        same_as_other other key
            (λ same. apart (sym same)),
      );
      waiting = omega (
        arith,
        so_far.waiting,
        takes.names,
        sum_changes waiting_of now limit port (with_last key port)
            is,
        length_push port.queue key,
      );
      none = (
        λ no_names. absurd (omega (arith, takes.names, no_names)),
        λ no_out. absurd
            (omega (arith, takes.out.some, no_out)),
      );
      few = omega (arith, so_far.few, takes.names);
      rooms = omega (arith, so_far.rooms, sum_changes room_of now limit port (with_last key port) is);
    }

-- one port more
pub offers_more : (limit : ℕ) (first now : List (PortView ℕ)) (set key : ℕ) (offered new_offered : Offered)
    (port new_port : PortView ℕ) (belongs : Bool) → slice_get now limit ≡ Some port
    → (IsTrue belongs ↔ IsBitSet set limit) → OffersBelow limit first set key offered now
    → OffersTo belongs limit key port offered new_port new_offered
    → OffersBelow (limit + 1) first set key new_offered (slice_set now limit new_port)
offers_more limit first now set key offered new_offered port new_port false is means so_far stays =
    let same : slice_set now limit new_port ≡ now = ap (λ (p : PortView ℕ). slice_set now limit p) stays.0
    ∙ set_same now limit port is in
    subst (λ (o : Offered). OffersBelow (limit + 1) first set key o (slice_set now limit new_port)) (sym stays.1)
    (subst (λ (ports : List (PortView ℕ)). OffersBelow (limit + 1) first set key offered ports) (sym same)
    (offers_nothing limit first now set key offered (λ within. absurd (false≢true (means.1 within))) so_far))
offers_more limit first now set key offered new_offered port new_port true is means so_far (inl takes) =
    subst (λ (p : PortView ℕ). OffersBelow (limit + 1) first set key new_offered (slice_set now limit p)) (sym takes.is)
    (offers_one limit first now set key offered new_offered port is (means.0 refl) so_far
    (subst (λ (p : PortView ℕ). TakesKey limit key port offered p new_offered) takes.is takes))
offers_more limit first now set key offered new_offered port new_port true is means so_far (inr declines) =
    let same : slice_set now limit new_port ≡ now = ap (λ (p : PortView ℕ). slice_set now limit p) declines.is
    ∙ set_same now limit port is in
    subst (λ (ports : List (PortView ℕ)). OffersBelow (limit + 1) first set key new_offered ports) (sym same)
    (offers_in_vain limit first now set key offered new_offered port new_port is (means.0 refl) so_far declines)
