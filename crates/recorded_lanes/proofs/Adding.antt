-- A journal with the entries that were added to it: none, one, and some after others.
use Rattle.std.proofs.Common.{◌≡◌, Option, Some, List, [], ◌∷◌, ◌++◌, refl, sym, ap, ap₂, ◌∙◌, append_assoc, append-nil}
use Rattle.world_parts.specs.world_laws.Settle.{SettleEntry}
use Rattle.world_parts.specs.domain_laws.Lines.{Line}
use Rattle.world_parts.specs.WorldEvents.{told_of, world_event}
use Rattle.ldom_entries.specs.declared.entry.Entry.{Entry}
use Rattle.lane_kinds.proofs.Places.{map_both}
use Rattle.world_parts.specs.Parts.{Adds}

pub none_adds : (line : Line) (old new : List Entry) → new ≡ old → Adds line old new []
none_adds line old new same = record { part = []; grew = same ∙ sym (append-nil old); says = refl }

pub one_adds : (line : Line) (old new : List Entry) (e : Entry) (x : SettleEntry) → new ≡ old ++ e ∷ []
    → world_event line e ≡ Some (told_of x) → Adds line old new (x ∷ [])
one_adds line old new e x grew is =
    record { part = e ∷ []; grew = grew; says = ap (λ (o : Option SettleEntry). o ∷ []) is }

pub both_add : (line : Line) (old mid new : List Entry) (one two : List SettleEntry) → Adds line old mid one
    → Adds line mid new two → Adds line old new (one ++ two)
both_add line old mid new one two first second = record {
  part = first.part ++ second.part;
  grew = second.grew ∙ ap (λ (l : List Entry). l ++ second.part) first.grew ∙ append_assoc old first.part second.part;
  says = map_both (λ (e : Entry). world_event line e) first.part second.part
      ∙ ap₂ (λ (x y : List (Option SettleEntry)). x ++ y) first.says second.says
      ∙ sym (map_both (λ (x : SettleEntry). Some (told_of x)) one two);
}
