-- A reading that passes over what is not seen.
use Rattle.std.proofs.Common.{◌≡◌, Bool, true, false, List, [], ◌∷◌, ◌++◌, append_assoc, take, refl, sym, ap, subst, ◌∙◌}
use Rattle.std.proofs.lemmas.List.Elements.{All-append, All-cons, All-nil}
use Rattle.std.specs.Prelude.{◌||◌, slice_index_or}
use Rattle.ldom_entries.specs.Beside.{HoldsShare, Lists, rest_of}
use Rattle.ldom_entries.specs.Decoded.{AreComplete, entries_of, first_entry, kind_of, share}
use Rattle.ldom_entries.specs.Seen.{BeginsSeen, PassesUnseen, is_seen, may_be_seen}
use Rattle.ldom_entries.specs.Whole.{AreKeptWhole}
use Rattle.ldom_entries.specs.declared.entry.Entry.{Entry}
use Rattle.ldom_entries.specs.declared.entry.Entry.TheVariants as entry
use Rattle.ldom_entries.specs.declared.header.Header.{Header}
use Rattle.ldom_entries.specs.declared.header.Header.TheVariants as header

-- the first of some entries that are kept whole may be seen, where there is one
first_whole : (entries : List Entry) → AreKeptWhole entries → may_be_seen (slice_index_or entries 0 entry.Settled) ≡ true
first_whole [] whole = refl
first_whole (first ∷ others) whole = ap (λ (b : Bool). b || is_seen first) whole.0

-- what stands beside a header doesn't change whether its entry may be seen
seen_by_kind : (h : Header) (l : Lists) → HoldsShare (share h) l → may_be_seen (first_entry h l) ≡ may_be_seen (kind_of h)
seen_by_kind header.Whole l holds = first_whole (take 1 l.wholes) holds.are_whole
seen_by_kind h l holds = refl

abbrev IsUnseen : Entry → Type 0
IsUnseen entry = may_be_seen entry ≡ false

-- nothing is passed over
pub passes_none : (old new : List Entry) → old ≡ new → PassesUnseen old new
passes_none old new same = record { passed = []; are = same; unseen = All-nil IsUnseen }

-- the entry of the first header is
pub passes_one : (headers others : List Header) (h : Header) (l m : Lists) → headers ≡ h ∷ others → may_be_seen (kind_of h) ≡ false → AreComplete headers l
    → m ≡ rest_of (share h) l
    → PassesUnseen (entries_of headers l) (entries_of others m)
passes_one headers others h l m first unseen complete left =
    let own : Entry = first_entry h l in
    let holds : HoldsShare (share h) l = (subst (λ (hs : List Header). AreComplete hs l) first complete).0 in
    record {
      passed = own ∷ [];
      are =
          ap (λ (hs : List Header). entries_of hs l) first
          ∙ ap (λ (x : Lists). own ∷ entries_of others x) (sym left);
      unseen = All-cons IsUnseen own [] (seen_by_kind h l holds ∙ unseen) (All-nil IsUnseen);
    }

-- some entries are, and then further ones
pub passes_more : (old middle new : List Entry) → PassesUnseen old middle → PassesUnseen middle new → PassesUnseen old new
passes_more old middle new before later = record {
  passed = before.passed ++ later.passed;
  are =
      before.are
      ∙ ap (λ (l : List Entry). before.passed ++ l) later.are
      ∙ sym (append_assoc before.passed later.passed new);
  unseen = All-append IsUnseen before.passed later.passed before.unseen later.unseen;
}

-- the entry of the first header may be seen
pub begins_seen : (headers others : List Header) (h : Header) (l : Lists) → headers ≡ h ∷ others → may_be_seen (kind_of h) ≡ true → AreComplete headers l
    → BeginsSeen (entries_of headers l)
begins_seen headers others h l first seen complete =
    let holds : HoldsShare (share h) l = (subst (λ (hs : List Header). AreComplete hs l) first complete).0 in
    subst (λ (hs : List Header). BeginsSeen (entries_of hs l)) (sym first) (seen_by_kind h l holds ∙ seen)

pub ruleset passing = (passes_none, passes_one, passes_more, begins_seen)
