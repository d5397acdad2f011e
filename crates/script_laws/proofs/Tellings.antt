-- The entries of a journal one by one, each with what its line asked and what it is for the lanes.
use Rattle.std.proofs.Common.{◌≡◌, ℕ, Option, Some, None, List, [], ◌∷◌, ◌++◌, length, map, refl, sym, ap, ◌∙◌, arith}
use Rattle.std.specs.List.{cons_option, flat_map}
use Rattle.std.proofs.lemmas.Grind.{flat_map-append}
use Rattle.std.proofs.lemmas.List.{append-nil}
use Rattle.disk_law.specs.ListStep as plain
use Rattle.domain_script.specs.declared.event.Event.{Event}
use Rattle.world_parts.specs.world_laws.Settle.{SettleEntry}
use Rattle.ldom_report.specs.DiskEvents.{disk_event, happened_to}
use Rattle.world_parts.specs.WorldEvents.{told_of, world_event}
use Rattle.ldom_entries.specs.declared.entry.Entry.{Entry}
use Rattle.world_parts.specs.Lines.{all_happened, line_of}
use Rattle.world_parts.specs.Parts.{PartSays}

pub record Telling : Type 0 where
  pub asked : Event
  pub entry : Entry
  pub means : SettleEntry
  pub is : world_event (line_of asked) entry ≡ Some means

-- the entries alone, and what they are for the lanes
abbrev pub entries_told : List Telling → List Entry
entries_told [] = []
entries_told (t ∷ tellings) = t.entry ∷ entries_told tellings

abbrev pub means_of : List Telling → List SettleEntry
means_of [] = []
means_of (t ∷ tellings) = t.means ∷ means_of tellings

-- what they say of the requests of the disk x
abbrev pub seen_at : ℕ → List Telling → List plain.ListEvent
seen_at x [] = []
seen_at x (t ∷ tellings) = cons_option (disk_event x t.asked t.entry) (seen_at x tellings)

pub as_many : (tellings : List Telling) → length (means_of tellings) ≡ length (entries_told tellings)
as_many [] = refl
as_many (t ∷ tellings) = let rest = as_many tellings in omega (arith, rest)

-- THE PART of a line
pub record PartTells (asked : Event) (part : List Entry) (entries : List SettleEntry) : Type 0 where
  pub tellings : List Telling
  pub entries_are : entries_told tellings ≡ part
  pub means_are : means_of tellings ≡ entries
  pub seen : (x : ℕ) → seen_at x tellings ≡ happened_to x asked part

pub part_tells : (asked : Event) (part : List Entry) (entries : List SettleEntry) → PartSays (line_of asked) part entries
    → PartTells asked part (map told_of entries)
part_tells asked [] [] says = record { tellings = []; entries_are = refl; means_are = refl; seen = λ x. refl }
part_tells asked [] (m ∷ entries) says = absurd (cc says)
part_tells asked (e ∷ part) [] says = absurd (cc says)
part_tells asked (e ∷ part) (m ∷ entries) says =
    let is : world_event (line_of asked) e ≡ Some (told_of m) = cc says in
    let others : PartSays (line_of asked) part entries = cc says in
    let rest = part_tells asked part entries others in
    let first : Telling = record { asked = asked; entry = e; means = told_of m; is = is } in
    record {
      tellings = first ∷ rest.tellings;
      entries_are = ap (λ (l : List Entry). e ∷ l) rest.entries_are;
      means_are = ap (λ (l : List SettleEntry). told_of m ∷ l) rest.means_are;
      seen = λ x. ap (λ (l : List plain.ListEvent). cons_option (disk_event x asked e) l) (rest.seen x);
    }

-- TELLINGS one after the other
entries_both : (xs ys : List Telling) → entries_told (xs ++ ys) ≡ entries_told xs ++ entries_told ys
entries_both [] ys = refl
entries_both (t ∷ xs) ys = ap (λ (l : List Entry). t.entry ∷ l) (entries_both xs ys)

means_both : (xs ys : List Telling) → means_of (xs ++ ys) ≡ means_of xs ++ means_of ys
means_both [] ys = refl
means_both (t ∷ xs) ys = ap (λ (l : List SettleEntry). t.means ∷ l) (means_both xs ys)

cons_both : {Y : Type 0} (o : Option Y) (xs ys : List Y) → cons_option o (xs ++ ys) ≡ cons_option o xs ++ ys
cons_both None xs ys = refl
cons_both (Some y) xs ys = refl

seen_both : (x : ℕ) (xs ys : List Telling) → seen_at x (xs ++ ys) ≡ seen_at x xs ++ seen_at x ys
seen_both x [] ys = refl
seen_both x (t ∷ xs) ys = grind (arith, cons_both, seen_both x xs ys)

-- THE LINES of a script
pub record LinesTell (lines : List (Event × List Entry)) (entries : List SettleEntry) : Type 0 where
  pub tellings : List Telling
  pub entries_are : entries_told tellings ≡ flat_map (λ (l : Event × List Entry). l.1) lines
  pub means_are : means_of tellings ≡ entries
  pub seen : (x : ℕ) → seen_at x tellings ≡ all_happened x lines

pub no_lines : LinesTell [] []
no_lines = record { tellings = []; entries_are = refl; means_are = refl; seen = λ x. refl }

both_lists : {Y : Type 0} (a b c d all : List Y) → all ≡ a ++ b → a ≡ c → b ≡ d → all ≡ c ++ d
both_lists {Y} a b c d all is first second =
    is ∙ ap (λ (l : List Y). l ++ b) first ∙ ap (λ (l : List Y). c ++ l) second

-- a line before others
pub line_first : (line : Event × List Entry) (lines : List (Event × List Entry)) (part entries : List SettleEntry)
    → PartTells line.0 line.1 part → LinesTell lines entries → LinesTell (line ∷ lines) (part ++ entries)
line_first line lines part entries one rest = record {
  tellings = one.tellings ++ rest.tellings;
  entries_are = grind (arith, both_lists, entries_both);
  means_are = grind (arith, both_lists, means_both);
  seen = λ x. grind (arith, both_lists, seen_both);
}

-- a line after others
pub flat_push : {X Y : Type 0} (f : X → List Y) (xs : List X) (x : X) → flat_map f xs ++ f x ≡ flat_map f (xs ++ x ∷ [])
flat_push {X} {Y} f xs x =
    ap (λ (l : List Y). flat_map f xs ++ l) (sym (append-nil (f x))) ∙ sym (flat_map-append f xs (x ∷ []))

pub line_last : (lines : List (Event × List Entry)) (line : Event × List Entry) (entries part : List SettleEntry)
    → LinesTell lines entries → PartTells line.0 line.1 part → LinesTell (lines ++ line ∷ []) (entries ++ part)
line_last lines line entries part rest one = record {
  tellings = rest.tellings ++ one.tellings;
  entries_are = both_lists (entries_told rest.tellings) (entries_told one.tellings)
      (flat_map (λ (l : Event × List Entry). l.1) lines) line.1 (entries_told (rest.tellings ++ one.tellings))
      (entries_both rest.tellings one.tellings) rest.entries_are one.entries_are
      ∙ flat_push (λ (l : Event × List Entry). l.1) lines line;
  means_are = both_lists (means_of rest.tellings) (means_of one.tellings) entries part
      (means_of (rest.tellings ++ one.tellings)) (means_both rest.tellings one.tellings) rest.means_are one.means_are;
  seen = λ x. both_lists (seen_at x rest.tellings) (seen_at x one.tellings) (all_happened x lines)
      (happened_to x line.0 line.1) (seen_at x (rest.tellings ++ one.tellings)) (seen_both x rest.tellings one.tellings)
      (rest.seen x) (one.seen x)
      ∙ flat_push (λ (l : Event × List Entry). happened_to x l.0 l.1) lines line;
}
