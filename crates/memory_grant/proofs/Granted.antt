-- A table that grants its pages one after another.
use Rattle.std.proofs.Common.{◌≡◌, ℕ, zero, suc, ◌+◌, ◌-◌, ◌<◌, List, [], ◌∷◌, ◌++◌, length, map, replicate, set, Option, Some, None, refl, sym, ap, ◌∙◌, arith}
use Rattle.std.proofs.lemmas.List.{append_assoc, append-nil, length-append, length-replicate, set_at}
use Rattle.std.proofs.lemmas.Bool.{lt-ltb}
use Rattle.std.proofs.lemmas.List.FromFn.{length-map-range_with_len, map-range_with_len_more}
use Rattle.std.specs.List.{position_or_len, range_with_len}
use Rattle.std.specs.Prelude.{is_none}
use Rattle.cookie_copy.specs.Identity.{own_entry}
use Rattle.lane_models.specs.OwnMemory.{own_table}
use Rattle.map_table.specs.Table.{first_free}
use Rattle.map_table.specs.declared.table.Entry.{Entry}
use Rattle.memory_grant.specs.Granting.{granted_front}

abbrev own : ℕ → Option Entry
own page = Some (own_entry page)

abbrev free : ℕ → List (Option Entry)
free count = replicate count None

zero_more : (n : ℕ) → 0 + n ≡ n
zero_more n = omega arith

-- after pages that are granted the first free one is the next
place_behind : (from count : ℕ) (rest : List (Option Entry)) → position_or_len is_none (map own (range_with_len from count) ++ None ∷ rest) ≡ count
place_behind from zero rest = refl
place_behind from (suc count) rest =
    let one : (n : ℕ) → 1 + n ≡ suc n = λ n. omega arith in
    one (position_or_len is_none (map own (range_with_len (from + 1) count) ++ None ∷ rest)) ∙ ap suc (place_behind (from + 1) count rest)

first_behind : (from count : ℕ) (rest : List (Option Entry)) → first_free (map own (range_with_len from count) ++ None ∷ rest) ≡ Some count
first_behind from count rest =
    let long : length (map own (range_with_len from count) ++ None ∷ rest) ≡ count + suc (length rest) =
    length-append (map own (range_with_len from count)) (None ∷ rest) ∙ ap (λ (n : ℕ). n + suc (length rest)) (length-map-range_with_len own from count) in
    rw (place_behind from count rest, long, lt-ltb count (count + suc (length rest)) (omega arith)) refl

more_free : (count pages : ℕ) → count < pages → free (pages - count) ≡ None ∷ free (pages - (count + 1))
more_free count pages below =
    let one : pages - count ≡ suc (pages - (count + 1)) = omega arith in
    ap free one

pub next_free : (count pages : ℕ) → count < pages → first_free (granted_front count pages) ≡ Some count
next_free count pages below =
    ap (λ (free : List (Option Entry)). first_free (own_table count ++ free)) (more_free count pages below)
    ∙ first_behind 0 count (replicate (pages - (count + 1)) None)

pub granted_next : (count pages : ℕ) → count < pages → set (granted_front count pages) count (Some (own_entry count)) ≡ granted_front (count + 1) pages
granted_next count pages below =
    let rest : List (Option Entry) = replicate (pages - (count + 1)) None in
    ap (λ (free : List (Option Entry)). set (own_table count ++ free) count (own count)) (more_free count pages below)
    ∙ set_at (own_table count) None rest (own count) count (length-map-range_with_len own 0 count)
    ∙ sym (append_assoc (own_table count) (own count ∷ []) rest)
    ∙ ap (λ (front : List (Option Entry)). front ++ rest) (sym (map-range_with_len_more own 0 count count (zero_more count)))

pub granted_all : (pages : ℕ) → granted_front pages pages ≡ own_table pages
granted_all pages =
    let nothing : pages - pages ≡ 0 = omega arith in
    ap (λ (n : ℕ). own_table pages ++ replicate n None) nothing ∙ append-nil (own_table pages)

pub long_front : (count pages : ℕ) → count < pages → count < length (granted_front count pages)
long_front count pages below =
    omega (arith, length-append (own_table count) (free (pages - count)), length-map-range_with_len own 0 count, length-replicate {A = Option Entry} (pages - count) None)
