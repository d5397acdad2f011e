-- Slots: none is lost and none stands twice, as blocks are put, used and taken out. A write to one leaves the others.
use Rattle.std.proofs.Common.{◌≡◌, ◌≢◌, ℕ, suc, ◌+◌, ◌-◌, ◌*◌, ◌<◌, ◌≤◌, ◌⊎◌, Bool, cond, true, false, nat_eq, List, [], ◌∷◌, ◌++◌, length, take, drop, set, get_or, Option, Some, None, refl, sym, ap, ◌∙◌, subst, inl, inr, arith}
use Rattle.std.specs.Cmp.{nat_eq_equiv}
use Rattle.std.specs.Map.{lookup, lookup_entry, remove_entry}
use Rattle.std.specs.Option.{option_map_or}
use Rattle.std.specs.Prelude.{slice_get}
use Rattle.std.proofs.lemmas.Bool.{cases_lt, eqb-true}
use Rattle.std.proofs.lemmas.List.{length-set, length-take-le, map_more, take_all, take_more, take_more_set}
use Rattle.std.proofs.lemmas.Option.{get_or_from_slice_get, slice_get_cases, slice_get_within}
use Rattle.lru.specs.LruCache.{IsValid, LruCache, displaced, lru_cache, promoted, put_entries}
use Rattle.vio_bytes.specs.Place.{IsOutside, put_at}
use Rattle.vio_bytes.proofs.Ranges.{range_at-put_at_outside, range_at-put_at_same}
use Rattle.cached_store.specs.Slots.{AreSlots, IsRoom, all_slots, hits, kept_of, slots_of, times}
use Rattle.cached_store.proofs.Valued.{fewer, found_none, found_value, put-valued}

-- COUNTS
hits_same : (k : ℕ) → hits k k ≡ 1
hits_same k = rw (nat_eq_equiv.refl k) refl

hits_apart : (k x : ℕ) → hits k x ≡ 0 → k ≢ x
hits_apart k x none is =
    let same : hits k k ≡ 0 = subst (λ (y : ℕ). hits k y ≡ 0) (sym is) none in
    let one = hits_same k in
    absurd (omega (arith, same, one))

hits_cases : (k x : ℕ) → (hits k x ≡ 0) ⊎ ((k ≡ x) × (hits k x ≡ 1))
hits_cases k x = (elim (nat_eq k x) as (λ y. nat_eq k x ≡ y → (hits k x ≡ 0) ⊎ ((k ≡ x) × (hits k x ≡ 1))) [
  | true ↦ λ t. inr (eqb-true k x t, ap (λ (b : Bool). cond b 1 0) t)
  | false ↦ λ t. inl (ap (λ (b : Bool). cond b 1 0) t)
]) refl

times-append : (k : ℕ) (xs ys : List ℕ) → times k (xs ++ ys) ≡ times k xs + times k ys
times-append k [] ys = omega arith
times-append k (x ∷ xs) ys = ap (λ (n : ℕ). hits k x + n) (times-append k xs ys) ∙ omega arith

times_total : (k most spare : ℕ) (es : List (ℕ × ℕ)) (free : List ℕ)
    → times k (all_slots most spare es free) ≡ hits k spare + (times k (slots_of es) + times k (take (most - length es) free))
times_total k most spare es free =
    ap (λ (n : ℕ). hits k spare + n) (times-append k (slots_of es) (take (most - length es) free))

pub as_slots : (limit : ℕ) (old new : List ℕ) → AreSlots limit old → ((k : ℕ) → times k new ≤ times k old) → AreSlots limit new
as_slots limit old new are few = record {
  once = λ k. let a = are.once k in let b = few k in omega (arith, a, b);
  below = λ k some. are.below k (let b = few k in omega (arith, some, b));
}

-- an entry that is found, the last one, and one more of a front
times_found : (k : ℕ) (test : ℕ → Bool) (es : List (ℕ × ℕ)) (s : ℕ) → lookup test es ≡ Some s
    → times k (slots_of es) ≡ hits k s + times k (slots_of (remove_entry test es))
times_found k test [] s is = absurd (cc)
times_found k test (e ∷ es) s is = (elim (test e.0) as (λ y. test e.0 ≡ y
    → times k (slots_of (e ∷ es)) ≡ hits k s + times k (slots_of (remove_entry test (e ∷ es)))) [
      | true ↦ λ t. let h = rw t at is in rw t (let same : e.1 ≡ s = cc in ap (λ (x : ℕ). hits k x + times k (slots_of es)) same)
      | false ↦ λ t. rw t (let on = times_found k test es s (rw t at is) in omega (arith, on))
    ]) refl

times_more : (k n d : ℕ) (xs : List ℕ) → n < length xs → times k (take (n + 1) xs) ≡ times k (take n xs) + hits k (get_or xs n d)
times_more k n d xs within =
    ap (times k) (take_more xs n d within) ∙ times-append k (take n xs) (get_or xs n d ∷ []) ∙ omega arith

times_last : (k n : ℕ) (es : List (ℕ × ℕ)) (f : ℕ × ℕ) → slice_get es n ≡ Some f → length es ≤ n + 1
    → times k (slots_of es) ≡ times k (slots_of (take n es)) + hits k f.1
times_last k n es f is few =
    let within : n < length es = slice_get_within es n f is in
    ap (λ (l : List (ℕ × ℕ)). times k (slots_of l)) (sym (take_all (n + 1) es few))
    ∙ ap (times k) (map_more (λ (e : ℕ × ℕ). e.1) es n f within)
    ∙ times-append k (slots_of (take n es)) ((get_or es n f).1 ∷ [])
    ∙ ap (λ (e : ℕ × ℕ). times k (slots_of (take n es)) + (hits k e.1 + 0)) (get_or_from_slice_get es n f f is)
    ∙ omega arith

-- A WRITE to a slot in which none of these stands
untouched : (s : ℕ) (piece bytes : List ℕ) (es : List (ℕ × ℕ)) → length piece ≡ 512 → 512 * s + 512 ≤ length bytes
    → times s (slots_of es) ≡ 0 → kept_of (put_at (512 * s) piece bytes) es ≡ kept_of bytes es
untouched s piece bytes [] long room none = refl
untouched s piece bytes (e ∷ es) long room none =
    let apart : s ≢ e.1 = hits_apart s e.1 (omega (arith, none)) in
    let out : IsOutside (512 * e.1) 512 (512 * s) (length piece) = outside apart in
    let on = untouched s piece bytes es long room (omega (arith, none)) in
    ap (λ (l : List ℕ). (e.0, l) ∷ kept_of (put_at (512 * s) piece bytes) es)
    (range_at-put_at_outside (512 * e.1) 512 (512 * s) piece bytes (omega (arith, long, room)) out)
    ∙ ap (λ (l : List (ℕ × List ℕ)). (e.0, take 512 (drop (512 * e.1) bytes)) ∷ l) on
  where
    outside : s ≢ e.1 → IsOutside (512 * e.1) 512 (512 * s) (length piece)
    outside apart = elim (cases_lt s e.1) [
      | inl less ↦ inr (omega (arith, less, long))
      | inr more ↦ elim (cases_lt e.1 s) [
        | inl less ↦ inl (omega (arith, less, long))
        | inr same ↦ absurd (apart (omega (arith, more, same)))
      ]
    ]

pub kept_put : (s : LruCache ℕ ℕ) (number spare : ℕ) (piece bytes : List ℕ) → length piece ≡ 512 → 512 * spare + 512 ≤ length bytes
    → times spare (slots_of s.entries) ≡ 0
    → kept_of (put_at (512 * spare) piece bytes) (put_entries nat_eq s number spare) ≡ put_entries nat_eq (lru_cache (kept_of bytes s.entries) s.cap) number piece
kept_put s number spare piece bytes long room none =
    let new : List ℕ = put_at (512 * spare) piece bytes in
    sym (put-valued (λ (x : ℕ). take 512 (drop (512 * x) new)) nat_eq s.entries s.cap number spare)
    ∙ ap (λ (l : List ℕ). put_entries nat_eq (lru_cache (kept_of new s.entries) s.cap) number l)
    (range_at-put_at_same (512 * spare) 512 piece bytes long (omega (arith, room)))
    ∙ ap (λ (l : List (ℕ × List ℕ)). put_entries nat_eq (lru_cache l s.cap) number piece) (untouched spare piece bytes s.entries long room none)

-- WHAT A PUT OF THE MAP MOVES
abbrev gone_hits : ℕ → Option (ℕ × ℕ) → ℕ
gone_hits k None = 0
gone_hits k (Some e) = hits k e.1

abbrev gone_many : Option (ℕ × ℕ) → ℕ
gone_many None = 0
gone_many (Some e) = 1

record Moves (cap : ℕ) (old new : List (ℕ × ℕ)) (spare : ℕ) (gone : Option (ℕ × ℕ)) : Type 0 where
  pub counts : (k : ℕ) → times k (slots_of new) + gone_hits k gone ≡ times k (slots_of old) + hits k spare
  pub size : length new + gone_many gone ≡ suc (length old)
  pub within : length new ≤ cap

module _ (s : LruCache ℕ ℕ) (number spare : ℕ) (valid : IsValid nat_eq s) where
  past_or_last : (gone : Option (ℕ × ℕ)) → gone ≡ slice_get s.entries (s.cap - 1)
      → Moves s.cap s.entries ((number, spare) ∷ take (s.cap - 1) s.entries) spare gone
  past_or_last None is = elim (slice_get_cases s.entries (s.cap - 1)).1 [
    | inl at ↦ absurd (let no = is ∙ at.2 in cc)
    | inr past ↦
        let all : take (s.cap - 1) s.entries ≡ s.entries = take_all (s.cap - 1) s.entries past.0 in
        let p = past.0 in
        let some = valid.2 in
        record {
          counts = λ k. ap (λ (l : List (ℕ × ℕ)). hits k spare + times k (slots_of l) + 0) all ∙ omega arith;
          size = ap (λ (l : List (ℕ × ℕ)). suc (length l) + 0) all ∙ omega arith;
          within = let long = ap (λ (l : List (ℕ × ℕ)). length l) all in omega (arith, p, some, long);
        }
  ]
  past_or_last (Some f) is =
      let some = valid.2 in
      let few = valid.1 in
      let below : s.cap - 1 < length s.entries = slice_get_within s.entries (s.cap - 1) f (sym is) in
      let front : length (take (s.cap - 1) s.entries) ≡ s.cap - 1 = length-take-le (s.cap - 1) s.entries (omega (arith, below)) in
      record {
        counts = λ k. let last = times_last k (s.cap - 1) s.entries f (sym is) (omega (arith, some, few)) in omega (arith, last);
        size = omega (arith, front, below, few, some);
        within = omega (arith, front, some);
      }

  by_found : (gone : Option (ℕ × ℕ)) (o : Option (ℕ × ℕ)) → lookup_entry (nat_eq number) s.entries ≡ o → gone ≡ displaced nat_eq s number spare
      → Moves s.cap s.entries (option_map_or (λ (e : ℕ × ℕ). (e.0, spare) ∷ remove_entry (nat_eq number) s.entries) o ((number, spare) ∷ take (s.cap - 1) s.entries)) spare gone
  by_found gone None none is =
      past_or_last gone (is ∙ ap (λ (l : Option ℕ). option_map_or (λ (old : ℕ). Some (number, old)) l (slice_get s.entries (s.cap - 1)))
      (found_none (nat_eq number) s.entries none))
  by_found gone (Some f) found is =
      let at : lookup (nat_eq number) s.entries ≡ Some f.1 = found_value (nat_eq number) s.entries f found in
      let left : gone ≡ Some (number, f.1) =
      is ∙ ap (λ (l : Option ℕ). option_map_or (λ (old : ℕ). Some (number, old)) l (slice_get s.entries (s.cap - 1))) at in
      let one : suc (length (remove_entry (nat_eq number) s.entries)) ≡ length s.entries = fewer (nat_eq number) s.entries f.1 at in
      let few = valid.1 in
      subst (Moves s.cap s.entries ((f.0, spare) ∷ remove_entry (nat_eq number) s.entries) spare) (sym left) (record {
        counts = λ k. let same = times_found k (nat_eq number) s.entries f.1 at in omega (arith, same);
        size = omega (arith, one);
        within = omega (arith, one, few);
      })

  moves : (gone : Option (ℕ × ℕ)) → gone ≡ displaced nat_eq s number spare → Moves s.cap s.entries (put_entries nat_eq s number spare) spare gone
  moves gone is = by_found gone (lookup_entry (nat_eq number) s.entries) refl is

-- THE ROOM: what its slots tell
module _ (most spare : ℕ) (es : List (ℕ × ℕ)) (free bytes : List ℕ) (room : IsRoom most spare es free bytes) where
  pub spare_within : 512 * spare + 512 ≤ length bytes
  spare_within =
      let all = times_total spare most spare es free in
      let one = hits_same spare in
      let below : spare < suc most = room.slots.below spare (omega (arith, all, one)) in
      let long = room.bytes_long in
      omega (arith, below, long)

  pub spare_apart : times spare (slots_of es) ≡ 0
  spare_apart =
      let all = times_total spare most spare es free in
      let one = hits_same spare in
      let once = room.slots.once spare in
      omega (arith, all, one, once)

  pub slot_within : (test : ℕ → Bool) (s : ℕ) → lookup test es ≡ Some s → 512 * s + 512 ≤ length bytes
  slot_within test s found =
      let all = times_total s most spare es free in
      let here = times_found s test es s found in
      let one = hits_same s in
      let below : s < suc most = room.slots.below s (omega (arith, all, here, one)) in
      let long = room.bytes_long in
      omega (arith, below, long)

  -- and how it stays one: by a use
  used_by : (test : ℕ → Bool) (o : Option (ℕ × ℕ)) → lookup_entry test es ≡ o
      → IsRoom most spare (option_map_or (λ (e : ℕ × ℕ). e ∷ remove_entry test es) o es) free bytes
  used_by test None none = room
  used_by test (Some f) found =
      let at : lookup test es ≡ Some f.1 = found_value test es f found in
      let one : suc (length (remove_entry test es)) ≡ length es = fewer test es f.1 at in
      let few = room.few in
      record {
        slots = as_slots (suc most) (all_slots most spare es free) (all_slots most spare (f ∷ remove_entry test es) free) room.slots
            (λ k.
            let old = times_total k most spare es free in
            let new = times_total k most spare (f ∷ remove_entry test es) free in
            let same = times_found k test es f.1 at in
            let front = ap (λ (n : ℕ). times k (take (most - n) free)) one in
            omega (arith, old, new, same, front));
        few = omega (arith, one, few);
        long = room.long;
        bytes_long = room.bytes_long;
      }

  pub room_used : (test : ℕ → Bool) → IsRoom most spare (promoted test es) free bytes
  room_used test = used_by test (lookup_entry test es) refl

  -- where one is taken out
  pub room_without : (test : ℕ → Bool) (s : ℕ) → lookup test es ≡ Some s
      → IsRoom most spare (remove_entry test es) (set free (most - length es) s) bytes
  room_without test s found =
      let one : suc (length (remove_entry test es)) ≡ length es = fewer test es s found in
      let few = room.few in
      let long = room.long in
      let next : most - length (remove_entry test es) ≡ most - length es + 1 = omega (arith, one, few) in
      record {
        slots = as_slots (suc most) (all_slots most spare es free) (all_slots most spare (remove_entry test es) (set free (most - length es) s)) room.slots
            (λ k.
            let old = times_total k most spare es free in
            let new = times_total k most spare (remove_entry test es) (set free (most - length es) s) in
            let same = times_found k test es s found in
            let front : times k (take (most - length (remove_entry test es)) (set free (most - length es) s)) ≡ times k (take (most - length es) free) + (hits k s + 0) =
            ap (λ (n : ℕ). times k (take n (set free (most - length es) s))) next
            ∙ ap (times k) (take_more_set free (most - length es) s (omega (arith, one, few, long)))
            ∙ times-append k (take (most - length es) free) (s ∷ []) in
            omega (arith, old, new, same, front));
        few = omega (arith, one, few);
        long = length-set free (most - length es) s ∙ long;
        bytes_long = room.bytes_long;
      }

-- and by a put: the next spare slot is the one that went, or a free one
module _ (most number spare : ℕ) (s : LruCache ℕ ℕ) (free bytes new_bytes : List ℕ) (valid : IsValid nat_eq s) (cap : s.cap ≡ most)
    (room : IsRoom most spare s.entries free bytes) (long : length new_bytes ≡ length bytes) where
  pub room_put : (e : ℕ × ℕ) → Some e ≡ displaced nat_eq s number spare → IsRoom most e.1 (put_entries nat_eq s number spare) free new_bytes
  room_put e is =
      let moved = moves s number spare valid (Some e) is in
      let new : List (ℕ × ℕ) = put_entries nat_eq s number spare in
      let size : length new ≡ length s.entries = let z = moved.size in omega (arith, z) in
      let few = room.few in
      record {
        slots = as_slots (suc most) (all_slots most spare s.entries free) (all_slots most e.1 new free) room.slots
            (λ k.
            let before = times_total k most spare s.entries free in
            let after = times_total k most e.1 new free in
            let count = moved.counts k in
            let front = ap (λ (n : ℕ). times k (take (most - n) free)) size in
            omega (arith, before, after, count, front));
        few = omega (arith, size, few);
        long = room.long;
        bytes_long = long ∙ room.bytes_long;
      }

  pub some_left : None ≡ displaced nat_eq s number spare → length s.entries < most
  some_left is =
      let moved = moves s number spare valid None is in
      let size = moved.size in
      let within = moved.within in
      omega (arith, size, within, cap)

  pub room_more : (x : ℕ) → None ≡ displaced nat_eq s number spare → x ≡ get_or free (most - length s.entries - 1) x
      → IsRoom most x (put_entries nat_eq s number spare) free new_bytes
  room_more x is at =
      let moved = moves s number spare valid None is in
      let new : List (ℕ × ℕ) = put_entries nat_eq s number spare in
      let size : length new ≡ suc (length s.entries) = let z = moved.size in omega (arith, z) in
      let left = some_left is in
      let free_long = room.long in
      let less : most - length s.entries - 1 ≡ most - length new = omega (arith, size) in
      let next : most - length s.entries ≡ most - length new + 1 = omega (arith, size, left) in
      record {
        slots = as_slots (suc most) (all_slots most spare s.entries free) (all_slots most x new free) room.slots
            (λ k.
            let before = times_total k most spare s.entries free in
            let after = times_total k most x new free in
            let count = moved.counts k in
            let front : times k (take (most - length s.entries) free) ≡ times k (take (most - length new) free) + hits k x =
            ap (λ (n : ℕ). times k (take n free)) next
            ∙ times_more k (most - length new) x free (omega (arith, left, size, free_long))
            ∙ ap (λ (y : ℕ). times k (take (most - length new) free) + hits k y) (sym (at ∙ ap (λ (n : ℕ). get_or free n x) less)) in
            omega (arith, before, after, count, front));
        few = omega (arith, size, left);
        long = free_long;
        bytes_long = long ∙ room.bytes_long;
      }

-- THE FIRST ROOM: the numbers below a limit, and the limit itself
next_slot : (i : ℕ) (xs ys : List ℕ) → AreSlots i xs → ((k : ℕ) → times k ys ≡ times k xs + hits k i) → AreSlots (suc i) ys
next_slot i xs ys are more = record {
  once = λ k. let count = more k in let few = are.once k in elim (hits_cases k i) [
    | inl zero_hits ↦ omega (arith, count, few, zero_hits)
    | inr is ↦ let same = is.0 in let one = is.1 in elim (cases_lt 0 (times k xs)) [
      | inl some ↦ let below = are.below k some in absurd (omega (arith, below, same))
      | inr none ↦ omega (arith, count, one, none)
    ]
  ];
  below = λ k some. let count = more k in elim (hits_cases k i) [
    | inl zero_hits ↦ let below = are.below k (omega (arith, some, count, zero_hits)) in omega (arith, below)
    | inr is ↦ let same = is.0 in omega (arith, same)
  ];
}

pub one_slot_more : (i : ℕ) (xs : List ℕ) → AreSlots i xs → AreSlots (suc i) (xs ++ i ∷ [])
one_slot_more i xs are = next_slot i xs (xs ++ i ∷ []) are (λ k. times-append k xs (i ∷ []) ∙ omega arith)

pub no_slots : AreSlots 0 []
no_slots = record { once = λ k. omega arith; below = λ k some. absurd (omega (arith, some)) }

pub room_first : (most : ℕ) (free bytes : List ℕ) → AreSlots most free → length free ≡ most → length bytes ≡ 512 * suc most → IsRoom most most [] free bytes
room_first most free bytes are long bytes_long = record {
  slots = next_slot most free (all_slots most most [] free) are
      (λ k.
      let all : times k (take (most - 0) free) ≡ times k free = ap (times k) (take_all (most - 0) free (omega (arith, long))) in
      let total = times_total k most most [] free in
      omega (arith, all, total));
  few = omega arith;
  long = long;
  bytes_long = bytes_long;
}

pub room_behind : (most number spare x : ℕ) (s new : LruCache ℕ ℕ) (free bytes : List ℕ) → new ≡ lru_cache (put_entries nat_eq s number spare) s.cap
    → (0 < most → s.cap ≡ most) → IsRoom most x (put_entries nat_eq s number spare) free bytes
    → IsRoom most x new.entries free bytes × (0 < most → new.cap ≡ most)
room_behind most number spare x s new free bytes is cap room =
    subst (λ (t : LruCache ℕ ℕ). IsRoom most x t.entries free bytes × (0 < most → t.cap ≡ most)) (sym is) (room, cap)
