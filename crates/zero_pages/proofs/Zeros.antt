-- Pages that begin as zeros: what reading one is, what writing one is, and keeping one more.
use Rattle.std.proofs.Common.{◌≡◌, ◌≢◌, subst, ℕ, zero, suc, ◌+◌, ◌-◌, ◌*◌, ◌/◌, ◌%◌, ◌<◌, ◌≤◌, List, [], ◌∷◌, ◌++◌, length, get_or, set, take, drop, replicate, refl, sym, ap, ◌∙◌, arith, inl, inr, append_assoc, length-append, take_all}
use Rattle.std.proofs.lemmas.Bool.{cases_eq, cases_lt}
use Rattle.std.proofs.lemmas.List.{drop-append-le, drop-drop, drop-replicate, drop_at, drop_more, get_or-drop, get_or-set_other, get_or-set_same, get_or-take, length-drop, length-replicate, length-set, length-take-le, replicate-append-replicate, take-append-drop, take-append-le, take-replicate}
use Rattle.std.proofs.lemmas.List.Concat.{flat_map-append}
use Rattle.std.proofs.Math.Seq.{drop-append-add, take-append-add}
use Rattle.vio_bytes.specs.Place.{put_at}
use Rattle.vio_bytes.specs.Range.{range_at}
use Rattle.vio_bytes.proofs.Ranges.{length-range_at, range_at-put_at_outside, range_at-put_at_part, range_at-range_at}
use Rattle.zero_pages.specs.Zeros.{AreKept, kept_count, page_at, pages_at}

-- a range of the middle part
range_in_part : (front part behind : List ℕ) (at j n : ℕ) → length front ≡ at → j + n ≤ length part
    → range_at (at + j) n (front ++ (part ++ behind)) ≡ range_at j n part
range_in_part front part behind at j n long within =
    ap (λ (l : List ℕ). take n l) (sym (drop-drop j at (front ++ (part ++ behind))))
    ∙ ap (λ (l : List ℕ). take n (drop j l)) (drop_at front (part ++ behind) at long)
    ∙ ap (λ (l : List ℕ). take n l) (drop-append-le j part behind (omega arith))
    ∙ take-append-le n (drop j part) behind (omega (arith, length-drop j part))

-- a write to the middle part
put_in_part : (front part behind piece : List ℕ) (at j : ℕ) → length front ≡ at → j + length piece ≤ length part
    → put_at (at + j) piece (front ++ (part ++ behind)) ≡ front ++ (put_at j piece part ++ behind)
put_in_part front part behind piece at j long within =
    let rest : List ℕ = drop (j + length piece) part in
    let whole : List ℕ = front ++ (part ++ behind) in
    let place : at + j ≡ length front + j = omega arith in
    let end : at + j + length piece ≡ length front + (j + length piece) = omega arith in
    let head : take (at + j) whole ≡ front ++ take j part =
    ap (λ (n : ℕ). take n whole) place ∙ take-append-add front (part ++ behind) j ∙ ap (λ (l : List ℕ). front ++ l) (take-append-le j part behind (omega arith)) in
    let tail : drop (at + j + length piece) whole ≡ rest ++ behind =
    ap (λ (n : ℕ). drop n whole) end ∙ drop-append-add front (part ++ behind) (j + length piece) ∙ drop-append-le (j + length piece) part behind within in
    ap (λ (l : List ℕ). l ++ (piece ++ drop (at + j + length piece) whole)) head
    ∙ ap (λ (l : List ℕ). (front ++ take j part) ++ (piece ++ l)) tail
    ∙ append_assoc front (take j part) (piece ++ (rest ++ behind))
    ∙ ap (λ (l : List ℕ). front ++ (take j part ++ l)) (sym (append_assoc piece rest behind))
    ∙ ap (λ (l : List ℕ). front ++ l) (sym (append_assoc (take j part) (piece ++ rest) behind))

length-page_at : (kept : List ℕ) (place : ℕ) → 4096 * place ≤ length kept → length (page_at kept place) ≡ 4096
length-page_at kept zero within = length-replicate {A = ℕ} 4096 0
length-page_at kept (suc k) within = length-range_at (4096 * k) 4096 kept (omega arith)

pub length-pages_at : (kept places : List ℕ) → ((i : ℕ) → i < length places → 4096 * get_or places i 0 ≤ length kept)
    → length (pages_at kept places) ≡ 4096 * length places
length-pages_at kept [] named = refl
length-pages_at kept (place ∷ places) named =
    let here : length (page_at kept place) ≡ 4096 = length-page_at kept place (named 0 (omega arith)) in
    let rest : length (pages_at kept places) ≡ 4096 * length places = length-pages_at kept places (λ i below. named (suc i) (omega arith)) in
    length-append (page_at kept place) (pages_at kept places) ∙ omega (arith, here, rest)

-- the pages of one list of places are those of another where each is
same_pages : (old new ps qs : List ℕ) → length qs ≡ length ps → ((i : ℕ) → i < length ps → page_at new (get_or qs i 0) ≡ page_at old (get_or ps i 0))
    → pages_at new qs ≡ pages_at old ps
same_pages old new [] [] long same = refl
same_pages old new [] (q ∷ qs) long same = absurd (omega (arith, long))
same_pages old new (p ∷ ps) [] long same = absurd (omega (arith, long))
same_pages old new (p ∷ ps) (q ∷ qs) long same =
    ap (λ (l : List ℕ). l ++ pages_at new qs) (same 0 (omega arith))
    ∙ ap (λ (l : List ℕ). page_at old p ++ l) (same_pages old new ps qs (omega arith) (λ i below. same (suc i) (omega arith)))

-- the pages before one, that page, and those after it
split_pages : (kept places : List ℕ) (i : ℕ) → i < length places
    → pages_at kept places ≡ pages_at kept (take i places) ++ (page_at kept (get_or places i 0) ++ pages_at kept (drop (i + 1) places))
split_pages kept places i below =
    ap (λ (l : List ℕ). pages_at kept l) (sym (take-append-drop i places))
    ∙ flat_map-append (page_at kept) (take i places) (drop i places)
    ∙ ap (λ (l : List ℕ). pages_at kept (take i places) ++ pages_at kept l) (drop_more places i 0 below)

-- the pages before one are full
length_before : (kept places : List ℕ) (i : ℕ) → AreKept kept places → i < length places → length (pages_at kept (take i places)) ≡ 4096 * i
length_before kept places i are below =
    let long : length (take i places) ≡ i = length-take-le i places (omega arith) in
    length-pages_at kept (take i places) (λ x before. let at_x : get_or (take i places) x 0 ≡ get_or places x 0 = get_or-take i places x 0 (omega (arith, long)) in
    subst (λ (place : ℕ). 4096 * place ≤ length kept) (sym at_x) (are.named x (omega (arith, long)))) ∙ ap (λ (n : ℕ). 4096 * n) long

-- a range within one page
pub range_of_page : (kept places : List ℕ) (i j n : ℕ) → AreKept kept places → i < length places → j + n ≤ 4096
    → range_at (4096 * i + j) n (pages_at kept places) ≡ range_at j n (page_at kept (get_or places i 0))
range_of_page kept places i j n are below within =
    ap (λ (l : List ℕ). range_at (4096 * i + j) n l) (split_pages kept places i below)
    ∙ range_in_part (pages_at kept (take i places)) (page_at kept (get_or places i 0)) (pages_at kept (drop (i + 1) places)) (4096 * i) j n (length_before kept places i are below)
    (omega (arith, length-page_at kept (get_or places i 0) (are.named i below), within))

-- a write to a kept page leaves each other one
other_page : (kept piece : List ℕ) (k j m : ℕ) → m ≢ suc k → 4096 * m ≤ length kept → 4096 * suc k ≤ length kept → j + length piece ≤ 4096
    → page_at (put_at (4096 * k + j) piece kept) m ≡ page_at kept m
other_page kept piece k j zero other long room within = refl
other_page kept piece k j (suc l) other long room within =
    elim (cases_lt l k) [
      | inl before ↦ range_at-put_at_outside (4096 * l) 4096 (4096 * k + j) piece kept (omega arith) (inl (omega arith))
      | inr from ↦ elim (cases_eq l k) [
        | inl same ↦ absurd (other (ap suc same))
        | inr differs ↦ let behind : k < l = omega (arith, from, differs) in
            range_at-put_at_outside (4096 * l) 4096 (4096 * k + j) piece kept (omega arith) (inr (omega arith))
      ]
    ]

-- a write to a kept page is a write at its place
pub put_to_page : (kept new places piece : List ℕ) (i j k : ℕ) → AreKept kept places → i < length places → get_or places i 0 ≡ suc k → j + length piece ≤ 4096
    → new ≡ put_at (4096 * k + j) piece kept → pages_at new places ≡ put_at (4096 * i + j) piece (pages_at kept places)
put_to_page kept new places piece i j k are below at_i within is =
    let put : List ℕ = put_at (4096 * k + j) piece kept in
    let room : 4096 * suc k ≤ length kept = subst (λ (place : ℕ). 4096 * place ≤ length kept) at_i (are.named i below) in
    let other : (x : ℕ) → x < length places → x ≢ i → page_at put (get_or places x 0) ≡ page_at kept (get_or places x 0) = λ x inside differs.
    other_page kept piece k j (get_or places x 0) (λ same. let none : get_or places x 0 ≡ 0 = are.apart x i inside below differs (same ∙ sym at_i) in absurd (omega (arith, same, none)))
    (are.named x inside) room within in
    let before_long : length (take i places) ≡ i = length-take-le i places (omega arith) in
    let before : pages_at put (take i places) ≡ pages_at kept (take i places) = same_pages kept put (take i places) (take i places) refl
    (λ x under. let at_x : get_or (take i places) x 0 ≡ get_or places x 0 = get_or-take i places x 0 (omega (arith, before_long)) in
    subst (λ (place : ℕ). page_at put place ≡ page_at kept place) (sym at_x) (other x (omega (arith, before_long)) (λ same. absurd (omega (arith, same, before_long))))) in
    let behind : pages_at put (drop (i + 1) places) ≡ pages_at kept (drop (i + 1) places) = same_pages kept put (drop (i + 1) places) (drop (i + 1) places) refl
    (λ x under. subst (λ (place : ℕ). page_at put place ≡ page_at kept place) (sym (get_or-drop (i + 1) places x 0))
    (other (i + 1 + x) (omega (arith, length-drop (i + 1) places)) (λ same. absurd (omega (arith, same))))) in
    let here : page_at put (get_or places i 0) ≡ put_at j piece (page_at kept (get_or places i 0)) =
    subst (λ (place : ℕ). page_at put place ≡ put_at j piece (page_at kept place)) (sym at_i) (range_at-put_at_part j (4096 * k) 4096 piece kept within (omega arith)) in
    ap (λ (l : List ℕ). pages_at l places) is
    ∙ split_pages put places i below
    ∙ ap (λ (l : List ℕ). l ++ (page_at put (get_or places i 0) ++ pages_at put (drop (i + 1) places))) before
    ∙ ap (λ (l : List ℕ). pages_at kept (take i places) ++ (l ++ pages_at put (drop (i + 1) places))) here
    ∙ ap (λ (l : List ℕ). pages_at kept (take i places) ++ (put_at j piece (page_at kept (get_or places i 0)) ++ l)) behind
    ∙ sym (put_in_part (pages_at kept (take i places)) (page_at kept (get_or places i 0)) (pages_at kept (drop (i + 1) places)) piece (4096 * i) j (length_before kept places i are below)
    (omega (arith, length-page_at kept (get_or places i 0) (are.named i below), within)))
    ∙ ap (λ (l : List ℕ). put_at (4096 * i + j) piece l) (sym (split_pages kept places i below))

pub count_most : (places : List ℕ) → kept_count places ≤ length places
count_most [] = omega arith
count_most (zero ∷ places) = omega (arith, count_most places)
count_most (suc k ∷ places) = omega (arith, count_most places)

pub count_more : (places : List ℕ) (i k : ℕ) → i < length places → get_or places i 0 ≡ 0 → kept_count (set places i (suc k)) ≡ suc (kept_count places)
count_more [] i k below zeros = absurd (omega (arith, below))
count_more (zero ∷ places) zero k below zeros = refl
count_more (suc p ∷ places) zero k below zeros = absurd (omega (arith, zeros))
count_more (zero ∷ places) (suc i) k below zeros = count_more places i k (omega arith) zeros
count_more (suc p ∷ places) (suc i) k below zeros = ap suc (count_more places i k (omega arith) zeros)

-- a page that is kept stays after others
front_page : (kept more : List ℕ) (place : ℕ) → 4096 * place ≤ length kept → page_at (kept ++ more) place ≡ page_at kept place
front_page kept more zero within = refl
front_page kept more (suc k) within =
    ap (λ (l : List ℕ). take 4096 l) (drop-append-le (4096 * k) kept more (omega arith))
    ∙ take-append-le 4096 (drop (4096 * k) kept) more (omega (arith, length-drop (4096 * k) kept))

last_page : (kept more : List ℕ) (n : ℕ) → length kept ≡ 4096 * n → length more ≡ 4096 → page_at (kept ++ more) (suc n) ≡ more
last_page kept more n long more_long =
    ap (λ (l : List ℕ). take 4096 l) (drop_at kept more (4096 * n) long) ∙ take_all 4096 more (omega arith)

-- the pages with one more kept, which is zeros
more_pages : (kept zeros places : List ℕ) (i n : ℕ) → AreKept kept places → i < length places → get_or places i 0 ≡ 0 → length kept ≡ 4096 * n
    → zeros ≡ replicate 4096 0 → pages_at (kept ++ zeros) (set places i (suc n)) ≡ pages_at kept places
more_pages kept zeros places i n are below at_i long zeros_is =
    let qs : List ℕ = set places i (suc n) in
    let zeros_long : length zeros ≡ 4096 = ap length zeros_is ∙ length-replicate {A = ℕ} 4096 0 in
    let here : page_at (kept ++ zeros) (get_or qs i 0) ≡ page_at kept (get_or places i 0) =
    ap (λ (place : ℕ). page_at (kept ++ zeros) place) (get_or-set_same places i (suc n) 0 below) ∙ last_page kept zeros n long zeros_long ∙ zeros_is
    ∙ ap (λ (place : ℕ). page_at kept place) (sym at_i) in
    same_pages kept (kept ++ zeros) places qs (length-set places i (suc n)) (λ x inside. elim (cases_eq x i) [
      | inl same ↦ subst (λ (y : ℕ). page_at (kept ++ zeros) (get_or qs y 0) ≡ page_at kept (get_or places y 0)) (sym same) here
      | inr differs ↦ ap (λ (place : ℕ). page_at (kept ++ zeros) place) (get_or-set_other places i x (suc n) 0 differs) ∙ front_page kept zeros (get_or places x 0) (are.named x inside)
    ])

more_apart : (kept places : List ℕ) (i n x y : ℕ) → AreKept kept places → i < length places → length kept ≡ 4096 * n → x < length places → y < length places → x ≢ y
    → get_or (set places i (suc n)) x 0 ≡ get_or (set places i (suc n)) y 0 → get_or (set places i (suc n)) x 0 ≡ 0
more_apart kept places i n x y are below long x_in y_in differ same =
    let qs : List ℕ = set places i (suc n) in
    let at_i : get_or qs i 0 ≡ suc n = get_or-set_same places i (suc n) 0 below in
    elim (cases_eq x i) [
      | inl x_i ↦ let y_other : y ≢ i = λ y_i. differ (x_i ∙ sym y_i) in
          let at_x : get_or qs x 0 ≡ suc n = ap (λ (z : ℕ). get_or qs z 0) x_i ∙ at_i in
          let at_y : get_or qs y 0 ≡ get_or places y 0 = get_or-set_other places i y (suc n) 0 y_other in
          absurd (omega (arith, at_x, at_y, same, are.named y y_in, long))
      | inr x_other ↦ let at_x : get_or qs x 0 ≡ get_or places x 0 = get_or-set_other places i x (suc n) 0 x_other in
          elim (cases_eq y i) [
            | inl y_i ↦ let at_y : get_or qs y 0 ≡ suc n = ap (λ (z : ℕ). get_or qs z 0) y_i ∙ at_i in
                absurd (omega (arith, at_x, at_y, same, are.named x x_in, long))
            | inr y_other ↦ let at_y : get_or qs y 0 ≡ get_or places y 0 = get_or-set_other places i y (suc n) 0 y_other in
                at_x ∙ are.apart x y x_in y_in differ (sym at_x ∙ same ∙ at_y)
          ]
    ]

more_kept : (kept new places : List ℕ) (i n : ℕ) → AreKept kept places → i < length places → get_or places i 0 ≡ 0 → length kept ≡ 4096 * n → length new ≡ 4096 * suc n
    → AreKept new (set places i (suc n))
more_kept kept new places i n are below zeros long new_long =
    let qs : List ℕ = set places i (suc n) in
    let many : length qs ≡ length places = length-set places i (suc n) in
    record {
      named = λ x inside. elim (cases_eq x i) [
        | inl same ↦ let at_x : get_or qs x 0 ≡ suc n = ap (λ (z : ℕ). get_or qs z 0) same ∙ get_or-set_same places i (suc n) 0 below in omega (arith, at_x, new_long)
        | inr differs ↦ let at_x : get_or qs x 0 ≡ get_or places x 0 = get_or-set_other places i x (suc n) 0 differs in
            omega (arith, at_x, are.named x (omega (arith, inside, many)), long, new_long)
      ];
      apart = λ x y x_in y_in. more_apart kept places i n x y are below long (omega (arith, x_in, many)) (omega (arith, y_in, many));
      many = omega (arith, new_long, count_more places i n below zeros, are.many, long);
    }

-- what keeping a page that is zeros gives
pub record KeepsOne (kept new places : List ℕ) (qs : List ℕ) (i : ℕ) : Type 0 where
  pub same : pages_at new qs ≡ pages_at kept places
  pub are : AreKept new qs
  pub place : get_or qs i 0 ≢ 0

pub keeps_one : (kept new places qs : List ℕ) (i v : ℕ) → AreKept kept places → i < length places → get_or places i 0 ≡ 0 → new ≡ kept ++ replicate 4096 0
    → v ≡ length new / 4096 → qs ≡ set places i v → KeepsOne kept new places qs i
keeps_one kept new places qs i v are below zeros new_is v_is qs_is =
    let n : ℕ = kept_count places in
    let long : length kept ≡ 4096 * n = are.many in
    let new_long : length new ≡ 4096 * suc n = ap length new_is ∙ length-append kept (replicate 4096 0) ∙ omega (arith, long, length-replicate {A = ℕ} 4096 0) in
    let v_suc : v ≡ suc n = omega (arith, v_is, new_long) in
    let set_is : qs ≡ set places i (suc n) = qs_is ∙ ap (λ (z : ℕ). set places i z) v_suc in
    let at_i : get_or qs i 0 ≡ suc n = ap (λ (l : List ℕ). get_or l i 0) set_is ∙ get_or-set_same places i (suc n) 0 below in
    record {
      same = ap (λ (l : List ℕ). pages_at l qs) new_is ∙ ap (λ (l : List ℕ). pages_at (kept ++ replicate 4096 0) l) set_is
          ∙ more_pages kept (replicate 4096 0) places i n are below zeros long refl;
      are = subst (λ (l : List ℕ). AreKept new l) (sym set_is) (more_kept kept new places i n are below zeros long new_long);
      place = λ none. absurd (omega (arith, none, at_i));
    }

pub keeps_same : (kept new places : List ℕ) (i v : ℕ) → AreKept kept places → i < length places → get_or places i 0 ≡ 0 → new ≡ kept ++ replicate 4096 0
    → v ≡ length new / 4096 → pages_at new (set places i v) ≡ pages_at kept places
keeps_same kept new places i v are below zeros new_is v_is = (keeps_one kept new places (set places i v) i v are below zeros new_is v_is refl).same

pub keeps_kept : (kept new places : List ℕ) (i v : ℕ) → AreKept kept places → i < length places → get_or places i 0 ≡ 0 → new ≡ kept ++ replicate 4096 0
    → v ≡ length new / 4096 → AreKept new (set places i v)
keeps_kept kept new places i v are below zeros new_is v_is = (keeps_one kept new places (set places i v) i v are below zeros new_is v_is refl).are

-- there is room for one more page
pub room_for_page : (kept places : List ℕ) (i capacity : ℕ) → AreKept kept places → i < length places → get_or places i 0 ≡ 0 → 4096 * length places ≤ capacity
    → length kept + 4096 ≤ capacity
room_for_page kept places i capacity are below zeros room =
    let n : ℕ = kept_count places in
    let more : kept_count (set places i (suc n)) ≡ suc n = count_more places i n below zeros in
    omega (arith, are.many, more, count_most (set places i (suc n)), length-set places i (suc n), room)

-- a page of zeros after the kept ones
pub zeros_added : (kept new : List ℕ) (end : ℕ) → end ≡ length kept + 4096 → new ≡ take end kept ++ replicate (end - length kept) 0 → new ≡ kept ++ replicate 4096 0
zeros_added kept new end end_is is =
    let more : end - length kept ≡ 4096 = omega arith in
    is ∙ ap (λ (l : List ℕ). l ++ replicate (end - length kept) 0) (take_all end kept (omega arith)) ∙ ap (λ (n : ℕ). kept ++ replicate n 0) more

-- what is read of a page of zeros, and of a kept page
pub read_zeros : (kept new : List ℕ) (place from n : ℕ) → place ≡ 0 → from + n ≤ 4096 → new ≡ replicate n 0 → new ≡ range_at from n (page_at kept place)
read_zeros kept new zero from n none within is =
    is ∙ sym (ap (λ (l : List ℕ). take n l) (drop-replicate {X = ℕ} from 4096 0) ∙ take-replicate {X = ℕ} n (4096 - from) 0 (omega arith))
read_zeros kept new (suc k) from n none within is = absurd (omega (arith, none))

pub read_kept : (kept new : List ℕ) (place from n : ℕ) → place ≢ 0 → from + n ≤ 4096 → new ≡ range_at ((place - 1) * 4096 + from) n kept
    → new ≡ range_at from n (page_at kept place)
read_kept kept new zero from n some within is = absurd (some refl)
read_kept kept new (suc k) from n some within is =
    let place : (suc k - 1) * 4096 + from ≡ 4096 * k + from = omega arith in
    is ∙ ap (λ (p : ℕ). range_at p n kept) place ∙ sym (range_at-range_at from n (4096 * k) 4096 kept within)

-- a range within one page, by its place
pub read_place_is : (kept new places : List ℕ) (at n place : ℕ) → AreKept kept places → at < 4096 * length places → at % 4096 + n ≤ 4096
    → place ≡ get_or places (at / 4096) 0 → new ≡ range_at (at % 4096) n (page_at kept place) → new ≡ range_at at n (pages_at kept places)
read_place_is kept new places at n place are below within place_is is =
    let whole : at ≡ 4096 * (at / 4096) + at % 4096 = omega arith in
    is ∙ ap (λ (p : ℕ). range_at (at % 4096) n (page_at kept p)) place_is
    ∙ sym (range_of_page kept places (at / 4096) (at % 4096) n are (omega (arith, below)) within)
    ∙ ap (λ (p : ℕ). range_at p n (pages_at kept places)) (sym whole)

-- a write within one page, by its place
pub write_place_is : (old kept new places piece : List ℕ) (at place : ℕ) → AreKept kept places → at < 4096 * length places → at % 4096 + length piece ≤ 4096
    → place ≡ get_or places (at / 4096) 0 → place ≢ 0 → new ≡ put_at ((place - 1) * 4096 + at % 4096) piece kept → pages_at kept places ≡ old
    → pages_at new places ≡ put_at at piece old
write_place_is old kept new places piece at place are below within place_is some is same =
    let whole : at ≡ 4096 * (at / 4096) + at % 4096 = omega arith in
    let at_i : get_or places (at / 4096) 0 ≡ suc (place - 1) = omega (arith, place_is, some) in
    let start : (place - 1) * 4096 + at % 4096 ≡ 4096 * (place - 1) + at % 4096 = omega arith in
    put_to_page kept new places piece (at / 4096) (at % 4096) (place - 1) are (omega (arith, below)) at_i within (is ∙ ap (λ (p : ℕ). put_at p piece kept) start)
    ∙ ap (λ (p : ℕ). put_at p piece (pages_at kept places)) (sym whole)
    ∙ ap (λ (l : List ℕ). put_at at piece l) same

-- an end within the pages
pub within_pages : (kept places pages : List ℕ) (end : ℕ) → AreKept kept places → pages_at kept places ≡ pages → end ≤ length pages → end ≤ 4096 * length places
within_pages kept places pages end are is within =
    let long : length pages ≡ 4096 * length places = ap length (sym is) ∙ length-pages_at kept places are.named in
    omega (arith, long, within)

pub zeros_all : (kept : List ℕ) (count : ℕ) → pages_at kept (replicate count 0) ≡ replicate (4096 * count) 0
zeros_all kept zero = refl
zeros_all kept (suc count) =
    let sum : 4096 + 4096 * count ≡ 4096 * suc count = omega arith in
    ap (λ (l : List ℕ). replicate 4096 0 ++ l) (zeros_all kept count) ∙ replicate-append-replicate 4096 (4096 * count) 0 ∙ ap (λ (n : ℕ). replicate n 0) sum

no_zero : (count i : ℕ) → ◌≡◌ {A = ℕ} (get_or (replicate count 0) i 0) 0
no_zero zero i = refl
no_zero (suc count) zero = refl
no_zero (suc count) (suc i) = no_zero count i

none_counted : (count : ℕ) → kept_count (replicate count 0) ≡ 0
none_counted zero = refl
none_counted (suc count) = none_counted count

pub none_kept : (count : ℕ) → AreKept [] (replicate count 0)
none_kept count = record {
  named = λ i below. omega (arith, no_zero count i);
  apart = λ i j i_in j_in differ same. no_zero count i;
  many = let none = none_counted count in omega (arith, none);
}

pub zeros_by : (kept places : List ℕ) (count : ℕ) → places ≡ replicate count 0 → pages_at kept places ≡ replicate (4096 * count) 0
zeros_by kept places count is = ap (λ (l : List ℕ). pages_at kept l) is ∙ zeros_all kept count

pub none_by : (kept places : List ℕ) (count : ℕ) → kept ≡ [] → places ≡ replicate count 0 → AreKept kept places
none_by kept places count none is = subst (λ (l : List ℕ). AreKept l places) (sym none) (subst (λ (l : List ℕ). AreKept [] l) (sym is) (none_kept count))
