-- What is written of a text, and what is still gathered.
use Rattle.std.proofs.Common.{◌≡◌, refl, ℕ, ◌+◌, ◌≤◌, List, [], ◌++◌, take, drop, Option, Result, Ok, Err, OnOk, OnErr, sym, subst, ap, ◌∙◌, append_assoc, append-nil, length, length-append, ◌<◌, inl, inr, arith}
use Rattle.std.proofs.lemmas.Bool.{cases_lt}
use Rattle.std.proofs.lemmas.List.{take-append-drop, length-drop}
use Rattle.std.proofs.Math.Seq.{take-add}
use Rattle.std.proofs.KnownBytes.{Appends-trans, Appends-kept, Appends-nil}
use Rattle.std.specs.Io.KnownBytes.{Appends, Keeps}
use Rattle.vio_io.specs.Causes.{Rose, last_count}
use Rattle.gathered_text.specs.Gathered.{Gathers, WroteFront}

pub on_err : {T E : Type 0} (r : Result T E) (P : Type 0) → P → OnErr r P
on_err (Ok x) P p = tt
on_err (Err e) P p = p

pub on_ok_then : {T E P Q : Type 0} (r : Result T E) → (P → Q) → OnOk r P → OnOk r Q
on_ok_then (Ok x) f p = f p
on_ok_then (Err e) f p = tt

pub on_err_then : {T E P Q : Type 0} (r : Result T E) → (P → Q) → OnErr r P → OnErr r Q
on_err_then (Ok x) f p = tt
on_err_then (Err e) f p = f p

-- one more piece of a list was appended
pub appends_piece : (a b c : Option (List ℕ)) (xs rest : List ℕ) (at n : ℕ) → rest ≡ drop at xs → Appends a b (take at xs) → Appends b c (take n rest) → Appends a c (take (at + n) xs)
appends_piece a b c xs rest at n is p q =
    subst (λ (l : List ℕ). Appends a c l) (ap (λ (r : List ℕ). take at xs ++ take n r) is ∙ sym (take-add at n xs))
    (Appends-trans a b c (take at xs) (take n rest) p q)

-- a call that failed wrote nothing after the front that was written
pub wrote_front_kept : (a b c : Option (List ℕ)) (xs : List ℕ) (at : ℕ) → at < length xs → Appends a b (take at xs) → Keeps b c → WroteFront a c xs
wrote_front_kept a b c xs at lt p k = record {
  front = take at xs;
  rest = drop at xs;
  more = omega (arith, lt, length-drop at xs);
  whole = sym (take-append-drop at xs);
  written = Appends-kept a b c (take at xs) p k;
}

-- nothing was written, and the text is what is gathered
pub gathers_all : (a : Option (List ℕ)) (text : List ℕ) → Gathers a a text text
gathers_all a text = record { front = []; whole = refl; written = Appends-nil a }

-- all of the text was written
pub gathers_written : (a b : Option (List ℕ)) (text gathered : List ℕ) → gathered ≡ [] → Appends a b text → Gathers a b gathered text
gathers_written a b text gathered none p = record {
  front = text;
  whole = sym (append-nil text) ∙ ap (λ (l : List ℕ). text ++ l) (sym none);
  written = p;
}

-- bytes were gathered after a text
pub gathers_more : (a b : Option (List ℕ)) (old new text bytes : List ℕ) → Gathers a b old text → new ≡ old ++ bytes → Gathers a b new (text ++ bytes)
gathers_more a b old new text bytes g is = record {
  front = g.front;
  whole = ap (λ (l : List ℕ). l ++ bytes) g.whole ∙ append_assoc g.front old bytes ∙ ap (λ (l : List ℕ). g.front ++ l) (sym is);
  written = g.written;
}

-- one step after another
pub gathers_then : (a b c : Option (List ℕ)) (first second text bytes : List ℕ) → Gathers a b first text → Gathers b c second (first ++ bytes) → Gathers a c second (text ++ bytes)
gathers_then a b c first second text bytes p q = record {
  front = p.front ++ q.front;
  whole = ap (λ (l : List ℕ). l ++ bytes) p.whole ∙ append_assoc p.front first bytes ∙ ap (λ (l : List ℕ). p.front ++ l) q.whole ∙ sym (append_assoc p.front q.front second);
  written = Appends-trans a b c p.front q.front p.written q.written;
}

-- a step that failed after another
pub wrote_front_then : (a b c : Option (List ℕ)) (first text bytes : List ℕ) → Gathers a b first text → WroteFront b c (first ++ bytes) → WroteFront a c (text ++ bytes)
wrote_front_then a b c first text bytes p q = record {
  front = p.front ++ q.front;
  rest = q.rest;
  more = q.more;
  whole = ap (λ (l : List ℕ). l ++ bytes) p.whole ∙ append_assoc p.front first bytes ∙ ap (λ (l : List ℕ). p.front ++ l) q.whole ∙ sym (append_assoc p.front q.front q.rest);
  written = Appends-trans a b c p.front q.front p.written q.written;
}

-- a front of a text is a front of a longer one
pub wrote_front_of_more : (a b : Option (List ℕ)) (text more whole : List ℕ) → whole ≡ text ++ more → WroteFront a b text → WroteFront a b whole
wrote_front_of_more a b text more whole is p = record {
  front = p.front;
  rest = p.rest ++ more;
  more = omega (arith, p.more, length-append p.rest more);
  whole = is ∙ ap (λ (l : List ℕ). l ++ more) p.whole ∙ append_assoc p.front p.rest more;
  written = p.written;
}

-- nothing is left to gather
pub appends_gathered : (a b : Option (List ℕ)) (gathered text : List ℕ) → gathered ≡ [] → Gathers a b gathered text → Appends a b text
appends_gathered a b gathered text none p =
    subst (λ (l : List ℕ). Appends a b l) (sym (p.whole ∙ ap (λ (l : List ℕ). p.front ++ l) none ∙ append-nil p.front)) p.written

-- one step after another, of a text in two parts
pub gathers_behind : (a b c : Option (List ℕ)) (first second text so_far bytes : List ℕ) → Gathers a b first (text ++ so_far) → Gathers b c second (first ++ bytes) → Gathers a c second (text ++ (so_far ++ bytes))
gathers_behind a b c first second text so_far bytes p q =
    subst (λ (l : List ℕ). Gathers a c second l) (append_assoc text so_far bytes) (gathers_then a b c first second (text ++ so_far) bytes p q)

-- a step that failed after another, and what was still to come
pub wrote_front_behind : (a b c : Option (List ℕ)) (first text so_far more whole : List ℕ) → whole ≡ so_far ++ more → Gathers a b first (text ++ so_far) → WroteFront b c first → WroteFront a c (text ++ whole)
wrote_front_behind a b c first text so_far more whole is p q = record {
  front = p.front ++ q.front;
  rest = q.rest ++ more;
  more = omega (arith, q.more, length-append q.rest more);
  whole =
      ap (λ (l : List ℕ). text ++ l) is
      ∙ sym (append_assoc text so_far more)
      ∙ ap (λ (l : List ℕ). l ++ more) (p.whole ∙ ap (λ (l : List ℕ). p.front ++ l) q.whole ∙ sym (append_assoc p.front q.front q.rest))
      ∙ append_assoc (p.front ++ q.front) q.rest more;
  written = Appends-trans a b c p.front q.front p.written q.written;
}

-- a count that rose after another
pub rose_later : (a b c : ℕ) → a ≤ b → b ≤ c → Rose b c → Rose a c
rose_later a b c ab bc rose =
    λ lt. elim (cases_lt b last_count) [
      | inl below ↦ let up : b < c = rose below in omega arith
      | inr last ↦ omega arith
    ]

-- nothing more was gathered
pub gathers_same : (a b c : Option (List ℕ)) (first second text : List ℕ) → Gathers a b first text → Gathers b c second first → Gathers a c second text
gathers_same a b c first second text p q = record {
  front = p.front ++ q.front;
  whole = p.whole ∙ ap (λ (l : List ℕ). p.front ++ l) q.whole ∙ sym (append_assoc p.front q.front second);
  written = Appends-trans a b c p.front q.front p.written q.written;
}

-- what was gathered is written at last
pub appends_last : (a b c : Option (List ℕ)) (gathered text : List ℕ) → Gathers a b gathered text → Appends b c gathered → Appends a c text
appends_last a b c gathered text p q =
    subst (λ (l : List ℕ). Appends a c l) (sym p.whole) (Appends-trans a b c p.front gathered p.written q)

-- a last step that failed
pub wrote_front_last : (a b c : Option (List ℕ)) (gathered text : List ℕ) → Gathers a b gathered text → WroteFront b c gathered → WroteFront a c text
wrote_front_last a b c gathered text p q = record {
  front = p.front ++ q.front;
  rest = q.rest;
  more = q.more;
  whole = p.whole ∙ ap (λ (l : List ℕ). p.front ++ l) q.whole ∙ sym (append_assoc p.front q.front q.rest);
  written = Appends-trans a b c p.front q.front p.written q.written;
}

-- bytes that were put last, and others after them
pub pushed_behind : (text first second middle last : List ℕ) → middle ≡ text ++ first → last ≡ middle ++ second → last ≡ text ++ (first ++ second)
pushed_behind text first second middle last p q = q ∙ ap (λ (l : List ℕ). l ++ second) p ∙ append_assoc text first second

-- a front of a text was written after another that was written whole
pub wrote_front_appended : (a b c : Option (List ℕ)) (first second : List ℕ) → Appends a b first → WroteFront b c second → WroteFront a c (first ++ second)
wrote_front_appended a b c first second p q = record {
  front = first ++ q.front;
  rest = q.rest;
  more = q.more;
  whole = ap (λ (l : List ℕ). first ++ l) q.whole ∙ sym (append_assoc first q.front q.rest);
  written = Appends-trans a b c first q.front p q.written;
}
