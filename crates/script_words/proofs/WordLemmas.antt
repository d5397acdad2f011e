-- The words of a text, cut at its first space.
use Rattle.std.proofs.Common.{◌≡◌, ◌≢◌, ℕ, ◌+◌, ◌-◌, ◌<◌, Bool, true, false, eqb, cond, List, [], ◌∷◌, ◌++◌, length, get_or, take, drop, refl, sym, ◌∙◌, ap, arith, ⊎_elim}
use Rattle.std.proofs.lemmas.Bool.Decides.{eqb_tells}
use Rattle.std.proofs.lemmas.List.{take_rest}
use Rattle.std.proofs.lemmas.List.Splits.{length-slice_split}
use Rattle.std.specs.List.{onto_first}
use Rattle.script_words.specs.Pieces.{HasNo}
use Rattle.script_words.specs.Words.{words}
use Rattle.script_words.proofs.Feeds.{cut_at}

not_space : (b : ℕ) → b ≢ 32 → eqb b 32 ≡ false
not_space b other = ⊎_elim (λ is. absurd (other is.1)) (λ is. is.0) (eqb_tells b 32)

-- a byte that is no space stands in front of the first word
pub words_cons : (b : ℕ) (bs : List ℕ) → b ≢ 32 → words (b ∷ bs) ≡ onto_first b (words bs)
words_cons b bs other = ap (λ (t : Bool). cond t ([] ∷ words bs) (onto_first b (words bs))) (not_space b other)

-- a text without a space is one word
pub words_none : (text : List ℕ) → HasNo 32 text → words text ≡ text ∷ []
words_none [] clean = refl
words_none (b ∷ bs) clean = words_cons b bs clean.0 ∙ ap (λ (ws : List (List ℕ)). onto_first b ws) (words_none bs clean.1)

-- the word before the first space
pub words_space : (xs ys : List ℕ) → HasNo 32 xs → words (xs ++ 32 ∷ ys) ≡ xs ∷ words ys
words_space [] ys clean = refl
words_space (x ∷ xs) ys clean = words_cons x (xs ++ 32 ∷ ys) clean.0 ∙ ap (λ (ws : List (List ℕ)). onto_first x ws) (words_space xs ys clean.1)

-- the word before the first space, which stands at n, and the text after it as a slice gives it
pub words_cut : (text : List ℕ) (n : ℕ) → HasNo 32 (take n text) → n < length text → eqb (get_or text n 0) 32 ≡ true
    → words text ≡ take n text ∷ words (take (length text - (n + 1)) (drop (n + 1) text))
words_cut text n clean lt is =
    ap (λ (l : List ℕ). words l) (cut_at 32 text n lt is)
    ∙ words_space (take n text) (drop (n + 1) text) clean
    ∙ ap (λ (l : List ℕ). take n text ∷ words l) (sym (take_rest text (n + 1)))

-- there is at least one word
pub words_some : (text : List ℕ) → 0 < length (words text)
words_some text = omega (arith, length-slice_split (λ b. eqb b 32) text)
