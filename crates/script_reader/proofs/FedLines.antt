-- Lines that were read, each with its line feed.
use Rattle.std.proofs.Common.{◌≡◌, inl, inr, ℕ, List, [], ◌∷◌, ◌++◌, length, append_assoc, length-append, Option, Some, None, refl, sym, ◌∙◌, ap, subst, arith}
use Rattle.domain_script.specs.ScriptLines.{AreBytesOf, TakesLines, fed}
use Rattle.domain_script.proofs.ScriptLemmas.{fed-append}
use Rattle.script_reader.specs.declared.lines.LinesStop.{LinesStop}
use Rattle.script_reader.specs.declared.lines.LinesStop.TheVariants.{Going}
use Rattle.script_reader.specs.LinesState.{AllFed, HasFeed, LineEnds}

-- none yet
pub fed_none : (start : Option (List ℕ)) → AllFed start start []
fed_none None = tt
fed_none (Some bytes) = refl

-- some, and then others
pub fed_both : (start middle left : Option (List ℕ)) (xs ys : List (List ℕ)) → AllFed start middle xs → AllFed middle left ys → AllFed start left (xs ++ ys)
fed_both None middle left xs ys first second = tt
fed_both (Some bytes) None left xs ys first second = absurd first
fed_both (Some bytes) (Some rest) None xs ys first second = absurd second
fed_both (Some bytes) (Some rest) (Some left) xs ys first second =
    first ∙ ap (λ (l : List ℕ). fed xs ++ l) second ∙ sym (append_assoc (fed xs) (fed ys) left)
    ∙ ap (λ (l : List ℕ). l ++ left) (sym (fed-append xs ys))

-- a line that had its line feed came behind others, so these had theirs: behind one without it nothing is left
fed_before : (bytes rest left text : List ℕ) (texts : List (List ℕ)) → AreBytesOf texts rest bytes → rest ≡ text ++ 10 ∷ left → bytes ≡ fed texts ++ rest
fed_before bytes rest left text texts (inl first) feed = first
fed_before bytes rest left text texts (inr last) feed =
    absurd (omega (arith, ap (λ (l : List ℕ). length l) (sym last.1 ∙ feed), length-append text (10 ∷ left)))

fed_behind : (start rest left : Option (List ℕ)) (texts : List (List ℕ)) (text : List ℕ) → TakesLines start rest texts → HasFeed rest left text → AllFed start left (texts ++ text ∷ [])
fed_behind None rest left texts text taken feed = tt
fed_behind (Some bytes) None left texts text taken feed = absurd taken
fed_behind (Some bytes) (Some rest) None texts text taken feed = absurd feed
fed_behind (Some bytes) (Some rest) (Some left) texts text taken feed =
    fed_both (Some bytes) (Some rest) (Some left) texts (text ∷ []) (fed_before bytes rest left text texts taken.1 feed)
    (feed ∙ sym (append_assoc text (10 ∷ []) left))

-- so where the reader goes on
pub fed_more : (stop : LinesStop) (start rest left : Option (List ℕ)) (texts : List (List ℕ)) (text : List ℕ) → TakesLines start rest texts → LineEnds stop rest left text
    → stop ≡ Going → AllFed start left (texts ++ text ∷ [])
fed_more stop start rest left texts text taken ends going =
    fed_behind start rest left texts text taken (subst (λ (s : LinesStop). LineEnds s rest left text) going ends)
