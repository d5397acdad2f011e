-- The two parts of a line.
use Rattle.std.proofs.Common.{◌≡◌, ℕ, List, ◌++◌, Option, append_assoc, sym, subst}
use Rattle.std.specs.Prelude.{codes}
use Rattle.domain_script.specs.Declarations.{Declared}
use Rattle.gathered_text.specs.Gathered.{Gathers, WroteFront}
use Rattle.gathered_text.proofs.GatheredText.{gathers_more, wrote_front_of_more}
use Rattle.ldom_entries.specs.declared.entry.Entry.{Entry}
use Rattle.ldom_report.specs.declared.status.Mode.{Mode}
use Rattle.ldom_report.specs.EntryText.{head_text, line_text, tail_text}

-- the two parts of a line are the line
pub two_parts : (mode : Mode) (declared : Declared) (entry : Entry)
    → head_text mode declared entry ++ (tail_text entry ++ codes "\n") ≡ line_text mode declared entry
two_parts mode declared entry = sym (append_assoc (head_text mode declared entry) (tail_text entry) (codes "\n"))

-- bytes were gathered after the first of two texts; or not even that was written
pub gathers_both : (a b : Option (List ℕ)) (middle last text first second : List ℕ) → Gathers a b middle (text ++ first)
    → last ≡ middle ++ second → Gathers a b last (text ++ (first ++ second))
gathers_both a b middle last text first second gathers is =
    subst (λ (l : List ℕ). Gathers a b last l) (append_assoc text first second)
    (gathers_more a b middle last (text ++ first) second gathers is)

pub wrote_first : (a b : Option (List ℕ)) (text first second : List ℕ) → WroteFront a b (text ++ first)
    → WroteFront a b (text ++ (first ++ second))
wrote_first a b text first second wrote =
    wrote_front_of_more a b (text ++ first) second (text ++ (first ++ second)) (sym (append_assoc text first second)) wrote

pub ruleset in_two_parts = (gathers_both, wrote_first)
