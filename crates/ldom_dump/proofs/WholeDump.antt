-- A script of packets alone is dumped to its end.
use Rattle.std.proofs.Common.{◌≡◌, ◌≢◌, inl, inr, ℕ, ◌<◌, ◌≤◌, ◌⊎◌, Bool, true, false, ◌==◌, if◌then◌else◌, List, [], ◌∷◌, ◌++◌, length, map, refl, ◌∙◌, ap, subst, length-append, arith, Option, Some, None}
use Rattle.std.specs.Prelude.{IfSome}
use Rattle.std.specs.Io.KnownBytes.{prepend_known}
use Rattle.std.proofs.lemmas.List.{length-map}
use Rattle.hex.proofs.HexLemmas.{decode_of-ok}
use Rattle.domain_script.specs.declared.event.LineFault.{LineFault}
use Rattle.domain_script.specs.ScriptLines.{BeginsWithLonger, TakesLine, TakesLines, script_lines, with_front}
use Rattle.ldom_report.specs.declared.status.LimitKind.TheVariants.{Lines, Bytes, Entries}
use Rattle.ldom_report.specs.declared.status.Status.{Status}
use Rattle.ldom_report.specs.declared.status.Status.TheVariants as the_status
use Rattle.ldom_dump.specs.Decoded.{Decoded}
use Rattle.ldom_dump.specs.DumpReport.{Dumps, SourceTells, Written}
use Rattle.ldom_dump.specs.Reading.{IsNoDigits, DumpStops}
use Rattle.ldom_dump.specs.Whole.{AreDigits, IsDigits, IsWholeDump}

are_behind : (xs ys : List (List ℕ)) → AreDigits (xs ++ ys) → AreDigits ys
are_behind [] ys are = are
are_behind (x ∷ xs) ys are = are_behind xs ys are.1

-- the lines that are still to come are digits too
to_come : (bytes rest : List ℕ) (texts : List (List ℕ)) → TakesLines (Some bytes) (Some rest) texts → AreDigits (script_lines bytes) → AreDigits (script_lines rest)
to_come bytes rest texts taken are = are_behind texts (script_lines rest) (subst AreDigits taken.0 are)

first_digits : (rest left : Option (List ℕ)) (line bytes : List ℕ) (texts : List (List ℕ)) → TakesLines (Some bytes) rest texts → TakesLine rest left line → AreDigits (script_lines bytes) → IsDigits line
first_digits None left line bytes texts taken next are = absurd taken
first_digits (Some rest) None line bytes texts taken next are = absurd next
first_digits (Some rest) (Some left) line bytes texts taken next are = (subst AreDigits next.0 (to_come bytes rest texts taken are)).0

no_fault : (rest left : Option (List ℕ)) (bytes : List ℕ) (texts : List (List ℕ)) (fault : LineFault) → TakesLines (Some bytes) rest texts → IsNoDigits rest left fault → AreDigits (script_lines bytes) → ⊥
no_fault rest left bytes texts fault taken is are =
    let digits = first_digits rest left is.line bytes texts taken is.taken are in
    is.nothing digits.bytes digits.spells

digits_length : (line : List ℕ) → IsDigits line → length line ≡ 128
digits_length line digits = omega (arith, (decode_of-ok line digits.bytes digits.spells.reads).2, digits.spells.size)

none_longer : (rest : Option (List ℕ)) (bytes : List ℕ) (texts : List (List ℕ)) → TakesLines (Some bytes) rest texts → IfSome rest (BeginsWithLonger 3100) → AreDigits (script_lines bytes) → ⊥
none_longer None bytes texts taken longer are = absurd taken
none_longer (Some rest) bytes texts taken longer are =
    let digits = (subst AreDigits longer.is (to_come bytes rest texts taken are)).0 in
    omega (arith, longer.long, digits_length longer.line digits)

front_some : (b : ℕ) (lines : List (List ℕ)) → 0 < length (with_front b lines)
front_some b [] = omega arith
front_some b (line ∷ lines) = omega arith

either_some : (t : Bool) (b : ℕ) (lines : List (List ℕ)) → 0 < length (if t then [] ∷ lines else with_front b lines)
either_some true b lines = omega arith
either_some false b lines = front_some b lines

lines_some : (bytes : List ℕ) → bytes ≢ [] → 0 < length (script_lines bytes)
lines_some [] some = absurd (some refl)
lines_some (b ∷ bs) some = either_some (b == 10) b (script_lines bs)

none_more : (rest : Option (List ℕ)) (bytes : List ℕ) (texts : List (List ℕ)) → TakesLines (Some bytes) rest texts → length texts ≡ 20000 → IfSome rest (λ left. left ≢ []) → length (script_lines bytes) ≤ 20000 → ⊥
none_more None bytes texts taken all some few = absurd taken
none_more (Some rest) bytes texts taken all some few =
    omega (arith, ap (λ (l : List (List ℕ)). length l) taken.0, length-append texts (script_lines rest), lines_some rest some)

-- each other reason to end has its cause
ended : (why status : Status) (old new rest now : Option (List ℕ)) (held : List ℕ) (all : List Decoded) (bytes : List ℕ) → TakesLines (Some bytes) rest (map (λ decoded. decoded.line) all) → DumpStops why rest held now (length all) → Written why status old new all → IsWholeDump bytes
    → status ≢ the_status.SourceFault → status ≢ the_status.SinkFault → (status ≡ the_status.Done) ⊎ (status ≡ the_status.NoMemory)
ended the_status.Done status old new rest now held all bytes taken stop written whole source sink = elim written [ inl wrote ↦ inl wrote.0 | inr failed ↦ absurd (sink failed.0) ]
ended the_status.NoMemory status old new rest now held all bytes taken stop written whole source sink = elim written [ inl wrote ↦ inr wrote.0 | inr failed ↦ absurd (sink failed.0) ]
ended the_status.SourceFault status old new rest now held all bytes taken stop written whole source sink = elim written [ inl wrote ↦ absurd (source wrote.0) | inr failed ↦ absurd (sink failed.0) ]
ended the_status.SinkFault status old new rest now held all bytes taken stop written whole source sink = absurd (sink written.0)
ended (the_status.Script at fault) status old new rest now held all bytes taken stop written whole source sink = absurd (no_fault rest (prepend_known held now) bytes _ fault taken stop.reason.2 whole.digits)
ended (the_status.Limit at Bytes) status old new rest now held all bytes taken stop written whole source sink = absurd (none_longer rest bytes _ taken stop.reason.1.1 whole.digits)
ended (the_status.Limit at Entries) status old new rest now held all bytes taken stop written whole source sink = absurd stop.reason.1
ended (the_status.Limit at Lines) status old new rest now held all bytes taken stop written whole source sink =
    absurd (none_more rest bytes _ taken (length-map all (λ (d : Decoded). d.line) ∙ stop.reason.1.0) stop.reason.1.1 whole.few)
ended the_status.Usage status old new rest now held all bytes taken stop written whole source sink = absurd stop.reason
ended the_status.HostFault status old new rest now held all bytes taken stop written whole source sink = absurd stop.reason
ended the_status.StoreFault status old new rest now held all bytes taken stop written whole source sink = absurd stop.reason
ended (the_status.ImageSize need have) status old new rest now held all bytes taken stop written whole source sink = absurd stop.reason

pub completes : (before now : SourceTells) (status : Status) (old new : Option (List ℕ)) (bytes : List ℕ) → Dumps before now status old new → before.left ≡ Some bytes → IsWholeDump bytes
    → status ≢ the_status.SourceFault → status ≢ the_status.SinkFault → (status ≡ the_status.Done) ⊎ (status ≡ the_status.NoMemory)
completes before now status old new bytes dumps is whole source sink =
    ended dumps.why status old new dumps.left now.left dumps.held dumps.all bytes (subst (λ (s : Option (List ℕ)). TakesLines s dumps.left (map (λ (d : Decoded). d.line) dumps.all)) is dumps.taken.taken) dumps.stop dumps.written whole source sink
