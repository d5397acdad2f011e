-- A script, line after line.
use Rattle.std.proofs.Common.{◌≡◌, ℕ, ◌+◌, ◌<◌, ◌≤◌, List, [], ◌∷◌, ◌++◌, length, sym, ◌∙◌, ap, subst, length-append, arith, true, false, Option, refl}
use Rattle.domain_script.specs.declared.event.DiskDecl.{DiskDecl}
use Rattle.domain_script.specs.declared.event.Event.{Event}
use Rattle.domain_script.specs.declared.event.Event.TheVariants as line
use Rattle.domain_script.specs.declared.event.PortDecl.{PortDecl}
use Rattle.domain_script.specs.Declarations.{AreDeclared, AreDisks, addresses}
use Rattle.domain_script.specs.NamesState.{NamesState, declared_by, noted}
use Rattle.domain_script.specs.Spells.{Spells}
use Rattle.domain_script.proofs.Disks.{are_disks_push, are_ports_push}
use Rattle.domain_script.proofs.Firsts.{differ_push}
use Rattle.domain_script.proofs.ScriptLemmas.{taken_more, taken_none}
use Rattle.domain_script.proofs.Spelling.{Declares, DeclaresPort, declared_first, port_declared_first}
use Rattle.script_reader.specs.declared.lines.LinesStop.{LinesStop}
use Rattle.script_reader.specs.declared.lines.LinesStop.TheVariants.{Going}
use Rattle.ldom_report.specs.LinesEnd.{counted_lines}
use Rattle.ldom_report.specs.declared.status.Status.{Status}
use Rattle.ldom_report.specs.declared.status.Status.TheVariants as status
use Rattle.script_reader.specs.LinesState.{AllFed, LinesState, to_come}
use Rattle.script_laws.specs.Attached.{AreOpening, is_opening}
use Rattle.script_laws.specs.Opening.{Opens, OpensAndStops}
use Rattle.script_laws.specs.Reading.{HoldsLess, ReadsEvent, StopsAt}
use Rattle.domain_script.specs.ScriptEvents.{AllSpell, no_names}
use Rattle.script_laws.specs.Script.{ReadSoFar}
use Rattle.script_reader.proofs.FedLines.{fed_more, fed_none}
use Rattle.script_laws.proofs.LineCases.{ends, noted_disks, noted_ports, stays_ended}

pub spell_more : (texts : List (List ℕ)) (text : List ℕ) (first names after : NamesState) (events : List Event) (event : Event) → AllSpell texts first events names → Spells text names event → after ≡ noted names event
    → AllSpell (texts ++ text ∷ []) first (events ++ event ∷ []) after
spell_more [] text first names after [] event before spells is = (subst (λ (n : NamesState). Spells text n event) before spells, is ∙ ap (λ (n : NamesState). noted n event) before)
spell_more [] text first names after (e ∷ events) event before spells is = absurd before
spell_more (t ∷ texts) text first names after [] event before spells is = absurd before
spell_more (t ∷ texts) text first names after (e ∷ events) event before spells is = (before.0, spell_more texts text (noted first e) names after events event before.1 spells is)

-- one more line
abbrev pub read_more : {stop : LinesStop} (start rest left : Option (List ℕ)) (events : List Event) (event : Event) (names after : NamesState) (count next : ℕ) → ReadSoFar start rest events names count → ReadsEvent stop rest left names event after
    → next ≡ count + 1 → next ≤ 20000 → ReadSoFar start left (events ++ event ∷ []) after next
read_more start rest left events event names after count next so_far reads is few = record {
  texts = so_far.texts ++ reads.text ∷ [];
  taken = taken_more start rest left so_far.texts reads.text so_far.taken reads.taken reads.short (omega (arith, few, is, so_far.counts));
  spell = spell_more so_far.texts reads.text no_names names after events event so_far.spell reads.spells reads.noted_is;
  counts = is ∙ ap (λ (n : ℕ). n + 1) so_far.counts ∙ sym (length-append so_far.texts (reads.text ∷ []));
}

-- no line yet
abbrev pub read_none : (start : Option (List ℕ)) (names : NamesState) (count : ℕ) → names ≡ no_names → count ≡ 0 → ReadSoFar start start [] names count
read_none start names count is zero = record { texts = []; taken = taken_none start; spell = is; counts = zero }

-- blank lines and declarations so far, each with its line feed where the reader goes on
pub record OpensSoFar (stop : LinesStop) (start left : Option (List ℕ)) (names : NamesState) (count : ℕ) : Type 0 where
  pub opening : List Event
  pub are : AreOpening opening
  pub read : ReadSoFar start left opening names count
  pub feeds : stop ≡ Going → AllFed start left read.texts

pub opens_none : (stop : LinesStop) (start : Option (List ℕ)) (names : NamesState) (count : ℕ) → names ≡ no_names → count ≡ 0 → OpensSoFar stop start start names count
opens_none stop start names count is zero = record { opening = []; are = tt; read = read_none start names count is zero; feeds = λ _. fed_none start }

pub opening-append : (events more : List Event) → AreOpening events → AreOpening more → AreOpening (events ++ more)
opening-append [] more first second = second
opening-append (e ∷ events) more first second = (first.0, opening-append events more first.1 second)

pub opening_halves : (events more : List Event) → AreOpening (events ++ more) → AreOpening events × AreOpening more
opening_halves [] more are = (tt, are)
opening_halves (e ∷ events) more are = let halves = opening_halves events more are.1 in ((are.0, halves.0), halves.1)

-- a line that is neither blank nor a declaration
pub other_line : (event : Event) → (AreOpening (event ∷ []) → ⊥) → is_opening event ≡ false
other_line event other = grind arith

pub opens_more : (was stop : LinesStop) (start rest left : Option (List ℕ)) (event : Event) (names after : NamesState) (count next : ℕ) → OpensSoFar was start rest names count → ReadsEvent stop rest left names event after → next ≡ count + 1
    → next ≤ 20000 → AreOpening (event ∷ []) → OpensSoFar stop start left after next
opens_more was stop start rest left event names after count next so_far reads is few opening = record {
  opening = so_far.opening ++ event ∷ [];
  are = opening-append so_far.opening (event ∷ []) so_far.are opening;
  read = read_more start rest left so_far.opening event names after count next so_far.read reads is few;
  feeds = fed_more stop start rest left so_far.read.texts reads.text so_far.read.taken.taken reads.ends;
}

pub opens : (was : LinesStop) (start rest : Option (List ℕ)) (reader : LinesState) (now : Option (List ℕ)) (event : Event) (names after : NamesState) (count : ℕ) → OpensSoFar was start rest names count
    → ReadsEvent reader.stop rest (to_come reader now) names event after → reader.number ≡ count + 1
    → reader.number ≤ 20000 → HoldsLess reader.held → (AreOpening (event ∷ []) → ⊥) → Opens start reader now event after
opens was start rest reader now event names after count so_far reads is few held not_opening = record {
  opening = so_far.opening;
  are = so_far.are;
  read = read_more start rest (to_come reader now) so_far.opening event names after count reader.number so_far.read reads is few;
  feeds = fed_more reader.stop start rest (to_come reader now) so_far.read.texts reads.text so_far.read.taken.taken reads.ends;
  other = not_opening;
  ended = ap (λ (n : NamesState). n.ended) reads.noted_is ∙ ends names event (other_line event not_opening);
  held = held;
}

-- no further line is taken up: a source fails where the reader goes on
pub opens_stop : (stop : LinesStop) (start rest now : Option (List ℕ)) (held : List ℕ) (names after : NamesState) (count entries lines : ℕ) (why : Status) → OpensSoFar stop start rest names count → StopsAt why rest held now names count entries
    → (why ≡ status.SourceFault → stop ≡ Going) → entries ≡ 0 → lines ≡ counted_lines why count → after ≡ names → OpensAndStops start now why after lines
opens_stop stop start rest now held names after count entries lines why so_far stops going none is same =
    subst (λ (n : NamesState). OpensAndStops start now why n lines) (sym same) (record {
      opening = so_far.opening;
      are = so_far.are;
      stopped = record {
        left = rest;
        count = count;
        read = so_far.read;
        held = held;
        stop = subst (λ (n : ℕ). StopsAt why rest held now names count n) none stops;
        feeds = λ failed. so_far.feeds (going failed);
        lines_are = is;
      };
    })

-- after the declarations none comes, so an event that is spelled is for one of the disks that were declared before
pub still_ended : {stop : LinesStop} (rest left : Option (List ℕ)) (event : Event) (names after : NamesState) → ReadsEvent stop rest left names event after → names.ended ≡ true → after.ended ≡ true
still_ended rest left event names after reads ended = ap (λ (n : NamesState). n.ended) reads.noted_is ∙ stays_ended names event ended

pub same_disks : {stop : LinesStop} (rest left : Option (List ℕ)) (event : Event) (names after : NamesState) → ReadsEvent stop rest left names event after → names.ended ≡ true → after.disks ≡ names.disks
same_disks rest left event names after reads ended = grind (arith, noted_disks, declared_first)

pub same_ports : {stop : LinesStop} (rest left : Option (List ℕ)) (event : Event) (names after : NamesState) → ReadsEvent stop rest left names event after → names.ended ≡ true → after.ports ≡ names.ports
same_ports rest left event names after reads ended = grind (arith, noted_ports, port_declared_first)

-- WHAT A SCRIPT DECLARES: one more disk, one more port
one_more : (few : ℕ) (more : ℕ) → few < 8 → more ≡ few + 1 → more ≤ 8
one_more few more less is = omega (arith, less, is)

disk_noted : (names : NamesState) (disk : DiskDecl) → AreDeclared (declared_by names) → Declares names disk → AreDeclared (declared_by (noted names (line.Disk disk)))
disk_noted names disk are declares = grind (arith, are_disks_push, one_more, length-append)

addresses_push : (ports : List PortDecl) (port : PortDecl) → addresses (ports ++ port ∷ []) ≡ addresses ports ++ port.address ∷ []
addresses_push [] port = refl
addresses_push (p ∷ ports) port = ap (λ (l : List (List ℕ)). p.address ∷ l) (addresses_push ports port)

port_noted : (names : NamesState) (port : PortDecl) → AreDeclared (declared_by names) → DeclaresPort names port → AreDeclared (declared_by (noted names (line.Net port)))
port_noted names port are declares = grind (arith, are_ports_push, one_more, length-append, addresses_push, differ_push)

none_noted : (names : NamesState) (event : Event) → (noted names event).disks ≡ names.disks → (noted names event).ports ≡ names.ports
    → AreDeclared (declared_by names) → AreDeclared (declared_by (noted names event))
none_noted names event disks ports are = grind arith

all_noted : (text : List ℕ) (event : Event) (names : NamesState) → Spells text names event → AreDeclared (declared_by names) → AreDeclared (declared_by (noted names event))
all_noted text event names spelled are = grind (arith, noted_disks, disk_noted, declared_first, noted_ports, port_noted, port_declared_first, none_noted)

pub are_declared : (texts : List (List ℕ)) (names after : NamesState) (events : List Event) → AreDeclared (declared_by names) → AllSpell texts names events after → AreDeclared (declared_by after)
are_declared (x ∷ xs) names after (e ∷ es) are spell = are_declared xs (noted names e) after es (all_noted x e names spell.0 are) spell.1
are_declared texts names after events are spell = grind arith

-- nothing yet
pub none_declared : AreDeclared (declared_by no_names)
none_declared = record { disks = tt; few_disks = omega arith; ports = tt; few_ports = omega arith; differ = λ j k x first second. absurd (cc first) }

pub read_declared : (start left : Option (List ℕ)) (events : List Event) (names : NamesState) (count : ℕ) → ReadSoFar start left events names count → AreDeclared (declared_by names)
read_declared start left events names count read = are_declared read.texts no_names names events none_declared read.spell

pub read_few : (start left : Option (List ℕ)) (events : List Event) (names : NamesState) (count : ℕ) → ReadSoFar start left events names count → length names.disks ≤ 8
read_few start left events names count read = (read_declared start left events names count read).few_disks

pub read_disks : (start left : Option (List ℕ)) (events : List Event) (names : NamesState) (count : ℕ) → ReadSoFar start left events names count → AreDisks names.disks
read_disks start left events names count read = (read_declared start left events names count read).disks
