-- The lines of a dump, one after another.
use Rattle.std.proofs.Common.{append-nil, append_assoc, ◌≡◌, ◌≢◌, inl, inr, ℕ, ◌+◌, ◌<◌, ◌≤◌, ◌⊎◌, Bool, true, false, List, [], ◌∷◌, ◌++◌, length, map, refl, sym, ◌∙◌, ap, subst, length-append, arith, Option, Some, None}
use Rattle.std.specs.Io.KnownBytes.{Appends, Keeps, prepend_known}
use Rattle.std.specs.List.{count_by}
use Rattle.std.proofs.lemmas.List.{flat_map_more, length-map, map-append}
use Rattle.std.proofs.lemmas.List.Sums.{sum_by-append}
use Rattle.std.proofs.KnownBytes.{Appends-trans}
use Rattle.domain_script.specs.ScriptLines.{LinesTaken}
use Rattle.domain_script.proofs.ScriptLemmas.{taken_more, taken_none}
use Rattle.script_reader.specs.declared.lines.LinesStop.{LinesStop}
use Rattle.script_reader.specs.declared.lines.LinesStop.TheVariants.{Going}
use Rattle.script_reader.specs.LinesState.{AllFed, HoldsFew, LinesState, most_of_a_read}
use Rattle.script_reader.proofs.FedLines.{fed_more, fed_none}
use Rattle.ldom_report.specs.declared.status.Status.{Status}
use Rattle.ldom_report.specs.declared.status.Status.TheVariants as the_status
use Rattle.gathered_text.specs.Gathered.{Gathers, WroteFront, most_gathered}
use Rattle.vio_io.specs.Causes.{Fails}
use Rattle.ldom_report.specs.LinesEnd.{counted_lines}
use Rattle.gathered_text.proofs.GatheredText.{appends_last, gathers_all, gathers_more, gathers_then}
use Rattle.ldom_dump.specs.Decoded.{AreOfLines, Decoded, IsOfLine, decoded_lines, decoded_text, is_fault, is_ok, is_packet}
use Rattle.ldom_dump.specs.declared.lines.Ended.{Ended}
use Rattle.ldom_dump.specs.DumpReport.{Dumps, SourceTells, Written, WroteMostLines, dump_text, end_line}
use Rattle.ldom_dump.specs.Going.{DumpsLines, Finishes, GathersUnlessSinkFault, PutsPacket, TellsCarried, TellsMessage}
use Rattle.ldom_report.specs.declared.status.LimitKind.TheVariants as limit
use Rattle.ldom_report.specs.declared.stop.Stop.{Stop}
use Rattle.ldom_report.specs.declared.stop.Stop.TheVariants.{End, Source, Limit, Memory, Faulty, Entries}
use Rattle.ldom_report.specs.Stops.{EndsTold, IsReaders, stop_status}
use Rattle.ldom_dump.specs.Reading.{DumpHolds, DumpStops, HasDumpReason, HoldsBehind, ReadsBytes}

-- the message that a packet carries was told
pub tells_carried : (of : Option (List ℕ)) (bytes old new : List ℕ) → of ≡ Some bytes → TellsMessage bytes old new → TellsCarried of old new
tells_carried of bytes old new is tells =
    subst (λ (o : Option (List ℕ)). TellsCarried o old new) (sym is) (record { said = Some tells.said; carries = tells.says; is = tells.is })

are_push : (all : List Decoded) (decoded : Decoded) → AreOfLines all → IsOfLine decoded → AreOfLines (all ++ decoded ∷ [])
are_push [] decoded are is = (is, tt)
are_push (d ∷ all) decoded are is = (are.0, are_push all decoded are.1 is)

-- the lines that were decoded so far; each had its line feed where the reader goes on
pub record LinesSoFar (stop : LinesStop) (start rest old new : Option (List ℕ)) (gathered : List ℕ) (count packets faults : ℕ) : Type 0 where
  pub all : List Decoded
  pub taken : LinesTaken start rest (map (λ decoded. decoded.line) all)
  pub feeds : stop ≡ Going → AllFed start rest (map (λ decoded. decoded.line) all)
  pub are : AreOfLines all
  pub counts : count ≡ length all
  pub packets_are : packets ≡ count_by is_packet all
  pub faults_are : faults ≡ count_by is_fault all
  pub gathers : Gathers old new gathered (decoded_lines all)

pub so_far_none : (stop : LinesStop) (start old : Option (List ℕ)) (gathered : List ℕ) (count : ℕ) → count ≡ 0 → gathered ≡ [] → LinesSoFar stop start start old old gathered count 0 0
so_far_none stop start old gathered count zero none = record {
  all = [];
  taken = taken_none start;
  feeds = λ _. fed_none start;
  are = tt;
  counts = zero;
  packets_are = refl;
  faults_are = refl;
  gathers = subst (λ (l : List ℕ). Gathers old old l []) (sym none) (gathers_all old []);
}

count_push : (p : Decoded → Bool) (all : List Decoded) (decoded : Decoded) (n m : ℕ) → n ≡ count_by p all → m ≡ n + count_by p (decoded ∷ []) → m ≡ count_by p (all ++ decoded ∷ [])
count_push p all decoded n m is next = next ∙ ap (λ (x : ℕ). x + count_by p (decoded ∷ [])) is ∙ sym (sum_by-append _ all (decoded ∷ []))

one_packet : (decoded : Decoded) (b : Bool) → b ≡ is_ok decoded.packet → b ≡ true → (count_by is_packet (decoded ∷ []) ≡ 1) × (count_by is_fault (decoded ∷ []) ≡ 0)
one_packet decoded b is is_one = let ok : is_ok decoded.packet ≡ true = sym is ∙ is_one in (rw ok refl, rw ok refl)

one_fault : (decoded : Decoded) (b : Bool) → b ≡ is_ok decoded.packet → b ≡ false → (count_by is_packet (decoded ∷ []) ≡ 0) × (count_by is_fault (decoded ∷ []) ≡ 1)
one_fault decoded b is is_none = let ok : is_ok decoded.packet ≡ false = sym is ∙ is_none in (rw ok refl, rw ok refl)

-- the line that was read, with what it says
abbrev read_line : (stop : LinesStop) (rest left mid new : Option (List ℕ)) (bytes gathered after : List ℕ) (whether : Bool) → ReadsBytes stop rest left bytes → PutsPacket bytes mid new gathered after whether → Decoded
read_line stop rest left mid new bytes gathered after whether reads puts = record { line = reads.line; packet = puts.tells.packet; said = puts.tells.said }

-- one line more, by how much the counts rise
so_far_more : (before stop : LinesStop) (start rest left old mid new : Option (List ℕ)) (bytes gathered after : List ℕ) (whether : Bool) (count next packets faults packets_next faults_next : ℕ)
    → LinesSoFar before start rest old mid gathered count packets faults → (reads : ReadsBytes stop rest left bytes) → next ≡ count + 1 → next ≤ 20000 → (puts : PutsPacket bytes mid new gathered after whether)
    → packets_next ≡ packets + count_by is_packet (read_line stop rest left mid new bytes gathered after whether reads puts ∷ [])
    → faults_next ≡ faults + count_by is_fault (read_line stop rest left mid new bytes gathered after whether reads puts ∷ [])
    → LinesSoFar stop start left old new after next packets_next faults_next
so_far_more before stop start rest left old mid new bytes gathered after whether count next packets faults packets_next faults_next so_far reads is few puts more_packets more_faults =
    let decoded : Decoded = read_line stop rest left mid new bytes gathered after whether reads puts in
    let text : List ℕ = decoded_text decoded in
    let here : Gathers mid new after (gathered ++ text) = gathers_more mid new puts.room after gathered text puts.wrote puts.tells.is in
    record {
      all = so_far.all ++ decoded ∷ [];
      taken =
          subst (λ (l : List (List ℕ)). LinesTaken start left l) (sym (map-append (λ (d : Decoded). d.line) so_far.all (decoded ∷ [])))
          (taken_more start rest left (map (λ (d : Decoded). d.line) so_far.all) reads.line so_far.taken reads.taken reads.short
          (omega (arith, few, is, so_far.counts, length-map so_far.all (λ (d : Decoded). d.line))));
      feeds = λ going. subst (λ (l : List (List ℕ)). AllFed start left l) (sym (map-append (λ (d : Decoded). d.line) so_far.all (decoded ∷ [])))
          (fed_more stop start rest left (map (λ (d : Decoded). d.line) so_far.all) reads.line so_far.taken.taken reads.ends going);
      are = are_push so_far.all decoded so_far.are (record { bytes = bytes; digits = reads.digits; is = record { packet = puts.tells.says; carries = puts.tells.carries } });
      counts = is ∙ ap (λ (n : ℕ). n + 1) so_far.counts ∙ sym (length-append so_far.all (decoded ∷ []));
      packets_are = count_push is_packet so_far.all decoded packets packets_next so_far.packets_are more_packets;
      faults_are = count_push is_fault so_far.all decoded faults faults_next so_far.faults_are more_faults;
      gathers =
          subst (λ (l : List ℕ). Gathers old new after l) (flat_map_more decoded_text [] so_far.all decoded)
          (gathers_then old mid new gathered after (decoded_lines so_far.all) text so_far.gathers here);
    }

-- one packet more
pub so_far_packet : (before stop : LinesStop) (start rest left old mid new : Option (List ℕ)) (bytes gathered after : List ℕ) (whether : Bool) (count next packets faults : ℕ)
    → LinesSoFar before start rest old mid gathered count packets faults → ReadsBytes stop rest left bytes → next ≡ count + 1 → next ≤ 20000 → PutsPacket bytes mid new gathered after whether → whether ≡ true
    → LinesSoFar stop start left old new after next (packets + 1) faults
so_far_packet before stop start rest left old mid new bytes gathered after whether count next packets faults so_far reads is few puts is_one =
    let one = one_packet (read_line stop rest left mid new bytes gathered after whether reads puts) whether puts.tells.whether_is is_one in
    so_far_more before stop start rest left old mid new bytes gathered after whether count next packets faults (packets + 1) faults so_far reads is few puts (omega (arith, one.0)) (omega (arith, one.1))

-- one line more that is no packet
pub so_far_fault : (before stop : LinesStop) (start rest left old mid new : Option (List ℕ)) (bytes gathered after : List ℕ) (whether : Bool) (count next packets faults : ℕ)
    → LinesSoFar before start rest old mid gathered count packets faults → ReadsBytes stop rest left bytes → next ≡ count + 1 → next ≤ 20000 → PutsPacket bytes mid new gathered after whether → whether ≡ false
    → LinesSoFar stop start left old new after next packets (faults + 1)
so_far_fault before stop start rest left old mid new bytes gathered after whether count next packets faults so_far reads is few puts is_none =
    let one = one_fault (read_line stop rest left mid new bytes gathered after whether reads puts) whether puts.tells.whether_is is_none in
    so_far_more before stop start rest left old mid new bytes gathered after whether count next packets faults packets (faults + 1) so_far reads is few puts (omega (arith, one.0)) (omega (arith, one.1))

unless_sink_fault : (why : Status) (old new : Option (List ℕ)) (gathered text : List ℕ) → IsReaders why → Gathers old new gathered text → GathersUnlessSinkFault why old new gathered text
unless_sink_fault the_status.Done old new gathered text readers g = g
unless_sink_fault the_status.Usage old new gathered text readers g = absurd readers
unless_sink_fault (the_status.Script line fault) old new gathered text readers g = g
unless_sink_fault the_status.SourceFault old new gathered text readers g = g
unless_sink_fault the_status.SinkFault old new gathered text readers g = absurd readers
unless_sink_fault the_status.HostFault old new gathered text readers g = absurd readers
unless_sink_fault the_status.StoreFault old new gathered text readers g = absurd readers
unless_sink_fault (the_status.ImageSize need have) old new gathered text readers g = absurd readers
unless_sink_fault (the_status.Limit line kind) old new gathered text readers g = g
unless_sink_fault the_status.NoMemory old new gathered text readers g = g

-- how the lines ended
abbrev pub ended_so : Status → ℕ → ℕ → ℕ → Ended
ended_so why lines packets faults = record { why = why; lines = lines; packets = packets; faults = faults }

-- no further line is read
pub lines_stop : (stop : LinesStop) (start rest now old new : Option (List ℕ)) (held : List ℕ) (ended : Ended) (gathered : List ℕ) (count : ℕ)
    → LinesSoFar stop start rest old new gathered count ended.packets ended.faults → IsReaders ended.why → DumpStops ended.why rest held now count → (ended.why ≡ the_status.SourceFault → stop ≡ Going)
    → ended.lines ≡ counted_lines ended.why count → DumpHolds ended.why held → DumpsLines start now ended old new gathered
lines_stop stop start rest now old new held ended gathered count so_far readers stops going is holds = record {
  all = so_far.all;
  left = rest;
  taken = so_far.taken;
  are = so_far.are;
  held = held;
  stop = subst (λ (n : ℕ). DumpStops ended.why rest held now n) so_far.counts stops;
  holds = holds;
  feeds = λ failed. so_far.feeds (going failed);
  lines_are = λ other. is ∙ ap (λ (n : ℕ). counted_lines ended.why n) so_far.counts;
  packets_are = so_far.packets_are;
  faults_are = so_far.faults_are;
  gathers = unless_sink_fault ended.why old new gathered (decoded_lines so_far.all) readers so_far.gathers;
}

-- how much is held where no further line was read
pub dump_holds : (stop : Stop) (at count : ℕ) (lines : LinesState) (rest left : Option (List ℕ)) → HoldsBehind stop lines.held → HasDumpReason (stop_status stop at) rest left lines.held count
    → lines.number ≡ counted_lines (stop_status stop at) count → HoldsFew lines → DumpHolds (stop_status stop at) lines.held
dump_holds End at count lines rest left behind reason number few = tt
dump_holds Source at count lines rest left behind reason number few = tt
dump_holds (Limit limit.Lines) at count lines rest left behind reason number few = few.last (number ∙ reason.1.0)
dump_holds (Limit limit.Bytes) at count lines rest left behind reason number few = few.all
dump_holds (Limit limit.Entries) at count lines rest left behind reason number few = absurd reason.1
dump_holds Memory at count lines rest left behind reason number few = tt
dump_holds (Faulty fault) at count lines rest left behind reason number few = behind
dump_holds Entries at count lines rest left behind reason number few = tt

-- the sink failed as what was gathered of these lines, and what is last, was written
most_written : (old mid new : Option (List ℕ)) (gathered lines last text : List ℕ) → text ≡ lines ++ last → Gathers old mid gathered lines → WroteFront mid new (gathered ++ last)
    → length gathered ≤ most_gathered → WroteMostLines old new lines text
most_written old mid new gathered lines last text is g wrote few = record {
  wrote = record {
    front = g.front ++ wrote.front;
    rest = wrote.rest;
    more = wrote.more;
    whole =
        is ∙ ap (λ (l : List ℕ). l ++ last) g.whole ∙ append_assoc g.front gathered last ∙ ap (λ (l : List ℕ). g.front ++ l) wrote.whole
        ∙ sym (append_assoc g.front wrote.front wrote.rest);
    written = Appends-trans old mid new g.front wrote.front g.written wrote.written;
  };
  most = omega (arith, few, ap (λ (l : List ℕ). length l) g.whole, length-append g.front gathered, length-append g.front wrote.front);
}

-- and where nothing is last
most_written_last : (old mid new : Option (List ℕ)) (gathered lines : List ℕ) → Gathers old mid gathered lines → WroteFront mid new gathered → length gathered ≤ most_gathered
    → WroteMostLines old new lines lines
most_written_last old mid new gathered lines g wrote few =
    most_written old mid new gathered lines [] lines (sym (append-nil lines)) g (subst (λ (l : List ℕ). WroteFront mid new l) (sym (append-nil gathered)) wrote) few

-- the sink failed before the next line's text was gathered
pub lines_cut : (before stop : LinesStop) (start rest now old mid new : Option (List ℕ)) (held bytes gathered after : List ℕ) (count next lines packets faults : ℕ)
    → LinesSoFar before start rest old mid gathered count packets faults → ReadsBytes stop rest (prepend_known held now) bytes → next ≡ count + 1 → next ≤ 20000 → length held < most_of_a_read
    → WroteFront mid new gathered → length gathered ≤ most_gathered → DumpsLines start now (ended_so the_status.SinkFault lines packets faults) old new after
lines_cut before stop start rest now old mid new held bytes gathered after count next lines packets faults so_far reads is few short front room = record {
  all = so_far.all;
  left = rest;
  taken = so_far.taken;
  are = so_far.are;
  held = held;
  stop = record {
    reason = omega (arith, is, few, so_far.counts);
    left = record { line = reads.line; taken = reads.taken; digits = record { bytes = bytes; spells = reads.digits } };
  };
  holds = short;
  feeds = λ failed. cc failed;
  lines_are = λ other. absurd (other refl);
  packets_are = so_far.packets_are;
  faults_are = so_far.faults_are;
  gathers = most_written_last old mid new gathered (decoded_lines so_far.all) so_far.gathers front room;
}

nothing_held : (start : Option (List ℕ)) → Keeps start (prepend_known [] start)
nothing_held None = tt
nothing_held (Some bytes) = refl

-- memory was wanted before the first line
pub lines_unread : (start old : Option (List ℕ)) (gathered : List ℕ) → gathered ≡ [] → DumpsLines start start (ended_so the_status.NoMemory 0 0 0) old old gathered
lines_unread start old gathered none = lines_stop Going start start start old old [] (ended_so the_status.NoMemory 0 0 0) gathered 0 (so_far_none Going start old gathered 0 refl none) tt (record { reason = (refl, refl); left = nothing_held start }) (λ _. refl) refl tt

-- how a last line was written after what was gathered
ends : (why status : Status) (old mid new : Option (List ℕ)) (gathered text last whole : List ℕ) → whole ≡ text ++ last → Gathers old mid gathered text
    → ((status ≡ why) × Appends mid new (gathered ++ last)) ⊎ ((status ≡ the_status.SinkFault) × WroteFront mid new (gathered ++ last) × (length gathered ≤ most_gathered))
    → ((status ≡ why) × Appends old new whole) ⊎ ((status ≡ the_status.SinkFault) × WroteMostLines old new text whole)
ends why status old mid new gathered text last whole is g finishes =
    let more : Gathers old mid (gathered ++ last) whole = subst (λ (l : List ℕ). Gathers old mid (gathered ++ last) l) (sym is) (gathers_more old mid gathered (gathered ++ last) text last g refl) in
    elim finishes [
      | inl wrote ↦ inl (wrote.0, appends_last old mid new (gathered ++ last) whole more wrote.1)
      | inr failed ↦ inr (failed.0, most_written old mid new gathered text last whole is g failed.1 failed.2)
    ]

written : (why status : Status) (old mid new : Option (List ℕ)) (gathered last : List ℕ) (all : List Decoded) → (why ≢ the_status.SinkFault → dump_text all why ≡ decoded_lines all ++ last)
    → GathersUnlessSinkFault why old mid gathered (decoded_lines all) → Finishes why status mid new gathered last → Written why status old new all
written the_status.SinkFault status old mid new gathered last all is g f = (f.0, subst (λ (k : Option (List ℕ)). WroteMostLines old k (decoded_lines all) (decoded_lines all)) (sym f.1) g)
written the_status.Done status old mid new gathered last all is g f = ends the_status.Done status old mid new gathered (decoded_lines all) last (dump_text all the_status.Done) (is (λ e. cc e)) g f
written the_status.Usage status old mid new gathered last all is g f = ends the_status.Usage status old mid new gathered (decoded_lines all) last (dump_text all the_status.Usage) (is (λ e. cc e)) g f
written (the_status.Script at fault) status old mid new gathered last all is g f = ends (the_status.Script at fault) status old mid new gathered (decoded_lines all) last (dump_text all (the_status.Script at fault)) (is (λ e. cc e)) g f
written the_status.SourceFault status old mid new gathered last all is g f = ends the_status.SourceFault status old mid new gathered (decoded_lines all) last (dump_text all the_status.SourceFault) (is (λ e. cc e)) g f
written the_status.HostFault status old mid new gathered last all is g f = ends the_status.HostFault status old mid new gathered (decoded_lines all) last (dump_text all the_status.HostFault) (is (λ e. cc e)) g f
written the_status.StoreFault status old mid new gathered last all is g f = ends the_status.StoreFault status old mid new gathered (decoded_lines all) last (dump_text all the_status.StoreFault) (is (λ e. cc e)) g f
written (the_status.ImageSize need have) status old mid new gathered last all is g f = ends (the_status.ImageSize need have) status old mid new gathered (decoded_lines all) last (dump_text all (the_status.ImageSize need have)) (is (λ e. cc e)) g f
written (the_status.Limit at kind) status old mid new gathered last all is g f = ends (the_status.Limit at kind) status old mid new gathered (decoded_lines all) last (dump_text all (the_status.Limit at kind)) (is (λ e. cc e)) g f
written the_status.NoMemory status old mid new gathered last all is g f = ends the_status.NoMemory status old mid new gathered (decoded_lines all) last (dump_text all the_status.NoMemory) (is (λ e. cc e)) g f

-- the lines were read and the dump ended
pub dumps : (before now : SourceTells) (old mid new : Option (List ℕ)) (ended : Ended) (status : Status) (gathered : List ℕ)
    → DumpsLines before.left now.left ended old mid gathered → Finishes ended.why status mid new gathered (end_line ended.lines ended.packets ended.faults ended.why)
    → Fails (ended.why ≡ the_status.SourceFault) before.faults now.faults → EndsTold ended.why before.ends now.ends
    → (ended.why ≡ the_status.NoMemory → now.ends ≡ before.ends) → Dumps before now status old new
dumps before now old mid new ended status gathered read finishes told said unasked =
    let last : ended.why ≢ the_status.SinkFault → dump_text read.all ended.why ≡ decoded_lines read.all ++ end_line ended.lines ended.packets ended.faults ended.why =
    λ other. ap (λ (l : List ℕ). decoded_lines read.all ++ l)
    (ap (λ (n : ℕ). end_line n (count_by is_packet read.all) (count_by is_fault read.all) ended.why) (sym (read.lines_are other))
    ∙ ap (λ (n : ℕ). end_line ended.lines n (count_by is_fault read.all) ended.why) (sym read.packets_are)
    ∙ ap (λ (n : ℕ). end_line ended.lines ended.packets n ended.why) (sym read.faults_are)) in
    record {
      all = read.all;
      left = read.left;
      taken = read.taken;
      are = read.are;
      held = read.held;
      why = ended.why;
      told = told;
      ends = said;
      unasked = unasked;
      stop = read.stop;
      holds = read.holds;
      feeds = read.feeds;
      written = written ended.why status old mid new gathered (end_line ended.lines ended.packets ended.faults ended.why) read.all last read.gathers finishes;
    }
