use Rattle.std.proofs.Common.{◌≡◌, refl, ℕ, suc, ◌≤◌, List, [], ◌∷◌, ◌++◌, length, ap, sym, subst, ◌∙◌, arith}
use Rattle.std.specs.Prelude.{All}
use Rattle.std.specs.Io.KnownBytes.{Appends}
use Rattle.std.proofs.lemmas.List.Elements.{All-head, All-tail}
use Rattle.ldom_entries.specs.declared.entry.Entry.{Entry}
use Rattle.ldom_entries.specs.Told.{told}
use Rattle.ldom_report.specs.EntryText.{entry_lines, report_entries}
use Rattle.ldom_report.specs.HasWords.{HasWords}
use Rattle.gathered_text.specs.Gathered.{Gathers, WroteFront}
use Rattle.gathered_text.proofs.GatheredText.{on_err, on_ok_then, on_err_then, gathers_all, gathers_then, wrote_front_then, wrote_front_of_more, wrote_front_last, appends_last}
use Rattle.ldom_report.proofs.ReportLines.{all_left, fewer_left, next_lines, no_lines}
use Rattle.ldom_report.proofs.lines.write_lines.Goals as goal

pub loop-rest-init : goal.loop-rest-init
loop-rest-init g c = record {
  so_far = [];
  whole = ap (report_entries c.args.mode c.args.names.now) (sym c.entries-rest.ensures);
  words = subst (λ (l : List Entry). All (HasWords c.args.names.now) l) (sym c.entries-rest.ensures) c.requires.words;
  gathers = subst (λ (t : List ℕ). Gathers (g.K.Sink.written c.args.out.now) (g.K.Sink.written c.args.out.now) t []) (sym c.new-text.ensures) (gathers_all _ []);
  unfailed = refl;
}

pub put_line-requires : goal.put_line-requires
put_line-requires g c =
    let P : Entry → Type 0 = HasWords c.args.names.now in
    record { may = c.read_to_show.ensures.may c.loop-rest-test.true; words = All-head P (told c.read_to_show.new.entry) c.read_to_show.new.entries (all_left P c.args.mode c.loop-rest.rest (told c.read_to_show.new.entry ∷ c.read_to_show.new.entries) (c.read_to_show.ensures.some c.loop-rest-test.true) c.loop-rest.invariant.words) }

pub returns-in_err-put_line-clause-front : goal.returns-in_err-put_line-clause-front
returns-in_err-put_line-clause-front g c =
    let mode = c.args.mode in
    let declared = c.args.names.now in
    let i = c.loop-rest.invariant in
    let whole : List ℕ = report_entries mode declared c.args.journal.now.entries in
    let line : List ℕ = entry_lines mode declared (told c.read_to_show.new.entry) in
    let rest : List ℕ = report_entries mode declared c.read_to_show.new.entries in
    on_err c.from_residual.result _
    (wrote_front_of_more _ _ (i.so_far ++ line) rest whole
    (next_lines mode declared whole i.so_far c.loop-rest.rest c.read_to_show.new.entries (told c.read_to_show.new.entry) i.whole (c.read_to_show.ensures.some c.loop-rest-test.true))
    (wrote_front_then _ _ _ c.loop-rest.text i.so_far line i.gathers c.in_err-put_line.ensures.front))

pub loop-rest-preserved : goal.loop-rest-preserved
loop-rest-preserved g c =
    let mode = c.args.mode in
    let declared = c.args.names.now in
    let P : Entry → Type 0 = HasWords declared in
    let i = c.loop-rest.invariant in
    let whole : List ℕ = report_entries mode declared c.args.journal.now.entries in
    let line : List ℕ = entry_lines mode declared (told c.read_to_show.new.entry) in
    record {
      so_far = i.so_far ++ line;
      whole = next_lines mode declared whole i.so_far c.loop-rest.rest c.read_to_show.new.entries (told c.read_to_show.new.entry) i.whole (c.read_to_show.ensures.some c.loop-rest-test.true);
      words = All-tail P (told c.read_to_show.new.entry) c.read_to_show.new.entries (all_left P mode c.loop-rest.rest (told c.read_to_show.new.entry ∷ c.read_to_show.new.entries) (c.read_to_show.ensures.some c.loop-rest-test.true) i.words);
      gathers = gathers_then _ _ _ c.loop-rest.text c.put_line.new.text i.so_far line i.gathers c.in_ok-put_line.ensures.told;
      unfailed = c.in_ok-put_line.ensures.faults.unfailed (λ is. cc) ∙ i.unfailed;
    }

pub loop-rest-smaller : goal.loop-rest-smaller
loop-rest-smaller g c =
    let shorter : suc (length c.read_to_show.new.entries) ≤ length c.loop-rest.rest =
    fewer_left c.args.mode c.loop-rest.rest (told c.read_to_show.new.entry ∷ c.read_to_show.new.entries) (c.read_to_show.ensures.some c.loop-rest-test.true) in
    omega (arith, shorter)

pub returns-clause-told : goal.returns-clause-told
returns-clause-told g c =
    let mode = c.args.mode in
    let declared = c.args.names.now in
    let i = c.loop-rest.invariant in
    let all : i.so_far ≡ report_entries mode declared c.args.journal.now.entries =
    no_lines mode declared (report_entries mode declared c.args.journal.now.entries) i.so_far c.loop-rest.rest i.whole (c.read_to_show.ensures.none c.loop-rest-test.false) in
    on_ok_then c.flush.result
    (λ told. subst (λ (l : List ℕ). Appends (g.K.Sink.written c.args.out.now) (g.K.Sink.written c.flush.new.out) l) all
    (appends_last _ _ _ c.loop-rest.text i.so_far i.gathers told))
    c.flush.ensures.told

pub returns-clause-front : goal.returns-clause-front
returns-clause-front g c =
    let mode = c.args.mode in
    let declared = c.args.names.now in
    let i = c.loop-rest.invariant in
    let all : i.so_far ≡ report_entries mode declared c.args.journal.now.entries =
    no_lines mode declared (report_entries mode declared c.args.journal.now.entries) i.so_far c.loop-rest.rest i.whole (c.read_to_show.ensures.none c.loop-rest-test.false) in
    on_err_then c.flush.result
    (λ front. subst (λ (l : List ℕ). WroteFront (g.K.Sink.written c.args.out.now) (g.K.Sink.written c.flush.new.out) l) all
    (wrote_front_last _ _ _ c.loop-rest.text i.so_far i.gathers front))
    c.flush.ensures.front
