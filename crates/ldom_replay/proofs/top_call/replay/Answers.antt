use Rattle.std.proofs.Common.{◌≡◌, ℕ, ◌*◌, ◌^◌, ◌<◌, ◌≤◌, List, [], length, map, replicate, codes, Option, Some, None, IfSome, inl, ap, subst, sym, ◌∙◌, refl}
use Rattle.std.specs.String.{string_bytes}
use Rattle.disk_law.specs.Issued.{CompletesOnceInOrder}
use Rattle.ldom_entries.specs.JournalState.{JournalState}
use Rattle.ldom_entries.specs.declared.entry.Entry.{Entry}
use Rattle.ldom_report.specs.DiskEvents.{history}
use Rattle.script_laws.proofs.Completeness.{all_zero, completes, never, still}
use Rattle.std.proofs.lemmas.List.Elements.{All-nil}
use Rattle.script_laws.specs.Clean.{EndsClean}
use Rattle.script_laws.specs.Failures.{FailuresCounted, SucceedOrFail, SucceedsOrFails}
use Rattle.script_laws.specs.Objects.{host_tells, run_leaves, tells}
use Rattle.script_laws.specs.Outcomes.{RunsScript}
use Rattle.ldom_world.specs.world_parts.Declared.{blocks_of}
use Rattle.ldom_words.specs.Words.{AsksSample}
use Rattle.ldom_sample.specs.Sample.{sample_text}
use Rattle.ldom_replay.proofs.Commands.{as_asked, no_sample_too, one_asked, one_sample}
use Rattle.ldom_replay.proofs.Holding.{all_otherwise, gave_as, gave_none}
use Rattle.script_laws.proofs.MoreFacts.{others_told}
use Rattle.script_laws.proofs.RunFacts.{admits, calls, failures, flushes, headline, image_faults, none_once, once, said_otherwise, statuses, worded, writes}
use Rattle.script_laws.specs.Stored.{fault_count, flush_count, stored_count, write_count}
use Rattle.script_laws.proofs.WholeScript.{runs_plainly, runs_whole}
use Rattle.ldom_report.specs.declared.status.Status.{Status}
use Rattle.ldom_report.specs.declared.status.Mode.{Mode}
use Rattle.ldom_report.specs.declared.status.Mode.TheVariants as mode
use Rattle.ldom_replay.proofs.Sampled.{not_read, sample_clean}
use Rattle.ldom_replay.specs.Asking.{AsksFor, IsCommand}
use Rattle.ldom_replay.specs.Sampled.{RunsSample}
use Rattle.ldom_replay.specs.declared.command.Command.{Command}
use Rattle.ldom_report.specs.Stops.{EndsTold}
use Rattle.ldom_replay.proofs.top_call.replay.Goals as goal

pub report_run-requires-clause-words : goal.report_run-requires-clause-words
report_run-requires-clause-words g c = worded _ _ _ _ _ _ _ _ _ _ c.run_script.ensures.replayed

pub run_sample-requires : goal.run_sample-requires
run_sample-requires g c =
    (subst (λ (x : Command). IsCommand (map string_bytes c.args.words.now) (Some x)) c.in-Some-Sample.field-0-is c.in-Some-Sample.ensures).below

pub report_run-requires-in-Some-Sample-clause-words : goal.report_run-requires-in-Some-Sample-clause-words
report_run-requires-in-Some-Sample-clause-words g c = worded _ _ _ _ _ _ _ _ _ _ c.run_sample.ensures.replayed.replayed

pub returns-in-Some-Script-clause-runs : goal.returns-in-Some-Script-clause-runs
returns-in-Some-Script-clause-runs g c shown image asks =
    let words : List (List ℕ) = map string_bytes c.args.words.now in
    let own : AsksFor c.in-Some-Script.mode words c.in-Some-Script.image.now = subst (λ (x : Command). IsCommand words (Some x)) c.in-Some-Script.field-0-is c.in-Some-Script.ensures in
    let before = tells (g.S.Source.left c.args.script.now) (g.K.Sink.written c.args.out.now) (g.S.Source.faults c.args.script.now) (g.H.Host.faults c.args.host.now) (g.K.Sink.faults c.args.out.now) in
    let now = tells (g.S.Source.left c.run_script.new.source) (g.K.Sink.written c.report_run.new.out) (g.S.Source.faults c.run_script.new.source) (g.H.Host.faults c.run_script.new.host) (g.K.Sink.faults c.report_run.new.out) in
    as_asked (λ (m : Mode) (name : List ℕ). RunsScript m (host_tells (g.H.Host.gives c.args.host.now name) g.H.Disk.Store) before now
    (run_leaves c.report_run.result.status c.report_run.result.ran c.report_run.result.journal.entries c.report_run.result.image c.report_run.result.lanes)) words c.in-Some-Script.mode shown c.in-Some-Script.image.now image own asks
    (subst (λ (ran : Status). RunsScript c.in-Some-Script.mode (host_tells (g.H.Host.gives c.args.host.now c.in-Some-Script.image.now) g.H.Disk.Store) before now
    (run_leaves c.report_run.result.status ran c.report_run.result.journal.entries c.report_run.result.image c.report_run.result.lanes)) (sym c.report_run.ensures.ran)
    (all_otherwise (λ (j : JournalState) d l. RunsScript c.in-Some-Script.mode (host_tells (g.H.Host.gives c.args.host.now c.in-Some-Script.image.now) g.H.Disk.Store) before now
    (run_leaves c.report_run.result.status c.run_script.result.status j.entries d l)) c.run_script.result.journal c.report_run.result.journal c.run_script.result.image c.report_run.result.image c.run_script.result.lanes c.report_run.result.lanes
    c.report_run.ensures.journal c.report_run.ensures.image c.report_run.ensures.lanes
    (record {
      told = record { source = c.run_script.ensures.source; host = c.run_script.ensures.host };
      lines = c.run_script.result.lines;
      names = c.run_script.result.names;
      replayed = c.run_script.ensures.replayed;
      admits = admits _ _ _ _ _ _ _ _ _ _ c.run_script.ensures.replayed;
      sized = c.run_script.ensures.sized;
      headline = headline _ _ _ _ _ _ _ _ _ _ c.run_script.ensures.replayed g.H.Disk.Store.size c.run_script.ensures.sized;
      whole = λ done. runs_whole _ _ _ _ _ _ _ _ _ _ _ _ _ c.run_script.ensures.replayed _ c.report_run.ensures.reports done;
      others = others_told _ _ _ _ _ _ _ _ _ _ c.run_script.ensures.replayed g.H.Disk.Store.size c.run_script.ensures.sized;
      reports = c.report_run.ensures.reports;
    })))

pub returns-in-Some-Script-clause-samples : goal.returns-in-Some-Script-clause-samples
returns-in-Some-Script-clause-samples g c number asks =
    let words : List (List ℕ) = map string_bytes c.args.words.now in
    let own : AsksFor c.in-Some-Script.mode words c.in-Some-Script.image.now = subst (λ (x : Command). IsCommand words (Some x)) c.in-Some-Script.field-0-is c.in-Some-Script.ensures in
    absurd (no_sample_too words c.in-Some-Script.mode c.in-Some-Script.image.now number own asks)

pub returns-in-Some-Script-clause-samples_whole : goal.returns-in-Some-Script-clause-samples_whole
returns-in-Some-Script-clause-samples_whole g c number asks host sink store =
    let words : List (List ℕ) = map string_bytes c.args.words.now in
    let own : AsksFor c.in-Some-Script.mode words c.in-Some-Script.image.now = subst (λ (x : Command). IsCommand words (Some x)) c.in-Some-Script.field-0-is c.in-Some-Script.ensures in
    absurd (no_sample_too words c.in-Some-Script.mode c.in-Some-Script.image.now number own asks)

pub returns-in-Some-Sample-clause-samples : goal.returns-in-Some-Sample-clause-samples
returns-in-Some-Sample-clause-samples g c number asks =
    let words : List (List ℕ) = map string_bytes c.args.words.now in
    let own : AsksSample words c.in-Some-Sample.number = subst (λ (x : Command). IsCommand words (Some x)) c.in-Some-Sample.field-0-is c.in-Some-Sample.ensures in
    let same : number ≡ c.in-Some-Sample.number = one_sample words c.in-Some-Sample.number number own asks in
    let run = c.run_sample.ensures.replayed in
    let host = host_tells (g.H.Host.gives c.args.host.now (codes "-")) g.H.Disk.Store in
    let before = tells (g.S.Source.left c.args.script.now) (g.K.Sink.written c.args.out.now) (g.S.Source.faults c.args.script.now) (g.H.Host.faults c.args.host.now) (g.K.Sink.faults c.args.out.now) in
    let now = tells (g.S.Source.left c.args.script.now) (g.K.Sink.written c.report_run-in-Some-Sample.new.out) (g.S.Source.faults c.args.script.now) (g.H.Host.faults c.run_sample.new.host) (g.K.Sink.faults c.report_run-in-Some-Sample.new.out) in
    subst (λ (n : ℕ). RunsSample n host before now
    (run_leaves c.report_run-in-Some-Sample.result.status c.report_run-in-Some-Sample.result.ran c.report_run-in-Some-Sample.result.journal.entries c.report_run-in-Some-Sample.result.image c.report_run-in-Some-Sample.result.lanes)) (sym same) (record {
      left = run.left;
      runs = subst (λ (ran : Status). RunsScript mode.EndOnly host (record before { left = Some (sample_text c.in-Some-Sample.number) }) (record now { left = run.left })
          (run_leaves c.report_run-in-Some-Sample.result.status ran c.report_run-in-Some-Sample.result.journal.entries c.report_run-in-Some-Sample.result.image c.report_run-in-Some-Sample.result.lanes)) (sym c.report_run-in-Some-Sample.ensures.ran)
          (all_otherwise (λ (j : JournalState) d l. RunsScript mode.EndOnly host (record before { left = Some (sample_text c.in-Some-Sample.number) }) (record now { left = run.left })
          (run_leaves c.report_run-in-Some-Sample.result.status c.run_sample.result.status j.entries d l)) c.run_sample.result.journal c.report_run-in-Some-Sample.result.journal c.run_sample.result.image c.report_run-in-Some-Sample.result.image c.run_sample.result.lanes c.report_run-in-Some-Sample.result.lanes
          c.report_run-in-Some-Sample.ensures.journal c.report_run-in-Some-Sample.ensures.image c.report_run-in-Some-Sample.ensures.lanes
          (record {
            told = record { source = not_read c.run_sample.result.status _ _ c.run_sample.ensures.source refl; host = c.run_sample.ensures.host };
            lines = c.run_sample.result.lines;
            names = c.run_sample.result.names;
            replayed = run.replayed;
            admits = admits _ _ _ _ _ _ _ _ _ _ run.replayed;
            sized = c.run_sample.ensures.sized;
            headline = headline _ _ _ _ _ _ _ _ _ _ run.replayed g.H.Disk.Store.size c.run_sample.ensures.sized;
            whole = λ done. runs_whole _ _ _ _ _ _ _ _ _ _ _ _ _ run.replayed _ c.report_run-in-Some-Sample.ensures.reports done;
            others = others_told _ _ _ _ _ _ _ _ _ _ run.replayed g.H.Disk.Store.size c.run_sample.ensures.sized;
            reports = c.report_run-in-Some-Sample.ensures.reports;
          }));
    })

pub returns-in-Some-Sample-clause-samples_whole : goal.returns-in-Some-Sample-clause-samples_whole
returns-in-Some-Sample-clause-samples_whole g c number asks host sink store =
    subst (λ (j : JournalState). EndsClean c.report_run-in-Some-Sample.result.status j.entries) (sym c.report_run-in-Some-Sample.ensures.journal)
    (completes _ _ _ _ _ _ _ _ _ _ c.run_sample.ensures.replayed.replayed c.report_run-in-Some-Sample.result.status (g.K.Sink.written c.args.out.now) (g.K.Sink.written c.report_run-in-Some-Sample.new.out) _
    (sample_text c.in-Some-Sample.number) c.report_run-in-Some-Sample.ensures.reports refl (sample_clean c.in-Some-Sample.number)
    (λ ran. c.run_sample.ensures.source ran) (λ ran. still _ _ host (c.run_sample.ensures.host.cause ran)) (λ told ran. still _ _ sink ((c.report_run-in-Some-Sample.ensures.sink ran).cause told))
    (subst (λ (i : Option g.row.H-Disk.Denot). IfSome i (λ disk. g.H.Disk.Store.faults disk ≡ 0)) c.report_run-in-Some-Sample.ensures.image store)
    g.H.Disk.Store.size c.run_sample.ensures.sized (codes "-") (λ is n. g.met.H.Host.dash c.args.host.now n) (λ other. absurd (other refl)))

pub returns-in-Some-Sample-clause-runs : goal.returns-in-Some-Sample-clause-runs
returns-in-Some-Sample-clause-runs g c shown image asks =
    let words : List (List ℕ) = map string_bytes c.args.words.now in
    let own : AsksSample words c.in-Some-Sample.number = subst (λ (x : Command). IsCommand words (Some x)) c.in-Some-Sample.field-0-is c.in-Some-Sample.ensures in
    absurd (no_sample_too words shown image c.in-Some-Sample.number asks own)

pub returns-in-Some-Sample-clause-quiet : goal.returns-in-Some-Sample-clause-quiet
returns-in-Some-Sample-clause-quiet g c image asks bytes content disk events known quiet gives done =
    let words : List (List ℕ) = map string_bytes c.args.words.now in
    let own : AsksSample words c.in-Some-Sample.number = subst (λ (x : Command). IsCommand words (Some x)) c.in-Some-Sample.field-0-is c.in-Some-Sample.ensures in
    absurd (no_sample_too words mode.Run image c.in-Some-Sample.number asks own)

pub returns-in-Some-Sample-clause-complete : goal.returns-in-Some-Sample-clause-complete
returns-in-Some-Sample-clause-complete g c shown image asks bytes known clean still_all store long =
    let words : List (List ℕ) = map string_bytes c.args.words.now in
    let own : AsksSample words c.in-Some-Sample.number = subst (λ (x : Command). IsCommand words (Some x)) c.in-Some-Sample.field-0-is c.in-Some-Sample.ensures in
    absurd (no_sample_too words shown image c.in-Some-Sample.number asks own)

pub returns-in-Some-Sample-clause-infallible : goal.returns-in-Some-Sample-clause-infallible
returns-in-Some-Sample-clause-infallible g c shown image asks bytes known clean source host disk long written =
    let words : List (List ℕ) = map string_bytes c.args.words.now in
    let own : AsksSample words c.in-Some-Sample.number = subst (λ (x : Command). IsCommand words (Some x)) c.in-Some-Sample.field-0-is c.in-Some-Sample.ensures in
    absurd (no_sample_too words shown image c.in-Some-Sample.number asks own)

pub returns-in-Some-Script-clause-once : goal.returns-in-Some-Script-clause-once
returns-in-Some-Script-clause-once g c disk =
    subst (λ (j : JournalState). CompletesOnceInOrder (history disk j.entries)) (sym c.report_run.ensures.journal) (once _ _ _ _ _ _ _ _ _ _ c.run_script.ensures.replayed disk)

pub returns-in-Some-Sample-clause-once : goal.returns-in-Some-Sample-clause-once
returns-in-Some-Sample-clause-once g c disk =
    subst (λ (j : JournalState). CompletesOnceInOrder (history disk j.entries)) (sym c.report_run-in-Some-Sample.ensures.journal) (once _ _ _ _ _ _ _ _ _ _ c.run_sample.ensures.replayed.replayed disk)

pub returns-in-Some-Dump-clause-once : goal.returns-in-Some-Dump-clause-once
returns-in-Some-Dump-clause-once g c disk =
    subst (λ (l : List Entry). CompletesOnceInOrder (history disk l)) (sym (ap (λ (j : JournalState). j.entries) c.report_dump.ensures.journal)) (none_once disk)

pub returns-in-None-clause-once : goal.returns-in-None-clause-once
returns-in-None-clause-once g c disk =
    subst (λ (l : List Entry). CompletesOnceInOrder (history disk l)) (sym (ap (λ (j : JournalState). j.entries) (c.report_usage.ensures.journal ∙ c.new.ensures))) (none_once disk)

pub returns-in-Some-Script-clause-statuses : goal.returns-in-Some-Script-clause-statuses
returns-in-Some-Script-clause-statuses g c =
    subst (λ (j : JournalState). SucceedOrFail j.entries) (sym c.report_run.ensures.journal) (statuses _ _ _ _ _ _ _ _ _ _ c.run_script.ensures.replayed)

pub returns-in-Some-Sample-clause-statuses : goal.returns-in-Some-Sample-clause-statuses
returns-in-Some-Sample-clause-statuses g c =
    subst (λ (j : JournalState). SucceedOrFail j.entries) (sym c.report_run-in-Some-Sample.ensures.journal) (statuses _ _ _ _ _ _ _ _ _ _ c.run_sample.ensures.replayed.replayed)

pub returns-in-Some-Dump-clause-statuses : goal.returns-in-Some-Dump-clause-statuses
returns-in-Some-Dump-clause-statuses g c = subst (λ (l : List Entry). SucceedOrFail l) (sym (ap (λ (j : JournalState). j.entries) c.report_dump.ensures.journal)) (λ x clean. All-nil SucceedsOrFails)

pub returns-in-None-clause-statuses : goal.returns-in-None-clause-statuses
returns-in-None-clause-statuses g c = subst (λ (l : List Entry). SucceedOrFail l) (sym (ap (λ (j : JournalState). j.entries) (c.report_usage.ensures.journal ∙ c.new.ensures))) (λ x clean. All-nil SucceedsOrFails)

pub returns-in-Some-Script-clause-failures : goal.returns-in-Some-Script-clause-failures
returns-in-Some-Script-clause-failures g c =
    said_otherwise (λ (j : JournalState) d. IfSome d (λ image. FailuresCounted j.entries (g.H.Disk.Store.faults image))) c.run_script.result.journal c.report_run.result.journal c.run_script.result.image c.report_run.result.image
    c.report_run.ensures.journal c.report_run.ensures.image
    (failures _ _ _ _ _ _ _ _ _ _ c.run_script.ensures.replayed (subst (λ (j : JournalState). length j.entries < 2 ^ 63) c.report_run.ensures.journal c.report_run.ensures.small))

pub returns-in-Some-Sample-clause-failures : goal.returns-in-Some-Sample-clause-failures
returns-in-Some-Sample-clause-failures g c =
    said_otherwise (λ (j : JournalState) d. IfSome d (λ image. FailuresCounted j.entries (g.H.Disk.Store.faults image))) c.run_sample.result.journal c.report_run-in-Some-Sample.result.journal c.run_sample.result.image c.report_run-in-Some-Sample.result.image
    c.report_run-in-Some-Sample.ensures.journal c.report_run-in-Some-Sample.ensures.image
    (failures _ _ _ _ _ _ _ _ _ _ c.run_sample.ensures.replayed.replayed (subst (λ (j : JournalState). length j.entries < 2 ^ 63) c.report_run-in-Some-Sample.ensures.journal c.report_run-in-Some-Sample.ensures.small))

pub returns-in-Some-Script-clause-calls : goal.returns-in-Some-Script-clause-calls
returns-in-Some-Script-clause-calls g c =
    said_otherwise (λ (j : JournalState) d. IfSome d (λ image. g.H.Disk.Store.calls image ≤ stored_count j.entries)) c.run_script.result.journal c.report_run.result.journal c.run_script.result.image c.report_run.result.image
    c.report_run.ensures.journal c.report_run.ensures.image
    (calls _ _ _ _ _ _ _ _ _ _ c.run_script.ensures.replayed (subst (λ (j : JournalState). length j.entries < 2 ^ 63) c.report_run.ensures.journal c.report_run.ensures.small))

pub returns-in-Some-Sample-clause-calls : goal.returns-in-Some-Sample-clause-calls
returns-in-Some-Sample-clause-calls g c =
    said_otherwise (λ (j : JournalState) d. IfSome d (λ image. g.H.Disk.Store.calls image ≤ stored_count j.entries)) c.run_sample.result.journal c.report_run-in-Some-Sample.result.journal c.run_sample.result.image c.report_run-in-Some-Sample.result.image
    c.report_run-in-Some-Sample.ensures.journal c.report_run-in-Some-Sample.ensures.image
    (calls _ _ _ _ _ _ _ _ _ _ c.run_sample.ensures.replayed.replayed (subst (λ (j : JournalState). length j.entries < 2 ^ 63) c.report_run-in-Some-Sample.ensures.journal c.report_run-in-Some-Sample.ensures.small))

pub returns-in-Some-Script-clause-flushes : goal.returns-in-Some-Script-clause-flushes
returns-in-Some-Script-clause-flushes g c =
    said_otherwise (λ (j : JournalState) d. IfSome d (λ image. g.H.Disk.Store.flushes image ≡ flush_count j.entries)) c.run_script.result.journal c.report_run.result.journal c.run_script.result.image c.report_run.result.image
    c.report_run.ensures.journal c.report_run.ensures.image
    (flushes _ _ _ _ _ _ _ _ _ _ c.run_script.ensures.replayed (subst (λ (j : JournalState). length j.entries < 2 ^ 63) c.report_run.ensures.journal c.report_run.ensures.small))

pub returns-in-Some-Sample-clause-flushes : goal.returns-in-Some-Sample-clause-flushes
returns-in-Some-Sample-clause-flushes g c =
    said_otherwise (λ (j : JournalState) d. IfSome d (λ image. g.H.Disk.Store.flushes image ≡ flush_count j.entries)) c.run_sample.result.journal c.report_run-in-Some-Sample.result.journal c.run_sample.result.image c.report_run-in-Some-Sample.result.image
    c.report_run-in-Some-Sample.ensures.journal c.report_run-in-Some-Sample.ensures.image
    (flushes _ _ _ _ _ _ _ _ _ _ c.run_sample.ensures.replayed.replayed (subst (λ (j : JournalState). length j.entries < 2 ^ 63) c.report_run-in-Some-Sample.ensures.journal c.report_run-in-Some-Sample.ensures.small))

pub returns-in-Some-Script-clause-writes : goal.returns-in-Some-Script-clause-writes
returns-in-Some-Script-clause-writes g c =
    said_otherwise (λ (j : JournalState) d. IfSome d (λ image. g.H.Disk.Store.writes image ≡ write_count j.entries)) c.run_script.result.journal c.report_run.result.journal c.run_script.result.image c.report_run.result.image
    c.report_run.ensures.journal c.report_run.ensures.image
    (writes _ _ _ _ _ _ _ _ _ _ c.run_script.ensures.replayed (subst (λ (j : JournalState). length j.entries < 2 ^ 63) c.report_run.ensures.journal c.report_run.ensures.small))

pub returns-in-Some-Sample-clause-writes : goal.returns-in-Some-Sample-clause-writes
returns-in-Some-Sample-clause-writes g c =
    said_otherwise (λ (j : JournalState) d. IfSome d (λ image. g.H.Disk.Store.writes image ≡ write_count j.entries)) c.run_sample.result.journal c.report_run-in-Some-Sample.result.journal c.run_sample.result.image c.report_run-in-Some-Sample.result.image
    c.report_run-in-Some-Sample.ensures.journal c.report_run-in-Some-Sample.ensures.image
    (writes _ _ _ _ _ _ _ _ _ _ c.run_sample.ensures.replayed.replayed (subst (λ (j : JournalState). length j.entries < 2 ^ 63) c.report_run-in-Some-Sample.ensures.journal c.report_run-in-Some-Sample.ensures.small))

pub returns-in-Some-Script-clause-image_faults : goal.returns-in-Some-Script-clause-image_faults
returns-in-Some-Script-clause-image_faults g c =
    said_otherwise (λ (j : JournalState) d. IfSome d (λ image. g.H.Disk.Store.faults image ≡ fault_count j.entries)) c.run_script.result.journal c.report_run.result.journal c.run_script.result.image c.report_run.result.image
    c.report_run.ensures.journal c.report_run.ensures.image
    (image_faults _ _ _ _ _ _ _ _ _ _ c.run_script.ensures.replayed (subst (λ (j : JournalState). length j.entries < 2 ^ 63) c.report_run.ensures.journal c.report_run.ensures.small))

pub returns-in-Some-Sample-clause-image_faults : goal.returns-in-Some-Sample-clause-image_faults
returns-in-Some-Sample-clause-image_faults g c =
    said_otherwise (λ (j : JournalState) d. IfSome d (λ image. g.H.Disk.Store.faults image ≡ fault_count j.entries)) c.run_sample.result.journal c.report_run-in-Some-Sample.result.journal c.run_sample.result.image c.report_run-in-Some-Sample.result.image
    c.report_run-in-Some-Sample.ensures.journal c.report_run-in-Some-Sample.ensures.image
    (image_faults _ _ _ _ _ _ _ _ _ _ c.run_sample.ensures.replayed.replayed (subst (λ (j : JournalState). length j.entries < 2 ^ 63) c.report_run-in-Some-Sample.ensures.journal c.report_run-in-Some-Sample.ensures.small))

pub returns-in-Some-Script-clause-quiet : goal.returns-in-Some-Script-clause-quiet
returns-in-Some-Script-clause-quiet g c image asks bytes content disk events known quiet gives done =
    runs_plainly _ _ _ _ _ _ _ _ _ _ _ _ _ _ (returns-in-Some-Script-clause-runs g c mode.Run image asks) bytes events known done disk content quiet gives

pub returns-in-Some-Script-clause-complete : goal.returns-in-Some-Script-clause-complete
returns-in-Some-Script-clause-complete g c shown image asks bytes known clean still_all store long =
    let words : List (List ℕ) = map string_bytes c.args.words.now in
    let own : AsksFor c.in-Some-Script.mode words c.in-Some-Script.image.now = subst (λ (x : Command). IsCommand words (Some x)) c.in-Some-Script.field-0-is c.in-Some-Script.ensures in
    let named : image ≡ c.in-Some-Script.image.now = (one_asked words c.in-Some-Script.mode shown c.in-Some-Script.image.now image own asks).1 in
    subst (λ (j : JournalState). EndsClean c.report_run.result.status j.entries) (sym c.report_run.ensures.journal)
    (completes _ _ _ _ _ _ _ _ _ _ c.run_script.ensures.replayed c.report_run.result.status (g.K.Sink.written c.args.out.now) (g.K.Sink.written c.report_run.new.out) _ bytes c.report_run.ensures.reports known clean
    (λ ran. still _ _ still_all.source (c.run_script.ensures.source.cause ran)) (λ ran. still _ _ still_all.host (c.run_script.ensures.host.cause ran)) (λ told ran. still _ _ still_all.sink ((c.report_run.ensures.sink ran).cause told))
    (subst (λ (i : Option g.row.H-Disk.Denot). IfSome i (λ disk. g.H.Disk.Store.faults disk ≡ 0)) c.report_run.ensures.image store)
    g.H.Disk.Store.size c.run_script.ensures.sized c.in-Some-Script.image.now (λ is n. subst (λ (name : List ℕ). g.H.Host.gives c.args.host.now name n ≡ Some (replicate n 0)) (sym is) (g.met.H.Host.dash c.args.host.now n))
    (λ other. subst (λ (i : Option g.row.H-Disk.Denot). IfSome i (λ disk. 512 * blocks_of clean.names.disks ≤ g.H.Disk.Store.size disk)) c.report_run.ensures.image (long (λ same. other (sym named ∙ same)))))

pub returns-in-Some-Script-clause-complete_run : goal.returns-in-Some-Script-clause-complete_run
returns-in-Some-Script-clause-complete_run g c shown image asks bytes known clean source host store long =
    let words : List (List ℕ) = map string_bytes c.args.words.now in
    let own : AsksFor c.in-Some-Script.mode words c.in-Some-Script.image.now = subst (λ (x : Command). IsCommand words (Some x)) c.in-Some-Script.field-0-is c.in-Some-Script.ensures in
    let named : image ≡ c.in-Some-Script.image.now = (one_asked words c.in-Some-Script.mode shown c.in-Some-Script.image.now image own asks).1 in
    let ran : Status = c.run_script.result.status in
    let ends : EndsClean ran c.run_script.result.journal.entries =
    completes _ _ _ _ _ _ _ _ _ _ c.run_script.ensures.replayed ran None None [] bytes (inl (refl, tt)) known clean
    (λ is. still _ _ source (c.run_script.ensures.source.cause is)) (λ is. still _ _ host (c.run_script.ensures.host.cause is)) (λ told other. other told)
    (subst (λ (i : Option g.row.H-Disk.Denot). IfSome i (λ disk. g.H.Disk.Store.faults disk ≡ 0)) c.report_run.ensures.image store)
    g.H.Disk.Store.size c.run_script.ensures.sized c.in-Some-Script.image.now (λ is n. subst (λ (name : List ℕ). g.H.Host.gives c.args.host.now name n ≡ Some (replicate n 0)) (sym is) (g.met.H.Host.dash c.args.host.now n))
    (λ other. subst (λ (i : Option g.row.H-Disk.Denot). IfSome i (λ disk. 512 * blocks_of clean.names.disks ≤ g.H.Disk.Store.size disk)) c.report_run.ensures.image (long (λ same. other (sym named ∙ same)))) in
    subst (λ (why : Status). EndsClean why c.report_run.result.journal.entries) (sym c.report_run.ensures.ran)
    (subst (λ (j : JournalState). EndsClean ran j.entries) (sym c.report_run.ensures.journal) ends)

pub returns-in-Some-Sample-clause-complete_run : goal.returns-in-Some-Sample-clause-complete_run
returns-in-Some-Sample-clause-complete_run g c shown image asks bytes known clean source host store long =
    let words : List (List ℕ) = map string_bytes c.args.words.now in
    let own : AsksSample words c.in-Some-Sample.number = subst (λ (x : Command). IsCommand words (Some x)) c.in-Some-Sample.field-0-is c.in-Some-Sample.ensures in
    absurd (no_sample_too words shown image c.in-Some-Sample.number asks own)

pub returns-in-Some-Script-clause-infallible : goal.returns-in-Some-Script-clause-infallible
returns-in-Some-Script-clause-infallible g c shown image asks bytes known clean source host disk long written =
    let words : List (List ℕ) = map string_bytes c.args.words.now in
    let own : AsksFor c.in-Some-Script.mode words c.in-Some-Script.image.now = subst (λ (x : Command). IsCommand words (Some x)) c.in-Some-Script.field-0-is c.in-Some-Script.ensures in
    let named : image ≡ c.in-Some-Script.image.now = (one_asked words c.in-Some-Script.mode shown c.in-Some-Script.image.now image own asks).1 in
    subst (λ (j : JournalState). EndsClean c.report_run.result.status j.entries) (sym c.report_run.ensures.journal)
    (completes _ _ _ _ _ _ _ _ _ _ c.run_script.ensures.replayed c.report_run.result.status (g.K.Sink.written c.args.out.now) (g.K.Sink.written c.report_run.new.out) _ bytes c.report_run.ensures.reports known clean
    (λ ran. never g.S.Source.faults _ _ source (c.run_script.ensures.source.cause ran)) (λ ran. never g.H.Host.faults _ _ host (c.run_script.ensures.host.cause ran)) (λ told ran. absurd (written told))
    (all_zero g.H.Disk.Store.faults disk c.run_script.result.image)
    g.H.Disk.Store.size c.run_script.ensures.sized c.in-Some-Script.image.now (λ is n. subst (λ (name : List ℕ). g.H.Host.gives c.args.host.now name n ≡ Some (replicate n 0)) (sym is) (g.met.H.Host.dash c.args.host.now n))
    (λ other. subst (λ (i : Option g.row.H-Disk.Denot). IfSome i (λ image. 512 * blocks_of clean.names.disks ≤ g.H.Disk.Store.size image)) c.report_run.ensures.image (long (λ same. other (sym named ∙ same)))))

pub returns-in-Some-Dump-clause-dumps_whole : goal.returns-in-Some-Dump-clause-dumps_whole
returns-in-Some-Dump-clause-dumps_whole g c words bytes known whole source sink = c.report_dump.ensures.whole bytes known whole (still _ _ source) (still _ _ sink)

pub returns-in-Some-Script-clause-image : goal.returns-in-Some-Script-clause-image
returns-in-Some-Script-clause-image g c = gave_as _ _ c.run_script.result.image c.report_run.result.image c.report_run.ensures.image c.run_script.ensures.image

pub returns-in-Some-Sample-clause-image : goal.returns-in-Some-Sample-clause-image
returns-in-Some-Sample-clause-image g c = gave_as _ _ c.run_sample.result.image c.report_run-in-Some-Sample.result.image c.report_run-in-Some-Sample.ensures.image c.run_sample.ensures.image

pub returns-in-Some-Dump-clause-image : goal.returns-in-Some-Dump-clause-image
returns-in-Some-Dump-clause-image g c = gave_none _ _ c.report_dump.result.image c.report_dump.ensures.none.0 refl

pub returns-in-None-clause-image : goal.returns-in-None-clause-image
returns-in-None-clause-image g c = gave_none _ _ c.report_usage.result.image c.report_usage.ensures.none.0 refl

pub returns-in-Some-Script-clause-ends : goal.returns-in-Some-Script-clause-ends
returns-in-Some-Script-clause-ends g c shown image asks =
    subst (λ (ran : Status). EndsTold ran (g.S.Source.ends c.args.script.now) (g.S.Source.ends c.run_script.new.source)) (sym c.report_run.ensures.ran) c.run_script.ensures.ends

pub returns-in-Some-Sample-clause-ends : goal.returns-in-Some-Sample-clause-ends
returns-in-Some-Sample-clause-ends g c shown image asks =
    let words : List (List ℕ) = map string_bytes c.args.words.now in
    let own : AsksSample words c.in-Some-Sample.number = subst (λ (x : Command). IsCommand words (Some x)) c.in-Some-Sample.field-0-is c.in-Some-Sample.ensures in
    absurd (no_sample_too words shown image c.in-Some-Sample.number asks own)
