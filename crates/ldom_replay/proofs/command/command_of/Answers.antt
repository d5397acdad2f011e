use Rattle.std.proofs.Common.{ap, map, sym, ◌∙◌, Some}
use Rattle.std.specs.String.{string_bytes}
use Rattle.ldom_words.specs.Asking.{DumpOf, RunOver, SampleOf, TraceOver, wanted_of}
use Rattle.ldom_words.specs.declared.words.Asked.{Asked}
use Rattle.ldom_replay.proofs.Commands.{wanted_is, wants_none}
use Rattle.ldom_replay.proofs.command.command_of.Goals as goal

pub returns-in-Some-Run : goal.returns-in-Some-Run
returns-in-Some-Run c =
    wanted_is (map string_bytes c.args.words.now) (Some (RunOver c.in-Some-Run.image.now)) (ap (λ (asked : Asked). Some (wanted_of asked)) (sym c.in-Some-Run.field-0-is) ∙ c.in-Some-Run.ensures)

pub returns-in-Some-Trace : goal.returns-in-Some-Trace
returns-in-Some-Trace c =
    wanted_is (map string_bytes c.args.words.now) (Some (TraceOver c.in-Some-Trace.image.now)) (ap (λ (asked : Asked). Some (wanted_of asked)) (sym c.in-Some-Trace.field-0-is) ∙ c.in-Some-Trace.ensures)

pub returns-in-Some-Sample : goal.returns-in-Some-Sample
returns-in-Some-Sample c =
    wanted_is (map string_bytes c.args.words.now) (Some (SampleOf c.in-Some-Sample.number)) (ap (λ (asked : Asked). Some (wanted_of asked)) (sym c.in-Some-Sample.field-0-is) ∙ c.in-Some-Sample.ensures)

pub returns-in-Some-Dump : goal.returns-in-Some-Dump
returns-in-Some-Dump c =
    wanted_is (map string_bytes c.args.words.now) (Some DumpOf) (ap (λ (asked : Asked). Some (wanted_of asked)) (sym c.in-Some-Dump.field-0-is) ∙ c.in-Some-Dump.ensures)

pub returns-in-None : goal.returns-in-None
returns-in-None c = wants_none (map string_bytes c.args.words.now) c.in-None.ensures
