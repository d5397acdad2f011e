use Rattle.std.proofs.Common.{rules}
use Rattle.ldom_dump.specs.DumpReport.{source_tells}
use Rattle.ldom_dump.proofs.DumpLemmas.{dumps}
use Rattle.ldom_dump.proofs.WholeDump.{completes}
use Rattle.ldom_dump.proofs.command.dump.Goals as goal

pub returns-clause-dumps : goal.returns-clause-dumps
returns-clause-dumps g c =
    dumps (source_tells (g.S.Source.left c.args.script.now) (g.S.Source.faults c.args.script.now) (g.S.Source.ends c.args.script.now))
    (source_tells (g.S.Source.left c.dump_all-ended.new.source) (g.S.Source.faults c.dump_all-ended.new.source) (g.S.Source.ends c.dump_all-ended.new.source))
    (g.K.Sink.written c.args.out.now) (g.K.Sink.written c.dump_all-ended.new.out) (g.K.Sink.written c.finish.new.out)
    c.dump_all-ended.result c.finish.result c.dump_all-ended.new.text c.dump_all-ended.ensures.dumps c.finish.ensures.finishes
    c.dump_all-ended.ensures.source c.dump_all-ended.ensures.ends c.dump_all-ended.ensures.unasked

pub returns-clause-source_fault : goal.returns-clause-source_fault
returns-clause-source_fault g c = search rules

pub returns-clause-sink : goal.returns-clause-sink
returns-clause-sink g c = record { unfailed = search rules; count = search rules; cause = search rules; once = search rules }

pub returns-clause-complete : goal.returns-clause-complete
returns-clause-complete g c bytes is whole source sink =
    completes (source_tells (g.S.Source.left c.args.script.now) (g.S.Source.faults c.args.script.now) (g.S.Source.ends c.args.script.now))
    (source_tells (g.S.Source.left c.dump_all-ended.new.source) (g.S.Source.faults c.dump_all-ended.new.source) (g.S.Source.ends c.dump_all-ended.new.source))
    c.finish.result (g.K.Sink.written c.args.out.now) (g.K.Sink.written c.finish.new.out) bytes (returns-clause-dumps g c) is whole
    (λ was. source (returns-clause-source_fault g c was)) (λ was. sink ((returns-clause-sink g c).cause was))
