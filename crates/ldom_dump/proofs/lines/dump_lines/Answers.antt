use Rattle.std.proofs.Common.{◌≡◌, ◌∙◌, ℕ, List, ap, arith, subst, sym}
use Rattle.script_reader.specs.LinesState.{to_come}
use Rattle.ldom_report.specs.declared.status.Status.{Status}
use Rattle.ldom_report.specs.LinesEnd.{counted_lines}
use Rattle.ldom_report.specs.Stops.{EndsTold, IsReaders, stop_status}
use Rattle.ldom_report.proofs.StopLemmas.{ends_told, failed_at_source, readers_of, told_once, wanted_memory}
use Rattle.ldom_dump.specs.Reading.{DumpHolds, DumpStops}
use Rattle.ldom_dump.proofs.DumpLemmas.{dump_holds, ended_so, lines_cut, lines_stop, so_far_fault, so_far_packet}
use Rattle.ldom_dump.proofs.lines.dump_lines.Goals as goal

pub loop-bytes-preserved-in-Ok-true : goal.loop-bytes-preserved-in-Ok-true
loop-bytes-preserved-in-Ok-true g c =
    let start = to_come c.args.lines.now (g.S.Source.left c.args.source.now) in
    let rest = to_come c.loop-bytes.lines (g.S.Source.left c.loop-bytes.source) in
    let left = to_come c.read_bytes.new.lines (g.S.Source.left c.read_bytes.new.source) in
    record {
      goes = c.in-Ok.ensures.next.2;
      few = c.in-Ok.ensures.next.1;
      sum = omega (arith, c.loop-bytes.invariant.sum, c.in-Ok.ensures.next.0);
      so_far = so_far_packet c.loop-bytes.lines.stop c.read_bytes.new.lines.stop start rest left (g.K.Sink.written c.args.out.now) (g.K.Sink.written c.loop-bytes.out) (g.K.Sink.written c.put_packet.new.out)
          c.in-Ok.bytes c.loop-bytes.text c.put_packet.new.text _ c.loop-bytes.lines.number c.read_bytes.new.lines.number c.loop-bytes.packets c.loop-bytes.faults
          c.loop-bytes.invariant.so_far c.in-Ok.ensures.bytes c.in-Ok.ensures.next.0 c.in-Ok.ensures.next.1 c.in-Ok-true.ensures.told c.in-Ok-true.field-0-test;
      ends = λ base is. c.in-Ok.ensures.ends base (c.loop-bytes.invariant.ends base is);
      source = c.in-Ok.ensures.source.unfailed (λ is. cc) ∙ c.loop-bytes.invariant.source;
      sink = c.in-Ok-true.ensures.faults.unfailed (λ is. cc) ∙ c.loop-bytes.invariant.sink;
    }

pub loop-bytes-preserved : goal.loop-bytes-preserved
loop-bytes-preserved g c =
    let start = to_come c.args.lines.now (g.S.Source.left c.args.source.now) in
    let rest = to_come c.loop-bytes.lines (g.S.Source.left c.loop-bytes.source) in
    let left = to_come c.read_bytes.new.lines (g.S.Source.left c.read_bytes.new.source) in
    record {
      goes = c.in-Ok.ensures.next.2;
      few = c.in-Ok.ensures.next.1;
      sum = omega (arith, c.loop-bytes.invariant.sum, c.in-Ok.ensures.next.0);
      so_far = so_far_fault c.loop-bytes.lines.stop c.read_bytes.new.lines.stop start rest left (g.K.Sink.written c.args.out.now) (g.K.Sink.written c.loop-bytes.out) (g.K.Sink.written c.put_packet.new.out)
          c.in-Ok.bytes c.loop-bytes.text c.put_packet.new.text _ c.loop-bytes.lines.number c.read_bytes.new.lines.number c.loop-bytes.packets c.loop-bytes.faults
          c.loop-bytes.invariant.so_far c.in-Ok.ensures.bytes c.in-Ok.ensures.next.0 c.in-Ok.ensures.next.1 c.in-Ok-false.ensures.told c.in-Ok-false.field-0-test;
      ends = λ base is. c.in-Ok.ensures.ends base (c.loop-bytes.invariant.ends base is);
      source = c.in-Ok.ensures.source.unfailed (λ is. cc) ∙ c.loop-bytes.invariant.source;
      sink = c.in-Ok-false.ensures.faults.unfailed (λ is. cc) ∙ c.loop-bytes.invariant.sink;
    }

pub returns-in-Err-clause-ends : goal.returns-in-Err-clause-ends
returns-in-Err-clause-ends g c base is =
    let now : ℕ = g.S.Source.ends c.read_bytes.new.source in
    subst (λ (w : Status). EndsTold w base now) (sym c.status.ensures)
    (ends_told c.in-Err.stop _ c.read_bytes.new.lines.stop base now c.in-Err.ensures.stands (c.in-Err.ensures.ends base (c.loop-bytes.invariant.ends base is)))

pub returns-in-Err-put_packet-clause-ends : goal.returns-in-Err-put_packet-clause-ends
returns-in-Err-put_packet-clause-ends g c base is =
    told_once c.read_bytes.new.lines.stop base (g.S.Source.ends c.read_bytes.new.source) (c.in-Ok.ensures.ends base (c.loop-bytes.invariant.ends base is))

pub returns-in-Err-clause-memory : goal.returns-in-Err-clause-memory
returns-in-Err-clause-memory g c is = c.in-Err.ensures.memory (wanted_memory c.in-Err.stop _ (sym c.status.ensures ∙ is))

pub returns-in-Err-put_packet-clause-dumps : goal.returns-in-Err-put_packet-clause-dumps
returns-in-Err-put_packet-clause-dumps g c =
    let start = to_come c.args.lines.now (g.S.Source.left c.args.source.now) in
    let rest = to_come c.loop-bytes.lines (g.S.Source.left c.loop-bytes.source) in
    lines_cut c.loop-bytes.lines.stop c.read_bytes.new.lines.stop start rest (g.S.Source.left c.read_bytes.new.source) (g.K.Sink.written c.args.out.now) (g.K.Sink.written c.loop-bytes.out) (g.K.Sink.written c.put_packet.new.out)
    c.read_bytes.new.lines.held c.in-Ok.bytes c.loop-bytes.text c.put_packet.new.text c.loop-bytes.lines.number c.read_bytes.new.lines.number c.number-in-Err-put_packet.result c.loop-bytes.packets c.loop-bytes.faults
    c.loop-bytes.invariant.so_far c.in-Ok.ensures.bytes c.in-Ok.ensures.next.0 c.in-Ok.ensures.next.1 c.in-Ok.ensures.held c.in-Err-put_packet.ensures.front c.put_packet.ensures.few

pub returns-in-Err-clause-dumps : goal.returns-in-Err-clause-dumps
returns-in-Err-clause-dumps g c =
    let start = to_come c.args.lines.now (g.S.Source.left c.args.source.now) in
    let rest = to_come c.loop-bytes.lines (g.S.Source.left c.loop-bytes.source) in
    let held : List ℕ = c.read_bytes.new.lines.held in
    let at : ℕ = c.read_bytes.new.lines.number in
    let count : ℕ = c.loop-bytes.lines.number in
    let now = g.S.Source.left c.read_bytes.new.source in
    let why : c.status.result ≡ stop_status c.in-Err.stop at = c.status.ensures ∙ ap (λ (n : ℕ). stop_status c.in-Err.stop n) c.number.ensures.number in
    lines_stop c.loop-bytes.lines.stop start rest now (g.K.Sink.written c.args.out.now) (g.K.Sink.written c.loop-bytes.out) held
    (ended_so c.status.result c.number-in-Err.result c.loop-bytes.packets c.loop-bytes.faults) c.loop-bytes.text count c.loop-bytes.invariant.so_far
    (subst IsReaders (sym why) (readers_of c.in-Err.stop at))
    (subst (λ (w : Status). DumpStops w rest held now count) (sym why) c.in-Err.ensures.stop)
    (λ is. c.in-Err.ensures.going (λ end. cc (failed_at_source c.in-Err.stop at (sym why ∙ is), end)))
    (c.number-in-Err.ensures.number ∙ c.in-Err.ensures.lines ∙ ap (λ (w : Status). counted_lines w count) (sym why))
    (subst (λ (w : Status). DumpHolds w held) (sym why)
    (dump_holds c.in-Err.stop at count c.read_bytes.new.lines rest _ c.in-Err.ensures.behind c.in-Err.ensures.stop.reason c.in-Err.ensures.lines c.number.ensures.held))
