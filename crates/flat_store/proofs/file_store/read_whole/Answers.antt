use Rattle.std.proofs.Common.{◌≡◌, length, subst, arith}
use Rattle.flat_store.specs.Files.{FileCalls, after_fault}
use Rattle.flat_store.specs.declared.image_file.FileFault.{FileFault}
use Rattle.flat_store.proofs.Tries.{OnlyInterrupted, failed_then, lacked_all, moved_less, moved_whole}
use Rattle.flat_store.proofs.file_store.read_whole.Goals as goal

pub returns-in-Ok-clause-succeeded : goal.returns-in-Ok-clause-succeeded
returns-in-Ok-clause-succeeded g c =
    let old : FileCalls = g.F.ImageFile.calls c.args.file.now in
    let now : FileCalls = g.F.ImageFile.calls c.loop-tried.file in
    let only : OnlyInterrupted c.loop-tried.tried old now = record { moved = c.loop-tried.invariant.3; synced = c.loop-tried.invariant.4; failed = c.loop-tried.invariant.5; interrupted = c.loop-tried.invariant.6 } in
    moved_whole c.whole.result c.loop-tried.tried old now (g.F.ImageFile.calls c.read_some.new.self) c.in-Ok.moved (length c.read_some.new.buf) c.loop-tried-test.true only c.in-Ok.ensures.calls c.whole.ensures.ok

pub returns-in-Ok-clause-lacked : goal.returns-in-Ok-clause-lacked
returns-in-Ok-clause-lacked g c =
    let old : FileCalls = g.F.ImageFile.calls c.args.file.now in
    let now : FileCalls = g.F.ImageFile.calls c.loop-tried.file in
    let only : OnlyInterrupted c.loop-tried.tried old now = record { moved = c.loop-tried.invariant.3; synced = c.loop-tried.invariant.4; failed = c.loop-tried.invariant.5; interrupted = c.loop-tried.invariant.6 } in
    moved_less c.whole.result c.loop-tried.tried old now (g.F.ImageFile.calls c.read_some.new.self) c.in-Ok.moved (length c.read_some.new.buf) c.loop-tried-test.true only c.in-Ok.ensures.calls c.whole.ensures.err

pub returns-in-Err-Other-clause-lacked : goal.returns-in-Err-Other-clause-lacked
returns-in-Err-Other-clause-lacked g c =
    let old : FileCalls = g.F.ImageFile.calls c.args.file.now in
    let now : FileCalls = g.F.ImageFile.calls c.loop-tried.file in
    let only : OnlyInterrupted c.loop-tried.tried old now = record { moved = c.loop-tried.invariant.3; synced = c.loop-tried.invariant.4; failed = c.loop-tried.invariant.5; interrupted = c.loop-tried.invariant.6 } in
    failed_then c.loop-tried.tried old now (g.F.ImageFile.calls c.read_some.new.self) c.loop-tried-test.true only
    (subst (λ (fault : FileFault). g.F.ImageFile.calls c.read_some.new.self ≡ after_fault fault now) c.in-Err-Other.field-0-is c.in-Err-Other.ensures.calls)

pub returns-clause-lacked : goal.returns-clause-lacked
returns-clause-lacked g c =
    let old : FileCalls = g.F.ImageFile.calls c.args.file.now in
    let now : FileCalls = g.F.ImageFile.calls c.loop-tried.file in
    let only : OnlyInterrupted c.loop-tried.tried old now = record { moved = c.loop-tried.invariant.3; synced = c.loop-tried.invariant.4; failed = c.loop-tried.invariant.5; interrupted = c.loop-tried.invariant.6 } in
    lacked_all c.loop-tried.tried old now (omega (arith, c.loop-tried-test.false, c.loop-tried.auto.tried-end)) only
