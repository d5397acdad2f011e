use Rattle.std.proofs.Common.{◌≡◌, subst, arith}
use Rattle.flat_store.specs.Files.{FileCalls, after_fault}
use Rattle.flat_store.specs.declared.image_file.FileFault.{FileFault}
use Rattle.flat_store.proofs.Tries.{OnlyInterrupted, failed_then, lacked_all, synced_then}
use Rattle.flat_store.proofs.file_store.sync.Goals as goal

pub returns-in-Ok-clause-succeeded : goal.returns-in-Ok-clause-succeeded
returns-in-Ok-clause-succeeded g c =
    let old : FileCalls = g.F.ImageFile.calls c.args.file.now in
    let now : FileCalls = g.F.ImageFile.calls c.loop-tried.file in
    let only : OnlyInterrupted c.loop-tried.tried old now = record { moved = c.loop-tried.invariant.2; synced = c.loop-tried.invariant.3; failed = c.loop-tried.invariant.4; interrupted = c.loop-tried.invariant.5 } in
    synced_then c.loop-tried.tried old now (g.F.ImageFile.calls c.sync.new.self) c.loop-tried-test.true only c.in-Ok.ensures.calls

pub returns-in-Err-Other-clause-lacked : goal.returns-in-Err-Other-clause-lacked
returns-in-Err-Other-clause-lacked g c =
    let old : FileCalls = g.F.ImageFile.calls c.args.file.now in
    let now : FileCalls = g.F.ImageFile.calls c.loop-tried.file in
    let only : OnlyInterrupted c.loop-tried.tried old now = record { moved = c.loop-tried.invariant.2; synced = c.loop-tried.invariant.3; failed = c.loop-tried.invariant.4; interrupted = c.loop-tried.invariant.5 } in
    failed_then c.loop-tried.tried old now (g.F.ImageFile.calls c.sync.new.self) c.loop-tried-test.true only
    (subst (λ (fault : FileFault). g.F.ImageFile.calls c.sync.new.self ≡ after_fault fault now) c.in-Err-Other.field-0-is c.in-Err-Other.ensures.calls)

pub returns-clause-lacked : goal.returns-clause-lacked
returns-clause-lacked g c =
    let old : FileCalls = g.F.ImageFile.calls c.args.file.now in
    let now : FileCalls = g.F.ImageFile.calls c.loop-tried.file in
    let only : OnlyInterrupted c.loop-tried.tried old now = record { moved = c.loop-tried.invariant.2; synced = c.loop-tried.invariant.3; failed = c.loop-tried.invariant.4; interrupted = c.loop-tried.invariant.5 } in
    lacked_all c.loop-tried.tried old now (omega (arith, c.loop-tried-test.false, c.loop-tried.auto.tried-end)) only
