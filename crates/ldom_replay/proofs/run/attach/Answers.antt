use Rattle.std.proofs.Common.{◌≡◌, ◌*◌, ◌∙◌, [], ℕ, None, refl, ap, subst, sym}
use Rattle.ldom_entries.specs.JournalState.{JournalState}
use Rattle.script_laws.specs.Replayed.{attach_status}
use Rattle.vio_io.specs.declared.host.AttachFault.TheVariants.{Memory}
use Rattle.disk_law.specs.ListState.{as_image}
use Rattle.ldom_world.specs.world_parts.Declared.{blocks_of}
use Rattle.script_laws.proofs.Assembly.{replayed_as, replayed_refused}
use Rattle.script_laws.proofs.Sizes.{sized_as, sized_refused}
use Rattle.ldom_replay.proofs.Beginning.{attach_told, just_attached}
use Rattle.ldom_replay.proofs.Holding.{gave_as, gave_one}
use Rattle.ldom_report.specs.Stops.{EndsTold}
use Rattle.ldom_report.specs.declared.status.Status.{Status}
use Rattle.ldom_report.proofs.StopLemmas.{told_once}
use Rattle.ldom_replay.proofs.run.attach.Goals as goal

-- no memory for the lanes
pub returns-in-Err-clause-replayed : goal.returns-in-Err-clause-replayed
returns-in-Err-clause-replayed g c start opened =
    let seen = as_image g.H.Disk.Store in
    let gives = g.H.Host.gives c.args.host.now c.args.name.now in
    let now = g.S.Source.left c.args.source.now in
    let read = c.args.reader in
    replayed_as seen start now gives (attach_status Memory) c.into_run.result.status read.lines.number c.into_run.result.lines
    read.names c.into_run.result.names [] c.into_run.result.journal.entries None c.into_run.result.image None c.into_run.result.lanes
    c.into_run.ensures.status (c.into_run.ensures.lines ∙ c.number-lines.ensures) c.into_run.ensures.names
    (ap (λ (j : JournalState). j.entries) c.into_run.ensures.journal ∙ c.requires.journal) c.into_run.ensures.image c.into_run.ensures.lanes
    (replayed_refused seen start now gives Memory read.lines c.args.first read.names opened)

pub returns-in-Err-clause-sized : goal.returns-in-Err-clause-sized
returns-in-Err-clause-sized g c start opened =
    let gives = g.H.Host.gives c.args.host.now c.args.name.now in
    sized_as g.H.Disk.Store.size gives (attach_status Memory) c.into_run.result.status c.args.reader.names c.into_run.result.names None c.into_run.result.image
    c.into_run.ensures.status c.into_run.ensures.names c.into_run.ensures.image
    (sized_refused g.H.Disk.Store.size Memory (512 * blocks_of c.args.reader.names.disks) (gives (512 * blocks_of c.args.reader.names.disks)))

pub returns-in-Err-clause-image : goal.returns-in-Err-clause-image
returns-in-Err-clause-image g c = gave_as _ _ None c.into_run.result.image c.into_run.ensures.image refl

-- an image was attached, of which nothing was asked
pub returns-in-Ok-attach-clause-replayed : goal.returns-in-Ok-attach-clause-replayed
returns-in-Ok-attach-clause-replayed g c start opened =
    let gives = g.H.Host.gives c.args.host.now c.args.name.now in
    let told = subst (λ (n : ℕ). g.H.Disk.Store.content c.in-Ok-attach.image ≡ gives (512 * n)) c.blocks_declared.ensures.declared c.in-Ok-attach.ensures.gives in
    c.run_over.ensures.replayed start gives opened
    (just_attached g.H.Disk.Store c.in-Ok-attach.image (gives (512 * blocks_of c.args.reader.names.disks)) told c.in-Ok-attach.ensures.fresh
    c.in-Ok-attach.ensures.calls c.in-Ok-attach.ensures.flushes c.in-Ok-attach.ensures.writes)

pub returns-in-Ok-attach-clause-sized : goal.returns-in-Ok-attach-clause-sized
returns-in-Ok-attach-clause-sized g c start opened =
    let gives = g.H.Host.gives c.args.host.now c.args.name.now in
    let told = subst (λ (n : ℕ). g.H.Disk.Store.content c.in-Ok-attach.image ≡ gives (512 * n)) c.blocks_declared.ensures.declared c.in-Ok-attach.ensures.gives in
    c.run_over.ensures.sized start gives opened
    (just_attached g.H.Disk.Store c.in-Ok-attach.image (gives (512 * blocks_of c.args.reader.names.disks)) told c.in-Ok-attach.ensures.fresh
    c.in-Ok-attach.ensures.calls c.in-Ok-attach.ensures.flushes c.in-Ok-attach.ensures.writes)

pub returns-in-Ok-attach-clause-image : goal.returns-in-Ok-attach-clause-image
returns-in-Ok-attach-clause-image g c = gave_one _ _ c.run_over.result.image c.run_over.ensures.image c.in-Ok-attach.ensures.given

-- none was
pub returns-in-Err-attach-clause-replayed : goal.returns-in-Err-attach-clause-replayed
returns-in-Err-attach-clause-replayed g c start opened =
    let seen = as_image g.H.Disk.Store in
    let gives = g.H.Host.gives c.args.host.now c.args.name.now in
    let now = g.S.Source.left c.args.source.now in
    let read = c.args.reader in
    replayed_as seen start now gives (attach_status c.in-Err-attach.fault) c.into_run-in-Err-attach.result.status read.lines.number c.into_run-in-Err-attach.result.lines
    read.names c.into_run-in-Err-attach.result.names [] c.into_run-in-Err-attach.result.journal.entries None c.into_run-in-Err-attach.result.image None c.into_run-in-Err-attach.result.lanes
    (c.into_run-in-Err-attach.ensures.status ∙ c.status_of.ensures) (c.into_run-in-Err-attach.ensures.lines ∙ c.number-lines-in-Err-attach.ensures) c.into_run-in-Err-attach.ensures.names
    (ap (λ (j : JournalState). j.entries) c.into_run-in-Err-attach.ensures.journal ∙ c.requires.journal) c.into_run-in-Err-attach.ensures.image c.into_run-in-Err-attach.ensures.lanes
    (replayed_refused seen start now gives c.in-Err-attach.fault read.lines c.args.first read.names opened)

pub returns-in-Err-attach-clause-sized : goal.returns-in-Err-attach-clause-sized
returns-in-Err-attach-clause-sized g c start opened =
    let gives = g.H.Host.gives c.args.host.now c.args.name.now in
    sized_as g.H.Disk.Store.size gives (attach_status c.in-Err-attach.fault) c.into_run-in-Err-attach.result.status c.args.reader.names c.into_run-in-Err-attach.result.names None c.into_run-in-Err-attach.result.image
    (c.into_run-in-Err-attach.ensures.status ∙ c.status_of.ensures) c.into_run-in-Err-attach.ensures.names c.into_run-in-Err-attach.ensures.image
    (sized_refused g.H.Disk.Store.size c.in-Err-attach.fault (512 * blocks_of c.args.reader.names.disks) (gives (512 * blocks_of c.args.reader.names.disks)))

pub returns-in-Err-attach-clause-image : goal.returns-in-Err-attach-clause-image
returns-in-Err-attach-clause-image g c = gave_as _ _ None c.into_run-in-Err-attach.result.image c.into_run-in-Err-attach.ensures.image c.in-Err-attach.ensures.none

-- the source wasn't asked
pub returns-in-Err-clause-ends : goal.returns-in-Err-clause-ends
returns-in-Err-clause-ends g c base is =
    let now : ℕ = g.S.Source.ends c.args.source.now in
    subst (λ (w : Status). EndsTold w base now) (sym c.into_run.ensures.status) (told_once c.args.reader.lines.stop base now is)

pub returns-in-Err-attach-clause-ends : goal.returns-in-Err-attach-clause-ends
returns-in-Err-attach-clause-ends g c base is =
    let now : ℕ = g.S.Source.ends c.args.source.now in
    subst (λ (w : Status). EndsTold w base now) (sym (c.into_run-in-Err-attach.ensures.status ∙ c.status_of.ensures))
    (attach_told c.in-Err-attach.fault base now (told_once c.args.reader.lines.stop base now is))
