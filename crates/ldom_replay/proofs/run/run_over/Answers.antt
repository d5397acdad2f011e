use Rattle.std.proofs.Common.{◌≡◌, ◌*◌, ◌≤◌, [], ℕ, List, length, None, Some, Option, IfSome, rules, arith, subst, ap, ◌∙◌, sym}
use Rattle.disk_law.specs.ListState.{ImageState}
use Rattle.ldom_entries.specs.JournalState.{JournalState}
use Rattle.ldom_report.specs.declared.status.Status.TheVariants as status
use Rattle.ldom_world.specs.world_parts.domain_laws.Domain.{Lanes}
use Rattle.disk_law.specs.ListState.{as_image}
use Rattle.ldom_world.specs.world_parts.Declared.{blocks_of}
use Rattle.ldom_replay.proofs.Beginning.{begins_counted, has_all, same_world}
use Rattle.ldom_world.proofs.Declaring.{all_within}
use Rattle.script_laws.proofs.Assembly.{replayed_as, replayed_short}
use Rattle.script_laws.proofs.Sizes.{long_told, sized_as, sized_short}
use Rattle.ldom_report.specs.Stops.{EndsTold}
use Rattle.ldom_report.specs.declared.status.Status.{Status}
use Rattle.ldom_report.proofs.StopLemmas.{told_once}
use Rattle.ldom_replay.proofs.run.run_over.Goals as goal

pub returns-then-have-need-clause-replayed : goal.returns-then-have-need-clause-replayed
returns-then-have-need-clause-replayed g c start gives opened attached =
    let seen = as_image g.D.Store in
    let now = g.S.Source.left c.args.source.now in
    let read = c.args.reader in
    replayed_as seen start now gives (status.ImageSize (512 * c.blocks_declared-need.result) c.len-have.result) c.into_run.result.status read.lines.number c.into_run.result.lines
    read.names c.into_run.result.names [] c.into_run.result.journal.entries (Some c.args.image) c.into_run.result.image None c.into_run.result.lanes
    c.into_run.ensures.status (c.into_run.ensures.lines ∙ c.number-lines.ensures) c.into_run.ensures.names
    (ap (λ (j : JournalState). j.entries) c.into_run.ensures.journal ∙ c.requires.journal) c.into_run.ensures.image c.into_run.ensures.lanes
    (replayed_short seen start now gives (512 * c.blocks_declared-need.result) c.len-have.result read.lines c.args.first read.names c.args.image attached opened)

pub returns-then-have-need-clause-sized : goal.returns-then-have-need-clause-sized
returns-then-have-need-clause-sized g c start gives opened attached =
    let least : ℕ = 512 * blocks_of c.args.reader.names.disks in
    let told : g.D.Store.content c.args.image ≡ gives least = ap (λ (i : ImageState). i.told) attached in
    sized_as g.D.Store.size gives (status.ImageSize (512 * c.blocks_declared-need.result) c.len-have.result) c.into_run.result.status c.args.reader.names c.into_run.result.names (Some c.args.image) c.into_run.result.image
    c.into_run.ensures.status c.into_run.ensures.names c.into_run.ensures.image
    (sized_short g.D.Store.size (512 * c.blocks_declared-need.result) c.len-have.result least (gives least) c.args.image
    (ap (λ (n : ℕ). 512 * n) c.blocks_declared-need.ensures.declared) c.len-have.ensures (omega arith)
    (subst (λ (o : Option (List ℕ)). IfSome o (λ bytes. length bytes ≡ g.D.Store.size c.args.image)) told (g.met.D.Store.told_size c.args.image)))

pub over-requires-clause-image : goal.over-requires-clause-image
over-requires-clause-image g c =
    let enough : 512 * blocks_of c.args.reader.names.disks ≤ g.D.Store.size c.args.image = search rules in
    all_within (g.D.Store.size c.args.image) c.args.reader.names.disks c.args.lanes.first enough (ap (λ (l : Lanes). l.first) c.requires.lanes)

pub returns-clause-replayed : goal.returns-clause-replayed
returns-clause-replayed g c start gives opened attached =
    c.run_world.ensures.replayed start gives opened
    (same_world c.args.reader.names gives c.over.result c.args.lanes (as_image g.D.Store c.args.image)
    c.over.ensures.lanes c.over.ensures.image c.over.ensures.ports c.requires.lanes attached)

pub returns-clause-sized : goal.returns-clause-sized
returns-clause-sized g c start gives opened attached =
    let least : ℕ = 512 * blocks_of c.args.reader.names.disks in
    let told : g.D.Store.content c.args.image ≡ gives least = ap (λ (i : ImageState). i.told) attached in
    let enough : least ≤ g.D.Store.size c.args.image = search rules in
    c.run_world.ensures.sized start gives opened
    (same_world c.args.reader.names gives c.over.result c.args.lanes (as_image g.D.Store c.args.image)
    c.over.ensures.lanes c.over.ensures.image c.over.ensures.ports c.requires.lanes attached)
    (subst (λ (o : Option (List ℕ)). IfSome o (λ bytes. least ≤ length bytes)) told (long_told (g.D.Store.content c.args.image) (g.D.Store.size c.args.image) least (g.met.D.Store.told_size c.args.image) enough))

pub run_world-requires-clause-lanes : goal.run_world-requires-clause-lanes
run_world-requires-clause-lanes g c =
    has_all c.args.reader.names c.over.result c.args.lanes c.over.ensures.lanes c.over.ensures.ports c.requires.lanes

pub run_world-requires-clause-agrees : goal.run_world-requires-clause-agrees
run_world-requires-clause-agrees g c =
    begins_counted c.args.reader.names c.over.result c.args.lanes c.over.ensures.lanes c.over.ensures.ports c.requires.lanes

pub returns-then-have-need-clause-ends : goal.returns-then-have-need-clause-ends
returns-then-have-need-clause-ends g c base is =
    let now : ℕ = g.S.Source.ends c.args.source.now in
    subst (λ (w : Status). EndsTold w base now) (sym c.into_run.ensures.status) (told_once c.args.reader.lines.stop base now is)
