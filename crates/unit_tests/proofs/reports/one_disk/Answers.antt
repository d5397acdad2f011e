use Rattle.std.proofs.Common.{◌≡◌, refl, false, sym, subst, [], lit<, lit≤}
use Rattle.domain_script.specs.declared.event.DiskDecl.{DiskDecl}
use Rattle.domain_script.specs.declared.event.Event.TheVariants as event
use Rattle.domain_script.specs.spelled.Name.{Name}
use Rattle.domain_script.specs.declared.fields.LaneKind.TheVariants.{Disk}
use Rattle.domain_script.specs.Declarations.{AreDisks, ArePorts, IsDisk}
use Rattle.domain_script.specs.NamesState.{NamesState, CanDeclare, noted}
use Rattle.unit_tests.proofs.reports.one_disk.Goals as goal

-- the first disk of a script
first_disk : (name : Name) → CanDeclare (record { disks = []; ports = []; ended = false }) Disk name
first_disk name = record { open_still = refl; few = lit< tt; free = (tt, tt) }

pub note-requires : goal.note-requires
note-requires c = subst (λ (names : NamesState). CanDeclare names Disk _) (sym c.new-names.ensures) (first_disk _)

-- a disk of this name within the limits
abbrev small : Name → DiskDecl
small name = record { name = name; blocks = 64; ring = 8; queue = 16 }

within : (name : Name) → IsDisk (small name)
within name = record {
  some_blocks = lit≤ tt;
  most_blocks = lit≤ tt;
  least_ring = lit≤ tt;
  most_ring = lit≤ tt;
  ring_power = (3, refl);
  least_queue = lit≤ tt;
  most_queue = lit≤ tt;
  queue_power = (4, refl);
}

declared : (name : Name) (before after : NamesState) → before ≡ record { disks = []; ports = []; ended = false } → after ≡ noted before (event.Disk (small name)) → AreDisks after.disks
declared name before after fresh is =
    subst (λ (names : NamesState). AreDisks names.disks) (sym is)
    (subst (λ (names : NamesState). AreDisks (noted names (event.Disk (small name))).disks) (sym fresh) (within name, tt))

pub returns-clause-disks : goal.returns-clause-disks
returns-clause-disks c = declared _ _ _ c.new-names.ensures c.note.ensures

ports_none : (name : Name) (before after : NamesState) → before ≡ record { disks = []; ports = []; ended = false } → after ≡ noted before (event.Disk (small name)) → ArePorts after.ports
ports_none name before after fresh is =
    subst (λ (names : NamesState). ArePorts names.ports) (sym is)
    (subst (λ (names : NamesState). ArePorts (noted names (event.Disk (small name))).ports) (sym fresh) tt)

pub returns-clause-ports : goal.returns-clause-ports
returns-clause-ports c = ports_none _ _ _ c.new-names.ensures c.note.ensures
