use Rattle.std.proofs.Common.{◌≡◌, ◌<◌, true, length, take, length-set, refl, sym, ◌∙◌, ap, subst, arith}
use Rattle.std.proofs.lemmas.List.{length-take-le}
use Rattle.domain_script.specs.declared.event.Event.{Event}
use Rattle.domain_script.specs.declared.fields.LaneKind.TheVariants as lanes
use Rattle.domain_script.specs.NamesState.{CanDeclare, CanNote, IsNameFree, IsFreeAddress, NamesState}
use Rattle.domain_script.proofs.LaneNames.{still_differ}
use Rattle.domain_script.proofs.Noting.{address_added, disk_added, port_added}
use Rattle.domain_script.proofs.names.Names.note.Goals as goal

pub invariant_of-self : goal.invariant_of-self
invariant_of-self c =
    let can : CanDeclare c.args.self.now lanes.Disk c.in-Disk.disk.name = subst (λ (e : Event). CanNote c.args.self.now e) c.in-Disk.is c.requires in
    let long : length (take c.self.inside.disk_count c.self.inside.disks) ≡ c.self.inside.disk_count =
    length-take-le c.self.inside.disk_count c.self.inside.disks (omega arith) in
    let seen : length (take c.self.inside.disk_count c.self.inside.disks) ≡ length c.args.self.now.disks = ap (λ s. length s.disks) c.self.view_is in
    let few : c.self.inside.disk_count < 8 = omega (arith, can.few) in
    let free = subst (λ (s : NamesState). IsNameFree s c.in-Disk.disk.name) (sym c.self.view_is) can.free in (
      omega arith,
      length-set c.self.inside.disks c.self.inside.disk_count c.in-Disk.disk ∙ c.self.invariant.1,
      c.self.invariant.2,
      c.self.invariant.3,
      disk_added c.self.inside.disks c.self.inside.disk_count (take c.self.inside.port_count c.self.inside.ports) c.self.inside.ended c.in-Disk.disk
          (omega arith) c.self.invariant.4 free,
      c.self.invariant.5,
    )

pub invariant_of-self-in-Net : goal.invariant_of-self-in-Net
invariant_of-self-in-Net c =
    let can : CanDeclare c.args.self.now lanes.Port c.in-Net.port.name × IsFreeAddress c.args.self.now c.in-Net.port.address =
    subst (λ (e : Event). CanNote c.args.self.now e) c.in-Net.is c.requires in
    let long : length (take c.self.inside.port_count c.self.inside.ports) ≡ c.self.inside.port_count =
    length-take-le c.self.inside.port_count c.self.inside.ports (omega arith) in
    let seen : length (take c.self.inside.port_count c.self.inside.ports) ≡ length c.args.self.now.ports = ap (λ s. length s.ports) c.self.view_is in
    let few : c.self.inside.port_count < 8 = omega (arith, can.0.few) in
    let free = subst (λ (s : NamesState). IsNameFree s c.in-Net.port.name) (sym c.self.view_is) can.0.free in
    let free_address = subst (λ (s : NamesState). IsFreeAddress s c.in-Net.port.address) (sym c.self.view_is) can.1 in (
      c.self.invariant.0,
      c.self.invariant.1,
      omega arith,
      length-set c.self.inside.ports c.self.inside.port_count c.in-Net.port ∙ c.self.invariant.3,
      port_added (take c.self.inside.disk_count c.self.inside.disks) c.self.inside.ports c.self.inside.port_count c.self.inside.ended c.in-Net.port
          (omega arith) c.self.invariant.4 free,
      address_added c.self.inside.ports c.self.inside.port_count c.in-Net.port (omega arith) c.self.invariant.5 free_address,
    )

pub invariant_of-self-in_default : goal.invariant_of-self-in_default
invariant_of-self-in_default c = (
  c.self.invariant.0,
  c.self.invariant.1,
  c.self.invariant.2,
  c.self.invariant.3,
  still_differ
      (record { disks = take c.self.inside.disk_count c.self.inside.disks; ports = take c.self.inside.port_count c.self.inside.ports; ended = c.self.inside.ended })
      (record { disks = take c.self.inside.disk_count c.self.inside.disks; ports = take c.self.inside.port_count c.self.inside.ports; ended = true })
      refl refl c.self.invariant.4,
  c.self.invariant.5,
)
