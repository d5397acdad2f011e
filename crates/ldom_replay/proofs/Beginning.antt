-- The lanes of a script's disks and ports before anything was asked, and the image as it was attached.
use Rattle.std.proofs.Common.{◌≡◌, ℕ, ◌+◌, List, [], ◌∷◌, length, map, refl, ap, sym, subst, ◌∙◌, Option, arith}
use Rattle.disk_law.specs.ListState.{ImageState, as_image, attached}
use Rattle.vio_io.specs.declared.store.Store.{Ghosts}
use Rattle.domain_script.specs.NamesState.{NamesState}
use Rattle.domain_script.specs.declared.event.DiskDecl.{DiskDecl}
use Rattle.domain_script.specs.declared.event.PortDecl.{PortDecl}
use Rattle.ldom_world.specs.world_parts.domain_laws.Domain.{DomainState, Lanes, lanes_in}
use Rattle.ldom_world.specs.world_parts.lane_models.PortState.{PortState, fresh_port}
use Rattle.script_laws.specs.Replayed.{attach_status, start_of}
use Rattle.vio_io.specs.declared.host.AttachFault.{AttachFault}
use Rattle.vio_io.specs.declared.host.AttachFault.TheVariants.{Failed, Memory}
use Rattle.ldom_report.specs.Stops.{AtMostOnce, EndsTold}
use Rattle.ldom_world.specs.world_parts.lane_models.LaneState.{LaneState, fresh}
use Rattle.ldom_world.specs.world_parts.world_laws.World.{WorldState}
use Rattle.ldom_world.specs.world_parts.Declared.{nets_of, shapes_of}
use Rattle.ldom_replay.specs.NamesLanes.{HasLanes}
use Rattle.ldom_world.specs.Steps.{Counted}
use Rattle.ldom_world.specs.TurnsMade.{SameNumbers}
use Rattle.ldom_world.proofs.Beginning.{none_counted}

-- one for each disk and for each port
as_many : (first : ℕ) (disks : List DiskDecl) → length (map fresh (shapes_of first disks)) ≡ length disks
as_many first [] = refl
as_many first (disk ∷ disks) = omega (arith, as_many (first + disk.blocks) disks)

as_many_ports : (ports : List PortDecl) → length (map fresh_port (nets_of ports)) ≡ length ports
as_many_ports [] = refl
as_many_ports (port ∷ ports) = omega (arith, as_many_ports ports)

-- the lanes that were made for the names
abbrev pub fresh_lanes : NamesState → Lanes
fresh_lanes names = record { first = map fresh (shapes_of 0 names.disks); second = map fresh_port (nets_of names.ports) }

pub has_all : (names : NamesState) (w : DomainState) (made : Lanes) → w.first.lanes ≡ made.first → w.second ≡ made.second
    → made ≡ fresh_lanes names → HasLanes names w
has_all names w made disks ports are = record {
  disks = ap (λ (l : List LaneState). length l) (disks ∙ ap (λ (l : Lanes). l.first) are) ∙ as_many 0 names.disks;
  ports = ap (λ (l : List PortState). length l) (ports ∙ ap (λ (l : Lanes). l.second) are) ∙ as_many_ports names.ports;
}

-- an event that ends no declarations leaves as many of each
pub has_still : (names after : NamesState) (w v : DomainState) → after.disks ≡ names.disks → after.ports ≡ names.ports
    → SameNumbers w v → HasLanes names w → HasLanes after v
has_still names after w v disks ports same has = record {
  disks = same.disks ∙ has.disks ∙ sym (ap (λ (l : List DiskDecl). length l) disks);
  ports = same.ports ∙ has.ports ∙ sym (ap (λ (l : List PortDecl). length l) ports);
}

-- and nothing was given to them
pub begins_counted : (names : NamesState) (w : DomainState) (made : Lanes) → w.first.lanes ≡ made.first → w.second ≡ made.second
    → made ≡ fresh_lanes names → Counted [] w
begins_counted names w made disks ports are =
    none_counted (shapes_of 0 names.disks) (nets_of names.ports) w
    (disks ∙ ap (λ (l : Lanes). l.first) are) (ports ∙ ap (λ (l : Lanes). l.second) are)

-- an image that was just attached
pub just_attached : {D : Type 0} (store : Ghosts D) (disk : D) (gives : Option (List ℕ)) → store.content disk ≡ gives → store.faults disk ≡ 0
    → store.calls disk ≡ 0 → store.flushes disk ≡ 0 → store.writes disk ≡ 0 → as_image store disk ≡ attached gives
just_attached store disk gives told_is none_failed none_called none_flushed none_written =
    ap (λ (o : Option (List ℕ)). record (as_image store disk) { told = o }) told_is
    ∙ ap (λ (n : ℕ). record (record (as_image store disk) { told = gives }) { faults = n }) none_failed
    ∙ ap (λ (n : ℕ). record (record (as_image store disk) { told = gives; faults = 0 }) { calls = n }) none_called
    ∙ ap (λ (n : ℕ). record (record (as_image store disk) { told = gives; faults = 0; calls = 0 }) { flushes = n }) none_flushed
    ∙ ap (λ (n : ℕ). record (attached gives) { writes = n }) none_written

-- the world of both
pub same_world : (names : NamesState) (gives : ℕ → Option (List ℕ)) (w : DomainState) (made : Lanes) (i : ImageState)
    → w.first.lanes ≡ made.first → w.first.image ≡ i → w.second ≡ made.second → made ≡ fresh_lanes names
    → i ≡ (start_of names gives).first.image → w ≡ start_of names gives
same_world names gives w made i disks image_is ports are begins =
    ap (λ (l : List LaneState). over l w.first.image w.second) (disks ∙ ap (λ (l : Lanes). l.first) are)
    ∙ ap (λ (x : ImageState). over fresh_disks x w.second) (image_is ∙ begins)
    ∙ ap (λ (l : List PortState). over fresh_disks (start_of names gives).first.image l) (ports ∙ ap (λ (l : Lanes). l.second) are)
  where
    fresh_disks : List LaneState
    fresh_disks = map fresh (shapes_of 0 names.disks)

    over : List LaneState → ImageState → List PortState → DomainState
    over lanes image ports = record { first = record { lanes = lanes; image = image }; second = ports }

-- and its lanes, of both kinds
pub same_lanes : (left : Lanes) (w : DomainState) → left.first ≡ w.first.lanes → left.second ≡ w.second → left ≡ lanes_in w
same_lanes left w disks ports = ap (λ (l : List LaneState). both l left.second) disks ∙ ap (λ (l : List PortState). both w.first.lanes l) ports
  where
    both : List LaneState → List PortState → Lanes
    both disks ports = record { first = disks; second = ports }

-- where a host gave no image, the end of the script may have been told
pub attach_told : (fault : AttachFault) (before now : ℕ) → AtMostOnce before now → EndsTold (attach_status fault) before now
attach_told Failed before now told = told
attach_told Memory before now told = told
