-- Declared disks and ports, one by one: within the limits.
use Rattle.std.proofs.Common.{◌≡◌, ℕ, zero, suc, List, [], ◌∷◌, ◌++◌, slice_get, Some, subst}
use Rattle.domain_script.specs.declared.event.DiskDecl.{DiskDecl}
use Rattle.domain_script.specs.declared.event.PortDecl.{PortDecl}
use Rattle.domain_script.specs.Declarations.{IsDisk, AreDisks, IsPort, ArePorts}
use Rattle.domain_script.specs.Firsts.{AreAll}

-- the k-th of things that all have a property, and one more of them
pub is_at : {X : Type 0} (P : X → Type 0) (xs : List X) (k : ℕ) (x : X) → AreAll P xs → slice_get xs k ≡ Some x → P x
is_at P [] k x are is = absurd (cc is)
is_at P (y ∷ ys) zero x are is =
    let same : y ≡ x = cc is in subst P same are.0
is_at P (y ∷ ys) (suc k) x are is = is_at P ys k x are.1 is

pub are_push : {X : Type 0} (P : X → Type 0) (xs : List X) (x : X) → AreAll P xs → P x → AreAll P (xs ++ x ∷ [])
are_push P [] x are is = (is, tt)
are_push P (y ∷ ys) x are is = (are.0, are_push P ys x are.1 is)

-- of disks within the limits, and of ports
pub is_disk_at : (disks : List DiskDecl) (k : ℕ) (disk : DiskDecl) → AreDisks disks → slice_get disks k ≡ Some disk → IsDisk disk
is_disk_at disks k disk are is = is_at IsDisk disks k disk are is

pub are_disks_push : (disks : List DiskDecl) (disk : DiskDecl) → AreDisks disks → IsDisk disk → AreDisks (disks ++ disk ∷ [])
are_disks_push disks disk are is = are_push IsDisk disks disk are is

pub is_port_at : (ports : List PortDecl) (k : ℕ) (port : PortDecl) → ArePorts ports → slice_get ports k ≡ Some port → IsPort port
is_port_at ports k port are is = is_at IsPort ports k port are is

pub are_ports_push : (ports : List PortDecl) (port : PortDecl) → ArePorts ports → IsPort port → ArePorts (ports ++ port ∷ [])
are_ports_push ports port are is = are_push IsPort ports port are is
