-- One more declaration, written behind those that stand.
use Rattle.std.proofs.Common.{◌≡◌, ℕ, ◌+◌, ◌<◌, Bool, List, [], ◌∷◌, ◌++◌, length, set, take, refl, ◌∙◌, ap, subst, sym}
use Rattle.std.proofs.lemmas.List.{map-append, take_more_set}
use Rattle.domain_script.specs.declared.event.DiskDecl.{DiskDecl}
use Rattle.domain_script.specs.declared.event.PortDecl.{PortDecl}
use Rattle.domain_script.specs.Declarations.{AddressesDiffer, addresses}
use Rattle.domain_script.specs.Firsts.{AllDiffer, IsNoneOf}
use Rattle.domain_script.specs.NamesState.{IsNameFree, NamesDiffer, NamesState}
use Rattle.domain_script.proofs.Firsts.{differ_push}
use Rattle.domain_script.proofs.LaneNames.{differ_disk, differ_port}

abbrev declared : List DiskDecl → List PortDecl → Bool → NamesState
declared disks ports ended = record { disks = disks; ports = ports; ended = ended }

pub disk_added : (disks : List DiskDecl) (count : ℕ) (ports : List PortDecl) (ended : Bool) (disk : DiskDecl) → count < length disks
    → NamesDiffer (declared (take count disks) ports ended) → IsNameFree (declared (take count disks) ports ended) disk.name
    → NamesDiffer (declared (take (count + 1) (set disks count disk)) ports ended)
disk_added disks count ports ended disk lt differ free =
    differ_disk (declared (take count disks) ports ended) (declared (take (count + 1) (set disks count disk)) ports ended) disk
    (take_more_set disks count disk lt) refl differ free

pub port_added : (disks : List DiskDecl) (ports : List PortDecl) (count : ℕ) (ended : Bool) (port : PortDecl) → count < length ports
    → NamesDiffer (declared disks (take count ports) ended) → IsNameFree (declared disks (take count ports) ended) port.name
    → NamesDiffer (declared disks (take (count + 1) (set ports count port)) ended)
port_added disks ports count ended port lt differ free =
    differ_port (declared disks (take count ports) ended) (declared disks (take (count + 1) (set ports count port)) ended) port
    refl (take_more_set ports count port lt) differ free

pub address_added : (ports : List PortDecl) (count : ℕ) (port : PortDecl) → count < length ports → AddressesDiffer (take count ports)
    → IsNoneOf port.address (addresses (take count ports)) → AddressesDiffer (take (count + 1) (set ports count port))
address_added ports count port lt differ free =
    let more : addresses (take (count + 1) (set ports count port)) ≡ addresses (take count ports) ++ port.address ∷ [] =
    ap addresses (take_more_set ports count port lt) ∙ map-append (λ (p : PortDecl). p.address) (take count ports) (port ∷ []) in
    subst (λ (l : List (List ℕ)). AllDiffer l) (sym more) (differ_push (addresses (take count ports)) port.address differ free)
