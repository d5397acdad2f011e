-- Lanes by their names: which lane is the first with a name, and what one more declaration changes.
use Rattle.std.proofs.Common.{◌≡◌, ◌≢◌, ℕ, false, List, [], ◌∷◌, ◌++◌, length, map, slice_get, Option, Some, ◌⊎◌, inl, inr, refl, sym, ◌∙◌, ap, subst, arith}
use Rattle.std.specs.Option.{option_map}
use Rattle.std.proofs.lemmas.List.{length-map, map-append}
use Rattle.std.proofs.lemmas.Option.{slice_get-map}
use Rattle.domain_script.specs.declared.event.DiskDecl.{DiskDecl}
use Rattle.domain_script.specs.declared.event.PortDecl.{PortDecl}
use Rattle.domain_script.specs.declared.event.Lane.{Lane}
use Rattle.script_words.specs.declared.spelled.Name.{Name}
use Rattle.domain_script.specs.declared.fields.LaneKind.{LaneKind}
use Rattle.domain_script.specs.declared.fields.LaneKind.TheVariants as lanes
use Rattle.domain_script.specs.Firsts.{IsFirst, IsNoneOf}
use Rattle.domain_script.specs.LaneKinds.{lane_at}
use Rattle.domain_script.specs.Declarations.{Declared, declared_as, names_of_kind}
use Rattle.domain_script.proofs.LaneKinds.{by_kinds, no_names, same_or_not}
use Rattle.domain_script.specs.NamesState.{declared_by, IsNameFree, IsLane, IsNamed, IsNoneBefore, NamesDiffer, NamesState, count_of, lane_name, names_of}
use Rattle.domain_script.proofs.Firsts.{is_first, is_none, no_place, not_there, old_or_last, one_place, place_within}

-- as many names as lanes
pub as_many_names : (names : NamesState) (kind : LaneKind) → length (names_of kind names) ≡ count_of kind names
as_many_names names kind = length-map _ _

-- WHO HAS A NAME is a disk, or else a port
pub by_name : (names : NamesState) (name : Name) (P : Lane → Type 0)
    → ((k : ℕ) → IsFirst name (names_of lanes.Disk names) k → P (lane_at lanes.Disk k))
    → ((k : ℕ) → IsNoneOf name (names_of lanes.Disk names) → IsFirst name (names_of lanes.Port names) k → P (lane_at lanes.Port k))
    → (lane : Lane) → IsNamed names name lane → P lane
by_name names name P disk port lane =
    by_kinds (λ kind. IsNamed names name (lane_at kind lane.number) → P (lane_at kind lane.number)) (λ named. disk lane.number named.1)
    (λ named. port lane.number named.0 named.1)
    (λ kind not_disk not_port named. absurd (subst (λ (l : List Name). IsFirst name l lane.number) (no_names kind (declared_by names) not_disk not_port) named.1))
    lane.kind

-- a name is of at most one lane
pub one_named : (names : NamesState) (name : Name) (a b : Lane) → IsNamed names name a → IsNamed names name b → a ≡ b
one_named names name a b first second =
    by_name names name (λ one. one ≡ b)
    (λ j at. by_name names name (λ other. lane_at lanes.Disk j ≡ other)
    (λ k there. ap (λ (n : ℕ). lane_at lanes.Disk n) (one_place (names_of lanes.Disk names) name j k at there))
    (λ k none there. absurd (no_place (names_of lanes.Disk names) name j none at)) b second)
    (λ j none at. by_name names name (λ other. lane_at lanes.Port j ≡ other)
    (λ k there. absurd (no_place (names_of lanes.Disk names) name k none there))
    (λ k no_disk there. ap (λ (n : ℕ). lane_at lanes.Port n) (one_place (names_of lanes.Port names) name j k at there)) b second) a first

-- a free name is of none
free_among : (names : NamesState) (name : Name) (kind : LaneKind) → IsNameFree names name → IsNoneOf name (names_of kind names)
free_among names name kind free =
    by_kinds (λ k. IsNoneOf name (names_of k names)) free.0 free.1
    (λ k not_disk not_port. subst (λ (l : List Name). IsNoneOf name l) (sym (no_names k (declared_by names) not_disk not_port)) tt) kind

pub none_named : (names : NamesState) (name : Name) (lane : Lane) → IsNameFree names name → IsNamed names name lane → ⊥
none_named names name lane free named = no_place (names_of lane.kind names) name lane.number (free_among names name lane.kind free) named.1

pub none_has : (names : NamesState) (name : Name) (lane : Lane) → IsNameFree names name → lane_name names lane ≡ Some name → ⊥
none_has names name lane free is = not_there (names_of lane.kind names) name lane.number (free_among names name lane.kind free) is

-- a lane that is named is declared
pub named_within : (names : NamesState) (name : Name) (lane : Lane) → IsNamed names name lane → IsLane names lane
named_within names name lane named =
    omega (arith, place_within (names_of lane.kind names) name lane.number named.1, as_many_names names lane.kind)

-- where no two lanes have one name each is the first of its own
other_kind : (j k : ℕ) → lane_at lanes.Disk j ≡ lane_at lanes.Port k → ⊥
other_kind j k is = let kinds : lanes.Disk ≡ lanes.Port = ap (λ (l : Lane). l.kind) is in cc kinds

none_before : (names : NamesState) (name : Name) (kind : LaneKind) (k : ℕ) → NamesDiffer names → lane_name names (lane_at kind k) ≡ Some name → IsNoneBefore names name kind
none_before names name lanes.Port k differ is =
    is_none (names_of lanes.Disk names) name (λ j lt there. other_kind j k (differ (lane_at lanes.Disk j) (lane_at lanes.Port k) name there is))
none_before names name _ k differ is = tt

pub named_by_own : (names : NamesState) (name : Name) (lane : Lane) → NamesDiffer names → lane_name names lane ≡ Some name → IsNamed names name lane
named_by_own names name lane differ is = (
  none_before names name lane.kind lane.number differ is,
  is_first (names_of lane.kind names) name lane.number is
      (λ j lt there.
      let same : j ≡ lane.number = ap (λ (l : Lane). l.number) (differ (lane_at lane.kind j) lane name there is) in omega (arith, lt, same)),
)

-- ONE MORE LANE, of a name that was free: the names of its kind are one more, and those of the other kind the same
pub record Adds (names more : NamesState) (kind : LaneKind) (name : Name) : Type 0 where
  pub own : names_of kind more ≡ names_of kind names ++ name ∷ []
  pub others : (other : LaneKind) → other ≢ kind → names_of other more ≡ names_of other names

abbrev pub IsNew : NamesState → LaneKind → Name → Lane → Name → Type 0
IsNew names kind name lane found = (lane ≡ lane_at kind (length (names_of kind names))) × (name ≡ found)

of_own : (names more : NamesState) (kind : LaneKind) (name found : Name) (k : ℕ) → Adds names more kind name → slice_get (names_of kind more) k ≡ Some found
    → (lane_name names (lane_at kind k) ≡ Some found) ⊎ IsNew names kind name (lane_at kind k) found
of_own names more kind name found k adds is =
    elim (old_or_last (names_of kind names) name found k (ap (λ (l : List Name). slice_get l k) (sym adds.own) ∙ is)) [
      | inl old ↦ inl old
      | inr last ↦ inr (ap (λ (n : ℕ). lane_at kind n) last.0, last.1)
    ]

of_other : (names more : NamesState) (kind other : LaneKind) (name found : Name) (k : ℕ) → Adds names more kind name → other ≢ kind → slice_get (names_of other more) k ≡ Some found
    → lane_name names (lane_at other k) ≡ Some found
of_other names more kind other name found k adds differs is = ap (λ (l : List Name). slice_get l k) (sym (adds.others other differs)) ∙ is

old_or_new : (names more : NamesState) (kind other : LaneKind) (name found : Name) (k : ℕ) → Adds names more kind name → slice_get (names_of other more) k ≡ Some found
    → (lane_name names (lane_at other k) ≡ Some found) ⊎ IsNew names kind name (lane_at other k) found
old_or_new names more kind other name found k adds is =
    elim (same_or_not other kind) [
      | inl same ↦ subst (λ (x : LaneKind). (lane_name names (lane_at x k) ≡ Some found) ⊎ IsNew names kind name (lane_at x k) found) (sym same)
          (of_own names more kind name found k adds (ap (λ (x : LaneKind). slice_get (names_of x more) k) (sym same) ∙ is))
      | inr differs ↦ inl (of_other names more kind other name found k adds differs is)
    ]

one_lane : (names : NamesState) (kind : LaneKind) (name found : Name) (a b : Lane) → NamesDiffer names → IsNameFree names name
    → (lane_name names a ≡ Some found) ⊎ IsNew names kind name a found → (lane_name names b ≡ Some found) ⊎ IsNew names kind name b found → a ≡ b
one_lane names kind name found a b differ free (inl first) (inl second) = differ a b found first second
one_lane names kind name found a b differ free (inl first) (inr second) = absurd (none_has names name a free (first ∙ ap Some (sym second.1)))
one_lane names kind name found a b differ free (inr first) (inl second) = absurd (none_has names name b free (second ∙ ap Some (sym first.1)))
one_lane names kind name found a b differ free (inr first) (inr second) = first.0 ∙ sym second.0

differ_more : (names more : NamesState) (kind : LaneKind) (name : Name) → Adds names more kind name → NamesDiffer names → IsNameFree names name → NamesDiffer more
differ_more names more kind name adds differ free a b found first second =
    one_lane names kind name found a b differ free (old_or_new names more kind a.kind name found a.number adds first) (old_or_new names more kind b.kind name found b.number adds second)

none_more : (names more : NamesState) (kind : LaneKind) → kind ≢ lanes.Disk → kind ≢ lanes.Port → names_of kind more ≡ names_of kind names
none_more names more kind not_disk not_port =
    no_names kind (declared_by more) not_disk not_port ∙ sym (no_names kind (declared_by names) not_disk not_port)

same_ports : (names more : NamesState) (other : LaneKind) → more.ports ≡ names.ports → other ≢ lanes.Disk → names_of other more ≡ names_of other names
same_ports names more other ports =
    by_kinds (λ kind. kind ≢ lanes.Disk → names_of kind more ≡ names_of kind names) (λ differs. absurd (differs refl))
    (λ differs. ap (λ (l : List PortDecl). map (λ (port : PortDecl). port.name) l) ports)
    (λ kind not_disk not_port differs. none_more names more kind not_disk not_port) other

same_disks : (names more : NamesState) (other : LaneKind) → more.disks ≡ names.disks → other ≢ lanes.Port → names_of other more ≡ names_of other names
same_disks names more other disks =
    by_kinds (λ kind. kind ≢ lanes.Port → names_of kind more ≡ names_of kind names)
    (λ differs. ap (λ (l : List DiskDecl). map (λ (disk : DiskDecl). disk.name) l) disks) (λ differs. absurd (differs refl))
    (λ kind not_disk not_port differs. none_more names more kind not_disk not_port) other

adds_disk : (names more : NamesState) (disk : DiskDecl) → more.disks ≡ names.disks ++ disk ∷ [] → more.ports ≡ names.ports → Adds names more lanes.Disk disk.name
adds_disk names more disk disks ports = record {
  own = ap (λ (l : List DiskDecl). map (λ (d : DiskDecl). d.name) l) disks ∙ map-append (λ (d : DiskDecl). d.name) names.disks (disk ∷ []);
  others = λ other differs. same_ports names more other ports differs;
}

adds_port : (names more : NamesState) (port : PortDecl) → more.disks ≡ names.disks → more.ports ≡ names.ports ++ port ∷ [] → Adds names more lanes.Port port.name
adds_port names more port disks ports = record {
  own = ap (λ (l : List PortDecl). map (λ (p : PortDecl). p.name) l) ports ∙ map-append (λ (p : PortDecl). p.name) names.ports (port ∷ []);
  others = λ other differs. same_disks names more other disks differs;
}

pub differ_disk : (names more : NamesState) (disk : DiskDecl) → more.disks ≡ names.disks ++ disk ∷ [] → more.ports ≡ names.ports → NamesDiffer names → IsNameFree names disk.name → NamesDiffer more
differ_disk names more disk disks ports = differ_more names more lanes.Disk disk.name (adds_disk names more disk disks ports)

pub differ_port : (names more : NamesState) (port : PortDecl) → more.disks ≡ names.disks → more.ports ≡ names.ports ++ port ∷ [] → NamesDiffer names → IsNameFree names port.name → NamesDiffer more
differ_port names more port disks ports = differ_more names more lanes.Port port.name (adds_port names more port disks ports)

-- the name of a lane is that of its declaration
pub name_of_lane : (names : NamesState) (lane : Lane) (kind : LaneKind) (found : Option (declared_as kind).Decl) → lane.kind ≡ kind
    → found ≡ slice_get ((declared_as kind).among (declared_by names)) lane.number → option_map (declared_as kind).name found ≡ lane_name names lane
name_of_lane names lane kind found of_kind is =
    ap (λ (o : Option (declared_as kind).Decl). option_map (declared_as kind).name o) is
    ∙ sym (slice_get-map (declared_as kind).name ((declared_as kind).among (declared_by names)) lane.number)
    ∙ ap (λ (k : LaneKind). slice_get (names_of k names) lane.number) (sym of_kind)

-- nothing is declared yet
pub none_differ : NamesDiffer (record { disks = []; ports = []; ended = false })
none_differ a b name first second =
    let names : NamesState = record { disks = []; ports = []; ended = false } in
    absurd (none_has names name a (tt, tt) first)

-- the same lanes have the same names
same_names : (names other : NamesState) (kind : LaneKind) → names.disks ≡ other.disks → names.ports ≡ other.ports → names_of kind names ≡ names_of kind other
same_names names other kind disks ports =
    let same : declared_by names ≡ declared_by other = cc (disks, ports) in ap (λ (all : Declared). names_of_kind kind all) same

pub still_differ : (names other : NamesState) → names.disks ≡ other.disks → names.ports ≡ other.ports → NamesDiffer names → NamesDiffer other
still_differ names other disks ports differ a b name first second =
    differ a b name
    (ap (λ (l : List Name). slice_get l a.number) (same_names names other a.kind disks ports) ∙ first)
    (ap (λ (l : List Name). slice_get l b.number) (same_names names other b.kind disks ports) ∙ second)
