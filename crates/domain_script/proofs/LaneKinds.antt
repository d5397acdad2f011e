-- The kinds of lanes: what holds of disks, of ports, and of kinds of which a script declares nothing, holds of all. What
-- holds of all lanes of disks holds of each lane that is a disk's.
use Rattle.std.proofs.Common.{◌≡◌, ◌≢◌, ℕ, Bool, true, List, [], map, Option, Some, None, ◌⊎◌, inl, inr, refl, sym, ap, subst, arith}
use Rattle.std.specs.Prelude.{IsSomeAnd, if◌then◌else◌}
use Rattle.std.proofs.lemmas.Bool.{eq-eqb, eqb-true, false_from_ne_true}
use Rattle.domain_script.specs.declared.event.Lane.{Lane}
use Rattle.domain_script.specs.declared.fields.LaneKind.{LaneKind}
use Rattle.domain_script.specs.declared.fields.LaneKind.TheVariants as lanes
use Rattle.domain_script.specs.Declarations.{Declared, declared_as, names_of_kind}
use Rattle.domain_script.specs.LaneKinds.{disk_lane, disk_of, if_disk, is_same_kind, lane_at, number_if}

-- A KIND is that of disks, that of ports, or one of which a script declares nothing
which : (kind : LaneKind) → (kind ≡ lanes.Disk) ⊎ ((kind ≡ lanes.Port) ⊎ ((kind ≢ lanes.Disk) × (kind ≢ lanes.Port)))
which kind = grind arith

pub by_kinds : (P : LaneKind → Type 0) → P lanes.Disk → P lanes.Port → ((kind : LaneKind) → kind ≢ lanes.Disk → kind ≢ lanes.Port → P kind)
    → (kind : LaneKind) → P kind
by_kinds P disk port other kind =
    elim (which kind) [
      | inl is ↦ subst P (sym is) disk
      | inr (inl is) ↦ subst P (sym is) port
      | inr (inr neither) ↦ other kind neither.0 neither.1
    ]

-- OF A KIND that is neither a script declares nothing, and so it has no names. Names::count and Names::name go by it.
pub none_among : (kind : LaneKind) (all : Declared) → kind ≢ lanes.Disk → kind ≢ lanes.Port → (declared_as kind).among all ≡ []
none_among lanes.Disk all disk port = absurd (disk refl)
none_among _ all disk port = grind arith

pub no_names : (kind : LaneKind) (all : Declared) → kind ≢ lanes.Disk → kind ≢ lanes.Port → names_of_kind kind all ≡ []
no_names kind all disk port = ap (λ (l : List (declared_as kind).Decl). map (declared_as kind).name l) (none_among kind all disk port)

-- no two kinds have one place
same_place : (kind other : LaneKind) → (declared_as kind).place ≡ (declared_as other).place → kind ≡ other
same_place kind other is = grind arith

pub same_kind : (kind other : LaneKind) → is_same_kind kind other ≡ true → kind ≡ other
same_kind kind other is = same_place kind other (eqb-true _ _ is)

pub same_or_not : (kind other : LaneKind) → (kind ≡ other) ⊎ (kind ≢ other)
same_or_not kind other = grind arith

-- THE NUMBER of a lane that is of this kind
pub number_of_own : (kind : LaneKind) (k : ℕ) → number_if kind (lane_at kind k) ≡ Some k
number_of_own kind k = ap (λ (b : Bool). if b then Some k else None) (eq-eqb (declared_as kind).place _ refl)

pub number_of_other : (kind : LaneKind) (lane : Lane) → kind ≢ lane.kind → number_if kind lane ≡ None
number_of_other kind lane differs =
    ap (λ (b : Bool). if b then Some lane.number else None) (false_from_ne_true (is_same_kind kind lane.kind) (λ is. differs (same_kind kind lane.kind is)))

-- what is there has a weaker property too
pub some_weaker : (o : Option ℕ) (P Q : ℕ → Type 0) → ((k : ℕ) → P k → Q k) → IsSomeAnd o P → IsSomeAnd o Q
some_weaker None P Q holds is = is
some_weaker (Some k) P Q holds is = holds k is

by_kind : (P : Lane → Type 0) (Q : ℕ → Type 0) → ((k : ℕ) → Q k → P (disk_lane k)) → (kind : LaneKind) (number : ℕ)
    → IsSomeAnd (if_disk kind number) Q → P (record { kind = kind; number = number })
by_kind P Q holds lanes.Disk number is = holds number is
by_kind P Q holds _ number is = absurd is

pub of_disks : (P : Lane → Type 0) (Q : ℕ → Type 0) → ((k : ℕ) → Q k → P (disk_lane k)) → (l : Lane) → IsSomeAnd (disk_of l) Q → P l
of_disks P Q holds l is = by_kind P Q holds l.kind l.number is
