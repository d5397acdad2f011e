-- Each piece of a descriptor leaves it what its progress says.
use Rattle.std.proofs.Common.{◌≡◌, ℕ, zero, suc, ◌+◌, ◌*◌, ◌⊎◌, Bool, true, false, Option, Some, None, List, length, refl, sym, subst, arith, inl, inr}
use Rattle.std.specs.Prelude.{◌==◌, if◌then◌else◌, nat_lt, not}
use Rattle.std.specs.Int.{bit_at}
use Rattle.std.proofs.lemmas.Bool.{and_parts, eqb-true, leb-true}
use Rattle.std.proofs.lemmas.List.{length-map}
use Rattle.std.proofs.lemmas.Nat.Bits.{bit_at_above}
use Rattle.cookie_copy.specs.declared.fault.Access.{Access}
use Rattle.cookie_copy.specs.declared.fault.Access.TheVariants.{Read}
use Rattle.cookie_copy.specs.declared.fault.CopyFault.{CopyFault}
use Rattle.cookie_copy.specs.declared.fault.CopyFault.TheVariants.{BadAlign, Channel, Short}
use Rattle.cookie_copy.specs.Faults.{first_copy_fault}
use Rattle.cookie_copy.specs.Moved.{moved_in}
use Rattle.cookie_copy.proofs.Walking.{length-spots}
use Rattle.map_table.specs.declared.cookie.Cookie.{Cookie}
use Rattle.map_table.specs.declared.table.Entry.{Entry}
use Rattle.vio_bytes.proofs.Ranges.{length-range_at}
use Rattle.vdisk_msg.specs.Check.{first_defect, is_allowed}
use Rattle.vdisk_msg.specs.declared.desc.DescFault.{DescFault}
use Rattle.vdisk_msg.specs.declared.desc.DescFault.TheVariants as fault
use Rattle.vdisk_msg.specs.declared.desc.DiskDesc.{DiskDesc}
use Rattle.vdisk_msg.specs.Descriptor as slot_says
use Rattle.vdisk_msg.specs.Pieces.{unit_count}
use Rattle.lane_models.specs.ServerState.{Ends, Flushes, Gathers, Gives, Progress, Reads, Work, Writes}
use Rattle.cookie_copy.specs.Reach.{Reach}
use Rattle.lane_models.specs.ServerWork.{GaveUnit, MovesIn, StoresIn, checked_progress, data_cookies, desc_of, first_progress, first_progress_of, gathered, gathers_next, given, in_fault, length_of, or_ends}
use Rattle.lane_laws.specs.Units.{UnitIs, WorkIs}

-- A COPY that isn't refused gives as many bytes as it asks for
holds_if : (up aligned holds : Bool) (rest : Option CopyFault)
    → (if not up then Some Channel else (if not aligned then Some BadAlign else (if not holds then Some Short else rest))) ≡ None → holds ≡ true
holds_if true true true rest none = refl
holds_if _ _ _ rest none = absurd (cc)

length_moved : (up : Bool) (access : Access) (table : List (Option Entry)) (memory : List ℕ) (cookies : List Cookie) (offset n : ℕ)
    → first_copy_fault up access table cookies offset n ≡ None → length (moved_in table memory cookies offset n) ≡ n
length_moved up access table memory cookies offset n none = search (leb-true, holds_if, length-range_at, length-spots, length-map)

-- WHAT COMES FIRST of a descriptor without a defect: the mask has reads, writes and flushes
one_of_three : (operation : ℕ) → (bit_at 0x0e operation == 1) ≡ true → (operation ≡ 1) ⊎ (operation ≡ 2) ⊎ (operation ≡ 3)
one_of_three zero is = absurd (cc)
one_of_three (suc zero) is = inl refl
one_of_three (suc (suc zero)) is = inr (inl refl)
one_of_three (suc (suc (suc zero))) is = inr (inr refl)
one_of_three (suc (suc (suc (suc k)))) is =
    let none : bit_at 0x0e (suc (suc (suc (suc k)))) ≡ 0 = bit_at_above 0x0e 4 (suc (suc (suc (suc k)))) (omega arith) (omega arith) in
    let one : bit_at 0x0e (suc (suc (suc (suc k)))) ≡ 1 = eqb-true (bit_at 0x0e (suc (suc (suc (suc k))))) 1 is in
    absurd (omega (arith, none, one))

allowed_if : (allowed : Bool) (rest : Option DescFault) → (if not allowed then Some fault.Operation else rest) ≡ None → allowed ≡ true
allowed_if true rest none = refl
allowed_if false rest none = absurd (cc)

first_of : (operation : ℕ) (desc : DiskDesc) → desc.operation ≡ operation → (operation ≡ 1) ⊎ (operation ≡ 2) ⊎ (operation ≡ 3) → UnitIs desc (first_progress_of operation)
first_of operation desc same is = grind arith

first_unit_is : (blocks : ℕ) (desc : DiskDesc) → UnitIs desc (first_progress blocks desc)
first_unit_is blocks desc = by_fault (first_defect desc blocks 0x0e) refl
  where
    by_fault : (why : Option DescFault) → first_defect desc blocks 0x0e ≡ why → UnitIs desc (checked_progress why desc)
    by_fault (Some why) is = tt
    by_fault None is =
        let allowed = allowed_if (is_allowed desc.operation 0x0e) _ is in
        first_of desc.operation desc refl (one_of_three desc.operation (and_parts (nat_lt desc.operation 64) (bit_at 0x0e desc.operation == 1) allowed).1)

-- the pieces that follow
reads_on : (desc : DiskDesc) (b : Bool) (unit : ℕ) → desc.operation ≡ 1 → UnitIs desc (if b then Reads (unit + 1) else Ends 0)
reads_on desc true unit is = is
reads_on desc false unit is = tt

gathers_on : (desc : DiskDesc) (b : Bool) (unit : ℕ) → desc.operation ≡ 2 → UnitIs desc (if b then Gathers (unit + 1) else Ends 0)
gathers_on desc true unit is = is
gathers_on desc false unit is = tt

gives_on : (work : Work) (why : Option CopyFault) (unit : ℕ) → (desc_of work).operation ≡ 1 → UnitIs (desc_of work) (given why work unit)
gives_on work None unit is = reads_on (desc_of work) (nat_lt (unit + 1) (unit_count (desc_of work).size)) unit is
gives_on work (Some why) unit is = tt

gathered_on : (work : Work) (reach : Reach) (why : Option CopyFault) (unit : ℕ) → why ≡ in_fault work reach unit → (desc_of work).operation ≡ 2 → UnitIs (desc_of work) (gathered why work reach unit)
gathered_on work reach None unit is two = (two, length_moved reach.both Read reach.table reach.memory (data_cookies work) (8192 * unit) (length_of work unit) (sym is))
gathered_on work reach (Some why) unit is two = tt

moved_is : (progress : Progress) (work : Work) (reach : Reach) (unit : ℕ) (why : Option CopyFault) (next : Progress) (new : List ℕ) → UnitIs (desc_of work) progress
    → MovesIn progress work reach unit why next new → UnitIs (desc_of work) next
moved_is (Gives u bytes) work reach unit why next new is moves = subst (UnitIs (desc_of work)) (sym moves.2) (gives_on work why u is.0)
moved_is (Gathers u) work reach unit why next new is moves = subst (UnitIs (desc_of work)) (sym moves.2) (gathered_on work reach why u moves.1 is)
moved_is _ work reach unit why next new is moves = absurd moves

read_on : (work : Work) (failed : Bool) (unit : ℕ) (gave : List ℕ) → GaveUnit failed work unit gave → (desc_of work).operation ≡ 1 → UnitIs (desc_of work) (or_ends failed (Gives unit gave))
read_on work false unit gave given one = (one, given)
read_on work true unit gave given one = tt

wrote_on : (work : Work) (failed : Bool) (unit : ℕ) → (desc_of work).operation ≡ 2 → UnitIs (desc_of work) (or_ends failed (gathers_next (desc_of work).size unit))
wrote_on work false unit two = gathers_on (desc_of work) (nat_lt (unit + 1) (unit_count (desc_of work).size)) unit two
wrote_on work true unit two = tt

flushed_on : (work : Work) (failed : Bool) → UnitIs (desc_of work) (or_ends failed (Ends 0))
flushed_on work false = tt
flushed_on work true = tt

stored_is : (progress : Progress) (work : Work) (operation block count : ℕ) (failed : Bool) (gave : List ℕ) (next : Progress) → UnitIs (desc_of work) progress
    → StoresIn progress work operation block count failed gave next → UnitIs (desc_of work) next
stored_is (Reads u) work operation block count failed gave next is stores = subst (UnitIs (desc_of work)) (sym stores.2) (read_on work failed u gave stores.1 is)
stored_is (Writes u bytes) work operation block count failed gave next is stores = subst (UnitIs (desc_of work)) (sym stores.2) (wrote_on work failed u is.0)
stored_is Flushes work operation block count failed gave next is stores = subst (UnitIs (desc_of work)) (sym stores.4) (flushed_on work failed)
stored_is _ work operation block count failed gave next is stores = absurd stores

pub fetched_is : (blocks : ℕ) (bytes : List ℕ) → WorkIs (Some (record { bytes = bytes; progress = first_progress blocks (slot_says.disk_desc_of bytes) }))
fetched_is blocks bytes = first_unit_is blocks (slot_says.disk_desc_of bytes)

pub moved_work : (work : Work) (reach : Reach) (unit : ℕ) (why : Option CopyFault) (next : Progress) (new : List ℕ) → WorkIs (Some work)
    → MovesIn work.progress work reach unit why next new → WorkIs (Some (record work { progress = next }))
moved_work work reach unit why next new is moves = moved_is work.progress work reach unit why next new is moves

pub stored_work : (work : Work) (operation block count : ℕ) (failed : Bool) (gave : List ℕ) (next : Progress) → WorkIs (Some work)
    → StoresIn work.progress work operation block count failed gave next → WorkIs (Some (record work { progress = next }))
stored_work work operation block count failed gave next is stores = stored_is work.progress work operation block count failed gave next is stores
