-- A descriptor in work is worked rightly, piece by piece.
use Rattle.std.proofs.Common.{◌≡◌, ℕ, ◌+◌, ◌*◌, ◌/◌, ◌%◌, ◌<◌, ◌≤◌, Bool, true, false, List, length, Option, Some, None, refl, sym, ap, ◌∙◌, subst, arith}
use Rattle.std.proofs.lemmas.List.{length-map}
use Rattle.std.specs.Prelude.{◌==◌, ◌&&◌, not, nat_le, nat_lt, if◌then◌else◌}
use Rattle.std.proofs.lemmas.Bool.{and_parts, eqb-true, leb-true, ltb-true}
use Rattle.cookie_copy.specs.declared.fault.Access.TheVariants.{Read}
use Rattle.cookie_copy.specs.declared.fault.CopyFault.{CopyFault}
use Rattle.cookie_copy.specs.declared.fault.CopyFault.TheVariants.{BadAlign, Channel, Short}
use Rattle.cookie_copy.specs.Faults.{first_address_fault, first_copy_fault, held, is_aligned}
use Rattle.cookie_copy.specs.Moved.{byte_of, moved_in, moved_spots}
use Rattle.cookie_copy.proofs.Loops.{moved_map}
use Rattle.cookie_copy.proofs.Walking.{length-moved}
use Rattle.map_table.specs.declared.cookie.Cookie.{Cookie}
use Rattle.vdisk_msg.specs.Check.{first_defect, has_size, holds_cookies, is_allowed, is_within, most_bytes, moves_data}
use Rattle.vdisk_msg.specs.declared.desc.DescFault.{DescFault}
use Rattle.vdisk_msg.specs.declared.desc.DescFault.TheVariants as defect
use Rattle.vdisk_msg.specs.declared.desc.DiskDesc.{DiskDesc}
use Rattle.vdisk_msg.specs.Pieces.{unit_count}
use Rattle.lane_models.specs.ServerState.{Ends, Flushes, Gathers, Gives, Progress, Reads, Work, Writes}
use Rattle.cookie_copy.specs.Reach.{Reach}
use Rattle.lane_models.specs.ServerWork.{GaveUnit, MovesIn, StoresIn, checked_progress, data_cookies, desc_of, first_progress, gathered, gathers_next, given, in_fault, length_of, or_ends, reads_next}
use Rattle.descriptor_work.specs.Units.{IsUnit}
use Rattle.vdisk_server.specs.Standing.{WorksRightly}

-- WHAT COMES FIRST: a descriptor without a defect that moves data has a first unit
abbrev pub defect_by : Bool → Bool → Bool → Bool → Bool → Option DescFault
defect_by allowed moves cookies size within =
    if not allowed then Some defect.Operation
    else if not moves then None
    else if not cookies then Some defect.Cookies
    else if not size then Some defect.Size
    else if not within then Some defect.Range
    else None

pub record Sound (cookies size within : Bool) : Type 0 where
  pub cookies_are : cookies ≡ true
  pub size_is : size ≡ true
  pub within_is : within ≡ true

sound_by : (allowed moves cookies size within : Bool) → defect_by allowed moves cookies size within ≡ None → moves ≡ true → Sound cookies size within
sound_by true true true true true none moves_is = record { cookies_are = refl; size_is = refl; within_is = refl }
sound_by true true true true false none moves_is = absurd (cc)
sound_by true true true false within none moves_is = absurd (cc)
sound_by true true false size within none moves_is = absurd (cc)
sound_by true false cookies size within none moves_is = absurd (cc)
sound_by false moves cookies size within none moves_is = absurd (cc)

first_unit : (blocks : ℕ) (desc : DiskDesc) → first_defect desc blocks 0x0e ≡ None → moves_data desc.operation ≡ true → IsUnit blocks 0 desc
first_unit blocks desc none moves_is =
    let sound : Sound (holds_cookies desc.count) (has_size desc.size) (is_within desc.offset (desc.size / 512) blocks) =
    sound_by (is_allowed desc.operation 0x0e) (moves_data desc.operation) (holds_cookies desc.count) (has_size desc.size)
    (is_within desc.offset (desc.size / 512) blocks) none moves_is in
    let sizes : ((nat_lt 0 desc.size && nat_le desc.size most_bytes) ≡ true) × ((desc.size % 512 == 0) ≡ true) =
    and_parts (nat_lt 0 desc.size && nat_le desc.size most_bytes) (desc.size % 512 == 0) sound.size_is in
    let bounds : (nat_lt 0 desc.size ≡ true) × (nat_le desc.size most_bytes ≡ true) = and_parts (nat_lt 0 desc.size) (nat_le desc.size most_bytes) sizes.0 in
    let whole : desc.size % 512 ≡ 0 = eqb-true (desc.size % 512) 0 sizes.1 in
    let some : 0 < desc.size = ltb-true 0 desc.size bounds.0 in
    let most : desc.size ≤ most_bytes = leb-true desc.size most_bytes bounds.1 in
    let fits : desc.offset + desc.size / 512 ≤ blocks = leb-true (desc.offset + desc.size / 512) blocks sound.within_is in
    let few : desc.count ≤ 5 = leb-true desc.count 5 (and_parts (nat_le 1 desc.count) (nat_le desc.count 5) sound.cookies_are).1 in
    record { whole = whole; most = most; unit_in = omega arith; within = omega arith; cookies = few }

operation_rightly : (blocks : ℕ) (work : Work) (one two : Bool) → (one ≡ true → IsUnit blocks 0 (desc_of work)) → (two ≡ true → IsUnit blocks 0 (desc_of work))
    → WorksRightly blocks (if one then Reads 0 else if two then Gathers 0 else Flushes) work
operation_rightly blocks work true two first second = first refl
operation_rightly blocks work false true first second = second refl
operation_rightly blocks work false false first second = tt

moves_one : (operation : ℕ) → (operation == 1) ≡ true → moves_data operation ≡ true
moves_one operation is = rw is refl

moves_two : (operation : ℕ) → (operation == 2) ≡ true → moves_data operation ≡ true
moves_two operation is = ap (λ (n : ℕ). moves_data n) (eqb-true operation 2 is)

checked_rightly : (blocks : ℕ) (work : Work) (found : Option DescFault) → first_defect (desc_of work) blocks 0x0e ≡ found
    → WorksRightly blocks (checked_progress found (desc_of work)) work
checked_rightly blocks work (Some fault) is = tt
checked_rightly blocks work None is =
    operation_rightly blocks work ((desc_of work).operation == 1) ((desc_of work).operation == 2)
    (λ one. first_unit blocks (desc_of work) is (moves_one (desc_of work).operation one))
    (λ two. first_unit blocks (desc_of work) is (moves_two (desc_of work).operation two))

pub first_rightly : (blocks : ℕ) (work : Work) → WorksRightly blocks (first_progress blocks (desc_of work)) work
first_rightly blocks work = checked_rightly blocks work (first_defect (desc_of work) blocks 0x0e) refl

-- WHAT COMES NEXT: a further unit lies in the disk as the one before
next_unit : (blocks unit : ℕ) (desc : DiskDesc) → IsUnit blocks unit desc → nat_lt (unit + 1) (unit_count desc.size) ≡ true → IsUnit blocks (unit + 1) desc
next_unit blocks unit desc is more =
    let less : unit + 1 < (desc.size + 8191) / 8192 = ltb-true (unit + 1) (unit_count desc.size) more in
    record { whole = is.whole; most = is.most; unit_in = omega arith; within = is.within; cookies = is.cookies }

cond_rightly : (blocks : ℕ) (work : Work) (test : Bool) (one other : Progress) → (test ≡ true → WorksRightly blocks one work) → WorksRightly blocks other work
    → WorksRightly blocks (if test then one else other) work
cond_rightly blocks work true one other first second = first refl
cond_rightly blocks work false one other first second = second

reads_rightly : (blocks unit : ℕ) (work : Work) → IsUnit blocks unit (desc_of work) → WorksRightly blocks (reads_next (desc_of work).size unit) work
reads_rightly blocks unit work is =
    cond_rightly blocks work (nat_lt (unit + 1) (unit_count (desc_of work).size)) (Reads (unit + 1)) (Ends 0) (λ more. next_unit blocks unit (desc_of work) is more) tt

gathers_rightly : (blocks unit : ℕ) (work : Work) → IsUnit blocks unit (desc_of work) → WorksRightly blocks (gathers_next (desc_of work).size unit) work
gathers_rightly blocks unit work is =
    cond_rightly blocks work (nat_lt (unit + 1) (unit_count (desc_of work).size)) (Gathers (unit + 1)) (Ends 0) (λ more. next_unit blocks unit (desc_of work) is more) tt

-- a copy that is answered moves as many bytes as were asked for
held_if : (up aligned holds : Bool) (rest : Option CopyFault) → (if not up then Some Channel else if not aligned then Some BadAlign else if not holds then Some Short else rest) ≡ None → holds ≡ true
held_if true true true rest is = refl
held_if true true false rest is = absurd (cc)
held_if true false holds rest is = absurd (cc)
held_if false aligned holds rest is = absurd (cc)

moved_long : (reach : Reach) (cookies : List Cookie) (offset n : ℕ) → first_copy_fault reach.both Read reach.table cookies offset n ≡ None
    → length (moved_in reach.table reach.memory cookies offset n) ≡ n
moved_long reach cookies offset n none =
    let within : offset + n ≤ held cookies =
    leb-true (offset + n) (held cookies)
    (held_if reach.both (is_aligned cookies offset n) (nat_le (offset + n) (held cookies)) (first_address_fault Read reach.table (moved_spots cookies offset n)) none) in
    ap length (sym (moved_map (byte_of reach.table reach.memory) cookies offset n))
    ∙ length-map (moved_spots cookies offset n) (byte_of reach.table reach.memory) ∙ length-moved cookies offset n within

gathered_rightly : (blocks unit : ℕ) (work : Work) (reach : Reach) (fault : Option CopyFault) → IsUnit blocks unit (desc_of work) → fault ≡ in_fault work reach unit
    → WorksRightly blocks (gathered fault work reach unit) work
gathered_rightly blocks unit work reach (Some why) is found = tt
gathered_rightly blocks unit work reach None is found = (is, moved_long reach (data_cookies work) (8192 * unit) (length_of work unit) (sym found))

given_rightly : (blocks unit : ℕ) (work : Work) (fault : Option CopyFault) → IsUnit blocks unit (desc_of work) → WorksRightly blocks (given fault work unit) work
given_rightly blocks unit work (Some why) is = tt
given_rightly blocks unit work None is = reads_rightly blocks unit work is

pub moves_rightly : (blocks : ℕ) (progress : Progress) (work : Work) (reach : Reach) (unit : ℕ) (fault : Option CopyFault) (next : Progress) (new : List ℕ)
    → WorksRightly blocks progress work → MovesIn progress work reach unit fault next new → WorksRightly blocks next work
moves_rightly blocks (Gives u bytes) work reach unit fault next new rightly moves =
    subst (λ (p : Progress). WorksRightly blocks p work) (sym moves.2) (given_rightly blocks u work fault rightly.0)
moves_rightly blocks (Gathers u) work reach unit fault next new rightly moves =
    subst (λ (p : Progress). WorksRightly blocks p work) (sym moves.2) (gathered_rightly blocks u work reach fault rightly moves.1)
moves_rightly blocks (Reads u) work reach unit fault next new rightly moves = absurd moves
moves_rightly blocks (Writes u bytes) work reach unit fault next new rightly moves = absurd moves
moves_rightly blocks Flushes work reach unit fault next new rightly moves = absurd moves
moves_rightly blocks (Ends status) work reach unit fault next new rightly moves = absurd moves

ends_rightly : (blocks : ℕ) (work : Work) (failed : Bool) (next : Progress) → (failed ≡ false → WorksRightly blocks next work) → WorksRightly blocks (or_ends failed next) work
ends_rightly blocks work true next rightly = tt
ends_rightly blocks work false next rightly = rightly refl

gave_long : (failed : Bool) (work : Work) (unit : ℕ) (gave : List ℕ) → GaveUnit failed work unit gave → failed ≡ false → length gave ≡ length_of work unit
gave_long false work unit gave long is = long
gave_long true work unit gave long is = absurd (cc)

pub stores_rightly : (blocks : ℕ) (progress : Progress) (work : Work) (operation block count : ℕ) (failed : Bool) (gave : List ℕ) (next : Progress)
    → WorksRightly blocks progress work → StoresIn progress work operation block count failed gave next → WorksRightly blocks next work
stores_rightly blocks (Reads u) work operation block count failed gave next rightly stores =
    subst (λ (p : Progress). WorksRightly blocks p work) (sym stores.2)
    (ends_rightly blocks work failed (Gives u gave) (λ is. (rightly, gave_long failed work u gave stores.1 is)))
stores_rightly blocks (Writes u bytes) work operation block count failed gave next rightly stores =
    subst (λ (p : Progress). WorksRightly blocks p work) (sym stores.2)
    (ends_rightly blocks work failed (gathers_next (desc_of work).size u) (λ is. gathers_rightly blocks u work rightly.0))
stores_rightly blocks Flushes work operation block count failed gave next rightly stores =
    subst (λ (p : Progress). WorksRightly blocks p work) (sym stores.4) (ends_rightly blocks work failed (Ends 0) (λ is. tt))
stores_rightly blocks (Gives u bytes) work operation block count failed gave next rightly stores = absurd stores
stores_rightly blocks (Gathers u) work operation block count failed gave next rightly stores = absurd stores
stores_rightly blocks (Ends status) work operation block count failed gave next rightly stores = absurd stores
