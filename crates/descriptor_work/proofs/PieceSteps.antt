-- What a piece of a descriptor is, by the calls that it made.
use Rattle.std.proofs.Common.{◌≡◌, ℕ, Bool, ◌+◌, ◌-◌, ◌*◌, ◌/◌, ◌%◌, ◌^◌, ◌<◌, ◌≤◌, true, false, List, [], length, Option, Some, None, Result, Ok, Err, OnOk, is_err, refl, sym, ap, ◌∙◌, subst, arith, nat_lt, IsTrue}
use Rattle.std.specs.Prelude.{min}
use Rattle.std.proofs.lemmas.Bool.{ltb-true}
use Rattle.cookie_copy.specs.declared.fault.Access.TheVariants.{Read, Write}
use Rattle.cookie_copy.specs.declared.fault.CopyFault.{CopyFault}
use Rattle.cookie_copy.specs.Faults.{first_copy_fault}
use Rattle.cookie_copy.specs.Moved.{moved_in, moved_out}
use Rattle.vdisk_msg.specs.Check.{most_bytes}
use Rattle.vdisk_msg.specs.Pieces.{unit_count}
use Rattle.map_table.specs.declared.cookie.Cookie.{Cookie}
use Rattle.vio_io.specs.Stores.{IsUnitRange, KeepsOutside, ReadsRange, WritesRange}
use Rattle.lane_models.specs.ServerState.{Ends, Flushes, Gathers, Gives, Progress, Reads, Work, Writes}
use Rattle.cookie_copy.specs.Reach.{Reach}
use Rattle.lane_models.specs.ServerWork.{MovesIn, data_cookies, desc_of, gathers_next, length_of, or_ends, reads_next, unit_block}
use Rattle.descriptor_work.specs.declared.answers.StoreCall.{StoreCall}
use Rattle.descriptor_work.specs.declared.answers.UnitCopy.{UnitCopy}
use Rattle.descriptor_work.specs.Pieces.{PieceIn, PieceOn, StoredFor}

abbrev copied : ℕ → Option CopyFault → UnitCopy
copied unit fault = record { unit = unit; fault = fault }

abbrev called : ℕ → ℕ → ℕ → Bool → StoreCall
called operation block count failed = record { operation = operation; block = block; count = count; failed = failed }

given_fault : (work : Work) (unit : ℕ) (bytes shown : List ℕ) (cookies : List Cookie) (reach : Reach) (fault : Option CopyFault)
    → cookies ≡ data_cookies work → shown ≡ bytes
    → first_copy_fault reach.both Write reach.table cookies (8192 * unit) (length shown) ≡ fault
    → first_copy_fault reach.both Write reach.table (data_cookies work) (8192 * unit) (length bytes) ≡ fault
given_fault work unit bytes shown cookies reach fault by held is =
    subst (λ (xs : List ℕ). first_copy_fault reach.both Write reach.table (data_cookies work) (8192 * unit) (length xs) ≡ fault) held
    (subst (λ (cs : List Cookie). first_copy_fault reach.both Write reach.table cs (8192 * unit) (length shown) ≡ fault) by is)

-- copied out, or refused
pub piece_given : (work : Work) (unit : ℕ) (bytes shown new : List ℕ) (cookies : List Cookie) (reach : Reach) (next : Progress)
    → work.progress ≡ Gives unit bytes → cookies ≡ data_cookies work → shown ≡ bytes → next ≡ reads_next (desc_of work).size unit
    → first_copy_fault reach.both Write reach.table cookies (8192 * unit) (length shown) ≡ None
    → new ≡ moved_out reach.table reach.memory cookies (8192 * unit) shown
    → PieceIn work reach (copied unit None) (record work { progress = next }) new
piece_given work unit bytes shown new cookies reach next is by held goes fault moved = record {
  next = next;
  moved = subst (λ (p : Progress). MovesIn p work reach unit None next new) (sym is) (
    refl,
    sym (given_fault work unit bytes shown cookies reach None by held fault),
    goes,
    moved ∙ ap (λ (cs : List Cookie). moved_out reach.table reach.memory cs (8192 * unit) shown) by
        ∙ ap (moved_out reach.table reach.memory (data_cookies work) (8192 * unit)) held,
  );
  is = refl;
}

pub piece_not_given : (work : Work) (unit : ℕ) (bytes shown new : List ℕ) (cookies : List Cookie) (reach : Reach) (why : CopyFault)
    → work.progress ≡ Gives unit bytes → cookies ≡ data_cookies work → shown ≡ bytes
    → first_copy_fault reach.both Write reach.table cookies (8192 * unit) (length shown) ≡ Some why → new ≡ reach.memory
    → PieceIn work reach (copied unit (Some why)) (record work { progress = Ends 22 }) new
piece_not_given work unit bytes shown new cookies reach why is by held fault kept = record {
  next = Ends 22;
  moved = subst (λ (p : Progress). MovesIn p work reach unit (Some why) (Ends 22) new) (sym is)
      (refl, sym (given_fault work unit bytes shown cookies reach (Some why) by held fault), refl, kept);
  is = refl;
}

-- copied in, or refused
pub piece_gathered : (work : Work) (unit size : ℕ) (bytes : List ℕ) (cookies : List Cookie) (reach : Reach)
    → work.progress ≡ Gathers unit → cookies ≡ data_cookies work → size ≡ length_of work unit
    → first_copy_fault reach.both Read reach.table cookies (8192 * unit) size ≡ None
    → bytes ≡ moved_in reach.table reach.memory cookies (8192 * unit) size
    → PieceIn work reach (copied unit None) (record work { progress = Writes unit bytes }) reach.memory
piece_gathered work unit size bytes cookies reach is by long fault moved =
    let next : Progress = Writes unit bytes in
    record {
      next = next;
      moved = subst (λ (p : Progress). MovesIn p work reach unit None next reach.memory) (sym is) (
        refl,
        sym (subst (λ (n : ℕ). first_copy_fault reach.both Read reach.table (data_cookies work) (8192 * unit) n ≡ None) long
            (subst (λ (cs : List Cookie). first_copy_fault reach.both Read reach.table cs (8192 * unit) size ≡ None) by fault)),
        ap (Writes unit) (moved ∙ ap (λ (cs : List Cookie). moved_in reach.table reach.memory cs (8192 * unit) size) by
            ∙ ap (moved_in reach.table reach.memory (data_cookies work) (8192 * unit)) long),
        refl,
      );
      is = refl;
    }

pub piece_not_gathered : (work : Work) (unit size : ℕ) (cookies : List Cookie) (reach : Reach) (why : CopyFault)
    → work.progress ≡ Gathers unit → cookies ≡ data_cookies work → size ≡ length_of work unit
    → first_copy_fault reach.both Read reach.table cookies (8192 * unit) size ≡ Some why
    → PieceIn work reach (copied unit (Some why)) (record work { progress = Ends 22 }) reach.memory
piece_not_gathered work unit size cookies reach why is by long fault = record {
  next = Ends 22;
  moved = subst (λ (p : Progress). MovesIn p work reach unit (Some why) (Ends 22) reach.memory) (sym is) (
    refl,
    sym (subst (λ (n : ℕ). first_copy_fault reach.both Read reach.table (data_cookies work) (8192 * unit) n ≡ Some why) long
        (subst (λ (cs : List Cookie). first_copy_fault reach.both Read reach.table cs (8192 * unit) size ≡ Some why) by fault)),
    refl,
    refl,
  );
  is = refl;
}

-- read from the store, or not
pub piece_read : (failed : Bool) (first unit block size count place : ℕ) (next : Progress) (work : Work) (told new : Option (List ℕ)) (gave : List ℕ)
    → next ≡ or_ends failed (Gives unit gave) → work.progress ≡ Reads unit → block ≡ unit_block work unit → size ≡ length_of work unit → count ≡ size / 512
    → place ≡ 512 * (first + block) → (failed ≡ false → length gave ≡ size) → (failed ≡ false → ReadsRange told place gave) → new ≡ told
    → PieceOn first work told (called 1 block count failed) (record work { progress = next }) new
piece_read false first unit block size count place next work told new gave goes is at long counted placed held told_is same = record {
  gave = gave;
  next = next;
  stored = subst (λ (p : Progress). StoredFor (called 1 block count false) first (record work { progress = p }) gave next told new) (sym is) (
    (record { operation_is = refl; block_is = at; count_is = counted ∙ ap (λ (n : ℕ). n / 512) long }, held refl ∙ long, goes),
    (subst (λ (k : ℕ). ReadsRange told k gave) placed (told_is refl), same),
  );
  is = refl;
}
piece_read true first unit block size count place next work told new gave goes is at long counted placed held told_is same = record {
  gave = [];
  next = next;
  stored = subst (λ (p : Progress). StoredFor (called 1 block count true) first (record work { progress = p }) [] next told new) (sym is)
      ((record { operation_is = refl; block_is = at; count_is = counted ∙ ap (λ (n : ℕ). n / 512) long }, refl, goes), same);
  is = refl;
}

-- written to it, or not
pub piece_written : (failed : Bool) (first unit block count place : ℕ) (bytes shown : List ℕ) (next : Progress) (work : Work) (told new : Option (List ℕ))
    → next ≡ or_ends failed (gathers_next (desc_of work).size unit) → work.progress ≡ Writes unit bytes → block ≡ unit_block work unit → shown ≡ bytes
    → count ≡ length shown / 512 → place ≡ 512 * (first + block)
    → (failed ≡ false → WritesRange told new place shown) → KeepsOutside told new place (length shown)
    → PieceOn first work told (called 2 block count failed) (record work { progress = next }) new
piece_written false first unit block count place bytes shown next work told new goes is at held counted placed written outside = record {
  gave = [];
  next = next;
  stored = subst (λ (p : Progress). StoredFor (called 2 block count false) first (record work { progress = p }) [] next told new) (sym is) (
    (record { operation_is = refl; block_is = at; count_is = counted ∙ ap (λ (xs : List ℕ). length xs / 512) held }, refl, goes),
    subst (λ (xs : List ℕ). WritesRange told new (512 * (first + block)) xs) held
        (subst (λ (k : ℕ). WritesRange told new k shown) placed (written refl)),
  );
  is = refl;
}
piece_written true first unit block count place bytes shown next work told new goes is at held counted placed written outside = record {
  gave = [];
  next = next;
  stored = subst (λ (p : Progress). StoredFor (called 2 block count true) first (record work { progress = p }) [] next told new) (sym is) (
    (record { operation_is = refl; block_is = at; count_is = counted ∙ ap (λ (xs : List ℕ). length xs / 512) held }, refl, goes),
    subst (λ (xs : List ℕ). KeepsOutside told new (512 * (first + block)) (length xs)) held
        (subst (λ (k : ℕ). KeepsOutside told new k (length shown)) placed outside),
  );
  is = refl;
}

-- Of a unit that lies in the disk: its bytes are whole blocks, one at least, and its blocks end at or before the disk's end.
pub unit_whole : (unit size n : ℕ) → size % 512 ≡ 0 → 8192 * unit < size → n ≡ min 8192 (size - 8192 * unit) → (n % 512 ≡ 0) × (512 ≤ n)
unit_whole unit size n whole unit_in is = (omega (arith, whole, unit_in, is), omega (arith, whole, unit_in, is))

pub unit_range : (blocks unit offset size first at n store : ℕ)
    → size % 512 ≡ 0 → 8192 * unit < size → 512 * offset + size ≤ 512 * blocks
    → n ≡ min 8192 (size - 8192 * unit) → 512 * (first + blocks) ≤ store → at ≡ 512 * (first + (offset + 16 * unit))
    → IsUnitRange store at n
unit_range blocks unit offset size first at n store whole unit_in within is room place = record {
  place = omega (arith, place);
  blocks = (unit_whole unit size n whole unit_in is).0;
  some = (unit_whole unit size n whole unit_in is).1;
  unit = omega (arith, is);
  within = omega (arith, is, place, within, room, unit_in);
}

-- the disk lies in the store, and so does the unit's place
pub unit_place : (blocks unit offset size first store : ℕ) → 8192 * unit < size → 512 * offset + size ≤ 512 * blocks
    → 512 * (first + blocks) ≤ store → 512 * (first + (offset + 16 * unit)) ≤ store
unit_place blocks unit offset size first store unit_in within room = omega arith

pub unit_within : (blocks unit offset size n : ℕ) → 8192 * unit < size → 512 * offset + size ≤ 512 * blocks
    → n ≡ min 8192 (size - 8192 * unit) → (block count : ℕ) → block ≡ offset + 16 * unit → count ≡ n / 512 → block + count ≤ blocks
unit_within blocks unit offset size n unit_in within is block count at counted = omega arith

-- at the end of the last unit
pub unit_next : (unit size : ℕ) → size ≤ most_bytes → IsTrue (nat_lt (unit + 1) ((size + 8192 - 1) / 8192)) → unit + 1 < 2 ^ 32
unit_next unit size most more =
    let less : unit + 1 < (size + 8192 - 1) / 8192 = ltb-true (unit + 1) ((size + 8192 - 1) / 8192) more in
    omega arith

pub next_test : (unit size other : ℕ) → size ≡ other → nat_lt (unit + 1) ((size + 8192 - 1) / 8192) ≡ nat_lt (unit + 1) (unit_count other)
next_test unit size other is =
    let same : size + 8192 - 1 ≡ other + 8191 = omega arith in
    ap (λ (n : ℕ). nat_lt (unit + 1) (n / 8192)) same

-- flushed, or not
pub piece_flushed : (failed : Bool) (first : ℕ) (next : Progress) (work : Work) (told new : Option (List ℕ)) → next ≡ or_ends failed (Ends 0)
    → work.progress ≡ Flushes → new ≡ told → PieceOn first work told (called 3 0 0 failed) (record work { progress = next }) new
piece_flushed failed first next work told new goes is same = record {
  gave = [];
  next = next;
  stored = subst (λ (p : Progress). StoredFor (called 3 0 0 failed) first (record work { progress = p }) [] next told new) (sym is)
      ((refl, refl, refl, refl, goes), same);
  is = refl;
}

-- the answer of a call of the store
pub done_where : {U E : Type 0} (r : Result U E) (failed : Bool) (X : Type 0) → failed ≡ is_err r → OnOk r X → failed ≡ false → X
done_where (Ok done) failed X is x succeeded = x
done_where (Err why) failed X is x succeeded = let never : true ≡ false = sym is ∙ succeeded in absurd (cc never)
