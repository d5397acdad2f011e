-- A server's work on descriptors leaves its session counting them, and its log owing what is left of the one in work.
use Rattle.std.proofs.Common.{◌≡◌, ℕ, ◌+◌, ◌-◌, ◌/◌, ◌<◌, Bool, true, false, Option, Some, None, List, [], ◌∷◌, ◌++◌, refl, sym, ap, subst, arith}
use Rattle.std.specs.Prelude.{is_some, nat_lt, not, ◌||◌, ◌==◌, suc, if◌then◌else◌}
use Rattle.std.proofs.lemmas.Bool.{ltb-false, ltb-true}
use Rattle.cookie_copy.specs.declared.fault.CopyFault.{CopyFault}
use Rattle.ldc_link.specs.Putting.{owes}
use Rattle.ldc_queue.specs.Transcript.{Utterance}
use Rattle.vdisk_msg.specs.Check.{first_defect, has_size, holds_cookies, is_allowed, is_within, moves_data}
use Rattle.vdisk_msg.specs.declared.desc.DescFault.{DescFault}
use Rattle.vdisk_msg.specs.declared.desc.DescFault.TheVariants.{Cookies, Operation, Range, Size}
use Rattle.vdisk_msg.specs.declared.desc.DiskDesc.{DiskDesc}
use Rattle.vdisk_msg.specs.Pieces.{Finishes, Piece, Stores, checked_pieces, pieces, read_pieces, unit_count, write_pieces}
use Rattle.lane_laws.specs.Agreement.{owed_of}
use Rattle.lane_laws.specs.WorkLog.{ServerCounts, change_server, moved_rest, rest_of, stored_rest}
use Rattle.lane_models.specs.LaneState.{Shape}
use Rattle.lane_models.specs.Seeing.{Seen}
use Rattle.lane_models.specs.ServerState.{Ends, Flushes, Gathers, Gives, Progress, Reads, ServerState, Work, Writes}
use Rattle.lane_models.specs.ServerStep.{ServerMoves, ServerStores}
use Rattle.lane_models.specs.ServerWork as server_work
use Rattle.cookie_copy.specs.Reach.{Reach}
use Rattle.lane_models.specs.ServerWork.{MovesIn, StoresIn, desc_of, first_progress, gathers_next, or_ends}
use Rattle.lane_laws.proofs.RulesFree.{server_free}
use Rattle.lane_laws.specs.Counted.{ServerCounted, ServerHolds, UnitIn}
use Rattle.lane_laws.specs.LaneRests.{ServerRests}

-- WHAT IS OWED of a descriptor: it begins
units_from : (units : ℕ) → units - 0 ≡ units
units_from units = omega arith

begins_if : (read write : Bool) (desc : DiskDesc)
    → (if read then read_pieces 0 (unit_count desc.size) else if write then write_pieces 0 (unit_count desc.size) else Stores 0 ∷ []) ++ Finishes 0 ∷ []
    ≡ owed_of desc (if read then Reads 0 else if write then Gathers 0 else Flushes)
begins_if true write desc = ap (λ (n : ℕ). read_pieces 0 n ++ Finishes 0 ∷ []) (sym (units_from (unit_count desc.size)))
begins_if false true desc = ap (λ (n : ℕ). write_pieces 0 n ++ Finishes 0 ∷ []) (sym (units_from (unit_count desc.size)))
begins_if false false desc = refl

pub begins_owing : (blocks : ℕ) (desc : DiskDesc) → pieces desc blocks 0x0e ≡ owed_of desc (first_progress blocks desc)
unfolding pieces
begins_owing blocks desc = by_fault (first_defect desc blocks 0x0e)
  where
    by_fault : (fault : Option DescFault) → checked_pieces fault desc ≡ owed_of desc (server_work.checked_progress fault desc)
    by_fault None = begins_if (desc.operation == 1) (desc.operation == 2) desc
    by_fault (Some fault) = refl

-- of a read or a write there is a unit
abbrev defect_by : Bool → Bool → Bool → Bool → Bool → Option DescFault
defect_by a m h z w =
    if not a then Some Operation else if not m then None else if not h then Some Cookies else if not z then Some Size else if not w then Some Range else None

sized : (a m h z w : Bool) → defect_by a m h z w ≡ None → m ≡ true → z ≡ true
sized false m h z w is moves = absurd (cc)
sized true false h z w is moves = absurd (cc)
sized true true false z w is moves = absurd (cc)
sized true true true false w is moves = absurd (cc)
sized true true true true w is moves = refl

some_size : (size : ℕ) → has_size size ≡ true → 0 < unit_count size
some_size size is = grind arith

first_unit_if : (read write : Bool) (units : ℕ) → ((read || write) ≡ true → 0 < units) → UnitIn units (if read then Reads 0 else if write then Gathers 0 else Flushes)
first_unit_if true write units some = some refl
first_unit_if false true units some = some refl
first_unit_if false false units some = tt

pub first_unit : (blocks : ℕ) (desc : DiskDesc) → UnitIn (unit_count desc.size) (first_progress blocks desc)
first_unit blocks desc = by_fault (first_defect desc blocks 0x0e) refl
  where
    by_fault : (fault : Option DescFault) → first_defect desc blocks 0x0e ≡ fault → UnitIn (unit_count desc.size) (server_work.checked_progress fault desc)
    by_fault None is = first_unit_if (desc.operation == 1) (desc.operation == 2) (unit_count desc.size) (λ moves. some_size desc.size
        (sized (is_allowed desc.operation 0x0e) (moves_data desc.operation) (holds_cookies desc.count) (has_size desc.size) (is_within desc.offset (desc.size / 512) blocks) is moves))
    by_fault (Some fault) is = tt

-- it goes on, piece by piece
one_more : (units unit : ℕ) → unit < units → units - unit ≡ suc (units - (unit + 1))
one_more units unit below = omega (arith, below)

record GoesOn (desc : DiskDesc) (rest : List Piece) (next : Progress) : Type 0 where
  owed : rest ≡ owed_of desc next
  unit : UnitIn (unit_count desc.size) next

reads_on : (desc : DiskDesc) (unit : ℕ) (b : Bool) → nat_lt (unit + 1) (unit_count desc.size) ≡ b
    → GoesOn desc (read_pieces (unit + 1) (unit_count desc.size - (unit + 1)) ++ Finishes 0 ∷ []) (if b then Reads (unit + 1) else Ends 0)
reads_on desc unit true test = record { owed = refl; unit = ltb-true (unit + 1) (unit_count desc.size) test }
reads_on desc unit false test =
    let past = ltb-false (unit + 1) (unit_count desc.size) test in
    let none : unit_count desc.size - (unit + 1) ≡ 0 = omega (arith, past) in
    record { owed = ap (λ (n : ℕ). read_pieces (unit + 1) n ++ Finishes 0 ∷ []) none; unit = tt }

gathers_on : (desc : DiskDesc) (unit : ℕ) (b : Bool) → nat_lt (unit + 1) (unit_count desc.size) ≡ b
    → GoesOn desc (write_pieces (unit + 1) (unit_count desc.size - (unit + 1)) ++ Finishes 0 ∷ []) (if b then Gathers (unit + 1) else Ends 0)
gathers_on desc unit true test = record { owed = refl; unit = ltb-true (unit + 1) (unit_count desc.size) test }
gathers_on desc unit false test =
    let past = ltb-false (unit + 1) (unit_count desc.size) test in
    let none : unit_count desc.size - (unit + 1) ≡ 0 = omega (arith, past) in
    record { owed = ap (λ (n : ℕ). write_pieces (unit + 1) n ++ Finishes 0 ∷ []) none; unit = tt }

gives_on : (fault : Option CopyFault) (work : Work) (unit : ℕ) (bytes : List ℕ) → GoesOn (desc_of work) (moved_rest fault (owed_of (desc_of work) (Gives unit bytes))) (server_work.given fault work unit)
gives_on None work unit bytes = reads_on (desc_of work) unit (nat_lt (unit + 1) (unit_count (desc_of work).size)) refl
gives_on (Some why) work unit bytes = record { owed = refl; unit = tt }

gathered_on : (fault : Option CopyFault) (work : Work) (reach : Reach) (unit : ℕ) → unit < unit_count (desc_of work).size
    → GoesOn (desc_of work) (moved_rest fault (owed_of (desc_of work) (Gathers unit))) (server_work.gathered fault work reach unit)
gathered_on None work reach unit below = record {
  owed = ap (λ (n : ℕ). rest_of (write_pieces unit n ++ Finishes 0 ∷ [])) (one_more (unit_count (desc_of work).size) unit below);
  unit = below;
}
gathered_on (Some why) work reach unit below = record { owed = refl; unit = tt }

moves_on : (progress : Progress) (work : Work) (reach : Reach) (unit : ℕ) (fault : Option CopyFault) (next : Progress) (new : List ℕ) → MovesIn progress work reach unit fault next new
    → UnitIn (unit_count (desc_of work).size) progress → GoesOn (desc_of work) (moved_rest fault (owed_of (desc_of work) progress)) next
moves_on (Gives u bytes) work reach unit fault next new moves below =
    subst (GoesOn (desc_of work) (moved_rest fault (owed_of (desc_of work) (Gives u bytes)))) (sym moves.2) (gives_on fault work u bytes)
moves_on (Gathers u) work reach unit fault next new moves below =
    subst (GoesOn (desc_of work) (moved_rest fault (owed_of (desc_of work) (Gathers u)))) (sym moves.2) (gathered_on fault work reach u below)
moves_on _ work reach unit fault next new moves below = absurd moves

read_on : (failed : Bool) (work : Work) (unit : ℕ) (gave : List ℕ) → unit < unit_count (desc_of work).size
    → GoesOn (desc_of work) (stored_rest failed (owed_of (desc_of work) (Reads unit))) (or_ends failed (Gives unit gave))
read_on false work unit gave below = record {
  owed = ap (λ (n : ℕ). rest_of (read_pieces unit n ++ Finishes 0 ∷ [])) (one_more (unit_count (desc_of work).size) unit below);
  unit = below;
}
read_on true work unit gave below = record { owed = refl; unit = tt }

wrote_on : (failed : Bool) (work : Work) (unit : ℕ) (bytes : List ℕ)
    → GoesOn (desc_of work) (stored_rest failed (owed_of (desc_of work) (Writes unit bytes))) (or_ends failed (gathers_next (desc_of work).size unit))
wrote_on false work unit bytes = gathers_on (desc_of work) unit (nat_lt (unit + 1) (unit_count (desc_of work).size)) refl
wrote_on true work unit bytes = record { owed = refl; unit = tt }

flushed_on : (failed : Bool) (desc : DiskDesc) → GoesOn desc (stored_rest failed (owed_of desc Flushes)) (or_ends failed (Ends 0))
flushed_on false desc = record { owed = refl; unit = tt }
flushed_on true desc = record { owed = refl; unit = tt }

stores_on : (progress : Progress) (work : Work) (operation block count : ℕ) (failed : Bool) (gave : List ℕ) (next : Progress) → StoresIn progress work operation block count failed gave next
    → UnitIn (unit_count (desc_of work).size) progress → GoesOn (desc_of work) (stored_rest failed (owed_of (desc_of work) progress)) next
stores_on (Reads u) work operation block count failed gave next stores below =
    subst (GoesOn (desc_of work) (stored_rest failed (owed_of (desc_of work) (Reads u)))) (sym stores.2) (read_on failed work u gave below)
stores_on (Writes u bytes) work operation block count failed gave next stores below =
    subst (GoesOn (desc_of work) (stored_rest failed (owed_of (desc_of work) (Writes u bytes)))) (sym stores.2) (wrote_on failed work u bytes)
stores_on Flushes work operation block count failed gave next stores below =
    subst (GoesOn (desc_of work) (stored_rest failed (owed_of (desc_of work) Flushes))) (sym stores.4) (flushed_on failed (desc_of work))
stores_on _ work operation block count failed gave next stores below = absurd stores

-- THE LOG after a piece
-- a server whose session is open and whose link owes nothing holds nothing
pub holds_none : (v t : ServerState) (turns : List Utterance) → ServerRests v turns → is_some v.session ≡ true → owes v.link ≡ false → t.link ≡ v.link → ServerHolds t turns
holds_none v t turns rests now free same = grind arith

pub server_moves_counting : (shape : Shape) (v : ServerState) (at : Seen) (reach : Reach) (unit : ℕ) (fault : Option CopyFault) (t : ServerState) (new : List ℕ) (turns : List Utterance)
    (d : Option ServerCounts) → ServerRests v turns → ServerMoves v at reach unit fault t new → ServerCounted shape v turns d
    → ServerCounted shape t turns (change_server (λ (c : ServerCounts). record c { owed = moved_rest fault c.owed }) d)
server_moves_counting shape v at reach unit fault t new turns d rests step counted = grind (arith, server_free, moves_on)

pub server_stores_counting : (shape : Shape) (v : ServerState) (at : Seen) (operation block count : ℕ) (failed : Bool) (gave : List ℕ) (t : ServerState) (turns : List Utterance)
    (d : Option ServerCounts) → ServerRests v turns → ServerStores v at operation block count failed gave t → ServerCounted shape v turns d
    → ServerCounted shape t turns (change_server (λ (c : ServerCounts). record c { owed = stored_rest failed c.owed }) d)
server_stores_counting shape v at operation block count failed gave t turns d rests step counted = grind (arith, server_free, stores_on)
