-- So few blocks are stored of a write in work that their count is never cut off, also where a store fails.
use Rattle.std.proofs.Common.{◌≡◌, ℕ, ◌+◌, ◌*◌, ◌≤◌, Bool, true, false, Option, Some, None, List, drop, length, refl, sym, ap, ◌∙◌, subst, arith}
use Rattle.std.specs.Prelude.{◌==◌, if◌then◌else◌, nat_lt}
use Rattle.std.proofs.lemmas.List.{length-take}
use Rattle.cookie_copy.specs.declared.fault.CopyFault.{CopyFault}
use Rattle.cookie_copy.specs.Moved.{bytes_of, moved_in}
use Rattle.map_table.specs.declared.cookie.Cookie.{Cookie}
use Rattle.map_table.specs.declared.table.Entry.{Entry}
use Rattle.ldc_queue.specs.declared.end.ChannelState.{ChannelState}
use Rattle.ldc_queue.specs.declared.end.ChannelState.TheVariants.{Up}
use Rattle.ldc_queue.specs.declared.end.End.TheVariants.{B}
use Rattle.vdisk_msg.specs.Check.{first_defect}
use Rattle.vdisk_msg.specs.declared.desc.DescFault.{DescFault}
use Rattle.vdisk_msg.specs.declared.desc.DiskDesc.{DiskDesc}
use Rattle.vdisk_msg.specs.Descriptor as slot_says
use Rattle.vdisk_msg.specs.Pieces.{unit_count}
use Rattle.lane_models.specs.WireLog.{WireLog}
use Rattle.lane_laws.specs.DiskLog.{DiskLog}
use Rattle.lane_models.specs.DiskEvent.{Desc, Done, Finished, Misplaced, Moved, Published, Stored, Worked}
use Rattle.lane_models.specs.LaneState.{LaneState, risen}
use Rattle.lane_models.specs.LaneStep.{WorkStep, reach, stored_blocks}
use Rattle.lane_models.specs.Seeing.{seen}
use Rattle.lane_models.specs.ServerRule as server_rules
use Rattle.lane_models.specs.ServerState.{Ends, Flushes, Gathers, Gives, Progress, Reads, ServerState, Work, Writes}
use Rattle.cookie_copy.specs.Reach.{Reach}
use Rattle.lane_models.specs.ServerWork.{MovesIn, StoresIn, checked_progress, data_cookies, desc_of, first_progress, gathered, gathers_next, given, length_of, or_ends}
use Rattle.lane_laws.proofs.RulesFree.{ServerFree, server_free}
use Rattle.lane_laws.proofs.Ruling.{server_may}
use Rattle.lane_laws.specs.Counted.{UnitFits, UnitIn}
use Rattle.lane_laws.specs.RuleFacts.{ServerMay}
use Rattle.lane_laws.specs.LaneView.{work_while}
use Rattle.lane_laws.proofs.ServerChanges.{ServesNow, serves_now}
use Rattle.lane_laws.proofs.Standing.{Before}

-- as many as come before the unit in work
abbrev pub UFits : Progress → ℕ → Type 0
UFits (Gathers unit) u = u ≤ 16 * unit
UFits (Writes unit bytes) u = (u ≤ 16 * unit) × (length bytes ≤ 8192)
UFits _ u = u ≤ 128

abbrev pub URoom : Option Work → ℕ → Type 0
URoom None u = u ≡ 0
URoom (Some work) u = UFits work.progress u

abbrev pub LaneRoom : LaneState → Type 0
LaneRoom s = URoom (work_while s.wire.wire.end_b s.server.work) s.near.u

-- A DESCRIPTOR has at most four units
unit_few : (s : LaneState) (l : DiskLog) (work : Work) (unit : ℕ) → Before s l → ServesNow s l work → s.server.work ≡ Some work → UnitIn (unit_count (desc_of work).size) (Gathers unit) → unit ≤ 3
unit_few s l work unit before serves is inside =
    let says = serves.facts.says in
    let size = says.size in
    let small = serves.facts.small in
    omega (arith, inside, size, small)

held_unit : (s : LaneState) (l : DiskLog) (work : Work) → Before s l → s.server.work ≡ Some work → UnitIn (unit_count (desc_of work).size) work.progress
held_unit s l work before is = subst UnitFits is before.knows.counted.server.unit

-- THE FIRST PROGRESS stores nothing yet
first_room : (blocks : ℕ) (desc : DiskDesc) (u : ℕ) → u ≡ 0 → UFits (first_progress blocks desc) u
first_room blocks desc u none = by_fault (first_defect desc blocks 0x0e)
  where
    by_write : (b : Bool) → UFits (if b then Gathers 0 else Flushes) u
    by_write true = omega (arith, none)
    by_write false = omega (arith, none)

    by_read : (b : Bool) → UFits (if b then Reads 0 else if desc.operation == 2 then Gathers 0 else Flushes) u
    by_read true = omega (arith, none)
    by_read false = by_write (desc.operation == 2)

    by_fault : (why : Option DescFault) → UFits (checked_progress why desc) u
    by_fault (Some why) = omega (arith, none)
    by_fault None = by_read (desc.operation == 1)

-- A UNIT IS COPIED
moved_few : (table : List (Option Entry)) (memory : List ℕ) (cookies : List Cookie) (offset n : ℕ) → n ≤ 8192 → length (moved_in table memory cookies offset n) ≤ 8192
moved_few table memory cookies offset n few = omega (arith, few, length-take n (drop offset (bytes_of table memory cookies)))

gathered_room : (fault : Option CopyFault) (work : Work) (r : Reach) (unit u : ℕ) → unit ≤ 3 → u ≤ 16 * unit → UFits (gathered fault work r unit) u
gathered_room (Some why) work r unit u few stored = omega (arith, few, stored)
gathered_room None work r unit u few stored = (stored, moved_few r.table r.memory (data_cookies work) (8192 * unit) (length_of work unit) (omega arith))

given_room : (fault : Option CopyFault) (work : Work) (unit u : ℕ) → u ≤ 128 → UFits (given fault work unit) u
given_room fault work unit u few = grind arith

moves_room : (p : Progress) (s : LaneState) (l : DiskLog) (work : Work) (r : Reach) (unit : ℕ) (fault : Option CopyFault) (next : Progress) (new : List ℕ) (u : ℕ) → Before s l → ServesNow s l work
    → s.server.work ≡ Some work → UnitIn (unit_count (desc_of work).size) p → MovesIn p work r unit fault next new → UFits p u → UFits next u
moves_room (Gathers one) s l work r unit fault next new u before serves held inside moves room =
    subst (λ (p : Progress). UFits p u) (sym moves.2) (gathered_room fault work r one u (unit_few s l work one before serves held inside) room)
moves_room (Gives one bytes) s l work r unit fault next new u before serves held inside moves room = subst (λ (p : Progress). UFits p u) (sym moves.2) (given_room fault work one u room)
moves_room _ s l work r unit fault next new u before serves held inside moves room = absurd moves

-- A UNIT IS STORED, or a call of the store fails
more_room : (b : Bool) (unit u : ℕ) → unit ≤ 3 → u ≤ 16 * unit + 16 → UFits (if b then Gathers (unit + 1) else Ends 0) u
more_room true unit u few stored = omega (arith, stored)
more_room false unit u few stored = omega (arith, stored, few)

stored_up : (operation count : ℕ) (failed : Bool) (u : ℕ) → stored_blocks operation count failed u ≤ u + count
stored_up operation count true u = omega arith
stored_up operation count false u = by_kind (operation == 2)
  where
    by_kind : (b : Bool) → (if b then risen u count else u) ≤ u + count
    by_kind true = omega arith
    by_kind false = omega arith

other_blocks : (operation count : ℕ) (failed : Bool) (u one : ℕ) → operation ≡ one → (one == 2) ≡ false → stored_blocks operation count failed u ≡ u
other_blocks operation count true u one is test = refl
other_blocks operation count false u one is test = ap (λ (n : ℕ). if n == 2 then risen u count else u) is ∙ ap (λ (b : Bool). if b then risen u count else u) test

wrote_room : (failed : Bool) (work : Work) (unit u : ℕ) → unit ≤ 3 → u ≤ 16 * unit + 16 → UFits (or_ends failed (gathers_next (desc_of work).size unit)) u
wrote_room true work unit u few stored = omega (arith, few, stored)
wrote_room false work unit u few stored = more_room (nat_lt (unit + 1) (unit_count (desc_of work).size)) unit u few stored

read_room : (failed : Bool) (unit u : ℕ) (gave : List ℕ) → u ≤ 128 → UFits (or_ends failed (Gives unit gave)) u
read_room true unit u gave few = few
read_room false unit u gave few = few

flushed_room : (failed : Bool) (u : ℕ) → u ≤ 128 → UFits (or_ends failed (Ends 0)) u
flushed_room true u few = few
flushed_room false u few = few

stores_room : (p : Progress) (s : LaneState) (l : DiskLog) (work : Work) (operation block count : ℕ) (failed : Bool) (gave : List ℕ) (next : Progress) (u : ℕ) → Before s l → ServesNow s l work
    → s.server.work ≡ Some work → UnitIn (unit_count (desc_of work).size) p → StoresIn p work operation block count failed gave next → UFits p u → UFits next (stored_blocks operation count failed u)
stores_room (Reads one) s l work operation block count failed gave next u before serves held inside stores room =
    let same = other_blocks operation count failed u 1 stores.0.operation_is refl in
    subst (λ (n : ℕ). UFits next n) (sym same) (subst (λ (p : Progress). UFits p u) (sym stores.2) (read_room failed one u gave room))
stores_room (Writes one bytes) s l work operation block count failed gave next u before serves held inside stores room =
    let few = unit_few s l work one before serves held inside in
    let count_is = stores.0.count_is in
    let up = stored_up operation count failed u in
    subst (λ (p : Progress). UFits p (stored_blocks operation count failed u)) (sym stores.2) (wrote_room failed work one (stored_blocks operation count failed u) few (omega (arith, up, count_is, room.0, room.1)))
stores_room Flushes s l work operation block count failed gave next u before serves held inside stores room =
    let same = other_blocks operation count failed u 3 stores.0 refl in
    subst (λ (n : ℕ). UFits next n) (sym same) (subst (λ (p : Progress). UFits p u) (sym stores.4) (flushed_room failed u room))
stores_room _ s l work operation block count failed gave next u before serves held inside stores room = absurd stores

-- EACH EVENT of the work
serving_room : (s : LaneState) (work : Work) → s.wire.wire.end_b ≡ Up → s.server.work ≡ Some work → LaneRoom s → UFits work.progress s.near.u
serving_room s work up is room =
    let here : URoom (Some work) s.near.u = subst (λ (o : Option Work). URoom o s.near.u) (ap (λ (x : ChannelState). work_while x s.server.work) up ∙ is) room in here

pub lane_room : (t : LaneState) (work : Option Work) (u : ℕ) → work_while t.wire.wire.end_b t.server.work ≡ work → t.near.u ≡ u → URoom work u → LaneRoom t
lane_room t work u work_is u_is room = subst (λ (o : Option Work). URoom o t.near.u) (sym work_is) (subst (URoom work) (sym u_is) room)

while_up : (s t : LaneState) (work : Option Work) → t.wire ≡ s.wire → s.wire.wire.end_b ≡ Up → t.server.work ≡ work → work_while t.wire.wire.end_b t.server.work ≡ work
while_up s t work wire up is = ap (λ (w : WireLog). work_while w.wire.end_b t.server.work) wire ∙ ap (λ (x : ChannelState). work_while x t.server.work) up ∙ is

pub work_room : (s : LaneState) (l : DiskLog) (event : Worked) (t : LaneState) → Before s l → WorkStep s event t → LaneRoom s → LaneRoom t
work_room s l (Published id) t before step room =
    lane_room t (work_while s.wire.wire.end_b s.server.work) s.near.u (ap (λ (x : LaneState). work_while x.wire.wire.end_b x.server.work) step.is) (ap (λ (x : LaneState). x.near.u) step.is) room
work_room s l (Done id operation status bytes) t before step room =
    lane_room t (work_while s.wire.wire.end_b s.server.work) s.near.u (ap (λ (x : LaneState). work_while x.wire.wire.end_b x.server.work) step.is) (ap (λ (x : LaneState). x.near.u) step.is) room
work_room s l (Desc slot bytes) t before step room =
    let at = seen B s.shape.entries s.wire.wire in
    let f = step.1.step.1.0 in
    let may : ServerMay s.server at (server_rules.Fetches f.session) = subst (ServerMay s.server at) f.rule (server_may s.server at) in
    let free = (subst (ServerFree s.server) f.rule (server_free s.server at)).1 in
    let zero : s.near.u ≡ 0 = subst (λ (o : Option Work). URoom o s.near.u) (ap (λ (x : ChannelState). work_while x s.server.work) may.0 ∙ free) room in
    lane_room t _ s.near.u (while_up s t _ (ap (λ (x : LaneState). x.wire) step.1.is) may.0 (ap (λ (x : ServerState). x.work) f.is)) (ap (λ (x : LaneState). x.near.u) step.1.is)
    (first_room s.server.blocks (slot_says.disk_desc_of bytes) s.near.u zero)
work_room s l (Moved unit fault) t before step room =
    let at = seen B s.shape.entries s.wire.wire in
    let m = step.1.step.1.0 in
    let may : ServerMay s.server at (server_rules.Serves m.session m.work) = subst (ServerMay s.server at) m.rule (server_may s.server at) in
    lane_room t (Some (record m.work { progress = m.next })) s.near.u (while_up s t _ (ap (λ (x : LaneState). x.wire) step.1.is) may.0 (ap (λ (x : ServerState). x.work) m.is))
    (ap (λ (x : LaneState). x.near.u) step.1.is)
    (moves_room m.work.progress s l m.work (reach s at.both) unit fault m.next t.memory s.near.u before (serves_now s l m.work before may.0 may.2) may.2 (held_unit s l m.work before may.2) m.moves
    (serving_room s m.work may.0 may.2 room))
work_room s l (Stored operation block count failed) t before step room =
    let at = seen B s.shape.entries s.wire.wire in
    let m = step.1.step.1.0 in
    let may : ServerMay s.server at (server_rules.Serves m.session m.work) = subst (ServerMay s.server at) m.rule (server_may s.server at) in
    lane_room t (Some (record m.work { progress = m.next })) (stored_blocks operation count failed s.near.u)
    (while_up s t _ (ap (λ (x : LaneState). x.wire) step.1.is) may.0 (ap (λ (x : ServerState). x.work) m.is)) (ap (λ (x : LaneState). x.near.u) step.1.is)
    (stores_room m.work.progress s l m.work operation block count failed step.0 m.next s.near.u before (serves_now s l m.work before may.0 may.2) may.2 (held_unit s l m.work before may.2) m.stores
    (serving_room s m.work may.0 may.2 room))
work_room s l (Finished slot status) t before step room =
    let at = seen B s.shape.entries s.wire.wire in
    let f = step.1.step.1.0 in
    let may : ServerMay s.server at (server_rules.Serves f.session f.work) = subst (ServerMay s.server at) f.rule (server_may s.server at) in
    lane_room t None 0 (while_up s t None (ap (λ (x : LaneState). x.wire) step.1.is) may.0 (ap (λ (x : ServerState). x.work) f.is)) (ap (λ (x : LaneState). x.near.u) step.1.is) refl
work_room s l Misplaced t before step room = absurd step

-- A COUNT that isn't cut off
pub stored_few : (s : LaneState) (l : DiskLog) (operation block count : ℕ) (failed : Bool) (t : LaneState) → Before s l → WorkStep s (Stored operation block count failed) t → LaneRoom s
    → (operation ≡ 2 → s.near.u + count ≤ 128)
stored_few s l operation block count failed t before step room two =
    let at = seen B s.shape.entries s.wire.wire in
    let m = step.1.step.1.0 in
    let may : ServerMay s.server at (server_rules.Serves m.session m.work) = subst (ServerMay s.server at) m.rule (server_may s.server at) in
    by_progress m.work.progress m.work m.next (serves_now s l m.work before may.0 may.2) may.2 (held_unit s l m.work before may.2) m.stores (serving_room s m.work may.0 may.2 room)
  where
    by_progress : (p : Progress) (work : Work) (next : Progress) → ServesNow s l work → s.server.work ≡ Some work → UnitIn (unit_count (desc_of work).size) p
        → StoresIn p work operation block count failed step.0 next → UFits p s.near.u → s.near.u + count ≤ 128
    by_progress (Writes unit bytes) work next serves held inside stores fits =
        let few = unit_few s l work unit before serves held inside in
        let count_is = stores.0.count_is in
        omega (arith, few, count_is, fits.0, fits.1)
    by_progress (Reads unit) work next serves held inside stores fits = let one = stores.0.operation_is in absurd (omega (arith, one, two))
    by_progress Flushes work next serves held inside stores fits = let three = stores.0 in absurd (omega (arith, three, two))
    by_progress _ work next serves held inside stores fits = absurd stores
