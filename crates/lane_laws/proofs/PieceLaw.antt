-- Each piece of a descriptor is the next that it owes, of its own operation, place and size, and refused for its own fault.
use Rattle.std.proofs.Common.{◌≡◌, ℕ, ◌^◌, ◌+◌, ◌-◌, ◌*◌, ◌/◌, ◌%◌, ◌<◌, min, Bool, true, false, Option, Some, List, [], ◌∷◌, ◌++◌, take, refl, sym, ap, ◌∙◌, subst, arith}
use Rattle.std.specs.Prelude.{if◌then◌else◌, ◌==◌, slice_index}
use Rattle.std.proofs.lemmas.Bool.{eqb-true}
use Rattle.dring.specs.Slots.{ready_state}
use Rattle.cookie_copy.specs.declared.fault.Access.{Access}
use Rattle.cookie_copy.specs.declared.fault.Access.TheVariants.{Read, Write}
use Rattle.cookie_copy.specs.declared.fault.CopyFault.{CopyFault}
use Rattle.cookie_copy.specs.Faults.{both_up, first_copy_fault}
use Rattle.vdisk_msg.specs.declared.desc.DiskDesc.{DiskDesc}
use Rattle.vdisk_msg.specs.Descriptor as slot_says
use Rattle.vdisk_msg.specs.Pieces.{Finishes, Moves, Piece, Stores, read_pieces, unit_count, write_pieces}
use Rattle.lane_laws.specs.Agreement.{WorkAgrees, owed_of}
use Rattle.lane_laws.specs.DiskLog.{DiskLog}
use Rattle.lane_laws.specs.WorkLaws.{FinishesPiece, InServer, MovesPiece, Owes, PiecesAt, StoresPiece, access_of, block_in, count_in, desc_in, unit_fault}
use Rattle.lane_laws.specs.WorkLog.{ServerCounts}
use Rattle.lane_models.specs.DiskEvent.{Desc, DiskEvent, Finished, Moved, Stored, Works}
use Rattle.lane_models.specs.OwnMemory.{own_table}
use Rattle.lane_models.specs.LaneState.{LaneState, pages_of}
use Rattle.lane_models.specs.LaneStep.{LaneStep, reach}
use Rattle.lane_models.specs.ServerState.{Flushes, Gathers, Gives, Progress, Reads, ServerSession, Work, Writes}
use Rattle.lane_models.specs.ServerStep.{ServerFetches, ServerFinishes, ServerMoves, ServerStores}
use Rattle.lane_models.specs.ServerWork.{MovesIn, StoresIn, desc_of, slot_fetched, unit_length}
use Rattle.lane_laws.proofs.RulesFree.{ServerFree, server_free}
use Rattle.lane_laws.proofs.RuleTests.{ServesFree}
use Rattle.lane_laws.specs.Counted.{UnitFits, UnitIn}
use Rattle.lane_laws.proofs.Counting.{OfServer, of_server}
use Rattle.lane_laws.proofs.WorkNumbers.{Grounded, in_server, slot_in_log}
use Rattle.lane_laws.proofs.LaneViews.{at_server}
use Rattle.lane_laws.specs.Units.{UnitIs, WorkIs}

-- what is known of a lane besides: its server's work is what its progress says, and its table is as it began
pub record Working (s : LaneState) (l : DiskLog) : Type 0 where
  pub grounded : Grounded s l
  pub work : WorkIs s.server.work
  pub table : s.table ≡ own_table (pages_of l.shape)

-- the descriptor in work, as the log has it
record AtWork (s : LaneState) (l : DiskLog) (session : ServerSession) (work : Work) : Type 0 where
  counts : ServerCounts
  is : l.work.server ≡ Some counts
  finished : session.finished ≡ counts.finished % 2 ^ 64
  desc : counts.desc ≡ work.bytes
  owed : counts.owed ≡ owed_of (desc_of work) work.progress
  unit : UnitIn (unit_count (desc_of work).size) work.progress
  holds : UnitIs (desc_of work) work.progress

at_work : (s : LaneState) (l : DiskLog) (session : ServerSession) (work : Work) → Working s l → ServesFree s.server session → s.server.work ≡ Some work → AtWork s l session work
at_work s l session work working free is =
    let of : OfServer session s.server.work l.work.server =
    of_server s.server.session session s.server.work l.work.server free.session_is working.grounded.knows.counted.server.agrees in
    let agrees : WorkAgrees (Some work) of.counts = subst (λ (w : Option Work). WorkAgrees w of.counts) is of.work_agrees in
    record {
      counts = of.counts;
      is = of.is;
      finished = of.agree.finished;
      desc = agrees.0;
      owed = agrees.1;
      unit = subst UnitFits is working.grounded.knows.counted.server.unit;
      holds = subst WorkIs is working.work;
    }

-- the first of the pieces of units that are left
owes_read : (unit units : ℕ) (rest : List Piece) → unit < units → Owes (read_pieces unit (units - unit) ++ rest) (Stores unit)
owes_read unit units rest more = grind arith

owes_write : (unit units : ℕ) (rest : List Piece) → unit < units → Owes (write_pieces unit (units - unit) ++ rest) (Moves unit)
owes_write unit units rest more = grind arith

same_desc : (c : ServerCounts) (work : Work) → c.desc ≡ work.bytes → desc_in c ≡ desc_of work
same_desc c work is = ap slot_says.disk_desc_of is

-- A UNIT IS COPIED
same_fault : (s : LaneState) (l : DiskLog) (desc : DiskDesc) (unit : ℕ) (access : Access) → Working s l → access_of desc.operation ≡ access
    → first_copy_fault (both_up s.wire.wire) access s.table (take desc.count desc.cookies) (8192 * unit) (unit_length desc.size unit) ≡ unit_fault l desc unit
same_fault s l desc unit access working is = search

moves_in : (progress : Progress) (s : LaneState) (l : DiskLog) (work : Work) (unit : ℕ) (why : Option CopyFault) (next : Progress) (new : List ℕ) → Working s l
    → UnitIn (unit_count (desc_of work).size) progress → UnitIs (desc_of work) progress → MovesIn progress work (reach s (at_server s).both) unit why next new
    → Owes (owed_of (desc_of work) progress) (Moves unit) × (why ≡ unit_fault l (desc_of work) unit)
moves_in (Gives u bytes) s l work unit why next new working within is moves = (
  ap Moves (sym moves.0),
  moves.1
      ∙ ap (λ (n : ℕ). first_copy_fault (both_up s.wire.wire) Write s.table (take (desc_of work).count (desc_of work).cookies) (8192 * u) n) is.1
      ∙ same_fault s l (desc_of work) u Write working (ap access_of is.0)
      ∙ ap (unit_fault l (desc_of work)) (sym moves.0),
)
moves_in (Gathers u) s l work unit why next new working within is moves = (
  subst (λ (v : ℕ). Owes (write_pieces u (unit_count (desc_of work).size - u) ++ Finishes 0 ∷ []) (Moves v)) (sym moves.0) (owes_write u (unit_count (desc_of work).size) (Finishes 0 ∷ []) within),
  moves.1 ∙ same_fault s l (desc_of work) u Read working (ap access_of is) ∙ ap (unit_fault l (desc_of work)) (sym moves.0),
)
moves_in _ s l work unit why next new working within is moves = absurd moves

moved_piece : (s t : LaneState) (l : DiskLog) (unit : ℕ) (why : Option CopyFault) → Working s l
    → ServerMoves s.server (at_server s) (reach s (at_server s).both) unit why t.server t.memory → InServer l.work.server (MovesPiece l unit why)
moved_piece s t l unit why working step =
    let free = subst (ServerFree s.server) step.rule (server_free s.server (at_server s)) in
    let now : AtWork s l step.session step.work = at_work s l step.session step.work working free.0 free.1 in
    let moves = moves_in step.work.progress s l step.work unit why step.next t.memory working now.unit now.holds step.moves in
    let same : desc_in now.counts ≡ desc_of step.work = same_desc now.counts step.work now.desc in
    in_server l.work.server now.counts (MovesPiece l unit why) now.is (record {
      owed = subst (λ (owed : List Piece). Owes owed (Moves unit)) (sym now.owed) moves.0;
      fault_is = moves.1 ∙ ap (λ (d : DiskDesc). unit_fault l d unit) (sym same);
    })

-- A UNIT IS STORED, or the store is flushed
block_of : (desc : DiskDesc) (unit : ℕ) (b : Bool) → (desc.operation == 3) ≡ b → b ≡ false → block_in desc unit ≡ desc.offset + 16 * unit
block_of desc unit false is other = ap (λ (c : Bool). if c then 0 else desc.offset + 16 * unit) is
block_of desc unit true is other = absurd (cc)

count_of : (desc : DiskDesc) (unit : ℕ) (b : Bool) → (desc.operation == 3) ≡ b → b ≡ false → count_in desc unit ≡ unit_length desc.size unit / 512
count_of desc unit false is other = ap (λ (c : Bool). if c then 0 else min 8192 (desc.size - 8192 * unit) / 512) is
count_of desc unit true is other = absurd (cc)

record StoresOf (desc : DiskDesc) (progress : Progress) (operation block count : ℕ) : Type 0 where
  unit : ℕ
  owed : Owes (owed_of desc progress) (Stores unit)
  operation_is : operation ≡ desc.operation
  block_is : block ≡ block_in desc unit
  count_is : count ≡ count_in desc unit

stores_in : (progress : Progress) (work : Work) (operation block count : ℕ) (failed : Bool) (gave : List ℕ) (next : Progress) → UnitIn (unit_count (desc_of work).size) progress
    → UnitIs (desc_of work) progress → StoresIn progress work operation block count failed gave next → StoresOf (desc_of work) progress operation block count
stores_in (Reads u) work operation block count failed gave next within is stores = record {
  unit = u;
  owed = owes_read u (unit_count (desc_of work).size) (Finishes 0 ∷ []) within;
  operation_is = stores.0.operation_is ∙ sym is;
  block_is = stores.0.block_is ∙ sym (block_of (desc_of work) u ((desc_of work).operation == 3) refl (ap (λ (n : ℕ). n == 3) is));
  count_is = stores.0.count_is ∙ sym (count_of (desc_of work) u ((desc_of work).operation == 3) refl (ap (λ (n : ℕ). n == 3) is));
}
stores_in (Writes u bytes) work operation block count failed gave next within is stores = record {
  unit = u;
  owed = refl;
  operation_is = stores.0.operation_is ∙ sym is.0;
  block_is = stores.0.block_is ∙ sym (block_of (desc_of work) u ((desc_of work).operation == 3) refl (ap (λ (n : ℕ). n == 3) is.0));
  count_is = stores.0.count_is ∙ ap (λ (n : ℕ). n / 512) is.1 ∙ sym (count_of (desc_of work) u ((desc_of work).operation == 3) refl (ap (λ (n : ℕ). n == 3) is.0));
}
stores_in Flushes work operation block count failed gave next within is stores = record {
  unit = 0;
  owed = refl;
  operation_is = stores.0 ∙ sym is;
  block_is = stores.1 ∙ sym (ap (λ (n : ℕ). if n == 3 then 0 else (desc_of work).offset + 16 * 0) is);
  count_is = stores.2 ∙ sym (ap (λ (n : ℕ). if n == 3 then 0 else min 8192 ((desc_of work).size - 8192 * 0) / 512) is);
}
stores_in _ work operation block count failed gave next within is stores = absurd stores

stored_piece : (s t : LaneState) (l : DiskLog) (operation block count : ℕ) (failed : Bool) (gave : List ℕ) → Working s l
    → ServerStores s.server (at_server s) operation block count failed gave t.server → InServer l.work.server (StoresPiece operation block count)
stored_piece s t l operation block count failed gave working step =
    let free = subst (ServerFree s.server) step.rule (server_free s.server (at_server s)) in
    let now : AtWork s l step.session step.work = at_work s l step.session step.work working free.0 free.1 in
    let stores : StoresOf (desc_of step.work) step.work.progress operation block count =
    stores_in step.work.progress step.work operation block count failed gave step.next now.unit now.holds step.stores in
    let same : desc_in now.counts ≡ desc_of step.work = same_desc now.counts step.work now.desc in
    in_server l.work.server now.counts (StoresPiece operation block count) now.is (record {
      unit = stores.unit;
      owed = subst (λ (owed : List Piece). Owes owed (Stores stores.unit)) (sym now.owed) stores.owed;
      operation_is = stores.operation_is ∙ ap (λ (d : DiskDesc). d.operation) (sym same);
      block_is = stores.block_is ∙ ap (λ (d : DiskDesc). block_in d stores.unit) (sym same);
      count_is = stores.count_is ∙ ap (λ (d : DiskDesc). count_in d stores.unit) (sym same);
    })

-- A DESCRIPTOR GETS ITS STATUS
finished_piece : (s t : LaneState) (l : DiskLog) (slot status : ℕ) → Working s l → ServerFinishes s.server (at_server s) (reach s (at_server s).both) slot status t.server t.memory
    → InServer l.work.server (FinishesPiece l slot status)
finished_piece s t l slot status working step =
    let free = subst (ServerFree s.server) step.rule (server_free s.server (at_server s)) in
    let now : AtWork s l step.session step.work = at_work s l step.session step.work working free.0 free.1 in
    in_server l.work.server now.counts (FinishesPiece l slot status) now.is (record {
      owed = subst (λ (owed : List Piece). Owes owed (Finishes status)) (sym (now.owed ∙ ap (owed_of (desc_of step.work)) step.ends)) refl;
      slot_is = step.slot_is ∙ slot_in_log s l step.session step.session.finished now.counts.finished working.grounded free.0.session_is now.finished;
    })

fetched_ready : (s t : LaneState) (slot : ℕ) (bytes : List ℕ) → ServerFetches s.server (at_server s) (reach s (at_server s).both) slot bytes t.server t.memory → slice_index bytes 0 ≡ ready_state
fetched_ready s t slot bytes fetches =
    ap (λ (xs : List ℕ). slice_index xs 0) fetches.bytes_are
    ∙ eqb-true (slice_index (slot_fetched s.server (reach s (at_server s).both) slot) 0) ready_state fetches.fetched.1

pub pieces_at : (s : LaneState) (l : DiskLog) (event : DiskEvent) (t : LaneState) → Working s l → LaneStep s event t → PiecesAt l event
pieces_at s l (Works (Moved unit why)) t working step = moved_piece s t l unit why working step.1.step.1.0
pieces_at s l (Works (Stored operation block count failed)) t working step = stored_piece s t l operation block count failed step.0 working step.1.step.1.0
pieces_at s l (Works (Finished slot status)) t working step = finished_piece s t l slot status working step.1.step.1.0
pieces_at s l (Works (Desc slot bytes)) t working step = fetched_ready s t slot bytes step.1.step.1.0
pieces_at s l _ t working step = tt
