-- An event of a lane that was run there can be told in words.
use Rattle.std.proofs.Common.{◌≡◌, ℕ, ◌*◌, ◌≤◌, ◌%◌, Bool, true, false, List, [], ◌∷◌, ◌++◌, length, Option, Some, None, refl, sym, ap, ◌∙◌, subst, arith}
use Rattle.std.specs.Prelude.{◌==◌, ◌&&◌, if◌then◌else◌}
use Rattle.runs.specs.Lawful.{lawful_split, log_of, run_lawful}
use Rattle.runs.specs.Run.{Run, run_push}
use Rattle.ldc_queue.specs.declared.end.End.{End}
use Rattle.ldc_queue.specs.declared.end.End.TheVariants.{A, B}
use Rattle.ldc_queue.specs.Transcript.{Utterance}
use Rattle.vdisk_msg.specs.declared.request.Request.{Request}
use Rattle.vdisk_msg.specs.declared.request.Request.TheVariants.{Flush, Read, Write}
use Rattle.vdisk_msg.specs.Requests.{IsOperation, BadCount, Defect, defect, given_count, operation_of}
use Rattle.vio_tag.specs.declared.cause.Cause.{Cause}
use Rattle.lane_models.specs.ResetSays.{ResetSays}
use Rattle.lane_models.specs.WireEvent.{Joined, Reset}
use Rattle.lane_laws.specs.DiskLog.{DiskLog, after, nothing_yet}
use Rattle.lane_laws.specs.May.{May}
use Rattle.lane_laws.specs.RequestLaws.{CarriesAt, carried_count}
use Rattle.lane_laws.specs.WorkLaws.{ResetOf}
use Rattle.lane_models.specs.DiskEvent.{DiskEvent, Done, OnWire, Stored, Works}
use Rattle.lane_models.specs.LaneState.{IsShape, LaneState, Shape, fresh}
use Rattle.lane_models.specs.LaneStep.{EndOnWire, LaneStep}
use Rattle.lane_models.specs.ServerState.{Progress, Work}
use Rattle.lane_models.specs.ServerWork.{StoresIn}
use Rattle.lane_laws.proofs.CarriedRuns.{AllStand, all_step, fresh_all}
use Rattle.lane_laws.proofs.MemorySteps.{carried_long, got_sound}
use Rattle.lane_laws.specs.MemoryStands.{MemoryStands}
use Rattle.lane_laws.proofs.EveryRun.{every_run}
use Rattle.world_laws.specs.Words.{AreBlocks, HasWords, NamesFault}

-- OPERATIONS
request_operation : (request : Request) → IsOperation (operation_of request)
request_operation (Read block count) = (omega (arith), omega (arith))
request_operation (Write block count fill) = (omega (arith), omega (arith))
request_operation Flush = (omega (arith), omega (arith))

stored_operation : (p : Progress) (work : Work) (operation block count : ℕ) (failed : Bool) (gave : List ℕ) (next : Progress) → StoresIn p work operation block count failed gave next → IsOperation operation
stored_operation p work operation block count failed gave next stores = grind arith

-- BLOCKS: a read that was accepted has at least one
some_if : (b c : Bool) (why : Option Defect) → (if b && c then why else Some BadCount) ≡ None → b ≡ true
some_if true c why none = refl
some_if false c why none = absurd (cc none)

some_blocks : (blocks block count : ℕ) → defect blocks (Read block count) ≡ None → 1 ≤ count
some_blocks blocks block count none = grind arith

whole_blocks : (count : ℕ) → 512 * count % 512 ≡ 0
whole_blocks count = omega (arith)

blocks_of : (count : ℕ) (bytes : List ℕ) → length bytes ≡ 512 * count → 1 ≤ count → AreBlocks bytes
blocks_of count bytes long some = (omega (arith, long, some), ap (λ (n : ℕ). n % 512) long ∙ whole_blocks count)

carried_well : (status : ℕ) (request : Request) → status ≡ 0 → carried_count status request ≡ given_count request
carried_well status request well = ap (λ (n : ℕ). if n == 0 then given_count request else 0) well

read_blocks : (blocks : ℕ) (request : Request) (bytes : List ℕ) → defect blocks request ≡ None → length bytes ≡ given_count request → operation_of request ≡ 1 → AreBlocks bytes
read_blocks blocks request bytes none long read = grind arith

memory_stands : (shape : Shape) (events : List DiskEvent) (s : LaneState) → IsShape shape → Run LaneStep (fresh shape) events s → MemoryStands s
memory_stands shape events s sound run =
    (run_lawful LaneStep CarriesAt after AllStand all_step (fresh shape) s (nothing_yet shape) events (fresh_all shape sound) run).1.memory

done_words : (s : LaneState) (id operation status : ℕ) (bytes : List ℕ) (t : LaneState) → MemoryStands s → LaneStep s (Works (Done id operation status bytes)) t
    → HasWords (Works (Done id operation status bytes))
done_words s id operation status bytes t stands works =
    let step = works.step in
    let none : defect s.client.blocks step.request ≡ None = got_sound s.client.blocks s.client.pending 0 step.request stands.sound step.front in
    let long = carried_long s id operation status bytes t.client t.memory stands step in (
      subst IsOperation (sym step.operation_is) (request_operation step.request),
      λ read well. read_blocks s.client.blocks step.request bytes none (long ∙ carried_well status step.request well) (sym step.operation_is ∙ read),
    )

-- FRAMES AND CAUSES
joined_none : (e : End) (s : LaneState) (lost : ℕ) (t : LaneState) → EndOnWire e s (Joined e lost) t → lost ≡ 0
joined_none A s lost t step = step.step.1
joined_none B s lost t step = step.1.step.1.1

cause_named : (l : DiskLog) (turns : List Utterance) (e : End) (cause : Cause) (packet : Option (List ℕ)) → ResetOf l e cause packet → ResetSays turns packet cause → NamesFault cause
cause_named l turns e cause packet own says = grind arith

reset_words : (l : DiskLog) (e : End) (cause : Cause) (packet : Option (List ℕ)) (lost : ℕ) → May l (OnWire (Reset e cause packet lost)) → HasWords (OnWire (Reset e cause packet lost))
reset_words l e cause packet lost may = grind arith

-- EACH EVENT after a run of a lane
may_behind : (shape : Shape) (events : List DiskEvent) (s : LaneState) (event : DiskEvent) (t : LaneState) → IsShape shape → Run LaneStep (fresh shape) events s → LaneStep s event t
    → May (log_of after (nothing_yet shape) events) event
may_behind shape events s event t sound run step =
    (lawful_split May after (nothing_yet shape) events (event ∷ [])
    (every_run shape (events ++ event ∷ []) t sound (run_push LaneStep (fresh shape) s t events event run step))).1.0

pub event_words : (shape : Shape) (events : List DiskEvent) (s : LaneState) (event : DiskEvent) (t : LaneState) → IsShape shape → Run LaneStep (fresh shape) events s → LaneStep s event t → HasWords event
event_words shape events s (Works (Done id operation status bytes)) t sound run step = done_words s id operation status bytes t (memory_stands shape events s sound run) step
event_words shape events s (Works (Stored operation block count failed)) t sound run step =
    let stores = step.1.step.1.0 in
    stored_operation stores.work.progress stores.work operation block count failed step.0 stores.next stores.stores
event_words shape events s (OnWire (Joined e lost)) t sound run step = joined_none e s lost t step
event_words shape events s (OnWire (Reset e cause packet lost)) t sound run step =
    reset_words (log_of after (nothing_yet shape) events) e cause packet lost (may_behind shape events s (OnWire (Reset e cause packet lost)) t sound run step)
event_words shape events s _ t sound run step = tt
