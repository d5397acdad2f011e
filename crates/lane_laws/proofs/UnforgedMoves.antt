-- On a lane that nobody forged no copy of a unit is refused.
use Rattle.std.proofs.Common.{◌≡◌, ℕ, ◌+◌, ◌*◌, ◌%◌, ◌<◌, ◌≤◌, Bool, true, false, Option, None, List, length, refl, ap, ◌∙◌, subst, arith}
use Rattle.runs.specs.Lawful.{log_of}
use Rattle.runs.specs.Run.{Run}
use Rattle.cookie_copy.specs.declared.fault.Access.{Access}
use Rattle.cookie_copy.specs.declared.fault.Access.TheVariants.{Read, Write}
use Rattle.cookie_copy.specs.declared.fault.CopyFault.{CopyFault}
use Rattle.cookie_copy.specs.Faults.{first_copy_fault}
use Rattle.cookie_copy.specs.Identity.{IsIdentity}
use Rattle.ldc_queue.specs.declared.end.End.TheVariants.{B}
use Rattle.vdisk_msg.specs.declared.desc.DiskDesc.{DiskDesc}
use Rattle.vdisk_msg.specs.declared.request.Request.{Request}
use Rattle.vdisk_msg.specs.Pieces.{unit_count}
use Rattle.vdisk_msg.specs.Requested.{buffer_place, descriptor_of, size_of}
use Rattle.lane_laws.specs.DiskLog.{after, nothing_yet}
use Rattle.lane_models.specs.DiskEvent.{DiskEvent, Moved, Works}
use Rattle.lane_models.specs.LaneState.{IsShape, LaneState, Shape, fresh, pages_of}
use Rattle.lane_models.specs.LaneStep.{LaneStep, reach}
use Rattle.lane_models.specs.Seeing.{seen}
use Rattle.lane_models.specs.ServerRule as server_rules
use Rattle.lane_models.specs.ServerState.{Gathers, Gives, Progress, Work}
use Rattle.cookie_copy.specs.Reach.{Reach}
use Rattle.lane_models.specs.ServerWork.{MovesIn, data_cookies, desc_of, unit_length}
use Rattle.lane_laws.proofs.LaneCounting.{run_knows}
use Rattle.lane_laws.proofs.NoOwnReset.{Working, working}
use Rattle.lane_laws.proofs.RingEnds.{has_work, work_below}
use Rattle.lane_laws.proofs.RingSessions.{sizes_of}
use Rattle.lane_laws.proofs.Ruling.{server_may}
use Rattle.lane_laws.proofs.SlotBytes.{Sizes, fetched_cookies, reads_back, request_size, stated}
use Rattle.lane_laws.proofs.UnitCopies.{unit_answered}
use Rattle.lane_laws.specs.Counted.{UnitFits, UnitIn}
use Rattle.lane_laws.specs.RingAgreed.{ring_in}
use Rattle.lane_laws.specs.RingSlots.{HoldsIssued, RingOf}
use Rattle.lane_laws.specs.RuleFacts.{ServerMay}
use Rattle.lane_laws.specs.Units.{UnitIs, WorkIs}

-- THE DESCRIPTOR in work names its slot's buffer
even_size : (request : Request) → size_of request % 8 ≡ 0
even_size request = grind arith

stated_size : (id : ℕ) (request : Request) (slot slots state status : ℕ) → (stated id request slot slots state status).size ≡ size_of request
unfolding descriptor_of
stated_size id request slot slots state status = refl

work_answered : (access : Access) (work : Work) (r : Reach) (ring : RingOf) (pages slot id unit n : ℕ) → Sizes ring slot → HoldsIssued ring slot id 2 0 work.bytes → r.both ≡ true
    → IsIdentity r.table pages → buffer_place ring.slots slot + 32768 ≤ 8192 * pages → unit < unit_count (desc_of work).size → n ≡ unit_length (desc_of work).size unit
    → first_copy_fault r.both access r.table (data_cookies work) (8192 * unit) n ≡ None
work_answered access work r ring pages slot id unit n sizes holds both identity room below long =
    let size = size_of holds.request in
    let place = buffer_place ring.slots slot in
    let same : (desc_of work).size ≡ size = ap (λ (d : DiskDesc). d.size) (reads_back ring slot id 2 0 work.bytes sizes (omega arith) holds) ∙ stated_size id holds.request slot ring.slots 2 0 in
    let few = request_size ring slot id 2 0 work.bytes holds in
    let units : unit < unit_count size = subst (λ (m : ℕ). unit < unit_count m) same below in
    let all : n ≡ unit_length size unit = long ∙ ap (λ (m : ℕ). unit_length m unit) same in
    let even = even_size holds.request in
    ap (λ (up : Bool). first_copy_fault up access r.table (data_cookies work) (8192 * unit) n) both
    ∙ unit_answered access r.table pages place size unit n (data_cookies work) identity even (omega arith) (omega (arith, few, room)) (omega (arith, units, all)) (omega (arith, even, all))
    (fetched_cookies ring slot id work.bytes sizes holds)

moves_none : (p : Progress) (work : Work) (r : Reach) (ring : RingOf) (pages slot id unit : ℕ) (fault : Option CopyFault) (next : Progress) (new : List ℕ) → Sizes ring slot
    → HoldsIssued ring slot id 2 0 work.bytes → r.both ≡ true → IsIdentity r.table pages → buffer_place ring.slots slot + 32768 ≤ 8192 * pages
    → UnitIn (unit_count (desc_of work).size) p → UnitIs (desc_of work) p → MovesIn p work r unit fault next new → fault ≡ None
moves_none (Gives u bytes) work r ring pages slot id unit fault next new sizes holds both identity room below is moves =
    moves.1 ∙ work_answered Write work r ring pages slot id u (length bytes) sizes holds both identity room below is.1
moves_none (Gathers u) work r ring pages slot id unit fault next new sizes holds both identity room below is moves =
    moves.1 ∙ work_answered Read work r ring pages slot id u (unit_length (desc_of work).size u) sizes holds both identity room below refl
moves_none _ work r ring pages slot id unit fault next new sizes holds both identity room below is moves = absurd moves

pub moved_answered : (shape : Shape) (events : List DiskEvent) (s t : LaneState) (unit : ℕ) (fault : Option CopyFault) → IsShape shape → Run LaneStep (fresh shape) events s → WorkIs s.server.work
    → (log_of after (nothing_yet shape) events).wire.forged ≡ false → LaneStep s (Works (Moved unit fault)) t → fault ≡ None
moved_answered shape events s t unit fault sound run units clean step =
    let l = log_of after (nothing_yet shape) events in
    let at = seen B s.shape.entries s.wire.wire in
    let m = step.1.step.1.0 in
    let may : ServerMay s.server at (server_rules.Serves m.session m.work) = subst (ServerMay s.server at) m.rule (server_may s.server at) in
    let now : Working s l m.session = working shape events s m.session sound run clean may.0 may.1 in
    let d = now.work.of.counts in
    let has = has_work s l m.session m.work now.known now.work may.2 in
    let slot = d.finished % l.shape.slots in
    let below : slot < l.shape.slots = work_below s l d now.known in
    let holds : HoldsIssued (ring_in l) slot has.inside.id 2 0 m.work.bytes = subst (HoldsIssued (ring_in l) slot has.inside.id 2 0) has.desc has.inside.fetched in
    let within : UnitIn (unit_count (desc_of m.work).size) m.work.progress = subst UnitFits may.2 (run_knows shape events s sound run).counted.server.unit in
    let is : UnitIs (desc_of m.work) m.work.progress = subst WorkIs may.2 units in
    moves_none m.work.progress m.work (reach s at.both) (ring_in l) (pages_of l.shape) slot has.inside.id unit fault m.next t.memory (sizes_of s l slot now.known.pages below) holds now.both
    now.known.pages.identity (omega (arith, below)) within is m.moves
