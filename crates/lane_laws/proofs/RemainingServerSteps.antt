-- The work of a server: what remains falls.
use Rattle.std.proofs.Common.{◌≡◌, ◌≢◌, ℕ, ◌^◌, ◌+◌, ◌-◌, ◌*◌, ◌%◌, ◌≤◌, ◌<◌, Bool, true, false, Option, Some, None, List, refl, sym, subst, arith}
use Rattle.std.specs.Prelude.{nat_lt, ◌==◌, if◌then◌else◌}
use Rattle.std.proofs.lemmas.Bool.{eqb-false, ltb-true}
use Rattle.cookie_copy.specs.declared.fault.CopyFault.{CopyFault}
use Rattle.vdisk_msg.specs.Check.{first_defect, moves_data}
use Rattle.vdisk_msg.specs.declared.desc.DescFault.{DescFault}
use Rattle.vdisk_msg.specs.declared.desc.DiskDesc.{DiskDesc}
use Rattle.vdisk_msg.specs.Descriptor as slot_says
use Rattle.vdisk_msg.specs.Pieces.{unit_count}
use Rattle.lane_models.specs.Ranges.{wrapped}
use Rattle.lane_models.specs.Seeing.{Seen}
use Rattle.lane_models.specs.ServerRule.{Fetches, Serves, server_rule}
use Rattle.lane_models.specs.ServerState.{Ends, Gathers, Gives, Progress, Reads, ServerSession, ServerState, Work}
use Rattle.lane_models.specs.ServerStep.{ServerFetches, ServerFinishes, ServerMoves, ServerStores}
use Rattle.cookie_copy.specs.Reach.{Reach}
use Rattle.lane_models.specs.ServerWork.{MovesIn, StoresIn, checked_progress, desc_of, first_progress, gathered, given}
use Rattle.lane_laws.proofs.RemainingServerPuts.{ServerLowers}
use Rattle.lane_laws.proofs.RulesFree.{ServerFree, server_free}
use Rattle.lane_laws.proofs.RuleTests.{ServesFree}
use Rattle.lane_laws.specs.Remaining.{pieces_left, unfinished, work_left}
use Rattle.lane_laws.specs.RemainingSteps.{CountsFit}

-- WHERE A SERVER WORKS: in its session, with some descriptor that it was asked for and didn't finish
pub record Working (s : ServerState) (session : ServerSession) (work : Option Work) : Type 0 where
  pub session_is : s.session ≡ Some session
  pub work_is : s.work ≡ work
  pub more : (session.finished == session.asked) ≡ false

working_of : (s : ServerState) (session : ServerSession) (work : Option Work) → ServesFree s session × (s.work ≡ work) → Working s session work
working_of s session work free = record { session_is = free.0.session_is; work_is = free.1; more = free.0.unfinished }

fetches_working : (s : ServerState) (at : Seen) (session : ServerSession) → server_rule s at ≡ Fetches session → Working s session None
fetches_working s at session rule = working_of s session None (subst (ServerFree s) rule (server_free s at))

serves_working : (s : ServerState) (at : Seen) (session : ServerSession) (work : Work) → server_rule s at ≡ Serves session work → Working s session (Some work)
serves_working s at session work rule = working_of s session (Some work) (subst (ServerFree s) rule (server_free s at))

-- A SESSION and a work of which less is left, with the same range and the same that was asked
works_lower : (s : ServerState) (session next : ServerSession) (work later_work : Option Work) → Working s session work → next.range ≡ session.range → next.asked ≡ session.asked
    → work_left (unfinished next) later_work + 1 ≤ work_left (unfinished session) work → ServerLowers 1 s (record s { session = Some next; work = later_work })
works_lower s session next work later_work working range asked fall = grind arith

-- PIECES
reads_less : (b : Bool) (size unit : ℕ) → nat_lt (unit + 1) (unit_count size) ≡ b → pieces_left (unit_count size) (if b then Reads (unit + 1) else Ends 0) + 1 ≤ 1 + 2 * (unit_count size - (unit + 1))
reads_less true size unit is = omega (arith, ltb-true (unit + 1) (unit_count size) is)
reads_less false size unit is = omega arith

gathers_less : (b : Bool) (size unit : ℕ) → nat_lt (unit + 1) (unit_count size) ≡ b → pieces_left (unit_count size) (if b then Gathers (unit + 1) else Ends 0) + 1 ≤ 1 + 2 * (unit_count size - (unit + 1))
gathers_less true size unit is = omega (arith, ltb-true (unit + 1) (unit_count size) is)
gathers_less false size unit is = omega arith

abbrev pub Less : Work → Progress → Progress → Type 0
Less work next progress = pieces_left (unit_count (desc_of work).size) next + 1 ≤ pieces_left (unit_count (desc_of work).size) progress

given_less : (why : Option CopyFault) (work : Work) (unit : ℕ) (bytes : List ℕ) → Less work (given why work unit) (Gives unit bytes)
given_less None work unit bytes = reads_less (nat_lt (unit + 1) (unit_count (desc_of work).size)) (desc_of work).size unit refl
given_less (Some why) work unit bytes = omega arith

gathered_less : (why : Option CopyFault) (work : Work) (reach : Reach) (unit : ℕ) → Less work (gathered why work reach unit) (Gathers unit)
gathered_less None work reach unit = omega arith
gathered_less (Some why) work reach unit = omega arith

pub moves_less : (progress : Progress) (work : Work) (reach : Reach) (unit : ℕ) (why : Option CopyFault) (next : Progress) (new : List ℕ)
    → MovesIn progress work reach unit why next new → Less work next progress
moves_less (Gives u bytes) work reach unit why next new moves = subst (λ (x : Progress). Less work x (Gives u bytes)) (sym moves.2) (given_less why work u bytes)
moves_less (Gathers u) work reach unit why next new moves = subst (λ (x : Progress). Less work x (Gathers u)) (sym moves.2) (gathered_less why work reach u)
moves_less _ work reach unit why next new moves = absurd moves

pub stores_less : (progress : Progress) (work : Work) (operation block count : ℕ) (failed : Bool) (gave : List ℕ) (next : Progress)
    → StoresIn progress work operation block count failed gave next → Less work next progress
stores_less progress work operation block count failed gave next stores = grind (arith, gathers_less)

progress_lowers : (s : ServerState) (at : Seen) (session : ServerSession) (work : Work) (next : Progress) → server_rule s at ≡ Serves session work → Less work next work.progress
    → ServerLowers 1 s (record s { work = Some (record work { progress = next }) })
progress_lowers s at session work next rule less =
    let working = serves_working s at session work rule in
    let lower = works_lower s session session (Some work) (Some (record work { progress = next })) working refl refl (omega (arith, less)) in
    subst (λ (o : Option ServerSession). ServerLowers 1 s (record s { session = o; work = Some (record work { progress = next }) })) (sym working.session_is) lower

pub moves_lowers : (s : ServerState) (at : Seen) (reach : Reach) (unit : ℕ) (why : Option CopyFault) (t : ServerState) (new : List ℕ) → ServerMoves s at reach unit why t new
    → ServerLowers 1 s t
moves_lowers s at reach unit why t new step =
    subst (ServerLowers 1 s) (sym step.is)
    (progress_lowers s at step.session step.work step.next step.rule (moves_less step.work.progress step.work reach unit why step.next new step.moves))

pub stores_lowers : (s : ServerState) (at : Seen) (operation block count : ℕ) (failed : Bool) (gave : List ℕ) (t : ServerState)
    → ServerStores s at operation block count failed gave t → ServerLowers 1 s t
stores_lowers s at operation block count failed gave t step =
    subst (ServerLowers 1 s) (sym step.is)
    (progress_lowers s at step.session step.work step.next step.rule (stores_less step.work.progress step.work operation block count failed gave step.next step.stores))

-- WHAT IS FETCHED has at most eight pieces
sound_size : (desc : DiskDesc) (blocks : ℕ) → moves_data desc.operation ≡ true → first_defect desc blocks 0x0e ≡ None → desc.size ≤ 32768
sound_size desc blocks moves sound = grind arith

few_checked : (defect : Option DescFault) (desc : DiskDesc) (blocks : ℕ) → first_defect desc blocks 0x0e ≡ defect → pieces_left (unit_count desc.size) (checked_progress defect desc) ≤ 8
few_checked defect desc blocks is = grind (arith, sound_size)

pub few_pieces : (desc : DiskDesc) (blocks : ℕ) → pieces_left (unit_count desc.size) (first_progress blocks desc) ≤ 8
few_pieces desc blocks = few_checked (first_defect desc blocks 0x0e) desc blocks refl

-- WHERE THE COUNTS fit into 8 bytes
counts_of : (open_one : Option ServerSession) (session : ServerSession) → open_one ≡ Some session → CountsFit open_one
    → (session.asked < 2 ^ 64) × (session.finished < 2 ^ 64)
counts_of open_one session is fit = subst CountsFit is fit

some_left : (asked finished : ℕ) → finished ≢ asked → asked < 2 ^ 64 → finished < 2 ^ 64
    → 1 ≤ ((asked + 2 ^ 64) - finished) % 2 ^ 64
some_left asked finished other fits also = omega (arith, other, fits, also)

one_less : (asked finished : ℕ) → finished ≢ asked → asked < 2 ^ 64 → finished < 2 ^ 64
    → ((asked + 2 ^ 64) - (finished + 1) % 2 ^ 64) % 2 ^ 64 + 1 ≤ ((asked + 2 ^ 64) - finished) % 2 ^ 64
one_less asked finished other fits also = omega (arith, other, fits, also)

pub fetches_lowers : (s : ServerState) (at : Seen) (reach : Reach) (slot : ℕ) (bytes : List ℕ) (t : ServerState) (new : List ℕ) → CountsFit s.session
    → ServerFetches s at reach slot bytes t new → ServerLowers 1 s t
fetches_lowers s at reach slot bytes t new fit step =
    let working = fetches_working s at step.session step.rule in
    let fits = counts_of s.session step.session working.session_is fit in
    let some = some_left step.session.asked step.session.finished (eqb-false step.session.finished step.session.asked working.more) fits.0 fits.1 in
    let next : Option Work = Some (record { bytes = bytes; progress = first_progress s.blocks (slot_says.disk_desc_of bytes) }) in
    subst (ServerLowers 1 s) (sym step.is)
    (works_lower s step.session (record step.session { descs = wrapped (step.session.descs + 1) }) None next working refl refl
    (fetched_less (unfinished step.session) (pieces_left (unit_count (slot_says.disk_desc_of bytes).size) (first_progress s.blocks (slot_says.disk_desc_of bytes))) some
    (few_pieces (slot_says.disk_desc_of bytes) s.blocks)))
  where
    fetched_less : (n pieces : ℕ) → 1 ≤ n → pieces ≤ 8 → pieces + 1 + 10 * (n - 1) + 1 ≤ 10 * n
    fetched_less n pieces some few = omega (arith, some, few)

pub finishes_lowers : (s : ServerState) (at : Seen) (reach : Reach) (slot status : ℕ) (t : ServerState) (new : List ℕ) → CountsFit s.session
    → ServerFinishes s at reach slot status t new → ServerLowers 1 s t
finishes_lowers s at reach slot status t new fit step =
    let working = serves_working s at step.session step.work step.rule in
    let fits = counts_of s.session step.session working.session_is fit in
    let less = one_less step.session.asked step.session.finished (eqb-false step.session.finished step.session.asked working.more) fits.0 fits.1 in
    let next : ServerSession = record step.session { finished = wrapped (step.session.finished + 1) } in
    subst (ServerLowers 1 s) (sym step.is)
    (works_lower s step.session next (Some step.work) None working refl refl
    (finished_less (unfinished next) (unfinished step.session) (pieces_left (unit_count (desc_of step.work).size) step.work.progress) less))
  where
    finished_less : (few n pieces : ℕ) → few + 1 ≤ n → 10 * few + 1 ≤ pieces + 1 + 10 * (n - 1)
    finished_less few n pieces less = omega (arith, less)
