-- A place of the image that no accepted write names keeps its byte where nobody forged, whether stores failed or not.
use Rattle.std.proofs.Common.{◌≡◌, ◌⊎◌, ℕ, zero, suc, ◌+◌, ◌*◌, ◌<◌, ◌≤◌, Bool, false, Option, Some, List, [], ◌∷◌, ◌++◌, slice_get, slice_index, inl, inr, refl, sym, ap, ◌∙◌, subst, arith}
use Rattle.std.specs.Prelude.{⊤}
use Rattle.runs.specs.Lawful.{log_of}
use Rattle.runs.specs.Run.{Run}
use Rattle.vdisk_msg.specs.declared.desc.DiskDesc.{DiskDesc}
use Rattle.vdisk_msg.specs.declared.request.Request.{Request}
use Rattle.vdisk_msg.specs.declared.request.Request.TheVariants.{Flush, Read, Write}
use Rattle.vdisk_msg.specs.Requested.{block_of, size_of}
use Rattle.vdisk_msg.specs.Requests.{operation_of}
use Rattle.lane_models.specs.DiskEvent.{DiskEvent}
use Rattle.lane_models.specs.LaneState.{IsShape, LaneState, Shape, fresh}
use Rattle.lane_models.specs.LaneStep.{LaneStep}
use Rattle.lane_models.specs.ServerState.{Work}
use Rattle.lane_models.specs.ServerWork.{desc_of}
use Rattle.lane_laws.specs.DiskLog.{DiskLog, after, nothing_yet}
use Rattle.ldc_queue.specs.declared.end.ChannelState.TheVariants.{Up}
use Rattle.ldc_queue.specs.declared.end.End.TheVariants.{B}
use Rattle.lane_models.specs.Seeing.{seen}
use Rattle.lane_models.specs.ServerRule as server_rules
use Rattle.lane_models.specs.WireLog.{WireLog}
use Rattle.lane_laws.proofs.Ruling.{server_may}
use Rattle.lane_laws.proofs.StandingSteps.{wired_keeps}
use Rattle.lane_laws.proofs.RingClientSteps.{got_at}
use Rattle.lane_laws.specs.RuleFacts.{ServerMay}
use Rattle.lane_laws.proofs.LaneRuns.{before_of, run_contents}
use Rattle.lane_laws.proofs.ServerChanges.{ServesNow, serves_now}
use Rattle.lane_laws.proofs.Standing.{Before}
use Rattle.world_laws.specs.NamesNo.{IsApart, NamesNo, NamesNot}
use Rattle.world_laws.specs.Stays.{StaysAt}
use Rattle.world_laws.proofs.ImageKeeping.{byte_before, byte_behind}
use Rattle.world_laws.proofs.LaneStores.{UnitStored}
use Rattle.world_laws.proofs.UnitPlaces.{Stores, Wrote}

-- EACH REQUEST that a disk accepted lies apart from the place
abbrev pub AllApart : ℕ → ℕ → List Request → Type 0
AllApart place first [] = ⊤
AllApart place first (request ∷ requests) = IsApart place first request × AllApart place first requests

pub apart_at : (place first : ℕ) (requests : List Request) (k : ℕ) (request : Request) → AllApart place first requests → slice_get requests k ≡ Some request → IsApart place first request
apart_at place first [] k request all got = absurd (cc got)
apart_at place first (x ∷ requests) zero request all got = let same : x ≡ request = cc got in subst (IsApart place first) same all.0
apart_at place first (x ∷ requests) (suc k) request all got = apart_at place first requests k request all.1 got

apart_push : (place first : ℕ) (requests : List Request) (request : Request) → AllApart place first requests → IsApart place first request → AllApart place first (requests ++ request ∷ [])
apart_push place first [] request all one = (one, tt)
apart_push place first (x ∷ requests) request all one = (all.0, apart_push place first requests request all.1 one)

-- those that the log of a lane has as accepted
apart_behind : (place first : ℕ) (l : DiskLog) (event : DiskEvent) → NamesNot place first event → AllApart place first l.work.issued → AllApart place first (after l event).work.issued
apart_behind place first l event named all = grind (arith, wired_keeps, apart_push)

issued_apart : (place first : ℕ) (l : DiskLog) (events : List DiskEvent) → NamesNo place first events → AllApart place first l.work.issued → AllApart place first (log_of after l events).work.issued
issued_apart place first l [] named all = all
issued_apart place first l (event ∷ events) named all = issued_apart place first (after l event) events named.1 (apart_behind place first l event named.0 all)

-- of a front of events
pub names_front : (place first : ℕ) (one two : List DiskEvent) → NamesNo place first (one ++ two) → NamesNo place first one
names_front place first [] two named = tt
names_front place first (event ∷ one) two named = (named.0, names_front place first one two named.1)

-- THE REQUEST of a unit that is stored was accepted
record OfRequest (s : LaneState) (l : DiskLog) (work : Work) : Type 0 where
  request : Request
  place : ℕ
  accepted : slice_get l.work.issued place ≡ Some request
  size : (desc_of work).size ≡ size_of request
  offset : (desc_of work).offset ≡ block_of request
  operation : (desc_of work).operation ≡ operation_of request

of_request : (shape : Shape) (events : List DiskEvent) (s : LaneState) (work : Work) → IsShape shape → Run LaneStep (fresh shape) events s → s.wire.forged ≡ false → s.wire.wire.end_b ≡ Up
    → s.server.work ≡ Some work → OfRequest s (log_of after (nothing_yet shape) events) work
of_request shape events s work sound run unforged up is =
    let l = log_of after (nothing_yet shape) events in
    let holds = run_contents shape events s sound run in
    let stands = holds.along.all.stands in
    let clean : l.wire.forged ≡ false = sym (ap (λ (w : WireLog). w.forged) stands.wire) ∙ unforged in
    let before : Before s l = before_of shape events s sound run clean (holds.near clean) in
    let serves : ServesNow s l work = serves_now s l work before up is in
    let says = serves.facts.says in
    record {
      request = serves.on.request;
      place = l.work.done + s.near.k;
      accepted = sym (got_at l.work.issued l.work.done s.near.k) ∙ ap (λ (xs : List Request). slice_get xs s.near.k) (sym stands.requests.pending) ∙ serves.on.next;
      size = says.size;
      offset = says.offset;
      operation = says.operation;
    }

-- WHERE A WRITE is apart from the place, the byte stays
apart_byte : (place first : ℕ) (desc : DiskDesc) (request : Request) (store : List ℕ) (told : Option (List ℕ)) → desc.size ≡ size_of request → desc.offset ≡ block_of request
    → desc.operation ≡ operation_of request → IsApart place first request → Wrote desc first store told → StaysAt place store told
apart_byte place first desc (Read block count) store told size offset operation apart wrote = let two = wrote.writes in absurd (omega (arith, two, operation))
apart_byte place first desc Flush store told size offset operation apart wrote = let two = wrote.writes in absurd (omega (arith, two, operation))
apart_byte place first desc (Write block count fill) store told size offset operation apart wrote =
    record { now = wrote.now; told_is = wrote.told_is; long = wrote.long; byte = by_side apart }
  where
    by_side : (place < 512 * (first + block)) ⊎ (512 * (first + block + count) ≤ place) → slice_index wrote.now place ≡ slice_index store place
    by_side (inl below) = grind (arith, byte_before)
    by_side (inr above) = grind (arith, byte_behind)

pub same_byte : (place : ℕ) (store : List ℕ) (told : Option (List ℕ)) → told ≡ Some store → StaysAt place store told
same_byte place store told is = record { now = store; told_is = is; long = refl; byte = refl }

stores_byte : (place first : ℕ) (desc : DiskDesc) (request : Request) (store : List ℕ) (told : Option (List ℕ)) → desc.size ≡ size_of request → desc.offset ≡ block_of request
    → desc.operation ≡ operation_of request → IsApart place first request → Stores desc first store told → StaysAt place store told
stores_byte place first desc request store told size offset operation apart (inl same) = same_byte place store told same
stores_byte place first desc request store told size offset operation apart (inr wrote) = apart_byte place first desc request store told size offset operation apart wrote

pub unit_byte : (place : ℕ) (shape : Shape) (events : List DiskEvent) (s : LaneState) (operation block count : ℕ) (failed : Bool) (t : LaneState) (store : List ℕ) (told : Option (List ℕ))
    → IsShape shape → Run LaneStep (fresh shape) events s → s.wire.forged ≡ false → NamesNo place shape.first events → UnitStored shape s operation block count failed t store told
    → StaysAt place store told
unit_byte place shape events s operation block count failed t store told sound run unforged named unit =
    let at = seen B s.shape.entries s.wire.wire in
    let m = unit.at.step in
    let may : ServerMay s.server at (server_rules.Serves m.session m.work) = subst (ServerMay s.server at) m.rule (server_may s.server at) in
    let of = of_request shape events s m.work sound run unforged may.0 unit.at.serves in
    let all = issued_apart place shape.first (nothing_yet shape) events named tt in
    stores_byte place shape.first (desc_of m.work) of.request store told of.size of.offset of.operation
    (apart_at place shape.first (log_of after (nothing_yet shape) events).work.issued of.place of.request all of.accepted)
    (subst (λ (n : ℕ). Stores (desc_of m.work) n store told) unit.first unit.at.stores)
