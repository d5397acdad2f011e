-- What a server has still to put: each packet that it puts lowers it, and a packet that it takes raises it by one at most; and its descriptor
-- in work has at most eight pieces left.
use Rattle.std.proofs.Common.{◌≡◌, ℕ, ◌+◌, ◌≤◌, inl, inr, Bool, Option, Some, None, List, sym, ap, subst, arith}
use Rattle.std.specs.Prelude.{⊤}
use Rattle.cookie_copy.specs.declared.fault.CopyFault.{CopyFault}
use Rattle.ldc_queue.specs.Transcript.{Utterance}
use Rattle.vdisk_msg.specs.Descriptor as slot_says
use Rattle.vdisk_msg.specs.Pieces.{unit_count}
use Rattle.lane_models.specs.Seeing.{Seen}
use Rattle.lane_models.specs.ServerRule.{Fetches}
use Rattle.lane_models.specs.ServerState.{ServerSession, ServerState, Work}
use Rattle.lane_models.specs.ServerStep.{ServerFetches, ServerFinishes, ServerMoves, ServerStores}
use Rattle.cookie_copy.specs.Reach.{Reach}
use Rattle.lane_models.specs.ServerWork.{desc_of}
use Rattle.lane_laws.proofs.RemainingServerPuts.{ServerFalls}
use Rattle.lane_laws.proofs.RemainingServerSteps.{few_pieces, moves_less, stores_less}
use Rattle.lane_laws.proofs.Ruling.{server_may}
use Rattle.lane_laws.proofs.ServerTaken.{ServerTook}
use Rattle.lane_laws.specs.Budget.{range_packets}
use Rattle.lane_laws.specs.Remaining.{pieces_left, server_packets}
use Rattle.lane_laws.specs.RemainingSteps.{ServerHeard}
use Rattle.lane_laws.specs.RuleFacts.{ServerMay}

abbrev pub FewPieces : Option Work → Type 0
FewPieces None = ⊤
FewPieces (Some work) = pieces_left (unit_count (desc_of work).size) work.progress ≤ 8

-- the server put so many packets, and has so many more to put
pub record ServerFlies (put more : ℕ) (v u : ServerState) : Type 0 where
  pub packets : server_packets u + put ≤ server_packets v + more
  pub pieces : FewPieces v.work → FewPieces u.work

-- IT HOLDS a message, and puts a packet
same_pieces : (v u : ServerState) → u.work ≡ v.work → FewPieces v.work → FewPieces u.work
same_pieces v u is few = subst FewPieces (sym is) few

pub falls_fly : (put : ℕ) (s t : ServerState) → ServerFalls put s t → ServerFlies put 0 s t
falls_fly put s t falls = record { packets = omega (arith, falls.packets); pieces = same_pieces s t falls.work }

-- IT TAKES one
took_work : (s t : ServerState) (turns : List Utterance) (packet : List ℕ) (opens : Bool) → ServerTook s turns packet t opens → t.work ≡ s.work
took_work s t turns packet opens took = grind arith

turn_packets : (most : ℕ) (v u : ServerState) → ServerHeard most v u → server_packets u + 0 ≤ server_packets v + 1
turn_packets most v u (inl hears) = omega (arith, hears.packets)
turn_packets most v u (inr asks) = omega (arith, asks.1.packets)

pub server_takes_flies : (most : ℕ) (s t : ServerState) (turns : List Utterance) (packet : List ℕ) (opens : Bool) → ServerHeard most s t → ServerTook s turns packet t opens → ServerFlies 0 1 s t
server_takes_flies most s t turns packet opens turn took = record { packets = turn_packets most s t turn; pieces = same_pieces s t (took_work s t turns packet opens took) }

-- ITS WORK
works_flies : (s : ServerState) (session : Option ServerSession) (work : Option Work) → range_packets session ≡ range_packets s.session → (FewPieces s.work → FewPieces work)
    → ServerFlies 0 0 s (record s { session = session; work = work })
works_flies s session work range pieces = grind arith

pub server_fetches_flies : (s : ServerState) (at : Seen) (reach : Reach) (slot : ℕ) (bytes : List ℕ) (t : ServerState) (new : List ℕ) → ServerFetches s at reach slot bytes t new → ServerFlies 0 0 s t
server_fetches_flies s at reach slot bytes t new step =
    let may : ServerMay s at (Fetches step.session) = subst (ServerMay s at) step.rule (server_may s at) in
    subst (ServerFlies 0 0 s) (sym step.is) (works_flies s _ _ (ap range_packets (sym may.1)) (λ few. few_pieces (slot_says.disk_desc_of bytes) s.blocks))

pub server_moves_flies : (s : ServerState) (at : Seen) (reach : Reach) (unit : ℕ) (why : Option CopyFault) (t : ServerState) (new : List ℕ) → ServerMoves s at reach unit why t new → ServerFlies 0 0 s t
server_moves_flies s at reach unit why t new step = grind (arith, server_may, moves_less)

pub server_stores_flies : (s : ServerState) (at : Seen) (operation block count : ℕ) (failed : Bool) (gave : List ℕ) (t : ServerState) → ServerStores s at operation block count failed gave t
    → ServerFlies 0 0 s t
server_stores_flies s at operation block count failed gave t step = grind (arith, server_may, stores_less)

pub server_finishes_flies : (s : ServerState) (at : Seen) (reach : Reach) (slot status : ℕ) (t : ServerState) (new : List ℕ) → ServerFinishes s at reach slot status t new → ServerFlies 0 0 s t
server_finishes_flies s at reach slot status t new step = grind (arith, server_may)
