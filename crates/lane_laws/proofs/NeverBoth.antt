-- Where nobody forged, never does each end find no room for its packet: in the opening one of them waits for the other, and in session a
-- client takes what waits before it puts.
use Rattle.std.proofs.Common.{◌≡◌, ℕ, ◌⊎◌, true, Option, Some, List, arith}
use Rattle.std.specs.Prelude.{is_some}
use Rattle.ldc_link.specs.declared.phase.LinkPhase.TheVariants as phase
use Rattle.ldc_link.specs.declared.phase.Role.TheVariants.{Initiator}
use Rattle.ldc_queue.specs.Transcript.{Utterance}
use Rattle.vio_tag.specs.declared.message.Message.{Message}
use Rattle.lane_laws.specs.WorkLog.{ServerCounts}
use Rattle.lane_models.specs.ClientPutting.{client_holds}
use Rattle.lane_models.specs.ClientRule as client
use Rattle.lane_models.specs.ClientState.{ClientState}
use Rattle.lane_models.specs.LaneState.{Shape}
use Rattle.lane_models.specs.Seeing.{Seen}
use Rattle.lane_models.specs.ServerPutting.{server_holds}
use Rattle.lane_models.specs.ServerRule as server
use Rattle.lane_models.specs.ServerState.{ServerState}
use Rattle.lane_laws.proofs.RulesFree.{ServerFree, server_free}
use Rattle.lane_models.specs.Standing.{EndStands}
use Rattle.lane_laws.specs.ChannelEnds.{client_core}
use Rattle.lane_laws.specs.Counted.{ServerCounted}

-- A CLIENT for which a packet waits holds a message only where that goes before taking
pub holds_urgent : (s : ClientState) (at : Seen) (packet : List ℕ) (t : ClientState) → at.first ≡ Some packet → client_holds (client.client_rule s at) s ≡ Some t → client.is_urgent s ≡ true
holds_urgent s at packet t first holds = grind arith

-- so its handshake owes a message
abbrev pub Owes : Option Message → Type 0
Owes owed = is_some owed ≡ true

pub client_owes : (s : ClientState) (turns : List Utterance) → EndStands Initiator (client_core s) turns → s.link.phase ≡ phase.Established → client.is_urgent s ≡ true → Owes s.handshake.owed
client_owes s turns stands at urgent = grind arith

-- A SERVER that holds a message owes one of its handshake, or its session is open
by_rule : (shape : Shape) (s : ServerState) (turns : List Utterance) (d : Option ServerCounts) (rule : server.ServerRule) (t : ServerState) → ServerCounted shape s turns d
    → s.link.phase ≡ phase.Established → ServerFree s rule → server_holds rule s ≡ Some t → Owes s.handshake.owed ⊎ (is_some s.session ≡ true)
by_rule shape s turns d rule t counted at free holds = grind arith

pub server_owes : (shape : Shape) (s : ServerState) (at : Seen) (turns : List Utterance) (d : Option ServerCounts) (t : ServerState) → ServerCounted shape s turns d
    → s.link.phase ≡ phase.Established → server_holds (server.server_rule s at) s ≡ Some t → Owes s.handshake.owed ⊎ (is_some s.session ≡ true)
server_owes shape s at turns d t counted up holds =
    by_rule shape s turns d (server.server_rule s at) t counted up (server_free s at) holds
