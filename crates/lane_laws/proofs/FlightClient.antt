-- What a client has still to put, against the INFO that it began: each packet that it puts lowers the one or is the other.
use Rattle.std.proofs.Common.{ℕ, ◌+◌, ◌≤◌, arith}
use Rattle.lane_models.specs.ClientState.{ClientState}
use Rattle.lane_models.specs.ClientStep.{ClientAdmits}
use Rattle.lane_models.specs.DiskEvent.{Admitted}
use Rattle.lane_laws.proofs.RemainingClientPuts.{ClientFalls}
use Rattle.lane_laws.specs.Budget.{infos_begun}
use Rattle.lane_laws.specs.Remaining.{client_packets}

-- the client put so many packets: as many fewer are left to put, or as many more INFO were begun
abbrev pub ClientFlies : ℕ → ClientState → ClientState → Type 0
ClientFlies put c t = client_packets t + put + infos_begun c.session ≤ client_packets c + infos_begun t.session

pub falls_fly : (put by : ℕ) (s t : ClientState) → ClientFalls put by s t → ClientFlies put s t
falls_fly put by s t falls = omega (arith, falls.packets, falls.spends.infos)

-- WHAT IT IS ASKED
pub client_admits_flies : (s : ClientState) (event : Admitted) (t : ClientState) → ClientAdmits s event t → ClientFlies 0 s t
client_admits_flies s event t admits = grind arith
