-- What the proofs of both ends share.
use Rattle.std.proofs.Common.{◌≡◌, ℕ, ◌≤◌, Option, Some, subst, arith, None}
use Rattle.lane_models.specs.ClientState.{ClientSession}
use Rattle.lane_laws.specs.Budget.{infos_left}
use Rattle.lane_laws.specs.Sound.{CountsInOrder, SessionInOrder}

-- the counts of a session that is open
pub in_order : (pending : ℕ) (open_one : Option ClientSession) (session : ClientSession) → open_one ≡ Some session → CountsInOrder pending open_one → SessionInOrder pending session
in_order pending open_one session is counts = subst (CountsInOrder pending) is counts

-- never more INFO than the ring has slots
pub infos_few : (slots pending : ℕ) (session : Option ClientSession) → CountsInOrder pending session → infos_left slots session ≤ slots
infos_few slots pending None counts = omega arith
infos_few slots pending (Some s) counts = omega (arith, counts.acked)
