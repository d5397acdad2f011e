-- What each step of a client is to what always holds of it.
use Rattle.std.proofs.Common.{◌≡◌, ℕ, ◌+◌, ◌≤◌, ◌<◌, Bool, Some, List, [], ◌∷◌, length, sym, subst, arith, length-append, ◌++◌}
use Rattle.std.specs.Prelude.{slice_get}
use Rattle.vdisk_msg.specs.declared.request.Request.{Request}
use Rattle.lane_models.specs.ClientPutting.{client_holds}
use Rattle.lane_models.specs.ClientRule.{client_rule}
use Rattle.lane_models.specs.ClientState.{ClientState, joined_client}
use Rattle.lane_models.specs.ClientStep.{ClientAdmits, ClientCompletes, ClientPublishes, ClientSends}
use Rattle.lane_models.specs.DiskEvent.{Admitted}
use Rattle.lane_models.specs.Seeing.{Seen}
use Rattle.lane_laws.proofs.ClientHolding.{client_held}
use Rattle.lane_laws.proofs.ClientSending.{client_put_sound}
use Rattle.lane_laws.proofs.Ruling.{client_may}
use Rattle.lane_laws.specs.Sound.{ClientSound}
use Rattle.lane_laws.proofs.Requesting.{got_below}

-- it begins
pub client_joined : (c : ClientState) → ClientSound c → ClientSound (joined_client c)
client_joined c sound = record { own = λ own. absurd (cc); slots = sound.slots; pending = sound.pending; counts = tt }

-- its link holds a message, which isn't put, or of which a packet is
pub client_blocked : (s : ClientState) (at : Seen) (t : ClientState) → ClientSound s → client_holds (client_rule s at) s ≡ Some t → ClientSound t
client_blocked s at t sound holds = client_held s at (client_rule s at) t (client_may s at) holds sound

pub client_sends : (s : ClientState) (at : Seen) (memory packet : List ℕ) (opens : Bool) (t : ClientState) (new : List ℕ) → ClientSound s
    → ClientSends s at memory packet opens t new → ClientSound t
client_sends s at memory packet opens t new sound sends =
    subst ClientSound (sym sends.is) (client_put_sound sends.held (client_blocked s at sends.held sound sends.holds))

-- it goes on without its link: requests, and the work on them
accepted_sound : (s : ClientState) (request : Request) → length s.pending < s.slots → ClientSound s
    → ClientSound (record s { pending = s.pending ++ request ∷ []; next_id = s.next_id + 1 })
accepted_sound s request room sound = grind (arith, length-append)

pub client_admits : (s : ClientState) (event : Admitted) (t : ClientState) → ClientSound s → ClientAdmits s event t → ClientSound t
client_admits s event t sound admits = grind (arith, accepted_sound)

pub client_publishes : (s : ClientState) (at : Seen) (memory : List ℕ) (id : ℕ) (t : ClientState) (new : List ℕ) → ClientSound s → ClientPublishes s at memory id t new
    → ClientSound t
client_publishes s at memory id t new sound step = grind (arith, client_may, got_below)

-- one that is done was pending
pub front_some : (pending : List Request) (request : Request) → slice_get pending 0 ≡ Some request → 1 ≤ length pending
front_some [] request is = absurd (cc)
front_some (one ∷ pending) request is = omega arith

pub client_completes : (s : ClientState) (at : Seen) (memory : List ℕ) (id operation status : ℕ) (bytes : List ℕ) (t : ClientState) (new : List ℕ) → ClientSound s
    → ClientCompletes s at memory id operation status bytes t new → ClientSound t
client_completes s at memory id operation status bytes t new sound step = grind (arith, client_may)
