-- A client whose link gets a message to put: what always holds of it holds.
use Rattle.std.proofs.Common.{◌≡◌, ℕ, ◌≤◌, ◌<◌, Bool, true, false, Some, List, [], length, refl, ap, arith}
use Rattle.ldc_queue.specs.declared.end.ChannelState.TheVariants.{Up}
use Rattle.vio_tag.specs.declared.message.Message.{Message}
use Rattle.lane_models.specs.ClientPutting.{announcement, announcing, client_holds, holding}
use Rattle.lane_models.specs.ClientRule.{ClientRule}
use Rattle.lane_models.specs.ClientState.{ClientSession, ClientState}
use Rattle.lane_models.specs.Seeing.{Seen}
use Rattle.lane_models.proofs.Short.{some_bytes}
use Rattle.lane_laws.specs.RuleFacts.{ClientMay}
use Rattle.lane_laws.specs.Sound.{ClientSound}

-- an INFO has 56 bytes
-- an end that holds nothing holds no INFO
pub not_own : (b : Bool) (xs : List ℕ) → (b ≡ true → 1 ≤ length xs) → xs ≡ [] → b ≡ false
not_own true xs own empty = absurd (omega (arith, own refl, ap length empty))
not_own false xs own empty = refl

says_held : (s : ClientState) (message : Message) → ClientSound s → ClientSound (holding message s)
says_held s message sound = record { own = λ own. some_bytes message; slots = sound.slots; pending = sound.pending; counts = sound.counts }

announces_held : (s : ClientState) (session : ClientSession) → ClientSound s → s.session ≡ Some session → session.announced < session.published
    → ClientSound (announcing session (holding (announcement s session) s))
announces_held s session sound is more = grind (arith, some_bytes)

pub client_held : (s : ClientState) (at : Seen) (rule : ClientRule) (held : ClientState) → ClientMay s at rule → client_holds rule s ≡ Some held → ClientSound s → ClientSound held
client_held s at rule held may is sound = grind (arith, says_held, announces_held)

-- where the rule puts at all, the end is up
pub holds_up : (s : ClientState) (at : Seen) (rule : ClientRule) (held : ClientState) → ClientMay s at rule → client_holds rule s ≡ Some held → at.state ≡ Up
holds_up s at rule held may is = grind arith
