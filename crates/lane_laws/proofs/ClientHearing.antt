-- A client that takes a packet keeps its requests and what its session counts, but for what is acknowledged by it.
use Rattle.std.proofs.Common.{◌≡◌, ℕ, List, length, refl, sym, ap, ◌∙◌, subst, arith}
use Rattle.std.specs.Prelude.{is_some, ⊤}
use Rattle.ldc_link.specs.LinkState.{LinkState, cleared}
use Rattle.vio_tag.specs.declared.message.Message.{Message}
use Rattle.lane_models.specs.ClientPutting.{is_announcing}
use Rattle.lane_models.specs.ClientState.{ClientState}
use Rattle.lane_models.specs.ClientTaking.{ClientTake, ClientTakes, GoesOn, Resets}
use Rattle.lane_models.proofs.EndStanding.{heard_leaves}
use Rattle.lane_laws.proofs.ClientAnswers.{Answers, comes_to, goes_by}
use Rattle.lane_laws.specs.Standing.{SessionStands}
use Rattle.lane_laws.specs.Sound.{ClientSound, CountsInOrder}

pub record TakenBy (s t : ClientState) : Type 0 where
  pub sends : t.link.to_send ≡ s.link.to_send
  pub slots : t.slots ≡ s.slots
  pub pending : t.pending ≡ s.pending
  pub next : t.next_id ≡ s.next_id
  pub blocks : t.blocks ≡ s.blocks
  pub own : is_announcing t.session ≡ is_announcing s.session
  pub opened : is_some t.session ≡ is_some s.session
  pub counts : CountsInOrder (length s.pending) s.session → CountsInOrder (length s.pending) t.session
  pub keeps : (done : ℕ) → SessionStands done s.session → SessionStands done t.session

abbrev TookBy : ClientState → ClientTake → Type 0
TookBy s (GoesOn t) = TakenBy s t
TookBy s (Resets cause) = ⊤

answers : (s : ClientState) (k : LinkState) (message : Message) → k.to_send ≡ s.link.to_send → Answers s k message (TookBy s)
answers s k message sends = grind arith

pub took_by : (s : ClientState) (packet : List ℕ) (t : ClientState) → ClientTakes s packet (GoesOn t) → TakenBy s t
took_by s packet t takes =
    let by = goes_by s packet t takes in
    let left = (heard_leaves s.link by.link packet by.takes).left in
    comes_to s by.link (TookBy s) (GoesOn t) (record {
      none = λ none.
          record { sends = left; slots = refl; pending = refl; next = refl; blocks = refl; own = refl; opened = refl; counts = λ counts. counts; keeps = λ done stands. stands };
      some = λ bytes message whole decodes. answers s (cleared by.link) message left;
      tags = λ bytes fault whole decodes. tt;
    }) by.hears

pub client_takes : (s : ClientState) (packet : List ℕ) (t : ClientState) → ClientSound s → ClientTakes s packet (GoesOn t) → ClientSound t
client_takes s packet t sound takes =
    let taken = took_by s packet t takes in
    let pending : length s.pending ≡ length t.pending = ap length (sym taken.pending) in
    record {
      own = λ own. omega (arith, ap length taken.sends, sound.own (sym taken.own ∙ own));
      slots = omega (arith, taken.slots, sound.slots);
      pending = omega (arith, taken.slots, pending, sound.pending);
      counts = subst (λ (n : ℕ). CountsInOrder n t.session) pending (taken.counts sound.counts);
    }
