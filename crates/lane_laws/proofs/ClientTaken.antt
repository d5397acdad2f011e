-- What a client makes of a packet that it takes, where it doesn't reset itself: no message is whole by it, or one of the handshake is, or
-- an acknowledgement of its ranges.
use Rattle.std.proofs.Common.{◌≡◌, ℕ, Bool, true, false, Some, None, List, [], ◌∷◌, ◌++◌, refl, sym, ap, ◌∙◌, Option, ◌⊎◌, inl, inr}
use Rattle.std.specs.Prelude.{⊤}
use Rattle.ldc_link.specs.Following.{Follows}
use Rattle.ldc_link.specs.LinkState.{LinkState, cleared, is_up}
use Rattle.ldc_queue.specs.Transcript.{Heard as Heard_, Utterance}
use Rattle.vio_tag.specs.declared.message.Message.{Message}
use Rattle.vio_tag.specs.Form.{IsWellFormed}
use Rattle.vio_tag.specs.Spelling.{SpellsMessage}
use Rattle.vio_handshake.specs.declared.handshake.Handshake.{Handshake}
use Rattle.vio_handshake.specs.Rules.{handshake_take}
use Rattle.lane_models.specs.ClientState.{ClientState}
use Rattle.lane_models.specs.ClientTaking.{ClientTake, ClientTakes, GoesOn, Resets, acknowledged}
use Rattle.dring.specs.Slots.{range_length}
use Rattle.lane_models.specs.Sayings.{heard}
use Rattle.lane_laws.proofs.ClientAnswers.{Acks, Answers, GoesBy, HandshakesTo, comes_to, goes_by}
use Rattle.lane_models.proofs.Apart.{none_is_some}
use Rattle.lane_models.proofs.EndStanding.{heard_leaves}
use Rattle.lane_models.proofs.EndCases.{HearsUp, link_hears}
use Rattle.lane_models.proofs.HandshakeCases.{HandshakeTook, goes_took, opens_took}
use Rattle.lane_models.proofs.UtteranceCases.{with_whole}

-- a message is whole by the packet
pub record HearsMessage (turns : List Utterance) (packet : List ℕ) (message : Message) : Type 0 where
  pub bytes : List ℕ
  pub messages : heard (Heard_ packet ∷ turns) ≡ heard turns ++ bytes ∷ []
  pub form : IsWellFormed message
  pub spells : SpellsMessage bytes message

pub record ClientHearsPart (s : ClientState) (turns : List Utterance) (packet : List ℕ) (t : ClientState) : Type 0 where
  pub link : LinkState
  pub left : link.to_send ≡ s.link.to_send
  pub up : is_up s.link ≡ true → is_up link ≡ true
  pub messages : heard (Heard_ packet ∷ turns) ≡ heard turns
  pub is : t ≡ record s { link = link }

pub record ClientHandshakes (s : ClientState) (turns : List Utterance) (packet : List ℕ) (t : ClientState) : Type 0 where
  pub link : LinkState
  pub left : link.to_send ≡ s.link.to_send
  pub up : is_up s.link ≡ true
  pub stays : is_up link ≡ true
  pub message : Message
  pub hears : HearsMessage turns packet message
  pub opens : Bool
  pub handshake : Handshake
  pub took : HandshakeTook s.handshake message handshake opens
  pub is : t ≡ record s { link = link; handshake = handshake }

pub record ClientAcked (s : ClientState) (turns : List Utterance) (packet : List ℕ) (t : ClientState) : Type 0 where
  pub link : LinkState
  pub left : link.to_send ≡ s.link.to_send
  pub up : is_up s.link ≡ true
  pub stays : is_up link ≡ true
  pub message : Message
  pub hears : HearsMessage turns packet message
  pub ack : Acks s message
  pub is : t ≡ acknowledged (record s { link = link }) ack.session (range_length s.slots ack.start ack.end)

abbrev pub ClientTook : ClientState → List Utterance → List ℕ → ClientState → Type 0
ClientTook s turns packet t = ClientHearsPart s turns packet t ⊎ (ClientHandshakes s turns packet t ⊎ ClientAcked s turns packet t)

abbrev TookOn : ClientState → List Utterance → List ℕ → ClientTake → Type 0
TookOn s turns packet (GoesOn t) = ClientTook s turns packet t
TookOn s turns packet (Resets cause) = ⊤

-- what its handshake makes of it
pub took_to : (h : Handshake) (message : Message) (opens : Bool) (g : Handshake) → HandshakesTo h (handshake_take h message) opens g → HandshakeTook h message g opens
took_to h message false g is = goes_took h g message is
took_to h message true g is = opens_took h g message is

-- a message is whole where the link was up
pub was_up : (up : Bool) (whole : Option (List ℕ)) (bytes : List ℕ) → (up ≡ false → whole ≡ None) → whole ≡ Some bytes → up ≡ true
was_up true whole bytes quiet is = refl
was_up false whole bytes quiet is = none_is_some (sym (quiet refl) ∙ is)

answers : (s : ClientState) (turns : List Utterance) (packet : List ℕ) (k : LinkState) (message : Message) → k.to_send ≡ s.link.to_send → is_up s.link ≡ true → is_up k ≡ true
    → HearsMessage turns packet message → Answers s k message (TookOn s turns packet)
answers s turns packet k message left up stays hears = record {
  goes = λ opens h to.
      inr (inl (record { link = k; left = left; up = up; stays = stays; message = message; hears = hears; opens = opens; handshake = h; took = took_to s.handshake message opens h to; is = refl }));
  faults = λ cause is. tt;
  acks = λ a. inr (inr (record { link = k; left = left; up = up; stays = stays; message = message; hears = hears; ack = a; is = refl }));
  refuses = λ cause refuses. tt;
}

pub client_took_what : (s : ClientState) (turns : List Utterance) (packet : List ℕ) (t : ClientState) → Follows s.link turns → s.link.whole ≡ None
    → ClientTakes s packet (GoesOn t) → ClientTook s turns packet t
client_took_what s turns packet t follows none takes =
    let by : GoesBy s packet t = goes_by s packet t takes in
    let left = (heard_leaves s.link by.link packet by.takes).left in
    let on : HearsUp s.link by.link turns packet = link_hears s.link by.link turns packet none follows by.takes in
    comes_to s by.link (TookOn s turns packet) (GoesOn t) (record {
      none = λ nothing. inl (record {
        link = by.link;
        left = left;
        up = on.up;
        messages = on.on.messages ∙ ap (λ (w : Option (List ℕ)). with_whole w (heard turns)) nothing;
        is = refl;
      });
      some = λ bytes message whole decodes.
          (let up : is_up s.link ≡ true = was_up (is_up s.link) by.link.whole bytes on.quiet whole in
          answers s turns packet (cleared by.link) message left up (on.up up) (record {
            bytes = bytes;
            messages = on.on.messages ∙ ap (λ (w : Option (List ℕ)). with_whole w (heard turns)) whole;
            form = decodes.message.0;
            spells = decodes.message.1;
          }));
      tags = λ bytes fault whole decodes. tt;
    }) by.hears
