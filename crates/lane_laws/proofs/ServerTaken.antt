-- What a server makes of a packet that it takes, where it doesn't reset itself: no message is whole by it, or one of the handshake is, or a
-- range of slots that it is asked for.
use Rattle.std.proofs.Common.{◌≡◌, ℕ, Bool, true, false, Option, None, List, ◌∷◌, refl, sym, ap, ◌∙◌, subst, ◌⊎◌, inl, inr}
use Rattle.std.specs.Prelude.{◌&&◌, not, if◌then◌else◌, ⊤}
use Rattle.ldc_link.specs.Following.{Follows}
use Rattle.ldc_link.specs.LinkState.{LinkState, cleared, is_up}
use Rattle.ldc_queue.specs.Transcript.{Heard as Heard_, Utterance}
use Rattle.vio_tag.specs.declared.message.Message.{Message}
use Rattle.vio_handshake.specs.declared.handshake.Handshake.{Handshake}
use Rattle.vio_handshake.specs.State.{handshake_up}
use Rattle.lane_models.specs.EndPuts.{handshake_risen}
use Rattle.lane_models.specs.ServerState.{ServerState}
use Rattle.lane_models.specs.ServerTaking.{GoesOn, Resets, ServerTake, ServerTakes, asked}
use Rattle.lane_models.specs.Sayings.{heard}
use Rattle.lane_laws.proofs.ClientTaken.{HearsMessage, took_to, was_up}
use Rattle.lane_laws.proofs.ServerAnswers.{Answers, Asks, GoesBy, comes_to, goes_by, opened_or}
use Rattle.lane_models.proofs.EndStanding.{heard_leaves}
use Rattle.lane_models.proofs.EndCases.{HearsUp, link_hears}
use Rattle.lane_models.proofs.HandshakeCases.{HandshakeTook}
use Rattle.lane_models.proofs.UtteranceCases.{with_whole}

pub record ServerHearsPart (s : ServerState) (turns : List Utterance) (packet : List ℕ) (t : ServerState) (opens : Bool) : Type 0 where
  pub link : LinkState
  pub left : link.to_send ≡ s.link.to_send
  pub up : is_up s.link ≡ true → is_up link ≡ true
  pub messages : heard (Heard_ packet ∷ turns) ≡ heard turns
  pub is : t ≡ record s { link = link; handshake = handshake_risen s.link link s.handshake }
  pub opens_is : opens ≡ false

pub record ServerHandshakes (s : ServerState) (turns : List Utterance) (packet : List ℕ) (t : ServerState) (opens : Bool) : Type 0 where
  pub link : LinkState
  pub left : link.to_send ≡ s.link.to_send
  pub up : is_up s.link ≡ true
  pub stays : is_up link ≡ true
  pub message : Message
  pub hears : HearsMessage turns packet message
  pub handshake : Handshake
  pub took : HandshakeTook s.handshake message handshake opens
  pub is : t ≡ record s { link = link; handshake = handshake; session = opened_or opens s.session }

pub record ServerAsked (s : ServerState) (turns : List Utterance) (packet : List ℕ) (t : ServerState) (opens : Bool) : Type 0 where
  pub link : LinkState
  pub left : link.to_send ≡ s.link.to_send
  pub up : is_up s.link ≡ true
  pub stays : is_up link ≡ true
  pub message : Message
  pub hears : HearsMessage turns packet message
  pub info : Asks (record s { link = link }) message
  pub is : t ≡ asked (record s { link = link }) info.session info.range
  pub opens_is : opens ≡ false

abbrev pub ServerTook : ServerState → List Utterance → List ℕ → ServerState → Bool → Type 0
ServerTook s turns packet t opens = ServerHearsPart s turns packet t opens ⊎ (ServerHandshakes s turns packet t opens ⊎ ServerAsked s turns packet t opens)

abbrev TookOn : ServerState → List Utterance → List ℕ → ServerTake → Type 0
TookOn s turns packet (GoesOn t opens) = ServerTook s turns packet t opens
TookOn s turns packet (Resets cause) = ⊤

answers : (s : ServerState) (turns : List Utterance) (packet : List ℕ) (k : LinkState) (message : Message) → k.to_send ≡ s.link.to_send → is_up s.link ≡ true → is_up k ≡ true
    → HearsMessage turns packet message → Answers (record s { link = k }) message (TookOn s turns packet)
answers s turns packet k message left up stays hears = record {
  goes = λ opens h to. inr (inl (record { link = k; left = left; up = up; stays = stays; message = message; hears = hears; handshake = h; took = took_to s.handshake message opens h to; is = refl }));
  faults = λ cause is. tt;
  asks = λ a. inr (inr (record { link = k; left = left; up = up; stays = stays; message = message; hears = hears; info = a; is = refl; opens_is = refl }));
  refuses = λ cause refuses. tt;
}

-- a link that was up rises no more
pub still : (b : Bool) (c : Bool) (h : Handshake) → c ≡ true → (if b && not c then handshake_up h else h) ≡ h
still true true h is = refl
still true false h is = absurd (cc)
still false c h is = refl

pub server_took_what : (s : ServerState) (turns : List Utterance) (packet : List ℕ) (t : ServerState) (opens : Bool) → Follows s.link turns → s.link.whole ≡ None
    → ServerTakes s packet (GoesOn t opens) → ServerTook s turns packet t opens
server_took_what s turns packet t opens follows none takes =
    let by : GoesBy s packet t opens = goes_by s packet t opens takes in
    let left = (heard_leaves s.link by.link packet by.takes).left in
    let on : HearsUp s.link by.link turns packet = link_hears s.link by.link turns packet none follows by.takes in
    comes_to s by.link (TookOn s turns packet) (GoesOn t opens) (record {
      none = λ nothing. inl (record {
        link = by.link;
        left = left;
        up = on.up;
        messages = on.on.messages ∙ ap (λ (w : Option (List ℕ)). with_whole w (heard turns)) nothing;
        is = refl;
        opens_is = refl;
      });
      some = λ bytes message whole decodes.
          (let up : is_up s.link ≡ true = was_up (is_up s.link) by.link.whole bytes on.quiet whole in
          let same : handshake_risen s.link by.link s.handshake ≡ s.handshake = still (is_up by.link) (is_up s.link) s.handshake up in
          subst (λ (h : Handshake). Answers (record s { link = cleared by.link; handshake = h }) message (TookOn s turns packet)) (sym same)
          (answers s turns packet (cleared by.link) message left up (on.up up) (record {
            bytes = bytes;
            messages = on.on.messages ∙ ap (λ (w : Option (List ℕ)). with_whole w (heard turns)) whole;
            form = decodes.message.0;
            spells = decodes.message.1;
          })));
      tags = λ bytes fault whole decodes. tt;
    }) by.hears
