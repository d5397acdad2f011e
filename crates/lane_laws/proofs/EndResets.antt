-- A packet for which an end resets itself says why, and a reset without one has a cause that lies in no packet.
use Rattle.std.proofs.Common.{◌≡◌, ℕ, Option, Some, None, List, sym, subst, inl, inr}
use Rattle.std.specs.Prelude.{Ok, ⊤}
use Rattle.dring.specs.declared.peer.RingFault.{RingFault}
use Rattle.dring.specs.declared.peer.RingFault.TheVariants as refused
use Rattle.ldc_link.specs.Following.{Follows}
use Rattle.ldc_link.specs.LinkState.{cleared, LinkState}
use Rattle.ldc_link.specs.Taking.{Heard, LinkTake, TakesBytes, Unheard}
use Rattle.ldc_packet.specs.Fault.{first_fault}
use Rattle.ldc_queue.specs.Transcript.{Utterance}
use Rattle.vio_tag.specs.declared.cause.Cause.{Cause}
use Rattle.vio_tag.specs.declared.cause.Cause.TheVariants as the_cause
use Rattle.vio_tag.specs.declared.message.Message.{Message}
use Rattle.vio_tag.specs.Decoding.{Decodes}
use Rattle.vio_tag.proofs.NoFault.{spelled_no_fault}
use Rattle.lane_models.specs.ResetSays.{ResetSays}
use Rattle.lane_models.specs.WireAt.{GapOf}
use Rattle.lane_models.specs.ClientRule as client_rule
use Rattle.lane_models.specs.ClientState.{ClientState}
use Rattle.lane_models.specs.ClientStep.{ClientFails}
use Rattle.lane_models.specs.ClientTaking as client
use Rattle.lane_models.specs.ServerRule as server_rule
use Rattle.lane_models.specs.ServerState.{Ends, Progress, ServerSession, ServerState, Work}
use Rattle.lane_models.specs.ServerStep.{ServerFails, WorkFails}
use Rattle.lane_models.specs.ServerTaking as server
use Rattle.cookie_copy.specs.Reach.{Reach}
use Rattle.lane_models.specs.ServerWork.{EndFails, FetchFails, cause_of, slot_at}
use Rattle.lane_models.proofs.Numbering.{heard_so}
use Rattle.lane_laws.proofs.ClientAnswers as client_answers
use Rattle.lane_laws.proofs.MessageResets.{client_says_why, server_says_why}
use Rattle.lane_laws.proofs.ServerAnswers as server_answers
use Rattle.lane_models.proofs.HandshakeResets.{HandshakeWhy, Spelled, handshake_why}
use Rattle.lane_models.specs.Resetting.{LiesInPacket, SaysWhy}
use Rattle.lane_models.proofs.UtteranceCases.{EndsBy, EndsWhole, hears_on}
use Rattle.lane_models.proofs.Resets.{by_message}
use Rattle.lane_models.proofs.LinkResets.{link_why}
use Rattle.lane_models.proofs.LinkCases.{link_heard}

-- the message that became whole
ends_when : (turns : List Utterance) (bytes : List ℕ) (k m : LinkState) (message : List ℕ) → Follows k turns → k.whole ≡ None → TakesBytes k bytes (Heard m) → m.whole ≡ Some message
    → EndsBy turns bytes message
ends_when turns bytes k m message follows none takes is = subst (EndsWhole turns bytes) is (hears_on k m turns bytes none follows (link_heard k m bytes takes)).ends

spelled_by : (bytes : List ℕ) (message : Message) → Decodes bytes (Ok message) → Spelled bytes message
spelled_by bytes message decodes = record { sound = spelled_no_fault bytes message decodes.message.0 decodes.message.1; spells = decodes.message.1 }

-- THE CLIENT
abbrev ClientWhy : List Utterance → List ℕ → client.ClientTake → Type 0
ClientWhy turns packet (client.GoesOn t) = ⊤
ClientWhy turns packet (client.Resets cause) = SaysWhy turns packet cause

client_why : (turns : List Utterance) (packet : List ℕ) (s : ClientState) (k : LinkState) → first_fault packet ≡ None → ((bytes : List ℕ) → k.whole ≡ Some bytes → EndsBy turns packet bytes)
    → client_answers.Hearings s k (ClientWhy turns packet)
client_why turns packet s k sound ends = record {
  none = λ none. tt;
  some = λ bytes message whole decodes. record {
    goes = λ opens h to. tt;
    faults = λ cause is. by_message turns packet bytes cause sound (ends bytes whole)
        (subst (HandshakeWhy bytes) is (handshake_why bytes s.handshake message (spelled_by bytes message decodes)));
    acks = λ a. tt;
    refuses = λ cause refuses. by_message turns packet bytes cause sound (ends bytes whole) (client_says_why bytes message s cause (spelled_by bytes message decodes) refuses);
  };
  tags = λ bytes fault whole decodes. by_message turns packet bytes (the_cause.Tag fault) sound (ends bytes whole) decodes.fault;
}

client_link : (turns : List Utterance) (bytes : List ℕ) (s : ClientState) (link : LinkTake) (cause : Cause) → Follows s.link turns → s.link.whole ≡ None → TakesBytes s.link bytes link
    → client.HearsLink s link (client.Resets cause) → SaysWhy turns bytes cause
client_link turns bytes s (Heard k) cause follows none takes hears =
    client_answers.comes_to s k (ClientWhy turns bytes) (client.Resets cause) (client_why turns bytes s k (heard_so s.link turns bytes k follows takes).sound
    (λ message is. ends_when turns bytes s.link k message follows none takes is)) hears
client_link turns bytes s (Unheard other) cause follows none takes hears =
    let same : cause ≡ other = cc in link_why turns bytes s.link cause follows (subst (λ (c : Cause). TakesBytes s.link bytes (Unheard c)) (sym same) takes)

abbrev pub LiesIn : Option (List ℕ) → Cause → Type 0
LiesIn None cause = ⊤
LiesIn (Some packet) cause = LiesInPacket cause

pub record WhyReset (turns : List Utterance) (packet : Option (List ℕ)) (cause : Cause) : Type 0 where
  pub says : ResetSays turns packet cause
  pub gap : GapOf turns cause packet
  pub carried : LiesIn packet cause

pub client_fails : (turns : List Utterance) (rule : client_rule.ClientRule) (s : ClientState) (memory : List ℕ) (cause : Cause) (packet : Option (List ℕ)) → Follows s.link turns
    → s.link.whole ≡ None → ClientFails rule s memory cause packet → WhyReset turns packet cause
client_fails turns (client_rule.Takes bytes) s memory cause packet follows none fails =
    let why = client_link turns bytes s fails.1.link cause follows none fails.1.takes fails.1.hears in
    subst (λ (p : Option (List ℕ)). WhyReset turns p cause) (sym fails.0) (record { says = why.says; gap = why.gap; carried = why.carried })
client_fails turns (client_rule.Completes session) s memory cause packet follows none fails =
    subst (λ (p : Option (List ℕ)). WhyReset turns p cause) (sym fails.0)
    (subst (λ (c : Cause). WhyReset turns None c) (sym fails.2) (record { says = tt; gap = tt; carried = tt }))
client_fails turns _ s memory cause packet follows none fails = absurd fails

-- THE SERVER
abbrev ServerWhy : List Utterance → List ℕ → server.ServerTake → Type 0
ServerWhy turns packet (server.GoesOn t opens) = ⊤
ServerWhy turns packet (server.Resets cause) = SaysWhy turns packet cause

server_why : (turns : List Utterance) (packet : List ℕ) (s : ServerState) (k : LinkState) → first_fault packet ≡ None → ((bytes : List ℕ) → k.whole ≡ Some bytes → EndsBy turns packet bytes)
    → server_answers.Hearings s k (ServerWhy turns packet)
server_why turns packet s k sound ends =
    let x : ServerState = server_answers.heard_on s k (cleared k) in
    record {
      none = λ none. tt;
      some = λ bytes message whole decodes. record {
        goes = λ opens h to. tt;
        faults = λ cause is. by_message turns packet bytes cause sound (ends bytes whole)
            (subst (HandshakeWhy bytes) is (handshake_why bytes x.handshake message (spelled_by bytes message decodes)));
        asks = λ a. tt;
        refuses = λ cause refuses. by_message turns packet bytes cause sound (ends bytes whole) (server_says_why bytes message x cause (spelled_by bytes message decodes) refuses);
      };
      tags = λ bytes fault whole decodes. by_message turns packet bytes (the_cause.Tag fault) sound (ends bytes whole) decodes.fault;
    }

server_link : (turns : List Utterance) (bytes : List ℕ) (s : ServerState) (link : LinkTake) (cause : Cause) → Follows s.link turns → s.link.whole ≡ None → TakesBytes s.link bytes link
    → server.HearsLink s link (server.Resets cause) → SaysWhy turns bytes cause
server_link turns bytes s (Heard k) cause follows none takes hears =
    server_answers.comes_to s k (ServerWhy turns bytes) (server.Resets cause) (server_why turns bytes s k (heard_so s.link turns bytes k follows takes).sound
    (λ message is. ends_when turns bytes s.link k message follows none takes is)) hears
server_link turns bytes s (Unheard other) cause follows none takes hears =
    let same : cause ≡ other = cc in link_why turns bytes s.link cause follows (subst (λ (c : Cause). TakesBytes s.link bytes (Unheard c)) (sym same) takes)

by_copy : (turns : List Utterance) (fault : ℕ) (cause : Cause) → cause ≡ the_cause.Copy fault → WhyReset turns None cause
by_copy turns fault cause is = subst (λ (c : Cause). WhyReset turns None c) (sym is) (record { says = tt; gap = tt; carried = tt })

by_ring : (turns : List Utterance) (slot : ℕ) (why : RingFault) → WhyReset turns None (cause_of slot why)
by_ring turns slot (refused.Copy fault) = record { says = tt; gap = tt; carried = tt }
by_ring turns slot (refused.NotReady state) = record { says = tt; gap = tt; carried = tt }

by_fetch : (turns : List Utterance) (s : ServerState) (reach : Reach) (slot : ℕ) (cause : Cause) → FetchFails s reach slot cause → WhyReset turns None cause
by_fetch turns s reach slot cause (inl fails) = subst (λ (c : Cause). WhyReset turns None c) (sym fails.2) (by_ring turns slot fails.0)
by_fetch turns s reach slot cause (inr fails) = by_copy turns _ cause fails.3

by_end : (turns : List Utterance) (s : ServerState) (reach : Reach) (slot : ℕ) (work : Work) (status : ℕ) (cause : Cause) (new : List ℕ) → EndFails s reach slot work status cause new
    → WhyReset turns None cause
by_end turns s reach slot work status cause new (inl fails) = by_copy turns _ cause fails.2
by_end turns s reach slot work status cause new (inr fails) = by_copy turns _ cause fails.3

by_work : (turns : List Utterance) (p : Progress) (s : ServerState) (session : ServerSession) (work : Work) (reach : Reach) (cause : Cause) (new : List ℕ)
    → WorkFails p s session work reach cause new → WhyReset turns None cause
by_work turns (Ends status) s session work reach cause new fails = by_end turns s reach (slot_at s session.finished) work status cause new fails
by_work turns _ s session work reach cause new fails = absurd fails

pub server_fails : (turns : List Utterance) (rule : server_rule.ServerRule) (s : ServerState) (reach : Reach) (cause : Cause) (packet : Option (List ℕ)) (new : List ℕ) → Follows s.link turns
    → s.link.whole ≡ None → ServerFails rule s reach cause packet new → WhyReset turns packet cause
server_fails turns (server_rule.Takes bytes) s reach cause packet new follows none fails =
    let why = server_link turns bytes s fails.1.link cause follows none fails.1.takes fails.1.hears in
    subst (λ (p : Option (List ℕ)). WhyReset turns p cause) (sym fails.0) (record { says = why.says; gap = why.gap; carried = why.carried })
server_fails turns (server_rule.Fetches session) s reach cause packet new follows none fails =
    subst (λ (p : Option (List ℕ)). WhyReset turns p cause) (sym fails.0) (by_fetch turns s reach (slot_at s session.descs) cause fails.1)
server_fails turns (server_rule.Serves session work) s reach cause packet new follows none fails =
    subst (λ (p : Option (List ℕ)). WhyReset turns p cause) (sym fails.0) (by_work turns work.progress s session work reach cause new fails.1)
server_fails turns _ s reach cause packet new follows none fails = absurd fails
