-- What the packets of a client leave of its session's places, and what those of a server leave of its descriptor in work.
use Rattle.std.proofs.Common.{◌≡◌, ℕ, Bool, true, false, Option, Some, None, List, inl, inr, refl, sym, ap, ◌∙◌, subst, arith}
use Rattle.ldc_link.specs.Following.{Follows}
use Rattle.ldc_queue.specs.Transcript.{Utterance}
use Rattle.lane_models.specs.ClientPutting.{client_holds, client_kind, opened_if, session_behind}
use Rattle.lane_models.specs.ClientRule as client
use Rattle.lane_models.specs.ClientState.{ClientSession, ClientState, first_id, opened_session}
use Rattle.lane_models.specs.ClientStep.{ClientSends}
use Rattle.lane_models.specs.ClientTaking.{ClientTakes, GoesOn}
use Rattle.lane_models.specs.EndPuts.{EndsHandshake, PutKind, put_opens}
use Rattle.lane_models.specs.Seeing.{Seen}
use Rattle.lane_models.specs.ServerPutting.{server_holds}
use Rattle.lane_models.specs.ServerRule as server
use Rattle.lane_models.specs.ServerState.{ServerState}
use Rattle.lane_models.specs.ServerStep.{ServerSends}
use Rattle.lane_models.specs.ServerTaking.{ServerTakes, GoesOn as ServerGoesOn}
use Rattle.lane_laws.proofs.ServerSpeaking.{server_holds_link}
use Rattle.lane_laws.proofs.ClientTaken.{ClientTook, client_took_what}
use Rattle.lane_laws.proofs.Ruling.{client_may}
use Rattle.lane_laws.proofs.ServerTaken.{ServerTook, server_took_what}
use Rattle.lane_laws.specs.RuleFacts.{ClientMay}
use Rattle.lane_laws.proofs.Changes.{Keeps}

-- A SESSION'S PLACES that stay
pub keeps_same : (before now : Option ClientSession) → now ≡ before → Keeps before now
keeps_same before now same = λ session is. record { was = session; there = sym same ∙ is; completed = refl; published = refl }

pub keeps_some : (before : Option ClientSession) (one other : ClientSession) → before ≡ Some one → other.completed ≡ one.completed → other.published ≡ one.published → Keeps before (Some other)
keeps_some before one other there completed published = grind arith

pub keeps_both : (before middle now : Option ClientSession) → Keeps before middle → Keeps middle now → Keeps before now
keeps_both before middle now first second = λ session is.
    let late = second session is in
    let early = first late.was late.there in
    record { was = early.was; there = early.there; completed = late.completed ∙ early.completed; published = late.published ∙ early.published }

-- THE CLIENT
pub record ClientLeaves (c t : ClientState) : Type 0 where
  pub ever : t.ever_published ≡ c.ever_published
  pub keeps : Keeps c.session t.session

pub leaves_same : (c t : ClientState) → t ≡ c → ClientLeaves c t
leaves_same c t is = record { ever = ap (λ (x : ClientState). x.ever_published) is; keeps = keeps_same c.session t.session (ap (λ (x : ClientState). x.session) is) }

took_leaves : (c : ClientState) (turns : List Utterance) (packet : List ℕ) (t : ClientState) → ClientTook c turns packet t → ClientLeaves c t
took_leaves c turns packet t (inl part) =
    record { ever = ap (λ (x : ClientState). x.ever_published) part.is; keeps = keeps_same c.session t.session (ap (λ (x : ClientState). x.session) part.is) }
took_leaves c turns packet t (inr (inl handshakes)) =
    record { ever = ap (λ (x : ClientState). x.ever_published) handshakes.is; keeps = keeps_same c.session t.session (ap (λ (x : ClientState). x.session) handshakes.is) }
took_leaves c turns packet t (inr (inr acked)) = record {
  ever = ap (λ (x : ClientState). x.ever_published) acked.is;
  keeps = subst (λ (o : Option ClientSession). Keeps c.session o) (sym (ap (λ (x : ClientState). x.session) acked.is)) (keeps_some c.session acked.ack.session _ acked.ack.session_is refl refl);
}

pub client_took : (c : ClientState) (turns : List Utterance) (packet : List ℕ) (t : ClientState) → Follows c.link turns → c.link.whole ≡ None → ClientTakes c packet (GoesOn t) → ClientLeaves c t
client_took c turns packet t follows none takes = took_leaves c turns packet t (client_took_what c turns packet t follows none takes)

pub held_leaves : (c : ClientState) (at : Seen) (rule : client.ClientRule) (held : ClientState) → ClientMay c at rule → client_holds rule c ≡ Some held → ClientLeaves c held
held_leaves c at rule held may is = grind arith

put_keeps : (kind : PutKind) (c : ClientState) → put_opens kind c.handshake ≡ false → Keeps c.session (session_behind kind c)
put_keeps kind c is = grind arith

pub client_sent : (c : ClientState) (at : Seen) (memory packet : List ℕ) (t : ClientState) (new : List ℕ) → ClientSends c at memory packet false t new → ClientLeaves c t
client_sent c at memory packet t new sends =
    let held = held_leaves c at (client.client_rule c at) sends.held (client_may c at) sends.holds in
    record {
      ever = ap (λ (x : ClientState). x.ever_published) sends.is ∙ held.ever;
      keeps = subst (λ (o : Option ClientSession). Keeps c.session o) (sym (ap (λ (x : ClientState). x.session) sends.is))
          (keeps_both c.session sends.held.session (session_behind (client_kind sends.held) sends.held) held.keeps (put_keeps (client_kind sends.held) sends.held (sym sends.opens_is)));
    }

-- its session opens: nothing is published in it
opened_behind : (kind : PutKind) (c : ClientState) → put_opens kind c.handshake ≡ true → session_behind kind c ≡ Some (opened_session (first_id c))
opened_behind EndsHandshake c is = ap (λ (b : Bool). opened_if b c) is
opened_behind _ c is = absurd (cc is)

pub record ClientOpened (c t : ClientState) : Type 0 where
  pub ever : t.ever_published ≡ c.ever_published
  pub base : ℕ
  pub session : t.session ≡ Some (opened_session base)

pub client_opened : (c : ClientState) (at : Seen) (memory packet : List ℕ) (t : ClientState) (new : List ℕ) → ClientSends c at memory packet true t new → ClientOpened c t
client_opened c at memory packet t new sends =
    let held = held_leaves c at (client.client_rule c at) sends.held (client_may c at) sends.holds in
    record {
      ever = ap (λ (x : ClientState). x.ever_published) sends.is ∙ held.ever;
      base = first_id sends.held;
      session = ap (λ (x : ClientState). x.session) sends.is ∙ opened_behind (client_kind sends.held) sends.held (sym sends.opens_is);
    }

-- THE SERVER
took_work : (s : ServerState) (turns : List Utterance) (packet : List ℕ) (t : ServerState) (opens : Bool) → ServerTook s turns packet t opens → t.work ≡ s.work
took_work s turns packet t opens took = grind arith

pub server_took : (s : ServerState) (turns : List Utterance) (packet : List ℕ) (t : ServerState) (opens : Bool) → Follows s.link turns → s.link.whole ≡ None
    → ServerTakes s packet (ServerGoesOn t opens) → t.work ≡ s.work
server_took s turns packet t opens follows none takes = took_work s turns packet t opens (server_took_what s turns packet t opens follows none takes)

pub server_held : (s : ServerState) (rule : server.ServerRule) (held : ServerState) → server_holds rule s ≡ Some held → held.work ≡ s.work
server_held s rule held is = ap (λ (x : ServerState). x.work) (server_holds_link s rule held is)

pub server_sent : (s : ServerState) (at : Seen) (packet : List ℕ) (opens : Bool) (t : ServerState) → ServerSends s at packet opens t → t.work ≡ s.work
server_sent s at packet opens t sends = ap (λ (x : ServerState). x.work) sends.is ∙ server_held s (server.server_rule s at) sends.held sends.holds
