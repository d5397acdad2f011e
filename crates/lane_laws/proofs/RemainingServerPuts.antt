-- A server that holds a message or puts a packet: what remains at it falls.
use Rattle.std.proofs.Common.{◌≡◌, ℕ, ◌+◌, ◌*◌, ◌≤◌, Bool, Option, Some, None, List, refl, ap, ◌∙◌, arith}
use Rattle.ldc_link.specs.declared.phase.Role.TheVariants.{Responder}
use Rattle.ldc_queue.specs.declared.end.ChannelState.TheVariants.{Up}
use Rattle.ldc_queue.specs.Transcript.{Utterance}
use Rattle.lane_models.specs.EndPuts.{EndsOwn, PutKind}
use Rattle.lane_models.specs.Seeing.{Seen}
use Rattle.lane_models.specs.ServerPutting.{server_holds, server_kind, session_behind}
use Rattle.lane_models.specs.ServerRule.{ServerRule, server_rule}
use Rattle.lane_models.specs.ServerState.{ServerSession, ServerState, Work}
use Rattle.lane_models.specs.ServerStep.{ServerSends}
use Rattle.lane_models.proofs.PacketsLeft.{answering_shut, says_left, waits_left}
use Rattle.lane_models.specs.Standing.{EndStands}
use Rattle.lane_laws.proofs.ServerSpeaking.{server_holds_link}
use Rattle.lane_laws.proofs.ServerMoves.{server_says, server_waits}
use Rattle.lane_laws.specs.ChannelEnds.{server_core}
use Rattle.lane_laws.specs.Remaining.{asked_in, server_remaining, server_packets, serving_left}

-- what remains at a server that is up falls by so much, and it was asked for what it was
pub record ServerLowers (by : ℕ) (s t : ServerState) : Type 0 where
  pub asked : asked_in t.session ≡ asked_in s.session
  pub lowers : server_remaining Up t + by ≤ server_remaining Up s

-- it put so many packets, and works on what it did
pub record ServerFalls (put : ℕ) (s t : ServerState) : Type 0 where
  pub packets : server_packets t + put ≤ server_packets s
  pub asked : asked_in t.session ≡ asked_in s.session
  pub serving : serving_left t.work t.session ≡ serving_left s.work s.session
  pub work : t.work ≡ s.work

pub falls_lower : (put : ℕ) (s t : ServerState) → ServerFalls put s t → ServerLowers (2 * put) s t
falls_lower put s t falls = grind arith

-- HOLDING a message
record SameWork (s held : ServerState) : Type 0 where
  session : held.session ≡ s.session
  work : held.work ≡ s.work

held_work : (s : ServerState) (rule : ServerRule) (held : ServerState) → server_holds rule s ≡ Some held → SameWork s held
held_work s rule held holds =
    let is = server_holds_link s rule held holds in record { session = ap (λ (v : ServerState). v.session) is; work = ap (λ (v : ServerState). v.work) is }

same_serving : (s held : ServerState) → SameWork s held → serving_left held.work held.session ≡ serving_left s.work s.session
same_serving s held same = ap (λ (w : Option Work). serving_left w held.session) same.work ∙ ap (serving_left s.work) same.session

pub blocked_falls : (s : ServerState) (at : Seen) (held : ServerState) (turns : List Utterance) → server_holds (server_rule s at) s ≡ Some held → EndStands Responder (server_core s) turns
    → ServerFalls 0 s held
blocked_falls s at held turns holds stands =
    let same = held_work s (server_rule s at) held holds in
    record {
      packets = omega (arith, waits_left Responder (server_core s) (server_core held) turns stands (server_waits s at held holds));
      asked = ap asked_in same.session;
      serving = same_serving s held same;
      work = same.work;
    }

-- PUTTING a packet: an answer changes neither what it was asked for nor what it finished
answered_asked : (kind : PutKind) (session : Option ServerSession) → asked_in (session_behind kind session) ≡ asked_in session
answered_asked EndsOwn None = refl
answered_asked _ _ = refl

answered_serving : (kind : PutKind) (work : Option Work) (session : Option ServerSession) → serving_left work (session_behind kind session) ≡ serving_left work session
answered_serving EndsOwn work None = refl
answered_serving _ work _ = refl

pub sends_falls : (s : ServerState) (at : Seen) (packet : List ℕ) (opens : Bool) (t : ServerState) (turns : List Utterance) → ServerSends s at packet opens t
    → EndStands Responder (server_core s) turns → ServerFalls 1 s t
sends_falls s at packet opens t turns sends stands =
    let says = server_says s at packet opens t sends in
    let same = held_work s (server_rule s at) sends.held sends.holds in
    let kind : PutKind = server_kind sends.held in
    record {
      packets = says_left Responder (server_core s) (server_core t) turns packet opens stands says (answering_shut (server_core s) (server_core t) turns packet opens stands says);
      asked = ap (λ (v : ServerState). asked_in v.session) sends.is ∙ answered_asked kind sends.held.session ∙ ap asked_in same.session;
      serving = ap (λ (v : ServerState). serving_left v.work v.session) sends.is ∙ answered_serving kind sends.held.work sends.held.session ∙ same_serving s sends.held same;
      work = ap (λ (v : ServerState). v.work) sends.is ∙ same.work;
    }
