-- What each event keeps of a lane: its shape; and the client's next id, but where a request is accepted.
use Rattle.std.proofs.Common.{◌≡◌, ℕ, ◌+◌, Bool, true, false, Option, Some, None, List, [], ◌∷◌, slice_get, slice_set, Result, Ok, Err, refl, sym, ap, ◌∙◌, subst, arith}
use Rattle.std.specs.Prelude.{zero, suc, if◌then◌else◌, ⊤}
use Rattle.ldc_link.specs.LinkState.{cleared}
use Rattle.ldc_link.specs.Taking.{Heard, LinkTake, Unheard}
use Rattle.ldc_packet.specs.declared.packet.Subtype.{Subtype}
use Rattle.ldc_queue.specs.declared.end.End.{End}
use Rattle.ldc_queue.specs.declared.end.End.TheVariants.{A, B}
use Rattle.vio_tag.specs.declared.cause.Cause.{Cause}
use Rattle.vio_tag.specs.declared.message.Message.{Message}
use Rattle.vio_tag.specs.declared.message.MsgBody.{MsgBody}
use Rattle.vio_tag.specs.declared.message.TagFault.{TagFault}
use Rattle.lane_laws.specs.Rules.{Faults, Goes, GoesOpen, HandshakeTake, handshake_take, sid_fault}
use Rattle.lane_models.specs.WireEvent.{Blocked, Giver, Idle, Joined, Poked, Sent, Took, WireEvent}
use Rattle.lane_models.specs.ClientRule.{client_rule}
use Rattle.lane_models.specs.ClientState.{ClientSession, ClientState}
use Rattle.lane_models.specs.ClientTaking as taking
use Rattle.lane_models.specs.DiskEvent.{Accepted, Admitted, Asks, Calm, DiskEvent, Full, Off, OnWire, Refused, Calms, Started, Stopped, Switched, Switches, Worked, Works}
use Rattle.lane_models.specs.LaneState.{LaneState}
use Rattle.lane_models.specs.LaneStep.{EndOnWire, LaneStep, ResetBy, CalmStep, SwitchedStep, WireStep, WorkStep}
use Rattle.lane_models.specs.Seeing.{seen}
use Rattle.lane_laws.proofs.Requesting.{held_kept, sent_kept}
use Rattle.lane_laws.proofs.RingPages.{same_pages}
use Rattle.lane_laws.proofs.Ruling.{client_may}
use Rattle.world_laws.specs.Issued.{issued_on, next_behind}

-- THE SHAPE stays
pub keeps_shape : (s : LaneState) (event : DiskEvent) (t : LaneState) → LaneStep s event t → t.shape ≡ s.shape
keeps_shape s event t step = (same_pages s event t step).shape

-- WHAT A CLIENT TAKES gives no id
abbrev KeepsNext : ℕ → taking.ClientTake → Type 0
KeepsNext n (taking.GoesOn t) = t.next_id ≡ n
KeepsNext n (taking.Resets cause) = ⊤

next_if : (n : ℕ) (b : Bool) (one other : taking.ClientTake) → KeepsNext n one → KeepsNext n other → KeepsNext n (if b then one else other)
next_if n true one other first second = first
next_if n false one other first second = second

next_handshake : (s : ClientState) (take : HandshakeTake) → KeepsNext s.next_id (taking.by_handshake s take)
next_handshake s (Goes h) = refl
next_handshake s (GoesOpen h) = refl
next_handshake s (Faults cause) = tt

next_in : (s : ClientState) (session : ClientSession) (message : Message) (subtype : Subtype) (b : MsgBody) → KeepsNext s.next_id (taking.in_session s session message subtype b)
next_in s session message subtype b = grind (arith, next_handshake)

next_or : (n : ℕ) (fault : Option Cause) (rest : taking.ClientTake) → KeepsNext n rest → KeepsNext n (taking.sid_first fault rest)
next_or n None rest keeps = keeps
next_or n (Some cause) rest keeps = tt

next_hears : (s : ClientState) (session : Option ClientSession) (message : Message) → KeepsNext s.next_id (taking.hears_message s session message)
next_hears s None message = next_handshake s (handshake_take s.handshake message)
next_hears s (Some session) message =
    next_or s.next_id (sid_fault s.handshake.sid message.sid) (taking.in_session s session message message.subtype message.body) (next_in s session message message.subtype message.body)

next_reads : (s : ClientState) (decoded : Result Message TagFault) → KeepsNext s.next_id (taking.reads s decoded)
next_reads s (Ok message) = next_hears s s.session message
next_reads s (Err fault) = tt

next_whole : (s : ClientState) (whole : Option (List ℕ)) (take : taking.ClientTake) → taking.HearsWhole s whole take → KeepsNext s.next_id take
next_whole s None take is = subst (λ (x : taking.ClientTake). KeepsNext s.next_id x) (sym is) refl
next_whole s (Some bytes) take is = subst (λ (x : taking.ClientTake). KeepsNext s.next_id x) (sym is.2) (next_reads (record s { link = cleared s.link }) is.0)

next_link : (s : ClientState) (link : LinkTake) (take : taking.ClientTake) → taking.HearsLink s link take → KeepsNext s.next_id take
next_link s (Heard k) take hears = next_whole (record s { link = k }) k.whole take hears
next_link s (Unheard cause) take is = subst (λ (x : taking.ClientTake). KeepsNext s.next_id x) (sym is) tt

next_takes : (s : ClientState) (packet : List ℕ) (t : ClientState) → taking.ClientTakes s packet (taking.GoesOn t) → t.next_id ≡ s.next_id
next_takes s packet t takes = next_link s takes.link (taking.GoesOn t) takes.hears

-- NO EVENT ON THE WIRE gives one
next_joined : (e : End) (s : LaneState) (lost : ℕ) (t : LaneState) → EndOnWire e s (Joined e lost) t → t.client.next_id ≡ s.client.next_id
next_joined A s lost t step = ap (λ (x : ClientState). x.next_id) step.step.2
next_joined B s lost t step = ap (λ (x : LaneState). x.client.next_id) step.1.is

next_took : (e : End) (s : LaneState) (packet : List ℕ) (opens : Bool) (t : LaneState) → EndOnWire e s (Took e packet opens) t → t.client.next_id ≡ s.client.next_id
next_took A s packet opens t step = next_takes s.client packet t.client step.step.1
next_took B s packet opens t step = ap (λ (x : LaneState). x.client.next_id) step.1.is

next_sent : (e : End) (s : LaneState) (packet : List ℕ) (opens : Bool) (t : LaneState) → EndOnWire e s (Sent e packet opens) t → t.client.next_id ≡ s.client.next_id
next_sent A s packet opens t step = (sent_kept s.client (seen A s.shape.entries s.wire.wire) s.memory packet opens t.client t.memory step.step).next
next_sent B s packet opens t step = ap (λ (x : LaneState). x.client.next_id) step.1.is

next_idle : (e : End) (s : LaneState) (t : LaneState) → EndOnWire e s (Idle e) t → t.client.next_id ≡ s.client.next_id
next_idle A s t step = ap (λ (x : ClientState). x.next_id) step.step.1
next_idle B s t step = ap (λ (x : LaneState). x.client.next_id) step.1.is

next_blocked : (e : End) (s : LaneState) (t : LaneState) → EndOnWire e s (Blocked e) t → t.client.next_id ≡ s.client.next_id
next_blocked A s t step =
    let at = seen A s.shape.entries s.wire.wire in
    (held_kept s.client at (client_rule s.client at) t.client (client_may s.client at) step.step.0).next
next_blocked B s t step = ap (λ (x : LaneState). x.client.next_id) step.1.is

next_reset_by : (by : Giver) (e : End) (s : LaneState) (cause : Cause) (packet : Option (List ℕ)) (lost : ℕ) (t : LaneState) → ResetBy by e s cause packet lost t → t.client.next_id ≡ s.client.next_id
next_reset_by by e s cause packet lost t step = grind arith

next_poked : (e : End) (s : LaneState) (at : ℕ) (bytes : List ℕ) (t : LaneState) → WireStep s (Poked e at bytes) t → t.client.next_id ≡ s.client.next_id
next_poked A s at bytes t step = ap (λ (x : LaneState). x.client.next_id) step.1
next_poked B s at bytes t step = absurd step

next_on_wire : (s : LaneState) (event : WireEvent) (t : LaneState) → WireStep s event t → t.client.next_id ≡ s.client.next_id
next_on_wire s event t step = grind (arith, next_joined, next_took, next_sent, next_idle, next_blocked, next_reset_by, next_poked)

-- nor any work, call or refusal
next_works : (s : LaneState) (event : Worked) (t : LaneState) → WorkStep s event t → t.client.next_id ≡ s.client.next_id
next_works s event t step = grind arith

next_turns : (s : LaneState) (event : Switched) (t : LaneState) → SwitchedStep s event t → t.client.next_id ≡ s.client.next_id
next_turns s Stopped t step = ap (λ (x : LaneState). x.client.next_id) step.1
next_turns s Started t step = ap (λ (x : LaneState). x.client.next_id) step.1
next_turns s Off t step = ap (λ (x : LaneState). x.client.next_id) step.1

next_rests : (s : LaneState) (event : Calm) (t : LaneState) → CalmStep s event t → t.client.next_id ≡ s.client.next_id
next_rests s event t step = grind arith

next_asks : (s : LaneState) (event : Admitted) (t : LaneState) → LaneStep s (Asks event) t → t.client.next_id ≡ next_behind (Asks event) s.client.next_id
next_asks s (Accepted id request) t step = ap (λ (x : ClientState). x.next_id) step.0.5
next_asks s (Full request) t step = ap (λ (x : ClientState). x.next_id) step.0.2
next_asks s (Refused why request) t step = ap (λ (x : ClientState). x.next_id) step.0.1

-- THE NEXT ID after an event
pub next_is : (s : LaneState) (event : DiskEvent) (t : LaneState) → LaneStep s event t → t.client.next_id ≡ next_behind event s.client.next_id
next_is s (OnWire event) t step = next_on_wire s event t step
next_is s (Asks event) t step = next_asks s event t step
next_is s (Works event) t step = next_works s event t step
next_is s (Switches event) t step = next_turns s event t step
next_is s (Calms event) t step = next_rests s event t step

-- AND OF ALL LANES, where one is set
set_here : (new old rest : ℕ) → (new + rest) + old ≡ (old + rest) + new
set_here new old rest = omega (arith)

set_later : (first new old before now : ℕ) → now + old ≡ before + new → (first + now) + old ≡ (first + before) + new
set_later first new old before now is = omega (arith, is)

pub issued_set : (lanes : List LaneState) (k : ℕ) (s t : LaneState) → slice_get lanes k ≡ Some s → issued_on (slice_set lanes k t) + s.client.next_id ≡ issued_on lanes + t.client.next_id
issued_set [] k s t there = absurd (cc there)
issued_set (x ∷ lanes) zero s t there =
    let same : x ≡ s = cc there in
    set_here t.client.next_id s.client.next_id (issued_on lanes) ∙ ap (λ (y : LaneState). (y.client.next_id + issued_on lanes) + t.client.next_id) (sym same)
issued_set (x ∷ lanes) (suc k) s t there =
    set_later x.client.next_id t.client.next_id s.client.next_id (issued_on lanes) (issued_on (slice_set lanes k t)) (issued_set lanes k s t there)
