-- What each step of an end leaves of the rings and of what its log says, in plain fields: the end that acts, and its peer.
use Rattle.std.proofs.Common.{◌≡◌, ◌≢◌, ℕ, ◌+◌, ◌≤◌, Bool, true, false, Option, Some, None, List, [], ◌∷◌, length, refl, sym, subst, arith}
use Rattle.std.specs.Prelude.{⊤}
use Rattle.cookie_copy.specs.Reach.{Reach}
use Rattle.ldc_link.specs.declared.phase.Role.{Role}
use Rattle.ldc_queue.specs.declared.end.ChannelState.{ChannelState}
use Rattle.ldc_queue.specs.declared.end.ChannelState.TheVariants.{Up}
use Rattle.ldc_queue.specs.declared.end.End.{End}
use Rattle.ldc_queue.specs.Transcript.{Heard, Said, Utterance}
use Rattle.ldc_queue.specs.Wire.{peer_behind, peer_of, state_of}
use Rattle.lane_models.specs.Messages.{ended_by, opening_sid}
use Rattle.lane_models.specs.Sayings.{half_heard, half_said, heard}
use Rattle.lane_models.specs.Seeing.{Seen}
use Rattle.lane_models.specs.TranscriptLog.{TranscriptLog, transcript_of}
use Rattle.lane_models.proofs.Ruling.{says_of}
use Rattle.lane_models.specs.EndLog.{EndLog, SessionLog, change, heard_in, heard_kind, hears_log, more_published, more_taken as one_taken, opens_log, said_in, said_kind, says_log}
use Rattle.lane_models.specs.NetEndState.{NetEndState, NetSession}
use Rattle.lane_models.specs.NetEndStep.{Blocked, Frame, Idle, Joined, NetAnswer, NetEndStep, NetLeft, Published, Reset, Sent, Took}
use Rattle.lane_models.specs.NetEvent.{Steps, on_wire}
use Rattle.lane_models.specs.NetLaneState.{NetLaneState}
use Rattle.lane_models.specs.NetLaneStep.{net_wire}
use Rattle.lane_models.specs.PortLog.{after_answer, spoken_on}
use Rattle.lane_models.specs.Spoken.{Spoken}
use Rattle.port_laws.specs.RingStands.{RingIn, taken_by, taken_in}
use Rattle.port_laws.proofs.PeerOpens.{row}
use Rattle.port_laws.proofs.RingSteps.{Owns, TakesOf, more_taken, opens_by, own_ring, peer_ring}
use Rattle.port_laws.proofs.SessionsHeard.{Spoke, SpokeIn, frame_spoke, published_spoke, sent_opens, sent_spoke, took_opens, took_spoke}
use Rattle.port_laws.proofs.LaneMoves.{holds_up, up_of}

-- BOTH CHANNEL ENDS and what was said, after an answer
abbrev pub mine_now : NetAnswer → ChannelState → ChannelState
mine_now (Joined lost) x = Up
mine_now (Reset cause packet lost) x = Up
mine_now _ x = x

abbrev pub theirs_now : NetAnswer → ChannelState → ChannelState → ChannelState
theirs_now (Joined lost) x y = peer_behind x y
theirs_now (Reset cause packet lost) x y = peer_behind x y
theirs_now _ x y = y

pub record WireNow (e : End) (u : NetLaneState) (answer : NetAnswer) : Type 0 where
  pub mine : state_of e (net_wire (Steps e answer) u).wire ≡ mine_now answer (state_of e u.wire.wire)
  pub theirs : state_of (peer_of e) (net_wire (Steps e answer) u).wire ≡ theirs_now answer (state_of e u.wire.wire) (state_of (peer_of e) u.wire.wire)

pub wire_now : (e : End) (u : NetLaneState) (answer : NetAnswer) → WireNow e u answer
wire_now e u answer = grind arith

abbrev pub utterances_now : NetAnswer → List Utterance → List Utterance
utterances_now (Joined lost) turns = []
utterances_now (Reset cause packet lost) turns = []
utterances_now (Took packet opens) turns = Heard packet ∷ turns
utterances_now (Sent packet opens) turns = Said packet ∷ turns
utterances_now _ turns = turns

pub record UtterancesNow (e : End) (l : TranscriptLog) (answer : NetAnswer) : Type 0 where
  pub mine : transcript_of e (spoken_on l (on_wire (Steps e answer))) ≡ utterances_now answer (transcript_of e l)
  pub theirs : transcript_of (peer_of e) (spoken_on l (on_wire (Steps e answer))) ≡ transcript_of (peer_of e) l

pub turns_at : (e : End) (l : TranscriptLog) (answer : NetAnswer) → UtterancesNow e l answer
turns_at e l answer = grind arith

-- AN END THAT ACTS is up, but where it joins
pub acts_up : (role : Role) (s : NetEndState) (at : Seen) (memory : List ℕ) (reach : Reach) (answer : NetAnswer) (left : NetLeft) → NetEndStep role s at memory reach answer left
    → (x : ChannelState) → at.state ≡ x → mine_now answer x ≡ x → x ≡ Up
acts_up role s at memory reach answer left step x is now = grind (arith, up_of, says_of, holds_up)

-- it doesn't begin anew
abbrev pub Goes : NetAnswer → Type 0
Goes (Joined lost) = ⊥
Goes (Reset cause packet lost) = ⊥
Goes _ = ⊤

-- THE FRAMES THAT IT TOOK in its session, after an answer
pub kind_taken : (k : Spoken) (slots : ℕ) (message : List ℕ) (v : SessionLog) → (heard_kind slots k message v).taken ≡ v.taken
kind_taken k slots message v = grind arith

heard_taken : (slots : ℕ) (ended : Option (List ℕ)) (log : Option SessionLog) → taken_in (change (heard_in slots ended) log) ≡ taken_in log
heard_taken slots ended log = grind (arith, kind_taken)

pub saying_taken : (k : Spoken) (message : List ℕ) (v : SessionLog) → (said_kind k message v).taken ≡ v.taken
saying_taken k message v = grind arith

said_taken : (ended : Option (List ℕ)) (log : Option SessionLog) → taken_in (change (said_in ended) log) ≡ taken_in log
said_taken ended log = grind (arith, saying_taken)

opened_taken : (opens : Bool) (sid : ℕ) (log : Option SessionLog) (l : EndLog) → (opens ≡ true → log ≡ None) → taken_in l.session ≡ taken_in log → taken_in (opens_log opens sid l).session ≡ taken_in log
opened_taken opens sid log l shut same = grind arith

abbrev pub Frames : NetAnswer → Option SessionLog → Type 0
Frames (Frame frame) log = log ≢ None
Frames _ log = ⊤

frame_taken : (log : Option SessionLog) → log ≢ None → taken_in (change one_taken log) ≡ taken_in log + 1
frame_taken log some = grind arith

published_taken : (log : Option SessionLog) → taken_in (change more_published log) ≡ taken_in log
published_taken log = grind arith

pub answer_taken : (slots : ℕ) (turns : List Utterance) (answer : NetAnswer) (l : EndLog) → (x : ChannelState) → mine_now answer x ≡ x → x ≡ Up → (opens_by answer ≡ true → l.session ≡ None)
    → Frames answer l.session → Goes answer → taken_in (after_answer slots turns answer l).session ≡ more_taken answer (taken_in l.session)
answer_taken slots turns (Took packet opens) l x now up shut some goes =
    opened_taken opens (opening_sid (half_heard turns) packet) l.session (hears_log slots (ended_by (half_heard turns) packet) l) shut (heard_taken slots (ended_by (half_heard turns) packet) l.session)
answer_taken slots turns (Sent packet opens) l x now up shut some goes =
    opened_taken opens (opening_sid (half_said turns) packet) l.session (says_log (ended_by (half_said turns) packet) l) shut (said_taken (ended_by (half_said turns) packet) l.session)
answer_taken slots turns (Published id) l x now up shut some goes = published_taken l.session
answer_taken slots turns (Frame frame) l x now up shut some goes = frame_taken l.session some
answer_taken slots turns (Joined lost) l x now up shut some goes = absurd goes
answer_taken slots turns (Reset cause packet lost) l x now up shut some goes = absurd goes
answer_taken slots turns _ l x now up shut some goes = refl

-- THE RING OF THE END THAT ACTS
pub own_stands : (role : Role) (slots : ℕ) (x y : ChannelState) (log : Option SessionLog) (s : NetEndState) (turns : List Utterance) (at : Seen) (memory : List ℕ) (reach : Reach) (answer : NetAnswer)
    (left : NetLeft) → (x ≡ Up → Owns role s turns memory) → s.slots ≡ slots → (opens_by answer ≡ true → x ≡ Up → taken_by y log ≡ 0) → NetEndStep role s at memory reach answer left
    → (x ≡ Up → RingIn slots (taken_by y log) s.session s.frames memory) → mine_now answer x ≡ Up
    → RingIn slots (taken_by (theirs_now answer x y) log) left.end.session left.end.frames left.own
own_stands role slots x y log s turns at memory reach answer left owns same none step ring = by_answer answer none step
  where
    goes : (given : NetAnswer) → (opens_by given ≡ true → x ≡ Up → taken_by y log ≡ 0) → NetEndStep role s at memory reach given left → x ≡ Up
        → RingIn slots (taken_by y log) left.end.session left.end.frames left.own
    goes given nothing moves up = grind (arith, own_ring)

    by_answer : (given : NetAnswer) → (opens_by given ≡ true → x ≡ Up → taken_by y log ≡ 0) → NetEndStep role s at memory reach given left → mine_now given x ≡ Up
        → RingIn slots (taken_by (theirs_now given x y) log) left.end.session left.end.frames left.own
    by_answer (Joined lost) nothing moves up = subst (λ (z : NetLeft). RingIn slots (taken_by (peer_behind x y) log) z.end.session z.end.frames z.own) (sym moves.2) tt
    by_answer (Reset cause packet lost) nothing moves up = subst (λ (z : NetLeft). RingIn slots (taken_by (peer_behind x y) log) z.end.session z.end.frames z.own) (sym moves.2) tt
    by_answer given nothing moves up = goes given nothing moves up

-- THE RING OF ITS PEER
pub peer_up : (x y : ChannelState) → peer_behind x y ≡ Up → (x ≢ Up) × (y ≡ Up)
peer_up x y is = grind arith

pub none_down : (x : ChannelState) (log : Option SessionLog) → x ≢ Up → taken_by x log ≡ 0
none_down x log not = grind arith

pub peer_stands : (role : Role) (slots pages : ℕ) (x y : ChannelState) (log : Option SessionLog) (turns : List Utterance) (l : EndLog) (session : Option NetSession) (frames : List (List ℕ)) (f : NetEndState)
    (at : Seen) (memory : List ℕ) (reach : Reach) (answer : NetAnswer) (left : NetLeft) → at.state ≡ x → l.session ≡ log → 1 ≤ slots → (opens_by answer ≡ true → log ≡ None) → Frames answer log
    → (x ≡ Up → y ≡ Up → TakesOf answer f reach slots pages (taken_in log) session) → NetEndStep role f at memory reach answer left
    → (y ≡ Up → RingIn slots (taken_by x log) session frames reach.memory) → theirs_now answer x y ≡ Up
    → RingIn slots (taken_by (mine_now answer x) (after_answer slots turns answer l).session) session frames left.peer
peer_stands role slots pages x y log turns l session frames f at memory reach answer left state of_log some shut busy takes step ring =
    grind (arith, acts_up, answer_taken, peer_ring, peer_up, none_down)

-- WHAT THE LOG SAYS of the end that acts
pub record SaysOfLog (role : Role) (turns now : List Utterance) (log behind : Option SessionLog) : Type 0 where
  pub few : log ≡ None → length (row role turns) ≤ 5
  pub six : log ≢ None → 6 ≤ length (heard turns)
  pub many : behind ≢ None → 6 ≤ length (row role now)

abbrev pub Active : NetAnswer → Option SessionLog → Type 0
Active (Frame frame) (Some v) = v.asked ≡ v.acks + 1
Active _ log = ⊤

pub some_not : {X : Type 0} (x : X) → Some x ≢ None
some_not {X} x is = cc is

took_case : (role : Role) (slots : ℕ) (turns : List Utterance) (packet : List ℕ) (opens : Bool) (log : Option SessionLog) (l : EndLog) → l.session ≡ log → (opens ≡ true → log ≡ None)
    → SaysOfLog role turns (Heard packet ∷ turns) log (after_answer slots turns (Took packet opens) l).session → SpokeIn role turns log
    → SpokeIn role (Heard packet ∷ turns) (after_answer slots turns (Took packet opens) l).session
took_case role slots turns packet true log l is shut turned spoke =
    took_opens role turns packet (turned.few (shut refl)) (turned.many (some_not _))
took_case role slots turns packet false None l is shut turned spoke = rw is tt
took_case role slots turns packet false (Some v) l is shut turned spoke =
    rw is (took_spoke role slots turns packet v spoke (turned.six (some_not v)))

sent_case : (role : Role) (slots : ℕ) (turns : List Utterance) (packet : List ℕ) (opens : Bool) (log : Option SessionLog) (l : EndLog) → l.session ≡ log → (opens ≡ true → log ≡ None)
    → SaysOfLog role turns (Said packet ∷ turns) log (after_answer slots turns (Sent packet opens) l).session → SpokeIn role turns log
    → SpokeIn role (Said packet ∷ turns) (after_answer slots turns (Sent packet opens) l).session
sent_case role slots turns packet true log l is shut turned spoke =
    sent_opens role turns packet (turned.few (shut refl)) (turned.many (some_not _))
sent_case role slots turns packet false None l is shut turned spoke = rw is tt
sent_case role slots turns packet false (Some v) l is shut turned spoke = rw is (sent_spoke role turns packet v spoke)

work_case : (role : Role) (turns : List Utterance) (f : SessionLog → SessionLog) (log : Option SessionLog) → ((v : SessionLog) → log ≡ Some v → Spoke role turns v → Spoke role turns (f v)) → SpokeIn role turns log
    → SpokeIn role turns (change f log)
work_case role turns f log means spoke = grind arith

pub spoke_after : (role : Role) (slots : ℕ) (turns : List Utterance) (answer : NetAnswer) (l : EndLog) → (opens_by answer ≡ true → l.session ≡ None) → Active answer l.session
    → (Goes answer → SaysOfLog role turns (utterances_now answer turns) l.session (after_answer slots turns answer l).session) → SpokeIn role turns l.session
    → SpokeIn role (utterances_now answer turns) (after_answer slots turns answer l).session
spoke_after role slots turns (Took packet opens) l shut active turned spoke = took_case role slots turns packet opens l.session l refl shut (turned tt) spoke
spoke_after role slots turns (Sent packet opens) l shut active turned spoke = sent_case role slots turns packet opens l.session l refl shut (turned tt) spoke
spoke_after role slots turns Blocked l shut active turned spoke = spoke
spoke_after role slots turns Idle l shut active turned spoke = spoke
spoke_after role slots turns (Published id) l shut active turned spoke = work_case role turns more_published l.session (λ v is had. published_spoke role turns v had) spoke
spoke_after role slots turns (Frame frame) l shut active turned spoke =
    work_case role turns one_taken l.session (λ v is had. frame_spoke role turns v (subst (Active (Frame frame)) is active) had) spoke
spoke_after role slots turns _ l shut active turned spoke = tt
