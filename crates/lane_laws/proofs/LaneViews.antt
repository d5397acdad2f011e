-- WHAT AN EVENT IS to a lane's client, to its server and to the client's memory, each in few ways, and what it makes of all else. A proof
-- goes by these ways, and by the events of an end only where that end acts.
use Rattle.std.proofs.Common.{◌≡◌, ℕ, ◌+◌, ◌≤◌, Bool, true, false, Option, None, List, [], length, refl, sym, ap, ◌∙◌, subst, arith}
use Rattle.std.specs.Prelude.{◌||◌, ⊤}
use Rattle.ldc_queue.specs.declared.end.End.{End}
use Rattle.ldc_queue.specs.declared.end.End.TheVariants.{A, B}
use Rattle.ldc_queue.specs.Transcript.{Utterance}
use Rattle.ldc_queue.specs.Wire.{peer_of}
use Rattle.vio_bytes.specs.Place.{put_at}
use Rattle.vio_tag.specs.declared.cause.Cause.{Cause}
use Rattle.lane_models.specs.EndCore.{Begins, EndMove, Renews}
use Rattle.lane_models.specs.LaneCore.{reset_move}
use Rattle.lane_models.specs.Seeing.{Seen, seen}
use Rattle.lane_models.specs.WireEvent.{Blocked, ByRestart, ByScript, ByStep, ByTick, Declines, Giver, Idle, Injected, Joined, Lost, Poked, Reset, Sent, Took, WireEvent, giver}
use Rattle.cookie_copy.specs.Reach.{Reach}
use Rattle.lane_models.specs.ClientState.{ClientState, joined_client}
use Rattle.lane_models.specs.ClientStep.{ClientAdmits, ClientStep}
use Rattle.lane_models.specs.DiskEvent.{Accepted, Admitted, Asks, Calm, CalmReset, Calms, DiskEvent, Done, Misplaced, OnWire, Published, Started, Stopped, Stored, Switched, Switches, Worked, Works}
use Rattle.lane_models.specs.LaneState.{LaneState, NearCounts, near_disturbed}
use Rattle.lane_models.specs.LaneStep.{EndOnWire, LaneStep, ResetBy, CalmStep, ServerWorks, SwitchedStep, WireStep, WorkStep, failed_worked, near_on_wire, near_worked, reach}
use Rattle.lane_models.specs.ServerState.{ServerState, joined_server, restarted_server}
use Rattle.lane_models.specs.ServerStep.{ServerStep}
use Rattle.lane_models.specs.Blockage.{Blockage, Clear}
use Rattle.lane_laws.specs.DiskLog.{DiskLog, after, after_failed, after_wire}
use Rattle.lane_laws.specs.WorkLog.{ClientCounts, ServerCounts}

-- what an end sees of its wire, and what its server reaches
abbrev pub at_client : LaneState → Seen
at_client s = seen A s.shape.entries s.wire.wire

abbrev pub at_server : LaneState → Seen
at_server s = seen B s.shape.entries s.wire.wire

abbrev pub reach_of : LaneState → Reach
reach_of s = reach s (at_server s).both

-- BESIDE AN END is an event that is no step of it, no reset and no stop, and asks nothing of it
abbrev pub IsApart : End → End → Type 0
IsApart A A = ⊥
IsApart A B = ⊤
IsApart B A = ⊤
IsApart B B = ⊥

abbrev pub WireBeside : End → WireEvent → Type 0
WireBeside e (Joined f lost) = IsApart e f
WireBeside e (Reset f cause packet lost) = IsApart e f
WireBeside e (Took f packet opens) = IsApart e f
WireBeside e (Sent f packet opens) = IsApart e f
WireBeside e (Idle f) = IsApart e f
WireBeside e (Blocked f) = IsApart e f
WireBeside e _ = ⊤

abbrev pub WorkBeside : End → Worked → Type 0
WorkBeside A (Published id) = ⊥
WorkBeside A (Done id operation status bytes) = ⊥
WorkBeside A _ = ⊤
WorkBeside B (Published id) = ⊤
WorkBeside B (Done id operation status bytes) = ⊤
WorkBeside B _ = ⊥

abbrev pub Beside : End → DiskEvent → Type 0
Beside e (OnWire event) = WireBeside e event
Beside e (Works event) = WorkBeside e event
Beside A (Asks request) = ⊥
Beside B (Switches Stopped) = ⊥
Beside e _ = ⊤

-- a reset that is a step of its end has a cause of its own
abbrev pub IsOwnStep : DiskEvent → Type 0
IsOwnStep (OnWire (Reset e cause packet lost)) = giver cause ≡ ByStep
IsOwnStep _ = ⊤

-- THE FEW WAYS. A reset that a call gives carries no packet and loses no frames.
pub data ClientView (s t : LaneState) : DiskEvent → Type 0 where
  -- a step of its own, what comes of a request, a reset that a call gives, or an event beside it
  ClientActs : (event : DiskEvent) → IsOwnStep event → ClientStep s.client (at_client s) s.memory event t.client t.memory → ClientView s t event
  ClientAsked : (request : Admitted) → ClientAdmits s.client request t.client → ClientView s t (Asks request)
  ClientCalled : (cause : Cause) → reset_move (giver cause) cause None ≡ Begins → t.client ≡ joined_client s.client → ClientView s t (OnWire (Reset A cause None 0))
  ClientStays : (event : DiskEvent) → Beside A event → t.client ≡ s.client → ClientView s t event

pub data ServerView (s t : LaneState) : DiskEvent → Type 0 where
  -- a step of its own, a reset that a call gives, one by a restart, a stop, or an event beside it
  ServerActs : (event : DiskEvent) (gave : List ℕ) → IsOwnStep event → ServerStep s.server (at_server s) (reach_of s) gave event t.server t.memory → ServerView s t event
  ServerCalled : (cause : Cause) → reset_move (giver cause) cause None ≡ Begins → t.server ≡ joined_server s.server → ServerView s t (OnWire (Reset B cause None 0))
  ServerRenewed : (cause : Cause) → reset_move (giver cause) cause None ≡ Renews → t.server ≡ restarted_server s.server → ServerView s t (OnWire (Reset B cause None 0))
  ServerStopped : t.server ≡ restarted_server s.server → ServerView s t (Switches Stopped)
  ServerStays : (event : DiskEvent) → Beside B event → t.server ≡ s.server → ServerView s t event

pub data MemoryView (s t : LaneState) : DiskEvent → Type 0 where
  -- what an end's step makes of it, what somebody pokes into it, or nothing
  ClientWrites : (event : DiskEvent) → ClientStep s.client (at_client s) s.memory event t.client t.memory → MemoryView s t event
  ServerWrites : (event : DiskEvent) (gave : List ℕ) → ServerStep s.server (at_server s) (reach_of s) gave event t.server t.memory → MemoryView s t event
  MemoryPoked : (at : ℕ) (bytes : List ℕ) → at + length bytes ≤ length s.memory → t.memory ≡ put_at at bytes s.memory → MemoryView s t (OnWire (Poked A at bytes))
  MemoryStays : (event : DiskEvent) → t.memory ≡ s.memory → MemoryView s t event

-- WHAT FOLLOWS FROM THE EVENT ALONE: the lane after it, with such ends and such a memory
abbrev pub after_stopped : Bool → DiskEvent → Bool
after_stopped before (Switches Stopped) = true
after_stopped before (Switches Started) = false
after_stopped before _ = before

abbrev pub near_after : LaneState → DiskEvent → NearCounts
near_after s (OnWire event) = near_on_wire s event
near_after s (Works event) = near_worked event s.near
near_after s (Switches Stopped) = near_disturbed s.client
near_after s _ = s.near

abbrev pub lane_after : LaneState → DiskEvent → ClientState → ServerState → List ℕ → LaneState
lane_after s event c v memory = record s {
  wire = after_wire s.wire event;
  client = c;
  server = v;
  memory = memory;
  stopped = after_stopped s.stopped event;
  failed = after_failed s.failed event;
  near = near_after s event;
}

pub record LaneView (s : LaneState) (event : DiskEvent) (t : LaneState) : Type 0 where
  pub client : ClientView s t event
  pub server : ServerView s t event
  pub memory : MemoryView s t event
  pub is : t ≡ lane_after s event t.client t.server t.memory

made : (s : LaneState) (event : DiskEvent) (t : LaneState) (c : ClientState) (v : ServerState) (memory : List ℕ) → t ≡ lane_after s event c v memory
    → t ≡ lane_after s event t.client t.server t.memory
made s event t c v memory is = subst (λ (x : LaneState). x ≡ lane_after s event x.client x.server x.memory) (sym is) refl

-- AN END ACTS
client_acts : (s : LaneState) (event : DiskEvent) (t : LaneState) → Beside B event → IsOwnStep event → ClientStep s.client (at_client s) s.memory event t.client t.memory
    → t ≡ lane_after s event t.client s.server t.memory → LaneView s event t
client_acts s event t beside own step is = record {
  client = ClientActs event own step;
  server = ServerStays event beside (ap (λ (x : LaneState). x.server) is);
  memory = ClientWrites event step;
  is = made s event t t.client s.server t.memory is;
}

server_acts : (s : LaneState) (event : DiskEvent) (gave : List ℕ) (t : LaneState) → Beside A event → IsOwnStep event → ServerStep s.server (at_server s) (reach_of s) gave event t.server t.memory
    → t ≡ lane_after s event s.client t.server t.memory → LaneView s event t
server_acts s event gave t beside own step is = record {
  client = ClientStays event beside (ap (λ (x : LaneState). x.client) is);
  server = ServerActs event gave own step;
  memory = ServerWrites event gave step;
  is = made s event t s.client t.server t.memory is;
}

end_acts : (e : End) (s : LaneState) (event : WireEvent) (t : LaneState) → WireBeside (peer_of e) event → IsOwnStep (OnWire event) → EndOnWire e s event t → LaneView s (OnWire event) t
end_acts A s event t beside own step = client_acts s (OnWire event) t beside own step.step step.is
end_acts B s event t beside own step = server_acts s (OnWire event) step.0 t beside own step.1.step.1 step.1.is

-- NO END ACTS
no_end : (s : LaneState) (event : DiskEvent) (t : LaneState) → Beside A event → Beside B event → t ≡ lane_after s event s.client s.server s.memory → LaneView s event t
no_end s event t a b is = record {
  client = ClientStays event a (ap (λ (x : LaneState). x.client) is);
  server = ServerStays event b (ap (λ (x : LaneState). x.server) is);
  memory = MemoryStays event (ap (λ (x : LaneState). x.memory) is);
  is = made s event t s.client s.server s.memory is;
}

-- A CALL RESETS an end
client_called : (s : LaneState) (cause : Cause) (t : LaneState) → reset_move (giver cause) cause None ≡ Begins
    → t ≡ lane_after s (OnWire (Reset A cause None 0)) (joined_client s.client) s.server s.memory → LaneView s (OnWire (Reset A cause None 0)) t
client_called s cause t begins is = record {
  client = ClientCalled cause begins (ap (λ (x : LaneState). x.client) is);
  server = ServerStays (OnWire (Reset A cause None 0)) tt (ap (λ (x : LaneState). x.server) is);
  memory = MemoryStays (OnWire (Reset A cause None 0)) (ap (λ (x : LaneState). x.memory) is);
  is = made s (OnWire (Reset A cause None 0)) t (joined_client s.client) s.server s.memory is;
}

server_called : (s : LaneState) (event : DiskEvent) (v : ServerState) (t : LaneState) → Beside A event → (t.server ≡ v → ServerView s t event)
    → t ≡ lane_after s event s.client v s.memory → LaneView s event t
server_called s event v t beside view is = record {
  client = ClientStays event beside (ap (λ (x : LaneState). x.client) is);
  server = view (ap (λ (x : LaneState). x.server) is);
  memory = MemoryStays event (ap (λ (x : LaneState). x.memory) is);
  is = made s event t s.client v s.memory is;
}

at_none : (s : LaneState) (e : End) (cause : Cause) (packet : Option (List ℕ)) (lost : ℕ) (t : LaneState) → packet ≡ None → lost ≡ 0 → LaneView s (OnWire (Reset e cause None 0)) t
    → LaneView s (OnWire (Reset e cause packet lost)) t
at_none s e cause packet lost t none nothing view =
    subst (λ (p : Option (List ℕ)). LaneView s (OnWire (Reset e cause p lost)) t) (sym none) (subst (λ (n : ℕ). LaneView s (OnWire (Reset e cause None n)) t) (sym nothing) view)

moves_by : (by : Giver) (cause : Cause) (move : EndMove) → giver cause ≡ by → reset_move by cause None ≡ move → reset_move (giver cause) cause None ≡ move
moves_by by cause move given is = ap (λ (g : Giver). reset_move g cause None) given ∙ is

reset_view : (by : Giver) (e : End) (s : LaneState) (cause : Cause) (packet : Option (List ℕ)) (lost : ℕ) (t : LaneState) → giver cause ≡ by → ResetBy by e s cause packet lost t
    → LaneView s (OnWire (Reset e cause packet lost)) t
reset_view ByStep A s cause packet lost t by step = end_acts A s (Reset A cause packet lost) t tt by step
reset_view ByStep B s cause packet lost t by step = end_acts B s (Reset B cause packet lost) t tt by step
reset_view ByScript A s cause packet lost t by step = at_none s A cause packet lost t step.0 step.1 (client_called s cause t (moves_by ByScript cause Begins by refl) step.2)
reset_view ByScript B s cause packet lost t by step =
    at_none s B cause packet lost t step.1.0 step.1.1 (server_called s (OnWire (Reset B cause None 0)) (joined_server s.server) t tt (ServerCalled cause (moves_by ByScript cause Begins by refl)) step.1.2)
reset_view ByRestart A s cause packet lost t by step = absurd step
reset_view ByRestart B s cause packet lost t by step =
    at_none s B cause packet lost t step.1.0 step.1.1 (server_called s (OnWire (Reset B cause None 0)) (restarted_server s.server) t tt (ServerRenewed cause (moves_by ByRestart cause Renews by refl)) step.1.2)
reset_view ByTick A s cause packet lost t by step = at_none s A cause packet lost t step.1.0 step.1.1 (client_called s cause t (moves_by ByTick cause Begins by refl) step.1.2)
reset_view ByTick B s cause packet lost t by step = absurd step

-- EACH EVENT
peer_apart : (e : End) → IsApart (peer_of e) e
peer_apart A = tt
peer_apart B = tt

poke_view : (e : End) (s : LaneState) (at : ℕ) (bytes : List ℕ) (t : LaneState) → WireStep s (Poked e at bytes) t → LaneView s (OnWire (Poked e at bytes)) t
poke_view A s at bytes t step = record {
  client = ClientStays (OnWire (Poked A at bytes)) tt (ap (λ (x : LaneState). x.client) step.1);
  server = ServerStays (OnWire (Poked A at bytes)) tt (ap (λ (x : LaneState). x.server) step.1);
  memory = MemoryPoked at bytes step.0 (ap (λ (x : LaneState). x.memory) step.1);
  is = made s (OnWire (Poked A at bytes)) t s.client s.server (put_at at bytes s.memory) step.1;
}
poke_view B s at bytes t step = absurd step

wire_view : (s : LaneState) (event : WireEvent) (t : LaneState) → WireStep s event t → LaneView s (OnWire event) t
wire_view s (Joined e lost) t step = end_acts e s (Joined e lost) t (peer_apart e) tt step
wire_view s (Took e packet opens) t step = end_acts e s (Took e packet opens) t (peer_apart e) tt step
wire_view s (Sent e packet opens) t step = end_acts e s (Sent e packet opens) t (peer_apart e) tt step
wire_view s (Idle e) t step = end_acts e s (Idle e) t (peer_apart e) tt step
wire_view s (Blocked e) t step = end_acts e s (Blocked e) t (peer_apart e) tt step
wire_view s (Reset e cause packet lost) t step = reset_view (giver cause) e s cause packet lost t refl step
wire_view s (Lost e packet) t step = no_end s (OnWire (Lost e packet)) t tt tt step.1
wire_view s (Injected e packet) t step = no_end s (OnWire (Injected e packet)) t tt tt step.2
wire_view s (Poked e at bytes) t step = poke_view e s at bytes t step
wire_view s (Declines d) t step = no_end s (OnWire (Declines d)) t tt tt step.1

or_false : (b : Bool) → (b || false) ≡ b
or_false true = refl
or_false false = refl

worked_failed : (event : Worked) (b : Bool) → (b || failed_worked event) ≡ after_failed b (Works event)
worked_failed (Stored operation block count failed) b = refl
worked_failed _ b = or_false b

server_works : (s : LaneState) (gave : List ℕ) (event : Worked) (t : LaneState) → WorkBeside A event → ServerWorks s gave event t → LaneView s (Works event) t
server_works s gave event t beside step =
    server_acts s (Works event) gave t beside tt step.step.1
    (step.is ∙ ap (λ (b : Bool). record s { server = t.server; memory = t.memory; failed = b; near = near_worked event s.near }) (worked_failed event s.failed))

work_view : (s : LaneState) (event : Worked) (t : LaneState) → WorkStep s event t → LaneView s (Works event) t
work_view s (Published id) t step = client_acts s (Works (Published id)) t tt tt step.step step.is
work_view s (Done id operation status bytes) t step = client_acts s (Works (Done id operation status bytes)) t tt tt step.step step.is
work_view s Misplaced t step = absurd step
work_view s event t step = server_works s step.0 event t tt step.1

turn_view : (s : LaneState) (event : Switched) (t : LaneState) → SwitchedStep s event t → LaneView s (Switches event) t
turn_view s Stopped t step = server_called s (Switches Stopped) (restarted_server s.server) t tt ServerStopped step.1
turn_view s event t step = no_end s (Switches event) t tt tt step.1

pub calm_same : (s : LaneState) (event : Calm) (t : LaneState) → CalmStep s event t → t ≡ s
calm_same s (CalmReset A) t step = absurd step
calm_same s _ t step = step.1

pub lane_view : (s : LaneState) (event : DiskEvent) (t : LaneState) → LaneStep s event t → LaneView s event t
lane_view s (OnWire event) t step = wire_view s event t step
lane_view s (Asks request) t step = record {
  client = ClientAsked request step.0;
  server = ServerStays (Asks request) tt (ap (λ (x : LaneState). x.server) step.1);
  memory = MemoryStays (Asks request) (ap (λ (x : LaneState). x.memory) step.1);
  is = made s (Asks request) t t.client s.server s.memory step.1;
}
lane_view s (Works event) t step = work_view s event t step
lane_view s (Switches event) t step = turn_view s event t step
lane_view s (Calms event) t step = no_end s (Calms event) t tt tt (calm_same s event t step)

-- AN END'S SIDE OF THE LOG: what it said and heard, whether it was blocked, and the counts of its session. An event beside it leaves its side.
pub record ClientSide : Type 0 where
  pub utterances : List Utterance
  pub blocked : Blockage
  pub done : ℕ
  pub counts : Option ClientCounts

abbrev pub client_side : DiskLog → ClientSide
client_side l = record { utterances = l.transcript.a; blocked = l.blocked.client; done = l.work.done; counts = l.work.client }

pub record ServerSide : Type 0 where
  pub utterances : List Utterance
  pub blocked : Blockage
  pub counts : Option ServerCounts

abbrev pub server_side : DiskLog → ServerSide
server_side l = record { utterances = l.transcript.b; blocked = l.blocked.server; counts = l.work.server }

pub client_side_stays : (l : DiskLog) (event : DiskEvent) → Beside A event → client_side (after l event) ≡ client_side l
client_side_stays l event beside = grind arith

pub server_side_stays : (l : DiskLog) (event : DiskEvent) → Beside B event → server_side (after l event) ≡ server_side l
server_side_stays l event beside = grind arith

asked_side : (l : DiskLog) (request : Admitted) → client_side (after l (Asks request)) ≡ client_side l
asked_side l (Accepted id request) = refl
asked_side l _ = refl

-- A CONDITION on an end and its side of the log holds after an event, where each way keeps it
pub record ClientKeeps (P : ClientState → ClientSide → Type 0) (s : LaneState) (l : DiskLog) : Type 0 where
  pub now : P s.client (client_side l)
  pub acts : (event : DiskEvent) (t : ClientState) (new : List ℕ) → ClientStep s.client (at_client s) s.memory event t new → P t (client_side (after l event))
  pub asked : (request : Admitted) (t : ClientState) → ClientAdmits s.client request t → P t (client_side l)
  pub joined : P (joined_client s.client) (record { utterances = []; blocked = Clear; done = l.work.done; counts = None })

pub client_keeps : (P : ClientState → ClientSide → Type 0) (s : LaneState) (l : DiskLog) (event : DiskEvent) (t : LaneState) → ClientKeeps P s l → LaneStep s event t
    → P t.client (client_side (after l event))
client_keeps P s l event t keeps step = by event (lane_view s event t step).client
  where
    by : (event : DiskEvent) → ClientView s t event → P t.client (client_side (after l event))
    by _ (ClientActs event own does) = keeps.acts event t.client t.memory does
    by _ (ClientAsked request admits) = subst (P t.client) (sym (asked_side l request)) (keeps.asked request t.client admits)
    by _ (ClientCalled cause begins is) = subst (λ (c : ClientState). P c (client_side (after l (OnWire (Reset A cause None 0))))) (sym is) keeps.joined
    by _ (ClientStays event beside is) = subst (P t.client) (sym (client_side_stays l event beside)) (subst (λ (c : ClientState). P c (client_side l)) (sym is) keeps.now)

pub record ServerKeeps (P : ServerState → ServerSide → Type 0) (s : LaneState) (l : DiskLog) : Type 0 where
  pub now : P s.server (server_side l)
  pub acts : (event : DiskEvent) (gave : List ℕ) (t : ServerState) (new : List ℕ) → ServerStep s.server (at_server s) (reach_of s) gave event t new → P t (server_side (after l event))
  pub joined : P (joined_server s.server) (record { utterances = []; blocked = Clear; counts = None })
  pub renewed : P (restarted_server s.server) (record { utterances = []; blocked = Clear; counts = None })

pub server_keeps : (P : ServerState → ServerSide → Type 0) (s : LaneState) (l : DiskLog) (event : DiskEvent) (t : LaneState) → ServerKeeps P s l → LaneStep s event t
    → P t.server (server_side (after l event))
server_keeps P s l event t keeps step = by event (lane_view s event t step).server
  where
    by : (event : DiskEvent) → ServerView s t event → P t.server (server_side (after l event))
    by _ (ServerActs event gave own does) = keeps.acts event gave t.server t.memory does
    by _ (ServerCalled cause begins is) = subst (λ (v : ServerState). P v (server_side (after l (OnWire (Reset B cause None 0))))) (sym is) keeps.joined
    by _ (ServerRenewed cause renews is) = subst (λ (v : ServerState). P v (server_side (after l (OnWire (Reset B cause None 0))))) (sym is) keeps.renewed
    by _ (ServerStopped is) = subst (λ (v : ServerState). P v (server_side (after l (Switches Stopped)))) (sym is) keeps.renewed
    by _ (ServerStays event beside is) = subst (P t.server) (sym (server_side_stays l event beside)) (subst (λ (v : ServerState). P v (server_side l)) (sym is) keeps.now)
