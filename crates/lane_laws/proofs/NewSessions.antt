-- Behind what ends sessions an end works only in one that opened since: until then it has none while it is up.
use Rattle.std.proofs.Common.{◌≡◌, true, false, Option, Some, None, List, [], ◌∷◌, ◌++◌, inl, inr, ◌⊎◌, refl, arith}
use Rattle.runs.specs.Lawful.{Lawful, lawful_split, log_of}
use Rattle.ldc_queue.specs.declared.end.End.{End}
use Rattle.ldc_queue.specs.declared.end.End.TheVariants.{A, B}
use Rattle.lane_models.specs.DiskEvent.{Accepted, Asks, Desc, DiskEvent, Finished, Moved, OnWire, Published, Stopped, Stored, Switches, Worked, Works}
use Rattle.lane_laws.specs.DiskLog.{DiskLog, after, nothing_yet}
use Rattle.lane_models.specs.LaneState.{Shape}
use Rattle.lane_laws.specs.May.{IsLawful, May}
use Rattle.lane_models.specs.WireAt.{IsUp}
use Rattle.lane_models.specs.WireEvent.{Injected, Joined, Lost, Reset, Sent, Took}
use Rattle.lane_laws.specs.WorkLog.{ClientCounts, ServerCounts, WorkLog, change_client, change_server}
use Rattle.lane_laws.proofs.SlotsStepping.{behind_up, upset_not}
use Rattle.lane_laws.specs.NewSessions.{EndsSessions, OpensAmong, OpensAt, WorkOf}

-- a session that isn't open stays so
none_client : (f : ClientCounts → ClientCounts) (k : Option ClientCounts) → k ≡ None → change_client f k ≡ None
none_client f None is = refl
none_client f (Some c) is = absurd (cc is)

none_server : (f : ServerCounts → ServerCounts) (d : Option ServerCounts) → d ≡ None → change_server f d ≡ None
none_server f None is = refl
none_server f (Some c) is = absurd (cc is)

-- AN END THAT WAITS for a new session: while it is up it has none
abbrev ClosedIn : End → WorkLog → Type 0
ClosedIn A w = w.client ≡ None
ClosedIn B w = w.server ≡ None

abbrev Waits : End → DiskLog → Type 0
Waits e l = IsUp e l.wire.wire → ClosedIn e l.work

-- what ends the sessions
ended_waits : (e : End) (l : DiskLog) (ending : DiskEvent) → EndsSessions l ending → Waits e (after l ending)
ended_waits e l ending was = grind arith

-- EACH EVENT opens its session, or it still waits: the client
client_waits : (l : DiskLog) (event : DiskEvent) → Waits A l → OpensAt A event ⊎ Waits A (after l event)
client_waits l (OnWire (Took A packet true)) waits = inl refl
client_waits l (OnWire (Took A packet false)) waits = inr (λ up. none_client _ l.work.client (waits up))
client_waits l (OnWire (Sent A packet true)) waits = inl refl
client_waits l (OnWire (Sent A packet false)) waits = inr (λ up. none_client _ l.work.client (waits up))
client_waits l (OnWire (Joined A lost)) waits = inr (λ up. refl)
client_waits l (OnWire (Joined B lost)) waits = inr (λ up. waits (behind_up l.wire.wire.end_b l.wire.wire.end_a up).0)
client_waits l (OnWire (Reset A cause packet lost)) waits = inr (λ up. refl)
client_waits l (OnWire (Reset B cause packet lost)) waits = inr (λ up. waits (behind_up l.wire.wire.end_b l.wire.wire.end_a up).0)
client_waits l (OnWire (Lost A packet)) waits = inr waits
client_waits l (OnWire (Injected A packet)) waits = inr waits
client_waits l (Asks (Accepted id request)) waits = inr waits
client_waits l (Works (Published id)) waits = inr (λ up. none_client _ l.work.client (waits up))
client_waits l (Switches Stopped) waits = inr (λ up. absurd (upset_not l.wire.wire.end_a up))
client_waits l _ waits = inr waits

-- the server
server_waits : (l : DiskLog) (event : DiskEvent) → Waits B l → OpensAt B event ⊎ Waits B (after l event)
server_waits l (OnWire (Took B packet true)) waits = inl refl
server_waits l (OnWire (Took B packet false)) waits = inr (λ up. none_server _ l.work.server (waits up))
server_waits l (OnWire (Sent B packet true)) waits = inl refl
server_waits l (OnWire (Sent B packet false)) waits = inr (λ up. none_server _ l.work.server (waits up))
server_waits l (OnWire (Joined B lost)) waits = inr (λ up. refl)
server_waits l (OnWire (Joined A lost)) waits = inr (λ up. waits (behind_up l.wire.wire.end_a l.wire.wire.end_b up).0)
server_waits l (OnWire (Reset B cause packet lost)) waits = inr (λ up. refl)
server_waits l (OnWire (Reset A cause packet lost)) waits = inr (λ up. waits (behind_up l.wire.wire.end_a l.wire.wire.end_b up).0)
server_waits l (OnWire (Lost A packet)) waits = inr waits
server_waits l (OnWire (Injected A packet)) waits = inr waits
server_waits l (Asks (Accepted id request)) waits = inr waits
server_waits l (Works (Desc slot bytes)) waits = inr (λ up. none_server _ l.work.server (waits up))
server_waits l (Works (Moved unit fault)) waits = inr (λ up. none_server _ l.work.server (waits up))
server_waits l (Works (Stored operation block count failed)) waits = inr (λ up. none_server _ l.work.server (waits up))
server_waits l (Works (Finished slot status)) waits = inr (λ up. none_server _ l.work.server (waits up))
server_waits l (Switches Stopped) waits = inr (λ up. refl)
server_waits l _ waits = inr waits

goes_on : (e : End) (l : DiskLog) (event : DiskEvent) → Waits e l → OpensAt e event ⊎ Waits e (after l event)
goes_on A l event waits = client_waits l event waits
goes_on B l event waits = server_waits l event waits

-- WHILE IT WAITS it does no work
never : (e : End) (l : DiskLog) (event : Worked) → Waits e l → May l (Works event) → WorkOf e event → ⊥
never e l event waits may work = grind arith

-- AMONG THE EVENTS up to its work its session opens
or_later : {X Y Z : Type 0} → X ⊎ Y → (Y → Z) → X ⊎ Z
or_later {X} {Y} {Z} (inl now) later = inl now
or_later {X} {Y} {Z} (inr on) later = inr (later on)

among : (e : End) (l : DiskLog) (between : List DiskEvent) (event : Worked) (behind : List DiskEvent) → Waits e l
    → Lawful May after l (between ++ Works event ∷ behind) → WorkOf e event → OpensAmong e between
among e l [] event behind waits lawful work = never e l event waits lawful.0 work
among e l (one ∷ between) event behind waits lawful work =
    or_later (goes_on e l one waits) (λ on. among e (after l one) between event behind on lawful.1 work)

pub new_session : (shape : Shape) (before : List DiskEvent) (ending : DiskEvent) (between : List DiskEvent) (e : End) (event : Worked) (behind : List DiskEvent)
    → IsLawful shape (before ++ ending ∷ (between ++ Works event ∷ behind)) → EndsSessions (log_of after (nothing_yet shape) before) ending
    → WorkOf e event → OpensAmong e between
new_session shape before ending between e event behind lawful ends work =
    let l = log_of after (nothing_yet shape) before in
    let rest = (lawful_split May after (nothing_yet shape) before (ending ∷ (between ++ Works event ∷ behind)) lawful).1 in
    among e (after l ending) between event behind (ended_waits e l ending ends) rest.1 work
