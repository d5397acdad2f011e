-- Where nobody forged, an end resets itself for a gap alone, and only once a packet was lost.
use Rattle.std.proofs.Common.{◌≡◌, ℕ, false, Option, List, refl, sym, ap, ◌∙◌, subst, inl, inr}
use Rattle.runs.specs.Lawful.{Lawful}
use Rattle.runs.specs.Run.{Run}
use Rattle.ldc_queue.specs.declared.end.End.{End}
use Rattle.ldc_queue.specs.declared.end.End.TheVariants.{A, B}
use Rattle.vio_tag.specs.declared.cause.Cause.{Cause}
use Rattle.lane_models.specs.WireAt.{IsOwnReset, UnforgedReset}
use Rattle.lane_models.specs.WireEvent.{ByStep, Giver, Reset, giver}
use Rattle.lane_models.specs.WireLog.{WireLog}
use Rattle.lane_laws.specs.DiskLog.{after, nothing_yet}
use Rattle.lane_models.specs.ClientRule as client_rules
use Rattle.lane_models.specs.ClientStep.{ClientFails}
use Rattle.lane_models.specs.ClientTaking as client
use Rattle.lane_models.specs.DiskEvent.{DiskEvent, OnWire}
use Rattle.lane_models.specs.LaneState.{IsShape, LaneState, Shape, fresh}
use Rattle.lane_models.specs.LaneStep.{EndOnWire, LaneStep, ResetBy, reach}
use Rattle.lane_models.specs.Seeing.{seen}
use Rattle.lane_models.specs.ServerRule as server_rules
use Rattle.lane_models.specs.ServerState.{Ends, Progress, ServerSession, Work}
use Rattle.lane_models.specs.ServerStep.{ServerFails, WorkFails}
use Rattle.lane_models.specs.ServerTaking as server
use Rattle.lane_laws.proofs.ClientInSession.{client_hears_in_session}
use Rattle.lane_laws.proofs.LaneCounting.{run_knows}
use Rattle.lane_laws.proofs.NoOwnReset.{client_finds_done, server_ends_all, server_fetches_all}
use Rattle.lane_laws.proofs.ServerInSession.{server_hears_in_session}
use Rattle.lane_laws.proofs.AlongRuns.{reached_lawful}
use Rattle.lane_laws.proofs.PacketResets.{ClientHearsBadly, ServerHearsBadly, client_packet, server_packet}
use Rattle.lane_laws.specs.Laws.{UnforgedAt}
use Rattle.lane_laws.proofs.FlightRuns.{log_at}

clean_log : (shape : Shape) (events : List DiskEvent) (s : LaneState) → IsShape shape → Run LaneStep (fresh shape) events s → s.wire.forged ≡ false → (log_at shape events).wire.forged ≡ false
clean_log shape events s sound run clean = sym (ap (λ (w : WireLog). w.forged) (run_knows shape events s sound run).all.stands.wire) ∙ clean

-- THE CLIENT
client_never : (shape : Shape) (events : List DiskEvent) (s : LaneState) (cause : Cause) → IsShape shape → Run LaneStep (fresh shape) events s → s.wire.forged ≡ false
    → ClientHearsBadly s (log_at shape events).transcript cause → ⊥
client_never shape events s cause sound run clean badly =
    let goes = client_hears_in_session shape events s badly.session badly.link badly.message (client.Resets cause) sound run (clean_log shape events s sound run clean) badly.is badly.up
    badly.next.up badly.next.front badly.hears in
    let never : client.Resets cause ≡ client.GoesOn goes.0 = goes.1 in cc never

client_own : (rule : client_rules.ClientRule) (shape : Shape) (events : List DiskEvent) (s : LaneState) (cause : Cause) (packet : Option (List ℕ)) → IsShape shape → Run LaneStep (fresh shape) events s
    → s.wire.forged ≡ false → client_rules.client_rule s.client (seen A s.shape.entries s.wire.wire) ≡ rule → ClientFails rule s.client s.memory cause packet → IsOwnReset s.wire cause
client_own (client_rules.Takes bytes) shape events s cause packet sound run clean rule fails =
    elim (client_packet shape events s bytes cause sound run clean rule fails.1) [
      | inl own ↦ own
      | inr badly ↦ absurd (client_never shape events s cause sound run clean badly)
    ]
client_own (client_rules.Completes session) shape events s cause packet sound run clean rule fails =
    absurd (fails.1 (client_finds_done shape events s session sound run (clean_log shape events s sound run clean) rule))
client_own _ shape events s cause packet sound run clean rule fails = absurd fails

-- THE SERVER
server_never : (shape : Shape) (events : List DiskEvent) (s : LaneState) (cause : Cause) → IsShape shape → Run LaneStep (fresh shape) events s → s.wire.forged ≡ false
    → ServerHearsBadly s (log_at shape events).transcript cause → ⊥
server_never shape events s cause sound run clean badly =
    let goes = server_hears_in_session shape events s badly.session badly.link badly.message (server.Resets cause) sound run (clean_log shape events s sound run clean) badly.is badly.up
    badly.next.up badly.next.front badly.hears in
    let never : server.Resets cause ≡ server.GoesOn goes.0 false = goes.1 in cc never

work_own : (p : Progress) (shape : Shape) (events : List DiskEvent) (s : LaneState) (session : ServerSession) (work : Work) (cause : Cause) (new : List ℕ) → IsShape shape
    → Run LaneStep (fresh shape) events s → s.wire.forged ≡ false → server_rules.server_rule s.server (seen B s.shape.entries s.wire.wire) ≡ server_rules.Serves session work
    → WorkFails p s.server session work (reach s (seen B s.shape.entries s.wire.wire).both) cause new → IsOwnReset s.wire cause
work_own (Ends status) shape events s session work cause new sound run clean rule fails =
    absurd (server_ends_all shape events s session work status cause new sound run (clean_log shape events s sound run clean) rule fails)
work_own _ shape events s session work cause new sound run clean rule fails = absurd fails

server_own : (rule : server_rules.ServerRule) (shape : Shape) (events : List DiskEvent) (s : LaneState) (cause : Cause) (packet : Option (List ℕ)) (new : List ℕ) → IsShape shape
    → Run LaneStep (fresh shape) events s → s.wire.forged ≡ false → server_rules.server_rule s.server (seen B s.shape.entries s.wire.wire) ≡ rule
    → ServerFails rule s.server (reach s (seen B s.shape.entries s.wire.wire).both) cause packet new → IsOwnReset s.wire cause
server_own (server_rules.Takes bytes) shape events s cause packet new sound run clean rule fails =
    elim (server_packet shape events s bytes cause sound run clean rule fails.1) [
      | inl own ↦ own
      | inr badly ↦ absurd (server_never shape events s cause sound run clean badly)
    ]
server_own (server_rules.Fetches session) shape events s cause packet new sound run clean rule fails =
    absurd (server_fetches_all shape events s session cause sound run (clean_log shape events s sound run clean) rule fails.1)
server_own (server_rules.Serves session work) shape events s cause packet new sound run clean rule fails =
    work_own work.progress shape events s session work cause new sound run clean rule fails.1
server_own _ shape events s cause packet new sound run clean rule fails = absurd fails

-- A STEP by which an end resets itself
end_own : (e : End) (shape : Shape) (events : List DiskEvent) (s : LaneState) (cause : Cause) (packet : Option (List ℕ)) (lost : ℕ) (t : LaneState) → IsShape shape → Run LaneStep (fresh shape) events s
    → s.wire.forged ≡ false → EndOnWire e s (Reset e cause packet lost) t → IsOwnReset s.wire cause
end_own A shape events s cause packet lost t sound run clean step =
    client_own (client_rules.client_rule s.client (seen A s.shape.entries s.wire.wire)) shape events s cause packet sound run clean refl step.step.0
end_own B shape events s cause packet lost t sound run clean step =
    server_own (server_rules.server_rule s.server (seen B s.shape.entries s.wire.wire)) shape events s cause packet t.memory sound run clean refl step.1.step.1.0

pub own_reset : (shape : Shape) (events : List DiskEvent) (s : LaneState) (e : End) (cause : Cause) (packet : Option (List ℕ)) (lost : ℕ) (t : LaneState) → IsShape shape
    → Run LaneStep (fresh shape) events s → s.wire.forged ≡ false → giver cause ≡ ByStep → LaneStep s (OnWire (Reset e cause packet lost)) t → IsOwnReset s.wire cause
own_reset shape events s e cause packet lost t sound run clean by step =
    end_own e shape events s cause packet lost t sound run clean (subst (λ (g : Giver). ResetBy g e s cause packet lost t) by step)

-- IN THE LOG
by_giver : (by : Giver) (w : WireLog) (cause : Cause) → (by ≡ ByStep → w.forged ≡ false → IsOwnReset w cause) → UnforgedReset by w cause
by_giver ByStep w cause own = own refl
by_giver _ w cause own = tt

event_unforged : (shape : Shape) (events : List DiskEvent) (s : LaneState) (event : DiskEvent) (t : LaneState) → IsShape shape → Run LaneStep (fresh shape) events s → LaneStep s event t
    → UnforgedAt (log_at shape events) event
event_unforged shape events s (OnWire (Reset e cause packet lost)) t sound run step =
    subst (λ (w : WireLog). UnforgedReset (giver cause) w cause) (run_knows shape events s sound run).all.stands.wire
    (by_giver (giver cause) s.wire cause (λ by clean. own_reset shape events s e cause packet lost t sound run clean by step))
event_unforged shape events s _ t sound run step = tt

pub unforged_lawful : (shape : Shape) (events : List DiskEvent) (s : LaneState) → IsShape shape → Run LaneStep (fresh shape) events s → Lawful UnforgedAt after (nothing_yet shape) events
unforged_lawful shape events s sound run =
    reached_lawful UnforgedAt shape (λ before x event y run_x step. event_unforged shape before x event y sound run_x step) events s run
