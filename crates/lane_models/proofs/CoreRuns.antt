-- What is known of two ends and the wire along every run, in the log of its events.
use Rattle.std.proofs.Common.{◌≡◌, ℕ, ◌+◌, ◌<◌, ◌≤◌, false, List, [], ◌∷◌, ◌++◌, length, sym, ap, ◌∙◌, subst, arith, length-append}
use Rattle.runs.specs.Lawful.{Lawful, log_of, run_lawful}
use Rattle.runs.specs.Run.{Run}
use Rattle.ldc_link.specs.declared.phase.Role.{Role}
use Rattle.ldc_link.specs.declared.phase.Role.TheVariants.{Initiator}
use Rattle.ldc_queue.specs.declared.end.ChannelState.TheVariants.{Down, Resetting}
use Rattle.ldc_queue.specs.declared.end.End.{End}
use Rattle.ldc_queue.specs.Wire.{state_of}
use Rattle.vio_handshake.specs.declared.session.Offer.{Offer}
use Rattle.lane_models.specs.TranscriptLog.{nothing_said}
use Rattle.lane_models.specs.WireEvent.{WireEvent}
use Rattle.lane_models.specs.WireLog.{WireLog, wire_moved}
use Rattle.lane_models.proofs.EndUttering.{EndSpeaks, speaks_step}
use Rattle.lane_models.proofs.Lifting.{ActsKeep, CoreHolds, EndsAll, core_step, ends_step}
use Rattle.lane_models.specs.CoreLog.{CoreLog, RoomStands, UpStands, after, nothing_yet}
use Rattle.lane_models.specs.LaneCore.{CoreEvent, CoreFits, CoreStands, CoreStep, LaneCore, WireStands, end_of, fresh_core, wire_after}
use Rattle.lane_models.specs.Sides.{Sides, sides_of}

-- THE QUEUES
pub record Room (n : ℕ) (w : WireLog) : Type 0 where
  pub to_a : length w.wire.to_a + 1 ≤ n
  pub to_b : length w.wire.to_b + 1 ≤ n

one_more : (n : ℕ) (waiting : List (List ℕ)) (packet : List ℕ) → length waiting + 1 < n → length (waiting ++ packet ∷ []) + 1 ≤ n
one_more n waiting packet room = omega (arith, room, length-append waiting (packet ∷ []))

room_wire : (n : ℕ) (w : WireLog) (event : WireEvent) → WireStands n w event → Room n w → Room n (wire_moved w event)
room_wire n w event stands room = grind (arith, one_more)

pub room_after : (n : ℕ) (w : WireLog) (event : CoreEvent) → 1 ≤ n → CoreStands n w event → Room n w → Room n (wire_after w event)
room_after n w event some stands room = grind (arith, room_wire)

-- WHO IS UP
abbrev IsShut : End → LaneCore → Type 0
IsShut e s = state_of e s.wire.wire ≡ Down → (end_of e s).is_open ≡ false

shut_step : (e : End) (s : LaneCore) (event : CoreEvent) (t : LaneCore) → CoreStep s event t → IsShut e s → state_of e (wire_after s.wire event).wire ≡ Down → (end_of e t).is_open ≡ false
shut_step e s event t step shut down = grind arith

abbrev NotBoth : WireLog → Type 0
NotBoth w = w.wire.end_a ≡ Resetting → w.wire.end_b ≡ Resetting → ⊥

one_waits : (w : WireLog) (event : CoreEvent) → NotBoth w → NotBoth (wire_after w event)
one_waits w event one a b = grind arith

up_step : (s : LaneCore) (event : CoreEvent) (t : LaneCore) → CoreStep s event t → UpStands s → UpStands t
up_step s event t step up = record {
  one = λ a b. one_waits s.wire event up.one (sym (ap (λ (w : WireLog). w.wire.end_a) step.wire) ∙ a) (sym (ap (λ (w : WireLog). w.wire.end_b) step.wire) ∙ b);
  closed = λ e down. shut_step e s event t step (up.closed e) (sym (ap (λ (w : WireLog). state_of e w.wire) step.wire) ∙ down);
}

-- ALL THAT IS KNOWN, with what acts keep where nobody forged
pub record Knows (Holds : Role → Sides → Type 0) (s : LaneCore) (l : CoreLog) : Type 0 where
  pub entries : s.entries ≡ l.entries
  pub some : 1 ≤ s.entries
  pub wire : s.wire ≡ l.wire
  pub speaks : EndsAll EndSpeaks s l.transcript
  pub holds : CoreHolds Holds s l.transcript
  pub room : RoomStands l
  pub up : UpStands s

knows_step : (Holds : Role → Sides → Type 0) → ActsKeep Holds → (s : LaneCore) (l : CoreLog) (event : CoreEvent) (t : LaneCore) → Knows Holds s l → CoreStep s event t
    → Knows Holds t (after l event)
knows_step Holds keep s l event t knows step = record {
  entries = step.entries ∙ knows.entries;
  some = omega (arith, step.entries, knows.some);
  wire = step.wire ∙ ap (λ (w : WireLog). wire_after w event) knows.wire;
  speaks = ends_step EndSpeaks (λ role c move x turns speaks moves. speaks_step role c move x turns speaks moves) s event t l.transcript knows.speaks step;
  holds = core_step Holds keep s l.transcript event t knows.holds step;
  room = record { to_a = room.to_a; to_b = room.to_b };
  up = up_step s event t step knows.up;
}
  where
    was : Room s.entries s.wire
    was = subst (λ (n : ℕ). Room n s.wire) (sym knows.entries) (subst (Room l.entries) (sym knows.wire) (record { to_a = knows.room.to_a; to_b = knows.room.to_b }))

    room : Room l.entries (wire_after l.wire event)
    room = subst (λ (w : WireLog). Room l.entries (wire_after w event)) knows.wire
        (subst (λ (n : ℕ). Room n (wire_after s.wire event)) knows.entries (room_after s.entries s.wire event knows.some step.stands was))

first_knows : (Holds : Role → Sides → Type 0) (entries : ℕ) (asks answers : Offer) → CoreFits entries asks answers → Holds Initiator (sides_of (fresh_core entries asks answers) nothing_said)
    → Knows Holds (fresh_core entries asks answers) (nothing_yet entries)
first_knows Holds entries asks answers fits first = grind arith

-- ALONG EVERY RUN, and what of each event follows
pub knows_run : (Holds : Role → Sides → Type 0) → ActsKeep Holds → (May : CoreLog → CoreEvent → Type 0)
    → ((s : LaneCore) (l : CoreLog) (event : CoreEvent) (t : LaneCore) → Knows Holds s l → CoreStep s event t → May l event)
    → (entries : ℕ) (asks answers : Offer) (events : List CoreEvent) (s : LaneCore) → CoreFits entries asks answers
    → Holds Initiator (sides_of (fresh_core entries asks answers) nothing_said) → Run CoreStep (fresh_core entries asks answers) events s
    → Lawful May after (nothing_yet entries) events × Knows Holds s (log_of after (nothing_yet entries) events)
knows_run Holds keep May may entries asks answers events s fits first run =
    run_lawful CoreStep May after (Knows Holds) (λ (x : LaneCore) (l : CoreLog) (e : CoreEvent) (y : LaneCore) knows step. (may x l e y knows step, knows_step Holds keep x l e y knows step))
    (fresh_core entries asks answers) s (nothing_yet entries) events (first_knows Holds entries asks answers fits first) run
