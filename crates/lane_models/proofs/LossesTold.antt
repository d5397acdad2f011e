-- A wire is lossy exactly where a packet was lost behind the last event that emptied the queues.
use Rattle.std.proofs.Common.{◌≡◌, ℕ, true, List, [], ◌∷◌, ◌++◌, sym, ap, ◌∙◌, subst, inl, inr, ◌⊎◌, arith}
use Rattle.runs.specs.Lawful.{Lawful, log_append, log_of}
use Rattle.runs.specs.Run.{Run}
use Rattle.ldc_queue.specs.declared.end.End.{End}
use Rattle.ldc_queue.specs.Wire.{waiting_for}
use Rattle.vio_handshake.specs.declared.session.Offer.{Offer}
use Rattle.lane_models.specs.WireEvent.{Lost}
use Rattle.lane_models.specs.WireLog.{WireLog}
use Rattle.lane_models.specs.CoreLog.{CoreLog, after, nothing_yet}
use Rattle.lane_models.specs.LaneCore.{CoreEvent, CoreFits, CoreStep, LaneCore, OnChannel, fresh_core}
use Rattle.lane_models.specs.LossStands.{Empties, EmptiesNone, LossAmong, LossStands}
use Rattle.lane_models.proofs.CoreLaws.{wire_is}

-- EACH EVENT
pub record LosesOne (event : CoreEvent) : Type 0 where
  pub e : End
  pub packet : List ℕ
  pub is : event ≡ OnChannel (Lost e packet)

was_lossy : (l : CoreLog) (event : CoreEvent) → (after l event).wire.lossy ≡ true → LosesOne event ⊎ ((l.wire.lossy ≡ true) × EmptiesNone l event)
was_lossy l event is = grind arith

stays_lossy : (l : CoreLog) (event : CoreEvent) → l.wire.lossy ≡ true → EmptiesNone l event → (after l event).wire.lossy ≡ true
stays_lossy l event is keeps = grind arith

-- ALL EVENTS
shifted : (l : CoreLog) (event : CoreEvent) (events : List CoreEvent) → LossAmong (after l event) events → LossAmong l (event ∷ events)
shifted l event events loss = record {
  before = event ∷ loss.before;
  e = loss.e;
  packet = loss.packet;
  behind = loss.behind;
  events_are = ap (λ (xs : List CoreEvent). event ∷ xs) loss.events_are;
  kept = loss.kept;
}

lost_first : (l : CoreLog) (event : CoreEvent) (events : List CoreEvent) → LosesOne event → Lawful EmptiesNone after (after l event) events → LossAmong l (event ∷ events)
lost_first l event events loses kept = record {
  before = [];
  e = loses.e;
  packet = loses.packet;
  behind = events;
  events_are = ap (λ (x : CoreEvent). x ∷ events) loses.is;
  kept = subst (λ (x : CoreEvent). Lawful EmptiesNone after (after l x) events) loses.is kept;
}

lost_since : (l : CoreLog) (events : List CoreEvent) → (log_of after l events).wire.lossy ≡ true
    → LossAmong l events ⊎ ((l.wire.lossy ≡ true) × Lawful EmptiesNone after l events)
lost_since l [] is = inr (is, tt)
lost_since l (event ∷ events) is = later (lost_since (after l event) events is)
  where
    here : Lawful EmptiesNone after (after l event) events → LosesOne event ⊎ ((l.wire.lossy ≡ true) × EmptiesNone l event)
        → LossAmong l (event ∷ events) ⊎ ((l.wire.lossy ≡ true) × Lawful EmptiesNone after l (event ∷ events))
    here kept (inl loses) = inl (lost_first l event events loses kept)
    here kept (inr before) = inr (before.0, (before.1, kept))

    later : LossAmong (after l event) events ⊎ (((after l event).wire.lossy ≡ true) × Lawful EmptiesNone after (after l event) events)
        → LossAmong l (event ∷ events) ⊎ ((l.wire.lossy ≡ true) × Lawful EmptiesNone after l (event ∷ events))
    later (inl loss) = inl (shifted l event events loss)
    later (inr now) = here now.1 (was_lossy l event now.0)

lossy_since : (l : CoreLog) (events : List CoreEvent) → l.wire.lossy ≡ true → Lawful EmptiesNone after l events → (log_of after l events).wire.lossy ≡ true
lossy_since l [] is kept = is
lossy_since l (event ∷ events) is kept = lossy_since (after l event) events (stays_lossy l event is kept.0) kept.1

lost_in_log : (entries : ℕ) (events : List CoreEvent) → (log_of after (nothing_yet entries) events).wire.lossy ≡ true → LossStands entries events
lost_in_log entries events is = grind (arith, lost_since)

lossy_in_log : (entries : ℕ) (events : List CoreEvent) → LossStands entries events → (log_of after (nothing_yet entries) events).wire.lossy ≡ true
lossy_in_log entries events loss =
    let l = nothing_yet entries in
    let lost = OnChannel (Lost loss.e loss.packet) in
    let there : CoreLog = log_of after l (loss.before ++ lost ∷ []) in
    let first : there ≡ after (log_of after l loss.before) lost = log_append after l loss.before (lost ∷ []) in
    let lossy : there.wire.lossy ≡ true = ap (λ (x : CoreLog). x.wire.lossy) first in
    let split : log_of after l (loss.before ++ lost ∷ loss.behind) ≡ log_of after there loss.behind =
    log_append after l loss.before (lost ∷ loss.behind) ∙ ap (λ (x : CoreLog). log_of after x loss.behind) (sym first) in
    ap (λ (xs : List CoreEvent). (log_of after l xs).wire.lossy) loss.events_are ∙ ap (λ (x : CoreLog). x.wire.lossy) split ∙ lossy_since there loss.behind lossy loss.kept

-- EACH RUN
pub loss_told : (entries : ℕ) (asks answers : Offer) (events : List CoreEvent) (s : LaneCore) → CoreFits entries asks answers → Run CoreStep (fresh_core entries asks answers) events s
    → s.wire.lossy ≡ true → LossStands entries events
loss_told entries asks answers events s fits run is =
    lost_in_log entries events (ap (λ (w : WireLog). w.lossy) (sym (wire_is entries asks answers events s fits run)) ∙ is)

pub loss_kept : (entries : ℕ) (asks answers : Offer) (events : List CoreEvent) (s : LaneCore) → CoreFits entries asks answers → Run CoreStep (fresh_core entries asks answers) events s
    → LossStands entries events → s.wire.lossy ≡ true
loss_kept entries asks answers events s fits run loss =
    ap (λ (w : WireLog). w.lossy) (wire_is entries asks answers events s fits run) ∙ lossy_in_log entries events loss

-- what empties the queues
pub queues_emptied : (l : CoreLog) (event : CoreEvent) (e : End) → Empties l event → waiting_for e (after l event).wire.wire ≡ []
queues_emptied l event end up = grind arith
