-- Along every run of a port that nobody forged, what is on the way between its ends fits, and no message of a session is refused.
use Rattle.std.proofs.Common.{◌≡◌, true, false, Option, Some, List, [], refl, sym, ap, ◌∙◌, subst, arith}
use Rattle.std.specs.Prelude.{is_some, ⊤}
use Rattle.ldc_link.specs.declared.phase.Role.TheVariants.{Initiator}
use Rattle.ldc_queue.specs.declared.end.End.TheVariants.{A, B}
use Rattle.ldc_queue.specs.Transcript.{Utterance}
use Rattle.runs.specs.Lawful.{log_of, run_lawful}
use Rattle.runs.specs.Run.{Run}
use Rattle.lane_models.specs.WireLog.{WireLog}
use Rattle.lane_models.proofs.Moving.{before_keeps}
use Rattle.lane_models.proofs.Refuting.{none_some, true_false}
use Rattle.lane_models.specs.NetEndState.{NetEndState, NetSession}
use Rattle.lane_models.specs.NetEndStep.{Already, Given, GroupsFull, Joining, Member, NetGives, NetJoins, untold}
use Rattle.lane_models.specs.NetEvent.{Asked, Gives, Injects, Joins, Loses, NetEvent, Pokes, Steps, Ticked, on_wire}
use Rattle.lane_models.specs.NetLaneState.{IsNetShape, NetLaneState, NetShape}
use Rattle.lane_models.specs.NetLaneStep.{NetLaneStep, moved_on}
use Rattle.lane_models.specs.PortLog.{PortLog, after, no_events}
use Rattle.lane_models.specs.PortState.{OfQueue, OnLane, PortEvent, PortState, PortStep, Receives, before, fresh_port}
use Rattle.port_laws.specs.NetCore.{lane_core}
use Rattle.port_laws.proofs.GroupsLearnt.{Fresh, fresh_more}
use Rattle.port_laws.proofs.PortCounts.{PortCounts, before_queue}
use Rattle.port_laws.proofs.PortTwoEnds.{PortTwoEnds, port_two_ends}
use Rattle.port_laws.proofs.RingActs.{Finds, open_both}
use Rattle.port_laws.proofs.RingRuns.{finds_before, fresh_kept, was_clean}
use Rattle.port_laws.proofs.GroupsExchanged.{guest_joins}
use Rattle.port_laws.proofs.ExchangeGuest.{Between, ExchangeStands, guest_exchange}
use Rattle.port_laws.proofs.ExchangeHub.{hub_exchange}
use Rattle.port_laws.proofs.WayRuns.{KeptWays, acts_of, never_alone, ways_step}
use Rattle.port_laws.proofs.PortRuns.{before_guest}

-- THE GROUPS of a guest are repeated nowhere
fresh_event : (u : NetLaneState) (l : PortLog) (event : NetEvent) (t : NetLaneState) → u.guest.groups ≡ l.members → NetLaneStep u event t → Fresh [] l.members → Fresh [] (after l (OnLane event)).members
fresh_event u l event t are step fresh = grind (arith, fresh_more)

-- A GUEST that is given a frame, or joins a group
given_exchange : (s : NetEndState) (given : Given) (t hub : NetEndState) (client server : List Utterance) (p : NetSession) → NetGives s given t → (s.session ≡ Some p → Between s hub client server p) → t.session ≡ Some p → Between t hub client server p
given_exchange s given t hub client server p gives had is = grind arith

untold_some : (session : Option NetSession) (q : NetSession) → untold session ≡ Some q → (p : NetSession) × (session ≡ Some p) × (q.telling ≡ p.telling) × (q.reply ≡ p.reply) × (q.untold ≡ true)
untold_some session q is = grind arith

joined_exchange : (s : NetEndState) (joining : Joining) (t hub : NetEndState) (client server : List Utterance) (q : NetSession) → NetJoins s joining t → ((p : NetSession) → s.session ≡ Some p → Between s hub client server p)
    → t.session ≡ Some q → Between t hub client server q
joined_exchange s (Already address) t hub client server q joins had is =
    subst (λ (x : NetEndState). Between x hub client server q) (sym joins.1) (had q (ap (λ (x : NetEndState). x.session) (sym joins.1) ∙ is))
joined_exchange s (GroupsFull address) t hub client server q joins had is =
    subst (λ (x : NetEndState). Between x hub client server q) (sym joins.2) (had q (ap (λ (x : NetEndState). x.session) (sym joins.2) ∙ is))
joined_exchange s (Member address) t hub client server q joins had is =
    let there = untold_some s.session q (ap (λ (x : NetEndState). x.session) (sym joins.3) ∙ is) in
    rw joins.3 (guest_joins _ _ _ _ q _ _ _ _ there.2 there.3 there.4 (had there.0 there.1))

-- AN EVENT
lane_exchange : (shape : NetShape) (u t : PortState) (l : PortLog) (event : NetEvent) → OfQueue u event → Finds shape u l → NetLaneStep u.lane event t.lane → (moved_on l.wire (on_wire event)).forged ≡ false
    → PortCounts shape t (after l (OnLane event)) → PortTwoEnds shape (lane_core t.lane) (after l (OnLane event)) → Fresh [] u.lane.guest.groups → ExchangeStands u.lane l
    → ExchangeStands t.lane (after l (OnLane event))
lane_exchange shape u t l (Steps A answer) of_queue finds step clean counts two_ends fresh exchange = guest_exchange shape u t l answer step.left (acts_of shape A u t l answer finds step counts two_ends) exchange
lane_exchange shape u t l (Steps B answer) of_queue finds step clean counts two_ends fresh exchange = hub_exchange shape u t l answer step.left (acts_of shape B u t l answer finds step counts two_ends) fresh exchange
lane_exchange shape u t l (Asked A lost) of_queue finds step clean counts two_ends fresh exchange = λ p up other some. none_some p (sym (ap (λ (x : NetLaneState). x.guest.session) step.1) ∙ some)
lane_exchange shape u t l (Asked B lost) of_queue finds step clean counts two_ends fresh exchange =
    λ p up other some.
    let here : u.lane.guest.session ≡ Some p = sym (ap (λ (x : NetLaneState). x.guest.session) step.1) ∙ some in
    let both = open_both Initiator shape.slots [] u.lane.guest l.guest finds.ready.guest in
    never_alone shape u l _ finds (λ gone. true_false (sym (ap is_some here) ∙ both.shut gone)) (sym (ap (λ (x : NetLaneState). x.wire.wire.end_a) step.1) ∙ up)
lane_exchange shape u t l (Ticked queued lost) of_queue finds step clean counts two_ends fresh exchange = λ p up other some. none_some p (sym (ap (λ (x : NetLaneState). x.guest.session) step.1.1) ∙ some)
lane_exchange shape u t l (Gives A given) of_queue finds step clean counts two_ends fresh exchange =
    subst (λ (x : NetLaneState). ExchangeStands x (after l (OnLane (Gives A given)))) (sym step.1)
    (λ p up other some. given_exchange u.lane.guest given t.lane.guest u.lane.hub l.transcript.a l.transcript.b p step.0 (λ is. exchange p up other is) some)
lane_exchange shape u t l (Gives B given) of_queue finds step clean counts two_ends fresh exchange = absurd of_queue
lane_exchange shape u t l (Joins joining) of_queue finds step clean counts two_ends fresh exchange =
    subst (λ (x : NetLaneState). ExchangeStands x (after l (OnLane (Joins joining)))) (sym step.1)
    (λ p up other some. joined_exchange u.lane.guest joining t.lane.guest u.lane.hub l.transcript.a l.transcript.b p step.0 (λ q is. exchange q up other is) some)
lane_exchange shape u t l (Injects e packet) of_queue finds step clean counts two_ends fresh exchange = true_false clean
lane_exchange shape u t l (Pokes e at bytes) of_queue finds step clean counts two_ends fresh exchange = true_false clean
lane_exchange shape u t l (Loses A packet) of_queue finds step clean counts two_ends fresh exchange =
    subst (λ (x : NetLaneState). ExchangeStands x (after l (OnLane (Loses A packet)))) (sym step.1) (λ p up other some. exchange p up other some)
lane_exchange shape u t l event of_queue finds step clean counts two_ends fresh exchange =
    subst (λ (x : NetLaneState). ExchangeStands x (after l (OnLane event))) (sym step.1) (λ p up other some. exchange p up other some)

-- ALONG EVERY RUN
pub record KeptExchange (shape : NetShape) (s : PortState) (l : PortLog) : Type 0 where
  pub ways : KeptWays shape s l
  pub fresh : Fresh [] l.members
  pub exchange : l.wire.forged ≡ false → ExchangeStands s.lane l

pub before_exchange : (event : NetEvent) (s : PortState) (l : PortLog) → ExchangeStands s.lane l → ExchangeStands (before event s).lane l
before_exchange event s l exchange = before_keeps (λ (x : PortState). ExchangeStands x.lane l) event s (λ frame frames p up other some. exchange p up other some) exchange

exchange_step : (shape : NetShape) → IsNetShape shape → (s : PortState) (l : PortLog) (event : PortEvent) (t : PortState) → KeptExchange shape s l → PortStep s event t → KeptExchange shape t (after l event)
exchange_step shape is s l (OnLane event) t had step =
    let ways : KeptWays shape t (after l (OnLane event)) = ways_step shape is s l (OnLane event) t had.ways step in
    let are : (before event s).lane.guest.groups ≡ l.members = ap (λ (x : NetEndState). x.groups) (before_guest event s) ∙ had.ways.kept.counts.members in
    record {
      ways = ways;
      fresh = fresh_event (before event s).lane l event t.lane are step.1 had.fresh;
      exchange = λ clean.
          let wire : t.lane.wire.forged ≡ false = ap (λ (w : WireLog). w.forged) ways.kept.counts.wire ∙ clean in
          let was : l.wire.forged ≡ false = was_clean l.wire event clean in
          lane_exchange shape (before event s) t l event (before_queue event s step.0) (finds_before shape s l event is had.ways.kept was) step.1 clean ways.kept.counts
          (port_two_ends shape t (after l (OnLane event)) is ways.kept.counts wire) (subst (Fresh []) (sym are) had.fresh) (before_exchange event s l (had.exchange was));
    }
exchange_step shape is s l (Receives frame) t had step = record {
  ways = ways_step shape is s l (Receives frame) t had.ways step;
  fresh = had.fresh;
  exchange = λ clean. subst (λ (x : PortState). ExchangeStands x.lane (after l (Receives frame))) (sym step.2) (had.exchange clean);
}

pub port_exchange : (shape : NetShape) (events : List PortEvent) (s : PortState) → IsNetShape shape → Run PortStep (fresh_port shape) events s → KeptExchange shape s (log_of after (no_events shape) events)
port_exchange shape events s is run =
    (run_lawful PortStep (λ (l : PortLog) (e : PortEvent). ⊤) after (KeptExchange shape) (λ (x : PortState) (l : PortLog) (e : PortEvent) (y : PortState) had step. (tt, exchange_step shape is x l e y had step))
    (fresh_port shape) s (no_events shape) events
    (record {
      ways = record { kept = fresh_kept shape is; ways = λ clean up other some. absurd (some refl) };
      fresh = tt;
      exchange = λ clean p up other some. none_some p some;
    }) run).1
