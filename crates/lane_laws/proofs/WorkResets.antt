-- What ends a session without a packet has its ground in the ring: an acknowledged slot that isn't DONE, or in a server's range a slot that
-- isn't READY or a copy that was refused.
use Rattle.std.proofs.Common.{◌≡◌, ℕ, ◌≤◌, Option, Some, None, List, sym, subst, arith, inl, inr}
use Rattle.cookie_copy.specs.declared.fault.CopyFault.{CopyFault}
use Rattle.cookie_copy.specs.declared.fault.CopyFault.TheVariants as copy
use Rattle.dring.specs.declared.peer.RingFault.{RingFault}
use Rattle.dring.specs.Reaching.{RefusesFetch}
use Rattle.ldc_queue.specs.declared.end.End.{End}
use Rattle.ldc_queue.specs.declared.end.End.TheVariants.{A, B}
use Rattle.vio_tag.specs.declared.cause.Cause.{Cause}
use Rattle.vio_tag.specs.declared.cause.Cause.TheVariants as the_cause
use Rattle.lane_models.specs.WireEvent.{Reset}
use Rattle.lane_laws.specs.DiskLog.{DiskLog}
use Rattle.lane_laws.specs.WorkLaws.{InRange, InServer, MayFetch, OwnReset, ResetOf, WorkResetAt}
use Rattle.lane_laws.specs.WorkLog.{ServerCounts}
use Rattle.lane_models.specs.ClientRule as client
use Rattle.lane_models.specs.ClientStep.{ClientFails}
use Rattle.lane_models.specs.DiskEvent.{DiskEvent, OnWire}
use Rattle.lane_models.specs.LaneState.{LaneState}
use Rattle.lane_models.specs.LaneStep.{EndOnWire, LaneStep, WireStep, reach}
use Rattle.lane_models.specs.ServerRule as server
use Rattle.lane_models.specs.ServerState.{Ends, Progress, ServerSession, Work}
use Rattle.lane_models.specs.ServerStep.{ServerFails, WorkFails}
use Rattle.cookie_copy.specs.Reach.{Reach, copy_number}
use Rattle.lane_models.specs.ServerWork.{EndFails, FetchFails, cause_of, fetch_fault, slot_at, slot_fetched}
use Rattle.lane_laws.proofs.Ruling.{client_may}
use Rattle.lane_laws.proofs.RulesFree.{ServerFree, server_free}
use Rattle.lane_laws.proofs.RuleTests.{ServesFree}
use Rattle.lane_laws.specs.RuleFacts.{ClientMay}
use Rattle.lane_laws.proofs.EndResets.{LiesIn}
use Rattle.lane_laws.proofs.LaneResets.{by_giver}
use Rattle.lane_models.specs.Resetting.{LiesInPacket}
use Rattle.lane_laws.proofs.WorkNumbers.{Grounded, Serving, fetches_next, in_server, serving}
use Rattle.lane_laws.proofs.LaneViews.{at_client, at_server}
use Rattle.lane_laws.proofs.NoOwnReset.{below_other}

-- what lies in a packet
carried_reset : (l : DiskLog) (e : End) (cause : Cause) (packet : List ℕ) → LiesInPacket cause → ResetOf l e cause (Some packet)
carried_reset l e (the_cause.NotDone slot state) packet lies = absurd lies
carried_reset l e _ packet lies = tt

-- A CLIENT
client_reset : (s : LaneState) (l : DiskLog) (rule : client.ClientRule) (cause : Cause) (packet : Option (List ℕ)) → Grounded s l → LiesIn packet cause
    → ClientMay s.client (at_client s) rule → ClientFails rule s.client s.memory cause packet → ResetOf l A cause packet
client_reset s l rule cause packet grounded lies may fails = grind arith

-- A SERVER
number_small : (why : CopyFault) → (1 ≤ copy_number why) × (copy_number why ≤ 6)
number_small copy.Channel = (omega arith, omega arith)
number_small _ = (omega arith, omega arith)

asks_more : (s : LaneState) (l : DiskLog) (session : ServerSession) (now : Serving s l session) → InRange now.of.counts
asks_more s l session now = below_other now.of.counts.finished now.of.counts.asked now.finished now.unfinished

in_range : (s : LaneState) (l : DiskLog) (session : ServerSession) → Grounded s l → ServesFree s.server session → InServer l.work.server InRange
in_range s l session grounded free =
    let now : Serving s l session = serving s l session grounded free in in_server l.work.server now.of.counts InRange now.of.is (asks_more s l session now)

-- the descriptor that is fetched next, and its slot
record Fetching (l : DiskLog) (slot : ℕ) : Type 0 where
  counts : ServerCounts
  is : l.work.server ≡ Some counts
  next : MayFetch l slot counts
  in_range : InRange counts

fetching : (s : LaneState) (l : DiskLog) (session : ServerSession) → Grounded s l → ServerFree s.server (server.Fetches session) → Fetching l (slot_at s.server session.descs)
fetching s l session grounded free =
    let now : Serving s l session = serving s l session grounded free.0 in
    record { counts = now.of.counts; is = now.of.is; next = fetches_next s l session grounded free now; in_range = asks_more s l session now }

by_copy : (l : DiskLog) (why : CopyFault) (cause : Cause) → cause ≡ the_cause.Copy (copy_number why) → InServer l.work.server InRange → OwnReset l B cause
by_copy l why cause is ranged = subst (λ (c : Cause). OwnReset l B c) (sym is) ((number_small why).0, (number_small why).1, ranged)

still_asked : (l : DiskLog) (slot : ℕ) → Fetching l slot → InServer l.work.server InRange
still_asked l slot now = in_server l.work.server now.counts InRange now.is now.in_range

by_ring : (l : DiskLog) (fault : Option CopyFault) (bytes : List ℕ) (slot : ℕ) (why : RingFault) → RefusesFetch fault bytes why → Fetching l slot → OwnReset l B (cause_of slot why)
by_ring l fault bytes slot why refuses now = grind arith

by_fetch : (s : LaneState) (l : DiskLog) (reached : Reach) (slot : ℕ) (cause : Cause) → FetchFails s.server reached slot cause → Fetching l slot → OwnReset l B cause
by_fetch s l reached slot cause (inl fails) now = subst (λ (c : Cause). OwnReset l B c) (sym fails.2) (by_ring l (fetch_fault s.server reached slot) (slot_fetched s.server reached slot) slot fails.0 fails.1 now)
by_fetch s l reached slot cause (inr fails) now = by_copy l fails.0 cause fails.3 (still_asked l slot now)

by_end : (s : LaneState) (l : DiskLog) (reached : Reach) (slot : ℕ) (work : Work) (status : ℕ) (cause : Cause) (new : List ℕ) → EndFails s.server reached slot work status cause new
    → InServer l.work.server InRange → OwnReset l B cause
by_end s l reached slot work status cause new (inl fails) ranged = by_copy l fails.0 cause fails.2 ranged
by_end s l reached slot work status cause new (inr fails) ranged = by_copy l fails.0 cause fails.3 ranged

by_work : (p : Progress) (s : LaneState) (l : DiskLog) (session : ServerSession) (work : Work) (reached : Reach) (cause : Cause) (new : List ℕ)
    → WorkFails p s.server session work reached cause new → InServer l.work.server InRange → OwnReset l B cause
by_work (Ends status) s l session work reached cause new fails ranged = by_end s l reached (slot_at s.server session.finished) work status cause new fails ranged
by_work _ s l session work reached cause new fails ranged = absurd fails

server_reset : (s : LaneState) (l : DiskLog) (rule : server.ServerRule) (reached : Reach) (cause : Cause) (packet : Option (List ℕ)) (new : List ℕ) → Grounded s l → LiesIn packet cause
    → ServerFree s.server rule → ServerFails rule s.server reached cause packet new → ResetOf l B cause packet
server_reset s l (server.Takes bytes) reached cause packet new grounded lies free fails =
    subst (λ (p : Option (List ℕ)). ResetOf l B cause p) (sym fails.0)
    (carried_reset l B cause bytes (subst (λ (p : Option (List ℕ)). LiesIn p cause) fails.0 lies))
server_reset s l (server.Fetches session) reached cause packet new grounded lies free fails =
    subst (λ (p : Option (List ℕ)). ResetOf l B cause p) (sym fails.0)
    (by_fetch s l reached (slot_at s.server session.descs) cause fails.1 (fetching s l session grounded free))
server_reset s l (server.Serves session work) reached cause packet new grounded lies free fails =
    subst (λ (p : Option (List ℕ)). ResetOf l B cause p) (sym fails.0)
    (by_work work.progress s l session work reached cause new fails.1 (in_range s l session grounded free.0))
server_reset s l _ reached cause packet new grounded lies free fails = absurd fails

end_reset : (e : End) (s : LaneState) (l : DiskLog) (cause : Cause) (packet : Option (List ℕ)) (lost : ℕ) (t : LaneState) → Grounded s l → LiesIn packet cause
    → EndOnWire e s (Reset e cause packet lost) t → (lost ≡ 0) × ResetOf l e cause packet
end_reset A s l cause packet lost t grounded lies step =
    (step.step.1, client_reset s l (client.client_rule s.client (at_client s)) cause packet grounded lies (client_may s.client (at_client s)) step.step.0)
end_reset B s l cause packet lost t grounded lies step = (
  step.1.step.1.1,
  server_reset s l (server.server_rule s.server (at_server s)) (reach s (at_server s).both) cause packet t.memory grounded lies
      (server_free s.server (at_server s)) step.1.step.1.0,
)

-- a reset that no step gave
asked_reset : (l : DiskLog) (e : End) (cause : Cause) (packet : Option (List ℕ)) (lost : ℕ) → packet ≡ None → lost ≡ 0 → OwnReset l e cause → (lost ≡ 0) × ResetOf l e cause packet
asked_reset l e cause packet lost none zero own = (zero, subst (λ (p : Option (List ℕ)). ResetOf l e cause p) (sym none) own)

reset_in : (e : End) (s : LaneState) (l : DiskLog) (cause : Cause) (packet : Option (List ℕ)) (lost : ℕ) (t : LaneState) → Grounded s l → LiesIn packet cause
    → WireStep s (Reset e cause packet lost) t → (lost ≡ 0) × ResetOf l e cause packet
reset_in A s l the_cause.Asked packet lost t grounded lies step = asked_reset l A the_cause.Asked packet lost step.0 step.1 tt
reset_in B s l the_cause.Asked packet lost t grounded lies step = asked_reset l B the_cause.Asked packet lost step.1.0 step.1.1 tt
reset_in A s l the_cause.Restart packet lost t grounded lies step = absurd step
reset_in B s l the_cause.Restart packet lost t grounded lies step = asked_reset l B the_cause.Restart packet lost step.1.0 step.1.1 tt
reset_in A s l the_cause.Tick packet lost t grounded lies step = asked_reset l A the_cause.Tick packet lost step.1.0 step.1.1 tt
reset_in B s l the_cause.Tick packet lost t grounded lies step = absurd step
reset_in e s l cause packet lost t grounded lies step = end_reset e s l cause packet lost t grounded lies step

pub own_resets_at : (s : LaneState) (l : DiskLog) (event : DiskEvent) (t : LaneState) → Grounded s l → LaneStep s event t → WorkResetAt l event
own_resets_at s l (OnWire (Reset e cause packet lost)) t grounded step =
    reset_in e s l cause packet lost t grounded (by_giver e s l.transcript cause packet lost t (grounded.knows.all.sound, grounded.knows.rests) step).carried step
own_resets_at s l _ t grounded step = tt
