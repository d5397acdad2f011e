-- A calm step of an end leaves the wire and the other end as they were, and the end still.
use Rattle.std.proofs.Common.{◌≡◌, ◌+◌, ◌⊎◌, inl, inr, true, false, Some, length, sym, subst, arith}
use Rattle.ldc_queue.specs.declared.end.ChannelState.TheVariants.{Up}
use Rattle.ldc_queue.specs.declared.end.End.{End}
use Rattle.ldc_queue.specs.declared.end.End.TheVariants.{A, B}
use Rattle.ldc_queue.specs.Wire.{peer_of}
use Rattle.lane_models.specs.WireEvent.{Idle}
use Rattle.lane_laws.specs.DiskLog.{DiskLog, after}
use Rattle.lane_models.specs.ClientPutting.{client_holds}
use Rattle.lane_models.specs.ClientRule as client_rules
use Rattle.lane_models.specs.DiskEvent.{DiskEvent, OnWire}
use Rattle.lane_models.specs.LaneState.{LaneState}
use Rattle.lane_models.specs.LaneStep.{LaneStep}
use Rattle.lane_models.specs.ServerPutting.{server_holds}
use Rattle.lane_models.specs.ServerRule as server_rules
use Rattle.lane_laws.proofs.ClientHolding.{holds_up}
use Rattle.lane_laws.proofs.LaneCounting.{knows_step}
use Rattle.lane_laws.proofs.Ruling.{client_may, server_may}
use Rattle.lane_laws.proofs.ServerSpeaking.{server_holds_up}
use Rattle.lane_models.proofs.EndsAtRest.{none_waits}
use Rattle.lane_laws.proofs.IdleLaw.{idle_client, idle_server, not_below}
use Rattle.lane_laws.proofs.IdleRules.{client_idles, server_idles}
use Rattle.lane_laws.proofs.WorkNumbers.{Grounded}
use Rattle.lane_laws.proofs.LaneViews.{at_client, at_server}
use Rattle.lane_laws.specs.CalmEnds.{AreStill, IsCalm, IsStill}

-- THE CLIENT idles, or finds no room
pub record ClientRested (s : LaneState) (event : DiskEvent) (t : LaneState) : Type 0 where
  pub event_is : event ≡ OnWire (Idle A)
  pub rule : client_rules.client_rule s.client (at_client s) ≡ client_rules.Idles
  pub same : t ≡ s

pub record ClientWaits (s t : LaneState) : Type 0 where
  pub holds : client_holds (client_rules.client_rule s.client (at_client s)) s.client ≡ Some t.client
  pub full : (at_client s).room ≡ false
  pub is : t ≡ record s { client = t.client; memory = t.memory }

abbrev pub ClientCalm : LaneState → DiskEvent → LaneState → Type 0
ClientCalm s event t = ClientRested s event t ⊎ ClientWaits s t

-- THE SERVER likewise, or it is stopped
pub record ServerRested (s : LaneState) (event : DiskEvent) (t : LaneState) : Type 0 where
  pub event_is : event ≡ OnWire (Idle B)
  pub rule : server_rules.server_rule s.server (at_server s) ≡ server_rules.Idles
  pub same : t ≡ s

pub record ServerWaits (s t : LaneState) : Type 0 where
  pub holds : server_holds (server_rules.server_rule s.server (at_server s)) s.server ≡ Some t.server
  pub full : (at_server s).room ≡ false
  pub is : t ≡ record s { server = t.server; memory = t.memory }

pub record ServerOff (s t : LaneState) : Type 0 where
  pub stopped : s.stopped ≡ true
  pub same : t ≡ s

abbrev pub ServerCalm : LaneState → DiskEvent → LaneState → Type 0
ServerCalm s event t = ServerRested s event t ⊎ (ServerWaits s t ⊎ ServerOff s t)

pub client_calm : (s : LaneState) (event : DiskEvent) (t : LaneState) → LaneStep s event t → IsCalm A event → ClientCalm s event t
client_calm s event t step calm = grind arith

pub server_calm : (s : LaneState) (event : DiskEvent) (t : LaneState) → LaneStep s event t → IsCalm B event → ServerCalm s event t
server_calm s event t step calm = grind arith

-- THE END IS STILL after it, and the other stays so
abbrev pub StaysStill : End → LaneState → Type 0
StaysStill A s = (s.wire.wire.end_a ≡ Up) × ((client_rules.client_rule s.client (at_client s) ≡ client_rules.Idles) ⊎ ((at_client s).room ≡ false))
StaysStill B s = (s.wire.wire.end_b ≡ Up) × ((server_rules.server_rule s.server (at_server s) ≡ server_rules.Idles) ⊎ ((at_server s).room ≡ false))

abbrev pub ServerStays : LaneState → Type 0
ServerStays s = (s.stopped ≡ true) ⊎ StaysStill B s

pub waits_up_a : (s t : LaneState) → ClientWaits s t → s.wire.wire.end_a ≡ Up
waits_up_a s t waits = holds_up s.client (at_client s) (client_rules.client_rule s.client (at_client s)) t.client (client_may s.client (at_client s)) waits.holds

pub waits_up_b : (s t : LaneState) → ServerWaits s t → s.wire.wire.end_b ≡ Up
waits_up_b s t waits = server_holds_up s.server (at_server s) (server_rules.server_rule s.server (at_server s)) t.server (server_may s.server (at_server s)) waits.holds

client_still : (s : LaneState) (event : DiskEvent) (t : LaneState) → ClientCalm s event t → StaysStill A t
client_still s event t calm = grind arith

server_still : (s : LaneState) (event : DiskEvent) (t : LaneState) → ServerCalm s event t → ServerStays t
server_still s event t calm = grind arith

client_keeps : (s : LaneState) (event : DiskEvent) (t : LaneState) → ClientCalm s event t → ServerStays s → ServerStays t
client_keeps s event t (inl rested) still = subst ServerStays (sym rested.same) still
client_keeps s event t (inr waits) still = subst ServerStays (sym waits.is) still

server_keeps : (s : LaneState) (event : DiskEvent) (t : LaneState) → ServerCalm s event t → StaysStill A s → StaysStill A t
server_keeps s event t calm still = grind arith

both_still : (e : End) (s : LaneState) (one : DiskEvent) (m : LaneState) (next : DiskEvent) (t : LaneState) → LaneStep s one m → IsCalm e one → LaneStep m next t → IsCalm (peer_of e) next
    → StaysStill A t × ServerStays t
both_still A s one m next t step calm then quiet =
    let client : ClientCalm s one m = client_calm s one m step calm in
    let server : ServerCalm m next t = server_calm m next t then quiet in
    (server_keeps m next t server (client_still s one m client), server_still m next t server)
both_still B s one m next t step calm then quiet =
    let server : ServerCalm s one m = server_calm s one m step calm in
    let client : ClientCalm m next t = client_calm m next t then quiet in
    (client_still m next t client, client_keeps m next t client (server_still s one m server))

-- IN THE WORDS OF THE LOG
is_still : (e : End) (s : LaneState) (l : DiskLog) → Grounded s l → StaysStill e s → IsStill e s l
is_still A s l grounded (up, inl rule) =
    let idles = client_idles s.client (at_client s) rule in
    record { up = up; still = inl (none_waits s.wire.wire.to_a idles.rests.first, idle_client s l grounded idles) }
is_still A s l grounded (up, inr full) = record { up = up; still = inr (not_below (length s.wire.wire.to_b + 1) s.shape.entries full) }
is_still B s l grounded (up, inl rule) =
    let idles = server_idles s.server (at_server s) rule in
    record { up = up; still = inl (none_waits s.wire.wire.to_b idles.first, idle_server s l grounded idles) }
is_still B s l grounded (up, inr full) = record { up = up; still = inr (not_below (length s.wire.wire.to_a + 1) s.shape.entries full) }

server_is_still : (s : LaneState) (l : DiskLog) → Grounded s l → ServerStays s → (s.stopped ≡ true) ⊎ IsStill B s l
server_is_still s l grounded (inl stopped) = inl stopped
server_is_still s l grounded (inr still) = inr (is_still B s l grounded still)

pub grounded_step : (s : LaneState) (l : DiskLog) (event : DiskEvent) (t : LaneState) → Grounded s l → LaneStep s event t → Grounded t (after l event)
grounded_step s l event t grounded step = record { knows = (knows_step s l event t grounded.knows step).1; sound = grounded.sound }

pub are_still : (e : End) (s : LaneState) (l : DiskLog) (one : DiskEvent) (m : LaneState) (next : DiskEvent) (t : LaneState) → Grounded s l → LaneStep s one m → IsCalm e one → LaneStep m next t
    → IsCalm (peer_of e) next → AreStill t (after (after l one) next)
are_still e s l one m next t grounded step calm then quiet =
    let both = both_still e s one m next t step calm then quiet in
    let behind : Grounded t (after (after l one) next) = grounded_step m (after l one) next t (grounded_step s l one m grounded step) then in
    record { client = is_still A t (after (after l one) next) behind both.0; server = server_is_still t (after (after l one) next) behind both.1 }
