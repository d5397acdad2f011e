-- An end of a port in session resets itself for the first cause that a packet has, and takes the packet where it has none.
use Rattle.std.proofs.Common.{◌≡◌, ℕ, Bool, true, Option, Some, None, List, refl, sym, subst, ap, ◌∙◌, arith}
use Rattle.std.specs.Prelude.{Result, Ok, Err, is_some, if◌then◌else◌}
use Rattle.cookie_copy.specs.Reach.{Reach}
use Rattle.runs.specs.Lawful.{log_of}
use Rattle.runs.specs.Run.{Run}
use Rattle.ldc_link.specs.declared.phase.Role.{Role}
use Rattle.ldc_link.specs.LinkState.{LinkState, is_up}
use Rattle.ldc_link.specs.Taking.{LinkTake}
use Rattle.ldc_packet.specs.declared.packet.Subtype.{Subtype}
use Rattle.ldc_queue.specs.declared.end.End.{End}
use Rattle.ldc_queue.specs.declared.end.End.TheVariants.{A, B}
use Rattle.ldc_queue.specs.Transcript.{Utterance}
use Rattle.vio_handshake.specs.declared.handshake.Phase.TheVariants.{Open}
use Rattle.vio_handshake.specs.Rules.{HandshakeTake, handshake_take, sid_fault}
use Rattle.vio_tag.specs.declared.cause.Cause.{Cause}
use Rattle.vio_tag.specs.declared.message.Message.{Message}
use Rattle.vio_tag.specs.declared.message.MsgBody.{MsgBody}
use Rattle.vio_tag.specs.declared.message.TagFault.{TagFault}
use Rattle.lane_models.specs.TranscriptLog.{TranscriptLog, transcript_of}
use Rattle.lane_models.proofs.CoreLaws.{stands_a, stands_b}
use Rattle.lane_models.proofs.EndCases.{stays_risen}
use Rattle.lane_models.proofs.EndStanding.{open_up, opened_phase}
use Rattle.lane_models.proofs.PacketCauses.{run_judges, take_refused}
use Rattle.lane_models.specs.LaneCore.{CoreEvent, CoreStep, transcript_behind}
use Rattle.lane_models.specs.PacketCauses.{Judges, LinkJudged, WholeJudged, fault_first, judged, judged_body, refused_by}
use Rattle.lane_models.specs.Standing.{EndStands}
use Rattle.lane_models.specs.NetEndRule.{NetRule, Takes, port_rule}
use Rattle.lane_models.specs.NetEndState.{NetEndState, NetSession}
use Rattle.lane_models.specs.NetEndStep.{NetFails}
use Rattle.lane_models.specs.NetEndTaking.{GoesOn, HearsLink, HearsWhole, NetTake, NetTakes, Resets, by_handshake, hears_message, in_session, reads, sid_first, takes_done}
use Rattle.lane_models.specs.NetEvent.{NetEvent}
use Rattle.lane_models.specs.NetLaneState.{IsNetShape, NetLaneState, NetShape, memory_of, net_end, reach_of, role_at, seen_at}
use Rattle.lane_models.specs.PortLog.{after, no_events}
use Rattle.lane_models.specs.PortState.{PortEvent, PortState, PortStep, before, fresh_port}
use Rattle.port_laws.specs.NetCore.{fresh_net_core, lane_core, net_core_at}
use Rattle.port_laws.specs.PortCore.{port_events}
use Rattle.port_laws.specs.PortCauses.{own_cause, port_cause}
use Rattle.port_laws.proofs.CoreLaws.{sizes_fit}
use Rattle.port_laws.proofs.EndMoves.{risen_same}
use Rattle.port_laws.proofs.PortRuns.{before_core, fresh_port_core, spoken_behind}

-- THE CAUSE of what an end makes of something
abbrev pub cause_in : NetTake → Option Cause
cause_in (GoesOn s opens memory) = None
cause_in (Resets cause) = Some cause

cause_if : (b : Bool) (one other : NetTake) (x y : Option Cause) → cause_in one ≡ x → cause_in other ≡ y → cause_in (if b then one else other) ≡ (if b then x else y)
cause_if b one other x y is rest = grind arith

handshake_cause : (role : Role) (s : NetEndState) (memory : List ℕ) (take : HandshakeTake) → cause_in (by_handshake role s memory take) ≡ refused_by take
handshake_cause role s memory take = grind arith

done_cause : (s : NetEndState) (p : NetSession) (memory : List ℕ) (count : ℕ) (fault : Option Cause) → cause_in (takes_done s p memory count fault) ≡ fault
done_cause s p memory count fault = grind arith

-- A MESSAGE: one of rings or groups, or another, which is the handshake's
module _ (s : NetEndState) (m : LinkState) (p : NetSession) (memory : List ℕ) (message : Message) (open_now : s.handshake.phase ≡ Open) (sound : sid_fault s.handshake.sid message.sid ≡ None) where
  another : (role : Role) → cause_in (by_handshake role (record s { link = m }) memory (handshake_take s.handshake message)) ≡ refused_by (handshake_take s.handshake message)
  another role = handshake_cause role (record s { link = m }) memory (handshake_take s.handshake message)

  session_judged : (role : Role) (subtype : Subtype) (body : MsgBody) → message.subtype ≡ subtype → message.body ≡ body
      → cause_in (in_session role (record s { link = m }) p memory message subtype body) ≡ judged_body (own_cause role s p memory) s.handshake message body
  session_judged role subtype body one two = grind (arith, cause_if, done_cause, another, take_refused)

sid_judged : (fault : Option Cause) (rest : NetTake) (answer : Option Cause) → (fault ≡ None → cause_in rest ≡ answer) → cause_in (sid_first fault rest) ≡ fault_first fault answer
sid_judged fault rest answer same = grind arith

reads_judged : (role : Role) (s : NetEndState) (m : LinkState) (p : NetSession) (memory : List ℕ) (d : Result Message TagFault) → s.session ≡ Some p → s.handshake.phase ≡ Open
    → cause_in (reads role (record s { link = m }) memory d) ≡ judged (own_cause role s p memory) s.handshake d
reads_judged role s m p memory (Err fault) session open_now = refl
reads_judged role s m p memory (Ok message) session open_now =
    ap (λ (o : Option NetSession). cause_in (hears_message role (record s { link = m }) memory o message)) session ∙
    sid_judged _ _ _ (λ sound. session_judged s m p memory message open_now sound role message.subtype message.body refl
    refl)

-- WHAT AN END MAKES of a packet
whole_judges : (role : Role) (s : NetEndState) (k : LinkState) (p : NetSession) (memory : List ℕ) (whole : Option (List ℕ)) (take : NetTake) → s.session ≡ Some p → s.handshake.phase ≡ Open
    → HearsWhole role (record s { link = k }) memory whole take → WholeJudged (own_cause role s p memory) s.handshake whole (cause_in take)
whole_judges role s k p memory whole take session open_now is = grind (arith, reads_judged)

link_judges : (role : Role) (begun : Bool) (s : NetEndState) (p : NetSession) (memory : List ℕ) (link : LinkTake) (take : NetTake) → s.session ≡ Some p → s.handshake.phase ≡ Open → is_up s.link ≡ true
    → HearsLink role s memory link take → LinkJudged (own_cause role s p memory) role (net_core_at role begun s) link (cause_in take)
link_judges role begun s p memory link take session open_now up is = grind (arith, stays_risen, whole_judges, risen_same)

end_judges : (role : Role) (begun : Bool) (s : NetEndState) (p : NetSession) (turns : List Utterance) (memory packet : List ℕ) (take : NetTake) → EndStands role (net_core_at role begun s) turns
    → s.session ≡ Some p → NetTakes role s memory packet take → Judges (own_cause role s p memory) role (net_core_at role begun s) packet (cause_in take)
end_judges role begun s p turns memory packet take stands session takes =
    let opened : is_some s.session ≡ true = ap (λ (o : Option NetSession). is_some o) session in
    record {
      take = takes.link;
      takes = takes.takes;
      judges = link_judges role begun s p memory takes.link take session (opened_phase s.handshake.phase (sym stands.opened ∙ opened))
          (open_up role (net_core_at role begun s) turns stands opened) takes.hears;
    }

-- a reset that carries a packet is for what the end takes
pub takes_rule : (role : Role) (rule : NetRule) (s : NetEndState) (memory : List ℕ) (reach : Reach) (cause : Cause) (packet : List ℕ)
    → NetFails role rule s memory reach cause (Some packet) → rule ≡ Takes packet
takes_rule role rule s memory reach cause packet fails = grind arith

pub fails_takes : (role : Role) (rule : NetRule) (s : NetEndState) (memory : List ℕ) (reach : Reach) (cause : Cause) (packet : List ℕ)
    → NetFails role rule s memory reach cause (Some packet) → NetTakes role s memory packet (Resets cause)
fails_takes role rule s memory reach cause packet fails =
    (subst (λ (x : NetRule). NetFails role x s memory reach cause (Some packet)) (takes_rule role rule s memory reach cause packet fails) fails).1

-- BEHIND EVENTS of a channel that led to a lane
module _ (shape : NetShape) (moves : List CoreEvent) (s : NetLaneState) (is : IsNetShape shape) (run : Run CoreStep (fresh_net_core shape) moves (lane_core s)) where
  pub take_cause : (e : End) (session : NetSession) (packet : List ℕ) (take : NetTake) → (net_end e s).session ≡ Some session → NetTakes (role_at e) (net_end e s) (memory_of e s) packet take
      → cause_in take ≡ port_cause s e session (transcript_of e (transcript_behind moves)) packet
  take_cause A session packet take opened takes =
      run_judges _ _ _ _ _ A _ _ _ (sizes_fit _ is) run (ap (λ (o : Option NetSession). is_some o) opened) (end_judges _
      _ _ _ _ _ _ _ (stands_a _ _ _ _ _ (sizes_fit _ is) run) opened takes)
  take_cause B session packet take opened takes =
      run_judges _ _ _ _ _ B _ _ _ (sizes_fit _ is) run (ap (λ (o : Option NetSession). is_some o) opened) (end_judges _
      _ _ _ _ _ _ _ (stands_b _ _ _ _ _ (sizes_fit _ is) run) opened takes)

  pub fails_with : (e : End) (session : NetSession) (cause : Cause) (packet : List ℕ) → (net_end e s).session ≡ Some session
      → NetFails (role_at e) (port_rule (role_at e) (net_end e s) (seen_at e s)) (net_end e s) (memory_of e s) (reach_of e s) cause (Some packet)
      → port_cause s e session (transcript_of e (transcript_behind moves)) packet ≡ Some cause
  fails_with e session cause packet opened fails = sym (take_cause e _ _ _ opened (fails_takes _ _ _ _ _ _ _ fails))

-- BEHIND A RUN of a port with its out queue
module _ (shape : NetShape) (events : List PortEvent) (s : PortState) (is : IsNetShape shape) (run : Run PortStep (fresh_port shape) events s) where
  pub moves_before : (event : NetEvent) → Run CoreStep (fresh_net_core shape) (port_events events) (lane_core (before event s).lane)
  moves_before event =
      subst (Run CoreStep (fresh_net_core shape) (port_events events)) (sym (before_core event s)) (fresh_port_core shape events s run)

  pub cause_before : (event : NetEvent) (e : End) (p : NetSession) (packet : List ℕ) (take : NetTake)
      → (net_end e (before event s).lane).session ≡ Some p
      → NetTakes (role_at e) (net_end e (before event s).lane) (memory_of e (before event s).lane) packet take
      → port_cause (before event s).lane e p (transcript_of e (log_of after (no_events shape) events).transcript) packet ≡ cause_in take
  cause_before event e p packet take opened takes =
      subst (λ (l : TranscriptLog). port_cause (before event s).lane e p (transcript_of e l) packet ≡ cause_in take) (spoken_behind shape events)
      (sym (take_cause shape (port_events events) (before event s).lane is (moves_before event) e p packet take opened takes))
