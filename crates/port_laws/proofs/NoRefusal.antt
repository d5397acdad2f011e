-- On a port that nobody forged an end resets itself for a gap alone, and only behind a loss: no message of a session is refused.
use Rattle.std.proofs.Common.{◌≡◌, ◌≢◌, ℕ, ◌+◌, ◌-◌, ◌%◌, ◌≤◌, ◌⊎◌, true, false, Option, Some, None, List, [], ◌∷◌, ◌++◌, inl, inr, refl, sym, ap, ◌∙◌, subst, arith}
use Rattle.std.specs.Prelude.{is_some}
use Rattle.std.proofs.lemmas.Nat.{mod_below}
use Rattle.ldc_link.specs.declared.phase.Role.TheVariants.{Initiator, Responder}
use Rattle.ldc_link.specs.LinkState.{LinkState}
use Rattle.ldc_queue.specs.declared.end.ChannelState.{ChannelState}
use Rattle.ldc_queue.specs.declared.end.ChannelState.TheVariants.{Up}
use Rattle.ldc_queue.specs.declared.end.End.{End}
use Rattle.ldc_queue.specs.declared.end.End.TheVariants.{A, B}
use Rattle.ldc_queue.specs.OneStream.{IsFront}
use Rattle.ldc_queue.specs.Transcript.{Heard}
use Rattle.ldc_queue.specs.Wire.{peer_of, state_of}
use Rattle.runs.specs.Lawful.{Lawful}
use Rattle.runs.specs.Run.{Run}
use Rattle.vio_tag.specs.declared.cause.Cause.{Cause}
use Rattle.vio_tag.specs.Spelling.{envelope_at, subtype_at}
use Rattle.lane_models.specs.Ranges.{wrapped}
use Rattle.lane_models.specs.Sayings.{heard, said}
use Rattle.lane_models.specs.TranscriptLog.{TranscriptLog, transcript_of}
use Rattle.lane_models.specs.WireAt.{IsOwnReset, IsUp, UnforgedReset, WireUnforgedAt}
use Rattle.lane_models.specs.WireEvent.{Giver, giver}
use Rattle.lane_models.specs.WireLog.{WireLog}
use Rattle.lane_models.proofs.ConversingRuns.{hears_next}
use Rattle.lane_models.proofs.LinkRefuses.{link_refuses}
use Rattle.lane_models.proofs.PartsSaid.{PartsSaid, parts_run}
use Rattle.lane_models.proofs.UnforgedResets.{unforged_reset}
use Rattle.lane_models.specs.LaneCore.{CoreStep, end_of as core_of_end}
use Rattle.lane_models.specs.Resetting.{IsGapBehindLoss, LiesInSession}
use Rattle.lane_models.specs.Sides.{Sides, other, sides_of, swapped}
use Rattle.lane_models.proofs.OwnResets.{net_resets_own}
use Rattle.lane_models.proofs.Refuting.{true_false}
use Rattle.lane_models.proofs.Ruling.{says_of}
use Rattle.lane_models.specs.EndLog.{SessionLog, range_of}
use Rattle.lane_models.specs.NetEndRule.{Takes, port_rule}
use Rattle.lane_models.specs.NetEndState.{NetEndState, NetSession}
use Rattle.lane_models.specs.NetEndStep.{NetEndStep, NetFails, Reset}
use Rattle.lane_models.specs.NetEndTaking.{NetTakes, Resets, first_undone}
use Rattle.lane_models.specs.NetEvent.{NetEvent, Steps}
use Rattle.lane_models.specs.NetLaneState.{IsNetShape, NetLaneState, NetShape, memory_of, net_end, reach_of, role_at, seen_at}
use Rattle.lane_models.specs.NetLaneStep.{NetLaneStep}
use Rattle.lane_models.specs.PortLog.{PortLog, after, log_of_end, no_events}
use Rattle.lane_models.specs.PortMay.{OfWire}
use Rattle.lane_models.specs.PortState.{OnLane, PortEvent, PortState, PortStep, before, fresh_port}
use Rattle.lane_models.specs.Spoken.{RangeAck, RangeInfo, range_spoken, spoken, spoken_by}
use Rattle.port_laws.specs.NetCore.{fresh_net_core, lane_core}
use Rattle.port_laws.specs.PortCore.{port_core, port_events}
use Rattle.port_laws.specs.RingHolds.{RingHolds}
use Rattle.port_laws.specs.RingStands.{RingIn, taken_by}
use Rattle.port_laws.specs.WaysStand.{Way, Ways, WaysStand, acks_in, infos_in, or_new}
use Rattle.port_laws.proofs.CoreLaws.{offers_match, sizes_fit}
use Rattle.port_laws.proofs.EndCounting.{open_empty}
use Rattle.port_laws.proofs.HearsIn.{AllAgreed, OwnRead, hears_in, mine_agreed}
use Rattle.port_laws.proofs.LaneMoves.{event_core_step, up_of}
use Rattle.port_laws.proofs.Outbox.{MessageFits, outbox}
use Rattle.port_laws.proofs.PeerOpens.{PeerIn, TwoEnds, least_heard, peer_open}
use Rattle.port_laws.proofs.PortCounts.{PortCounts, queue_of}
use Rattle.port_laws.proofs.PortRuns.{before_core, before_fits, fresh_port_core, lawful_on_lane, port_fits_behind, spoken_behind}
use Rattle.port_laws.proofs.PortTwoEnds.{answers_of, asks_of, open_turns}
use Rattle.port_laws.proofs.Refusing.{Expects, ack_comes, info_comes, ring_done, taken_in_session}
use Rattle.port_laws.proofs.RingActs.{Finds, core_open, open_both, ring_of_end}
use Rattle.port_laws.proofs.RingRuns.{finds_before}
use Rattle.port_laws.proofs.RuleFrames.{end_acts, end_counted}
use Rattle.port_laws.proofs.RuleSlots.{slot_reset}
use Rattle.port_laws.proofs.PutCounts.{some_of}
use Rattle.port_laws.proofs.TakesIn.{InSession, in_own_session, next_read}
use Rattle.port_laws.proofs.GroupsExchanged.{ExchangeIn, is_telling}
use Rattle.port_laws.proofs.ExchangeGuest.{ExchangeStands, guest_sid, hub_agreed}
use Rattle.port_laws.proofs.ExchangeRuns.{KeptExchange, before_exchange, port_exchange}
use Rattle.port_laws.proofs.ExchangeSteps.{outbox_heard}
use Rattle.port_laws.proofs.TookCounts.{free_empty, session_up}
use Rattle.port_laws.proofs.WayMoves.{first_came, span, swap_ways}
use Rattle.port_laws.proofs.WayRuns.{guest_open_up, new_taken, turn_at, ways_before}
use Rattle.lane_models.proofs.NextHeard.{own_gap}
use Rattle.port_laws.proofs.PortCauses.{fails_takes, takes_rule}

-- BOTH DIRECTIONS, as an end has them
abbrev WaysAt : End → NetLaneState → PortLog → Type 0
WaysAt e u l =
    Ways l.shape.slots (said (transcript_of e l.transcript)) (heard (transcript_of e l.transcript)) (said (transcript_of (peer_of e) l.transcript)) (heard (transcript_of (peer_of e) l.transcript))
    (or_new (log_of_end e l).session) (or_new (log_of_end (peer_of e) l).session)

ways_at : (e : End) (u : NetLaneState) (l : PortLog) → WaysStand u l → IsUp A u.wire.wire → IsUp B u.wire.wire → l.guest.session ≢ None → WaysAt e u l
ways_at A u l ways up other some = ways up other some
ways_at B u l ways up other some =
    swap_ways l.shape.slots (said l.transcript.a) (heard l.transcript.a) (said l.transcript.b) (heard l.transcript.b) (or_new l.guest.session) (or_new l.hub.session) (ways up other some)

spoken_range : (m : List ℕ) (k : ℕ) → envelope_at m ≡ 0x0042 → subtype_at m ≡ k → spoken m ≡ range_spoken k
spoken_range m k range is = ap (λ (n : ℕ). spoken_by n (subtype_at m)) range ∙ ap range_spoken is

-- WHAT AN END EXPECTS of the message that comes
expects_at : (shape : NetShape) (e : End) (u : PortState) (l : PortLog) (k : LinkState) (bytes : List ℕ) (p : NetSession) (sid : ℕ) → Finds shape u l → state_of e u.lane.wire.wire ≡ Up
    → state_of (peer_of e) u.lane.wire.wire ≡ Up → (net_end e u.lane).session ≡ Some p → WaysAt e u.lane l → (net_end e u.lane).link.to_send ≡ []
    → IsFront (heard (transcript_of e l.transcript) ++ bytes ∷ []) (said (transcript_of (peer_of e) l.transcript)) → MessageFits (other (role_at e)) sid bytes → AllAgreed (net_end e u.lane).handshake sid
    → (envelope_at bytes ≡ 0x0101 → role_at e ≡ Initiator → p.telling ≡ true) → Expects (role_at e) (record (net_end e u.lane) { link = k }) p (memory_of e u.lane) sid bytes
expects_at shape e u l k bytes p sid finds up other_up session ways empty front fits agreed telling =
    let s : NetEndState = net_end e u.lane in
    let slots : ℕ = l.shape.slots in
    let slots_is : l.shape.slots ≡ shape.slots = ap (λ (z : NetShape). z.slots) finds.ready.shape_is in
    let counted = end_counted shape e u l finds.ready in
    let here = open_empty (role_at e) shape.slots (queue_of e u) s (log_of_end e l) p counted session empty in
    let v : SessionLog = or_new (log_of_end e l).session in
    let w : SessionLog = or_new (log_of_end (peer_of e) l).session in
    let mine : v ≡ here.of_log = ap or_new here.is in
    let rest : List (List ℕ) = front.0 in
    let came : ways.coming ≡ bytes ∷ rest =
    first_came slots (heard (transcript_of e l.transcript)) (heard (transcript_of e l.transcript) ++ bytes ∷ []) (said (transcript_of (peer_of e) l.transcript)) ways.coming rest bytes ways.comes refl front.1 in
    let first_info : spoken bytes ≡ RangeInfo → Way slots w v (bytes ∷ infos_in rest) (acks_in ways.going) = λ is.
    rw is at (rw came at ways.theirs) in
    let first_ack : spoken bytes ≡ RangeAck → Way slots v w (infos_in ways.going) (bytes ∷ acks_in rest) = λ is.
    rw is at (rw came at ways.mine) in
    let turn : w.taken ≤ v.seen + slots =
    subst (λ (x : SessionLog). w.taken ≤ x.seen + slots) (sym mine) (turn_at shape e u l here.of_log finds up other_up here.is) in
    let taken : ℕ = taken_by (state_of (peer_of e) u.lane.wire.wire) (log_of_end (peer_of e) l).session in
    let taken_is : taken ≡ w.taken =
    ap (λ (x : ChannelState). taken_by x (log_of_end (peer_of e) l).session) other_up ∙ sym (new_taken (log_of_end (peer_of e) l).session) in
    let ring : RingHolds slots p.seen taken p.published s.frames (memory_of e u.lane) =
    subst (λ (o : Option NetSession). RingIn slots taken o s.frames (memory_of e u.lane)) session (ring_of_end e u.lane l finds.rings up) in
    record {
      fits = fits;
      own = agreed.own;
      peer = agreed.peer;
      info = λ range info.
          let comes = info_comes slots w v bytes (infos_in rest) (acks_in ways.going) (first_info (spoken_range bytes 1 range info)) in (
            here.counts.peer.seq ∙ ap (λ (x : SessionLog). wrapped (x.asked + 1)) (sym mine) ∙ sym comes.seq,
            here.counts.peer.place ∙ ap (λ (n : ℕ). here.of_log.taken % n) (sym slots_is)
                ∙ ap (λ (x : SessionLog). x.taken % slots) (sym mine) ∙ sym comes.start,
            comes.end,
          );
      ack = λ range ack.
          let comes = ack_comes slots v w bytes (infos_in ways.going) (acks_in rest) (first_ack (spoken_range bytes 2 range ack)) in
          let some = finds.ready.sound.some_slots in
          let spans : v.seen + range_of slots bytes ≡ w.taken = span slots v.seen w.taken bytes (omega (arith, some, slots_is)) comes.some turn comes.start comes.end in
          let seen : p.seen ≡ v.seen = sym here.counts.ring.seen ∙ ap (λ (x : SessionLog). x.seen) (sym mine) in
          let own_slots : s.slots ≡ slots = counted.slots_is ∙ sym slots_is in
          let same : range_of s.slots bytes ≡ range_of slots bytes = ap (λ (n : ℕ). range_of n bytes) own_slots in
          let below = mod_below (w.taken - 1) slots (omega (arith, some, slots_is)) in (
            ap (λ (n : ℕ). n % s.slots) seen ∙ ap (λ (n : ℕ). v.seen % n) own_slots ∙ sym comes.start,
            omega (arith, comes.end, below, own_slots),
            omega (arith, same, spans, seen, ring.taken_first, taken_is),
            ap (λ (n : ℕ). first_undone n (memory_of e u.lane) p.seen (range_of n bytes)) own_slots
                ∙ ring_done slots p.seen taken p.published s.frames (memory_of e u.lane) (range_of slots bytes) ring (omega (arith, spans, seen, taken_is)),
          );
      telling = telling;
    }

-- A PACKET that an end in session doesn't take is a gap behind a loss
end_resets : (shape : NetShape) (e : End) (u : PortState) (l : PortLog) (cause : Cause) (packet : List ℕ) (p : NetSession) → Finds shape u l
    → WaysStand u.lane l → ExchangeStands u.lane l → ((d : End) → PartsSaid (transcript_of d l.transcript)) → (net_end e u.lane).session ≡ Some p
    → port_rule (role_at e) (net_end e u.lane) (seen_at e u.lane) ≡ Takes packet
    → NetTakes (role_at e) (net_end e u.lane) (memory_of e u.lane) packet (Resets cause) → IsGapBehindLoss u.lane.wire.lossy cause
end_resets shape A u l cause packet p finds ways exchange parts session rule takes =
    let s : NetEndState = u.lane.guest in
    let says = says_of Initiator s (seen_at A u.lane) (Takes packet) rule in
    let up : IsUp A u.lane.wire.wire = up_of u.lane.wire.wire.end_a says.0.up in
    let acting = end_acts shape A u l finds.ready says.0.up in
    let in_log : l.guest.session ≢ None = grind (arith, open_both, true_false) in
    let other_up : IsUp B u.lane.wire.wire = guest_open_up shape u l finds up in_log in
    let sides : Sides = sides_of (lane_core u.lane) l.transcript in
    let one_side : TwoEnds (asks_of shape) (answers_of shape) Initiator sides = finds.two_ends.two_ends A in
    let opened : is_some s.session ≡ true = ap is_some session in
    elim (hears_in Initiator s l.transcript.a u.lane.guest_memory packet (Resets cause) acting.ends (session_up Initiator s l.transcript.a p acting.ends session) takes) [
      | inl none ↦ absurd (cc none.is)
      | inr (inr refused) ↦
          let same : cause ≡ refused.cause = cc refused.is in
          subst (IsGapBehindLoss u.lane.wire.lossy) (sym same)
          (link_refuses Initiator _ packet _ one_side.meets.converse one_side.meets.links one_side.mine.link.follows (parts B) up
          says.1 refused.takes)
      | inr (inl one) ↦
          let front : IsFront (heard (Heard packet ∷ l.transcript.a)) (said l.transcript.b) =
          (hears_next Initiator sides packet one.from one_side.meets.converse up says.1 one_side.mine.link.follows one.takes).front in
          let grown : IsFront (heard l.transcript.a ++ one.bytes ∷ []) (said l.transcript.b) = subst (λ (xs : List (List ℕ)). IsFront xs (said l.transcript.b)) one.messages front in
          let first = outbox_heard u.lane.hub l.transcript.b l.transcript.a packet one.bytes one.messages grown in
          let sid = s.handshake.draft.sid in
          let before : ExchangeIn sid s.groups p (outbox s l.transcript.a l.transcript.b) (one.bytes ∷ outbox u.lane.hub l.transcript.b (Heard packet ∷ l.transcript.a))
          u.lane.hub.session u.lane.hub.groups = rw first at (exchange p up other_up session) in
          let own : OwnRead one.bytes one_side.meets.handshakes.sid =
          next_read (asks_of shape) (answers_of shape) Initiator Responder sides one.bytes sid one_side up opened other_up grown before.answers_fit.0 in
          let agreed = mine_agreed (asks_of shape) (answers_of shape) Initiator sides one_side up opened in
          let in_it : InSession Initiator (record s { link = one.link }) p u.lane.guest_memory own.message (Resets cause) =
          in_own_session Initiator s p u.lane.guest_memory packet l.transcript.a (Resets cause) one_side.meets.handshakes.sid one session agreed.knows own in
          let expects = expects_at shape A u l one.link one.bytes p sid finds up other_up session (ways_at A u.lane l ways up other_up in_log)
          (free_empty Initiator s l.transcript.a acting.ends says.0.quiet) grown before.answers_fit.0 (guest_sid shape u.lane l finds.two_ends up opened).agreed
          (λ named role. is_telling sid s.groups p (outbox s l.transcript.a l.transcript.b) (outbox u.lane.hub l.transcript.b (Heard packet ∷ l.transcript.a)) u.lane.hub.session
          u.lane.hub.groups one.bytes before named) in
          absurd (taken_in_session Initiator (record s { link = one.link }) p u.lane.guest_memory sid one.bytes own.message own.message.subtype own.message.body cause expects own.of own.spells refl refl
          (sym in_it.is))
    ]
end_resets shape B u l cause packet q finds ways exchange parts session rule takes =
    let s : NetEndState = u.lane.hub in
    let says = says_of Responder s (seen_at B u.lane) (Takes packet) rule in
    let up : IsUp B u.lane.wire.wire = up_of u.lane.wire.wire.end_b says.0.up in
    let acting = end_acts shape B u l finds.ready says.0.up in
    let sides : Sides = swapped (sides_of (lane_core u.lane) l.transcript) in
    let one_side : TwoEnds (asks_of shape) (answers_of shape) Responder sides = finds.two_ends.two_ends B in
    let opened : is_some s.session ≡ true = ap is_some session in
    let guest_in : PeerIn sides =
    let all = open_turns shape (lane_core u.lane) l B finds.two_ends up opened in
    peer_open (asks_of shape) (answers_of shape) Responder sides one_side up (least_heard all.heard_long) in
    let guest_session = some_of u.lane.guest.session guest_in.opened in
    let in_log : l.guest.session ≢ None =
    let both = open_both Initiator shape.slots [] u.lane.guest l.guest finds.ready.guest in λ gone. true_false (sym guest_in.opened ∙ both.shut gone) in
    elim (hears_in Responder s l.transcript.b u.lane.hub_memory packet (Resets cause) acting.ends (session_up Responder s l.transcript.b q acting.ends session) takes) [
      | inl none ↦ absurd (cc none.is)
      | inr (inr refused) ↦
          let same : cause ≡ refused.cause = cc refused.is in
          subst (IsGapBehindLoss u.lane.wire.lossy) (sym same)
          (link_refuses Responder _ packet _ one_side.meets.converse one_side.meets.links one_side.mine.link.follows (parts A) up
          says.1 refused.takes)
      | inr (inl one) ↦
          let front : IsFront (heard (Heard packet ∷ l.transcript.b)) (said l.transcript.a) =
          (hears_next Responder sides packet one.from one_side.meets.converse up says.1 one_side.mine.link.follows one.takes).front in
          let grown : IsFront (heard l.transcript.b ++ one.bytes ∷ []) (said l.transcript.a) = subst (λ (xs : List (List ℕ)). IsFront xs (said l.transcript.a)) one.messages front in
          let first = outbox_heard u.lane.guest l.transcript.a l.transcript.b packet one.bytes one.messages grown in
          let sid = u.lane.guest.handshake.draft.sid in
          let p = guest_session.0 in
          let before : ExchangeIn sid u.lane.guest.groups p (one.bytes ∷ outbox u.lane.guest l.transcript.a (Heard packet ∷ l.transcript.b)) (outbox s l.transcript.b l.transcript.a) s.session s.groups =
          subst (λ (xs : List (List ℕ)). ExchangeIn sid u.lane.guest.groups p xs (outbox s l.transcript.b l.transcript.a) s.session s.groups) first (exchange p guest_in.up up guest_session.1) in
          let own : OwnRead one.bytes one_side.meets.handshakes.sid =
          next_read (asks_of shape) (answers_of shape) Responder Initiator sides one.bytes sid one_side up opened guest_in.up grown before.asks_fit.0 in
          let agreed = mine_agreed (asks_of shape) (answers_of shape) Responder sides one_side up opened in
          let in_it : InSession Responder (record s { link = one.link }) q u.lane.hub_memory own.message (Resets cause) =
          in_own_session Responder s q u.lane.hub_memory packet l.transcript.b (Resets cause) one_side.meets.handshakes.sid one session agreed.knows own in
          let expects = expects_at shape B u l one.link one.bytes q sid finds up guest_in.up session (ways_at B u.lane l ways guest_in.up up in_log)
          (free_empty Responder s l.transcript.b acting.ends says.0.quiet) grown before.asks_fit.0 (hub_agreed shape u.lane l finds.two_ends guest_in.up guest_in.opened up opened)
          (λ named role. absurd (cc role)) in
          absurd (taken_in_session Responder (record s { link = one.link }) q u.lane.hub_memory sid one.bytes own.message own.message.subtype own.message.body cause expects own.of own.spells refl refl
          (sym in_it.is))
    ]

-- A STEP'S RESET
pub parts_at : (shape : NetShape) (s : PortState) (l : PortLog) (e : End) → IsNetShape shape → PortCounts shape s l → PartsSaid (transcript_of e l.transcript)
parts_at shape s l A is counts =
    subst (λ (x : TranscriptLog). PartsSaid x.a) (spoken_behind shape counts.events ∙ sym (ap (λ (x : PortLog). x.transcript) counts.log))
    (parts_run shape.entries (asks_of shape) (answers_of shape) (port_events counts.events) (port_core s) (sizes_fit shape is) (fresh_port_core shape counts.events s counts.run)).a.parts
parts_at shape s l B is counts =
    subst (λ (x : TranscriptLog). PartsSaid x.b) (spoken_behind shape counts.events ∙ sym (ap (λ (x : PortLog). x.transcript) counts.log))
    (parts_run shape.entries (asks_of shape) (answers_of shape) (port_events counts.events) (port_core s) (sizes_fit shape is) (fresh_port_core shape counts.events s counts.run)).b.parts

pub step_resets : (shape : NetShape) (s t : PortState) (l : PortLog) (e : End) (cause : Cause) (packet : Option (List ℕ)) (lost : ℕ) → IsNetShape shape → KeptExchange shape s l → l.wire.forged ≡ false
    → NetLaneStep (before (Steps e (Reset cause packet lost)) s).lane (Steps e (Reset cause packet lost)) t.lane → IsOwnReset l.wire cause
step_resets shape s t l e cause packet lost is had clean step = by_packet packet refl
  where
    event : NetEvent
    event = Steps e (Reset cause packet lost)

    u : PortState
    u = before event s

    finds : Finds shape u l
    finds = finds_before shape s l event is had.ways.kept clean

    ways : WaysStand u.lane l
    ways = ways_before event s l (had.ways.ways clean)

    exchange : ExchangeStands u.lane l
    exchange = before_exchange event s l (had.exchange clean)

    lossy : l.wire.lossy ≡ u.lane.wire.lossy
    lossy = sym (ap (λ (x : WireLog). x.lossy) finds.ready.wire)

    in_session : (bytes : List ℕ) → packet ≡ Some bytes → (p : NetSession) → (net_end e u.lane).session ≡ Some p → IsOwnReset l.wire cause
    in_session bytes carried p session =
        let own : NetEndState = net_end e u.lane in
        let fails = subst (NetFails (role_at e) (port_rule (role_at e) own (seen_at e u.lane)) own _ _ cause) carried step.step.0 in
        own_gap l.wire u.lane.wire.lossy cause lossy
        (end_resets shape e u l cause bytes p finds ways exchange (λ d. parts_at shape s l d is had.ways.kept.counts) session
        (takes_rule _ _ _ _ _ _ bytes fails) (fails_takes _ _ _ _ _ _ bytes fails))

    wire_clean : u.lane.wire.forged ≡ false
    wire_clean = ap (λ (x : WireLog). x.forged) finds.ready.wire ∙ clean

    without : (bytes : List ℕ) → packet ≡ Some bytes → (net_end e u.lane).session ≡ None → IsOwnReset u.lane.wire cause ⊎ LiesInSession (core_of_end e (lane_core u.lane)) packet → IsOwnReset l.wire cause
    without bytes carried none (inl own) = subst (λ (w : WireLog). IsOwnReset w cause) finds.ready.wire own
    without bytes carried none (inr lies) =
        let opened = (subst (LiesInSession (core_of_end e (lane_core u.lane))) carried lies).opened in
        true_false (sym opened ∙ core_open e u.lane false (ap is_some none))

    by_session : (bytes : List ℕ) → packet ≡ Some bytes → (session : Option NetSession) → (net_end e u.lane).session ≡ session → IsOwnReset l.wire cause
    by_session bytes carried (Some p) session = in_session bytes carried p session
    by_session bytes carried None none =
        without bytes carried none
        (unforged_reset shape.entries (asks_of shape) (answers_of shape) (port_events had.ways.kept.counts.events) (lane_core u.lane) e cause packet lost (lane_core t.lane) (sizes_fit shape is)
        (offers_match shape is)
        (subst (Run CoreStep (fresh_net_core shape) (port_events had.ways.kept.counts.events)) (sym (before_core event s)) (fresh_port_core shape had.ways.kept.counts.events s had.ways.kept.counts.run)) wire_clean
        (net_resets_own (role_at e) (port_rule (role_at e) (net_end e u.lane) (seen_at e u.lane)) (net_end e u.lane) (memory_of e u.lane) (reach_of e u.lane) cause packet step.step.0)
        (event_core_step u.lane event t.lane (before_fits event s (port_fits_behind shape had.ways.kept.counts.events s had.ways.kept.counts.run)) step))

    by_packet : (o : Option (List ℕ)) → packet ≡ o → IsOwnReset l.wire cause
    by_packet (Some bytes) carried = by_session bytes carried (net_end e u.lane).session refl
    by_packet None carried =
        absurd (slot_reset shape e u l cause lost step.left finds ways
        (subst (λ (o : Option (List ℕ)). NetEndStep (role_at e) (net_end e u.lane) (seen_at e u.lane) (memory_of e u.lane) (reach_of e u.lane) (Reset cause o lost) step.left) carried step.step))

-- ALONG EVERY RUN
by_giver : (by : Giver) (w : WireLog) (cause : Cause) → (w.forged ≡ false → IsOwnReset w cause) → UnforgedReset by w cause
by_giver by w cause own = grind arith

unforged_event : (shape : NetShape) (s t : PortState) (l : PortLog) (event : NetEvent) → IsNetShape shape → KeptExchange shape s l → NetLaneStep (before event s).lane event t.lane
    → OfWire (WireUnforgedAt l.wire) (OnLane event)
unforged_event shape s t l (Steps e (Reset cause packet lost)) is had step = by_giver (giver cause) l.wire cause (λ clean. step_resets shape s t l e cause packet lost is had clean step)
unforged_event shape s t l _ is had step = tt

pub port_unforged_wire : (shape : NetShape) (events : List PortEvent) (s : PortState) → IsNetShape shape → Run PortStep (fresh_port shape) events s
    → Lawful (λ (l : PortLog) (event : PortEvent). OfWire (WireUnforgedAt l.wire) event) after (no_events shape) events
port_unforged_wire shape events s is run =
    lawful_on_lane shape (λ (l : PortLog) (event : PortEvent). OfWire (WireUnforgedAt l.wire) event) (λ l frame. tt)
    (λ xs x event y ran step. unforged_event shape x y _ event is (port_exchange shape xs x is ran) step.1) events s run
