-- No step of an end raises how many frames of a guest may still cross, and a frame that the switch's end takes lowers it.
use Rattle.std.proofs.Common.{◌≡◌, ℕ, ◌+◌, ◌-◌, ◌*◌, ◌%◌, ◌<◌, ◌≤◌, Bool, true, false, Option, Some, None, List, [], length, refl, sym, subst, ap, ◌∙◌, arith, length-drop}
use Rattle.std.specs.Prelude.{⊤}
use Rattle.std.proofs.lemmas.Nat.{mod_below}
use Rattle.std.proofs.lemmas.Option.{slice_get_within}
use Rattle.ldc_link.specs.declared.phase.Role.TheVariants.{Initiator}
use Rattle.ldc_link.specs.LinkState.{LinkState}
use Rattle.ldc_link.specs.Putting.{behind_put}
use Rattle.ldc_queue.specs.declared.end.ChannelState.{ChannelState}
use Rattle.ldc_queue.specs.declared.end.ChannelState.TheVariants.{Up}
use Rattle.ldc_queue.specs.declared.end.End.{End}
use Rattle.ldc_queue.specs.declared.end.End.TheVariants.{A, B}
use Rattle.ldc_queue.specs.Transcript.{Utterance}
use Rattle.ldc_queue.specs.Wire.{peer_behind, upset}
use Rattle.runs.specs.Lawful.{log_of}
use Rattle.runs.specs.Run.{Run}
use Rattle.vio_handshake.specs.declared.handshake.Handshake.{Handshake}
use Rattle.vio_tag.specs.declared.message.Message.{Message}
use Rattle.lane_models.proofs.EndStanding.{held_stands}
use Rattle.lane_models.specs.EndPuts.{handshake_behind}
use Rattle.lane_models.specs.Seeing.{Seen}
use Rattle.lane_models.specs.WireAt.{IsUp}
use Rattle.lane_models.specs.WireLog.{WireLog}
use Rattle.lane_models.specs.Standing.{EndStands}
use Rattle.cookie_copy.specs.Faults.{is_up}
use Rattle.cookie_copy.specs.Reach.{Reach}
use Rattle.lane_models.proofs.Refuting.{none_some, of_some}
use Rattle.lane_models.proofs.Ruling.{says_of}
use Rattle.lane_models.specs.EndLog.{EndLog}
use Rattle.lane_models.specs.Fetching.{Fetched, fetched}
use Rattle.lane_models.specs.FramesStand.{CountsStand, FramesStand}
use Rattle.lane_models.specs.NetEndPutting.{announcement, answer, answers, cleared_by_put, groups_answer, holding, holding_own, net_holds, net_kind, net_opens, net_put, opened_by_put}
use Rattle.lane_models.specs.Groups.{membership}
use Rattle.lane_models.specs.NetEndRule.{Announces, Fetches, NetRule, Publishes, Puts, Replies, Says, Tells, port_rule}
use Rattle.lane_models.specs.NetEndState.{Activity, NetEndState, NetSession, joined_net_end, unseen, unseen_in}
use Rattle.lane_models.specs.NetEndStep.{Blocked, Frame, Idle, NetAnswer, NetEndStep, NetLeft, NetPublishes, NetSends, Published, Sent, Took}
use Rattle.lane_models.specs.NetEndTaking.{GoesOn, NetTake, NetTakes, Resets}
use Rattle.lane_models.specs.NetEvent.{CalmTick, Steps, Ticked}
use Rattle.lane_models.specs.NetLaneState.{IsNetShape, NetLaneState, NetShape, reach_of, seen_at}
use Rattle.lane_models.specs.NetLaneStep.{EndSteps}
use Rattle.lane_models.specs.PortLog.{PortLog, after, no_events}
use Rattle.lane_models.specs.PortState.{OnLane, PortEvent, PortState, PortStep, before, fresh_port, moves_first}
use Rattle.port_laws.specs.Crossing.{crossing, fresh_frames, ready_in, untaken}
use Rattle.port_laws.specs.NetCore.{net_core}
use Rattle.port_laws.specs.Remaining.{ready_slots}
use Rattle.port_laws.specs.RingHolds.{RingHolds}
use Rattle.port_laws.specs.RingStands.{RingIn, taken_of}
use Rattle.port_laws.proofs.EndMoves.{HeldCore, held_core}
use Rattle.port_laws.proofs.MessageDoes.{MessageDoes, TakeDoes}
use Rattle.port_laws.proofs.PortCounts.{Ready}
use Rattle.port_laws.proofs.MemoryRoom.{MemoryHasRoom}
use Rattle.port_laws.proofs.ReadyFrames.{ready_most}
use Rattle.port_laws.proofs.PutCounts.{not_some}
use Rattle.port_laws.proofs.RemainingEnds.{held_slots, kind_shut}
use Rattle.port_laws.proofs.RemainingFrames.{ready_falls}
use Rattle.port_laws.proofs.RemainingReady.{cleared_none, freed_less, published_more}
use Rattle.port_laws.proofs.RingActs.{Finds, step_now}
use Rattle.port_laws.proofs.RingEvents.{acts_up, mine_now}
use Rattle.port_laws.proofs.RingRuns.{finds_before, port_kept}
use Rattle.port_laws.proofs.RuleFrames.{end_acts}
use Rattle.port_laws.proofs.RuleUnforged.{TakesPublished, takes_published}
use Rattle.port_laws.proofs.StepCounts.{Acting, counts_stand}
use Rattle.port_laws.proofs.TookWhat.{TookWhat, took_what}

-- A GUEST THAT IS UP
abbrev own_untaken : List ℕ → NetEndState → ℕ
own_untaken memory s = fresh_frames s + ready_in s.slots memory s.session

abbrev Kept : List ℕ → NetEndState → List ℕ → NetEndState → Type 0
Kept memory s new t = own_untaken new t ≤ own_untaken memory s

-- in a session of the same counts
in_session : (memory : List ℕ) (s : NetEndState) (p : NetSession) (n : ℕ) → s.session ≡ Some p → n ≤ (length s.frames - unseen_in p) + ready_slots s.slots memory → n ≤ own_untaken memory s
in_session memory s p n is less = subst (λ (x : Option NetSession). n ≤ (length s.frames - unseen x) + ready_in s.slots memory x) (sym is) less

-- IT HOLDS a message
slot_kept : (memory : List ℕ) (s : NetEndState) (p : NetSession) (activity : Activity) (last : Option ℕ) (found : Fetched) (held : NetEndState) → s.session ≡ Some p
    → answers s p activity last found ≡ Some held → Kept memory s memory held
slot_kept memory s p activity last found held is same = grind (arith, of_some, in_session, none_some)

held_kept : (memory : List ℕ) (s : NetEndState) (at : Seen) (reach : Reach) (rule : NetRule) (held : NetEndState) → port_rule Initiator s at ≡ rule → net_holds rule s reach ≡ Some held
    → Kept memory s memory held
held_kept memory s at reach Puts held is same = of_some (Kept memory s memory) s held same (omega arith)
held_kept memory s at reach (Says message) held is same = of_some (Kept memory s memory) (holding message s) held same (omega arith)
held_kept memory s at reach (Replies p reply) held is same =
    of_some (Kept memory s memory) (holding_own (groups_answer s reply) (record p { reply = None }) s) held same
    (in_session memory s p _ (says_of Initiator s at (Replies p reply) is).0.session (omega arith))
held_kept memory s at reach (Fetches p activity) held is same =
    slot_kept memory s p activity activity.last (fetched s reach p.place) held (says_of Initiator s at (Fetches p activity) is).0.session same
held_kept memory s at reach (Tells p) held is same =
    of_some (Kept memory s memory) (holding_own (membership s.handshake.draft.sid s.groups) (record p { untold = false; telling = true }) s) held same
    (in_session memory s p _ (says_of Initiator s at (Tells p) is).0.in_session.session (omega arith))
held_kept memory s at reach (Announces p) held is same =
    of_some (Kept memory s memory) (holding_own (announcement s p) (record p { infos = p.infos + 1; asking = true }) s) held same
    (in_session memory s p _ (says_of Initiator s at (Announces p) is).0.in_session.session (omega arith))
held_kept memory s at reach _ held is same = none_some held same

-- IT PUTS what it holds; a session that opens by that has a cleared ring
opened_kept : (opens : Bool) (memory : List ℕ) (s : NetEndState) → (opens ≡ true → s.session ≡ None)
    → own_untaken (cleared_by_put Initiator opens s.slots memory) (opened_by_put Initiator opens s) ≤ own_untaken memory s
opened_kept opens memory s shut = grind (arith, cleared_none)

sends_kept : (slots : ℕ) (queue : List (List ℕ)) (s : NetEndState) (l : EndLog) (turns : List Utterance) (at : Seen) (memory : List ℕ) (reach : Reach) (packet : List ℕ) (opens : Bool) (t : NetLeft)
    → Acting Initiator slots queue s l turns → NetSends Initiator s at memory reach packet opens t → Kept memory s t.own t.end
sends_kept slots queue s l turns at memory reach packet opens t acting step =
    let held : NetEndState = step.held in
    let core : HeldCore Initiator s held = held_core Initiator s at reach (port_rule Initiator s at) held acting.fits refl step.holds in
    let held_so = held_stands Initiator (net_core Initiator s) (net_core Initiator held) turns core.what acting.ends core.holds in
    let now : NetEndState = record held { link = behind_put held.link; handshake = handshake_behind (net_kind held) held.handshake } in
    let shut : net_opens held ≡ true → held.session ≡ None = λ is. not_some held.session (held_so.opened ∙ kind_shut (net_kind held) held.handshake is) in
    let slots_is : held.slots ≡ s.slots = held_slots s reach (port_rule Initiator s at) held step.holds in
    let put : own_untaken (cleared_by_put Initiator (net_opens held) s.slots memory) (net_put Initiator held) ≤ own_untaken memory held =
    subst (λ (n : ℕ). own_untaken (cleared_by_put Initiator (net_opens held) n memory) (net_put Initiator held) ≤ own_untaken memory held) slots_is (opened_kept (net_opens held) memory now shut) in
    let kept = held_kept memory s at reach (port_rule Initiator s at) held refl step.holds in
    subst (λ (x : NetLeft). Kept memory s x.own x.end) (sym step.is) (omega (arith, put, kept))

-- IT PUBLISHES a frame
publishes_kept : (slots : ℕ) (queue : List (List ℕ)) (s : NetEndState) (l : EndLog) (turns : List Utterance) (at : Seen) (memory : List ℕ) (reach : Reach) (id : ℕ) (t : NetLeft)
    → Acting Initiator slots queue s l turns → 8192 + 2048 * slots ≤ length memory → NetPublishes Initiator s at memory reach id t → Kept memory s t.own t.end
publishes_kept slots queue s l turns at memory reach id t acting room step =
    let p : NetSession = step.session in
    let says = says_of Initiator s at (Publishes p step.frame) step.rule in
    let is : s.session ≡ Some p = says.0.in_session.session in
    let within : unseen_in p < length s.frames = slice_get_within s.frames (unseen_in p) step.frame says.1 in
    let slots_is : s.slots ≡ slots = acting.counts.slots_is in
    let some : 1 ≤ s.slots = omega (arith, slots_is, acting.slots_fit.some) in
    let ready = published_more s.slots (p.published % s.slots) step.frame memory (mod_below p.published s.slots some) (omega (arith, slots_is, acting.slots_fit.most)) (omega (arith, slots_is, room)) in
    let seen = (counts_stand s p acting.stands is).seen in
    subst (λ (x : NetLeft). Kept memory s x.own x.end) (sym step.is) (in_session memory s p _ is (omega (arith, ready, within, seen)))

-- IT TAKES a packet
does_kept : (memory new : List ℕ) (s t : NetEndState) (p : NetSession) (m : Message) → s.session ≡ Some p → CountsStand s p → 1 ≤ s.slots → 64 * s.slots ≤ length memory
    → MessageDoes Initiator s p memory m.subtype m.body t new → Kept memory s new t
does_kept memory new s t p m session stands some room given = grind (arith, in_session, freed_less, length-drop)

abbrev TakeKept : List ℕ → NetEndState → NetTake → Type 0
TakeKept memory s (GoesOn t opens new) = Kept memory s new t
TakeKept memory s (Resets cause) = ⊤

takes_kept : (memory packet : List ℕ) (s : NetEndState) (turns : List Utterance) (take : NetTake) → EndStands Initiator (net_core Initiator s) turns → FramesStand s → 1 ≤ s.slots → 64 * s.slots ≤ length memory
    → NetTakes Initiator s memory packet take → TakeKept memory s take
takes_kept memory packet s turns take ends stands some room takes = by_what take (took_what Initiator s turns memory packet take ends takes)
  where
    by_does : (k : LinkState) (h : Handshake) (p : NetSession) (m : Message) (x : NetTake) → s.session ≡ Some p
        → TakeDoes Initiator (record s { link = k; handshake = h }) p memory m.subtype m.body x → TakeKept memory s x
    by_does k h p m (GoesOn t opens new) session does =
        let counts : CountsStand s p = counts_stand s p stands session in
        does_kept memory new (record s { link = k; handshake = h }) t p m session
        (record { seen = counts.seen; held = counts.held; ids = counts.ids; asked = counts.asked; answered = counts.answered; some = counts.some }) some room does.does
    by_does k h p m (Resets cause) session does = tt

    by_what : (x : NetTake) → TookWhat Initiator s memory x → TakeKept memory s x
    by_what x given = grind (arith, by_does)

-- IT BEGINS ANEW
joined_kept : (x : ChannelState) (memory new : List ℕ) (s : NetEndState) → own_untaken new (joined_net_end Initiator s) ≤ untaken x memory s
joined_kept x memory new s = grind (arith, length-drop)

-- AT THE LANE
abbrev lane_crossing : NetLaneState → ℕ
lane_crossing u = untaken u.wire.wire.end_a u.guest_memory u.guest

goes_kept : (u t : NetLaneState) (new : List ℕ) (g : NetEndState) → u.wire.wire.end_a ≡ Up → t.wire.wire.end_a ≡ u.wire.wire.end_a → t.guest ≡ g → t.guest_memory ≡ new
    → Kept u.guest_memory u.guest new g → lane_crossing t ≤ lane_crossing u
goes_kept u t new g up same guest memory kept = grind arith

begins_kept : (u t : NetLaneState) (new : List ℕ) → t.wire.wire.end_a ≡ Up → t.guest ≡ joined_net_end Initiator u.guest → t.guest_memory ≡ new → lane_crossing t ≤ lane_crossing u
begins_kept u t new up guest memory = grind (arith, joined_kept)

guest_crossing : (shape : NetShape) (u : PortState) (l : PortLog) (answer : NetAnswer) (t : NetLaneState) → Ready shape u l → MemoryHasRoom shape.slots u.lane → EndSteps A u.lane answer t
    → lane_crossing t ≤ lane_crossing u.lane
guest_crossing shape u l answer t ready room step = by_answer answer step
  where
    g : NetEndState
    g = u.lane.guest

    up_at : (given : NetAnswer) (left : NetLeft) → NetEndStep Initiator g (seen_at A u.lane) u.lane.guest_memory (reach_of A u.lane) given left → mine_now given u.lane.wire.wire.end_a ≡ u.lane.wire.wire.end_a
        → IsUp A u.lane.wire.wire
    up_at given left made stays = acts_up Initiator g (seen_at A u.lane) u.lane.guest_memory (reach_of A u.lane) given left made u.lane.wire.wire.end_a refl stays

    acting : IsUp A u.lane.wire.wire → Acting Initiator shape.slots [] g l.guest l.transcript.a
    acting up = end_acts shape A u l ready (ap is_up up)

    by_answer : (given : NetAnswer) → EndSteps A u.lane given t → lane_crossing t ≤ lane_crossing u.lane
    by_answer (Took packet opens) made =
        let now = step_now A u.lane t (Took packet opens) made in
        let up = up_at (Took packet opens) made.left made.step refl in
        let acts = acting up in
        let slots_is = acts.counts.slots_is in
        let some = acts.slots_fit.some in
        let most = acts.slots_fit.most in
        let place = room.guest in
        goes_kept u.lane t made.left.own made.left.end up (ap (λ (w : WireLog). w.wire.end_a) now.wire) now.end now.own
        (takes_kept u.lane.guest_memory packet g l.transcript.a (GoesOn made.left.end opens made.left.own) acts.ends acts.stands (omega (arith, slots_is, some)) (omega (arith, slots_is, most, place)) made.step.1)
    by_answer (Sent packet opens) made =
        let now = step_now A u.lane t (Sent packet opens) made in
        let up = up_at (Sent packet opens) made.left made.step refl in
        goes_kept u.lane t made.left.own made.left.end up (ap (λ (w : WireLog). w.wire.end_a) now.wire) now.end now.own
        (sends_kept shape.slots [] g l.guest l.transcript.a (seen_at A u.lane) u.lane.guest_memory (reach_of A u.lane) packet opens made.left (acting up) made.step)
    by_answer Blocked made =
        grind (arith, step_now A u.lane t Blocked made, up_at Blocked made.left made.step refl, goes_kept, held_kept)
    by_answer Idle made = grind (arith, step_now A u.lane t Idle made, up_at, goes_kept)
    by_answer (Published id) made =
        let now = step_now A u.lane t (Published id) made in
        let up = up_at (Published id) made.left made.step refl in
        grind (arith, now, up, acting, goes_kept, publishes_kept)
    by_answer (Frame frame) made =
        let now = step_now A u.lane t (Frame frame) made in
        let up = up_at (Frame frame) made.left made.step refl in
        let says =
        says_of Initiator g (seen_at A u.lane) (Fetches made.step.session made.step.activity) made.step.rule in
        grind (arith, now, up, made.step.session, says, goes_kept, in_session)
    by_answer given made =
        let now = step_now A u.lane t given made in
        begins_kept u.lane t made.left.own (ap (λ (w : WireLog). w.wire.end_a) now.wire) (now.end ∙ ap (λ (x : NetLeft). x.end) made.step.2) now.own

-- A STEP OF THE SWITCH'S END leaves the guest, whose end may have to begin anew
upset_less : (x : ChannelState) (memory : List ℕ) (s : NetEndState) → untaken (upset x) memory s ≤ untaken x memory s
upset_less x memory s = grind arith

behind_less : (x y : ChannelState) (memory : List ℕ) (s : NetEndState) → untaken (peer_behind x y) memory s ≤ untaken y memory s
behind_less x y memory s = grind (arith, upset_less)

same_kept : (u t : NetLaneState) (y : ChannelState) → t.wire.wire.end_a ≡ y → t.guest ≡ u.guest → t.guest_memory ≡ u.guest_memory → untaken y u.guest_memory u.guest ≤ lane_crossing u
    → lane_crossing t ≤ lane_crossing u
same_kept u t y state guest memory less = grind arith

pub hub_crossed : (shape : NetShape) (u : PortState) (l : PortLog) (frame : List ℕ) (t : NetLaneState) → Finds shape u l → EndSteps B u.lane (Frame frame) t → lane_crossing t + 1 ≤ lane_crossing u.lane
hub_crossed shape u l frame t finds step =
    let takes : TakesPublished shape B u l frame step.step.new = takes_published shape B u l frame t finds step in
    let now = step_now B u.lane t (Frame frame) step in
    let slots_is : u.lane.guest.slots ≡ shape.slots = finds.ready.guest.slots_is in
    let some = finds.ready.sound.some_slots in
    let ready = ready_falls shape.slots (takes.v.taken % shape.slots) u.lane.guest_memory step.step.new (record { few = finds.ready.sound.most_slots; room = finds.room.guest })
    (mod_below takes.v.taken shape.slots (omega (arith, some))) takes.found.ready takes.found.new_is in
    let here : ready_slots u.lane.guest.slots step.step.new + 1 ≡ ready_slots u.lane.guest.slots u.lane.guest_memory =
    subst (λ (n : ℕ). ready_slots n step.step.new + 1 ≡ ready_slots n u.lane.guest_memory) (sym slots_is) ready in
    let less : own_untaken step.step.new u.lane.guest + 1 ≤ own_untaken u.lane.guest_memory u.lane.guest =
    grind arith in
    let memory = now.peer_memory ∙ ap (λ (x : NetLeft). x.peer) step.step.is in
    rw (ap (λ (w : WireLog). w.wire.end_a) now.wire ∙ takes.peer_up, takes.peer_up, now.peer_end, memory) less

hub_crossing : (shape : NetShape) (u : PortState) (l : PortLog) (answer : NetAnswer) (t : NetLaneState) → Finds shape u l → EndSteps B u.lane answer t → lane_crossing t ≤ lane_crossing u.lane
hub_crossing shape u l (Frame frame) t finds step = let less = hub_crossed shape u l frame t finds step in omega (arith, less)
hub_crossing shape u l answer t finds step = grind (arith, step_now B u.lane t answer step, same_kept, behind_less)

-- THE FRAME THAT MOVES from the out queue is none of the guest's
moves_same : (b : Bool) (queue : List (List ℕ)) (s : PortState) → crossing (moves_first b queue s) ≡ crossing s
moves_same b queue s = grind arith

before_same : (e : End) (answer : NetAnswer) (s : PortState) → crossing (before (Steps e answer) s) ≡ crossing s
before_same e answer s = grind (arith, moves_same)

-- ALONG EVERY RUN
unforged_log : (shape : NetShape) (events : List PortEvent) (s : PortState) → IsNetShape shape → Run PortStep (fresh_port shape) events s → s.lane.wire.forged ≡ false
    → (log_of after (no_events shape) events).wire.forged ≡ false
unforged_log shape events s is run clean = sym (ap (λ (w : WireLog). w.forged) (port_kept shape events s is run).counts.wire) ∙ clean

pub port_crossing : (shape : NetShape) (events : List PortEvent) (s : PortState) (e : End) (answer : NetAnswer) (t : PortState) → IsNetShape shape → Run PortStep (fresh_port shape) events s
    → s.lane.wire.forged ≡ false → PortStep s (OnLane (Steps e answer)) t → crossing t ≤ crossing s
port_crossing shape events s A answer t is run clean step =
    let finds = finds_before shape s (log_of after (no_events shape) events) (Steps A answer) is (port_kept shape events s is run) (unforged_log shape events s is run clean) in
    guest_crossing shape s (log_of after (no_events shape) events) answer t.lane finds.ready finds.room step.1
port_crossing shape events s B answer t is run clean step =
    let finds = finds_before shape s (log_of after (no_events shape) events) (Steps B answer) is (port_kept shape events s is run) (unforged_log shape events s is run clean) in
    let less = hub_crossing shape (before (Steps B answer) s) (log_of after (no_events shape) events) answer t.lane finds step.1 in
    omega (arith, less, before_same B answer s)

pub port_crossed : (shape : NetShape) (events : List PortEvent) (s : PortState) (frame : List ℕ) (t : PortState) → IsNetShape shape → Run PortStep (fresh_port shape) events s
    → s.lane.wire.forged ≡ false → PortStep s (OnLane (Steps B (Frame frame))) t → crossing t < crossing s
port_crossed shape events s frame t is run clean step =
    let finds = finds_before shape s (log_of after (no_events shape) events) (Steps B (Frame frame)) is (port_kept shape events s is run) (unforged_log shape events s is run clean) in
    let less = hub_crossed shape (before (Steps B (Frame frame)) s) (log_of after (no_events shape) events) frame t.lane finds step.1 in
    omega (arith, less, before_same B (Frame frame) s)

pub port_tick_crossing : (s : PortState) (queued lost : ℕ) (t : PortState) → PortStep s (OnLane (Ticked queued lost)) t → crossing t ≤ crossing s
port_tick_crossing s queued lost t step =
    let is = step.1.1.1 in
    begins_kept s.lane t.lane s.lane.guest_memory (ap (λ (x : NetLaneState). x.wire.wire.end_a) is) (ap (λ (x : NetLaneState). x.guest) is) (ap (λ (x : NetLaneState). x.guest_memory) is)

-- no more than the guest holds
few_up : (shape : NetShape) (s : PortState) (l : PortLog) (session : Option NetSession) → Finds shape s l → IsUp A s.lane.wire.wire → s.lane.guest.session ≡ session
    → own_untaken s.lane.guest_memory s.lane.guest ≤ length s.lane.guest.frames
few_up shape s l None finds up is = rw is (omega arith)
few_up shape s l (Some p) finds up is =
    let ring : RingHolds l.shape.slots p.seen (taken_of B s.lane l) p.published s.lane.guest.frames s.lane.guest_memory =
    subst (λ (x : Option NetSession). RingIn l.shape.slots (taken_of B s.lane l) x s.lane.guest.frames s.lane.guest_memory) is (finds.rings.guest_ring up) in
    let slots_is : l.shape.slots ≡ s.lane.guest.slots = ap (λ (x : NetShape). x.slots) finds.ready.shape_is ∙ sym finds.ready.guest.slots_is in
    let most : ready_slots s.lane.guest.slots s.lane.guest_memory ≤ p.published - taken_of B s.lane l =
    rw slots_is at (ready_most _ _ _ _ _ _ ring) in
    rw is (omega (arith, most, ring.seen_first, ring.held))

pub port_few_cross : (shape : NetShape) (events : List PortEvent) (s : PortState) → IsNetShape shape → Run PortStep (fresh_port shape) events s → s.lane.wire.forged ≡ false
    → crossing s ≤ length s.lane.guest.frames
port_few_cross shape events s is run clean = by_state s.lane.wire.wire.end_a refl
  where
    finds : Finds shape s (log_of after (no_events shape) events)
    finds = finds_before shape s (log_of after (no_events shape) events) (CalmTick 0) is (port_kept shape events s is run) (unforged_log shape events s is run clean)

    by_state : (x : ChannelState) → s.lane.wire.wire.end_a ≡ x → crossing s ≤ length s.lane.guest.frames
    by_state x up = grind (arith, finds, few_up)
