-- What each step of an end does to its own ring, and to that of its peer, where nobody meddles.
use Rattle.std.proofs.Common.{◌≡◌, ℕ, ◌+◌, ◌%◌, ◌≤◌, Bool, true, false, Option, Some, None, List, refl, sym, ap, ◌∙◌, subst, arith}
use Rattle.std.specs.Prelude.{slice_get, ⊤}
use Rattle.std.proofs.lemmas.Option.{slice_get_within}
use Rattle.ldc_link.specs.declared.phase.Role.{Role}
use Rattle.ldc_link.specs.declared.phase.Role.TheVariants.{Initiator, Responder}
use Rattle.ldc_link.specs.Putting.{behind_put}
use Rattle.ldc_packet.specs.declared.packet.Subtype.{Subtype}
use Rattle.ldc_queue.specs.Transcript.{Utterance}
use Rattle.vio_tag.specs.declared.message.Message.{Message}
use Rattle.vio_tag.specs.declared.message.MsgBody.{MsgBody}
use Rattle.vnet_msg.specs.Frames.{IsFrame}
use Rattle.lane_models.specs.EndPuts.{handshake_behind}
use Rattle.dring.specs.Slots.{range_length}
use Rattle.lane_models.specs.Seeing.{Seen}
use Rattle.cookie_copy.specs.Reach.{Reach}
use Rattle.lane_models.specs.Standing.{EndStands}
use Rattle.lane_models.proofs.Refuting.{none_some, of_some}
use Rattle.lane_models.proofs.Ruling.{says_of}
use Rattle.lane_models.specs.Fetching.{Fetched, IsFrame as IsFetched, fetched}
use Rattle.lane_models.specs.FramesStand.{CountsStand, FramesStand}
use Rattle.lane_models.specs.Groups.{membership}
use Rattle.lane_models.specs.NetEndPutting.{announcement, answer, answers, cleared_by_put, cleared_ring, groups_answer, holding, holding_own, net_holds, net_kind, net_opens, opened_by_put}
use Rattle.lane_models.specs.NetEndRule.{Announces, Fetches, NetRule, Publishes, Puts, Replies, Says, Tells, port_rule}
use Rattle.lane_models.specs.NetEndState.{Activity, NetEndState, NetSession, unseen_in}
use Rattle.lane_models.specs.NetEndStep.{Blocked, Frame, Idle, NetAnswer, NetEndStep, NetLeft, NetSends, Published, Sent, Took, published, published_memory, taken}
use Rattle.lane_models.specs.NetEndTaking.{GoesOn, NetTake, NetTakes, Resets}
use Rattle.port_laws.specs.NetCore.{net_core}
use Rattle.port_laws.specs.RingHolds.{RingHolds}
use Rattle.port_laws.specs.RingStands.{RingIn}
use Rattle.port_laws.proofs.MessageDoes.{Acks, MessageDoes, Asks, Declines, Names, Told}
use Rattle.port_laws.proofs.RemainingEnds.{held_slots}
use Rattle.port_laws.proofs.RingFetches.{Reaches, ring_fetched}
use Rattle.port_laws.proofs.RingMoves.{Fits, ring_acked, ring_cleared, ring_published}
use Rattle.port_laws.proofs.TookWhat.{Fails, Opens, Reads, Stays, TookWhat, took_what}
use Rattle.port_laws.proofs.StepCounts.{counts_stand}

-- the ring of an open session
ring_of : (slots taken : ℕ) (session : Option NetSession) (p : NetSession) (frames : List (List ℕ)) (memory : List ℕ) → session ≡ Some p → RingIn slots taken session frames memory
    → RingHolds slots p.seen taken p.published frames memory
ring_of slots taken session p frames memory is ring = subst (λ (x : Option NetSession). RingIn slots taken x frames memory) is ring

-- IT HOLDS A MESSAGE: nothing is published or acknowledged by that
abbrev Same : ℕ → ℕ → List ℕ → NetEndState → NetEndState → Type 0
Same slots taken memory s held = RingIn slots taken s.session s.frames memory → RingIn slots taken held.session held.frames memory

held_own : (slots taken : ℕ) (memory : List ℕ) (s held : NetEndState) (message : Message) (p q : NetSession) → s.session ≡ Some p → q.seen ≡ p.seen → q.published ≡ p.published
    → Some (holding_own message q s) ≡ Some held → Same slots taken memory s held
held_own slots taken memory s held message p q is seen published same = grind (arith, of_some, ring_of)

slot_held : (slots taken : ℕ) (memory : List ℕ) (s held : NetEndState) (p : NetSession) (activity : Activity) (last : Option ℕ) (found : Fetched) → s.session ≡ Some p
    → answers s p activity last found ≡ Some held → Same slots taken memory s held
slot_held slots taken memory s held p activity last found is same = grind (arith, held_own, none_some)

pub held_ring : (role : Role) (slots taken : ℕ) (memory : List ℕ) (s : NetEndState) (at : Seen) (reach : Reach) (rule : NetRule) (held : NetEndState) → port_rule role s at ≡ rule
    → net_holds rule s reach ≡ Some held → Same slots taken memory s held
held_ring role slots taken memory s at reach Puts held is same = of_some (Same slots taken memory s) s held same (λ ring. ring)
held_ring role slots taken memory s at reach (Says message) held is same = of_some (Same slots taken memory s) (holding message s) held same (λ ring. ring)
held_ring role slots taken memory s at reach (Replies p reply) held is same =
    held_own slots taken memory s held (groups_answer s reply) p (record p { reply = None }) (says_of role s at (Replies p reply) is).0.session refl refl same
held_ring role slots taken memory s at reach (Fetches p activity) held is same =
    slot_held slots taken memory s held p activity activity.last (fetched s reach p.place) (says_of role s at (Fetches p activity) is).0.session same
held_ring role slots taken memory s at reach (Tells p) held is same =
    held_own slots taken memory s held (membership s.handshake.draft.sid s.groups) p (record p { untold = false; telling = true }) (says_of role s at (Tells p) is).0.in_session.session refl refl same
held_ring role slots taken memory s at reach (Announces p) held is same =
    held_own slots taken memory s held (announcement s p) p (record p { infos = p.infos + 1; asking = true }) (says_of role s at (Announces p) is).0.in_session.session refl refl same
held_ring role slots taken memory s at reach _ held is same = none_some held same

-- A SESSION OPENS with a ring that is cleared
opened_ring : (slots taken : ℕ) (frames : List (List ℕ)) (memory : List ℕ) → taken ≡ 0 → RingHolds slots 0 taken 0 frames (cleared_ring slots memory)
opened_ring slots taken frames memory none = subst (λ (n : ℕ). RingHolds slots 0 n 0 frames (cleared_ring slots memory)) (sym none) (ring_cleared slots frames memory)

put_ring : (role : Role) (opens : Bool) (taken : ℕ) (memory : List ℕ) (s : NetEndState) → (opens ≡ true → taken ≡ 0) → RingIn s.slots taken s.session s.frames memory
    → RingIn s.slots taken (opened_by_put role opens s).session (opened_by_put role opens s).frames (cleared_by_put role opens s.slots memory)
put_ring Initiator true taken memory s none ring = opened_ring s.slots taken s.frames memory (none refl)
put_ring Initiator false taken memory s none ring = ring
put_ring Responder opens taken memory s none ring = ring

-- IT TAKES A PACKET
abbrev RingTake : ℕ → List ℕ → NetEndState → NetTake → Type 0
RingTake taken memory s (GoesOn t opens new) = (opens ≡ true → taken ≡ 0) → RingIn s.slots taken s.session s.frames memory → RingIn s.slots taken t.session t.frames new
RingTake taken memory s (Resets cause) = ⊤

does_ring : (role : Role) (taken : ℕ) (memory : List ℕ) (s : NetEndState) (p : NetSession) (subtype : Subtype) (b : MsgBody) (t : NetEndState) (new : List ℕ) → s.session ≡ Some p → Fits s.slots memory
    → MessageDoes role s p memory subtype b t new → RingIn s.slots taken s.session s.frames memory → RingIn s.slots taken t.session t.frames new
does_ring role taken memory s p subtype b t new session fits (Asks seq ident start end state kind body place stays is) ring =
    subst (RingIn s.slots taken t.session t.frames) (sym stays) (rw is (ring_of _ _ _ p _ _ session ring))
does_ring role taken memory s p subtype b t new session fits (Acks seq ident start end state kind body begins inside within done freed_is is) ring =
    let count = range_length s.slots start end in
    subst (RingIn s.slots taken t.session t.frames) (sym freed_is) (rw is
    (ring_acked _ _ _ _ _ _ _ fits (ring_of _ _ _ p _ _ session ring) within done))
does_ring role taken memory s p subtype b t new session fits (Names set count addresses groups reply answer hub kind body stays is) ring =
    subst (RingIn s.slots taken t.session t.frames) (sym stays) (rw is (ring_of _ _ _ p _ _ session ring))
does_ring role taken memory s p subtype b t new session fits (Told set count addresses guest kind body telling stays is) ring =
    subst (RingIn s.slots taken t.session t.frames) (sym stays) (rw is (ring_of _ _ _ p _ _ session ring))
does_ring role taken memory s p subtype b t new session fits (Declines h declined stays is) ring =
    subst (RingIn s.slots taken t.session t.frames) (sym stays) (subst (λ (x : NetEndState). RingIn s.slots taken x.session x.frames memory) (sym is) ring)

take_ring : (role : Role) (taken : ℕ) (memory : List ℕ) (s : NetEndState) (take : NetTake) → Fits s.slots memory → TookWhat role s memory take → RingTake taken memory s take
take_ring role taken memory s take fits (Stays k h is) = subst (RingTake taken memory s) (sym is) (λ none ring. ring)
take_ring role taken memory s take fits (Opens k h role_is closed is) = subst (RingTake taken memory s) (sym is) (λ none ring. opened_ring s.slots taken s.frames memory (none refl))
take_ring role taken memory s take fits (Fails cause is) = subst (RingTake taken memory s) (sym is) tt
take_ring role taken memory s (GoesOn t opens new) fits (Reads k h p m session does) =
    λ none ring. does_ring role taken memory (record s { link = k; handshake = h }) p m.subtype m.body t new session fits does.does ring
take_ring role taken memory s (Resets cause) fits (Reads k h p m session does) = tt

took_ring : (role : Role) (taken : ℕ) (memory packet : List ℕ) (s t : NetEndState) (turns : List Utterance) (opens : Bool) (new : List ℕ) → EndStands role (net_core role s) turns → Fits s.slots memory
    → NetTakes role s memory packet (GoesOn t opens new) → (opens ≡ true → taken ≡ 0) → RingIn s.slots taken s.session s.frames memory → RingIn s.slots taken t.session t.frames new
took_ring role taken memory packet s t turns opens new ends fits takes =
    take_ring role taken memory s (GoesOn t opens new) fits (took_what role s turns memory packet (GoesOn t opens new) ends takes)

-- ITS OWN STEP
abbrev pub opens_by : NetAnswer → Bool
opens_by (Took packet opens) = opens
opens_by (Sent packet opens) = opens
opens_by _ = false

pub record Owns (role : Role) (s : NetEndState) (turns : List Utterance) (memory : List ℕ) : Type 0 where
  pub ends : EndStands role (net_core role s) turns
  pub stands : FramesStand s
  pub fits : Fits s.slots memory
  pub frames : (n : ℕ) (frame : List ℕ) → slice_get s.frames n ≡ Some frame → IsFrame frame

sent_ring : (role : Role) (taken : ℕ) (s : NetEndState) (at : Seen) (memory : List ℕ) (reach : Reach) (packet : List ℕ) (opens : Bool) (left : NetLeft) → (opens ≡ true → taken ≡ 0)
    → NetSends role s at memory reach packet opens left → RingIn s.slots taken s.session s.frames memory → RingIn s.slots taken left.end.session left.end.frames left.own
sent_ring role taken s at memory reach packet opens left none step ring =
    let held : NetEndState = step.held in
    let slots : held.slots ≡ s.slots = held_slots s reach (port_rule role s at) held step.holds in
    let here : RingIn held.slots taken held.session held.frames memory =
    subst (λ (n : ℕ). RingIn n taken held.session held.frames memory) (sym slots) (held_ring role s.slots taken memory s at reach (port_rule role s at) held refl step.holds ring) in
    let there = put_ring role (net_opens held) taken memory (record held { link = behind_put held.link; handshake = handshake_behind (net_kind held) held.handshake })
    (λ is. none (step.opens_is ∙ is)) here in
    grind arith

published_ring : (role : Role) (taken : ℕ) (s : NetEndState) (turns : List Utterance) (at : Seen) (memory : List ℕ) (p : NetSession) (frame : List ℕ) → Owns role s turns memory
    → port_rule role s at ≡ Publishes p frame → RingIn s.slots taken s.session s.frames memory
    → RingHolds s.slots p.seen taken (p.published + 1) s.frames (published_memory (p.published % s.slots) frame memory)
published_ring role taken s turns at memory p frame owns rule ring =
    let says = says_of role s at (Publishes p frame) rule in
    let is : s.session ≡ Some p = says.0.in_session.session in
    let counts : CountsStand s p = counts_stand s p owns.stands is in
    ring_published s.slots p.seen taken p.published s.frames frame memory owns.fits (ring_of s.slots taken s.session p s.frames memory is ring) says.1 (owns.frames (unseen_in p) frame says.1)
    (omega (arith, slice_get_within s.frames (unseen_in p) frame says.1, counts.seen, owns.stands.room))

pub own_ring : (role : Role) (taken : ℕ) (s : NetEndState) (turns : List Utterance) (at : Seen) (memory : List ℕ) (reach : Reach) (answer : NetAnswer) (left : NetLeft) → Owns role s turns memory
    → (opens_by answer ≡ true → taken ≡ 0) → NetEndStep role s at memory reach answer left → RingIn s.slots taken s.session s.frames memory
    → RingIn s.slots taken left.end.session left.end.frames left.own
own_ring role taken s turns at memory reach (Took packet opens) left owns none step ring =
    took_ring role taken memory packet s left.end turns opens left.own owns.ends owns.fits step.1 none ring
own_ring role taken s turns at memory reach (Sent packet opens) left owns none step ring = sent_ring role taken s at memory reach packet opens left none step ring
own_ring role taken s turns at memory reach Blocked left owns none step ring =
    subst (λ (x : NetLeft). RingIn s.slots taken x.end.session x.end.frames x.own) (sym step.2) (held_ring role s.slots taken memory s at reach (port_rule role s at) left.end refl step.0 ring)
own_ring role taken s turns at memory reach Idle left owns none step ring = subst (λ (x : NetLeft). RingIn s.slots taken x.end.session x.end.frames x.own) (sym step.1) ring
own_ring role taken s turns at memory reach (Published id) left owns none step ring =
    subst (λ (x : NetLeft). RingIn s.slots taken x.end.session x.end.frames x.own) (sym step.is) (published_ring role taken s turns at memory step.session step.frame owns step.rule ring)
own_ring role taken s turns at memory reach (Frame frame) left owns none step ring =
    let says = says_of role s at (Fetches step.session step.activity) step.rule in
    subst (λ (x : NetLeft). RingIn s.slots taken x.end.session x.end.frames x.own) (sym step.is) (ring_of s.slots taken s.session step.session s.frames memory says.0.session ring)
own_ring role taken s turns at memory reach _ left owns none step ring = subst (λ (x : NetLeft). RingIn s.slots taken x.end.session x.end.frames x.own) (sym step.2) tt

-- A STEP OF THE PEER, which may take a frame of the ring
abbrev pub more_taken : NetAnswer → ℕ → ℕ
more_taken (Frame frame) n = n + 1
more_taken _ n = n

abbrev pub TakesOf : NetAnswer → NetEndState → Reach → (slots pages taken : ℕ) → Option NetSession → Type 0
TakesOf (Frame frame) f reach slots pages taken None = ⊤
TakesOf (Frame frame) f reach slots pages taken (Some p) = Reaches f reach slots pages × ((q : NetSession) → f.session ≡ Some q → q.place ≡ taken % slots)
TakesOf _ f reach slots pages taken session = ⊤

fetched_ring : (role : Role) (slots pages taken : ℕ) (session : Option NetSession) (frames : List (List ℕ)) (f : NetEndState) (at : Seen) (memory : List ℕ) (reach : Reach) (frame : List ℕ)
    (left : NetLeft) → 1 ≤ slots → TakesOf (Frame frame) f reach slots pages taken session → NetEndStep role f at memory reach (Frame frame) left → RingIn slots taken session frames reach.memory
    → RingIn slots (taken + 1) session frames left.peer
fetched_ring role slots pages taken None frames f at memory reach frame left some takes step ring = tt
fetched_ring role slots pages taken (Some p) frames f at memory reach frame left some takes step ring =
    let says = says_of role f at (Fetches step.session step.activity) step.rule in
    let found : fetched f reach (taken % slots) ≡ IsFetched frame step.new = ap (fetched f reach) (sym (takes.1 step.session says.0.session)) ∙ step.found in
    rw step.is (ring_fetched f _ _ _ _ _ _ _ _ _ takes.0 some ring found).ring

pub peer_ring : (role : Role) (slots pages taken : ℕ) (session : Option NetSession) (frames : List (List ℕ)) (f : NetEndState) (at : Seen) (memory : List ℕ) (reach : Reach) (answer : NetAnswer)
    (left : NetLeft) → 1 ≤ slots → TakesOf answer f reach slots pages taken session → NetEndStep role f at memory reach answer left → RingIn slots taken session frames reach.memory
    → RingIn slots (more_taken answer taken) session frames left.peer
peer_ring role slots pages taken session frames f at memory reach answer left some takes step ring = grind (arith, fetched_ring)
