-- A packet that is taken, as the model's step has it.
use Rattle.std.proofs.Common.{◌≡◌, ℕ, Bool, true, false, List, drop, Option, Some, None, refl, sym, ◌∙◌, ap, subst}
use Rattle.std.specs.Prelude.{◌&&◌, not, if◌then◌else◌}
use Rattle.ldc_link.specs.declared.phase.Role.{Role}
use Rattle.ldc_link.specs.declared.phase.Role.TheVariants.{Initiator, Responder}
use Rattle.ldc_link.specs.LinkState.{LinkState, fresh_link, is_up}
use Rattle.ldc_link.specs.Taking.{Heard, TakesBytes, Unheard}
use Rattle.ldc_queue.specs.ChannelView.{ChannelView, channel_without_first, configured_channel, place_behind}
use Rattle.ldc_queue.specs.declared.end.ChannelState.{ChannelState}
use Rattle.ldc_queue.specs.declared.end.ChannelState.TheVariants.{Up}
use Rattle.ldc_queue.specs.declared.end.End.{End}
use Rattle.ldc_queue.specs.declared.end.End.TheVariants.{A, B}
use Rattle.ldc_queue.specs.Waiting.{head_past}
use Rattle.ldc_queue.specs.Wire.{configured, queue_behind, state_of}
use Rattle.map_table.specs.declared.table.Entry.{Entry}
use Rattle.vio_handshake.specs.declared.handshake.Handshake.{Handshake}
use Rattle.vio_handshake.specs.State.{begun, handshake_up, joined_handshake}
use Rattle.vio_tag.specs.declared.cause.Cause.{Cause}
use Rattle.lane_models.specs.NetEndRule.{NetRule, Takes}
use Rattle.lane_models.specs.NetEndState.{NetEndState, NetSession, joined_net_end, unseen}
use Rattle.lane_models.specs.NetEndStep.{NetFails}
use Rattle.lane_models.specs.NetEndTaking.{GoesOn, HearsWhole, NetTake, NetTakes, Resets, risen}
use Rattle.vnet_port.proofs.LinkTakes.{bytes_took, whole_up}
use Rattle.vnet_port.specs.Calls.{end_at, role_of}
use Rattle.vnet_port.specs.declared.net_out.NetOut.{NetOut}
use Rattle.vnet_port.specs.declared.net_out.NetOut.TheVariants as out
use Rattle.vnet_port.specs.Hearing.{AgreedIn, MayHear, MayHearWhole, looked_at, rose}
use Rattle.vio_handshake.specs.declared.handshake.Phase.{Phase}
use Rattle.lane_models.specs.FramesStand.{CountsStand, FramesStand}
use Rattle.lane_models.specs.RuleFacts.{IfOpen}
use Rattle.lane_models.proofs.Refuting.{none_some}
use Rattle.vnet_port.specs.Standing.{Knows, KnowsRing, SessionStands, Stands}
use Rattle.port_frames.specs.Memories.{reach_over}
use Rattle.vnet_port.specs.Stepping.{Steps, StepsAlone, rule_of}

-- THE HANDSHAKE of the switch's end as its link comes up
cond_rose : (test : Bool) (s : NetEndState)
    → (if test then record s { handshake = handshake_up s.handshake } else s) ≡ record s { handshake = if test then (handshake_up s.handshake) else s.handshake }
cond_rose true s = refl
cond_rose false s = refl

pub rose_is : (role : Role) (s : NetEndState) (k : LinkState) → rose role (is_up s.link) (record s { link = k }) ≡ record s { link = k; handshake = risen role s.link k s.handshake }
rose_is Initiator s k = refl
rose_is Responder s k = cond_rose (is_up k && not (is_up s.link)) (record s { link = k })

took_packet : (s : NetEndState) (k : LinkState) (memory packet : List ℕ) (take : NetTake) → TakesBytes s.link packet (Heard k)
    → HearsWhole (role_of s) (rose (role_of s) (is_up s.link) (record s { link = k })) memory k.whole take → NetTakes (role_of s) s memory packet take
took_packet s k memory packet take takes hears = record {
  link = Heard k;
  takes = takes;
  hears = subst (λ (r : NetEndState). HearsWhole (role_of s) r memory k.whole take) (rose_is (role_of s) s k) hears;
}

-- by the role that the link has behind it
by_role : (s : NetEndState) (k : LinkState) (was_up : Bool) (memory packet : List ℕ) (take : NetTake) → was_up ≡ is_up s.link → k.role ≡ s.link.role
    → TakesBytes s.link packet (Heard k) → HearsWhole k.role (rose k.role was_up (record s { link = k })) memory k.whole take → NetTakes (role_of s) s memory packet take
by_role s k was_up memory packet take was role takes hears =
    took_packet s k memory packet take takes
    (subst (λ (b : Bool). HearsWhole s.link.role (rose s.link.role b (record s { link = k })) memory k.whole take) was
    (subst (λ (r : Role). HearsWhole r (rose r was_up (record s { link = k })) memory k.whole take) role hears))

pub takes_on : (s t : NetEndState) (c d : ChannelView) (k : LinkState) (was_up : Bool) (memory new packet : List ℕ) (opens : Bool) → Stands s → rule_of s c ≡ Takes packet
    → was_up ≡ is_up s.link → TakesBytes s.link packet (Heard k) → HearsWhole k.role (rose k.role was_up (record s { link = k })) memory k.whole (GoesOn t opens new)
    → d ≡ channel_without_first (end_at (role_of s)) c → StepsAlone s c memory (out.Took packet opens) t d new
takes_on s t c d k was_up memory new packet opens stands rule was takes hears channel = λ (table : List (Option Entry)) (peer : List ℕ). record {
  step = (rule, by_role s k was_up memory packet (GoesOn t opens new) was (bytes_took s.link k packet stands.link.seen takes).role takes hears, refl);
  channel = channel;
  count = tt;
}

-- A RESET: the packet that is taken before an end that is up is configured makes no difference
pub empties_anyway : (e : End) (c : ChannelView) → state_of e c.wire ≡ Up → configured_channel e (channel_without_first e c) ≡ configured_channel e c
empties_anyway A c up =
    let place : place_behind c.wire.end_a (head_past c.entries c.head_a c.wire.to_a) ≡ place_behind c.wire.end_a c.head_a =
    ap (λ (state : ChannelState). place_behind state (head_past c.entries c.head_a c.wire.to_a)) up
    ∙ ap (λ (state : ChannelState). place_behind state c.head_a) (sym up) in
    let waits : queue_behind c.wire.end_a (drop 1 c.wire.to_a) ≡ queue_behind c.wire.end_a c.wire.to_a =
    ap (λ (state : ChannelState). queue_behind state (drop 1 c.wire.to_a)) up ∙ ap (λ (state : ChannelState). queue_behind state c.wire.to_a) (sym up) in
    ap (λ (head : ℕ). record (configured_channel A (channel_without_first A c)) { head_a = head }) place
    ∙ ap (λ (packets : List (List ℕ)). record (configured_channel A c) { wire = record (configured A c.wire) { to_a = packets } }) waits
empties_anyway B c up =
    let place : place_behind c.wire.end_b (head_past c.entries c.head_b c.wire.to_b) ≡ place_behind c.wire.end_b c.head_b =
    ap (λ (state : ChannelState). place_behind state (head_past c.entries c.head_b c.wire.to_b)) up
    ∙ ap (λ (state : ChannelState). place_behind state c.head_b) (sym up) in
    let waits : queue_behind c.wire.end_b (drop 1 c.wire.to_b) ≡ queue_behind c.wire.end_b c.wire.to_b =
    ap (λ (state : ChannelState). queue_behind state (drop 1 c.wire.to_b)) up ∙ ap (λ (state : ChannelState). queue_behind state c.wire.to_b) (sym up) in
    ap (λ (head : ℕ). record (configured_channel B (channel_without_first B c)) { head_b = head }) place
    ∙ ap (λ (packets : List (List ℕ)). record (configured_channel B c) { wire = record (configured B c.wire) { to_b = packets } }) waits

-- what was heard before it makes none either
role_joined : (h : Handshake) (role : Role) → h.role ≡ role → role ≡ Responder → joined_handshake (begun role (joined_handshake h)) ≡ joined_handshake h
role_joined h role is responds = ap (λ (r : Role). joined_handshake (begun r (joined_handshake h))) responds

cond_joined : (test : Bool) (s : NetEndState) → s.handshake.role ≡ Responder
    → joined_net_end Responder (looked_at (if test then record s { handshake = handshake_up s.handshake } else s)) ≡ joined_net_end Responder s
cond_joined true s role = ap (λ (h : Handshake). record (joined_net_end Responder s) { handshake = h }) (role_joined s.handshake s.handshake.role refl role)
cond_joined false s role = refl

pub rose_joined : (role : Role) (was_up : Bool) (s : NetEndState) → s.handshake.role ≡ role → joined_net_end role (looked_at (rose role was_up s)) ≡ joined_net_end role s
rose_joined Initiator was_up s is = refl
rose_joined Responder was_up s is = cond_joined (is_up s.link && not was_up) s is

pub link_joined : (s : NetEndState) (k : LinkState) → k.role ≡ s.link.role → joined_net_end s.link.role (record s { link = k }) ≡ joined_net_end s.link.role s
link_joined s k is = ap (λ (role : Role). record (joined_net_end s.link.role s) { link = fresh_link role }) is

pub resets : (s t : NetEndState) (c d : ChannelView) (memory packet : List ℕ) (cause : Cause) (answer : NetOut) → rule_of s c ≡ Takes packet
    → NetTakes (role_of s) s memory packet (Resets cause) → answer ≡ out.Reset cause (Some packet) (unseen s.session) → t ≡ joined_net_end (role_of s) s
    → d ≡ configured_channel (end_at (role_of s)) c → StepsAlone s c memory answer t d memory
resets s t c d memory packet cause answer rule takes is new channel = λ (table : List (Option Entry)) (peer : List ℕ).
    subst (λ (a : NetOut). Steps s c memory table peer a t d memory peer) (sym is)
    (record {
      step = (
        subst (λ (r : NetRule). NetFails (role_of s) r s memory (reach_over c table peer) cause (Some packet)) (sym rule) (refl, takes),
        refl,
        ap (λ (e : NetEndState). record { end = e; own = memory; peer = peer }) new,
      );
      channel = channel;
      count = tt;
    })

-- for what it heard
rose_keeps : (role : Role) (was_up : Bool) (s : NetEndState) → ((rose role was_up s).link ≡ s.link) × ((rose role was_up s).session ≡ s.session)
rose_keeps Initiator was_up s = (refl, refl)
rose_keeps Responder was_up s = cond_keeps (is_up s.link && not was_up) s
  where
    cond_keeps : (test : Bool) (s : NetEndState)
        → ((if test then record s { handshake = handshake_up s.handshake } else s).link ≡ s.link)
        × ((if test then record s { handshake = handshake_up s.handshake } else s).session ≡ s.session)
    cond_keeps true s = (refl, refl)
    cond_keeps false s = (refl, refl)

pub heard_resets : (s t h : NetEndState) (k : LinkState) (c b d : ChannelView) (was_up : Bool) (memory new packet : List ℕ) (cause : Cause) (answer : NetOut) → Stands s
    → rule_of s c ≡ Takes packet → state_of (end_at (role_of s)) c.wire ≡ Up → was_up ≡ is_up s.link → TakesBytes s.link packet (Heard k)
    → HearsWhole k.role (rose k.role was_up (record s { link = k })) memory k.whole (Resets cause)
    → h ≡ looked_at (rose k.role was_up (record s { link = k })) → new ≡ memory → answer ≡ out.Reset cause (Some packet) (unseen h.session)
    → t ≡ joined_net_end (role_of h) h → b ≡ channel_without_first (end_at (role_of s)) c → d ≡ configured_channel (end_at (role_of h)) b
    → StepsAlone s c memory answer t d new
heard_resets s t h k c b d was_up memory new packet cause answer stands rule up was takes hears is same told state taken channel =
    let role : k.role ≡ s.link.role = (bytes_took s.link k packet stands.link.seen takes).role in
    let r : NetEndState = record s { link = k } in
    let kept = rose_keeps k.role was_up r in
    let h_role : h.link.role ≡ s.link.role =
    ap (λ (x : NetEndState). x.link.role) is ∙ ap (λ (m : LinkState). m.role) kept.0 ∙ role in
    let h_session : h.session ≡ s.session = ap (λ (x : NetEndState). x.session) is ∙ kept.1 in
    let joined : joined_net_end h.link.role h ≡ joined_net_end s.link.role s =
    ap (λ (x : Role). joined_net_end x h) h_role
    ∙ ap (joined_net_end s.link.role) is
    ∙ ap (λ (x : Role). joined_net_end s.link.role (looked_at (rose x was_up r))) role
    ∙ rose_joined s.link.role was_up r stands.handshake.same_role
    ∙ link_joined s k role in
    subst (λ (m : List ℕ). StepsAlone s c memory answer t d m) (sym same)
    (resets s t c d memory packet cause answer rule (by_role s k was_up memory packet (Resets cause) was role takes hears)
    (told ∙ ap (λ (x : Option NetSession). out.Reset cause (Some packet) (unseen x)) h_session)
    (state ∙ joined)
    (channel ∙ ap (λ (x : Role). configured_channel (end_at x) b) h_role ∙ ap (configured_channel (end_at s.link.role)) taken
    ∙ empties_anyway (end_at s.link.role) c up))

-- for what the link doesn't take
pub unheard_resets : (s t : NetEndState) (c b d : ChannelView) (memory packet : List ℕ) (cause : Cause) (answer : NetOut)
    → rule_of s c ≡ Takes packet → state_of (end_at (role_of s)) c.wire ≡ Up → TakesBytes s.link packet (Unheard cause)
    → answer ≡ out.Reset cause (Some packet) (unseen s.session) → t ≡ joined_net_end (role_of s) s
    → b ≡ channel_without_first (end_at (role_of s)) c → d ≡ configured_channel (end_at (role_of s)) b → StepsAlone s c memory answer t d memory
unheard_resets s t c b d memory packet cause answer rule up takes told state taken channel =
    resets s t c d memory packet cause answer rule (record { link = Unheard cause; takes = takes; hears = refl }) told state
    (channel ∙ ap (configured_channel (end_at s.link.role)) taken ∙ empties_anyway (end_at s.link.role) c up)

-- AN END MAY HEAR what became whole by the packet that it took
up_rose : (role : Role) (b : Bool) (s : NetEndState) → is_up s.link ≡ b → rose role true s ≡ s
up_rose Initiator b s is = refl
up_rose Responder true s is = ap (λ (x : Bool). if x && false then record s { handshake = handshake_up s.handshake } else s) is
up_rose Responder false s is = ap (λ (x : Bool). if x && false then record s { handshake = handshake_up s.handshake } else s) is

agreed_of : (s : NetEndState) (session : Option NetSession) → SessionStands s.slots s.handshake.phase session
    → Knows s.link.role s.handshake.phase s.handshake.sid s.handshake.draft s.slots → AgreedIn session s.handshake
agreed_of s None stands knows = tt
agreed_of s (Some session) stands knows =
    let ring : KnowsRing s.handshake.sid s.handshake.draft s.slots =
    subst (λ (p : Phase). Knows s.link.role p s.handshake.sid s.handshake.draft s.slots) stands.0 knows in
    (stands.0, ring.sid)

counts_with : (s : NetEndState) (k : LinkState) (session : Option NetSession) → IfOpen session (CountsStand s) → IfOpen session (CountsStand (record s { link = k }))
counts_with s k None counts = tt
counts_with s k (Some p) counts = record {
  seen = counts.seen;
  held = counts.held;
  ids = counts.ids;
  asked = counts.asked;
  answered = counts.answered;
  some = counts.some;
}

frames_with : (s : NetEndState) (k : LinkState) → FramesStand s → FramesStand (record s { link = k })
frames_with s k stands = record { room = stands.room; ids = stands.ids; session = counts_with s k s.session stands.session }

pub may_cleared : (s : NetEndState) (k : LinkState) → MayHear s → MayHear (record s { link = k })
may_cleared s k may = record {
  begun = may.begun;
  free = may.free;
  agreed = may.agreed;
  frames = frames_with s k may.frames;
  sized = may.sized;
}

may_in : (s : NetEndState) (k : LinkState) (was_up : Bool) (packet : List ℕ) (whole : Option (List ℕ)) → k.whole ≡ whole → Stands s → s.handshake.owed ≡ None
    → was_up ≡ is_up s.link → TakesBytes s.link packet (Heard k) → MayHearWhole whole (rose k.role was_up (record s { link = k }))
may_in s k was_up packet None is stands free was takes = tt
may_in s k was_up packet (Some bytes) is stands free was takes =
    let up : is_up s.link ≡ true = whole_up s.link k packet stands.link.seen takes (λ none. none_some bytes (sym none ∙ is)) in
    let r : NetEndState = record s { link = k } in
    subst MayHear (sym (ap (λ (b : Bool). rose k.role b r) (was ∙ up) ∙ up_rose k.role (is_up k) r refl))
    (record {
      begun = stands.began.up up;
      free = free;
      agreed = agreed_of s s.session stands.session stands.handshake.knows;
      frames = frames_with s k stands.frames;
      sized = stands.sized;
    })

pub may_hear : (s : NetEndState) (k : LinkState) (was_up : Bool) (packet : List ℕ) → Stands s → s.handshake.owed ≡ None
    → was_up ≡ is_up s.link → TakesBytes s.link packet (Heard k) → MayHearWhole k.whole (rose k.role was_up (record s { link = k }))
may_hear s k was_up packet stands free was takes = may_in s k was_up packet k.whole refl stands free was takes
