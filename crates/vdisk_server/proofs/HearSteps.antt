-- What taking a packet is as a step.
use Rattle.std.proofs.Common.{◌≡◌, ℕ, Bool, true, false, List, [], drop, Option, Some, None, Result, Ok, Err, OnErr, refl, sym, ap, ◌∙◌, subst}
use Rattle.std.specs.Prelude.{◌&&◌, not, if◌then◌else◌, slice_get}
use Rattle.ldc_link.specs.declared.phase.Role.{Role}
use Rattle.ldc_link.specs.declared.phase.Role.TheVariants.{Responder}
use Rattle.ldc_link.specs.LinkState.{LinkState, cleared, fresh_link, is_up}
use Rattle.ldc_link.specs.Taking.{Heard, TakesBytes, Unheard}
use Rattle.ldc_queue.specs.ChannelView.{ChannelView, channel_without_first, configured_channel, place_behind}
use Rattle.ldc_queue.specs.Waiting.{head_past}
use Rattle.ldc_queue.specs.declared.end.ChannelState.{ChannelState}
use Rattle.ldc_queue.specs.declared.end.ChannelState.TheVariants as channel
use Rattle.ldc_queue.specs.declared.end.End.TheVariants.{B}
use Rattle.ldc_queue.specs.Wire.{configured, queue_behind, state_of as state_in, waiting_for}
use Rattle.vio_handshake.specs.declared.handshake.Handshake.{Handshake}
use Rattle.vio_handshake.specs.State.{begun, joined_handshake, handshake_up}
use Rattle.vio_tag.specs.declared.cause.Cause.{Cause}
use Rattle.vio_tag.specs.declared.message.Message.{Message}
use Rattle.vio_tag.specs.declared.message.TagFault.{TagFault}
use Rattle.lane_models.specs.EndPuts.{handshake_risen}
use Rattle.lane_models.specs.ServerRule.{ServerRule, Takes, server_rule, takes_first}
use Rattle.lane_models.specs.ServerState.{ServerState, joined_server}
use Rattle.lane_models.specs.ServerStep.{ServerFails}
use Rattle.lane_models.specs.ServerTaking.{GoesOn, HearsWhole, Resets, ServerTake, ServerTakes, reads}
use Rattle.cookie_copy.specs.Reach.{Reach}
use Rattle.vdisk_server.specs.declared.answers.ServerOut.{ServerOut}
use Rattle.vdisk_server.specs.declared.answers.ServerOut.TheVariants as out
use Rattle.vdisk_server.specs.Answering.{StepsAlone, sees}
use Rattle.vdisk_server.specs.Hearing.{CanHear, CanHearWhole, DecodesWhole, risen}

-- THE MESSAGE that became whole
pub hears_of : (r : ServerState) (whole : Option (List ℕ)) (decoded : Result Message TagFault) (take : ServerTake)
    → DecodesWhole whole (Some decoded) → take ≡ reads (record r { link = cleared r.link }) decoded → HearsWhole r whole take
hears_of r None decoded take decodes is = absurd decodes
hears_of r (Some bytes) decoded take decodes is = (decoded, decodes, is)

pub can_of : (whole : Option (List ℕ)) (decoded : Result Message TagFault) (r : ServerState) → DecodesWhole whole (Some decoded) → CanHearWhole whole r → CanHear r
can_of None decoded r decodes can = absurd decodes
can_of (Some bytes) decoded r decodes can = can

pub can_cleared : (r : ServerState) (k : LinkState) → CanHear r → CanHear (record r { link = k })
can_cleared r k can = record { began = can.began; free = can.free; session = can.session }

cond_link : (test : Bool) (s : ServerState) → (if test then record s { handshake = handshake_up s.handshake } else s).link ≡ s.link
cond_link true s = refl
cond_link false s = refl

pub risen_link : (was_up : Bool) (s : ServerState) → (risen was_up s).link ≡ s.link
risen_link was_up s = cond_link (is_up s.link && not was_up) s

-- the link is cleared of the message, and the fields are seen as the server that rose
pub cleared_at : (rose seen : ServerState) (k : LinkState) → seen ≡ rose → k ≡ cleared seen.link → record seen { link = k } ≡ record rose { link = cleared rose.link }
cleared_at rose seen k same is = ap (λ (l : LinkState). record seen { link = l }) is ∙ ap (λ (s : ServerState). record s { link = cleared s.link }) same

pub decoded_at : (was_up : Bool) (before seen : ServerState) (whole : Option (List ℕ)) (decoded : Result Message TagFault) → seen ≡ risen was_up before → whole ≡ seen.link.whole
    → DecodesWhole whole (Some decoded) → DecodesWhole before.link.whole (Some decoded)
decoded_at was_up before seen whole decoded same is decodes =
    subst (λ (w : Option (List ℕ)). DecodesWhole w (Some decoded))
    (is ∙ ap (λ (s : ServerState). s.link.whole) same ∙ ap (λ (k : LinkState). k.whole) (risen_link was_up before)) decodes

role_joined : (h : Handshake) (role : Role) → h.role ≡ role → role ≡ Responder → joined_handshake (begun role (joined_handshake h)) ≡ joined_handshake h
role_joined h role is responds = ap (λ (r : Role). joined_handshake (begun r (joined_handshake h))) responds

cond_joined : (test : Bool) (s : ServerState) → s.handshake.role ≡ Responder → joined_server (if test then record s { handshake = handshake_up s.handshake } else s) ≡ joined_server s
cond_joined true s role = ap (λ (h : Handshake). record (joined_server s) { handshake = h }) (role_joined s.handshake s.handshake.role refl role)
cond_joined false s role = refl

pub risen_joined : (was_up : Bool) (s : ServerState) → s.handshake.role ≡ Responder → joined_server (risen was_up s) ≡ joined_server s
risen_joined was_up s role = cond_joined (is_up s.link && not was_up) s role

pub on_err_then : (answer : Result Bool Cause) (P Q : Type 0) → (P → Q) → OnErr answer P → OnErr answer Q
on_err_then (Ok opens) P Q so holds = tt
on_err_then (Err cause) P Q so holds = so holds

-- THE PACKET
cond_risen : (test : Bool) (s : ServerState)
    → (if test then record s { handshake = handshake_up s.handshake } else s) ≡ record s { handshake = if test then (handshake_up s.handshake) else s.handshake }
cond_risen true s = refl
cond_risen false s = refl

risen_is : (s : ServerState) (k : LinkState) → risen (is_up s.link) (record s { link = k }) ≡ record s { link = k; handshake = handshake_risen s.link k s.handshake }
risen_is s k = cond_risen (is_up k && not (is_up s.link)) (record s { link = k })

takes_packet : (s : ServerState) (c : ChannelView) (packet : List ℕ) → server_rule s (sees c) ≡ takes_first (sees c).first
    → slice_get (waiting_for B c.wire) 0 ≡ Some packet → server_rule s (sees c) ≡ Takes packet
takes_packet s c packet rule first = rule ∙ ap takes_first first

took_packet : (s : ServerState) (k : LinkState) (was_up : Bool) (packet : List ℕ) (take : ServerTake) → was_up ≡ is_up s.link
    → TakesBytes s.link packet (Heard k) → HearsWhole (risen was_up (record s { link = k })) k.whole take → ServerTakes s packet take
took_packet s k was_up packet take was takes hears = record {
  link = Heard k;
  takes = takes;
  hears = subst (λ (r : ServerState). HearsWhole r k.whole take) (ap (λ (b : Bool). risen b (record s { link = k })) was ∙ risen_is s k) hears;
}

pub takes_on : (s : ServerState) (c : ChannelView) (k : LinkState) (was_up : Bool) (packet : List ℕ) (opens : Bool) (t : ServerState)
    → server_rule s (sees c) ≡ takes_first (sees c).first → slice_get (waiting_for B c.wire) 0 ≡ Some packet → was_up ≡ is_up s.link
    → TakesBytes s.link packet (Heard k) → HearsWhole (risen was_up (record s { link = k })) k.whole (GoesOn t opens)
    → StepsAlone s c (out.Took packet opens) t
takes_on s c k was_up packet opens t rule first was takes hears = record {
  leaves = tt;
  step = λ reach. (takes_packet s c packet rule first, took_packet s k was_up packet (GoesOn t opens) was takes hears, refl, refl);
}

takes_resets : (s : ServerState) (c : ChannelView) (packet : List ℕ) (cause : Cause) (answer : ServerOut) (t : ServerState)
    → server_rule s (sees c) ≡ Takes packet → ServerTakes s packet (Resets cause) → answer ≡ out.Reset cause (Some packet) → t ≡ joined_server s
    → StepsAlone s c answer t
takes_resets s c packet cause answer t rule takes is state =
    subst (λ (a : ServerOut). StepsAlone s c a t) (sym is)
    (record {
      leaves = tt;
      step = λ (reach : Reach). (subst (λ (r : ServerRule). ServerFails r s reach cause (Some packet) reach.memory) (sym rule) (refl, takes, refl), refl, state, refl);
    })

pub heard_resets : (s : ServerState) (c : ChannelView) (k : LinkState) (was_up : Bool) (packet : List ℕ) (cause : Cause) (answer : ServerOut) (t : ServerState)
    → server_rule s (sees c) ≡ takes_first (sees c).first → slice_get (waiting_for B c.wire) 0 ≡ Some packet → was_up ≡ is_up s.link
    → TakesBytes s.link packet (Heard k) → HearsWhole (risen was_up (record s { link = k })) k.whole (Resets cause)
    → answer ≡ out.Reset cause (Some packet) → t ≡ joined_server s → StepsAlone s c answer t
heard_resets s c k was_up packet cause answer t rule first was takes hears is state =
    takes_resets s c packet cause answer t (takes_packet s c packet rule first) (took_packet s k was_up packet (Resets cause) was takes hears) is state

pub unheard_resets : (s : ServerState) (c : ChannelView) (packet : List ℕ) (cause : Cause) (answer : ServerOut) (t : ServerState)
    → server_rule s (sees c) ≡ takes_first (sees c).first → slice_get (waiting_for B c.wire) 0 ≡ Some packet
    → TakesBytes s.link packet (Unheard cause) → answer ≡ out.Reset cause (Some packet) → t ≡ joined_server s → StepsAlone s c answer t
unheard_resets s c packet cause answer t rule first takes is state =
    takes_resets s c packet cause answer t (takes_packet s c packet rule first) (record { link = Unheard cause; takes = takes; hears = refl }) is state

pub rests : (s : ServerState) (c : ChannelView) (t : ServerState) → server_rule s (sees c) ≡ takes_first (sees c).first → waiting_for B c.wire ≡ [] → t ≡ s
    → StepsAlone s c out.Idle t
rests s c t rule none is = record {
  leaves = tt;
  step = λ reach. (rule ∙ ap (λ (packets : List (List ℕ)). takes_first (slice_get packets 0)) none, is, refl, refl);
}

-- a link that took a packet begins anew as it would have before
pub link_joined : (s : ServerState) (k : LinkState) → k.role ≡ s.link.role → joined_server (record s { link = k }) ≡ joined_server s
link_joined s k role = ap (λ (r : Role). record (joined_server s) { link = fresh_link r }) role

-- a packet for which an end that is up resets itself has left a queue that is emptied
pub without_configured : (c : ChannelView) → state_in B c.wire ≡ channel.Up → configured_channel B (channel_without_first B c) ≡ configured_channel B c
without_configured c up =
    let queue : queue_behind c.wire.end_b (drop 1 c.wire.to_b) ≡ queue_behind c.wire.end_b c.wire.to_b =
    ap (λ (state : ChannelState). queue_behind state (drop 1 c.wire.to_b)) up ∙ sym (ap (λ (state : ChannelState). queue_behind state c.wire.to_b) up) in
    let place : place_behind c.wire.end_b (head_past c.entries c.head_b c.wire.to_b) ≡ place_behind c.wire.end_b c.head_b =
    ap (λ (state : ChannelState). place_behind state (head_past c.entries c.head_b c.wire.to_b)) up ∙ sym (ap (λ (state : ChannelState). place_behind state c.head_b) up) in
    ap (λ (packets : List (List ℕ)). record (configured_channel B c) {
      wire = record (configured B c.wire) { to_b = packets };
      head_b = place_behind c.wire.end_b (head_past c.entries c.head_b c.wire.to_b);
    }) queue
    ∙ ap (λ (head : ℕ). record (configured_channel B c) { head_b = head }) place
