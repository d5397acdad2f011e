-- What a lane notes beside a step of an end, or beside a reset, makes of it the lane's event.
use Rattle.std.proofs.Common.{◌≡◌, ℕ, List, refl, sym, ◌∙◌, ap, subst}
use Rattle.ldc_link.specs.declared.phase.Role.{Role}
use Rattle.ldc_link.specs.declared.phase.Role.TheVariants.{Initiator, Responder}
use Rattle.ldc_queue.specs.ChannelView.{ChannelView, configured_channel}
use Rattle.ldc_queue.specs.declared.end.ChannelState.{ChannelState}
use Rattle.ldc_queue.specs.declared.end.End.TheVariants.{A, B}
use Rattle.ldc_queue.specs.Wire.{state_of}
use Rattle.vnet_port.specs.Seeing.{seen}
use Rattle.vnet_port.specs.Memories.{reach_over}
use Rattle.lane_models.specs.NetEndState.{NetEndState, joined_net_end}
use Rattle.lane_models.specs.NetEndStep.{NetEndStep, NetLeft}
use Rattle.lane_models.specs.NetEvent.{Steps as StepsOf}
use Rattle.lane_models.specs.NetLaneState.{NetLaneState, with_left}
use Rattle.lane_models.specs.NetLaneStep.{NetLaneStep, net_wire}
use Rattle.vnet_port.specs.Calls.{end_at, end_of, role_of}
use Rattle.vnet_port.specs.declared.net_out.NetOut.{NetOut}
use Rattle.vnet_port.specs.declared.net_out.NetOut.TheVariants as out
use Rattle.vnet_port.specs.Stepping.{Steps, channel_after, net_answer}
use Rattle.net_lane.specs.Events.{begun_anew}
use Rattle.net_lane.specs.Noted.{noted, noted_behind}

-- the lane over a channel
abbrev pub lane_over : ChannelView → NetLaneState → NetLaneState
lane_over c s = record s { shape = record s.shape { entries = c.entries }; wire = record s.wire { wire = c.wire } }

-- the lane as a step of an end left it, before anything was noted
abbrev pub guest_left : ChannelView → NetLeft → NetLaneState → NetLaneState
guest_left d left s = lane_over d (record s { guest = left.end; guest_memory = left.own; hub_memory = left.peer })

abbrev pub hub_left : ChannelView → NetLeft → NetLaneState → NetLaneState
hub_left d left s = lane_over d (record s { hub = left.end; hub_memory = left.own; guest_memory = left.peer })

module _ (s : NetLaneState) (c : ChannelView) (left : NetLeft) (last : List ℕ) where
  guest_notes : (answer : NetOut)
      → noted (state_of A c.wire) answer (guest_left (channel_after A answer c) left s)
      ≡ record (with_left A left (lane_over c s)) { wire = net_wire (StepsOf A (net_answer answer last)) (lane_over c s) }
  guest_notes out.Idle = refl
  guest_notes out.Blocked = refl
  guest_notes (out.Joined lost) = refl
  guest_notes (out.Took packet opens) = refl
  guest_notes (out.Sent packet opens) = refl
  guest_notes (out.Published id) = refl
  guest_notes (out.Frame len) = refl
  guest_notes (out.Reset cause packet lost) = refl

  hub_notes : (answer : NetOut)
      → noted (state_of B c.wire) answer (hub_left (channel_after B answer c) left s)
      ≡ record (with_left B left (lane_over c s)) { wire = net_wire (StepsOf B (net_answer answer last)) (lane_over c s) }
  hub_notes out.Idle = refl
  hub_notes out.Blocked = refl
  hub_notes (out.Joined lost) = refl
  hub_notes (out.Took packet opens) = refl
  hub_notes (out.Sent packet opens) = refl
  hub_notes (out.Published id) = refl
  hub_notes (out.Frame len) = refl
  hub_notes (out.Reset cause packet lost) = refl

-- A STEP, of the end that was in this state
module _ (s : NetLaneState) (c d : ChannelView) (t : NetEndState) (own new : List ℕ) (answer : NetOut) (was : ChannelState) (next : NetLaneState) where
  pub guest_lane : role_of s.guest ≡ Initiator → was ≡ state_of A c.wire
      → Steps s.guest c s.guest_memory s.hub_table s.hub_memory answer t d own new
      → next ≡ noted was answer (guest_left d (record { end = t; own = own; peer = new }) s)
      → NetLaneStep (lane_over c s) (StepsOf A (net_answer answer next.guest.last)) next
  guest_lane role was_is steps as_noted =
      let left : NetLeft = record { end = t; own = own; peer = new } in
      let over : d ≡ channel_after A answer c = subst (λ (r : Role). d ≡ channel_after (end_at r) answer c) role steps.channel in
      let last : t.last ≡ next.guest.last = sym (ap (λ (x : NetLaneState). x.guest.last) as_noted) in
      let step : NetLaneStep (lane_over c s) (StepsOf A (net_answer answer t.last)) next = record {
        left = left;
        step = subst (λ (r : Role). NetEndStep r s.guest (seen (end_at r) c.entries c.wire) s.guest_memory (reach_over c s.hub_table s.hub_memory) (net_answer answer t.last) left)
            role steps.step;
        is = as_noted
            ∙ ap (λ (w : ChannelState). noted w answer (guest_left d left s)) was_is
            ∙ ap (λ (x : ChannelView). noted (state_of A c.wire) answer (guest_left x left s)) over
            ∙ guest_notes s c left t.last answer;
      } in
      subst (λ (bytes : List ℕ). NetLaneStep (lane_over c s) (StepsOf A (net_answer answer bytes)) next) last step

  pub hub_lane : role_of s.hub ≡ Responder → was ≡ state_of B c.wire
      → Steps s.hub c s.hub_memory s.guest_table s.guest_memory answer t d own new
      → next ≡ noted was answer (hub_left d (record { end = t; own = own; peer = new }) s)
      → NetLaneStep (lane_over c s) (StepsOf B (net_answer answer next.hub.last)) next
  hub_lane role was_is steps as_noted =
      let left : NetLeft = record { end = t; own = own; peer = new } in
      let over : d ≡ channel_after B answer c = subst (λ (r : Role). d ≡ channel_after (end_at r) answer c) role steps.channel in
      let last : t.last ≡ next.hub.last = sym (ap (λ (x : NetLaneState). x.hub.last) as_noted) in
      let step : NetLaneStep (lane_over c s) (StepsOf B (net_answer answer t.last)) next = record {
        left = left;
        step = subst (λ (r : Role). NetEndStep r s.hub (seen (end_at r) c.entries c.wire) s.hub_memory (reach_over c s.guest_table s.guest_memory) (net_answer answer t.last) left)
            role steps.step;
        is = as_noted
            ∙ ap (λ (w : ChannelState). noted w answer (hub_left d left s)) was_is
            ∙ ap (λ (x : ChannelView). noted (state_of B c.wire) answer (hub_left x left s)) over
            ∙ hub_notes s c left t.last answer;
      } in
      subst (λ (bytes : List ℕ). NetLaneStep (lane_over c s) (StepsOf B (net_answer answer bytes)) next) last step

-- A RESET, likewise
module _ (s : NetLaneState) (c d : ChannelView) (t : NetEndState) (was : ChannelState) (next : NetLaneState) where
  pub guest_begun : role_of s.guest ≡ Initiator → was ≡ state_of A c.wire
      → t ≡ joined_net_end (role_of s.guest) s.guest → d ≡ configured_channel (end_of s.guest) c
      → next ≡ noted_behind was (lane_over d (record s { guest = t })) → next ≡ begun_anew A (lane_over c s)
  guest_begun role was_is t_is d_is as_noted =
      as_noted
      ∙ ap (λ (w : ChannelState). noted_behind w (lane_over d (record s { guest = t }))) was_is
      ∙ ap (λ (x : ChannelView). noted_behind (state_of A c.wire) (lane_over x (record s { guest = t })))
      (subst (λ (r : Role). d ≡ configured_channel (end_at r) c) role d_is)
      ∙ ap (λ (x : NetEndState). noted_behind (state_of A c.wire) (lane_over (configured_channel A c) (record s { guest = x })))
      (subst (λ (r : Role). t ≡ joined_net_end r s.guest) role t_is)

  pub hub_begun : role_of s.hub ≡ Responder → was ≡ state_of B c.wire
      → t ≡ joined_net_end (role_of s.hub) s.hub → d ≡ configured_channel (end_of s.hub) c
      → next ≡ noted_behind was (lane_over d (record s { hub = t })) → next ≡ begun_anew B (lane_over c s)
  hub_begun role was_is t_is d_is as_noted =
      as_noted
      ∙ ap (λ (w : ChannelState). noted_behind w (lane_over d (record s { hub = t }))) was_is
      ∙ ap (λ (x : ChannelView). noted_behind (state_of B c.wire) (lane_over x (record s { hub = t })))
      (subst (λ (r : Role). d ≡ configured_channel (end_at r) c) role d_is)
      ∙ ap (λ (x : NetEndState). noted_behind (state_of B c.wire) (lane_over (configured_channel B c) (record s { hub = x })))
      (subst (λ (r : Role). t ≡ joined_net_end r s.hub) role t_is)
