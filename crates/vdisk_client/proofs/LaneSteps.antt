-- A client's step is a step of its lane.
use Rattle.std.proofs.Common.{◌≡◌, ℕ, List, Option, refl, sym, ◌∙◌, ap, subst}
use Rattle.ldc_queue.specs.ChannelView.{ChannelView}
use Rattle.ldc_queue.specs.declared.end.End.TheVariants.{A, B}
use Rattle.ldc_queue.specs.Wire.{Wire, configured, put_for, taken_for}
use Rattle.vio_tag.specs.declared.cause.Cause.{Cause}
use Rattle.lane_models.specs.WireEvent as wire
use Rattle.lane_models.specs.WireEvent.{ByStep, Giver, giver}
use Rattle.lane_models.proofs.OwnSteps.{client_resets_own}
use Rattle.lane_models.specs.ClientRule.{client_rule}
use Rattle.lane_models.specs.ClientState.{ClientState}
use Rattle.lane_models.specs.ClientStep.{ClientStep}
use Rattle.lane_models.specs.DiskEvent.{DiskEvent, Done, OnWire, Published, Works}
use Rattle.lane_models.specs.LaneState.{LaneState}
use Rattle.lane_models.specs.OnChannel.{IsChannelOf}
use Rattle.lane_models.specs.LaneStep.{ClientOnWire, LaneStep, ResetBy}
use Rattle.lane_models.specs.Seeing.{Seen, seen}
use Rattle.vdisk_client.specs.Calls.{Steps, channel_after, client_event, sees}
use Rattle.vdisk_client.specs.OnLane.{client_moved}
use Rattle.vdisk_client.specs.declared.answers.ClientOut.{ClientOut}
use Rattle.vdisk_client.specs.declared.answers.ClientOut.TheVariants as out

module _ (s : LaneState) (c d : ChannelView) (t : ClientState) (new : List ℕ) (is : IsChannelOf c s) where
  same_sight : sees c ≡ seen A s.shape.entries s.wire.wire
  same_sight = ap (λ (w : Wire). seen A c.entries w) is.wire ∙ ap (λ (n : ℕ). seen A n s.wire.wire) is.entries

  on_lane : (event : DiskEvent) → ClientStep s.client (sees c) s.memory event t new → ClientStep s.client (seen A s.shape.entries s.wire.wire) s.memory event t new
  on_lane event step = subst (λ (at : Seen). ClientStep s.client at s.memory event t new) same_sight step

  on_wire : (event : wire.WireEvent) → ClientStep s.client (sees c) s.memory (OnWire event) t new → ClientOnWire s event (client_moved s (OnWire event) t new)
  on_wire event step = record { step = on_lane (OnWire event) step; is = refl }

  -- a step that resets its end has a cause of its own
  resets_own : (cause : Cause) (packet : Option (List ℕ)) → ClientStep s.client (sees c) s.memory (OnWire (wire.Reset A cause packet 0)) t new
      → ResetBy (giver cause) A s cause packet 0 (client_moved s (OnWire (wire.Reset A cause packet 0)) t new)
  resets_own cause packet step =
      subst (λ (who : Giver). ResetBy who A s cause packet 0 (client_moved s (OnWire (wire.Reset A cause packet 0)) t new))
      (sym (client_resets_own (client_rule s.client (sees c)) s.client s.memory cause packet step.0))
      (on_wire (wire.Reset A cause packet 0) step)

  pub lane_steps : (answer : ClientOut) → Steps s.client c s.memory answer t d new
      → LaneStep s (client_event answer t.last) (client_moved s (client_event answer t.last) t new)
  lane_steps out.Idle steps = on_wire (wire.Idle A) steps.step
  lane_steps out.Blocked steps = on_wire (wire.Blocked A) steps.step
  lane_steps out.Joined steps = on_wire (wire.Joined A 0) steps.step
  lane_steps (out.Took packet opens) steps = on_wire (wire.Took A packet opens) steps.step
  lane_steps (out.Sent packet opens) steps = on_wire (wire.Sent A packet opens) steps.step
  lane_steps (out.Published id) steps = record { step = on_lane (Works (Published id)) steps.step; is = refl }
  lane_steps (out.Done id operation status len) steps = record { step = on_lane (Works (Done id operation status t.last)) steps.step; is = refl }
  lane_steps (out.Reset cause packet) steps = resets_own cause packet steps.step

  after : (answer : ClientOut) → IsChannelOf (channel_after answer c) (client_moved s (client_event answer t.last) t new)
  after out.Idle = record { wire = is.wire; entries = is.entries }
  after out.Blocked = record { wire = is.wire; entries = is.entries }
  after out.Joined = record { wire = ap (configured A) is.wire; entries = is.entries }
  after (out.Took packet opens) = record { wire = ap (taken_for A) is.wire; entries = is.entries }
  after (out.Sent packet opens) = record { wire = ap (put_for B packet) is.wire; entries = is.entries }
  after (out.Published id) = record { wire = is.wire; entries = is.entries }
  after (out.Done id operation status len) = record { wire = is.wire; entries = is.entries }
  after (out.Reset cause packet) = record { wire = ap (configured A) is.wire; entries = is.entries }

  pub lane_channel : (answer : ClientOut) → Steps s.client c s.memory answer t d new → IsChannelOf d (client_moved s (client_event answer t.last) t new)
  lane_channel answer steps = subst (λ (v : ChannelView). IsChannelOf v (client_moved s (client_event answer t.last) t new)) (sym steps.channel) (after answer)
