-- A step of the server is one of its lane.
use Rattle.std.proofs.Common.{◌≡◌, ℕ, false, List, Option, refl, ap, ◌∙◌, subst}
use Rattle.ldc_queue.specs.ChannelView.{ChannelView}
use Rattle.ldc_queue.specs.declared.end.End.TheVariants.{A, B}
use Rattle.ldc_queue.specs.Wire.{Wire, configured, put_for, taken_for}
use Rattle.cookie_copy.specs.Faults.{both_up}
use Rattle.lane_models.specs.WireEvent as wire
use Rattle.lane_models.specs.DiskEvent.{Desc, DiskEvent, Finished, Moved, OnWire, Stored, Worked, Works}
use Rattle.lane_models.specs.LaneState.{LaneState}
use Rattle.lane_models.specs.OnChannel.{IsChannelOf}
use Rattle.lane_models.specs.LaneStep.{ServerOnWire, ServerWorks, reach}
use Rattle.lane_models.specs.Seeing.{Seen, seen}
use Rattle.lane_models.specs.Served.{Served, ServedStep, StoreDid}
use Rattle.lane_models.specs.ServerState.{ServerState}
use Rattle.lane_models.specs.ServerStep.{ServerStep}
use Rattle.cookie_copy.specs.Reach.{Reach}
use Rattle.vdisk_server.specs.declared.answers.ServerOut.{ServerOut}
use Rattle.vdisk_server.specs.declared.answers.ServerOut.TheVariants as out
use Rattle.descriptor_work.specs.Calling.{reach_over}
use Rattle.vdisk_server.specs.Answering.{Serves, ToldAfter, channel_after, sees, server_event}
use Rattle.vdisk_server.specs.InLane.{lane_after}

-- as the lane sees the channel
lane_seen : (s : LaneState) (c : ChannelView) → IsChannelOf c s → sees c ≡ seen B s.shape.entries s.wire.wire
lane_seen s c is = ap (λ (n : ℕ). seen B n c.wire) is.entries ∙ ap (λ (w : Wire). seen B s.shape.entries w) is.wire

lane_reach : (s : LaneState) (c : ChannelView) → IsChannelOf c s → reach_over c s.table s.memory ≡ reach s (both_up s.wire.wire)
lane_reach s c is = ap (λ (w : Wire). let r : Reach = record { both = both_up w; table = s.table; memory = s.memory } in r) is.wire

lane_step : (s : LaneState) (c : ChannelView) (gave : List ℕ) (event : DiskEvent) (server : ServerState) (memory : List ℕ) → s.stopped ≡ false → IsChannelOf c s
    → ServerStep s.server (sees c) (reach_over c s.table s.memory) gave event server memory
    → (s.stopped ≡ false) × ServerStep s.server (seen B s.shape.entries s.wire.wire) (reach s (both_up s.wire.wire)) gave event server memory
lane_step s c gave event server memory runs is step = (
  runs,
  subst (λ (at : Seen). ServerStep s.server at (reach s (both_up s.wire.wire)) gave event server memory) (lane_seen s c is)
      (subst (λ (r : Reach). ServerStep s.server (sees c) r gave event server memory) (lane_reach s c is) step),
)

on_wire : (s : LaneState) (c : ChannelView) (gave : List ℕ) (event : wire.WireEvent) (server : ServerState) (memory : List ℕ) → s.stopped ≡ false → IsChannelOf c s
    → ServerStep s.server (sees c) (reach_over c s.table s.memory) gave (OnWire event) server memory
    → ServerOnWire s gave event (lane_after s (OnWire event) server memory)
on_wire s c gave event server memory runs is step = record { step = lane_step s c gave (OnWire event) server memory runs is step; is = refl }

works_event : (s : LaneState) (c : ChannelView) (gave : List ℕ) (event : Worked) (server : ServerState) (memory : List ℕ) → s.stopped ≡ false → IsChannelOf c s
    → ServerStep s.server (sees c) (reach_over c s.table s.memory) gave (Works event) server memory
    → ServerWorks s gave event (lane_after s (Works event) server memory)
works_event s c gave event server memory runs is step = record { step = lane_step s c gave (Works event) server memory runs is step; is = refl }

-- the lane's step, and what became of the store's bytes
served_step : (s : LaneState) (c : ChannelView) (gave : List ℕ) (answer : ServerOut) (server : ServerState) (memory : List ℕ) → s.stopped ≡ false → IsChannelOf c s
    → ServerStep s.server (sees c) (reach_over c s.table s.memory) gave (server_event answer) server memory
    → ServedStep s gave (server_event answer) (lane_after s (server_event answer) server memory)
served_step s c gave out.Idle server memory runs is step = on_wire s c gave (wire.Idle B) server memory runs is step
served_step s c gave out.Blocked server memory runs is step = on_wire s c gave (wire.Blocked B) server memory runs is step
served_step s c gave out.Joined server memory runs is step = on_wire s c gave (wire.Joined B 0) server memory runs is step
served_step s c gave (out.Took packet opens) server memory runs is step = on_wire s c gave (wire.Took B packet opens) server memory runs is step
served_step s c gave (out.Sent packet opens) server memory runs is step = on_wire s c gave (wire.Sent B packet opens) server memory runs is step
served_step s c gave (out.Desc slot bytes) server memory runs is step = works_event s c gave (Desc slot bytes) server memory runs is step
served_step s c gave (out.Moved unit fault) server memory runs is step = works_event s c gave (Moved unit fault) server memory runs is step
served_step s c gave (out.Stored operation block count failed) server memory runs is step =
    works_event s c gave (Stored operation block count failed) server memory runs is step
served_step s c gave (out.Finished slot status) server memory runs is step = works_event s c gave (Finished slot status) server memory runs is step
served_step s c gave (out.Reset cause packet) server memory runs is step = on_wire s c gave (wire.Reset B cause packet 0) server memory runs is step

did_store : (s : LaneState) (answer : ServerOut) (gave : List ℕ) (told new : Option (List ℕ)) → ToldAfter s.server answer gave told new → StoreDid s (server_event answer) gave told new
did_store s (out.Stored operation block count failed) gave told new did = did
did_store s out.Idle gave told new did = did
did_store s out.Blocked gave told new did = did
did_store s out.Joined gave told new did = did
did_store s (out.Took packet opens) gave told new did = did
did_store s (out.Sent packet opens) gave told new did = did
did_store s (out.Desc slot bytes) gave told new did = did
did_store s (out.Moved unit fault) gave told new did = did
did_store s (out.Finished slot status) gave told new did = did
did_store s (out.Reset cause packet) gave told new did = did

pub served : (s : LaneState) (c : ChannelView) (told new_told : Option (List ℕ)) (answer : ServerOut) (server : ServerState) (memory : List ℕ)
    → s.stopped ≡ false → IsChannelOf c s → Serves s.server c s.table s.memory told answer server memory new_told
    → Served s told (server_event answer) (lane_after s (server_event answer) server memory) new_told
served s c told new_told answer server memory runs is serves = record {
  gave = serves.gave;
  step = served_step s c serves.gave answer server memory runs is serves.step;
  store = did_store s answer serves.gave told new_told serves.store;
}

-- the channel after the step
pub wire_after : (s : LaneState) (c : ChannelView) (answer : ServerOut) (server : ServerState) (memory : List ℕ) → IsChannelOf c s
    → IsChannelOf (channel_after answer c) (lane_after s (server_event answer) server memory)
wire_after s c out.Idle server memory is = record { entries = is.entries; wire = is.wire }
wire_after s c out.Blocked server memory is = record { entries = is.entries; wire = is.wire }
wire_after s c out.Joined server memory is = record { entries = is.entries; wire = ap (configured B) is.wire }
wire_after s c (out.Took packet opens) server memory is = record { entries = is.entries; wire = ap (taken_for B) is.wire }
wire_after s c (out.Sent packet opens) server memory is = record { entries = is.entries; wire = ap (put_for A packet) is.wire }
wire_after s c (out.Desc slot bytes) server memory is = record { entries = is.entries; wire = is.wire }
wire_after s c (out.Moved unit fault) server memory is = record { entries = is.entries; wire = is.wire }
wire_after s c (out.Stored operation block count failed) server memory is = record { entries = is.entries; wire = is.wire }
wire_after s c (out.Finished slot status) server memory is = record { entries = is.entries; wire = is.wire }
wire_after s c (out.Reset cause packet) server memory is = record { entries = is.entries; wire = ap (configured B) is.wire }
