-- What a lane notes beside a step of an end makes of it the lane's step.
use Rattle.std.proofs.Common.{◌≡◌, ◌≢◌, ◌||◌, ℕ, Bool, true, false, List, Option, refl, sym, ap, ◌∙◌, subst}
use Rattle.ldc_queue.specs.ChannelView.{ChannelView}
use Rattle.ldc_queue.specs.declared.end.ChannelState.TheVariants.{Up}
use Rattle.ldc_queue.specs.declared.end.End.TheVariants.{A, B}
use Rattle.ldc_queue.specs.Wire.{Wire, state_of}
use Rattle.disk_lane.specs.Events.{ResetsOwn}
use Rattle.lane_models.proofs.OwnSteps.{client_resets_own}
use Rattle.lane_models.specs.ClientRule.{client_rule}
use Rattle.lane_models.specs.ClientState.{ClientState}
use Rattle.lane_models.specs.DiskEvent.{DiskEvent}
use Rattle.lane_models.specs.LaneState.{LaneState, NearCounts, near_disturbed, near_finished}
use Rattle.lane_models.specs.LaneStep.{LaneStep}
use Rattle.lane_models.specs.OnChannel.{IsChannelOf}
use Rattle.lane_models.specs.Served.{Served}
use Rattle.lane_models.specs.ServerState.{ServerState}
use Rattle.vdisk_client.proofs.LaneSteps.{lane_steps}
use Rattle.vdisk_client.specs.Calls.{Steps, channel_after, client_event, sees}
use Rattle.vdisk_client.specs.OnLane.{client_moved}
use Rattle.vdisk_client.specs.declared.answers.ClientOut.{ClientOut}
use Rattle.vdisk_client.specs.declared.answers.ClientOut.TheVariants as client_out
use Rattle.vdisk_server.proofs.LaneSteps.{served}
use Rattle.descriptor_work.specs.Calling.{reach_over}
use Rattle.vdisk_server.specs.Answering.{Serves, channel_after as server_channel_after, server_event}
use Rattle.vdisk_server.specs.Answering.{sees as server_sees}
use Rattle.vdisk_server.specs.InLane.{lane_after}
use Rattle.vdisk_server.specs.declared.answers.ServerOut.{ServerOut}
use Rattle.vdisk_server.specs.declared.answers.ServerOut.TheVariants as server_out
use Rattle.disk_lane.proofs.EndsUp.{behind_down, behind_up, client_joins, client_resets, server_joins, server_resets}
use Rattle.disk_lane.specs.Noted.{noted}

or_false : (b : Bool) → (b || false) ≡ b
or_false true = refl
or_false false = refl

-- the channel of a lane
abbrev pub channel_of : ChannelView → LaneState → ChannelView
channel_of c s = record c { wire = s.wire.wire; entries = s.shape.entries }

same_channel : (s : LaneState) (c : ChannelView) → IsChannelOf c s → c ≡ channel_of c s
same_channel s c is = ap (λ (w : Wire). record c { wire = w }) is.wire ∙ ap (λ (n : ℕ). record c { wire = s.wire.wire; entries = n }) is.entries

-- the lane where this is known of what was lost
abbrev knowing : Bool → LaneState → LaneState
knowing lossy s = record s { wire = record s.wire { lossy = lossy } }

-- THE CLIENT. The lane as its step left it, before anything was noted
abbrev pub client_left : LaneState → ChannelView → ClientState → List ℕ → LaneState
client_left s d t new = record s { shape = record s.shape { entries = d.entries }; wire = record s.wire { wire = d.wire }; client = t; memory = new }

abbrev ClientNotes : LaneState → ChannelView → ClientOut → ClientState → List ℕ → Type 0
ClientNotes s c answer t new =
    noted (client_event answer t.last) (client_left s (channel_after answer c) t new)
    ≡ client_moved s (client_event answer t.last) t new

module _ (s : LaneState) (c d : ChannelView) (t : ClientState) (new : List ℕ) where
  client_notes : (answer : ClientOut) → IsChannelOf c s → Steps s.client c s.memory answer t d new
      → ClientNotes s (channel_of c s) answer t new
  client_notes client_out.Idle is steps = refl
  client_notes client_out.Blocked is steps = refl
  client_notes client_out.Joined is steps =
      let down : state_of A s.wire.wire ≢ Up =
      subst (λ (w : Wire). state_of A w ≢ Up) is.wire (client_joins s.client (sees c) steps.step.0) in
      ap (λ (lossy : Bool). knowing lossy (client_moved s (client_event client_out.Joined t.last) t new))
      (sym (behind_down (state_of A s.wire.wire) s.wire.lossy down))
  client_notes (client_out.Took packet opens) is steps = refl
  client_notes (client_out.Sent packet opens) is steps = refl
  client_notes (client_out.Published id) is steps = refl
  client_notes (client_out.Done id operation status len) is steps = refl
  client_notes (client_out.Reset cause packet) is steps =
      let up : state_of A s.wire.wire ≡ Up =
      subst (λ (w : Wire). state_of A w ≡ Up) is.wire
      (client_resets s.client (sees c) s.memory cause packet steps.step.0) in
      let moved : LaneState = client_moved s (client_event (client_out.Reset cause packet) t.last) t new in
      ap (λ (x : ClientState). record (knowing false moved) { near = near_disturbed x }) steps.step.2
      ∙ ap (λ (lossy : Bool). knowing lossy moved) (sym (behind_up (state_of A s.wire.wire) s.wire.lossy up))

  pub client_own : (answer : ClientOut) → Steps s.client c s.memory answer t d new → ResetsOwn answer
  client_own client_out.Idle steps = tt
  client_own client_out.Blocked steps = tt
  client_own client_out.Joined steps = tt
  client_own (client_out.Took packet opens) steps = tt
  client_own (client_out.Sent packet opens) steps = tt
  client_own (client_out.Published id) steps = tt
  client_own (client_out.Done id operation status len) steps = tt
  client_own (client_out.Reset cause packet) steps = client_resets_own (client_rule s.client (sees c)) s.client s.memory cause packet steps.step.0

  pub client_lane : (answer : ClientOut) (next : LaneState) → IsChannelOf c s → Steps s.client c s.memory answer t d new
      → next ≡ noted (client_event answer t.last) (client_left s d t new)
      → LaneStep s (client_event answer next.client.last) next
  client_lane answer next is steps as_noted =
      let event : DiskEvent = client_event answer t.last in
      let over : ClientNotes s c answer t new =
      subst (λ (x : ChannelView). ClientNotes s x answer t new) (sym (same_channel s c is))
      (client_notes answer is steps) in
      let moved : next ≡ client_moved s event t new =
      as_noted ∙ ap (λ (x : ChannelView). noted event (client_left s x t new)) steps.channel ∙ over in
      let last : next.client.last ≡ t.last = ap (λ (x : LaneState). x.client.last) as_noted in
      let step : LaneStep s event next = subst (λ (x : LaneState). LaneStep s event x) (sym moved) (lane_steps s c d t new is answer steps) in
      subst (λ (bytes : List ℕ). LaneStep s (client_event answer bytes) next) (sym last) step

-- THE SERVER, likewise
abbrev pub server_left : LaneState → ChannelView → ServerState → List ℕ → LaneState
server_left s d t new = record s { shape = record s.shape { entries = d.entries }; wire = record s.wire { wire = d.wire }; server = t; memory = new }

abbrev ServerNotes : LaneState → ChannelView → ServerOut → ServerState → List ℕ → Type 0
ServerNotes s c answer t new =
    noted (server_event answer) (server_left s (server_channel_after answer c) t new)
    ≡ lane_after s (server_event answer) t new

module _ (s : LaneState) (c : ChannelView) (t : ServerState) (new : List ℕ) where
  -- an event that isn't a call of the store leaves whether one failed
  still : (near : NearCounts) → record s { server = t; memory = new; near = near } ≡ record s { server = t; memory = new; failed = s.failed || false; near = near }
  still near = ap (λ (b : Bool). record s { server = t; memory = new; failed = b; near = near }) (sym (or_false s.failed))

  module _ (told new_told : Option (List ℕ)) where
    server_notes : (answer : ServerOut) → IsChannelOf c s
        → Serves s.server c s.table s.memory told answer t new new_told → ServerNotes s (channel_of c s) answer t new
    server_notes server_out.Idle is serves = refl
    server_notes server_out.Blocked is serves = refl
    server_notes server_out.Joined is serves =
        let down : state_of B s.wire.wire ≢ Up =
        subst (λ (w : Wire). state_of B w ≢ Up) is.wire (server_joins s.server (server_sees c) serves.step.0) in
        ap (λ (lossy : Bool). knowing lossy (lane_after s (server_event server_out.Joined) t new))
        (sym (behind_down (state_of B s.wire.wire) s.wire.lossy down))
    server_notes (server_out.Took packet opens) is serves = refl
    server_notes (server_out.Sent packet opens) is serves = refl
    server_notes (server_out.Desc slot bytes) is serves = still s.near
    server_notes (server_out.Moved unit fault) is serves = still s.near
    server_notes (server_out.Stored operation block count failed) is serves = refl
    server_notes (server_out.Finished slot status) is serves = still (near_finished s.near)
    server_notes (server_out.Reset cause packet) is serves =
        let up : state_of B s.wire.wire ≡ Up =
        subst (λ (w : Wire). state_of B w ≡ Up) is.wire
        (server_resets s.server (server_sees c) (reach_over c s.table s.memory) cause packet new serves.step.0) in
        ap (λ (lossy : Bool). knowing lossy (lane_after s (server_event (server_out.Reset cause packet)) t new))
        (sym (behind_up (state_of B s.wire.wire) s.wire.lossy up))

    pub server_lane : (answer : ServerOut) (d : ChannelView) (next : LaneState) → s.stopped ≡ false → IsChannelOf c s
        → Serves s.server c s.table s.memory told answer t new new_told → d ≡ server_channel_after answer c
        → next ≡ noted (server_event answer) (server_left s d t new) → Served s told (server_event answer) next new_told
    server_lane answer d next runs is serves channel as_noted =
        let event : DiskEvent = server_event answer in
        let over : ServerNotes s c answer t new =
        subst (λ (x : ChannelView). ServerNotes s x answer t new) (sym (same_channel s c is))
        (server_notes answer is serves) in
        let moved : next ≡ lane_after s event t new =
        as_noted ∙ ap (λ (x : ChannelView). noted event (server_left s x t new)) channel ∙ over in
        subst (λ (x : LaneState). Served s told event x new_told) (sym moved)
        (served s c told new_told answer t new runs is serves)
