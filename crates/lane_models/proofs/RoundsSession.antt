-- The steps of a lane's first rounds, one by one: rounds 13 to 24.
use Rattle.std.proofs.Common.{ℕ, true, false, Option, List, refl, arith}
use Rattle.std.specs.Prelude.{Ok}
use Rattle.ldc_packet.specs.Spelling.{canonical}
use Rattle.ldc_queue.specs.declared.end.End.TheVariants.{A, B}
use Rattle.map_table.specs.declared.table.Entry.{Entry}
use Rattle.vdisk_msg.specs.declared.request.Request.{Request}
use Rattle.vio_handshake.specs.Acceptance.{accepts_ring, hold_ring}
use Rattle.vio_handshake.specs.Attributes.{accepts_answered, accepts_said, answered_attributes, said_attributes}
use Rattle.vio_tag.proofs.Canonical.{canonical_spells}
use Rattle.vio_tag.specs.Spelling.{canonical as spelled}
use Rattle.lane_models.specs.WireEvent.{Idle, Sent, Took}
use Rattle.lane_models.specs.DiskEvent.{OnWire, Published, Works}
use Rattle.lane_models.specs.LaneStep.{LaneStep}
use Rattle.lane_models.specs.FirstRounds.{attr_ack, data_info, rdx_ack, rdx_info, reg_ack, reg_info, carries}
use Rattle.lane_models.proofs.LaterStates.{state_25, state_26, state_27, state_28, state_29, state_30, state_31, state_32, state_33, state_34, state_35, state_36, state_37, state_38, state_39, state_40, state_41, state_42, state_43, state_44, state_45, state_46, state_47, state_48}
use Rattle.lane_models.proofs.RoundStates.{state_24}
use Rattle.lane_models.proofs.RoundMessages.{attr_ack_form, attr_ack_widths, data_info_form, data_info_widths, rdx_ack_form, rdx_ack_widths, rdx_info_form, rdx_info_widths, reg_ack_form, reg_ack_widths, reg_info_form, reg_info_widths}
use Rattle.lane_models.proofs.Stepping.{announcing_client, client_publishes, client_rests, client_sends, client_takes, holding_client, holding_server, server_rests, server_sends, server_takes}

-- round 13
pub step_24 : (memory : List ℕ) (table : List (Option Entry)) (request : Request) → LaneStep (state_24 memory table request) (OnWire (Idle A)) (state_25 memory table request)
unfolding spelled said_attributes accepts_said answered_attributes accepts_answered accepts_ring hold_ring
step_24 memory table request = client_rests (state_24 memory table request) refl

-- round 13
pub step_25 : (memory : List ℕ) (table : List (Option Entry)) (request : Request) → LaneStep (state_25 memory table request) (OnWire (Sent B (canonical (carries 2 56 attr_ack)) false)) (state_26 memory table request)
unfolding spelled said_attributes accepts_said answered_attributes accepts_answered accepts_ring hold_ring
step_25 memory table request = server_sends (state_25 memory table request) (holding_server attr_ack (state_25 memory table request).server) (carries 2 56 attr_ack) refl refl refl refl

-- round 14
pub step_26 : (memory : List ℕ) (table : List (Option Entry)) (request : Request) → LaneStep (state_26 memory table request) (OnWire (Took A (canonical (carries 2 56 attr_ack)) false)) (state_27 memory table request)
unfolding spelled said_attributes accepts_said answered_attributes accepts_answered accepts_ring hold_ring
step_26 memory table request = client_takes (state_26 memory table request) (carries 2 56 attr_ack) (record { info = refl; some = omega arith; within = omega arith; room = refl; zeros = refl }) (omega arith, tt) (state_27 memory table request).client refl (Ok attr_ack, record { message = (attr_ack_form, canonical_spells attr_ack attr_ack_form attr_ack_widths); fault = tt }, refl)

-- round 14
pub step_27 : (memory : List ℕ) (table : List (Option Entry)) (request : Request) → LaneStep (state_27 memory table request) (OnWire (Idle B)) (state_28 memory table request)
unfolding spelled said_attributes accepts_said answered_attributes accepts_answered accepts_ring hold_ring
step_27 memory table request = server_rests (state_27 memory table request) refl refl

-- round 15
pub step_28 : (memory : List ℕ) (table : List (Option Entry)) (request : Request) → LaneStep (state_28 memory table request) (OnWire (Sent A (canonical (carries 4 48 reg_info)) false)) (state_29 memory table request)
unfolding spelled said_attributes accepts_said answered_attributes accepts_answered accepts_ring hold_ring
step_28 memory table request = client_sends (state_28 memory table request) (holding_client reg_info (state_28 memory table request).client) (carries 4 48 reg_info) refl refl refl

-- round 15
pub step_29 : (memory : List ℕ) (table : List (Option Entry)) (request : Request) → LaneStep (state_29 memory table request) (OnWire (Took B (canonical (carries 4 48 reg_info)) false)) (state_30 memory table request)
unfolding spelled said_attributes accepts_said answered_attributes accepts_answered accepts_ring hold_ring
step_29 memory table request = server_takes (state_29 memory table request) (carries 4 48 reg_info) (record { info = refl; some = omega arith; within = omega arith; room = refl; zeros = refl }) (omega arith, tt) (state_30 memory table request).server false refl (Ok reg_info, record { message = (reg_info_form, canonical_spells reg_info reg_info_form reg_info_widths); fault = tt }, refl) refl

-- round 16
pub step_30 : (memory : List ℕ) (table : List (Option Entry)) (request : Request) → LaneStep (state_30 memory table request) (OnWire (Idle A)) (state_31 memory table request)
unfolding spelled said_attributes accepts_said answered_attributes accepts_answered accepts_ring hold_ring
step_30 memory table request = client_rests (state_30 memory table request) refl

-- round 16
pub step_31 : (memory : List ℕ) (table : List (Option Entry)) (request : Request) → LaneStep (state_31 memory table request) (OnWire (Sent B (canonical (carries 3 48 reg_ack)) false)) (state_32 memory table request)
unfolding spelled said_attributes accepts_said answered_attributes accepts_answered accepts_ring hold_ring
step_31 memory table request = server_sends (state_31 memory table request) (holding_server reg_ack (state_31 memory table request).server) (carries 3 48 reg_ack) refl refl refl refl

-- round 17
pub step_32 : (memory : List ℕ) (table : List (Option Entry)) (request : Request) → LaneStep (state_32 memory table request) (OnWire (Took A (canonical (carries 3 48 reg_ack)) false)) (state_33 memory table request)
unfolding spelled said_attributes accepts_said answered_attributes accepts_answered accepts_ring hold_ring
step_32 memory table request = client_takes (state_32 memory table request) (carries 3 48 reg_ack) (record { info = refl; some = omega arith; within = omega arith; room = refl; zeros = refl }) (omega arith, tt) (state_33 memory table request).client refl (Ok reg_ack, record { message = (reg_ack_form, canonical_spells reg_ack reg_ack_form reg_ack_widths); fault = tt }, refl)

-- round 17
pub step_33 : (memory : List ℕ) (table : List (Option Entry)) (request : Request) → LaneStep (state_33 memory table request) (OnWire (Idle B)) (state_34 memory table request)
unfolding spelled said_attributes accepts_said answered_attributes accepts_answered accepts_ring hold_ring
step_33 memory table request = server_rests (state_33 memory table request) refl refl

-- round 18
pub step_34 : (memory : List ℕ) (table : List (Option Entry)) (request : Request) → LaneStep (state_34 memory table request) (OnWire (Sent A (canonical (carries 5 56 rdx_info)) false)) (state_35 memory table request)
unfolding spelled said_attributes accepts_said answered_attributes accepts_answered accepts_ring hold_ring
step_34 memory table request = client_sends (state_34 memory table request) (holding_client rdx_info (state_34 memory table request).client) (carries 5 56 rdx_info) refl refl refl

-- round 18
pub step_35 : (memory : List ℕ) (table : List (Option Entry)) (request : Request) → LaneStep (state_35 memory table request) (OnWire (Took B (canonical (carries 5 56 rdx_info)) false)) (state_36 memory table request)
unfolding spelled said_attributes accepts_said answered_attributes accepts_answered accepts_ring hold_ring
step_35 memory table request = server_takes (state_35 memory table request) (carries 5 56 rdx_info) (record { info = refl; some = omega arith; within = omega arith; room = refl; zeros = refl }) (omega arith, tt) (state_36 memory table request).server false refl (Ok rdx_info, record { message = (rdx_info_form, canonical_spells rdx_info rdx_info_form rdx_info_widths); fault = tt }, refl) refl

-- round 19
pub step_36 : (memory : List ℕ) (table : List (Option Entry)) (request : Request) → LaneStep (state_36 memory table request) (OnWire (Idle A)) (state_37 memory table request)
unfolding spelled said_attributes accepts_said answered_attributes accepts_answered accepts_ring hold_ring
step_36 memory table request = client_rests (state_36 memory table request) refl

-- round 19
pub step_37 : (memory : List ℕ) (table : List (Option Entry)) (request : Request) → LaneStep (state_37 memory table request) (OnWire (Sent B (canonical (carries 4 56 rdx_ack)) false)) (state_38 memory table request)
unfolding spelled said_attributes accepts_said answered_attributes accepts_answered accepts_ring hold_ring
step_37 memory table request = server_sends (state_37 memory table request) (holding_server rdx_ack (state_37 memory table request).server) (carries 4 56 rdx_ack) refl refl refl refl

-- round 20
pub step_38 : (memory : List ℕ) (table : List (Option Entry)) (request : Request) → LaneStep (state_38 memory table request) (OnWire (Took A (canonical (carries 4 56 rdx_ack)) false)) (state_39 memory table request)
unfolding spelled said_attributes accepts_said answered_attributes accepts_answered accepts_ring hold_ring
step_38 memory table request = client_takes (state_38 memory table request) (carries 4 56 rdx_ack) (record { info = refl; some = omega arith; within = omega arith; room = refl; zeros = refl }) (omega arith, tt) (state_39 memory table request).client refl (Ok rdx_ack, record { message = (rdx_ack_form, canonical_spells rdx_ack rdx_ack_form rdx_ack_widths); fault = tt }, refl)

-- round 20
pub step_39 : (memory : List ℕ) (table : List (Option Entry)) (request : Request) → LaneStep (state_39 memory table request) (OnWire (Sent B (canonical (carries 5 56 rdx_info)) false)) (state_40 memory table request)
unfolding spelled said_attributes accepts_said answered_attributes accepts_answered accepts_ring hold_ring
step_39 memory table request = server_sends (state_39 memory table request) (holding_server rdx_info (state_39 memory table request).server) (carries 5 56 rdx_info) refl refl refl refl

-- round 21
pub step_40 : (memory : List ℕ) (table : List (Option Entry)) (request : Request) → LaneStep (state_40 memory table request) (OnWire (Took A (canonical (carries 5 56 rdx_info)) false)) (state_41 memory table request)
unfolding spelled said_attributes accepts_said answered_attributes accepts_answered accepts_ring hold_ring
step_40 memory table request = client_takes (state_40 memory table request) (carries 5 56 rdx_info) (record { info = refl; some = omega arith; within = omega arith; room = refl; zeros = refl }) (omega arith, tt) (state_41 memory table request).client refl (Ok rdx_info, record { message = (rdx_info_form, canonical_spells rdx_info rdx_info_form rdx_info_widths); fault = tt }, refl)

-- round 21
pub step_41 : (memory : List ℕ) (table : List (Option Entry)) (request : Request) → LaneStep (state_41 memory table request) (OnWire (Idle B)) (state_42 memory table request)
unfolding spelled said_attributes accepts_said answered_attributes accepts_answered accepts_ring hold_ring
step_41 memory table request = server_rests (state_41 memory table request) refl refl

-- round 22
pub step_42 : (memory : List ℕ) (table : List (Option Entry)) (request : Request) → LaneStep (state_42 memory table request) (OnWire (Sent A (canonical (carries 6 56 rdx_ack)) true)) (state_43 memory table request)
unfolding spelled said_attributes accepts_said answered_attributes accepts_answered accepts_ring hold_ring
step_42 memory table request = client_sends (state_42 memory table request) (holding_client rdx_ack (state_42 memory table request).client) (carries 6 56 rdx_ack) refl refl refl

-- round 22
pub step_43 : (memory : List ℕ) (table : List (Option Entry)) (request : Request) → LaneStep (state_43 memory table request) (OnWire (Took B (canonical (carries 6 56 rdx_ack)) true)) (state_44 memory table request)
unfolding spelled said_attributes accepts_said answered_attributes accepts_answered accepts_ring hold_ring
step_43 memory table request = server_takes (state_43 memory table request) (carries 6 56 rdx_ack) (record { info = refl; some = omega arith; within = omega arith; room = refl; zeros = refl }) (omega arith, tt) (state_44 memory table request).server true refl (Ok rdx_ack, record { message = (rdx_ack_form, canonical_spells rdx_ack rdx_ack_form rdx_ack_widths); fault = tt }, refl) refl

-- round 23
pub step_44 : (memory : List ℕ) (table : List (Option Entry)) (request : Request) → LaneStep (state_44 memory table request) (Works (Published 0)) (state_45 memory table request)
unfolding spelled said_attributes accepts_said answered_attributes accepts_answered accepts_ring hold_ring
step_44 memory table request = client_publishes (state_44 memory table request) (record { base = 0; published = 0; announced = 0; acked = 0; completed = 0; infos = 0; announcing = false }) request refl

-- round 23
pub step_45 : (memory : List ℕ) (table : List (Option Entry)) (request : Request) → LaneStep (state_45 memory table request) (OnWire (Idle B)) (state_46 memory table request)
unfolding spelled said_attributes accepts_said answered_attributes accepts_answered accepts_ring hold_ring
step_45 memory table request = server_rests (state_45 memory table request) refl refl

-- round 24
pub step_46 : (memory : List ℕ) (table : List (Option Entry)) (request : Request) → LaneStep (state_46 memory table request) (OnWire (Sent A (canonical (carries 7 56 data_info)) false)) (state_47 memory table request)
unfolding spelled said_attributes accepts_said answered_attributes accepts_answered accepts_ring hold_ring
step_46 memory table request = client_sends (state_46 memory table request) (announcing_client (state_46 memory table request).client) (carries 7 56 data_info) refl refl refl

-- round 24
pub step_47 : (memory : List ℕ) (table : List (Option Entry)) (request : Request) → LaneStep (state_47 memory table request) (OnWire (Took B (canonical (carries 7 56 data_info)) false)) (state_48 memory table request)
unfolding spelled said_attributes accepts_said answered_attributes accepts_answered accepts_ring hold_ring
step_47 memory table request = server_takes (state_47 memory table request) (carries 7 56 data_info) (record { info = refl; some = omega arith; within = omega arith; room = refl; zeros = refl }) (omega arith, tt) (state_48 memory table request).server false refl (Ok data_info, record { message = (data_info_form, canonical_spells data_info data_info_form data_info_widths); fault = tt }, refl) refl
