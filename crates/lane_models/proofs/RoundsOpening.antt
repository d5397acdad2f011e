-- The steps of a lane's first rounds, one by one: rounds 1 to 12.
use Rattle.std.proofs.Common.{ℕ, false, Option, List, refl, arith}
use Rattle.std.specs.Prelude.{Ok}
use Rattle.ldc_packet.specs.declared.packet.Body.TheVariants as body
use Rattle.ldc_packet.specs.declared.packet.Subtype.TheVariants.{Info, Ack}
use Rattle.ldc_packet.specs.Spelling.{canonical}
use Rattle.ldc_queue.specs.declared.end.End.TheVariants.{A, B}
use Rattle.map_table.specs.declared.table.Entry.{Entry}
use Rattle.vdisk_msg.specs.declared.request.Request.{Request}
use Rattle.vio_handshake.specs.Acceptance.{accepts_ring, hold_ring}
use Rattle.vio_handshake.specs.Attributes.{accepts_answered, accepts_said, answered_attributes, said_attributes}
use Rattle.vio_tag.proofs.Canonical.{canonical_spells}
use Rattle.vio_tag.specs.Spelling.{canonical as spelled}
use Rattle.lane_models.specs.WireEvent.{Idle, Joined, Sent, Took}
use Rattle.lane_models.specs.DiskEvent.{OnWire}
use Rattle.lane_models.specs.LaneStep.{LaneStep}
use Rattle.ldc_link.specs.Putting.{control}
use Rattle.lane_models.specs.FirstRounds.{attr_info, ver_ack, ver_info, carries}
use Rattle.lane_models.proofs.RoundStates.{state_0, state_1, state_2, state_3, state_4, state_5, state_6, state_7, state_8, state_9, state_10, state_11, state_12, state_13, state_14, state_15, state_16, state_17, state_18, state_19, state_20, state_21, state_22, state_23, state_24}
use Rattle.lane_models.proofs.RoundMessages.{attr_info_form, attr_info_widths, ver_ack_form, ver_ack_widths, ver_info_form, ver_info_widths}
use Rattle.lane_models.proofs.Stepping.{client_joins, client_rests, client_sends, client_takes, holding_client, holding_server, server_joins, server_rests, server_sends, server_takes}

-- round 1
pub step_0 : (memory : List ℕ) (table : List (Option Entry)) (request : Request) → LaneStep (state_0 memory table request) (OnWire (Joined A 0)) (state_1 memory table request)
unfolding spelled said_attributes accepts_said answered_attributes accepts_answered accepts_ring hold_ring
step_0 memory table request = client_joins (state_0 memory table request) refl

-- round 1
pub step_1 : (memory : List ℕ) (table : List (Option Entry)) (request : Request) → LaneStep (state_1 memory table request) (OnWire (Joined B 0)) (state_2 memory table request)
unfolding spelled said_attributes accepts_said answered_attributes accepts_answered accepts_ring hold_ring
step_1 memory table request = server_joins (state_1 memory table request) refl refl

-- round 2
pub step_2 : (memory : List ℕ) (table : List (Option Entry)) (request : Request) → LaneStep (state_2 memory table request) (OnWire (Sent A (canonical (control Info 0 (body.Vers 1 0))) false)) (state_3 memory table request)
unfolding spelled said_attributes accepts_said answered_attributes accepts_answered accepts_ring hold_ring
step_2 memory table request = client_sends (state_2 memory table request) (state_2 memory table request).client (control Info 0 (body.Vers 1 0)) refl refl refl

-- round 2
pub step_3 : (memory : List ℕ) (table : List (Option Entry)) (request : Request) → LaneStep (state_3 memory table request) (OnWire (Took B (canonical (control Info 0 (body.Vers 1 0))) false)) (state_4 memory table request)
unfolding spelled said_attributes accepts_said answered_attributes accepts_answered accepts_ring hold_ring
step_3 memory table request = server_takes (state_3 memory table request) (control Info 0 (body.Vers 1 0)) tt (omega arith, (omega arith, omega arith)) (state_4 memory table request).server false refl refl refl

-- round 3
pub step_4 : (memory : List ℕ) (table : List (Option Entry)) (request : Request) → LaneStep (state_4 memory table request) (OnWire (Idle A)) (state_5 memory table request)
unfolding spelled said_attributes accepts_said answered_attributes accepts_answered accepts_ring hold_ring
step_4 memory table request = client_rests (state_4 memory table request) refl

-- round 3
pub step_5 : (memory : List ℕ) (table : List (Option Entry)) (request : Request) → LaneStep (state_5 memory table request) (OnWire (Sent B (canonical (control Ack 0 (body.Vers 1 0))) false)) (state_6 memory table request)
unfolding spelled said_attributes accepts_said answered_attributes accepts_answered accepts_ring hold_ring
step_5 memory table request = server_sends (state_5 memory table request) (state_5 memory table request).server (control Ack 0 (body.Vers 1 0)) refl refl refl refl

-- round 4
pub step_6 : (memory : List ℕ) (table : List (Option Entry)) (request : Request) → LaneStep (state_6 memory table request) (OnWire (Took A (canonical (control Ack 0 (body.Vers 1 0))) false)) (state_7 memory table request)
unfolding spelled said_attributes accepts_said answered_attributes accepts_answered accepts_ring hold_ring
step_6 memory table request = client_takes (state_6 memory table request) (control Ack 0 (body.Vers 1 0)) tt (omega arith, (omega arith, omega arith)) (state_7 memory table request).client refl refl

-- round 4
pub step_7 : (memory : List ℕ) (table : List (Option Entry)) (request : Request) → LaneStep (state_7 memory table request) (OnWire (Idle B)) (state_8 memory table request)
unfolding spelled said_attributes accepts_said answered_attributes accepts_answered accepts_ring hold_ring
step_7 memory table request = server_rests (state_7 memory table request) refl refl

-- round 5
pub step_8 : (memory : List ℕ) (table : List (Option Entry)) (request : Request) → LaneStep (state_8 memory table request) (OnWire (Sent A (canonical (control Info 0 (body.Rts 1))) false)) (state_9 memory table request)
unfolding spelled said_attributes accepts_said answered_attributes accepts_answered accepts_ring hold_ring
step_8 memory table request = client_sends (state_8 memory table request) (state_8 memory table request).client (control Info 0 (body.Rts 1)) refl refl refl

-- round 5
pub step_9 : (memory : List ℕ) (table : List (Option Entry)) (request : Request) → LaneStep (state_9 memory table request) (OnWire (Took B (canonical (control Info 0 (body.Rts 1))) false)) (state_10 memory table request)
unfolding spelled said_attributes accepts_said answered_attributes accepts_answered accepts_ring hold_ring
step_9 memory table request = server_takes (state_9 memory table request) (control Info 0 (body.Rts 1)) tt (omega arith, omega arith) (state_10 memory table request).server false refl refl refl

-- round 6
pub step_10 : (memory : List ℕ) (table : List (Option Entry)) (request : Request) → LaneStep (state_10 memory table request) (OnWire (Idle A)) (state_11 memory table request)
unfolding spelled said_attributes accepts_said answered_attributes accepts_answered accepts_ring hold_ring
step_10 memory table request = client_rests (state_10 memory table request) refl

-- round 6
pub step_11 : (memory : List ℕ) (table : List (Option Entry)) (request : Request) → LaneStep (state_11 memory table request) (OnWire (Sent B (canonical (control Info 0 (body.Rtr 1))) false)) (state_12 memory table request)
unfolding spelled said_attributes accepts_said answered_attributes accepts_answered accepts_ring hold_ring
step_11 memory table request = server_sends (state_11 memory table request) (state_11 memory table request).server (control Info 0 (body.Rtr 1)) refl refl refl refl

-- round 7
pub step_12 : (memory : List ℕ) (table : List (Option Entry)) (request : Request) → LaneStep (state_12 memory table request) (OnWire (Took A (canonical (control Info 0 (body.Rtr 1))) false)) (state_13 memory table request)
unfolding spelled said_attributes accepts_said answered_attributes accepts_answered accepts_ring hold_ring
step_12 memory table request = client_takes (state_12 memory table request) (control Info 0 (body.Rtr 1)) tt (omega arith, omega arith) (state_13 memory table request).client refl refl

-- round 7
pub step_13 : (memory : List ℕ) (table : List (Option Entry)) (request : Request) → LaneStep (state_13 memory table request) (OnWire (Idle B)) (state_14 memory table request)
unfolding spelled said_attributes accepts_said answered_attributes accepts_answered accepts_ring hold_ring
step_13 memory table request = server_rests (state_13 memory table request) refl refl

-- round 8
pub step_14 : (memory : List ℕ) (table : List (Option Entry)) (request : Request) → LaneStep (state_14 memory table request) (OnWire (Sent A (canonical (control Info 1 body.Rdx)) false)) (state_15 memory table request)
unfolding spelled said_attributes accepts_said answered_attributes accepts_answered accepts_ring hold_ring
step_14 memory table request = client_sends (state_14 memory table request) (state_14 memory table request).client (control Info 1 body.Rdx) refl refl refl

-- round 8
pub step_15 : (memory : List ℕ) (table : List (Option Entry)) (request : Request) → LaneStep (state_15 memory table request) (OnWire (Took B (canonical (control Info 1 body.Rdx)) false)) (state_16 memory table request)
unfolding spelled said_attributes accepts_said answered_attributes accepts_answered accepts_ring hold_ring
step_15 memory table request = server_takes (state_15 memory table request) (control Info 1 body.Rdx) tt (omega arith, tt) (state_16 memory table request).server false refl refl refl

-- round 9
pub step_16 : (memory : List ℕ) (table : List (Option Entry)) (request : Request) → LaneStep (state_16 memory table request) (OnWire (Sent A (canonical (carries 2 56 ver_info)) false)) (state_17 memory table request)
unfolding spelled said_attributes accepts_said answered_attributes accepts_answered accepts_ring hold_ring
step_16 memory table request = client_sends (state_16 memory table request) (holding_client ver_info (state_16 memory table request).client) (carries 2 56 ver_info) refl refl refl

-- round 9
pub step_17 : (memory : List ℕ) (table : List (Option Entry)) (request : Request) → LaneStep (state_17 memory table request) (OnWire (Took B (canonical (carries 2 56 ver_info)) false)) (state_18 memory table request)
unfolding spelled said_attributes accepts_said answered_attributes accepts_answered accepts_ring hold_ring
step_17 memory table request = server_takes (state_17 memory table request) (carries 2 56 ver_info) (record { info = refl; some = omega arith; within = omega arith; room = refl; zeros = refl }) (omega arith, tt) (state_18 memory table request).server false refl (Ok ver_info, record { message = (ver_info_form, canonical_spells ver_info ver_info_form ver_info_widths); fault = tt }, refl) refl

-- round 10
pub step_18 : (memory : List ℕ) (table : List (Option Entry)) (request : Request) → LaneStep (state_18 memory table request) (OnWire (Idle A)) (state_19 memory table request)
unfolding spelled said_attributes accepts_said answered_attributes accepts_answered accepts_ring hold_ring
step_18 memory table request = client_rests (state_18 memory table request) refl

-- round 10
pub step_19 : (memory : List ℕ) (table : List (Option Entry)) (request : Request) → LaneStep (state_19 memory table request) (OnWire (Sent B (canonical (carries 1 56 ver_ack)) false)) (state_20 memory table request)
unfolding spelled said_attributes accepts_said answered_attributes accepts_answered accepts_ring hold_ring
step_19 memory table request = server_sends (state_19 memory table request) (holding_server ver_ack (state_19 memory table request).server) (carries 1 56 ver_ack) refl refl refl refl

-- round 11
pub step_20 : (memory : List ℕ) (table : List (Option Entry)) (request : Request) → LaneStep (state_20 memory table request) (OnWire (Took A (canonical (carries 1 56 ver_ack)) false)) (state_21 memory table request)
unfolding spelled said_attributes accepts_said answered_attributes accepts_answered accepts_ring hold_ring
step_20 memory table request = client_takes (state_20 memory table request) (carries 1 56 ver_ack) (record { info = refl; some = omega arith; within = omega arith; room = refl; zeros = refl }) (omega arith, tt) (state_21 memory table request).client refl (Ok ver_ack, record { message = (ver_ack_form, canonical_spells ver_ack ver_ack_form ver_ack_widths); fault = tt }, refl)

-- round 11
pub step_21 : (memory : List ℕ) (table : List (Option Entry)) (request : Request) → LaneStep (state_21 memory table request) (OnWire (Idle B)) (state_22 memory table request)
unfolding spelled said_attributes accepts_said answered_attributes accepts_answered accepts_ring hold_ring
step_21 memory table request = server_rests (state_21 memory table request) refl refl

-- round 12
pub step_22 : (memory : List ℕ) (table : List (Option Entry)) (request : Request) → LaneStep (state_22 memory table request) (OnWire (Sent A (canonical (carries 3 56 attr_info)) false)) (state_23 memory table request)
unfolding spelled said_attributes accepts_said answered_attributes accepts_answered accepts_ring hold_ring
step_22 memory table request = client_sends (state_22 memory table request) (holding_client attr_info (state_22 memory table request).client) (carries 3 56 attr_info) refl refl refl

-- round 12
pub step_23 : (memory : List ℕ) (table : List (Option Entry)) (request : Request) → LaneStep (state_23 memory table request) (OnWire (Took B (canonical (carries 3 56 attr_info)) false)) (state_24 memory table request)
unfolding spelled said_attributes accepts_said answered_attributes accepts_answered accepts_ring hold_ring
step_23 memory table request = server_takes (state_23 memory table request) (carries 3 56 attr_info) (record { info = refl; some = omega arith; within = omega arith; room = refl; zeros = refl }) (omega arith, tt) (state_24 memory table request).server false refl (Ok attr_info, record { message = (attr_info_form, canonical_spells attr_info attr_info_form attr_info_widths); fault = tt }, refl) refl
