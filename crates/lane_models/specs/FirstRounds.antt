-- The first rounds of a lane in which one write of one unit was accepted: a step of the client and one of the server in each. The links
-- come up in round 8, the sessions open in round 22, and in round 24 the server takes the range of the write. The disk has 64 blocks, the
-- ring 8 slots.
use Rattle.std.specs.Prelude.{◌≡◌, ◌≢◌, ℕ, true, false, List, [], ◌∷◌, ◌++◌, replicate, Option, Some, None}
use Rattle.dring.specs.Slots.{free_slots}
use Rattle.ldc_link.specs.Putting.{control, part_bytes}
use Rattle.ldc_packet.specs.declared.packet.Body.TheVariants as body
use Rattle.ldc_packet.specs.declared.packet.Packet.{Packet}
use Rattle.ldc_packet.specs.declared.packet.Subtype.TheVariants.{Info, Ack}
use Rattle.ldc_packet.specs.Spelling.{canonical}
use Rattle.ldc_queue.specs.declared.end.End.TheVariants.{A, B}
use Rattle.map_table.specs.declared.table.Entry.{Entry}
use Rattle.runs.specs.Run.{Run}
use Rattle.vdisk_msg.specs.declared.request.Request.{Request}
use Rattle.vio_bytes.specs.Place.{put_at}
use Rattle.vio_handshake.specs.State.{session_of}
use Rattle.vio_tag.specs.declared.message.Message.{Message}
use Rattle.vio_tag.specs.declared.message.MsgBody.TheVariants.{Ver, Attr, DringReg, Rdx, DringData}
use Rattle.vio_tag.specs.Spelling.{canonical as spelled}
use Rattle.lane_models.specs.WireEvent.{Idle, Joined, Sent, Took}
use Rattle.lane_models.specs.ClientStep.{published_memory}
use Rattle.lane_models.specs.ClientState.{opened_session}
use Rattle.lane_models.specs.DiskEvent.{Accepted, Asks, DiskEvent, OnWire, Published, Works}
use Rattle.lane_models.specs.LaneState.{LaneState, Shape, fresh_over}
use Rattle.lane_models.specs.LaneStep.{LaneStep}
use Rattle.lane_models.specs.OwnMemory.{filled}

-- the messages of the handshake, and the INFO of the write
abbrev pub ver_info : Message
ver_info = record { subtype = Info; sid = 1; body = (Ver 1 1 3) }

abbrev pub ver_ack : Message
ver_ack = record { subtype = Ack; sid = 1; body = (Ver 1 1 4) }

abbrev pub attr_info : Message
attr_info = record { subtype = Info; sid = 1; body = (Attr (3 ∷ (replicate 5 0 ++ 2 ∷ (replicate 24 0 ++ 64 ∷ replicate 16 0)))) }

abbrev pub attr_ack : Message
attr_ack = record { subtype = Ack; sid = 1; body = (Attr (3 ∷ 2 ∷ 1 ∷ 0 ∷ 0 ∷ 0 ∷ 2 ∷ (replicate 8 0 ++ 14 ∷ (replicate 7 0 ++ 64 ∷ (replicate 7 0 ++ 64 ∷ replicate 16 0))))) }

abbrev pub reg_info : Message
reg_info = record { subtype = Info; sid = 1; body = (DringReg 0 8 128 1 1 (filled 14 (record { address = 0; size = 1024 } ∷ []))) }

abbrev pub reg_ack : Message
reg_ack = record { subtype = Ack; sid = 1; body = (DringReg 1 8 128 1 1 (filled 14 (record { address = 0; size = 1024 } ∷ []))) }

abbrev pub rdx_info : Message
rdx_info = record { subtype = Info; sid = 1; body = Rdx }

abbrev pub rdx_ack : Message
rdx_ack = record { subtype = Ack; sid = 1; body = Rdx }

abbrev pub data_info : Message
data_info = record { subtype = Info; sid = 1; body = (DringData 1 1 0 0 1) }

-- a packet that carries a whole message of so many bytes
abbrev pub carries : ℕ → ℕ → Message → Packet
carries seqid len message = record { subtype = Info; seqid = seqid; body = body.Part true true len (part_bytes (spelled message)) }

-- THE ROUNDS
abbrev pub round_1 : List DiskEvent
round_1 = OnWire (Joined A 0) ∷ OnWire (Joined B 0) ∷ []

abbrev pub round_2 : List DiskEvent
round_2 = OnWire (Sent A (canonical (control Info 0 (body.Vers 1 0))) false) ∷ OnWire (Took B (canonical (control Info 0 (body.Vers 1 0))) false) ∷ []

abbrev pub round_3 : List DiskEvent
round_3 = OnWire (Idle A) ∷ OnWire (Sent B (canonical (control Ack 0 (body.Vers 1 0))) false) ∷ []

abbrev pub round_4 : List DiskEvent
round_4 = OnWire (Took A (canonical (control Ack 0 (body.Vers 1 0))) false) ∷ OnWire (Idle B) ∷ []

abbrev pub round_5 : List DiskEvent
round_5 = OnWire (Sent A (canonical (control Info 0 (body.Rts 1))) false) ∷ OnWire (Took B (canonical (control Info 0 (body.Rts 1))) false) ∷ []

abbrev pub round_6 : List DiskEvent
round_6 = OnWire (Idle A) ∷ OnWire (Sent B (canonical (control Info 0 (body.Rtr 1))) false) ∷ []

abbrev pub round_7 : List DiskEvent
round_7 = OnWire (Took A (canonical (control Info 0 (body.Rtr 1))) false) ∷ OnWire (Idle B) ∷ []

abbrev pub round_8 : List DiskEvent
round_8 = OnWire (Sent A (canonical (control Info 1 body.Rdx)) false) ∷ OnWire (Took B (canonical (control Info 1 body.Rdx)) false) ∷ []

abbrev pub round_9 : List DiskEvent
round_9 = OnWire (Sent A (canonical (carries 2 56 ver_info)) false) ∷ OnWire (Took B (canonical (carries 2 56 ver_info)) false) ∷ []

abbrev pub round_10 : List DiskEvent
round_10 = OnWire (Idle A) ∷ OnWire (Sent B (canonical (carries 1 56 ver_ack)) false) ∷ []

abbrev pub round_11 : List DiskEvent
round_11 = OnWire (Took A (canonical (carries 1 56 ver_ack)) false) ∷ OnWire (Idle B) ∷ []

abbrev pub round_12 : List DiskEvent
round_12 = OnWire (Sent A (canonical (carries 3 56 attr_info)) false) ∷ OnWire (Took B (canonical (carries 3 56 attr_info)) false) ∷ []

abbrev pub round_13 : List DiskEvent
round_13 = OnWire (Idle A) ∷ OnWire (Sent B (canonical (carries 2 56 attr_ack)) false) ∷ []

abbrev pub round_14 : List DiskEvent
round_14 = OnWire (Took A (canonical (carries 2 56 attr_ack)) false) ∷ OnWire (Idle B) ∷ []

abbrev pub round_15 : List DiskEvent
round_15 = OnWire (Sent A (canonical (carries 4 48 reg_info)) false) ∷ OnWire (Took B (canonical (carries 4 48 reg_info)) false) ∷ []

abbrev pub round_16 : List DiskEvent
round_16 = OnWire (Idle A) ∷ OnWire (Sent B (canonical (carries 3 48 reg_ack)) false) ∷ []

abbrev pub round_17 : List DiskEvent
round_17 = OnWire (Took A (canonical (carries 3 48 reg_ack)) false) ∷ OnWire (Idle B) ∷ []

abbrev pub round_18 : List DiskEvent
round_18 = OnWire (Sent A (canonical (carries 5 56 rdx_info)) false) ∷ OnWire (Took B (canonical (carries 5 56 rdx_info)) false) ∷ []

abbrev pub round_19 : List DiskEvent
round_19 = OnWire (Idle A) ∷ OnWire (Sent B (canonical (carries 4 56 rdx_ack)) false) ∷ []

abbrev pub round_20 : List DiskEvent
round_20 = OnWire (Took A (canonical (carries 4 56 rdx_ack)) false) ∷ OnWire (Sent B (canonical (carries 5 56 rdx_info)) false) ∷ []

abbrev pub round_21 : List DiskEvent
round_21 = OnWire (Took A (canonical (carries 5 56 rdx_info)) false) ∷ OnWire (Idle B) ∷ []

abbrev pub round_22 : List DiskEvent
round_22 = OnWire (Sent A (canonical (carries 6 56 rdx_ack)) true) ∷ OnWire (Took B (canonical (carries 6 56 rdx_ack)) true) ∷ []

abbrev pub round_23 : List DiskEvent
round_23 = Works (Published 0) ∷ OnWire (Idle B) ∷ []

abbrev pub round_24 : List DiskEvent
round_24 = OnWire (Sent A (canonical (carries 7 56 data_info)) false) ∷ OnWire (Took B (canonical (carries 7 56 data_info)) false) ∷ []

abbrev pub first_rounds : List DiskEvent
first_rounds = round_1 ++ round_2 ++ round_3 ++ round_4 ++ round_5 ++ round_6 ++ round_7 ++ round_8 ++ round_9 ++ round_10 ++ round_11 ++ round_12 ++ round_13 ++ round_14 ++ round_15 ++ round_16 ++ round_17 ++ round_18 ++ round_19 ++ round_20 ++ round_21 ++ round_22 ++ round_23 ++ round_24

abbrev pub small_shape : Shape
small_shape = record { first = 0; blocks = 64; slots = 8; entries = 8 }

-- They are a run, over any memory and any table. After it both sessions are open; the client has cleared its ring, published the request
-- in slot 0 and announced it, and the server was asked for it.
pub record RunsFirstRounds (memory : List ℕ) (table : List (Option Entry)) (request : Request) : Type 0 where
  pub behind : LaneState
  pub run : Run LaneStep (fresh_over small_shape memory table) (Asks (Accepted 0 request) ∷ first_rounds) behind
  pub client_open : session_of behind.client.handshake ≢ None
  pub server_open : session_of behind.server.handshake ≢ None
  pub announced : behind.client.session ≡ Some (record (opened_session 0) { published = 1; announced = 1; infos = 1 })
  pub asked : behind.server.session ≡ Some (record { asked = 1; descs = 0; finished = 0; answered = 0; seq = 2; range = Some (record { seq = 1; start = 0; end = 0; state = 1 }) })
  pub published : behind.memory ≡ published_memory 8 0 0 request (put_at 0 (free_slots 128 8) memory)
