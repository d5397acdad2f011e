-- What an end that is up heard is a front of what the other end said, by the log of their lane: of a disk, and of a port.
use Rattle.std.proofs.Common.{◌≡◌, false, List, sym, subst, arith}
use Rattle.runs.specs.Lawful.{log_of}
use Rattle.runs.specs.Run.{Run}
use Rattle.world_parts.specs.lane_laws.DiskLog.{after, nothing_yet}
use Rattle.world_parts.specs.lane_models.DiskEvent.{DiskEvent}
use Rattle.world_parts.specs.lane_models.LaneState.{IsShape, LaneState, Shape, fresh}
use Rattle.world_parts.specs.lane_models.LaneStep.{LaneStep}
use Rattle.world_parts.proofs.lane_laws.LaneCores.{transcript_is}
use Rattle.world_parts.proofs.lane_laws.HeardFront.{heard_messages, heard_packets}
use Rattle.world_parts.specs.lane_models.TranscriptLog.{TranscriptLog, transcript_of}
use Rattle.world_parts.specs.lane_models.WireAt.{IsUp}
use Rattle.world_parts.specs.lane_models.WireLog.{WireLog}
use Rattle.lane_models.proofs.ConversingRuns as core
use Rattle.world_parts.proofs.port_laws.CoreLaws.{port_front, sizes_fit}
use Rattle.world_parts.proofs.port_laws.PortRuns.{fresh_port_core, spoken_behind}
use Rattle.world_parts.specs.port_laws.PortCore.{port_core, port_events}
use Rattle.world_parts.specs.lane_models.NetLaneState.{IsNetShape, NetShape, role_at}
use Rattle.world_parts.specs.lane_models.Offers.{port_offer}
use Rattle.world_parts.specs.lane_models.PortLog.{PortLog, after as port_after, no_events}
use Rattle.world_parts.specs.lane_models.PortState.{PortEvent, PortState, PortStep, fresh_port}
use Rattle.ldc_queue.specs.declared.end.End.{End}
use Rattle.ldc_queue.specs.declared.end.End.TheVariants.{A, B}
use Rattle.ldc_queue.specs.OneStream.{IsFront}
use Rattle.ldc_queue.specs.Transcript.{numbered_heard, numbered_said}
use Rattle.ldc_queue.specs.Wire.{peer_of}
use Rattle.script_laws.proofs.PortLogs.{same_wire}
use Rattle.script_laws.specs.Lanes.{HearsAFront}

pub hears_a_front : (shape : Shape) (events : List DiskEvent) (s : LaneState) (e : End) → IsShape shape
    → Run LaneStep (fresh shape) events s → s.wire.forged ≡ false → IsUp e s.wire.wire
    → HearsAFront e (log_of after (nothing_yet shape) events).transcript
hears_a_front shape events s e sound run clean up = grind (arith, transcript_is, heard_packets, heard_messages)

-- OF A PORT, where its log says that the end is up
module _ (shape : NetShape) (sound : IsNetShape shape) (events : List PortEvent) (s : PortState)
    (run : Run PortStep (fresh_port shape) events s) where
  abbrev log : PortLog
  log = log_of port_after (no_events shape) events

  port_packets : (e : End) → s.lane.wire.forged ≡ false → IsUp e s.lane.wire.wire
      → IsFront (numbered_heard (transcript_of e log.transcript)) (numbered_said (transcript_of (peer_of e) log.transcript))
  port_packets e clean up =
      subst (λ (t : TranscriptLog). IsFront (numbered_heard (transcript_of e t)) (numbered_said (transcript_of (peer_of e) t)))
      (spoken_behind shape events)
      (core.heard_packets shape.entries (port_offer (role_at A) shape.address shape.slots)
      (port_offer (role_at B) shape.address shape.slots) (port_events events) (port_core s) e (sizes_fit shape sound)
      (fresh_port_core shape events s run) clean up)

  pub port_hears : (e : End) → s.lane.wire.forged ≡ false → IsUp e log.wire.wire → HearsAFront e log.transcript
  port_hears e clean up =
      let there : IsUp e s.lane.wire.wire =
      subst (λ (w : WireLog). IsUp e w.wire) (sym (same_wire shape sound events s run)) up in
      record { packets = port_packets e clean there; messages = port_front shape events s e sound run clean there }
