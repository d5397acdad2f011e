-- What holds of the lane of each disk along a script's lines, and at their end.
use Rattle.std.specs.Prelude.{◌≡◌, ◌↔◌, ℕ, true, false, List, ◌++◌, Some, is_some}
use Rattle.runs.specs.Run.{Run}
use Rattle.world_parts.specs.lane_laws.Agreement.{AgreesWithLog}
use Rattle.world_parts.specs.lane_laws.DiskLog.{DiskLog}
use Rattle.world_parts.specs.lane_models.LaneState.{LaneState, Shape, fresh}
use Rattle.world_parts.specs.lane_models.LaneStep.{LaneStep}
use Rattle.world_parts.specs.lane_laws.May.{IsLawful}
use Rattle.world_parts.specs.lane_laws.NearLaws.{NearInOrder}
use Rattle.world_parts.specs.lane_models.Sayings.{heard, said}
use Rattle.world_parts.specs.lane_models.TranscriptLog.{TranscriptLog, transcript_of}
use Rattle.world_parts.specs.lane_models.WireAt.{IsUp}
use Rattle.world_parts.specs.lane_laws.WorkLog.{ClientCounts, ServerCounts}
use Rattle.world_parts.specs.lane_laws.CountsOrdered.{CountsOrdered}
use Rattle.world_parts.specs.lane_laws.OneSession.{AreOneSession}
use Rattle.world_parts.specs.lane_laws.SlotsInOrder.{RingInOrder}
use Rattle.world_parts.specs.world_laws.Along.{happened}
use Rattle.world_parts.specs.world_laws.Forged.{NobodyForges}
use Rattle.world_parts.specs.world_laws.Settle.{SettleEntry}
use Rattle.ldc_queue.specs.OneStream.{IsFront}
use Rattle.ldc_queue.specs.Transcript.{numbered_heard, numbered_said}
use Rattle.ldc_queue.specs.Wire.{peer_of}
use Rattle.ldc_queue.specs.declared.end.End.{End}
use Rattle.ldc_queue.specs.declared.end.End.TheVariants.{A, B}
use Rattle.script_laws.specs.Told.{log_at}

-- both ends are up, and their sessions are one
pub record IsOneSession (s : LaneState) : Type 0 where
  pub client_up : IsUp A s.wire.wire
  pub server_up : IsUp B s.wire.wire
  pub one : AreOneSession s.client.handshake s.server.handshake

-- WHAT AN END HEARD since it last joined is a front of what the other end said since its own: packet by packet of those
-- with numbers, and message by message.
pub record HearsAFront (e : End) (transcript : TranscriptLog) : Type 0 where
  pub packets : IsFront (numbered_heard (transcript_of e transcript)) (numbered_said (transcript_of (peer_of e) transcript))
  pub messages : IsFront (heard (transcript_of e transcript)) (said (transcript_of (peer_of e) transcript))

-- WHERE NOBODY FORGED the lane until then: an end that is up heard in order what the other said. Where both sessions are
-- open they are one, and their counts stand in their order. The slots of the ring do where the client's is open, and where
-- its end is up what is on the way agrees with them. The counts of what is finished do always.
pub record StandsUnforged (s : LaneState) (l : DiskLog) : Type 0 where
  pub hears : (e : End) → IsUp e s.wire.wire → HearsAFront e l.transcript
  pub sessions : is_some s.client.session ≡ true → is_some s.server.session ≡ true → IsOneSession s
  pub counts : (k : ClientCounts) (d : ServerCounts) → l.work.client ≡ Some k → l.work.server ≡ Some d → CountsOrdered k d
  pub slots : (k : ClientCounts) → l.work.client ≡ Some k → RingInOrder s l k
  pub near : NearInOrder l

-- A LANE AT ONE MOMENT: it stands as its log says, forged or not; and where nobody forged it until then, in order.
pub record StandsAt (s : LaneState) (l : DiskLog) : Type 0 where
  pub agrees : AgreesWithLog s l
  pub unforged : l.wire.forged ≡ false → StandsUnforged s l

-- BEHIND A FRONT of the entries a lane came to a state, from which what is left of them led to the last one
pub record LaneMoment (shape : Shape) (x : ℕ) (before behind : List SettleEntry) (last : LaneState) : Type 0 where
  pub state : LaneState
  pub reached : Run LaneStep (fresh shape) (happened x before) state
  pub leads : Run LaneStep state (happened x behind) last
  pub stands : StandsAt state (log_at shape x before)

-- A LANE ALONG THE ENTRIES, also where somebody forged it: each thing that happened to it may happen after those before
-- it, by the laws of the wire, of requests, of work and of quiet steps; and so it stands at the end, and behind each front
-- of the entries. Its state says whether the entries forge it.
pub record LaneStands (shape : Shape) (x : ℕ) (entries : List SettleEntry) (s : LaneState) : Type 0 where
  pub lawful : IsLawful shape (happened x entries)
  pub now : StandsAt s (log_at shape x entries)
  pub always : (before behind : List SettleEntry) → entries ≡ before ++ behind → LaneMoment shape x before behind s
  pub forged : (s.wire.forged ≡ false) ↔ NobodyForges (happened x entries)
