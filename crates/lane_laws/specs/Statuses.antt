-- The statuses that a server gave in its sessions, on a lane that nobody forged: a slot that is DONE has the status of its number in the last
-- session of the client's sid.
use Rattle.std.specs.Prelude.{◌≡◌, ℕ, ◌-◌, List, [], ◌∷◌, length, Option, Some, slice_get}
use Rattle.ldc_queue.specs.declared.end.ChannelState.TheVariants.{Up}
use Rattle.lane_models.specs.Sayings.{said}
use Rattle.lane_laws.specs.DiskLog.{DiskLog}
use Rattle.lane_models.specs.Messages.{sid_of}
use Rattle.lane_laws.specs.RingLog.{Done, SlotLog}
use Rattle.lane_laws.specs.WorkLaws.{IfClient, IfServer, last_of}
use Rattle.lane_laws.specs.WorkLog.{ClientCounts, Opened, ServerCounts}

abbrev pub KeepsStatus : List SlotLog → List Opened → ClientCounts → Type 0
KeepsStatus ring opened k = (slot id status : ℕ) → slice_get ring slot ≡ Some (Done id status) → slice_get (last_of k.sid opened) (id - k.base) ≡ Some status

-- the session that was opened last is the client's, with a status for each descriptor that is finished
abbrev pub IsLastSession : ℕ → ℕ → List Opened → Type 0
IsLastSession sid finished [] = ⊥
IsLastSession sid finished (session ∷ before) = (session.sid ≡ sid) × (length session.statuses ≡ finished)

abbrev pub LastIn : Option ServerCounts → Option ClientCounts → List Opened → Type 0
LastIn server client opened = IfServer server (λ (d : ServerCounts). IfClient client (λ (k : ClientCounts). IsLastSession k.sid d.finished opened))

-- the sid is that of the fifth message, which opens the client's session
pub record IsSidNamed (sid : ℕ) (messages : List (List ℕ)) : Type 0 where
  pub message : List ℕ
  pub fifth : slice_get messages 4 ≡ Some message
  pub sid_is : sid ≡ sid_of message

pub record StatusesStand (l : DiskLog) : Type 0 where
  pub done : IfClient l.work.client (KeepsStatus l.ring l.work.opened)
  pub last : l.wire.wire.end_b ≡ Up → LastIn l.work.server l.work.client l.work.opened
  pub named : IfClient l.work.client (λ (k : ClientCounts). IsSidNamed k.sid (said l.transcript.a))
