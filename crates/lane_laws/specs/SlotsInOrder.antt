-- THE SLOTS IN ORDER, around the ring from the first request that isn't done: those that the server finished are DONE; at most one is ACCEPTED;
-- the announced ones that it hasn't fetched are READY; so are the published ones that aren't announced; all others are FREE. What is
-- acknowledged is finished, and what is fetched or asked for was announced.
use Rattle.std.specs.Prelude.{◌≡◌, ℕ, ◌+◌, ◌%◌, ◌<◌, ◌≤◌, List, Option, Some, None, slice_get, slice_index, ⊤}
use Rattle.dring.specs.Slots.{accepted_state, done_state, free_state, ready_state, slot_bytes}
use Rattle.ldc_queue.specs.declared.end.ChannelState.TheVariants.{Up}
use Rattle.ldc_queue.specs.Wire.{Wire}
use Rattle.lane_laws.specs.DiskLog.{DiskLog}
use Rattle.lane_laws.specs.RingLog.{Accepted, Done, Free, Ready, SlotLog}
use Rattle.lane_laws.specs.WorkLaws.{IfServer}
use Rattle.lane_laws.specs.WorkLog.{ClientCounts, ServerCounts, WorkLog}
use Rattle.lane_models.specs.LaneState.{LaneState}
use Rattle.lane_laws.specs.OnTheWay.{OnTheWay}
use Rattle.lane_laws.specs.RingAgreed.{ring_in}
use Rattle.lane_laws.specs.RingSlots.{HoldsIssued, RingOf}

-- IN THE LOG: the slot of the number j of a session
pub record SlotOf (base announced published finished descs j : ℕ) (is : SlotLog) : Type 0 where
  pub done : j < finished → (status : ℕ) × (is ≡ Done (base + j) status)
  pub accepted : finished ≤ j → j < descs → is ≡ Accepted (base + j)
  pub announced_ready : descs ≤ j → j < announced → is ≡ Ready (base + j)
  pub published_ready : announced ≤ j → j < published → is ≡ Ready (base + j)
  pub free : published ≤ j → is ≡ Free

-- those of one lap from the first request that isn't done
pub record SlotsOf (slots done base announced published finished descs : ℕ) (ring : List SlotLog) : Type 0 where
  pub done_first : done ≤ base + finished
  pub finished_first : finished ≤ descs
  pub one : descs ≤ finished + 1
  pub descs_first : descs ≤ announced
  pub announced_first : announced ≤ published
  pub each : (j : ℕ) (is : SlotLog) → done ≤ base + j → base + j < done + slots → slice_get ring (j % slots) ≡ Some is
      → SlotOf base announced published finished descs j is

-- The counts are those of the server's open session. Where the client's end is up and the server has none, it has done nothing yet of the
-- client's.
pub record ServerAt (w : Wire) (server : Option ServerCounts) (finished descs : ℕ) : Type 0 where
  pub works : w.end_b ≡ Up → IfServer server (λ d. (finished ≡ d.finished) × (descs ≡ d.descs))
  pub rests : w.end_a ≡ Up → (w.end_b ≡ Up → server ≡ None) → (finished ≡ 0) × (descs ≡ 0)

abbrev pub SlotsIn : ℕ → WorkLog → Wire → List SlotLog → Option ClientCounts → Type 0
SlotsIn slots w wire ring None = ⊤
SlotsIn slots w wire ring (Some k) =
    (finished : ℕ) × (descs : ℕ) × SlotsOf slots w.done k.base k.announced k.published finished descs ring × ServerAt wire w.server finished descs
    × (k.acked ≤ finished)

abbrev pub SlotsInOrder : DiskLog → Type 0
SlotsInOrder l = SlotsIn l.shape.slots l.work l.wire.wire l.ring l.work.client

-- IN THE MEMORY: the bytes of the slot of the number j, by its state: DONE with its status, ACCEPTED, READY, or FREE
pub record BytesOf (r : RingOf) (base announced published finished descs j slot : ℕ) (bytes : List ℕ) : Type 0 where
  pub done : j < finished → (status : ℕ) × HoldsIssued r slot (base + j) done_state status bytes
  pub accepted : finished ≤ j → j < descs → HoldsIssued r slot (base + j) accepted_state 0 bytes
  pub announced_ready : descs ≤ j → j < announced → HoldsIssued r slot (base + j) ready_state 0 bytes
  pub published_ready : announced ≤ j → j < published → HoldsIssued r slot (base + j) ready_state 0 bytes
  pub free : published ≤ j → slice_index bytes 0 ≡ free_state

pub record RingInOrder (s : LaneState) (l : DiskLog) (k : ClientCounts) : Type 0 where
  pub finished : ℕ
  pub descs : ℕ
  pub done_first : l.work.done ≤ k.base + finished
  pub finished_first : finished ≤ descs
  pub one : descs ≤ finished + 1
  pub descs_first : descs ≤ k.announced
  pub announced_first : k.announced ≤ k.published
  pub acked_first : k.acked ≤ finished
  pub asked_announced : l.wire.wire.end_b ≡ Up → IfServer l.work.server (λ d. d.asked ≤ k.announced)
  pub server : ServerAt l.wire.wire l.work.server finished descs
  pub each : (j : ℕ) → l.work.done ≤ k.base + j → k.base + j < l.work.done + l.shape.slots
      → BytesOf (ring_in l) k.base k.announced k.published finished descs j (j % l.shape.slots) (slot_bytes 128 (j % l.shape.slots) s.memory)
  -- where the client's end is up, what is on the way agrees with the server's place
  pub way : l.wire.wire.end_a ≡ Up → OnTheWay s l k
