-- Two lanes that are the same by their log: all but their memories, the bytes of a unit and of the last completion, and where somebody forged
-- how near their images are and how many requests were ever published.
use Rattle.std.specs.Prelude.{◌≡◌, false, length, Option, Some, None, ⊤}
use Rattle.lane_models.specs.ClientState.{ClientState, ever_published_count}
use Rattle.lane_models.specs.LaneState.{LaneState}
use Rattle.lane_models.specs.ServerState.{ServerState, Work}
use Rattle.lane_laws.specs.WorkNext.{bytes_held, without_bytes}

pub record SameClient (c d : ClientState) : Type 0 where
  pub link : c.link ≡ d.link
  pub handshake : c.handshake ≡ d.handshake
  pub blocks : c.blocks ≡ d.blocks
  pub slots : c.slots ≡ d.slots
  pub pending : c.pending ≡ d.pending
  pub next_id : c.next_id ≡ d.next_id
  pub session : c.session ≡ d.session

-- the descriptor in work, with its next piece and how many bytes are held for it
pub record SameDescriptor (v w : Work) : Type 0 where
  pub bytes : v.bytes ≡ w.bytes
  pub next : without_bytes v.progress ≡ without_bytes w.progress
  pub held : length (bytes_held v.progress) ≡ length (bytes_held w.progress)

abbrev pub SameWork : Option Work → Option Work → Type 0
SameWork None None = ⊤
SameWork (Some v) (Some w) = SameDescriptor v w
SameWork None (Some w) = ⊥
SameWork (Some v) None = ⊥

pub record SameServer (v w : ServerState) : Type 0 where
  pub link : v.link ≡ w.link
  pub handshake : v.handshake ≡ w.handshake
  pub first : v.first ≡ w.first
  pub blocks : v.blocks ≡ w.blocks
  pub slots : v.slots ≡ w.slots
  pub session : v.session ≡ w.session
  pub work : SameWork v.work w.work

pub record SameLane (s t : LaneState) : Type 0 where
  pub shape : s.shape ≡ t.shape
  pub wire : s.wire ≡ t.wire
  pub client : SameClient s.client t.client
  pub server : SameServer s.server t.server
  pub table : s.table ≡ t.table
  pub stopped : s.stopped ≡ t.stopped
  pub failed : s.failed ≡ t.failed
  pub near : s.wire.forged ≡ false → s.near ≡ t.near
  pub published : s.wire.forged ≡ false → ever_published_count s.client ≡ ever_published_count t.client
