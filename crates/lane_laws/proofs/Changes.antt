-- How a lane's view changes at an event, kind by kind, with what is known there.
use Rattle.std.specs.Prelude.{◌≡◌, ℕ, ◌+◌, ◌-◌, ◌*◌, ◌/◌, ◌%◌, ◌<◌, ◌≤◌, ◌⊎◌, List, [], ◌∷◌, ◌++◌, length, Option, Some, None, slice_get}
use Rattle.vdisk_msg.specs.declared.request.Fill.{Fill}
use Rattle.vdisk_msg.specs.declared.request.Request.{Request}
use Rattle.vdisk_msg.specs.declared.request.Request.TheVariants.{Flush, Read, Write}
use Rattle.vdisk_msg.specs.Requests.{AreSound, written}
use Rattle.vio_bytes.specs.Place.{put_at}
use Rattle.vio_bytes.specs.Range.{range_at}
use Rattle.lane_models.specs.ClientState.{ClientSession}
use Rattle.lane_models.specs.ServerState.{Ends, Flushes, Gathers, Gives, Progress, Reads, Work, Writes}
use Rattle.lane_models.specs.ServerWork.{gathers_next, reads_next, unit_length}
use Rattle.lane_laws.specs.ImageStep.{front_done}
use Rattle.lane_laws.specs.LaneView.{View, place_of}

-- how many are published and finished, and that all have their slots
pub record Placed (blocks : ℕ) (v : View) : Type 0 where
  pub sound : AreSound blocks v.pending
  pub some : 1 ≤ v.slots
  pub few : length v.pending ≤ v.slots
  pub room : 32768 * v.slots ≤ length v.buffers
  pub finished : v.k ≤ length v.pending
  pub serves : (work : Work) → v.work ≡ Some work → v.k < length v.pending
  pub published : (session : ClientSession) → v.session ≡ Some session → session.completed + v.k ≤ session.published
  pub most : (session : ClientSession) → v.session ≡ Some session → session.published ≤ session.completed + length v.pending
  pub served : (session : ClientSession) → v.session ≡ Some session → (work : Work) → v.work ≡ Some work → session.completed + v.k < session.published

-- the session's places stay
pub record KeptFrom (before : Option ClientSession) (session : ClientSession) : Type 0 where
  pub was : ClientSession
  pub there : before ≡ Some was
  pub completed : session.completed ≡ was.completed
  pub published : session.published ≡ was.published

abbrev pub Keeps : Option ClientSession → Option ClientSession → Type 0
Keeps before now = (session : ClientSession) → now ≡ Some session → KeptFrom before session

-- nothing but the session changes, and not its places
pub record Unchanged (v w : View) : Type 0 where
  pub keeps : Keeps v.session w.session
  pub is : w ≡ record v { session = w.session }

-- a session opens: nothing is published in it and nothing in work
pub record Opens (v w : View) : Type 0 where
  pub nothing : (session : ClientSession) → w.session ≡ Some session → session.published ≡ 0
  pub unfinished : v.k ≡ 0
  pub idle : v.work ≡ None
  pub is : w ≡ record v { session = w.session }

-- an end is reset or stopped, where p of the pending requests were ever published
pub record Disturbs (p : ℕ) (v w : View) : Type 0 where
  pub keeps : Keeps v.session w.session
  pub finished : v.k ≤ p
  pub before : v.m ≤ p
  pub working : (v.u ≡ 0) ⊎ (v.k < p)
  pub is : w ≡ record v { session = w.session; work = None; k = 0; m = p; u = 0 }

pub record Accepts (request : Request) (v w : View) : Type 0 where
  pub is : w ≡ record v { pending = v.pending ++ request ∷ [] }

-- a write's bytes into a buffer
abbrev pub filled : Request → ℕ → List ℕ → List ℕ
filled (Read block count) place buffers = buffers
filled (Write block count fill) place buffers = put_at place (written fill count) buffers
filled Flush place buffers = buffers

pub record Publishes (v w : View) : Type 0 where
  pub session : ClientSession
  pub request : Request
  pub there : v.session ≡ Some session
  pub next : slice_get v.pending (session.published - session.completed) ≡ Some request
  pub is : w ≡ record v {
    session = Some (record session { published = session.published + 1 });
    buffers = filled request (32768 * (session.published % v.slots)) v.buffers;
  }

pub record Completes (v w : View) : Type 0 where
  pub session : ClientSession
  pub request : Request
  pub behind : List Request
  pub there : v.session ≡ Some session
  pub front : v.pending ≡ request ∷ behind
  pub finished : 1 ≤ v.k
  pub is : w ≡ record v { pending = behind; session = Some (record session { completed = session.completed + 1 }); k = v.k - 1; m = v.m - 1 }

-- a descriptor is fetched, that of the request after those that are finished
abbrev pub first_of : Request → Progress
first_of (Read block count) = Reads 0
first_of (Write block count fill) = Gathers 0
first_of Flush = Flushes

pub record Fetches (v w : View) : Type 0 where
  pub request : Request
  pub work : Work
  pub idle : v.work ≡ None
  pub next : slice_get v.pending v.k ≡ Some request
  pub first : work.progress ≡ first_of request
  pub is : w ≡ record v { work = Some work }

-- and goes on, from one progress to the next, over the buffers after it and the blocks of a write that are stored
pub record Serves (session : ClientSession) (from to : Progress) (request : Request) (u : ℕ) (buffers : List ℕ) (v w : View) : Type 0 where
  pub work : Work
  pub there : v.session ≡ Some session
  pub now : v.work ≡ Some work
  pub progress : work.progress ≡ from
  pub next : slice_get v.pending v.k ≡ Some request
  pub is : w ≡ record v { work = Some (record work { progress = to }); u = u; buffers = buffers }

-- a write's unit is copied in
pub record Gathering (v w : View) : Type 0 where
  pub session : ClientSession
  pub unit : ℕ
  pub bytes : List ℕ
  pub block : ℕ
  pub count : ℕ
  pub fill : Fill
  pub serves : Serves session (Gathers unit) (Writes unit bytes) (Write block count fill) v.u v.buffers v w
  pub bytes_are : bytes ≡ range_at (place_of v.slots session v.k + 8192 * unit) (unit_length (512 * count) unit) v.buffers

-- a read's unit is copied out
pub record Giving (v w : View) : Type 0 where
  pub session : ClientSession
  pub unit : ℕ
  pub bytes : List ℕ
  pub block : ℕ
  pub count : ℕ
  pub serves : Serves session (Gives unit bytes) (reads_next (512 * count) unit) (Read block count) v.u (put_at (place_of v.slots session v.k + 8192 * unit) bytes v.buffers) v w

-- a unit is read of the image, one is stored in it, and it is flushed
pub record Reading (v w : View) : Type 0 where
  pub session : ClientSession
  pub unit : ℕ
  pub gave : List ℕ
  pub block : ℕ
  pub count : ℕ
  pub serves : Serves session (Reads unit) (Gives unit gave) (Read block count) v.u v.buffers v w
  pub long : length gave ≡ unit_length (512 * count) unit

pub record Storing (v w : View) : Type 0 where
  pub session : ClientSession
  pub unit : ℕ
  pub bytes : List ℕ
  pub block : ℕ
  pub count : ℕ
  pub fill : Fill
  pub serves : Serves session (Writes unit bytes) (gathers_next (512 * count) unit) (Write block count fill) (v.u + length bytes / 512) v.buffers v w

pub record Flushing (v w : View) : Type 0 where
  pub session : ClientSession
  pub serves : Serves session Flushes (Ends 0) Flush v.u v.buffers v w

pub record Finishes (v w : View) : Type 0 where
  pub session : ClientSession
  pub work : Work
  pub status : ℕ
  pub request : Request
  pub there : v.session ≡ Some session
  pub now : v.work ≡ Some work
  pub ends : work.progress ≡ Ends status
  pub next : slice_get v.pending v.k ≡ Some request
  pub is : w ≡ record v { work = None; k = v.k + 1; u = 0 }

-- THE KINDS of change, and what each does to the image and to the content of the requests that are done
pub data Kind : Type 0 where
  Rested : Kind
  Opened : Kind
  Disturbed : (p : ℕ) → Kind
  Asked : Request → Kind
  Published : Kind
  Completed : Kind
  Fetched : Kind
  Gathered : Kind
  Given : Kind
  Looked : Kind
  Stored : Kind
  Flushed : Kind
  Ended : Kind

abbrev pub IsChange : Kind → View → View → Type 0
IsChange Rested v w = Unchanged v w
IsChange Opened v w = Opens v w
IsChange (Disturbed p) v w = Disturbs p v w
IsChange (Asked request) v w = Accepts request v w
IsChange Published v w = Publishes v w
IsChange Completed v w = Completes v w
IsChange Fetched v w = Fetches v w
IsChange Gathered v w = Gathering v w
IsChange Given v w = Giving v w
IsChange Looked v w = Reading v w
IsChange Stored v w = Storing v w
IsChange Flushed v w = Flushing v w
IsChange Ended v w = Finishes v w

abbrev pub ImageChange : (kind : Kind) (v w : View) → IsChange kind v w → List ℕ → List ℕ → Type 0
ImageChange Looked v w change image next = (change.gave ≡ range_at (512 * (change.block + 16 * change.unit)) (length change.gave) image) × (next ≡ image)
ImageChange Stored v w change image next = next ≡ put_at (512 * (change.block + 16 * change.unit)) change.bytes image
ImageChange _ v w change image next = next ≡ image

abbrev pub content_behind : Kind → List ℕ → List Request → List ℕ
content_behind Completed content pending = front_done content pending
content_behind _ content pending = content
