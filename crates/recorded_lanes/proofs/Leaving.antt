-- What a step leaves in the journal, by its answer: the entry of its event, or none in a settle where it rests.
use Rattle.std.proofs.Common.{◌≡◌, ℕ, Bool, true, false, ◌||◌, Some, List, [], ◌∷◌, refl, sym, ap, subst, ◌∙◌}
use Rattle.std.specs.Prelude.{◌&&◌}
use Rattle.world_parts.specs.lane_models.DiskEvent.{Asks, DiskEvent, Off, OnWire, Switches}
use Rattle.world_parts.specs.lane_models.WireEvent as wire
use Rattle.world_parts.specs.world_laws.DiskKind.{is_calm}
use Rattle.world_parts.specs.world_laws.Settle.{OfLane, SettleEntry, entry_of}
use Rattle.world_parts.specs.domain_laws.Lines.{Line}
use Rattle.ldom_entries.specs.JournalState.{JournalState, PutsEntry}
use Rattle.world_parts.specs.WorldEvents.{world_event}
use Rattle.ldom_entries.specs.declared.entry.Entry.{Entry}
use Rattle.recorded_lanes.specs.OneLane.{LeavesEntry, RecordedBut, Records}
use Rattle.recorded_lanes.specs.Resting.{client_blocked, client_rests, left_out, server_blocked, server_rests}
use Rattle.world_parts.specs.world_laws.Issued.{next_behind}
use Rattle.disk_lane.specs.vdisk_client.Calls.{client_event}
use Rattle.disk_lane.specs.vdisk_client.declared.answers.ClientOut.{ClientOut}
use Rattle.disk_lane.specs.vdisk_client.declared.answers.ClientOut.TheVariants as client_out
use Rattle.disk_lane.specs.Answering.{server_event}
use Rattle.disk_lane.specs.answers.ServerOut.{ServerOut}
use Rattle.disk_lane.specs.answers.ServerOut.TheVariants as server_out

-- AN ENTRY that was put, and tells the event in whatever line it is
pub recorded : (k : ℕ) (event : DiskEvent) (x : Entry) (s t : JournalState) → PutsEntry s x t
    → ((line : Line) → world_event line x ≡ Some (OfLane k event)) → Records k event s t
recorded k event x s t puts says = record { entry = x; puts = puts; says = says }

-- WHAT A SETTLE LEAVES OUT, and that it accepts nothing
abbrev pub left_of : Bool → ℕ → DiskEvent → List SettleEntry
left_of true k event = []
left_of false k event = OfLane k event ∷ []

pub entry_left : (k : ℕ) (event : DiskEvent) → entry_of k event ≡ left_of (left_out event) k event
entry_left k (OnWire (wire.Idle e)) = refl
entry_left k (Switches Off) = refl
entry_left k event = refl

pub none_accepted : (event : DiskEvent) (n : ℕ) → left_out event ≡ true → next_behind event n ≡ n
none_accepted (Asks admitted) n out = absurd (cc out)
none_accepted event n out = refl

-- THE ANSWERS of a client and of a server: which rest, and which are calm
pub client_left_out : (answer : ClientOut) (last : List ℕ)
    → left_out (client_event answer last) ≡ client_rests answer
client_left_out client_out.Idle last = refl
client_left_out answer last = refl

pub client_calm : (answer : ClientOut) (last : List ℕ)
    → is_calm (client_event answer last) ≡ (client_rests answer || client_blocked answer)
client_calm client_out.Idle last = refl
client_calm answer last = refl

pub server_left_out : (answer : ServerOut) → left_out (server_event answer) ≡ server_rests answer
server_left_out server_out.Idle = refl
server_left_out answer = refl

pub server_calm : (answer : ServerOut) → is_calm (server_event answer) ≡ (server_rests answer || server_blocked answer)
server_calm server_out.Idle = refl
server_calm answer = refl

-- BY AN ANSWER that rests in a settle, and by any other
second_of : (a b : Bool) → (a && b) ≡ true → b ≡ true
second_of true b both = both
second_of false b both = absurd (cc both)

module _ (in_settle : Bool) (k : ℕ) (event : DiskEvent) (s t : JournalState) (rests blocked : Bool)
    (out_is : left_out event ≡ rests) (calm_is : is_calm event ≡ (rests || blocked)) where
  pub leaves_none : (in_settle && rests) ≡ true → t ≡ s → LeavesEntry in_settle k event s true t
  leaves_none out same = record {
    calm_is = sym (calm_is ∙ ap (λ (b : Bool). b || blocked) (second_of in_settle rests out));
    recorded = subst (λ (b : Bool). RecordedBut b k event s t)
        (sym (ap (λ (b : Bool). in_settle && b) out_is ∙ out)) same;
  }

  pub leaves_entry : (calm : Bool) → (in_settle && rests) ≡ false → calm ≡ (rests || blocked) → Records k event s t
      → LeavesEntry in_settle k event s calm t
  leaves_entry calm told is entry_put = record {
    calm_is = is ∙ sym calm_is;
    recorded = subst (λ (b : Bool). RecordedBut b k event s t)
        (sym (ap (λ (b : Bool). in_settle && b) out_is ∙ told)) entry_put;
  }

module _ (in_settle : Bool) (k : ℕ) (answer : ClientOut) (last : List ℕ) (s t : JournalState) (rests : Bool)
    (is : rests ≡ client_rests answer) where
  client_is_calm : is_calm (client_event answer last) ≡ (rests || client_blocked answer)
  client_is_calm = client_calm answer last ∙ ap (λ (b : Bool). b || client_blocked answer) (sym is)

  pub client_leaves_none : (in_settle && rests) ≡ true → t ≡ s
      → LeavesEntry in_settle k (client_event answer last) s true t
  client_leaves_none out same =
      leaves_none in_settle k (client_event answer last) s t rests (client_blocked answer)
      (client_left_out answer last ∙ sym is) client_is_calm out same

  pub client_leaves_entry : (calm : Bool) → (in_settle && rests) ≡ false → calm ≡ (rests || client_blocked answer)
      → Records k (client_event answer last) s t → LeavesEntry in_settle k (client_event answer last) s calm t
  client_leaves_entry calm told calm_is put =
      leaves_entry in_settle k (client_event answer last) s t rests (client_blocked answer)
      (client_left_out answer last ∙ sym is) client_is_calm calm told calm_is put

module _ (in_settle : Bool) (k : ℕ) (answer : ServerOut) (s t : JournalState) (rests : Bool)
    (is : rests ≡ server_rests answer) where
  server_is_calm : is_calm (server_event answer) ≡ (rests || server_blocked answer)
  server_is_calm = server_calm answer ∙ ap (λ (b : Bool). b || server_blocked answer) (sym is)

  pub server_leaves_none : (in_settle && rests) ≡ true → t ≡ s → LeavesEntry in_settle k (server_event answer) s true t
  server_leaves_none out same =
      leaves_none in_settle k (server_event answer) s t rests (server_blocked answer)
      (server_left_out answer ∙ sym is) server_is_calm out same

  pub server_leaves_entry : (calm : Bool) → (in_settle && rests) ≡ false → calm ≡ (rests || server_blocked answer)
      → Records k (server_event answer) s t → LeavesEntry in_settle k (server_event answer) s calm t
  server_leaves_entry calm told calm_is put =
      leaves_entry in_settle k (server_event answer) s t rests (server_blocked answer)
      (server_left_out answer ∙ sym is) server_is_calm calm told calm_is put

-- BY A STOPPED SERVER, of which a settle leaves nothing
pub off_leaves_none : (in_settle : Bool) (k : ℕ) (s t : JournalState) → in_settle ≡ true → t ≡ s
    → LeavesEntry in_settle k (Switches Off) s true t
off_leaves_none true k s t is same = record { calm_is = refl; recorded = same }
off_leaves_none false k s t is same = absurd (cc is)

pub off_leaves_entry : (in_settle : Bool) (k : ℕ) (s t : JournalState) → in_settle ≡ false → Records k (Switches Off) s t
    → LeavesEntry in_settle k (Switches Off) s true t
off_leaves_entry true k s t is put = absurd (cc is)
off_leaves_entry false k s t is put = record { calm_is = refl; recorded = put }
