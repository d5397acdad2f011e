-- What the lanes of one kind made in a world, which may have more beside them: a step of an end, a tick, and a part of
-- its journal.
use Rattle.std.specs.Prelude.{◌≡◌, ℕ, Bool, true, false, if◌then◌else◌, List, [], ◌∷◌, take, Some, slice_get}
use Rattle.runs.specs.Run.{Run}
use Rattle.lane_kinds.specs.Lanes.{Entries, EntryOf, LaneKind, gets_tick}
use Rattle.lane_kinds.specs.LanesMade.{names}

-- A KIND IN A WORLD: what its lanes are, their entries, which lanes of it a state of the world has, and what is beside
-- them
pub record InWorld (D Side E : Type 0) : Type 1 where
  pub Lane : Type 0
  pub Event : Type 0
  pub Beside : Type 0
  pub kind : LaneKind Lane Event
  pub entries : Entries Event E
  pub lanes : D → List Lane
  pub beside : D → Beside
  -- what an entry does in the world
  pub Step : D → E → D → Type 0
  -- a step of this end
  pub IsStep : Side → Event → Type 0

-- A STEP of this end of this lane, which was calm or not. One that a settle leaves no entry of is one all the same.
pub record LaneMade {D Side E : Type 0} (K : InWorld D Side E) (side : Side) (k : ℕ) (w : D) (entries : List E) (calm : Bool) (v : D) : Type 0 where
  pub event : K.Event
  pub of_end : K.IsStep side event
  pub moves : K.Step w (K.entries.of_lane k event) v
  pub leaves : entries ≡ (if K.kind.is_silent event then [] else K.entries.of_lane k event ∷ [])
  pub rests : calm ≡ K.kind.is_calm event

-- THIS LANE got a tick, which is this entry, or it gets none
abbrev pub TickedWhere : {D Side E : Type 0} → InWorld D Side E → Bool → E → D → List E → D → Type 0
TickedWhere K true tick w entries v = K.Step w tick v × (entries ≡ tick ∷ [])
TickedWhere K false tick w entries v = (v ≡ w) × (entries ≡ [])

pub record LaneTicked {D Side E : Type 0} (K : InWorld D Side E) (k : ℕ) (had get : Bool) (w : D) (entries : List E) (v : D) : Type 0 where
  pub lane : K.Lane
  pub there : slice_get (K.lanes w) k ≡ Some lane
  pub gets : get ≡ gets_tick K.kind lane had
  pub ticked : TickedWhere K get (K.entries.of_lane k (K.kind.tick lane)) w entries v

-- A PART of the journal was made so over the lanes, and runs the world
pub record PartMade {D W E : Type 0} (lanes : D → W) (Step : D → E → D → Type 0) (Made : W → List E → W → Type 0) (w : D) (part : List E) (v : D) : Type 0 where
  pub part_of : Made (lanes w) part (lanes v)
  pub run : Run Step w part v

-- and what is beside them stays
pub record KindMade {D Side E : Type 0} (K : InWorld D Side E) (Made : List K.Lane → List E → List K.Lane → Type 0) (w : D) (part : List E) (v : D) : Type 0 where
  pub part_of : Made (K.lanes w) part (K.lanes v)
  pub stays : K.beside v ≡ K.beside w
  pub run : Run K.Step w part v

-- THE NAMES of the first lanes, so many
pub record NamesUpTo {D Side E : Type 0} (K : InWorld D Side E) (k : ℕ) (w : D) (quiet : List Bool) (entries : List E) : Type 0 where
  pub are : entries ≡ names K.kind K.entries 0 (take k quiet) (take k (K.lanes w))

-- WHAT AN ENTRY of the kind does in the world: to its lanes what the kind says, and to what is beside them nothing
pub record KindRuns {D Side E : Type 0} (K : InWorld D Side E) : Type 0 where
  pub entry : (w : D) (k : ℕ) (event : K.Event) (v : D) → K.Step w (K.entries.of_lane k event) v → EntryOf K.kind k (K.lanes w) event (K.lanes v)
  pub stays : (w : D) (k : ℕ) (event : K.Event) (v : D) → K.Step w (K.entries.of_lane k event) v → K.beside v ≡ K.beside w
  pub silent : (w : D) (k : ℕ) (event : K.Event) (v : D) → K.kind.is_silent event ≡ true → K.Step w (K.entries.of_lane k event) v → w ≡ v
  pub tick_gives : (k : ℕ) (s : K.Lane) → K.kind.gets k (K.kind.tick s) ≡ []
  pub left : (k : ℕ) (w : D) → K.Step w (K.entries.left_over k) w
