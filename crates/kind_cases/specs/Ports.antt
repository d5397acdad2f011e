-- Ports of a switch, made up and small: what an end of a guest and one of the switch do with frames, by counts alone.
-- A frame that one port switches stands in the out queues of all others then.
use Rattle.std.specs.Prelude.{◌≡◌, ℕ, zero, suc, ◌+◌, ◌*◌, ◌<◌, ◌≤◌, ◌||◌, Bool, true, false, if◌then◌else◌, List, [], ◌∷◌, ⊤}
use Rattle.lane_kinds.specs.Lanes.{LaneKind}

pub record Port : Type 0 where
  -- the guest's end has joined; a frame was lost since; somebody meddled with it
  pub up : Bool
  pub lossy : Bool
  pub forged : Bool
  -- frames on the way to the switch, in the out queue and on the way to the guest, where so many have room
  pub to_switch : ℕ
  pub out : ℕ
  pub to_guest : ℕ
  pub room : ℕ

pub data PortEvent : Type 0 where
  Joined : PortEvent
  Taken : PortEvent
  GuestIdle : PortEvent
  Switched : PortEvent
  Published : PortEvent
  Blocked : PortEvent
  SwitchIdle : PortEvent
  -- another port's frame
  Given : PortEvent
  Tick : PortEvent
  -- a frame on the way to the guest is lost, and frames are forged there
  Lost : PortEvent
  Forged : PortEvent

abbrev pub PortStep : Port → PortEvent → Port → Type 0
PortStep s Joined t = (s.up ≡ false) × (t ≡ record s { up = true })
PortStep s Taken t = (s.up ≡ true) × (s.to_guest ≡ t.to_guest + 1) × (t ≡ record s { to_guest = t.to_guest })
PortStep s GuestIdle t = (s.up ≡ true) × (s.to_guest ≡ 0) × (t ≡ s)
PortStep s Switched t = (s.to_switch ≡ t.to_switch + 1) × (t ≡ record s { to_switch = t.to_switch })
PortStep s Published t = (s.to_switch ≡ 0) × (s.out ≡ t.out + 1) × (s.to_guest < s.room) × (t ≡ record s { out = t.out; to_guest = s.to_guest + 1 })
PortStep s Blocked t = (s.to_switch ≡ 0) × (0 < s.out) × (s.room ≤ s.to_guest) × (t ≡ s)
PortStep s SwitchIdle t = (s.to_switch ≡ 0) × (s.out ≡ 0) × (t ≡ s)
PortStep s Given t = t ≡ record s { out = s.out + 1 }
PortStep s Tick t = t ≡ record s { up = false; lossy = false }
PortStep s Lost t = (s.to_guest ≡ t.to_guest + 1) × (t ≡ record s { to_guest = t.to_guest; lossy = true })
PortStep s Forged t = t ≡ record s { to_guest = t.to_guest; forged = true }

-- steps of the guest's end, and of the switch's
abbrev pub IsGuest : PortEvent → Type 0
IsGuest Joined = ⊤
IsGuest Taken = ⊤
IsGuest GuestIdle = ⊤
IsGuest _ = ⊥

abbrev pub IsSwitch : PortEvent → Type 0
IsSwitch Switched = ⊤
IsSwitch Published = ⊤
IsSwitch Blocked = ⊤
IsSwitch SwitchIdle = ⊤
IsSwitch _ = ⊥

abbrev pub IsEither : PortEvent → Type 0
IsEither Given = ⊥
IsEither Tick = ⊥
IsEither Lost = ⊥
IsEither Forged = ⊥
IsEither _ = ⊤

abbrev pub IsPortTurn : List PortEvent → Type 0
IsPortTurn (one ∷ two ∷ []) = IsGuest one × IsSwitch two
IsPortTurn _ = ⊥

abbrev pub port_calm : PortEvent → Bool
port_calm GuestIdle = true
port_calm Blocked = true
port_calm SwitchIdle = true
port_calm _ = false

abbrev pub port_silent : PortEvent → Bool
port_silent GuestIdle = true
port_silent SwitchIdle = true
port_silent _ = false

abbrev pub port_gets : ℕ → PortEvent → List PortEvent
port_gets k Switched = Given ∷ []
port_gets k _ = []

abbrev pub is_none : ℕ → Bool
is_none zero = true
is_none (suc n) = false

-- it lost a frame, isn't up, or holds one
abbrev pub port_waits : Port → Bool
port_waits s = s.lossy || (if s.up then (if is_none (s.to_switch + s.out + s.to_guest) then false else true) else true)

abbrev pub ports : LaneKind Port PortEvent
ports = record {
  Step = PortStep;
  IsStep = IsEither;
  IsTurn = IsPortTurn;
  is_calm = port_calm;
  is_silent = port_silent;
  tick = λ s. Tick;
  gets = port_gets;
  Sees = λ lanes k event. ⊤;
  waits_on = port_waits;
  pending = λ s. s.to_switch + s.out + s.to_guest;
}

-- WHAT REMAINS: a frame on the way to the guest has one step left, one in an out queue two, and one on the way to the
-- switch one, and those that it has in seven out queues
abbrev pub if_so : Bool → ℕ → ℕ
if_so b n = if b then n else 0

abbrev pub port_remaining : Port → ℕ
port_remaining s = if_so s.lossy 2 + (if s.up then 0 else 1) + 16 * s.to_switch + 2 * s.out + s.to_guest

abbrev pub port_raises : PortEvent → ℕ
port_raises Switched = 2
port_raises _ = 0

-- its way to the guest has room; and nobody meddled with it; and nothing was lost
pub record WayHasRoom (s : Port) : Type 0 where
  pub some : 0 < s.room

abbrev pub IsUnforged : Port → Type 0
IsUnforged s = s.forged ≡ false

abbrev pub IsLossless : Port → Type 0
IsLossless s = s.lossy ≡ false

pub record IsClean (s : Port) : Type 0 where
  pub room : WayHasRoom s
  pub unforged : IsUnforged s
