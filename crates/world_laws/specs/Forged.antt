-- Who forges a lane: events that put a packet which no end put, or write bytes into a memory that its end never wrote.
use Rattle.std.specs.Prelude.{◌≡◌, ℕ, Bool, true, false, List, [], ◌∷◌, ⊤}
use Rattle.lane_models.specs.WireEvent.{Injected, Poked}
use Rattle.lane_models.specs.DiskEvent.{DiskEvent, OnWire}
use Rattle.world_laws.specs.Along.{happened}
use Rattle.world_laws.specs.Settle.{SettleEntry}

abbrev pub forges : DiskEvent → Bool
forges (OnWire (Injected e packet)) = true
forges (OnWire (Poked e at bytes)) = true
forges _ = false

-- NOBODY FORGED a lane among these events
abbrev pub NobodyForges : List DiskEvent → Type 0
NobodyForges [] = ⊤
NobodyForges (event ∷ events) = (forges event ≡ false) × NobodyForges events

-- nor any lane, by these entries of a world's journal
abbrev pub NobodyForgesAny : List SettleEntry → Type 0
NobodyForgesAny entries = (k : ℕ) → NobodyForges (happened k entries)
