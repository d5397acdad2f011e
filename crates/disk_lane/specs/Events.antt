-- What a call of a lane is as an event of it, by what it answered.
use Rattle.std.specs.Prelude.{◌≡◌, Bool, true, false, List, ℕ, length, Option, Some, None, Result, Ok, Err, ⊤}
use Rattle.ldc_queue.specs.declared.end.End.{End}
use Rattle.ldc_queue.specs.declared.end.End.TheVariants.{A, B}
use Rattle.ldc_queue.specs.declared.end.PutFault.{PutFault}
use Rattle.ldc_queue.specs.declared.end.PutFault.TheVariants as put
use Rattle.vio_tag.specs.declared.cause.Cause.TheVariants as the_cause
use Rattle.lane_models.specs.WireEvent as wire
use Rattle.lane_models.specs.WireEvent.{ByStep, giver}
use Rattle.lane_models.specs.DiskEvent.{CalmReset, CalmRestart, CalmStart, CalmStop, CalmTick, DiskEvent, Off, OnWire, Calms, Started, Stopped, Switches}
use Rattle.vdisk_client.specs.declared.answers.ClientOut.{ClientOut}
use Rattle.vdisk_client.specs.declared.answers.ClientOut.TheVariants as client_out
use Rattle.vio_io.specs.declared.store.Store.{Ghosts}
use Rattle.vdisk_server.specs.OnStore.{StoreAfter}
use Rattle.vdisk_server.specs.Answering.{server_event}
use Rattle.vdisk_server.specs.declared.answers.ServerOut.{ServerOut}

-- what a server answers that runs or not
abbrev pub answered : Bool → ServerOut → Option ServerOut
answered true out = Some out
answered false out = None

-- a step of the server, or that it is stopped
abbrev pub served_event : Option ServerOut → DiskEvent
served_event (Some answer) = server_event answer
served_event None = Switches Off

-- a reset of an end that was asked for; a stopped server's end isn't reset
abbrev pub reset_event : End → Bool → DiskEvent
reset_event e true = OnWire (wire.Reset e the_cause.Asked None 0)
reset_event e false = Calms (CalmReset e)

abbrev pub restart_event : Bool → DiskEvent
restart_event true = OnWire (wire.Reset B the_cause.Restart None 0)
restart_event false = Calms CalmRestart

abbrev pub stop_event : Bool → DiskEvent
stop_event true = Switches Stopped
stop_event false = Calms CalmStop

abbrev pub start_event : Bool → DiskEvent
start_event true = Switches Started
start_event false = Calms CalmStart

-- a tick resets a client that isn't finished
abbrev pub tick_event : Bool → DiskEvent
tick_event true = OnWire (wire.Reset A the_cause.Tick None 0)
tick_event false = Calms CalmTick

abbrev pub lost_event : End → Option (List ℕ) → DiskEvent
lost_event e (Some packet) = OnWire (wire.Lost e packet)
lost_event e None = OnWire (wire.Declines (wire.NothingLost e))

-- a packet that the peer never put, and bytes that the client never wrote: they come, or the call declines
abbrev pub injected_event : {U : Type 0} → End → List ℕ → Result U PutFault → DiskEvent
injected_event e packet (Ok done) = OnWire (wire.Injected e packet)
injected_event e packet (Err put.NotUp) = OnWire (wire.Declines (wire.NotInjected e packet))
injected_event e packet (Err put.Full) = OnWire (wire.Declines (wire.InjectedFull e packet))

abbrev pub poked_event : ℕ → List ℕ → Bool → DiskEvent
poked_event at bytes true = OnWire (wire.Poked A at bytes)
poked_event at bytes false = OnWire (wire.Declines (wire.PokeRefused A at (length bytes)))

-- what a step does to the store, of a server that is stopped nothing
abbrev pub StoreAfterOf : {D : Type 0} → Ghosts D → Option ServerOut → D → D → Type 0
StoreAfterOf store (Some answer) old new = StoreAfter store answer old new
StoreAfterOf store None old new = new ≡ old

-- a client's step resets its end for a cause of its own, none that a script, a restart or a tick gives
abbrev pub ResetsOwn : ClientOut → Type 0
ResetsOwn (client_out.Reset cause packet) = giver cause ≡ ByStep
ResetsOwn _ = ⊤
