-- What a piece of a descriptor is as an answer of the server, and what a step does to the store.
use Rattle.std.specs.Prelude.{◌≡◌, ℕ, ◌+◌, ◌≤◌, ⊤}
use Rattle.vio_io.specs.declared.store.Store.{Ghosts}
use Rattle.descriptor_work.specs.Calling.{CalledOnce}
use Rattle.descriptor_work.specs.declared.answers.StoreCall.{StoreCall}
use Rattle.descriptor_work.specs.declared.answers.UnitCopy.{UnitCopy}
use Rattle.vdisk_server.specs.declared.answers.ServerOut.{ServerOut}
use Rattle.vdisk_server.specs.declared.answers.ServerOut.TheVariants as out

-- a call of the store, and the copy of a unit
abbrev pub store_out : StoreCall → ServerOut
store_out call = out.Stored call.operation call.block call.count call.failed

abbrev pub copy_out : UnitCopy → ServerOut
copy_out copy = out.Moved copy.unit copy.fault

-- WHAT A STEP DOES TO THE STORE: a unit and a flush are one call of it, whether it failed or not; by every other step
-- it stays
abbrev pub StoreAfter : {D : Type 0} → Ghosts D → ServerOut → D → D → Type 0
StoreAfter store (out.Stored operation block count failed) old new = CalledOnce store operation failed old new
StoreAfter store _ old new = new ≡ old

-- what is read or written lies in a disk of so many blocks
abbrev pub WithinDisk : ℕ → ServerOut → Type 0
WithinDisk blocks (out.Stored operation block count failed) = block + count ≤ blocks
WithinDisk blocks _ = ⊤
