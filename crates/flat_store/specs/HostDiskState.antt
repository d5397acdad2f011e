-- An image of the program is a store as its variant is: zeros in memory, or a file, whose bytes are told where it tells them.
use Rattle.std.specs.Prelude.{◌≡◌, ℕ, Bool, true, false, List, Option, Some, IfSome, length, refl, ⊤}
use Rattle.flat_store.specs.Files.{FileCalls, no_call}
use Rattle.flat_store.specs.declared.image_file.ImageFile.{Ghosts}
use Rattle.flat_store.specs.declared.std_host.HostDisk.{HostDisk}
use Rattle.flat_store.specs.declared.std_host.HostDisk.TheVariants.{Memory, File}

abbrev pub content_of : {F : Type 0} → Ghosts F → HostDisk F → Option (List ℕ)
content_of g (Memory store) = Some store.bytes
content_of g (File store) = g.content store.file

abbrev pub size_of : {F : Type 0} → Ghosts F → HostDisk F → ℕ
size_of g (Memory store) = length store.bytes
size_of g (File store) = g.size store.file

-- how often it was called
abbrev pub calls_of : {F : Type 0} → HostDisk F → ℕ
calls_of (Memory store) = store.calls
calls_of (File store) = store.calls

-- how often it was asked to flush
abbrev pub flushes_of : {F : Type 0} → HostDisk F → ℕ
flushes_of (Memory store) = store.flushes
flushes_of (File store) = store.flushes

-- how often it was asked to write
abbrev pub writes_of : {F : Type 0} → HostDisk F → ℕ
writes_of (Memory store) = store.writes
writes_of (File store) = store.writes

-- how often it failed
abbrev pub faults_of : {F : Type 0} → HostDisk F → ℕ
faults_of (Memory store) = 0
faults_of (File store) = store.faults

-- an image in memory, whose calls never fail
abbrev pub is_in_memory : {F : Type 0} → HostDisk F → Bool
is_in_memory (Memory store) = true
is_in_memory (File store) = false

-- no call of the file below it was made; of an image in memory the store's own counts tell it
abbrev pub IsUncalled : {F : Type 0} → Ghosts F → HostDisk F → Type 0
IsUncalled g (Memory store) = ⊤
IsUncalled g (File store) = g.calls store.file ≡ no_call

-- an image in memory stays one, and a file stays a file, of whose calls before and after this holds
abbrev pub FileCalled : {F : Type 0} → Ghosts F → (FileCalls → FileCalls → Type 0) → HostDisk F → HostDisk F → Type 0
FileCalled g Holds (Memory old) (Memory new) = ⊤
FileCalled g Holds (Memory old) (File new) = ⊥
FileCalled g Holds (File old) (Memory new) = ⊥
FileCalled g Holds (File old) (File new) = Holds (g.calls old.file) (g.calls new.file)

pub told_length : {F : Type 0} (g : Ghosts F) → ((file : F) → IfSome (g.content file) (λ bytes. length bytes ≡ g.size file)) → (disk : HostDisk F) → IfSome (content_of g disk) (λ bytes. length bytes ≡ size_of g disk)
told_length g told (Memory store) = refl
told_length g told (File store) = told store.file
