-- What a step of a client needs to put what it completes.
use Rattle.std.specs.Prelude.{ℕ, ◌≤◌, List, length, ⊤}
use Rattle.disk_lane.specs.vdisk_client.declared.answers.ClientOut.{ClientOut}
use Rattle.disk_lane.specs.vdisk_client.declared.answers.ClientOut.TheVariants as out

-- what a completion carries has this room; no other answer carries anything
abbrev pub FitsRoom : ClientOut → List ℕ → ℕ → Type 0
FitsRoom (out.Done id operation status len) last room = length last ≤ room
FitsRoom _ last room = ⊤
