-- Whether an image is as long as the disks of a script need.
use Rattle.std.specs.Prelude.{◌≡◌, ℕ, ◌<◌, ◌≤◌, List, length, Option, IfSome, IsSomeAnd}
use Rattle.ldom_report.specs.declared.status.Status.{Status}
use Rattle.ldom_report.specs.declared.status.Status.TheVariants as status

-- The image is too short exactly at `ImageSize`, which tells how many bytes it had to have and has. At every other status
-- an image has as many. `told` are its bytes as it was attached, where they are told.
abbrev pub SizeIs : {D : Type 0} → (D → ℕ) → Status → ℕ → Option (List ℕ) → Option D → Type 0
SizeIs size (status.ImageSize need have) least told image = (need ≡ least) × (have < least) × IsSomeAnd image (λ disk. size disk ≡ have) × IfSome told (λ bytes. length bytes ≡ have)
SizeIs size other least told image = IfSome image (λ disk. (least ≤ size disk) × IfSome told (λ bytes. least ≤ length bytes))
