-- Which packets are well formed.
use Rattle.std.specs.Prelude.{◌≡◌, ℕ, ◌-◌, ◌<◌, ◌≤◌, List, length, drop, replicate, ⊤}
use Rattle.ldc_packet.specs.declared.packet.Body.{Body}
use Rattle.ldc_packet.specs.declared.packet.Body.TheVariants.{Vers, Rts, Rtr, Rdx, Part}
use Rattle.ldc_packet.specs.declared.packet.Packet.{Packet}
use Rattle.ldc_packet.specs.declared.packet.Subtype.{Subtype}
use Rattle.ldc_packet.specs.declared.packet.Subtype.TheVariants.{Info}

-- a part has the subtype INFO, 1 to 56 bytes, and zeros past them
pub record IsPart (subtype : Subtype) (len : ℕ) (bytes : List ℕ) : Type 0 where
  pub info : subtype ≡ Info
  pub some : 1 ≤ len
  pub within : len ≤ 56
  pub room : length bytes ≡ 56
  pub zeros : drop len bytes ≡ replicate (56 - len) 0

-- each control packet is well formed, of any subtype
abbrev pub HasForm : Subtype → Body → Type 0
HasForm subtype (Vers major minor) = ⊤
HasForm subtype (Rts mode) = ⊤
HasForm subtype (Rtr mode) = ⊤
HasForm subtype Rdx = ⊤
HasForm subtype (Part start stop len bytes) = IsPart subtype len bytes

abbrev pub IsWellFormed : Packet → Type 0
IsWellFormed packet = HasForm packet.subtype packet.body

-- the numbers of the body are of their fields' widths
abbrev pub BodyHasWidths : Body → Type 0
BodyHasWidths (Vers major minor) = (major < 65536) × (minor < 65536)
BodyHasWidths (Rts mode) = mode < 256
BodyHasWidths (Rtr mode) = mode < 256
BodyHasWidths Rdx = ⊤
BodyHasWidths (Part start stop len bytes) = ⊤

-- each number of the packet is of its field's width, as those of a program are
abbrev pub HasWidths : Packet → Type 0
HasWidths packet = (packet.seqid < 4294967296) × BodyHasWidths packet.body
