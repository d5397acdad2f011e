-- The parts that lines of a dump have in common.
use Rattle.std.specs.Prelude.{ℕ, Bool, true, false, List, ◌++◌, codes, decimal}
use Rattle.ldc_packet.specs.declared.packet.Subtype.{Subtype}
use Rattle.ldc_packet.specs.declared.packet.Subtype.TheVariants.{Info, Ack, Nack}

-- a number after its name, as ` seq=7`
abbrev pub field_text : List ℕ → ℕ → List ℕ
field_text name value = name ++ decimal value

abbrev pub subtype_word : Subtype → List ℕ
subtype_word Info = codes "info"
subtype_word Ack = codes "ack"
subtype_word Nack = codes "nack"

-- a flag is 1 where it stands
abbrev pub flag_number : Bool → ℕ
flag_number true = 1
flag_number false = 0

-- how the line of a packet or message begins: its name, its subtype, and the number of its place or session
abbrev pub head_text : List ℕ → Subtype → List ℕ → ℕ → List ℕ
head_text name subtype field value = name ++ subtype_word subtype ++ field_text field value
