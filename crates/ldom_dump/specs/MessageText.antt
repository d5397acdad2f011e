-- The line of a message.
use Rattle.std.specs.Prelude.{ℕ, List, [], ◌++◌, take, codes, Option, Some, None, Result, Ok, Err}
use Rattle.std.specs.List.{flat_map}
use Rattle.hex.specs.Hex.{encode_lower}
use Rattle.map_table.specs.declared.cookie.Cookie.{Cookie}
use Rattle.vio_tag.specs.declared.message.Message.{Message}
use Rattle.vio_tag.specs.declared.message.MsgBody.{MsgBody}
use Rattle.vio_tag.specs.declared.message.MsgBody.TheVariants.{Ver, Attr, DringReg, DringUnreg, Rdx, DringData, Mcast, Plain}
use Rattle.vio_tag.specs.declared.message.TagFault.{TagFault}
use Rattle.vio_tag.specs.CauseText.{tag_word}
use Rattle.ldom_dump.specs.Fields.{field_text, head_text}

-- a cookie: its address and its size
abbrev pub cookie_text : Cookie → List ℕ
cookie_text cookie = field_text (codes " ") cookie.address ++ field_text (codes ":") cookie.size

-- a message's name
abbrev pub message_name : MsgBody → List ℕ
message_name (Ver major minor class) = codes "message ver "
message_name (Attr bytes) = codes "message attr "
message_name (DringReg ident slots slot_size options count cookies) = codes "message reg "
message_name (DringUnreg ident) = codes "message unreg "
message_name Rdx = codes "message rdx "
message_name (DringData seq ident start end state) = codes "message dring "
message_name (Mcast set count addresses) = codes "message mcast "
message_name (Plain envelope) = codes "message plain "

-- what a message says after its tag
abbrev pub said_text : MsgBody → List ℕ
said_text (Ver major minor class) = field_text (codes " major=") major ++ field_text (codes " minor=") minor ++ field_text (codes " class=") class
said_text (Attr bytes) = codes " " ++ encode_lower bytes
said_text (DringReg ident slots slot_size options count cookies) =
    field_text (codes " ident=") ident ++ field_text (codes " slots=") slots ++ field_text (codes " size=") slot_size
    ++ field_text (codes " options=") options ++ field_text (codes " cookies=") count ++ flat_map cookie_text (take count cookies)
said_text (DringUnreg ident) = field_text (codes " ident=") ident
said_text Rdx = []
said_text (DringData seq ident start end state) =
    field_text (codes " seq=") seq ++ field_text (codes " ident=") ident ++ field_text (codes " start=") start
    ++ field_text (codes " end=") end ++ field_text (codes " state=") state
said_text (Mcast set count addresses) = field_text (codes " set=") set ++ field_text (codes " count=") count ++ codes " " ++ flat_map encode_lower addresses
said_text (Plain envelope) = field_text (codes " envelope=") envelope

-- the line of a message, or of what is wrong with it
abbrev pub message_line : Result Message TagFault → List ℕ
message_line (Ok message) = head_text (message_name message.body) message.subtype (codes " sid=") message.sid ++ said_text message.body ++ codes "\n"
message_line (Err fault) = codes "message fault " ++ tag_word fault ++ codes "\n"

-- the line of the message that a packet carries whole, nothing where it carries none
abbrev pub carried_line : Option (Result Message TagFault) → List ℕ
carried_line (Some read) = message_line read
carried_line None = []
