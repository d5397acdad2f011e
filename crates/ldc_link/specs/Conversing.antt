-- What a link does with packets one after the other, and the messages that are parts of them.
use Rattle.std.specs.Prelude.{◌≡◌, ℕ, false, List, [], ◌∷◌, length, take, Option, Some, None, ⊤}
use Rattle.ldc_packet.specs.declared.packet.Body.{Body}
use Rattle.ldc_packet.specs.declared.packet.Body.TheVariants.{Part, Rdx, Rtr, Rts, Vers}
use Rattle.ldc_packet.specs.declared.packet.Packet.{Packet}
use Rattle.ldc_packet.specs.Form.{IsWellFormed}
use Rattle.ldc_queue.specs.Fragments.{Fragment}
use Rattle.ldc_link.specs.LinkState.{LinkState, cleared, next_number}
use Rattle.ldc_link.specs.Putting.{link_puts}
use Rattle.ldc_link.specs.Taking.{Heard, link_take}

-- data packets, and the parts that they carry
abbrev pub IsData : Body → Type 0
IsData (Part start stop len bytes) = ⊤
IsData (Vers major minor) = ⊥
IsData (Rts mode) = ⊥
IsData (Rtr mode) = ⊥
IsData Rdx = ⊥

abbrev pub AreData : List Packet → Type 0
AreData [] = ⊤
AreData (packet ∷ packets) = IsData packet.body × IsWellFormed packet × AreData packets

abbrev pub fragment_of : Body → Fragment
fragment_of (Part start stop len bytes) = record { start = start; stop = stop; bytes = take len bytes }
fragment_of _ = record { start = false; stop = false; bytes = [] }

abbrev pub carried : List Packet → List Fragment
carried [] = []
carried (packet ∷ packets) = fragment_of packet.body ∷ carried packets

-- their seqids are n and those after it, modulo 2^32
abbrev pub AreNumbered : ℕ → List Packet → Type 0
AreNumbered n [] = ⊤
AreNumbered n (packet ∷ packets) = (packet.seqid ≡ n) × AreNumbered (next_number n) packets

-- the link takes the packets, each message that becomes whole is seen and cleared, and the link is `t` then
abbrev pub seen : Option (List ℕ) → List (List ℕ) → List (List ℕ)
seen None messages = messages
seen (Some message) messages = message ∷ messages

abbrev pub Hears : LinkState → List Packet → List (List ℕ) → LinkState → Type 0
Hears k [] messages t = (messages ≡ []) × (t ≡ k)
Hears k (packet ∷ packets) messages t =
    (m : LinkState) × (others : List (List ℕ)) × (link_take k packet ≡ Heard m) × (messages ≡ seen m.whole others) × Hears (cleared m) packets others t

-- the link puts the packets, and is `t` then
abbrev pub PutsAll : LinkState → List Packet → LinkState → Type 0
PutsAll k [] t = t ≡ k
PutsAll k (packet ∷ packets) t = (m : LinkState) × (link_puts k ≡ Some (packet, m)) × PutsAll m packets t

-- all parts but the last have 56 bytes
abbrev pub AreFull : List Fragment → Type 0
AreFull [] = ⊤
AreFull (fragment ∷ []) = ⊤
AreFull (fragment ∷ next ∷ fragments) = (length fragment.bytes ≡ 56) × AreFull (next ∷ fragments)
