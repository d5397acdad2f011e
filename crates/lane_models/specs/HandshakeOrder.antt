-- The order of a handshake, as the transcript of an end shows it where its session opens: a row of packets and messages that it said and
-- heard, one after the other, and between them only what may stand aside. The row is read as the transcript stands, newest first.
use Rattle.std.specs.Prelude.{◌≡◌, ℕ, ◌%◌, ◌⊎◌, Bool, true, false, List, [], ◌∷◌, ◌++◌, ⊤}
use Rattle.vio_bytes.specs.Place.{number_at}
use Rattle.ldc_packet.specs.Spelling.{ctrl_at, env_at, subtype_at, type_at}
use Rattle.ldc_link.specs.declared.phase.Role.{Role}
use Rattle.ldc_link.specs.declared.phase.Role.TheVariants.{Initiator, Responder}
use Rattle.ldc_queue.specs.Fragments.{fragment_at, is_part}
use Rattle.ldc_queue.specs.Transcript.{Heard, Said, Utterance}
use Rattle.vio_tag.specs.Spelling as message_at
use Rattle.lane_models.specs.Sayings.{half_heard, half_said}

-- the packets of a link's own handshake: VERS INFO 1.0, a VERS INFO of major 1, VERS ACK 1.0, RTS and RTR with mode 1, RDX INFO
pub data Control : Type 0 where
  VersOffer : Control
  VersAsked : Control
  VersAgreed : Control
  RtsAsked : Control
  RtrAnswered : Control
  RdxGiven : Control

-- type, subtype and control code
pub record IsControl (packet : List ℕ) (subtype ctrl : ℕ) : Type 0 where
  pub control : type_at packet ≡ 1
  pub of_subtype : subtype_at packet ≡ subtype
  pub of_ctrl : ctrl_at packet ≡ ctrl

abbrev pub IsControlOf : Control → List ℕ → Type 0
IsControlOf VersOffer packet = IsControl packet 1 1 × (number_at 2 8 packet ≡ 1) × (number_at 2 10 packet ≡ 0)
IsControlOf VersAsked packet = IsControl packet 1 1 × (number_at 2 8 packet ≡ 1)
IsControlOf VersAgreed packet = IsControl packet 2 1 × (number_at 2 8 packet ≡ 1) × (number_at 2 10 packet ≡ 0)
IsControlOf RtsAsked packet = IsControl packet 1 2 × (env_at packet ≡ 1)
IsControlOf RtrAnswered packet = IsControl packet 1 3 × (env_at packet ≡ 1)
IsControlOf RdxGiven packet = IsControl packet 1 4

-- a line of the row: a control packet, or a message by its subtype (INFO 1, ACK 2) and its envelope
pub data RowLine : Type 0 where
  SaysControl : Control → RowLine
  HearsControl : Control → RowLine
  Says : (subtype envelope : ℕ) → RowLine
  Hears : (subtype envelope : ℕ) → RowLine

-- A ring of its own is registered by a disk's client and by both ends of a port. The guest of a port answers for the switch's ring
-- before it goes on, and the switch registers its own after its answer.
abbrev pub own_ring_lines : Bool → Role → List RowLine
own_ring_lines false role = []
own_ring_lines true Initiator = Says 2 0x0003 ∷ Hears 1 0x0003 ∷ []
own_ring_lines true Responder = Hears 2 0x0003 ∷ Says 1 0x0003 ∷ []

abbrev pub opening_lines : Role → List RowLine
opening_lines Initiator =
    Hears 2 0x0003 ∷ Says 1 0x0003 ∷ Hears 2 0x0002 ∷ Says 1 0x0002 ∷ Hears 2 0x0001 ∷ Says 1 0x0001
    ∷ SaysControl RdxGiven ∷ HearsControl RtrAnswered ∷ SaysControl RtsAsked ∷ HearsControl VersAgreed ∷ SaysControl VersOffer ∷ []
opening_lines Responder =
    Says 2 0x0003 ∷ Hears 1 0x0003 ∷ Says 2 0x0002 ∷ Hears 1 0x0002 ∷ Says 2 0x0001 ∷ Hears 1 0x0001
    ∷ HearsControl RdxGiven ∷ SaysControl RtrAnswered ∷ HearsControl RtsAsked ∷ SaysControl VersAgreed ∷ HearsControl VersAsked ∷ []

abbrev pub closing_lines : Role → List RowLine
closing_lines Initiator = Says 2 0x0005 ∷ Hears 1 0x0005 ∷ Hears 2 0x0005 ∷ Says 1 0x0005 ∷ []
closing_lines Responder = Hears 2 0x0005 ∷ Says 1 0x0005 ∷ Says 2 0x0005 ∷ Hears 1 0x0005 ∷ []

-- the row of an end, newest first: of a disk, or where both ends have a ring
abbrev pub row : Bool → Role → List RowLine
row both role = closing_lines role ++ (own_ring_lines both role ++ opening_lines role)

-- how many sids there are
abbrev pub sid_count : ℕ
sid_count = 4294967296

-- A sid has 32 bits: of bytes it is the number that stands there. A list of numbers that aren't bytes may have more, and what answers it
-- has its lowest 32.
abbrev pub sid_in_bytes : List ℕ → ℕ
sid_in_bytes message = message_at.sid_at message % sid_count

-- the packet ends a message with this subtype, envelope and sid, where this had come of it before
pub record EndsAs (subtype envelope sid : ℕ) (half packet : List ℕ) : Type 0 where
  pub part : is_part packet ≡ true
  pub stop : (fragment_at packet).stop ≡ true
  pub of_subtype : message_at.subtype_at (half ++ (fragment_at packet).bytes) ≡ subtype
  pub of_envelope : message_at.envelope_at (half ++ (fragment_at packet).bytes) ≡ envelope
  pub of_sid : sid_in_bytes (half ++ (fragment_at packet).bytes) ≡ sid

-- the utterance is the line's, after those before it
abbrev pub Meets : ℕ → RowLine → Utterance → List Utterance → Type 0
Meets sid (SaysControl control) (Said packet) before = IsControlOf control packet
Meets sid (HearsControl control) (Heard packet) before = IsControlOf control packet
Meets sid (Says subtype envelope) (Said packet) before = EndsAs subtype envelope sid (half_said before) packet
Meets sid (Hears subtype envelope) (Heard packet) before = EndsAs subtype envelope sid (half_heard before) packet
Meets sid _ _ before = ⊥

-- the lines that are still to be met are not after the link's coming up, or not before the version was agreed on
abbrev pub ComesUpBelow : List RowLine → Type 0
ComesUpBelow [] = ⊥
ComesUpBelow (SaysControl RdxGiven ∷ lines) = ⊤
ComesUpBelow (HearsControl RdxGiven ∷ lines) = ⊤
ComesUpBelow (line ∷ lines) = ComesUpBelow lines

abbrev pub AgreesAbove : List RowLine → Type 0
AgreesAbove [] = ⊤
AgreesAbove (SaysControl VersAgreed ∷ lines) = ⊥
AgreesAbove (line ∷ lines) = AgreesAbove lines

-- a refusal of a version, which a responder may say before it agrees to one
abbrev pub IsVersNack : List ℕ → Type 0
IsVersNack packet = IsControl packet 4 1

abbrev pub MayRefuse : Role → List RowLine → List ℕ → Type 0
MayRefuse Initiator lines packet = ⊥
MayRefuse Responder lines packet = AgreesAbove lines × IsVersNack packet

-- a part that ends no message, or the end of a refusal
abbrev pub MayEnd : Bool → List ℕ → Type 0
MayEnd false message = ⊤
MayEnd true message = message_at.subtype_at message ≡ 4

-- What may stand between the lines: what was said, parts of messages and refusals, after the link's coming up; a responder's refusals
-- of versions; and what was heard, parts after the link's coming up, and control packets.
abbrev pub IsAside : Role → List RowLine → Utterance → List Utterance → Type 0
IsAside role lines (Said packet) before =
    (ComesUpBelow lines × (is_part packet ≡ true) × MayEnd (fragment_at packet).stop (half_said before ++ (fragment_at packet).bytes))
    ⊎ MayRefuse role lines packet
IsAside role lines (Heard packet) before = ComesUpBelow lines ⊎ (is_part packet ≡ false)

-- the utterances are the lines, one after the other, and what stands aside
abbrev pub FollowsRow : Role → ℕ → List RowLine → List Utterance → Type 0
FollowsRow role sid [] [] = ⊤
FollowsRow role sid (line ∷ lines) [] = ⊥
FollowsRow role sid [] (utterance ∷ utterances) = IsAside role [] utterance utterances × FollowsRow role sid [] utterances
FollowsRow role sid (line ∷ lines) (utterance ∷ utterances) =
    (Meets sid line utterance utterances × FollowsRow role sid lines utterances)
    ⊎ (IsAside role (line ∷ lines) utterance utterances × FollowsRow role sid (line ∷ lines) utterances)

-- Its newest utterance is that by which the session opened. All messages of the row have one sid.
abbrev pub OpensBy : Role → ℕ → List RowLine → List Utterance → Type 0
OpensBy role sid [] utterances = ⊥
OpensBy role sid (line ∷ lines) [] = ⊥
OpensBy role sid (line ∷ lines) (utterance ∷ utterances) = Meets sid line utterance utterances × FollowsRow role sid lines utterances

pub record HandshakeOrder (both : Bool) (role : Role) (utterances : List Utterance) : Type 0 where
  pub sid : ℕ
  pub opens : OpensBy role sid (row both role) utterances
