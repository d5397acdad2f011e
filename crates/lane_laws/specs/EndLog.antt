-- What an end is by what it said and heard since it last began anew, beside its link's phase and its handshake: the range that its server has in
-- work, and what it has still to send. Each is counted from the utterances, newest first.
use Rattle.std.specs.Prelude.{ℕ, ◌+◌, Bool, true, false, List, [], ◌∷◌, Option, Some, None}
use Rattle.ldc_queue.specs.Transcript.{Heard, Said, Utterance}
use Rattle.vio_bytes.specs.Place.{number_at}
use Rattle.vio_tag.specs.declared.message.Message.{Message}
use Rattle.vio_tag.specs.Spelling.{canonical}
use Rattle.lane_models.specs.Blockage.{Blockage, left_of, owed_left}
use Rattle.lane_models.specs.ClientPutting.{announcement}
use Rattle.lane_models.specs.ClientState.{ClientSession, ClientState}
use Rattle.lane_models.specs.Messages.{end_slot_of, range_ended, seq_of, start_slot_of}
use Rattle.lane_models.specs.Sayings.{half_heard, half_said}
use Rattle.lane_models.specs.ServerRule.{answer}
use Rattle.lane_models.specs.ServerState.{ServerSession, ServerState, SlotRange}
use Rattle.lane_laws.specs.WorkLog.{one_in}

-- THE SERVER'S RANGE is the last INFO that it heard, until it said its ACK; its next INFO has the number behind that
-- of the last
abbrev pub ident_of : List ℕ → ℕ
ident_of message = number_at 8 16 message

abbrev pub state_of : List ℕ → ℕ
state_of message = number_at 1 32 message

abbrev pub range_of : List ℕ → SlotRange
range_of message = record { seq = seq_of message; start = start_slot_of message; end = end_slot_of message; state = state_of message }

abbrev pub range_asked : Option (List ℕ) → Option SlotRange → Option SlotRange
range_asked None range = range
range_asked (Some message) range = Some (range_of message)

abbrev pub range_answered : Option (List ℕ) → Option SlotRange → Option SlotRange
range_answered None range = range
range_answered (Some message) range = None

abbrev pub range_in_work : List Utterance → Option SlotRange
range_in_work [] = None
range_in_work (Said packet ∷ utterances) = range_answered (range_ended 2 (half_said utterances) packet) (range_in_work utterances)
range_in_work (Heard packet ∷ utterances) = range_asked (range_ended 1 (half_heard utterances) packet) (range_in_work utterances)

abbrev pub infos_heard : List Utterance → ℕ
infos_heard [] = 0
infos_heard (Said packet ∷ utterances) = infos_heard utterances
infos_heard (Heard packet ∷ utterances) = infos_heard utterances + one_in (range_ended 1 (half_heard utterances) packet)

-- WHAT IS LEFT TO SEND: a client has the INFO that it announces with, where it does, and else what its handshake owes
abbrev pub announced_or_owed : Bool → ClientState → ClientSession → List ℕ → Blockage → List ℕ
announced_or_owed true c session half blockage = left_of half blockage (canonical (announcement c session))
announced_or_owed false c session half blockage = owed_left half blockage c.handshake.owed

abbrev pub client_left : ClientState → Option ClientSession → List ℕ → Blockage → List ℕ
client_left c None half blockage = owed_left half blockage c.handshake.owed
client_left c (Some session) half blockage = announced_or_owed session.announcing c session half blockage

-- a server holds what its handshake owes, and where that owes nothing the answer to its range
abbrev pub range_left : ServerState → Option SlotRange → List ℕ → Blockage → List ℕ
range_left v None half blockage = []
range_left v (Some range) half blockage = left_of half blockage (canonical (answer v range))

abbrev pub answer_left : ServerState → Option ServerSession → List ℕ → Blockage → List ℕ
answer_left v None half blockage = []
answer_left v (Some session) half blockage = range_left v session.range half blockage

abbrev pub server_left : ServerState → Option Message → List ℕ → Blockage → List ℕ
server_left v (Some message) half blockage = left_of half blockage (canonical message)
server_left v None half blockage = answer_left v v.session half blockage
