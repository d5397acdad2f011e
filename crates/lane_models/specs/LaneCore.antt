-- Two ends and the wire between them, of any kind of lane. The initiator's end is A, the responder's B.
use Rattle.std.specs.Prelude.{◌≡◌, ◌≢◌, ℕ, ◌+◌, ◌^◌, ◌<◌, ◌≤◌, false, List, [], ◌∷◌, length, Option, None, slice_get, ⊤}
use Rattle.std.specs.List.{AllByRecursion}
use Rattle.runs.specs.Lawful.{log_of}
use Rattle.ldc_link.specs.declared.phase.Role.{Role}
use Rattle.ldc_link.specs.declared.phase.Role.TheVariants.{Initiator, Responder}
use Rattle.ldc_queue.specs.declared.end.ChannelState.TheVariants.{Up}
use Rattle.ldc_queue.specs.declared.end.End.{End}
use Rattle.ldc_queue.specs.declared.end.End.TheVariants.{A, B}
use Rattle.ldc_queue.specs.Transcript.{Heard, Said, Utterance}
use Rattle.ldc_queue.specs.Wire.{Wire, closed, peer_of, state_of, waiting_for}
use Rattle.vio_handshake.specs.declared.session.Offer.{Offer}
use Rattle.lane_models.specs.TranscriptLog.{TranscriptLog, nothing_said, silenced, transcript_moved}
use Rattle.lane_models.specs.WireAt.{IsFirstOn, IsUp, MayReset}
use Rattle.lane_models.specs.WireEvent.{Blocked, ByRestart, ByScript, ByStep, ByTick, Declined, Declines, Giver, Idle, Injected, InjectedFull, Joined, Lost, NotInjected, NothingLost, PokeRefused, Poked, Reset, Sent, Took, WireEvent, giver}
use Rattle.lane_models.specs.WireLog.{WireLog, nothing_on_wire, wire_moved}
use Rattle.map_table.specs.Cookies.{IsCookie}
use Rattle.vio_tag.specs.declared.cause.Cause.{Cause}
use Rattle.vio_tag.specs.Form.{AreCookies}
use Rattle.lane_models.specs.EndCore.{Begins, EndCore, EndMove, Fails, Hears, Renews, Says, Stays, Waits, fresh_end}
use Rattle.lane_models.specs.EndStep.{EndStep}

pub record LaneCore : Type 0 where
  -- the entries of each queue, of which one always stays free
  pub entries : ℕ
  pub wire : WireLog
  pub a : EndCore
  pub b : EndCore

abbrev pub end_of : End → LaneCore → EndCore
end_of A s = s.a
end_of B s = s.b

abbrev pub role_of : End → Role
role_of A = Initiator
role_of B = Responder

pub data CoreEvent : Type 0 where
  OnChannel : WireEvent → CoreEvent
  -- the end is closed, and its values are made new
  Closes : End → CoreEvent
  -- work of a session, and what is asked of a lane
  Beside : CoreEvent

-- each number of an offer is of its field's width, as in a program, and its ring's cookies are well formed
pub record OfferFits (offer : Offer) : Type 0 where
  pub minor : offer.minor < 2 ^ 16
  pub class : offer.class < 2 ^ 8
  pub slots : offer.slots < 2 ^ 32
  pub slot_size : offer.slot_size < 2 ^ 32
  pub room : length offer.cookies ≡ 14
  pub cookies : AllByRecursion IsCookie offer.cookies
  pub form : AreCookies offer.count offer.cookies

-- the sizes of a channel's queues, and of what its ends offer
pub record CoreFits (entries : ℕ) (asks answers : Offer) : Type 0 where
  pub some_entries : 1 ≤ entries
  pub most_entries : entries ≤ 256
  pub asks_fit : OfferFits asks
  pub answers_fit : OfferFits answers

-- no end is configured
abbrev pub fresh_core : ℕ → Offer → Offer → LaneCore
fresh_core entries asks answers = record {
  entries = entries;
  wire = nothing_on_wire;
  a = fresh_end Initiator asks;
  b = fresh_end Responder answers;
}

-- WHAT AN EVENT IS for an end
abbrev pub reset_move : Giver → Cause → Option (List ℕ) → EndMove
reset_move ByStep cause packet = Fails cause packet
reset_move ByScript cause packet = Begins
reset_move ByRestart cause packet = Renews
reset_move ByTick cause packet = Begins

abbrev pub at_end : End → End → EndMove → EndMove
at_end A A move = move
at_end A B move = Stays
at_end B A move = Stays
at_end B B move = move

abbrev pub wire_move : End → WireEvent → EndMove
wire_move e (Joined end lost) = at_end e end Begins
wire_move e (Reset end cause packet lost) = at_end e end (reset_move (giver cause) cause packet)
wire_move e (Took end packet opens) = at_end e end (Hears packet opens)
wire_move e (Sent end packet opens) = at_end e end (Says packet opens)
wire_move e (Blocked end) = at_end e end Waits
wire_move e _ = Stays

abbrev pub move_of : End → CoreEvent → EndMove
move_of e (OnChannel event) = wire_move e event
move_of e (Closes end) = at_end e end Renews
move_of e Beside = Stays

-- WHAT AN END SAID AND HEARD since it last began anew, by its moves; the same for both ends, by the events
abbrev pub utterances_after : List Utterance → EndMove → List Utterance
utterances_after utterances Begins = []
utterances_after utterances Renews = []
utterances_after utterances (Fails cause packet) = []
utterances_after utterances (Hears packet opens) = Heard packet ∷ utterances
utterances_after utterances (Says packet opens) = Said packet ∷ utterances
utterances_after utterances Waits = utterances
utterances_after utterances Stays = utterances

abbrev pub transcript_after : TranscriptLog → CoreEvent → TranscriptLog
transcript_after l (OnChannel event) = transcript_moved l event
transcript_after l (Closes e) = silenced e l
transcript_after l Beside = l

abbrev pub transcript_behind : List CoreEvent → TranscriptLog
transcript_behind events = log_of transcript_after nothing_said events

-- THE WIRE, and where an event may stand by it
abbrev pub end_closed : End → WireLog → WireLog
end_closed e l = record l { wire = closed e l.wire; lossy = false }

abbrev pub wire_after : WireLog → CoreEvent → WireLog
wire_after l (OnChannel event) = wire_moved l event
wire_after l (Closes e) = end_closed e l
wire_after l Beside = l

abbrev pub HasRoomOf : ℕ → End → Wire → Type 0
HasRoomOf entries e w = length (waiting_for e w) + 1 < entries

abbrev pub HasNoRoom : ℕ → End → Wire → Type 0
HasNoRoom entries e w = entries ≤ length (waiting_for e w) + 1

-- what was asked and changes nothing; how much memory an end has is its kind's
abbrev pub AnswerStands : ℕ → WireLog → Declined → Type 0
AnswerStands entries l (NothingLost e) = slice_get (waiting_for e l.wire) 0 ≡ None
AnswerStands entries l (NotInjected e packet) = state_of e l.wire ≢ Up
AnswerStands entries l (InjectedFull e packet) = IsUp e l.wire × (length (waiting_for e l.wire) + 1 ≡ entries)
AnswerStands entries l (PokeRefused e at count) = ⊤

abbrev pub WireStands : ℕ → WireLog → WireEvent → Type 0
WireStands entries l (Joined e lost) = state_of e l.wire ≢ Up
WireStands entries l (Reset e cause packet lost) = MayReset (giver cause) packet e l.wire
WireStands entries l (Took e packet opens) = IsUp e l.wire × IsFirstOn packet e l.wire
WireStands entries l (Sent e packet opens) = IsUp e l.wire × HasRoomOf entries (peer_of e) l.wire
WireStands entries l (Idle e) = IsUp e l.wire × (waiting_for e l.wire ≡ [])
WireStands entries l (Blocked e) = IsUp e l.wire × HasNoRoom entries (peer_of e) l.wire
WireStands entries l (Lost e packet) = IsFirstOn packet e l.wire
WireStands entries l (Injected e packet) = IsUp e l.wire × HasRoomOf entries e l.wire
WireStands entries l (Poked e at bytes) = ⊤
WireStands entries l (Declines d) = AnswerStands entries l d

abbrev pub CoreStands : ℕ → WireLog → CoreEvent → Type 0
CoreStands entries l (OnChannel event) = WireStands entries l event
CoreStands entries l _ = ⊤

-- ONE EVENT
pub record CoreStep (s : LaneCore) (event : CoreEvent) (t : LaneCore) : Type 0 where
  pub entries : t.entries ≡ s.entries
  pub stands : CoreStands s.entries s.wire event
  pub wire : t.wire ≡ wire_after s.wire event
  pub a : EndStep Initiator s.a (move_of A event) t.a
  pub b : EndStep Responder s.b (move_of B event) t.b
