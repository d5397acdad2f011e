-- The laws of two ends on a channel, along every run.
use Rattle.std.proofs.Common.{◌≡◌, ℕ, true, false, List}
use Rattle.runs.specs.Lawful.{log_of}
use Rattle.runs.specs.Run.{Run}
use Rattle.ldc_link.specs.declared.phase.Role.TheVariants.{Initiator, Responder}
use Rattle.vio_handshake.specs.declared.session.Offer.{Offer}
use Rattle.lane_models.specs.Sayings.{heard}
use Rattle.lane_models.proofs.ConversingRuns.{converse_run}
use Rattle.lane_models.proofs.EndResting.{open_rests}
use Rattle.lane_models.proofs.EndUttering.{speaks_run}
use Rattle.lane_models.proofs.Lifting.{core_run, stand_run}
use Rattle.lane_models.proofs.LinkPlaced.{first_links, links_keep}
use Rattle.lane_models.proofs.Sessions.{converse_knows}
use Rattle.lane_models.specs.Conversing.{Converse}
use Rattle.lane_models.specs.CoreLog.{RoomStands, UpStands, after, nothing_yet}
use Rattle.lane_models.specs.Grounds.{OpenRests, RestsOn}
use Rattle.lane_models.specs.LaneCore.{CoreEvent, CoreFits, CoreStep, LaneCore, fresh_core, transcript_behind}
use Rattle.lane_models.specs.LinkPlaces.{LinksAt}
use Rattle.lane_models.specs.Sides.{sides_of}
use Rattle.lane_models.specs.Standing.{EndStands}

-- AN END
pub stands_a : (entries : ℕ) (asks answers : Offer) (events : List CoreEvent) (s : LaneCore) → CoreFits entries asks answers
    → Run CoreStep (fresh_core entries asks answers) events s → EndStands Initiator s.a (transcript_behind events).a
stands_a entries asks answers events s fits run = (stand_run entries asks answers events s fits run).a

pub stands_b : (entries : ℕ) (asks answers : Offer) (events : List CoreEvent) (s : LaneCore) → CoreFits entries asks answers
    → Run CoreStep (fresh_core entries asks answers) events s → EndStands Responder s.b (transcript_behind events).b
stands_b entries asks answers events s fits run = (stand_run entries asks answers events s fits run).b

pub rests_a : (entries : ℕ) (asks answers : Offer) (events : List CoreEvent) (s : LaneCore) → CoreFits entries asks answers
    → Run CoreStep (fresh_core entries asks answers) events s → RestsOn Initiator s.a.handshake (heard (transcript_behind events).a)
rests_a entries asks answers events s fits run = (speaks_run entries asks answers events s fits run).a.knows.rests

pub rests_b : (entries : ℕ) (asks answers : Offer) (events : List CoreEvent) (s : LaneCore) → CoreFits entries asks answers
    → Run CoreStep (fresh_core entries asks answers) events s → RestsOn Responder s.b.handshake (heard (transcript_behind events).b)
rests_b entries asks answers events s fits run = (speaks_run entries asks answers events s fits run).b.knows.rests

pub open_a : (entries : ℕ) (asks answers : Offer) (events : List CoreEvent) (s : LaneCore) → CoreFits entries asks answers
    → Run CoreStep (fresh_core entries asks answers) events s → s.a.is_open ≡ true → OpenRests Initiator s.a.handshake (heard (transcript_behind events).a)
open_a entries asks answers events s fits run opened = open_rests Initiator s.a (transcript_behind events).a (speaks_run entries asks answers events s fits run).a.knows opened

pub open_b : (entries : ℕ) (asks answers : Offer) (events : List CoreEvent) (s : LaneCore) → CoreFits entries asks answers
    → Run CoreStep (fresh_core entries asks answers) events s → s.b.is_open ≡ true → OpenRests Responder s.b.handshake (heard (transcript_behind events).b)
open_b entries asks answers events s fits run opened = open_rests Responder s.b (transcript_behind events).b (speaks_run entries asks answers events s fits run).b.knows opened

-- TWO ENDS
pub conversing : (entries : ℕ) (asks answers : Offer) (events : List CoreEvent) (s : LaneCore) → CoreFits entries asks answers
    → Run CoreStep (fresh_core entries asks answers) events s → s.wire.forged ≡ false → Converse Initiator (sides_of s (transcript_behind events))
conversing entries asks answers events s fits run clean = (converse_run entries asks answers events s fits run).holds clean

pub links_placed : (entries : ℕ) (asks answers : Offer) (events : List CoreEvent) (s : LaneCore) → CoreFits entries asks answers
    → Run CoreStep (fresh_core entries asks answers) events s → s.wire.forged ≡ false → LinksAt Initiator (sides_of s (transcript_behind events))
links_placed entries asks answers events s fits run clean = (core_run LinksAt links_keep entries asks answers events s fits (first_links entries asks answers) run).holds clean

pub who_is_up : (entries : ℕ) (asks answers : Offer) (events : List CoreEvent) (s : LaneCore) → CoreFits entries asks answers
    → Run CoreStep (fresh_core entries asks answers) events s → UpStands s
who_is_up entries asks answers events s fits run = (converse_knows entries asks answers events s fits run).up

pub room_stands : (entries : ℕ) (asks answers : Offer) (events : List CoreEvent) (s : LaneCore) → CoreFits entries asks answers
    → Run CoreStep (fresh_core entries asks answers) events s → RoomStands (log_of after (nothing_yet entries) events)
room_stands entries asks answers events s fits run = (converse_knows entries asks answers events s fits run).room

pub wire_is : (entries : ℕ) (asks answers : Offer) (events : List CoreEvent) (s : LaneCore) → CoreFits entries asks answers
    → Run CoreStep (fresh_core entries asks answers) events s → s.wire ≡ (log_of after (nothing_yet entries) events).wire
wire_is entries asks answers events s fits run = (converse_knows entries asks answers events s fits run).wire
