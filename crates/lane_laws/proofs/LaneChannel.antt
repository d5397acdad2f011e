-- What holds of two ends on a channel holds of a disk's lane: what is said and heard, its links, its sids.
use Rattle.std.proofs.Common.{◌≡◌, ℕ, ◌%◌, false, List, [], ◌∷◌, ◌++◌, refl, ap, ◌∙◌, subst, map, arith}
use Rattle.runs.specs.Lawful.{Lawful, log_append, log_of}
use Rattle.runs.specs.Run.{Run, run_push}
use Rattle.ldc_link.specs.declared.phase.Role.{Role}
use Rattle.ldc_link.specs.declared.phase.Role.TheVariants.{Initiator, Responder}
use Rattle.ldc_queue.specs.Transcript.{Utterance}
use Rattle.vio_handshake.specs.declared.session.Offer.{Offer}
use Rattle.vio_handshake.specs.Offers.{Match}
use Rattle.lane_laws.proofs.EndMoves.{transcript_same}
use Rattle.lane_models.proofs.SameSayings.{half_heard_is}
use Rattle.lane_laws.specs.Agreement.{LinkAgrees}
use Rattle.lane_models.specs.TranscriptLog.{TranscriptLog}
use Rattle.lane_models.specs.WireAt.{WireHeardAt, WireSaidAt}
use Rattle.lane_models.specs.WireEvent.{WireEvent}
use Rattle.lane_models.specs.DiskEvent.{DiskEvent, OnWire}
use Rattle.lane_laws.specs.DiskLog.{DiskLog, after, after_transcript, nothing_yet}
use Rattle.lane_models.specs.LaneState.{IsShape, LaneState, Shape, fresh}
use Rattle.lane_models.specs.LaneStep.{LaneStep}
use Rattle.lane_laws.specs.May.{OfWire}
use Rattle.lane_models.specs.Offering.{client_offer, server_offer}
use Rattle.lane_models.proofs.EndFolding.{FoldsSo, folds_run}
use Rattle.lane_models.proofs.CoreLaws.{links_placed, stands_a, stands_b}
use Rattle.lane_models.proofs.HandshakePlaces.{Matches}
use Rattle.lane_models.proofs.HandshakesPlaced.{Meets, meets_keep}
use Rattle.lane_models.proofs.Lifting.{BothStand, EndsAll}
use Rattle.lane_models.proofs.Numbering.{count_heard_is, count_said_is}
use Rattle.lane_models.proofs.Numbering as core
use Rattle.lane_models.proofs.PartsSaid.{PartsSaid, parts_run}
use Rattle.lane_models.proofs.Sessions.{meets_knows}
use Rattle.lane_models.proofs.Sessions as sessions
use Rattle.lane_models.proofs.Sids.{last_sid_counts, last_sid_none}
use Rattle.lane_models.specs.CoreLog.{CoreLog, OfChannel, comings_after}
use Rattle.lane_models.specs.CoreLog as core_log
use Rattle.lane_models.specs.EndCore.{EndCore}
use Rattle.lane_models.specs.LaneCore.{CoreEvent}
use Rattle.lane_models.specs.LinkPlaces.{LinksAt}
use Rattle.lane_models.specs.Sides.{Sides, sides_of, swapped}
use Rattle.lane_models.specs.Standing.{EndStands}
use Rattle.lane_laws.proofs.LaneCores.{lane_cores, lane_fits, said_in_log}
use Rattle.lane_laws.proofs.OpeningDeal.{offers_match}
use Rattle.lane_laws.specs.ChannelEnds.{client_core, core_event, core_of, server_core}
use Rattle.lane_laws.specs.HeardStands.{HeardAt}
use Rattle.lane_laws.specs.Laws.{SaidAt}

-- what was said and heard on a lane
abbrev pub transcript_in : Shape → List DiskEvent → TranscriptLog
transcript_in shape events = (log_of after (nothing_yet shape) events).transcript

abbrev pub asks_of : Shape → Offer
asks_of shape = client_offer shape.blocks shape.slots

abbrev pub answers_of : Shape → Offer
answers_of shape = server_offer shape.blocks shape.slots

-- A LAW OF THE CHANNEL'S EVENTS, by what was said and heard, is one of the lane's
of_wire : (P : TranscriptLog → WireEvent → Type 0) (x y : TranscriptLog) (event : DiskEvent) → x ≡ y → OfChannel (P x) (core_event event) → OfWire (P y) event
of_wire P x y (OnWire event) same may = subst (λ (l : TranscriptLog). P l event) same may
of_wire P x y _ same may = tt

of_channel : (P : TranscriptLog → WireEvent → Type 0) (c : CoreLog) (l : DiskLog) (events : List DiskEvent) → c.transcript ≡ l.transcript
    → Lawful (λ (x : CoreLog) (e : CoreEvent). OfChannel (P x.transcript) e) core_log.after c (map core_event events)
    → Lawful (λ (x : DiskLog) (e : DiskEvent). OfWire (P x.transcript) e) after l events
of_channel P c l [] same lawful = tt
of_channel P c l (event ∷ events) same lawful = (
  of_wire P c.transcript l.transcript event same lawful.0,
  of_channel P (core_log.after c (core_event event)) (after l event) events
      (transcript_same c.transcript event ∙ ap (λ (x : TranscriptLog). after_transcript x event) same) lawful.1,
)

pub said_lawful : (shape : Shape) (events : List DiskEvent) (s : LaneState) → IsShape shape → Run LaneStep (fresh shape) events s → Lawful SaidAt after (nothing_yet shape) events
said_lawful shape events s sound run =
    of_channel WireSaidAt (core_log.nothing_yet shape.entries) (nothing_yet shape) events refl
    (core.said_lawful shape.entries (asks_of shape) (answers_of shape) (map core_event events) (core_of s) (lane_fits shape sound) (lane_cores shape events s sound run))

pub heard_lawful : (shape : Shape) (events : List DiskEvent) (s : LaneState) → IsShape shape → Run LaneStep (fresh shape) events s → Lawful HeardAt after (nothing_yet shape) events
heard_lawful shape events s sound run =
    of_channel WireHeardAt (core_log.nothing_yet shape.entries) (nothing_yet shape) events refl
    (core.heard_lawful shape.entries (asks_of shape) (answers_of shape) (map core_event events) (core_of s) (lane_fits shape sound) (lane_cores shape events s sound run))

-- EACH END stands by its role, and its link agrees with what was said and heard
pub client_stands : (shape : Shape) (events : List DiskEvent) (s : LaneState) → IsShape shape → Run LaneStep (fresh shape) events s
    → EndStands Initiator (client_core s.client) (transcript_in shape events).a
client_stands shape events s sound run =
    subst (λ (l : TranscriptLog). EndStands Initiator (client_core s.client) l.a) (said_in_log shape events)
    (stands_a shape.entries (asks_of shape) (answers_of shape) (map core_event events) (core_of s) (lane_fits shape sound) (lane_cores shape events s sound run))

pub server_stands : (shape : Shape) (events : List DiskEvent) (s : LaneState) → IsShape shape → Run LaneStep (fresh shape) events s
    → EndStands Responder (server_core s.server) (transcript_in shape events).b
server_stands shape events s sound run =
    subst (λ (l : TranscriptLog). EndStands Responder (server_core s.server) l.b) (said_in_log shape events)
    (stands_b shape.entries (asks_of shape) (answers_of shape) (map core_event events) (core_of s) (lane_fits shape sound) (lane_cores shape events s sound run))

-- and is what it said and heard; a server counts no sids
pub lane_folds : (shape : Shape) (events : List DiskEvent) (s : LaneState) → IsShape shape → Run LaneStep (fresh shape) events s → EndsAll FoldsSo (core_of s) (transcript_in shape events)
lane_folds shape events s sound run =
    subst (EndsAll FoldsSo (core_of s)) (said_in_log shape events)
    (folds_run shape.entries (asks_of shape) (answers_of shape) (map core_event events) (core_of s) (lane_fits shape sound) (lane_cores shape events s sound run))

pub no_sids : (shape : Shape) (events : List DiskEvent) (s : LaneState) → IsShape shape → Run LaneStep (fresh shape) events s → s.server.handshake.last_sid ≡ 0
no_sids shape events s sound run =
    last_sid_none shape.entries (asks_of shape) (answers_of shape) (map core_event events) (core_of s) (lane_fits shape sound) (lane_cores shape events s sound run)

pub link_agrees : (role : Role) (c : EndCore) (turns : List Utterance) → EndStands role c turns → LinkAgrees c.link turns
link_agrees role c turns stands = grind (arith, count_said_is, count_heard_is, half_heard_is)

-- WHERE NOBODY FORGED both links stand at one place, both handshakes too, and the two ends converse
pub lane_links : (shape : Shape) (events : List DiskEvent) (s : LaneState) → IsShape shape → Run LaneStep (fresh shape) events s → s.wire.forged ≡ false
    → LinksAt Initiator (sides_of (core_of s) (transcript_in shape events))
lane_links shape events s sound run clean = grind (arith, said_in_log, links_placed, lane_fits, lane_cores)

pub matched : (shape : Shape) → IsShape shape → Match (asks_of shape) (answers_of shape)
matched shape sound = offers_match shape.blocks shape.slots (omega (arith, sound.some_slots)) sound.most_slots (omega (arith, sound.most_blocks))

pub lane_matches : (shape : Shape) → IsShape shape → Matches (asks_of shape) (answers_of shape)
lane_matches shape sound =
    let fits = lane_fits shape sound in record { asks_fit = fits.asks_fit; answers_fit = fits.answers_fit; matched = matched shape sound }

pub record OnLane (shape : Shape) (role : Role) (s : Sides) : Type 0 where
  pub stand : BothStand role s
  pub meets : Meets (asks_of shape) (answers_of shape) role s
  pub parts_mine : PartsSaid s.mine.utterances
  pub parts_theirs : PartsSaid s.theirs.utterances

pub lane_meets : (shape : Shape) (events : List DiskEvent) (s : LaneState) → IsShape shape → Run LaneStep (fresh shape) events s → s.wire.forged ≡ false
    → OnLane shape Initiator (sides_of (core_of s) (transcript_in shape events))
lane_meets shape events s sound run clean =
    let fits = lane_fits shape sound in
    let cores = lane_cores shape events s sound run in
    let knows = meets_knows shape.entries (asks_of shape) (answers_of shape) (map core_event events) (core_of s) fits (matched shape sound) cores in
    let parts = parts_run shape.entries (asks_of shape) (answers_of shape) (map core_event events) (core_of s) fits cores in
    let logged = sessions.transcript_is (core_log.nothing_yet shape.entries) (map core_event events) in
    subst (λ (l : TranscriptLog). OnLane shape Initiator (sides_of (core_of s) l)) (said_in_log shape events) (record {
      stand = record {
        mine = stands_a shape.entries (asks_of shape) (answers_of shape) (map core_event events) (core_of s) fits cores;
        theirs = stands_b shape.entries (asks_of shape) (answers_of shape) (map core_event events) (core_of s) fits cores;
      };
      meets = subst (λ (l : TranscriptLog). Meets (asks_of shape) (answers_of shape) Initiator (sides_of (core_of s) l)) logged (knows.holds.holds clean);
      parts_mine = parts.a.parts;
      parts_theirs = parts.b.parts;
    })

-- after one more event
pub lane_meets_next : (shape : Shape) (events : List DiskEvent) (s : LaneState) (event : DiskEvent) (t : LaneState) → IsShape shape → Run LaneStep (fresh shape) events s → LaneStep s event t
    → t.wire.forged ≡ false → OnLane shape Initiator (sides_of (core_of t) (after (log_of after (nothing_yet shape) events) event).transcript)
lane_meets_next shape events s event t sound run step clean =
    subst (λ (l : DiskLog). OnLane shape Initiator (sides_of (core_of t) l.transcript)) (log_append after (nothing_yet shape) events (event ∷ []))
    (lane_meets shape (events ++ event ∷ []) t sound (run_push LaneStep (fresh shape) s t events event run step) clean)

-- from its server's side
pub lane_meets_other : (shape : Shape) (events : List DiskEvent) (s : LaneState) → IsShape shape → Run LaneStep (fresh shape) events s → s.wire.forged ≡ false
    → OnLane shape Responder (swapped (sides_of (core_of s) (transcript_in shape events)))
lane_meets_other shape events s sound run clean =
    let on = lane_meets shape events s sound run clean in
    record {
      stand = record { mine = on.stand.theirs; theirs = on.stand.mine };
      meets = (meets_keep (asks_of shape) (answers_of shape) (lane_matches shape sound)).swaps Initiator (sides_of (core_of s) (transcript_in shape events)) on.meets;
      parts_mine = on.parts_theirs;
      parts_theirs = on.parts_mine;
    }

-- THE CLIENT'S LAST SID is how often its link came up
coming : (event : DiskEvent) (l : TranscriptLog) → comings_after l.links (core_event event) ≡ (after_transcript l event).links
coming event l = grind arith

comings : (l : DiskLog) (events : List DiskEvent) → log_of comings_after l.transcript.links (map core_event events) ≡ (log_of after l events).transcript.links
comings l [] = refl
comings l (event ∷ events) = ap (λ (n : ℕ). log_of comings_after n (map core_event events)) (coming event l.transcript) ∙ comings (after l event) events

pub run_sids : (shape : Shape) (events : List DiskEvent) (s : LaneState) → IsShape shape → Run LaneStep (fresh shape) events s
    → s.client.handshake.last_sid ≡ (transcript_in shape events).links % 4294967296
run_sids shape events s sound run =
    last_sid_counts shape.entries (asks_of shape) (answers_of shape) (map core_event events) (core_of s) (lane_fits shape sound) (lane_cores shape events s sound run)
    ∙ ap (λ (n : ℕ). n % 4294967296) (comings (nothing_yet shape) events)
