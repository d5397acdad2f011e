-- Each message that a handshake takes, each that it puts, and each move of its end leave it as it always is.
use Rattle.std.proofs.Common.{◌≡◌, ℕ, Bool, true, None, List, refl, sym, ◌∙◌, subst, arith}
use Rattle.runs.specs.Run.{Run}
use Rattle.ldc_link.specs.declared.phase.Role.{Role}
use Rattle.ldc_link.specs.declared.phase.Role.TheVariants.{Initiator, Responder}
use Rattle.ldc_queue.specs.Transcript.{Utterance}
use Rattle.map_table.specs.declared.cookie.Cookie.{Cookie}
use Rattle.vio_tag.specs.declared.message.Message.{Message}
use Rattle.vio_handshake.specs.Acceptance.{accepts_ring}
use Rattle.vio_handshake.specs.declared.handshake.Handshake.{Handshake}
use Rattle.vio_handshake.specs.declared.session.Offer.{Offer}
use Rattle.vio_handshake.specs.Rules.{handshake_sent}
use Rattle.vio_handshake.specs.State.{begun, fresh_handshake, handshake_up, joined_handshake}
use Rattle.lane_models.proofs.Apart.{false_is_true}
use Rattle.lane_models.proofs.EndCases.{EndTook, NoMessage, PutControl, PutHandshake, PutMore, PutOwn, PutReady, PutWhat, Rises, TookHandshake, TookOwn, TookWhat, end_put, end_took}
use Rattle.lane_models.proofs.EndResting.{held_handshake}
use Rattle.lane_models.proofs.EndStanding.{fresh_end_stands, held_stands, stands_step}
use Rattle.lane_models.proofs.HandshakeCases.{RowTaken}
use Rattle.lane_models.proofs.Lifting.{EndsAll, ends_run}
use Rattle.lane_models.specs.EndCore.{Begins, EndCore, EndMove, Fails, Hears, Renews, Says, Stays, Waits}
use Rattle.lane_models.specs.EndStep.{EndSays, EndStep}
use Rattle.lane_models.specs.HandshakeFits.{HandshakeFits}
use Rattle.lane_models.specs.LaneCore.{CoreEvent, CoreFits, CoreStep, LaneCore, fresh_core, transcript_behind, utterances_after}
use Rattle.lane_models.specs.Standing.{EndStands}

-- IT BEGINS: no ring is agreed on
pub joined_fits : (role : Role) (offer : Offer) (h : Handshake) → HandshakeFits role offer h → HandshakeFits role offer (joined_handshake h)
joined_fits role offer h fits = record { role_is = fits.role_is; offer_is = fits.offer_is; owed = tt; ring = λ takes named. false_is_true named }

pub fresh_fits : (role : Role) (offer : Offer) → HandshakeFits role offer (fresh_handshake role offer)
fresh_fits role offer = record { role_is = refl; offer_is = refl; owed = tt; ring = λ takes named. false_is_true named }

begun_fits : (r role : Role) (offer : Offer) (h : Handshake) → h.role ≡ role → h.offer ≡ offer → HandshakeFits role offer (begun r (joined_handshake h))
begun_fits Initiator role offer h role_is offer_is = record { role_is = role_is; offer_is = offer_is; owed = tt; ring = λ takes named. false_is_true named }
begun_fits Responder role offer h role_is offer_is = record { role_is = role_is; offer_is = offer_is; owed = tt; ring = λ takes named. false_is_true named }

pub up_fits : (role : Role) (offer : Offer) (h : Handshake) → HandshakeFits role offer h → HandshakeFits role offer (handshake_up h)
up_fits role offer h fits = begun_fits h.role role offer h fits.role_is fits.offer_is

-- A MESSAGE THAT IT TOOK, where it owed nothing
accepted_slots : (offer : Offer) (slots slot_size options count : ℕ) (cookies : List Cookie) → accepts_ring offer slots slot_size options count cookies ≡ true → slots ≡ offer.peer_slots
unfolding accepts_ring
accepted_slots offer slots slot_size options count cookies is = grind arith

-- the phase before had agreed to the ring too
pub row_fits : (role : Role) (offer : Offer) (h t : Handshake) (message : Message) (opens : Bool) → h.owed ≡ None → HandshakeFits role offer h → RowTaken h message t opens
    → HandshakeFits role offer t
row_fits role offer h t message opens none fits taken = grind (arith, accepted_slots)

-- ONE THAT IT PUT
-- AN END, by its moves
pub record EndFits (role : Role) (c : EndCore) (turns : List Utterance) : Type 0 where
  pub stands : EndStands role c turns
  pub fits : HandshakeFits role c.offer c.handshake

pub same_fits : (role : Role) (offer : Offer) (h t : Handshake) → HandshakeFits role offer h → t ≡ h → HandshakeFits role offer t
same_fits role offer h t fits is = subst (HandshakeFits role offer) (sym is) fits

took_fits : (role : Role) (c t : EndCore) (turns : List Utterance) (packet : List ℕ) (opens : Bool) → c.handshake.owed ≡ None → HandshakeFits role c.offer c.handshake
    → (took : EndTook role c turns packet opens t) → HandshakeFits role c.offer t.handshake
took_fits role c t turns packet opens none fits took = by_what took.what
  where
    by_what : TookWhat role c turns packet opens t took.now → HandshakeFits role c.offer t.handshake
    by_what (NoMessage up heard same shut is_open) = same_fits role c.offer c.handshake t.handshake fits same
    by_what (Rises r down up heard same shut is_open) = same_fits role c.offer (handshake_up c.handshake) t.handshake (up_fits role c.offer c.handshake fits) same
    by_what (TookOwn message took own same shut is_open) = same_fits role c.offer c.handshake t.handshake fits same
    by_what (TookHandshake message took handshake is_open) = row_fits role c.offer c.handshake t.handshake message opens none fits handshake.row

sent_fits : (role : Role) (offer : Offer) (h : Handshake) → HandshakeFits role offer h → HandshakeFits role offer (handshake_sent h)
sent_fits role offer h fits = grind arith

put_fits : (role : Role) (offer : Offer) (held t : EndCore) (turns : List Utterance) (packet : List ℕ) (opens : Bool) → HandshakeFits role offer held.handshake
    → PutWhat role held turns packet opens t → HandshakeFits role offer t.handshake
put_fits role offer held t turns packet opens fits what = by_what what
  where
    same : t.handshake ≡ held.handshake → HandshakeFits role offer t.handshake
    same is = same_fits role offer held.handshake t.handshake fits is

    by_what : PutWhat role held turns packet opens t → HandshakeFits role offer t.handshake
    by_what (PutControl next gone link quiet is not is_open) = same is
    by_what (PutReady role_is at spelled link quiet is not is_open) =
        same_fits role offer (handshake_up held.handshake) t.handshake (up_fits role offer held.handshake fits) is
    by_what (PutMore at link part is not is_open) = same is
    by_what (PutOwn own at link last is not is_open) = same is
    by_what (PutHandshake own at link last is opens_is is_open) =
        same_fits role offer (handshake_sent held.handshake) t.handshake (sent_fits role offer held.handshake fits) is

says_fits : (role : Role) (c t : EndCore) (turns : List Utterance) (packet : List ℕ) (opens : Bool) → EndFits role c turns → EndSays role c packet opens t → HandshakeFits role c.offer t.handshake
says_fits role c t turns packet opens end says =
    put_fits role c.offer says.held t turns packet opens
    (same_fits role c.offer c.handshake says.held.handshake end.fits (held_handshake c says.held says.what says.holds))
    (end_put role c t turns packet opens says (held_stands role c says.held turns says.what end.stands says.holds))

move_fits : (role : Role) (c : EndCore) (move : EndMove) (t : EndCore) (turns : List Utterance) → EndFits role c turns → EndStep role c move t → HandshakeFits role c.offer t.handshake
move_fits role c Begins t turns end step = same_fits role c.offer (joined_handshake c.handshake) t.handshake (joined_fits role c.offer c.handshake end.fits) step.handshake
move_fits Initiator c Renews t turns end step = same_fits Initiator c.offer (joined_handshake c.handshake) t.handshake (joined_fits Initiator c.offer c.handshake end.fits) step.handshake
move_fits Responder c Renews t turns end step = same_fits Responder c.offer (fresh_handshake Responder c.offer) t.handshake (fresh_fits Responder c.offer) step.handshake
move_fits role c (Fails cause packet) t turns end step =
    same_fits role c.offer (joined_handshake c.handshake) t.handshake (joined_fits role c.offer c.handshake end.fits) step.1.handshake
move_fits role c (Hears packet opens) t turns end step = took_fits role c t turns packet opens step.may.owed end.fits (end_took role c t turns packet opens end.stands step)
move_fits role c (Says packet opens) t turns end step = says_fits role c t turns packet opens end step
move_fits role c Waits t turns end step = same_fits role c.offer c.handshake t.handshake end.fits (held_handshake c t step.what step.holds)
move_fits role c Stays t turns end step = same_fits role c.offer c.handshake t.handshake end.fits step.handshake

-- what an end offers is what its handshake does
pub fits_step : (role : Role) (c : EndCore) (move : EndMove) (t : EndCore) (turns : List Utterance) → EndFits role c turns → EndStep role c move t → EndFits role t (utterances_after turns move)
fits_step role c move t turns end step =
    let now : EndStands role t (utterances_after turns move) = stands_step role c move t turns end.stands step in
    let fits = move_fits role c move t turns end step in
    record { stands = now; fits = subst (λ (o : Offer). HandshakeFits role o t.handshake) (sym fits.offer_is ∙ now.handshake.offer_is) fits }

-- ALONG EVERY RUN
pub fits_run : (entries : ℕ) (asks answers : Offer) (events : List CoreEvent) (s : LaneCore) → CoreFits entries asks answers
    → Run CoreStep (fresh_core entries asks answers) events s → EndsAll EndFits s (transcript_behind events)
fits_run entries asks answers events s fits run = search (ends_run, fits_step, fresh_end_stands, fresh_fits)
