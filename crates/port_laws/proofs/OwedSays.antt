-- What a handshake owes says nothing of a session of a port, along every run.
use Rattle.std.proofs.Common.{◌≡◌, ℕ, Bool, true, Option, Some, None, List, inl, inr, refl, sym, subst, arith}
use Rattle.std.specs.Prelude.{⊤}
use Rattle.runs.specs.Run.{Run}
use Rattle.ldc_link.specs.declared.phase.Role.{Role}
use Rattle.ldc_link.specs.declared.phase.Role.TheVariants.{Initiator, Responder}
use Rattle.ldc_link.specs.LinkState.{LinkState}
use Rattle.ldc_packet.specs.declared.packet.Subtype.{Subtype}
use Rattle.ldc_packet.specs.declared.packet.Subtype.TheVariants.{Ack, Info}
use Rattle.ldc_queue.specs.Transcript.{Utterance}
use Rattle.vio_handshake.specs.declared.handshake.Handshake.{Handshake}
use Rattle.vio_handshake.specs.declared.handshake.Phase.{Phase}
use Rattle.vio_handshake.specs.declared.session.Offer.{Offer}
use Rattle.vio_handshake.specs.Rules.{is_declined}
use Rattle.vio_handshake.specs.State.{begun, joined_handshake}
use Rattle.vio_tag.specs.declared.message.Message.{Message}
use Rattle.vio_tag.specs.declared.message.MsgBody.{MsgBody}
use Rattle.vio_tag.specs.declared.message.MsgBody.TheVariants.{DringData, Mcast, Plain}
use Rattle.vio_tag.specs.Form.{HasForm, IsWellFormed}
use Rattle.vio_tag.specs.Spelling.{canonical}
use Rattle.lane_models.proofs.EndCases.{NoMessage, PutWhat, Rises, TookHandshake, TookOwn, TookWhat, end_put, end_took}
use Rattle.lane_models.proofs.EndResting.{held_handshake}
use Rattle.lane_models.proofs.EndStanding.{fresh_end_stands, held_stands, stands_step}
use Rattle.lane_models.proofs.HandshakeCases.{RowTaken, row_sent}
use Rattle.lane_models.proofs.Lifting.{EndsAll, ends_run}
use Rattle.lane_models.specs.EndCore.{Begins, EndCore, EndMove, Fails, Hears, Renews, Says as SaysPacket, Stays, Waits}
use Rattle.lane_models.specs.EndStep.{EndSays, EndStep}
use Rattle.lane_models.specs.HandshakeFits.{MayOwe}
use Rattle.lane_models.specs.LaneCore.{CoreEvent, CoreFits, CoreStep, LaneCore, fresh_core, transcript_behind}
use Rattle.lane_models.specs.Standing.{EndStands}
use Rattle.lane_models.proofs.Refuting.{false_true}
use Rattle.lane_models.specs.Spoken.{Other, spoken}

-- WHAT IT OWES is of no groups: what it declines is data without a ring, or the end of a ring
abbrev pub NoGroups : MsgBody → Type 0
NoGroups (Mcast set count addresses) = ⊥
NoGroups (Plain envelope) = HasForm (Plain envelope)
NoGroups _ = ⊤

abbrev pub OwesNoGroups : Option Message → Type 0
OwesNoGroups None = ⊤
OwesNoGroups (Some message) = NoGroups message.body

plain_other : (s : Subtype) (n envelope : ℕ) → HasForm (Plain envelope) → spoken (canonical (record { subtype = s; sid = n; body = Plain envelope })) ≡ Other
unfolding canonical
plain_other s n envelope (inl is) = subst (λ (x : ℕ). spoken (canonical (record { subtype = s; sid = n; body = Plain x })) ≡ Other) (sym is) refl
plain_other s n envelope (inr is) = subst (λ (x : ℕ). spoken (canonical (record { subtype = s; sid = n; body = Plain x })) ≡ Other) (sym is) refl

body_other : (phase : Phase) (s : Subtype) (n : ℕ) (b : MsgBody) → MayOwe phase s b → NoGroups b → spoken (canonical (record { subtype = s; sid = n; body = b })) ≡ Other
unfolding canonical
body_other phase Info n (DringData seq ident start end state) may none = absurd may
body_other phase Ack n (DringData seq ident start end state) may none = absurd may
body_other phase s n (Mcast set count addresses) may none = absurd none
body_other phase s n (Plain envelope) may none = plain_other s n envelope none
body_other phase _ n _ may none = refl

pub owed_other : (phase : Phase) (message : Message) → MayOwe phase message.subtype message.body → OwesNoGroups (Some message) → spoken (canonical message) ≡ Other
owed_other phase message may none = body_other phase message.subtype message.sid message.body may none

-- EACH MESSAGE that a handshake takes or puts keeps that
declined_groups : (s : Subtype) (b : MsgBody) → HasForm b → is_declined s b ≡ true → NoGroups b
declined_groups s b form is = grind (arith, false_true)

abbrev Owes : Handshake → Type 0
Owes h = OwesNoGroups h.owed

row_owes : (h t : Handshake) (message : Message) (opens : Bool) → IsWellFormed message → Owes h → RowTaken h message t opens → Owes t
row_owes h t message opens form owes given = grind (arith, declined_groups)

begun_owes : (role : Role) (h : Handshake) → Owes (begun role (joined_handshake h))
begun_owes role h = grind arith

took_owes : (role : Role) (c t : EndCore) (turns : List Utterance) (packet : List ℕ) (opens : Bool) (now : LinkState) → Owes c.handshake → TookWhat role c turns packet opens t now → Owes t.handshake
took_owes role c t turns packet opens now owes (NoMessage up heard same shut is_open) = subst Owes (sym same) owes
took_owes role c t turns packet opens now owes (Rises r down up heard same shut is_open) = subst Owes (sym same) (begun_owes c.handshake.role c.handshake)
took_owes role c t turns packet opens now owes (TookOwn message took own same shut is_open) = subst Owes (sym same) owes
took_owes role c t turns packet opens now owes (TookHandshake message took handshake is_open) = row_owes c.handshake t.handshake message opens took.form owes handshake.row

put_owes : (role : Role) (held t : EndCore) (turns : List Utterance) (packet : List ℕ) (opens : Bool) → Owes held.handshake → PutWhat role held turns packet opens t → Owes t.handshake
put_owes role held t turns packet opens owes given = grind (arith, begun_owes, row_sent)

pub record EndOwes (role : Role) (c : EndCore) (turns : List Utterance) : Type 0 where
  pub stands : EndStands role c turns
  pub owes : OwesNoGroups c.handshake.owed

says_owes : (role : Role) (c t : EndCore) (turns : List Utterance) (packet : List ℕ) (opens : Bool) → EndOwes role c turns → EndSays role c packet opens t → Owes t.handshake
says_owes role c t turns packet opens end says =
    put_owes role says.held t turns packet opens (subst Owes (sym (held_handshake c says.held says.what says.holds)) end.owes)
    (end_put role c t turns packet opens says (held_stands role c says.held turns says.what end.stands says.holds))

move_owes : (role : Role) (c : EndCore) (move : EndMove) (t : EndCore) (turns : List Utterance) → EndOwes role c turns → EndStep role c move t → Owes t.handshake
move_owes role c Begins t turns end step = subst Owes (sym step.handshake) tt
move_owes Initiator c Renews t turns end step = subst Owes (sym step.handshake) tt
move_owes Responder c Renews t turns end step = subst Owes (sym step.handshake) tt
move_owes role c (Fails cause packet) t turns end step = subst Owes (sym step.1.handshake) tt
move_owes role c (Hears packet opens) t turns end step =
    let took = end_took role c t turns packet opens end.stands step in took_owes role c t turns packet opens took.now end.owes took.what
move_owes role c (SaysPacket packet opens) t turns end step = says_owes role c t turns packet opens end step
move_owes role c Waits t turns end step = subst Owes (sym (held_handshake c t step.what step.holds)) end.owes
move_owes role c Stays t turns end step = subst Owes (sym step.handshake) end.owes

-- along every run
pub owes_run : (entries : ℕ) (asks answers : Offer) (events : List CoreEvent) (s : LaneCore) → CoreFits entries asks answers → Run CoreStep (fresh_core entries asks answers) events s
    → EndsAll EndOwes s (transcript_behind events)
owes_run entries asks answers events s fits run =
    ends_run EndOwes (λ role c move t turns end step. record { stands = stands_step role c move t turns end.stands step; owes = move_owes role c move t turns end step }) entries asks answers events s
    (record { stands = fresh_end_stands Initiator asks fits.asks_fit.form.most; owes = tt }) (record { stands = fresh_end_stands Responder answers fits.answers_fit.form.most; owes = tt }) run
