-- Each act of an end keeps both handshakes at places of one deal, where nobody forged and the offers match.
use Rattle.std.proofs.Common.{◌≡◌, ℕ, ◌^◌, ◌<◌, ◌≤◌, Bool, true, false, Some, List, [], ◌∷◌, ◌++◌, refl, sym, ap, ◌∙◌, subst, arith, ◌⊎◌, inl, inr}
use Rattle.std.specs.Prelude.{slice_get}
use Rattle.std.proofs.lemmas.List.{append-nil}
use Rattle.ldc_link.specs.declared.phase.LinkPhase.{LinkPhase}
use Rattle.ldc_link.specs.declared.phase.LinkPhase.TheVariants as phase
use Rattle.ldc_link.specs.declared.phase.Role.{Role}
use Rattle.ldc_link.specs.declared.phase.Role.TheVariants.{Initiator, Responder}
use Rattle.ldc_link.specs.LinkState.{LinkState, first_phase, is_established, is_up}
use Rattle.ldc_queue.specs.declared.end.ChannelState.{ChannelState}
use Rattle.ldc_queue.specs.declared.end.ChannelState.TheVariants.{Up}
use Rattle.ldc_queue.specs.OneStream.{IsFront}
use Rattle.ldc_queue.specs.Transcript.{Heard, Said, Utterance}
use Rattle.vio_tag.specs.declared.message.Message.{Message}
use Rattle.vio_tag.specs.declared.message.MsgBody.{MsgBody}
use Rattle.vio_tag.specs.Form.{HasForm}
use Rattle.vio_tag.specs.Spelling.{SpellsMessage, canonical, envelope_at, envelope_code}
use Rattle.vio_handshake.specs.declared.handshake.Handshake.{Handshake}
use Rattle.vio_handshake.specs.declared.handshake.Phase.TheVariants.{Open}
use Rattle.vio_handshake.specs.declared.session.Offer.{Offer}
use Rattle.vio_handshake.specs.Rules.{is_declined, handshake_sent}
use Rattle.vio_handshake.specs.State.{begun, joined_handshake, next_sid, handshake_up}
use Rattle.vio_handshake.proofs.Places.{AllSaid, Deal, IsPlace, Place, VersionSaid, last_at, handshake_at}
use Rattle.lane_models.specs.Sayings.{half_said, heard, said}
use Rattle.lane_models.specs.TranscriptLog.{nothing_said}
use Rattle.lane_models.proofs.Apart.{false_is_true, none_is_some, roles_differ, true_is_false}
use Rattle.lane_models.proofs.Conversations.{held_phase}
use Rattle.lane_models.proofs.ConversingRuns.{HeardFrom, converse_keeps, hears_next}
use Rattle.lane_models.proofs.EndCases.{EndTook, NoMessage, PutControl, PutMore, PutOwn, PutReady, PutHandshake, PutWhat, Rises, TookOwn, TookHandshake, TookWhat, end_put, end_took, put_down}
use Rattle.lane_models.proofs.EndResting.{held_handshake}
use Rattle.lane_models.proofs.EndStanding.{held_stands, holds_some, open_declines, open_up, opened_phase}
use Rattle.lane_models.proofs.HandshakePlaces.{AtPlace, HandshakesAt, IsOwn, Matches, begun_at, deal, hears_at, hears_own_at, offer_in, open_at, open_place, owes_at, own_heard, peer_said, same_at, says_at, says_own_at, who}
use Rattle.lane_models.proofs.Lifting.{ActsKeep, BothStand}
use Rattle.lane_models.proofs.LinkPlaced.{first_links, links_keep, ready_at}
use Rattle.lane_models.proofs.UtteranceCases.{SaysLast}
use Rattle.lane_models.specs.Conversing.{Converse}
use Rattle.lane_models.specs.Cuts.{CarriesEither, CarriesOwed, CarriesOwn}
use Rattle.lane_models.specs.EndCore.{EndCore}
use Rattle.lane_models.specs.EndStep.{EndAnew, EndHears, EndSays, Holding, Holds, IsOfSession}
use Rattle.lane_models.specs.LaneCore.{fresh_core}
use Rattle.lane_models.specs.LinkPlaces.{LinksAt, ModeAgreed, live_phase, phase_at}
use Rattle.lane_models.specs.Sides.{Sides, anew, goes_on, other, put, shut, sides_of, swapped, took}
use Rattle.lane_models.specs.Standing.{EndStands, IsBelow}

-- ALL THAT TWO ENDS KEEP where nobody forged
pub record Meets (asks answers : Offer) (role : Role) (s : Sides) : Type 0 where
  pub converse : Converse role s
  pub links : LinksAt role s
  pub handshakes : HandshakesAt asks answers role s

-- FROM THE OTHER SIDE
swap_handshakes : (asks answers : Offer) (role : Role) (s : Sides) → HandshakesAt asks answers role s → HandshakesAt asks answers (other role) (swapped s)
swap_handshakes asks answers Initiator s at = record {
  sid = at.sid;
  small = at.small;
  offer_mine = at.offer_theirs;
  offer_theirs = at.offer_mine;
  last_mine = at.last_theirs;
  last_theirs = at.last_mine;
  mine = at.theirs;
  theirs = at.mine;
}
swap_handshakes asks answers Responder s at = record {
  sid = at.sid;
  small = at.small;
  offer_mine = at.offer_theirs;
  offer_theirs = at.offer_mine;
  last_mine = at.last_theirs;
  last_theirs = at.last_mine;
  mine = at.theirs;
  theirs = at.mine;
}

-- IT GOES ON with the same handshake
goes_handshakes : (asks answers : Offer) (role : Role) (s : Sides) (t : EndCore) → t.link.phase ≡ s.mine.core.link.phase → t.handshake ≡ s.mine.core.handshake
    → t.offer ≡ s.mine.core.offer → HandshakesAt asks answers role s → HandshakesAt asks answers role (goes_on t s)
goes_handshakes asks answers role s t link handshake offer at = record {
  sid = at.sid;
  small = at.small;
  offer_mine = offer ∙ at.offer_mine;
  offer_theirs = at.offer_theirs;
  last_mine = λ is. ap (λ (h : Handshake). h.last_sid) handshake ∙ at.last_mine is;
  last_theirs = at.last_theirs;
  mine = λ up now.
      same_at asks.both_rings (deal asks answers at.sid) role s.mine.core.handshake t.handshake s.mine.utterances s.mine.utterances (at.mine up (sym (ap is_established link) ∙ now)) handshake refl refl;
  theirs = at.theirs;
}

pub held_offer : (c held : EndCore) (what : Holding) → Holds c what held → held.offer ≡ c.offer
held_offer c held what is = grind arith

-- IT BEGINS, or is closed
anew_handshakes : (asks answers : Offer) (role : Role) (s : Sides) (t : EndCore) → EndAnew role s.mine.core t → HandshakesAt asks answers role s → HandshakesAt asks answers role (anew t s)
anew_handshakes asks answers role s t begins at = grind arith

shut_handshakes : (asks answers : Offer) (role : Role) (s : Sides) (t : EndCore) → EndAnew role s.mine.core t → HandshakesAt asks answers role s → HandshakesAt asks answers role (shut t s)
shut_handshakes asks answers role s t begins at = grind arith

-- an end at a place: its own offer and count of sids
placed : (asks answers : Offer) (sid : ℕ) (role : Role) (s : Sides) (t : EndCore) (turns : List Utterance) → HandshakesAt asks answers role s → t.offer ≡ s.mine.core.offer
    → (at_sid : sid < 2 ^ 32)
    → (role ≡ Responder → t.handshake.last_sid ≡ 0)
    → (is_up t.link ≡ true → AtPlace asks.both_rings (deal asks answers sid) role t.handshake turns)
    → (s.theirs.state ≡ Up → is_up s.theirs.core.link ≡ true → AtPlace asks.both_rings (deal asks answers sid) (other role) s.theirs.core.handshake s.theirs.utterances)
    → (waiting peer_waiting : List (List ℕ))
    → HandshakesAt asks answers role (record s { mine = record s.mine { waiting = waiting; core = t; utterances = turns }; theirs = record s.theirs { waiting = peer_waiting } })
placed asks answers sid role s t turns at offer small last mine theirs waiting peer_waiting = grind arith

-- at a place a responder's count of sids is none
place_last : (both : Bool) (asks answers : Offer) (sid : ℕ) (role : Role) (h : Handshake) (turns : List Utterance) → AtPlace both (deal asks answers sid) role h turns → role ≡ Responder
    → h.last_sid ≡ 0
place_last both asks answers sid role h turns at is = ap (λ (x : Handshake). x.last_sid) at.is ∙ ap (last_at (deal asks answers sid)) is

version_here : (both : Bool) → IsPlace both VersionSaid
version_here true = tt
version_here false = tt

same_last : (role : Role) (h g : Handshake) → g ≡ h → (role ≡ Responder → h.last_sid ≡ 0) → role ≡ Responder → g.last_sid ≡ 0
same_last role h g is last now = ap (λ (x : Handshake). x.last_sid) is ∙ last now

up_last : (role : Role) (h g : Handshake) → h.role ≡ role → g ≡ handshake_up h → (role ≡ Responder → h.last_sid ≡ 0) → role ≡ Responder → g.last_sid ≡ 0
up_last role h g role_is is last now =
    ap (λ (x : Handshake). x.last_sid) is ∙ ap (λ (r : Role). (begun r (joined_handshake h)).last_sid) (role_is ∙ now) ∙ last now

sid_small : (h : Handshake) → next_sid h < 2 ^ 32
sid_small h = omega arith

-- IT PUTS a packet
put_handshakes : (asks answers : Offer) (role : Role) (s : Sides) (t : EndCore) (packet : List ℕ) (opens : Bool) → Matches asks answers → EndStands role s.mine.core s.mine.utterances → s.mine.state ≡ Up
    → EndSays role s.mine.core packet opens t → LinksAt role s → HandshakesAt asks answers role s → HandshakesAt asks answers role (put packet t s)
put_handshakes asks answers role s t packet opens fits stands up says links at = by_what (end_put role s.mine.core t s.mine.utterances packet opens says held_stands_so)
  where
    both : Bool
    both = asks.both_rings

    held : EndCore
    held = says.held

    now : List Utterance
    now = Said packet ∷ s.mine.utterances

    held_stands_so : EndStands role held s.mine.utterances
    held_stands_so = held_stands role s.mine.core held s.mine.utterances says.what stands says.holds

    offer : t.offer ≡ s.mine.core.offer
    offer = says.offer ∙ held_offer s.mine.core held says.what says.holds

    same_handshake : held.handshake ≡ s.mine.core.handshake
    same_handshake = held_handshake s.mine.core held says.what says.holds

    last : role ≡ Responder → held.handshake.last_sid ≡ 0
    last is = ap (λ (h : Handshake). h.last_sid) same_handshake ∙ at.last_mine is

    phase_is : held.link.phase ≡ s.mine.core.link.phase
    phase_is = held_phase s.mine.core held says.what says.holds

    -- where its link was up
    was : held.link.phase ≡ phase.Established → AtPlace both (deal asks answers at.sid) role held.handshake s.mine.utterances
    was est =
        same_at both (deal asks answers at.sid) role s.mine.core.handshake held.handshake s.mine.utterances s.mine.utterances (at.mine up (ap is_established (sym phase_is ∙ est))) same_handshake refl refl

    goes : (role ≡ Responder → t.handshake.last_sid ≡ 0) → (is_up t.link ≡ true → AtPlace both (deal asks answers at.sid) role t.handshake now) → HandshakesAt asks answers role (put packet t s)
    goes last_now mine = placed asks answers at.sid role s t now at offer at.small last_now mine at.theirs s.mine.waiting (s.theirs.waiting ++ packet ∷ [])

    -- its link comes up: an initiator begins a session of a new sid, and the other's link isn't up yet
    their_phase : (x : ChannelState) (first ph : LinkPhase) → x ≡ Up → live_phase x first ph ≡ ph
    their_phase x first ph is = ap (λ (y : ChannelState). live_phase y first ph) is

    rises : role ≡ Initiator → held.link.phase ≡ phase.OwesRdx → t.handshake ≡ handshake_up held.handshake → said now ≡ said s.mine.utterances → HandshakesAt asks answers role (put packet t s)
    rises is owes handshake quiet =
        placed asks answers (next_sid held.handshake) role s t now at offer (sid_small held.handshake) (λ responds. roles_differ (sym is ∙ responds))
        (λ now_up. subst (λ (h : Handshake). AtPlace both (deal asks answers (next_sid held.handshake)) role h now) (sym handshake)
        (begun_at both (deal asks answers (next_sid held.handshake)) role held.handshake now held_stands_so.handshake.role_is own_offer
        (λ responds. roles_differ (sym is ∙ responds)) (λ i. refl) (version_here both) (quiet ∙ below.said_none) below.heard_none))
        (λ their_up their_now. absurd (below_there their_up their_now)) s.mine.waiting (s.theirs.waiting ++ packet ∷ [])
      where
        below : IsBelow held.link held.handshake s.mine.utterances
        below = held_stands_so.below (ap is_established owes)

        own_offer : held.handshake.offer ≡ (handshake_at both (deal asks answers (next_sid held.handshake)) role VersionSaid).offer
        own_offer = held_stands_so.handshake.offer_is ∙ held_offer s.mine.core held says.what says.holds ∙ at.offer_mine ∙ by_role role
          where
            by_role : (r : Role) → offer_in asks answers r ≡ (handshake_at both (deal asks answers (next_sid held.handshake)) r VersionSaid).offer
            by_role Initiator = refl
            by_role Responder = refl

        here : phase.OwesRdx ≡ phase_at role links.place
        here = sym owes ∙ phase_is ∙ sym (their_phase s.mine.state (first_phase role) s.mine.core.link.phase up) ∙ links.mine

        below_there : s.theirs.state ≡ Up → is_up s.theirs.core.link ≡ true → ⊥
        below_there their_up their_now =
            let place = ready_at role links.place here in
            let there : s.theirs.core.link.phase ≡ phase_at (other role) links.place =
            sym (their_phase s.theirs.state (first_phase (other role)) s.theirs.core.link.phase their_up) ∙ links.theirs in
            let awaits : s.theirs.core.link.phase ≡ phase.AwaitsRdx = there ∙ ap (phase_at (other role)) place.1 ∙ ap (λ (r : Role). phase_at (other r) ModeAgreed) place.0 in
            true_is_false (sym their_now ∙ ap is_established awaits)

    whole : SaysLast held.link s.mine.utterances packet → held.link.phase ≡ phase.Established → CarriesEither held.own held.handshake (half_said s.mine.utterances ++ held.link.to_send)
    whole last_part est = held_stands_so.carries (holds_some held.link (ap is_established est) last_part.some)

    carried_owed : (b : Bool) (bytes : List ℕ) → b ≡ false → CarriesEither b held.handshake bytes → CarriesOwed held.handshake.owed bytes
    carried_owed false bytes is carries = carries
    carried_owed true bytes is carries = true_is_false is

    carried_own : (b : Bool) (bytes : List ℕ) → b ≡ true → CarriesEither b held.handshake bytes → CarriesOwn held.handshake bytes
    carried_own true bytes is carries = carries
    carried_own false bytes is carries = false_is_true is

    handshakes : held.own ≡ false → (est : held.link.phase ≡ phase.Established) → (last_part : SaysLast held.link s.mine.utterances packet) → AtPlace both (deal asks answers at.sid) role (handshake_sent held.handshake) now
    handshakes not est last_part =
        let carries = carried_owed held.own (half_said s.mine.utterances ++ held.link.to_send) not (whole last_part est) in
        says_at both (deal asks answers at.sid) role held.handshake s.mine.utterances now (half_said s.mine.utterances ++ held.link.to_send) carries.message (was est) carries.owed carries.is last_part.messages refl

    owns : held.own ≡ true → (est : held.link.phase ≡ phase.Established) → (last_part : SaysLast held.link s.mine.utterances packet) → t.handshake ≡ held.handshake
        → AtPlace both (deal asks answers at.sid) role t.handshake now
    owns own est last_part handshake =
        let carries = carried_own held.own (half_said s.mine.utterances ++ held.link.to_send) own (whole last_part est) in
        let there = was est in
        let all_said : there.place ≡ AllSaid = open_at both role there.place (ap (λ (h : Handshake). h.phase) (sym there.is) ∙ carries.opened) in
        says_own_at both (deal asks answers at.sid) role held.handshake t.handshake s.mine.utterances now (half_said s.mine.utterances ++ held.link.to_send) there handshake all_said
        (record { message = carries.message; body = carries.body; sid = carries.sid ∙ ap (λ (h : Handshake). h.draft.sid) there.is ∙ sid_there there.place all_said; is = carries.is })
        last_part.messages refl
      where
        sid_there : (n : Place) → n ≡ AllSaid → (handshake_at both (deal asks answers at.sid) role n).draft.sid ≡ at.sid
        sid_there n is = ap (λ (m : Place). (handshake_at both (deal asks answers at.sid) role m).draft.sid) is ∙ by_role both role
          where
            by_role : (b : Bool) (r : Role) → (handshake_at b (deal asks answers at.sid) r AllSaid).draft.sid ≡ at.sid
            by_role true Initiator = refl
            by_role true Responder = refl
            by_role false Initiator = refl
            by_role false Responder = refl

    by_what : PutWhat role held s.mine.utterances packet opens t → HandshakesAt asks answers role (put packet t s)
    by_what (PutControl next gone link quiet handshake not is_open) =
        goes (same_last role held.handshake t.handshake handshake last)
        (λ now_up. true_is_false (sym now_up ∙ ap is_up link ∙ (put_down held.link.phase packet next gone).1))
    by_what (PutReady role_is owes spelled link quiet handshake not is_open) = rises role_is owes handshake quiet.messages
    by_what (PutMore est link more handshake not is_open) =
        goes (same_last role held.handshake t.handshake handshake last)
        (λ now_up. same_at both (deal asks answers at.sid) role held.handshake t.handshake s.mine.utterances now (was est) handshake more.messages refl)
    by_what (PutOwn own est link last_part handshake not is_open) =
        goes (same_last role held.handshake t.handshake handshake last) (λ now_up. owns own est last_part handshake)
    by_what (PutHandshake not est link last_part handshake flag is_open) =
        let mine = subst (λ (h : Handshake). AtPlace both (deal asks answers at.sid) role h now) (sym handshake) (handshakes not est last_part) in
        goes (place_last both asks answers at.sid role t.handshake now mine) (λ now_up. mine)

-- IT TAKES a packet: a message of the session isn't one that its handshake declines
pub envelope_reads : (m : Message) → IsOfSession m.body → envelope_at (canonical m) ≡ envelope_code m.body
unfolding canonical
envelope_reads m is = grind arith

pub own_code : (b : MsgBody) → IsOfSession b → (envelope_code b ≡ 0x0042) ⊎ (envelope_code b ≡ 0x0101)
own_code b of = grind arith

pub own_envelope : (d : Deal) (bytes : List ℕ) → IsOwn d bytes → 0x0042 ≤ envelope_at bytes
own_envelope d bytes own = grind (arith, envelope_reads)

pub never_declined : (m d : Message) (bytes : List ℕ) → IsOfSession m.body → bytes ≡ canonical m → HasForm d.body → SpellsMessage bytes d → is_declined d.subtype d.body ≡ true → ⊥
never_declined m d bytes of is form spells declined = grind (arith, envelope_reads)

none_after : (xs rest : List (List ℕ)) (bytes : List ℕ) → [] ≡ (xs ++ bytes ∷ []) ++ rest → ⊥
none_after [] rest bytes is = cc is
none_after (x ∷ xs) rest bytes is = cc is

pub up_or : (x : ChannelState) → (x ≡ Up) ⊎ (x ≡ Up → ⊥)
up_or x = grind arith

link_or : (b : Bool) → (b ≡ true) ⊎ (b ≡ false)
link_or true = inl refl
link_or false = inr refl

-- a message that it hears was said by the other, whose link is up
pub link_place : (asks answers : Offer) (role : Role) (s : Sides) (messages : List (List ℕ)) (bytes : List ℕ) → EndStands (other role) s.theirs.core s.theirs.utterances
    → (at : HandshakesAt asks answers role s) → s.theirs.state ≡ Up → IsFront (messages ++ bytes ∷ []) (said s.theirs.utterances)
    → AtPlace asks.both_rings (deal asks answers at.sid) (other role) s.theirs.core.handshake s.theirs.utterances
link_place asks answers role s messages bytes stands at up front =
    elim (link_or (is_up s.theirs.core.link)) [
      | inl now_up ↦ at.theirs up now_up
      | inr down ↦ absurd (none_after messages front.0 bytes (sym (stands.below down).said_none ∙ front.1))
    ]

pub peer_place : (asks answers : Offer) (role : Role) (s : Sides) (now before : List Utterance) (bytes : List ℕ) → EndStands (other role) s.theirs.core s.theirs.utterances
    → (at : HandshakesAt asks answers role s) → HeardFrom s now → heard now ≡ heard before ++ bytes ∷ []
    → AtPlace asks.both_rings (deal asks answers at.sid) (other role) s.theirs.core.handshake s.theirs.utterances
peer_place asks answers role s now before bytes stands at from grows =
    elim (up_or s.theirs.state) [
      | inl up ↦ link_place asks answers role s (heard before) bytes stands at up (subst (λ (xs : List (List ℕ)). IsFront xs (said s.theirs.utterances)) grows from.front)
      | inr not ↦ (
          let nothing : [] ≡ (heard before ++ bytes ∷ []) ++ [] = sym (from.none not) ∙ grows ∙ sym (append-nil (heard before ++ bytes ∷ [])) in
          absurd (none_after (heard before) [] bytes nothing))
    ]

-- and where its session is open it is one of the session
pub next_own : (asks answers : Offer) (role : Role) (s : Sides) (bytes : List ℕ) → BothStand role s → (at : HandshakesAt asks answers role s) → s.mine.state ≡ Up
    → s.mine.core.is_open ≡ true → s.theirs.state ≡ Up → IsFront (heard s.mine.utterances ++ bytes ∷ []) (said s.theirs.utterances) → IsOwn (deal asks answers at.sid) bytes
next_own asks answers role s bytes stands at up opened their_up front =
    let both = asks.both_rings in
    let d = deal asks answers at.sid in
    let here = at.mine up (open_up role s.mine.core s.mine.utterances stands.mine opened) in
    own_heard both d role s.mine.core.handshake s.theirs.core.handshake s.mine.utterances s.theirs.utterances bytes here (open_place both d role s.mine.core s.mine.utterances stands.mine here opened)
    (link_place asks answers role s (heard s.mine.utterances) bytes stands.theirs at their_up front) front

took_handshakes : (asks answers : Offer) (role : Role) (s : Sides) (t : EndCore) (packet : List ℕ) (opens : Bool) → Matches asks answers → BothStand role s → s.mine.state ≡ Up
    → slice_get s.mine.waiting 0 ≡ Some packet → EndHears role s.mine.core packet opens t → Converse role s → HandshakesAt asks answers role s → HandshakesAt asks answers role (took packet t s)
took_handshakes asks answers role s t packet opens fits stands up first hears converse at = by_what took_so.what
  where
    both : Bool
    both = asks.both_rings

    c : EndCore
    c = s.mine.core

    now : List Utterance
    now = Heard packet ∷ s.mine.utterances

    took_so : EndTook role c s.mine.utterances packet opens t
    took_so = end_took role c t s.mine.utterances packet opens stands.mine hears

    from : HeardFrom s now
    from = hears_next role s packet took_so.now converse up first stands.mine.link.follows took_so.takes

    front : IsFront (heard now) (said s.theirs.utterances)
    front = from.front

    goes : (role ≡ Responder → t.handshake.last_sid ≡ 0) → (is_up t.link ≡ true → AtPlace both (deal asks answers at.sid) role t.handshake now) → HandshakesAt asks answers role (took packet t s)
    goes last mine = placed asks answers at.sid role s t now at hears.offer at.small last mine at.theirs _ s.theirs.waiting

    peer : (bytes : List ℕ) → heard now ≡ heard s.mine.utterances ++ bytes ∷ [] → AtPlace both (deal asks answers at.sid) (other role) s.theirs.core.handshake s.theirs.utterances
    peer bytes grows = peer_place asks answers role s now s.mine.utterances bytes stands.theirs at from grows

    mine : is_up c.link ≡ true → AtPlace both (deal asks answers at.sid) role c.handshake s.mine.utterances
    mine was = at.mine up was

    rises : role ≡ Responder → is_up c.link ≡ false → heard now ≡ heard s.mine.utterances → t.handshake ≡ handshake_up c.handshake → AtPlace both (deal asks answers at.sid) role t.handshake now
    rises is down quiet handshake =
        let below = stands.mine.below down in
        subst (λ (h : Handshake). AtPlace both (deal asks answers at.sid) role h now) (sym handshake)
        (begun_at both (deal asks answers at.sid) role c.handshake now stands.mine.handshake.role_is (stands.mine.handshake.offer_is ∙ at.offer_mine ∙ by_role role) at.last_mine
        (λ asking. roles_differ (sym asking ∙ is)) (version_here both) below.said_none (quiet ∙ below.heard_none))
      where
        by_role : (r : Role) → offer_in asks answers r ≡ (handshake_at both (deal asks answers at.sid) r VersionSaid).offer
        by_role Initiator = refl
        by_role Responder = refl

    -- at the last place it is a message of the session
    last_own : (bytes : List ℕ) → (there : AtPlace both (deal asks answers at.sid) role c.handshake s.mine.utterances) → there.place ≡ AllSaid → heard now ≡ heard s.mine.utterances ++ bytes ∷ []
        → IsOwn (deal asks answers at.sid) bytes
    last_own bytes there last grows =
        own_heard both (deal asks answers at.sid) role c.handshake s.theirs.core.handshake s.mine.utterances s.theirs.utterances bytes there last (peer bytes grows)
        (subst (λ (xs : List (List ℕ)). IsFront xs (said s.theirs.utterances)) grows front)

    open_there : (n : Place) → n ≡ AllSaid → (handshake_at both (deal asks answers at.sid) role n).phase ≡ Open
    open_there n is = ap (λ (m : Place). (handshake_at both (deal asks answers at.sid) role m).phase) is ∙ by_role role
      where
        by_role : (r : Role) → (handshake_at both (deal asks answers at.sid) r AllSaid).phase ≡ Open
        by_role Initiator = refl
        by_role Responder = refl

    by_what : TookWhat role c s.mine.utterances packet opens t took_so.now → HandshakesAt asks answers role (took packet t s)
    by_what (NoMessage same quiet handshake not is_open) =
        goes (same_last role c.handshake t.handshake handshake at.last_mine)
        (λ now_up. same_at both (deal asks answers at.sid) role c.handshake t.handshake s.mine.utterances now
        (mine (sym same ∙ sym (ap is_up took_so.link) ∙ now_up)) handshake refl quiet)
    by_what (Rises role_is down now_up quiet handshake not is_open) =
        goes (up_last role c.handshake t.handshake stands.mine.handshake.role_is handshake at.last_mine) (λ up_now. rises role_is down quiet handshake)
    by_what (TookOwn message took_message own handshake not is_open) =
        let there = mine took_message.up in
        let is_open_now : c.handshake.phase ≡ Open = opened_phase c.handshake.phase (sym stands.mine.opened ∙ own.opened) in
        let last = open_at both role there.place (ap (λ (h : Handshake). h.phase) (sym there.is) ∙ is_open_now) in
        goes (same_last role c.handshake t.handshake handshake at.last_mine)
        (λ now_up. hears_own_at both (deal asks answers at.sid) role c.handshake t.handshake s.mine.utterances now took_message.bytes there handshake last
        (last_own took_message.bytes there last took_message.messages) took_message.messages refl)
    by_what (TookHandshake message took_message handshake is_open) =
        let now_at = by_turn (mine took_message.up) in
        goes (place_last both asks answers at.sid role t.handshake now now_at) (λ now_up. now_at)
      where
        by_turn : AtPlace both (deal asks answers at.sid) role c.handshake s.mine.utterances → AtPlace both (deal asks answers at.sid) role t.handshake now
        by_turn there =
            elim (who role there.place) [
              | inl own ↦ (
                  none_is_some (sym hears.may.owed ∙ ap (λ (h : Handshake). h.owed) there.is ∙ owes_at both (deal asks answers at.sid) role there.place own))
              | inr (inl turn) ↦
                  hears_at asks answers at.sid role c.handshake t.handshake s.mine.utterances now took_message.bytes message (said s.theirs.utterances) fits at.small there turn
                  (peer_said both (deal asks answers at.sid) (other role) s.theirs.core.handshake s.theirs.utterances (peer took_message.bytes took_message.messages)) front took_message.messages refl
                  took_message.form took_message.spells handshake.takes
              | inr (inr last) ↦ (
                  let own = last_own took_message.bytes there last took_message.messages in
                  let opened : c.handshake.phase ≡ Open = ap (λ (h : Handshake). h.phase) there.is ∙ open_there there.place last in
                  absurd (never_declined own.message message took_message.bytes own.body own.is took_message.form took_message.spells
                  (open_declines c.handshake t.handshake message opens opened handshake.row).2))
            ]

-- ALL ACTS
pub meets_keep : (asks answers : Offer) → Matches asks answers → ActsKeep (Meets asks answers)
meets_keep asks answers fits = record {
  swaps = λ role s m. record {
    converse = converse_keeps.swaps role s m.converse;
    links = links_keep.swaps role s m.links;
    handshakes = swap_handshakes asks answers role s m.handshakes;
  };
  stays = λ role s t both stays m. record {
    converse = converse_keeps.stays role s t both stays m.converse;
    links = links_keep.stays role s t both stays m.links;
    handshakes = goes_handshakes asks answers role s t (ap (λ (k : LinkState). k.phase) stays.link) stays.handshake stays.offer m.handshakes;
  };
  waits = λ role s t both waits m. record {
    converse = converse_keeps.waits role s t both waits m.converse;
    links = links_keep.waits role s t both waits m.links;
    handshakes = goes_handshakes asks answers role s t (held_phase s.mine.core t waits.what waits.holds) (held_handshake s.mine.core t waits.what waits.holds)
        (held_offer s.mine.core t waits.what waits.holds) m.handshakes;
  };
  begins = λ role s t both begins m. record {
    converse = converse_keeps.begins role s t both begins m.converse;
    links = links_keep.begins role s t both begins m.links;
    handshakes = anew_handshakes asks answers role s t begins m.handshakes;
  };
  closes = λ role s t both begins m. record {
    converse = converse_keeps.closes role s t both begins m.converse;
    links = links_keep.closes role s t both begins m.links;
    handshakes = shut_handshakes asks answers role s t begins m.handshakes;
  };
  takes = λ role s t packet opens both up first hears m.
      record {
        converse = converse_keeps.takes role s t packet opens both up first hears m.converse;
        links = links_keep.takes role s t packet opens both up first hears m.links;
        handshakes = took_handshakes asks answers role s t packet opens fits both up first hears m.converse m.handshakes;
      };
  puts = λ role s t packet opens both up room says m. record {
    converse = converse_keeps.puts role s t packet opens both up room says m.converse;
    links = links_keep.puts role s t packet opens both up room says m.links;
    handshakes = put_handshakes asks answers role s t packet opens fits both.mine up says m.links m.handshakes;
  };
  misses = λ role s packet both first m. record {
    converse = converse_keeps.misses role s packet both first m.converse;
    links = links_keep.misses role s packet both first m.links;
    handshakes = record {
      sid = m.handshakes.sid;
      small = m.handshakes.small;
      offer_mine = m.handshakes.offer_mine;
      offer_theirs = m.handshakes.offer_theirs;
      last_mine = m.handshakes.last_mine;
      last_theirs = m.handshakes.last_theirs;
      mine = m.handshakes.mine;
      theirs = m.handshakes.theirs;
    };
  };
}

pub first_meets : (entries : ℕ) (asks answers : Offer) → entries ≤ 256 → Meets asks answers Initiator (sides_of (fresh_core entries asks answers) nothing_said)
first_meets entries asks answers few = grind (arith, first_links)
