-- How many packets an end has still to put doesn't grow by what it takes, where nobody forged and each ring has at most five cookies.
use Rattle.std.proofs.Common.{◌≡◌, ℕ, ◌+◌, ◌≤◌, Bool, true, false, Some, List, [], ◌∷◌, ◌++◌, length, refl, sym, ap, ◌∙◌, subst, inl, inr, arith}
use Rattle.std.specs.Prelude.{slice_get}
use Rattle.std.proofs.lemmas.List.{length-take}
use Rattle.runs.specs.Lawful.{log_of}
use Rattle.runs.specs.Run.{Run}
use Rattle.ldc_link.specs.declared.phase.LinkPhase.{LinkPhase}
use Rattle.ldc_link.specs.declared.phase.LinkPhase.TheVariants as phase
use Rattle.ldc_link.specs.declared.phase.Role.{Role}
use Rattle.ldc_link.specs.declared.phase.Role.TheVariants.{Initiator, Responder}
use Rattle.ldc_link.specs.LinkState.{LinkState, first_phase, is_established, is_up}
use Rattle.ldc_queue.specs.declared.end.ChannelState.{ChannelState}
use Rattle.ldc_queue.specs.declared.end.ChannelState.TheVariants.{Up}
use Rattle.ldc_queue.specs.declared.end.End.{End}
use Rattle.ldc_queue.specs.declared.end.End.TheVariants.{A, B}
use Rattle.ldc_queue.specs.OneStream.{IsFront}
use Rattle.ldc_queue.specs.Transcript as turn
use Rattle.ldc_queue.specs.Transcript.{Utterance}
use Rattle.map_table.proofs.Putting.{length-cookies_bytes}
use Rattle.map_table.specs.declared.cookie.Cookie.{Cookie}
use Rattle.vio_handshake.specs.declared.handshake.Handshake.{Handshake}
use Rattle.vio_handshake.specs.declared.handshake.Phase.TheVariants.{Open}
use Rattle.vio_handshake.specs.declared.session.Offer.{Offer}
use Rattle.vio_handshake.specs.Messages.{ack, info}
use Rattle.vio_handshake.specs.Offers.{Match}
use Rattle.vio_handshake.specs.Rules.{handshake_take}
use Rattle.vio_handshake.specs.State.{handshake_up}
use Rattle.vio_handshake.proofs.MessageWidths.{answered_long, said_long}
use Rattle.vio_handshake.specs.Attributes.{said_attributes}
use Rattle.vio_handshake.proofs.PlaceRows.{take_at}
use Rattle.vio_handshake.proofs.Places.{AllSaid, AttributesAnswered, AttributesSaid, Deal, IsPlace, PeerReadyAnswered, PeerReadySaid, PeerRingAnswered, PeerRingSaid, Place, ReadyAnswered, ReadySaid, RingAnswered, RingSaid, VersionAnswered, VersionSaid, handshake_at, message_at, minor_of, next, offer_at, owner, phase_at}
use Rattle.vio_tag.proofs.Canonical.{length_canonical}
use Rattle.vio_tag.specs.declared.message.Message.{Message}
use Rattle.vio_tag.specs.declared.message.MsgBody.TheVariants.{DringReg}
use Rattle.vio_tag.specs.Spelling.{canonical}
use Rattle.lane_models.specs.Sayings.{heard, said}
use Rattle.lane_models.specs.TranscriptLog.{TranscriptLog}
use Rattle.lane_models.specs.WireEvent.{Took}
use Rattle.lane_models.proofs.Apart.{none_is_some, not_turn, true_is_false}
use Rattle.lane_models.proofs.ConversingRuns.{HeardFrom, hears_next}
use Rattle.lane_models.proofs.CoreRuns.{Knows}
use Rattle.lane_models.proofs.EndCases.{EndTook, NoMessage, Rises, TookHandshake, TookMessage, TookOwn, TookWhat, end_took, taken_down}
use Rattle.lane_models.proofs.EndStanding.{SameSending, heard_sending, open_declines, up_empty}
use Rattle.lane_models.proofs.HandshakeCases.{HandshakeTook}
use Rattle.lane_models.proofs.HandshakePlaces.{AtPlace, IsOwn, Matches, deal, deal_fits, goes_alike, message_is, open_place, own_heard, owes_at, peer_said, place_bytes, who}
use Rattle.lane_models.proofs.HandshakesPlaced.{Meets, meets_keep, never_declined, peer_place}
use Rattle.lane_models.proofs.Lifting.{BothStand}
use Rattle.lane_models.proofs.LinkCases.{ControlHeard, ControlTaken, LinkHeard, PartHeard, ReadyHeard, established}
use Rattle.lane_models.proofs.PacketsLeft.{held_empty, up_left}
use Rattle.lane_models.proofs.Script.{not_last}
use Rattle.lane_models.proofs.Sessions.{meets_knows}
use Rattle.lane_models.specs.CoreLog.{after, nothing_yet}
use Rattle.lane_models.specs.EndCore.{EndCore, holds}
use Rattle.lane_models.specs.EndStep.{EndHears}
use Rattle.lane_models.specs.LaneCore.{CoreEvent, CoreFits, CoreStep, LaneCore, OnChannel, end_of, fresh_core}
use Rattle.lane_models.specs.LinkPlaces as link
use Rattle.lane_models.specs.LinkPlaces.{LinkPlace, live_phase}
use Rattle.lane_models.specs.PacketsLeft.{all_in, later, later_in, left_in, messages_in, packets_left, parts, parts_owed}
use Rattle.lane_models.specs.Sides.{Sides, other, sides_of, swapped, took}

-- THE MESSAGES of a handshake: the registration of a ring and its answer take two packets at most, each other one
ring_parts : (sid ident slots slot_size options count : ℕ) (cookies : List Cookie) → count ≤ 5
    → (parts (length (canonical (info sid (DringReg ident slots slot_size options count cookies)))) ≤ 2)
    × (parts (length (canonical (ack sid (DringReg ident slots slot_size options count cookies)))) ≤ 2)
ring_parts sid ident slots slot_size options count cookies few = grind (arith, length_canonical, length-cookies_bytes, length-take)

record FewCookies (d : Deal) : Type 0 where
  asks : d.asks.count ≤ 5
  answers : d.answers.count ≤ 5

abbrev most_at : Place → ℕ
most_at RingSaid = 2
most_at RingAnswered = 2
most_at PeerRingSaid = 2
most_at PeerRingAnswered = 2
most_at _ = 1

parts_at : (d : Deal) (n : Place) → FewCookies d → parts (length (canonical (message_at d n))) ≤ most_at n
parts_at d AttributesSaid few = omega (arith, length_canonical (message_at d AttributesSaid), said_long d.asks.both_rings d.asks (minor_of d) refl)
parts_at d AttributesAnswered few =
    omega (arith, length_canonical (message_at d AttributesAnswered), answered_long d.answers.both_rings d.answers (minor_of d) (said_attributes d.asks (minor_of d)) refl)
parts_at d RingSaid few = (ring_parts d.sid 0 d.asks.slots d.asks.slot_size 1 d.asks.count d.asks.cookies few.asks).0
parts_at d RingAnswered few = (ring_parts d.sid d.sid d.asks.slots d.asks.slot_size 1 d.asks.count d.asks.cookies few.asks).1
parts_at d PeerRingSaid few = (ring_parts d.sid 0 d.answers.slots d.answers.slot_size 1 d.answers.count d.answers.cookies few.answers).0
parts_at d PeerRingAnswered few = (ring_parts d.sid d.sid d.answers.slots d.answers.slot_size 1 d.answers.count d.answers.cookies few.answers).1
parts_at d n few = omega (arith, length_canonical (message_at d n))

-- FROM ONE PLACE TO THE NEXT, which the other end's message leads to
abbrev place_left : Bool → Deal → Role → Place → ℕ
place_left both d role n = later both role (phase_at both role n) + parts_owed (handshake_at both d role n).owed

next_fewer : (both : Bool) (d : Deal) (role : Role) (n : Place) → FewCookies d → IsPlace both n → owner n ≡ Some (other role)
    → place_left both d role (next both n) ≤ later both role (phase_at both role n)
next_fewer true d Initiator VersionAnswered few here turn = omega (arith, parts_at d AttributesSaid few)
next_fewer false d Initiator VersionAnswered few here turn = omega (arith, parts_at d AttributesSaid few)
next_fewer true d Initiator AttributesAnswered few here turn = omega (arith, parts_at d RingSaid few)
next_fewer false d Initiator AttributesAnswered few here turn = omega (arith, parts_at d RingSaid few)
next_fewer true d Initiator RingAnswered few here turn = omega arith
next_fewer false d Initiator RingAnswered few here turn = omega (arith, parts_at d ReadySaid few)
next_fewer true d Initiator PeerRingSaid few here turn = omega (arith, parts_at d PeerRingAnswered few)
next_fewer false d Initiator PeerRingSaid few here turn = absurd here
next_fewer true d Initiator ReadyAnswered few here turn = omega arith
next_fewer false d Initiator ReadyAnswered few here turn = omega arith
next_fewer true d Initiator PeerReadySaid few here turn = omega (arith, parts_at d PeerReadyAnswered few)
next_fewer false d Initiator PeerReadySaid few here turn = omega (arith, parts_at d PeerReadyAnswered few)
next_fewer true d Responder VersionSaid few here turn = omega (arith, parts_at d VersionAnswered few)
next_fewer false d Responder VersionSaid few here turn = omega (arith, parts_at d VersionAnswered few)
next_fewer true d Responder AttributesSaid few here turn = omega (arith, parts_at d AttributesAnswered few)
next_fewer false d Responder AttributesSaid few here turn = omega (arith, parts_at d AttributesAnswered few)
next_fewer true d Responder RingSaid few here turn = omega (arith, parts_at d RingAnswered few)
next_fewer false d Responder RingSaid few here turn = omega (arith, parts_at d RingAnswered few)
next_fewer true d Responder PeerRingAnswered few here turn = omega arith
next_fewer false d Responder PeerRingAnswered few here turn = absurd here
next_fewer true d Responder ReadySaid few here turn = omega (arith, parts_at d ReadyAnswered few)
next_fewer false d Responder ReadySaid few here turn = omega (arith, parts_at d ReadyAnswered few)
next_fewer true d Responder PeerReadyAnswered few here turn = omega arith
next_fewer false d Responder PeerReadyAnswered few here turn = omega arith
next_fewer both d role n few here turn = not_turn turn refl

-- with the rings that its own offer says
place_fewer : (both : Bool) (d : Deal) (role : Role) (n : Place) → FewCookies d → (offer_at d role).both_rings ≡ both → IsPlace both n → owner n ≡ Some (other role)
    → later_in (handshake_at both d role (next both n)) + parts_owed (handshake_at both d role (next both n)).owed ≤ later_in (handshake_at both d role n)
place_fewer both d role n few rings here turn = grind (arith, next_fewer)

-- THE LINK
-- no link refuses a version
abbrev refuses : LinkPhase → Bool
refuses (phase.OwesVersNack major) = true
refuses _ = false

never_refuses : (role : Role) (place : LinkPlace) → refuses (link.phase_at role place) ≡ false
never_refuses role place = grind arith

control_taken : (before next : LinkPhase) (bytes : List ℕ) (all n m : ℕ) → ControlTaken before bytes next → refuses next ≡ false → left_in next all n ≤ left_in before all m
control_taken before next bytes all n m taken fine = grind arith

-- BOTH UP
up_fewer : (c t : EndCore) → c.link.phase ≡ phase.Established → t.link.phase ≡ phase.Established → messages_in t ≤ messages_in c → packets_left t ≤ packets_left c
up_fewer c t was now less = grind arith

same_fewer : (c t : EndCore) → c.link.phase ≡ phase.Established → t.link.phase ≡ phase.Established → t.link.to_send ≡ c.link.to_send → t.handshake ≡ c.handshake
    → (holds c.link ≡ true → holds t.link ≡ true → t.own ≡ c.own) → packets_left t ≤ packets_left c
same_fewer c t was now left handshake own = grind arith

-- sums over what is left, of numbers alone
turn_sums : (now held was held_was next owed parts at : ℕ) → next + owed ≤ at → held ≡ parts → now ≡ next → parts ≡ owed → was ≡ at → now + held ≤ was + held_was
turn_sums now held was held_was next owed parts at less same goes owes there = omega arith

rising_sums : (now was all later held owed up up_owed : ℕ) → up + up_owed ≤ all → was ≡ all → now ≡ later + held → held ≡ owed → owed ≡ up_owed → later ≡ up → now ≤ was
rising_sums now was all later held owed up up_owed less at is same owes goes = omega arith

-- AN END THAT TAKES a packet
pub took_packets : (asks answers : Offer) (role : Role) (s : Sides) (t : EndCore) (packet : List ℕ) (opens : Bool) → Matches asks answers → asks.count ≤ 5 → answers.count ≤ 5
    → BothStand role s → s.mine.state ≡ Up → slice_get s.mine.waiting 0 ≡ Some packet → EndHears role s.mine.core packet opens t → Meets asks answers role s
    → packets_left t ≤ packets_left s.mine.core
took_packets asks answers role s t packet opens fits few_asks few_answers stands up first hears meets = by_what took_so.what
  where
    both : Bool
    both = asks.both_rings

    c : EndCore
    c = s.mine.core

    d : Deal
    d = deal asks answers meets.handshakes.sid

    now : List Utterance
    now = turn.Heard packet ∷ s.mine.utterances

    took_so : EndTook role c s.mine.utterances packet opens t
    took_so = end_took role c t s.mine.utterances packet opens stands.mine hears

    sends : SameSending c.link took_so.now
    sends = heard_sending c.link took_so.now packet took_so.how

    left : t.link.to_send ≡ c.link.to_send
    left = ap (λ (k : LinkState). k.to_send) took_so.link ∙ sends.left

    now_phase : t.link.phase ≡ took_so.now.phase
    now_phase = ap (λ (k : LinkState). k.phase) took_so.link

    meets_now : Meets asks answers role (took packet t s)
    meets_now = (meets_keep asks answers fits).takes role s t packet opens stands up first hears meets

    placed : t.link.phase ≡ link.phase_at role meets_now.links.place
    placed = subst (λ (x : ChannelState). live_phase x (first_phase role) t.link.phase ≡ link.phase_at role meets_now.links.place) up meets_now.links.mine

    fine : refuses took_so.now.phase ≡ false
    fine = ap refuses (sym now_phase ∙ placed) ∙ never_refuses role meets_now.links.place

    up_so : is_up c.link ≡ true → is_up took_so.now ≡ true → t.handshake ≡ c.handshake → packets_left t ≤ packets_left c
    up_so was stays handshake = same_fewer c t (established c.link.phase was) (now_phase ∙ established took_so.now.phase stays) left handshake hears.own

    by_how : is_up took_so.now ≡ is_up c.link → t.handshake ≡ c.handshake → LinkHeard c.link packet took_so.now → packets_left t ≤ packets_left c
    by_how same handshake (ControlHeard next taken is) =
        let next_is : took_so.now.phase ≡ next = ap (λ (k : LinkState). k.phase) is in
        let less = control_taken c.link.phase next packet (all_in c.handshake) (messages_in t) (messages_in c) taken (sym (ap refuses next_is) ∙ fine) in
        subst (λ (n : ℕ). n ≤ packets_left c)
        (sym (ap (λ (p : LinkPhase). left_in p (all_in t.handshake) (messages_in t)) (now_phase ∙ next_is) ∙ ap (λ (h : Handshake). left_in next (all_in h) (messages_in t)) handshake)) less
    by_how same handshake (ReadyHeard at ready number is) =
        true_is_false (sym (ap is_up is) ∙ same ∙ ap is_established at)
    by_how same handshake (PartHeard at part may number is) = up_so (ap is_established at) (same ∙ ap is_established at) handshake

    from : HeardFrom s now
    from = hears_next role s packet took_so.now meets.converse up first stands.mine.link.follows took_so.takes

    peer : (bytes : List ℕ) → heard now ≡ heard s.mine.utterances ++ bytes ∷ [] → AtPlace both d (other role) s.theirs.core.handshake s.theirs.utterances
    peer bytes grows = peer_place asks answers role s now s.mine.utterances bytes stands.theirs meets.handshakes from grows

    rings : (r : Role) → (offer_at d r).both_rings ≡ both
    rings Initiator = refl
    rings Responder = fits.matched.kind

    shut : (there : AtPlace both d role c.handshake s.mine.utterances) → owner there.place ≡ Some (other role) → (b : Bool) → c.is_open ≡ b → c.is_open ≡ false
    shut there is true opened = absurd (not_last (other role) there.place is (open_place both d role c s.mine.utterances stands.mine there opened))
    shut there is false closed = closed

    in_turn : (message : Message) → (took_message : TookMessage c s.mine.utterances packet took_so.now message) → HandshakeTook c.handshake message t.handshake opens
        → (there : AtPlace both d role c.handshake s.mine.utterances) → owner there.place ≡ Some (other role) → packets_left t ≤ packets_left c
    in_turn message took_message handshake there is =
        let bytes_are = place_bytes asks answers meets.handshakes.sid role c.handshake s.mine.utterances now took_message.bytes (said s.theirs.utterances) there is
        (peer_said both d (other role) s.theirs.core.handshake s.theirs.utterances (peer took_message.bytes took_message.messages)) from.front took_message.messages in
        let named = message_is asks answers meets.handshakes.sid there.place message took_message.bytes fits meets.handshakes.small bytes_are took_message.form took_message.spells in
        let goes : t.handshake ≡ handshake_at both d role (next both there.place) =
        goes_alike t.handshake (handshake_at both d role (next both there.place)) (handshake_take c.handshake message) (handshake_take (handshake_at both d role there.place) (message_at d there.place))
        (ap (λ (h : Handshake). handshake_take h message) there.is ∙ ap (handshake_take (handshake_at both d role there.place)) named) handshake.takes
        (take_at both d role there.place (deal_fits asks answers meets.handshakes.sid fits.matched) there.here is) in
        let empty : c.link.to_send ≡ [] = up_empty c.link took_message.up (hears.may.quiet (shut there is c.is_open refl)) in
        up_fewer c t (established c.link.phase took_message.up) (now_phase ∙ established took_so.now.phase took_message.stays)
        (turn_sums _ _ _ _ _ _ _ _ (place_fewer both d role there.place (record { asks = few_asks; answers = few_answers }) (rings role) there.here is)
        (held_empty t.own t.link.to_send t.handshake.owed (left ∙ empty)) (ap (λ (h : Handshake). later_in h) goes) (ap (λ (h : Handshake). parts_owed h.owed) goes)
        (ap (λ (h : Handshake). later_in h) there.is))

    open_there : (r : Role) (n : Place) → n ≡ AllSaid → (handshake_at both d r n).phase ≡ Open
    open_there Initiator n is = ap (λ (m : Place). (handshake_at both d Initiator m).phase) is
    open_there Responder n is = ap (λ (m : Place). (handshake_at both d Responder m).phase) is

    -- at the last place it is a message of the session, which no handshake takes
    at_last : (message : Message) → (took_message : TookMessage c s.mine.utterances packet took_so.now message) → HandshakeTook c.handshake message t.handshake opens
        → (there : AtPlace both d role c.handshake s.mine.utterances) → there.place ≡ AllSaid → packets_left t ≤ packets_left c
    at_last message took_message handshake there last =
        let own : IsOwn d took_message.bytes =
        own_heard both d role c.handshake s.theirs.core.handshake s.mine.utterances s.theirs.utterances took_message.bytes there last (peer took_message.bytes took_message.messages)
        (subst (λ (xs : List (List ℕ)). IsFront xs (said s.theirs.utterances)) took_message.messages from.front) in
        let opened : c.handshake.phase ≡ Open = ap (λ (h : Handshake). h.phase) there.is ∙ open_there role there.place last in
        absurd (never_declined own.message message took_message.bytes own.body own.is took_message.form took_message.spells
        (open_declines c.handshake t.handshake message opens opened handshake.row).2)

    by_turn : (message : Message) → (took_message : TookMessage c s.mine.utterances packet took_so.now message) → HandshakeTook c.handshake message t.handshake opens
        → AtPlace both d role c.handshake s.mine.utterances → packets_left t ≤ packets_left c
    by_turn message took_message handshake there =
        elim (who role there.place) [
          | inl own ↦ (
              none_is_some (sym hears.may.owed ∙ ap (λ (h : Handshake). h.owed) there.is ∙ owes_at both d role there.place own))
          | inr (inl is) ↦ in_turn message took_message handshake there is
          | inr (inr last) ↦ at_last message took_message handshake there last
        ]

    rising : is_up c.link ≡ false → t.handshake ≡ handshake_up c.handshake → is_up took_so.now ≡ true → LinkHeard c.link packet took_so.now → packets_left t ≤ packets_left c
    rising down handshake now_up (ControlHeard next taken is) =
        true_is_false (sym now_up ∙ ap is_up is ∙ (taken_down c.link.phase packet next taken).1)
    rising down handshake now_up (PartHeard at part may number is) = true_is_false (sym (ap is_established at) ∙ down)
    rising down handshake now_up (ReadyHeard at ready number is) =
        let below = stands.mine.below down in
        rising_sums _ _ _ _ _ _ _ _ (up_left c.handshake) (ap (λ (p : LinkPhase). left_in p (all_in c.handshake) (messages_in c)) at)
        (ap (λ (p : LinkPhase). left_in p (all_in t.handshake) (messages_in t)) (now_phase ∙ established took_so.now.phase now_up))
        (held_empty t.own t.link.to_send t.handshake.owed (left ∙ below.left)) (ap (λ (h : Handshake). parts_owed h.owed) handshake) (ap later_in handshake)

    by_what : TookWhat role c s.mine.utterances packet opens t took_so.now → packets_left t ≤ packets_left c
    by_what (NoMessage same quiet handshake not is_open) = by_how same handshake took_so.how
    by_what (Rises role_is down now_up quiet handshake not is_open) = rising down handshake now_up took_so.how
    by_what (TookOwn message took_message own handshake not is_open) = up_so took_message.up took_message.stays handshake
    by_what (TookHandshake message took_message handshake is_open) = by_turn message took_message handshake (meets.handshakes.mine up took_message.up)

-- ALONG EVERY RUN
pub unforged_took : (entries : ℕ) (asks answers : Offer) (events : List CoreEvent) (s : LaneCore) (e : End) (packet : List ℕ) (opens : Bool) (t : LaneCore) → CoreFits entries asks answers
    → Match asks answers → asks.count ≤ 5 → answers.count ≤ 5 → Run CoreStep (fresh_core entries asks answers) events s → s.wire.forged ≡ false
    → CoreStep s (OnChannel (Took e packet opens)) t → packets_left (end_of e t) ≤ packets_left (end_of e s)
unforged_took entries asks answers events s e packet opens t fits matched few_asks few_answers run clean step = by_end e step
  where
    l_transcript : TranscriptLog
    l_transcript = (log_of after (nothing_yet entries) events).transcript

    knows : Knows (Meets asks answers) s (log_of after (nothing_yet entries) events)
    knows = meets_knows entries asks answers events s fits matched run

    matches : Matches asks answers
    matches = record { asks_fit = fits.asks_fit; answers_fit = fits.answers_fit; matched = matched }

    by_end : (x : End) → CoreStep s (OnChannel (Took x packet opens)) t → packets_left (end_of x t) ≤ packets_left (end_of x s)
    by_end A moves =
        took_packets asks answers Initiator (sides_of s l_transcript) t.a packet opens matches few_asks few_answers (record { mine = knows.holds.ends.a; theirs = knows.holds.ends.b })
        moves.stands.0 moves.stands.1 moves.a (knows.holds.holds clean)
    by_end B moves =
        took_packets asks answers Responder (swapped (sides_of s l_transcript)) t.b packet opens matches few_asks few_answers (record { mine = knows.holds.ends.b; theirs = knows.holds.ends.a })
        moves.stands.0 moves.stands.1 moves.b ((meets_keep asks answers matches).swaps Initiator (sides_of s l_transcript) (knows.holds.holds clean))
