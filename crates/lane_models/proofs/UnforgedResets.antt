-- Where nobody forged and the offers match, an end resets itself for a gap behind a loss alone, or for a cause of its session.
use Rattle.std.proofs.Common.{◌≡◌, ℕ, Bool, true, false, Option, Some, None, Ok, Err, List, ◌∷◌, refl, sym, ap, ◌∙◌, subst, ◌⊎◌, inl, inr, arith}
use Rattle.std.specs.Prelude.{Result, slice_get}
use Rattle.runs.specs.Lawful.{log_of}
use Rattle.runs.specs.Run.{Run}
use Rattle.ldc_link.specs.declared.phase.Role.{Role}
use Rattle.ldc_link.specs.declared.phase.Role.TheVariants.{Initiator, Responder}
use Rattle.ldc_link.specs.LinkState.{LinkState, is_up}
use Rattle.ldc_link.specs.Taking.{Heard, LinkTake, TakesBytes, Unheard}
use Rattle.ldc_queue.specs.declared.end.ChannelState.TheVariants.{Up}
use Rattle.ldc_queue.specs.declared.end.End.{End}
use Rattle.ldc_queue.specs.declared.end.End.TheVariants.{A, B}
use Rattle.ldc_queue.specs.Transcript as turn
use Rattle.ldc_queue.specs.Wire.{waiting_for}
use Rattle.vio_handshake.specs.declared.handshake.Handshake.{Handshake}
use Rattle.vio_handshake.specs.declared.session.Offer.{Offer}
use Rattle.vio_handshake.specs.Offers.{Match}
use Rattle.vio_handshake.specs.Rules.{Faults, Goes, GoesOpen, HandshakeTake, handshake_take}
use Rattle.vio_handshake.proofs.PlaceRows.{GoesTo, take_at}
use Rattle.vio_handshake.proofs.Places.{message_at, next, owner, handshake_at}
use Rattle.vio_tag.proofs.NoFault.{spelled_no_fault}
use Rattle.vio_tag.specs.declared.cause.Cause.{Cause}
use Rattle.vio_tag.specs.declared.message.Message.{Message}
use Rattle.vio_tag.specs.declared.message.TagFault.{TagFault}
use Rattle.vio_tag.specs.Decoding.{Decodes}
use Rattle.lane_models.specs.Sayings.{said}
use Rattle.lane_models.specs.TranscriptLog.{TranscriptLog, transcript_of}
use Rattle.lane_models.specs.WireAt.{IsOwnReset, MayReset}
use Rattle.lane_models.specs.WireEvent.{ByStep, Giver, Reset, giver}
use Rattle.lane_models.proofs.Apart.{none_is_some, some_is_none}
use Rattle.lane_models.proofs.ConversingRuns.{HeardFrom, hears_next}
use Rattle.lane_models.proofs.CoreRuns.{Knows}
use Rattle.lane_models.proofs.EndCases.{stays_risen}
use Rattle.lane_models.proofs.HandshakePlaces.{AtPlace, Matches, deal, deal_fits, message_at_spelled, message_is, open_place, owes_at, peer_said, place_bytes, place_open, who}
use Rattle.lane_models.proofs.HandshakesPlaced.{Meets, meets_keep, peer_place}
use Rattle.lane_models.proofs.Lifting.{BothStand}
use Rattle.lane_models.proofs.LinkCases.{LinkHeard, link_heard}
use Rattle.lane_models.proofs.LinkRefuses.{link_refuses}
use Rattle.lane_models.proofs.PartsSaid.{PartsSaid, parts_run}
use Rattle.lane_models.proofs.Script.{bytes_at, not_last}
use Rattle.lane_models.proofs.Sessions.{meets_knows, transcript_is}
use Rattle.lane_models.proofs.UtteranceCases.{HearsOn, hears_on}
use Rattle.lane_models.specs.CoreLog.{after, nothing_yet}
use Rattle.lane_models.specs.EndCore.{EndCore}
use Rattle.lane_models.specs.EndStep.{DecodedFails, EndFails, EndStep, LinkFails, WholeFails, risen_at}
use Rattle.lane_models.specs.LaneCore.{CoreEvent, CoreFits, CoreStep, LaneCore, OnChannel, end_of, fresh_core, reset_move}
use Rattle.lane_models.specs.Resetting.{IsGapBehindLoss, LiesInMessage, LiesInSession}
use Rattle.lane_models.specs.Sides.{Sides, other, sides_of, swapped}

-- A MESSAGE that became whole: the link was up before
whole_up : (k m : LinkState) (packet bytes : List ℕ) → k.whole ≡ None → m.whole ≡ Some bytes → LinkHeard k packet m → is_up k ≡ true
whole_up k m packet bytes none whole heard = grind arith

never_refused : (take answer : HandshakeTake) (h : Handshake) (cause : Cause) → take ≡ answer → GoesTo answer h → take ≡ Faults cause → ⊥
never_refused take answer h cause is (inl goes) refused = let wrong : Goes h ≡ Faults cause = sym goes ∙ sym is ∙ refused in cc wrong
never_refused take answer h cause is (inr goes) refused = let wrong : GoesOpen h ≡ Faults cause = sym goes ∙ sym is ∙ refused in cc wrong

-- AN END that resets itself for a packet
pub side_fails : (asks answers : Offer) (role : Role) (s : Sides) (packet : List ℕ) (cause : Cause) → Matches asks answers → BothStand role s → Meets asks answers role s → PartsSaid s.theirs.utterances
    → s.mine.state ≡ Up → slice_get s.mine.waiting 0 ≡ Some packet → EndFails role s.mine.core cause (Some packet) → IsGapBehindLoss s.lossy cause ⊎ LiesInMessage s.mine.core packet
side_fails asks answers role s packet cause fits stands meets parts up first fails = by_take fails.take fails.takes fails.fails
  where
    c : EndCore
    c = s.mine.core

    both : Bool
    both = asks.both_rings

    by_place : (m : LinkState) → TakesBytes c.link packet (Heard m) → (bytes : List ℕ) → m.whole ≡ Some bytes → WholeFails (risen_at role c.link m c.handshake) c.is_open (Some bytes) cause
        → AtPlace both (deal asks answers meets.handshakes.sid) role c.handshake s.mine.utterances → LiesInMessage c packet
    by_place m takes bytes whole bad at = by_turn
      where
        how : LinkHeard c.link packet m
        how = link_heard c.link m packet takes

        on : HearsOn s.mine.utterances packet (Some bytes)
        on = subst (HearsOn s.mine.utterances packet) whole (hears_on c.link m s.mine.utterances packet stands.mine.link.seen stands.mine.link.follows how)

        from : HeardFrom s (turn.Heard packet ∷ s.mine.utterances)
        from = hears_next role s packet m meets.converse up first stands.mine.link.follows takes

        was : is_up c.link ≡ true
        was = whole_up c.link m packet bytes stands.mine.link.seen whole how

        same : risen_at role c.link m c.handshake ≡ c.handshake
        same = stays_risen role c.link m c.handshake (inr was)

        by_decoded : owner at.place ≡ Some (other role) → (d : Result Message TagFault) → Decodes bytes d → DecodedFails (risen_at role c.link m c.handshake) c.is_open d cause → ⊥
        by_decoded turn_is d decodes bad_message = by_result d decodes bad_message
          where
            is : bytes ≡ bytes_at (deal asks answers meets.handshakes.sid) at.place
            is = place_bytes asks answers meets.handshakes.sid role c.handshake s.mine.utterances (turn.Heard packet ∷ s.mine.utterances) bytes (said s.theirs.utterances) at turn_is
                (peer_said both (deal asks answers meets.handshakes.sid) (other role) s.theirs.core.handshake s.theirs.utterances
                (peer_place asks answers role s (turn.Heard packet ∷ s.mine.utterances) s.mine.utterances bytes stands.theirs meets.handshakes from on.messages)) from.front on.messages

            by_result : (x : Result Message TagFault) → Decodes bytes x → DecodedFails (risen_at role c.link m c.handshake) c.is_open x cause → ⊥
            by_result (Ok one) reads (inl refused) =
                let named = message_is asks answers meets.handshakes.sid at.place one bytes fits meets.handshakes.small is reads.message.0 reads.message.1 in
                never_refused (handshake_take (risen_at role c.link m c.handshake) one) (handshake_take (handshake_at both (deal asks answers meets.handshakes.sid) role at.place) (message_at (deal asks answers meets.handshakes.sid) at.place))
                (handshake_at both (deal asks answers meets.handshakes.sid) role (next both at.place)) cause
                (ap (λ (h : Handshake). handshake_take h one) (same ∙ at.is) ∙ ap (handshake_take (handshake_at both (deal asks answers meets.handshakes.sid) role at.place)) named)
                (take_at both (deal asks answers meets.handshakes.sid) role at.place (deal_fits asks answers meets.handshakes.sid fits.matched) at.here turn_is) refused
            by_result (Ok one) reads (inr own) = not_last (other role) at.place turn_is (open_place both (deal asks answers meets.handshakes.sid) role c s.mine.utterances stands.mine at own.opened)
            by_result (Err fault) reads is_fault =
                let spells = message_at_spelled asks answers meets.handshakes.sid at.place bytes fits meets.handshakes.small is in
                some_is_none (sym reads.fault ∙ spelled_no_fault bytes (message_at (deal asks answers meets.handshakes.sid) at.place) spells.0 spells.1)

        by_turn : LiesInMessage c packet
        by_turn =
            elim (who role at.place) [
              | inl own ↦ (
                  none_is_some (sym fails.may.owed ∙ ap (λ (h : Handshake). h.owed) at.is ∙ owes_at both (deal asks answers meets.handshakes.sid) role at.place own))
              | inr (inl turn_is) ↦ absurd (by_decoded turn_is bad.0 bad.1 bad.2)
              | inr (inr last) ↦ record {
                opened = place_open both (deal asks answers meets.handshakes.sid) role c s.mine.utterances stands.mine at last;
                ends = record { part = on.ends.part; stop = on.ends.stop };
              }
            ]

    by_whole : (m : LinkState) → TakesBytes c.link packet (Heard m) → (whole : Option (List ℕ)) → m.whole ≡ whole → WholeFails (risen_at role c.link m c.handshake) c.is_open whole cause → LiesInMessage c packet
    by_whole m takes None is bad = absurd bad
    by_whole m takes (Some bytes) is bad =
        by_place m takes bytes is bad (meets.handshakes.mine up (whole_up c.link m packet bytes stands.mine.link.seen is (link_heard c.link m packet takes)))

    by_take : (take : LinkTake) → TakesBytes c.link packet take → LinkFails role c take cause → IsGapBehindLoss s.lossy cause ⊎ LiesInMessage c packet
    by_take (Unheard why) takes is =
        inl (subst (IsGapBehindLoss s.lossy) (sym is) (link_refuses role s packet why meets.converse meets.links stands.mine.link.follows parts up first takes))
    by_take (Heard m) takes bad = inr (by_whole m takes m.whole refl bad)

-- A STEP by which an end resets itself
by_packet : (asks answers : Offer) (role : Role) (s : Sides) (packet : Option (List ℕ)) (cause : Cause) → Matches asks answers → BothStand role s → Meets asks answers role s → PartsSaid s.theirs.utterances
    → s.mine.state ≡ Up → ((bytes : List ℕ) → packet ≡ Some bytes → slice_get s.mine.waiting 0 ≡ Some bytes) → EndFails role s.mine.core cause packet
    → IsGapBehindLoss s.lossy cause ⊎ LiesInSession s.mine.core packet
by_packet asks answers role s None cause fits stands meets parts up first fails = inr fails
by_packet asks answers role s (Some packet) cause fits stands meets parts up first fails = side_fails asks answers role s packet cause fits stands meets parts up (first packet refl) fails

carried : (e : End) (s : LaneCore) (packet : Option (List ℕ)) → MayReset ByStep packet e s.wire.wire
    → (bytes : List ℕ) → packet ≡ Some bytes → slice_get (waiting_for e s.wire.wire) 0 ≡ Some bytes
carried e s (Some packet) may bytes is = let same : packet ≡ bytes = cc is in may.1 ∙ ap (λ (x : List ℕ). Some x) same
carried e s None may bytes is = absurd (cc is)

own_reset : (lossy : Bool) (c : EndCore) (packet : Option (List ℕ)) (s : LaneCore) (cause : Cause) → s.wire.lossy ≡ lossy → IsGapBehindLoss lossy cause ⊎ LiesInSession c packet
    → IsOwnReset s.wire cause ⊎ LiesInSession c packet
own_reset lossy c packet s cause is (inl gap) = inl (record { expected = gap.expected; found = gap.found; gap = gap.gap; lossy = is ∙ gap.lossy_is })
own_reset lossy c packet s cause is (inr own) = inr own

pub unforged_reset : (entries : ℕ) (asks answers : Offer) (events : List CoreEvent) (s : LaneCore) (e : End) (cause : Cause) (packet : Option (List ℕ)) (lost : ℕ) (t : LaneCore) → CoreFits entries asks answers
    → Match asks answers → Run CoreStep (fresh_core entries asks answers) events s → s.wire.forged ≡ false → giver cause ≡ ByStep → CoreStep s (OnChannel (Reset e cause packet lost)) t
    → IsOwnReset s.wire cause ⊎ LiesInSession (end_of e s) packet
unforged_reset entries asks answers events s e cause packet lost t fits matched run clean by step = by_end e step
  where
    l_transcript : TranscriptLog
    l_transcript = (log_of after (nothing_yet entries) events).transcript

    knows : Knows (Meets asks answers) s (log_of after (nothing_yet entries) events)
    knows = meets_knows entries asks answers events s fits matched run

    matches : Matches asks answers
    matches = record { asks_fit = fits.asks_fit; answers_fit = fits.answers_fit; matched = matched }

    parts : (x : End) → PartsSaid (transcript_of x l_transcript)
    parts A = subst (λ (transcript : TranscriptLog). PartsSaid transcript.a) (sym (transcript_is (nothing_yet entries) events)) (parts_run entries asks answers events s fits run).a.parts
    parts B = subst (λ (transcript : TranscriptLog). PartsSaid transcript.b) (sym (transcript_is (nothing_yet entries) events)) (parts_run entries asks answers events s fits run).b.parts

    fails_a : (g : Giver) → g ≡ ByStep → EndStep Initiator s.a (reset_move g cause packet) t.a → EndFails Initiator s.a cause packet
    fails_a g is moves = (subst (λ (x : Giver). EndStep Initiator s.a (reset_move x cause packet) t.a) is moves).0

    fails_b : (g : Giver) → g ≡ ByStep → EndStep Responder s.b (reset_move g cause packet) t.b → EndFails Responder s.b cause packet
    fails_b g is moves = (subst (λ (x : Giver). EndStep Responder s.b (reset_move x cause packet) t.b) is moves).0

    by_end : (x : End) → CoreStep s (OnChannel (Reset x cause packet lost)) t → IsOwnReset s.wire cause ⊎ LiesInSession (end_of x s) packet
    by_end A moves =
        let may : MayReset ByStep packet A s.wire.wire = subst (λ (g : Giver). MayReset g packet A s.wire.wire) by moves.stands in
        own_reset s.wire.lossy s.a packet s cause refl
        (by_packet asks answers Initiator (sides_of s l_transcript) packet cause matches (record { mine = knows.holds.ends.a; theirs = knows.holds.ends.b }) (knows.holds.holds clean) (parts B) may.0
        (carried A s packet may) (fails_a (giver cause) by moves.a))
    by_end B moves =
        let may : MayReset ByStep packet B s.wire.wire = subst (λ (g : Giver). MayReset g packet B s.wire.wire) by moves.stands in
        own_reset s.wire.lossy s.b packet s cause refl
        (by_packet asks answers Responder (swapped (sides_of s l_transcript)) packet cause matches (record { mine = knows.holds.ends.b; theirs = knows.holds.ends.a })
        ((meets_keep asks answers matches).swaps Initiator (sides_of s l_transcript) (knows.holds.holds clean)) (parts A) may.0
        (carried B s packet may) (fails_b (giver cause) by moves.b))
