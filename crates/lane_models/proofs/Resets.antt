-- An end that resets itself says why; and where nobody forged and the offers match, it does so for a gap behind a loss alone, or for a cause of its
-- session.
use Rattle.std.proofs.Common.{◌≡◌, ℕ, Option, Some, None, Ok, Err, List, refl, sym, subst, inl, inr, arith}
use Rattle.std.specs.Prelude.{Result}
use Rattle.runs.specs.Run.{Run}
use Rattle.ldc_link.specs.declared.phase.Role.{Role}
use Rattle.ldc_link.specs.LinkState.{LinkState}
use Rattle.ldc_link.specs.Taking.{Heard, LinkTake, TakesBytes, Unheard}
use Rattle.ldc_packet.specs.Fault.{first_fault}
use Rattle.ldc_queue.specs.declared.end.End.{End}
use Rattle.ldc_queue.specs.Transcript.{Utterance}
use Rattle.vio_handshake.specs.declared.handshake.Handshake.{Handshake}
use Rattle.vio_handshake.specs.declared.session.Offer.{Offer}
use Rattle.vio_handshake.specs.Rules.{Faults, HandshakeTake, handshake_take}
use Rattle.vio_tag.proofs.NoFault.{spelled_no_fault}
use Rattle.vio_tag.specs.declared.cause.Cause.{Cause}
use Rattle.vio_tag.specs.declared.cause.Cause.TheVariants as the_cause
use Rattle.vio_tag.specs.declared.message.Message.{Message}
use Rattle.vio_tag.specs.declared.message.TagFault.{TagFault}
use Rattle.vio_tag.specs.Decoding.{Decodes}
use Rattle.lane_models.specs.ResetSays.{MessageSays}
use Rattle.lane_models.specs.TranscriptLog.{transcript_of}
use Rattle.lane_models.specs.WireEvent.{ByStep, Reset, giver}
use Rattle.lane_models.proofs.HandshakeResets.{HandshakeWhy, Spelled, handshake_why}
use Rattle.lane_models.proofs.LinkCases.{link_heard}
use Rattle.lane_models.proofs.LinkResets.{link_why}
use Rattle.lane_models.proofs.Numbering.{heard_so}
use Rattle.lane_models.proofs.UtteranceCases.{EndsBy, EndsWhole, hears_on}
use Rattle.lane_models.specs.EndCore.{EndCore}
use Rattle.lane_models.specs.EndStep.{DecodedFails, EndFails, LinkFails, WholeFails, risen_at}
use Rattle.lane_models.specs.LaneCore.{CoreEvent, CoreFits, CoreStep, LaneCore, OnChannel, end_of, fresh_core, transcript_behind}
use Rattle.lane_models.specs.Resetting.{ResetsFor, SaysWhy}
use Rattle.lane_models.proofs.Lifting.{stand_run}
use Rattle.lane_models.specs.Standing.{EndStands}

-- THE MESSAGE that the packet ends says why
pub by_message : (turns : List Utterance) (packet bytes : List ℕ) (cause : Cause) → first_fault packet ≡ None → EndsBy turns packet bytes → MessageSays bytes cause → SaysWhy turns packet cause
by_message turns packet bytes cause sound by says = grind arith

refused_says : (bytes : List ℕ) (take : HandshakeTake) (cause : Cause) → HandshakeWhy bytes take → take ≡ Faults cause → MessageSays bytes cause
refused_says bytes take cause says is = grind arith

pub end_fails : (role : Role) (c : EndCore) (turns : List Utterance) (cause : Cause) (packet : Option (List ℕ)) → EndStands role c turns → EndFails role c cause packet
    → ResetsFor c turns cause packet
end_fails role c turns cause None stands fails = fails
end_fails role c turns cause (Some packet) stands fails = by_take fails.take fails.takes fails.fails
  where
    by_whole : (m : LinkState) → TakesBytes c.link packet (Heard m) → (whole : Option (List ℕ)) → m.whole ≡ whole → (h : Handshake) → WholeFails h c.is_open whole cause
        → ResetsFor c turns cause (Some packet)
    by_whole m takes None is h bad = absurd bad
    by_whole m takes (Some bytes) is h bad = by_decoded bad.0 bad.1 bad.2
      where
        ends : EndsBy turns packet bytes
        ends = subst (EndsWhole turns packet) is (hears_on c.link m turns packet stands.link.seen stands.link.follows (link_heard c.link m packet takes)).ends

        sound : first_fault packet ≡ None
        sound = (heard_so c.link turns packet m stands.link.follows takes).sound

        by_decoded : (d : Result Message TagFault) → Decodes bytes d → DecodedFails h c.is_open d cause → ResetsFor c turns cause (Some packet)
        by_decoded (Ok one) decodes (inl refused) =
            let spelled : Spelled bytes one = record { sound = spelled_no_fault bytes one decodes.message.0 decodes.message.1; spells = decodes.message.1 } in
            inl (by_message turns packet bytes cause sound ends (refused_says bytes (handshake_take h one) cause (handshake_why bytes h one spelled) refused))
        by_decoded (Ok one) decodes (inr own) = inr (record { opened = own.opened; ends = record { part = ends.part; stop = ends.stop } })
        by_decoded (Err fault) decodes is_fault =
            inl (subst (SaysWhy turns packet) (sym is_fault) (by_message turns packet bytes (the_cause.Tag fault) sound ends decodes.fault))

    by_take : (take : LinkTake) → TakesBytes c.link packet take → LinkFails role c take cause → ResetsFor c turns cause (Some packet)
    by_take (Unheard why) takes is = inl (subst (SaysWhy turns packet) (sym is) (link_why turns packet c.link why stands.link.follows takes))
    by_take (Heard m) takes bad = by_whole m takes m.whole refl (risen_at role c.link m c.handshake) bad

-- A STEP by which an end resets itself, along every run
pub reset_says : (entries : ℕ) (asks answers : Offer) (events : List CoreEvent) (s : LaneCore) (e : End) (cause : Cause) (packet : Option (List ℕ)) (lost : ℕ) (t : LaneCore) → CoreFits entries asks answers
    → Run CoreStep (fresh_core entries asks answers) events s → giver cause ≡ ByStep → CoreStep s (OnChannel (Reset e cause packet lost)) t
    → ResetsFor (end_of e s) (transcript_of e (transcript_behind events)) cause packet
reset_says entries asks answers events s e cause packet lost t fits run by step = grind (arith, stand_run, end_fails)
