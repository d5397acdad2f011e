-- What a packet comes to that an end takes, whatever its state: nothing of its session changes, its session opens, it resets itself, or it
-- hears a message of its session.
use Rattle.std.proofs.Common.{◌≡◌, ℕ, true, false, Option, Some, None, List, refl, sym, subst, ap, ◌∙◌}
use Rattle.std.specs.Prelude.{Result, Ok, Err}
use Rattle.ldc_link.specs.declared.phase.Role.{Role}
use Rattle.ldc_link.specs.declared.phase.Role.TheVariants.{Initiator, Responder}
use Rattle.ldc_link.specs.LinkState.{LinkState, cleared}
use Rattle.ldc_link.specs.Taking.{Heard, LinkTake, Unheard}
use Rattle.ldc_queue.specs.Transcript.{Utterance}
use Rattle.vio_handshake.specs.declared.handshake.Handshake.{Handshake}
use Rattle.vio_handshake.specs.Rules.{Faults, Goes, GoesOpen, HandshakeTake, handshake_take}
use Rattle.vio_tag.specs.declared.cause.Cause.{Cause}
use Rattle.vio_tag.specs.declared.cause.Cause.TheVariants as the_cause
use Rattle.vio_tag.specs.declared.message.Message.{Message}
use Rattle.vio_tag.specs.declared.message.TagFault.{TagFault}
use Rattle.lane_models.specs.Standing.{EndStands, is_open_in}
use Rattle.lane_models.specs.NetEndPutting.{cleared_ring}
use Rattle.lane_models.specs.NetEndState.{NetEndState, NetSession, opened_net_end}
use Rattle.lane_models.specs.NetEndTaking.{GoesOn, HearsLink, HearsWhole, NetTake, NetTakes, Resets, by_handshake, hears_message, opens_by_take, reads, risen}
use Rattle.port_laws.specs.NetCore.{net_core}
use Rattle.port_laws.proofs.MessageDoes.{TakeDoes, message_does}
use Rattle.port_laws.proofs.TookCounts.{risen_up, session_open, session_up}

pub data TookWhat (role : Role) (s : NetEndState) (memory : List ℕ) (take : NetTake) : Type 0 where
  Stays : (k : LinkState) (h : Handshake) → take ≡ GoesOn (record s { link = k; handshake = h }) false memory → TookWhat role s memory take
  Opens : (k : LinkState) (h : Handshake) → role ≡ Responder → s.session ≡ None
      → take ≡ GoesOn (opened_net_end (record s { link = k; handshake = h })) true (cleared_ring s.slots memory) → TookWhat role s memory take
  Fails : (cause : Cause) → take ≡ Resets cause → TookWhat role s memory take
  Reads : (k : LinkState) (h : Handshake) (p : NetSession) (m : Message) → s.session ≡ Some p
      → TakeDoes role (record s { link = k; handshake = h }) p memory m.subtype m.body take → TookWhat role s memory take

opens_what : (role : Role) (s : NetEndState) (memory : List ℕ) (k : LinkState) (h : Handshake) → s.session ≡ None
    → TookWhat role s memory (opens_by_take role (record s { link = k; handshake = h }) memory)
opens_what Initiator s memory k h none = Stays k h refl
opens_what Responder s memory k h none = Opens k h refl none refl

handshake_what : (role : Role) (s : NetEndState) (memory : List ℕ) (k : LinkState) (was : Handshake) (take : HandshakeTake) → s.session ≡ None
    → TookWhat role s memory (by_handshake role (record s { link = k; handshake = was }) memory take)
handshake_what role s memory k was (Goes h) none = Stays k h refl
handshake_what role s memory k was (GoesOpen h) none = opens_what role s memory k h none
handshake_what role s memory k was (Faults cause) none = Fails cause refl

pub took_what : (role : Role) (s : NetEndState) (turns : List Utterance) (memory packet : List ℕ) (take : NetTake) → EndStands role (net_core role s) turns → NetTakes role s memory packet take
    → TookWhat role s memory take
took_what role s turns memory packet take ends takes = by_link takes.link takes.hears
  where
    risen_at : LinkState → Handshake
    risen_at k = risen role s.link k s.handshake

    seen : LinkState → NetEndState
    seen k = record s { link = cleared k; handshake = risen_at k }

    by_session : (k : LinkState) (m : Message) (session : Option NetSession) → s.session ≡ session → TookWhat role s memory (hears_message role (seen k) memory session m)
    by_session k m None none = handshake_what role s memory (cleared k) (risen_at k) (handshake_take (risen_at k) m) none
    by_session k m (Some p) session =
        let opened : is_open_in (risen_at k).phase ≡ true =
        ap (λ (h : Handshake). is_open_in h.phase) (risen_up role s.link k s.handshake (session_up role s turns p ends session)) ∙ session_open role s turns p ends session in
        Reads (cleared k) (risen_at k) p m session (message_does role (seen k) p memory m opened)

    by_decoded : (k : LinkState) (d : Result Message TagFault) → TookWhat role s memory (reads role (seen k) memory d)
    by_decoded k (Ok m) = by_session k m s.session refl
    by_decoded k (Err fault) = Fails (the_cause.Tag fault) refl

    by_whole : (k : LinkState) (whole : Option (List ℕ)) → HearsWhole role (record s { link = k; handshake = risen_at k }) memory whole take → TookWhat role s memory take
    by_whole k None is = Stays k (risen_at k) is
    by_whole k (Some bytes) hears = subst (TookWhat role s memory) (sym hears.2) (by_decoded k hears.0)

    by_link : (link : LinkTake) → HearsLink role s memory link take → TookWhat role s memory take
    by_link (Heard k) hears = by_whole k k.whole hears
    by_link (Unheard cause) hears = Fails cause hears
