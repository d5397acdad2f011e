-- What an end of a port in session makes of a packet: no message is whole by it, or it reads the one that is; or its link refuses the packet.
use Rattle.std.proofs.Common.{◌≡◌, ℕ, ◌^◌, ◌<◌, ◌⊎◌, true, false, Option, Some, None, List, [], ◌∷◌, ◌++◌, length, inl, inr, refl, sym, subst, ap, ◌∙◌, arith}
use Rattle.std.specs.Prelude.{Result}
use Rattle.ldc_link.specs.declared.phase.Role.{Role}
use Rattle.ldc_link.specs.LinkState.{LinkState, cleared, is_up}
use Rattle.ldc_link.specs.Taking.{Heard as HeardBy, LinkTake, TakesBytes, Unheard}
use Rattle.ldc_packet.specs.declared.packet.Subtype.{Subtype}
use Rattle.ldc_packet.specs.Spelling.{subtype_code}
use Rattle.ldc_queue.specs.declared.end.ChannelState.TheVariants.{Up}
use Rattle.ldc_queue.specs.Transcript.{Heard, Utterance}
use Rattle.vio_bytes.specs.Place.{number_at}
use Rattle.vio_handshake.proofs.Places.{AllSaid, Deal, handshake_at}
use Rattle.vio_handshake.specs.declared.handshake.Handshake.{Handshake}
use Rattle.vio_handshake.specs.declared.session.Offer.{Offer}
use Rattle.vio_tag.proofs.Canonical.{canonical_spells}
use Rattle.vio_tag.specs.declared.message.Message.{Message}
use Rattle.vio_tag.specs.declared.message.MsgBody.{MsgBody}
use Rattle.vio_tag.specs.declared.message.MsgBody.TheVariants.{DringData, Mcast}
use Rattle.vio_tag.specs.declared.message.TagFault.{TagFault}
use Rattle.vio_tag.specs.Decoding.{Decodes}
use Rattle.vio_tag.specs.Form.{IsWellFormed}
use Rattle.vio_tag.specs.Spelling.{SpellsMessage, addresses_at, canonical, envelope_at, envelope_code, sid_at, subtype_at, type_at, type_code}
use Rattle.vio_tag.specs.declared.cause.Cause.{Cause}
use Rattle.lane_models.specs.Sayings.{heard}
use Rattle.lane_models.proofs.EndStanding.{open_up}
use Rattle.lane_models.proofs.HandshakePlaces.{IsOwn, deal, open_place}
use Rattle.lane_models.proofs.LinkCases.{LinkHeard, link_heard}
use Rattle.lane_models.proofs.UtteranceCases.{HearsOn, hears_on}
use Rattle.lane_models.specs.EndStep.{IsOfSession}
use Rattle.lane_models.specs.Sides.{Sides, other}
use Rattle.lane_models.specs.Standing.{EndStands}
use Rattle.lane_models.specs.NetEndState.{NetEndState}
use Rattle.lane_models.specs.NetEndTaking.{GoesOn, HearsLink, HearsWhole, NetTake, NetTakes, Resets, reads}
use Rattle.port_laws.specs.NetCore.{net_core}
use Rattle.port_laws.proofs.OwnBytes.{groups_bytes, range_bytes}
use Rattle.port_laws.proofs.PeerOpens.{TwoEnds, mine_at, theirs_at}
use Rattle.port_laws.proofs.TookCounts.{heard_send, risen_up}

-- WHAT IT MAKES of a packet
pub record HearsNone (s : NetEndState) (memory : List ℕ) (turns : List Utterance) (packet : List ℕ) (take : NetTake) : Type 0 where
  pub link : LinkState
  pub sends : link.to_send ≡ s.link.to_send
  pub messages : heard (Heard packet ∷ turns) ≡ heard turns
  pub is : take ≡ GoesOn (record s { link = link }) false memory

pub record HearsOne (role : Role) (s : NetEndState) (memory : List ℕ) (turns : List Utterance) (packet : List ℕ) (take : NetTake) : Type 0 where
  pub from : LinkState
  pub takes : TakesBytes s.link packet (HeardBy from)
  pub link : LinkState
  pub sends : link.to_send ≡ s.link.to_send
  pub bytes : List ℕ
  pub messages : heard (Heard packet ∷ turns) ≡ heard turns ++ bytes ∷ []
  pub decoded : Result Message TagFault
  pub decodes : Decodes bytes decoded
  pub is : take ≡ reads role (record s { link = link }) memory decoded

pub record Refused (s : NetEndState) (packet : List ℕ) (take : NetTake) : Type 0 where
  pub cause : Cause
  pub takes : TakesBytes s.link packet (Unheard cause)
  pub is : take ≡ Resets cause

abbrev pub Hears : Role → NetEndState → List ℕ → List Utterance → List ℕ → NetTake → Type 0
Hears role s memory turns packet take = HearsNone s memory turns packet take ⊎ (HearsOne role s memory turns packet take ⊎ Refused s packet take)

pub hears_in : (role : Role) (s : NetEndState) (turns : List Utterance) (memory packet : List ℕ) (take : NetTake) → EndStands role (net_core role s) turns → is_up s.link ≡ true
    → NetTakes role s memory packet take → Hears role s memory turns packet take
hears_in role s turns memory packet take stands up takes = by_link takes.link takes.takes takes.hears
  where
    by_whole : (k : LinkState) (whole : Option (List ℕ)) → TakesBytes s.link packet (HeardBy k) → LinkHeard s.link packet k → HearsOn turns packet whole → HearsWhole role (record s { link = k }) memory whole take
        → Hears role s memory turns packet take
    by_whole k None took how on hears = inl (record { link = k; sends = heard_send s.link k packet how; messages = on.messages; is = hears })
    by_whole k (Some bytes) took how on hears = inr (inl (record {
      from = k;
      takes = took;
      link = cleared k;
      sends = heard_send s.link k packet how;
      bytes = bytes;
      messages = on.messages;
      decoded = hears.0;
      decodes = hears.1;
      is = hears.2;
    }))

    by_link : (link : LinkTake) → TakesBytes s.link packet link → HearsLink role s memory link take → Hears role s memory turns packet take
    by_link (HeardBy k) took hears =
        let how : LinkHeard s.link packet k = link_heard s.link k packet took in
        by_whole k k.whole took how (hears_on s.link k turns packet stands.link.seen stands.link.follows how)
        (subst (λ (h : Handshake). HearsWhole role (record s { link = k; handshake = h }) memory k.whole take) (risen_up role s.link k s.handshake up) hears)
    by_link (Unheard cause) took hears = inr (inr (record { cause = cause; takes = took; is = hears }))

-- A MESSAGE OF THE SESSION is read from its bytes, whatever its fields are
simple : Subtype → ℕ → Message
simple s sid = record { subtype = s; sid = sid; body = DringData 0 0 0 0 0 }

simple_sid : (s : Subtype) (sid : ℕ) → sid < 2 ^ 32 → sid_at (canonical (simple s sid)) ≡ sid
unfolding simple
simple_sid s sid small = sym (canonical_spells (record { subtype = s; sid = sid; body = DringData 0 0 0 0 0 }) tt (small, (omega arith, omega arith, omega arith, omega arith, omega arith))).sid

range_sid : (s : Subtype) (n seq ident start end state : ℕ) → sid_at (range_bytes s n seq ident start end state) ≡ sid_at (canonical (simple s n))
unfolding canonical simple
range_sid s n seq ident start end state = refl

groups_sid : (s : Subtype) (n set count : ℕ) (addresses : List (List ℕ)) → sid_at (groups_bytes s n set count addresses) ≡ sid_at (canonical (simple s n))
unfolding canonical simple
groups_sid s n set count addresses = refl

record Tagged (s : Subtype) (body : MsgBody) (m : List ℕ) : Type 0 where
  kind : type_at m ≡ type_code body
  subtype : subtype_at m ≡ subtype_code s
  envelope : envelope_at m ≡ envelope_code body

range_tagged : (s : Subtype) (n seq ident start end state : ℕ) → Tagged s (DringData seq ident start end state) (range_bytes s n seq ident start end state)
unfolding canonical
range_tagged s n seq ident start end state = grind arith

groups_tagged : (s : Subtype) (n set count : ℕ) (addresses : List (List ℕ)) → Tagged s (Mcast set count addresses) (groups_bytes s n set count addresses)
unfolding canonical
groups_tagged s n set count addresses = grind arith

pub record OwnRead (bytes : List ℕ) (sid : ℕ) : Type 0 where
  pub message : Message
  pub form : IsWellFormed message
  pub spells : SpellsMessage bytes message
  pub of : IsOfSession message.body
  pub sid_is : message.sid ≡ sid
  pub long : length bytes ≡ 56

own_body : (sid : ℕ) (bytes : List ℕ) (s : Subtype) (b : MsgBody) → IsOfSession b → sid < 2 ^ 32 → length bytes ≡ 56 → bytes ≡ canonical (record { subtype = s; sid = sid; body = b }) → OwnRead bytes sid
own_body sid bytes s (DringData seq ident start end state) of small long is =
    let tagged = range_tagged s sid seq ident start end state in
    record {
      message = record { subtype = s; sid = sid; body = DringData (number_at 8 8 bytes) (number_at 8 16 bytes) (number_at 4 24 bytes) (number_at 4 28 bytes) (number_at 1 32 bytes) };
      form = tt;
      spells = grind (arith, range_sid, simple_sid);
      of = tt;
      sid_is = refl;
      long = long;
    }
own_body sid bytes s (Mcast set count addresses) of small long is =
    let tagged = groups_tagged s sid set count addresses in
    record {
      message = record { subtype = s; sid = sid; body = Mcast (number_at 1 8 bytes) (number_at 1 9 bytes) (addresses_at 10 7 bytes) };
      form = tt;
      spells = grind (arith, groups_sid, simple_sid);
      of = tt;
      sid_is = refl;
      long = long;
    }
own_body sid bytes s _ of small long is = absurd of

pub own_read : (d : Deal) (bytes : List ℕ) → IsOwn d bytes → d.sid < 2 ^ 32 → length bytes ≡ 56 → OwnRead bytes d.sid
own_read d bytes own small long =
    own_body d.sid bytes own.message.subtype own.message.body own.body small long
    (own.is ∙ ap (λ (n : ℕ). canonical (record { subtype = own.message.subtype; sid = n; body = own.message.body })) own.sid)

-- THE HANDSHAKE of an end in session: both rings have the session's number
pub record AllAgreed (h : Handshake) (sid : ℕ) : Type 0 where
  pub knows : h.sid ≡ Some sid
  pub own : h.draft.ident_own ≡ sid
  pub peer : h.draft.ident_peer ≡ sid
  pub draft : h.draft.sid ≡ sid
  pub owed : h.owed ≡ None

agreed_at : (d : Deal) (r : Role) (h : Handshake) → h ≡ handshake_at true d r AllSaid → AllAgreed h d.sid
agreed_at d r h is = grind arith

pub mine_agreed : (asks answers : Offer) (role : Role) (s : Sides) → (two_ends : TwoEnds asks answers role s) → s.mine.state ≡ Up → s.mine.core.is_open ≡ true
    → AllAgreed s.mine.core.handshake two_ends.meets.handshakes.sid
mine_agreed asks answers role s two_ends up opened =
    let d = deal asks answers two_ends.meets.handshakes.sid in
    let at = mine_at asks answers role s two_ends up (open_up role s.mine.core s.mine.utterances two_ends.mine opened) in
    let last : at.place ≡ AllSaid = open_place true d role s.mine.core s.mine.utterances two_ends.mine at opened in
    agreed_at d role s.mine.core.handshake (at.is ∙ ap (handshake_at true d role) last)

pub theirs_agreed : (asks answers : Offer) (role : Role) (s : Sides) → (two_ends : TwoEnds asks answers role s) → s.theirs.state ≡ Up → s.theirs.core.is_open ≡ true
    → AllAgreed s.theirs.core.handshake two_ends.meets.handshakes.sid
theirs_agreed asks answers role s two_ends up opened =
    let d = deal asks answers two_ends.meets.handshakes.sid in
    let at = theirs_at asks answers role s two_ends up (open_up (other role) s.theirs.core s.theirs.utterances two_ends.theirs opened) in
    let last : at.place ≡ AllSaid = open_place true d (other role) s.theirs.core s.theirs.utterances two_ends.theirs at opened in
    agreed_at d (other role) s.theirs.core.handshake (at.is ∙ ap (handshake_at true d (other role)) last)
