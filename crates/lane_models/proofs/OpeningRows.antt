-- Each row of a handshake is the next line of its end's order, stands aside, or opens the session.
use Rattle.std.proofs.Common.{◌≡◌, ℕ, ◌%◌, Bool, true, false, ◌⊎◌, inl, inr, Some, None, List, ◌∷◌, ◌++◌, drop, min, refl, sym, ap, ◌∙◌, subst, arith}
use Rattle.ldc_link.specs.declared.phase.Role.{Role}
use Rattle.ldc_link.specs.declared.phase.Role.TheVariants.{Initiator, Responder}
use Rattle.ldc_packet.specs.declared.packet.Subtype.{Subtype}
use Rattle.ldc_packet.specs.declared.packet.Subtype.TheVariants.{Ack, Info, Nack}
use Rattle.ldc_packet.specs.Spelling.{subtype_code}
use Rattle.ldc_queue.specs.Transcript.{Heard, Said, Utterance}
use Rattle.vio_tag.specs.declared.message.Message.{Message}
use Rattle.vio_tag.specs.declared.message.MsgBody.{MsgBody}
use Rattle.vio_tag.specs.declared.message.MsgBody.TheVariants.{Attr, DringReg, Rdx, Ver}
use Rattle.vio_tag.specs.Spelling.{SpellsMessage, envelope_code}
use Rattle.vio_handshake.specs.Attributes.{answered_attributes, said_attributes}
use Rattle.vio_handshake.specs.declared.handshake.Handshake.{Handshake}
use Rattle.vio_handshake.specs.declared.handshake.Phase.{Phase}
use Rattle.vio_handshake.specs.declared.handshake.Phase.TheVariants.{Attributes, Open, OwnReady, OwnRing, PeerReady, PeerReadyTaken, PeerRing, PeerRingTaken, Version}
use Rattle.vio_handshake.specs.Messages.{ack, info, nack, own_ring}
use Rattle.vio_handshake.specs.Rules.{behind_ring, own_named}
use Rattle.lane_models.specs.HandshakeOrder.{EndsAs, FollowsRow, HandshakeOrder, OpensBy, opening_lines, own_ring_lines, row}
use Rattle.lane_models.specs.Sayings.{half_heard}
use Rattle.lane_models.proofs.Apart.{roles_differ}
use Rattle.lane_models.proofs.HandshakeCases.{AttributesAgreed, AttributesAsked, AttributesRefused, Declined, NothingFollows, OneRingAgreed, Opened, Opens, Owes, OwnReadyFollows, PeerAgreed, ReadyAgreed, ReadyAsked, ReadyFollows, RingAgreed, RingAsked, RingFollows, RingRefused, RowSent, RowTaken, VersionAgreed, VersionAsked, VersionRefused}
use Rattle.lane_models.proofs.Opening.{Comes, HandshakeComes, IsComing, IsNext, Owing, SaysWhole, Waiting, any_sid, comes_up, heard_line, hears_aside, last_follows, met, said_line, sid_of}
use Rattle.lane_models.proofs.UtteranceCases.{EndsBy}
use Rattle.lane_models.specs.Grounds.{knows_sid}

-- THE HANDSHAKE AFTER IT goes on in its order, or the session opens by it
pub data GoesOn (role : Role) (t : Handshake) (opens : Bool) (now : List Utterance) : Type 0 where
  Comes_ : opens ≡ false → HandshakeComes role t now → GoesOn role t opens now
  Opens_ : opens ≡ true → t.phase ≡ Open → HandshakeOrder t.offer.both_rings role now → GoesOn role t opens now

goes_so : (role : Role) (t x : Handshake) (opens : Bool) (now : List Utterance) → t ≡ x → opens ≡ false → HandshakeComes role x now → GoesOn role t opens now
goes_so role t x opens now is not comes = Comes_ not (subst (λ (y : Handshake). HandshakeComes role y now) (sym is) comes)

-- where it owes nothing it waits
waits_so : (role : Role) (h : Handshake) (turns : List Utterance) → h.owed ≡ None → HandshakeComes role h turns → Waiting h.offer.both_rings role h.phase (sid_of h) h.owed turns
waits_so role h turns none comes = grind arith

-- the facts of a message that it takes
pub record Took (role : Role) (h : Handshake) (message : Message) (turns : List Utterance) (packet : List ℕ) : Type 0 where
  pub role_is : h.role ≡ role
  pub none : h.owed ≡ None
  pub comes : HandshakeComes role h turns
  pub bytes : List ℕ
  pub ends : EndsBy turns packet bytes
  pub spells : SpellsMessage bytes message

took_follows : (role : Role) (h : Handshake) (message : Message) (turns : List Utterance) (packet : List ℕ) (p : Phase) → Took role h message turns packet → h.phase ≡ p
    → FollowsRow role (sid_of h) (met h.offer.both_rings role p) turns
took_follows role h message turns packet p took at =
    subst (λ (x : Phase). FollowsRow role (sid_of h) (met h.offer.both_rings role x) turns) at (waits_so role h turns took.none took.comes).follows

took_coming : (role : Role) (h : Handshake) (message : Message) (turns : List Utterance) (packet : List ℕ) (p : Phase) → Took role h message turns packet → h.phase ≡ p
    → IsComing h.offer.both_rings role p
took_coming role h message turns packet p took at = subst (IsComing h.offer.both_rings role) at took.comes.coming

line_of : (role : Role) (h : Handshake) (message : Message) (turns : List Utterance) (packet : List ℕ) (s : Subtype) (b : MsgBody) (sid : ℕ) → Took role h message turns packet
    → message ≡ record { subtype = s; sid = message.sid; body = b } → message.sid % 4294967296 ≡ sid → EndsAs (subtype_code s) (envelope_code b) sid (half_heard turns) packet
line_of role h message turns packet s b sid took is same = heard_line turns packet took.bytes message s b sid took.ends took.spells is same

mod_sid : (sid draft : ℕ) → sid ≡ draft → sid % 4294967296 ≡ draft % 4294967296
mod_sid sid draft is = ap (λ (n : ℕ). n % 4294967296) is

-- a refusal is owed, and the message stands aside
refuses : (role : Role) (h : Handshake) (message : Message) (turns : List Utterance) (packet : List ℕ) (p : Phase) (refusal : Message) → Took role h message turns packet → h.phase ≡ p
    → refusal.subtype ≡ Nack → Comes h.offer.both_rings role p (sid_of h) (Some refusal) (Heard packet ∷ turns)
refuses role h message turns packet p refusal took at is =
    let coming = took_coming role h message turns packet p took at in
    record {
      coming = coming;
      stage = inr (record {
        waits = subst NothingFollows at (waits_so role h turns took.none took.comes).waits;
        refusal = is;
        follows = hears_aside role (sid_of h) (met h.offer.both_rings role p) turns packet (comes_up h.offer.both_rings role p coming) (took_follows role h message turns packet p took at);
      });
    }

other_role : (X : Type 0) (h : Handshake) → h.role ≡ Initiator → h.role ≡ Responder → X
other_role X h one two = roles_differ (sym one ∙ two)

-- AN INITIATOR'S ROWS, with its sid
pub initiator_row : (h t : Handshake) (message : Message) (opens : Bool) (turns : List Utterance) (packet : List ℕ) → Took Initiator h message turns packet → message.sid ≡ h.draft.sid
    → RowTaken h message t opens → GoesOn Initiator t opens (Heard packet ∷ turns)
initiator_row h t message opens turns packet took own (Declined test is not) =
    goes_so Initiator t _ opens (Heard packet ∷ turns) is not (refuses Initiator h message turns packet h.phase (nack message.sid message.body) took refl refl)
initiator_row h t message opens turns packet took own (VersionAgreed minor class r at m low is not) =
    goes_so Initiator t _ opens (Heard packet ∷ turns) is not (record {
      coming = tt;
      stage = inl (record {
        message = info message.sid (Attr (said_attributes h.offer minor));
        owed_is = refl;
        next = record { of_subtype = refl; of_envelope = refl; of_sid = mod_sid message.sid h.draft.sid own; named = tt };
        follows = inl (line_of Initiator h message turns packet Ack (Ver 1 minor class) (sid_of h) took m (mod_sid message.sid h.draft.sid own), took_follows Initiator h message turns packet Version took at);
      });
    })
initiator_row h t message opens turns packet took own (AttributesAgreed bytes r at m test is not) =
    goes_so Initiator t _ opens (Heard packet ∷ turns) is not (record {
      coming = tt;
      stage = inl (record {
        message = info message.sid (own_ring h.offer);
        owed_is = refl;
        next = record { of_subtype = refl; of_envelope = refl; of_sid = mod_sid message.sid h.draft.sid own; named = tt };
        follows = inl (line_of Initiator h message turns packet Ack (Attr bytes) (sid_of h) took m (mod_sid message.sid h.draft.sid own), took_follows Initiator h message turns packet Attributes took at);
      });
    })
initiator_row h t message opens turns packet took own (RingAgreed ident slots slot_size options count cookies r at has m is not) =
    goes_so Initiator t (record (own_named h ident) { phase = PeerRing }) opens (Heard packet ∷ turns) is not (record {
      coming = has;
      stage = inr (record {
        waits = tt;
        refusal = (waits_so Initiator h turns took.none took.comes).refusal;
        follows = inl (
          line_of Initiator h message turns packet Ack (DringReg ident slots slot_size options count cookies) (sid_of h) took m (mod_sid message.sid h.draft.sid own),
          took_follows Initiator h message turns packet OwnRing took at,
        );
      });
    })
initiator_row h t message opens turns packet took own (OneRingAgreed ident slots slot_size options count cookies r at one m is not) =
    goes_so Initiator t _ opens (Heard packet ∷ turns) is not (record {
      coming = tt;
      stage = inl (record {
        message = info message.sid Rdx;
        owed_is = refl;
        next = record { of_subtype = refl; of_envelope = refl; of_sid = mod_sid message.sid h.draft.sid own; named = tt };
        follows = subst (λ (b : Bool). FollowsRow Initiator (sid_of h) (own_ring_lines b Initiator ++ opening_lines Initiator) (Heard packet ∷ turns)) (sym one)
            (inl (
              line_of Initiator h message turns packet Ack (DringReg ident slots slot_size options count cookies) (sid_of h) took m (mod_sid message.sid h.draft.sid own),
              took_follows Initiator h message turns packet OwnRing took at,
            ));
      });
    })
initiator_row h t message opens turns packet took own (RingAsked ident slots slot_size options count cookies at m test is not) =
    let has : h.offer.both_rings ≡ true = took_coming Initiator h message turns packet PeerRing took at in
    goes_so Initiator t _ opens (Heard packet ∷ turns) is not
    (subst (λ (p : Phase). Comes h.offer.both_rings Initiator p (sid_of h) (Some (ack message.sid (DringReg message.sid slots slot_size options count cookies))) (Heard packet ∷ turns))
    (sym (ap behind_ring has)) (record {
      coming = has;
      stage = inl (record {
        message = ack message.sid (DringReg message.sid slots slot_size options count cookies);
        owed_is = refl;
        next = record { of_subtype = refl; of_envelope = refl; of_sid = mod_sid message.sid h.draft.sid own; named = tt };
        follows = inl (
          line_of Initiator h message turns packet Info (DringReg ident slots slot_size options count cookies) (sid_of h) took m (mod_sid message.sid h.draft.sid own),
          took_follows Initiator h message turns packet PeerRing took at,
        );
      });
    }))
initiator_row h t message opens turns packet took own (RingRefused ident slots slot_size options count cookies at m is not) =
    goes_so Initiator t _ opens (Heard packet ∷ turns) is not
    (refuses Initiator h message turns packet PeerRing (nack message.sid (DringReg ident slots slot_size options count cookies)) took at refl)
initiator_row h t message opens turns packet took own (ReadyAgreed r at m is not) =
    goes_so Initiator t (record h { phase = PeerReady }) opens (Heard packet ∷ turns) is not (record {
      coming = tt;
      stage = inr (record {
        waits = tt;
        refusal = (waits_so Initiator h turns took.none took.comes).refusal;
        follows = inl (line_of Initiator h message turns packet Ack Rdx (sid_of h) took m (mod_sid message.sid h.draft.sid own), took_follows Initiator h message turns packet OwnReady took at);
      });
    })
initiator_row h t message opens turns packet took own (ReadyAsked at m is not) =
    goes_so Initiator t _ opens (Heard packet ∷ turns) is not (record {
      coming = tt;
      stage = inl (record {
        message = ack message.sid Rdx;
        owed_is = refl;
        next = record { of_subtype = refl; of_envelope = refl; of_sid = mod_sid message.sid h.draft.sid own; named = tt };
        follows = inl (line_of Initiator h message turns packet Info Rdx (sid_of h) took m (mod_sid message.sid h.draft.sid own), took_follows Initiator h message turns packet PeerReady took at);
      });
    })
initiator_row h t message opens turns packet took own (VersionAsked minor class r at m is not) = other_role _ h took.role_is r
initiator_row h t message opens turns packet took own (VersionRefused major minor class other low r at m is not) = other_role _ h took.role_is r
initiator_row h t message opens turns packet took own (AttributesAsked bytes r at m test is not) = other_role _ h took.role_is r
initiator_row h t message opens turns packet took own (AttributesRefused bytes r at m is not) = other_role _ h took.role_is r
initiator_row h t message opens turns packet took own (PeerAgreed ident slots slot_size options count cookies r at m is not) = other_role _ h took.role_is r
initiator_row h t message opens turns packet took own (Opened r at m is now) = other_role _ h took.role_is r

-- A RESPONDER'S, which knows the sid once it heard a version
pub responder_row : (h t : Handshake) (message : Message) (opens : Bool) (turns : List Utterance) (packet : List ℕ) → Took Responder h message turns packet
    → ((p : Phase) → h.phase ≡ p → knows_sid p Responder ≡ true → message.sid ≡ h.draft.sid) → RowTaken h message t opens → GoesOn Responder t opens (Heard packet ∷ turns)
responder_row h t message opens turns packet took own (Declined test is not) =
    goes_so Responder t _ opens (Heard packet ∷ turns) is not (refuses Responder h message turns packet h.phase (nack message.sid message.body) took refl refl)
responder_row h t message opens turns packet took own (VersionAsked minor class r at m is not) =
    goes_so Responder t _ opens (Heard packet ∷ turns) is not (record {
      coming = tt;
      stage = inl (record {
        message = ack message.sid (Ver 1 (min minor h.offer.minor) h.offer.class);
        owed_is = refl;
        next = record { of_subtype = refl; of_envelope = refl; of_sid = refl; named = tt };
        follows = inl (
          line_of Responder h message turns packet Info (Ver 1 minor class) (message.sid % 4294967296) took m refl,
          any_sid Responder (sid_of h) (message.sid % 4294967296) (met h.offer.both_rings Responder Version) turns tt (took_follows Responder h message turns packet Version took at),
        );
      });
    })
responder_row h t message opens turns packet took own (VersionRefused major minor class other low r at m is not) =
    goes_so Responder t _ opens (Heard packet ∷ turns) is not (record {
      coming = tt;
      stage = inr (record {
        waits = tt;
        refusal = refl;
        follows = hears_aside Responder (message.sid % 4294967296) (met h.offer.both_rings Responder Version) turns packet tt
            (any_sid Responder (sid_of h) (message.sid % 4294967296) (met h.offer.both_rings Responder Version) turns tt (took_follows Responder h message turns packet Version took at));
      });
    })
responder_row h t message opens turns packet took own (AttributesAsked bytes r at m test is not) =
    let same = mod_sid message.sid h.draft.sid (own Attributes at refl) in
    goes_so Responder t _ opens (Heard packet ∷ turns) is not (record {
      coming = tt;
      stage = inl (record {
        message = ack message.sid (Attr (answered_attributes h.offer h.draft.minor bytes));
        owed_is = refl;
        next = record { of_subtype = refl; of_envelope = refl; of_sid = same; named = tt };
        follows = inl (line_of Responder h message turns packet Info (Attr bytes) (sid_of h) took m same, took_follows Responder h message turns packet Attributes took at);
      });
    })
responder_row h t message opens turns packet took own (AttributesRefused bytes r at m is not) =
    goes_so Responder t _ opens (Heard packet ∷ turns) is not (refuses Responder h message turns packet Attributes (nack message.sid (Attr bytes)) took at refl)
responder_row h t message opens turns packet took own (RingAsked ident slots slot_size options count cookies at m test is not) =
    goes_so Responder t _ opens (Heard packet ∷ turns) is not (by_rings h.offer.both_rings refl)
  where
    same : message.sid % 4294967296 ≡ sid_of h
    same = mod_sid message.sid h.draft.sid (own PeerRing at refl)

    meets : EndsAs 1 3 (sid_of h) (half_heard turns) packet
    meets = line_of Responder h message turns packet Info (DringReg ident slots slot_size options count cookies) (sid_of h) took m same

    by_rings : (b : Bool) → h.offer.both_rings ≡ b
        → Comes b Responder (behind_ring b) (sid_of h) (Some (ack message.sid (DringReg message.sid slots slot_size options count cookies))) (Heard packet ∷ turns)
    by_rings true has = record {
      coming = refl;
      stage = inl (record {
        message = ack message.sid (DringReg message.sid slots slot_size options count cookies);
        owed_is = refl;
        next = record { of_subtype = refl; of_envelope = refl; of_sid = same; named = tt };
        follows = inl (meets, took_follows Responder h message turns packet PeerRing took at);
      });
    }
    by_rings false has = record {
      coming = tt;
      stage = inl (record {
        message = ack message.sid (DringReg message.sid slots slot_size options count cookies);
        owed_is = refl;
        next = record { of_subtype = refl; of_envelope = refl; of_sid = same; named = tt };
        follows = inl (meets, took_follows Responder h message turns packet PeerRing took at);
      });
    }
responder_row h t message opens turns packet took own (RingRefused ident slots slot_size options count cookies at m is not) =
    goes_so Responder t _ opens (Heard packet ∷ turns) is not
    (refuses Responder h message turns packet PeerRing (nack message.sid (DringReg ident slots slot_size options count cookies)) took at refl)
responder_row h t message opens turns packet took own (PeerAgreed ident slots slot_size options count cookies r at m is not) =
    let has : h.offer.both_rings ≡ true = took_coming Responder h message turns packet OwnRing took at in
    let same = mod_sid message.sid h.draft.sid (own OwnRing at refl) in
    goes_so Responder t (record (own_named h ident) { phase = PeerReady }) opens (Heard packet ∷ turns) is not (record {
      coming = tt;
      stage = inr (record {
        waits = tt;
        refusal = (waits_so Responder h turns took.none took.comes).refusal;
        follows = subst (λ (b : Bool). FollowsRow Responder (sid_of h) (own_ring_lines b Responder ++ opening_lines Responder) (Heard packet ∷ turns)) (sym has)
            (inl (
              line_of Responder h message turns packet Ack (DringReg ident slots slot_size options count cookies) (sid_of h) took m same,
              took_follows Responder h message turns packet OwnRing took at,
            ));
      });
    })
responder_row h t message opens turns packet took own (ReadyAsked at m is not) =
    let same = mod_sid message.sid h.draft.sid (own PeerReady at refl) in
    goes_so Responder t _ opens (Heard packet ∷ turns) is not (record {
      coming = tt;
      stage = inl (record {
        message = ack message.sid Rdx;
        owed_is = refl;
        next = record { of_subtype = refl; of_envelope = refl; of_sid = same; named = tt };
        follows = inl (line_of Responder h message turns packet Info Rdx (sid_of h) took m same, took_follows Responder h message turns packet PeerReady took at);
      });
    })
responder_row h t message opens turns packet took own (Opened r at m is now) =
    let same = mod_sid message.sid h.draft.sid (own OwnReady at refl) in
    Opens_ now (ap (λ (x : Handshake). x.phase) is)
    (subst (λ (x : Handshake). HandshakeOrder x.offer.both_rings Responder (Heard packet ∷ turns)) (sym is) (record {
      sid = sid_of h;
      opens = (line_of Responder h message turns packet Ack Rdx (sid_of h) took m same, took_follows Responder h message turns packet OwnReady took at);
    }))
responder_row h t message opens turns packet took own (VersionAgreed minor class r at m low is not) = other_role _ h r took.role_is
responder_row h t message opens turns packet took own (AttributesAgreed bytes r at m test is not) = other_role _ h r took.role_is
responder_row h t message opens turns packet took own (RingAgreed ident slots slot_size options count cookies r at has m is not) = other_role _ h r took.role_is
responder_row h t message opens turns packet took own (OneRingAgreed ident slots slot_size options count cookies r at one m is not) = other_role _ h r took.role_is
responder_row h t message opens turns packet took own (ReadyAgreed r at m is not) = other_role _ h r took.role_is

-- ONE THAT IS PUT
pub record Sent (role : Role) (h : Handshake) (turns : List Utterance) (packet : List ℕ) : Type 0 where
  pub role_is : h.role ≡ role
  pub message : Message
  pub owed : h.owed ≡ Some message
  pub says : SaysWhole turns packet message
  pub comes : HandshakeComes role h turns

sent_follows : (role : Role) (h : Handshake) (turns : List Utterance) (packet : List ℕ) (p : Phase) → Sent role h turns packet → h.phase ≡ p
    → FollowsRow role (sid_of h) (met h.offer.both_rings role p) (Said packet ∷ turns)
sent_follows role h turns packet p sent at =
    subst (λ (x : Phase). FollowsRow role (sid_of h) (met h.offer.both_rings role x) (Said packet ∷ turns)) at
    (last_follows h.offer.both_rings role h.phase (sid_of h) h.owed sent.message turns packet sent.owed sent.says sent.comes)

sent_coming : (role : Role) (h : Handshake) (turns : List Utterance) (packet : List ℕ) (p : Phase) → Sent role h turns packet → h.phase ≡ p → IsComing h.offer.both_rings role p
sent_coming role h turns packet p sent at = subst (IsComing h.offer.both_rings role) at sent.comes.coming

at_role : (role r : Role) (h t : Handshake) (opens : Bool) (turns : List Utterance) (packet : List ℕ) → h.role ≡ r → (sent : Sent role h turns packet)
    → (Sent r h turns packet → GoesOn r t opens (Said packet ∷ turns)) → GoesOn role t opens (Said packet ∷ turns)
at_role role r h t opens turns packet is sent goes =
    let same : r ≡ role = sym is ∙ sent.role_is in
    subst (λ (x : Role). GoesOn x t opens (Said packet ∷ turns)) same (goes (subst (λ (x : Role). Sent x h turns packet) (sym same) sent))

opens_by : (h : Handshake) (turns : List Utterance) (packet : List ℕ) → Sent Initiator h turns packet → h.phase ≡ PeerReadyTaken → OpensBy Initiator (sid_of h) (row h.offer.both_rings Initiator) (Said packet ∷ turns)
opens_by h turns packet sent at = of sent.comes.stage
  where
    of : Owing h.offer.both_rings Initiator h.phase (sid_of h) h.owed turns ⊎ Waiting h.offer.both_rings Initiator h.phase (sid_of h) h.owed turns
        → OpensBy Initiator (sid_of h) (row h.offer.both_rings Initiator) (Said packet ∷ turns)
    of (inl owing) =
        let one : Some sent.message ≡ Some owing.message = sym sent.owed ∙ owing.owed_is in
        let same : sent.message ≡ owing.message = cc one in
        let next = subst (λ (p : Phase). IsNext (met h.offer.both_rings Initiator p) (sid_of h) owing.message) at owing.next in
        let follows = subst (λ (p : Phase). FollowsRow Initiator (sid_of h) (drop 1 (met h.offer.both_rings Initiator p)) turns) at owing.follows in
        (said_line turns packet owing.message 2 5 (sid_of h) (subst (SaysWhole turns packet) same sent.says) next, follows)
    of (inr waiting) = absurd (subst NothingFollows at waiting.waits)

pub sent_row : (role : Role) (h t : Handshake) (opens : Bool) (turns : List Utterance) (packet : List ℕ) → Sent role h turns packet → RowSent h t opens
    → GoesOn role t opens (Said packet ∷ turns)
sent_row role h t opens turns packet sent (ReadyFollows r at is not) =
    at_role role Initiator h t opens turns packet r sent
    (λ mine.
    let has : h.offer.both_rings ≡ true = sent_coming Initiator h turns packet PeerRingTaken mine at in
    goes_so Initiator t _ opens (Said packet ∷ turns) is not (record {
      coming = tt;
      stage = inl (record {
        message = info h.draft.sid Rdx;
        owed_is = refl;
        next = record { of_subtype = refl; of_envelope = refl; of_sid = refl; named = tt };
        follows = subst (λ (b : Bool). FollowsRow Initiator (sid_of h) (own_ring_lines b Initiator ++ opening_lines Initiator) (Said packet ∷ turns)) (sym has)
            (sent_follows Initiator h turns packet PeerRingTaken mine at);
      });
    }))
sent_row role h t opens turns packet sent (RingFollows r at is not) =
    at_role role Responder h t opens turns packet r sent
    (λ mine. goes_so Responder t _ opens (Said packet ∷ turns) is not (record {
      coming = sent_coming Responder h turns packet PeerRingTaken mine at;
      stage = inl (record {
        message = info h.draft.sid (own_ring h.offer);
        owed_is = refl;
        next = record { of_subtype = refl; of_envelope = refl; of_sid = refl; named = tt };
        follows = sent_follows Responder h turns packet PeerRingTaken mine at;
      });
    }))
sent_row role h t opens turns packet sent (OwnReadyFollows r at is not) =
    at_role role Responder h t opens turns packet r sent
    (λ mine. goes_so Responder t _ opens (Said packet ∷ turns) is not (record {
      coming = tt;
      stage = inl (record {
        message = info h.draft.sid Rdx;
        owed_is = refl;
        next = record { of_subtype = refl; of_envelope = refl; of_sid = refl; named = tt };
        follows = sent_follows Responder h turns packet PeerReadyTaken mine at;
      });
    }))
sent_row role h t opens turns packet sent (Opens r at is now) =
    at_role role Initiator h t opens turns packet r sent
    (λ mine. Opens_ now (ap (λ (x : Handshake). x.phase) is)
    (subst (λ (x : Handshake). HandshakeOrder x.offer.both_rings Initiator (Said packet ∷ turns)) (sym is) (record { sid = sid_of h; opens = opens_by h turns packet mine at })))
sent_row role h t opens turns packet sent (Owes follows is not) =
    goes_so role t _ opens (Said packet ∷ turns) is not (record {
      coming = sent.comes.coming;
      stage = inr (record { waits = follows; refusal = tt; follows = sent_follows role h turns packet h.phase sent refl });
    })
