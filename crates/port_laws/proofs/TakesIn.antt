-- What an end of a port in session, which nobody forged, notes of the packet that it takes.
use Rattle.std.proofs.Common.{◌≡◌, ℕ, ◌+◌, ◌*◌, ◌⊎◌, Bool, true, false, Some, List, [], ◌∷◌, ◌++◌, length, inl, inr, refl, sym, subst, ap, ◌∙◌, arith}
use Rattle.std.specs.Prelude.{◌==◌, ◌≤◌, zero, suc, drop, take as first_of}
use Rattle.std.proofs.lemmas.Bool.{eq-eqb}
use Rattle.std.proofs.lemmas.List.{length-append, length-drop, length-take}
use Rattle.std.specs.List.{flat_map}
use Rattle.ldc_link.specs.declared.phase.Role.{Role}
use Rattle.ldc_link.specs.declared.phase.Role.TheVariants.{Initiator, Responder}
use Rattle.ldc_packet.specs.declared.packet.Subtype.{Subtype}
use Rattle.ldc_packet.specs.declared.packet.Subtype.TheVariants.{Ack}
use Rattle.ldc_queue.specs.declared.end.ChannelState.TheVariants.{Up}
use Rattle.ldc_queue.specs.OneStream.{IsFront}
use Rattle.ldc_queue.specs.Transcript.{Utterance}
use Rattle.vio_handshake.specs.declared.session.Offer.{Offer}
use Rattle.vio_handshake.specs.Rules.{is_declined}
use Rattle.vio_tag.specs.declared.message.Message.{Message}
use Rattle.vio_tag.specs.declared.message.MsgBody.{MsgBody}
use Rattle.vio_tag.specs.declared.message.MsgBody.TheVariants.{Mcast}
use Rattle.vio_tag.specs.Spelling.{SpellsBody, SpellsMessage, addresses_at, envelope_at, envelope_code}
use Rattle.lane_models.specs.Sayings.{heard, said}
use Rattle.lane_models.proofs.HandshakePlaces.{IsOwn, deal}
use Rattle.lane_models.proofs.HandshakesPlaced.{envelope_reads, next_own, own_code}
use Rattle.lane_models.specs.EndStep.{IsOfSession}
use Rattle.lane_models.specs.Sides.{Sides}
use Rattle.lane_models.specs.Groups.{groups_after}
use Rattle.lane_models.specs.NetEndState.{GroupsReply, NetEndState, NetSession, with_session}
use Rattle.lane_models.specs.NetEndTaking.{GoesOn, NetTake, active, hears_message, in_session, replying}
use Rattle.lane_models.specs.Spoken.{addresses_of, count_of, set_of, seven_of}
use Rattle.port_laws.proofs.HearsIn.{HearsOne, OwnRead, own_read}
use Rattle.port_laws.proofs.MessageDoes.{Acks, Asks, MessageDoes, Names, Told, Declines}
use Rattle.port_laws.proofs.Outbox.{MessageFits, is_groups}
use Rattle.port_laws.proofs.PeerOpens.{TwoEnds}
use Rattle.port_laws.proofs.GroupsExchanged.{ReplyAgrees}
use Rattle.vio_tag.proofs.Reading.{only_spelled}
use Rattle.lane_models.proofs.Refuting.{true_false}

-- THE NEXT MESSAGE is one of the session, and is read as that
pub next_is_own : (asks answers : Offer) (role : Role) (s : Sides) (bytes : List ℕ) → (two_ends : TwoEnds asks answers role s) → s.mine.state ≡ Up → s.mine.core.is_open ≡ true → s.theirs.state ≡ Up
    → IsFront (heard s.mine.utterances ++ bytes ∷ []) (said s.theirs.utterances) → IsOwn (deal asks answers two_ends.meets.handshakes.sid) bytes
next_is_own asks answers role s bytes two_ends up opened other_up front =
    next_own asks answers role s bytes (record { mine = two_ends.mine; theirs = two_ends.theirs }) two_ends.meets.handshakes up opened other_up front

fitting_long : (role : Role) (sid : ℕ) (bytes : List ℕ) → MessageFits role sid bytes → (envelope_at bytes ≡ 0x0042) ⊎ (envelope_at bytes ≡ 0x0101) → length bytes ≡ 56
fitting_long role sid bytes given given_2 = grind arith

pub next_read : (asks answers : Offer) (role r : Role) (s : Sides) (bytes : List ℕ) (sid : ℕ) → (two_ends : TwoEnds asks answers role s) → s.mine.state ≡ Up → s.mine.core.is_open ≡ true → s.theirs.state ≡ Up
    → IsFront (heard s.mine.utterances ++ bytes ∷ []) (said s.theirs.utterances) → MessageFits r sid bytes → OwnRead bytes two_ends.meets.handshakes.sid
next_read asks answers role r s bytes sid two_ends up opened other_up front fits =
    let by_code : (code : ℕ) → envelope_at bytes ≡ code → (code ≡ 0x0042) ⊎ (code ≡ 0x0101) → (envelope_at bytes ≡ 0x0042) ⊎ (envelope_at bytes ≡ 0x0101) = λ code is given.
    grind arith in
    let own = next_is_own asks answers role s bytes two_ends up opened other_up front in
    let envelope : envelope_at bytes ≡ envelope_code own.message.body = ap envelope_at own.is ∙ envelope_reads own.message own.body in
    own_read (deal asks answers two_ends.meets.handshakes.sid) bytes own two_ends.meets.handshakes.small
    (fitting_long r sid bytes fits (by_code (envelope_code own.message.body) envelope (own_code own.message.body own.body)))

-- so it is taken as the session does
pub record InSession (role : Role) (s : NetEndState) (p : NetSession) (memory : List ℕ) (message : Message) (take : NetTake) : Type 0 where
  pub hears : take ≡ hears_message role s memory (Some p) message
  pub is : take ≡ in_session role s p memory message message.subtype message.body

pub in_own_session : (role : Role) (s : NetEndState) (p : NetSession) (memory packet : List ℕ) (turns : List Utterance) (take : NetTake) (sid : ℕ) → (one : HearsOne role s memory turns packet take)
    → s.session ≡ Some p → s.handshake.sid ≡ Some sid → (own : OwnRead one.bytes sid) → InSession role (record s { link = one.link }) p memory own.message take
in_own_session role s p memory packet turns take sid one session knows own = grind (arith, only_spelled, eq-eqb)

-- WHAT THE GUEST NOTES
pub record GuestNotes (s t : NetEndState) (p q : NetSession) (m : List ℕ) : Type 0 where
  pub session : t.session ≡ Some q
  pub groups : t.groups ≡ s.groups
  pub handshake : t.handshake ≡ s.handshake
  pub sends : t.link.to_send ≡ s.link.to_send
  pub reply : q.reply ≡ p.reply
  pub untold : q.untold ≡ p.untold
  pub told : is_groups m ≡ true → q.telling ≡ false
  pub same : is_groups m ≡ false → q.telling ≡ p.telling

range_groups : (m : List ℕ) → envelope_at m ≡ 0x0042 → is_groups m ≡ false
range_groups m is = ap (λ (n : ℕ). n == 0x0101) is

groups_groups : (m : List ℕ) → envelope_at m ≡ 0x0101 → is_groups m ≡ true
groups_groups m is = ap (λ (n : ℕ). n == 0x0101) is

of_session : {X : Type 0} (s : Subtype) (b : MsgBody) → IsOfSession b → is_declined s b ≡ true → X
of_session {X} s b of is = grind arith

guest_noted : (s t n : NetEndState) (p q : NetSession) (m : List ℕ) → t ≡ n → n.session ≡ Some q → n.groups ≡ s.groups
    → n.handshake ≡ s.handshake → n.link.to_send ≡ s.link.to_send → q.reply ≡ p.reply → q.untold ≡ p.untold
    → (is_groups m ≡ true → q.telling ≡ false) → (is_groups m ≡ false → q.telling ≡ p.telling) → GuestNotes s t p q m
guest_noted s t n p q m is session groups handshake sends reply untold told same = grind arith

pub guest_notes : (s t : NetEndState) (p : NetSession) (memory new m : List ℕ) (message : Message) → IsOfSession message.body → SpellsMessage m message
    → MessageDoes Initiator s p memory message.subtype message.body t new → (q : NetSession) × GuestNotes s t p q m
guest_notes s t p memory new m message of spells (Asks seq ident start end state info body place same is) =
    let range = range_groups m (spells.envelope ∙ ap envelope_code body) in
    (_, guest_noted s t _ p (active p seq start) m is refl refl refl refl refl refl (λ one. true_false (sym one ∙ range)) (λ none. refl))
guest_notes s t p memory new m message of spells (Acks seq ident start end state ack body begins inside within done same is) =
    let range = range_groups m (spells.envelope ∙ ap envelope_code body) in
    (_, guest_noted s t _ p _ m is refl refl refl refl refl refl (λ one. true_false (sym one ∙ range)) (λ none. refl))
guest_notes s t p memory new m message of spells (Names set count addresses groups reply answers role info body same is) = absurd (cc role)
guest_notes s t p memory new m message of spells (Told set count addresses role ack body telling same is) =
    let named = groups_groups m (spells.envelope ∙ ap envelope_code body) in
    (_, guest_noted s t _ p (record p { telling = false }) m is refl refl refl refl refl refl (λ one. refl) (λ none. true_false (sym named ∙ none)))
guest_notes s t p memory new m message of spells (Declines h declined same is) = of_session message.subtype message.body of declined

-- WHAT THE SWITCH'S END NOTES of a range
pub record HubNotes (s t : NetEndState) (p q : NetSession) (m : List ℕ) : Type 0 where
  pub session : t.session ≡ Some q
  pub handshake : t.handshake ≡ s.handshake
  pub sends : t.link.to_send ≡ s.link.to_send
  pub range : is_groups m ≡ false
  pub groups : t.groups ≡ s.groups
  pub reply : q.reply ≡ p.reply

-- and of groups
pub record HubLearns (s t : NetEndState) (q : NetSession) (m : List ℕ) : Type 0 where
  pub session : t.session ≡ Some q
  pub handshake : t.handshake ≡ s.handshake
  pub sends : t.link.to_send ≡ s.link.to_send
  pub named : is_groups m ≡ true
  pub groups : t.groups ≡ addresses_of m
  pub answer : GroupsReply
  pub reply : q.reply ≡ Some answer
  pub agrees : ReplyAgrees answer

range_notes : (s t n : NetEndState) (p q : NetSession) (m : List ℕ) → envelope_at m ≡ 0x0042 → t ≡ n → q.reply ≡ p.reply → n.session ≡ Some q
    → n.handshake ≡ s.handshake → n.link.to_send ≡ s.link.to_send → n.groups ≡ s.groups → HubNotes s t p q m
range_notes s t n p q m range is reply session handshake sends groups = grind (arith, range_groups)

addresses_long : (n at : ℕ) (bytes : List ℕ) → at + 6 * n ≤ length bytes → length (flat_map (λ (address : List ℕ). address) (addresses_at at n bytes)) ≡ 6 * n
addresses_long zero at bytes within = omega arith
addresses_long (suc n) at bytes within =
    let rest = addresses_long n (at + 6) bytes (omega (arith, within)) in
    let all = length-append (first_of 6 (drop at bytes)) (flat_map (λ (address : List ℕ). address) (addresses_at (at + 6) n bytes)) in
    omega (arith, rest, all, length-take 6 (drop at bytes), length-drop at bytes, within)

pub hub_notes : (s t : NetEndState) (p : NetSession) (memory new m : List ℕ) (message : Message) (opens : Bool) → IsOfSession message.body → SpellsMessage m message → length m ≡ 56
    → (envelope_at m ≡ 0x0101 → groups_after (set_of m) (count_of m) (seven_of m) s.groups ≡ Some (addresses_of m))
    → GoesOn t opens new ≡ in_session Responder s p memory message message.subtype message.body → MessageDoes Responder s p memory message.subtype message.body t new
    → (q : NetSession) × (HubNotes s t p q m ⊎ HubLearns s t q m)
hub_notes s t p memory new m message opens of spells long learns goes (Asks seq ident start end state info body place same is) =
    (_, inl (range_notes s t _ p (active p seq start) m (spells.envelope ∙ ap envelope_code body) is refl refl refl refl refl))
hub_notes s t p memory new m message opens of spells long learns goes (Acks seq ident start end state ack body begins inside within done same is) =
    (_, inl (range_notes s t _ p _ m (spells.envelope ∙ ap envelope_code body) is refl refl refl refl refl))
hub_notes s t p memory new m message opens of spells long learns goes (Names set count addresses groups reply answers role info body same is) =
    let named : envelope_at m ≡ 0x0101 = spells.envelope ∙ ap envelope_code body in
    let fields : SpellsBody m (Mcast set count addresses) = subst (SpellsBody m) body spells.body in
    let known : groups_after set count addresses s.groups ≡ Some (addresses_of m) = grind arith in
    let answer : GroupsReply = record { subtype = Ack; set = set; count = count; addresses = addresses } in
    let takes : GoesOn t opens new ≡ GoesOn (with_session (replying answer p) (record s { groups = addresses_of m })) false memory = grind arith in
    let left : t ≡ with_session (replying answer p) (record s { groups = addresses_of m }) = cc takes in (
      replying answer p,
      inr (record {
        session = ap (λ (x : NetEndState). x.session) left;
        handshake = ap (λ (x : NetEndState). x.handshake) left;
        sends = ap (λ (x : NetEndState). x.link.to_send) left;
        named = groups_groups m named;
        groups = ap (λ (x : NetEndState). x.groups) left;
        answer = answer;
        reply = refl;
        agrees = record {
          subtype = refl;
          long = ap (λ (xs : List (List ℕ)). length (flat_map (λ (address : List ℕ). address) xs)) fields.2 ∙ addresses_long 7 10 m (omega (arith, long));
        };
      }),
    )
hub_notes s t p memory new m message opens of spells long learns goes (Told set count addresses role ack body telling same is) = absurd (cc role)
hub_notes s t p memory new m message opens of spells long learns goes (Declines h declined same is) = of_session message.subtype message.body of declined
