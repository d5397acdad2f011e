-- While a guest that nobody forged is in session, and nothing was lost, at most five packets of its wait for the switch's end. They are the
-- end of its handshake, an INFO, an ACK and its groups, each whole in one packet.
use Rattle.std.proofs.Common.{◌≡◌, ◌≢◌, ℕ, ◌+◌, ◌*◌, ◌≤◌, ◌⊎◌, inl, inr, Bool, true, false, Option, Some, None, List, [], ◌∷◌, ◌++◌, length, drop, refl, sym, subst, ap, ◌∙◌, arith, length-append}
use Rattle.std.specs.Prelude.{is_none, is_some}
use Rattle.std.proofs.lemmas.List.{append_cancel_left}
use Rattle.ldc_link.specs.declared.phase.Role.TheVariants.{Initiator, Responder}
use Rattle.ldc_link.specs.LinkState.{first_phase, is_established, is_up}
use Rattle.ldc_queue.specs.declared.end.ChannelState.{ChannelState}
use Rattle.ldc_queue.specs.declared.end.End.TheVariants.{A, B}
use Rattle.ldc_queue.specs.OneStream.{IsFront}
use Rattle.vio_handshake.proofs.Places.{AllSaid, AttributesSaid, Deal, PeerReadyAnswered, PeerRingAnswered, Place, ReadySaid, RingSaid, VersionSaid}
use Rattle.vio_handshake.specs.Messages.{ack}
use Rattle.vio_tag.proofs.Canonical.{length_canonical}
use Rattle.vio_tag.specs.declared.message.MsgBody.TheVariants.{Rdx}
use Rattle.vio_tag.specs.Spelling.{envelope_at, subtype_at}
use Rattle.lane_models.specs.Sayings.{half_said, heard, said}
use Rattle.lane_models.specs.WireAt.{IsUp}
use Rattle.lane_models.proofs.EndStanding.{open_up}
use Rattle.lane_models.proofs.HandshakePlaces.{AtPlace, EachOwn, deal, open_place}
use Rattle.lane_models.proofs.HandshakesPlaced.{envelope_reads, own_code}
use Rattle.lane_models.proofs.PartsSaid.{PartsSaid}
use Rattle.lane_models.proofs.PartsWaiting.{LongSaid, Unheard, room_of, unheard}
use Rattle.lane_models.proofs.Script.{bytes_at, last_or, said_at}
use Rattle.lane_models.specs.LinkPlaces.{BothUp, LinkPlace, live_phase}
use Rattle.lane_models.specs.LinkPlaces as link
use Rattle.lane_models.specs.Sides.{Sides, sides_of}
use Rattle.lane_models.proofs.Refuting.{none_some, true_false}
use Rattle.lane_models.specs.EndLog.{SessionLog}
use Rattle.lane_models.specs.NetEndState.{NetSession}
use Rattle.lane_models.specs.NetLaneState.{NetShape}
use Rattle.lane_models.specs.PortLog.{PortLog}
use Rattle.lane_models.specs.PortState.{PortState}
use Rattle.lane_models.specs.Spoken.{RangeAck, RangeInfo, Spoken, spoken}
use Rattle.port_laws.specs.Counted.{unsaid}
use Rattle.port_laws.specs.NetCore.{lane_core}
use Rattle.port_laws.specs.WaysStand.{Way, Ways, WaysStand, ack_first, acks_in, info_first, infos_in, or_new}
use Rattle.port_laws.proofs.Outbox.{EachFits, count-append, count_groups, listed, outbox, unheard as undrawn}
use Rattle.port_laws.proofs.PeerOpens.{TwoEnds, mine_at, theirs_at}
use Rattle.port_laws.proofs.PortTwoEnds.{answers_of, asks_of, open_turns}
use Rattle.port_laws.proofs.EndCounting.{own_left}
use Rattle.port_laws.proofs.PutCounts.{own_half}
use Rattle.port_laws.proofs.RingActs.{Finds, acting_at, open_both}
use Rattle.port_laws.proofs.StepCounts.{Acting}
use Rattle.port_laws.proofs.ExchangeGuest.{Between, ExchangeStands, guest_sid}
use Rattle.port_laws.proofs.EndMoves.{one_most}

-- LISTS
suffix_of : {X : Type 0} (xs five ys rest : List X) → xs ++ ys ≡ five ++ rest → length five ≤ length xs → (x : List X) × (xs ≡ five ++ x) × (rest ≡ x ++ ys)
suffix_of {X} xs [] ys rest is within = (xs, refl, sym is)
suffix_of {X} [] (y ∷ five) ys rest is within = absurd (omega (arith, within))
suffix_of {X} (x ∷ xs) (y ∷ five) ys rest is within =
    let heads : x ≡ y = cc is in
    let tails : xs ++ ys ≡ five ++ rest = cc is in
    let more = suffix_of xs five ys rest tails (omega (arith, within)) in
    (more.0, ap (λ (z : X). z ∷ xs) heads ∙ ap (λ (zs : List X). y ∷ zs) more.1, more.2)

drop_front : (xs ys : List (List ℕ)) → drop (length xs) (xs ++ ys) ≡ ys
drop_front [] ys = refl
drop_front (x ∷ xs) ys = drop_front xs ys

fits_front : (sid : ℕ) (xs ys : List (List ℕ)) → EachFits Initiator sid (xs ++ ys) → EachFits Initiator sid xs
fits_front sid [] ys fits = tt
fits_front sid (x ∷ xs) ys fits = (fits.0, fits_front sid xs ys fits.1)

own_behind : (d : Deal) (xs ys : List (List ℕ)) → EachOwn d (xs ++ ys) → EachOwn d ys
own_behind d [] ys each = each
own_behind d (x ∷ xs) ys each = own_behind d xs ys each.1

-- HOW MANY MESSAGES of a session: each is an INFO or an ACK of a ring, or of groups, with 56 bytes
abbrev counted : List (List ℕ) → ℕ
counted messages = length (infos_in messages) + length (acks_in messages) + count_groups messages

range_kind : (m : List ℕ) → envelope_at m ≡ 0x0042 → (subtype_at m ≡ 1) ⊎ (subtype_at m ≡ 2) → (spoken m ≡ RangeInfo) ⊎ (spoken m ≡ RangeAck)
range_kind m is given = grind arith

info_more : (k : Spoken) (m : List ℕ) (xs : List (List ℕ)) → length xs ≤ length (info_first k m xs)
info_more k m xs = grind arith

ack_more : (k : Spoken) (m : List ℕ) (xs : List (List ℕ)) → length xs ≤ length (ack_first k m xs)
ack_more k m xs = grind arith

tail_counted : (m : List ℕ) (messages : List (List ℕ)) → counted messages ≤ counted (m ∷ messages)
tail_counted m messages = omega (arith, info_more (spoken m) m (infos_in messages), ack_more (spoken m) m (acks_in messages))

one_counted : (m : List ℕ) (messages : List (List ℕ)) → (spoken m ≡ RangeInfo) ⊎ (spoken m ≡ RangeAck) → counted messages + 1 ≤ counted (m ∷ messages)
one_counted m messages given = grind (arith, ack_more, info_more)

groups_counted : (m : List ℕ) (messages : List (List ℕ)) → envelope_at m ≡ 0x0101 → counted messages + 1 ≤ counted (m ∷ messages)
groups_counted m messages is = grind (arith, info_more, ack_more)

own_few : (d : Deal) (sid : ℕ) (messages : List (List ℕ)) → EachOwn d messages → EachFits Initiator sid messages → room_of messages ≤ 111 * counted messages
own_few d sid [] each fits = omega arith
own_few d sid (m ∷ messages) each fits =
    let rest = own_few d sid messages each.1 fits.1 in
    let envelope = ap envelope_at each.0.is ∙ envelope_reads each.0.message each.0.body in
    grind (arith, each.0, fits.0, rest, envelope, own_code, one_counted, range_kind, groups_counted)

-- ONE DIRECTION has one INFO, or one ACK
infos_few : (slots : ℕ) (v w : SessionLog) (infos acks : List (List ℕ)) → Way slots v w infos acks → length infos ≤ 1
infos_few slots v w infos acks given = grind arith

acks_few : (slots : ℕ) (v w : SessionLog) (infos acks : List (List ℕ)) → Way slots v w infos acks → length acks ≤ 1
acks_few slots v w infos acks given = grind arith

acks_none : (slots : ℕ) (v w : SessionLog) (infos acks : List (List ℕ)) → v.asking ≡ false → Way slots v w infos acks → length acks ≤ 0
acks_none slots v w infos acks shut given = grind (arith, true_false)

-- WHERE THE SWITCH'S END SAID ALL of its handshake it heard five of the guest's six
five_said : (d : Deal) (n : Place) → n ≢ AllSaid → 6 ≤ length (said_at true d Responder n) → 5 ≤ length (said_at true d Initiator n)
five_said d n far many = grind arith

six_front : (d : Deal) → 6 ≤ length (said_at true d Initiator AllSaid)
six_front d = omega arith

five_heard : (d : Deal) (n : Place) (told more taken others : List (List ℕ)) → told ≡ said_at true d Responder n ++ more → taken ≡ said_at true d Initiator n ++ others
    → (n ≢ AllSaid → more ≡ []) → 6 ≤ length told → 5 ≤ length taken
five_heard d n told more taken others told_is taken_is only many =
    let long = length-append (said_at true d Initiator n) others in
    elim (last_or n) [
      | inl last ↦ (
          let six : 6 ≤ length (said_at true d Initiator n) = subst (λ (p : Place). 6 ≤ length (said_at true d Initiator p)) (sym last) (six_front d) in
          omega (arith, ap length taken_is, long, six))
      | inr far ↦ (
          let least = five_said d n far (omega (arith, many, ap length told_is, length-append (said_at true d Responder n) more, ap length (only far))) in
          omega (arith, ap length taken_is, long, least))
    ]

-- THE GUEST'S HANDSHAKE: five messages, and the sixth
abbrev first_five : Deal → List (List ℕ)
first_five d = bytes_at d VersionSaid ∷ bytes_at d AttributesSaid ∷ bytes_at d RingSaid ∷ bytes_at d PeerRingAnswered ∷ bytes_at d ReadySaid ∷ []

six_are : (d : Deal) (mine : List (List ℕ)) → said_at true d Initiator AllSaid ++ mine ≡ first_five d ++ bytes_at d PeerReadyAnswered ∷ mine
six_are d mine = refl

sixth_short : (d : Deal) → length (bytes_at d PeerReadyAnswered) ≤ 56
sixth_short d = omega (arith, length_canonical (ack d.sid Rdx))

-- BOTH LINKS are up where the responder's is
both_up : (place : LinkPlace) → is_established (link.phase_at Responder place) ≡ true → place ≡ BothUp
both_up BothUp is = refl
both_up _ is = absurd (cc is)

longer : (xs ys : List (List ℕ)) → IsFront xs ys → length xs ≤ length ys
longer xs ys front = omega (arith, ap length front.1, length-append xs front.0)

module _ (shape : NetShape) (u : PortState) (l : PortLog) (p : NetSession) (finds : Finds shape u l) (ways : WaysStand u.lane l) (exchange : ExchangeStands u.lane l) (up : IsUp A u.lane.wire.wire)
    (other_up : IsUp B u.lane.wire.wire) (session : u.lane.guest.session ≡ Some p) (whole : u.lane.wire.lossy ≡ false) (parts : PartsSaid l.transcript.a) (long : LongSaid l.transcript.a) where
  abbrev sides : Sides
  sides = sides_of (lane_core u.lane) l.transcript

  abbrev two_ends : TwoEnds (asks_of shape) (answers_of shape) Initiator sides
  two_ends = finds.two_ends.two_ends A

  abbrev d : Deal
  d = deal (asks_of shape) (answers_of shape) two_ends.meets.handshakes.sid

  opened : is_some u.lane.guest.session ≡ true
  opened = ap is_some session

  guest_in : l.guest.session ≢ None
  guest_in = λ none. true_false (sym opened ∙ (open_both Initiator shape.slots [] u.lane.guest l.guest finds.ready.guest).shut none)

  hub_said : 6 ≤ length (said l.transcript.b)
  hub_said = omega (arith, (open_turns shape (lane_core u.lane) l A finds.two_ends up opened).heard_long, longer (heard l.transcript.a) (said l.transcript.b) (finds.two_ends.front_a up))

  hub_link : is_up u.lane.hub.link ≡ true
  hub_link = by_link (is_up u.lane.hub.link) refl
    where
      by_link : (b : Bool) → is_up u.lane.hub.link ≡ b → is_up u.lane.hub.link ≡ true
      by_link true is = is
      by_link false is = absurd (omega (arith, hub_said, ap length (two_ends.theirs.below is).said_none))

  place : two_ends.meets.links.place ≡ BothUp
  place =
      both_up two_ends.meets.links.place
      (sym (ap is_established two_ends.meets.links.theirs) ∙ ap (λ (x : ChannelState). is_established (live_phase x (first_phase Responder) u.lane.hub.link.phase)) other_up ∙ hub_link)

  left : Unheard sides
  left = unheard sides two_ends.meets.converse two_ends.meets.links place whole up other_up parts long

  at : AtPlace true d Initiator u.lane.guest.handshake l.transcript.a
  at = mine_at (asks_of shape) (answers_of shape) Initiator sides two_ends up (open_up Initiator sides.mine.core l.transcript.a two_ends.mine opened)

  last : at.place ≡ AllSaid
  last = open_place true d Initiator sides.mine.core l.transcript.a two_ends.mine at opened

  says : heard l.transcript.b ++ left.messages ≡ first_five d ++ bytes_at d PeerReadyAnswered ∷ at.mine
  says = sym left.says ∙ at.said_is ∙ ap (λ (n : Place). said_at true d Initiator n ++ at.mine) last ∙ six_are d at.mine

  five : 5 ≤ length (heard l.transcript.b)
  five =
      let there = theirs_at (asks_of shape) (answers_of shape) Initiator sides two_ends other_up hub_link in
      five_heard d there.place (said l.transcript.b) there.mine (heard l.transcript.b) there.theirs there.said_is there.heard_is (λ far. (there.only far).0) hub_said

  suffix : (x : List (List ℕ)) × (heard l.transcript.b ≡ first_five d ++ x) × (bytes_at d PeerReadyAnswered ∷ at.mine ≡ x ++ left.messages)
  suffix = suffix_of (heard l.transcript.b) (first_five d) left.messages (bytes_at d PeerReadyAnswered ∷ at.mine) says (omega (arith, five))

  -- what it says fits
  between : Between u.lane.guest u.lane.hub l.transcript.a l.transcript.b p
  between = exchange p up other_up session

  undrawn_is : undrawn (said l.transcript.a) (heard l.transcript.b) ≡ left.messages
  undrawn_is = ap (drop (length (heard l.transcript.b))) left.says ∙ drop_front (heard l.transcript.b) left.messages

  asks : outbox u.lane.guest l.transcript.a l.transcript.b ≡ left.messages ++ listed (unsaid u.lane.guest)
  asks = ap (λ (xs : List (List ℕ)). xs ++ listed (unsaid u.lane.guest)) undrawn_is

  fits : EachFits Initiator u.lane.guest.handshake.draft.sid left.messages
  fits = fits_front u.lane.guest.handshake.draft.sid left.messages (listed (unsaid u.lane.guest)) (subst (EachFits Initiator u.lane.guest.handshake.draft.sid) asks between.asks_fit)

  groups_few : count_groups left.messages ≤ 1
  groups_few = grind (arith, between, asks, count-append, left, one_most)

  way : Ways l.shape.slots (said l.transcript.a) (heard l.transcript.a) (said l.transcript.b) (heard l.transcript.b) (or_new l.guest.session) (or_new l.hub.session)
  way = ways up other_up guest_in

  going : way.going ≡ left.messages
  going = append_cancel_left (heard l.transcript.b) way.going left.messages (sym way.goes ∙ left.says)

  info_few : length (infos_in left.messages) ≤ 1
  info_few = omega (arith, infos_few l.shape.slots (or_new l.guest.session) (or_new l.hub.session) (infos_in way.going) (acks_in way.coming) way.mine, ap (λ (xs : List (List ℕ)). length (infos_in xs)) going)

  ack_few : length (acks_in left.messages) ≤ 1
  ack_few = omega (arith, acks_few l.shape.slots (or_new l.hub.session) (or_new l.guest.session) (infos_in way.coming) (acks_in way.going) way.theirs, ap (λ (xs : List (List ℕ)). length (acks_in xs)) going)

  -- a switch's end that didn't hear the sixth message isn't in session, and said no INFO
  ack_none : length (heard l.transcript.b) ≡ 5 → length (acks_in left.messages) ≤ 0
  ack_none short = by_log l.hub.session refl
    where
      by_log : (log : Option SessionLog) → l.hub.session ≡ log → length (acks_in left.messages) ≤ 0
      by_log None is = grind (arith, acks_none, way, going)
      by_log (Some w) is =
          let hub = open_both Responder shape.slots u.queue u.lane.hub l.hub finds.ready.hub in
          let there = hub.opened (λ none. none_some w (sym none ∙ is)) in
          absurd (omega (arith, short, (open_turns shape (lane_core u.lane) l B finds.two_ends other_up there).heard_long))

  -- no part of a message was said
  acting : Acting Initiator shape.slots [] u.lane.guest l.guest l.transcript.a
  acting = acting_at shape A u l finds up

  no_half : half_said l.transcript.a ≡ []
  no_half = by_left u.lane.guest.link.to_send refl
    where
      owed : is_none u.lane.guest.handshake.owed ≡ true
      owed = ap is_none (guest_sid shape u.lane l finds.two_ends up opened).agreed.owed

      by_left : (bytes : List ℕ) → u.lane.guest.link.to_send ≡ bytes → half_said l.transcript.a ≡ []
      by_left bytes is = grind (arith, owed, acting, own_half, own_left)

  pub guest_few : length u.lane.wire.wire.to_b ≤ 5
  guest_few = by_suffix suffix.0 suffix.1 suffix.2
    where
      by_suffix : (x : List (List ℕ)) → heard l.transcript.b ≡ first_five d ++ x → bytes_at d PeerReadyAnswered ∷ at.mine ≡ x ++ left.messages → length u.lane.wire.wire.to_b ≤ 5
      by_suffix [] took rest =
          let all : EachFits Initiator u.lane.guest.handshake.draft.sid (bytes_at d PeerReadyAnswered ∷ at.mine) = subst (EachFits Initiator u.lane.guest.handshake.draft.sid) (sym rest) fits in
          omega (
            arith,
            left.few,
            ap length no_half,
            ap room_of rest,
            ap counted rest,
            sixth_short d,
            own_few d u.lane.guest.handshake.draft.sid at.mine at.mine_are all.1,
            tail_counted (bytes_at d PeerReadyAnswered) at.mine,
            info_few,
            groups_few,
            ack_none (ap length took),
          )
      by_suffix (y ∷ ys) took rest =
          let tails : at.mine ≡ ys ++ left.messages = cc rest in
          omega (
            arith,
            left.few,
            ap length no_half,
            own_few d u.lane.guest.handshake.draft.sid left.messages (own_behind d ys left.messages (subst (EachOwn d) tails at.mine_are)) fits,
            info_few,
            ack_few,
            groups_few,
          )
