-- What always holds of an end stays so where it takes a packet, but for its frames.
use Rattle.std.proofs.Common.{◌≡◌, ◌≢◌, ℕ, ◌+◌, ◌<◌, ◌≤◌, Bool, true, false, List, [], ◌∷◌, length, drop, Option, Some, None, Result, Ok, Err, refl, sym, ap, ◌∙◌, subst, arith}
use Rattle.std.specs.Prelude.{◌%◌, ◌==◌, ◌&&◌, not, nat_le, nat_lt, take, if◌then◌else◌, ⊤}
use Rattle.std.specs.List.{filter}
use Rattle.std.proofs.lemmas.Bool.{leb-true}
use Rattle.ldc_link.specs.declared.phase.Role.{Role}
use Rattle.ldc_link.specs.declared.phase.Role.TheVariants.{Initiator, Responder}
use Rattle.ldc_link.specs.LinkState.{LinkState, cleared, is_up}
use Rattle.ldc_link.specs.Taking.{Heard, LinkTake, TakesBytes, Unheard}
use Rattle.ldc_packet.specs.declared.packet.Subtype.{Subtype}
use Rattle.ldc_packet.specs.declared.packet.Subtype.TheVariants.{Ack, Info, Nack}
use Rattle.vio_handshake.specs.declared.handshake.Handshake.{Handshake}
use Rattle.vio_handshake.specs.declared.handshake.Phase.TheVariants as handshake
use Rattle.vio_handshake.specs.Rules.{Faults, Goes, GoesOpen, HandshakeTake, handshake_take, sid_fault}
use Rattle.vio_handshake.specs.State.{handshake_up}
use Rattle.vio_tag.specs.declared.cause.Cause.{Cause}
use Rattle.vio_tag.specs.declared.cause.Cause.TheVariants as the_cause
use Rattle.vio_tag.specs.declared.message.Message.{Message}
use Rattle.vio_tag.specs.declared.message.MsgBody.{MsgBody}
use Rattle.vio_tag.specs.declared.message.MsgBody.TheVariants.{DringData, Mcast}
use Rattle.vio_tag.specs.declared.message.TagFault.{TagFault}
use Rattle.vio_tag.specs.Decoding.{Decodes}
use Rattle.vio_tag.specs.Form.{IsWellFormed}
use Rattle.lane_models.specs.EndPuts.{handshake_risen}
use Rattle.lane_models.specs.Ranges.{is_other}
use Rattle.dring.specs.Slots.{range_length}
use Rattle.lane_models.specs.Groups.{at_most_seven, groups_after, set_groups, with_groups, without_groups}
use Rattle.lane_models.specs.NetEndState.{NetEndState, NetSession, with_session}
use Rattle.lane_models.specs.NetEndTaking.{GoesOn, HearsLink, HearsWhole, NetTake, NetTakes, Resets, active, by_handshake, ends_outside, first_undone, hears_message, in_session, opens_by_take, reads, refused, replying, risen, sid_first, takes_ack, takes_done, takes_groups, takes_info, takes_range, told}
use Rattle.vnet_port.proofs.HandshakeKept.{HandshakeWent, goes_open, goes_went, opens_open, opens_went, up_version, up_went}
use Rattle.vnet_port.proofs.KeptPuts.{Core, Stays, both_ways, fixed_of, through, with_core, within}
use Rattle.vnet_port.proofs.LinkTakes.{LinkTook, bytes_took, took_phase, whole_up}
use Rattle.vnet_port.specs.Hearing.{looked_at}
use Rattle.vnet_port.specs.Standing.{Begins, HandshakeStands, IsPhaseOf, IsQuiet, SessionStands}

-- GROUPS: at most seven are in the list after a message
fewer : (p : List ℕ → Bool) (groups : List (List ℕ)) → length (filter p groups) ≤ length groups
fewer p [] = omega arith
fewer p (address ∷ groups) = fewer_in (p address) (fewer p groups)
  where
    fewer_in : (keeps : Bool) → length (filter p groups) ≤ length groups → length (if keeps then address ∷ filter p groups else filter p groups) ≤ length (address ∷ groups)
    fewer_in true few = omega (arith, few)
    fewer_in false few = omega (arith, few)

abbrev IfFew : Option (List (List ℕ)) → Type 0
IfFew None = ⊤
IfFew (Some groups) = length groups ≤ 7

few_if : (test : Bool) (x y : Option (List (List ℕ))) → (test ≡ true → IfFew x) → IfFew y → IfFew (if test then x else y)
few_if true x y first second = first refl
few_if false x y first second = second

few_after : (set count : ℕ) (addresses groups : List (List ℕ)) → length groups ≤ 7 → IfFew (groups_after set count addresses groups)
few_after set count addresses groups few =
    let named : List (List ℕ) = take count addresses in
    let all : List (List ℕ) = with_groups groups named in
    let left : length (without_groups groups named) ≤ length groups = fewer _ groups in
    few_if (nat_le count 7) (set_groups set named groups) None (λ _.
    few_if (set == 1) (at_most_seven all) (if set == 0 then Some (without_groups groups named) else None)
    (λ _. few_if (nat_le (length all) 7) (Some all) None (λ is. leb-true (length all) 7 is) tt)
    (few_if (set == 0) (Some (without_groups groups named)) None (λ _. omega (arith, left, few)) tt)) tt

-- WHAT A TAKE LEAVES
abbrev TakeStays : NetEndState → NetTake → Type 0
TakeStays s (GoesOn t opens memory) = Stays s t
TakeStays s (Resets cause) = ⊤

take_if : (s : NetEndState) (b : Bool) (one other : NetTake) → TakeStays s one → TakeStays s other → TakeStays s (if b then one else other)
take_if s true one other yes_ no_ = yes_
take_if s false one other yes_ no_ = no_

-- A MESSAGE OF THE HANDSHAKE
goes_session : (slots : ℕ) (h t : Handshake) (message : Message) (session : Option NetSession) → handshake_take h message ≡ Goes t
    → SessionStands slots h.phase session → SessionStands slots t.phase session
goes_session slots h t message None is stands = tt
goes_session slots h t message (Some p) is stands = (goes_open h t message stands.0 is, stands.1)

no_open : (slots : ℕ) (h t : Handshake) (session : Option NetSession) → t.phase ≡ handshake.Open → SessionStands slots h.phase session → SessionStands slots t.phase session
no_open slots h t None opened stands = tt
no_open slots h t (Some p) opened stands = (opened, stands.1)

opens_stays : (role : Role) (s t : NetEndState) (memory : List ℕ) → Core t → t.handshake.phase ≡ handshake.Open → fixed_of t ≡ fixed_of s → TakeStays s (opens_by_take role t memory)
opens_stays Initiator s t memory core opened same = record { core = core; fixed = same }
opens_stays Responder s t memory core opened same =
    let some = core.sized.some_slots in
    record { core = with_core t _ t.frames t.groups t.last core opened (omega arith) core.sized.groups; fixed = same }

module _ (s : NetEndState) (core : Core s) (up : is_up s.link ≡ true) where
  went_core : (h : Handshake) → HandshakeWent s.link.role s.address s.slots s.handshake h → SessionStands s.slots h.phase s.session → Core (record s { handshake = h })
  went_core h went session = record {
    sized = core.sized;
    link = core.link;
    handshake = went.stands;
    began = record { down = λ down. absurd (both_ways (is_up s.link) up down); up = λ up. went.began (core.began.up up) };
    session = session;
  }

  handshake_stays : (role : Role) (memory : List ℕ) (message : Message) (take : HandshakeTake) → IsWellFormed message → handshake_take s.handshake message ≡ take
      → TakeStays s (by_handshake role s memory take)
  handshake_stays role memory message (Goes h) form is = record {
    core = went_core h (goes_went s.link.role s.address s.slots s.handshake core.handshake h message form is)
        (goes_session s.slots s.handshake h message s.session is core.session);
    fixed = refl;
  }
  handshake_stays role memory message (GoesOpen h) form is =
      let opened : h.phase ≡ handshake.Open = opens_open s.handshake h message is in
      opens_stays role s (record s { handshake = h }) memory
      (went_core h (opens_went s.link.role s.address s.slots s.handshake core.handshake h message form is)
      (no_open s.slots s.handshake h s.session opened core.session)) opened refl
  handshake_stays role memory message (Faults cause) form is = tt

-- A MESSAGE OF THE SESSION
module _ (s : NetEndState) (p : NetSession) (core : Core s) (is : s.session ≡ Some p) (memory : List ℕ) where
  other_stays : (q : NetSession) (frames groups : List (List ℕ)) → q.place ≡ p.place → length groups ≤ 7
      → Stays s (record s { frames = frames; groups = groups; session = Some q; last = s.last })
  other_stays q frames groups place few =
      let below : p.place < s.slots = within s p core is in
      record { core = with_core s q frames groups s.last core (through s p core is) (omega (arith, place, below)) few; fixed = refl }

  same_stays : (q : NetSession) → q.place ≡ p.place → Stays s (with_session q s)
  same_stays q place = other_stays q s.frames s.groups place core.sized.groups

  info_stays : (seq ident start end : ℕ) → TakeStays s (takes_info s p memory seq ident start end)
  info_stays seq ident start end =
      take_if s (is_other s.handshake.draft.ident_peer ident) (Resets (the_cause.Ident s.handshake.draft.ident_peer ident)) _ tt
      (take_if s (is_other p.seq seq) (Resets (the_cause.Seq p.seq seq)) _ tt
      (take_if s (is_other p.place start) (Resets (the_cause.Slot p.place start)) _ tt
      (take_if s (ends_outside s end) (Resets (the_cause.RangeEnd end)) _ tt (same_stays (active p seq start) refl))))

  done_stays : (count : ℕ) (fault : Option Cause) → TakeStays s (takes_done s p memory count fault)
  done_stays count (Some cause) = tt
  done_stays count None = other_stays (record p { seen = p.seen + count; asking = false }) (drop count s.frames) s.groups refl core.sized.groups

  ack_stays : (ident start end : ℕ) → TakeStays s (takes_ack s p memory ident start end)
  ack_stays ident start end =
      let count : ℕ = range_length s.slots start end in
      take_if s (is_other s.handshake.draft.ident_own ident) (Resets (the_cause.Ident s.handshake.draft.ident_own ident)) _ tt
      (take_if s (is_other (p.seen % s.slots) start) (Resets (the_cause.Slot (p.seen % s.slots) start)) _ tt
      (take_if s (nat_lt end s.slots && nat_le (p.seen + count) p.published) (takes_range s p memory count) (Resets (the_cause.RangeEnd end))
      (done_stays count (first_undone s.slots memory p.seen count)) tt))

  groups_stay : (set count : ℕ) (addresses : List (List ℕ)) (groups : Option (List (List ℕ))) → IfFew groups → TakeStays s (takes_groups s p memory set count addresses groups)
  groups_stay set count addresses None few = same_stays (replying (record { subtype = Nack; set = set; count = count; addresses = addresses }) p) refl
  groups_stay set count addresses (Some groups) few =
      other_stays (replying (record { subtype = Ack; set = set; count = count; addresses = addresses }) p) s.frames groups refl few

  told_stays : TakeStays s (told s p memory)
  told_stays =
      take_if s p.telling (GoesOn (with_session (record p { telling = false }) s) false memory) (Resets the_cause.Order) (same_stays (record p { telling = false }) refl) tt

  refused_stays : TakeStays s (refused p)
  refused_stays = take_if s p.telling (Resets the_cause.Refused) (Resets the_cause.Order) tt tt

  named_stay : (set count : ℕ) (addresses : List (List ℕ)) → TakeStays s (takes_groups s p memory set count addresses (groups_after set count addresses s.groups))
  named_stay set count addresses =
      groups_stay set count addresses (groups_after set count addresses s.groups) (few_after set count addresses s.groups core.sized.groups)

in_stays : (role : Role) (s : NetEndState) (p : NetSession) (memory : List ℕ) (message : Message) (subtype : Subtype) (b : MsgBody) → Core s → is_up s.link ≡ true
    → s.session ≡ Some p → IsWellFormed message → TakeStays s (in_session role s p memory message subtype b)
in_stays Initiator s p memory message Info (DringData seq ident start end state) core up is form = info_stays s p core is memory seq ident start end
in_stays Responder s p memory message Info (DringData seq ident start end state) core up is form = info_stays s p core is memory seq ident start end
in_stays Initiator s p memory message Ack (DringData seq ident start end state) core up is form = ack_stays s p core is memory ident start end
in_stays Responder s p memory message Ack (DringData seq ident start end state) core up is form = ack_stays s p core is memory ident start end
in_stays Initiator s p memory message Nack (DringData seq ident start end state) core up is form = tt
in_stays Responder s p memory message Nack (DringData seq ident start end state) core up is form = tt
in_stays Responder s p memory message Info (Mcast set count addresses) core up is form = named_stay s p core is memory set count addresses
in_stays Initiator s p memory message Ack (Mcast set count addresses) core up is form = told_stays s p core is memory
in_stays Initiator s p memory message Nack (Mcast set count addresses) core up is form = refused_stays s p core is memory
in_stays role s p memory message _ _ core up is form = handshake_stays s core up role memory message (handshake_take s.handshake message) form refl

or_stays : (s : NetEndState) (fault : Option Cause) (rest : NetTake) → TakeStays s rest → TakeStays s (sid_first fault rest)
or_stays s None rest stays = stays
or_stays s (Some cause) rest stays = tt

hears_stays : (role : Role) (s : NetEndState) (memory : List ℕ) (session : Option NetSession) (message : Message) → Core s → is_up s.link ≡ true → s.session ≡ session
    → IsWellFormed message → TakeStays s (hears_message role s memory session message)
hears_stays role s memory None message core up is form = handshake_stays s core up role memory message (handshake_take s.handshake message) form refl
hears_stays role s memory (Some p) message core up is form =
    or_stays s (sid_fault s.handshake.sid message.sid) (in_session role s p memory message message.subtype message.body)
    (in_stays role s p memory message message.subtype message.body core up is form)

reads_stay : (role : Role) (s : NetEndState) (memory bytes : List ℕ) (decoded : Result Message TagFault) → Core s → is_up s.link ≡ true → Decodes bytes decoded
    → TakeStays s (reads role s memory decoded)
reads_stay role s memory bytes (Ok message) core up decodes = hears_stays role s memory s.session message core up refl decodes.message.0
reads_stay role s memory bytes (Err fault) core up decodes = tt

-- THE LINK after the packet, and the handshake that rose with it, without the message that became whole
version_down : (h : Handshake) → h.phase ≡ handshake.Version → h.phase ≡ handshake.Down → ⊥
version_down h version down = cc

module _ (s : NetEndState) (k : LinkState) (core : Core s) (took : LinkTook s.link k) where
  abbrev behind : Handshake → NetEndState
  behind h = record s { link = cleared k; handshake = h }

  same_core : is_up k ≡ is_up s.link → Core (behind s.handshake)
  same_core same = record {
    sized = core.sized;
    link = record { phase = took_phase s.link k took core.link.phase; seen = refl };
    handshake = subst (λ (role : Role). HandshakeStands role s.address s.slots s.handshake) (sym took.role) core.handshake;
    began = record {
      down = λ down.
          let quiet : IsQuiet s.link s.handshake s.session = core.began.down (sym same ∙ down) in
          record { phase = quiet.phase; owed = quiet.owed; to_send = took.to_send ∙ quiet.to_send; closed = quiet.closed };
      up = λ up. core.began.up (sym same ∙ up);
    };
    session = core.session;
  }

  rises_core : is_up s.link ≡ false → is_up k ≡ true → Core (behind (handshake_up s.handshake))
  rises_core down up =
      let quiet : IsQuiet s.link s.handshake s.session = core.began.down down in
      record {
        sized = core.sized;
        link = record { phase = took_phase s.link k took core.link.phase; seen = refl };
        handshake = subst (λ (role : Role). HandshakeStands role s.address s.slots (handshake_up s.handshake)) (sym took.role)
            (up_went s.link.role s.address s.slots s.handshake core.handshake).stands;
        began = record {
          down = λ falls. absurd (both_ways (is_up k) up falls);
          up = λ _ falls. version_down (handshake_up s.handshake) (up_version s.handshake) falls;
        };
        session = subst (λ (x : Option NetSession). SessionStands s.slots (handshake_up s.handshake).phase x) (sym quiet.closed) tt;
      }

  risen_as : (now was : Bool) → is_up k ≡ now → is_up s.link ≡ was
      → handshake_risen s.link k s.handshake ≡ (if now && not was then handshake_up s.handshake else s.handshake)
  risen_as now was now_is was_is =
      ap (λ (b : Bool). if b && not (is_up s.link) then handshake_up s.handshake else s.handshake) now_is
      ∙ ap (λ (b : Bool). if now && not b then handshake_up s.handshake else s.handshake) was_is

  responder_core : (now was : Bool) → is_up k ≡ now → is_up s.link ≡ was → Core (behind (handshake_risen s.link k s.handshake))
  responder_core true true now was = subst (λ (h : Handshake). Core (behind h)) (sym (risen_as true true now was)) (same_core (now ∙ sym was))
  responder_core true false now was = subst (λ (h : Handshake). Core (behind h)) (sym (risen_as true false now was)) (rises_core was now)
  responder_core false false now was = subst (λ (h : Handshake). Core (behind h)) (sym (risen_as false false now was)) (same_core (now ∙ sym was))
  responder_core false true now was = absurd (both_ways (is_up k) (took.phase.stays was) now)

  risen_core : (role : Role) → s.link.role ≡ role → Core (behind (risen role s.link k s.handshake))
  risen_core Initiator is =
      let begins : Begins s.link.phase = subst (λ (role : Role). IsPhaseOf role s.link.phase) is core.link.phase in
      same_core (took.phase.begins begins).1
  risen_core Responder is = responder_core (is_up k) (is_up s.link) refl refl

-- the message that became whole
same_link : (r : NetEndState) → r.link.whole ≡ None → looked_at r ≡ r
same_link r none = ap (λ (whole : Option (List ℕ)). record r { link = record r.link { whole = whole } }) (sym none)

fixed_stays : (s r : NetEndState) (take : NetTake) → fixed_of r ≡ fixed_of s → TakeStays r take → TakeStays s take
fixed_stays s r (GoesOn t opens memory) same stays = record { core = stays.core; fixed = stays.fixed ∙ same }
fixed_stays s r (Resets cause) same stays = tt

whole_stays : (role : Role) (r : NetEndState) (memory : List ℕ) (whole : Option (List ℕ)) (take : NetTake) → Core (looked_at r) → r.link.whole ≡ whole
    → (whole ≢ None → is_up r.link ≡ true) → HearsWhole role r memory whole take → TakeStays r take
whole_stays role r memory None take core is up hears =
    subst (TakeStays r) (sym hears) (record { core = subst Core (same_link r is) core; fixed = refl })
whole_stays role r memory (Some bytes) take core is up hears =
    let on : is_up r.link ≡ true = up (λ none. some_none bytes none) in
    subst (TakeStays r) (sym hears.2) (fixed_stays r (looked_at r) (reads role (looked_at r) memory hears.0) refl (reads_stay role (looked_at r) memory bytes hears.0 core on hears.1))
  where
    some_none : (bytes : List ℕ) → Some bytes ≡ None → ⊥
    some_none bytes is = cc

link_stays : (s : NetEndState) (memory packet : List ℕ) (link : LinkTake) (take : NetTake) → Core s → TakesBytes s.link packet link → HearsLink s.link.role s memory link take
    → TakeStays s take
link_stays s memory packet (Heard k) take core takes hears =
    let took : LinkTook s.link k = bytes_took s.link k packet core.link.seen takes in
    let r : NetEndState = record s { link = k; handshake = risen s.link.role s.link k s.handshake } in
    fixed_stays s r take (ap (λ (role : Role). record { role = role; slots = s.slots; next_id = s.next_id }) took.role)
    (whole_stays s.link.role r memory k.whole take (risen_core s k core took s.link.role refl) refl
    (λ some. took.phase.stays (whole_up s.link k packet core.link.seen takes some)) hears)
link_stays s memory packet (Unheard cause) take core takes hears = subst (TakeStays s) (sym hears) tt

pub taken_stays : (s t : NetEndState) (memory packet new : List ℕ) (opens : Bool) → Core s → NetTakes s.link.role s memory packet (GoesOn t opens new) → Stays s t
taken_stays s t memory packet new opens core takes = link_stays s memory packet takes.link (GoesOn t opens new) core takes.takes takes.hears
