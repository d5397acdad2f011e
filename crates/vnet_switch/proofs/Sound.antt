-- What always holds of a switch goes on to hold.
use Rattle.std.proofs.Common.{◌≡◌, ◌==◌, ◌≢◌, ℕ, zero, suc, ◌+◌, ◌-◌, ◌<◌, ◌≤◌, true, if◌then◌else◌, nat_lt, List, [], ◌∷◌, length, map, drop, sum, sum_by, Option, Some, None, slice_get, slice_set, IsBitSet, inl, inr, arith, sym, subst, ap, ◌∙◌, refl, length-drop, get_or-set_same, get_or-set_other, eq-eqb, ne_eqb, ltb-true, lt-ltb, le-ltb}
use Rattle.std.proofs.lemmas.Bool.{cases_eq, cases_lt, cond-false, cond-true}
use Rattle.std.proofs.lemmas.List.{get_or_past, length-map, length_push}
use Rattle.std.proofs.lemmas.List.Sums.{sum_by-cons, sum_by-set}
use Rattle.std.proofs.lemmas.Option.{cond_some, none-some, same_Some, slice_get-map, slice_get_within}
use Rattle.std.specs.Option.{option_map_or}
use Rattle.vnet_switch.proofs.Bits.{set_or_not}
use Rattle.vnet_switch.proofs.Changes.{came, changes_one, option_map_some, port_found, port_holds, port_is, slice_get-set_other, slice_get-set_same, still_differ, Came}
use Rattle.vnet_switch.proofs.Counting.{all_within, kept_named, names_by_within, sum_changes}
use Rattle.vnet_switch.proofs.Offers.{room_of}
use Rattle.vnet_switch.proofs.Pigeons.{held, same_as, same_as_other, same_as_self}
use Rattle.vnet_switch.specs.Forward.{HasAddress}
use Rattle.vnet_switch.specs.Kept.{fresh_frames, kept_count, names_at, slot_at, unnamed, FrameSlots, KeepsNamed}
use Rattle.vnet_switch.specs.Named.{names_by, names_in, AllFit, IsSound, IsWholeFrame}
use Rattle.vnet_switch.specs.Offering.{OffersBelow}
use Rattle.vnet_switch.specs.PortView.{PortView}
use Rattle.vnet_switch.specs.Queues.{fresh_port, with_last, with_session, without_first, ChangesAt, QueueHasRoom}
use Rattle.vnet_switch.specs.declared.forwarding.Offered.{Offered}
use Rattle.vnet_switch.specs.declared.kept_frames.KeptFrame.{KeptFrame}

-- ---- a new switch

fresh_names : (key : ℕ) (rooms : List ℕ) → names_in key (map fresh_port rooms) ≡ 0
fresh_names key [] = refl
fresh_names key (room ∷ rooms) = omega (
  arith,
  sum_by-cons (names_by key) (fresh_port room) (map fresh_port rooms),
  fresh_names key rooms,
)

fresh_rooms : (rooms : List ℕ) → sum_by room_of (map fresh_port rooms) ≡ sum rooms
fresh_rooms [] = refl
fresh_rooms (room ∷ rooms) =
    omega (
      arith,
      sum_by-cons room_of (fresh_port room) (map fresh_port rooms),
      sum_by-cons (λ (n : ℕ). n) room
          rooms,
      fresh_rooms rooms,
    )

fresh_at : (rooms : List ℕ) (k : ℕ) (port : PortView ℕ) → slice_get (map fresh_port rooms) k ≡ Some port
    → (room : ℕ) × (port ≡ fresh_port room)
fresh_at rooms k port is =
    let from : (room : ℕ) × (slice_get rooms k ≡ Some room) × (port ≡ fresh_port room) = option_map_some fresh_port
    (slice_get rooms k) port (sym (slice_get-map fresh_port rooms k) ∙ is) in
    (from.0, from.2)

pub fresh_sound : (rooms : List ℕ) → length rooms ≤ 32 → IsSound (map fresh_port rooms) (fresh_frames (sum rooms))
fresh_sound rooms few = record {
  few = omega (arith, length-map rooms (fresh_port {Frame = ℕ}), few);
  differ = λ address j k at_j at_k.
      let port : (port : PortView ℕ) × (slice_get (map fresh_port rooms) j ≡ Some port) ×
      (port.address ≡ Some address) = port_found (map fresh_port rooms) j (λ p. p.address ≡ Some address) at_j in
      let fresh : (room : ℕ) × (port.0 ≡ fresh_port room) = fresh_at rooms j port.0 port.1 in
      absurd (none-some address (ap (λ (p : PortView ℕ). p.address) (sym fresh.1) ∙ port.2));
  fit = λ k port is.
      let fresh : (room : ℕ) × (port ≡ fresh_port room) = fresh_at rooms k port is in
      subst (λ (p : PortView ℕ). length p.queue ≤ p.room) (sym fresh.1) (omega arith);
  counted = λ key. sym (fresh_names key rooms);
  whole = λ key frame is. absurd (none-some frame is);
  enough = fresh_rooms rooms;
}

-- ---- a frame is accepted

offers_fit : (ports new_ports : List (PortView ℕ)) (set key : ℕ) (offered : Offered) → AllFit ports
    → OffersBelow (length ports) ports set key offered new_ports → AllFit new_ports
offers_fit ports new_ports set key offered fit offers k port is =
    let from : Came (IsBitSet offered.switched.out) (with_last key) ports k port = came
    (IsBitSet offered.switched.out) (with_last key) ports new_ports offers.queues (set_or_not offered.switched.out)
    k port is in
    elim from.is [
      | inl changed ↦
          let room : QueueHasRoom from.before = port_holds ports k from.before QueueHasRoom from.was
          ((offers.out k).0 changed.0).1.1 in
          subst (λ (p : PortView ℕ). length p.queue ≤ p.room) (sym changed.1)
          (omega (arith, room, length_push from.before.queue key))
      | inr same ↦ subst (λ (p : PortView ℕ). length p.queue ≤ p.room) (sym same) (fit k from.before from.was)
    ]

-- a queue that takes a key had room for it, so a frame more can be kept
pub room_for_one : (ports new_ports : List (PortView ℕ)) (frames : FrameSlots) (set key : ℕ) (offered : Offered)
    → IsSound ports frames → OffersBelow (length ports) ports set key offered new_ports → 0 < offered.names
    → kept_count frames.slots < frames.room
room_for_one ports new_ports frames set key offered sound offers some =
    omega (
      arith,
      kept_named ports frames sound,
      offers.waiting,
      all_within new_ports
          (offers_fit ports new_ports set key offered sound.fit offers),
      offers.rooms,
      sound.enough,
      some,
    )

pub accept_sound : (ports new_ports : List (PortView ℕ)) (frames new_frames : FrameSlots) (set key : ℕ)
    (offered : Offered) (bytes : List ℕ) (names : ℕ) → names ≡ offered.names → key ≡ frames.next_key
    → slot_at frames.slots key ≡ None → IsSound ports frames
    → OffersBelow (length ports) ports set key offered new_ports → KeepsNamed frames bytes names new_frames
    → 14 ≤ length bytes → length bytes ≤ 1514 → IsSound new_ports new_frames
accept_sound ports new_ports frames new_frames set key offered bytes zero none_got at free sound offers keeps long
    short =
    subst (λ (f : FrameSlots). IsSound new_ports f) (sym keeps) (record {
      few = omega (arith, sound.few, offers.queues.same_length);
      differ = still_differ (IsBitSet offered.switched.out) (with_last key) ports new_ports offers.queues
          (set_or_not offered.switched.out) (λ port. refl) sound.differ;
      fit = offers_fit ports new_ports set key offered sound.fit offers;
      counted = λ other. elim (cases_eq other key) [
        | inl it ↦ subst (λ (n : ℕ). names_at frames.slots n ≡ names_in n new_ports) (sym it)
            (omega (arith, sound.counted key, offers.names, none_got))
        | inr apart ↦ sound.counted other ∙ sym (offers.other_names other apart)
      ];
      whole = sound.whole;
      enough = offers.rooms ∙ sound.enough;
    })
accept_sound ports new_ports frames new_frames set key offered bytes (suc n) got at free sound offers keeps long short =
    let it : slot_at new_frames.slots key ≡ Some (record { bytes = bytes; names = suc n }) =
    subst (λ (k : ℕ). slot_at new_frames.slots k ≡ Some (record { bytes = bytes; names = suc n })) (sym at) keeps.it in
    let others : (other : ℕ) → other ≢ key → slot_at new_frames.slots other ≡ slot_at frames.slots other =
    λ other apart. keeps.others other (λ same. apart (same ∙ sym at)) in
    let names_now : names_at new_frames.slots key ≡ suc n = ap
    (λ (slot : Option KeptFrame). option_map_or (λ (f : KeptFrame). f.names) slot 0) it in
    let names_then : names_at frames.slots key ≡ 0 = ap
    (λ (slot : Option KeptFrame). option_map_or (λ (f : KeptFrame). f.names) slot 0) free in
    record {
      few = omega (arith, sound.few, offers.queues.same_length);
      differ = still_differ (IsBitSet offered.switched.out) (with_last key) ports new_ports offers.queues
          (set_or_not offered.switched.out) (λ port. refl) sound.differ;
      fit = offers_fit ports new_ports set key offered sound.fit offers;
      counted = λ other. elim (cases_eq other key) [
        | inl same ↦ subst (λ (k : ℕ). names_at new_frames.slots k ≡ names_in k new_ports) (sym same)
            (omega (arith, names_now, names_then, sound.counted key, offers.names, got))
        | inr apart ↦ ap (λ (slot : Option KeptFrame). option_map_or (λ (f : KeptFrame). f.names) slot 0)
            (others other apart) ∙ (sound.counted other ∙ sym (offers.other_names other apart))
      ];
      whole = λ other frame is. elim (cases_eq other key) [
        | inl same ↦ subst IsWholeFrame (same_Some (record { bytes = bytes; names = suc n }) frame
            (sym it ∙ subst (λ (k : ℕ). slot_at new_frames.slots k ≡ Some frame) same is))
            (record { named = omega arith; long = long; short = short })
        | inr apart ↦ sound.whole other frame (sym (others other apart) ∙ is)
      ];
      enough = offers.rooms ∙ (sound.enough ∙ sym keeps.room);
    }

pub accept_kept : (ports new_ports : List (PortView ℕ)) (frames new_frames : FrameSlots) (set key : ℕ)
    (offered : Offered) (bytes : List ℕ) (names : ℕ) → names ≡ offered.names
    → OffersBelow (length ports) ports set key offered new_ports → KeepsNamed frames bytes names new_frames
    → kept_count new_frames.slots ≡ (if offered.switched.out == 0 then kept_count frames.slots else kept_count
    frames.slots + 1)
accept_kept ports new_ports frames new_frames set key offered bytes zero none_got offers keeps =
    ap (λ (f : FrameSlots). kept_count f.slots) keeps
    ∙ sym (cond-true (offered.switched.out == 0) (kept_count frames.slots) (kept_count frames.slots + 1)
    (eq-eqb offered.switched.out 0 (offers.none.0 (sym none_got))))
accept_kept ports new_ports frames new_frames set key offered bytes (suc n) got offers keeps =
    keeps.count
    ∙ sym (cond-false (offered.switched.out == 0) (kept_count frames.slots) (kept_count frames.slots + 1)
    (ne_eqb offered.switched.out 0 (λ no_out. absurd (omega (arith, got, offers.none.1 no_out)))))

-- ---- a frame is taken

-- the queue begins with what stands first in it
pub first_is : (queue : List ℕ) (key : ℕ) → slice_get queue 0 ≡ Some key → queue ≡ key ∷ drop 1 queue
first_is [] key is = absurd (none-some key is)
first_is (x ∷ queue) key is = ap (λ (n : ℕ). n ∷ queue) (same_Some x key is)

names_without_first : (port : PortView ℕ) (key other : ℕ) → slice_get port.queue 0 ≡ Some key
    → names_by other port ≡ same_as other key + names_by other (without_first port)
names_without_first port key other is =
    ap (λ (queue : List ℕ). sum_by (same_as other) queue) (first_is port.queue key is)
    ∙ sum_by-cons (same_as other) key (drop 1 port.queue)

some_of : (slot : Option KeptFrame) → 0 < option_map_or (λ (f : KeptFrame). f.names) slot 0
    → (frame : KeptFrame) × (slot ≡ Some frame)
some_of None named = absurd (omega (arith, named))
some_of (Some frame) named = (frame, refl)

-- what a queue names is kept
pub named_kept : (ports : List (PortView ℕ)) (frames : FrameSlots) (k : ℕ) (port : PortView ℕ) (key : ℕ)
    → IsSound ports frames → slice_get ports k ≡ Some port → slice_get port.queue 0 ≡ Some key
    → (frame : KeptFrame) × (slot_at frames.slots key ≡ Some frame)
named_kept ports frames k port key sound at is =
    some_of (slot_at frames.slots key) (omega (
      arith,
      sound.counted key,
      names_by_within ports k port key at,
      names_without_first port key key is,
      same_as_self key,
    ))

within_slots : (slots : List (Option KeptFrame)) (key : ℕ) (frame : KeptFrame) → slot_at slots key ≡ Some frame
    → key < length slots
within_slots slots key frame is = elim (cases_lt key (length slots)) [
  | inl within ↦ within
  | inr past ↦ absurd (none-some frame (sym (get_or_past slots key None past) ∙ is))
]

unnamed_names : (frame : KeptFrame) → 0 < frame.names → option_map_or (λ (f : KeptFrame). f.names)
    (unnamed (Some frame)) 0 + 1 ≡ frame.names
unnamed_names frame named = elim (cases_lt 1 frame.names) [
  | inl more ↦
      let left : option_map_or (λ (f : KeptFrame). f.names) (unnamed (Some frame)) 0 ≡ frame.names - 1 =
      ap (λ (slot : Option KeptFrame). option_map_or (λ (f : KeptFrame). f.names) slot 0)
      (cond-true (nat_lt 1 frame.names) (Some (record frame { names = frame.names - 1 })) None
      (lt-ltb 1 frame.names more)) in
      omega (arith, left, more)
  | inr one ↦
      let left : option_map_or (λ (f : KeptFrame). f.names) (unnamed (Some frame)) 0 ≡ 0 =
      ap (λ (slot : Option KeptFrame). option_map_or (λ (f : KeptFrame). f.names) slot 0)
      (cond-false (nat_lt 1 frame.names) (Some (record frame { names = frame.names - 1 })) None
      (le-ltb 1 frame.names one)) in
      omega (arith, left, one, named)
]

-- a frame that is still kept has its bytes, and a queue names it
pub unnamed_whole : (frame left : KeptFrame) → unnamed (Some frame) ≡ Some left → IsWholeFrame frame
    → IsWholeFrame left × (left.bytes ≡ frame.bytes)
unnamed_whole frame left is whole =
    let parts : (nat_lt 1 frame.names ≡ true) × (record frame { names = frame.names - 1 } ≡ left) = cond_some
    (nat_lt 1 frame.names) (record frame { names = frame.names - 1 }) left is in
    let more : 1 < frame.names = ltb-true 1 frame.names parts.0 in
    subst (λ (f : KeptFrame). IsWholeFrame f × (f.bytes ≡ frame.bytes)) parts.1
    (record { named = omega (arith, more); long = whole.long; short = whole.short }, refl)

pub record Taken (ports : List (PortView ℕ)) (frames new_frames : FrameSlots) (k : ℕ) (port : PortView ℕ) (key : ℕ)
    (frame : KeptFrame) : Type 0 where
  pub at : slice_get ports k ≡ Some port
  pub first : slice_get port.queue 0 ≡ Some key
  pub is : slot_at frames.slots key ≡ Some frame
  pub slots : new_frames.slots ≡ slice_set frames.slots key (unnamed (Some frame))
  pub room : new_frames.room ≡ frames.room

pub slot_taken : (ports : List (PortView ℕ)) (frames new_frames : FrameSlots) (k : ℕ) (port : PortView ℕ) (key : ℕ)
    (frame : KeptFrame) → Taken ports frames new_frames k port key frame
    → slot_at new_frames.slots key ≡ unnamed (Some frame)
slot_taken ports frames new_frames k port key frame taken =
    ap (λ (slots : List (Option KeptFrame)). slot_at slots key) taken.slots
    ∙ get_or-set_same frames.slots key (unnamed (Some frame)) None (within_slots frames.slots key frame taken.is)

pub slot_left : (ports : List (PortView ℕ)) (frames new_frames : FrameSlots) (k : ℕ) (port : PortView ℕ) (key : ℕ)
    (frame : KeptFrame) → Taken ports frames new_frames k port key frame → (other : ℕ) → other ≢ key
    → slot_at new_frames.slots other ≡ slot_at frames.slots other
slot_left ports frames new_frames k port key frame taken other apart =
    ap (λ (slots : List (Option KeptFrame)). slot_at slots other) taken.slots
    ∙ get_or-set_other frames.slots key other (unnamed (Some frame)) None apart

pub next_sound : (ports : List (PortView ℕ)) (frames new_frames : FrameSlots) (k : ℕ) (port : PortView ℕ) (key : ℕ)
    (frame : KeptFrame) → IsSound ports frames → Taken ports frames new_frames k port key frame
    → IsSound (slice_set ports k (without_first port)) new_frames
next_sound ports frames new_frames k port key frame sound taken =
    let new : List (PortView ℕ) = slice_set ports k (without_first port) in
    let changes : ChangesAt (λ j. j ≡ k) without_first ports (slice_set ports k (without_first port)) = changes_one
    without_first ports k port taken.at in
    let it : slot_at new_frames.slots key ≡ unnamed (Some frame) = slot_taken ports frames new_frames k port key
    frame taken in
    let names_then : names_at frames.slots key ≡ frame.names = ap
    (λ (slot : Option KeptFrame). option_map_or (λ (f : KeptFrame). f.names) slot 0) taken.is in
    let names_now : names_at new_frames.slots key ≡ option_map_or (λ (f : KeptFrame). f.names) (unnamed (Some frame))
    0 = ap (λ (slot : Option KeptFrame). option_map_or (λ (f : KeptFrame). f.names) slot 0) it in
    record {
      few = omega (arith, sound.few, changes.same_length);
      differ = still_differ (λ j. j ≡ k) without_first ports (slice_set ports k (without_first port)) changes
          (λ j. cases_eq j k) (λ p. refl) sound.differ;
      fit = λ j other is.
          let from : Came (λ i. i ≡ k) without_first ports j other = came (λ i. i ≡ k) without_first ports
          (slice_set ports k (without_first port)) changes (λ i. cases_eq i k) j other is in
          elim from.is [
            | inl changed ↦ subst (λ (p : PortView ℕ). length p.queue ≤ p.room) (sym changed.1)
                (omega (arith, sound.fit j from.before from.was, length-drop 1 from.before.queue))
            | inr same ↦ subst (λ (p : PortView ℕ). length p.queue ≤ p.room) (sym same)
                (sound.fit j from.before from.was)
          ];
      counted = λ other. elim (cases_eq other key) [
        | inl same ↦ subst (λ (n : ℕ). names_at new_frames.slots n ≡ names_in n
            (slice_set ports k (without_first port))) (sym same)
            (omega (
              arith,
              names_then,
              names_now,
              unnamed_names frame (sound.whole key frame taken.is).named,
              sound.counted key,
              sum_changes (names_by key) ports k port (without_first port) taken.at,
              names_without_first port key key taken.first,
              same_as_self key,
            ))
        | inr apart ↦ ap (λ (slot : Option KeptFrame). option_map_or (λ (f : KeptFrame). f.names) slot 0)
            (slot_left ports frames new_frames k port key frame taken other apart)
            ∙ (sound.counted other
            ∙ omega (
              arith,
              sum_changes (names_by other) ports k port (without_first port) taken.at,
              names_without_first port key other taken.first,
              same_as_other other key (λ same. apart (sym same)),
            ))
      ];
      whole = λ other left is. elim (cases_eq other key) [
        | inl same ↦ (unnamed_whole frame left (sym it
            ∙ subst (λ (n : ℕ). slot_at new_frames.slots n ≡ Some left) same is) (sound.whole key frame taken.is)).0
        | inr apart ↦ sound.whole other left (sym (slot_left ports frames new_frames k port key frame taken other
            apart) ∙ is)
      ];
      enough = omega (arith, sum_changes room_of ports k port (without_first port) taken.at, sound.enough, taken.room);
    }

held_few : (slot : Option KeptFrame) → held slot ≤ 1
held_few None = omega arith
held_few (Some frame) = omega arith

pub next_kept : (ports : List (PortView ℕ)) (frames new_frames : FrameSlots) (k : ℕ) (port : PortView ℕ) (key : ℕ)
    (frame : KeptFrame) → Taken ports frames new_frames k port key frame
    → (kept_count new_frames.slots ≤ kept_count frames.slots) ×
    (kept_count frames.slots ≤ kept_count new_frames.slots + 1)
next_kept ports frames new_frames k port key frame taken =
    let one : held (slot_at frames.slots key) ≡ 1 = ap held taken.is in
    let now : kept_count new_frames.slots ≡ kept_count (slice_set frames.slots key (unnamed (Some frame))) = ap
    kept_count taken.slots in
    let sums : sum_by held (slice_set frames.slots key (unnamed (Some frame))) + held (slot_at frames.slots key) ≡
    sum_by held frames.slots + held (unnamed (Some frame)) =
    sum_by-set held frames.slots key (unnamed (Some frame)) None (within_slots frames.slots key frame taken.is) in (
      omega (arith, one, now, sums, held_few (unnamed (Some frame))),
      omega
          (arith, one, now, sums, held_few (unnamed (Some frame))),
    )

-- ---- a port is set

pub set_sound : (ports : List (PortView ℕ)) (frames : FrameSlots) (k : ℕ) (port : PortView ℕ)
    (address : Option (List ℕ)) (groups : List (List ℕ)) → slice_get ports k ≡ Some port
    → ((own : List ℕ) → address ≡ Some own → (j : ℕ) → HasAddress ports own j → j ≡ k) → IsSound ports frames
    → IsSound (slice_set ports k (with_session address groups port)) frames
set_sound ports frames k port address groups at free sound =
    let new_port : PortView ℕ = with_session address groups port in
    let changes : ChangesAt (λ j. j ≡ k) (with_session address groups) ports
    (slice_set ports k (with_session address groups port)) = changes_one (with_session address groups) ports k port
    at in
    let here : (own : List ℕ) → HasAddress (slice_set ports k (with_session address groups port)) own k
    → address ≡ Some own =
    λ own has. port_holds (slice_set ports k (with_session address groups port)) k (with_session address groups port)
    (λ p. p.address ≡ Some own) (slice_get-set_same ports k (with_session address groups port)
    (slice_get_within ports k port at)) has in
    let there : (own : List ℕ) (j : ℕ) → j ≢ k → HasAddress (slice_set ports k (with_session address groups port))
    own j → HasAddress ports own j =
    λ own j apart has.
    let found : (p : PortView ℕ) × (slice_get (slice_set ports k (with_session address groups port)) j ≡ Some p) ×
    (p.address ≡ Some own) = port_found (slice_set ports k (with_session address groups port)) j
    (λ p. p.address ≡ Some own) has in
    port_is ports j found.0 (λ p. p.address ≡ Some own)
    (sym (slice_get-set_other ports k j (with_session address groups port) apart) ∙ found.1) found.2 in
    let at_k : (own : List ℕ) (j : ℕ) → j ≡ k → HasAddress (slice_set ports k (with_session address groups port)) own
    j → address ≡ Some own =
    λ own j same has. here own (subst (λ (i : ℕ). HasAddress (slice_set ports k (with_session address groups port))
    own i) same has) in
    record {
      few = omega (arith, sound.few, changes.same_length);
      differ = λ own i j at_i at_j. elim (cases_eq i k) [
        | inl i_is ↦ elim (cases_eq j k) [
          | inl j_is ↦ i_is ∙ sym j_is
          | inr j_apart ↦ absurd (j_apart (free own (at_k own i i_is at_i) j (there own j j_apart at_j)))
        ]
        | inr i_apart ↦ elim (cases_eq j k) [
          | inl j_is ↦ absurd (i_apart (free own (at_k own j j_is at_j) i (there own i i_apart at_i)))
          | inr j_apart ↦ sound.differ own i j (there own i i_apart at_i) (there own j j_apart at_j)
        ]
      ];
      fit = λ j other is.
          let from : Came (λ i. i ≡ k) (with_session address groups) ports j other = came (λ i. i ≡ k)
          (with_session address groups) ports (slice_set ports k (with_session address groups port)) changes
          (λ i. cases_eq i k) j other is in
          elim from.is [
            | inl changed ↦ subst (λ (p : PortView ℕ). length p.queue ≤ p.room) (sym changed.1)
                (sound.fit j from.before from.was)
            | inr same ↦ subst (λ (p : PortView ℕ). length p.queue ≤ p.room) (sym same)
                (sound.fit j from.before from.was)
          ];
      counted = λ key. sound.counted key ∙ omega (
        arith,
        sum_changes (names_by key) ports k port
            (with_session address groups port) at,
      );
      whole = sound.whole;
      enough = omega (arith, sum_changes room_of ports k port (with_session address groups port) at, sound.enough);
    }
