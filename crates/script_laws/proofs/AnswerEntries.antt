-- The answer of a settle among the entries of a journal: one that leaves nothing over, or some that name lanes. What stands
-- before it are entries of lanes, and no part of a line begins with a name.
use Rattle.std.proofs.Common.{◌≡◌, ◌⊎◌, inl, inr, ◌≤◌, Bool, true, false, Some, List, [], ◌∷◌, ◌++◌, length, map, refl, sym, ap, ◌∙◌, subst, arith}
use Rattle.std.specs.Prelude.{⊤}
use Rattle.world_parts.specs.lane_models.DiskEvent.{DiskEvent}
use Rattle.ldom_entries.specs.declared.entry.Entry.{Entry}
use Rattle.ldom_report.specs.LaneEvents.{AtLane, AtPort, AtServer, AtWire, ChangesNothing, LeavesNothing, LeavesOver, Meaning, NoRoomFor, Publishes, Refuses, Switches, TakesFrame, meaning}
use Rattle.lane_kinds.specs.Settles.{SettlePart}
use Rattle.world_parts.specs.lane_models.PortState.{OnLane, Receives}
use Rattle.world_parts.specs.switch_laws.Events.{OnPort, Switched}
use Rattle.world_parts.specs.world_laws.Settle.{OfLane, OfPort, SettleEntry, Settled, Unsettled, UnsettledPort}
use Rattle.world_parts.proofs.domain_laws.LineEntries.{EachEntry}
use Rattle.world_parts.specs.domain_laws.Domain.{Lanes, lanes}
use Rattle.world_parts.specs.domain_laws.Lines.{BeginsPart, Line, PartOf}
use Rattle.world_parts.proofs.Meanings.{AllOf, Holds, all_events, all_left, entry_has}
use Rattle.world_parts.specs.Parts.{PartSays}
use Rattle.world_parts.specs.WorldEvents.{told_of, world_event}
use Rattle.script_laws.proofs.Entries.{IsName, IsOfLane, LeavesNone}
use Rattle.script_laws.proofs.LineEntries.{begins_last, part_is}
use Rattle.script_laws.proofs.SettleEntries.{AreOfLanes, NamesLast, SettledLast, lanes_alone, out_last, settled_last}

-- whether an entry belongs to the answer of a settle, and whether it names a lane
abbrev is_end : Meaning → Bool
is_end (LeavesOver who) = true
is_end LeavesNothing = true
is_end _ = false

abbrev is_name : Meaning → Bool
is_name (LeavesOver who) = true
is_name _ = false

-- so it is told by what the entry is for the lanes, whatever line it came in
abbrev Tells : Meaning → SettleEntry → Type 0
Tells x Settled = (is_end x ≡ true) × (is_name x ≡ false)
Tells x (Unsettled k) = (is_end x ≡ true) × (is_name x ≡ true)
Tells x (UnsettledPort k) = (is_end x ≡ true) × (is_name x ≡ true)
Tells x _ = (is_end x ≡ false) × (is_name x ≡ false)

abbrev Any : DiskEvent → Type 0
Any event = ⊤

-- a meaning that belongs to no answer and names no lane
of_events : (x : Meaning) → is_end x ≡ false → is_name x ≡ false → AllOf Any x → Holds (Tells x) x
of_events x end name all =
    all_events (Tells x) Any (record { of_disk = λ k event any. (end, name); of_port = λ k event. (end, name) }) x all

tells : (x : Meaning) → Holds (Tells x) x
tells (AtWire e event) = of_events (AtWire e event) refl refl tt
tells (AtServer e event) = of_events (AtServer e event) refl refl tt
tells (AtLane k event) = of_events (AtLane k event) refl refl tt
tells (AtPort k gets) = of_events (AtPort k gets) refl refl tt
tells (Publishes e id) = of_events (Publishes e id) refl refl tt
tells (TakesFrame e frame) = of_events (TakesFrame e frame) refl refl tt
tells (Switches e frame out full) = of_events (Switches e frame out full) refl refl tt
tells (NoRoomFor who) = of_events (NoRoomFor who) refl refl (λ request. tt, λ d. tt)
tells (Refuses who why) = of_events (Refuses who why) refl refl (λ defect request. tt, λ d. tt)
tells (ChangesNothing who) = of_events (ChangesNothing who) refl refl (λ calm. tt, λ d. tt)
tells (LeavesOver who) = all_left (Tells (LeavesOver who)) who (λ k. (refl, refl)) (λ k. (refl, refl))
tells LeavesNothing = (refl, refl)

-- and so by the entry of which it is told
of_real : (x : Meaning) (m : SettleEntry) → Tells x (told_of m) → Tells x m
of_real x (OfPort k (OnPort (OnLane event))) told = told
of_real x (OfPort k (OnPort (Receives frame))) told = told
of_real x (OfPort k (Switched frame out full)) told = told
of_real x m told = told

entry_tells : (asked : Line) (e : Entry) (m : SettleEntry) → world_event asked e ≡ Some (told_of m) → Tells (meaning e) m
entry_tells asked e m is =
    of_real (meaning e) m (entry_has (Tells (meaning e)) asked e (told_of m) (tells (meaning e)) is)

abbrev AreSaid : Line → List Entry → List SettleEntry → Type 0
AreSaid line part entries = map (world_event line) part ≡ map (λ (x : SettleEntry). Some (told_of x)) entries

-- UP TO THE ANSWER, which is the last of these entries
abbrev AreNames : List Entry → Type 0
AreNames [] = ⊤
AreNames (e ∷ es) = (is_name (meaning e) ≡ true) × AreNames es

abbrev IsAnswer : List Entry → Type 0
IsAnswer [] = ⊥
IsAnswer (e ∷ es) =
    (is_end (meaning e) ≡ true)
    × (((is_name (meaning e) ≡ false) × (es ≡ [])) ⊎ ((is_name (meaning e) ≡ true) × AreNames es))

abbrev pub UpToAnswer : List Entry → Type 0
UpToAnswer [] = ⊥
UpToAnswer (e ∷ es) = IsAnswer (e ∷ es) ⊎ ((is_end (meaning e) ≡ false) × UpToAnswer es)

-- the first of them names no lane, if there is one
abbrev pub BeginsUnnamed : List Entry → Type 0
BeginsUnnamed [] = ⊤
BeginsUnnamed (e ∷ es) = is_name (meaning e) ≡ false

never_both : (a b : Bool) → a ≡ b → a ≡ true → b ≡ false → ⊥
never_both a b same one two = cc (same, one, two)

same_names : (p q j k : List Entry) → AreNames p → AreNames q → BeginsUnnamed j → BeginsUnnamed k → p ++ j ≡ q ++ k
    → p ≡ q
same_names [] [] j k first second here there is = refl
same_names [] (y ∷ q) j k first second here there is =
    let named : BeginsUnnamed (y ∷ (q ++ k)) = subst BeginsUnnamed is here in
    absurd (never_both (is_name (meaning y)) (is_name (meaning y)) refl second.0 named)
same_names (x ∷ p) [] j k first second here there is =
    let named : BeginsUnnamed (x ∷ (p ++ j)) = subst BeginsUnnamed (sym is) there in
    absurd (never_both (is_name (meaning x)) (is_name (meaning x)) refl first.0 named)
same_names (x ∷ p) (y ∷ q) j k first second here there is =
    let same : x ≡ y = cc is in
    let others : p ++ j ≡ q ++ k = cc is in
    ap (λ (z : Entry). z ∷ p) same
    ∙ ap (λ (l : List Entry). y ∷ l) (same_names p q j k first.1 second.1 here there others)

same_meaning : (x y : Entry) (f : Meaning → Bool) → x ≡ y → f (meaning x) ≡ f (meaning y)
same_meaning x y f same = ap (λ (e : Entry). f (meaning e)) same

same_answer : (x y : Entry) (p q j k : List Entry) → IsAnswer (x ∷ p) → IsAnswer (y ∷ q) → BeginsUnnamed j
    → BeginsUnnamed k → x ≡ y → p ++ j ≡ q ++ k → p ≡ q
same_answer x y p q j k first second here there same others = elim first.1 [
  | inl one ↦
      elim second.1 [
        | inl two ↦ one.1 ∙ sym two.1
        | inr two ↦
            absurd
            (never_both (is_name (meaning y)) (is_name (meaning x)) (sym (same_meaning x y is_name same)) two.0 one.0)
      ]
  | inr one ↦
      elim second.1 [
        | inl two ↦
            absurd (never_both (is_name (meaning x)) (is_name (meaning y)) (same_meaning x y is_name same) one.0 two.0)
        | inr two ↦ same_names p q j k one.1 two.1 here there others
      ]
]

pub one_front : (p q j k : List Entry) → UpToAnswer p → UpToAnswer q → BeginsUnnamed j → BeginsUnnamed k
    → p ++ j ≡ q ++ k → p ≡ q
one_front [] q j k first second here there is = absurd first
one_front (x ∷ p) [] j k first second here there is = absurd second
one_front (x ∷ p) (y ∷ q) j k (inl first) (inl second) here there is =
    let same : x ≡ y = cc is in
    let others : p ++ j ≡ q ++ k = cc is in
    ap (λ (z : Entry). z ∷ p) same
    ∙ ap (λ (l : List Entry). y ∷ l) (same_answer x y p q j k first second here there same others)
one_front (x ∷ p) (y ∷ q) j k (inl first) (inr second) here there is =
    let same : x ≡ y = cc is in
    absurd (never_both (is_end (meaning x)) (is_end (meaning y)) (same_meaning x y is_end same) first.0 second.0)
one_front (x ∷ p) (y ∷ q) j k (inr first) (inl second) here there is =
    let same : x ≡ y = cc is in
    absurd (never_both (is_end (meaning y)) (is_end (meaning x)) (sym (same_meaning x y is_end same)) second.0 first.0)
one_front (x ∷ p) (y ∷ q) j k (inr first) (inr second) here there is =
    let same : x ≡ y = cc is in
    let others : p ++ j ≡ q ++ k = cc is in
    ap (λ (z : Entry). z ∷ p) same
    ∙ ap (λ (l : List Entry). y ∷ l) (one_front p q j k first.1 second.1 here there others)

-- BY WHAT THEY ARE FOR THE LANES
lane_end : (x : Meaning) (m : SettleEntry) → IsOfLane m → Tells x m → is_end x ≡ false
lane_end x (OfLane k event) of_lane told = told.0
lane_end x (OfPort k event) of_lane told = told.0
lane_end x _ of_lane told = absurd of_lane

unnamed_end : (x : Meaning) (m : SettleEntry) → LeavesNone m → Tells x m → is_name x ≡ false
unnamed_end x (Unsettled k) leaves told = absurd leaves
unnamed_end x (UnsettledPort k) leaves told = absurd leaves
unnamed_end x _ leaves told = told.1

as_up_to : (part : List Entry) → IsAnswer part → UpToAnswer part
as_up_to [] answer = absurd answer
as_up_to (e ∷ es) answer = inl answer

up_to : (line : Line) (part : List Entry) (front answer : List SettleEntry)
    → AreSaid line part (front ++ answer) → AreOfLanes front
    → ((rest : List Entry) → AreSaid line rest answer → IsAnswer rest) → UpToAnswer part
up_to line part [] answer says of_lanes answers = as_up_to part (answers part says)
up_to line [] (m ∷ front) answer says of_lanes answers = absurd (cc says)
up_to line (x ∷ part) (m ∷ front) answer says of_lanes answers =
    let is : world_event line x ≡ Some (told_of m) = cc says in
    let others : AreSaid line part (front ++ answer) = cc says in
    inr (
      lane_end (meaning x) m of_lanes.0 (entry_tells line x m is),
      up_to line part front answer others of_lanes.1 answers,
    )

settled_answer : (line : Line) (part : List Entry) → AreSaid line part (Settled ∷ []) → IsAnswer part
settled_answer line [] says = absurd (cc says)
settled_answer line (x ∷ []) says =
    let is : world_event line x ≡ Some Settled = cc says in
    let told = entry_tells line x Settled is in
    (told.0, inl (told.1, refl))
settled_answer line (x ∷ y ∷ part) says = absurd (cc says)

name_end : (x : Meaning) (m : SettleEntry) → IsName m → Tells x m → (is_end x ≡ true) × (is_name x ≡ true)
name_end x (Unsettled k) name told = told
name_end x (UnsettledPort k) name told = told
name_end x _ name told = absurd name

are_names : (line : Line) (part : List Entry) (names : List SettleEntry) → EachEntry IsName names
    → AreSaid line part names → AreNames part
are_names line [] names are says = tt
are_names line (x ∷ part) [] are says = absurd (cc says)
are_names line (x ∷ part) (m ∷ names) are says =
    let is : world_event line x ≡ Some (told_of m) = cc says in
    let others : AreSaid line part names = cc says in
    ((name_end (meaning x) m are.0 (entry_tells line x m is)).1, are_names line part names are.1 others)

names_answer : (line : Line) (names : List SettleEntry) → EachEntry IsName names → 1 ≤ length names → (part : List Entry)
    → AreSaid line part names → IsAnswer part
names_answer line [] are some part says = absurd (omega (arith, some))
names_answer line (m ∷ names) are some [] says = absurd (cc says)
names_answer line (m ∷ names) are some (x ∷ part) says =
    let is : world_event line x ≡ Some (told_of m) = cc says in
    let others : AreSaid line part names = cc says in
    let told = name_end (meaning x) m are.0 (entry_tells line x m is) in
    (told.0, inr (told.1, are_names line part names are.1 others))

pub up_to_settled : (line : Line) (part : List Entry) (entries : List SettleEntry) → PartSays line part entries
    → SettledLast entries → UpToAnswer part
up_to_settled line part entries says last =
    up_to line part last.front (Settled ∷ [])
    (says ∙ ap (λ (l : List SettleEntry). map (λ (x : SettleEntry). Some (told_of x)) l) last.is) last.of_lanes
    (settled_answer line)

pub up_to_names : (line : Line) (part : List Entry) (entries : List SettleEntry) → PartSays line part entries
    → (last : NamesLast entries) → 1 ≤ length last.names → UpToAnswer part
up_to_names line part entries says last some =
    up_to line part last.front last.names
    (says ∙ ap (λ (l : List SettleEntry). map (λ (x : SettleEntry). Some (told_of x)) l) last.is)
    last.of_lanes (names_answer line last.names last.are some)

-- A PART BEGINS WITH NO NAME
abbrev BeginsWithNone : List SettleEntry → Type 0
BeginsWithNone [] = ⊤
BeginsWithNone (m ∷ entries) = LeavesNone m

lane_first : (m : SettleEntry) → IsOfLane m → LeavesNone m
lane_first (OfLane k event) of_lane = tt
lane_first (OfPort k event) of_lane = tt
lane_first _ of_lane = absurd of_lane

settled_begins : (front : List SettleEntry) → AreOfLanes front → BeginsWithNone (front ++ Settled ∷ [])
settled_begins [] of_lanes = tt
settled_begins (m ∷ front) of_lanes = lane_first m of_lanes.0

names_begin : (front names : List SettleEntry) → AreOfLanes front → (1 ≤ length names → 1 ≤ length front)
    → BeginsWithNone (front ++ names)
names_begin [] [] of_lanes some = tt
names_begin [] (k ∷ names) of_lanes some = absurd (omega (arith, some (omega (arith))))
names_begin (m ∷ front) names of_lanes some = lane_first m of_lanes.0

by_names : (entries : List SettleEntry) → NamesLast entries → BeginsWithNone entries
by_names entries last = subst BeginsWithNone (sym last.is) (names_begin last.front last.names last.of_lanes last.some)

by_settled : (entries : List SettleEntry) → SettledLast entries → BeginsWithNone entries
by_settled entries last = subst BeginsWithNone (sym last.is) (settled_begins last.front last.of_lanes)

by_kind : (w : Lanes) (entries : List SettleEntry) (behind : Lanes)
    → SettlePart lanes w entries behind ⊎ AreOfLanes entries → BeginsWithNone entries
by_kind w entries behind (inl (inl settles)) = by_settled entries (settled_last w entries behind settles)
by_kind w entries behind (inl (inr out)) = by_names entries (out_last w entries behind out)
by_kind w entries behind (inr of_lanes) = by_names entries (lanes_alone entries of_lanes)

unnamed : (line : Line) (part : List Entry) (entries : List SettleEntry) (rest : List Entry) → PartSays line part entries
    → BeginsWithNone entries → BeginsUnnamed rest → BeginsUnnamed (part ++ rest)
unnamed line [] entries rest says begins more = more
unnamed line (x ∷ part) [] rest says begins more = absurd (cc says)
unnamed line (x ∷ part) (m ∷ entries) rest says begins more =
    let is : world_event line x ≡ Some (told_of m) = cc says in
    unnamed_end (meaning x) m begins (entry_tells line x m is)

pub whole_unnamed : (line : Line) (part : List Entry) (entries : List SettleEntry) (w behind : Lanes)
    (rest : List Entry) → PartSays line part entries → PartOf line w entries behind → BeginsUnnamed rest
    → BeginsUnnamed (part ++ rest)
whole_unnamed line part entries w behind rest says of_line more =
    unnamed line part entries rest says
    (by_kind w entries behind (part_is line w entries behind of_line)) more

pub begun_unnamed : (line : Line) (part : List Entry) (entries : List SettleEntry) (w behind : Lanes)
    (rest : List Entry) → PartSays line part entries → BeginsPart line w entries behind → BeginsUnnamed rest
    → BeginsUnnamed (part ++ rest)
begun_unnamed line part entries w behind rest says begins more =
    unnamed line part entries rest says (by_names entries (begins_last line w entries behind begins)) more
