-- What a lane is in a settle: its mark in a round, its tick, and its name where it is left over.
use Rattle.std.proofs.Common.{◌≡◌, ℕ, ◌+◌, ◌<◌, ◌≤◌, Bool, true, false, Option, Some, List, [], ◌∷◌, ◌++◌, length, map, take, slice_get, slice_set, refl, sym, ap, ◌∙◌, subst, arith, append-nil, length-append}
use Rattle.std.specs.Prelude.{◌&&◌, ◌||◌, cond, if◌then◌else◌, not, IsSomeAnd}
use Rattle.runs.specs.Run.{Run}
use Rattle.recorded_lanes.specs.world_parts.lane_models.LaneState.{LaneState}
use Rattle.recorded_lanes.specs.world_parts.domain_laws.Domain.{DomainState, DomainStep}
use Rattle.recorded_lanes.specs.world_parts.domain_laws.Lines.{Calls, Line, LaneName, Settles, Ticks}
use Rattle.recorded_lanes.specs.world_parts.lane_models.PortState.{PortState}
use Rattle.domain_script.specs.LaneKinds.{lane_at}
use Rattle.domain_script.specs.declared.event.Lane.{Lane}
use Rattle.domain_script.specs.declared.fields.LaneKind.{LaneKind}
use Rattle.lane_kinds.proofs.Places.{after_one, get_within, set_same, take_set_one}
use Rattle.lane_kinds.specs.Lanes.{gets_tick}
use Rattle.lane_kinds.specs.LanesMade.{all_true, name_of}
use Rattle.ldom_entries.specs.declared.entry.Entry.{Entry}
use Rattle.ldom_entries.specs.declared.entry.Entry.TheVariants as entry
use Rattle.ldom_entries.specs.declared.entry.Who.TheVariants.{Lane as OfWhole, End as OfEnd}
use Rattle.recorded_lanes.specs.ldom_report.LaneEvents.{ChangesNothing, Meaning, NoRoomFor, Refuses, meaning}
use Rattle.recorded_lanes.specs.ldom_report.Report.{accepted_count, is_accepted}
use Rattle.recorded_lanes.proofs.Adding.{none_adds, one_adds}
use Rattle.ldom_world.proofs.KindAdding.{laws, names_go_by, ticks_go_by}
use Rattle.ldom_world.proofs.Lifted.{both}
use Rattle.recorded_lanes.proofs.Lifting.{count_push}
use Rattle.ldom_world.specs.SettleParts.{Grew, NamesGoOn, OneTicked, TicksGoOn}
use Rattle.recorded_lanes.specs.Steps.{Counted, moment}
use Rattle.recorded_lanes.specs.world_parts.WorldKinds.{in_world, of_kind}
use Rattle.recorded_lanes.specs.world_parts.switch_laws.Ports.{waits_on as port_waits_on}
use Rattle.recorded_lanes.proofs.switched_ports.Entries.{below_later}
use Rattle.recorded_lanes.specs.switched_ports.States.{PortAt}
use Rattle.recorded_lanes.specs.world_parts.world_laws.DiskKind.{waits_on}
use Rattle.recorded_lanes.specs.world_parts.world_laws.Settle.{SettleEntry}
use Rattle.recorded_lanes.specs.world_parts.world_laws.World.{WorldState}
use Rattle.recorded_lanes.specs.world_parts.Lines.{IsLaneOf}
use Rattle.recorded_lanes.specs.world_parts.Parts.{Adds, Fits, FitsSoFar, PartSays}
use Rattle.recorded_lanes.specs.world_parts.WorldEvents.{meant, told_of, world_event}

-- THE MARKS of the first lanes, with one more
and_true : (b : Bool) → (b && true) ≡ b
and_true true = refl
and_true false = refl

all_more : (marks : List Bool) (mark : Bool) → all_true (marks ++ mark ∷ []) ≡ (all_true marks && mark)
all_more [] mark = and_true mark
all_more (true ∷ marks) mark = all_more marks mark
all_more (false ∷ marks) mark = refl

pub all_set : (k : ℕ) (marks new : List Bool) (all mark : Bool) → k < length marks → new ≡ slice_set marks k mark
    → all_true (take k marks) ≡ all → all_true (take (k + 1) new) ≡ (all && mark)
all_set k marks new all mark less is so_far =
    ap (λ (l : List Bool). all_true (take (k + 1) l)) is
    ∙ ap (λ (n : ℕ). all_true (take n (slice_set marks k mark))) (after_one k)
    ∙ ap (λ (l : List Bool). all_true l) (take_set_one marks k mark less)
    ∙ all_more (take k marks) mark ∙ ap (λ (b : Bool). b && mark) so_far

-- WHICH LANES A SETTLE WAITS FOR: of a disk, of a port, and of a kind by what is so of the kind that it is
pub disk_waits : (d : WorldState) (p : List PortState) (w : DomainState) → both d p ≡ w → (k : ℕ) (waits : Bool)
    → ((s : LaneState) → slice_get d.lanes k ≡ Some s → waits ≡ waits_on s)
    → (s : LaneState) → slice_get w.first.lanes k ≡ Some s → waits ≡ waits_on s
disk_waits d p w is k waits at s there = at s (subst (λ (x : DomainState). slice_get x.first.lanes k ≡ Some s) (sym is) there)

of_some : {X : Type 0} (P : X → Type 0) (o : Option X) (x : X) → IsSomeAnd o P → o ≡ Some x → P x
of_some {X} P o x holds is = subst (λ (y : Option X). IsSomeAnd y P) is holds

pub port_waits : (d : WorldState) (p : List PortState) (w : DomainState) → both d p ≡ w → (k : ℕ) (waits : Bool)
    → PortAt p k (λ s. waits ≡ port_waits_on s)
    → (s : PortState) → slice_get w.second k ≡ Some s → waits ≡ port_waits_on s
port_waits d p w is k waits at s there =
    of_some (λ (x : PortState). waits ≡ port_waits_on x) (slice_get p k) s at
    (subst (λ (x : DomainState). slice_get x.second k ≡ Some s) (sym is) there)

abbrev WaitsSay : DomainState → ℕ → Bool → LaneKind → Type 0
WaitsSay w k waits kind =
    (s : (in_world kind).Lane) → slice_get ((in_world kind).lanes w) k ≡ Some s → waits ≡ (in_world kind).kind.waits_on s

pub waits_of : (w : DomainState) (k : ℕ) (waits : Bool) (kind this : LaneKind) → kind ≡ this → WaitsSay w k waits this
    → WaitsSay w k waits kind
waits_of w k waits kind this is = subst (WaitsSay w k waits) (sym is)

-- A LANE OF A KIND, by its number
pub lane_of : (w : DomainState) (lane : Lane) → IsLaneOf w lane
    → (s : (in_world lane.kind).Lane) × (slice_get ((in_world lane.kind).lanes w) lane.number ≡ Some s)
lane_of w lane within =
    get_within ((in_world lane.kind).lanes w) lane.number within

-- AN ENTRY THAT ACCEPTS NOTHING leaves what the journal counts
count_stays : (old new : List Entry) (e : Entry) → is_accepted e ≡ false → new ≡ old ++ e ∷ []
    → accepted_count new ≡ accepted_count old
count_stays old new e none grew =
    omega (arith, count_push old new e grew, ap (λ (b : Bool). cond {A = ℕ} b 1 0) none)

pub counted_stays : (old new : List Entry) (e : Entry) (w : DomainState) → Counted old w → is_accepted e ≡ false
    → new ≡ old ++ e ∷ [] → Counted new w
counted_stays old new e w counted none grew =
    let longer : length old + 1 ≤ length new + 1 =
    omega (arith, ap (λ (l : List Entry). length l) grew, length-append old (e ∷ [])) in
    record {
      accepted = count_stays old new e none grew ∙ counted.accepted;
      given = below_later (length old + 1) (length new + 1) w.second longer counted.given;
    }

-- THE EVENT OF A TICK is said by the same entry in whatever line it is
tick_meant : (kind : LaneKind) (k : ℕ) (s : (in_world kind).Lane) (x : Meaning)
    → meant (Calls (of_kind kind k) Ticks) x ≡ Some (told_of ((in_world kind).entries.of_lane k ((in_world kind).kind.tick s)))
    → meant Settles x ≡ Some (told_of ((in_world kind).entries.of_lane k ((in_world kind).kind.tick s)))
tick_meant kind k s (NoRoomFor (OfWhole lane)) is = absurd (cc is)
tick_meant kind k s (NoRoomFor (OfEnd name)) is = absurd (cc is)
tick_meant kind k s (Refuses (OfWhole lane) why) is = absurd (cc is)
tick_meant kind k s (Refuses (OfEnd name) why) is = absurd (cc is)
tick_meant kind k s (ChangesNothing who) is = absurd ((laws kind).calm_is_none k s who is)
tick_meant kind k s x is = is

said_alike : (asked other : Line) (x : SettleEntry) → ((m : Meaning) → meant asked m ≡ Some (told_of x) → meant other m ≡ Some (told_of x))
    → (part : List Entry) → PartSays asked part (x ∷ []) → PartSays other part (x ∷ [])
said_alike asked other x alike [] says = absurd (cc says)
said_alike asked other x alike (e ∷ []) says =
    let one : world_event asked e ≡ Some (told_of x) = cc says in
    ap (λ (o : Option SettleEntry). o ∷ []) (alike (meaning e) one)
said_alike asked other x alike (e ∷ f ∷ part) says = absurd (cc says)

-- A CALL FOR A TICK of a lane that gets one is the tick of a settle
tick_grew : (kind : LaneKind) (k : ℕ) (w v : DomainState) (old new : List Entry) (s : (in_world kind).Lane) (had : Bool)
    → slice_get ((in_world kind).lanes w) k ≡ Some s → gets_tick (in_world kind).kind s had ≡ true
    → Fits w (Calls (of_kind kind k) Ticks) old new v → Grew (OneTicked kind k had true w v) old new
tick_grew kind k w v old new s had there gets fits =
    let asked = Calls (of_kind kind k) Ticks in
    let ticked : OneTicked kind k had true w v fits.entries =
    (laws kind).ticked k had w v s fits.entries there gets fits.moves.part_of fits.moves.run in
    let tick = (in_world kind).entries.of_lane k ((in_world kind).kind.tick ticked.lane) in
    let is : fits.entries ≡ tick ∷ [] = ticked.ticked.1 in
    record {
      entries = fits.entries;
      adds = record {
        part = fits.adds.part;
        grew = fits.adds.grew;
        says = subst (λ (l : List SettleEntry). PartSays Settles fits.adds.part l) (sym is)
            (said_alike asked Settles tick (tick_meant kind k ticked.lane) fits.adds.part
            (subst (λ (l : List SettleEntry). PartSays asked fits.adds.part l) is fits.adds.says));
      };
      holds = ticked;
    }

none_ticked : (kind : LaneKind) (k : ℕ) (had : Bool) (w : DomainState) (s : (in_world kind).Lane)
    → slice_get ((in_world kind).lanes w) k ≡ Some s → gets_tick (in_world kind).kind s had ≡ false → OneTicked kind k had false w w []
none_ticked kind k had w s there gets = record { lane = s; there = there; gets = sym gets; ticked = (refl, refl) }

none_ticked_grew : (kind : LaneKind) (k : ℕ) (w : DomainState) (old : List Entry) (s : (in_world kind).Lane) (had : Bool)
    → slice_get ((in_world kind).lanes w) k ≡ Some s → gets_tick (in_world kind).kind s had ≡ false
    → Grew (OneTicked kind k had false w w) old old
none_ticked_grew kind k w old s had there gets =
    record { entries = []; adds = none_adds Settles old old refl; holds = none_ticked kind k had w s there gets }

-- where memory was wanted for it, nothing was done
pub record Unchanged (w : DomainState) (old new : List Entry) (v : DomainState) : Type 0 where
  pub world_stays : v ≡ w
  pub journal_stays : new ≡ old

no_part : (line : Line) (part : List Entry) → map (λ (e : Entry). world_event line e) part ≡ [] → part ≡ []
no_part line [] is = refl
no_part line (e ∷ part) is = absurd (cc is)

none_begun : (w v : DomainState) (line : Line) (old new : List Entry) (entries : List SettleEntry) → entries ≡ []
    → Adds line old new entries → Run DomainStep w entries v → Unchanged w old new v
none_begun w v line old new entries none adds run =
    let empty : adds.part ≡ [] = no_part line adds.part
    (adds.says ∙ ap (λ (l : List SettleEntry). map (λ (x : SettleEntry). Some (told_of x)) l) none) in
    let stays : w ≡ v = subst (λ (l : List SettleEntry). Run DomainStep w l v) none run in
    record {
      world_stays = sym stays;
      journal_stays = adds.grew ∙ ap (λ (l : List Entry). old ++ l) empty ∙ append-nil old;
    }

pub tick_wants : (name : LaneName) (w v : DomainState) (old new : List Entry) → FitsSoFar w (Calls name Ticks) old new v
    → Unchanged w old new v
tick_wants name w v old new so_far =
    none_begun w v (Calls name Ticks) old new so_far.entries so_far.begins.begins so_far.adds so_far.begins.run

-- THE TICKS GO ON by a lane that gets one, and by one that gets none
or_true : (b : Bool) → (b || true) ≡ true
or_true true = refl
or_true false = refl

or_false : (b : Bool) → (b || false) ≡ b
or_false true = refl
or_false false = refl

pub ticked_goes_on : (kind : LaneKind) (k : ℕ) (w v : DomainState) (old new : List Entry) (have marks : List Bool) (s : (in_world kind).Lane)
    (mark : Bool) → slice_get ((in_world kind).lanes w) k ≡ Some s → slice_get have k ≡ Some mark → k < length have
    → gets_tick (in_world kind).kind s mark ≡ true → marks ≡ slice_set have k true → Fits w (Calls (of_kind kind k) Ticks) old new v
    → TicksGoOn (lane_at kind k) true have (moment w old) marks (moment v new)
ticked_goes_on kind k w v old new have marks s mark there at less gets is fits =
    ticks_go_by kind k w v old new have marks mark true at (tick_grew kind k w v old new s mark there gets fits) less
    (is ∙ ap (λ (b : Bool). slice_set have k b) (sym (or_true mark)))

pub unticked_goes_on : (kind : LaneKind) (k : ℕ) (w : DomainState) (old : List Entry) (have : List Bool) (s : (in_world kind).Lane) (mark : Bool)
    → slice_get ((in_world kind).lanes w) k ≡ Some s → slice_get have k ≡ Some mark → k < length have
    → gets_tick (in_world kind).kind s mark ≡ false → TicksGoOn (lane_at kind k) false have (moment w old) have (moment w old)
unticked_goes_on kind k w old have s mark there at less gets =
    ticks_go_by kind k w w old old have have mark false at (none_ticked_grew kind k w old s mark there gets) less
    (sym (set_same have k mark at) ∙ ap (λ (b : Bool). slice_set have k b) (sym (or_false mark)))

-- THE NAMES GO ON by a lane that is left over, and by one that isn't
not_by : (b : Bool) → (if b then false else true) ≡ not b
not_by true = refl
not_by false = refl

name_by : (kind : LaneKind) (k : ℕ) (calm rests : Bool) (s : (in_world kind).Lane) → rests ≡ (calm && not ((in_world kind).kind.waits_on s))
    → name_of (in_world kind).kind (in_world kind).entries k calm s ≡ (if rests then [] else (in_world kind).entries.left_over k ∷ [])
name_by kind k calm rests s is =
    ap (λ (b : Bool). if calm && b then [] else (in_world kind).entries.left_over k ∷ []) (not_by ((in_world kind).kind.waits_on s))
    ∙ ap (λ (b : Bool). if b then [] else (in_world kind).entries.left_over k ∷ []) (sym is)

pub named_goes_on : (kind : LaneKind) (k : ℕ) (w : DomainState) (calm rests : Bool) (s : (in_world kind).Lane) (old new : List Entry)
    → slice_get ((in_world kind).lanes w) k ≡ Some s → rests ≡ (calm && not ((in_world kind).kind.waits_on s)) → rests ≡ false
    → new ≡ old ++ entry.Unsettled (OfWhole (lane_at kind k)) ∷ [] → NamesGoOn (lane_at kind k) calm w old new
named_goes_on kind k w calm rests s old new there is left grew =
    names_go_by kind k w old new calm s there
    (subst (λ (l : List SettleEntry). Adds Settles old new l)
    (sym (name_by kind k calm rests s is ∙ ap (λ (b : Bool). if b then [] else (in_world kind).entries.left_over k ∷ []) left))
    (one_adds Settles old new (entry.Unsettled (OfWhole (lane_at kind k))) ((in_world kind).entries.left_over k) grew
    ((laws kind).left k s)))

pub unnamed_goes_on : (kind : LaneKind) (k : ℕ) (w : DomainState) (calm rests : Bool) (s : (in_world kind).Lane) (old : List Entry)
    → slice_get ((in_world kind).lanes w) k ≡ Some s → rests ≡ (calm && not ((in_world kind).kind.waits_on s)) → rests ≡ true
    → NamesGoOn (lane_at kind k) calm w old old
unnamed_goes_on kind k w calm rests s old there is left =
    names_go_by kind k w old old calm s there
    (subst (λ (l : List SettleEntry). Adds Settles old old l)
    (sym (name_by kind k calm rests s is ∙ ap (λ (b : Bool). if b then [] else (in_world kind).entries.left_over k ∷ []) left))
    (none_adds Settles old old refl))
