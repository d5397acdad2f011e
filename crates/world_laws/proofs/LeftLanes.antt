-- Where the rounds of a settle ran out, a lane is named only where it moved in the last of them, or waits behind it.
use Rattle.std.proofs.Common.{◌≡◌, ◌⊎◌, inl, inr, ℕ, suc, ◌+◌, Bool, true, false, List, [], ◌∷◌, ◌++◌, slice_get, Some, refl, sym, ap, ◌∙◌, subst, arith, append_assoc}
use Rattle.std.specs.Prelude.{◌&&◌, if◌then◌else◌}
use Rattle.runs.specs.Run.{Run, run_split}
use Rattle.lane_models.specs.WireEvent.{Idle}
use Rattle.lane_models.specs.DiskEvent.{DiskEvent, Off, OnWire, Switches}
use Rattle.lane_models.specs.LaneState.{LaneState}
use Rattle.lane_kinds.specs.Lanes.{turn_entries}
use Rattle.world_laws.specs.DiskKind.{disk_kind, is_calm, waits_on}
use Rattle.world_laws.specs.Moves.{IsLeftOver, MovedIn}
use Rattle.world_laws.specs.Rounds.{LaneRound, are_quiet, is_quiet}
use Rattle.world_laws.specs.Settle.{GoesOn, OfLane, RunsOut, SettleEntry, SettleRound, Settling, TicksBehind, Unsettled, begin, disk_entries, entries_of_rounds, entry_of, left_over, round_entries}

-- IN A LONGER PART
pub moved_left : (x : ℕ) (one two : List SettleEntry) → MovedIn x one → MovedIn x (one ++ two)
moved_left x one two given = grind (arith, append_assoc)

pub moved_right : (x : ℕ) (one two : List SettleEntry) → MovedIn x two → MovedIn x (one ++ two)
moved_right x one two at = record {
  before = one ++ at.before;
  event = at.event;
  later = at.later;
  is = ap (λ (l : List SettleEntry). one ++ l) at.is ∙ sym (append_assoc one at.before (OfLane x at.event ∷ at.later));
  loud = at.loud;
}

-- A TURN that isn't quiet
loud_entry : (k : ℕ) (event : DiskEvent) → is_calm event ≡ false → entry_of k event ≡ OfLane k event ∷ []
loud_entry k (OnWire (Idle e)) loud = absurd (cc loud)
loud_entry k (Switches Off) loud = absurd (cc loud)
loud_entry k _ loud = refl

own_moved : (k : ℕ) (event : DiskEvent) → is_calm event ≡ false → MovedIn k (entry_of k event)
own_moved k event loud = record { before = []; event = event; later = []; is = loud_entry k event loud; loud = loud }

first_or_later : (k : ℕ) (event : DiskEvent) (events : LaneRound) (calm : Bool) → is_calm event ≡ calm → (calm && is_quiet events) ≡ false
    → (is_quiet events ≡ false → MovedIn k (turn_entries disk_kind disk_entries k events)) → MovedIn k (entry_of k event ++ turn_entries disk_kind disk_entries k events)
first_or_later k event events true is loud more = moved_right k (entry_of k event) (turn_entries disk_kind disk_entries k events) (more loud)
first_or_later k event events false is loud more = moved_left k (entry_of k event) (turn_entries disk_kind disk_entries k events) (own_moved k event is)

turn_moved : (k : ℕ) (events : LaneRound) → is_quiet events ≡ false → MovedIn k (turn_entries disk_kind disk_entries k events)
turn_moved k [] loud = absurd (cc loud)
turn_moved k (event ∷ events) loud = first_or_later k event events (is_calm event) refl loud (λ later. turn_moved k events later)

-- A LANE THAT IS NAMED, of lanes from this number on
pub record WaitsAt (k x : ℕ) (lanes : List LaneState) : Type 0 where
  pub index : ℕ
  pub is : x ≡ k + index
  pub lane : LaneState
  pub there : slice_get lanes index ≡ Some lane
  pub waits : waits_on lane ≡ true

abbrev pub Named : ℕ → ℕ → List LaneRound → List LaneState → Type 0
Named k x rounds lanes = MovedIn x (round_entries k rounds) ⊎ WaitsAt k x lanes

name_further : (k x : ℕ) (r : LaneRound) (rounds : List LaneRound) (s : LaneState) (lanes : List LaneState) → Named (k + 1) x rounds lanes → Named k x (r ∷ rounds) (s ∷ lanes)
name_further k x r rounds s lanes (inl moved) = inl (moved_right x (turn_entries disk_kind disk_entries k r) (round_entries (k + 1) rounds) moved)
name_further k x r rounds s lanes (inr at) = inr (record { index = suc at.index; is = further at.index at.is; lane = at.lane; there = at.there; waits = at.waits })
  where
    further : (i : ℕ) → x ≡ (k + 1) + i → x ≡ k + suc i
    further i is = omega (arith, is)

-- why this one is
first_why : (k : ℕ) (r : LaneRound) (rounds : List LaneRound) (s : LaneState) (lanes : List LaneState) (quiet waits : Bool) → is_quiet r ≡ quiet → waits_on s ≡ waits
    → (quiet && (if waits then false else true)) ≡ false → Named k k (r ∷ rounds) (s ∷ lanes)
first_why k r rounds s lanes false waits is which no_rest = inl (moved_left k (turn_entries disk_kind disk_entries k r) (round_entries (k + 1) rounds) (turn_moved k r is))
first_why k r rounds s lanes true true is which no_rest = inr (record { index = 0; is = omega (arith); lane = s; there = refl; waits = which })
first_why k r rounds s lanes true false is which no_rest = absurd (cc no_rest)

same_name : (k x : ℕ) (one two : List SettleEntry) → Unsettled k ∷ one ≡ Unsettled x ∷ two → k ≡ x
same_name k x one two is = let same : Unsettled k ≡ Unsettled x = cc is in cc same

by_name : (k x : ℕ) (r : LaneRound) (rounds : List LaneRound) (s : LaneState) (lanes : List LaneState) (before later : List SettleEntry) (rests : Bool)
    → (is_quiet r && (if waits_on s then false else true)) ≡ rests → (if rests then [] else Unsettled k ∷ []) ++ left_over (k + 1) rounds lanes ≡ before ++ Unsettled x ∷ later
    → ((past : List SettleEntry) → left_over (k + 1) rounds lanes ≡ past ++ Unsettled x ∷ later → Named (k + 1) x rounds lanes) → Named k x (r ∷ rounds) (s ∷ lanes)
by_name k x r rounds s lanes before later true rests is more = name_further k x r rounds s lanes (more before is)
by_name k x r rounds s lanes [] later false rests is more =
    subst (λ (n : ℕ). Named k n (r ∷ rounds) (s ∷ lanes)) (same_name k x (left_over (k + 1) rounds lanes) later is)
    (first_why k r rounds s lanes (is_quiet r) (waits_on s) refl refl rests)
by_name k x r rounds s lanes (y ∷ before) later false rests is more =
    let others : left_over (k + 1) rounds lanes ≡ before ++ Unsettled x ∷ later = cc is in
    name_further k x r rounds s lanes (more before others)

no_name : (before : List SettleEntry) (entry : SettleEntry) (later : List SettleEntry) → [] ≡ before ++ entry ∷ later → ⊥
no_name [] entry later is = absurd (cc is)
no_name (y ∷ before) entry later is = absurd (cc is)

pub named : (k x : ℕ) (rounds : List LaneRound) (lanes : List LaneState) (before later : List SettleEntry) → left_over k rounds lanes ≡ before ++ Unsettled x ∷ later → Named k x rounds lanes
named k x [] lanes before later is = absurd (no_name before (Unsettled x) later is)
named k x (r ∷ rounds) [] before later is = absurd (no_name before (Unsettled x) later is)
named k x (r ∷ rounds) (s ∷ lanes) before later is =
    by_name k x r rounds s lanes before later (is_quiet r && (if waits_on s then false else true)) refl is
    (λ (past : List SettleEntry) (at : left_over (k + 1) rounds lanes ≡ past ++ Unsettled x ∷ later). named (k + 1) x rounds lanes past later at)

-- IN THE ROUNDS of the settle
goes_moved : (x : ℕ) (quiet : Bool) (w : Settling) (steps : List LaneRound) (between : List LaneState) (entries : List SettleEntry) (v : Settling) → TicksBehind quiet w steps between entries v
    → MovedIn x (round_entries 0 steps) → MovedIn x entries
goes_moved x false w steps between entries v behind moved = subst (MovedIn x) (sym behind.1) moved
goes_moved x true w steps between entries v behind moved = subst (MovedIn x) (sym behind.3) (moved_left x (round_entries 0 steps) _ moved)

rounds_moved : (x : ℕ) (rounds : List SettleRound) (last : SettleRound) → MovedIn x last.entries → MovedIn x (entries_of_rounds (rounds ++ last ∷ []))
rounds_moved x [] last moved = moved_left x last.entries [] moved
rounds_moved x (round ∷ rounds) last moved = moved_right x round.entries (entries_of_rounds (rounds ++ last ∷ [])) (rounds_moved x rounds last moved)

as_left : (x : ℕ) (rounds : List SettleRound) (last : SettleRound) (w v : Settling) (lanes : List LaneState) → GoesOn w last v → Named 0 x last.steps lanes
    → IsLeftOver x (entries_of_rounds (rounds ++ last ∷ [])) lanes
as_left x rounds last w v lanes goes (inl moved) =
    inl (rounds_moved x rounds last (goes_moved x (are_quiet last.steps) w last.steps goes.between last.entries v goes.behind moved))
as_left x rounds last w v lanes goes (inr at) =
    let number : at.index ≡ x = omega (arith, at.is) in
    inr (record { lane = at.lane; there = subst (λ (i : ℕ). slice_get lanes i ≡ Some at.lane) number at.there; waits = at.waits })

-- the last of rounds that were made, with names of these lanes
pub left_why : (w : Settling) (rounds : List SettleRound) (last : SettleRound) (v : Settling) (lanes : List LaneState) (x : ℕ) (before later : List SettleEntry)
    → Run GoesOn w (rounds ++ last ∷ []) v → left_over 0 last.steps lanes ≡ before ++ Unsettled x ∷ later → IsLeftOver x (entries_of_rounds (rounds ++ last ∷ [])) lanes
left_why w rounds last v lanes x before later run is =
    let parts = run_split GoesOn w v rounds (last ∷ []) run in
    as_left x rounds last parts.0 parts.2.0 lanes parts.2.1 (named 0 x last.steps lanes before later is)

pub out_why : (start : List LaneState) (part : List SettleEntry) (behind : List LaneState) (out : RunsOut start part behind) (x : ℕ) (before later : List SettleEntry)
    → left_over 0 out.last.steps behind ≡ before ++ Unsettled x ∷ later → IsLeftOver x (entries_of_rounds (out.rounds ++ out.last ∷ [])) behind
out_why start part behind out x before later is = left_why (begin start) out.rounds out.last out.now behind x before later out.run is
