-- What a journal doesn't tell: how many frames stood in a port's out queue at a tick. It changes nothing of what entries say of disks, of
-- names, of ticks, of ends that find no room, or of forging.
use Rattle.std.proofs.Common.{◌≡◌, ◌⊎◌, inl, inr, ℕ, ◌+◌, ◌≤◌, Bool, true, false, List, [], ◌∷◌, ◌++◌, map, refl, sym, ap, ◌∙◌, subst}
use Rattle.std.specs.Prelude.{◌==◌, flat_map, if◌then◌else◌}
use Rattle.runs.specs.Run.{Run}
use Rattle.world_parts.specs.lane_models.DiskEvent.{DiskEvent}
use Rattle.lane_kinds.proofs.Places.{map_both}
use Rattle.lane_kinds.proofs.LaneFronts.{of_both}
use Rattle.lane_kinds.specs.Lanes.{EachOf, own_or}
use Rattle.lane_kinds.specs.Stuck.{NeverThree, sum_over}
use Rattle.ldc_queue.specs.declared.end.End.{End}
use Rattle.world_parts.specs.lane_models.NetEvent.{CalmTick, NetEvent, Ticked}
use Rattle.world_parts.specs.lane_models.PortState.{OnLane, Receives}
use Rattle.world_parts.specs.switch_laws.Events.{OnPort, SwitchEvent, Switched}
use Rattle.world_parts.specs.world_laws.Along.{event_at, happened}
use Rattle.world_parts.specs.world_laws.Forged.{NobodyForges}
use Rattle.world_parts.specs.world_laws.Moves.{ticks, ticks_in}
use Rattle.world_parts.specs.world_laws.Settle.{OfLane, OfPort, SettleEntry, Settled, Unsettled, UnsettledPort}
use Rattle.world_parts.specs.world_laws.World.{WorldState, WorldStep}
use Rattle.world_parts.proofs.domain_laws.DiskParts.{of_disks}
use Rattle.world_parts.proofs.domain_laws.LeftOver.{NamesBelow}
use Rattle.world_parts.specs.domain_laws.Along.{port_happened, port_said}
use Rattle.world_parts.specs.domain_laws.Counts.{disk_stuck, moves, moves_in, port_stuck}
use Rattle.world_parts.specs.domain_laws.Forged.{NobodyForgesPort, forges}
use Rattle.world_parts.specs.domain_laws.Frames.{arrived_in, frames_arrived, frames_put, frames_queued, frames_switched, of_port, put_by, queued_in, switched_in}
use Rattle.world_parts.specs.domain_laws.Settling.{port_ticks, port_ticks_in}
use Rattle.world_parts.specs.WorldEvents.{told_net, told_of}
use Rattle.script_laws.specs.Settled.{EndsSettled, EndsUnsettled, NobodyForgesAll}

abbrev pub all_told : List SettleEntry → List SettleEntry
all_told entries = map told_of entries

-- A COUNT of entries that it leaves
pub same_sum : (count : SettleEntry → ℕ) → ((x : SettleEntry) → count (told_of x) ≡ count x) → (part : List SettleEntry) → sum_over count (all_told part) ≡ sum_over count part
same_sum count same [] = refl
same_sum count same (x ∷ part) =
    ap (λ (n : ℕ). n + sum_over count (all_told part)) (same x) ∙ ap (λ (n : ℕ). count x + n) (same_sum count same part)

-- OF A DISK
pub told_happened : (x : ℕ) (part : List SettleEntry) → happened x (all_told part) ≡ happened x part
told_happened x [] = refl
told_happened x (OfLane k event ∷ part) = ap (λ (l : List DiskEvent). event_at x (OfLane k event) ++ l) (told_happened x part)
told_happened x (OfPort k (OnPort (OnLane event)) ∷ part) = told_happened x part
told_happened x (OfPort k (OnPort (Receives frame)) ∷ part) = told_happened x part
told_happened x (OfPort k (Switched frame out full) ∷ part) = told_happened x part
told_happened x (entry ∷ part) = told_happened x part

pub told_of_disks : (part : List SettleEntry) → of_disks (all_told part) ≡ of_disks part
told_of_disks [] = refl
told_of_disks (OfPort k (OnPort (OnLane event)) ∷ part) = told_of_disks part
told_of_disks (OfPort k (OnPort (Receives frame)) ∷ part) = told_of_disks part
told_of_disks (OfPort k (Switched frame out full) ∷ part) = told_of_disks part
told_of_disks (UnsettledPort k ∷ part) = told_of_disks part
told_of_disks (entry ∷ part) = ap (λ (l : List SettleEntry). entry ∷ l) (told_of_disks part)

told_step : (w : WorldState) (entry : SettleEntry) (v : WorldState) → WorldStep w entry v → WorldStep w (told_of entry) v
told_step w (OfPort k (OnPort (OnLane event))) v step = step
told_step w (OfPort k (OnPort (Receives frame))) v step = step
told_step w (OfPort k (Switched frame out full)) v step = step
told_step w entry v step = step

pub told_run : (w : WorldState) (part : List SettleEntry) (v : WorldState) → Run WorldStep w part v → Run WorldStep w (all_told part) v
told_run w [] v run = run
told_run w (entry ∷ part) v run = (run.0, told_step w entry run.0 run.1, told_run run.0 part v run.2)

-- OF NAMES
pub told_below : (n m : ℕ) (part : List SettleEntry) → NamesBelow n m part → NamesBelow n m (all_told part)
told_below n m [] below = tt
told_below n m (OfPort k (OnPort (OnLane event)) ∷ part) below = (tt, told_below n m part below.1)
told_below n m (OfPort k (OnPort (Receives frame)) ∷ part) below = (tt, told_below n m part below.1)
told_below n m (OfPort k (Switched frame out full) ∷ part) below = (tt, told_below n m part below.1)
told_below n m (entry ∷ part) below = (below.0, told_below n m part below.1)

-- OF TICKS and steps
told_tick : (x : ℕ) (entry : SettleEntry) → ticks x (told_of entry) ≡ ticks x entry
told_tick x (OfPort k (OnPort (OnLane event))) = refl
told_tick x (OfPort k (OnPort (Receives frame))) = refl
told_tick x (OfPort k (Switched frame out full)) = refl
told_tick x entry = refl

pub told_ticks : (x : ℕ) (part : List SettleEntry) → ticks_in x (all_told part) ≡ ticks_in x part
told_ticks x part = same_sum (ticks x) (told_tick x) part

told_net_moves : (k : ℕ) (event : NetEvent) → moves (OfPort k (OnPort (OnLane (told_net event)))) ≡ moves (OfPort k (OnPort (OnLane event)))
told_net_moves k (Ticked queued lost) = refl
told_net_moves k (CalmTick queued) = refl
told_net_moves k event = refl

told_move : (entry : SettleEntry) → moves (told_of entry) ≡ moves entry
told_move (OfPort k (OnPort (OnLane event))) = told_net_moves k event
told_move (OfPort k (OnPort (Receives frame))) = refl
told_move (OfPort k (Switched frame out full)) = refl
told_move entry = refl

pub told_moves : (part : List SettleEntry) → moves_in (all_told part) ≡ moves_in part
told_moves part = same_sum moves told_move part

told_net_stuck : (x : ℕ) (e : End) (n k : ℕ) (event : NetEvent)
    → disk_stuck x e n (OfPort k (OnPort (OnLane (told_net event)))) ≡ disk_stuck x e n (OfPort k (OnPort (OnLane event)))
told_net_stuck x e n k (Ticked queued lost) = refl
told_net_stuck x e n k (CalmTick queued) = refl
told_net_stuck x e n k event = refl

pub told_stuck : (x : ℕ) (e : End) (n : ℕ) (entry : SettleEntry) → disk_stuck x e n (told_of entry) ≡ disk_stuck x e n entry
told_stuck x e n (OfPort k (OnPort (OnLane event))) = told_net_stuck x e n k event
told_stuck x e n (OfPort k (OnPort (Receives frame))) = refl
told_stuck x e n (OfPort k (Switched frame out full)) = refl
told_stuck x e n entry = refl

-- how often an end was stuck, where that is left
pub told_never : (stuck : ℕ → SettleEntry → ℕ) → ((n : ℕ) (x : SettleEntry) → stuck n (told_of x) ≡ stuck n x) → (n : ℕ) (part : List SettleEntry) → NeverThree stuck n part
    → NeverThree stuck n (all_told part)
told_never stuck same n [] never = tt
told_never stuck same n (x ∷ part) never = (
  subst (λ (m : ℕ). m ≤ 2) (sym (same n x)) never.0,
  subst (λ (m : ℕ). NeverThree stuck m (all_told part)) (sym (same n x)) (told_never stuck same (stuck n x) part never.1),
)

told_net_tick : (x k : ℕ) (event : NetEvent) → port_ticks x (OfPort k (OnPort (OnLane (told_net event)))) ≡ port_ticks x (OfPort k (OnPort (OnLane event)))
told_net_tick x k (Ticked queued lost) = refl
told_net_tick x k (CalmTick queued) = refl
told_net_tick x k event = refl

told_port_tick : (x : ℕ) (entry : SettleEntry) → port_ticks x (told_of entry) ≡ port_ticks x entry
told_port_tick x (OfPort k (OnPort (OnLane event))) = told_net_tick x k event
told_port_tick x (OfPort k (OnPort (Receives frame))) = refl
told_port_tick x (OfPort k (Switched frame out full)) = refl
told_port_tick x entry = refl

pub told_port_ticks : (x : ℕ) (part : List SettleEntry) → port_ticks_in x (all_told part) ≡ port_ticks_in x part
told_port_ticks x part = same_sum (port_ticks x) (told_port_tick x) part

told_net_port : (x : ℕ) (e : End) (n k : ℕ) (event : NetEvent)
    → port_stuck x e n (OfPort k (OnPort (OnLane (told_net event)))) ≡ port_stuck x e n (OfPort k (OnPort (OnLane event)))
told_net_port x e n k (Ticked queued lost) = refl
told_net_port x e n k (CalmTick queued) = refl
told_net_port x e n k event = refl

pub told_port_stuck : (x : ℕ) (e : End) (n : ℕ) (entry : SettleEntry) → port_stuck x e n (told_of entry) ≡ port_stuck x e n entry
told_port_stuck x e n (OfPort k (OnPort (OnLane event))) = told_net_port x e n k event
told_port_stuck x e n (OfPort k (OnPort (Receives frame))) = refl
told_port_stuck x e n (OfPort k (Switched frame out full)) = refl
told_port_stuck x e n entry = refl

-- OF FORGING
told_net_forges : (event : NetEvent) → forges (OnPort (OnLane (told_net event))) ≡ forges (OnPort (OnLane event))
told_net_forges (Ticked queued lost) = refl
told_net_forges (CalmTick queued) = refl
told_net_forges event = refl

own_forged : (c : Bool) (one two : SwitchEvent) (gifts : List SwitchEvent) → forges one ≡ forges two → NobodyForgesPort (own_or c one gifts) → NobodyForgesPort (own_or c two gifts)
own_forged true one two gifts same none = (sym same ∙ none.0, tt)
own_forged false one two gifts same none = none

one_forged : (j : ℕ) (entry : SettleEntry) → NobodyForgesPort (port_said j (told_of entry)) → NobodyForgesPort (port_said j entry)
one_forged j (OfPort k (OnPort (OnLane event))) none = own_forged (j == k) (OnPort (OnLane (told_net event))) (OnPort (OnLane event)) [] (told_net_forges event) none
one_forged j (OfPort k (OnPort (Receives frame))) none = none
one_forged j (OfPort k (Switched frame out full)) none = none
one_forged j entry none = none

abbrev IsNone : SwitchEvent → Type 0
IsNone event = forges event ≡ false

first_none : (one two : List SwitchEvent) → EachOf IsNone (one ++ two) → EachOf IsNone one
first_none [] two each = tt
first_none (event ∷ one) two each = (each.0, first_none one two each.1)

later_none : (one two : List SwitchEvent) → EachOf IsNone (one ++ two) → EachOf IsNone two
later_none [] two each = each
later_none (event ∷ one) two each = later_none one two each.1

pub told_forged : (j : ℕ) (part : List SettleEntry) → NobodyForgesPort (port_happened j (all_told part)) → NobodyForgesPort (port_happened j part)
told_forged j [] none = tt
told_forged j (entry ∷ part) none =
    of_both IsNone (port_said j entry) (port_happened j part)
    (one_forged j entry (first_none (port_said j (told_of entry)) (port_happened j (all_told part)) none))
    (told_forged j part (later_none (port_said j (told_of entry)) (port_happened j (all_told part)) none))

-- and the other way round
one_real : (j : ℕ) (entry : SettleEntry) → NobodyForgesPort (port_said j entry) → NobodyForgesPort (port_said j (told_of entry))
one_real j (OfPort k (OnPort (OnLane event))) none =
    own_forged (j == k) (OnPort (OnLane event)) (OnPort (OnLane (told_net event))) [] (sym (told_net_forges event)) none
one_real j (OfPort k (OnPort (Receives frame))) none = none
one_real j (OfPort k (Switched frame out full)) none = none
one_real j entry none = none

pub real_forged : (j : ℕ) (part : List SettleEntry) → NobodyForgesPort (port_happened j part) → NobodyForgesPort (port_happened j (all_told part))
real_forged j [] none = tt
real_forged j (entry ∷ part) none =
    of_both IsNone (port_said j (told_of entry)) (port_happened j (all_told part))
    (one_real j entry (first_none (port_said j entry) (port_happened j part) none))
    (real_forged j part (later_none (port_said j entry) (port_happened j part) none))

-- OF FRAMES
if_same : (c : Bool) (one two : List (List ℕ)) → one ≡ two → (if c then one else []) ≡ (if c then two else [])
if_same c one two same = ap (λ (l : List (List ℕ)). if c then l else []) same

one_frames : (frames : SwitchEvent → List (List ℕ)) → ((event : NetEvent) → frames (OnPort (OnLane (told_net event))) ≡ frames (OnPort (OnLane event))) → (k : ℕ) (entry : SettleEntry)
    → of_port frames k (told_of entry) ≡ of_port frames k entry
one_frames frames same k (OfPort j (OnPort (OnLane event))) = if_same (k == j) (frames (OnPort (OnLane (told_net event)))) (frames (OnPort (OnLane event))) (same event)
one_frames frames same k (OfPort j (OnPort (Receives frame))) = refl
one_frames frames same k (OfPort j (Switched frame out full)) = refl
one_frames frames same k entry = refl

all_frames : (said : SettleEntry → List (List ℕ)) → ((entry : SettleEntry) → said (told_of entry) ≡ said entry) → (part : List SettleEntry) → flat_map said (all_told part) ≡ flat_map said part
all_frames said same [] = refl
all_frames said same (entry ∷ part) =
    ap (λ (l : List (List ℕ)). l ++ flat_map said (all_told part)) (same entry) ∙ ap (λ (l : List (List ℕ)). said entry ++ l) (all_frames said same part)

queued_same : (event : NetEvent) → queued_in (OnPort (OnLane (told_net event))) ≡ queued_in (OnPort (OnLane event))
queued_same (Ticked queued lost) = refl
queued_same (CalmTick queued) = refl
queued_same event = refl

arrived_same : (event : NetEvent) → arrived_in (OnPort (OnLane (told_net event))) ≡ arrived_in (OnPort (OnLane event))
arrived_same (Ticked queued lost) = refl
arrived_same (CalmTick queued) = refl
arrived_same event = refl

put_same : (k : ℕ) (entry : SettleEntry) → put_by k (told_of entry) ≡ put_by k entry
put_same k (OfPort j (OnPort (OnLane event))) = refl
put_same k (OfPort j (OnPort (Receives frame))) = refl
put_same k (OfPort j (Switched frame out full)) = refl
put_same k entry = refl

pub told_queued : (k : ℕ) (part : List SettleEntry) → frames_queued k (all_told part) ≡ frames_queued k part
told_queued k part = all_frames (of_port queued_in k) (one_frames queued_in queued_same k) part

pub told_switched : (k : ℕ) (part : List SettleEntry) → frames_switched k (all_told part) ≡ frames_switched k part
told_switched k part = all_frames (of_port switched_in k) (one_frames switched_in (λ event. refl) k) part

pub told_arrived : (k : ℕ) (part : List SettleEntry) → frames_arrived k (all_told part) ≡ frames_arrived k part
told_arrived k part = all_frames (of_port arrived_in k) (one_frames arrived_in arrived_same k) part

pub told_put : (k : ℕ) (part : List SettleEntry) → frames_put k (all_told part) ≡ frames_put k part
told_put k part = all_frames (put_by k) (put_same k) part

pub told_forged_all : (part : List SettleEntry) → NobodyForgesAll (all_told part) → NobodyForgesAll part
told_forged_all part none = record {
  of_disks = λ k. subst (λ (l : List DiskEvent). NobodyForges l) (told_happened k part) (none.of_disks k);
  of_ports = λ k. told_forged k part (none.of_ports k);
}

-- OF HOW A PART ENDS
pub told_ends : (part : List SettleEntry) → EndsSettled part → EndsSettled (all_told part)
told_ends part ends = record { front = all_told ends.front; is = ap all_told ends.is ∙ map_both told_of ends.front (Settled ∷ []) }

told_disks : (ks : List ℕ) → all_told (map Unsettled ks) ≡ map Unsettled ks
told_disks [] = refl
told_disks (k ∷ ks) = ap (λ (l : List SettleEntry). Unsettled k ∷ l) (told_disks ks)

told_ports : (ks : List ℕ) → all_told (map UnsettledPort ks) ≡ map UnsettledPort ks
told_ports [] = refl
told_ports (k ∷ ks) = ap (λ (l : List SettleEntry). UnsettledPort k ∷ l) (told_ports ks)

pub told_unsettled : (part : List SettleEntry) → EndsSettled part ⊎ EndsUnsettled part → EndsSettled (all_told part) ⊎ EndsUnsettled (all_told part)
told_unsettled part (inl ends) = inl (told_ends part ends)
told_unsettled part (inr ends) =
    let a = map Unsettled ends.disks in
    let b = map UnsettledPort ends.ports in
    inr (record {
      front = all_told ends.front;
      disks = ends.disks;
      ports = ends.ports;
      some = ends.some;
      is = ap all_told ends.is ∙ map_both told_of ends.front (a ++ b)
          ∙ ap (λ (l : List SettleEntry). all_told ends.front ++ l)
          (map_both told_of a b ∙ ap (λ (l : List SettleEntry). l ++ all_told b) (told_disks ends.disks) ∙ ap (λ (l : List SettleEntry). a ++ l) (told_ports ends.ports));
    })

-- WHERE AN ENTRY STANDS among those that are told, one stands among the real ones of which it is told
pub record Untold (part before : List SettleEntry) (entry : SettleEntry) (behind : List SettleEntry) : Type 0 where
  pub past : List SettleEntry
  pub real : SettleEntry
  pub rest : List SettleEntry
  pub is : part ≡ past ++ real ∷ rest
  pub past_is : before ≡ all_told past
  pub real_is : entry ≡ told_of real
  pub rest_is : behind ≡ all_told rest

pub untold : (part before : List SettleEntry) (entry : SettleEntry) (behind : List SettleEntry) → all_told part ≡ before ++ entry ∷ behind → Untold part before entry behind
untold [] [] entry behind is = absurd (cc is)
untold [] (y ∷ before) entry behind is = absurd (cc is)
untold (x ∷ part) [] entry behind is =
    let here : told_of x ≡ entry = cc is in
    let rest : all_told part ≡ behind = cc is in
    record { past = []; real = x; rest = part; is = refl; past_is = refl; real_is = sym here; rest_is = sym rest }
untold (x ∷ part) (y ∷ before) entry behind is =
    let here : told_of x ≡ y = cc is in
    let rest : all_told part ≡ before ++ entry ∷ behind = cc is in
    let at = untold part before entry behind rest in
    record {
      past = x ∷ at.past;
      real = at.real;
      rest = at.rest;
      is = ap (λ (l : List SettleEntry). x ∷ l) at.is;
      past_is = sym (ap (λ (e : SettleEntry). e ∷ before) here) ∙ ap (λ (l : List SettleEntry). told_of x ∷ l) at.past_is;
      real_is = at.real_is;
      rest_is = at.rest_is;
    }

-- and all but entries of ports are those themselves
pub real_settled : (x : SettleEntry) → Settled ≡ told_of x → x ≡ Settled
real_settled (OfPort k (OnPort (OnLane event))) is = absurd (cc is)
real_settled (OfPort k (OnPort (Receives frame))) is = absurd (cc is)
real_settled (OfPort k (Switched frame out full)) is = absurd (cc is)
real_settled Settled is = refl
real_settled _ is = absurd (cc is)

pub real_unsettled_port : (k : ℕ) (x : SettleEntry) → UnsettledPort k ≡ told_of x → x ≡ UnsettledPort k
real_unsettled_port k (OfPort j (OnPort (OnLane event))) is = absurd (cc is)
real_unsettled_port k (OfPort j (OnPort (Receives frame))) is = absurd (cc is)
real_unsettled_port k (OfPort j (Switched frame out full)) is = absurd (cc is)
real_unsettled_port k (UnsettledPort j) is = sym is
real_unsettled_port k _ is = absurd (cc is)

pub real_unsettled : (k : ℕ) (x : SettleEntry) → Unsettled k ≡ told_of x → x ≡ Unsettled k
real_unsettled k (OfPort j (OnPort (OnLane event))) is = absurd (cc is)
real_unsettled k (OfPort j (OnPort (Receives frame))) is = absurd (cc is)
real_unsettled k (OfPort j (Switched frame out full)) is = absurd (cc is)
real_unsettled k (Unsettled j) is = sym is
real_unsettled k _ is = absurd (cc is)

pub real_of_lane : (k : ℕ) (event : DiskEvent) (x : SettleEntry) → OfLane k event ≡ told_of x → x ≡ OfLane k event
real_of_lane k event (OfPort j (OnPort (OnLane other))) is = absurd (cc is)
real_of_lane k event (OfPort j (OnPort (Receives frame))) is = absurd (cc is)
real_of_lane k event (OfPort j (Switched frame out full)) is = absurd (cc is)
real_of_lane k event (OfLane j other) is = sym is
real_of_lane k event _ is = absurd (cc is)

pub real_switched : (k : ℕ) (frame : List ℕ) (out full : ℕ) (x : SettleEntry) → OfPort k (Switched frame out full) ≡ told_of x
    → x ≡ OfPort k (Switched frame out full)
real_switched k frame out full (OfPort j (OnPort (OnLane event))) is = absurd (cc is)
real_switched k frame out full (OfPort j (OnPort (Receives other))) is = absurd (cc is)
real_switched k frame out full (OfPort j (Switched other one two)) is = sym is
real_switched k frame out full _ is = absurd (cc is)
