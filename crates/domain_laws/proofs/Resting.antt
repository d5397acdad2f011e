-- Behind a settle over disks and ports that ends settled each lane is finished, or is one that somebody forged and that had its tick.
use Rattle.std.proofs.Common.{◌≡◌, ◌⊎◌, inl, inr, ℕ, ◌+◌, ◌≤◌, Bool, true, false, Option, Some, None, List, [], ◌∷◌, length, refl, sym, ap, ◌∙◌, arith}
use Rattle.std.proofs.lemmas.Bool.{eqb-true}
use Rattle.std.specs.Prelude.{◌&&◌, ◌==◌, is_some, not}
use Rattle.lane_models.specs.Reached as disk
use Rattle.lane_kinds.proofs.BothFronts.{first_fronts_count, lanes_ignore_fronts, second_fronts_count}
use Rattle.lane_kinds.proofs.Both.{both_keep, first_counts, first_ends_with, second_counts, second_ends_with}
use Rattle.lane_kinds.proofs.Counting.{front_counted, part_counted, settles_counted}
use Rattle.lane_kinds.proofs.Finishing.{IsWhole, all_each, all_rest, lanes_keep, whole_fresh}
use Rattle.lane_kinds.proofs.LaneCounts.{lanes_ignore, lanes_tick}
use Rattle.lane_kinds.proofs.LaneFronts.{fronts_tick}
use Rattle.lane_kinds.proofs.Stuck.{sum_both}
use Rattle.lane_kinds.proofs.Standing.{ends_with}
use Rattle.lane_kinds.proofs.Sums.{and_left, and_right}
use Rattle.lane_kinds.proofs.Ticked.{AreTicks, each_ticked}
use Rattle.lane_kinds.specs.Both.{BothStand, Two}
use Rattle.lane_kinds.specs.Fronts.{SettleFront}
use Rattle.lane_kinds.specs.LaneCounts.{LaneTicks, mark_at}
use Rattle.lane_kinds.specs.LaneFronts.{fronts_of}
use Rattle.lane_kinds.specs.Lanes.{EachMarked, EachOf, IsLaneAtRest}
use Rattle.lane_kinds.specs.Laws.{CountsRounds, KeepsStanding}
use Rattle.lane_kinds.specs.Settles.{EndsWith, SettlePart, Settles}
use Rattle.lane_kinds.specs.Stuck.{sum_over}
use Rattle.lane_models.specs.NetEndState.{NetSession}
use Rattle.lane_models.specs.NetLaneStep.{is_finished, is_nothing, told_all}
use Rattle.lane_models.specs.PortState.{PortState}
use Rattle.switch_laws.proofs.Counting as switch_counts
use Rattle.switch_laws.proofs.Resting.{port_rests}
use Rattle.switch_laws.proofs.PortTurns.{turn_steps}
use Rattle.switch_laws.specs.Ports.{ports, waits_on}
use Rattle.switch_laws.specs.Reached as port
use Rattle.world_laws.proofs.Behind as behind_disks
use Rattle.world_laws.proofs.DiskLaws.{IsLossless, disk_rests, disk_ticks}
use Rattle.world_laws.proofs.DiskLaws as disk_laws
use Rattle.world_laws.specs.Begun.{fronts as disk_fronts}
use Rattle.world_laws.proofs.SettledLanes.{lanes_end}
use Rattle.world_laws.specs.DiskKind.{disk_kind}
use Rattle.world_laws.specs.Ended.{EndsFinished, LanesEnd}
use Rattle.world_laws.specs.Moves.{ticks, ticks_in}
use Rattle.world_laws.specs.Settle.{SettleEntry, disk_entries, disks}
use Rattle.world_laws.specs.Sums as forging
use Rattle.domain_laws.specs.Lines.{fronts}
use Rattle.domain_laws.specs.Domain.{Lanes, lanes, port_entries, switch}
use Rattle.domain_laws.specs.Settling.{AreReached, HoldsNoFrame, PortEndsIn, PortsEnd, port_ticks, port_ticks_in}

-- ALONG THE ROUNDS each lane was reached, and lost nothing where it had its tick
abbrev pub WholePort : PortState → Bool → Type 0
WholePort = IsWhole ports port.IsReached port.IsUnforged port.IsLossless port_rests

abbrev pub Stand : Lanes → Two (List Bool) (List Bool) → Type 0
Stand = BothStand behind_disks.Stands (EachMarked WholePort)

pub keeps : KeepsStanding lanes Stand
keeps =
    both_keep disks switch behind_disks.Stands (EachMarked WholePort) behind_disks.keeps
    (lanes_keep ports port.IsReached port.IsUnforged port.IsLossless port_rests port_entries)

pub begins : (start : Lanes) → AreReached start → Stand start (lanes.unmarked start)
begins start reached = record {
  of_first = behind_disks.begins start.first reached.of_disks;
  of_second = whole_fresh ports port.IsReached port.IsUnforged port.IsLossless port_rests start.second reached.of_ports;
}

last : (start : Lanes) (part : List SettleEntry) (behind : Lanes) (at : Settles lanes start part behind) → AreReached start → EndsWith lanes Stand behind at.now.marks
last start part behind at reached = ends_with lanes Stand keeps start part behind at (begins start reached)

-- TICKS of each lane
disk_counts : (k : ℕ) → CountsRounds lanes (ticks_in k) (λ m. mark_at k 0 m.first)
disk_counts k =
    first_counts disks switch (ticks_in k) (mark_at k 0) (lanes_tick disk_kind disk_entries ticks disk_ticks k) (lanes_ignore ports port_entries (ticks k) (λ j event. refl) (λ j. refl))

port_ticking : LaneTicks ports port_entries port_ticks
port_ticking = record {
  turn_steps = switch_counts.ticks.turn_steps;
  step = switch_counts.ticks.step;
  tick = switch_counts.ticks.tick;
  left = λ k j. refl;
  answer = λ k. refl;
}

port_counts : (k : ℕ) → CountsRounds lanes (port_ticks_in k) (λ m. mark_at k 0 m.second)
port_counts k =
    second_counts disks switch (port_ticks_in k) (mark_at k 0) (lanes_tick ports port_entries port_ticks port_ticking k)
    (lanes_ignore disk_kind disk_entries (port_ticks k) (λ j event. refl) (λ j. refl)) refl

pub disk_ticks_once : (start : Lanes) (part : List SettleEntry) (behind : Lanes) (k : ℕ) → SettlePart lanes start part behind → ticks_in k part ≤ 1
disk_ticks_once start part behind k settle = part_counted lanes (ticks_in k) (λ m. mark_at k 0 m.first) (disk_counts k) start part behind settle

pub port_ticks_once : (start : Lanes) (part : List SettleEntry) (behind : Lanes) (k : ℕ) → SettlePart lanes start part behind → port_ticks_in k part ≤ 1
port_ticks_once start part behind k settle = part_counted lanes (port_ticks_in k) (λ m. mark_at k 0 m.second) (port_counts k) start part behind settle

-- also in a front of one
pub disk_ticks_begun : (start : Lanes) (part : List SettleEntry) (behind : Lanes) (k : ℕ) → SettleFront lanes fronts start part behind → ticks_in k part ≤ 1
disk_ticks_begun start part behind k at =
    front_counted lanes (ticks_in k) (λ m. mark_at k 0 m.first) (disk_counts k) fronts
    (first_fronts_count disks switch disk_fronts (fronts_of ports port_entries) (ticks_in k) (sum_both (ticks k)) (mark_at k 0) (lanes_tick disk_kind disk_entries ticks disk_ticks k)
    (fronts_tick disk_kind disk_entries ticks disk_ticks k) (lanes_ignore_fronts ports port_entries turn_steps (ticks k) (λ j event. refl))) start part behind at

pub port_ticks_begun : (start : Lanes) (part : List SettleEntry) (behind : Lanes) (k : ℕ) → SettleFront lanes fronts start part behind → port_ticks_in k part ≤ 1
port_ticks_begun start part behind k at =
    front_counted lanes (port_ticks_in k) (λ m. mark_at k 0 m.second) (port_counts k) fronts
    (second_fronts_count disks switch disk_fronts (fronts_of ports port_entries) (port_ticks_in k) (sum_both (port_ticks k)) (mark_at k 0) (lanes_tick ports port_entries port_ticks port_ticking k).most
    (fronts_tick ports port_entries port_ticks port_ticking k) (lanes_ignore disk_kind disk_entries (port_ticks k) (λ j event. refl) (λ j. refl))
    (lanes_ignore_fronts disk_kind disk_entries disk_laws.turn_steps (port_ticks k) (λ j event. refl))) start part behind at

same_is_most : (a b : ℕ) → a ≡ b → b ≤ a
same_is_most a b is = omega (arith, is)

-- DISKS
pub disks_end : (start : Lanes) (part : List SettleEntry) (behind : Lanes) → AreReached start → Settles lanes start part behind → LanesEnd 0 part behind.first
disks_end start part behind reached at =
    lanes_end part behind.first at.now.marks.first
    (record {
      marked = λ k. same_is_most (ticks_in k part) (mark_at k 0 at.now.marks.first)
          (settles_counted lanes (ticks_in k) (λ m. mark_at k 0 m.first) (disk_counts k) start part behind at);
      most = λ k. disk_ticks_once start part behind k (inl at);
    })
    (all_each disk_kind disk.IsReached forging.IsUnforged IsLossless disk_rests EndsFinished behind_disks.lane_ends disk_entries behind.first at.now.marks.first
    (first_ends_with disks switch behind_disks.Stands (EachMarked WholePort) behind at.now.marks (last start part behind at reached)))

-- PORTS
finished_where : (b : Bool) → not b ≡ false → b ≡ true
finished_where true is = refl
finished_where false is = absurd (cc is)

no_frames : (frames : List (List ℕ)) → is_nothing frames ≡ true → frames ≡ []
no_frames [] is = refl
no_frames (frame ∷ frames) is = absurd (cc is)

some_session : (session : Option NetSession) → told_all session ≡ true → is_some session ≡ true
some_session None is = absurd (cc is)
some_session (Some session) is = refl

no_queue : (frames : List (List ℕ)) → length frames ≡ 0 → frames ≡ []
no_queue [] none = refl
no_queue (frame ∷ frames) none = absurd (omega (arith, none))

pub at_rest : (t : PortState) → is_finished t.lane (length t.queue) ≡ true → HoldsNoFrame t
at_rest t is =
    let told = told_all t.lane.guest.session in
    let guest = is_nothing t.lane.guest.frames in
    let hub = is_nothing t.lane.hub.frames in
    let queue = length t.queue == 0 in
    let first = and_left (told && guest && hub) queue is in
    let before = and_left (told && guest) hub first in
    record {
      in_session = some_session t.lane.guest.session (and_left told guest before);
      guest = no_frames t.lane.guest.frames (and_right told guest before);
      switch_end = no_frames t.lane.hub.frames (and_right (told && guest) hub first);
      queue = no_queue t.queue (eqb-true (length t.queue) 0 (and_right (told && guest && hub) queue is));
    }

by_tick : (part : List SettleEntry) (k : ℕ) (t : PortState) (had : Bool) → (had ≡ true → port_ticks_in k part ≡ 1) → (waits_on t ≡ false) ⊎ (had ≡ true)
    → (is_finished t.lane (length t.queue) ≡ true) ⊎ (port_ticks_in k part ≡ 1)
by_tick part k t had one (inl rests) = inl (finished_where (is_finished t.lane (length t.queue)) rests)
by_tick part k t had one (inr is) = inr (one is)

port_ends : (part : List SettleEntry) (k : ℕ) (t : PortState) (had : Bool) → (had ≡ true → port_ticks_in k part ≡ 1) → IsLaneAtRest ports port.IsUnforged t had → PortEndsIn part k t
port_ends part k t had one rests = record {
  ticked = by_tick part k t had one rests.ticked;
  finished = λ clean. finished_where (is_finished t.lane (length t.queue)) (rests.finished clean);
  rests = λ clean. at_rest t (finished_where (is_finished t.lane (length t.queue)) (rests.finished clean));
}

pub ports_end : (start : Lanes) (part : List SettleEntry) (behind : Lanes) → AreReached start → Settles lanes start part behind → PortsEnd part behind.second
ports_end start part behind reached at =
    each_ticked (IsLaneAtRest ports port.IsUnforged) (PortEndsIn part) (λ k. port_ticks_in k part) (port_ends part) 0 behind.second at.now.marks.second
    (record {
      marked = λ k. same_is_most (port_ticks_in k part) (mark_at k 0 at.now.marks.second)
          (settles_counted lanes (port_ticks_in k) (λ m. mark_at k 0 m.second) (port_counts k) start part behind at);
      most = λ k. port_ticks_once start part behind k (inl at);
    })
    (all_rest ports port.IsReached port.IsUnforged port.IsLossless port_rests port_entries behind.second at.now.marks.second
    (second_ends_with disks switch behind_disks.Stands (EachMarked WholePort) behind at.now.marks (last start part behind at reached)))
