-- What stands of each lane where a settle ends settled, by the part that it gave.
use Rattle.std.proofs.Common.{◌≡◌, ℕ, ◌≤◌, ◌⊎◌, inl, inr, Bool, true, List, arith}
use Rattle.lane_models.specs.ClientState.{is_finished}
use Rattle.lane_models.specs.LaneState.{LaneState}
use Rattle.lane_models.specs.Reached.{IsReached}
use Rattle.world_laws.proofs.Behind.{ends_finished}
use Rattle.lane_kinds.proofs.Ticked.{AreTicks, each_ticked}
use Rattle.lane_kinds.specs.LaneCounts.{mark_at}
use Rattle.world_laws.proofs.TicksOnce.{part_ticks, settles_ticks}
use Rattle.world_laws.specs.Ended.{EndsFinished, EndsIn, LanesEnd}
use Rattle.world_laws.specs.Moves.{ticks_in}
use Rattle.world_laws.specs.Rounds.{Each, EachMarked}
use Rattle.world_laws.specs.Settle.{SettleEntry, Settles}

by_tick : (k : ℕ) (had : Bool) (part : List SettleEntry) (t : LaneState) → (had ≡ true → ticks_in k part ≡ 1) → (is_finished t.client ≡ true) ⊎ (had ≡ true)
    → (is_finished t.client ≡ true) ⊎ (ticks_in k part ≡ 1)
by_tick k had part t one (inl finished) = inl finished
by_tick k had part t one (inr is) = inr (one is)

lane_ends : (part : List SettleEntry) (k : ℕ) (t : LaneState) (had : Bool) → (had ≡ true → ticks_in k part ≡ 1) → EndsFinished t had → EndsIn k part t
lane_ends part k t had one ends = grind arith

-- by their marks
pub lanes_end : (part : List SettleEntry) (behind : List LaneState) (marks : List Bool) → AreTicks (λ k. ticks_in k part) 0 marks → EachMarked EndsFinished behind marks → LanesEnd 0 part behind
lanes_end part behind marks given ends = grind (arith, each_ticked)

same_is_most : (a b : ℕ) → a ≡ b → b ≤ a
same_is_most a b is = omega (arith, is)

pub settled_lanes : (start : List LaneState) (part : List SettleEntry) (behind : List LaneState) → Each IsReached start → Settles start part behind → LanesEnd 0 part behind
settled_lanes start part behind reached at =
    lanes_end part behind at.now.marks
    (record {
      marked = λ k. same_is_most (ticks_in k part) (mark_at k 0 at.now.marks) (settles_ticks start part behind k at);
      most = λ k. part_ticks start part behind k (inl at);
    }) (ends_finished start at.rounds at.now at.steps behind reached at.run at.last)
