-- The part of a line: where it isn't a settle's, events of lanes alone; and a settle ends with its answer or with names.
use Rattle.std.proofs.Common.{◌≡◌, ◌⊎◌, inl, inr, ℕ, ◌≤◌, List, [], ◌∷◌, ◌++◌, replicate, subst, sym, arith}
use Rattle.lane_kinds.specs.Fronts.{SettleFront}
use Rattle.lane_kinds.specs.Settles.{SettlePart, Settles}
use Rattle.world_parts.specs.world_laws.Settle.{SettleEntry, Settled}
use Rattle.world_parts.proofs.domain_laws.Counting.{disk_never, disk_never_begun, port_never, port_never_begun}
use Rattle.world_parts.proofs.domain_laws.LineEntries.{EachEntry, by_answer, each_as, each_both, each_in, one_each, one_port_each, steps_each}
use Rattle.world_parts.proofs.domain_laws.Resting.{disk_ticks_begun, disk_ticks_once, port_ticks_begun, port_ticks_once}
use Rattle.world_parts.proofs.domain_laws.Settling.{begun_few, settles}
use Rattle.world_parts.specs.domain_laws.Counts.{disk_stuck, port_stuck}
use Rattle.world_parts.specs.domain_laws.Domain.{Lanes, lanes}
use Rattle.world_parts.specs.domain_laws.Lines.{AnswersFrame, AnswersGroup, AnswersRequest, AreSteps, Asked, BeginsPart, Calls, EndTurn, Joins, Line, Nothing, PartOf, Rounds, Sends, Steps, fronts, turn, turns_of}
use Rattle.world_parts.specs.domain_laws.Lines as world
use Rattle.world_parts.specs.domain_laws.Settling.{AreUnforged}
use Rattle.script_laws.proofs.ReachedLanes.{AreReachedFew}
use Rattle.script_laws.proofs.Entries.{IsOfLane, LeavesNone, NotSettled, lanes_leave, lanes_unsettled, names_unsettled}
use Rattle.script_laws.proofs.SettleEntries.{AreOfLanes, NamesLast, SettledLast, front_last, lane_steps, lanes_alone, out_last, out_unsettled, settle_front, settled_last}
use Rattle.script_laws.proofs.Untold.{all_told, told_never, told_port_stuck, told_port_ticks, told_stuck, told_ticks}
use Rattle.script_laws.specs.Settled.{EndsSettled, EndsUnsettled, KeepsRules}

-- STEPS, and no entry
steps : (turns : List EndTurn) (part : List SettleEntry) → AreSteps turns part → AreOfLanes part
steps turns part are = steps_each IsOfLane lane_steps turns part are

none : (part : List SettleEntry) → part ≡ [] → AreOfLanes part
none part is = each_as IsOfLane part [] is tt

-- A LINE: a settle's part, or events of lanes
pub part_is : (line : Line) (w : Lanes) (part : List SettleEntry) (behind : Lanes)
    → PartOf line w part behind → SettlePart lanes w part behind ⊎ AreOfLanes part
part_is Nothing w part behind is = inr (none part is)
part_is (Asked k request) w part behind is =
    inr (one_each IsOfLane k (AnswersRequest request) part (λ event answers. tt) is)
part_is (Sends k frame) w part behind is =
    inr (one_port_each IsOfLane k (AnswersFrame frame) part (λ event answers. tt) is)
part_is (Joins k address) w part behind is =
    inr (one_port_each IsOfLane k (AnswersGroup address) part (λ event answers. tt) is)
part_is (Steps lane e count) w part behind is = inr (steps (replicate count (turn lane e)) part is)
part_is (Rounds count) w part behind is = inr (steps (turns_of count w) part is)
part_is world.Settles w part behind is = inl is
part_is (Calls lane call) w part behind is =
    inr (by_answer AreOfLanes lane call part (λ k event same answers. (tt, tt)) (λ k event same answers. (tt, tt)) is)

-- A SETTLE over lanes that nobody forged
pub clean_settles : (w : Lanes) (part : List SettleEntry) (behind : Lanes) → AreReachedFew w → AreUnforged w
    → SettlePart lanes w part behind → Settles lanes w part behind
clean_settles w part behind at unforged settle = settles w part behind at.reached unforged at.few settle

as_settled : (part : List SettleEntry) → SettledLast part → EndsSettled part
as_settled part last = record { front = last.front; is = last.is }

pub settle_ends : (w : Lanes) (part : List SettleEntry) (behind : Lanes) → AreReachedFew w → AreUnforged w
    → SettlePart lanes w part behind → EndsSettled part
settle_ends w part behind at unforged settle =
    as_settled part (settled_last w part behind (clean_settles w part behind at unforged settle))

-- and over any
pub settle_either : (w : Lanes) (part : List SettleEntry) (behind : Lanes) → AreReachedFew w
    → SettlePart lanes w part behind → EndsSettled part ⊎ EndsUnsettled part
settle_either w part behind at (inl settles) = inl (as_settled part (settled_last w part behind settles))
settle_either w part behind at (inr out) = inr (out_unsettled w part behind out at.reached)

-- a whole settle, or a front of one, by its rules: as it is told
as_told : (part : List SettleEntry) → KeepsRules part → KeepsRules (all_told part)
as_told part rules = record {
  ticks = λ x. subst (λ (n : ℕ). n ≤ 1) (sym (told_ticks x part)) (rules.ticks x);
  port_ticks = λ k. subst (λ (n : ℕ). n ≤ 1) (sym (told_port_ticks k part)) (rules.port_ticks k);
  moves = λ x e. told_never (disk_stuck x e) (told_stuck x e) 0 part (rules.moves x e);
  port_moves = λ k e. told_never (port_stuck k e) (told_port_stuck k e) 0 part (rules.port_moves k e);
}

pub settle_rules : (w : Lanes) (part : List SettleEntry) (behind : Lanes)
    → SettlePart lanes w part behind ⊎ SettleFront lanes fronts w part behind → KeepsRules (all_told part)
settle_rules w part behind (inl settle) =
    as_told part (record {
      ticks = λ x. disk_ticks_once w part behind x settle;
      port_ticks = λ k. port_ticks_once w part behind k settle;
      moves = λ x e. disk_never w part behind x e settle;
      port_moves = λ k e. port_never w part behind k e settle;
    })
settle_rules w part behind (inr at) =
    as_told part (record {
      ticks = λ x. disk_ticks_begun w part behind x at;
      port_ticks = λ k. port_ticks_begun w part behind k at;
      moves = λ x e. disk_never_begun w part behind x e at;
      port_moves = λ k e. port_never_begun w part behind k e at;
    })

-- NO LANE IS LEFT OVER by a line over lanes that nobody forged
last_leaves : (part : List SettleEntry) → SettledLast part → EachEntry LeavesNone part
last_leaves part given = grind (arith, each_as, each_both, lanes_leave)

by_kind : (w : Lanes) (part : List SettleEntry) (behind : Lanes) → AreReachedFew w → AreUnforged w
    → SettlePart lanes w part behind ⊎ AreOfLanes part → EachEntry LeavesNone part
by_kind w part behind at unforged (inl settle) =
    last_leaves part (settled_last w part behind (clean_settles w part behind at unforged settle))
by_kind w part behind at unforged (inr of_lanes) = lanes_leave part of_lanes

pub part_leaves : (line : Line) (w : Lanes) (part : List SettleEntry) (behind : Lanes)
    → AreReachedFew w → AreUnforged w → PartOf line w part behind → EachEntry LeavesNone part
part_leaves line w part behind at unforged is =
    by_kind w part behind at unforged (part_is line w part behind is)

-- THE ANSWER OF A SETTLE stands in no other part, and in none that ran out of rounds
pub names_last : (part : List SettleEntry) → NamesLast part → EachEntry NotSettled part
names_last part given = grind (arith, each_as, each_both, lanes_unsettled, names_unsettled)

settles_if : (w : Lanes) (part before later : List SettleEntry) (behind : Lanes)
    → part ≡ before ++ Settled ∷ later → SettlePart lanes w part behind ⊎ AreOfLanes part
    → Settles lanes w part behind
settles_if w part before later behind is (inl (inl settles)) = settles
settles_if w part before later behind is (inl (inr out)) =
    absurd (each_in NotSettled part before Settled later is (names_last part (out_last w part behind out)))
settles_if w part before later behind is (inr of_lanes) =
    absurd (each_in IsOfLane part before Settled later is of_lanes)

pub settles_where : (line : Line) (w : Lanes) (part before later : List SettleEntry)
    (behind : Lanes) → PartOf line w part behind → part ≡ before ++ Settled ∷ later
    → Settles lanes w part behind
settles_where line w part before later behind of_line is =
    settles_if w part before later behind is (part_is line w part behind of_line)

-- A FRONT OF A LINE's part: events of lanes, and maybe names
pub begins_last : (line : Line) (w : Lanes) (part : List SettleEntry) (behind : Lanes)
    → BeginsPart line w part behind → NamesLast part
begins_last (Steps lane e count) w part behind first = lanes_alone part (steps first.made part first.steps)
begins_last (Rounds count) w part behind first = lanes_alone part (steps first.made part first.steps)
begins_last world.Settles w part behind front = front_last w part behind front
begins_last Nothing w part behind is = lanes_alone part (none part is)
begins_last (Asked k request) w part behind is = lanes_alone part (none part is)
begins_last (Sends k frame) w part behind is = lanes_alone part (none part is)
begins_last (Joins k address) w part behind is = lanes_alone part (none part is)
begins_last (Calls lane call) w part behind is = lanes_alone part (none part is)

pub begins_unsettled : (line : Line) (w : Lanes) (part : List SettleEntry) (behind : Lanes)
    → BeginsPart line w part behind → EachEntry NotSettled part
begins_unsettled line w part behind begins = names_last part (begins_last line w part behind begins)

-- and over lanes that nobody forged events of lanes alone
front_of : (w : Lanes) (part : List SettleEntry) (behind : Lanes) → AreReachedFew w → AreUnforged w
    → SettleFront lanes fronts w part behind → AreOfLanes part
front_of w part behind clean unforged at =
    settle_front w part behind at (begun_few w part behind clean.reached unforged clean.few at)

pub begins_lanes : (line : Line) (w : Lanes) (part : List SettleEntry) (behind : Lanes)
    → AreReachedFew w → AreUnforged w → BeginsPart line w part behind → AreOfLanes part
begins_lanes (Steps lane e count) w part behind at unforged first = steps first.made part first.steps
begins_lanes (Rounds count) w part behind at unforged first = steps first.made part first.steps
begins_lanes world.Settles w part behind at unforged front = front_of w part behind at unforged front
begins_lanes Nothing w part behind at unforged is = none part is
begins_lanes (Asked k request) w part behind at unforged is = none part is
begins_lanes (Sends k frame) w part behind at unforged is = none part is
begins_lanes (Joins k address) w part behind at unforged is = none part is
begins_lanes (Calls lane call) w part behind at unforged is = none part is
