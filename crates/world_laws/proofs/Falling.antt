-- Each round of a settle that isn't the last lowers what remains on all lanes, where nobody forged one: so few are made.
use Rattle.std.proofs.Common.{◌≡◌, ℕ, ◌+◌, ◌*◌, ◌≤◌, ◌<◌, List, [], ◌∷◌, length, arith}
use Rattle.std.specs.Prelude.{⊤}
use Rattle.runs.specs.Run.{Run}
use Rattle.lane_models.specs.LaneState.{LaneState}
use Rattle.lane_models.specs.Reached.{IsReached}
use Rattle.lane_kinds.proofs.Falling as kind
use Rattle.lane_kinds.proofs.Lanes.{all_fall}
use Rattle.lane_kinds.specs.Lanes.{AreCleanWhere}
use Rattle.lane_kinds.specs.Laws.{Falls, KeepsStanding}
use Rattle.lane_laws.proofs.LaneBound.{remains_most}
use Rattle.lane_laws.specs.Remaining.{remaining}
use Rattle.world_laws.proofs.DiskLaws.{IsClean, disk_falls}
use Rattle.world_laws.specs.DiskKind.{disk_kind}
use Rattle.world_laws.specs.Rounds.{Each}
use Rattle.world_laws.specs.Settle.{GoesOn, RunsOut, SettleEntry, SettlePart, SettleRound, Settles, Settling, begin, disk_entries, disks, most_rounds, pending_on}
use Rattle.world_laws.specs.Sums.{IsUnforged, remaining_on}

-- LANES that were reached, and that nobody forged, however many there are
abbrev pub AreClean : List LaneState → Type 0
AreClean = AreCleanWhere (λ n. ⊤) IsClean

each_clean : (lanes : List LaneState) → Each IsReached lanes → Each IsUnforged lanes → Each IsClean lanes
each_clean [] reached unforged = tt
each_clean (s ∷ lanes) reached unforged = (record { reached = reached.0; unforged = unforged.0 }, each_clean lanes reached.1 unforged.1)

pub are_clean : (lanes : List LaneState) → Each IsReached lanes → Each IsUnforged lanes → AreClean lanes
are_clean lanes reached unforged = record { few = tt; clean = each_clean lanes reached unforged }

pub falls : Falls disks AreClean remaining_on
falls = all_fall disk_kind IsClean remaining disk_falls disk_entries

pub keeps : KeepsStanding disks (λ lanes marks. AreClean lanes)
keeps = falls.keeps

-- THE BOUND
lane_sum : (a b n p q : ℕ) → a ≤ 69 + 32 * p → b ≤ 69 * n + 32 * q → a + b ≤ 69 * (n + 1) + 32 * (p + q)
lane_sum a b n p q one more = omega (arith, one, more)

one_more : (b n m q : ℕ) → m ≡ n + 1 → b ≤ 69 * (n + 1) + 32 * q → b ≤ 69 * m + 32 * q
one_more b n m q is most = omega (arith, is, most)

pub remains_on_most : (lanes : List LaneState) → Each IsClean lanes → remaining_on lanes ≤ 69 * length lanes + 32 * pending_on lanes
remains_on_most [] all = omega (arith)
remains_on_most (s ∷ lanes) all = grind (arith, one_more, lane_sum, remains_most, remains_on_most lanes all.1)

within : (all lanes pending : ℕ) → all ≤ 69 * lanes + 32 * pending → lanes ≤ 8 → all < 4096 + 64 * pending
within all lanes pending most few = omega (arith, most, few)

few_remain : (start : List LaneState) → AreClean start → length start ≤ 8 → remaining_on start < most_rounds start
few_remain start clean few = within (remaining_on start) (length start) (pending_on start) (remains_on_most start clean.clean) few

-- THE LAWS
pub rounds_lower : (start : List LaneState) (rounds : List SettleRound) (now : Settling) → Each IsReached start → Each IsUnforged start → Run GoesOn (begin start) rounds now
    → length rounds + remaining_on now.lanes ≤ remaining_on start
rounds_lower start rounds now reached unforged run =
    kind.rounds_lower disks AreClean remaining_on falls (begin start) rounds now (are_clean start reached unforged) run

pub rounds_few : (start : List LaneState) (rounds : List SettleRound) (now : Settling) → Each IsReached start → Each IsUnforged start → length start ≤ 8 → Run GoesOn (begin start) rounds now
    → length rounds < most_rounds start
rounds_few start rounds now reached unforged few run =
    let clean : AreClean start = are_clean start reached unforged in
    kind.rounds_few disks AreClean remaining_on falls start rounds now clean (few_remain start clean few) run

pub never_out : (start : List LaneState) (part : List SettleEntry) (behind : List LaneState) → Each IsReached start → Each IsUnforged start → length start ≤ 8 → RunsOut start part behind → ⊥
never_out start part behind reached unforged few out =
    let clean : AreClean start = are_clean start reached unforged in
    kind.never_out disks AreClean remaining_on falls start part behind clean (few_remain start clean few) out

pub ends_settled : (start : List LaneState) (part : List SettleEntry) (behind : List LaneState) → Each IsReached start → Each IsUnforged start → length start ≤ 8 → SettlePart start part behind
    → Settles start part behind
ends_settled start part behind reached unforged few settle =
    let clean : AreClean start = are_clean start reached unforged in
    kind.ends_settled disks AreClean remaining_on falls start part behind clean (few_remain start clean few) settle
