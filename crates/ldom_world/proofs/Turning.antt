-- Steps of ends turn by turn: a step of one end, the two of a lane, a round, and rounds; and a front of them where
-- memory was wanted.
use Rattle.std.proofs.Common.{◌≡◌, ℕ, zero, suc, ◌+◌, ◌-◌, ◌<◌, Result, Ok, Err, List, [], ◌∷◌, ◌++◌, length, replicate, refl, sym, ap, ap₂, subst, ◌∙◌, arith, append_assoc, append-nil}
use Rattle.std.specs.Prelude.{OnErr}
use Rattle.runs.specs.Run.{Run, run_append}
use Rattle.recorded_lanes.specs.world_parts.world_laws.Settle.{OfLane, OfPort, SettleEntry}
use Rattle.recorded_lanes.proofs.world_parts.domain_laws.Running.{disks_run, ports_many, ports_run}
use Rattle.recorded_lanes.specs.world_parts.domain_laws.Domain.{DomainState, DomainStep, Lanes, lanes_in}
use Rattle.recorded_lanes.specs.world_parts.domain_laws.Lines.{AreSteps, DiskLane, EndTurn, LaneName, PortLane, Rounds, Steps, both_ends, lanes_from, round_turns, turn, turns_of}
use Rattle.domain_script.specs.declared.fields.LaneKind.{LaneKind}
use Rattle.domain_script.specs.declared.fields.LaneKind.TheVariants as kinds
use Rattle.ldc_queue.specs.declared.end.End.{End}
use Rattle.ldc_queue.specs.declared.end.End.TheVariants.{A, B}
use Rattle.ldom_entries.specs.declared.entry.Entry.{Entry}
use Rattle.recorded_lanes.proofs.Adding.{both_add, none_adds}
use Rattle.ldom_world.proofs.NumbersStay.{run_many}
use Rattle.recorded_lanes.specs.Steps.{MakesStep, moment}
use Rattle.domain_script.specs.LaneKinds.{disk_lane, port_lane}
use Rattle.ldom_world.specs.TurnsMade.{SameNumbers, TurnsBegun, TurnsMade, kind_turns, lane_turns}
use Rattle.recorded_lanes.specs.world_parts.Lines.{number_of_kind}
use Rattle.recorded_lanes.specs.world_parts.WorldKinds.{of_kind}
use Rattle.recorded_lanes.specs.world_parts.Parts.{Fits, FitsSoFar}

-- what holds where memory was wanted, of a call's answer
pub at_error : {X E : Type 0} (result : Result X E) (P : Type 0) → P → OnErr result P
at_error (Ok x) P holds = tt
at_error (Err e) P holds = holds

-- TURNS, one after the other
both_steps : (first second : List EndTurn) (one two : List SettleEntry) → AreSteps first one → AreSteps second two
    → AreSteps (first ++ second) (one ++ two)
both_steps [] second [] two steps more = more
both_steps [] second (x ∷ one) two steps more = absurd steps
both_steps (next ∷ first) second [] two steps more = absurd steps
both_steps (next ∷ first) second (entry ∷ one) two steps more =
    (steps.0, both_steps first second one two steps.1 more)

pub none_turned : (w v : DomainState) (old new : List Entry) → v ≡ w → new ≡ old → TurnsMade [] w old new v
none_turned w v old new same none = record {
  entries = [];
  adds = λ line. none_adds line old new none;
  steps = tt;
  run = sym same;
}

pub nothing_turned : (w : DomainState) (old : List Entry) → TurnsMade [] w old old w
nothing_turned w old = none_turned w w old old refl refl

-- of a lane of this kind
pub disk_turned : (kind : LaneKind) (k : ℕ) (e : End) (w v : DomainState) (old new : List Entry) → kind ≡ kinds.Disk
    → MakesStep DomainStep (disk_lane k) e (moment w old) (moment v new) → TurnsMade (turn (of_kind kind k) e ∷ []) w old new v
disk_turned kind k e w v old new is made =
    subst (λ (x : LaneKind). TurnsMade (turn (of_kind x k) e ∷ []) w old new v) (sym is) (record {
      entries = OfLane k made.event ∷ [];
      adds = made.adds;
      steps = ((refl, made.of_end), tt);
      run = (v, made.moves, refl);
    })

pub port_turned : (kind : LaneKind) (k : ℕ) (e : End) (w v : DomainState) (old new : List Entry) → kind ≡ kinds.Port
    → MakesStep DomainStep (port_lane k) e (moment w old) (moment v new) → TurnsMade (turn (of_kind kind k) e ∷ []) w old new v
port_turned kind k e w v old new is made =
    subst (λ (x : LaneKind). TurnsMade (turn (of_kind x k) e ∷ []) w old new v) (sym is) (record {
      entries = OfPort k made.event ∷ [];
      adds = made.adds;
      steps = ((refl, made.of_end), tt);
      run = (v, made.moves, refl);
    })

-- so many turns are these, by an equation
as_turns : (turns others : List EndTurn) (w v : DomainState) (old new : List Entry) → turns ≡ others
    → TurnsMade turns w old new v → TurnsMade others w old new v
as_turns turns others w v old new is made = subst (λ (l : List EndTurn). TurnsMade l w old new v) is made

module _ (first second : List EndTurn) (w m v : DomainState) (old mid new : List Entry) where
  both_turned : TurnsMade first w old mid m → TurnsMade second m mid new v → TurnsMade (first ++ second) w old new v
  both_turned one two = record {
    entries = one.entries ++ two.entries;
    adds = λ line. both_add line old mid new one.entries two.entries (one.adds line) (two.adds line);
    steps = both_steps first second one.entries two.entries one.steps two.steps;
    run = run_append DomainStep w m v one.entries two.entries one.run two.run;
  }

-- FRONTS: nothing yet, a front of what follows, and less than what there is
pub none_begun : (next : EndTurn) (turns : List EndTurn) (w v : DomainState) (old new : List Entry) → v ≡ w → new ≡ old
    → TurnsBegun (next ∷ turns) w old new v
none_begun next turns w v old new same none = record {
  made = [];
  next = next;
  left = turns;
  turns_are = refl;
  turned = none_turned w v old new same none;
}

begun_behind : (first second : List EndTurn) (w m v : DomainState) (old mid new : List Entry) → TurnsMade first w old mid m
    → TurnsBegun second m mid new v → TurnsBegun (first ++ second) w old new v
begun_behind first second w m v old mid new one two = record {
  made = first ++ two.made;
  next = two.next;
  left = two.left;
  turns_are = ap (λ (l : List EndTurn). first ++ l) two.turns_are ∙ sym (append_assoc first two.made (two.next ∷ two.left));
  turned = both_turned first two.made w m v old mid new one two.turned;
}

begun_before : (first second : List EndTurn) (w v : DomainState) (old new : List Entry) → TurnsBegun first w old new v
    → TurnsBegun (first ++ second) w old new v
begun_before first second w v old new begun = record {
  made = begun.made;
  next = begun.next;
  left = begun.left ++ second;
  turns_are =
      ap (λ (l : List EndTurn). l ++ second) begun.turns_are ∙ append_assoc begun.made (begun.next ∷ begun.left) second;
  turned = begun.turned;
}

as_begun : (turns others : List EndTurn) (w v : DomainState) (old new : List Entry) → turns ≡ others
    → TurnsBegun turns w old new v → TurnsBegun others w old new v
as_begun turns others w v old new is begun = subst (λ (l : List EndTurn). TurnsBegun l w old new v) is begun

-- THE TWO STEPS of a lane
pub both_made : (lane : LaneName) (w m v : DomainState) (old mid new : List Entry) → TurnsMade (turn lane A ∷ []) w old mid m
    → TurnsMade (turn lane B ∷ []) m mid new v → TurnsMade (turn lane A ∷ turn lane B ∷ []) w old new v
both_made lane w m v old mid new first second =
    both_turned (turn lane A ∷ []) (turn lane B ∷ []) w m v old mid new first second

pub first_alone : (lane : LaneName) (w m v : DomainState) (old mid new : List Entry) → TurnsMade (turn lane A ∷ []) w old mid m
    → v ≡ m → new ≡ mid → TurnsBegun (turn lane A ∷ turn lane B ∷ []) w old new v
first_alone lane w m v old mid new first same none =
    begun_behind (turn lane A ∷ []) (turn lane B ∷ []) w m v old mid new first
    (none_begun (turn lane B) [] m v mid new same none)

-- THE LANES OF A KIND in a round, one by one
turns_join : (kind : LaneKind) (k n more : ℕ) → lane_turns kind k (n + more) ≡ lane_turns kind k n ++ lane_turns kind (k + n) more
turns_join kind k zero more =
    ap (λ (i : ℕ). lane_turns kind k i) (let is : 0 + more ≡ more = omega (arith) in is)
    ∙ ap (λ (i : ℕ). lane_turns kind i more) (let is : k ≡ k + 0 = omega (arith) in is)
turns_join kind k (suc n) more =
    ap (λ (i : ℕ). lane_turns kind k i) (let is : suc n + more ≡ suc (n + more) = omega (arith) in is)
    ∙ ap (λ (l : List EndTurn). turn (of_kind kind k) A ∷ turn (of_kind kind k) B ∷ l)
    (turns_join kind (k + 1) n more
    ∙ ap (λ (i : ℕ). lane_turns kind (k + 1) n ++ lane_turns kind i more)
    (let is : (k + 1) + n ≡ k + suc n = omega (arith) in is))

module _ (kind : LaneKind) (k : ℕ) where
  abbrev two_turns : List EndTurn
  two_turns = turn (of_kind kind k) A ∷ turn (of_kind kind k) B ∷ []

  one_more_lane : lane_turns kind 0 k ++ two_turns ≡ lane_turns kind 0 (k + 1)
  one_more_lane =
      sym (turns_join kind 0 k 1
      ∙ ap (λ (i : ℕ). lane_turns kind 0 k ++ lane_turns kind i 1) (let is : 0 + k ≡ k = omega (arith) in is))

  module _ (w m v : DomainState) (first old new : List Entry) where
    pub round_turned : TurnsMade (lane_turns kind 0 k) w first old m → TurnsMade two_turns m old new v
        → TurnsMade (lane_turns kind 0 (k + 1)) w first new v
    round_turned before both =
        as_turns (lane_turns kind 0 k ++ two_turns) (lane_turns kind 0 (k + 1)) w v first new one_more_lane
        (both_turned (lane_turns kind 0 k) two_turns w m v first old new before both)

    pub round_wants : k < number_of_kind kind w → TurnsMade (lane_turns kind 0 k) w first old m
        → TurnsBegun two_turns m old new v → TurnsBegun (kind_turns kind w) w first new v
    round_wants less before begun =
        let many = number_of_kind kind w in
        let rest = many - (k + 1) in
        let all : (k + 1) + rest ≡ many = omega (arith, less) in
        as_begun (lane_turns kind 0 (k + 1) ++ lane_turns kind (0 + (k + 1)) rest) (kind_turns kind w) w v first new
        (sym (turns_join kind 0 (k + 1) rest) ∙ ap (λ (i : ℕ). lane_turns kind 0 i) all)
        (begun_before (lane_turns kind 0 (k + 1)) (lane_turns kind (0 + (k + 1)) rest) w v first new
        (as_begun (lane_turns kind 0 k ++ two_turns) (lane_turns kind 0 (k + 1)) w v first new one_more_lane
        (begun_behind (lane_turns kind 0 k) two_turns w m v first old new before begun)))

pub round_of_all : (kind : LaneKind) (n : ℕ) (w v : DomainState) (old new : List Entry) → n ≡ number_of_kind kind w
    → TurnsMade (lane_turns kind 0 n) w old new v → TurnsMade (kind_turns kind w) w old new v
round_of_all kind n w v old new all turned =
    as_turns (lane_turns kind 0 n) (kind_turns kind w) w v old new (ap (λ (i : ℕ). lane_turns kind 0 i) all) turned

-- A ROUND: the disks, and behind them as many ports as there were before
disk_lanes : (k n : ℕ) → lanes_from (of_kind kinds.Disk) k n ≡ lanes_from DiskLane k n
disk_lanes k zero = refl
disk_lanes k (suc n) = ap (λ (l : List LaneName). DiskLane k ∷ l) (disk_lanes (k + 1) n)

port_lanes : (k n : ℕ) → lanes_from (of_kind kinds.Port) k n ≡ lanes_from PortLane k n
port_lanes k zero = refl
port_lanes k (suc n) = ap (λ (l : List LaneName). PortLane k ∷ l) (port_lanes (k + 1) n)

round_is : (w m : DomainState) → SameNumbers w m
    → kind_turns kinds.Disk w ++ kind_turns kinds.Port m ≡ round_turns (lanes_in w)
round_is w m same =
    ap₂ (λ (a b : List LaneName). both_ends a ++ both_ends b) (disk_lanes 0 (length w.first.lanes))
    (port_lanes 0 (length m.second) ∙ ap (λ (n : ℕ). lanes_from PortLane 0 n) same.ports)

module _ (w m v : DomainState) (old mid new : List Entry) (same : SameNumbers w m) where
  pub kinds_turned : TurnsMade (kind_turns kinds.Disk w) w old mid m → TurnsMade (kind_turns kinds.Port m) m mid new v
      → TurnsMade (round_turns (lanes_in w)) w old new v
  kinds_turned disks ports =
      as_turns (kind_turns kinds.Disk w ++ kind_turns kinds.Port m) (round_turns (lanes_in w)) w v old new (round_is w m same)
      (both_turned (kind_turns kinds.Disk w) (kind_turns kinds.Port m) w m v old mid new disks ports)

  pub ports_want : TurnsMade (kind_turns kinds.Disk w) w old mid m → TurnsBegun (kind_turns kinds.Port m) m mid new v
      → TurnsBegun (round_turns (lanes_in w)) w old new v
  ports_want disks begun =
      as_begun (kind_turns kinds.Disk w ++ kind_turns kinds.Port m) (round_turns (lanes_in w)) w v old new (round_is w m same)
      (begun_behind (kind_turns kinds.Disk w) (kind_turns kinds.Port m) w m v old mid new disks begun)

pub disks_want : (w v : DomainState) (old new : List Entry) → TurnsBegun (kind_turns kinds.Disk w) w old new v
    → TurnsBegun (round_turns (lanes_in w)) w old new v
disks_want w v old new begun =
    as_begun (kind_turns kinds.Disk w ++ kind_turns kinds.Port w) (round_turns (lanes_in w)) w v old new
    (round_is w w (record { disks = refl; ports = refl }))
    (begun_before (kind_turns kinds.Disk w) (kind_turns kinds.Port w) w v old new begun)

-- ROUNDS, one after the other, over as many lanes
same_turns : (w m : DomainState) (entries : List SettleEntry) → Run DomainStep w entries m → round_turns (lanes_in m) ≡ round_turns (lanes_in w)
same_turns w m entries run =
    ap₂ (λ (i j : ℕ). both_ends (lanes_from DiskLane 0 i) ++ both_ends (lanes_from PortLane 0 j))
    (run_many w.first m.first entries (disks_run w entries m run)) (ports_many w.second entries m.second (ports_run w entries m run))

turns_both : (n more : ℕ) (w : Lanes) → turns_of (n + more) w ≡ turns_of n w ++ turns_of more w
turns_both zero more w = ap (λ (i : ℕ). turns_of i w) (let is : 0 + more ≡ more = omega (arith) in is)
turns_both (suc n) more w =
    ap (λ (i : ℕ). turns_of i w) (let is : suc n + more ≡ suc (n + more) = omega (arith) in is)
    ∙ ap (λ (l : List EndTurn). round_turns w ++ l) (turns_both n more w)
    ∙ sym (append_assoc (round_turns w) (turns_of n w) (turns_of more w))

turns_more : (n : ℕ) (w : Lanes) → turns_of n w ++ round_turns w ≡ turns_of (n + 1) w
turns_more n w =
    ap (λ (l : List EndTurn). turns_of n w ++ l) (sym (append-nil (round_turns w))) ∙ sym (turns_both n 1 w)

rounds_so_far : (count : ℕ) (w v : DomainState) (old new : List Entry)
    → TurnsBegun (turns_of count (lanes_in w)) w old new v → FitsSoFar w (Rounds count) old new v
rounds_so_far count w v old new begun = record {
  entries = begun.turned.entries;
  adds = begun.turned.adds (Rounds count);
  begins = record {
    begins = record {
      made = begun.made;
      left = begun.next ∷ begun.left;
      turns_are = begun.turns_are;
      another = λ none. absurd (cc none);
      steps = begun.turned.steps;
    };
    run = begun.turned.run;
  };
}

module _ (n : ℕ) (w m v : DomainState) (first old new : List Entry) where
  pub rounds_turned : TurnsMade (turns_of n (lanes_in w)) w first old m → TurnsMade (round_turns (lanes_in m)) m old new v
      → TurnsMade (turns_of (n + 1) (lanes_in w)) w first new v
  rounds_turned before round =
      as_turns (turns_of n (lanes_in w) ++ round_turns (lanes_in w)) (turns_of (n + 1) (lanes_in w)) w v first new (turns_more n (lanes_in w))
      (both_turned (turns_of n (lanes_in w)) (round_turns (lanes_in w)) w m v first old new before
      (as_turns (round_turns (lanes_in m)) (round_turns (lanes_in w)) m v old new (same_turns w m before.entries before.run) round))

  pub rounds_want : (count : ℕ) → n < count → TurnsMade (turns_of n (lanes_in w)) w first old m
      → TurnsBegun (round_turns (lanes_in m)) m old new v → FitsSoFar w (Rounds count) first new v
  rounds_want count less before begun =
      let rest = count - (n + 1) in
      let all : (n + 1) + rest ≡ count = omega (arith, less) in
      rounds_so_far count w v first new
      (as_begun (turns_of (n + 1) (lanes_in w) ++ turns_of rest (lanes_in w)) (turns_of count (lanes_in w)) w v first new
      (sym (turns_both (n + 1) rest (lanes_in w)) ∙ ap (λ (i : ℕ). turns_of i (lanes_in w)) all)
      (begun_before (turns_of (n + 1) (lanes_in w)) (turns_of rest (lanes_in w)) w v first new
      (as_begun (turns_of n (lanes_in w) ++ round_turns (lanes_in w)) (turns_of (n + 1) (lanes_in w)) w v first new (turns_more n (lanes_in w))
      (begun_behind (turns_of n (lanes_in w)) (round_turns (lanes_in w)) w m v first old new before
      (as_begun (round_turns (lanes_in m)) (round_turns (lanes_in w)) m v old new (same_turns w m before.entries before.run) begun)))))

pub rounds_fit : (n count : ℕ) (w v : DomainState) (old new : List Entry) → n ≡ count
    → TurnsMade (turns_of n (lanes_in w)) w old new v → Fits w (Rounds count) old new v
rounds_fit n count w v old new all turned =
    subst (λ (i : ℕ). Fits w (Rounds i) old new v) all (record {
      entries = turned.entries;
      adds = turned.adds (Rounds n);
      moves = record { part_of = turned.steps; run = turned.run };
    })

-- STEPS of one end, one after the other
same_both : (n more : ℕ) (next : EndTurn) → replicate (n + more) next ≡ replicate n next ++ replicate more next
same_both zero more next = ap (λ (i : ℕ). replicate i next) (let is : 0 + more ≡ more = omega (arith) in is)
same_both (suc n) more next =
    ap (λ (i : ℕ). replicate i next) (let is : suc n + more ≡ suc (n + more) = omega (arith) in is)
    ∙ ap (λ (l : List EndTurn). next ∷ l) (same_both n more next)

module _ (lane : LaneName) (e : End) (n : ℕ) (w m v : DomainState) (first old new : List Entry) where
  pub one_more_step : TurnsMade (replicate n (turn lane e)) w first old m → TurnsMade (turn lane e ∷ []) m old new v
      → TurnsMade (replicate (n + 1) (turn lane e)) w first new v
  one_more_step before made =
      as_turns (replicate n (turn lane e) ++ turn lane e ∷ []) (replicate (n + 1) (turn lane e)) w v first new
      (sym (same_both n 1 (turn lane e)))
      (both_turned (replicate n (turn lane e)) (turn lane e ∷ []) w m v first old new before
      made)

  pub steps_want : (count : ℕ) → n < count → TurnsMade (replicate n (turn lane e)) w first old m → v ≡ m → new ≡ old
      → FitsSoFar w (Steps lane e count) first new v
  steps_want count less before same none =
      let rest = count - (n + 1) in
      let all : n + suc rest ≡ count = omega (arith, less) in
      let turned =
      both_turned (replicate n (turn lane e)) [] w m v first old new before (none_turned m v old new same none) in
      record {
        entries = turned.entries;
        adds = turned.adds (Steps lane e count);
        begins = record {
          begins = record {
            made = replicate n (turn lane e) ++ [];
            left = replicate (suc rest) (turn lane e);
            turns_are = sym (ap (λ (i : ℕ). replicate i (turn lane e)) all) ∙ same_both n (suc rest) (turn lane e)
                ∙ ap (λ (l : List EndTurn). l ++ replicate (suc rest) (turn lane e)) (sym (append-nil (replicate n (turn lane e))));
            another = λ none. absurd (cc none);
            steps = turned.steps;
          };
          run = turned.run;
        };
      }

pub steps_fit : (lane : LaneName) (e : End) (n count : ℕ) (w v : DomainState) (old new : List Entry) → n ≡ count
    → TurnsMade (replicate n (turn lane e)) w old new v → Fits w (Steps lane e count) old new v
steps_fit lane e n count w v old new all turned =
    subst (λ (i : ℕ). Fits w (Steps lane e i) old new v) all (record {
      entries = turned.entries;
      adds = turned.adds (Steps lane e n);
      moves = record { part_of = turned.steps; run = turned.run };
    })

-- what the search goes by for these loops
pub ruleset round_on = (nothing_turned, round_turned, round_of_all)

pub ruleset rounds_on = (nothing_turned, rounds_turned, rounds_fit)

pub ruleset steps_on = (nothing_turned, one_more_step, steps_fit)
