-- A settle over disks and ports round by round: what all disks made and all ports behind them is a round, its ticks and its names; none yet,
-- one more round, and how it ends, by a last round, by names, or where memory is wanted.
use Rattle.std.proofs.Common.{◌≡◌, ℕ, ◌+◌, ◌<◌, ◌≤◌, Bool, true, false, inl, inr, List, [], ◌∷◌, ◌++◌, length, map, take, drop, refl, sym, ap, ap₂, ◌∙◌, subst, append_assoc, append-nil}
use Rattle.std.specs.Prelude.{◌||◌}
use Rattle.runs.specs.Run.{Run, run_append}
use Rattle.lane_models.specs.LaneState.{LaneState}
use Rattle.lane_kinds.proofs.BothMade.{AsMany, both_round, both_ticks, lists_say, many_made, many_then, many_ticked, none_marked, same_marks}
use Rattle.lane_kinds.proofs.EntryRuns.{Leaves, front_leaves, leaving_runs}
use Rattle.lane_kinds.proofs.LaneFronts.{of_both}
use Rattle.lane_kinds.proofs.LanesMade.{front_named, front_whole, round_said, ticks_made}
use Rattle.lane_kinds.proofs.Places.{take_whole}
use Rattle.lane_kinds.proofs.RoundsMade as rounds
use Rattle.lane_kinds.proofs.RoundsMade.{MarksSay}
use Rattle.lane_kinds.proofs.WorldMade.{names_leave}
use Rattle.lane_kinds.specs.Both.{AllRound, AllTicks}
use Rattle.lane_kinds.specs.LaneFronts.{RoundFront, TickFront}
use Rattle.lane_kinds.specs.Lanes.{EachOf, all_calm}
use Rattle.lane_kinds.specs.LanesMade as made
use Rattle.lane_kinds.specs.LanesMade.{Marks, both_true, first_marks}
use Rattle.lane_kinds.specs.Rounds.{tick_marks}
use Rattle.lane_kinds.specs.RoundsMade as rounds_made
use Rattle.lane_kinds.specs.RoundsMade.{GoneSaid}
use Rattle.lane_models.specs.PortState.{PortState}
use Rattle.switch_laws.specs.Ports.{ports}
use Rattle.world_laws.specs.DiskKind.{disk_kind}
use Rattle.world_laws.specs.Settle.{SettleEntry, Settled, disk_entries, disks}
use Rattle.world_laws.specs.World.{WorldState}
use Rattle.domain_laws.specs.Domain.{DomainState, DomainStep, Lanes, lanes, lanes_in, port_entries, switch}
use Rattle.domain_laws.specs.Going.{GoneOf, GoneOn, fresh_marks, most_rounds, no_marks}
use Rattle.domain_laws.specs.Lines.{LineBegins, LineMoves, fronts}
use Rattle.domain_laws.specs.Lines as script
use Rattle.domain_laws.specs.NamesMade.{AllNamed, DisksNamed, NamesBegun, PortsNamed, all_names, names_of}
use Rattle.domain_laws.specs.RoundMade.{DisksBegun, DisksUpTo, PortsBegun, PortsUpTo, RoundBegun, RoundMade, RoundOf, all_quiet, disks_in_world, ports_in_world, said}
use Rattle.domain_laws.specs.TicksMade.{DiskTicksBegun, DiskTicksUpTo, PortTicksBegun, PortTicksUpTo, TicksBegun, TicksMade, TicksOf}
use Rattle.domain_laws.proofs.LoopKinds.{disk_runs, port_runs}

-- what marks say of both kinds
says : MarksSay lanes said both_true names_of
says = lists_say disk_kind disk_entries ports port_entries

-- THE LANES, where those of the one kind stayed
abbrev lanes_of : List LaneState → List PortState → Lanes
lanes_of disks ports = record { first = disks; second = ports }

-- A ROUND: all disks made theirs, and then all ports
pub round_made : (start m v : DomainState) (entries later : List SettleEntry) (quiet : Marks) → DisksUpTo (length start.first.lanes) start entries quiet.first m
    → PortsUpTo (length m.second) m later quiet.second v → RoundMade start (entries ++ later) quiet v
round_made start m v entries later quiet first second =
    let disks_said = round_said disk_kind disk_entries quiet.first start.first.lanes entries m.first.lanes first.part_of in
    let ports_said = round_said ports port_entries quiet.second m.second later v.second second.part_of in
    let there = λ (x : List LaneState) (y : List PortState). RoundOf quiet (lanes_of start.first.lanes y) (entries ++ later) (lanes_of x v.second) in
    record {
      part_of = subst (λ (y : List PortState). there v.first.lanes y) first.stays
          (subst (λ (x : List LaneState). there x m.second) (ap (λ (x : WorldState). x.lanes) (sym second.stays))
          (both_round disks switch (map (all_calm disk_kind)) (map (all_calm ports)) (record { first = take (length start.first.lanes) quiet.first; second = take (length m.second) quiet.second })
          (lanes_of start.first.lanes m.second) (lanes_of m.first.lanes v.second) entries later disks_said ports_said));
      run = run_append DomainStep start m v entries later first.run second.run;
    }

pub round_quiet : (start now : DomainState) (entries : List SettleEntry) (quiet : Marks) (up : RoundMade start entries quiet now) (all : Bool) → all_quiet start quiet ≡ all
    → lanes.quiet up.part_of.steps ≡ all
round_quiet start now entries quiet up all is = says.quiet up.part_of.steps ∙ ap both_true (sym up.part_of.marks) ∙ is

-- memory was wanted among the disks, or among the ports behind them
pub round_of_disks : (start now : DomainState) (entries : List SettleEntry) → DisksBegun start entries now → RoundBegun start entries now
round_of_disks start now entries begun = record { part_of = inl (record { front = begun.part_of; other = sym begun.stays }); run = begun.run }

pub round_of_ports : (start m v : DomainState) (entries later : List SettleEntry) (quiet : List Bool) → DisksUpTo (length start.first.lanes) start entries quiet m → PortsBegun m later v
    → RoundBegun start (entries ++ later) v
round_of_ports start m v entries later quiet first begun =
    let all = round_said disk_kind disk_entries quiet start.first.lanes entries m.first.lanes first.part_of in
    record {
      part_of = inr (record {
        before = entries;
        all = subst (λ (x : List LaneState). AllRound disks start.first.lanes entries x) (ap (λ (x : WorldState). x.lanes) (sym begun.stays))
            (record { steps = all.steps; made = all.round.made; is = all.round.leaves });
        later = later;
        front = subst (λ (y : List PortState). RoundFront ports port_entries y later v.second) first.stays begun.part_of;
        is = refl;
      });
      run = run_append DomainStep start m v entries later first.run begun.run;
    }

-- THE TICKS of all disks, and then of all ports
pub ticks_of_all : (start m v : DomainState) (entries later : List SettleEntry) (had have : Marks) (some any : Bool) → DiskTicksUpTo (length start.first.lanes) start had.first entries some have.first m
    → PortTicksUpTo (length m.second) m had.second later any have.second v → TicksMade start had (entries ++ later) (some || any) have v
ticks_of_all start m v entries later had have some any first second =
    let there = λ (x : List LaneState) (y : List PortState). TicksOf had (some || any) have (lanes_of start.first.lanes y) (entries ++ later) (lanes_of x v.second) in
    record {
      part_of = subst (λ (y : List PortState). there v.first.lanes y) first.stays
          (subst (λ (x : List LaneState). there x m.second) (ap (λ (x : WorldState). x.lanes) (sym second.stays))
          (both_ticks disks switch (map (all_calm disk_kind)) (map (all_calm ports))
          (record { first = take (length start.first.lanes) had.first; second = take (length m.second) had.second })
          (record { first = take (length start.first.lanes) have.first; second = take (length m.second) have.second }) some any (lanes_of start.first.lanes m.second) (lanes_of m.first.lanes v.second)
          entries later (ticks_made disk_kind disk_entries had.first some have.first start.first.lanes entries m.first.lanes first.part_of)
          (ticks_made ports port_entries had.second any have.second m.second later v.second second.part_of)));
      run = run_append DomainStep start m v entries later first.run second.run;
    }

-- memory was wanted among those of the disks, among those of the ports, or behind all of them
pub ticks_of_disks : (start now : DomainState) (entries : List SettleEntry) (had : Marks) → DiskTicksBegun start had.first entries now → TicksBegun start had entries now
ticks_of_disks start now entries had begun = record { part_of = inl (record { front = begun.part_of; other = sym begun.stays }); run = begun.run }

pub ticks_of_ports : (start m v : DomainState) (entries later : List SettleEntry) (had : Marks) (have : List Bool) (some : Bool)
    → DiskTicksUpTo (length start.first.lanes) start had.first entries some have m → PortTicksBegun m had.second later v → TicksBegun start had (entries ++ later) v
ticks_of_ports start m v entries later had have some first begun =
    let made = ticks_made disk_kind disk_entries had.first some have start.first.lanes entries m.first.lanes first.part_of in
    record {
      part_of = inr (record {
        before = entries;
        all = subst (λ (x : List LaneState). AllTicks disks (take (length start.first.lanes) had.first) start.first.lanes entries x) (ap (λ (x : WorldState). x.lanes) (sym begun.stays))
            (record { ticks = made.ticks; is = made.leaves });
        later = later;
        front = subst (λ (y : List PortState). TickFront ports port_entries 0 y (take (length y) had.second) later v.second) first.stays begun.part_of;
        is = refl;
      });
      run = run_append DomainStep start m v entries later first.run begun.run;
    }

pub answer_wants : (start now : DomainState) (entries : List SettleEntry) (had have : Marks) (some : Bool) → TicksMade start had entries some have now → TicksBegun start had entries now
answer_wants start now entries had have some ticks =
    let marks = first_marks (lanes_in start) had in
    record {
      part_of = inr (record {
        before = disks.ticks_leave start.first.lanes marks.first;
        all = record { ticks = ticks.part_of.ticks.of_first; is = refl };
        later = switch.ticks_leave start.second marks.second;
        front = front_whole ports port_entries 0 start.second marks.second now.second ticks.part_of.ticks.of_second;
        is = ticks.part_of.leaves;
      });
      run = ticks.run;
    }

-- THE NAMES of all disks, and then of all ports; or the first of them
pub names_of_all : (w : DomainState) (quiet : Marks) (entries later : List SettleEntry) → DisksNamed (length w.first.lanes) w quiet.first entries → PortsNamed (length w.second) w quiet.second later
    → AllNamed w quiet (entries ++ later)
names_of_all w quiet entries later first second = record {
  are = ap₂ (λ (x y : List SettleEntry). x ++ y) (first.are ∙ ap (made.names disk_kind disk_entries 0 (take (length w.first.lanes) quiet.first)) (take_whole w.first.lanes))
      (second.are ∙ ap (made.names ports port_entries 0 (take (length w.second) quiet.second)) (take_whole w.second));
}

pub names_of_disks : (k : ℕ) (w : DomainState) (quiet : Marks) (entries : List SettleEntry) → DisksNamed k w quiet.first entries → k ≤ length w.first.lanes → NamesBegun w quiet entries
names_of_disks k w quiet entries first within =
    let behind = made.names ports port_entries 0 (take (length w.second) quiet.second) w.second in
    let more = made.names disk_kind disk_entries k (drop k (take (length w.first.lanes) quiet.first)) (drop k w.first.lanes) in
    record {
      unnamed = more ++ behind;
      are = sym (append_assoc entries more behind)
          ∙ ap (λ (l : List SettleEntry). l ++ behind) (front_named disk_kind disk_entries k w.first.lanes quiet.first entries within first.are);
    }

pub names_of_ports : (k : ℕ) (w : DomainState) (quiet : Marks) (entries later : List SettleEntry) → DisksNamed (length w.first.lanes) w quiet.first entries → PortsNamed k w quiet.second later
    → k ≤ length w.second → NamesBegun w quiet (entries ++ later)
names_of_ports k w quiet entries later first second within =
    let more = made.names ports port_entries k (drop k (take (length w.second) quiet.second)) (drop k w.second) in
    record {
      unnamed = more;
      are = append_assoc entries later more
          ∙ ap₂ (λ (x y : List SettleEntry). x ++ y) (first.are ∙ ap (made.names disk_kind disk_entries 0 (take (length w.first.lanes) quiet.first)) (take_whole w.first.lanes))
          (front_named ports port_entries k w.second quiet.second later within second.are);
    }

-- they leave the world as it is
all_leave : (w : DomainState) (quiet : Marks) → EachOf (Leaves DomainStep) (all_names w quiet)
all_leave w quiet =
    let marks = first_marks (lanes_in w) quiet in
    of_both (Leaves DomainStep) (made.names disk_kind disk_entries 0 marks.first w.first.lanes) (made.names ports port_entries 0 marks.second w.second)
    (names_leave disks_in_world disk_runs 0 marks.first w.first.lanes)
    (names_leave ports_in_world port_runs 0 marks.second w.second)

begun_run : (w : DomainState) (quiet : Marks) (entries : List SettleEntry) → NamesBegun w quiet entries → Run DomainStep w entries w
begun_run w quiet entries begun =
    leaving_runs DomainStep entries (front_leaves DomainStep entries begun.unnamed (all_names w quiet) begun.are (all_leave w quiet)) w

all_run : (w : DomainState) (quiet : Marks) (entries : List SettleEntry) → AllNamed w quiet entries → Run DomainStep w entries w
all_run w quiet entries named = begun_run w quiet entries (record { unnamed = []; are = append-nil entries ∙ named.are })

-- THE ROUNDS: none yet
pub fresh_are : (most : ℕ) (w : DomainState) → length w.first.lanes ≤ most → length w.second ≤ most → first_marks (lanes_in w) (fresh_marks most) ≡ no_marks w
fresh_are most w disks ports = none_marked most (lanes_in w) disks ports

pub nothing_gone : (start : DomainState) (had quiet : Marks) → first_marks (lanes_in start) had ≡ no_marks start → GoneOn start 0 [] had quiet start
nothing_gone start had quiet fresh =
    let w = lanes_in start in
    record {
      part_of = subst (λ (m : Marks). GoneSaid lanes said 0 m (first_marks w quiet) w [] w) (sym fresh) (rounds.nothing_gone lanes w (λ steps. first_marks w quiet ≡ said steps));
      run = refl;
    }

-- by the marks of as many lanes
gone_at : (w v : Lanes) → AsMany w v → (count : ℕ) (had quiet : Marks) (start : Lanes) (entries : List SettleEntry)
    → GoneSaid lanes said count (first_marks w had) (first_marks w quiet) start entries v → GoneOf count had quiet start entries v
gone_at w v many count had quiet start entries gone =
    subst (λ (h : Marks). GoneSaid lanes said count h (first_marks v quiet) start entries v) (sym (same_marks w v many had))
    (subst (λ (q : Marks). GoneSaid lanes said count (first_marks w had) q start entries v) (sym (same_marks w v many quiet)) gone)

as_made : (w : Lanes) (quiet : Marks) (part : List SettleEntry) (v : Lanes) → RoundOf quiet w part v → AsMany w v
as_made w quiet part v round = many_made disk_kind disk_entries ports port_entries w round.steps v round.round.made

as_ticked : (w : Lanes) (had : Marks) (some : Bool) (have : Marks) (part : List SettleEntry) (v : Lanes) → TicksOf had some have w part v → AsMany w v
as_ticked w had some have part v ticks = many_ticked disk_kind disk_entries ports port_entries w (first_marks w had) v ticks.ticks

ticks_at : (w m : Lanes) → AsMany w m → (had : Marks) (some : Bool) (have : Marks) (later : List SettleEntry) (v : Lanes) → TicksOf had some have m later v
    → rounds_made.TicksMade lanes (tick_marks (first_marks w had) some (first_marks w have)) m later v
ticks_at w m many had some have later v ticks =
    subst (λ (h : Marks). rounds_made.TicksMade lanes (tick_marks h some (first_marks w have)) m later v) (same_marks w m many had)
    (subst (λ (h : Marks). rounds_made.TicksMade lanes (tick_marks (first_marks m had) some h) m later v) (same_marks w m many have) ticks)

-- ONE MORE at the end: not all lanes were quiet; or all were, and some got a tick
pub one_round : (start w v : DomainState) (count : ℕ) (entries part : List SettleEntry) (had quiet marks : Marks) → GoneOn start count entries had quiet w → RoundMade w part marks v
    → all_quiet w marks ≡ false → GoneOn start (count + 1) (entries ++ part) had marks v
one_round start w v count entries part had quiet marks gone up loud =
    let now = lanes_in w in
    record {
      part_of = gone_at now (lanes_in v) (as_made now marks part (lanes_in v) up.part_of) (count + 1) had marks (lanes_in start) (entries ++ part)
          (rounds.loud_round lanes said both_true names_of says count (first_marks now had) (first_marks now quiet) (lanes_in start) entries now gone.part_of (first_marks now marks) part (lanes_in v)
          up.part_of loud);
      run = run_append DomainStep start w v entries part gone.run up.run;
    }

pub one_round_ticked : (start w m v : DomainState) (count : ℕ) (entries part later : List SettleEntry) (had have quiet marks : Marks) (some : Bool) → GoneOn start count entries had quiet w
    → RoundMade w part marks m → all_quiet w marks ≡ true → TicksMade m had later some have v → some ≡ true → GoneOn start (count + 1) (entries ++ (part ++ later)) have marks v
one_round_ticked start w m v count entries part later had have quiet marks some gone up calm ticks any =
    let now = lanes_in w in
    let between = as_made now marks part (lanes_in m) up.part_of in
    let behind = as_ticked (lanes_in m) had some have later (lanes_in v) ticks.part_of in
    record {
      part_of = gone_at now (lanes_in v) (many_then now (lanes_in m) (lanes_in v) between behind) (count + 1) have marks (lanes_in start) (entries ++ (part ++ later))
          (rounds.ticked_round lanes said both_true names_of says count (first_marks now had) (first_marks now quiet) (lanes_in start) entries now gone.part_of (first_marks now marks) part
          (lanes_in m) some (first_marks now have) later (lanes_in v) up.part_of calm (ticks_at now (lanes_in m) between had some have later (lanes_in v) ticks.part_of) any);
      run = run_append DomainStep start w v entries (part ++ later) gone.run (run_append DomainStep w m v part later up.run ticks.run);
    }

-- THE LAST ONE: all lanes were quiet, and none got a tick
nothing_moved : (m v : DomainState) (later : List SettleEntry) → later ≡ [] → Run DomainStep m later v → m ≡ v
nothing_moved m v later none run = subst (λ (l : List SettleEntry). Run DomainStep m l v) none run

answered : (v : DomainState) → Run DomainStep v (Settled ∷ []) v
answered v = (v, record { of_first = refl; of_second = refl }, refl)

pub settled : (start w m v : DomainState) (count : ℕ) (entries part later : List SettleEntry) (had have quiet marks : Marks) (some : Bool) → GoneOn start count entries had quiet w
    → count < most_rounds start → RoundMade w part marks m → all_quiet w marks ≡ true → TicksMade m had later some have v → some ≡ false
    → LineMoves start script.Settles (entries ++ (part ++ (later ++ Settled ∷ []))) v
settled start w m v count entries part later had have quiet marks some gone few up calm ticks any =
    let now = lanes_in w in
    let at = ticks_at now (lanes_in m) (as_made now marks part (lanes_in m) up.part_of) had some have later (lanes_in v) ticks.part_of in
    let none : later ≡ [] =
    rounds.none_left lanes said both_true names_of says count (first_marks now had) (first_marks now quiet) (lanes_in start) entries now gone.part_of some (first_marks now have) (lanes_in m) later
    (lanes_in v) at any in
    let stays : m ≡ v = nothing_moved m v later none ticks.run in
    record {
      part_of = rounds.settled_round lanes said both_true names_of says count (first_marks now had) (first_marks now quiet) (lanes_in start) entries now gone.part_of (first_marks now marks) part
          (lanes_in m) some (first_marks now have) later (lanes_in v) few up.part_of calm at any (ap lanes_in stays);
      run = run_append DomainStep start w v entries (part ++ (later ++ Settled ∷ [])) gone.run
          (run_append DomainStep w m v part (later ++ Settled ∷ []) up.run (run_append DomainStep m v v later (Settled ∷ []) ticks.run (answered v)));
    }

-- THE ROUNDS RAN OUT, and the names stand after them
pub run_out : (start w : DomainState) (count : ℕ) (entries part : List SettleEntry) (had quiet : Marks) → GoneOn start count entries had quiet w → count ≡ most_rounds start → AllNamed w quiet part
    → LineMoves start script.Settles (entries ++ part) w
run_out start w count entries part had quiet gone most named =
    let now = lanes_in w in
    record {
      part_of = rounds.named_out lanes said both_true names_of says count (first_marks now had) (first_marks now quiet) (lanes_in start) entries now gone.part_of part most named.are;
      run = run_append DomainStep start w w entries part gone.run (all_run w quiet part named);
    }

-- MEMORY IS WANTED: in a round, among the ticks after it or for the answer, and among the names
pub wants_in_round : (start w v : DomainState) (count : ℕ) (entries later : List SettleEntry) (had quiet : Marks) → GoneOn start count entries had quiet w → count < most_rounds start
    → RoundBegun w later v → LineBegins start script.Settles (entries ++ later) v
wants_in_round start w v count entries later had quiet gone few begun =
    let now = lanes_in w in
    record {
      begins = rounds.wants_in_round lanes count (first_marks now had) (λ steps. first_marks now quiet ≡ said steps) (lanes_in start) entries now gone.part_of fronts later (lanes_in v) few begun.part_of;
      run = run_append DomainStep start w v entries later gone.run begun.run;
    }

pub wants_in_ticks : (start w m v : DomainState) (count : ℕ) (entries part later : List SettleEntry) (had quiet marks : Marks) → GoneOn start count entries had quiet w
    → count < most_rounds start → RoundMade w part marks m → all_quiet w marks ≡ true → TicksBegun m had later v → LineBegins start script.Settles (entries ++ (part ++ later)) v
wants_in_ticks start w m v count entries part later had quiet marks gone few up calm begun =
    let now = lanes_in w in
    let same = same_marks now (lanes_in m) (as_made now marks part (lanes_in m) up.part_of) had in
    record {
      begins = rounds.ticks_begun lanes said both_true names_of says count (first_marks now had) (first_marks now quiet) (lanes_in start) entries now gone.part_of (first_marks now marks) part
          (lanes_in m) up.part_of calm fronts later (lanes_in v) few (subst (λ (h : Marks). fronts.OfTicks (lanes_in m) h later (lanes_in v)) same begun.part_of);
      run = run_append DomainStep start w v entries (part ++ later) gone.run (run_append DomainStep w m v part later up.run begun.run);
    }

pub wants_in_names : (start w : DomainState) (count : ℕ) (entries part : List SettleEntry) (had quiet : Marks) → GoneOn start count entries had quiet w → count ≡ most_rounds start
    → NamesBegun w quiet part → LineBegins start script.Settles (entries ++ part) w
wants_in_names start w count entries part had quiet gone most begun =
    let now = lanes_in w in
    record {
      begins = rounds.names_begun lanes said both_true names_of says count (first_marks now had) (first_marks now quiet) (lanes_in start) entries now gone.part_of fronts part begun.unnamed most begun.are;
      run = run_append DomainStep start w w entries part gone.run (begun_run w quiet part begun);
    }
