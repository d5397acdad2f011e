-- A settle over disks and ports: what all disks and behind them all ports added to the journal, and round by round how it goes on and ends.
use Rattle.std.proofs.Common.{◌≡◌, ℕ, ◌+◌, ◌<◌, ◌≤◌, Bool, true, false, Result, Ok, Err, List, [], ◌∷◌, ◌++◌, length, take, refl, sym, ap, subst, ◌∙◌, arith}
use Rattle.std.specs.Prelude.{◌&&◌, ◌||◌, OnErr}
use Rattle.lane_kinds.specs.LanesMade.{Marks, all_true, first_marks}
use Rattle.lane_kinds.specs.Rounds.{tick_marks}
use Rattle.recorded_lanes.specs.world_parts.world_laws.Settle.{Settled}
use Rattle.recorded_lanes.proofs.world_parts.domain_laws.Looping as going
use Rattle.recorded_lanes.specs.world_parts.domain_laws.Domain.{DomainState, lanes_in}
use Rattle.recorded_lanes.specs.world_parts.domain_laws.Going.{GoneOn, fresh_marks, most_rounds}
use Rattle.recorded_lanes.specs.world_parts.domain_laws.Lines.{LineBegins, LineMoves}
use Rattle.recorded_lanes.specs.world_parts.domain_laws.Lines as script
use Rattle.recorded_lanes.specs.world_parts.domain_laws.NamesMade.{AllNamed, NamesBegun}
use Rattle.recorded_lanes.specs.world_parts.domain_laws.RoundMade.{RoundBegun, RoundMade, all_quiet}
use Rattle.recorded_lanes.specs.world_parts.domain_laws.TicksMade.{TicksBegun, TicksMade}
use Rattle.domain_script.specs.declared.fields.LaneKind.TheVariants as kinds
use Rattle.ldom_entries.specs.declared.entry.Entry.{Entry}
use Rattle.ldom_entries.specs.declared.entry.Entry.TheVariants as entry
use Rattle.recorded_lanes.proofs.Adding.{both_add, one_adds}
use Rattle.ldom_world.proofs.Growing.{also_grew, begins_of, both_grew, fits_of, none_grew}
use Rattle.ldom_world.specs.SettleParts.{LaneNamesAdd, LaneNamesAddFront, LaneTicksAdd, LaneTicksAddFront, LaneTicksBegun, LanesAdd, LanesAddFront, LanesBegun, LanesMade, LanesNamed, LanesTicked, NamesAdd, NamesAddFront, RoundAdds, RoundAddsFront, RoundsAdd, TicksAdd, TicksAddFront, PassBreaks, PassGoesOn, PassMoment, pass_moment}
use Rattle.recorded_lanes.specs.Steps.{Moment, moment}
use Rattle.recorded_lanes.specs.world_parts.Parts.{Fits, FitsSoFar}

-- A ROUND of the disks, and behind them of the ports
pub whole_round : (start m now : Moment DomainState) (quiet : Marks) → LanesAdd kinds.Disk (length start.world.first.lanes) quiet.first start m
    → LanesAdd kinds.Port (length m.world.second) quiet.second m now → RoundAdds quiet start now
whole_round start m now quiet disks ports =
    both_grew (LanesMade kinds.Disk (length start.world.first.lanes) start.world quiet.first m.world)
    (LanesMade kinds.Port (length m.world.second) m.world quiet.second now.world)
    (λ es. RoundMade start.world es quiet now.world) start.journal m.journal now.journal
    (λ one two before after. going.round_made start.world m.world now.world one two quiet before after) disks ports

pub whole_round_front : (start now : DomainState) (old new : List Entry) → LanesAddFront kinds.Disk (moment start old) (moment now new)
    → RoundAddsFront (moment start old) (moment now new)
whole_round_front start now old new begun =
    also_grew (LanesBegun kinds.Disk start now) (λ es. RoundBegun start es now) old new
    (λ es at. going.round_of_disks start now es at) begun

pub ports_round_front : (start m now : Moment DomainState) (quiet : List Bool) → LanesAdd kinds.Disk (length start.world.first.lanes) quiet start m
    → LanesAddFront kinds.Port m now → RoundAddsFront start now
ports_round_front start m now quiet disks begun =
    both_grew (LanesMade kinds.Disk (length start.world.first.lanes) start.world quiet m.world) (LanesBegun kinds.Port m.world now.world)
    (λ es. RoundBegun start.world es now.world) start.journal m.journal now.journal
    (λ one two before after. going.round_of_ports start.world m.world now.world one two quiet before after) disks begun

-- as many ports stand behind the disks' part, by which all marks say whether all lanes were quiet
pub whole_quiet : (start m : DomainState) (quiet : Marks) (disks ports : Bool) → length m.second ≡ length start.second
    → all_true (take (length start.first.lanes) quiet.first) ≡ disks
    → all_true (take (length m.second) quiet.second) ≡ ports → all_quiet start quiet ≡ (disks && ports)
whole_quiet start m quiet disks ports many of_disks of_ports =
    ap (λ (n : ℕ). all_true (take (length start.first.lanes) quiet.first) && all_true (take n quiet.second)) (sym many)
    ∙ ap (λ (b : Bool). b && all_true (take (length m.second) quiet.second)) of_disks
    ∙ ap (λ (b : Bool). disks && b) of_ports

-- THE TICKS
pub whole_ticks : (start m now : Moment DomainState) (had have : Marks) (some any all : Bool)
    → LaneTicksAdd kinds.Disk (length start.world.first.lanes) (tick_marks had.first some have.first) start m
    → LaneTicksAdd kinds.Port (length m.world.second) (tick_marks had.second any have.second) m now
    → (some || any) ≡ all → TicksAdd (tick_marks had all have) start now
whole_ticks start m now had have some any all disks ports is =
    subst (λ (b : Bool). TicksAdd (tick_marks had b have) start now) is
    (both_grew (LanesTicked kinds.Disk (length start.world.first.lanes) (tick_marks had.first some have.first) start.world m.world)
    (LanesTicked kinds.Port (length m.world.second) (tick_marks had.second any have.second) m.world now.world)
    (λ es. TicksMade start.world had es (some || any) have now.world) start.journal m.journal now.journal
    (λ one two before after. going.ticks_of_all start.world m.world now.world one two had have some any before after) disks ports)

pub whole_ticks_front : (start now : DomainState) (old new : List Entry) (had : Marks)
    → LaneTicksAddFront kinds.Disk had.first (moment start old) (moment now new) → TicksAddFront had (moment start old) (moment now new)
whole_ticks_front start now old new had begun =
    also_grew (LaneTicksBegun kinds.Disk start had.first now) (λ es. TicksBegun start had es now) old new
    (λ es at. going.ticks_of_disks start now es had at) begun

pub ports_ticks_front : (start m now : Moment DomainState) (had : Marks) (have : List Bool) (some : Bool)
    → LaneTicksAdd kinds.Disk (length start.world.first.lanes) (tick_marks had.first some have) start m
    → LaneTicksAddFront kinds.Port had.second m now → TicksAddFront had start now
ports_ticks_front start m now had have some disks begun =
    both_grew (LanesTicked kinds.Disk (length start.world.first.lanes) (tick_marks had.first some have) start.world m.world)
    (LaneTicksBegun kinds.Port m.world had.second now.world) (λ es. TicksBegun start.world had es now.world) start.journal m.journal now.journal
    (λ one two before after. going.ticks_of_ports start.world m.world now.world one two had have some before after) disks begun

-- THE NAMES
pub whole_names : (w : DomainState) (old mid new : List Entry) (quiet : Marks)
    → LaneNamesAdd kinds.Disk (length w.first.lanes) w quiet.first old mid → LaneNamesAdd kinds.Port (length w.second) w quiet.second mid new
    → NamesAdd w quiet old new
whole_names w old mid new quiet disks ports =
    both_grew (LanesNamed kinds.Disk (length w.first.lanes) w quiet.first) (LanesNamed kinds.Port (length w.second) w quiet.second)
    (λ es. AllNamed w quiet es) old mid new
    (λ one two before after. going.names_of_all w quiet one two before after) disks ports

pub whole_names_front : (w : DomainState) (old new : List Entry) (quiet : Marks)
    → LaneNamesAddFront kinds.Disk w (length w.first.lanes) quiet.first old new → NamesAddFront w quiet old new
whole_names_front w old new quiet begun =
    also_grew (LanesNamed kinds.Disk begun.named w quiet.first) (λ es. NamesBegun w quiet es) old new
    (λ es at. going.names_of_disks begun.named w quiet es at begun.within) begun.adds

pub ports_names_front : (w : DomainState) (old mid new : List Entry) (quiet : Marks)
    → LaneNamesAdd kinds.Disk (length w.first.lanes) w quiet.first old mid
    → LaneNamesAddFront kinds.Port w (length w.second) quiet.second mid new → NamesAddFront w quiet old new
ports_names_front w old mid new quiet disks begun =
    both_grew (LanesNamed kinds.Disk (length w.first.lanes) w quiet.first) (LanesNamed kinds.Port begun.named w quiet.second)
    (λ es. NamesBegun w quiet es) old mid new
    (λ one two before after. going.names_of_ports begun.named w quiet one two before after begun.within) disks begun.adds

-- THE ROUNDS
pub rounds_add_none : (start : DomainState) (had quiet : Marks) (old : List Entry) → GoneOn start 0 [] had quiet start
    → RoundsAdd 0 (moment start old) (pass_moment (moment start old) had quiet)
rounds_add_none start had quiet old gone = none_grew (λ es. GoneOn start 0 es had quiet start) old gone

pub loud_round_adds : (start w v : Moment DomainState) (count : ℕ) (had quiet marks : Marks) → RoundsAdd count start (pass_moment w had quiet)
    → RoundAdds marks w v → all_quiet w.world marks ≡ false → RoundsAdd (count + 1) start (pass_moment v had marks)
loud_round_adds start w v count had quiet marks gone up loud =
    both_grew (λ es. GoneOn start.world count es had quiet w.world) (λ es. RoundMade w.world es marks v.world)
    (λ es. GoneOn start.world (count + 1) es had marks v.world) start.journal w.journal v.journal
    (λ one two before now. going.one_round start.world w.world v.world count one two had quiet marks before now loud) gone up

pub ticked_round_adds : (start w m v : Moment DomainState) (count : ℕ) (had have quiet marks : Marks) (some : Bool)
    → RoundsAdd count start (pass_moment w had quiet) → RoundAdds marks w m → all_quiet w.world marks ≡ true
    → TicksAdd (tick_marks had some have) m v → some ≡ true → RoundsAdd (count + 1) start (pass_moment v have marks)
ticked_round_adds start w m v count had have quiet marks some gone up calm ticks any = record {
  entries = gone.entries ++ (up.entries ++ ticks.entries);
  adds = both_add script.Settles start.journal w.journal v.journal gone.entries (up.entries ++ ticks.entries) gone.adds
      (both_add script.Settles w.journal m.journal v.journal up.entries ticks.entries up.adds ticks.adds);
  holds = going.one_round_ticked start.world w.world m.world v.world count gone.entries up.entries ticks.entries had have quiet marks some
      gone.holds up.holds calm ticks.holds any;
}

-- HOW IT ENDS
pub settled_adds : (start w m v : Moment DomainState) (count : ℕ) (new : List Entry) (had have quiet marks : Marks) (some : Bool)
    → RoundsAdd count start (pass_moment w had quiet) → count < most_rounds start.world → RoundAdds marks w m
    → all_quiet w.world marks ≡ true → TicksAdd (tick_marks had some have) m v → some ≡ false
    → new ≡ v.journal ++ entry.Settled ∷ [] → Fits start.world script.Settles start.journal new v.world
settled_adds start w m v count new had have quiet marks some gone few up calm ticks any is =
    let ends = Settled ∷ [] in
    fits_of start.world v.world start.journal new (record {
      entries = gone.entries ++ (up.entries ++ (ticks.entries ++ ends));
      adds = both_add script.Settles start.journal w.journal new gone.entries (up.entries ++ (ticks.entries ++ ends)) gone.adds
          (both_add script.Settles w.journal m.journal new up.entries (ticks.entries ++ ends) up.adds
          (both_add script.Settles m.journal v.journal new ticks.entries ends ticks.adds
          (one_adds script.Settles v.journal new entry.Settled Settled is refl)));
      holds = going.settled start.world w.world m.world v.world count gone.entries up.entries ticks.entries had have quiet marks some gone.holds few
          up.holds calm ticks.holds any;
    })

pub out_adds : (start w : Moment DomainState) (count : ℕ) (new : List Entry) (had quiet : Marks)
    → RoundsAdd count start (pass_moment w had quiet) → count ≡ most_rounds start.world
    → NamesAdd w.world quiet w.journal new → Fits start.world script.Settles start.journal new w.world
out_adds start w count new had quiet gone most named =
    fits_of start.world w.world start.journal new (both_grew (λ es. GoneOn start.world count es had quiet w.world)
    (λ es. AllNamed w.world quiet es) (λ es. LineMoves start.world script.Settles es w.world) start.journal w.journal new
    (λ one two before now. going.run_out start.world w.world count one two had quiet before most now) gone named)

-- WHERE MEMORY IS WANTED
pub want_in_round_adds : (start w v : Moment DomainState) (count : ℕ) (had quiet : Marks) → RoundsAdd count start (pass_moment w had quiet)
    → count < most_rounds start.world → RoundAddsFront w v → FitsSoFar start.world script.Settles start.journal v.journal v.world
want_in_round_adds start w v count had quiet gone few begun =
    begins_of start.world v.world start.journal v.journal (both_grew (λ es. GoneOn start.world count es had quiet w.world)
    (λ es. RoundBegun w.world es v.world) (λ es. LineBegins start.world script.Settles es v.world) start.journal w.journal v.journal
    (λ one two before now. going.wants_in_round start.world w.world v.world count one two had quiet before few now) gone begun)

pub want_in_ticks_adds : (start w m v : Moment DomainState) (count : ℕ) (had quiet marks : Marks) → RoundsAdd count start (pass_moment w had quiet)
    → count < most_rounds start.world → RoundAdds marks w m → all_quiet w.world marks ≡ true
    → TicksAddFront had m v → FitsSoFar start.world script.Settles start.journal v.journal v.world
want_in_ticks_adds start w m v count had quiet marks gone few up calm begun =
    begins_of start.world v.world start.journal v.journal (record {
      entries = gone.entries ++ (up.entries ++ begun.entries);
      adds = both_add script.Settles start.journal w.journal v.journal gone.entries (up.entries ++ begun.entries) gone.adds
          (both_add script.Settles w.journal m.journal v.journal up.entries begun.entries up.adds begun.adds);
      holds = going.wants_in_ticks start.world w.world m.world v.world count gone.entries up.entries begun.entries had quiet marks gone.holds few
          up.holds calm begun.holds;
    })

-- A TURN, whatever rounds came before it
pub turn_wants_in_round : (w v : Moment DomainState) (had quiet : Marks) → RoundAddsFront w v → PassBreaks (pass_moment w had quiet) v
turn_wants_in_round w v had quiet begun = λ start count first gone few. want_in_round_adds (moment start first) w v count had quiet gone few begun

pub turn_is_loud : (w v : DomainState) (old new : List Entry) (had quiet marks : Marks)
    → RoundAdds marks (moment w old) (moment v new) → all_quiet w marks ≡ false
    → PassGoesOn false (pass_moment (moment w old) had quiet) (pass_moment (moment v new) had marks)
turn_is_loud w v old new had quiet marks up loud =
    λ start count first gone few. loud_round_adds (moment start first) (moment w old) (moment v new) count had quiet marks gone up loud

pub turn_wants_in_ticks : (w m v : Moment DomainState) (had quiet marks : Marks) → RoundAdds marks w m → all_quiet w.world marks ≡ true
    → TicksAddFront had m v → PassBreaks (pass_moment w had quiet) v
turn_wants_in_ticks w m v had quiet marks up calm begun =
    λ start count first gone few. want_in_ticks_adds (moment start first) w m v count had quiet marks gone few up calm begun

pub turn_ticks : (w m v : DomainState) (old mid new : List Entry) (had have quiet marks : Marks)
    → RoundAdds marks (moment w old) (moment m mid) → all_quiet w marks ≡ true → TicksAdd (tick_marks had true have) (moment m mid) (moment v new)
    → PassGoesOn false (pass_moment (moment w old) had quiet) (pass_moment (moment v new) have marks)
turn_ticks w m v old mid new had have quiet marks up calm ticks =
    λ start count first gone few.
    ticked_round_adds (moment start first) (moment w old) (moment m mid) (moment v new) count had have quiet marks true gone up calm ticks refl

pub turn_wants_answer : (w m v : Moment DomainState) (new : List Entry) (had have quiet marks : Marks) (some : Bool)
    → RoundAdds marks w m → all_quiet w.world marks ≡ true → TicksAdd (tick_marks had some have) m v → new ≡ v.journal
    → PassBreaks (pass_moment w had quiet) (moment v.world new)
turn_wants_answer w m v new had have quiet marks some up calm ticks same =
    subst (λ (l : List Entry). PassBreaks (pass_moment w had quiet) (moment v.world l)) (sym same)
    (turn_wants_in_ticks w m v had quiet marks up calm
    (also_grew (λ es. TicksMade m.world had es some have v.world) (λ es. TicksBegun m.world had es v.world) m.journal v.journal
    (λ es at. going.answer_wants m.world v.world es had have some at) ticks))

pub turn_settles : (w m v : Moment DomainState) (new : List Entry) (had have quiet marks : Marks) (some : Bool)
    → RoundAdds marks w m → all_quiet w.world marks ≡ true → TicksAdd (tick_marks had some have) m v → some ≡ false
    → new ≡ v.journal ++ entry.Settled ∷ [] → PassGoesOn true (pass_moment w had quiet) (pass_moment (moment v.world new) have marks)
turn_settles w m v new had have quiet marks some up calm ticks none is =
    λ start count first gone few. settled_adds (moment start first) w m v count new had have quiet marks some gone few up calm ticks none is

-- a turn that ends the settle
pub ended_fits : (ended : Bool) (start : Moment DomainState) (w v : PassMoment) (count : ℕ) → ended ≡ true → PassGoesOn ended w v
    → RoundsAdd count start w → count < most_rounds start.world → Fits start.world script.Settles start.journal v.now.journal v.now.world
ended_fits true start w v count ends turned gone few = turned start.world count start.journal gone few
ended_fits false start w v count ends turned gone few = absurd (cc ends)

-- HOW A SETTLE BEGINS, and where memory is wanted among the names
pub rounds_begin : (start : DomainState) (had quiet : Marks) (old : List Entry) → length start.first.lanes ≤ 8
    → length start.second ≤ 8 → had ≡ fresh_marks 8 → RoundsAdd 0 (moment start old) (pass_moment (moment start old) had quiet)
rounds_begin start had quiet old few few_ports none =
    rounds_add_none start had quiet old
    (going.nothing_gone start had quiet
    (ap (λ (m : Marks). first_marks (lanes_in start) m) none ∙ going.fresh_are 8 start few few_ports))

pub names_want : (start w : Moment DomainState) (count : ℕ) (new : List Entry) (had quiet : Marks)
    → RoundsAdd count start (pass_moment w had quiet) → count ≡ most_rounds start.world
    → NamesAddFront w.world quiet w.journal new → FitsSoFar start.world script.Settles start.journal new w.world
names_want start w count new had quiet gone most begun =
    begins_of start.world w.world start.journal new (both_grew (λ es. GoneOn start.world count es had quiet w.world) (λ es. NamesBegun w.world quiet es)
    (λ es. LineBegins start.world script.Settles es w.world) start.journal w.journal new
    (λ one two before now. going.wants_in_names start.world w.world count one two had quiet before most now) gone begun)

-- a count of rounds below the most, and at it
pub count_below : (count end most : ℕ) → count < end → end ≡ most → count < most
count_below count end most below is = omega (arith, below, is)

pub count_at : (count end most : ℕ) → end ≤ count → count ≤ end → end ≡ most → count ≡ most
count_at count end most least few is = omega (arith, least, few, is)

-- A FACT THAT IS KNOWN whatever a call answered
pub on_err : {T E P : Type 0} (r : Result T E) → P → OnErr r P
on_err (Ok x) p = tt
on_err (Err e) p = p
