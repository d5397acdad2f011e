-- A journal cuts into the parts of its lines in one way: the part of a line has so many entries, or ends in the answer
-- of a settle or in names, and no part begins with a name.
use Rattle.std.proofs.Common.{◌≡◌, ◌⊎◌, inl, inr, ℕ, zero, suc, ◌≤◌, Option, Some, None, List, [], ◌∷◌, ◌++◌, length, replicate, refl, sym, ap, ap₂, ◌∙◌, subst, arith, append-nil}
use Rattle.std.proofs.lemmas.List.{append_cancel_left, length-map}
use Rattle.runs.specs.Run.{Run, run_push}
use Rattle.disk_law.specs.ListState.{ImageState}
use Rattle.domain_script.specs.Declarations.{AreDisks}
use Rattle.domain_script.specs.declared.event.DiskDecl.{DiskDecl}
use Rattle.domain_script.specs.declared.event.Event.{Event}
use Rattle.lane_kinds.specs.Lanes.{EachOf}
use Rattle.lane_kinds.specs.Settles.{SettlePart}
use Rattle.world_parts.specs.lane_models.NetLaneState.{IsNetShape, NetShape}
use Rattle.world_parts.specs.world_laws.Settle.{SettleEntry}
use Rattle.world_parts.proofs.domain_laws.LineEntries.{by_answer}
use Rattle.world_parts.proofs.domain_laws.ScriptEntries.{fresh_many, lines_run, many_kept}
use Rattle.world_parts.specs.domain_laws.Domain.{DomainState, Lanes, lanes, lanes_in}
use Rattle.world_parts.specs.domain_laws.Lines.{AreSteps, Asked, Calls, DiskLane, EndTurn, Joins, Line, Nothing, PartOf, PortLane, Rounds, Sends, Steps, both_ends, lanes_from, round_turns, turn, turns_of}
use Rattle.world_parts.specs.domain_laws.Lines as world
use Rattle.ldom_entries.specs.declared.entry.Entry.{Entry}
use Rattle.script_laws.proofs.AnswerEntries.{BeginsUnnamed, UpToAnswer, begun_unnamed, one_front, up_to_names, up_to_settled, whole_unnamed}
use Rattle.script_laws.proofs.ReachedLanes.{AreLanes, AreReachedFew}
use Rattle.script_laws.proofs.DeclaredWorlds.{as_lines}
use Rattle.script_laws.proofs.SettleEntries.{NamesLast, SettledLast, out_last, settled_last, some_left}
use Rattle.script_laws.proofs.Settling.{reached_events}
use Rattle.world_parts.specs.Declared.{world_of}
use Rattle.world_parts.specs.Lines.{EventStep, LineStarts, line_of}
use Rattle.world_parts.specs.Parts.{PartSays}
use Rattle.world_parts.specs.Script.{FitsScript, LastStarts, ScriptParts, all_lines, entries_in, events_in, events_of, journal_of, with_last}

-- FRONTS OF A LIST that are as long
same_front : {X : Type 0} (p q j k : List X) → length p ≡ length q → p ++ j ≡ q ++ k → p ≡ q
same_front {X} [] [] j k long is = refl
same_front {X} [] (y ∷ q) j k long is = absurd (omega (arith, long))
same_front {X} (x ∷ p) [] j k long is = absurd (omega (arith, long))
same_front {X} (x ∷ p) (y ∷ q) j k long is = grind (arith, same_front p q j k (omega (arith, long)))

-- THE PART OF A LINE has so many entries, by the number of lanes; that of a settle ends with its answer, or with names
abbrev part_size : Line → Lanes → Option ℕ
part_size Nothing w = Some 0
part_size (Asked k request) w = Some 1
part_size (Sends k frame) w = Some 1
part_size (Joins k address) w = Some 1
part_size (Steps lane e count) w = Some (length (replicate count (turn lane e)))
part_size (Rounds count) w = Some (length (turns_of count w))
part_size world.Settles w = None
part_size (Calls lane call) w = Some 1

-- which is the same for as many lanes of each kind
same_turns : (w u : Lanes) → length w.first ≡ length u.first → length w.second ≡ length u.second → round_turns w ≡ round_turns u
same_turns w u one two =
    ap₂ (λ (n m : ℕ). both_ends (lanes_from DiskLane 0 n) ++ both_ends (lanes_from PortLane 0 m)) one two

same_rounds : (count : ℕ) (w u : Lanes) → round_turns w ≡ round_turns u → turns_of count w ≡ turns_of count u
same_rounds zero w u same = refl
same_rounds (suc count) w u same = ap₂ (λ (a b : List EndTurn). a ++ b) same (same_rounds count w u same)

same_size : (line : Line) (w u : Lanes) → round_turns w ≡ round_turns u → part_size line w ≡ part_size line u
same_size line w u same = grind (arith, same_rounds)

record SomeNamed (part : List SettleEntry) : Type 0 where
  last : NamesLast part
  some : 1 ≤ length last.names

abbrev IsDelimited : Option ℕ → List SettleEntry → Type 0
IsDelimited (Some n) part = length part ≡ n
IsDelimited None part = SettledLast part ⊎ SomeNamed part

as_turns : (turns : List EndTurn) (part : List SettleEntry) → AreSteps turns part → length part ≡ length turns
as_turns (next ∷ turns) (entry ∷ part) are = let rest = as_turns turns part are.1 in omega (arith, rest)
as_turns turns part are = grind arith

settle_delimited : (w : Lanes) (part : List SettleEntry) (behind : Lanes) → AreReachedFew w
    → SettlePart lanes w part behind → SettledLast part ⊎ SomeNamed part
settle_delimited w part behind at (inl settles) = inl (settled_last w part behind settles)
settle_delimited w part behind at (inr out) =
    inr (record { last = out_last w part behind out; some = some_left w part behind out at.reached })

delimited : (line : Line) (w : Lanes) (part : List SettleEntry) (behind : Lanes) → AreReachedFew w
    → PartOf line w part behind → IsDelimited (part_size line w) part
delimited Nothing w part behind at is = ap (λ (l : List SettleEntry). length l) is
delimited (Asked k request) w part behind at one = ap (λ (l : List SettleEntry). length l) one.is
delimited (Sends k frame) w part behind at one = ap (λ (l : List SettleEntry). length l) one.is
delimited (Joins k address) w part behind at one = ap (λ (l : List SettleEntry). length l) one.is
delimited (Steps lane e count) w part behind at is = as_turns (replicate count (turn lane e)) part is
delimited (Rounds count) w part behind at is = as_turns (turns_of count w) part is
delimited world.Settles w part behind at is = settle_delimited w part behind at is
delimited (Calls lane call) w part behind at is = grind (arith, by_answer)

-- ITS ENTRIES are as many, or the answer stands last among them
says_long : (line : Line) (part : List Entry) (entries : List SettleEntry) → PartSays line part entries
    → length part ≡ length entries
says_long line part entries says = grind (arith, length-map)

up_to_answer : (line : Line) (part : List Entry) (entries : List SettleEntry) → PartSays line part entries
    → SettledLast entries ⊎ SomeNamed entries → UpToAnswer part
up_to_answer line part entries says (inl last) = up_to_settled line part entries says last
up_to_answer line part entries says (inr named) = up_to_names line part entries says named.last named.some

one_part : (size : Option ℕ) (line : Line) (one two : List SettleEntry) (p q j k : List Entry) → IsDelimited size one
    → IsDelimited size two → PartSays line p one → PartSays line q two → BeginsUnnamed j → BeginsUnnamed k
    → p ++ j ≡ q ++ k → p ≡ q
one_part (Some n) line one two p q j k first second says also here there is =
    same_front p q j k (says_long line p one says ∙ first ∙ sym second ∙ sym (says_long line q two also)) is
one_part None line one two p q j k first second says also here there is =
    one_front p q j k (up_to_answer line p one says first) (up_to_answer line q two also second) here there is

-- ONE LINE, which no others follow
no_events : (lines : List (Event × List Entry)) → [] ≡ events_in lines → [] ≡ lines
no_events [] is = refl
no_events (line ∷ lines) is = absurd (cc is)

only_line : (line : Event × List Entry) (lines : List (Event × List Entry)) → line.0 ∷ [] ≡ events_in lines
    → entries_in (line ∷ []) ≡ entries_in lines → line ∷ [] ≡ lines
only_line line [] events entries = absurd (cc events)
only_line line (other ∷ []) events entries = grind (arith, append-nil)
only_line line (other ∷ next ∷ lines) events entries = absurd (cc events)

first_last : (line : Event × List Entry) (lines : List (Event × List Entry)) (cut : Option (Event × List Entry))
    → with_last (line ∷ lines) cut ≡ line ∷ with_last lines cut
first_last line lines None = refl
first_last line lines (Some last) = refl

-- what is left of the lines begins with no name
begun_first : (m : DomainState) (line : Event × List Entry) (v : DomainState) → LineStarts m line v
    → BeginsUnnamed (line.1 ++ [])
begun_first m line v starts =
    begun_unnamed (line_of line.0) line.1 starts.entries (lanes_in m) (lanes_in v) [] starts.says starts.begins.begins tt

lines_unnamed : (w m v : DomainState) (xs : List (Event × List Entry)) (cut : Option (Event × List Entry))
    → Run EventStep w xs m → LastStarts m cut v → BeginsUnnamed (entries_in (with_last xs cut))
lines_unnamed w m v (x ∷ xs) cut run last = grind (arith, first_last, whole_unnamed, lines_unnamed run.0 m v xs cut run.2 last)
lines_unnamed w m v xs cut run last = grind (arith, begun_first)

-- LINES over the same disks
module _ (disks : List DiskDecl) (nets : List NetShape) (image : ImageState) (are : AreLanes disks nets) where
  -- where some lines led
  pub record IsLed (w : DomainState) : Type 0 where
    before : List (Event × List Entry)
    run : Run EventStep (world_of disks nets image) before w

  led_on : (w : DomainState) (line : Event × List Entry) (v : DomainState) → IsLed w → EventStep w line v → IsLed v
  led_on w line v at step = record {
    before = at.before ++ line ∷ [];
    run = run_push EventStep (world_of disks nets image) w v at.before line at.run step;
  }

  reached_there : (w : DomainState) → IsLed w → AreReachedFew (lanes_in w)
  reached_there w at = reached_events disks nets image are at.before w at.run

  -- as many in each world that they led to
  same_there : (w u : DomainState) → IsLed w → IsLed u → round_turns (lanes_in w) ≡ round_turns (lanes_in u)
  same_there w u led also = grind (arith, as_lines, many_kept, lines_run, fresh_many)

  there_delimited : (w : DomainState) (event : Event) (part : List Entry) (v : DomainState) → IsLed w
      → (step : EventStep w (event, part) v) → IsDelimited (part_size (line_of event) (lanes_in w)) step.entries
  there_delimited w event part v at step =
      delimited (line_of event) (lanes_in w) step.entries (lanes_in v) (reached_there w at) step.moves.part_of

  same_part : (w u v x : DomainState) (event : Event) (p q j k : List Entry) → IsLed w → IsLed u
      → EventStep w (event, p) v → EventStep u (event, q) x → BeginsUnnamed j → BeginsUnnamed k → p ++ j ≡ q ++ k → p ≡ q
  same_part w u v x event p q j k led also one two here there is =
      one_part (part_size (line_of event) (lanes_in w)) (line_of event) one.entries two.entries p q j k
      (there_delimited w event p v led one)
      (subst (λ (n : Option ℕ). IsDelimited n two.entries)
      (same_size (line_of event) (lanes_in u) (lanes_in w) (same_there u w also led)) (there_delimited u event q x also two))
      one.says two.says here there is

  -- a line first of both lists
  module _ (w u v x : DomainState) (line other : Event × List Entry) (lines others : List (Event × List Entry))
      (led : IsLed w) (also : IsLed u) (one : EventStep w line v) (two : EventStep u other x)
      (here : BeginsUnnamed (entries_in lines)) (there : BeginsUnnamed (entries_in others))
      (events : line.0 ∷ events_in lines ≡ other.0 ∷ events_in others)
      (entries : line.1 ++ entries_in lines ≡ other.1 ++ entries_in others) where
    same_event : line.0 ≡ other.0
    same_event = cc events

    first_part : line.1 ≡ other.1
    first_part =
        same_part w u v x line.0 line.1 other.1 (entries_in lines) (entries_in others) led also one
        (subst (λ (event : Event). EventStep u (event, other.1) x) (sym same_event) two) here there entries

    pub first_same : line ≡ other
    first_same =
        ap (λ (event : Event). (event, line.1)) same_event ∙ ap (λ (l : List Entry). (other.0, l)) first_part

    pub later_events : events_in lines ≡ events_in others
    later_events = cc events

    pub later_entries : entries_in lines ≡ entries_in others
    later_entries = grind (arith, append_cancel_left, first_part)

  same_lines : (w u m n v z : DomainState) (xs ys : List (Event × List Entry)) (c d : Option (Event × List Entry))
      → IsLed w → IsLed u → Run EventStep w xs m → Run EventStep u ys n → LastStarts m c v → LastStarts n d z
      → events_in (with_last xs c) ≡ events_in (with_last ys d)
      → entries_in (with_last xs c) ≡ entries_in (with_last ys d) → with_last xs c ≡ with_last ys d
  same_lines w u m n v z (x ∷ xs) (y ∷ ys) c d led also one two last other events entries =
      let front = first_last x xs c in
      let second = first_last y ys d in
      let all_events : x.0 ∷ events_in (with_last xs c) ≡ y.0 ∷ events_in (with_last ys d) =
      sym (ap events_in front) ∙ events ∙ ap events_in second in
      let all_entries : x.1 ++ entries_in (with_last xs c) ≡ y.1 ++ entries_in (with_last ys d) =
      sym (ap entries_in front) ∙ entries ∙ ap entries_in second in
      let here = lines_unnamed one.0 m v xs c one.2 last in
      let there = lines_unnamed two.0 n z ys d two.2 other in
      let same : x ≡ y =
      first_same w u one.0 two.0 x y (with_last xs c) (with_last ys d) led also one.1 two.1 here there all_events
      all_entries in
      let rest : with_last xs c ≡ with_last ys d =
      same_lines one.0 two.0 m n v z xs ys c d (led_on w x one.0 led one.1) (led_on u y two.0 also two.1) one.2 two.2
      last other
      (later_events w u one.0 two.0 x y (with_last xs c) (with_last ys d) led also one.1 two.1 here there all_events
      all_entries)
      (later_entries w u one.0 two.0 x y (with_last xs c) (with_last ys d) led also one.1 two.1 here there all_events
      all_entries) in
      front ∙ ap (λ (l : Event × List Entry). l ∷ with_last xs c) same
      ∙ ap (λ (l : List (Event × List Entry)). y ∷ l) rest ∙ sym second
  same_lines w u m n v z xs ys c d led also one two last other events entries = grind (arith, no_events, only_line)

pub one_cut : (disks : List DiskDecl) (nets : List NetShape) (image : ImageState) (parts others : ScriptParts)
    (v u : DomainState) → AreDisks disks → length disks ≤ 8 → EachOf IsNetShape nets → length nets ≤ 8
    → FitsScript 0 (world_of disks nets image) parts v → FitsScript 0 (world_of disks nets image) others u
    → events_of parts ≡ events_of others → journal_of parts ≡ journal_of others → all_lines parts ≡ all_lines others
one_cut disks nets image parts others v u disks_are few_disks nets_are few_nets fits also events journal =
    let start : DomainState = world_of disks nets image in
    let are : AreLanes disks nets =
    record { disks_are = disks_are; few_disks = few_disks; nets_are = nets_are; few_nets = few_nets } in
    same_lines disks nets image are start start fits.middle also.middle v u parts.whole others.whole parts.cut others.cut
    (record { before = []; run = refl }) (record { before = []; run = refl }) fits.run also.run fits.last also.last
    events journal
