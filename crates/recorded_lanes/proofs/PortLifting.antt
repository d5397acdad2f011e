-- One event of one port: what it does to the ports, which part of the journal it gives, and how many frames were given.
use Rattle.std.proofs.Common.{◌≡◌, ℕ, ◌+◌, ◌-◌, ◌^◌, ◌<◌, Bool, true, false, cond, Option, Some, None, List, [], ◌∷◌, ◌++◌, length, is_some, IfNone, refl, sym, ap, subst, ◌∙◌, arith, length-append}
use Rattle.std.proofs.lemmas.Bool.{and_parts}
use Rattle.std.specs.Prelude.{◌&&◌, if◌then◌else◌}
use Rattle.world_parts.proofs.domain_laws.Running.{ports_many}
use Rattle.world_parts.specs.domain_laws.Domain.{IsOwnEvent, PortsStep}
use Rattle.world_parts.specs.domain_laws.Lines.{Line, Nothing}
use Rattle.world_parts.specs.lane_models.PortState.{PortState}
use Rattle.ldc_queue.specs.declared.end.End.{End}
use Rattle.ldc_queue.specs.declared.end.End.TheVariants.{A, B}
use Rattle.ldom_entries.specs.JournalState.{JournalState}
use Rattle.ldom_entries.specs.declared.entry.Entry.{Entry}
use Rattle.ldom_report.specs.Report.{accepted_count, is_accepted}
use Rattle.lane_kinds.specs.Lanes.{EntryOf}
use Rattle.switched_ports.specs.net_lane.Stepping.{net_answer}
use Rattle.switched_ports.specs.net_lane.net_out.NetOut.{NetOut}
use Rattle.switched_ports.specs.net_lane.net_out.NetOut.TheVariants as out
use Rattle.world_parts.specs.lane_models.NetEndStep.{Frame, NetAnswer}
use Rattle.world_parts.specs.switch_laws.Events.{SwitchEvent}
use Rattle.world_parts.specs.switch_laws.Ports.{IsStepOf, is_silent, ports as kind}
use Rattle.switched_ports.proofs.Entries.{below_later}
use Rattle.switched_ports.specs.Events.{is_switched, step_event}
use Rattle.switched_ports.specs.Given.{GivenBelow, GivesNoMore, GivesOneMore}
use Rattle.switched_ports.specs.HubSteps.{TakesFrame}
use Rattle.switched_ports.specs.States.{last_at}
use Rattle.switched_ports.specs.vnet_switch.declared.forwarding.Switched.{Switched as Sets}
use Rattle.world_parts.specs.world_laws.Settle.{OfPort}
use Rattle.recorded_lanes.proofs.Adding.{none_adds, one_adds}
use Rattle.recorded_lanes.proofs.Lifting.{count_push}
use Rattle.recorded_lanes.specs.OnePort.{GivesBut, PortAnswers, PortEndSteps, PortLeaves, PortRecordedBut, PortRecords}
use Rattle.recorded_lanes.specs.Steps.{MakesAnswer, MakesQuietStep, MakesStep, moment}
use Rattle.domain_script.specs.LaneKinds.{port_lane}
use Rattle.world_parts.specs.Parts.{Adds}

-- THE EVENT OF A STEP is one of its end, and the port's own
pub step_of_end : (e : End) (answer : NetAnswer) (sets : Option Sets) → IsStepOf e (step_event e answer sets)
step_of_end A answer sets = refl
step_of_end B (Frame frame) (Some sets) = tt
step_of_end B answer sets = refl

own_event : (e : End) (answer : NetAnswer) (sets : Option Sets) → IsOwnEvent (step_event e answer sets)
own_event A answer sets = tt
own_event B (Frame frame) (Some sets) = tt
own_event B answer sets = tt

pub step_moves : (k : ℕ) (w : List PortState) (e : End) (answer : NetAnswer) (sets : Option Sets) (v : List PortState)
    → EntryOf kind k w (step_event e answer sets) v → PortsStep w (OfPort k (step_event e answer sets)) v
step_moves k w e answer sets v entry = record { own = own_event e answer sets; entry = entry }

pub port_many : (w v : List PortState) (k : ℕ) (event : SwitchEvent) → PortsStep w (OfPort k event) v
    → length v ≡ length w
port_many w v k event moves = ports_many w (OfPort k event ∷ []) v (v, moves, refl)

-- a journal is never so long that the ids run out
pub few_given : (old : List Entry) (w : List PortState) → GivenBelow (length old + 1) w → length old < 2 ^ 63
    → GivenBelow (2 ^ 64 - 1) w
few_given old w below few = below_later (length old + 1) (2 ^ 64 - 1) w (omega (arith, few)) below

-- ONE ENTRY MORE
longer : (old new : List Entry) (x : Entry) → new ≡ old ++ x ∷ [] → length old + 1 + 1 ≡ length new + 1
longer old new x grew = omega (arith, ap (λ (l : List Entry). length l) grew, length-append old (x ∷ []))

given_after : (old new : List Entry) (x : Entry) (w v : List PortState) → new ≡ old ++ x ∷ [] → GivesOneMore w v
    → GivenBelow (length old + 1) w → GivenBelow (length new + 1) v
given_after old new x w v grew gives below =
    subst (λ (n : ℕ). GivenBelow n v) (longer old new x grew) (gives (length old + 1) below)

accepted_after : (old new : List Entry) (x : Entry) → new ≡ old ++ x ∷ [] → is_accepted x ≡ false
    → accepted_count new ≡ accepted_count old
accepted_after old new x grew none =
    omega (arith, count_push old new x grew, ap (λ (b : Bool). cond {A = ℕ} b 1 0) none)

-- A STEP OF AN END, after a journal with these entries
module _ (k : ℕ) (event : SwitchEvent) (old new : JournalState) (first : List Entry) (same : old.entries ≡ first) where
  put_behind : (put : PortRecords k event old new) → new.entries ≡ first ++ put.entry ∷ []
  put_behind put = put.puts.entries ∙ ap (λ (l : List Entry). l ++ put.entry ∷ []) same

  left_same : (stays : new ≡ old) → new.entries ≡ first
  left_same stays = ap (λ (j : JournalState). j.entries) stays ∙ same

  left_adds : (silent : Bool) → PortRecordedBut silent k event old new → (line : Line)
      → Adds line first new.entries (if silent then [] else OfPort k event ∷ [])
  left_adds true stays line = none_adds line first new.entries (left_same stays)
  left_adds false put line =
      one_adds line first new.entries put.entry (OfPort k event) (put_behind put) (put.tells line).says

  left_given : (silent : Bool) (w v : List PortState) → PortRecordedBut silent k event old new → GivesBut silent w v
      → GivenBelow (length first + 1) w → GivenBelow (length new.entries + 1) v
  left_given true w v stays gives below =
      subst (λ (l : List Entry). GivenBelow (length l + 1) v) (sym (left_same stays)) (gives (length first + 1) below)
  left_given false w v put gives below = given_after first new.entries put.entry w v (put_behind put) gives below

  left_accepted : (silent : Bool) → PortRecordedBut silent k event old new
      → accepted_count new.entries ≡ accepted_count first
  left_accepted true stays = ap accepted_count (left_same stays)
  left_accepted false put =
      accepted_after first new.entries put.entry (put_behind put) (put.tells Nothing).none

module _ (w v : List PortState) (k : ℕ) (e : End) (old : JournalState) (calm : Bool) (new : JournalState)
    (first : List Entry) (same : old.entries ≡ first) where
  pub makes_port_step : PortEndSteps false k e w old calm new v → MakesStep PortsStep (port_lane k) e (moment w first) (moment v new.entries)
  makes_port_step at = record {
    event = at.event;
    of_end = at.of_end;
    moves = at.moves;
    adds = left_adds k at.event old new first same false at.leaves.recorded;
  }

  pub makes_quiet_port_step : PortEndSteps true k e w old calm new v
      → MakesQuietStep PortsStep (port_lane k) e (moment w first) calm (moment v new.entries)
  makes_quiet_port_step at = record {
    event = at.event;
    of_end = at.of_end;
    moves = at.moves;
    calm_is = at.leaves.calm_is;
    adds = left_adds k at.event old new first same (is_silent at.event) at.leaves.recorded;
  }

  pub port_step_given : (in_settle : Bool) → PortEndSteps in_settle k e w old calm new v
      → GivenBelow (length first + 1) w → GivenBelow (length new.entries + 1) v
  port_step_given in_settle at =
      left_given k at.event old new first same (in_settle && is_silent at.event) w v at.leaves.recorded at.gives

  pub port_step_accepted : (in_settle : Bool) → PortEndSteps in_settle k e w old calm new v
      → accepted_count new.entries ≡ accepted_count first
  port_step_accepted in_settle at =
      left_accepted k at.event old new first same (in_settle && is_silent at.event) at.leaves.recorded

  pub port_step_many : (in_settle : Bool) → PortEndSteps in_settle k e w old calm new v → length v ≡ length w
  port_step_many in_settle at = port_many w v k at.event at.moves

-- WHAT A LINE ASKED of a port, and whose entry was put last
module _ (lanes w v : List PortState) (are : lanes ≡ w) (k : ℕ) (x : Entry) (old mid new : List Entry) (same : mid ≡ old)
    (grew : new ≡ mid ++ x ∷ []) (line : Line) (Answers : SwitchEvent → Type 0)
    (answer : PortAnswers line k Answers lanes x v) where
  put_last : new ≡ old ++ x ∷ []
  put_last = grew ∙ ap (λ (l : List Entry). l ++ x ∷ []) same

  pub port_answer_made : MakesAnswer PortsStep (port_lane k) line Answers (moment w old) (moment v new)
  port_answer_made = record {
    event = answer.event;
    answers = answer.answers;
    moves = subst (λ (l : List PortState). PortsStep l (OfPort k answer.event) v) are answer.moves;
    adds = one_adds line old new x (OfPort k answer.event) put_last answer.tells.says;
  }

  pub port_answer_given : GivenBelow (length old + 1) w → GivenBelow (length new + 1) v
  port_answer_given below =
      given_after old new x lanes v put_last answer.gives
      (subst (λ (l : List PortState). GivenBelow (length old + 1) l) (sym are) below)

  pub port_answer_accepted : accepted_count new ≡ accepted_count old
  port_answer_accepted = accepted_after old new x put_last answer.tells.none

  pub port_answer_many : length v ≡ length w
  port_answer_many = port_many lanes v k answer.event answer.moves ∙ ap (λ (l : List PortState). length l) are

-- what the search goes by for the calls of a port
pub ruleset port_answered = (port_answer_made, port_answer_accepted)

-- A STEP, by what the ports and the journal say of it: where it is silent no frame was switched
none_given : (e : End) (answer : NetOut) (last : List ℕ) (sets : Option Sets) (Gives : Type 0)
    → is_silent (step_event e (net_answer answer last) sets) ≡ true → is_some sets ≡ is_switched e answer → IfNone sets Gives
    → Gives
none_given e answer last None Gives silent same gives = gives
none_given A answer last (Some sets) Gives silent same gives = absurd (cc same)
none_given B (out.Frame len) last (Some sets) Gives silent same gives = absurd (cc silent)
none_given B answer last (Some sets) Gives silent same gives = absurd (cc same)

gives_by : (left : Bool) (w v : List PortState) → (left ≡ true → GivesNoMore w v) → GivesOneMore w v → GivesBut left w v
gives_by true w v none one = none refl
gives_by false w v none one = one

pub still_there : (k : ℕ) (w v : List PortState) (e : End) (answer : NetAnswer) (sets : Option Sets)
    → EntryOf kind k w (step_event e answer sets) v → k < length v
still_there k w v e answer sets entry =
    omega (arith, entry.within, port_many w v k (step_event e answer sets) (step_moves k w e answer sets v entry))

-- what was read of the port is of this end of it
module _ (k : ℕ) (w v : List PortState) (e d : End) (answer : NetOut) (frame : List ℕ) (sets : Option Sets)
    (same_end : e ≡ d) (entry : EntryOf kind k w (step_event e (net_answer answer (last_at e k v)) sets) v) where
  pub takes_frame : TakesFrame answer (last_at e k v) → frame ≡ last_at d k v → TakesFrame answer frame
  takes_frame takes last = subst (TakesFrame answer) (ap (λ (b : End). last_at b k v) same_end ∙ sym last) takes

  same_entry : frame ≡ last_at d k v → EntryOf kind k w (step_event d (net_answer answer frame) sets) v
  same_entry last =
      subst (λ (l : List ℕ). EntryOf kind k w (step_event d (net_answer answer l) sets) v) (sym last)
      (subst (λ (b : End). EntryOf kind k w (step_event b (net_answer answer (last_at b k v)) sets) v) same_end entry)

  abbrev stepped : SwitchEvent
  stepped = step_event d (net_answer answer frame) sets

  pub end_stepped : (in_settle : Bool) (old new : JournalState) (calm : Bool) → frame ≡ last_at d k v
      → is_some sets ≡ is_switched e answer → GivesOneMore w v → IfNone sets (GivesNoMore w v)
      → PortLeaves in_settle k stepped old calm new → PortEndSteps in_settle k d w old calm new v
  end_stepped in_settle old new calm last switched one none leaves = record {
    event = stepped;
    of_end = step_of_end d (net_answer answer frame) sets;
    moves = step_moves k w d (net_answer answer frame) sets v (same_entry last);
    leaves = leaves;
    gives =
        gives_by (in_settle && is_silent stepped) w v
        (λ left. none_given d answer frame sets (GivesNoMore w v) (and_parts in_settle (is_silent stepped) left).1
        (switched ∙ ap (λ (b : End). is_switched b answer) same_end) none) one;
  }
