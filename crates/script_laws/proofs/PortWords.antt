-- Each entry of a run that is of a port, forged or not, is of one of them, and its cause has its words.
use Rattle.std.proofs.Common.{◌≡◌, ℕ, ◌<◌, ◌==◌, Bool, Option, Some, List, [], ◌∷◌, ◌++◌, length, map, slice_get, refl, ◌∙◌, subst, arith}
use Rattle.std.proofs.lemmas.Bool.{eq-eqb}
use Rattle.std.specs.Prelude.{⊤}
use Rattle.runs.specs.Lawful.{lawful_split, log_of}
use Rattle.runs.specs.Run.{Run, run_push}
use Rattle.ldc_queue.specs.Transcript.{Utterance}
use Rattle.ldc_queue.specs.declared.end.End.{End}
use Rattle.vio_tag.specs.declared.cause.Cause.{Cause}
use Rattle.world_parts.specs.lane_models.ResetSays.{ResetSays}
use Rattle.world_parts.specs.lane_models.TranscriptLog.{transcript_of}
use Rattle.lane_kinds.proofs.Moving.{each_there}
use Rattle.lane_kinds.proofs.Places.{get_within}
use Rattle.lane_kinds.specs.Lanes.{EachOf, own_or}
use Rattle.world_parts.proofs.port_laws.EveryRun.{every_run}
use Rattle.world_parts.specs.lane_models.FrameLaws.{OwnReset}
use Rattle.world_parts.specs.lane_models.NetEndStep.{Reset}
use Rattle.world_parts.specs.lane_models.NetEvent.{Steps}
use Rattle.world_parts.specs.lane_models.PortLog.{PortLog, after, log_of_end, no_events}
use Rattle.world_parts.specs.lane_models.EndLog.{EndLog}
use Rattle.world_parts.specs.lane_models.PortMay.{PortMay}
use Rattle.world_parts.specs.lane_models.PortState.{OnLane, PortState, PortStep, fresh_port}
use Rattle.world_parts.specs.switch_laws.Events.{OnPort, SwitchEvent, SwitchStep}
use Rattle.world_parts.specs.switch_laws.Reached.{IsReached}
use Rattle.world_parts.specs.world_laws.Settle.{OfPort, SettleEntry, UnsettledPort}
use Rattle.world_parts.specs.world_laws.Words.{NamesFault}
use Rattle.world_parts.proofs.domain_laws.LeftOver.{IsBelow, NamesBelow}
use Rattle.world_parts.proofs.domain_laws.LineEntries.{EachEntry}
use Rattle.world_parts.proofs.domain_laws.Running.{port_moved, ports_many, stay_reached}
use Rattle.world_parts.specs.switch_laws.Ports.{gets}
use Rattle.world_parts.specs.domain_laws.Domain.{PortsStep}
use Rattle.world_parts.specs.WorldEvents.{told_of}

-- the cause of a reset names a fault of a copy
abbrev pub HasPortWords : SwitchEvent → Type 0
HasPortWords (OnPort (OnLane (Steps e (Reset cause packet lost)))) = NamesFault cause
HasPortWords _ = ⊤

-- AN ENTRY of one of so many ports
abbrev pub IsPortTold : ℕ → SettleEntry → Type 0
IsPortTold many (OfPort k event) = (k < many) × HasPortWords event
IsPortTold many (UnsettledPort k) = k < many
IsPortTold many _ = ⊤

-- ONE EVENT of a port that is reached
cause_named : (slots : ℕ) (l : EndLog) (turns : List Utterance) (cause : Cause) (packet : Option (List ℕ)) → OwnReset slots l cause packet
    → ResetSays turns packet cause → NamesFault cause
cause_named slots l turns cause packet own says = grind arith

reset_words : (s : PortState) (at : IsReached s) (e : End) (cause : Cause) (packet : Option (List ℕ)) (lost : ℕ) (t : PortState)
    → PortStep s (OnLane (Steps e (Reset cause packet lost))) t → NamesFault cause
reset_words s at e cause packet lost t step =
    let event = OnLane (Steps e (Reset cause packet lost)) in
    let run = run_push PortStep (fresh_port at.shape) s t at.events event at.run step in
    let l : PortLog = log_of after (no_events at.shape) at.events in
    let lawful = lawful_split PortMay after (no_events at.shape) at.events (event ∷ [])
    (every_run at.shape (at.events ++ event ∷ []) t at.sound run) in
    let may : PortMay l event = lawful.1.0 in
    cause_named l.shape.slots (log_of_end e l) (transcript_of e l.transcript) cause packet may.own_resets may.reset_says

event_words : (s : PortState) (event : SwitchEvent) (t : PortState) → IsReached s → SwitchStep s event t → HasPortWords event
event_words s (OnPort (OnLane (Steps e (Reset cause packet lost)))) t at step = reset_words s at e cause packet lost t step.1
event_words s _ t at step = tt

-- A RUN of all ports
pub record OwnStep (lanes : List PortState) (k : ℕ) (event : SwitchEvent) : Type 0 where
  pub state : PortState
  pub there : slice_get lanes k ≡ Some state
  pub after : PortState
  pub step : SwitchStep state event after

pub own_step : (lanes : List PortState) (k : ℕ) (event : SwitchEvent) (behind : List PortState)
    → PortsStep lanes (OfPort k event) behind → OwnStep lanes k event
own_step lanes k event behind step =
    let one = get_within lanes k step.entry.within in
    let run : Run PortsStep lanes (OfPort k event ∷ []) behind = (behind, step, refl) in
    let many = ports_many lanes (OfPort k event ∷ []) behind run in
    let other = get_within behind k (within k (length lanes) (length behind) step.entry.within many) in
    let moved : Run SwitchStep one.0 (own_or (k == k) event (gets k event) ++ []) other.0 =
    port_moved lanes (OfPort k event ∷ []) behind k one.0 other.0 run one.1 other.1 in
    let own : Run SwitchStep one.0 (event ∷ []) other.0 =
    subst (λ (b : Bool). Run SwitchStep one.0 (own_or b event (gets k event) ++ []) other.0) (eq-eqb k k refl) moved in
    record { state = one.0; there = one.1; after = own.0; step = own.1 }
  where
    within : (k n m : ℕ) → k < n → m ≡ n → k < m
    within k n m less is = omega (arith, less, is)

step_told : (lanes : List PortState) (k : ℕ) (event : SwitchEvent) (behind : List PortState) → EachOf IsReached lanes
    → PortsStep lanes (OfPort k event) behind → HasPortWords event
step_told lanes k event behind all step =
    let own = own_step lanes k event behind step in
    event_words own.state event own.after (each_there IsReached lanes k own.state all own.there) own.step

pub ports_told : (disks many : ℕ) (lanes : List PortState) (entries : List SettleEntry) (behind : List PortState) → length lanes ≡ many
    → EachOf IsReached lanes → Run PortsStep lanes entries behind → NamesBelow disks many entries → EachEntry (IsPortTold many) entries
ports_told disks many lanes [] behind long all run below = tt
ports_told disks many lanes (entry ∷ entries) behind long all run below =
    let first : Run PortsStep lanes (entry ∷ []) run.0 = (run.0, run.1, refl) in (
      one_told entry run.1 below.0,
      ports_told disks many run.0 entries behind (ports_many lanes (entry ∷ []) run.0 first ∙ long)
          (stay_reached lanes (entry ∷ []) run.0 all first) run.2 below.1,
    )
  where
    few : (k n m : ℕ) → k < n → n ≡ m → k < m
    few k n m less is = omega (arith, less, is)

    one_told : (e : SettleEntry) → PortsStep lanes e run.0 → IsBelow disks many e → IsPortTold many e
    one_told (OfPort k event) step below = (few k (length lanes) many step.entry.within long, step_told lanes k event run.0 all step)
    one_told (UnsettledPort k) step below = below
    one_told _ step below = tt

-- AND WHAT IS TOLD of them
one_as_told : (many : ℕ) (entry : SettleEntry) → IsPortTold many entry → IsPortTold many (told_of entry)
one_as_told many entry told = grind arith

pub as_told : (many : ℕ) (entries : List SettleEntry) → EachEntry (IsPortTold many) entries → EachEntry (IsPortTold many) (map told_of entries)
as_told many [] told = tt
as_told many (entry ∷ entries) told = (one_as_told many entry told.0, as_told many entries told.1)
