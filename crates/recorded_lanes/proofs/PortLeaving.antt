-- What a step of a port's end leaves in the journal, by its answer: the entry of its event, or none in a settle where it idles.
use Rattle.std.proofs.Common.{◌≡◌, ℕ, Bool, true, false, ◌||◌, Option, Some, None, List, is_some, refl, sym, ap, subst, ◌∙◌}
use Rattle.std.proofs.lemmas.Bool.{and_parts}
use Rattle.std.specs.Prelude.{◌&&◌}
use Rattle.domain_script.specs.declared.event.Side.{Side}
use Rattle.domain_script.specs.declared.event.Side.TheVariants.{Client, Server}
use Rattle.world_parts.specs.domain_laws.Lines.{Line}
use Rattle.world_parts.specs.lane_models.NetEndStep.{Frame}
use Rattle.world_parts.specs.lane_models.NetEvent.{Steps}
use Rattle.domain_script.specs.declared.event.EndName.{EndName}
use Rattle.domain_script.specs.declared.fields.LaneKind.{LaneKind}
use Rattle.domain_script.specs.declared.fields.LaneKind.TheVariants as kinds
use Rattle.kept_requests.specs.Bytes.{BytesState, filled}
use Rattle.ldc_queue.specs.declared.end.End.{End}
use Rattle.ldc_queue.specs.declared.end.End.TheVariants.{A, B}
use Rattle.ldom_entries.specs.JournalState.{JournalState, PutsEntry}
use Rattle.ldom_entries.specs.declared.entry.Entry.{Entry}
use Rattle.ldom_entries.specs.declared.entry.Entry.TheVariants as entry
use Rattle.ldom_report.specs.LaneEvents.{end_of}
use Rattle.ldom_report.specs.Report.{is_accepted}
use Rattle.switched_ports.specs.net_lane.Stepping.{net_answer}
use Rattle.switched_ports.specs.net_lane.net_out.NetOut.{NetOut}
use Rattle.switched_ports.specs.net_lane.net_out.NetOut.TheVariants as out
use Rattle.world_parts.specs.switch_laws.Events.{SwitchEvent, Switched}
use Rattle.world_parts.specs.switch_laws.Ports.{is_calm, is_silent}
use Rattle.switched_ports.specs.Events.{ResetsOwn, is_switched, step_event}
use Rattle.vio_tag.specs.declared.cause.Cause.TheVariants as the_cause
use Rattle.switched_ports.specs.vnet_switch.declared.forwarding.Switched.{Switched as Sets}
use Rattle.world_parts.specs.world_laws.Settle.{OfPort}
use Rattle.world_parts.specs.WorldEvents.{of_net, told_of, world_event}
use Rattle.recorded_lanes.specs.Called.{port_end}
use Rattle.recorded_lanes.specs.OnePort.{PortLeaves, PortRecordedBut, PortRecords, frame_entry, port_blocked, port_rests}

-- WHICH ANSWERS REST, and which are calm
port_silent : (e : End) (answer : NetOut) (last : List ℕ) (sets : Option Sets)
    → is_silent (step_event e (net_answer answer last) sets) ≡ port_rests answer
port_silent A out.Idle last sets = refl
port_silent A answer last sets = refl
port_silent B out.Idle last sets = refl
port_silent B (out.Frame len) last (Some sets) = refl
port_silent B answer last sets = refl

port_calm : (e : End) (answer : NetOut) (last : List ℕ) (sets : Option Sets)
    → is_calm (step_event e (net_answer answer last) sets) ≡ (port_rests answer || port_blocked answer)
port_calm A out.Idle last sets = refl
port_calm A answer last sets = refl
port_calm B out.Idle last sets = refl
port_calm B (out.Frame len) last (Some sets) = refl
port_calm B answer last sets = refl

-- BY AN ANSWER that rests in a settle, and by any other
module _ (in_settle : Bool) (k : ℕ) (e : End) (answer : NetOut) (last : List ℕ) (sets : Option Sets) (s t : JournalState)
    (rests : Bool) (is : rests ≡ port_rests answer) where
  abbrev stepped : SwitchEvent
  stepped = step_event e (net_answer answer last) sets

  silent_is : is_silent stepped ≡ rests
  silent_is = port_silent e answer last sets ∙ sym is

  calm_by : is_calm stepped ≡ (rests || port_blocked answer)
  calm_by = port_calm e answer last sets ∙ ap (λ (b : Bool). b || port_blocked answer) (sym is)

  pub port_leaves_none : (in_settle && rests) ≡ true → t ≡ s → PortLeaves in_settle k stepped s true t
  port_leaves_none out_is same = record {
    calm_is = sym (calm_by ∙ ap (λ (b : Bool). b || port_blocked answer) (and_parts in_settle rests out_is).1);
    recorded = subst (λ (b : Bool). PortRecordedBut b k stepped s t)
        (sym (ap (λ (b : Bool). in_settle && b) silent_is ∙ out_is)) same;
  }

  pub port_leaves_entry : (calm : Bool) → (in_settle && rests) ≡ false → calm ≡ (rests || port_blocked answer)
      → PortRecords k stepped s t → PortLeaves in_settle k stepped s calm t
  port_leaves_entry calm told calm_is put = record {
    calm_is = calm_is ∙ sym calm_by;
    recorded = subst (λ (b : Bool). PortRecordedBut b k stepped s t)
        (sym (ap (λ (b : Bool). in_settle && b) silent_is ∙ told)) put;
  }

-- THE ENTRY of an answer
abbrev pub step_entry : ℕ → Side → NetOut → BytesState → Option Sets → Entry
step_entry k side out.Idle bytes sets = entry.Idle (port_end k side)
step_entry k side out.Blocked bytes sets = entry.Blocked (port_end k side)
step_entry k side (out.Joined lost) bytes sets = entry.Joined (port_end k side) lost
step_entry k side (out.Took packet opens) bytes sets = entry.Took (port_end k side) packet opens
step_entry k side (out.Sent packet opens) bytes sets = entry.Sent (port_end k side) packet opens
step_entry k side (out.Published id) bytes sets = entry.Published (port_end k side) id
step_entry k side (out.Frame len) bytes sets = frame_entry (port_end k side) sets bytes
step_entry k side (out.Reset cause packet lost) bytes sets = entry.Reset (port_end k side) cause packet lost

step_accepts_none : (k : ℕ) (side : Side) (answer : NetOut) (bytes : BytesState) (sets : Option Sets)
    → is_accepted (step_entry k side answer bytes sets) ≡ false
step_accepts_none k side (out.Frame len) bytes (Some sets) = refl
step_accepts_none k side (out.Frame len) bytes None = refl
step_accepts_none k side answer bytes sets = refl

step_says : (line : Line) (k : ℕ) (side : Side) (answer : NetOut) (last : List ℕ) (bytes : BytesState) (sets : Option Sets)
    → bytes.items ≡ last → is_some sets ≡ is_switched (end_of side) answer → ResetsOwn answer
    → world_event line (step_entry k side answer bytes sets)
    ≡ Some (told_of (OfPort k (step_event (end_of side) (net_answer answer last) sets)))
step_says line k Client (out.Frame len) last bytes (Some sets) of_last switched own = absurd (cc switched)
step_says line k Client (out.Frame len) last bytes None of_last switched own =
    ap (λ (frame : List ℕ). Some (of_net k (Steps A (Frame frame)))) of_last
step_says line k Server (out.Frame len) last bytes (Some sets) of_last switched own =
    ap (λ (frame : List ℕ). Some (OfPort k (Switched frame sets.out sets.full))) of_last
step_says line k Server (out.Frame len) last bytes None of_last switched own = absurd (cc switched)
step_says line k Client (out.Reset the_cause.Asked packet lost) last bytes sets of_last switched own = absurd (cc own)
step_says line k Server (out.Reset the_cause.Asked packet lost) last bytes sets of_last switched own = absurd (cc own)
step_says line k Client (out.Reset the_cause.Tick packet lost) last bytes sets of_last switched own = absurd (cc own)
step_says line k Server (out.Reset the_cause.Tick packet lost) last bytes sets of_last switched own = absurd (cc own)
step_says line k Client answer last bytes sets of_last switched own = refl
step_says line k Server answer last bytes sets of_last switched own = refl

-- an end of a port by its own name
pub port_named : (e : EndName) → e.lane.kind ≡ kinds.Port → e ≡ port_end e.lane.number e.side
port_named e is =
    ap (λ (kind : LaneKind). let n : EndName = record {
      lane = record { kind = kind; number = e.lane.number };
      side = e.side;
    } in n) is

-- IT IS RECORDED, with these bytes where a frame was taken
module _ (k : ℕ) (side : Side) (answer : NetOut) (last : List ℕ) (sets : Option Sets) (s t : JournalState)
    (switched : is_some sets ≡ is_switched (end_of side) answer) (own : ResetsOwn answer) where
  pub recorded_with : (bytes : BytesState) (x : Entry) → bytes.items ≡ last → x ≡ step_entry k side answer bytes sets
      → PutsEntry s x t → PortRecords k (step_event (end_of side) (net_answer answer last) sets) s t
  recorded_with bytes x of_last is puts = record {
    entry = step_entry k side answer bytes sets;
    puts = subst (λ (e : Entry). PutsEntry s e t) is puts;
    tells = λ line. record {
      says = step_says line k side answer last bytes sets of_last switched own;
      none = step_accepts_none k side answer bytes sets;
    };
  }

  -- where none was, it has no bytes
  pub recorded : (one : NetOut) (e : EndName) (of_end : EndName → Entry) → answer ≡ one → e ≡ port_end k side
      → of_end (port_end k side) ≡ step_entry k side one (filled last) sets → PutsEntry s (of_end e) t
      → PortRecords k (step_event (end_of side) (net_answer answer last) sets) s t
  recorded one e of_end is same says puts =
      recorded_with (filled last) (of_end e) refl
      (ap of_end same ∙ says ∙ sym (ap (λ (o : NetOut). step_entry k side o (filled last) sets) is)) puts

  pub frame_recorded : (e : EndName) (bytes : BytesState) (len : ℕ) → e ≡ port_end k side → bytes.items ≡ last
      → answer ≡ out.Frame len → PutsEntry s (frame_entry e sets bytes) t
      → PortRecords k (step_event (end_of side) (net_answer answer last) sets) s t
  frame_recorded e bytes len same of_last is puts =
      recorded_with bytes (frame_entry e sets bytes) of_last
      (ap (λ (at : EndName). frame_entry at sets bytes) same
      ∙ sym (ap (λ (o : NetOut). step_entry k side o bytes sets) is)) puts
