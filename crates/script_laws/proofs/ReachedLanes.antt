-- The lanes that the lines of a script lead to, from a fresh world of at most eight disks and eight ports on: each was
-- reached, also where somebody forged it.
use Rattle.std.proofs.Common.{◌≡◌, ℕ, ◌<◌, ◌≤◌, List, ◌++◌, length, slice_get, Some, [], ◌∷◌, suc, refl, subst, arith}
use Rattle.std.proofs.lemmas.Option.{slice_get_within}
use Rattle.runs.specs.Run.{Run}
use Rattle.disk_law.specs.ListState.{ImageState}
use Rattle.world_parts.specs.lane_models.DiskEvent.{DiskEvent}
use Rattle.world_parts.specs.lane_models.LaneState.{Shape}
use Rattle.domain_script.specs.Declarations.{AreDisks}
use Rattle.domain_script.specs.declared.event.DiskDecl.{DiskDecl}
use Rattle.lane_kinds.proofs.Places.{get_within}
use Rattle.lane_kinds.specs.Lanes.{EachOf}
use Rattle.world_parts.specs.lane_models.NetLaneState.{IsNetShape, NetShape}
use Rattle.world_parts.specs.lane_models.PortState.{PortState}
use Rattle.world_parts.specs.switch_laws.Events.{SwitchEvent}
use Rattle.world_parts.specs.switch_laws.Reached as port
use Rattle.world_parts.specs.world_laws.Settle.{SettleEntry}
use Rattle.world_parts.proofs.world_laws.Forging.{all_unforged, forges_front}
use Rattle.world_parts.proofs.world_laws.Moving.{happened_both}
use Rattle.world_parts.specs.world_laws.Along.{happened}
use Rattle.world_parts.specs.world_laws.Forged.{NobodyForges}
use Rattle.world_parts.proofs.world_laws.Along.{world_reached}
use Rattle.world_parts.specs.world_laws.World.{AreShapes}
use Rattle.world_parts.proofs.domain_laws.ForgedPorts.{port_told}
use Rattle.world_parts.proofs.domain_laws.Running.{disks_run, fresh_many, fresh_reached, ports_run, stay_reached}
use Rattle.world_parts.proofs.domain_laws.ScriptEntries.{fresh_many as many_first, lines_run, many_kept}
use Rattle.world_parts.specs.domain_laws.Along.{port_happened, port_said}
use Rattle.world_parts.specs.domain_laws.Domain.{DomainState, DomainStep, Lanes, fresh_domain, lanes_in}
use Rattle.world_parts.specs.domain_laws.Forged.{NobodyForgesPort}
use Rattle.world_parts.specs.domain_laws.Lines.{Line, LineStep, entries_of_lines}
use Rattle.world_parts.specs.domain_laws.Settling.{AreFew, AreReached, AreUnforged}
use Rattle.lane_kinds.proofs.Moving as kind
use Rattle.script_laws.specs.Settled.{NobodyForgesAll}

-- WHAT A SCRIPT DECLARES: at most eight disks, and beside them at most eight ports
pub record AreLanes (disks : List DiskDecl) (nets : List NetShape) : Type 0 where
  pub disks_are : AreDisks disks
  pub few_disks : length disks ≤ 8
  pub nets_are : EachOf IsNetShape nets
  pub few_nets : length nets ≤ 8

pub record AreReachedFew (w : Lanes) : Type 0 where
  pub reached : AreReached w
  pub few : AreFew w

at_most : (n m : ℕ) → n ≡ m → m ≤ 8 → n ≤ 8
at_most n m is few = omega (arith, is, few)

pub reached_behind : (shapes : List Shape) (image : ImageState) (nets : List NetShape)
    (lines : List (Line × List SettleEntry)) (w : DomainState) → AreShapes 0 shapes → length shapes ≤ 8
    → EachOf IsNetShape nets → length nets ≤ 8 → Run LineStep (fresh_domain shapes image nets) lines w
    → AreReachedFew (lanes_in w)
reached_behind shapes image nets lines w are few nets_are few_nets run =
    let start = fresh_domain shapes image nets in
    let entries = entries_of_lines lines in
    let whole = lines_run start lines w run in
    let many = many_kept (length shapes) (length nets) start entries w whole (many_first shapes image nets) in
    grind (arith, world_reached, disks_run, stay_reached, fresh_reached, ports_run, at_most)

-- entries that forge no lane have a front that forges none
none_front : (one two : List SwitchEvent) → NobodyForgesPort (one ++ two) → NobodyForgesPort one
none_front [] two none = tt
none_front (event ∷ one) two none = (none.0, none_front one two none.1)

pub any_front : (one two : List SettleEntry) → NobodyForgesAll (one ++ two) → NobodyForgesAll one
any_front one two none = record {
  of_disks = λ k.
      forges_front (happened k one) (happened k two)
      (subst (λ (l : List DiskEvent). NobodyForges l) (happened_both k one two) (none.of_disks k));
  of_ports = λ k.
      none_front (port_happened k one) (port_happened k two)
      (subst NobodyForgesPort (kind.happened_both port_said k one two) (none.of_ports k));
}

-- and where entries forge none, nobody forged any
each_port : (P : PortState → Type 0) (ports : List PortState)
    → ((k : ℕ) (s : PortState) → slice_get ports k ≡ Some s → P s) → EachOf P ports
each_port P [] all = tt
each_port P (s ∷ ports) all = (all 0 s refl, each_port P ports (λ k t there. all (suc k) t there))

below : (k n m : ℕ) → k < n → n ≡ m → k < m
below k n m less is = omega (arith, less, is)

pub unforged_by : (shapes : List Shape) (image : ImageState) (nets : List NetShape) (entries : List SettleEntry)
    (w : DomainState) → Run DomainStep (fresh_domain shapes image nets) entries w → NobodyForgesAll entries
    → AreUnforged (lanes_in w)
unforged_by shapes image nets entries w run none =
    let start = fresh_domain shapes image nets in
    let ports = ports_run start entries w run in
    record {
      of_disks = all_unforged shapes image entries w.first (disks_run start entries w run) none.of_disks;
      of_ports = each_port port.IsUnforged w.second
          (λ k s there.
          let shape = get_within nets k
          (below k (length w.second) (length nets) (slice_get_within w.second k s there) (fresh_many nets entries w.second ports)) in
          (port_told nets entries w.second k shape.0 s ports shape.1 there).1 (none.of_ports k));
    }
