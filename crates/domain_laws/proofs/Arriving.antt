-- The frames of a port of a world arrive in order, each at most once; and all of them, where the world ends settled and none is lost.
use Rattle.std.proofs.Common.{◌≡◌, ◌≢◌, ℕ, zero, suc, ◌+◌, Bool, true, false, Some, List, [], ◌∷◌, ◌++◌, map, slice_get, refl, sym, ap, ◌∙◌, subst, arith, append-nil, append_assoc}
use Rattle.std.proofs.lemmas.Bool.{eq-eqb, eqb-true}
use Rattle.std.specs.Int.{bit_at}
use Rattle.std.specs.Prelude.{◌==◌, if◌then◌else◌}
use Rattle.disk_law.specs.ListState.{ImageState}
use Rattle.lane_models.specs.LaneState.{Shape}
use Rattle.lane_kinds.specs.Lanes.{EachAt, EachOf}
use Rattle.ldc_queue.specs.declared.end.End.TheVariants.{A, B}
use Rattle.port_laws.proofs.FramesAll.{guest_all, hub_all}
use Rattle.port_laws.proofs.FramesOnce.{guest_takes_in_order, hub_takes_in_order}
use Rattle.port_laws.specs.InOrder.{InOrder, frames_taken}
use Rattle.port_laws.specs.Lost.{frames_lost}
use Rattle.lane_models.specs.NetLaneState.{IsNetShape, NetShape}
use Rattle.lane_models.specs.PortLog.{PortLog, after, no_events}
use Rattle.lane_models.specs.PortState.{PortEvent, PortState, PortStep, fresh_port}
use Rattle.runs.specs.Lawful.{log_of}
use Rattle.runs.specs.Run.{Run, run_append}
use Rattle.switch_laws.specs.Reached.{IsUnforged}
use Rattle.world_laws.proofs.Along.{world_reached}
use Rattle.world_laws.specs.Settle.{SettleEntry}
use Rattle.world_laws.specs.World.{AreShapes}
use Rattle.domain_laws.specs.Domain.{DomainState, DomainStep, fresh_domain, lanes_in}
use Rattle.domain_laws.specs.Frames.{EndsSettled, frames_arrived, frames_put, frames_queued, frames_switched, port_events}
use Rattle.domain_laws.specs.Settling.{AreReached, HoldsNoFrame, PortEndsIn}
use Rattle.domain_laws.proofs.Resting.{ports_end}
use Rattle.domain_laws.proofs.Telling.{arrived_told, put_told, queued_told, switched_told}
use Rattle.domain_laws.proofs.Running.{disks_run, fresh_reached, port_runs, ports_run, stay_reached}

-- ONE OF THOSE that a condition holds of, each with its number
pub at_there : {S : Type 0} (P : ℕ → S → Type 0) (j k : ℕ) (lanes : List S) (s : S) → EachAt P j lanes → slice_get lanes k ≡ Some s → P (j + k) s
at_there P j k [] s each there = absurd (cc there)
at_there P j zero (x ∷ lanes) s each there =
    let same : x ≡ s = cc there in
    let place : j ≡ j + 0 = omega arith in
    subst (λ (i : ℕ). P i s) place (subst (P j) same each.0)
at_there P j (suc k) (x ∷ lanes) s each there =
    let place : j + 1 + k ≡ j + (suc k) = omega arith in
    subst (λ (i : ℕ). P i s) place (at_there P (j + 1) k lanes s each.1 there)

pub sound_at : (nets : List NetShape) (k : ℕ) (shape : NetShape) → EachOf IsNetShape nets → slice_get nets k ≡ Some shape → IsNetShape shape
sound_at [] k shape are there = absurd (cc there)
sound_at (x ∷ nets) zero shape are there = let same : x ≡ shape = cc there in subst IsNetShape same are.0
sound_at (x ∷ nets) (suc k) shape are there = sound_at nets k shape are.1 there

told_in_order : (told taken asked given : List (List ℕ)) → told ≡ taken → asked ≡ given → InOrder 0 taken given → InOrder 0 told asked
told_in_order told taken asked given one two order = subst (λ (l : List (List ℕ)). InOrder 0 l asked) (sym one) (subst (InOrder 0 taken) (sym two) order)

module _ (shapes : List Shape) (image : ImageState) (nets : List NetShape) (are : EachOf IsNetShape nets) where
  -- IT IS RUN by its events
  pub own_run : (entries : List SettleEntry) (w : DomainState) (k : ℕ) (shape : NetShape) (s : PortState) → Run DomainStep (fresh_domain shapes image nets) entries w → slice_get nets k ≡ Some shape
      → slice_get w.second k ≡ Some s → Run PortStep (fresh_port shape) (port_events k entries) s
  own_run entries w k shape s run there here = port_runs nets entries w.second k shape s (ports_run (fresh_domain shapes image nets) entries w run) there here

  pub to_switch : (entries : List SettleEntry) (w : DomainState) (k : ℕ) (shape : NetShape) (s : PortState) → Run DomainStep (fresh_domain shapes image nets) entries w → slice_get nets k ≡ Some shape
      → slice_get w.second k ≡ Some s → IsUnforged s → InOrder 0 (frames_switched k entries) (frames_queued k entries)
  to_switch entries w k shape s run there here clean =
      let ports = ports_run (fresh_domain shapes image nets) entries w run in
      told_in_order (frames_switched k entries) (frames_taken B (port_events k entries)) (frames_queued k entries) (log_of after (no_events shape) (port_events k entries)).guest.given
      (switched_told shape k (map fresh_port nets) entries w.second ports) (queued_told shape k (map fresh_port nets) entries w.second ports)
      (hub_takes_in_order shape (port_events k entries) s (sound_at nets k shape are there) (own_run entries w k shape s run there here) clean)

  pub to_guest : (entries : List SettleEntry) (w : DomainState) (k : ℕ) (shape : NetShape) (s : PortState) → Run DomainStep (fresh_domain shapes image nets) entries w → slice_get nets k ≡ Some shape
      → slice_get w.second k ≡ Some s → IsUnforged s → InOrder 0 (frames_arrived k entries) (frames_put k entries)
  to_guest entries w k shape s run there here clean =
      let ports = ports_run (fresh_domain shapes image nets) entries w run in
      told_in_order (frames_arrived k entries) (frames_taken A (port_events k entries)) (frames_put k entries) (log_of after (no_events shape) (port_events k entries)).hub.given
      (arrived_told shape k (map fresh_port nets) entries w.second ports) (put_told shape k (map fresh_port nets) entries w.second ports)
      (guest_takes_in_order shape (port_events k entries) s (sound_at nets k shape are there) (own_run entries w k shape s run there here) clean)

  -- WHERE THE PORT IS AT REST
  pub rested_to_switch : (entries : List SettleEntry) (w : DomainState) (k : ℕ) (shape : NetShape) (s : PortState) → Run DomainStep (fresh_domain shapes image nets) entries w
      → slice_get nets k ≡ Some shape → slice_get w.second k ≡ Some s → IsUnforged s → frames_lost A (port_events k entries) ≡ 0 → HoldsNoFrame s
      → frames_switched k entries ≡ frames_queued k entries
  rested_to_switch entries w k shape s run there here clean none rests =
      let ports = ports_run (fresh_domain shapes image nets) entries w run in
      switched_told shape k (map fresh_port nets) entries w.second ports
      ∙ guest_all shape (port_events k entries) s (sound_at nets k shape are there) (own_run entries w k shape s run there here) clean none rests.guest
      ∙ sym (queued_told shape k (map fresh_port nets) entries w.second ports)

  pub rested_to_guest : (entries : List SettleEntry) (w : DomainState) (k : ℕ) (shape : NetShape) (s : PortState) → Run DomainStep (fresh_domain shapes image nets) entries w
      → slice_get nets k ≡ Some shape → slice_get w.second k ≡ Some s → IsUnforged s → frames_lost B (port_events k entries) ≡ 0 → HoldsNoFrame s
      → frames_arrived k entries ≡ frames_put k entries
  rested_to_guest entries w k shape s run there here clean none rests =
      let ports = ports_run (fresh_domain shapes image nets) entries w run in
      arrived_told shape k (map fresh_port nets) entries w.second ports
      ∙ hub_all shape (port_events k entries) s (sound_at nets k shape are there) (own_run entries w k shape s run there here) clean none
      (ap (λ (l : List (List ℕ)). l ++ s.queue) rests.switch_end ∙ rests.queue)
      ∙ sym (put_told shape k (map fresh_port nets) entries w.second ports)

  -- WHERE IT ENDS SETTLED
  module _ (disks_are : AreShapes 0 shapes) where
    reached : (entries : List SettleEntry) (w : DomainState) → Run DomainStep (fresh_domain shapes image nets) entries w → AreReached (lanes_in w)
    reached entries w run = record {
      of_disks = world_reached 0 shapes image entries w.first disks_are (disks_run (fresh_domain shapes image nets) entries w run);
      of_ports = stay_reached (map fresh_port nets) entries w.second (fresh_reached nets are) (ports_run (fresh_domain shapes image nets) entries w run);
    }

    whole_run : (before part : List SettleEntry) (w v : DomainState) → EndsSettled (fresh_domain shapes image nets) w before part v → Run DomainStep (fresh_domain shapes image nets) (before ++ part) v
    whole_run before part w v at = run_append DomainStep (fresh_domain shapes image nets) w v before part at.came at.run

    at_rest : (before part : List SettleEntry) (w v : DomainState) (k : ℕ) (s : PortState) → EndsSettled (fresh_domain shapes image nets) w before part v → slice_get v.second k ≡ Some s → IsUnforged s
        → HoldsNoFrame s
    at_rest before part w v k s at here clean =
        (at_there (PortEndsIn part) 0 k v.second s (ports_end (lanes_in w) part (lanes_in v) (reached before w at.came) at.part_of) here).rests clean

    pub all_to_switch : (before part : List SettleEntry) (w v : DomainState) (k : ℕ) (shape : NetShape) (s : PortState) → EndsSettled (fresh_domain shapes image nets) w before part v
        → slice_get nets k ≡ Some shape → slice_get v.second k ≡ Some s → IsUnforged s → frames_lost A (port_events k (before ++ part)) ≡ 0
        → frames_switched k (before ++ part) ≡ frames_queued k (before ++ part)
    all_to_switch before part w v k shape s at there here clean none =
        rested_to_switch (before ++ part) v k shape s (whole_run before part w v at) there here clean none (at_rest before part w v k s at here clean)

    pub all_to_guest : (before part : List SettleEntry) (w v : DomainState) (k : ℕ) (shape : NetShape) (s : PortState) → EndsSettled (fresh_domain shapes image nets) w before part v
        → slice_get nets k ≡ Some shape → slice_get v.second k ≡ Some s → IsUnforged s → frames_lost B (port_events k (before ++ part)) ≡ 0
        → frames_arrived k (before ++ part) ≡ frames_put k (before ++ part)
    all_to_guest before part w v k shape s at there here clean none =
        rested_to_guest (before ++ part) v k shape s (whole_run before part w v at) there here clean none (at_rest before part w v k s at here clean)
