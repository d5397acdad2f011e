-- THE HEADLINE of every script that its journal fits.
use Rattle.std.proofs.Common.{◌≡◌, ℕ, ◌≤◌, List, length, Option, Some, None, IfSome, refl, ◌∙◌}
use Rattle.disk_law.specs.ListState.{ImageState}
use Rattle.domain_script.specs.Declarations.{AreDisks}
use Rattle.domain_script.specs.declared.event.DiskDecl.{DiskDecl}
use Rattle.domain_script.specs.declared.event.Event.TheVariants.{Settle}
use Rattle.world_parts.specs.world_laws.Settle.{SettleEntry, Unsettled, UnsettledPort}
use Rattle.script_laws.proofs.Untold.{real_unsettled, real_unsettled_port}
use Rattle.world_parts.proofs.world_laws.Along.{lanes_run}
use Rattle.world_parts.specs.domain_laws.Domain.{DomainState}
use Rattle.lane_kinds.specs.Lanes.{EachOf}
use Rattle.world_parts.specs.lane_models.NetLaneState.{IsNetShape, NetShape}
use Rattle.script_laws.proofs.ReachedLanes.{AreLanes}
use Rattle.script_laws.proofs.PortsAlong.{many_ports, ports_stand}
use Rattle.script_laws.proofs.NamedExactly.{names_exactly}
use Rattle.script_laws.proofs.PortsSettle.{port_settles}
use Rattle.script_laws.proofs.Disks.{of_disk}
use Rattle.script_laws.proofs.Isolated.{stand_apart}
use Rattle.script_laws.proofs.Leading.{Leads, script_leads}
use Rattle.script_laws.proofs.SettleLines.{EachLeads, EachSettles, each_whole, rules_at, script_settles}
use Rattle.script_laws.proofs.LeftWhere.{left_where_busy, rounds_ran_out}
use Rattle.script_laws.proofs.SettleRests.{rests_or_ticked}
use Rattle.script_laws.proofs.Settling.{settle_at, settled_where}
use Rattle.script_laws.proofs.TicksNeeded.{ticks_are_needed}
use Rattle.script_laws.proofs.DeclaredWorlds.{declared_world}
use Rattle.script_laws.specs.Headline.{Headline}
use Rattle.script_laws.specs.Told.{told, told_by}
use Rattle.script_laws.proofs.DiskShapes.{many_shapes}
use Rattle.world_parts.proofs.world_laws.BehindDisks.{stays_behind}
use Rattle.world_parts.specs.world_laws.Stays.{StaysBehind}
use Rattle.world_parts.specs.Declared.{bytes_needed, shapes_of, world_of}
use Rattle.world_parts.specs.Script.{FitsScript, ScriptParts, all_lines}

if_told : (told : Option (List ℕ)) (P : List ℕ → Type 0) → ((first : List ℕ) → told ≡ Some first → P first)
    → IfSome told P
if_told None P holds = tt
if_told (Some first) P holds = holds first refl

module _ (disks : List DiskDecl) (nets : List NetShape) (image : ImageState) (are : AreDisks disks)
    (long : IfSome image.told (λ bytes. bytes_needed disks ≤ length bytes)) where
  -- OUTSIDE of all disks
  outside : (entries : List SettleEntry) (v : DomainState) → Leads disks nets image entries v
      → IfSome image.told (λ first. StaysBehind (shapes_of 0 disks) first v.first.image.told)
  outside entries v leads =
      let world = declared_world disks image are long in
      if_told image.told (λ (first : List ℕ). StaysBehind (shapes_of 0 disks) first v.first.image.told)
      (λ first told. stays_behind (shapes_of 0 disks) image first world told entries v.first leads.run)

pub headline_law : (disks : List DiskDecl) (nets : List NetShape) (image : ImageState) (parts : ScriptParts) (v : DomainState)
    → AreDisks disks → length disks ≤ 8 → EachOf IsNetShape nets → length nets ≤ 8
    → IfSome image.told (λ bytes. bytes_needed disks ≤ length bytes)
    → FitsScript 0 (world_of disks nets image) parts v → Headline disks nets image parts v
headline_law disks nets image parts v disks_are few_disks nets_are few_nets long fits =
    let are : AreLanes disks nets =
    record { disks_are = disks_are; few_disks = few_disks; nets_are = nets_are; few_nets = few_nets } in
    let entries : List SettleEntry = told (all_lines parts) in
    let leads : Leads disks nets image entries v = script_leads disks nets image are parts v fits in
    let on : EachLeads disks nets image (all_lines parts) v = script_settles disks nets image parts v fits in
    let each : EachSettles disks nets image (all_lines parts) = λ before part behind is. (on before part behind is).of in
    record {
      many = (lanes_run (shapes_of 0 disks) image entries v.first leads.run).many ∙ many_shapes 0 disks;
      each = of_disk disks nets image disks_are long entries v leads;
      settles = record {
        each = λ before part behind is.
            rules_at disks nets image before (told_by (Settle, part)) (each before part behind is);
        ends = settle_at disks nets image are parts.whole fits.middle fits.run;
        settled = settled_where disks nets image are parts.whole fits.middle fits.run;
        left = λ before part behind so_far x rest is place.
            rounds_ran_out disks nets image are before part behind v so_far (Unsettled x) rest tt (real_unsettled x)
            (on before part behind is) place;
        port_left = λ before part behind so_far k rest is place.
            rounds_ran_out disks nets image are before part behind v so_far (UnsettledPort k) rest tt
            (real_unsettled_port k) (on before part behind is) place;
        none_left = leads.none_left;
        no_port_left = leads.no_port_left;
      };
      ticks = λ x shape of_shape. ticks_are_needed disks nets image are x shape of_shape (all_lines parts) each;
      left = λ x shape of_shape. left_where_busy disks nets image are x shape of_shape (all_lines parts) each;
      rests = λ x shape of_shape. rests_or_ticked disks nets image are x shape of_shape (all_lines parts) each;
      outside = outside disks nets image disks_are long entries v leads;
      ports_many = many_ports disks nets image nets_are entries v leads;
      ports = ports_stand disks nets image nets_are entries v leads;
      ports_settle = λ k shape of_shape. port_settles disks nets image are k shape of_shape (all_lines parts) each;
      names = names_exactly disks nets image are parts.whole (each_whole disks nets image parts.whole fits.middle fits.run);
      apart = stand_apart disks nets image parts v disks_are fits;
    }
