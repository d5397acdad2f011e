-- What holds of each port where a script's journal led: it is lawful, its frames arrive, and it rests behind each settle.
use Rattle.std.proofs.Common.{◌≡◌, ◌↔◌, ℕ, ◌<◌, List, [], ◌∷◌, ◌++◌, length, map, slice_get, Some, refl, sym, ap, ◌∙◌, subst, arith}
use Rattle.std.proofs.lemmas.Option.{slice_get_within}
use Rattle.runs.specs.Run.{Run, run_split}
use Rattle.disk_law.specs.ListState.{ImageState}
use Rattle.domain_script.specs.declared.event.DiskDecl.{DiskDecl}
use Rattle.lane_kinds.proofs.Places.{get_within}
use Rattle.lane_kinds.specs.Lanes.{EachOf}
use Rattle.ldc_queue.specs.declared.end.End.{End}
use Rattle.ldc_queue.specs.declared.end.End.TheVariants.{A, B}
use Rattle.world_parts.specs.lane_models.WireAt.{IsUp}
use Rattle.world_parts.proofs.port_laws.EveryRun.{every_run}
use Rattle.world_parts.specs.port_laws.InOrder.{InOrder}
use Rattle.world_parts.specs.port_laws.Lost.{frames_lost}
use Rattle.world_parts.specs.lane_models.NetLaneState.{IsNetShape, NetShape}
use Rattle.world_parts.specs.lane_models.PortLog.{PortLog, no_events}
use Rattle.world_parts.specs.lane_models.PortState.{PortState, PortStep, fresh_port}
use Rattle.world_parts.proofs.switch_laws.Steps.{run_on_port}
use Rattle.world_parts.specs.switch_laws.Events.{Switched}
use Rattle.world_parts.specs.switch_laws.Reached.{IsUnforged}
use Rattle.world_parts.specs.world_laws.Settle.{OfPort as PortEntry, SettleEntry, Settled}
use Rattle.world_parts.proofs.domain_laws.Arriving.{own_run, rested_to_guest, rested_to_switch, sound_at, to_guest, to_switch}
use Rattle.world_parts.proofs.domain_laws.ForgedPorts.{port_told}
use Rattle.world_parts.proofs.domain_laws.Running.{fresh_many, port_moved, port_runs, ports_run}
use Rattle.world_parts.specs.domain_laws.Along.{port_happened}
use Rattle.world_parts.specs.domain_laws.Domain.{DomainState, DomainStep, PortsStep}
use Rattle.world_parts.specs.domain_laws.Forged.{NobodyForgesPort}
use Rattle.world_parts.specs.domain_laws.Frames.{frames_arrived, frames_put, frames_queued, frames_switched, port_events}
use Rattle.world_parts.specs.domain_laws.Settling.{HoldsNoFrame}
use Rattle.script_laws.proofs.Hearing.{port_hears}
use Rattle.script_laws.proofs.Leading.{Leads}
use Rattle.script_laws.proofs.PortLogs.{told_log}
use Rattle.script_laws.proofs.Settling.{PortsRestAt}
use Rattle.script_laws.proofs.Untold.{Untold, all_told, real_forged, real_settled, real_switched, told_arrived, told_forged, told_put, told_queued, told_switched, untold}
use Rattle.script_laws.specs.Lanes.{HearsAFront}
use Rattle.script_laws.specs.Ports.{GoesByStates, OfPort, PortsStand, RestsBehind}
use Rattle.script_laws.specs.Told.{port_log_at}
use Rattle.world_parts.specs.Declared.{shapes_of, world_of}

within : (k n m : ℕ) → k < n → n ≡ m → k < m
within k n m less is = omega (arith, less, is)

-- A FRONT of what is told, and what it is told of
record ToldFront (real front : List SettleEntry) : Type 0 where
  past : List SettleEntry
  rest : List SettleEntry
  is : real ≡ past ++ rest
  told_is : front ≡ all_told past

told_front : (real front behind : List SettleEntry) → all_told real ≡ front ++ behind → ToldFront real front
told_front real [] behind is = record { past = []; rest = real; is = refl; told_is = refl }
told_front (entry ∷ real) (first ∷ front) behind is =
    let others : all_told real ≡ front ++ behind = cc is in
    let later : ToldFront real front = told_front real front behind others in
    record {
      past = entry ∷ later.past;
      rest = later.rest;
      is = grind (arith, told_front real front behind);
      told_is = grind (arith, told_front real front behind);
    }
told_front [] (first ∷ front) behind is = absurd (cc is)

module _ (disks : List DiskDecl) (nets : List NetShape) (image : ImageState) (are : EachOf IsNetShape nets)
    (entries : List SettleEntry) (v : DomainState) (leads : Leads disks nets image entries v) where
  abbrev Start : DomainState
  Start = world_of disks nets image

  pub many_ports : length v.second ≡ length nets
  many_ports = fresh_many nets leads.real v.second (ports_run Start leads.real v leads.led)

  module _ (k : ℕ) (shape : NetShape) (s : PortState) (of_shape : slice_get nets k ≡ Some shape)
      (there : slice_get v.second k ≡ Some s) where
    run : Run PortStep (fresh_port shape) (port_events k leads.real) s
    run = own_run (shapes_of 0 disks) image nets are leads.real v k shape s leads.led of_shape there

    forged : (IsUnforged s) ↔ NobodyForgesPort (port_happened k entries)
    forged =
        let told = port_told nets leads.real v.second k shape s (ports_run Start leads.real v leads.led) of_shape there in (
          λ clean. subst (λ (l : List SettleEntry). NobodyForgesPort (port_happened k l)) (sym leads.told_is)
              (real_forged k leads.real (told.0 clean)),
          λ none. told.1
              (told_forged k leads.real
              (subst (λ (l : List SettleEntry). NobodyForgesPort (port_happened k l)) leads.told_is none)),
        )

    -- frames of these entries are those of the real ones
    queued : frames_queued k entries ≡ frames_queued k leads.real
    queued = ap (frames_queued k) leads.told_is ∙ told_queued k leads.real

    switched : frames_switched k entries ≡ frames_switched k leads.real
    switched = ap (frames_switched k) leads.told_is ∙ told_switched k leads.real

    arrived : frames_arrived k entries ≡ frames_arrived k leads.real
    arrived = ap (frames_arrived k) leads.told_is ∙ told_arrived k leads.real

    put : frames_put k entries ≡ frames_put k leads.real
    put = ap (frames_put k) leads.told_is ∙ told_put k leads.real

    -- A FRONT of the entries is told of one of the real ones, which led the port here
    record FrontLed (front : List SettleEntry) : Type 0 where
      past : List SettleEntry
      told_is : front ≡ all_told past
      at : DomainState
      led : Run DomainStep Start past at
      one : PortState
      here : slice_get at.second k ≡ Some one

    front_led : (front behind : List SettleEntry) → entries ≡ front ++ behind → FrontLed front
    front_led front behind is =
        let cut : ToldFront leads.real front = told_front leads.real front behind (sym leads.told_is ∙ is) in
        let split =
        run_split DomainStep Start v cut.past cut.rest
        (subst (λ (l : List SettleEntry). Run DomainStep Start l v) cut.is leads.led) in
        let one = get_within split.0.second k
        (within k (length nets) (length split.0.second) (slice_get_within nets k shape of_shape)
        (sym (fresh_many nets cut.past split.0.second (ports_run Start cut.past split.0 split.1)))) in
        grind arith

    clean_there : (front : List SettleEntry) (at : FrontLed front) → NobodyForgesPort (port_happened k front)
        → IsUnforged at.one
    clean_there front at none = grind (arith, port_told, ports_run, told_forged)

    in_order : (a b c d : List (List ℕ)) → a ≡ c → b ≡ d → InOrder 0 c d → InOrder 0 a b
    in_order a b c d one two order =
        subst (λ (l : List (List ℕ)). InOrder 0 l b) (sym one) (subst (InOrder 0 c) (sym two) order)

    -- what an end heard
    hears_there : (front : List SettleEntry) → FrontLed front → NobodyForgesPort (port_happened k front)
        → (e : End) → IsUp e (port_log_at shape k front).wire.wire → HearsAFront e (port_log_at shape k front).transcript
    hears_there front at none e up =
        let same : port_log_at shape k front ≡ port_log_at shape k at.past =
        ap (port_log_at shape k) at.told_is ∙ told_log k at.past (no_events shape) in
        subst (λ (l : PortLog). HearsAFront e l.transcript) (sym same)
        (port_hears shape (sound_at nets k shape are of_shape) (port_events k at.past) at.one
        (own_run (shapes_of 0 disks) image nets are at.past at.at k shape at.one at.led of_shape at.here) e
        (clean_there front at none) (subst (λ (l : PortLog). IsUp e l.wire.wire) same up))

    switch_order : (front : List SettleEntry) → FrontLed front → NobodyForgesPort (port_happened k front)
        → InOrder 0 (frames_switched k front) (frames_queued k front)
    switch_order front at none =
        in_order (frames_switched k front) (frames_queued k front) (frames_switched k at.past) (frames_queued k at.past)
        (ap (frames_switched k) at.told_is ∙ told_switched k at.past)
        (ap (frames_queued k) at.told_is ∙ told_queued k at.past)
        (to_switch (shapes_of 0 disks) image nets are at.past at.at k shape at.one at.led of_shape at.here
        (clean_there front at none))

    guest_order : (front : List SettleEntry) → FrontLed front → NobodyForgesPort (port_happened k front)
        → InOrder 0 (frames_arrived k front) (frames_put k front)
    guest_order front at none =
        in_order (frames_arrived k front) (frames_put k front) (frames_arrived k at.past) (frames_put k at.past)
        (ap (frames_arrived k) at.told_is ∙ told_arrived k at.past) (ap (frames_put k) at.told_is ∙ told_put k at.past)
        (to_guest (shapes_of 0 disks) image nets are at.past at.at k shape at.one at.led of_shape at.here
        (clean_there front at none))

    -- where it ends settled, it is at rest
    rests_now : (front : List SettleEntry) → entries ≡ front ++ Settled ∷ [] → IsUnforged s → HoldsNoFrame s
    rests_now front is clean =
        let at : Untold leads.real front Settled [] = untold leads.real front Settled [] (sym leads.told_is ∙ is) in
        let real : leads.real ≡ at.past ++ Settled ∷ at.rest =
        at.is ∙ ap (λ (e : SettleEntry). at.past ++ e ∷ at.rest) (real_settled at.real at.real_is) in
        by_rest at.past at.rest real (nothing_left at.rest at.rest_is) clean
      where
        nothing_left : (rest : List SettleEntry) → [] ≡ all_told rest → rest ≡ []
        nothing_left [] is = refl
        nothing_left (entry ∷ rest) is = absurd (cc is)

        by_rest : (past rest : List SettleEntry) → leads.real ≡ past ++ Settled ∷ rest → rest ≡ [] → IsUnforged s → HoldsNoFrame s
        by_rest past rest real none clean =
            let last : leads.real ≡ past ++ Settled ∷ [] = real ∙ ap (λ (l : List SettleEntry). past ++ Settled ∷ l) none in
            let rest_at : PortsRestAt disks nets image past [] v = leads.ports_rest past [] last in
            rest_at.rests k s (ap (λ (x : DomainState). slice_get x.second k) rest_at.on ∙ there) clean

    all_switch : (front : List SettleEntry) → entries ≡ front ++ Settled ∷ [] → IsUnforged s
        → frames_lost A (port_events k leads.real) ≡ 0 → frames_switched k entries ≡ frames_queued k entries
    all_switch front is clean none =
        switched
        ∙ rested_to_switch (shapes_of 0 disks) image nets are leads.real v k shape s leads.led of_shape there clean none
        (rests_now front is clean)
        ∙ sym queued

    all_guest : (front : List SettleEntry) → entries ≡ front ++ Settled ∷ [] → IsUnforged s
        → frames_lost B (port_events k leads.real) ≡ 0 → frames_arrived k entries ≡ frames_put k entries
    all_guest front is clean none =
        arrived
        ∙ rested_to_guest (shapes_of 0 disks) image nets are leads.real v k shape s leads.led of_shape there clean none
        (rests_now front is clean)
        ∙ sym put

    -- behind each settle
    rests_behind : (before behind : List SettleEntry) → entries ≡ before ++ Settled ∷ behind
        → RestsBehind shape k before leads.real s
    rests_behind before behind is =
        let at : Untold leads.real before Settled behind = untold leads.real before Settled behind (sym leads.told_is ∙ is) in
        let real : leads.real ≡ at.past ++ Settled ∷ at.rest =
        at.is ∙ ap (λ (e : SettleEntry). at.past ++ e ∷ at.rest) (real_settled at.real at.real_is) in
        let rest : PortsRestAt disks nets image at.past at.rest v = leads.ports_rest at.past at.rest real in
        let led : Run PortsStep (map fresh_port nets) at.past rest.at.second = ports_run Start at.past rest.at rest.run in
        let one = get_within rest.at.second k
        (within k (length nets) (length rest.at.second) (slice_get_within nets k shape of_shape)
        (sym (fresh_many nets at.past rest.at.second led))) in
        record {
          past = at.past;
          later = Settled ∷ at.rest;
          is = real;
          told_is = at.past_is;
          at = one.0;
          run = port_runs nets at.past rest.at.second k shape one.0 led of_shape one.1;
          leads = run_on_port one.0 (port_happened k at.rest) s
              (port_moved rest.at.second at.rest v.second k one.0 s (ports_run rest.at at.rest v rest.on) one.1 there);
          rests = rest.rests k one.0 one.1;
        }

    of_port : OfPort shape k entries leads.real s
    of_port = record {
      run = run;
      lawful = every_run shape (port_events k leads.real) s (sound_at nets k shape are of_shape) run;
      forged = forged;
      hears = λ front behind is none. hears_there front (front_led front behind is) none;
      to_switch = λ front behind is none. switch_order front (front_led front behind is) none;
      to_guest = λ front behind is none. guest_order front (front_led front behind is) none;
      all_to_switch = all_switch;
      all_to_guest = all_guest;
      rests = rests_behind;
    }

  -- a frame that was switched went by the states before it
  goes_by : (before : List SettleEntry) (k : ℕ) (frame : List ℕ) (out full : ℕ) (behind : List SettleEntry)
      → entries ≡ before ++ PortEntry k (Switched frame out full) ∷ behind
      → GoesByStates nets before k frame out full leads.real v.second
  goes_by before k frame out full behind is =
      let entry : SettleEntry = PortEntry k (Switched frame out full) in
      let at : Untold leads.real before entry behind = untold leads.real before entry behind (sym leads.told_is ∙ is) in
      let real : leads.real ≡ at.past ++ entry ∷ at.rest =
      at.is ∙ ap (λ (e : SettleEntry). at.past ++ e ∷ at.rest) (real_switched k frame out full at.real at.real_is) in
      let run : Run PortsStep (map fresh_port nets) (at.past ++ entry ∷ at.rest) v.second =
      subst (λ (l : List SettleEntry). Run PortsStep (map fresh_port nets) l v.second) real
      (ports_run Start leads.real v leads.led) in
      let split = run_split PortsStep (map fresh_port nets) v.second at.past (entry ∷ at.rest) run in
      record {
        past = at.past;
        later = entry ∷ at.rest;
        is = real;
        told_is = at.past_is;
        at = split.0;
        run = split.1;
        leads = split.2;
        forwards = split.2.1.entry.step.sees;
      }

  pub ports_stand : PortsStand nets entries v.second
  ports_stand = record { real = leads.real; told_is = leads.told_is; each = of_port; forwards = goes_by }
