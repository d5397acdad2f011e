-- What a script's journal leads to, also where want of memory cut off its last line: no lane is left over where nobody
-- forged one before, and after each settle all disks are finished whose servers run and that nobody forged.
use Rattle.std.proofs.Common.{◌≡◌, inl, inr, ℕ, Option, Some, None, List, [], ◌∷◌, ◌++◌, refl, sym, ap, ◌∙◌, subst, arith}
use Rattle.runs.specs.Run.{Run, run_append}
use Rattle.disk_law.specs.ListState.{ImageState}
use Rattle.domain_script.specs.declared.event.DiskDecl.{DiskDecl}
use Rattle.domain_script.specs.declared.event.Event.{Event}
use Rattle.world_parts.specs.lane_models.NetLaneState.{NetShape}
use Rattle.world_parts.specs.world_laws.Settle.{SettleEntry, Settled, Unsettled, UnsettledPort}
use Rattle.world_parts.specs.world_laws.World.{WorldStep, fresh_world}
use Rattle.world_parts.proofs.domain_laws.LineEntries.{each_in}
use Rattle.world_parts.proofs.domain_laws.Running.{disks_run}
use Rattle.world_parts.proofs.domain_laws.ScriptEntries.{lines_run}
use Rattle.world_parts.specs.domain_laws.Domain.{DomainState, DomainStep}
use Rattle.world_parts.specs.domain_laws.Lines as world
use Rattle.ldom_entries.specs.declared.entry.Entry.{Entry}
use Rattle.script_laws.proofs.Entries.{IsName, IsOfLane}
use Rattle.script_laws.proofs.LineEntries.{begins_lanes, begins_unsettled}
use Rattle.script_laws.proofs.Places.{InEither, place_in}
use Rattle.script_laws.proofs.ReachedLanes.{AreLanes, any_front}
use Rattle.script_laws.proofs.Settling.{FinishedAt, PortsRestAt, finished_at, none_over, ports_rest_at, reached_lines, told_finished, unforged_lines}
use Rattle.script_laws.proofs.DeclaredWorlds.{AsLines, as_lines, cut_told, says_told}
use Rattle.script_laws.proofs.Untold.{Untold, all_told, real_settled, real_unsettled, real_unsettled_port, told_forged_all, told_run, untold}
use Rattle.script_laws.specs.Settled.{NobodyForgesAll}
use Rattle.script_laws.specs.Told.{told}
use Rattle.world_parts.specs.Declared.{shapes_of, world_of}
use Rattle.world_parts.specs.Lines.{EventStep, line_of}
use Rattle.world_parts.specs.Script.{FitsScript, LastStarts, ScriptParts, all_lines, with_last}

-- WHAT THE REAL ENTRIES lead to
record LeadsTo (disks : List DiskDecl) (nets : List NetShape) (image : ImageState) (entries : List SettleEntry)
    (v : DomainState) : Type 0 where
  run : Run DomainStep (world_of disks nets image) entries v
  none_left : (before : List SettleEntry) (entry : SettleEntry) (behind : List SettleEntry)
      → entries ≡ before ++ entry ∷ behind → IsName entry → NobodyForgesAll before → ⊥
  finished : (before behind : List SettleEntry) → entries ≡ before ++ Settled ∷ behind
      → FinishedAt disks image before
  ports_rest : (before behind : List SettleEntry) → entries ≡ before ++ Settled ∷ behind
      → PortsRestAt disks nets image before behind v

-- and so those that are told
pub record Leads (disks : List DiskDecl) (nets : List NetShape) (image : ImageState) (entries : List SettleEntry) (v : DomainState) : Type 0 where
  pub real : List SettleEntry
  pub told_is : entries ≡ all_told real
  pub led : Run DomainStep (world_of disks nets image) real v
  pub ports_rest : (before behind : List SettleEntry) → real ≡ before ++ Settled ∷ behind
      → PortsRestAt disks nets image before behind v
  pub run : Run WorldStep (fresh_world (shapes_of 0 disks) image) entries v.first
  pub none_left : (before : List SettleEntry) (x : ℕ) (behind : List SettleEntry)
      → entries ≡ before ++ Unsettled x ∷ behind → NobodyForgesAll before → ⊥
  pub no_port_left : (before : List SettleEntry) (k : ℕ) (behind : List SettleEntry)
      → entries ≡ before ++ UnsettledPort k ∷ behind → NobodyForgesAll before → ⊥
  pub finished : (before behind : List SettleEntry) → entries ≡ before ++ Settled ∷ behind
      → FinishedAt disks image before

module _ (disks : List DiskDecl) (nets : List NetShape) (image : ImageState) where
  abbrev Start : DomainState
  Start = world_of disks nets image

  as_told : (entries : List SettleEntry) (v : DomainState) → LeadsTo disks nets image entries v
      → Leads disks nets image (all_told entries) v
  as_told entries v leads = record {
    real = entries;
    told_is = refl;
    led = leads.run;
    ports_rest = leads.ports_rest;
    run = told_run Start.first entries v.first (disks_run Start entries v leads.run);
    none_left = λ before x behind is none.
        let at : Untold entries before (Unsettled x) behind = untold entries before (Unsettled x) behind is in
        leads.none_left at.past (Unsettled x) at.rest
        (at.is ∙ ap (λ (e : SettleEntry). at.past ++ e ∷ at.rest) (real_unsettled x at.real at.real_is)) tt
        (told_forged_all at.past (subst NobodyForgesAll at.past_is none));
    no_port_left = λ before k behind is none.
        let at : Untold entries before (UnsettledPort k) behind = untold entries before (UnsettledPort k) behind is in
        leads.none_left at.past (UnsettledPort k) at.rest
        (at.is ∙ ap (λ (e : SettleEntry). at.past ++ e ∷ at.rest) (real_unsettled_port k at.real at.real_is)) tt
        (told_forged_all at.past (subst NobodyForgesAll at.past_is none));
    finished = λ before behind is.
        let at : Untold entries before Settled behind = untold entries before Settled behind is in
        subst (FinishedAt disks image) (sym at.past_is)
        (told_finished disks image at.past
        (leads.finished at.past at.rest
        (at.is ∙ ap (λ (e : SettleEntry). at.past ++ e ∷ at.rest) (real_settled at.real at.real_is))));
  }

  module _ (are : AreLanes disks nets) where
    -- WHOLE LINES
    whole_lead : (lines : List (world.Line × List SettleEntry)) (v : DomainState)
        → Run world.LineStep Start lines v → LeadsTo disks nets image (world.entries_of_lines lines) v
    whole_lead lines v run = record {
      run = lines_run Start lines v run;
      none_left = none_over disks nets image are lines v run;
      finished = finished_at disks nets image are lines v run;
      ports_rest = ports_rest_at disks nets image are lines v run;
    }

    lines_lead : (lines : List (Event × List Entry)) (v : DomainState) → Run EventStep Start lines v
        → Leads disks nets image (told lines) v
    lines_lead lines v run = grind (arith, as_lines, as_told, whole_lead)

    -- A FRONT OF ONE MORE doesn't say that all is settled; and where nobody forged a lane it names none
    module _ (lines : List (world.Line × List SettleEntry)) (w : DomainState) (line : world.Line)
        (part : List SettleEntry) (v : DomainState) (run : Run world.LineStep Start lines w)
        (begun : world.LineBegins w line part v) (before behind : List SettleEntry) where
      not_lane : (entry : SettleEntry) → IsName entry → IsOfLane entry → ⊥
      not_lane entry name of = grind arith

      cut_none : (entry : SettleEntry) → IsName entry → InEither (world.entries_of_lines lines) part before entry behind
          → NobodyForgesAll before → ⊥
      cut_none entry name (inl at) none = none_over disks nets image are lines w run before entry at.rest at.is name none
      cut_none entry name (inr at) none =
          let front : NobodyForgesAll (world.entries_of_lines lines) =
          any_front (world.entries_of_lines lines) at.later (subst NobodyForgesAll at.before_is none) in
          grind (arith, begins_lanes, reached_lines, unforged_lines, not_lane, each_in)

      cut_finished : InEither (world.entries_of_lines lines) part before Settled behind → FinishedAt disks image before
      cut_finished given = grind (arith, finished_at, each_in, begins_unsettled)

      cut_rest : InEither (world.entries_of_lines lines) part before Settled behind
          → PortsRestAt disks nets image before behind v
      cut_rest (inl at) =
          let rest : PortsRestAt disks nets image before at.rest w =
          ports_rest_at disks nets image are lines w run before at.rest at.is in
          record {
            at = rest.at;
            run = rest.run;
            on = subst (λ (l : List SettleEntry). Run DomainStep rest.at l v) at.others
                (run_append DomainStep rest.at w v at.rest part rest.on begun.run);
            rests = rest.rests;
          }
      cut_rest (inr at) = grind (arith, each_in, begins_unsettled)

    cut_lead : (lines : List (world.Line × List SettleEntry)) (w : DomainState) (line : world.Line)
        (part : List SettleEntry) (v : DomainState) → Run world.LineStep Start lines w
        → world.LineBegins w line part v → LeadsTo disks nets image (world.entries_of_lines lines ++ part) v
    cut_lead lines w line part v run begun = record {
      run = run_append DomainStep Start w v (world.entries_of_lines lines) part
          (lines_run Start lines w run) begun.run;
      none_left = λ before entry behind is name.
          cut_none lines w line part v run begun before behind entry name
          (place_in (world.entries_of_lines lines) part before entry behind is);
      finished = λ before behind is.
          cut_finished lines w line part v run begun before behind
          (place_in (world.entries_of_lines lines) part before Settled behind is);
      ports_rest = λ before behind is. grind (arith, cut_rest, place_in);
    }

    -- ALL LINES, of which the last may have been cut off
    module _ (whole : List (Event × List Entry)) (m : DomainState) (run : Run EventStep Start whole m) where
      lead_on : (cut : Option (Event × List Entry)) (v : DomainState) → LastStarts m cut v
          → Leads disks nets image (told (with_last whole cut)) v
      lead_on None v last =
          subst (λ (x : DomainState). Leads disks nets image (told whole) x) (sym last) (lines_lead whole m run)
      lead_on (Some line) v last =
          let real : AsLines Start whole m = as_lines Start whole m run in
          let past : List SettleEntry = world.entries_of_lines real.real in
          let is : told (whole ++ line ∷ []) ≡ all_told (past ++ last.entries) =
          cut_told whole line past last.entries real.told_is (says_told line last.entries last.says) in
          subst (λ (l : List SettleEntry). Leads disks nets image l v) (sym is)
          (as_told (past ++ last.entries) v (cut_lead real.real m (line_of line.0) last.entries v real.run last.begins))

    pub script_leads : (parts : ScriptParts) (v : DomainState) → FitsScript 0 Start parts v
        → Leads disks nets image (told (all_lines parts)) v
    script_leads parts v fits = lead_on parts.whole fits.middle fits.run parts.cut v fits.last
