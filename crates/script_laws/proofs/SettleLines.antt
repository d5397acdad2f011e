-- Each settle of a script's lines begins where the lines before it led, also the one that want of memory cut off.
use Rattle.std.proofs.Common.{◌≡◌, ◌⊎◌, inl, inr, Option, Some, None, List, [], ◌∷◌, ◌++◌, refl, sym, ap, ◌∙◌, subst, append-nil, arith}
use Rattle.runs.specs.Run.{Run, run_split}
use Rattle.disk_law.specs.ListState.{ImageState}
use Rattle.domain_script.specs.declared.event.DiskDecl.{DiskDecl}
use Rattle.domain_script.specs.declared.event.Event.{Event}
use Rattle.domain_script.specs.declared.event.Event.TheVariants.{Settle}
use Rattle.lane_kinds.specs.Fronts.{SettleFront}
use Rattle.lane_kinds.specs.Settles.{SettlePart}
use Rattle.world_parts.specs.lane_models.NetLaneState.{NetShape}
use Rattle.world_parts.specs.world_laws.Settle.{SettleEntry}
use Rattle.world_parts.proofs.domain_laws.ScriptEntries.{cut_run, lines_run}
use Rattle.world_parts.specs.domain_laws.Domain.{DomainState, DomainStep, Lanes, lanes, lanes_in}
use Rattle.world_parts.specs.domain_laws.Lines.{entries_of_lines, fronts}
use Rattle.ldom_entries.specs.declared.entry.Entry.{Entry}
use Rattle.script_laws.proofs.LineEntries.{settle_rules}
use Rattle.script_laws.proofs.Places.{InEither, no_place, place_in}
use Rattle.script_laws.proofs.DeclaredWorlds.{AsLines, as_lines, cut_told, says_told}
use Rattle.script_laws.proofs.Untold.{all_told}
use Rattle.script_laws.specs.Settled.{KeepsRules, LeadsOn}
use Rattle.script_laws.specs.Told.{told_by}
use Rattle.world_parts.specs.Declared.{world_of}
use Rattle.world_parts.specs.Lines.{LineStarts, EventStep, line_of}
use Rattle.world_parts.specs.Script.{FitsScript, LastStarts, ScriptParts, all_lines, with_last}

-- A SETTLE after these lines: its part as it is told, or a front of it
pub record SettlesBehind (disks : List DiskDecl) (nets : List NetShape) (image : ImageState) (before : List (Event × List Entry))
    (part : List SettleEntry) : Type 0 where
  pub at : DomainState
  pub run : Run EventStep (world_of disks nets image) before at
  pub behind : Lanes
  pub real : List SettleEntry
  pub told_is : part ≡ all_told real
  pub goes : SettlePart lanes (lanes_in at) real behind ⊎ SettleFront lanes fronts (lanes_in at) real behind
  -- where it led
  pub next : DomainState
  pub on : Run DomainStep at real next

-- so each of these lines that settles
abbrev pub EachSettles : List DiskDecl → List NetShape → ImageState → List (Event × List Entry) → Type 0
EachSettles disks nets image lines =
    (before : List (Event × List Entry)) (part : List Entry) (behind : List (Event × List Entry))
    → lines ≡ before ++ (Settle, part) ∷ behind → SettlesBehind disks nets image before (told_by (Settle, part))

-- and it and the lines behind it lead to the last state
pub record SettlesOn (disks : List DiskDecl) (nets : List NetShape) (image : ImageState)
    (before : List (Event × List Entry)) (part : List Entry) (behind : List (Event × List Entry)) (v : DomainState) : Type 0 where
  pub of : SettlesBehind disks nets image before (told_by (Settle, part))
  pub leads : LeadsOn of.at ((Settle, part) ∷ behind) v

abbrev pub EachLeads : List DiskDecl → List NetShape → ImageState → List (Event × List Entry) → DomainState → Type 0
EachLeads disks nets image lines v =
    (before : List (Event × List Entry)) (part : List Entry) (behind : List (Event × List Entry))
    → lines ≡ before ++ (Settle, part) ∷ behind → SettlesOn disks nets image before part behind v

-- a whole one, by the step of its line; and each of whole parts is one
pub record WholeSettle (disks : List DiskDecl) (nets : List NetShape) (image : ImageState)
    (before : List (Event × List Entry)) (part : List Entry) : Type 0 where
  pub at : DomainState
  pub run : Run EventStep (world_of disks nets image) before at
  pub next : DomainState
  pub step : EventStep at (Settle, part) next

abbrev pub settles_whole : (disks : List DiskDecl) (nets : List NetShape) (image : ImageState)
    (before : List (Event × List Entry)) (part : List Entry) → WholeSettle disks nets image before part
    → SettlesBehind disks nets image before (told_by (Settle, part))
settles_whole disks nets image before part of = record {
  at = of.at;
  run = of.run;
  behind = lanes_in of.next;
  real = of.step.entries;
  told_is = says_told (Settle, part) of.step.entries of.step.says;
  goes = inl of.step.moves.part_of;
  next = of.next;
  on = of.step.moves.run;
}

abbrev pub EachWhole : List DiskDecl → List NetShape → ImageState → List (Event × List Entry) → Type 0
EachWhole disks nets image lines =
    (before : List (Event × List Entry)) (part : List Entry) (behind : List (Event × List Entry))
    → lines ≡ before ++ (Settle, part) ∷ behind → WholeSettle disks nets image before part

-- with what the lines behind it lead to
record WholeOn (disks : List DiskDecl) (nets : List NetShape) (image : ImageState) (before : List (Event × List Entry))
    (part : List Entry) (behind : List (Event × List Entry)) (v : DomainState) : Type 0 where
  whole : WholeSettle disks nets image before part
  on : Run EventStep whole.next behind v

whole_on : (disks : List DiskDecl) (nets : List NetShape) (image : ImageState) (lines : List (Event × List Entry))
    (v : DomainState) → Run EventStep (world_of disks nets image) lines v → (before : List (Event × List Entry))
    (part : List Entry) (behind : List (Event × List Entry)) → lines ≡ before ++ (Settle, part) ∷ behind
    → WholeOn disks nets image before part behind v
whole_on disks nets image lines v run before part behind is =
    let start : DomainState = world_of disks nets image in
    let whole : Run EventStep start (before ++ (Settle, part) ∷ behind) v =
    subst (λ (l : List (Event × List Entry)). Run EventStep start l v) is run in
    let split = run_split EventStep start v before ((Settle, part) ∷ behind) whole in
    record {
      whole = record { at = split.0; run = split.1; next = split.2.0; step = split.2.1 };
      on = split.2.2;
    }

pub each_whole : (disks : List DiskDecl) (nets : List NetShape) (image : ImageState) (lines : List (Event × List Entry))
    (v : DomainState) → Run EventStep (world_of disks nets image) lines v → EachWhole disks nets image lines
each_whole disks nets image lines v run before part behind is =
    (whole_on disks nets image lines v run before part behind is).whole

-- FROM WHERE IT BEGAN these lines lead on
lines_on : (w : DomainState) (lines : List (Event × List Entry)) (v : DomainState) → Run EventStep w lines v
    → LeadsOn w lines v
lines_on w lines v run = grind (arith, as_lines, lines_run)

cut_on : (w : DomainState) (lines : List (Event × List Entry)) (m : DomainState) (last : Event × List Entry)
    (v : DomainState) → Run EventStep w lines m → LineStarts m last v → LeadsOn w (lines ++ last ∷ []) v
cut_on w lines m last v run starts =
    let real : AsLines w lines m = as_lines w lines m run in
    let past : List SettleEntry = entries_of_lines real.real in
    record {
      later = past ++ starts.entries;
      told_is = cut_told lines last past starts.entries real.told_is (says_told last starts.entries starts.says);
      run = cut_run w real.real m (line_of last.0) starts.entries v real.run starts.begins;
    }

-- THE LAST OF THEM, cut off
only_one : {X : Type 0} (x : X) (later : List X) (y : X) (behind : List X) → x ∷ [] ≡ later ++ y ∷ behind
    → (later ≡ []) × (x ≡ y) × (behind ≡ [])
only_one {X} x [] y behind is = (refl, cc is, cc is)
only_one {X} x (z ∷ later) y behind is = grind (arith, no_place)

module _ (disks : List DiskDecl) (nets : List NetShape) (image : ImageState) (whole : List (Event × List Entry)) (m : DomainState)
    (run : Run EventStep (world_of disks nets image) whole m) where
  module _ (last : Event × List Entry) (v : DomainState) (starts : LineStarts m last v)
      (before : List (Event × List Entry)) (part : List Entry) (behind : List (Event × List Entry)) where
    cut_at : InEither whole (last ∷ []) before (Settle, part) behind
        → SettlesOn disks nets image before part behind v
    cut_at (inl at) =
        let one : WholeOn disks nets image before part at.rest m =
        whole_on disks nets image whole m run before part at.rest at.is in
        let start : DomainState = one.whole.at in
        record {
          of = settles_whole disks nets image before part one.whole;
          leads = subst (λ (l : List (Event × List Entry)). LeadsOn start ((Settle, part) ∷ l) v) at.others
              (cut_on start ((Settle, part) ∷ at.rest) m last v (one.whole.next, one.whole.step, one.on) starts);
        }
    cut_at (inr at) =
        let one = only_one last at.later (Settle, part) behind at.is in
        let settle : LineStarts m (Settle, part) v =
        subst (λ (line : Event × List Entry). LineStarts m line v) one.1 starts in
        let is : whole ≡ before =
        sym (append-nil whole) ∙ ap (λ (l : List (Event × List Entry)). whole ++ l) (sym one.0) ∙ sym at.before_is in
        record {
          of = record {
            at = m;
            run = subst (λ (l : List (Event × List Entry)). Run EventStep (world_of disks nets image) l m) is run;
            behind = lanes_in v;
            real = settle.entries;
            told_is = says_told (Settle, part) settle.entries settle.says;
            goes = inr settle.begins.begins;
            next = v;
            on = settle.begins.run;
          };
          leads = subst (λ (l : List (Event × List Entry)). LeadsOn m ((Settle, part) ∷ l) v) (sym one.2)
              (cut_on m [] m (Settle, part) v refl settle);
        }

  settles_on : (cut : Option (Event × List Entry)) (v : DomainState) → LastStarts m cut v
      → EachLeads disks nets image (with_last whole cut) v
  settles_on None v last before part behind is =
      let one : WholeOn disks nets image before part behind m =
      whole_on disks nets image whole m run before part behind is in
      record {
        of = settles_whole disks nets image before part one.whole;
        leads = grind (arith, whole_on, lines_on);
      }
  settles_on (Some line) v last before part behind is =
      cut_at line v last before part behind (place_in whole (line ∷ []) before (Settle, part) behind is)

pub script_settles : (disks : List DiskDecl) (nets : List NetShape) (image : ImageState) (parts : ScriptParts) (v : DomainState)
    → FitsScript 0 (world_of disks nets image) parts v → EachLeads disks nets image (all_lines parts) v
script_settles disks nets image parts v fits =
    settles_on disks nets image parts.whole fits.middle fits.run parts.cut v fits.last

-- BY ITS RULES
pub rules_at : (disks : List DiskDecl) (nets : List NetShape) (image : ImageState) (before : List (Event × List Entry))
    (part : List SettleEntry) → SettlesBehind disks nets image before part → KeepsRules part
rules_at disks nets image before part of =
    subst KeepsRules (sym of.told_is) (settle_rules (lanes_in of.at) of.real of.behind of.goes)
