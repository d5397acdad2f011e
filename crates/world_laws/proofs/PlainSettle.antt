-- A settle of a world whose one lane nobody disturbs completes what waits, as the plain list does.
use Rattle.std.proofs.Common.{◌≡◌, ℕ, ◌≤◌, Bool, true, false, Some, List, [], ◌∷◌, ◌++◌, inl, inr, refl, sym, ap, ◌∙◌, subst, arith, slice_get, slice_set, append-nil, append_assoc}
use Rattle.std.specs.Prelude.{◌&&◌, is_some}
use Rattle.runs.specs.Run.{Run}
use Rattle.vdisk_msg.specs.declared.request.Request.{Request}
use Rattle.lane_models.specs.ClientState.{is_finished, is_nothing}
use Rattle.lane_models.specs.DiskEvent.{DiskEvent}
use Rattle.lane_models.specs.LaneState.{LaneState, Shape}
use Rattle.world_laws.proofs.Falling.{ends_settled}
use Rattle.world_laws.proofs.SettledLanes.{settled_lanes}
use Rattle.world_laws.specs.Ended.{LanesEnd}
use Rattle.world_laws.specs.Settle.{OfLane, SettleEntry, SettlePart, Settled, Settles}
use Rattle.world_laws.specs.World.{LaneMoves, OneMoves, WorldState, WorldStep}
use Rattle.world_laws.proofs.NoFaults.{part_before}
use Rattle.world_laws.proofs.OneStep.{Over, one_step}
use Rattle.world_laws.proofs.OwnSteps.{AreOwn, IsWhole, OwnPart, settle_own}
use Rattle.world_laws.proofs.Regions.{IsFirstShape}
use Rattle.world_laws.proofs.Undisturbed.{Stands, reached, rested_image}
use Rattle.world_laws.specs.Plain.{Plain, complete, complete_all, completion, completions}
use Rattle.world_laws.specs.Shown.{is_shown, shown, shown_if}

-- A WORLD OF ONE LANE, with the plain list beside it
pub record Beside (shape : Shape) (p : Plain) (w : WorldState) : Type 0 where
  pub lane : LaneState
  pub lanes : w.lanes ≡ lane ∷ []
  pub over : Over shape p lane w.image

-- after a line moreover the image has the content
pub record RestsAt (shape : Shape) (p : Plain) (w : WorldState) : Type 0 where
  pub beside : Beside shape p w
  pub told : w.image.told ≡ Some p.content

-- THE ONE LANE moves
pub record LaneOne (s : LaneState) (w : WorldState) (event : DiskEvent) (v : WorldState) : Type 0 where
  pub behind : LaneState
  pub lanes : v.lanes ≡ behind ∷ []
  pub moves : LaneMoves s w.image event behind v.image

only_lane : (s lane : LaneState) → slice_get (s ∷ []) 0 ≡ Some lane → lane ≡ s
only_lane s lane is = cc is

pub lane_one : (s : LaneState) (w : WorldState) (k : ℕ) (event : DiskEvent) (v : WorldState) → w.lanes ≡ s ∷ [] → k ≡ 0 → OneMoves w k event v → LaneOne s w event v
lane_one s w k event v lanes zeroth one =
    let there : slice_get (s ∷ []) 0 ≡ Some one.lane =
    sym (ap (λ (l : List LaneState). slice_get l 0) lanes) ∙ sym (ap (slice_get w.lanes) zeroth) ∙ one.there in
    record {
      behind = one.after;
      lanes = one.lanes ∙ ap (λ (l : List LaneState). slice_set l k one.after) lanes ∙ ap (λ (n : ℕ). slice_set (s ∷ []) n one.after) zeroth;
      moves = subst (λ (x : LaneState). LaneMoves x w.image event one.after v.image) (only_lane s one.lane there) one.moves;
    }

-- STEPS of the ends, one after another: what they complete, the plain list has to complete
pub record Reaches (shape : Shape) (p : Plain) (steps : List SettleEntry) (v : WorldState) : Type 0 where
  pub plain : Plain
  pub beside : Beside shape plain v
  pub shows : shown steps ++ completions plain plain.waiting ≡ completions p p.waiting
  pub ends : complete_all plain plain.waiting ≡ complete_all p p.waiting

reached_none : (shape : Shape) (p : Plain) (w : WorldState) → Beside shape p w → Reaches shape p [] w
reached_none shape p w beside = record { plain = p; beside = beside; shows = refl; ends = refl }

-- a hidden entry in front
reached_quietly : (shape : Shape) (p : Plain) (x : SettleEntry) (steps : List SettleEntry) (v : WorldState) → is_shown x ≡ false → Reaches shape p steps v → Reaches shape p (x ∷ steps) v
reached_quietly shape p x steps v hidden rest = grind arith

-- a completion in front
reached_done : (shape : Shape) (p : Plain) (request : Request) (behind : List Request) (x : SettleEntry) (steps : List SettleEntry) (v : WorldState) → p.waiting ≡ request ∷ behind
    → x ≡ completion p request → Reaches shape (complete p request behind) steps v → Reaches shape p (x ∷ steps) v
reached_done shape p request behind x steps v front is rest = grind arith

own_steps : (shape : Shape) (p : Plain) (w : WorldState) (steps : List SettleEntry) (v : WorldState) → IsFirstShape shape → Beside shape p w → AreOwn steps → Run WorldStep w steps v
    → v.image.faults ≡ 0 → Reaches shape p steps v
own_steps shape p w [] v front beside own run well = subst (Reaches shape p []) run (reached_none shape p w beside)
own_steps shape p w (OfLane k event ∷ steps) v front beside own run well =
    let one : LaneOne beside.lane w event run.0 = lane_one beside.lane w k event run.0 beside.lanes own.0.number run.1 in
    let still : run.0.image.faults ≡ 0 = part_before run.0 steps v run.2 well in
    let lanes : run.0.lanes ≡ one.behind ∷ [] = one.lanes in
    let entry : OfLane k event ≡ OfLane 0 event = ap (λ (n : ℕ). OfLane n event) own.0.number in
    elim (one_step shape p beside.lane own.0.side event one.behind w.image run.0.image front beside.over own.0.own one.moves still) [
      | inl quiet ↦
          let next : Beside shape p run.0 = record { lane = one.behind; lanes = lanes; over = record { store = quiet.store; told = quiet.told; stands = quiet.stands } } in
          reached_quietly shape p (OfLane k event) steps v (ap is_shown entry ∙ quiet.hidden) (own_steps shape p run.0 steps v front next own.1 run.2 well)
      | inr done ↦
          let after : Plain = complete p done.request done.behind in
          let next : Beside shape after run.0 = record { lane = one.behind; lanes = lanes; over = record { store = done.store; told = done.told; stands = done.stands } } in
          reached_done shape p done.request done.behind (OfLane k event) steps v done.front (entry ∙ done.is) (own_steps shape after run.0 steps v front next own.1 run.2 well)
    ]
own_steps shape p w (x ∷ steps) v front beside own run well = absurd own.0

-- BEHIND THE SETTLE the lane is finished: nothing waits
nothing_waits : (there : Bool) (pending : List Request) → (there && is_nothing pending) ≡ true → pending ≡ []
nothing_waits true [] is = refl
nothing_waits true (request ∷ pending) is = absurd (cc is)
nothing_waits false pending is = absurd (cc is)

shown_append : (one two : List SettleEntry) → shown (one ++ two) ≡ shown one ++ shown two
shown_append [] two = refl
shown_append (x ∷ one) two =
    ap (λ (xs : List SettleEntry). shown_if (is_shown x) x ++ xs) (shown_append one two) ∙ sym (append_assoc (shown_if (is_shown x) x) (shown one) (shown two))

is_whole : (shape : Shape) (p : Plain) (s : LaneState) (store : List ℕ) → IsFirstShape shape → Stands shape p s store → IsWhole s
is_whole shape p s store front stands =
    let at = stands.lane in
    record { reached = reached shape p.completed s front.sound at; unforged = at.unforged; whole = at.whole; runs = at.runs }

-- A PART that shows this, and leads to this plain list
pub record PartIsPlain (shape : Shape) (journal : List SettleEntry) (q : Plain) (part : List SettleEntry) (v : WorldState) : Type 0 where
  pub shows : shown part ≡ journal
  pub rests : RestsAt shape q v

abbrev pub SettleIsPlain : Shape → Plain → List SettleEntry → WorldState → Type 0
SettleIsPlain shape p part v = PartIsPlain shape (completions p p.waiting ++ Settled ∷ []) (complete_all p p.waiting) part v

-- what is reached where nothing waits any more
settled_plain : (shape : Shape) (p : Plain) (steps : List SettleEntry) (part : List SettleEntry) (v : WorldState) → IsFirstShape shape → part ≡ steps ++ Settled ∷ [] → (all : Reaches shape p steps v)
    → all.plain.waiting ≡ [] → SettleIsPlain shape p part v
settled_plain shape p steps part v front is all none = grind (arith, append-nil, rested_image, shown_append)

-- the answer of a settle changes nothing
before_answer : (w : WorldState) (steps : List SettleEntry) (v : WorldState) → Run WorldStep w (steps ++ Settled ∷ []) v → Run WorldStep w steps v
before_answer w [] v run = sym run.1 ∙ run.2
before_answer w (x ∷ steps) v run = (run.0, run.1, before_answer run.0 steps v run.2)

settle_moves : (shape : Shape) (p : Plain) (w : WorldState) (part : List SettleEntry) (v : WorldState) → IsFirstShape shape → (beside : Beside shape p w)
    → Settles (beside.lane ∷ []) part v.lanes → Run WorldStep w part v → v.image.faults ≡ 0 → SettleIsPlain shape p part v
settle_moves shape p w part v front beside settles run well =
    let whole = is_whole shape p beside.lane beside.over.store front beside.over.stands in
    let own : OwnPart part = settle_own beside.lane part v.lanes whole settles in
    let front_run : Run WorldStep w own.steps v = before_answer w own.steps v (subst (λ (xs : List SettleEntry). Run WorldStep w xs v) own.is run) in
    let all : Reaches shape p own.steps v = own_steps shape p w own.steps v front beside own.own front_run well in
    let ends : LanesEnd 0 part v.lanes = settled_lanes (beside.lane ∷ []) part v.lanes (whole.reached, tt) settles in
    let here : LanesEnd 0 part (all.beside.lane ∷ []) = subst (LanesEnd 0 part) all.beside.lanes ends in
    let stands = all.beside.over.stands in
    let finished : is_finished all.beside.lane.client ≡ true = here.0.finished stands.lane.unforged stands.lane.runs in
    let none : all.beside.lane.client.pending ≡ [] = nothing_waits (is_some all.beside.lane.client.session) all.beside.lane.client.pending finished in
    settled_plain shape p own.steps part v front own.is all (sym stands.waiting ∙ none)

one_few : 1 ≤ 8
one_few = omega (arith)

pub settle_plain : (shape : Shape) (p : Plain) (w : WorldState) (part : List SettleEntry) (v : WorldState) → IsFirstShape shape → RestsAt shape p w → SettlePart w.lanes part v.lanes
    → Run WorldStep w part v → v.image.faults ≡ 0 → SettleIsPlain shape p part v
settle_plain shape p w part v front rests settles run well =
    let beside = rests.beside in
    let whole = is_whole shape p beside.lane beside.over.store front beside.over.stands in
    let settle : SettlePart (beside.lane ∷ []) part v.lanes = subst (λ (l : List LaneState). SettlePart l part v.lanes) beside.lanes settles in
    settle_moves shape p w part v front beside (ends_settled (beside.lane ∷ []) part v.lanes (whole.reached, tt) (whole.unforged, tt) one_few settle) run well
