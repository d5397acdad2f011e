-- The part of a settle leads to where its rounds and ticks led; and so does a front of it.
use Rattle.std.proofs.Common.{◌≡◌, ◌<◌, ◌⊎◌, ℕ, inl, inr, Bool, List, [], ◌∷◌, ◌++◌, length, sym, subst, arith, append-nil}
use Rattle.std.specs.Prelude.{⊤}
use Rattle.runs.specs.Run.{Run}
use Rattle.lane_kinds.proofs.Standing.{goes_on, rounds_stand}
use Rattle.lane_kinds.specs.Fronts.{Fronts, NamesFront, QuietFront, SettleFront}
use Rattle.lane_kinds.specs.Laws.{AnswersLead, FrontsLead, FrontsLeadWhere, Leads, LeadsWhere}
use Rattle.lane_kinds.specs.Rounds.{Rounds}
use Rattle.lane_kinds.specs.Settles.{GoesOn, RunsOut, SettlePart, SettleRound, Settles, Settling, TicksBehind, begin, entries_of_rounds, most_rounds}

not_all : (made most : ℕ) → made < most → made ≡ most → ⊥
not_all made most less all = omega (arith, less, all)

-- OF LANES of which something stands
module _ {W M R E : Type 0} (K : Rounds W M R E) (Stands : W → M → Type 0) (To : W → List E → W → Type 0) (laws : LeadsWhere K Stands To) where
  behind_leads : (quiet : Bool) (w : Settling W M) (steps : R) (between : W) (entries : List E) (v : Settling W M) → Stands w.lanes w.marks → K.Makes w.lanes steps between → K.quiet steps ≡ quiet
      → TicksBehind K quiet w steps between entries v → To w.lanes entries v.lanes
  behind_leads quiet w steps between entries v given made loud behind = grind arith

  stand_lead : (w : Settling W M) (rounds : List (SettleRound R E)) (v : Settling W M) → Stands w.lanes w.marks → Run (GoesOn K) w rounds v → To w.lanes (entries_of_rounds rounds) v.lanes
  stand_lead w [] v at run = subst (λ (x : Settling W M). To w.lanes [] x.lanes) run (laws.none w.lanes)
  stand_lead w (round ∷ rounds) v at run = grind (arith, behind_leads, goes_on, stand_lead run.0 rounds v (goes_on K Stands laws.keeps w round run.0 run.1 at) run.2)

  -- a settle that ends settled, before its answer and with it
  pub before_answer : (start : W) (part : List E) (behind : W) → Stands start (K.unmarked start) → (at : Settles K start part behind) → To start (entries_of_rounds at.rounds ++ K.leaves at.steps) behind
  before_answer start part behind stands at =
      laws.both start at.now.lanes behind (entries_of_rounds at.rounds) (K.leaves at.steps) (stand_lead (begin K start) at.rounds at.now stands at.run)
      (laws.round at.now.lanes at.now.marks at.steps behind (rounds_stand K Stands laws.keeps (begin K start) at.rounds at.now at.run stands) at.last.made)

  pub settles_lead : ((w : W) → To w (K.settled ∷ []) w) → (start : W) (part : List E) (behind : W) → Stands start (K.unmarked start) → Settles K start part behind → To start part behind
  settles_lead answer start part behind stands at =
      subst (λ (l : List E). To start l behind) (sym at.is)
      (laws.both start behind behind (entries_of_rounds at.rounds ++ K.leaves at.steps) (K.settled ∷ []) (before_answer start part behind stands at) (answer behind))

  out_leads : AnswersLead K To → (start : W) (part : List E) (behind : W) → Stands start (K.unmarked start) → RunsOut K start part behind → To start part behind
  out_leads ends start part behind stands out =
      subst (λ (l : List E). To start l behind) (sym out.is)
      (laws.both start behind behind (entries_of_rounds (out.rounds ++ out.last ∷ [])) (K.names out.last.steps behind)
      (subst (To start (entries_of_rounds (out.rounds ++ out.last ∷ []))) (sym out.lanes) (stand_lead (begin K start) (out.rounds ++ out.last ∷ []) out.now stands out.run))
      (ends.names out.last.steps behind (K.names out.last.steps behind) [] (append-nil (K.names out.last.steps behind))))

  pub part_stands : AnswersLead K To → (start : W) (part : List E) (behind : W) → Stands start (K.unmarked start) → SettlePart K start part behind → To start part behind
  part_stands ends start part behind stands (inl at) = settles_lead ends.answer start part behind stands at
  part_stands ends start part behind stands (inr out) = out_leads ends start part behind stands out

  -- A FRONT, by where names lead
  module _ (F : Fronts W M E) (fronts : FrontsLeadWhere K F Stands To) where
    later_leads : (rounds : List (SettleRound R E)) (now : Settling W M) (most many : ℕ) (later : List E) (behind : W) → Stands now.lanes now.marks
        → (many ≡ most → NamesFront K rounds now later behind → To now.lanes later behind)
        → ((many < most) × (F.OfRound now.lanes later behind ⊎ QuietFront K F now later behind)) ⊎ ((many ≡ most) × NamesFront K rounds now later behind) → To now.lanes later behind
    later_leads rounds now most many later behind given named also = grind arith

    front_by : (start : W) (part : List E) (behind : W) → Stands start (K.unmarked start) → (at : SettleFront K F start part behind)
        → (length at.rounds ≡ most_rounds K start → NamesFront K at.rounds at.now at.later behind → To at.now.lanes at.later behind) → To start part behind
    front_by start part behind stands at named =
        subst (λ (l : List E). To start l behind) (sym at.is)
        (laws.both start at.now.lanes behind (entries_of_rounds at.rounds) at.later (stand_lead (begin K start) at.rounds at.now stands at.run)
        (later_leads at.rounds at.now (most_rounds K start) (length at.rounds) at.later behind (rounds_stand K Stands laws.keeps (begin K start) at.rounds at.now at.run stands) named at.front))

    pub front_stands : AnswersLead K To → (start : W) (part : List E) (behind : W) → Stands start (K.unmarked start) → SettleFront K F start part behind → To start part behind
    front_stands ends start part behind stands given = grind (arith, front_by)

    -- of rounds that haven't run out
    pub few_stand : (start : W) (part : List E) (behind : W) → Stands start (K.unmarked start) → (at : SettleFront K F start part behind) → length at.rounds < most_rounds K start → To start part behind
    few_stand start part behind stands at few = grind (arith, front_by)

-- OF ALL LANES
module _ {W M R E : Type 0} (K : Rounds W M R E) (To : W → List E → W → Type 0) (laws : Leads K To) where
  abbrev Always : W → M → Type 0
  Always w m = ⊤

  always : LeadsWhere K Always To
  always = grind arith

  pub rounds_lead : (w : Settling W M) (rounds : List (SettleRound R E)) (v : Settling W M) → Run (GoesOn K) w rounds v → To w.lanes (entries_of_rounds rounds) v.lanes
  rounds_lead w rounds v run = stand_lead K Always To always w rounds v tt run

  pub steps_lead : (start : W) (part : List E) (behind : W) (at : Settles K start part behind) → To start (entries_of_rounds at.rounds ++ K.leaves at.steps) behind
  steps_lead start part behind at = before_answer K Always To always start part behind tt at

  pub part_leads : AnswersLead K To → (start : W) (part : List E) (behind : W) → SettlePart K start part behind → To start part behind
  part_leads ends start part behind settle = part_stands K Always To always ends start part behind tt settle

  module _ (F : Fronts W M E) (fronts : FrontsLead K F To) where
    fronts_always : FrontsLeadWhere K F Always To
    fronts_always = grind arith

    pub front_leads : AnswersLead K To → (start : W) (part : List E) (behind : W) → SettleFront K F start part behind → To start part behind
    front_leads ends start part behind at = front_stands K Always To always F fronts_always ends start part behind tt at

    pub few_lead : (start : W) (part : List E) (behind : W) (at : SettleFront K F start part behind) → length at.rounds < most_rounds K start → To start part behind
    few_lead start part behind at few = few_stand K Always To always F fronts_always start part behind tt at few
