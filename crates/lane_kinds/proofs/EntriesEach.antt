-- A condition on each entry of a settle's part, and of a front of it: over lanes of one kind, as many as they were, and over those of two kinds
-- beside each other.
use Rattle.std.proofs.Common.{◌≡◌, ℕ, ◌+◌, ◌<◌, ◌≤◌, Bool, true, false, List, [], ◌∷◌, ◌++◌, length, slice_get, Some, ◌∙◌, subst, arith, append-nil}
use Rattle.std.specs.Prelude.{if◌then◌else◌}
use Rattle.runs.specs.Run.{Run}
use Rattle.lane_kinds.proofs.LaneFronts.{front_each, fronts_lead, lanes_each, left_each, of_both, of_same, ticked_each, ticks_each}
use Rattle.lane_kinds.proofs.Moving.{lane_moved, lanes_lead, many_moved}
use Rattle.lane_kinds.specs.Both.{BothHold, Two, both, both_fronts}
use Rattle.lane_kinds.specs.Fronts.{Fronts}
use Rattle.lane_kinds.specs.LaneFronts.{fronts_of}
use Rattle.lane_kinds.specs.Lanes.{AllMove, EachOf, EachStep, Entries, IsSilent, LaneKind, Reads, happened, lanes_of, left_names, round_entries, tick_entries}
use Rattle.lane_kinds.specs.Laws.{AnswersLead, FrontsLead, Leads}
use Rattle.lane_kinds.specs.Rounds.{Rounds}

-- A FRONT of entries each of which has it
pub first_each : {E : Type 0} (P : E → Type 0) (one two : List E) → EachOf P (one ++ two) → EachOf P one
first_each P [] two each = tt
first_each P (x ∷ one) two each = (each.0, first_each P one two each.1)

-- an entry that is left where its step isn't silent
pub entry_has : {E : Type 0} (P : E → Type 0) (silent : Bool) (x : E) → P x → EachOf P (if silent then [] else x ∷ [])
entry_has P true x has = tt
entry_has P false x has = (has, tt)

-- OF LANES of which something stands: it stands behind these entries, each of which has it
abbrev pub HaveEach : {W E : Type 0} → (W → Type 0) → (E → Type 0) → W → List E → W → Type 0
HaveEach Stands P w part v = Stands w → EachOf P part × Stands v

module _ {W E : Type 0} (Stands : W → Type 0) (P : E → Type 0) where
  none_have : (w : W) → HaveEach Stands P w [] w
  none_have w at = (tt, at)

  both_have : (w m v : W) (one two : List E) → HaveEach Stands P w one m → HaveEach Stands P m two v → HaveEach Stands P w (one ++ two) v
  both_have w m v one two first second at = (of_both P one two (first at).0 (second (first at).1).0, (second (first at).1).1)

-- ONE KIND, so many lanes
module _ {S V E : Type 0} (P : E → Type 0) (K : LaneKind S V) (N : Entries V E) (n : ℕ) where
  abbrev AreMany : List S → Type 0
  AreMany lanes = length lanes ≡ n

  abbrev To : List S → List E → List S → Type 0
  To = HaveEach AreMany P

  module _ (said : ℕ → E → List V) (reads : Reads K N said) (silent : IsSilent K) where
    as_many : (lanes : List S) (part : List E) (behind : List S) → EachOf P part → AllMove K.Step said 0 lanes part behind → To lanes part behind
    as_many lanes part behind each moves long = (each, many_moved K.Step said 0 lanes part behind moves ∙ long)

    module _ (turn_steps : (events : List V) → K.IsTurn events → EachStep K events) (steps : (k : ℕ) (event : V) → K.IsStep event → P (N.of_lane k event))
        (ticks : (k : ℕ) (s : S) → P (N.of_lane k (K.tick s))) where
      all_move : Leads (lanes_of K N) (AllMove K.Step said 0)
      all_move = lanes_lead K N said reads silent

      pub lanes_have : Leads (lanes_of K N) To
      lanes_have = record {
        none = none_have AreMany P;
        both = both_have AreMany P;
        round = λ w r v made. as_many w (round_entries K N 0 r) v (lanes_each P K N turn_steps steps w r v made) (all_move.round w r v made);
        ticks = λ w m v made. as_many w (tick_entries K N 0 w m) v (ticks_each P K N ticks 0 w m) (all_move.ticks w m v made);
      }

      front_moves : FrontsLead (lanes_of K N) (fronts_of K N) (AllMove K.Step said 0)
      front_moves = fronts_lead K N said reads silent

      pub fronts_have : FrontsLead (lanes_of K N) (fronts_of K N) To
      fronts_have = record {
        round = λ w part v front. as_many w part v (front_each P K N turn_steps steps w part v front) (front_moves.round w part v front);
        ticks = λ w m part v front. as_many w part v (ticked_each P K N ticks 0 w m part v front) (front_moves.ticks w m part v front);
      }

  -- with names of these lanes, and the answer
  module _ (names : (k : ℕ) → k < n → P (N.left_over k)) (answer : P N.settled) where
    few : (many : ℕ) → many ≡ n → 0 + many ≤ n
    few many long = omega (arith, long)

    pub ends_have : AnswersLead (lanes_of K N) To
    ends_have = record {
      answer = λ w long. ((answer, tt), long);
      names = λ r w part more is long. (
        first_each P part more (of_same P (part ++ more) (left_names K N 0 r w) is (left_each P K N n names 0 r w (few (length w) long))),
        long,
      );
    }

-- TWO KINDS
module _ {W V M N R Q E : Type 0} (P : E → Type 0) (K : Rounds W M R E) (L : Rounds V N Q E) (Stands : W → Type 0) (Others : V → Type 0) where
  abbrev pub Both : Two W V → List E → Two W V → Type 0
  Both = HaveEach (BothHold Stands Others) P

  -- the one's entries, and behind them the other's
  two_have : (w v : Two W V) (one two : List E) → HaveEach Stands P w.first one v.first → HaveEach Others P w.second two v.second → Both w (one ++ two) v
  two_have w v one two first second given = grind (arith, of_both)

  module _ (first : Leads K (HaveEach Stands P)) (second : Leads L (HaveEach Others P)) where
    pub both_kinds : Leads (both K L) Both
    both_kinds = grind (arith, none_have, both_have, two_have)

    module _ (F : Fronts W M E) (G : Fronts V N E) (fronts : FrontsLead K F (HaveEach Stands P)) (others : FrontsLead L G (HaveEach Others P)) where
      pub both_fronts_have : FrontsLead (both K L) (both_fronts K F G) Both
      both_fronts_have = grind (arith, two_have)

  module _ (first : AnswersLead K (HaveEach Stands P)) (second : AnswersLead L (HaveEach Others P)) where
    pub both_ends_have : AnswersLead (both K L) Both
    both_ends_have = record {
      answer = λ w at. ((first.answer w.first at.of_first).0, at);
      names = λ r w part more is at. (
        first_each P part more (of_same P (part ++ more) (K.names r.first w.first ++ L.names r.second w.second) is
            (of_both P (K.names r.first w.first) (L.names r.second w.second)
            (first.names r.first w.first (K.names r.first w.first) [] (append-nil (K.names r.first w.first)) at.of_first).0
            (second.names r.second w.second (L.names r.second w.second) [] (append-nil (L.names r.second w.second)) at.of_second).0)),
        at,
      );
    }

-- WHAT HAPPENED to a lane has it where each entry says only such of it
pub said_each : {V E : Type 0} (said : ℕ → E → List V) (P : E → Type 0) (Has : V → Type 0) (j : ℕ) → ((x : E) → P x → EachOf Has (said j x)) → (part : List E) → EachOf P part
    → EachOf Has (happened said j part)
said_each said P Has j says [] each = tt
said_each said P Has j says (x ∷ part) each = of_both Has (said j x) (happened said j part) (says x each.0) (said_each said P Has j says part each.1)

-- and such events keep what stands of the lane
module _ {S V E : Type 0} (Step : S → V → S → Type 0) (said : ℕ → E → List V) (Has : V → Type 0) (Stands : S → Type 0)
    (keeps : (s : S) (event : V) (t : S) → Has event → Step s event t → Stands s → Stands t) where
  events_keep : (s : S) (events : List V) (t : S) → EachOf Has events → Run Step s events t → Stands s → Stands t
  events_keep s [] t each run at = subst Stands run at
  events_keep s (event ∷ events) t each run at = events_keep run.0 events t each.1 run.2 (keeps s event run.0 each.0 run.1 at)

  own_place : (k : ℕ) → k ≡ 0 + k
  own_place k = omega (arith)

  pub lane_keeps : (k : ℕ) (lanes : List S) (part : List E) (behind : List S) (s t : S) → EachOf Has (happened said k part) → AllMove Step said 0 lanes part behind → slice_get lanes k ≡ Some s
      → slice_get behind k ≡ Some t → Stands s → Stands t
  lane_keeps k lanes part behind s t each moves there after at =
      events_keep s (happened said k part) t each (lane_moved Step said 0 k k lanes part behind s t (own_place k) moves there after) at

  pub lanes_keep : (j : ℕ) (lanes : List S) (part : List E) (behind : List S) → ((k : ℕ) → EachOf Has (happened said k part)) → AllMove Step said j lanes part behind → EachOf Stands lanes
      → EachOf Stands behind
  lanes_keep j (s ∷ lanes) part (t ∷ behind) each moves all = (events_keep s (happened said j part) t (each j) moves.0 all.0, lanes_keep (j + 1) lanes part behind each moves.1 all.1)
  lanes_keep j lanes part behind each moves all = grind arith
