-- Requests on a plain list complete once and in order, and each is admitted by what is pending.
use Rattle.std.proofs.Common.{◌≡◌, ℕ, List, [], ◌∷◌, ◌++◌, length, refl, sym, ◌∙◌, ap, subst, arith, Some, None, slice_get}
use Rattle.vdisk_msg.specs.declared.request.Request.{Request}
use Rattle.runs.specs.Run.{Run, run_split}
use Rattle.disk_law.specs.Requests.{defect}
use Rattle.disk_law.specs.ListState.{ListState, fresh}
use Rattle.disk_law.specs.ListStep.{ListEvent, Accepted, Full, Refused, Done, Rested, ListStep}
use Rattle.disk_law.specs.Issued.{CompletesOnceInOrder, Admits, Admission}
use Rattle.disk_law.proofs.Counted.{Counted, counted_run, counted_fresh, counted_pending, counted_next}

-- the state before an event of a run from the beginning, and the event's step
pub record Before (blocks ring : ℕ) (before : List ListEvent) (e : ListEvent) : Type 0 where
  pub state : ListState
  pub counted : Counted blocks ring before state
  pub next : ListState
  pub step : ListStep state e next

pub before_event : (first blocks ring : ℕ) (t : ListState) (es before after : List ListEvent) (e : ListEvent) → Run ListStep (fresh first blocks ring) es t → es ≡ before ++ e ∷ after → Before blocks ring before e
before_event first blocks ring t es before after e run is =
    let start = fresh first blocks ring in
    let halves = run_split ListStep start t before (e ∷ after) (subst (λ (l : List ListEvent). Run ListStep start l t) is run) in
    record {
      state = halves.0;
      counted = counted_run blocks ring [] before start halves.0 (counted_fresh first blocks ring) halves.1;
      next = halves.2.0;
      step = halves.2.1;
    }

get_behind : (xs ys : List Request) (x : Request) (n : ℕ) → length xs ≡ n → slice_get (xs ++ x ∷ ys) n ≡ Some x
get_behind [] ys x n is = subst (λ (k : ℕ). slice_get (x ∷ ys) k ≡ Some x) is refl
get_behind (y ∷ xs) ys x n is = subst (λ (k : ℕ). slice_get (y ∷ xs ++ x ∷ ys) k ≡ Some x) is (get_behind xs ys x (length xs) refl)

pub once_in_order : (first blocks ring : ℕ) (t : ListState) (es : List ListEvent) → Run ListStep (fresh first blocks ring) es t → CompletesOnceInOrder es
once_in_order first blocks ring t es run before after id operation status bytes is =
    let b = before_event first blocks ring t es before after (Done id operation status bytes) run is in
    record {
      next = b.step.id_is ∙ sym b.counted.counts;
      request = b.step.request;
      accepted_before = ap (λ (l : List Request). slice_get l id) (b.counted.split ∙ ap (λ (l : List Request). b.counted.finished ++ l) b.step.front)
          ∙ get_behind b.counted.finished b.next.pending b.step.request id (b.counted.long ∙ sym b.step.id_is);
      operation_is = b.step.operation_is;
    }

admits : (blocks ring : ℕ) (before : List ListEvent) (e : ListEvent) → Before blocks ring before e → Admits blocks ring before e
admits blocks ring before (Accepted id request) b = (
  subst (λ (n : ℕ). defect n request ≡ None) b.counted.blocks_are b.step.0,
  omega (arith, counted_pending blocks ring before b.state b.counted, b.step.1, b.counted.ring_is),
  b.step.2 ∙ sym (counted_next blocks ring before b.state b.counted),
)
admits blocks ring before (Full request) b = (
  subst (λ (n : ℕ). defect n request ≡ None) b.counted.blocks_are b.step.0,
  counted_pending blocks ring before b.state b.counted ∙ b.step.1 ∙ b.counted.ring_is,
)
admits blocks ring before (Refused why request) b = subst (λ (n : ℕ). defect n request ≡ Some why) b.counted.blocks_are b.step.0
admits blocks ring before (Done id operation status bytes) b = tt
admits blocks ring before Rested b = tt

pub admission : (first blocks ring : ℕ) (t : ListState) (es : List ListEvent) → Run ListStep (fresh first blocks ring) es t → Admission blocks ring es
admission first blocks ring t es run before after e is = admits blocks ring before e (before_event first blocks ring t es before after e run is)
