-- What the lists of accepted and completed requests have to do with a disk's state.
use Rattle.std.proofs.Common.{◌≡◌, ℕ, ◌+◌, List, [], ◌∷◌, ◌++◌, length, refl, sym, ◌∙◌, ap, subst, arith, append_assoc, length-append}
use Rattle.std.proofs.lemmas.List.{append-nil}
use Rattle.vdisk_msg.specs.declared.request.Request.{Request}
use Rattle.runs.specs.Run.{Run}
use Rattle.disk_law.specs.ListState.{ListState, fresh}
use Rattle.disk_law.specs.ListStep.{ListEvent, Accepted, Full, Refused, Done, Rested, ListStep}
use Rattle.disk_law.specs.Issued.{issued, completed, pending_count}

pub issued-append : (es fs : List ListEvent) → issued (es ++ fs) ≡ issued es ++ issued fs
issued-append [] fs = refl
issued-append (Accepted id request ∷ es) fs = ap (λ (l : List Request). request ∷ l) (issued-append es fs)
issued-append (Full request ∷ es) fs = issued-append es fs
issued-append (Refused why request ∷ es) fs = issued-append es fs
issued-append (Done id operation status bytes ∷ es) fs = issued-append es fs
issued-append (Rested ∷ es) fs = issued-append es fs

pub completed-append : (es fs : List ListEvent) → completed (es ++ fs) ≡ completed es ++ completed fs
completed-append [] fs = refl
completed-append (Accepted id request ∷ es) fs = completed-append es fs
completed-append (Full request ∷ es) fs = completed-append es fs
completed-append (Refused why request ∷ es) fs = completed-append es fs
completed-append (Done id operation status bytes ∷ es) fs = ap (λ (l : List ℕ). id ∷ l) (completed-append es fs)
completed-append (Rested ∷ es) fs = completed-append es fs

-- after these events the disk is in this state: the accepted requests are the completed ones and the pending ones
pub record Counted (blocks ring : ℕ) (es : List ListEvent) (s : ListState) : Type 0 where
  pub blocks_are : s.blocks ≡ blocks
  pub ring_is : s.ring ≡ ring
  pub counts : length (completed es) ≡ s.done
  pub finished : List Request
  pub split : issued es ≡ finished ++ s.pending
  pub long : length finished ≡ s.done

-- where an event neither accepts nor completes
same : (blocks ring : ℕ) (es : List ListEvent) (e : ListEvent) (s t : ListState) → Counted blocks ring es s → issued (e ∷ []) ≡ [] → completed (e ∷ []) ≡ [] → t ≡ s → Counted blocks ring (es ++ e ∷ []) t
same blocks ring es e s t c none none_completed is = subst (λ (x : ListState). Counted blocks ring (es ++ e ∷ []) x) (sym is) (record {
  blocks_are = c.blocks_are;
  ring_is = c.ring_is;
  counts = ap length (completed-append es (e ∷ []) ∙ ap (λ (l : List ℕ). completed es ++ l) none_completed ∙ append-nil (completed es)) ∙ c.counts;
  finished = c.finished;
  split = issued-append es (e ∷ []) ∙ ap (λ (l : List Request). issued es ++ l) none ∙ append-nil (issued es) ∙ c.split;
  long = c.long;
})

pub counted_step : (blocks ring : ℕ) (es : List ListEvent) (e : ListEvent) (s t : ListState) → Counted blocks ring es s → ListStep s e t → Counted blocks ring (es ++ e ∷ []) t
counted_step blocks ring es (Accepted id request) s t c step = subst (λ (x : ListState). Counted blocks ring (es ++ Accepted id request ∷ []) x) (sym step.3) (record {
  blocks_are = c.blocks_are;
  ring_is = c.ring_is;
  counts = ap length (completed-append es (Accepted id request ∷ []) ∙ append-nil (completed es)) ∙ c.counts;
  finished = c.finished;
  split = issued-append es (Accepted id request ∷ []) ∙ ap (λ (l : List Request). l ++ request ∷ []) c.split ∙ append_assoc c.finished s.pending (request ∷ []);
  long = c.long;
})
counted_step blocks ring es (Full request) s t c step = same blocks ring es (Full request) s t c refl refl step.2
counted_step blocks ring es (Refused why request) s t c step = same blocks ring es (Refused why request) s t c refl refl step.1
counted_step blocks ring es (Done id operation status bytes) s t c step = record {
  blocks_are = ap (λ (x : ListState). x.blocks) step.after ∙ c.blocks_are;
  ring_is = ap (λ (x : ListState). x.ring) step.after ∙ c.ring_is;
  counts = ap length (completed-append es (Done id operation status bytes ∷ [])) ∙ length-append (completed es) (id ∷ []) ∙ ap (λ (n : ℕ). n + 1) c.counts ∙ sym (ap (λ (x : ListState). x.done) step.after);
  finished = c.finished ++ step.request ∷ [];
  split = issued-append es (Done id operation status bytes ∷ []) ∙ append-nil (issued es) ∙ c.split ∙ ap (λ (l : List Request). c.finished ++ l) step.front ∙ sym (append_assoc c.finished (step.request ∷ []) t.pending);
  long = length-append c.finished (step.request ∷ []) ∙ ap (λ (n : ℕ). n + 1) c.long ∙ sym (ap (λ (x : ListState). x.done) step.after);
}
counted_step blocks ring es Rested s t c step = same blocks ring es Rested s t c refl refl step.1

pub counted_run : (blocks ring : ℕ) (before es : List ListEvent) (s t : ListState) → Counted blocks ring before s → Run ListStep s es t → Counted blocks ring (before ++ es) t
counted_run blocks ring before [] s t c run = subst (λ (x : ListState). Counted blocks ring (before ++ []) x) run (subst (λ (l : List ListEvent). Counted blocks ring l s) (sym (append-nil before)) c)
counted_run blocks ring before (e ∷ es) s t c run =
    subst (λ (l : List ListEvent). Counted blocks ring l t) (append_assoc before (e ∷ []) es)
    (counted_run blocks ring (before ++ e ∷ []) es run.0 t (counted_step blocks ring before e s run.0 c run.1) run.2)

pub counted_fresh : (first blocks ring : ℕ) → Counted blocks ring [] (fresh first blocks ring)
counted_fresh first blocks ring = record { blocks_are = refl; ring_is = refl; counts = refl; finished = []; split = refl; long = refl }

pub counted_pending : (blocks ring : ℕ) (es : List ListEvent) (s : ListState) → Counted blocks ring es s → pending_count es ≡ length s.pending
counted_pending blocks ring es s c = omega (arith, ap length c.split, length-append c.finished s.pending, c.long, c.counts)

pub counted_next : (blocks ring : ℕ) (es : List ListEvent) (s : ListState) → Counted blocks ring es s → length (issued es) ≡ s.done + length s.pending
counted_next blocks ring es s c = ap length c.split ∙ length-append c.finished s.pending ∙ ap (λ (n : ℕ). n + length s.pending) c.long
