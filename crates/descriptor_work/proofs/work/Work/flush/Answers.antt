use Rattle.std.proofs.Common.{ℕ, Bool, List, ap, sym, subst}
use Rattle.vio_io.specs.Causes.{FaultsAfter}
use Rattle.descriptor_work.specs.declared.work.Progress.{Progress as KeptProgress}
use Rattle.descriptor_work.specs.Fields.{progress_of, work_with}
use Rattle.descriptor_work.proofs.PieceSteps.{piece_flushed}
use Rattle.descriptor_work.proofs.work.Work.flush.Goals as goal

pub returns-clause-piece : goal.returns-clause-piece
returns-clause-piece g c =
    λ (first : ℕ) (bytes : List ℕ).
    piece_flushed c.is_err-failed.result first (progress_of c.or_ends-self.result bytes) (work_with c.args.self.now bytes) (g.D.Store.content c.args.store.now)
    (g.D.Store.content c.flush.new.self) (c.or_ends-self.ensures bytes) (ap (λ (p : KeptProgress). progress_of p bytes) c.requires.progress) c.flush.ensures.content

pub returns-clause-store : goal.returns-clause-store
returns-clause-store g c = record {
  calls = c.flush.ensures.calls;
  flushes = c.flush.ensures.flushes;
  writes = c.flush.ensures.writes;
  faults = subst (λ (failed : Bool). FaultsAfter failed (g.D.Store.faults c.args.store.now) (g.D.Store.faults c.flush.new.self)) (sym c.is_err-failed.ensures.value)
      c.flush.ensures.faults;
}
