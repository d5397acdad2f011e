-- Each event leaves the requests that were published in an earlier session below those that were disturbed.
use Rattle.std.proofs.Common.{◌≡◌, ◌+◌, ◌-◌, ◌≤◌, false, List, [], ◌∷◌, length, inl, refl, sym, ap, ◌∙◌, arith, length-append}
use Rattle.std.specs.Prelude.{⊤}
use Rattle.runs.specs.Lawful.{log_of, run_lawful}
use Rattle.runs.specs.Run.{Run}
use Rattle.ldc_queue.specs.declared.end.End.TheVariants.{A, B}
use Rattle.lane_models.specs.WireEvent.{Joined, Reset, Sent, Took}
use Rattle.lane_models.specs.WireLog.{WireLog}
use Rattle.lane_laws.specs.DiskLog.{DiskLog, after, nothing_yet}
use Rattle.lane_models.specs.DiskEvent.{Accepted, Asks, DiskEvent, Done, Finished, OnWire, Stopped, Stored, Switches, Works}
use Rattle.lane_models.specs.LaneState.{IsShape, LaneState, NearCounts, Shape, fresh, near_disturbed}
use Rattle.lane_models.specs.LaneStep.{LaneStep}
use Rattle.lane_laws.proofs.RingRuns.{before as clean_before}
use Rattle.lane_laws.specs.LaterDisturbed.{LaterDisturbed}
use Rattle.lane_laws.proofs.LaneRuns.{AlongContents, at_step, contents_step, run_contents}
use Rattle.lane_laws.proofs.Standing.{Before, ever_count}
use Rattle.lane_laws.proofs.LaneViews.{lane_view, near_after}

-- WHAT STAYS, and what is disturbed
same_later : (s t : LaneState) (l n : DiskLog) → t.near ≡ s.near → n.work.done ≡ l.work.done → n.work.disturbed_below ≡ l.work.disturbed_below → length l.work.issued ≤ length n.work.issued
    → LaterDisturbed s l → LaterDisturbed t n
same_later s t l n near done below more later = grind arith

all_disturbed : (s t : LaneState) (l n : DiskLog) → Before s l → t.near.m ≡ (near_disturbed s.client).m → n.work.done ≡ l.work.done → n.work.disturbed_below ≡ length n.work.issued
    → length n.work.issued ≡ length l.work.issued → LaterDisturbed t n
all_disturbed s t l n before counted done below same = grind (arith, ever_count)

-- THE WORK: a completion takes the first away
m_later : (s t : LaneState) (l n : DiskLog) → t.near.m ≡ s.near.m → n.work.done ≡ l.work.done → n.work.disturbed_below ≡ l.work.disturbed_below → n.work.issued ≡ l.work.issued → LaterDisturbed s l
    → LaterDisturbed t n
m_later s t l n m done below same later = grind arith

done_later : (s t : LaneState) (l n : DiskLog) → t.near.m ≡ s.near.m - 1 → n.work.done ≡ l.work.done + 1 → n.work.disturbed_below ≡ l.work.disturbed_below → n.work.issued ≡ l.work.issued → LaterDisturbed s l
    → LaterDisturbed t n
done_later s t l n m done below same later = grind arith

-- EACH EVENT, by the counts after it
counts_later : (s : LaneState) (l : DiskLog) (event : DiskEvent) (t : LaneState) → Before s l → t.near ≡ near_after s event → LaterDisturbed s l → LaterDisturbed t (after l event)
counts_later s l (OnWire (Reset A cause packet lost)) t before near later = all_disturbed s t l (after l (OnWire (Reset A cause packet lost))) before (ap (λ (x : NearCounts). x.m) near) refl refl refl
counts_later s l (OnWire (Reset B cause packet lost)) t before near later = all_disturbed s t l (after l (OnWire (Reset B cause packet lost))) before (ap (λ (x : NearCounts). x.m) near) refl refl refl
counts_later s l (Switches Stopped) t before near later = all_disturbed s t l (after l (Switches Stopped)) before (ap (λ (x : NearCounts). x.m) near) refl refl refl
counts_later s l (Works (Done id operation status bytes)) t before near later =
    done_later s t l (after l (Works (Done id operation status bytes))) (ap (λ (x : NearCounts). x.m) near) refl refl refl later
counts_later s l (Works (Stored operation block count failed)) t before near later =
    m_later s t l (after l (Works (Stored operation block count failed))) (ap (λ (x : NearCounts). x.m) near) refl refl refl later
counts_later s l (Works (Finished slot status)) t before near later = m_later s t l (after l (Works (Finished slot status))) (ap (λ (x : NearCounts). x.m) near) refl refl refl later
counts_later s l (Asks (Accepted id request)) t before near later =
    same_later s t l (after l (Asks (Accepted id request))) near refl refl (omega (arith, length-append l.work.issued (request ∷ []))) later
counts_later s l (OnWire (Joined A lost)) t before near later = same_later s t l (after l (OnWire (Joined A lost))) near refl refl (omega arith) later
counts_later s l (OnWire (Took A packet opens)) t before near later = same_later s t l (after l (OnWire (Took A packet opens))) near refl refl (omega arith) later
counts_later s l (OnWire (Sent A packet opens)) t before near later = same_later s t l (after l (OnWire (Sent A packet opens))) near refl refl (omega arith) later
counts_later s l event t before near later = same_later s t l (after l event) near refl refl (omega arith) later

-- ALONG A RUN
record AlongLater (shape : Shape) (s : LaneState) (l : DiskLog) : Type 0 where
  holds : AlongContents shape s l
  later : l.wire.forged ≡ false → LaterDisturbed s l

later_step : (shape : Shape) → IsShape shape → (s : LaneState) (l : DiskLog) (event : DiskEvent) (t : LaneState) → AlongLater shape s l → LaneStep s event t → ⊤ × AlongLater shape t (after l event)
later_step shape sound s l event t along step = (
  tt,
  record {
    holds = (contents_step shape sound s l event t along.holds step).1;
    later = λ clean. counts_later s l event t (at_step shape sound s l event t along.holds step clean).before (ap (λ (x : LaneState). x.near) (lane_view s event t step).is)
        (along.later (clean_before l event clean));
  },
)

pub run_later : (shape : Shape) (events : List DiskEvent) (s : LaneState) → IsShape shape → Run LaneStep (fresh shape) events s → s.wire.forged ≡ false
    → LaterDisturbed s (log_of after (nothing_yet shape) events)
run_later shape events s sound run unforged =
    let all = (run_lawful LaneStep (λ (l : DiskLog) (e : DiskEvent). ⊤) after (AlongLater shape) (later_step shape sound) (fresh shape) s (nothing_yet shape) events
    (record { holds = run_contents shape [] (fresh shape) sound refl; later = λ clean. record { later = inl refl; issued = omega arith } }) run).1 in
    all.later (sym (ap (λ (w : WireLog). w.forged) all.holds.along.all.stands.wire) ∙ unforged)
