-- The log of a lane counts what its events say of requests.
use Rattle.std.proofs.Common.{◌≡◌, ℕ, ◌+◌, List, [], ◌∷◌, ◌++◌, drop, length, refl, sym, ap, ◌∙◌, subst, arith}
use Rattle.std.proofs.lemmas.List.{append_assoc}
use Rattle.runs.specs.Lawful.{log_of}
use Rattle.runs.specs.Run.{Run}
use Rattle.disk_law.specs.Issued.{completed, issued}
use Rattle.disk_law.specs.ListStep as plain
use Rattle.lane_laws.specs.DiskLog.{DiskLog, after, nothing_yet}
use Rattle.lane_laws.specs.WorkLog.{WorkLog, after_work}
use Rattle.lane_models.specs.DiskEvent.{DiskEvent}
use Rattle.lane_models.specs.LaneState.{IsShape, LaneState, Shape, fresh}
use Rattle.lane_models.specs.LaneStep.{LaneStep}
use Rattle.lane_models.specs.TranscriptLog.{TranscriptLog}
use Rattle.lane_laws.proofs.AgreementRuns.{run_agrees}
use Rattle.vdisk_msg.specs.declared.request.Request.{Request}
use Rattle.world_laws.proofs.Filtered.{one_more}
use Rattle.world_laws.specs.Requests.{request_event, requests_of}

-- WHAT IS COUNTED, one list after another
pub issued_both : (before behind : List plain.ListEvent) → issued (before ++ behind) ≡ issued before ++ issued behind
issued_both [] behind = refl
issued_both (plain.Accepted id request ∷ before) behind = ap (λ (l : List Request). request ∷ l) (issued_both before behind)
issued_both (plain.Full request ∷ before) behind = issued_both before behind
issued_both (plain.Refused why request ∷ before) behind = issued_both before behind
issued_both (plain.Done id operation status bytes ∷ before) behind = issued_both before behind
issued_both (plain.Rested ∷ before) behind = issued_both before behind

pub completed_both : (before behind : List plain.ListEvent) → length (completed (before ++ behind)) ≡ length (completed before) + length (completed behind)
completed_both [] behind = omega (arith)
completed_both (plain.Accepted id request ∷ before) behind = completed_both before behind
completed_both (plain.Full request ∷ before) behind = completed_both before behind
completed_both (plain.Refused why request ∷ before) behind = completed_both before behind
completed_both (plain.Done id operation status bytes ∷ before) behind = let rest = completed_both before behind in omega (arith, rest)
completed_both (plain.Rested ∷ before) behind = completed_both before behind

-- ONE EVENT
record Counts (l m : WorkLog) (es : List plain.ListEvent) : Type 0 where
  pub issued_is : m.issued ≡ l.issued ++ issued es
  pub done_is : m.done ≡ l.done + length (completed es)

nothing_more : (requests : List Request) → requests ≡ requests ++ []
nothing_more [] = refl
nothing_more (request ∷ requests) = ap (λ (l : List Request). request ∷ l) (nothing_more requests)

same_counts : (l m : WorkLog) → m.issued ≡ l.issued → m.done ≡ l.done → Counts l m []
same_counts l m one two = record { issued_is = one ∙ nothing_more l.issued; done_is = omega (arith, two) }

one_counts : (blocks slots : ℕ) (transcript : TranscriptLog) (l : WorkLog) (event : DiskEvent) → Counts l (after_work blocks slots transcript l event) (requests_of (event ∷ []))
one_counts blocks slots transcript l event = grind (arith, same_counts, nothing_more)

-- MORE OF THEM
both_count : (l m n : WorkLog) (one two : List plain.ListEvent) → Counts l m one → Counts m n two → Counts l n (one ++ two)
both_count l m n one two first second = grind (arith, completed_both, append_assoc, issued_both)

log_counts : (l : DiskLog) (events : List DiskEvent) → Counts l.work (log_of after l events).work (requests_of events)
log_counts l [] = same_counts l.work l.work refl refl
log_counts l (event ∷ events) =
    subst (λ (es : List plain.ListEvent). Counts l.work (log_of after (after l event) events).work es) (sym (one_more (request_event event) (requests_of events)))
    (both_count l.work (after l event).work (log_of after (after l event) events).work (requests_of (event ∷ [])) (requests_of events)
    (one_counts l.shape.blocks l.shape.slots l.transcript l.work event) (log_counts (after l event) events))

-- FROM THE FRESH LOG ON
pub issued_behind : (shape : Shape) (events : List DiskEvent) → (log_of after (nothing_yet shape) events).work.issued ≡ issued (requests_of events)
issued_behind shape events = (log_counts (nothing_yet shape) events).issued_is

pub done_behind : (shape : Shape) (events : List DiskEvent) → (log_of after (nothing_yet shape) events).work.done ≡ length (completed (requests_of events))
done_behind shape events = let counted = (log_counts (nothing_yet shape) events).done_is in omega (arith, counted)

-- THE CLIENT holds what was accepted and isn't completed, and its next id is their number
pub pending_are : (shape : Shape) (events : List DiskEvent) (s : LaneState) → IsShape shape → Run LaneStep (fresh shape) events s
    → s.client.pending ≡ drop (length (completed (requests_of events))) (issued (requests_of events))
pending_are shape events s sound run =
    (run_agrees shape events s sound run).requests.pending
    ∙ ap (λ (n : ℕ). drop n (log_of after (nothing_yet shape) events).work.issued) (done_behind shape events)
    ∙ ap (λ (r : List Request). drop (length (completed (requests_of events))) r) (issued_behind shape events)

pub next_is : (shape : Shape) (events : List DiskEvent) (s : LaneState) → IsShape shape → Run LaneStep (fresh shape) events s → s.client.next_id ≡ length (issued (requests_of events))
next_is shape events s sound run = (run_agrees shape events s sound run).requests.next ∙ ap (λ (r : List Request). length r) (issued_behind shape events)
