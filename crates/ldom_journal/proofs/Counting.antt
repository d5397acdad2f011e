-- Counts of a journal's entries, as one more is put last.
use Rattle.std.proofs.Common.{◌≡◌, ◌+◌, ◌≤◌, Bool, cond, List, length, ap, ◌∙◌}
use Rattle.std.proofs.lemmas.List.Sums.{count_by-le-length, sum_by_push}
use Rattle.std.specs.List.{count_by}
use Rattle.ldom_journal.specs.Counts.{accepted_count, done_count, frame_count, is_accepted, is_done, is_frame, is_reset, reset_count}
use Rattle.ldom_entries.specs.JournalState.{JournalState, PutsEntry}
use Rattle.ldom_entries.specs.declared.entry.Entry.{Entry}

count_more : (p : Entry → Bool) (s t : JournalState) (e : Entry) → PutsEntry s e t → count_by p t.entries ≡ count_by p s.entries + cond (p e) 1 0
count_more p s t e puts = ap (count_by p) puts.entries ∙ sum_by_push (λ (x : Entry). cond (p x) 1 0) s.entries e

pub accepted_more : (s t : JournalState) (e : Entry) → PutsEntry s e t → accepted_count t.entries ≡ accepted_count s.entries + cond (is_accepted e) 1 0
accepted_more = count_more is_accepted

pub done_more : (s t : JournalState) (e : Entry) → PutsEntry s e t → done_count t.entries ≡ done_count s.entries + cond (is_done e) 1 0
done_more = count_more is_done

pub resets_more : (s t : JournalState) (e : Entry) → PutsEntry s e t → reset_count t.entries ≡ reset_count s.entries + cond (is_reset e) 1 0
resets_more = count_more is_reset

pub frames_more : (s t : JournalState) (e : Entry) → PutsEntry s e t → frame_count t.entries ≡ frame_count s.entries + cond (is_frame e) 1 0
frames_more = count_more is_frame

-- no more than there are entries
pub accepted_few : (entries : List Entry) → accepted_count entries ≤ length entries
accepted_few = count_by-le-length is_accepted

pub done_few : (entries : List Entry) → done_count entries ≤ length entries
done_few = count_by-le-length is_done

pub resets_few : (entries : List Entry) → reset_count entries ≤ length entries
resets_few = count_by-le-length is_reset

pub frames_few : (entries : List Entry) → frame_count entries ≤ length entries
frames_few = count_by-le-length is_frame

pub ruleset counted = (accepted_more, done_more, resets_more, frames_more, accepted_few, done_few, resets_few, frames_few)
