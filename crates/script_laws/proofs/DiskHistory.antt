-- What the entries of a journal say of each disk is what happened to its lane, as a guest sees it; and whatever its
-- lines asked, the requests that were accepted complete once and in order.
use Rattle.std.proofs.Common.{◌≡◌, ℕ, if◌then◌else◌, Bool, true, false, Option, Some, None, List, [], ◌∷◌, ◌++◌, slice_get, refl, sym, ap, ◌∙◌, arith}
use Rattle.std.specs.List.{cons_option, filter_map}
use Rattle.vdisk_msg.specs.declared.request.Request.{Request}
use Rattle.disk_law.specs.Issued.{CompletesNext, CompletesOnceInOrder, completed, issued}
use Rattle.disk_law.specs.ListStep as plain
use Rattle.domain_script.specs.declared.event.Event.{Event}
use Rattle.domain_script.specs.declared.event.Event.TheVariants as line
use Rattle.world_parts.specs.world_laws.Along.{event_at, happened}
use Rattle.world_parts.specs.world_laws.Settle.{SettleEntry}
use Rattle.ldom_report.specs.DiskEvents.{Refusal, disk_event, history, refused}
use Rattle.ldom_entries.specs.declared.entry.Entry.{Entry}
use Rattle.world_parts.proofs.world_laws.Filtered.{ComesOf, comes_of, filter_both, one_more}
use Rattle.world_parts.specs.world_laws.Requests.{request_event, requests_of}
use Rattle.script_laws.proofs.EntryKinds.{Kind, SaysNothing, kept, kind_of}
use Rattle.script_laws.proofs.Tellings.{Telling, entries_told, means_of, seen_at}

-- ONE ENTRY, and one event of a lane
nothing_at : (x : ℕ) (m : SettleEntry) → SaysNothing m → [] ≡ requests_of (event_at x m)
nothing_at x m nothing = grind arith

entry_seen : (x : ℕ) (asked : Event) (e : Entry) (m : SettleEntry) → Kind asked e m
    → cons_option (disk_event x asked e) [] ≡ requests_of (event_at x m)
entry_seen x asked e m given = grind arith

-- A JOURNAL
pub all_seen : (x : ℕ) (tellings : List Telling) → seen_at x tellings ≡ requests_of (happened x (means_of tellings))
all_seen x [] = refl
all_seen x (t ∷ tellings) =
    ap (λ (l : List plain.ListEvent). cons_option (disk_event x t.asked t.entry) l) (all_seen x tellings)
    ∙ one_more (disk_event x t.asked t.entry) (requests_of (happened x (means_of tellings)))
    ∙ ap (λ (l : List plain.ListEvent). l ++ requests_of (happened x (means_of tellings)))
    (entry_seen x t.asked t.entry t.means (kind_of t.asked t.entry t.means t.is))
    ∙ sym (filter_both request_event (event_at x t.means) (happened x (means_of tellings)))

-- WHATEVER ITS LINES ASKED it tells which requests were accepted and completed
abbrev kept_of : Option plain.ListEvent → Option plain.ListEvent
kept_of None = None
kept_of (Some event) = kept event

kept_first : (o : Option plain.ListEvent) (es : List plain.ListEvent)
    → filter_map kept (cons_option o es) ≡ cons_option (kept_of o) (filter_map kept es)
kept_first None es = refl
kept_first (Some event) es = refl

kept_at : (b : Bool) (seen : plain.ListEvent) → kept seen ≡ Some seen
    → (if b then Some seen else None) ≡ kept_of (if b then Some seen else None)
kept_at true seen keeps = sym keeps
kept_at false seen keeps = refl

dropped_at : (b : Bool) (refusal : Refusal) (request : Request)
    → None ≡ kept_of (if b then Some (refused refusal request) else None)
dropped_at b refusal request = grind arith

nothing_kept : None ≡ kept_of None
nothing_kept = refl

entry_alone : (x : ℕ) (asked : Event) (e : Entry) (m : SettleEntry) → Kind asked e m
    → disk_event x line.Blank e ≡ kept_of (disk_event x asked e)
entry_alone x asked e m given = grind (arith, kept_at, dropped_at, nothing_kept)

pub history_kept : (x : ℕ) (tellings : List Telling)
    → history x (entries_told tellings) ≡ filter_map kept (seen_at x tellings)
history_kept x [] = refl
history_kept x (t ∷ tellings) =
    ap (λ (l : List plain.ListEvent). cons_option (disk_event x line.Blank t.entry) l) (history_kept x tellings)
    ∙ ap (λ (o : Option plain.ListEvent). cons_option o (filter_map kept (seen_at x tellings)))
    (entry_alone x t.asked t.entry t.means (kind_of t.asked t.entry t.means t.is))
    ∙ sym (kept_first (disk_event x t.asked t.entry) (seen_at x tellings))

-- THE SAME requests
pub issued_kept : (es : List plain.ListEvent) → issued (filter_map kept es) ≡ issued es
issued_kept [] = refl
issued_kept (plain.Accepted id request ∷ es) = ap (λ (l : List Request). request ∷ l) (issued_kept es)
issued_kept (plain.Full request ∷ es) = issued_kept es
issued_kept (plain.Refused why request ∷ es) = issued_kept es
issued_kept (plain.Done id operation status bytes ∷ es) = issued_kept es
issued_kept (plain.Rested ∷ es) = issued_kept es

completed_kept : (es : List plain.ListEvent) → completed (filter_map kept es) ≡ completed es
completed_kept [] = refl
completed_kept (plain.Accepted id request ∷ es) = completed_kept es
completed_kept (plain.Full request ∷ es) = completed_kept es
completed_kept (plain.Refused why request ∷ es) = completed_kept es
completed_kept (plain.Done id operation status bytes ∷ es) = ap (λ (l : List ℕ). id ∷ l) (completed_kept es)
completed_kept (plain.Rested ∷ es) = completed_kept es

kept_is : (one event : plain.ListEvent) → kept one ≡ Some event → one ≡ event
kept_is one event keeps = grind arith

same_next : (front before : List plain.ListEvent) (id operation : ℕ) → filter_map kept front ≡ before
    → CompletesNext front id operation
    → CompletesNext before id operation
same_next front before id operation so_far next = grind (arith, completed_kept, issued_kept, slice_get)

-- and they complete once and in order where all do
pub kept_once : (es : List plain.ListEvent) → CompletesOnceInOrder es → CompletesOnceInOrder (filter_map kept es)
kept_once es once = λ before behind id operation status bytes is.
    let event : plain.ListEvent = plain.Done id operation status bytes in
    let found : ComesOf kept es before event = comes_of kept es before event behind is in
    let same : found.one ≡ event = kept_is found.one event found.gives in
    let at : es ≡ found.front ++ event ∷ found.rest =
    found.is ∙ ap (λ (y : plain.ListEvent). found.front ++ y ∷ found.rest) same in
    same_next found.front before id operation found.so_far (once found.front found.rest id operation status bytes at)

-- NOTHING completes where nothing happened
not_empty : {Y : Type 0} (before : List Y) (y : Y) (behind : List Y) → [] ≡ before ++ y ∷ behind → ⊥
not_empty {Y} [] y behind is = absurd (cc is)
not_empty {Y} (x ∷ before) y behind is = absurd (cc is)

pub nothing_once : CompletesOnceInOrder []
nothing_once = λ before behind id operation status bytes is.
    absurd (not_empty before (plain.Done id operation status bytes) behind is)
