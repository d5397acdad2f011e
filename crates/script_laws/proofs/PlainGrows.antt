-- The plain run of a script and the plain list of requests of lanes go side by side: the text, and the ids that were
-- completed, grow by what each line shows of the plain list.
use Rattle.std.proofs.Common.{◌≡◌, ℕ, suc, ◌+◌, Bool, Option, List, [], ◌∷◌, ◌++◌, length, map, refl, sym, ◌∙◌, ap, subst, arith, append_assoc}
use Rattle.std.specs.Prelude.{codes, decimal, nat_le}
use Rattle.std.specs.List.{range_with_len}
use Rattle.std.proofs.lemmas.Fmt.{decimal_digit}
use Rattle.std.proofs.lemmas.List.{append-nil}
use Rattle.vdisk_msg.specs.declared.request.Request.{Request}
use Rattle.vdisk_msg.specs.Requests.{Defect, defect, operation_of}
use Rattle.domain_script.specs.declared.event.DiskDecl.{DiskDecl}
use Rattle.domain_script.specs.declared.event.Event.{Event}
use Rattle.domain_script.specs.declared.event.Event.TheVariants as event
use Rattle.domain_script.specs.LaneKinds.{disk_lane}
use Rattle.world_parts.specs.world_laws.Settle.{SettleEntry, Settled}
use Rattle.kept_requests.specs.Bytes.{filled}
use Rattle.ldom_entries.specs.declared.entry.Entry.TheVariants as entry
use Rattle.ldom_entries.specs.declared.entry.Who.TheVariants.{Lane as OfWhole}
use Rattle.ldom_entries.specs.declared.entry.Why.TheVariants.{Count}
use Rattle.script_laws.proofs.LaneReport.{ids_in, ids_in_append, lane_ids, lane_resets, lane_text, resets_append, resets_in, run_line, texts, texts_append}
use Rattle.script_laws.specs.PlainRun.{Plain, asked, complete, complete_all, done_line, name_text, plain_line, plain_run, refusal_line, settled}
use Rattle.world_parts.specs.Declared.{shape_of}
use Rattle.world_parts.specs.Lines.{line_of}
use Rattle.world_parts.specs.world_laws.Plain as lanes
use Rattle.world_parts.specs.domain_laws.PlainLines as plain_lines

-- THE PLAIN LIST OF REQUESTS: all but the text
abbrev pub listed : Plain → lanes.Plain
listed p = record { content = p.content; waiting = p.waiting; completed = p.completed }

-- the ids that it completed
abbrev pub ids_below : Plain → List ℕ
ids_below p = range_with_len 0 p.completed

-- IT GROWS by the lines, and by the ids, of these entries, and none of them is a reset
pub record Grows (disk : DiskDecl) (p : Plain) (entries : List SettleEntry) (q : Plain) : Type 0 where
  pub text : q.text ≡ p.text ++ texts disk entries
  pub ids : ids_below q ≡ ids_below p ++ ids_in entries
  pub resets : resets_in entries ≡ 0

grows_still : (disk : DiskDecl) (p q : Plain) → q.text ≡ p.text → q.completed ≡ p.completed → Grows disk p [] q
grows_still disk p q text completed = grind (arith, append-nil)

longer : (all one two more : List ℕ) → all ≡ two ++ more → (first : List ℕ) → two ≡ one ++ first
    → all ≡ one ++ (first ++ more)
longer all one two more is first before = is ∙ ap (λ (l : List ℕ). l ++ more) before ∙ append_assoc one first more

grows_on : (disk : DiskDecl) (p m q : Plain) (xs ys : List SettleEntry) → Grows disk p xs m → Grows disk m ys q
    → Grows disk p (xs ++ ys) q
grows_on disk p m q xs ys first second =
    let firsts = first.resets in
    let seconds = second.resets in
    let none : resets_in xs + resets_in ys ≡ 0 = omega (arith, firsts, seconds) in
    record {
      text = longer q.text p.text m.text (texts disk ys) second.text (texts disk xs) first.text
          ∙ ap (λ (l : List ℕ). p.text ++ l) (sym (texts_append disk xs ys));
      ids = longer (ids_below q) (ids_below p) (ids_below m) (ids_in ys) second.ids (ids_in xs) first.ids
          ∙ ap (λ (l : List ℕ). ids_below p ++ l) (sym (ids_in_append xs ys));
      resets = resets_append xs ys ∙ none;
    }

-- by one line, which completes nothing
grows_line : (disk : DiskDecl) (p : Plain) (x : SettleEntry) (line : List ℕ) → lane_text disk x ≡ line
    → lane_ids x ≡ [] → lane_resets x ≡ 0
    → Grows disk p (x ∷ []) (record p { text = p.text ++ line })
grows_line disk p x line is none never = grind (arith, append-nil)

-- LINES that their parts make, where nothing stands before the line feed
refused_count : (disk : DiskDecl)
    → run_line disk (entry.Refused (OfWhole (disk_lane 0)) Count) ≡ codes "refused " ++ name_text disk ++ codes " count\n"
refused_count disk = grind (arith, append-nil, append_assoc)

full_line : (disk : DiskDecl)
    → run_line disk (entry.Full (OfWhole (disk_lane 0))) ≡ codes "full " ++ name_text disk ++ codes "\n"
full_line disk = ap (λ (l : List ℕ). l ++ codes "\n") (append-nil (codes "full " ++ name_text disk))

pub zero_text : decimal 0 ≡ codes "0"
zero_text = decimal_digit 0 (omega arith)

-- a completion's word and its status
abbrev done_front : DiskDecl → ℕ → List ℕ
done_front disk id = codes "done " ++ name_text disk ++ codes " " ++ decimal id

done_text : (disk : DiskDecl) (id : ℕ) (content : List ℕ) (request : Request)
    → run_line disk (entry.Done 0 id (operation_of request) 0 (filled (lanes.given content request)))
    ≡ done_line disk id content request
done_text disk id content request = grind (arith, zero_text, append_assoc)

-- A REQUEST, by its defect, and by whether the ring is full
asked_same : (disk : DiskDecl) (p : Plain) (request : Request) (why : Option Defect) (full : Bool)
    → listed (asked p request (refusal_line disk why full)) ≡ lanes.asked (listed p) request why full
asked_same disk p request why full = grind arith

asked_grows : (disk : DiskDecl) (p : Plain) (request : Request) (why : Option Defect) (full : Bool)
    → Grows disk p (lanes.answer request why full) (asked p request (refusal_line disk why full))
asked_grows disk p request why full = grind (arith, grows_line, append-nil, append_assoc, grows_still)

-- A SETTLE: one number more for each completion
range_more : (a n k : ℕ) → a + n ≡ k → range_with_len a (suc n) ≡ range_with_len a n ++ k ∷ []
range_more a (suc n) k is = ap (λ (l : List ℕ). a ∷ l) (range_more (a + 1) n k (omega (arith, is)))
range_more a n k is = grind arith

next_id : (done : ℕ) → range_with_len 0 (done + 1) ≡ range_with_len 0 done ++ done ∷ []
next_id done = grind (arith, range_more)

complete_grows : (disk : DiskDecl) (p : Plain) (request : Request) (behind : List Request)
    → Grows disk p (lanes.completion (listed p) request ∷ []) (complete disk p request behind)
complete_grows disk p request behind = grind (arith, append-nil, done_text, next_id)

all_grow : (disk : DiskDecl) (p : Plain) (waiting : List Request)
    → Grows disk p (lanes.completions (listed p) waiting) (complete_all disk p waiting)
all_grow disk p [] = grows_still disk p p refl refl
all_grow disk p (request ∷ behind) =
    let next = complete disk p request behind in
    grows_on disk p next (complete_all disk next behind) (lanes.completion (listed p) request ∷ [])
    (lanes.completions (listed next) behind) (complete_grows disk p request behind) (all_grow disk next behind)

all_same : (disk : DiskDecl) (p : Plain) (waiting : List Request)
    → listed (complete_all disk p waiting) ≡ lanes.complete_all (listed p) waiting
all_same disk p [] = refl
all_same disk p (request ∷ behind) = all_same disk (complete disk p request behind) behind

settle_grows : (disk : DiskDecl) (p : Plain)
    → Grows disk p (lanes.completions (listed p) p.waiting ++ Settled ∷ []) (settled (complete_all disk p p.waiting))
settle_grows disk p =
    let done = complete_all disk p p.waiting in
    grows_on disk p done (settled done) (lanes.completions (listed p) p.waiting) (Settled ∷ [])
    (all_grow disk p p.waiting)
    (grows_line disk done Settled (codes "settled\n") refl refl refl)

-- EACH LINE, as the line of lanes that it is
line_same : (disk : DiskDecl) (p : Plain) (e : Event)
    → listed (plain_line disk p e) ≡ plain_lines.plain_line (shape_of 0 disk) (listed p) (line_of e)
line_same disk p e = grind (arith, asked_same, all_same)

line_grows : (disk : DiskDecl) (p : Plain) (e : Event)
    → Grows disk p (plain_lines.plain_shows (shape_of 0 disk) (listed p) (line_of e)) (plain_line disk p e)
line_grows disk p (event.Issue number request) =
    asked_grows disk p request (defect disk.blocks request) (nat_le disk.ring (length p.waiting))
line_grows disk p event.Settle = settle_grows disk p
line_grows disk p _ = grows_still disk p p refl refl

-- LINES one after another
pub run_same : (disk : DiskDecl) (p : Plain) (events : List Event)
    → listed (plain_run disk p events) ≡ plain_lines.plain_run (shape_of 0 disk) (listed p) (map line_of events)
run_same disk p [] = refl
run_same disk p (e ∷ events) = grind (arith, line_same, run_same disk (plain_line disk p e) events)

pub run_grows : (disk : DiskDecl) (p : Plain) (events : List Event)
    → Grows disk p (plain_lines.plain_journal (shape_of 0 disk) (listed p) (map line_of events)) (plain_run disk p events)
run_grows disk p [] = grows_still disk p p refl refl
run_grows disk p (e ∷ events) =
    let next = plain_line disk p e in
    let shape = shape_of 0 disk in
    let end = plain_run disk next events in
    let lines = map line_of events in
    let listed_next : lanes.Plain = plain_lines.plain_line shape (listed p) (line_of e) in
    let rest : Grows disk next (plain_lines.plain_journal shape listed_next lines) end =
    subst (λ (l : lanes.Plain). Grows disk next (plain_lines.plain_journal shape l lines) end) (line_same disk p e)
    (run_grows disk next events) in
    grows_on disk p next end (plain_lines.plain_shows shape (listed p) (line_of e))
    (plain_lines.plain_journal shape listed_next lines) (line_grows disk p e) rest
