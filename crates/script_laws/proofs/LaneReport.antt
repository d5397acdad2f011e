-- What a report tells of the entries of a journal, and of those of disks: their lines, the ids of completions, how many
-- resets there were, and how many frames guests took: none of those of disks.
use Rattle.std.proofs.Common.{◌≡◌, ℕ, ◌+◌, List, [], ◌∷◌, ◌++◌, length, sym, ◌∙◌, ap, arith, length-append}
use Rattle.std.specs.Prelude.{codes}
use Rattle.std.specs.List.{flat_map}
use Rattle.std.proofs.lemmas.List.Concat.{flat_map-append}
use Rattle.std.proofs.lemmas.List.Elements.{filter_map-append}
use Rattle.std.proofs.lemmas.List.Sums.{sum_by-append}
use Rattle.ldc_queue.specs.declared.end.End.{End}
use Rattle.ldc_queue.specs.declared.end.End.TheVariants.{A, B}
use Rattle.vdisk_msg.specs.Requests.{BadCount, BadRange, Defect}
use Rattle.world_parts.specs.lane_models.WireEvent.{Reset}
use Rattle.disk_law.proofs.Counted.{completed-append}
use Rattle.world_parts.specs.lane_models.DiskEvent.{Asks, Done, Full, OnWire, Refused, Works}
use Rattle.domain_script.specs.declared.event.DiskDecl.{DiskDecl}
use Rattle.domain_script.specs.LaneKinds.{disk_lane}
use Rattle.domain_script.specs.declared.event.Side.{Side}
use Rattle.domain_script.specs.declared.event.Side.TheVariants.{Client, Server}
use Rattle.world_parts.specs.world_laws.Settle.{OfLane, SettleEntry, Settled, Unsettled}
use Rattle.kept_requests.specs.Bytes.{filled}
use Rattle.ldom_report.specs.EntryText.{line_text, report_entries}
use Rattle.ldom_report.specs.Report.{accepted_count, done_count, frame_count, reset_count}
use Rattle.ldom_entries.specs.declared.entry.Entry.{Entry}
use Rattle.ldom_entries.specs.declared.entry.Entry.TheVariants as entry
use Rattle.ldom_entries.specs.declared.entry.Who.TheVariants.{Lane as OfWhole}
use Rattle.ldom_entries.specs.declared.entry.Why.{Why}
use Rattle.ldom_entries.specs.declared.entry.Why.TheVariants.{Count, Range}
use Rattle.ldom_report.specs.declared.status.Mode.TheVariants as mode
use Rattle.script_laws.specs.Completed.{completed_ids}
use Rattle.script_laws.specs.PlainRun.{one_disk}
use Rattle.world_parts.specs.world_laws.Accepted.{accepted_in}

-- THE LINE of an entry of a lane in the report of a run
abbrev pub side_of : End → Side
side_of A = Client
side_of B = Server

abbrev pub why_of : Defect → Why
why_of BadCount = Count
why_of BadRange = Range

abbrev pub run_line : DiskDecl → Entry → List ℕ
run_line disk e = line_text mode.Run (one_disk disk) e

abbrev pub lane_text : DiskDecl → SettleEntry → List ℕ
lane_text disk (OfLane k (Asks (Full request))) = run_line disk (entry.Full (OfWhole (disk_lane k)))
lane_text disk (OfLane k (Asks (Refused why request))) = run_line disk (entry.Refused (OfWhole (disk_lane k)) (why_of why))
lane_text disk (OfLane k (Works (Done id operation status bytes))) =
    run_line disk (entry.Done k id operation status (filled bytes))
lane_text disk (OfLane k (OnWire (Reset e cause packet lost))) =
    run_line disk (entry.Reset (record { lane = disk_lane k; side = side_of e }) cause packet lost)
lane_text disk Settled = codes "settled\n"
lane_text disk (Unsettled k) = run_line disk (entry.Unsettled (OfWhole (disk_lane k)))
lane_text disk _ = []

-- the id that it completes, and whether it is a reset
abbrev pub lane_ids : SettleEntry → List ℕ
lane_ids (OfLane k (Works (Done id operation status bytes))) = id ∷ []
lane_ids _ = []

abbrev pub lane_resets : SettleEntry → ℕ
lane_resets (OfLane k (OnWire (Reset e cause packet lost))) = 1
lane_resets _ = 0

-- of entries one after another
abbrev pub texts : DiskDecl → List SettleEntry → List ℕ
texts disk entries = flat_map (lane_text disk) entries

abbrev pub ids_in : List SettleEntry → List ℕ
ids_in entries = flat_map lane_ids entries

abbrev pub resets_in : List SettleEntry → ℕ
resets_in [] = 0
resets_in (x ∷ entries) = lane_resets x + resets_in entries

-- WHAT A REPORT TELLS of entries, but for how many requests were accepted
pub record Told : Type 0 where
  pub text : List ℕ
  pub ids : List ℕ
  pub done : ℕ
  pub resets : ℕ
  pub frames : ℕ

abbrev pub told_part : DiskDecl → List Entry → Told
told_part disk part = record {
  text = report_entries mode.Run (one_disk disk) part;
  ids = completed_ids part;
  done = done_count part;
  resets = reset_count part;
  frames = frame_count part;
}

abbrev pub told_lanes : DiskDecl → List SettleEntry → Told
told_lanes disk entries = record {
  text = texts disk entries;
  ids = ids_in entries;
  done = length (ids_in entries);
  resets = resets_in entries;
  frames = 0;
}

-- a part of a journal tells the same as entries of lanes
abbrev pub SaysSame : DiskDecl → List Entry → List SettleEntry → Type 0
SaysSame disk part entries =
    (told_part disk part ≡ told_lanes disk entries) × (accepted_count part ≡ accepted_in entries)

-- ONE BEHIND THE OTHER
abbrev joined : Told → Told → Told
joined s t = record {
  text = s.text ++ t.text;
  ids = s.ids ++ t.ids;
  done = s.done + t.done;
  resets = s.resets + t.resets;
  frames = s.frames + t.frames;
}

parts_joined : (disk : DiskDecl) (one two : List Entry)
    → told_part disk (one ++ two) ≡ joined (told_part disk one) (told_part disk two)
parts_joined disk one two = grind (arith, flat_map-append, filter_map-append, completed-append, sum_by-append)

pub texts_append : (disk : DiskDecl) (one two : List SettleEntry)
    → texts disk (one ++ two) ≡ texts disk one ++ texts disk two
texts_append disk one two = flat_map-append (lane_text disk) one two

pub ids_in_append : (one two : List SettleEntry) → ids_in (one ++ two) ≡ ids_in one ++ ids_in two
ids_in_append one two = flat_map-append lane_ids one two

pub resets_append : (one two : List SettleEntry) → resets_in (one ++ two) ≡ resets_in one + resets_in two
resets_append [] two = omega (arith)
resets_append (x ∷ one) two = let rest = resets_append one two in omega (arith, rest)

lanes_joined : (disk : DiskDecl) (one two : List SettleEntry)
    → told_lanes disk (one ++ two) ≡ joined (told_lanes disk one) (told_lanes disk two)
lanes_joined disk one two =
    let text = texts_append disk one two in
    grind (arith, ids_in_append, length-append, resets_append)

pub told_append : (disk : DiskDecl) (xs ys others more : List SettleEntry) → told_lanes disk xs ≡ told_lanes disk ys
    → told_lanes disk others ≡ told_lanes disk more → told_lanes disk (xs ++ others) ≡ told_lanes disk (ys ++ more)
told_append disk xs ys others more first second =
    lanes_joined disk xs others ∙ ap (λ (t : Told). joined t (told_lanes disk others)) first
    ∙ ap (λ (t : Told). joined (told_lanes disk ys) t) second ∙ sym (lanes_joined disk ys more)

accepted_append : (one two : List SettleEntry) → accepted_in (one ++ two) ≡ accepted_in one + accepted_in two
accepted_append [] two = omega (arith)
accepted_append (OfLane k event ∷ one) two = let rest = accepted_append one two in omega (arith, rest)
accepted_append (x ∷ one) two = accepted_append one two

pub says_append : (disk : DiskDecl) (one two : List Entry) (xs ys : List SettleEntry) → SaysSame disk one xs
    → SaysSame disk two ys
    → SaysSame disk (one ++ two) (xs ++ ys)
says_append disk one two xs ys first second =
    let counted : accepted_count (one ++ two) ≡ accepted_count one + accepted_count two = sum_by-append _ one two in
    let counts = accepted_append xs ys in
    let firsts = first.1 in
    let seconds = second.1 in (
      parts_joined disk one two ∙ ap (λ (t : Told). joined t (told_part disk two)) first.0
          ∙ ap (λ (t : Told). joined (told_lanes disk xs) t) second.0 ∙ sym (lanes_joined disk xs ys),
      omega (arith, counted, counts, firsts, seconds),
    )
