-- Entries by their headers: what is put last is read last.
use Rattle.std.proofs.Common.{◌≡◌, ℕ, ◌+◌, ◌-◌, ◌≤◌, Bool, Option, Some, None, is_some, List, [], ◌∷◌, ◌++◌, length, sym, ap, subst, ◌∙◌, arith}
use Rattle.std.proofs.Math.Seq.{take-length, drop-length}
use Rattle.std.proofs.lemmas.List.{take-append-le, drop-append-le, length-append}
use Rattle.vdisk_msg.specs.declared.request.Request.{Request}
use Rattle.vio_tag.specs.declared.cause.Cause.{Cause}
use Rattle.kept_requests.specs.Bytes.{BytesState}
use Rattle.ldom_entries.specs.Beside.{HoldsShare, Lists, Share, join, made, nothing, rest_of, share_of}
use Rattle.ldom_entries.specs.Decoded.{AreComplete, end_at, entries_of, entry_of, share}
use Rattle.ldom_journal.specs.KeptState.{ArePartsKept}
use Rattle.ldom_journal.specs.PartsState.{PartsState, PutsParts, with_cause}
use Rattle.ldom_entries.specs.Whole.{AreKeptWhole}
use Rattle.ldom_entries.specs.declared.entry.Entry.{Entry}
use Rattle.ldom_entries.specs.declared.entry.Entry.TheVariants as entry
use Rattle.ldom_entries.specs.declared.header.EndMark.{EndMark}
use Rattle.ldom_entries.specs.declared.header.Header.{Header}
use Rattle.ldom_entries.specs.declared.header.Header.TheVariants as header

lists_same : (a b : Lists) → a.numbers ≡ b.numbers → a.packets ≡ b.packets → a.descriptors ≡ b.descriptors → a.reads ≡ b.reads → a.requests ≡ b.requests
    → a.causes ≡ b.causes → a.frames ≡ b.frames → a.wholes ≡ b.wholes → a ≡ b
lists_same a b n p d r q c f w =
    ap (λ (x : List ℕ). made x a.packets a.descriptors a.reads a.requests a.causes a.frames a.wholes) n
    ∙ ap (λ (x : List (List ℕ)). made b.numbers x a.descriptors a.reads a.requests a.causes a.frames a.wholes) p
    ∙ ap (λ (x : List (List ℕ)). made b.numbers b.packets x a.reads a.requests a.causes a.frames a.wholes) d
    ∙ ap (λ (x : List BytesState). made b.numbers b.packets b.descriptors x a.requests a.causes a.frames a.wholes) r
    ∙ ap (λ (x : List Request). made b.numbers b.packets b.descriptors b.reads x a.causes a.frames a.wholes) q
    ∙ ap (λ (x : List Cause). made b.numbers b.packets b.descriptors b.reads b.requests x a.frames a.wholes) c
    ∙ ap (λ (x : List (List ℕ)). made b.numbers b.packets b.descriptors b.reads b.requests b.causes x a.wholes) f
    ∙ ap (λ (x : List Entry). made b.numbers b.packets b.descriptors b.reads b.requests b.causes b.frames x) w

-- lists that follow others leave an entry's share, and follow what is left
share_join : (s : Share) (l m : Lists) → HoldsShare s l → share_of s (join l m) ≡ share_of s l
share_join s l m h =
    lists_same (share_of s (join l m)) (share_of s l)
    (take-append-le s.numbers l.numbers m.numbers h.has_numbers)
    (take-append-le s.packets l.packets m.packets h.has_packets)
    (take-append-le s.descriptors l.descriptors m.descriptors h.has_descriptors)
    (take-append-le s.reads l.reads m.reads h.has_reads)
    (take-append-le s.requests l.requests m.requests h.has_requests)
    (take-append-le s.causes l.causes m.causes h.has_causes)
    (take-append-le s.frames l.frames m.frames h.has_frames)
    (take-append-le s.wholes l.wholes m.wholes h.has_wholes)

rest_join : (s : Share) (l m : Lists) → HoldsShare s l → rest_of s (join l m) ≡ join (rest_of s l) m
rest_join s l m h =
    lists_same (rest_of s (join l m)) (join (rest_of s l) m)
    (drop-append-le s.numbers l.numbers m.numbers h.has_numbers)
    (drop-append-le s.packets l.packets m.packets h.has_packets)
    (drop-append-le s.descriptors l.descriptors m.descriptors h.has_descriptors)
    (drop-append-le s.reads l.reads m.reads h.has_reads)
    (drop-append-le s.requests l.requests m.requests h.has_requests)
    (drop-append-le s.causes l.causes m.causes h.has_causes)
    (drop-append-le s.frames l.frames m.frames h.has_frames)
    (drop-append-le s.wholes l.wholes m.wholes h.has_wholes)

longer : {A : Type 0} (n : ℕ) (xs ys : List A) → n ≤ length xs → n ≤ length (xs ++ ys)
longer n xs ys le =
    let long : length (xs ++ ys) ≡ length xs + length ys = length-append xs ys in omega (arith, le, long)

holds_join : (s : Share) (l m : Lists) → HoldsShare s l → HoldsShare s (join l m)
holds_join s l m h = record {
  has_numbers = longer s.numbers l.numbers m.numbers h.has_numbers;
  has_packets = longer s.packets l.packets m.packets h.has_packets;
  has_descriptors = longer s.descriptors l.descriptors m.descriptors h.has_descriptors;
  has_reads = longer s.reads l.reads m.reads h.has_reads;
  has_requests = longer s.requests l.requests m.requests h.has_requests;
  has_causes = longer s.causes l.causes m.causes h.has_causes;
  has_frames = longer s.frames l.frames m.frames h.has_frames;
  has_wholes = longer s.wholes l.wholes m.wholes h.has_wholes;
  are_whole = subst AreKeptWhole (sym (take-append-le s.wholes l.wholes m.wholes h.has_wholes)) h.are_whole;
}

-- the share that takes all of these lists
abbrev pub all_share : Lists → Share
all_share l = record {
  numbers = length l.numbers;
  packets = length l.packets;
  descriptors = length l.descriptors;
  reads = length l.reads;
  requests = length l.requests;
  causes = length l.causes;
  frames = length l.frames;
  wholes = length l.wholes;
}

share_all : (l : Lists) → share_of (all_share l) l ≡ l
share_all l =
    lists_same (share_of (all_share l) l) l
    (take-length l.numbers)
    (take-length l.packets)
    (take-length l.descriptors)
    (take-length l.reads)
    (take-length l.requests)
    (take-length l.causes)
    (take-length l.frames)
    (take-length l.wholes)

rest_all : (l : Lists) → rest_of (all_share l) l ≡ nothing
rest_all l =
    lists_same (rest_of (all_share l) l) nothing
    (drop-length l.numbers)
    (drop-length l.packets)
    (drop-length l.descriptors)
    (drop-length l.reads)
    (drop-length l.requests)
    (drop-length l.causes)
    (drop-length l.frames)
    (drop-length l.wholes)

holds_all : (l : Lists) → AreKeptWhole l.wholes → HoldsShare (all_share l) l
holds_all l kept = record {
  has_numbers = omega arith;
  has_packets = omega arith;
  has_descriptors = omega arith;
  has_reads = omega arith;
  has_requests = omega arith;
  has_causes = omega arith;
  has_frames = omega arith;
  has_wholes = omega arith;
  are_whole = subst AreKeptWhole (sym (take-length l.wholes)) kept;
}

-- one header, with its share beside it
one_entry : (h : Header) (m : Lists) → share h ≡ all_share m → entries_of (h ∷ []) m ≡ entry_of h m ∷ []
one_entry h m is =
    ap (λ (s : Share). entry_of h (share_of s m) ∷ []) is ∙ ap (λ (l : Lists). entry_of h l ∷ []) (share_all m)

one_complete : (h : Header) (m : Lists) → share h ≡ all_share m → AreKeptWhole m.wholes → AreComplete (h ∷ []) m
one_complete h m is kept =
    subst (λ (s : Share). HoldsShare s m × (rest_of s m ≡ nothing)) (sym is) (holds_all m kept, rest_all m)

-- A FURTHER HEADER, with its share beside it, is a further entry
entries_join : (headers : List Header) (l m : Lists) (h : Header) → AreComplete headers l → share h ≡ all_share m → entries_of (headers ++ h ∷ []) (join l m) ≡ entries_of headers l ++ entry_of h m ∷ []
entries_join [] l m h complete is = ap (λ (x : Lists). entries_of (h ∷ []) (join x m)) complete ∙ one_entry h m is
entries_join (g ∷ headers) l m h complete is =
    ap (λ (x : Lists). entry_of g x ∷ entries_of (headers ++ h ∷ []) (rest_of (share g) (join l m))) (share_join (share g) l m complete.0)
    ∙ ap (λ (x : Lists). entry_of g (share_of (share g) l) ∷ entries_of (headers ++ h ∷ []) x) (rest_join (share g) l m complete.0)
    ∙ ap (λ (x : List Entry). entry_of g (share_of (share g) l) ∷ x) (entries_join headers (rest_of (share g) l) m h complete.1 is)

complete_join : (headers : List Header) (l m : Lists) (h : Header) → AreComplete headers l → share h ≡ all_share m → AreKeptWhole m.wholes
    → AreComplete (headers ++ h ∷ []) (join l m)
complete_join [] l m h complete is kept = subst (λ (x : Lists). AreComplete (h ∷ []) (join x m)) (sym complete) (one_complete h m is kept)
complete_join (g ∷ headers) l m h complete is kept = (
  holds_join (share g) l m complete.0,
  subst (AreComplete (headers ++ h ∷ [])) (sym (rest_join (share g) l m complete.0)) (complete_join headers (rest_of (share g) l) m h complete.1 is kept),
)

-- the same by what a push leaves
pub entries_more : (headers later : List Header) (s t : PartsState) (m : Lists) (h : Header) → AreComplete headers s.lists → later ≡ headers ++ h ∷ [] → PutsParts s m t → share h ≡ all_share m → entries_of later t.lists ≡ entries_of headers s.lists ++ entry_of h m ∷ []
entries_more headers later s t m h complete more puts is =
    ap (λ (x : List Header). entries_of x t.lists) more
    ∙ ap (λ (x : Lists). entries_of (headers ++ h ∷ []) x) puts.lists
    ∙ entries_join headers s.lists m h complete is

complete_more : (headers later : List Header) (s t : PartsState) (m : Lists) (h : Header) → AreComplete headers s.lists → later ≡ headers ++ h ∷ [] → PutsParts s m t → share h ≡ all_share m → AreComplete later t.lists
complete_more headers later s t m h complete more puts is =
    subst (λ (x : List Header). AreComplete x t.lists) (sym more)
    (subst (λ (x : Lists). AreComplete (headers ++ h ∷ []) x) (sym puts.lists) (complete_join headers s.lists m h complete is puts.wholes))

-- and there is room for one less
pub kept_more : (headers later : List Header) (s t : PartsState) (m : Lists) (h : Header) (capacity grown room : ℕ) → ArePartsKept headers s capacity room → PutsParts s m t
    → later ≡ headers ++ h ∷ [] → share h ≡ all_share m → grown ≡ capacity
    → ArePartsKept later t grown (room - 1)
kept_more headers later s t m h capacity grown room kept puts more is same =
    let long : length later ≡ length headers + 1 = ap length more ∙ length-append headers (h ∷ []) in
    record {
      complete = complete_more headers later s t m h kept.complete more puts is;
      for_headers = omega (arith, kept.for_headers, puts.ready, long, same);
      for_parts = omega (arith, kept.for_parts, puts.ready);
    }

-- a reset has its packet beside it where it has one
pub reset_share : (at : EndMark) (number n : ℕ) (cause : Cause) (is : Bool) (packet : Option (List ℕ)) → is ≡ is_some packet → share (header.Reset at is number) ≡ all_share (with_cause n cause packet)
reset_share at number n cause is None e = ap (λ (b : Bool). share (header.Reset at b number)) e
reset_share at number n cause is (Some p) e = ap (λ (b : Bool). share (header.Reset at b number)) e

pub reset_entry : (at : EndMark) (number n : ℕ) (cause : Cause) (is : Bool) (packet : Option (List ℕ)) → is ≡ is_some packet → entry_of (header.Reset at is number) (with_cause n cause packet) ≡ entry.Reset (end_at at number) cause packet n
reset_entry at number n cause is None e =
    ap (λ (b : Bool). entry_of (header.Reset at b number) (with_cause n cause None)) e
reset_entry at number n cause is (Some p) e =
    ap (λ (b : Bool). entry_of (header.Reset at b number) (with_cause n cause (Some p))) e
