-- What stands beside the headers of entries: each list in the order of the entries.
use Rattle.std.specs.Prelude.{ℕ, ◌≤◌, List, [], ◌++◌, length, take, drop}
use Rattle.vdisk_msg.specs.declared.request.Request.{Request}
use Rattle.vio_tag.specs.declared.cause.Cause.{Cause}
use Rattle.kept_requests.specs.Bytes.{BytesState}
use Rattle.ldom_entries.specs.Whole.{AreKeptWhole}
use Rattle.ldom_entries.specs.declared.entry.Entry.{Entry}

-- numbers, packets, descriptors, the bytes of reads, requests, causes of resets, frames of ports, and entries that are
-- kept whole
pub record Lists : Type 0 where
  pub numbers : List ℕ
  pub packets : List (List ℕ)
  pub descriptors : List (List ℕ)
  pub reads : List BytesState
  pub requests : List Request
  pub causes : List Cause
  pub frames : List (List ℕ)
  pub wholes : List Entry

-- these lists
abbrev pub made : List ℕ → List (List ℕ) → List (List ℕ) → List BytesState → List Request → List Cause → List (List ℕ) → List Entry → Lists
made n p d r q c f w = record { numbers = n; packets = p; descriptors = d; reads = r; requests = q; causes = c; frames = f; wholes = w }

-- how many of each list an entry has
pub record Share : Type 0 where
  pub numbers : ℕ
  pub packets : ℕ
  pub descriptors : ℕ
  pub reads : ℕ
  pub requests : ℕ
  pub causes : ℕ
  pub frames : ℕ
  pub wholes : ℕ

abbrev pub nothing : Lists
nothing = record { numbers = []; packets = []; descriptors = []; reads = []; requests = []; causes = []; frames = []; wholes = [] }

-- one list alone
abbrev pub only_numbers : List ℕ → Lists
only_numbers numbers = record nothing { numbers = numbers }

abbrev pub only_packets : List (List ℕ) → Lists
only_packets packets = record nothing { packets = packets }

-- the lists of some entries, and then those of further ones
abbrev pub join : Lists → Lists → Lists
join l m = record {
  numbers = l.numbers ++ m.numbers;
  packets = l.packets ++ m.packets;
  descriptors = l.descriptors ++ m.descriptors;
  reads = l.reads ++ m.reads;
  requests = l.requests ++ m.requests;
  causes = l.causes ++ m.causes;
  frames = l.frames ++ m.frames;
  wholes = l.wholes ++ m.wholes;
}

-- what an entry has, and what is left for those after it
abbrev pub share_of : Share → Lists → Lists
share_of s l = record {
  numbers = take s.numbers l.numbers;
  packets = take s.packets l.packets;
  descriptors = take s.descriptors l.descriptors;
  reads = take s.reads l.reads;
  requests = take s.requests l.requests;
  causes = take s.causes l.causes;
  frames = take s.frames l.frames;
  wholes = take s.wholes l.wholes;
}

abbrev pub rest_of : Share → Lists → Lists
rest_of s l = record {
  numbers = drop s.numbers l.numbers;
  packets = drop s.packets l.packets;
  descriptors = drop s.descriptors l.descriptors;
  reads = drop s.reads l.reads;
  requests = drop s.requests l.requests;
  causes = drop s.causes l.causes;
  frames = drop s.frames l.frames;
  wholes = drop s.wholes l.wholes;
}

-- the lists are long enough for an entry, and what it takes of the entries that are kept whole is of such a kind
pub record HoldsShare (s : Share) (l : Lists) : Type 0 where
  pub has_numbers : s.numbers ≤ length l.numbers
  pub has_packets : s.packets ≤ length l.packets
  pub has_descriptors : s.descriptors ≤ length l.descriptors
  pub has_reads : s.reads ≤ length l.reads
  pub has_requests : s.requests ≤ length l.requests
  pub has_causes : s.causes ≤ length l.causes
  pub has_frames : s.frames ≤ length l.frames
  pub has_wholes : s.wholes ≤ length l.wholes
  pub are_whole : AreKeptWhole (take s.wholes l.wholes)
