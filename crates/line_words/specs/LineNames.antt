-- The names in an entry's line, and what begins with its kind and a name.
use Rattle.std.specs.Prelude.{ℕ, List, [], ◌++◌, take, slice_get, Option, Some, None, codes, decimal}
use Rattle.domain_script.specs.declared.event.EndName.{EndName}
use Rattle.domain_script.specs.declared.event.Lane.{Lane}
use Rattle.domain_script.specs.spelled.Name.{Name}
use Rattle.domain_script.specs.Declarations.{Declared, names_of_kind}
use Rattle.ldom_entries.specs.declared.entry.Who.{Who}
use Rattle.ldom_entries.specs.declared.entry.Who.TheVariants.{Lane as OfLane, End as OfEnd}
use Rattle.line_words.specs.LineWords.{side_text}

-- a name's bytes, nothing where there is no name
abbrev pub name_text : Option Name → List ℕ
name_text (Some name) = take name.len name.bytes
name_text None = []

-- the name of a lane, by its kind and its number in the order of declaration; and that of an end
abbrev pub lane_name : Declared → Lane → List ℕ
lane_name declared lane = name_text (slice_get (names_of_kind lane.kind declared) lane.number)

abbrev pub end_name : Declared → EndName → List ℕ
end_name declared e = lane_name declared e.lane ++ side_text e.side

-- the name of whom an entry is about
abbrev pub who_name : Declared → Who → List ℕ
who_name declared (OfLane lane) = lane_name declared lane
who_name declared (OfEnd e) = end_name declared e

-- the kind of a request's or a frame's entry, its lane and its id
abbrev pub id_text : List ℕ → Declared → Lane → ℕ → List ℕ
id_text kind declared lane id = kind ++ lane_name declared lane ++ codes " " ++ decimal id

-- the kind of an entry and its end; and a number after them
abbrev pub end_text : List ℕ → Declared → EndName → List ℕ
end_text kind declared e = kind ++ end_name declared e

abbrev pub number_text : List ℕ → Declared → EndName → ℕ → List ℕ
number_text kind declared e n = end_text kind declared e ++ codes " " ++ decimal n
