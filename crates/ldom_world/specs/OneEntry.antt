-- Which lines want no memory where the journal has room for one entry more.
use Rattle.std.specs.Prelude.{◌≤◌, ⊤}
use Rattle.domain_script.specs.declared.event.Event.{Event}
use Rattle.domain_script.specs.declared.event.Event.TheVariants as line
use Rattle.recorded_lanes.specs.kept_requests.Kept.{HasFewBytes}

-- A LINE that makes one entry at most, and has at most 16 bytes to keep beside it: each that isn't named here does
abbrev pub MakesOneEntry : Event → Type 0
MakesOneEntry (line.Issue disk request) = HasFewBytes request
MakesOneEntry (line.Poke end at bytes) = bytes.len ≤ 16
MakesOneEntry (line.Step end count) = ⊥
MakesOneEntry (line.Round count) = ⊥
MakesOneEntry line.Settle = ⊥
MakesOneEntry other = ⊤
