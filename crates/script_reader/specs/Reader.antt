-- What a reader of lines keeps, and how it is seen.
use Rattle.std.specs.Prelude.{◌≡◌, ◌≤◌, false, [], ◌++◌, length, if◌then◌else◌, vec_capacity}
use Rattle.script_reader.specs.declared.lines.LinesStop.TheVariants.{TooLong, TooMany}
use Rattle.script_reader.specs.declared.lines.Lines.TheInside.{Inside}
use Rattle.script_reader.specs.LinesState.{LinesState, most_of_a_read}
use Rattle.domain_script.specs.Pieces.{HasNoFeed}
use Rattle.domain_script.specs.Limits.{most_line_bytes, most_lines}

-- the line stands for itself once it was given, and before for bytes that are held
abbrev pub reader_state : Inside → LinesState
reader_state reader = record {
  held = (if reader.given then [] else reader.line.items) ++ reader.piece;
  line = if reader.given then reader.line.items else [];
  number = reader.number;
  stop = reader.stop;
}

pub record IsReader (reader : Inside) : Type 0 where
  pub short : length reader.line.items ≤ most_line_bytes
  pub no_feed : HasNoFeed reader.line.items
  -- the piece is what is left of one read
  pub piece : length reader.piece ≤ most_of_a_read
  -- there is room for the longest line
  pub room : most_line_bytes ≤ vec_capacity reader.line
  pub few : reader.number ≤ most_lines
  -- after the last line that there may be, no line is begun
  pub all : reader.number ≡ most_lines → reader.given ≡ false → reader.line.items ≡ []
  -- a reader that stopped at a limit has given no line
  pub too_long : reader.stop ≡ TooLong → reader.given ≡ false
  pub too_many : reader.stop ≡ TooMany → reader.given ≡ false
