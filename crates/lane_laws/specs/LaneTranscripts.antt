-- What the ends of a lane said and heard, whoever meddles.
use Rattle.std.specs.Prelude.{List}
use Rattle.runs.specs.Lawful.{log_of}
use Rattle.lane_models.specs.TranscriptLog.{TranscriptLog, nothing_said}
use Rattle.lane_laws.specs.DiskLog.{after_transcript}
use Rattle.lane_models.specs.DiskEvent.{DiskEvent}

-- what the two ends said and heard after these events, each since it last began
abbrev pub transcript_behind : List DiskEvent → TranscriptLog
transcript_behind events = log_of after_transcript nothing_said events
