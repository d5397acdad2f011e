-- What each end said and heard since it last began anew: the packets that it put and took, newest first.
use Rattle.std.specs.Prelude.{ℕ, ◌+◌, Bool, true, false, nat_eq, ◌&&◌, List, [], ◌∷◌}
use Rattle.ldc_packet.specs.Spelling.{ctrl_at, type_at}
use Rattle.ldc_queue.specs.declared.end.End.{End}
use Rattle.ldc_queue.specs.declared.end.End.TheVariants.{A, B}
use Rattle.ldc_queue.specs.Transcript.{Heard, Said, Utterance}
use Rattle.lane_models.specs.WireEvent.{Blocked, Declines, Idle, Injected, Joined, Lost, Poked, Reset, Sent, Took, WireEvent}

pub record TranscriptLog : Type 0 where
  pub a : List Utterance
  pub b : List Utterance
  -- how often A's link came up, which is how many sessions it began
  pub links : ℕ

abbrev pub nothing_said : TranscriptLog
nothing_said = record { a = []; b = []; links = 0 }

abbrev pub transcript_of : End → TranscriptLog → List Utterance
transcript_of A l = l.a
transcript_of B l = l.b

-- RDX, with which A's link is up as it is put
abbrev pub is_rdx : List ℕ → Bool
is_rdx packet = nat_eq (type_at packet) 1 && nat_eq (ctrl_at packet) 4

abbrev pub more_if : Bool → ℕ → ℕ
more_if true n = n + 1
more_if false n = n

abbrev pub silenced : End → TranscriptLog → TranscriptLog
silenced A l = record l { a = [] }
silenced B l = record l { b = [] }

abbrev pub hears : End → List ℕ → TranscriptLog → TranscriptLog
hears A packet l = record l { a = Heard packet ∷ l.a }
hears B packet l = record l { b = Heard packet ∷ l.b }

abbrev pub says : End → List ℕ → TranscriptLog → TranscriptLog
says A packet l = record l { a = Said packet ∷ l.a; links = more_if (is_rdx packet) l.links }
says B packet l = record l { b = Said packet ∷ l.b }

-- After one more event. A packet that a reset carries was never heard.
abbrev pub transcript_moved : TranscriptLog → WireEvent → TranscriptLog
transcript_moved l (Joined e lost) = silenced e l
transcript_moved l (Reset e cause packet lost) = silenced e l
transcript_moved l (Took e packet opens) = hears e packet l
transcript_moved l (Sent e packet opens) = says e packet l
transcript_moved l (Idle e) = l
transcript_moved l (Blocked e) = l
transcript_moved l (Lost e packet) = l
transcript_moved l (Injected e packet) = l
transcript_moved l (Poked e at bytes) = l
transcript_moved l (Declines d) = l
