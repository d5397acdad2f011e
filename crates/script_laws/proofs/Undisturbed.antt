-- Where nothing disturbed a disk, its reads show the last earlier write alone.
use Rattle.std.proofs.Common.{◌≡◌, inl, inr, ℕ, false, List, [], ◌∷◌, ◌∙◌, arith}
use Rattle.runs.specs.Lawful.{log_of}
use Rattle.world_parts.specs.lane_laws.DiskLog.{DiskLog, after}
use Rattle.world_parts.specs.lane_models.DiskEvent.{DiskEvent}
use Rattle.world_parts.specs.lane_models.LaneState.{Shape}
use Rattle.world_parts.specs.lane_laws.Headline.{CompletionShows, ShowsLast}
use Rattle.world_parts.specs.world_laws.Along.{happened}
use Rattle.world_parts.specs.world_laws.Settle.{SettleEntry}
use Rattle.script_laws.specs.Contents.{AreUndisturbed, CompletionShowsLast, ShowsLastAlone, disturbs}
use Rattle.script_laws.specs.Told.{log_at}
use Rattle.vdisk_msg.specs.declared.request.Request.{Request}
use Rattle.vdisk_msg.specs.declared.request.Request.TheVariants.{Flush, Read, Write}

-- an event that disturbs nothing leaves what was disturbed
disturbed_stays : (l : DiskLog) (event : DiskEvent) → disturbs event ≡ false
    → (after l event).work.disturbed_below ≡ l.work.disturbed_below
disturbed_stays l event is = grind arith

none_disturbed : (l : DiskLog) (events : List DiskEvent) → AreUndisturbed events → l.work.disturbed_below ≡ 0
    → (log_of after l events).work.disturbed_below ≡ 0
none_disturbed l [] are none = none
none_disturbed l (event ∷ events) are none =
    none_disturbed (after l event) events are.1 (disturbed_stays l event are.0 ∙ none)

alone : (first : List ℕ) (l : DiskLog) (request : Request) (bytes : List ℕ) → l.work.disturbed_below ≡ 0
    → ShowsLast first l request bytes → ShowsLastAlone first l request bytes
alone first l (Read block count) bytes none shows = (
  shows.0,
  λ b below. elim (shows.1 b below) [
    | inl last ↦ last
    | inr later ↦ absurd (omega (arith, later.disturbed, none))
  ],
)
alone first l (Write block count fill) bytes none shows = shows
alone first l Flush bytes none shows = shows

pub shows_last : (shape : Shape) (x : ℕ) (first : List ℕ) (before : List SettleEntry) (status : ℕ) (bytes : List ℕ)
    → AreUndisturbed (happened x before) → CompletionShows first (log_at shape x before) status bytes
    → CompletionShowsLast first (log_at shape x before) status bytes
shows_last shape x first before status bytes are shows = grind (arith, alone, none_disturbed)
