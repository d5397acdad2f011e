-- Why the lines of a source stopped, as a status.
use Rattle.std.proofs.Common.{◌≡◌, ◌≢◌, inl, inr, ℕ, refl, ap, ◌∙◌}
use Rattle.script_reader.specs.declared.lines.LinesStop.{LinesStop}
use Rattle.script_reader.specs.declared.lines.LinesStop.TheVariants.{Going, Ended, TooLong, TooMany}
use Rattle.script_reader.specs.LinesState.{ends_after}
use Rattle.ldom_report.specs.declared.status.LimitKind.TheVariants as limit
use Rattle.ldom_report.specs.declared.status.Status.TheVariants as status
use Rattle.ldom_report.specs.declared.stop.Stop.{Stop}
use Rattle.ldom_report.specs.declared.stop.Stop.TheVariants.{End, Source, Limit, Memory, Faulty, Entries}
use Rattle.ldom_report.specs.Stops.{AtMostOnce, EndsTold, IsReaders, ReaderStandsAt, stop_status}

pub readers_of : (stop : Stop) (lines : ℕ) → IsReaders (stop_status stop lines)
readers_of End lines = tt
readers_of Source lines = tt
readers_of (Limit kind) lines = tt
readers_of Memory lines = tt
readers_of (Faulty fault) lines = tt
readers_of Entries lines = tt

-- of them all only the end is `Done`
pub done_at_end : (stop : Stop) (lines : ℕ) → stop ≢ End → stop_status stop lines ≢ status.Done
done_at_end End lines other is = other refl
done_at_end Source lines other is = cc is
done_at_end (Limit kind) lines other is = cc is
done_at_end Memory lines other is = cc is
done_at_end (Faulty fault) lines other is = cc is
done_at_end Entries lines other is = cc is

-- and only a source that failed is a fault of the source
pub failed_at_source : (stop : Stop) (lines : ℕ) → stop_status stop lines ≡ status.SourceFault → stop ≡ Source
failed_at_source End lines is = cc is
failed_at_source Source lines is = refl
failed_at_source (Limit kind) lines is = cc is
failed_at_source Memory lines is = cc is
failed_at_source (Faulty fault) lines is = cc is
failed_at_source Entries lines is = cc is

-- and only who runs the lines wants memory
pub wanted_memory : (stop : Stop) (lines : ℕ) → stop_status stop lines ≡ status.NoMemory → stop ≡ Memory
wanted_memory End lines is = cc is
wanted_memory Source lines is = cc is
wanted_memory (Limit kind) lines is = cc is
wanted_memory Memory lines is = refl
wanted_memory (Faulty fault) lines is = cc is
wanted_memory Entries lines is = cc is

-- a reader hears the end at most once
pub told_once : (lines : LinesStop) (before now : ℕ) → now ≡ ends_after lines before → AtMostOnce before now
told_once Ended before now is = inr is
told_once Going before now is = inl is
told_once TooLong before now is = inl is
told_once TooMany before now is = inl is

-- and never while it hasn't ended
not_told : (lines : LinesStop) (before now : ℕ) → lines ≢ Ended → now ≡ ends_after lines before → now ≡ before
not_told Ended before now other is = absurd (other refl)
not_told Going before now other is = is
not_told TooLong before now other is = is
not_told TooMany before now other is = is

-- how often the source said that it is at its end, by why the lines stopped
pub ends_told : (stop : Stop) (count : ℕ) (lines : LinesStop) (before now : ℕ) → ReaderStandsAt stop lines → now ≡ ends_after lines before → EndsTold (stop_status stop count) before now
ends_told End count lines before now stands is = is ∙ ap (λ (l : LinesStop). ends_after l before) stands
ends_told Source count lines before now stands is = not_told lines before now stands is
ends_told (Limit limit.Lines) count lines before now stands is = not_told lines before now stands is
ends_told (Limit limit.Bytes) count lines before now stands is = not_told lines before now stands is
ends_told (Limit limit.Entries) count lines before now stands is = told_once lines before now is
ends_told Memory count lines before now stands is = told_once lines before now is
ends_told (Faulty fault) count lines before now stands is = told_once lines before now is
ends_told Entries count lines before now stands is = told_once lines before now is
