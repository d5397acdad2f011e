-- A run with status 0: its script was read to the end, and its report was written.
use Rattle.std.proofs.Common.{◌≡◌, inl, inr, ℕ, ◌*◌, ◌≤◌, arith, List, [], ◌∷◌, length, sym, ◌∙◌, ap, subst, Option, Some, None, IfSome, refl}
use Rattle.std.specs.Prelude.{IsSome, IsSomeAnd}
use Rattle.std.specs.Io.KnownBytes.{Appends}
use Rattle.disk_law.specs.ListState.{ImageState}
use Rattle.domain_script.specs.Declarations.{AreDisks, Declared}
use Rattle.domain_script.specs.ScriptEvents.{AllSpell, no_names}
use Rattle.domain_script.specs.ScriptLines.{script_lines}
use Rattle.domain_script.specs.NamesState.{NamesState, declared_by}
use Rattle.domain_script.specs.declared.event.DiskDecl.{DiskDecl}
use Rattle.domain_script.specs.declared.event.Event.{Event}
use Rattle.world_parts.specs.domain_laws.Domain.{DomainState, Lanes}
use Rattle.ldom_report.specs.Report.{report}
use Rattle.ldom_entries.specs.declared.entry.Entry.{Entry}
use Rattle.ldom_report.specs.declared.status.Mode.{Mode}
use Rattle.ldom_report.specs.declared.status.Mode.TheVariants as mode
use Rattle.ldom_report.specs.declared.status.Status.{Status}
use Rattle.ldom_report.specs.declared.status.Status.TheVariants as status
use Rattle.script_laws.specs.Behind.{StandsBehind}
use Rattle.script_laws.specs.PlainRun.{one_disk, plain_text}
use Rattle.script_laws.specs.Quiet.{IsQuiet, IsQuietScript}
use Rattle.script_laws.proofs.PlainLaw.{PlainLaw, plain_law}
use Rattle.script_laws.proofs.QuietNames.{quiet_names}
use Rattle.script_laws.specs.Counts.{FaultCounts}
use Rattle.script_laws.specs.Outcomes.{Reports, RunsScript}
use Rattle.script_laws.specs.Reading.{StopsAt}
use Rattle.script_laws.specs.Replayed.{FaultsAre, Replayed}
use Rattle.script_laws.specs.Script.{ReadSoFar}
use Rattle.script_laws.specs.Sized.{SizeIs}
use Rattle.script_laws.specs.Whole.{RunsPlainly, RunsWhole, SpellsAll}
use Rattle.disk_law.specs.ListState.{attached}
use Rattle.world_parts.specs.Declared.{bytes_needed, nets_of, world_of}
use Rattle.world_parts.specs.Endings.{EndsSo, ending}
use Rattle.world_parts.specs.Script.{FitsScript, ScriptParts, events_of, journal_of}
use Rattle.ldom_report.specs.LinesEnd.{counted_lines}
use Rattle.script_laws.proofs.OneReading.{all_read, as_many, one_reading}
use Rattle.script_laws.proofs.ReadLemmas.{are_declared, none_declared}

ran_done : (ran why : Status) (old new : Option (List ℕ)) (text : List ℕ) → why ≡ status.Done → Reports ran why old new text → (ran ≡ status.Done) × Appends old new text
ran_done ran why old new text done (inl told) = (sym told.0 ∙ done, told.1)
ran_done ran why old new text done (inr failed) = absurd (cc (done, failed.0))

-- an image of a run that came to its end is as long as its disks need
long_at_end : {D : Type 0} (size : D → ℕ) (least : ℕ) (told : Option (List ℕ)) (image : Option D) (given : List ℕ) → told ≡ Some given → IsSome image → SizeIs size status.Done least told image → least ≤ length given
long_at_end size least told None given is some sized = absurd (cc some)
long_at_end size least told (Some disk) given is some sized = subst (λ (o : Option (List ℕ)). IfSome o (λ bytes. least ≤ length bytes)) is sized.1

seen_so : {D : Type 0} (seen : D → ImageState) (image : Option D) (i : ImageState) → IfSome image (λ d. StandsBehind (seen d) i) → IsSome image → IsSomeAnd image (λ d. StandsBehind (seen d) i)
seen_so seen None i is some = absurd (cc some)
seen_so seen (Some d) i is some = is

-- WHAT A RUN ENDED WITH at the script's end
module _ {D : Type 0} (shown : Mode) (seen : D → ImageState) (script now : Option (List ℕ)) (gives : ℕ → Option (List ℕ)) (ran : Status) (lines : ℕ) (names : NamesState) (journal : List Entry) (image : Option D) (lanes : Option Lanes) (old new : Option (List ℕ))
    (run : Replayed seen script now gives ran lines names journal image lanes) (why : Status) (reports : Reports ran why old new (report shown (declared_by names) lines journal ran)) (done : why ≡ status.Done) where
  abbrev read_events : List Event
  read_events = events_of run.parts

  told : (ran ≡ status.Done) × Appends old new (report shown (declared_by names) lines journal ran)
  told = ran_done ran why old new (report shown (declared_by names) lines journal ran) done reports

  stop : StopsAt status.Done run.stopped.left run.stopped.held now names run.stopped.count (length journal)
  stop = subst (λ (w : Status). StopsAt w run.stopped.left run.stopped.held now names run.stopped.count (length journal)) told.0 run.stopped.stop

  -- all lines were read, and in one way
  all_spelled : SpellsAll script read_events names
  all_spelled bytes events known_names known spelled =
      let read : ReadSoFar (Some bytes) run.stopped.left read_events names run.stopped.count =
      subst (λ (s : Option (List ℕ)). ReadSoFar s run.stopped.left read_events names run.stopped.count) known run.stopped.read in
      let all : script_lines bytes ≡ read.texts = all_read bytes run.stopped.left read.texts stop.0 read.taken.taken in
      one_reading read.texts no_names known_names names events read_events (subst (λ (l : List (List ℕ)). AllSpell l no_names events known_names) all spelled) read.spell

  lines_are : lines ≡ length read_events
  lines_are =
      let read = run.stopped.read in
      subst (λ (w : Status). lines ≡ counted_lines w run.stopped.count) told.0 run.stopped.lines_are
      ∙ read.counts ∙ sym (as_many read.texts no_names names read_events read.spell)

  text_is : report shown (declared_by names) lines journal ran ≡ report shown (declared_by names) (length read_events) journal status.Done
  text_is =
      ap (λ (w : Status). report shown (declared_by names) lines journal w) told.0
      ∙ ap (λ (n : ℕ). report shown (declared_by names) n journal status.Done) lines_are

  faults : IsSome image × (run.final.first.image.faults ≡ 0)
  faults = subst (λ (w : Status). FaultsAre w image run.final.first.image.faults) told.0 run.faults_are

  pub runs_whole : RunsWhole shown seen script names run.parts run.final journal image old new
  runs_whole = record {
    all = all_spelled;
    none_cut = subst (λ (w : Status). EndsSo (ending w) run.parts) told.0 run.journal_is.ends;
    faultless = faults.1;
    image_is = seen_so seen image run.final.first.image run.image_is faults.0;
    written = subst (λ (l : List ℕ). Appends old new l) text_is told.1;
  }

left_so : {D : Type 0} (seen : D → ImageState) (image : Option D) (i : ImageState) (left : List ℕ) → IsSomeAnd image (λ d. StandsBehind (seen d) i) → i.told ≡ Some left
    → IsSomeAnd image (λ d. (seen d).told ≡ Some left)
left_so seen None i left is same = absurd is
left_so seen (Some d) i left is same = is.told ∙ same

-- A QUIET SCRIPT, over an image that tells its bytes
module _ {D : Type 0} (seen : D → ImageState) (size : D → ℕ) (script now : Option (List ℕ)) (gives : ℕ → Option (List ℕ)) (why ended : Status) (journal : List Entry) (image : Option D) (lanes : Option Lanes) (old new : Option (List ℕ)) (before after : FaultCounts)
    (runs : RunsScript mode.Run (record { gives = gives; seen = seen; size = size }) (record { left = script; written = old; failed = before }) (record { left = now; written = new; failed = after }) (record { status = why; ran = ended; journal = journal; image = image; lanes = lanes })) (bytes : List ℕ) (events : List Event) (known : script ≡ Some bytes) (done : why ≡ status.Done) (disk : DiskDecl) (given : List ℕ) (quiet : IsQuietScript bytes disk events)
    (gave : gives (512 * disk.blocks) ≡ Some given) where
  abbrev parts : ScriptParts
  parts = runs.replayed.parts

  abbrev final : DomainState
  final = runs.replayed.final

  whole : RunsWhole mode.Run seen script runs.names parts final journal image old new
  whole = runs.whole done

  one : (events ≡ events_of parts) × (quiet.names ≡ runs.names)
  one = whole.all bytes events quiet.names known quiet.spelled

  -- it declares one disk
  alone : declared_by quiet.names ≡ one_disk disk
  alone = quiet_names disk (script_lines bytes) events quiet.names quiet.quiet quiet.spelled

  declared : quiet.names.disks ≡ disk ∷ []
  declared = ap (λ (d : Declared). d.disks) alone

  all_declared : declared_by runs.names ≡ one_disk disk
  all_declared = ap declared_by (sym one.1) ∙ alone

  declares : runs.names.disks ≡ disk ∷ []
  declares = ap (λ (n : NamesState). n.disks) (sym one.1) ∙ declared

  are : AreDisks (disk ∷ [])
  are = subst AreDisks declared (are_declared (script_lines bytes) no_names quiet.names events none_declared quiet.spelled).disks

  least : bytes_needed (disk ∷ []) ≡ 512 * disk.blocks
  least = omega arith

  gave_one : gives (bytes_needed (disk ∷ [])) ≡ Some given
  gave_one = ap gives least ∙ gave

  -- the image is as long as it needs
  sized : SizeIs size status.Done (bytes_needed (disk ∷ [])) (gives (bytes_needed (disk ∷ []))) image
  sized =
      let ran = ran_done ended why old new (report mode.Run (declared_by runs.names) runs.lines journal ended) done runs.reports in
      subst (λ (l : List DiskDecl). SizeIs size status.Done (bytes_needed l) (gives (bytes_needed l)) image) declares
      (subst (λ (w : Status). SizeIs size w (bytes_needed runs.names.disks) (gives (bytes_needed runs.names.disks)) image) ran.0 runs.sized)

  long : 512 * disk.blocks ≤ length given
  long =
      subst (λ (n : ℕ). n ≤ length given) least
      (long_at_end size (bytes_needed (disk ∷ [])) (gives (bytes_needed (disk ∷ []))) image given gave_one (some_image image whole.image_is) sized)
    where
      some_image : (i : Option D) → IsSomeAnd i (λ d. StandsBehind (seen d) final.first.image) → IsSome i
      some_image None is = absurd is
      some_image (Some d) is = refl

  fits : FitsScript 0 (world_of (disk ∷ []) [] (attached (gives (bytes_needed (disk ∷ []))))) parts final
  fits =
      subst (λ (d : Declared). FitsScript 0 (world_of d.disks (nets_of d.ports) (attached (gives (bytes_needed d.disks)))) parts final) all_declared
      runs.replayed.journal_is.fits

  law : PlainLaw disk given (events_of parts) (journal_of parts) final.first
  law =
      plain_law disk (attached (gives (bytes_needed (disk ∷ [])))) given parts final are.0 gave_one long
      (subst (λ (l : List Event). IsQuiet disk l) one.0 quiet.quiet) whole.none_cut fits whole.faultless

  text_is_plain : report mode.Run (declared_by runs.names) (length (events_of parts)) journal status.Done ≡ plain_text disk given events
  text_is_plain = grind (arith, all_declared, law, one)

  pub runs_plainly : RunsPlainly (λ d. (seen d).told) disk given events journal image old new
  runs_plainly = grind (arith, text_is_plain, whole, left_so, law, one)
