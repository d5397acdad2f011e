-- A clean script is run to its end, where memory suffices and no count rose.
use Rattle.std.proofs.Common.{◌≡◌, ◌≢◌, inl, inr, ℕ, ◌*◌, ◌<◌, replicate, ◌≤◌, List, [], ◌∷◌, ◌++◌, length, refl, sym, ◌∙◌, ap, subst, arith, length-append, Option, Some, None, IfSome}
use Rattle.world_parts.specs.domain_laws.Domain.{Lanes}
use Rattle.std.specs.Prelude.{◌==◌, if◌then◌else◌, Bool, true, false, IsSome}
use Rattle.std.specs.Io.KnownBytes.{prepend_known}
use Rattle.std.specs.Str.{bytes_eq}
use Rattle.std.proofs.lemmas.Slice.Eq.{bytes_eq-Decides}
use Rattle.vio_io.specs.Causes.{Rose}
use Rattle.domain_script.specs.declared.event.Event.{Event}
use Rattle.domain_script.specs.declared.event.LineFault.{LineFault}
use Rattle.domain_script.specs.Faults.{first_fault}
use Rattle.domain_script.specs.NamesState.{NamesState}
use Rattle.domain_script.specs.ScriptLines.{script_lines, with_front, TakesLine, TakesLines}
use Rattle.ldom_entries.specs.declared.entry.Entry.{Entry}
use Rattle.ldom_report.specs.declared.status.LimitKind.{LimitKind}
use Rattle.ldom_report.specs.declared.status.LimitKind.TheVariants.{Lines, Bytes, Entries}
use Rattle.ldom_report.specs.declared.status.Status.{Status}
use Rattle.ldom_report.specs.declared.status.Status.TheVariants as status
use Rattle.domain_script.specs.ScriptLines.{AreShort}
use Rattle.script_laws.specs.Behind.{StandsBehind}
use Rattle.script_laws.specs.Clean.{EndsClean, IsCleanScript, IsFullJournal, NeverFails, StandsStill}
use Rattle.script_laws.specs.Outcomes.{Reports}
use Rattle.ldom_report.specs.LinesEnd.{IsPast}
use Rattle.script_laws.specs.Reading.{IsFaulty}
use Rattle.script_laws.specs.Replayed.{Replayed}
use Rattle.domain_script.specs.ScriptEvents.{AllSpell, no_names}
use Rattle.script_laws.specs.Script.{ReadSoFar}
use Rattle.script_laws.specs.Sized.{SizeIs}
use Rattle.world_parts.specs.Declared.{blocks_of}
use Rattle.world_parts.specs.Script.{events_of}
use Rattle.disk_law.specs.ListState.{ImageState}
use Rattle.domain_script.proofs.FaultLemmas.{no_first_fault}
use Rattle.script_laws.proofs.OneReading.{next_spells, rest_spells}
use Rattle.script_laws.proofs.Sizes.{blocks_stay, long_enough, zeros_are_long}

pub still : (before now : ℕ) → StandsStill before now → Rose before now → ⊥
still before now stands rose = omega (arith, rose stands.could_rise, stands.same)

pub never : {A : Type 0} (faults : A → ℕ) (before now : A) → NeverFails faults → Rose (faults before) (faults now) → ⊥
never faults before now none rose = omega (arith, rose (omega (arith, none before)), none before, none now)

pub all_zero : {A : Type 0} (faults : A → ℕ) → NeverFails faults → (i : Option A) → IfSome i (λ x. faults x ≡ 0)
all_zero faults none None = tt
all_zero faults none (Some x) = none x

-- no line of a clean script has a fault
no_fault : (bytes : List ℕ) (first names after : NamesState) (left rest : Option (List ℕ)) (texts : List (List ℕ)) (text : List ℕ) (events all : List Event) → AllSpell (script_lines bytes) first all after → TakesLines (Some bytes) left texts → TakesLine left rest text
    → AllSpell texts first events names → (fault : LineFault) → first_fault text names ≡ Some fault → ⊥
no_fault bytes first names after None rest texts text events all spelled taken next read fault is = taken
no_fault bytes first names after (Some left) None texts text events all spelled taken next read fault is = next
no_fault bytes first names after (Some left) (Some rest) texts text events all spelled taken next read fault is =
    let lines : script_lines bytes ≡ texts ++ text ∷ script_lines rest = taken.0 ∙ ap (λ (l : List (List ℕ)). texts ++ l) next.0 in
    let spells = next_spells texts (script_lines rest) text first names after events all read (subst (λ (l : List (List ℕ)). AllSpell l first all after) lines spelled) in
    cc (no_first_fault text names spells.0 spells.1, is)

-- a line after others is short as they are
short_behind : (texts more : List (List ℕ)) (line : List ℕ) → AreShort (texts ++ line ∷ more) → length line ≤ 3100
short_behind [] more line short = short.0
short_behind (x ∷ xs) more line short = short_behind xs more line short.1

either_some : (feed : Bool) (b : ℕ) (lines : List (List ℕ)) → 0 < length (if feed then [] ∷ lines else with_front b lines)
either_some feed b lines = grind arith

some_lines : (bytes : List ℕ) → bytes ≢ [] → 0 < length (script_lines bytes)
some_lines [] some = absurd (some refl)
some_lines (b ∷ bs) some = either_some (b == 10) b (script_lines bs)

-- none is past a limit
no_limit : (bytes : List ℕ) (kind : LimitKind) (left : Option (List ℕ)) (texts : List (List ℕ)) (count : ℕ) → length (script_lines bytes) ≤ 20000 → AreShort (script_lines bytes) → TakesLines (Some bytes) left texts → count ≡ length texts → IsPast kind left count → ⊥
no_limit bytes kind left texts count few short taken counts past = grind (arith, length-append, some_lines, short_behind)

-- the clean script declares all disks that were read
no_fewer : (bytes : List ℕ) (left : Option (List ℕ)) (texts : List (List ℕ)) (names after : NamesState) (events all : List Event) → TakesLines (Some bytes) left texts → AllSpell texts no_names events names → AllSpell (script_lines bytes) no_names all after
    → blocks_of names.disks ≤ blocks_of after.disks
no_fewer bytes None texts names after events all taken read spelled = absurd taken
no_fewer bytes (Some rest) texts names after events all taken read spelled =
    let behind = rest_spells texts (script_lines rest) no_names names after events all read (subst (λ (l : List (List ℕ)). AllSpell l no_names all after) taken.0 spelled) in
    blocks_stay (script_lines rest) names after behind.0 behind.1

module _ {D : Type 0} (seen : D → ImageState) (script behind : Option (List ℕ)) (gives : ℕ → Option (List ℕ)) (ran : Status) (lines : ℕ) (names : NamesState) (journal : List Entry) (image : Option D) (lanes : Option Lanes) (run : Replayed seen script behind gives ran lines names journal image lanes)
    (why : Status) (old new : Option (List ℕ)) (text bytes : List ℕ) (reports : Reports ran why old new text) (known : script ≡ Some bytes) (clean : IsCleanScript bytes)
    (source : ran ≡ status.SourceFault → ⊥) (host : ran ≡ status.HostFault → ⊥) (sink : why ≡ status.SinkFault → ran ≢ status.SinkFault → ⊥) (store : IfSome image (λ disk. (seen disk).faults ≡ 0))
    (size : D → ℕ) (sized : SizeIs size ran (512 * blocks_of names.disks) (gives (512 * blocks_of names.disks)) image) (name : List ℕ) (zeros : name ≡ 45 ∷ [] → (n : ℕ) → gives n ≡ Some (replicate n 0))
    (long : name ≢ 45 ∷ [] → IfSome image (λ disk. 512 * blocks_of clean.names.disks ≤ size disk)) where
  -- the image isn't too short
  never_short : (need have : ℕ) → ran ≡ status.ImageSize need have → ⊥
  never_short need have is = by_name (bytes_eq name (45 ∷ [])) refl
    where
      read : ReadSoFar (Some bytes) run.stopped.left (events_of run.parts) names run.stopped.count
      read = subst (λ (s : Option (List ℕ)). ReadSoFar s run.stopped.left (events_of run.parts) names run.stopped.count) known run.stopped.read

      as_needed : 512 * blocks_of names.disks ≤ 512 * blocks_of clean.names.disks
      as_needed = omega (arith, no_fewer bytes run.stopped.left read.texts names clean.names (events_of run.parts) clean.events read.taken.taken read.spell clean.spelled)

      by_name : (dash : Bool) → bytes_eq name (45 ∷ []) ≡ dash → ⊥
      by_name true tests = zeros_are_long size ran (512 * blocks_of names.disks) need have (gives (512 * blocks_of names.disks)) image is (zeros ((bytes_eq-Decides name (45 ∷ [])).0 tests) (512 * blocks_of names.disks)) sized
      by_name false tests = long_enough size ran (512 * blocks_of names.disks) (512 * blocks_of clean.names.disks) need have (gives (512 * blocks_of names.disks)) image is as_needed (long (λ same. cc (tests, (bytes_eq-Decides name (45 ∷ [])).1 same))) sized

  store_works : (i : Option D) (left : ImageState) → IsSome i → IfSome i (λ d. StandsBehind (seen d) left) → IfSome i (λ d. (seen d).faults ≡ 0) → 0 < left.faults → ⊥
  store_works None left some is none rose = cc some
  store_works (Some d) left some is none rose = omega (arith, is.faults, none, rose)

  never_past : (at : ℕ) (kind : LimitKind) → (replayed : Replayed seen (Some bytes) behind gives (status.Limit at kind) lines names journal image lanes) → IsPast kind replayed.stopped.left replayed.stopped.count → ⊥
  never_past at kind replayed past = grind (arith, no_limit)

  by_ran : (now : Status) → ran ≡ now → why ≡ now → Replayed seen (Some bytes) behind gives now lines names journal image lanes → EndsClean why journal
  by_ran status.Done ended is replayed = inl is
  by_ran status.NoMemory ended is replayed = inr (inl is)
  by_ran status.Usage ended is replayed = absurd replayed.stopped.stop.0
  by_ran status.SinkFault ended is replayed = absurd replayed.stopped.stop.0
  by_ran status.SourceFault ended is replayed = absurd (source ended)
  by_ran status.HostFault ended is replayed = absurd (host ended)
  by_ran (status.ImageSize need have) ended is replayed = absurd (never_short need have ended)
  by_ran status.StoreFault ended is replayed =
      absurd (store_works image replayed.final.first.image replayed.faults_are.0 replayed.image_is store replayed.faults_are.1)
  by_ran (status.Script at fault) ended is replayed =
      let left : Option (List ℕ) = prepend_known replayed.stopped.held behind in
      let faulty : IsFaulty replayed.stopped.left left names fault = replayed.stopped.stop.0.3 in
      let read = replayed.stopped.read in
      absurd (no_fault bytes no_names names clean.names replayed.stopped.left left read.texts faulty.text (events_of replayed.parts) clean.events clean.spelled read.taken.taken faulty.taken read.spell fault faulty.first)
  by_ran (status.Limit at Lines) ended is replayed = absurd (never_past at Lines replayed replayed.stopped.stop.0.1)
  by_ran (status.Limit at Bytes) ended is replayed = absurd (never_past at Bytes replayed replayed.stopped.stop.0.1)
  by_ran (status.Limit at Entries) ended is replayed = inr (inr (subst (λ (w : Status). IsFullJournal w journal) (sym is) replayed.stopped.stop.0.2))

  not_sink : ran ≡ status.SinkFault → ⊥
  not_sink is = (subst (λ (w : Status). Replayed seen script behind gives w lines names journal image lanes) is run).stopped.stop.0

  by_report : Reports ran why old new text → EndsClean why journal
  by_report (inl told) = by_ran ran refl told.0 (subst (λ (s : Option (List ℕ)). Replayed seen s behind gives ran lines names journal image lanes) known run)
  by_report (inr failed) = absurd (sink failed.0 not_sink)

  pub completes : EndsClean why journal
  completes = by_report reports
