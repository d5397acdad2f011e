-- The script is clean and quiet, and what the plain run makes of it.
use Rattle.std.proofs.Common.{◌≡◌, ℕ, List, [], ◌∷◌, ◌++◌, replicate, take, drop, refl, ap, ◌∙◌, arith, true, length, Option, Some, None}
use Rattle.std.proofs.lemmas.List.{take-replicate, drop-replicate, length-replicate}
use Rattle.std.specs.Prelude.{codes, IsSomeAnd}
use Rattle.std.specs.Fmt.{digits}
use Rattle.std.specs.Int.RustNames.{count_ones}
use Rattle.hex.specs.Hex.{encode_with}
use Rattle.vio_bytes.specs.Place.{put_at}
use Rattle.vdisk_msg.specs.declared.request.Fill.{Fill}
use Rattle.vdisk_msg.specs.declared.request.Request.TheVariants.{Read, Write}
use Rattle.disk_law.specs.Requests.{repeated, written}
use Rattle.domain_script.specs.declared.event.DiskDecl.{DiskDecl}
use Rattle.domain_script.specs.declared.event.Event.{Event}
use Rattle.domain_script.specs.declared.event.Event.TheVariants.{Disk, Issue, Settle}
use Rattle.domain_script.specs.NamesState.{NamesState}
use Rattle.domain_script.specs.ScriptEvents.{AllSpell, no_names}
use Rattle.domain_script.specs.ScriptLines.{script_lines}
use Rattle.domain_script.proofs.ComputedEvents.{events_spelled}
use Rattle.infallible_io.specs.States.{InfallibleDiskState}
use Rattle.kept_requests.specs.BlockWord.{blocks_text, repeats, word_length}
use Rattle.ldom_entries.specs.declared.entry.Entry.{Entry}
use Rattle.ldom_report.specs.declared.status.LimitKind.{LimitKind}
use Rattle.ldom_report.specs.declared.status.Status.{Status}
use Rattle.ldom_report.specs.declared.status.Status.TheVariants as status
use Rattle.ldom_replay.specs.script_laws.Clean.{IsCleanScript, IsFullJournal}
use Rattle.ldom_replay.specs.script_laws.PlainRun.{plain_content, plain_ids, plain_text}
use Rattle.ldom_replay.specs.script_laws.Quiet.{IsQuietScript}
use Rattle.ldom_replay.proofs.script_laws.PlainRows.{a_read_sees_the_write}
use Rattle.ldom_words.specs.Words.{AsksRun}
use Rattle.script_cases.specs.Known.{image, report, script}

-- the script's events and names, as `events_of` computes them
abbrev pub disk : DiskDecl
disk = record { name = record { len = 2; bytes = 100 ∷ 48 ∷ 0 ∷ 0 ∷ 0 ∷ 0 ∷ 0 ∷ 0 ∷ [] }; blocks = 64; ring = 8; queue = 16 }

abbrev word : Fill
word = record { len = 1; bytes = 171 ∷ replicate 1023 0 }

abbrev pub events : List Event
events = Disk disk ∷ Issue 0 (Write 3 2 word) ∷ Issue 0 (Read 2 3) ∷ Settle ∷ []

abbrev names : NamesState
names = record { disks = disk ∷ []; ports = []; ended = true }

spelled : AllSpell (script_lines script) no_names events names
unfolding digits count_ones
spelled = events_spelled (script_lines script) no_names

-- the words ask for a run over the image of zeros
pub asks_zeros : (words : List (List ℕ)) → words ≡ codes "run" ∷ codes "-" ∷ [] → AsksRun words (codes "-")
asks_zeros words are = record { are = are; plain = refl }

-- so the theorem's premises hold
pub clean : IsCleanScript script
clean = record { events = events; names = names; spelled = spelled; few = omega arith; short = grind arith }

pub quiet : IsQuietScript script disk events
quiet = record { names = names; spelled = spelled; quiet = (refl, (refl, (refl, (tt, tt)))) }

-- and what the plain run makes of 64 blocks of zeros is computed
abbrev pub zeros : List ℕ
zeros = replicate 32768 0

filled : written word 2 ≡ replicate 1024 171
unfolding repeated
filled = refl

words : blocks_text (replicate 512 0 ++ replicate 1024 171) ≡ codes " *00 *ab *ab"
unfolding blocks_text word_length repeats encode_with
words = refl

given : take 512 (drop 1024 zeros) ++ written word 2 ≡ replicate 512 0 ++ replicate 1024 171
given =
    ap (λ (l : List ℕ). take 512 l ++ written word 2) (drop-replicate 1024 32768 0)
    ∙ ap (λ (l : List ℕ). l ++ written word 2) (take-replicate 512 31744 0 (omega arith))
    ∙ ap (λ (l : List ℕ). replicate 512 0 ++ l) filled

abbrev around : List ℕ → List ℕ
around shown = codes "done d0 0 write 0\ndone d0 1 read 0" ++ (shown ++ codes "\nsettled\nend lines=4 accepted=2 done=2 pending=0 resets=0 frames=0 status=0\n")

pub text_is : plain_text disk zeros events ≡ report
text_is =
    let long : length zeros ≡ 32768 = length-replicate {A = ℕ} 32768 0 in
    a_read_sees_the_write zeros word (omega (arith, long))
    ∙ ap (λ (l : List ℕ). around (blocks_text l)) given
    ∙ ap around words

content_of : (content : List ℕ) → plain_content disk content events ≡ put_at 1536 (replicate 1024 171) content
content_of content = ap (λ (l : List ℕ). put_at 1536 l content) filled

content_is : plain_content disk zeros events ≡ image
content_is =
    content_of zeros
    ∙ ap (λ (l : List ℕ). l ++ (replicate 1024 171 ++ drop 2560 zeros)) (take-replicate 1536 32768 0 (omega arith))
    ∙ ap (λ (l : List ℕ). replicate 1536 0 ++ (replicate 1024 171 ++ l)) (drop-replicate 2560 32768 0)

pub ids_are : (content : List ℕ) → plain_ids disk content events ≡ 0 ∷ 1 ∷ []
ids_are content = refl

pub image_is : (attached : Option InfallibleDiskState) → IsSomeAnd attached (λ d. Some d.bytes ≡ Some (plain_content disk zeros events)) → IsSomeAnd attached (λ d. d.bytes ≡ image)
image_is None is = absurd is
image_is (Some d) is =
    let told : d.bytes ≡ plain_content disk zeros events = cc is in
    told ∙ content_is

-- where the journal is full the status is a limit's
pub full_limit : (why : Status) (journal : List Entry) → IsFullJournal why journal → (line : ℕ) × (kind : LimitKind) × (why ≡ status.Limit line kind)
full_limit (status.Limit line kind) journal full = (line, kind, refl)
full_limit status.Done journal full = absurd full
full_limit status.Usage journal full = absurd full
full_limit (status.Script line fault) journal full = absurd full
full_limit status.SourceFault journal full = absurd full
full_limit status.SinkFault journal full = absurd full
full_limit status.HostFault journal full = absurd full
full_limit status.StoreFault journal full = absurd full
full_limit (status.ImageSize need have) journal full = absurd full
full_limit status.NoMemory journal full = absurd full
