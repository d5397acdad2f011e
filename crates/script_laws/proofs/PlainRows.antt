-- The plain run on scripts whose text is known.
use Rattle.std.proofs.Common.{◌≡◌, ℕ, ◌+◌, ◌≤◌, List, [], ◌∷◌, ◌++◌, length, take, drop, sym, ◌∙◌, ap, arith, append_assoc, length-append}
use Rattle.std.proofs.lemmas.List.{take_at, drop-append-le, drop-take, length-take-le, length-drop}
use Rattle.std.specs.Prelude.{codes, decimal}
use Rattle.std.proofs.lemmas.Fmt.{decimal_digit}
use Rattle.vdisk_msg.specs.declared.request.Fill.{Fill}
use Rattle.vdisk_msg.specs.declared.request.Request.TheVariants.{Read, Write}
use Rattle.domain_script.specs.declared.event.DiskDecl.{DiskDecl}
use Rattle.domain_script.specs.declared.event.Event.{Event}
use Rattle.domain_script.specs.declared.event.Event.TheVariants.{Disk, Issue, Settle}
use Rattle.vio_bytes.specs.Place.{put_at}
use Rattle.disk_law.specs.Requests.{written}
use Rattle.vdisk_msg.proofs.Repeated.{length-repeated}
use Rattle.kept_requests.specs.BlockWord.{blocks_text}
use Rattle.script_laws.specs.PlainRun.{plain_text}

-- `disk d0 64 RING QUEUE`
abbrev pub first_disk : ℕ → ℕ → DiskDecl
first_disk ring queue = record {
  name = record { len = 2; bytes = 100 ∷ 48 ∷ 0 ∷ 0 ∷ 0 ∷ 0 ∷ 0 ∷ 0 ∷ [] };
  blocks = 64;
  ring = ring;
  queue = queue;
}

text_0 : decimal 0 ≡ codes "0"
text_0 = decimal_digit 0 (omega arith)

text_1 : decimal 1 ≡ codes "1"
text_1 = decimal_digit 1 (omega arith)

text_2 : decimal 2 ≡ codes "2"
text_2 = decimal_digit 2 (omega arith)

-- refused for the range, refused for the count
abbrev bad_writes : Fill → List Event
bad_writes fill =
    Disk (first_disk 8 16) ∷ Issue 0 (Write 63 1 fill) ∷ Issue 0 (Write 63 2 fill) ∷ Issue 0 (Write 0 65 fill)
    ∷ Settle ∷ []

refusals : (content : List ℕ) (fill : Fill)
    → plain_text (first_disk 8 16) content (bad_writes fill)
    ≡ codes "refused d0 range\nrefused d0 count\ndone d0 0 write 0\nsettled\nend lines=5 accepted=1 done=1 pending=0 resets=0 frames=0 status=0\n"
refusals content fill = grind (arith, text_0, text_1, decimal_digit)

text_4 : decimal 4 ≡ codes "4"
text_4 = decimal_digit 4 (omega arith)

-- a write of two blocks from a place on, and then what is read from the block before them on
read_over : (content bytes : List ℕ) → 2560 ≤ length content → length bytes ≡ 1024
    → take 1536 (drop 1024 (put_at 1536 bytes content)) ≡ take 512 (drop 1024 content) ++ bytes
read_over content bytes within long =
    let behind = drop (1536 + length bytes) content in
    let front : length (take 1536 content) ≡ 1536 = length-take-le 1536 content (omega arith) in
    let begin : length (drop 1024 (take 1536 content)) ≡ 512 =
    length-drop 1024 (take 1536 content) ∙ omega (arith, front) in
    let kept = drop 1024 (take 1536 content) in
    ap (λ (l : List ℕ). take 1536 l)
    (drop-append-le 1024 (take 1536 content) (bytes ++ behind) (omega (arith, front))
    ∙ sym (append_assoc kept bytes behind))
    ∙ take_at (kept ++ bytes) behind 1536 (length-append kept bytes ∙ omega (arith, begin, long))
    ∙ ap (λ (l : List ℕ). l ++ bytes) (drop-take 1024 512 content)

-- a read gives what the write before it put there
abbrev pub write_and_read : Fill → List Event
write_and_read fill = Disk (first_disk 8 16) ∷ Issue 0 (Write 3 2 fill) ∷ Issue 0 (Read 2 3) ∷ Settle ∷ []

one_behind : (a b c d : List ℕ) → a ++ b ++ c ++ d ≡ a ++ (b ++ (c ++ d))
one_behind a b c d = simp append_assoc

-- its text, by the blocks that are read
abbrev shown : List ℕ → List ℕ
shown given =
    (codes "done d0 " ++ decimal 0 ++ codes " write 0\n")
    ++ (codes "done d0 " ++ decimal 1 ++ codes " read 0" ++ blocks_text given ++ codes "\n") ++ codes "settled\n"
    ++ (codes "end lines=" ++ decimal 4 ++ codes " accepted=" ++ decimal 2 ++ codes " done=" ++ decimal 2
    ++ codes " pending=" ++ decimal 0 ++ codes " resets=0 frames=0 status=0\n")

shown_text : (given : List ℕ)
    → shown given ≡ codes "done d0 0 write 0\ndone d0 1 read 0"
    ++ (blocks_text given ++ codes "\nsettled\nend lines=4 accepted=2 done=2 pending=0 resets=0 frames=0 status=0\n")
shown_text given =
    simp (text_0, text_1, text_2, text_4) (
    ap (λ (l : List ℕ). codes "done d0 0 write 0\ndone d0 1 read 0" ++ l)
    (one_behind (blocks_text given) (codes "\n") (codes "settled\n")
    (codes "end lines=4 accepted=2 done=2 pending=0 resets=0 frames=0 status=0\n"))
    )

shown_first : (content : List ℕ) (fill : Fill)
    → plain_text (first_disk 8 16) content (write_and_read fill)
    ≡ shown (take 1536 (drop 1024 (put_at 1536 (written fill 2) content)))
shown_first content fill = simp (text_0, text_1, text_2, text_4)

pub a_read_sees_the_write : (content : List ℕ) (fill : Fill) → 2560 ≤ length content
    → plain_text (first_disk 8 16) content (write_and_read fill)
    ≡ codes "done d0 0 write 0\ndone d0 1 read 0" ++ (blocks_text (take 512 (drop 1024 content) ++ written fill 2)
    ++ codes "\nsettled\nend lines=4 accepted=2 done=2 pending=0 resets=0 frames=0 status=0\n")
a_read_sees_the_write content fill within =
    shown_first content fill ∙ ap shown (read_over content (written fill 2) within (length-repeated fill 0 1024))
    ∙ shown_text (take 512 (drop 1024 content) ++ written fill 2)
