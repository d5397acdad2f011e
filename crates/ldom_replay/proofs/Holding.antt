-- A call ends with a disk exactly where its host gave one.
use Rattle.std.proofs.Common.{◌≡◌, ℕ, Option, Some, None, sym, subst}
use Rattle.std.specs.Prelude.{IsNone, IsSome}
use Rattle.vio_io.specs.Given.{Gave, next_given}

pub gave_one : {D : Type 0} (before now : ℕ) (image : Option D) → IsSome image → now ≡ next_given before → Gave before now image
gave_one before now None some is = absurd (cc some)
gave_one before now (Some disk) some is = is

pub gave_none : {D : Type 0} (before now : ℕ) (image : Option D) → IsNone image → now ≡ before → Gave before now image
gave_none before now None none is = is
gave_none before now (Some disk) none is = absurd (cc none)

-- the same disk, said otherwise
pub gave_as : {D : Type 0} (before now : ℕ) (image disk : Option D) → disk ≡ image → Gave before now image → Gave before now disk
gave_as before now image disk is gave = subst (λ d. Gave before now d) (sym is) gave

-- a fact of a journal, an image and lanes, where all are said otherwise
pub all_otherwise : {J D L : Type 0} (P : J → Option D → L → Type 0) (journal now : J) (image disk : Option D) (lanes left : L) → now ≡ journal → disk ≡ image → left ≡ lanes → P journal image lanes → P now disk left
all_otherwise P journal now image disk lanes left journal_is image_is lanes_are holds =
    subst (λ j. P j disk left) (sym journal_is) (subst (λ d. P journal d left) (sym image_is) (subst (λ l. P journal image l) (sym lanes_are) holds))
