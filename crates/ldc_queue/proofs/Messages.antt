-- Messages of parts: those of a front are a front, and the parts of messages are those that may come.
use Rattle.std.proofs.Common.{◌≡◌, ℕ, Bool, true, false, List, [], ◌∷◌, ◌++◌, refl, ap, ◌∙◌}
use Rattle.ldc_queue.specs.Fragments.{Fragment, fragment_at, fragments_in, is_part, joins}
use Rattle.ldc_queue.specs.Messages.{half_in, half_with, whole_in, whole_with}
use Rattle.ldc_queue.specs.OneStream.{IsFront}

joins-append : (b : Bool) (fragment : Fragment) (xs ys : List Fragment) → joins b fragment (xs ++ ys) ≡ joins b fragment xs ++ ys
joins-append true fragment xs ys = refl
joins-append false fragment xs ys = refl

pub fragments_in-append : (xs ys : List (List ℕ)) → fragments_in (xs ++ ys) ≡ fragments_in xs ++ fragments_in ys
fragments_in-append [] ys = refl
fragments_in-append (packet ∷ xs) ys =
    ap (joins (is_part packet) (fragment_at packet)) (fragments_in-append xs ys)
    ∙ joins-append (is_part packet) (fragment_at packet) (fragments_in xs) (fragments_in ys)

whole_with-append : (b : Bool) (message : List ℕ) (xs ys : List (List ℕ)) → whole_with b message (xs ++ ys) ≡ whole_with b message xs ++ ys
whole_with-append true message xs ys = refl
whole_with-append false message xs ys = refl

pub whole_in-append : (half : List ℕ) (xs ys : List Fragment) → whole_in half (xs ++ ys) ≡ whole_in half xs ++ whole_in (half_in half xs) ys
whole_in-append half [] ys = refl
whole_in-append half (x ∷ xs) ys =
    ap (whole_with x.stop (half ++ x.bytes)) (whole_in-append (half_with x.stop (half ++ x.bytes)) xs ys)
    ∙ whole_with-append x.stop (half ++ x.bytes) (whole_in (half_with x.stop (half ++ x.bytes)) xs) (whole_in (half_in (half_with x.stop (half ++ x.bytes)) xs) ys)

pub half_in-append : (half : List ℕ) (xs ys : List Fragment) → half_in half (xs ++ ys) ≡ half_in (half_in half xs) ys
half_in-append half [] ys = refl
half_in-append half (x ∷ xs) ys = half_in-append (half_with x.stop (half ++ x.bytes)) xs ys

-- the messages of the front of what was said are a front of the messages
pub messages_front : (xs ys : List (List ℕ)) → IsFront xs ys → IsFront (whole_in [] (fragments_in xs)) (whole_in [] (fragments_in ys))
messages_front xs ys front =
    let parts : fragments_in ys ≡ fragments_in xs ++ fragments_in front.0 = ap fragments_in front.1 ∙ fragments_in-append xs front.0 in (
      whole_in (half_in [] (fragments_in xs)) (fragments_in front.0),
      ap (whole_in []) parts ∙ whole_in-append [] (fragments_in xs) (fragments_in front.0),
    )
