-- One step of moving bytes in or out: a front of the addresses that are left.
use Rattle.std.proofs.Common.{◌≡◌, ℕ, ◌+◌, ◌≤◌, List, [], ◌∷◌, ◌++◌, length, map, set, take, drop, refl, sym, ap, ◌∙◌, arith}
use Rattle.std.proofs.lemmas.List.{append_assoc, append-nil, drop-drop, length-append, length-drop, length-map, length-set, length-take-le, map-append, take_all, take_at}
use Rattle.vio_bytes.specs.Place.{put_at}
use Rattle.vio_bytes.specs.Range.{range_at}
use Rattle.cookie_copy.specs.Moved.{write_spots}

-- what was moved in, and what the addresses that are left give, is all
pub in_step : (f : ℕ → ℕ) (done next : ℕ) (front left rest piece buf new all : List ℕ)
    → rest ≡ front ++ left → piece ≡ map f front → new ≡ put_at done piece buf → next ≡ done + length piece → next ≤ length buf
    → take done buf ++ map f rest ≡ all → take next new ++ map f left ≡ all
in_step f done next front left rest piece buf new all rest_is piece_is new_is next_is room before =
    let begun : List ℕ = take done buf ++ piece in
    let long : length begun ≡ next = length-append (take done buf) piece ∙ ap (λ (n : ℕ). n + length piece) (length-take-le done buf (omega arith)) ∙ sym next_is in
    let taken : take next new ≡ begun =
    ap (take next) (new_is ∙ sym (append_assoc (take done buf) piece (drop (done + length piece) buf))) ∙ take_at begun (drop (done + length piece) buf) next long in
    ap (λ (xs : List ℕ). xs ++ map f left) taken
    ∙ append_assoc (take done buf) piece (map f left)
    ∙ ap (λ (xs : List ℕ). take done buf ++ xs) (ap (λ (xs : List ℕ). xs ++ map f left) piece_is ∙ sym (map-append f front left) ∙ ap (map f) (sym rest_is))
    ∙ before

-- where no address is left, all was moved in
pub in_end : (f : ℕ → ℕ) (done : ℕ) (rest buf all : List ℕ) → rest ≡ [] → done ≤ length buf → length all ≡ length buf → take done buf ++ map f rest ≡ all → buf ≡ all
in_end f done rest buf all none within long before =
    let whole : take done buf ≡ all = sym (append-nil (take done buf)) ∙ ap (λ (xs : List ℕ). take done buf ++ map f xs) (sym none) ∙ before in
    let counted : done ≡ length buf = sym (length-take-le done buf within) ∙ ap length whole ∙ long in
    sym (take_all done buf (omega arith)) ∙ whole

-- bytes written to places, and then to those after them
pub write_append : (front left bytes memory : List ℕ) → length front ≤ length bytes
    → write_spots (front ++ left) bytes memory ≡ write_spots left (drop (length front) bytes) (write_spots front (take (length front) bytes) memory)
write_append [] left bytes memory within = refl
write_append (p ∷ front) left [] memory within = absurd (omega arith)
write_append (p ∷ front) left (b ∷ bytes) memory within = write_append front left bytes (set memory p b) (omega arith)

-- writing to the places that are left what is left gives all
pub out_step : (f : ℕ → ℕ) (done next k : ℕ) (front left rest bytes memory new all : List ℕ)
    → rest ≡ front ++ left → length front ≡ k → next ≡ done + k → next ≤ length bytes
    → new ≡ write_spots (map f front) (range_at done k bytes) memory
    → write_spots (map f rest) (drop done bytes) memory ≡ all → write_spots (map f left) (drop next bytes) new ≡ all
out_step f done next k front left rest bytes memory new all rest_is long next_is room new_is before =
    let places : List ℕ = map f front in
    let long_places : length places ≡ k = length-map front f ∙ long in
    let split : map f rest ≡ places ++ map f left = ap (map f) rest_is ∙ map-append f front left in
    let both : write_spots (map f rest) (drop done bytes) memory ≡ write_spots (map f left) (drop (length places) (drop done bytes)) (write_spots places (take (length places) (drop done bytes)) memory) =
    ap (λ (ps : List ℕ). write_spots ps (drop done bytes) memory) split
    ∙ write_append places (map f left) (drop done bytes) memory (omega (arith, long_places, length-drop done bytes)) in
    let counted : write_spots (map f left) (drop (length places) (drop done bytes)) (write_spots places (take (length places) (drop done bytes)) memory)
    ≡ write_spots (map f left) (drop k (drop done bytes)) (write_spots places (range_at done k bytes) memory) =
    ap (λ (n : ℕ). write_spots (map f left) (drop n (drop done bytes)) (write_spots places (take n (drop done bytes)) memory)) long_places in
    let behind : drop next bytes ≡ drop k (drop done bytes) = ap (λ (n : ℕ). drop n bytes) next_is ∙ sym (drop-drop k done bytes) in
    ap (λ (xs : List ℕ). write_spots (map f left) xs new) behind
    ∙ ap (λ (m : List ℕ). write_spots (map f left) (drop k (drop done bytes)) m) new_is
    ∙ sym counted ∙ sym both ∙ before

pub length-write_spots : (places bytes memory : List ℕ) → length (write_spots places bytes memory) ≡ length memory
length-write_spots [] bytes memory = refl
length-write_spots (p ∷ places) [] memory = refl
length-write_spots (p ∷ places) (b ∷ bytes) memory = length-write_spots places bytes (set memory p b) ∙ length-set memory p b
