-- The loops that move bytes, by the slices that they take.
use Rattle.std.proofs.Common.{◌≡◌, ℕ, ◌+◌, ◌-◌, ◌≤◌, List, ◌++◌, length, map, take, drop, refl, sym, ap, ◌∙◌, arith}
use Rattle.std.proofs.lemmas.List.{drop-drop, drop-map, length-drop, length-map, length-take-le, take-map}
use borrow.Rule.Slice.PartMut.{put_mid}
use Rattle.vio_bytes.specs.Place.{put_at}
use Rattle.vio_bytes.specs.Range.{range_at}
use Rattle.vio_bytes.proofs.Putting.{length-put_at}
use Rattle.map_table.specs.declared.cookie.Cookie.{Cookie}
use Rattle.cookie_copy.specs.Moved.{moved_spots, spots, write_spots}
use Rattle.cookie_copy.proofs.Steps.{in_step, out_step}

-- the part of a slice from one place to another
pub part_long : (done k : ℕ) (bytes : List ℕ) → done + k ≤ length bytes → length (take (done + k - done) (drop done bytes)) ≡ k
part_long done k bytes room =
    let less : done + k - done ≡ k = omega arith in
    length-take-le (done + k - done) (drop done bytes) (omega (arith, length-drop done bytes)) ∙ less

-- a part that was written is a write
pub mid_is : (done k : ℕ) (buf piece : List ℕ) → length piece ≡ k → put_mid done (done + k - done) buf piece ≡ put_at done piece buf
mid_is done k buf piece long =
    let less : done + k - done ≡ length piece = omega arith in
    ap (λ (n : ℕ). take done buf ++ (piece ++ drop n (drop done buf))) less ∙ ap (λ (xs : List ℕ). take done buf ++ (piece ++ xs)) (drop-drop (length piece) done buf)

pub mid_long : (done k : ℕ) (buf piece : List ℕ) → length piece ≡ k → done + k ≤ length buf → length (put_mid done (done + k - done) buf piece) ≡ length buf
mid_long done k buf piece long room = ap length (mid_is done k buf piece long) ∙ length-put_at done piece buf (omega arith)

pub in_on : (f : ℕ → ℕ) (done k : ℕ) (front left rest buf piece all : List ℕ) → rest ≡ front ++ left → length front ≡ k → piece ≡ map f front → done + k ≤ length buf
    → take done buf ++ map f rest ≡ all → take (done + k) (put_mid done (done + k - done) buf piece) ++ map f left ≡ all
in_on f done k front left rest buf piece all rest_is long piece_is room before =
    let piece_long : length piece ≡ k = ap length piece_is ∙ length-map front f ∙ long in
    let next_is : done + k ≡ done + length piece = omega arith in
    in_step f done (done + k) front left rest piece buf (put_mid done (done + k - done) buf piece) all rest_is piece_is (mid_is done k buf piece piece_long) next_is room before

pub out_on : (f : ℕ → ℕ) (done k : ℕ) (front left rest bytes memory new all : List ℕ) → rest ≡ front ++ left → length front ≡ k → done + k ≤ length bytes
    → new ≡ write_spots (map f front) (take (done + k - done) (drop done bytes)) memory
    → write_spots (map f rest) (drop done bytes) memory ≡ all → write_spots (map f left) (drop (done + k) bytes) new ≡ all
out_on f done k front left rest bytes memory new all rest_is long room new_is before =
    let less : done + k - done ≡ k = omega arith in
    let same : done + k ≡ done + k = refl in
    out_step f done (done + k) k front left rest bytes memory new all rest_is long same room
    (new_is ∙ ap (λ (n : ℕ). write_spots (map f front) (take n (drop done bytes)) memory) less) before

-- what is moved in, by its addresses
pub moved_map : (f : ℕ → ℕ) (cookies : List Cookie) (offset n : ℕ) → map f (moved_spots cookies offset n) ≡ range_at offset n (map f (spots cookies))
moved_map f cookies offset n = sym (take-map f n (drop offset (spots cookies))) ∙ ap (λ (xs : List ℕ). take n xs) (sym (drop-map f offset (spots cookies)))
