-- Words in hexadecimal, and the bytes that they spell.
use Rattle.std.proofs.Common.{◌≡◌, ℕ, ◌-◌, ◌*◌, ◌/◌, ◌<◌, ◌≤◌, List, ◌++◌, length, take, drop, replicate, Ok, sym, ◌∙◌, ap, arith}
use Rattle.std.proofs.lemmas.List.{length-take-le, drop-replicate, take-append-drop}
use Rattle.hex.proofs.HexLemmas.{length-encode_with}
use Rattle.hex.specs.Hex.{decode_of, encode_lower, lower_digits}
use Rattle.vdisk_msg.specs.declared.request.Fill.{Fill}
use Rattle.script_words.specs.declared.spelled.Piece.{Piece}
use Rattle.script_words.specs.Words.{SpellsExactly, SpellsFill, SpellsFront, SpellsPiece}

-- two digits for each byte
pub front_length : (size : ℕ) (word : List ℕ) (len : ℕ) (bytes : List ℕ) → SpellsFront size word len bytes → length word / 2 ≡ len
front_length size word len bytes spells =
    let long : length word ≡ 2 * length (take len bytes) =
    ap (λ (l : List ℕ). length l) spells.lower ∙ length-encode_with lower_digits (take len bytes) in
    let taken : length (take len bytes) ≡ len = length-take-le len bytes (omega (arith, spells.most, spells.room)) in
    omega (arith, long, taken)

pub taken_length : (size : ℕ) (word : List ℕ) (len : ℕ) (bytes : List ℕ) → SpellsFront size word len bytes → length (take len bytes) ≡ length word / 2
taken_length size word len bytes spells =
    length-take-le len bytes (omega (arith, spells.most, spells.room)) ∙ sym (front_length size word len bytes spells)

-- a word of no byte or of too many spells nothing
pub front_within : (size : ℕ) (word : List ℕ) (len : ℕ) (bytes : List ℕ) → SpellsFront size word len bytes → (1 ≤ length word / 2) × (length word / 2 ≤ size)
front_within size word len bytes spells =
    let long : length word / 2 ≡ len = front_length size word len bytes spells in
    (omega (arith, long, spells.some), omega (arith, long, spells.most))

-- the bytes at the front of a buffer of zeros
pub spells_front : (size : ℕ) (word bytes : List ℕ) (len : ℕ) → 0 < len → len ≤ size → length bytes ≡ size → drop len bytes ≡ drop len (replicate size 0)
    → decode_of word ≡ Ok (take len bytes) → word ≡ encode_lower (take len bytes) → SpellsFront size word len bytes
spells_front size word bytes len some most room behind reads lower = record {
  some = omega (arith, some);
  most = most;
  room = room;
  zeros = behind ∙ drop-replicate len size 0;
  reads = reads;
  lower = lower;
}

-- a list by its front and what follows it
same_by_parts : (xs ys : List ℕ) (n : ℕ) → take n xs ≡ take n ys → drop n xs ≡ drop n ys → xs ≡ ys
same_by_parts xs ys n front rest =
    sym (take-append-drop n xs) ∙ ap (λ (l : List ℕ). l ++ drop n xs) front ∙ ap (λ (l : List ℕ). take n ys ++ l) rest ∙ take-append-drop n ys

-- a word spells at most one front of a room
one_length : (size : ℕ) (word : List ℕ) (len more : ℕ) (bytes others : List ℕ) → SpellsFront size word len bytes → SpellsFront size word more others → len ≡ more
one_length size word len more bytes others first second = sym (front_length size word len bytes first) ∙ front_length size word more others second

one_room : (size : ℕ) (word : List ℕ) (len more : ℕ) (bytes others : List ℕ) → SpellsFront size word len bytes → SpellsFront size word more others → bytes ≡ others
one_room size word len more bytes others first second =
    let same : len ≡ more = one_length size word len more bytes others first second in
    let reads : Ok (take len bytes) ≡ Ok (take more others) = sym first.reads ∙ second.reads in
    let front : take len bytes ≡ take more others = cc in
    let rest : drop len bytes ≡ drop more others = first.zeros ∙ ap (λ (n : ℕ). replicate (size - n) 0) same ∙ sym second.zeros in
    same_by_parts bytes others len (front ∙ ap (λ (n : ℕ). take n others) (sym same)) (rest ∙ ap (λ (n : ℕ). drop n others) (sym same))

pub one_fill : (word : List ℕ) (a b : Fill) → SpellsFill word a → SpellsFill word b → a ≡ b
one_fill word a b first second =
    let lens : a.len ≡ b.len = one_length 1024 word a.len b.len a.bytes b.bytes first second in
    let rooms : a.bytes ≡ b.bytes = one_room 1024 word a.len b.len a.bytes b.bytes first second in
    let one : a ≡ record { len = b.len; bytes = a.bytes } = ap (λ (n : ℕ). let x : Fill = record { len = n; bytes = a.bytes } in x) lens in
    let two : record { len = b.len; bytes = a.bytes } ≡ b = ap (λ (l : List ℕ). let x : Fill = record { len = b.len; bytes = l } in x) rooms in
    one ∙ two

pub one_piece : (word : List ℕ) (a b : Piece) → SpellsPiece word a → SpellsPiece word b → a ≡ b
one_piece word a b first second =
    let lens : a.len ≡ b.len = one_length 1540 word a.len b.len a.bytes b.bytes first second in
    let rooms : a.bytes ≡ b.bytes = one_room 1540 word a.len b.len a.bytes b.bytes first second in
    let one : a ≡ record { len = b.len; bytes = a.bytes } = ap (λ (n : ℕ). let x : Piece = record { len = n; bytes = a.bytes } in x) lens in
    let two : record { len = b.len; bytes = a.bytes } ≡ b = ap (λ (l : List ℕ). let x : Piece = record { len = b.len; bytes = l } in x) rooms in
    one ∙ two

-- and at most one list of exactly so many
pub one_exactly : (size : ℕ) (word a b : List ℕ) → SpellsExactly size word a → SpellsExactly size word b → a ≡ b
one_exactly size word a b first second =
    let reads : Ok a ≡ Ok b = sym first.reads ∙ second.reads in cc reads
