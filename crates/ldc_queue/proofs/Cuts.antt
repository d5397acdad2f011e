-- The parts that may come, one after the other, are those of the messages that they make, and no others.
use Rattle.std.proofs.Common.{◌≡◌, ℕ, ◌≤◌, Bool, true, false, List, [], ◌∷◌, ◌++◌, length, refl, sym, ap, ◌∙◌, subst, append_assoc, append-nil, arith, length-append}
use Rattle.std.specs.Prelude.{◌↔◌}
use Rattle.ldc_queue.specs.Fragments.{AreFlagged, AreParts, Fragment, FragmentsOf, joined}
use Rattle.ldc_queue.specs.Messages.{AllMayCome, AreCutFrom, AreFrontFlagged, MayCome, half_in, half_with, is_empty, whole_in, whole_with}

-- the parts of the rest of a message of which so much has come
pub record EndsFrom (half message : List ℕ) (fragments : List Fragment) : Type 0 where
  pub most : length message ≤ 256
  pub bytes : message ≡ half ++ joined fragments
  pub parts : AreParts fragments
  pub flags : AreFlagged (is_empty half) fragments

-- further parts of it, without its last
record GoesOnFrom (half more : List ℕ) (fragments : List Fragment) : Type 0 where
  most : length more ≤ 256
  bytes : more ≡ half ++ joined fragments
  parts : AreParts fragments
  flags : AreFrontFlagged (is_empty half) fragments

-- the parts of the rest of it, of messages, and of the front of one more
abbrev IsCutFrom : List ℕ → List Fragment → List (List ℕ) → List ℕ → Type 0
IsCutFrom half fragments [] more = GoesOnFrom half more fragments
IsCutFrom half fragments (message ∷ messages) more =
    (own : List Fragment) × (others : List Fragment) × (fragments ≡ own ++ others) × EndsFrom half message own × IsCutFrom [] others messages more

some_not_empty : (half bytes : List ℕ) → 1 ≤ length bytes → is_empty (half ++ bytes) ≡ false
some_not_empty [] [] some = absurd (omega arith)
some_not_empty [] (byte ∷ bytes) some = refl
some_not_empty (byte ∷ half) bytes some = refl

-- one part more in front
flags_more : (first : Bool) (fragment : Fragment) (fragments : List Fragment) → fragment.start ≡ first → fragment.stop ≡ false → AreFlagged false fragments
    → AreFlagged first (fragment ∷ fragments)
flags_more first fragment [] start stop flags = absurd flags
flags_more first fragment (next ∷ fragments) start stop flags = (start, stop, flags)

cut_more : (b : Bool) (fragment : Fragment) (half : List ℕ) (fragments : List Fragment) (messages : List (List ℕ)) (more : List ℕ) → fragment.stop ≡ b
    → MayCome half fragment → IsCutFrom (half_with b (half ++ fragment.bytes)) fragments messages more
    → IsCutFrom half (fragment ∷ fragments) (whole_with b (half ++ fragment.bytes) messages) more
cut_more true fragment half fragments messages more stop may cut = (
  fragment ∷ [],
  fragments,
  refl,
  record {
    most = omega (arith, may.1, length-append half fragment.bytes);
    bytes = ap (λ (xs : List ℕ). half ++ xs) (sym (append-nil fragment.bytes));
    parts = (may.2, may.3, tt);
    flags = (may.0, stop);
  },
  cut,
)
cut_more false fragment half fragments [] more stop may cut = record {
  most = cut.most;
  bytes = cut.bytes ∙ append_assoc half fragment.bytes (joined fragments);
  parts = (may.2, may.3, cut.parts);
  flags = (may.0, stop, subst (λ (b : Bool). AreFrontFlagged b fragments) (some_not_empty half fragment.bytes may.2) cut.flags);
}
cut_more false fragment half fragments (message ∷ messages) more stop may cut = (
  fragment ∷ cut.0,
  cut.1,
  ap (λ (fs : List Fragment). fragment ∷ fs) cut.2,
  record {
    most = cut.3.most;
    bytes = cut.3.bytes ∙ append_assoc half fragment.bytes (joined cut.0);
    parts = (may.2, may.3, cut.3.parts);
    flags = flags_more (is_empty half) fragment cut.0 may.0 stop
        (subst (λ (b : Bool). AreFlagged b cut.0) (some_not_empty half fragment.bytes may.2) cut.3.flags);
  },
  cut.4,
)

half_within : (b : Bool) (half : List ℕ) → length half ≤ 256 → length (half_with b half) ≤ 256
half_within true half within = omega arith
half_within false half within = within

cut_of : (half : List ℕ) (fragments : List Fragment) → length half ≤ 256 → AllMayCome half fragments
    → IsCutFrom half fragments (whole_in half fragments) (half_in half fragments)
cut_of half [] within all = record { most = within; bytes = sym (append-nil half); parts = tt; flags = tt }
cut_of half (fragment ∷ fragments) within all =
    let next = half_with fragment.stop (half ++ fragment.bytes) in
    cut_more fragment.stop fragment half fragments (whole_in next fragments) (half_in next fragments) refl all.0
    (cut_of next fragments (half_within fragment.stop (half ++ fragment.bytes) (omega (arith, all.0.1, length-append half fragment.bytes))) all.1)

-- a message has a byte, since its first part has
some_byte : (message : List ℕ) (fragments : List Fragment) → message ≡ joined fragments → AreParts fragments → AreFlagged true fragments → 1 ≤ length message
some_byte message [] is parts flags = absurd flags
some_byte message (fragment ∷ fragments) is parts flags =
    omega (arith, ap length is, length-append fragment.bytes (joined fragments), parts.0)

pub fragments_of_ends : (message : List ℕ) (fragments : List Fragment) → EndsFrom [] message fragments → FragmentsOf message fragments
fragments_of_ends message fragments ends = record {
  some = some_byte message fragments ends.bytes ends.parts ends.flags;
  most = ends.most;
  bytes = ends.bytes;
  parts = ends.parts;
  flags = ends.flags;
}

pub ends_of_fragments : (message : List ℕ) (fragments : List Fragment) → FragmentsOf message fragments → EndsFrom [] message fragments
ends_of_fragments message fragments own = record { most = own.most; bytes = own.bytes; parts = own.parts; flags = own.flags }

cut_public : (fragments : List Fragment) (messages : List (List ℕ)) (more : List ℕ) → IsCutFrom [] fragments messages more → AreCutFrom fragments messages more
cut_public fragments [] more cut = record { most = cut.most; bytes = cut.bytes; parts = cut.parts; flags = cut.flags }
cut_public fragments (message ∷ messages) more cut =
    (cut.0, cut.1, cut.2, fragments_of_ends message cut.0 cut.3, cut_public cut.1 messages more cut.4)

-- the other way: what parts make, and that they may come
abbrev pub Makes : List ℕ → List Fragment → List (List ℕ) → List ℕ → Type 0
Makes half fragments messages more = AllMayCome half fragments × (whole_in half fragments ≡ messages) × (half_in half fragments ≡ more)

makes_more : (b : Bool) (fragment : Fragment) (half : List ℕ) (fragments : List Fragment) (messages : List (List ℕ)) (more : List ℕ) → fragment.stop ≡ b
    → MayCome half fragment → Makes (half_with b (half ++ fragment.bytes)) fragments messages more
    → Makes half (fragment ∷ fragments) (whole_with b (half ++ fragment.bytes) messages) more
makes_more b fragment half fragments messages more stop may makes =
    let back : half_with fragment.stop (half ++ fragment.bytes) ≡ half_with b (half ++ fragment.bytes) =
    ap (λ (c : Bool). half_with c (half ++ fragment.bytes)) stop in (
      (may, subst (λ (xs : List ℕ). AllMayCome xs fragments) (sym back) makes.0),
      ap (λ (c : Bool). whole_with c (half ++ fragment.bytes) (whole_in (half_with fragment.stop (half ++ fragment.bytes)) fragments)) stop
          ∙ ap (λ (xs : List ℕ). whole_with b (half ++ fragment.bytes) (whole_in xs fragments)) back
          ∙ ap (whole_with b (half ++ fragment.bytes)) makes.1,
      ap (λ (xs : List ℕ). half_in xs fragments) back ∙ makes.2,
    )

makes_front : (half : List ℕ) (fragments : List Fragment) (more : List ℕ) → GoesOnFrom half more fragments → Makes half fragments [] more
makes_front half [] more front = (tt, refl, sym (front.bytes ∙ append-nil half))
makes_front half (fragment ∷ fragments) more front =
    let bytes : more ≡ (half ++ fragment.bytes) ++ joined fragments = front.bytes ∙ sym (append_assoc half fragment.bytes (joined fragments)) in
    makes_more false fragment half fragments [] more front.flags.1
    (front.flags.0, omega (arith, front.most, ap length bytes, length-append (half ++ fragment.bytes) (joined fragments), length-append half fragment.bytes), front.parts.0, front.parts.1)
    (makes_front (half ++ fragment.bytes) fragments more record {
      most = front.most;
      bytes = bytes;
      parts = front.parts.2;
      flags = subst (λ (b : Bool). AreFrontFlagged b fragments) (sym (some_not_empty half fragment.bytes front.parts.0)) front.flags.2;
    })

makes_whole : (half message : List ℕ) (own others : List Fragment) (messages : List (List ℕ)) (more : List ℕ) → EndsFrom half message own
    → Makes [] others messages more → Makes half (own ++ others) (message ∷ messages) more
makes_whole half message [] others messages more ends makes = absurd ends.flags
makes_whole half message (fragment ∷ []) others messages more ends makes =
    let bytes : half ++ fragment.bytes ≡ message = ap (λ (xs : List ℕ). half ++ xs) (sym (append-nil fragment.bytes)) ∙ sym ends.bytes in
    let all = makes_more true fragment half others messages more ends.flags.1
    (ends.flags.0, omega (arith, ends.most, ap length bytes, length-append half fragment.bytes), ends.parts.0, ends.parts.1) makes in
    (all.0, all.1 ∙ ap (λ (xs : List ℕ). xs ∷ messages) bytes, all.2)
makes_whole half message (fragment ∷ next ∷ own) others messages more ends makes =
    let bytes : message ≡ (half ++ fragment.bytes) ++ joined (next ∷ own) = ends.bytes ∙ sym (append_assoc half fragment.bytes (joined (next ∷ own))) in
    makes_more false fragment half ((next ∷ own) ++ others) (message ∷ messages) more ends.flags.1
    (ends.flags.0, omega (arith, ends.most, ap length bytes, length-append (half ++ fragment.bytes) (joined (next ∷ own)), length-append half fragment.bytes), ends.parts.0, ends.parts.1)
    (makes_whole (half ++ fragment.bytes) message (next ∷ own) others messages more record {
      most = ends.most;
      bytes = bytes;
      parts = ends.parts.2;
      flags = subst (λ (b : Bool). AreFlagged b (next ∷ own)) (sym (some_not_empty half fragment.bytes ends.parts.0)) ends.flags.2;
    } makes)

makes_of : (fragments : List Fragment) (messages : List (List ℕ)) (more : List ℕ) → AreCutFrom fragments messages more → Makes [] fragments messages more
makes_of fragments [] more cut =
    makes_front [] fragments more record { most = cut.most; bytes = cut.bytes; parts = cut.parts; flags = cut.flags }
makes_of fragments (message ∷ messages) more cut =
    subst (λ (fs : List Fragment). Makes [] fs (message ∷ messages) more) (sym cut.2)
    (makes_whole [] message cut.0 cut.1 messages more (ends_of_fragments message cut.0 cut.3) (makes_of cut.1 messages more cut.4))

pub cut_into : (fragments : List Fragment) (messages : List (List ℕ)) (more : List ℕ) → AreCutFrom fragments messages more ↔ Makes [] fragments messages more
cut_into fragments messages more = (
  makes_of fragments messages more,
  λ (makes : Makes [] fragments messages more).
      subst (λ (ms : List (List ℕ)). AreCutFrom fragments ms more) makes.1
      (subst (λ (xs : List ℕ). AreCutFrom fragments (whole_in [] fragments) xs) makes.2
      (cut_public fragments (whole_in [] fragments) (half_in [] fragments) (cut_of [] fragments (omega arith) makes.0))),
)
