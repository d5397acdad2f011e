-- What an end of a port said and the other hasn't heard, with the message of its session that its link holds: each names the session's rings,
-- or groups as its end may.
use Rattle.std.proofs.Common.{Bool, List, None, Option, Some, [], arith, drop, length, length-append, refl, sym, ℕ, ◌++◌, ◌+◌, ◌<◌, ◌^◌, ◌∙◌, ◌∷◌, ◌≡◌, ◌≤◌, ◌⊎◌}
use Rattle.std.specs.Prelude.{◌==◌, ⊤, take}
use Rattle.std.proofs.lemmas.Bool.{eq-eqb, eqb-true}
use Rattle.std.proofs.lemmas.List.{drop-append-le}
use Rattle.ldc_link.specs.declared.phase.Role.{Role}
use Rattle.ldc_link.specs.declared.phase.Role.TheVariants.{Initiator, Responder}
use Rattle.ldc_packet.specs.declared.packet.Subtype.{Subtype}
use Rattle.ldc_packet.specs.declared.packet.Subtype.TheVariants.{Ack, Info}
use Rattle.ldc_packet.specs.Spelling.{subtype_code}
use Rattle.ldc_queue.specs.OneStream.{IsFront}
use Rattle.ldc_queue.specs.Transcript.{Utterance}
use Rattle.vio_bytes.specs.Place.{number_at}
use Rattle.vio_tag.proofs.Canonical.{canonical_spells}
use Rattle.vio_tag.specs.declared.message.Message.{Message}
use Rattle.vio_tag.specs.declared.message.MsgBody.TheVariants.{DringData}
use Rattle.vio_tag.specs.Spelling.{SpellsMessage, canonical, envelope_at, subtype_at}
use Rattle.lane_models.specs.Sayings.{heard, said}
use Rattle.lane_models.specs.NetEndState.{NetEndState}
use Rattle.lane_models.specs.Spoken.{addresses_of, count_of, set_of}
use Rattle.port_laws.specs.Counted.{unsaid}
use Rattle.port_laws.specs.NetCore.{one_if}
use Rattle.port_laws.proofs.OwnBytes.{groups_bytes, range_bytes}
use Rattle.port_laws.proofs.WayMoves.{EachLow}

abbrev pub listed : Option (List ℕ) → List (List ℕ)
listed None = []
listed (Some message) = message ∷ []

abbrev pub unheard : List (List ℕ) → List (List ℕ) → List (List ℕ)
unheard told taken = drop (length taken) told

abbrev pub outbox : NetEndState → (mine theirs : List Utterance) → List (List ℕ)
outbox s mine theirs = unheard (said mine) (heard theirs) ++ listed (unsaid s)

-- WHAT FITS: a range is an INFO or an ACK and names the session's ring, and groups are a guest's INFO or the switch's ACK
abbrev pub groups_code : Role → ℕ
groups_code Initiator = 1
groups_code Responder = 2

pub record RangeFits (sid : ℕ) (m : List ℕ) : Type 0 where
  pub subtype : (subtype_at m ≡ 1) ⊎ (subtype_at m ≡ 2)
  pub ident : number_at 8 16 m ≡ sid
  pub long : length m ≡ 56

pub record GroupsFit (role : Role) (m : List ℕ) : Type 0 where
  pub subtype : subtype_at m ≡ groups_code role
  pub long : length m ≡ 56

pub record MessageFits (role : Role) (sid : ℕ) (m : List ℕ) : Type 0 where
  pub range : envelope_at m ≡ 0x0042 → RangeFits sid m
  pub groups : envelope_at m ≡ 0x0101 → GroupsFit role m

abbrev pub EachFits : Role → ℕ → List (List ℕ) → Type 0
EachFits role sid [] = ⊤
EachFits role sid (m ∷ messages) = MessageFits role sid m × EachFits role sid messages

-- HOW MANY speak of groups
abbrev pub is_groups : List ℕ → Bool
is_groups m = envelope_at m == 0x0101

abbrev pub count_groups : List (List ℕ) → ℕ
count_groups [] = 0
count_groups (m ∷ messages) = one_if (is_groups m) + count_groups messages

-- A GUEST'S names the first of its groups, so many at least as the switch's end knows
pub record TellsSome (groups : List (List ℕ)) (known : ℕ) (m : List ℕ) : Type 0 where
  pub set : set_of m ≡ 1
  pub few : count_of m ≤ 7
  pub many : ℕ
  pub is : addresses_of m ≡ take many groups
  pub more : known ≤ many
  pub inside : many ≤ length groups

abbrev pub EachTells : List (List ℕ) → ℕ → List (List ℕ) → Type 0
EachTells groups known [] = ⊤
EachTells groups known (m ∷ messages) = (envelope_at m ≡ 0x0101 → TellsSome groups known m) × EachTells groups known messages

-- LISTS of messages
pub fits_more : (role : Role) (sid : ℕ) (xs ys : List (List ℕ)) → EachFits role sid xs → EachFits role sid ys → EachFits role sid (xs ++ ys)
fits_more role sid [] ys one two = two
fits_more role sid (x ∷ xs) ys one two = (one.0, fits_more role sid xs ys one.1 two)

pub tells_more : (groups : List (List ℕ)) (known : ℕ) (xs ys : List (List ℕ)) → EachTells groups known xs → EachTells groups known ys → EachTells groups known (xs ++ ys)
tells_more groups known [] ys one two = two
tells_more groups known (x ∷ xs) ys one two = (one.0, tells_more groups known xs ys one.1 two)

pub count-append : (xs ys : List (List ℕ)) → count_groups (xs ++ ys) ≡ count_groups xs + count_groups ys
count-append [] ys = omega arith
count-append (x ∷ xs) ys = let rest = count-append xs ys in omega (arith, rest)

not_groups : (n : ℕ) → n < 0x0042 → one_if (n == 0x0101) ≡ 0
not_groups n low = grind (arith, eqb-true)

pub low_fits : (role : Role) (sid : ℕ) (messages : List (List ℕ)) → EachLow messages → EachFits role sid messages
low_fits role sid [] low = tt
low_fits role sid (m ∷ messages) low = grind (arith, low_fits role sid messages low.1, low.0)

pub low_none : (messages : List (List ℕ)) → EachLow messages → count_groups messages ≡ 0
low_none [] low = refl
low_none (m ∷ messages) low = let rest = low_none messages low.1 in omega (arith, not_groups (envelope_at m) low.0, rest)

pub low_tells : (groups : List (List ℕ)) (known : ℕ) (messages : List (List ℕ)) → EachLow messages → EachTells groups known messages
low_tells groups known [] low = tt
low_tells groups known (m ∷ messages) low = let small = low.0 in (λ is. absurd (omega (arith, is, small)), low_tells groups known messages low.1)

-- where none speaks of groups, none tells any
pub none_tells : (groups : List (List ℕ)) (known : ℕ) (messages : List (List ℕ)) → count_groups messages ≡ 0 → EachTells groups known messages
none_tells groups known [] none = tt
none_tells groups known (m ∷ messages) none =
    grind (arith, none_tells groups known messages (omega (arith, none)), eq-eqb)

-- THE BYTES of a range
simple : Subtype → ℕ → ℕ → Message
simple s sid ident = record { subtype = s; sid = sid; body = DringData 0 ident 0 0 0 }

same_ident : (s : Subtype) (n seq ident start end state : ℕ) → number_at 8 16 (range_bytes s n seq ident start end state) ≡ number_at 8 16 (canonical (simple s 0 ident))
unfolding canonical simple
same_ident s n seq ident start end state = refl

simple_spells : (s : Subtype) (sid ident : ℕ) → sid < 2 ^ 32 → ident < 2 ^ 64 → SpellsMessage (canonical (simple s sid ident)) (record { subtype = s; sid = sid; body = DringData 0 ident 0 0 0 })
unfolding simple
simple_spells s sid ident small fits =
    canonical_spells (record { subtype = s; sid = sid; body = DringData 0 ident 0 0 0 }) tt (small, (omega arith, fits, omega arith, omega arith, omega arith))

ident_is : (s : Subtype) (n seq ident start end state : ℕ) → ident < 2 ^ 64 → number_at 8 16 (range_bytes s n seq ident start end state) ≡ ident
ident_is s n seq ident start end state fits = same_ident s n seq ident start end state ∙ sym (simple_spells s 0 ident (omega arith) fits).body.1

range_envelope : (s : Subtype) (n seq ident start end state : ℕ) → envelope_at (range_bytes s n seq ident start end state) ≡ 0x0042
unfolding canonical
range_envelope s n seq ident start end state = refl

range_subtype : (s : Subtype) (n seq ident start end state : ℕ) → subtype_at (range_bytes s n seq ident start end state) ≡ subtype_code s
unfolding canonical
range_subtype s n seq ident start end state = grind arith

range_long : (s : Subtype) (n seq ident start end state : ℕ) → length (range_bytes s n seq ident start end state) ≡ 56
unfolding canonical
range_long s n seq ident start end state = omega arith

pub record SaysRange (role : Role) (sid : ℕ) (m : List ℕ) : Type 0 where
  pub fits : MessageFits role sid m
  pub none : count_groups (m ∷ []) ≡ 0

pub says_range : (role : Role) (sid : ℕ) (s : Subtype) (n seq ident start end state : ℕ) → (s ≡ Info) ⊎ (s ≡ Ack) → ident ≡ sid → sid < 2 ^ 32
    → SaysRange role sid (range_bytes s n seq ident start end state)
says_range role sid s n seq ident start end state which is small =
    grind (arith, range_envelope, range_subtype, ident_is, range_long)

-- and of groups
groups_envelope : (s : Subtype) (n set count : ℕ) (addresses : List (List ℕ)) → envelope_at (groups_bytes s n set count addresses) ≡ 0x0101
unfolding canonical
groups_envelope s n set count addresses = refl

groups_subtype : (s : Subtype) (n set count : ℕ) (addresses : List (List ℕ)) → subtype_at (groups_bytes s n set count addresses) ≡ subtype_code s
unfolding canonical
groups_subtype s n set count addresses = grind arith

pub record SaysGroups (role : Role) (sid : ℕ) (m : List ℕ) : Type 0 where
  pub fits : MessageFits role sid m
  pub one : count_groups (m ∷ []) ≡ 1

pub says_groups : (role : Role) (sid : ℕ) (s : Subtype) (n set count : ℕ) (addresses : List (List ℕ)) → subtype_code s ≡ groups_code role → length (groups_bytes s n set count addresses) ≡ 56
    → SaysGroups role sid (groups_bytes s n set count addresses)
says_groups role sid s n set count addresses code long = grind (arith, groups_envelope, groups_subtype)

-- THE OUTBOX as its end says and the other hears
pub unheard_more : (told taken : List (List ℕ)) (m : List ℕ) → IsFront taken told → unheard (told ++ m ∷ []) taken ≡ unheard told taken ++ m ∷ []
unheard_more told taken m front = grind (arith, length-append, drop-append-le)
