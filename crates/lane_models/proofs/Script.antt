-- What each end says in the handshake of a session, message by message, where its offer and the other's match; and that what it hears next is the
-- next that the other says.
use Rattle.std.proofs.Common.{◌≡◌, ◌≢◌, ℕ, ◌+◌, Bool, true, false, Option, Some, List, [], ◌∷◌, ◌++◌, take, drop, refl, sym, ap, ◌∙◌, arith, append_assoc, ◌⊎◌, inl, inr}
use Rattle.std.proofs.lemmas.List.{append-nil, take-append-drop}
use Rattle.ldc_link.specs.declared.phase.Role.{Role}
use Rattle.ldc_link.specs.declared.phase.Role.TheVariants.{Initiator, Responder}
use Rattle.ldc_queue.specs.OneStream.{IsFront}
use Rattle.vio_tag.specs.Spelling.{canonical}
use Rattle.vio_handshake.proofs.Places.{AllSaid, AttributesAnswered, AttributesSaid, Deal, IsPlace, PeerReadyAnswered, PeerReadySaid, PeerRingAnswered, PeerRingSaid, Place, ReadyAnswered, ReadySaid, RingAnswered, RingSaid, VersionAnswered, VersionSaid, message_at, next, owner}
use Rattle.lane_models.proofs.Apart.{some_is_none}
use Rattle.lane_models.specs.Sides.{other}

-- THE PLACES in their order, and how many go before one
abbrev pub ending : List Place
ending = ReadySaid ∷ ReadyAnswered ∷ PeerReadySaid ∷ PeerReadyAnswered ∷ []

abbrev pub rings : Bool → List Place
rings false = ending
rings true = PeerRingSaid ∷ PeerRingAnswered ∷ ending

abbrev pub all_places : Bool → List Place
all_places both = VersionSaid ∷ VersionAnswered ∷ AttributesSaid ∷ AttributesAnswered ∷ RingSaid ∷ RingAnswered ∷ rings both

abbrev pub two_if : Bool → ℕ → ℕ
two_if true n = n + 2
two_if false n = n

abbrev pub index : Bool → Place → ℕ
index both VersionSaid = 0
index both VersionAnswered = 1
index both AttributesSaid = 2
index both AttributesAnswered = 3
index both RingSaid = 4
index both RingAnswered = 5
index both PeerRingSaid = 6
index both PeerRingAnswered = 7
index both ReadySaid = two_if both 6
index both ReadyAnswered = two_if both 7
index both PeerReadySaid = two_if both 8
index both PeerReadyAnswered = two_if both 9
index both AllSaid = two_if both 10

abbrev pub before : Bool → Place → List Place
before both n = take (index both n) (all_places both)

abbrev pub behind : Bool → Place → List Place
behind both n = drop (index both n + 1) (all_places both)

pub record NextAt (both : Bool) (n : Place) : Type 0 where
  pub more : before both (next both n) ≡ before both n ++ n ∷ []
  pub split : all_places both ≡ before both n ++ n ∷ behind both n

pub next_at : (both : Bool) (n : Place) → IsPlace both n → n ≢ AllSaid → NextAt both n
next_at true VersionSaid here not = record { more = refl; split = refl }
next_at true VersionAnswered here not = record { more = refl; split = refl }
next_at true AttributesSaid here not = record { more = refl; split = refl }
next_at true AttributesAnswered here not = record { more = refl; split = refl }
next_at true RingSaid here not = record { more = refl; split = refl }
next_at true RingAnswered here not = record { more = refl; split = refl }
next_at true PeerRingSaid here not = record { more = refl; split = refl }
next_at true PeerRingAnswered here not = record { more = refl; split = refl }
next_at true ReadySaid here not = record { more = refl; split = refl }
next_at true ReadyAnswered here not = record { more = refl; split = refl }
next_at true PeerReadySaid here not = record { more = refl; split = refl }
next_at true PeerReadyAnswered here not = record { more = refl; split = refl }
next_at false VersionSaid here not = record { more = refl; split = refl }
next_at false VersionAnswered here not = record { more = refl; split = refl }
next_at false AttributesSaid here not = record { more = refl; split = refl }
next_at false AttributesAnswered here not = record { more = refl; split = refl }
next_at false RingSaid here not = record { more = refl; split = refl }
next_at false RingAnswered here not = record { more = refl; split = refl }
next_at false PeerRingSaid here not = absurd here
next_at false PeerRingAnswered here not = absurd here
next_at false ReadySaid here not = record { more = refl; split = refl }
next_at false ReadyAnswered here not = record { more = refl; split = refl }
next_at false PeerReadySaid here not = record { more = refl; split = refl }
next_at false PeerReadyAnswered here not = record { more = refl; split = refl }
next_at both AllSaid here not = absurd (not refl)

pub all_before : (both : Bool) → before both AllSaid ≡ all_places both
all_before true = refl
all_before false = refl

-- WHAT AN END SAYS at these places
abbrev pub bytes_at : Deal → Place → List ℕ
bytes_at d n = canonical (message_at d n)

abbrev pub is_role : Role → Option Role → Bool
is_role Initiator (Some Initiator) = true
is_role Responder (Some Responder) = true
is_role role who = false

abbrev pub one_if : Bool → List ℕ → List (List ℕ) → List (List ℕ)
one_if true bytes messages = bytes ∷ messages
one_if false bytes messages = messages

abbrev pub said_by : Deal → Role → List Place → List (List ℕ)
said_by d r [] = []
said_by d r (n ∷ places) = one_if (is_role r (owner n)) (bytes_at d n) (said_by d r places)

abbrev pub said_at : Bool → Deal → Role → Place → List (List ℕ)
said_at both d r n = said_by d r (before both n)

abbrev pub script : Bool → Deal → Role → List (List ℕ)
script both d r = said_by d r (all_places both)

one_more : (b : Bool) (bytes : List ℕ) (xs ys : List (List ℕ)) → one_if b bytes (xs ++ ys) ≡ one_if b bytes xs ++ ys
one_more true bytes xs ys = refl
one_more false bytes xs ys = refl

pub said_by-append : (d : Deal) (r : Role) (xs ys : List Place) → said_by d r (xs ++ ys) ≡ said_by d r xs ++ said_by d r ys
said_by-append d r [] ys = refl
said_by-append d r (n ∷ xs) ys =
    ap (one_if (is_role r (owner n)) (bytes_at d n)) (said_by-append d r xs ys) ∙ one_more (is_role r (owner n)) (bytes_at d n) (said_by d r xs) (said_by d r ys)

pub own_role : (r : Role) (who : Option Role) → who ≡ Some r → is_role r who ≡ true
own_role Initiator who is = ap (is_role Initiator) is
own_role Responder who is = ap (is_role Responder) is

other_role : (r : Role) (who : Option Role) → who ≡ Some (other r) → is_role r who ≡ false
other_role Initiator who is = ap (is_role Initiator) is
other_role Responder who is = ap (is_role Responder) is

pub not_last : (r : Role) (n : Place) → owner n ≡ Some r → n ≢ AllSaid
not_last r n own is = some_is_none (sym own ∙ ap owner is)

-- who says a place's message says one more by it, and the other as much as before
pub says_next : (both : Bool) (d : Deal) (r : Role) (n : Place) → IsPlace both n → owner n ≡ Some r → said_at both d r (next both n) ≡ said_at both d r n ++ bytes_at d n ∷ []
says_next both d r n here own =
    ap (said_by d r) (next_at both n here (not_last r n own)).more ∙ said_by-append d r (before both n) (n ∷ [])
    ∙ ap (λ (b : Bool). said_at both d r n ++ one_if b (bytes_at d n) []) (own_role r (owner n) own)

pub other_next : (both : Bool) (d : Deal) (r : Role) (n : Place) → IsPlace both n → owner n ≡ Some (other r) → said_at both d r (next both n) ≡ said_at both d r n
other_next both d r n here own =
    ap (said_by d r) (next_at both n here (not_last (other r) n own)).more ∙ said_by-append d r (before both n) (n ∷ [])
    ∙ ap (λ (b : Bool). said_at both d r n ++ one_if b (bytes_at d n) []) (other_role r (owner n) own) ∙ append-nil (said_at both d r n)

-- all that it says: what went before, its message, and what follows
pub script_at : (both : Bool) (d : Deal) (r : Role) (n : Place) → IsPlace both n → owner n ≡ Some r → script both d r ≡ said_at both d r n ++ bytes_at d n ∷ said_by d r (behind both n)
script_at both d r n here own =
    ap (said_by d r) (next_at both n here (not_last r n own)).split ∙ said_by-append d r (before both n) (n ∷ behind both n)
    ∙ ap (λ (b : Bool). said_at both d r n ++ one_if b (bytes_at d n) (said_by d r (behind both n))) (own_role r (owner n) own)

-- a place is the last one or isn't, and says a front of the script
pub last_or : (n : Place) → (n ≡ AllSaid) ⊎ (n ≢ AllSaid)
last_or AllSaid = inl refl
last_or n = inr (λ is. absurd (cc is))

split_take : (n : ℕ) (xs : List Place) → xs ≡ take n xs ++ drop n xs
split_take n xs = sym (take-append-drop n xs)

pub front_of : (both : Bool) (d : Deal) (r : Role) (n : Place) → script both d r ≡ said_at both d r n ++ said_by d r (drop (index both n) (all_places both))
front_of both d r n = ap (said_by d r) (split_take (index both n) (all_places both)) ∙ said_by-append d r (before both n) (drop (index both n) (all_places both))

-- TWO LISTS that begin alike
pub same_next : {X : Type 0} (xs ys zs : List X) (y z : X) → xs ++ y ∷ ys ≡ xs ++ z ∷ zs → y ≡ z
same_next {X} [] ys zs y z is = cc is
same_next {X} (x ∷ xs) ys zs y z is = same_next xs ys zs y z (let tails : xs ++ y ∷ ys ≡ xs ++ z ∷ zs = cc is in tails)

-- WHAT THE OTHER END SAID: as much of its script as its place says, and after all of it messages of its session
pub record PeerSaid (both : Bool) (d : Deal) (r : Role) (messages : List (List ℕ)) : Type 0 where
  pub place : Place
  pub more : List (List ℕ)
  pub is : messages ≡ said_at both d r place ++ more
  pub only : place ≢ AllSaid → more ≡ []

-- THE NEXT that is heard at a place of its script is that place's
pub hears_next : (both : Bool) (d : Deal) (r : Role) (n : Place) (messages : List (List ℕ)) (bytes : List ℕ) → IsPlace both n → owner n ≡ Some r → PeerSaid both d r messages
    → IsFront (said_at both d r n ++ bytes ∷ []) messages → bytes ≡ bytes_at d n
hears_next both d r n messages bytes here own peer front =
    elim (last_or peer.place) [
      | inl last ↦
          let all : messages ≡ script both d r ++ peer.more =
          peer.is ∙ ap (λ (m : Place). said_at both d r m ++ peer.more) last ∙ ap (λ (ps : List Place). said_by d r ps ++ peer.more) (all_before both) in
          same_next (said_at both d r n) front.0 (said_by d r (behind both n) ++ peer.more) bytes (bytes_at d n)
          (sym (append_assoc (said_at both d r n) (bytes ∷ []) front.0) ∙ sym front.1 ∙ all ∙ ap (λ (xs : List (List ℕ)). xs ++ peer.more) (script_at both d r n here own)
          ∙ append_assoc (said_at both d r n) (bytes_at d n ∷ said_by d r (behind both n)) peer.more)
      | inr far ↦
          let rest = said_by d r (drop (index both peer.place) (all_places both)) in
          let some : messages ≡ said_at both d r peer.place =
          peer.is ∙ ap (λ (xs : List (List ℕ)). said_at both d r peer.place ++ xs) (peer.only far) ∙ append-nil (said_at both d r peer.place) in
          same_next (said_at both d r n) (front.0 ++ rest) (said_by d r (behind both n)) bytes (bytes_at d n)
          (sym (ap (λ (xs : List (List ℕ)). xs ++ rest) (sym some ∙ front.1)
          ∙ append_assoc (said_at both d r n ++ bytes ∷ []) front.0 rest ∙ append_assoc (said_at both d r n) (bytes ∷ []) (front.0 ++ rest))
          ∙ sym (front_of both d r peer.place) ∙ script_at both d r n here own)
    ]

-- and after all of it one of those that follow
pub hears_beyond : (both : Bool) (d : Deal) (r : Role) (messages theirs : List (List ℕ)) (bytes : List ℕ) → (peer : PeerSaid both d r messages)
    → IsFront ((script both d r ++ theirs) ++ bytes ∷ []) messages → (rest : List (List ℕ)) × (peer.more ≡ (theirs ++ bytes ∷ []) ++ rest)
hears_beyond both d r messages theirs bytes peer front = grind arith
