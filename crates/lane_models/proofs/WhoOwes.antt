-- Two ends in a handshake whose messages each heard as the other said them: never do both owe one; and where neither does and each heard all, both
-- have said all.
use Rattle.std.proofs.Common.{◌≡◌, ◌≢◌, ℕ, zero, suc, ◌<◌, ◌≤◌, ◌⊎◌, inl, inr, Bool, true, false, Some, None, List, [], ◌∷◌, ◌++◌, take, length, refl, sym, ap, ◌∙◌, arith, length-append}
use Rattle.std.specs.Prelude.{is_some}
use Rattle.ldc_link.specs.declared.phase.Role.{Role}
use Rattle.ldc_link.specs.declared.phase.Role.TheVariants.{Initiator, Responder}
use Rattle.ldc_queue.specs.OneStream.{IsFront}
use Rattle.ldc_queue.specs.Transcript.{Utterance}
use Rattle.vio_handshake.specs.declared.handshake.Handshake.{Handshake}
use Rattle.vio_handshake.proofs.Places.{AllSaid, Deal, IsPlace, Place, owner}
use Rattle.lane_models.specs.Sayings.{heard, said}
use Rattle.lane_models.proofs.HandshakePlaces.{AtPlace}
use Rattle.lane_models.proofs.Script.{all_places, before, behind, bytes_at, index, next_at, not_last, one_if, own_role, said_at, said_by, said_by-append, same_next}
use Rattle.lane_models.specs.Sides.{other}

-- THE ORDER OF PLACES: before a later one all was said that comes at an earlier one
past : (xs ys : List Place) (n : Place) (j : ℕ) → length xs < j → (rest : List Place) × (take j (xs ++ n ∷ ys) ≡ xs ++ n ∷ rest)
past [] ys n zero less = absurd (omega (arith, less))
past [] ys n (suc j) less = (take j ys, refl)
past (x ∷ xs) ys n zero less = absurd (omega (arith, less))
past (x ∷ xs) ys n (suc j) less = let more = past xs ys n j (omega (arith, less)) in (more.0, ap (λ (ps : List Place). x ∷ ps) more.1)

before_long : (both : Bool) (n : Place) → IsPlace both n → n ≢ AllSaid → (length (before both n) ≡ index both n) × (index both n < length (all_places both))
before_long both n here far = grind arith

all_long : (both : Bool) → index both AllSaid ≡ length (all_places both)
all_long true = refl
all_long false = refl

before_last : (both : Bool) (n m : Place) → IsPlace both n → n ≢ AllSaid → m ≡ AllSaid → index both n < index both m
before_last both n m here far last = omega (arith, (before_long both n here far).1, all_long both, ap (index both) last)

later : (both : Bool) (d : Deal) (r : Role) (n m : Place) → IsPlace both n → owner n ≡ Some r → index both n < index both m → length (said_at both d r n) < length (said_at both d r m)
later both d r n m here own less =
    let far = not_last r n own in
    let rest = past (before both n) (behind both n) n (index both m) (omega (arith, (before_long both n here far).0, less)) in
    let more : said_at both d r m ≡ said_at both d r n ++ bytes_at d n ∷ said_by d r rest.0 =
    ap (said_by d r) (ap (take (index both m)) (next_at both n here far).split ∙ rest.1) ∙ said_by-append d r (before both n) (n ∷ rest.0)
    ∙ ap (λ (b : Bool). said_at both d r n ++ one_if b (bytes_at d n) (said_by d r rest.0)) (own_role r (owner n) own) in
    omega (arith, ap length more, length-append (said_at both d r n) (bytes_at d n ∷ said_by d r rest.0))

same_place : (both : Bool) (n m : Place) → IsPlace both n → IsPlace both m → n ≢ AllSaid → m ≢ AllSaid → index both n ≡ index both m → n ≡ m
same_place both n m here there far far_m same =
    same_next (before both n) (behind both n) (behind both m) n m
    (sym (next_at both n here far).split ∙ (next_at both m there far_m).split ∙ ap (λ (i : ℕ). take i (all_places both) ++ m ∷ behind both m) (sym same))

data Order (n m : ℕ) : Type 0 where
  Earlier : n < m → Order n m
  Same : n ≡ m → Order n m
  Later : m < n → Order n m

order : (n m : ℕ) → Order n m
order n m = grind arith

-- what an end at a place said and heard, counted
record Counts (both : Bool) (d : Deal) (mine theirs : Role) (n : Place) (told taken : ℕ) : Type 0 where
  told_least : length (said_at both d mine n) ≤ told
  taken_least : length (said_at both d theirs n) ≤ taken
  told_is : n ≢ AllSaid → told ≡ length (said_at both d mine n)
  taken_is : n ≢ AllSaid → taken ≡ length (said_at both d theirs n)

counts : (both : Bool) (d : Deal) (r : Role) (h : Handshake) (turns : List Utterance) → (at : AtPlace both d r h turns)
    → Counts both d r (other r) at.place (length (said turns)) (length (heard turns))
counts both d r h turns at = record {
  told_least = omega (arith, ap length at.said_is, length-append (said_at both d r at.place) at.mine);
  taken_least = omega (arith, ap length at.heard_is, length-append (said_at both d (other r) at.place) at.theirs);
  told_is = λ far. omega (arith, ap length at.said_is, length-append (said_at both d r at.place) at.mine, ap length (at.only far).0);
  taken_is = λ far. omega (arith, ap length at.heard_is, length-append (said_at both d (other r) at.place) at.theirs, ap length (at.only far).1);
}

-- WHO OWES a message says the next, and who owes none waits for the other or is through
owes_nothing : (both : Bool) (d : Deal) (r : Role) (h : Handshake) (turns : List Utterance) → (at : AtPlace both d r h turns) → h.owed ≡ None
    → (owner at.place ≡ Some (other r)) ⊎ (at.place ≡ AllSaid)
owes_nothing both d r h turns at none = grind arith

both_own : (n m : Place) → n ≡ m → owner n ≡ Some Initiator → owner m ≡ Some Responder → ⊥
both_own n m same one other = let wrong : Some Initiator ≡ Some Responder = sym one ∙ ap owner same ∙ other in cc wrong

owes_next : (both : Bool) (d : Deal) (r : Role) (h : Handshake) (turns : List Utterance) → (at : AtPlace both d r h turns) → is_some h.owed ≡ true → owner at.place ≡ Some r
owes_next both d r h turns at some = grind arith

front_long : (xs ys : List (List ℕ)) → IsFront xs ys → length xs ≤ length ys
front_long xs ys front = omega (arith, ap length front.1, length-append xs front.0)

-- who owes the message of an earlier place said less than the other heard
no_lead : (both : Bool) (d : Deal) (r : Role) (n m : Place) (told taken : ℕ) → IsPlace both n → owner n ≡ Some r → told ≡ length (said_at both d r n) → length (said_at both d r m) ≤ taken
    → taken ≤ told → index both n < index both m → ⊥
no_lead both d r n m told taken here own is least front less = omega (arith, later both d r n m here own less, is, least, front)

-- NEVER DO BOTH owe one, where each heard a front of what the other said
pub never_both : (both : Bool) (d : Deal) (h g : Handshake) (mine theirs : List Utterance) → (at : AtPlace both d Initiator h mine) → (there : AtPlace both d Responder g theirs)
    → is_some h.owed ≡ true → (is_some g.owed ≡ true) ⊎ (there.place ≡ AllSaid) → IsFront (heard theirs) (said mine) → IsFront (heard mine) (said theirs) → ⊥
never_both both d h g mine theirs at there owed owing to_there to_here =
    let here = counts both d Initiator h mine at in
    let yonder = counts both d Responder g theirs there in
    let turn = owes_next both d Initiator h mine at owed in
    let far = not_last Initiator at.place turn in
    let leads = λ (less : index both at.place < index both there.place). no_lead both d Initiator at.place there.place (length (said mine)) (length (heard theirs)) at.here turn (here.told_is far) yonder.taken_least (front_long (heard theirs) (said mine) to_there) less in
    elim owing [
      | inr last ↦ leads (before_last both at.place there.place at.here far last)
      | inl also ↦
          let other_turn = owes_next both d Responder g theirs there also in
          let other_far = not_last Responder there.place other_turn in
          elim (order (index both at.place) (index both there.place)) [
            | Earlier less ↦ leads less
            | Later less ↦ no_lead both d Responder there.place at.place (length (said theirs)) (length (heard mine)) there.here other_turn (yonder.told_is other_far) here.taken_least (front_long (heard mine) (said theirs) to_here) less
            | Same same ↦ both_own at.place there.place (same_place both at.place there.place at.here there.here far other_far same) turn other_turn
          ]
    ]

-- THE INITIATOR HAS SAID ALL where a responder that heard a front of it has: the last message is the initiator's
pub initiator_done : (both : Bool) (d : Deal) (h g : Handshake) (mine theirs : List Utterance) → (at : AtPlace both d Initiator h mine) → (there : AtPlace both d Responder g theirs)
    → there.place ≡ AllSaid → IsFront (heard theirs) (said mine) → at.place ≡ AllSaid
initiator_done both d h g mine theirs at there last front = grind arith

-- BOTH HAVE SAID ALL where neither owes one and each heard all
pub both_done : (both : Bool) (d : Deal) (h g : Handshake) (mine theirs : List Utterance) → (at : AtPlace both d Initiator h mine) → (there : AtPlace both d Responder g theirs)
    → h.owed ≡ None → g.owed ≡ None → said mine ≡ heard theirs → said theirs ≡ heard mine → (at.place ≡ AllSaid) × (there.place ≡ AllSaid)
both_done both d h g mine theirs at there none_h none_g to_there to_here =
    let here = counts both d Initiator h mine at in
    let yonder = counts both d Responder g theirs there in
    -- an end that waits for the other doesn't go before it
    let first_waits = λ (turn : owner at.place ≡ Some Responder) (less : index both at.place < index both there.place). no_lead both d Responder at.place there.place (length (heard mine)) (length (said theirs)) at.here turn (here.taken_is (not_last Responder at.place turn)) yonder.told_least (omega (arith, ap length to_here)) less in
    let last_waits = λ (turn : owner there.place ≡ Some Initiator) (less : index both there.place < index both at.place). no_lead both d Initiator there.place at.place (length (heard theirs)) (length (said mine)) there.here turn (yonder.taken_is (not_last Initiator there.place turn)) here.told_least (omega (arith, ap length to_there)) less in
    let waits = owes_nothing both d Responder g theirs there none_g in
    elim (owes_nothing both d Initiator h mine at none_h) [
      | inr last ↦ elim waits [
        | inr also ↦ (last, also)
        | inl turn ↦ absurd (last_waits turn (before_last both there.place at.place there.here (not_last Initiator there.place turn) last))
      ]
      | inl turn ↦ elim waits [
        | inr also ↦ absurd (first_waits turn (before_last both at.place there.place at.here (not_last Responder at.place turn) also))
        | inl other_turn ↦ elim (order (index both at.place) (index both there.place)) [
          | Earlier less ↦ absurd (first_waits turn less)
          | Later less ↦ absurd (last_waits other_turn less)
          | Same same ↦ absurd (both_own there.place at.place (sym (same_place both at.place there.place at.here there.here (not_last Responder at.place turn) (not_last Initiator there.place other_turn) same)) other_turn turn)
        ]
      ]
    ]
