-- The cookies of a client's ring, and of a request's buffer, name bytes that follow one another, so that what goes through them is a
-- range of the memory.
use Rattle.std.proofs.Common.{◌≡◌, ℕ, zero, suc, ◌+◌, ◌*◌, ◌%◌, ◌≤◌, List, [], ◌∷◌, take, Bool, true, false, not, cond, nat_lt, nat_le, refl, ap, ◌∙◌, subst, arith, Option, Some, None}
use Rattle.std.specs.Prelude.{if◌then◌else◌}
use Rattle.std.proofs.lemmas.Bool.{leb-true}
use Rattle.std.proofs.lemmas.Bool.Decides.{nat_tests}
use Rattle.std.specs.List.{list_all, range_with_len}
use Rattle.map_table.specs.Cookies.{no_cookie}
use Rattle.map_table.specs.declared.cookie.Cookie.{Cookie}
use Rattle.cookie_copy.proofs.InTurn.{spots_follow}
use Rattle.map_table.specs.declared.table.Entry.{Entry}
use Rattle.cookie_copy.specs.declared.fault.Access.{Access}
use Rattle.cookie_copy.specs.declared.fault.CopyFault.{CopyFault}
use Rattle.cookie_copy.specs.declared.fault.CopyFault.TheVariants.{Channel, BadAlign, Short}
use Rattle.cookie_copy.specs.Faults.{first_copy_fault, held, is_aligned_cookie, is_even_word}
use Rattle.cookie_copy.specs.Following.{FollowOn}
use Rattle.cookie_copy.specs.Moved.{spots}
use Rattle.vdisk_msg.specs.Requested.{buffer_cookies, cookie_count, ring_pages}
use Rattle.lane_models.specs.OwnMemory.{page_cookies}
use Rattle.lane_models.specs.Offering.{own_cookies}

-- a multiple of 8
pub even_word : (n : ℕ) → n % 8 ≡ 0 → is_even_word n ≡ true
even_word n even = grind (arith, nat_tests)

-- THE RING
follow_pages : (page n : ℕ) → FollowOn (8192 * page) (page_cookies page n)
follow_pages page zero = tt
follow_pages page (suc n) =
    let next : 8192 * (page + 1) ≡ 8192 * page + 8192 = omega arith in
    (refl, subst (λ (a : ℕ). FollowOn a (page_cookies (page + 1) n)) next (follow_pages (page + 1) n))

held_pages : (page n : ℕ) → held (page_cookies page n) ≡ 8192 * n
held_pages page zero = refl
held_pages page (suc n) = omega (arith, held_pages (page + 1) n)

aligned_pages : (page n : ℕ) → list_all is_aligned_cookie (page_cookies page n) ≡ true
aligned_pages page zero = refl
aligned_pages page (suc n) =
    let here : is_even_word (8192 * page) ≡ true = even_word (8192 * page) (omega arith) in
    rw (here, aligned_pages (page + 1) n) refl

-- cookies whose bytes are the front of a memory, at least those of a ring, and within its pages
pub record RingBytes (slots : ℕ) (cookies : List Cookie) : Type 0 where
  pub size : ℕ
  pub spots_are : spots cookies ≡ range_with_len 0 size
  pub holds : 128 * slots ≤ size
  pub within : size ≤ 8192 * ring_pages slots
  pub aligned : list_all is_aligned_cookie cookies ≡ true

one_aligned : (slots : ℕ) → list_all is_aligned_cookie (record { address = 0; size = 128 * slots } ∷ []) ≡ true
one_aligned slots = grind arith

ring_bytes_if : (b : Bool) (slots : ℕ) → RingBytes slots (if b then page_cookies 0 (ring_pages slots) else record { address = 0; size = 128 * slots } ∷ [])
ring_bytes_if true slots =
    let follow : FollowOn 0 (page_cookies 0 (ring_pages slots)) = follow_pages 0 (ring_pages slots) in
    record {
      size = 8192 * ring_pages slots;
      spots_are = spots_follow 0 (page_cookies 0 (ring_pages slots)) follow ∙ ap (λ (m : ℕ). range_with_len 0 m) (held_pages 0 (ring_pages slots));
      holds = omega arith;
      within = omega arith;
      aligned = aligned_pages 0 (ring_pages slots);
    }
ring_bytes_if false slots =
    let one : List Cookie = record { address = 0; size = 128 * slots } ∷ [] in
    let follow : FollowOn 0 one = (refl, tt) in
    let whole : held one ≡ 128 * slots = omega arith in
    record {
      size = 128 * slots;
      spots_are = spots_follow 0 one follow ∙ ap (λ (m : ℕ). range_with_len 0 m) whole;
      holds = omega arith;
      within = omega arith;
      aligned = one_aligned slots;
    }

pub ring_bytes : (slots : ℕ) → RingBytes slots (own_cookies slots)
ring_bytes slots = ring_bytes_if (nat_le 64 slots) slots

-- A BUFFER has one cookie, and none where it has no bytes
pub record BufferBytes (place size : ℕ) (cookies : List Cookie) : Type 0 where
  pub spots_are : spots cookies ≡ range_with_len place size
  pub whole : held cookies ≡ size
  pub aligned : place % 8 ≡ 0 → size % 8 ≡ 0 → list_all is_aligned_cookie cookies ≡ true

buffer_if : (b : Bool) (place size : ℕ) → nat_lt 0 size ≡ b
    → BufferBytes place size (take (cond b 1 0) (cond b (record { address = place; size = size }) no_cookie ∷ no_cookie ∷ no_cookie ∷ no_cookie ∷ no_cookie ∷ []))
buffer_if true place size is =
    let one : List Cookie = record { address = place; size = size } ∷ [] in
    let follow : FollowOn place one = (refl, tt) in
    let whole : held one ≡ size = omega arith in
    record {
      spots_are = spots_follow place one follow ∙ ap (λ (n : ℕ). range_with_len place n) whole;
      whole = whole;
      aligned = λ even full.
          let first : is_even_word place ≡ true = even_word place even in
          let second : is_even_word size ≡ true = even_word size full in
          rw (first, second) refl;
    }
buffer_if false place size is =
    let none : 0 ≡ size = grind (arith, nat_tests) in
    record {
      spots_are = spots_follow place [] tt ∙ ap (λ (n : ℕ). range_with_len place n) none;
      whole = none;
      aligned = λ even full. refl;
    }

pub buffer_bytes : (place size : ℕ) → BufferBytes place size (take (cookie_count size) (buffer_cookies place size))
unfolding buffer_cookies
buffer_bytes place size = buffer_if (nat_lt 0 size) place size refl

-- A COPY that is answered is within its cookies
held_if : (up aligned holds : Bool) (rest : Option CopyFault) → (cond (not up) (Some Channel) (cond (not aligned) (Some BadAlign) (cond (not holds) (Some Short) rest))) ≡ None → holds ≡ true
held_if true true true rest is = refl
held_if _ _ _ rest is = absurd (cc is)

up_if : (up : Bool) (rest : Option CopyFault) → (cond (not up) (Some Channel) rest) ≡ None → up ≡ true
up_if true rest is = refl
up_if false rest is = absurd (cc is)

pub copy_held : (up : Bool) (access : Access) (table : List (Option Entry)) (cookies : List Cookie) (offset n : ℕ) → first_copy_fault up access table cookies offset n ≡ None
    → offset + n ≤ held cookies
copy_held up access table cookies offset n none = search (leb-true, held_if)

pub copy_up : (up : Bool) (access : Access) (table : List (Option Entry)) (cookies : List Cookie) (offset n : ℕ) → first_copy_fault up access table cookies offset n ≡ None → up ≡ true
copy_up up access table cookies offset n none = search (up_if)
