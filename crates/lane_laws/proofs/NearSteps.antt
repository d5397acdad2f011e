-- An image stays near the content as requests come and are done, as units of a write are stored and the write is finished, and as ends are
-- reset or stopped.
use Rattle.std.proofs.Common.{◌≡◌, ℕ, zero, suc, ◌+◌, ◌-◌, ◌*◌, ◌<◌, ◌≤◌, ◌⊎◌, List, [], ◌∷◌, ◌++◌, length, take, Option, Some, None, inl, inr, refl, sym, ap, ◌∙◌, subst, arith}
use Rattle.std.specs.Prelude.{slice_get}
use Rattle.std.proofs.lemmas.Bool.{cases_lt}
use Rattle.vdisk_msg.proofs.Repeated.{length-repeated}
use Rattle.vdisk_msg.specs.declared.request.Fill.{Fill}
use Rattle.vdisk_msg.specs.declared.request.Request.{Request}
use Rattle.vdisk_msg.specs.declared.request.Request.TheVariants.{Write}
use Rattle.vdisk_msg.specs.Requests.{AreSound, after_request, written}
use Rattle.vio_bytes.proofs.Ranges.{length-range_at, range_at-range_at}
use Rattle.vio_bytes.specs.Place.{put_at}
use Rattle.vio_bytes.specs.Range.{range_at}
use Rattle.lane_laws.proofs.MemorySteps.{got_sound}
use Rattle.lane_laws.specs.Blocks.{WritesBlock, Reaches, after_requests, block_at}
use Rattle.lane_laws.specs.Contents.{stored_count}
use Rattle.lane_laws.specs.NearContent.{IsAmong, NearContent, PendingPuts, PutsIn, Shows}
use Rattle.lane_laws.proofs.BlockWrites.{after_missed, after_more, after_reached, all_long, block_put_in, block_put_out, in_or_out, puts_same, reaches_or_not}
use Rattle.lane_laws.proofs.PendingWrites.{earlier, shows_done, shows_pushed, wider}

-- THE FIRST BLOCKS of a write
among_or_not : (o : Option Request) (u b : ℕ) → IsAmong o u b ⊎ (IsAmong o u b → ⊥)
among_or_not (Some (Write block count fill)) u b = by_range (in_or_out block u b)
  where
    by_range : (((block ≤ b) × (b < block + u)) ⊎ ((b < block) ⊎ (block + u ≤ b))) → IsAmong (Some (Write block count fill)) u b ⊎ (IsAmong (Some (Write block count fill)) u b → ⊥)
    by_range (inl inside) = inl inside
    by_range (inr (inl before)) = inr (λ among. absurd (omega (arith, before, among.0)))
    by_range (inr (inr behind)) = inr (λ among. absurd (omega (arith, behind, among.1)))
among_or_not _ u b = inr (λ never. never)

pub none_among : (o : Option Request) (b : ℕ) → IsAmong o 0 b → ⊥
none_among (Some (Write block count fill)) b among = absurd (omega (arith, among.0, among.1))
none_among _ b among = among

-- A REQUEST IS ACCEPTED
pub get_within : (pending : List Request) (request : Request) (k : ℕ) → k < length pending → slice_get (pending ++ request ∷ []) k ≡ slice_get pending k
get_within [] request k below = absurd (omega (arith, below))
get_within (x ∷ pending) request zero below = refl
get_within (x ∷ pending) request (suc k) below = get_within pending request k (omega (arith, below))

pub near_accepted : (blocks : ℕ) (content : List ℕ) (pending : List Request) (request : Request) (k m u : ℕ) (image : List ℕ) → k ≤ length pending → (u ≡ 0) ⊎ (k < length pending)
    → NearContent blocks content pending k m u image → NearContent blocks content (pending ++ request ∷ []) k m u image
near_accepted blocks content pending request k m u image few (inr within) near =
    let same = get_within pending request k within in
    record {
      stored = λ b among.
          subst (λ (o : Option Request). PutsIn o b (block_at b image)) (sym same) (near.stored b (subst (λ (o : Option Request). IsAmong o u b) same among));
      others = λ b below not.
          shows_pushed content request pending k m b (block_at b image) few (near.others b below (λ among. not (subst (λ (o : Option Request). IsAmong o u b) (sym same) among)));
    }
near_accepted blocks content pending request k m u image few (inl nothing) near =
    record {
      stored = λ b among.
          absurd (none_among (slice_get (pending ++ request ∷ []) k) b (subst (λ (n : ℕ). IsAmong (slice_get (pending ++ request ∷ []) k) n b) nothing among));
      others = λ b below not.
          shows_pushed content request pending k m b (block_at b image) few
          (near.others b below (λ among. none_among (slice_get pending k) b (subst (λ (n : ℕ). IsAmong (slice_get pending k) n b) nothing among)));
    }

-- THE FIRST IS DONE
pub near_done : (blocks : ℕ) (content : List ℕ) (request : Request) (pending : List Request) (k m u : ℕ) (image : List ℕ) → NearContent blocks content (request ∷ pending) (suc k) m u image
    → NearContent blocks (after_request content request) pending k (m - 1) u image
near_done blocks content request pending k m u image near = record {
  stored = near.stored;
  others = λ b below not. shows_done content request pending k m b (block_at b image) (near.others b below not);
}

-- AN END IS RESET OR STOPPED: what the server did may be done again
puts_pending : (o : Option Request) (pending : List Request) (k p b : ℕ) (bytes : List ℕ) → slice_get pending k ≡ o → k < p → PutsIn o b bytes → PendingPuts pending 0 p b bytes
puts_pending None pending k p b bytes is below puts = absurd puts
puts_pending (Some request) pending k p b bytes is below puts = record { place = k; request = request; from = omega arith; below = below; there = is; puts = puts }

among_below : (o : Option Request) (u b k p : ℕ) → (u ≡ 0) ⊎ (k < p) → IsAmong o u b → k < p
among_below o u b k p (inl nothing) among = absurd (none_among o b (subst (λ (n : ℕ). IsAmong o n b) nothing among))
among_below o u b k p (inr below) among = below

shows_all : (blocks : ℕ) (content : List ℕ) (pending : List Request) (k m p b : ℕ) (bytes : List ℕ) → AreSound blocks pending → length content ≡ 512 * blocks → k ≤ p → m ≤ p
    → Shows content pending k m b bytes → Shows content pending 0 p b bytes
shows_all blocks content pending k m p b bytes sound long k_few m_few (inr puts) = inr (wider pending k 0 m p b bytes (omega arith) m_few puts)
shows_all blocks content pending k m p b bytes sound long k_few m_few (inl same) =
    elim (earlier blocks content pending k b sound long) [
      | inl kept ↦ inl (same ∙ kept)
      | inr puts ↦ inr (wider pending 0 0 k p b bytes (omega arith) k_few (subst (λ (x : List ℕ). PendingPuts pending 0 k b x) (sym same) puts))
    ]

pub near_disturbed : (blocks : ℕ) (content : List ℕ) (pending : List Request) (k m u p : ℕ) (image : List ℕ) → AreSound blocks pending → length content ≡ 512 * blocks → k ≤ p → m ≤ p
    → (u ≡ 0) ⊎ (k < p) → NearContent blocks content pending k m u image → NearContent blocks content pending 0 p 0 image
near_disturbed blocks content pending k m u p image sound long k_few m_few working near = record {
  stored = λ b among. absurd (none_among (slice_get pending 0) b among);
  others = λ b below not.
      elim (among_or_not (slice_get pending k) u b) [
        | inl among ↦ inr (puts_pending (slice_get pending k) pending k p b (block_at b image) refl (among_below (slice_get pending k) u b k p working among) (near.stored b among))
        | inr out ↦ shows_all blocks content pending k m p b (block_at b image) sound long k_few m_few (near.others b below out)
      ];
}

-- A UNIT OF A WRITE IS STORED
pub near_stored : (blocks : ℕ) (content : List ℕ) (pending : List Request) (k m u n block count : ℕ) (fill : Fill) (image : List ℕ) → slice_get pending k ≡ Some (Write block count fill)
    → block + count ≤ blocks → u + n ≤ count → length image ≡ 512 * blocks → NearContent blocks content pending k m u image
    → NearContent blocks content pending k m (u + n) (put_at (512 * (block + u)) (range_at (512 * u) (512 * n) (written fill count)) image)
near_stored blocks content pending k m u n block count fill image is fits within long near = record {
  stored = λ b among.
      subst (λ (o : Option Request). PutsIn o b (block_at b next)) (sym is) (puts b (subst (λ (o : Option Request). IsAmong o (u + n) b) is among));
  others = λ b below not.
      let out = outside b (λ among. not (subst (λ (o : Option Request). IsAmong o (u + n) b) (sym is) among)) in
      subst (λ (x : List ℕ). Shows content pending k m b x) (sym (out.0))
      (near.others b below (λ among. out.1 (subst (λ (o : Option Request). IsAmong o u b) is among)));
}
  where
    piece : List ℕ
    piece = range_at (512 * u) (512 * n) (written fill count)

    next : List ℕ
    next = put_at (512 * (block + u)) piece image

    piece_long : length piece ≡ 512 * n
    piece_long = length-range_at (512 * u) (512 * n) (written fill count) (omega (arith, length-repeated fill 0 (512 * count), within))

    room : 512 * (block + u + n) ≤ length image
    room = omega (arith, long, fits, within)

    old : (b : ℕ) → IsAmong (Some (Write block count fill)) u b → WritesBlock (Write block count fill) b (block_at b image)
    old b among = subst (λ (o : Option Request). PutsIn o b (block_at b image)) is (near.stored b (subst (λ (o : Option Request). IsAmong o u b) (sym is) among))

    puts : (b : ℕ) → IsAmong (Some (Write block count fill)) (u + n) b → WritesBlock (Write block count fill) b (block_at b next)
    puts b among =
        elim (cases_lt b (block + u)) [
          | inl before ↦ subst (λ (x : List ℕ). WritesBlock (Write block count fill) b x) (sym (block_put_out (block + u) n b piece image piece_long room (inl before))) (old b (among.0, before))
          | inr past ↦
              let below : b < block + u + n = omega (arith, among.1) in
              let first = block_put_in (block + u) n b piece image piece_long past below (omega (arith, room)) in
              let place : 512 * u + 512 * (b - (block + u)) ≡ 512 * (b - block) = omega (arith, past) in
              let part : block_at (b - (block + u)) piece ≡ block_at (b - block) (written fill count) =
              range_at-range_at (512 * (b - (block + u))) 512 (512 * u) (512 * n) (written fill count) (omega (arith, past, below))
              ∙ ap (λ (at : ℕ). range_at at 512 (written fill count)) place in
              ((among.0, omega (arith, among.1, within)), first ∙ part)
        ]

    outside : (b : ℕ) → (IsAmong (Some (Write block count fill)) (u + n) b → ⊥) → (block_at b next ≡ block_at b image) × (IsAmong (Some (Write block count fill)) u b → ⊥)
    outside b not =
        elim (in_or_out block (u + n) b) [
          | inl inside ↦ absurd (not inside)
          | inr (inl before) ↦ (block_put_out (block + u) n b piece image piece_long room (inl (omega (arith, before))), λ among. absurd (omega (arith, before, among.0)))
          | inr (inr behind) ↦ (block_put_out (block + u) n b piece image piece_long room (inr (omega (arith, behind))), λ among. absurd (omega (arith, behind, among.1)))
        ]

-- A REQUEST IS FINISHED, all of a write's blocks stored
reached_among : (request : Request) (u b : ℕ) → u ≡ stored_count request → Reaches request b → IsAmong (Some request) u b
reached_among request u b all reaches = grind arith

among_reached : (request : Request) (u b : ℕ) → u ≡ stored_count request → IsAmong (Some request) u b → Reaches request b
among_reached request u b all among = grind arith

past_one : (pending : List Request) (k m b : ℕ) (bytes : List ℕ) (request : Request) → slice_get pending k ≡ Some request → (Reaches request b → ⊥) → PendingPuts pending k m b bytes
    → PendingPuts pending (k + 1) m b bytes
past_one pending k m b bytes request is not puts = grind arith

shows_next : (blocks : ℕ) (content : List ℕ) (pending : List Request) (k m b : ℕ) (bytes : List ℕ) (request : Request) → AreSound blocks pending → length content ≡ 512 * blocks
    → slice_get pending k ≡ Some request → (Reaches request b → ⊥) → Shows content pending k m b bytes → Shows content pending (k + 1) m b bytes
shows_next blocks content pending k m b bytes request sound long is not (inr puts) = inr (past_one pending k m b bytes request is not puts)
shows_next blocks content pending k m b bytes request sound long is not (inl same) =
    inl (same ∙ sym (ap (block_at b) (after_more content pending k request is)
    ∙ after_missed blocks (after_requests content (take k pending)) request b (got_sound blocks pending k request sound is) (all_long blocks content pending k sound long) not))

pub near_finished : (blocks : ℕ) (content : List ℕ) (pending : List Request) (k m u : ℕ) (image : List ℕ) (request : Request) → AreSound blocks pending → length content ≡ 512 * blocks
    → slice_get pending k ≡ Some request → u ≡ stored_count request → NearContent blocks content pending k m u image → NearContent blocks content pending (k + 1) m 0 image
near_finished blocks content pending k m u image request sound long is all near = record {
  stored = λ b among. absurd (none_among (slice_get pending (k + 1)) b among);
  others = λ b below not.
      elim (reaches_or_not request b) [
        | inl reaches ↦
            let here : WritesBlock request b (block_at b image) =
            subst (λ (o : Option Request). PutsIn o b (block_at b image)) is
            (near.stored b (subst (λ (o : Option Request). IsAmong o u b) (sym is) (reached_among request u b all reaches))) in
            let there = after_reached blocks (after_requests content (take k pending)) request b (got_sound blocks pending k request sound is) (all_long blocks content pending k sound long) reaches in
            inl (puts_same request b (block_at b image) _ here there ∙ sym (ap (block_at b) (after_more content pending k request is)))
        | inr missed ↦
            shows_next blocks content pending k m b (block_at b image) request sound long is missed
            (near.others b below (λ among. missed (among_reached request u b all (subst (λ (o : Option Request). IsAmong o u b) is among))))
      ];
}
