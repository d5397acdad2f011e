-- Pending writes by their places, as the list of pending requests changes; and that what requests leave of a block is the content's bytes or
-- those of a write among them.
use Rattle.std.proofs.Common.{◌≡◌, ℕ, zero, suc, ◌-◌, ◌*◌, ◌≤◌, ◌⊎◌, List, [], ◌∷◌, ◌++◌, length, take, inl, inr, refl, sym, ◌∙◌, subst, arith}
use Rattle.std.proofs.lemmas.List.{take-append-le}
use Rattle.vdisk_msg.specs.declared.request.Request.{Request}
use Rattle.vdisk_msg.specs.Requests.{AreSound, after_request}
use Rattle.lane_laws.proofs.SlotBytes.{issued_more}
use Rattle.lane_laws.specs.Blocks.{WritesBlock, after_requests, block_at}
use Rattle.lane_laws.specs.NearContent.{PendingPuts, Shows}
use Rattle.lane_laws.proofs.BlockWrites.{after_long, after_missed, after_reached, reaches_or_not}

-- the list grows at its front, loses its front, or grows at its end
pub shift_up : (request : Request) (pending : List Request) (m b : ℕ) (bytes : List ℕ) → PendingPuts pending 0 m b bytes → PendingPuts (request ∷ pending) 0 (suc m) b bytes
shift_up request pending m b bytes puts =
    let below = puts.below in
    record { place = suc puts.place; request = puts.request; from = omega arith; below = omega (arith, below); there = puts.there; puts = puts.puts }

pub shift_down : (request : Request) (pending : List Request) (i m b : ℕ) (bytes : List ℕ) → PendingPuts (request ∷ pending) (suc i) m b bytes → PendingPuts pending i (m - 1) b bytes
shift_down request pending i m b bytes puts = grind arith

pub wider : (pending : List Request) (since to_since m to_m b : ℕ) (bytes : List ℕ) → to_since ≤ since → m ≤ to_m → PendingPuts pending since m b bytes → PendingPuts pending to_since to_m b bytes
wider pending since to_since m to_m b bytes lower higher puts = grind arith

pub pushed : (pending : List Request) (request : Request) (since m b : ℕ) (bytes : List ℕ) → PendingPuts pending since m b bytes → PendingPuts (pending ++ request ∷ []) since m b bytes
pushed pending request since m b bytes puts =
    record { place = puts.place; request = puts.request; from = puts.from; below = puts.below; there = issued_more pending request puts.request puts.place puts.there; puts = puts.puts }

-- WHAT SHOWS a content goes on to do so
pub shows_done : (content : List ℕ) (request : Request) (pending : List Request) (i m b : ℕ) (bytes : List ℕ) → Shows content (request ∷ pending) (suc i) m b bytes
    → Shows (after_request content request) pending i (m - 1) b bytes
shows_done content request pending i m b bytes (inl same) = inl same
shows_done content request pending i m b bytes (inr puts) = inr (shift_down request pending i m b bytes puts)

pub shows_pushed : (content : List ℕ) (request : Request) (pending : List Request) (i m b : ℕ) (bytes : List ℕ) → i ≤ length pending → Shows content pending i m b bytes
    → Shows content (pending ++ request ∷ []) i m b bytes
shows_pushed content request pending i m b bytes within shows = grind (arith, take-append-le, pushed)

-- THE LAST WRITE of the first n, or none of them
pub earlier : (blocks : ℕ) (content : List ℕ) (pending : List Request) (n b : ℕ) → AreSound blocks pending → length content ≡ 512 * blocks
    → (block_at b (after_requests content (take n pending)) ≡ block_at b content) ⊎ PendingPuts pending 0 n b (block_at b (after_requests content (take n pending)))
earlier blocks content pending zero b sound long = inl refl
earlier blocks content [] (suc n) b sound long = inl refl
earlier blocks content (request ∷ pending) (suc n) b sound long = by_later (earlier blocks (after_request content request) pending n b sound.2 (after_long blocks content request sound.0 long))
  where
    last : List ℕ
    last = block_at b (after_requests (after_request content request) (take n pending))

    by_this : last ≡ block_at b (after_request content request) → (last ≡ block_at b content) ⊎ PendingPuts (request ∷ pending) 0 (suc n) b last
    by_this same =
        elim (reaches_or_not request b) [
          | inl reaches ↦ inr (record {
            place = 0;
            request = request;
            from = omega arith;
            below = omega arith;
            there = refl;
            puts = subst (λ (x : List ℕ). WritesBlock request b x) (sym same) (after_reached blocks content request b sound.0 long reaches);
          })
          | inr not ↦ inl (same ∙ after_missed blocks content request b sound.0 long not)
        ]

    by_later : (last ≡ block_at b (after_request content request)) ⊎ PendingPuts pending 0 n b last → (last ≡ block_at b content) ⊎ PendingPuts (request ∷ pending) 0 (suc n) b last
    by_later (inl same) = by_this same
    by_later (inr puts) = inr (shift_up request pending n b last puts)
