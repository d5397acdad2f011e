-- What requests leave of a block is the last write's bytes, or the first content's.
use Rattle.std.proofs.Common.{◌≡◌, ℕ, zero, suc, ◌*◌, ◌<◌, ◌⊎◌, List, [], ◌∷◌, length, Some, inl, inr, refl, sym, ◌∙◌, subst, arith}
use Rattle.std.specs.Prelude.{slice_get}
use Rattle.vdisk_msg.specs.declared.request.Request.{Request}
use Rattle.vdisk_msg.specs.Requests.{AreSound, after_request}
use Rattle.lane_models.proofs.Apart.{some_same}
use Rattle.lane_laws.specs.Blocks.{WritesBlock, Reaches, after_requests, block_at}
use Rattle.lane_laws.specs.Headline.{LastAmong, LastWrite, NoneAmong}
use Rattle.lane_laws.proofs.BlockWrites.{after_long, after_missed, after_reached, reaches_or_not}

-- one more request in front
one_before : (request : Request) (requests : List Request) (b : ℕ) (bytes : List ℕ) → LastAmong requests b bytes → LastAmong (request ∷ requests) b bytes
one_before request requests b bytes among = record {
  id = suc among.id;
  request = among.request;
  there = among.there;
  puts = among.puts;
  last = last;
}
  where
    last : (other : ℕ) (behind : Request) → suc among.id < other → slice_get (request ∷ requests) other ≡ Some behind → Reaches behind b → ⊥
    last zero behind less there reaches = absurd (omega (arith, less))
    last (suc other) behind less there reaches = among.last other behind (omega (arith, less)) there reaches

pub last_write : (blocks : ℕ) (first : List ℕ) (requests : List Request) (b : ℕ) → AreSound blocks requests → length first ≡ 512 * blocks → LastWrite first requests b (block_at b (after_requests first requests))
last_write blocks first [] b sound long = inr (record { none = λ other request there reaches. absurd (cc there); bytes_are = refl })
last_write blocks first (request ∷ requests) b sound long =
    by_rest (last_write blocks (after_request first request) requests b sound.2 (after_long blocks first request sound.0 long))
  where
    bytes : List ℕ
    bytes = block_at b (after_requests (after_request first request) requests)

    by_first : NoneAmong (after_request first request) requests b bytes → Reaches request b ⊎ (Reaches request b → ⊥) → LastWrite first (request ∷ requests) b bytes
    by_first none (inl reaches) =
        let puts : WritesBlock request b bytes = subst (λ (x : List ℕ). WritesBlock request b x) (sym none.bytes_are) (after_reached blocks first request b sound.0 long reaches) in
        inl (record { id = 0; request = request; there = refl; puts = puts; last = later })
      where
        later : (other : ℕ) (behind : Request) → 0 < other → slice_get (request ∷ requests) other ≡ Some behind → Reaches behind b → ⊥
        later zero behind less there = absurd (omega (arith, less))
        later (suc other) behind less there = none.none other behind there
    by_first none (inr missed) = inr (record { none = never; bytes_are = none.bytes_are ∙ after_missed blocks first request b sound.0 long missed })
      where
        never : (other : ℕ) (one : Request) → slice_get (request ∷ requests) other ≡ Some one → Reaches one b → ⊥
        never zero one there = let same : request ≡ one = some_same there in subst (λ (r : Request). Reaches r b → ⊥) same missed
        never (suc other) one there = none.none other one there

    by_rest : LastWrite (after_request first request) requests b bytes → LastWrite first (request ∷ requests) b bytes
    by_rest (inl among) = inl (one_before request requests b bytes among)
    by_rest (inr none) = by_first none (reaches_or_not request b)
