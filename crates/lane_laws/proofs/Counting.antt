-- What the log counts of an open session, and what its slots are: those of its numbers modulo the ring.
use Rattle.std.proofs.Common.{◌≡◌, ℕ, zero, suc, ◌^◌, ◌%◌, ◌≤◌, ◌⊎◌, Option, Some, ap, ◌∙◌, arith, inl, inr}
use Rattle.lane_laws.specs.Agreement.{ClientAgrees, ClientCountsAgree, ServerAgrees, ServerCountsAgree, WorkAgrees}
use Rattle.lane_laws.specs.WorkLog.{ClientCounts, ServerCounts}
use Rattle.lane_models.specs.ClientState.{ClientSession}
use Rattle.vio_bytes.specs.Powers.{IsPowerOfTwo}
use Rattle.lane_models.specs.Ranges.{wrapped}
use Rattle.lane_models.specs.ServerState.{ServerSession, Work}

-- a client's session is open in the log too, with its counts
pub record OfClient (session : ClientSession) (done : ℕ) (k : Option ClientCounts) : Type 0 where
  pub counts : ClientCounts
  pub is : k ≡ Some counts
  pub agree : ClientCountsAgree session done counts

pub of_client : (o : Option ClientSession) (session : ClientSession) (done : ℕ) (k : Option ClientCounts) → o ≡ Some session → ClientAgrees o done k → OfClient session done k
of_client o session done k is agrees = grind arith

-- and a server's, with its work
pub record OfServer (session : ServerSession) (work : Option Work) (d : Option ServerCounts) : Type 0 where
  pub counts : ServerCounts
  pub is : d ≡ Some counts
  pub agree : ServerCountsAgree session counts
  pub work_agrees : WorkAgrees work counts

pub of_server : (o : Option ServerSession) (session : ServerSession) (work : Option Work) (d : Option ServerCounts) → o ≡ Some session → ServerAgrees o work d → OfServer session work d
of_server o session work d is agrees = grind arith

-- A RING has 2, 4, 8 slots and so on up to 256, so that a number modulo 2^64 has its slot
positive : (k : ℕ) → 1 ≤ 2 ^ k
positive zero = omega arith
positive (suc k) = omega (arith, positive k)

abbrev IsSize : ℕ → Type 0
IsSize n = (n ≡ 2) ⊎ (n ≡ 4) ⊎ (n ≡ 8) ⊎ (n ≡ 16) ⊎ (n ≡ 32) ⊎ (n ≡ 64) ⊎ (n ≡ 128) ⊎ (n ≡ 256)

size_of : (k n : ℕ) → n ≡ 2 ^ k → 2 ≤ n → n ≤ 256 → IsSize n
size_of zero n is some most = absurd (omega (arith, is, some))
size_of (suc zero) n is some most = inl (omega (arith, is))
size_of (suc (suc zero)) n is some most = inr (inl (omega (arith, is)))
size_of (suc (suc (suc zero))) n is some most = inr (inr (inl (omega (arith, is))))
size_of (suc (suc (suc (suc zero)))) n is some most = inr (inr (inr (inl (omega (arith, is)))))
size_of (suc (suc (suc (suc (suc zero))))) n is some most = inr (inr (inr (inr (inl (omega (arith, is))))))
size_of (suc (suc (suc (suc (suc (suc zero)))))) n is some most = inr (inr (inr (inr (inr (inl (omega (arith, is)))))))
size_of (suc (suc (suc (suc (suc (suc (suc zero))))))) n is some most = inr (inr (inr (inr (inr (inr (inl (omega (arith, is))))))))
size_of (suc (suc (suc (suc (suc (suc (suc (suc zero)))))))) n is some most = inr (inr (inr (inr (inr (inr (inr (omega (arith, is))))))))
size_of (suc (suc (suc (suc (suc (suc (suc (suc (suc k))))))))) n is some most = absurd (omega (arith, is, most, positive k))

wraps_in : (n m : ℕ) → IsSize n → m % 2 ^ 64 % n ≡ m % n
wraps_in n m size = grind arith

-- the slot of a count that wraps
pub slot_of_count : (slots count number : ℕ) → IsPowerOfTwo slots → 2 ≤ slots → slots ≤ 256 → count ≡ wrapped number → count % slots ≡ number % slots
slot_of_count slots count number power some most is =
    ap (λ (n : ℕ). n % slots) is ∙ wraps_in slots number (size_of power.0 slots power.1 some most)
