-- The payload of a packet and the env byte of a part.
use Rattle.std.proofs.Common.{◌≡◌, ℕ, zero, suc, ◌-◌, ◌*◌, ◌/◌, ◌%◌, ◌<◌, List, ◌++◌, length, drop, replicate, not, nat_eq, bit_and, refl, ap, ◌∙◌, arith}
use Rattle.std.proofs.lemmas.List.{drop-replicate, drop_at}
use Rattle.std.proofs.lemmas.Nat.{and_mask}
use Rattle.std.proofs.lemmas.Nat.Bits.{and_pow}
use Rattle.ldc_packet.specs.Spelling.{flag, part_env}

-- zeros stay after what was copied into the front of a list of zeros
pub zeros_behind : (len : ℕ) (part rest : List ℕ) → length part ≡ len → rest ≡ drop len (replicate 56 0)
    → drop len (part ++ rest) ≡ replicate (56 - len) 0
zeros_behind len part rest long is = drop_at part rest len long ∙ is ∙ drop-replicate len 56 0

-- a flag is the value of its bit
start_bit : (b : ℕ) → b < 2 → flag (not (nat_eq (b * 64) 0)) 64 ≡ b * 64
start_bit zero h = refl
start_bit (suc zero) h = refl
start_bit (suc (suc b)) h = absurd (omega arith)

stop_bit : (b : ℕ) → b < 2 → flag (not (nat_eq (b * 128) 0)) 128 ≡ b * 128
stop_bit zero h = refl
stop_bit (suc zero) h = refl
stop_bit (suc (suc b)) h = absurd (omega arith)

-- a byte is its two high bits and its low six
pub env_whole : (env : ℕ) → env < 256
    → env ≡ part_env (not (nat_eq (bit_and env 64) 0)) (not (nat_eq (bit_and env 128) 0)) (bit_and env 63)
env_whole env fits =
    let start : flag (not (nat_eq (bit_and env 64) 0)) 64 ≡ env / 64 % 2 * 64 =
    ap (λ (n : ℕ). flag (not (nat_eq n 0)) 64) (and_pow env 6) ∙ start_bit (env / 64 % 2) (omega arith) in
    let stop : flag (not (nat_eq (bit_and env 128) 0)) 128 ≡ env / 128 % 2 * 128 =
    ap (λ (n : ℕ). flag (not (nat_eq n 0)) 128) (and_pow env 7) ∙ stop_bit (env / 128 % 2) (omega arith) in
    let low : bit_and env 63 ≡ env % 64 = and_mask env 6 in
    omega (arith, start, stop, low)
