-- What the bytes of a packet say of its number and its part.
use Rattle.std.proofs.Common.{◌≡◌, ℕ, ◌+◌, ◌<◌, ◌/◌, ◌%◌, Bool, true, false, List, take, ap, ◌∙◌, arith}
use Rattle.std.proofs.lemmas.Bool.{eq-eqb}
use Rattle.std.specs.Prelude.{◌&&◌, ◌||◌, nat_eq}
use Rattle.ldc_packet.specs.declared.packet.Body.{Body}
use Rattle.ldc_packet.specs.declared.packet.Body.TheVariants.{Part, Rdx, Rtr, Rts, Vers}
use Rattle.ldc_packet.specs.declared.packet.Packet.{Packet}
use Rattle.ldc_packet.specs.declared.packet.Subtype.{Subtype}
use Rattle.ldc_packet.specs.Form.{HasForm, IsWellFormed}
use Rattle.ldc_packet.specs.Spelling.{SpellsBody, SpellsPacket, ctrl_at, env_at, part_env, payload_at, type_at, type_code}
use Rattle.ldc_queue.specs.Fragments.{Fragment, fragment_at, is_part}
use Rattle.ldc_queue.specs.Numbered.{is_numbered}
use Rattle.ldc_link.specs.Conversing.{IsData, fragment_of}

unfoldable pub has_number : Body → Bool
has_number (Vers major minor) = false
has_number (Rts mode) = false
has_number (Rtr mode) = false
has_number Rdx = true
has_number (Part start stop len bytes) = true

unfoldable pub has_part : Body → Bool
has_part (Vers major minor) = false
has_part (Rts mode) = false
has_part (Rtr mode) = false
has_part Rdx = false
has_part (Part start stop len bytes) = true

numbered_by : ℕ → ℕ → Bool
numbered_by kind ctrl = nat_eq kind 2 || (nat_eq kind 1 && nat_eq ctrl 4)

body_numbered : (bytes : List ℕ) (b : Body) → type_at bytes ≡ type_code b → SpellsBody bytes b → is_numbered bytes ≡ has_number b
unfolding numbered_by has_number
body_numbered bytes (Vers major minor) kind spells = ap (λ (t : ℕ). numbered_by t (ctrl_at bytes)) kind ∙ ap (numbered_by 1) spells.0
body_numbered bytes (Rts mode) kind spells = ap (λ (t : ℕ). numbered_by t (ctrl_at bytes)) kind ∙ ap (numbered_by 1) spells.0
body_numbered bytes (Rtr mode) kind spells = ap (λ (t : ℕ). numbered_by t (ctrl_at bytes)) kind ∙ ap (numbered_by 1) spells.0
body_numbered bytes Rdx kind spells = ap (λ (t : ℕ). numbered_by t (ctrl_at bytes)) kind ∙ ap (numbered_by 1) spells
body_numbered bytes (Part start stop len part) kind spells = ap (λ (t : ℕ). numbered_by t (ctrl_at bytes)) kind

body_part : (bytes : List ℕ) (b : Body) → type_at bytes ≡ type_code b → is_part bytes ≡ has_part b
unfolding has_part
body_part bytes (Vers major minor) kind = ap (λ (t : ℕ). nat_eq t 2) kind
body_part bytes (Rts mode) kind = ap (λ (t : ℕ). nat_eq t 2) kind
body_part bytes (Rtr mode) kind = ap (λ (t : ℕ). nat_eq t 2) kind
body_part bytes Rdx kind = ap (λ (t : ℕ). nat_eq t 2) kind
body_part bytes (Part start stop len part) kind = ap (λ (t : ℕ). nat_eq t 2) kind

-- the flags and the length of an env byte
none_of : (n : ℕ) → n ≡ 0 → n ≡ 0
none_of n is = is

env_start : (start stop : Bool) (len : ℕ) → len < 64 → nat_eq (part_env start stop len / 64 % 2) 1 ≡ start
env_start true true len few = eq-eqb ((128 + 64 + len) / 64 % 2) 1 (omega (arith, few))
env_start true false len few = eq-eqb ((0 + 64 + len) / 64 % 2) 1 (omega (arith, few))
env_start false true len few = ap (λ (n : ℕ). nat_eq n 1) (none_of ((128 + 0 + len) / 64 % 2) (omega (arith, few)))
env_start false false len few = ap (λ (n : ℕ). nat_eq n 1) (none_of ((0 + 0 + len) / 64 % 2) (omega (arith, few)))

env_stop : (start stop : Bool) (len : ℕ) → len < 64 → nat_eq (part_env start stop len / 128 % 2) 1 ≡ stop
env_stop true true len few = eq-eqb ((128 + 64 + len) / 128 % 2) 1 (omega (arith, few))
env_stop false true len few = eq-eqb ((128 + 0 + len) / 128 % 2) 1 (omega (arith, few))
env_stop true false len few = ap (λ (n : ℕ). nat_eq n 1) (none_of ((0 + 64 + len) / 128 % 2) (omega (arith, few)))
env_stop false false len few = ap (λ (n : ℕ). nat_eq n 1) (none_of ((0 + 0 + len) / 128 % 2) (omega (arith, few)))

env_len : (start stop : Bool) (len : ℕ) → len < 64 → part_env start stop len % 64 ≡ len
env_len true true len few = omega (arith, few)
env_len true false len few = omega (arith, few)
env_len false true len few = omega (arith, few)
env_len false false len few = omega (arith, few)

make_part : Bool → Bool → List ℕ → Fragment
make_part start stop bytes = record { start = start; stop = stop; bytes = bytes }

body_fragment : (bytes : List ℕ) (s : Subtype) (b : Body) → IsData b → HasForm s b → SpellsBody bytes b → fragment_at bytes ≡ fragment_of b
unfolding make_part
body_fragment bytes s (Part start stop len part) is form spells =
    let few : len < 64 = omega (arith, form.within) in
    let env : env_at bytes ≡ part_env start stop len = spells.0 in
    let begins : nat_eq (env_at bytes / 64 % 2) 1 ≡ start = ap (λ (n : ℕ). nat_eq (n / 64 % 2) 1) env ∙ env_start start stop len few in
    let ends : nat_eq (env_at bytes / 128 % 2) 1 ≡ stop = ap (λ (n : ℕ). nat_eq (n / 128 % 2) 1) env ∙ env_stop start stop len few in
    let own : take (env_at bytes % 64) (payload_at bytes) ≡ take len part =
    ap (λ (n : ℕ). take (n % 64) (payload_at bytes)) env ∙ ap (λ (n : ℕ). take n (payload_at bytes)) (env_len start stop len few) ∙ spells.1 in
    ap (λ (b : Bool). make_part b (nat_eq (env_at bytes / 128 % 2) 1) (take (env_at bytes % 64) (payload_at bytes))) begins
    ∙ ap (λ (b : Bool). make_part start b (take (env_at bytes % 64) (payload_at bytes))) ends
    ∙ ap (make_part start stop) own
body_fragment bytes s (Vers major minor) is form spells = absurd is
body_fragment bytes s (Rts mode) is form spells = absurd is
body_fragment bytes s (Rtr mode) is form spells = absurd is
body_fragment bytes s Rdx is form spells = absurd is

pub spelled_numbered : (bytes : List ℕ) (p : Packet) → SpellsPacket bytes p → is_numbered bytes ≡ has_number p.body
spelled_numbered bytes p spells = body_numbered bytes p.body spells.kind spells.body

pub spelled_part : (bytes : List ℕ) (p : Packet) → SpellsPacket bytes p → is_part bytes ≡ has_part p.body
spelled_part bytes p spells = body_part bytes p.body spells.kind

pub spelled_fragment : (bytes : List ℕ) (p : Packet) → IsData p.body → IsWellFormed p → SpellsPacket bytes p → fragment_at bytes ≡ fragment_of p.body
spelled_fragment bytes p is form spells = body_fragment bytes p.subtype p.body is form spells.body
