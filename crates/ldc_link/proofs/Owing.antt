-- What is owed: a part where the link is up, and else a packet of the handshake.
use Rattle.std.proofs.Common.{◌≡◌, ◌<◌, ◌-◌, true, false, List, [], ◌∷◌, ◌++◌, ℕ, length, take, replicate, Some, None, Ok, refl, sym, ap, ◌∙◌, subst, arith}
use Rattle.std.proofs.lemmas.List.{drop-replicate}
use Rattle.std.specs.Prelude.{IfSome, Option, is_some, min, nat_le, not}
use Rattle.ldc_packet.specs.declared.packet.Body.TheVariants.{Part}
use Rattle.ldc_packet.specs.declared.packet.Subtype.TheVariants.{Info}
use Rattle.ldc_packet.specs.declared.part.PartHead.{PartHead}
use Rattle.ldc_packet.specs.Decoding.{Unpacks}
use Rattle.ldc_packet.specs.Parts.{part_packet}
use Rattle.ldc_packet.specs.declared.packet.Packet.{Packet}
use Rattle.ldc_packet.specs.Spelling.{canonical, payload_at}
use Rattle.ldc_link.specs.declared.phase.LinkPhase.{LinkPhase}
use Rattle.ldc_link.specs.declared.phase.LinkPhase.TheVariants as phase
use Rattle.ldc_link.specs.Calls.{Puts}
use Rattle.ldc_link.specs.LinkState.{LinkState, is_established, is_up}
use Rattle.ldc_link.specs.Putting.{behind_put, control, first_part, link_puts, owed_in, owed_packet, owes, owes_in, part_bytes, part_owed, with_link}
use Rattle.ldc_link.specs.Taking.{LinkTake, TakesBytes, in_turn, takes_part}
use Rattle.ldc_link.proofs.Parts.{padded, part_owed_more}

established_owes : (p : LinkPhase) (k : LinkState) → is_established p ≡ true → owed_in p k ≡ part_owed k k.to_send
established_owes phase.Established k up = refl
established_owes _ k up = absurd (cc)

pub owed_up : (k : LinkState) → is_up k ≡ true → owed_packet k ≡ part_owed k k.to_send
owed_up k up = established_owes k.phase k up

handshake_owes : (p : LinkPhase) (k : LinkState) → is_established p ≡ false → owes_in p ≡ is_some (owed_in p k)
handshake_owes phase.OwesVersInfo k up = refl
handshake_owes phase.AwaitsVersAck k up = refl
handshake_owes phase.OwesRts k up = refl
handshake_owes phase.AwaitsRtr k up = refl
handshake_owes phase.OwesRdx k up = refl
handshake_owes phase.AwaitsVersInfo k up = refl
handshake_owes phase.OwesVersAck k up = refl
handshake_owes (phase.OwesVersNack major) k up = refl
handshake_owes phase.AwaitsRts k up = refl
handshake_owes phase.OwesRtr k up = refl
handshake_owes phase.AwaitsRdx k up = refl
handshake_owes phase.Established k up = absurd (cc)

pub owes_down : (k : LinkState) → is_up k ≡ false → owes_in k.phase ≡ owes k
owes_down k down = handshake_owes k.phase k down

pub owes_up : (k : LinkState) → is_up k ≡ true → is_some (part_owed k k.to_send) ≡ owes k
owes_up k up = ap is_some (sym (owed_up k up))

-- a part is owed exactly where something is left
pub part_left : (k : LinkState) (left : List ℕ) → is_some (part_owed k left) ≡ true → 0 < length left
part_left k [] some = absurd (cc)
part_left k (byte ∷ left) some = omega arith

pub left_part : (k : LinkState) (left : List ℕ) → 0 < length left → is_some (part_owed k left) ≡ true
left_part k left more = ap is_some (part_owed_more k left more)

pub none_left : (k : LinkState) (left : List ℕ) → left ≡ [] → is_some (part_owed k left) ≡ false
none_left k left none = ap (λ (xs : List ℕ). is_some (part_owed k xs)) none

pub up_left : (k : LinkState) → is_up k ≡ true → owes k ≡ true → 0 < length k.to_send
up_left k up owed = part_left k k.to_send (owes_up k up ∙ owed)

-- the bytes of the part, or of another packet, are those of what is owed
pub part_spelled : (k : LinkState) (bytes : List ℕ) → is_up k ≡ true → owes k ≡ true → bytes ≡ canonical (first_part k)
    → IfSome (owed_packet k) (λ packet. bytes ≡ canonical packet)
part_spelled k bytes up owed is =
    subst (λ (o : Option Packet). IfSome o (λ packet. bytes ≡ canonical packet))
    (sym (owed_up k up ∙ part_owed_more k k.to_send (up_left k up owed))) is

puts_some : (k : LinkState) (o : Option Packet) (bytes : List ℕ) → is_some o ≡ true
    → IfSome o (λ packet. bytes ≡ canonical packet)
    → (packet : Packet) × (with_link o (behind_put k) ≡ Some (packet, behind_put k)) × (bytes ≡ canonical packet)
puts_some k None bytes some is = absurd (cc)
puts_some k (Some packet) bytes some is = (packet, refl, is)

-- what is owed is put
pub puts_owed : (k behind : LinkState) (bytes : List ℕ) → owes k ≡ true
    → IfSome (owed_packet k) (λ packet. bytes ≡ canonical packet)
    → behind ≡ behind_put k → Puts k bytes behind
puts_owed k behind bytes owed is put =
    let found = puts_some k (owed_packet k) bytes owed is in
    subst (λ (t : LinkState). Puts k bytes t) (sym put) (record { packet = found.0; next = found.1; spelled = found.2 })

nothing_some : (k : LinkState) (o : Option Packet) → is_some o ≡ false → with_link o (behind_put k) ≡ None
nothing_some k None some = refl
nothing_some k (Some packet) some = absurd (cc)

pub nothing_put : (k : LinkState) → owes k ≡ false → link_puts k ≡ None
nothing_put k none = nothing_some k (owed_packet k) none

part_of_parts : (k : LinkState) (n m len least : ℕ) (xs ys : List ℕ) → n ≡ m → len ≡ least → xs ≡ ys
    → control Info k.put_next (Part (not k.begun) (nat_le n 56) len xs)
    ≡ control Info k.put_next (Part (not k.begun) (nat_le m 56) least ys)
part_of_parts k n m len least xs ys left is same = cc

-- the head of the next part
pub head_packet : (k : LinkState) (n len : ℕ) → n ≡ length k.to_send → len ≡ min n 56
    → part_packet (record { seqid = k.put_next; start = not k.begun; stop = nat_le n 56; len = len }) k.to_send
    ≡ first_part k
head_packet k n len left is =
    let least : len ≡ min (length k.to_send) 56 = is ∙ ap (λ (m : ℕ). min m 56) left in
    let padded_is : take len k.to_send ++ replicate (56 - len) 0 ≡ part_bytes k.to_send =
    ap (λ (xs : List ℕ). take len k.to_send ++ xs) (sym (drop-replicate len 56 0)) ∙ padded k.to_send len least in
    part_of_parts k n (length k.to_send) len (min (length k.to_send) 56)
    (take len k.to_send ++ replicate (56 - len) 0) (part_bytes k.to_send) left least padded_is

abbrev pub taken_with : LinkState → PartHead → List ℕ → LinkTake
taken_with k head bytes =
    in_turn k head.seqid (takes_part k (record { start = head.start; stop = head.stop; bytes = bytes }))

-- a part that lies in its packet is taken as the packet is
pub part_taken : (k : LinkState) (bytes : List ℕ) (head : PartHead) (answer : LinkTake)
    → Unpacks bytes (Ok (part_packet head (payload_at bytes)))
    → answer ≡ taken_with k head (take head.len (payload_at bytes)) → TakesBytes k bytes answer
part_taken k bytes head answer unpacks is = record {
  decoded = Ok (part_packet head (payload_at bytes));
  unpacks = unpacks;
  is = is ∙ ap (taken_with k head) unpacks.packet.1.body.1;
}
