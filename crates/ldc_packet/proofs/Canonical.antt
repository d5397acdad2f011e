-- The canonical bytes of a packet spell it.
use Rattle.std.proofs.Common.{◌≡◌, ℕ, List, length, drop, refl, sym, subst, arith}
use Rattle.byteorder.specs.Numbers.{big_number-reads_back}
use Rattle.ldc_packet.specs.declared.packet.Body.{Body}
use Rattle.ldc_packet.specs.declared.packet.Body.TheVariants.{Vers, Rts, Rtr, Rdx, Part}
use Rattle.ldc_packet.specs.declared.packet.Packet.{Packet}
use Rattle.ldc_packet.specs.declared.packet.Subtype.{Subtype}
use Rattle.ldc_packet.specs.Form.{BodyHasWidths, HasForm, HasWidths, IsWellFormed}
use Rattle.ldc_packet.specs.Spelling.{SpellsBody, SpellsPacket, canonical, payload}
use Rattle.ldc_packet.proofs.Same.{same_packet}

payload_length : (s : Subtype) (body : Body) → HasForm s body → length (payload body) ≡ 56
payload_length s (Vers major minor) form = refl
payload_length s (Rts mode) form = refl
payload_length s (Rtr mode) form = refl
payload_length s Rdx form = refl
payload_length s (Part start stop len part) form = form.room

-- the canonical bytes of a packet are 64
pub length_canonical : (packet : Packet) → IsWellFormed packet → length (canonical packet) ≡ 64
unfolding canonical
length_canonical packet form = let long = payload_length packet.subtype packet.body form in omega (arith, long)

body_spelled : (s : Subtype) (n : ℕ) (body : Body) → BodyHasWidths body
    → SpellsBody (canonical (record { subtype = s; seqid = n; body = body })) body
unfolding canonical
body_spelled s n (Vers major minor) fits =
    let bytes : List ℕ = canonical (record { subtype = s; seqid = n; body = Vers major minor }) in
    (omega arith, big_number-reads_back 2 major (drop 10 bytes) fits.0, big_number-reads_back 2 minor (drop 12 bytes) fits.1)
body_spelled s n (Rts mode) fits = (omega arith, omega arith)
body_spelled s n (Rtr mode) fits = (omega arith, omega arith)
body_spelled s n Rdx fits = omega arith
body_spelled s n (Part start stop len part) fits = (omega arith, refl)

-- the canonical bytes of a packet spell it
pub canonical_spells : (packet : Packet) → IsWellFormed packet → HasWidths packet → SpellsPacket (canonical packet) packet
unfolding canonical
canonical_spells packet form fits = record {
  size = length_canonical packet form;
  kind = omega arith;
  subtype = omega arith;
  seqid = big_number-reads_back 4 packet.seqid (drop 8 (canonical packet)) fits.0;
  body = body_spelled packet.subtype packet.seqid packet.body fits.1;
}

-- packets with the same canonical bytes are equal
pub same_bytes : (one other : Packet) → IsWellFormed one → IsWellFormed other → HasWidths one → HasWidths other
    → canonical one ≡ canonical other → one ≡ other
same_bytes one other form other_form fits other_fits same =
    same_packet (canonical one) one other form other_form (canonical_spells one form fits)
    (subst (λ (bytes : List ℕ). SpellsPacket bytes other) (sym same) (canonical_spells other other_form other_fits))
