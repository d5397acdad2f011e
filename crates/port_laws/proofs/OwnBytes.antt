-- What the messages say that an end of a port forms in its session, by their bytes.
use Rattle.std.proofs.Common.{◌≡◌, ℕ, zero, suc, ◌^◌, ◌<◌, ◌≤◌, List, [], ◌∷◌, length, take, refl, sym, ap, ◌∙◌, arith}
use Rattle.std.specs.Prelude.{◌%◌}
use Rattle.std.specs.List.{AllByRecursion}
use Rattle.ldc_packet.specs.declared.packet.Subtype.{Subtype}
use Rattle.ldc_packet.specs.declared.packet.Subtype.TheVariants.{Info}
use Rattle.ldc_packet.specs.Spelling.{subtype_code}
use Rattle.vio_tag.proofs.Canonical.{canonical_spells}
use Rattle.vio_tag.specs.declared.message.Message.{Message}
use Rattle.vio_tag.specs.declared.message.MsgBody.TheVariants.{DringData, Mcast}
use Rattle.vio_tag.specs.Spelling.{SpellsMessage, canonical}
use Rattle.lane_models.specs.Messages.{end_slot_of, seq_of, start_slot_of, subtype_of}
use Rattle.lane_models.specs.EndLog.{groups_fields}
use Rattle.lane_models.specs.Groups.{membership, seven}
use Rattle.lane_models.specs.NetEndState.{GroupsReply}
use Rattle.lane_models.specs.Spoken.{addresses_of, count_of, groups_spoken, range_spoken, set_of, seven_of, spoken, state_of}
use Rattle.port_laws.specs.Counted.{AreAddresses, AreGroups, reply_fields}
use Rattle.port_laws.proofs.ShortMessages.{seven_long}

-- RANGES
abbrev pub range_bytes : Subtype → ℕ → ℕ → ℕ → ℕ → ℕ → ℕ → List ℕ
range_bytes s n seq ident start end state = canonical (record { subtype = s; sid = n; body = DringData seq ident start end state })

pub range_spoken_as : (s : Subtype) (n seq ident start end state : ℕ) → spoken (range_bytes s n seq ident start end state) ≡ range_spoken (subtype_code s)
unfolding canonical
range_spoken_as s n seq ident start end state = grind arith

-- its fields are read back, whatever the sid and the ident are
simple : Subtype → ℕ → ℕ → ℕ → ℕ → Message
simple s seq start end state = record { subtype = s; sid = 0; body = DringData seq 0 start end state }

same_seq : (s : Subtype) (n seq ident start end state : ℕ) → seq_of (range_bytes s n seq ident start end state) ≡ seq_of (canonical (simple s seq 0 0 0))
unfolding canonical simple
same_seq s n seq ident start end state = refl

same_start : (s : Subtype) (n seq ident start end state : ℕ) → start_slot_of (range_bytes s n seq ident start end state) ≡ start_slot_of (canonical (simple s 0 start 0 0))
unfolding canonical simple
same_start s n seq ident start end state = refl

same_end : (s : Subtype) (n seq ident start end state : ℕ) → end_slot_of (range_bytes s n seq ident start end state) ≡ end_slot_of (canonical (simple s 0 0 end 0))
unfolding canonical simple
same_end s n seq ident start end state = refl

same_state : (s : Subtype) (n seq ident start end state : ℕ) → state_of (range_bytes s n seq ident start end state) ≡ state_of (canonical (simple s 0 0 0 state))
unfolding canonical simple
same_state s n seq ident start end state = refl

simple_spells : (s : Subtype) (seq start end state : ℕ) → seq < 2 ^ 64 → start < 2 ^ 32 → end < 2 ^ 32 → state < 2 ^ 8
    → SpellsMessage (canonical (simple s seq start end state)) (record { subtype = s; sid = 0; body = DringData seq 0 start end state })
unfolding simple
simple_spells s seq start end state small_seq small_start small_end small_state =
    canonical_spells (record { subtype = s; sid = 0; body = DringData seq 0 start end state }) tt (omega arith, (small_seq, omega arith, small_start, small_end, small_state))

pub seq_is : (s : Subtype) (n seq ident start end state : ℕ) → seq < 2 ^ 64 → seq_of (range_bytes s n seq ident start end state) ≡ seq
seq_is s n seq ident start end state small =
    same_seq s n seq ident start end state ∙ sym (simple_spells s seq 0 0 0 small (omega arith) (omega arith) (omega arith)).body.0

pub start_is : (s : Subtype) (n seq ident start end state : ℕ) → start < 2 ^ 32 → start_slot_of (range_bytes s n seq ident start end state) ≡ start
start_is s n seq ident start end state small =
    same_start s n seq ident start end state ∙ sym (simple_spells s 0 start 0 0 (omega arith) small (omega arith) (omega arith)).body.2

pub end_is : (s : Subtype) (n seq ident start end state : ℕ) → end < 2 ^ 32 → end_slot_of (range_bytes s n seq ident start end state) ≡ end
end_is s n seq ident start end state small =
    same_end s n seq ident start end state ∙ sym (simple_spells s 0 0 end 0 (omega arith) (omega arith) small (omega arith)).body.3

pub state_is : (s : Subtype) (n seq ident start end state : ℕ) → state < 2 ^ 8 → state_of (range_bytes s n seq ident start end state) ≡ state
state_is s n seq ident start end state small =
    same_state s n seq ident start end state ∙ sym (simple_spells s 0 0 0 state (omega arith) (omega arith) (omega arith) small).body.4

-- GROUPS
abbrev pub groups_bytes : Subtype → ℕ → ℕ → ℕ → List (List ℕ) → List ℕ
groups_bytes s n set count addresses = canonical (record { subtype = s; sid = n; body = Mcast set count addresses })

pub groups_spoken_as : (s : Subtype) (n set count : ℕ) (addresses : List (List ℕ)) → spoken (groups_bytes s n set count addresses) ≡ groups_spoken (subtype_code s)
unfolding canonical
groups_spoken_as s n set count addresses = grind arith

-- an answer has its fields, of which two are bytes
subtype_reads : (s : Subtype) (n set count : ℕ) (addresses : List (List ℕ)) → subtype_of (groups_bytes s n set count addresses) ≡ subtype_code s
unfolding canonical
subtype_reads s n set count addresses = omega arith

set_reads : (s : Subtype) (n set count : ℕ) (addresses : List (List ℕ)) → set_of (groups_bytes s n set count addresses) % 256 ≡ set % 256
unfolding canonical
set_reads s n set count addresses = omega arith

count_reads : (s : Subtype) (n set count : ℕ) (addresses : List (List ℕ)) → count_of (groups_bytes s n set count addresses) % 256 ≡ count % 256
unfolding canonical
count_reads s n set count addresses = omega arith

bare_seven : (s : Subtype) (n set count : ℕ) (addresses : List (List ℕ)) → seven_of (groups_bytes s n set count addresses) ≡ seven_of (groups_bytes Info 0 1 0 addresses)
unfolding canonical
bare_seven s n set count addresses = refl

pub reply_read : (n : ℕ) (reply : GroupsReply) → length reply.addresses ≡ 7 → AllByRecursion (λ (address : List ℕ). length address ≡ 6) reply.addresses
    → groups_fields (groups_bytes reply.subtype n reply.set reply.count reply.addresses) ≡ reply_fields reply
reply_read n reply few long =
    let m : List ℕ = groups_bytes reply.subtype n reply.set reply.count reply.addresses in
    let spells : SpellsMessage (groups_bytes Info 0 1 0 reply.addresses) (record { subtype = Info; sid = 0; body = Mcast 1 0 reply.addresses }) =
    canonical_spells (record { subtype = Info; sid = 0; body = Mcast 1 0 reply.addresses }) tt (omega arith, (omega arith, omega arith, few, long)) in
    let all : seven_of m ≡ reply.addresses = bare_seven reply.subtype n reply.set reply.count reply.addresses ∙ sym spells.body.2 in
    grind (arith, subtype_reads, set_reads, count_reads)

same_set : (n count : ℕ) (addresses : List (List ℕ)) → set_of (groups_bytes Info n 1 count addresses) ≡ set_of (groups_bytes Info 0 1 count addresses)
unfolding canonical
same_set n count addresses = refl

same_count : (n count : ℕ) (addresses : List (List ℕ)) → count_of (groups_bytes Info n 1 count addresses) ≡ count_of (groups_bytes Info 0 1 count addresses)
unfolding canonical
same_count n count addresses = refl

same_seven : (n count : ℕ) (addresses : List (List ℕ)) → seven_of (groups_bytes Info n 1 count addresses) ≡ seven_of (groups_bytes Info 0 1 count addresses)
unfolding canonical
same_seven n count addresses = refl

pub seven_six : (n : ℕ) (groups : List (List ℕ)) → AreAddresses groups → AllByRecursion (λ (address : List ℕ). length address ≡ 6) (seven n groups)
seven_six zero groups six = tt
seven_six (suc n) [] six = (refl, seven_six n [] tt)
seven_six (suc n) (address ∷ groups) six = (six.0, seven_six n groups six.1)

seven_front : (n : ℕ) (groups : List (List ℕ)) → length groups ≤ n → take (length groups) (seven n groups) ≡ groups
seven_front n [] few = refl
seven_front zero (address ∷ groups) few = absurd (omega (arith, few))
seven_front (suc n) (address ∷ groups) few = ap (λ (xs : List (List ℕ)). address ∷ xs) (seven_front n groups (omega (arith, few)))

-- the whole list is read back, with set 1
spelled : (groups : List (List ℕ)) → AreGroups groups
    → SpellsMessage (groups_bytes Info 0 1 (length groups) (seven 7 groups)) (record { subtype = Info; sid = 0; body = Mcast 1 (length groups) (seven 7 groups) })
spelled groups are =
    canonical_spells (record { subtype = Info; sid = 0; body = Mcast 1 (length groups) (seven 7 groups) }) tt
    (omega arith, (omega arith, omega (arith, are.few), seven_long 7 groups, seven_six 7 groups are.addresses))

pub membership_says : (n : ℕ) (groups : List (List ℕ)) → AreGroups groups → (set_of (canonical (membership n groups)) ≡ 1) × (count_of (canonical (membership n groups)) ≤ 7)
membership_says n groups are = grind (arith, spelled, same_count, same_set)

pub membership_reads : (n : ℕ) (groups : List (List ℕ)) → AreGroups groups → addresses_of (canonical (membership n groups)) ≡ groups
membership_reads n groups are =
    let spells = spelled groups are in
    let count : count_of (canonical (membership n groups)) ≡ length groups = same_count n (length groups) (seven 7 groups) ∙ sym spells.body.1 in
    let all : seven_of (canonical (membership n groups)) ≡ seven 7 groups = same_seven n (length groups) (seven 7 groups) ∙ sym spells.body.2 in
    ap (λ (k : ℕ). take k (seven_of (canonical (membership n groups)))) count ∙ ap (take (length groups)) all ∙ seven_front 7 groups are.few
