-- A message of a port's session has at most 56 bytes.
use Rattle.std.proofs.Common.{◌≡◌, ℕ, zero, suc, ◌+◌, ◌*◌, ◌≤◌, List, [], ◌∷◌, length, drop, refl, arith}
use Rattle.std.specs.List.{flat_map}
use Rattle.std.proofs.lemmas.List.{length-append, length-take}
use Rattle.vio_tag.proofs.Canonical.{length_canonical}
use Rattle.vio_tag.specs.declared.message.Message.{Message}
use Rattle.vio_tag.specs.declared.message.MsgBody.TheVariants.{Mcast}
use Rattle.vio_tag.specs.Spelling.{addresses_at, canonical}
use Rattle.lane_models.specs.Groups.{membership, seven}
use Rattle.lane_models.specs.NetEndPutting.{announcement, answer, groups_answer}
use Rattle.lane_models.specs.NetEndState.{Activity, GroupsReply, NetEndState, NetSession}
use Rattle.port_laws.specs.NetFits.{AddressesAreShort, ReplyFits}

abbrev joined : List (List ℕ) → List ℕ
joined addresses = flat_map (λ (address : List ℕ). address) addresses

joined_long : (addresses : List (List ℕ)) → AddressesAreShort addresses → length (joined addresses) ≤ 6 * length addresses
joined_long [] short = omega arith
joined_long (address ∷ addresses) short = grind (arith, joined_long addresses short.1, short.0, length-append)

seven_short : (n : ℕ) (groups : List (List ℕ)) → AddressesAreShort groups → AddressesAreShort (seven n groups)
seven_short zero groups short = tt
seven_short (suc n) [] short = (omega arith, seven_short n [] tt)
seven_short (suc n) (address ∷ groups) short = (short.0, seven_short n groups short.1)

pub seven_long : (n : ℕ) (groups : List (List ℕ)) → length (seven n groups) ≡ n
seven_long zero groups = refl
seven_long (suc n) [] = let rest = seven_long n [] in omega arith
seven_long (suc n) (address ∷ groups) = let rest = seven_long n groups in omega arith

-- the addresses of a message
pub read_short : (n at : ℕ) (bytes : List ℕ) → AddressesAreShort (addresses_at at n bytes)
read_short zero at bytes = tt
read_short (suc n) at bytes = (omega (arith, length-take 6 (drop at bytes)), read_short n (at + 6) bytes)

pub read_long : (n at : ℕ) (bytes : List ℕ) → length (addresses_at at n bytes) ≡ n
read_long zero at bytes = refl
read_long (suc n) at bytes = let rest = read_long n (at + 6) bytes in omega arith

pub groups_short : (sid set count : ℕ) (addresses : List (List ℕ)) (message : Message) → length addresses ≤ 7 → AddressesAreShort addresses
    → message.body ≡ Mcast set count addresses → length (canonical message) ≤ 56
groups_short sid set count addresses message few short is = grind (arith, length_canonical, joined_long, length-append)

pub membership_short : (sid : ℕ) (groups : List (List ℕ)) → AddressesAreShort groups → length (canonical (membership sid groups)) ≤ 56
membership_short sid groups short =
    let long = seven_long 7 groups in
    groups_short sid 1 (length groups) (seven 7 groups) (membership sid groups) (omega arith) (seven_short 7 groups short) refl

pub reply_short : (s : NetEndState) (reply : GroupsReply) → ReplyFits reply → length (canonical (groups_answer s reply)) ≤ 56
reply_short s reply fits = groups_short 0 reply.set reply.count reply.addresses (groups_answer s reply) fits.few fits.short refl

pub answer_short : (s : NetEndState) (activity : Activity) (last : ℕ) → length (canonical (answer s activity last)) ≤ 56
answer_short s activity last = omega (arith, length_canonical (answer s activity last))

pub announcement_short : (s : NetEndState) (p : NetSession) → length (canonical (announcement s p)) ≤ 56
announcement_short s p = omega (arith, length_canonical (announcement s p))
