-- A client that puts a packet: what always holds of it holds.
use Rattle.std.proofs.Common.{◌≡◌, ℕ, ◌≤◌, Bool, true, false, Option, Some, None, List, length, drop, refl, arith, length-drop}
use Rattle.std.specs.Prelude.{nat_le}
use Rattle.std.proofs.lemmas.Bool.{leb-false}
use Rattle.ldc_link.specs.declared.phase.LinkPhase.{LinkPhase}
use Rattle.ldc_link.specs.declared.phase.LinkPhase.TheVariants as phase
use Rattle.ldc_link.specs.Putting.{left_behind_put}
use Rattle.lane_models.specs.ClientPutting.{announced, client_put, is_announcing, opened_if, session_behind}
use Rattle.lane_models.specs.ClientState.{ClientSession, ClientState}
use Rattle.lane_models.specs.EndPuts.{EndsHandshake, PutKind, ending, kind_in, put_opens}
use Rattle.lane_laws.specs.Sound.{ClientSound, CountsInOrder}

behind_counts : (kind : PutKind) (c : ClientState) → CountsInOrder (length c.pending) c.session → CountsInOrder (length c.pending) (session_behind kind c)
behind_counts kind c counts = grind arith

-- an INFO that isn't wholly put is still held
pub not_announcing : (open_one : Option ClientSession) → is_announcing (announced open_one) ≡ false
not_announcing None = refl
not_announcing (Some s) = refl

pub opened_other : (b : Bool) (c : ClientState) → is_announcing c.session ≡ false → is_announcing (opened_if b c) ≡ false
opened_other true c other = refl
opened_other false c other = other

ends_own : (c : ClientState) (own : Bool) → is_announcing c.session ≡ own → is_announcing (session_behind (ending true own) c) ≡ false
ends_own c true is = not_announcing c.session
ends_own c false is = opened_other (put_opens EndsHandshake c.handshake) c is

abbrev left_of : ClientState → List ℕ
left_of c = drop 56 c.link.to_send

parts_own : (c : ClientState) (last : Bool) → nat_le (length c.link.to_send) 56 ≡ last → is_announcing (session_behind (ending last (is_announcing c.session)) c) ≡ true
    → 1 ≤ length (left_of c)
parts_own c true is own =
    let other = ends_own c (is_announcing c.session) refl in absurd (cc)
parts_own c false is own = omega (arith, length-drop 56 c.link.to_send, leb-false (length c.link.to_send) 56 is)

own_in : (ph : LinkPhase) (c : ClientState) → ClientSound c → is_announcing (session_behind (kind_in ph c.link (is_announcing c.session)) c) ≡ true
    → 1 ≤ length (left_behind_put ph c.link.to_send)
own_in phase.Established c sound own = parts_own c (nat_le (length c.link.to_send) 56) refl own
own_in _ c sound own = sound.own own

pub client_put_sound : (c : ClientState) → ClientSound c → ClientSound (client_put c)
client_put_sound c sound = search (own_in, behind_counts)
