-- A packet that is put, as the lane's step has it.
use Rattle.std.proofs.Common.{◌≡◌, ◌≢◌, ℕ, ◌+◌, ◌^◌, ◌<◌, ◌≤◌, Bool, true, false, List, [], ◌∷◌, length, drop, Option, Some, None, is_some, inl, inr, refl, sym, ◌∙◌, ap, subst, arith, length-drop}
use Rattle.std.specs.Prelude.{if◌then◌else◌, nat_le}
use Rattle.std.proofs.lemmas.Bool.{cases_lt, le-leb, lt-leb, lt-ltb, le-ltb}
use Rattle.std.proofs.lemmas.List.{drop_all}
use Rattle.ldc_link.specs.Calls.{Puts as PutsPacket, Sends}
use Rattle.ldc_link.specs.declared.answers.SendOut.TheVariants as send
use Rattle.ldc_link.specs.declared.phase.LinkPhase.{LinkPhase}
use Rattle.ldc_link.specs.declared.phase.LinkPhase.TheVariants as phase
use Rattle.ldc_link.specs.LinkState.{LinkState, is_established, is_up, offered}
use Rattle.ldc_link.specs.Putting.{behind_put, left_behind_put, owed_in, owed_packet, owes, part_owed, phase_behind_put, with_link}
use Rattle.ldc_packet.specs.declared.packet.Packet.{Packet}
use Rattle.ldc_queue.specs.ChannelView.{ChannelView}
use Rattle.ldc_queue.specs.declared.end.End.TheVariants.{A}
use Rattle.vio_tag.specs.declared.message.Message.{Message}
use Rattle.lane_models.specs.ClientPutting.{announcement, announcing, client_holds, client_kind, client_put, holding, is_announcing, opened_if, session_behind}
use Rattle.lane_models.specs.ClientRule.{Announces, ClientRule, Puts, Says}
use Rattle.lane_models.specs.ClientState.{ClientSession, ClientState}
use Rattle.lane_models.specs.EndPuts.{ComesUp, EndsOwn, EndsHandshake, Goes, PutKind, ending, kind_in, put_kind, put_opens}
use Rattle.vdisk_client.specs.Calls.{Steps, rule_of}
use Rattle.vdisk_client.specs.declared.answers.ClientOut.{ClientOut}
use Rattle.vdisk_client.specs.declared.answers.ClientOut.TheVariants as out
use Rattle.vdisk_client.specs.declared.putting.PutOf.{PutOf}
use Rattle.vdisk_client.specs.declared.putting.PutOf.TheVariants as the_put
use Rattle.vdisk_client.specs.Putting.{CanCount, CountsMore, HoldsOwn, PutsHeld, cleared_if, kind_of, noted, put_of}
use Rattle.vdisk_client.specs.Standing.{CountsStand, SessionStands, Stands}

-- THE KIND of a put, by the link after it
some_part : (k : LinkState) (left : List ℕ) → 0 < length left → is_some (part_owed k left) ≡ true
some_part k [] some = absurd (omega arith)
some_part k (byte ∷ left) some = refl

no_part : (k : LinkState) (left : List ℕ) → left ≡ [] → is_some (part_owed k left) ≡ false
no_part k left is = ap (λ (xs : List ℕ). is_some (part_owed k xs)) is

goes_or_ends : (k : LinkState) (message : List ℕ) (own : Bool)
    → (if is_some (part_owed k (drop 56 message)) then Goes else (if own then EndsOwn else EndsHandshake)) ≡ ending (nat_le (length message) 56) own
goes_or_ends k message own =
    elim (cases_lt 56 (length message)) [
      | inl more ↦
          ap (λ (b : Bool). if b then Goes else (if own then EndsOwn else EndsHandshake)) (some_part k (drop 56 message) (omega (arith, more, length-drop 56 message)))
          ∙ ap (λ (b : Bool). ending b own) (sym (lt-leb (length message) 56 more))
      | inr few ↦
          ap (λ (b : Bool). if b then Goes else (if own then EndsOwn else EndsHandshake)) (no_part k (drop 56 message) (drop_all 56 message few))
          ∙ ap (λ (b : Bool). ending b own) (sym (le-leb (length message) 56 few))
    ]

part_kind : (k : LinkState) (own : Bool) → kind_of (put_of true own) k ≡ (if owes k then Goes else (if own then EndsOwn else EndsHandshake))
part_kind k true = refl
part_kind k false = refl

kind_at : (p : LinkPhase) (k : LinkState) (own : Bool) → k.phase ≡ p
    → kind_of (put_of (is_established p) own) (record (behind_put k) { phase = phase_behind_put p; to_send = left_behind_put p k.to_send }) ≡ kind_in p k own
kind_at phase.Established k own is =
    let behind : LinkState = record (behind_put k) { phase = phase.Established; to_send = drop 56 k.to_send } in
    part_kind behind own ∙ goes_or_ends behind k.to_send own
kind_at phase.OwesRdx k own is = refl
kind_at p k own is = refl

kind_same : (k : LinkState) (own : Bool) → kind_of (put_of (is_up k) own) (behind_put k) ≡ put_kind k own
kind_same k own = kind_at k.phase k own refl

-- the session after a put doesn't depend on the link but by the kind
opened_same : (b : Bool) (s : ClientState) (m : LinkState) → opened_if b (record s { link = m }) ≡ opened_if b s
opened_same true s m = refl
opened_same false s m = refl

session_same : (kind : PutKind) (s : ClientState) (m : LinkState) → session_behind kind (record s { link = m }) ≡ session_behind kind s
session_same EndsOwn s m = refl
session_same Goes s m = refl
session_same ComesUp s m = refl
session_same EndsHandshake s m = opened_same (put_opens EndsHandshake s.handshake) s m

noted_put : (s : ClientState) → noted (client_kind s) (record s { link = behind_put s.link }) ≡ client_put s
noted_put s = ap (λ (x : Option ClientSession). record (client_put s) { session = x }) (session_same (client_kind s) s (behind_put s.link))

-- what is put is what the link owes
with_behind : (owed : Option Packet) (k m : LinkState) (packet : Packet) → with_link owed k ≡ Some (packet, m) → m ≡ k
with_behind None k m packet is = absurd (cc is)
with_behind (Some first) k m packet is = let pair : (first, k) ≡ (packet, m) = cc is in sym (ap (λ (p : Packet × LinkState). p.1) pair)

puts_behind : (k m : LinkState) (bytes : List ℕ) → PutsPacket k bytes m → m ≡ behind_put k
puts_behind k m bytes puts = with_behind (owed_packet k) (behind_put k) m puts.packet puts.next

pub put_sent : (held t : ClientState) (m : LinkState) (c d : ChannelView) (memory new bytes : List ℕ) (opens : Bool) → Sends A held.link c (send.Sent bytes) m d
    → t ≡ noted (kind_of (put_of (is_up held.link) (is_announcing held.session)) m) (record held { link = m })
    → opens ≡ put_opens (kind_of (put_of (is_up held.link) (is_announcing held.session)) m) held.handshake
    → new ≡ cleared_if opens held.slots memory → PutsHeld held c memory (out.Sent bytes opens) t d new
put_sent held t m c d memory new bytes opens sends is opens_is cleared =
    let own : Bool = is_announcing held.session in
    let behind : m ≡ behind_put held.link = puts_behind held.link m bytes sends.0 in
    let kind : kind_of (put_of (is_up held.link) own) m ≡ put_kind held.link own = ap (λ (k : LinkState). kind_of (put_of (is_up held.link) own) k) behind ∙ kind_same held.link own in
    let opened : opens ≡ put_opens (put_kind held.link own) held.handshake = opens_is ∙ ap (λ (k : PutKind). put_opens k held.handshake) kind in
    let whole : t ≡ client_put held =
    is ∙ ap (λ (k : PutKind). noted k (record held { link = m })) kind ∙ ap (λ (k : LinkState). noted (put_kind held.link own) (record held { link = k })) behind ∙ noted_put held in
    let link : t.link ≡ m = ap (λ (s : ClientState). s.link) is in (
      lt-ltb (length c.wire.to_b + 1) c.entries sends.1,
      subst (λ (k : LinkState). PutsPacket held.link bytes k) (sym link) sends.0,
      opened,
      whole,
      cleared ∙ ap (λ (b : Bool). cleared_if b held.slots memory) opened,
      sends.2,
    )

pub put_blocked : (held t : ClientState) (m : LinkState) (c d : ChannelView) (memory : List ℕ) → Sends A held.link c send.Blocked m d
    → t ≡ record held { link = m } → PutsHeld held c memory out.Blocked t d memory
put_blocked held t m c d memory sends is =
    (le-ltb (length c.wire.to_b + 1) c.entries (omega (arith, sends.1)), is ∙ ap (λ (k : LinkState). record held { link = k }) sends.2, refl, sends.3)

-- a put of the message that the rule holds is the step
pub puts_steps : (s held t : ClientState) (c d : ChannelView) (memory new : List ℕ) (answer : ClientOut) → client_holds (rule_of s c) s ≡ Some held
    → PutsHeld held c memory answer t d new → Steps s c memory answer t d new
puts_steps s held t c d memory new (out.Sent packet opens) holds puts = record {
  step = record { held = held; holds = holds; room = puts.0; packet = puts.1; opens_is = puts.2; is = puts.3; cleared = puts.4 };
  channel = puts.5;
  count = tt;
}
puts_steps s held t c d memory new out.Blocked holds puts = record {
  step = (holds ∙ ap Some (sym puts.1), puts.0, puts.2);
  channel = puts.3;
  count = tt;
}
puts_steps s held t c d memory new out.Idle holds puts = absurd puts
puts_steps s held t c d memory new out.Joined holds puts = absurd puts
puts_steps s held t c d memory new (out.Took packet opens) holds puts = absurd puts
puts_steps s held t c d memory new (out.Published id) holds puts = absurd puts
puts_steps s held t c d memory new (out.Done id operation status len) holds puts = absurd puts
puts_steps s held t c d memory new (out.Reset cause packet) holds puts = absurd puts

pub rest_steps : (s t : ClientState) (c d : ChannelView) (memory new : List ℕ) (answer : ClientOut) → rule_of s c ≡ Puts → PutsHeld s c memory answer t d new
    → Steps s c memory answer t d new
rest_steps s t c d memory new answer rule puts = puts_steps s s t c d memory new answer (ap (λ (r : ClientRule). client_holds r s) rule) puts

pub say_steps : (s t : ClientState) (message : Message) (c d : ChannelView) (memory new : List ℕ) (answer : ClientOut) → rule_of s c ≡ Says message
    → PutsHeld (holding message s) c memory answer t d new → Steps s c memory answer t d new
say_steps s t message c d memory new answer rule puts =
    puts_steps s (holding message s) t c d memory new answer (ap (λ (r : ClientRule). client_holds r s) rule) puts

pub announce_steps : (s t : ClientState) (session : ClientSession) (c d : ChannelView) (memory new : List ℕ) (answer : ClientOut) → rule_of s c ≡ Announces session
    → PutsHeld (announcing session (holding (announcement s session) s)) c memory answer t d new → Steps s c memory answer t d new
announce_steps s t session c d memory new answer rule puts =
    puts_steps s (announcing session (holding (announcement s session) s)) t c d memory new answer (ap (λ (r : ClientRule). client_holds r s) rule) puts

-- A MESSAGE THAT THE LINK HOLDS is somebody's
counted_infos : (pending next : ℕ) (session : Option ClientSession) → next < 2 ^ 64 → SessionStands pending next session → CanCount session
counted_infos pending next None small stands = tt
counted_infos pending next (Some session) small stands = λ own.
    omega (arith, stands.infos, stands.announcing own, stands.published, stands.ids, small)

pub own_holds : (s : ClientState) → Stands s → HoldsOwn s
own_holds s stands = record {
  owed = stands.transcript.holds;
  infos = counted_infos (length s.pending) s.next_id s.session stands.requests.next stands.session;
}

pub own_says : (s : ClientState) (message : Message) → Stands s → s.handshake.owed ≡ Some message → HoldsOwn (holding message s)
own_says s message stands owed = record {
  owed = λ _ _. ap is_some owed;
  infos = counted_infos (length s.pending) s.next_id s.session stands.requests.next stands.session;
}

pub own_announces : (s : ClientState) (session : ClientSession) (message : Message) → Stands s → s.session ≡ Some session → session.announced < session.published
    → HoldsOwn (announcing session (holding message s))
own_announces s session message stands is some =
    let counts : CountsStand (length s.pending) s.next_id session = subst (λ (x : Option ClientSession). SessionStands (length s.pending) s.next_id x) is stands.session in
    record {
      owed = λ _ other. absurd (cc other);
      infos = λ _. omega (arith, counts.infos, some, counts.published, counts.ids, stands.requests.next);
    }

-- a link that is up and owes a packet has something to send, and one that owes none has nothing
part_some : (k : LinkState) (left : List ℕ) → is_some (part_owed k left) ≡ true → left ≢ []
part_some k left some none = absurd (cc (some, ap (λ (xs : List ℕ). is_some (part_owed k xs)) none))

owed_some : (p : LinkPhase) (k : LinkState) → is_established p ≡ true → is_some (owed_in p k) ≡ true → k.to_send ≢ []
owed_some phase.Established k up owes = part_some k k.to_send owes
owed_some p k up owes = absurd (cc up)

pub owes_some : (k : LinkState) → is_up k ≡ true → owes k ≡ true → k.to_send ≢ []
owes_some k up owed = owed_some k.phase k up owed

part_none : (k : LinkState) (left : List ℕ) → is_some (part_owed k left) ≡ false → left ≡ []
part_none k [] none = refl
part_none k (byte ∷ left) none = absurd (cc none)

owed_none : (p : LinkPhase) (k : LinkState) → is_established p ≡ true → is_some (owed_in p k) ≡ false → k.to_send ≡ []
owed_none phase.Established k up none = part_none k k.to_send none
owed_none p k up none = absurd (cc up)

pub owes_none : (k : LinkState) → is_up k ≡ true → owes k ≡ false → k.to_send ≡ []
owes_none k up none = owed_none k.phase k up none

offered_some : (p : LinkPhase) (k : LinkState) → is_established p ≡ true → 1 ≤ length k.to_send → is_some (owed_in p k) ≡ true
offered_some phase.Established k up some = some_part k k.to_send some
offered_some p k up some = absurd (cc up)

-- a link that is up owes what it is offered
pub offered_owes : (k : LinkState) (message : List ℕ) → is_up k ≡ true → 1 ≤ length message → owes (offered message k) ≡ true
offered_owes k message up some = offered_some k.phase (offered message k) up some

-- WHAT IS PUT tells of what it is: of a message of the handshake, that it owes one, and of the client's own INFO, that it can be counted
handshake_put : (up own : Bool) (whose : PutOf) → whose ≡ put_of up own → whose ≡ the_put.Handshake → (up ≡ true) × (own ≡ false)
handshake_put true false whose is handshake = (refl, refl)
handshake_put true true whose is handshake = absurd (cc (is, handshake))
handshake_put false own whose is handshake = absurd (cc (is, handshake))

pub handshake_owes : (s : ClientState) (whose : PutOf) → HoldsOwn s → owes s.link ≡ true → whose ≡ put_of (is_up s.link) (is_announcing s.session) → whose ≡ the_put.Handshake
    → is_some s.handshake.owed ≡ true
handshake_owes s whose holds owes is handshake =
    let known = handshake_put (is_up s.link) (is_announcing s.session) whose is handshake in
    holds.owed (owes_some s.link known.0 owes) known.1

own_put : (up own : Bool) (whose : PutOf) → whose ≡ put_of up own → whose ≡ the_put.Own → own ≡ true
own_put true true whose is own = refl
own_put true false whose is own = absurd (cc (is, own))
own_put false own whose is own_is = absurd (cc (is, own_is))

counts_own : (session : Option ClientSession) → CanCount session → is_announcing session ≡ true → CountsMore session
counts_own None can own = tt
counts_own (Some session) can own = can own

pub own_counts : (s : ClientState) (whose : PutOf) → HoldsOwn s → whose ≡ put_of (is_up s.link) (is_announcing s.session) → whose ≡ the_put.Own → CountsMore s.session
own_counts s whose holds is own = counts_own s.session holds.infos (own_put (is_up s.link) (is_announcing s.session) whose is own)

-- a message of the handshake is said where the client announces nothing
quiet_announces : (s : ClientState) (own : Bool) → is_announcing s.session ≡ own → Stands s → s.link.to_send ≡ [] → own ≡ false
quiet_announces s false is stands none = refl
quiet_announces s true is stands none = absurd (stands.transcript.announces is none)

pub says_handshake : (s : ClientState) → Stands s → is_up s.link ≡ true → owes s.link ≡ false → the_put.Handshake ≡ put_of true (is_announcing s.session)
says_handshake s stands up nothing =
    ap (put_of true) (sym (quiet_announces s (is_announcing s.session) refl stands (owes_none s.link up nothing)))
