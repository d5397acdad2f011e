-- A packet that is put, as the model's step has it.
use Rattle.std.proofs.Common.{◌≡◌, ◌≢◌, ℕ, ◌+◌, ◌<◌, Bool, true, false, List, [], ◌∷◌, length, drop, Option, Some, None, is_some, inl, inr, refl, sym, ◌∙◌, ap, subst, arith, length-drop}
use Rattle.std.specs.Prelude.{if◌then◌else◌, is_none, nat_le}
use Rattle.std.proofs.lemmas.Bool.{cases_lt, le-leb, lt-leb, lt-ltb}
use Rattle.std.proofs.lemmas.List.{drop_all}
use Rattle.ldc_link.specs.Calls.{Puts as PutsPacket, Sends}
use Rattle.ldc_link.specs.declared.answers.SendOut.TheVariants as send
use Rattle.ldc_link.specs.declared.phase.LinkPhase.{LinkPhase}
use Rattle.ldc_link.specs.declared.phase.LinkPhase.TheVariants as phase
use Rattle.ldc_link.specs.declared.phase.Role.{Role}
use Rattle.ldc_link.specs.declared.phase.Role.TheVariants.{Initiator, Responder}
use Rattle.ldc_link.specs.LinkState.{LinkState, is_established, is_up}
use Rattle.ldc_link.specs.Putting.{behind_put, left_behind_put, owed_packet, owes, part_owed, phase_behind_put, with_link}
use Rattle.ldc_packet.specs.declared.packet.Packet.{Packet}
use Rattle.ldc_queue.specs.ChannelView.{ChannelView}
use Rattle.ldc_queue.specs.Wire.{peer_of, waiting_for}
use Rattle.map_table.specs.declared.table.Entry.{Entry}
use Rattle.vio_tag.specs.declared.message.Message.{Message}
use Rattle.vio_handshake.specs.declared.handshake.Handshake.{Handshake}
use Rattle.vio_handshake.specs.Rules.{opens_by_put}
use Rattle.lane_models.specs.EndPuts.{ComesUp, EndsHandshake, EndsOwn, Goes, PutKind, ending, handshake_behind, kind_in, put_kind, put_opens}
use Rattle.lane_models.specs.Seeing.{seen}
use Rattle.lane_models.specs.NetEndPutting.{cleared_by_put, net_holds, net_kind, net_opens, net_put, opened_by_put}
use Rattle.lane_models.specs.NetEndState.{NetEndState}
use Rattle.lane_models.specs.NetEndStep.{NetLeft}
use Rattle.vnet_port.specs.Calls.{end_at, end_of, role_of}
use Rattle.vnet_port.specs.declared.net_out.NetOut.{NetOut}
use Rattle.vnet_port.specs.declared.net_out.NetOut.TheVariants as out
use Rattle.vnet_port.specs.declared.putting.PutOf.{PutOf}
use Rattle.vnet_port.specs.declared.putting.PutOf.TheVariants as the_put
use Rattle.vnet_port.specs.Putting.{PutsHeld, cleared_if, kind_of, next_put, noted, opened_if, put_of}
use Rattle.port_frames.specs.Memories.{reach_over}
use Rattle.vnet_port.specs.Stepping.{Steps, channel_after, rule_of}

-- THE KIND of a put, by the link after it
some_part : (k : LinkState) (left : List ℕ) → 0 < length left → is_some (part_owed k left) ≡ true
some_part k [] some = absurd (omega arith)
some_part k (byte ∷ left) some = refl

no_part : (k : LinkState) (left : List ℕ) → left ≡ [] → is_some (part_owed k left) ≡ false
no_part k left is = ap (λ (xs : List ℕ). is_some (part_owed k xs)) is

goes_or_ends : (k : LinkState) (message : List ℕ) (own : Bool)
    → (if is_some (part_owed k (drop 56 message)) then Goes else (if own then EndsOwn else EndsHandshake)) ≡ ending (nat_le (length message) 56) own
goes_or_ends k message own =
    elim (cases_lt 56 (length message)) [
      | inl more ↦
          ap (λ (b : Bool). if b then Goes else (if own then EndsOwn else EndsHandshake)) (some_part k (drop 56 message) (omega (arith, more, length-drop 56 message)))
          ∙ ap (λ (b : Bool). ending b own) (sym (lt-leb (length message) 56 more))
      | inr few ↦
          ap (λ (b : Bool). if b then Goes else (if own then EndsOwn else EndsHandshake)) (no_part k (drop 56 message) (drop_all 56 message few))
          ∙ ap (λ (b : Bool). ending b own) (sym (le-leb (length message) 56 few))
    ]

part_kind : (k : LinkState) (own : Bool) → kind_of (put_of true own) k ≡ (if owes k then Goes else (if own then EndsOwn else EndsHandshake))
part_kind k true = refl
part_kind k false = refl

kind_at : (p : LinkPhase) (k : LinkState) (own : Bool) → k.phase ≡ p
    → kind_of (put_of (is_established p) own) (record (behind_put k) { phase = phase_behind_put p; to_send = left_behind_put p k.to_send }) ≡ kind_in p k own
kind_at phase.Established k own is =
    let behind : LinkState = record (behind_put k) { phase = phase.Established; to_send = drop 56 k.to_send } in
    part_kind behind own ∙ goes_or_ends behind k.to_send own
kind_at phase.OwesRdx k own is = refl
kind_at p k own is = refl

kind_same : (k : LinkState) (own : Bool) → kind_of (put_of (is_up k) own) (behind_put k) ≡ put_kind k own
kind_same k own = kind_at k.phase k own refl

-- a message of the handshake is put only where it owes one
handshake_put : (up : Bool) (owed : Option Message) (whose : PutOf) → whose ≡ put_of up (is_none owed) → whose ≡ the_put.Handshake → owed ≢ None
handshake_put true None whose is handshake = absurd (cc (is, handshake))
handshake_put true (Some message) whose is handshake = λ none. absurd (cc none)
handshake_put false owed whose is handshake = absurd (cc (is, handshake))

pub handshake_owes : (s : NetEndState) (whose : PutOf) → whose ≡ next_put s → whose ≡ the_put.Handshake → s.handshake.owed ≢ None
handshake_owes s whose is handshake = handshake_put (is_up s.link) s.handshake.owed whose is handshake

-- A SESSION OPENS by a put at the initiator alone
opens_false : (kind : PutKind) (h : Handshake) → h.role ≡ Responder → put_opens kind h ≡ false
opens_false EndsHandshake h is = ap (λ (r : Role). opens_by_put r h.phase) is
opens_false Goes h is = refl
opens_false ComesUp h is = refl
opens_false EndsOwn h is = refl

opened_same : (role : Role) (b : Bool) (s : NetEndState) → (role ≡ Responder → b ≡ false) → opened_if b s ≡ opened_by_put role b s
opened_same Initiator true s never = refl
opened_same Initiator false s never = refl
opened_same Responder false s never = refl
opened_same Responder true s never = let both : true ≡ false = never refl in absurd (cc both)

cleared_same : (role : Role) (b : Bool) (slots : ℕ) (memory : List ℕ) → (role ≡ Responder → b ≡ false) → cleared_if b slots memory ≡ cleared_by_put role b slots memory
cleared_same Initiator true slots memory never = refl
cleared_same Initiator false slots memory never = refl
cleared_same Responder false slots memory never = refl
cleared_same Responder true slots memory never = let both : true ≡ false = never refl in absurd (cc both)

opened_link : (b : Bool) (s : NetEndState) → (opened_if b s).link ≡ s.link
opened_link true s = refl
opened_link false s = refl

-- what is put is what the link owes
with_behind : (owed : Option Packet) (k m : LinkState) (packet : Packet) → with_link owed k ≡ Some (packet, m) → m ≡ k
with_behind None k m packet is = absurd (cc is)
with_behind (Some first) k m packet is = let pair : (first, k) ≡ (packet, m) = cc is in sym (ap (λ (p : Packet × LinkState). p.1) pair)

puts_behind : (k m : LinkState) (bytes : List ℕ) → PutsPacket k bytes m → m ≡ behind_put k
puts_behind k m bytes puts = with_behind (owed_packet k) (behind_put k) m puts.packet puts.next

pub put_sent : (held t : NetEndState) (m : LinkState) (c d : ChannelView) (memory new bytes : List ℕ) (opens : Bool) → held.handshake.role ≡ held.link.role
    → Sends (end_of held) held.link c (send.Sent bytes) m d
    → t ≡ noted (kind_of (next_put held) m) (record held { link = m })
    → opens ≡ put_opens (kind_of (next_put held) m) held.handshake
    → new ≡ cleared_if opens held.slots memory → PutsHeld held c memory (out.Sent bytes opens) t d new
put_sent held t m c d memory new bytes opens same sends is opens_is cleared =
    let own : Bool = is_none held.handshake.owed in
    let behind : m ≡ behind_put held.link = puts_behind held.link m bytes sends.0 in
    let kind : kind_of (put_of (is_up held.link) own) m ≡ net_kind held = ap (λ (k : LinkState). kind_of (put_of (is_up held.link) own) k) behind ∙ kind_same held.link own in
    let opened : opens ≡ net_opens held = opens_is ∙ ap (λ (k : PutKind). put_opens k held.handshake) kind in
    let never : held.link.role ≡ Responder → net_opens held ≡ false = λ responds. opens_false (net_kind held) held.handshake (same ∙ responds) in
    let after : NetEndState = record held { link = behind_put held.link; handshake = handshake_behind (net_kind held) held.handshake } in
    let whole : t ≡ net_put (role_of held) held =
    is ∙ ap (λ (k : PutKind). noted k (record held { link = m })) kind ∙ ap (λ (k : LinkState). noted (net_kind held) (record held { link = k })) behind
    ∙ opened_same held.link.role (net_opens held) after never in
    let link : t.link ≡ m =
    ap (λ (s : NetEndState). s.link) is
    ∙ opened_link (put_opens (kind_of (put_of (is_up held.link) own) m) held.handshake)
    (record held { link = m; handshake = handshake_behind (kind_of (put_of (is_up held.link) own) m) held.handshake }) in (
      lt-ltb (length (waiting_for (peer_of (end_of held)) c.wire) + 1) c.entries sends.1,
      subst (λ (k : LinkState). PutsPacket held.link bytes k) (sym link) sends.0,
      opened,
      whole,
      cleared ∙ ap (λ (b : Bool). cleared_if b held.slots memory) opened ∙ cleared_same held.link.role (net_opens held) held.slots memory never,
      sends.2,
    )

-- a put of the message that the rule holds is the step
left_same : (a b : NetEndState) (x y peer : List ℕ) → a ≡ b → x ≡ y → ◌≡◌ {A = NetLeft} (record { end = a; own = x; peer = peer }) (record { end = b; own = y; peer = peer })
left_same a b x y peer end own =
    ap (λ (e : NetEndState). record { end = e; own = x; peer = peer }) end ∙ ap (λ (m : List ℕ). record { end = b; own = m; peer = peer }) own

pub puts_steps : (s held t : NetEndState) (c d : ChannelView) (memory new : List ℕ) (table : List (Option Entry)) (peer : List ℕ) (answer : NetOut)
    → net_holds (rule_of s c) s (reach_over c table peer) ≡ Some held → held.link.role ≡ s.link.role → held.slots ≡ s.slots
    → PutsHeld held c memory answer t d new → Steps s c memory table peer answer t d new peer
puts_steps s held t c d memory new table peer (out.Sent packet opens) holds role slots puts = record {
  step = record {
    held = held;
    holds = holds;
    room = subst (λ (r : Role). (seen (end_at r) c.entries c.wire).room ≡ true) role puts.0;
    packet = puts.1;
    opens_is = puts.2;
    is = left_same t (net_put s.link.role held) new (cleared_by_put s.link.role (net_opens held) s.slots memory) peer
        (puts.3 ∙ ap (λ (r : Role). net_put r held) role)
        (puts.4 ∙ ap (λ (r : Role). cleared_by_put r (net_opens held) held.slots memory) role
        ∙ ap (λ (n : ℕ). cleared_by_put s.link.role (net_opens held) n memory) slots);
  };
  channel = puts.5 ∙ ap (λ (r : Role). channel_after (end_at r) (out.Sent packet opens) c) role;
  count = tt;
}
puts_steps s held t c d memory new table peer out.Blocked holds role slots puts = record {
  step = (
    holds ∙ ap Some (sym puts.1),
    subst (λ (r : Role). (seen (end_at r) c.entries c.wire).room ≡ false) role puts.0,
    left_same t t new memory peer refl puts.2,
  );
  channel = puts.3;
  count = tt;
}
puts_steps s held t c d memory new table peer out.Idle holds role slots puts = absurd puts
puts_steps s held t c d memory new table peer (out.Joined lost) holds role slots puts = absurd puts
puts_steps s held t c d memory new table peer (out.Took packet opens) holds role slots puts = absurd puts
puts_steps s held t c d memory new table peer (out.Published id) holds role slots puts = absurd puts
puts_steps s held t c d memory new table peer (out.Frame len) holds role slots puts = absurd puts
puts_steps s held t c d memory new table peer (out.Reset cause packet lost) holds role slots puts = absurd puts
