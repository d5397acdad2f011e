-- What is put.
use Rattle.std.proofs.Common.{◌≡◌, ℕ, ◌+◌, ◌<◌, Bool, true, false, List, length, drop, Option, Some, None, inl, inr, length-drop, refl, sym, ap, ◌∙◌, subst, arith}
use Rattle.std.specs.Prelude.{◌&&◌, not, nat_le, nat_lt, is_none, is_some}
use Rattle.std.proofs.lemmas.Bool.{cases_lt, le-leb, le-ltb, lt-leb, lt-ltb}
use Rattle.std.proofs.lemmas.List.{drop_all}
use Rattle.ldc_link.proofs.Parts.{part_owed_more}
use Rattle.ldc_link.specs.Calls.{Puts as PutsPacket}
use Rattle.ldc_link.specs.declared.phase.LinkPhase.{LinkPhase}
use Rattle.ldc_link.specs.declared.phase.LinkPhase.TheVariants as link
use Rattle.ldc_link.specs.declared.phase.Role.{Role}
use Rattle.ldc_link.specs.declared.phase.Role.TheVariants.{Responder}
use Rattle.ldc_link.specs.LinkState.{LinkState, is_established, is_up}
use Rattle.ldc_link.specs.Putting.{begun_behind_put, behind_put, left_behind_put, number_behind_put, owed_in, owed_packet, owes, part_owed, phase_behind_put, with_link}
use Rattle.ldc_packet.specs.declared.packet.Packet.{Packet}
use Rattle.ldc_queue.specs.ChannelView.{ChannelView}
use Rattle.vio_handshake.specs.declared.handshake.Handshake.{Handshake}
use Rattle.vio_handshake.specs.Rules.{opens_by_put}
use Rattle.vio_tag.specs.declared.message.Message.{Message}
use Rattle.lane_models.specs.EndPuts.{ComesUp, EndsOwn, EndsHandshake, Goes, PutKind, ending, kind_in, put_opens, handshake_behind}
use Rattle.lane_models.specs.ServerPutting.{server_holds, server_kind, server_opens, server_put, session_behind}
use Rattle.lane_models.specs.ServerRule.{server_rule}
use Rattle.lane_models.specs.ServerState.{ServerState}
use Rattle.vdisk_server.specs.declared.answers.ServerOut.{ServerOut}
use Rattle.vdisk_server.specs.declared.answers.ServerOut.TheVariants as out
use Rattle.vdisk_server.specs.Answering.{StepsAlone, sees}
use Rattle.vdisk_server.specs.declared.putting.PutOf.{PutOf}
use Rattle.vdisk_server.specs.declared.putting.PutOf.TheVariants as the_put
use Rattle.vdisk_server.specs.Putting.{PutsNext, PutsRightly, noted, put_of}
use Rattle.vdisk_server.specs.Standing.{AnswersLink}

-- WHAT IS PUT
put_next : (packet : Option Packet) (behind : LinkState) (said : Packet) (k : LinkState) → with_link packet behind ≡ Some (said, k) → k ≡ behind
put_next None behind said k is = absurd (cc)
put_next (Some packet) behind said k is =
    let pair : (packet, behind) ≡ (said, k) = cc in
    sym (ap (λ (p : Packet × LinkState). p.1) pair)

pub put_behind : (k behind : LinkState) (bytes : List ℕ) → PutsPacket k bytes behind → behind ≡ behind_put k
put_behind k behind bytes puts = put_next (owed_packet k) (behind_put k) puts.packet behind puts.next

-- a part ends its message where nothing is owed after it
part_ends : (k : LinkState) (message : List ℕ) → nat_le (length message) 56 ≡ not (is_some (part_owed k (drop 56 message)))
part_ends k message =
    elim (cases_lt 56 (length message)) [
      | inl more ↦
          let left : 0 < length (drop 56 message) = omega (arith, more, length-drop 56 message) in
          lt-leb (length message) 56 more
          ∙ sym (ap (λ (p : Option Packet). not (is_some p)) (part_owed_more k (drop 56 message) left))
      | inr few ↦
          le-leb (length message) 56 few
          ∙ sym (ap (λ (xs : List ℕ). not (is_some (part_owed k xs))) (drop_all 56 message few))
    ]

pub kind_noted : (phase : LinkPhase) (k : LinkState) (own : Bool) → k.phase ≡ phase → AnswersLink phase
    → kind_in phase k own ≡ ending (is_established phase && not (owes (behind_put k))) own
kind_noted link.OwesVersInfo k own is answers = absurd answers
kind_noted link.AwaitsVersAck k own is answers = absurd answers
kind_noted link.OwesRts k own is answers = absurd answers
kind_noted link.AwaitsRtr k own is answers = absurd answers
kind_noted link.OwesRdx k own is answers = absurd answers
kind_noted link.AwaitsVersInfo k own is answers = refl
kind_noted link.OwesVersAck k own is answers = refl
kind_noted (link.OwesVersNack major) k own is answers = refl
kind_noted link.AwaitsRts k own is answers = refl
kind_noted link.OwesRtr k own is answers = refl
kind_noted link.AwaitsRdx k own is answers = refl
kind_noted link.Established k own is answers =
    let behind : LinkPhase → LinkState =
    λ (p : LinkPhase). record k {
      phase = phase_behind_put p;
      put_next = number_behind_put p k.put_next;
      to_send = left_behind_put p k.to_send;
      begun = begun_behind_put p k.to_send k.begun;
    } in
    let more : owes (behind_put k) ≡ is_some (part_owed (behind link.Established) (drop 56 k.to_send)) =
    ap (λ (p : LinkPhase). is_some (owed_in (phase_behind_put p) (behind p))) is in
    ap (λ (test : Bool). ending test own) (part_ends (behind link.Established) k.to_send ∙ ap not (sym more))

ended : (up more : Bool) (owed : Option Message) (t : ServerState)
    → noted (put_of up owed) more t
    ≡ record t { handshake = handshake_behind (ending (up && not more) (is_none owed)) t.handshake; session = session_behind (ending (up && not more) (is_none owed)) t.session }
ended false more owed t = refl
ended true true None t = refl
ended true true (Some message) t = refl
ended true false None t = refl
ended true false (Some message) t = refl

pub put_is : (s : ServerState) (k : LinkState) (bytes : List ℕ) → PutsRightly s → PutsPacket s.link bytes k
    → noted (put_of (is_up s.link) s.handshake.owed) (owes k) (record s { link = k }) ≡ server_put s
put_is s k bytes rightly puts =
    let behind : k ≡ behind_put s.link = put_behind s.link k bytes puts in
    subst (λ (k : LinkState). noted (put_of (is_up s.link) s.handshake.owed) (owes k) (record s { link = k }) ≡ server_put s) (sym behind)
    (ended (is_up s.link) (owes (behind_put s.link)) s.handshake.owed (record s { link = behind_put s.link })
    ∙ ap (λ (kind : PutKind). record s { link = behind_put s.link; handshake = handshake_behind kind s.handshake; session = session_behind kind s.session })
    (sym (kind_noted s.link.phase s.link (is_none s.handshake.owed) refl rightly.phase)))

pub noted_link : (whose : PutOf) (more : Bool) (s : ServerState) → (noted whose more s).link ≡ s.link
noted_link the_put.Control more s = refl
noted_link the_put.Handshake true s = refl
noted_link the_put.Handshake false s = refl
noted_link the_put.Own true s = refl
noted_link the_put.Own false s = refl

-- a message of the handshake is put only where it owes one
pub handshake_owes : (up : Bool) (owed : Option Message) (whose : PutOf) → whose ≡ put_of up owed → whose ≡ the_put.Handshake → is_some owed ≡ true
handshake_owes true (Some message) whose is handshake = refl
handshake_owes true None whose is handshake = absurd (cc (is, handshake))
handshake_owes false owed whose is handshake = absurd (cc (is, handshake))

-- a responder's session never opens by what it puts
role_opens : (kind : PutKind) (h : Handshake) (role : Role) → h.role ≡ role → role ≡ Responder → put_opens kind h ≡ false
role_opens Goes h role is responds = refl
role_opens ComesUp h role is responds = refl
role_opens EndsOwn h role is responds = refl
role_opens EndsHandshake h role is responds = ap (λ (r : Role). opens_by_put r h.phase) (is ∙ responds)

pub opens_not : (s : ServerState) → PutsRightly s → false ≡ server_opens s
opens_not s rightly = sym (role_opens (server_kind s) s.handshake s.handshake.role refl rightly.role)

room_is : (n entries : ℕ) → n + 1 < entries → nat_lt (n + 1) entries ≡ true
room_is n entries room = lt-ltb (n + 1) entries room

full_is : (n entries : ℕ) → n + 1 ≡ entries → nat_lt (n + 1) entries ≡ false
full_is n entries full = subst (λ (m : ℕ). nat_lt m entries ≡ false) (sym full) (le-ltb entries entries (omega arith))

-- a packet that is put, or can't be, as a step
pub puts_step : (s held : ServerState) (c : ChannelView) (answer : ServerOut) (t : ServerState)
    → server_holds (server_rule s (sees c)) s ≡ Some held → PutsNext held c answer t → StepsAlone s c answer t
puts_step s held c (out.Sent packet opens) t holds (puts, room, opens_is, is) = record {
  leaves = tt;
  step = λ reach. (record { held = held; holds = holds; room = room_is _ c.entries room; packet = puts; opens_is = opens_is; is = is }, refl, refl);
}
puts_step s held c out.Blocked t holds (full, is) = record {
  leaves = tt;
  step = λ reach. (holds ∙ ap Some (sym is), full_is _ c.entries full, refl, refl);
}
puts_step s held c other t holds puts = absurd puts
