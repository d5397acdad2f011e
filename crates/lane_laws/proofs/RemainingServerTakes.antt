-- A server that takes a packet, where its end has no more to put than before: it asks for nothing, or the server is asked for a range.
use Rattle.std.proofs.Common.{◌≡◌, ℕ, ◌^◌, ◌+◌, ◌-◌, ◌*◌, ◌%◌, ◌≤◌, ◌<◌, Bool, true, false, Option, Some, None, List, refl, sym, ap, ◌∙◌, arith, inl, inr}
use Rattle.std.specs.Prelude.{◌&&◌, is_none}
use Rattle.ldc_queue.specs.Transcript.{Utterance}
use Rattle.lane_models.specs.Ranges.{wrapped}
use Rattle.dring.specs.Slots.{range_length}
use Rattle.lane_models.specs.ServerState.{ServerSession, ServerState, SlotRange, Work, opened_server}
use Rattle.lane_models.specs.EndCore.{holds}
use Rattle.lane_models.specs.PacketsLeft.{packets_left}
use Rattle.lane_laws.proofs.RuleTests.{TakesFree}
use Rattle.lane_laws.proofs.ServerAnswers.{opened_or}
use Rattle.lane_laws.proofs.ServerTaken.{ServerAsked, ServerTook}
use Rattle.lane_laws.specs.Budget.{one_range, range_packets}
use Rattle.lane_laws.specs.ChannelEnds.{server_core}
use Rattle.lane_laws.specs.Remaining.{asked_in, server_packets, serving_left, unfinished, work_left}
use Rattle.lane_laws.specs.RemainingSteps.{ServerIsAsked, ServerHeard}
use Rattle.lane_laws.proofs.ServerMoves.{answers_less}

packets_most : (s t : ServerState) (ranges : ℕ) → packets_left (server_core t) ≤ packets_left (server_core s) → range_packets t.session ≡ ranges → server_packets t ≤ server_packets s + ranges
packets_most s t ranges packets is = omega (arith, packets, is, answers_less (holds t.link && is_none t.handshake.owed) (range_packets t.session))

no_range : (o : Option ServerSession) → ((session : ServerSession) → o ≡ Some session → session.range ≡ None) → range_packets o ≡ 0
no_range None none = refl
no_range (Some session) none = ap one_range (none session refl)

-- its session may open by it, where it had none
opened_range : (b : Bool) (o : Option ServerSession) → range_packets o ≡ 0 → range_packets (opened_or b o) ≡ 0
opened_range true o none = refl
opened_range false o none = none

opened_asked : (b : Bool) (o : Option ServerSession) → (b ≡ true → o ≡ None) → asked_in (opened_or b o) ≡ asked_in o
opened_asked true o none = sym (ap asked_in (none refl))
opened_asked false o none = refl

opened_serving : (b : Bool) (work : Option Work) (o : Option ServerSession) → (b ≡ true → work ≡ None) → serving_left work (opened_or b o) ≤ serving_left work o
opened_serving true work o idle = omega (arith, ap (λ (w : Option Work). serving_left w (Some opened_server)) (idle refl))
opened_serving false work o idle = omega arith

-- A RANGE
abbrev pub behind_ask : ServerState → ServerSession → SlotRange → ServerSession
behind_ask v session range =
    record session { asked = wrapped (session.asked + range_length v.handshake.draft.peer_slots range.start range.end); seq = wrapped (session.seq + 1); range = Some range }

more_work : (work : Option Work) (n m d : ℕ) → n ≤ m + d → work_left n work ≤ work_left m work + 10 * d
more_work work n m d more = grind arith

more_unfinished : (before behind finished : ℕ) → before < behind
    → ((behind + 2 ^ 64) - finished) % 2 ^ 64 ≤ ((before + 2 ^ 64) - finished) % 2 ^ 64 + (behind - before)
more_unfinished before behind finished rises = omega (arith, rises)

-- by the session after it
asked_for : (most : ℕ) (s t : ServerState) (session next : ServerSession) → s.session ≡ Some session → t.session ≡ Some next → next.finished ≡ session.finished → t.work ≡ s.work
    → server_packets t ≤ server_packets s + 1 → (asked_in s.session < asked_in t.session) × (asked_in t.session ≤ most) → (count : ℕ) × ServerIsAsked most count s t
asked_for most s t session next is now finished work packets asks =
    let before : asked_in s.session ≡ session.asked = ap asked_in is in
    let behind : asked_in t.session ≡ next.asked = ap asked_in now in
    let rises : session.asked < next.asked = omega (arith, before, behind, asks.0) in
    let was : serving_left s.work s.session ≡ work_left (unfinished session) s.work = ap (serving_left s.work) is in
    let left : serving_left t.work t.session ≡ work_left (unfinished next) s.work = ap (λ (w : Option Work). serving_left w t.session) work ∙ ap (serving_left s.work) now in
    let fewer : unfinished next ≤ unfinished session + (next.asked - session.asked) =
    omega (
      arith,
      more_unfinished session.asked next.asked session.finished rises,
      ap (λ (n : ℕ). ((next.asked + 2 ^ 64) - n) % 2 ^ 64) finished,
    ) in (
      (next.asked - session.asked),
      record {
        some = omega (arith, rises);
        packets = packets;
        asked = sums (asked_in t.session) (asked_in s.session) next.asked session.asked behind before rises;
        within = asks.1;
        serving = omega (arith, was, left, more_work s.work (unfinished next) (unfinished session) (next.asked - session.asked) fewer);
      },
    )
  where
    sums : (now was behind before : ℕ) → now ≡ behind → was ≡ before → before < behind → now ≡ was + (behind - before)
    sums now was behind before is same rises = omega (arith, is, same, rises)

-- THE PACKET
pub server_turns : (most : ℕ) (s t : ServerState) (turns : List Utterance) (packet : List ℕ) (opens : Bool) → TakesFree s → packets_left (server_core t) ≤ packets_left (server_core s)
    → (opens ≡ true → (s.session ≡ None) × (s.work ≡ None))
    → (ServerAsked s turns packet t opens → (asked_in s.session < asked_in t.session) × (asked_in t.session ≤ most)) → ServerTook s turns packet t opens → ServerHeard most s t
server_turns most s t turns packet opens free packets opened asks (inl part) = inl (record {
  packets = omega (arith, packets_most s t 0 packets (ap (λ (v : ServerState). range_packets v.session) part.is ∙ no_range s.session free.range));
  asked = ap (λ (v : ServerState). asked_in v.session) part.is;
  serving = omega (arith, ap (λ (v : ServerState). serving_left v.work v.session) part.is);
})
server_turns most s t turns packet opens free packets opened asks (inr (inl handshakes)) = inl (record {
  packets = omega (arith, packets_most s t 0 packets (ap (λ (v : ServerState). range_packets v.session) handshakes.is ∙ opened_range opens s.session (no_range s.session free.range)));
  asked = ap (λ (v : ServerState). asked_in v.session) handshakes.is ∙ opened_asked opens s.session (λ now. (opened now).0);
  serving = omega (
    arith,
    ap (λ (v : ServerState). serving_left v.work v.session) handshakes.is,
    opened_serving opens s.work s.session (λ now. (opened now).1),
  );
})
server_turns most s t turns packet opens free packets opened asks (inr (inr asked)) =
    let now = ap (λ (v : ServerState). v.session) asked.is in
    inr (asked_for most s t asked.info.session (behind_ask s asked.info.session asked.info.range) asked.info.session_is now refl (ap (λ (v : ServerState). v.work) asked.is)
    (packets_most s t 1 packets (ap range_packets now)) (asks asked))
