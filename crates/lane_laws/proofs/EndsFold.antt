-- Along every run both ends are as the lane's log counts them.
use Rattle.std.proofs.Common.{◌≡◌, ℕ, ◌≤◌, Bool, true, false, Option, Some, None, List, [], ◌∷◌, ◌++◌, length, refl, sym, ap, ◌∙◌, subst, arith}
use Rattle.std.specs.Prelude.{◌%◌, is_none, is_some, not, ◌&&◌, ◌||◌, ⊤}
use Rattle.runs.specs.Lawful.{log_of, run_lawful}
use Rattle.runs.specs.Run.{Run}
use Rattle.ldc_link.specs.declared.phase.Role.TheVariants.{Initiator, Responder}
use Rattle.ldc_link.specs.LinkState.{is_up}
use Rattle.ldc_queue.specs.declared.end.End.TheVariants.{A, B}
use Rattle.ldc_queue.specs.Messages.{is_empty}
use Rattle.ldc_queue.specs.Transcript.{Heard as Heard_, Said, Utterance}
use Rattle.vio_tag.specs.declared.message.Message.{Message}
use Rattle.vio_tag.specs.Spelling.{canonical}
use Rattle.lane_laws.proofs.ServerSpeaking.{server_holds_link}
use Rattle.lane_laws.specs.Agreement.{ClientEndAgrees, RangeAgrees, ServerEndAgrees}
use Rattle.lane_models.specs.ClientPutting.{announcement, is_announcing}
use Rattle.lane_models.specs.ClientState.{ClientSession}
use Rattle.lane_models.specs.DiskEvent.{Desc, DiskEvent, Finished, Moved, OnWire, Stored, Works}
use Rattle.lane_laws.specs.DiskLog.{DiskLog, after, nothing_yet}
use Rattle.lane_laws.specs.BlockLog.{BlockLog, after_block}
use Rattle.lane_laws.specs.EndLog.{announced_or_owed, answer_left, client_left, infos_heard, range_in_work, range_left, server_left}
use Rattle.lane_models.specs.Blockage.{EndSends, blockage_after, left_of, owed_left}
use Rattle.lane_models.specs.LaneCore.{move_of}
use Rattle.lane_models.proofs.EndSending.{and_false, held_left, none_left, none_sends, owed_sent, sends_move}
use Rattle.lane_laws.proofs.EndMoves.{step_a, step_b}
use Rattle.lane_models.specs.LaneState.{IsShape, LaneState, Shape, fresh}
use Rattle.lane_models.specs.LaneStep.{LaneStep}
use Rattle.lane_models.specs.Offering.{client_offer, server_offer}
use Rattle.lane_models.specs.Sayings.{half_said, heard}
use Rattle.lane_models.specs.ServerPutting.{server_holds, server_kind}
use Rattle.lane_models.specs.ServerRule as server_rules
use Rattle.lane_models.specs.ServerRule.{answer}
use Rattle.lane_models.specs.ServerState.{ServerSession, ServerState, SlotRange}
use Rattle.lane_models.specs.ServerStep.{ServerSends, ServerStep}
use Rattle.lane_models.specs.WireEvent.{Blocked, Idle, Joined, Reset, Sent, Took}
use Rattle.lane_laws.specs.WorkLog.{ServerCounts}
use Rattle.lane_laws.proofs.ClientFolds.{Announcing, announces_so}
use Rattle.lane_laws.proofs.Speaking.{server_blocked_rests}
use Rattle.lane_models.proofs.PutSayings.{put_says}
use Rattle.lane_models.proofs.EndStanding.{open_up}
use Rattle.lane_laws.proofs.LaneViews.{ServerSide, at_server, reach_of, server_keeps}
use Rattle.lane_laws.proofs.LaneCounting.{Knows, knows_step, run_knows}
use Rattle.lane_laws.proofs.RangeSums.{count_heard}
use Rattle.lane_laws.proofs.RulesFree.{server_free}
use Rattle.lane_laws.proofs.ServerFolds.{RangeIs, ranged, server_fetches_so, server_finishes_so, server_moves_so, server_puts_so, server_stores_so, server_takes_so}
use Rattle.lane_laws.proofs.ServerPutCounting.{server_holds_counting}
use Rattle.lane_laws.proofs.ServerTaken.{server_took_what}
use Rattle.lane_laws.specs.Counted.{HoldsAnswer, ServerOrder, range_count}
use Rattle.lane_laws.specs.ChannelEnds.{client_core, core_event, server_core}
use Rattle.lane_models.proofs.EndFolding.{FoldsSo}
use Rattle.lane_models.specs.EndFold.{handshake_of}

-- BOTH ENDS, and the log: each link as its moves have it, and the range in a server's work
pub record BothAre (s : LaneState) (l : DiskLog) : Type 0 where
  pub knows : Knows s l
  pub client : EndSends (client_core s.client) l.blocked.client
  pub server : EndSends (server_core s.server) l.blocked.server
  pub range : RangeIs s.server.session l.transcript.b

pub first_false : (a b c : Bool) → (a || b || c) ≡ false → a ≡ false
first_false false b c is = refl
first_false true b c is = absurd (cc)

-- what blocks an end is counted from its moves
client_blocked : (l : BlockLog) (event : DiskEvent) → (after_block l event).client ≡ blockage_after l.client (move_of A (core_event event))
client_blocked l event = grind arith

server_blocked : (l : BlockLog) (event : DiskEvent) → (after_block l event).server ≡ blockage_after l.server (move_of B (core_event event))
server_blocked l event = grind arith

-- what a server holds leaves its session
pub held_session : (s : ServerState) (rule : server_rules.ServerRule) (held : ServerState) → server_holds rule s ≡ Some held → held.session ≡ s.session
held_session s rule held is = ap (λ (x : ServerState). x.session) (server_holds_link s rule held is)

-- THE RANGE
range_acts : (s : LaneState) (l : DiskLog) → BothAre s l → (event : DiskEvent) (gave : List ℕ) (t : ServerState) (new : List ℕ)
    → ServerStep s.server (at_server s) (reach_of s) gave event t new → RangeIs t.session (after l event).transcript.b
range_acts s l both (OnWire (Joined B lost)) gave t new step = ap (λ (v : ServerState). ranged v.session) step.2
range_acts s l both (OnWire (Took B packet opens)) gave t new step =
    let rests = both.knows.rests.server in
    server_takes_so s.server t l.transcript.b packet opens rests both.range
    (server_took_what s.server l.transcript.b packet t opens rests.stands.link.follows rests.whole step.1)
range_acts s l both (OnWire (Sent B packet opens)) gave t new step =
    let knows = both.knows in
    let rule = server_rules.server_rule s.server (at_server s) in
    let sends : ServerSends s.server (at_server s) packet opens t = step.0 in
    let held = sends.held in
    let counted = server_holds_counting l.shape s.server rule held l.transcript.b l.work.server knows.rests.server knows.utters.server (server_free s.server (at_server s)) sends.holds knows.counted.server in
    let rests = server_blocked_rests s.server (at_server s) held l.transcript.b sends.holds knows.rests.server in
    ap (λ (v : ServerState). ranged v.session) sends.is
    ∙ server_puts_so l.transcript.b packet (server_kind held) held
    (record { range = ap ranged (held_session s.server rule held sends.holds) ∙ both.range; owed = rests.fits.owed; rests = rests; holds = counted.holds })
    (put_says (is_none held.handshake.owed) held.link t.link l.transcript.b packet rests.stands.link.follows sends.packet)
range_acts s l both (OnWire (Blocked B)) gave t new step = ap ranged (held_session s.server (server_rules.server_rule s.server (at_server s)) t step.0) ∙ both.range
range_acts s l both (OnWire (Idle B)) gave t new step = ap (λ (v : ServerState). ranged v.session) step.1 ∙ both.range
range_acts s l both (OnWire (Reset B cause packet lost)) gave t new step = ap (λ (v : ServerState). ranged v.session) step.2
range_acts s l both (Works (Desc slot bytes)) gave t new step = server_fetches_so s.server (at_server s) (reach_of s) slot bytes t new l.transcript.b step.0 both.range
range_acts s l both (Works (Moved unit fault)) gave t new step = server_moves_so s.server t (at_server s) (reach_of s) unit fault new l.transcript.b step.0 both.range
range_acts s l both (Works (Stored operation block count failed)) gave t new step =
    server_stores_so s.server t (at_server s) operation block count failed gave l.transcript.b step.0 both.range
range_acts s l both (Works (Finished slot status)) gave t new step =
    server_finishes_so s.server (at_server s) (reach_of s) slot status t new l.transcript.b step.0 both.range
range_acts s l both _ gave t new step = absurd step

both_step : (s : LaneState) (l : DiskLog) (event : DiskEvent) (t : LaneState) → BothAre s l → LaneStep s event t → ⊤ × BothAre t (after l event)
both_step s l event t both step =
    let rests = both.knows.rests in
    let next = (knows_step s l event t both.knows step).1 in (
      tt,
      record {
        knows = next;
        client = subst (EndSends (client_core t.client)) (sym (client_blocked l.blocked event))
            (sends_move Initiator (client_core s.client) (move_of A (core_event event)) (client_core t.client) l.transcript.a l.blocked.client rests.client.stands both.client
            (step_a s event t (record { before = both.knows.all.sound; behind = next.all.sound }) step));
        server = subst (EndSends (server_core t.server)) (sym (server_blocked l.blocked event))
            (sends_move Responder (server_core s.server) (move_of B (core_event event)) (server_core t.server) l.transcript.b l.blocked.server rests.server.stands both.server
            (step_b s event t step));
        range = server_keeps (λ (v : ServerState) (side : ServerSide). RangeIs v.session side.utterances) s l event t
            (record { now = both.range; acts = range_acts s l both; joined = refl; renewed = refl }) step;
      },
    )

fresh_both : (shape : Shape) → IsShape shape → BothAre (fresh shape) (nothing_yet shape)
fresh_both shape sound = record {
  knows = run_knows shape [] (fresh shape) sound refl;
  client = none_sends (client_core (fresh shape).client) refl;
  server = none_sends (server_core (fresh shape).server) refl;
  range = refl;
}

pub run_both : (shape : Shape) (events : List DiskEvent) (s : LaneState) → IsShape shape → Run LaneStep (fresh shape) events s → BothAre s (log_of after (nothing_yet shape) events)
run_both shape events s sound run =
    (run_lawful LaneStep (λ (l : DiskLog) (e : DiskEvent). ⊤) after BothAre both_step (fresh shape) s (nothing_yet shape) events (fresh_both shape sound) run).1

-- WHAT A CLIENT HAS LEFT TO SEND
client_owed : (s : LaneState) (l : DiskLog) → BothAre s l → is_announcing s.client.session ≡ false
    → s.client.link.to_send ≡ owed_left (half_said l.transcript.a) l.blocked.client s.client.handshake.owed
client_owed s l both quiet = owed_sent Initiator (client_core s.client) l.transcript.a l.blocked.client both.knows.rests.client.stands both.client quiet

client_own : (s : LaneState) (l : DiskLog) (session : ClientSession) → BothAre s l → s.client.session ≡ Some session → session.announcing ≡ true
    → s.client.link.to_send ≡ left_of (half_said l.transcript.a) l.blocked.client (canonical (announcement s.client session))
client_own s l session both is own =
    held_left Initiator (client_core s.client) l.transcript.a l.blocked.client both.knows.rests.client.stands both.client (canonical (announcement s.client session))
    (both.knows.counted.client.holds session is own) (both.knows.all.sound.own (ap is_announcing is ∙ own))

client_left_is : (s : LaneState) (l : DiskLog) (o : Option ClientSession) → BothAre s l → s.client.session ≡ o
    → s.client.link.to_send ≡ client_left s.client o (half_said l.transcript.a) l.blocked.client
client_left_is s l None both is = client_owed s l both (ap is_announcing is)
client_left_is s l (Some session) both is = by_own session.announcing refl
  where
    by_own : (own : Bool) → session.announcing ≡ own → s.client.link.to_send ≡ client_left s.client (Some session) (half_said l.transcript.a) l.blocked.client
    by_own true own =
        client_own s l session both is own
        ∙ sym (ap (λ (b : Bool). announced_or_owed b s.client session (half_said l.transcript.a) l.blocked.client) own)
    by_own false own =
        client_owed s l both (ap is_announcing is ∙ own)
        ∙ sym (ap (λ (b : Bool). announced_or_owed b s.client session (half_said l.transcript.a) l.blocked.client) own)

client_announces : (s : LaneState) (l : DiskLog) → BothAre s l → Announcing s.client l.blocked.client
client_announces s l both = announces_so s.client l.transcript.a l.blocked.client both.knows.all.sound both.knows.rests.client both.client

-- the handshake of each end is what its transcript folds to
pub client_told : (s : LaneState) (l : DiskLog) → BothAre s l → FoldsSo Initiator (client_core s.client) l.transcript.a → s.client.handshake.last_sid ≡ l.transcript.links % 4294967296
    → s.client.handshake ≡ handshake_of Initiator (client_offer l.shape.blocks l.shape.slots) (l.transcript.links % 4294967296) l.transcript.a
client_told s l both so sids = search

pub server_told : (s : LaneState) (l : DiskLog) → BothAre s l → FoldsSo Responder (server_core s.server) l.transcript.b → s.server.handshake.last_sid ≡ 0
    → s.server.handshake ≡ handshake_of Responder (server_offer l.shape.blocks l.shape.slots) 0 l.transcript.b
server_told s l both so sids = search

pub client_end : (s : LaneState) (l : DiskLog) → BothAre s l → FoldsSo Initiator (client_core s.client) l.transcript.a → s.client.handshake.last_sid ≡ l.transcript.links % 4294967296
    → ClientEndAgrees s.client l.shape l.transcript l.blocked.client
client_end s l both so sids = search (client_left_is, client_announces)

-- THE SERVER
pub infos_are : (turns : List Utterance) → infos_heard turns ≡ range_count 1 (heard turns)
infos_are [] = refl
infos_are (Said packet ∷ turns) = infos_are turns
infos_are (Heard_ packet ∷ turns) = omega (arith, infos_are turns, count_heard 1 packet turns)

range_agrees : (slots : ℕ) (o : Option ServerSession) (d : Option ServerCounts) (turns : List Utterance) → ServerOrder slots o d turns → ranged o ≡ range_in_work turns → RangeAgrees o turns
range_agrees slots o d turns order is = grind (arith, infos_are)

module _ (s : LaneState) (l : DiskLog) (both : BothAre s l) where
  answered_left : (o : Option ServerSession) (range : Option SlotRange) (left : List ℕ) → s.server.handshake.owed ≡ None → s.server.session ≡ o → ranged o ≡ range → s.server.link.to_send ≡ left
      → s.server.link.to_send ≡ range_left s.server range (half_said l.transcript.b) l.blocked.server
  answered_left o None [] none is at left_is = left_is
  answered_left o (Some range) [] none is at left_is =
      none_left Responder (server_core s.server) l.transcript.b l.blocked.server both.knows.rests.server.stands both.server (canonical (answer s.server range)) (up o is at) left_is
    where
      up : (p : Option ServerSession) → s.server.session ≡ p → ranged p ≡ Some range → is_up s.server.link ≡ true
      up None open_one there = absurd (cc)
      up (Some session) open_one there =
          open_up Responder (server_core s.server) l.transcript.b both.knows.rests.server.stands (ap is_some open_one)
  answered_left o range (byte ∷ left) none is at left_is =
      let some : 1 ≤ length s.server.link.to_send = omega (arith, ap length left_is) in
      let a : HoldsAnswer s.server (half_said l.transcript.b ++ s.server.link.to_send) = both.knows.counted.server.holds none some in
      let there : range ≡ Some a.range = sym at ∙ ap ranged (sym is ∙ a.session_is) ∙ a.range_is in
      held_left Responder (server_core s.server) l.transcript.b l.blocked.server both.knows.rests.server.stands both.server (canonical (answer s.server a.range)) a.bytes_are some
      ∙ sym (ap (λ (r : Option SlotRange). range_left s.server r (half_said l.transcript.b) l.blocked.server) there)

  answer_is : (o : Option ServerSession) → s.server.handshake.owed ≡ None → s.server.session ≡ o → s.server.link.to_send ≡ answer_left s.server o (half_said l.transcript.b) l.blocked.server
  answer_is None none is = answered_left None None s.server.link.to_send none is refl refl
  answer_is (Some session) none is = answered_left (Some session) session.range s.server.link.to_send none is refl refl

  server_left_is : (owed : Option Message) → s.server.handshake.owed ≡ owed → s.server.link.to_send ≡ server_left s.server owed (half_said l.transcript.b) l.blocked.server
  server_left_is None is = answer_is s.server.session is refl
  server_left_is (Some message) is =
      let not_own : (server_core s.server).own ≡ false = ap (λ (o : Option Message). not (is_empty s.server.link.to_send) && is_none o) is ∙ and_false (not (is_empty s.server.link.to_send)) in
      owed_sent Responder (server_core s.server) l.transcript.b l.blocked.server both.knows.rests.server.stands both.server not_own
      ∙ ap (owed_left (half_said l.transcript.b) l.blocked.server) is

pub server_end : (s : LaneState) (l : DiskLog) → BothAre s l → FoldsSo Responder (server_core s.server) l.transcript.b → s.server.handshake.last_sid ≡ 0
    → s.server.first ≡ l.shape.first → ServerEndAgrees s.server l.shape l.transcript l.blocked.server
server_end s l both so sids first =
    let turns = l.transcript.b in
    let counted = both.knows.counted.server in
    record {
      first = first;
      blocks = counted.blocks;
      slots = counted.slots;
      role = both.knows.rests.server.stands.link.role_is;
      phase = so.folds.phase;
      handshake = server_told s l both so sids;
      range = range_agrees l.shape.slots s.server.session l.work.server turns counted.order both.range;
      left = server_left_is s l both s.server.handshake.owed refl;
    }
