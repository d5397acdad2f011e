-- An end that finds no room has a packet to put.
use Rattle.std.proofs.Common.{◌≡◌, ◌≢◌, ◌<◌, ◌≤◌, Bool, true, false, Option, Some, None, ◌++◌, length, sym, ap, ◌∙◌, arith, refl, inl, inr}
use Rattle.ldc_link.specs.declared.phase.Role.TheVariants.{Initiator, Responder}
use Rattle.ldc_link.specs.LinkState.{LinkState}
use Rattle.ldc_link.specs.Putting.{owes, owes_control, owes_in}
use Rattle.ldc_queue.specs.declared.end.End.TheVariants.{A, B}
use Rattle.vio_tag.specs.declared.message.Message.{Message}
use Rattle.vio_handshake.specs.declared.handshake.Handshake.{Handshake}
use Rattle.lane_models.specs.Sayings.{half_said}
use Rattle.lane_models.specs.ClientPutting.{client_holds, is_announcing}
use Rattle.lane_models.specs.ClientRule as client
use Rattle.lane_models.specs.ClientState.{ClientSession, ClientState}
use Rattle.lane_models.specs.LaneState.{LaneState}
use Rattle.lane_models.specs.ServerPutting.{server_holds}
use Rattle.lane_models.specs.ServerRule as server
use Rattle.lane_models.specs.ServerState.{ServerSession, ServerState, SlotRange}
use Rattle.lane_models.proofs.Apart.{none_is_some, some_is_none}
use Rattle.lane_models.specs.EndFold.{link_phase}
use Rattle.lane_laws.specs.ChannelEnds.{client_core}
use Rattle.lane_laws.specs.DiskLog.{DiskLog}
use Rattle.lane_laws.specs.OrderLaws.{HasToPut}
use Rattle.lane_laws.specs.RuleFacts.{ClientMay}
use Rattle.lane_laws.specs.Sound.{SessionInOrder}
use Rattle.lane_laws.specs.WorkLaws.{client_handshake, server_handshake}
use Rattle.lane_models.proofs.EndSending.{calm_up, sends_some}
use Rattle.lane_laws.proofs.ClientPutCounting.{OwnInfo, own_info}
use Rattle.lane_laws.proofs.EndsFold.{BothAre}
use Rattle.lane_laws.proofs.RangeLaw.{AreTold}
use Rattle.lane_laws.proofs.RulesFree.{ServerFree, puts_owe, server_free}
use Rattle.lane_laws.proofs.Ruling.{client_may}
use Rattle.lane_laws.proofs.Sharing.{in_order}
use Rattle.lane_models.proofs.MessagesHeld.{owed_held}
use Rattle.lane_laws.proofs.WorkNumbers.{Grounded}
use Rattle.lane_laws.proofs.LaneViews.{at_client, at_server}

-- what is known of both ends
pub record Told (s : LaneState) (l : DiskLog) : Type 0 where
  pub grounded : Grounded s l
  pub both : BothAre s l
  pub are : AreTold s l
  pub client_phase : s.client.link.phase ≡ link_phase Initiator l.transcript.a
  pub server_phase : s.server.link.phase ≡ link_phase Responder l.transcript.b

some_owed : (h g : Handshake) (message : Message) → h ≡ g → h.owed ≡ Some message → g.owed ≢ None
some_owed h g message same owed none = some_is_none (sym owed ∙ ap (λ (x : Handshake). x.owed) same ∙ none)

-- a link that owes a packet owes one of its handshake, or holds some of a message
by_control : (k : LinkState) (b : Bool) (P : Type 0) → owes_control k ≡ b → owes k ≡ true → (owes_control k ≡ true → P) → (1 ≤ length k.to_send → P) → P
by_control k true P is owing one other = one is
by_control k false P is owing one other = other (sends_some k (calm_up k is owing) owing)

-- THE CLIENT
more_published : (s : LaneState) (l : DiskLog) (session : ClientSession) → Grounded s l → s.client.session ≡ Some session → session.announced < session.published → HasToPut A l
more_published s l session grounded is more = grind arith

client_left : (s : LaneState) (l : DiskLog) (own : Bool) → Told s l → is_announcing s.client.session ≡ own → 1 ≤ length s.client.link.to_send → HasToPut A l
client_left s l true told own some =
    let grounded = told.grounded in
    let info : OwnInfo s.client (half_said l.transcript.a ++ s.client.link.to_send) =
    own_info s.client l.transcript.a s.client.session refl own grounded.knows.counted.client.holds in
    let order : SessionInOrder (length s.client.pending) info.session =
    in_order (length s.client.pending) s.client.session info.session info.is grounded.knows.all.sound.counts in
    more_published s l info.session grounded info.is (order.own info.announcing)
client_left s l false told own some =
    let holds = owed_held Initiator (client_core s.client) l.transcript.a told.grounded.knows.rests.client.stands own some in
    inr (inl (some_owed s.client.handshake (client_handshake l) holds.message told.are.client holds.owed))

client_puts : (s : LaneState) (l : DiskLog) (rule : client.ClientRule) (held : ClientState) → Told s l → client.client_rule s.client (at_client s) ≡ rule
    → client_holds rule s.client ≡ Some held → ClientMay s.client (at_client s) rule → HasToPut A l
client_puts s l client.Puts held told rule is may =
    by_control s.client.link (owes_control s.client.link) (HasToPut A l) refl (puts_owe s.client (at_client s) rule)
    (λ control. inl (ap owes_in (sym told.client_phase) ∙ control))
    (λ some. client_left s l (is_announcing s.client.session) told refl some)
client_puts s l (client.Says message) held told rule is may = inr (inl (some_owed s.client.handshake (client_handshake l) message told.are.client may.2))
client_puts s l (client.Announces session) held told rule is may = more_published s l session told.grounded may.3 may.4
client_puts s l _ held told rule is may = none_is_some is

pub client_to_put : (s : LaneState) (l : DiskLog) (held : ClientState) → Told s l → client_holds (client.client_rule s.client (at_client s)) s.client ≡ Some held → HasToPut A l
client_to_put s l held told is = client_puts s l (client.client_rule s.client (at_client s)) held told refl is (client_may s.client (at_client s))

-- THE SERVER
more_answered : (s : LaneState) (l : DiskLog) (session : ServerSession) (range : SlotRange) → Grounded s l → s.server.session ≡ Some session → session.range ≡ Some range
    → session.finished ≡ session.asked → HasToPut B l
more_answered s l session range grounded is ranged ended = grind arith

server_left : (s : LaneState) (l : DiskLog) (owed : Option Message) → Told s l → s.server.handshake.owed ≡ owed → 1 ≤ length s.server.link.to_send → HasToPut B l
server_left s l (Some message) told is some = inr (inl (some_owed s.server.handshake (server_handshake l) message told.are.server is))
server_left s l None told is some =
    let own = told.grounded.knows.counted.server.holds is some in more_answered s l own.session own.range told.grounded own.session_is own.range_is own.finished

server_puts : (s : LaneState) (l : DiskLog) (rule : server.ServerRule) (held : ServerState) → Told s l → server_holds rule s.server ≡ Some held → ServerFree s.server rule → HasToPut B l
server_puts s l server.Puts held told is free =
    by_control s.server.link (owes_control s.server.link) (HasToPut B l) refl free
    (λ control. inl (ap owes_in (sym told.server_phase) ∙ control))
    (λ some. server_left s l s.server.handshake.owed told refl some)
server_puts s l (server.Says message) held told is (quiet, inl owed) = inr (inl (some_owed s.server.handshake (server_handshake l) message told.are.server owed))
server_puts s l (server.Says message) held told is (quiet, inr own) = more_answered s l own.session own.range told.grounded own.session_is own.range_is own.finished
server_puts s l _ held told is free = none_is_some is

pub server_to_put : (s : LaneState) (l : DiskLog) (held : ServerState) → Told s l → server_holds (server.server_rule s.server (at_server s)) s.server ≡ Some held → HasToPut B l
server_to_put s l held told is = server_puts s l (server.server_rule s.server (at_server s)) held told is (server_free s.server (at_server s))
