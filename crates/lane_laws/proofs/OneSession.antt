-- The open sessions of both ends of a lane that nobody forged are one.
use Rattle.std.proofs.Common.{◌≡◌, false, true, List, map, sym, ◌∙◌}
use Rattle.std.specs.Prelude.{is_some}
use Rattle.ldc_queue.specs.declared.end.End.TheVariants.{B}
use Rattle.lane_models.specs.WireAt.{IsUp}
use Rattle.runs.specs.Run.{Run}
use Rattle.lane_models.specs.DiskEvent.{DiskEvent}
use Rattle.lane_models.specs.LaneState.{IsShape, LaneState, Shape, fresh}
use Rattle.lane_models.specs.LaneStep.{LaneStep}
use Rattle.lane_models.proofs.Sessions.{PeerIsOpen, open_sessions_begin, open_sessions_one}
use Rattle.lane_laws.proofs.LaneChannel.{answers_of, asks_of, lane_matches}
use Rattle.lane_laws.proofs.LaneCores.{lane_cores, lane_fits}
use Rattle.lane_laws.specs.ChannelEnds.{core_event, core_of}
use Rattle.lane_laws.specs.OneSession.{AreOneSession}

pub one_session : (shape : Shape) (events : List DiskEvent) (s : LaneState) → IsShape shape → Run LaneStep (fresh shape) events s
    → s.wire.forged ≡ false → is_some s.client.session ≡ true → is_some s.server.session ≡ true → AreOneSession s.client.handshake s.server.handshake
one_session shape events s sound run clean client server =
    let one = open_sessions_one shape.entries (asks_of shape) (answers_of shape) (map core_event events) (core_of s) (lane_fits shape sound) (lane_matches shape sound).matched
    (lane_cores shape events s sound run) clean client server in
    record {
      sid = one.sid;
      minor = one.minor;
      smaller = one.smaller;
      number = one.ring.ident_own ∙ sym one.ring.ident;
      named = one.ring.ident ∙ one.sid;
      slots = one.ring.slots;
      count = one.ring.count;
      cookies = one.ring.cookies;
    }

-- the client of a server in session whose end is up
pub client_in_session : (shape : Shape) (events : List DiskEvent) (s : LaneState) → IsShape shape → Run LaneStep (fresh shape) events s
    → s.wire.forged ≡ false → IsUp B s.wire.wire → is_some s.server.session ≡ true → PeerIsOpen (core_of s)
client_in_session shape events s sound run clean up server =
    open_sessions_begin shape.entries (asks_of shape) (answers_of shape) (map core_event events) (core_of s) (lane_fits shape sound) (lane_matches shape sound).matched
    (lane_cores shape events s sound run) clean up server
