-- The states of a lane in its first rounds.
use Rattle.std.proofs.Common.{ℕ, false, Option, Some, None, List, [], ◌∷◌, replicate}
use Rattle.ldc_link.specs.declared.phase.LinkPhase.TheVariants as link
use Rattle.ldc_link.specs.declared.phase.Role.TheVariants.{Initiator, Responder}
use Rattle.ldc_packet.specs.declared.packet.Body.TheVariants as body
use Rattle.ldc_packet.specs.declared.packet.Subtype.TheVariants.{Info, Ack}
use Rattle.ldc_packet.specs.Spelling.{canonical}
use Rattle.ldc_queue.specs.declared.end.ChannelState.TheVariants.{Down, Up}
use Rattle.map_table.specs.Cookies.{no_cookie}
use Rattle.map_table.specs.declared.table.Entry.{Entry}
use Rattle.vdisk_msg.specs.declared.request.Request.{Request}
use Rattle.vio_handshake.specs.declared.handshake.Phase.TheVariants as handshake
use Rattle.vio_tag.specs.declared.message.Message.{Message}
use Rattle.lane_models.specs.LaneState.{LaneState}
use Rattle.lane_models.specs.Offering.{client_offer, server_offer}
use Rattle.ldc_link.specs.Putting.{control}
use Rattle.ldc_link.specs.declared.phase.LinkPhase.{LinkPhase}
use Rattle.ldc_link.specs.declared.phase.Role.{Role}
use Rattle.ldc_link.specs.LinkState.{LinkState}
use Rattle.ldc_queue.specs.declared.end.ChannelState.{ChannelState}
use Rattle.vio_handshake.specs.declared.handshake.Handshake.{Handshake}
use Rattle.vio_handshake.specs.declared.handshake.Phase.{Phase}
use Rattle.vio_handshake.specs.declared.session.Offer.{Offer}
use Rattle.vio_handshake.specs.declared.session.Session.{Session}
use Rattle.lane_models.specs.ClientState.{ClientSession}
use Rattle.lane_models.specs.ServerState.{ServerSession}
use Rattle.lane_models.specs.FirstRounds.{attr_ack, attr_info, ver_ack, ver_info, carries, small_shape}

-- a link with no message under way, and a handshake
abbrev pub link_at : Role → LinkPhase → ℕ → ℕ → LinkState
link_at role phase put take = record { role = role; phase = phase; put_next = put; take_next = take; half_heard = []; whole = None; to_send = []; begun = false }

abbrev pub handshake_at : Role → Offer → Phase → Option ℕ → ℕ → Option Message → Session → Handshake
handshake_at role offer phase sid last owed draft = record { role = role; offer = offer; phase = phase; sid = sid; last_sid = last; owed = owed; draft = draft }

-- a lane of one accepted request
abbrev pub lane_at : ChannelState → ChannelState → List (List ℕ) → List (List ℕ)
    → LinkState → Handshake → Option ClientSession → ℕ → LinkState → Handshake → Option ServerSession
    → List ℕ → List (Option Entry) → Request → LaneState
lane_at end_a end_b to_a to_b client_link client_handshake client_session ever server_link server_handshake server_session memory table request = record {
  shape = small_shape;
  wire = record { wire = record { end_a = end_a; end_b = end_b; to_a = to_a; to_b = to_b }; forged = false; lossy = false };
  client = record {
    link = client_link;
    handshake = client_handshake;
    blocks = 64;
    slots = 8;
    pending = request ∷ [];
    next_id = 1;
    ever_published = ever;
    session = client_session;
    last = [];
  };
  server = record { link = server_link; handshake = server_handshake; first = 0; blocks = 64; slots = 8; session = server_session; work = None };
  memory = memory;
  table = table;
  stopped = false;
  failed = false;
  near = record { k = 0; m = 0; u = 0 };
}

abbrev pub state_0 : List ℕ → List (Option Entry) → Request → LaneState
state_0 memory table request = lane_at Down Down ([]) ([])
    (link_at Initiator link.OwesVersInfo 1 1) (handshake_at Initiator (client_offer 64 8) handshake.Down None 0 None (record { sid = 0; minor = 0; ident_own = 0; ident_peer = 0; peer_slots = 0; peer_count = 0; peer_cookies = replicate 14 no_cookie })) None 0
    (link_at Responder link.AwaitsVersInfo 1 1) (handshake_at Responder (server_offer 64 8) handshake.Down None 0 None (record { sid = 0; minor = 0; ident_own = 0; ident_peer = 0; peer_slots = 0; peer_count = 0; peer_cookies = replicate 14 no_cookie })) None
    memory table request

abbrev pub state_1 : List ℕ → List (Option Entry) → Request → LaneState
state_1 memory table request = lane_at Up Down ([]) ([])
    (link_at Initiator link.OwesVersInfo 1 1) (handshake_at Initiator (client_offer 64 8) handshake.Down None 0 None (record { sid = 0; minor = 0; ident_own = 0; ident_peer = 0; peer_slots = 0; peer_count = 0; peer_cookies = replicate 14 no_cookie })) None 0
    (link_at Responder link.AwaitsVersInfo 1 1) (handshake_at Responder (server_offer 64 8) handshake.Down None 0 None (record { sid = 0; minor = 0; ident_own = 0; ident_peer = 0; peer_slots = 0; peer_count = 0; peer_cookies = replicate 14 no_cookie })) None
    memory table request

abbrev pub state_2 : List ℕ → List (Option Entry) → Request → LaneState
state_2 memory table request = lane_at Up Up ([]) ([])
    (link_at Initiator link.OwesVersInfo 1 1) (handshake_at Initiator (client_offer 64 8) handshake.Down None 0 None (record { sid = 0; minor = 0; ident_own = 0; ident_peer = 0; peer_slots = 0; peer_count = 0; peer_cookies = replicate 14 no_cookie })) None 0
    (link_at Responder link.AwaitsVersInfo 1 1) (handshake_at Responder (server_offer 64 8) handshake.Down None 0 None (record { sid = 0; minor = 0; ident_own = 0; ident_peer = 0; peer_slots = 0; peer_count = 0; peer_cookies = replicate 14 no_cookie })) None
    memory table request

abbrev pub state_3 : List ℕ → List (Option Entry) → Request → LaneState
state_3 memory table request = lane_at Up Up ([]) (canonical (control Info 0 (body.Vers 1 0)) ∷ [])
    (link_at Initiator link.AwaitsVersAck 1 1) (handshake_at Initiator (client_offer 64 8) handshake.Down None 0 None (record { sid = 0; minor = 0; ident_own = 0; ident_peer = 0; peer_slots = 0; peer_count = 0; peer_cookies = replicate 14 no_cookie })) None 0
    (link_at Responder link.AwaitsVersInfo 1 1) (handshake_at Responder (server_offer 64 8) handshake.Down None 0 None (record { sid = 0; minor = 0; ident_own = 0; ident_peer = 0; peer_slots = 0; peer_count = 0; peer_cookies = replicate 14 no_cookie })) None
    memory table request

abbrev pub state_4 : List ℕ → List (Option Entry) → Request → LaneState
state_4 memory table request = lane_at Up Up ([]) ([])
    (link_at Initiator link.AwaitsVersAck 1 1) (handshake_at Initiator (client_offer 64 8) handshake.Down None 0 None (record { sid = 0; minor = 0; ident_own = 0; ident_peer = 0; peer_slots = 0; peer_count = 0; peer_cookies = replicate 14 no_cookie })) None 0
    (link_at Responder link.OwesVersAck 1 1) (handshake_at Responder (server_offer 64 8) handshake.Down None 0 None (record { sid = 0; minor = 0; ident_own = 0; ident_peer = 0; peer_slots = 0; peer_count = 0; peer_cookies = replicate 14 no_cookie })) None
    memory table request

abbrev pub state_5 : List ℕ → List (Option Entry) → Request → LaneState
state_5 memory table request = lane_at Up Up ([]) ([])
    (link_at Initiator link.AwaitsVersAck 1 1) (handshake_at Initiator (client_offer 64 8) handshake.Down None 0 None (record { sid = 0; minor = 0; ident_own = 0; ident_peer = 0; peer_slots = 0; peer_count = 0; peer_cookies = replicate 14 no_cookie })) None 0
    (link_at Responder link.OwesVersAck 1 1) (handshake_at Responder (server_offer 64 8) handshake.Down None 0 None (record { sid = 0; minor = 0; ident_own = 0; ident_peer = 0; peer_slots = 0; peer_count = 0; peer_cookies = replicate 14 no_cookie })) None
    memory table request

abbrev pub state_6 : List ℕ → List (Option Entry) → Request → LaneState
state_6 memory table request = lane_at Up Up (canonical (control Ack 0 (body.Vers 1 0)) ∷ []) ([])
    (link_at Initiator link.AwaitsVersAck 1 1) (handshake_at Initiator (client_offer 64 8) handshake.Down None 0 None (record { sid = 0; minor = 0; ident_own = 0; ident_peer = 0; peer_slots = 0; peer_count = 0; peer_cookies = replicate 14 no_cookie })) None 0
    (link_at Responder link.AwaitsRts 1 1) (handshake_at Responder (server_offer 64 8) handshake.Down None 0 None (record { sid = 0; minor = 0; ident_own = 0; ident_peer = 0; peer_slots = 0; peer_count = 0; peer_cookies = replicate 14 no_cookie })) None
    memory table request

abbrev pub state_7 : List ℕ → List (Option Entry) → Request → LaneState
state_7 memory table request = lane_at Up Up ([]) ([])
    (link_at Initiator link.OwesRts 1 1) (handshake_at Initiator (client_offer 64 8) handshake.Down None 0 None (record { sid = 0; minor = 0; ident_own = 0; ident_peer = 0; peer_slots = 0; peer_count = 0; peer_cookies = replicate 14 no_cookie })) None 0
    (link_at Responder link.AwaitsRts 1 1) (handshake_at Responder (server_offer 64 8) handshake.Down None 0 None (record { sid = 0; minor = 0; ident_own = 0; ident_peer = 0; peer_slots = 0; peer_count = 0; peer_cookies = replicate 14 no_cookie })) None
    memory table request

abbrev pub state_8 : List ℕ → List (Option Entry) → Request → LaneState
state_8 memory table request = lane_at Up Up ([]) ([])
    (link_at Initiator link.OwesRts 1 1) (handshake_at Initiator (client_offer 64 8) handshake.Down None 0 None (record { sid = 0; minor = 0; ident_own = 0; ident_peer = 0; peer_slots = 0; peer_count = 0; peer_cookies = replicate 14 no_cookie })) None 0
    (link_at Responder link.AwaitsRts 1 1) (handshake_at Responder (server_offer 64 8) handshake.Down None 0 None (record { sid = 0; minor = 0; ident_own = 0; ident_peer = 0; peer_slots = 0; peer_count = 0; peer_cookies = replicate 14 no_cookie })) None
    memory table request

abbrev pub state_9 : List ℕ → List (Option Entry) → Request → LaneState
state_9 memory table request = lane_at Up Up ([]) (canonical (control Info 0 (body.Rts 1)) ∷ [])
    (link_at Initiator link.AwaitsRtr 1 1) (handshake_at Initiator (client_offer 64 8) handshake.Down None 0 None (record { sid = 0; minor = 0; ident_own = 0; ident_peer = 0; peer_slots = 0; peer_count = 0; peer_cookies = replicate 14 no_cookie })) None 0
    (link_at Responder link.AwaitsRts 1 1) (handshake_at Responder (server_offer 64 8) handshake.Down None 0 None (record { sid = 0; minor = 0; ident_own = 0; ident_peer = 0; peer_slots = 0; peer_count = 0; peer_cookies = replicate 14 no_cookie })) None
    memory table request

abbrev pub state_10 : List ℕ → List (Option Entry) → Request → LaneState
state_10 memory table request = lane_at Up Up ([]) ([])
    (link_at Initiator link.AwaitsRtr 1 1) (handshake_at Initiator (client_offer 64 8) handshake.Down None 0 None (record { sid = 0; minor = 0; ident_own = 0; ident_peer = 0; peer_slots = 0; peer_count = 0; peer_cookies = replicate 14 no_cookie })) None 0
    (link_at Responder link.OwesRtr 1 1) (handshake_at Responder (server_offer 64 8) handshake.Down None 0 None (record { sid = 0; minor = 0; ident_own = 0; ident_peer = 0; peer_slots = 0; peer_count = 0; peer_cookies = replicate 14 no_cookie })) None
    memory table request

abbrev pub state_11 : List ℕ → List (Option Entry) → Request → LaneState
state_11 memory table request = lane_at Up Up ([]) ([])
    (link_at Initiator link.AwaitsRtr 1 1) (handshake_at Initiator (client_offer 64 8) handshake.Down None 0 None (record { sid = 0; minor = 0; ident_own = 0; ident_peer = 0; peer_slots = 0; peer_count = 0; peer_cookies = replicate 14 no_cookie })) None 0
    (link_at Responder link.OwesRtr 1 1) (handshake_at Responder (server_offer 64 8) handshake.Down None 0 None (record { sid = 0; minor = 0; ident_own = 0; ident_peer = 0; peer_slots = 0; peer_count = 0; peer_cookies = replicate 14 no_cookie })) None
    memory table request

abbrev pub state_12 : List ℕ → List (Option Entry) → Request → LaneState
state_12 memory table request = lane_at Up Up (canonical (control Info 0 (body.Rtr 1)) ∷ []) ([])
    (link_at Initiator link.AwaitsRtr 1 1) (handshake_at Initiator (client_offer 64 8) handshake.Down None 0 None (record { sid = 0; minor = 0; ident_own = 0; ident_peer = 0; peer_slots = 0; peer_count = 0; peer_cookies = replicate 14 no_cookie })) None 0
    (link_at Responder link.AwaitsRdx 1 1) (handshake_at Responder (server_offer 64 8) handshake.Down None 0 None (record { sid = 0; minor = 0; ident_own = 0; ident_peer = 0; peer_slots = 0; peer_count = 0; peer_cookies = replicate 14 no_cookie })) None
    memory table request

abbrev pub state_13 : List ℕ → List (Option Entry) → Request → LaneState
state_13 memory table request = lane_at Up Up ([]) ([])
    (link_at Initiator link.OwesRdx 1 1) (handshake_at Initiator (client_offer 64 8) handshake.Down None 0 None (record { sid = 0; minor = 0; ident_own = 0; ident_peer = 0; peer_slots = 0; peer_count = 0; peer_cookies = replicate 14 no_cookie })) None 0
    (link_at Responder link.AwaitsRdx 1 1) (handshake_at Responder (server_offer 64 8) handshake.Down None 0 None (record { sid = 0; minor = 0; ident_own = 0; ident_peer = 0; peer_slots = 0; peer_count = 0; peer_cookies = replicate 14 no_cookie })) None
    memory table request

abbrev pub state_14 : List ℕ → List (Option Entry) → Request → LaneState
state_14 memory table request = lane_at Up Up ([]) ([])
    (link_at Initiator link.OwesRdx 1 1) (handshake_at Initiator (client_offer 64 8) handshake.Down None 0 None (record { sid = 0; minor = 0; ident_own = 0; ident_peer = 0; peer_slots = 0; peer_count = 0; peer_cookies = replicate 14 no_cookie })) None 0
    (link_at Responder link.AwaitsRdx 1 1) (handshake_at Responder (server_offer 64 8) handshake.Down None 0 None (record { sid = 0; minor = 0; ident_own = 0; ident_peer = 0; peer_slots = 0; peer_count = 0; peer_cookies = replicate 14 no_cookie })) None
    memory table request

abbrev pub state_15 : List ℕ → List (Option Entry) → Request → LaneState
state_15 memory table request = lane_at Up Up ([]) (canonical (control Info 1 body.Rdx) ∷ [])
    (link_at Initiator link.Established 2 1) (handshake_at Initiator (client_offer 64 8) handshake.Version (Some 1) 1 (Some ver_info) (record { sid = 1; minor = 0; ident_own = 0; ident_peer = 0; peer_slots = 0; peer_count = 0; peer_cookies = replicate 14 no_cookie })) None 0
    (link_at Responder link.AwaitsRdx 1 1) (handshake_at Responder (server_offer 64 8) handshake.Down None 0 None (record { sid = 0; minor = 0; ident_own = 0; ident_peer = 0; peer_slots = 0; peer_count = 0; peer_cookies = replicate 14 no_cookie })) None
    memory table request

abbrev pub state_16 : List ℕ → List (Option Entry) → Request → LaneState
state_16 memory table request = lane_at Up Up ([]) ([])
    (link_at Initiator link.Established 2 1) (handshake_at Initiator (client_offer 64 8) handshake.Version (Some 1) 1 (Some ver_info) (record { sid = 1; minor = 0; ident_own = 0; ident_peer = 0; peer_slots = 0; peer_count = 0; peer_cookies = replicate 14 no_cookie })) None 0
    (link_at Responder link.Established 1 2) (handshake_at Responder (server_offer 64 8) handshake.Version None 0 None (record { sid = 0; minor = 0; ident_own = 0; ident_peer = 0; peer_slots = 0; peer_count = 0; peer_cookies = replicate 14 no_cookie })) None
    memory table request

abbrev pub state_17 : List ℕ → List (Option Entry) → Request → LaneState
state_17 memory table request = lane_at Up Up ([]) (canonical (carries 2 56 ver_info) ∷ [])
    (link_at Initiator link.Established 3 1) (handshake_at Initiator (client_offer 64 8) handshake.Version (Some 1) 1 None (record { sid = 1; minor = 0; ident_own = 0; ident_peer = 0; peer_slots = 0; peer_count = 0; peer_cookies = replicate 14 no_cookie })) None 0
    (link_at Responder link.Established 1 2) (handshake_at Responder (server_offer 64 8) handshake.Version None 0 None (record { sid = 0; minor = 0; ident_own = 0; ident_peer = 0; peer_slots = 0; peer_count = 0; peer_cookies = replicate 14 no_cookie })) None
    memory table request

abbrev pub state_18 : List ℕ → List (Option Entry) → Request → LaneState
state_18 memory table request = lane_at Up Up ([]) ([])
    (link_at Initiator link.Established 3 1) (handshake_at Initiator (client_offer 64 8) handshake.Version (Some 1) 1 None (record { sid = 1; minor = 0; ident_own = 0; ident_peer = 0; peer_slots = 0; peer_count = 0; peer_cookies = replicate 14 no_cookie })) None 0
    (link_at Responder link.Established 1 3) (handshake_at Responder (server_offer 64 8) handshake.Attributes (Some 1) 0 (Some ver_ack) (record { sid = 1; minor = 1; ident_own = 0; ident_peer = 0; peer_slots = 0; peer_count = 0; peer_cookies = replicate 14 no_cookie })) None
    memory table request

abbrev pub state_19 : List ℕ → List (Option Entry) → Request → LaneState
state_19 memory table request = lane_at Up Up ([]) ([])
    (link_at Initiator link.Established 3 1) (handshake_at Initiator (client_offer 64 8) handshake.Version (Some 1) 1 None (record { sid = 1; minor = 0; ident_own = 0; ident_peer = 0; peer_slots = 0; peer_count = 0; peer_cookies = replicate 14 no_cookie })) None 0
    (link_at Responder link.Established 1 3) (handshake_at Responder (server_offer 64 8) handshake.Attributes (Some 1) 0 (Some ver_ack) (record { sid = 1; minor = 1; ident_own = 0; ident_peer = 0; peer_slots = 0; peer_count = 0; peer_cookies = replicate 14 no_cookie })) None
    memory table request

abbrev pub state_20 : List ℕ → List (Option Entry) → Request → LaneState
state_20 memory table request = lane_at Up Up (canonical (carries 1 56 ver_ack) ∷ []) ([])
    (link_at Initiator link.Established 3 1) (handshake_at Initiator (client_offer 64 8) handshake.Version (Some 1) 1 None (record { sid = 1; minor = 0; ident_own = 0; ident_peer = 0; peer_slots = 0; peer_count = 0; peer_cookies = replicate 14 no_cookie })) None 0
    (link_at Responder link.Established 2 3) (handshake_at Responder (server_offer 64 8) handshake.Attributes (Some 1) 0 None (record { sid = 1; minor = 1; ident_own = 0; ident_peer = 0; peer_slots = 0; peer_count = 0; peer_cookies = replicate 14 no_cookie })) None
    memory table request

abbrev pub state_21 : List ℕ → List (Option Entry) → Request → LaneState
state_21 memory table request = lane_at Up Up ([]) ([])
    (link_at Initiator link.Established 3 2) (handshake_at Initiator (client_offer 64 8) handshake.Attributes (Some 1) 1 (Some attr_info) (record { sid = 1; minor = 1; ident_own = 0; ident_peer = 0; peer_slots = 0; peer_count = 0; peer_cookies = replicate 14 no_cookie })) None 0
    (link_at Responder link.Established 2 3) (handshake_at Responder (server_offer 64 8) handshake.Attributes (Some 1) 0 None (record { sid = 1; minor = 1; ident_own = 0; ident_peer = 0; peer_slots = 0; peer_count = 0; peer_cookies = replicate 14 no_cookie })) None
    memory table request

abbrev pub state_22 : List ℕ → List (Option Entry) → Request → LaneState
state_22 memory table request = lane_at Up Up ([]) ([])
    (link_at Initiator link.Established 3 2) (handshake_at Initiator (client_offer 64 8) handshake.Attributes (Some 1) 1 (Some attr_info) (record { sid = 1; minor = 1; ident_own = 0; ident_peer = 0; peer_slots = 0; peer_count = 0; peer_cookies = replicate 14 no_cookie })) None 0
    (link_at Responder link.Established 2 3) (handshake_at Responder (server_offer 64 8) handshake.Attributes (Some 1) 0 None (record { sid = 1; minor = 1; ident_own = 0; ident_peer = 0; peer_slots = 0; peer_count = 0; peer_cookies = replicate 14 no_cookie })) None
    memory table request

abbrev pub state_23 : List ℕ → List (Option Entry) → Request → LaneState
state_23 memory table request = lane_at Up Up ([]) (canonical (carries 3 56 attr_info) ∷ [])
    (link_at Initiator link.Established 4 2) (handshake_at Initiator (client_offer 64 8) handshake.Attributes (Some 1) 1 None (record { sid = 1; minor = 1; ident_own = 0; ident_peer = 0; peer_slots = 0; peer_count = 0; peer_cookies = replicate 14 no_cookie })) None 0
    (link_at Responder link.Established 2 3) (handshake_at Responder (server_offer 64 8) handshake.Attributes (Some 1) 0 None (record { sid = 1; minor = 1; ident_own = 0; ident_peer = 0; peer_slots = 0; peer_count = 0; peer_cookies = replicate 14 no_cookie })) None
    memory table request

abbrev pub state_24 : List ℕ → List (Option Entry) → Request → LaneState
state_24 memory table request = lane_at Up Up ([]) ([])
    (link_at Initiator link.Established 4 2) (handshake_at Initiator (client_offer 64 8) handshake.Attributes (Some 1) 1 None (record { sid = 1; minor = 1; ident_own = 0; ident_peer = 0; peer_slots = 0; peer_count = 0; peer_cookies = replicate 14 no_cookie })) None 0
    (link_at Responder link.Established 2 4) (handshake_at Responder (server_offer 64 8) handshake.PeerRing (Some 1) 0 (Some attr_ack) (record { sid = 1; minor = 1; ident_own = 0; ident_peer = 0; peer_slots = 0; peer_count = 0; peer_cookies = replicate 14 no_cookie })) None
    memory table request
