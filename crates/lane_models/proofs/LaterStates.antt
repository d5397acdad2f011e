-- The states of a lane in its first rounds, from the 25th on.
use Rattle.std.proofs.Common.{ℕ, false, Option, Some, None, List, [], ◌∷◌, replicate}
use Rattle.dring.specs.Slots.{free_slots}
use Rattle.ldc_link.specs.declared.phase.LinkPhase.TheVariants as link
use Rattle.ldc_link.specs.declared.phase.Role.TheVariants.{Initiator, Responder}
use Rattle.ldc_packet.specs.Spelling.{canonical}
use Rattle.ldc_queue.specs.declared.end.ChannelState.TheVariants.{Up}
use Rattle.map_table.specs.Cookies.{no_cookie}
use Rattle.map_table.specs.declared.table.Entry.{Entry}
use Rattle.vdisk_msg.specs.declared.request.Request.{Request}
use Rattle.vio_bytes.specs.Place.{put_at}
use Rattle.vio_handshake.specs.declared.handshake.Phase.TheVariants as handshake
use Rattle.lane_models.specs.ClientStep.{published_memory}
use Rattle.lane_models.specs.LaneState.{LaneState}
use Rattle.lane_models.specs.OwnMemory.{filled}
use Rattle.lane_models.specs.Offering.{client_offer, server_offer}
use Rattle.lane_models.specs.FirstRounds.{attr_ack, data_info, rdx_ack, rdx_info, reg_ack, reg_info, carries}
use Rattle.lane_models.proofs.RoundStates.{lane_at, link_at, handshake_at}

abbrev pub state_25 : List ℕ → List (Option Entry) → Request → LaneState
state_25 memory table request = lane_at Up Up ([]) ([])
    (link_at Initiator link.Established 4 2) (handshake_at Initiator (client_offer 64 8) handshake.Attributes (Some 1) 1 None (record { sid = 1; minor = 1; ident_own = 0; ident_peer = 0; peer_slots = 0; peer_count = 0; peer_cookies = replicate 14 no_cookie })) None 0
    (link_at Responder link.Established 2 4) (handshake_at Responder (server_offer 64 8) handshake.PeerRing (Some 1) 0 (Some attr_ack) (record { sid = 1; minor = 1; ident_own = 0; ident_peer = 0; peer_slots = 0; peer_count = 0; peer_cookies = replicate 14 no_cookie })) None
    memory table request

abbrev pub state_26 : List ℕ → List (Option Entry) → Request → LaneState
state_26 memory table request = lane_at Up Up (canonical (carries 2 56 attr_ack) ∷ []) ([])
    (link_at Initiator link.Established 4 2) (handshake_at Initiator (client_offer 64 8) handshake.Attributes (Some 1) 1 None (record { sid = 1; minor = 1; ident_own = 0; ident_peer = 0; peer_slots = 0; peer_count = 0; peer_cookies = replicate 14 no_cookie })) None 0
    (link_at Responder link.Established 3 4) (handshake_at Responder (server_offer 64 8) handshake.PeerRing (Some 1) 0 None (record { sid = 1; minor = 1; ident_own = 0; ident_peer = 0; peer_slots = 0; peer_count = 0; peer_cookies = replicate 14 no_cookie })) None
    memory table request

abbrev pub state_27 : List ℕ → List (Option Entry) → Request → LaneState
state_27 memory table request = lane_at Up Up ([]) ([])
    (link_at Initiator link.Established 4 3) (handshake_at Initiator (client_offer 64 8) handshake.OwnRing (Some 1) 1 (Some reg_info) (record { sid = 1; minor = 1; ident_own = 0; ident_peer = 0; peer_slots = 0; peer_count = 0; peer_cookies = replicate 14 no_cookie })) None 0
    (link_at Responder link.Established 3 4) (handshake_at Responder (server_offer 64 8) handshake.PeerRing (Some 1) 0 None (record { sid = 1; minor = 1; ident_own = 0; ident_peer = 0; peer_slots = 0; peer_count = 0; peer_cookies = replicate 14 no_cookie })) None
    memory table request

abbrev pub state_28 : List ℕ → List (Option Entry) → Request → LaneState
state_28 memory table request = lane_at Up Up ([]) ([])
    (link_at Initiator link.Established 4 3) (handshake_at Initiator (client_offer 64 8) handshake.OwnRing (Some 1) 1 (Some reg_info) (record { sid = 1; minor = 1; ident_own = 0; ident_peer = 0; peer_slots = 0; peer_count = 0; peer_cookies = replicate 14 no_cookie })) None 0
    (link_at Responder link.Established 3 4) (handshake_at Responder (server_offer 64 8) handshake.PeerRing (Some 1) 0 None (record { sid = 1; minor = 1; ident_own = 0; ident_peer = 0; peer_slots = 0; peer_count = 0; peer_cookies = replicate 14 no_cookie })) None
    memory table request

abbrev pub state_29 : List ℕ → List (Option Entry) → Request → LaneState
state_29 memory table request = lane_at Up Up ([]) (canonical (carries 4 48 reg_info) ∷ [])
    (link_at Initiator link.Established 5 3) (handshake_at Initiator (client_offer 64 8) handshake.OwnRing (Some 1) 1 None (record { sid = 1; minor = 1; ident_own = 0; ident_peer = 0; peer_slots = 0; peer_count = 0; peer_cookies = replicate 14 no_cookie })) None 0
    (link_at Responder link.Established 3 4) (handshake_at Responder (server_offer 64 8) handshake.PeerRing (Some 1) 0 None (record { sid = 1; minor = 1; ident_own = 0; ident_peer = 0; peer_slots = 0; peer_count = 0; peer_cookies = replicate 14 no_cookie })) None
    memory table request

abbrev pub state_30 : List ℕ → List (Option Entry) → Request → LaneState
state_30 memory table request = lane_at Up Up ([]) ([])
    (link_at Initiator link.Established 5 3) (handshake_at Initiator (client_offer 64 8) handshake.OwnRing (Some 1) 1 None (record { sid = 1; minor = 1; ident_own = 0; ident_peer = 0; peer_slots = 0; peer_count = 0; peer_cookies = replicate 14 no_cookie })) None 0
    (link_at Responder link.Established 3 5) (handshake_at Responder (server_offer 64 8) handshake.PeerReady (Some 1) 0 (Some reg_ack) (record { sid = 1; minor = 1; ident_own = 0; ident_peer = 1; peer_slots = 8; peer_count = 1; peer_cookies = filled 14 (record { address = 0; size = 1024 } ∷ []) })) None
    memory table request

abbrev pub state_31 : List ℕ → List (Option Entry) → Request → LaneState
state_31 memory table request = lane_at Up Up ([]) ([])
    (link_at Initiator link.Established 5 3) (handshake_at Initiator (client_offer 64 8) handshake.OwnRing (Some 1) 1 None (record { sid = 1; minor = 1; ident_own = 0; ident_peer = 0; peer_slots = 0; peer_count = 0; peer_cookies = replicate 14 no_cookie })) None 0
    (link_at Responder link.Established 3 5) (handshake_at Responder (server_offer 64 8) handshake.PeerReady (Some 1) 0 (Some reg_ack) (record { sid = 1; minor = 1; ident_own = 0; ident_peer = 1; peer_slots = 8; peer_count = 1; peer_cookies = filled 14 (record { address = 0; size = 1024 } ∷ []) })) None
    memory table request

abbrev pub state_32 : List ℕ → List (Option Entry) → Request → LaneState
state_32 memory table request = lane_at Up Up (canonical (carries 3 48 reg_ack) ∷ []) ([])
    (link_at Initiator link.Established 5 3) (handshake_at Initiator (client_offer 64 8) handshake.OwnRing (Some 1) 1 None (record { sid = 1; minor = 1; ident_own = 0; ident_peer = 0; peer_slots = 0; peer_count = 0; peer_cookies = replicate 14 no_cookie })) None 0
    (link_at Responder link.Established 4 5) (handshake_at Responder (server_offer 64 8) handshake.PeerReady (Some 1) 0 None (record { sid = 1; minor = 1; ident_own = 0; ident_peer = 1; peer_slots = 8; peer_count = 1; peer_cookies = filled 14 (record { address = 0; size = 1024 } ∷ []) })) None
    memory table request

abbrev pub state_33 : List ℕ → List (Option Entry) → Request → LaneState
state_33 memory table request = lane_at Up Up ([]) ([])
    (link_at Initiator link.Established 5 4) (handshake_at Initiator (client_offer 64 8) handshake.OwnReady (Some 1) 1 (Some rdx_info) (record { sid = 1; minor = 1; ident_own = 1; ident_peer = 0; peer_slots = 0; peer_count = 0; peer_cookies = replicate 14 no_cookie })) None 0
    (link_at Responder link.Established 4 5) (handshake_at Responder (server_offer 64 8) handshake.PeerReady (Some 1) 0 None (record { sid = 1; minor = 1; ident_own = 0; ident_peer = 1; peer_slots = 8; peer_count = 1; peer_cookies = filled 14 (record { address = 0; size = 1024 } ∷ []) })) None
    memory table request

abbrev pub state_34 : List ℕ → List (Option Entry) → Request → LaneState
state_34 memory table request = lane_at Up Up ([]) ([])
    (link_at Initiator link.Established 5 4) (handshake_at Initiator (client_offer 64 8) handshake.OwnReady (Some 1) 1 (Some rdx_info) (record { sid = 1; minor = 1; ident_own = 1; ident_peer = 0; peer_slots = 0; peer_count = 0; peer_cookies = replicate 14 no_cookie })) None 0
    (link_at Responder link.Established 4 5) (handshake_at Responder (server_offer 64 8) handshake.PeerReady (Some 1) 0 None (record { sid = 1; minor = 1; ident_own = 0; ident_peer = 1; peer_slots = 8; peer_count = 1; peer_cookies = filled 14 (record { address = 0; size = 1024 } ∷ []) })) None
    memory table request

abbrev pub state_35 : List ℕ → List (Option Entry) → Request → LaneState
state_35 memory table request = lane_at Up Up ([]) (canonical (carries 5 56 rdx_info) ∷ [])
    (link_at Initiator link.Established 6 4) (handshake_at Initiator (client_offer 64 8) handshake.OwnReady (Some 1) 1 None (record { sid = 1; minor = 1; ident_own = 1; ident_peer = 0; peer_slots = 0; peer_count = 0; peer_cookies = replicate 14 no_cookie })) None 0
    (link_at Responder link.Established 4 5) (handshake_at Responder (server_offer 64 8) handshake.PeerReady (Some 1) 0 None (record { sid = 1; minor = 1; ident_own = 0; ident_peer = 1; peer_slots = 8; peer_count = 1; peer_cookies = filled 14 (record { address = 0; size = 1024 } ∷ []) })) None
    memory table request

abbrev pub state_36 : List ℕ → List (Option Entry) → Request → LaneState
state_36 memory table request = lane_at Up Up ([]) ([])
    (link_at Initiator link.Established 6 4) (handshake_at Initiator (client_offer 64 8) handshake.OwnReady (Some 1) 1 None (record { sid = 1; minor = 1; ident_own = 1; ident_peer = 0; peer_slots = 0; peer_count = 0; peer_cookies = replicate 14 no_cookie })) None 0
    (link_at Responder link.Established 4 6) (handshake_at Responder (server_offer 64 8) handshake.PeerReadyTaken (Some 1) 0 (Some rdx_ack) (record { sid = 1; minor = 1; ident_own = 0; ident_peer = 1; peer_slots = 8; peer_count = 1; peer_cookies = filled 14 (record { address = 0; size = 1024 } ∷ []) })) None
    memory table request

abbrev pub state_37 : List ℕ → List (Option Entry) → Request → LaneState
state_37 memory table request = lane_at Up Up ([]) ([])
    (link_at Initiator link.Established 6 4) (handshake_at Initiator (client_offer 64 8) handshake.OwnReady (Some 1) 1 None (record { sid = 1; minor = 1; ident_own = 1; ident_peer = 0; peer_slots = 0; peer_count = 0; peer_cookies = replicate 14 no_cookie })) None 0
    (link_at Responder link.Established 4 6) (handshake_at Responder (server_offer 64 8) handshake.PeerReadyTaken (Some 1) 0 (Some rdx_ack) (record { sid = 1; minor = 1; ident_own = 0; ident_peer = 1; peer_slots = 8; peer_count = 1; peer_cookies = filled 14 (record { address = 0; size = 1024 } ∷ []) })) None
    memory table request

abbrev pub state_38 : List ℕ → List (Option Entry) → Request → LaneState
state_38 memory table request = lane_at Up Up (canonical (carries 4 56 rdx_ack) ∷ []) ([])
    (link_at Initiator link.Established 6 4) (handshake_at Initiator (client_offer 64 8) handshake.OwnReady (Some 1) 1 None (record { sid = 1; minor = 1; ident_own = 1; ident_peer = 0; peer_slots = 0; peer_count = 0; peer_cookies = replicate 14 no_cookie })) None 0
    (link_at Responder link.Established 5 6) (handshake_at Responder (server_offer 64 8) handshake.OwnReady (Some 1) 0 (Some rdx_info) (record { sid = 1; minor = 1; ident_own = 0; ident_peer = 1; peer_slots = 8; peer_count = 1; peer_cookies = filled 14 (record { address = 0; size = 1024 } ∷ []) })) None
    memory table request

abbrev pub state_39 : List ℕ → List (Option Entry) → Request → LaneState
state_39 memory table request = lane_at Up Up ([]) ([])
    (link_at Initiator link.Established 6 5) (handshake_at Initiator (client_offer 64 8) handshake.PeerReady (Some 1) 1 None (record { sid = 1; minor = 1; ident_own = 1; ident_peer = 0; peer_slots = 0; peer_count = 0; peer_cookies = replicate 14 no_cookie })) None 0
    (link_at Responder link.Established 5 6) (handshake_at Responder (server_offer 64 8) handshake.OwnReady (Some 1) 0 (Some rdx_info) (record { sid = 1; minor = 1; ident_own = 0; ident_peer = 1; peer_slots = 8; peer_count = 1; peer_cookies = filled 14 (record { address = 0; size = 1024 } ∷ []) })) None
    memory table request

abbrev pub state_40 : List ℕ → List (Option Entry) → Request → LaneState
state_40 memory table request = lane_at Up Up (canonical (carries 5 56 rdx_info) ∷ []) ([])
    (link_at Initiator link.Established 6 5) (handshake_at Initiator (client_offer 64 8) handshake.PeerReady (Some 1) 1 None (record { sid = 1; minor = 1; ident_own = 1; ident_peer = 0; peer_slots = 0; peer_count = 0; peer_cookies = replicate 14 no_cookie })) None 0
    (link_at Responder link.Established 6 6) (handshake_at Responder (server_offer 64 8) handshake.OwnReady (Some 1) 0 None (record { sid = 1; minor = 1; ident_own = 0; ident_peer = 1; peer_slots = 8; peer_count = 1; peer_cookies = filled 14 (record { address = 0; size = 1024 } ∷ []) })) None
    memory table request

abbrev pub state_41 : List ℕ → List (Option Entry) → Request → LaneState
state_41 memory table request = lane_at Up Up ([]) ([])
    (link_at Initiator link.Established 6 6) (handshake_at Initiator (client_offer 64 8) handshake.PeerReadyTaken (Some 1) 1 (Some rdx_ack) (record { sid = 1; minor = 1; ident_own = 1; ident_peer = 0; peer_slots = 0; peer_count = 0; peer_cookies = replicate 14 no_cookie })) None 0
    (link_at Responder link.Established 6 6) (handshake_at Responder (server_offer 64 8) handshake.OwnReady (Some 1) 0 None (record { sid = 1; minor = 1; ident_own = 0; ident_peer = 1; peer_slots = 8; peer_count = 1; peer_cookies = filled 14 (record { address = 0; size = 1024 } ∷ []) })) None
    memory table request

abbrev pub state_42 : List ℕ → List (Option Entry) → Request → LaneState
state_42 memory table request = lane_at Up Up ([]) ([])
    (link_at Initiator link.Established 6 6) (handshake_at Initiator (client_offer 64 8) handshake.PeerReadyTaken (Some 1) 1 (Some rdx_ack) (record { sid = 1; minor = 1; ident_own = 1; ident_peer = 0; peer_slots = 0; peer_count = 0; peer_cookies = replicate 14 no_cookie })) None 0
    (link_at Responder link.Established 6 6) (handshake_at Responder (server_offer 64 8) handshake.OwnReady (Some 1) 0 None (record { sid = 1; minor = 1; ident_own = 0; ident_peer = 1; peer_slots = 8; peer_count = 1; peer_cookies = filled 14 (record { address = 0; size = 1024 } ∷ []) })) None
    memory table request

abbrev pub state_43 : List ℕ → List (Option Entry) → Request → LaneState
state_43 memory table request = lane_at Up Up ([]) (canonical (carries 6 56 rdx_ack) ∷ [])
    (link_at Initiator link.Established 7 6) (handshake_at Initiator (client_offer 64 8) handshake.Open (Some 1) 1 None (record { sid = 1; minor = 1; ident_own = 1; ident_peer = 0; peer_slots = 0; peer_count = 0; peer_cookies = replicate 14 no_cookie })) (Some (record { base = 0; published = 0; announced = 0; acked = 0; completed = 0; infos = 0; announcing = false })) 0
    (link_at Responder link.Established 6 6) (handshake_at Responder (server_offer 64 8) handshake.OwnReady (Some 1) 0 None (record { sid = 1; minor = 1; ident_own = 0; ident_peer = 1; peer_slots = 8; peer_count = 1; peer_cookies = filled 14 (record { address = 0; size = 1024 } ∷ []) })) None
    (put_at 0 (free_slots 128 8) memory) table request

abbrev pub state_44 : List ℕ → List (Option Entry) → Request → LaneState
state_44 memory table request = lane_at Up Up ([]) ([])
    (link_at Initiator link.Established 7 6) (handshake_at Initiator (client_offer 64 8) handshake.Open (Some 1) 1 None (record { sid = 1; minor = 1; ident_own = 1; ident_peer = 0; peer_slots = 0; peer_count = 0; peer_cookies = replicate 14 no_cookie })) (Some (record { base = 0; published = 0; announced = 0; acked = 0; completed = 0; infos = 0; announcing = false })) 0
    (link_at Responder link.Established 6 7) (handshake_at Responder (server_offer 64 8) handshake.Open (Some 1) 0 None (record { sid = 1; minor = 1; ident_own = 0; ident_peer = 1; peer_slots = 8; peer_count = 1; peer_cookies = filled 14 (record { address = 0; size = 1024 } ∷ []) })) (Some (record { asked = 0; descs = 0; finished = 0; answered = 0; seq = 1; range = None }))
    (put_at 0 (free_slots 128 8) memory) table request

abbrev pub state_45 : List ℕ → List (Option Entry) → Request → LaneState
state_45 memory table request = lane_at Up Up ([]) ([])
    (link_at Initiator link.Established 7 6) (handshake_at Initiator (client_offer 64 8) handshake.Open (Some 1) 1 None (record { sid = 1; minor = 1; ident_own = 1; ident_peer = 0; peer_slots = 0; peer_count = 0; peer_cookies = replicate 14 no_cookie })) (Some (record { base = 0; published = 1; announced = 0; acked = 0; completed = 0; infos = 0; announcing = false })) 1
    (link_at Responder link.Established 6 7) (handshake_at Responder (server_offer 64 8) handshake.Open (Some 1) 0 None (record { sid = 1; minor = 1; ident_own = 0; ident_peer = 1; peer_slots = 8; peer_count = 1; peer_cookies = filled 14 (record { address = 0; size = 1024 } ∷ []) })) (Some (record { asked = 0; descs = 0; finished = 0; answered = 0; seq = 1; range = None }))
    (published_memory 8 0 0 request (put_at 0 (free_slots 128 8) memory)) table request

abbrev pub state_46 : List ℕ → List (Option Entry) → Request → LaneState
state_46 memory table request = lane_at Up Up ([]) ([])
    (link_at Initiator link.Established 7 6) (handshake_at Initiator (client_offer 64 8) handshake.Open (Some 1) 1 None (record { sid = 1; minor = 1; ident_own = 1; ident_peer = 0; peer_slots = 0; peer_count = 0; peer_cookies = replicate 14 no_cookie })) (Some (record { base = 0; published = 1; announced = 0; acked = 0; completed = 0; infos = 0; announcing = false })) 1
    (link_at Responder link.Established 6 7) (handshake_at Responder (server_offer 64 8) handshake.Open (Some 1) 0 None (record { sid = 1; minor = 1; ident_own = 0; ident_peer = 1; peer_slots = 8; peer_count = 1; peer_cookies = filled 14 (record { address = 0; size = 1024 } ∷ []) })) (Some (record { asked = 0; descs = 0; finished = 0; answered = 0; seq = 1; range = None }))
    (published_memory 8 0 0 request (put_at 0 (free_slots 128 8) memory)) table request

abbrev pub state_47 : List ℕ → List (Option Entry) → Request → LaneState
state_47 memory table request = lane_at Up Up ([]) (canonical (carries 7 56 data_info) ∷ [])
    (link_at Initiator link.Established 8 6) (handshake_at Initiator (client_offer 64 8) handshake.Open (Some 1) 1 None (record { sid = 1; minor = 1; ident_own = 1; ident_peer = 0; peer_slots = 0; peer_count = 0; peer_cookies = replicate 14 no_cookie })) (Some (record { base = 0; published = 1; announced = 1; acked = 0; completed = 0; infos = 1; announcing = false })) 1
    (link_at Responder link.Established 6 7) (handshake_at Responder (server_offer 64 8) handshake.Open (Some 1) 0 None (record { sid = 1; minor = 1; ident_own = 0; ident_peer = 1; peer_slots = 8; peer_count = 1; peer_cookies = filled 14 (record { address = 0; size = 1024 } ∷ []) })) (Some (record { asked = 0; descs = 0; finished = 0; answered = 0; seq = 1; range = None }))
    (published_memory 8 0 0 request (put_at 0 (free_slots 128 8) memory)) table request

abbrev pub state_48 : List ℕ → List (Option Entry) → Request → LaneState
state_48 memory table request = lane_at Up Up ([]) ([])
    (link_at Initiator link.Established 8 6) (handshake_at Initiator (client_offer 64 8) handshake.Open (Some 1) 1 None (record { sid = 1; minor = 1; ident_own = 1; ident_peer = 0; peer_slots = 0; peer_count = 0; peer_cookies = replicate 14 no_cookie })) (Some (record { base = 0; published = 1; announced = 1; acked = 0; completed = 0; infos = 1; announcing = false })) 1
    (link_at Responder link.Established 6 8) (handshake_at Responder (server_offer 64 8) handshake.Open (Some 1) 0 None (record { sid = 1; minor = 1; ident_own = 0; ident_peer = 1; peer_slots = 8; peer_count = 1; peer_cookies = filled 14 (record { address = 0; size = 1024 } ∷ []) })) (Some (record { asked = 1; descs = 0; finished = 0; answered = 0; seq = 2; range = (Some (record { seq = 1; start = 0; end = 0; state = 1 })) }))
    (published_memory 8 0 0 request (put_at 0 (free_slots 128 8) memory)) table request
