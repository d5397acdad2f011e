-- What comes of putting the packet that the link owes.
use Rattle.std.specs.Prelude.{◌≡◌, Bool, true, false, Option, Some, None, if◌then◌else◌}
use Rattle.ldc_link.specs.Calls.{Puts as PutsPacket}
use Rattle.ldc_queue.specs.ChannelView.{ChannelView, HasRoom, IsFull}
use Rattle.ldc_queue.specs.declared.end.End.TheVariants.{A}
use Rattle.ldc_link.specs.declared.phase.Role.TheVariants.{Responder}
use Rattle.vio_tag.specs.declared.message.Message.{Message}
use Rattle.vio_handshake.specs.Rules.{handshake_sent}
use Rattle.lane_models.specs.ServerPutting.{answered, server_opens, server_put}
use Rattle.lane_models.specs.ServerState.{ServerState}
use Rattle.vdisk_server.specs.declared.answers.ServerOut.{ServerOut}
use Rattle.vdisk_server.specs.declared.answers.ServerOut.TheVariants as out
use Rattle.vdisk_server.specs.declared.putting.PutOf.{PutOf}
use Rattle.vdisk_server.specs.declared.putting.PutOf.TheVariants as the_put
use Rattle.vdisk_server.specs.Standing.{AnswersLink}

-- by a server whose link holds the message, where there is room
abbrev pub PutsNext : ServerState → ChannelView → ServerOut → ServerState → Type 0
PutsNext held c (out.Sent packet opens) t =
    PutsPacket held.link packet t.link × HasRoom A c × (opens ≡ server_opens held) × (t ≡ server_put held)
PutsNext held c out.Blocked t = IsFull A c × (t ≡ held)
PutsNext held c _ t = ⊥

-- its link and its handshake are a responder's
pub record PutsRightly (s : ServerState) : Type 0 where
  pub phase : AnswersLink s.link.phase
  pub role : s.handshake.role ≡ Responder

-- what the packet is that is put next, of a link that is up or isn't: a message is the handshake's where that owes one
abbrev pub put_of : Bool → Option Message → PutOf
put_of false owed = the_put.Control
put_of true (Some message) = the_put.Handshake
put_of true None = the_put.Own

-- such a packet was put, and more is owed or the message is put whole
abbrev pub noted : PutOf → Bool → ServerState → ServerState
noted the_put.Control more s = s
noted the_put.Handshake more s = if more then s else record s { handshake = handshake_sent s.handshake }
noted the_put.Own more s = if more then s else record s { session = answered s.session }
