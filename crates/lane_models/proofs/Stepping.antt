-- Steps of the two ends, each kind from what it asks.
use Rattle.std.proofs.Common.{◌≡◌, ◌+◌, Bool, true, false, Option, Some, None, [], max, refl}
use Rattle.std.specs.Prelude.{Ok}
use Rattle.ldc_link.specs.LinkState.{offered}
use Rattle.ldc_link.specs.Putting.{behind_put, link_puts}
use Rattle.ldc_link.specs.Taking.{link_take}
use Rattle.ldc_packet.proofs.Canonical.{canonical_spells}
use Rattle.ldc_packet.specs.declared.packet.Packet.{Packet}
use Rattle.ldc_packet.specs.Form.{HasWidths, IsWellFormed}
use Rattle.ldc_packet.specs.Spelling.{canonical}
use Rattle.ldc_queue.specs.declared.end.End.TheVariants.{A, B}
use Rattle.vdisk_msg.specs.declared.request.Request.{Request}
use Rattle.vio_tag.specs.declared.message.Message.{Message}
use Rattle.vio_tag.specs.Spelling as message_spelling
use Rattle.lane_models.specs.WireEvent.{Idle, Joined, Sent, Took}
use Rattle.lane_models.specs.WireLog.{wire_moved}
use Rattle.lane_models.specs.ClientPutting as client_side
use Rattle.lane_models.specs.ClientRule as client_rules
use Rattle.lane_models.specs.ClientState.{ClientSession, ClientState, joined_client, slot_in}
use Rattle.lane_models.specs.ClientStep.{published_memory}
use Rattle.lane_models.specs.ClientTaking as client_taking
use Rattle.lane_models.specs.DiskEvent.{OnWire, Published, Works}
use Rattle.lane_models.specs.LaneState.{LaneState}
use Rattle.lane_models.specs.LaneStep.{LaneStep}
use Rattle.lane_models.specs.Seeing.{Seen, seen}
use Rattle.lane_models.specs.ServerPutting as server_side
use Rattle.lane_models.specs.ServerRule as server_rules
use Rattle.lane_models.specs.ServerState.{ServerState, joined_server}
use Rattle.lane_models.specs.ServerTaking as server_taking

-- what each end sees
abbrev pub at_client : LaneState → Seen
at_client s = seen A s.shape.entries s.wire.wire

abbrev pub at_server : LaneState → Seen
at_server s = seen B s.shape.entries s.wire.wire

-- an end with a message in its link
abbrev pub holding_client : Message → ClientState → ClientState
holding_client message s = client_side.holding message s

abbrev pub holding_server : Message → ServerState → ServerState
holding_server message s = record s { link = offered (message_spelling.canonical message) s.link }

abbrev pub announcing_in : Option ClientSession → ClientState → ClientState
announcing_in None s = s
announcing_in (Some session) s = client_side.announcing session (client_side.holding (client_side.announcement s session) s)

abbrev pub announcing_client : ClientState → ClientState
announcing_client s = announcing_in s.session s

pub client_joins : (s : LaneState) → client_rules.client_rule s.client (at_client s) ≡ client_rules.Joins
    → LaneStep s (OnWire (Joined A 0)) (record s { wire = wire_moved s.wire (Joined A 0); client = joined_client s.client })
client_joins s rule = record { step = (rule, refl, refl, refl); is = refl }

pub server_joins : (s : LaneState) → s.stopped ≡ false → server_rules.server_rule s.server (at_server s) ≡ server_rules.Joins
    → LaneStep s (OnWire (Joined B 0)) (record s { wire = wire_moved s.wire (Joined B 0); server = joined_server s.server })
server_joins s runs rule = ([], record { step = (runs, (rule, refl, refl, refl, refl)); is = refl })

pub client_rests : (s : LaneState) → client_rules.client_rule s.client (at_client s) ≡ client_rules.Idles → LaneStep s (OnWire (Idle A)) s
client_rests s rule = record { step = (rule, refl, refl); is = refl }

pub server_rests : (s : LaneState) → s.stopped ≡ false → server_rules.server_rule s.server (at_server s) ≡ server_rules.Idles → LaneStep s (OnWire (Idle B)) s
server_rests s runs rule = ([], record { step = (runs, (rule, refl, refl, refl)); is = refl })

pub client_sends : (s : LaneState) (held : ClientState) (packet : Packet)
    → client_side.client_holds (client_rules.client_rule s.client (at_client s)) s.client ≡ Some held
    → (at_client s).room ≡ true → link_puts held.link ≡ Some (packet, behind_put held.link)
    → LaneStep s (OnWire (Sent A (canonical packet) (client_side.client_opens held)))
    (record s {
      wire = wire_moved s.wire (Sent A (canonical packet) (client_side.client_opens held));
      client = client_side.client_put held;
      memory = client_side.memory_put held s.memory;
    })
client_sends s held packet holds room next = record {
  step = record { held = held; holds = holds; room = room; packet = record { packet = packet; next = next; spelled = refl }; opens_is = refl; is = refl; cleared = refl };
  is = refl;
}

pub server_sends : (s : LaneState) (held : ServerState) (packet : Packet)
    → server_side.server_holds (server_rules.server_rule s.server (at_server s)) s.server ≡ Some held
    → (at_server s).room ≡ true → link_puts held.link ≡ Some (packet, behind_put held.link) → s.stopped ≡ false
    → LaneStep s (OnWire (Sent B (canonical packet) (server_side.server_opens held)))
    (record s {
      wire = wire_moved s.wire (Sent B (canonical packet) (server_side.server_opens held));
      server = server_side.server_put held;
    })
server_sends s held packet holds room next runs = (
  [],
  record {
    step = (runs, (record { held = held; holds = holds; room = room; packet = record { packet = packet; next = next; spelled = refl }; opens_is = refl; is = refl }, refl, refl));
    is = refl;
  },
)

pub client_takes : (s : LaneState) (packet : Packet) → IsWellFormed packet → HasWidths packet → (t : ClientState)
    → client_rules.client_rule s.client (at_client s) ≡ client_rules.Takes (canonical packet)
    → client_taking.HearsLink s.client (link_take s.client.link packet) (client_taking.GoesOn t)
    → LaneStep s (OnWire (Took A (canonical packet) false)) (record s { wire = wire_moved s.wire (Took A (canonical packet) false); client = t })
client_takes s packet form widths t rule hears = record {
  step = (
    rule,
    record {
      link = link_take s.client.link packet;
      takes = record { decoded = Ok packet; unpacks = record { packet = (form, canonical_spells packet form widths); fault = tt }; is = refl };
      hears = hears;
    },
    refl,
    refl,
  );
  is = refl;
}

pub server_takes : (s : LaneState) (packet : Packet) → IsWellFormed packet → HasWidths packet → (t : ServerState) (opens : Bool)
    → server_rules.server_rule s.server (at_server s) ≡ server_rules.Takes (canonical packet)
    → server_taking.HearsLink s.server (link_take s.server.link packet) (server_taking.GoesOn t opens) → s.stopped ≡ false
    → LaneStep s (OnWire (Took B (canonical packet) opens)) (record s { wire = wire_moved s.wire (Took B (canonical packet) opens); server = t })
server_takes s packet form widths t opens rule hears runs = (
  [],
  record {
    step = (
      runs,
      (
        rule,
        record {
          link = link_take s.server.link packet;
          takes = record { decoded = Ok packet; unpacks = record { packet = (form, canonical_spells packet form widths); fault = tt }; is = refl };
          hears = hears;
        },
        refl,
        refl,
      ),
    );
    is = refl;
  },
)

pub client_publishes : (s : LaneState) (session : ClientSession) (request : Request)
    → client_rules.client_rule s.client (at_client s) ≡ client_rules.Publishes session request
    → LaneStep s (Works (Published (session.base + session.published)))
    (record s {
      client = record s.client {
        ever_published = max s.client.ever_published (session.base + session.published + 1);
        session = Some (record session { published = session.published + 1 });
      };
      memory = published_memory s.client.slots (slot_in s.client session.published) (session.base + session.published) request s.memory;
    })
client_publishes s session request rule = record {
  step = record { session = session; request = request; rule = rule; id_is = refl; is = refl; written_is = refl };
  is = refl;
}
