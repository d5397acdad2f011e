-- The bound on what remains is reached: the first packet of a lane is lost.
use Rattle.std.proofs.Common.{◌≡◌, ℕ, ◌+◌, ◌*◌, ◌≤◌, true, false, List, [], ◌∷◌, length, refl, arith, nat_lt}
use Rattle.std.proofs.lemmas.Bool.Decides.{nat_tests}
use Rattle.runs.specs.Run.{Run}
use Rattle.ldc_link.specs.Putting.{control}
use Rattle.ldc_packet.specs.declared.packet.Body.TheVariants.{Vers}
use Rattle.ldc_packet.specs.declared.packet.Subtype.TheVariants.{Info}
use Rattle.ldc_packet.specs.Spelling.{canonical}
use Rattle.ldc_queue.specs.declared.end.End.TheVariants.{A, B}
use Rattle.lane_models.specs.WireEvent.{Joined, Lost, Sent}
use Rattle.lane_models.specs.WireLog.{wire_moved}
use Rattle.lane_models.specs.ClientPutting.{client_put}
use Rattle.lane_models.specs.ClientState.{joined_client}
use Rattle.lane_models.specs.DiskEvent.{DiskEvent, OnWire}
use Rattle.lane_models.specs.LaneState.{IsShape, LaneState, Shape, fresh}
use Rattle.lane_models.specs.LaneStep.{LaneStep}
use Rattle.lane_laws.specs.Remaining.{remaining}

-- its end is configured, it puts the packet, and the packet is lost
abbrev begun : Shape → LaneState
begun shape = record (fresh shape) { wire = wire_moved (fresh shape).wire (Joined A 0); client = joined_client (fresh shape).client }

abbrev offering : Shape → List ℕ → LaneState
offering shape packet = record (begun shape) { wire = wire_moved (begun shape).wire (Sent A packet false); client = client_put (begun shape).client }

abbrev bereft : Shape → List ℕ → LaneState
bereft shape packet = record (offering shape packet) { wire = wire_moved (offering shape packet).wire (Lost B packet) }

begins : (shape : Shape) → LaneStep (fresh shape) (OnWire (Joined A 0)) (begun shape)
begins shape = record { step = (refl, refl, refl, refl); is = refl }

has_room : (entries : ℕ) → 8 ≤ entries → nat_lt (0 + 1) entries ≡ true
has_room entries some = grind (arith, nat_tests, some)

offers : (shape : Shape) → IsShape shape → LaneStep (begun shape) (OnWire (Sent A (canonical (control Info 0 (Vers 1 0))) false)) (offering shape (canonical (control Info 0 (Vers 1 0))))
offers shape sound = record {
  step = record {
    held = (begun shape).client;
    holds = refl;
    room = has_room shape.entries sound.some_entries;
    packet = record { packet = control Info 0 (Vers 1 0); next = refl; spelled = refl };
    opens_is = refl;
    is = refl;
    cleared = refl;
  };
  is = refl;
}

loses : (shape : Shape) (packet : List ℕ) → LaneStep (offering shape packet) (OnWire (Lost B packet)) (bereft shape packet)
loses shape packet = (refl, refl)

pub most_is_reached : (shape : Shape) → IsShape shape
    → (events : List DiskEvent) × (s : LaneState) × Run LaneStep (fresh shape) events s × (s.wire.forged ≡ false) × (remaining s ≡ 69 + 32 * length s.client.pending)
most_is_reached shape sound =
    let packet : List ℕ = canonical (control Info 0 (Vers 1 0)) in (
      OnWire (Joined A 0) ∷ OnWire (Sent A packet false) ∷ OnWire (Lost B packet) ∷ [],
      bereft shape packet,
      (begun shape, begins shape, (offering shape packet, offers shape sound, (bereft shape packet, loses shape packet, refl))),
      refl,
      omega arith,
    )
