-- The shortest settles: of no lanes, and of one lane that rests and is finished, or whose server is stopped.
use Rattle.std.proofs.Common.{◌≡◌, ℕ, ◌+◌, ◌*◌, ◌<◌, Bool, true, false, [], ◌∷◌, refl, arith}
use Rattle.std.specs.Prelude.{◌||◌}
use Rattle.ldc_queue.specs.declared.end.End.TheVariants.{A, B}
use Rattle.lane_models.specs.WireEvent.{Idle}
use Rattle.lane_models.specs.DiskEvent.{DiskEvent, Off, OnWire, Switches}
use Rattle.lane_models.specs.LaneState.{LaneState}
use Rattle.lane_models.specs.LaneStep.{LaneStep}
use Rattle.lane_laws.specs.CalmEnds.{IsStep}
use Rattle.world_laws.specs.Rounds.{MakeRound}
use Rattle.world_laws.specs.Settle.{Settled, Settles, begin}
use Rattle.world_laws.specs.DiskKind.{waits_on}

few : (n : ℕ) → 0 < 4096 + n
few n = omega (arith)

either_false : (b : Bool) → b ≡ false → (b || false) ≡ false
either_false true is = is
either_false false is = refl

pub no_lanes : Settles [] (Settled ∷ []) []
no_lanes = record {
  rounds = [];
  now = begin [];
  run = refl;
  few = few (64 * 0);
  steps = [];
  last = record { made = record { turns_made = refl; many = refl }; quiet = refl; no_tick = refl };
  is = refl;
}

-- one lane's two steps, each of which leaves it as it is
one_lane : (s : LaneState) (client server : DiskEvent) → IsStep A client → IsStep B server → LaneStep s client s → LaneStep s server s → MakeRound (s ∷ []) ((client ∷ server ∷ []) ∷ []) (s ∷ [])
one_lane s client server of_client of_server first second = record {
  turns_made = (
    s ∷ [],
    record {
      of_turn = (of_client, of_server);
      run = (s ∷ [], record { sees = tt; step = ((s, first, refl), tt) }, (s ∷ [], record { sees = tt; step = ((s, second, refl), tt) }, refl));
    },
    refl,
  );
  many = refl;
}

pub at_rest : (s : LaneState) → LaneStep s (OnWire (Idle A)) s → LaneStep s (OnWire (Idle B)) s → waits_on s ≡ false → Settles (s ∷ []) (Settled ∷ []) (s ∷ [])
at_rest s client server rests = record {
  rounds = [];
  now = begin (s ∷ []);
  run = refl;
  few = few _;
  steps = (OnWire (Idle A) ∷ OnWire (Idle B) ∷ []) ∷ [];
  last = record { made = one_lane s (OnWire (Idle A)) (OnWire (Idle B)) refl refl client server; quiet = refl; no_tick = either_false (waits_on s) rests };
  is = refl;
}

pub server_off : (s : LaneState) → LaneStep s (OnWire (Idle A)) s → LaneStep s (Switches Off) s → waits_on s ≡ false → Settles (s ∷ []) (Settled ∷ []) (s ∷ [])
server_off s client server rests = record {
  rounds = [];
  now = begin (s ∷ []);
  run = refl;
  few = few _;
  steps = (OnWire (Idle A) ∷ Switches Off ∷ []) ∷ [];
  last = record { made = one_lane s (OnWire (Idle A)) (Switches Off) refl tt client server; quiet = refl; no_tick = either_false (waits_on s) rests };
  is = refl;
}
