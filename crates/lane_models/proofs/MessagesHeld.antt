-- What is left of a message that an end's link holds is of the one that its handshake owes, unless it is of its session.
use Rattle.std.proofs.Common.{◌≡◌, ◌≤◌, ◌++◌, false, List, length, arith}
use Rattle.ldc_link.specs.declared.phase.Role.{Role}
use Rattle.ldc_queue.specs.Transcript.{Utterance}
use Rattle.lane_models.specs.Sayings.{half_said}
use Rattle.lane_models.specs.Cuts.{CarriesOwed}
use Rattle.lane_models.specs.EndCore.{EndCore}
use Rattle.lane_models.specs.Standing.{EndStands}

pub owed_held : (role : Role) (c : EndCore) (turns : List Utterance) → EndStands role c turns → c.own ≡ false → 1 ≤ length c.link.to_send
    → CarriesOwed c.handshake.owed (half_said turns ++ c.link.to_send)
owed_held role c turns stands own some = grind arith
