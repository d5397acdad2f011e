-- Each move of an end leaves it resting on what it heard, and having said what its handshake holds.
use Rattle.std.proofs.Common.{List, [], ◌≤◌, arith}
use Rattle.ldc_link.specs.declared.phase.Role.{Role}
use Rattle.ldc_queue.specs.Transcript.{Utterance}
use Rattle.vio_handshake.specs.declared.session.Offer.{Offer}
use Rattle.lane_models.proofs.EndUttering.{EndSpeaks, fresh_speaks, speaks_step}
use Rattle.lane_models.proofs.HandshakeFitting.{fits_step, fresh_fits}
use Rattle.lane_models.specs.EndCore.{EndCore, EndMove, fresh_end}
use Rattle.lane_models.specs.EndRests.{EndRests, EndUtters}
use Rattle.lane_models.specs.EndStep.{EndStep}
use Rattle.lane_models.specs.HandshakeFits.{HandshakeFits}
use Rattle.lane_models.specs.LaneCore.{utterances_after}

rests_of : (role : Role) (c : EndCore) (turns : List Utterance) → EndSpeaks role c turns → HandshakeFits role c.offer c.handshake → EndRests role c turns
rests_of role c turns speaks fits = grind arith

pub fresh_end_rests : (role : Role) (offer : Offer) → offer.count ≤ 14 → EndRests role (fresh_end role offer) []
fresh_end_rests role offer most = rests_of role (fresh_end role offer) [] (fresh_speaks role offer most) (fresh_fits role offer)

pub rests_move : (role : Role) (c : EndCore) (move : EndMove) (t : EndCore) (turns : List Utterance) → EndRests role c turns → EndStep role c move t → EndRests role t (utterances_after turns move)
rests_move role c move t turns rests step =
    rests_of role t (utterances_after turns move)
    (speaks_step role c move t turns (record { knows = record { stands = rests.stands; rests = rests.rests }; utters = rests.utters }) step)
    (fits_step role c move t turns (record { stands = rests.stands; fits = rests.fits }) step).fits

pub utters_of : (role : Role) (c : EndCore) (turns : List Utterance) → EndRests role c turns → EndUtters c turns
utters_of role c turns rests = grind arith
