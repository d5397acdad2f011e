use Rattle.vio_handshake.proofs.Agreeing.{all_goes, all_heard, rest_agrees, soon_over}
use Rattle.vio_handshake.proofs.laws.handshakes_agree.Goals as goal

pub returns : goal.returns
returns c = record { heard = all_heard; agreed = rest_agrees; goes_on = all_goes; soon_over = soon_over }
