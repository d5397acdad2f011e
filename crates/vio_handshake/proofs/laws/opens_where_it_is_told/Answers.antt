use Rattle.vio_handshake.proofs.Opening.{sent_opens, sent_stays, take_opens, take_stays}
use Rattle.vio_handshake.proofs.laws.opens_where_it_is_told.Goals as goal

pub returns : goal.returns
returns c = record { sent_opens = sent_opens; sent_stays = sent_stays; take_opens = take_opens; take_stays = take_stays }
