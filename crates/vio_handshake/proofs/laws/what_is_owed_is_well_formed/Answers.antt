use Rattle.vio_handshake.proofs.WellFormed.{forgotten_owes, fresh_owes, joined_owes, sent_owes, taken_owes, up_owes}
use Rattle.vio_handshake.proofs.laws.what_is_owed_is_well_formed.Goals as goal

pub returns : goal.returns
returns c = record { begins = fresh_owes; link_up = up_owes; takes = taken_owes; sent = sent_owes; drop_session = joined_owes; forget = forgotten_owes }
