use Rattle.map_table.proofs.Getting.{cookies_at-bytes}
use Rattle.map_table.proofs.laws.cookies_read_back.Goals as goal

pub returns : goal.returns
returns c = λ cookies front rest each. cookies_at-bytes cookies front rest each
