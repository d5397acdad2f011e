use Rattle.world_laws.proofs.WorldWords.{entry_within, entry_words}
use Rattle.world_laws.proofs.word_laws.events_have_their_words.Goals as goal

pub returns : goal.returns
returns c = record { lanes = entry_within; words = entry_words }
