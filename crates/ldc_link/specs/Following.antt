-- A link's numbers and its half message are those of what its end said and heard since it joined.
use Rattle.std.specs.Prelude.{◌≡◌, ◌+◌, ◌≤◌, ◌%◌, List, length, ⊤}
use Rattle.ldc_queue.specs.Messages.{unfinished_heard}
use Rattle.ldc_queue.specs.Transcript.{Utterance, numbered_heard, numbered_said}
use Rattle.ldc_link.specs.declared.phase.LinkPhase.{LinkPhase}
use Rattle.ldc_link.specs.declared.phase.LinkPhase.TheVariants as phase
use Rattle.ldc_link.specs.LinkState.{LinkState}

-- a refused version is answered by 1.0 or 0.0
abbrev pub OffersLittle : LinkPhase → Type 0
OffersLittle (phase.OwesVersNack major) = major ≤ 1
OffersLittle _ = ⊤

pub record Follows (k : LinkState) (utterances : List Utterance) : Type 0 where
  pub puts : k.put_next ≡ (length (numbered_said utterances) + 1) % 4294967296
  pub takes : k.take_next ≡ (length (numbered_heard utterances) + 1) % 4294967296
  pub half : k.half_heard ≡ unfinished_heard utterances
  pub offers : OffersLittle k.phase
