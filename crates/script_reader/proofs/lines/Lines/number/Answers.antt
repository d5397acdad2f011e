use Rattle.std.proofs.Common.{subst}
use Rattle.script_reader.specs.LinesState.{HoldsFew}
use Rattle.script_reader.proofs.Readers.{holds_few}
use Rattle.script_reader.proofs.lines.Lines.number.Goals as goal

pub returns-clause-held : goal.returns-clause-held
returns-clause-held c = subst HoldsFew c.self.view_is (holds_few c.self.inside c.self.invariant)
