use Rattle.domain_script.proofs.Naming.{free_tells}
use Rattle.domain_script.proofs.names.Names.is_free.Goals as goal

pub returns : goal.returns
returns c = free_tells c.args.self.now c.args.name.now c.find.result c.is_none.result c.find.ensures c.is_none.ensures
