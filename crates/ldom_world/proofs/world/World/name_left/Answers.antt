use Rattle.std.proofs.lemmas.Result.{on_err_weaker, on_ok_weaker}
use Rattle.ldom_world.proofs.SettlingAdds.{on_err, ports_names_front, whole_names, whole_names_front}
use Rattle.ldom_world.specs.SettleParts.{marks_of}
use Rattle.ldom_world.proofs.world.World.name_left.Goals as goal

pub returns-in_err-names_of-clause-begun : goal.returns-in_err-names_of-clause-begun
returns-in_err-names_of-clause-begun g c =
    on_err c.from_residual.result
    (whole_names_front c.args.self.now c.args.journal.now.entries c.names_of.new.journal.entries
    (marks_of c.args.quiet.now) c.in_err-names_of.ensures.begun)

pub returns-clause-named : goal.returns-clause-named
returns-clause-named g c =
    on_ok_weaker c.names_of-2.result
    (λ named. whole_names c.args.self.now c.args.journal.now.entries c.names_of.new.journal.entries
    c.names_of-2.new.journal.entries (marks_of c.args.quiet.now) c.in_ok-names_of.ensures.named named)
    c.names_of-2.ensures.named

pub returns-clause-begun : goal.returns-clause-begun
returns-clause-begun g c =
    on_err_weaker c.names_of-2.result
    (λ begun. ports_names_front c.args.self.now c.args.journal.now.entries c.names_of.new.journal.entries
    c.names_of-2.new.journal.entries (marks_of c.args.quiet.now) c.in_ok-names_of.ensures.named begun)
    c.names_of-2.ensures.begun
