use Rattle.vdisk_client.proofs.Standing.{admits_stands}
use Rattle.vdisk_client.specs.Calls.{admitted}
use Rattle.vdisk_client.proofs.client.Client.issue.Goals as goal

pub invariant_of-self : goal.invariant_of-self
invariant_of-self c =
    admits_stands c.self.inside.end c.issue.new.self (admitted c.issue.result c.args.request.now) c.self.invariant c.issue.ensures
