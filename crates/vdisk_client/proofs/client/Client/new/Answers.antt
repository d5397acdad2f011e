use Rattle.std.proofs.Common.{sym, subst}
use Rattle.lane_models.specs.ClientState.{ClientState}
use Rattle.disk_requests.proofs.Cookies.{own_form}
use Rattle.vdisk_client.proofs.Standing.{fresh_stands}
use Rattle.vdisk_client.specs.Standing.{Stands}
use Rattle.vdisk_client.proofs.client.Client.new.Goals as goal

pub invariant_of-result : goal.invariant_of-result
invariant_of-result c =
    subst (λ (s : ClientState). Stands s) (sym c.in_ok-end.ensures)
    (fresh_stands c.args.blocks c.args.slots c.requires.few_blocks c.requires.some_slots c.requires.few_slots (own_form c.args.slots c.requires.few_slots))
