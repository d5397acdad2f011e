use Rattle.std.proofs.Common.{ap, ◌∙◌}
use Rattle.domain_script.specs.declared.event.EndName.{EndName}
use Rattle.domain_script.specs.declared.event.Side.TheVariants.{Client}
use Rattle.kept_requests.specs.Bytes.{BytesState}
use Rattle.ldom_entries.specs.declared.entry.Entry.TheVariants as entry
use Rattle.ldom_entries.specs.declared.entry.Who.TheVariants.{End as OfEnd}
use Rattle.ldom_entries.specs.declared.entry.Why.TheVariants.{Range}
use Rattle.recorded_lanes.specs.Called.{disk_end}
use Rattle.recorded_lanes.proofs.Answering.{not_poked, was_poked}
use Rattle.recorded_lanes.proofs.poking.poke_lane.Goals as goal

pub returns-then-poke-clause-answers : goal.returns-then-poke-clause-answers
returns-then-poke-clause-answers c =
    was_poked c.args.disk c.args.lane.now c.poke.new.self (entry.Poked c.client_of-end.result c.args.at c.args.kept)
    c.args.at c.args.bytes.now c.poke.result c.if-poke.true c.poke.ensures.step
    (ap (λ (e : EndName). entry.Poked e c.args.at c.args.kept) c.client_of-end.ensures
    ∙ ap (λ (b : BytesState). entry.Poked (disk_end c.args.disk Client) c.args.at b) c.requires.kept)

pub returns-else-poke-clause-answers : goal.returns-else-poke-clause-answers
returns-else-poke-clause-answers c =
    not_poked c.args.disk c.args.lane.now c.poke.new.self (entry.Refused (OfEnd c.client_of-end.result) Range)
    c.args.at c.args.bytes.now c.poke.result c.if-poke.false c.poke.ensures.step
    (ap (λ (e : EndName). entry.Refused (OfEnd e) Range) c.client_of-end.ensures)
