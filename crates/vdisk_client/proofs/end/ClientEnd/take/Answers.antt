use Rattle.std.proofs.Common.{◌≡◌, sym, subst}
use Rattle.lane_models.specs.ClientState.{ClientState}
use Rattle.lane_models.specs.ClientRule.{puts_first, takes_first}
use Rattle.vdisk_client.proofs.HeardFails.{hear_fails, whole_begun}
use Rattle.vdisk_client.specs.Calls.{Steps, rule_of, sees}
use Rattle.vdisk_client.specs.Standing.{TranscriptStands}
use Rattle.vdisk_client.specs.contracts.end.ClientEnd.{the_view}
use Rattle.vdisk_client.proofs.end.ClientEnd.take.Goals as goal

pub hear-requires-clause-begun : goal.hear-requires-clause-begun
hear-requires-clause-begun c =
    whole_begun (the_view c.self.inside) c.take.new.self c.in-Took.packet (subst TranscriptStands (sym c.self.view_is) c.requires.stands.transcript) c.in-Took.ensures.1

pub returns-in-Err : goal.returns-in-Err
returns-in-Err c = record {
  step = λ memory.
      subst (λ (s : ClientState). Steps s c.args.channel.now memory c.fail.new.out c.fail.new.self c.fail.new.channel memory) c.self.view_is
      (hear_fails (the_view c.self.inside) c.fail.new.self c.hear.new.self c.take.new.self c.args.channel.now c.take.new.channel c.fail.new.channel memory c.in-Took.packet c.in-Err.cause c.fail.new.out
      (subst TranscriptStands (sym c.self.view_is) c.requires.stands.transcript)
      (subst (λ (s : ClientState). rule_of s c.args.channel.now ≡ takes_first (sees c.args.channel.now).first (puts_first s)) (sym c.self.view_is) c.requires.rule)
      c.requires.up c.in-Took.ensures.0 c.in-Took.ensures.1 c.in-Err.ensures.hears c.in-Err.ensures.refused c.fail.ensures.answer c.fail.ensures.state c.fail.ensures.channel);
}
