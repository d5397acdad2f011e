use Rattle.std.proofs.Common.{◌≡◌, false, subst, sym, ◌∙◌}
use Rattle.ldc_link.specs.Putting.{owes}
use Rattle.lane_models.specs.ClientState.{ClientState}
use Rattle.vdisk_client.proofs.Rules.{puts_on, puts_owed}
use Rattle.vdisk_client.proofs.end.ClientEnd.put_first.Goals as goal

pub say_owed-requires-clause-rule : goal.say_owed-requires-clause-rule
say_owed-requires-clause-rule c =
    let nothing : owes c.args.self.now.link ≡ false = subst (λ (s : ClientState). owes s.link ≡ false) c.self.view_is (sym c.owes.ensures ∙ c.if-owes.false) in
    c.requires.rule ∙ puts_owed c.args.self.now nothing

pub go_on-requires-clause-rule : goal.go_on-requires-clause-rule
go_on-requires-clause-rule c =
    let nothing : owes c.args.self.now.link ≡ false = subst (λ (s : ClientState). owes s.link ≡ false) c.self.view_is (sym c.owes.ensures ∙ c.if-owes.false) in
    c.requires.rule ∙ puts_on c.args.self.now nothing (sym c.requires.owed ∙ c.if-owes_message.false)
