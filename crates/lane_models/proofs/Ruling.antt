-- What the rules rest on.
use Rattle.std.proofs.Common.{◌≡◌, ℕ, Bool, true, false, Option, Some, None, List, refl, sym, subst, arith}
use Rattle.std.specs.Prelude.{◌&&◌, not, nat_lt, slice_get, if◌then◌else◌}
use Rattle.std.proofs.lemmas.Bool.Decides.{nat_tests}
use Rattle.cookie_copy.specs.Faults.{is_up}
use Rattle.ldc_link.specs.declared.phase.Role.{Role}
use Rattle.ldc_link.specs.declared.phase.Role.TheVariants.{Initiator}
use Rattle.ldc_link.specs.Putting.{owes}
use Rattle.vio_tag.specs.declared.message.Message.{Message}
use Rattle.lane_models.specs.Seeing.{Seen}
use Rattle.lane_models.specs.NetEndRule.{Announces, Idles, Joins, NetRule, Puts, Tells, fetches_first, port_rule, publishes, replies_first, says, takes_first, tells_first}
use Rattle.lane_models.specs.NetEndState.{GroupsReply, NetEndState, NetSession, unseen_in}
use Rattle.lane_models.specs.RuleFacts.{HasTime, IfOpen, IsEndFree, IsFreeIn, MayListen, RuleSays}

open_in : (s : NetEndState) (p : NetSession) → s.session ≡ Some p → MayListen p → IfOpen s.session MayListen
open_in s p is may = subst (λ (x : Option NetSession). IfOpen x MayListen) (sym is) may

announces_says : (role : Role) (s : NetEndState) (at : Seen) (p : NetSession) → HasTime s at p → (less asking : Bool) → nat_lt p.seen p.published ≡ less → p.asking ≡ asking
    → RuleSays role s at (if less && not asking then Announces p else Idles)
announces_says role s at p time less asking less_2 asking_2 = grind (arith, nat_tests, open_in)

publishes_says : (role : Role) (s : NetEndState) (at : Seen) (p : NetSession) → HasTime s at p → (frame : Option (List ℕ)) → slice_get s.frames (unseen_in p) ≡ frame
    → RuleSays role s at (publishes p frame)
publishes_says role s at p time None is = announces_says role s at p time (nat_lt p.seen p.published) p.asking refl refl
publishes_says role s at p time (Some frame) is = (time, is)

tells_says : (s : NetEndState) (at : Seen) (p : NetSession) → HasTime s at p → (untold telling : Bool) → p.untold ≡ untold → p.telling ≡ telling
    → RuleSays Initiator s at (if untold && not telling then Tells p else publishes p (slice_get s.frames (unseen_in p)))
tells_says s at p time untold telling untold_2 telling_2 = grind (arith, publishes_says)

listens_says : (role : Role) (s : NetEndState) (at : Seen) (p : NetSession) → IsFreeIn s at p → p.reply ≡ None → p.active ≡ None
    → (first : Option (List ℕ)) → at.first ≡ first
    → RuleSays role s at (takes_first first (tells_first role p (publishes p (slice_get s.frames (unseen_in p)))))
listens_says role s at p free reply active first is = grind (arith, tells_says, publishes_says, open_in)

replies_says : (role : Role) (s : NetEndState) (at : Seen) (p : NetSession) → IsFreeIn s at p → (reply : Option GroupsReply) → p.reply ≡ reply
    → RuleSays role s at (replies_first p reply (fetches_first p p.active (takes_first at.first (tells_first role p (publishes p (slice_get s.frames (unseen_in p)))))))
replies_says role s at p free reply is = grind (arith, listens_says)

first_says : (role : Role) (s : NetEndState) (at : Seen) → IsEndFree s at → s.session ≡ None → (first : Option (List ℕ)) → at.first ≡ first
    → RuleSays role s at (takes_first first Idles)
first_says role s at free closed first is = grind arith

owed_says : (role : Role) (s : NetEndState) (at : Seen) → is_up at.state ≡ true → owes s.link ≡ false → (owed : Option Message) → s.handshake.owed ≡ owed
    → RuleSays role s at (says role s at owed)
owed_says role s at up quiet owed is = grind (arith, first_says, replies_says)

up_says : (role : Role) (s : NetEndState) (at : Seen) → (up : Bool) → is_up at.state ≡ up
    → RuleSays role s at (if up then (if owes s.link then Puts else says role s at s.handshake.owed) else Joins)
up_says role s at up is = grind (arith, owed_says)

-- each rule rests on this
pub rule_says : (role : Role) (s : NetEndState) (at : Seen) → RuleSays role s at (port_rule role s at)
rule_says role s at = up_says role s at (is_up at.state) refl

pub says_of : (role : Role) (s : NetEndState) (at : Seen) (rule : NetRule) → port_rule role s at ≡ rule → RuleSays role s at rule
says_of role s at rule is = subst (RuleSays role s at) is (rule_says role s at)
