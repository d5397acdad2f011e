-- A message that is said, as the model's step has it.
use Rattle.std.proofs.Common.{◌≡◌, ℕ, List, Option, Some, None, refl, ◌∙◌, ap, subst}
use Rattle.cookie_copy.specs.Reach.{Reach}
use Rattle.ldc_queue.specs.ChannelView.{ChannelView}
use Rattle.map_table.specs.declared.table.Entry.{Entry}
use Rattle.vio_tag.specs.declared.message.Message.{Message}
use Rattle.lane_models.specs.Fetching.{Fetched, NotReady, fetched}
use Rattle.lane_models.specs.NetEndPutting.{answer, answers, holding, holding_own, net_holds}
use Rattle.lane_models.specs.NetEndRule.{Fetches, NetRule, Puts, Says}
use Rattle.lane_models.specs.NetEndState.{Activity, NetEndState, NetSession, with_session}
use Rattle.vnet_port.specs.declared.net_out.NetOut.{NetOut}
use Rattle.vnet_port.proofs.SentSteps.{puts_steps}
use Rattle.vnet_port.specs.Putting.{PutsHeld}
use Rattle.port_frames.specs.Memories.{reach_over}
use Rattle.vnet_port.specs.Stepping.{Steps, StepsAlone, rule_of}

pub rest_steps : (s t : NetEndState) (c d : ChannelView) (memory new : List ℕ) (answer : NetOut) → rule_of s c ≡ Puts
    → PutsHeld s c memory answer t d new → StepsAlone s c memory answer t d new
rest_steps s t c d memory new answer rule puts = λ (table : List (Option Entry)) (peer : List ℕ).
    puts_steps s s t c d memory new table peer answer (ap (λ (r : NetRule). net_holds r s (reach_over c table peer)) rule) refl refl puts

pub owed_steps : (s t : NetEndState) (message : Message) (c d : ChannelView) (memory new : List ℕ) (answer : NetOut) → rule_of s c ≡ Says message
    → PutsHeld (holding message s) c memory answer t d new → StepsAlone s c memory answer t d new
owed_steps s t message c d memory new answer rule puts = λ (table : List (Option Entry)) (peer : List ℕ).
    puts_steps s (holding message s) t c d memory new table peer answer (ap (λ (r : NetRule). net_holds r s (reach_over c table peer)) rule) refl refl puts

-- a message of the session, which notes it
held_own : (s t : NetEndState) (p q : NetSession) (said message : Message) (c d : ChannelView) (memory new : List ℕ) (answer : NetOut) → message ≡ said → q ≡ p
    → PutsHeld (holding message (with_session q s)) c memory answer t d new → PutsHeld (holding_own said p s) c memory answer t d new
held_own s t p q said message c d memory new answer same noted puts =
    subst (λ (m : Message). PutsHeld (holding m (with_session p s)) c memory answer t d new) same
    (subst (λ (r : NetSession). PutsHeld (holding message (with_session r s)) c memory answer t d new) noted puts)

pub own_steps : (s t : NetEndState) (p q : NetSession) (said message : Message) (rule : NetRule) (c d : ChannelView) (memory new : List ℕ) (answer : NetOut)
    → rule_of s c ≡ rule → ((reach : Reach) → net_holds rule s reach ≡ Some (holding_own said p s)) → message ≡ said → q ≡ p
    → PutsHeld (holding message (with_session q s)) c memory answer t d new → StepsAlone s c memory answer t d new
own_steps s t p q said message rule c d memory new answer is holds same noted puts = λ (table : List (Option Entry)) (peer : List ℕ).
    puts_steps s (holding_own said p s) t c d memory new table peer answer
    (ap (λ (r : NetRule). net_holds r s (reach_over c table peer)) is ∙ holds (reach_over c table peer)) refl refl
    (held_own s t p q said message c d memory new answer same noted puts)

-- the answer to an INFO, where the next slot isn't READY and one was taken
answer_held : (s : NetEndState) (p : NetSession) (activity : Activity) (last state : ℕ) (found : Fetched) → activity.last ≡ Some last → found ≡ NotReady state
    → answers s p activity activity.last found ≡ Some (holding_own (answer s activity last) (record p { active = None }) s)
answer_held s p activity last state found is missing =
    ap (λ (o : Option ℕ). answers s p activity o found) is ∙ ap (λ (f : Fetched). answers s p activity (Some last) f) missing

pub answer_steps : (s t : NetEndState) (p q : NetSession) (activity : Activity) (last state : ℕ) (message : Message) (c d : ChannelView) (memory new : List ℕ)
    (answered : NetOut) (table : List (Option Entry)) (peer : List ℕ)
    → rule_of s c ≡ Fetches p activity → activity.last ≡ Some last → fetched s (reach_over c table peer) p.place ≡ NotReady state
    → message ≡ answer s activity last → q ≡ record p { active = None }
    → PutsHeld (holding message (with_session q s)) c memory answered t d new → Steps s c memory table peer answered t d new peer
answer_steps s t p q activity last state message c d memory new answered table peer rule is missing same noted puts =
    puts_steps s (holding_own (answer s activity last) (record p { active = None }) s) t c d memory new table peer answered
    (ap (λ (r : NetRule). net_holds r s (reach_over c table peer)) rule
    ∙ answer_held s p activity last state (fetched s (reach_over c table peer) p.place) is missing) refl refl
    (held_own s t (record p { active = None }) q (answer s activity last) message c d memory new answered same noted puts)
