-- What is known of a client where a rule is its next step.
use Rattle.std.proofs.Common.{◌≡◌, ℕ, ◌-◌, ◌<◌, Bool, true, false, List, Option, Some, None, slice_get, nat_lt, refl, subst, ◌∙◌, arith}
use Rattle.std.specs.Prelude.{if◌then◌else◌, is_some, ⊤}
use Rattle.std.proofs.lemmas.Bool.Decides.{nat_tests}
use Rattle.cookie_copy.specs.Faults.{is_up}
use Rattle.ldc_link.specs.Putting.{owes}
use Rattle.vdisk_msg.specs.declared.request.Request.{Request}
use Rattle.vio_tag.specs.declared.message.Message.{Message}
use Rattle.lane_models.specs.ClientRule.{Announces, ClientRule, Completes, Joins, Publishes, Puts, Idles, Says, Takes, announces, client_rule, completes_first, in_session, is_urgent, publishes, puts_first, puts_or_takes, says, takes_first}
use Rattle.lane_models.specs.ClientState.{ClientSession, ClientState}
use Rattle.lane_models.specs.Seeing.{Seen}

pub record Unannounced (s : ClientState) (session : ClientSession) : Type 0 where
  pub is_open : s.session ≡ Some session
  pub some : session.announced < session.published
  pub nothing : owes s.link ≡ false

abbrev pub Known : ClientState → Seen → ClientRule → Type 0
Known s at Joins = ⊤
Known s at (Completes session) = (s.session ≡ Some session) × (session.completed < session.acked)
Known s at (Takes packet) = (is_urgent s ≡ false) × (at.first ≡ Some packet)
Known s at Puts = owes s.link ≡ true
Known s at (Says message) = (s.handshake.owed ≡ Some message) × (owes s.link ≡ false)
Known s at (Announces session) = Unannounced s session
Known s at (Publishes session request) = (s.session ≡ Some session) × (slice_get s.pending (session.published - session.completed) ≡ Some request)
Known s at Idles = ⊤

module _ (s : ClientState) (at : Seen) where
  if_known : (b : Bool) (x y : ClientRule) → (b ≡ true → Known s at x) → (b ≡ false → Known s at y) → Known s at (if b then x else y)
  if_known true x y first second = first refl
  if_known false x y first second = second refl

  more : (a b : ℕ) → nat_lt a b ≡ true → a < b
  more a b is = grind (arith, nat_tests)

  announces_known : (session : ClientSession) → s.session ≡ Some session → owes s.link ≡ false → Known s at (announces session)
  announces_known session is nothing =
      if_known (nat_lt session.announced session.published) (Announces session) Idles
      (λ some. record { is_open = is; some = more session.announced session.published some; nothing = nothing }) (λ _. tt)

  publishes_known : (session : ClientSession) (next : Option Request) → s.session ≡ Some session → owes s.link ≡ false
      → slice_get s.pending (session.published - session.completed) ≡ next → Known s at (publishes session next)
  publishes_known session None is nothing next = announces_known session is nothing
  publishes_known session (Some request) is nothing next = (is, next)

  session_known : (session : Option ClientSession) → s.session ≡ session → owes s.link ≡ false → Known s at (in_session s session)
  session_known None is nothing = tt
  session_known (Some session) is nothing = publishes_known session (slice_get s.pending (session.published - session.completed)) is nothing refl

  says_known : (owed : Option Message) → s.handshake.owed ≡ owed → owes s.link ≡ false → Known s at (says s owed)
  says_known None is nothing = session_known s.session refl nothing
  says_known (Some message) is nothing = (is, nothing)

  puts_known : Known s at (puts_first s)
  puts_known = if_known (owes s.link) Puts (says s s.handshake.owed) (λ is. is) (λ nothing. says_known s.handshake.owed refl nothing)

  takes_known : (first : Option (List ℕ)) → at.first ≡ first → is_urgent s ≡ false → Known s at (takes_first first (puts_first s))
  takes_known None is calm = puts_known
  takes_known (Some packet) is calm = (calm, is)

  completes_known : (session : Option ClientSession) (otherwise : ClientRule) → s.session ≡ session → Known s at otherwise → Known s at (completes_first session otherwise)
  completes_known None otherwise is known = known
  completes_known (Some session) otherwise is known =
      if_known (nat_lt session.completed session.acked) (Completes session) otherwise (λ some. (is, more session.completed session.acked some)) (λ _. known)

  pub rule_known : Known s at (client_rule s at)
  rule_known =
      if_known (is_up at.state) (completes_first s.session (puts_or_takes s at)) Joins
      (λ _. completes_known s.session (puts_or_takes s at) refl
      (if_known (is_urgent s) (puts_first s) (takes_first at.first (puts_first s)) (λ _. puts_known) (λ calm. takes_known at.first refl calm)))
      (λ _. tt)

-- in session no message of the handshake is owed
says_on : (s : ClientState) (owed : Option Message) → is_some owed ≡ false → says s owed ≡ in_session s s.session
says_on s None none = refl
says_on s (Some message) none = absurd (cc)

-- what is put where the link owes nothing
pub puts_owed : (s : ClientState) → owes s.link ≡ false → puts_first s ≡ says s s.handshake.owed
puts_owed s nothing = rw nothing refl

pub puts_on : (s : ClientState) → owes s.link ≡ false → is_some s.handshake.owed ≡ false → puts_first s ≡ in_session s s.session
puts_on s nothing none = puts_owed s nothing ∙ says_on s s.handshake.owed none

-- what is known of this rule
pub known : (s : ClientState) (at : Seen) (rule : ClientRule) → client_rule s at ≡ rule → Known s at rule
known s at rule is = subst (Known s at) is (rule_known s at)
