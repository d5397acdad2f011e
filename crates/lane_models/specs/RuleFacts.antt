-- What is known of an end where a rule is its next step.
use Rattle.std.specs.Prelude.{◌≡◌, ◌<◌, true, false, Option, Some, None, slice_get, ⊤}
use Rattle.cookie_copy.specs.Faults.{is_up}
use Rattle.ldc_link.specs.declared.phase.Role.{Role}
use Rattle.ldc_link.specs.declared.phase.Role.TheVariants.{Initiator}
use Rattle.ldc_link.specs.Putting.{owes}
use Rattle.lane_models.specs.Seeing.{Seen}
use Rattle.lane_models.specs.NetEndRule.{Announces, Fetches, Idles, Joins, NetRule, Publishes, Puts, Replies, Says, Takes, Tells}
use Rattle.lane_models.specs.NetEndState.{NetEndState, NetSession, unseen_in}

-- it is up, its link has nothing to put, and its handshake owes nothing
pub record IsEndFree (s : NetEndState) (at : Seen) : Type 0 where
  pub up : is_up at.state ≡ true
  pub quiet : owes s.link ≡ false
  pub owed : s.handshake.owed ≡ None

pub record IsFreeIn (s : NetEndState) (at : Seen) (p : NetSession) : Type 0 where
  pub free : IsEndFree s at
  pub session : s.session ≡ Some p

-- moreover it owes no answer, the peer's ring isn't active, and no packet waits
pub record HasTime (s : NetEndState) (at : Seen) (p : NetSession) : Type 0 where
  pub in_session : IsFreeIn s at p
  pub reply : p.reply ≡ None
  pub active : p.active ≡ None
  pub first : at.first ≡ None

abbrev pub IfOpen : Option NetSession → (NetSession → Type 0) → Type 0
IfOpen None Holds = ⊤
IfOpen (Some session) Holds = Holds session

abbrev pub MayListen : NetSession → Type 0
MayListen p = (p.reply ≡ None) × (p.active ≡ None)

abbrev pub RuleSays : Role → NetEndState → Seen → NetRule → Type 0
RuleSays role s at Joins = is_up at.state ≡ false
RuleSays role s at Puts = (is_up at.state ≡ true) × (owes s.link ≡ true)
RuleSays role s at (Says message) = (is_up at.state ≡ true) × (owes s.link ≡ false) × (s.handshake.owed ≡ Some message)
RuleSays role s at (Replies p reply) = IsFreeIn s at p × (p.reply ≡ Some reply)
RuleSays role s at (Fetches p activity) = IsFreeIn s at p × (p.active ≡ Some activity) × (p.reply ≡ None)
RuleSays role s at (Takes packet) = IsEndFree s at × (at.first ≡ Some packet) × IfOpen s.session MayListen
RuleSays role s at (Tells p) = HasTime s at p × (role ≡ Initiator) × (p.untold ≡ true) × (p.telling ≡ false)
RuleSays role s at (Publishes p frame) = HasTime s at p × (slice_get s.frames (unseen_in p) ≡ Some frame)
RuleSays role s at (Announces p) = HasTime s at p × (p.seen < p.published) × (p.asking ≡ false)
RuleSays role s at Idles = IsEndFree s at × (at.first ≡ None) × IfOpen s.session MayListen
