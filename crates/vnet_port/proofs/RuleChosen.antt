-- Which rule the step is, by what is to be done in session.
use Rattle.std.proofs.Common.{◌≡◌, Bool, true, false, Option, Some, None, is_some, slice_get, refl, sym, ◌∙◌, ap}
use Rattle.std.specs.Prelude.{if◌then◌else◌}
use Rattle.ldc_link.specs.declared.phase.Role.{Role}
use Rattle.ldc_link.specs.declared.phase.Role.TheVariants.{Initiator, Responder}
use Rattle.lane_models.specs.Seeing.{Seen}
use Rattle.lane_models.specs.NetEndRule.{Announces, Fetches, Idles, NetRule, Replies, Tells, fetches_first, in_session, publishes, replies_first, takes_first}
use Rattle.lane_models.specs.NetEndState.{Activity, GroupsReply, NetEndState, NetSession, unseen_in}
use Rattle.vnet_port.specs.NextAct.{has_unpublished, is_active, is_to_announce, is_to_tell, offers, owes_reply}

none_of : {A : Type 0} → (o : Option A) → is_some o ≡ false → o ≡ None
none_of None none = refl
none_of (Some x) none = absurd (cc none)

module _ (role : Role) (s : NetEndState) (at : Seen) (rule : NetRule) where
  abbrev by_reply : NetSession → Option GroupsReply → NetRule
  by_reply p reply = replies_first p reply (fetches_first p p.active (takes_first at.first (offers role s (Some p))))

  abbrev by_activity : NetSession → Option Activity → NetRule
  by_activity p activity = fetches_first p activity (takes_first at.first (offers role s (Some p)))

  pub replies_in : (o : Option NetSession) (p : NetSession) (reply : GroupsReply) → rule ≡ in_session role s at o → o ≡ Some p → p.reply ≡ Some reply
      → rule ≡ Replies p reply
  replies_in o p reply is opened owed = is ∙ ap (in_session role s at) opened ∙ ap (by_reply p) owed

  pub fetches_in : (o : Option NetSession) (p : NetSession) (activity : Activity) → rule ≡ in_session role s at o → owes_reply o ≡ false → o ≡ Some p
      → p.active ≡ Some activity → rule ≡ Fetches p activity
  fetches_in o p activity is none opened active =
      is ∙ ap (in_session role s at) opened ∙ ap (by_reply p) (none_of p.reply (sym (ap owes_reply opened) ∙ none)) ∙ ap (by_activity p) active

  pub listens_in : (o : Option NetSession) → rule ≡ in_session role s at o → owes_reply o ≡ false → is_active o ≡ false
      → rule ≡ takes_first at.first (offers role s o)
  listens_in None is none rests = is
  listens_in (Some p) is none rests = is ∙ ap (by_reply p) (none_of p.reply none) ∙ ap (by_activity p) (none_of p.active rests)

-- THE END'S OWN
abbrev by_telling : NetEndState → NetSession → Bool → NetRule
by_telling s p tells = if tells then Tells p else publishes p (slice_get s.frames (unseen_in p))

abbrev by_asking : NetSession → Bool → NetRule
by_asking p asks = if asks then Announces p else Idles

tells_by : (role : Role) (s : NetEndState) (p : NetSession) → offers role s (Some p) ≡ by_telling s p (is_to_tell role (Some p))
tells_by Initiator s p = refl
tells_by Responder s p = refl

module _ (role : Role) (s : NetEndState) (rule : NetRule) where
  pub tells_in : (o : Option NetSession) (p : NetSession) → rule ≡ offers role s o → is_to_tell role o ≡ true → o ≡ Some p → rule ≡ Tells p
  tells_in o p is tells opened =
      is ∙ ap (offers role s) opened ∙ tells_by role s p ∙ ap (by_telling s p) (sym (ap (is_to_tell role) opened) ∙ tells)

  pub publishes_in : (o : Option NetSession) (p : NetSession) → rule ≡ offers role s o → is_to_tell role o ≡ false → o ≡ Some p
      → rule ≡ publishes p (slice_get s.frames (unseen_in p))
  publishes_in o p is told opened =
      is ∙ ap (offers role s) opened ∙ tells_by role s p ∙ ap (by_telling s p) (sym (ap (is_to_tell role) opened) ∙ told)

  pub asks_in : (o : Option NetSession) (p : NetSession) → rule ≡ offers role s o → is_to_tell role o ≡ false → has_unpublished s.frames o ≡ false → o ≡ Some p
      → rule ≡ by_asking p (is_to_announce (Some p))
  asks_in o p is told all opened =
      publishes_in o p is told opened ∙ ap (publishes p) (none_of (slice_get s.frames (unseen_in p)) (sym (ap (has_unpublished s.frames) opened) ∙ all))

  pub announces_in : (o : Option NetSession) (p : NetSession) → rule ≡ offers role s o → is_to_tell role o ≡ false → has_unpublished s.frames o ≡ false
      → is_to_announce o ≡ true → o ≡ Some p → rule ≡ Announces p
  announces_in o p is told all asks opened = asks_in o p is told all opened ∙ ap (by_asking p) (sym (ap is_to_announce opened) ∙ asks)

  pub idles_in : (o : Option NetSession) → rule ≡ offers role s o → is_to_tell role o ≡ false → has_unpublished s.frames o ≡ false
      → is_to_announce o ≡ false → rule ≡ Idles
  idles_in None is told all asks = is
  idles_in (Some p) is told all asks = asks_in (Some p) p is told all refl ∙ ap (by_asking p) asks
