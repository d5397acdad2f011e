-- Which rule the step is, and what an end has where it is.
use Rattle.std.proofs.Common.{◌≡◌, ◌≢◌, ℕ, Bool, true, false, List, [], ◌∷◌, Option, None, is_some, refl, ◌∙◌, ap}
use Rattle.std.specs.Prelude.{if◌then◌else◌}
use Rattle.cookie_copy.specs.Faults.{is_up as is_configured}
use Rattle.ldc_link.specs.declared.phase.LinkPhase.{LinkPhase}
use Rattle.ldc_link.specs.declared.phase.LinkPhase.TheVariants as phase
use Rattle.ldc_link.specs.LinkState.{LinkState, is_established, is_up}
use Rattle.ldc_link.specs.Putting.{owed_in, owes, part_owed}
use Rattle.ldc_queue.specs.ChannelView.{ChannelView}
use Rattle.ldc_queue.specs.declared.end.ChannelState.{ChannelState}
use Rattle.ldc_queue.specs.declared.end.ChannelState.TheVariants.{Down, Resetting, Up}
use Rattle.ldc_queue.specs.Wire.{state_of}
use Rattle.vio_tag.specs.declared.message.Message.{Message}
use Rattle.lane_models.specs.NetEndRule.{Joins, Puts, in_session, says}
use Rattle.lane_models.specs.NetEndState.{NetEndState, NetSession}
use Rattle.vnet_port.specs.Calls.{end_of, role_of}
use Rattle.vnet_port.specs.Putting.{CanSay}
use Rattle.vnet_port.specs.Standing.{Stands}
use Rattle.vnet_port.specs.Stepping.{rule_of, sees}

not_up : (state : ChannelState) → state ≢ Up → is_configured state ≡ false
not_up Up other = absurd (other refl)
not_up Down other = refl
not_up Resetting other = refl

module _ (s : NetEndState) (c : ChannelView) where
  pub rule_joins : state_of (end_of s) c.wire ≢ Up → rule_of s c ≡ Joins
  rule_joins other =
      ap (λ (b : Bool). if b then (if owes s.link then Puts else says (role_of s) s (sees s c) s.handshake.owed) else Joins) (not_up (state_of (end_of s) c.wire) other)

  rule_up : state_of (end_of s) c.wire ≡ Up → rule_of s c ≡ (if owes s.link then Puts else says (role_of s) s (sees s c) s.handshake.owed)
  rule_up up =
      ap (λ (state : ChannelState). if is_configured state then (if owes s.link then Puts else says (role_of s) s (sees s c) s.handshake.owed) else Joins) up

  pub rule_puts : state_of (end_of s) c.wire ≡ Up → owes s.link ≡ true → rule_of s c ≡ Puts
  rule_puts up owed = rule_up up ∙ ap (λ (b : Bool). if b then Puts else says (role_of s) s (sees s c) s.handshake.owed) owed

  pub rule_says : (owed : Option Message) → state_of (end_of s) c.wire ≡ Up → owes s.link ≡ false → s.handshake.owed ≡ owed
      → rule_of s c ≡ says (role_of s) s (sees s c) owed
  rule_says owed up nothing is =
      rule_up up ∙ ap (λ (b : Bool). if b then Puts else says (role_of s) s (sees s c) s.handshake.owed) nothing ∙ ap (says (role_of s) s (sees s c)) is

  pub rule_in : (session : Option NetSession) → state_of (end_of s) c.wire ≡ Up → owes s.link ≡ false → s.handshake.owed ≡ None → s.session ≡ session
      → rule_of s c ≡ in_session (role_of s) s (sees s c) session
  rule_in session up nothing none is = rule_says None up nothing none ∙ ap (in_session (role_of s) s (sees s c)) is

-- A LINK that is up and owes no packet has nothing to send
part_none : (k : LinkState) (left : List ℕ) → is_some (part_owed k left) ≡ false → left ≡ []
part_none k [] none = refl
part_none k (byte ∷ left) none = absurd (cc none)

owed_none : (p : LinkPhase) (k : LinkState) → is_established p ≡ true → is_some (owed_in p k) ≡ false → k.to_send ≡ []
owed_none phase.Established k up none = part_none k k.to_send none
owed_none p k up none = absurd (cc up)

up_in : (b : Bool) (s : NetEndState) → is_up s.link ≡ b → Stands s → (s.handshake.owed ≡ None → s.session ≡ None → ⊥) → is_up s.link ≡ true
up_in true s is stands some = is
up_in false s is stands some = let quiet = stands.began.down is in absurd (some quiet.owed quiet.closed)

-- an end that owes a message, or whose session is open, can say one where its link owes no packet
pub can_say : (s : NetEndState) → Stands s → owes s.link ≡ false → (s.handshake.owed ≡ None → s.session ≡ None → ⊥) → CanSay s
can_say s stands nothing some =
    let up : is_up s.link ≡ true = up_in (is_up s.link) s refl stands some in
    record {
      link = up;
      free = owed_none s.link.phase s.link up nothing;
      may = record { same_role = stands.handshake.same_role; ids = stands.frames.ids };
    }
