-- The message that became whole by a packet.
use Rattle.std.proofs.Common.{◌≡◌, ℕ, Bool, true, false, List, Option, Some, Result, refl, sym, ◌∙◌, ap, subst}
use Rattle.std.specs.Prelude.{◌&&◌, not, if◌then◌else◌}
use Rattle.ldc_link.specs.declared.phase.Role.{Role}
use Rattle.ldc_link.specs.declared.phase.Role.TheVariants.{Initiator, Responder}
use Rattle.ldc_link.specs.LinkState.{LinkState, cleared, is_up}
use Rattle.vio_handshake.specs.State.{handshake_up}
use Rattle.vio_tag.specs.declared.message.Message.{Message}
use Rattle.vio_tag.specs.declared.message.TagFault.{TagFault}
use Rattle.vio_tag.specs.Decoding.{Decodes}
use Rattle.lane_models.specs.NetEndState.{NetEndState}
use Rattle.lane_models.specs.NetEndTaking.{HearsWhole, NetTake, reads}
use Rattle.vnet_port.proofs.Heard.{may_cleared}
use Rattle.vnet_port.specs.Hearing.{MayHear, MayHearWhole, rose}

cond_link : (test : Bool) (s : NetEndState) → (if test then record s { handshake = handshake_up s.handshake } else s).link ≡ s.link
cond_link true s = refl
cond_link false s = refl

rose_link : (role : Role) (was_up : Bool) (s : NetEndState) → (rose role was_up s).link ≡ s.link
rose_link Initiator was_up s = refl
rose_link Responder was_up s = cond_link (is_up s.link && not was_up) s

module _ (role : Role) (was_up : Bool) (s r : NetEndState) (bytes : List ℕ) (k : LinkState) (is : r ≡ rose role was_up s) (whole : r.link.whole ≡ Some bytes) where
  link_is : r.link ≡ s.link
  link_is = ap (λ (x : NetEndState). x.link) is ∙ rose_link role was_up s

  whole_is : s.link.whole ≡ Some bytes
  whole_is = ap (λ (m : LinkState). m.whole) (sym link_is) ∙ whole

  pub may_of : MayHearWhole s.link.whole (rose role was_up s) → MayHear (record r { link = k })
  may_of may =
      let some : MayHear (rose role was_up s) = subst (λ (w : Option (List ℕ)). MayHearWhole w (rose role was_up s)) whole_is may in
      may_cleared r k (subst MayHear (sym is) some)

  pub heard_whole : (decoded : Result Message TagFault) (memory : List ℕ) (take : NetTake) → role ≡ s.link.role → Decodes bytes decoded → k ≡ cleared r.link
      → take ≡ reads k.role (record r { link = k }) memory decoded → HearsWhole role (rose role was_up s) memory s.link.whole take
  heard_whole decoded memory take same decodes cleared_is take_is =
      let k_role : k.role ≡ role = ap (λ (m : LinkState). m.role) (cleared_is ∙ ap cleared link_is) ∙ sym same in
      let told : take ≡ reads role (record (rose role was_up s) { link = cleared (rose role was_up s).link }) memory decoded =
      take_is ∙ ap (λ (x : Role). reads x (record r { link = k }) memory decoded) k_role
      ∙ ap (λ (m : LinkState). reads role (record r { link = m }) memory decoded) cleared_is
      ∙ ap (λ (x : NetEndState). reads role (record x { link = cleared x.link }) memory decoded) is in
      subst (λ (w : Option (List ℕ)). HearsWhole role (rose role was_up s) memory w take) (sym whole_is) (decoded, decodes, told)
