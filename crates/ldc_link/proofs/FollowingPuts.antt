-- What a link puts may stand in a channel's log, and the link follows what its end says.
use Rattle.std.proofs.Common.{◌≡◌, ℕ, ◌+◌, ◌<◌, ◌%◌, true, false, List, [], ◌∷◌, length, Some, refl, sym, ap, ◌∙◌, subst, arith}
use Rattle.ldc_packet.specs.declared.packet.Body.TheVariants.{Rdx, Rtr, Rts, Vers}
use Rattle.ldc_packet.specs.declared.packet.Packet.{Packet}
use Rattle.ldc_packet.specs.declared.packet.Subtype.TheVariants.{Ack, Info, Nack}
use Rattle.ldc_packet.specs.Form.{HasWidths, IsWellFormed}
use Rattle.ldc_packet.specs.Spelling.{SpellsPacket, canonical}
use Rattle.ldc_packet.proofs.Canonical.{canonical_spells}
use Rattle.ldc_queue.specs.Numbered.{CountUp, is_numbered, numbered}
use Rattle.ldc_queue.specs.Transcript.{Said, Utterance, numbered_said}
use Rattle.ldc_link.specs.declared.phase.LinkPhase.{LinkPhase}
use Rattle.ldc_link.specs.declared.phase.LinkPhase.TheVariants as phase
use Rattle.ldc_link.specs.Calls.{Puts}
use Rattle.ldc_link.specs.Following.{Follows, OffersLittle}
use Rattle.ldc_link.specs.LinkState.{LinkState, next_number}
use Rattle.ldc_link.specs.Putting.{begun_behind_put, control, first_part, left_behind_put, number_behind_put, owed_in, part_owed, phase_behind_put, with_link}
use Rattle.ldc_link.proofs.Following.{loud, loud_counts, one_more, quiet, quiet_counts}
use Rattle.ldc_link.proofs.Saying.{first_form, same_pair}
use Rattle.ldc_link.proofs.Spelled.{has_number, spelled_numbered}

abbrev behind_in : LinkPhase → LinkState → LinkState
behind_in ph k = record k {
  phase = phase_behind_put ph;
  put_next = number_behind_put ph k.put_next;
  to_send = left_behind_put ph k.to_send;
  begun = begun_behind_put ph k.to_send k.begun;
}

abbrev SaysRightly : LinkState → List Utterance → List ℕ → LinkState → Type 0
SaysRightly k turns bytes m = CountUp (length (numbered_said turns) + 1) (numbered (bytes ∷ [])) × Follows m (Said bytes ∷ turns)

-- a packet without a number is said
says_quietly : (k : LinkState) (turns : List Utterance) (p : Packet) (m : LinkState) → Follows k turns → IsWellFormed p → HasWidths p → has_number p.body ≡ false
    → m.put_next ≡ k.put_next → m.take_next ≡ k.take_next → m.half_heard ≡ k.half_heard → OffersLittle m.phase → SaysRightly k turns (canonical p) m
says_quietly k turns p m follows form fits without puts takes half little =
    let is : is_numbered (canonical p) ≡ false = spelled_numbered (canonical p) p (canonical_spells p form fits) ∙ without in (
      quiet_counts (canonical p) (length (numbered_said turns) + 1) is,
      record {
        puts = puts ∙ follows.puts ∙ ap (λ (xs : List (List ℕ)). (length xs + 1) % 4294967296) (sym (quiet (canonical p) (numbered_said turns) is));
        takes = takes ∙ follows.takes;
        half = half ∙ follows.half;
        offers = little;
      },
    )

-- one with the next number
says_loudly : (k : LinkState) (turns : List Utterance) (p : Packet) (m : LinkState) → Follows k turns → IsWellFormed p → HasWidths p → has_number p.body ≡ true
    → p.seqid ≡ k.put_next → m.put_next ≡ next_number k.put_next → m.take_next ≡ k.take_next → m.half_heard ≡ k.half_heard → OffersLittle m.phase → SaysRightly k turns (canonical p) m
says_loudly k turns p m follows form fits counted next puts takes half little =
    let spells : SpellsPacket (canonical p) p = canonical_spells p form fits in
    let is : is_numbered (canonical p) ≡ true = spelled_numbered (canonical p) p spells ∙ counted in (
      loud_counts (canonical p) (length (numbered_said turns) + 1) is (spells.seqid ∙ next ∙ follows.puts),
      record {
        puts = puts ∙ one_more k.put_next (numbered_said turns) (canonical p) follows.puts
            ∙ ap (λ (xs : List (List ℕ)). (length xs + 1) % 4294967296) (sym (loud (canonical p) (numbered_said turns) is));
        takes = takes ∙ follows.takes;
        half = half ∙ follows.half;
        offers = little;
      },
    )

small : (k : LinkState) (turns : List Utterance) → Follows k turns → k.put_next < 4294967296
small k turns follows = omega (arith, follows.puts)

-- where the packet that is owed is this one, what was put is it
put_is : (k : LinkState) (turns : List Utterance) (one other : Packet × LinkState) (bytes : List ℕ) → SaysRightly k turns (canonical one.0) one.1
    → Some one ≡ Some other → bytes ≡ canonical other.0 → SaysRightly k turns bytes other.1
put_is k turns one other bytes says is spelled =
    subst (λ (xs : List ℕ). SaysRightly k turns xs other.1) (sym spelled)
    (subst (λ (x : Packet × LinkState). SaysRightly k turns (canonical x.0) x.1) (same_pair one other is) says)

puts_part : (k : LinkState) (turns : List Utterance) (message : List ℕ) (p : Packet) (m : LinkState) (bytes : List ℕ) → Follows k turns → k.to_send ≡ message
    → with_link (part_owed k message) (behind_in phase.Established k) ≡ Some (p, m) → bytes ≡ canonical p → SaysRightly k turns bytes m
unfolding has_number
puts_part k turns [] p m bytes follows left is spelled = absurd (cc)
puts_part k turns (byte ∷ message) p m bytes follows left is spelled =
    put_is k turns ((first_part k), (behind_in phase.Established k)) (p, m) bytes
    (says_loudly k turns (first_part k) (behind_in phase.Established k) follows (first_form k (omega (arith, ap length left))) (small k turns follows, tt) refl refl refl refl refl tt)
    is spelled

puts_in : (ph : LinkPhase) (k : LinkState) (turns : List Utterance) (p : Packet) (m : LinkState) (bytes : List ℕ) → Follows k turns → OffersLittle ph
    → with_link (owed_in ph k) (behind_in ph k) ≡ Some (p, m) → bytes ≡ canonical p → SaysRightly k turns bytes m
unfolding has_number
puts_in phase.OwesVersInfo k turns p m bytes follows little is spelled =
    put_is k turns ((control Info 0 (Vers 1 0)), (behind_in phase.OwesVersInfo k)) (p, m) bytes
    (says_quietly k turns (control Info 0 (Vers 1 0)) (behind_in phase.OwesVersInfo k) follows tt (omega arith, (omega arith, omega arith)) refl refl refl refl tt) is spelled
puts_in phase.OwesRts k turns p m bytes follows little is spelled =
    put_is k turns ((control Info 0 (Rts 1)), (behind_in phase.OwesRts k)) (p, m) bytes
    (says_quietly k turns (control Info 0 (Rts 1)) (behind_in phase.OwesRts k) follows tt (omega arith, omega arith) refl refl refl refl tt) is spelled
puts_in phase.OwesRdx k turns p m bytes follows little is spelled =
    put_is k turns ((control Info k.put_next Rdx), (behind_in phase.OwesRdx k)) (p, m) bytes
    (says_loudly k turns (control Info k.put_next Rdx) (behind_in phase.OwesRdx k) follows tt (small k turns follows, tt) refl refl refl refl refl tt) is spelled
puts_in phase.OwesVersAck k turns p m bytes follows little is spelled =
    put_is k turns ((control Ack 0 (Vers 1 0)), (behind_in phase.OwesVersAck k)) (p, m) bytes
    (says_quietly k turns (control Ack 0 (Vers 1 0)) (behind_in phase.OwesVersAck k) follows tt (omega arith, (omega arith, omega arith)) refl refl refl refl tt) is spelled
puts_in (phase.OwesVersNack major) k turns p m bytes follows little is spelled =
    put_is k turns ((control Nack 0 (Vers major 0)), (behind_in (phase.OwesVersNack major) k)) (p, m) bytes
    (says_quietly k turns (control Nack 0 (Vers major 0)) (behind_in (phase.OwesVersNack major) k) follows tt (omega arith, (omega (arith, little), omega arith)) refl refl refl refl tt) is spelled
puts_in phase.OwesRtr k turns p m bytes follows little is spelled =
    put_is k turns ((control Info 0 (Rtr 1)), (behind_in phase.OwesRtr k)) (p, m) bytes
    (says_quietly k turns (control Info 0 (Rtr 1)) (behind_in phase.OwesRtr k) follows tt (omega arith, omega arith) refl refl refl refl tt) is spelled
puts_in phase.Established k turns p m bytes follows little is spelled = puts_part k turns k.to_send p m bytes follows refl is spelled
puts_in _ k turns p m bytes follows little is spelled = absurd (cc)

pub puts_follow : (k : LinkState) (turns : List Utterance) (bytes : List ℕ) (m : LinkState) → Follows k turns → Puts k bytes m
    → CountUp (length (numbered_said turns) + 1) (numbered (bytes ∷ [])) × Follows m (Said bytes ∷ turns)
puts_follow k turns bytes m follows puts = puts_in k.phase k turns puts.packet m bytes follows follows.offers puts.next puts.spelled
