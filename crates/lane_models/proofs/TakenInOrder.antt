-- A packet with a number that waits first, where nobody forged: the link takes it where it is the next, and else its cause is a gap.
use Rattle.std.proofs.Common.{◌≡◌, ℕ, ◌+◌, ◌<◌, ◌%◌, Bool, true, false, List, [], ◌∷◌, ◌++◌, length, refl, sym, ap, ◌∙◌, subst, arith}
use Rattle.std.specs.Prelude.{◌&&◌, if◌then◌else◌, nat_eq, nat_le}
use Rattle.std.proofs.lemmas.Bool.{eq-eqb, eqb-true, le-leb}
use Rattle.ldc_packet.specs.declared.packet.Body.{Body}
use Rattle.ldc_packet.specs.declared.packet.Body.TheVariants.{Part, Rdx}
use Rattle.ldc_packet.specs.declared.packet.Subtype.{Subtype}
use Rattle.ldc_packet.specs.declared.packet.Subtype.TheVariants.{Info}
use Rattle.ldc_packet.specs.Spelling.{seqid_at}
use Rattle.ldc_link.proofs.Spelled.{has_part, spelled_fragment, spelled_part}
use Rattle.ldc_link.specs.declared.phase.LinkPhase.{LinkPhase}
use Rattle.ldc_link.specs.declared.phase.LinkPhase.TheVariants as phase
use Rattle.ldc_link.specs.Conversing.{IsData, fragment_of}
use Rattle.ldc_link.specs.Following.{Follows}
use Rattle.ldc_link.specs.LinkState.{LinkState, is_established, is_up}
use Rattle.ldc_link.specs.Putting.{control}
use Rattle.ldc_link.specs.Taking.{Heard, LinkTake, TakesBytes, Unheard, begins_rightly, count, counted, goes_to, in_turn, may_come, phase_behind_rdx, takes_body, takes_part, with_part}
use Rattle.ldc_queue.proofs.Messages.{fragments_in-append}
use Rattle.ldc_queue.specs.Fragments.{Fragment, fragment_at, fragments_in, is_part}
use Rattle.ldc_queue.specs.Messages.{AllMayCome, MayCome, half_in, half_with, is_empty}
use Rattle.ldc_queue.specs.Numbered.{is_numbered, numbered}
use Rattle.ldc_queue.specs.OneStream.{OneWay}
use Rattle.ldc_queue.specs.QueueLog.{WaitsLongest}
use Rattle.ldc_queue.specs.Transcript.{Utterance, numbered_heard}
use Rattle.vio_tag.specs.declared.cause.Cause.{Cause}
use Rattle.vio_tag.specs.declared.cause.Cause.TheVariants as the_cause
use Rattle.lane_models.proofs.Apart.{true_is_false}
use Rattle.lane_models.specs.Resetting.{IsGapBehindLoss}
use Rattle.lane_models.specs.LinkPlaces.{IsPartOf, IsReady, ReadyFirst}
use Rattle.lane_models.proofs.LinkPlaced.{takes_packet}
use Rattle.lane_models.proofs.NextPacket.{IsNext, is_next, part_spells, ready_spells, whole_number}

-- THE PART MAY COME where it is the next
may_at : (half : List ℕ) (xs : List Fragment) (f : Fragment) (ys : List Fragment) → AllMayCome half ((xs ++ f ∷ []) ++ ys) → MayCome (half_in half xs) f
may_at half [] f ys all = all.0
may_at half (x ∷ xs) f ys all = may_at (half_with x.stop (half ++ x.bytes)) xs f ys all.1

data_part : (b : Body) → IsData b → has_part b ≡ true
unfolding has_part
data_part (Part start stop len bytes) carries = refl
data_part _ carries = absurd carries

pub part_is : (packet : List ℕ) (part : IsPartOf packet) → is_part packet ≡ true
part_is packet part = spelled_part packet part.packet (part_spells packet part) ∙ data_part part.packet.body part.carries

next_may : (said heard : List (List ℕ)) (packet : List ℕ) → AllMayCome [] (fragments_in said) → is_part packet ≡ true → IsNext said heard packet
    → MayCome (half_in [] (fragments_in heard)) (fragment_at packet)
next_may said heard packet all part next = grind (arith, fragments_in-append, may_at)

-- A LINK THAT IS UP takes a part that may come
begins_so : (start : Bool) (half : List ℕ) → start ≡ is_empty half → begins_rightly start half ≡ true
begins_so true [] is = refl
begins_so true (byte ∷ half) is = absurd (cc is)
begins_so false [] is = absurd (cc is)
begins_so false (byte ∷ half) is = refl

may_so : (half : List ℕ) (part : Fragment) → MayCome half part → may_come half part ≡ true
may_so half part may =
    ap (λ (b : Bool). b && nat_le (length half + length part.bytes) 256) (begins_so part.start half may.0) ∙ le-leb (length half + length part.bytes) 256 may.1

part_taken : (k : LinkState) (part : Fragment) (up come : Bool) (one other : Cause) → up ≡ true → come ≡ true
    → (if up then (if come then Heard (with_part k part) else Unheard one) else Unheard other) ≡ Heard (with_part k part)
part_taken k part true true one other is may = refl
part_taken k part true false one other is may = absurd (cc may)
part_taken k part false come one other is may = absurd (cc is)

takes_may : (k : LinkState) (part : Fragment) → k.phase ≡ phase.Established → MayCome k.half_heard part → takes_part k part ≡ Heard (with_part k part)
takes_may k part at may = part_taken k part (is_up k) (may_come k.half_heard part) the_cause.Fragment the_cause.Unexpected (ap is_established at) (may_so k.half_heard part may)

-- WHAT A LINK MAKES of a packet with a number: a gap, or what comes after it, which it takes where the packet is the next
pub record InOrder (k : LinkState) (said heard : List (List ℕ)) (packet : List ℕ) : Type 0 where
  pub number : ℕ
  pub behind : LinkTake
  pub seqid : seqid_at packet ≡ number
  pub is : (answer : LinkTake) → TakesBytes k packet answer → answer ≡ in_turn k number behind
  pub takes : IsNext said heard packet → (m : LinkState) × (behind ≡ Heard m)

data_turned : (k : LinkState) (s : Subtype) (n : ℕ) (b : Body) → IsData b → takes_body k s n b ≡ in_turn k n (takes_part k (fragment_of b))
data_turned k s n (Part start stop len bytes) carries = refl
data_turned k s n _ carries = absurd carries

part_answer : (k : LinkState) (packet : List ℕ) (part : IsPartOf packet) (answer : LinkTake) → TakesBytes k packet answer
    → answer ≡ in_turn k part.packet.seqid (takes_part k (fragment_of part.packet.body))
part_answer k packet part answer takes =
    takes_packet k answer part.packet packet part.formed part.widths part.is takes ∙ data_turned k part.packet.subtype part.packet.seqid part.packet.body part.carries

pub part_turned : (k : LinkState) (turns : List Utterance) (said : List (List ℕ)) (packet : List ℕ) → k.phase ≡ phase.Established → Follows k turns → AllMayCome [] (fragments_in said) → IsPartOf packet
    → InOrder k said (numbered_heard turns) packet
part_turned k turns said packet at follows all part =
    let carried : Fragment = fragment_of part.packet.body in
    let fragment : fragment_at packet ≡ carried = spelled_fragment packet part.packet part.carries part.formed (part_spells packet part) in
    record {
      number = part.packet.seqid;
      behind = takes_part k carried;
      seqid = (part_spells packet part).seqid;
      is = part_answer k packet part;
      takes = λ next. (
        with_part k carried,
        takes_may k carried at
            (subst (MayCome k.half_heard) fragment (subst (λ (half : List ℕ). MayCome half (fragment_at packet)) (sym follows.half)
            (next_may said (numbered_heard turns) packet all (part_is packet part) next))),
      );
    }

-- where RDX is awaited no part is the next
ready_only : (packet : List ℕ) → IsReady packet → IsPartOf packet → ⊥
unfolding has_part
ready_only packet ready part =
    true_is_false (sym (part_is packet part) ∙ spelled_part packet (control Info ready.number Rdx) (ready_spells packet ready))

pub part_early : (k : LinkState) (said heard : List (List ℕ)) (packet : List ℕ) → heard ≡ [] → ReadyFirst said → IsPartOf packet → InOrder k said heard packet
part_early k said heard packet none ready part = record {
  number = part.packet.seqid;
  behind = takes_part k (fragment_of part.packet.body);
  seqid = (part_spells packet part).seqid;
  is = part_answer k packet part;
  takes = λ next.
      let first : said ≡ packet ∷ next.rest = next.is ∙ ap (λ (xs : List (List ℕ)). (xs ++ packet ∷ []) ++ next.rest) none in
      absurd (ready_only packet (subst ReadyFirst first ready).0 part);
}

pub ready_turned : (k : LinkState) (said heard : List (List ℕ)) (packet : List ℕ) → k.phase ≡ phase.AwaitsRdx → IsReady packet → InOrder k said heard packet
ready_turned k said heard packet at ready = record {
  number = ready.number;
  behind = goes_to k (phase_behind_rdx k.phase Info);
  seqid = (ready_spells packet ready).seqid;
  is = λ answer takes. takes_packet k answer (control Info ready.number Rdx) packet tt (ready.small, tt) ready.is takes;
  takes = λ next. (record k { phase = phase.Established }, ap (λ (ph : LinkPhase). goes_to k (phase_behind_rdx ph Info)) at);
}

-- ITS CAUSE
gap_is : (b : Bool) (answer : LinkTake) (next number : ℕ) (cause : Cause) → b ≡ false → Unheard cause ≡ (if b then count answer else Unheard (the_cause.Gap next number)) → cause ≡ the_cause.Gap next number
gap_is true answer next number cause early is = absurd (cc early)
gap_is false answer next number cause early is = cc is

heard_is : (b : Bool) (m : LinkState) (next number : ℕ) (cause : Cause) → b ≡ true → Unheard cause ≡ (if b then count (Heard m) else Unheard (the_cause.Gap next number)) → ⊥
heard_is true m next number cause yes_one is = let never : Unheard cause ≡ Heard (counted m) = is in cc never
heard_is false m next number cause yes_one is = cc yes_one

pub turned_own : (lossy : Bool) (k : LinkState) (turns : List Utterance) (said waiting : List (List ℕ)) (packet : List ℕ) (lost : ℕ) (cause : Cause) → Follows k turns → WaitsLongest packet waiting
    → OneWay said (numbered_heard turns) (numbered waiting) lost → lost < 4294967296 → (lossy ≡ false → lost ≡ 0) → is_numbered packet ≡ true
    → InOrder k said (numbered_heard turns) packet → TakesBytes k packet (Unheard cause) → IsGapBehindLoss lossy cause
turned_own lossy k turns said waiting packet lost cause follows first way few whole has turned takes = by_test (nat_eq turned.number k.take_next) refl
  where
    answer : Unheard cause ≡ in_turn k turned.number turned.behind
    answer = turned.is (Unheard cause) takes

    never_next : nat_eq turned.number k.take_next ≡ true → ⊥
    never_next same =
        let number : seqid_at packet ≡ (length (numbered_heard turns) + 1) % 4294967296 = turned.seqid ∙ eqb-true turned.number k.take_next same ∙ follows.takes in
        let here = turned.takes (is_next said (numbered_heard turns) waiting packet lost first way few has number) in
        heard_is (nat_eq turned.number k.take_next) here.0 k.take_next turned.number cause same (answer ∙ ap (in_turn k turned.number) here.1)

    by_lossy : (b : Bool) → lossy ≡ b → lossy ≡ true
    by_lossy true is = is
    by_lossy false is =
        let number : seqid_at packet ≡ (length (numbered_heard turns) + 1) % 4294967296 = whole_number said (numbered_heard turns) waiting packet lost first way (whole is) has in
        absurd (never_next (eq-eqb turned.number k.take_next (sym turned.seqid ∙ number ∙ sym follows.takes)))

    by_test : (b : Bool) → nat_eq turned.number k.take_next ≡ b → IsGapBehindLoss lossy cause
    by_test true is = absurd (never_next is)
    by_test false is = record {
      expected = k.take_next;
      found = turned.number;
      gap = gap_is (nat_eq turned.number k.take_next) turned.behind k.take_next turned.number cause is answer;
      lossy_is = by_lossy lossy refl;
    }
