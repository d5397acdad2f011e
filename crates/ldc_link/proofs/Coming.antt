-- The parts that a link takes are those that may come, one after the other. What it is offered and what is seen of it
-- change nothing of what it follows.
use Rattle.std.proofs.Common.{◌≡◌, ℕ, true, false, List, [], ◌∷◌, ◌++◌, Ok, Err, sym, ◌∙◌, subst, append-nil}
use Rattle.std.specs.Prelude.{Result}
use Rattle.ldc_packet.specs.declared.packet.Body.{Body}
use Rattle.ldc_packet.specs.declared.packet.Body.TheVariants.{Part, Rdx, Rtr, Rts, Vers}
use Rattle.ldc_packet.specs.declared.packet.Packet.{Packet}
use Rattle.ldc_packet.specs.declared.packet.PacketFault.{PacketFault}
use Rattle.ldc_packet.specs.declared.packet.Subtype.{Subtype}
use Rattle.ldc_packet.specs.Decoding.{Unpacks}
use Rattle.ldc_packet.specs.Form.{HasForm}
use Rattle.ldc_queue.specs.Fragments.{Fragment, fragment_at, fragments_in, is_part}
use Rattle.ldc_queue.specs.Messages.{AllMayCome, MayCome, half_in, half_with}
use Rattle.ldc_queue.specs.Numbered.{is_numbered, numbered}
use Rattle.ldc_queue.specs.Transcript.{Heard as Heard_, Utterance, numbered_heard}
use Rattle.ldc_link.specs.Conversing.{IsData, fragment_of}
use Rattle.ldc_link.specs.Following.{Follows}
use Rattle.ldc_link.specs.LinkState.{LinkState, cleared, offered}
use Rattle.ldc_link.specs.Putting.{control}
use Rattle.ldc_link.specs.Taking.{Heard, TakesBytes, takes_body, takes_decoded}
use Rattle.ldc_link.proofs.Following.{parts_more, quiet}
use Rattle.ldc_link.proofs.Hearing.{heard_step}
use Rattle.ldc_link.proofs.Spelled.{has_number, has_part, spelled_fragment, spelled_numbered, spelled_part}

-- one part more after those that may come
may_come_more : (half : List ℕ) (xs : List Fragment) (f : Fragment) → AllMayCome half xs → MayCome (half_in half xs) f
    → AllMayCome half (xs ++ f ∷ [])
may_come_more half [] f all may = (may, tt)
may_come_more half (x ∷ xs) f all may = (all.0, may_come_more (half_with x.stop (half ++ x.bytes)) xs f all.1 may)

-- the parts that were heard, with one packet more
AfterBytes : List Utterance → List ℕ → Type 0
AfterBytes turns bytes = AllMayCome [] (fragments_in (numbered_heard turns ++ numbered (bytes ∷ [])))

-- a packet that is no part leaves them as they are
stays : (turns : List Utterance) (bytes : List ℕ) → AllMayCome [] (fragments_in (numbered_heard turns))
    → is_numbered bytes ≡ false → AfterBytes turns bytes
unfolding AfterBytes
stays turns bytes all is =
    subst (λ (xs : List (List ℕ)). AllMayCome [] (fragments_in xs)) (sym (quiet bytes (numbered_heard turns) is)) all

comes_body : (k : LinkState) (turns : List Utterance) (bytes : List ℕ) (s : Subtype) (n : ℕ) (b : Body) (m : LinkState)
    → Follows k turns → AllMayCome [] (fragments_in (numbered_heard turns)) → HasForm s b
    → is_numbered bytes ≡ has_number b → is_part bytes ≡ has_part b → (IsData b → fragment_at bytes ≡ fragment_of b)
    → takes_body k s n b ≡ Heard m → AfterBytes turns bytes
unfolding AfterBytes has_number has_part
comes_body k turns bytes s n (Vers major minor) m follows all form is part same heard = stays turns bytes all is
comes_body k turns bytes s n (Rts mode) m follows all form is part same heard = stays turns bytes all is
comes_body k turns bytes s n (Rtr mode) m follows all form is part same heard = stays turns bytes all is
comes_body k turns bytes s n Rdx m follows all form is part same heard =
    let parts : fragments_in (numbered_heard turns ++ numbered (bytes ∷ [])) ≡ fragments_in (numbered_heard turns) =
    parts_more false bytes (fragment_of Rdx) (numbered_heard turns) is part (λ no. absurd (cc))
    ∙ append-nil (fragments_in (numbered_heard turns)) in
    subst (λ (fs : List Fragment). AllMayCome [] fs) (sym parts) all
comes_body k turns bytes s n (Part start stop len own) m follows all form is part same heard =
    let packet : Packet = control s n (Part start stop len own) in
    let f : Fragment = fragment_of (Part start stop len own) in
    let step = heard_step k packet m tt form heard in
    let parts : fragments_in (numbered_heard turns ++ numbered (bytes ∷ []))
    ≡ fragments_in (numbered_heard turns) ++ f ∷ [] =
    parts_more true bytes f (numbered_heard turns) is part (λ _. same tt) in
    subst (λ (fs : List Fragment). AllMayCome [] fs) (sym parts)
    (may_come_more [] (fragments_in (numbered_heard turns)) f all
    (subst (λ (half : List ℕ). MayCome half f) follows.half step.2))

-- each part that is heard may come
pub parts_come : (k : LinkState) (turns : List Utterance) (bytes : List ℕ) (m : LinkState) → Follows k turns
    → AllMayCome [] (fragments_in (numbered_heard turns)) → TakesBytes k bytes (Heard m)
    → AllMayCome [] (fragments_in (numbered_heard (Heard_ bytes ∷ turns)))
unfolding AfterBytes
parts_come k turns bytes m follows all takes = from takes.decoded takes.unpacks takes.is
  where
    from : (d : Result Packet PacketFault) → Unpacks bytes d → Heard m ≡ takes_decoded k d → AfterBytes turns bytes
    from (Ok p) unpacks is =
        comes_body k turns bytes p.subtype p.seqid p.body m follows all unpacks.packet.0
        (spelled_numbered bytes p unpacks.packet.1) (spelled_part bytes p unpacks.packet.1)
        (λ carries. spelled_fragment bytes p carries unpacks.packet.0 unpacks.packet.1) (sym is)
    from (Err fault) unpacks is = absurd (cc)

pub offers_follow : (k : LinkState) (turns : List Utterance) (message : List ℕ) → Follows k turns
    → Follows (offered message k) turns
offers_follow k turns message follows =
    record { puts = follows.puts; takes = follows.takes; half = follows.half; offers = follows.offers }

pub clears_follow : (k : LinkState) (turns : List Utterance) → Follows k turns → Follows (cleared k) turns
clears_follow k turns follows =
    record { puts = follows.puts; takes = follows.takes; half = follows.half; offers = follows.offers }
