-- A link follows what its end says and hears, so that its packets are those that may stand in a channel's log.
use Rattle.std.proofs.Common.{◌≡◌, ℕ, ◌+◌, ◌%◌, Bool, true, false, List, [], ◌∷◌, ◌++◌, length, Ok, Err, refl, sym, ap, ◌∙◌, subst, append-nil, arith, length-append}
use Rattle.std.specs.Prelude.{◌&&◌, if◌then◌else◌, nat_eq, IfOk, Result}
use Rattle.std.proofs.lemmas.Bool.{eqb-true}
use Rattle.ldc_packet.specs.declared.packet.Body.{Body}
use Rattle.ldc_packet.specs.declared.packet.Body.TheVariants.{Part, Rdx, Rtr, Rts, Vers}
use Rattle.ldc_packet.specs.declared.packet.Packet.{Packet}
use Rattle.ldc_packet.specs.declared.packet.PacketFault.{PacketFault}
use Rattle.ldc_packet.specs.declared.packet.Subtype.{Subtype}
use Rattle.ldc_packet.specs.declared.packet.Subtype.TheVariants.{Ack, Info, Nack}
use Rattle.ldc_packet.specs.Decoding.{Unpacks}
use Rattle.ldc_packet.specs.Form.{HasForm}
use Rattle.ldc_packet.specs.Spelling.{seqid_at}
use Rattle.ldc_queue.specs.Fragments.{Fragment, fragment_at, fragments_in, is_part, joins}
use Rattle.ldc_queue.specs.Messages.{half_in, half_with}
use Rattle.ldc_queue.specs.Numbered.{CountUp, is_numbered, kept, numbered}
use Rattle.ldc_queue.specs.Transcript.{Heard as Heard_, Utterance, numbered_heard}
use Rattle.ldc_queue.proofs.Messages.{fragments_in-append, half_in-append}
use Rattle.vio_tag.specs.declared.cause.Cause.{Cause}
use Rattle.ldc_link.specs.declared.phase.LinkPhase.{LinkPhase}
use Rattle.ldc_link.specs.declared.phase.LinkPhase.TheVariants as phase
use Rattle.ldc_link.specs.declared.phase.Role.{Role}
use Rattle.ldc_link.specs.declared.phase.Role.TheVariants.{Initiator, Responder}
use Rattle.ldc_link.specs.Conversing.{IsData, fragment_of}
use Rattle.ldc_link.specs.Following.{Follows, OffersLittle}
use Rattle.ldc_link.specs.LinkState.{LinkState, first_phase, joined_link, next_number}
use Rattle.ldc_link.specs.Putting.{control}
use Rattle.ldc_link.specs.Taking.{Heard, LinkTake, TakesBytes, Unheard, count, counted, goes_to, in_mode, phase_behind_rdx, phase_behind_rtr, phase_behind_rts, phase_behind_vers, takes_body, takes_decoded}
use Rattle.ldc_link.proofs.Hearing.{heard_step, numbered_rightly}
use Rattle.ldc_link.proofs.Spelled.{has_number, has_part, spelled_fragment, spelled_numbered, spelled_part}

-- a packet without a number, and one with a number
pub quiet : (bytes : List ℕ) (xs : List (List ℕ)) → is_numbered bytes ≡ false → xs ++ numbered (bytes ∷ []) ≡ xs
quiet bytes xs is = ap (λ (b : Bool). xs ++ kept b bytes []) is ∙ append-nil xs

pub loud : (bytes : List ℕ) (xs : List (List ℕ)) → is_numbered bytes ≡ true → xs ++ numbered (bytes ∷ []) ≡ xs ++ bytes ∷ []
loud bytes xs is = ap (λ (b : Bool). xs ++ kept b bytes []) is

pub quiet_counts : (bytes : List ℕ) (n : ℕ) → is_numbered bytes ≡ false → CountUp n (numbered (bytes ∷ []))
quiet_counts bytes n is = subst (λ (b : Bool). CountUp n (kept b bytes [])) (sym is) tt

pub loud_counts : (bytes : List ℕ) (n : ℕ) → is_numbered bytes ≡ true → seqid_at bytes ≡ n % 4294967296 → CountUp n (numbered (bytes ∷ []))
loud_counts bytes n is next = subst (λ (b : Bool). CountUp n (kept b bytes [])) (sym is) (next, tt)

-- one more number
pub one_more : (n : ℕ) (xs : List (List ℕ)) (bytes : List ℕ) → n ≡ (length xs + 1) % 4294967296 → next_number n ≡ (length (xs ++ bytes ∷ []) + 1) % 4294967296
one_more n xs bytes is = omega (arith, is, length-append xs (bytes ∷ []))

-- the phases that a link goes to
answer_little : (one none : Bool) → OffersLittle (if one then phase.OwesVersAck else if none then phase.OwesVersNack 0 else phase.OwesVersNack 1)
answer_little true none = tt
answer_little false true = omega arith
answer_little false false = omega arith

agreed_little : (b : Bool) (cause : Cause) → IfOk (if b then Ok phase.OwesRts else Err cause) OffersLittle
agreed_little true cause = tt
agreed_little false cause = tt

vers_little : (ph : LinkPhase) (s : Subtype) (major minor : ℕ) → IfOk (phase_behind_vers ph s major minor) OffersLittle
vers_little phase.AwaitsVersInfo Info major minor = answer_little (nat_eq major 1) (nat_eq major 0)
vers_little phase.AwaitsVersAck Ack major minor = agreed_little (nat_eq major 1 && nat_eq minor 0) _
vers_little phase.AwaitsVersAck Nack major minor = tt
vers_little _ _ major minor = tt

rts_little : (ph : LinkPhase) (s : Subtype) → IfOk (phase_behind_rts ph s) OffersLittle
rts_little phase.AwaitsRts Info = tt
rts_little _ _ = tt

rtr_little : (ph : LinkPhase) (s : Subtype) → IfOk (phase_behind_rtr ph s) OffersLittle
rtr_little phase.AwaitsRtr Info = tt
rtr_little _ _ = tt

rdx_little : (ph : LinkPhase) (s : Subtype) → IfOk (phase_behind_rdx ph s) OffersLittle
rdx_little phase.AwaitsRdx Info = tt
rdx_little _ _ = tt

mode_little : (b : Bool) (r : Result LinkPhase Cause) (cause : Cause) → IfOk r OffersLittle → IfOk (if b then r else Err cause) OffersLittle
mode_little true r cause little = little
mode_little false r cause little = tt

state_of_heard : LinkState → LinkTake → LinkState
state_of_heard other (Heard k) = k
state_of_heard other (Unheard cause) = other

went : (k : LinkState) (r : Result LinkPhase Cause) (m : LinkState) → IfOk r OffersLittle → goes_to k r ≡ Heard m
    → (ph : LinkPhase) × OffersLittle ph × (m ≡ record k { phase = ph })
unfolding state_of_heard
went k (Ok ph) m little is = (ph, little, sym (ap (state_of_heard m) is))
went k (Err cause) m little is = absurd (cc)

went_counted : (k : LinkState) (r : Result LinkPhase Cause) (m : LinkState) → IfOk r OffersLittle → count (goes_to k r) ≡ Heard m
    → (ph : LinkPhase) × OffersLittle ph × (m ≡ counted (record k { phase = ph }))
unfolding state_of_heard
went_counted k (Ok ph) m little is = (ph, little, sym (ap (state_of_heard m) is))
went_counted k (Err cause) m little is = absurd (cc)

-- a packet without a number is heard
hears_quietly : (k : LinkState) (turns : List Utterance) (bytes : List ℕ) (ph : LinkPhase) → Follows k turns → OffersLittle ph → is_numbered bytes ≡ false
    → Follows (record k { phase = ph }) (Heard_ bytes ∷ turns)
hears_quietly k turns bytes ph follows little is = record {
  puts = follows.puts;
  takes = follows.takes ∙ ap (λ (xs : List (List ℕ)). (length xs + 1) % 4294967296) (sym (quiet bytes (numbered_heard turns) is));
  half = follows.half ∙ ap (λ (xs : List (List ℕ)). half_in [] (fragments_in xs)) (sym (quiet bytes (numbered_heard turns) is));
  offers = little;
}

-- what a numbered packet adds to the parts that were heard
pub parts_more : (b : Bool) (bytes : List ℕ) (fragment : Fragment) (xs : List (List ℕ)) → is_numbered bytes ≡ true → is_part bytes ≡ b → (b ≡ true → fragment_at bytes ≡ fragment)
    → fragments_in (xs ++ numbered (bytes ∷ [])) ≡ fragments_in xs ++ joins b fragment []
parts_more true bytes fragment xs is part same =
    ap fragments_in (loud bytes xs is) ∙ fragments_in-append xs (bytes ∷ [])
    ∙ ap (λ (c : Bool). fragments_in xs ++ joins c (fragment_at bytes) []) part ∙ ap (λ (f : Fragment). fragments_in xs ++ f ∷ []) (same refl)
parts_more false bytes fragment xs is part same =
    ap fragments_in (loud bytes xs is) ∙ fragments_in-append xs (bytes ∷ []) ∙ ap (λ (c : Bool). fragments_in xs ++ joins c (fragment_at bytes) []) part

-- a packet that is heard
hears_body : (k : LinkState) (turns : List Utterance) (bytes : List ℕ) (s : Subtype) (n : ℕ) (b : Body) (m : LinkState) → Follows k turns → HasForm s b
    → is_numbered bytes ≡ has_number b → is_part bytes ≡ has_part b → (IsData b → fragment_at bytes ≡ fragment_of b) → seqid_at bytes ≡ n → takes_body k s n b ≡ Heard m
    → CountUp (length (numbered_heard turns) + 1) (numbered (bytes ∷ [])) × Follows m (Heard_ bytes ∷ turns)
unfolding has_number has_part
hears_body k turns bytes s n (Vers major minor) m follows form is part same number heard =
    let step = went k (phase_behind_vers k.phase s major minor) m (vers_little k.phase s major minor) heard in
    (quiet_counts bytes (length (numbered_heard turns) + 1) is, subst (λ (t : LinkState). Follows t (Heard_ bytes ∷ turns)) (sym step.2) (hears_quietly k turns bytes step.0 follows step.1 is))
hears_body k turns bytes s n (Rts mode) m follows form is part same number heard =
    let step = went k (in_mode mode (phase_behind_rts k.phase s)) m (mode_little (nat_eq mode 1) (phase_behind_rts k.phase s) _ (rts_little k.phase s)) heard in
    (quiet_counts bytes (length (numbered_heard turns) + 1) is, subst (λ (t : LinkState). Follows t (Heard_ bytes ∷ turns)) (sym step.2) (hears_quietly k turns bytes step.0 follows step.1 is))
hears_body k turns bytes s n (Rtr mode) m follows form is part same number heard =
    let step = went k (in_mode mode (phase_behind_rtr k.phase s)) m (mode_little (nat_eq mode 1) (phase_behind_rtr k.phase s) _ (rtr_little k.phase s)) heard in
    (quiet_counts bytes (length (numbered_heard turns) + 1) is, subst (λ (t : LinkState). Follows t (Heard_ bytes ∷ turns)) (sym step.2) (hears_quietly k turns bytes step.0 follows step.1 is))
hears_body k turns bytes s n Rdx m follows form is part same number heard =
    let turn = numbered_rightly (nat_eq n k.take_next) k.take_next n (goes_to k (phase_behind_rdx k.phase s)) m heard in
    let step = went_counted k (phase_behind_rdx k.phase s) m (rdx_little k.phase s) turn.1 in
    let parts : fragments_in (numbered_heard turns ++ numbered (bytes ∷ [])) ≡ fragments_in (numbered_heard turns) =
    parts_more false bytes (fragment_of Rdx) (numbered_heard turns) is part (λ no. absurd (cc)) ∙ append-nil (fragments_in (numbered_heard turns)) in (
      loud_counts bytes (length (numbered_heard turns) + 1) is (number ∙ eqb-true n k.take_next turn.0 ∙ follows.takes),
      subst (λ (t : LinkState). Follows t (Heard_ bytes ∷ turns)) (sym step.2) (record {
        puts = follows.puts;
        takes = one_more k.take_next (numbered_heard turns) bytes follows.takes ∙ ap (λ (xs : List (List ℕ)). (length xs + 1) % 4294967296) (sym (loud bytes (numbered_heard turns) is));
        half = follows.half ∙ ap (half_in []) (sym parts);
        offers = step.1;
      }),
    )
hears_body k turns bytes s n (Part start stop len own) m follows form is part same number heard =
    let packet : Packet = control s n (Part start stop len own) in
    let f : Fragment = fragment_of (Part start stop len own) in
    let step = heard_step k packet m tt form heard in
    let parts : fragments_in (numbered_heard turns ++ numbered (bytes ∷ [])) ≡ fragments_in (numbered_heard turns) ++ f ∷ [] =
    parts_more true bytes f (numbered_heard turns) is part (λ _. same tt) in (
      loud_counts bytes (length (numbered_heard turns) + 1) is (number ∙ step.1 ∙ follows.takes),
      subst (λ (t : LinkState). Follows t (Heard_ bytes ∷ turns)) (sym step.3) (record {
        puts = follows.puts;
        takes = one_more k.take_next (numbered_heard turns) bytes follows.takes ∙ ap (λ (xs : List (List ℕ)). (length xs + 1) % 4294967296) (sym (loud bytes (numbered_heard turns) is));
        half = ap (λ (xs : List ℕ). half_with f.stop (xs ++ f.bytes)) follows.half ∙ sym (half_in-append [] (fragments_in (numbered_heard turns)) (f ∷ [])) ∙ ap (half_in []) (sym parts);
        offers = follows.offers;
      }),
    )

-- what a link takes may stand in the log, and it follows what its end heard
pub takes_follow : (k : LinkState) (turns : List Utterance) (bytes : List ℕ) (m : LinkState) → Follows k turns → TakesBytes k bytes (Heard m)
    → CountUp (length (numbered_heard turns) + 1) (numbered (bytes ∷ [])) × Follows m (Heard_ bytes ∷ turns)
takes_follow k turns bytes m follows takes = from takes.decoded takes.unpacks takes.is
  where
    from : (d : Result Packet PacketFault) → Unpacks bytes d → Heard m ≡ takes_decoded k d
        → CountUp (length (numbered_heard turns) + 1) (numbered (bytes ∷ [])) × Follows m (Heard_ bytes ∷ turns)
    from (Ok p) unpacks is =
        hears_body k turns bytes p.subtype p.seqid p.body m follows unpacks.packet.0 (spelled_numbered bytes p unpacks.packet.1) (spelled_part bytes p unpacks.packet.1)
        (λ carries. spelled_fragment bytes p carries unpacks.packet.0 unpacks.packet.1) unpacks.packet.1.seqid (sym is)
    from (Err fault) unpacks is = absurd (cc)

first_little : (role : Role) → OffersLittle (first_phase role)
first_little Initiator = tt
first_little Responder = tt

pub joins_follow : (k : LinkState) → Follows (joined_link k) []
joins_follow k = record { puts = refl; takes = refl; half = refl; offers = first_little k.role }
