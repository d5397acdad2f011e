-- A link hears messages exactly where the packets that it takes are their parts with consecutive numbers.
use Rattle.std.proofs.Common.{◌≡◌, ℕ, ◌+◌, ◌≤◌, Bool, true, false, List, [], ◌∷◌, ◌++◌, length, take, refl, sym, ap, ◌∙◌, subst, arith}
use Rattle.std.specs.Prelude.{◌&&◌, ◌↔◌, if◌then◌else◌, nat_eq, nat_le}
use Rattle.std.proofs.lemmas.Bool.{eq-eqb, eqb-true, le-leb, leb-true}
use Rattle.std.proofs.lemmas.List.{length-take-le}
use Rattle.ldc_packet.specs.declared.packet.Body.{Body}
use Rattle.ldc_packet.specs.declared.packet.Body.TheVariants.{Part, Rdx, Rtr, Rts, Vers}
use Rattle.ldc_packet.specs.declared.packet.Packet.{Packet}
use Rattle.ldc_packet.specs.declared.packet.Subtype.{Subtype}
use Rattle.ldc_packet.specs.Form.{HasForm, IsWellFormed}
use Rattle.ldc_queue.specs.Fragments.{Fragment}
use Rattle.ldc_queue.specs.Messages.{AllMayCome, AreCutFrom, MayCome, half_in, is_empty, whole_in, whole_with}
use Rattle.ldc_queue.proofs.Cuts.{Makes, cut_into}
use Rattle.vio_tag.specs.declared.cause.Cause.TheVariants as cause
use Rattle.ldc_link.specs.Conversing.{AreData, AreNumbered, Hears, IsData, carried, fragment_of, seen}
use Rattle.ldc_link.specs.LinkState.{LinkState, cleared, is_up}
use Rattle.ldc_link.specs.Taking.{Heard, LinkTake, Unheard, begins_rightly, count, counted, in_turn, link_take, may_come, takes_body, takes_part, whole_of, with_part}

-- a data packet is taken by its number and its part
data_taken : (k : LinkState) (s : Subtype) (n : ℕ) (b : Body) → IsData b → takes_body k s n b ≡ in_turn k n (takes_part k (fragment_of b))
data_taken k s n (Part start stop len bytes) is = refl
data_taken k s n (Vers major minor) is = absurd is
data_taken k s n (Rts mode) is = absurd is
data_taken k s n (Rtr mode) is = absurd is
data_taken k s n Rdx is = absurd is

-- a part has 1 to 56 bytes
part_within : (s : Subtype) (b : Body) → IsData b → HasForm s b → (1 ≤ length (fragment_of b).bytes) × (length (fragment_of b).bytes ≤ 56)
part_within s (Part start stop len bytes) is form =
    let long : length (take len bytes) ≡ len = length-take-le len bytes (omega (arith, form.within, form.room)) in
    (omega (arith, long, form.some), omega (arith, long, form.within))
part_within s (Vers major minor) is form = absurd is
part_within s (Rts mode) is form = absurd is
part_within s (Rtr mode) is form = absurd is
part_within s Rdx is form = absurd is

-- START stands rightly exactly where it says whether nothing has come
begins : (start : Bool) (half : List ℕ) → begins_rightly start half ≡ true → start ≡ is_empty half
begins true [] is = refl
begins true (byte ∷ half) is = absurd (cc)
begins false [] is = absurd (cc)
begins false (byte ∷ half) is = refl

begins_back : (start : Bool) (half : List ℕ) → start ≡ is_empty half → begins_rightly start half ≡ true
begins_back true [] is = refl
begins_back true (byte ∷ half) is = absurd (cc)
begins_back false [] is = absurd (cc)
begins_back false (byte ∷ half) is = refl

both : (a b : Bool) → (a && b) ≡ true → (a ≡ true) × (b ≡ true)
both true b is = (refl, is)
both false b is = absurd (cc)

-- what a test must have said where a packet was heard
pub numbered_rightly : (b : Bool) (next seqid : ℕ) (a : LinkTake) (m : LinkState) → (if b then count a else Unheard (cause.Gap next seqid)) ≡ Heard m
    → (b ≡ true) × (count a ≡ Heard m)
numbered_rightly true next seqid a m is = (refl, is)
numbered_rightly false next seqid a m is = absurd (cc)

state_heard : LinkState → LinkTake → LinkState
state_heard other (Heard k) = k
state_heard other (Unheard cause) = other

same_heard : (n m : LinkState) → Heard (counted n) ≡ Heard m → m ≡ counted n
unfolding state_heard
same_heard n m is = sym (ap (state_heard m) is)

came_rightly : (up came : Bool) (k n m : LinkState) → count (if up then (if came then Heard n else Unheard cause.Fragment) else Unheard cause.Unexpected) ≡ Heard m
    → (up ≡ true) × (came ≡ true) × (m ≡ counted n)
came_rightly true true k n m is = (refl, refl, same_heard n m is)
came_rightly true false k n m is = absurd (cc)
came_rightly false came k n m is = absurd (cc)

-- a data packet that is heard has the next number, and its part may come
pub heard_step : (k : LinkState) (p : Packet) (m : LinkState) → IsData p.body → IsWellFormed p → link_take k p ≡ Heard m
    → (is_up k ≡ true) × (p.seqid ≡ k.take_next) × MayCome k.half_heard (fragment_of p.body) × (m ≡ counted (with_part k (fragment_of p.body)))
heard_step k p m carries form heard =
    let part : Fragment = fragment_of p.body in
    let turn = numbered_rightly (nat_eq p.seqid k.take_next) k.take_next p.seqid (takes_part k part) m (sym (data_taken k p.subtype p.seqid p.body carries) ∙ heard) in
    let came = came_rightly (is_up k) (may_come k.half_heard part) k (with_part k part) m turn.1 in
    let tests = both (begins_rightly part.start k.half_heard) (nat_le (length k.half_heard + length part.bytes) 256) came.1 in
    let within = part_within p.subtype p.body carries form in (
      came.0,
      eqb-true p.seqid k.take_next turn.0,
      (begins part.start k.half_heard tests.0, leb-true (length k.half_heard + length part.bytes) 256 tests.1, within.0, within.1),
      came.2,
    )

all_rightly : (turn up came : Bool) (next seqid : ℕ) (n : LinkState) → turn ≡ true → up ≡ true → came ≡ true
    → (if turn then count (if up then (if came then Heard n else Unheard cause.Fragment) else Unheard cause.Unexpected) else Unheard (cause.Gap next seqid)) ≡ Heard (counted n)
all_rightly true true true next seqid n turn up came = refl
all_rightly true true false next seqid n turn up came = absurd (cc)
all_rightly true false came' next seqid n turn up came = absurd (cc)
all_rightly false up' came' next seqid n turn up came = absurd (cc)

may_come_back : (half : List ℕ) (part : Fragment) → MayCome half part → may_come half part ≡ true
may_come_back half part may =
    ap (λ (b : Bool). b && nat_le (length half + length part.bytes) 256) (begins_back part.start half may.0)
    ∙ le-leb (length half + length part.bytes) 256 may.1

heard_back : (k : LinkState) (p : Packet) → IsData p.body → is_up k ≡ true → p.seqid ≡ k.take_next → MayCome k.half_heard (fragment_of p.body)
    → link_take k p ≡ Heard (counted (with_part k (fragment_of p.body)))
heard_back k p carries up number may =
    let part : Fragment = fragment_of p.body in
    data_taken k p.subtype p.seqid p.body carries
    ∙ all_rightly (nat_eq p.seqid k.take_next) (is_up k) (may_come k.half_heard part) k.take_next p.seqid (with_part k part)
    (eq-eqb p.seqid k.take_next number) up (may_come_back k.half_heard part may)

seen_whole : (b : Bool) (message : List ℕ) (messages : List (List ℕ)) → seen (whole_of b message) messages ≡ whole_with b message messages
seen_whole true message messages = refl
seen_whole false message messages = refl

-- the link after a part, once its message was seen
next_of : LinkState → Fragment → LinkState
next_of k part = cleared (counted (with_part k part))

hears_parts : (k : LinkState) (ps : List Packet) (messages : List (List ℕ)) (t : LinkState) → AreData ps → Hears k ps messages t
    → AreNumbered k.take_next ps × Makes k.half_heard (carried ps) messages t.half_heard
unfolding next_of
hears_parts k [] messages t carries hears = (tt, (tt, sym hears.0, ap (λ (s : LinkState). s.half_heard) (sym hears.1)))
hears_parts k (p ∷ ps) messages t carries hears =
    let part : Fragment = fragment_of p.body in
    let step = heard_step k p hears.0 carries.0 carries.1 hears.2 in
    let rest = hears_parts (next_of k part) ps hears.1 t carries.2 (subst (λ (s : LinkState). Hears (cleared s) ps hears.1 t) step.3 hears.4) in
    let whole : whole_with part.stop (k.half_heard ++ part.bytes) hears.1 ≡ messages =
    sym (seen_whole part.stop (k.half_heard ++ part.bytes) hears.1) ∙ ap (λ (s : LinkState). seen s.whole hears.1) (sym step.3) ∙ sym hears.3 in (
      (step.1, rest.0),
      ((step.2, rest.1.0), ap (whole_with part.stop (k.half_heard ++ part.bytes)) rest.1.1 ∙ whole, rest.1.2),
    )

parts_heard : (k : LinkState) (ps : List Packet) → is_up k ≡ true → AreData ps → AreNumbered k.take_next ps → AllMayCome k.half_heard (carried ps)
    → (t : LinkState) × Hears k ps (whole_in k.half_heard (carried ps)) t × (half_in k.half_heard (carried ps) ≡ t.half_heard)
unfolding next_of
parts_heard k [] up carries numbers may = (k, (refl, refl), refl)
parts_heard k (p ∷ ps) up carries numbers may =
    let part : Fragment = fragment_of p.body in
    let next : LinkState = next_of k part in
    let rest = parts_heard next ps up carries.2 numbers.1 may.1 in (
      rest.0,
      (
        counted (with_part k part),
        whole_in next.half_heard (carried ps),
        heard_back k p carries.0 up numbers.0 may.0,
        sym (seen_whole part.stop (k.half_heard ++ part.bytes) (whole_in next.half_heard (carried ps))),
        rest.1,
      ),
      rest.2,
    )

pub heard_are_parts : (k : LinkState) (ps : List Packet) (messages : List (List ℕ)) (half : List ℕ) → is_up k ≡ true → k.half_heard ≡ [] → AreData ps
    → ((t : LinkState) × Hears k ps messages t × (t.half_heard ≡ half)) ↔ (AreNumbered k.take_next ps × AreCutFrom (carried ps) messages half)
heard_are_parts k ps messages half up none carries = (
  λ (heard : (t : LinkState) × Hears k ps messages t × (t.half_heard ≡ half)).
      let parts = hears_parts k ps messages heard.0 carries heard.1 in (
        parts.0,
        (cut_into (carried ps) messages half).1
            (subst (λ (xs : List ℕ). Makes [] (carried ps) messages xs) heard.2 (subst (λ (xs : List ℕ). Makes xs (carried ps) messages heard.0.half_heard) none parts.1)),
      ),
  λ (cut : AreNumbered k.take_next ps × AreCutFrom (carried ps) messages half).
      let makes = subst (λ (xs : List ℕ). Makes xs (carried ps) messages half) (sym none) ((cut_into (carried ps) messages half).0 cut.1) in
      let heard = parts_heard k ps up carries cut.0 makes.0 in
      (heard.0, subst (λ (ms : List (List ℕ)). Hears k ps ms heard.0) makes.1 heard.1, sym heard.2 ∙ makes.2),
)
