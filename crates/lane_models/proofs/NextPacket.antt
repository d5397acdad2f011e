-- What an end takes where nobody forged: the first packet that waits for it is one that the other end said; with the number that the end
-- expects it is the next, and where nothing was lost it has that number.
use Rattle.std.proofs.Common.{◌≡◌, ℕ, ◌+◌, ◌<◌, ◌≤◌, ◌%◌, Bool, true, List, [], ◌∷◌, ◌++◌, drop, length, refl, sym, ap, ◌∙◌, subst, append_assoc, arith, ◌⊎◌, inl, inr}
use Rattle.ldc_packet.proofs.Canonical.{canonical_spells}
use Rattle.ldc_packet.specs.declared.packet.Body.TheVariants.{Rdx}
use Rattle.ldc_packet.specs.declared.packet.Subtype.TheVariants.{Info}
use Rattle.ldc_packet.specs.Spelling.{SpellsPacket, seqid_at}
use Rattle.ldc_link.proofs.Following.{loud, loud_counts}
use Rattle.ldc_link.specs.Putting.{control}
use Rattle.ldc_queue.proofs.Streams.{count_up_later, way_took}
use Rattle.ldc_queue.specs.Numbered.{CountUp, is_numbered, kept, numbered}
use Rattle.ldc_queue.specs.OneStream.{OneWay}
use Rattle.ldc_queue.specs.QueueLog.{WaitsLongest}
use Rattle.lane_models.specs.LinkPlaces.{EachPart, IsPartOf, IsReady, ReadyFirst}

-- what waits, where the first has a number
first_in : (waiting : List (List ℕ)) (packet : List ℕ) → WaitsLongest packet waiting → is_numbered packet ≡ true → numbered waiting ≡ packet ∷ numbered (drop 1 waiting)
first_in waiting packet first has = ap numbered first ∙ ap (λ (b : Bool). kept b packet (numbered (drop 1 waiting))) has

-- it was said
pub record WasSaid (said heard : List (List ℕ)) (packet : List ℕ) : Type 0 where
  pub gone : List (List ℕ)
  pub rest : List (List ℕ)
  pub is : said ≡ (heard ++ gone) ++ packet ∷ rest

pub was_said : (said heard waiting : List (List ℕ)) (packet : List ℕ) (lost : ℕ) → WaitsLongest packet waiting → OneWay said heard (numbered waiting) lost → is_numbered packet ≡ true
    → WasSaid said heard packet
was_said said heard waiting packet lost first way has = record {
  gone = way.gone;
  rest = numbered (drop 1 waiting);
  is = way.is ∙ ap (λ (xs : List (List ℕ)). heard ++ (way.gone ++ xs)) (first_in waiting packet first has) ∙ sym (append_assoc heard way.gone (packet ∷ numbered (drop 1 waiting)));
}

-- with the number that is expected it is the next
pub record IsNext (said heard : List (List ℕ)) (packet : List ℕ) : Type 0 where
  pub rest : List (List ℕ)
  pub is : said ≡ (heard ++ packet ∷ []) ++ rest

pub is_next : (said heard waiting : List (List ℕ)) (packet : List ℕ) (lost : ℕ) → WaitsLongest packet waiting → OneWay said heard (numbered waiting) lost → lost < 4294967296
    → is_numbered packet ≡ true → seqid_at packet ≡ (length heard + 1) % 4294967296 → IsNext said heard packet
is_next said heard waiting packet lost first way few has number =
    let took = way_took said heard (drop 1 waiting) packet lost (subst (λ (xs : List (List ℕ)). OneWay said heard (numbered xs) lost) first way)
    (loud_counts packet (length heard + 1) has number) (λ one. few) in
    record {
      rest = took.gone ++ numbered (drop 1 waiting);
      is = took.is ∙ ap (λ (xs : List (List ℕ)). xs ++ (took.gone ++ numbered (drop 1 waiting))) (loud packet heard has);
    }

-- where nothing was lost it has that number
pub none_of : (packets : List (List ℕ)) → length packets ≤ 0 → packets ≡ []
none_of [] few = refl
none_of (packet ∷ packets) few = absurd (omega (arith, few))

pub whole_number : (said heard waiting : List (List ℕ)) (packet : List ℕ) (lost : ℕ) → WaitsLongest packet waiting → OneWay said heard (numbered waiting) lost → lost ≡ 0
    → is_numbered packet ≡ true → seqid_at packet ≡ (length heard + 1) % 4294967296
whole_number said heard waiting packet lost first way whole has =
    let gone : way.gone ≡ [] = none_of way.gone (omega (arith, way.few, whole)) in
    let is : said ≡ heard ++ packet ∷ numbered (drop 1 waiting) =
    way.is ∙ ap (λ (xs : List (List ℕ)). heard ++ (xs ++ numbered waiting)) gone ∙ ap (λ (xs : List (List ℕ)). heard ++ xs) (first_in waiting packet first has) in
    let all : CountUp 1 (heard ++ packet ∷ numbered (drop 1 waiting)) = subst (CountUp 1) is way.numbers in
    (count_up_later 1 (length heard + 1) heard (packet ∷ numbered (drop 1 waiting)) (omega arith) all).0

-- WHAT IT IS: a part, or RDX, which goes before all parts
pub each_in : (front : List (List ℕ)) (packet : List ℕ) (rest : List (List ℕ)) → EachPart (front ++ packet ∷ rest) → IsPartOf packet
each_in [] packet rest each = each.0
each_in (one ∷ front) packet rest each = each_in front packet rest each.1

pub ready_in : (front : List (List ℕ)) (packet : List ℕ) (rest : List (List ℕ)) → ReadyFirst (front ++ packet ∷ rest) → (IsReady packet × (front ≡ [])) ⊎ IsPartOf packet
ready_in [] packet rest each = inl (each.0, refl)
ready_in (one ∷ front) packet rest each = inr (each_in front packet rest each.1)

pub part_spells : (packet : List ℕ) (part : IsPartOf packet) → SpellsPacket packet part.packet
part_spells packet part = subst (λ (xs : List ℕ). SpellsPacket xs part.packet) (sym part.is) (canonical_spells part.packet part.formed part.widths)

pub ready_spells : (packet : List ℕ) (ready : IsReady packet) → SpellsPacket packet (control Info ready.number Rdx)
ready_spells packet ready =
    subst (λ (xs : List ℕ). SpellsPacket xs (control Info ready.number Rdx)) (sym ready.is) (canonical_spells (control Info ready.number Rdx) tt (ready.small, tt))
