-- What an end has said and heard after one packet more.
use Rattle.std.proofs.Common.{◌≡◌, ℕ, ◌≤◌, ◌-◌, Bool, true, false, Option, Some, None, List, [], ◌∷◌, ◌++◌, length, drop, take, replicate, refl, sym, ap, ◌∙◌, arith, length-append}
use Rattle.std.specs.Prelude.{◌&&◌, min, nat_le, not}
use Rattle.std.proofs.lemmas.List.{length-take, take-append-le, take_all}
use Rattle.ldc_packet.specs.declared.packet.Subtype.TheVariants.{Info}
use Rattle.ldc_packet.specs.Spelling.{canonical}
use Rattle.ldc_queue.specs.Fragments.{Fragment, fragment_at, is_part}
use Rattle.ldc_queue.specs.Transcript.{Heard, Said, Utterance}
use Rattle.ldc_link.proofs.Saying.{first_form}
use Rattle.ldc_link.proofs.Spelled.{has_part, spelled_fragment, spelled_part}
use Rattle.ldc_link.specs.Following.{Follows}
use Rattle.ldc_link.specs.LinkState.{LinkState}
use Rattle.ldc_link.specs.Putting.{first_part, part_bytes}
use Rattle.lane_models.proofs.SameSayings.{half_heard_is}
use Rattle.lane_models.specs.Messages.{ended_by, whole_with}
use Rattle.lane_models.specs.Sayings.{half_heard, half_past, half_said, heard, said, whole_by, whole_past}
use Rattle.lane_models.proofs.LinkCases.{IsPacket, LinkHeard, canonical_is}

-- A PACKET THAT IS NO PART says nothing of a message
pub record SaysNothing (turns : List Utterance) (bytes : List ℕ) : Type 0 where
  pub messages : said (Said bytes ∷ turns) ≡ said turns
  pub half : half_said (Said bytes ∷ turns) ≡ half_said turns

past_none : (b : Bool) (part : Fragment) (half : List ℕ) (messages : List (List ℕ)) → b ≡ false → (whole_past b part half messages ≡ messages) × (half_past b part half ≡ half)
past_none false part half messages is = (refl, refl)
past_none true part half messages is = absurd (cc is)

pub says_nothing : (turns : List Utterance) (bytes : List ℕ) → is_part bytes ≡ false → SaysNothing turns bytes
says_nothing turns bytes is =
    let past = past_none (is_part bytes) (fragment_at bytes) (half_said turns) (said turns) is in record { messages = past.0; half = past.1 }

-- THE NEXT PART of what a link holds
pub record SaysPart (k : LinkState) (bytes : List ℕ) : Type 0 where
  pub packet : IsPacket bytes Info (first_part k).body
  pub part : is_part bytes ≡ true
  pub starts : (fragment_at bytes).start ≡ not k.begun
  pub stops : (fragment_at bytes).stop ≡ nat_le (length k.to_send) 56
  pub carries : (fragment_at bytes).bytes ≡ take 56 k.to_send

first_bytes : (message : List ℕ) → take (min (length message) 56) (part_bytes message) ≡ take 56 message
first_bytes message =
    let long : length (take 56 message) ≡ min (length message) 56 = omega (arith, length-take 56 message) in
    take-append-le (min (length message) 56) (take 56 message) (replicate (56 - length message) 0) (omega (arith, long))
    ∙ take_all (min (length message) 56) (take 56 message) (omega (arith, long))

pub says_part : (k : LinkState) (turns : List Utterance) (bytes : List ℕ) → Follows k turns → 1 ≤ length k.to_send → bytes ≡ canonical (first_part k) → SaysPart k bytes
unfolding has_part
says_part k turns bytes follows some is =
    let packet : IsPacket bytes Info (first_part k).body =
    canonical_is bytes Info k.put_next (first_part k).body (first_form k (omega (arith, some))) (omega (arith, follows.puts), tt) is in
    let fragment = spelled_fragment bytes _ tt packet.form packet.spells in
    record {
      packet = packet;
      part = spelled_part bytes _ packet.spells;
      starts = ap (λ (f : Fragment). f.start) fragment;
      stops = ap (λ (f : Fragment). f.stop) fragment;
      carries = ap (λ (f : Fragment). f.bytes) fragment ∙ first_bytes k.to_send;
    }

-- a part that goes on, and the last one, with which the message is whole
pub record SaysMore (k : LinkState) (turns : List Utterance) (bytes : List ℕ) : Type 0 where
  pub part : SaysPart k bytes
  pub long : nat_le (length k.to_send) 56 ≡ false
  pub messages : said (Said bytes ∷ turns) ≡ said turns
  pub half : half_said (Said bytes ∷ turns) ≡ half_said turns ++ take 56 k.to_send

pub record SaysLast (k : LinkState) (turns : List Utterance) (bytes : List ℕ) : Type 0 where
  pub part : SaysPart k bytes
  pub short : nat_le (length k.to_send) 56 ≡ true
  pub some : 1 ≤ length k.to_send
  pub messages : said (Said bytes ∷ turns) ≡ said turns ++ (half_said turns ++ k.to_send) ∷ []
  pub half : half_said (Said bytes ∷ turns) ≡ []

past_part : (b stop : Bool) (part : Fragment) (half more : List ℕ) (messages : List (List ℕ)) → b ≡ true → part.stop ≡ stop → part.bytes ≡ more
    → (whole_past b part half messages ≡ whole_by stop (half ++ more) messages) × (half_past b part half ≡ half_past true (record { start = part.start; stop = stop; bytes = more }) half)
past_part true stop part half more messages is stops carries = (
  ap (λ (c : Bool). whole_by c (half ++ part.bytes) messages) stops ∙ ap (λ (xs : List ℕ). whole_by stop (half ++ xs) messages) carries,
  ap (λ (c : Bool). half_past true (record { start = part.start; stop = c; bytes = part.bytes }) half) stops
      ∙ ap (λ (xs : List ℕ). half_past true (record { start = part.start; stop = stop; bytes = xs }) half) carries,
)
past_part false stop part half more messages is stops carries = absurd (cc is)

pub says_more : (k : LinkState) (turns : List Utterance) (bytes : List ℕ) → SaysPart k bytes → nat_le (length k.to_send) 56 ≡ false → SaysMore k turns bytes
says_more k turns bytes part long = search

pub says_last : (k : LinkState) (turns : List Utterance) (bytes : List ℕ) → SaysPart k bytes → 1 ≤ length k.to_send → length k.to_send ≤ 56 → nat_le (length k.to_send) 56 ≡ true
    → SaysLast k turns bytes
says_last k turns bytes part some few short =
    let past = past_part (is_part bytes) true (fragment_at bytes) (half_said turns) k.to_send (said turns) part.part (part.stops ∙ short)
    (part.carries ∙ take_all 56 k.to_send few) in
    record { part = part; short = short; some = some; messages = past.0; half = past.1 }

-- WHAT IS HEARD: with a message that became whole, where one did
abbrev pub with_whole : Option (List ℕ) → List (List ℕ) → List (List ℕ)
with_whole None messages = messages
with_whole (Some message) messages = messages ++ message ∷ []

-- the message is what had come of it with the bytes of the packet, which ends it
pub record EndsBy (turns : List Utterance) (bytes message : List ℕ) : Type 0 where
  pub part : is_part bytes ≡ true
  pub stop : (fragment_at bytes).stop ≡ true
  pub is : message ≡ half_heard turns ++ (fragment_at bytes).bytes

abbrev pub EndsWhole : List Utterance → List ℕ → Option (List ℕ) → Type 0
EndsWhole turns bytes None = Unit {0}
EndsWhole turns bytes (Some message) = EndsBy turns bytes message

pub record HearsOn (turns : List Utterance) (bytes : List ℕ) (whole : Option (List ℕ)) : Type 0 where
  pub messages : heard (Heard bytes ∷ turns) ≡ with_whole whole (heard turns)
  pub ends : EndsWhole turns bytes whole

pub hears_on : (k m : LinkState) (turns : List Utterance) (bytes : List ℕ) → k.whole ≡ None → Follows k turns → LinkHeard k bytes m → HearsOn turns bytes m.whole
hears_on k m turns bytes none follows heard_holds = grind (arith, half_heard_is)

-- THE MESSAGE that a packet ends is the one that the turns have more
same_last : (xs : List (List ℕ)) (a b : List ℕ) → xs ++ a ∷ [] ≡ xs ++ b ∷ [] → a ≡ b
same_last [] a b is = cc
same_last (x ∷ xs) a b is = same_last xs a b (tail_of (x ∷ (xs ++ a ∷ [])) (x ∷ (xs ++ b ∷ [])) is)
  where
    tail_of : (ys zs : List (List ℕ)) → ys ≡ zs → drop 1 ys ≡ drop 1 zs
    tail_of ys zs same = ap (λ (l : List (List ℕ)). drop 1 l) same

never_last : (xs : List (List ℕ)) (a : List ℕ) → xs ≡ xs ++ a ∷ [] → ⊥
never_last xs a is = omega (arith, ap length is, length-append xs (a ∷ []))

ended_with : (b c : Bool) (f : Fragment) (half : List ℕ) (messages : List (List ℕ)) (bytes : List ℕ) → f.stop ≡ c → whole_past b f half messages ≡ messages ++ bytes ∷ []
    → whole_with (b && c) (half ++ f.bytes) ≡ Some bytes
ended_with true true f half messages bytes stop is =
    ap (λ (xs : List ℕ). Some xs) (same_last messages (half ++ f.bytes) bytes (sym (ap (λ (d : Bool). whole_by d (half ++ f.bytes) messages) stop) ∙ is))
ended_with true false f half messages bytes stop is =
    absurd (never_last messages bytes (sym (ap (λ (d : Bool). whole_by d (half ++ f.bytes) messages) stop) ∙ is))
ended_with false c f half messages bytes stop is = absurd (never_last messages bytes is)

none_with : (b c : Bool) (f : Fragment) (half : List ℕ) (messages : List (List ℕ)) → f.stop ≡ c → whole_past b f half messages ≡ messages → whole_with (b && c) (half ++ f.bytes) ≡ None
none_with true true f half messages stop is =
    absurd (never_last messages (half ++ f.bytes) (sym is ∙ ap (λ (d : Bool). whole_by d (half ++ f.bytes) messages) stop))
none_with true false f half messages stop is = refl
none_with false c f half messages stop is = refl

pub heard_none : (turns : List Utterance) (packet : List ℕ) → heard (Heard packet ∷ turns) ≡ heard turns → ended_by (half_heard turns) packet ≡ None
heard_none turns packet is = none_with (is_part packet) (fragment_at packet).stop (fragment_at packet) (half_heard turns) (heard turns) refl is

pub heard_some : (turns : List Utterance) (packet bytes : List ℕ) → heard (Heard packet ∷ turns) ≡ heard turns ++ bytes ∷ [] → ended_by (half_heard turns) packet ≡ Some bytes
heard_some turns packet bytes is = ended_with (is_part packet) (fragment_at packet).stop (fragment_at packet) (half_heard turns) (heard turns) bytes refl is

pub said_none : (turns : List Utterance) (packet : List ℕ) → said (Said packet ∷ turns) ≡ said turns → ended_by (half_said turns) packet ≡ None
said_none turns packet is = none_with (is_part packet) (fragment_at packet).stop (fragment_at packet) (half_said turns) (said turns) refl is

pub said_some : (turns : List Utterance) (packet bytes : List ℕ) → said (Said packet ∷ turns) ≡ said turns ++ bytes ∷ [] → ended_by (half_said turns) packet ≡ Some bytes
said_some turns packet bytes is = ended_with (is_part packet) (fragment_at packet).stop (fragment_at packet) (half_said turns) (said turns) bytes refl is
