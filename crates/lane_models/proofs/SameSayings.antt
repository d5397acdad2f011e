-- The counts of a transcript, turn by turn, are what its numbered packets make in their order.
use Rattle.std.proofs.Common.{◌≡◌, ℕ, Bool, true, false, ◌||◌, List, [], ◌∷◌, ◌++◌, refl, sym, ap, ◌∙◌}
use Rattle.std.specs.Prelude.{nat_eq, ◌&&◌}
use Rattle.std.proofs.lemmas.List.{append-nil}
use Rattle.ldc_packet.specs.Spelling.{ctrl_at, type_at}
use Rattle.ldc_queue.proofs.Messages.{fragments_in-append, half_in-append, whole_in-append}
use Rattle.ldc_queue.specs.Fragments.{Fragment, fragment_at, fragments_in, is_part, joins}
use Rattle.ldc_queue.specs.Messages as in_order
use Rattle.ldc_queue.specs.Messages.{half_in, half_with, messages_heard, messages_said, whole_in, whole_with}
use Rattle.ldc_queue.specs.Numbered.{kept, numbered}
use Rattle.ldc_queue.specs.Transcript.{Heard, Said, Utterance, numbered_heard, numbered_said}
use Rattle.lane_models.specs.Sayings.{half_heard, half_past, half_said, heard, said, whole_by, whole_past}

-- the part of one packet, if it has one: each part has a number
kept_part : (b c : Bool) (packet : List ℕ) → is_part packet ≡ b → fragments_in (kept (b || c) packet []) ≡ joins b (fragment_at packet) []
kept_part true c packet is = ap (λ (x : Bool). joins x (fragment_at packet) []) is
kept_part false true packet is = ap (λ (x : Bool). joins x (fragment_at packet) []) is
kept_part false false packet is = refl

part_of : (packet : List ℕ) → fragments_in (numbered (packet ∷ [])) ≡ joins (is_part packet) (fragment_at packet) []
part_of packet = kept_part (is_part packet) (nat_eq (type_at packet) 1 && nat_eq (ctrl_at packet) 4) packet refl

-- one part more
half_more : (b : Bool) (part : Fragment) (parts : List Fragment) → half_in [] (parts ++ joins b part []) ≡ half_past b part (half_in [] parts)
half_more true part parts = half_in-append [] parts (part ∷ [])
half_more false part parts = ap (half_in []) (append-nil parts)

whole_more_by : (b : Bool) (message : List ℕ) (messages : List (List ℕ)) → messages ++ whole_with b message [] ≡ whole_by b message messages
whole_more_by true message messages = refl
whole_more_by false message messages = append-nil messages

whole_more : (b : Bool) (part : Fragment) (parts : List Fragment) → whole_in [] (parts ++ joins b part []) ≡ whole_past b part (half_in [] parts) (whole_in [] parts)
whole_more true part parts =
    whole_in-append [] parts (part ∷ []) ∙ whole_more_by part.stop (half_in [] parts ++ part.bytes) (whole_in [] parts)
whole_more false part parts = ap (whole_in []) (append-nil parts)

-- the parts of one packet more
parts_more : (packets : List (List ℕ)) (packet : List ℕ)
    → fragments_in (packets ++ numbered (packet ∷ [])) ≡ fragments_in packets ++ joins (is_part packet) (fragment_at packet) []
parts_more packets packet =
    fragments_in-append packets (numbered (packet ∷ [])) ∙ ap (λ (parts : List Fragment). fragments_in packets ++ parts) (part_of packet)

pub half_said_is : (turns : List Utterance) → half_said turns ≡ in_order.unfinished_said turns
half_said_is [] = refl
half_said_is (Heard packet ∷ turns) = half_said_is turns
half_said_is (Said packet ∷ turns) =
    ap (half_past (is_part packet) (fragment_at packet)) (half_said_is turns)
    ∙ sym (ap (half_in []) (parts_more (numbered_said turns) packet) ∙ half_more (is_part packet) (fragment_at packet) (fragments_in (numbered_said turns)))

pub half_heard_is : (turns : List Utterance) → half_heard turns ≡ in_order.unfinished_heard turns
half_heard_is [] = refl
half_heard_is (Said packet ∷ turns) = half_heard_is turns
half_heard_is (Heard packet ∷ turns) =
    ap (half_past (is_part packet) (fragment_at packet)) (half_heard_is turns)
    ∙ sym (ap (half_in []) (parts_more (numbered_heard turns) packet) ∙ half_more (is_part packet) (fragment_at packet) (fragments_in (numbered_heard turns)))

pub said_is : (turns : List Utterance) → said turns ≡ messages_said turns
said_is [] = refl
said_is (Heard packet ∷ turns) = said_is turns
said_is (Said packet ∷ turns) =
    ap (λ (half : List ℕ). whole_past (is_part packet) (fragment_at packet) half (said turns)) (half_said_is turns)
    ∙ ap (whole_past (is_part packet) (fragment_at packet) (in_order.unfinished_said turns)) (said_is turns)
    ∙ sym (ap (whole_in []) (parts_more (numbered_said turns) packet) ∙ whole_more (is_part packet) (fragment_at packet) (fragments_in (numbered_said turns)))

pub heard_is : (turns : List Utterance) → heard turns ≡ messages_heard turns
heard_is [] = refl
heard_is (Said packet ∷ turns) = heard_is turns
heard_is (Heard packet ∷ turns) =
    ap (λ (half : List ℕ). whole_past (is_part packet) (fragment_at packet) half (heard turns)) (half_heard_is turns)
    ∙ ap (whole_past (is_part packet) (fragment_at packet) (in_order.unfinished_heard turns)) (heard_is turns)
    ∙ sym (ap (whole_in []) (parts_more (numbered_heard turns) packet) ∙ whole_more (is_part packet) (fragment_at packet) (fragments_in (numbered_heard turns)))
