-- How many packets wait for an end, by the messages that its peer said and that it hasn't heard: all parts of a message but the last have 56
-- bytes.
use Rattle.std.proofs.Common.{◌≡◌, ℕ, ◌+◌, ◌*◌, ◌≤◌, Bool, true, false, List, [], ◌∷◌, ◌++◌, length, refl, sym, ap, ◌∙◌, subst, arith, length-append}
use Rattle.std.specs.Prelude.{⊤}
use Rattle.std.proofs.lemmas.List.{append-nil}
use Rattle.runs.specs.Run.{Run}
use Rattle.ldc_link.proofs.Following.{parts_more, quiet}
use Rattle.ldc_link.specs.declared.phase.Role.{Role}
use Rattle.ldc_link.specs.declared.phase.Role.TheVariants.{Initiator, Responder}
use Rattle.ldc_queue.proofs.Messages.{fragments_in-append, half_in-append, whole_in-append}
use Rattle.ldc_queue.specs.declared.end.ChannelState.TheVariants.{Up}
use Rattle.ldc_queue.specs.Fragments.{Fragment, fragment_at, fragments_in, is_part, joins}
use Rattle.ldc_queue.specs.Messages.{AllMayCome, half_in, half_with, whole_in, whole_with}
use Rattle.ldc_queue.specs.Numbered.{is_numbered, kept, numbered}
use Rattle.ldc_queue.specs.OneStream.{OneWay, live}
use Rattle.ldc_queue.specs.Transcript.{Said, Utterance, numbered_heard, numbered_said}
use Rattle.vio_handshake.specs.declared.session.Offer.{Offer}
use Rattle.lane_models.proofs.SameSayings.{half_said_is, heard_is, said_is}
use Rattle.lane_models.specs.Sayings.{half_said, heard, said}
use Rattle.lane_models.specs.WireAt.{IsSaid, IsSaidPart}
use Rattle.lane_models.proofs.EndStanding.{fresh_end_stands, stands_step}
use Rattle.lane_models.proofs.Lifting.{EndsAll, ends_run}
use Rattle.lane_models.proofs.TakenInOrder.{part_is}
use Rattle.lane_models.proofs.Numbering.{end_said}
use Rattle.lane_models.proofs.PartsSaid.{PartsSaid}
use Rattle.lane_models.specs.Conversing.{Converse}
use Rattle.lane_models.specs.EndCore.{EndCore, EndMove}
use Rattle.lane_models.specs.EndStep.{EndStep}
use Rattle.lane_models.specs.LaneCore.{CoreEvent, CoreFits, CoreStep, LaneCore, fresh_core, transcript_behind, utterances_after}
use Rattle.lane_models.specs.LinkPlaces.{AllNumbered, BothUp, EachPart, LinkPlace, LinksAt, ReadyFirst, SaidInPlace, HeardInPlace}
use Rattle.lane_models.specs.LinkPlaces as link
use Rattle.lane_models.specs.Sides.{Sides}
use Rattle.lane_models.specs.Standing.{EndStands}
use Rattle.lane_models.proofs.LinkPlaced.{up_live}
use Rattle.lane_models.proofs.NextPacket.{none_of}

-- A PART that isn't the last of its message has 56 bytes
abbrev pub IsLong : Fragment → Type 0
IsLong part = part.stop ≡ false → length part.bytes ≡ 56

abbrev pub AllLong : List Fragment → Type 0
AllLong [] = ⊤
AllLong (part ∷ parts) = IsLong part × AllLong parts

abbrev pub LongSaid : List Utterance → Type 0
LongSaid turns = AllLong (fragments_in (numbered_said turns))

long_more : (xs : List Fragment) (part : Fragment) → AllLong xs → IsLong part → AllLong (xs ++ part ∷ [])
long_more [] part all long = (long, tt)
long_more (x ∷ xs) part all long = (all.0, long_more xs part all.1 long)

long_behind : (xs ys : List Fragment) → AllLong (xs ++ ys) → AllLong ys
long_behind [] ys all = all
long_behind (x ∷ xs) ys all = long_behind xs ys all.1

come_behind : (half : List ℕ) (xs ys : List Fragment) → AllMayCome half (xs ++ ys) → AllMayCome (half_in half xs) ys
come_behind half [] ys all = all
come_behind half (x ∷ xs) ys all = come_behind (half_with x.stop (half ++ x.bytes)) xs ys all.1

-- A PACKET that is said
says_long : (turns : List Utterance) (bytes : List ℕ) → IsSaid turns bytes → LongSaid turns → LongSaid (Said bytes ∷ turns)
says_long turns bytes said_so all = by_number (is_numbered bytes) refl
  where
    by_part : (b : Bool) → is_numbered bytes ≡ true → is_part bytes ≡ b → LongSaid (Said bytes ∷ turns)
    by_part true has part =
        let here : IsSaidPart (half_said turns) (fragment_at bytes) = said_so.part part in
        subst AllLong (sym (parts_more true bytes (fragment_at bytes) (numbered_said turns) has part (λ one. refl)))
        (long_more (fragments_in (numbered_said turns)) (fragment_at bytes) all here.long)
    by_part false has part =
        subst AllLong (sym (parts_more false bytes (fragment_at bytes) (numbered_said turns) has part (λ never. refl) ∙ append-nil (fragments_in (numbered_said turns)))) all

    by_number : (b : Bool) → is_numbered bytes ≡ b → LongSaid (Said bytes ∷ turns)
    by_number true has = by_part (is_part bytes) has refl
    by_number false has = subst (λ (packets : List (List ℕ)). AllLong (fragments_in packets)) (sym (quiet bytes (numbered_said turns) has)) all

pub record SaysLong (role : Role) (c : EndCore) (turns : List Utterance) : Type 0 where
  pub stands : EndStands role c turns
  pub long : LongSaid turns

long_move : (role : Role) (c : EndCore) (move : EndMove) (t : EndCore) (turns : List Utterance) → SaysLong role c turns → EndStep role c move t → LongSaid (utterances_after turns move)
long_move role c move t turns says step = grind (arith, says_long, end_said)

pub long_run : (entries : ℕ) (asks answers : Offer) (events : List CoreEvent) (s : LaneCore) → CoreFits entries asks answers
    → Run CoreStep (fresh_core entries asks answers) events s → EndsAll SaysLong s (transcript_behind events)
long_run entries asks answers events s fits run =
    ends_run SaysLong
    (λ role c move t turns says step. record { stands = stands_step role c move t turns says.stands step; long = long_move role c move t turns says step })
    entries asks answers events s (record { stands = fresh_end_stands Initiator asks fits.asks_fit.form.most; long = tt })
    (record { stands = fresh_end_stands Responder answers fits.answers_fit.form.most; long = tt }) run

-- THE PARTS of messages: 56 bytes of room for each part, and no more than 55 bytes beside its own for a message
abbrev pub room_of : List (List ℕ) → ℕ
room_of [] = 0
room_of (message ∷ messages) = length message + 55 + room_of messages

one_part : (b : Bool) (half bytes : List ℕ) (parts : List Fragment) → 1 ≤ length bytes → (b ≡ false → length bytes ≡ 56)
    → 56 * length parts + length (half_with b (half ++ bytes)) ≤ room_of (whole_in (half_with b (half ++ bytes)) parts) + length (half_in (half_with b (half ++ bytes)) parts)
    → 56 * (length parts + 1) + length half
    ≤ room_of (whole_with b (half ++ bytes) (whole_in (half_with b (half ++ bytes)) parts)) + length (half_in (half_with b (half ++ bytes)) parts)
one_part true half bytes parts some long rest = omega (arith, some, rest, length-append half bytes)
one_part false half bytes parts some long rest =
    let all : length bytes ≡ 56 = long refl in omega (arith, all, rest, length-append half bytes)

few_parts : (half : List ℕ) (parts : List Fragment) → AllMayCome half parts → AllLong parts → 56 * length parts + length half ≤ room_of (whole_in half parts) + length (half_in half parts)
few_parts half [] all long = omega arith
few_parts half (part ∷ parts) all long =
    let rest = few_parts (half_with part.stop (half ++ part.bytes)) parts all.1 long.1 in
    let one = one_part part.stop half part.bytes parts all.0.2 long.0 rest in omega (arith, one)

-- WHAT WAITS is parts alone, once RDX was heard
each_behind : (xs ys : List (List ℕ)) → EachPart (xs ++ ys) → EachPart ys
each_behind [] ys all = all
each_behind (x ∷ xs) ys all = each_behind xs ys all.1

ready_behind : (xs ys : List (List ℕ)) → ReadyFirst (xs ++ ys) → 1 ≤ length xs → EachPart ys
ready_behind [] ys all some = absurd (omega (arith, some))
ready_behind (x ∷ xs) ys all some = each_behind xs ys all.1

parts_many : (packets : List (List ℕ)) → EachPart packets → length (fragments_in packets) ≡ length packets
parts_many [] all = refl
parts_many (packet ∷ packets) all =
    let one : fragments_in (packet ∷ packets) ≡ fragment_at packet ∷ fragments_in packets = ap (λ (b : Bool). joins b (fragment_at packet) (fragments_in packets)) (part_is packet all.0) in
    omega (arith, ap length one, parts_many packets all.1)

all_numbered : (packets : List (List ℕ)) → AllNumbered packets → numbered packets ≡ packets
all_numbered [] all = refl
all_numbered (packet ∷ packets) all = ap (λ (b : Bool). kept b packet (numbered packets)) all.0 ∙ ap (λ (xs : List (List ℕ)). packet ∷ xs) (all_numbered packets all.1)

-- THE MESSAGES that the responder hasn't heard, and how many packets that makes
pub record Unheard (s : Sides) : Type 0 where
  pub messages : List (List ℕ)
  pub says : said s.mine.utterances ≡ heard s.theirs.utterances ++ messages
  pub few : 56 * length s.theirs.waiting ≤ room_of messages + length (half_said s.mine.utterances)

pub unheard : (s : Sides) → Converse Initiator s → (at : LinksAt Initiator s) → at.place ≡ BothUp → s.lossy ≡ false → s.mine.state ≡ Up → s.theirs.state ≡ Up → PartsSaid s.mine.utterances
    → LongSaid s.mine.utterances → Unheard s
unheard s converse at both whole up other_up parts long = record {
  messages = whole_in half_first (fragments_in waits);
  says = said_is s.mine.utterances ∙ ap (whole_in []) split ∙ whole_in-append [] first (fragments_in waits)
      ∙ ap (λ (xs : List (List ℕ)). xs ++ whole_in half_first (fragments_in waits)) (sym (heard_is s.theirs.utterances));
  few = omega (arith, few, many, ap length half_is);
}
  where
    took : List (List ℕ)
    took = numbered_heard s.theirs.utterances

    waits : List (List ℕ)
    waits = s.theirs.waiting

    first : List Fragment
    first = fragments_in took

    half_first : List ℕ
    half_first = half_in [] first

    way : OneWay (live s.mine.state (numbered_said s.mine.utterances)) (live s.theirs.state took) (numbered waits) converse.lost_theirs
    way = converse.stream.to_b

    gone : way.gone ≡ []
    gone = none_of way.gone (omega (arith, way.few, (converse.whole whole).1))

    numbers : AllNumbered waits
    numbers = subst (λ (p : LinkPlace). link.WaitsAt Responder s.lossy p waits) both at.to_theirs

    put : numbered_said s.mine.utterances ≡ took ++ waits
    put =
        sym (up_live s.mine.state (numbered_said s.mine.utterances) up) ∙ way.is ∙ ap (λ (xs : List (List ℕ)). live s.theirs.state took ++ (xs ++ numbered waits)) gone
        ∙ ap (λ (xs : List (List ℕ)). live s.theirs.state took ++ xs) (all_numbered waits numbers) ∙ ap (λ (xs : List (List ℕ)). xs ++ waits) (up_live s.theirs.state took other_up)

    split : fragments_in (numbered_said s.mine.utterances) ≡ first ++ fragments_in waits
    split = ap fragments_in put ∙ fragments_in-append took waits

    ready : ReadyFirst (took ++ waits)
    ready =
        subst ReadyFirst (up_live s.mine.state (numbered_said s.mine.utterances) up ∙ put)
        (subst (λ (p : LinkPlace). SaidInPlace Initiator p (live s.mine.state (numbered_said s.mine.utterances))) both at.said_mine)

    some : 1 ≤ length took
    some =
        subst (λ (xs : List (List ℕ)). 1 ≤ length xs) (up_live s.theirs.state took other_up)
        (subst (λ (p : LinkPlace). HeardInPlace Responder p (live s.theirs.state took)) both at.heard_theirs)

    many : length (fragments_in waits) ≡ length waits
    many = parts_many waits (ready_behind took waits ready some)

    few : 56 * length (fragments_in waits) + length half_first ≤ room_of (whole_in half_first (fragments_in waits)) + length (half_in half_first (fragments_in waits))
    few = few_parts half_first (fragments_in waits) (come_behind [] first (fragments_in waits) (subst (AllMayCome []) split parts)) (long_behind first (fragments_in waits) (subst AllLong split long))

    half_is : half_in half_first (fragments_in waits) ≡ half_said s.mine.utterances
    half_is = sym (half_said_is s.mine.utterances ∙ ap (half_in []) split ∙ half_in-append [] first (fragments_in waits))
