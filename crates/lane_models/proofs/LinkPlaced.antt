-- Each act of an end keeps the two links at one place of their handshake, where nobody forged.
use Rattle.std.proofs.Common.{◌≡◌, ℕ, ◌≤◌, ◌<◌, Bool, true, false, List, [], ◌∷◌, ◌++◌, drop, length, Some, inr, refl, sym, ap, ◌∙◌, subst, arith, length-append}
use Rattle.std.specs.Prelude.{slice_get}
use Rattle.ldc_packet.proofs.Reading.{unpacked}
use Rattle.ldc_packet.specs.declared.packet.Body.TheVariants.{Rdx}
use Rattle.ldc_packet.specs.declared.packet.Packet.{Packet}
use Rattle.ldc_packet.specs.declared.packet.Subtype.TheVariants.{Ack, Info}
use Rattle.ldc_packet.specs.Decoding.{Unpacks}
use Rattle.ldc_packet.specs.Form.{HasWidths, IsWellFormed}
use Rattle.ldc_packet.specs.Spelling.{canonical}
use Rattle.ldc_link.proofs.Following.{loud, quiet}
use Rattle.ldc_link.proofs.Saying.{first_form}
use Rattle.ldc_link.specs.declared.phase.LinkPhase.{LinkPhase}
use Rattle.ldc_link.specs.declared.phase.LinkPhase.TheVariants as phase
use Rattle.ldc_link.specs.declared.phase.Role.{Role}
use Rattle.ldc_link.specs.declared.phase.Role.TheVariants.{Initiator, Responder}
use Rattle.ldc_link.specs.LinkState.{LinkState, first_phase}
use Rattle.ldc_link.specs.Putting.{first_part}
use Rattle.ldc_link.specs.Taking.{Heard, LinkTake, TakesBytes, goes_to, in_mode, link_take, phase_behind_rtr, phase_behind_rts, phase_behind_vers, takes_decoded}
use Rattle.ldc_link.specs.Following.{Follows}
use Rattle.ldc_queue.specs.declared.end.ChannelState.{ChannelState}
use Rattle.ldc_queue.specs.declared.end.ChannelState.TheVariants.{Down, Resetting, Up}
use Rattle.ldc_queue.specs.Numbered.{is_numbered, numbered}
use Rattle.ldc_queue.specs.OneStream.{live}
use Rattle.ldc_queue.specs.Transcript.{Utterance, numbered_heard, numbered_said}
use Rattle.vio_handshake.specs.declared.session.Offer.{Offer}
use Rattle.lane_models.specs.TranscriptLog.{nothing_said}
use Rattle.ldc_queue.specs.Wire.{peer_behind, queue_behind, upset}
use Rattle.lane_models.specs.WireLog.{lossy_behind}
use Rattle.lane_models.proofs.Conversations.{held_phase}
use Rattle.lane_models.proofs.EndCases.{end_took}
use Rattle.lane_models.proofs.EndStanding.{held_stands}
use Rattle.lane_models.proofs.Lifting.{ActsKeep}
use Rattle.lane_models.proofs.LinkCases.{ControlGone, LinkHeard, LinkPut, ModeAnswered as ModeAnswered_, ModeOffered, PartGone, ReadyGone, VersionAnswered as VersionAnswered_, VersionOffered, VersionRefused, canonical_is, link_put, part_loud, put_quiet, ready_loud}
use Rattle.lane_models.proofs.UtteranceCases.{SaysPart, says_part}
use Rattle.lane_models.specs.EndCore.{EndCore}
use Rattle.lane_models.specs.EndStep.{EndAnew, EndHears, EndSays}
use Rattle.lane_models.specs.LinkPlaces.{AllNumbered, AnswerTaken, AtMost, BothUp, EachPart, HeardInPlace, IsPartOf, IsReady, LinkPlace, LinksAt, ModeAgreed, ModeAnswered, ModePut, ModeTaken, NothingPut, ReadyFirst, ReadyPut, SaidInPlace, VersionAnswered, VersionPut, VersionTaken, WaitsAt, live_phase, mode_answer, mode_offer, phase_at, version_answer, version_offer}
use Rattle.lane_models.specs.LaneCore.{fresh_core}
use Rattle.lane_models.specs.Sides.{Sides, anew, goes_on, missed, other, put, shut, sides_of, swapped, took}
use Rattle.lane_models.specs.Standing.{EndStands}

-- FROM THE OTHER SIDE
pub swap_links : (role : Role) (s : Sides) → LinksAt role s → LinksAt (other role) (swapped s)
swap_links role s at = grind arith

-- IT GOES ON
goes_links : (role : Role) (s : Sides) (t : EndCore) → t.link.phase ≡ s.mine.core.link.phase → LinksAt role s → LinksAt role (goes_on t s)
goes_links role s t same at = grind arith

-- IT BEGINS, or is closed
at_first : (role : Role) → first_phase role ≡ phase_at role NothingPut
at_first Initiator = refl
at_first Responder = refl

-- both begin
emptied : (role : Role) (s : Sides) (state : ChannelState) (lossy : Bool) (t : EndCore) → live_phase state (first_phase role) t.link.phase ≡ first_phase role
    → LinksAt role (record s { lossy = lossy; mine = record { state = state; waiting = []; core = t; utterances = [] }; theirs = record s.theirs { state = upset s.theirs.state; waiting = [] } })
emptied role s state lossy t first = grind (arith, at_first)

-- one that wasn't up counted as one that begins
woken : (role : Role) (s : Sides) (t : EndCore) → t.link.phase ≡ first_phase role → live_phase s.mine.state (first_phase role) s.mine.core.link.phase ≡ first_phase role
    → live s.mine.state (numbered_said s.mine.utterances) ≡ [] → live s.mine.state (numbered_heard s.mine.utterances) ≡ [] → LinksAt role s
    → LinksAt role (record s { mine = record { state = Up; waiting = s.mine.waiting; core = t; utterances = [] } })
woken role s t first was said heard at = grind arith

abbrev anew_in : ChannelState → EndCore → Sides → Sides
anew_in x t s = record s {
  lossy = lossy_behind x s.lossy;
  mine = record { state = Up; waiting = queue_behind x s.mine.waiting; core = t; utterances = [] };
  theirs = record s.theirs { state = peer_behind x s.theirs.state; waiting = queue_behind x s.theirs.waiting };
}

anew_links : (role : Role) (s : Sides) (t : EndCore) → EndAnew role s.mine.core t → LinksAt role s → LinksAt role (anew t s)
anew_links role s t begins at = by_state s.mine.state refl
  where
    first : t.link.phase ≡ first_phase role
    first = ap (λ (k : LinkState). k.phase) begins.link

    woken_in : (x : ChannelState) → s.mine.state ≡ x → live_phase x (first_phase role) s.mine.core.link.phase ≡ first_phase role → live x (numbered_said s.mine.utterances) ≡ []
        → live x (numbered_heard s.mine.utterances) ≡ [] → LinksAt role (record s { mine = record { state = Up; waiting = s.mine.waiting; core = t; utterances = [] } })
    woken_in x is was said heard =
        woken role s t first (ap (λ (y : ChannelState). live_phase y (first_phase role) s.mine.core.link.phase) is ∙ was)
        (ap (λ (y : ChannelState). live y (numbered_said s.mine.utterances)) is ∙ said) (ap (λ (y : ChannelState). live y (numbered_heard s.mine.utterances)) is ∙ heard) at

    by_state : (x : ChannelState) → s.mine.state ≡ x → LinksAt role (anew t s)
    by_state Up is = subst (λ (x : ChannelState). LinksAt role (anew_in x t s)) (sym is) (emptied role s Up false t first)
    by_state Down is = subst (λ (x : ChannelState). LinksAt role (anew_in x t s)) (sym is) (woken_in Down is refl refl refl)
    by_state Resetting is = subst (λ (x : ChannelState). LinksAt role (anew_in x t s)) (sym is) (woken_in Resetting is refl refl refl)

shut_links : (role : Role) (s : Sides) (t : EndCore) → LinksAt role (shut t s)
shut_links role s t = emptied role s Down false t refl

-- ONE IS LOST
all_less : (waiting : List (List ℕ)) → AllNumbered waiting → AllNumbered (drop 1 waiting)
all_less [] all = tt
all_less (one ∷ waiting) all = all.1

waits_less : (role : Role) (lossy : Bool) (place : LinkPlace) (waiting : List (List ℕ)) → WaitsAt role lossy place waiting → WaitsAt role true place (drop 1 waiting)
waits_less role lossy place waiting most = grind arith

-- the other packet may have been lost as well
waits_lossy : (role : Role) (lossy : Bool) (place : LinkPlace) (waiting : List (List ℕ)) → WaitsAt role lossy place waiting → WaitsAt role true place waiting
waits_lossy role lossy place waiting most = grind arith

missed_links : (role : Role) (s : Sides) → LinksAt role s → LinksAt role (missed s)
missed_links role s at = search (waits_less, waits_lossy)

-- FROM ONE PLACE TO ANOTHER: what a packet that is put changes
record PutPlace (role : Role) (place : LinkPlace) (bytes : List ℕ) (now : LinkPhase) : Type 0 where
  next : LinkPlace
  mine : now ≡ phase_at role next
  theirs : phase_at (other role) place ≡ phase_at (other role) next
  to_mine : (lossy : Bool) (waiting : List (List ℕ)) → WaitsAt role lossy place waiting → WaitsAt role lossy next waiting
  to_theirs : (lossy : Bool) (waiting : List (List ℕ)) → WaitsAt (other role) lossy place waiting → WaitsAt (other role) lossy next (waiting ++ bytes ∷ [])
  said_mine : (packets : List (List ℕ)) → SaidInPlace role place packets → SaidInPlace role next (packets ++ numbered (bytes ∷ []))
  said_theirs : (packets : List (List ℕ)) → SaidInPlace (other role) place packets → SaidInPlace (other role) next packets
  heard_mine : (packets : List (List ℕ)) → HeardInPlace role place packets → HeardInPlace role next packets
  heard_theirs : (packets : List (List ℕ)) → HeardInPlace (other role) place packets → HeardInPlace (other role) next packets

-- with one packet more
all_more : (packets : List (List ℕ)) (bytes : List ℕ) → AllNumbered packets → is_numbered bytes ≡ true → AllNumbered (packets ++ bytes ∷ [])
all_more [] bytes all one = (one, tt)
all_more (packet ∷ packets) bytes all one = (all.0, all_more packets bytes all.1 one)

parts_more : (packets : List (List ℕ)) (bytes : List ℕ) → EachPart packets → IsPartOf bytes → EachPart (packets ++ bytes ∷ [])
parts_more [] bytes each one = (one, tt)
parts_more (packet ∷ packets) bytes each one = (each.0, parts_more packets bytes each.1 one)

one_waits : (waiting : List (List ℕ)) (bytes : List ℕ) (p : Packet) → waiting ≡ [] → bytes ≡ canonical p → waiting ++ bytes ∷ [] ≡ canonical p ∷ []
one_waits waiting bytes p none is = ap (λ (q : List (List ℕ)). q ++ bytes ∷ []) none ∙ ap (λ (b : List ℕ). b ∷ []) is

-- the places of a phase in which something is owed
offers_at : (role : Role) (place : LinkPlace) → phase.OwesVersInfo ≡ phase_at role place → (role ≡ Initiator) × (place ≡ NothingPut)
offers_at role place is = grind arith

answers_at : (role : Role) (place : LinkPlace) → phase.OwesVersAck ≡ phase_at role place → (role ≡ Responder) × (place ≡ VersionTaken)
answers_at role place is = grind arith

refuses_at : (role : Role) (place : LinkPlace) (major : ℕ) → phase.OwesVersNack major ≡ phase_at role place → ⊥
refuses_at role place major is = grind arith

asks_mode_at : (role : Role) (place : LinkPlace) → phase.OwesRts ≡ phase_at role place → (role ≡ Initiator) × (place ≡ AnswerTaken)
asks_mode_at role place is = grind arith

agrees_mode_at : (role : Role) (place : LinkPlace) → phase.OwesRtr ≡ phase_at role place → (role ≡ Responder) × (place ≡ ModeTaken)
agrees_mode_at role place is = grind arith

pub ready_at : (role : Role) (place : LinkPlace) → phase.OwesRdx ≡ phase_at role place → (role ≡ Initiator) × (place ≡ ModeAgreed)
ready_at role place is = grind arith

-- at a role and a place that are known
put_at : (role r : Role) (place p : LinkPlace) (bytes : List ℕ) (now : LinkPhase) → (role ≡ r) × (place ≡ p) → PutPlace r p bytes now → PutPlace role place bytes now
put_at role r place p bytes now is at =
    subst (λ (x : Role). PutPlace x place bytes now) (sym is.0) (subst (λ (x : LinkPlace). PutPlace r x bytes now) (sym is.1) at)

quietly : (bytes : List ℕ) (packets : List (List ℕ)) → is_numbered bytes ≡ false → packets ≡ [] → packets ++ numbered (bytes ∷ []) ≡ []
quietly bytes packets has none = quiet bytes packets has ∙ none

offer_put : (bytes : List ℕ) (now : LinkPhase) → bytes ≡ canonical version_offer → is_numbered bytes ≡ false → now ≡ phase.AwaitsVersAck → PutPlace Initiator NothingPut bytes now
offer_put bytes now is has goes = record {
  next = VersionPut;
  mine = goes;
  theirs = refl;
  to_mine = λ lossy waiting none. none;
  to_theirs = λ lossy waiting none. inr (one_waits waiting bytes version_offer none is);
  said_mine = λ packets none. quietly bytes packets has none;
  said_theirs = λ packets none. none;
  heard_mine = λ packets any. any;
  heard_theirs = λ packets none. none;
}

answer_put : (bytes : List ℕ) (now : LinkPhase) → bytes ≡ canonical version_answer → is_numbered bytes ≡ false → now ≡ phase.AwaitsRts → PutPlace Responder VersionTaken bytes now
answer_put bytes now is has goes = record {
  next = VersionAnswered;
  mine = goes;
  theirs = refl;
  to_mine = λ lossy waiting none. none;
  to_theirs = λ lossy waiting none. inr (one_waits waiting bytes version_answer none is);
  said_mine = λ packets none. quietly bytes packets has none;
  said_theirs = λ packets none. none;
  heard_mine = λ packets none. none;
  heard_theirs = λ packets any. any;
}

mode_put : (bytes : List ℕ) (now : LinkPhase) → bytes ≡ canonical mode_offer → is_numbered bytes ≡ false → now ≡ phase.AwaitsRtr → PutPlace Initiator AnswerTaken bytes now
mode_put bytes now is has goes = record {
  next = ModePut;
  mine = goes;
  theirs = refl;
  to_mine = λ lossy waiting none. none;
  to_theirs = λ lossy waiting none. inr (one_waits waiting bytes mode_offer none is);
  said_mine = λ packets none. quietly bytes packets has none;
  said_theirs = λ packets none. none;
  heard_mine = λ packets any. any;
  heard_theirs = λ packets none. none;
}

agreed_put : (bytes : List ℕ) (now : LinkPhase) → bytes ≡ canonical mode_answer → is_numbered bytes ≡ false → now ≡ phase.AwaitsRdx → PutPlace Responder ModeTaken bytes now
agreed_put bytes now is has goes = record {
  next = ModeAnswered;
  mine = goes;
  theirs = refl;
  to_mine = λ lossy waiting none. none;
  to_theirs = λ lossy waiting none. inr (one_waits waiting bytes mode_answer none is);
  said_mine = λ packets none. quietly bytes packets has none;
  said_theirs = λ packets none. none;
  heard_mine = λ packets none. none;
  heard_theirs = λ packets any. any;
}

ready_put : (bytes : List ℕ) (now : LinkPhase) → IsReady bytes → is_numbered bytes ≡ true → now ≡ phase.Established → PutPlace Initiator ModeAgreed bytes now
ready_put bytes now ready has goes = record {
  next = ReadyPut;
  mine = goes;
  theirs = refl;
  to_mine = λ lossy waiting none. none;
  to_theirs = λ lossy waiting none. subst (λ (q : List (List ℕ)). AllNumbered (q ++ bytes ∷ [])) (sym none) (has, tt);
  said_mine = λ packets none. subst ReadyFirst (sym (loud bytes packets has)) (subst (λ (xs : List (List ℕ)). ReadyFirst (xs ++ bytes ∷ [])) (sym none) (ready, tt));
  said_theirs = λ packets none. none;
  heard_mine = λ packets any. any;
  heard_theirs = λ packets none. none;
}

up_waits : (role : Role) (place : LinkPlace) (lossy : Bool) (waiting : List (List ℕ)) (bytes : List ℕ) → phase.Established ≡ phase_at role place → is_numbered bytes ≡ true
    → WaitsAt (other role) lossy place waiting → WaitsAt (other role) lossy place (waiting ++ bytes ∷ [])
up_waits role place lossy waiting bytes at has any = grind (arith, all_more)

up_says : (role : Role) (place : LinkPlace) (packets : List (List ℕ)) (bytes : List ℕ) → phase.Established ≡ phase_at role place → IsPartOf bytes → is_numbered bytes ≡ true
    → SaidInPlace role place packets → SaidInPlace role place (packets ++ numbered (bytes ∷ []))
up_says role place packets bytes at part has any = grind (arith, parts_more)

part_put : (role : Role) (place : LinkPlace) (bytes : List ℕ) (now : LinkPhase) → phase.Established ≡ phase_at role place → IsPartOf bytes → is_numbered bytes ≡ true
    → now ≡ phase.Established → PutPlace role place bytes now
part_put role place bytes now at part has goes = record {
  next = place;
  mine = goes ∙ at;
  theirs = refl;
  to_mine = λ lossy waiting any. any;
  to_theirs = λ lossy waiting any. up_waits role place lossy waiting bytes at has any;
  said_mine = λ packets any. up_says role place packets bytes at part has any;
  said_theirs = λ packets any. any;
  heard_mine = λ packets any. any;
  heard_theirs = λ packets any. any;
}

-- A PACKET IS PUT
put_place : (role : Role) (place : LinkPlace) (k m : LinkState) (turns : List Utterance) (bytes : List ℕ) → Follows k turns → k.phase ≡ phase_at role place → LinkPut k bytes m
    → PutPlace role place bytes m.phase
put_place role place k m turns bytes follows at (ControlGone next (VersionOffered from is goes) link) =
    put_at role Initiator place NothingPut bytes m.phase (offers_at role place (sym from ∙ at))
    (offer_put bytes m.phase is (put_quiet k.phase bytes next follows.offers (VersionOffered from is goes)).0 (ap (λ (x : LinkState). x.phase) link ∙ goes))
put_place role place k m turns bytes follows at (ControlGone next (VersionAnswered_ from is goes) link) =
    put_at role Responder place VersionTaken bytes m.phase (answers_at role place (sym from ∙ at))
    (answer_put bytes m.phase is (put_quiet k.phase bytes next follows.offers (VersionAnswered_ from is goes)).0 (ap (λ (x : LinkState). x.phase) link ∙ goes))
put_place role place k m turns bytes follows at (ControlGone next (VersionRefused major from is goes) link) = absurd (refuses_at role place major (sym from ∙ at))
put_place role place k m turns bytes follows at (ControlGone next (ModeOffered from is goes) link) =
    put_at role Initiator place AnswerTaken bytes m.phase (asks_mode_at role place (sym from ∙ at))
    (mode_put bytes m.phase is (put_quiet k.phase bytes next follows.offers (ModeOffered from is goes)).0 (ap (λ (x : LinkState). x.phase) link ∙ goes))
put_place role place k m turns bytes follows at (ControlGone next (ModeAnswered_ from is goes) link) =
    put_at role Responder place ModeTaken bytes m.phase (agrees_mode_at role place (sym from ∙ at))
    (agreed_put bytes m.phase is (put_quiet k.phase bytes next follows.offers (ModeAnswered_ from is goes)).0 (ap (λ (x : LinkState). x.phase) link ∙ goes))
put_place role place k m turns bytes follows at (ReadyGone from is link) =
    let small : k.put_next < 4294967296 = omega (arith, follows.puts) in
    put_at role Initiator place ModeAgreed bytes m.phase (ready_at role place (sym from ∙ at))
    (ready_put bytes m.phase (record { number = k.put_next; small = small; is = is }) (ready_loud bytes Info (canonical_is bytes Info k.put_next Rdx tt (small, tt) is)).0
    (ap (λ (x : LinkState). x.phase) link))
put_place role place k m turns bytes follows at (PartGone from some is link) =
    let part : SaysPart k bytes = says_part k turns bytes follows some is in
    part_put role place bytes m.phase (sym from ∙ at) (record { packet = first_part k; formed = first_form k some; widths = (omega (arith, follows.puts), tt); carries = tt; is = is })
    (part_loud bytes part.part) (ap (λ (x : LinkState). x.phase) link ∙ from)

-- its end is up
up_phase : (x : ChannelState) (first now : LinkPhase) → x ≡ Up → live_phase x first now ≡ now
up_phase x first now is = ap (λ (y : ChannelState). live_phase y first now) is

pub up_live : (x : ChannelState) (packets : List (List ℕ)) → x ≡ Up → live x packets ≡ packets
up_live x packets is = ap (λ (y : ChannelState). live y packets) is

put_links : (role : Role) (s : Sides) (t : EndCore) (packet : List ℕ) (opens : Bool) → EndStands role s.mine.core s.mine.utterances → s.mine.state ≡ Up → EndSays role s.mine.core packet opens t
    → LinksAt role s → LinksAt role (put packet t s)
put_links role s t packet opens stands up says at =
    let held : EndCore = says.held in
    let stands_held = held_stands role s.mine.core held s.mine.utterances says.what stands says.holds in
    let here : held.link.phase ≡ phase_at role at.place =
    held_phase s.mine.core held says.what says.holds ∙ sym (up_phase s.mine.state (first_phase role) s.mine.core.link.phase up) ∙ at.mine in
    let goes = put_place role at.place held.link t.link s.mine.utterances packet stands_held.link.follows here (link_put held.link t.link packet says.puts) in
    record {
      place = goes.next;
      mine = up_phase s.mine.state (first_phase role) t.link.phase up ∙ goes.mine;
      theirs = at.theirs ∙ goes.theirs;
      to_mine = goes.to_mine s.lossy s.mine.waiting at.to_mine;
      to_theirs = goes.to_theirs s.lossy s.theirs.waiting at.to_theirs;
      said_mine = subst (SaidInPlace role goes.next) (sym (up_live s.mine.state (numbered_said s.mine.utterances ++ numbered (packet ∷ [])) up))
          (goes.said_mine (numbered_said s.mine.utterances) (subst (SaidInPlace role at.place) (up_live s.mine.state (numbered_said s.mine.utterances) up) at.said_mine));
      said_theirs = goes.said_theirs (live s.theirs.state (numbered_said s.theirs.utterances)) at.said_theirs;
      heard_mine = goes.heard_mine (live s.mine.state (numbered_heard s.mine.utterances)) at.heard_mine;
      heard_theirs = goes.heard_theirs (live s.theirs.state (numbered_heard s.theirs.utterances)) at.heard_theirs;
    }

-- A PACKET IS TAKEN: what waits first
pub nothing_first : (waiting : List (List ℕ)) (packet : List ℕ) → waiting ≡ [] → slice_get waiting 0 ≡ Some packet → ⊥
nothing_first [] packet none first = cc first
nothing_first (one ∷ waiting) packet none first = cc none

pub record TheOne (p : Packet) (waiting : List (List ℕ)) (packet : List ℕ) : Type 0 where
  pub is : packet ≡ canonical p
  pub rest : drop 1 waiting ≡ []

pub the_one : (lossy : Bool) (p : Packet) (waiting : List (List ℕ)) (packet : List ℕ) → AtMost lossy p waiting → slice_get waiting 0 ≡ Some packet → TheOne p waiting packet
the_one lossy p waiting packet most first = grind arith

pub first_numbered : (waiting : List (List ℕ)) (packet : List ℕ) → AllNumbered waiting → slice_get waiting 0 ≡ Some packet → is_numbered packet ≡ true
first_numbered [] packet all first = absurd (cc first)
first_numbered (one ∷ waiting) packet all first = let same : one ≡ packet = cc first in ap is_numbered (sym same) ∙ all.0

-- a packet without a number is taken where it is awaited
pub takes_packet : (k : LinkState) (answer : LinkTake) (p : Packet) (bytes : List ℕ) → IsWellFormed p → HasWidths p → bytes ≡ canonical p → TakesBytes k bytes answer → answer ≡ link_take k p
takes_packet k answer p bytes form fits is takes =
    takes.is ∙ ap (takes_decoded k) (unpacked p takes.decoded form fits (subst (λ (b : List ℕ). Unpacks b takes.decoded) is takes.unpacks))

pub answer_taken : (k : LinkState) (answer : LinkTake) (bytes : List ℕ) → k.phase ≡ phase.AwaitsVersAck → bytes ≡ canonical version_answer → TakesBytes k bytes answer
    → answer ≡ Heard (record k { phase = phase.OwesRts })
answer_taken k answer bytes at is takes =
    takes_packet k answer version_answer bytes tt (omega arith, (omega arith, omega arith)) is takes ∙ ap (λ (ph : LinkPhase). goes_to k (phase_behind_vers ph Ack 1 0)) at

pub agreed_taken : (k : LinkState) (answer : LinkTake) (bytes : List ℕ) → k.phase ≡ phase.AwaitsRtr → bytes ≡ canonical mode_answer → TakesBytes k bytes answer
    → answer ≡ Heard (record k { phase = phase.OwesRdx })
agreed_taken k answer bytes at is takes =
    takes_packet k answer mode_answer bytes tt (omega arith, omega arith) is takes ∙ ap (λ (ph : LinkPhase). goes_to k (in_mode 1 (phase_behind_rtr ph Info))) at

pub offer_taken : (k : LinkState) (answer : LinkTake) (bytes : List ℕ) → k.phase ≡ phase.AwaitsVersInfo → bytes ≡ canonical version_offer → TakesBytes k bytes answer
    → answer ≡ Heard (record k { phase = phase.OwesVersAck })
offer_taken k answer bytes at is takes =
    takes_packet k answer version_offer bytes tt (omega arith, (omega arith, omega arith)) is takes ∙ ap (λ (ph : LinkPhase). goes_to k (phase_behind_vers ph Info 1 0)) at

pub mode_taken : (k : LinkState) (answer : LinkTake) (bytes : List ℕ) → k.phase ≡ phase.AwaitsRts → bytes ≡ canonical mode_offer → TakesBytes k bytes answer
    → answer ≡ Heard (record k { phase = phase.OwesRtr })
mode_taken k answer bytes at is takes =
    takes_packet k answer mode_offer bytes tt (omega arith, omega arith) is takes ∙ ap (λ (ph : LinkPhase). goes_to k (in_mode 1 (phase_behind_rts ph Info))) at

heard_phase : (m n : LinkState) → Heard m ≡ Heard n → m.phase ≡ n.phase
heard_phase m n is = let same : m ≡ n = cc is in ap (λ (k : LinkState). k.phase) same

-- one with a number, where the link is up or waits for RDX
numbered_up : (k m : LinkState) (bytes : List ℕ) → is_numbered bytes ≡ true → LinkHeard k bytes m → m.phase ≡ phase.Established
numbered_up k m bytes has heard = grind arith

one_heard : (packets : List (List ℕ)) (packet : List ℕ) → is_numbered packet ≡ true → 1 ≤ length (packets ++ numbered (packet ∷ []))
one_heard packets packet is = omega (arith, ap length (loud packet packets is), length-append packets (packet ∷ []))

offer_quiet : (bytes : List ℕ) → bytes ≡ canonical version_offer → is_numbered bytes ≡ false
offer_quiet bytes is = (put_quiet phase.OwesVersInfo bytes phase.AwaitsVersAck tt (VersionOffered refl is refl)).0

mode_quiet : (bytes : List ℕ) → bytes ≡ canonical mode_offer → is_numbered bytes ≡ false
mode_quiet bytes is = (put_quiet phase.OwesRts bytes phase.AwaitsRtr tt (ModeOffered refl is refl)).0

-- what a packet that is taken changes
record TookPlace (role : Role) (place : LinkPlace) (lossy : Bool) (waiting : List (List ℕ)) (bytes : List ℕ) (now : LinkPhase) : Type 0 where
  next : LinkPlace
  mine : now ≡ phase_at role next
  theirs : phase_at (other role) place ≡ phase_at (other role) next
  to_mine : WaitsAt role lossy next (drop 1 waiting)
  to_theirs : (peer_waiting : List (List ℕ)) → WaitsAt (other role) lossy place peer_waiting → WaitsAt (other role) lossy next peer_waiting
  said_mine : (packets : List (List ℕ)) → SaidInPlace role place packets → SaidInPlace role next packets
  said_theirs : (packets : List (List ℕ)) → SaidInPlace (other role) place packets → SaidInPlace (other role) next packets
  heard_mine : (packets : List (List ℕ)) → HeardInPlace role place packets → HeardInPlace role next (packets ++ numbered (bytes ∷ []))
  heard_theirs : (packets : List (List ℕ)) → HeardInPlace (other role) place packets → HeardInPlace (other role) next packets

took_place : (role : Role) (place : LinkPlace) (lossy : Bool) (waiting : List (List ℕ)) (k m : LinkState) (bytes : List ℕ) → k.phase ≡ phase_at role place → WaitsAt role lossy place waiting
    → slice_get waiting 0 ≡ Some bytes → TakesBytes k bytes (Heard m) → LinkHeard k bytes m → TookPlace role place lossy waiting bytes m.phase
took_place Initiator VersionAnswered lossy waiting k m bytes at waits first takes how =
    let one : TheOne version_answer waiting bytes = the_one lossy version_answer waiting bytes waits first in
    record {
      next = AnswerTaken;
      mine = heard_phase m (record k { phase = phase.OwesRts }) (answer_taken k (Heard m) bytes at one.is takes);
      theirs = refl;
      to_mine = one.rest;
      to_theirs = λ peer_waiting none. none;
      said_mine = λ packets none. none;
      said_theirs = λ packets none. none;
      heard_mine = λ packets any. any;
      heard_theirs = λ packets none. none;
    }
took_place Initiator ModeAnswered lossy waiting k m bytes at waits first takes how =
    let one : TheOne mode_answer waiting bytes = the_one lossy mode_answer waiting bytes waits first in
    record {
      next = ModeAgreed;
      mine = heard_phase m (record k { phase = phase.OwesRdx }) (agreed_taken k (Heard m) bytes at one.is takes);
      theirs = refl;
      to_mine = one.rest;
      to_theirs = λ peer_waiting none. none;
      said_mine = λ packets none. none;
      said_theirs = λ packets none. none;
      heard_mine = λ packets any. any;
      heard_theirs = λ packets none. none;
    }
took_place Initiator BothUp lossy waiting k m bytes at waits first takes how = record {
  next = BothUp;
  mine = numbered_up k m bytes (first_numbered waiting bytes waits first) how;
  theirs = refl;
  to_mine = all_less waiting waits;
  to_theirs = λ peer_waiting all. all;
  said_mine = λ packets ready. ready;
  said_theirs = λ packets each. each;
  heard_mine = λ packets any. any;
  heard_theirs = λ packets some. some;
}
took_place Responder VersionPut lossy waiting k m bytes at waits first takes how =
    let one : TheOne version_offer waiting bytes = the_one lossy version_offer waiting bytes waits first in
    record {
      next = VersionTaken;
      mine = heard_phase m (record k { phase = phase.OwesVersAck }) (offer_taken k (Heard m) bytes at one.is takes);
      theirs = refl;
      to_mine = one.rest;
      to_theirs = λ peer_waiting none. none;
      said_mine = λ packets none. none;
      said_theirs = λ packets none. none;
      heard_mine = λ packets none. quietly bytes packets (offer_quiet bytes one.is) none;
      heard_theirs = λ packets any. any;
    }
took_place Responder ModePut lossy waiting k m bytes at waits first takes how =
    let one : TheOne mode_offer waiting bytes = the_one lossy mode_offer waiting bytes waits first in
    record {
      next = ModeTaken;
      mine = heard_phase m (record k { phase = phase.OwesRtr }) (mode_taken k (Heard m) bytes at one.is takes);
      theirs = refl;
      to_mine = one.rest;
      to_theirs = λ peer_waiting none. none;
      said_mine = λ packets none. none;
      said_theirs = λ packets none. none;
      heard_mine = λ packets none. quietly bytes packets (mode_quiet bytes one.is) none;
      heard_theirs = λ packets any. any;
    }
took_place Responder ReadyPut lossy waiting k m bytes at waits first takes how =
    let has : is_numbered bytes ≡ true = first_numbered waiting bytes waits first in
    record {
      next = BothUp;
      mine = numbered_up k m bytes has how;
      theirs = refl;
      to_mine = all_less waiting waits;
      to_theirs = λ peer_waiting none. subst AllNumbered (sym none) tt;
      said_mine = λ packets none. subst EachPart (sym none) tt;
      said_theirs = λ packets ready. ready;
      heard_mine = λ packets none. one_heard packets bytes has;
      heard_theirs = λ packets any. any;
    }
took_place Responder BothUp lossy waiting k m bytes at waits first takes how =
    let has : is_numbered bytes ≡ true = first_numbered waiting bytes waits first in
    record {
      next = BothUp;
      mine = numbered_up k m bytes has how;
      theirs = refl;
      to_mine = all_less waiting waits;
      to_theirs = λ peer_waiting all. all;
      said_mine = λ packets each. each;
      said_theirs = λ packets ready. ready;
      heard_mine = λ packets some. one_heard packets bytes has;
      heard_theirs = λ packets any. any;
    }
took_place Initiator _ lossy waiting k m bytes at waits first takes how = absurd (nothing_first waiting bytes waits first)
took_place Responder _ lossy waiting k m bytes at waits first takes how = absurd (nothing_first waiting bytes waits first)

took_links : (role : Role) (s : Sides) (t : EndCore) (packet : List ℕ) (opens : Bool) → EndStands role s.mine.core s.mine.utterances → s.mine.state ≡ Up
    → slice_get s.mine.waiting 0 ≡ Some packet → EndHears role s.mine.core packet opens t → LinksAt role s → LinksAt role (took packet t s)
took_links role s t packet opens stands up first hears at =
    let took_so = end_took role s.mine.core t s.mine.utterances packet opens stands hears in
    let here : s.mine.core.link.phase ≡ phase_at role at.place = sym (up_phase s.mine.state (first_phase role) s.mine.core.link.phase up) ∙ at.mine in
    let goes = took_place role at.place s.lossy s.mine.waiting s.mine.core.link took_so.now packet here at.to_mine first took_so.takes took_so.how in
    record {
      place = goes.next;
      mine = up_phase s.mine.state (first_phase role) t.link.phase up ∙ ap (λ (k : LinkState). k.phase) took_so.link ∙ goes.mine;
      theirs = at.theirs ∙ goes.theirs;
      to_mine = goes.to_mine;
      to_theirs = goes.to_theirs s.theirs.waiting at.to_theirs;
      said_mine = goes.said_mine (live s.mine.state (numbered_said s.mine.utterances)) at.said_mine;
      said_theirs = goes.said_theirs (live s.theirs.state (numbered_said s.theirs.utterances)) at.said_theirs;
      heard_mine = subst (HeardInPlace role goes.next) (sym (up_live s.mine.state (numbered_heard s.mine.utterances ++ numbered (packet ∷ [])) up))
          (goes.heard_mine (numbered_heard s.mine.utterances) (subst (HeardInPlace role at.place) (up_live s.mine.state (numbered_heard s.mine.utterances) up) at.heard_mine));
      heard_theirs = goes.heard_theirs (live s.theirs.state (numbered_heard s.theirs.utterances)) at.heard_theirs;
    }

pub links_keep : ActsKeep LinksAt
links_keep = record {
  swaps = swap_links;
  stays = λ role s t both stays at. goes_links role s t (ap (λ (k : LinkState). k.phase) stays.link) at;
  waits = λ role s t both waits at. goes_links role s t (held_phase s.mine.core t waits.what waits.holds) at;
  begins = λ role s t both begins at. anew_links role s t begins at;
  closes = λ role s t both begins at. shut_links role s t;
  takes = λ role s t packet opens both up first hears at. took_links role s t packet opens both.mine up first hears at;
  puts = λ role s t packet opens both up room says at. put_links role s t packet opens both.mine up says at;
  misses = λ role s packet both first at. missed_links role s at;
}

pub first_links : (entries : ℕ) (asks answers : Offer) → LinksAt Initiator (sides_of (fresh_core entries asks answers) nothing_said)
first_links entries asks answers = record {
  place = NothingPut;
  mine = refl;
  theirs = refl;
  to_mine = refl;
  to_theirs = refl;
  said_mine = refl;
  said_theirs = refl;
  heard_mine = tt;
  heard_theirs = refl;
}
