-- Two ends on a channel that nobody forged and on which nothing was lost: where both are up and owe nothing, and nothing waits for either, each
-- heard all that the other said, and both sessions are open.
use Rattle.std.proofs.Common.{◌≡◌, ℕ, true, false, None, List, [], sym, ap, ◌∙◌, arith}
use Rattle.std.proofs.lemmas.List.{append-nil}
use Rattle.ldc_link.specs.declared.phase.Role.TheVariants.{Initiator, Responder}
use Rattle.ldc_link.specs.LinkState.{is_up}
use Rattle.ldc_link.specs.Putting.{owes}
use Rattle.ldc_queue.specs.declared.end.ChannelState.TheVariants.{Up}
use Rattle.ldc_queue.specs.Fragments.{fragments_in}
use Rattle.ldc_queue.specs.Messages.{whole_in}
use Rattle.ldc_queue.specs.Numbered.{numbered}
use Rattle.ldc_queue.specs.OneStream.{OneWay, live}
use Rattle.ldc_queue.specs.Transcript.{Utterance, numbered_heard, numbered_said}
use Rattle.vio_handshake.specs.declared.session.Offer.{Offer}
use Rattle.lane_models.proofs.SameSayings.{heard_is, said_is}
use Rattle.lane_models.specs.Sayings.{heard, said}
use Rattle.lane_models.proofs.HandshakePlaces.{deal, place_open}
use Rattle.lane_models.proofs.HandshakesPlaced.{Meets}
use Rattle.lane_models.proofs.Lifting.{BothStand}
use Rattle.lane_models.proofs.WhoOwes.{both_done}
use Rattle.lane_models.specs.Conversing.{Converse}
use Rattle.lane_models.specs.LinkPlaces.{LinksAt}
use Rattle.lane_models.specs.Sides.{Sides}
use Rattle.lane_models.proofs.LinkPlaced.{up_live}
use Rattle.lane_models.proofs.NextPacket.{none_of}

-- WHAT WAS SAID WAS HEARD where nothing was lost and nothing waits
all_heard : (said_packets heard_packets waiting : List (List ℕ)) (lost : ℕ) → OneWay said_packets heard_packets (numbered waiting) lost → lost ≡ 0 → waiting ≡ [] → said_packets ≡ heard_packets
all_heard said_packets heard_packets waiting lost way whole none = grind (arith, none_of, append-nil)

-- BOTH ARE UP, owe nothing, and nothing waits
pub record BothRest (s : Sides) : Type 0 where
  pub whole : s.lossy ≡ false
  pub up : s.mine.state ≡ Up
  pub peer_up : s.theirs.state ≡ Up
  pub waits : s.mine.waiting ≡ []
  pub peer_waits : s.theirs.waiting ≡ []
  pub quiet : owes s.mine.core.link ≡ false
  pub peer_quiet : owes s.theirs.core.link ≡ false
  pub owed : s.mine.core.handshake.owed ≡ None
  pub peer_owed : s.theirs.core.handshake.owed ≡ None

pub record LinksUp (s : Sides) : Type 0 where
  pub mine : is_up s.mine.core.link ≡ true
  pub theirs : is_up s.theirs.core.link ≡ true

links_up : (s : Sides) → LinksAt Initiator s → BothRest s → numbered_said s.mine.utterances ≡ numbered_heard s.theirs.utterances → LinksUp s
links_up s at rest same = grind arith

-- EACH HEARD ALL that the other said
pub record HeardAll (s : Sides) : Type 0 where
  pub up : LinksUp s
  pub to_theirs : said s.mine.utterances ≡ heard s.theirs.utterances
  pub to_mine : said s.theirs.utterances ≡ heard s.mine.utterances

same_messages : (mine theirs : List Utterance) → numbered_said mine ≡ numbered_heard theirs → said mine ≡ heard theirs
same_messages mine theirs same = said_is mine ∙ ap (λ (xs : List (List ℕ)). whole_in [] (fragments_in xs)) same ∙ sym (heard_is theirs)

pub heard_all : (s : Sides) → BothRest s → Converse Initiator s → LinksAt Initiator s → HeardAll s
heard_all s rest converse links =
    let lost = converse.whole rest.whole in
    let asked : numbered_said s.mine.utterances ≡ numbered_heard s.theirs.utterances =
    sym (up_live s.mine.state (numbered_said s.mine.utterances) rest.up)
    ∙ all_heard (live s.mine.state (numbered_said s.mine.utterances)) (live s.theirs.state (numbered_heard s.theirs.utterances)) s.theirs.waiting converse.lost_theirs converse.stream.to_b
    lost.1 rest.peer_waits ∙ up_live s.theirs.state (numbered_heard s.theirs.utterances) rest.peer_up in
    let answered : numbered_said s.theirs.utterances ≡ numbered_heard s.mine.utterances =
    sym (up_live s.theirs.state (numbered_said s.theirs.utterances) rest.peer_up)
    ∙ all_heard (live s.theirs.state (numbered_said s.theirs.utterances)) (live s.mine.state (numbered_heard s.mine.utterances)) s.mine.waiting converse.lost_mine converse.stream.to_a
    lost.0 rest.waits ∙ up_live s.mine.state (numbered_heard s.mine.utterances) rest.up in
    record { up = links_up s links rest asked; to_theirs = same_messages s.mine.utterances s.theirs.utterances asked; to_mine = same_messages s.theirs.utterances s.mine.utterances answered }

-- BOTH SESSIONS ARE OPEN
pub rests_open : (asks answers : Offer) (s : Sides) → BothStand Initiator s → Meets asks answers Initiator s → BothRest s
    → (s.mine.core.is_open ≡ true) × (s.theirs.core.is_open ≡ true)
rests_open asks answers s stand meets rest =
    let all = heard_all s rest meets.converse meets.links in
    let both = asks.both_rings in
    let d = deal asks answers meets.handshakes.sid in
    let at = meets.handshakes.mine rest.up all.up.mine in
    let there = meets.handshakes.theirs rest.peer_up all.up.theirs in
    let places = both_done both d s.mine.core.handshake s.theirs.core.handshake s.mine.utterances s.theirs.utterances at there rest.owed rest.peer_owed all.to_theirs all.to_mine in
    (place_open both d Initiator s.mine.core s.mine.utterances stand.mine at places.0, place_open both d Responder s.theirs.core s.theirs.utterances stand.theirs there places.1)
