-- What an end says is cut into parts and numbered as its turns have it, and what it hears may come after them.
use Rattle.std.proofs.Common.{◌≡◌, ℕ, ◌+◌, ◌%◌, ◌<◌, Bool, true, false, Ok, Err, List, [], ◌∷◌, ◌++◌, length, refl, sym, ap, ◌∙◌, subst, arith, length-append}
use Rattle.std.specs.Prelude.{Result, not}
use Rattle.std.proofs.lemmas.Bool.{leb-false}
use Rattle.std.proofs.lemmas.List.{length-take}
use Rattle.runs.specs.Lawful.{Lawful}
use Rattle.runs.specs.Run.{Run}
use Rattle.ldc_packet.proofs.NoFault.{spelled_no_fault}
use Rattle.ldc_packet.specs.declared.packet.Body.{Body}
use Rattle.ldc_packet.specs.declared.packet.Body.TheVariants.{Part, Rdx}
use Rattle.ldc_packet.specs.declared.packet.Packet.{Packet}
use Rattle.ldc_packet.specs.declared.packet.PacketFault.{PacketFault}
use Rattle.ldc_packet.specs.declared.packet.Subtype.TheVariants.{Info}
use Rattle.ldc_packet.specs.Decoding.{Unpacks}
use Rattle.ldc_packet.specs.Form.{HasWidths, IsWellFormed}
use Rattle.ldc_packet.specs.Spelling.{canonical, seqid_at}
use Rattle.ldc_link.proofs.Following.{takes_follow}
use Rattle.ldc_link.proofs.FollowingPuts.{puts_follow}
use Rattle.ldc_link.proofs.Hearing.{heard_step}
use Rattle.ldc_link.proofs.Saying.{first_form}
use Rattle.ldc_link.proofs.Spelled.{has_part, spelled_fragment, spelled_part}
use Rattle.ldc_link.specs.Conversing.{IsData}
use Rattle.ldc_link.specs.declared.phase.LinkPhase.TheVariants as phase
use Rattle.ldc_link.specs.declared.phase.Role.{Role}
use Rattle.ldc_link.specs.Following.{Follows, OffersLittle}
use Rattle.ldc_link.specs.LinkState.{LinkState}
use Rattle.ldc_link.specs.Putting.{control, first_part}
use Rattle.ldc_link.specs.Taking.{Heard, TakesBytes, takes_decoded}
use Rattle.ldc_queue.specs.Fragments.{Fragment, fragment_at, is_part}
use Rattle.ldc_queue.specs.Messages.{is_empty}
use Rattle.ldc_queue.specs.Numbered.{CountUp, is_numbered, kept}
use Rattle.ldc_queue.specs.Transcript as turn
use Rattle.ldc_queue.specs.Transcript.{Utterance, numbered_heard, numbered_said}
use Rattle.vio_handshake.specs.declared.session.Offer.{Offer}
use Rattle.lane_models.proofs.SameSayings.{half_heard_is}
use Rattle.lane_models.specs.Sayings.{count_heard, count_said, half_heard, half_said}
use Rattle.lane_models.specs.TranscriptLog.{more_if}
use Rattle.lane_models.specs.WireAt.{IsHeard, IsHeardPart, IsSaid, IsSaidPart, WireHeardAt, WireSaidAt, counts_next}
use Rattle.lane_models.specs.WireEvent.{WireEvent}
use Rattle.lane_models.proofs.ConversingRuns.{converse_keeps, first_converse}
use Rattle.lane_models.proofs.CoreRuns.{Knows, knows_run}
use Rattle.lane_models.proofs.EndStanding.{held_stands}
use Rattle.lane_models.proofs.LinkCases.{ControlGone, LinkPut, ModeAnswered, ModeOffered, PartGone, ReadyGone, VersionAnswered, VersionOffered, VersionRefused, canonical_is, link_put, put_quiet, ready_loud}
use Rattle.lane_models.proofs.UtteranceCases.{SaysPart, says_part}
use Rattle.lane_models.specs.Conversing.{Converse}
use Rattle.lane_models.specs.CoreLog.{CoreLog, HeardAt, SaidAt, TableAt, after, nothing_yet}
use Rattle.lane_models.specs.Cuts.{Cuts}
use Rattle.lane_models.specs.EndCore.{EndCore}
use Rattle.lane_models.specs.EndStep.{EndHears, EndSays}
use Rattle.lane_models.specs.LaneCore.{CoreEvent, CoreFits, CoreStep, LaneCore, OnChannel, fresh_core}
use Rattle.lane_models.specs.Standing.{EndStands}

-- THE COUNTS of a transcript
kept_more : (b : Bool) (packet : List ℕ) (n : ℕ) (xs : List (List ℕ)) → n ≡ length xs → more_if b n ≡ length (xs ++ kept b packet [])
kept_more true packet n xs is = omega (arith, is, length-append xs (packet ∷ []))
kept_more false packet n xs is = omega (arith, is, length-append xs [])

pub count_said_is : (turns : List Utterance) → count_said turns ≡ length (numbered_said turns)
count_said_is [] = refl
count_said_is (turn.Heard packet ∷ turns) = count_said_is turns
count_said_is (turn.Said packet ∷ turns) = kept_more (is_numbered packet) packet (count_said turns) (numbered_said turns) (count_said_is turns)

pub count_heard_is : (turns : List Utterance) → count_heard turns ≡ length (numbered_heard turns)
count_heard_is [] = refl
count_heard_is (turn.Said packet ∷ turns) = count_heard_is turns
count_heard_is (turn.Heard packet ∷ turns) = kept_more (is_numbered packet) packet (count_heard turns) (numbered_heard turns) (count_heard_is turns)

number_of : (b : Bool) (bytes : List ℕ) (n : ℕ) → CountUp n (kept b bytes []) → b ≡ true → seqid_at bytes ≡ n % 4294967296
number_of true bytes n counts has = counts.0
number_of false bytes n counts has = absurd (cc has)

-- WHAT IS SAID: a packet of the link's handshake, RDX, or the next part of a message
without_part : (turns : List Utterance) (bytes : List ℕ) (packet : Packet) → IsWellFormed packet → HasWidths packet → bytes ≡ canonical packet
    → (is_numbered bytes ≡ true → seqid_at bytes ≡ counts_next (count_said turns)) → is_part bytes ≡ false → IsSaid turns bytes
without_part turns bytes packet form fits is number none = grind arith

twice : (a b : Bool) → a ≡ not b → not a ≡ b
twice a true is = ap not is
twice a false is = ap not is

said_part : (k : LinkState) (turns : List Utterance) (bytes : List ℕ) → Cuts k turns → SaysPart k bytes → IsSaidPart (half_said turns) (fragment_at bytes)
said_part k turns bytes cuts part = record {
  start = part.starts ∙ twice k.begun (is_empty (half_said turns)) cuts.begun;
  long = λ more. let long = leb-false (length k.to_send) 56 (sym part.stops ∙ more) in omega (arith, long, ap length part.carries, length-take 56 k.to_send);
  most = omega (arith, cuts.most, ap length part.carries, length-take 56 k.to_send);
}

said_so : (k m : LinkState) (turns : List Utterance) (bytes : List ℕ) → Follows k turns → Cuts k turns → (is_numbered bytes ≡ true → seqid_at bytes ≡ counts_next (count_said turns))
    → LinkPut k bytes m → IsSaid turns bytes
said_so k m turns bytes follows cuts number (ControlGone next (VersionOffered at is goes) link) =
    without_part turns bytes _ tt (omega arith, (omega arith, omega arith)) is number (put_quiet k.phase bytes next follows.offers (VersionOffered at is goes)).1
said_so k m turns bytes follows cuts number (ControlGone next (VersionAnswered at is goes) link) =
    without_part turns bytes _ tt (omega arith, (omega arith, omega arith)) is number (put_quiet k.phase bytes next follows.offers (VersionAnswered at is goes)).1
said_so k m turns bytes follows cuts number (ControlGone next (VersionRefused major at is goes) link) =
    let little : OffersLittle (phase.OwesVersNack major) = subst OffersLittle at follows.offers in
    without_part turns bytes _ tt (omega arith, (omega (arith, little), omega arith)) is number (put_quiet k.phase bytes next follows.offers (VersionRefused major at is goes)).1
said_so k m turns bytes follows cuts number (ControlGone next (ModeOffered at is goes) link) =
    without_part turns bytes _ tt (omega arith, omega arith) is number (put_quiet k.phase bytes next follows.offers (ModeOffered at is goes)).1
said_so k m turns bytes follows cuts number (ControlGone next (ModeAnswered at is goes) link) =
    without_part turns bytes _ tt (omega arith, omega arith) is number (put_quiet k.phase bytes next follows.offers (ModeAnswered at is goes)).1
said_so k m turns bytes follows cuts number (ReadyGone at is link) =
    let small : k.put_next < 4294967296 = omega (arith, follows.puts) in
    without_part turns bytes (control Info k.put_next Rdx) tt (small, tt) is number (ready_loud bytes Info (canonical_is bytes Info k.put_next Rdx tt (small, tt) is)).1
said_so k m turns bytes follows cuts number (PartGone at some is link) = record {
  packet = first_part k;
  formed = first_form k some;
  widths = (omega (arith, follows.puts), tt);
  spelled = is;
  number = number;
  part = λ part. said_part k turns bytes cuts (says_part k turns bytes follows some is);
}

pub end_said : (role : Role) (c t : EndCore) (turns : List Utterance) (packet : List ℕ) (opens : Bool) → EndStands role c turns → EndSays role c packet opens t → IsSaid turns packet
end_said role c t turns packet opens stands says =
    let held : EndCore = says.held in
    let holds = held_stands role c held turns says.what stands says.holds in
    let counts = (puts_follow held.link turns packet t.link holds.link.follows says.puts).0 in
    said_so held.link t.link turns packet holds.link.follows holds.link.cuts
    (λ has. number_of (is_numbered packet) packet (length (numbered_said turns) + 1) counts has ∙ ap counts_next (sym (count_said_is turns)))
    (link_put held.link t.link packet says.puts)

-- WHAT IS HEARD
part_data : (b : Body) → has_part b ≡ true → IsData b
unfolding has_part
part_data (Part start stop len bytes) part = tt
part_data _ part = absurd (cc part)

pub heard_so : (k : LinkState) (turns : List Utterance) (bytes : List ℕ) (m : LinkState) → Follows k turns → TakesBytes k bytes (Heard m) → IsHeard turns bytes
heard_so k turns bytes m follows takes = from takes.decoded takes.unpacks takes.is
  where
    from : (d : Result Packet PacketFault) → Unpacks bytes d → Heard m ≡ takes_decoded k d → IsHeard turns bytes
    from (Ok p) unpacks is =
        let counts = (takes_follow k turns bytes m follows takes).0 in
        let half : k.half_heard ≡ half_heard turns = follows.half ∙ sym (half_heard_is turns) in
        record {
          whole = unpacks.packet.1.size;
          sound = spelled_no_fault bytes p unpacks.packet.0 unpacks.packet.1;
          number = λ has. number_of (is_numbered bytes) bytes (length (numbered_heard turns) + 1) counts has ∙ ap counts_next (sym (count_heard_is turns));
          part = λ part.
              let carries = part_data p.body (sym (spelled_part bytes p unpacks.packet.1) ∙ part) in
              let may = (heard_step k p m carries unpacks.packet.0 (sym is)).2 in
              subst (λ (xs : List ℕ). IsHeardPart xs (fragment_at bytes)) half
              (subst (λ (f : Fragment). IsHeardPart k.half_heard f) (sym (spelled_fragment bytes p carries unpacks.packet.0 unpacks.packet.1)) (record { start = may.0; most = may.1 }));
        }
    from (Err fault) unpacks is = absurd (cc is)

pub end_heard : (role : Role) (c t : EndCore) (turns : List Utterance) (packet : List ℕ) (opens : Bool) → EndStands role c turns → EndHears role c packet opens t → IsHeard turns packet
end_heard role c t turns packet opens stands hears = heard_so c.link turns packet hears.heard stands.link.follows hears.takes

-- ALONG EVERY RUN
said_wire : (s : LaneCore) (l : CoreLog) (event : WireEvent) (t : LaneCore) → Knows Converse s l → CoreStep s (OnChannel event) t → WireSaidAt l.transcript event
said_wire s l event t knows step = grind (arith, end_said)

heard_wire : (s : LaneCore) (l : CoreLog) (event : WireEvent) (t : LaneCore) → Knows Converse s l → CoreStep s (OnChannel event) t → WireHeardAt l.transcript event
heard_wire s l event t knows step = grind (arith, end_heard)

said_at : (s : LaneCore) (l : CoreLog) (event : CoreEvent) (t : LaneCore) → Knows Converse s l → CoreStep s event t → SaidAt l event
said_at s l event t knows step = grind (arith, said_wire)

heard_at : (s : LaneCore) (l : CoreLog) (event : CoreEvent) (t : LaneCore) → Knows Converse s l → CoreStep s event t → HeardAt l event
heard_at s l event t knows step = grind (arith, heard_wire)

pub said_lawful : (entries : ℕ) (asks answers : Offer) (events : List CoreEvent) (s : LaneCore) → CoreFits entries asks answers
    → Run CoreStep (fresh_core entries asks answers) events s → Lawful SaidAt after (nothing_yet entries) events
said_lawful entries asks answers events s fits run =
    (knows_run Converse converse_keeps SaidAt said_at entries asks answers events s fits (first_converse entries asks answers fits.most_entries) run).0

pub heard_lawful : (entries : ℕ) (asks answers : Offer) (events : List CoreEvent) (s : LaneCore) → CoreFits entries asks answers
    → Run CoreStep (fresh_core entries asks answers) events s → Lawful HeardAt after (nothing_yet entries) events
heard_lawful entries asks answers events s fits run =
    (knows_run Converse converse_keeps HeardAt heard_at entries asks answers events s fits (first_converse entries asks answers fits.most_entries) run).0

-- a queue finds no room exactly where it is full
table_at : (s : LaneCore) (l : CoreLog) (event : CoreEvent) (t : LaneCore) → Knows Converse s l → CoreStep s event t → TableAt l event
table_at s l event t knows step = grind arith

pub table_lawful : (entries : ℕ) (asks answers : Offer) (events : List CoreEvent) (s : LaneCore) → CoreFits entries asks answers
    → Run CoreStep (fresh_core entries asks answers) events s → Lawful TableAt after (nothing_yet entries) events
table_lawful entries asks answers events s fits run =
    (knows_run Converse converse_keeps TableAt table_at entries asks answers events s fits (first_converse entries asks answers fits.most_entries) run).0
