-- Each event of a server leaves it with the range in its work that its log has.
use Rattle.std.proofs.Common.{◌≡◌, ℕ, Bool, true, false, Option, Some, None, List, ◌∷◌, ◌++◌, refl, sym, ap, ◌∙◌, subst, inl, inr, arith}
use Rattle.std.specs.Prelude.{is_none}
use Rattle.cookie_copy.specs.declared.fault.CopyFault.{CopyFault}
use Rattle.ldc_packet.specs.declared.packet.Subtype.TheVariants.{Ack}
use Rattle.ldc_packet.specs.Spelling.{subtype_code}
use Rattle.ldc_queue.specs.Transcript.{Heard as Heard_, Said, Utterance}
use Rattle.vio_tag.specs.declared.message.MsgBody.TheVariants.{DringData}
use Rattle.vio_tag.specs.Spelling.{SpellsBody, envelope_code}
use Rattle.lane_laws.proofs.Speaking.{server_holds_owed}
use Rattle.lane_laws.specs.EndLog.{range_answered, range_asked, range_in_work, range_of}
use Rattle.lane_models.specs.EndPuts.{ComesUp, EndsOwn, EndsHandshake, Goes, PutKind}
use Rattle.lane_models.specs.Messages.{ended_by, is_range, range_if, range_in}
use Rattle.lane_models.specs.Sayings.{half_heard, half_said}
use Rattle.lane_models.specs.Seeing.{Seen}
use Rattle.lane_models.specs.ServerPutting.{answered}
use Rattle.lane_models.specs.ServerRule.{Fetches}
use Rattle.lane_models.specs.ServerState.{ServerSession, ServerState, SlotRange}
use Rattle.lane_models.specs.ServerStep.{ServerFetches, ServerFinishes, ServerMoves, ServerStores}
use Rattle.cookie_copy.specs.Reach.{Reach}
use Rattle.lane_models.proofs.PutSayings.{PutSays}
use Rattle.lane_models.proofs.UtteranceCases.{heard_none, heard_some, said_none, said_some}
use Rattle.lane_laws.proofs.RangesSaid.{heard_no_range, is_data, no_data, owed_no_range, range_is}
use Rattle.lane_laws.proofs.RulesFree.{ServerFree, server_free}
use Rattle.lane_laws.proofs.ServerCounting.{opens_new}
use Rattle.lane_laws.proofs.ServerPutCounting.{put_as, none_is}
use Rattle.lane_laws.proofs.ServerAnswers.{opened_or}
use Rattle.lane_laws.proofs.ServerTaken.{ServerTook}
use Rattle.lane_models.specs.Cuts.{CarriesOwed}
use Rattle.lane_laws.specs.Counted.{HoldsAnswer, ServerHolds}
use Rattle.lane_models.specs.HandshakeFits.{MayOwe, OwedFits}
use Rattle.lane_laws.specs.LaneRests.{ServerRests}

-- the range of an open session
abbrev pub ranged : Option ServerSession → Option SlotRange
ranged None = None
ranged (Some session) = session.range

abbrev pub RangeIs : Option ServerSession → List Utterance → Type 0
RangeIs session turns = ranged session ≡ range_in_work turns

-- IT TAKES A PACKET: a range that it is asked for is in its work from then on
heard_same : (turns : List Utterance) (packet : List ℕ) (ended : Option (List ℕ)) → ended_by (half_heard turns) packet ≡ ended → range_in 1 ended ≡ None → range_in_work turns ≡ range_in_work (Heard_ packet ∷ turns)
heard_same turns packet ended is none =
    sym (ap (λ (o : Option (List ℕ)). range_asked (range_in 1 o) (range_in_work turns)) is ∙ ap (λ (o : Option (List ℕ)). range_asked o (range_in_work turns)) none)

heard_range : (turns : List Utterance) (packet bytes : List ℕ) → ended_by (half_heard turns) packet ≡ Some bytes → range_in 1 (Some bytes) ≡ Some bytes
    → Some (range_of bytes) ≡ range_in_work (Heard_ packet ∷ turns)
heard_range turns packet bytes is range =
    sym (ap (λ (o : Option (List ℕ)). range_asked (range_in 1 o) (range_in_work turns)) is ∙ ap (λ (o : Option (List ℕ)). range_asked o (range_in_work turns)) range)

same_fields : (range : SlotRange) (ident : ℕ) (bytes : List ℕ) → SpellsBody bytes (DringData range.seq ident range.start range.end range.state) → range ≡ range_of bytes
same_fields range ident bytes fields = grind arith

opened_none : (opens : Bool) (o : Option ServerSession) → (opens ≡ true → o ≡ None) → ranged (opened_or opens o) ≡ ranged o
opened_none true o new = sym (ap ranged (new refl))
opened_none false o new = refl

pub server_takes_so : (s t : ServerState) (turns : List Utterance) (packet : List ℕ) (opens : Bool) → ServerRests s turns → RangeIs s.session turns → ServerTook s turns packet t opens
    → RangeIs t.session (Heard_ packet ∷ turns)
server_takes_so s t turns packet opens rests is (inl part) =
    ap (λ (x : ServerState). ranged x.session) part.is ∙ is ∙ heard_same turns packet None (heard_none turns packet part.messages) refl
server_takes_so s t turns packet opens rests is (inr (inl took)) =
    let new : opens ≡ true → s.session ≡ None = λ sure. opens_new s t turns packet rests (subst (λ (o : Bool). ServerTook s turns packet t o) sure (inr (inl took))) in
    ap (λ (x : ServerState). ranged x.session) took.is ∙ opened_none opens s.session new ∙ is
    ∙ heard_same turns packet (Some took.hears.bytes) (heard_some turns packet took.hears.bytes took.hears.messages)
    (heard_no_range 1 took.hears.bytes took.message took.hears.spells took.hears.form (no_data s.handshake took.handshake took.message opens took.took))
server_takes_so s t turns packet opens rests is (inr (inr asks)) =
    let fields : SpellsBody asks.hears.bytes (DringData asks.info.range.seq asks.info.ident asks.info.range.start asks.info.range.end asks.info.range.state) =
    subst (SpellsBody asks.hears.bytes) asks.info.body_is asks.hears.spells.body in
    ap (λ (x : ServerState). ranged x.session) asks.is ∙ ap (λ (r : SlotRange). Some r) (same_fields asks.info.range asks.info.ident asks.hears.bytes fields)
    ∙ heard_range turns packet asks.hears.bytes (heard_some turns packet asks.hears.bytes asks.hears.messages)
    (range_is 1 asks.hears.bytes (asks.hears.spells.envelope ∙ ap envelope_code asks.info.body_is) (asks.hears.spells.subtype ∙ ap subtype_code asks.info.subtype_is))

-- IT PUTS A PACKET: with its answer its range is done
said_same : (turns : List Utterance) (packet : List ℕ) (ended : Option (List ℕ)) → ended_by (half_said turns) packet ≡ ended → range_in 2 ended ≡ None → range_in_work turns ≡ range_in_work (Said packet ∷ turns)
said_same turns packet ended is none =
    sym (ap (λ (o : Option (List ℕ)). range_answered (range_in 2 o) (range_in_work turns)) is ∙ ap (λ (o : Option (List ℕ)). range_answered o (range_in_work turns)) none)

said_range : (turns : List Utterance) (packet bytes : List ℕ) → ended_by (half_said turns) packet ≡ Some bytes → is_range 2 bytes ≡ true → None ≡ range_in_work (Said packet ∷ turns)
said_range turns packet bytes is range =
    sym (ap (λ (o : Option (List ℕ)). range_answered (range_in 2 o) (range_in_work turns)) is ∙ ap (λ (b : Bool). range_answered (range_if b bytes) (range_in_work turns)) range)

answered_none : (o : Option ServerSession) → ranged (answered o) ≡ None
answered_none None = refl
answered_none (Some session) = refl

pub record Holding (v : ServerState) (turns : List Utterance) : Type 0 where
  pub range : ranged v.session ≡ range_in_work turns
  pub owed : OwedFits v.handshake.phase v.handshake.owed
  pub rests : ServerRests v turns
  pub holds : ServerHolds v turns

pub server_puts_so : (turns : List Utterance) (packet : List ℕ) (kind : PutKind) (v : ServerState) → Holding v turns → PutSays kind (is_none v.handshake.owed) v.link turns packet
    → RangeIs (put_as kind v).session (Said packet ∷ turns)
server_puts_so turns packet Goes v held says = held.range ∙ said_same turns packet None (said_none turns packet says.messages) refl
server_puts_so turns packet ComesUp v held says = held.range ∙ said_same turns packet None (said_none turns packet says.0.messages) refl
server_puts_so turns packet EndsOwn v held says =
    let bytes = half_said turns ++ v.link.to_send in
    let a : HoldsAnswer v bytes = held.holds (none_is v.handshake.owed says.1) says.0.some in
    let range : is_range 2 bytes ≡ true =
    ap (is_range 2) a.bytes_are ∙ is_data 2 v.handshake.draft.sid Ack a.range.seq v.handshake.draft.ident_peer a.range.start a.range.end a.range.state refl in
    answered_none v.session ∙ said_range turns packet bytes (said_some turns packet bytes says.0.messages) range
server_puts_so turns packet EndsHandshake v held says =
    let bytes = half_said turns ++ v.link.to_send in
    let owed : CarriesOwed v.handshake.owed bytes = server_holds_owed v turns held.rests.stands says.1 says.0.some in
    let may : MayOwe v.handshake.phase owed.message.subtype owed.message.body = subst (OwedFits v.handshake.phase) owed.owed held.owed in
    let none : range_in 2 (Some bytes) ≡ None = ap (λ (xs : List ℕ). range_in 2 (Some xs)) owed.is ∙ owed_no_range v.handshake.phase 2 owed.message (inr refl) may in
    held.range ∙ said_same turns packet (Some bytes) (said_some turns packet bytes says.0.messages) none

-- ITS WORK leaves all but the counts of its session
pub server_fetches_so : (s : ServerState) (at : Seen) (reach : Reach) (slot : ℕ) (bytes : List ℕ) (t : ServerState) (new : List ℕ) (turns : List Utterance)
    → ServerFetches s at reach slot bytes t new → RangeIs s.session turns → RangeIs t.session turns
server_fetches_so s at reach slot bytes t new turns step is =
    let free : ServerFree s (Fetches step.session) = subst (ServerFree s) step.rule (server_free s at) in
    ap (λ (x : ServerState). ranged x.session) step.is ∙ sym (ap ranged free.0.session_is) ∙ is

pub server_moves_so : (s t : ServerState) (at : Seen) (reach : Reach) (unit : ℕ) (fault : Option CopyFault) (new : List ℕ) (turns : List Utterance)
    → ServerMoves s at reach unit fault t new → RangeIs s.session turns → RangeIs t.session turns
server_moves_so s t at reach unit fault new turns step is = ap (λ (x : ServerState). ranged x.session) step.is ∙ is

pub server_stores_so : (s t : ServerState) (at : Seen) (operation block count : ℕ) (failed : Bool) (gave : List ℕ) (turns : List Utterance)
    → ServerStores s at operation block count failed gave t → RangeIs s.session turns → RangeIs t.session turns
server_stores_so s t at operation block count failed gave turns step is = ap (λ (x : ServerState). ranged x.session) step.is ∙ is

pub server_finishes_so : (s : ServerState) (at : Seen) (reach : Reach) (slot status : ℕ) (t : ServerState) (new : List ℕ) (turns : List Utterance)
    → ServerFinishes s at reach slot status t new → RangeIs s.session turns → RangeIs t.session turns
server_finishes_so s at reach slot status t new turns step is = grind (arith, server_free)
