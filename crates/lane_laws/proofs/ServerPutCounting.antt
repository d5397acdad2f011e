-- A message that a server holds, and a packet that it puts, leave its session counting what it said and heard.
use Rattle.std.proofs.Common.{◌≡◌, ℕ, ◌+◌, ◌<◌, ◌≤◌, ◌⊎◌, inl, inr, true, false, Option, Some, None, List, [], ◌∷◌, ◌++◌, length, refl, sym, ap, ◌∙◌, subst, arith}
use Rattle.std.specs.Prelude.{is_none, is_some}
use Rattle.ldc_link.specs.declared.phase.Role.TheVariants.{Responder}
use Rattle.ldc_link.specs.LinkState.{LinkState, is_up, offered}
use Rattle.ldc_link.specs.Putting.{behind_put}
use Rattle.ldc_packet.specs.declared.packet.Subtype.TheVariants.{Ack}
use Rattle.ldc_queue.specs.Transcript.{Said, Utterance}
use Rattle.vio_tag.specs.declared.message.Message.{Message}
use Rattle.vio_tag.specs.Spelling.{canonical}
use Rattle.lane_models.specs.Sayings.{half_said, heard, said}
use Rattle.lane_laws.proofs.Speaking.{server_holds_owed}
use Rattle.lane_laws.specs.Agreement.{ServerAgrees, ServerCountsAgree, WorkAgrees}
use Rattle.lane_models.specs.Messages.{range_ended, range_in}
use Rattle.lane_laws.specs.WorkLog.{ServerCounts, change_server, length_in, one_in}
use Rattle.lane_models.specs.EndPuts.{ComesUp, EndsOwn, EndsHandshake, Goes, PutKind, handshake_behind}
use Rattle.lane_models.specs.LaneState.{Shape}
use Rattle.dring.specs.Slots.{range_length}
use Rattle.lane_models.specs.ServerPutting.{answered, server_holds, session_behind}
use Rattle.lane_models.specs.ServerRule.{Puts, Says, ServerRule}
use Rattle.lane_models.specs.ServerState.{ServerSession, ServerState, SlotRange, Work}
use Rattle.lane_models.proofs.Apart.{none_is_some, some_same}
use Rattle.lane_models.proofs.PutSayings.{SaysWhole, SaysOn}
use Rattle.lane_models.proofs.EndStanding.{open_up, owing_up, up_empty}
use Rattle.lane_laws.proofs.RangeSums.{count_said, sum_more, sum_said}
use Rattle.lane_laws.proofs.RangesSaid.{owed_no_range, said_range}
use Rattle.lane_laws.proofs.RulesFree.{ServerFree}
use Rattle.lane_laws.proofs.RuleTests.{AnswersFree}
use Rattle.lane_laws.specs.Counted.{HoldsAnswer, InServerOrder, RangeStands, ServerCounted, ServerOrder, range_count, range_sum}
use Rattle.lane_laws.specs.LaneRests.{ServerRests, ServerUtters}
use Rattle.lane_models.specs.HandshakeFits.{MayOwe, OwedFits}
use Rattle.lane_laws.specs.ChannelEnds.{server_core}

-- the same answer of a server with another link
answer_with : (v : ServerState) (k : LinkState) (bytes : List ℕ) → HoldsAnswer v bytes → HoldsAnswer (record v { link = k }) bytes
answer_with v k bytes a = search

-- IT HOLDS a message
says_answer : (v : ServerState) (turns : List Utterance) (message : Message) → half_said turns ≡ [] → (v.handshake.owed ≡ Some message) ⊎ AnswersFree v message → v.handshake.owed ≡ None
    → HoldsAnswer v (half_said turns ++ canonical message)
says_answer v turns message half is none = grind arith

says_up : (v : ServerState) (turns : List Utterance) (message : Message) → ServerRests v turns → (v.handshake.owed ≡ Some message) ⊎ AnswersFree v message → is_up v.link ≡ true
says_up v turns message rests (inl owed) = owing_up Responder (server_core v) turns message rests.stands owed
says_up v turns message rests (inr a) = open_up Responder (server_core v) turns rests.stands (ap is_some a.session_is)

held_is : (shape : Shape) (one other : ServerState) (turns : List Utterance) (d : Option ServerCounts) → Some one ≡ Some other → ServerCounted shape one turns d → ServerCounted shape other turns d
held_is shape one other turns d is counted = let same : one ≡ other = some_same is in subst (λ (x : ServerState). ServerCounted shape x turns d) same counted

pub server_holds_counting : (shape : Shape) (v : ServerState) (rule : ServerRule) (held : ServerState) (turns : List Utterance) (d : Option ServerCounts) → ServerRests v turns → ServerUtters v turns
    → ServerFree v rule → server_holds rule v ≡ Some held → ServerCounted shape v turns d → ServerCounted shape held turns d
server_holds_counting shape v Puts held turns d rests utters free is counted = held_is shape v held turns d is counted
server_holds_counting shape v (Says message) held turns d rests utters free is counted =
    let empty : v.link.to_send ≡ [] = up_empty v.link (says_up v turns message rests free.1) free.0 in
    let half : half_said turns ≡ [] = utters.half empty in
    held_is shape (record v { link = offered (canonical message) v.link }) held turns d is (record {
      slots = counted.slots;
      blocks = counted.blocks;
      holds = λ none some. answer_with v (offered (canonical message) v.link) (half_said turns ++ canonical message) (says_answer v turns message half free.1 none);
      order = counted.order;
      unit = counted.unit;
      agrees = counted.agrees;
    })
server_holds_counting shape v _ held turns d rests utters free is counted = none_is_some is

-- THE LOG counts what is said
abbrev pub answers_more : Shape → List Utterance → List ℕ → Option ServerCounts → Option ServerCounts
answers_more shape turns packet d = change_server (λ (c : ServerCounts). record c { answered = c.answered + length_in shape.slots (range_ended 2 (half_said turns) packet) }) d

-- where no range is said
order_same : (shape : Shape) (o : Option ServerSession) (d : Option ServerCounts) (turns : List Utterance) (packet : List ℕ)
    → range_sum shape.slots 2 (said (Said packet ∷ turns)) ≡ range_sum shape.slots 2 (said turns) → ServerOrder shape.slots o d turns
    → ServerOrder shape.slots o (answers_more shape turns packet d) (Said packet ∷ turns)
order_same shape o d turns packet same order = grind (arith, sum_said, count_said)

agrees_same : (o : Option ServerSession) (w : Option Work) (d : Option ServerCounts) (n : ℕ) → n ≡ 0 → ServerAgrees o w d
    → ServerAgrees o w (change_server (λ (c : ServerCounts). record c { answered = c.answered + n }) d)
agrees_same o w d n none agrees = grind arith

-- a server after a packet of this kind
abbrev pub put_as : PutKind → ServerState → ServerState
put_as kind v = record v { link = behind_put v.link; handshake = handshake_behind kind v.handshake; session = session_behind kind v.session }

-- A PACKET THAT GOES ON
pub goes_counting : (shape : Shape) (v : ServerState) (turns : List Utterance) (packet : List ℕ) (d : Option ServerCounts) → SaysOn v.link turns packet → ServerCounted shape v turns d
    → ServerCounted shape (put_as Goes v) (Said packet ∷ turns) (answers_more shape turns packet d)
goes_counting shape v turns packet d on counted =
    let same : range_sum shape.slots 2 (said (Said packet ∷ turns)) ≡ range_sum shape.slots 2 (said turns) = ap (range_sum shape.slots 2) on.messages in
    let none : length_in shape.slots (range_ended 2 (half_said turns) packet) ≡ 0 = omega (arith, same, sum_said shape.slots 2 packet turns) in
    record {
      slots = counted.slots;
      blocks = counted.blocks;
      holds = λ owing some. answer_with v (behind_put v.link) (half_said (Said packet ∷ turns) ++ (behind_put v.link).to_send)
          (subst (HoldsAnswer v) (sym on.whole) (counted.holds owing (on.some some)));
      order = order_same shape v.session d turns packet same counted.order;
      unit = counted.unit;
      agrees = agrees_same v.session v.work d (length_in shape.slots (range_ended 2 (half_said turns) packet)) none counted.agrees;
    }

nothing_left : (xs : List ℕ) → xs ≡ [] → 1 ≤ length xs → ⊥
nothing_left xs none some = omega (arith, ap length none)

pub comes_counting : (shape : Shape) (v : ServerState) (turns : List Utterance) (packet : List ℕ) (d : Option ServerCounts) → ServerUtters v turns → is_up v.link ≡ false → SaysOn v.link turns packet
    → ServerCounted shape v turns d → ServerCounted shape (put_as ComesUp v) (Said packet ∷ turns) (answers_more shape turns packet d)
comes_counting shape v turns packet d utters down on counted =
    let same = goes_counting shape v turns packet d on counted in
    record {
      slots = same.slots;
      blocks = same.blocks;
      holds = λ owing some. absurd (nothing_left v.link.to_send (utters.idle down) (on.some some));
      order = same.order;
      unit = same.unit;
      agrees = same.agrees;
    }

-- A MESSAGE OF THE HANDSHAKE is put whole
pub handshake_counting : (shape : Shape) (v : ServerState) (turns : List Utterance) (packet : List ℕ) (d : Option ServerCounts) → ServerRests v turns → is_none v.handshake.owed ≡ false → SaysWhole v.link turns packet
    → ServerCounted shape v turns d → ServerCounted shape (put_as EndsHandshake v) (Said packet ∷ turns) (answers_more shape turns packet d)
handshake_counting shape v turns packet d rests some last counted =
    let bytes = half_said turns ++ v.link.to_send in
    let holds = server_holds_owed v turns rests.stands some last.some in
    let may : MayOwe v.handshake.phase holds.message.subtype holds.message.body = subst (OwedFits v.handshake.phase) holds.owed rests.fits.owed in
    let no_range : range_in 2 (Some bytes) ≡ None =
    ap (λ (xs : List ℕ). range_in 2 (Some xs)) holds.is ∙ owed_no_range v.handshake.phase 2 holds.message (inr refl) may in
    let same : range_sum shape.slots 2 (said (Said packet ∷ turns)) ≡ range_sum shape.slots 2 (said turns) =
    omega (arith, ap (range_sum shape.slots 2) last.messages, sum_more shape.slots 2 (said turns) bytes, ap (length_in shape.slots) no_range) in
    let none : length_in shape.slots (range_ended 2 (half_said turns) packet) ≡ 0 = omega (arith, same, sum_said shape.slots 2 packet turns) in
    record {
      slots = counted.slots;
      blocks = counted.blocks;
      holds = λ owing left. absurd (omega (arith, left, ap length last.none));
      order = order_same shape v.session d turns packet same counted.order;
      unit = counted.unit;
      agrees = agrees_same v.session v.work d (length_in shape.slots (range_ended 2 (half_said turns) packet)) none counted.agrees;
    }

-- THE ANSWER to a range is put whole
pub none_is : (owed : Option Message) → is_none owed ≡ true → owed ≡ None
none_is None is = refl
none_is (Some message) is = absurd (cc is)

record Answered (slots : ℕ) (session : ServerSession) (range : SlotRange) (n : ℕ) : Type 0 where
  range_is : session.range ≡ Some range
  finished : session.finished ≡ session.asked
  adds : range.start < slots → range.end < slots → n ≡ range_length slots range.start range.end

pub work_most : (w : Option Work) (c : ServerCounts) → WorkAgrees w c → c.finished ≤ c.descs
work_most None c agrees = omega (arith, agrees.1)
work_most (Some work) c agrees = omega (arith, agrees.2)

-- a range whose last descriptor is finished: as many are as were asked for, counted without bound
pub all_finished : (slots : ℕ) (s : ServerSession) (w : Option Work) (c : ServerCounts) (turns : List Utterance) (range : SlotRange) → slots ≤ 256 → s.finished ≡ s.asked
    → RangeStands slots (Some range) c → InServerOrder slots s c turns → ServerCountsAgree s c → WorkAgrees w c → c.finished ≡ c.asked
all_finished slots s w c turns range few ended stands order counts work = grind arith

answered_order : (slots n : ℕ) (o : Option ServerSession) (w : Option Work) (d : Option ServerCounts) (turns behind : List Utterance) (session : ServerSession) (range : SlotRange) → slots ≤ 256
    → o ≡ Some session → Answered slots session range n → range_sum slots 2 (said behind) ≡ range_sum slots 2 (said turns) + n
    → (1 ≤ n → range_count 2 (said behind) ≡ range_count 2 (said turns) + 1) → heard behind ≡ heard turns → ServerOrder slots o d turns → ServerAgrees o w d
    → ServerOrder slots (answered o) (change_server (λ (c : ServerCounts). record c { answered = c.answered + n }) d) behind
    × ServerAgrees (answered o) w (change_server (λ (c : ServerCounts). record c { answered = c.answered + n }) d)
answered_order slots n o w d turns behind session range few is answers said_is counted heard_is order agrees = grind arith

pub own_counting : (shape : Shape) (v : ServerState) (turns : List Utterance) (packet : List ℕ) (d : Option ServerCounts) → shape.slots ≤ 256 → is_none v.handshake.owed ≡ true → SaysWhole v.link turns packet
    → ServerCounted shape v turns d → ServerCounted shape (put_as EndsOwn v) (Said packet ∷ turns) (answers_more shape turns packet d)
own_counting shape v turns packet d few none last counted =
    let bytes = half_said turns ++ v.link.to_send in
    let a = counted.holds (none_is v.handshake.owed none) last.some in
    let n = length_in shape.slots (range_ended 2 (half_said turns) packet) in
    let message : a.range.start < shape.slots → a.range.end < shape.slots → length_in shape.slots (range_in 2 (Some bytes)) ≡ range_length shape.slots a.range.start a.range.end =
    λ start end. ap (λ (xs : List ℕ). length_in shape.slots (range_in 2 (Some xs))) a.bytes_are
    ∙ said_range shape.slots 2 v.handshake.draft.sid Ack a.range.seq v.handshake.draft.ident_peer a.range.start a.range.end a.range.state refl
    (omega (arith, start, few)) (omega (arith, end, few)) in
    let whole : n ≡ length_in shape.slots (range_in 2 (Some bytes)) =
    omega (arith, sum_said shape.slots 2 packet turns, ap (range_sum shape.slots 2) last.messages, sum_more shape.slots 2 (said turns) bytes) in
    let both = answered_order shape.slots n v.session v.work d turns (Said packet ∷ turns) a.session a.range few a.session_is
    (record { range_is = a.range_is; finished = a.finished; adds = λ start end. whole ∙ message start end })
    (sum_said shape.slots 2 packet turns) (λ some. count_said 2 packet turns ∙ one_said (range_ended 2 (half_said turns) packet) some) refl counted.order counted.agrees in
    record {
      slots = counted.slots;
      blocks = counted.blocks;
      holds = λ owing left. absurd (omega (arith, left, ap length last.none));
      order = both.0;
      unit = counted.unit;
      agrees = both.1;
    }
  where
    one_said : (ended : Option (List ℕ)) → 1 ≤ length_in shape.slots ended → range_count 2 (said turns) + one_in ended ≡ range_count 2 (said turns) + 1
    one_said None some = absurd (omega (arith, some))
    one_said (Some message) some = refl
