-- A packet that a server takes leaves its session counting what it said and heard.
use Rattle.std.proofs.Common.{◌≡◌, ℕ, ◌+◌, inl, inr, Bool, true, false, Option, Some, None, List, [], ◌∷◌, ◌++◌, length, refl, sym, ap, ◌∙◌, subst, arith}
use Rattle.std.specs.Prelude.{is_some}
use Rattle.ldc_link.specs.declared.phase.Role.TheVariants.{Responder}
use Rattle.ldc_link.specs.LinkState.{LinkState, is_up}
use Rattle.ldc_queue.specs.Transcript.{Heard as Heard_, Utterance}
use Rattle.vio_handshake.specs.declared.handshake.Handshake.{Handshake}
use Rattle.vio_handshake.specs.declared.handshake.Phase.{Phase}
use Rattle.vio_handshake.specs.declared.handshake.Phase.TheVariants.{Open}
use Rattle.lane_models.specs.Sayings.{half_heard, half_said, heard}
use Rattle.lane_laws.specs.Agreement.{ServerAgrees, WorkAgrees}
use Rattle.lane_models.specs.Messages.{range_ended}
use Rattle.lane_laws.specs.WorkLog.{ServerCounts, change_server, length_in, opened_counts}
use Rattle.lane_models.specs.EndPuts.{handshake_risen}
use Rattle.lane_models.specs.LaneState.{Shape}
use Rattle.lane_models.specs.Ranges.{wrapped}
use Rattle.lane_models.specs.ServerState.{ServerSession, ServerState, Work, joined_server, restarted_server}
use Rattle.lane_models.proofs.Apart.{true_is_false}
use Rattle.lane_models.specs.Grounds.{has_named}
use Rattle.lane_laws.proofs.ClientTaken.{HearsMessage}
use Rattle.lane_models.proofs.EndStanding.{open_declines, up_empty}
use Rattle.lane_models.proofs.HandshakeCases.{HandshakeTook}
use Rattle.lane_laws.proofs.RangeSums.{count_more, sum_heard, sum_more}
use Rattle.lane_laws.proofs.RangesSaid.{IsNoData, heard_no_range, no_data}
use Rattle.lane_laws.proofs.RuleTests.{TakesFree}
use Rattle.lane_laws.proofs.ServerTaken.{ServerAsked, ServerHearsPart, ServerHandshakes, ServerTook, still}
use Rattle.lane_laws.specs.Counted.{NothingAsked, ServerCounted, ServerHolds, ServerOrder, range_count, range_sum}
use Rattle.vio_tag.specs.declared.message.Message.{Message}
use Rattle.lane_laws.specs.LaneRests.{ServerRests, ServerUtters}

-- IT BEGINS
pub server_begins_counting : (shape : Shape) (v : ServerState) (turns : List Utterance) (d : Option ServerCounts) → ServerCounted shape v turns d → ServerCounted shape (joined_server v) [] None
server_begins_counting shape v turns d counted = grind arith

pub server_restarts_counting : (shape : Shape) (v : ServerState) (turns : List Utterance) (d : Option ServerCounts) → ServerCounted shape v turns d → ServerCounted shape (restarted_server v) [] None
server_restarts_counting shape v turns d counted = grind arith

-- THE LOG counts what is heard
abbrev asks_more : Shape → List Utterance → List ℕ → Option ServerCounts → Option ServerCounts
asks_more shape turns packet d = change_server (λ (c : ServerCounts). record c { asked = c.asked + length_in shape.slots (range_ended 1 (half_heard turns) packet) }) d

-- where no range is heard
order_same : (shape : Shape) (o : Option ServerSession) (d : Option ServerCounts) (turns : List Utterance) (packet : List ℕ)
    → range_sum shape.slots 1 (heard (Heard_ packet ∷ turns)) ≡ range_sum shape.slots 1 (heard turns)
    → range_count 1 (heard (Heard_ packet ∷ turns)) ≡ range_count 1 (heard turns) → ServerOrder shape.slots o d turns
    → ServerOrder shape.slots o (asks_more shape turns packet d) (Heard_ packet ∷ turns)
order_same shape o d turns packet same as_many order = grind (arith, sum_heard)

agrees_same : (o : Option ServerSession) (w : Option Work) (d : Option ServerCounts) (n : ℕ) → n ≡ 0 → ServerAgrees o w d
    → ServerAgrees o w (change_server (λ (c : ServerCounts). record c { asked = c.asked + n }) d)
agrees_same o w d n none agrees = grind arith

abbrev Behind : Shape → List Utterance → List ℕ → ℕ → Option ServerCounts → Bool → ServerState → Type 0
Behind shape turns packet sid d opens t = ServerCounted shape t (Heard_ packet ∷ turns) (opened_counts opens sid (asks_more shape turns packet d))

-- IT TAKES a packet: a part of a message, or one of its link's handshake, with which the link may come up
holds_risen : (b : Bool) (v : ServerState) (k : LinkState) (turns : List Utterance) → is_up v.link ≡ b → k.to_send ≡ v.link.to_send → (is_up v.link ≡ false → v.link.to_send ≡ []) → ServerHolds v turns
    → ServerHolds (record v { link = k; handshake = handshake_risen v.link k v.handshake }) turns
holds_risen false v k turns is left idle holds = λ owing some. absurd (omega (arith, some, ap length left, ap length (idle is)))
holds_risen true v k turns is left idle holds =
    let same : handshake_risen v.link k v.handshake ≡ v.handshake = still (is_up k) (is_up v.link) v.handshake is in
    subst (λ (h : Handshake). ServerHolds (record v { link = k; handshake = h }) turns) (sym same)
    (λ owing some.
    let answer = holds owing (omega (arith, some, ap length left)) in
    record {
      session = answer.session;
      range = answer.range;
      session_is = answer.session_is;
      range_is = answer.range_is;
      finished = answer.finished;
      bytes_are = ap (λ (xs : List ℕ). half_said turns ++ xs) left ∙ answer.bytes_are;
    })

takes_part : (shape : Shape) (v t : ServerState) (turns : List Utterance) (packet : List ℕ) (sid : ℕ) (d : Option ServerCounts) (opens : Bool) → ServerUtters v turns → ServerCounted shape v turns d
    → ServerHearsPart v turns packet t opens → Behind shape turns packet sid d opens t
takes_part shape v t turns packet sid d opens utters counted part =
    let same : range_sum shape.slots 1 (heard (Heard_ packet ∷ turns)) ≡ range_sum shape.slots 1 (heard turns) = ap (range_sum shape.slots 1) part.messages in
    let none : length_in shape.slots (range_ended 1 (half_heard turns) packet) ≡ 0 = omega (arith, same, sum_heard shape.slots 1 packet turns) in
    subst (λ (b : Bool). Behind shape turns packet sid d b t) (sym part.opens_is)
    (subst (Behind shape turns packet sid d false) (sym part.is) (record {
      slots = counted.slots;
      blocks = counted.blocks;
      holds = holds_risen (is_up v.link) v part.link turns refl part.left utters.idle counted.holds;
      order = order_same shape v.session d turns packet same (ap (range_count 1) part.messages) counted.order;
      unit = counted.unit;
      agrees = agrees_same v.session v.work d (length_in shape.slots (range_ended 1 (half_heard turns) packet)) none counted.agrees;
    }))

-- a message of the handshake: its session may open by it
opens_closed : (h g : Handshake) (message : Message) → h.phase ≡ Open → HandshakeTook h message g true → ⊥
opens_closed h g message is took = true_is_false ((open_declines h g message true is took.row).1)

closed : (o : Option ServerSession) (phase : Phase) → (is_some o ≡ true → phase ≡ Open) → (phase ≡ Open → ⊥) → o ≡ None
closed None phase opened never = refl
closed (Some session) phase opened never = absurd (never (opened refl))

pub no_work : (o : Option ServerSession) (w : Option Work) (d : Option ServerCounts) → o ≡ None → ServerAgrees o w d → w ≡ None
no_work o w d is agrees = grind arith

nothing_asked : (slots : ℕ) (o : Option ServerSession) (d : Option ServerCounts) (turns : List Utterance) → o ≡ None → ServerOrder slots o d turns → NothingAsked slots turns
nothing_asked slots None d turns is order = order
nothing_asked slots (Some s) d turns is order = absurd (cc is)

opened_work : (w : Option Work) (sid : ℕ) → w ≡ None
    → WorkAgrees w (record { sid = sid; asked = 0; descs = 0; finished = 0; answered = 0; desc = []; owed = [] })
opened_work None sid is = (refl, refl)
opened_work (Some work) sid is = absurd (cc is)

-- a message of the handshake is no INFO
no_more_infos : (turns : List Utterance) (packet : List ℕ) (message : Message) → (hears : HearsMessage turns packet message) → IsNoData message.body
    → range_count 1 (heard (Heard_ packet ∷ turns)) ≡ range_count 1 (heard turns)
no_more_infos turns packet message hears apart = grind (arith, count_more)

takes_handshake : (opens : Bool) (shape : Shape) (v t : ServerState) (turns : List Utterance) (packet : List ℕ) (sid : ℕ) (d : Option ServerCounts) → ServerRests v turns → TakesFree v
    → ServerCounted shape v turns d → ServerHandshakes v turns packet t opens → Behind shape turns packet sid d opens t
takes_handshake false shape v t turns packet sid d rests free counted handshakes =
    let bytes = handshakes.hears.bytes in
    let apart : IsNoData handshakes.message.body = no_data v.handshake handshakes.handshake handshakes.message false handshakes.took in
    let empty : v.link.to_send ≡ [] = up_empty v.link handshakes.up free.free in
    let same : range_sum shape.slots 1 (heard (Heard_ packet ∷ turns)) ≡ range_sum shape.slots 1 (heard turns) =
    omega (
      arith,
      ap (range_sum shape.slots 1) handshakes.hears.messages,
      sum_more shape.slots 1 (heard turns) bytes,
      ap (length_in shape.slots) (heard_no_range 1 bytes handshakes.message handshakes.hears.spells handshakes.hears.form apart),
    ) in
    let as_many : range_count 1 (heard (Heard_ packet ∷ turns)) ≡ range_count 1 (heard turns) = no_more_infos turns packet handshakes.message handshakes.hears apart in
    let none : length_in shape.slots (range_ended 1 (half_heard turns) packet) ≡ 0 = omega (arith, same, sum_heard shape.slots 1 packet turns) in
    subst (Behind shape turns packet sid d false) (sym handshakes.is) (record {
      slots = counted.slots;
      blocks = counted.blocks;
      holds = λ owing some. absurd (omega (arith, some, ap length handshakes.left, ap length empty));
      order = order_same shape v.session d turns packet same as_many counted.order;
      unit = counted.unit;
      agrees = agrees_same v.session v.work d (length_in shape.slots (range_ended 1 (half_heard turns) packet)) none counted.agrees;
    })
takes_handshake true shape v t turns packet sid d rests free counted handshakes =
    let bytes = handshakes.hears.bytes in
    let apart : IsNoData handshakes.message.body = no_data v.handshake handshakes.handshake handshakes.message true handshakes.took in
    let empty : v.link.to_send ≡ [] = up_empty v.link handshakes.up free.free in
    let none : v.session ≡ None = closed v.session v.handshake.phase rests.opened (λ (now : v.handshake.phase ≡ Open). opens_closed v.handshake handshakes.handshake handshakes.message now handshakes.took) in
    let nothing = nothing_asked shape.slots v.session d turns none counted.order in
    subst (Behind shape turns packet sid d true) (sym handshakes.is) (record {
      slots = counted.slots;
      blocks = counted.blocks;
      holds = λ owing some. absurd (omega (arith, some, ap length handshakes.left, ap length empty));
      order = record {
        asked = omega (
          arith,
          nothing.asked,
          ap (range_sum shape.slots 1) handshakes.hears.messages,
          sum_more shape.slots 1 (heard turns) bytes,
          ap (length_in shape.slots) (heard_no_range 1 bytes handshakes.message handshakes.hears.spells handshakes.hears.form apart),
        );
        answered = sym nothing.answered;
        finished = omega arith;
        descs = omega arith;
        range = refl;
        seq = let none_yet : range_count 1 (heard (Heard_ packet ∷ turns)) ≡ 0 = no_more_infos turns packet handshakes.message handshakes.hears apart ∙ nothing.infos in
            ap (λ (x : ℕ). wrapped (x + 1)) (sym none_yet);
        replies = omega (arith, no_more_infos turns packet handshakes.message handshakes.hears apart, nothing.infos);
      };
      unit = counted.unit;
      agrees = (record { asked = refl; descs = refl; finished = refl; answered = refl }, opened_work v.work sid (no_work v.session v.work d none counted.agrees));
    })

-- A RANGE that it is asked for
pub wraps_more : (a b n : ℕ) → a ≡ wrapped b → wrapped (a + n) ≡ wrapped (b + n)
wraps_more a b n is = omega (arith, is)

-- in session the server's ring has as many slots as the lane's
pub own_slots : (shape : Shape) (v : ServerState) (turns : List Utterance) (d : Option ServerCounts) → ServerRests v turns → is_some v.session ≡ true → ServerCounted shape v turns d
    → v.handshake.draft.peer_slots ≡ shape.slots
own_slots shape v turns d rests now counted =
    rests.fits.ring refl (ap (has_named Responder) (rests.opened now)) ∙ counted.slots

takes_ask : (shape : Shape) (v t : ServerState) (turns : List Utterance) (packet : List ℕ) (sid : ℕ) (d : Option ServerCounts) (opens : Bool) → ServerRests v turns → TakesFree v
    → ServerCounted shape v turns d → ServerAsked v turns packet t opens → Behind shape turns packet sid d opens t
takes_ask shape v t turns packet sid d opens rests free counted asks = grind (arith, sum_heard, sum_more, count_more)

pub server_takes_counting : (shape : Shape) (v t : ServerState) (turns : List Utterance) (packet : List ℕ) (sid : ℕ) (d : Option ServerCounts) (opens : Bool) → ServerRests v turns → ServerUtters v turns
    → TakesFree v → ServerCounted shape v turns d → ServerTook v turns packet t opens
    → ServerCounted shape t (Heard_ packet ∷ turns) (opened_counts opens sid (asks_more shape turns packet d))
server_takes_counting shape v t turns packet sid d opens rests utters free counted (inl part) = takes_part shape v t turns packet sid d opens utters counted part
server_takes_counting shape v t turns packet sid d opens rests utters free counted (inr (inl handshakes)) = takes_handshake opens shape v t turns packet sid d rests free counted handshakes
server_takes_counting shape v t turns packet sid d opens rests utters free counted (inr (inr asks)) = takes_ask shape v t turns packet sid d opens rests free counted asks

-- its session opens where it had none
pub opens_new : (v t : ServerState) (turns : List Utterance) (packet : List ℕ) → ServerRests v turns → ServerTook v turns packet t true → v.session ≡ None
opens_new v t turns packet rests took = grind arith
