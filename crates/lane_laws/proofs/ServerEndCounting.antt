-- A descriptor that a server fetches, and one that gets its status, are counted by its session; and each packet that it puts.
use Rattle.std.proofs.Common.{◌≡◌, ◌≢◌, ℕ, ◌+◌, ◌≤◌, Bool, true, false, Option, Some, None, List, ◌∷◌, refl, sym, ap, ◌∙◌, subst, arith}
use Rattle.std.specs.Prelude.{is_none, is_some, ◌==◌}
use Rattle.std.proofs.lemmas.Bool.Decides.{nat_tests}
use Rattle.ldc_queue.specs.Transcript.{Said, Utterance}
use Rattle.vdisk_msg.specs.Descriptor.{disk_desc_of}
use Rattle.vdisk_msg.specs.Pieces.{pieces}
use Rattle.lane_laws.specs.Agreement.{ServerAgrees, ServerCountsAgree, WorkAgrees}
use Rattle.lane_laws.specs.WorkLog.{ServerCounts, change_server, rest_of}
use Rattle.lane_models.specs.EndPuts.{ComesUp, EndsOwn, EndsHandshake, Goes, PutKind}
use Rattle.lane_models.specs.LaneState.{Shape}
use Rattle.lane_models.specs.Ranges.{wrapped}
use Rattle.lane_models.specs.Seeing.{Seen}
use Rattle.lane_models.specs.ServerPutting.{server_kind}
use Rattle.lane_models.specs.ServerRule.{Fetches, server_rule}
use Rattle.lane_models.specs.ServerState.{ServerSession, ServerState, SlotRange, Work}
use Rattle.lane_models.specs.ServerStep.{ServerFetches, ServerFinishes, ServerSends}
use Rattle.cookie_copy.specs.Reach.{Reach}
use Rattle.lane_models.specs.ServerWork.{first_progress}
use Rattle.lane_models.proofs.Apart.{none_is_some, some_same}
use Rattle.lane_models.proofs.PutSayings.{PutSays, put_says}
use Rattle.lane_laws.proofs.RulesFree.{ServerFree, server_free}
use Rattle.lane_laws.proofs.ServerPutCounting.{answers_more, comes_counting, goes_counting, own_counting, put_as, server_holds_counting, handshake_counting}
use Rattle.lane_laws.proofs.Speaking.{server_blocked_rests, server_blocked_utters}
use Rattle.lane_laws.proofs.ServerWorkCounting.{begins_owing, first_unit, holds_none}
use Rattle.lane_laws.specs.Budget.{one_range}
use Rattle.lane_laws.specs.Counted.{RangeStands, ServerCounted, ServerOrder}
use Rattle.lane_laws.specs.LaneRests.{ServerRests, ServerUtters}
use Rattle.lane_models.proofs.PacketsLeft.{shut_in}

not_same : (a b : ℕ) → (a == b) ≡ false → a ≡ b → ⊥
not_same a b test is = let same : (a == b) ≡ true = grind (arith, nat_tests) in absurd (cc)

-- IT FETCHES a descriptor
abbrev fetched_log : ℕ → List ℕ → ServerCounts → ServerCounts
fetched_log blocks bytes c = record c { descs = c.descs + 1; desc = bytes; owed = pieces (disk_desc_of bytes) blocks 0x0e }

range_fetched : (slots blocks : ℕ) (bytes : List ℕ) (range : Option SlotRange) (c : ServerCounts) → RangeStands slots range c → RangeStands slots range (fetched_log blocks bytes c)
range_fetched slots blocks bytes None c stands = stands
range_fetched slots blocks bytes (Some range) c stands = stands

wraps_one : (a b : ℕ) → a ≡ wrapped b → wrapped (a + 1) ≡ wrapped (b + 1)
wraps_one a b is = omega (arith, is)

fetched_both : (slots blocks : ℕ) (o : Option ServerSession) (w : Option Work) (d : Option ServerCounts) (turns : List Utterance) (session : ServerSession) (bytes : List ℕ)
    → o ≡ Some session → w ≡ None → (session.finished == session.asked) ≡ false → ServerOrder slots o d turns → ServerAgrees o w d
    → ServerOrder slots (Some (record session { descs = wrapped (session.descs + 1) })) (change_server (fetched_log blocks bytes) d) turns
    × ServerAgrees (Some (record session { descs = wrapped (session.descs + 1) })) (Some (record { bytes = bytes; progress = first_progress blocks (disk_desc_of bytes) }))
    (change_server (fetched_log blocks bytes) d)
fetched_both slots blocks None w d turns session bytes is none unfinished order agrees = none_is_some is
fetched_both slots blocks (Some s) w None turns session bytes is none unfinished order agrees = absurd order
fetched_both slots blocks (Some s) w (Some c) turns session bytes is none unfinished order agrees =
    let same : s ≡ session = some_same is in
    let works : WorkAgrees None c = subst (λ (x : Option Work). WorkAgrees x c) none agrees.1 in
    let counts : ServerCountsAgree session c = subst (λ (x : ServerSession). ServerCountsAgree x c) same agrees.0 in
    let other : c.finished ≢ c.asked = λ all. absurd (not_same session.finished session.asked unfinished (counts.finished ∙ ap wrapped all ∙ sym counts.asked)) in (
      record {
        asked = order.asked;
        answered = order.answered;
        finished = order.finished;
        descs = omega (arith, order.descs, works.1, other);
        range = subst (λ (x : ServerSession). RangeStands slots x.range (fetched_log blocks bytes c)) same (range_fetched slots blocks bytes s.range c order.range);
        seq = ap (λ (x : ServerSession). x.seq) (sym same) ∙ order.seq;
        replies = omega (arith, order.replies, ap (λ (x : ServerSession). one_range x.range) same);
      },
      (
        record { asked = counts.asked; descs = wraps_one session.descs c.descs counts.descs; finished = counts.finished; answered = counts.answered },
        (refl, begins_owing blocks (disk_desc_of bytes), ap (λ (n : ℕ). n + 1) works.1),
      ),
    )

pub server_fetches_counting : (shape : Shape) (v : ServerState) (at : Seen) (reach : Reach) (slot : ℕ) (bytes : List ℕ) (t : ServerState) (new : List ℕ) (turns : List Utterance)
    (d : Option ServerCounts) → ServerRests v turns → ServerFetches v at reach slot bytes t new → ServerCounted shape v turns d
    → ServerCounted shape t turns (change_server (λ (c : ServerCounts). record c { descs = c.descs + 1; desc = bytes; owed = pieces (disk_desc_of bytes) shape.blocks 0x0e }) d)
server_fetches_counting shape v at reach slot bytes t new turns d rests step counted =
    let free : ServerFree v (Fetches step.session) = subst (ServerFree v) step.rule (server_free v at) in
    let session = step.session in
    let now : is_some v.session ≡ true = ap is_some free.0.session_is in
    let both = fetched_both shape.slots shape.blocks v.session v.work d turns session bytes free.0.session_is free.1 free.0.unfinished counted.order counted.agrees in
    let behind : ServerState = record v {
      session = Some (record session { descs = wrapped (session.descs + 1) });
      work = Some (record { bytes = bytes; progress = first_progress shape.blocks (disk_desc_of bytes) });
    } in
    let is : t ≡ behind = step.is ∙ ap (λ (n : ℕ). record v {
      session = Some (record session { descs = wrapped (session.descs + 1) });
      work = Some (record { bytes = bytes; progress = first_progress n (disk_desc_of bytes) });
    }) counted.blocks in
    subst (λ (x : ServerState). ServerCounted shape x turns (change_server (fetched_log shape.blocks bytes) d)) (sym is) (record {
      slots = counted.slots;
      blocks = counted.blocks;
      holds = holds_none v behind turns rests now free.0.free refl;
      order = both.0;
      unit = first_unit shape.blocks (disk_desc_of bytes);
      agrees = both.1;
    })

-- ONE GETS ITS STATUS
abbrev pub finished_log : ServerCounts → ServerCounts
finished_log c = record c { finished = c.finished + 1; owed = rest_of c.owed }

pub server_finishes_counting : (shape : Shape) (v : ServerState) (at : Seen) (reach : Reach) (slot status : ℕ) (t : ServerState) (new : List ℕ) (turns : List Utterance)
    (d : Option ServerCounts) → ServerRests v turns → ServerFinishes v at reach slot status t new → ServerCounted shape v turns d
    → ServerCounted shape t turns (change_server (λ (c : ServerCounts). record c { finished = c.finished + 1; owed = rest_of c.owed }) d)
server_finishes_counting shape v at reach slot status t new turns d rests step counted = grind (arith, server_free)

-- EACH PACKET that it puts; its session never opens by one
put_counting : (kind : PutKind) (shape : Shape) (v : ServerState) (turns : List Utterance) (packet : List ℕ) (d : Option ServerCounts) → shape.slots ≤ 256 → ServerRests v turns → ServerUtters v turns
    → PutSays kind (is_none v.handshake.owed) v.link turns packet → ServerCounted shape v turns d → ServerCounted shape (put_as kind v) (Said packet ∷ turns) (answers_more shape turns packet d)
put_counting Goes shape v turns packet d few rests utters says counted = goes_counting shape v turns packet d says counted
put_counting ComesUp shape v turns packet d few rests utters says counted = comes_counting shape v turns packet d utters says.1 says.0 counted
put_counting EndsOwn shape v turns packet d few rests utters says counted = own_counting shape v turns packet d few says.1 says.0 counted
put_counting EndsHandshake shape v turns packet d few rests utters says counted = handshake_counting shape v turns packet d rests says.1 says.0 counted

pub server_puts_counting : (shape : Shape) (v : ServerState) (at : Seen) (packet : List ℕ) (opens : Bool) (t : ServerState) (turns : List Utterance) (d : Option ServerCounts) → shape.slots ≤ 256
    → ServerSends v at packet opens t → ServerRests v turns → ServerUtters v turns → ServerCounted shape v turns d
    → ServerCounted shape t (Said packet ∷ turns) (answers_more shape turns packet d) × (opens ≡ false)
server_puts_counting shape v at packet opens t turns d few sends rests utters counted =
    let held : ServerCounted shape sends.held turns d = server_holds_counting shape v (server_rule v at) sends.held turns d rests utters (server_free v at) sends.holds counted in
    let held_utters = server_blocked_utters v at sends.held turns sends.holds rests in
    let held_rests = server_blocked_rests v at sends.held turns sends.holds rests in
    let follows = held_rests.stands.link.follows in
    let says = put_says (is_none sends.held.handshake.owed) sends.held.link t.link turns packet follows sends.packet in (
      subst (λ (x : ServerState). ServerCounted shape x (Said packet ∷ turns) (answers_more shape turns packet d)) (sym sends.is)
          (put_counting (server_kind sends.held) shape sends.held turns packet d few held_rests held_utters says held),
      sends.opens_is ∙ shut_in (server_kind sends.held) sends.held.handshake held_rests.fits.role_is,
    )
