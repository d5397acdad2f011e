-- Each move of an end leaves it as its moves count it: whether it is stuck, and with what.
use Rattle.std.proofs.Common.{◌≡◌, ℕ, ◌≤◌, Bool, true, false, Option, Some, None, List, [], ◌∷◌, ◌++◌, drop, length, refl, sym, ap, ◌∙◌, subst, arith}
use Rattle.std.specs.Prelude.{is_none, not, ◌&&◌, ◌||◌, nat_le}
use Rattle.std.proofs.lemmas.Bool.{leb-false, leb-true, ltb-false}
use Rattle.std.proofs.lemmas.List.{drop_all}
use Rattle.ldc_link.specs.declared.phase.LinkPhase.{LinkPhase}
use Rattle.ldc_link.specs.declared.phase.LinkPhase.TheVariants as phase
use Rattle.ldc_link.specs.declared.phase.Role.{Role}
use Rattle.ldc_link.specs.declared.phase.Role.TheVariants.{Responder}
use Rattle.ldc_link.specs.Calls.{Puts}
use Rattle.ldc_link.specs.LinkState.{LinkState, is_established, is_up, offered}
use Rattle.ldc_link.specs.Putting.{begun_behind_put, behind_put, left_behind_put, owed_packet, owes, owes_control, with_link}
use Rattle.ldc_packet.specs.declared.packet.Packet.{Packet}
use Rattle.ldc_queue.specs.Messages.{is_empty}
use Rattle.ldc_queue.specs.Transcript.{Utterance}
use Rattle.vio_handshake.specs.declared.handshake.Handshake.{Handshake}
use Rattle.vio_tag.specs.declared.message.Message.{Message}
use Rattle.vio_tag.specs.Spelling.{canonical}
use Rattle.lane_models.specs.EndPuts.{EndsHandshake, PutKind, put_opens}
use Rattle.lane_models.specs.Sayings.{half_said}
use Rattle.vio_handshake.specs.Rules.{opens_by_put}
use Rattle.lane_models.proofs.Apart.{false_is_true, none_is_some, true_is_false}
use Rattle.lane_models.proofs.EndCases.{EndTook, NoMessage, Rises, TookHandshake, TookOwn, TookWhat, end_took, link_hears}
use Rattle.lane_models.proofs.EndStanding.{SameSending, hears_sending, held_stands, holds_none, holds_some, open_up, owing_up}
use Rattle.lane_models.proofs.MessagesHeld.{owed_held}
use Rattle.lane_models.proofs.Short.{some_bytes}
use Rattle.lane_models.specs.Blockage.{Blockage, Clear, EndSends, Stuck, StuckBefore, blockage_after, has_begun, hearing, is_stuck, is_stuck_with_own, left_if, left_of, owed_left, stuck}
use Rattle.lane_models.specs.Cuts.{CarriesEither, CarriesOwed}
use Rattle.lane_models.specs.EndCore.{Begins, EndCore, EndMove, Fails, Hears, Renews, Says, Stays, Waits, holds}
use Rattle.lane_models.specs.EndStep.{EndHears, EndSays, EndStays, EndStep, Holding, Holds, HoldsOn, HoldsOwed, HoldsOwn, kind_of}
use Rattle.lane_models.specs.Standing.{EndStands}

-- A LINK that is up has a packet to put exactly where it holds a message
pub owes_up : (k : LinkState) → is_up k ≡ true → 1 ≤ length k.to_send → owes k ≡ true
owes_up k up some = grind arith

pub sends_some : (k : LinkState) → is_up k ≡ true → owes k ≡ true → 1 ≤ length k.to_send
sends_some k up owing = grind arith

pub calm_up : (k : LinkState) → owes_control k ≡ false → owes k ≡ true → is_up k ≡ true
calm_up k calm owing = grind arith

holds_up : (k : LinkState) → holds k ≡ true → is_up k ≡ true
holds_up k held = grind arith

some_held : (k : LinkState) → holds k ≡ true → 1 ≤ length k.to_send
some_held k held = grind arith

pub and_false : (b : Bool) → (b && false) ≡ false
and_false true = refl
and_false false = refl

or_true : (b : Bool) → (b || true) ≡ true
or_true true = refl
or_true false = refl

stuck_is : (b : Blockage) → is_stuck (stuck b) ≡ true
stuck_is Clear = refl
stuck_is _ = refl

hearing_is : (b : Blockage) → is_stuck (hearing b) ≡ is_stuck b
hearing_is Clear = refl
hearing_is _ = refl

pub stuck_own : (b : Blockage) (owed : Option Message) → is_stuck_with_own b owed ≡ true → is_stuck b ≡ true
stuck_own Clear owed is = false_is_true is
stuck_own _ owed is = refl

-- what an end has to send, its link is up for
pub some_holds : (role : Role) (c : EndCore) (turns : List Utterance) → EndStands role c turns → 1 ≤ length c.link.to_send → holds c.link ≡ true
some_holds role c turns stands some = by_up (is_up c.link) refl
  where
    by_up : (b : Bool) → is_up c.link ≡ b → holds c.link ≡ true
    by_up true up = holds_some c.link up some
    by_up false down = absurd (omega (arith, some, ap length (stands.below down).left))

-- an end whose link owes nothing isn't stuck
pub not_stuck : (c : EndCore) (b : Blockage) → EndSends c b → owes c.link ≡ false → b ≡ Clear
not_stuck c Clear sends quiet = refl
not_stuck c _ sends quiet = true_is_false (sym (sends.owing refl) ∙ quiet)

-- NOTHING IS LEFT of what it held
pub none_sends : (t : EndCore) → t.link.to_send ≡ [] → EndSends t Clear
none_sends t none = record {
  owing = λ never. false_is_true never;
  fresh = λ unput some. absurd (omega (arith, some, ap length none));
  short = λ held own. absurd (holds_none t.link none held);
  own = λ held. absurd (holds_none t.link none held);
}

-- IT HEARS a packet
own_heard : (b : Blockage) (owed behind : Option Message) → owed ≡ None → is_stuck_with_own b owed ≡ is_stuck_with_own (hearing b) behind
own_heard b owed behind none = grind arith

stays_open : (role : Role) (c t : EndCore) (turns : List Utterance) (packet : List ℕ) (opens : Bool) (now : LinkState) → TookWhat role c turns packet opens t now → c.is_open ≡ true
    → t.is_open ≡ true
stays_open role c t turns packet opens now (NoMessage up messages handshake shut is_open) opened = is_open ∙ opened
stays_open role c t turns packet opens now (Rises role_is down up messages handshake shut is_open) opened = is_open ∙ opened
stays_open role c t turns packet opens now (TookOwn message took own handshake shut is_open) opened = is_open ∙ opened
stays_open role c t turns packet opens now (TookHandshake message took handshake is_open) opened = is_open ∙ ap (λ (b : Bool). opens || b) opened ∙ or_true opens

hears_sends : (role : Role) (c t : EndCore) (turns : List Utterance) (b : Blockage) (packet : List ℕ) (opens : Bool) → EndStands role c turns → EndSends c b → EndHears role c packet opens t
    → EndSends t (hearing b)
hears_sends role c t turns b packet opens stands sends hears = record {
  owing = λ now.
      let owed : owes c.link ≡ true = sends.owing (sym (hearing_is b) ∙ now) in
      let up : is_up c.link ≡ true = open_up role c turns stands (opened c.is_open refl owed) in
      owes_up t.link (stays up) (omega (arith, sends_some c.link up owed, ap length same.left));
  fresh = λ unput some. hearing_is b ∙ sends.fresh (sym same.begun ∙ unput) (omega (arith, some, ap length same.left));
  short = λ held own. omega (arith, sends.short (was held) (sym (hears.own (was held) held) ∙ own), ap length same.left);
  own = λ held.
      let owed : owes c.link ≡ true = owes_up c.link (holds_up c.link (was held)) (some_held c.link (was held)) in
      let is_open : c.is_open ≡ true = opened c.is_open refl owed in
      hears.own (was held) held ∙ sends.own (was held) ∙ ap (λ (x : Bool). x && is_stuck_with_own b c.handshake.owed) is_open
      ∙ own_heard b c.handshake.owed t.handshake.owed hears.may.owed
      ∙ sym (ap (λ (x : Bool). x && is_stuck_with_own (hearing b) t.handshake.owed) (stays_open role c t turns packet opens took.now took.what is_open));
}
  where
    took : EndTook role c turns packet opens t
    took = end_took role c t turns packet opens stands hears

    same : SameSending c.link t.link
    same = hears_sending role c t packet opens hears

    opened : (b : Bool) → c.is_open ≡ b → owes c.link ≡ true → c.is_open ≡ true
    opened true is owed = is
    opened false is owed = true_is_false (sym owed ∙ hears.may.quiet is)

    stays : is_up c.link ≡ true → is_up t.link ≡ true
    stays up = ap is_up hears.link ∙ (link_hears c.link hears.heard turns packet stands.link.seen stands.link.follows hears.takes).up up

    was : holds t.link ≡ true → holds c.link ≡ true
    was held = some_holds role c turns stands (omega (arith, some_held t.link held, ap length same.left))

-- IT PUTS A PACKET of what it holds
held_short : (c held : EndCore) (b : Blockage) (what : Holding) → EndSends c b → Holds c what held → holds held.link ≡ true → held.own ≡ true → length held.link.to_send ≤ 56
held_short c held b HoldsOn sends still = subst (λ (x : EndCore). holds x.link ≡ true → x.own ≡ true → length x.link.to_send ≤ 56) (sym still.is) sends.short
held_short c held b (HoldsOwed message) sends offers = λ is own. true_is_false (sym own ∙ offers.own is)
held_short c held b (HoldsOwn message) sends offers = λ is own.
    let same : held.link.to_send ≡ canonical message = ap (λ (k : LinkState). k.to_send) offers.link in
    omega (arith, ap length same, offers.short)

with_behind : (owed : Option Packet) (k m : LinkState) (packet : Packet) → with_link owed k ≡ Some (packet, m) → m ≡ k
with_behind None k m packet is = none_is_some is
with_behind (Some first) k m packet is =
    let pair : ◌≡◌ {A = Packet × LinkState} (first, k) (packet, m) = cc is in sym (ap (λ (p : Packet × LinkState). p.1) pair)

pub puts_behind : (k m : LinkState) (bytes : List ℕ) → Puts k bytes m → m ≡ behind_put k
puts_behind k m bytes puts = with_behind (owed_packet k) (behind_put k) m puts.packet puts.next

put_left : (k : LinkState) → (is_up k ≡ false → k.to_send ≡ []) → (behind_put k).begun ≡ false → (behind_put k).to_send ≡ []
put_left k quiet apart = in_phase k.phase quiet apart
  where
    in_phase : (ph : LinkPhase) → (is_established ph ≡ false → k.to_send ≡ []) → begun_behind_put ph k.to_send k.begun ≡ false → left_behind_put ph k.to_send ≡ []
    in_phase phase.Established none more = drop_all 56 k.to_send (omega (arith, ltb-false 56 (length k.to_send) more))
    in_phase _ none more = none refl

put_short : (k : LinkState) → (is_up k ≡ false → k.to_send ≡ []) → length k.to_send ≤ 56 → (behind_put k).to_send ≡ []
put_short k quiet few = in_phase k.phase quiet
  where
    in_phase : (ph : LinkPhase) → (is_established ph ≡ false → k.to_send ≡ []) → left_behind_put ph k.to_send ≡ []
    in_phase phase.Established none = drop_all 56 k.to_send few
    in_phase _ none = none refl

says_sends : (role : Role) (c t : EndCore) (turns : List Utterance) (b : Blockage) (packet : List ℕ) (opens : Bool) → EndStands role c turns → EndSends c b → EndSays role c packet opens t
    → EndSends t Clear
says_sends role c t turns b packet opens stands sends says = record {
  owing = λ never. false_is_true never;
  fresh = λ unput some. absurd (omega (arith, some, ap length (left_gone (sym (ap (λ (k : LinkState). k.begun) behind) ∙ unput))));
  short = λ is own. absurd (never is own);
  own = λ is. not_own t.own refl is;
}
  where
    held : EndCore
    held = says.held

    stood : EndStands role held turns
    stood = held_stands role c held turns says.what stands says.holds

    behind : t.link ≡ behind_put held.link
    behind = puts_behind held.link t.link packet says.puts

    left_is : t.link.to_send ≡ (behind_put held.link).to_send
    left_is = ap (λ (k : LinkState). k.to_send) behind

    left_gone : (behind_put held.link).begun ≡ false → t.link.to_send ≡ []
    left_gone fresh = left_is ∙ put_left held.link (λ down. (stood.below down).left) fresh

    by_length : (few : Bool) → nat_le (length held.link.to_send) 56 ≡ few → holds t.link ≡ true → t.own ≡ true → ⊥
    by_length true few is own =
        holds_none t.link (left_is ∙ put_short held.link (λ down. (stood.below down).left) (leb-true (length held.link.to_send) 56 few)) is
    by_length false many is own =
        let long = leb-false (length held.link.to_send) 56 many in
        let there : holds held.link ≡ true = some_holds role held turns stood (omega (arith, long)) in
        omega (arith, long, held_short c held b says.what sends says.holds there (sym (says.own there is) ∙ own))

    never : holds t.link ≡ true → t.own ≡ true → ⊥
    never is own = by_length (nat_le (length held.link.to_send) 56) refl is own

    not_own : (b : Bool) → t.own ≡ b → holds t.link ≡ true → t.own ≡ (t.is_open && false)
    not_own true own is = absurd (never is own)
    not_own false own is = own ∙ sym (and_false t.is_open)

-- IT IS STUCK with what it holds
own_again : (role : Role) (c : EndCore) (turns : List Utterance) (b : Blockage) → EndStands role c turns → EndSends c b → holds c.link ≡ true
    → c.own ≡ (c.is_open && is_stuck_with_own (stuck b) c.handshake.owed)
own_again role c turns Clear stands sends held =
    let carries : CarriesOwed c.handshake.owed (half_said turns ++ c.link.to_send) =
    subst (λ (x : Bool). CarriesEither x c.handshake (half_said turns ++ c.link.to_send)) (sends.own held ∙ and_false c.is_open) (stands.carries held) in
    sends.own held ∙ sym (ap (λ (o : Option Message). c.is_open && is_none o) carries.owed)
own_again role c turns Stuck stands sends held = sends.own held
own_again role c turns StuckBefore stands sends held = sends.own held

offered_sends : (t : EndCore) (k : LinkState) (message : Message) (b : Blockage) → t.link ≡ offered (canonical message) k → is_up k ≡ true
    → (holds t.link ≡ true → t.own ≡ true → length (canonical message) ≤ 56) → (holds t.link ≡ true → t.own ≡ (t.is_open && is_stuck_with_own (stuck b) t.handshake.owed)) → EndSends t (stuck b)
offered_sends t k message b link up short own =
    let same : t.link.to_send ≡ canonical message = ap (λ (x : LinkState). x.to_send) link in
    record {
      owing = λ now. ap owes link ∙ owes_up (offered (canonical message) k) up (some_bytes message);
      fresh = λ unput some. stuck_is b;
      short = λ held is. omega (arith, ap length same, short held is);
      own = own;
    }

waits_sends : (role : Role) (c t : EndCore) (turns : List Utterance) (b : Blockage) (what : Holding) → EndStands role c turns → EndSends c b → Holds c what t → EndSends t (stuck b)
waits_sends role c t turns b HoldsOn stands sends still =
    subst (λ (x : EndCore). EndSends x (stuck b)) (sym still.is) (record {
      owing = λ now. still.owing;
      fresh = λ unput some. stuck_is b;
      short = sends.short;
      own = λ held. own_again role c turns b stands sends held;
    })
waits_sends role c t turns b (HoldsOwed message) stands sends offers =
    let clear : b ≡ Clear = not_stuck c b sends offers.quiet in
    let owed : t.handshake.owed ≡ Some message = ap (λ (h : Handshake). h.owed) offers.handshake ∙ offers.owed in
    offered_sends t c.link message b offers.link (owing_up role c turns message stands offers.owed) (λ held own. true_is_false (sym own ∙ offers.own held))
    (λ held. offers.own held
    ∙ sym (ap (λ (x : Blockage). t.is_open && is_stuck_with_own (stuck x) t.handshake.owed) clear ∙ ap (λ (o : Option Message). t.is_open && is_none o) owed ∙ and_false t.is_open))
waits_sends role c t turns b (HoldsOwn message) stands sends offers =
    let clear : b ≡ Clear = not_stuck c b sends offers.quiet in
    let owed : t.handshake.owed ≡ None = ap (λ (h : Handshake). h.owed) offers.handshake ∙ offers.owed in
    offered_sends t c.link message b offers.link (open_up role c turns stands offers.opened) (λ held own. offers.short)
    (λ held. offers.own
    ∙ sym (ap (λ (x : Blockage). t.is_open && is_stuck_with_own (stuck x) t.handshake.owed) clear ∙ ap (λ (o : Option Message). t.is_open && is_none o) owed
    ∙ ap (λ (x : Bool). x && true) (offers.is_open ∙ offers.opened)))

-- IT GOES ON
stays_sends : (c t : EndCore) (b : Blockage) → EndSends c b → EndStays c t → EndSends t b
stays_sends c t b sends stays =
    let same : t.link.to_send ≡ c.link.to_send = ap (λ (k : LinkState). k.to_send) stays.link in
    record {
      owing = λ now. ap owes stays.link ∙ sends.owing now;
      fresh = λ unput some. sends.fresh (sym (ap (λ (k : LinkState). k.begun) stays.link) ∙ unput) (omega (arith, some, ap length same));
      short = λ held own. omega (arith, ap length same, sends.short (sym (ap holds stays.link) ∙ held) (sym stays.own ∙ own));
      own = λ held. stays.own ∙ sends.own (sym (ap holds stays.link) ∙ held) ∙ ap (λ (x : Bool). x && is_stuck_with_own b c.handshake.owed) (sym stays.is_open)
          ∙ ap (λ (h : Handshake). t.is_open && is_stuck_with_own b h.owed) (sym stays.handshake);
    }

-- EACH MOVE
pub sends_move : (role : Role) (c : EndCore) (move : EndMove) (t : EndCore) (turns : List Utterance) (b : Blockage) → EndStands role c turns → EndSends c b → EndStep role c move t
    → EndSends t (blockage_after b move)
sends_move role c Begins t turns b stands sends step = none_sends t (ap (λ (k : LinkState). k.to_send) step.link)
sends_move role c Renews t turns b stands sends step = none_sends t (ap (λ (k : LinkState). k.to_send) step.link)
sends_move role c (Fails cause packet) t turns b stands sends step = none_sends t (ap (λ (k : LinkState). k.to_send) step.1.link)
sends_move role c (Hears packet opens) t turns b stands sends step = hears_sends role c t turns b packet opens stands sends step
sends_move role c (Says packet opens) t turns b stands sends step = says_sends role c t turns b packet opens stands sends step
sends_move role c Waits t turns b stands sends step = waits_sends role c t turns b step.what stands sends step.holds
sends_move role c Stays t turns b stands sends step = stays_sends c t b sends step

-- WHAT IS LEFT TO SEND
drop_front : (half left : List ℕ) → drop (length half) (half ++ left) ≡ left
drop_front [] left = refl
drop_front (byte ∷ half) left = drop_front half left

rest_is : (half left message : List ℕ) → half ++ left ≡ message → left ≡ drop (length half) message
rest_is half left message is = sym (drop_front half left) ∙ ap (λ (xs : List ℕ). drop (length half) xs) is

module _ (role : Role) (c : EndCore) (turns : List Utterance) (b : Blockage) (stands : EndStands role c turns) (sends : EndSends c b) where
  -- it has begun a message of which its link holds some, and none of which it holds nothing
  has : (half : List ℕ) → 1 ≤ length c.link.to_send → half_said turns ≡ half → has_begun half b ≡ true
  has [] some at = sends.fresh (stands.link.cuts.begun ∙ ap (λ (xs : List ℕ). not (is_empty xs)) at) some
  has (byte ∷ half) some at = refl

  has_none : (y : Bool) → is_up c.link ≡ true → c.link.to_send ≡ [] → is_stuck b ≡ y → has_begun (half_said turns) b ≡ false
  has_none false up none stuck_so = ap (λ (zs : List ℕ). not (is_empty zs) || is_stuck b) (stands.link.cuts.free none) ∙ stuck_so
  has_none true up none stuck_so =
      let some : 1 ≤ length c.link.to_send = sends_some c.link up (sends.owing stuck_so) in absurd (omega (arith, some, ap length none))

  pub held_left : (message : List ℕ) → half_said turns ++ c.link.to_send ≡ message → 1 ≤ length c.link.to_send → c.link.to_send ≡ left_of (half_said turns) b message
  held_left message is some =
      rest_is (half_said turns) c.link.to_send message is
      ∙ sym (ap (λ (x : Bool). left_if x (half_said turns) message) (has (half_said turns) some refl))

  pub none_left : (message : List ℕ) → is_up c.link ≡ true → c.link.to_send ≡ [] → c.link.to_send ≡ left_of (half_said turns) b message
  none_left message up none = none ∙ sym (ap (λ (x : Bool). left_if x (half_said turns) message) (has_none (is_stuck b) up none refl))

  -- a message that its handshake owes
  owed_is_left : (owed : Option Message) (left : List ℕ) → c.handshake.owed ≡ owed → c.link.to_send ≡ left → (1 ≤ length left → CarriesOwed owed (half_said turns ++ left))
      → c.link.to_send ≡ owed_left (half_said turns) b owed
  owed_is_left None [] owes_it is carries = is
  owed_is_left None (byte ∷ left) owes_it is carries =
      let some : CarriesOwed None (half_said turns ++ byte ∷ left) = carries (omega arith) in none_is_some (some.owed)
  owed_is_left (Some message) [] owes_it is carries = none_left (canonical message) (owing_up role c turns message stands owes_it) is
  owed_is_left (Some message) (byte ∷ left) owes_it is carries =
      let some : CarriesOwed (Some message) (half_said turns ++ byte ∷ left) = carries (omega arith) in
      let same : some.message ≡ message = (let mine : Some message ≡ Some some.message = some.owed in cc) in
      held_left (canonical message) (ap (λ (xs : List ℕ). half_said turns ++ xs) is ∙ some.is ∙ ap canonical same) (omega (arith, ap length is))

  pub owed_sent : c.own ≡ false → c.link.to_send ≡ owed_left (half_said turns) b c.handshake.owed
  owed_sent not_own = owed_is_left c.handshake.owed c.link.to_send refl refl (owed_held role c turns stands not_own)

-- a responder's session never opens by a packet that it puts
shut_put : (kind : PutKind) (h : Handshake) → h.role ≡ Responder → put_opens kind h ≡ false
shut_put EndsHandshake h is = ap (λ (r : Role). opens_by_put r h.phase) is
shut_put _ h is = refl

pub responder_never : (c t : EndCore) (turns : List Utterance) (packet : List ℕ) → EndStands Responder c turns → EndSays Responder c packet true t → ⊥
responder_never c t turns packet stands says =
    let stood = held_stands Responder c says.held turns says.what stands says.holds in
    true_is_false (says.opens_is ∙ shut_put (kind_of says.held) says.held.handshake stood.handshake.role_is)
