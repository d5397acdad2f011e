-- Each move of an end keeps what always holds of it by itself.
use Rattle.std.proofs.Common.{◌≡◌, ℕ, ◌≤◌, Bool, true, false, ◌||◌, Some, None, List, [], ◌∷◌, ◌++◌, length, take, drop, refl, sym, ap, ◌∙◌, subst, append_assoc, arith, length-append, length-drop}
use Rattle.std.specs.Prelude.{◌&&◌, is_some, nat_le, nat_lt, not}
use Rattle.std.proofs.lemmas.Bool.{and_parts, leb-false, leb-true, lt-ltb, ltb-true}
use Rattle.std.proofs.lemmas.List.{drop_all, length-take, take-append-drop}
use Rattle.ldc_link.proofs.Coming.{clears_follow}
use Rattle.ldc_link.proofs.Following.{takes_follow}
use Rattle.ldc_link.proofs.FollowingPuts.{puts_follow}
use Rattle.ldc_link.specs.declared.phase.LinkPhase.{LinkPhase}
use Rattle.ldc_link.specs.declared.phase.LinkPhase.TheVariants as phase
use Rattle.ldc_link.specs.declared.phase.Role.{Role}
use Rattle.ldc_link.specs.Following.{Follows}
use Rattle.ldc_link.specs.LinkState.{LinkState, cleared, fresh_link, is_established, is_up, offered}
use Rattle.ldc_link.specs.Putting.{owed_in, owes, part_owed}
use Rattle.ldc_link.specs.Taking.{Heard, TakesBytes}
use Rattle.ldc_queue.specs.Messages.{is_empty}
use Rattle.ldc_queue.specs.Transcript.{Heard as Heard_, Said as Said_, Utterance}
use Rattle.vio_handshake.specs.declared.handshake.Handshake.{Handshake}
use Rattle.vio_handshake.specs.declared.handshake.Phase.{Phase}
use Rattle.vio_handshake.specs.declared.handshake.Phase.TheVariants.{Down, Open}
use Rattle.vio_handshake.specs.declared.session.Offer.{Offer}
use Rattle.vio_handshake.specs.declared.session.Session.{Session}
use Rattle.vio_handshake.specs.Rules.{is_declined, opens_by_put, handshake_sent}
use Rattle.vio_handshake.specs.State.{begun, joined_handshake, handshake_up}
use Rattle.vio_tag.specs.declared.message.Message.{Message}
use Rattle.vio_tag.specs.Spelling.{canonical}
use Rattle.lane_models.specs.Sayings.{half_said}
use Rattle.lane_models.proofs.Apart.{false_is_true, none_is_some, true_is_false}
use Rattle.lane_models.proofs.EndCases.{EndTook, NoMessage, PutControl, PutMore, PutOwn, PutReady, PutHandshake, PutWhat, Rises, TookOwn, TookHandshake, TookWhat, end_put, end_took, put_down}
use Rattle.lane_models.proofs.HandshakeCases.{RowSent, RowTaken, row_sent}
use Rattle.lane_models.proofs.LinkCases.{ControlPut, LinkHeard, behind_part, behind_ready, link_heard}
use Rattle.lane_models.proofs.Short.{ComesShort, answered_short, message_comes, said_short, short_within}
use Rattle.lane_models.proofs.UtteranceCases.{SaysLast, SaysMore, SaysNothing}
use Rattle.lane_models.specs.Cuts.{CarriesEither, Cuts, HoldsIts}
use Rattle.lane_models.specs.EndCore.{Begins, EndCore, EndMove, Fails, Hears, Renews, Says, Stays, Waits, fresh_end, holds}
use Rattle.lane_models.specs.EndStep.{EndBegins, EndHears, EndRenews, EndSays, EndStays, EndStep, Holding, Holds, HoldsOn, HoldsOwed, HoldsOwn, KeepsOwn}
use Rattle.lane_models.specs.LaneCore.{utterances_after}
use Rattle.lane_models.specs.Standing.{EndStands, HandshakeStands, IsBelow, IsPhaseOf, LinkStands, OwedIsShort, is_open_in}

-- WHAT IT HOLDS
pub holds_down : (k : LinkState) → is_up k ≡ false → holds k ≡ true → ⊥
holds_down k down is = let up = (and_parts (is_up k) (not (is_empty k.to_send)) is).0 in true_is_false (sym up ∙ down)

pub holds_none : (k : LinkState) → k.to_send ≡ [] → holds k ≡ true → ⊥
holds_none k none is = grind arith

pub holds_some : (k : LinkState) → is_up k ≡ true → 1 ≤ length k.to_send → holds k ≡ true
holds_some k up some = grind arith

none_owed : (k : LinkState) (left : List ℕ) → is_some (part_owed k left) ≡ false → left ≡ []
none_owed k [] is = refl
none_owed k (byte ∷ left) is = true_is_false is

empty_in : (ph : LinkPhase) (k : LinkState) → is_established ph ≡ true → is_some (owed_in ph k) ≡ false → k.to_send ≡ []
empty_in phase.Established k up quiet = none_owed k k.to_send quiet
empty_in _ k up quiet = false_is_true up

pub up_empty : (k : LinkState) → is_up k ≡ true → owes k ≡ false → k.to_send ≡ []
up_empty k up quiet = empty_in k.phase k up quiet

pub opened_phase : (p : Phase) → is_open_in p ≡ true → p ≡ Open
opened_phase Open is = refl
opened_phase _ is = false_is_true is

-- an end of these parts
pub stands_as : (role : Role) (c t : EndCore) (k : LinkState) (h : Handshake) (turns : List Utterance) → t.link ≡ k → t.handshake ≡ h → t.offer ≡ c.offer → LinkStands role k turns
    → HandshakeStands role c.offer h → t.is_open ≡ is_open_in h.phase → t.more ≤ 256 → (is_up k ≡ false → IsBelow k h turns) → HoldsIts t.own k h turns → EndStands role t turns
stands_as role c t k h turns link handshake offer link_stands handshake_stands opened more below carries = grind arith

-- IT BEGINS
anew_stands : (role : Role) (c t : EndCore) (h : Handshake) → t.link ≡ fresh_link role → t.handshake ≡ h → t.offer ≡ c.offer → t.is_open ≡ false → t.more ≡ 0 → h.phase ≡ Down
    → h.owed ≡ None → HandshakeStands role c.offer h → EndStands role t []
anew_stands role c t h link handshake offer closed more down owed stands = grind arith

begins_stands : (role : Role) (c t : EndCore) (turns : List Utterance) → EndStands role c turns → EndBegins c t → EndStands role t []
begins_stands role c t turns stands begins =
    anew_stands role c t (joined_handshake c.handshake) (begins.link ∙ ap fresh_link stands.link.role_is) begins.handshake begins.offer begins.closed begins.more refl refl
    (record { role_is = stands.handshake.role_is; offer_is = stands.handshake.offer_is; few = stands.handshake.few; owed = tt })

renews_stands : (role : Role) (c t : EndCore) (turns : List Utterance) → EndStands role c turns → EndRenews role c t → EndStands role t []
renews_stands role c t turns stands renews = grind arith

pub fresh_end_stands : (role : Role) (offer : Offer) → offer.count ≤ 14 → EndStands role (fresh_end role offer) []
fresh_end_stands role offer few = grind arith

-- IT GOES ON
stays_stands : (role : Role) (c t : EndCore) (turns : List Utterance) → EndStands role c turns → EndStays c t → EndStands role t turns
stays_stands role c t turns stands stays = grind arith

-- IT HOLDS a message: its link is up, and held nothing
up_unless : (b : Bool) → (b ≡ false → ⊥) → b ≡ true
up_unless true never = refl
up_unless false never = absurd (never refl)

pub owing_up : (role : Role) (c : EndCore) (turns : List Utterance) (message : Message) → EndStands role c turns → c.handshake.owed ≡ Some message → is_up c.link ≡ true
owing_up role c turns message stands owed =
    up_unless (is_up c.link) (λ down. none_is_some (sym (stands.below down).owed ∙ owed))

pub open_up : (role : Role) (c : EndCore) (turns : List Utterance) → EndStands role c turns → c.is_open ≡ true → is_up c.link ≡ true
open_up role c turns stands opened = grind arith

offered_stands : (role : Role) (c held : EndCore) (turns : List Utterance) (message : Message) → EndStands role c turns → is_up c.link ≡ true → owes c.link ≡ false
    → length (canonical message) ≤ 256 → held.link ≡ offered (canonical message) c.link → held.handshake ≡ c.handshake → held.offer ≡ c.offer → held.is_open ≡ c.is_open
    → held.more ≤ c.more → (holds held.link ≡ true → CarriesEither held.own c.handshake (canonical message)) → EndStands role held turns
offered_stands role c held turns message stands up quiet long link handshake offer is_open more carries = grind arith

pub held_stands : (role : Role) (c held : EndCore) (turns : List Utterance) (what : Holding) → EndStands role c turns → Holds c what held → EndStands role held turns
held_stands role c held turns HoldsOn stands still = subst (λ (x : EndCore). EndStands role x turns) (sym still.is) stands
held_stands role c held turns (HoldsOwed message) stands offers =
    offered_stands role c held turns message stands (owing_up role c turns message stands offers.owed) offers.quiet
    (short_within message (subst OwedIsShort offers.owed stands.handshake.owed)) offers.link offers.handshake offers.offer offers.is_open
    offers.more (λ is. subst (λ (b : Bool). CarriesEither b c.handshake (canonical message)) (sym (offers.own is)) (record { message = message; owed = offers.owed; is = refl }))
held_stands role c held turns (HoldsOwn message) stands offers =
    offered_stands role c held turns message stands (open_up role c turns stands offers.opened) offers.quiet (omega (arith, offers.short)) offers.link offers.handshake offers.offer
    offers.is_open offers.most (λ is. subst (λ (b : Bool). CarriesEither b c.handshake (canonical message)) (sym offers.own) (record { message = message; body = offers.body; sid = offers.sid; opened = opened_phase c.handshake.phase (sym stands.opened ∙ offers.opened); is = refl }))

-- A LINK that heard a packet keeps what it has to send
pub record SameSending (k m : LinkState) : Type 0 where
  pub left : m.to_send ≡ k.to_send
  pub begun : m.begun ≡ k.begun
  pub role : m.role ≡ k.role

pub heard_sending : (k m : LinkState) (bytes : List ℕ) → LinkHeard k bytes m → SameSending k m
heard_sending k m bytes heard = grind arith

pub heard_leaves : (k m : LinkState) (bytes : List ℕ) → TakesBytes k bytes (Heard m) → SameSending k m
heard_leaves k m bytes takes = heard_sending k m bytes (link_heard k m bytes takes)

pub hears_sending : (role : Role) (c t : EndCore) (packet : List ℕ) (opens : Bool) → EndHears role c packet opens t → SameSending c.link t.link
hears_sending role c t packet opens hears =
    let same = heard_leaves c.link hears.heard packet hears.takes in
    subst (SameSending c.link) (sym hears.link) (record { left = same.left; begun = same.begun; role = same.role })

up_of : (role : Role) (m : LinkState) → m.phase ≡ phase.Established → IsPhaseOf role m.phase
up_of role m is = grind arith

pub heard_of : (role : Role) (k m : LinkState) (bytes : List ℕ) → IsPhaseOf role k.phase → LinkHeard k bytes m → IsPhaseOf role m.phase
heard_of role k m bytes of heard = grind arith

heard_link : (role : Role) (k m : LinkState) (turns : List Utterance) (bytes : List ℕ) → TakesBytes k bytes (Heard m) → LinkHeard k bytes m → LinkStands role k turns
    → LinkStands role (cleared m) (Heard_ bytes ∷ turns)
heard_link role k m turns bytes takes how stands =
    let same = heard_sending k m bytes how in
    record {
      role_is = same.role ∙ stands.role_is;
      of_role = heard_of role k m bytes stands.of_role how;
      follows = clears_follow m (Heard_ bytes ∷ turns) (takes_follow k turns bytes m stands.follows takes).1;
      seen = refl;
      cuts = record {
        begun = same.begun ∙ stands.cuts.begun;
        most = omega (arith, ap length same.left, stands.cuts.most);
        free = λ none. stands.cuts.free (sym same.left ∙ none);
      };
    }

-- A HANDSHAKE after a message that it took, and once its message was put
pub record HandshakeGoes (role : Role) (offer : Offer) (h t : Handshake) (opens : Bool) : Type 0 where
  pub stands : HandshakeStands role offer t
  pub opened : is_open_in t.phase ≡ (opens || is_open_in h.phase)

pub few_offered : (role : Role) (offer : Offer) (h : Handshake) → HandshakeStands role offer h → h.offer.count ≤ 14
few_offered role offer h stands = omega (arith, ap (λ (o : Offer). o.count) stands.offer_is, stands.few)

pub row_goes : (role : Role) (offer : Offer) (h t : Handshake) (message : Message) (opens : Bool) → ComesShort message.body → HandshakeStands role offer h → RowTaken h message t opens
    → HandshakeGoes role offer h t opens
row_goes role offer h t message opens comes stands taken = grind (arith, said_short, answered_short)

pub sent_goes : (role : Role) (offer : Offer) (h t : Handshake) (opens : Bool) → HandshakeStands role offer h → RowSent h t opens → HandshakeGoes role offer h t opens
sent_goes role offer h t opens stands sent = grind arith

pub up_stands : (role : Role) (offer : Offer) (h : Handshake) → HandshakeStands role offer h → HandshakeStands role offer (handshake_up h) × (is_open_in (handshake_up h).phase ≡ false)
up_stands role offer h stands = grind arith

-- in an open session it takes nothing but what it declines
pub open_declines : (h t : Handshake) (message : Message) (opens : Bool) → h.phase ≡ Open → RowTaken h message t opens
    → (t ≡ record h { owed = t.owed }) × (opens ≡ false) × (is_declined message.subtype message.body ≡ true)
open_declines h t message opens up taken = grind arith

-- IT HEARS a packet
-- while the handshake owes nothing the message is one of the session, of the same sid
keeps_own : (own : Bool) (h g : Handshake) (bytes : List ℕ) → h.owed ≡ None → g.draft ≡ h.draft → g.phase ≡ h.phase → CarriesEither own h bytes → CarriesEither own g bytes
keeps_own false h g bytes none draft still carries = none_is_some (sym none ∙ carries.owed)
keeps_own true h g bytes none draft still carries = record {
  message = carries.message;
  body = carries.body;
  sid = carries.sid ∙ ap (λ (d : Session). d.sid) (sym draft);
  opened = still ∙ carries.opened;
  is = carries.is;
}

keeps_holding : (k m : LinkState) → m.to_send ≡ k.to_send → is_up m ≡ is_up k → holds (cleared m) ≡ true → holds k ≡ true
keeps_holding k m left up is = ap (λ (b : Bool). b && not (is_empty k.to_send)) (sym up) ∙ ap (λ (xs : List ℕ). is_up m && not (is_empty xs)) (sym left) ∙ is

-- what it holds stays, where its handshake stays
same_carries : (c t : EndCore) (now : LinkState) (turns : List Utterance) (packet : List ℕ) → SameSending c.link now → is_up now ≡ is_up c.link → KeepsOwn c t → t.link ≡ cleared now
    → HoldsIts c.own c.link c.handshake turns → HoldsIts t.own (cleared now) c.handshake (Heard_ packet ∷ turns)
same_carries c t now turns packet same up keeps link carries is = grind arith

hears_stands : (role : Role) (c t : EndCore) (turns : List Utterance) (packet : List ℕ) (opens : Bool) → EndStands role c turns → EndHears role c packet opens t
    → EndStands role t (Heard_ packet ∷ turns)
hears_stands role c t turns packet opens stands hears = by_what took.what
  where
    took : EndTook role c turns packet opens t
    took = end_took role c t turns packet opens stands hears

    now : LinkState
    now = took.now

    same : SameSending c.link now
    same = heard_sending c.link now packet took.how

    link : LinkStands role (cleared now) (Heard_ packet ∷ turns)
    link = heard_link role c.link now turns packet took.takes took.how stands.link

    stands_so : (h : Handshake) → t.handshake ≡ h → HandshakeStands role c.offer h → t.is_open ≡ is_open_in h.phase → (is_up now ≡ false → IsBelow (cleared now) h (Heard_ packet ∷ turns))
        → HoldsIts t.own (cleared now) h (Heard_ packet ∷ turns) → EndStands role t (Heard_ packet ∷ turns)
    stands_so h is stands_h opened = stands_as role c t (cleared now) h (Heard_ packet ∷ turns) took.link is hears.offer link stands_h opened hears.most

    never_down : is_up now ≡ true → (h : Handshake) → is_up now ≡ false → IsBelow (cleared now) h (Heard_ packet ∷ turns)
    never_down up h down = true_is_false (sym up ∙ down)

    by_what : TookWhat role c turns packet opens t now → EndStands role t (Heard_ packet ∷ turns)
    by_what (NoMessage up messages handshake not is_open) =
        stands_so c.handshake handshake stands.handshake (is_open ∙ stands.opened)
        (λ down. let below = stands.below (sym up ∙ down) in
        record { left = same.left ∙ below.left; owed = below.owed; down = below.down; said_none = below.said_none; heard_none = messages ∙ below.heard_none })
        (same_carries c t now turns packet same up hears.own took.link stands.carries)
    by_what (Rises role_is down up messages handshake not is_open) =
        let goes = up_stands role c.offer c.handshake stands.handshake in
        let below = stands.below down in
        stands_so (handshake_up c.handshake) handshake goes.0 (is_open ∙ stands.opened ∙ ap is_open_in below.down ∙ sym goes.1) (never_down up (handshake_up c.handshake))
        (λ is. absurd (holds_none (cleared now) (same.left ∙ below.left) is))
    by_what (TookOwn message took_message own handshake not is_open) =
        stands_so c.handshake handshake stands.handshake (is_open ∙ stands.opened) (never_down took_message.stays c.handshake)
        (same_carries c t now turns packet same (took_message.stays ∙ sym took_message.up) hears.own took.link stands.carries)
    by_what (TookHandshake message took_message handshake is_open) =
        let goes = row_goes role c.offer c.handshake t.handshake message opens (message_comes took_message.bytes message took_message.form took_message.spells) stands.handshake handshake.row in
        stands_so t.handshake refl goes.stands (is_open ∙ ap (λ (b : Bool). opens || b) stands.opened ∙ sym goes.opened) (never_down took_message.stays t.handshake)
        (handshake_carries c.is_open refl handshake.row took_message.up took_message.stays)
      where
        still : (b : Bool) → c.is_open ≡ b → is_up c.link ≡ true → b ≡ false → c.link.to_send ≡ []
        still b is up closed = up_empty c.link up (hears.may.quiet (is ∙ closed))

        handshake_carries : (b : Bool) → c.is_open ≡ b → RowTaken c.handshake message t.handshake opens → is_up c.link ≡ true → is_up now ≡ true
            → HoldsIts t.own (cleared now) t.handshake (Heard_ packet ∷ turns)
        handshake_carries false closed row up stays is = absurd (holds_none (cleared now) (same.left ∙ still false closed up refl) is)
        handshake_carries true opened row up stays is =
            let declined = (open_declines c.handshake t.handshake message opens (opened_phase c.handshake.phase (sym stands.opened ∙ opened)) row).0 in
            let was : holds c.link ≡ true = keeps_holding c.link now same.left (stays ∙ sym up) is in
            let here = stands.carries was in
            subst (λ (xs : List ℕ). CarriesEither t.own t.handshake (half_said turns ++ xs)) (sym same.left)
            (subst (λ (b : Bool). CarriesEither b t.handshake (half_said turns ++ c.link.to_send)) (sym (hears.own was (ap holds took.link ∙ is)))
            (keeps_own c.own c.handshake t.handshake (half_said turns ++ c.link.to_send) hears.may.owed (ap (λ (x : Handshake). x.draft) declined) (ap (λ (x : Handshake). x.phase) declined) here))

-- IT SAYS a packet: what was said of its message and what is left of it
quiet_cuts : (k m : LinkState) (turns : List Utterance) (packet : List ℕ) → m.to_send ≡ k.to_send → m.begun ≡ k.begun → SaysNothing turns packet → Cuts k turns
    → Cuts m (Said_ packet ∷ turns)
quiet_cuts k m turns packet left begun quiet cuts = grind arith

some_more : (half part : List ℕ) → 1 ≤ length part → not (is_empty (half ++ part)) ≡ true
some_more [] [] some = absurd (omega (arith, some))
some_more [] (byte ∷ part) some = refl
some_more (byte ∷ half) part some = refl

more_cuts : (k : LinkState) (turns : List Utterance) (packet : List ℕ) → SaysMore k turns packet → Cuts k turns → Cuts (behind_part k) (Said_ packet ∷ turns)
more_cuts k turns packet more cuts =
    let long = leb-false (length k.to_send) 56 more.long in
    record {
      begun = lt-ltb 56 (length k.to_send) (omega (arith, long))
          ∙ sym (ap (λ (xs : List ℕ). not (is_empty xs)) more.half ∙ some_more (half_said turns) (take 56 k.to_send) (omega (arith, long, length-take 56 k.to_send)));
      most = omega (arith, ap length more.half, length-append (half_said turns) (take 56 k.to_send), length-take 56 k.to_send, length-drop 56 k.to_send, cuts.most);
      free = λ none. absurd (omega (arith, ap length none, length-drop 56 k.to_send, long));
    }

no_more : (n : ℕ) (b : Bool) → nat_lt 56 n ≡ b → n ≤ 56 → b ≡ false
no_more n false is few = refl
no_more n true is few = absurd (omega (arith, few, ltb-true 56 n is))

pub last_none : (k : LinkState) (turns : List Utterance) (packet : List ℕ) → SaysLast k turns packet → drop 56 k.to_send ≡ []
last_none k turns packet last = drop_all 56 k.to_send (leb-true (length k.to_send) 56 last.short)

last_cuts : (k : LinkState) (turns : List Utterance) (packet : List ℕ) → SaysLast k turns packet → Cuts (behind_part k) (Said_ packet ∷ turns)
last_cuts k turns packet last =
    let short = leb-true (length k.to_send) 56 last.short in
    record {
      begun = no_more (length k.to_send) (nat_lt 56 (length k.to_send)) refl short ∙ sym (ap (λ (xs : List ℕ). not (is_empty xs)) last.half);
      most = omega (arith, ap length last.half, ap length (last_none k turns packet last));
      free = λ none. last.half;
    }

put_of : (role : Role) (before next : LinkPhase) (bytes : List ℕ) → IsPhaseOf role before → ControlPut before bytes next → IsPhaseOf role next
put_of role before next bytes of put = grind arith

some_left : (n : ℕ) → nat_le n 56 ≡ false → 1 ≤ n
some_left n long = omega (arith, leb-false n 56 long)

says_stands : (role : Role) (c t : EndCore) (turns : List Utterance) (packet : List ℕ) (opens : Bool) → EndStands role c turns → EndSays role c packet opens t
    → EndStands role t (Said_ packet ∷ turns)
says_stands role c t turns packet opens stands says = by_what (end_put role c t turns packet opens says holds_so)
  where
    held : EndCore
    held = says.held

    holds_so : EndStands role held turns
    holds_so = held_stands role c held turns says.what stands says.holds

    -- the link, the handshake and what is held
    stands_so : (k : LinkState) (h : Handshake) → t.link ≡ k → t.handshake ≡ h → k.role ≡ held.link.role → IsPhaseOf role k.phase → k.whole ≡ held.link.whole → Cuts k (Said_ packet ∷ turns)
        → HandshakeStands role held.offer h → t.is_open ≡ is_open_in h.phase → (is_up k ≡ false → IsBelow k h (Said_ packet ∷ turns)) → HoldsIts t.own k h (Said_ packet ∷ turns)
        → EndStands role t (Said_ packet ∷ turns)
    stands_so k h link is same of whole cuts stands_h opened =
        stands_as role held t k h (Said_ packet ∷ turns) link is says.offer (record {
          role_is = same ∙ holds_so.link.role_is;
          of_role = of;
          follows = subst (λ (x : LinkState). Follows x (Said_ packet ∷ turns)) link (puts_follow held.link turns packet t.link holds_so.link.follows says.puts).1;
          seen = whole ∙ holds_so.link.seen;
          cuts = cuts;
        }) stands_h opened says.most

    up_now : (k : LinkState) (h : Handshake) → is_up k ≡ true → is_up k ≡ false → IsBelow k h (Said_ packet ∷ turns)
    up_now k h up down = true_is_false (sym up ∙ down)

    part_of : held.link.phase ≡ phase.Established → IsPhaseOf role (behind_part held.link).phase
    part_of at = up_of role (behind_part held.link) at

    part_up : held.link.phase ≡ phase.Established → is_up (behind_part held.link) ≡ true
    part_up at = ap is_established at

    by_what : PutWhat role held turns packet opens t → EndStands role t (Said_ packet ∷ turns)
    by_what (PutControl next gone link quiet handshake not is_open) =
        let downs = put_down held.link.phase packet next gone in
        let below = holds_so.below downs.0 in
        stands_so (record held.link { phase = next }) held.handshake link handshake refl (put_of role held.link.phase next packet holds_so.link.of_role gone) refl
        (quiet_cuts held.link (record held.link { phase = next }) turns packet refl refl quiet holds_so.link.cuts) holds_so.handshake (is_open ∙ holds_so.opened)
        (λ down. record { left = below.left; owed = below.owed; down = below.down; said_none = quiet.messages ∙ below.said_none; heard_none = below.heard_none })
        (λ is. absurd (holds_down (record held.link { phase = next }) downs.1 is))
    by_what (PutReady role_is at spelled link quiet handshake not is_open) =
        let below = holds_so.below (ap is_established at) in
        let goes = up_stands role held.offer held.handshake holds_so.handshake in
        stands_so (behind_ready held.link) (handshake_up held.handshake) link handshake refl (up_of role (behind_ready held.link) refl) refl
        (quiet_cuts held.link (behind_ready held.link) turns packet refl refl quiet holds_so.link.cuts) goes.0
        (is_open ∙ holds_so.opened ∙ ap is_open_in below.down ∙ sym goes.1) (up_now (behind_ready held.link) (handshake_up held.handshake) refl)
        (λ is. absurd (holds_none (behind_ready held.link) below.left is))
    by_what (PutMore at link more handshake not is_open) =
        stands_so (behind_part held.link) held.handshake link handshake refl (part_of at) refl (more_cuts held.link turns packet more holds_so.link.cuts) holds_so.handshake
        (is_open ∙ holds_so.opened) (up_now (behind_part held.link) held.handshake (part_up at)) (more_carries at link more)
      where
        joined : (half_said turns ++ take 56 held.link.to_send) ++ drop 56 held.link.to_send ≡ half_said turns ++ held.link.to_send
        joined = append_assoc (half_said turns) (take 56 held.link.to_send) (drop 56 held.link.to_send)
            ∙ ap (λ (xs : List ℕ). half_said turns ++ xs) (take-append-drop 56 held.link.to_send)

        more_carries : held.link.phase ≡ phase.Established → t.link ≡ behind_part held.link → SaysMore held.link turns packet
            → HoldsIts t.own (behind_part held.link) held.handshake (Said_ packet ∷ turns)
        more_carries at link more is =
            let was : holds held.link ≡ true = holds_some held.link (ap is_established at) (some_left (length held.link.to_send) more.long) in
            subst (CarriesEither t.own held.handshake) (sym (ap (λ (xs : List ℕ). xs ++ drop 56 held.link.to_send) more.half ∙ joined))
            (subst (λ (b : Bool). CarriesEither b held.handshake (half_said turns ++ held.link.to_send)) (sym (says.own was (ap holds link ∙ is))) (holds_so.carries was))
    by_what (PutOwn own at link last handshake not is_open) =
        stands_so (behind_part held.link) held.handshake link handshake refl (part_of at) refl (last_cuts held.link turns packet last) holds_so.handshake
        (is_open ∙ holds_so.opened) (up_now (behind_part held.link) held.handshake (part_up at))
        (λ is. absurd (holds_none (behind_part held.link) (last_none held.link turns packet last) is))
    by_what (PutHandshake own at link last handshake flag is_open) =
        let goes = sent_goes role held.offer held.handshake (handshake_sent held.handshake) (opens_by_put held.handshake.role held.handshake.phase) holds_so.handshake (row_sent held.handshake) in
        stands_so (behind_part held.link) (handshake_sent held.handshake) link handshake refl (part_of at) refl (last_cuts held.link turns packet last) goes.stands
        (is_open ∙ ap (λ (b : Bool). b || held.is_open) flag ∙ ap (λ (b : Bool). opens_by_put held.handshake.role held.handshake.phase || b) holds_so.opened ∙ sym goes.opened)
        (up_now (behind_part held.link) (handshake_sent held.handshake) (part_up at))
        (λ is. absurd (holds_none (behind_part held.link) (last_none held.link turns packet last) is))

-- EACH MOVE
pub stands_step : (role : Role) (c : EndCore) (move : EndMove) (t : EndCore) (turns : List Utterance) → EndStands role c turns → EndStep role c move t
    → EndStands role t (utterances_after turns move)
stands_step role c Begins t turns stands step = begins_stands role c t turns stands step
stands_step role c Renews t turns stands step = renews_stands role c t turns stands step
stands_step role c (Fails cause packet) t turns stands step = begins_stands role c t turns stands step.1
stands_step role c (Hears packet opens) t turns stands step = hears_stands role c t turns packet opens stands step
stands_step role c (Says packet opens) t turns stands step = says_stands role c t turns packet opens stands step
stands_step role c Waits t turns stands step = held_stands role c t turns step.what stands step.holds
stands_step role c Stays t turns stands step = stays_stands role c t turns stands step
