-- How many packets wait on a channel that nobody forged, and are still to be put: both ends begin with 24 of their own, and each session with
-- at most two more, for what it asks. An answer takes the place of the packet that it answers. What happens to the channel keeps it so.
use Rattle.std.proofs.Common.{◌≡◌, ℕ, ◌+◌, ◌*◌, ◌≤◌, Bool, true, false, List, [], ◌∷◌, ◌++◌, length, drop, refl, sym, ap, ◌∙◌, arith, length-append, length-drop, Option, Some}
use Rattle.std.specs.Prelude.{slice_get, ⊤}
use Rattle.ldc_link.specs.declared.phase.Role.{Role}
use Rattle.ldc_link.specs.declared.phase.Role.TheVariants.{Initiator, Responder}
use Rattle.ldc_queue.specs.declared.end.ChannelState.{ChannelState}
use Rattle.ldc_queue.specs.declared.end.ChannelState.TheVariants.{Down, Resetting, Up}
use Rattle.ldc_queue.specs.declared.end.End.TheVariants.{A, B}
use Rattle.ldc_queue.specs.Transcript.{Utterance}
use Rattle.ldc_queue.specs.Wire.{peer_behind, queue_behind, upset}
use Rattle.vio_tag.specs.declared.cause.Cause.{Cause}
use Rattle.lane_models.specs.TranscriptLog.{TranscriptLog}
use Rattle.lane_models.specs.WireEvent.{Blocked, Giver, Injected, Joined, Lost, Poked, Reset, Sent, Took, giver}
use Rattle.lane_models.specs.WireLog.{WireLog, lossy_behind, wire_moved}
use Rattle.lane_models.proofs.EndStanding.{held_stands}
use Rattle.lane_models.proofs.Lifting.{EndsAll, begins_anew, resets_anew}
use Rattle.lane_models.proofs.PacketsLeft.{anew_packets, answering_shut, says_left, says_packets, stays_packets, waits_left}
use Rattle.lane_models.specs.EndCore.{EndCore}
use Rattle.lane_models.specs.EndStep.{EndAnew, EndSays, EndStays, EndStep, EndWaits, Holding, Holds, HoldsOn}
use Rattle.lane_models.specs.LaneCore.{Closes, CoreEvent, CoreStep, LaneCore, OnChannel, reset_move, wire_after}
use Rattle.lane_models.specs.PacketsLeft.{own_in, packets_left}
use Rattle.lane_models.specs.Standing.{EndStands, HandshakeStands}
use Rattle.lane_models.proofs.Refuting.{true_false}
use Rattle.port_laws.specs.NetCore.{one_if}
use Rattle.port_laws.proofs.RemainingEnds.{kind_shut}

-- AN END: what it has still to put, with what it may begin before it takes a packet
abbrev pub spent : EndCore → ℕ
spent c = packets_left c + c.more

-- one that isn't up counts as one that begins
abbrev pub live_count : ChannelState → ℕ → ℕ → ℕ
live_count Up first now = now
live_count Down first now = first
live_count Resetting first now = first

-- so many packets both ends begin with, their states, so many wait, and what each has spent and has open
abbrev pub Few : (f g : ℕ) → (x y : ChannelState) → ℕ → Bool → (n p m q : ℕ) → Type 0
Few f g x y w lossy n p m q = w + live_count x f n + live_count y g m + one_if lossy ≤ f + g + 2 * live_count x 0 p + 2 * live_count y 0 q

few_swaps : (f g : ℕ) (x y : ChannelState) (w : ℕ) (lossy : Bool) (n p m q : ℕ) → Few f g x y w lossy n p m q → Few g f y x w lossy m q n p
few_swaps f g x y w lossy n p m q few = omega (arith, few)

few_acts : (f g : ℕ) (x y : ChannelState) (w v : ℕ) (lossy : Bool) (n k p r m q : ℕ) → x ≡ Up → v + k + 2 * p ≤ w + n + 2 * r → Few f g x y w lossy n p m q → Few f g x y v lossy k r m q
few_acts f g x y w v lossy n k p r m q up moves few = grind arith

few_rests : (f g : ℕ) (x y : ChannelState) (w : ℕ) (lossy : Bool) (n k p r m q : ℕ) → k ≤ n → r ≡ p → Few f g x y w lossy n p m q → Few f g x y w lossy k r m q
few_rests f g x y w lossy n k p r m q less same few = grind arith

upset_first : (y : ChannelState) (g m : ℕ) → live_count (upset y) g m ≡ g
upset_first y g m = grind arith

few_begins : (f g : ℕ) (x y : ChannelState) (a b : List (List ℕ)) (lossy : Bool) (n k p r m q : ℕ) → k ≡ f → Few f g x y (length a + length b) lossy n p m q
    → Few f g Up (peer_behind x y) (length (queue_behind x a) + length (queue_behind x b)) (lossy_behind x lossy) k r m q
few_begins f g x y a b lossy n k p r m q first few = grind (arith, upset_first)

few_shuts : (f g : ℕ) (y : ChannelState) (k r m q : ℕ) → Few f g Down (upset y) 0 false k r m q
few_shuts f g y k r m q = omega (arith, upset_first y g m)

few_loses : (f g : ℕ) (x y : ChannelState) (w v : ℕ) (lossy : Bool) (n p m q : ℕ) → v + 1 ≡ w → Few f g x y w lossy n p m q → Few f g x y v true n p m q
few_loses f g x y w v lossy n p m q one few = omega (arith, one, few)

-- ITS MOVES
pub stays_spent : (c t : EndCore) → EndStays c t → spent t ≤ spent c
stays_spent c t stays = omega (arith, stays_packets c t stays, stays.more)

holds_open : (c held : EndCore) (what : Holding) → Holds c what held → held.is_open ≡ c.is_open
holds_open c held HoldsOn still = ap (λ (x : EndCore). x.is_open) still.is
holds_open c held _ offers = offers.is_open

waits_spent : (role : Role) (c t : EndCore) (turns : List Utterance) → EndStands role c turns → EndWaits c t → spent t + 2 * one_if c.is_open ≤ spent c + 2 * one_if t.is_open
waits_spent role c t turns stands waits = grind (arith, waits_left, holds_open)

-- a message of its session is none by which that opens
shut_own : (c held : EndCore) (what : Holding) → c.is_open ≡ false → Holds c what held → own_in what ≡ 0
shut_own c held what shut offers = grind (arith, true_false)

pub says_spent : (role : Role) (c t : EndCore) (turns : List Utterance) (packet : List ℕ) (opens : Bool) → EndStands role c turns → (says : EndSays role c packet opens t) → (role ≡ Initiator → opens ≡ true → t.more ≤ 2)
    → spent t + 1 + 2 * one_if c.is_open ≤ spent c + 2 * one_if t.is_open
says_spent role c t turns packet opens stands says few = by_role role opens stands says few
  where
    goes_on : (r : Role) (b : Bool) → EndStands r c turns → (said : EndSays r c packet b t) → b ≡ false → t.is_open ≡ said.held.is_open → spent t + 1 + 2 * one_if c.is_open ≤ spent c + 2 * one_if t.is_open
    goes_on r b stood said shut same =
        omega (arith, says_left r c t turns packet b stood said shut, ap one_if (same ∙ holds_open c said.held said.what said.holds))

    by_role : (r : Role) (b : Bool) → EndStands r c turns → (said : EndSays r c packet b t) → (r ≡ Initiator → b ≡ true → t.more ≤ 2) → spent t + 1 + 2 * one_if c.is_open ≤ spent c + 2 * one_if t.is_open
    by_role Responder b stood said most = goes_on Responder b stood said (answering_shut c t turns packet b stood said) said.is_open
    by_role Initiator false stood said most = goes_on Initiator false stood said refl said.is_open
    by_role Initiator true stood said most =
        let held_so = held_stands Initiator c said.held turns said.what stood said.holds in
        let shut : said.held.is_open ≡ false = held_so.opened ∙ kind_shut _ said.held.handshake (sym said.opens_is) in
        let was : c.is_open ≡ false = sym (holds_open c said.held said.what said.holds) ∙ shut in
        omega (
          arith,
          says_packets Initiator c t turns packet true stood said,
          shut_own c said.held said.what was said.holds,
          most refl refl,
          ap one_if was,
          ap one_if said.is_open,
        )

-- it begins with as many as its role
abbrev pub first_of : Role → ℕ
first_of Initiator = 11
first_of Responder = 13

pub anew_spent : (role : Role) (c t : EndCore) → HandshakeStands role c.offer c.handshake → c.offer.both_rings ≡ true → t.more ≡ 0 → EndAnew role c t → spent t ≡ first_of role
anew_spent role c t stands both none begins = grind (arith, anew_packets)

resets_none : (g : Giver) (role : Role) (c t : EndCore) (cause : Cause) (packet : Option (List ℕ)) → EndStep role c (reset_move g cause packet) t → t.more ≡ 0
resets_none g role c t cause packet step = grind arith

-- BOTH ENDS
abbrev pub FewFly : WireLog → EndCore → EndCore → Type 0
FewFly w a b =
    Few 11 13 w.wire.end_a w.wire.end_b (length w.wire.to_a + length w.wire.to_b) w.lossy (spent a) (one_if a.is_open) (spent b) (one_if b.is_open)

-- the same from the responder's side
abbrev FromB : WireLog → EndCore → EndCore → Type 0
FromB w a b =
    Few 13 11 w.wire.end_b w.wire.end_a (length w.wire.to_a + length w.wire.to_b) w.lossy (spent b) (one_if b.is_open) (spent a) (one_if a.is_open)

from_b : (w : WireLog) (a b : EndCore) → FewFly w a b → FromB w a b
from_b w a b few = grind (arith, few_swaps)

to_a : (w : WireLog) (a b : EndCore) → FromB w a b → FewFly w a b
to_a w a b few =
    few_swaps 13 11 w.wire.end_b w.wire.end_a (length w.wire.to_a + length w.wire.to_b) w.lossy (spent b) (one_if b.is_open) (spent a) (one_if a.is_open) few

a_rests : (w : WireLog) (a t b : EndCore) → EndStays a t → FewFly w a b → FewFly w t b
a_rests w a t b stays few = grind (arith, few_rests, stays_spent)

b_rests : (w : WireLog) (a b t : EndCore) → EndStays b t → FewFly w a b → FewFly w a t
b_rests w a b t stays few = grind (arith, to_a, few_rests, stays_spent, from_b)

-- one end acts, behind which so many packets wait
a_acts : (w : WireLog) (n : ℕ) (a t b : EndCore) → w.wire.end_a ≡ Up → n + spent t + 2 * one_if a.is_open ≤ length w.wire.to_a + length w.wire.to_b + spent a + 2 * one_if t.is_open → FewFly w a b
    → Few 11 13 w.wire.end_a w.wire.end_b n w.lossy (spent t) (one_if t.is_open) (spent b) (one_if b.is_open)
a_acts w n a t b up moves few = grind (arith, few_acts)

b_acts : (w : WireLog) (n : ℕ) (a b t : EndCore) → w.wire.end_b ≡ Up → n + spent t + 2 * one_if b.is_open ≤ length w.wire.to_a + length w.wire.to_b + spent b + 2 * one_if t.is_open → FewFly w a b
    → Few 11 13 w.wire.end_a w.wire.end_b n w.lossy (spent a) (one_if a.is_open) (spent t) (one_if t.is_open)
b_acts w n a b t up moves few = grind (arith, few_swaps, few_acts, from_b)

-- one begins anew
a_begins : (w : WireLog) (a t b : EndCore) → spent t ≡ 11 → FewFly w a b → FewFly (wire_moved w (Joined A 0)) t b
a_begins w a t b first few =
    few_begins 11 13 w.wire.end_a w.wire.end_b w.wire.to_a w.wire.to_b w.lossy (spent a) (spent t) (one_if a.is_open) (one_if t.is_open) (spent b) (one_if b.is_open) first few

b_begins : (w : WireLog) (a b t : EndCore) → spent t ≡ 13 → FewFly w a b → FewFly (wire_moved w (Joined B 0)) a t
b_begins w a b t first few =
    to_a (wire_moved w (Joined B 0)) a t
    (few_begins 13 11 w.wire.end_b w.wire.end_a w.wire.to_a w.wire.to_b w.lossy (spent b) (spent t) (one_if b.is_open) (one_if t.is_open) (spent a) (one_if a.is_open) first
    (from_b w a b few))

pub first_gone : (packet : List ℕ) (packets : List (List ℕ)) → slice_get packets 0 ≡ Some packet → length (drop 1 packets) + 1 ≡ length packets
first_gone packet packets is = grind (arith, length-drop)

-- AN EVENT. By a packet that it takes an end spends no more than one beside it, and a guest's session opens with two messages to begin.
abbrev pub TakeSpends : EndCore → EndCore → Type 0
TakeSpends c t = spent t + 2 * one_if c.is_open ≤ spent c + 1 + 2 * one_if t.is_open

abbrev pub Spends : LaneCore → CoreEvent → LaneCore → Type 0
Spends s (OnChannel (Took A packet opens)) t = TakeSpends s.a t.a
Spends s (OnChannel (Took B packet opens)) t = TakeSpends s.b t.b
Spends s (OnChannel (Sent A packet opens)) t = opens ≡ true → t.a.more ≤ 2
Spends s _ t = ⊤

-- both ends stand, and have rings both ways
pub record Known (s : LaneCore) : Type 0 where
  pub transcript : TranscriptLog
  pub ends : EndsAll EndStands s transcript
  pub a_rings : s.a.offer.both_rings ≡ true
  pub b_rings : s.b.offer.both_rings ≡ true

event_few : (s t : LaneCore) (event : CoreEvent) → Known s → CoreStep s event t → Spends s event t → (wire_after s.wire event).forged ≡ false → FewFly s.wire s.a s.b → FewFly (wire_after s.wire event) t.a t.b
event_few s t (OnChannel (Joined A lost)) known step spends clean few =
    a_begins s.wire s.a t.a t.b
    (anew_spent Initiator s.a t.a known.ends.a.handshake known.a_rings step.a.more (begins_anew Initiator s.a t.a known.transcript.a known.ends.a step.a))
    (b_rests s.wire s.a s.b t.b step.b few)
event_few s t (OnChannel (Joined B lost)) known step spends clean few =
    b_begins s.wire t.a s.b t.b
    (anew_spent Responder s.b t.b known.ends.b.handshake known.b_rings step.b.more (begins_anew Responder s.b t.b known.transcript.b known.ends.b step.b))
    (a_rests s.wire s.a t.a s.b step.a few)
event_few s t (OnChannel (Reset A cause packet lost)) known step spends clean few =
    let none = resets_none (giver cause) Initiator s.a t.a cause packet step.a in
    grind (arith, none, a_begins, anew_spent, resets_anew, b_rests)
event_few s t (OnChannel (Reset B cause packet lost)) known step spends clean few =
    let none = resets_none (giver cause) Responder s.b t.b cause packet step.b in
    b_begins s.wire t.a s.b t.b
    (anew_spent Responder s.b t.b known.ends.b.handshake known.b_rings none (resets_anew (giver cause) Responder s.b t.b known.transcript.b cause packet known.ends.b step.b))
    (a_rests s.wire s.a t.a s.b step.a few)
event_few s t (OnChannel (Took A packet opens)) known step spends clean few =
    a_acts s.wire (length (drop 1 s.wire.wire.to_a) + length s.wire.wire.to_b) s.a t.a t.b step.stands.0 (omega (arith, spends, first_gone packet s.wire.wire.to_a step.stands.1))
    (b_rests s.wire s.a s.b t.b step.b few)
event_few s t (OnChannel (Took B packet opens)) known step spends clean few =
    b_acts s.wire (length s.wire.wire.to_a + length (drop 1 s.wire.wire.to_b)) t.a s.b t.b step.stands.0 (omega (arith, spends, first_gone packet s.wire.wire.to_b step.stands.1))
    (a_rests s.wire s.a t.a s.b step.a few)
event_few s t (OnChannel (Sent A packet opens)) known step spends clean few =
    let says = says_spent Initiator s.a t.a known.transcript.a packet opens known.ends.a step.a (λ role. spends) in
    a_acts s.wire (length s.wire.wire.to_a + length (s.wire.wire.to_b ++ packet ∷ [])) s.a t.a t.b step.stands.0 (omega (arith, says, length-append s.wire.wire.to_b (packet ∷ [])))
    (b_rests s.wire s.a s.b t.b step.b few)
event_few s t (OnChannel (Sent B packet opens)) known step spends clean few =
    let says = says_spent Responder s.b t.b known.transcript.b packet opens known.ends.b step.b (λ role. absurd (cc role)) in
    grind (arith, b_acts, length-append, a_rests)
event_few s t (OnChannel (Blocked A)) known step spends clean few =
    a_acts s.wire (length s.wire.wire.to_a + length s.wire.wire.to_b) s.a t.a t.b step.stands.0 (omega (arith, waits_spent Initiator s.a t.a known.transcript.a known.ends.a step.a))
    (b_rests s.wire s.a s.b t.b step.b few)
event_few s t (OnChannel (Blocked B)) known step spends clean few =
    b_acts s.wire (length s.wire.wire.to_a + length s.wire.wire.to_b) t.a s.b t.b step.stands.0 (omega (arith, waits_spent Responder s.b t.b known.transcript.b known.ends.b step.b))
    (a_rests s.wire s.a t.a s.b step.a few)
event_few s t (OnChannel (Lost A packet)) known step spends clean few =
    few_loses 11 13 s.wire.wire.end_a s.wire.wire.end_b (length s.wire.wire.to_a + length s.wire.wire.to_b) (length (drop 1 s.wire.wire.to_a) + length s.wire.wire.to_b) s.wire.lossy
    (spent t.a) (one_if t.a.is_open) (spent t.b) (one_if t.b.is_open) (omega (arith, first_gone packet s.wire.wire.to_a step.stands))
    (b_rests s.wire t.a s.b t.b step.b (a_rests s.wire s.a t.a s.b step.a few))
event_few s t (OnChannel (Lost B packet)) known step spends clean few =
    few_loses 11 13 s.wire.wire.end_a s.wire.wire.end_b (length s.wire.wire.to_a + length s.wire.wire.to_b) (length s.wire.wire.to_a + length (drop 1 s.wire.wire.to_b)) s.wire.lossy
    (spent t.a) (one_if t.a.is_open) (spent t.b) (one_if t.b.is_open) (omega (arith, first_gone packet s.wire.wire.to_b step.stands))
    (b_rests s.wire t.a s.b t.b step.b (a_rests s.wire s.a t.a s.b step.a few))
event_few s t (OnChannel (Injected e packet)) known step spends clean few = true_false clean
event_few s t (OnChannel (Poked e at bytes)) known step spends clean few = true_false clean
event_few s t (Closes A) known step spends clean few = few_shuts 11 13 s.wire.wire.end_b (spent t.a) (one_if t.a.is_open) (spent t.b) (one_if t.b.is_open)
event_few s t (Closes B) known step spends clean few =
    to_a (wire_after s.wire (Closes B)) t.a t.b (few_shuts 13 11 s.wire.wire.end_a (spent t.b) (one_if t.b.is_open) (spent t.a) (one_if t.a.is_open))
event_few s t _ known step spends clean few = b_rests s.wire t.a s.b t.b step.b (a_rests s.wire s.a t.a s.b step.a few)

-- nobody had forged before
was_clean : (w : WireLog) (event : CoreEvent) → (wire_after w event).forged ≡ false → w.forged ≡ false
was_clean w event clean = grind (arith, true_false)

pub step_few : (s t : LaneCore) (event : CoreEvent) → Known s → CoreStep s event t → (s.wire.forged ≡ false → Spends s event t) → (s.wire.forged ≡ false → FewFly s.wire s.a s.b)
    → t.wire.forged ≡ false → FewFly t.wire t.a t.b
step_few s t event known step spends few clean = grind (arith, was_clean, event_few)
