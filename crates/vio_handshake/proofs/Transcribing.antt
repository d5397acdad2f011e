-- Two handshakes on their way: one end is at a place, and the other at the same, or one or two messages ahead, which wait.
use Rattle.std.proofs.Common.{arith, ◌+◌, ◌*◌, ◌≡◌, Bool, true, false, Option, Some, None, List, [], ◌∷◌, ◌++◌, inl, inr, sym, ap, ◌∙◌, refl, ℕ, ◌⊎◌, subst}
use Rattle.ldc_link.specs.declared.phase.Role.{Role}
use Rattle.ldc_link.specs.declared.phase.Role.TheVariants.{Initiator, Responder}
use Rattle.vio_tag.specs.declared.message.Message.{Message}
use Rattle.vio_handshake.specs.Pairing.{PutsOwed, TakesFirst, other}
use Rattle.vio_handshake.specs.Rules.{HandshakeTake, handshake_sent, handshake_take, taken}
use Rattle.vio_handshake.specs.State.{IsFault}
use Rattle.vio_handshake.specs.declared.session.HsOut.{HsOut}
use Rattle.vio_handshake.specs.declared.session.HsOut.TheVariants.{Nothing, Opens, Fault}
use Rattle.vio_handshake.specs.declared.handshake.Handshake.{Handshake}
use Rattle.vio_handshake.proofs.PlaceRows.{Fits, GoesTo, put_at, take_at}
use Rattle.vio_handshake.proofs.Places.{Place, VersionSaid, VersionAnswered, AttributesSaid, AttributesAnswered, RingSaid, RingAnswered, PeerRingSaid, PeerRingAnswered, ReadySaid, ReadyAnswered, PeerReadySaid, PeerReadyAnswered, AllSaid, Deal, IsPlace, message_at, next, owed_by, owner, handshake_at}

-- how far this end is ahead of the other, or behind it
pub data Ahead : Type 0 where
  Level : Ahead
  MineOne : Ahead
  MineTwo : Ahead
  TheirsOne : Ahead
  TheirsTwo : Ahead

-- as this end sees it, from the place of the one that is after
abbrev pub Scene : Bool → Deal → Role → Place → Ahead → Handshake → Handshake → List Message → List Message → Type 0
Scene both d r n Level mine theirs to_me to_them =
    (mine ≡ handshake_at both d r n) × (theirs ≡ handshake_at both d (other r) n) × (to_me ≡ []) × (to_them ≡ [])
Scene both d r n MineOne mine theirs to_me to_them =
    (mine ≡ handshake_at both d r (next both n)) × (theirs ≡ handshake_at both d (other r) n) × (to_me ≡ [])
    × (to_them ≡ message_at d n ∷ []) × (owner n ≡ Some r)
Scene both d r n MineTwo mine theirs to_me to_them =
    (mine ≡ handshake_at both d r (next both (next both n))) × (theirs ≡ handshake_at both d (other r) n) × (to_me ≡ [])
    × (to_them ≡ message_at d n ∷ message_at d (next both n) ∷ []) × (owner n ≡ Some r) × (owner (next both n) ≡ Some r)
Scene both d r n TheirsOne mine theirs to_me to_them =
    (mine ≡ handshake_at both d r n) × (theirs ≡ handshake_at both d (other r) (next both n)) × (to_me ≡ message_at d n ∷ [])
    × (to_them ≡ []) × (owner n ≡ Some (other r))
Scene both d r n TheirsTwo mine theirs to_me to_them =
    (mine ≡ handshake_at both d r n) × (theirs ≡ handshake_at both d (other r) (next both (next both n)))
    × (to_me ≡ message_at d n ∷ message_at d (next both n) ∷ []) × (to_them ≡ []) × (owner n ≡ Some (other r))
    × (owner (next both n) ≡ Some (other r))

-- places
next_here : (both : Bool) (n : Place) → IsPlace both n → IsPlace both (next both n)
next_here true VersionSaid here = tt
next_here true VersionAnswered here = tt
next_here true AttributesSaid here = tt
next_here true AttributesAnswered here = tt
next_here true RingSaid here = tt
next_here true RingAnswered here = tt
next_here true PeerRingSaid here = tt
next_here true PeerRingAnswered here = tt
next_here true ReadySaid here = tt
next_here true ReadyAnswered here = tt
next_here true PeerReadySaid here = tt
next_here true PeerReadyAnswered here = tt
next_here true AllSaid here = tt
next_here false PeerRingSaid here = absurd here
next_here false PeerRingAnswered here = absurd here
next_here false VersionSaid here = tt
next_here false VersionAnswered here = tt
next_here false AttributesSaid here = tt
next_here false AttributesAnswered here = tt
next_here false RingSaid here = tt
next_here false RingAnswered here = tt
next_here false ReadySaid here = tt
next_here false ReadyAnswered here = tt
next_here false PeerReadySaid here = tt
next_here false PeerReadyAnswered here = tt
next_here false AllSaid here = tt

-- how many messages are left from a place on
abbrev pub left : Bool → Place → ℕ
left true VersionSaid = 12
left true VersionAnswered = 11
left true AttributesSaid = 10
left true AttributesAnswered = 9
left true RingSaid = 8
left true RingAnswered = 7
left false VersionSaid = 10
left false VersionAnswered = 9
left false AttributesSaid = 8
left false AttributesAnswered = 7
left false RingSaid = 6
left false RingAnswered = 5
left both PeerRingSaid = 6
left both PeerRingAnswered = 5
left both ReadySaid = 4
left both ReadyAnswered = 3
left both PeerReadySaid = 2
left both PeerReadyAnswered = 1
left both AllSaid = 0

one_less : (both : Bool) (r : Role) (n : Place) → owner n ≡ Some r → left both n ≡ left both (next both n) + 1
one_less true r VersionSaid is = refl
one_less true r VersionAnswered is = refl
one_less true r AttributesSaid is = refl
one_less true r AttributesAnswered is = refl
one_less true r RingSaid is = refl
one_less true r RingAnswered is = refl
one_less true r PeerRingSaid is = refl
one_less true r PeerRingAnswered is = refl
one_less true r ReadySaid is = refl
one_less true r ReadyAnswered is = refl
one_less true r PeerReadySaid is = refl
one_less true r PeerReadyAnswered is = refl
one_less true r AllSaid is = absurd (cc)
one_less false r VersionSaid is = refl
one_less false r VersionAnswered is = refl
one_less false r AttributesSaid is = refl
one_less false r AttributesAnswered is = refl
one_less false r RingSaid is = refl
one_less false r RingAnswered is = refl
one_less false r PeerRingSaid is = refl
one_less false r PeerRingAnswered is = refl
one_less false r ReadySaid is = refl
one_less false r ReadyAnswered is = refl
one_less false r PeerReadySaid is = refl
one_less false r PeerReadyAnswered is = refl
one_less false r AllSaid is = absurd (cc)

-- each of them is put and taken; those on the way were put
abbrev pub acts_left : Bool → Place → Ahead → ℕ
acts_left both n Level = 2 * left both n
acts_left both n MineOne = 2 * left both (next both n) + 1
acts_left both n MineTwo = 2 * left both (next both (next both n)) + 2
acts_left both n TheirsOne = 2 * left both (next both n) + 1
acts_left both n TheirsTwo = 2 * left both (next both (next both n)) + 2

-- a transcript in which so many acts are left
pub record Transcript (both : Bool) (d : Deal) (r : Role) (count : ℕ) (mine theirs : Handshake) (to_me to_them : List Message) : Type 0 where
  pub place : Place
  pub ahead : Ahead
  pub here : IsPlace both place
  pub scene : Scene both d r place ahead mine theirs to_me to_them
  pub acts : acts_left both place ahead ≡ count

-- it went on by one act
pub record Gone (both : Bool) (d : Deal) (r : Role) (count : ℕ) (mine theirs : Handshake) (to_me to_them : List Message) : Type 0 where
  pub now : ℕ
  pub fewer : count ≡ now + 1
  pub transcript : Transcript both d r now mine theirs to_me to_them

-- nobody says three messages in a row
not_three : (both : Bool) (r : Role) (n : Place) → owner n ≡ Some r → owner (next both n) ≡ Some r → owner (next both (next both n)) ≡ Some r → ⊥
not_three true Initiator RingSaid one two three = cc
not_three false Initiator RingSaid one two three = cc
not_three true Initiator RingAnswered one two three = cc
not_three false Initiator RingAnswered one two three = cc
not_three true Responder RingSaid one two three = cc
not_three false Responder RingSaid one two three = cc
not_three true Responder RingAnswered one two three = cc
not_three false Responder RingAnswered one two three = cc
not_three both Initiator n one two three = cc
not_three both Responder n one two three = cc

not_both : (r : Role) (who : Option Role) → who ≡ Some r → who ≡ Some (other r) → ⊥
not_both Initiator who mine theirs = cc
not_both Responder who mine theirs = cc

back : (r : Role) → other (other r) ≡ r
back Initiator = refl
back Responder = refl

-- who owes a message is its owner
who_owes : (r : Role) (who : Option Role) (message owed : Message) → owed_by r who message ≡ Some owed → (who ≡ Some r) × (message ≡ owed)
who_owes Initiator (Some Initiator) message owed is = (refl, cc)
who_owes Responder (Some Responder) message owed is = (refl, cc)
who_owes Initiator (Some Responder) message owed is = absurd (cc)
who_owes Responder (Some Initiator) message owed is = absurd (cc)
who_owes Initiator None message owed is = absurd (cc)
who_owes Responder None message owed is = absurd (cc)

owes_at : (both : Bool) (d : Deal) (r : Role) (n : Place) (mine : Handshake) (owed : Message) → mine ≡ handshake_at both d r n → mine.owed ≡ Some owed
    → (owner n ≡ Some r) × (message_at d n ≡ owed)
owes_at both d r n mine owed at is =
    who_owes r (owner n) (message_at d n) owed (sym (ap (λ (s : Handshake). s.owed) at) ∙ is)

-- an end at its own place puts its message
puts_there : (both : Bool) (d : Deal) (r : Role) (n : Place) (mine t : Handshake) → IsPlace both n → owner n ≡ Some r
    → mine ≡ handshake_at both d r n → t ≡ handshake_sent mine → t ≡ handshake_at both d r (next both n)
puts_there both d r n mine t here own at sent = sent ∙ ap handshake_sent at ∙ put_at both d r n here own

behind_all : (queue after : List Message) (put message : Message) (known : List Message) → after ≡ queue ++ put ∷ [] → queue ≡ known → message ≡ put → after ≡ known ++ message ∷ []
behind_all queue after put message known is was same = is ∙ ap (λ (q : List Message). q ++ put ∷ []) was ∙ ap (λ (m : Message). known ++ m ∷ []) (sym same)

twice_less : (more fewer count : ℕ) → more ≡ fewer + 1 → 2 * more ≡ count → count ≡ (2 * fewer + 1) + 1
twice_less more fewer count is acts = omega arith

twice_one_less : (more fewer count : ℕ) → more ≡ fewer + 1 → 2 * more + 1 ≡ count → count ≡ (2 * fewer + 2) + 1
twice_one_less more fewer count is acts = omega arith

pub transcript_puts : (both : Bool) (d : Deal) (r : Role) (count : ℕ) (mine theirs : Handshake) (to_me to_them : List Message) (t : Handshake) (after : List Message)
    → Transcript both d r count mine theirs to_me to_them → PutsOwed mine to_them t after → Gone both d r count t theirs to_me after
transcript_puts both d r count mine theirs to_me to_them t after transcript put =
    elim transcript.ahead as (λ (a : Ahead). Scene both d r transcript.place a mine theirs to_me to_them → acts_left both transcript.place a ≡ count → Gone both d r count t theirs to_me after) [
      | Level ↦ λ scene acts.
          let own = owes_at both d r transcript.place mine put.message scene.0 put.owed in
          record {
            now = 2 * left both (next both transcript.place) + 1;
            fewer = twice_less (left both transcript.place) (left both (next both transcript.place)) count (one_less both r transcript.place own.0) acts;
            transcript = record {
              place = transcript.place;
              ahead = MineOne;
              here = transcript.here;
              scene = (puts_there both d r transcript.place mine t transcript.here own.0 scene.0 put.sent, scene.1, scene.2, behind_all to_them after put.message (message_at d transcript.place) [] put.put scene.3 own.1, own.0);
              acts = refl;
            };
          }
      | MineOne ↦ λ scene acts.
          let own = owes_at both d r (next both transcript.place) mine put.message scene.0 put.owed in
          record {
            now = 2 * left both (next both (next both transcript.place)) + 2;
            fewer = twice_one_less (left both (next both transcript.place)) (left both (next both (next both transcript.place))) count (one_less both r (next both transcript.place) own.0) acts;
            transcript = record {
              place = transcript.place;
              ahead = MineTwo;
              here = transcript.here;
              scene = (puts_there both d r (next both transcript.place) mine t (next_here both transcript.place transcript.here) own.0 scene.0 put.sent, scene.1, scene.2, behind_all to_them after put.message (message_at d (next both transcript.place)) (message_at d transcript.place ∷ []) put.put scene.3 own.1, scene.4, own.0);
              acts = refl;
            };
          }
      | MineTwo ↦ λ scene acts.
          let own = owes_at both d r (next both (next both transcript.place)) mine put.message scene.0 put.owed in
          absurd (not_three both r transcript.place scene.4 scene.5 own.0)
      | TheirsOne ↦ λ scene acts.
          let own = owes_at both d r transcript.place mine put.message scene.0 put.owed in
          absurd (not_both r (owner transcript.place) own.0 scene.4)
      | TheirsTwo ↦ λ scene acts.
          let own = owes_at both d r transcript.place mine put.message scene.0 put.owed in
          absurd (not_both r (owner transcript.place) own.0 scene.4)
    ] transcript.scene transcript.acts

-- what an end answers, where its rules take the message
went : (answer : HsOut) (t there : Handshake) (take : HandshakeTake) → taken answer t ≡ take → GoesTo take there → (t ≡ there) × (IsFault answer → ⊥)
went Nothing t there take is (inl goes) = (cc, λ fault. fault)
went Nothing t there take is (inr goes) = absurd (cc)
went Opens t there take is (inl goes) = absurd (cc)
went Opens t there take is (inr goes) = (cc, λ fault. fault)
went (Fault cause) t there take is (inl goes) = absurd (cc)
went (Fault cause) t there take is (inr goes) = absurd (cc)

takes_there : (both : Bool) (d : Deal) (r : Role) (n : Place) (mine t : Handshake) (message : Message) (answer : HsOut) → Fits both d → IsPlace both n
    → owner n ≡ Some (other r) → mine ≡ handshake_at both d r n → message ≡ message_at d n → taken answer t ≡ handshake_take mine message
    → (t ≡ handshake_at both d r (next both n)) × (IsFault answer → ⊥)
takes_there both d r n mine t message answer fits here own at is exact =
    went answer t (handshake_at both d r (next both n)) (handshake_take (handshake_at both d r n) (message_at d n))
    (exact ∙ ap (λ (s : Handshake). handshake_take s message) at ∙ ap (λ (m : Message). handshake_take (handshake_at both d r n) m) is)
    (take_at both d r n fits here own)

none_first : (message : Message) (after queue : List Message) → queue ≡ [] → queue ≡ message ∷ after → ⊥
none_first message after queue none is = cc

first_is : (message known : Message) (after rest queue : List Message) → queue ≡ known ∷ rest → queue ≡ message ∷ after → (message ≡ known) × (after ≡ rest)
first_is message known after rest queue was is = (cc, cc)

-- a transcript goes on, and the message was no fault
pub record Hears (both : Bool) (d : Deal) (r : Role) (count : ℕ) (t theirs : Handshake) (after to_them : List Message) (answer : HsOut) : Type 0 where
  pub gone : Gone both d r count t theirs after to_them
  pub heard : IsFault answer → ⊥

one_fewer : (more count : ℕ) → 2 * more + 1 ≡ count → count ≡ 2 * more + 1
one_fewer more count acts = sym acts

two_fewer : (more count : ℕ) → 2 * more + 2 ≡ count → count ≡ (2 * more + 1) + 1
two_fewer more count acts = omega arith

pub transcript_takes : (both : Bool) (d : Deal) (r : Role) (count : ℕ) (mine theirs : Handshake) (to_me to_them : List Message) (answer : HsOut) (t : Handshake) (after : List Message)
    → Fits both d → Transcript both d r count mine theirs to_me to_them → TakesFirst mine to_me answer t after → Hears both d r count t theirs after to_them answer
transcript_takes both d r count mine theirs to_me to_them answer t after fits transcript take =
    elim transcript.ahead as (λ (a : Ahead). Scene both d r transcript.place a mine theirs to_me to_them → acts_left both transcript.place a ≡ count → Hears both d r count t theirs after to_them answer) [
      | Level ↦ λ scene acts. absurd (none_first take.message after to_me scene.2 take.first)
      | MineOne ↦ λ scene acts. absurd (none_first take.message after to_me scene.2 take.first)
      | MineTwo ↦ λ scene acts. absurd (none_first take.message after to_me scene.2 take.first)
      | TheirsOne ↦ λ scene acts.
          let first = first_is take.message (message_at d transcript.place) after [] to_me scene.2 take.first in
          let went_on = takes_there both d r transcript.place mine t take.message answer fits transcript.here scene.4 scene.0 first.0 take.exact in
          record {
            gone = record {
              now = 2 * left both (next both transcript.place);
              fewer = one_fewer (left both (next both transcript.place)) count acts;
              transcript = record {
                place = next both transcript.place;
                ahead = Level;
                here = next_here both transcript.place transcript.here;
                scene = (went_on.0, scene.1, first.1, scene.3);
                acts = refl;
              };
            };
            heard = went_on.1;
          }
      | TheirsTwo ↦ λ scene acts.
          let first = first_is take.message (message_at d transcript.place) after (message_at d (next both transcript.place) ∷ []) to_me scene.2 take.first in
          let went_on = takes_there both d r transcript.place mine t take.message answer fits transcript.here scene.4 scene.0 first.0 take.exact in
          record {
            gone = record {
              now = 2 * left both (next both (next both transcript.place)) + 1;
              fewer = two_fewer (left both (next both (next both transcript.place))) count acts;
              transcript = record {
                place = next both transcript.place;
                ahead = TheirsOne;
                here = next_here both transcript.place transcript.here;
                scene = (went_on.0, scene.1, first.1, scene.3, scene.5);
                acts = refl;
              };
            };
            heard = went_on.1;
          }
    ] transcript.scene transcript.acts

-- the other end's view
pub record Mirrored (both : Bool) (d : Deal) (r : Role) (n : Place) (a : Ahead) (mine theirs : Handshake) (to_me to_them : List Message) : Type 0 where
  pub ahead : Ahead
  pub scene : Scene both d r n ahead mine theirs to_me to_them
  pub acts : acts_left both n ahead ≡ acts_left both n a

mirror_scene : (both : Bool) (d : Deal) (r : Role) (n : Place) (a : Ahead) (mine theirs : Handshake) (to_me to_them : List Message)
    → Scene both d r n a mine theirs to_me to_them → Mirrored both d (other r) n a theirs mine to_them to_me
mirror_scene both d Initiator n Level mine theirs to_me to_them scene = record { ahead = Level; scene = (scene.1, scene.0, scene.3, scene.2); acts = refl }
mirror_scene both d Responder n Level mine theirs to_me to_them scene = record { ahead = Level; scene = (scene.1, scene.0, scene.3, scene.2); acts = refl }
mirror_scene both d Initiator n MineOne mine theirs to_me to_them scene = record { ahead = TheirsOne; scene = (scene.1, scene.0, scene.3, scene.2, scene.4); acts = refl }
mirror_scene both d Responder n MineOne mine theirs to_me to_them scene = record { ahead = TheirsOne; scene = (scene.1, scene.0, scene.3, scene.2, scene.4); acts = refl }
mirror_scene both d Initiator n MineTwo mine theirs to_me to_them scene = record { ahead = TheirsTwo; scene = (scene.1, scene.0, scene.3, scene.2, scene.4, scene.5); acts = refl }
mirror_scene both d Responder n MineTwo mine theirs to_me to_them scene = record { ahead = TheirsTwo; scene = (scene.1, scene.0, scene.3, scene.2, scene.4, scene.5); acts = refl }
mirror_scene both d Initiator n TheirsOne mine theirs to_me to_them scene = record { ahead = MineOne; scene = (scene.1, scene.0, scene.3, scene.2, scene.4); acts = refl }
mirror_scene both d Responder n TheirsOne mine theirs to_me to_them scene = record { ahead = MineOne; scene = (scene.1, scene.0, scene.3, scene.2, scene.4); acts = refl }
mirror_scene both d Initiator n TheirsTwo mine theirs to_me to_them scene = record { ahead = MineTwo; scene = (scene.1, scene.0, scene.3, scene.2, scene.4, scene.5); acts = refl }
mirror_scene both d Responder n TheirsTwo mine theirs to_me to_them scene = record { ahead = MineTwo; scene = (scene.1, scene.0, scene.3, scene.2, scene.4, scene.5); acts = refl }

pub turn_transcript : (both : Bool) (d : Deal) (r : Role) (count : ℕ) (mine theirs : Handshake) (to_me to_them : List Message)
    → Transcript both d r count mine theirs to_me to_them → Transcript both d (other r) count theirs mine to_them to_me
turn_transcript both d r count mine theirs to_me to_them transcript =
    let turned = mirror_scene both d r transcript.place transcript.ahead mine theirs to_me to_them transcript.scene in
    record {
      place = transcript.place;
      ahead = turned.ahead;
      here = transcript.here;
      scene = turned.scene;
      acts = turned.acts ∙ transcript.acts;
    }

-- an end acts: it puts what it owes, or takes what waits, and owes nothing then
abbrev pub CanAct : Handshake → List Message → List Message → Type 0
CanAct mine to_me to_them =
    ((t : Handshake) × (after : List Message) × PutsOwed mine to_them t after)
    ⊎ ((answer : HsOut) × (t : Handshake) × (after : List Message) × TakesFirst mine to_me answer t after)

owes_none : (both : Bool) (d : Deal) (r : Role) (n : Place) (mine : Handshake) → owner n ≡ Some (other r) → mine ≡ handshake_at both d r n → mine.owed ≡ None
owes_none both d Initiator n mine own at = ap (λ (s : Handshake). s.owed) at ∙ ap (λ (who : Option Role). owed_by Initiator who (message_at d n)) own
owes_none both d Responder n mine own at = ap (λ (s : Handshake). s.owed) at ∙ ap (λ (who : Option Role). owed_by Responder who (message_at d n)) own

owes_own : (both : Bool) (d : Deal) (r : Role) (n : Place) (mine : Handshake) → owner n ≡ Some r → mine ≡ handshake_at both d r n → mine.owed ≡ Some (message_at d n)
owes_own both d Initiator n mine own at = ap (λ (s : Handshake). s.owed) at ∙ ap (λ (who : Option Role). owed_by Initiator who (message_at d n)) own
owes_own both d Responder n mine own at = ap (λ (s : Handshake). s.owed) at ∙ ap (λ (who : Option Role). owed_by Responder who (message_at d n)) own

-- what is said next can be put
pub own_puts : (both : Bool) (d : Deal) (r : Role) (n : Place) (mine : Handshake) (to_me to_them : List Message) → owner n ≡ Some r → mine ≡ handshake_at both d r n
    → CanAct mine to_me to_them
own_puts both d r n mine to_me to_them own at =
    inl (handshake_sent mine, to_them ++ message_at d n ∷ [], record { message = message_at d n; owed = owes_own both d r n mine own at; sent = refl; put = refl })

told_take : (mine there : Handshake) (message : Message) (rest to_me to_them : List Message) → mine.owed ≡ None → to_me ≡ message ∷ rest
    → GoesTo (handshake_take mine message) there → CanAct mine to_me to_them
told_take mine there message rest to_me to_them free first (inl goes) =
    inr (Nothing, there, rest, record { free = free; message = message; first = first; exact = sym goes; unchanged = λ fault. absurd fault })
told_take mine there message rest to_me to_them free first (inr goes) =
    inr (Opens, there, rest, record { free = free; message = message; first = first; exact = sym goes; unchanged = λ fault. absurd fault })

-- what waits can be taken
pub first_taken : (both : Bool) (d : Deal) (r : Role) (n : Place) (mine : Handshake) (rest to_me to_them : List Message) → Fits both d → IsPlace both n
    → owner n ≡ Some (other r) → mine ≡ handshake_at both d r n → to_me ≡ message_at d n ∷ rest → CanAct mine to_me to_them
first_taken both d r n mine rest to_me to_them fits here own at first =
    told_take mine (handshake_at both d r (next both n)) (message_at d n) rest to_me to_them (owes_none both d r n mine own at) first
    (subst (λ (s : Handshake). GoesTo (handshake_take s (message_at d n)) (handshake_at both d r (next both n))) (sym at) (take_at both d r n fits here own))
