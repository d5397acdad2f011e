-- What the counts of an end and of its log come to, taken apart and put together again.
use Rattle.std.proofs.Common.{◌≡◌, ℕ, ◌+◌, ◌≤◌, Bool, true, false, Option, Some, None, List, [], ◌++◌, length, drop, refl, sym, ap, ◌∙◌, arith, length-append, length-drop, ◌∷◌}
use Rattle.std.specs.Prelude.{is_none}
use Rattle.std.proofs.lemmas.List.{drop-append-le, drop-drop}
use Rattle.ldc_link.specs.declared.phase.Role.{Role}
use Rattle.lane_models.proofs.Refuting.{false_true}
use Rattle.lane_models.specs.EndLog.{EndLog, SessionLog, said_in, said_kind}
use Rattle.lane_models.specs.NetEndState.{NetEndState, NetSession}
use Rattle.lane_models.specs.Spoken.{Spoken}
use Rattle.port_laws.specs.Counted.{AnswersRightly, Counts, EndCounts, GuestCounts, GuestGroups, NoneTold, PeerCounts, RingCounts, SessionCounts, left_of, unsaid}

-- AN OPEN SESSION, of the end and of its log
pub record OpenCounts (role : Role) (slots : ℕ) (groups : List (List ℕ)) (published gone : ℕ) (left : Option (List ℕ)) (begun : Bool) (p : NetSession)
    (log : Option SessionLog) : Type 0 where
  pub of_log : SessionLog
  pub is : log ≡ Some of_log
  pub counts : SessionCounts role slots groups published gone left begun p of_log

pub open_counts : (role : Role) (slots : ℕ) (queue : List (List ℕ)) (s : NetEndState) (l : EndLog) (p : NetSession) → EndCounts role slots queue s l → s.session ≡ Some p
    → OpenCounts role slots s.groups l.published l.gone (unsaid s) s.link.begun p l.session
open_counts role slots queue s l p counts is = grind arith

-- bytes of its own that its link holds; and where it holds none
pub own_left : (own : Bool) (bytes : List ℕ) → own ≡ true → 1 ≤ length bytes → left_of own bytes ≡ Some bytes
own_left true [] is some = absurd (omega (arith, some))
own_left true (byte ∷ bytes) is some = refl
own_left false bytes is some = false_true is

none_left : (own : Bool) → left_of own [] ≡ None
none_left own = grind arith

pub empty_unsaid : (s : NetEndState) → s.link.to_send ≡ [] → unsaid s ≡ None
empty_unsaid s is = ap (left_of (is_none s.handshake.owed)) is ∙ none_left (is_none s.handshake.owed)

pub open_empty : (role : Role) (slots : ℕ) (queue : List (List ℕ)) (s : NetEndState) (l : EndLog) (p : NetSession) → EndCounts role slots queue s l → s.session ≡ Some p → s.link.to_send ≡ []
    → OpenCounts role slots s.groups l.published l.gone None s.link.begun p l.session
open_empty role slots queue s l p counts is empty = grind (arith, empty_unsaid, open_counts)

-- none is open
pub record ShutCounts (role : Role) (groups : List (List ℕ)) (published gone : ℕ) (log : Option SessionLog) : Type 0 where
  pub is : log ≡ None
  pub gone_all : published ≡ gone
  pub none : NoneTold role groups

pub shut_counts : (role : Role) (slots : ℕ) (queue : List (List ℕ)) (s : NetEndState) (l : EndLog) → EndCounts role slots queue s l → s.session ≡ None
    → ShutCounts role s.groups l.published l.gone l.session
shut_counts role slots queue s l counts is = grind arith

pub with_open : (role : Role) (slots : ℕ) (groups : List (List ℕ)) (published gone : ℕ) (left : Option (List ℕ)) (begun : Bool) (session : Option NetSession) (p : NetSession) (v : SessionLog)
    → session ≡ Some p → SessionCounts role slots groups published gone left begun p v → Counts role slots groups published gone left begun session (Some v)
with_open role slots groups published gone left begun session p v is counts = grind arith

-- THE FRAMES, of which some leave
pub frames_leave : (n : ℕ) (frames queue given : List (List ℕ)) (gone : ℕ) → n ≤ length frames → frames ++ queue ≡ drop gone given → drop n frames ++ queue ≡ drop (gone + n) given
frames_leave n frames queue given gone few is =
    sym (drop-append-le n frames queue few) ∙ ap (drop n) is ∙ drop-drop n gone given

pub gone_within : (n : ℕ) (frames queue given : List (List ℕ)) (gone : ℕ) → n ≤ length frames → gone ≤ length given → frames ++ queue ≡ drop gone given → gone + n ≤ length given
gone_within n frames queue given gone few within is =
    let long : length (frames ++ queue) ≡ length (drop gone given) = ap length is in
    omega (arith, few, within, long, length-append frames queue, length-drop gone given)

-- an end in session that holds no message of it, and from which some frames left
pub end_from : (role : Role) (slots : ℕ) (queue : List (List ℕ)) (s t : NetEndState) (l : EndLog) (q : NetSession) (v : SessionLog) (n : ℕ) → EndCounts role slots queue s l
    → t.slots ≡ s.slots → t.frames ≡ drop n s.frames → n ≤ length s.frames → t.next_id ≡ s.next_id → GuestGroups role t.groups → t.session ≡ Some q → unsaid t ≡ None
    → RingCounts q l.published (l.gone + n) v → PeerCounts slots q v → GuestCounts role q t.groups v → AnswersRightly q.reply v.owed
    → EndCounts role slots queue t (record l { session = Some v; gone = l.gone + n })
end_from role slots queue s t l q v n counts same frames few next groups session left ring peer guest reply = record {
  slots_is = same ∙ counts.slots_is;
  frames = ap (λ (x : List (List ℕ)). x ++ queue) frames ∙ frames_leave n s.frames queue l.given l.gone few counts.frames;
  gone = gone_within n s.frames queue l.given l.gone few counts.gone counts.frames;
  ids = ap (λ (x : ℕ). x + length queue) next ∙ counts.ids;
  groups = groups;
  session = grind (arith, with_open);
}

-- the guest's counts speak of few fields
pub guest_same : (role : Role) (p q : NetSession) (groups now : List (List ℕ)) (v w : SessionLog) → GuestCounts role p groups v → now ≡ groups → q.untold ≡ p.untold → q.telling ≡ p.telling
    → w.membership ≡ v.membership → w.told ≡ v.told → w.groups ≡ v.groups → GuestCounts role q now w
guest_same role p q groups now v w counts same untold telling membership told known = grind arith

-- WHAT IS SAID changes none of these
pub said_published : (k : Spoken) (message : List ℕ) (v : SessionLog) → (said_kind k message v).published ≡ v.published
said_published k message v = grind arith

pub left_published : (left : Option (List ℕ)) (v : SessionLog) → (said_in left v).published ≡ v.published
left_published left v = grind (arith, said_published)

pub left_seen : (left : Option (List ℕ)) (v : SessionLog) → (said_in left v).seen ≡ v.seen
left_seen left v = grind arith
