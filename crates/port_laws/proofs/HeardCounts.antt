-- A message of its session that an end takes is counted by its log as the end counts it.
use Rattle.std.proofs.Common.{◌≡◌, ℕ, zero, suc, ◌+◌, ◌*◌, ◌≤◌, true, false, Option, Some, None, List, [], length, drop, refl, sym, subst, ap, ◌∙◌, arith, length-drop}
use Rattle.std.specs.List.{AllByRecursion}
use Rattle.std.proofs.lemmas.List.{length-take}
use Rattle.ldc_packet.specs.declared.packet.Subtype.{Subtype}
use Rattle.ldc_packet.specs.declared.packet.Subtype.TheVariants.{Ack, Info}
use Rattle.ldc_packet.specs.Spelling.{subtype_code}
use Rattle.ldc_link.specs.declared.phase.Role.{Role}
use Rattle.ldc_link.specs.declared.phase.Role.TheVariants.{Responder}
use Rattle.ldc_link.specs.LinkState.{LinkState}
use Rattle.vio_handshake.specs.Rules.{is_declined}
use Rattle.vio_tag.specs.declared.message.Message.{Message}
use Rattle.vio_tag.specs.declared.message.MsgBody.{MsgBody}
use Rattle.vio_tag.specs.declared.message.MsgBody.TheVariants.{DringData, Mcast}
use Rattle.vio_tag.specs.Form.{HasForm, IsWellFormed}
use Rattle.vio_tag.specs.Spelling.{HasLength, SpellsBody, SpellsMessage, addresses_at, envelope_code}
use Rattle.dring.specs.Slots.{range_length}
use Rattle.lane_models.proofs.Refuting.{false_true}
use Rattle.lane_models.specs.EndLog.{EndLog, SessionLog, acked_by, answer_code, answer_to, groups_fields, heard_kind, hears_log, list_after, range_of}
use Rattle.lane_models.specs.Groups.{groups_after}
use Rattle.lane_models.specs.FramesStand.{CountsStand, FramesStand}
use Rattle.lane_models.specs.NetEndState.{GroupsReply, NetEndState, NetSession}
use Rattle.lane_models.specs.NetEndTaking.{active, replying}
use Rattle.lane_models.specs.RuleFacts.{IfOpen}
use Rattle.lane_models.specs.Spoken.{GroupsAck, GroupsInfo, Other, RangeAck, RangeInfo, Spoken, count_of, set_of, seven_of, spoken, spoken_by}
use Rattle.port_laws.specs.Counted.{AnswersFor, AnswersRightly, EndCounts, GuestCounts, GuestGroups, IsAnswer, PeerCounts, RingCounts, SessionCounts, unsaid}
use Rattle.port_laws.proofs.EndCounting.{OpenCounts, empty_unsaid, end_from, guest_same, open_empty}
use Rattle.port_laws.proofs.LettingGo.{spoken_same}
use Rattle.port_laws.proofs.MessageDoes.{Acks, Asks, Declines, IsKept, MessageDoes, Names, Told, reply_code}
use Rattle.port_laws.proofs.ShortMessages.{read_long}

-- THE KIND of a message by its fields
spoken_of : (bytes : List ℕ) (m : Message) (s : Subtype) (b : MsgBody) → SpellsMessage bytes m → m.subtype ≡ s → m.body ≡ b → spoken bytes ≡ spoken_by (envelope_code b) (subtype_code s)
spoken_of bytes m s b spells kind body = grind (arith, spoken_same)

declined_kind : (s : Subtype) (b : MsgBody) → HasForm b → is_declined s b ≡ true → spoken_by (envelope_code b) (subtype_code s) ≡ Other
declined_kind s b form is = grind (arith, false_true)

-- what the log makes of a message of a kind
abbrev heard_as : ℕ → List ℕ → SessionLog → EndLog → Spoken → EndLog
heard_as slots bytes v l k = record l { session = Some (heard_kind slots k bytes v); gone = l.gone + acked_by slots k bytes }

heard_log : (slots : ℕ) (bytes : List ℕ) (v : SessionLog) (l : EndLog) (k : Spoken) (P : EndLog → Type 0) → l.session ≡ Some v → spoken bytes ≡ k → P (heard_as slots bytes v l k)
    → P (hears_log slots (Some bytes) l)
heard_log slots bytes v l k P is kind holds = grind arith

-- no frames leave
ring_same : (p q : NetSession) (published gone : ℕ) (v w : SessionLog) → RingCounts p published gone v → q.base ≡ p.base → q.published ≡ p.published → q.seen ≡ p.seen → q.infos ≡ p.infos
    → q.asking ≡ p.asking → w.published ≡ v.published → w.seen ≡ v.seen → w.infos ≡ v.infos → w.asking ≡ v.asking → RingCounts q published (gone + 0) w
ring_same p q published gone v w ring base all seen infos asking here seen_here infos_here asking_here = grind arith

groups_as : (role : Role) (groups now : List (List ℕ)) → now ≡ groups → GuestGroups role groups → GuestGroups role now
groups_as role groups now is are = subst (GuestGroups role) (sym is) are

-- EACH KIND
asks_counts : (role : Role) (slots : ℕ) (queue : List (List ℕ)) (s t : NetEndState) (l : EndLog) (p : NetSession) (v : SessionLog) (bytes : List ℕ) (seq start : ℕ) → EndCounts role slots queue s l
    → SessionCounts role slots s.groups l.published l.gone None s.link.begun p v → p.active ≡ None → unsaid t ≡ None → p.place ≡ start → p.seq ≡ seq
    → t.slots ≡ s.slots → t.frames ≡ s.frames → t.next_id ≡ s.next_id → t.groups ≡ s.groups → t.session ≡ Some (active p seq start) → EndCounts role slots queue t (heard_as slots bytes v l RangeInfo)
asks_counts role slots queue s t l p v bytes seq start counts opened none left place seq_is same frames next groups session =
    grind (arith, end_from, groups_as, ring_same, guest_same)

-- the session after an ACK of so many slots
abbrev acked_session : NetSession → ℕ → NetSession
acked_session p count = record p { seen = p.seen + count; asking = false }

acks_counts : (role : Role) (slots : ℕ) (queue : List (List ℕ)) (s t : NetEndState) (l : EndLog) (p : NetSession) (v : SessionLog) (bytes : List ℕ) (count : ℕ) → EndCounts role slots queue s l
    → SessionCounts role slots s.groups l.published l.gone None s.link.begun p v → unsaid t ≡ None → range_of slots bytes ≡ count → count ≤ length s.frames
    → t.slots ≡ s.slots → t.frames ≡ drop count s.frames → t.next_id ≡ s.next_id → t.groups ≡ s.groups → t.session ≡ Some (acked_session p count)
    → EndCounts role slots queue t (heard_as slots bytes v l RangeAck)
acks_counts role slots queue s t l p v bytes count counts opened left range few same frames next groups session =
    let kept : EndCounts role slots queue t (record l { session = Some (record v { seen = v.seen + count; asking = false }); gone = l.gone + count }) =
    end_from role slots queue s t l (acked_session p count) (record v { seen = v.seen + count; asking = false }) count counts same frames few next (groups_as role s.groups t.groups groups counts.groups) session left
    (record {
      all = opened.ring.all;
      left = omega (arith, opened.ring.left);
      here = opened.ring.here;
      seen = ap (λ (x : ℕ). x + count) opened.ring.seen;
      infos = opened.ring.infos;
      asking = refl;
    })
    (record { seq = opened.peer.seq; place = opened.peer.place; active = opened.peer.active })
    (guest_same role p (acked_session p count) s.groups t.groups v (record v { seen = v.seen + count; asking = false }) opened.guest groups refl refl refl refl refl) opened.reply in
    subst (λ (n : ℕ). EndCounts role slots queue t (record l { session = Some (record v { seen = v.seen + n; asking = false }); gone = l.gone + n })) (sym range) kept

hub_known : (role : Role) (p : NetSession) (groups : List (List ℕ)) (v : SessionLog) → role ≡ Responder → GuestCounts role p groups v → groups ≡ v.groups
hub_known role p groups v is counts = subst (λ (x : Role). GuestCounts x p groups v) is counts

peer_same : (slots : ℕ) (p q : NetSession) (v w : SessionLog) → PeerCounts slots p v → q.seq ≡ p.seq → q.place ≡ p.place → q.active ≡ p.active → w.asked ≡ v.asked → w.acks ≡ v.acks → w.taken ≡ v.taken
    → w.answered ≡ v.answered → PeerCounts slots q w
peer_same slots p q v w peer seq place activity asked acks taken answered = grind arith

names_counts : (role : Role) (slots : ℕ) (queue : List (List ℕ)) (s t : NetEndState) (l : EndLog) (p q : NetSession) (v : SessionLog) (bytes : List ℕ) → EndCounts role slots queue s l
    → SessionCounts role slots s.groups l.published l.gone None s.link.begun p v → unsaid t ≡ None → role ≡ Responder → q ≡ record p { reply = q.reply }
    → AnswersRightly q.reply (heard_kind slots GroupsInfo bytes v).owed → t.groups ≡ (heard_kind slots GroupsInfo bytes v).groups → t.slots ≡ s.slots → t.frames ≡ s.frames → t.next_id ≡ s.next_id → t.session ≡ Some q → EndCounts role slots queue t (heard_as slots bytes v l GroupsInfo)
names_counts role slots queue s t l p q v bytes counts opened left hub is answer known same frames next session =
    grind (arith, end_from, ring_same, peer_same)

told_counts : (role : Role) (slots : ℕ) (queue : List (List ℕ)) (s t : NetEndState) (l : EndLog) (p : NetSession) (v : SessionLog) (bytes : List ℕ) → EndCounts role slots queue s l
    → SessionCounts role slots s.groups l.published l.gone None s.link.begun p v → unsaid t ≡ None
    → t.slots ≡ s.slots → t.frames ≡ s.frames → t.next_id ≡ s.next_id → t.groups ≡ s.groups → t.session ≡ Some (record p { telling = false })
    → EndCounts role slots queue t (heard_as slots bytes v l GroupsAck)
told_counts role slots queue s t l p v bytes counts opened left same frames next groups session =
    grind (arith, end_from, groups_as, ring_same, peer_same, false_true)

-- a message that is none of these, and no message
pub stays_counts : (role : Role) (slots : ℕ) (queue : List (List ℕ)) (s t : NetEndState) (l : EndLog) (p : NetSession) (v : SessionLog) → EndCounts role slots queue s l
    → SessionCounts role slots s.groups l.published l.gone None s.link.begun p v → unsaid t ≡ None
    → t.slots ≡ s.slots → t.frames ≡ s.frames → t.next_id ≡ s.next_id → t.groups ≡ s.groups → t.session ≡ Some p
    → EndCounts role slots queue t (record l { session = Some v; gone = l.gone + 0 })
stays_counts role slots queue s t l p v counts opened left same frames next groups session = grind (arith, end_from, groups_as, ring_same, guest_same)

-- GROUPS that it was named: the list that comes of them, and the answer that it owes
record Named (bytes : List ℕ) (known groups : List (List ℕ)) (reply : GroupsReply) : Type 0 where
  groups_are : groups ≡ list_after (groups_after (set_of bytes) (count_of bytes) (seven_of bytes) known) known
  answers : AnswersFor reply (Some (answer_to bytes (groups_after (set_of bytes) (count_of bytes) (seven_of bytes) known)))

six_at : (n at : ℕ) (bytes : List ℕ) → at + 6 * n ≤ length bytes → AllByRecursion (λ (address : List ℕ). length address ≡ 6) (addresses_at at n bytes)
six_at zero at bytes within = tt
six_at (suc n) at bytes within = (omega (arith, length-take 6 (drop at bytes), length-drop at bytes, within), six_at n (at + 6) bytes (omega (arith, within)))

code_of : (behind : Option (List (List ℕ))) → subtype_code (reply_code behind) ≡ answer_code behind
code_of behind = grind arith

is_answer : (behind : Option (List (List ℕ))) → IsAnswer (reply_code behind)
is_answer behind = grind arith

named_counts : (bytes : List ℕ) (held known : List (List ℕ)) (set count : ℕ) (addresses groups : List (List ℕ)) (reply : GroupsReply) → length bytes ≡ 56 → SpellsBody bytes (Mcast set count addresses)
    → held ≡ known → IsKept held set count addresses groups reply → Named bytes known groups reply
named_counts bytes held known set count addresses groups reply long fields same kept =
    let behind : Option (List (List ℕ)) = groups_after (set_of bytes) (count_of bytes) (seven_of bytes) known in
    let there : IsKept known (set_of bytes) (count_of bytes) (seven_of bytes) groups reply = grind arith in
    let answer : GroupsReply = record { subtype = reply_code behind; set = set_of bytes; count = count_of bytes; addresses = seven_of bytes } in
    let answers : AnswersFor answer (Some (answer_to bytes behind)) =
    record {
      answer = is_answer behind;
      few = read_long 7 10 bytes;
      long = six_at 7 10 bytes (omega (arith, long));
      fields = ap (λ (n : ℕ). Some (record (groups_fields bytes) { subtype = n })) (sym (code_of behind));
    } in
    record { groups_are = there.groups_are; answers = subst (λ (r : GroupsReply). AnswersFor r (Some (answer_to bytes behind))) (sym there.reply_is) answers }

-- A MESSAGE
pub record Hearing (role : Role) (slots : ℕ) (queue : List (List ℕ)) (s : NetEndState) (l : EndLog) (p : NetSession) : Type 0 where
  pub counts : EndCounts role slots queue s l
  pub stands : FramesStand s
  pub session : s.session ≡ Some p
  pub idle : p.active ≡ None
  pub empty : s.link.to_send ≡ []

opened_of : (role : Role) (slots : ℕ) (queue : List (List ℕ)) (s : NetEndState) (l : EndLog) (p : NetSession) → Hearing role slots queue s l p
    → OpenCounts role slots s.groups l.published l.gone None s.link.begun p l.session
opened_of role slots queue s l p hearing = grind (arith, open_empty)

pub heard_counts : (role : Role) (slots : ℕ) (queue : List (List ℕ)) (s : NetEndState) (l : EndLog) (p : NetSession) (memory bytes : List ℕ) (m : Message) (t : NetEndState) (new : List ℕ)
    → Hearing role slots queue s l p → IsWellFormed m → SpellsMessage bytes m → MessageDoes role s p memory m.subtype m.body t new → EndCounts role slots queue t (hears_log slots (Some bytes) l)
heard_counts role slots queue s l p memory bytes m t new hearing form spells does = by_kind does
  where
    opened_here : OpenCounts role slots s.groups l.published l.gone None s.link.begun p l.session
    opened_here = opened_of role slots queue s l p hearing

    left_of_same : t.link ≡ s.link → unsaid t ≡ None
    left_of_same is = empty_unsaid t (ap (λ (x : LinkState). x.to_send) is ∙ hearing.empty)

    as_kind : (k : Spoken) → spoken bytes ≡ k → EndCounts role slots queue t (heard_as slots bytes opened_here.of_log l k) → EndCounts role slots queue t (hears_log slots (Some bytes) l)
    as_kind k kind counts = heard_log slots bytes opened_here.of_log l k (EndCounts role slots queue t) opened_here.is kind counts

    by_kind : MessageDoes role s p memory m.subtype m.body t new → EndCounts role slots queue t (hears_log slots (Some bytes) l)
    by_kind (Asks seq ident start end state kind body place stays is) =
        as_kind RangeInfo (spoken_of bytes m Info (DringData seq ident start end state) spells kind body)
        (asks_counts role slots queue s t l p opened_here.of_log bytes seq start hearing.counts opened_here.counts hearing.idle (left_of_same (ap (λ (x : NetEndState). x.link) is)) place.place place.seq_is
        (ap (λ (x : NetEndState). x.slots) is) (ap (λ (x : NetEndState). x.frames) is) (ap (λ (x : NetEndState). x.next_id) is) (ap (λ (x : NetEndState). x.groups) is) (ap (λ (x : NetEndState). x.session) is))
    by_kind (Acks seq ident start end state kind body begins inside most undone stays is) =
        let stood : CountsStand s p = subst (λ (x : Option NetSession). IfOpen x (CountsStand s)) hearing.session hearing.stands.session in
        let range : range_of slots bytes ≡ range_length s.slots start end = grind arith in
        as_kind RangeAck (spoken_of bytes m Ack (DringData seq ident start end state) spells kind body)
        (acks_counts role slots queue s t l p opened_here.of_log bytes (range_length s.slots start end) hearing.counts opened_here.counts (left_of_same (ap (λ (x : NetEndState). x.link) is)) range
        (omega (arith, most, stood.held)) (ap (λ (x : NetEndState). x.slots) is) (ap (λ (x : NetEndState). x.frames) is) (ap (λ (x : NetEndState). x.next_id) is) (ap (λ (x : NetEndState). x.groups) is)
        (ap (λ (x : NetEndState). x.session) is))
    by_kind (Names set count addresses groups reply answer hub kind body stays is) =
        let fields : SpellsBody bytes (Mcast set count addresses) = subst (SpellsBody bytes) body spells.body in
        let long : length bytes ≡ 56 = subst (HasLength (length bytes)) body spells.long in
        let v : SessionLog = opened_here.of_log in
        let named = named_counts bytes s.groups v.groups set count addresses groups reply long fields (hub_known role p s.groups v hub opened_here.counts.guest) answer in
        as_kind GroupsInfo (spoken_of bytes m Info (Mcast set count addresses) spells kind body)
        (names_counts role slots queue s t l p (replying reply p) v bytes hearing.counts opened_here.counts (left_of_same (ap (λ (x : NetEndState). x.link) is)) hub refl named.answers
        (ap (λ (x : NetEndState). x.groups) is ∙ named.groups_are)
        (ap (λ (x : NetEndState). x.slots) is) (ap (λ (x : NetEndState). x.frames) is) (ap (λ (x : NetEndState). x.next_id) is) (ap (λ (x : NetEndState). x.session) is))
    by_kind (Told set count addresses guest kind body telling stays is) =
        as_kind GroupsAck (spoken_of bytes m Ack (Mcast set count addresses) spells kind body)
        (told_counts role slots queue s t l p opened_here.of_log bytes hearing.counts opened_here.counts (left_of_same (ap (λ (x : NetEndState). x.link) is))
        (ap (λ (x : NetEndState). x.slots) is) (ap (λ (x : NetEndState). x.frames) is) (ap (λ (x : NetEndState). x.next_id) is) (ap (λ (x : NetEndState). x.groups) is) (ap (λ (x : NetEndState). x.session) is))
    by_kind (Declines h declined stays is) =
        as_kind Other (spoken_same bytes m spells ∙ declined_kind m.subtype m.body form declined)
        (stays_counts role slots queue s t l p opened_here.of_log hearing.counts opened_here.counts (left_of_same (ap (λ (x : NetEndState). x.link) is))
        (ap (λ (x : NetEndState). x.slots) is) (ap (λ (x : NetEndState). x.frames) is) (ap (λ (x : NetEndState). x.next_id) is) (ap (λ (x : NetEndState). x.groups) is)
        (ap (λ (x : NetEndState). x.session) is ∙ hearing.session))
