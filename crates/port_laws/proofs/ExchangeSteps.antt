-- A step of either end of a port in session keeps what is known of all that is on the way.
use Rattle.std.proofs.Common.{◌≡◌, ℕ, ◌^◌, ◌<◌, ◌≤◌, Option, Some, None, List, [], ◌∷◌, ◌++◌, length, refl, sym, subst, ap, ◌∙◌, arith, length-append, append_assoc, drop_at}
use Rattle.std.proofs.lemmas.List.{append-nil, take_all}
use Rattle.ldc_link.specs.declared.phase.Role.TheVariants.{Initiator, Responder}
use Rattle.ldc_packet.specs.declared.packet.Subtype.TheVariants.{Info}
use Rattle.ldc_packet.specs.Spelling.{subtype_code}
use Rattle.ldc_queue.specs.OneStream.{IsFront}
use Rattle.ldc_queue.specs.Transcript.{Heard, Said, Utterance}
use Rattle.vio_tag.proofs.Canonical.{canonical_spells, length_canonical}
use Rattle.vio_tag.specs.declared.message.MsgBody.TheVariants.{Mcast}
use Rattle.vio_tag.specs.Spelling.{SpellsMessage, canonical}
use Rattle.lane_models.specs.Sayings.{heard, said}
use Rattle.lane_models.proofs.Refuting.{none_some}
use Rattle.lane_models.specs.Groups.{membership, seven}
use Rattle.lane_models.specs.NetEndPutting.{groups_answer}
use Rattle.lane_models.specs.NetEndState.{GroupsReply, NetEndState, NetSession}
use Rattle.lane_models.specs.Spoken.{addresses_of}
use Rattle.port_laws.specs.Counted.{AreGroups, unsaid}
use Rattle.port_laws.proofs.FormsOwn.{Formed, Kept, PutsIt, Ranged, Replied, Told}
use Rattle.port_laws.proofs.OwnBytes.{membership_reads, seven_six}
use Rattle.port_laws.proofs.Outbox.{SaysGroups, TellsSome, outbox, says_groups, unheard_more}
use Rattle.port_laws.proofs.ShortMessages.{seven_long}
use Rattle.port_laws.proofs.GroupsExchanged.{RepliesAgree, ReplyAgrees, ExchangeIn, guest_ranges, guest_tells, hub_ranges, hub_replies, reply_in}

-- THE OUTBOX
pub outbox_more : (s held : NetEndState) (mine theirs : List Utterance) (m : List ℕ) → unsaid s ≡ None → unsaid held ≡ Some m → outbox held mine theirs ≡ outbox s mine theirs ++ m ∷ []
outbox_more s held mine theirs m none now = grind (arith, append-nil)

-- what is put goes from the link on the way
pub outbox_put : (held t : NetEndState) (mine theirs : List Utterance) (packet : List ℕ) → PutsIt held t mine packet → IsFront (heard theirs) (said mine) → outbox t (Said packet ∷ mine) theirs ≡ outbox held mine theirs
outbox_put held t mine theirs packet puts front = grind (arith, unheard_more, append-nil)

-- what is heard leaves the other's
pub outbox_heard : (peer : NetEndState) (theirs mine : List Utterance) (packet m : List ℕ) → heard (Heard packet ∷ mine) ≡ heard mine ++ m ∷ [] → IsFront (heard mine ++ m ∷ []) (said theirs)
    → outbox peer theirs mine ≡ m ∷ outbox peer theirs (Heard packet ∷ mine)
outbox_heard peer theirs mine packet m is front = grind (arith, append_assoc, drop_at)

-- WHAT THE GUEST TELLS
record Member (sid : ℕ) (groups : List (List ℕ)) : Type 0 where
  says : SaysGroups Initiator sid (canonical (membership sid groups))
  tells : (known : ℕ) → known ≤ length groups → TellsSome groups known (canonical (membership sid groups))
  all : addresses_of (canonical (membership sid groups)) ≡ groups

member : (sid : ℕ) (groups : List (List ℕ)) → AreGroups groups → sid < 2 ^ 32 → Member sid groups
member sid groups are small =
    let few = are.few in
    let spells : SpellsMessage (canonical (membership sid groups)) (record { subtype = Info; sid = sid; body = Mcast 1 (length groups) (seven 7 groups) }) =
    canonical_spells (record { subtype = Info; sid = sid; body = Mcast 1 (length groups) (seven 7 groups) }) tt
    (small, (omega arith, omega (arith, few), seven_long 7 groups, seven_six 7 groups are.addresses)) in
    record {
      says = says_groups Initiator sid Info sid 1 (length groups) (seven 7 groups) refl spells.long;
      tells = λ known most. record {
        set = sym spells.body.0;
        few = subst (λ (n : ℕ). n ≤ 7) spells.body.1 few;
        many = length groups;
        is = membership_reads sid groups are ∙ sym (take_all (length groups) groups (omega arith));
        more = most;
        inside = omega arith;
      };
      all = membership_reads sid groups are;
    }

-- THE GUEST forms a message, or none
pub record GuestForms (held : NetEndState) (s : NetEndState) (sid : ℕ) (client server : List Utterance) (answers : List (List ℕ)) (session : Option NetSession) (known : List (List ℕ)) : Type 0 where
  pub q : NetSession
  pub session_is : held.session ≡ Some q
  pub groups : held.groups ≡ s.groups
  pub handshake : held.handshake ≡ s.handshake
  pub exchange : ExchangeIn sid s.groups q (outbox held client server) answers session known

pub guest_forms : (s held : NetEndState) (p : NetSession) (sid : ℕ) (client server : List Utterance) (answers : List (List ℕ)) (session : Option NetSession) (known : List (List ℕ)) → s.session ≡ Some p
    → AreGroups s.groups → sid < 2 ^ 32 → s.handshake.draft.sid ≡ sid → Formed Initiator sid s p held → ExchangeIn sid s.groups p (outbox s client server) answers session known
    → GuestForms held s sid client server answers session known
guest_forms s held p sid client server answers session known is are small draft (Kept same) exchange = record {
  q = p;
  session_is = ap (λ (x : NetEndState). x.session) same ∙ is;
  groups = ap (λ (x : NetEndState). x.groups) same;
  handshake = ap (λ (x : NetEndState). x.handshake) same;
  exchange = subst (λ (x : NetEndState). ExchangeIn sid s.groups p (outbox x client server) answers session known) (sym same) exchange;
}
guest_forms s held p sid client server answers session known is are small draft (Ranged m q forms says telling reply untold) exchange = record {
  q = q;
  session_is = forms.session;
  groups = forms.groups;
  handshake = forms.handshake;
  exchange = subst (λ (xs : List (List ℕ)). ExchangeIn sid s.groups q xs answers session known) (sym (outbox_more s held client server m forms.none forms.now))
      (guest_ranges sid s.groups p q (outbox s client server) answers session known m says telling reply untold exchange);
}
guest_forms s held p sid client server answers session known is are small draft (Replied m q r forms owes same none telling) exchange = none_some r (sym exchange.quiet ∙ owes)
guest_forms s held p sid client server answers session known is are small draft (Told m q forms role same before now reply) exchange =
    let here : m ≡ canonical (membership sid s.groups) = same ∙ ap (λ (n : ℕ). canonical (membership n s.groups)) draft in
    let one = member sid s.groups are small in
    record {
      q = q;
      session_is = forms.session;
      groups = forms.groups;
      handshake = forms.handshake;
      exchange = subst (λ (xs : List (List ℕ)). ExchangeIn sid s.groups q xs answers session known) (sym (outbox_more s held client server m forms.none forms.now))
          (guest_tells sid s.groups p q (outbox s client server) answers session known m (subst (SaysGroups Initiator sid) (sym here) one.says)
          (λ n most. subst (TellsSome s.groups n) (sym here) (one.tells n most)) (ap addresses_of here ∙ one.all) before now reply exchange);
    }

-- THE SWITCH'S END forms a message, or none
pub record HubForms (held : NetEndState) (s : NetEndState) (sid : ℕ) (groups : List (List ℕ)) (p : NetSession) (asks : List (List ℕ)) (client server : List Utterance) : Type 0 where
  pub q : NetSession
  pub session_is : held.session ≡ Some q
  pub groups_are : held.groups ≡ s.groups
  pub handshake : held.handshake ≡ s.handshake
  pub exchange : ExchangeIn sid groups p asks (outbox held server client) held.session s.groups

in_reply : (session : Option NetSession) (q : NetSession) → session ≡ Some q → reply_in session ≡ q.reply
in_reply session q is = ap reply_in is

answer_long : (s : NetEndState) (r : GroupsReply) → ReplyAgrees r → length (canonical (groups_answer s r)) ≡ 56
answer_long s r agrees = grind (arith, length_canonical, length-append)

pub hub_forms : (s held : NetEndState) (q : NetSession) (sid : ℕ) (groups : List (List ℕ)) (p : NetSession) (asks : List (List ℕ)) (client server : List Utterance) → s.session ≡ Some q
    → Formed Responder sid s q held → ExchangeIn sid groups p asks (outbox s server client) s.session s.groups → HubForms held s sid groups p asks client server
hub_forms s held q sid groups p asks client server is (Kept same) exchange = record {
  q = q;
  session_is = ap (λ (x : NetEndState). x.session) same ∙ is;
  groups_are = ap (λ (x : NetEndState). x.groups) same;
  handshake = ap (λ (x : NetEndState). x.handshake) same;
  exchange = subst (λ (x : NetEndState). ExchangeIn sid groups p asks (outbox x server client) x.session s.groups) (sym same) exchange;
}
hub_forms s held q sid groups p asks client server is (Ranged m now forms says telling reply untold) exchange = record {
  q = now;
  session_is = forms.session;
  groups_are = forms.groups;
  handshake = forms.handshake;
  exchange = subst (λ (xs : List (List ℕ)). ExchangeIn sid groups p asks xs held.session s.groups) (sym (outbox_more s held server client m forms.none forms.now))
      (hub_ranges sid groups p asks (outbox s server client) s.session held.session s.groups m says.fits says.none
      (in_reply held.session now forms.session ∙ reply ∙ sym (in_reply s.session q is)) exchange);
}
hub_forms s held q sid groups p asks client server is (Replied m now r forms owes same none telling) exchange =
    let owed : reply_in s.session ≡ Some r = in_reply s.session q is ∙ owes in
    let agrees : ReplyAgrees r = subst RepliesAgree owed exchange.reply in
    let says : SaysGroups Responder sid m =
    subst (SaysGroups Responder sid) (sym same)
    (says_groups Responder sid r.subtype s.handshake.draft.sid r.set r.count r.addresses (ap subtype_code agrees.subtype) (answer_long s r agrees)) in
    record {
      q = now;
      session_is = forms.session;
      groups_are = forms.groups;
      handshake = forms.handshake;
      exchange = subst (λ (xs : List (List ℕ)). ExchangeIn sid groups p asks xs held.session s.groups) (sym (outbox_more s held server client m forms.none forms.now))
          (hub_replies sid groups p asks (outbox s server client) s.session held.session s.groups m r says owed (in_reply held.session now forms.session ∙ none) exchange);
    }
hub_forms s held q sid groups p asks client server is (Told m now forms role same before telling reply) exchange = absurd (cc role)
