-- What an end of a port makes of a message is what any end on a channel makes of it.
use Rattle.std.proofs.Common.{◌≡◌, ℕ, ◌⊎◌, Bool, true, false, Option, Some, None, List, length, sym, subst, ap, inr, arith}
use Rattle.std.specs.Prelude.{◌≤◌, is_some, if◌then◌else◌, ⊤}
use Rattle.ldc_link.specs.declared.phase.Role.{Role}
use Rattle.ldc_link.specs.declared.phase.Role.TheVariants.{Initiator, Responder}
use Rattle.ldc_packet.specs.declared.packet.Subtype.{Subtype}
use Rattle.vio_handshake.specs.declared.handshake.Handshake.{Handshake}
use Rattle.vio_handshake.specs.Rules.{Faults, GoesOpen, HandshakeTake, handshake_take, sid_fault}
use Rattle.vio_tag.specs.declared.cause.Cause.{Cause}
use Rattle.vio_tag.specs.declared.message.Message.{Message}
use Rattle.vio_tag.specs.declared.message.MsgBody.{MsgBody}
use Rattle.vio_tag.specs.declared.message.MsgBody.TheVariants.{Mcast}
use Rattle.lane_models.specs.EndStep.{HandshakeTakes, HearsOwn, IsOfSession, IsOwnMessage}
use Rattle.lane_models.specs.NetEndState.{NetEndState, NetSession}
use Rattle.lane_models.specs.NetEndTaking.{GoesOn, NetTake, Resets, by_handshake, hears_message, in_session, opens_by_take, refused, sid_first, takes_done, takes_groups, takes_info, told}
use Rattle.port_laws.specs.NetCore.{net_core}
use Rattle.port_laws.specs.NetFits.{AddressesAreShort, NetFits, SessionFits}

-- addresses of a message are short
abbrev pub BodyFits : MsgBody → Type 0
BodyFits (Mcast set count addresses) = (length addresses ≤ 7) × AddressesAreShort addresses
BodyFits _ = ⊤

-- THE END that goes on from one behind a message
pub record GoesFrom (role : Role) (s : NetEndState) (message : Message) (t : NetEndState) (opens : Bool) : Type 0 where
  pub link : t.link ≡ s.link
  pub address : t.address ≡ s.address
  pub slots : t.slots ≡ s.slots
  pub groups : role ≡ Initiator → t.groups ≡ s.groups
  pub fits : NetFits role t
  pub hears : HandshakeTakes role (is_some s.session) (handshake_take s.handshake message) opens (net_core role t)
      ⊎ HearsOwn s.handshake (is_some s.session) message opens (net_core role t)

abbrev pub TakeGoes : Role → NetEndState → Message → NetTake → Type 0
TakeGoes role s message (GoesOn t opens memory) = GoesFrom role s message t opens
TakeGoes role s message (Resets cause) = (handshake_take s.handshake message ≡ Faults cause) ⊎ IsOwnMessage s.handshake (is_some s.session) message

take_if : (role : Role) (s : NetEndState) (message : Message) (b : Bool) (one other : NetTake) → TakeGoes role s message one → TakeGoes role s message other
    → TakeGoes role s message (if b then one else other)
take_if role s message b one other goes rest = grind arith

-- A MESSAGE OF THE HANDSHAKE
opens_goes : (role : Role) (s : NetEndState) (message : Message) (memory : List ℕ) (h : Handshake) → NetFits role s → handshake_take s.handshake message ≡ GoesOpen h
    → TakeGoes role s message (opens_by_take role (record s { handshake = h }) memory)
opens_goes role s message memory h given is = grind arith

handshake_goes : (role : Role) (s : NetEndState) (message : Message) (memory : List ℕ) (take : HandshakeTake) → NetFits role s → handshake_take s.handshake message ≡ take
    → TakeGoes role s message (by_handshake role s memory take)
handshake_goes role s message memory take given is = grind (arith, opens_goes)

-- A MESSAGE OF THE SESSION, which stays open: its reply is as before, or fits
pub record OwnMessage (s : NetEndState) (message : Message) (p : NetSession) : Type 0 where
  pub session : s.session ≡ Some p
  pub sid : sid_fault s.handshake.sid message.sid ≡ None
  pub body : IsOfSession message.body

own_is : (s : NetEndState) (message : Message) (p : NetSession) → OwnMessage s message p → IsOwnMessage s.handshake (is_some s.session) message
own_is s message p own = record { opened = ap (λ (x : Option NetSession). is_some x) own.session; sid = own.sid; body = own.body }

reply_fits : (role : Role) (s : NetEndState) (p : NetSession) → NetFits role s → s.session ≡ Some p → SessionFits (Some p)
reply_fits role s p fits is = subst SessionFits is fits.session

goes_own : (role : Role) (s : NetEndState) (message : Message) (p : NetSession) (t : NetEndState) → OwnMessage s message p → t.link ≡ s.link → t.handshake ≡ s.handshake
    → t.address ≡ s.address → t.slots ≡ s.slots → (role ≡ Initiator → t.groups ≡ s.groups) → is_some t.session ≡ true → NetFits role t → GoesFrom role s message t false
goes_own role s message p t own link handshake address slots groups opened given = grind (arith, own_is)

resets_own : (role : Role) (s : NetEndState) (message : Message) (p : NetSession) (cause : Cause) → OwnMessage s message p → TakeGoes role s message (Resets cause)
resets_own role s message p cause own = inr (own_is s message p own)

info_goes : (role : Role) (s : NetEndState) (message : Message) (p : NetSession) (memory : List ℕ) (seq ident start end : ℕ) → NetFits role s → OwnMessage s message p
    → TakeGoes role s message (takes_info s p memory seq ident start end)
info_goes role s message p memory seq ident start end given own = grind (arith, take_if, resets_own, goes_own, reply_fits)

done_goes : (role : Role) (s : NetEndState) (message : Message) (p : NetSession) (memory : List ℕ) (count : ℕ) (fault : Option Cause) → NetFits role s → OwnMessage s message p
    → TakeGoes role s message (takes_done s p memory count fault)
done_goes role s message p memory count fault given own = grind (arith, resets_own, goes_own, reply_fits)

groups_goes : (s : NetEndState) (message : Message) (p : NetSession) (memory : List ℕ) (set count : ℕ) (addresses : List (List ℕ)) (groups : Option (List (List ℕ))) → OwnMessage s message p
    → (length addresses ≤ 7) × AddressesAreShort addresses → TakeGoes Responder s message (takes_groups s p memory set count addresses groups)
groups_goes s message p memory set count addresses groups own short = grind (arith, goes_own)

told_goes : (role : Role) (s : NetEndState) (message : Message) (p : NetSession) (memory : List ℕ) → NetFits role s → OwnMessage s message p → TakeGoes role s message (told s p memory)
told_goes role s message p memory given own = grind (arith, take_if, goes_own, reply_fits, resets_own)

refused_goes : (role : Role) (s : NetEndState) (message : Message) (p : NetSession) → OwnMessage s message p → TakeGoes role s message (refused p)
refused_goes role s message p own = grind (arith, take_if, resets_own)

-- a body that is of the session
of_body : (s : NetEndState) (message : Message) (p : NetSession) (b : MsgBody) → s.session ≡ Some p → sid_fault s.handshake.sid message.sid ≡ None → message.body ≡ b → IsOfSession b
    → OwnMessage s message p
of_body s message p b session sid is of_session = record { session = session; sid = sid; body = subst IsOfSession (sym is) of_session }

in_goes : (role : Role) (s : NetEndState) (p : NetSession) (memory : List ℕ) (message : Message) (subtype : Subtype) (b : MsgBody) → NetFits role s → BodyFits b
    → s.session ≡ Some p → sid_fault s.handshake.sid message.sid ≡ None → message.body ≡ b
    → TakeGoes role s message (in_session role s p memory message subtype b)
in_goes role s p memory message subtype b given short session sid is =
    grind (arith, info_goes, of_body, take_if, resets_own, done_goes, groups_goes, told_goes, refused_goes, handshake_goes)

sid_goes : (role : Role) (s : NetEndState) (message : Message) (fault : Option Cause) (rest : NetTake) → sid_fault s.handshake.sid message.sid ≡ fault
    → (sid_fault s.handshake.sid message.sid ≡ None → TakeGoes role s message rest) → TakeGoes role s message (sid_first fault rest)
sid_goes role s message fault rest is goes = grind arith

-- what an end makes of a message
pub message_goes : (role : Role) (s : NetEndState) (memory : List ℕ) (session : Option NetSession) (message : Message) → NetFits role s → BodyFits message.body → s.session ≡ session
    → TakeGoes role s message (hears_message role s memory session message)
message_goes role s memory session message given short is = grind (arith, handshake_goes, sid_goes, in_goes)
