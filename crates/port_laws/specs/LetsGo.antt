-- What a message of a session lets go of an end's frames: an ACK those that it names, and no other message any.
use Rattle.std.specs.Prelude.{◌≡◌, ℕ, ◌+◌, ◌-◌, ◌≤◌, Bool, true, false, length, drop, Option, Some, None, ⊤}
use Rattle.ldc_packet.specs.declared.packet.Subtype.{Subtype}
use Rattle.ldc_packet.specs.declared.packet.Subtype.TheVariants.{Ack}
use Rattle.vio_tag.specs.declared.message.MsgBody.{MsgBody}
use Rattle.vio_tag.specs.declared.message.MsgBody.TheVariants.{DringData}
use Rattle.dring.specs.Slots.{range_length}
use Rattle.lane_models.specs.Standing.{is_open_in}
use Rattle.lane_models.specs.NetEndState.{NetEndState, NetSession, first_id, opened_session}
use Rattle.lane_models.specs.NetEndTaking.{GoesOn, NetTake, Resets}

-- so many frames an ACK names
abbrev pub acks : ℕ → MsgBody → Subtype → ℕ
acks slots (DringData seq ident start end state) Ack = range_length slots start end
acks slots _ _ = 0

-- an end in a session whose counts stand in their order
pub record SessionInOrder (s : NetEndState) (p : NetSession) : Type 0 where
  pub session : s.session ≡ Some p
  pub opened : is_open_in s.handshake.phase ≡ true
  pub seen : p.seen ≤ p.published
  pub held : p.published - p.seen ≤ length s.frames

-- it goes on in the same session, and so many of its published frames left: those that it had held longest
pub record LetsGo (s : NetEndState) (p : NetSession) (n : ℕ) (t : NetEndState) (opens : Bool) : Type 0 where
  pub after : NetSession
  pub session : t.session ≡ Some after
  pub base : after.base ≡ p.base
  pub published : after.published ≡ p.published
  pub seen : after.seen ≡ p.seen + n
  pub within : n ≤ length s.frames
  pub frames : t.frames ≡ drop n s.frames
  pub next : t.next_id ≡ s.next_id
  pub shut : opens ≡ false

abbrev pub TakeLetsGo : NetEndState → NetSession → ℕ → NetTake → Type 0
TakeLetsGo s p n (GoesOn t opens memory) = LetsGo s p n t opens
TakeLetsGo s p n (Resets cause) = ⊤

-- without a session no frame leaves, and one may open, with the first frame that is held
abbrev pub OpenOr : NetEndState → Bool → Option NetSession → Type 0
OpenOr s false session = session ≡ None
OpenOr s true session = session ≡ Some (opened_session (first_id s))

pub record LetsNoneGo (s t : NetEndState) (opens : Bool) : Type 0 where
  pub frames : t.frames ≡ s.frames
  pub next : t.next_id ≡ s.next_id
  pub session : OpenOr s opens t.session

abbrev pub TakeLetsNoneGo : NetEndState → NetTake → Type 0
TakeLetsNoneGo s (GoesOn t opens memory) = LetsNoneGo s t opens
TakeLetsNoneGo s (Resets cause) = ⊤
