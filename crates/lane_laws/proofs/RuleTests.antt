-- WHICH RULE IS AN END'S NEXT STEP: all that was tested on the way to it, by one walk down each end's rules.
use Rattle.std.proofs.Common.{◌≡◌, ◌≢◌, ℕ, ◌-◌, ◌<◌, ◌⊎◌, Bool, true, false, Option, Some, None, List, inl, inr, refl, sym, ◌∙◌, subst, arith}
use Rattle.std.specs.Prelude.{◌==◌, if◌then◌else◌, is_some, nat_lt, slice_get}
use Rattle.std.proofs.lemmas.Bool.{ltb-true}
use Rattle.lane_models.proofs.Apart.{none_is_some, some_same}
use Rattle.lane_models.specs.Seeing.{Seen}
use Rattle.cookie_copy.specs.Faults.{is_up}
use Rattle.lane_models.specs.ClientRule as client
use Rattle.lane_models.specs.ClientState.{ClientSession, ClientState}
use Rattle.lane_models.specs.ServerRule as server
use Rattle.lane_models.specs.ServerState.{ServerSession, ServerState, SlotRange}
use Rattle.ldc_link.specs.declared.phase.LinkPhase.{LinkPhase}
use Rattle.ldc_link.specs.LinkState.{LinkState}
use Rattle.ldc_link.specs.Putting.{owed_in, owes, owes_in}
use Rattle.ldc_queue.specs.declared.end.ChannelState.{ChannelState}
use Rattle.ldc_queue.specs.declared.end.ChannelState.TheVariants.{Up}
use Rattle.vdisk_msg.specs.declared.request.Request.{Request}
use Rattle.vio_tag.specs.declared.message.Message.{Message}

up_is : (e : ChannelState) → is_up e ≡ true → e ≡ Up
up_is e up = grind arith

not_up : (e : ChannelState) → is_up e ≡ false → e ≢ Up
not_up Up down up = absurd (cc)
not_up _ down up = absurd (cc)

-- a packet of the link's handshake is one that is owed
pub control_in : (ph : LinkPhase) (k : LinkState) → owes_in ph ≡ true → is_some (owed_in ph k) ≡ true
control_in ph k is = grind arith

-- THE CLIENT: all that is acknowledged is completed, and all that is pending published
abbrev pub CompletedAll : ClientState → Type 0
CompletedAll s = (session : ClientSession) → s.session ≡ Some session → nat_lt session.completed session.acked ≡ false

abbrev pub PublishedAll : ClientState → ClientSession → Type 0
PublishedAll s session = slice_get s.pending (session.published - session.completed) ≡ None

-- it puts where that is urgent, or where nothing waits for it
pub record PutsNow (s : ClientState) (at : Seen) : Type 0 where
  pub up : at.state ≡ Up
  pub completed : CompletedAll s
  pub turn : (client.is_urgent s ≡ true) ⊎ (at.first ≡ None)

-- neither its link nor its handshake owes anything, so that nothing is urgent
pub record OwesNone (s : ClientState) (at : Seen) : Type 0 where
  pub up : at.state ≡ Up
  pub completed : CompletedAll s
  pub first : at.first ≡ None
  pub free : owes s.link ≡ false
  pub owed : s.handshake.owed ≡ None

pub record HasDone (s : ClientState) (session : ClientSession) : Type 0 where
  pub announced : nat_lt session.announced session.published ≡ false
  pub published : PublishedAll s session

pub record ClientIdles (s : ClientState) (at : Seen) : Type 0 where
  pub rests : OwesNone s at
  pub session : (session : ClientSession) → s.session ≡ Some session → HasDone s session

abbrev pub ClientTested : ClientState → Seen → client.ClientRule → Type 0
ClientTested s at client.Joins = at.state ≢ Up
ClientTested s at (client.Completes session) = (at.state ≡ Up) × (s.session ≡ Some session) × (session.completed < session.acked)
ClientTested s at (client.Takes packet) = (at.state ≡ Up) × CompletedAll s × (client.is_urgent s ≡ false) × (at.first ≡ Some packet)
ClientTested s at client.Puts = PutsNow s at × (owes s.link ≡ true)
ClientTested s at (client.Says message) = PutsNow s at × (owes s.link ≡ false) × (s.handshake.owed ≡ Some message)
ClientTested s at (client.Publishes session request) =
    OwesNone s at × (s.session ≡ Some session) × (slice_get s.pending (session.published - session.completed) ≡ Some request)
ClientTested s at (client.Announces session) = OwesNone s at × (s.session ≡ Some session) × PublishedAll s session × (session.announced < session.published)
ClientTested s at client.Idles = ClientIdles s at

-- down its rules, the last first
announces_tested : (s : ClientState) (at : Seen) (session : ClientSession) (b : Bool) → OwesNone s at → s.session ≡ Some session → PublishedAll s session → nat_lt session.announced session.published ≡ b
    → ClientTested s at (if b then client.Announces session else client.Idles)
announces_tested s at session true rests is published test = (rests, is, published, ltb-true session.announced session.published test)
announces_tested s at session false rests is published test = record {
  rests = rests;
  session = λ other now. subst (HasDone s) (some_same (sym is ∙ now)) (record { announced = test; published = published });
}

publishes_tested : (s : ClientState) (at : Seen) (session : ClientSession) (next : Option Request) → OwesNone s at → s.session ≡ Some session
    → slice_get s.pending (session.published - session.completed) ≡ next → ClientTested s at (client.publishes session next)
publishes_tested s at session None rests is next = announces_tested s at session (nat_lt session.announced session.published) rests is next refl
publishes_tested s at session (Some request) rests is next = (rests, is, next)

session_tested : (s : ClientState) (at : Seen) (open_one : Option ClientSession) → OwesNone s at → s.session ≡ open_one → ClientTested s at (client.in_session s open_one)
session_tested s at None rests is = record { rests = rests; session = λ session now. none_is_some (sym is ∙ now) }
session_tested s at (Some session) rests is = publishes_tested s at session (slice_get s.pending (session.published - session.completed)) rests is refl

nothing_first : (s : ClientState) (at : Seen) → PutsNow s at → owes s.link ≡ false → s.handshake.owed ≡ None → at.first ≡ None
nothing_first s at now free none = grind arith

says_tested : (s : ClientState) (at : Seen) (owed : Option Message) → PutsNow s at → owes s.link ≡ false → s.handshake.owed ≡ owed → ClientTested s at (client.says s owed)
says_tested s at None now free is =
    session_tested s at s.session (record { up = now.up; completed = now.completed; first = nothing_first s at now free is; free = free; owed = is }) refl
says_tested s at (Some message) now free is = (now, free, is)

puts_tested : (s : ClientState) (at : Seen) (b : Bool) → PutsNow s at → owes s.link ≡ b → ClientTested s at (if b then client.Puts else client.says s s.handshake.owed)
puts_tested s at true now test = (now, test)
puts_tested s at false now test = says_tested s at s.handshake.owed now test refl

takes_tested : (s : ClientState) (at : Seen) (first : Option (List ℕ)) → at.state ≡ Up → CompletedAll s → client.is_urgent s ≡ false → at.first ≡ first
    → ClientTested s at (client.takes_first first (client.puts_first s))
takes_tested s at None up all calm is = puts_tested s at (owes s.link) (record { up = up; completed = all; turn = inr is }) refl
takes_tested s at (Some packet) up all calm is = (up, all, calm, is)

urgent_tested : (s : ClientState) (at : Seen) (b : Bool) → at.state ≡ Up → CompletedAll s → client.is_urgent s ≡ b
    → ClientTested s at (if b then client.puts_first s else client.takes_first at.first (client.puts_first s))
urgent_tested s at true up all test = puts_tested s at (owes s.link) (record { up = up; completed = all; turn = inl test }) refl
urgent_tested s at false up all test = takes_tested s at at.first up all test refl

completes_tested : (s : ClientState) (at : Seen) (session : ClientSession) (b : Bool) → at.state ≡ Up → s.session ≡ Some session → nat_lt session.completed session.acked ≡ b
    → ClientTested s at (if b then client.Completes session else client.puts_or_takes s at)
completes_tested s at session true up is test = (up, is, ltb-true session.completed session.acked test)
completes_tested s at session false up is test =
    urgent_tested s at (client.is_urgent s) up (λ other now. subst (λ (x : ClientSession). nat_lt x.completed x.acked ≡ false) (some_same (sym is ∙ now)) test) refl

open_tested : (s : ClientState) (at : Seen) (open_one : Option ClientSession) → at.state ≡ Up → s.session ≡ open_one
    → ClientTested s at (client.completes_first open_one (client.puts_or_takes s at))
open_tested s at None up is = urgent_tested s at (client.is_urgent s) up (λ session now. none_is_some (sym is ∙ now)) refl
open_tested s at (Some session) up is = completes_tested s at session (nat_lt session.completed session.acked) up is refl

up_tested : (s : ClientState) (at : Seen) (b : Bool) → is_up at.state ≡ b → ClientTested s at (if b then client.completes_first s.session (client.puts_or_takes s at) else client.Joins)
up_tested s at true test = open_tested s at s.session (up_is at.state test) refl
up_tested s at false test = not_up at.state test

pub client_tested : (s : ClientState) (at : Seen) → ClientTested s at (client.client_rule s at)
client_tested s at = up_tested s at (is_up at.state) refl

pub client_test : (s : ClientState) (at : Seen) (rule : client.ClientRule) → client.client_rule s at ≡ rule → ClientTested s at rule
client_test s at rule is = subst (ClientTested s at) is (client_tested s at)

-- THE SERVER answers a range whose descriptors are all finished, and serves one that isn't
pub record ServesFree (s : ServerState) (session : ServerSession) : Type 0 where
  pub free : owes s.link ≡ false
  pub owed : s.handshake.owed ≡ None
  pub session_is : s.session ≡ Some session
  pub unfinished : (session.finished == session.asked) ≡ false

pub record TakesFree (s : ServerState) : Type 0 where
  pub free : owes s.link ≡ false
  pub owed : s.handshake.owed ≡ None
  pub range : (session : ServerSession) → s.session ≡ Some session → session.range ≡ None

pub record AnswersFree (s : ServerState) (message : Message) : Type 0 where
  pub session : ServerSession
  pub range : SlotRange
  pub owed : s.handshake.owed ≡ None
  pub session_is : s.session ≡ Some session
  pub range_is : session.range ≡ Some range
  pub finished : session.finished ≡ session.asked
  pub message_is : message ≡ server.answer s range

abbrev pub ServerTested : ServerState → Seen → server.ServerRule → Type 0
ServerTested s at server.Joins = at.state ≢ Up
ServerTested s at server.Puts = (at.state ≡ Up) × (owes s.link ≡ true)
ServerTested s at (server.Says message) = (at.state ≡ Up) × (owes s.link ≡ false) × ((s.handshake.owed ≡ Some message) ⊎ AnswersFree s message)
ServerTested s at (server.Fetches session) = (at.state ≡ Up) × ServesFree s session × (s.work ≡ None)
ServerTested s at (server.Serves session work) = (at.state ≡ Up) × ServesFree s session × (s.work ≡ Some work)
ServerTested s at (server.Takes packet) = (at.state ≡ Up) × TakesFree s × (at.first ≡ Some packet)
ServerTested s at server.Idles = (at.state ≡ Up) × TakesFree s × (at.first ≡ None)

first_served : (s : ServerState) (at : Seen) (first : Option (List ℕ)) → at.state ≡ Up → TakesFree s → at.first ≡ first → ServerTested s at (server.takes_first first)
first_served s at None up free is = (up, free, is)
first_served s at (Some packet) up free is = (up, free, is)

ranges_served : (s : ServerState) (at : Seen) (session : ServerSession) (range : Option SlotRange) → at.state ≡ Up → owes s.link ≡ false → s.handshake.owed ≡ None → s.session ≡ Some session
    → session.range ≡ range → ServerTested s at (server.in_range s session range at)
ranges_served s at session range up free none is ranged = grind arith

session_served : (s : ServerState) (at : Seen) (open_one : Option ServerSession) → at.state ≡ Up → owes s.link ≡ false → s.handshake.owed ≡ None → s.session ≡ open_one
    → ServerTested s at (server.in_session s open_one at)
session_served s at None up free none is = first_served s at at.first up (record { free = free; owed = none; range = λ session now. none_is_some (sym is ∙ now) }) refl
session_served s at (Some session) up free none is = ranges_served s at session session.range up free none is refl

owed_served : (s : ServerState) (at : Seen) (owed : Option Message) → at.state ≡ Up → owes s.link ≡ false → s.handshake.owed ≡ owed → ServerTested s at (server.says s owed at)
owed_served s at (Some message) up free is = (up, free, inl is)
owed_served s at None up free is = session_served s at s.session up free is refl

puts_served : (s : ServerState) (at : Seen) (b : Bool) → at.state ≡ Up → owes s.link ≡ b → ServerTested s at (if b then server.Puts else server.says s s.handshake.owed at)
puts_served s at true up test = (up, test)
puts_served s at false up test = owed_served s at s.handshake.owed up test refl

up_served : (s : ServerState) (at : Seen) (b : Bool) → is_up at.state ≡ b
    → ServerTested s at (if b then (if owes s.link then server.Puts else server.says s s.handshake.owed at) else server.Joins)
up_served s at true test = puts_served s at (owes s.link) (up_is at.state test) refl
up_served s at false test = not_up at.state test

pub server_tested : (s : ServerState) (at : Seen) → ServerTested s at (server.server_rule s at)
server_tested s at = up_served s at (is_up at.state) refl
