-- What is known of a server where a rule is its next step.
use Rattle.std.proofs.Common.{◌≡◌, ◌≢◌, ℕ, Bool, true, false, List, Option, Some, None, refl, sym, ap, ◌∙◌, subst, arith}
use Rattle.std.proofs.lemmas.Bool.Decides.{nat_tests}
use Rattle.std.specs.Prelude.{◌==◌, if◌then◌else◌, ⊤}
use Rattle.cookie_copy.specs.Faults.{is_up as is_configured}
use Rattle.ldc_link.specs.Putting.{owes}
use Rattle.vio_tag.specs.declared.message.Message.{Message}
use Rattle.lane_models.specs.Seeing.{Seen}
use Rattle.lane_models.specs.ServerRule.{Fetches, Joins, Puts, Idles, Says, ServerRule, Serves, Takes, answer, in_range, in_session, says, server_rule, serves, takes_first}
use Rattle.lane_models.specs.ServerState.{ServerSession, ServerState, SlotRange, Work}
use Rattle.vdisk_server.specs.Rules.{answer_owed, first_owed, in_hand, owed_message, ranged, session_owes}
use Rattle.vdisk_server.specs.Standing.{IsUnfinished}

-- a range is in work, and nothing else is to be done
pub record Working (s : ServerState) (session : ServerSession) (work : Option Work) : Type 0 where
  pub free : owes s.link ≡ false
  pub owed : s.handshake.owed ≡ None
  pub session_is : s.session ≡ Some session
  pub range : IsUnfinished session.range session
  pub work_is : s.work ≡ work

pub record Free (s : ServerState) : Type 0 where
  pub free : owes s.link ≡ false
  pub owed : s.handshake.owed ≡ None
  pub range : in_hand s.session ≡ None

pub record Owing (s : ServerState) (message : Message) : Type 0 where
  pub free : owes s.link ≡ false
  pub owed : owed_message s ≡ Some message

abbrev pub Known : ServerRule → ServerState → Type 0
Known Joins s = ⊤
Known Puts s = owes s.link ≡ true
Known (Says message) s = Owing s message
Known (Fetches session) s = Working s session None
Known (Serves session work) s = Working s session (Some work)
Known (Takes packet) s = Free s
Known Idles s = ⊤

takes_known : (s : ServerState) (first : Option (List ℕ)) → Free s → Known (takes_first first) s
takes_known s None free = tt
takes_known s (Some packet) free = free

serves_known : (s : ServerState) (session : ServerSession) (work : Option Work) → Working s session work → Known (serves session work) s
serves_known s session None working = working
serves_known s session (Some work) working = working

not_same : (a b : ℕ) → (a == b) ≡ false → a ≢ b
not_same a b test = grind (arith, nat_tests)

test_known : (s : ServerState) (session : ServerSession) (range : SlotRange) (test : Bool) → owes s.link ≡ false → s.handshake.owed ≡ None → s.session ≡ Some session
    → session.range ≡ Some range → (session.finished == session.asked) ≡ test → Known (if test then Says (answer s range) else serves session s.work) s
test_known s session range true free owed is ranged_is test = record {
  free = free;
  owed = ap (λ (o : Option Message). first_owed o (session_owes s s.session)) owed ∙ ap (λ (x : Option ServerSession). session_owes s x) is
      ∙ ap (λ (r : Option SlotRange). answer_owed s session r) ranged_is ∙ ap (λ (b : Bool). if b then Some (answer s range) else None) test;
}
test_known s session range false free owed is ranged_is test =
    serves_known s session s.work (record {
      free = free;
      owed = owed;
      session_is = is;
      range = subst (λ (r : Option SlotRange). IsUnfinished r session) (sym ranged_is) (not_same session.finished session.asked test);
      work_is = refl;
    })

range_known : (s : ServerState) (session : ServerSession) (range : Option SlotRange) (at : Seen) → owes s.link ≡ false → s.handshake.owed ≡ None → s.session ≡ Some session
    → session.range ≡ range → Known (in_range s session range at) s
range_known s session None at free owed is ranged_is =
    takes_known s at.first
    (record { free = free; owed = owed; range = ap in_hand is ∙ ap (λ (r : Option SlotRange). ranged session r) ranged_is })
range_known s session (Some range) at free owed is ranged_is = test_known s session range (session.finished == session.asked) free owed is ranged_is refl

session_known : (s : ServerState) (session : Option ServerSession) (at : Seen) → owes s.link ≡ false → s.handshake.owed ≡ None → s.session ≡ session
    → Known (in_session s session at) s
session_known s None at free owed is = takes_known s at.first (record { free = free; owed = owed; range = ap in_hand is })
session_known s (Some session) at free owed is = range_known s session session.range at free owed is refl

says_known : (s : ServerState) (owed : Option Message) (at : Seen) → owes s.link ≡ false → s.handshake.owed ≡ owed → Known (says s owed at) s
says_known s (Some message) at free owed = record { free = free; owed = ap (λ (o : Option Message). first_owed o (session_owes s s.session)) owed }
says_known s None at free owed = session_known s s.session at free owed refl

owes_known : (s : ServerState) (at : Seen) (test : Bool) → owes s.link ≡ test → Known (if test then Puts else says s s.handshake.owed at) s
owes_known s at true is = is
owes_known s at false is = says_known s s.handshake.owed at is refl

up_known : (s : ServerState) (at : Seen) (test : Bool) → Known (if test then (if owes s.link then Puts else says s s.handshake.owed at) else Joins) s
up_known s at true = owes_known s at (owes s.link) refl
up_known s at false = tt

pub rule_known : (s : ServerState) (at : Seen) → Known (server_rule s at) s
rule_known s at = up_known s at (is_configured at.state)

pub known_of : (s : ServerState) (at : Seen) (rule : ServerRule) → server_rule s at ≡ rule → Known rule s
known_of s at rule is = subst (λ (r : ServerRule). Known r s) is (rule_known s at)
