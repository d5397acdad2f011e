-- Where the causes of a kind's sessions are as the messages say, each cause that a packet has is as the packet says, and a gap names both numbers.
use Rattle.std.proofs.Common.{◌≡◌, ℕ, Bool, true, false, Option, Some, None, Ok, Err, List, ◌++◌, refl, sym, subst, inl, inr, ◌⊎◌}
use Rattle.std.specs.Prelude.{◌&&◌, ◌||◌, not, Result, if◌then◌else◌, nat_eq, ⊤}
use Rattle.std.proofs.lemmas.Bool.{eqb-true}
use Rattle.ldc_link.specs.Taking.{may_come}
use Rattle.ldc_packet.specs.declared.packet.PacketFault.{PacketFault}
use Rattle.ldc_packet.specs.Fault.{first_fault}
use Rattle.ldc_packet.specs.Spelling.{ctrl_at, env_at, seqid_at, type_at}
use Rattle.ldc_queue.specs.Fragments.{fragment_at, is_part}
use Rattle.ldc_queue.specs.Numbered.{is_numbered}
use Rattle.ldc_queue.specs.Transcript.{Utterance}
use Rattle.vio_handshake.specs.Rules.{is_declined}
use Rattle.vio_tag.proofs.Deciding.{some_result}
use Rattle.vio_tag.proofs.NoFault.{spelled_no_fault}
use Rattle.vio_tag.specs.declared.cause.Cause.{Cause}
use Rattle.vio_tag.specs.declared.cause.Cause.TheVariants as the_cause
use Rattle.vio_tag.specs.declared.message.Message.{Message}
use Rattle.vio_tag.specs.declared.message.MsgBody.{MsgBody}
use Rattle.vio_tag.specs.declared.message.MsgBody.TheVariants.{DringData, DringReg, Mcast}
use Rattle.vio_tag.specs.declared.message.TagFault.{TagFault}
use Rattle.vio_tag.specs.Decoding.{Decodes}
use Rattle.vio_tag.specs.Fault as message
use Rattle.vio_tag.specs.Spelling.{SpellsMessage}
use Rattle.lane_models.specs.Messages.{ended_by, whole_with}
use Rattle.lane_models.specs.ResetSays.{MessageSays, PacketSays}
use Rattle.lane_models.specs.Sayings.{count_heard, half_heard}
use Rattle.lane_models.specs.WireAt.{GapOf, counts_next}
use Rattle.lane_models.proofs.LinkResets.{other_number}
use Rattle.lane_models.proofs.Resets.{by_message}
use Rattle.lane_models.proofs.UtteranceCases.{EndsBy}
use Rattle.lane_models.specs.PacketCauses.{JudgesRightly, OwnSays, SomeSays, body_cause, decoded_cause, fault_cause, message_cause, mode_cause, names_mode, number_cause, packet_cause, part_cause}
use Rattle.lane_models.specs.Resetting.{SaysWhy}

-- TESTS
both_true : (b c : Bool) → (b && c) ≡ true → (b ≡ true) × (c ≡ true)
both_true true true is = (refl, refl)
both_true true false is = absurd (cc is)
both_true false c is = absurd (cc is)

not_true : (b : Bool) → not b ≡ true → b ≡ false
not_true false is = refl
not_true true is = absurd (cc is)

either_true : (b c : Bool) → (b || c) ≡ true → (b ≡ true) ⊎ (c ≡ true)
either_true true c is = inl refl
either_true false c is = inr is

whole_is : (b : Bool) (m bytes : List ℕ) → whole_with b m ≡ Some bytes → (b ≡ true) × (bytes ≡ m)
whole_is true m bytes is = let same : m ≡ bytes = cc is in (refl, sym same)
whole_is false m bytes is = absurd (cc is)

-- WHAT A CAUSE SAYS
abbrev SaysIfAny : List Utterance → List ℕ → Option Cause → Type 0
SaysIfAny turns packet None = ⊤
SaysIfAny turns packet (Some cause) = PacketSays turns packet cause × GapOf turns cause (Some packet)

says_if : (turns : List Utterance) (packet : List ℕ) (b : Bool) (one : Cause) (rest : Option Cause) → (b ≡ true → SaysIfAny turns packet (Some one)) → SaysIfAny turns packet rest
    → SaysIfAny turns packet (if b then Some one else rest)
says_if turns packet true one rest says others = says refl
says_if turns packet false one rest says others = others

by_why : (turns : List Utterance) (packet : List ℕ) (cause : Cause) → SaysWhy turns packet cause → SaysIfAny turns packet (Some cause)
by_why turns packet cause why = (why.says, why.gap)

-- THE MESSAGE that a packet ends
module _ (own : Message → Option Cause) (rightly : JudgesRightly own) (turns : List Utterance) (packet bytes : List ℕ) (sound : first_fault packet ≡ None) (ends : EndsBy turns packet bytes) where
  told : (cause : Cause) → MessageSays bytes cause → SaysIfAny turns packet (Some cause)
  told cause says = by_why turns packet cause (by_message turns packet bytes cause sound ends says)

  own_told : (cause : Cause) → OwnSays bytes cause → SaysIfAny turns packet (Some cause)
  own_told (the_cause.NotDone slot state) says = (sound, tt)
  own_told (the_cause.Tag fault) says = told (the_cause.Tag fault) says
  own_told (the_cause.Sid expected found) says = told (the_cause.Sid expected found) says
  own_told the_cause.Order says = told the_cause.Order says
  own_told the_cause.Refused says = told the_cause.Refused says
  own_told (the_cause.Ident expected found) says = told (the_cause.Ident expected found) says
  own_told (the_cause.Seq expected found) says = told (the_cause.Seq expected found) says
  own_told (the_cause.Slot expected found) says = told (the_cause.Slot expected found) says
  own_told (the_cause.RangeEnd found) says = told (the_cause.RangeEnd found) says
  own_told _ says = absurd says

  some_told : (answer : Option Cause) → SomeSays bytes answer → SaysIfAny turns packet answer
  some_told None says = tt
  some_told (Some cause) says = own_told cause says

  declined_told : (b : Bool) → message.first_fault bytes ≡ None → SaysIfAny turns packet (if b then None else Some the_cause.Order)
  declined_told true fine = tt
  declined_told false fine = told the_cause.Order fine

  body_told : (one : Message) (body : MsgBody) → message.first_fault bytes ≡ None → SpellsMessage bytes one → SaysIfAny turns packet (body_cause own one body)
  body_told one (DringData seq ident start end state) fine spells = some_told (own one) (rightly.says bytes one fine spells)
  body_told one (Mcast set count addresses) fine spells = some_told (own one) (rightly.says bytes one fine spells)
  body_told one (DringReg ident slots slot_size options count cookies) fine spells =
      declined_told (is_declined one.subtype (DringReg ident slots slot_size options count cookies)) fine
  body_told one body fine spells = declined_told (is_declined one.subtype body) fine

  sid_told : (b : Bool) (sid : ℕ) (one : Message) → b ≡ nat_eq sid one.sid → message.first_fault bytes ≡ None → SpellsMessage bytes one
      → SaysIfAny turns packet (if b then body_cause own one one.body else Some (the_cause.Sid sid one.sid))
  sid_told true sid one is fine spells = body_told one one.body fine spells
  sid_told false sid one is fine spells = told (the_cause.Sid sid one.sid) (fine, (spells.sid, other_number sid one.sid (sym is)))

  decoded_told : (sid : ℕ) (d : Result Message TagFault) → Decodes bytes d → SaysIfAny turns packet (decoded_cause own sid d)
  decoded_told sid (Err fault) decodes = told (the_cause.Tag fault) decodes.fault
  decoded_told sid (Ok one) decodes =
      sid_told (nat_eq sid one.sid) sid one refl (spelled_no_fault bytes one decodes.message.0 decodes.message.1) decodes.message.1

message_told : (own : Message → Option Cause) → JudgesRightly own → (sid : ℕ) (turns : List Utterance) (packet : List ℕ) (whole : Option (List ℕ)) → first_fault packet ≡ None
    → ended_by (half_heard turns) packet ≡ whole → SaysIfAny turns packet (message_cause own sid whole)
message_told own rightly sid turns packet None sound is = tt
message_told own rightly sid turns packet (Some bytes) sound is =
    let of = whole_is (is_part packet && (fragment_at packet).stop) (half_heard turns ++ (fragment_at packet).bytes) bytes is in
    let flags = both_true (is_part packet) (fragment_at packet).stop of.0 in
    decoded_told own rightly turns packet bytes sound (record { part = flags.0; stop = flags.1; is = of.1 }) sid (some_result bytes).0 (some_result bytes).1

-- THE PACKET
part_told : (turns : List Utterance) (packet : List ℕ) (part comes : Bool) (rest : Option Cause) → first_fault packet ≡ None → is_part packet ≡ part
    → may_come (half_heard turns) (fragment_at packet) ≡ comes → SaysIfAny turns packet rest → SaysIfAny turns packet (part_cause part comes rest)
part_told turns packet true true rest sound is may says = says
part_told turns packet true false rest sound is may says = ((sound, record { part = is; broken = may }), tt)
part_told turns packet false comes rest sound is may says = (sound, tt)

mode_told : (turns : List Utterance) (packet : List ℕ) (rest : Option Cause) → first_fault packet ≡ None → SaysIfAny turns packet rest
    → SaysIfAny turns packet (mode_cause (names_mode packet) (env_at packet) rest)
mode_told turns packet rest sound says =
    says_if turns packet (names_mode packet && not (nat_eq (env_at packet) 1)) (the_cause.Mode (env_at packet)) rest
    (λ test.
    let tests = both_true (names_mode packet) (not (nat_eq (env_at packet) 1)) test in
    let names = both_true (nat_eq (type_at packet) 1) (nat_eq (ctrl_at packet) 2 || nat_eq (ctrl_at packet) 3) tests.0 in (
      (
        sound,
        record {
          control = eqb-true (type_at packet) 1 names.0;
          kind = kind_of (either_true (nat_eq (ctrl_at packet) 2) (nat_eq (ctrl_at packet) 3) names.1);
          mode = refl;
          other = other_number (env_at packet) 1 (not_true (nat_eq (env_at packet) 1) tests.1);
        },
      ),
      tt,
    )) says
  where
    kind_of : (nat_eq (ctrl_at packet) 2 ≡ true) ⊎ (nat_eq (ctrl_at packet) 3 ≡ true) → (ctrl_at packet ≡ 2) ⊎ (ctrl_at packet ≡ 3)
    kind_of (inl is) = inl (eqb-true (ctrl_at packet) 2 is)
    kind_of (inr is) = inr (eqb-true (ctrl_at packet) 3 is)

number_told : (turns : List Utterance) (packet : List ℕ) (rest : Option Cause) → first_fault packet ≡ None → SaysIfAny turns packet rest
    → SaysIfAny turns packet (number_cause (is_numbered packet) (counts_next (count_heard turns)) (seqid_at packet) rest)
number_told turns packet rest sound says =
    let next = counts_next (count_heard turns) in
    says_if turns packet (is_numbered packet && not (nat_eq (seqid_at packet) next)) (the_cause.Gap next (seqid_at packet)) rest
    (λ test.
    let tests = both_true (is_numbered packet) (not (nat_eq (seqid_at packet) next)) test in
    let other = other_number (seqid_at packet) next (not_true (nat_eq (seqid_at packet) next) tests.1) in
    (sound, record { has_number = tests.0; next = refl; is = refl; other = λ same. other (sym same) })) says

fault_told : (turns : List Utterance) (packet : List ℕ) (fault : Option PacketFault) (rest : Option Cause) → first_fault packet ≡ fault → (first_fault packet ≡ None → SaysIfAny turns packet rest)
    → SaysIfAny turns packet (fault_cause fault rest)
fault_told turns packet (Some fault) rest is says = (is, tt)
fault_told turns packet None rest is says = says is

packet_told : (own : Message → Option Cause) → JudgesRightly own → (sid : ℕ) (turns : List Utterance) (packet : List ℕ) → SaysIfAny turns packet (packet_cause own sid turns packet)
packet_told own rightly sid turns packet = search (fault_told, number_told, mode_told, part_told, message_told)

pub cause_said : (own : Message → Option Cause) (sid : ℕ) (turns : List Utterance) (packet : List ℕ) (cause : Cause) → JudgesRightly own → packet_cause own sid turns packet ≡ Some cause
    → PacketSays turns packet cause × GapOf turns cause (Some packet)
cause_said own sid turns packet cause rightly is = subst (SaysIfAny turns packet) is (packet_told own rightly sid turns packet)
