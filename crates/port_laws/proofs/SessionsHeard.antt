-- What an end's log says of its open session, by what the end said and heard: its sid is that of the sixth message that the initiator says, and
-- a frame is taken only once a message of the session was heard.
use Rattle.std.proofs.Common.{◌≡◌, ℕ, zero, suc, ◌+◌, ◌≤◌, Bool, Option, Some, None, List, [], ◌∷◌, ◌++◌, length, sym, ap, ◌∙◌, subst, arith, length-append}
use Rattle.std.specs.Prelude.{◌&&◌, slice_get, ⊤}
use Rattle.ldc_link.specs.declared.phase.Role.{Role}
use Rattle.ldc_link.specs.declared.phase.Role.TheVariants.{Initiator, Responder}
use Rattle.ldc_queue.specs.Fragments.{Fragment, fragment_at, is_part}
use Rattle.ldc_queue.specs.Transcript.{Heard, Said, Utterance}
use Rattle.lane_models.specs.Messages.{ended_by, opening_sid, sid_in, sid_of, whole_with}
use Rattle.lane_models.specs.Sayings.{half_heard, half_said, heard, said, whole_past}
use Rattle.lane_models.proofs.Refuting.{none_some}
use Rattle.lane_models.specs.EndLog.{SessionLog, heard_in, heard_kind, opened_log, said_in, said_kind}
use Rattle.lane_models.specs.Spoken.{RangeInfo, Spoken}
use Rattle.port_laws.proofs.PeerOpens.{row}

-- A SESSION of the log
pub record Spoke (role : Role) (turns : List Utterance) (v : SessionLog) : Type 0 where
  pub message : List ℕ
  pub sixth : slice_get (row role turns) 5 ≡ Some message
  pub sid : v.sid ≡ sid_of message
  pub quiet : v.asked ≡ 0 → v.taken ≡ 0
  pub many : 1 ≤ v.asked → 7 ≤ length (heard turns)

abbrev pub SpokeIn : Role → List Utterance → Option SessionLog → Type 0
SpokeIn role turns None = ⊤
SpokeIn role turns (Some v) = Spoke role turns v

pub spoke_some : (role : Role) (turns : List Utterance) (log : Option SessionLog) (v : SessionLog) → log ≡ Some v → SpokeIn role turns log → Spoke role turns v
spoke_some role turns log v is spoke = subst (SpokeIn role turns) is spoke

-- ONE MESSAGE MORE, if the packet ends one
abbrev pub Grown : Option (List ℕ) → List (List ℕ) → List (List ℕ) → Type 0
Grown None before now = now ≡ before
Grown (Some message) before now = now ≡ before ++ message ∷ []

grown : (b : Bool) (part : Fragment) (half : List ℕ) (messages : List (List ℕ)) → Grown (whole_with (b && part.stop) (half ++ part.bytes)) messages (whole_past b part half messages)
grown b part half messages = grind arith

pub heard_grown : (turns : List Utterance) (packet : List ℕ) → Grown (ended_by (half_heard turns) packet) (heard turns) (heard (Heard packet ∷ turns))
heard_grown turns packet = grown (is_part packet) (fragment_at packet) (half_heard turns) (heard turns)

pub said_grown : (turns : List Utterance) (packet : List ℕ) → Grown (ended_by (half_said turns) packet) (said turns) (said (Said packet ∷ turns))
said_grown turns packet = grown (is_part packet) (fragment_at packet) (half_said turns) (said turns)

pub grown_most : (o : Option (List ℕ)) (before now : List (List ℕ)) → Grown o before now → length now ≤ length before + 1
grown_most o before now is = grind (arith, length-append)

pub get_more : (messages more : List (List ℕ)) (n : ℕ) (message : List ℕ) → slice_get messages n ≡ Some message → slice_get (messages ++ more) n ≡ Some message
get_more [] more n message get = none_some message get
get_more (one ∷ messages) more zero message get = get
get_more (one ∷ messages) more (suc n) message get = get_more messages more n message get

pub get_last : (messages : List (List ℕ)) (n : ℕ) (message : List ℕ) → length messages ≡ n → slice_get (messages ++ message ∷ []) n ≡ Some message
get_last [] (suc n) message is = absurd (omega (arith, is))
get_last (one ∷ messages) (suc n) message is = get_last messages n message (omega (arith, is))
get_last messages n message is = grind arith

grown_get : (o : Option (List ℕ)) (before now : List (List ℕ)) (n : ℕ) (message : List ℕ) → Grown o before now → slice_get before n ≡ Some message → slice_get now n ≡ Some message
grown_get o before now n message is get = grind (arith, get_more)

-- of the row that the initiator says
took_row : Role → Option (List ℕ) → Option (List ℕ)
took_row Initiator ended = None
took_row Responder ended = ended

sent_row : Role → Option (List ℕ) → Option (List ℕ)
sent_row Initiator ended = ended
sent_row Responder ended = None

took_grown : (role : Role) (turns : List Utterance) (packet : List ℕ) → Grown (took_row role (ended_by (half_heard turns) packet)) (row role turns) (row role (Heard packet ∷ turns))
unfolding took_row
took_grown role turns packet = grind (arith, heard_grown)

sent_grown : (role : Role) (turns : List Utterance) (packet : List ℕ) → Grown (sent_row role (ended_by (half_said turns) packet)) (row role turns) (row role (Said packet ∷ turns))
unfolding sent_row
sent_grown role turns packet = grind (arith, said_grown)

took_some : (role : Role) (ended : Option (List ℕ)) (message : List ℕ) → took_row role ended ≡ Some message → ended ≡ Some message
unfolding took_row
took_some Initiator ended message is = none_some message is
took_some Responder ended message is = is

sent_some : (role : Role) (ended : Option (List ℕ)) (message : List ℕ) → sent_row role ended ≡ Some message → ended ≡ Some message
unfolding sent_row
sent_some role ended message is = grind (arith, none_some)

-- IT OPENS by the sixth message of the row
record Sixth (o : Option (List ℕ)) (now : List (List ℕ)) : Type 0 where
  message : List ℕ
  is : o ≡ Some message
  sixth : slice_get now 5 ≡ Some message

sixth_of : (o : Option (List ℕ)) (before now : List (List ℕ)) → Grown o before now → length before ≤ 5 → 6 ≤ length now → Sixth o now
sixth_of o before now is few many = grind (arith, length-append, get_last)

opened_spoke : (role : Role) (now : List Utterance) (ended : Option (List ℕ)) (message : List ℕ) → ended ≡ Some message → slice_get (row role now) 5 ≡ Some message
    → Spoke role now (opened_log (sid_in ended))
opened_spoke role now ended message is sixth = grind arith

pub took_opens : (role : Role) (turns : List Utterance) (packet : List ℕ) → length (row role turns) ≤ 5 → 6 ≤ length (row role (Heard packet ∷ turns))
    → Spoke role (Heard packet ∷ turns) (opened_log (opening_sid (half_heard turns) packet))
took_opens role turns packet few many =
    let ended = ended_by (half_heard turns) packet in
    let sixth = sixth_of (took_row role ended) (row role turns) (row role (Heard packet ∷ turns)) (took_grown role turns packet) few many in
    opened_spoke role (Heard packet ∷ turns) ended sixth.message (took_some role ended sixth.message sixth.is) sixth.sixth

pub sent_opens : (role : Role) (turns : List Utterance) (packet : List ℕ) → length (row role turns) ≤ 5 → 6 ≤ length (row role (Said packet ∷ turns))
    → Spoke role (Said packet ∷ turns) (opened_log (opening_sid (half_said turns) packet))
sent_opens role turns packet few many =
    let ended = ended_by (half_said turns) packet in
    let sixth = sixth_of (sent_row role ended) (row role turns) (row role (Said packet ∷ turns)) (sent_grown role turns packet) few many in
    opened_spoke role (Said packet ∷ turns) ended sixth.message (sent_some role ended sixth.message sixth.is) sixth.sixth

-- IT GOES ON with the same session
record SameTaking (v w : SessionLog) : Type 0 where
  sid : w.sid ≡ v.sid
  asked : w.asked ≡ v.asked
  taken : w.taken ≡ v.taken

same_spoke : (role : Role) (turns now : List Utterance) (o : Option (List ℕ)) (v w : SessionLog) → Spoke role turns v → Grown o (row role turns) (row role now) → length (heard turns) ≤ length (heard now)
    → SameTaking v w → Spoke role now w
same_spoke role turns now o v w spoke grows more same = record {
  message = spoke.message;
  sixth = grown_get o (row role turns) (row role now) 5 spoke.message grows spoke.sixth;
  sid = same.sid ∙ spoke.sid;
  quiet = λ none. same.taken ∙ spoke.quiet (sym same.asked ∙ none);
  many = λ some. let long = spoke.many (omega (arith, some, same.asked)) in omega (arith, long, more);
}

said_same : (k : Spoken) (message : List ℕ) (v : SessionLog) → SameTaking v (said_kind k message v)
said_same k message v = grind arith

said_taking : (ended : Option (List ℕ)) (v : SessionLog) → SameTaking v (said_in ended v)
said_taking ended v = grind (arith, said_same)

pub sent_spoke : (role : Role) (turns : List Utterance) (packet : List ℕ) (v : SessionLog) → Spoke role turns v → Spoke role (Said packet ∷ turns) (said_in (ended_by (half_said turns) packet) v)
sent_spoke role turns packet v spoke =
    same_spoke role turns (Said packet ∷ turns) (sent_row role (ended_by (half_said turns) packet)) v (said_in (ended_by (half_said turns) packet) v) spoke (sent_grown role turns packet)
    (omega arith) (said_taking (ended_by (half_said turns) packet) v)

-- one more INFO comes behind the six of the handshake
kind_spoke : (k : Spoken) (role : Role) (slots : ℕ) (turns now : List Utterance) (o : Option (List ℕ)) (message : List ℕ) (v : SessionLog) → Spoke role turns v → Grown o (row role turns) (row role now)
    → heard now ≡ heard turns ++ message ∷ [] → 6 ≤ length (heard turns) → Spoke role now (heard_kind slots k message v)
kind_spoke RangeInfo role slots turns now o message v spoke grows is six = record {
  message = spoke.message;
  sixth = grown_get o (row role turns) (row role now) 5 spoke.message grows spoke.sixth;
  sid = spoke.sid;
  quiet = λ none. absurd (omega (arith, none));
  many = λ some. omega (arith, six, ap length is, length-append (heard turns) (message ∷ []));
}
kind_spoke k role slots turns now o message v spoke grows is six = grind (arith, same_spoke, length-append)

ended_spoke : (ended : Option (List ℕ)) (role : Role) (slots : ℕ) (turns now : List Utterance) (o : Option (List ℕ)) (v : SessionLog) → Spoke role turns v → Grown o (row role turns) (row role now)
    → Grown ended (heard turns) (heard now) → 6 ≤ length (heard turns) → Spoke role now (heard_in slots ended v)
ended_spoke ended role slots turns now o v spoke grows is six = grind (arith, same_spoke, kind_spoke)

pub took_spoke : (role : Role) (slots : ℕ) (turns : List Utterance) (packet : List ℕ) (v : SessionLog) → Spoke role turns v → 6 ≤ length (heard turns)
    → Spoke role (Heard packet ∷ turns) (heard_in slots (ended_by (half_heard turns) packet) v)
took_spoke role slots turns packet v spoke six =
    ended_spoke (ended_by (half_heard turns) packet) role slots turns (Heard packet ∷ turns) (took_row role (ended_by (half_heard turns) packet)) v spoke (took_grown role turns packet)
    (heard_grown turns packet) six

-- it publishes, or takes a frame
pub published_spoke : (role : Role) (turns : List Utterance) (v : SessionLog) → Spoke role turns v → Spoke role turns (record v { published = v.published + 1 })
published_spoke role turns v spoke = record { message = spoke.message; sixth = spoke.sixth; sid = spoke.sid; quiet = spoke.quiet; many = spoke.many }

pub frame_spoke : (role : Role) (turns : List Utterance) (v : SessionLog) → v.asked ≡ v.acks + 1 → Spoke role turns v → Spoke role turns (record v { taken = v.taken + 1 })
frame_spoke role turns v active spoke = grind arith

-- ONE SID of both, where one heard a front of what the other said
pub same_sid : (asks answers : List Utterance) (v w : SessionLog) (more : List (List ℕ)) → said asks ≡ heard answers ++ more → Spoke Initiator asks v → Spoke Responder answers w → v.sid ≡ w.sid
same_sid asks answers v w more front one other = grind (arith, get_more)
