-- A packet that an end takes is counted by its log as the end counts it.
use Rattle.std.proofs.Common.{◌≡◌, ℕ, Bool, true, false, Option, Some, None, List, [], ◌∷◌, ◌++◌, length, refl, sym, subst, ap, ◌∙◌, arith, length-append}
use Rattle.std.specs.Prelude.{◌&&◌, is_some, Result, Ok, Err}
use Rattle.ldc_link.specs.declared.phase.Role.{Role}
use Rattle.ldc_link.specs.LinkState.{LinkState, cleared, is_up}
use Rattle.ldc_link.specs.Putting.{owes}
use Rattle.ldc_link.specs.Taking.{Heard, LinkTake, TakesBytes, Unheard}
use Rattle.ldc_queue.specs.Fragments.{fragment_at, is_part}
use Rattle.ldc_queue.specs.Transcript.{Utterance}
use Rattle.vio_handshake.specs.declared.handshake.Handshake.{Handshake}
use Rattle.vio_handshake.specs.Rules.{HandshakeTake, handshake_take}
use Rattle.vio_tag.specs.declared.message.Message.{Message}
use Rattle.vio_tag.specs.declared.message.TagFault.{TagFault}
use Rattle.vio_tag.specs.Decoding.{Decodes}
use Rattle.lane_models.specs.Messages.{ended_by, whole_with}
use Rattle.lane_models.specs.Sayings.{half_heard, heard, whole_by, whole_past}
use Rattle.lane_models.proofs.EndStanding.{up_empty}
use Rattle.lane_models.proofs.LinkCases.{LinkHeard, link_heard}
use Rattle.lane_models.proofs.UtteranceCases.{HearsOn, hears_on}
use Rattle.lane_models.specs.Standing.{EndStands, is_open_in}
use Rattle.lane_models.proofs.FramesTaken.{stands_with}
use Rattle.lane_models.proofs.Refuting.{false_true, none_some, true_false}
use Rattle.lane_models.specs.EndLog.{EndLog, SessionLog, change, heard_in, hears_log, opens_log}
use Rattle.lane_models.specs.FramesStand.{FramesStand}
use Rattle.lane_models.specs.NetEndPutting.{cleared_ring}
use Rattle.lane_models.specs.NetEndState.{NetEndState, NetSession, opened_net_end}
use Rattle.lane_models.specs.NetEndTaking.{GoesOn, HearsLink, HearsWhole, NetTakes, by_handshake, hears_message, opens_by_take, reads, risen}
use Rattle.lane_models.specs.RuleFacts.{IfOpen, MayListen}
use Rattle.port_laws.specs.Counted.{EndCounts}
use Rattle.port_laws.specs.NetCore.{net_core}
use Rattle.port_laws.proofs.EndCounting.{ShutCounts, empty_unsaid, shut_counts}
use Rattle.port_laws.proofs.HeardCounts.{Hearing, heard_counts}
use Rattle.port_laws.proofs.HeldCounts.{linked_counts}
use Rattle.port_laws.proofs.MessageDoes.{Does, TakeDoes, message_does}
use Rattle.port_laws.proofs.PutCounts.{ended_if, opened_counts}

-- A LINK THAT OWES NOTHING holds nothing
pub free_empty : (role : Role) (s : NetEndState) (turns : List Utterance) → EndStands role (net_core role s) turns → owes s.link ≡ false → s.link.to_send ≡ []
free_empty role s turns stands quiet = grind (arith, up_empty)

-- in session it is up, and the handshake is open
pub session_open : (role : Role) (s : NetEndState) (turns : List Utterance) (p : NetSession) → EndStands role (net_core role s) turns → s.session ≡ Some p → is_open_in s.handshake.phase ≡ true
session_open role s turns p stands is = sym stands.opened ∙ ap (λ (x : Option NetSession). is_some x) is

pub session_up : (role : Role) (s : NetEndState) (turns : List Utterance) (p : NetSession) → EndStands role (net_core role s) turns → s.session ≡ Some p → is_up s.link ≡ true
session_up role s turns p stands is = grind (arith, true_false, session_open)

pub risen_up : (role : Role) (before behind : LinkState) (h : Handshake) → is_up before ≡ true → risen role before behind h ≡ h
risen_up role before behind h up = grind (arith, false_true)

-- WHAT THE PACKET ENDS is what became whole
pub heard_send : (k m : LinkState) (packet : List ℕ) → LinkHeard k packet m → m.to_send ≡ k.to_send
heard_send k m packet given = grind arith

unended : (part stop : Bool) (message : List ℕ) → (part ≡ true → stop ≡ true → ⊥) → whole_with (part && stop) message ≡ None
unended part stop message never = grind arith

whole_ended : (turns : List Utterance) (packet : List ℕ) (whole : Option (List ℕ)) → HearsOn turns packet whole → ended_by (half_heard turns) packet ≡ whole
whole_ended turns packet (Some message) on = grind (arith, ended_if)
whole_ended turns packet None on =
    unended (is_part packet) (fragment_at packet).stop (half_heard turns ++ (fragment_at packet).bytes)
    (λ part stop.
    let message : List ℕ = half_heard turns ++ (fragment_at packet).bytes in
    let grown : whole_past (is_part packet) (fragment_at packet) (half_heard turns) (heard turns) ≡ heard turns ++ message ∷ [] =
    ap (λ (b : Bool). whole_past b (fragment_at packet) (half_heard turns) (heard turns)) part ∙ ap (λ (b : Bool). whole_by b message (heard turns)) stop in
    let same : heard turns ++ message ∷ [] ≡ heard turns = sym grown ∙ on.messages in
    let long : length (heard turns ++ message ∷ []) ≡ length (heard turns) = ap length same in
    absurd (omega (arith, long, length-append (heard turns) (message ∷ []))))

-- THE LOG where no message became whole, and where no session is open
change_same : (slots : ℕ) (x : Option SessionLog) → change (heard_in slots None) x ≡ x
change_same slots x = grind arith

hears_none : (slots : ℕ) (l : EndLog) → hears_log slots None l ≡ l
hears_none slots l = grind (arith, change_same)

hears_shut : (slots : ℕ) (whole : Option (List ℕ)) (l : EndLog) → l.session ≡ None → hears_log slots whole l ≡ l
hears_shut slots whole l is = grind arith

-- AN END THAT TAKES
pub record Taking (role : Role) (slots : ℕ) (queue : List (List ℕ)) (s : NetEndState) (l : EndLog) (turns : List Utterance) : Type 0 where
  pub counts : EndCounts role slots queue s l
  pub stands : FramesStand s
  pub ends : EndStands role (net_core role s) turns
  pub quiet : owes s.link ≡ false
  pub listens : IfOpen s.session MayListen

-- its counts after the packet; and no session opens where one is open
pub record TookCounts (role : Role) (slots : ℕ) (queue : List (List ℕ)) (s t : NetEndState) (l : EndLog) (turns : List Utterance) (packet : List ℕ) (opens : Bool) (sid : ℕ) : Type 0 where
  pub counts : EndCounts role slots queue t (opens_log opens sid (hears_log slots (ended_by (half_heard turns) packet) l))
  pub shut : (p : NetSession) → s.session ≡ Some p → opens ≡ false

pub took_counts : (role : Role) (slots : ℕ) (queue : List (List ℕ)) (s t : NetEndState) (l : EndLog) (turns : List Utterance) (memory packet : List ℕ) (opens : Bool) (new : List ℕ) (sid : ℕ)
    → Taking role slots queue s l turns → NetTakes role s memory packet (GoesOn t opens new)
    → TookCounts role slots queue s t l turns packet opens sid
took_counts role slots queue s t l turns memory packet opens new sid taking takes = by_link takes.link takes.takes takes.hears
  where
    empty : s.link.to_send ≡ []
    empty = free_empty role s turns taking.ends taking.quiet

    after : LinkState → NetEndState
    after k = record s { link = k; handshake = risen role s.link k s.handshake }

    seen : LinkState → NetEndState
    seen k = record s { link = cleared k; handshake = risen role s.link k s.handshake }

    -- the counts of the end with another link and handshake
    relinked : (u : NetEndState) → u.link.to_send ≡ [] → u.slots ≡ s.slots → u.frames ≡ s.frames → u.next_id ≡ s.next_id → u.groups ≡ s.groups → u.session ≡ s.session
        → EndCounts role slots queue u l
    relinked u none same frames next groups session = grind (arith, empty, linked_counts, empty_unsaid)

    -- where none opens
    goal_shut : (whole : Option (List ℕ)) → ended_by (half_heard turns) packet ≡ whole → opens ≡ false → EndCounts role slots queue t (hears_log slots whole l)
        → TookCounts role slots queue s t l turns packet opens sid
    goal_shut whole ended shut counts = grind arith

    none_whole : (k : LinkState) → LinkHeard s.link packet k → ended_by (half_heard turns) packet ≡ None → GoesOn t opens new ≡ GoesOn (after k) false memory
        → TookCounts role slots queue s t l turns packet opens sid
    none_whole k how ended is =
        let same : t ≡ after k = cc in
        let shut : opens ≡ false = cc in
        goal_shut None ended shut (subst (EndCounts role slots queue t) (sym (hears_none slots l))
        (rw same (relinked (after k) (heard_send s.link k packet how ∙ empty) refl refl refl refl refl)))

    -- without a session
    shut_take : (k : LinkState) (bytes : List ℕ) → LinkHeard s.link packet k → ended_by (half_heard turns) packet ≡ Some bytes → s.session ≡ None → (take : HandshakeTake)
        → GoesOn t opens new ≡ by_handshake role (seen k) memory take → TookCounts role slots queue s t l turns packet opens sid
    shut_take k bytes how ended closed take is = by_take take is
      where
        gone : ShutCounts role s.groups l.published l.gone l.session
        gone = shut_counts role slots queue s l taking.counts closed

        with_shake : Handshake → NetEndState
        with_shake h = record (seen k) { handshake = h }

        here : (h : Handshake) → EndCounts role slots queue (with_shake h) l
        here h = relinked (with_shake h) (heard_send s.link k packet how ∙ empty) refl refl refl refl refl

        stays : (h : Handshake) → GoesOn t opens new ≡ GoesOn (with_shake h) false memory
            → TookCounts role slots queue s t l turns packet opens sid
        stays h go = grind (arith, gone, here, goal_shut, hears_shut)

        opened : (h : Handshake) → GoesOn t opens new ≡ GoesOn (opened_net_end (with_shake h)) true (cleared_ring s.slots memory)
            → TookCounts role slots queue s t l turns packet opens sid
        opened h go =
            let same : t ≡ opened_net_end (with_shake h) = cc in
            let opens_it : opens ≡ true = cc in
            record {
              counts = subst (λ (b : Bool). EndCounts role slots queue t (opens_log b sid (hears_log slots (ended_by (half_heard turns) packet) l))) (sym opens_it)
                  (subst (λ (x : EndLog). EndCounts role slots queue t (opens_log true sid x)) (sym (hears_shut slots (ended_by (half_heard turns) packet) l gone.is))
                  (subst (λ (x : NetEndState). EndCounts role slots queue x (opens_log true sid l)) (sym same)
                  (opened_counts role slots queue (with_shake h) l sid (here h) closed (heard_send s.link k packet how ∙ empty))));
              shut = λ p is. none_some p (sym closed ∙ is);
            }

        by_role : (r : Role) (h : Handshake) → GoesOn t opens new ≡ opens_by_take r (with_shake h) memory
            → TookCounts role slots queue s t l turns packet opens sid
        by_role r h go = grind (arith, stays, opened)

        by_take : (x : HandshakeTake) → GoesOn t opens new ≡ by_handshake role (seen k) memory x
            → TookCounts role slots queue s t l turns packet opens sid
        by_take x go = grind (arith, stays, by_role)

    -- in session
    open_take : (k : LinkState) (bytes : List ℕ) (m : Message) (p : NetSession) → LinkHeard s.link packet k → ended_by (half_heard turns) packet ≡ Some bytes → s.session ≡ Some p
        → Decodes bytes (Ok m) → GoesOn t opens new ≡ hears_message role (seen k) memory (Some p) m
        → TookCounts role slots queue s t l turns packet opens sid
    open_take k bytes m p how ended session decodes is =
        let stays : risen role s.link k s.handshake ≡ s.handshake = risen_up role s.link k s.handshake (session_up role s turns p taking.ends session) in
        let opened : is_open_in (seen k).handshake.phase ≡ true = ap (λ (h : Handshake). is_open_in h.phase) stays ∙ session_open role s turns p taking.ends session in
        let does : Does role (seen k) p memory m.subtype m.body t opens new =
        subst (TakeDoes role (seen k) p memory m.subtype m.body) (sym is) (message_does role (seen k) p memory m opened) in
        let listens : MayListen p = subst (λ (x : Option NetSession). IfOpen x MayListen) session taking.listens in
        let hearing : Hearing role slots queue (seen k) l p = record {
          counts = relinked (seen k) (heard_send s.link k packet how ∙ empty) refl refl refl refl refl;
          stands = stands_with s (seen k) taking.stands refl refl refl refl;
          session = session;
          idle = listens.1;
          empty = heard_send s.link k packet how ∙ empty;
        } in
        goal_shut (Some bytes) ended does.shut (heard_counts role slots queue (seen k) l p memory bytes m t new hearing decodes.message.0 decodes.message.1 does.does)

    by_session : (k : LinkState) (bytes : List ℕ) (m : Message) → LinkHeard s.link packet k → ended_by (half_heard turns) packet ≡ Some bytes → Decodes bytes (Ok m) → (session : Option NetSession)
        → s.session ≡ session → GoesOn t opens new ≡ hears_message role (seen k) memory session m
        → TookCounts role slots queue s t l turns packet opens sid
    by_session k bytes m how ended decodes None session is = shut_take k bytes how ended session (handshake_take (seen k).handshake m) is
    by_session k bytes m how ended decodes (Some p) session is = open_take k bytes m p how ended session decodes is

    by_decoded : (k : LinkState) (bytes : List ℕ) (d : Result Message TagFault) → LinkHeard s.link packet k → ended_by (half_heard turns) packet ≡ Some bytes → Decodes bytes d
        → GoesOn t opens new ≡ reads role (seen k) memory d → TookCounts role slots queue s t l turns packet opens sid
    by_decoded k bytes (Ok m) how ended decodes is = by_session k bytes m how ended decodes s.session refl is
    by_decoded k bytes (Err fault) how ended decodes is = absurd (cc is)

    by_whole : (k : LinkState) (whole : Option (List ℕ)) → LinkHeard s.link packet k → ended_by (half_heard turns) packet ≡ whole → HearsWhole role (after k) memory whole (GoesOn t opens new)
        → TookCounts role slots queue s t l turns packet opens sid
    by_whole k None how ended hears = none_whole k how ended hears
    by_whole k (Some bytes) how ended hears = by_decoded k bytes hears.0 how ended hears.1 hears.2

    by_link : (link : LinkTake) → TakesBytes s.link packet link → HearsLink role s memory link (GoesOn t opens new)
        → TookCounts role slots queue s t l turns packet opens sid
    by_link (Heard k) takes_it hears =
        let how : LinkHeard s.link packet k = link_heard s.link k packet takes_it in
        by_whole k k.whole how (whole_ended turns packet k.whole (hears_on s.link k turns packet taking.ends.link.seen taking.ends.link.follows how)) hears
    by_link (Unheard cause) takes_it hears = absurd (cc hears)
