-- An initiator's last sid is how often its link came up, modulo 2^32; a responder counts none.
use Rattle.std.proofs.Common.{◌≡◌, ℕ, ◌+◌, ◌%◌, Bool, true, false, List, [], ◌∷◌, refl, sym, ap, ◌∙◌, arith}
use Rattle.std.specs.Prelude.{⊤, nat_eq, ◌&&◌}
use Rattle.std.proofs.lemmas.Bool.{eqb-true}
use Rattle.runs.specs.Lawful.{log_of, run_lawful}
use Rattle.runs.specs.Run.{Run}
use Rattle.ldc_link.specs.declared.phase.Role.{Role}
use Rattle.ldc_link.specs.declared.phase.Role.TheVariants.{Initiator, Responder}
use Rattle.ldc_packet.specs.declared.packet.Body.TheVariants.{Rdx}
use Rattle.ldc_packet.specs.declared.packet.Subtype.TheVariants.{Info}
use Rattle.ldc_packet.specs.Spelling.{ctrl_at, type_at}
use Rattle.ldc_queue.specs.declared.end.End.TheVariants.{A, B}
use Rattle.ldc_queue.specs.Fragments.{is_part}
use Rattle.ldc_queue.specs.Numbered.{is_numbered}
use Rattle.ldc_queue.specs.Transcript.{Utterance}
use Rattle.vio_handshake.specs.declared.handshake.Handshake.{Handshake}
use Rattle.vio_handshake.specs.declared.session.Offer.{Offer}
use Rattle.vio_handshake.specs.Rules.{handshake_sent}
use Rattle.vio_handshake.specs.State.{handshake_up}
use Rattle.vio_tag.specs.declared.message.Message.{Message}
use Rattle.lane_models.specs.TranscriptLog.{TranscriptLog, is_rdx, nothing_said}
use Rattle.lane_models.proofs.Apart.{roles_differ}
use Rattle.lane_models.proofs.EndCases.{EndTook, NoMessage, PutControl, PutMore, PutOwn, PutReady, PutHandshake, PutWhat, Rises, TookOwn, TookHandshake, TookWhat, end_put, end_took}
use Rattle.lane_models.proofs.EndResting.{held_handshake}
use Rattle.lane_models.proofs.EndStanding.{fresh_end_stands, held_stands, stands_step}
use Rattle.lane_models.proofs.HandshakeCases.{RowSent, RowTaken, row_sent}
use Rattle.lane_models.proofs.Lifting.{EndsAll, ends_step}
use Rattle.lane_models.proofs.LinkCases.{canonical_is, put_quiet, ready_loud}
use Rattle.lane_models.specs.CoreLog.{comings_after}
use Rattle.lane_models.specs.EndCore.{EndCore, EndMove, Renews, Says}
use Rattle.lane_models.specs.EndStep.{EndHears, EndSays, EndStep}
use Rattle.lane_models.specs.LaneCore.{CoreEvent, CoreFits, CoreStep, LaneCore, fresh_core, move_of, transcript_after}
use Rattle.lane_models.specs.Standing.{EndStands}

-- A PACKET that was put is RDX, or isn't
pub quiet_rdx : (packet : List ℕ) → is_numbered packet ≡ false → is_rdx packet ≡ false
quiet_rdx packet not = grind arith

pub loud_rdx : (packet : List ℕ) → is_numbered packet ≡ true → is_part packet ≡ false → is_rdx packet ≡ true
loud_rdx packet has none = search

pub part_rdx : (packet : List ℕ) → is_part packet ≡ true → is_rdx packet ≡ false
part_rdx packet part = ap (λ (n : ℕ). nat_eq n 1 && nat_eq (ctrl_at packet) 4) (eqb-true (type_at packet) 2 part)

-- A HANDSHAKE keeps its count but as its link comes up
pub row_last : (h t : Handshake) (message : Message) (opens : Bool) → RowTaken h message t opens → t.last_sid ≡ h.last_sid
row_last h t message opens taken = grind arith

pub sent_last : (h t : Handshake) (opens : Bool) → RowSent h t opens → t.last_sid ≡ h.last_sid
sent_last h t opens sent = grind arith

abbrev next_if : Bool → ℕ → ℕ
next_if true n = (n + 1) % 4294967296
next_if false n = n

-- a responder's values are made new, and its count with them
abbrev renewed_sid : Role → ℕ → ℕ
renewed_sid Initiator n = n
renewed_sid Responder n = 0

abbrev sid_after : Role → EndMove → ℕ → ℕ
sid_after role Renews n = renewed_sid role n
sid_after role (Says packet opens) n = next_if (is_rdx packet) n
sid_after role _ n = n

up_last : (role : Role) (h : Handshake) → h.role ≡ role → (role ≡ Responder → (handshake_up h).last_sid ≡ h.last_sid) × (role ≡ Initiator → (handshake_up h).last_sid ≡ (h.last_sid + 1) % 4294967296)
up_last role h is = grind arith

hears_last : (role : Role) (c t : EndCore) (turns : List Utterance) (packet : List ℕ) (opens : Bool) → EndStands role c turns → EndHears role c packet opens t
    → t.handshake.last_sid ≡ c.handshake.last_sid
hears_last role c t turns packet opens stands hears = by_what took.what
  where
    took : EndTook role c turns packet opens t
    took = end_took role c t turns packet opens stands hears

    by_what : TookWhat role c turns packet opens t took.now → t.handshake.last_sid ≡ c.handshake.last_sid
    by_what (NoMessage same quiet handshake not is_open) = ap (λ (h : Handshake). h.last_sid) handshake
    by_what (Rises role_is down up quiet handshake not is_open) = ap (λ (h : Handshake). h.last_sid) handshake ∙ (up_last role c.handshake stands.handshake.role_is).0 role_is
    by_what (TookOwn message took_message own handshake not is_open) = ap (λ (h : Handshake). h.last_sid) handshake
    by_what (TookHandshake message took_message handshake is_open) = row_last c.handshake t.handshake message opens handshake.row

-- what a packet that it says is, and what becomes of its count
record SaysSo (role : Role) (c t : EndCore) (packet : List ℕ) : Type 0 where
  last : t.handshake.last_sid ≡ next_if (is_rdx packet) c.handshake.last_sid
  never : role ≡ Responder → is_rdx packet ≡ false

says_last : (role : Role) (c t : EndCore) (turns : List Utterance) (packet : List ℕ) (opens : Bool) → EndStands role c turns → EndSays role c packet opens t → SaysSo role c t packet
says_last role c t turns packet opens stands says = by_what (end_put role c t turns packet opens says holds)
  where
    holds : EndStands role says.held turns
    holds = held_stands role c says.held turns says.what stands says.holds

    was : says.held.handshake.last_sid ≡ c.handshake.last_sid
    was = ap (λ (h : Handshake). h.last_sid) (held_handshake c says.held says.what says.holds)

    keeps : is_rdx packet ≡ false → t.handshake.last_sid ≡ says.held.handshake.last_sid → SaysSo role c t packet
    keeps not same = record { last = same ∙ was ∙ ap (λ (b : Bool). next_if b c.handshake.last_sid) (sym not); never = λ is. not }

    by_what : PutWhat role says.held turns packet opens t → SaysSo role c t packet
    by_what (PutControl next gone link quiet handshake not is_open) =
        keeps (quiet_rdx packet (put_quiet says.held.link.phase packet next holds.link.follows.offers gone).0) (ap (λ (h : Handshake). h.last_sid) handshake)
    by_what (PutReady role_is at spelled link quiet handshake not is_open) =
        let loud = ready_loud packet Info (canonical_is packet Info says.held.link.put_next Rdx tt (omega (arith, holds.link.follows.puts), tt) spelled) in
        record {
          last = ap (λ (h : Handshake). h.last_sid) handshake ∙ (up_last role says.held.handshake holds.handshake.role_is).1 role_is
              ∙ ap (λ (n : ℕ). (n + 1) % 4294967296) was ∙ ap (λ (b : Bool). next_if b c.handshake.last_sid) (sym (loud_rdx packet loud.0 loud.1));
          never = λ responds. roles_differ (sym role_is ∙ responds);
        }
    by_what (PutMore at link more handshake not is_open) = keeps (part_rdx packet more.part.part) (ap (λ (h : Handshake). h.last_sid) handshake)
    by_what (PutOwn own at link last handshake not is_open) = keeps (part_rdx packet last.part.part) (ap (λ (h : Handshake). h.last_sid) handshake)
    by_what (PutHandshake own at link last handshake flag is_open) =
        keeps (part_rdx packet last.part.part) (ap (λ (h : Handshake). h.last_sid) handshake ∙ sent_last says.held.handshake (handshake_sent says.held.handshake) _ (row_sent says.held.handshake))

-- EACH MOVE
last_step : (role : Role) (c : EndCore) (move : EndMove) (t : EndCore) (turns : List Utterance) → EndStands role c turns → EndStep role c move t
    → t.handshake.last_sid ≡ sid_after role move c.handshake.last_sid
last_step role c move t turns stands step = grind (arith, hears_last, says_last)

zero_step : (c : EndCore) (move : EndMove) (t : EndCore) (turns : List Utterance) → EndStands Responder c turns → EndStep Responder c move t → c.handshake.last_sid ≡ 0
    → t.handshake.last_sid ≡ 0
zero_step c Renews t turns stands step zero = last_step Responder c Renews t turns stands step
zero_step c (Says packet opens) t turns stands step zero =
    let says = says_last Responder c t turns packet opens stands step in
    says.last ∙ ap (λ (b : Bool). next_if b c.handshake.last_sid) (says.never refl) ∙ zero
zero_step c move t turns stands step zero = last_step Responder c move t turns stands step ∙ zero

-- EACH EVENT
event_count : (event : CoreEvent) (last n : ℕ) → last ≡ n % 4294967296 → sid_after Initiator (move_of A event) last ≡ comings_after n event % 4294967296
event_count event last n is = grind arith

-- ALONG EVERY RUN
record SidLog : Type 0 where
  transcript : TranscriptLog
  comings : ℕ

abbrev sid_log_after : SidLog → CoreEvent → SidLog
sid_log_after l event = record { transcript = transcript_after l.transcript event; comings = comings_after l.comings event }

record SidsStand (s : LaneCore) (l : SidLog) : Type 0 where
  ends : EndsAll EndStands s l.transcript
  last : s.a.handshake.last_sid ≡ l.comings % 4294967296
  zero : s.b.handshake.last_sid ≡ 0

sids_step : (s : LaneCore) (l : SidLog) (event : CoreEvent) (t : LaneCore) → SidsStand s l → CoreStep s event t → SidsStand t (sid_log_after l event)
sids_step s l event t stand step = record {
  ends = ends_step EndStands (λ role c move x turns stands moves. stands_step role c move x turns stands moves) s event t l.transcript stand.ends step;
  last = last_step Initiator s.a (move_of A event) t.a l.transcript.a stand.ends.a step.a ∙ event_count event s.a.handshake.last_sid l.comings stand.last;
  zero = zero_step s.b (move_of B event) t.b l.transcript.b stand.ends.b step.b stand.zero;
}

comings_is : (l : SidLog) (events : List CoreEvent) → (log_of sid_log_after l events).comings ≡ log_of comings_after l.comings events
comings_is l [] = refl
comings_is l (event ∷ events) = comings_is (sid_log_after l event) events

sids_run : (entries : ℕ) (asks answers : Offer) (events : List CoreEvent) (s : LaneCore) → CoreFits entries asks answers
    → Run CoreStep (fresh_core entries asks answers) events s → SidsStand s (log_of sid_log_after (record { transcript = nothing_said; comings = 0 }) events)
sids_run entries asks answers events s fits run =
    (run_lawful CoreStep (λ (l : SidLog) (e : CoreEvent). ⊤) sid_log_after SidsStand
    (λ (x : LaneCore) (l : SidLog) (e : CoreEvent) (y : LaneCore) stand step. (tt, sids_step x l e y stand step))
    (fresh_core entries asks answers) s (record { transcript = nothing_said; comings = 0 }) events
    (record {
      ends = record { a = fresh_end_stands Initiator asks fits.asks_fit.form.most; b = fresh_end_stands Responder answers fits.answers_fit.form.most };
      last = omega arith;
      zero = refl;
    }) run).1

pub last_sid_counts : (entries : ℕ) (asks answers : Offer) (events : List CoreEvent) (s : LaneCore) → CoreFits entries asks answers
    → Run CoreStep (fresh_core entries asks answers) events s → s.a.handshake.last_sid ≡ log_of comings_after 0 events % 4294967296
last_sid_counts entries asks answers events s fits run =
    (sids_run entries asks answers events s fits run).last ∙ ap (λ (n : ℕ). n % 4294967296) (comings_is (record { transcript = nothing_said; comings = 0 }) events)

pub last_sid_none : (entries : ℕ) (asks answers : Offer) (events : List CoreEvent) (s : LaneCore) → CoreFits entries asks answers
    → Run CoreStep (fresh_core entries asks answers) events s → s.b.handshake.last_sid ≡ 0
last_sid_none entries asks answers events s fits run = (sids_run entries asks answers events s fits run).zero
