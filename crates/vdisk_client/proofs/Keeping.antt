-- A client stands as it should after each of its steps.
use Rattle.std.proofs.Common.{◌≡◌, ℕ, zero, suc, ◌+◌, ◌-◌, ◌<◌, List, [], ◌∷◌, length, drop, Option, Some, is_some, slice_get, refl, sym, ◌∙◌, ap, subst, arith, length-drop}
use Rattle.std.specs.Prelude.{max}
use Rattle.ldc_queue.specs.ChannelView.{ChannelView}
use Rattle.ldc_queue.specs.declared.end.End.TheVariants.{A}
use Rattle.vdisk_msg.specs.declared.request.Request.{Request}
use Rattle.lane_models.specs.WireEvent.{Blocked, Idle, Joined, Reset, Sent, Took}
use Rattle.lane_models.specs.ClientPutting.{announcement, announcing, client_holds, holding, is_announcing}
use Rattle.lane_models.specs.ClientRule.{Announces, ClientRule, Completes, Joins, Publishes, Puts, Idles, Says, Takes, client_rule}
use Rattle.lane_models.specs.ClientState.{ClientSession, ClientState}
use Rattle.lane_models.specs.ClientStep.{ClientCompletes, ClientPublishes, ClientStep}
use Rattle.lane_models.specs.DiskEvent.{DiskEvent, Done, OnWire, Published, Works}
use Rattle.lane_models.specs.Seeing.{Seen}
use Rattle.vdisk_client.proofs.KeptPuts.{held_stands, put_stands}
use Rattle.vdisk_client.proofs.KeptTakes.{takes_stands}
use Rattle.vdisk_client.proofs.Requests.{sound_rest}
use Rattle.vdisk_client.proofs.Rules.{known}
use Rattle.vdisk_client.proofs.Standing.{joined_stands}
use Rattle.vdisk_client.proofs.Unmoved.{fixed_of}
use Rattle.vdisk_client.specs.Calls.{Steps, client_event, sees}
use Rattle.vdisk_client.specs.declared.answers.ClientOut.{ClientOut}
use Rattle.vdisk_client.specs.Standing.{CountsStand, SessionStands, Stands, Transcripts}

got_within : (requests : List Request) (k : ℕ) (request : Request) → slice_get requests k ≡ Some request → k < length requests
got_within [] k request is = absurd (cc is)
got_within (first ∷ requests) zero request is = omega arith
got_within (first ∷ requests) (suc k) request is = omega (arith, got_within requests k request is)

-- the transcript with another session in the place of one that is open, and that announces as the first does
other_session : (s : ClientState) (session other : ClientSession) → Stands s → s.session ≡ Some session → other.announcing ≡ session.announcing → Transcripts s.link s.handshake (Some other)
other_session s session other stands is same = record {
  link = stands.transcript.link;
  phase = stands.transcript.phase;
  no_message = stands.transcript.no_message;
  handshake = stands.transcript.handshake;
  begun = stands.transcript.begun;
  opened = λ _. stands.transcript.opened (ap is_some is);
  quiet = λ down. absurd (cc (is, (stands.transcript.quiet down).closed));
  holds = λ some whose. stands.transcript.holds some (ap is_announcing is ∙ sym same ∙ whose);
  announces = λ own. stands.transcript.announces (ap is_announcing is ∙ sym same ∙ own);
  owed = stands.transcript.owed;
}

counts_of : (s : ClientState) (session : ClientSession) → Stands s → s.session ≡ Some session → CountsStand (length s.pending) s.next_id session
counts_of s session stands is = subst (λ (x : Option ClientSession). SessionStands (length s.pending) s.next_id x) is stands.session

published_stands : (s : ClientState) (session : ClientSession) (id : ℕ) → Stands s → s.session ≡ Some session → id ≡ session.base + session.published
    → session.published - session.completed < length s.pending
    → Stands (record s { ever_published = max s.ever_published (id + 1); session = Some (record session { published = session.published + 1 }) })
published_stands s session id stands is number within =
    let counts : CountsStand (length s.pending) s.next_id session = counts_of s session stands is in
    record {
      transcript = other_session s session (record session { published = session.published + 1 }) stands is refl;
      requests = record {
        some_slots = stands.requests.some_slots;
        most_slots = stands.requests.most_slots;
        few_blocks = stands.requests.few_blocks;
        few = stands.requests.few;
        sound = stands.requests.sound;
        ids = stands.requests.ids;
        next = stands.requests.next;
        ever = omega (arith, stands.requests.ever, counts.ids, within, number, counts.completed, counts.acked, counts.announced);
      };
      session = record {
        completed = counts.completed;
        acked = counts.acked;
        announced = omega (arith, counts.announced);
        published = omega (arith, within, counts.completed, counts.acked, counts.announced);
        ids = counts.ids;
        infos = counts.infos;
        announcing = λ own. omega (arith, counts.announcing own);
      };
    }

completed_stands : (s : ClientState) (session : ClientSession) (last : List ℕ) → Stands s → s.session ≡ Some session → session.completed < session.acked → 0 < length s.pending
    → Stands (record s { pending = drop 1 s.pending; session = Some (record session { completed = session.completed + 1 }); last = last })
completed_stands s session last stands is acknowledged some =
    let counts : CountsStand (length s.pending) s.next_id session = counts_of s session stands is in
    let long : length (drop 1 s.pending) ≡ length s.pending - 1 = length-drop 1 s.pending in
    record {
      transcript = other_session s session (record session { completed = session.completed + 1 }) stands is refl;
      requests = record {
        some_slots = stands.requests.some_slots;
        most_slots = stands.requests.most_slots;
        few_blocks = stands.requests.few_blocks;
        few = omega (arith, long, stands.requests.few);
        sound = sound_rest s.blocks s.pending stands.requests.sound;
        ids = omega (arith, long, stands.requests.ids);
        next = stands.requests.next;
        ever = stands.requests.ever;
      };
      session = record {
        completed = omega (arith, acknowledged);
        acked = counts.acked;
        announced = counts.announced;
        published = omega (arith, long, some, counts.published);
        ids = omega (arith, long, some, counts.ids);
        infos = counts.infos;
        announcing = counts.announcing;
      };
    }

publishes_stands : (s t : ClientState) (at : Seen) (memory new : List ℕ) (id : ℕ) → Stands s → ClientPublishes s at memory id t new → Stands t
publishes_stands s t at memory new id stands step =
    let knows : (s.session ≡ Some step.session) × (slice_get s.pending (step.session.published - step.session.completed) ≡ Some step.request) =
    known s at (Publishes step.session step.request) step.rule in
    subst Stands (sym step.is)
    (published_stands s step.session id stands knows.0 step.id_is (got_within s.pending (step.session.published - step.session.completed) step.request knows.1))

completes_stands : (s t : ClientState) (at : Seen) (memory new : List ℕ) (id operation status : ℕ) (bytes : List ℕ) → Stands s
    → ClientCompletes s at memory id operation status bytes t new → Stands t
completes_stands s t at memory new id operation status bytes stands step =
    let knows : (s.session ≡ Some step.session) × (step.session.completed < step.session.acked) = known s at (Completes step.session) step.rule in
    subst Stands (sym step.is) (completed_stands s step.session bytes stands knows.0 knows.1 (got_within s.pending 0 step.request step.front))

-- WHATEVER A STEP IS, and what none changes is as before
abbrev pub Keeps : ClientState → ClientState → Type 0
Keeps s t = Stands t × (fixed_of t ≡ fixed_of s)

-- a message in the link leaves both
held_fixed : (s held : ClientState) (rule : ClientRule) → client_holds rule s ≡ Some held → fixed_of held ≡ fixed_of s
held_fixed s held Puts is = let same : s ≡ held = cc is in ap fixed_of (sym same)
held_fixed s held (Says message) is = let same : holding message s ≡ held = cc is in ap fixed_of (sym same)
held_fixed s held (Announces session) is =
    let same : announcing session (holding (announcement s session) s) ≡ held = cc is in ap fixed_of (sym same)
held_fixed s held Joins is = absurd (cc is)
held_fixed s held (Completes session) is = absurd (cc is)
held_fixed s held (Takes packet) is = absurd (cc is)
held_fixed s held (Publishes session request) is = absurd (cc is)
held_fixed s held Idles is = absurd (cc is)

pub step_keeps : (s t : ClientState) (at : Seen) (memory new : List ℕ) (event : DiskEvent) → Stands s → ClientStep s at memory event t new → Keeps s t
step_keeps s t at memory new (OnWire (Joined A lost)) stands step = subst (Keeps s) (sym step.2) (joined_stands s stands, refl)
step_keeps s t at memory new (OnWire (Took A packet opens)) stands step = takes_stands s t packet stands (known s at (Takes packet) step.0).0 step.1
step_keeps s t at memory new (OnWire (Sent A packet opens)) stands step =
    subst (Keeps s) (sym step.is)
    (put_stands step.held (held_stands s at step.held stands step.holds), held_fixed s step.held (client_rule s at) step.holds)
step_keeps s t at memory new (OnWire (Blocked A)) stands step = (held_stands s at t stands step.0, held_fixed s t (client_rule s at) step.0)
step_keeps s t at memory new (OnWire (Idle A)) stands step = subst (Keeps s) (sym step.1) (stands, refl)
step_keeps s t at memory new (OnWire (Reset A cause packet lost)) stands step = subst (Keeps s) (sym step.2) (joined_stands s stands, refl)
step_keeps s t at memory new (Works (Published id)) stands step =
    (publishes_stands s t at memory new id stands step, ap fixed_of step.is)
step_keeps s t at memory new (Works (Done id operation status bytes)) stands step =
    (completes_stands s t at memory new id operation status bytes stands step, ap fixed_of step.is)
step_keeps s t at memory new event stands step = absurd step

pub steps_keep : (s t : ClientState) (c d : ChannelView) (memory new : List ℕ) (answer : ClientOut) → Stands s → Steps s c memory answer t d new → Keeps s t
steps_keep s t c d memory new answer stands steps = step_keeps s t (sees c) memory new (client_event answer t.last) stands steps.step
