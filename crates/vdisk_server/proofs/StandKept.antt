-- What always holds of a server stays so in each step.
use Rattle.std.proofs.Common.{◌≡◌, ◌≢◌, ℕ, Bool, true, false, List, take, Option, Some, None, Result, Ok, Err, inl, inr, refl, sym, ap, ◌∙◌, subst}
use Rattle.std.specs.Prelude.{nat_le, if◌then◌else◌}
use Rattle.ldc_link.specs.declared.phase.Role.{Role}
use Rattle.ldc_link.specs.declared.phase.Role.TheVariants.{Initiator, Responder}
use Rattle.ldc_link.specs.LinkState.{LinkState, cleared, first_phase, is_established, is_up}
use Rattle.ldc_link.specs.Taking.{Heard, LinkTake, TakesBytes, Unheard}
use Rattle.ldc_packet.specs.declared.packet.Subtype.{Subtype}
use Rattle.ldc_packet.specs.declared.packet.Subtype.TheVariants.{Info}
use Rattle.vio_handshake.specs.declared.handshake.Handshake.{Handshake}
use Rattle.vio_handshake.specs.declared.handshake.Phase.{Phase}
use Rattle.vio_handshake.specs.declared.handshake.Phase.TheVariants as handshake
use Rattle.vio_handshake.specs.Rules.{Faults, Goes as GoesHandshake, GoesOpen, HandshakeTake, handshake_take, sid_fault}
use Rattle.vio_handshake.specs.State.{handshake_up}
use Rattle.vio_tag.specs.declared.cause.Cause.{Cause}
use Rattle.vio_tag.specs.declared.cause.Cause.TheVariants as the_cause
use Rattle.vio_tag.specs.declared.message.Message.{Message}
use Rattle.vio_tag.specs.declared.message.MsgBody.{MsgBody}
use Rattle.vio_tag.specs.declared.message.MsgBody.TheVariants.{DringData}
use Rattle.vio_tag.specs.declared.message.TagFault.{TagFault}
use Rattle.vio_tag.specs.Decoding.{Decodes}
use Rattle.vio_tag.specs.Form.{IsWellFormed}
use Rattle.lane_models.specs.EndPuts.{handshake_risen}
use Rattle.lane_models.specs.Ranges.{is_other}
use Rattle.lane_models.specs.ServerState.{ServerSession, ServerState, SlotRange, Work, joined_server, opened_server}
use Rattle.lane_models.specs.ServerTaking.{GoesOn, HearsLink, HearsWhole, Resets, ServerTake, ServerTakes, asked, by_handshake, hears_message, in_session, place_of, reads, sid_first, takes_info}
use Rattle.vdisk_server.specs.Standing.{AnswersLink, Began, IsDisk, IsOpen, IsQuiet, HandshakeStands, Stands, WorkIn}
use Rattle.vdisk_server.proofs.LinkSteps.{LinkTook, link_took}
use Rattle.vdisk_server.proofs.HandshakeSteps.{HandshakeWent, goes_open, goes_stands, opens_open, opens_stands, handshake_joined, handshake_rises, up_is}
use Rattle.vdisk_server.proofs.StandSteps.{either}

-- small facts of constructors
both_ways : (b : Bool) → b ≡ true → b ≡ false → ⊥
both_ways b yes_it_is no_it_is = cc

version_down : (phase : Phase) → phase ≡ handshake.Version → phase ≡ handshake.Down → ⊥
version_down phase version down = cc

on_state : (s t : ServerState) (one other : Bool) → GoesOn s one ≡ GoesOn t other → s ≡ t
on_state s t one other is = cc

resets_not : (cause : Cause) (t : ServerState) (opens : Bool) → Resets cause ≡ GoesOn t opens → ⊥
resets_not cause t opens is = cc

some_not : (bytes : List ℕ) → Some bytes ≡ None → ⊥
some_not bytes is = cc

whole_up : (b up : Bool) → up ≡ b → (b ≡ false → ⊥) → up ≡ true
whole_up true up is not_down = is
whole_up false up is not_down = absurd (not_down refl)

-- BEGINNING ANEW
not_up : (role : Role) → role ≡ Responder → is_established (first_phase role) ≡ true → ⊥
not_up Responder is up = cc
not_up Initiator is up = cc

pub stands_joined : (s : ServerState) → Stands s → Stands (joined_server s)
stands_joined s stands = record {
  disk = stands.disk;
  link = record { role = stands.link.role; phase = subst (λ (r : Role). AnswersLink (first_phase r)) (sym stands.link.role) tt; seen = refl };
  handshake = handshake_joined s.blocks s.slots s.handshake stands.handshake;
  began = record {
    down = λ down. record { phase = refl; owed = refl; to_send = refl; session = refl };
    up = λ up. absurd (not_up s.link.role stands.link.role up);
  };
  session = tt;
  work = tt;
}

-- TAKING, where no descriptor is in work: what holds after a packet, but for the message that became whole
work_none : (s : ServerState) (work : Option Work) → work ≡ None → WorkIn s work
work_none s work is = subst (λ (w : Option Work). WorkIn s w) (sym is) tt

pub record Rose (r : ServerState) : Type 0 where
  pub disk : IsDisk r.blocks r.slots
  pub role : r.link.role ≡ Responder
  pub phase : AnswersLink r.link.phase
  pub handshake_stands : HandshakeStands r.blocks r.slots r.handshake
  pub began : Began r
  pub session_open : IsOpen r.session r.handshake.phase
  pub none : r.work ≡ None

with_seen : (r : ServerState) → Rose r → r.link.whole ≡ None → Stands r
with_seen r rose seen = record {
  disk = rose.disk;
  link = record { role = rose.role; phase = rose.phase; seen = seen };
  handshake = rose.handshake_stands;
  began = rose.began;
  session = rose.session_open;
  work = work_none r r.work rose.none;
}

-- the link was up already, or comes up, or doesn't
rose_up : (s : ServerState) (k : LinkState) (h : Handshake) → Stands s → LinkTook s.link k → s.work ≡ None → is_up s.link ≡ true → h ≡ s.handshake
    → Rose (record s { link = k; handshake = h })
rose_up s k h stands took none was is =
    let up : is_up k ≡ true = took.stays was in
    record {
      disk = stands.disk;
      role = took.role ∙ stands.link.role;
      phase = took.phase stands.link.phase;
      handshake_stands = subst (λ (g : Handshake). HandshakeStands s.blocks s.slots g) (sym is) stands.handshake;
      began = record {
        down = λ down. absurd (both_ways (is_up k) up down);
        up = λ _. subst (λ (g : Handshake). g.phase ≢ handshake.Down) (sym is) (stands.began.up was);
      };
      session_open = subst (λ (g : Handshake). IsOpen s.session g.phase) (sym is) stands.session;
      none = none;
    }

rose_now : (s : ServerState) (k : LinkState) (h : Handshake) → Stands s → LinkTook s.link k → s.work ≡ None → is_up s.link ≡ false → is_up k ≡ true → h ≡ handshake_up s.handshake
    → Rose (record s { link = k; handshake = h })
rose_now s k h stands took none was up is =
    let quiet : IsQuiet s = stands.began.down was in
    let version : h.phase ≡ handshake.Version = ap (λ (g : Handshake). g.phase) (is ∙ up_is s.handshake stands.handshake.role) in
    record {
      disk = stands.disk;
      role = took.role ∙ stands.link.role;
      phase = took.phase stands.link.phase;
      handshake_stands = subst (λ (g : Handshake). HandshakeStands s.blocks s.slots g) (sym is) (handshake_rises s.blocks s.slots s.handshake stands.handshake);
      began = record {
        down = λ down. absurd (both_ways (is_up k) up down);
        up = λ _ down. version_down h.phase version down;
      };
      session_open = subst (λ (x : Option ServerSession). IsOpen x h.phase) (sym quiet.session) tt;
      none = none;
    }

rose_not : (s : ServerState) (k : LinkState) (h : Handshake) → Stands s → LinkTook s.link k → s.work ≡ None → is_up s.link ≡ false → is_up k ≡ false → h ≡ s.handshake
    → Rose (record s { link = k; handshake = h })
rose_not s k h stands took none was down is =
    let quiet : IsQuiet s = stands.began.down was in
    record {
      disk = stands.disk;
      role = took.role ∙ stands.link.role;
      phase = took.phase stands.link.phase;
      handshake_stands = subst (λ (g : Handshake). HandshakeStands s.blocks s.slots g) (sym is) stands.handshake;
      began = record {
        down = λ _. record {
          phase = ap (λ (g : Handshake). g.phase) is ∙ quiet.phase;
          owed = ap (λ (g : Handshake). g.owed) is ∙ quiet.owed;
          to_send = took.to_send ∙ quiet.to_send;
          session = quiet.session;
        };
        up = λ up. absurd (both_ways (is_up k) up down);
      };
      session_open = subst (λ (x : Option ServerSession). IsOpen x h.phase) (sym quiet.session) tt;
      none = none;
    }

rose : (s : ServerState) (k : LinkState) → Stands s → LinkTook s.link k → s.work ≡ None → Rose (record s { link = k; handshake = handshake_risen s.link k s.handshake })
rose s k stands took none =
    elim (either (is_up s.link)) [
      | inl was ↦ rose_up s k (handshake_risen s.link k s.handshake) stands took none was (rw (was, took.stays was) refl)
      | inr was ↦ elim (either (is_up k)) [
        | inl up ↦ rose_now s k (handshake_risen s.link k s.handshake) stands took none was up (rw (up, was) refl)
        | inr down ↦ rose_not s k (handshake_risen s.link k s.handshake) stands took none was down (rw down refl)
      ]
    ]

-- a message of the handshake
open_goes : (session : Option ServerSession) (h t : Handshake) (message : Message) → IsOpen session h.phase → handshake_take h message ≡ GoesHandshake t → IsOpen session t.phase
open_goes None h t message opened is = tt
open_goes (Some session) h t message opened is = goes_open h t message opened is

by_handshake_take : (s t : ServerState) (take : HandshakeTake) (message : Message) (opens : Bool) → Stands s → is_up s.link ≡ true → s.work ≡ None → IsWellFormed message
    → handshake_take s.handshake message ≡ take → by_handshake s take ≡ GoesOn t opens → Stands t
by_handshake_take s t (GoesHandshake h) message opens stands up none form is on =
    let went : HandshakeWent s.blocks s.slots s.handshake h = goes_stands s.blocks s.slots s.handshake h message stands.handshake form is in
    subst (λ (x : ServerState). Stands x) (on_state (record s { handshake = h }) t false opens on)
    (record {
      disk = stands.disk;
      link = record { role = stands.link.role; phase = stands.link.phase; seen = stands.link.seen };
      handshake = went.stands;
      began = record { down = λ down. absurd (both_ways (is_up s.link) up down); up = λ up. went.began (stands.began.up up) };
      session = open_goes s.session s.handshake h message stands.session is;
      work = work_none (record s { handshake = h }) s.work none;
    })
by_handshake_take s t (GoesOpen h) message opens stands up none form is on =
    let went : HandshakeWent s.blocks s.slots s.handshake h = opens_stands s.blocks s.slots s.handshake h message stands.handshake form is in
    subst (λ (x : ServerState). Stands x) (on_state (record s { handshake = h; session = Some opened_server }) t true opens on)
    (record {
      disk = stands.disk;
      link = record { role = stands.link.role; phase = stands.link.phase; seen = stands.link.seen };
      handshake = went.stands;
      began = record { down = λ down. absurd (both_ways (is_up s.link) up down); up = λ up. went.began (stands.began.up up) };
      session = opens_open s.handshake h message is;
      work = work_none (record s { handshake = h; session = Some opened_server }) s.work none;
    })
by_handshake_take s t (Faults cause) message opens stands up none form is on = absurd (resets_not cause t opens on)

-- an INFO of a range
info_goes : (a b c d : Bool) (w x y z : Cause) (u t : ServerState) (opens : Bool)
    → (if a then Resets w else if b then Resets x else if c then Resets y else if d then Resets z else GoesOn u false) ≡ GoesOn t opens → u ≡ t
info_goes true b c d w x y z u t opens is = absurd (resets_not w t opens is)
info_goes false true c d w x y z u t opens is = absurd (resets_not x t opens is)
info_goes false false true d w x y z u t opens is = absurd (resets_not y t opens is)
info_goes false false false true w x y z u t opens is = absurd (resets_not z t opens is)
info_goes false false false false w x y z u t opens is = on_state u t false opens is

by_info : (s t : ServerState) (session : ServerSession) (ident : ℕ) (range : SlotRange) (opens : Bool) → Stands s → is_up s.link ≡ true → s.work ≡ None → s.session ≡ Some session
    → takes_info s session ident range ≡ GoesOn t opens → Stands t
by_info s t session ident range opens stands up none held is =
    subst (λ (x : ServerState). Stands x)
    (info_goes (is_other s.handshake.draft.ident_peer ident) (is_other session.seq range.seq) (is_other (place_of s session) range.start) (nat_le s.handshake.draft.peer_slots range.end)
    (the_cause.Ident s.handshake.draft.ident_peer ident) (the_cause.Seq session.seq range.seq) (the_cause.Slot (place_of s session) range.start) (the_cause.RangeEnd range.end)
    (asked s session range) t opens is)
    (record {
      disk = stands.disk;
      link = record { role = stands.link.role; phase = stands.link.phase; seen = stands.link.seen };
      handshake = stands.handshake;
      began = record { down = λ down. absurd (both_ways (is_up s.link) up down); up = stands.began.up };
      session = subst (λ (x : Option ServerSession). IsOpen x s.handshake.phase) held stands.session;
      work = work_none (asked s session range) s.work none;
    })

in_session_stands : (s t : ServerState) (session : ServerSession) (message : Message) (subtype : Subtype) (body : MsgBody) (opens : Bool)
    → Stands s → is_up s.link ≡ true → s.work ≡ None → s.session ≡ Some session → IsWellFormed message
    → in_session s session message subtype body ≡ GoesOn t opens → Stands t
in_session_stands s t session message Info (DringData seq ident start end state) opens stands up none held form is =
    by_info s t session ident (record { seq = seq; start = start; end = end; state = state }) opens stands up none held is
in_session_stands s t session message subtype body opens stands up none held form is =
    by_handshake_take s t (handshake_take s.handshake message) message opens stands up none form refl is

sid_stands : (s t : ServerState) (fault : Option Cause) (take : ServerTake) (opens : Bool) → (take ≡ GoesOn t opens → Stands t) → sid_first fault take ≡ GoesOn t opens → Stands t
sid_stands s t None take opens so is = so is
sid_stands s t (Some cause) take opens so is = absurd (resets_not cause t opens is)

hears_stands : (s t : ServerState) (session : Option ServerSession) (message : Message) (opens : Bool) → Stands s → is_up s.link ≡ true → s.work ≡ None → s.session ≡ session
    → IsWellFormed message → hears_message s session message ≡ GoesOn t opens → Stands t
hears_stands s t None message opens stands up none held form is = by_handshake_take s t (handshake_take s.handshake message) message opens stands up none form refl is
hears_stands s t (Some session) message opens stands up none held form is =
    sid_stands s t (sid_fault s.handshake.sid message.sid) (in_session s session message message.subtype message.body) opens
    (in_session_stands s t session message message.subtype message.body opens stands up none held form) is

reads_stands : (s t : ServerState) (decoded : Result Message TagFault) (bytes : List ℕ) (opens : Bool) → Stands s → is_up s.link ≡ true → s.work ≡ None
    → Decodes bytes decoded → reads s decoded ≡ GoesOn t opens → Stands t
reads_stands s t (Ok message) bytes opens stands up none decodes is = hears_stands s t s.session message opens stands up none refl decodes.message.0 is
reads_stands s t (Err fault) bytes opens stands up none decodes is = absurd (resets_not (the_cause.Tag fault) t opens is)

whole_stands : (r t : ServerState) (whole : Option (List ℕ)) (opens : Bool) → Rose r → r.link.whole ≡ whole → (whole ≢ None → is_up r.link ≡ true)
    → HearsWhole r whole (GoesOn t opens) → Stands t
whole_stands r t None opens rose_r is up hears = subst (λ (x : ServerState). Stands x) (sym (on_state t r opens false hears)) (with_seen r rose_r is)
whole_stands r t (Some bytes) opens rose_r is up (decoded, decodes, on) =
    reads_stands (record r { link = cleared r.link }) t decoded bytes opens
    (with_seen (record r { link = cleared r.link })
    (record {
      disk = rose_r.disk;
      role = rose_r.role;
      phase = rose_r.phase;
      handshake_stands = rose_r.handshake_stands;
      began = record {
        down = λ down. absurd (both_ways (is_up r.link) (up (λ none. some_not bytes none)) down);
        up = rose_r.began.up;
      };
      session_open = rose_r.session_open;
      none = rose_r.none;
    }) refl)
    (up (λ none. some_not bytes none)) rose_r.none decodes (sym on)

link_stands : (s t : ServerState) (packet : List ℕ) (take : LinkTake) (opens : Bool) → Stands s → s.work ≡ None → TakesBytes s.link packet take
    → HearsLink s take (GoesOn t opens) → Stands t
link_stands s t packet (Heard k) opens stands none takes hears =
    let took : LinkTook s.link k = link_took s.link k packet takes in
    whole_stands (record s { link = k; handshake = handshake_risen s.link k s.handshake }) t k.whole opens (rose s k stands took none) refl
    (λ some. whole_up (is_up k) (is_up k) refl (λ down. some (took.whole down ∙ stands.link.seen))) hears
link_stands s t packet (Unheard cause) opens stands none takes hears = absurd (resets_not cause t opens (sym hears))

pub stands_takes : (s t : ServerState) (packet : List ℕ) (opens : Bool) → Stands s → s.work ≡ None → ServerTakes s packet (GoesOn t opens) → Stands t
stands_takes s t packet opens stands none takes = link_stands s t packet takes.link opens stands none takes.takes takes.hears
