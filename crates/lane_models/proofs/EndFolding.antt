-- Each move of an end leaves its link's phase and its handshake as its turns have them.
use Rattle.std.proofs.Common.{◌≡◌, ℕ, ◌≤◌, Bool, true, false, inl, inr, Option, Some, None, List, [], ◌∷◌, ◌++◌, refl, sym, ap, ◌∙◌, subst, arith}
use Rattle.std.specs.Prelude.{Result, Ok}
use Rattle.runs.specs.Run.{Run}
use Rattle.ldc_link.specs.declared.phase.LinkPhase.{LinkPhase}
use Rattle.ldc_link.specs.declared.phase.LinkPhase.TheVariants as phase
use Rattle.ldc_link.specs.declared.phase.Role.{Role}
use Rattle.ldc_link.specs.declared.phase.Role.TheVariants.{Initiator, Responder}
use Rattle.ldc_link.specs.LinkState.{LinkState, is_established, is_up}
use Rattle.ldc_link.specs.Putting.{phase_behind_put}
use Rattle.ldc_packet.specs.declared.packet.Body.TheVariants.{Rdx}
use Rattle.ldc_packet.specs.declared.packet.Subtype.TheVariants.{Info}
use Rattle.ldc_queue.specs.Fragments.{is_part}
use Rattle.ldc_queue.specs.Transcript.{Heard as Heard_, Said as Said_, Utterance}
use Rattle.vio_tag.proofs.Deciding.{some_result}
use Rattle.vio_tag.proofs.Reading.{one_result, spelled_decodes}
use Rattle.vio_tag.specs.declared.message.Message.{Message}
use Rattle.vio_tag.specs.declared.message.MsgBody.TheVariants.{Ver}
use Rattle.vio_tag.specs.declared.message.TagFault.{TagFault}
use Rattle.vio_tag.specs.Form.{IsWellFormed}
use Rattle.vio_tag.specs.Spelling.{SpellsMessage, canonical}
use Rattle.vio_handshake.specs.declared.handshake.Handshake.{Handshake}
use Rattle.vio_handshake.specs.declared.handshake.Phase.TheVariants.{Down, Version}
use Rattle.vio_handshake.specs.declared.session.Offer.{Offer}
use Rattle.vio_handshake.specs.Messages.{info}
use Rattle.vio_handshake.specs.Rules.{Faults, Goes, GoesOpen, HandshakeTake, handshake_sent, handshake_take}
use Rattle.vio_handshake.specs.State.{begun, handshake_up, joined_handshake, next_sid, no_session}
use Rattle.vio_handshake.proofs.PlaceRows.{GoesTo}
use Rattle.lane_models.specs.Messages.{ended_by}
use Rattle.lane_models.specs.Sayings.{half_heard, half_said, heard}
use Rattle.lane_models.specs.TranscriptLog.{is_rdx}
use Rattle.lane_models.proofs.Apart.{false_is_true, true_is_false}
use Rattle.lane_models.proofs.Conversations.{held_phase}
use Rattle.lane_models.proofs.EndCases.{EndTook, NoMessage, PutControl, PutMore, PutOwn, PutReady, PutHandshake, PutWhat, Rises, TookHandshake, TookMessage, TookOwn, TookWhat, end_put, end_took}
use Rattle.lane_models.proofs.EndResting.{held_handshake}
use Rattle.lane_models.proofs.EndStanding.{fresh_end_stands, held_stands, holds_some, stands_step}
use Rattle.lane_models.proofs.HandshakeCases.{goes_took, opens_took, row_apart, row_sent}
use Rattle.lane_models.proofs.HandshakesPlaced.{envelope_reads, held_offer}
use Rattle.lane_models.proofs.Lifting.{EndsAll, ends_run}
use Rattle.lane_models.proofs.LinkCases.{LinkHeard, LinkPut, canonical_is, link_put, put_quiet, ready_loud}
use Rattle.lane_models.proofs.Sids.{loud_rdx, part_rdx, quiet_rdx, row_last, sent_last}
use Rattle.lane_models.proofs.UtteranceCases.{SaysLast, heard_none, heard_some, said_none, said_some}
use Rattle.lane_models.specs.Cuts.{CarriesEither}
use Rattle.lane_models.specs.EndCore.{Begins, EndCore, EndMove, Fails, Hears, Renews, Says, Stays, Waits, fresh_end}
use Rattle.lane_models.specs.EndFold.{EndFolds, behind_decoded, behind_heard, behind_said, decoded_of, down_with, handshake_of, is_of_session, moved_by, phase_heard, sent_unless, up_if, up_with}
use Rattle.lane_models.specs.EndStep.{EndBegins, EndHears, EndSays, EndStep, IsOfSession}
use Rattle.lane_models.specs.LaneCore.{CoreEvent, CoreFits, CoreStep, LaneCore, fresh_core, transcript_behind, utterances_after}
use Rattle.lane_models.specs.Standing.{EndStands, IsShort, OwedIsShort}

-- WHAT A LINK HEARS moves its phase by the packet's fields
heard_phase : (k m : LinkState) (bytes : List ℕ) → LinkHeard k bytes m → m.phase ≡ phase_heard (is_part bytes) k.phase bytes
heard_phase k m bytes heard_holds = grind arith

-- and it comes up by RDX alone
heard_quiet : (k m : LinkState) (bytes : List ℕ) → LinkHeard k bytes m → is_up m ≡ is_up k → is_rdx bytes ≡ false
heard_quiet k m bytes heard_holds same = grind arith

heard_rdx : (k m : LinkState) (bytes : List ℕ) → LinkHeard k bytes m → is_up k ≡ false → is_up m ≡ true → is_rdx bytes ≡ true
heard_rdx k m bytes heard_holds down up = grind arith

-- WHAT IT PUTS moves it too
link_phase_put : (k m : LinkState) (bytes : List ℕ) → LinkPut k bytes m → m.phase ≡ phase_behind_put k.phase
link_phase_put k m bytes put = grind arith

-- A MESSAGE OF THE SESSION, and one that a handshake owes
own_session : (m : Message) → IsOfSession m.body → is_of_session (canonical m) ≡ true
own_session m of = grind (arith, envelope_reads)

owed_session : (m : Message) → IsShort m.body → is_of_session (canonical m) ≡ false
unfolding canonical
owed_session m short = grind arith

-- what a handshake makes of a message that it takes, and of one of the session, which it doesn't take
moves_to : (h t : Handshake) (message : Message) → GoesTo (handshake_take h message) t → t ≡ moved_by (handshake_take h message) h
moves_to h t message (inl goes) = sym (ap (λ (take : HandshakeTake). moved_by take h) goes)
moves_to h t message (inr goes) = sym (ap (λ (take : HandshakeTake). moved_by take h) goes)

stays_by : (h : Handshake) (message : Message) → IsOfSession message.body → h ≡ moved_by (handshake_take h message) h
stays_by h message of = by_take (handshake_take h message) refl
  where
    by_take : (take : HandshakeTake) → handshake_take h message ≡ take → h ≡ moved_by take h
    by_take (Goes t) is = absurd (row_apart h t message false (goes_took h t message is).row of)
    by_take (GoesOpen t) is = absurd (row_apart h t message true (opens_took h t message is).row of)
    by_take (Faults cause) is = refl

-- COMING UP, and down
abbrev risen : Role → Offer → ℕ → Handshake
risen role offer n = record {
  role = role;
  offer = offer;
  phase = Version;
  sid = Some n;
  last_sid = n;
  owed = Some (info n (Ver 1 offer.minor offer.class));
  draft = record no_session { sid = n };
}

abbrev waits : Role → Offer → ℕ → Handshake
waits role offer last = record { role = role; offer = offer; phase = Version; sid = None; last_sid = last; owed = None; draft = no_session }

abbrev downs : Role → Offer → ℕ → Handshake
downs role offer last = record { role = role; offer = offer; phase = Down; sid = None; last_sid = last; owed = None; draft = no_session }

asker_up : (offer : Offer) (h : Handshake) → h.role ≡ Initiator → h.offer ≡ offer → handshake_up h ≡ up_with Initiator offer (next_sid h)
asker_up offer h role_is offer_is =
    ap (λ (r : Role). begun r (joined_handshake h)) role_is ∙ ap (λ (r : Role). risen r h.offer (next_sid h)) role_is ∙ ap (λ (o : Offer). risen Initiator o (next_sid h)) offer_is

answerer_up : (offer : Offer) (h : Handshake) → h.role ≡ Responder → h.offer ≡ offer → handshake_up h ≡ up_with Responder offer h.last_sid
answerer_up offer h role_is offer_is =
    ap (λ (r : Role). begun r (joined_handshake h)) role_is ∙ ap (λ (r : Role). waits r h.offer h.last_sid) role_is ∙ ap (λ (o : Offer). waits Responder o h.last_sid) offer_is

joined_down : (role : Role) (offer : Offer) (h : Handshake) → h.role ≡ role → h.offer ≡ offer → joined_handshake h ≡ down_with role offer h.last_sid
joined_down role offer h role_is offer_is = ap (λ (r : Role). downs r h.offer h.last_sid) role_is ∙ ap (λ (o : Offer). downs role o h.last_sid) offer_is

-- A HANDSHAKE after one turn more
module _ (role : Role) (offer : Offer) (last : ℕ) (turns : List Utterance) (packet : List ℕ) where
  hears_so : (h g : Handshake) (ended : Option (List ℕ)) → is_rdx packet ≡ false → ended_by (half_heard turns) packet ≡ ended → h ≡ handshake_of role offer last turns
      → g ≡ behind_heard ended h → g ≡ handshake_of role offer last (Heard_ packet ∷ turns)
  hears_so h g ended apart ends is behind =
      behind ∙ ap (behind_heard ended) is ∙ sym (ap (λ (o : Option (List ℕ)). behind_heard o (handshake_of role offer last turns)) ends)
      ∙ sym (ap (λ (b : Bool). up_if b (up_with role offer last) (behind_heard (ended_by (half_heard turns) packet) (handshake_of role offer last turns))) apart)

  hears_message : (bytes : List ℕ) (message : Message) (h g : Handshake) → is_rdx packet ≡ false → heard (Heard_ packet ∷ turns) ≡ heard turns ++ bytes ∷ [] → IsWellFormed message
      → SpellsMessage bytes message → g ≡ moved_by (handshake_take h message) h → h ≡ handshake_of role offer last turns → g ≡ handshake_of role offer last (Heard_ packet ∷ turns)
  hears_message bytes message h g apart more form spells moves is =
      let decodes : decoded_of bytes ≡ Ok message =
      one_result bytes (some_result bytes).0 (Ok message) (some_result bytes).1 (spelled_decodes bytes message form spells) in
      hears_so h g (Some bytes) apart (heard_some turns packet bytes more) is (moves ∙ sym (ap (λ (d : Result Message TagFault). behind_decoded d h) decodes))

  hears_up : (g : Handshake) → is_rdx packet ≡ true → g ≡ up_with role offer last → g ≡ handshake_of role offer last (Heard_ packet ∷ turns)
  hears_up g sure is =
      is ∙ sym (ap (λ (b : Bool). up_if b (up_with role offer last) (behind_heard (ended_by (half_heard turns) packet) (handshake_of role offer last turns))) sure)

  says_up : (g : Handshake) → is_rdx packet ≡ true → g ≡ up_with role offer last → g ≡ handshake_of role offer last (Said_ packet ∷ turns)
  says_up g sure is = is ∙ sym (ap (λ (b : Bool). up_if b (up_with role offer last) (behind_said (ended_by (half_said turns) packet) (handshake_of role offer last turns))) sure)

  says_so : (h g : Handshake) (ended : Option (List ℕ)) → is_rdx packet ≡ false → ended_by (half_said turns) packet ≡ ended → h ≡ handshake_of role offer last turns
      → g ≡ behind_said ended h → g ≡ handshake_of role offer last (Said_ packet ∷ turns)
  says_so h g ended apart ends is behind =
      behind ∙ ap (behind_said ended) is ∙ sym (ap (λ (o : Option (List ℕ)). behind_said o (handshake_of role offer last turns)) ends)
      ∙ sym (ap (λ (b : Bool). up_if b (up_with role offer last) (behind_said (ended_by (half_said turns) packet) (handshake_of role offer last turns))) apart)

-- AN END of these parts, with the same last sid
pub record FoldsSo (role : Role) (c : EndCore) (turns : List Utterance) : Type 0 where
  pub stands : EndStands role c turns
  pub folds : EndFolds role c turns

same_last : (role : Role) (t : EndCore) (offer : Offer) (last : ℕ) (turns : List Utterance) → t.offer ≡ offer → t.handshake.last_sid ≡ last → t.handshake ≡ handshake_of role offer last turns
    → t.handshake ≡ handshake_of role t.offer t.handshake.last_sid turns
same_last role t offer last turns offered same is =
    is ∙ sym (ap (λ (o : Offer). handshake_of role o t.handshake.last_sid turns) offered ∙ ap (λ (n : ℕ). handshake_of role offer n turns) same)

-- IT HEARS a packet
hears_folds : (role : Role) (c t : EndCore) (turns : List Utterance) (packet : List ℕ) (opens : Bool) → EndStands role c turns → EndFolds role c turns → EndHears role c packet opens t
    → EndFolds role t (Heard_ packet ∷ turns)
hears_folds role c t turns packet opens stands folds hears = record {
  phase = ap (λ (x : LinkState). x.phase) took.link ∙ heard_phase c.link took.now packet took.how ∙ ap (λ (p : LinkPhase). phase_heard (is_part packet) p packet) folds.phase;
  handshake = by_what took.what;
}
  where
    took : EndTook role c turns packet opens t
    took = end_took role c t turns packet opens stands hears

    last : ℕ
    last = c.handshake.last_sid

    as_was : t.handshake.last_sid ≡ last → t.handshake ≡ handshake_of role c.offer last (Heard_ packet ∷ turns) → t.handshake ≡ handshake_of role t.offer t.handshake.last_sid (Heard_ packet ∷ turns)
    as_was same is = same_last role t c.offer last (Heard_ packet ∷ turns) hears.offer same is

    by_role : (r : Role) → role ≡ r → r ≡ Responder → t.handshake ≡ handshake_up c.handshake → (t.handshake.last_sid ≡ last) × (t.handshake ≡ up_with role c.offer last)
    by_role r is responds up =
        let rises = up ∙ answerer_up c.offer c.handshake (stands.handshake.role_is ∙ is ∙ responds) stands.handshake.offer_is in (
          ap (λ (h : Handshake). h.last_sid) rises,
          rises ∙ sym (ap (λ (x : Role). up_with x c.offer last) (is ∙ responds)),
        )

    message_apart : (message : Message) → TookMessage c turns packet took.now message → is_rdx packet ≡ false
    message_apart message took_message = heard_quiet c.link took.now packet took.how (took_message.stays ∙ sym took_message.up)

    by_what : TookWhat role c turns packet opens t took.now → t.handshake ≡ handshake_of role t.offer t.handshake.last_sid (Heard_ packet ∷ turns)
    by_what (NoMessage same quiet handshake not is_open) =
        as_was (ap (λ (h : Handshake). h.last_sid) handshake)
        (handshake ∙ hears_so role c.offer last turns packet c.handshake c.handshake None (heard_quiet c.link took.now packet took.how same) (heard_none turns packet quiet) folds.handshake refl)
    by_what (Rises role_is down up quiet handshake not is_open) =
        let rises = by_role role refl role_is handshake in
        as_was rises.0 (hears_up role c.offer last turns packet t.handshake (heard_rdx c.link took.now packet took.how down up) rises.1)
    by_what (TookOwn message took_message own handshake not is_open) =
        as_was (ap (λ (h : Handshake). h.last_sid) handshake)
        (handshake ∙ hears_message role c.offer last turns packet took_message.bytes message c.handshake c.handshake (message_apart message took_message) took_message.messages took_message.form
        took_message.spells (stays_by c.handshake message own.body) folds.handshake)
    by_what (TookHandshake message took_message handshake is_open) =
        as_was (row_last c.handshake t.handshake message opens handshake.row)
        (hears_message role c.offer last turns packet took_message.bytes message c.handshake t.handshake (message_apart message took_message) took_message.messages took_message.form
        took_message.spells (moves_to c.handshake t.handshake message handshake.takes) folds.handshake)

-- IT SAYS a packet
says_folds : (role : Role) (c t : EndCore) (turns : List Utterance) (packet : List ℕ) (opens : Bool) → EndStands role c turns → EndFolds role c turns → EndSays role c packet opens t
    → EndFolds role t (Said_ packet ∷ turns)
says_folds role c t turns packet opens stands folds says = record {
  phase = link_phase_put held.link t.link packet (link_put held.link t.link packet says.puts) ∙ ap phase_behind_put (held_phase c held says.what says.holds ∙ folds.phase);
  handshake = by_what (end_put role c t turns packet opens says holds_so);
}
  where
    held : EndCore
    held = says.held

    holds_so : EndStands role held turns
    holds_so = held_stands role c held turns says.what stands says.holds

    same : held.handshake ≡ c.handshake
    same = held_handshake c held says.what says.holds

    offered : t.offer ≡ c.offer
    offered = says.offer ∙ held_offer c held says.what says.holds

    last : ℕ
    last = c.handshake.last_sid

    was : held.handshake ≡ handshake_of role c.offer last turns
    was = same ∙ folds.handshake

    as_was : t.handshake.last_sid ≡ held.handshake.last_sid → t.handshake ≡ handshake_of role c.offer last (Said_ packet ∷ turns)
        → t.handshake ≡ handshake_of role t.offer t.handshake.last_sid (Said_ packet ∷ turns)
    as_was keeps is = same_last role t c.offer last (Said_ packet ∷ turns) offered (keeps ∙ ap (λ (h : Handshake). h.last_sid) same) is

    whole : SaysLast held.link turns packet → held.link.phase ≡ phase.Established → CarriesEither held.own held.handshake (half_said turns ++ held.link.to_send)
    whole last_part est = holds_so.carries (holds_some held.link (ap is_established est) last_part.some)

    own_is : (b : Bool) (bytes : List ℕ) → b ≡ true → CarriesEither b held.handshake bytes → is_of_session bytes ≡ true
    own_is true bytes is carries = ap is_of_session carries.is ∙ own_session carries.message carries.body
    own_is false bytes is carries = false_is_true is

    owed_is : (b : Bool) (bytes : List ℕ) → b ≡ false → CarriesEither b held.handshake bytes → is_of_session bytes ≡ false
    owed_is false bytes is carries = ap is_of_session carries.is ∙ owed_session carries.message (subst OwedIsShort carries.owed holds_so.handshake.owed)
    owed_is true bytes is carries = true_is_false is

    by_what : PutWhat role held turns packet opens t → t.handshake ≡ handshake_of role t.offer t.handshake.last_sid (Said_ packet ∷ turns)
    by_what (PutControl next gone link quiet handshake not is_open) =
        as_was (ap (λ (h : Handshake). h.last_sid) handshake)
        (handshake ∙ says_so role c.offer last turns packet held.handshake held.handshake None (quiet_rdx packet (put_quiet held.link.phase packet next holds_so.link.follows.offers gone).0)
        (said_none turns packet quiet.messages) was refl)
    by_what (PutReady role_is at spelled link quiet handshake not is_open) =
        let loud = ready_loud packet Info (canonical_is packet Info held.link.put_next Rdx tt (omega (arith, holds_so.link.follows.puts), tt) spelled) in
        let n = next_sid held.handshake in
        let rises : t.handshake ≡ up_with Initiator c.offer n =
        handshake ∙ asker_up c.offer held.handshake (holds_so.handshake.role_is ∙ role_is) (holds_so.handshake.offer_is ∙ held_offer c held says.what says.holds) in
        same_last role t c.offer n (Said_ packet ∷ turns) offered (ap (λ (h : Handshake). h.last_sid) rises)
        (says_up role c.offer n turns packet t.handshake (loud_rdx packet loud.0 loud.1) (rises ∙ sym (ap (λ (r : Role). up_with r c.offer n) role_is)))
    by_what (PutMore at link more handshake not is_open) =
        as_was (ap (λ (h : Handshake). h.last_sid) handshake)
        (handshake ∙ says_so role c.offer last turns packet held.handshake held.handshake None (part_rdx packet more.part.part) (said_none turns packet more.messages) was refl)
    by_what (PutOwn own at link last_part handshake not is_open) =
        let bytes = half_said turns ++ held.link.to_send in
        as_was (ap (λ (h : Handshake). h.last_sid) handshake)
        (handshake ∙ says_so role c.offer last turns packet held.handshake held.handshake (Some bytes) (part_rdx packet last_part.part.part) (said_some turns packet bytes last_part.messages) was
        (sym (ap (λ (b : Bool). sent_unless b held.handshake) (own_is held.own bytes own (whole last_part at)))))
    by_what (PutHandshake own at link last_part handshake flag is_open) =
        let bytes = half_said turns ++ held.link.to_send in
        as_was (ap (λ (h : Handshake). h.last_sid) handshake ∙ sent_last held.handshake (handshake_sent held.handshake) _ (row_sent held.handshake))
        (handshake ∙ says_so role c.offer last turns packet held.handshake (handshake_sent held.handshake) (Some bytes) (part_rdx packet last_part.part.part)
        (said_some turns packet bytes last_part.messages) was (sym (ap (λ (b : Bool). sent_unless b held.handshake) (owed_is held.own bytes own (whole last_part at)))))

-- EACH MOVE
begins_folds : (role : Role) (c t : EndCore) (turns : List Utterance) → EndStands role c turns → EndBegins c t → EndFolds role t []
begins_folds role c t turns stands begins = grind arith

held_folds : (role : Role) (c t : EndCore) (turns : List Utterance) → EndFolds role c turns → t.link.phase ≡ c.link.phase → t.handshake ≡ c.handshake → t.offer ≡ c.offer → EndFolds role t turns
held_folds role c t turns folds link handshake offer = search

folds_move : (role : Role) (c : EndCore) (move : EndMove) (t : EndCore) (turns : List Utterance) → FoldsSo role c turns → EndStep role c move t → EndFolds role t (utterances_after turns move)
folds_move role c Begins t turns so step = begins_folds role c t turns so.stands step
folds_move Initiator c Renews t turns so step = record {
  phase = ap (λ (k : LinkState). k.phase) step.link;
  handshake = same_last Initiator t c.offer c.handshake.last_sid [] step.offer (ap (λ (h : Handshake). h.last_sid) step.handshake)
      (step.handshake ∙ joined_down Initiator c.offer c.handshake so.stands.handshake.role_is so.stands.handshake.offer_is);
}
folds_move Responder c Renews t turns so step = record {
  phase = ap (λ (k : LinkState). k.phase) step.link;
  handshake = same_last Responder t c.offer 0 [] step.offer (ap (λ (h : Handshake). h.last_sid) step.handshake) step.handshake;
}
folds_move role c (Fails cause packet) t turns so step = begins_folds role c t turns so.stands step.1
folds_move role c (Hears packet opens) t turns so step = hears_folds role c t turns packet opens so.stands so.folds step
folds_move role c (Says packet opens) t turns so step = says_folds role c t turns packet opens so.stands so.folds step
folds_move role c Waits t turns so step =
    held_folds role c t turns so.folds (held_phase c t step.what step.holds) (held_handshake c t step.what step.holds) (held_offer c t step.what step.holds)
folds_move role c Stays t turns so step = held_folds role c t turns so.folds (ap (λ (k : LinkState). k.phase) step.link) step.handshake step.offer

folds_step : (role : Role) (c : EndCore) (move : EndMove) (t : EndCore) (turns : List Utterance) → FoldsSo role c turns → EndStep role c move t → FoldsSo role t (utterances_after turns move)
folds_step role c move t turns so step = record { stands = stands_step role c move t turns so.stands step; folds = folds_move role c move t turns so step }

-- ALONG EVERY RUN
first_folds : (role : Role) (offer : Offer) → offer.count ≤ 14 → FoldsSo role (fresh_end role offer) []
first_folds role offer few = record { stands = fresh_end_stands role offer few; folds = record { phase = refl; handshake = refl } }

pub folds_run : (entries : ℕ) (asks answers : Offer) (events : List CoreEvent) (s : LaneCore) → CoreFits entries asks answers
    → Run CoreStep (fresh_core entries asks answers) events s → EndsAll FoldsSo s (transcript_behind events)
folds_run entries asks answers events s fits run = search (ends_run, folds_step, first_folds)
