-- Every run of two handshakes whose offers match is a transcript, and at rest it ends in agreement.
use Rattle.std.proofs.Common.{arith, ◌+◌, ◌*◌, ◌≤◌, suc, ◌⊎◌, inl, inr, length, ◌≡◌, Bool, true, false, None, List, [], ◌∷◌, sym, ap, ◌∙◌, refl, subst, ℕ, Option, Some}
use Rattle.ldc_link.specs.declared.phase.Role.{Role}
use Rattle.ldc_link.specs.declared.phase.Role.TheVariants.{Initiator, Responder}
use Rattle.runs.specs.Run.{Run}
use Rattle.vio_tag.specs.declared.message.Message.{Message}
use Rattle.vio_handshake.specs.Offers.{Match}
use Rattle.vio_handshake.specs.Pairing.{Act, Puts, Takes, Agreed, AreHeard, AtRest, IsHeard, KnowsBoth, Pair, PairStep, met}
use Rattle.vio_handshake.specs.State.{IsFault, next_sid, session_of, handshake_up}
use Rattle.vio_handshake.specs.declared.session.HsOut.{HsOut}
use Rattle.vio_handshake.specs.declared.session.HsOut.TheVariants.{Nothing, Opens, Fault}
use Rattle.vio_handshake.specs.declared.handshake.Handshake.{Handshake}
use Rattle.vio_handshake.proofs.PlaceRows.{Fits}
use Rattle.vio_handshake.proofs.Places.{Place, VersionSaid, AllSaid, Deal, IsPlace, answered_in_all, asked_in_all, message_at, next, owed_by, owner, handshake_at}
use Rattle.vio_handshake.proofs.Transcribing.{Ahead, Level, MineOne, MineTwo, TheirsOne, TheirsTwo, Scene, Transcript, CanAct, first_taken, left, own_puts, transcript_puts, transcript_takes, turn_transcript}

-- the initiator's view
abbrev pub InTranscript : Bool → Deal → ℕ → Pair → Type 0
InTranscript both d count s = Transcript both d Initiator count s.initiator s.responder s.to_initiator s.to_responder

-- what stays carries the acting end's transcript to the pair
stayed : (both : Bool) (d : Deal) (r : Role) (count : ℕ) (mine theirs now : Handshake) (to_me to_them me_left them_left : List Message)
    → now ≡ theirs → me_left ≡ to_me → them_left ≡ to_them → Transcript both d r count mine theirs to_me to_them → Transcript both d r count mine now me_left them_left
stayed both d r count mine theirs now to_me to_them me_left them_left same me them transcript =
    subst (λ (q : List Message). Transcript both d r count mine now q them_left) (sym me)
    (subst (λ (q : List Message). Transcript both d r count mine now to_me q) (sym them)
    (subst (λ (s : Handshake). Transcript both d r count mine s to_me to_them) (sym same) transcript))

is_heard : (r : Role) (answer : HsOut) → (IsFault answer → ⊥) → IsHeard (Takes r answer)
is_heard r Nothing heard = tt
is_heard r Opens heard = tt
is_heard r (Fault cause) heard = heard tt

-- one act more
pub record Goes (both : Bool) (d : Deal) (count : ℕ) (act : Act) (t : Pair) : Type 0 where
  pub now : ℕ
  pub fewer : count ≡ now + 1
  pub transcript : InTranscript both d now t
  pub heard : IsHeard act

pub transcript_step : (both : Bool) (d : Deal) (count : ℕ) (s t : Pair) (act : Act) → Fits both d → InTranscript both d count s → PairStep s act t → Goes both d count act t
transcript_step both d count s t (Puts Initiator) fits transcript step =
    let put = transcript_puts both d Initiator count s.initiator s.responder s.to_initiator s.to_responder t.initiator t.to_responder transcript step.0 in
    record {
      now = put.now;
      fewer = put.fewer;
      transcript = stayed both d Initiator put.now t.initiator s.responder t.responder s.to_initiator t.to_responder t.to_initiator t.to_responder step.1 step.2 refl put.transcript;
      heard = tt;
    }
transcript_step both d count s t (Puts Responder) fits transcript step =
    let seen = turn_transcript both d Initiator count s.initiator s.responder s.to_initiator s.to_responder transcript in
    let put = transcript_puts both d Responder count s.responder s.initiator s.to_responder s.to_initiator t.responder t.to_initiator seen step.0 in
    let kept = stayed both d Responder put.now t.responder s.initiator t.initiator s.to_responder t.to_initiator t.to_responder t.to_initiator step.1 step.2 refl put.transcript in
    record {
      now = put.now;
      fewer = put.fewer;
      transcript = turn_transcript both d Responder put.now t.responder t.initiator t.to_responder t.to_initiator kept;
      heard = tt;
    }
transcript_step both d count s t (Takes Initiator answer) fits transcript step =
    let took = transcript_takes both d Initiator count s.initiator s.responder s.to_initiator s.to_responder answer t.initiator t.to_initiator fits transcript step.0 in
    record {
      now = took.gone.now;
      fewer = took.gone.fewer;
      transcript = stayed both d Initiator took.gone.now t.initiator s.responder t.responder t.to_initiator s.to_responder t.to_initiator t.to_responder step.1 refl step.2 took.gone.transcript;
      heard = is_heard Initiator answer took.heard;
    }
transcript_step both d count s t (Takes Responder answer) fits transcript step =
    let seen = turn_transcript both d Initiator count s.initiator s.responder s.to_initiator s.to_responder transcript in
    let took = transcript_takes both d Responder count s.responder s.initiator s.to_responder s.to_initiator answer t.responder t.to_responder fits seen step.0 in
    let kept = stayed both d Responder took.gone.now t.responder s.initiator t.initiator t.to_responder s.to_initiator t.to_responder t.to_initiator step.1 refl step.2 took.gone.transcript in
    record {
      now = took.gone.now;
      fewer = took.gone.fewer;
      transcript = turn_transcript both d Responder took.gone.now t.responder t.initiator t.to_responder t.to_initiator kept;
      heard = is_heard Responder answer took.heard;
    }

pub record Went (both : Bool) (d : Deal) (count : ℕ) (acts : List Act) (t : Pair) : Type 0 where
  pub now : ℕ
  pub fewer : count ≡ now + length acts
  pub transcript : InTranscript both d now t
  pub heard : AreHeard acts

more_acts : (count middle now acts : ℕ) → count ≡ middle + 1 → middle ≡ now + acts → count ≡ now + suc acts
more_acts count middle now acts first rest = omega arith

pub transcript_run : (both : Bool) (d : Deal) (count : ℕ) (s t : Pair) (acts : List Act) → Fits both d → InTranscript both d count s → Run PairStep s acts t → Went both d count acts t
transcript_run both d count s t [] fits transcript run =
    record { now = count; fewer = omega arith; transcript = subst (λ (x : Pair). InTranscript both d count x) run transcript; heard = tt }
transcript_run both d count s t (act ∷ acts) fits transcript run =
    let gone = transcript_step both d count s run.0 act fits transcript run.1 in
    let rest = transcript_run both d gone.now run.0 t acts fits gone.transcript run.2 in
    record {
      now = rest.now;
      fewer = more_acts count gone.now rest.now (length acts) gone.fewer rest.fewer;
      transcript = rest.transcript;
      heard = (gone.heard, rest.heard);
    }

-- how it begins
abbrev pub deal_of : Handshake → Handshake → Deal
deal_of initiator responder = record {
  asks = initiator.offer;
  answers = responder.offer;
  sid = next_sid initiator;
  last = responder.last_sid;
}

begun_initiator : (both : Bool) (i r : Handshake) → i.role ≡ Initiator → handshake_up i ≡ handshake_at both (deal_of i r) Initiator VersionSaid
begun_initiator both i r is = rw (is) refl

begun_responder : (both : Bool) (i r : Handshake) → r.role ≡ Responder → handshake_up r ≡ handshake_at both (deal_of i r) Responder VersionSaid
begun_responder both i r is = rw (is) refl

place_there : (both : Bool) → IsPlace both VersionSaid
place_there true = tt
place_there false = tt

met_transcript : (both : Bool) (i r : Handshake) → i.role ≡ Initiator → r.role ≡ Responder → InTranscript both (deal_of i r) (2 * left both VersionSaid) (met i r)
met_transcript both i r is peer_is = record {
  place = VersionSaid;
  ahead = Level;
  here = place_there both;
  scene = (begun_initiator both i r is, begun_responder both i r peer_is, refl, refl);
  acts = refl;
}

fits_of : (i r : Handshake) → Match i.offer r.offer → Fits i.offer.both_rings (deal_of i r)
fits_of i r matched = record { kind = refl; peer_kind = matched.kind; ring = matched.ring; device = matched.device }

pub met_run : (i r : Handshake) (acts : List Act) (pair : Pair) → i.role ≡ Initiator → r.role ≡ Responder → Match i.offer r.offer
    → Run PairStep (met i r) acts pair → Went i.offer.both_rings (deal_of i r) (2 * left i.offer.both_rings VersionSaid) acts pair
met_run i r acts pair is peer_is matched run =
    transcript_run i.offer.both_rings (deal_of i r) (2 * left i.offer.both_rings VersionSaid) (met i r) pair acts (fits_of i r matched) (met_transcript i.offer.both_rings i r is peer_is) run

pub all_heard : (i r : Handshake) (acts : List Act) (pair : Pair) → i.role ≡ Initiator → r.role ≡ Responder → Match i.offer r.offer
    → Run PairStep (met i r) acts pair → AreHeard acts
all_heard i r acts pair is peer_is matched run = (met_run i r acts pair is peer_is matched run).heard

few_left : (both : Bool) → 2 * left both VersionSaid ≤ 24
few_left true = omega arith
few_left false = omega arith

few_acts : (acts now all : ℕ) → all ≡ now + acts → all ≤ 24 → acts ≤ 24
few_acts acts now all is few = omega arith

pub soon_over : (i r : Handshake) (acts : List Act) (pair : Pair) → i.role ≡ Initiator → r.role ≡ Responder → Match i.offer r.offer
    → Run PairStep (met i r) acts pair → length acts ≤ 24
soon_over i r acts pair is peer_is matched run =
    let gone = met_run i r acts pair is peer_is matched run in
    few_acts (length acts) gone.now (2 * left i.offer.both_rings VersionSaid) gone.fewer (few_left i.offer.both_rings)

-- one of the two can act, unless all is said
abbrev pub CanGoOn : Pair → Type 0
CanGoOn s = AtRest s ⊎ ((act : Act) × (t : Pair) × PairStep s act t)

initiator_acts : (s : Pair) → CanAct s.initiator s.to_initiator s.to_responder → CanGoOn s
initiator_acts s (inl puts) =
    inr (Puts Initiator, record s { initiator = puts.0; to_responder = puts.1 }, (puts.2, refl, refl))
initiator_acts s (inr takes) =
    inr (Takes Initiator takes.0, record s { initiator = takes.1; to_initiator = takes.2 }, (takes.3, refl, refl))

responder_acts : (s : Pair) → CanAct s.responder s.to_responder s.to_initiator → CanGoOn s
responder_acts s (inl puts) =
    inr (Puts Responder, record s { responder = puts.0; to_initiator = puts.1 }, (puts.2, refl, refl))
responder_acts s (inr takes) =
    inr (Takes Responder takes.0, record s { responder = takes.1; to_responder = takes.2 }, (takes.3, refl, refl))

owed_to_none : (r : Role) (both : Bool) (d : Deal) (n : Place) (mine : Handshake) → mine ≡ handshake_at both d r n → owner n ≡ None → mine.owed ≡ None
owed_to_none Initiator both d n mine at none = ap (λ (s : Handshake). s.owed) at ∙ ap (λ (who : Option Role). owed_by Initiator who (message_at d n)) none
owed_to_none Responder both d n mine at none = ap (λ (s : Handshake). s.owed) at ∙ ap (λ (who : Option Role). owed_by Responder who (message_at d n)) none

level_goes : (both : Bool) (d : Deal) (n : Place) (s : Pair) → s.initiator ≡ handshake_at both d Initiator n → s.responder ≡ handshake_at both d Responder n
    → s.to_initiator ≡ [] → s.to_responder ≡ [] → (who : Option Role) → owner n ≡ who → CanGoOn s
level_goes both d n s mine theirs none none_there None is =
    inl (record { initiator = owed_to_none Initiator both d n s.initiator mine is; responder = owed_to_none Responder both d n s.responder theirs is; to_initiator = none; to_responder = none_there })
level_goes both d n s mine theirs none none_there (Some Initiator) is =
    initiator_acts s (own_puts both d Initiator n s.initiator s.to_initiator s.to_responder is mine)
level_goes both d n s mine theirs none none_there (Some Responder) is =
    responder_acts s (own_puts both d Responder n s.responder s.to_responder s.to_initiator is theirs)

transcript_goes : (both : Bool) (d : Deal) (count : ℕ) (s : Pair) → Fits both d → InTranscript both d count s → CanGoOn s
transcript_goes both d count s fits transcript =
    elim transcript.ahead as (λ (a : Ahead). Scene both d Initiator transcript.place a s.initiator s.responder s.to_initiator s.to_responder → CanGoOn s) [
      | Level ↦ λ scene. level_goes both d transcript.place s scene.0 scene.1 scene.2 scene.3 (owner transcript.place) refl
      | MineOne ↦ λ scene. responder_acts s (first_taken both d Responder transcript.place s.responder [] s.to_responder s.to_initiator fits transcript.here scene.4 scene.1 scene.3)
      | MineTwo ↦ λ scene. responder_acts s (first_taken both d Responder transcript.place s.responder (message_at d (next both transcript.place) ∷ []) s.to_responder s.to_initiator fits transcript.here scene.4 scene.1 scene.3)
      | TheirsOne ↦ λ scene. initiator_acts s (first_taken both d Initiator transcript.place s.initiator [] s.to_initiator s.to_responder fits transcript.here scene.4 scene.0 scene.2)
      | TheirsTwo ↦ λ scene. initiator_acts s (first_taken both d Initiator transcript.place s.initiator (message_at d (next both transcript.place) ∷ []) s.to_initiator s.to_responder fits transcript.here scene.4 scene.0 scene.2)
    ] transcript.scene

pub all_goes : (i r : Handshake) (acts : List Act) (pair : Pair) → i.role ≡ Initiator → r.role ≡ Responder → Match i.offer r.offer
    → Run PairStep (met i r) acts pair → CanGoOn pair
all_goes i r acts pair is peer_is matched run =
    let gone = met_run i r acts pair is peer_is matched run in
    transcript_goes i.offer.both_rings (deal_of i r) gone.now pair (fits_of i r matched) gone.transcript

-- how it ends
said_all : (n : Place) (message : Message) → owed_by Initiator (owner n) message ≡ None → owed_by Responder (owner n) message ≡ None → n ≡ AllSaid
said_all AllSaid message mine theirs = refl
said_all VersionSaid message mine theirs = absurd (cc)
said_all n message mine theirs = absurd (cc)

not_waiting : (message : Message) (rest queue : List Message) → queue ≡ [] → queue ≡ message ∷ rest → ⊥
not_waiting message rest queue none is = cc

-- both ends stand after the last message
pub record Ends (both : Bool) (d : Deal) (s : Pair) : Type 0 where
  pub initiator : s.initiator ≡ handshake_at both d Initiator AllSaid
  pub responder : s.responder ≡ handshake_at both d Responder AllSaid

level_ends : (both : Bool) (d : Deal) (n : Place) (s : Pair) → s.initiator ≡ handshake_at both d Initiator n → s.responder ≡ handshake_at both d Responder n
    → AtRest s → Ends both d s
level_ends both d n s mine theirs rest =
    let last = said_all n (message_at d n) (sym (ap (λ (h : Handshake). h.owed) mine) ∙ rest.initiator) (sym (ap (λ (h : Handshake). h.owed) theirs) ∙ rest.responder) in
    record {
      initiator = mine ∙ ap (λ (m : Place). handshake_at both d Initiator m) last;
      responder = theirs ∙ ap (λ (m : Place). handshake_at both d Responder m) last;
    }

rest_ends : (both : Bool) (d : Deal) (count : ℕ) (s : Pair) → InTranscript both d count s → AtRest s → Ends both d s
rest_ends both d count s transcript rest =
    elim transcript.ahead as (λ (a : Ahead). Scene both d Initiator transcript.place a s.initiator s.responder s.to_initiator s.to_responder → Ends both d s) [
      | Level ↦ λ scene. level_ends both d transcript.place s scene.0 scene.1 rest
      | MineOne ↦ λ scene. absurd (not_waiting (message_at d transcript.place) [] s.to_responder rest.to_responder scene.3)
      | MineTwo ↦ λ scene. absurd (cc (rest.to_responder, scene.3))
      | TheirsOne ↦ λ scene. absurd (not_waiting (message_at d transcript.place) [] s.to_initiator rest.to_initiator scene.2)
      | TheirsTwo ↦ λ scene. absurd (cc (rest.to_initiator, scene.2))
    ] transcript.scene

end_agrees : (both : Bool) (d : Deal) (s : Pair) → d.asks.both_rings ≡ both → Ends both d s → Agreed d.sid d.asks d.answers s
end_agrees true d s is ends = record {
  initiator = asked_in_all true d;
  responder = answered_in_all true d;
  initiator_open = ap session_of ends.initiator;
  responder_open = ap session_of ends.responder;
  initiator_sid = refl;
  responder_sid = refl;
  initiator_minor = refl;
  responder_minor = refl;
  ring = record { ident = refl; ident_own = refl; slots = refl; count = refl; cookies = refl };
  peer_ring = subst (λ (b : Bool). KnowsBoth b (asked_in_all true d) (answered_in_all true d) d.answers) (sym is) (record { ident = refl; ident_own = refl; slots = refl; count = refl; cookies = refl });
}
end_agrees false d s is ends = record {
  initiator = asked_in_all false d;
  responder = answered_in_all false d;
  initiator_open = ap session_of ends.initiator;
  responder_open = ap session_of ends.responder;
  initiator_sid = refl;
  responder_sid = refl;
  initiator_minor = refl;
  responder_minor = refl;
  ring = record { ident = refl; ident_own = refl; slots = refl; count = refl; cookies = refl };
  peer_ring = subst (λ (b : Bool). KnowsBoth b (asked_in_all false d) (answered_in_all false d) d.answers) (sym is) tt;
}

pub rest_agrees : (i r : Handshake) (acts : List Act) (pair : Pair) → i.role ≡ Initiator → r.role ≡ Responder → Match i.offer r.offer
    → Run PairStep (met i r) acts pair → AtRest pair → Agreed (next_sid i) i.offer r.offer pair
rest_agrees i r acts pair is peer_is matched run rest =
    let gone = met_run i r acts pair is peer_is matched run in
    end_agrees i.offer.both_rings (deal_of i r) pair refl (rest_ends i.offer.both_rings (deal_of i r) gone.now pair gone.transcript rest)
