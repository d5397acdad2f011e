-- A client stands as it should before its first call and after each.
use Rattle.std.proofs.Common.{◌≡◌, ℕ, ◌-◌, ◌^◌, ◌+◌, ◌<◌, ◌≤◌, Bool, true, false, [], ◌∷◌, ◌++◌, length, Option, Some, None, refl, sym, subst, arith, length-append}
use Rattle.ldc_link.specs.declared.phase.Role.{Role}
use Rattle.ldc_link.specs.declared.phase.Role.TheVariants.{Initiator, Responder}
use Rattle.ldc_link.specs.LinkState.{first_phase, is_established}
use Rattle.vdisk_msg.specs.declared.request.Request.{Request}
use Rattle.vdisk_msg.specs.Fills.{IsRequest}
use Rattle.vdisk_msg.specs.Requests.{defect}
use Rattle.vio_handshake.proofs.WellFormed.{joined_owes}
use Rattle.vio_tag.specs.Form.{AreCookies}
use Rattle.lane_models.specs.ClientState.{ClientSession, ClientState, fresh_client, joined_client}
use Rattle.lane_models.specs.ClientStep.{ClientAdmits}
use Rattle.lane_models.specs.DiskEvent.{Accepted, Admitted, Full, Refused}
use Rattle.lane_models.specs.Offering.{client_offer}
use Rattle.vdisk_client.proofs.Requests.{sound_push}
use Rattle.vdisk_client.specs.Standing.{CountsStand, IsInitiators, SessionStands, Stands, TranscriptStands}

pub not_true : (b : Bool) → b ≡ true → b ≡ false → ⊥
not_true true is other = absurd (cc other)
not_true false is other = absurd (cc is)

-- a link that begins anew
pub record Begins (role : Role) : Type 0 where
  pub phase : IsInitiators (first_phase role)
  pub down : is_established (first_phase role) ≡ false

begins : (role : Role) → role ≡ Initiator → Begins role
begins Initiator is = record { phase = tt; down = refl }
begins Responder is = absurd (cc is)

pub joined_transcript : (s : ClientState) → TranscriptStands s → TranscriptStands (joined_client s)
joined_transcript s transcript =
    let new : Begins s.link.role = begins s.link.role transcript.link in
    record {
      link = transcript.link;
      phase = new.phase;
      no_message = refl;
      handshake = transcript.handshake;
      begun = λ up. absurd (not_true (is_established (first_phase s.link.role)) up new.down);
      opened = λ some. absurd (cc some);
      quiet = λ _. record { owed = refl; closed = refl; to_send = refl };
      holds = λ some. absurd (some refl);
      announces = λ own. absurd (cc own);
      owed = joined_owes s.handshake transcript.owed;
    }

pub joined_stands : (s : ClientState) → Stands s → Stands (joined_client s)
joined_stands s stands = record { transcript = joined_transcript s stands.transcript; requests = stands.requests; session = tt }

pub fresh_stands : (blocks slots : ℕ) → blocks ≤ 65536 → 2 ≤ slots → slots ≤ 256 → AreCookies (client_offer blocks slots).count (client_offer blocks slots).cookies
    → Stands (fresh_client blocks slots)
fresh_stands blocks slots few_blocks some most form = record {
  transcript = record {
    link = refl;
    phase = tt;
    no_message = refl;
    handshake = refl;
    begun = λ up. absurd (cc up);
    opened = λ some. absurd (cc some);
    quiet = λ _. record { owed = refl; closed = refl; to_send = refl };
    holds = λ some. absurd (some refl);
    announces = λ own. absurd (cc own);
    owed = record { offer = form; owed = tt };
  };
  requests = record {
    some_slots = some;
    most_slots = most;
    few_blocks = few_blocks;
    few = omega arith;
    sound = tt;
    ids = omega arith;
    next = omega arith;
    ever = omega arith;
  };
  session = tt;
}

-- one more request is pending
more_counts : (pending next : ℕ) (session : ClientSession) → CountsStand pending next session → CountsStand (pending + 1) (next + 1) session
more_counts pending next session counts = record {
  completed = counts.completed;
  acked = counts.acked;
  announced = counts.announced;
  published = omega (arith, counts.published);
  ids = omega (arith, counts.ids);
  infos = counts.infos;
  announcing = counts.announcing;
}

more_session : (pending next : ℕ) (session : Option ClientSession) → SessionStands pending next session → SessionStands (pending + 1) (next + 1) session
more_session pending next None counts = tt
more_session pending next (Some session) counts = more_counts pending next session counts

pushed_stands : (s : ClientState) (request : Request) → Stands s → defect s.blocks request ≡ None → IsRequest request → length s.pending < s.slots
    → s.next_id < 2 ^ 64 - 1 → Stands (record s { pending = s.pending ++ request ∷ []; next_id = s.next_id + 1 })
pushed_stands s request stands admitted fill room small =
    let long : length (s.pending ++ request ∷ []) ≡ length s.pending + 1 = length-append s.pending (request ∷ []) in
    record {
      transcript = stands.transcript;
      requests = record {
        some_slots = stands.requests.some_slots;
        most_slots = stands.requests.most_slots;
        few_blocks = stands.requests.few_blocks;
        few = omega (arith, long);
        sound = sound_push s.blocks s.pending request stands.requests.sound admitted fill;
        ids = omega (arith, long, stands.requests.ids);
        next = omega (arith, small);
        ever = omega (arith, stands.requests.ever);
      };
      session = subst (λ (n : ℕ). SessionStands n (s.next_id + 1) s.session) (sym long) (more_session (length s.pending) s.next_id s.session stands.session);
    }

-- WHAT COMES OF A REQUEST
pub admits_stands : (s t : ClientState) (event : Admitted) → Stands s → ClientAdmits s event t → Stands t
admits_stands s t (Refused why request) stands admits = subst Stands (sym admits.1) stands
admits_stands s t (Full request) stands admits = subst Stands (sym admits.2) stands
admits_stands s t (Accepted id request) stands admits =
    subst Stands (sym admits.5) (pushed_stands s request stands admits.0 admits.2 admits.1 admits.3)
