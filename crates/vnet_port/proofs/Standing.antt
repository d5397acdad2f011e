-- An end stands as it should before its first call and after each.
use Rattle.std.proofs.Common.{◌≡◌, ℕ, ◌+◌, ◌<◌, ◌≤◌, true, false, List, [], ◌∷◌, ◌++◌, length, Option, Some, None, refl, sym, ap, ◌∙◌, subst, ◌-◌, arith}
use Rattle.std.specs.Prelude.{◌^◌}
use Rattle.std.proofs.lemmas.List.{length-append}
use Rattle.ldc_link.specs.declared.phase.Role.{Role}
use Rattle.ldc_link.specs.declared.phase.Role.TheVariants.{Initiator, Responder}
use Rattle.ldc_link.specs.LinkState.{first_phase, is_established}
use Rattle.vio_handshake.proofs.WellFormed.{joined_owes}
use Rattle.vio_handshake.specs.declared.handshake.Phase.{Phase}
use Rattle.lane_models.proofs.FramesKept.{fresh_stands as fresh_frames, gives_stands as frames_given, joined_stands as frames_joined, joins_stands as frames_of_joined}
use Rattle.lane_models.specs.NetEndState.{NetEndState, NetSession, fresh_net_end, joined_net_end, kept_groups, with_frame}
use Rattle.lane_models.specs.NetEndStep.{Already, BadLength, Full, Given, GroupsFull, Joining, Member, NetGives, NetJoins, Queued, untold}
use Rattle.vnet_port.specs.Standing.{Began, IsPhaseOf, SessionStands, Stands}

-- A LINK BEGINS ANEW
pub record LinkBegins (role : Role) : Type 0 where
  pub phase : IsPhaseOf role (first_phase role)
  pub down : is_established (first_phase role) ≡ false

pub link_begins : (role : Role) → LinkBegins role
link_begins Initiator = record { phase = tt; down = refl }
link_begins Responder = record { phase = tt; down = refl }

down_began : (role : Role) (s : NetEndState) → Began (joined_net_end role s).link (joined_net_end role s).handshake None
down_began role s =
    let begins : LinkBegins s.link.role = link_begins s.link.role in
    record {
      down = λ down. record { phase = refl; owed = refl; to_send = refl; closed = refl };
      up = λ up. let both : true ≡ false = sym up ∙ begins.down in absurd (cc both);
    }

fewer_groups : (role : Role) (groups : List (List ℕ)) → length groups ≤ 7 → length (kept_groups role groups) ≤ 7
fewer_groups Initiator groups few = few
fewer_groups Responder groups few = omega arith

pub joined_stands : (s : NetEndState) → Stands s → Stands (joined_net_end s.link.role s)
joined_stands s stands = record {
  sized = record {
    some_slots = stands.sized.some_slots;
    most_slots = stands.sized.most_slots;
    ids = stands.sized.ids;
    groups = fewer_groups s.link.role s.groups stands.sized.groups;
  };
  frames = frames_joined s.link.role s stands.frames;
  link = record { phase = (link_begins s.link.role).phase; seen = refl };
  handshake = record {
    same_role = stands.handshake.same_role;
    offer = stands.handshake.offer;
    form = joined_owes s.handshake stands.handshake.form;
    knows = tt;
  };
  began = down_began s.link.role s;
  session = tt;
}

-- BEFORE THE FIRST CALL
pub fresh_stands : (role : Role) (address : List ℕ) (slots : ℕ) → 2 ≤ slots → slots ≤ 64 → Stands (fresh_net_end role address slots)
fresh_stands role address slots some most =
    let begins : LinkBegins role = link_begins role in
    record {
      sized = record { some_slots = some; most_slots = most; ids = omega arith; groups = omega arith };
      frames = fresh_frames role address slots;
      link = record { phase = begins.phase; seen = refl };
      handshake = record {
        same_role = refl;
        offer = refl;
        form = record { offer = record { most = omega arith; none = refl }; owed = tt };
        knows = tt;
      };
      began = record {
        down = λ down. record { phase = refl; owed = refl; to_send = refl; closed = refl };
        up = λ up. let both : true ≡ false = sym up ∙ begins.down in absurd (cc both);
      };
      session = tt;
    }

-- WHAT COMES OF A FRAME
pub gives_stands : (s t : NetEndState) (given : Given) → Stands s → NetGives s given t → Stands t
gives_stands s t (BadLength frame) stands gives = subst Stands (sym gives.1) stands
gives_stands s t (Full frame) stands gives = subst Stands (sym gives.2) stands
gives_stands s t (Queued id frame) stands gives =
    let few : s.next_id < 2 ^ 64 - 1 = gives.2 in
    subst Stands (sym gives.4)
    (record {
      sized = record {
        some_slots = stands.sized.some_slots;
        most_slots = stands.sized.most_slots;
        ids = omega (arith, few);
        groups = stands.sized.groups;
      };
      frames = frames_given s (Queued id frame) (with_frame frame s) stands.frames (gives.0, gives.1, gives.2, gives.3, refl);
      link = stands.link;
      handshake = stands.handshake;
      began = stands.began;
      session = stands.session;
    })

-- OF A GROUP
untold_began : (s : NetEndState) → Began s.link s.handshake s.session → Began s.link s.handshake (untold s.session)
untold_began s began = record {
  down = λ down. let quiet = began.down down in record {
    phase = quiet.phase;
    owed = quiet.owed;
    to_send = quiet.to_send;
    closed = ap untold quiet.closed;
  };
  up = began.up;
}

untold_session : (slots : ℕ) (phase : Phase) (session : Option NetSession) → SessionStands slots phase session → SessionStands slots phase (untold session)
untold_session slots phase None stands = tt
untold_session slots phase (Some session) stands = stands

pub joins_stands : (s t : NetEndState) (joining : Joining) → Stands s → NetJoins s joining t → Stands t
joins_stands s t (Already address) stands joins = subst Stands (sym joins.1) stands
joins_stands s t (GroupsFull address) stands joins = subst Stands (sym joins.2) stands
joins_stands s t (Member address) stands joins =
    let few : length s.groups < 7 = joins.1 in
    let long : length (s.groups ++ address ∷ []) ≡ length s.groups + 1 = length-append s.groups (address ∷ []) in
    let new : NetEndState = record s { groups = s.groups ++ address ∷ []; session = untold s.session } in
    subst Stands (sym joins.3)
    (record {
      sized = record {
        some_slots = stands.sized.some_slots;
        most_slots = stands.sized.most_slots;
        ids = stands.sized.ids;
        groups = omega (arith, long, few);
      };
      frames = frames_of_joined s (Member address) new stands.frames (joins.0, joins.1, joins.2, refl);
      link = stands.link;
      handshake = stands.handshake;
      began = untold_began s stands.began;
      session = untold_session s.slots s.handshake.phase s.session stands.session;
    })
