-- What a client's step does to its requests.
use Rattle.std.proofs.Common.{◌≡◌, ℕ, ◌+◌, ◌<◌, Bool, Some, List, [], ◌∷◌, ◌++◌, length, drop, refl, sym, ap, ◌∙◌, subst, arith, length-drop, length-append}
use Rattle.std.specs.Prelude.{zero, suc, slice_get}
use Rattle.std.proofs.lemmas.List.{drop-append-le, drop-drop}
use Rattle.vdisk_msg.specs.declared.request.Request.{Request}
use Rattle.vdisk_msg.specs.Requests.{operation_of}
use Rattle.lane_laws.specs.WorkLog.{WorkLog}
use Rattle.lane_models.specs.ClientPutting.{client_holds, client_kind, client_put, session_behind}
use Rattle.lane_models.specs.ClientRule.{ClientRule, Completes, client_rule}
use Rattle.lane_models.specs.ClientState.{ClientState, first_id, joined_client}
use Rattle.lane_models.specs.ClientStep.{ClientCompletes, ClientPublishes, ClientSends}
use Rattle.lane_models.specs.ClientTaking.{ClientTakes, GoesOn}
use Rattle.lane_models.specs.EndPuts.{PutKind}
use Rattle.lane_models.specs.Seeing.{Seen}
use Rattle.lane_laws.proofs.ClientHearing.{took_by}
use Rattle.lane_laws.proofs.Ruling.{client_may}
use Rattle.lane_laws.specs.RuleFacts.{ClientMay}
use Rattle.lane_laws.specs.Standing.{RequestsStand, SessionStands}

-- its requests stay, and so does what its session counts, or it opens at the first that isn't done
pub record KeepsRequests (c t : ClientState) : Type 0 where
  pub pending : t.pending ≡ c.pending
  pub next : t.next_id ≡ c.next_id
  pub blocks : t.blocks ≡ c.blocks
  pub slots : t.slots ≡ c.slots
  pub session : (done : ℕ) → done ≡ first_id c → SessionStands done c.session → SessionStands done t.session

pub stays_kept : (c : ClientState) → KeepsRequests c c
stays_kept c = record { pending = refl; next = refl; blocks = refl; slots = refl; session = λ done first stands. stands }

pub joined_kept : (c : ClientState) → KeepsRequests c (joined_client c)
joined_kept c = record { pending = refl; next = refl; blocks = refl; slots = refl; session = λ done first stands. tt }

pub took_kept : (c : ClientState) (packet : List ℕ) (t : ClientState) → ClientTakes c packet (GoesOn t) → KeepsRequests c t
took_kept c packet t takes =
    let by = took_by c packet t takes in
    record { pending = by.pending; next = by.next; blocks = by.blocks; slots = by.slots; session = λ done first stands. by.keeps done stands }

-- a session after a packet that was put
put_kept : (c : ClientState) (kind : PutKind) (t : ClientState) → t.session ≡ session_behind kind c → t.pending ≡ c.pending → t.next_id ≡ c.next_id
    → t.blocks ≡ c.blocks → t.slots ≡ c.slots → KeepsRequests c t
put_kept c kind t session pending next blocks slots = grind arith

pub held_kept : (c : ClientState) (at : Seen) (rule : ClientRule) (held : ClientState) → ClientMay c at rule → client_holds rule c ≡ Some held → KeepsRequests c held
held_kept c at rule held may is = grind arith

-- one after the other
both_kept : (c m t : ClientState) → KeepsRequests c m → KeepsRequests m t → KeepsRequests c t
both_kept c m t one other = record {
  pending = other.pending ∙ one.pending;
  next = other.next ∙ one.next;
  blocks = other.blocks ∙ one.blocks;
  slots = other.slots ∙ one.slots;
  session = λ done first stands. other.session done (first ∙ sym (same_first c m one)) (one.session done first stands);
}
  where
    same_first : (c m : ClientState) → KeepsRequests c m → first_id m ≡ first_id c
    same_first c m one = omega (arith, one.next, ap length one.pending)

pub sent_kept : (c : ClientState) (at : Seen) (memory packet : List ℕ) (opens : Bool) (t : ClientState) (new : List ℕ) → ClientSends c at memory packet opens t new → KeepsRequests c t
sent_kept c at memory packet opens t new sends =
    let held = held_kept c at (client_rule c at) sends.held (client_may c at) sends.holds in
    let put : KeepsRequests sends.held (client_put sends.held) = put_kept sends.held (client_kind sends.held) (client_put sends.held) refl refl refl refl refl in
    subst (λ (x : ClientState). KeepsRequests c x) (sym sends.is) (both_kept c sends.held (client_put sends.held) held put)

pub published_kept : (c : ClientState) (at : Seen) (memory : List ℕ) (id : ℕ) (t : ClientState) (new : List ℕ) → ClientPublishes c at memory id t new → KeepsRequests c t
published_kept c at memory id t new step = grind (arith, client_may)

-- REQUESTS THAT STAND: the first that isn't done is the number of those that are
pub first_done : (c : ClientState) (w : WorkLog) → RequestsStand c w → w.done ≡ first_id c
first_done c w stand = omega (arith, stand.next, stand.done, ap length stand.pending, length-drop w.done w.issued)

pub kept_stand : (c t : ClientState) (w : WorkLog) → RequestsStand c w → KeepsRequests c t → RequestsStand t w
kept_stand c t w stand kept = grind (arith, first_done)

-- the log's other counts play no part
pub same_stand : (c : ClientState) (w x : WorkLog) → x.issued ≡ w.issued → x.done ≡ w.done → RequestsStand c w → RequestsStand c x
same_stand c w x issued done stand = grind arith

-- one that is accepted is the last
pub accepted_stand : (c : ClientState) (w : WorkLog) (request : Request) → RequestsStand c w
    → RequestsStand (record c { pending = c.pending ++ request ∷ []; next_id = c.next_id + 1 }) (record w { issued = w.issued ++ request ∷ [] })
accepted_stand c w request stand = grind (arith, length-append, drop-append-le)

-- one that is done is the first of those that are pending
got_dropped : (xs : List Request) (n : ℕ) (request : Request) → slice_get (drop n xs) 0 ≡ Some request → slice_get xs n ≡ Some request
got_dropped xs zero request is = is
got_dropped [] (suc n) request is = absurd (cc)
got_dropped (x ∷ xs) (suc n) request is = got_dropped xs n request is

pub got_below : (xs : List Request) (n : ℕ) (request : Request) → slice_get xs n ≡ Some request → n < length xs
got_below [] n request is = absurd (cc)
got_below (one ∷ xs) zero request is = omega arith
got_below (one ∷ xs) (suc n) request is = omega (arith, got_below xs n request is)

pub record CompletesNext (c : ClientState) (w : WorkLog) (id operation : ℕ) (request : Request) (t : ClientState) : Type 0 where
  pub accepted : slice_get w.issued id ≡ Some request
  pub operation_is : operation ≡ operation_of request
  pub next : id ≡ w.done
  pub stand : RequestsStand t (record w { done = w.done + 1 })
  pub blocks : t.blocks ≡ c.blocks
  pub slots : t.slots ≡ c.slots

pub completed_next : (c : ClientState) (w : WorkLog) (at : Seen) (memory : List ℕ) (id operation status : ℕ) (bytes : List ℕ) (t : ClientState) (new : List ℕ)
    → RequestsStand c w → (step : ClientCompletes c at memory id operation status bytes t new) → CompletesNext c w id operation step.request t
completed_next c w at memory id operation status bytes t new stand step =
    let may : ClientMay c at (Completes step.session) = subst (ClientMay c at) step.rule (client_may c at) in
    let counts : w.done ≡ step.session.base + step.session.completed = subst (SessionStands w.done) may.1 stand.session in
    let front : slice_get (drop w.done w.issued) 0 ≡ Some step.request = subst (λ (xs : List Request). slice_get xs 0 ≡ Some step.request) stand.pending step.front in
    let got = got_dropped w.issued w.done step.request front in
    let id_is : id ≡ w.done = step.id_is ∙ sym counts in
    let below = got_below w.issued w.done step.request got in
    let dropped : drop 1 (drop w.done w.issued) ≡ drop (w.done + 1) w.issued = drop-drop 1 w.done w.issued in
    record {
      accepted = subst (λ (n : ℕ). slice_get w.issued n ≡ Some step.request) (sym id_is) got;
      operation_is = step.operation_is;
      next = id_is;
      stand = subst (λ (x : ClientState). RequestsStand x (record w { done = w.done + 1 })) (sym step.is)
          (record { pending = ap (drop 1) stand.pending ∙ dropped; next = stand.next; done = omega (arith, below); session = omega (arith, counts) });
      blocks = ap (λ (x : ClientState). x.blocks) step.is;
      slots = ap (λ (x : ClientState). x.slots) step.is;
    }
