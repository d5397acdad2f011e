-- Each event of a lane keeps a condition on its server's work that each piece of the work keeps: so the work is what its progress says.
use Rattle.std.proofs.Common.{◌≡◌, ℕ, Bool, Option, Some, None, List, refl, sym, ap, ◌∙◌, subst}
use Rattle.std.specs.Prelude.{⊤}
use Rattle.ldc_queue.specs.declared.end.End.TheVariants.{B}
use Rattle.lane_models.specs.WireEvent.{Blocked, Idle, Joined, Reset, Sent, Took}
use Rattle.lane_models.specs.DiskEvent.{Desc, DiskEvent, Finished, Moved, OnWire, Stored, Worked, Works}
use Rattle.lane_models.specs.LaneState.{LaneState}
use Rattle.lane_models.specs.LaneStep.{LaneStep, reach}
use Rattle.lane_models.specs.Seeing.{Seen}
use Rattle.lane_models.specs.ServerPutting.{server_holds}
use Rattle.lane_models.specs.ServerRule as server
use Rattle.lane_models.specs.ServerState.{ServerState, joined_server, restarted_server, Work}
use Rattle.lane_models.specs.ServerStep.{ServerSends, ServerStep}
use Rattle.lane_models.specs.ServerTaking.{GoesOn, Resets, ServerTake, ServerTakes}
use Rattle.cookie_copy.specs.Reach.{Reach}
use Rattle.lane_laws.proofs.ServerSpeaking.{server_holds_link}
use Rattle.lane_laws.proofs.LaneViews.{ServerActs, ServerCalled, ServerRenewed, ServerStays, ServerStopped, ServerView, at_server, lane_view, reach_of}
use Rattle.lane_laws.proofs.RulesFree.{ServerFree, server_free}
use Rattle.lane_laws.proofs.ServerAnswers.{comes_to, goes_by}
use Rattle.lane_laws.proofs.UnitsHeld.{fetched_is, moved_work, stored_work}
use Rattle.lane_laws.specs.Units.{WorkIs}

-- a condition on the blocks of its disk and on its work, which each piece of the work keeps
pub record WorkKeeps (P : ℕ → Option Work → Type 0) : Type 0 where
  pub none : (blocks : ℕ) → P blocks None
  pub works : (s : ServerState) (at : Seen) (reach : Reach) (gave : List ℕ) (event : Worked) (t : ServerState) (new : List ℕ) → ServerStep s at reach gave (Works event) t new
      → P s.blocks s.work → P t.blocks t.work

pub work_by : (P : ℕ → Option Work → Type 0) (t : ServerState) (blocks : ℕ) (work : Option Work) → t.blocks ≡ blocks → t.work ≡ work → P blocks work → P t.blocks t.work
work_by P t blocks work blocks_are work_is holds = subst (P t.blocks) (sym work_is) (subst (λ (n : ℕ). P n work) (sym blocks_are) holds)

-- WHAT IT HOLDS, takes and puts leaves its work
record SameWork (s t : ServerState) : Type 0 where
  blocks : t.blocks ≡ s.blocks
  work : t.work ≡ s.work

held_work : (s : ServerState) (rule : server.ServerRule) (held : ServerState) → server_holds rule s ≡ Some held → SameWork s held
held_work s rule held holds =
    let is = server_holds_link s rule held holds in record { blocks = ap (λ (v : ServerState). v.blocks) is; work = ap (λ (v : ServerState). v.work) is }

abbrev TookWork : ServerState → ServerTake → Type 0
TookWork s (GoesOn t opens) = SameWork s t
TookWork s (Resets cause) = ⊤

took_work : (s : ServerState) (packet : List ℕ) (t : ServerState) (opens : Bool) → ServerTakes s packet (GoesOn t opens) → SameWork s t
took_work s packet t opens takes =
    let by = goes_by s packet t opens takes in
    comes_to s by.link (TookWork s) (GoesOn t opens) (record {
      none = λ none. record { blocks = refl; work = refl };
      some = λ bytes message whole decodes. record {
        goes = λ opens h to. record { blocks = refl; work = refl };
        faults = λ cause is. tt;
        asks = λ a. record { blocks = refl; work = refl };
        refuses = λ cause refuses. tt;
      };
      tags = λ bytes fault whole decodes. tt;
    }) by.hears

sent_work : (s : ServerState) (at : Seen) (packet : List ℕ) (opens : Bool) (t : ServerState) → ServerSends s at packet opens t → SameWork s t
sent_work s at packet opens t sends =
    let held = held_work s (server.server_rule s at) sends.held sends.holds in
    record { blocks = ap (λ (x : ServerState). x.blocks) sends.is ∙ held.blocks; work = ap (λ (x : ServerState). x.work) sends.is ∙ held.work }

-- EACH EVENT
module _ (P : ℕ → Option Work → Type 0) (keeps : WorkKeeps P) where
  kept : (s t : ServerState) → P s.blocks s.work → SameWork s t → P t.blocks t.work
  kept s t is same = work_by P t s.blocks s.work same.blocks same.work is

  steps : (s : LaneState) → P s.server.blocks s.server.work → (event : DiskEvent) (gave : List ℕ) (t : ServerState) (new : List ℕ)
      → ServerStep s.server (at_server s) (reach_of s) gave event t new → P t.blocks t.work
  steps s is (OnWire (Joined B lost)) gave t new step = subst (λ (v : ServerState). P v.blocks v.work) (sym step.2) (keeps.none s.server.blocks)
  steps s is (OnWire (Took B packet opens)) gave t new step = kept s.server t is (took_work s.server packet t opens step.1)
  steps s is (OnWire (Sent B packet opens)) gave t new step = kept s.server t is (sent_work s.server (at_server s) packet opens t step.0)
  steps s is (OnWire (Blocked B)) gave t new step = kept s.server t is (held_work s.server (server.server_rule s.server (at_server s)) t step.0)
  steps s is (OnWire (Idle B)) gave t new step = subst (λ (v : ServerState). P v.blocks v.work) (sym step.1) is
  steps s is (OnWire (Reset B cause packet lost)) gave t new step = subst (λ (v : ServerState). P v.blocks v.work) (sym step.2) (keeps.none s.server.blocks)
  steps s is (Works event) gave t new step = keeps.works s.server (at_server s) (reach_of s) gave event t new step is
  steps s is _ gave t new step = absurd step

  pub work_step : (s : LaneState) (event : DiskEvent) (t : LaneState) → P s.server.blocks s.server.work → LaneStep s event t → P t.server.blocks t.server.work
  work_step s event t is step = by event (lane_view s event t step).server
    where
      anew : (v : ServerState) → t.server ≡ v → v.blocks ≡ s.server.blocks → v.work ≡ None → P t.server.blocks t.server.work
      anew v same blocks none = subst (λ (x : ServerState). P x.blocks x.work) (sym same) (work_by P v s.server.blocks None blocks none (keeps.none s.server.blocks))

      by : (event : DiskEvent) → ServerView s t event → P t.server.blocks t.server.work
      by _ (ServerActs event gave own does) = steps s is event gave t.server t.memory does
      by _ (ServerCalled cause begins same) = anew (joined_server s.server) same refl refl
      by _ (ServerRenewed cause renews same) = anew (restarted_server s.server) same refl refl
      by _ (ServerStopped same) = anew (restarted_server s.server) same refl refl
      by _ (ServerStays event beside same) = subst (λ (x : ServerState). P x.blocks x.work) (sym same) is

-- ITS WORK is what its progress says
abbrev pub OfWork : ℕ → Option Work → Type 0
OfWork blocks work = WorkIs work

in_work : (s : ServerState) (work : Work) → s.work ≡ Some work → WorkIs s.work → WorkIs (Some work)
in_work s work same is = subst WorkIs same is

by_work : (t : ServerState) (work : Option Work) → t.work ≡ work → WorkIs work → WorkIs t.work
by_work t work same is = subst WorkIs (sym same) is

server_pieces : (s : ServerState) (at : Seen) (reach : Reach) (gave : List ℕ) (event : Worked) (t : ServerState) (new : List ℕ)
    → ServerStep s at reach gave (Works event) t new → WorkIs s.work → WorkIs t.work
server_pieces s at reach gave (Desc slot bytes) t new step is =
    by_work t _ (ap (λ (x : ServerState). x.work) step.0.is) (fetched_is s.blocks bytes)
server_pieces s at reach gave (Moved unit fault) t new step is =
    let now = (subst (ServerFree s) step.0.rule (server_free s at)).1 in
    by_work t _ (ap (λ (x : ServerState). x.work) step.0.is) (moved_work step.0.work reach unit fault step.0.next new (in_work s step.0.work now is) step.0.moves)
server_pieces s at reach gave (Stored operation block count failed) t new step is =
    let now = (subst (ServerFree s) step.0.rule (server_free s at)).1 in
    by_work t _ (ap (λ (x : ServerState). x.work) step.0.is)
    (stored_work step.0.work operation block count failed gave step.0.next (in_work s step.0.work now is) step.0.stores)
server_pieces s at reach gave (Finished slot status) t new step is = by_work t None (ap (λ (x : ServerState). x.work) step.0.is) tt
server_pieces s at reach gave _ t new step is = absurd step

pub pieces_keep : WorkKeeps OfWork
pieces_keep = record { none = λ blocks. tt; works = server_pieces }
