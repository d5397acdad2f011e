-- Steps that leave the store alone, and the pieces of a descriptor as steps.
use Rattle.std.proofs.Common.{◌≡◌, ℕ, ◌+◌, ◌≤◌, Bool, List, [], Option, Some, option_map, refl, sym, ap, subst, ◌∙◌}
use Rattle.ldc_queue.specs.ChannelView.{ChannelView}
use Rattle.map_table.specs.declared.table.Entry.{Entry}
use Rattle.lane_models.specs.Served.{StoreDoes, StoreDoesIn}
use Rattle.lane_models.specs.ServerRule.{Serves as ServesWork, answer, server_rule, serves}
use Rattle.lane_models.specs.ServerState.{Ends, Flushes, Gathers, Gives, Progress, Reads, ServerSession, ServerState, Work, Writes}
use Rattle.lane_models.specs.ServerStep.{ServerStep, with_progress}
use Rattle.lane_models.specs.ServerWork.{MovesIn}
use Rattle.cookie_copy.specs.Reach.{Reach}
use Rattle.descriptor_work.specs.Fields.{work_with}
use Rattle.descriptor_work.specs.declared.work.Work.{Work as KeptWork}
use Rattle.vdisk_server.specs.declared.answers.ServerOut.{ServerOut}
use Rattle.vdisk_server.specs.declared.answers.ServerOut.TheVariants as out
use Rattle.vio_io.specs.declared.store.Store.{Ghosts}
use Rattle.descriptor_work.specs.Calling.{reach_over}
use Rattle.descriptor_work.specs.declared.answers.StoreCall.{StoreCall}
use Rattle.descriptor_work.specs.declared.answers.UnitCopy.{UnitCopy}
use Rattle.vdisk_server.specs.OnStore.{StoreAfter, WithinDisk, copy_out, store_out}
use Rattle.vdisk_server.specs.Answering.{LeavesStore, Serves, StepsAlone, StepsIn, ToldAfter, sees, server_event}
use Rattle.descriptor_work.specs.Pieces.{PieceIn, PieceOn, StoredFor, disk_at}

-- STEPS that leave the store
told_stays : (s : ServerState) (answer : ServerOut) (told : Option (List ℕ)) → LeavesStore answer → ToldAfter s answer [] told told
told_stays s (out.Stored operation block count failed) told leaves = absurd leaves
told_stays s other told leaves = refl

pub alone_serves : (s : ServerState) (c : ChannelView) (table : List (Option Entry)) (memory : List ℕ) (told : Option (List ℕ)) (answer : ServerOut) (t : ServerState)
    → StepsAlone s c answer t → Serves s c table memory told answer t memory told
alone_serves s c table memory told answer t steps = record {
  gave = [];
  step = steps.step (reach_over c table memory);
  store = told_stays s answer told steps.leaves;
}

pub in_serves : (s : ServerState) (c : ChannelView) (table : List (Option Entry)) (memory new : List ℕ) (told : Option (List ℕ)) (answer : ServerOut) (t : ServerState)
    → StepsIn s c table memory answer t new → Serves s c table memory told answer t new told
in_serves s c table memory new told answer t steps = record { gave = []; step = steps.step; store = told_stays s answer told steps.leaves }

pub leaves_within : (answer : ServerOut) (blocks : ℕ) → LeavesStore answer → WithinDisk blocks answer
leaves_within (out.Stored operation block count failed) blocks leaves = absurd leaves
leaves_within other blocks leaves = tt

pub leaves_store : {D : Type 0} (g : Ghosts D) (answer : ServerOut) (store : D) → LeavesStore answer → StoreAfter g answer store store
leaves_store g (out.Stored operation block count failed) store leaves = absurd leaves
leaves_store g other store leaves = refl

-- STEPS of a piece
pub works_on : (kept : Option KeptWork) (work : KeptWork) (unit : List ℕ) → kept ≡ Some work → option_map (λ k. work_with k unit) kept ≡ Some (work_with work unit)
works_on kept work unit is = ap (λ (w : Option KeptWork). option_map (λ k. work_with k unit) w) is

pub serves_in_work : (s seen : ServerState) (session : ServerSession) (work : Work) (c : ChannelView) → s ≡ seen → s.work ≡ Some work
    → server_rule seen (sees c) ≡ serves session seen.work → server_rule s (sees c) ≡ ServesWork session work
serves_in_work s seen session work c same is rule =
    subst (λ (t : ServerState). server_rule t (sees c) ≡ serves session t.work) (sym same) rule ∙ ap (λ (w : Option Work). serves session w) is

did_at : (s : ServerState) (progress : Progress) (block : ℕ) (failed : Bool) (gave : List ℕ) (told new : Option (List ℕ))
    → StoreDoesIn progress (disk_at s.first) block failed gave told new → StoreDoesIn progress s block failed gave told new
did_at s (Reads unit) block failed gave told new did = did
did_at s (Gives unit bytes) block failed gave told new did = did
did_at s (Gathers unit) block failed gave told new did = did
did_at s (Writes unit bytes) block failed gave told new did = did
did_at s Flushes block failed gave told new did = did
did_at s (Ends status) block failed gave told new did = did

on_step : (s : ServerState) (c : ChannelView) (session : ServerSession) (work : Work) (told : Option (List ℕ)) (call : StoreCall) (new : Option (List ℕ)) (reach : Reach)
    (gave : List ℕ) (next : Progress) → server_rule s (sees c) ≡ ServesWork session work → s.work ≡ Some work
    → StoredFor call s.first work gave next told new
    → ServerStep s (sees c) reach gave (server_event (store_out call)) (with_progress s work next) reach.memory × ToldAfter s (store_out call) gave told new
on_step s c session work told call new reach gave next rule is (stores, did) = (
  (record { session = session; work = work; next = next; rule = rule; stores = stores; is = refl }, refl),
  subst (λ (w : Option Work). StoreDoes w s call.block call.failed gave told new) (sym is) (did_at s work.progress call.block call.failed gave told new did),
)

-- a piece on the store, which is told as this answer
pub on_serves : (s : ServerState) (c : ChannelView) (table : List (Option Entry)) (memory : List ℕ) (session : ServerSession) (work : Work) (told new : Option (List ℕ)) (call : StoreCall) (answer : ServerOut) (behind : Work)
    → server_rule s (sees c) ≡ ServesWork session work → s.work ≡ Some work → PieceOn s.first work told call behind new → answer ≡ store_out call
    → Serves s c table memory told answer (record s { work = Some behind }) memory new
on_serves s c table memory session work told new call answer behind rule is piece tells =
    let made : ServerStep s (sees c) (reach_over c table memory) piece.gave (server_event (store_out call)) (with_progress s work piece.next) memory
    × ToldAfter s (store_out call) piece.gave told new =
    on_step s c session work told call new (reach_over c table memory) piece.gave piece.next rule is piece.stored in
    subst (λ (a : ServerOut). Serves s c table memory told a (record s { work = Some behind }) memory new) (sym tells)
    (record {
      gave = piece.gave;
      step = subst (λ (w : Work). ServerStep s (sees c) (reach_over c table memory) piece.gave (server_event (store_out call)) (record s { work = Some w }) memory) (sym piece.is) made.0;
      store = made.1;
    })

pub on_within : (blocks : ℕ) (call : StoreCall) (answer : ServerOut) → answer ≡ store_out call → call.block + call.count ≤ blocks → WithinDisk blocks answer
on_within blocks call answer tells within = subst (λ (a : ServerOut). WithinDisk blocks a) (sym tells) within

-- a piece in the client's memory, which is told as this answer
in_step : (s : ServerState) (c : ChannelView) (table : List (Option Entry)) (memory new : List ℕ) (session : ServerSession) (work : Work) (copy : UnitCopy) (next : Progress)
    → server_rule s (sees c) ≡ ServesWork session work → MovesIn work.progress work (reach_over c table memory) copy.unit copy.fault next new
    → StepsIn s c table memory (copy_out copy) (with_progress s work next) new
in_step s c table memory new session work copy next rule moved = record {
  leaves = tt;
  step = (record { session = session; work = work; next = next; rule = rule; moves = moved; is = refl }, refl);
}

pub piece_steps : (s : ServerState) (c : ChannelView) (table : List (Option Entry)) (memory new : List ℕ) (session : ServerSession) (work : Work) (copy : UnitCopy) (answer : ServerOut) (behind : Work)
    → server_rule s (sees c) ≡ ServesWork session work → PieceIn work (reach_over c table memory) copy behind new → answer ≡ copy_out copy
    → StepsIn s c table memory answer (record s { work = Some behind }) new
piece_steps s c table memory new session work copy answer behind rule piece tells =
    subst (λ (a : ServerOut). StepsIn s c table memory a (record s { work = Some behind }) new) (sym tells)
    (subst (λ (w : Work). StepsIn s c table memory (copy_out copy) (record s { work = Some w }) new) (sym piece.is)
    (in_step s c table memory new session work copy piece.next rule piece.moved))
