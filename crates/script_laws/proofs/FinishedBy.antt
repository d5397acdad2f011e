-- Whether a disk's lane is finished, by its log.
use Rattle.std.proofs.Common.{◌≡◌, ℕ, ◌-◌, ◌≤◌, Bool, true, false, List, [], ◌∷◌, length, refl, sym, ◌∙◌, arith}
use Rattle.std.specs.Prelude.{◌&&◌, is_some}
use Rattle.runs.specs.Lawful.{log_of, run_lawful}
use Rattle.runs.specs.Run.{Run}
use Rattle.world_parts.specs.lane_models.ClientState.{is_finished, is_nothing}
use Rattle.world_parts.specs.lane_models.DiskEvent.{DiskEvent}
use Rattle.world_parts.specs.lane_models.LaneState.{IsShape, LaneState, Shape, fresh}
use Rattle.world_parts.specs.lane_models.LaneStep.{LaneStep}
use Rattle.world_parts.proofs.lane_laws.AgreementRuns.{run_agrees}
use Rattle.world_parts.proofs.lane_laws.CarriedRuns.{AllStand, all_step, fresh_all}
use Rattle.world_parts.proofs.lane_laws.StandingRuns.{pending_is}
use Rattle.world_parts.specs.lane_laws.Agreement.{AgreesWithLog}
use Rattle.world_parts.specs.lane_laws.DiskLog.{DiskLog, after, nothing_yet}
use Rattle.world_parts.specs.lane_laws.RequestLaws.{CarriesAt}
use Rattle.world_parts.specs.lane_laws.Standing.{RequestsStand}
use Rattle.script_laws.specs.Settled.{IsFinishedBy}
use Rattle.vdisk_msg.specs.declared.request.Request.{Request}

requests_stand : (shape : Shape) (events : List DiskEvent) (s : LaneState) → IsShape shape
    → Run LaneStep (fresh shape) events s → RequestsStand s.client (log_of after (nothing_yet shape) events).work
requests_stand shape events s sound run =
    (run_lawful LaneStep CarriesAt after AllStand all_step (fresh shape) s (nothing_yet shape) events
    (fresh_all shape sound) run).1.stands.requests

-- ITS SESSION is open, and nothing is pending
one_true : (a b : Bool) → (a && b) ≡ true → a ≡ true
one_true true b is = refl
one_true false b is = absurd (cc is)

both_true : (a b : Bool) → (a && b) ≡ true → b ≡ true
both_true true b is = is
both_true false b is = absurd (cc is)

are_true : (a b : Bool) → a ≡ true → b ≡ true → (a && b) ≡ true
are_true true b one two = two
are_true false b one two = absurd (cc one)

none_pending : (requests : List Request) → is_nothing requests ≡ true → length requests ≡ 0
none_pending [] is = refl
none_pending (request ∷ requests) is = absurd (cc is)

nothing_pending : (requests : List Request) → length requests ≡ 0 → is_nothing requests ≡ true
nothing_pending [] none = refl
nothing_pending (request ∷ requests) none = absurd (omega (arith, none))

none_missing : (pending issued done : ℕ) → pending ≡ 0 → pending ≡ issued - done → done ≤ issued → done ≡ issued
none_missing pending issued done none is few = omega (arith, none, is, few)

all_there : (pending issued done : ℕ) → done ≡ issued → pending ≡ issued - done → pending ≡ 0
all_there pending issued done all is = omega (arith, all, is)

-- BOTH WAYS
module _ (shape : Shape) (events : List DiskEvent) (s : LaneState) (sound : IsShape shape)
    (run : Run LaneStep (fresh shape) events s) where
  abbrev l : DiskLog
  l = log_of after (nothing_yet shape) events

  agrees : AgreesWithLog s l
  agrees = run_agrees shape events s sound run

  open_by : is_some s.client.session ≡ is_some l.work.client
  open_by = grind (arith, agrees)

  pub finished_by : is_finished s.client ≡ true → IsFinishedBy l
  finished_by finished =
      let stand = requests_stand shape events s sound run in
      record {
        session = sym open_by ∙ one_true (is_some s.client.session) (is_nothing s.client.pending) finished;
        completed = none_missing (length s.client.pending) (length l.work.issued) l.work.done
            (none_pending s.client.pending (both_true (is_some s.client.session) (is_nothing s.client.pending) finished))
            (pending_is s.client l.work stand) stand.done;
      }

  pub is_finished_by : IsFinishedBy l → is_finished s.client ≡ true
  is_finished_by by =
      are_true (is_some s.client.session) (is_nothing s.client.pending) (open_by ∙ by.session)
      (nothing_pending s.client.pending
      (all_there (length s.client.pending) (length l.work.issued) l.work.done by.completed
      (pending_is s.client l.work (requests_stand shape events s sound run))))
