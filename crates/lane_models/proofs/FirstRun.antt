-- The first rounds of a lane are a run.
use Rattle.std.proofs.Common.{ℕ, List, Option, refl, arith}
use Rattle.map_table.specs.declared.table.Entry.{Entry}
use Rattle.vdisk_msg.specs.declared.request.Fill.{Fill}
use Rattle.vdisk_msg.specs.declared.request.Request.{Request}
use Rattle.vdisk_msg.specs.declared.request.Request.TheVariants.{Write}
use Rattle.vdisk_msg.specs.Fills.{IsFill}
use Rattle.runs.specs.Run.{Run}
use Rattle.lane_models.specs.DiskEvent.{Accepted, Asks}
use Rattle.lane_models.specs.FirstRounds.{RunsFirstRounds, first_rounds, small_shape}
use Rattle.lane_models.specs.LaneState.{fresh_over}
use Rattle.lane_models.specs.LaneStep.{LaneStep}
use Rattle.lane_models.proofs.RoundsOpening.{step_0, step_1, step_2, step_3, step_4, step_5, step_6, step_7, step_8, step_9, step_10, step_11, step_12, step_13, step_14, step_15, step_16, step_17, step_18, step_19, step_20, step_21, step_22, step_23}
use Rattle.lane_models.proofs.RoundsSession.{step_24, step_25, step_26, step_27, step_28, step_29, step_30, step_31, step_32, step_33, step_34, step_35, step_36, step_37, step_38, step_39, step_40, step_41, step_42, step_43, step_44, step_45, step_46, step_47}
use Rattle.lane_models.proofs.LaterStates.{state_25, state_26, state_27, state_28, state_29, state_30, state_31, state_32, state_33, state_34, state_35, state_36, state_37, state_38, state_39, state_40, state_41, state_42, state_43, state_44, state_45, state_46, state_47, state_48}
use Rattle.lane_models.proofs.RoundStates.{state_0, state_1, state_2, state_3, state_4, state_5, state_6, state_7, state_8, state_9, state_10, state_11, state_12, state_13, state_14, state_15, state_16, state_17, state_18, state_19, state_20, state_21, state_22, state_23, state_24}

rounds_run : (memory : List ℕ) (table : List (Option Entry)) (request : Request) → Run LaneStep (state_0 memory table request) first_rounds (state_48 memory table request)
rounds_run memory table request = (state_1 memory table request, step_0 memory table request, (state_2 memory table request, step_1 memory table request, (state_3 memory table request, step_2 memory table request, (state_4 memory table request, step_3 memory table request, (state_5 memory table request, step_4 memory table request, (state_6 memory table request, step_5 memory table request, (state_7 memory table request, step_6 memory table request, (state_8 memory table request, step_7 memory table request, (state_9 memory table request, step_8 memory table request, (state_10 memory table request, step_9 memory table request, (state_11 memory table request, step_10 memory table request, (state_12 memory table request, step_11 memory table request, (state_13 memory table request, step_12 memory table request, (state_14 memory table request, step_13 memory table request, (state_15 memory table request, step_14 memory table request, (state_16 memory table request, step_15 memory table request, (state_17 memory table request, step_16 memory table request, (state_18 memory table request, step_17 memory table request, (state_19 memory table request, step_18 memory table request, (state_20 memory table request, step_19 memory table request, (state_21 memory table request, step_20 memory table request, (state_22 memory table request, step_21 memory table request, (state_23 memory table request, step_22 memory table request, (state_24 memory table request, step_23 memory table request, (state_25 memory table request, step_24 memory table request, (state_26 memory table request, step_25 memory table request, (state_27 memory table request, step_26 memory table request, (state_28 memory table request, step_27 memory table request, (state_29 memory table request, step_28 memory table request, (state_30 memory table request, step_29 memory table request, (state_31 memory table request, step_30 memory table request, (state_32 memory table request, step_31 memory table request, (state_33 memory table request, step_32 memory table request, (state_34 memory table request, step_33 memory table request, (state_35 memory table request, step_34 memory table request, (state_36 memory table request, step_35 memory table request, (state_37 memory table request, step_36 memory table request, (state_38 memory table request, step_37 memory table request, (state_39 memory table request, step_38 memory table request, (state_40 memory table request, step_39 memory table request, (state_41 memory table request, step_40 memory table request, (state_42 memory table request, step_41 memory table request, (state_43 memory table request, step_42 memory table request, (state_44 memory table request, step_43 memory table request, (state_45 memory table request, step_44 memory table request, (state_46 memory table request, step_45 memory table request, (state_47 memory table request, step_46 memory table request, (state_48 memory table request, step_47 memory table request, refl))))))))))))))))))))))))))))))))))))))))))))))))

-- the write is accepted first
write_accepted : (memory : List ℕ) (table : List (Option Entry)) (fill : Fill) → IsFill fill
    → LaneStep (fresh_over small_shape memory table) (Asks (Accepted 0 (Write 3 2 fill))) (state_0 memory table (Write 3 2 fill))
write_accepted memory table fill is = ((refl, omega arith, is, omega arith, refl, refl), refl)

pub first_run : (memory : List ℕ) (table : List (Option Entry)) (fill : Fill) → IsFill fill → RunsFirstRounds memory table (Write 3 2 fill)
first_run memory table fill is = record {
  behind = state_48 memory table (Write 3 2 fill);
  run = (state_0 memory table (Write 3 2 fill), write_accepted memory table fill is, rounds_run memory table (Write 3 2 fill));
  client_open = λ same. absurd (cc);
  server_open = λ same. absurd (cc);
  announced = refl;
  asked = refl;
  published = refl;
}
