-- What a call of a lane came to, and its entry: by what the call answered.
use Rattle.std.proofs.Common.{◌≡◌, ℕ, ◌+◌, Bool, true, false, Option, Some, None, List, [], ◌∷◌, ◌++◌, length, Result, Ok, Err, refl, ap, subst, ◌∙◌}
use Rattle.std.proofs.lemmas.Bool.{eq-eqb}
use Rattle.std.specs.Prelude.{◌==◌, ◌&&◌}
use Rattle.disk_lane.specs.Events.{injected_event, lost_event, poked_event, reset_event, restart_event, start_event, stop_event, tick_event}
use Rattle.disk_law.specs.ListState.{ImageState}
use Rattle.world_parts.specs.lane_models.DiskEvent.{Asks, CalmReset, CalmRestart, CalmStart, CalmStop, CalmTick, DiskEvent, OnWire, Calms}
use Rattle.world_parts.specs.lane_models.DiskEvent as disk
use Rattle.world_parts.specs.lane_models.LaneState.{LaneState}
use Rattle.world_parts.specs.lane_models.LaneStep.{LaneStep}
use Rattle.domain_script.specs.LaneKinds.{disk_lane}
use Rattle.domain_script.specs.declared.event.Side.{Side}
use Rattle.domain_script.specs.declared.event.Side.TheVariants.{Client, Server}
use Rattle.world_parts.specs.lane_models.WireEvent.{Declines, InjectedFull, NothingLost, NotInjected, PokeRefused}
use Rattle.world_parts.specs.lane_models.WireEvent as wire
use Rattle.world_parts.specs.world_laws.Settle.{OfLane, SettleEntry}
use Rattle.world_parts.specs.domain_laws.Lines.{AnswersCall, AnswersRequest, Asked, Calls, Injects, Line, Loses, Pokes, Resets, Restarts, Starts, Stops, Ticks, DiskLane}
use Rattle.ldc_queue.specs.declared.end.End.TheVariants.{A, B}
use Rattle.ldc_queue.specs.declared.end.PutFault.{PutFault}
use Rattle.ldc_queue.specs.declared.end.PutFault.TheVariants as put_fault
use Rattle.ldom_report.specs.LaneEvents.{end_of}
use Rattle.world_parts.specs.WorldEvents.{if_so, is_end, is_same, world_event}
use Rattle.ldom_entries.specs.declared.entry.Entry.{Entry}
use Rattle.ldom_entries.specs.declared.entry.Entry.TheVariants as entry
use Rattle.ldom_entries.specs.declared.entry.Who.TheVariants.{Lane as OfWhole, End as OfEnd}
use Rattle.ldom_entries.specs.declared.entry.Why.TheVariants.{Range}
use Rattle.kept_requests.specs.Bytes.{filled}
use Rattle.recorded_lanes.specs.Called.{disk_end, refused_entry}
use Rattle.ldom_entries.specs.JournalState.{JournalState, PutsEntry}
use Rattle.recorded_lanes.specs.OneLane.{LaneAnswers, RecordsAnswer}
use Rattle.disk_lane.specs.vdisk_client.Calls.{admitted}
use Rattle.disk_lane.specs.vdisk_client.declared.answers.IssueFault.{IssueFault}
use Rattle.disk_lane.specs.vdisk_client.declared.answers.IssueFault.TheVariants as fault
use Rattle.vdisk_msg.specs.declared.request.Request.{Request}
use Rattle.vio_tag.specs.declared.cause.Cause.TheVariants as the_cause

-- the line names the end, or the lane, that the entry is about
pub same_end : (side : Side) → is_same (end_of side) (end_of side) ≡ true
same_end Client = refl
same_end Server = refl

own_end : (k : ℕ) (side : Side) → is_end (DiskLane k) (end_of side) (disk_end k side) ≡ true
own_end k side = ap (λ (b : Bool). b && is_same (end_of side) (end_of side)) (eq-eqb k k refl) ∙ same_end side

pub own_said : (b : Bool) (x : SettleEntry) → b ≡ true → if_so b x ≡ Some x
own_said b x is = ap (λ (c : Bool). if_so c x) is

-- a request that wasn't taken up
refused_answers : (request : Request) (why : IssueFault) → AnswersRequest request (Asks (admitted (Err why) request))
refused_answers request fault.Count = refl
refused_answers request why = refl

refused_says : (k : ℕ) (request : Request) (why : IssueFault)
    → world_event (Asked k request) (refused_entry k why) ≡ Some (OfLane k (Asks (admitted (Err why) request)))
refused_says k request fault.Count =
    own_said (k == k) (OfLane k (Asks (admitted (Err fault.Count) request))) (eq-eqb k k refl)
refused_says k request why = own_said (k == k) (OfLane k (Asks (admitted (Err why) request))) (eq-eqb k k refl)

module _ (k : ℕ) (s t : LaneState) (x : Entry) where
  -- A RESET
  pub was_reset : (side : Side) (did : Bool) → did ≡ true → LaneStep s (reset_event (end_of side) did) t
      → x ≡ entry.Reset (disk_end k side) the_cause.Asked None 0
      → LaneAnswers (Calls (DiskLane k) (Resets (end_of side))) k (AnswersCall (Resets (end_of side))) s x t
  was_reset side did yes_is step is = record {
    event = reset_event (end_of side) true;
    answers = refl;
    moves = λ (i : ImageState). (subst (λ (b : Bool). LaneStep s (reset_event (end_of side) b) t) yes_is step, refl);
    says = ap (λ (z : Entry). world_event (Calls (DiskLane k) (Resets (end_of side))) z) is;
  }

  pub not_reset : (side : Side) (did : Bool) → did ≡ false → LaneStep s (reset_event (end_of side) did) t
      → x ≡ entry.Calm (OfEnd (disk_end k side))
      → LaneAnswers (Calls (DiskLane k) (Resets (end_of side))) k (AnswersCall (Resets (end_of side))) s x t
  not_reset side did no_is step is = record {
    event = reset_event (end_of side) false;
    answers = refl;
    moves = λ (i : ImageState). (subst (λ (b : Bool). LaneStep s (reset_event (end_of side) b) t) no_is step, refl);
    says = ap (λ (z : Entry). world_event (Calls (DiskLane k) (Resets (end_of side))) z) is
        ∙ own_said (is_end (DiskLane k) (end_of side) (disk_end k side)) (OfLane k (Calms (CalmReset (end_of side))))
        (own_end k side);
  }

  -- A RESTART
  pub was_restarted : (did : Bool) → did ≡ true → LaneStep s (restart_event did) t
      → x ≡ entry.Reset (disk_end k Server) the_cause.Restart None 0
      → LaneAnswers (Calls (DiskLane k) Restarts) k (AnswersCall Restarts) s x t
  was_restarted did yes_is step is = record {
    event = restart_event true;
    answers = tt;
    moves = λ (i : ImageState). (subst (λ (b : Bool). LaneStep s (restart_event b) t) yes_is step, refl);
    says = ap (λ (z : Entry). world_event (Calls (DiskLane k) Restarts) z) is;
  }

  pub not_restarted : (did : Bool) → did ≡ false → LaneStep s (restart_event did) t
      → x ≡ entry.Calm (OfEnd (disk_end k Server))
      → LaneAnswers (Calls (DiskLane k) Restarts) k (AnswersCall Restarts) s x t
  not_restarted did no_is step is = record {
    event = restart_event false;
    answers = tt;
    moves = λ (i : ImageState). (subst (λ (b : Bool). LaneStep s (restart_event b) t) no_is step, refl);
    says = ap (λ (z : Entry). world_event (Calls (DiskLane k) Restarts) z) is
        ∙ own_said (is_end (DiskLane k) B (disk_end k Server)) (OfLane k (Calms CalmRestart)) (own_end k Server);
  }

  -- A STOP
  pub was_stopped : (did : Bool) → did ≡ true → LaneStep s (stop_event did) t → x ≡ entry.Stopped k
      → LaneAnswers (Calls (DiskLane k) Stops) k (AnswersCall Stops) s x t
  was_stopped did yes_is step is = record {
    event = stop_event true;
    answers = tt;
    moves = λ (i : ImageState). (subst (λ (b : Bool). LaneStep s (stop_event b) t) yes_is step, refl);
    says = ap (λ (z : Entry). world_event (Calls (DiskLane k) Stops) z) is;
  }

  pub not_stopped : (did : Bool) → did ≡ false → LaneStep s (stop_event did) t → x ≡ entry.Calm (OfWhole (disk_lane k))
      → LaneAnswers (Calls (DiskLane k) Stops) k (AnswersCall Stops) s x t
  not_stopped did no_is step is = record {
    event = stop_event false;
    answers = tt;
    moves = λ (i : ImageState). (subst (λ (b : Bool). LaneStep s (stop_event b) t) no_is step, refl);
    says = ap (λ (z : Entry). world_event (Calls (DiskLane k) Stops) z) is
        ∙ own_said (k == k) (OfLane k (Calms CalmStop)) (eq-eqb k k refl);
  }

  -- A START
  pub was_started : (did : Bool) → did ≡ true → LaneStep s (start_event did) t → x ≡ entry.Started k
      → LaneAnswers (Calls (DiskLane k) Starts) k (AnswersCall Starts) s x t
  was_started did yes_is step is = record {
    event = start_event true;
    answers = tt;
    moves = λ (i : ImageState). (subst (λ (b : Bool). LaneStep s (start_event b) t) yes_is step, refl);
    says = ap (λ (z : Entry). world_event (Calls (DiskLane k) Starts) z) is;
  }

  pub not_started : (did : Bool) → did ≡ false → LaneStep s (start_event did) t → x ≡ entry.Calm (OfWhole (disk_lane k))
      → LaneAnswers (Calls (DiskLane k) Starts) k (AnswersCall Starts) s x t
  not_started did no_is step is = record {
    event = start_event false;
    answers = tt;
    moves = λ (i : ImageState). (subst (λ (b : Bool). LaneStep s (start_event b) t) no_is step, refl);
    says = ap (λ (z : Entry). world_event (Calls (DiskLane k) Starts) z) is
        ∙ own_said (k == k) (OfLane k (Calms CalmStart)) (eq-eqb k k refl);
  }

  -- A PACKET LOST
  pub was_lost : (side : Side) (lost : Option (List ℕ)) (packet : List ℕ) → lost ≡ Some packet
      → LaneStep s (lost_event (end_of side) lost) t → x ≡ entry.Lost (disk_end k side) packet
      → LaneAnswers (Calls (DiskLane k) (Loses (end_of side))) k (AnswersCall (Loses (end_of side))) s x t
  was_lost side lost packet there step is = record {
    event = OnWire (wire.Lost (end_of side) packet);
    answers = refl;
    moves = λ (i : ImageState). (
      subst (λ (o : Option (List ℕ)). LaneStep s (lost_event (end_of side) o) t) there step,
      refl,
    );
    says = ap (λ (z : Entry). world_event (Calls (DiskLane k) (Loses (end_of side))) z) is;
  }

  pub none_lost : (side : Side) (lost : Option (List ℕ)) → lost ≡ None → LaneStep s (lost_event (end_of side) lost) t
      → x ≡ entry.Calm (OfEnd (disk_end k side))
      → LaneAnswers (Calls (DiskLane k) (Loses (end_of side))) k (AnswersCall (Loses (end_of side))) s x t
  none_lost side lost none step is = record {
    event = OnWire (Declines (NothingLost (end_of side)));
    answers = refl;
    moves = λ (i : ImageState). (
      subst (λ (o : Option (List ℕ)). LaneStep s (lost_event (end_of side) o) t) none step,
      refl,
    );
    says = ap (λ (z : Entry). world_event (Calls (DiskLane k) (Loses (end_of side))) z) is
        ∙ own_said (is_end (DiskLane k) (end_of side) (disk_end k side)) (OfLane k (OnWire (Declines (NothingLost (end_of side)))))
        (own_end k side);
  }

  -- A TICK
  pub was_ticked : (did : Bool) → did ≡ true → LaneStep s (tick_event did) t
      → x ≡ entry.Reset (disk_end k Client) the_cause.Tick None 0
      → LaneAnswers (Calls (DiskLane k) Ticks) k (AnswersCall Ticks) s x t
  was_ticked did yes_is step is = record {
    event = tick_event true;
    answers = tt;
    moves = λ (i : ImageState). (subst (λ (b : Bool). LaneStep s (tick_event b) t) yes_is step, refl);
    says = ap (λ (z : Entry). world_event (Calls (DiskLane k) Ticks) z) is;
  }

  pub not_ticked : (did : Bool) → did ≡ false → LaneStep s (tick_event did) t → x ≡ entry.Calm (OfWhole (disk_lane k))
      → LaneAnswers (Calls (DiskLane k) Ticks) k (AnswersCall Ticks) s x t
  not_ticked did no_is step is = record {
    event = tick_event false;
    answers = tt;
    moves = λ (i : ImageState). (subst (λ (b : Bool). LaneStep s (tick_event b) t) no_is step, refl);
    says = ap (λ (z : Entry). world_event (Calls (DiskLane k) Ticks) z) is
        ∙ own_said (k == k) (OfLane k (Calms CalmTick)) (eq-eqb k k refl);
  }

  -- A PACKET FORGED
  module _ (side : Side) (packet : List ℕ) (put : Result Unit PutFault)
      (step : LaneStep s (injected_event (end_of side) packet put) t) where
    pub was_injected : (done : Unit) → put ≡ Ok done → x ≡ entry.Injected (disk_end k side) packet
        → LaneAnswers (Calls (DiskLane k) (Injects (end_of side) packet)) k (AnswersCall (Injects (end_of side) packet)) s x t
    was_injected done did is = record {
      event = OnWire (wire.Injected (end_of side) packet);
      answers = (refl, refl);
      moves = λ (i : ImageState). (
        subst (λ (r : Result Unit PutFault). LaneStep s (injected_event (end_of side) packet r) t) did step,
        refl,
      );
      says = ap (λ (z : Entry). world_event (Calls (DiskLane k) (Injects (end_of side) packet)) z) is;
    }

    pub not_injected : put ≡ Err put_fault.NotUp → x ≡ entry.Calm (OfEnd (disk_end k side))
        → LaneAnswers (Calls (DiskLane k) (Injects (end_of side) packet)) k (AnswersCall (Injects (end_of side) packet)) s x t
    not_injected down is = record {
      event = OnWire (Declines (NotInjected (end_of side) packet));
      answers = (refl, refl);
      moves = λ (i : ImageState). (
        subst (λ (r : Result Unit PutFault). LaneStep s (injected_event (end_of side) packet r) t) down step,
        refl,
      );
      says = ap (λ (z : Entry). world_event (Calls (DiskLane k) (Injects (end_of side) packet)) z) is
          ∙ own_said (is_end (DiskLane k) (end_of side) (disk_end k side))
          (OfLane k (OnWire (Declines (NotInjected (end_of side) packet)))) (own_end k side);
    }

    pub injected_full : put ≡ Err put_fault.Full → x ≡ entry.Full (OfEnd (disk_end k side))
        → LaneAnswers (Calls (DiskLane k) (Injects (end_of side) packet)) k (AnswersCall (Injects (end_of side) packet)) s x t
    injected_full full is = record {
      event = OnWire (Declines (InjectedFull (end_of side) packet));
      answers = (refl, refl);
      moves = λ (i : ImageState). (
        subst (λ (r : Result Unit PutFault). LaneStep s (injected_event (end_of side) packet r) t) full step,
        refl,
      );
      says = ap (λ (z : Entry). world_event (Calls (DiskLane k) (Injects (end_of side) packet)) z) is
          ∙ own_said (is_end (DiskLane k) (end_of side) (disk_end k side))
          (OfLane k (OnWire (Declines (InjectedFull (end_of side) packet)))) (own_end k side);
    }

  -- MEMORY POKED
  pub was_poked : (at : ℕ) (bytes : List ℕ) (did : Bool) → did ≡ true → LaneStep s (poked_event at bytes did) t
      → x ≡ entry.Poked (disk_end k Client) at (filled bytes)
      → LaneAnswers (Calls (DiskLane k) (Pokes A at bytes)) k (AnswersCall (Pokes A at bytes)) s x t
  was_poked at bytes did yes_is step is = record {
    event = poked_event at bytes true;
    answers = (refl, refl, refl);
    moves = λ (i : ImageState). (subst (λ (b : Bool). LaneStep s (poked_event at bytes b) t) yes_is step, refl);
    says = ap (λ (z : Entry). world_event (Calls (DiskLane k) (Pokes A at bytes)) z) is;
  }

  pub not_poked : (at : ℕ) (bytes : List ℕ) (did : Bool) → did ≡ false → LaneStep s (poked_event at bytes did) t
      → x ≡ entry.Refused (OfEnd (disk_end k Client)) Range
      → LaneAnswers (Calls (DiskLane k) (Pokes A at bytes)) k (AnswersCall (Pokes A at bytes)) s x t
  not_poked at bytes did no_is step is = record {
    event = poked_event at bytes false;
    answers = (refl, refl, refl);
    moves = λ (i : ImageState). (subst (λ (b : Bool). LaneStep s (poked_event at bytes b) t) no_is step, refl);
    says = ap (λ (z : Entry). world_event (Calls (DiskLane k) (Pokes A at bytes)) z) is
        ∙ own_said (is_end (DiskLane k) A (disk_end k Client)) (OfLane k (OnWire (Declines (PokeRefused A at (length bytes)))))
        (own_end k Client);
  }

  -- A REQUEST
  pub was_accepted : (request : Request) (id : ℕ) → LaneStep s (Asks (admitted (Ok id) request)) t
      → x ≡ entry.Accepted k id request
      → LaneAnswers (Asked k request) k (AnswersRequest request) s x t
  was_accepted request id step is = record {
    event = Asks (disk.Accepted id request);
    answers = refl;
    moves = λ (i : ImageState). (step, refl);
    says = ap (λ (z : Entry). world_event (Asked k request) z) is;
  }

  pub was_refused : (request : Request) (why : IssueFault) → LaneStep s (Asks (admitted (Err why) request)) t
      → x ≡ refused_entry k why
      → LaneAnswers (Asked k request) k (AnswersRequest request) s x t
  was_refused request why step is = record {
    event = Asks (admitted (Err why) request);
    answers = refused_answers request why;
    moves = λ (i : ImageState). (step, refl);
    says = ap (λ (z : Entry). world_event (Asked k request) z) is ∙ refused_says k request why;
  }

-- AN ANSWER IS RECORDED, whose entry was put last
pub recorded : (k : ℕ) (s t : LaneState) (x : Entry) (old new : JournalState) (line : Line) (Answers : DiskEvent → Type 0)
    → LaneAnswers line k Answers s x t → new.entries ≡ old.entries ++ x ∷ [] → new.room + 1 ≡ old.room
    → RecordsAnswer line k Answers s old new t
recorded k s t x old new line Answers answer entries room = record {
  entry = x;
  puts = record { entries = entries; room = room };
  answer = answer;
}

-- A REQUEST'S ANSWER IS RECORDED: one that was accepted, with a copy of it
module _ (k : ℕ) (s t : LaneState) (request : Request) (old new : JournalState) where
  pub accepted_put : (kept : Request) (id : ℕ) → kept ≡ request → LaneStep s (Asks (admitted (Ok id) request)) t
      → PutsEntry old (entry.Accepted k id kept) new
      → RecordsAnswer (Asked k request) k (AnswersRequest request) s old new t
  accepted_put kept id same step puts = record {
    entry = entry.Accepted k id kept;
    puts = puts;
    answer = was_accepted k s t (entry.Accepted k id kept) request id step
        (ap (λ (r : Request). entry.Accepted k id r) same);
  }

  pub refused_put : (why : IssueFault) (x : Entry) → LaneStep s (Asks (admitted (Err why) request)) t
      → x ≡ refused_entry k why → PutsEntry old x new
      → RecordsAnswer (Asked k request) k (AnswersRequest request) s old new t
  refused_put why x step is puts = record {
    entry = x;
    puts = puts;
    answer = was_refused k s t x request why step is;
  }
