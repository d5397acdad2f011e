-- What a call of a port came to, and its entry: by what the call answered.
use Rattle.std.proofs.Common.{◌≡◌, ℕ, zero, suc, ◌+◌, ◌<◌, ◌≤◌, Bool, true, false, Option, Some, None, List, [], ◌∷◌, ◌++◌, length, Result, Ok, Err, refl, ap, subst, ◌∙◌, arith}
use Rattle.std.proofs.lemmas.Bool.{and_parts, eq-eqb, leb-true}
use Rattle.std.specs.Prelude.{◌==◌, ◌&&◌, nat_le}
use Rattle.domain_script.specs.LaneKinds.{port_lane}
use Rattle.domain_script.specs.declared.event.EndName.{EndName}
use Rattle.domain_script.specs.declared.event.Lane.{Lane}
use Rattle.domain_script.specs.declared.event.Side.{Side}
use Rattle.domain_script.specs.declared.event.Side.TheVariants.{Client}
use Rattle.world_parts.specs.domain_laws.Lines.{AnswersFrame, AnswersGroup, AnswersPortCall, Call, Calls, Injects, Joins, Line, Loses, PortLane, Pokes, Resets, Sends, Ticks}
use Rattle.world_parts.specs.lane_models.NetEndStep.{Already, BadLength, GroupsFull, Member, Queued}
use Rattle.world_parts.specs.lane_models.NetEndStep as port
use Rattle.world_parts.specs.lane_models.NetEvent.{Asked, CalmTick, Declines, Gives, NetEvent, Ticked}
use Rattle.world_parts.specs.lane_models.NetEvent as net
use Rattle.world_parts.specs.lane_models.PortState.{OnLane, PortState}
use Rattle.world_parts.specs.lane_models.WireEvent.{InjectedFull, NothingLost, NotInjected, PokeRefused}
use Rattle.kept_requests.specs.Bytes.{BytesState, filled}
use Rattle.lane_kinds.specs.Lanes.{AllStep, EntryOf, own_or}
use Rattle.runs.specs.Run.{Run}
use Rattle.ldc_queue.specs.declared.end.End.{End}
use Rattle.ldc_queue.specs.declared.end.End.TheVariants.{A}
use Rattle.ldc_queue.specs.declared.end.PutFault.{PutFault}
use Rattle.ldc_queue.specs.declared.end.PutFault.TheVariants as put_fault
use Rattle.ldom_entries.specs.JournalState.{JournalState}
use Rattle.ldom_entries.specs.declared.entry.Entry.{Entry}
use Rattle.ldom_entries.specs.declared.entry.Entry.TheVariants as entry
use Rattle.ldom_entries.specs.declared.entry.Who.TheVariants.{Lane as OfWhole, End as OfEnd}
use Rattle.ldom_entries.specs.declared.entry.Why.TheVariants.{Groups, Range}
use Rattle.ldom_report.specs.LaneEvents.{end_of}
use Rattle.ldom_report.specs.Report.{is_accepted}
use Rattle.switched_ports.specs.net_lane.Calls.{given, joining}
use Rattle.switched_ports.specs.net_lane.Events.{injected_event, lost_event, poked_event, ticked_event}
use Rattle.switched_ports.specs.net_lane.answers.GroupsFull.{GroupsFull as Refusal}
use Rattle.switched_ports.specs.net_lane.answers.SendFault.{SendFault}
use Rattle.switched_ports.specs.net_lane.answers.SendFault.TheVariants as fault
use Rattle.world_parts.specs.switch_laws.Events.{OnPort, SwitchEvent, SwitchStep}
use Rattle.world_parts.specs.switch_laws.Ports.{ports as kind}
use Rattle.switched_ports.specs.Given.{GivesNoMore, GivesOneMore}
use Rattle.switched_ports.proofs.Entries.{one_more}
use Rattle.vio_tag.specs.declared.cause.Cause.TheVariants as the_cause
use Rattle.world_parts.specs.world_laws.Settle.{SettleEntry}
use Rattle.world_parts.specs.WorldEvents.{if_so, is_end, is_same, of_net, told_of, world_event}
use Rattle.recorded_lanes.specs.Called.{port_end, unsent_entry}
use Rattle.recorded_lanes.specs.OnePort.{PortAnswers, RecordsPortAnswer}
use Rattle.recorded_lanes.proofs.Answering.{own_said, same_end}

-- AN ANSWER IS RECORDED, whose entry was put last
pub port_recorded : (k : ℕ) (w v : List PortState) (x : Entry) (old new : JournalState) (line : Line)
    (Answers : SwitchEvent → Type 0) → PortAnswers line k Answers w x v → new.entries ≡ old.entries ++ x ∷ []
    → new.room + 1 ≡ old.room → RecordsPortAnswer line k Answers w old new v
port_recorded k w v x old new line Answers answer entries room = record {
  entry = x;
  puts = record { entries = entries; room = room };
  answer = answer;
}

-- the line names the port, or the end, that the entry is about
own_end : (k : ℕ) (side : Side) → is_end (PortLane k) (end_of side) (port_end k side) ≡ true
own_end k side = ap (λ (b : Bool). b && is_same (end_of side) (end_of side)) (eq-eqb k k refl) ∙ same_end side

at_end : (k : ℕ) (side : Side) (x : SettleEntry)
    → if_so (is_end (PortLane k) (end_of side) (port_end k side)) x ≡ Some x
at_end k side x = own_said (is_end (PortLane k) (end_of side) (port_end k side)) x (own_end k side)

at_port : (k : ℕ) (x : SettleEntry) → if_so (k == k) x ≡ Some x
at_port k x = own_said (k == k) x (eq-eqb k k refl)

-- a frame that is held has no more than the most bytes
held_short : (id : ℕ) (frame : List ℕ) (s m : PortState) → SwitchStep s (OnPort (OnLane (Gives A (Queued id frame)))) m
    → length frame ≤ 1514
held_short id frame s m step =
    leb-true (length frame) 1514 (and_parts (nat_le 14 (length frame)) (nat_le (length frame) 1514) step.1.1.0.0).1

given_short : (i j n id : ℕ) (frame : List ℕ) (w v : List PortState) → i < length w → j + i ≡ n
    → AllStep kind j w n (OnPort (OnLane (Gives A (Queued id frame)))) v → length frame ≤ 1514
given_short i j n id frame [] v within same step = absurd (omega (arith, within))
given_short i j n id frame (s ∷ w) [] within same step = absurd step
given_short zero j n id frame (s ∷ w) (t ∷ v) within same step =
    let own : Run SwitchStep s (OnPort (OnLane (Gives A (Queued id frame))) ∷ []) t =
    subst (λ (b : Bool). Run SwitchStep s (own_or b (OnPort (OnLane (Gives A (Queued id frame)))) []) t)
    (eq-eqb j n (omega (arith, same))) step.0 in
    held_short id frame s own.0 own.1
given_short (suc i) j n id frame (s ∷ w) (t ∷ v) within same step =
    given_short i (j + 1) n id frame w v (omega (arith, within)) (omega (arith, same)) step.1

module _ (k : ℕ) (w v : List PortState) where
  -- one event of the port's lane alone, and its entry
  answered : (line : Line) (Answers : SwitchEvent → Type 0) (event : NetEvent) (x : Entry)
      → Answers (OnPort (OnLane event)) → EntryOf kind k w (OnPort (OnLane event)) v → GivesOneMore w v
      → world_event line x ≡ Some (told_of (of_net k event)) → is_accepted x ≡ false → PortAnswers line k Answers w x v
  answered line Answers event x answers at gives says none = record {
    event = OnPort (OnLane event);
    answers = answers;
    moves = record { own = tt; entry = at };
    tells = record { says = says; none = none };
    gives = gives;
  }

  abbrev CameTo : NetEvent → Type 0
  CameTo event = EntryOf kind k w (OnPort (OnLane event)) v

  -- A FRAME
  module _ (frame : List ℕ) (gives : GivesOneMore w v) (sent : Result ℕ SendFault)
      (at : CameTo (Gives A (given sent frame))) where
    abbrev FrameAnswered : Entry → Type 0
    FrameAnswered x = PortAnswers (Sends k frame) k (AnswersFrame frame) w x v

    as_sent : (answer : Result ℕ SendFault) → sent ≡ answer → CameTo (Gives A (given answer frame))
    as_sent answer did = subst (λ (r : Result ℕ SendFault). CameTo (Gives A (given r frame))) did at

    pub frame_short : (id : ℕ) → sent ≡ Ok id → length frame ≤ 1514
    frame_short id did = given_short k 0 k id frame w v at.within (omega arith) (as_sent (Ok id) did).step.step

    pub frame_held : (id : ℕ) (bytes : BytesState) → sent ≡ Ok id → bytes ≡ filled frame
        → FrameAnswered (entry.Queued k id bytes)
    frame_held id bytes did is =
        answered (Sends k frame) (AnswersFrame frame) (Gives A (Queued id frame)) (entry.Queued k id bytes) refl
        (as_sent (Ok id) did) gives
        (ap (λ (b : BytesState). world_event (Sends k frame) (entry.Queued k id b)) is) refl

    pub frame_refused : (why : SendFault) (x : Entry) → sent ≡ Err why → x ≡ unsent_entry k why → FrameAnswered x
    frame_refused why x did is =
        answered (Sends k frame) (AnswersFrame frame) (Gives A (given (Err why) frame)) x (unsent_answers why)
        (as_sent (Err why) did) gives
        (ap (λ (z : Entry). world_event (Sends k frame) z) is ∙ unsent_says why) (ap is_accepted is ∙ unsent_none why)
      where
        unsent_answers : (w : SendFault) → AnswersFrame frame (OnPort (OnLane (Gives A (given (Err w) frame))))
        unsent_answers fault.Length = refl
        unsent_answers fault.Full = refl

        unsent_says : (w : SendFault) → world_event (Sends k frame) (unsent_entry k w)
            ≡ Some (told_of (of_net k (Gives A (given (Err w) frame))))
        unsent_says fault.Length = at_port k (of_net k (Gives A (BadLength frame)))
        unsent_says fault.Full = at_port k (of_net k (Gives A (port.Full frame)))

        unsent_none : (w : SendFault) → is_accepted (unsent_entry k w) ≡ false
        unsent_none fault.Length = refl
        unsent_none fault.Full = refl

  -- whatever else is called gives no end more
  module _ (gives : GivesNoMore w v) where
    one : GivesOneMore w v
    one = one_more w v gives

    -- A GROUP
    module _ (address : List ℕ) (joined : Result Bool Refusal) (at : CameTo (net.Joins (joining joined address))) where
      abbrev GroupAnswered : Entry → Type 0
      GroupAnswered x = PortAnswers (Joins k address) k (AnswersGroup address) w x v

      as_joined : (answer : Result Bool Refusal) → joined ≡ answer → CameTo (net.Joins (joining answer address))
      as_joined answer did = subst (λ (r : Result Bool Refusal). CameTo (net.Joins (joining r address))) did at

      pub group_joined : joined ≡ Ok true → GroupAnswered (entry.Member k address)
      group_joined did =
          answered (Joins k address) (AnswersGroup address) (net.Joins (Member address)) (entry.Member k address) refl
          (as_joined (Ok true) did) one refl refl

      pub group_known : (lane : Lane) → joined ≡ Ok false → lane ≡ port_lane k
          → GroupAnswered (entry.Calm (OfWhole lane))
      group_known lane did is =
          answered (Joins k address) (AnswersGroup address) (net.Joins (Already address)) (entry.Calm (OfWhole lane))
          refl (as_joined (Ok false) did) one
          (ap (λ (l : Lane). world_event (Joins k address) (entry.Calm (OfWhole l))) is
          ∙ at_port k (of_net k (net.Joins (Already address)))) refl

      pub groups_full : (lane : Lane) (refusal : Refusal) → joined ≡ Err refusal → lane ≡ port_lane k
          → GroupAnswered (entry.Refused (OfWhole lane) Groups)
      groups_full lane refusal did is =
          answered (Joins k address) (AnswersGroup address) (net.Joins (GroupsFull address))
          (entry.Refused (OfWhole lane) Groups) refl (as_joined (Err refusal) did) one
          (ap (λ (l : Lane). world_event (Joins k address) (entry.Refused (OfWhole l) Groups)) is
          ∙ at_port k (of_net k (net.Joins (GroupsFull address)))) refl

    -- A CALL, by the event that it came to
    abbrev CallAnswered : Call → Entry → Type 0
    CallAnswered call x = PortAnswers (Calls (PortLane k) call) k (AnswersPortCall call) w x v

    called : (call : Call) (event : NetEvent) (x : Entry) → AnswersPortCall call (OnPort (OnLane event)) → CameTo event
        → world_event (Calls (PortLane k) call) x ≡ Some (told_of (of_net k event)) → is_accepted x ≡ false
        → CallAnswered call x
    called call event x answers at says none =
        answered (Calls (PortLane k) call) (AnswersPortCall call) event x answers at one says none

    -- a tick
    module _ (queued : ℕ) (result : Option ℕ) (at : CameTo (ticked_event queued result)) where
      as_ticked : (answer : Option ℕ) → result ≡ answer → CameTo (ticked_event queued answer)
      as_ticked answer did = subst (λ (o : Option ℕ). CameTo (ticked_event queued o)) did at

      pub port_ticked : (end : EndName) (lost : ℕ) → result ≡ Some lost → end ≡ port_end k Client
          → CallAnswered Ticks (entry.Reset end the_cause.Tick None lost)
      port_ticked end lost did is =
          called Ticks (Ticked queued lost) (entry.Reset end the_cause.Tick None lost) tt (as_ticked (Some lost) did)
          (ap (λ (n : EndName). world_event (Calls (PortLane k) Ticks) (entry.Reset n the_cause.Tick None lost)) is) refl

      pub port_calm_tick : (lane : Lane) → result ≡ None → lane ≡ port_lane k
          → CallAnswered Ticks (entry.Calm (OfWhole lane))
      port_calm_tick lane did is =
          called Ticks (CalmTick queued) (entry.Calm (OfWhole lane)) tt (as_ticked None did)
          (ap (λ (l : Lane). world_event (Calls (PortLane k) Ticks) (entry.Calm (OfWhole l))) is
          ∙ at_port k (of_net k (CalmTick 0))) refl

    -- what is done to an end
    module _ (side : Side) (end : EndName) (e : End) (named : end ≡ port_end k side) (of_side : e ≡ end_of side) where
      says_of : (call : Call) (x : EndName → Entry) (says : Option SettleEntry)
          → world_event (Calls (PortLane k) call) (x (port_end k side)) ≡ says
          → world_event (Calls (PortLane k) call) (x end) ≡ says
      says_of call x says is = ap (λ (n : EndName). world_event (Calls (PortLane k) call) (x n)) named ∙ is

      pub port_reset : (lost : ℕ) → CameTo (Asked e lost)
          → CallAnswered (Resets (end_of side)) (entry.Reset end the_cause.Asked None lost)
      port_reset lost at =
          called (Resets (end_of side)) (Asked (end_of side) lost) (entry.Reset end the_cause.Asked None lost) refl
          (subst (λ (d : End). CameTo (Asked d lost)) of_side at)
          (says_of (Resets (end_of side)) (λ n. entry.Reset n the_cause.Asked None lost) _ refl) refl

      module _ (result : Option (List ℕ)) (at : CameTo (lost_event e result)) where
        as_lost : (answer : Option (List ℕ)) → result ≡ answer → CameTo (lost_event (end_of side) answer)
        as_lost answer did =
            subst (λ (d : End). CameTo (lost_event d answer)) of_side
            (subst (λ (o : Option (List ℕ)). CameTo (lost_event e o)) did at)

        pub port_lost : (packet : List ℕ) → result ≡ Some packet
            → CallAnswered (Loses (end_of side)) (entry.Lost end packet)
        port_lost packet did =
            called (Loses (end_of side)) (net.Loses (end_of side) packet) (entry.Lost end packet) refl
            (as_lost (Some packet) did) (says_of (Loses (end_of side)) (λ n. entry.Lost n packet) _ refl) refl

        pub port_lost_none : result ≡ None → CallAnswered (Loses (end_of side)) (entry.Calm (OfEnd end))
        port_lost_none did =
            called (Loses (end_of side)) (Declines (NothingLost (end_of side))) (entry.Calm (OfEnd end)) refl
            (as_lost None did)
            (says_of (Loses (end_of side)) (λ n. entry.Calm (OfEnd n)) _
            (at_end k side (of_net k (Declines (NothingLost (end_of side)))))) refl

      module _ {U : Type 0} (packet : List ℕ) (result : Result U PutFault)
          (at : CameTo (injected_event e packet result)) where
        as_injected : (answer : Result U PutFault) → result ≡ answer
            → CameTo (injected_event (end_of side) packet answer)
        as_injected answer did =
            subst (λ (d : End). CameTo (injected_event d packet answer)) of_side
            (subst (λ (r : Result U PutFault). CameTo (injected_event e packet r)) did at)

        pub port_injected : (done : U) → result ≡ Ok done
            → CallAnswered (Injects (end_of side) packet) (entry.Injected end packet)
        port_injected done did =
            called (Injects (end_of side) packet) (net.Injects (end_of side) packet) (entry.Injected end packet)
            (refl, refl) (as_injected (Ok done) did)
            (says_of (Injects (end_of side) packet) (λ n. entry.Injected n packet) _ refl) refl

        pub port_not_up : result ≡ Err put_fault.NotUp
            → CallAnswered (Injects (end_of side) packet) (entry.Calm (OfEnd end))
        port_not_up did =
            called (Injects (end_of side) packet) (Declines (NotInjected (end_of side) packet)) (entry.Calm (OfEnd end))
            (refl, refl) (as_injected (Err put_fault.NotUp) did)
            (says_of (Injects (end_of side) packet) (λ n. entry.Calm (OfEnd n)) _
            (at_end k side (of_net k (Declines (NotInjected (end_of side) packet))))) refl

        pub port_queue_full : result ≡ Err put_fault.Full
            → CallAnswered (Injects (end_of side) packet) (entry.Full (OfEnd end))
        port_queue_full did =
            called (Injects (end_of side) packet) (Declines (InjectedFull (end_of side) packet)) (entry.Full (OfEnd end))
            (refl, refl) (as_injected (Err put_fault.Full) did)
            (says_of (Injects (end_of side) packet) (λ n. entry.Full (OfEnd n)) _
            (at_end k side (of_net k (Declines (InjectedFull (end_of side) packet))))) refl

      module _ (place : ℕ) (bytes : List ℕ) (did : Bool) (at : CameTo (poked_event e place bytes did)) where
        as_poked : (answer : Bool) → did ≡ answer → CameTo (poked_event (end_of side) place bytes answer)
        as_poked answer is =
            subst (λ (d : End). CameTo (poked_event d place bytes answer)) of_side
            (subst (λ (b : Bool). CameTo (poked_event e place bytes b)) is at)

        pub port_poked : (kept : BytesState) → did ≡ true → kept ≡ filled bytes
            → CallAnswered (Pokes (end_of side) place bytes) (entry.Poked end place kept)
        port_poked kept is whole =
            called (Pokes (end_of side) place bytes) (net.Pokes (end_of side) place bytes) (entry.Poked end place kept)
            (refl, refl, refl) (as_poked true is)
            (says_of (Pokes (end_of side) place bytes) (λ n. entry.Poked n place kept) _
            (ap (λ (b : BytesState). world_event (Calls (PortLane k) (Pokes (end_of side) place bytes))
            (entry.Poked (port_end k side) place b)) whole)) refl

        pub port_not_poked : did ≡ false
            → CallAnswered (Pokes (end_of side) place bytes) (entry.Refused (OfEnd end) Range)
        port_not_poked is =
            called (Pokes (end_of side) place bytes) (Declines (PokeRefused (end_of side) place (length bytes)))
            (entry.Refused (OfEnd end) Range) (refl, refl, refl) (as_poked false is)
            (says_of (Pokes (end_of side) place bytes) (λ n. entry.Refused (OfEnd n) Range) _
            (at_end k side (of_net k (Declines (PokeRefused (end_of side) place (length bytes)))))) refl
