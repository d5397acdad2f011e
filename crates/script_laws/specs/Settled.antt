-- What a settle comes to in a script.
use Rattle.std.specs.Prelude.{◌≡◌, ◌⊎◌, ℕ, ◌+◌, ◌*◌, ◌≤◌, true, false, is_some, List, [], ◌∷◌, ◌++◌, length, map}
use Rattle.world_parts.specs.lane_laws.DiskLog.{DiskLog}
use Rattle.world_parts.specs.lane_models.DiskEvent.{DiskEvent}
use Rattle.world_parts.specs.lane_models.LaneState.{Shape}
use Rattle.domain_script.specs.declared.event.Event.{Event}
use Rattle.domain_script.specs.declared.event.Event.TheVariants.{Settle}
use Rattle.world_parts.specs.world_laws.Forged.{NobodyForgesAny}
use Rattle.world_parts.specs.world_laws.Moves.{MovedIn, is_tick, ticks_in}
use Rattle.world_parts.specs.world_laws.Requests.{pending_of}
use Rattle.world_parts.specs.world_laws.Settle.{OfLane, SettleEntry, Settled, Unsettled, UnsettledPort, pending_on}
use Rattle.disk_law.specs.ListState.{ImageState}
use Rattle.domain_script.specs.declared.event.DiskDecl.{DiskDecl}
use Rattle.lane_kinds.specs.Lanes.{sum_of}
use Rattle.lane_kinds.specs.Stuck.{NeverThree}
use Rattle.world_parts.specs.lane_models.NetLaneState.{NetShape}
use Rattle.runs.specs.Run.{Run}
use Rattle.world_parts.specs.switch_laws.Ports.{pending}
use Rattle.world_parts.specs.domain_laws.Along.{port_happened}
use Rattle.world_parts.specs.domain_laws.Counts.{disk_stuck, moves_in, port_stuck}
use Rattle.world_parts.specs.domain_laws.Domain.{DomainState, DomainStep}
use Rattle.world_parts.specs.domain_laws.Forged.{NobodyForgesPort}
use Rattle.world_parts.specs.domain_laws.Settling.{port_ticks_in}
use Rattle.ldc_queue.specs.declared.end.End.{End}
use Rattle.ldom_entries.specs.declared.entry.Entry.{Entry}
use Rattle.script_laws.specs.Still.{AreStillBy}
use Rattle.script_laws.specs.Told.{log_at, told, told_by}
use Rattle.world_parts.specs.Declared.{world_of}
use Rattle.world_parts.specs.Lines.{EventStep}
use Rattle.world_parts.specs.Script.{ScriptParts, all_lines}
use Rattle.world_parts.specs.WorldEvents.{told_of}

-- NOBODY FORGED a disk or a port, by these entries
pub record NobodyForgesAll (entries : List SettleEntry) : Type 0 where
  pub of_disks : NobodyForgesAny entries
  pub of_ports : (k : ℕ) → NobodyForgesPort (port_happened k entries)

-- THE PART OF A SETTLE, also one that want of memory cut off: each disk and each port has at most one tick in it, and no
-- end of one finds no room three times with nothing but that between.
pub record KeepsRules (part : List SettleEntry) : Type 0 where
  pub ticks : (x : ℕ) → ticks_in x part ≤ 1
  pub port_ticks : (k : ℕ) → port_ticks_in k part ≤ 1
  pub moves : (x : ℕ) (e : End) → NeverThree (disk_stuck x e) 0 part
  pub port_moves : (k : ℕ) (e : End) → NeverThree (port_stuck k e) 0 part

-- A DISK IS FINISHED: its client's session is open, and all requests that it accepted have completed.
pub record IsFinishedBy (l : DiskLog) : Type 0 where
  pub session : is_some l.work.client ≡ true
  pub completed : l.work.done ≡ length l.work.issued

-- A TICK IN IT comes only where the disk's server runs, the disk isn't finished and both its ends are still; and where
-- nobody forged the disk, only where a packet was lost since the queues were last emptied.
pub record NeedsTick (l : DiskLog) : Type 0 where
  pub runs : l.work.stopped ≡ false
  pub waits : IsFinishedBy l → ⊥
  pub lost : l.wire.forged ≡ false → l.wire.lossy ≡ true
  pub still : AreStillBy l

abbrev pub TicksAreNeeded : Shape → ℕ → List (Event × List Entry) → Type 0
TicksAreNeeded shape x lines =
    (before : List (Event × List Entry)) (part : List Entry) (behind : List (Event × List Entry))
    (so_far : List SettleEntry) (event : DiskEvent) (rest : List SettleEntry)
    → lines ≡ before ++ (Settle, part) ∷ behind → told_by (Settle, part) ≡ so_far ++ OfLane x event ∷ rest
    → is_tick event ≡ true → NeedsTick (log_at shape x (told before ++ so_far))

-- A DISK IS LEFT OVER in it only where it moved there, by a step that isn't calm or by its tick, or isn't finished though
-- its server runs.
pub record WaitsBy (l : DiskLog) : Type 0 where
  pub runs : l.work.stopped ≡ false
  pub waits : IsFinishedBy l → ⊥

abbrev pub LeftWhereBusy : Shape → ℕ → List (Event × List Entry) → Type 0
LeftWhereBusy shape x lines =
    (before : List (Event × List Entry)) (part : List Entry) (behind : List (Event × List Entry))
    (so_far rest : List SettleEntry)
    → lines ≡ before ++ (Settle, part) ∷ behind → told_by (Settle, part) ≡ so_far ++ Unsettled x ∷ rest
    → MovedIn x so_far ⊎ WaitsBy (log_at shape x (told before ++ so_far))

-- WHERE IT ENDS SETTLED each disk whose server runs is finished, or had its tick in the part
abbrev pub RestsOrTicked : Shape → ℕ → List (Event × List Entry) → Type 0
RestsOrTicked shape x lines =
    (before : List (Event × List Entry)) (part : List Entry) (behind : List (Event × List Entry))
    (so_far rest : List SettleEntry)
    → lines ≡ before ++ (Settle, part) ∷ behind → told_by (Settle, part) ≡ so_far ++ Settled ∷ rest
    → (log_at shape x (told before ++ so_far)).work.stopped ≡ false
    → IsFinishedBy (log_at shape x (told before ++ so_far)) ⊎ (ticks_in x so_far ≡ 1)

-- a whole part ends settled
pub record EndsSettled (part : List SettleEntry) : Type 0 where
  pub front : List SettleEntry
  pub is : part ≡ front ++ Settled ∷ []

-- or it ends with the names of disks and of ports that are left over, and of one at least
pub record EndsUnsettled (part : List SettleEntry) : Type 0 where
  pub front : List SettleEntry
  pub disks : List ℕ
  pub ports : List ℕ
  pub some : 1 ≤ length disks + length ports
  pub is : part ≡ front ++ (map Unsettled disks ++ map UnsettledPort ports)

-- FROM A STATE these lines lead to another one, also where want of memory cut off the last of them
pub record LeadsOn (at : DomainState) (lines : List (Event × List Entry)) (v : DomainState) : Type 0 where
  pub later : List SettleEntry
  pub told_is : told lines ≡ map told_of later
  pub run : Run DomainStep at later v

-- THE ROUNDS RAN OUT, after these lines: the steps other than Blocked and the ticks so far are as many as may be made, by
-- how much was pending as the settle began. These are the requests of disks, as the entries tell them, and the frames
-- that ports held in the state from which the settle and the lines behind it led to the last one.
pub record RunsOutIn (disks : List DiskDecl) (nets : List NetShape) (image : ImageState)
    (before behind : List (Event × List Entry)) (so_far : List SettleEntry) (v : DomainState) : Type 0 where
  pub at : DomainState
  pub run : Run EventStep (world_of disks nets image) before at
  pub leads : LeadsOn at behind v
  pub requests : pending_on at.first.lanes ≡ pending_of 0 (length disks) (told before)
  pub most : 4096 + 64 * (pending_of 0 (length disks) (told before) + sum_of pending at.second) ≤ moves_in so_far

-- so each settle of a script's lines, of which the whole ones end. A lane is left over only where the rounds ran out, and
-- only where somebody forged a disk or a port before.
pub record SettlesEnd (disks : List DiskDecl) (nets : List NetShape) (image : ImageState) (parts : ScriptParts)
    (v : DomainState) : Type 0 where
  pub each : (before : List (Event × List Entry)) (part : List Entry) (behind : List (Event × List Entry))
      → all_lines parts ≡ before ++ (Settle, part) ∷ behind → KeepsRules (told_by (Settle, part))
  pub ends : (before : List (Event × List Entry)) (part : List Entry) (behind : List (Event × List Entry))
      → parts.whole ≡ before ++ (Settle, part) ∷ behind
      → EndsSettled (told_by (Settle, part)) ⊎ EndsUnsettled (told_by (Settle, part))
  pub settled : (before : List (Event × List Entry)) (part : List Entry) (behind : List (Event × List Entry))
      → parts.whole ≡ before ++ (Settle, part) ∷ behind → NobodyForgesAll (told before)
      → EndsSettled (told_by (Settle, part))
  pub left : (before : List (Event × List Entry)) (part : List Entry) (behind : List (Event × List Entry))
      (so_far : List SettleEntry) (x : ℕ) (rest : List SettleEntry)
      → all_lines parts ≡ before ++ (Settle, part) ∷ behind
      → told_by (Settle, part) ≡ so_far ++ Unsettled x ∷ rest
      → RunsOutIn disks nets image before ((Settle, part) ∷ behind) so_far v
  pub port_left : (before : List (Event × List Entry)) (part : List Entry) (behind : List (Event × List Entry))
      (so_far : List SettleEntry) (k : ℕ) (rest : List SettleEntry)
      → all_lines parts ≡ before ++ (Settle, part) ∷ behind
      → told_by (Settle, part) ≡ so_far ++ UnsettledPort k ∷ rest
      → RunsOutIn disks nets image before ((Settle, part) ∷ behind) so_far v
  pub none_left : (before : List SettleEntry) (x : ℕ) (behind : List SettleEntry)
      → told (all_lines parts) ≡ before ++ Unsettled x ∷ behind → NobodyForgesAll before → ⊥
  pub no_port_left : (before : List SettleEntry) (k : ℕ) (behind : List SettleEntry)
      → told (all_lines parts) ≡ before ++ UnsettledPort k ∷ behind → NobodyForgesAll before → ⊥

-- BEHIND EACH SETTLE a disk that nobody forged is finished, unless its server is stopped: whatever became of the store's
-- calls, and whatever was forged of others.
abbrev pub FinishesAll : Shape → ℕ → List SettleEntry → Type 0
FinishesAll shape x entries =
    (before behind : List SettleEntry) → entries ≡ before ++ Settled ∷ behind
    → (log_at shape x before).wire.forged ≡ false → (log_at shape x before).work.stopped ≡ false
    → IsFinishedBy (log_at shape x before)

-- and both ends of its lane are still there, forged or not
abbrev pub StillBehind : Shape → ℕ → List SettleEntry → Type 0
StillBehind shape x entries =
    (before behind : List SettleEntry) → entries ≡ before ++ Settled ∷ behind → AreStillBy (log_at shape x before)
