-- How near the image is, as what happened tells: of the pending requests the server finished the first k in this session and stored the
-- first u blocks of the write after them, the first m were published in an earlier session, and the first p ever.
use Rattle.std.specs.Prelude.{ℕ, ◌+◌, ◌-◌, ◌==◌, max, Bool, true, false, if◌then◌else◌}
use Rattle.lane_models.specs.WireEvent.{Reset, WireEvent}
use Rattle.lane_models.specs.DiskEvent.{Desc, DiskEvent, Done, Finished, Misplaced, Moved, OnWire, Published, Stopped, Stored, Switches, Worked, Works}

pub record NearLog : Type 0 where
  pub k : ℕ
  pub m : ℕ
  pub u : ℕ
  pub p : ℕ

abbrev pub nothing_near : NearLog
nothing_near = record { k = 0; m = 0; u = 0; p = 0 }

abbrev pub disturbed_near : NearLog → NearLog
disturbed_near n = record { k = 0; m = n.p; u = 0; p = n.p }

abbrev pub stored_more : ℕ → ℕ → Bool → ℕ → ℕ
stored_more operation count true u = u
stored_more operation count false u = if operation == 2 then u + count else u

-- The id that is published is the first pending one or a later one: `done` requests are done.
abbrev pub near_worked : ℕ → NearLog → Worked → NearLog
near_worked done n (Published id) = record n { p = max n.p (id + 1 - done) }
near_worked done n (Done id operation status bytes) = record n { k = n.k - 1; m = n.m - 1; p = n.p - 1 }
near_worked done n (Finished slot status) = record n { k = n.k + 1; u = 0 }
near_worked done n (Stored operation block count failed) = record n { u = stored_more operation count failed n.u }
near_worked done n (Desc slot bytes) = n
near_worked done n (Moved unit fault) = n
near_worked done n Misplaced = n

abbrev pub near_wired : NearLog → WireEvent → NearLog
near_wired n (Reset e cause packet lost) = disturbed_near n
near_wired n _ = n

-- after one more event, by the number of requests that were done before it
abbrev pub after_near : ℕ → NearLog → DiskEvent → NearLog
after_near done n (OnWire event) = near_wired n event
after_near done n (Works event) = near_worked done n event
after_near done n (Switches Stopped) = disturbed_near n
after_near done n _ = n
