-- The requests and the work on them: what was accepted and is done, and the counts of the two ends' open sessions.
use Rattle.std.specs.Prelude.{ℕ, ◌+◌, Bool, true, false, List, [], ◌∷◌, ◌++◌, length, Option, Some, None}
use Rattle.cookie_copy.specs.declared.fault.CopyFault.{CopyFault}
use Rattle.ldc_queue.specs.declared.end.End.{End}
use Rattle.ldc_queue.specs.declared.end.End.TheVariants.{A, B}
use Rattle.vdisk_msg.specs.declared.request.Request.{Request}
use Rattle.vdisk_msg.specs.Descriptor as slot_says
use Rattle.vdisk_msg.specs.Pieces.{Finishes, Piece, pieces}
use Rattle.lane_models.specs.Sayings.{half_heard, half_said}
use Rattle.lane_models.specs.TranscriptLog.{TranscriptLog}
use Rattle.lane_models.specs.WireEvent.{Joined, Reset, Sent, Took, WireEvent}
use Rattle.lane_models.specs.DiskEvent.{Accepted, Asks, Desc, DiskEvent, Done, Finished, Full, Misplaced, Moved, Off, OnWire, Published, Refused, Calms, Started, Stopped, Stored, Switches, Works}
use Rattle.dring.specs.Slots.{range_length}
use Rattle.lane_models.specs.Messages.{end_slot_of, opening_sid, range_ended, start_slot_of}

-- the client's open session, counted without bound: the done ones in it are all that are done less the base
pub record ClientCounts : Type 0 where
  pub sid : ℕ
  pub base : ℕ
  pub published : ℕ
  pub announced : ℕ
  pub infos : ℕ
  pub acked : ℕ

-- the server's, with the last descriptor and the pieces that it still owes
pub record ServerCounts : Type 0 where
  pub sid : ℕ
  pub asked : ℕ
  pub descs : ℕ
  pub finished : ℕ
  pub answered : ℕ
  pub desc : List ℕ
  pub owed : List Piece

-- a session that the server opened: its sid, and the statuses of the descriptors that it finished in it, in order
pub record Opened : Type 0 where
  pub sid : ℕ
  pub statuses : List ℕ

pub record WorkLog : Type 0 where
  pub issued : List Request
  pub done : ℕ
  -- the requests below it that aren't done were disturbed, by a reset or a stop
  pub disturbed_below : ℕ
  pub stopped : Bool
  pub client : Option ClientCounts
  pub server : Option ServerCounts
  -- newest first
  pub opened : List Opened

abbrev pub no_work : WorkLog
no_work = record { issued = []; done = 0; disturbed_below = 0; stopped = false; client = None; server = None; opened = [] }

abbrev pub ended_session : End → WorkLog → WorkLog
ended_session A l = record l { client = None }
ended_session B l = record l { server = None }

abbrev pub disturbs : WorkLog → WorkLog
disturbs l = record l { disturbed_below = length l.issued }

-- the counts of an open session changed, where one is open
abbrev pub change_client : (ClientCounts → ClientCounts) → Option ClientCounts → Option ClientCounts
change_client f None = None
change_client f (Some c) = Some (f c)

abbrev pub change_server : (ServerCounts → ServerCounts) → Option ServerCounts → Option ServerCounts
change_server f None = None
change_server f (Some c) = Some (f c)

-- what a range that was said or heard adds
abbrev pub length_in : ℕ → Option (List ℕ) → ℕ
length_in slots None = 0
length_in slots (Some message) = range_length slots (start_slot_of message) (end_slot_of message)

abbrev pub one_in : Option (List ℕ) → ℕ
one_in None = 0
one_in (Some message) = 1

abbrev pub opened_client : Bool → ℕ → ℕ → Option ClientCounts → Option ClientCounts
opened_client true sid base before = Some (record { sid = sid; base = base; published = 0; announced = 0; infos = 0; acked = 0 })
opened_client false sid base before = before

abbrev pub opened_counts : Bool → ℕ → Option ServerCounts → Option ServerCounts
opened_counts true sid before = Some (record { sid = sid; asked = 0; descs = 0; finished = 0; answered = 0; desc = []; owed = [] })
opened_counts false sid before = before

abbrev pub opened_more : Bool → ℕ → List Opened → List Opened
opened_more true sid before = record { sid = sid; statuses = [] } ∷ before
opened_more false sid before = before

-- a packet that an end put or took: it may end a range, and the session may open by it
abbrev pub work_said : ℕ → TranscriptLog → WorkLog → End → List ℕ → Bool → WorkLog
work_said slots t l A packet opens = record l {
  client = opened_client opens (opening_sid (half_said t.a) packet) l.done
      (change_client (λ (c : ClientCounts). record c { announced = c.announced + length_in slots (range_ended 1 (half_said t.a) packet); infos = c.infos + one_in (range_ended 1 (half_said t.a) packet) }) l.client);
}
work_said slots t l B packet opens = record l {
  server = opened_counts opens (opening_sid (half_said t.b) packet)
      (change_server (λ (c : ServerCounts). record c { answered = c.answered + length_in slots (range_ended 2 (half_said t.b) packet) }) l.server);
  opened = opened_more opens (opening_sid (half_said t.b) packet) l.opened;
}

abbrev pub work_heard : ℕ → TranscriptLog → WorkLog → End → List ℕ → Bool → WorkLog
work_heard slots t l A packet opens = record l {
  client = opened_client opens (opening_sid (half_heard t.a) packet) l.done
      (change_client (λ (c : ClientCounts). record c { acked = c.acked + length_in slots (range_ended 2 (half_heard t.a) packet) }) l.client);
}
work_heard slots t l B packet opens = record l {
  server = opened_counts opens (opening_sid (half_heard t.b) packet)
      (change_server (λ (c : ServerCounts). record c { asked = c.asked + length_in slots (range_ended 1 (half_heard t.b) packet) }) l.server);
  opened = opened_more opens (opening_sid (half_heard t.b) packet) l.opened;
}

abbrev pub work_wired : ℕ → TranscriptLog → WorkLog → WireEvent → WorkLog
work_wired slots t l (Joined e lost) = ended_session e l
work_wired slots t l (Reset e cause packet lost) = disturbs (ended_session e l)
work_wired slots t l (Took e packet opens) = work_heard slots t l e packet opens
work_wired slots t l (Sent e packet opens) = work_said slots t l e packet opens
work_wired slots t l _ = l

-- a piece that is done, and one that failed, which leaves a status alone
abbrev pub rest_of : List Piece → List Piece
rest_of [] = []
rest_of (piece ∷ rest) = rest

abbrev pub moved_rest : Option CopyFault → List Piece → List Piece
moved_rest None owed = rest_of owed
moved_rest (Some fault) owed = Finishes 22 ∷ []

abbrev pub stored_rest : Bool → List Piece → List Piece
stored_rest false owed = rest_of owed
stored_rest true owed = Finishes 5 ∷ []

-- the status of a descriptor, in the session that was opened last
abbrev pub finished_in : ℕ → List Opened → List Opened
finished_in status [] = []
finished_in status (session ∷ before) = record session { statuses = session.statuses ++ status ∷ [] } ∷ before

-- the log after one more event, of a disk of so many blocks and a ring of so many slots
abbrev pub after_work : ℕ → ℕ → TranscriptLog → WorkLog → DiskEvent → WorkLog
after_work blocks slots t l (OnWire event) = work_wired slots t l event
after_work blocks slots t l (Asks (Accepted id request)) = record l { issued = l.issued ++ request ∷ [] }
after_work blocks slots t l (Asks (Full request)) = l
after_work blocks slots t l (Asks (Refused why request)) = l
after_work blocks slots t l (Works (Published id)) = record l { client = change_client (λ (c : ClientCounts). record c { published = c.published + 1 }) l.client }
after_work blocks slots t l (Works (Done id operation status bytes)) = record l { done = l.done + 1 }
after_work blocks slots t l (Works (Desc slot bytes)) =
    record l { server = change_server (λ (c : ServerCounts). record c { descs = c.descs + 1; desc = bytes; owed = pieces (slot_says.disk_desc_of bytes) blocks 0x0e }) l.server }
after_work blocks slots t l (Works (Moved unit fault)) = record l { server = change_server (λ (c : ServerCounts). record c { owed = moved_rest fault c.owed }) l.server }
after_work blocks slots t l (Works (Stored operation block count failed)) = record l { server = change_server (λ (c : ServerCounts). record c { owed = stored_rest failed c.owed }) l.server }
after_work blocks slots t l (Works (Finished slot status)) = record l {
  server = change_server (λ (c : ServerCounts). record c { finished = c.finished + 1; owed = rest_of c.owed }) l.server;
  opened = finished_in status l.opened;
}
after_work blocks slots t l (Works Misplaced) = l
after_work blocks slots t l (Switches Stopped) = disturbs (record l { server = None; stopped = true })
after_work blocks slots t l (Switches Started) = record l { stopped = false }
after_work blocks slots t l (Switches Off) = l
after_work blocks slots t l (Calms event) = l
