-- What an end does before what.
use Rattle.std.specs.Prelude.{◌≡◌, ◌≢◌, ◌+◌, ◌<◌, ◌⊎◌, true, false, [], length, Some, None, ⊤}
use Rattle.ldc_link.specs.declared.phase.Role.TheVariants.{Initiator, Responder}
use Rattle.ldc_link.specs.Putting.{owes_in}
use Rattle.ldc_queue.specs.declared.end.End.{End}
use Rattle.ldc_queue.specs.declared.end.End.TheVariants.{A, B}
use Rattle.ldc_queue.specs.Wire.{waiting_for}
use Rattle.lane_models.specs.WireEvent.{Blocked, Idle, Reset, Sent, Took}
use Rattle.lane_models.specs.DiskEvent.{Desc, DiskEvent, Finished, Moved, OnWire, Published, Stored, Works}
use Rattle.lane_models.specs.EndFold.{link_phase}
use Rattle.lane_models.specs.Blockage.{Clear}
use Rattle.lane_laws.specs.DiskLog.{DiskLog}
use Rattle.lane_laws.specs.WorkLaws.{IfClient, IfServer, InClient, InServer, client_handshake, server_handshake}
use Rattle.lane_laws.specs.WorkLog.{ClientCounts, ServerCounts}

-- all that is acknowledged is done, and all that was asked for is answered
abbrev pub HasCompleted : DiskLog → Type 0
HasCompleted l = IfClient l.work.client (λ (c : ClientCounts). l.work.done ≡ c.base + c.acked)

abbrev pub HasAnswered : DiskLog → Type 0
HasAnswered l = IfServer l.work.server (λ (c : ServerCounts). c.answered ≡ c.asked)

-- AN END HAS A PACKET TO PUT: of its link's handshake, or of a message that it owes: its handshake, a client announces, or a server answers
abbrev pub HasToPut : End → DiskLog → Type 0
HasToPut A l =
    (owes_in (link_phase Initiator l.transcript.a) ≡ true)
    ⊎ (((client_handshake l).owed ≢ None) ⊎ InClient l.work.client (λ (c : ClientCounts). c.announced < c.published))
HasToPut B l =
    (owes_in (link_phase Responder l.transcript.b) ≡ true)
    ⊎ (((server_handshake l).owed ≢ None) ⊎ InServer l.work.server (λ (c : ServerCounts). (c.answered < c.asked) × (c.finished ≡ c.asked)))

-- AN END OWES NOTHING of its link's handshake, and no message of its own
abbrev pub OwesNothing : End → DiskLog → Type 0
OwesNothing A l = (owes_in (link_phase Initiator l.transcript.a) ≡ false) × ((client_handshake l).owed ≡ None)
OwesNothing B l = (owes_in (link_phase Responder l.transcript.b) ≡ false) × ((server_handshake l).owed ≡ None)

-- all that was accepted is published, but where the client was blocked with its INFO before
abbrev pub HasPublished : DiskLog → Type 0
HasPublished l = IfClient l.work.client (λ (c : ClientCounts). l.blocked.client ≡ Clear → c.base + c.published ≡ length l.work.issued)

-- A PACKET IS TAKEN only where the end owes nothing: by a client that has completed all, and by a server that has answered all. So is one for
-- which the end resets itself.
abbrev pub TakesAt : End → DiskLog → Type 0
TakesAt A l = HasCompleted l × OwesNothing A l
TakesAt B l = HasAnswered l × OwesNothing B l × (l.blocked.server ≡ Clear)

-- A PACKET IS PUT, or finds no room, only where the end has one. A client has completed all then; and where it owes nothing, so that it
-- announces, nothing waits for it and all is published.
abbrev pub PutsAt : End → DiskLog → Type 0
PutsAt A l = HasToPut A l × HasCompleted l × (OwesNothing A l → (waiting_for A l.wire.wire ≡ []) × HasPublished l)
PutsAt B l = HasToPut B l

-- A SERVER WORKS only where it owes nothing and isn't blocked; so does a client publish, where moreover nothing waits for it
abbrev pub ServesAt : DiskLog → Type 0
ServesAt l = OwesNothing B l × (l.blocked.server ≡ Clear)

abbrev pub PublishesAt : DiskLog → Type 0
PublishesAt l = HasCompleted l × OwesNothing A l × (waiting_for A l.wire.wire ≡ []) × (l.blocked.client ≡ Clear)

-- and an end is idle only where it owes nothing
abbrev pub OrderAt : DiskLog → DiskEvent → Type 0
OrderAt l (OnWire (Took e packet opens)) = TakesAt e l
OrderAt l (OnWire (Reset e cause (Some packet) lost)) = TakesAt e l
OrderAt l (OnWire (Sent e packet opens)) = PutsAt e l
OrderAt l (OnWire (Blocked e)) = PutsAt e l
OrderAt l (OnWire (Idle e)) = OwesNothing e l
OrderAt l (Works (Published id)) = PublishesAt l
OrderAt l (Works (Desc slot bytes)) = ServesAt l
OrderAt l (Works (Moved unit fault)) = ServesAt l
OrderAt l (Works (Stored operation block count failed)) = ServesAt l
OrderAt l (Works (Finished slot status)) = ServesAt l
OrderAt l _ = ⊤
