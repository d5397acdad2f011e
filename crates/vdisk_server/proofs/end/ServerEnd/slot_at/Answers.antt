use Rattle.vdisk_server.proofs.SlotSteps.{slot_is}
use Rattle.vdisk_server.proofs.end.ServerEnd.slot_at.Goals as goal

pub returns-clause-slot : goal.returns-clause-slot
returns-clause-slot c =
    slot_is c.args.number c.slot_of.result c.peer_slots.result c.args.self.now.handshake.draft.peer_slots c.peer_slots.ensures c.slot_of.ensures.slot
