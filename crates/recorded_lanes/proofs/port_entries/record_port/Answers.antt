use Rattle.std.proofs.Common.{refl}
use Rattle.kept_requests.specs.Bytes.{filled}
use Rattle.ldom_entries.specs.declared.entry.Entry.TheVariants as entry
use Rattle.switched_ports.specs.net_lane.net_out.NetOut.TheVariants as out
use Rattle.recorded_lanes.proofs.PortLeaving.{frame_recorded, port_named, recorded}
use Rattle.recorded_lanes.proofs.port_entries.record_port.Goals as goal

pub returns-in-Idle : goal.returns-in-Idle
returns-in-Idle c =
    recorded c.args.end.lane.number c.args.end.side c.args.out.now c.args.frame.now c.args.switched
    c.args.journal.now c.push_idle.new.self c.requires.switched c.requires.own out.Idle c.args.end
    entry.Idle c.in-Idle.is (port_named c.args.end c.requires.port) refl c.push_idle.ensures

pub returns-in-Blocked : goal.returns-in-Blocked
returns-in-Blocked c =
    recorded c.args.end.lane.number c.args.end.side c.args.out.now c.args.frame.now c.args.switched
    c.args.journal.now c.push_blocked.new.self c.requires.switched c.requires.own out.Blocked c.args.end
    entry.Blocked c.in-Blocked.is (port_named c.args.end c.requires.port) refl c.push_blocked.ensures

pub returns-in-Joined : goal.returns-in-Joined
returns-in-Joined c =
    recorded c.args.end.lane.number c.args.end.side c.args.out.now c.args.frame.now c.args.switched
    c.args.journal.now c.push_joined.new.self c.requires.switched c.requires.own (out.Joined c.in-Joined.lost) c.args.end
    (λ e. entry.Joined e c.in-Joined.lost) c.in-Joined.is (port_named c.args.end c.requires.port) refl c.push_joined.ensures

pub returns-in-Took : goal.returns-in-Took
returns-in-Took c =
    recorded c.args.end.lane.number c.args.end.side c.args.out.now c.args.frame.now c.args.switched
    c.args.journal.now c.push_took.new.self c.requires.switched c.requires.own (out.Took c.in-Took.packet c.in-Took.opens) c.args.end
    (λ e. entry.Took e c.in-Took.packet c.in-Took.opens) c.in-Took.is (port_named c.args.end c.requires.port) refl c.push_took.ensures

pub returns-in-Sent : goal.returns-in-Sent
returns-in-Sent c =
    recorded c.args.end.lane.number c.args.end.side c.args.out.now c.args.frame.now c.args.switched
    c.args.journal.now c.push_sent.new.self c.requires.switched c.requires.own (out.Sent c.in-Sent.packet c.in-Sent.opens) c.args.end
    (λ e. entry.Sent e c.in-Sent.packet c.in-Sent.opens) c.in-Sent.is (port_named c.args.end c.requires.port) refl c.push_sent.ensures

pub returns-in-Published : goal.returns-in-Published
returns-in-Published c =
    recorded c.args.end.lane.number c.args.end.side c.args.out.now c.args.frame.now c.args.switched
    c.args.journal.now c.push_published.new.self c.requires.switched c.requires.own (out.Published c.in-Published.id) c.args.end
    (λ e. entry.Published e c.in-Published.id) c.in-Published.is (port_named c.args.end c.requires.port) refl c.push_published.ensures

pub returns-in-Reset : goal.returns-in-Reset
returns-in-Reset c =
    recorded c.args.end.lane.number c.args.end.side c.args.out.now c.args.frame.now c.args.switched
    c.args.journal.now c.push_reset.new.self c.requires.switched c.requires.own (out.Reset c.in-Reset.cause c.in-Reset.packet c.in-Reset.lost) c.args.end
    (λ e. entry.Reset e c.in-Reset.cause c.in-Reset.packet c.in-Reset.lost) c.in-Reset.is (port_named c.args.end c.requires.port) refl c.push_reset.ensures

pub returns-in-Frame : goal.returns-in-Frame
returns-in-Frame c =
    frame_recorded c.args.end.lane.number c.args.end.side c.args.out.now c.args.frame.now c.args.switched
    c.args.journal.now c.record_frame.new.journal c.requires.switched c.requires.own c.args.end
    (filled c.args.frame.now) c.in-Frame.len (port_named c.args.end c.requires.port) refl c.in-Frame.is
    c.record_frame.ensures
