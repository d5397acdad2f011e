-- What always holds of a server stays so in each step.
use Rattle.std.proofs.Common.{◌≡◌, ℕ, ◌+◌, Bool, true, false, List, Option, Some, None, refl, sym, subst}
use Rattle.cookie_copy.specs.declared.fault.CopyFault.{CopyFault}
use Rattle.ldc_link.specs.LinkState.{is_up, offered}
use Rattle.ldc_queue.specs.declared.end.End.TheVariants.{B}
use Rattle.vdisk_msg.specs.Descriptor.{disk_desc_of}
use Rattle.vio_tag.specs.Spelling.{canonical}
use Rattle.lane_models.specs.WireEvent.{Blocked, Idle, Joined, Reset, Sent, Took}
use Rattle.lane_models.specs.DiskEvent.{Desc, DiskEvent, Finished, Moved, OnWire, Stored, Works}
use Rattle.lane_models.specs.Ranges.{wrapped}
use Rattle.lane_models.specs.Seeing.{Seen}
use Rattle.lane_models.specs.ServerPutting.{server_holds}
use Rattle.lane_models.specs.ServerRule.{Fetches, Puts, Says, ServerRule, Serves, Takes, server_rule}
use Rattle.lane_models.specs.ServerState.{Ends, Flushes, Gathers, Gives, Progress, Reads, ServerSession, ServerState, SlotRange, Work, Writes, joined_server}
use Rattle.lane_models.specs.ServerStep.{ServerFetches, ServerFinishes, ServerMoves, ServerStep, ServerStores, with_progress}
use Rattle.cookie_copy.specs.Reach.{Reach}
use Rattle.lane_models.specs.ServerWork.{first_progress}
use Rattle.vdisk_server.specs.Rules.{in_hand, ranged}
use Rattle.vdisk_server.specs.Standing.{HasRange, IsOpen, IsQuiet, IsUnfinished, Stands, WorkIn, WorkStands, WorksRightly}
use Rattle.vdisk_server.proofs.LinkSteps.{none_to_send}
use Rattle.vdisk_server.proofs.RuleFacts.{Free, Known, Working, known_of, rule_known}
use Rattle.vdisk_server.proofs.StandKept.{stands_joined, stands_takes}
use Rattle.vdisk_server.proofs.StandPuts.{puts_idle, says_idle, stands_offered, stands_put, up_of}
use Rattle.vdisk_server.proofs.WorkKept.{first_rightly, moves_rightly, stores_rightly}

-- PUTTING: the server with the message in its link that the rule is to put
pub record Holding (held : ServerState) : Type 0 where
  pub stands : Stands held
  pub none : held.work ≡ None

some_same : (one other : ServerState) → Some one ≡ Some other → one ≡ other
some_same one other is = cc

none_held : (held : ServerState) → None ≡ Some held → ⊥
none_held held is = cc

both_ways : (b : Bool) → b ≡ true → b ≡ false → ⊥
both_ways b yes_it_is no_it_is = cc

held_stands : (s held : ServerState) (rule : ServerRule) → Stands s → Known rule s → server_holds rule s ≡ Some held → Holding held
held_stands s held Puts stands known is =
    subst (λ (x : ServerState). Holding x) (some_same s held is) (record { stands = stands; none = puts_idle s stands known })
held_stands s held (Says message) stands known is =
    subst (λ (x : ServerState). Holding x) (some_same (record s { link = offered (canonical message) s.link }) held is)
    (record { stands = stands_offered s message (canonical message) stands known.owed; none = says_idle s message stands known.owed })
held_stands s held rule stands known is = absurd (none_held held is)

-- TAKING: no descriptor is in work
hand_none : (session : ServerSession) (range : Option SlotRange) → IsUnfinished range session → ranged session range ≡ None → ⊥
hand_none session None unfinished is = unfinished
hand_none session (Some range) unfinished is = cc

range_hand : (session : Option ServerSession) → HasRange session → in_hand session ≡ None → ⊥
range_hand None range is = range
range_hand (Some session) range is = hand_none session session.range range is

free_work : (s : ServerState) (work : Option Work) → Free s → WorkIn s work → work ≡ None
free_work s None free stands = refl
free_work s (Some work) free stands = absurd (range_hand s.session stands.range free.range)

-- WORKING
work_rightly : (s : ServerState) (work : Option Work) (held : Work) → WorkIn s work → work ≡ Some held → WorkStands s held
work_rightly s None held stands is = absurd (cc)
work_rightly s (Some work) held stands is = subst (λ (w : Option Work). WorkIn s w) is stands

has_range : (s : ServerState) (session : ServerSession) → s.session ≡ Some session → IsUnfinished session.range session → HasRange s.session
has_range s session is range = subst (λ (x : Option ServerSession). HasRange x) (sym is) range

unfinished_more : (range : Option SlotRange) (session : ServerSession) (n : ℕ) → IsUnfinished range session → IsUnfinished range (record session { descs = n })
unfinished_more None session n unfinished = unfinished
unfinished_more (Some range) session n unfinished = unfinished

session_phase : (s : ServerState) (session other : ServerSession) → Stands s → s.session ≡ Some session → IsOpen (Some other) s.handshake.phase
session_phase s session other stands is = subst (λ (x : Option ServerSession). IsOpen x s.handshake.phase) is stands.session

rightly_same : (blocks : ℕ) (work : Work) (next : Progress) → WorksRightly blocks next work → WorksRightly blocks next (record work { progress = next })
rightly_same blocks work (Reads unit) rightly = rightly
rightly_same blocks work (Gives unit bytes) rightly = rightly
rightly_same blocks work (Gathers unit) rightly = rightly
rightly_same blocks work (Writes unit bytes) rightly = rightly
rightly_same blocks work Flushes rightly = tt
rightly_same blocks work (Ends status) rightly = tt

stands_quiet : (s : ServerState) (work : Work) (next : Progress) → Stands s → is_up s.link ≡ false → IsQuiet (with_progress s work next)
stands_quiet s work next stands down =
    let quiet : IsQuiet s = stands.began.down down in
    record { phase = quiet.phase; owed = quiet.owed; to_send = quiet.to_send; session = quiet.session }

stands_progress : (s : ServerState) (session : ServerSession) (work : Work) (next : Progress) → Stands s → Working s session (Some work)
    → WorksRightly s.blocks next work → Stands (with_progress s work next)
stands_progress s session work next stands working rightly =
    let was : WorkStands s work = work_rightly s s.work work stands.work working.work_is in
    record {
      disk = stands.disk;
      link = record { role = stands.link.role; phase = stands.link.phase; seen = stands.link.seen };
      handshake = stands.handshake;
      began = record { down = λ down. stands_quiet s work next stands down; up = stands.began.up };
      session = stands.session;
      work = record { range = was.range; owed = was.owed; to_send = was.to_send; rightly = rightly_same s.blocks work next rightly };
    }

stands_fetched : (s : ServerState) (at : Seen) (reach : Reach) (slot : ℕ) (bytes : List ℕ) (t : ServerState) (new : List ℕ) → Stands s
    → ServerFetches s at reach slot bytes t new → Stands t
stands_fetched s at reach slot bytes t new stands fetches =
    let session : ServerSession = fetches.session in
    let working : Working s session None = known_of s at (Fetches session) fetches.rule in
    let range : HasRange s.session = has_range s session working.session_is working.range in
    let up : is_up s.link ≡ true = up_of s stands range in
    let work : Work = record { bytes = bytes; progress = first_progress s.blocks (disk_desc_of bytes) } in
    subst (λ (x : ServerState). Stands x) (sym fetches.is)
    (record {
      disk = stands.disk;
      link = record { role = stands.link.role; phase = stands.link.phase; seen = stands.link.seen };
      handshake = stands.handshake;
      began = record { down = λ down. absurd (both_ways (is_up s.link) up down); up = stands.began.up };
      session = session_phase s session (record session { descs = wrapped (session.descs + 1) }) stands working.session_is;
      work = record {
        range = unfinished_more session.range session (wrapped (session.descs + 1)) working.range;
        owed = working.owed;
        to_send = none_to_send s.link up working.free;
        rightly = first_rightly s.blocks work;
      };
    })

stands_moved : (s : ServerState) (at : Seen) (reach : Reach) (unit : ℕ) (fault : Option CopyFault) (t : ServerState) (new : List ℕ) → Stands s
    → ServerMoves s at reach unit fault t new → Stands t
stands_moved s at reach unit fault t new stands moves =
    let working : Working s moves.session (Some moves.work) = known_of s at (Serves moves.session moves.work) moves.rule in
    let was : WorkStands s moves.work = work_rightly s s.work moves.work stands.work working.work_is in
    subst (λ (x : ServerState). Stands x) (sym moves.is)
    (stands_progress s moves.session moves.work moves.next stands working
    (moves_rightly s.blocks moves.work.progress moves.work reach unit fault moves.next new was.rightly moves.moves))

stands_stored : (s : ServerState) (at : Seen) (operation block count : ℕ) (failed : Bool) (gave : List ℕ) (t : ServerState) → Stands s
    → ServerStores s at operation block count failed gave t → Stands t
stands_stored s at operation block count failed gave t stands stores =
    let working : Working s stores.session (Some stores.work) = known_of s at (Serves stores.session stores.work) stores.rule in
    let was : WorkStands s stores.work = work_rightly s s.work stores.work stands.work working.work_is in
    subst (λ (x : ServerState). Stands x) (sym stores.is)
    (stands_progress s stores.session stores.work stores.next stands working
    (stores_rightly s.blocks stores.work.progress stores.work operation block count failed gave stores.next was.rightly stores.stores))

stands_finished : (s : ServerState) (at : Seen) (reach : Reach) (slot status : ℕ) (t : ServerState) (new : List ℕ) → Stands s
    → ServerFinishes s at reach slot status t new → Stands t
stands_finished s at reach slot status t new stands finishes =
    let session : ServerSession = finishes.session in
    let working : Working s session (Some finishes.work) = known_of s at (Serves session finishes.work) finishes.rule in
    let up : is_up s.link ≡ true = up_of s stands (has_range s session working.session_is working.range) in
    subst (λ (x : ServerState). Stands x) (sym finishes.is)
    (record {
      disk = stands.disk;
      link = record { role = stands.link.role; phase = stands.link.phase; seen = stands.link.seen };
      handshake = stands.handshake;
      began = record { down = λ down. absurd (both_ways (is_up s.link) up down); up = stands.began.up };
      session = session_phase s session (record session { finished = wrapped (session.finished + 1) }) stands working.session_is;
      work = tt;
    })

same_stands : (s t : ServerState) → Stands s → t ≡ s → Stands t
same_stands s t stands is = subst (λ (x : ServerState). Stands x) (sym is) stands

-- THE STEP
pub stands_step : (s : ServerState) (at : Seen) (reach : Reach) (gave : List ℕ) (event : DiskEvent) (t : ServerState) (new : List ℕ) → Stands s
    → ServerStep s at reach gave event t new → Stands t
stands_step s at reach gave (OnWire (Joined B lost)) t new stands step = same_stands (joined_server s) t (stands_joined s stands) step.2
stands_step s at reach gave (OnWire (Took B packet opens)) t new stands step =
    let free : Free s = known_of s at (Takes packet) step.0 in
    stands_takes s t packet opens stands (free_work s s.work free stands.work) step.1
stands_step s at reach gave (OnWire (Sent B packet opens)) t new stands step =
    let holding : Holding step.0.held = held_stands s step.0.held (server_rule s at) stands (rule_known s at) step.0.holds in
    subst (λ (x : ServerState). Stands x) (sym step.0.is) (stands_put step.0.held holding.stands holding.none)
stands_step s at reach gave (OnWire (Blocked B)) t new stands step = (held_stands s t (server_rule s at) stands (rule_known s at) step.0).stands
stands_step s at reach gave (OnWire (Idle B)) t new stands step = same_stands s t stands step.1
stands_step s at reach gave (OnWire (Reset B cause packet lost)) t new stands step = same_stands (joined_server s) t (stands_joined s stands) step.2
stands_step s at reach gave (Works (Desc slot bytes)) t new stands step = stands_fetched s at reach slot bytes t new stands step.0
stands_step s at reach gave (Works (Moved unit fault)) t new stands step = stands_moved s at reach unit fault t new stands step.0
stands_step s at reach gave (Works (Stored operation block count failed)) t new stands step = stands_stored s at operation block count failed gave t stands step.0
stands_step s at reach gave (Works (Finished slot status)) t new stands step = stands_finished s at reach slot status t new stands step.0
stands_step s at reach gave event t new stands step = absurd step
