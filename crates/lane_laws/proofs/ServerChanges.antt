-- What a server's work on units is to a lane's view.
use Rattle.std.proofs.Common.{◌≡◌, ℕ, ◌+◌, ◌*◌, ◌%◌, ◌≤◌, Option, Some, None, List, drop, length, refl, ap, ◌∙◌, subst, arith}
use Rattle.cookie_copy.specs.declared.fault.Access.TheVariants as access
use Rattle.cookie_copy.specs.declared.fault.CopyFault.{CopyFault}
use Rattle.cookie_copy.specs.Moved.{moved_in, moved_out}
use Rattle.ldc_queue.specs.declared.end.ChannelState.{ChannelState}
use Rattle.ldc_queue.specs.declared.end.ChannelState.TheVariants.{Up}
use Rattle.ldc_queue.specs.declared.end.End.TheVariants.{B}
use Rattle.vdisk_msg.specs.declared.request.Request.{Request}
use Rattle.vdisk_msg.specs.declared.request.Request.TheVariants.{Flush, Read, Write}
use Rattle.vdisk_msg.specs.Requested.{size_of}
use Rattle.vio_bytes.specs.Place.{put_at}
use Rattle.vio_bytes.specs.Range.{range_at}
use Rattle.lane_laws.specs.DiskLog.{DiskLog}
use Rattle.lane_models.specs.DiskEvent.{Moved, Works}
use Rattle.lane_models.specs.LaneState.{LaneState, NearCounts}
use Rattle.lane_models.specs.LaneStep.{WorkStep, reach}
use Rattle.lane_models.specs.Seeing.{seen}
use Rattle.lane_models.specs.ServerRule as server_rules
use Rattle.lane_models.specs.ServerState.{Gathers, Gives, Progress, ServerState, Work, Writes}
use Rattle.cookie_copy.specs.Reach.{Reach}
use Rattle.lane_models.specs.ServerWork.{MovesIn, data_cookies, desc_of, gathered, given, given_memory, in_fault, length_of, out_fault, reads_next, unit_length}
use Rattle.lane_laws.proofs.Ruling.{server_may}
use Rattle.lane_laws.specs.RuleFacts.{ServerMay}
use Rattle.lane_laws.specs.Contents.{ContentsStand, ProgressIs}
use Rattle.lane_laws.specs.LaneView.{place_of, view_of, work_while}
use Rattle.lane_laws.proofs.BehindRing.{ring_end}
use Rattle.lane_laws.proofs.Changes.{Gathered, Given}
use Rattle.lane_laws.proofs.PlacedViews.{Working, working}
use Rattle.lane_laws.proofs.Standing.{Before}
use Rattle.lane_laws.proofs.WireChanges.{Changed}
use Rattle.lane_laws.proofs.WorkSteps.{unit_within}
use Rattle.lane_laws.proofs.WorkUnits.{UnitFacts, answered, copied_in, copied_out, unit_facts}

-- THE VIEW after a server's work
pub server_view : (s t : LaneState) (work : Option Work) (k u : ℕ) (buffers : List ℕ) → t.client ≡ s.client → t.wire ≡ s.wire → s.wire.wire.end_b ≡ Up → t.server.work ≡ work → t.near.k ≡ k
    → t.near.m ≡ s.near.m → t.near.u ≡ u → drop (ring_end s.client.slots) t.memory ≡ buffers → view_of t ≡ record (view_of s) { work = work; k = k; u = u; buffers = buffers }
server_view s t work k u buffers client wire up work_is k_is m_is u_is buffers_are = search

-- the server serves
pub record ServesNow (s : LaneState) (l : DiskLog) (work : Work) : Type 0 where
  pub up : s.wire.wire.end_b ≡ Up
  pub now : work_while s.wire.wire.end_b s.server.work ≡ Some work
  pub on : Working s l work
  pub facts : UnitFacts s l work on

pub serves_now : (s : LaneState) (l : DiskLog) (work : Work) → Before s l → s.wire.wire.end_b ≡ Up → s.server.work ≡ Some work → ServesNow s l work
serves_now s l work before up is =
    let now : work_while s.wire.wire.end_b s.server.work ≡ Some work = ap (λ (x : ChannelState). work_while x s.server.work) up ∙ is in
    let on = working s l work before now in
    record { up = up; now = now; on = on; facts = unit_facts s l work before on }

-- A WRITE'S UNIT IS COPIED IN
unit_even : (count unit : ℕ) → unit_length (512 * count) unit % 8 ≡ 0
unit_even count unit = omega arith

gathered_is : (fault : Option CopyFault) (work : Work) (r : Reach) (unit : ℕ) → fault ≡ None → gathered fault work r unit ≡ Writes unit (moved_in r.table r.memory (data_cookies work) (8192 * unit) (length_of work unit))
gathered_is fault work r unit none = ap (λ (f : Option CopyFault). gathered f work r unit) none

gather_change : (s : LaneState) (l : DiskLog) (u : ℕ) (fault : Option CopyFault) (work : Work) (next : Progress) (t : LaneState) → Before s l → (serves : ServesNow s l work) → work.progress ≡ Gathers u
    → fault ≡ in_fault work (reach s (seen B s.shape.entries s.wire.wire).both) u → next ≡ gathered fault work (reach s (seen B s.shape.entries s.wire.wire).both) u
    → t.client ≡ s.client → t.wire ≡ s.wire → t.near ≡ s.near → t.server.work ≡ Some (record work { progress = next }) → t.memory ≡ s.memory
    → (request : Request) → serves.on.request ≡ request → ProgressIs (Gathers u) s.near.u request → (unit : ℕ) → Changed s (Works (Moved unit fault)) t
gather_change s l u fault work next t before serves progress why next_is client wire near work_is memory (Read block count) is fits unit = absurd fits
gather_change s l u fault work next t before serves progress why next_is client wire near work_is memory Flush is fits unit = absurd fits
gather_change s l u fault work next t before serves progress why next_is client wire near work_is memory (Write block count fill) is fits unit =
    let on = serves.on in
    let facts = serves.facts in
    let r = reach s (seen B s.shape.entries s.wire.wire).both in
    let size : size_of on.request ≡ 512 * count = ap size_of is in
    let long : length_of work u ≡ unit_length (512 * count) u = ap (λ (n : ℕ). unit_length n u) (facts.says.size ∙ size) in
    let inside = unit_within count u fits.1 in
    let within : 8192 * u + length_of work u ≤ size_of on.request = omega (arith, inside, long, size) in
    let whole : size_of on.request % 8 ≡ 0 = omega (arith, size) in
    let even : length_of work u % 8 ≡ 0 = ap (λ (n : ℕ). n % 8) long ∙ unit_even count u in
    let none : in_fault work r u ≡ None = answered access.Read s l work u (length_of work u) before on facts whole within even in
    let bytes = moved_in s.table s.memory (data_cookies work) (8192 * u) (length_of work u) in
    let next_writes : next ≡ Writes u bytes = next_is ∙ gathered_is fault work r u (why ∙ none) in
    record {
      kind = Gathered;
      change = record {
        session = on.live.session;
        unit = u;
        bytes = bytes;
        block = block;
        count = count;
        fill = fill;
        serves = record {
          work = work;
          there = on.live.there;
          now = serves.now;
          progress = progress;
          next = on.next ∙ ap (λ (q : Request). Some q) is;
          is =
              server_view s t (Some (record work { progress = Writes u bytes })) s.near.k s.near.u (view_of s).buffers client wire serves.up
              (work_is ∙ ap (λ (p : Progress). Some (record work { progress = p })) next_writes) (ap (λ (n : NearCounts). n.k) near) (ap (λ (n : NearCounts). n.m) near) (ap (λ (n : NearCounts). n.u) near)
              (ap (drop (ring_end s.client.slots)) memory);
        };
        bytes_are = copied_in s l work u (length_of work u) before on facts within none
            ∙ ap (λ (n : ℕ). range_at (place_of s.client.slots on.live.session s.near.k + 8192 * u) n (view_of s).buffers) long;
      };
      still = λ image other same. same;
      content = λ content. refl;
    }

-- A READ'S UNIT IS COPIED OUT
given_is : (fault : Option CopyFault) (work : Work) (unit : ℕ) → fault ≡ None → given fault work unit ≡ reads_next (desc_of work).size unit
given_is fault work unit none = ap (λ (f : Option CopyFault). given f work unit) none

given_bytes : (fault : Option CopyFault) (work : Work) (r : Reach) (unit : ℕ) (bytes : List ℕ) → fault ≡ None
    → given_memory fault work r unit bytes ≡ moved_out r.table r.memory (data_cookies work) (8192 * unit) bytes
given_bytes fault work r unit bytes none = ap (λ (f : Option CopyFault). given_memory f work r unit bytes) none

give_change : (s : LaneState) (l : DiskLog) (u : ℕ) (bytes : List ℕ) (fault : Option CopyFault) (work : Work) (next : Progress) (t : LaneState) → Before s l → (serves : ServesNow s l work)
    → work.progress ≡ Gives u bytes → fault ≡ out_fault work (reach s (seen B s.shape.entries s.wire.wire).both) u bytes → next ≡ given fault work u → t.client ≡ s.client → t.wire ≡ s.wire → t.near ≡ s.near
    → t.server.work ≡ Some (record work { progress = next }) → t.memory ≡ given_memory fault work (reach s (seen B s.shape.entries s.wire.wire).both) u bytes
    → (request : Request) → serves.on.request ≡ request → ProgressIs (Gives u bytes) s.near.u request → (unit : ℕ) → Changed s (Works (Moved unit fault)) t
give_change s l u bytes fault work next t before serves progress why next_is client wire near work_is memory (Write block count fill) is fits unit = absurd fits
give_change s l u bytes fault work next t before serves progress why next_is client wire near work_is memory Flush is fits unit = absurd fits
give_change s l u bytes fault work next t before serves progress why next_is client wire near work_is memory (Read block count) is fits unit =
    let on = serves.on in
    let facts = serves.facts in
    let r = reach s (seen B s.shape.entries s.wire.wire).both in
    let size : size_of on.request ≡ 512 * count = ap size_of is in
    let inside = unit_within count u fits.1 in
    let long = fits.2 in
    let within : 8192 * u + length bytes ≤ size_of on.request = omega (arith, inside, long, size) in
    let whole : size_of on.request % 8 ≡ 0 = omega (arith, size) in
    let even : length bytes % 8 ≡ 0 = ap (λ (n : ℕ). n % 8) long ∙ unit_even count u in
    let none : out_fault work r u bytes ≡ None = answered access.Write s l work u (length bytes) before on facts whole within even in
    let next_reads : next ≡ reads_next (512 * count) u = next_is ∙ given_is fault work u (why ∙ none) ∙ ap (λ (n : ℕ). reads_next n u) (facts.says.size ∙ size) in
    record {
      kind = Given;
      change = record {
        session = on.live.session;
        unit = u;
        bytes = bytes;
        block = block;
        count = count;
        serves = record {
          work = work;
          there = on.live.there;
          now = serves.now;
          progress = progress;
          next = on.next ∙ ap (λ (q : Request). Some q) is;
          is =
              server_view s t (Some (record work { progress = reads_next (512 * count) u })) s.near.k s.near.u
              (put_at (place_of s.client.slots on.live.session s.near.k + 8192 * u) bytes (view_of s).buffers) client wire serves.up
              (work_is ∙ ap (λ (p : Progress). Some (record work { progress = p })) next_reads) (ap (λ (n : NearCounts). n.k) near) (ap (λ (n : NearCounts). n.m) near) (ap (λ (n : NearCounts). n.u) near)
              (ap (drop (ring_end s.client.slots)) (memory ∙ given_bytes fault work r u bytes (why ∙ none)) ∙ copied_out s l work u bytes before on facts none);
        };
      };
      still = λ image other same. same;
      content = λ content. refl;
    }

-- A UNIT IS COPIED
moves_by : (p : Progress) (s : LaneState) (l : DiskLog) (unit : ℕ) (fault : Option CopyFault) (work : Work) (next : Progress) (t : LaneState) → Before s l → (serves : ServesNow s l work) → work.progress ≡ p
    → MovesIn p work (reach s (seen B s.shape.entries s.wire.wire).both) unit fault next t.memory → t.client ≡ s.client → t.wire ≡ s.wire → t.near ≡ s.near
    → t.server.work ≡ Some (record work { progress = next }) → ProgressIs p s.near.u serves.on.request → Changed s (Works (Moved unit fault)) t
moves_by (Gathers u) s l unit fault work next t before serves progress moves client wire near work_is fits =
    gather_change s l u fault work next t before serves progress moves.1 moves.2 client wire near work_is moves.3 serves.on.request refl fits unit
moves_by (Gives u bytes) s l unit fault work next t before serves progress moves client wire near work_is fits =
    give_change s l u bytes fault work next t before serves progress moves.1 moves.2 client wire near work_is moves.3 serves.on.request refl fits unit
moves_by _ s l unit fault work next t before serves progress moves client wire near work_is fits = absurd moves

pub moved_changes : (s : LaneState) (l : DiskLog) (unit : ℕ) (fault : Option CopyFault) (t : LaneState) → Before s l → ContentsStand (view_of s) → WorkStep s (Moved unit fault) t
    → Changed s (Works (Moved unit fault)) t
moved_changes s l unit fault t before contents step =
    let at = seen B s.shape.entries s.wire.wire in
    let m = step.1.step.1.0 in
    let may : ServerMay s.server at (server_rules.Serves m.session m.work) = subst (ServerMay s.server at) m.rule (server_may s.server at) in
    let serves = serves_now s l m.work before may.0 may.2 in
    moves_by m.work.progress s l unit fault m.work m.next t before serves refl m.moves (ap (λ (x : LaneState). x.client) step.1.is) (ap (λ (x : LaneState). x.wire) step.1.is) (ap (λ (x : LaneState). x.near) step.1.is)
    (ap (λ (x : ServerState). x.work) m.is) (contents.work m.work serves.now serves.on.request serves.on.next)
