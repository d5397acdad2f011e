-- How many of the pending requests the server finished in its session: those between the first that isn't done and its count.
use Rattle.std.proofs.Common.{◌≡◌, ◌≢◌, ℕ, ◌+◌, Option, Some, None, refl, arith}
use Rattle.ldc_queue.specs.declared.end.ChannelState.{ChannelState}
use Rattle.ldc_queue.specs.declared.end.ChannelState.TheVariants.{Down, Resetting, Up}
use Rattle.ldc_queue.specs.Wire.{peer_behind}
use Rattle.lane_laws.specs.WorkLog.{ClientCounts, ServerCounts, change_client, change_server}

-- the counts of a server whose end is up
abbrev pub counts_while : ChannelState → Option ServerCounts → Option ServerCounts
counts_while Up counts = counts
counts_while Down counts = None
counts_while Resetting counts = None

abbrev pub KIs : Option ServerCounts → Option ClientCounts → ℕ → ℕ → Type 0
KIs None client done k = k ≡ 0
KIs (Some d) None done k = k ≡ 0
KIs (Some d) (Some c) done k = c.base + d.finished ≡ done + k

-- THE COUNTS that change leave what is finished
pub kis_server : (x : ChannelState) (q : Option ServerCounts) (g : ServerCounts → ServerCounts) (o : Option ClientCounts) (done k : ℕ) → ((d : ServerCounts) → (g d).finished ≡ d.finished)
    → KIs (counts_while x q) o done k → KIs (counts_while x (change_server g q)) o done k
kis_server Up (Some d) g (Some c) done k same is = omega (arith, is, same d)
kis_server _ _ g _ done k same is = is

pub kis_client : (q : Option ServerCounts) (f : ClientCounts → ClientCounts) (o : Option ClientCounts) (done k : ℕ) → ((c : ClientCounts) → (f c).base ≡ c.base) → KIs q o done k
    → KIs q (change_client f o) done k
kis_client q f o done k same is = grind arith

pub kis_none : (q : Option ServerCounts) (o : Option ClientCounts) (done : ℕ) → q ≡ None → KIs q o done 0
kis_none None o done none = refl
kis_none (Some d) o done none = absurd (cc none)

pub zero_where : (q : Option ServerCounts) (o : Option ClientCounts) (done k : ℕ) → q ≡ None → KIs q o done k → k ≡ 0
zero_where None o done k none is = is
zero_where (Some d) o done k none is = absurd (cc none)

-- where the client's end isn't up no server works on
pub not_live : (x y : ChannelState) (q : Option ServerCounts) → ((d : ServerCounts) → y ≡ Up → q ≡ Some d → x ≡ Up) → x ≢ Up → counts_while y q ≡ None
not_live x Up (Some d) alive not = absurd (not (alive d refl refl))
not_live x _ _ alive not = refl

pub not_up : (x : ChannelState) (q : Option ServerCounts) → x ≢ Up → counts_while x q ≡ None
not_up x q not = grind arith

-- after an end that was configured the other isn't up, or stays as it was
pub peer_not_live : (x y : ChannelState) (q : Option ServerCounts) → ((d : ServerCounts) → y ≡ Up → q ≡ Some d → x ≡ Up) → counts_while (peer_behind x y) q ≡ None
peer_not_live x y q alive = grind arith
