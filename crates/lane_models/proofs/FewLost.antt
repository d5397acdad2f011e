-- FEW ARE LOST between two packets with numbers that an end takes: the sums, act by act.
use Rattle.std.proofs.Common.{◌≡◌, ℕ, ◌+◌, ◌≤◌, ◌<◌, Bool, true, false, List, [], ◌∷◌, ◌++◌, length, drop, ap, ◌∙◌, arith}
use Rattle.ldc_link.specs.declared.phase.LinkPhase.{LinkPhase}
use Rattle.ldc_queue.specs.declared.end.ChannelState.{ChannelState}
use Rattle.ldc_queue.specs.declared.end.ChannelState.TheVariants.{Up}
use Rattle.ldc_queue.specs.Numbered.{is_numbered, kept}
use Rattle.ldc_queue.specs.QueueLog.{WaitsLongest, lost_past}
use Rattle.lane_models.specs.Conversing.{FewAreLost, live_budget, live_puts, live_takes, puts_left, takes_left, unless, unnumbered}

-- an end that is up counts itself
pub up_budget : (e : ChannelState) (n : ℕ) → e ≡ Up → live_budget e n ≡ n
up_budget e n up = ap (λ (x : ChannelState). live_budget x n) up

pub up_puts : (e : ChannelState) (ph : LinkPhase) → e ≡ Up → live_puts e ph ≡ puts_left ph
up_puts e ph up = ap (λ (x : ChannelState). live_puts x ph) up

pub up_takes : (e : ChannelState) (ph : LinkPhase) → e ≡ Up → live_takes e ph ≡ takes_left ph
up_takes e ph up = ap (λ (x : ChannelState). live_takes x ph) up

-- a budget that is lower
pub live_lower : (e : ChannelState) (n m : ℕ) → n ≤ m → live_budget e n ≤ live_budget e m
live_lower e n m lower = grind arith

pub live_small : (e : ChannelState) (n : ℕ) → n ≤ 34000 → live_budget e n ≤ 34000
live_small e n small = grind arith

-- what has no number
unless_more : (b : Bool) (n : ℕ) → unless b n ≡ n + unless b 0
unless_more true n = omega arith
unless_more false n = omega arith

pub unnumbered-append : (packets : List (List ℕ)) (packet : List ℕ) → unnumbered (packets ++ packet ∷ []) ≡ unnumbered packets + unless (is_numbered packet) 0
unnumbered-append [] packet = omega arith
unnumbered-append (first ∷ packets) packet =
    unless_more (is_numbered first) (unnumbered (packets ++ packet ∷ [])) ∙ omega (arith, unnumbered-append packets packet, unless_more (is_numbered first) (unnumbered packets))

-- the queue without its first
pub first_length : (packet : List ℕ) (waiting : List (List ℕ)) → WaitsLongest packet waiting → length waiting ≡ length (drop 1 waiting) + 1
first_length packet waiting first = omega (arith, ap length first)

pub first_unnumbered : (packet : List ℕ) (waiting : List (List ℕ)) → WaitsLongest packet waiting → unnumbered waiting ≡ unnumbered (drop 1 waiting) + unless (is_numbered packet) 0
first_unnumbered packet waiting first = ap unnumbered first ∙ unless_more (is_numbered packet) (unnumbered (drop 1 waiting))

-- nothing is lost at the beginning
pub few_begins : (theirs mine left : ℕ) → theirs ≤ 34000 → mine ≤ 34000 → left ≤ 2 → FewAreLost 0 0 theirs 0 mine left
few_begins theirs mine left b o c = record { few = omega (arith, b, o, c) }

pub few_lower : (lost waiting theirs peer mine left theirs_now mine_now left_now : ℕ) → FewAreLost lost waiting theirs peer mine left
    → theirs_now ≤ theirs → mine_now ≤ mine → left_now ≤ left → FewAreLost lost waiting theirs_now peer mine_now left_now
few_lower lost waiting theirs peer mine left theirs_now mine_now left_now f b o c = record { few = omega (arith, f.few, b, o, c) }

-- one is put for the end, and one by it
pub few_put : (lost waiting theirs peer mine left waiting_now theirs_now left_now : ℕ) → FewAreLost lost waiting theirs peer mine left
    → waiting_now ≡ waiting + 1 → theirs_now + 1 ≤ theirs → left_now ≤ left → FewAreLost lost waiting_now theirs_now peer mine left_now
few_put lost waiting theirs peer mine left waiting_now theirs_now left_now f w b c = record { few = omega (arith, f.few, w, b, c) }

pub few_peer_put : (lost waiting theirs peer mine left peer_now mine_now left_now : ℕ) → FewAreLost lost waiting theirs peer mine left
    → peer_now ≡ peer + 1 → mine_now + 1 ≤ mine → left_now ≤ left → FewAreLost lost waiting theirs peer_now mine_now left_now
few_peer_put lost waiting theirs peer mine left peer_now mine_now left_now f p o c = record { few = omega (arith, f.few, p, o, c) }

-- one is taken by the end, and one by its peer
pub few_took : (b : Bool) (packet : List ℕ) (lost waiting theirs peer mine left rest mine_now left_now : ℕ) → FewAreLost lost waiting theirs peer mine left
    → waiting ≡ rest + 1 → waiting ≤ 256 → theirs ≤ 34000 → peer ≤ 256 → mine_now ≤ 34000 → left_now + unless b 0 ≤ left → left ≤ 2
    → FewAreLost (lost_past (kept b packet []) lost) rest theirs peer mine_now left_now
few_took true packet lost waiting theirs peer mine left rest mine_now left_now f w small b p o c few = record { few = omega (arith, w, small, b, p, o, c, few) }
few_took false packet lost waiting theirs peer mine left rest mine_now left_now f w small b p o c few = record { few = omega (arith, f.few, w, o, c) }

pub few_peer_took : (lost waiting theirs peer mine left peer_now theirs_now left_now : ℕ) → FewAreLost lost waiting theirs peer mine left
    → peer ≡ peer_now + 1 → theirs_now ≤ 34000 → left_now ≤ left → FewAreLost lost waiting theirs_now peer_now mine left_now
few_peer_took lost waiting theirs peer mine left peer_now theirs_now left_now f p b c = record { few = omega (arith, f.few, p, b, c) }

-- the first that waits is lost
pub few_lost : (b : Bool) (packet : List ℕ) (lost waiting theirs peer mine left rest left_now : ℕ) → FewAreLost lost waiting theirs peer mine left
    → waiting ≡ rest + 1 → left_now ≤ left → FewAreLost (lost + length (kept b packet [])) rest theirs peer mine left_now
few_lost true packet lost waiting theirs peer mine left rest left_now f w c = record { few = omega (arith, f.few, w, c) }
few_lost false packet lost waiting theirs peer mine left rest left_now f w c = record { few = omega (arith, f.few, w, c) }

pub few_peer_lost : (lost waiting theirs peer mine left peer_now : ℕ) → FewAreLost lost waiting theirs peer mine left → peer ≡ peer_now + 1
    → FewAreLost lost waiting theirs peer_now mine left
few_peer_lost lost waiting theirs peer mine left peer_now f p = record { few = omega (arith, f.few, p) }

-- fewer than the numbers tell apart
pub below_turn : (lost waiting theirs peer mine left : ℕ) → FewAreLost lost waiting theirs peer mine left → lost < 4294967296
below_turn lost waiting theirs peer mine left f = omega (arith, f.few)
