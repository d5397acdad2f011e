use Rattle.std.proofs.Common.{◌≡◌, ℕ, List, map, sum, take, take_all, ap, ap₂, subst, sym, ◌∙◌}
use Rattle.vnet_switch.proofs.Calls.{fresh_shown}
use Rattle.vnet_switch.proofs.Sound.{fresh_sound}
use Rattle.vnet_switch.specs.Kept.{fresh_frames, FrameSlots}
use Rattle.vnet_switch.specs.Named.{IsSound}
use Rattle.vnet_switch.specs.PortView.{PortView}
use Rattle.vnet_switch.specs.Queues.{fresh_port}
use Rattle.vnet_switch.specs.Shown.{switch_shown}
use Rattle.vnet_switch.proofs.switch.Switch.new.Goals as goal

pub invariant_of-result : goal.invariant_of-result
invariant_of-result c =
    let all : take c.loop-count.count-index c.args.slots.now ≡ c.args.slots.now = take_all c.loop-count.count-index
    c.args.slots.now c.loop-count-test.false in
    let ports : c.loop-count.ports.items ≡ map fresh_port c.args.slots.now = c.loop-count.invariant.ports
    ∙ ap (λ (rooms : List ℕ). map fresh_port rooms) all in
    let frames : c.in_ok-frames.frames ≡ fresh_frames (sum c.args.slots.now) = c.in_ok-frames.ensures
    ∙ ap fresh_frames (c.loop-count.invariant.room ∙ ap sum all) in
    subst (λ (p : List (PortView ℕ)). IsSound p c.in_ok-frames.frames) (sym ports)
    (subst (λ (f : FrameSlots). IsSound (map fresh_port c.args.slots.now) f) (sym frames)
    (fresh_sound c.args.slots.now c.requires))

pub returns : goal.returns
returns c =
    let all : take c.loop-count.count-index c.args.slots.now ≡ c.args.slots.now = take_all c.loop-count.count-index
    c.args.slots.now c.loop-count-test.false in
    let ports : c.loop-count.ports.items ≡ map fresh_port c.args.slots.now = c.loop-count.invariant.ports
    ∙ ap (λ (rooms : List ℕ). map fresh_port rooms) all in
    let frames : c.in_ok-frames.frames ≡ fresh_frames c.loop-count.room = c.in_ok-frames.ensures in
    ap₂ (λ (p : List (PortView ℕ)) (f : FrameSlots). switch_shown p f) ports frames
    ∙ fresh_shown c.args.slots.now c.loop-count.room
