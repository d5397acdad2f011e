-- What a frame that moves to the switch's end of a port leaves as it is: the port's shape, the guest's ids, and how
-- many frames the switch's end was given with those that wait for it.
use Rattle.std.proofs.Common.{◌≡◌, ℕ, suc, ◌+◌, Bool, true, false, List, [], ◌∷◌, length, refl, sym, ap, arith}
use Rattle.lane_models.specs.PortState.{PortState, moved, moves_first, takes_more}

moved_shape : (b : Bool) (queue : List (List ℕ)) (s : PortState) → (moves_first b queue s).lane.shape ≡ s.lane.shape
moved_shape true [] s = refl
moved_shape true (frame ∷ queue) s = refl
moved_shape false queue s = refl

pub same_shape : (s : PortState) → (moved s).lane.shape ≡ s.lane.shape
same_shape s = moved_shape (takes_more s.lane.hub) s.queue s

moved_guest : (b : Bool) (queue : List (List ℕ)) (s : PortState)
    → (moves_first b queue s).lane.guest.next_id ≡ s.lane.guest.next_id
moved_guest true [] s = refl
moved_guest true (frame ∷ queue) s = refl
moved_guest false queue s = refl

pub same_guest : (s : PortState) → (moved s).lane.guest.next_id ≡ s.lane.guest.next_id
same_guest s = moved_guest (takes_more s.lane.hub) s.queue s

moved_sum : (b : Bool) (queue : List (List ℕ)) (s : PortState) → queue ≡ s.queue
    → (moves_first b queue s).lane.hub.next_id + length (moves_first b queue s).queue ≡ s.lane.hub.next_id + length
    s.queue
moved_sum true [] s is = refl
moved_sum true (frame ∷ queue) s is =
    (let long : length s.queue ≡ suc (length queue) = sym (ap (λ (q : List (List ℕ)). length q) is) in omega
    (arith, long))
moved_sum false queue s is = refl

pub same_sum : (s : PortState) → (moved s).lane.hub.next_id + length (moved s).queue ≡ s.lane.hub.next_id + length
    s.queue
same_sum s = moved_sum (takes_more s.lane.hub) s.queue s refl
