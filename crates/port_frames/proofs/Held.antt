-- Frames that leave one after another.
use Rattle.std.proofs.Common.{◌≡◌, ℕ, ◌+◌, List, ap}
use Rattle.std.proofs.lemmas.List.{drop-drop}
use Rattle.port_frames.specs.FrameQueue.{FrameQueue, without_front}

pub one_more : (count : ℕ) (q : FrameQueue) → without_front 1 (without_front count q) ≡ without_front (count + 1) q
one_more count q = ap (λ (frames : List (List ℕ)). record q { frames = frames }) (drop-drop 1 count q.frames)
