-- The frames that an end holds, as its calls see them.
use Rattle.std.specs.Prelude.{ℕ, List, [], ◌∷◌, ◌++◌, drop}

pub record FrameQueue : Type 0 where
  -- first what was given first
  pub frames : List (List ℕ)
  -- how many there may be
  pub room : ℕ

abbrev pub no_frames : ℕ → FrameQueue
no_frames room = record { frames = []; room = room }

abbrev pub with_last : List ℕ → FrameQueue → FrameQueue
with_last frame q = record q { frames = q.frames ++ frame ∷ [] }

abbrev pub without_front : ℕ → FrameQueue → FrameQueue
without_front count q = record q { frames = drop count q.frames }
