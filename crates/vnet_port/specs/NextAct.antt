-- What an end is to do whose link and handshake owe nothing, by its session, if one is open.
use Rattle.std.specs.Prelude.{ℕ, Bool, false, ◌&&◌, not, nat_lt, List, Option, Some, None, is_some, slice_get}
use Rattle.ldc_link.specs.declared.phase.Role.{Role}
use Rattle.ldc_link.specs.declared.phase.Role.TheVariants.{Initiator, Responder}
use Rattle.lane_models.specs.NetEndRule.{Idles, NetRule, publishes, tells_first}
use Rattle.lane_models.specs.NetEndState.{NetEndState, NetSession, unseen_in}

-- an answer to an MCAST_INFO is owed
abbrev pub owes_reply : Option NetSession → Bool
owes_reply None = false
owes_reply (Some session) = is_some session.reply

-- the peer's ring is active
abbrev pub is_active : Option NetSession → Bool
is_active None = false
is_active (Some session) = is_some session.active

-- a guest's groups aren't told as they are, and no MCAST_INFO is unanswered
abbrev pub is_to_tell : Role → Option NetSession → Bool
is_to_tell role None = false
is_to_tell Initiator (Some session) = session.untold && not session.telling
is_to_tell Responder (Some session) = false

-- a frame that it holds isn't published
abbrev pub has_unpublished : List (List ℕ) → Option NetSession → Bool
has_unpublished frames None = false
has_unpublished frames (Some session) = is_some (slice_get frames (unseen_in session))

-- published frames aren't acknowledged, and no INFO is unanswered
abbrev pub is_to_announce : Option NetSession → Bool
is_to_announce None = false
is_to_announce (Some session) = nat_lt session.seen session.published && not session.asking

-- what is left of the rules where none of these is to be done before, and no packet waits: the end's own
abbrev pub offers : Role → NetEndState → Option NetSession → NetRule
offers role s None = Idles
offers role s (Some session) = tells_first role session (publishes session (slice_get s.frames (unseen_in session)))
