-- Each event leaves in order what was ever published.
use Rattle.std.proofs.Common.{◌≡◌, ℕ, ◌+◌, Option, Some, subst, arith}
use Rattle.lane_models.specs.ClientState.{ClientSession, ClientState}
use Rattle.lane_laws.specs.Standing.{SessionStands}
use Rattle.lane_laws.proofs.Leaving.{ClientLeaves}
use Rattle.lane_laws.proofs.Standing.{EverStands}

-- a session's base is what is done less what is completed in it
based : (done : ℕ) (o : Option ClientSession) (session : ClientSession) → o ≡ Some session → SessionStands done o → done ≡ session.base + session.completed
based done o session is stands = let here : SessionStands done (Some session) = subst (SessionStands done) is stands in here

pub ever_left : (done : ℕ) (c t : ClientState) → ClientLeaves c t → t.next_id ≡ c.next_id → SessionStands done c.session → SessionStands done t.session → EverStands done c → EverStands done t
ever_left done c t leaves next before behind stands =
    let ever = leaves.ever in
    let first = stands.done_first in
    let most = stands.most in
    record {
      done_first = omega (arith, first, ever);
      most = omega (arith, most, ever, next);
      session = λ session is.
          let from = leaves.keeps session is in
          let old = stands.session from.was from.there in
          let completed = from.completed in
          let published = from.published in
          omega (arith, old, ever, completed, published, based done c.session from.was from.there before, based done t.session session is behind);
    }
