use Rattle.std.proofs.Common.{◌≡◌, drop}
use Rattle.vio_handshake.specs.Acceptance.{are_aligned}
use Rattle.vio_handshake.proofs.ring.are_aligned.Given as goal

-- the cookies that are left decide
abbrev pub invariant-loop-cookie : goal.invariant-loop-cookie
invariant-loop-cookie l = are_aligned l.cookies ≡ are_aligned (drop l.cookie-index l.cookies)
