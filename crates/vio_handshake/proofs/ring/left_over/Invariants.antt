use Rattle.std.proofs.Common.{◌≡◌, ◌-◌, drop}
use Rattle.vio_handshake.specs.Acceptance.{sizes}
use Rattle.vio_handshake.proofs.ring.left_over.Given as goal

-- the cookies that are left take the rest
abbrev pub invariant-loop-cookie : goal.invariant-loop-cookie
invariant-loop-cookie l = l.bytes - sizes l.cookies ≡ l.rest - sizes (drop l.cookie-index l.cookies)
