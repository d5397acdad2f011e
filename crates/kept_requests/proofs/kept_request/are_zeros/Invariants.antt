use Rattle.std.proofs.Common.{◌≡◌, ◌↔◌, take, replicate}
use Rattle.kept_requests.proofs.kept_request.are_zeros.Given as goal

abbrev pub invariant-loop-byte : goal.invariant-loop-byte
invariant-loop-byte l = (l.most ≡ 0) ↔ (take l.byte-index l.bytes ≡ replicate l.byte-index 0)
