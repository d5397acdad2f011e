use Rattle.std.proofs.Common.{arith, length, ap}
use Rattle.kept_requests.specs.Bytes.{BytesState}
use Rattle.kept_requests.proofs.PackedBlocks.{kept_lengths}
use Rattle.kept_requests.proofs.bytes.Bytes.len.Goals as goal

pub returns : goal.returns
returns c =
    let long = kept_lengths c.self.inside.lengths.items c.self.inside.kept.items c.self.invariant.kept in
    omega (arith, long.1, c.self.invariant.plain, c.len.ensures, ap (λ (s : BytesState). length s.items) c.self.view_is)
