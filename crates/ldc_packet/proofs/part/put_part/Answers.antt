use Rattle.std.proofs.Common.{◌≡◌, ℕ, ◌+◌, ◌-◌, List, ◌++◌, length, take, drop, ap, ◌∙◌, rules}
use borrow.Rule.Slice.PartMut.{put_mid}
use Rattle.ldc_packet.proofs.Parts.{zeros_left}
use Rattle.ldc_packet.proofs.part.put_part.Goals as goal

pub returns : goal.returns
returns c =
    let out : List ℕ = c.args.out.now in
    let part : List ℕ = c.args.part.now in
    let len : ℕ = length part in
    let copied : put_mid 8 (8 + len - 8) out c.copy_from_slice.new.self ≡ take 8 out ++ (part ++ drop (8 + len) out) =
    search rules in
    copied ∙ ap (λ (xs : List ℕ). take 8 out ++ (part ++ xs)) (zeros_left len out c.requires.zeros)
