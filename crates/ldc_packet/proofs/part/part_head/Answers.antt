use Rattle.std.proofs.Common.{◌≡◌, length, arith, rules, length-drop}
use Rattle.ldc_packet.specs.Spelling.{env_at, part_env, subtype_at, type_at}
use Rattle.ldc_packet.proofs.Parts.{part_unpacks}
use Rattle.ldc_packet.proofs.part.part_head.Goals as goal

pub returns-clause-some : goal.returns-clause-some
returns-clause-some c =
    let bytes = c.args.bytes.now in
    let env = c.part_env_of-env.result in
    let kind : type_at bytes ≡ 2 = search rules in
    let subtype : subtype_at bytes ≡ 1 = search rules in
    let whole : env_at bytes ≡ part_env env.start env.stop env.len = search rules in
    let size : length bytes ≡ 64 = search rules in
    part_unpacks bytes _ size kind subtype whole (search rules) (omega arith) (omega arith)
    (omega (arith, length-drop 8 bytes, size))
