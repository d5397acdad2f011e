use Rattle.std.proofs.Common.{List, ℕ, sym, subst}
use Rattle.ldc_packet.specs.Spelling.{SpellsPacket}
use Rattle.ldc_packet.proofs.Canonical.{canonical_spells}
use Rattle.ldc_packet.proofs.Reading.{spelled_unpacks}
use Rattle.ldc_packet.proofs.encoding.encode.Goals as goal

pub returns-clause-spells : goal.returns-clause-spells
returns-clause-spells c =
    subst (λ (bytes : List ℕ). SpellsPacket bytes c.args.packet.now) (sym c.put_packet.ensures.written)
    (canonical_spells c.args.packet.now c.requires c.put_packet.ensures.widths)

pub returns-clause-decodes : goal.returns-clause-decodes
returns-clause-decodes c = spelled_unpacks c.put_packet.new.out c.args.packet.now c.requires (returns-clause-spells c)
