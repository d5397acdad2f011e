use Rattle.std.proofs.Common.{◌≡◌, ℕ, List, ◌++◌, length, take, drop, sym, subst, ap, ◌∙◌, rules, arith}
use Rattle.std.proofs.lemmas.List.{take_at}
use borrow.Rule.Slice.PartMut.{post_of}
use Rattle.vio_tag.specs.Form.{HasWidths}
use Rattle.vio_tag.specs.Spelling.{SpellsMessage, canonical}
use Rattle.vio_tag.proofs.Canonical.{canonical_spells}
use Rattle.vio_tag.proofs.Reading.{spelled_decodes}
use Rattle.vio_tag.proofs.encoding.encode.Goals as goal

pub returns-clause-spells : goal.returns-clause-spells
unfolding canonical
returns-clause-spells c =
    let message = c.args.message.now in
    let out : List ℕ = c.copy_from_slice.new.self ++ post_of 0 8 c.put_body-length.new.out in
    let fits : HasWidths message = (omega arith, c.put_body-length.ensures.widths) in
    let long : length (canonical message) ≡ c.put_body-length.result = omega arith in
    let is : out ≡ canonical message ++ drop (length (canonical message)) c.args.out.now = search rules in
    let front : take c.put_body-length.result out ≡ canonical message =
    ap (take c.put_body-length.result) is ∙ take_at (canonical message) (drop (length (canonical message)) c.args.out.now) c.put_body-length.result long in
    subst (λ (bytes : List ℕ). SpellsMessage bytes message) (sym front) (canonical_spells message c.requires fits)

pub returns-clause-decodes : goal.returns-clause-decodes
returns-clause-decodes c =
    spelled_decodes (take c.put_body-length.result (c.copy_from_slice.new.self ++ post_of 0 8 c.put_body-length.new.out)) c.args.message.now c.requires
    (returns-clause-spells c)
