use Rattle.std.proofs.Common.{◌≡◌, ℕ, List, take, drop, replicate, ◌/◌, length, refl, ◌∙◌, ap, arith}
use Rattle.std.proofs.lemmas.List.{length-replicate}
use Rattle.script_words.proofs.HexWords.{front_within, spells_front, taken_length}
use Rattle.script_words.proofs.spellings.put_front.Goals as goal
use Rattle.script_words.proofs.spellings.put_front.Goals.{then-len-eq0-via-then-len-eq0, then-len-eq0-via-else-len-eq0+then-len-most}

pub returns-then-len-eq0-clause-none : goal.returns-then-len-eq0-clause-none
returns-then-len-eq0-clause-none c = λ len bytes spells.
    let within = front_within c.args.most c.args.word.now len bytes spells in
    elim c.then-len-eq0.branch [
      | then-len-eq0-via-then-len-eq0 w ↦ absurd (omega (arith, within.0))
      | then-len-eq0-via-else-len-eq0+then-len-most w ↦ absurd (omega (arith, within.1))
    ]

pub returns-then-not-decode_front-clause-none : goal.returns-then-not-decode_front-clause-none
returns-then-not-decode_front-clause-none c = λ len bytes spells.
    c.if-not-decode_front.ensures.none refl (take len bytes) (taken_length c.args.most c.args.word.now len bytes spells) spells.reads spells.lower

pub returns-clause-some : goal.returns-clause-some
returns-clause-some c =
    let len : ℕ = length c.args.word.now / 2 in
    let room : length c.decode_front.new.room ≡ c.args.most =
    c.decode_front.auto.room ∙ ap (λ (l : List ℕ). length l) c.requires ∙ length-replicate {A = ℕ} c.args.most 0 in
    let behind : drop len c.decode_front.new.room ≡ drop len (replicate c.args.most 0) =
    c.if-not-decode_front.ensures.behind refl ∙ ap (λ (l : List ℕ). drop len l) c.requires in
    spells_front c.args.most c.args.word.now c.decode_front.new.room len (omega (arith, c.if-len-eq0.false)) c.if-len-most.false
    room behind (c.if-not-decode_front.ensures.reads refl) (c.if-not-decode_front.ensures.lower refl)
