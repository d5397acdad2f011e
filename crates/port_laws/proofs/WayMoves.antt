-- What is said and heard keeps what is on the way, whichever end says and hears it.
use Rattle.std.proofs.Common.{◌≡◌, ℕ, ◌+◌, ◌-◌, ◌%◌, ◌<◌, ◌≤◌, true, false, Option, Some, None, List, [], ◌∷◌, ◌++◌, inl, inr, refl, sym, ap, ◌∙◌, subst, arith, append_assoc}
use Rattle.std.specs.Prelude.{⊤}
use Rattle.std.proofs.lemmas.Bool.{cases_lt}
use Rattle.std.proofs.lemmas.List.{append-nil, append_cancel_left}
use Rattle.std.proofs.lemmas.Nat.{mod_below}
use Rattle.std.proofs.Math.Nat.{add-mod_right, mod-add-mod, mod-eq_of_lt, mod-mod}
use Rattle.vio_tag.specs.Spelling.{envelope_at}
use Rattle.lane_models.specs.Messages.{end_slot_of, start_slot_of}
use Rattle.lane_models.specs.Ranges.{wrapped}
use Rattle.dring.specs.Slots.{range_length}
use Rattle.lane_models.specs.EndLog.{SessionLog, heard_in, heard_kind, more_published, more_taken, range_of, said_in, said_kind}
use Rattle.lane_models.specs.FrameLaws.{Acknowledges, Announces}
use Rattle.lane_models.specs.Spoken.{GroupsNack, Other, RangeAck, RangeInfo, Spoken, spoken}
use Rattle.port_laws.specs.Counted.{SaysRightly}
use Rattle.port_laws.specs.WaysStand.{Comes, Goes, Rests, Way, Ways, Works, ack_first, acks_in, info_first, infos_in}
use Rattle.port_laws.proofs.SessionsHeard.{Grown}

-- LISTS
info_more : (k : Spoken) (message : List ℕ) (rest more : List (List ℕ)) → info_first k message (rest ++ more) ≡ info_first k message rest ++ more
info_more k message rest more = grind arith

ack_more : (k : Spoken) (message : List ℕ) (rest more : List (List ℕ)) → ack_first k message (rest ++ more) ≡ ack_first k message rest ++ more
ack_more k message rest more = grind arith

pub infos-append : (xs ys : List (List ℕ)) → infos_in (xs ++ ys) ≡ infos_in xs ++ infos_in ys
infos-append [] ys = refl
infos-append (x ∷ xs) ys = ap (info_first (spoken x) x) (infos-append xs ys) ∙ info_more (spoken x) x (infos_in xs) (infos_in ys)

pub acks-append : (xs ys : List (List ℕ)) → acks_in (xs ++ ys) ≡ acks_in xs ++ acks_in ys
acks-append [] ys = refl
acks-append (x ∷ xs) ys = ap (ack_first (spoken x) x) (acks-append xs ys) ∙ ack_more (spoken x) x (acks_in xs) (acks_in ys)

pub both_none : (xs ys : List (List ℕ)) → xs ++ ys ≡ [] → (xs ≡ []) × (ys ≡ [])
both_none [] ys is = (refl, is)
both_none (x ∷ xs) ys is = absurd (cc is)

-- messages that speak of no ring and no groups of a session
abbrev pub EachLow : List (List ℕ) → Type 0
EachLow [] = ⊤
EachLow (message ∷ messages) = (envelope_at message < 0x0042) × EachLow messages

pub low_rest : (xs ys : List (List ℕ)) → EachLow (xs ++ ys) → EachLow ys
low_rest [] ys low = low
low_rest (x ∷ xs) ys low = low_rest xs ys low.1

-- no INFO and no ACK is among messages
pub record Plain (messages : List (List ℕ)) : Type 0 where
  pub infos : infos_in messages ≡ []
  pub acks : acks_in messages ≡ []
  pub low : EachLow messages

pub plain_rest : (xs ys : List (List ℕ)) → Plain (xs ++ ys) → Plain ys
plain_rest xs ys plain = grind (arith, both_none, infos-append, acks-append, low_rest)

pub plain_as : (xs ys : List (List ℕ)) → ys ≡ xs → Plain ys → Plain xs
plain_as xs ys same plain = subst Plain same plain

-- THE SAME COUNTS
pub record SameAsks (v w : SessionLog) : Type 0 where
  pub asking : w.asking ≡ v.asking
  pub infos : w.infos ≡ v.infos
  pub seen : w.seen ≡ v.seen

pub record SameAnswers (v w : SessionLog) : Type 0 where
  pub asked : w.asked ≡ v.asked
  pub acks : w.acks ≡ v.acks
  pub answered : w.answered ≡ v.answered
  pub taken : w.taken ≡ v.taken

pub way_as : (slots : ℕ) (v x w y : SessionLog) (infos infos_now acks acks_now : List (List ℕ)) → SameAsks v x → SameAnswers w y → infos_now ≡ infos → acks_now ≡ acks → Way slots v w infos acks
    → Way slots x y infos_now acks_now
way_as slots v x w y infos infos_now acks acks_now one two i a (Rests asking asked acked answered taken none no_ack) =
    grind (arith, one.seen, one.infos)
way_as slots v x w y infos infos_now acks acks_now one two i a (Goes info asking asked acked answered taken some seq start end no_ack) =
    let seen = one.seen in
    let said = one.infos in
    Goes info (one.asking ∙ asking) (ap (λ (n : ℕ). n + 1) two.asked ∙ asked ∙ sym said) (two.acks ∙ acked ∙ sym two.asked) (two.answered ∙ answered ∙ sym seen) (two.taken ∙ taken ∙ sym seen) (i ∙ some)
    (seq ∙ ap wrapped (sym said)) (start ∙ ap (λ (n : ℕ). n % slots) (sym seen)) end (a ∙ no_ack)
way_as slots v x w y infos infos_now acks acks_now one two i a (Works asking asked busy answered none no_ack) =
    grind (arith, one.seen, one.infos)
way_as slots v x w y infos infos_now acks acks_now one two i a (Comes ack asking asked acked answered some none one_ack start end) =
    let seen = one.seen in
    let said = one.infos in
    let taken = two.taken in
    Comes ack (one.asking ∙ asking) (two.asked ∙ asked ∙ sym said) (two.acks ∙ acked ∙ sym two.asked) (two.answered ∙ answered ∙ sym taken) (omega (arith, some, seen, taken)) (i ∙ none) (a ∙ one_ack)
    (start ∙ ap (λ (n : ℕ). n % slots) (sym seen)) (end ∙ ap (λ (n : ℕ). (n - 1) % slots) (sym taken))

pub same_asks : (v : SessionLog) → SameAsks v v
same_asks v = record { asking = refl; infos = refl; seen = refl }

pub same_answers : (v : SessionLog) → SameAnswers v v
same_answers v = record { asked = refl; acks = refl; answered = refl; taken = refl }

pub ways_as : (slots : ℕ) (sa ha sb hb : List (List ℕ)) (v x w y : SessionLog) → SameAsks v x → SameAnswers v x → SameAsks w y → SameAnswers w y → Ways slots sa ha sb hb v w → Ways slots sa ha sb hb x y
ways_as slots sa ha sb hb v x w y one two three four ways = record {
  going = ways.going;
  coming = ways.coming;
  goes = ways.goes;
  comes = ways.comes;
  mine = way_as slots v x w y (infos_in ways.going) (infos_in ways.going) (acks_in ways.coming) (acks_in ways.coming) one four refl refl ways.mine;
  theirs = way_as slots w y v x (infos_in ways.coming) (infos_in ways.coming) (acks_in ways.going) (acks_in ways.going) three two refl refl ways.theirs;
}

pub swap_ways : (slots : ℕ) (sa ha sb hb : List (List ℕ)) (v w : SessionLog) → Ways slots sa ha sb hb v w → Ways slots sb hb sa ha w v
swap_ways slots sa ha sb hb v w ways = record { going = ways.coming; coming = ways.going; goes = ways.comes; comes = ways.goes; mine = ways.theirs; theirs = ways.mine }

-- THE SLOTS OF AN ACK
span_of : (n s d : ℕ) → 1 ≤ n → d < n → range_length n (s % n) ((s + d) % n) ≡ d + 1
span_of n s d some small =
    let first : s % n < n = mod_below s n (omega (arith, some)) in
    let from : (s % n) % n ≡ s % n = mod-mod s n in
    let last : (s + d) % n ≡ (s % n + d) % n = sym (mod-add-mod s n d) in
    elim (cases_lt (s % n + d) n) [
      | inl within ↦
          let end : (s + d) % n ≡ s % n + d = last ∙ mod-eq_of_lt within in
          let all : (s + d) % n + n - (s % n) % n ≡ d + n = omega (arith, end, from, first) in
          ap (λ (m : ℕ). m % n + 1) all ∙ ap (λ (m : ℕ). m + 1) (add-mod_right d n ∙ mod-eq_of_lt small)
      | inr past ↦
          let rest : s % n + d ≡ s % n + d - n + n = omega (arith, past) in
          let below : s % n + d - n < n = omega (arith, past, first, small) in
          let end : (s + d) % n ≡ s % n + d - n = last ∙ ap (λ (m : ℕ). m % n) rest ∙ add-mod_right (s % n + d - n) n ∙ mod-eq_of_lt below in
          let all : (s + d) % n + n - (s % n) % n ≡ d = omega (arith, end, from, first, past) in
          ap (λ (m : ℕ). m % n + 1) all ∙ ap (λ (m : ℕ). m + 1) (mod-eq_of_lt small)
    ]

pub span : (n seen taken : ℕ) (message : List ℕ) → 1 ≤ n → seen < taken → taken ≤ seen + n → start_slot_of message ≡ seen % n → end_slot_of message ≡ (taken - 1) % n → seen + range_of n message ≡ taken
span n seen taken message some less turn start end =
    let last : taken - 1 ≡ seen + (taken - 1 - seen) = omega (arith, less) in
    let long : range_of n message ≡ taken - 1 - seen + 1 = grind (arith, span_of) in omega (arith, long, less)

-- AN END SAYS a message of its session
-- an INFO, where none was unanswered
asks_way : (slots : ℕ) (v w : SessionLog) (infos acks : List (List ℕ)) (message : List ℕ) → Announces slots v message → Way slots v w infos acks
    → Way slots (said_kind RangeInfo message v) w (infos ++ message ∷ []) acks
asks_way slots v w infos acks message right (Rests asking asked acked answered taken none no_ack) =
    Goes message refl (ap (λ (n : ℕ). n + 1) asked) (acked ∙ sym asked) answered taken (ap (λ (xs : List (List ℕ)). xs ++ message ∷ []) none) right.next right.begins right.no_end no_ack
asks_way slots v w infos acks message right (Goes info asking asked acked answered taken some seq start end no_ack) = let wrong : true ≡ false = sym asking ∙ right.answered in absurd (cc wrong)
asks_way slots v w infos acks message right (Works asking asked busy answered none no_ack) = let wrong : true ≡ false = sym asking ∙ right.answered in absurd (cc wrong)
asks_way slots v w infos acks message right (Comes ack asking asked acked answered some none one_ack start end) = let wrong : true ≡ false = sym asking ∙ right.answered in absurd (cc wrong)

-- an ACK, which ends its work
answers_way : (slots : ℕ) (w v : SessionLog) (infos acks : List (List ℕ)) (message : List ℕ) → Acknowledges slots v message → Way slots w v infos acks
    → Way slots w (said_kind RangeAck message v) infos (acks ++ message ∷ [])
answers_way slots w v infos acks message right (Rests asking asked acked answered taken none no_ack) = let some = right.some in absurd (omega (arith, some, answered, taken))
answers_way slots w v infos acks message right (Goes info asking asked acked answered taken is seq start end no_ack) = let some = right.some in absurd (omega (arith, some, answered, taken))
answers_way slots w v infos acks message right (Works asking asked busy answered none no_ack) =
    let some = right.some in
    Comes message asking asked (sym busy) refl (omega (arith, some, answered)) none (ap (λ (xs : List (List ℕ)). xs ++ message ∷ []) no_ack)
    (right.begins ∙ ap (λ (n : ℕ). n % slots) answered) right.ends
answers_way slots w v infos acks message right (Comes ack asking asked acked answered more none one_ack start end) = let some = right.some in absurd (omega (arith, some, answered))

none_more : (messages more : List (List ℕ)) → more ≡ [] → messages ++ more ≡ messages
none_more messages more none = ap (λ (xs : List (List ℕ)). messages ++ xs) none ∙ append-nil messages

-- both directions, where one more message goes
record OneSaid (slots : ℕ) (v w now : SessionLog) (going coming : List (List ℕ)) (message : List ℕ) : Type 0 where
  mine : Way slots now w (infos_in (going ++ message ∷ [])) (acks_in coming)
  theirs : Way slots w now (infos_in coming) (acks_in (going ++ message ∷ []))

-- one that is neither
plain_said : (slots : ℕ) (v w now : SessionLog) (going coming : List (List ℕ)) (message : List ℕ) → infos_in (message ∷ []) ≡ [] → acks_in (message ∷ []) ≡ [] → SameAsks v now → SameAnswers v now
    → Way slots v w (infos_in going) (acks_in coming) → Way slots w v (infos_in coming) (acks_in going) → OneSaid slots v w now going coming message
plain_said slots v w now going coming message no_info no_ack asks answers mine theirs = record {
  mine = way_as slots v now w w (infos_in going) (infos_in (going ++ message ∷ [])) (acks_in coming) (acks_in coming) asks (same_answers w)
      (infos-append going (message ∷ []) ∙ none_more (infos_in going) (infos_in (message ∷ [])) no_info) refl mine;
  theirs = way_as slots w w v now (infos_in coming) (infos_in coming) (acks_in going) (acks_in (going ++ message ∷ [])) (same_asks w) answers refl
      (acks-append going (message ∷ []) ∙ none_more (acks_in going) (acks_in (message ∷ [])) no_ack) theirs;
}

says_kind : (k : Spoken) (slots : ℕ) (v w : SessionLog) (groups going coming : List (List ℕ)) (message : List ℕ) → spoken message ≡ k → SaysRightly slots groups v message k
    → Way slots v w (infos_in going) (acks_in coming) → Way slots w v (infos_in coming) (acks_in going) → OneSaid slots v w (said_kind k message v) going coming message
says_kind RangeInfo slots v w groups going coming message is right mine theirs =
    let infos = infos-append going (message ∷ []) ∙ ap (λ (k : Spoken). infos_in going ++ info_first k message []) is in
    let acks : acks_in (going ++ message ∷ []) ≡ acks_in going =
    acks-append going (message ∷ []) ∙ none_more (acks_in going) (acks_in (message ∷ [])) (ap (λ (k : Spoken). ack_first k message []) is) in
    let now : SessionLog = said_kind RangeInfo message v in
    record {
      mine = way_as slots now now w w (infos_in going ++ message ∷ []) (infos_in (going ++ message ∷ [])) (acks_in coming) (acks_in coming) (same_asks now) (same_answers w) infos refl
          (asks_way slots v w (infos_in going) (acks_in coming) message right mine);
      theirs = way_as slots w w v now (infos_in coming) (infos_in coming) (acks_in going) (acks_in (going ++ message ∷ [])) (same_asks w)
          (record { asked = refl; acks = refl; answered = refl; taken = refl }) refl acks theirs;
    }
says_kind RangeAck slots v w groups going coming message is right mine theirs =
    let infos : infos_in (going ++ message ∷ []) ≡ infos_in going =
    infos-append going (message ∷ []) ∙ none_more (infos_in going) (infos_in (message ∷ [])) (ap (λ (k : Spoken). info_first k message []) is) in
    let acks = acks-append going (message ∷ []) ∙ ap (λ (k : Spoken). acks_in going ++ ack_first k message []) is in
    let now : SessionLog = said_kind RangeAck message v in
    record {
      mine = way_as slots v now w w (infos_in going) (infos_in (going ++ message ∷ [])) (acks_in coming) (acks_in coming) (record { asking = refl; infos = refl; seen = refl }) (same_answers w) infos refl mine;
      theirs = way_as slots w w now now (infos_in coming) (infos_in coming) (acks_in going ++ message ∷ []) (acks_in (going ++ message ∷ [])) (same_asks w) (same_answers now) refl acks
          (answers_way slots w v (infos_in coming) (acks_in going) message right theirs);
    }
says_kind Other slots v w groups going coming message is right mine theirs = plain_said slots v w v going coming message
    (ap (λ (k : Spoken). info_first k message []) is) (ap (λ (k : Spoken). ack_first k message []) is) (same_asks v) (same_answers v) mine theirs
says_kind k slots v w groups going coming message is right mine theirs = plain_said slots v w (said_kind k message v) going coming message
    (ap (λ (k : Spoken). info_first k message []) is) (ap (λ (k : Spoken). ack_first k message []) is) (record { asking = refl; infos = refl; seen = refl })
    (record { asked = refl; acks = refl; answered = refl; taken = refl }) mine theirs

with_said : (slots : ℕ) (sa sa_now ha sb hb : List (List ℕ)) (v w now : SessionLog) (message : List ℕ) → (ways : Ways slots sa ha sb hb v w) → sa_now ≡ sa ++ message ∷ []
    → OneSaid slots v w now ways.going ways.coming message → Ways slots sa_now ha sb hb now w
with_said slots sa sa_now ha sb hb v w now message ways is one = record {
  going = ways.going ++ message ∷ [];
  coming = ways.coming;
  goes = is ∙ ap (λ (xs : List (List ℕ)). xs ++ message ∷ []) ways.goes ∙ append_assoc hb ways.going (message ∷ []);
  comes = ways.comes;
  mine = one.mine;
  theirs = one.theirs;
}

same_said : (slots : ℕ) (sa sa_now ha sb hb : List (List ℕ)) (v w : SessionLog) → Ways slots sa ha sb hb v w → sa_now ≡ sa → Ways slots sa_now ha sb hb v w
same_said slots sa sa_now ha sb hb v w ways is = subst (λ (xs : List (List ℕ)). Ways slots xs ha sb hb v w) (sym is) ways

abbrev pub RightIn : ℕ → List (List ℕ) → SessionLog → Option (List ℕ) → Type 0
RightIn slots groups v None = ⊤
RightIn slots groups v (Some message) = SaysRightly slots groups v message (spoken message)

pub says_ways : (slots : ℕ) (o : Option (List ℕ)) (sa sa_now ha sb hb groups : List (List ℕ)) (v w : SessionLog) → Ways slots sa ha sb hb v w → Grown o sa sa_now → RightIn slots groups v o
    → Ways slots sa_now ha sb hb (said_in o v) w
says_ways slots None sa sa_now ha sb hb groups v w ways is right = same_said slots sa sa_now ha sb hb v w ways is
says_ways slots (Some message) sa sa_now ha sb hb groups v w ways is right =
    with_said slots sa sa_now ha sb hb v w (said_kind (spoken message) message v) message ways is
    (says_kind (spoken message) slots v w groups ways.going ways.coming message refl right ways.mine ways.theirs)

-- what is said before a session is neither
pub says_plain : (slots : ℕ) (o : Option (List ℕ)) (sa sa_now ha sb hb : List (List ℕ)) (v w : SessionLog) → Ways slots sa ha sb hb v w → Grown o sa sa_now → Plain sa_now → Ways slots sa_now ha sb hb v w
says_plain slots None sa sa_now ha sb hb v w ways is plain = same_said slots sa sa_now ha sb hb v w ways is
says_plain slots (Some message) sa sa_now ha sb hb v w ways is plain =
    let one : Plain (message ∷ []) = plain_rest sa (message ∷ []) (plain_as (sa ++ message ∷ []) sa_now is plain) in
    with_said slots sa sa_now ha sb hb v w v message ways is
    (plain_said slots v w v ways.going ways.coming message one.infos one.acks (same_asks v) (same_answers v) ways.mine ways.theirs)

-- AN END HEARS the first message that comes
takes_info : (slots : ℕ) (w v : SessionLog) (message : List ℕ) (rest acks : List (List ℕ)) → Way slots w v (message ∷ rest) acks → Way slots w (heard_kind slots RangeInfo message v) rest acks
takes_info slots w v message rest acks (Rests asking asked acked answered taken none no_ack) = absurd (cc none)
takes_info slots w v message rest acks (Goes info asking asked acked answered taken some seq start end no_ack) =
    let last : rest ≡ [] = cc some in Works asking asked (ap (λ (n : ℕ). n + 1) (sym acked)) answered last no_ack
takes_info slots w v message rest acks (Works asking asked busy answered none no_ack) = absurd (cc none)
takes_info slots w v message rest acks (Comes ack asking asked acked answered some none one_ack start end) = absurd (cc none)

takes_ack : (slots : ℕ) (v w : SessionLog) (message : List ℕ) (rest infos : List (List ℕ)) → 1 ≤ slots → w.taken ≤ v.seen + slots → Way slots v w infos (message ∷ rest)
    → Way slots (heard_kind slots RangeAck message v) w infos rest
takes_ack slots v w message rest infos one turn (Rests asking asked acked answered taken none no_ack) = absurd (cc no_ack)
takes_ack slots v w message rest infos one turn (Goes info asking asked acked answered taken some seq start end no_ack) = absurd (cc no_ack)
takes_ack slots v w message rest infos one turn (Works asking asked busy answered none no_ack) = absurd (cc no_ack)
takes_ack slots v w message rest infos one turn (Comes ack asking asked acked answered some none one_ack start end) =
    let same : message ≡ ack = cc one_ack in
    let last : rest ≡ [] = cc one_ack in
    let seen : v.seen + range_of slots message ≡ w.taken = span slots v.seen w.taken message one some turn (ap start_slot_of same ∙ start) (ap end_slot_of same ∙ end) in
    Rests refl asked (acked ∙ asked) (answered ∙ sym seen) (sym seen) none last

record OneHeard (slots : ℕ) (w now : SessionLog) (going rest : List (List ℕ)) : Type 0 where
  mine : Way slots now w (infos_in going) (acks_in rest)
  theirs : Way slots w now (infos_in rest) (acks_in going)

plain_heard : (slots : ℕ) (v w now : SessionLog) (going rest : List (List ℕ)) (message : List ℕ) → infos_in (message ∷ rest) ≡ infos_in rest → acks_in (message ∷ rest) ≡ acks_in rest → SameAsks v now
    → SameAnswers v now → Way slots v w (infos_in going) (acks_in (message ∷ rest)) → Way slots w v (infos_in (message ∷ rest)) (acks_in going) → OneHeard slots w now going rest
plain_heard slots v w now going rest message no_info no_ack asks answers mine theirs = record {
  mine = way_as slots v now w w (infos_in going) (infos_in going) (acks_in (message ∷ rest)) (acks_in rest) asks (same_answers w) refl (sym no_ack) mine;
  theirs = way_as slots w w v now (infos_in (message ∷ rest)) (infos_in rest) (acks_in going) (acks_in going) (same_asks w) answers (sym no_info) refl theirs;
}

hears_kind : (k : Spoken) (slots : ℕ) (v w : SessionLog) (going rest : List (List ℕ)) (message : List ℕ) → spoken message ≡ k → 1 ≤ slots → w.taken ≤ v.seen + slots
    → Way slots v w (infos_in going) (acks_in (message ∷ rest)) → Way slots w v (infos_in (message ∷ rest)) (acks_in going) → OneHeard slots w (heard_kind slots k message v) going rest
hears_kind RangeInfo slots v w going rest message is one turn mine theirs =
    let now : SessionLog = heard_kind slots RangeInfo message v in
    record {
      mine = way_as slots v now w w (infos_in going) (infos_in going) (acks_in (message ∷ rest)) (acks_in rest) (record { asking = refl; infos = refl; seen = refl }) (same_answers w) refl
          (sym (ap (λ (k : Spoken). ack_first k message (acks_in rest)) is)) mine;
      theirs = grind (arith, takes_info);
    }
hears_kind RangeAck slots v w going rest message is one turn mine theirs =
    let now : SessionLog = heard_kind slots RangeAck message v in
    record {
      mine = takes_ack slots v w message (acks_in rest) (infos_in going) one turn
          (subst (λ (k : Spoken). Way slots v w (infos_in going) (ack_first k message (acks_in rest))) is mine);
      theirs = way_as slots w w v now (infos_in (message ∷ rest)) (infos_in rest) (acks_in going) (acks_in going) (same_asks w) (record { asked = refl; acks = refl; answered = refl; taken = refl })
          (sym (ap (λ (k : Spoken). info_first k message (infos_in rest)) is)) refl theirs;
    }
hears_kind GroupsNack slots v w going rest message is one turn mine theirs =
    plain_heard slots v w v going rest message (ap (λ (k : Spoken). info_first k message (infos_in rest)) is) (ap (λ (k : Spoken). ack_first k message (acks_in rest)) is) (same_asks v) (same_answers v)
    mine theirs
hears_kind Other slots v w going rest message is one turn mine theirs =
    plain_heard slots v w v going rest message (ap (λ (k : Spoken). info_first k message (infos_in rest)) is) (ap (λ (k : Spoken). ack_first k message (acks_in rest)) is) (same_asks v) (same_answers v)
    mine theirs
hears_kind k slots v w going rest message is one turn mine theirs =
    plain_heard slots v w (heard_kind slots k message v) going rest message (ap (λ (k : Spoken). info_first k message (infos_in rest)) is)
    (ap (λ (k : Spoken). ack_first k message (acks_in rest)) is) (record { asking = refl; infos = refl; seen = refl }) (record { asked = refl; acks = refl; answered = refl; taken = refl }) mine theirs

-- the message that it heard was the first that came
pub first_came : (slots : ℕ) (ha ha_now sb coming rest : List (List ℕ)) (message : List ℕ) → sb ≡ ha ++ coming → ha_now ≡ ha ++ message ∷ [] → sb ≡ ha_now ++ rest → coming ≡ message ∷ rest
first_came slots ha ha_now sb coming rest message before now front = grind (arith, append_cancel_left, append_assoc)

with_heard : (slots : ℕ) (sa ha_now sb hb rest : List (List ℕ)) (w now : SessionLog) (going : List (List ℕ)) → sa ≡ hb ++ going → sb ≡ ha_now ++ rest → OneHeard slots w now going rest
    → Ways slots sa ha_now sb hb now w
with_heard slots sa ha_now sb hb rest w now going goes front one = record { going = going; coming = rest; goes = goes; comes = front; mine = one.mine; theirs = one.theirs }

same_heard : (slots : ℕ) (sa ha ha_now sb hb : List (List ℕ)) (v w : SessionLog) → Ways slots sa ha sb hb v w → ha_now ≡ ha → Ways slots sa ha_now sb hb v w
same_heard slots sa ha ha_now sb hb v w ways is = subst (λ (xs : List (List ℕ)). Ways slots sa xs sb hb v w) (sym is) ways

pub hears_ways : (slots : ℕ) (o : Option (List ℕ)) (sa ha ha_now sb hb rest : List (List ℕ)) (v w : SessionLog) → 1 ≤ slots → w.taken ≤ v.seen + slots → Ways slots sa ha sb hb v w → Grown o ha ha_now
    → sb ≡ ha_now ++ rest → Ways slots sa ha_now sb hb (heard_in slots o v) w
hears_ways slots None sa ha ha_now sb hb rest v w one turn ways is front = same_heard slots sa ha ha_now sb hb v w ways is
hears_ways slots (Some message) sa ha ha_now sb hb rest v w one turn ways is front =
    let came : ways.coming ≡ message ∷ rest = first_came slots ha ha_now sb ways.coming rest message ways.comes is front in
    with_heard _ _ _ _ _ _ w _ _ ways.goes front (hears_kind (spoken message) slots v w ways.going rest message refl one
    turn (rw came at ways.mine) (rw came at ways.theirs))

pub hears_plain : (slots : ℕ) (o : Option (List ℕ)) (sa ha ha_now sb hb rest : List (List ℕ)) (v w : SessionLog) → Ways slots sa ha sb hb v w → Grown o ha ha_now → sb ≡ ha_now ++ rest → Plain ha_now
    → Ways slots sa ha_now sb hb v w
hears_plain slots None sa ha ha_now sb hb rest v w ways is front plain = same_heard slots sa ha ha_now sb hb v w ways is
hears_plain slots (Some message) sa ha ha_now sb hb rest v w ways is front plain =
    let came : ways.coming ≡ message ∷ rest = first_came slots ha ha_now sb ways.coming rest message ways.comes is front in
    let one : Plain (message ∷ []) = plain_rest ha (message ∷ []) (plain_as (ha ++ message ∷ []) ha_now is plain) in
    let no_info : infos_in (message ∷ rest) ≡ infos_in rest = infos-append (message ∷ []) rest ∙ ap (λ (xs : List (List ℕ)). xs ++ infos_in rest) one.infos in
    let no_ack : acks_in (message ∷ rest) ≡ acks_in rest = acks-append (message ∷ []) rest ∙ ap (λ (xs : List (List ℕ)). xs ++ acks_in rest) one.acks in
    with_heard slots sa ha_now sb hb rest w v ways.going ways.goes front (plain_heard slots v w v ways.going rest
    message no_info no_ack (same_asks v) (same_answers v) (rw came at ways.mine) (rw came at ways.theirs))

-- IT PUBLISHES, or takes a frame while an INFO isn't answered
pub published_ways : (slots : ℕ) (sa ha sb hb : List (List ℕ)) (v w : SessionLog) → Ways slots sa ha sb hb v w → Ways slots sa ha sb hb (more_published v) w
published_ways slots sa ha sb hb v w ways =
    ways_as slots sa ha sb hb v (more_published v) w w (record { asking = refl; infos = refl; seen = refl }) (record { asked = refl; acks = refl; answered = refl; taken = refl }) (same_asks w) (same_answers w)
    ways

frame_way : (slots : ℕ) (w v : SessionLog) (infos acks : List (List ℕ)) → v.asked ≡ v.acks + 1 → Way slots w v infos acks → Way slots w (more_taken v) infos acks
frame_way slots w v infos acks active given = grind arith

pub frame_ways : (slots : ℕ) (sa ha sb hb : List (List ℕ)) (v w : SessionLog) → v.asked ≡ v.acks + 1 → Ways slots sa ha sb hb v w → Ways slots sa ha sb hb (more_taken v) w
frame_ways slots sa ha sb hb v w active ways = record {
  going = ways.going;
  coming = ways.coming;
  goes = ways.goes;
  comes = ways.comes;
  mine = way_as slots v (more_taken v) w w (infos_in ways.going) (infos_in ways.going) (acks_in ways.coming) (acks_in ways.coming) (record { asking = refl; infos = refl; seen = refl }) (same_answers w) refl refl ways.mine;
  theirs = frame_way slots w v (infos_in ways.coming) (acks_in ways.going) active ways.theirs;
}
