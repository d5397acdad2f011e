-- What an end has said after a packet that its link puts, by the kind of the packet: the last part of a message makes it whole, and all others go on.
use Rattle.std.proofs.Common.{◌≡◌, ℕ, ◌≤◌, Bool, true, false, List, [], ◌∷◌, ◌++◌, length, take, drop, refl, sym, ap, ◌∙◌, subst, append_assoc, arith}
use Rattle.std.specs.Prelude.{nat_le}
use Rattle.std.proofs.lemmas.Bool.{leb-true}
use Rattle.std.proofs.lemmas.List.{drop_all, take-append-drop}
use Rattle.ldc_packet.specs.declared.packet.Body.TheVariants.{Rdx}
use Rattle.ldc_packet.specs.declared.packet.Subtype.TheVariants.{Info}
use Rattle.ldc_link.specs.declared.phase.LinkPhase.{LinkPhase}
use Rattle.ldc_link.specs.declared.phase.LinkPhase.TheVariants as phase
use Rattle.ldc_link.specs.Calls.{Puts}
use Rattle.ldc_link.specs.Following.{Follows}
use Rattle.ldc_link.specs.LinkState.{LinkState, is_established, is_up}
use Rattle.ldc_link.specs.Putting.{behind_put, left_behind_put}
use Rattle.ldc_queue.specs.Transcript.{Said, Utterance}
use Rattle.lane_models.specs.EndPuts.{ComesUp, EndsOwn, EndsHandshake, Goes, PutKind, ending, kind_in, put_kind}
use Rattle.lane_models.specs.Sayings.{half_said, said}
use Rattle.lane_models.proofs.LinkCases.{ControlGone, ControlPut, LinkPut, PartGone, ReadyGone, canonical_is, link_put, put_quiet, ready_loud}
use Rattle.lane_models.proofs.UtteranceCases.{SaysNothing, SaysPart, says_last, says_more, says_nothing, says_part}

-- no message is whole by it
pub record SaysOn (k : LinkState) (turns : List Utterance) (packet : List ℕ) : Type 0 where
  pub messages : said (Said packet ∷ turns) ≡ said turns
  pub whole : half_said (Said packet ∷ turns) ++ (behind_put k).to_send ≡ half_said turns ++ k.to_send
  pub some : 1 ≤ length (behind_put k).to_send → 1 ≤ length k.to_send

-- what was put of a message and what is left of it are whole
pub record SaysWhole (k : LinkState) (turns : List Utterance) (packet : List ℕ) : Type 0 where
  pub messages : said (Said packet ∷ turns) ≡ said turns ++ (half_said turns ++ k.to_send) ∷ []
  pub half : half_said (Said packet ∷ turns) ≡ []
  pub none : (behind_put k).to_send ≡ []
  pub some : 1 ≤ length k.to_send

-- with the flag that the link's message is the end's own
abbrev pub PutSays : PutKind → Bool → LinkState → List Utterance → List ℕ → Type 0
PutSays Goes own k turns packet = SaysOn k turns packet
PutSays ComesUp own k turns packet = SaysOn k turns packet × (is_up k ≡ false)
PutSays EndsOwn own k turns packet = SaysWhole k turns packet × (own ≡ true)
PutSays EndsHandshake own k turns packet = SaysWhole k turns packet × (own ≡ false)

-- a packet of the link's own handshake
pub control_kind : (before : LinkPhase) (bytes : List ℕ) (next : LinkPhase) (k : LinkState) (own : Bool) → ControlPut before bytes next → kind_in before k own ≡ Goes
control_kind before bytes next k own put = grind arith

control_left : (before : LinkPhase) (bytes : List ℕ) (next : LinkPhase) (left : List ℕ) → ControlPut before bytes next → left_behind_put before left ≡ left
control_left before bytes next left put = grind arith

quiet_on : (k : LinkState) (turns : List Utterance) (packet : List ℕ) → SaysNothing turns packet → left_behind_put k.phase k.to_send ≡ k.to_send → SaysOn k turns packet
quiet_on k turns packet quiet left = grind arith

-- a part of a message
part_says : (last own : Bool) (k : LinkState) (turns : List Utterance) (packet : List ℕ) → k.phase ≡ phase.Established → 1 ≤ length k.to_send → SaysPart k packet
    → nat_le (length k.to_send) 56 ≡ last → PutSays (ending last own) own k turns packet
part_says false own k turns packet at some part long =
    let more = says_more k turns packet part long in
    let left : left_behind_put k.phase k.to_send ≡ drop 56 k.to_send = ap (λ (p : LinkPhase). left_behind_put p k.to_send) at in
    record {
      messages = more.messages;
      whole = ap (λ (xs : List ℕ). xs ++ left_behind_put k.phase k.to_send) more.half ∙ ap (λ (xs : List ℕ). (half_said turns ++ take 56 k.to_send) ++ xs) left
          ∙ append_assoc (half_said turns) (take 56 k.to_send) (drop 56 k.to_send) ∙ ap (λ (xs : List ℕ). half_said turns ++ xs) (take-append-drop 56 k.to_send);
      some = λ more. some;
    }
part_says true own k turns packet at some part short = by_own own
  where
    whole : SaysWhole k turns packet
    whole =
        let few : length k.to_send ≤ 56 = leb-true (length k.to_send) 56 short in
        let last = says_last k turns packet part some few short in
        record {
          messages = last.messages;
          half = last.half;
          none = ap (λ (p : LinkPhase). left_behind_put p k.to_send) at ∙ drop_all 56 k.to_send few;
          some = some;
        }

    by_own : (b : Bool) → PutSays (ending true b) b k turns packet
    by_own true = (whole, refl)
    by_own false = (whole, refl)

pub put_says : (own : Bool) (k m : LinkState) (turns : List Utterance) (packet : List ℕ) → Follows k turns → Puts k packet m → PutSays (put_kind k own) own k turns packet
put_says own k m turns packet follows puts = by_how (link_put k m packet puts)
  where
    of_kind : (kind : PutKind) → put_kind k own ≡ kind → PutSays kind own k turns packet → PutSays (put_kind k own) own k turns packet
    of_kind kind is says = subst (λ (x : PutKind). PutSays x own k turns packet) (sym is) says

    by_how : LinkPut k packet m → PutSays (put_kind k own) own k turns packet
    by_how (ControlGone next gone is) =
        of_kind Goes (control_kind k.phase packet next k own gone)
        (quiet_on k turns packet (says_nothing turns packet (put_quiet k.phase packet next follows.offers gone).1) (control_left k.phase packet next k.to_send gone))
    by_how (ReadyGone at spelled is) =
        let loud = ready_loud packet Info (canonical_is packet Info k.put_next Rdx tt (omega (arith, follows.puts), tt) spelled) in
        of_kind ComesUp (ap (λ (p : LinkPhase). kind_in p k own) at)
        (quiet_on k turns packet (says_nothing turns packet loud.1) (ap (λ (p : LinkPhase). left_behind_put p k.to_send) at), ap is_established at)
    by_how (PartGone at some spelled is) =
        of_kind (ending (nat_le (length k.to_send) 56) own) (ap (λ (p : LinkPhase). kind_in p k own) at)
        (part_says (nat_le (length k.to_send) 56) own k turns packet at some (says_part k turns packet follows some spelled) refl)
