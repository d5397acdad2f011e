-- Along every run the parts of messages that an end said since it last began are those that may come, one after the other.
use Rattle.std.proofs.Common.{◌≡◌, ℕ, ◌≤◌, Bool, true, false, List, [], ◌∷◌, ◌++◌, length, refl, sym, ◌∙◌, subst, arith}
use Rattle.std.proofs.lemmas.List.{append-nil, length-take-le}
use Rattle.runs.specs.Run.{Run}
use Rattle.ldc_packet.proofs.Canonical.{canonical_spells}
use Rattle.ldc_packet.specs.declared.packet.Body.{Body}
use Rattle.ldc_packet.specs.declared.packet.Body.TheVariants.{Part}
use Rattle.ldc_packet.specs.declared.packet.Subtype.{Subtype}
use Rattle.ldc_packet.specs.Form.{HasForm}
use Rattle.ldc_link.proofs.Following.{parts_more, quiet}
use Rattle.ldc_link.proofs.Spelled.{has_part, spelled_fragment, spelled_part}
use Rattle.ldc_link.specs.Conversing.{IsData, fragment_of}
use Rattle.ldc_queue.specs.Fragments.{Fragment, fragment_at, fragments_in, is_part}
use Rattle.ldc_queue.specs.Messages.{AllMayCome, MayCome, half_in, half_with}
use Rattle.ldc_queue.specs.Numbered.{is_numbered}
use Rattle.ldc_queue.specs.Transcript.{Said, Utterance, numbered_said}
use Rattle.lane_models.proofs.SameSayings.{half_said_is}
use Rattle.lane_models.specs.Sayings.{half_said}
use Rattle.lane_models.specs.WireAt.{IsSaid, IsSaidPart}
use Rattle.ldc_link.specs.declared.phase.Role.{Role}
use Rattle.ldc_link.specs.declared.phase.Role.TheVariants.{Initiator, Responder}
use Rattle.vio_handshake.specs.declared.session.Offer.{Offer}
use Rattle.lane_models.proofs.EndStanding.{fresh_end_stands, stands_step}
use Rattle.lane_models.proofs.Lifting.{EndsAll, ends_run}
use Rattle.lane_models.proofs.Numbering.{end_said}
use Rattle.lane_models.specs.EndCore.{EndCore, EndMove}
use Rattle.lane_models.specs.EndStep.{EndStep}
use Rattle.lane_models.specs.LaneCore.{CoreEvent, CoreFits, CoreStep, LaneCore, fresh_core, transcript_behind, utterances_after}
use Rattle.lane_models.specs.Standing.{EndStands}

abbrev pub PartsSaid : List Utterance → Type 0
PartsSaid turns = AllMayCome [] (fragments_in (numbered_said turns))

-- one part more after those that may come
come_more : (half : List ℕ) (xs : List Fragment) (f : Fragment) → AllMayCome half xs → MayCome (half_in half xs) f → AllMayCome half (xs ++ f ∷ [])
come_more half [] f all may = (may, tt)
come_more half (x ∷ xs) f all may = (all.0, come_more (half_with x.stop (half ++ x.bytes)) xs f all.1 may)

-- a part has 1 to 56 bytes
pub carries_part : (b : Body) → has_part b ≡ true → IsData b
unfolding has_part
carries_part (Part start stop len bytes) part = tt
carries_part _ part = absurd (cc part)

within : (s : Subtype) (b : Body) → IsData b → HasForm s b → (1 ≤ length (fragment_of b).bytes) × (length (fragment_of b).bytes ≤ 56)
within s b is form = grind (arith, length-take-le)

said_within : (turns : List Utterance) (bytes : List ℕ) → IsSaid turns bytes → is_part bytes ≡ true → (1 ≤ length (fragment_at bytes).bytes) × (length (fragment_at bytes).bytes ≤ 56)
said_within turns bytes said part = grind (arith, canonical_spells, carries_part, spelled_part, spelled_fragment, within)

-- A PACKET that is said
may_part : (turns : List Utterance) (bytes : List ℕ) → IsSaid turns bytes → is_part bytes ≡ true → MayCome (half_in [] (fragments_in (numbered_said turns))) (fragment_at bytes)
may_part turns bytes said part =
    let here : IsSaidPart (half_said turns) (fragment_at bytes) = said.part part in
    let long = said_within turns bytes said part in
    subst (λ (half : List ℕ). MayCome half (fragment_at bytes)) (half_said_is turns) (here.start, here.most, long.0, long.1)

says_more : (turns : List Utterance) (bytes : List ℕ) → IsSaid turns bytes → PartsSaid turns → PartsSaid (Said bytes ∷ turns)
says_more turns bytes said all = by_number (is_numbered bytes) refl
  where
    by_part : (b : Bool) → is_numbered bytes ≡ true → is_part bytes ≡ b → PartsSaid (Said bytes ∷ turns)
    by_part true has part =
        subst (AllMayCome []) (sym (parts_more true bytes (fragment_at bytes) (numbered_said turns) has part (λ one. refl)))
        (come_more [] (fragments_in (numbered_said turns)) (fragment_at bytes) all (may_part turns bytes said part))
    by_part false has part =
        subst (AllMayCome []) (sym (parts_more false bytes (fragment_at bytes) (numbered_said turns) has part (λ never. refl) ∙ append-nil (fragments_in (numbered_said turns)))) all

    by_number : (b : Bool) → is_numbered bytes ≡ b → PartsSaid (Said bytes ∷ turns)
    by_number true has = by_part (is_part bytes) has refl
    by_number false has = subst (λ (packets : List (List ℕ)). AllMayCome [] (fragments_in packets)) (sym (quiet bytes (numbered_said turns) has)) all

-- EACH MOVE
pub record SaysParts (role : Role) (c : EndCore) (turns : List Utterance) : Type 0 where
  pub stands : EndStands role c turns
  pub parts : PartsSaid turns

parts_move : (role : Role) (c : EndCore) (move : EndMove) (t : EndCore) (turns : List Utterance) → SaysParts role c turns → EndStep role c move t → PartsSaid (utterances_after turns move)
parts_move role c move t turns says step = grind (arith, says_more, end_said)

pub parts_run : (entries : ℕ) (asks answers : Offer) (events : List CoreEvent) (s : LaneCore) → CoreFits entries asks answers
    → Run CoreStep (fresh_core entries asks answers) events s → EndsAll SaysParts s (transcript_behind events)
parts_run entries asks answers events s fits run =
    ends_run SaysParts
    (λ role c move t turns says step. record { stands = stands_step role c move t turns says.stands step; parts = parts_move role c move t turns says step })
    entries asks answers events s (record { stands = fresh_end_stands Initiator asks fits.asks_fit.form.most; parts = tt })
    (record { stands = fresh_end_stands Responder answers fits.answers_fit.form.most; parts = tt }) run
