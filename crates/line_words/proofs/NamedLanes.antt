-- The name at a lane's place.
use Rattle.std.proofs.Common.{◌≡◌, refl, ℕ, ◌<◌, ◌≤◌, zero, suc, List, ap, ◌∙◌, arith}
use Rattle.std.specs.Prelude.{slice_index_or}
use Rattle.domain_script.specs.Declarations.{Declared, number_of_kind}
use Rattle.domain_script.specs.LaneKinds.{lane_at}
use Rattle.domain_script.specs.declared.fields.LaneKind.{LaneKind}
use Rattle.line_words.specs.LaneNames.{lane_names}
use Rattle.line_words.specs.LineNames.{lane_name}

at_place : (kind : LaneKind) (declared : Declared) (k : ℕ) (d : List ℕ) → k < 8
    → slice_index_or (lane_names kind declared) k d ≡ lane_name declared (lane_at kind k)
at_place kind declared zero d lt = refl
at_place kind declared (suc zero) d lt = refl
at_place kind declared (suc (suc zero)) d lt = refl
at_place kind declared (suc (suc (suc zero))) d lt = refl
at_place kind declared (suc (suc (suc (suc zero)))) d lt = refl
at_place kind declared (suc (suc (suc (suc (suc zero))))) d lt = refl
at_place kind declared (suc (suc (suc (suc (suc (suc zero)))))) d lt = refl
at_place kind declared (suc (suc (suc (suc (suc (suc (suc zero))))))) d lt = refl
at_place kind declared (suc (suc (suc (suc (suc (suc (suc (suc k)))))))) d lt = absurd (omega arith)

-- of the names of a kind's lanes, that at the place of a lane which is declared is the lane's
pub name_at : (kind : LaneKind) (declared : Declared) (lanes : List (List ℕ)) (k : ℕ) (d : List ℕ) → k < number_of_kind kind declared
    → number_of_kind kind declared ≤ 8 → lanes ≡ lane_names kind declared
    → slice_index_or lanes k d ≡ lane_name declared (lane_at kind k)
name_at kind declared lanes k d less few are =
    ap (λ (l : List (List ℕ)). slice_index_or l k d) are ∙ at_place kind declared k d (omega (arith, less, few))
