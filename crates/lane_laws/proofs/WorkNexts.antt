-- What comes next of a server's descriptor in work is told by its operation and by what it owes.
use Rattle.std.proofs.Common.{◌≡◌, ℕ, zero, suc, ◌-◌, ◌<◌, Option, [], ◌∷◌, ◌++◌, ap, ◌∙◌, arith}
use Rattle.vdisk_msg.specs.declared.desc.DiskDesc.{DiskDesc}
use Rattle.vdisk_msg.specs.Pieces.{Finishes, read_pieces, unit_count, write_pieces}
use Rattle.lane_models.specs.ServerState.{Gathers, Progress, Reads, ServerSession, Work}
use Rattle.lane_laws.specs.Agreement.{ServerAgrees, WorkNextAgrees, owed_of}
use Rattle.lane_laws.specs.Counted.{UnitFits, UnitIn}
use Rattle.lane_laws.specs.Units.{UnitIs, WorkIs}
use Rattle.lane_laws.specs.WorkLog.{ServerCounts}
use Rattle.lane_laws.specs.WorkNext.{moves_next, next_by, stores_next, without_bytes}

reads_first : (operation unit units n : ℕ) → units - unit ≡ n → unit < units → operation ≡ 1 → next_by operation (read_pieces unit (units - unit) ++ Finishes 0 ∷ []) ≡ Reads unit
reads_first operation unit units zero left within is = absurd (omega (arith, left, within))
reads_first operation unit units (suc n) left within is =
    ap (λ (m : ℕ). next_by operation (read_pieces unit m ++ Finishes 0 ∷ [])) left ∙ ap (λ (o : ℕ). stores_next o unit) is

gathers_first : (operation unit units n : ℕ) → units - unit ≡ n → unit < units → operation ≡ 2 → next_by operation (write_pieces unit (units - unit) ++ Finishes 0 ∷ []) ≡ Gathers unit
gathers_first operation unit units zero left within is = absurd (omega (arith, left, within))
gathers_first operation unit units (suc n) left within is =
    ap (λ (m : ℕ). next_by operation (write_pieces unit m ++ Finishes 0 ∷ [])) left ∙ ap (λ (o : ℕ). moves_next o unit) is

next_is : (desc : DiskDesc) (p : Progress) → UnitIn (unit_count desc.size) p → UnitIs desc p → next_by desc.operation (owed_of desc p) ≡ without_bytes p
next_is desc p within is = grind (arith, reads_first, gathers_first)

pub next_agrees : (o : Option ServerSession) (w : Option Work) (d : Option ServerCounts) → ServerAgrees o w d → UnitFits w → WorkIs w → WorkNextAgrees w d
next_agrees o w d agrees fits is = grind (arith, next_is)
