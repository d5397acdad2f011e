-- The numbers of the completions among events, in their order.
use Rattle.std.specs.Prelude.{◌≡◌, ℕ, ◌+◌, List, [], ◌∷◌, Option, Some, None, ⊤}
use Rattle.lane_models.specs.DiskEvent.{DiskEvent, Done, Worked, Works}

abbrev pub id_done : Worked → Option ℕ
id_done (Done id operation status bytes) = Some id
id_done _ = None

abbrev pub id_in : DiskEvent → Option ℕ
id_in (Works event) = id_done event
id_in _ = None

abbrev pub with_id : Option ℕ → List ℕ → List ℕ
with_id None ids = ids
with_id (Some id) ids = id ∷ ids

abbrev pub done_ids : List DiskEvent → List ℕ
done_ids [] = []
done_ids (event ∷ events) = with_id (id_in event) (done_ids events)

-- they are n, n + 1 and so on
abbrev pub CountsFrom : ℕ → List ℕ → Type 0
CountsFrom n [] = ⊤
CountsFrom n (id ∷ ids) = (id ≡ n) × CountsFrom (n + 1) ids
