-- Each kind of change leaves the buffers of writes holding what they write, and a descriptor in work going on as its request has it.
use Rattle.std.proofs.Common.{◌≡◌, ◌≢◌, ℕ, suc, ◌+◌, ◌-◌, ◌*◌, ◌%◌, ◌<◌, ◌≤◌, List, ◌∷◌, length, Option, Some, inl, inr, refl, sym, ap, ◌∙◌, subst, arith}
use Rattle.std.specs.Prelude.{slice_get}
use Rattle.std.proofs.lemmas.Bool.{cases_lt}
use Rattle.std.proofs.lemmas.Nat.{mod_below}
use Rattle.std.proofs.lemmas.Option.{slice_get_within}
use Rattle.vdisk_msg.proofs.Repeated.{length-repeated}
use Rattle.vdisk_msg.proofs.Written.{is_admitted}
use Rattle.vdisk_msg.specs.declared.request.Request.{Request}
use Rattle.vdisk_msg.specs.declared.request.Request.TheVariants.{Flush, Read, Write}
use Rattle.vdisk_msg.specs.Requested.{size_of}
use Rattle.vdisk_msg.specs.Requests.{written}
use Rattle.vio_bytes.proofs.Ranges.{range_at-put_at_same}
use Rattle.lane_models.specs.ClientState.{ClientSession}
use Rattle.lane_laws.proofs.MemorySteps.{got_sound}
use Rattle.lane_laws.specs.Contents.{ContentsStand, HoldsWritten, WritesStand}
use Rattle.lane_laws.specs.LaneView.{View, place_of}
use Rattle.lane_laws.proofs.Buffers.{other_buffer, other_slot}
use Rattle.lane_laws.proofs.Changes.{Accepts, Completes, Disturbs, Keeps, Opens, Placed, Publishes, Unchanged, filled}
use Rattle.lane_laws.proofs.NearSteps.{get_within}
use Rattle.lane_laws.proofs.SlotBytes.{same_request}
use Rattle.lane_models.proofs.Apart.{none_is_some, some_same}

-- THE SESSION'S PLACES
pub same_place : (slots i : ℕ) (one other : ClientSession) → one.completed ≡ other.completed → place_of slots one i ≡ place_of slots other i
same_place slots i one other same = ap (λ (n : ℕ). 32768 * ((n + i) % slots)) same

writes_kept : (v : View) (o : Option ClientSession) → Keeps v.session o → WritesStand v → WritesStand (record v { session = o })
writes_kept v o keeps stand = λ session is i below request got.
    let from = keeps session is in
    let completed = from.completed in
    let published = from.published in
    subst (λ (p : ℕ). HoldsWritten p request v.buffers) (sym (same_place v.slots i session from.was completed))
    (stand from.was from.there i (omega (arith, below, completed, published)) request got)

-- NOTHING, a session that opens, and a reset or a stop
pub rests_contents : (v w : View) → Unchanged v w → ContentsStand v → ContentsStand w
rests_contents v w change stand =
    subst ContentsStand (sym change.is) (record { writes = writes_kept v w.session change.keeps stand.writes; work = stand.work; none = stand.none })

pub opens_contents : (v w : View) → Opens v w → ContentsStand v → ContentsStand w
opens_contents v w change stand = grind arith

pub disturbs_contents : (p : ℕ) (v w : View) → Disturbs p v w → ContentsStand v → ContentsStand w
disturbs_contents p v w change stand =
    subst ContentsStand (sym change.is) (record { writes = writes_kept v w.session change.keeps stand.writes; work = λ work is. none_is_some is; none = λ is. refl })

-- A REQUEST IS ACCEPTED
pub accepts_contents : (blocks : ℕ) (request : Request) (v w : View) → Placed blocks v → Accepts request v w → ContentsStand v → ContentsStand w
accepts_contents blocks request v w placed change stand = grind (arith, get_within)

-- ONE IS PUBLISHED
holds_other : (slots a b : ℕ) (request other : Request) (buffers : List ℕ) → a ≢ b → b < slots → 32768 * slots ≤ length buffers → size_of request ≤ 32768 → size_of other ≤ 32768
    → HoldsWritten (32768 * a) other buffers → HoldsWritten (32768 * a) other (filled request (32768 * b) buffers)
holds_other slots a b request (Read block count) buffers apart below room small fits holds = tt
holds_other slots a b request Flush buffers apart below room small fits holds = tt
holds_other slots a b (Read block count) (Write at n fill) buffers apart below room small fits holds = holds
holds_other slots a b Flush (Write at n fill) buffers apart below room small fits holds = holds
holds_other slots a b (Write block count fill) (Write at n word) buffers apart below room small fits holds =
    other_buffer slots a b (32768 * a) (512 * n) (32768 * b) (written fill count) buffers apart below room (omega arith) (omega (arith, fits)) (omega arith)
    (omega (arith, small, length-repeated fill 0 (512 * count)))
    ∙ holds

holds_own : (place : ℕ) (request : Request) (buffers : List ℕ) → place ≤ length buffers → HoldsWritten place request (filled request place buffers)
holds_own place request buffers room = grind (arith, range_at-put_at_same, length-repeated)

writes_published : (blocks : ℕ) (v w : View) → Placed blocks v → (change : Publishes v w) → WritesStand v
    → WritesStand (record v { session = Some (record change.session { published = change.session.published + 1 }); buffers = filled change.request (32768 * (change.session.published % v.slots)) v.buffers })
writes_published blocks v w placed change stand = λ session is i below other got.
    let c = change.session in
    let same : record c { published = c.published + 1 } ≡ session = some_same is in
    let completed : session.completed ≡ c.completed = ap (λ (x : ClientSession). x.completed) (sym same) in
    let published : session.published ≡ c.published + 1 = ap (λ (x : ClientSession). x.published) (sym same) in
    let slot = c.published % v.slots in
    let slot_below : slot < v.slots = mod_below c.published v.slots placed.some in
    let j = c.published - c.completed in
    let first = placed.published c change.there in
    let number : c.completed + j ≡ c.published = omega (arith, first) in
    let within = slice_get_within v.pending j change.request change.next in
    let few = placed.few in
    let small = (is_admitted blocks change.request (got_sound blocks v.pending j change.request placed.sound change.next)).most in
    let fits = (is_admitted blocks other (got_sound blocks v.pending i other placed.sound got)).most in
    let new : List ℕ = filled change.request (32768 * slot) v.buffers in
    subst (λ (p : ℕ). HoldsWritten p other new) (sym (same_place v.slots i session c completed))
    (elim (cases_lt i j) [
      | inl less ↦
          let apart : (c.completed + i) % v.slots ≢ slot =
          subst (λ (n : ℕ). (c.completed + i) % v.slots ≢ n % v.slots) number (other_slot v.slots c.completed i j less (omega (arith, within, few))) in
          holds_other v.slots ((c.completed + i) % v.slots) slot change.request other v.buffers apart slot_below placed.room small fits
          (stand c change.there i (omega (arith, less, number)) other got)
      | inr past ↦
          let here : i ≡ j = omega (arith, past, below, completed, published, number) in
          let one : change.request ≡ other = same_request v.pending j change.request other change.next (subst (λ (n : ℕ). slice_get v.pending n ≡ Some other) here got) in
          let place : 32768 * slot ≡ place_of v.slots c i = ap (λ (n : ℕ). 32768 * (n % v.slots)) (sym number) ∙ ap (place_of v.slots c) (sym here) in
          let room = placed.room in
          subst (λ (p : ℕ). HoldsWritten p other new) place
          (subst (λ (r : Request). HoldsWritten (32768 * slot) r new) one (holds_own (32768 * slot) change.request v.buffers (omega (arith, slot_below, room))))
    ])

pub publishes_contents : (blocks : ℕ) (v w : View) → Placed blocks v → Publishes v w → ContentsStand v → ContentsStand w
publishes_contents blocks v w placed change stand =
    subst ContentsStand (sym change.is) (record { writes = writes_published blocks v w placed change stand.writes; work = stand.work; none = stand.none })

-- THE FIRST IS DONE
pub next_got : (pending : List Request) (request : Request) (behind : List Request) (i : ℕ) (other : Request) → pending ≡ request ∷ behind → slice_get behind i ≡ Some other
    → slice_get pending (suc i) ≡ Some other
next_got pending request behind i other front got = ap (λ (xs : List Request). slice_get xs (suc i)) front ∙ got

pub completes_contents : (v w : View) → Completes v w → ContentsStand v → ContentsStand w
completes_contents v w change stand =
    let c = change.session in
    let some = change.finished in
    let last : v.k ≡ suc (v.k - 1) = omega (arith, some) in
    subst ContentsStand (sym change.is) (record {
      writes = λ session is i below other got.
          let same : record c { completed = c.completed + 1 } ≡ session = some_same is in
          let completed : session.completed ≡ c.completed + 1 = ap (λ (x : ClientSession). x.completed) (sym same) in
          let published : session.published ≡ c.published = ap (λ (x : ClientSession). x.published) (sym same) in
          let number : session.completed + i ≡ c.completed + suc i = omega (arith, completed) in
          subst (λ (p : ℕ). HoldsWritten p other v.buffers) (ap (λ (n : ℕ). 32768 * (n % v.slots)) (sym number))
          (stand.writes c change.there (suc i) (omega (arith, below, number, published)) other (next_got v.pending change.request change.behind i other change.front got));
      work = λ work is other got.
          stand.work work is other (ap (slice_get v.pending) last ∙ next_got v.pending change.request change.behind (v.k - 1) other change.front got);
      none = stand.none;
    })
