-- A request to the one lane of a world that nobody disturbs is refused, or finds the ring full, or waits, as in the plain list.
use Rattle.std.proofs.Common.{◌≡◌, ℕ, ◌<◌, Bool, true, false, Option, Some, None, List, [], ◌∷◌, ◌++◌, length, nat_le, refl, sym, ap, ◌∙◌, subst, arith}
use Rattle.std.proofs.lemmas.Bool.Decides.{nat_tests}
use Rattle.vdisk_msg.specs.declared.request.Request.{Request}
use Rattle.vdisk_msg.specs.Fills.{IsRequest}
use Rattle.vdisk_msg.specs.Requests.{AreSound, Defect, defect}
use Rattle.lane_models.specs.ClientState.{ClientState}
use Rattle.lane_models.specs.DiskEvent.{Accepted, Asks, DiskEvent, Full, Refused}
use Rattle.lane_models.specs.LaneState.{LaneState, Shape}
use Rattle.lane_models.specs.LaneStep.{LaneStep}
use Rattle.lane_laws.proofs.NearRuns.{run_near}
use Rattle.lane_laws.specs.ImageStep.{region_of}
use Rattle.lane_laws.specs.CalmEnds.{StepKeeps}
use Rattle.world_laws.specs.Settle.{OfLane}
use Rattle.world_laws.specs.World.{WorldState}
use Rattle.world_laws.proofs.Regions.{IsFirstShape}
use Rattle.world_laws.proofs.PlainSettle.{LaneOne, PartIsPlain, RestsAt}
use Rattle.world_laws.proofs.Undisturbed.{Stands, Undisturbed, blocks_at, slots_at, undisturbed_on}
use Rattle.world_laws.specs.Plain.{Plain, answer, asked, is_full}
use Rattle.world_laws.specs.Shown.{shown}

-- the plain list with one more that waits
abbrev waits : Plain → Request → Plain
waits p request = record p { waiting = p.waiting ++ request ∷ [] }

-- WHAT COMES OF A REQUEST, over the image
pub record Answered (shape : Shape) (p : Plain) (request : Request) (event : DiskEvent) (t : LaneState) : Type 0 where
  pub shows : shown (OfLane 0 event ∷ []) ≡ answer request (defect shape.blocks request) (is_full shape p)
  pub stands : Stands shape (asked p request (defect shape.blocks request) (is_full shape p)) t p.content

-- by its defect, and by whether the ring is full
refused_plain : (shape : Shape) (p : Plain) (request : Request) (why : Defect) (t : LaneState) (d : Option Defect) (full : Bool) → d ≡ Some why → Stands shape p t p.content
    → Stands shape (asked p request d full) t p.content
refused_plain shape p request why t d full is stands = subst (λ (x : Option Defect). Stands shape (asked p request x full) t p.content) (sym is) stands

full_plain : (shape : Shape) (p : Plain) (request : Request) (t : LaneState) (d : Option Defect) (full : Bool) → d ≡ None → full ≡ true → Stands shape p t p.content
    → Stands shape (asked p request d full) t p.content
full_plain shape p request t d full is whole stands =
    subst (λ (x : Option Defect). Stands shape (asked p request x full) t p.content) (sym is)
    (subst (λ (b : Bool). Stands shape (asked p request None b) t p.content) (sym whole) stands)

waits_plain : (shape : Shape) (p : Plain) (request : Request) (t : LaneState) (d : Option Defect) (full : Bool) → d ≡ None → full ≡ false → Stands shape (waits p request) t p.content
    → Stands shape (asked p request d full) t p.content
waits_plain shape p request t d full is room stands =
    subst (λ (x : Option Defect). Stands shape (asked p request x full) t p.content) (sym is)
    (subst (λ (b : Bool). Stands shape (asked p request None b) t p.content) (sym room) stands)

-- the tests of the plain list, as the lane has them
admitted_at : (shape : Shape) (p : Plain) (s : LaneState) (request : Request) (d : Option Defect) → IsFirstShape shape → Undisturbed shape p.completed s → defect s.client.blocks request ≡ d
    → defect shape.blocks request ≡ d
admitted_at shape p s request d front at is = subst (λ (n : ℕ). defect n request ≡ d) (blocks_at shape p.completed s front.sound at) is

full_where : (slots waiting of pending : ℕ) → pending ≡ of → of ≡ slots → pending ≡ waiting → nat_le slots waiting ≡ true
full_where slots waiting of pending is same wait = grind (arith, nat_tests)

room_where : (slots waiting of pending : ℕ) → pending < of → of ≡ slots → pending ≡ waiting → nat_le slots waiting ≡ false
room_where slots waiting of pending less same wait = grind (arith, nat_tests)

-- REFUSED, or FULL: the lane stays
lane_stays : (s t : LaneState) → t.client ≡ s.client → t ≡ record s { client = t.client } → t ≡ s
lane_stays s t client is = is ∙ ap (λ (c : ClientState). record s { client = c }) client

pub refused_answer : (shape : Shape) (p : Plain) (s : LaneState) (why : Defect) (request : Request) (t : LaneState) → IsFirstShape shape → Stands shape p s p.content
    → LaneStep s (Asks (Refused why request)) t → Answered shape p request (Asks (Refused why request)) t
refused_answer shape p s why request t front stands step =
    let is : defect shape.blocks request ≡ Some why = admitted_at shape p s request (Some why) front stands.lane step.0.0 in
    let behind : Stands shape p t p.content = subst (λ (x : LaneState). Stands shape p x p.content) (sym (lane_stays s t step.0.1 step.1)) stands in
    grind (arith, refused_plain)

pub full_answer : (shape : Shape) (p : Plain) (s : LaneState) (request : Request) (t : LaneState) → IsFirstShape shape → Stands shape p s p.content
    → LaneStep s (Asks (Full request)) t → Answered shape p request (Asks (Full request)) t
full_answer shape p s request t front stands step =
    let is : defect shape.blocks request ≡ None = admitted_at shape p s request None front stands.lane step.0.0 in
    let whole : is_full shape p ≡ true =
    full_where shape.slots (length p.waiting) s.client.slots (length s.client.pending) step.0.1 (slots_at shape p.completed s front.sound stands.lane) (ap length stands.waiting) in
    let behind : Stands shape p t p.content = subst (λ (x : LaneState). Stands shape p x p.content) (sym (lane_stays s t step.0.2 step.1)) stands in
    grind (arith, full_plain)

-- IT WAITS
sound_push : (blocks : ℕ) (requests : List Request) (request : Request) → AreSound blocks requests → defect blocks request ≡ None → IsRequest request → AreSound blocks (requests ++ request ∷ [])
sound_push blocks [] request sound admitted fill = (admitted, fill, tt)
sound_push blocks (one ∷ requests) request sound admitted fill = (sound.0, sound.1, sound_push blocks requests request sound.2 admitted fill)

ask_keeps : (s t : LaneState) → t ≡ record s { client = t.client } → StepKeeps s t
ask_keeps s t is = grind arith

accepted_stands : (shape : Shape) (p : Plain) (s : LaneState) (id : ℕ) (request : Request) (t : LaneState) → IsFirstShape shape → Stands shape p s p.content
    → LaneStep s (Asks (Accepted id request)) t → defect shape.blocks request ≡ None → Stands shape (waits p request) t p.content
accepted_stands shape p s id request t front stands step admitted =
    let event : DiskEvent = Asks (Accepted id request) in
    let at = stands.lane in
    let keeps = ask_keeps s t step.1 in
    let well : t.failed ≡ false = ap (λ (x : LaneState). x.failed) step.1 ∙ at.well in
    let region = region_of shape p.content in
    record {
      lane = undisturbed_on shape p.completed p.completed s event t at step keeps well (ap (λ (x : LaneState). x.near.m) step.1 ∙ at.early) at.done;
      waiting = ap (λ (c : ClientState). c.pending) step.0.5 ∙ ap (λ (xs : List Request). xs ++ request ∷ []) stands.waiting;
      sound = sound_push shape.blocks p.waiting request stands.sound admitted step.0.2;
      near = run_near shape at.events s event t region region region front.sound at.run step (keeps.forged ∙ at.unforged) well refl stands.near;
      behind = stands.behind;
    }

pub accepted_answer : (shape : Shape) (p : Plain) (s : LaneState) (id : ℕ) (request : Request) (t : LaneState) → IsFirstShape shape → Stands shape p s p.content
    → LaneStep s (Asks (Accepted id request)) t → Answered shape p request (Asks (Accepted id request)) t
accepted_answer shape p s id request t front stands step =
    let is : defect shape.blocks request ≡ None = admitted_at shape p s request None front stands.lane step.0.0 in
    let room : is_full shape p ≡ false =
    room_where shape.slots (length p.waiting) s.client.slots (length s.client.pending) step.0.1 (slots_at shape p.completed s front.sound stands.lane) (ap length stands.waiting) in
    record {
      shows = sym (ap (λ (d : Option Defect). answer request d (is_full shape p)) is ∙ ap (answer request None) room);
      stands = waits_plain shape p request t (defect shape.blocks request) (is_full shape p) is room (accepted_stands shape p s id request t front stands step is);
    }

-- OVER THE IMAGE, which stays
asked_content : (p : Plain) (request : Request) (d : Option Defect) (full : Bool) → (asked p request d full).content ≡ p.content
asked_content p request (Some why) full = refl
asked_content p request None true = refl
asked_content p request None false = refl

pub stands_at : (shape : Shape) (p : Plain) (w : WorldState) → (rests : RestsAt shape p w) → Stands shape p rests.beside.lane p.content
stands_at shape p w rests = grind arith

pub answered_plain : (shape : Shape) (p : Plain) (w : WorldState) (request : Request) (event : DiskEvent) (v : WorldState) → (rests : RestsAt shape p w)
    → (one : LaneOne rests.beside.lane w event v) → v.image ≡ w.image → Answered shape p request event one.behind
    → PartIsPlain shape (answer request (defect shape.blocks request) (is_full shape p)) (asked p request (defect shape.blocks request) (is_full shape p)) (OfLane 0 event ∷ []) v
answered_plain shape p w request event v rests one image answered = grind (arith, asked_content)
