-- Lists by their places, and the states of ports by what is kept of them.
use Rattle.std.proofs.Common.{◌≡◌, ◌≢◌, ℕ, zero, suc, List, [], ◌∷◌, length, map, Option, Some, None, option_map, slice_get, get_or, inl, inr, refl, sym, ap, ap₂, subst, ◌∙◌}
use Rattle.std.specs.Option.{option_map_or}
use Rattle.std.proofs.lemmas.Bool.{cases_eq}
use Rattle.std.proofs.lemmas.List.{length-map}
use Rattle.std.proofs.lemmas.Option.{same_Some, slice_get-map, slice_get_read}
use Rattle.net_lane.specs.NetLaneState.{NetLaneState}
use Rattle.lane_models.specs.PortState.{PortState}
use Rattle.switch_laws.specs.Forwards.{port_view, views}
use Rattle.vnet_switch.proofs.Changes.{option_map_some}
use Rattle.vnet_switch.specs.PortView.{PortView}
use Rattle.vnet_switch.specs.Queues.{waiting_for}
use Rattle.switched_ports.specs.HubSteps.{Known, port_at}
use Rattle.switched_ports.specs.States.{lanes_in, state_of, states}
use Rattle.switched_ports.specs.Tied.{Tied}

same_by_all : {X : Type 0} (xs ys : List X) → ((n : ℕ) → slice_get xs n ≡ slice_get ys n) → xs ≡ ys
same_by_all [] [] same = refl
same_by_all [] (y ∷ ys) same = absurd (cc (same 0))
same_by_all (x ∷ xs) [] same = absurd (cc (same 0))
same_by_all {X} (x ∷ xs) (y ∷ ys) same =
    ap₂ (λ (z : X) (zs : List X). z ∷ zs) (same_Some x y (same 0)) (same_by_all xs ys (λ n. same (suc n)))

-- what is the same at a place and at all others is the same
pub same_by_places : {X : Type 0} (k : ℕ) (xs ys : List X) → slice_get xs k ≡ slice_get ys k
    → ((n : ℕ) → n ≢ k → slice_get xs n ≡ slice_get ys n) → xs ≡ ys
same_by_places {X} k xs ys here others = same_by_all xs ys (λ n. elim (cases_eq n k) [
  | inl same ↦ subst (λ (j : ℕ). slice_get xs j ≡ slice_get ys j) (sym same) here
  | inr other ↦ others n other
])

-- what the switch knows of a port, by its parts
abbrev pub view_of : Option (List ℕ) → List (List ℕ) → ℕ → List (List ℕ) → PortView (List ℕ)
view_of address groups room queue = record { address = address; groups = groups; room = room; queue = queue }

pub map_agrees : {A B : Type 0} (f g : A → B) (o : Option A) → ((x : A) → o ≡ Some x → f x ≡ g x)
    → option_map f o ≡ option_map g o
map_agrees f g None same = refl
map_agrees f g (Some x) same = ap Some (same x refl)

pub map_twice : {A B C : Type 0} (f : B → C) (g : A → B) (o : Option A)
    → option_map f (option_map g o) ≡ option_map (λ x. f (g x)) o
map_twice f g None = refl
map_twice f g (Some x) = refl

pub map_same : {A : Type 0} (o : Option A) → option_map (λ x. x) o ≡ o
map_same None = refl
map_same (Some x) = refl

-- THE STATES are those whose lanes and whose views are kept
pub states_back : (ports : List PortState) → states (lanes_in ports) (views ports) ≡ ports
states_back [] = refl
states_back (port ∷ ports) = ap (λ (l : List PortState). port ∷ l) (states_back ports)

-- A PORT with this number, by its lane that is read
pub record There (known : Known) (ports : List PortState) (k : ℕ) (s : NetLaneState) (port : PortState) : Type 0 where
  pub at : slice_get ports k ≡ Some port
  pub lane : s ≡ port.lane
  pub seen : slice_get known k ≡ Some (port_view port)
  pub queue : waiting_for k known ≡ port.queue
  pub is : port_at k s known ≡ port

pub there : (lanes : List NetLaneState) (known : Known) (ports : List PortState) (k : ℕ) (s : NetLaneState)
    → Tied lanes known ports
    → slice_get lanes k ≡ Some s → (port : PortState) × There known ports k s port
there lanes known ports k s tied read =
    let mapped : option_map (λ (p : PortState). p.lane) (slice_get ports k) ≡ Some s =
    sym (slice_get-map (λ (p : PortState). p.lane) ports k) ∙ ap (λ (l : List NetLaneState). slice_get l k)
    (sym tied.lanes_are) ∙ read in
    let from : (p : PortState) × (slice_get ports k ≡ Some p) × (s ≡ p.lane) =
    option_map_some (λ (p : PortState). p.lane) (slice_get ports k) s mapped in
    let seen : slice_get known k ≡ Some (port_view from.0) =
    ap (λ (l : Known). slice_get l k) tied.known_are ∙ slice_get-map port_view ports k ∙ ap (option_map port_view)
    from.1 in
    let queue : waiting_for k known ≡ from.0.queue =
    ap (λ (o : Option (PortView (List ℕ))). option_map_or (λ p. p.queue) o []) seen in (
      from.0,
      record {
        at = from.1;
        lane = from.2;
        seen = seen;
        queue = queue;
        is = ap₂ (λ (l : NetLaneState) (q : List (List ℕ)). state_of l q) from.2 queue;
      },
    )

-- the lanes are as many as the ports
pub as_many : (lanes : List NetLaneState) (known : Known) (ports : List PortState) → Tied lanes known ports
    → length lanes ≡ length ports
as_many lanes known ports tied =
    ap (λ (l : List NetLaneState). length l) tied.lanes_are ∙ length-map ports (λ (p : PortState). p.lane)
