-- The ports behind an event of one of them: that one, and the others by what it gives them.
use Rattle.std.proofs.Common.{◌≡◌, ◌≢◌, ℕ, zero, suc, ◌+◌, ◌≤◌, ◌<◌, ◌==◌, if◌then◌else◌, Bool, true, false, List, [], ◌∷◌, ◌++◌, length, map, Option, Some, None, option_map, slice_get, slice_set, IsBitSet, refl, sym, ap, subst, ◌∙◌, arith}
use Rattle.std.proofs.lemmas.Bool.{eq-eqb, eqb-true}
use Rattle.std.specs.Int.{bit_at}
use Rattle.std.proofs.lemmas.Option.{same_Some, slice_get-map}
use Rattle.lane_kinds.proofs.Lanes.{other_test}
use Rattle.lane_kinds.proofs.Places.{get_other, get_set}
use Rattle.lane_kinds.specs.Lanes.{AllStep, EachOf, own_or}
use Rattle.net_lane.specs.NetLaneState.{NetLaneState, NetShape}
use Rattle.lane_models.specs.PortState.{PortState}
use Rattle.runs.specs.Run.{Run}
use Rattle.switch_laws.specs.Events.{OnPort, SwitchEvent, SwitchStep, Switched}
use Rattle.switch_laws.specs.Forwards.{port_view, views}
use Rattle.switch_laws.specs.Ports.{gets, ports as kind}
use Rattle.vnet_switch.specs.PortView.{PortView}
use Rattle.vnet_switch.specs.Queues.{with_last}
use Rattle.switched_ports.specs.HubSteps.{Known}
use Rattle.switched_ports.specs.States.{lanes_in, shapes_in}
use Rattle.switched_ports.proofs.Places.{map_agrees, map_twice, same_by_places}

abbrev pub got : Bool → List ℕ → PortState → PortState
got true frame port = record port { queue = port.queue ++ frame ∷ [] }
got false frame port = port

-- what another port's event makes of a port, and of what the switch knows of it
abbrev pub given_to : ℕ → SwitchEvent → PortState → PortState
given_to j (Switched frame out full) port = got (bit_at out j == 1) frame port
given_to j (OnPort event) port = port

abbrev pub seen_given : ℕ → SwitchEvent → PortView (List ℕ) → PortView (List ℕ)
seen_given j (Switched frame out full) port = if bit_at out j == 1 then with_last frame port else port
seen_given j (OnPort event) port = port

abbrev pub became : Bool → ℕ → SwitchEvent → PortState → PortState → PortState
became true j event t port = t
became false j event t port = given_to j event port

abbrev pub behind : ℕ → ℕ → SwitchEvent → PortState → List PortState → List PortState
behind j k event t [] = []
behind j k event t (port ∷ ports) = became (j == k) j event t port ∷ behind (j + 1) k event t ports

got_seen : (b : Bool) (frame : List ℕ) (port : PortState)
    → (if b then with_last frame (port_view port) else port_view port) ≡ port_view (got b frame port)
got_seen true frame port = refl
got_seen false frame port = refl

seen_behind : (j : ℕ) (event : SwitchEvent) (port : PortState)
    → seen_given j event (port_view port) ≡ port_view (given_to j event port)
seen_behind j (Switched frame out full) port = got_seen (bit_at out j == 1) frame port
seen_behind j (OnPort event) port = refl

got_lane : (b : Bool) (frame : List ℕ) (port : PortState) → (got b frame port).lane ≡ port.lane
got_lane true frame port = refl
got_lane false frame port = refl

given_lane : (j : ℕ) (event : SwitchEvent) (port : PortState) → (given_to j event port).lane ≡ port.lane
given_lane j (Switched frame out full) port = got_lane (bit_at out j == 1) frame port
given_lane j (OnPort event) port = refl

module _ (k : ℕ) (event : SwitchEvent) (t : PortState) where
  place_next : (j n : ℕ) → j + 1 + n ≡ j + suc n
  place_next j n = omega arith

  place_first : (j : ℕ) → j ≡ j + 0
  place_first j = omega arith

  zero_first : (n : ℕ) → 0 + n ≡ n
  zero_first n = omega arith

  -- AT EACH PLACE
  at_from : (j : ℕ) (xs : List PortState) (n : ℕ)
      → slice_get (behind j k event t xs) n ≡ option_map (became ((j + n) == k) (j + n) event t) (slice_get xs n)
  at_from j [] n = refl
  at_from j (x ∷ xs) zero = ap (λ (i : ℕ). Some (became (i == k) i event t x)) (place_first j)
  at_from j (x ∷ xs) (suc n) =
      at_from (j + 1) xs n
      ∙ ap (λ (i : ℕ). option_map (became (i == k) i event t) (slice_get xs n)) (place_next j n)

  at_place : (xs : List PortState) (n : ℕ)
      → slice_get (behind 0 k event t xs) n ≡ option_map (became (n == k) n event t) (slice_get xs n)
  at_place xs n =
      at_from 0 xs n ∙ ap (λ (i : ℕ). option_map (became (i == k) i event t) (slice_get xs n)) (zero_first n)

  pub at_own : (xs : List PortState) (x : PortState) → slice_get xs k ≡ Some x
      → slice_get (behind 0 k event t xs) k ≡ Some t
  at_own xs x here =
      at_place xs k
      ∙ ap (λ (b : Bool). option_map (became b k event t) (slice_get xs k)) (eq-eqb k k refl)
      ∙ ap (option_map (became true k event t)) here

  pub at_other : (xs : List PortState) (n : ℕ) → n ≢ k
      → slice_get (behind 0 k event t xs) n ≡ option_map (given_to n event) (slice_get xs n)
  at_other xs n other =
      at_place xs n
      ∙ ap (λ (b : Bool). option_map (became b n event t) (slice_get xs n)) (other_test n k other)

  -- AS MANY, with the same lanes and views but for its own
  pub as_long : (j : ℕ) (xs : List PortState) → length (behind j k event t xs) ≡ length xs
  as_long j [] = refl
  as_long j (x ∷ xs) = ap suc (as_long (j + 1) xs)

  pub lanes_behind : (xs : List PortState) (x : PortState) → slice_get xs k ≡ Some x
      → slice_set (lanes_in xs) k t.lane ≡ lanes_in (behind 0 k event t xs)
  lanes_behind xs x here =
      let read : slice_get (lanes_in xs) k ≡ Some x.lane =
      slice_get-map (λ (p : PortState). p.lane) xs k ∙ ap (option_map (λ (p : PortState). p.lane)) here in
      same_by_places k (slice_set (lanes_in xs) k t.lane) (lanes_in (behind 0 k event t xs))
      (get_set (lanes_in xs) k x.lane t.lane read
      ∙ sym (slice_get-map (λ (p : PortState). p.lane) (behind 0 k event t xs) k
      ∙ ap (option_map (λ (p : PortState). p.lane)) (at_own xs x here)))
      (λ n other.
      get_other (lanes_in xs) k n t.lane (λ same. other (sym same))
      ∙ slice_get-map (λ (p : PortState). p.lane) xs n
      ∙ sym (slice_get-map (λ (p : PortState). p.lane) (behind 0 k event t xs) n
      ∙ ap (option_map (λ (p : PortState). p.lane)) (at_other xs n other)
      ∙ map_twice (λ (p : PortState). p.lane) (given_to n event) (slice_get xs n)
      ∙ map_agrees (λ (p : PortState). (given_to n event p).lane) (λ (p : PortState). p.lane) (slice_get xs n)
      (λ p is. given_lane n event p)))

  pub views_behind : (known new : Known) (xs : List PortState) (x : PortState) → known ≡ views xs
      → slice_get xs k ≡ Some x
      → slice_get new k ≡ Some (port_view t)
      → ((n : ℕ) → n ≢ k → slice_get new n ≡ option_map (seen_given n event) (slice_get known n))
      → new ≡ views (behind 0 k event t xs)
  views_behind known new xs x is here told others =
      same_by_places k new (views (behind 0 k event t xs))
      (told ∙ sym (slice_get-map port_view (behind 0 k event t xs) k ∙ ap (option_map port_view) (at_own xs x here)))
      (λ n other.
      others n other
      ∙ ap (λ (l : Known). option_map (seen_given n event) (slice_get l n)) is
      ∙ ap (option_map (seen_given n event)) (slice_get-map port_view xs n)
      ∙ map_twice (seen_given n event) port_view (slice_get xs n)
      ∙ map_agrees (λ (p : PortState). seen_given n event (port_view p))
      (λ (p : PortState). port_view (given_to n event p))
      (slice_get xs n) (λ p there. seen_behind n event p)
      ∙ sym (slice_get-map port_view (behind 0 k event t xs) n
      ∙ ap (option_map port_view) (at_other xs n other)
      ∙ map_twice port_view (given_to n event) (slice_get xs n)))

  pub shapes_behind : (xs : List PortState) (x : PortState) → slice_get xs k ≡ Some x → t.lane.shape ≡ x.lane.shape
      → shapes_in (behind 0 k event t xs) ≡ shapes_in xs
  shapes_behind xs x here same =
      same_by_places k (shapes_in (behind 0 k event t xs)) (shapes_in xs)
      (slice_get-map (λ (p : PortState). p.lane.shape) (behind 0 k event t xs) k
      ∙ ap (option_map (λ (p : PortState). p.lane.shape)) (at_own xs x here)
      ∙ ap Some same
      ∙ sym (slice_get-map (λ (p : PortState). p.lane.shape) xs k ∙ ap (option_map (λ (p : PortState). p.lane.shape))
      here))
      (λ n other.
      slice_get-map (λ (p : PortState). p.lane.shape) (behind 0 k event t xs) n
      ∙ ap (option_map (λ (p : PortState). p.lane.shape)) (at_other xs n other)
      ∙ map_twice (λ (p : PortState). p.lane.shape) (given_to n event) (slice_get xs n)
      ∙ map_agrees (λ (p : PortState). (given_to n event p).lane.shape) (λ (p : PortState). p.lane.shape)
      (slice_get xs n)
      (λ p is. ap (λ (l : NetLaneState). l.shape) (given_lane n event p))
      ∙ sym (slice_get-map (λ (p : PortState). p.lane.shape) xs n))

  -- A CONDITION on each, from that on each before
  each_from : (P Q : PortState → Type 0) (j : ℕ) (xs : List PortState) → EachOf P xs
      → ((n : ℕ) (x : PortState) → slice_get xs n ≡ Some x → P x → Q (became ((j + n) == k) (j + n) event t x))
      → EachOf Q (behind j k event t xs)
  each_from P Q j [] each one = tt
  each_from P Q j (x ∷ xs) each one = (
    subst (λ (i : ℕ). Q (became (i == k) i event t x)) (sym (place_first j)) (one 0 x refl each.0),
    each_from P Q (j + 1) xs each.1 (λ n y at holds.
        subst (λ (i : ℕ). Q (became (i == k) i event t y)) (sym (place_next j n)) (one (suc n) y at holds)),
  )

  by_place : (Q : PortState → Type 0) (n : ℕ) (x : PortState) (b : Bool) → (n == k) ≡ b
      → (n ≡ k → Q t) → (n ≢ k → Q (given_to n event x)) → Q (became b n event t x)
  by_place Q n x true is own other = own (eqb-true n k is)
  by_place Q n x false is own other =
      other (λ same. (let wrong : true ≡ false = sym (eq-eqb n k same) ∙ is in cc wrong))

  pub each_behind : (P Q : PortState → Type 0) (xs : List PortState) → EachOf P xs
      → ((x : PortState) → slice_get xs k ≡ Some x → P x → Q t)
      → ((n : ℕ) (x : PortState) → slice_get xs n ≡ Some x → n ≢ k → P x → Q (given_to n event x))
      → EachOf Q (behind 0 k event t xs)
  each_behind P Q xs each own other = each_from P Q 0 xs each (λ n x at holds.
      subst (λ (i : ℕ). Q (became (i == k) i event t x)) (sym (zero_first n))
      (by_place Q n x (n == k) refl (λ same. own x (subst (λ (i : ℕ). slice_get xs i ≡ Some x) same at) holds)
      (λ not_. other n x at not_ holds)))

  -- EACH STEPS
  steps_from : (j : ℕ) (xs : List PortState)
      → ((n : ℕ) (x : PortState) → slice_get xs n ≡ Some x
      → Run SwitchStep x (own_or ((j + n) == k) event (gets (j + n) event)) (became ((j + n) == k) (j + n) event t x))
      → AllStep kind j xs k event (behind j k event t xs)
  steps_from j [] each = tt
  steps_from j (x ∷ xs) each = (
    subst (λ (i : ℕ). Run SwitchStep x (own_or (i == k) event (gets i event)) (became (i == k) i event t x))
        (sym (place_first j))
        (each 0 x refl),
    steps_from (j + 1) xs (λ n y at.
        subst (λ (i : ℕ). Run SwitchStep y (own_or (i == k) event (gets i event)) (became (i == k) i event t y))
        (sym (place_next j n))
        (each (suc n) y at)),
  )

  run_at : (n : ℕ) (x : PortState) (b : Bool) → (n == k) ≡ b → (n ≡ k → SwitchStep x event t)
      → (n ≢ k → Run SwitchStep x (gets n event) (given_to n event x))
      → Run SwitchStep x (own_or b event (gets n event)) (became b n event t x)
  run_at n x true is own other = (t, own (eqb-true n k is), refl)
  run_at n x false is own other = other (λ same. (let wrong : true ≡ false = sym (eq-eqb n k same) ∙ is in cc wrong))

  pub all_step : (xs : List PortState) (x : PortState) → slice_get xs k ≡ Some x → SwitchStep x event t
      → ((n : ℕ) (y : PortState) → slice_get xs n ≡ Some y → n ≢ k
      → Run SwitchStep y (gets n event) (given_to n event y))
      → AllStep kind 0 xs k event (behind 0 k event t xs)
  all_step xs x here step other = steps_from 0 xs (λ n y at.
      subst (λ (i : ℕ). Run SwitchStep y (own_or (i == k) event (gets i event)) (became (i == k) i event t y))
      (sym (zero_first n))
      (run_at n y (n == k) refl
      (λ same. (let is : x ≡ y = same_Some x y (sym here ∙ subst (λ (i : ℕ). slice_get xs i ≡ Some y) same at) in
      subst (λ (p : PortState). SwitchStep p event t) is step))
      (λ not_. other n y at not_)))
