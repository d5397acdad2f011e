-- Ports are a kind of lane: each step lowers what remains by more than what it raises on seven others, or it is calm.
use Rattle.std.proofs.Common.{◌≡◌, ℕ, zero, suc, ◌+◌, ◌*◌, ◌≤◌, ◌<◌, Bool, true, false, List, [], ◌∷◌, refl, sym, ap, ◌∙◌, subst, arith}
use Rattle.std.specs.Prelude.{◌||◌, if◌then◌else◌, ⊤}
use Rattle.runs.specs.Run.{Run}
use Rattle.lane_kinds.proofs.Sums.{and_left, and_right}
use Rattle.lane_kinds.specs.Lanes.{CalmTurn, EachStep, IsSilent, LaneFalls, ComesToRest, all_calm}
use Rattle.kind_cases.specs.Ports.{WayHasRoom, IsClean, IsEither, IsGuest, IsLossless, IsPortTurn, IsSwitch, IsUnforged, Port, PortEvent, PortStep, if_so, is_none, port_calm, port_gets, port_raises, port_remaining, port_silent, port_waits, ports}
use Rattle.kind_cases.specs.Ports.{Blocked, Forged, Given, GuestIdle, Joined, Lost, Published, SwitchIdle, Switched, Taken, Tick}

-- what remains, by its parts
remains : Bool → Bool → ℕ → ℕ → ℕ → ℕ
remains lossy up to_switch out to_guest = if_so lossy 2 + (if up then 0 else 1) + 16 * to_switch + 2 * out + to_guest

joins : (l : Bool) (u : Bool) (a b c : ℕ) → u ≡ false → (if_so l 2 + 0 + 16 * a + 2 * b + c) + 0 < if_so l 2 + (if u then 0 else 1) + 16 * a + 2 * b + c
joins l true a b c down = absurd (cc down)
joins l false a b c down = omega (arith)

takes : (n s t : ℕ) → s ≡ t + 1 → n + t + 0 < n + s
takes n s t is = omega (arith, is)

switches : (n s t b c : ℕ) → s ≡ t + 1 → (n + 16 * t + 2 * b + c) + 14 < n + 16 * s + 2 * b + c
switches n s t b c is = omega (arith, is)

publishes : (n s t c : ℕ) → s ≡ t + 1 → (n + 2 * t + (c + 1)) + 0 < n + 2 * s + c
publishes n s t c is = omega (arith, is)

gives : (n b c : ℕ) → n + 2 * (b + 1) + c ≤ (n + 2 * b + c) + 2
gives n b c = omega (arith)

ticks : (l u : Bool) (a b c : ℕ) → l ≡ true → (0 + 1 + 16 * a + 2 * b + c) < if_so l 2 + (if u then 0 else 1) + 16 * a + 2 * b + c
ticks true true a b c lossy = omega (arith)
ticks true false a b c lossy = omega (arith)
ticks false u a b c lossy = absurd (cc lossy)

-- A TURN
pub turn_steps : (events : List PortEvent) → IsPortTurn events → EachStep ports events
turn_steps (one ∷ two ∷ []) turn = (guest one turn.0, (switch two turn.1, tt))
  where
    guest : (event : PortEvent) → IsGuest event → IsEither event
    guest Joined own = tt
    guest Taken own = tt
    guest GuestIdle own = tt
    guest _ own = absurd own

    switch : (event : PortEvent) → IsSwitch event → IsEither event
    switch Switched own = tt
    switch Published own = tt
    switch Blocked own = tt
    switch SwitchIdle own = tt
    switch _ own = absurd own
turn_steps _ turn = absurd turn

-- WHAT A STEP KEEPS, a frame of another's and a tick too
record Kept (s t : Port) : Type 0 where
  room : t.room ≡ s.room
  forged : t.forged ≡ s.forged

abbrev IsHonest : PortEvent → Type 0
IsHonest Forged = ⊥
IsHonest _ = ⊤

kept : (s event_is t : Port) → t ≡ event_is → Kept s event_is → Kept s t
kept s event_is t is at = subst (Kept s) (sym is) at

keeps : (s : Port) (event : PortEvent) (t : Port) → PortStep s event t → IsHonest event → Kept s t
keeps s Joined t step own = kept s _ t step.1 (record { room = refl; forged = refl })
keeps s Taken t step own = kept s _ t step.2 (record { room = refl; forged = refl })
keeps s GuestIdle t step own = kept s _ t step.2 (record { room = refl; forged = refl })
keeps s Switched t step own = kept s _ t step.1 (record { room = refl; forged = refl })
keeps s Published t step own = kept s _ t step.3 (record { room = refl; forged = refl })
keeps s Blocked t step own = kept s _ t step.3 (record { room = refl; forged = refl })
keeps s SwitchIdle t step own = kept s _ t step.2 (record { room = refl; forged = refl })
keeps s Given t step own = kept s _ t step (record { room = refl; forged = refl })
keeps s Tick t step own = kept s _ t step (record { room = refl; forged = refl })
keeps s Lost t step own = kept s _ t step.1 (record { room = refl; forged = refl })
keeps s Forged t step own = absurd own

honest : (event : PortEvent) → IsEither event → IsHonest event
honest Forged own = absurd own
honest _ own = tt

has_room : (s : Port) (event : PortEvent) (t : Port) → WayHasRoom s → PortStep s event t → WayHasRoom t
has_room s Forged t at step = record { some = subst (λ (n : ℕ). 0 < n) (sym (ap (λ (x : Port). x.room) step)) at.some }
has_room s event t at step = record { some = subst (λ (n : ℕ). 0 < n) (sym (keeps s event t step tt).room) at.some }

is_clean : (s : Port) (event : PortEvent) (t : Port) → IsClean s → PortStep s event t → IsHonest event → IsClean t
is_clean s event t at step own = record { room = has_room s event t at.room step; unforged = (keeps s event t step own).forged ∙ at.unforged }

was_unforged : (s : Port) (event : PortEvent) (t : Port) → PortStep s event t → IsEither event → IsUnforged t → IsUnforged s
was_unforged s Forged t step own clean = absurd own
was_unforged s event t step own clean = sym (keeps s event t step (honest event own)).forged ∙ clean

lossless : (s : Port) (event : PortEvent) (t : Port) → PortStep s event t → IsEither event → t.lossy ≡ s.lossy
lossless s Joined t step own = ap (λ (x : Port). x.lossy) step.1
lossless s Taken t step own = ap (λ (x : Port). x.lossy) step.2
lossless s GuestIdle t step own = ap (λ (x : Port). x.lossy) step.2
lossless s Switched t step own = ap (λ (x : Port). x.lossy) step.1
lossless s Published t step own = ap (λ (x : Port). x.lossy) step.3
lossless s Blocked t step own = ap (λ (x : Port). x.lossy) step.3
lossless s SwitchIdle t step own = ap (λ (x : Port). x.lossy) step.2
lossless s _ t step own = absurd own

loud : (s : Port) (event : PortEvent) (t : Port) → PortStep s event t → IsEither event → port_calm event ≡ false → port_remaining t + 7 * port_raises event < port_remaining s
loud s Joined t step own is = subst (λ (x : Port). port_remaining x + 0 < port_remaining s) (sym step.1) (joins s.lossy s.up s.to_switch s.out s.to_guest step.0)
loud s Taken t step own is =
    subst (λ (x : Port). port_remaining x + 0 < port_remaining s) (sym step.2)
    (takes (if_so s.lossy 2 + (if s.up then 0 else 1) + 16 * s.to_switch + 2 * s.out) s.to_guest t.to_guest step.1)
loud s Switched t step own is =
    subst (λ (x : Port). port_remaining x + 14 < port_remaining s) (sym step.1)
    (switches (if_so s.lossy 2 + (if s.up then 0 else 1)) s.to_switch t.to_switch s.out s.to_guest step.0)
loud s Published t step own is =
    subst (λ (x : Port). port_remaining x + 0 < port_remaining s) (sym step.3)
    (publishes (if_so s.lossy 2 + (if s.up then 0 else 1) + 16 * s.to_switch) s.out t.out s.to_guest step.1)
loud s GuestIdle t step own is = absurd (cc is)
loud s Blocked t step own is = absurd (cc is)
loud s SwitchIdle t step own is = absurd (cc is)
loud s Given t step own is = absurd own
loud s Tick t step own is = absurd own
loud s Lost t step own is = absurd own
loud s Forged t step own is = absurd own

same_remains : (s t : Port) → t ≡ s → port_remaining t ≤ port_remaining s
same_remains s t is = omega (arith, ap port_remaining is)

calm_same : (s : Port) (event : PortEvent) (t : Port) → PortStep s event t → port_calm event ≡ true → t ≡ s
calm_same s GuestIdle t step is = step.2
calm_same s Blocked t step is = step.3
calm_same s SwitchIdle t step is = step.2
calm_same s _ t step is = absurd (cc is)

-- WHAT IT IS GIVEN
given_clean : (k : ℕ) (event : PortEvent) (s t : Port) → IsClean s → Run PortStep s (port_gets k event) t → IsClean t
given_clean k Switched s t at run = subst IsClean run.2 (is_clean s Given run.0 at run.1 tt)
given_clean k _ s t at run = subst IsClean run at

given_lossless : (k : ℕ) (event : PortEvent) (s t : Port) → Run PortStep s (port_gets k event) t → IsLossless s → IsLossless t
given_lossless k Switched s t run whole = subst IsLossless run.2 (ap (λ (x : Port). x.lossy) run.1 ∙ whole)
given_lossless k _ s t run whole = subst IsLossless run whole

given : (k : ℕ) (event : PortEvent) (s t : Port) → Run PortStep s (port_gets k event) t → port_remaining t ≤ port_remaining s + port_raises event
given k Switched s t run =
    subst (λ (x : Port). port_remaining x ≤ port_remaining s + 2) (sym run.1 ∙ run.2)
    (gives (if_so s.lossy 2 + (if s.up then 0 else 1) + 16 * s.to_switch) s.out s.to_guest)
given k _ s t run = subst (λ (x : Port). port_remaining x ≤ port_remaining s + 0) run (omega (arith))

calm_gives : (k : ℕ) (event : PortEvent) → port_calm event ≡ true → port_gets k event ≡ []
calm_gives k GuestIdle is = refl
calm_gives k Blocked is = refl
calm_gives k SwitchIdle is = refl
calm_gives k _ is = absurd (cc is)

-- THE TICK behind a calm turn: nothing is held then, so that a frame was lost
by_loss : (lossy up : Bool) (n : ℕ) → up ≡ true → n ≡ 0 → (lossy || (if up then (if is_none n then false else true) else true)) ≡ true → lossy ≡ true
by_loss true up n joined none waits = refl
by_loss false true zero joined none waits = absurd (cc waits)
by_loss false true (suc n) joined none waits = absurd (omega (arith, none))
by_loss false false n joined none waits = absurd (cc joined)

nothing_held : (a b c : ℕ) → a ≡ 0 → b ≡ 0 → c ≡ 0 → a + b + c ≡ 0
nothing_held a b c one two three = omega (arith, one, two, three)

record IsEmptied (s : Port) : Type 0 where
  up : s.up ≡ true
  held : s.to_switch + s.out + s.to_guest ≡ 0

rests : (s : Port) (one two : PortEvent) (m t : Port) → WayHasRoom s → IsGuest one → IsSwitch two → port_calm one ≡ true → port_calm two ≡ true → PortStep s one m → PortStep m two t → IsEmptied t
rests s GuestIdle SwitchIdle m t at guest switch one two first second =
    subst IsEmptied (sym second.2) (record {
      up = ap (λ (x : Port). x.up) first.2 ∙ first.0;
      held = nothing_held m.to_switch m.out m.to_guest second.0 second.1 (ap (λ (x : Port). x.to_guest) first.2 ∙ first.1);
    })
rests s GuestIdle Blocked m t at guest switch one two first second =
    absurd (omega (arith, at.some, second.2, ap (λ (x : Port). x.room) first.2, ap (λ (x : Port). x.to_guest) first.2 ∙ first.1))
rests s GuestIdle Switched m t at guest switch one two first second = absurd (cc two)
rests s GuestIdle Published m t at guest switch one two first second = absurd (cc two)
rests s Joined next m t at guest switch one two first second = absurd (cc one)
rests s Taken next m t at guest switch one two first second = absurd (cc one)
rests s GuestIdle next m t at guest switch one two first second = absurd switch
rests s _ next m t at guest switch one two first second = absurd guest

turn_rests : (s : Port) (events : List PortEvent) (t : Port) → WayHasRoom s → CalmTurn ports s events t → IsEmptied t
turn_rests s (one ∷ two ∷ []) t at turn =
    let calm = turn.calm in
    rests s one two turn.run.0 t at turn.of_turn.0 turn.of_turn.1 (and_left (port_calm one) (all_calm ports (two ∷ [])) calm)
    (and_left (port_calm two) true (and_right (port_calm one) (all_calm ports (two ∷ [])) calm)) turn.run.1
    (subst (PortStep turn.run.0 two) turn.run.2.2 turn.run.2.1)
turn_rests s [] t at turn = absurd turn.of_turn
turn_rests s (one ∷ []) t at turn = absurd turn.of_turn
turn_rests s (one ∷ two ∷ three ∷ events) t at turn = absurd turn.of_turn

tick_falls : (s : Port) (events : List PortEvent) (t u : Port) → IsClean s → CalmTurn ports s events t → port_waits t ≡ true → PortStep t Tick u → port_remaining u < port_remaining t
tick_falls s events t u at turn waits step =
    let still : IsEmptied t = turn_rests s events t at.room turn in
    subst (λ (x : Port). port_remaining x < port_remaining t) (sym step)
    (ticks t.lossy t.up t.to_switch t.out t.to_guest (by_loss t.lossy t.up (t.to_switch + t.out + t.to_guest) still.up still.held waits))

-- where nothing was lost it is finished then
not_waiting : (lossy up : Bool) (n : ℕ) → lossy ≡ false → up ≡ true → n ≡ 0 → (lossy || (if up then (if is_none n then false else true) else true)) ≡ false
not_waiting false true zero whole joined none = refl
not_waiting false true (suc n) whole joined none = absurd (omega (arith, none))
not_waiting false false n whole joined none = absurd (cc joined)
not_waiting true up n whole joined none = absurd (cc whole)

run_lossless : (s : Port) (events : List PortEvent) (t : Port) → EachStep ports events → Run PortStep s events t → IsLossless s → IsLossless t
run_lossless s [] t steps run whole = subst IsLossless run whole
run_lossless s (event ∷ events) t steps run whole = run_lossless run.0 events t steps.1 run.2 (lossless s event run.0 run.1 steps.0 ∙ whole)

finishes : (s : Port) (events : List PortEvent) (t : Port) → WayHasRoom s → IsLossless s → CalmTurn ports s events t → port_waits t ≡ false
finishes s events t at whole turn =
    let still : IsEmptied t = turn_rests s events t at turn in
    not_waiting t.lossy t.up (t.to_switch + t.out + t.to_guest) (run_lossless s events t (turn_steps events turn.of_turn) turn.run whole) still.up still.held

-- PORTS ARE A KIND
pub port_falls : LaneFalls ports IsClean port_remaining port_raises
port_falls = record {
  turn_steps = turn_steps;
  clean = λ s event t at step own. is_clean s event t at step (honest event own);
  loud = λ s event t at step own is. loud s event t step own is;
  calm = λ s event t at step own is. same_remains s t (calm_same s event t step is);
  calm_gives = calm_gives;
  given_clean = given_clean;
  given = λ k event s t at run. given k event s t run;
  tick_clean = λ s t at step. is_clean s Tick t at step tt;
  tick_falls = tick_falls;
}

pub port_rests : ComesToRest ports WayHasRoom IsUnforged IsLossless
port_rests = record {
  turn_steps = turn_steps;
  reached = has_room;
  was_unforged = was_unforged;
  lossless = λ s event t step own whole. lossless s event t step own ∙ whole;
  given_lossless = given_lossless;
  calm_gives = calm_gives;
  tick_lossless = λ s events t u at turn step. ap (λ (x : Port). x.lossy) step;
  finishes = λ s events t at clean whole turn. finishes s events t at whole turn;
}

idle_same : (s : Port) (event : PortEvent) (t : Port) → PortStep s event t → port_silent event ≡ true → s ≡ t
idle_same s GuestIdle t step is = sym step.2
idle_same s SwitchIdle t step is = sym step.2
idle_same s _ t step is = absurd (cc is)

idle_gives : (k : ℕ) (event : PortEvent) → port_silent event ≡ true → port_gets k event ≡ []
idle_gives k GuestIdle is = refl
idle_gives k SwitchIdle is = refl
idle_gives k _ is = absurd (cc is)

pub port_silence : IsSilent ports
port_silence = record { same = idle_same; gives = idle_gives; tick_gives = λ k s. refl; tick_loud = λ s. refl }

pub port_bound : (s : Port) → port_remaining s ≤ 3 + 16 * (s.to_switch + s.out + s.to_guest)
port_bound s = bounded s.lossy s.up s.to_switch s.out s.to_guest
  where
    bounded : (l u : Bool) (a b c : ℕ) → if_so l 2 + (if u then 0 else 1) + 16 * a + 2 * b + c ≤ 3 + 16 * (a + b + c)
    bounded true true a b c = omega (arith)
    bounded true false a b c = omega (arith)
    bounded false true a b c = omega (arith)
    bounded false false a b c = omega (arith)
