-- Each event of a lane that nobody forged leaves each slot that is DONE with the status that the server gave it in the client's session.
use Rattle.std.proofs.Common.{◌≡◌, ℕ, zero, suc, ◌+◌, ◌-◌, ◌%◌, ◌≤◌, ◌⊎◌, inl, inr, Bool, true, false, Option, Some, None, List, [], ◌∷◌, ◌++◌, length, set, refl, sym, ap, ◌∙◌, subst, arith, length-append}
use Rattle.std.specs.Prelude.{⊤, ◌&&◌, ◌==◌, if◌then◌else◌, slice_get, replicate}
use Rattle.std.proofs.lemmas.Bool.{eq-eqb}
use Rattle.ldc_queue.specs.Fragments.{Fragment, fragment_at, is_part}
use Rattle.ldc_queue.specs.OneStream.{IsFront}
use Rattle.ldc_queue.specs.Transcript.{Heard as Heard_, Said, Utterance}
use Rattle.lane_models.specs.Sayings.{half_heard, half_said, heard, said, whole_by, whole_past}
use Rattle.lane_models.specs.Messages.{whole_with, opening_sid, sid_in}
use Rattle.lane_models.proofs.Apart.{some_same}
use Rattle.lane_laws.specs.RingLog.{Done, Free, Ready, SlotLog, fetched_at, freed_at, published_at}
use Rattle.lane_laws.specs.WorkLaws.{IfClient, last_of}
use Rattle.lane_laws.specs.WorkLog.{ClientCounts, Opened, ServerCounts, WorkLog, change_client, change_server, finished_in}
use Rattle.lane_laws.specs.Statuses.{IsLastSession, IsSidNamed, KeepsStatus, LastIn}

-- THE CLIENT'S COUNTS change but for the sid and the base
pub keeps_changed : (f : ClientCounts → ClientCounts) (o : Option ClientCounts) (ring : List SlotLog) (opened : List Opened) → ((k : ClientCounts) → (f k).sid ≡ k.sid)
    → ((k : ClientCounts) → (f k).base ≡ k.base) → IfClient o (KeepsStatus ring opened) → IfClient (change_client f o) (KeepsStatus ring opened)
keeps_changed f o ring opened sid base keeps = grind arith

if_client : (f : ClientCounts → ClientCounts) (o : Option ClientCounts) (P : ℕ → Type 0) → ((k : ClientCounts) → (f k).sid ≡ k.sid) → IfClient o (λ (k : ClientCounts). P k.sid)
    → IfClient (change_client f o) (λ (k : ClientCounts). P k.sid)
if_client f None P sid holds = tt
if_client f (Some k) P sid holds = subst P (sym (sid k)) holds

pub last_client : (f : ClientCounts → ClientCounts) (q : Option ServerCounts) (o : Option ClientCounts) (opened : List Opened) → ((k : ClientCounts) → (f k).sid ≡ k.sid) → LastIn q o opened
    → LastIn q (change_client f o) opened
last_client f None o opened sid last = tt
last_client f (Some d) o opened sid last = if_client f o (λ (n : ℕ). IsLastSession n d.finished opened) sid last

pub last_server : (g : ServerCounts → ServerCounts) (q : Option ServerCounts) (o : Option ClientCounts) (opened : List Opened) → ((d : ServerCounts) → (g d).finished ≡ d.finished) → LastIn q o opened
    → LastIn (change_server g q) o opened
last_server g None o opened same last = tt
last_server g (Some d) o opened same last = subst (λ (n : ℕ). IfClient o (λ (k : ClientCounts). IsLastSession k.sid n opened)) (sym (same d)) last

pub last_gone : (q : Option ServerCounts) (opened : List Opened) → LastIn q None opened
last_gone None opened = tt
last_gone (Some d) opened = tt

pub named_changed : (f : ClientCounts → ClientCounts) (o : Option ClientCounts) (messages : List (List ℕ)) → ((k : ClientCounts) → (f k).sid ≡ k.sid)
    → IfClient o (λ (k : ClientCounts). IsSidNamed k.sid messages) → IfClient (change_client f o) (λ (k : ClientCounts). IsSidNamed k.sid messages)
named_changed f o messages sid named = if_client f o (λ (n : ℕ). IsSidNamed n messages) sid named

-- MORE MESSAGES
got_more : (messages : List (List ℕ)) (more : List (List ℕ)) (n : ℕ) (m : List ℕ) → slice_get messages n ≡ Some m → slice_get (messages ++ more) n ≡ Some m
got_more [] more n m is = absurd (cc is)
got_more (x ∷ messages) more zero m is = is
got_more (x ∷ messages) more (suc n) m is = got_more messages more n m is

more_named : (sid : ℕ) (messages more : List (List ℕ)) → IsSidNamed sid messages → IsSidNamed sid (messages ++ more)
more_named sid messages more named = record { message = named.message; fifth = got_more messages more 4 named.message named.fifth; sid_is = named.sid_is }

said_named : (sid : ℕ) (is : Bool) (part : Fragment) (half : List ℕ) (messages : List (List ℕ)) → IsSidNamed sid messages → IsSidNamed sid (whole_past is part half messages)
said_named sid false part half messages named = named
said_named sid true part half messages named = by_stop part.stop
  where
    by_stop : (stop : Bool) → IsSidNamed sid (whole_by stop (half ++ part.bytes) messages)
    by_stop true = more_named sid messages ((half ++ part.bytes) ∷ []) named
    by_stop false = named

pub named_more : (o : Option ClientCounts) (packet : List ℕ) (turns : List Utterance) → IfClient o (λ (k : ClientCounts). IsSidNamed k.sid (said turns))
    → IfClient o (λ (k : ClientCounts). IsSidNamed k.sid (said (Said packet ∷ turns)))
named_more None packet turns named = tt
named_more (Some k) packet turns named = said_named k.sid (is_part packet) (fragment_at packet) (half_said turns) (said turns) named

-- the fifth message is the one that is whole by a packet
got_last : (messages : List (List ℕ)) (m : List ℕ) → slice_get (messages ++ m ∷ []) (length messages) ≡ Some m
got_last [] m = refl
got_last (x ∷ messages) m = got_last messages m

fifth_named : (is : Bool) (part : Fragment) (half : List ℕ) (messages : List (List ℕ)) → length messages ≤ 4 → 5 ≤ length (whole_past is part half messages)
    → IsSidNamed (sid_in (whole_with (is && part.stop) (half ++ part.bytes))) (whole_past is part half messages)
fifth_named false part half messages few many = absurd (omega (arith, few, many))
fifth_named true part half messages few many = by_stop part.stop many
  where
    by_stop : (stop : Bool) → 5 ≤ length (whole_by stop (half ++ part.bytes) messages) → IsSidNamed (sid_in (whole_with stop (half ++ part.bytes))) (whole_by stop (half ++ part.bytes) messages)
    by_stop false five = absurd (omega (arith, few, five))
    by_stop true five =
        let m : List ℕ = half ++ part.bytes in
        let four : length messages ≡ 4 = omega (arith, few, five, length-append messages (m ∷ [])) in
        record { message = m; fifth = subst (λ (n : ℕ). slice_get (messages ++ m ∷ []) n ≡ Some m) four (got_last messages m); sid_is = refl }

pub says_fifth : (packet : List ℕ) (turns : List Utterance) → length (said turns) ≤ 4 → 5 ≤ length (said (Said packet ∷ turns)) → IsSidNamed (opening_sid (half_said turns) packet) (said (Said packet ∷ turns))
says_fifth packet turns few many = fifth_named (is_part packet) (fragment_at packet) (half_said turns) (said turns) few many

pub hears_fifth : (packet : List ℕ) (turns : List Utterance) → length (heard turns) ≤ 4 → 5 ≤ length (heard (Heard_ packet ∷ turns))
    → IsSidNamed (opening_sid (half_heard turns) packet) (heard (Heard_ packet ∷ turns))
hears_fifth packet turns few many = fifth_named (is_part packet) (fragment_at packet) (half_heard turns) (heard turns) few many

-- of what the other said this is a front
pub front_named : (sid : ℕ) (messages all : List (List ℕ)) → IsFront messages all → IsSidNamed sid messages → IsSidNamed sid all
front_named sid messages all front named = subst (IsSidNamed sid) (sym front.1) (more_named sid messages front.0 named)

-- so both ends have one sid
pub one_name : (sid other : ℕ) (messages : List (List ℕ)) → IsSidNamed sid messages → IsSidNamed other messages → sid ≡ other
one_name sid other messages named also = search

-- ONE SLOT of the ring changes
abbrev IsNotDone : SlotLog → Type 0
IsNotDone (Done id status) = ⊥
IsNotDone _ = ⊤

set_or : (ring : List SlotLog) (k j : ℕ) (e x : SlotLog) → slice_get (set ring k e) j ≡ Some x → (x ≡ e) ⊎ (slice_get ring j ≡ Some x)
set_or [] k j e x is = absurd (cc is)
set_or (y ∷ ring) zero zero e x is = let same : e ≡ x = some_same is in inl (sym same)
set_or (y ∷ ring) zero (suc j) e x is = inr is
set_or (y ∷ ring) (suc k) zero e x is = inr is
set_or (y ∷ ring) (suc k) (suc j) e x is = set_or ring k j e x is

set_keeps : (ring : List SlotLog) (opened : List Opened) (k : ClientCounts) (slot : ℕ) (e : SlotLog) → IsNotDone e → KeepsStatus ring opened k → KeepsStatus (set ring slot e) opened k
set_keeps ring opened k slot e not keeps = grind (arith, set_or)

pub published_keeps : (slots : ℕ) (o : Option ClientCounts) (id : ℕ) (ring : List SlotLog) (opened : List Opened) → IfClient o (KeepsStatus ring opened)
    → IfClient (change_client (λ (c : ClientCounts). record c { published = c.published + 1 }) o) (KeepsStatus (published_at slots o id ring) opened)
published_keeps slots None id ring opened keeps = tt
published_keeps slots (Some k) id ring opened keeps = set_keeps ring opened k (k.published % slots) (Ready id) tt keeps

pub freed_keeps : (slots : ℕ) (w : WorkLog) (o : Option ClientCounts) (ring : List SlotLog) (opened : List Opened) → IfClient o (KeepsStatus ring opened)
    → IfClient o (KeepsStatus (freed_at slots w o ring) opened)
freed_keeps slots w None ring opened keeps = tt
freed_keeps slots w (Some k) ring opened keeps = set_keeps ring opened k ((w.done - k.base) % slots) Free tt keeps

fetched_one : (slots : ℕ) (w : WorkLog) (q : Option ServerCounts) (slot : ℕ) (ring : List SlotLog) (opened : List Opened) (k : ClientCounts) → KeepsStatus ring opened k
    → KeepsStatus (fetched_at slots w q slot ring) opened k
fetched_one slots w None slot ring opened k keeps = keeps
fetched_one slots w (Some d) slot ring opened k keeps = set_keeps ring opened k slot _ tt keeps

pub fetched_keeps : (slots : ℕ) (w : WorkLog) (q : Option ServerCounts) (slot : ℕ) (o : Option ClientCounts) (ring : List SlotLog) (opened : List Opened) → IfClient o (KeepsStatus ring opened)
    → IfClient o (KeepsStatus (fetched_at slots w q slot ring) opened)
fetched_keeps slots w q slot None ring opened keeps = tt
fetched_keeps slots w q slot (Some k) ring opened keeps = fetched_one slots w q slot ring opened k keeps

-- A STATUS is given
got_grown : (statuses : List ℕ) (status n value : ℕ) → slice_get statuses n ≡ Some value → slice_get (statuses ++ status ∷ []) n ≡ Some value
got_grown [] status n value is = absurd (cc is)
got_grown (x ∷ statuses) status zero value is = is
got_grown (x ∷ statuses) status (suc n) value is = got_grown statuses status n value is

got_newest : (statuses : List ℕ) (status : ℕ) → slice_get (statuses ++ status ∷ []) (length statuses) ≡ Some status
got_newest [] status = refl
got_newest (x ∷ statuses) status = got_newest statuses status

last_is : (session : Opened) (before : List Opened) (sid : ℕ) → session.sid ≡ sid → last_of sid (session ∷ before) ≡ session.statuses
last_is session before sid same =
    let test : (session.sid == sid) ≡ true = eq-eqb session.sid sid same in ap (λ (b : Bool). if b then session.statuses else last_of sid before) test

same_done : (a b status value : ℕ) → Done a value ≡ Done b status → (a ≡ b) × (value ≡ status)
same_done a b status value is = (cc, cc)

finished_one : (ring : List SlotLog) (opened : List Opened) (k : ClientCounts) (finished slot status : ℕ) → IsLastSession k.sid finished opened → KeepsStatus ring opened k
    → KeepsStatus (set ring slot (Done (k.base + finished) status)) (finished_in status opened) k
finished_one ring [] k finished slot status last keeps = absurd last
finished_one ring (session ∷ before) k finished slot status last keeps =
    let grown : Opened = record session { statuses = session.statuses ++ status ∷ [] } in
    let now : last_of k.sid (grown ∷ before) ≡ session.statuses ++ status ∷ [] = last_is grown before k.sid last.0 in
    λ at id value got. elim (set_or ring slot at (Done (k.base + finished) status) (Done id value) got) [
      | inl is ↦
          let both = same_done id (k.base + finished) status value is in
          let place : id - k.base ≡ length session.statuses = omega (arith, both.0, last.1) in
          ap (λ (xs : List ℕ). slice_get xs (id - k.base)) now ∙ ap (λ (n : ℕ). slice_get (session.statuses ++ status ∷ []) n) place ∙ got_newest session.statuses status
          ∙ ap (λ (v : ℕ). Some v) (sym both.1)
      | inr was ↦
          let old : slice_get session.statuses (id - k.base) ≡ Some value =
          ap (λ (xs : List ℕ). slice_get xs (id - k.base)) (sym (last_is session before k.sid last.0)) ∙ keeps at id value was in
          ap (λ (xs : List ℕ). slice_get xs (id - k.base)) now ∙ got_grown session.statuses status (id - k.base) value old
    ]

last_grown : (opened : List Opened) (sid finished status : ℕ) → IsLastSession sid finished opened → IsLastSession sid (finished + 1) (finished_in status opened)
last_grown [] sid finished status last = absurd last
last_grown (session ∷ before) sid finished status last = (last.0, omega (arith, length-append session.statuses (status ∷ []), last.1))

pub record GivesStatus (ring : List SlotLog) (opened : List Opened) (k : ClientCounts) (finished : ℕ) : Type 0 where
  pub keeps : KeepsStatus ring opened k
  pub last : IsLastSession k.sid finished opened

pub gives_status : (ring : List SlotLog) (opened : List Opened) (k : ClientCounts) (finished slot status : ℕ) → GivesStatus ring opened k finished
    → GivesStatus (set ring slot (Done (k.base + finished) status)) (finished_in status opened) k (finished + 1)
gives_status ring opened k finished slot status now = search (finished_one, last_grown)

-- NO SLOT is DONE
abbrev pub NoneDone : List SlotLog → Type 0
NoneDone ring = (slot id status : ℕ) → slice_get ring slot ≡ Some (Done id status) → ⊥

pub cleared_none : (slots : ℕ) → NoneDone (replicate slots Free)
cleared_none zero slot id status got = absurd (cc got)
cleared_none (suc slots) zero id status got = absurd (cc got)
cleared_none (suc slots) (suc slot) id status got = cleared_none slots slot id status got

pub none_keeps : (ring : List SlotLog) (opened : List Opened) (o : Option ClientCounts) → NoneDone ring → IfClient o (KeepsStatus ring opened)
none_keeps ring opened None none = tt
none_keeps ring opened (Some k) none = λ slot id status got. absurd (none slot id status got)
