-- A packet that a client puts leaves its session counting what it said and heard.
use Rattle.std.proofs.Common.{◌≡◌, ℕ, ◌+◌, ◌-◌, ◌<◌, ◌≤◌, Bool, true, false, Option, Some, None, List, ◌∷◌, ◌++◌, length, refl, sym, ap, ◌∙◌, subst, arith}
use Rattle.std.specs.Prelude.{⊤}
use Rattle.std.proofs.lemmas.Nat.{mod_below}
use Rattle.ldc_link.specs.LinkState.{is_up}
use Rattle.ldc_link.specs.Putting.{behind_put}
use Rattle.ldc_packet.specs.declared.packet.Subtype.TheVariants.{Info}
use Rattle.ldc_queue.specs.Transcript.{Said, Utterance}
use Rattle.vio_tag.specs.Spelling.{canonical}
use Rattle.vio_handshake.specs.declared.handshake.Handshake.{Handshake}
use Rattle.lane_models.specs.Sayings.{half_said, said}
use Rattle.lane_laws.specs.Agreement.{ClientAgrees}
use Rattle.lane_models.specs.Messages.{range_ended, range_in}
use Rattle.lane_laws.specs.WorkLog.{ClientCounts, change_client, length_in, one_in, opened_client}
use Rattle.lane_models.specs.ClientPutting.{announcement, announced, is_announcing, session_behind}
use Rattle.lane_models.specs.ClientState.{ClientSession, ClientState, slot_in}
use Rattle.lane_models.specs.EndPuts.{ComesUp, EndsOwn, Goes, PutKind, handshake_behind}
use Rattle.lane_models.specs.LaneState.{Shape}
use Rattle.lane_models.specs.Ranges.{wrapped}
use Rattle.dring.specs.Slots.{range_length}
use Rattle.lane_models.proofs.Apart.{false_is_true, some_same}
use Rattle.lane_models.proofs.PutSayings.{SaysWhole, SaysOn}
use Rattle.lane_laws.proofs.RangeSums.{count_more, count_said, sum_more, sum_said}
use Rattle.lane_laws.proofs.RangeLaps.{range_turns}
use Rattle.lane_laws.proofs.RangesSaid.{said_one, said_range}
use Rattle.lane_laws.proofs.Sharing.{in_order}
use Rattle.lane_laws.specs.Counted.{ClientCounted, ClientHolds, acked_of, announced_of, infos_of, range_count, range_sum}
use Rattle.lane_laws.specs.LaneRests.{ClientRests, ClientUtters}
use Rattle.lane_laws.specs.Sound.{ClientSound, SessionInOrder}

-- THE LOG counts what is said
abbrev pub SameButSaid : Option ClientSession → Option ClientSession → Type 0
SameButSaid None None = ⊤
SameButSaid None (Some t) = ⊥
SameButSaid (Some s) None = ⊥
SameButSaid (Some s) (Some t) = (t.base ≡ s.base) × (t.published ≡ s.published) × (t.acked ≡ s.acked) × (t.completed ≡ s.completed)

pub same_said : (o : Option ClientSession) → SameButSaid o o
same_said None = tt
same_said (Some s) = (refl, refl, refl, refl)

-- a client after a packet of this kind, and its counts in the log
abbrev pub put_as : PutKind → ClientState → ClientState
put_as kind c = record c { link = behind_put c.link; handshake = handshake_behind kind c.handshake; session = session_behind kind c }

abbrev pub counts_as : Shape → Bool → List Utterance → List ℕ → ℕ → ℕ → Option ClientCounts → Option ClientCounts
counts_as shape opens turns packet sid done k = opened_client opens sid done
    (change_client (λ (x : ClientCounts). record x {
      announced = x.announced + length_in shape.slots (range_ended 1 (half_said turns) packet);
      infos = x.infos + one_in (range_ended 1 (half_said turns) packet);
    }) k)

-- what is said after it
pub record SaidOf (shape : Shape) (c : ClientState) (p : Option ClientSession) (turns : List Utterance) (packet : List ℕ) : Type 0 where
  pub same : SameButSaid c.session p
  pub announced : announced_of p ≡ range_sum shape.slots 1 (said (Said packet ∷ turns))
  pub infos : infos_of p ≡ range_count 1 (said (Said packet ∷ turns))

pub says_agrees : (shape : Shape) (c : ClientState) (p : Option ClientSession) (turns : List Utterance) (packet : List ℕ) (sid done : ℕ) (k : Option ClientCounts) → ClientCounted shape c turns done k
    → SaidOf shape c p turns packet → ClientAgrees p done (counts_as shape false turns packet sid done k)
says_agrees shape c p turns packet sid done k counted says = grind (arith, sum_said, count_said)

-- A PACKET THAT GOES ON
on_holds : (c : ClientState) (turns : List Utterance) (packet : List ℕ) → SaysOn c.link turns packet → ClientHolds c turns → ClientHolds (record c { link = behind_put c.link }) (Said packet ∷ turns)
on_holds c turns packet on holds = λ session is now. on.whole ∙ holds session is now

pub goes_counting : (shape : Shape) (c : ClientState) (turns : List Utterance) (packet : List ℕ) (sid done : ℕ) (k : Option ClientCounts) → SaysOn c.link turns packet → ClientCounted shape c turns done k
    → ClientCounted shape (put_as Goes c) (Said packet ∷ turns) done (counts_as shape false turns packet sid done k)
goes_counting shape c turns packet sid done k on counted =
    let announced : announced_of c.session ≡ range_sum shape.slots 1 (said (Said packet ∷ turns)) = counted.announced ∙ ap (range_sum shape.slots 1) (sym on.messages) in
    let infos : infos_of c.session ≡ range_count 1 (said (Said packet ∷ turns)) = counted.infos ∙ ap (range_count 1) (sym on.messages) in
    record {
      slots = counted.slots;
      holds = on_holds c turns packet on counted.holds;
      announced = announced;
      infos = infos;
      acked = counted.acked;
      agrees = says_agrees shape c c.session turns packet sid done k counted (record { same = same_said c.session; announced = announced; infos = infos });
    }

-- WITH RDX its link comes up, and held nothing
pub comes_counting : (shape : Shape) (c : ClientState) (turns : List Utterance) (packet : List ℕ) (sid done : ℕ) (k : Option ClientCounts) → ClientRests c turns → ClientUtters c turns → is_up c.link ≡ false
    → SaysOn c.link turns packet → ClientCounted shape c turns done k
    → ClientCounted shape (put_as ComesUp c) (Said packet ∷ turns) done (counts_as shape false turns packet sid done k)
comes_counting shape c turns packet sid done k rests utters down on counted = grind arith

-- THE LAST PART of its own INFO: all that is published is announced
pub record OwnInfo (c : ClientState) (bytes : List ℕ) : Type 0 where
  pub session : ClientSession
  pub is : c.session ≡ Some session
  pub announcing : session.announcing ≡ true
  pub bytes_are : bytes ≡ canonical (announcement c session)

pub own_info : (c : ClientState) (turns : List Utterance) (o : Option ClientSession) → c.session ≡ o → is_announcing o ≡ true → ClientHolds c turns → OwnInfo c (half_said turns ++ c.link.to_send)
own_info c turns None is own holds = absurd (cc)
own_info c turns (Some session) is own holds = record { session = session; is = is; announcing = own; bytes_are = holds session is own }

pub none_left : (c : ClientState) (turns : List Utterance) (packet : List ℕ) (handshake : Handshake) (session : Option ClientSession) → SaysWhole c.link turns packet
    → ((s : ClientSession) → session ≡ Some s → s.announcing ≡ true → ⊥)
    → ClientHolds (record c { link = behind_put c.link; handshake = handshake; session = session }) (Said packet ∷ turns)
none_left c turns packet handshake session last never = λ s is now. absurd (never s is now)

-- sums over what is announced, of numbers alone
announced_more : (announced published before now more long : ℕ) → announced ≡ before → announced < published → now ≡ more → more ≡ before + long → long ≡ published - announced → published ≡ now
announced_more announced published before now more long was some is adds length = omega arith

infos_more : (infos before now more one : ℕ) → infos ≡ before → now ≡ more → more ≡ before + one → one ≡ 1 → infos + 1 ≡ now
infos_more infos before now more one was is adds single = omega arith

pub own_counting : (shape : Shape) (c : ClientState) (turns : List Utterance) (packet : List ℕ) (sid done : ℕ) (k : Option ClientCounts) → ClientSound c → is_announcing c.session ≡ true
    → SaysWhole c.link turns packet → ClientCounted shape c turns done k
    → ClientCounted shape (put_as EndsOwn c) (Said packet ∷ turns) done (counts_as shape false turns packet sid done k)
own_counting shape c turns packet sid done k sound own last counted =
    let info = own_info c turns c.session refl own counted.holds in
    let s = info.session in
    let order : SessionInOrder (length c.pending) s = in_order (length c.pending) c.session s info.is sound.counts in
    let some : s.announced < s.published = order.own info.announcing in
    let most : s.published ≤ s.announced + c.slots = omega (arith, order.published, order.completed, order.acked, sound.pending) in
    let behind : Option ClientSession = Some (record s { announced = s.published; infos = s.infos + 1; announcing = false }) in
    let becomes : announced c.session ≡ behind = ap announced info.is in
    let bytes = half_said turns ++ c.link.to_send in
    let wide : 1 ≤ c.slots = omega (arith, some, most) in
    let small : c.slots ≤ 256 = sound.slots in
    let adds : length_in shape.slots (range_in 1 (Some bytes)) ≡ s.published - s.announced =
    ap (λ (xs : List ℕ). length_in shape.slots (range_in 1 (Some xs))) info.bytes_are
    ∙ said_range shape.slots 1 c.handshake.draft.sid Info (wrapped (s.infos + 1)) c.handshake.draft.ident_own (slot_in c s.announced) (slot_in c (s.published - 1)) 1 refl
    (omega (arith, mod_below s.announced c.slots wide, small)) (omega (arith, mod_below (s.published - 1) c.slots wide, small))
    ∙ ap (λ (n : ℕ). range_length n (slot_in c s.announced) (slot_in c (s.published - 1))) (sym counted.slots)
    ∙ range_turns c.slots s.announced s.published some most in
    let one : one_in (range_in 1 (Some bytes)) ≡ 1 =
    ap (λ (xs : List ℕ). one_in (range_in 1 (Some xs))) info.bytes_are
    ∙ said_one 1 c.handshake.draft.sid Info (wrapped (s.infos + 1)) c.handshake.draft.ident_own (slot_in c s.announced) (slot_in c (s.published - 1)) 1 refl in
    let before : s.announced ≡ range_sum shape.slots 1 (said turns) = ap announced_of (sym info.is) ∙ counted.announced in
    let before_infos : s.infos ≡ range_count 1 (said turns) = ap infos_of (sym info.is) ∙ counted.infos in
    let announced_is : s.published ≡ range_sum shape.slots 1 (said (Said packet ∷ turns)) =
    announced_more s.announced s.published _ _ _ _ before some (ap (range_sum shape.slots 1) last.messages) (sum_more shape.slots 1 (said turns) bytes) adds in
    let infos_are : s.infos + 1 ≡ range_count 1 (said (Said packet ∷ turns)) =
    infos_more s.infos _ _ _ _ before_infos (ap (range_count 1) last.messages) (count_more 1 (said turns) bytes) one in
    let same : SameButSaid c.session behind = subst (λ (o : Option ClientSession). SameButSaid o behind) (sym info.is) (refl, refl, refl, refl) in
    subst (λ (o : Option ClientSession). ClientCounted shape (record c { link = behind_put c.link; session = o }) (Said packet ∷ turns) done (counts_as shape false turns packet sid done k)) (sym becomes)
    (record {
      slots = counted.slots;
      holds = none_left c turns packet c.handshake behind last (λ x is now.
          let here : record s { announced = s.published; infos = s.infos + 1; announcing = false } ≡ x = some_same is in
          false_is_true (ap (λ (y : ClientSession). y.announcing) here ∙ now));
      announced = announced_is;
      infos = infos_are;
      acked = ap acked_of (sym info.is) ∙ counted.acked;
      agrees = says_agrees shape c behind turns packet sid done k counted (record { same = same; announced = announced_is; infos = infos_are });
    })
