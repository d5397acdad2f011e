-- A message that a client holds, one of its handshake that it puts whole, and its work on requests leave its session counting what it said and
-- heard.
use Rattle.std.proofs.Common.{◌≡◌, ℕ, ◌+◌, inl, Bool, true, false, Option, Some, None, List, [], ◌∷◌, ◌++◌, length, refl, sym, ap, ◌∙◌, subst, arith}
use Rattle.std.specs.Prelude.{is_some}
use Rattle.ldc_link.specs.declared.phase.Role.{Role}
use Rattle.ldc_link.specs.declared.phase.Role.TheVariants.{Initiator}
use Rattle.ldc_link.specs.LinkState.{is_up}
use Rattle.ldc_link.specs.Putting.{behind_put, owes}
use Rattle.ldc_queue.specs.Transcript.{Said, Utterance}
use Rattle.vio_tag.specs.declared.message.Message.{Message}
use Rattle.vio_tag.specs.Spelling.{canonical}
use Rattle.vio_handshake.specs.declared.handshake.Phase.{Phase}
use Rattle.vio_handshake.specs.declared.handshake.Phase.TheVariants.{Open, PeerReadyTaken}
use Rattle.vio_handshake.specs.Rules.{opens_by_put, handshake_sent}
use Rattle.lane_models.specs.Sayings.{half_said, said}
use Rattle.lane_models.proofs.MessagesHeld.{owed_held}
use Rattle.lane_laws.specs.Agreement.{ClientAgrees}
use Rattle.lane_models.specs.Messages.{range_in}
use Rattle.lane_laws.specs.WorkLog.{ClientCounts, change_client}
use Rattle.lane_models.specs.ClientPutting.{announcement, announcing, client_holds, holding, is_announcing, opened_if}
use Rattle.lane_models.specs.ClientRule.{Announces, ClientRule, Publishes, Puts, Says}
use Rattle.lane_models.specs.ClientState.{ClientSession, ClientState, first_id, opened_session}
use Rattle.lane_models.specs.ClientStep.{ClientAdmits, ClientCompletes, ClientPublishes}
use Rattle.lane_models.specs.DiskEvent.{Admitted}
use Rattle.lane_models.specs.LaneState.{Shape}
use Rattle.lane_models.specs.Seeing.{Seen}
use Rattle.lane_laws.proofs.ClientPutCounting.{counts_as, none_left, put_as, same_said, says_agrees}
use Rattle.lane_models.proofs.Apart.{false_is_true, none_is_some, some_same}
use Rattle.lane_models.proofs.PutSayings.{SaysWhole}
use Rattle.lane_models.proofs.EndStanding.{open_up, up_empty}
use Rattle.lane_laws.proofs.RangeSums.{count_more, sum_more}
use Rattle.lane_laws.proofs.RangesSaid.{owed_no_range}
use Rattle.lane_laws.proofs.RulesFree.{publishes_free}
use Rattle.lane_laws.proofs.Ruling.{client_may}
use Rattle.lane_laws.specs.Counted.{ClientCounted, acked_of, announced_of, infos_of, range_count, range_sum}
use Rattle.lane_laws.specs.LaneRests.{ClientRests, ClientUtters}
use Rattle.lane_laws.specs.RuleFacts.{ClientMay}
use Rattle.lane_models.specs.HandshakeFits.{MayOwe, OwedFits}
use Rattle.lane_laws.specs.Sound.{ClientSound}
use Rattle.lane_laws.specs.ChannelEnds.{client_core}
use Rattle.lane_models.specs.EndPuts.{EndsHandshake, put_opens}

-- A MESSAGE OF THE HANDSHAKE is put whole: by the agreement to RDX the session opens
pub opens_phase : (role : Role) (phase : Phase) → opens_by_put role phase ≡ true → phase ≡ PeerReadyTaken
opens_phase role phase is = grind arith

closed : (o : Option ClientSession) (phase : Phase) → (is_some o ≡ true → phase ≡ Open) → phase ≡ PeerReadyTaken → o ≡ None
closed None phase opened is = refl
closed (Some session) phase opened is = let never : PeerReadyTaken ≡ Open = sym is ∙ opened refl in absurd (cc)

-- the message that was owed: it names no range
record PutsOwed (c : ClientState) (bytes : List ℕ) : Type 0 where
  message : Message
  bytes_are : bytes ≡ canonical message
  may : MayOwe c.handshake.phase message.subtype message.body
  none : range_in 1 (Some bytes) ≡ None

puts_owed : (shape : Shape) (c : ClientState) (turns : List Utterance) (packet : List ℕ) (done : ℕ) (k : Option ClientCounts) → ClientRests c turns → is_announcing c.session ≡ false → SaysWhole c.link turns packet
    → ClientCounted shape c turns done k → PutsOwed c (half_said turns ++ c.link.to_send)
puts_owed shape c turns packet done k rests own last counted =
    let holds = owed_held Initiator (client_core c) turns rests.stands own last.some in
    let may : MayOwe c.handshake.phase holds.message.subtype holds.message.body = subst (OwedFits c.handshake.phase) holds.owed rests.fits.owed in
    record {
      message = holds.message;
      bytes_are = holds.is;
      may = may;
      none = ap (λ (xs : List ℕ). range_in 1 (Some xs)) holds.is ∙ owed_no_range c.handshake.phase 1 holds.message (inl refl) may;
    }

record SumsSame (shape : Shape) (turns : List Utterance) (packet : List ℕ) : Type 0 where
  ranges : range_sum shape.slots 1 (said (Said packet ∷ turns)) ≡ range_sum shape.slots 1 (said turns)
  infos : range_count 1 (said (Said packet ∷ turns)) ≡ range_count 1 (said turns)

sums_same : (shape : Shape) (c : ClientState) (turns : List Utterance) (packet : List ℕ) → SaysWhole c.link turns packet → PutsOwed c (half_said turns ++ c.link.to_send) → SumsSame shape turns packet
sums_same shape c turns packet last owed = grind (arith, sum_more, count_more)

pub none_more : (n : ℕ) → n ≡ n + 0
none_more n = omega arith

handshake_as : (opens : Bool) (shape : Shape) (c : ClientState) (turns : List Utterance) (packet : List ℕ) (sid done : ℕ) (k : Option ClientCounts) → opens_by_put c.handshake.role c.handshake.phase ≡ opens
    → ClientRests c turns → first_id c ≡ done → is_announcing c.session ≡ false → SaysWhole c.link turns packet → ClientCounted shape c turns done k
    → ClientCounted shape (record c { link = behind_put c.link; handshake = handshake_sent c.handshake; session = opened_if opens c }) (Said packet ∷ turns) done (counts_as shape opens turns packet sid done k)
handshake_as true shape c turns packet sid done k is rests first own last counted =
    let none : c.session ≡ None = closed c.session c.handshake.phase rests.opened (opens_phase c.handshake.role c.handshake.phase is) in
    let same = sums_same shape c turns packet last (puts_owed shape c turns packet done k rests own last counted) in
    record {
      slots = counted.slots;
      holds = none_left c turns packet (handshake_sent c.handshake) (Some (opened_session (first_id c))) last (λ s now announces.
          let here : opened_session (first_id c) ≡ s = some_same now in
          false_is_true (ap (λ (x : ClientSession). x.announcing) here ∙ announces));
      announced = sym (ap announced_of none) ∙ counted.announced ∙ sym same.ranges;
      infos = sym (ap infos_of none) ∙ counted.infos ∙ sym same.infos;
      acked = sym (ap acked_of none) ∙ counted.acked;
      agrees = record { base = first; published = refl; announced = refl; infos = refl; acked = refl; completed = none_more done };
    }
handshake_as false shape c turns packet sid done k is rests first own last counted =
    let owed = puts_owed shape c turns packet done k rests own last counted in
    let same = sums_same shape c turns packet last owed in
    let announced : announced_of c.session ≡ range_sum shape.slots 1 (said (Said packet ∷ turns)) = counted.announced ∙ sym same.ranges in
    let infos : infos_of c.session ≡ range_count 1 (said (Said packet ∷ turns)) = counted.infos ∙ sym same.infos in
    record {
      slots = counted.slots;
      holds = none_left c turns packet (handshake_sent c.handshake) c.session last (λ s now announces.
          false_is_true (sym own ∙ ap is_announcing now ∙ announces));
      announced = announced;
      infos = infos;
      acked = counted.acked;
      agrees = says_agrees shape c c.session turns packet sid done k counted (record { same = same_said c.session; announced = announced; infos = infos });
    }

pub handshake_counting : (shape : Shape) (c : ClientState) (turns : List Utterance) (packet : List ℕ) (sid done : ℕ) (k : Option ClientCounts) → ClientRests c turns → first_id c ≡ done
    → is_announcing c.session ≡ false → SaysWhole c.link turns packet → ClientCounted shape c turns done k
    → ClientCounted shape (put_as EndsHandshake c) (Said packet ∷ turns) done (counts_as shape (put_opens EndsHandshake c.handshake) turns packet sid done k)
handshake_counting shape c turns packet sid done k rests first own last counted =
    handshake_as (opens_by_put c.handshake.role c.handshake.phase) shape c turns packet sid done k refl rests first own last counted

-- IT HOLDS a message
record Known (c : ClientState) (turns : List Utterance) : Type 0 where
  sound : ClientSound c
  rests : ClientRests c turns
  utters : ClientUtters c turns

-- a link that holds nothing holds no INFO
no_own : (c : ClientState) (session : ClientSession) → ClientSound c → c.link.to_send ≡ [] → c.session ≡ Some session → session.announcing ≡ true → ⊥
no_own c session sound empty is announces = absurd (omega (arith, sound.own (ap is_announcing is ∙ announces), ap length empty))

says_counting : (shape : Shape) (c : ClientState) (turns : List Utterance) (message : Message) (done : ℕ) (k : Option ClientCounts) → Known c turns → owes c.link ≡ false → c.handshake.owed ≡ Some message
    → ClientCounted shape c turns done k → ClientCounted shape (holding message c) turns done k
says_counting shape c turns message done k known free owed counted = grind arith

announces_counting : (shape : Shape) (c : ClientState) (turns : List Utterance) (session : ClientSession) (done : ℕ) (k : Option ClientCounts) → Known c turns → owes c.link ≡ false
    → c.session ≡ Some session → ClientCounted shape c turns done k → ClientCounted shape (announcing session (holding (announcement c session) c)) turns done k
announces_counting shape c turns session done k known free is counted = grind arith

held_is : (shape : Shape) (one other : ClientState) (turns : List Utterance) (done : ℕ) (k : Option ClientCounts) → Some one ≡ Some other → ClientCounted shape one turns done k
    → ClientCounted shape other turns done k
held_is shape one other turns done k is counted = let same : one ≡ other = some_same is in subst (λ (x : ClientState). ClientCounted shape x turns done k) same counted

pub client_holds_counting : (shape : Shape) (c : ClientState) (at : Seen) (rule : ClientRule) (held : ClientState) (turns : List Utterance) (done : ℕ) (k : Option ClientCounts) → ClientSound c
    → ClientRests c turns → ClientUtters c turns → ClientMay c at rule → client_holds rule c ≡ Some held → ClientCounted shape c turns done k → ClientCounted shape held turns done k
client_holds_counting shape c at Puts held turns done k sound rests utters may is counted = held_is shape c held turns done k is counted
client_holds_counting shape c at (Says message) held turns done k sound rests utters may is counted =
    held_is shape (holding message c) held turns done k is
    (says_counting shape c turns message done k (record { sound = sound; rests = rests; utters = utters }) may.1 may.2 counted)
client_holds_counting shape c at (Announces session) held turns done k sound rests utters may is counted =
    held_is shape (announcing session (holding (announcement c session) c)) held turns done k is
    (announces_counting shape c turns session done k (record { sound = sound; rests = rests; utters = utters }) may.1 may.3 counted)
client_holds_counting shape c at _ held turns done k sound rests utters may is counted = none_is_some is

-- ITS WORK: it publishes a request
published_agrees : (o : Option ClientSession) (session : ClientSession) (done : ℕ) (k : Option ClientCounts) → o ≡ Some session → ClientAgrees o done k
    → ClientAgrees (Some (record session { published = session.published + 1 })) done (change_client (λ (c : ClientCounts). record c { published = c.published + 1 }) k)
published_agrees o session done k is agrees = grind arith

pub client_publishes_counting : (shape : Shape) (c : ClientState) (at : Seen) (memory : List ℕ) (id : ℕ) (t : ClientState) (new : List ℕ) (turns : List Utterance) (done : ℕ) (k : Option ClientCounts)
    → ClientSound c → ClientRests c turns → ClientPublishes c at memory id t new → ClientCounted shape c turns done k
    → ClientCounted shape t turns done (change_client (λ (x : ClientCounts). record x { published = x.published + 1 }) k)
client_publishes_counting shape c at memory id t new turns done k sound rests step counted =
    let may : ClientMay c at (Publishes step.session step.request) = subst (ClientMay c at) step.rule (client_may c at) in
    let up : is_up c.link ≡ true = open_up Initiator (client_core c) turns rests.stands (ap is_some may.1) in
    let empty : c.link.to_send ≡ [] = up_empty c.link up (publishes_free c at step.session step.request step.rule) in
    subst (λ (x : ClientState). ClientCounted shape x turns done (change_client (λ (y : ClientCounts). record y { published = y.published + 1 }) k)) (sym step.is) (record {
      slots = counted.slots;
      holds = λ other now announces.
          let same : record step.session { published = step.session.published + 1 } ≡ other = cc in
          absurd (no_own c step.session sound empty may.1 (ap (λ (x : ClientSession). x.announcing) same ∙ announces));
      announced = ap announced_of (sym may.1) ∙ counted.announced;
      infos = ap infos_of (sym may.1) ∙ counted.infos;
      acked = ap acked_of (sym may.1) ∙ counted.acked;
      agrees = published_agrees c.session step.session done k may.1 counted.agrees;
    })

-- it completes one
pub client_completes_counting : (shape : Shape) (c : ClientState) (at : Seen) (memory : List ℕ) (id operation status : ℕ) (bytes : List ℕ) (t : ClientState) (new : List ℕ) (turns : List Utterance)
    (done : ℕ) (k : Option ClientCounts) → ClientCompletes c at memory id operation status bytes t new → ClientCounted shape c turns done k → ClientCounted shape t turns (done + 1) k
client_completes_counting shape c at memory id operation status bytes t new turns done k step counted = grind (arith, client_may)

-- and what is asked of it
pub client_admits_counting : (shape : Shape) (c : ClientState) (event : Admitted) (t : ClientState) (turns : List Utterance) (done : ℕ) (k : Option ClientCounts) → ClientAdmits c event t
    → ClientCounted shape c turns done k → ClientCounted shape t turns done k
client_admits_counting shape c event t turns done k admits counted = grind arith
