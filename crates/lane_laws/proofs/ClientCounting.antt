-- Each step of a client leaves its session counting what it said and heard.
use Rattle.std.proofs.Common.{◌≡◌, ℕ, ◌+◌, inl, inr, Option, Some, None, List, [], ◌∷◌, ◌++◌, refl, sym, ap, ◌∙◌, subst, arith}
use Rattle.std.specs.Prelude.{is_some, ⊤}
use Rattle.ldc_packet.specs.Spelling.{subtype_code}
use Rattle.ldc_queue.specs.Transcript.{Heard as Heard_, Utterance}
use Rattle.vio_tag.specs.Spelling.{canonical}
use Rattle.vio_handshake.specs.declared.handshake.Handshake.{Handshake}
use Rattle.vio_handshake.specs.declared.session.Session.{Session}
use Rattle.lane_models.specs.Sayings.{half_heard, half_said, heard}
use Rattle.lane_laws.specs.Agreement.{ClientAgrees}
use Rattle.lane_models.specs.Messages.{range_ended, range_in}
use Rattle.lane_laws.specs.WorkLog.{ClientCounts, change_client, length_in}
use Rattle.lane_models.specs.ClientPutting.{announcement}
use Rattle.lane_models.specs.ClientState.{ClientSession, ClientState, joined_client}
use Rattle.lane_models.specs.ClientTaking.{acknowledged}
use Rattle.lane_models.specs.LaneState.{Shape}
use Rattle.dring.specs.Slots.{range_length}
use Rattle.lane_laws.proofs.ClientTaken.{ClientAcked, ClientHearsPart, ClientHandshakes, ClientTook}
use Rattle.lane_models.proofs.Apart.{some_same}
use Rattle.lane_models.proofs.EndStanding.{open_declines}
use Rattle.lane_laws.proofs.RangeSums.{sum_heard, sum_more}
use Rattle.lane_laws.proofs.RangesSaid.{IsNoData, heard_no_range, heard_range, no_data}
use Rattle.lane_laws.specs.Counted.{ClientCounted, acked_of, announced_of, infos_of, range_sum}
use Rattle.lane_laws.specs.LaneRests.{ClientRests}

-- IT BEGINS
pub client_begins_counting : (shape : Shape) (c : ClientState) (turns : List Utterance) (done : ℕ) (k : Option ClientCounts) → ClientCounted shape c turns done k
    → ClientCounted shape (joined_client c) [] done None
client_begins_counting shape c turns done k counted = grind arith

-- THE LOG counts what is heard
abbrev SameButAcked : Option ClientSession → Option ClientSession → Type 0
SameButAcked None None = ⊤
SameButAcked None (Some t) = ⊥
SameButAcked (Some s) None = ⊥
SameButAcked (Some s) (Some t) =
    (t.base ≡ s.base) × (t.published ≡ s.published) × (t.announced ≡ s.announced) × (t.infos ≡ s.infos) × (t.completed ≡ s.completed)

same_acked : (o : Option ClientSession) → SameButAcked o o
same_acked None = tt
same_acked (Some s) = (refl, refl, refl, refl, refl)

-- what is heard after one more packet
record HeardOf (shape : Shape) (c t : ClientState) (turns : List Utterance) (packet : List ℕ) : Type 0 where
  same : SameButAcked c.session t.session
  acked : acked_of t.session ≡ range_sum shape.slots 2 (heard (Heard_ packet ∷ turns))

hears_agrees : (shape : Shape) (c t : ClientState) (turns : List Utterance) (packet : List ℕ) (done : ℕ) (k : Option ClientCounts) → ClientCounted shape c turns done k → HeardOf shape c t turns packet
    → ClientAgrees t.session done (change_client (λ (x : ClientCounts). record x { acked = x.acked + length_in shape.slots (range_ended 2 (half_heard turns) packet) }) k)
hears_agrees shape c t turns packet done k counted heard_of = grind (arith, sum_heard)

abbrev pub acks_more : Shape → List Utterance → List ℕ → Option ClientCounts → Option ClientCounts
acks_more shape turns packet k = change_client (λ (x : ClientCounts). record x { acked = x.acked + length_in shape.slots (range_ended 2 (half_heard turns) packet) }) k

abbrev Behind : Shape → List Utterance → List ℕ → ℕ → Option ClientCounts → ClientState → Type 0
Behind shape turns packet done k t =
    ClientCounted shape t (Heard_ packet ∷ turns) done (change_client (λ (x : ClientCounts). record x { acked = x.acked + length_in shape.slots (range_ended 2 (half_heard turns) packet) }) k)

-- IT TAKES a packet: a part of a message
takes_part : (shape : Shape) (c t : ClientState) (turns : List Utterance) (packet : List ℕ) (done : ℕ) (k : Option ClientCounts) → ClientCounted shape c turns done k
    → ClientHearsPart c turns packet t → Behind shape turns packet done k t
takes_part shape c t turns packet done k counted part =
    let acked : acked_of c.session ≡ range_sum shape.slots 2 (heard (Heard_ packet ∷ turns)) = counted.acked ∙ ap (range_sum shape.slots 2) (sym part.messages) in
    subst (Behind shape turns packet done k) (sym part.is) (record {
      slots = counted.slots;
      holds = λ session is on. ap (λ (xs : List ℕ). half_said turns ++ xs) part.left ∙ counted.holds session is on;
      announced = counted.announced;
      infos = counted.infos;
      acked = acked;
      agrees = hears_agrees shape c (record c { link = part.link }) turns packet done k counted (record { same = same_acked c.session; acked = acked });
    })

-- a message of the handshake
takes_handshake : (shape : Shape) (c t : ClientState) (turns : List Utterance) (packet : List ℕ) (done : ℕ) (k : Option ClientCounts) → ClientRests c turns → c.handshake.owed ≡ None
    → ClientCounted shape c turns done k → ClientHandshakes c turns packet t → Behind shape turns packet done k t
takes_handshake shape c t turns packet done k rests none counted handshakes =
    let bytes = handshakes.hears.bytes in
    let apart : IsNoData handshakes.message.body = no_data c.handshake handshakes.handshake handshakes.message handshakes.opens handshakes.took in
    let acked : acked_of c.session ≡ range_sum shape.slots 2 (heard (Heard_ packet ∷ turns)) =
    omega (
      arith,
      counted.acked,
      ap (range_sum shape.slots 2) handshakes.hears.messages,
      sum_more shape.slots 2 (heard turns) bytes,
      ap (length_in shape.slots) (heard_no_range 2 bytes handshakes.message handshakes.hears.spells handshakes.hears.form apart),
    ) in
    subst (Behind shape turns packet done k) (sym handshakes.is) (record {
      slots = counted.slots;
      holds = λ session is on.
          let draft : handshakes.handshake.draft ≡ c.handshake.draft = ap (λ (h : Handshake). h.draft)
          (open_declines c.handshake handshakes.handshake handshakes.message handshakes.opens (rests.opened (ap is_some is)) handshakes.took.row).0 in
          ap (λ (xs : List ℕ). half_said turns ++ xs) handshakes.left ∙ counted.holds session is on
          ∙ ap (λ (d : Session). canonical (announcement (record c { handshake = record c.handshake { draft = d } }) session)) (sym draft);
      announced = counted.announced;
      infos = counted.infos;
      acked = acked;
      agrees = hears_agrees shape c (record c { link = handshakes.link; handshake = handshakes.handshake }) turns packet done k counted (record { same = same_acked c.session; acked = acked });
    })

-- an acknowledgement
acked_session : (o : Option ClientSession) (session : ClientSession) (n : ℕ) → o ≡ Some session → SameButAcked o (Some (record session { acked = session.acked + n }))
acked_session o session n is = subst (λ (x : Option ClientSession). SameButAcked x (Some (record session { acked = session.acked + n }))) (sym is) (refl, refl, refl, refl, refl)

acked_more : (acked before now more length n : ℕ) → acked ≡ before → now ≡ more → more ≡ before + length → length ≡ n → acked + n ≡ now
acked_more acked before now more length n was is adds long = omega arith

takes_ack : (shape : Shape) (c t : ClientState) (turns : List Utterance) (packet : List ℕ) (done : ℕ) (k : Option ClientCounts) → ClientCounted shape c turns done k
    → ClientAcked c turns packet t → Behind shape turns packet done k t
takes_ack shape c t turns packet done k counted acks =
    let bytes = acks.hears.bytes in
    let n = range_length c.slots acks.ack.start acks.ack.end in
    let session = acks.ack.session in
    let before : session.acked ≡ range_sum shape.slots 2 (heard turns) = ap acked_of (sym acks.ack.session_is) ∙ counted.acked in
    let adds : length_in shape.slots (range_in 2 (Some bytes)) ≡ n =
    heard_range shape.slots 2 bytes acks.message acks.ack.seq acks.ack.ident acks.ack.start acks.ack.end acks.ack.state acks.hears.spells (ap subtype_code acks.ack.subtype_is) acks.ack.body_is
    ∙ ap (λ (x : ℕ). range_length x acks.ack.start acks.ack.end) (sym counted.slots) in
    let acked : session.acked + n ≡ range_sum shape.slots 2 (heard (Heard_ packet ∷ turns)) =
    acked_more _ _ _ _ _ n before (ap (range_sum shape.slots 2) acks.hears.messages) (sum_more shape.slots 2 (heard turns) bytes) adds in
    subst (Behind shape turns packet done k) (sym acks.is) (record {
      slots = counted.slots;
      holds = λ other is on.
          let same : record session { acked = session.acked + n } ≡ other = some_same is in
          ap (λ (xs : List ℕ). half_said turns ++ xs) acks.left
          ∙ counted.holds session acks.ack.session_is (ap (λ (x : ClientSession). x.announcing) same ∙ on)
          ∙ ap (λ (x : ClientSession). canonical (announcement c x)) same;
      announced = ap announced_of (sym acks.ack.session_is) ∙ counted.announced;
      infos = ap infos_of (sym acks.ack.session_is) ∙ counted.infos;
      acked = acked;
      agrees = hears_agrees shape c (acknowledged (record c { link = acks.link }) session n) turns packet done k counted
          (record { same = acked_session c.session session n acks.ack.session_is; acked = acked });
    })

pub client_takes_counting : (shape : Shape) (c t : ClientState) (turns : List Utterance) (packet : List ℕ) (done : ℕ) (k : Option ClientCounts) → ClientRests c turns → c.handshake.owed ≡ None
    → ClientCounted shape c turns done k → ClientTook c turns packet t → Behind shape turns packet done k t
client_takes_counting shape c t turns packet done k rests none counted (inl part) = takes_part shape c t turns packet done k counted part
client_takes_counting shape c t turns packet done k rests none counted (inr (inl handshakes)) = takes_handshake shape c t turns packet done k rests none counted handshakes
client_takes_counting shape c t turns packet done k rests none counted (inr (inr acks)) = takes_ack shape c t turns packet done k counted acks
