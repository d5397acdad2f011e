-- What is on the way between both ends of a port in session fits, and of groups there is one thing under way while the guest waits for it.
use Rattle.std.proofs.Common.{◌≡◌, ℕ, ◌+◌, ◌≤◌, Bool, true, false, Option, Some, None, List, [], ◌∷◌, ◌++◌, length, sym, subst, ap, ◌∙◌, arith, length-append}
use Rattle.std.specs.Prelude.{is_some, ⊤, take}
use Rattle.std.specs.List.{flat_map}
use Rattle.std.proofs.lemmas.Bool.{eq-eqb}
use Rattle.std.proofs.lemmas.List.{length-take, take-append-le}
use Rattle.ldc_link.specs.declared.phase.Role.TheVariants.{Initiator, Responder}
use Rattle.ldc_packet.specs.declared.packet.Subtype.TheVariants.{Ack}
use Rattle.vio_tag.specs.Spelling.{envelope_at}
use Rattle.lane_models.proofs.Refuting.{true_false}
use Rattle.lane_models.specs.NetEndState.{GroupsReply, NetSession}
use Rattle.lane_models.specs.Spoken.{addresses_of}
use Rattle.port_laws.specs.NetCore.{one_if}
use Rattle.port_laws.proofs.Outbox.{EachFits, EachTells, MessageFits, SaysGroups, SaysRange, TellsSome, count-append, count_groups, fits_more, is_groups, none_tells, tells_more}
use Rattle.port_laws.proofs.EndMoves.{one_most}

-- an answer that the switch's end owes agrees, and has the addresses of a message
pub record ReplyAgrees (r : GroupsReply) : Type 0 where
  pub subtype : r.subtype ≡ Ack
  pub long : length (flat_map (λ (address : List ℕ). address) r.addresses) ≡ 42

abbrev pub RepliesAgree : Option GroupsReply → Type 0
RepliesAgree None = ⊤
RepliesAgree (Some r) = ReplyAgrees r

abbrev pub reply_in : Option NetSession → Option GroupsReply
reply_in None = None
reply_in (Some q) = q.reply

abbrev pub owed_replies : Option NetSession → ℕ
owed_replies session = one_if (is_some (reply_in session))

-- the first message of groups that is under way names all, and where none is under way all are known
abbrev pub ToldBy : Bool → List ℕ → List (List ℕ) → Type 0 → Type 0
ToldBy true m groups Rest = addresses_of m ≡ groups
ToldBy false m groups Rest = Rest

abbrev pub AllTold : List (List ℕ) → List (List ℕ) → List (List ℕ) → Type 0
AllTold groups known [] = known ≡ groups
AllTold groups known (m ∷ asks) = ToldBy (is_groups m) m groups (AllTold groups known asks)

told_by : (b : Bool) (m : List ℕ) (groups : List (List ℕ)) (P Q : Type 0) → (P → Q) → ToldBy b m groups P → ToldBy b m groups Q
told_by b m groups P Q means told = grind arith

told_past : (m : List ℕ) (groups : List (List ℕ)) (Rest : Type 0) → is_groups m ≡ false → Rest → ToldBy (is_groups m) m groups Rest
told_past m groups Rest not_ rest = subst (λ (b : Bool). ToldBy b m groups Rest) (sym not_) rest

one_none : (b : Bool) (n : ℕ) → one_if b + n ≡ 0 → b ≡ false
one_none b n is = grind arith

told_more : (groups known asks : List (List ℕ)) (m : List ℕ) → is_groups m ≡ false → AllTold groups known asks → AllTold groups known (asks ++ m ∷ [])
told_more groups known [] m not_ told = told_past m groups (known ≡ groups) not_ told
told_more groups known (x ∷ asks) m not_ told =
    told_by (is_groups x) x groups (AllTold groups known asks) (AllTold groups known (asks ++ m ∷ [])) (told_more groups known asks m not_) told

told_last : (groups known asks : List (List ℕ)) (m : List ℕ) → is_groups m ≡ true → addresses_of m ≡ groups → count_groups asks ≡ 0 → AllTold groups known (asks ++ m ∷ [])
told_last groups known [] m is all none = subst (λ (b : Bool). ToldBy b m groups (known ≡ groups)) (sym is) all
told_last groups known (x ∷ asks) m is all none =
    told_past x groups (AllTold groups known (asks ++ m ∷ [])) (one_none (is_groups x) (count_groups asks) none)
    (told_last groups known asks m is all (omega (arith, none)))

none_told : (groups known asks : List (List ℕ)) → count_groups asks ≡ 0 → known ≡ groups → AllTold groups known asks
none_told groups known [] none all = all
none_told groups known (x ∷ asks) none all =
    told_past x groups (AllTold groups known asks) (one_none (is_groups x) (count_groups asks) none) (none_told groups known asks (omega (arith, none)) all)

-- BOTH ENDS: the guest in this session with its groups, what it asks and what is answered, and the switch's end
pub record ExchangeIn (sid : ℕ) (groups : List (List ℕ)) (p : NetSession) (asks answers : List (List ℕ)) (session : Option NetSession) (known : List (List ℕ)) : Type 0 where
  pub asks_fit : EachFits Initiator sid asks
  pub answers_fit : EachFits Responder sid answers
  pub counted : count_groups asks + owed_replies session + count_groups answers ≡ one_if p.telling
  pub tells : EachTells groups (length known) asks
  pub front : known ≡ take (length known) groups
  pub reply : RepliesAgree (reply_in session)
  pub quiet : p.reply ≡ None
  pub latest : p.untold ≡ false → AllTold groups known asks

known_few : (groups known : List (List ℕ)) → known ≡ take (length known) groups → length known ≤ length groups
known_few groups known front = grind (arith, length-take)

-- THE GUEST says a range
pub guest_ranges : (sid : ℕ) (groups : List (List ℕ)) (p q : NetSession) (asks answers : List (List ℕ)) (session : Option NetSession) (known : List (List ℕ)) (m : List ℕ)
    → SaysRange Initiator sid m → q.telling ≡ p.telling → q.reply ≡ p.reply → q.untold ≡ p.untold → ExchangeIn sid groups p asks answers session known → ExchangeIn sid groups q (asks ++ m ∷ []) answers session known
guest_ranges sid groups p q asks answers session known m says telling reply untold exchange =
    let counted = exchange.counted in
    let none = says.none in
    record {
      asks_fit = fits_more Initiator sid asks (m ∷ []) exchange.asks_fit (says.fits, tt);
      answers_fit = exchange.answers_fit;
      counted = omega (arith, counted, none, count-append asks (m ∷ []), ap one_if telling);
      tells = tells_more groups (length known) asks (m ∷ []) exchange.tells (none_tells groups (length known) (m ∷ []) none);
      front = exchange.front;
      reply = exchange.reply;
      quiet = reply ∙ exchange.quiet;
      latest = λ is. told_more groups known asks m (one_none (is_groups m) 0 none) (exchange.latest (sym untold ∙ is));
    }

one_some : (b : Bool) → one_if b + 0 ≡ 1 → b ≡ true
one_some b is = grind arith

-- it tells its groups
pub guest_tells : (sid : ℕ) (groups : List (List ℕ)) (p q : NetSession) (asks answers : List (List ℕ)) (session : Option NetSession) (known : List (List ℕ)) (m : List ℕ)
    → SaysGroups Initiator sid m → ((known_of : ℕ) → known_of ≤ length groups → TellsSome groups known_of m) → addresses_of m ≡ groups → p.telling ≡ false → q.telling ≡ true → q.reply ≡ p.reply
    → ExchangeIn sid groups p asks answers session known → ExchangeIn sid groups q (asks ++ m ∷ []) answers session known
guest_tells sid groups p q asks answers session known m says tells all before now reply exchange =
    let counted = exchange.counted in
    let one = says.one in
    record {
      asks_fit = fits_more Initiator sid asks (m ∷ []) exchange.asks_fit (says.fits, tt);
      answers_fit = exchange.answers_fit;
      counted = omega (arith, counted, one, count-append asks (m ∷ []), ap one_if before, ap one_if now);
      tells = tells_more groups (length known) asks (m ∷ []) exchange.tells ((λ is. tells (length known) (known_few groups known exchange.front)), tt);
      front = exchange.front;
      reply = exchange.reply;
      quiet = reply ∙ exchange.quiet;
      latest = λ is. told_last groups known asks m (one_some (is_groups m) one) all (omega (arith, counted, ap one_if before));
    }

-- it hears what comes first
told_now : (b was now : Bool) (rest : ℕ) → rest + one_if b ≡ one_if was → (b ≡ true → now ≡ false) → (b ≡ false → now ≡ was) → rest ≡ one_if now
told_now b was now rest is told same = grind (arith, one_most)

pub guest_hears : (sid : ℕ) (groups : List (List ℕ)) (p q : NetSession) (asks answers : List (List ℕ)) (session : Option NetSession) (known : List (List ℕ)) (m : List ℕ)
    → (is_groups m ≡ true → q.telling ≡ false) → (is_groups m ≡ false → q.telling ≡ p.telling) → q.reply ≡ p.reply → q.untold ≡ p.untold → ExchangeIn sid groups p asks (m ∷ answers) session known
    → ExchangeIn sid groups q asks answers session known
guest_hears sid groups p q asks answers session known m told same reply untold exchange =
    let counted = exchange.counted in
    record {
      asks_fit = exchange.asks_fit;
      answers_fit = exchange.answers_fit.1;
      counted = told_now (is_groups m) p.telling q.telling (count_groups asks + owed_replies session + count_groups answers) (omega (arith, counted)) told same;
      tells = exchange.tells;
      front = exchange.front;
      reply = exchange.reply;
      quiet = reply ∙ exchange.quiet;
      latest = λ is. exchange.latest (sym untold ∙ is);
    }

pub is_telling : (sid : ℕ) (groups : List (List ℕ)) (p : NetSession) (asks answers : List (List ℕ)) (session : Option NetSession) (known : List (List ℕ)) (m : List ℕ)
    → ExchangeIn sid groups p asks (m ∷ answers) session known → envelope_at m ≡ 0x0101 → p.telling ≡ true
is_telling sid groups p asks answers session known m exchange is = grind (arith, eq-eqb)

-- THE SWITCH'S END says what speaks of no groups
pub hub_ranges : (sid : ℕ) (groups : List (List ℕ)) (p : NetSession) (asks answers : List (List ℕ)) (session now : Option NetSession) (known : List (List ℕ)) (m : List ℕ)
    → MessageFits Responder sid m → count_groups (m ∷ []) ≡ 0 → reply_in now ≡ reply_in session → ExchangeIn sid groups p asks answers session known
    → ExchangeIn sid groups p asks (answers ++ m ∷ []) now known
hub_ranges sid groups p asks answers session now known m given none same exchange = grind (arith, fits_more, count-append)

-- it answers
pub hub_replies : (sid : ℕ) (groups : List (List ℕ)) (p : NetSession) (asks answers : List (List ℕ)) (session now : Option NetSession) (known : List (List ℕ)) (m : List ℕ) (r : GroupsReply)
    → SaysGroups Responder sid m → reply_in session ≡ Some r → reply_in now ≡ None → ExchangeIn sid groups p asks answers session known → ExchangeIn sid groups p asks (answers ++ m ∷ []) now known
hub_replies sid groups p asks answers session now known m r says before none exchange = grind (arith, fits_more, count-append)

-- it hears what speaks of no groups
pub hub_hears : (sid : ℕ) (groups : List (List ℕ)) (p : NetSession) (asks answers : List (List ℕ)) (session now : Option NetSession) (known : List (List ℕ)) (m : List ℕ)
    → is_groups m ≡ false → reply_in now ≡ reply_in session → ExchangeIn sid groups p (m ∷ asks) answers session known → ExchangeIn sid groups p asks answers now known
hub_hears sid groups p asks answers session now known m not_ same exchange = grind arith

-- it hears groups, which it knows then
front_taken : (many : ℕ) (groups : List (List ℕ)) → many ≤ length groups → take many groups ≡ take (length (take many groups)) groups
front_taken many groups few = grind (arith, length-take)

pub hub_learns : (sid : ℕ) (groups : List (List ℕ)) (p : NetSession) (asks answers : List (List ℕ)) (session now : Option NetSession) (known : List (List ℕ)) (m : List ℕ) (r : GroupsReply)
    (some : TellsSome groups (length known) m) → is_groups m ≡ true → reply_in session ≡ None → reply_in now ≡ Some r → ReplyAgrees r → ExchangeIn sid groups p (m ∷ asks) answers session known
    → ExchangeIn sid groups p asks answers now (addresses_of m)
hub_learns sid groups p asks answers session now known m r some is before after_is agrees exchange = grind (arith, one_most, none_tells, front_taken, none_told)

-- NOTHING of this changes
pub same_exchange : (sid : ℕ) (groups : List (List ℕ)) (p q : NetSession) (asks answers : List (List ℕ)) (session now : Option NetSession) (known : List (List ℕ))
    → q.telling ≡ p.telling → q.reply ≡ p.reply → q.untold ≡ p.untold → reply_in now ≡ reply_in session → ExchangeIn sid groups p asks answers session known → ExchangeIn sid groups q asks answers now known
same_exchange sid groups p q asks answers session now known telling reply untold same exchange = grind arith

-- the guest joins one more group
more_tells : (groups : List (List ℕ)) (address : List ℕ) (known : ℕ) (asks : List (List ℕ)) → EachTells groups known asks → EachTells (groups ++ address ∷ []) known asks
more_tells groups address known [] tells = tt
more_tells groups address known (m ∷ asks) tells =
    grind (arith, more_tells groups address known asks tells.1, take-append-le, length-append)

pub guest_joins : (sid : ℕ) (groups : List (List ℕ)) (address : List ℕ) (p q : NetSession) (asks answers : List (List ℕ)) (session : Option NetSession) (known : List (List ℕ))
    → q.telling ≡ p.telling → q.reply ≡ p.reply → q.untold ≡ true → ExchangeIn sid groups p asks answers session known → ExchangeIn sid (groups ++ address ∷ []) q asks answers session known
guest_joins sid groups address p q asks answers session known telling reply untold exchange = grind (arith, more_tells, take-append-le, known_few, true_false)
