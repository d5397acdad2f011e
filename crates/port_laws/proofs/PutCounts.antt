-- A packet that an end puts is counted by its log as the end counts it, and where it ends a message of the session, that was right to say.
use Rattle.std.proofs.Common.{◌≡◌, ℕ, ◌+◌, ◌<◌, ◌≤◌, Bool, true, false, Option, Some, None, List, [], ◌++◌, length, drop, refl, sym, subst, ap, ◌∙◌, arith, length-append, length-drop}
use Rattle.std.specs.Prelude.{◌&&◌, is_none, is_some, not}
use Rattle.std.proofs.lemmas.Bool.{leb-false, leb-true}
use Rattle.std.proofs.lemmas.List.{take_all}
use Rattle.ldc_link.specs.declared.phase.Role.{Role}
use Rattle.ldc_link.specs.declared.phase.Role.TheVariants.{Initiator, Responder}
use Rattle.ldc_link.specs.LinkState.{LinkState, is_established, is_up}
use Rattle.ldc_link.specs.Putting.{behind_put}
use Rattle.ldc_queue.specs.Fragments.{fragment_at, is_part}
use Rattle.ldc_queue.specs.Messages.{is_empty}
use Rattle.ldc_queue.specs.Transcript.{Utterance}
use Rattle.vio_handshake.specs.declared.handshake.Handshake.{Handshake}
use Rattle.vio_handshake.specs.Rules.{opens_by_put}
use Rattle.lane_models.specs.EndPuts.{handshake_behind}
use Rattle.lane_models.specs.Messages.{ended_by, whole_with}
use Rattle.lane_models.specs.Sayings.{half_said}
use Rattle.lane_models.proofs.EndCases.{PutControl, PutHandshake, PutMore, PutOwn, PutReady, PutWhat, put_down}
use Rattle.lane_models.proofs.EndStanding.{holds_some, last_none}
use Rattle.lane_models.proofs.LinkCases.{behind_part}
use Rattle.lane_models.proofs.UtteranceCases.{SaysLast, SaysMore}
use Rattle.lane_models.specs.Standing.{EndStands}
use Rattle.lane_models.proofs.Refuting.{false_true, none_some, true_false}
use Rattle.lane_models.specs.EndLog.{EndLog, SessionLog, change, opens_log, said_in, said_kind, says_log}
use Rattle.lane_models.specs.NetEndPutting.{net_kind, net_opens, net_put, opened_by_put}
use Rattle.lane_models.specs.NetEndState.{NetEndState, NetSession, first_id, opened_net_end}
use Rattle.lane_models.specs.Spoken.{Other, Spoken, spoken}
use Rattle.port_laws.specs.Counted.{Counts, EndCounts, HoldsRightly, SaysRightly, UnsaidRight, left_of, unsaid}
use Rattle.port_laws.specs.NetCore.{net_core}
use Rattle.port_laws.proofs.EndCounting.{OpenCounts, empty_unsaid, open_counts, shut_counts, own_left}
use Rattle.lane_models.proofs.PacketsLeft.{opening_shut}
use Rattle.lane_models.specs.HandshakeFits.{OwedFits}
use Rattle.port_laws.proofs.OwedSays.{OwesNoGroups, owed_other}

-- A SESSION OPENS with nothing published, taken or told

pub opened_counts : (role : Role) (slots : ℕ) (queue : List (List ℕ)) (s : NetEndState) (l : EndLog) (sid : ℕ) → EndCounts role slots queue s l → s.session ≡ None → s.link.to_send ≡ []
    → EndCounts role slots queue (opened_net_end s) (opens_log true sid l)
opened_counts role slots queue s l sid counts shut empty =
    let long : length (s.frames ++ queue) ≡ length (drop l.gone l.given) = ap length counts.frames in
    let base : l.gone ≡ first_id s + 0 = omega (arith, counts.ids, counts.gone, long, length-append s.frames queue, length-drop l.gone l.given) in
    grind (arith, empty_unsaid)

-- THE PACKET ENDS A MESSAGE, or none
pub ended_if : (part stop : Bool) (message : List ℕ) → part ≡ true → stop ≡ true → whole_with (part && stop) message ≡ Some message
ended_if part stop message one two = grind (arith, false_true)

last_ended : (k : LinkState) (turns : List Utterance) (packet : List ℕ) → SaysLast k turns packet → ended_by (half_said turns) packet ≡ Some (half_said turns ++ k.to_send)
last_ended k turns packet last =
    let few : length k.to_send ≤ 56 = leb-true (length k.to_send) 56 last.short in
    ended_if (is_part packet) (fragment_at packet).stop (half_said turns ++ (fragment_at packet).bytes) last.part.part (last.part.stops ∙ last.short)
    ∙ ap (λ (xs : List ℕ). Some (half_said turns ++ xs)) (last.part.carries ∙ take_all 56 k.to_send few)

more_ended : (k : LinkState) (turns : List Utterance) (packet : List ℕ) → SaysMore k turns packet → ended_by (half_said turns) packet ≡ None
more_ended k turns packet more = grind (arith, true_false)

-- WHAT IS SAID is counted as what was held
said_counts : (role : Role) (slots : ℕ) (groups : List (List ℕ)) (published gone : ℕ) (left ended : Option (List ℕ)) (b c : Bool) (session : Option NetSession) (log : Option SessionLog)
    → ((p : NetSession) (v : SessionLog) → session ≡ Some p → log ≡ Some v → said_in ended v ≡ said_in left v) → Counts role slots groups published gone left b session log
    → Counts role slots groups published gone None c session (change (said_in ended) log)
said_counts role slots groups published gone left ended b c None None same counts = counts
said_counts role slots groups published gone left ended b c (Some p) (Some v) same counts =
    grind (arith, same p v refl refl)
said_counts role slots groups published gone left ended b c _ _ same counts = absurd counts

-- RIGHT TO SAY is what the packet ends, as the log stood before it
abbrev pub SaidRight : ℕ → List (List ℕ) → EndLog → Option (List ℕ) → Type 0
SaidRight slots groups l ended = (message : List ℕ) (v : SessionLog) → ended ≡ Some message → l.session ≡ Some v → SaysRightly slots groups v message (spoken message)

pub record PutCounts (role : Role) (slots : ℕ) (queue : List (List ℕ)) (held t : NetEndState) (l : EndLog) (turns : List Utterance) (packet : List ℕ) (opens : Bool) (sid : ℕ) : Type 0 where
  pub counts : EndCounts role slots queue t (opens_log opens sid (says_log (ended_by (half_said turns) packet) l))
  pub right : SaidRight slots held.groups l (ended_by (half_said turns) packet)

-- the end after the packet, but for a session that opens
abbrev pub put_end : NetEndState → NetEndState
put_end held = record held { link = behind_put held.link; handshake = handshake_behind (net_kind held) held.handshake }

pub shut_put : (role : Role) (opens : Bool) (s : NetEndState) → opens ≡ false → opened_by_put role opens s ≡ s
shut_put role opens s is = grind (arith, true_false)

none_right : (slots : ℕ) (groups : List (List ℕ)) (l : EndLog) (ended : Option (List ℕ)) → ended ≡ None → SaidRight slots groups l ended
none_right slots groups l ended none message v is log = none_some message (sym none ∙ is)

-- no session opens
quiet_put : (role : Role) (slots : ℕ) (queue : List (List ℕ)) (held : NetEndState) (l : EndLog) (turns : List Utterance) (packet : List ℕ) (sid : ℕ) (ended : Option (List ℕ)) → EndCounts role slots queue held l
    → net_opens held ≡ false → ended_by (half_said turns) packet ≡ ended
    → ((p : NetSession) (v : SessionLog) → held.session ≡ Some p → l.session ≡ Some v → said_in ended v ≡ said_in (unsaid held) v)
    → unsaid (put_end held) ≡ None → SaidRight slots held.groups l ended → PutCounts role slots queue held (net_put role held) l turns packet (net_opens held) sid
quiet_put role slots queue held l turns packet sid ended counts shut is same left right =
    let there : EndCounts role slots queue (put_end held) (says_log ended l) = grind (arith, said_counts) in
    let put_is : net_put role held ≡ put_end held = shut_put role (net_opens held) (put_end held) shut in
    record {
      counts = subst (λ (b : Bool). EndCounts role slots queue (net_put role held) (opens_log b sid (says_log (ended_by (half_said turns) packet) l))) (sym shut)
          (subst (λ (x : Option (List ℕ)). EndCounts role slots queue (net_put role held) (says_log x l)) (sym is)
          (subst (λ (x : NetEndState). EndCounts role slots queue x (says_log ended l)) (sym put_is) there));
      right = subst (SaidRight slots held.groups l) (sym is) right;
    }

-- its link holds nothing then, or a message of the handshake
pub put_empty : (role : Role) (held : NetEndState) → net_opens held ≡ false → (net_core role (net_put role held)).link.to_send ≡ [] → unsaid (put_end held) ≡ None
put_empty role held shut empty = grind (arith, shut_put, empty_unsaid)

-- a handshake whose message the link holds owes one
pub owing_left : (own : Bool) (bytes : List ℕ) → own ≡ false → left_of own bytes ≡ None
owing_left own bytes is = grind (arith, true_false)

-- PUT OF ITS OWN
half_none : (begun : Bool) (half : List ℕ) → begun ≡ false → begun ≡ not (is_empty half) → half ≡ []
half_none begun half is same = grind (arith, false_true, true_false)

pub own_half : (role : Role) (slots : ℕ) (queue : List (List ℕ)) (held : NetEndState) (l : EndLog) (turns : List Utterance) (p : NetSession) → EndCounts role slots queue held l
    → EndStands role (net_core role held) turns → held.session ≡ Some p → unsaid held ≡ Some held.link.to_send → half_said turns ≡ []
own_half role slots queue held l turns p counts stands session left = grind (arith, open_counts, half_none)

put_own : (role : Role) (slots : ℕ) (queue : List (List ℕ)) (held : NetEndState) (l : EndLog) (turns : List Utterance) (packet : List ℕ) (sid : ℕ) → EndCounts role slots queue held l
    → EndStands role (net_core role held) turns → is_none held.handshake.owed ≡ true → net_opens held ≡ false → SaysLast held.link turns packet
    → (net_core role (net_put role held)).link ≡ behind_part held.link → PutCounts role slots queue held (net_put role held) l turns packet (net_opens held) sid
put_own role slots queue held l turns packet sid counts stands own shut last link =
    let left : unsaid held ≡ Some held.link.to_send = own_left (is_none held.handshake.owed) held.link.to_send own last.some in
    let ended : ended_by (half_said turns) packet ≡ Some (half_said turns ++ held.link.to_send) = last_ended held.link turns packet last in
    let empty : (net_core role (net_put role held)).link.to_send ≡ [] = ap (λ (x : LinkState). x.to_send) link ∙ last_none held.link turns packet last in
    quiet_put role slots queue held l turns packet sid (Some (half_said turns ++ held.link.to_send)) counts shut ended
    (λ p v session log.
    let none : half_said turns ≡ [] = own_half role slots queue held l turns p counts stands session left in
    ap (λ (x : List ℕ). said_in (Some (x ++ held.link.to_send)) v) none ∙ ap (λ (x : Option (List ℕ)). said_in x v) (sym left))
    (put_empty role held shut empty)
    (λ message v is log. right message v is log left)
  where
    some_session : (session : Option NetSession) → held.session ≡ session → (v : SessionLog) → l.session ≡ Some v → (p : NetSession) × (held.session ≡ Some p)
    some_session (Some p) is v log = (p, is)
    some_session None is v log = grind (arith, shut_counts, none_some)

    right : (message : List ℕ) (v : SessionLog) → Some (half_said turns ++ held.link.to_send) ≡ Some message → l.session ≡ Some v → unsaid held ≡ Some held.link.to_send
        → SaysRightly slots held.groups v message (spoken message)
    right message v is log left =
        let there = some_session held.session refl v log in
        let none : half_said turns ≡ [] = own_half role slots queue held l turns there.0 counts stands there.1 left in
        let here : OpenCounts role slots held.groups l.published l.gone (unsaid held) held.link.begun there.0 l.session = open_counts role slots queue held l there.0 counts there.1 in
        let same_log : here.of_log ≡ v = (let both : Some here.of_log ≡ Some v = sym here.is ∙ log in cc) in
        let same : held.link.to_send ≡ message = (let both : Some held.link.to_send ≡ Some message = ap (λ (x : List ℕ). Some (x ++ held.link.to_send)) (sym none) ∙ is in cc) in
        let rightly : HoldsRightly slots held.groups held.link.begun here.of_log held.link.to_send =
        subst (UnsaidRight slots held.groups held.link.begun here.of_log) left here.counts.right in
        rw same at (rw same_log at rightly.right)

-- A MESSAGE OF THE HANDSHAKE says nothing of the session
other_right : (slots : ℕ) (groups : List (List ℕ)) (l : EndLog) (said : List ℕ) → spoken said ≡ Other → SaidRight slots groups l (Some said)
other_right slots groups l said other message v is log = grind arith

handshake_said : (role : Role) (held : NetEndState) (turns : List Utterance) → EndStands role (net_core role held) turns → OwedFits held.handshake.phase held.handshake.owed → OwesNoGroups held.handshake.owed
    → is_none held.handshake.owed ≡ false → is_up held.link ≡ true → 1 ≤ length held.link.to_send → spoken (half_said turns ++ held.link.to_send) ≡ Other
handshake_said role held turns stands owes none own up some = grind (arith, holds_some, owed_other)

pub not_some : (session : Option NetSession) → is_some session ≡ false → session ≡ None
not_some session is = grind (arith, true_false)

put_handshake : (role : Role) (slots : ℕ) (queue : List (List ℕ)) (held : NetEndState) (l : EndLog) (turns : List Utterance) (packet : List ℕ) (sid : ℕ) → EndCounts role slots queue held l
    → EndStands role (net_core role held) turns → OwedFits held.handshake.phase held.handshake.owed → OwesNoGroups held.handshake.owed → is_none held.handshake.owed ≡ false → is_up held.link ≡ true
    → SaysLast held.link turns packet
    → (net_core role (net_put role held)).link ≡ behind_part held.link → net_opens held ≡ opens_by_put held.handshake.role held.handshake.phase
    → PutCounts role slots queue held (net_put role held) l turns packet (net_opens held) sid
put_handshake role slots queue held l turns packet sid counts stands owes no_groups own up last link opens = by_opens (net_opens held) refl
  where
    said : List ℕ
    said = half_said turns ++ held.link.to_send

    other : spoken said ≡ Other
    other = handshake_said role held turns stands owes no_groups own up last.some

    left : unsaid held ≡ None
    left = owing_left (is_none held.handshake.owed) held.link.to_send own

    same_said : (v : SessionLog) → said_in (Some said) v ≡ said_in (unsaid held) v
    same_said v = ap (λ (k : Spoken). said_kind k said v) other ∙ ap (λ (x : Option (List ℕ)). said_in x v) (sym left)

    empty : (net_core role (net_put role held)).link.to_send ≡ []
    empty = ap (λ (x : LinkState). x.to_send) link ∙ last_none held.link turns packet last

    opens_it : (r : Role) → role ≡ r → net_opens held ≡ true → PutCounts role slots queue held (net_put role held) l turns packet (net_opens held) sid
    opens_it Responder role_is is = grind (arith, opening_shut)
    opens_it Initiator role_is is =
        let at = opening_shut held.handshake.role held.handshake.phase (sym opens ∙ is) in
        let shut : held.session ≡ None = not_some held.session (stands.opened ∙ at.1) in
        let put_is : net_put role held ≡ opened_net_end (put_end held) =
        ap (λ (r : Role). opened_by_put r (net_opens held) (put_end held)) role_is ∙ ap (λ (b : Bool). opened_by_put Initiator b (put_end held)) is in
        let none : (put_end held).link.to_send ≡ [] = sym (ap (λ (x : NetEndState). x.link.to_send) put_is) ∙ empty in
        let ended : ended_by (half_said turns) packet ≡ Some said = last_ended held.link turns packet last in
        let there : EndCounts role slots queue (put_end held) (says_log (Some said) l) = grind (arith, same_said, empty_unsaid, said_counts) in
        record {
          counts = subst (λ (b : Bool). EndCounts role slots queue (net_put role held) (opens_log b sid (says_log (ended_by (half_said turns) packet) l))) (sym is)
              (subst (λ (x : Option (List ℕ)). EndCounts role slots queue (net_put role held) (opens_log true sid (says_log x l))) (sym ended)
              (subst (λ (x : NetEndState). EndCounts role slots queue x (opens_log true sid (says_log (Some said) l))) (sym put_is)
              (opened_counts role slots queue (put_end held) (says_log (Some said) l) sid there shut none)));
          right = subst (SaidRight slots held.groups l) (sym ended) (other_right slots held.groups l said other);
        }

    by_opens : (b : Bool) → net_opens held ≡ b → PutCounts role slots queue held (net_put role held) l turns packet (net_opens held) sid
    by_opens true is = opens_it role refl is
    by_opens false is =
        quiet_put role slots queue held l turns packet sid (Some said) counts is (last_ended held.link turns packet last) (λ p v session log. same_said v) (put_empty role held is empty)
        (other_right slots held.groups l said other)

-- A PART THAT GOES ON is of the handshake: what is of the session takes one packet
pub some_of : (session : Option NetSession) → is_some session ≡ true → (p : NetSession) × (session ≡ Some p)
some_of session is = grind (arith, false_true)

pub own_session : (role : Role) (held : NetEndState) (turns : List Utterance) → EndStands role (net_core role held) turns → is_none held.handshake.owed ≡ true → is_up held.link ≡ true
    → 1 ≤ length held.link.to_send → (p : NetSession) × (held.session ≡ Some p)
own_session role held turns stands own up some = grind (arith, holds_some, some_of)

pub own_short : (role : Role) (slots : ℕ) (queue : List (List ℕ)) (held : NetEndState) (l : EndLog) (turns : List Utterance) → EndCounts role slots queue held l → EndStands role (net_core role held) turns
    → is_none held.handshake.owed ≡ true → is_up held.link ≡ true → 1 ≤ length held.link.to_send → length held.link.to_send ≤ 56
own_short role slots queue held l turns counts stands own up some =
    let there = own_session role held turns stands own up some in
    let left : unsaid held ≡ Some held.link.to_send = own_left (is_none held.handshake.owed) held.link.to_send own some in
    let here : OpenCounts role slots held.groups l.published l.gone (unsaid held) held.link.begun there.0 l.session = open_counts role slots queue held l there.0 counts there.1 in
    let right : HoldsRightly slots held.groups held.link.begun here.of_log held.link.to_send =
    subst (UnsaidRight slots held.groups held.link.begun here.of_log) left here.counts.right in
    right.short

put_more : (role : Role) (slots : ℕ) (queue : List (List ℕ)) (held : NetEndState) (l : EndLog) (turns : List Utterance) (packet : List ℕ) (sid : ℕ) → EndCounts role slots queue held l
    → EndStands role (net_core role held) turns → is_up held.link ≡ true → net_opens held ≡ false → SaysMore held.link turns packet
    → (net_core role (net_put role held)).handshake ≡ held.handshake → PutCounts role slots queue held (net_put role held) l turns packet (net_opens held) sid
put_more role slots queue held l turns packet sid counts stands up shut more handshake = by_own (is_none held.handshake.owed) refl
  where
    long : 56 < length held.link.to_send
    long = leb-false (length held.link.to_send) 56 more.long

    put_is : net_put role held ≡ put_end held
    put_is = shut_put role (net_opens held) (put_end held) shut

    by_own : (own : Bool) → is_none held.handshake.owed ≡ own → PutCounts role slots queue held (net_put role held) l turns packet (net_opens held) sid
    by_own true own =
        absurd (omega (arith, own_short role slots queue held l turns counts stands own up (omega (arith, long)), long))
    by_own false own =
        let after : is_none (put_end held).handshake.owed ≡ false =
        sym (ap (λ (x : NetEndState). is_none x.handshake.owed) put_is) ∙ ap (λ (x : Handshake). is_none x.owed) handshake ∙ own in
        quiet_put role slots queue held l turns packet sid None counts shut (more_ended held.link turns packet more)
        (λ p v session log. ap (λ (x : Option (List ℕ)). said_in x v) (sym (owing_left (is_none held.handshake.owed) held.link.to_send own)))
        (owing_left (is_none (put_end held).handshake.owed) (put_end held).link.to_send after)
        (none_right slots held.groups l None refl)

-- A PACKET OF THE LINK'S HANDSHAKE: no session is open
put_below : (role : Role) (slots : ℕ) (queue : List (List ℕ)) (held : NetEndState) (l : EndLog) (turns : List Utterance) (packet : List ℕ) (sid : ℕ) → EndCounts role slots queue held l
    → EndStands role (net_core role held) turns → net_opens held ≡ false → is_up held.link ≡ false
    → (net_core role (net_put role held)).link.to_send ≡ held.link.to_send → PutCounts role slots queue held (net_put role held) l turns packet (net_opens held) sid
put_below role slots queue held l turns packet sid counts stands shut down same = grind (arith, not_some, shut_counts, quiet_put, none_some, put_empty)

pub put_counts : (role : Role) (slots : ℕ) (queue : List (List ℕ)) (held : NetEndState) (l : EndLog) (turns : List Utterance) (packet : List ℕ) (sid : ℕ) → EndCounts role slots queue held l
    → EndStands role (net_core role held) turns → OwedFits held.handshake.phase held.handshake.owed → OwesNoGroups held.handshake.owed
    → PutWhat role (net_core role held) turns packet (net_opens held) (net_core role (net_put role held))
    → PutCounts role slots queue held (net_put role held) l turns packet (net_opens held) sid
put_counts role slots queue held l turns packet sid counts stands owes none (PutControl next gone link says same shut is_open) =
    put_below role slots queue held l turns packet sid counts stands shut (put_down held.link.phase packet next gone).0 (ap (λ (x : LinkState). x.to_send) link)
put_counts role slots queue held l turns packet sid counts stands owes none (PutReady r at is link says same shut is_open) =
    put_below role slots queue held l turns packet sid counts stands shut (ap is_established at) (ap (λ (x : LinkState). x.to_send) link)
put_counts role slots queue held l turns packet sid counts stands owes none (PutMore at link says same shut is_open) =
    put_more role slots queue held l turns packet sid counts stands (ap is_established at) shut says same
put_counts role slots queue held l turns packet sid counts stands owes none (PutOwn own at link says same shut is_open) =
    put_own role slots queue held l turns packet sid counts stands own shut says link
put_counts role slots queue held l turns packet sid counts stands owes none (PutHandshake own at link says same opens_is is_open) =
    put_handshake role slots queue held l turns packet sid counts stands owes none own (ap is_established at) says link opens_is
