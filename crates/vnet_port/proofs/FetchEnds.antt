-- What a fetch makes of an end.
use Rattle.std.proofs.Common.{◌≡◌, ℕ, List, length, Option, Some, None, Result, Ok, Err, refl, sym, ◌∙◌, ap, subst}
use Rattle.ldc_queue.specs.ChannelView.{ChannelView, configured_channel}
use Rattle.map_table.specs.declared.table.Entry.{Entry}
use Rattle.port_frames.specs.declared.fetching.SlotFault.{SlotFault}
use Rattle.port_frames.specs.Fetches.{FrameOf}
use Rattle.port_frames.specs.Memories.{reach_over}
use Rattle.lane_models.specs.Fetching.{Fetched, IsFrame, NotReady, Refuses, fetched}
use Rattle.lane_models.specs.NetEndRule.{Fetches, NetRule}
use Rattle.lane_models.specs.NetEndState.{Activity, NetEndState, NetSession, joined_net_end, unseen}
use Rattle.lane_models.specs.NetEndStep.{FetchFails, NetFails, taken}
use Rattle.vio_tag.specs.declared.cause.Cause.{Cause}
use Rattle.vnet_port.specs.Calls.{end_of, role_of}
use Rattle.vnet_port.specs.declared.net_out.NetOut.{NetOut}
use Rattle.vnet_port.specs.declared.net_out.NetOut.TheVariants as out
use Rattle.vnet_port.specs.Fetches.{TakesFrame}
use Rattle.vnet_port.specs.Stepping.{Steps, rule_of}

-- the end's last frame is the one that was taken
pub takes_frame : {U : Type 0} → (result : Result U SlotFault) (found : Fetched) (s t : NetEndState) (peer new last : List ℕ)
    → FrameOf result found s.last peer last new → t ≡ record s { last = last } → TakesFrame result found s peer t new
takes_frame (Ok done) found s t peer new last is left =
    let same : last ≡ t.last = sym (ap (λ (x : NetEndState). x.last) left) in
    (is ∙ ap (λ (f : List ℕ). IsFrame f new) same, left ∙ ap (λ (f : List ℕ). record s { last = f }) same)
takes_frame (Err why) found s t peer new last is left = (is.0, left ∙ ap (λ (f : List ℕ). record s { last = f }) is.1, is.2)

-- a slot that isn't READY ends the activity, and nothing else changed
pub fetch_ends : (s r t : NetEndState) (c d : ChannelView) (memory new : List ℕ) (table : List (Option Entry)) (peer behind : List ℕ) (place state : ℕ) (answer : NetOut)
    → fetched s (reach_over c table peer) place ≡ NotReady state → r ≡ s → behind ≡ peer
    → ((table : List (Option Entry)) (peer : List ℕ) → fetched r (reach_over c table peer) place ≡ NotReady state → Steps r c memory table peer answer t d new peer)
    → Steps s c memory table peer answer t d new behind
fetch_ends s r t c d memory new table peer behind place state answer found same kept ends =
    subst (λ (b : List ℕ). Steps s c memory table peer answer t d new b) (sym kept)
    (subst (λ (x : NetEndState). Steps x c memory table peer answer t d new peer) same
    (ends table peer (subst (λ (x : NetEndState). fetched x (reach_over c table peer) place ≡ NotReady state) (sym same) found)))

-- the rule is the same where the fetch changed nothing
pub still_fetches : (s r : NetEndState) (c : ChannelView) (p q : NetSession) (activity : Activity) → rule_of s c ≡ Fetches p activity → r ≡ s
    → s.session ≡ Some p → r.session ≡ Some q → rule_of r c ≡ Fetches q activity
still_fetches s r c p q activity rule same opened still =
    let both : Some p ≡ Some q = sym opened ∙ sym (ap (λ (x : NetEndState). x.session) same) ∙ still in
    let one : p ≡ q = cc both in
    ap (λ (x : NetEndState). rule_of x c) same ∙ rule ∙ ap (λ (x : NetSession). Fetches x activity) one

-- the frame of the next slot is taken
frame_left : (s t u : NetEndState) (p : NetSession) (activity : Activity) → t ≡ record s { last = t.last } → u ≡ record t { session = Some (taken t p activity) }
    → u ≡ record s { session = Some (taken s p activity); last = u.last }
frame_left s t u p activity took noted =
    noted ∙ ap (λ (x : NetEndState). record x { session = Some (taken x p activity) }) took
    ∙ ap (λ (last : List ℕ). record s { session = Some (taken s p activity); last = last }) (sym (ap (λ (x : NetEndState). x.last) noted))

pub fetched_steps : (s t u : NetEndState) (c : ChannelView) (memory : List ℕ) (table : List (Option Entry)) (peer new : List ℕ) (p : NetSession) (activity : Activity) (answer : NetOut)
    → rule_of s c ≡ Fetches p activity → fetched s (reach_over c table peer) p.place ≡ IsFrame t.last new → t ≡ record s { last = t.last }
    → u ≡ record t { session = Some (taken t p activity) } → answer ≡ out.Frame (length t.last) → Steps s c memory table peer answer u c memory new
fetched_steps s t u c memory table peer new p activity answer rule found took noted is =
    let last : u.last ≡ t.last = ap (λ (x : NetEndState). x.last) noted in
    subst (λ (a : NetOut). Steps s c memory table peer a u c memory new) (sym is)
    (record {
      step = record {
        session = p;
        activity = activity;
        new = new;
        rule = rule;
        found = found ∙ ap (λ (frame : List ℕ). IsFrame frame new) (sym last);
        is = ap (λ (e : NetEndState). record { end = e; own = memory; peer = new }) (frame_left s t u p activity took noted);
      };
      channel = refl;
      count = ap (λ (frame : List ℕ). length frame) (sym last);
    })

-- what the slot names is refused, and nothing else changed
pub fetch_refused : (s r t : NetEndState) (c d : ChannelView) (memory : List ℕ) (table : List (Option Entry)) (peer behind : List ℕ) (p : NetSession) (activity : Activity) (cause : Cause)
    (answer : NetOut) → rule_of s c ≡ Fetches p activity → fetched s (reach_over c table peer) p.place ≡ Refuses cause → r ≡ s → behind ≡ peer
    → answer ≡ out.Reset cause None (unseen r.session) → t ≡ joined_net_end (role_of r) r → d ≡ configured_channel (end_of r) c
    → Steps s c memory table peer answer t d memory behind
fetch_refused s r t c d memory table peer behind p activity cause answer rule found same kept is joined configured =
    subst (λ (b : List ℕ). Steps s c memory table peer answer t d memory b) (sym kept)
    (subst (λ (a : NetOut). Steps s c memory table peer a t d memory peer) (sym is)
    (record {
      step = (
        subst (λ (rule : NetRule). NetFails (role_of s) rule s memory (reach_over c table peer) cause None) (sym rule)
            (refl, subst (λ (f : Fetched). FetchFails f activity p.place cause) (sym found) refl),
        ap (λ (x : NetEndState). unseen x.session) same,
        ap (λ (e : NetEndState). record { end = e; own = memory; peer = peer }) (joined ∙ ap (λ (x : NetEndState). joined_net_end (role_of x) x) same),
      );
      channel = configured ∙ ap (λ (x : NetEndState). configured_channel (end_of x) c) same;
      count = tt;
    }))
