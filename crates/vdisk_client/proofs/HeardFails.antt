-- A message that isn't taken: the client resets for it.
use Rattle.std.proofs.Common.{◌≡◌, ◌≢◌, ℕ, Bool, true, false, List, Option, Some, None, drop, refl, sym, ◌∙◌, ap, subst}
use Rattle.ldc_link.specs.Calls.{Leaves}
use Rattle.ldc_link.specs.declared.phase.Role.{Role}
use Rattle.ldc_link.specs.LinkState.{LinkState, fresh_link, is_up}
use Rattle.ldc_link.specs.Taking.{Heard, TakesBytes}
use Rattle.ldc_queue.specs.ChannelView.{ChannelView, channel_without_first, configured_channel, place_behind}
use Rattle.ldc_queue.specs.Waiting.{head_past}
use Rattle.ldc_queue.specs.Wire.{configured, queue_behind}
use Rattle.ldc_queue.specs.declared.end.ChannelState.{ChannelState}
use Rattle.ldc_queue.specs.declared.end.ChannelState.TheVariants.{Up}
use Rattle.ldc_queue.specs.declared.end.End.TheVariants.{A}
use Rattle.vio_handshake.specs.declared.handshake.Phase.TheVariants.{Down}
use Rattle.vio_tag.specs.declared.cause.Cause.{Cause}
use Rattle.lane_models.specs.ClientRule.{ClientRule, Takes, puts_first, takes_first}
use Rattle.lane_models.specs.ClientState.{ClientState, joined_client}
use Rattle.lane_models.specs.ClientStep.{ClientFails}
use Rattle.lane_models.specs.ClientTaking.{ClientTakes, HearsWhole, Resets}
use Rattle.vdisk_client.proofs.Linking.{LinkTook, bytes_took}
use Rattle.vdisk_client.specs.Calls.{Steps, rule_of, sees}
use Rattle.vdisk_client.specs.declared.answers.ClientOut.{ClientOut}
use Rattle.vdisk_client.specs.declared.answers.ClientOut.TheVariants as out
use Rattle.vdisk_client.specs.Standing.{TranscriptStands}

-- a message that became whole came over a link that was up, and the handshake had begun
whole_up : (b : Bool) (k m : LinkState) → is_up k ≡ b → LinkTook k m → m.whole ≢ None → is_up k ≡ true
whole_up true k m is took some = is
whole_up false k m is took some = absurd (some (took.whole is))

pub whole_begun : (s : ClientState) (m : LinkState) (bytes : List ℕ) → TranscriptStands s → TakesBytes s.link bytes (Heard m) → m.whole ≢ None → s.handshake.phase ≢ Down
whole_begun s m bytes transcript takes some =
    (transcript.begun (whole_up (is_up s.link) s.link m refl (bytes_took s.link m bytes transcript.no_message transcript.phase takes) some)).phase

-- the packet that is taken before an end that is up is configured makes no difference
pub empties_anyway : (c : ChannelView) → c.wire.end_a ≡ Up → configured_channel A (channel_without_first A c) ≡ configured_channel A c
empties_anyway c up =
    let place : place_behind c.wire.end_a (head_past c.entries c.head_a c.wire.to_a) ≡ place_behind c.wire.end_a c.head_a =
    ap (λ (state : ChannelState). place_behind state (head_past c.entries c.head_a c.wire.to_a)) up
    ∙ ap (λ (state : ChannelState). place_behind state c.head_a) (sym up) in
    let waits : queue_behind c.wire.end_a (drop 1 c.wire.to_a) ≡ queue_behind c.wire.end_a c.wire.to_a =
    ap (λ (state : ChannelState). queue_behind state (drop 1 c.wire.to_a)) up ∙ ap (λ (state : ChannelState). queue_behind state c.wire.to_a) (sym up) in
    ap (λ (head : ℕ). record (configured_channel A (channel_without_first A c)) { head_a = head }) place
    ∙ ap (λ (packets : List (List ℕ)). record (configured_channel A c) { wire = record (configured A c.wire) { to_a = packets } }) waits

same_joined : (s : ClientState) (m : LinkState) → m.role ≡ s.link.role → joined_client (record s { link = m }) ≡ joined_client s
same_joined s m is = ap (λ (role : Role). record (joined_client s) { link = fresh_link role }) is

pub resets : (s t : ClientState) (c d : ChannelView) (memory packet : List ℕ) (cause : Cause) (answer : ClientOut) → rule_of s c ≡ Takes packet
    → ClientTakes s packet (Resets cause) → answer ≡ out.Reset cause (Some packet) → t ≡ joined_client s → d ≡ configured_channel A c
    → Steps s c memory answer t d memory
resets s t c d memory packet cause answer rule takes is new channel =
    subst (λ (a : ClientOut). Steps s c memory a t d memory) (sym is)
    (record {
      step = (subst (λ (r : ClientRule). ClientFails r s memory cause (Some packet)) (sym rule) (refl, takes), refl, new, refl);
      channel = channel;
      count = tt;
    })

pub hear_fails : (s t h : ClientState) (m : LinkState) (c b d : ChannelView) (memory packet : List ℕ) (cause : Cause) (answer : ClientOut)
    → TranscriptStands s → rule_of s c ≡ takes_first (sees c).first (puts_first s) → c.wire.end_a ≡ Up
    → Leaves A c packet b → TakesBytes s.link packet (Heard m) → HearsWhole (record s { link = m }) m.whole (Resets cause)
    → joined_client h ≡ joined_client (record s { link = m })
    → answer ≡ out.Reset cause (Some packet) → t ≡ joined_client h → d ≡ configured_channel A b → Steps s c memory answer t d memory
hear_fails s t h m c b d memory packet cause answer transcript rule up leaves takes hears refused is new channel =
    let first : rule_of s c ≡ Takes packet = rule ∙ ap (λ (f : Option (List ℕ)). takes_first f (puts_first s)) leaves.0 in
    let took : LinkTook s.link m = bytes_took s.link m packet transcript.no_message transcript.phase takes in
    resets s t c d memory packet cause answer first (record { link = Heard m; takes = takes; hears = hears }) is
    (new ∙ refused ∙ same_joined s m took.role)
    (channel ∙ ap (λ (x : ChannelView). configured_channel A x) leaves.1 ∙ empties_anyway c up)
