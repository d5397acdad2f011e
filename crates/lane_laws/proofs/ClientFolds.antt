-- A client announces exactly where it is stuck with that, as its link and its log have it.
use Rattle.std.proofs.Common.{◌≡◌, ◌≤◌, Bool, true, false, length, List, refl, sym, ap, ◌∙◌}
use Rattle.std.specs.Prelude.{is_some, ◌&&◌}
use Rattle.std.proofs.lemmas.Bool.{and_parts}
use Rattle.ldc_link.specs.declared.phase.Role.TheVariants.{Initiator}
use Rattle.ldc_queue.specs.Transcript.{Utterance}
use Rattle.lane_models.specs.ClientPutting.{is_announcing}
use Rattle.lane_models.specs.ClientState.{ClientState}
use Rattle.lane_models.proofs.EndSending.{and_false, sends_some, some_holds, stuck_own}
use Rattle.lane_models.proofs.EndStanding.{open_up}
use Rattle.lane_models.specs.Blockage.{Blockage, Clear, EndSends, is_stuck_with_own}
use Rattle.lane_laws.specs.ChannelEnds.{client_core}
use Rattle.lane_laws.specs.LaneRests.{ClientRests}
use Rattle.lane_laws.specs.Sound.{ClientSound}

abbrev pub Announcing : ClientState → Blockage → Type 0
Announcing c b = is_announcing c.session ≡ (is_some c.session && is_stuck_with_own b c.handshake.owed)

pub announces_so : (c : ClientState) (turns : List Utterance) (b : Blockage) → ClientSound c → ClientRests c turns → EndSends (client_core c) b → Announcing c b
announces_so c turns b sound rests sends = by_cases (is_announcing c.session) (is_some c.session && is_stuck_with_own b c.handshake.owed) refl refl
  where
    holding : 1 ≤ length c.link.to_send → Announcing c b
    holding some = sends.own (some_holds Initiator (client_core c) turns rests.stands some)

    by_cases : (x y : Bool) → is_announcing c.session ≡ x → (is_some c.session && is_stuck_with_own b c.handshake.owed) ≡ y → Announcing c b
    by_cases true y is now = holding (sound.own is)
    by_cases false false is now = is ∙ sym now
    by_cases false true is now =
        let both = and_parts (is_some c.session) (is_stuck_with_own b c.handshake.owed) now in
        holding (sends_some c.link (open_up Initiator (client_core c) turns rests.stands both.0) (sends.owing (stuck_own b c.handshake.owed both.1)))

-- so it doesn't where it isn't stuck
pub clear_quiet : (c : ClientState) (turns : List Utterance) (b : Blockage) → ClientSound c → ClientRests c turns → EndSends (client_core c) b → b ≡ Clear → is_announcing c.session ≡ false
clear_quiet c turns b sound rests sends clear =
    announces_so c turns b sound rests sends ∙ ap (λ (x : Blockage). is_some c.session && is_stuck_with_own x c.handshake.owed) clear ∙ and_false (is_some c.session)
