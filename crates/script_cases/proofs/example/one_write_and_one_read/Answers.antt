-- How the clauses of `replay` are used: its premises are met by what is known of the script and of the objects' types.
use Rattle.std.proofs.Common.{Global, ◌≡◌, ◌∙◌, ap, refl, inl, inr, [], ◌∷◌, ◌++◌, map, codes, List, ℕ, Some}
use Rattle.std.specs.String.{string_bytes}
use Rattle.infallible_io.specs.States.{GrowingSinkState}
use Rattle.ldom_replay.specs.script_laws.PlainRun.{plain_text}
use Rattle.script_cases.specs.Known.{script}
use Rattle.ldom_report.specs.declared.status.Mode.TheVariants as mode
use Rattle.script_cases.proofs.KnownRun.{asks_zeros, clean, disk, events, full_limit, ids_are, image_is, quiet, text_is, zeros}
use Rattle.script_cases.proofs.example.one_write_and_one_read.Goals as goal

-- at status 0 the written text is that of the plain run: the script is quiet, and `-` gives zeros
pub returns-in-Done-clause-report : goal.returns-in-Done-clause-report
returns-in-Done-clause-report c =
    let asks = asks_zeros _ (ap (map (string_bytes {Z = Global})) c.deref.ensures.value ∙ c.in_ok-words.ensures) in
    let plain = c.replay-outcome.ensures.quiet (codes "-") asks script zeros disk events (ap Some c.in_ok-script.ensures) quiet refl c.in-Done.is in
    plain.written ∙ ap (λ (s : GrowingSinkState). s.written ++ plain_text disk zeros events) c.new-report.ensures ∙ text_is

-- so is the image
pub returns-in-Done-clause-image : goal.returns-in-Done-clause-image
returns-in-Done-clause-image c =
    let asks = asks_zeros _ (ap (map (string_bytes {Z = Global})) c.deref.ensures.value ∙ c.in_ok-words.ensures) in
    let plain = c.replay-outcome.ensures.quiet (codes "-") asks script zeros disk events (ap Some c.in_ok-script.ensures) quiet refl c.in-Done.is in
    image_is c.replay-outcome.result.image plain.left

-- and so are the ids
pub returns-in-Done-clause-ids : goal.returns-in-Done-clause-ids
returns-in-Done-clause-ids c =
    let asks = asks_zeros _ (ap (map (string_bytes {Z = Global})) c.deref.ensures.value ∙ c.in_ok-words.ensures) in
    let plain = c.replay-outcome.ensures.quiet (codes "-") asks script zeros disk events (ap Some c.in_ok-script.ensures) quiet refl c.in-Done.is in
    plain.ids ∙ ids_are zeros

-- no other status is possible: the script is clean, and the types' counts are 0 at each value
pub unreachable-requires : goal.unreachable-requires
unreachable-requires c =
    let asks = asks_zeros _ (ap (map (string_bytes {Z = Global})) c.deref.ensures.value ∙ c.in_ok-words.ensures) in
    elim (c.replay-outcome.ensures.infallible mode.Run (codes "-") asks script (ap Some c.in_ok-script.ensures) clean (λ _. refl) (λ _. refl) (λ _. refl) (λ other. absurd (other refl)) c.in_default.not-SinkFault) [
      | inl done ↦ c.in_default.not-Done done
      | inr (inl memory) ↦ c.in_default.not-NoMemory memory
      | inr (inr full) ↦ let limit = full_limit c.replay-outcome.result.status c.replay-outcome.result.journal.entries full in c.in_default.not-Limit limit.0 limit.1 limit.2
    ]
