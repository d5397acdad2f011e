use Rattle.std.proofs.Common.{ℕ, List, ◌++◌, length, drop, Option, Some, IsNone, option_map, slice_get, ap, subst, sym, refl, ◌∙◌, true≢false}
use Rattle.std.proofs.lemmas.Option.{none-some}
use Rattle.vnet_switch.proofs.Calls.{nothing_leaves}
use Rattle.vnet_switch.proofs.Reading.{first_is_kept, first_waits, nothing_waits, shown_behind, sound_behind}
use Rattle.vnet_switch.specs.Kept.{bytes_at}
use Rattle.vnet_switch.specs.Queues.{written_front}
use Rattle.vnet_switch.proofs.switch.Switch.next.Goals as goal

pub returns-in_err-key-clause-none : goal.returns-in_err-key-clause-none
returns-in_err-key-clause-none c = (
  λ _. nothing_waits c.self.inside.ports.items c.self.inside.frames c.args.self.now c.args.port c.index.result.now
      (record { shown = c.self.view_is; within = c.requires; read = c.index.ensures }) (sym c.in_err-key.ensures),
  λ _. subst (λ (result : Option ℕ). IsNone result) (sym c.from_residual.ensures) refl,
)

pub returns-in_err-key-clause-count : goal.returns-in_err-key-clause-count
returns-in_err-key-clause-count c =
    c.from_residual.ensures
    ∙ sym (ap (λ (queue : List (List ℕ)). option_map length (slice_get queue 0))
    (nothing_waits c.self.inside.ports.items c.self.inside.frames c.args.self.now c.args.port c.index.result.now
    (record { shown = c.self.view_is; within = c.requires; read = c.index.ensures }) (sym c.in_err-key.ensures)))

pub returns-in_err-key-clause-bytes : goal.returns-in_err-key-clause-bytes
returns-in_err-key-clause-bytes c =
    sym (ap (λ (queue : List (List ℕ)). written_front (slice_get queue 0) c.args.buf.now)
    (nothing_waits c.self.inside.ports.items c.self.inside.frames c.args.self.now c.args.port c.index.result.now
    (record { shown = c.self.view_is; within = c.requires; read = c.index.ensures }) (sym c.in_err-key.ensures)))

pub returns-in_err-key-clause-leaves : goal.returns-in_err-key-clause-leaves
returns-in_err-key-clause-leaves c =
    nothing_leaves c.args.self.now.ports c.args.port
    (nothing_waits c.self.inside.ports.items c.self.inside.frames c.args.self.now c.args.port c.index.result.now
    (record { shown = c.self.view_is; within = c.requires; read = c.index.ensures }) (sym c.in_err-key.ensures))

pub read-count-requires : goal.read-count-requires
read-count-requires c =
    first_is_kept c.self.inside.ports.items c.self.inside.frames c.args.self.now c.args.port c.index.result.now c.in_ok-key.key c.self.invariant
    (record { shown = c.self.view_is; within = c.requires; read = c.index.ensures }) (sym c.in_ok-key.ensures)

pub invariant_of-self : goal.invariant_of-self
invariant_of-self c =
    sound_behind c.self.inside.ports.items c.self.inside.frames c.unname.new.self c.args.self.now c.args.port c.index.result.now c.index_mut.result.now c.drop_first.new.self
    c.in_ok-key.key c.self.invariant (record {
      is = record { shown = c.self.view_is; within = c.requires; read = c.index.ensures };
      again_is = record { shown = c.self.view_is; within = c.requires; read = c.index_mut.ensures.value };
      first = sym c.in_ok-key.ensures;
      left_is = c.drop_first.ensures;
      slots = c.unname.ensures.slots;
      room = c.unname.ensures.room;
    })

pub returns-clause-none : goal.returns-clause-none
returns-clause-none c = (
  λ no_way. absurd (true≢false no_way),
  λ empty. absurd
      (none-some (bytes_at c.self.inside.frames.slots c.in_ok-key.key)
      (sym (ap (λ (queue : List (List ℕ)). slice_get queue 0) empty)
      ∙ first_waits c.self.inside.ports.items c.self.inside.frames c.args.self.now c.args.port c.index.result.now c.in_ok-key.key
      (record { shown = c.self.view_is; within = c.requires; read = c.index.ensures }) (sym c.in_ok-key.ensures))),
)

pub returns-clause-count : goal.returns-clause-count
returns-clause-count c =
    ap Some c.read-count.ensures.count
    ∙ sym (ap (option_map length)
    (first_waits c.self.inside.ports.items c.self.inside.frames c.args.self.now c.args.port c.index.result.now c.in_ok-key.key
    (record { shown = c.self.view_is; within = c.requires; read = c.index.ensures }) (sym c.in_ok-key.ensures)))

pub returns-clause-bytes : goal.returns-clause-bytes
returns-clause-bytes c =
    c.read-count.ensures.bytes
    ∙ (ap (λ (n : ℕ). bytes_at c.self.inside.frames.slots c.in_ok-key.key ++ drop n c.args.buf.now) c.read-count.ensures.count
    ∙ sym (ap (λ (o : Option (List ℕ)). written_front o c.args.buf.now)
    (first_waits c.self.inside.ports.items c.self.inside.frames c.args.self.now c.args.port c.index.result.now c.in_ok-key.key
    (record { shown = c.self.view_is; within = c.requires; read = c.index.ensures }) (sym c.in_ok-key.ensures))))

pub returns-clause-leaves : goal.returns-clause-leaves
returns-clause-leaves c =
    shown_behind c.self.inside.ports.items c.self.inside.frames c.unname.new.self c.args.self.now c.args.port c.index.result.now c.index_mut.result.now c.drop_first.new.self
    c.in_ok-key.key c.self.invariant (record {
      is = record { shown = c.self.view_is; within = c.requires; read = c.index.ensures };
      again_is = record { shown = c.self.view_is; within = c.requires; read = c.index_mut.ensures.value };
      first = sym c.in_ok-key.ensures;
      left_is = c.drop_first.ensures;
      slots = c.unname.ensures.slots;
      room = c.unname.ensures.room;
    })
