use Rattle.std.proofs.Common.{rules, ◌≡◌, ℕ, List, length, ◌∙◌, ap}
use Rattle.std.proofs.lemmas.List.{take_at}
use Rattle.cookie_copy.specs.Moved.{moved_in}
use Rattle.lane_models.specs.Fetching.{data_cookies}
use Rattle.vnet_msg.specs.Frames.{frame_in}
use Rattle.port_frames.proofs.Frames.{frame_in_front}
use Rattle.port_frames.proofs.taken_frame.TakenFrame.copy.Goals as goal

pub returns-in-Ok-clause-copied : goal.returns-in-Ok-clause-copied
returns-in-Ok-clause-copied c =
    let long : length c.copy_front.new.moved ≡ c.self.inside.moved.len = search rules in
    ap (λ (xs : List ℕ). frame_in c.args.desc.now.size xs) (take_at c.copy_front.new.moved _ c.self.inside.moved.len long)
    ∙ frame_in_front c.args.desc.now.size c.moved_size.result c.copy_front.new.moved
    (moved_in c.args.table.now c.args.memory.now (data_cookies c.args.desc.now) 0 c.moved_size.result)
    c.moved_size.ensures.least c.in-Ok.ensures.copied
    ∙ ap (λ (n : ℕ). frame_in c.args.desc.now.size (moved_in c.args.table.now c.args.memory.now (data_cookies c.args.desc.now) 0 n)) c.moved_size.ensures.moved
